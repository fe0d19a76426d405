-- No place at which a unit lacks the form is that it is of the form.
use Rattle.std.proofs.Common.{◌≡◌, ◌↔◌, List, [], ◌∷◌, ◌++◌, map, Bool, true, false, not, ◌||◌, cond, Option, Some, None, refl, sym, ap, ◌∙◌}
use Rattle.std.specs.Prelude.{is_some}
use Rattle.std.specs.List.{filter, flat_map, list_any, list_all}
use Rattle.std.proofs.lemmas.Bool.{and_from, and_parts, not_from_false, not-true}
use Rattle.jp_ast.specs.declared.token.Place.{Place}
use Rattle.jp_ast.specs.declared.guard.GuardExpr.{GuardExpr}
use Rattle.jp_ast.specs.declared.decl.SourceUnit.{SourceUnit}
use Rattle.jp_ast.specs.declared.decl.Decl.{Decl}
use Rattle.jp_ast.specs.declared.decl.Member.{Member}
use Rattle.plain_form.specs.Places.{pick, earlier, first_place}
use Rattle.plain_form.specs.Families.{is_again, has_lone_bodies, repeats_of, repeats}
use Rattle.plain_form.specs.Forms.{guard_part, has_no_guard, IsPlain, place_of, guard_places, decl_lacks, lacks}

some_stays : (p : Place) (ps : List Place) → earlier (Some p) ps ≡ None → ⊥
some_stays p [] e = cc
some_stays p (q ∷ qs) e = some_stays (pick (Some p) q) qs e

none_from : (ps : List Place) → first_place ps ≡ None → ps ≡ []
none_from [] e = refl
none_from (p ∷ ps) e = absurd (some_stays p ps e)

parts_empty : {X : Type 0} (xs ys : List X) → xs ++ ys ≡ [] → (xs ≡ []) × (ys ≡ [])
parts_empty [] ys e = (refl, e)
parts_empty (x ∷ xs) ys e = absurd cc

-- LISTS

all_from_empty : {X Y : Type 0} (f : X → List Y) (test : X → Bool) → ((x : X) → f x ≡ [] → test x ≡ true) → (xs : List X) → flat_map f xs ≡ [] → list_all test xs ≡ true
all_from_empty f test h [] e = refl
all_from_empty f test h (x ∷ xs) e =
    let p = parts_empty (f x) (flat_map f xs) e in
    and_from (test x) (list_all test xs) (h x p.0) (all_from_empty f test h xs p.1)

empty_from_all : {X Y : Type 0} (f : X → List Y) (test : X → Bool) → ((x : X) → test x ≡ true → f x ≡ []) → (xs : List X) → list_all test xs ≡ true → flat_map f xs ≡ []
empty_from_all f test h [] e = refl
empty_from_all f test h (x ∷ xs) e =
    let p = and_parts (test x) (list_all test xs) e in
    ap (λ ys. ys ++ flat_map f xs) (h x p.0) ∙ empty_from_all f test h xs p.1

none_passes : {X Y : Type 0} (g : X → Y) (test : X → Bool) (xs : List X) → map g (filter test xs) ≡ [] → list_any test xs ≡ false
none_passes g test [] e = refl
none_passes g test (x ∷ xs) e = elim (test x) as (λ b. map g (cond b (x ∷ filter test xs) (filter test xs)) ≡ [] → (b || list_any test xs) ≡ false) [
  | true ↦ λ h. absurd cc
  | false ↦ λ h. none_passes g test xs h
] e

nothing_kept : {X Y : Type 0} (g : X → Y) (test : X → Bool) (xs : List X) → list_any test xs ≡ false → map g (filter test xs) ≡ []
nothing_kept g test [] e = refl
nothing_kept g test (x ∷ xs) e = elim (test x) as (λ b. (b || list_any test xs) ≡ false → map g (cond b (x ∷ filter test xs) (filter test xs)) ≡ []) [
  | true ↦ λ h. absurd cc
  | false ↦ λ h. nothing_kept g test xs h
] e

-- GUARDS

no_guard : (o : Option GuardExpr) → place_of o ≡ [] → not (is_some o) ≡ true
no_guard None e = refl
no_guard (Some g) e = absurd cc

no_place : (o : Option GuardExpr) → not (is_some o) ≡ true → place_of o ≡ []
no_place None e = refl
no_place (Some g) e = absurd cc

guards_gone : (ms : List Member) → flat_map (λ m. guard_places m.part) ms ≡ [] → list_all has_no_guard ms ≡ true
guards_gone = all_from_empty (λ m. guard_places m.part) has_no_guard (λ m. no_guard (guard_part m.part))

no_guard_places : (ms : List Member) → list_all has_no_guard ms ≡ true → flat_map (λ m. guard_places m.part) ms ≡ []
no_guard_places = empty_from_all (λ m. guard_places m.part) has_no_guard (λ m. no_place (guard_part m.part))

-- FAMILIES

lone : (ms : List Member) → repeats ms ≡ [] → has_lone_bodies ms ≡ true
lone [] e = refl
lone (m ∷ ms) e =
    let p = parts_empty (repeats_of m ms) (repeats ms) e in
    and_from (not (list_any (is_again m) ms)) (has_lone_bodies ms) (not_from_false (list_any (is_again m) ms) (none_passes (λ n. n.place) (is_again m) ms p.0)) (lone ms p.1)

no_repeats : (ms : List Member) → has_lone_bodies ms ≡ true → repeats ms ≡ []
no_repeats [] e = refl
no_repeats (m ∷ ms) e =
    let p = and_parts (not (list_any (is_again m) ms)) (has_lone_bodies ms) e in
    ap (λ ps. ps ++ repeats ms) (nothing_kept (λ n. n.place) (is_again m) ms (not-true (list_any (is_again m) ms) p.0)) ∙ no_repeats ms p.1

-- UNITS

is_plain : (unit : SourceUnit) → lacks unit ≡ [] → IsPlain unit
is_plain unit e = record {
  no_guards = all_from_empty decl_lacks (λ d. list_all has_no_guard d.members) (λ d h. guards_gone d.members (parts_empty (flat_map (λ m. guard_places m.part) d.members) (repeats d.members) h).0) unit.decls e;
  lone_bodies = all_from_empty decl_lacks (λ d. has_lone_bodies d.members) (λ d h. lone d.members (parts_empty (flat_map (λ m. guard_places m.part) d.members) (repeats d.members) h).1) unit.decls e;
}

lacks_nothing : (ds : List Decl) → list_all (λ d. list_all has_no_guard d.members) ds ≡ true → list_all (λ d. has_lone_bodies d.members) ds ≡ true → flat_map decl_lacks ds ≡ []
lacks_nothing [] e f = refl
lacks_nothing (d ∷ ds) e f =
    let p = and_parts (list_all has_no_guard d.members) (list_all (λ d. list_all has_no_guard d.members) ds) e in
    let q = and_parts (has_lone_bodies d.members) (list_all (λ d. has_lone_bodies d.members) ds) f in
    ap (λ ps. (ps ++ repeats d.members) ++ flat_map decl_lacks ds) (no_guard_places d.members p.0)
    ∙ (ap (λ ps. ps ++ flat_map decl_lacks ds) (no_repeats d.members q.0) ∙ lacks_nothing ds p.1 q.1)

pub plain_both_ways : (unit : SourceUnit) (r : Option Place) → r ≡ first_place (lacks unit) → (r ≡ None) ↔ IsPlain unit
plain_both_ways unit r e = (λ h. is_plain unit (none_from (lacks unit) (sym e ∙ h)), λ p. e ∙ ap first_place (lacks_nothing unit.decls p.no_guards p.lone_bodies))
