-- What the limits on a member say of the scope of its statements.
use Rattle.std.proofs.Common.{◌≡◌, ℕ, ◌+◌, ◌≤◌, List, [], ◌∷◌, ◌++◌, map, length, Option, Some, None, Bool, true, false, refl, sym, ap, ◌∙◌, subst, length-append, arith}
use Rattle.std.specs.Prelude.{IsTrue, nat_le, ◌&&◌, if◌then◌else◌}
use Rattle.std.specs.List.{list_all}
use Rattle.std.specs.Option.{option_map, option_map_or}
use Rattle.std.proofs.lemmas.Bool.Decides.{nat_tests}
use Rattle.std.proofs.lemmas.List.{length-map, length_push}
use Rattle.jp_pred.specs.declared.ty.Ty.TheVariants as ty
use Rattle.jp_pred.specs.Names.{Word}
use Rattle.iface_codec.specs.declared.iface.Iface.{Iface}
use Rattle.jp_ast.specs.declared.token.Place.{Place}
use Rattle.jp_ast.specs.declared.guard.GuardExpr.{GuardExpr}
use Rattle.jp_ast.specs.declared.guard.GuardKind.{GuardKind, GuardKind-F}
use Rattle.jp_ast.specs.declared.guard.GuardKind.TheOpen as g
use Rattle.jp_ast.specs.declared.guard.GuardKind.TheFolds.{ind-GuardExpr, fold-GuardKind, fold-roll-GuardExpr, fold-roll-GuardKind, map-GuardKind}
use Rattle.jp_ast.specs.declared.decl.Decl.{Decl}
use Rattle.jp_ast.specs.declared.decl.Member.{Member}
use Rattle.jp_meaning.specs.declared.guard.TypedPath.{TypedPath}
use Rattle.type_rules.specs.declared.guard_scope.GuardScope.{GuardScope}
use Rattle.type_rules.specs.declared.guard_scope.Alias.{Alias}
use Rattle.type_rules.specs.Heads.{names_class}
use Rattle.type_rules.specs.Names.{receiver_slots}
use Rattle.type_rules.specs.Nodes.{AtAtom, TestsClass}
use Rattle.type_rules.specs.Statements.{count}
use Rattle.type_rules.specs.Guards.{Guarded, unless_faulty, path_in, inner, with_aliases, alias_at, tested, behind_test, guarded_of, guarded}
use Rattle.type_rules.specs.Units.{opened, guard_part, block_part, is_static_part, params_of, guard_scope, aliases_of}
use Rattle.type_decl.specs.Limits.{alias_step, aliases_in, alias_count, most_at_once, slot_count, member_fits, decl_fits, HasRoom}
use Rattle.type_decl.specs.Parts.{seat_of, param_variable, alias_variable, scope_in}

-- A GUARD leaves as many aliases more as it is written with

abbrev Grows : (GuardScope → Guarded) → ℕ → Type 0
Grows f n = (c : GuardScope) → length (f c).after.aliases ≡ length c.aliases + n

kept_if : (b : Bool) (c d : GuardScope) → d.aliases ≡ c.aliases → (if b then d else c).aliases ≡ c.aliases
kept_if true c d e = e
kept_if false c d e = refl

narrow_keeps : (c : GuardScope) (o : Option TypedPath) (class : Word) → (option_map_or (λ (t : TypedPath). tested c t.path class) o c).aliases ≡ c.aliases
narrow_keeps c None class = refl
narrow_keeps c (Some t) class = kept_if (names_class c.heads class) c (record c { tests = c.tests ++ record { path = t.path; class = class } ∷ [] }) refl

none_more : (n : ℕ) → n ≡ n + 0
none_more n = omega arith

one_more : (names : List Alias) (a : Alias) (n : ℕ) → length names ≡ n → length (names ++ a ∷ []) ≡ n + 1
one_more names a n e = length_push names a ∙ ap (λ (k : ℕ). k + 1) e

two_more : (a b n k l : ℕ) → b ≡ a + k → n ≡ b + l → n ≡ a + (k + l)
two_more a b n k l e f = omega arith

test_grows : (c : GuardScope) (p : Place) (path : Option TypedPath) (class : Word) (alias : Option Word) →
    length (behind_test c p path class alias).aliases ≡ length c.aliases + option_map_or (λ (name : Word). 1) alias 0
test_grows c p path class None =
    ap (λ (names : List Alias). length names) (narrow_keeps c (unless_faulty p (AtAtom c (TestsClass path class None)) path) class) ∙ none_more (length c.aliases)
test_grows c p path class (Some name) =
    let o : Option TypedPath = unless_faulty p (AtAtom c (TestsClass path class (Some name))) path in
    one_more (option_map_or (λ (t : TypedPath). tested c t.path class) o c).aliases (alias_at path name (Some (ty.Class class))) (length c.aliases)
    (ap (λ (names : List Alias). length names) (narrow_keeps c o class))

abbrev kind_guarded : GuardKind → Place → GuardScope → Guarded
kind_guarded = fold-GuardKind (Place → GuardScope → Guarded) (GuardScope → Guarded) guarded_of (λ x. x.kind x.place)

abbrev kind_aliases : GuardKind → ℕ
kind_aliases = fold-GuardKind ℕ ℕ alias_step (λ x. x.kind)

abbrev SureKind : Type 0
SureKind = (k : GuardKind) × ((p : Place) → Grows (kind_guarded k p) (kind_aliases k))

abbrev Sure : Type 0
Sure = (x : GuardExpr) × Grows (guarded x) (aliases_in x)

abbrev step_at : GuardKind-F GuardKind GuardExpr → Place → GuardScope → Guarded
step_at z = guarded_of (map-GuardKind GuardKind GuardExpr (Place → GuardScope → Guarded) (GuardScope → Guarded) kind_guarded guarded z)

abbrev count_at : GuardKind-F GuardKind GuardExpr → ℕ
count_at z = alias_step (map-GuardKind GuardKind GuardExpr ℕ ℕ kind_aliases aliases_in z)

abbrev bare : GuardKind-F SureKind Sure → GuardKind-F GuardKind GuardExpr
bare y = map-GuardKind SureKind Sure GuardKind GuardExpr (λ k. k.0) (λ x. x.0) y

layer : (y : GuardKind-F SureKind Sure) (p : Place) → Grows (step_at (bare y) p) (count_at (bare y))
layer (g.Truth value) p c = none_more (length c.aliases)
layer (g.Not right) p c = right.1 (inner c)
layer (g.And left right) p c =
    two_more (length c.aliases) (length (guarded left.0 c).after.aliases) _ (aliases_in left.0) (aliases_in right.0) (left.1 c) (right.1 (guarded left.0 c).after)
layer (g.Or left right) p c =
    let d : GuardScope = with_aliases (inner c) (guarded left.0 (inner c)).after.aliases in
    two_more (length c.aliases) (length d.aliases) _ (aliases_in left.0) (aliases_in right.0) (left.1 (inner c)) (right.1 d)
layer (g.Is path class alias) p c = test_grows c p (path_in c false path) class alias
layer (g.Alias path name) p c = one_more c.aliases (alias_at (path_in c false path) name None) (length c.aliases) refl
layer (g.NullTest path equal) p c = none_more (length c.aliases)
layer (g.Flag path) p c = none_more (length c.aliases)
layer (g.Compare left n right) p c = none_more (length c.aliases)

moved_kind : (f h : Place → GuardScope → Guarded) (m n : ℕ) → f ≡ h → m ≡ n → ((p : Place) → Grows (h p) n) → (p : Place) → Grows (f p) m
moved_kind f h m n e k t = subst (λ (z : Place → GuardScope → Guarded). (p : Place) → Grows (z p) m) (sym e) (subst (λ (j : ℕ). (p : Place) → Grows (h p) j) (sym k) t)

moved : (f h : GuardScope → Guarded) (m n : ℕ) → f ≡ h → m ≡ n → Grows h n → Grows f m
moved f h m n e k t = subst (λ (z : GuardScope → Guarded). Grows z m) (sym e) (subst (λ (j : ℕ). Grows h j) (sym k) t)

guard_grows : (x : GuardExpr) → Grows (guarded x) (aliases_in x)
guard_grows = ind-GuardExpr (λ k. (p : Place) → Grows (kind_guarded k p) (kind_aliases k)) (λ x. Grows (guarded x) (aliases_in x))
    (λ x y is. moved_kind _ _ _ _ (fold-roll-GuardKind (Place → GuardScope → Guarded) (GuardScope → Guarded) guarded_of (λ x. x.kind x.place) x)
    (fold-roll-GuardKind ℕ ℕ alias_step (λ x. x.kind) x)
    (subst (λ (z : GuardKind-F GuardKind GuardExpr). (p : Place) → Grows (step_at z p) (count_at z)) is (layer y)))
    (λ x y is. moved _ _ _ _ (fold-roll-GuardExpr (Place → GuardScope → Guarded) (GuardScope → Guarded) guarded_of (λ x. x.kind x.place) x)
    (fold-roll-GuardExpr ℕ ℕ alias_step (λ x. x.kind) x)
    (subst (λ (z : g.GuardExpr-F GuardKind GuardExpr). Grows (kind_guarded z.kind z.place) (kind_aliases z.kind)) is (y.kind.1 y.place)))

-- THE SCOPE OF STATEMENTS

aliases_counted : (c : GuardScope) (o : Option GuardExpr) → c.aliases ≡ [] →
    length (option_map_or (λ (x : Guarded). x.after.aliases) (option_map (λ (f : GuardScope → Guarded). f c) (option_map guarded o)) []) ≡ option_map_or aliases_in o 0
aliases_counted c None e = refl
aliases_counted c (Some x) e =
    let h : length (guarded x c).after.aliases ≡ length c.aliases + aliases_in x = guard_grows x c in
    let k : length c.aliases ≡ 0 = ap (λ (names : List Alias). length names) e in
    omega arith

scope_counted : (heads : List Iface) (d : Decl) (m : Member) → count (scope_in heads d m) ≡ length m.params + alias_count m
unfolding scope_in
scope_counted heads d m =
    let names : List Alias = aliases_of (seat_of heads d) (opened m) in
    length-append (params_of m) (map alias_variable names)
    ∙ ((λ i. length-map m.params param_variable i + length-map names alias_variable i)
    ∙ ap (λ (k : ℕ). length m.params + k) (aliases_counted (guard_scope (seat_of heads d) m) (guard_part m.part) refl))

three_hold : (a b n : ℕ) → IsTrue (nat_le a 8 && nat_le b 8 && nat_le n 200) → (a ≤ 8) × (b ≤ 8) × (n ≤ 200)
three_hold a b n h = (grind (arith, nat_tests), grind (arith, nat_tests), grind (arith, nat_tests))

few_both : (n a b : ℕ) → n ≡ a + b → a ≤ 8 → b ≤ 8 → n ≤ 16
few_both n a b e h k = omega arith

pub has_room : (heads : List Iface) (d : Decl) (m : Member) → IsTrue (member_fits m) → HasRoom m (scope_in heads d m)
unfolding member_fits
has_room heads d m h =
    let t = three_hold (length m.params) (alias_count m) (slot_count m) h in
    let e = scope_counted heads d m in
    record {
      variables = few_both (count (scope_in heads d m)) (length m.params) (alias_count m) e t.0 t.1;
      slots = subst (λ (k : ℕ). receiver_slots (is_static_part m.part) + most_at_once k (block_part m.part) ≤ 200) (sym e) t.2;
    }

pub few_params : (m : Member) → IsTrue (member_fits m) → length m.params ≤ 8
unfolding member_fits
few_params m h = (three_hold (length m.params) (alias_count m) (slot_count m) h).0

pub guard_params : (heads : List Iface) (d : Decl) (m : Member) (c : GuardScope) → IsTrue (member_fits m) → c ≡ guard_scope (seat_of heads d) m → length c.params ≤ 255
guard_params heads d m c h e =
    let few : length m.params ≤ 8 = few_params m h in
    let same : length c.params ≡ length m.params = ap (λ (z : GuardScope). length z.params) e ∙ length-map m.params param_variable in
    omega arith

-- DECLARATIONS

two_hold : (a : ℕ) (b : Bool) → IsTrue (nat_le a 8000 && b) → (a ≤ 8000) × (b ≡ true)
two_hold a true h = (grind (arith, nat_tests), refl)
two_hold a false h = absurd (grind (arith, nat_tests))

pub members_fit : (d : Decl) → IsTrue (decl_fits d) → (length d.members ≤ 8000) × (list_all member_fits d.members ≡ true)
unfolding decl_fits
members_fit d h = two_hold (length d.members) (list_all member_fits d.members) h
