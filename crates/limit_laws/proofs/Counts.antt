-- What is within its limit in a unit of which no count passes its limit.
use Rattle.std.proofs.Common.{◌≡◌, ◌+◌, ◌≤◌, Bool, true, false, cond, List, [], ◌∷◌, length, Some, None, refl, sym, ap, subst, inl, inr, arith}
use Rattle.std.specs.Prelude.{is_some}
use Rattle.std.specs.List.{find, flat_map, sum_by}
use Rattle.std.specs.Option.{option_map}
use Rattle.std.proofs.lemmas.Bool.{false≢true, ltb-false}
use Rattle.std.proofs.lemmas.List.Sums.{sum_by-cons}
use Rattle.jp_pred.specs.Names.{In, here, there}
use Rattle.jp_pred.proofs.Entries.{in_left, split_in}
use Rattle.jp_pred.proofs.Visits.{in_right}
use Rattle.jp_ast.specs.declared.decl.SourceUnit.{SourceUnit}
use Rattle.jp_ast.specs.declared.decl.Decl.{Decl}
use Rattle.jp_ast.specs.declared.decl.Member.{Member}
use Rattle.unit_limits.specs.declared.limits.Limit.TheVariants as limits
use Rattle.unit_limits.specs.Counting.{Count, counted, most, is_over, told, first_told}
use Rattle.unit_limits.specs.Members.{aliases, locals, member_nodes, texts, member_counts, decl_counts, counts_of, first_over}

all_within : (counts : List Count) → first_told counts ≡ None → (c : Count) → In c counts → c.number ≤ most c.limit
all_within [] e c i = elim i [ ]
all_within (x ∷ xs) e c i = by_over (is_over x) refl e (λ f j. all_within xs f c j) where
  by_over : (b : Bool) → is_over x ≡ b → option_map told (cond b (Some x) (find is_over xs)) ≡ None → (first_told xs ≡ None → In c xs → c.number ≤ most c.limit) → c.number ≤ most c.limit
  by_over true f e later = absurd (false≢true (sym (ap is_some e)))
  by_over false f e later = elim (split_in x c xs i) [
    | inl q ↦ subst (λ (z : Count). z.number ≤ most z.limit) q (ltb-false (most x.limit) x.number f)
    | inr j ↦ later e j
  ]

in_flat_to : {X Y : Type 0} (f : X → List Y) (y : Y) {x : X} {xs : List X} → In x xs → In y (f x) → In y (flat_map f xs)
in_flat_to f y (here {x} {xs}) i = in_left (flat_map f xs) i
in_flat_to f y (there {x} {y = z} {xs} j) i = in_right (f z) (in_flat_to f y j i)

-- MEMBERS

-- a member within its limits
pub record IsWithin (m : Member) : Type 0 where
  pub params : length m.params ≤ 8
  pub aliases : aliases m.part ≤ 8
  pub locals : locals m ≤ 200

module _ (unit : SourceUnit) (within : first_over unit ≡ None) where
  of_decl : (d : Decl) → In d unit.decls → (c : Count) → In c (decl_counts d) → c.number ≤ most c.limit
  of_decl d i c j = all_within (counts_of unit) within c (in_flat_to decl_counts c i j)

  of_member : (d : Decl) (m : Member) → In d unit.decls → In m d.members → (c : Count) → In c (member_counts m) → c.number ≤ most c.limit
  of_member d m i j c k = of_decl d i c (in_left (counted limits.ClassNodes (sum_by member_nodes d.members) ∷ []) (in_flat_to member_counts c j k))

  pub member_within : (d : Decl) (m : Member) → In d unit.decls → In m d.members → IsWithin m
  member_within d m i j = record {
    params = of_member d m i j (counted limits.Parameters (length m.params)) (in_right (texts m.part) here);
    aliases = of_member d m i j (counted limits.Aliases (aliases m.part)) (in_right (texts m.part) (there here));
    locals = of_member d m i j (counted limits.Locals (locals m)) (in_right (texts m.part) (there (there here)));
  }

  -- DECLARATIONS

  -- a member is a node
  nodes_enough : (ms : List Member) → length ms ≤ sum_by member_nodes ms
  nodes_enough [] = omega arith
  nodes_enough (m ∷ ms) =
      let e : sum_by member_nodes (m ∷ ms) ≡ member_nodes m + sum_by member_nodes ms = sum_by-cons member_nodes m ms in
      let h = nodes_enough ms in omega arith

  pub members_within : (d : Decl) → In d unit.decls → length d.members ≤ 8000
  members_within d i =
      let few : sum_by member_nodes d.members ≤ 8000 = of_decl d i (counted limits.ClassNodes (sum_by member_nodes d.members)) (in_right (flat_map member_counts d.members) here) in
      let h = nodes_enough d.members in omega arith
