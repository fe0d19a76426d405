-- Within the limits told to users no member has more than 1,200 written nodes.
use Rattle.std.proofs.Common.{◌≡◌, ℕ, ◌+◌, ◌≤◌, Bool, true, false, cond, List, [], ◌∷◌, ◌++◌, length, Option, Some, None, refl, sym, subst, ◌∙◌}
use Rattle.std.specs.Prelude.{nat_le, ◌&&◌}
use Rattle.std.specs.List.{find, flat_map, list_all, sum_by}
use Rattle.std.specs.Option.{option_map, option_map_or, option_or}
use Rattle.std.proofs.lemmas.Bool.{le-leb, ltb-false}
use Rattle.jp_ast.specs.declared.decl.SourceUnit.{SourceUnit}
use Rattle.jp_ast.specs.declared.decl.Decl.{Decl}
use Rattle.jp_ast.specs.declared.decl.Member.{Member}
use Rattle.jp_ast.specs.declared.decl.MemberPart.{MemberPart}
use Rattle.jp_ast.specs.declared.decl.MemberPart.TheVariants as part
use Rattle.jp_ast.specs.Counts.{expr_nodes, body_nodes}
use Rattle.type_rules.specs.Units as seen
use Rattle.unit_limits.specs.declared.limits.TooLarge.{TooLarge}
use Rattle.unit_limits.specs.declared.limits.Limit.TheVariants as limits
use Rattle.unit_limits.specs.Counting.{Count, counted, is_over, told, first_told}
use Rattle.unit_limits.specs.Members as limited
use Rattle.unit_limits.proofs.Firsts.{told_append}
use Rattle.node_laws.specs.Written.{written_nodes, has_at_most}
use Rattle.node_laws.proofs.SeenNodes.{none_is}

and_so : (a b : Bool) → a ≡ true → b ≡ true → (a && b) ≡ true
and_so true b e f = f
and_so false b e f = e

-- COUNTS

abbrev Within : List Count → Type 0
Within cs = first_told cs ≡ None

neither : (a b : Option TooLarge) → option_or a b ≡ None → (a ≡ None) × (b ≡ None)
neither None b e = (refl, e)
neither (Some t) b e = none_is t (sym e)

both_within : (xs ys : List Count) → Within (xs ++ ys) → Within xs × Within ys
both_within xs ys e = neither (first_told xs) (first_told ys) (sym (told_append xs ys) ∙ e)

one_within : (b : Bool) (c : Count) (cs : List Count) → option_map told (cond b (Some c) (find is_over cs)) ≡ None → (b ≡ false) × Within cs
one_within true c cs e = none_is (told c) (sym e)
one_within false c cs e = (refl, e)

first_within : (c : Count) (cs : List Count) → Within (c ∷ cs) → (is_over c ≡ false) × Within cs
first_within c cs e = one_within (is_over c) c cs e

each_within : {X : Type 0} (f : X → List Count) (p : X → Bool) → ((x : X) → Within (f x) → p x ≡ true) → (xs : List X) → Within (flat_map f xs) → list_all p xs ≡ true
each_within f p h [] e = refl
each_within f p h (x ∷ xs) e =
    let k = both_within (f x) (flat_map f xs) e in
    and_so (p x) (list_all p xs) (h x k.0) (each_within f p h xs k.1)

-- NODES

-- the nodes that are held to a limit are those that are resolved
same_nodes : (q : MemberPart) → limited.written_nodes q ≡ option_map_or (sum_by expr_nodes) (seen.super_part q) 0 + body_nodes (seen.block_part q)
same_nodes (part.Field t static) = refl
same_nodes (part.Static result block) = refl
same_nodes (part.Abstract result) = refl
same_nodes (part.Body result guard block) = refl
same_nodes (part.Constructor args block) = refl

member_few : (m : Member) → Within (limited.member_counts m) → nat_le (written_nodes m) 1200 ≡ true
member_few m e =
    let nodes = counted limits.BodyNodes (limited.written_nodes m.part) ∷ [] in
    let locals = counted limits.Locals (limited.locals m) ∷ nodes in
    let aliases = counted limits.Aliases (limited.aliases m.part) ∷ locals in
    let a = both_within (limited.texts m.part) (counted limits.Parameters (length m.params) ∷ aliases) e in
    let b = first_within (counted limits.Parameters (length m.params)) aliases a.1 in
    let c = first_within (counted limits.Aliases (limited.aliases m.part)) locals b.1 in
    let d = first_within (counted limits.Locals (limited.locals m)) nodes c.1 in
    let h = first_within (counted limits.BodyNodes (limited.written_nodes m.part)) [] d.1 in
    le-leb (written_nodes m) 1200 (subst (λ (n : ℕ). n ≤ 1200) (same_nodes m.part) (ltb-false 1200 (limited.written_nodes m.part) h.0))

decl_few : (d : Decl) → Within (limited.decl_counts d) → has_at_most 1200 d ≡ true
decl_few d e = each_within limited.member_counts (λ m. nat_le (written_nodes m) 1200) member_few d.members (both_within (flat_map limited.member_counts d.members) _ e).0

pub few_written : (unit : SourceUnit) → limited.first_over unit ≡ None → list_all (has_at_most 1200) unit.decls ≡ true
few_written unit e = each_within limited.decl_counts (has_at_most 1200) decl_few unit.decls e
