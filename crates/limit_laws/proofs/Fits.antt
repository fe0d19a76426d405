-- A unit within the limits can be typed.
use Rattle.std.proofs.Common.{◌≡◌, ℕ, ◌+◌, ◌≤◌, Bool, true, List, [], ◌∷◌, map, length, Option, Some, None, refl, ap, subst, arith}
use Rattle.std.specs.Prelude.{◌&&◌, nat_le}
use Rattle.std.specs.List.{list_all, sum_by}
use Rattle.std.specs.Option.{option_map_or}
use Rattle.std.proofs.lemmas.Bool.{le-leb}
use Rattle.std.proofs.lemmas.List.{length-replicate}
use Rattle.jp_pred.specs.Names.{In, here, there}
use Rattle.jp_pred.proofs.Entries.{and_true}
use Rattle.jp_ast.specs.declared.stmt.Stmt.{Stmt}
use Rattle.jp_ast.specs.declared.guard.GuardExpr.{GuardExpr, fold-GuardExpr}
use Rattle.jp_ast.specs.declared.guard.GuardKind.{GuardKind-F}
use Rattle.jp_ast.specs.declared.guard.GuardKind.TheOpen as g
use Rattle.jp_ast.specs.declared.decl.Decl.{Decl}
use Rattle.jp_ast.specs.declared.decl.Member.{Member}
use Rattle.jp_ast.specs.declared.decl.MemberPart.{MemberPart}
use Rattle.jp_ast.specs.declared.decl.MemberPart.TheVariants as part
use Rattle.jp_ast.specs.Counts.{of_option}
use Rattle.type_rules.specs.Names.{receiver_slots}
use Rattle.type_rules.specs.Statements.{most_along, flow}
use Rattle.type_rules.specs.Units as rules
use Rattle.type_decl.specs.Limits.{alias_step, aliases_in, alias_count, blank, most_at_once, slot_count, member_fits, decl_fits}
use Rattle.unit_limits.specs.Aliases as limits
use Rattle.unit_limits.specs.Locals.{stmt_locals}
use Rattle.unit_limits.specs.Members.{receivers, aliases, block_part}
use Rattle.limit_laws.specs.Laws.{WithinIsFit}
use Rattle.limit_laws.proofs.AtOnce.{most_within}
use Rattle.limit_laws.proofs.Counts.{IsWithin, member_within, members_within}

pub all_from : {X : Type 0} (f : X → Bool) (xs : List X) → ((x : X) → In x xs → f x ≡ true) → list_all f xs ≡ true
all_from f [] h = refl
all_from f (x ∷ xs) h = and_true (f x) (list_all f xs) (h x here) (all_from f xs (λ y i. h y (there i)))

-- ALIASES are counted alike

steps_alike : (y : GuardKind-F ℕ ℕ) → alias_step y ≡ limits.alias_step y
steps_alike (g.Truth value) = refl
steps_alike (g.Not right) = refl
steps_alike (g.And left right) = refl
steps_alike (g.Or left right) = refl
steps_alike (g.Is path class None) = refl
steps_alike (g.Is path class (Some name)) = refl
steps_alike (g.Alias path name) = refl
steps_alike (g.NullTest path equal) = refl
steps_alike (g.Flag path) = refl
steps_alike (g.Compare left n right) = refl

guards_alike : (x : GuardExpr) → aliases_in x ≡ limits.guard_aliases x
guards_alike x = let e : alias_step ≡ limits.alias_step = λ i y. steps_alike y i in ap (λ (step : GuardKind-F ℕ ℕ → ℕ). fold-GuardExpr ℕ ℕ step (λ x. x.kind) x) e

options_alike : (o : Option GuardExpr) → option_map_or aliases_in o 0 ≡ of_option limits.guard_aliases o
options_alike None = refl
options_alike (Some x) = guards_alike x

parts_alike : (p : MemberPart) → option_map_or aliases_in (rules.guard_part p) 0 ≡ aliases p
parts_alike (part.Field t static) = refl
parts_alike (part.Static result block) = refl
parts_alike (part.Abstract result) = refl
parts_alike (part.Body result guard block) = options_alike guard
parts_alike (part.Constructor args block) = refl

-- SLOTS

at_once : (n : ℕ) (block : List Stmt) → most_at_once n block ≤ n + sum_by stmt_locals block
unfolding most_at_once
at_once n block = subst (λ (k : ℕ). most_along k (map flow block) (blank n) ≤ k + sum_by stmt_locals block) (length-replicate n _) (most_within block (blank n))

slots_few : (p : MemberPart) (params found : ℕ) → params ≤ 8 → found ≡ aliases p → receivers p + params + aliases p + sum_by stmt_locals (block_part p) ≤ 200 →
    receiver_slots (rules.is_static_part p) + most_at_once (params + found) (rules.block_part p) ≤ 200
slots_few (part.Field t static) params found few e h = let a = at_once (params + found) [] in omega arith
slots_few (part.Static result block) params found few e h = let a = at_once (params + found) block in omega arith
slots_few (part.Abstract result) params found few e h = let a = at_once (params + found) [] in omega arith
slots_few (part.Body result guard block) params found few e h = let a = at_once (params + found) block in omega arith
slots_few (part.Constructor args block) params found few e h = let a = at_once (params + found) block in omega arith

-- MEMBERS AND DECLARATIONS

three_true : (a b n : ℕ) → a ≤ 8 → b ≤ 8 → n ≤ 200 → (nat_le a 8 && nat_le b 8 && nat_le n 200) ≡ true
three_true a b n h k l = and_true (nat_le a 8 && nat_le b 8) (nat_le n 200) (and_true (nat_le a 8) (nat_le b 8) (le-leb a 8 h) (le-leb b 8 k)) (le-leb n 200 l)

fits_member : (m : Member) → IsWithin m → member_fits m ≡ true
unfolding member_fits
fits_member m w =
    let e : alias_count m ≡ aliases m.part = parts_alike m.part in
    let few : slot_count m ≤ 200 = slots_few m.part (length m.params) (alias_count m) w.params e w.locals in
    let named : alias_count m ≤ 8 = (let a = w.aliases in omega arith) in
    three_true (length m.params) (alias_count m) (slot_count m) w.params named few

fits_decl : (d : Decl) → length d.members ≤ 8000 → ((m : Member) → In m d.members → IsWithin m) → decl_fits d ≡ true
unfolding decl_fits
fits_decl d few w = and_true (nat_le (length d.members) 8000) (list_all member_fits d.members) (le-leb (length d.members) 8000 few) (all_from member_fits d.members (λ m i. fits_member m (w m i)))

pub fits : WithinIsFit
fits unit within = all_from decl_fits unit.decls (λ d i. fits_decl d (members_within unit within d i) (λ m j. member_within unit within d m i j))
