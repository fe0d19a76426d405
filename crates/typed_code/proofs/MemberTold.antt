-- A member without a fault is encodable, where it has few enough locals and methods have few parameters.
use Rattle.std.proofs.Common.{◌≡◌, ◌⊎◌, ℕ, ◌+◌, ◌≤◌, Bool, true, false, List, [], ◌∷◌, map, length, Option, Some, None, refl, sym, ap, ◌∙◌, subst, inl, inr, arith, length-append}
use Rattle.std.specs.Prelude.{◌&&◌, not, nat_le, cond, if◌then◌else◌, is_some, slice_get}
use Rattle.std.specs.List.{list_any, list_all, filter_map}
use Rattle.std.specs.Option.{option_map, option_map_or}
use Rattle.std.proofs.lemmas.Bool.{false≢true, lt-ltb, le-leb}
use Rattle.std.proofs.lemmas.List.{length-map}
use Rattle.jp_pred.specs.declared.ty.Ty.{Ty}
use Rattle.jp_pred.specs.declared.path.Path.{Path}
use Rattle.iface_codec.specs.declared.iface.Iface.{Iface}
use Rattle.iface_codec.specs.declared.iface.IfaceMethod.{IfaceMethod}
use Rattle.iface_codec.specs.declared.iface.MethodKind.TheVariants as kind
use Rattle.jp_ast.specs.declared.expr.Expr.{Expr}
use Rattle.jp_ast.specs.declared.stmt.Stmt.{Stmt}
use Rattle.jp_ast.specs.declared.guard.GuardExpr.{GuardExpr}
use Rattle.jp_ast.specs.declared.decl.Param.{Param}
use Rattle.jp_ast.specs.declared.decl.Member.{Member}
use Rattle.jp_ast.specs.declared.decl.MemberPart.{MemberPart}
use Rattle.jp_ast.specs.declared.decl.MemberPart.TheVariants as part
use Rattle.jp_meaning.specs.declared.expr.TypedExpr.{TypedExpr}
use Rattle.jp_meaning.specs.declared.stmt.TypedStmt.{TypedStmt}
use Rattle.jp_meaning.specs.declared.unit.TypedMember.{TypedMember}
use Rattle.jp_meaning.specs.declared.unit.TypedPart.{TypedPart}
use Rattle.jp_meaning.specs.declared.unit.TypedPart.TheVariants as typed
use Rattle.jp_meaning.specs.Classes.{is_static}
use Rattle.type_rules.specs.declared.scope.Scope.{Scope}
use Rattle.type_rules.specs.declared.scope.Variable.{Variable}
use Rattle.type_rules.specs.declared.seen.Role.TheVariants as role
use Rattle.type_rules.specs.declared.guard_scope.Alias.{Alias}
use Rattle.type_rules.specs.Heads.{field_part, constructor_part, method_part, as_field, as_constructor, as_method, as_method_with, static_kind, param_types, method}
use Rattle.type_rules.specs.Names.{receiver_slots}
use Rattle.type_rules.specs.Expressions.{seen_all, arguments}
use Rattle.type_rules.specs.Statements.{waiting, operand, flow, count, most_along, made_along}
use Rattle.type_rules.specs.Guards.{guarded}
use Rattle.type_rules.specs.Units.{Seat, guard_part, super_part, block_part, opened, is_static_part, params_of, guard_scope, body_scope, aliases_of, super_parts, place_in, slots_of, made_guard, guard_of, member_from, made_member, entry_of}
use Rattle.gen_body.specs.Members.{given_to}
use Rattle.code_fits.specs.Encodable.{is_in_reach, is_encodable, stmt_is_encodable, jumps_out, or_so, has_room, start_is_encodable, member_is_encodable}
use Rattle.typed_code.proofs.Making.{OnMade, any_then, so_then, so_map}
use Rattle.typed_code.proofs.JumpsInLoops.{AllStay, so_in, block_stays}
use Rattle.typed_code.proofs.SeenTold.{and_so, AreFew, AllTold, IsRoomy, arguments_told, part_told}
use Rattle.typed_code.proofs.FlowTold.{AllGood, most_grows, block_made}
use Rattle.typed_code.proofs.GuardRoots.{AllNear, guard_near}

both_made : {A : Type 0} (P Q : A → Type 0) (o : Option A) → OnMade P o → OnMade Q o → OnMade (λ x. P x × Q x) o
both_made P Q None h k = tt
both_made P Q (Some x) h k = (h, k)

if_made : {A : Type 0} (L : Type 0) (P : A → Type 0) (o : Option A) → (L → OnMade P o) → OnMade (λ x. L → P x) o
if_made L P None h = tt
if_made L P (Some x) h = h

from_equation : {A : Type 0} (P : A → Type 0) (o : Option A) → ((x : A) → o ≡ Some x → P x) → OnMade P o
from_equation P None h = tt
from_equation P (Some x) h = h x refl

abbrev place_by : List Member → Member → MemberPart → TypedPart
place_by earlier m q =
    if is_some (field_part m q) then typed.Field (length (filter_map as_field earlier))
    else if is_some (constructor_part m q) then typed.Constructor (length (filter_map as_constructor earlier))
    else typed.Method (length (filter_map as_method earlier))

-- nothing is evaluated in the member
abbrev IsSilent : MemberPart → Type 0
IsSilent q = (block_part q ≡ []) × (super_part q ≡ None)

private_too : (b : Bool) → is_static (static_kind b) ≡ true
private_too true = refl
private_too false = refl

-- the roots of aliases can be told
near_roots : (n : ℕ) (all : List Alias) → AllNear n all → n + 1 ≤ 256 → list_all (λ (alias : Path × Ty). is_in_reach alias.0.root) (map (λ a. (a.path, a.ty)) all) ≡ true
near_roots n [] h le = refl
near_roots n (a ∷ more) h le = let near = h.0 in and_so (is_in_reach a.path.root) (list_all (λ (alias : Path × Ty). is_in_reach alias.0.root) (map (λ a. (a.path, a.ty)) more)) (lt-ltb a.path.root 256 (omega (arith, near, le))) (near_roots n more h.1 le)

module _ (head : Iface) (seat : Seat) (m : Member) (few : AreFew seat.heads) (there : (k : IfaceMethod) → as_method_with (entry_of seat (opened m)) m ≡ Some k → slice_get head.methods (length (filter_map as_method seat.earlier)) ≡ Some k) where
  abbrev scope : Scope
  scope = body_scope seat (opened m)

  -- the most variables that are in scope at once, and the receiver
  abbrev most : ℕ
  most = receiver_slots (is_static_part m.part) + most_along (count scope) (map flow (block_part m.part)) scope

  abbrev aliases : List Alias
  aliases = aliases_of seat (opened m)

  abbrev Few : Type 0
  Few = slots_of seat (opened m) ≤ 256

  -- LOCALS

  -- of a member that is no field they are as many as ever are in scope
  most_few : (q : MemberPart) → m.part ≡ q → is_some (field_part m q) ≡ false → Few → most ≤ 256
  most_few q e f h =
      let s : slots_of seat (opened m) ≡ most = ap (λ (q : MemberPart). if is_some (field_part m q) then 0 else most) e ∙ ap (λ (b : Bool). if b then 0 else most) f in
      subst (λ (n : ℕ). n ≤ 256) s h

  grown : (q : MemberPart) → m.part ≡ q → Few → IsSilent q ⊎ (most ≤ 256)
  grown (part.Field t static) e h = inl (refl, refl)
  grown (part.Static result block) e h = inr (most_few (part.Static result block) e refl h)
  grown (part.Abstract result) e h = inr (most_few (part.Abstract result) e refl h)
  grown (part.Body result guard block) e h = inr (most_few (part.Body result guard block) e refl h)
  grown (part.Constructor args block) e h = inr (most_few (part.Constructor args block) e refl h)

  same_length : length (params_of m) ≡ length m.params
  same_length = length-map m.params (λ (p : Param). let v : Variable = record { name = p.name; ty = p.ty } in v)

  counted : count scope ≡ length m.params + length aliases
  counted =
      let vs : List Variable = map (λ (a : Alias). let v : Variable = record { name = a.name; ty = a.ty } in v) aliases in
      let a : count scope ≡ length (params_of m) + length vs = length-append (params_of m) vs in
      let c : length vs ≡ length aliases = length-map aliases (λ (a : Alias). let v : Variable = record { name = a.name; ty = a.ty } in v) in
      omega (arith, a, same_length, c)

  -- the parameters and aliases are among the variables
  enough : most ≤ 256 → receiver_slots (is_static_part m.part) + (length m.params + length aliases) ≤ 256
  enough h = let grows = most_grows (count scope) (map flow (block_part m.part)) scope in omega (arith, counted, grows, h)

  roomy : most ≤ 256 → IsRoomy scope
  roomy h = let grows = most_grows (count scope) (map flow (block_part m.part)) scope in omega (arith, grows, h)

  -- ALIASES

  roots : AllNear (length m.params) aliases
  roots = by_guard (guard_part m.part) where
    by_guard : (o : Option GuardExpr) → AllNear (length m.params) (option_map_or (λ x. x.after.aliases) (option_map (λ g. g (guard_scope seat m)) (option_map guarded o)) [])
    by_guard None = tt
    by_guard (Some x) = (guard_near (length m.params) x (guard_scope seat m) (record { params = omega (arith, same_length); aliases = tt })).aliases

  types : length (param_types m) ≡ length m.params
  types = length-map m.params (λ (p : Param). p.ty)

  entries : length (entry_of seat (opened m)) ≡ length aliases
  entries = length-map aliases (λ (a : Alias). let x : Path × Ty = (a.path, a.ty) in x)

  -- START

  with_room : (k : IfaceMethod) → list_all (λ (alias : Path × Ty). is_in_reach alias.0.root) k.aliases ≡ true → given_to k + length k.aliases ≤ 256 → has_room k ≡ true
  with_room k h le = and_so (list_all (λ (alias : Path × Ty). is_in_reach alias.0.root) k.aliases) (nat_le (given_to k + length k.aliases) 256) h (le-leb (given_to k + length k.aliases) 256 le)

  stands : (q : MemberPart) (k : IfaceMethod) → m.part ≡ q → method_part (entry_of seat (opened m)) m q ≡ Some k → has_room k ≡ true → or_so has_room (slice_get head.methods (length (filter_map as_method seat.earlier))) ≡ true
  stands q k e f h = ap (or_so has_room) (there k (ap (method_part (entry_of seat (opened m)) m) e ∙ f)) ∙ h

  slots_by : (q : MemberPart) → m.part ≡ q → receiver_slots (is_static_part m.part) ≡ receiver_slots (is_static_part q)
  slots_by q e = ap (λ (q : MemberPart). receiver_slots (is_static_part q)) e

  start_by : (q : MemberPart) → m.part ≡ q → Few → start_is_encodable head (place_by seat.earlier m q) ≡ true
  start_by (part.Field t static) e h = refl
  start_by (part.Constructor args block) e h = refl
  start_by (part.Static result block) e h =
      let k = method m.name (static_kind m.is_private) (param_types m) result [] in
      let own = enough (most_few (part.Static result block) e refl h) in
      let none = slots_by (part.Static result block) e in
      let given : given_to k ≡ length (param_types m) = ap (λ (b : Bool). cond b (length (param_types m)) (1 + length (param_types m))) (private_too m.is_private) in
      stands (part.Static result block) k e refl (with_room k refl (omega (arith, own, none, given, types)))
  start_by (part.Abstract result) e h =
      let k = method m.name kind.Abstract (param_types m) result [] in
      let own = enough (most_few (part.Abstract result) e refl h) in
      let one = slots_by (part.Abstract result) e in
      stands (part.Abstract result) k e refl (with_room k refl (omega (arith, own, one, types)))
  start_by (part.Body result guard block) e h =
      let k = method m.name kind.Body (param_types m) result (entry_of seat (opened m)) in
      let own = enough (most_few (part.Body result guard block) e refl h) in
      let one = slots_by (part.Body result guard block) e in
      stands (part.Body result guard block) k e refl (with_room k (near_roots (length m.params) aliases roots (omega (arith, own, one))) (omega (arith, own, one, types, entries)))

  start_told : Few → start_is_encodable head (place_in seat.earlier m) ≡ true
  start_told h = start_by m.part refl h

  -- ARGUMENTS AND STATEMENTS

  all_operands : IsRoomy scope → (xs : List Expr) → AllTold (seen_all (map (operand scope) (map waiting xs)))
  all_operands room [] = tt
  all_operands room (x ∷ xs) = (part_told scope few room x role.Operand, all_operands room xs)

  parts_told : IsSilent m.part ⊎ (most ≤ 256) → (o : Option (List Expr)) → super_part m.part ≡ o → AllTold (option_map_or seen_all (option_map (map (operand scope)) (option_map (map waiting) o)) [])
  parts_told s None e = tt
  parts_told (inl s) (Some xs) e = absurd (false≢true (ap is_some (sym s.1 ∙ e)))
  parts_told (inr h) (Some xs) e = all_operands (roomy h) xs

  args_told : OnMade (λ (ts : List TypedExpr). Few → list_all is_encodable ts ≡ true) (arguments (Some []) (option_map_or seen_all (super_parts seat (opened m)) []))
  args_told = from_equation (λ (ts : List TypedExpr). Few → list_all is_encodable ts ≡ true) (arguments (Some []) (option_map_or seen_all (super_parts seat (opened m)) []))
      (λ ts e h. arguments_told (option_map_or seen_all (super_parts seat (opened m)) []) [] ts (parts_told (grown m.part refl h) (super_part m.part) refl) refl e)

  block_by : (q : MemberPart) → m.part ≡ q → IsSilent m.part ⊎ (most ≤ 256) → OnMade AllGood (made_along (Some []) (map flow (block_part m.part)) scope)
  block_by q e (inl s) = subst (λ (xs : List Stmt). OnMade AllGood (made_along (Some []) (map flow xs) scope)) (sym s.0) refl
  block_by q e (inr h) = block_made (block_part m.part) scope few h

  block_told : OnMade (λ (ts : List TypedStmt). (Few → AllGood ts) × AllStay false ts) (made_along (Some []) (map flow (block_part m.part)) scope)
  block_told = both_made (λ (ts : List TypedStmt). Few → AllGood ts) (AllStay false) (made_along (Some []) (map flow (block_part m.part)) scope)
      (if_made Few AllGood (made_along (Some []) (map flow (block_part m.part)) scope) (λ h. block_by m.part refl (grown m.part refl h))) (block_stays (block_part m.part) scope refl)

  pub member_told : OnMade (λ (t : TypedMember). t.locals ≤ 256 → member_is_encodable head t ≡ true) (made_member seat (opened m))
  member_told =
      let P : TypedMember → Type 0 = λ t. t.locals ≤ 256 → member_is_encodable head t ≡ true in
      any_then _ P (made_guard (guard_of seat (opened m))) (λ guard.
      so_then _ P (λ (ts : List TypedExpr). Few → list_all is_encodable ts ≡ true) (arguments (Some []) (option_map_or seen_all (super_parts seat (opened m)) [])) args_told (λ args ha.
      so_map (λ block. member_from seat (opened m) guard args block) P (λ (ts : List TypedStmt). (Few → AllGood ts) × AllStay false ts) (made_along (Some []) (map flow (block_part m.part)) scope) block_told (λ block hb h.
      let inner = list_all stmt_is_encodable block && not (list_any jumps_out block) in
      and_so (start_is_encodable head (place_in seat.earlier m)) (list_all is_encodable args && inner) (start_told h)
      (and_so (list_all is_encodable args) inner (ha h) (and_so (list_all stmt_is_encodable block) (not (list_any jumps_out block)) (hb.0 h) (so_in (list_any jumps_out block) hb.1))))))
