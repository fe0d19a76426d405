-- How many slots a resolved member takes: enough for what it starts with, and no more than the written one has locals.
use Rattle.std.proofs.Common.{◌≡◌, ℕ, ◌+◌, ◌≤◌, Bool, true, false, cond, List, [], map, length, Option, Some, refl, sym, ap, ◌∙◌, subst, arith, length-append}
use Rattle.std.specs.Prelude.{if◌then◌else◌, is_some, slice_get}
use Rattle.std.specs.List.{filter_map, sum_by}
use Rattle.std.specs.Option.{option_map_or}
use Rattle.std.proofs.lemmas.List.{length-map}
use Rattle.jp_pred.specs.declared.path.Path.{Path}
use Rattle.jp_pred.specs.declared.ty.Ty.{Ty}
use Rattle.iface_codec.specs.declared.iface.Iface.{Iface}
use Rattle.iface_codec.specs.declared.iface.IfaceMethod.{IfaceMethod}
use Rattle.iface_codec.specs.declared.iface.MethodKind.TheVariants as kind
use Rattle.jp_ast.specs.declared.decl.Param.{Param}
use Rattle.jp_ast.specs.declared.decl.Member.{Member}
use Rattle.jp_ast.specs.declared.decl.MemberPart.{MemberPart}
use Rattle.jp_ast.specs.declared.decl.MemberPart.TheVariants as part
use Rattle.jp_ast.specs.Counts.{of_option}
use Rattle.jp_meaning.specs.declared.unit.TypedPart.{TypedPart}
use Rattle.jp_meaning.specs.declared.unit.TypedPart.TheVariants as typed
use Rattle.jp_meaning.specs.Classes.{is_static}
use Rattle.type_rules.specs.declared.scope.Scope.{Scope}
use Rattle.type_rules.specs.declared.scope.Variable.{Variable}
use Rattle.type_rules.specs.declared.guard_scope.Alias.{Alias}
use Rattle.type_rules.specs.Heads.{field_part, constructor_part, method_part, as_field, as_constructor, as_method, as_method_with, static_kind, param_types, method}
use Rattle.type_rules.specs.Names.{receiver_slots}
use Rattle.type_rules.specs.Statements.{flow, count, most_along}
use Rattle.type_rules.specs.Units.{Seat, guard_part, block_part, opened, is_static_part, params_of, guard_scope, body_scope, aliases_of, place_in, slots_of, entry_of}
use Rattle.gen_body.specs.Members.{given_to}
use Rattle.gen_body.specs.Correct as start
use Rattle.typed_code.proofs.FlowTold.{most_grows}
use Rattle.unit_limits.specs.Aliases.{guard_aliases}
use Rattle.unit_limits.specs.Locals.{stmt_locals}
use Rattle.unit_limits.specs.Members as written
use Rattle.limit_laws.proofs.AtOnce.{most_within}
use Rattle.limit_laws.proofs.GuardAliases.{aliases_counted}

abbrev place_by : List Member → Member → MemberPart → TypedPart
place_by earlier m q =
    if is_some (field_part m q) then typed.Field (length (filter_map as_field earlier))
    else if is_some (constructor_part m q) then typed.Constructor (length (filter_map as_constructor earlier))
    else typed.Method (length (filter_map as_method earlier))

-- the slots of a member, of whose variables so many are in scope at once
abbrev slots_by : Member → MemberPart → ℕ → ℕ
slots_by m q most = if is_some (field_part m q) then 0 else receiver_slots (is_static_part q) + most

slots_within : (m : Member) (q : MemberPart) (params most : ℕ) → most ≤ params + of_option guard_aliases (guard_part q) + sum_by stmt_locals (block_part q) →
    slots_by m q most ≤ written.receivers q + params + written.aliases q + sum_by stmt_locals (written.block_part q)
slots_within m (part.Field t static) params most h = omega arith
slots_within m (part.Static result block) params most h = omega arith
slots_within m (part.Abstract result) params most h = omega arith
slots_within m (part.Body result guard block) params most h = omega arith
slots_within m (part.Constructor args block) params most h = omega arith

private_too : (b : Bool) → is_static (static_kind b) ≡ true
private_too true = refl
private_too false = refl

module _ (seat : Seat) (m : Member) where
  abbrev scope : Scope
  scope = body_scope seat (opened m)

  abbrev most : ℕ
  most = most_along (count scope) (map flow (block_part m.part)) scope

  abbrev aliases : List Alias
  aliases = aliases_of seat (opened m)

  same_length : length (params_of m) ≡ length m.params
  same_length = length-map m.params (λ (p : Param). let v : Variable = record { name = p.name; ty = p.ty } in v)

  counted : count scope ≡ length m.params + length aliases
  counted =
      let vs : List Variable = map (λ (a : Alias). let v : Variable = record { name = a.name; ty = a.ty } in v) aliases in
      let a : count scope ≡ length (params_of m) + length vs = length-append (params_of m) vs in
      let c : length vs ≡ length aliases = length-map aliases (λ (a : Alias). let v : Variable = record { name = a.name; ty = a.ty } in v) in
      omega (arith, a, same_length, c)

  -- NO MORE THAN ARE WRITTEN

  few_at_once : most ≤ length m.params + of_option guard_aliases (guard_part m.part) + sum_by stmt_locals (block_part m.part)
  few_at_once =
      let a : length aliases ≡ of_option guard_aliases (guard_part m.part) = aliases_counted (guard_scope seat m) (guard_part m.part) refl in
      let w = most_within (block_part m.part) scope in
      omega (arith, counted, a, w)

  pub few_slots : slots_of seat (opened m) ≤ written.locals m
  few_slots = slots_within m m.part (length m.params) most few_at_once

  -- ENOUGH FOR THE START

  enough : length m.params + length aliases ≤ most
  enough = let grows = most_grows (count scope) (map flow (block_part m.part)) scope in omega (arith, counted, grows)

  types : length (param_types m) ≡ length m.params
  types = length-map m.params (λ (p : Param). p.ty)

  entries : length (entry_of seat (opened m)) ≡ length aliases
  entries = length-map aliases (λ (a : Alias). let x : Path × Ty = (a.path, a.ty) in x)

  module _ (head : Iface)
      (there : (k : IfaceMethod) → as_method_with (entry_of seat (opened m)) m ≡ Some k → slice_get head.methods (length (filter_map as_method seat.earlier)) ≡ Some k)
      (there_too : (ps : List Ty) → as_constructor m ≡ Some ps → slice_get head.constructors (length (filter_map as_constructor seat.earlier)) ≡ Some ps) where
    of_method : (q : MemberPart) (k : IfaceMethod) (n : ℕ) → m.part ≡ q → method_part (entry_of seat (opened m)) m q ≡ Some k → given_to k + length k.aliases ≤ n →
        option_map_or (λ (method : IfaceMethod). given_to method + length method.aliases) (slice_get head.methods (length (filter_map as_method seat.earlier))) 0 ≤ n
    of_method q k n e f h = subst (λ (o : Option IfaceMethod). option_map_or (λ (method : IfaceMethod). given_to method + length method.aliases) o 0 ≤ n) (sym (there k (ap (method_part (entry_of seat (opened m)) m) e ∙ f))) h

    of_constructor : (q : MemberPart) (ps : List Ty) (n : ℕ) → m.part ≡ q → constructor_part m q ≡ Some ps → 1 + length ps ≤ n →
        option_map_or (λ (params : List Ty). 1 + length params) (slice_get head.constructors (length (filter_map as_constructor seat.earlier))) 0 ≤ n
    of_constructor q ps n e f h = subst (λ (o : Option (List Ty)). option_map_or (λ (params : List Ty). 1 + length params) o 0 ≤ n) (sym (there_too ps (ap (constructor_part m) e ∙ f))) h

    by_part : (q : MemberPart) → m.part ≡ q → start.slots_of head (place_by seat.earlier m q) ≤ slots_by m q most
    by_part (part.Field t static) e = omega arith
    by_part (part.Static result block) e =
        let k = method m.name (static_kind m.is_private) (param_types m) result [] in
        let given : given_to k ≡ length (param_types m) = ap (λ (b : Bool). cond b (length (param_types m)) (1 + length (param_types m))) (private_too m.is_private) in
        of_method (part.Static result block) k (0 + most) e refl (omega (arith, enough, given, types))
    by_part (part.Abstract result) e =
        let k = method m.name kind.Abstract (param_types m) result [] in
        of_method (part.Abstract result) k (1 + most) e refl (omega (arith, enough, types))
    by_part (part.Body result guard block) e =
        let k = method m.name kind.Body (param_types m) result (entry_of seat (opened m)) in
        of_method (part.Body result guard block) k (1 + most) e refl (omega (arith, enough, types, entries))
    by_part (part.Constructor args block) e = of_constructor (part.Constructor args block) (param_types m) (1 + most) e refl (omega (arith, enough, types))

    pub has_slots : start.slots_of head (place_in seat.earlier m) ≤ slots_of seat (opened m)
    has_slots = by_part m.part refl
