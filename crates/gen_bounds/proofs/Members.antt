-- The code of members is short for their nodes.
use Rattle.std.proofs.Common.{◌≡◌, ℕ, ◌+◌, ◌*◌, ◌≤◌, true, List, [], ◌∷◌, ◌++◌, length, map, Option, Some, None, arith}
use Rattle.std.specs.Prelude.{nat_le, slice_get}
use Rattle.std.specs.List.{list_all}
use Rattle.std.specs.Option.{option_map_or}
use Rattle.std.proofs.lemmas.Bool.{leb-true}
use Rattle.class_form.proofs.Facts.{both}
use Rattle.jp_pred.specs.declared.hier.Hier.{Hier}
use Rattle.jp_pred.specs.declared.path.Path.{Path}
use Rattle.jp_pred.specs.declared.path.PathStep.{PathStep}
use Rattle.jp_pred.specs.declared.ty.Ty.{Ty}
use Rattle.jp_pred.specs.Names.{Word}
use Rattle.iface_codec.specs.declared.iface.Iface.{Iface}
use Rattle.iface_codec.specs.declared.iface.IfaceMethod.{IfaceMethod}
use Rattle.jp_store.specs.declared.value.Kind.{Kind}
use Rattle.jp_meaning.specs.declared.unit.TypedMember.{TypedMember}
use Rattle.jp_meaning.specs.declared.unit.TypedPart.{TypedPart}
use Rattle.jp_meaning.specs.declared.unit.TypedPart.TheVariants as part
use Rattle.jp_meaning.specs.Descriptors.{kind_of_type}
use Rattle.jp_meaning.specs.Members.{step_type}
use Rattle.code_asm.specs.Items.{Item}
use Rattle.gen_body.specs.Codes.{row_codes, construction, coded}
use Rattle.gen_body.specs.Statements.{Part, block_code}
use Rattle.gen_body.specs.Members.{step_code, steps_code, path_code, store_code, alias_code, aliases_code, given_to, super_code, end_code, framed, method_code, part_code, member_code}
use Rattle.gen_bounds.specs.Nodes.{total, expr_nodes, member_nodes}
use Rattle.gen_bounds.specs.Limits.{is_near, aliases_of}
use Rattle.gen_bounds.proofs.Weights.{weigh, weigh_join, weigh_end, default_weight}
use Rattle.gen_bounds.proofs.Expressions.{list_short}
use Rattle.gen_bounds.proofs.Statements.{block_short}

module _ (a i m node : ℕ) (fair : 4 * a + 3 * m ≤ node) (calls : i ≤ a + a) where
  abbrev w : List Item → ℕ
  w = weigh a i m

  -- a member's code: what it weighs, its labels, and its places of the stack
  pub record ShortMember (nodes : ℕ) (p : Part) : Type 0 where
    pub items : w p.items ≤ node * nodes + 82 * a
    pub next : p.next ≤ 3 * nodes + 2
    pub need : p.need ≤ 2 * nodes + 1

  -- what stands at the start of a member, by the nodes of the arguments that are given there
  record ShortStart (nodes : ℕ) (p : Part) : Type 0 where
    items : w p.items ≤ node * nodes + 80 * a
    next : p.next ≤ 3 * nodes + 2
    need : p.need ≤ 2 * nodes + 1

  steps_weight : (hier : Hier) (steps : List PathStep) → w (steps_code hier steps) ≤ length steps * a
  steps_weight hier [] = omega arith
  steps_weight hier (step ∷ steps) = by_type (step_type hier step) (steps_weight hier steps) where
    by_type : (o : Option Ty) → w (steps_code hier steps) ≤ length steps * a → w (step_code o step ++ steps_code hier steps) ≤ length (step ∷ steps) * a
    by_type None h = omega arith
    by_type (Some t) h = omega arith

  path_weight : (hier : Hier) (root : ℕ) (steps : List PathStep) (o : Option Kind) → w (path_code hier root steps o) ≤ a + length steps * a
  path_weight hier root [] None = omega arith
  path_weight hier root [] (Some kind) = omega arith
  path_weight hier root (step ∷ steps) o = let h = steps_weight hier (step ∷ steps) in omega arith

  store_weight : (slot : ℕ) (o : Option Kind) → w (store_code slot o) ≤ a
  store_weight slot None = omega arith
  store_weight slot (Some kind) = omega arith

  -- eight steps at most
  few_steps : (steps : List PathStep) → nat_le (length steps) 8 ≡ true → length steps * a ≤ 8 * a
  few_steps steps h = let le : length steps ≤ 8 = leb-true (length steps) 8 h in grind arith

  alias_weight : (hier : Hier) (slot : ℕ) (alias : Path × Ty) → is_near alias ≡ true → w (alias_code hier slot alias) ≤ 10 * a
  alias_weight hier slot alias near =
      let o = kind_of_type alias.1 in
      let d = path_weight hier alias.0.root alias.0.steps o in
      let e = store_weight slot o in
      let f = few_steps alias.0.steps near in
      let g = weigh_join a i m (path_code hier alias.0.root alias.0.steps o) (store_code slot o) in
      omega arith

  aliases_weight : (hier : Hier) (slot : ℕ) (aliases : List (Path × Ty)) → list_all is_near aliases ≡ true → w (aliases_code hier slot aliases) ≤ length aliases * (10 * a)
  aliases_weight hier slot [] near = omega arith
  aliases_weight hier slot (alias ∷ more) near =
      let h = both (is_near alias) (list_all is_near more) near in
      let d = alias_weight hier slot alias h.0 in
      let e = aliases_weight hier (slot + 1) more h.1 in
      let f = weigh_join a i m (alias_code hier slot alias) (aliases_code hier (slot + 1) more) in
      omega arith

  few_aliases : (aliases : List (Path × Ty)) → length aliases ≤ 8 → length aliases * (10 * a) ≤ 80 * a
  few_aliases aliases h = grind arith

  end_weight : (o : Option Kind) → w (end_code o) ≤ 2 * a
  end_weight None = omega arith
  end_weight (Some kind) = let e = default_weight a i m kind in omega arith

  super_short : (o : Option Word) (member : TypedMember) → ShortStart (total (map expr_nodes member.super_args)) (super_code o member 2)
  super_short None member = record { items = omega arith; next = omega arith; need = omega arith }
  super_short (Some superclass) member =
      let r = row_codes (map coded member.super_args) 2 in
      let h = list_short a i m node fair calls member.super_args 2 in
      let e = weigh_end a i m r.items (construction superclass member.super_params) in
      record { items = omega arith; next = omega arith; need = omega arith }

  start_short : (hier : Hier) (slot : ℕ) (aliases : List (Path × Ty)) (nodes : ℕ) → length aliases ≤ 8 → list_all is_near aliases ≡ true → ShortStart nodes (record { items = aliases_code hier slot aliases; next = 2; need = 1 })
  start_short hier slot aliases nodes few near =
      let d = aliases_weight hier slot aliases near in
      let e = few_aliases aliases few in
      record { items = omega arith; next = omega arith; need = omega arith }

  framed_short : (o : Option Kind) (start : Part) (member : TypedMember) → ShortStart (total (map expr_nodes member.super_args)) start → ShortMember (member_nodes member) (framed o start member)
  framed_short o start member h =
      let c = block_code member.block start.next 0 1 in
      let b = block_short a i m node fair calls member.block start.next 0 1 in
      let d = end_weight o in
      let e = weigh_join a i m c.items (end_code o) in
      let f = weigh_join a i m start.items (c.items ++ end_code o) in
      record { items = omega arith; next = omega arith; need = omega arith }

  empty_short : (nodes : ℕ) → ShortMember nodes (record { items = []; next = 2; need = 0 })
  empty_short nodes = record { items = omega arith; next = omega arith; need = omega arith }

  method_short : (hier : Hier) (o : Option IfaceMethod) (member : TypedMember) → length (option_map_or (λ (method : IfaceMethod). method.aliases) o []) ≤ 8 → list_all is_near (option_map_or (λ (method : IfaceMethod). method.aliases) o []) ≡ true → ShortMember (member_nodes member) (method_code hier o member)
  method_short hier None member few near = empty_short (member_nodes member)
  method_short hier (Some method) member few near =
      framed_short (kind_of_type method.result) _ member (start_short hier (given_to method) method.aliases (total (map expr_nodes member.super_args)) few near)

  part_short : (hier : Hier) (head : Iface) (member : TypedMember) (q : TypedPart) → length (aliases_of head q) ≤ 8 → list_all is_near (aliases_of head q) ≡ true → ShortMember (member_nodes member) (part_code hier head member q)
  part_short hier head member (part.Field at) few near = empty_short (member_nodes member)
  part_short hier head member (part.Method at) few near = method_short hier (slice_get head.methods at) member few near
  part_short hier head member (part.Constructor at) few near = framed_short None (super_code head.superclass member 2) member (super_short head.superclass member)

  pub member_short : (hier : Hier) (head : Iface) (member : TypedMember) → length (aliases_of head member.part) ≤ 8 → list_all is_near (aliases_of head member.part) ≡ true → ShortMember (member_nodes member) (member_code hier head member)
  member_short hier head member few near = part_short hier head member member.part few near
