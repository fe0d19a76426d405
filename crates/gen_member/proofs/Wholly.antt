-- The code of a member, once its parts are written.
use Rattle.std.proofs.Common.{◌≡◌, ℕ, ◌+◌, List, [], ◌∷◌, ◌++◌, length, Option, Some, None, Result, refl, sym, ap, ◌∙◌}
use Rattle.std.specs.Prelude.{max, slice_get, IfOk}
use Rattle.std.specs.Option.{option_map_or}
use Rattle.jp_pred.specs.declared.ty.Ty.{Ty}
use Rattle.jp_pred.specs.declared.hier.Hier.{Hier}
use Rattle.jp_pred.specs.Names.{Word}
use Rattle.jp_store.specs.declared.value.Kind.{Kind}
use Rattle.jp_store.specs.declared.value.Kind.TheVariants.{Reference}
use Rattle.iface_codec.specs.declared.iface.Iface.{Iface}
use Rattle.iface_codec.specs.declared.iface.IfaceMethod.{IfaceMethod}
use Rattle.jp_meaning.specs.declared.expr.TypedExpr.{TypedExpr}
use Rattle.jp_meaning.specs.declared.stmt.TypedStmt.{TypedStmt}
use Rattle.jp_meaning.specs.declared.unit.TypedMember.{TypedMember}
use Rattle.jp_meaning.specs.declared.unit.TypedPart.{TypedPart}
use Rattle.jp_meaning.specs.declared.unit.TypedPart.TheVariants as part
use Rattle.jp_meaning.specs.Descriptors.{kind_of_type}
use Rattle.jvm_table.specs.declared.instr.Instr.TheVariants.{Load}
use Rattle.code_asm.specs.Items.{Plain}
use Rattle.gen_body.specs.Codes.{construction}
use Rattle.gen_body.specs.Statements.{Part}
use Rattle.gen_body.specs.Members.{aliases_code, given_to, super_code, end_code, framed, method_code, part_code, member_code}
use Rattle.gen_body.specs.Correct.{slots_of}
use Rattle.gen_code.specs.declared.body.Body.{Body}
use Rattle.gen_code.specs.Emitted.{code_of}
use Rattle.gen_parts.specs.Emits.{Puts, Adds, Ends, all_part, between_part, chained}
use Rattle.gen_member.specs.Blocks.{made_of, block_part, framed_part}
use Rattle.gen_expr.proofs.Steps.{puts}
use Rattle.gen_expr.proofs.Arms.{nothing_put, same_put, part_ends, between_ends, chain}

-- a member behind what stands at its start
framed_is : (result : Option Kind) (start : Part) (m : TypedMember) → framed result start m ≡ chained start (framed_part result m)
unfolding made_of
framed_is result start m = refl

super_is : (class : Word) (m : TypedMember) (n : ℕ) → super_code (Some class) m n ≡ between_part (Plain (Load Reference 0) ∷ []) 1 m.super_args (construction class m.super_params ∷ []) n
unfolding code_of
super_is class m n = refl

module _ {E : Type 0} (m : TypedMember) (a b : Body) (res : Result ℕ E) where
  pub block_ends : (c : Body) (k : Option Kind) (start p : ℕ) (block' : List TypedStmt) → block' ≡ m.block → Puts a c p (block_part block' 0 1 a.labels) → IfOk res (λ q. Ends c b (end_code k) q (max start (max p 1))) →
      IfOk res (λ q. Puts a b q (framed_part k m start a.labels))
  block_ends c k start p block' e h w =
      let at : List TypedStmt → Part = λ ss. (let r = block_part ss 0 1 a.labels in record { items = r.items ++ end_code k; next = r.next; need = max start (max r.need 1) }) in
      same_put a b res (framed_part k m start a.labels) (at block') (ap at (sym e)) (part_ends a c b p (block_part block' 0 1 a.labels) (end_code k) (λ (n : ℕ). max start (max n 1)) res h w)

  pub method_put : (hier : Hier) (method : IfaceMethod) (c : Body) (k : Option Kind) → a.labels ≡ 2 → k ≡ kind_of_type method.result → Adds a c (aliases_code hier (given_to method) method.aliases) → IfOk res (λ q. Puts c b q (framed_part k m 1 c.labels)) →
      IfOk res (λ q. Puts a b q (method_code hier (Some method) m))
  method_put hier method c k two of g w =
      let start : ℕ → Part = λ n. record { items = aliases_code hier (given_to method) method.aliases; next = n; need = 1 } in
      let front : Puts a c 1 (start a.labels) = puts a c 1 1 (aliases_code hier (given_to method) method.aliases) g refl in
      same_put a b res (method_code hier (Some method) m) (chained (start a.labels) (framed_part k m))
      (framed_is (kind_of_type method.result) (start 2) m ∙ (λ j. chained (start (sym two j)) (framed_part (sym of j) m)))
      (chain a c b 1 (start a.labels) (framed_part k m) res front w)

  pub constructor_put : (superclass : Option Word) (c : Body) (p : ℕ) → a.labels ≡ 2 → Puts a c p (super_code superclass m a.labels) → IfOk res (λ q. Puts c b q (framed_part None m p c.labels)) → IfOk res (λ q. Puts a b q (framed None (super_code superclass m 2) m))
  constructor_put superclass c p two h w =
      same_put a b res (framed None (super_code superclass m 2) m) (chained (super_code superclass m a.labels) (framed_part None m))
      (framed_is None (super_code superclass m 2) m ∙ ap (λ (n : ℕ). chained (super_code superclass m n) (framed_part None m)) (sym two)) (chain a c b p (super_code superclass m a.labels) (framed_part None m) res h w)

  pub super_put : (superclass : Option Word) (class : Word) (c d : Body) (p : ℕ) (ts' : List Ty) (ys' : List TypedExpr) → superclass ≡ Some class → ts' ≡ m.super_params → ys' ≡ m.super_args → Adds a c (Plain (Load Reference 0) ∷ []) →
      Puts c d p (all_part ys' c.labels) → IfOk res (λ q. Ends d b (construction class ts' ∷ []) q (1 + p)) → IfOk res (λ q. Puts a b q (super_code superclass m a.labels))
  super_put superclass class c d p ts' ys' e ft fy g h w =
      same_put a b res (super_code superclass m a.labels) (between_part (Plain (Load Reference 0) ∷ []) 1 ys' (construction class ts' ∷ []) a.labels)
      (ap (λ (o : Option Word). super_code o m a.labels) e ∙ (super_is class m a.labels ∙ (λ j. between_part (Plain (Load Reference 0) ∷ []) 1 (sym fy j) (construction class (sym ft j) ∷ []) a.labels)))
      (between_ends a c d b p (Plain (Load Reference 0) ∷ []) (λ (n : ℕ). all_part ys' n) (construction class ts' ∷ []) (λ (n : ℕ). 1 + n) res g h w)

  pub member_put : (hier : Hier) (head : Iface) (at : ℕ) (method : IfaceMethod) → m.part ≡ part.Method at → slice_get head.methods at ≡ Some method → IfOk res (λ q. Puts a b q (method_code hier (Some method) m)) → IfOk res (λ q. Puts a b q (member_code hier head m))
  member_put hier head at method e f w =
      same_put a b res (member_code hier head m) (method_code hier (Some method) m) (ap (λ (p : TypedPart). part_code hier head m p) e ∙ ap (λ (o : Option IfaceMethod). method_code hier o m) f) w

  pub member_constructor : (hier : Hier) (head : Iface) (at : ℕ) → m.part ≡ part.Constructor at → IfOk res (λ q. Puts a b q (framed None (super_code head.superclass m 2) m)) → IfOk res (λ q. Puts a b q (member_code hier head m))
  member_constructor hier head at e w = same_put a b res (member_code hier head m) (framed None (super_code head.superclass m 2) m) (ap (λ (p : TypedPart). part_code hier head m p) e) w

pub no_super : (superclass : Option Word) (m : TypedMember) (a : Body) → superclass ≡ None → Puts a a 0 (super_code superclass m a.labels)
no_super superclass m a e = nothing_put a (super_code superclass m a.labels) (ap (λ (o : Option Word). super_code o m a.labels) e)

-- a field, and a method that there isn't
no_lines : (a : Body) (whole : Part) → a.labels ≡ 2 → whole ≡ record { items = []; next = 2; need = 0 } → Puts a a 0 whole
no_lines a whole two e = nothing_put a whole (e ∙ ap (λ (n : ℕ). record { items = []; next = n; need = 0 }) (sym two))

pub field_member : (hier : Hier) (head : Iface) (m : TypedMember) (at : ℕ) (a : Body) → a.labels ≡ 2 → m.part ≡ part.Field at → Puts a a 0 (member_code hier head m)
field_member hier head m at a two e = no_lines a (member_code hier head m) two (ap (λ (p : TypedPart). part_code hier head m p) e)

pub no_member : (hier : Hier) (head : Iface) (m : TypedMember) (at : ℕ) (a : Body) → a.labels ≡ 2 → m.part ≡ part.Method at → slice_get head.methods at ≡ None → Puts a a 0 (member_code hier head m)
no_member hier head m at a two e f = no_lines a (member_code hier head m) two (ap (λ (p : TypedPart). part_code hier head m p) e ∙ ap (λ (o : Option IfaceMethod). method_code hier o m) f)

-- how many locals a method starts with
pub slots_are : (head : Iface) (p : TypedPart) (at : ℕ) (method : IfaceMethod) → p ≡ part.Method at → slice_get head.methods at ≡ Some method → slots_of head p ≡ given_to method + length method.aliases
slots_are head p at method e f =
    ap (slots_of head) e ∙ ap (λ (o : Option IfaceMethod). option_map_or (λ (x : IfaceMethod). given_to x + length x.aliases) o 0) f
