-- The code of members has labels of its own, beside the two where jumps out of loops would go.
use Rattle.std.proofs.Common.{◌≡◌, ℕ, ◌+◌, ◌≤◌, Bool, true, false, not, List, [], ◌∷◌, ◌++◌, map, Option, Some, None, refl, sym, ap, ◌∙◌, arith}
use Rattle.std.specs.Prelude.{nat_lt, cond, slice_get}
use Rattle.std.specs.List.{list_any}
use Rattle.std.proofs.lemmas.Bool.{false≢true, lt-ltb, ltb-true}
use Rattle.jp_pred.specs.declared.hier.Hier.{Hier}
use Rattle.jp_pred.specs.declared.path.Path.{Path}
use Rattle.jp_pred.specs.declared.path.PathStep.{PathStep}
use Rattle.jp_pred.specs.declared.ty.Ty.{Ty}
use Rattle.jp_pred.specs.Names.{Word}
use Rattle.iface_codec.specs.declared.iface.Iface.{Iface}
use Rattle.iface_codec.specs.declared.iface.IfaceMethod.{IfaceMethod}
use Rattle.jp_store.specs.declared.value.Kind.{Kind}
use Rattle.jp_meaning.specs.declared.unit.TypedMember.{TypedMember}
use Rattle.jp_meaning.specs.declared.unit.TypedPart.{TypedPart}
use Rattle.jp_meaning.specs.declared.unit.TypedPart.TheVariants as part
use Rattle.jp_meaning.specs.Descriptors.{kind_of_type}
use Rattle.jp_meaning.specs.Members.{step_type}
use Rattle.jvm_table.specs.declared.instr.Instr.{Instr}
use Rattle.code_asm.specs.Items.{Item, Plain}
use Rattle.code_asm.specs.Lines.{lines_of, is_marked_in}
use Rattle.gen_body.specs.Codes.{row_codes, coded}
use Rattle.gen_body.specs.Statements.{Part, block_code}
use Rattle.gen_body.specs.Members.{step_code, steps_code, path_code, store_code, aliases_code, given_to, super_code, end_code, framed, method_code, part_code, member_code}
use Rattle.code_fits.specs.Encodable.{jumps_out}
use Rattle.code_fits.specs.Laws.{CodeIsLabelled, CodeMarksOnce, CodeLands}
use Rattle.code_fits.proofs.Marks.{below, Marked, marked_from, marked_below, marked_once, all_land, all_labelled}
use Rattle.code_fits.proofs.Labels as labels
use Rattle.code_fits.proofs.LabelledExpressions.{list_own, construction_own}
use Rattle.code_fits.proofs.LabelledStatements as stmts

module _ (label : ℕ) (P : ℕ → Type 0) where
  abbrev Own : Type 0 → ℕ → ℕ → List Item → Type 0
  Own = labels.Own label P

  abbrev Simple : ℕ → ℕ → List Item → Type 0
  Simple = labels.Own label P (Unit {0})

  join : {asked : Type 0} {n m k : ℕ} {a b : List Item} → Own asked n m a → Own asked m k b → Own asked n k (a ++ b)
  join h j = stmts.join label P h j

  quiet : (n : ℕ) (instr : Instr) → Simple n n (Plain instr ∷ [])
  quiet n instr = labels.quiet label P (Unit {0}) n instr

  steps_own : (hier : Hier) (steps : List PathStep) → Simple 2 2 (steps_code hier steps)
  steps_own hier [] = labels.no_items label P (Unit {0}) 2
  steps_own hier (step ∷ steps) = by_type (step_type hier step) (steps_own hier steps) where
    by_type : (o : Option Ty) → Simple 2 2 (steps_code hier steps) → Simple 2 2 (step_code o step ++ steps_code hier steps)
    by_type None h = h
    by_type (Some t) h = join (labels.uses label P (Unit {0}) 2 _ _) h

  path_own : (hier : Hier) (root : ℕ) (steps : List PathStep) (o : Option Kind) → Simple 2 2 (path_code hier root steps o)
  path_own hier root [] None = labels.no_items label P (Unit {0}) 2
  path_own hier root [] (Some kind) = quiet 2 _
  path_own hier root (step ∷ steps) o = join (quiet 2 _) (steps_own hier (step ∷ steps))

  store_own : (slot : ℕ) (o : Option Kind) → Simple 2 2 (store_code slot o)
  store_own slot None = labels.no_items label P (Unit {0}) 2
  store_own slot (Some kind) = quiet 2 _

  aliases_own : (hier : Hier) (slot : ℕ) (aliases : List (Path × Ty)) → Simple 2 2 (aliases_code hier slot aliases)
  aliases_own hier slot [] = labels.no_items label P (Unit {0}) 2
  aliases_own hier slot (alias ∷ more) =
      let o = kind_of_type alias.1 in
      join (join (path_own hier alias.0.root alias.0.steps o) (store_own slot o)) (aliases_own hier (slot + 1) more)

  super_own : (o : Option Word) (m : TypedMember) → Simple 2 (super_code o m 2).next (super_code o m 2).items
  super_own None m = labels.no_items label P (Unit {0}) 2
  super_own (Some superclass) m =
      join (quiet 2 _) (join (list_own label P m.super_args 2) (construction_own label P superclass m.super_params (row_codes (map coded m.super_args) 2).next))

  end_own : (o : Option Kind) (n : ℕ) → Simple n n (end_code o)
  end_own None n = quiet n _
  end_own (Some kind) n = join (stmts.default_own label P kind n) (quiet n _)

  -- the two labels beside its own
  abbrev pub Outside : TypedMember → Type 0
  Outside m = stmts.Ends label P (list_any jumps_out m.block) 0 1

  loose : {n k : ℕ} {items : List Item} (m : TypedMember) → Simple n k items → Own (Outside m) n k items
  loose {n} {k} {items} m h = labels.loose label P (Outside m) n k items h

  framed_own : (o : Option Kind) (start : Part) (m : TypedMember) → Simple 2 start.next start.items → Own (Outside m) 2 (framed o start m).next (framed o start m).items
  framed_own o start m h =
      let c = block_code m.block start.next 0 1 in
      join (loose m h) (join (stmts.block_own label P m.block start.next 0 1) (loose m (end_own o c.next)))

  method_own : (hier : Hier) (o : Option IfaceMethod) (m : TypedMember) → Own (Outside m) 2 (method_code hier o m).next (method_code hier o m).items
  method_own hier None m = labels.no_items label P (Outside m) 2
  method_own hier (Some method) m = framed_own (kind_of_type method.result) (record { items = aliases_code hier (given_to method) method.aliases; next = 2; need = 1 }) m (aliases_own hier (given_to method) method.aliases)

  part_own : (hier : Hier) (head : Iface) (m : TypedMember) (q : TypedPart) → Own (Outside m) 2 (part_code hier head m q).next (part_code hier head m q).items
  part_own hier head m (part.Field at) = labels.no_items label P (Outside m) 2
  part_own hier head m (part.Method at) = method_own hier (slice_get head.methods at) m
  part_own hier head m (part.Constructor at) = framed_own None (super_code head.superclass m 2) m (super_own head.superclass m)

  pub member_own : (hier : Hier) (head : Iface) (m : TypedMember) → Own (Outside m) 2 (member_code hier head m).next (member_code hier head m).items
  member_own hier head m = part_own hier head m m.part

-- what is marked is one of a member's own labels
own_marked : (hier : Hier) (head : Iface) (m : TypedMember) → Marked (λ l. nat_lt l (member_code hier head m).next ≡ true) (member_code hier head m).items
own_marked hier head m =
    let c = member_code hier head m in
    marked_below 2 c.next c.items (λ l. (member_own l (λ k. nat_lt k c.next ≡ true) hier head m).counted)

denied : (b : Bool) → not b ≡ true → b ≡ false
denied true h = absurd (false≢true h)
denied false h = refl

-- there are two labels at least
second_below : (next : ℕ) → below 1 2 ≤ below 1 next → nat_lt 1 next ≡ true
second_below next h = by_test (nat_lt 1 next) refl where
  by_test : (b : Bool) → nat_lt 1 next ≡ b → nat_lt 1 next ≡ true
  by_test true e = e
  by_test false e = let f : below 1 next ≡ 0 = ap (λ x. cond x 1 0) e in absurd (omega (arith, h, f))

pub labelled : CodeIsLabelled
labelled hier head m =
    let c = member_code hier head m in
    let own = member_own 1 (λ k. nat_lt k c.next ≡ true) hier head m in
    let second = second_below c.next (omega (arith, own.counted)) in
    let first : nat_lt 0 c.next ≡ true = lt-ltb 0 c.next (let h = ltb-true 1 c.next second in omega (arith, h)) in
    let marked = own_marked hier head m in
    all_labelled c.next c.items marked (own.lands (λ e. (first, second)) marked)

pub once : CodeMarksOnce
once hier head m =
    let c = member_code hier head m in
    marked_once 2 c.next c.items (λ l. (member_own l (λ k. nat_lt k c.next ≡ true) hier head m).counted)

pub lands : CodeLands
lands hier head m e =
    let h = denied (list_any jumps_out m.block) e in
    let c = member_code hier head m in
    let P : ℕ → Type 0 = λ l. is_marked_in (lines_of c.items) l ≡ true in
    let own = member_own 0 P hier head m in
    all_land c.items c.items (own.lands (λ e. absurd (false≢true (sym h ∙ e))) (marked_from P c.items (λ l e. e)))
