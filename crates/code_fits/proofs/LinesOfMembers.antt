-- The same of encodable members.
use Rattle.std.proofs.Common.{◌≡◌, ℕ, ◌+◌, ◌≤◌, Bool, true, ◌&&◌, List, [], ◌∷◌, ◌++◌, length, map, Option, Some, None, refl, arith}
use Rattle.std.specs.Prelude.{nat_le, slice_get}
use Rattle.std.specs.List.{list_all}
use Rattle.std.proofs.lemmas.Bool.{lt-ltb, leb-true}
use Rattle.class_form.proofs.Facts.{both, and_four}
use Rattle.jp_pred.specs.declared.hier.Hier.{Hier}
use Rattle.jp_pred.specs.declared.path.Path.{Path}
use Rattle.jp_pred.specs.declared.path.PathStep.{PathStep}
use Rattle.jp_pred.specs.declared.ty.Ty.{Ty}
use Rattle.jp_pred.specs.Names.{Word}
use Rattle.iface_codec.specs.declared.iface.Iface.{Iface}
use Rattle.iface_codec.specs.declared.iface.IfaceMethod.{IfaceMethod}
use Rattle.jp_store.specs.declared.value.Kind.{Kind}
use Rattle.jp_meaning.specs.declared.unit.TypedMember.{TypedMember}
use Rattle.jp_meaning.specs.declared.unit.TypedPart.{TypedPart}
use Rattle.jp_meaning.specs.declared.unit.TypedPart.TheVariants as part
use Rattle.jp_meaning.specs.Descriptors.{kind_of_type}
use Rattle.jp_meaning.specs.Members.{step_type}
use Rattle.jp_meaning.specs.Choice.{NoneIsTrue}
use Rattle.jp_meaning.specs.Run.{Program}
use Rattle.code_trace.specs.Given.{has_receiver}
use Rattle.code_asm.specs.Items.{Item}
use Rattle.code_asm.specs.Lines.{lines_of, is_labelled, line_lands, has_opcode}
use Rattle.gen_code.specs.Compiled.{marks_once}
use Rattle.gen_body.specs.Names.{are_nameable}
use Rattle.gen_body.specs.Codes.{row_codes, coded}
use Rattle.gen_body.specs.Statements.{Part, block_code}
use Rattle.gen_body.specs.Members.{step_code, steps_code, path_code, store_code, alias_code, aliases_code, given_to, super_code, end_code, framed, method_code, part_code, member_code}
use Rattle.calls_fit.specs.Fitting.{all_fit, check, stmt_fits}
use Rattle.code_fits.specs.Encodable.{is_in_reach, is_encodable, stmt_is_encodable, or_so, stays_in, has_room, start_is_encodable, member_is_encodable}
use Rattle.code_fits.specs.Ordinary.{is_distinct, calls_ordinary, stmt_calls_ordinary, start_is_ordinary, member_calls_ordinary}
use Rattle.code_fits.specs.Laws.{FittingIsMeant, CodeHasOpcodes, FittingIsWritten}
use Rattle.code_fits.proofs.Lines as lines
use Rattle.code_fits.proofs.Lines.{both_if, Single, single_type, load_opcode, store_opcode, return_opcode}
use Rattle.code_fits.proofs.LinesOfExpressions as exprs
use Rattle.code_fits.proofs.LinesOfStatements as stmts
use Rattle.code_fits.proofs.LabelledMembers.{labelled, once, lands}

module _ (G F : Type 0) where
  abbrev Each : List Item → Type 0
  Each = lines.Each G F

  steps_fit : (hier : Hier) (steps : List PathStep) → Each (steps_code hier steps)
  steps_fit hier [] = tt
  steps_fit hier (step ∷ steps) = by_type (step_type hier step) (steps_fit hier steps) where
    by_type : (o : Option Ty) → Each (steps_code hier steps) → Each (step_code o step ++ steps_code hier steps)
    by_type None h = h
    by_type (Some t) h = ((λ z. refl, λ f. tt), h)

  path_fits : (hier : Hier) (root : ℕ) (steps : List PathStep) (o : Option Kind) → Single o → (G → is_in_reach root ≡ true) → Each (path_code hier root steps o)
  path_fits hier root [] None s h = tt
  path_fits hier root [] (Some kind) s h = ((λ z. load_opcode kind root s (h z), λ f. tt), tt)
  path_fits hier root (step ∷ steps) o s h = ((λ z. lines.local_opcode 0x2a 0x19 root (h z), λ f. tt), steps_fit hier (step ∷ steps))

  store_fits : (slot : ℕ) (o : Option Kind) → Single o → (G → is_in_reach slot ≡ true) → Each (store_code slot o)
  store_fits slot None s h = tt
  store_fits slot (Some kind) s h = ((λ z. store_opcode kind slot s (h z), λ f. tt), tt)

  aliases_fit : (hier : Hier) (slot : ℕ) (aliases : List (Path × Ty)) → (G → list_all (λ (alias : Path × Ty). is_in_reach alias.0.root) aliases ≡ true) → (G → slot + length aliases ≤ 256) → Each (aliases_code hier slot aliases)
  aliases_fit hier slot [] h le = tt
  aliases_fit hier slot (alias ∷ more) h le =
      let i = both_if G (is_in_reach alias.0.root) (list_all (λ (alias : Path × Ty). is_in_reach alias.0.root) more) h in
      let o = kind_of_type alias.1 in let s = single_type alias.1 in
      lines.joined G F (alias_code hier slot alias) _ (lines.joined G F (path_code hier alias.0.root alias.0.steps o) _ (path_fits hier alias.0.root alias.0.steps o s i.0) (store_fits slot o s (λ z. let l = le z in lt-ltb slot 256 (omega (arith, l)))))
      (aliases_fit hier (slot + 1) more i.1 (λ z. let l = le z in omega (arith, l)))

  end_fits : (o : Option Kind) → Single o → Each (end_code o)
  end_fits None s = ((λ z. refl, λ f. tt), tt)
  end_fits (Some kind) s = (stmts.default_fits G F kind, ((λ z. return_opcode kind s, λ f. tt), tt))

module _ (G F : Type 0) (p : Program) (head : Iface) (m : TypedMember) (r : Bool) where
  abbrev Every : List Item → Type 0
  Every = lines.Each G F

  super_fits : (o : Option Word) (n : ℕ) → (F → all_fit (map (check p head r) m.super_args) ≡ true) → (F → are_nameable m.super_params ≡ true) → (F → list_all calls_ordinary m.super_args ≡ true) → (F → or_so is_distinct o ≡ true) → (G → list_all is_encodable m.super_args ≡ true) → Every (super_code o m n).items
  super_fits None n e h u d g = tt
  super_fits (Some superclass) n e h u d g =
      ((λ z. refl, λ f. tt), lines.joined G F (row_codes (map coded m.super_args) n).items _ (exprs.list_fits G F p head r m.super_args e u g n) (lines.construction_fits G F superclass m.super_params h d, tt))

  framed_fits : (o : Option Kind) → Single o → (start : Part) → Every start.items → (F → list_all (stmt_fits p head r) m.block ≡ true) → (F → list_all stmt_calls_ordinary m.block ≡ true) → (G → list_all stmt_is_encodable m.block ≡ true) → Every (framed o start m).items
  framed_fits o s start h e u g =
      lines.joined G F start.items _ h (lines.joined G F (block_code m.block start.next 0 1).items _ (stmts.block_fits G F p head r m.block e u g start.next 0 1) (end_fits G F o s))

  method_fits : (hier : Hier) (o : Option IfaceMethod) → (F → list_all (stmt_fits p head r) m.block ≡ true) → (F → list_all stmt_calls_ordinary m.block ≡ true) → (G → list_all stmt_is_encodable m.block ≡ true) → (G → or_so has_room o ≡ true) → Every (method_code hier o m).items
  method_fits hier None e u g d = tt
  method_fits hier (Some method) e u g d =
      let i = both_if G (list_all (λ (alias : Path × Ty). is_in_reach alias.0.root) method.aliases) (nat_le (given_to method + length method.aliases) 256) d in
      framed_fits (kind_of_type method.result) (single_type method.result) (record { items = aliases_code hier (given_to method) method.aliases; next = 2; need = 1 })
      (aliases_fit G F hier (given_to method) method.aliases i.0 (λ z. leb-true (given_to method + length method.aliases) 256 (i.1 z))) e u g

  -- what is known of a member under the premise
  record Known (q : TypedPart) : Type 0 where
    block : F → list_all (stmt_fits p head r) m.block ≡ true
    args : F → all_fit (map (check p head r) m.super_args) ≡ true
    params : F → are_nameable m.super_params ≡ true
    start : F → start_is_ordinary head q ≡ true
    usual_args : F → list_all calls_ordinary m.super_args ≡ true
    usual : F → list_all stmt_calls_ordinary m.block ≡ true

  part_fits : (hier : Hier) (q : TypedPart) → Known q → (G → start_is_encodable head q ≡ true) → (G → list_all is_encodable m.super_args ≡ true) → (G → list_all stmt_is_encodable m.block ≡ true) → Every (part_code hier head m q).items
  part_fits hier (part.Field at) k d g j = tt
  part_fits hier (part.Method at) k d g j = method_fits hier (slice_get head.methods at) k.block k.usual j d
  part_fits hier (part.Constructor at) k d g j = framed_fits None tt (super_code head.superclass m 2) (super_fits head.superclass 2 k.args k.params k.usual_args k.start g) k.block k.usual j

  member_all : (hier : Hier) → (F → (list_all (stmt_fits p head r) m.block && (all_fit (map (check p head r) m.super_args) && are_nameable m.super_params)) ≡ true) → (F → member_calls_ordinary head m ≡ true) → (G → member_is_encodable head m ≡ true) → Every (member_code hier head m).items
  member_all hier e o g =
      let args = all_fit (map (check p head r) m.super_args) in
      let h = both_if F (list_all (stmt_fits p head r) m.block) (args && are_nameable m.super_params) e in
      let i = both_if F args (are_nameable m.super_params) h.1 in
      let u = both_if F (start_is_ordinary head m.part) (list_all calls_ordinary m.super_args && list_all stmt_calls_ordinary m.block) o in
      let v = both_if F (list_all calls_ordinary m.super_args) (list_all stmt_calls_ordinary m.block) u.1 in
      let inner = list_all stmt_is_encodable m.block && stays_in m in
      let j = both_if G (start_is_encodable head m.part) (list_all is_encodable m.super_args && inner) g in
      let k = both_if G (list_all is_encodable m.super_args) inner j.1 in
      let l = both_if G (list_all stmt_is_encodable m.block) (stays_in m) k.1 in
      part_fits hier m.part (record { block = h.0; args = i.0; params = i.1; start = u.0; usual_args = v.0; usual = v.1 }) j.0 k.0 l.0

pub meant : FittingIsMeant
meant p hier head m e o =
    lines.are_meant ⊥ (Unit {0}) (member_code hier head m).items tt (member_all ⊥ (Unit {0}) p head m (has_receiver head m.part) hier (λ f. e) (λ f. o) (λ z. absurd z))

-- whether the member fits makes no difference to opcodes, so any program will do
nowhere : Program
nowhere = record { classes = []; main = []; select = λ question. NoneIsTrue }

pub opcodes : CodeHasOpcodes
opcodes hier head m g =
    lines.have_opcodes (Unit {0}) ⊥ (member_code hier head m).items tt (member_all (Unit {0}) ⊥ nowhere head m (has_receiver head m.part) hier (λ f. absurd f) (λ f. absurd f) (λ z. g))

in_loops : (head : Iface) (m : TypedMember) → member_is_encodable head m ≡ true → stays_in m ≡ true
in_loops head m g =
    let j = both (start_is_encodable head m.part) (list_all is_encodable m.super_args && (list_all stmt_is_encodable m.block && stays_in m)) g in
    let k = both (list_all is_encodable m.super_args) (list_all stmt_is_encodable m.block && stays_in m) j.1 in
    (both (list_all stmt_is_encodable m.block) (stays_in m) k.1).1

pub written : FittingIsWritten
written hier head m g =
    let c = member_code hier head m in let ls = lines_of c.items in
    and_four (list_all has_opcode ls) (list_all (is_labelled c.next) ls) (marks_once ls) (list_all (line_lands ls) ls)
    (opcodes hier head m g) (labelled hier head m) (once hier head m) (lands hier head m (in_loops head m g))
