-- How long the code of a member is, and which constants it asks for.
use Rattle.std.proofs.Common.{◌≡◌, ℕ, ◌+◌, ◌<◌, ◌≤◌, ℤ, Bool, true, false, ◌||◌, if◌then◌else◌, List, [], ◌∷◌, ◌++◌, length, Option, Some, None, Result, Ok, Err, refl, sym, ap, ◌∙◌, subst, arith, length-append, true≢false, ltb}
use Rattle.std.specs.Prelude.{IfOk, OnOk, slice_get, is_some}
use Rattle.std.specs.Int.{w16, cast_unsigned}
use Rattle.std.specs.List.{list_any}
use Rattle.std.specs.Option.{option_and_then}
use Rattle.std.proofs.lemmas.Bool.{ltb-false}
use Rattle.std.proofs.lemmas.List.Folds.{list_any-append}
use Rattle.std.proofs.Math.Bool.{or-true}
use Rattle.class_form.specs.declared.constant.Const.{Const}
use Rattle.class_form.specs.declared.member.Code.{Code}
use Rattle.class_form.specs.Layout.{u2}
use Rattle.jp_pred.specs.declared.hier.Hier.{Hier}
use Rattle.iface_codec.specs.declared.iface.Iface.{Iface}
use Rattle.iface_codec.specs.declared.iface.IfaceMethod.{IfaceMethod}
use Rattle.jp_store.specs.declared.value.Kind.{Kind}
use Rattle.jp_store.specs.declared.value.Kind.TheVariants.{Number, LongNumber, Reference}
use Rattle.jp_meaning.specs.declared.unit.TypedMember.{TypedMember}
use Rattle.jp_meaning.specs.declared.unit.TypedPart.{TypedPart}
use Rattle.jp_meaning.specs.declared.unit.TypedPart.TheVariants as part
use Rattle.jp_meaning.specs.Descriptors.{kind_of_type}
use Rattle.code_asm.specs.declared.line.Line.{Line}
use Rattle.code_asm.specs.declared.fault.AsmFault.TheVariants.{TooLong}
use Rattle.code_asm.specs.Items.{Item, Plain, Uses, CallsInterface, Branch, Mark}
use Rattle.code_asm.specs.Lines.{lines_of}
use Rattle.code_asm.specs.Pieces.{Piece, OpPiece, JumpPiece, MarkPiece, size_of, size_of_all, place_in, distance, far_jump, laid, bytes_of_all, unless_far, finished}
use Rattle.code_asm.specs.Encoding.{bytes_of}
use Rattle.code_asm.specs.Written.{with_lines, op_piece, AreOf}
use Rattle.code_asm.specs.Assembled.{IsWritten}
use Rattle.gen_body.specs.Statements.{Part, block_code}
use Rattle.gen_body.specs.Members.{aliases_code, given_to, super_code, end_code, framed, method_code, part_code, member_code}
use Rattle.gen_code.specs.Compiled.{Lays}
use Rattle.gen_code.specs.declared.fault.BodyFault.{BodyFault}
use Rattle.gen_code.specs.declared.body.Body.{Body}
use Rattle.gen_parts.specs.Emits.{Puts}
use Rattle.gen_member.specs.Laid.{is_declared, IsSized}

length-u2 : (n : ℕ) → length (u2 n) ≡ 2
unfolding u2
length-u2 n = refl

length-laid : (place : ℕ → ℕ) (at : ℕ) (pieces : List Piece) → length (laid place at pieces) ≡ size_of_all pieces
length-laid place at [] = refl
length-laid place at (OpPiece opcode operands ∷ pieces) =
    omega (arith, length-append (opcode ∷ operands) (laid place (at + (1 + length operands)) pieces), length-laid place (at + (1 + length operands)) pieces)
length-laid place at (JumpPiece opcode label ∷ pieces) =
    let u : List ℕ = u2 (cast_unsigned w16 (distance at (place label))) in
    omega (arith, length-append (opcode ∷ u) (laid place (at + 3) pieces), length-u2 (cast_unsigned w16 (distance at (place label))), length-laid place (at + 3) pieces)
length-laid place at (MarkPiece label ∷ pieces) = omega (arith, length-laid place at pieces)

-- code that is finished has the size of its pieces, and no attributes
record IsFinished (pieces : List Piece) (code : Code) : Type 0 where
  short : size_of_all pieces ≤ 65535
  bytes : code.bytes ≡ bytes_of_all pieces
  bare : code.attributes ≡ []

is_finished : (pieces : List Piece) (stack locals : ℕ) (code : Code) → Ok code ≡ finished pieces stack locals → IsFinished pieces code
is_finished pieces stack locals code e = by_size (ltb 65535 (size_of_all pieces)) refl (sym e)
  where
    whole : Code
    whole = record { max_stack = stack; max_locals = locals; bytes = bytes_of_all pieces; attributes = [] }

    by_far : (far : Option ℤ) → size_of_all pieces ≤ 65535 → unless_far far whole ≡ Ok code → IsFinished pieces code
    by_far None le g = let same : code ≡ whole = cc in record { short = le; bytes = ap (λ (c : Code). c.bytes) same; bare = ap (λ (c : Code). c.attributes) same }
    by_far (Some d) le g = absurd cc

    by_size : (b : Bool) → ltb 65535 (size_of_all pieces) ≡ b → (if b then Err (TooLong (size_of_all pieces)) else unless_far (far_jump (place_in pieces) 0 pieces) whole) ≡ Ok code → IsFinished pieces code
    by_size true t g = absurd cc
    by_size false t g = by_far (far_jump (place_in pieces) 0 pieces) (ltb-false 65535 (size_of_all pieces) t) g

-- ITEMS WITH AN INSTRUCTION

abbrev is_plain : Item → Bool
is_plain (Plain instr) = true
is_plain (Uses use_ wanted) = false
is_plain (CallsInterface key signature) = false
is_plain (Branch jump label) = false
is_plain (Mark label) = false

op_takes : (bytes : Option (List ℕ)) (piece : Piece) → option_and_then op_piece bytes ≡ Some piece → 0 < size_of piece
op_takes None piece e = absurd cc
op_takes (Some []) piece e = absurd cc
op_takes (Some (opcode ∷ operands)) piece e = let is : OpPiece opcode operands ≡ piece = cc in subst (λ (p : Piece). 0 < size_of p) is (omega arith)

items_take : (list : List Const) (items : List Item) (pieces : List Piece) → list_any is_plain items ≡ true → AreOf list (lines_of items) pieces → 0 < size_of_all pieces
items_take list [] pieces e h = absurd (true≢false (sym e))
items_take list (item ∷ items) [] e h = absurd h
items_take list (Plain instr ∷ items) (piece ∷ pieces) e h = let first = op_takes (bytes_of instr) piece h.1 in omega (arith, first)
items_take list (Uses use_ wanted ∷ items) (piece ∷ pieces) e h = let rest = items_take list items pieces e h.2 in omega (arith, rest)
items_take list (CallsInterface key signature ∷ items) (piece ∷ pieces) e h = let rest = items_take list items pieces e h.2 in omega (arith, rest)
items_take list (Branch jump label ∷ items) (piece ∷ pieces) e h = let rest = items_take list items pieces e h.2 in omega (arith, rest)
items_take list (Mark label ∷ items) (piece ∷ pieces) e h = let rest = items_take list items pieces e h.2 in omega (arith, rest)

-- a member that is declared has an instruction at its end
end_plain : (result : Option Kind) → list_any is_plain (end_code result) ≡ true
end_plain None = refl
end_plain (Some Number) = refl
end_plain (Some LongNumber) = refl
end_plain (Some Reference) = refl

last_plain : (first second : List Item) (result : Option Kind) → list_any is_plain (first ++ (second ++ end_code result)) ≡ true
last_plain first second result =
    list_any-append is_plain first (second ++ end_code result)
    ∙ ap (λ (b : Bool). list_any is_plain first || b) (list_any-append is_plain second (end_code result) ∙ ap (λ (b : Bool). list_any is_plain second || b) (end_plain result) ∙ or-true (list_any is_plain second))
    ∙ or-true (list_any is_plain first)

framed_plain : (result : Option Kind) (start : Part) (m : TypedMember) → list_any is_plain (framed result start m).items ≡ true
framed_plain result start m = last_plain start.items (block_code m.block start.next 0 1).items result

member_plain : (hier : Hier) (head : Iface) (m : TypedMember) (p : TypedPart) → is_declared head p ≡ true → list_any is_plain (part_code hier head m p).items ≡ true
member_plain hier head m (part.Field at) e = absurd (true≢false (sym e))
member_plain hier head m (part.Method at) e = by_method (slice_get head.methods at) e where
  by_method : (o : Option IfaceMethod) → is_some o ≡ true → list_any is_plain (method_code hier o m).items ≡ true
  by_method None e = absurd (true≢false (sym e))
  by_method (Some method) e = framed_plain (kind_of_type method.result) (record { items = aliases_code hier (given_to method) method.aliases; next = 2; need = 1 }) m
member_plain hier head m (part.Constructor at) e = framed_plain None (super_code head.superclass m 2) m

-- THE CODE OF A MEMBER

module _ (hier : Hier) (head : Iface) (m : TypedMember) (old new : List Const) where
  abbrev lines : List Line
  lines = lines_of (member_code hier head m).items

  abbrev Sized : Result Code BodyFault → Type 0
  Sized res = IfOk res (IsSized head m)

  abbrev Asked : Result Code BodyFault → Type 0
  Asked res = OnOk res (new ≡ with_lines old lines)

  sized_lines : (need locals : ℕ) (code : Code) → IsWritten lines old new need locals (Ok code) → IsSized head m code
  sized_lines need locals code w =
      let pieces : List Piece = w.1.0 in
      let f = is_finished pieces need locals code w.1.2 in
      let long : length code.bytes ≡ size_of_all pieces = ap (λ (bytes : List ℕ). length bytes) f.bytes ∙ length-laid (place_in pieces) 0 pieces in
      record {
        some = λ e. let some = items_take new (member_code hier head m).items pieces (member_plain hier head m m.part e) w.1.1 in omega (arith, some, long);
        short = omega (arith, f.short, long);
        bare = f.bare;
      }

  of_lines : (labels : ℕ) (ls : List Line) (need locals : ℕ) (res : Result Code BodyFault) → ls ≡ lines → Lays labels ls old new need locals res → Sized res × Asked res
  of_lines labels ls need locals (Ok code) e laid =
      let w : IsWritten lines old new need locals (Ok code) = subst (λ (ls : List Line). IsWritten ls old new need locals (Ok code)) e laid in (sized_lines need locals code w, w.0)
  of_lines labels ls need locals (Err fault) e laid = (tt, tt)

  pub measured : (a b : Body) (need : ℕ) (res : Result Code BodyFault) → a.lines.items ≡ [] → Puts a b need (member_code hier head m) → Lays b.labels b.lines.items old new need m.locals res → Sized res × Asked res
  measured a b need res e h laid = of_lines b.labels b.lines.items need m.locals res (h.lines ∙ ap (λ (ls : List Line). ls ++ lines) e) laid
