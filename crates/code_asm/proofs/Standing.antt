-- Items whose pieces are laid out stand in the code.
use Rattle.std.proofs.Common.{◌≡◌, ℕ, ◌+◌, ◌<◌, ◌≤◌, ℤ, Bool, true, false, ◌||◌, ◌&&◌, cond, if◌then◌else◌, List, [], ◌∷◌, ◌++◌, length, Option, Some, None, Ok, Err, refl, sym, ap, ◌∙◌, subst, arith, length-append, true≢false, eqb, ltb, inl, inr, add-zero, zero-add, eq-eqb}
use Rattle.std.proofs.lemmas.Bool.{ltb-true, ltb-false}
use Rattle.std.proofs.lemmas.Bool.Decides.{eqb_tells}
use Rattle.std.specs.Prelude.{nat_lt}
use Rattle.std.specs.Int.{w16, cast_unsigned}
use Rattle.class_form.specs.declared.constant.Const.{Const}
use Rattle.class_form.specs.declared.constant.Const.TheVariants.{Unused, Integer, Text, Fieldref, Methodref, InterfaceMethodref}
use Rattle.class_form.specs.declared.class_file.ClassFile.{ClassFile}
use Rattle.class_form.specs.declared.member.Code.{Code}
use Rattle.class_form.specs.Layout.{u2}
use Rattle.jp_store.specs.Classes.{Key}
use Rattle.jvm_table.specs.declared.instr.Instr.{Instr}
use Rattle.jvm_table.specs.declared.instr.Instr.TheVariants.{OnConstant, InvokeInterface}
use Rattle.jvm_table.specs.Decode.{row_at}
use Rattle.jvm_table.specs.Constants.{field_in, method_in, interface_method_in, member_named}
use Rattle.jvm_table.specs.Descriptors.{places_of}
use Rattle.code_asm.specs.declared.fault.AsmFault.TheVariants.{TooLong}
use Rattle.code_asm.specs.Held.{hold, hold_class, hold_text}
use Rattle.code_asm.specs.Items.{Wanted, IntOf, TextOf, FieldOf, ClassOf, MethodOf, FamilyOf, BuiltIn, Item, Plain, Uses, CallsInterface, Branch, Mark, Names, Stands}
use Rattle.code_asm.specs.Lines.{name_of, named_of, lines_of}
use Rattle.code_asm.specs.Pieces.{Piece, OpPiece, JumpPiece, MarkPiece, size_of, size_of_all, is_marked, place_in, distance, is_short, far_jump, laid, bytes_of_all, unless_far, finished}
use Rattle.code_asm.specs.Encoding.{bytes_of, jump_opcode, use_bytes, interface_bytes}
use Rattle.code_asm.specs.Written.{hold_name, hold_named, AreOf, IsMeant, AreMeant}
use Rattle.code_asm.specs.Laws.{ItemsStand}
use Rattle.code_asm.proofs.Keeping.{place_in-le}
use Rattle.code_asm.proofs.Growing.{IsOp, opened, opened_if, both_left, AreMarkedOnce, pieces_once}
use Rattle.code_asm.proofs.Naming.{IsProper, pair_proper, HasAt, held_has, ClassAt, TextAt, MemberAt, class_has, text_has, member_has, constant_in, utf8_in, class_name_in, member_in}
use Rattle.code_asm.proofs.Rows.{BytesAt, front_at, back_at, all_at, ReadsBack, plain_read, use_read, interface_read, jump_read, length-u2}

-- the index of what is wanted, where it is there, names it
module _ (list more : List Const) (file : ClassFile) (has : file.constants ≡ Unused ∷ (list ++ more)) where
  key_named : (kind : ℕ → ℕ → Const) → ((a b : ℕ) → IsProper (kind a b)) → (parts : Const → Option (ℕ × ℕ)) → ((a b : ℕ) → parts (kind a b) ≡ Some (a, b)) → (key : Key) → (hold_name kind list (name_of key)).constants ≡ list
      → member_named parts file (hold_name kind list (name_of key)).index ≡ Some key
  key_named kind proper parts is key e =
      let i : ℕ = (hold_name kind list (name_of key)).index in
      let k = subst (λ l. MemberAt kind l i key.class key.name key.descriptor) e (member_has kind proper list key.class key.name key.descriptor) in
      member_in list file more has kind parts is i key k

  wanted_named : (w : Wanted) → (hold_named list (named_of w)).constants ≡ list → IsMeant w → Names file (hold_named list (named_of w)).index w
  wanted_named (IntOf n) e m =
      let i : ℕ = (hold list (Integer n)).index in
      let k = subst (λ l. HasAt l i (Integer n)) e (held_has list (Integer n)) in
      constant_in list file more has i (Integer n) k
  wanted_named (TextOf bytes) e m =
      let i : ℕ = (hold_text list bytes).index in
      let k = subst (λ l. TextAt l i bytes) e (text_has list bytes) in
      (k.text, constant_in list file more has i (Text k.text) k.literal, utf8_in list file more has k.text bytes k.spelled)
  wanted_named (FieldOf key) e m = key_named Fieldref pair_proper field_in (λ a b. refl) key e
  wanted_named (ClassOf name) e m =
      let i : ℕ = (hold_class list name).index in
      let k = subst (λ l. ClassAt l i name) e (class_has list name) in
      class_name_in list file more has i name k
  wanted_named (MethodOf key signature) e m = (key_named Methodref pair_proper method_in (λ a b. refl) key e, m.0, m.1)
  wanted_named (FamilyOf key signature) e m = (key_named Methodref pair_proper method_in (λ a b. refl) key e, m.0, m.1, m.2)
  wanted_named (BuiltIn key) e m = key_named Methodref pair_proper method_in (λ a b. refl) key e

module _ (code : List ℕ) (place : ℕ → ℕ) (near : (l : ℕ) → place l < 65536) where
  -- pieces are laid out from a place on
  record Fits (at : ℕ) (pieces : List Piece) : Type 0 where
    bytes : BytesAt code at (laid place at pieces)
    once : AreMarkedOnce pieces
    far : far_jump place at pieces ≡ None
    agrees : (l : ℕ) → is_marked pieces l ≡ true → place l ≡ at + place_in pieces l
    short : at + size_of_all pieces < 65536

  fits_op : (at opcode : ℕ) (operands : List ℕ) (pieces : List Piece) → Fits at (OpPiece opcode operands ∷ pieces) → Fits (at + (1 + length operands)) pieces
  fits_op at opcode operands pieces f =
      let e : at + length (opcode ∷ operands) ≡ at + (1 + length operands) = omega arith in
      record {
        bytes = subst (λ n. BytesAt code n (laid place (at + (1 + length operands)) pieces)) e (back_at code at (opcode ∷ operands) (laid place (at + (1 + length operands)) pieces) f.bytes);
        once = f.once;
        far = f.far;
        agrees = λ l m. omega (arith, f.agrees l m);
        short = omega (arith, f.short);
      }

  near_first : (d : ℤ) (further : Option ℤ) → (if is_short d then further else Some d) ≡ None → (is_short d ≡ true) × (further ≡ None)
  near_first d further e = by_test (is_short d) e
    where
      by_test : (b : Bool) → (if b then further else Some d) ≡ None → (b ≡ true) × (further ≡ None)
      by_test true e = (refl, e)
      by_test false e = absurd cc

  fits_jump : (at opcode label : ℕ) (pieces : List Piece) → Fits at (JumpPiece opcode label ∷ pieces) → Fits (at + 3) pieces
  fits_jump at opcode label pieces f =
      let u : List ℕ = u2 (cast_unsigned w16 (distance at (place label))) in
      let e : at + length (opcode ∷ u) ≡ at + 3 = omega (arith, length-u2 (cast_unsigned w16 (distance at (place label)))) in
      record {
        bytes = subst (λ n. BytesAt code n (laid place (at + 3) pieces)) e (back_at code at (opcode ∷ u) (laid place (at + 3) pieces) f.bytes);
        once = f.once;
        far = (near_first (distance at (place label)) (far_jump place (at + 3) pieces) f.far).1;
        agrees = λ l m. omega (arith, f.agrees l m);
        short = omega (arith, f.short);
      }

  fits_mark : (at label : ℕ) (pieces : List Piece) → Fits at (MarkPiece label ∷ pieces) → Fits at pieces
  fits_mark at label pieces f = record {
    bytes = f.bytes;
    once = f.once.1;
    far = f.far;
    agrees = λ l m. elim (eqb_tells l label) [
      | inl t ↦ absurd (true≢false (sym m ∙ ap (is_marked pieces) t.1 ∙ f.once.0))
      | inr t ↦ f.agrees l (ap (λ b. b || is_marked pieces l) t.0 ∙ m) ∙ ap (λ b. at + cond b 0 (0 + place_in pieces l)) t.0 ∙ ap (λ n. at + n) (zero-add (place_in pieces l))
    ];
    short = omega (arith, f.short);
  }

  -- a mark is at its label's place
  mark_here : (at label : ℕ) (pieces : List Piece) → Fits at (MarkPiece label ∷ pieces) → place label ≡ at
  mark_here at label pieces f =
      let t : eqb label label ≡ true = eq-eqb label label refl in
      f.agrees label (ap (λ b. b || is_marked pieces label) t) ∙ ap (λ b. at + cond b 0 (0 + place_in pieces label)) t ∙ add-zero at

  -- an instruction whose bytes come next
  op_row : (instr : Instr) (at : ℕ) (bytes : Option (List ℕ)) (piece : Piece) (pieces : List Piece) (o : IsOp bytes piece) → ReadsBack instr bytes → Fits at (piece ∷ pieces)
      → (row_at code at ≡ Some (record { instr = instr; next = at + size_of piece })) × Fits (at + size_of piece) pieces
  op_row instr at bytes piece pieces o reads f =
      let g : Fits at (OpPiece o.opcode o.operands ∷ pieces) = subst (λ p. Fits at (p ∷ pieces)) o.is f in
      let size : 1 + length o.operands ≡ size_of piece = sym (ap size_of o.is) in
      let e : at + length (o.opcode ∷ o.operands) ≡ at + size_of piece = omega (arith, size) in
      let read : ReadsBack instr (Some (o.opcode ∷ o.operands)) = subst (ReadsBack instr) o.spelled reads in (
        read code at (front_at code at (o.opcode ∷ o.operands) (laid place (at + (1 + length o.operands)) pieces) g.bytes) ∙ ap (λ n. Some (record { instr = instr; next = n })) e,
        subst (λ n. Fits (at + n) pieces) size (fits_op at o.opcode o.operands pieces g),
      )

  -- the items stand where their pieces are laid out, in a file with their constants
  module _ (list more : List Const) (file : ClassFile) (has : file.constants ≡ Unused ∷ (list ++ more)) where
    behind : (at : ℕ) (piece : Piece) (pieces : List Piece) → at + size_of piece + size_of_all pieces ≡ at + size_of_all (piece ∷ pieces)
    behind at piece pieces = omega arith

    stand : (items : List Item) (pieces : List Piece) (at : ℕ) → Fits at pieces → AreOf list (lines_of items) pieces → AreMeant items → Stands file code place at items (at + size_of_all pieces)
    stand [] [] at f of meant = sym (add-zero at)
    stand [] (piece ∷ pieces) at f of meant = absurd of
    stand (Plain instr ∷ items) [] at f of meant = absurd of
    stand (Uses use_ wanted ∷ items) [] at f of meant = absurd of
    stand (CallsInterface key signature ∷ items) [] at f of meant = absurd of
    stand (Branch jump label ∷ items) [] at f of meant = absurd of
    stand (Mark label ∷ items) [] at f of meant = absurd of
    stand (Plain instr ∷ items) (piece ∷ pieces) at f of meant =
        let r = op_row instr at (bytes_of instr) piece pieces (opened (bytes_of instr) piece of.1) (plain_read instr) f in
        (at + size_of piece, r.0, subst (Stands file code place (at + size_of piece) items) (behind at piece pieces) (stand items pieces (at + size_of piece) r.1 of.2 meant))
    stand (Uses use_ wanted ∷ items) (piece ∷ pieces) at f of meant =
        let i : ℕ = (hold_named list (named_of wanted)).index in
        let n = wanted_named list more file has wanted of.0 meant.0 in
        let o = opened_if (nat_lt i 65536) (use_bytes use_ i) piece of.1 in
        let r = op_row (OnConstant use_ i) at (Some (use_bytes use_ i)) piece pieces o.1 (use_read use_ i (ltb-true i 65536 o.0)) f in
        (i, at + size_of piece, r.0, n, subst (Stands file code place (at + size_of piece) items) (behind at piece pieces) (stand items pieces (at + size_of piece) r.1 of.2 meant.1))
    stand (CallsInterface key signature ∷ items) (piece ∷ pieces) at f of meant =
        let i : ℕ = (hold_name InterfaceMethodref list (name_of key)).index in
        let count : ℕ = 1 + places_of signature.parameters in
        let n = key_named list more file has InterfaceMethodref pair_proper interface_method_in (λ a b. refl) key of.0 in
        let o = opened_if (nat_lt i 65536 && nat_lt count 256) (interface_bytes i count) piece of.1 in
        let r = op_row (InvokeInterface i count) at (Some (interface_bytes i count)) piece pieces o.1 (interface_read i count (ltb-true i 65536 (both_left (nat_lt i 65536) (nat_lt count 256) o.0))) f in
        (i, at + size_of piece, r.0, n, meant.0, subst (Stands file code place (at + size_of piece) items) (behind at piece pieces) (stand items pieces (at + size_of piece) r.1 of.2 meant.1))
    stand (Branch jump label ∷ items) (piece ∷ pieces) at f of meant =
        let is : piece ≡ JumpPiece (jump_opcode jump) label = cc in
        let g : Fits at (JumpPiece (jump_opcode jump) label ∷ pieces) = subst (λ p. Fits at (p ∷ pieces)) is f in
        let short : is_short (distance at (place label)) ≡ true = (near_first (distance at (place label)) (far_jump place (at + 3) pieces) g.far).0 in
        let u : List ℕ = u2 (cast_unsigned w16 (distance at (place label))) in
        let e : at + 3 + size_of_all pieces ≡ at + size_of_all (piece ∷ pieces) = omega (arith, ap size_of is) in (
          at + 3,
          jump_read jump code at (place label) (omega (arith, f.short)) (near label) short (front_at code at (jump_opcode jump ∷ u) (laid place (at + 3) pieces) g.bytes),
          subst (Stands file code place (at + 3) items) e (stand items pieces (at + 3) (fits_jump at (jump_opcode jump) label pieces g) of.2 meant),
        )
    stand (Mark label ∷ items) (piece ∷ pieces) at f of meant =
        let is : piece ≡ MarkPiece label = cc in
        let g : Fits at (MarkPiece label ∷ pieces) = subst (λ p. Fits at (p ∷ pieces)) is f in
        let e : at + size_of_all pieces ≡ at + size_of_all (piece ∷ pieces) = omega (arith, ap size_of is) in
        (mark_here at label pieces g, subst (Stands file code place at items) e (stand items pieces at (fits_mark at label pieces g) of.2 meant))

-- code that is finished
record IsFinished (pieces : List Piece) (code : Code) : Type 0 where
  few : size_of_all pieces ≤ 65535
  near : far_jump (place_in pieces) 0 pieces ≡ None
  bytes : code.bytes ≡ bytes_of_all pieces

is_finished : (pieces : List Piece) (stack locals : ℕ) (code : Code) → finished pieces stack locals ≡ Ok code → IsFinished pieces code
is_finished pieces stack locals code e = by_size (ltb 65535 (size_of_all pieces)) refl e
  where
    whole : Code
    whole = record { max_stack = stack; max_locals = locals; bytes = bytes_of_all pieces; attributes = [] }

    by_far : (far : Option ℤ) → far_jump (place_in pieces) 0 pieces ≡ far → size_of_all pieces ≤ 65535 → unless_far far whole ≡ Ok code → IsFinished pieces code
    by_far None f le g = let same : code ≡ whole = cc in record { few = le; near = f; bytes = ap (λ c. c.bytes) same }
    by_far (Some d) f le g = absurd cc

    by_size : (b : Bool) → ltb 65535 (size_of_all pieces) ≡ b → (if b then Err (TooLong (size_of_all pieces)) else unless_far (far_jump (place_in pieces) 0 pieces) whole) ≡ Ok code → IsFinished pieces code
    by_size true t g = absurd cc
    by_size false t g = by_far (far_jump (place_in pieces) 0 pieces) refl (ltb-false 65535 (size_of_all pieces) t) g

length-laid : (place : ℕ → ℕ) (at : ℕ) (pieces : List Piece) → length (laid place at pieces) ≡ size_of_all pieces
length-laid place at [] = refl
length-laid place at (OpPiece opcode operands ∷ pieces) =
    omega (arith, length-append (opcode ∷ operands) (laid place (at + (1 + length operands)) pieces), length-laid place (at + (1 + length operands)) pieces)
length-laid place at (JumpPiece opcode label ∷ pieces) =
    let u : List ℕ = u2 (cast_unsigned w16 (distance at (place label))) in
    omega (arith, length-append (opcode ∷ u) (laid place (at + 3) pieces), length-u2 (cast_unsigned w16 (distance at (place label))), length-laid place (at + 3) pieces)
length-laid place at (MarkPiece label ∷ pieces) = omega (arith, length-laid place at pieces)

pub items_stand_lem : ItemsStand
items_stand_lem file list more items pieces stack locals code has of meant once done =
    let d = is_finished pieces stack locals code done in
    let near : (l : ℕ) → place_in pieces l < 65536 = λ l. omega (arith, place_in-le pieces l, d.few) in
    let whole : List ℕ = bytes_of_all pieces in
    let f : Fits whole (place_in pieces) near 0 pieces = record { bytes = all_at whole; once = pieces_once list (lines_of items) pieces of once; far = d.near; agrees = λ l m. sym (zero-add (place_in pieces l)); short = omega (arith, d.few) } in
    let e : 0 + size_of_all pieces ≡ length whole = omega (arith, length-laid (place_in pieces) 0 pieces) in
    subst (λ bytes. Stands file bytes (place_in pieces) 0 items (length bytes)) (sym d.bytes)
    (subst (Stands file whole (place_in pieces) 0 items) e (stand whole (place_in pieces) near list more file has items pieces 0 f of meant))
