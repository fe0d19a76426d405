-- Lines stay written while constants are added.
use Rattle.std.proofs.Common.{◌≡◌, ℕ, ◌+◌, ◌<◌, zero, suc, ◌≤◌, Bool, true, false, ◌||◌, ◌&&◌, if◌then◌else◌, List, [], ◌∷◌, ◌++◌, length, take, drop, get_or, Option, Some, None, Ok, Err, refl, sym, ap, ◌∙◌, subst, arith, length-append, lt-ltb, true≢false, inl, inr}
use Rattle.std.proofs.lemmas.List.{append-nil, take_more, take-append-drop}
use Rattle.std.proofs.lemmas.Bool.Decides.{eqb_tells}
use Rattle.std.proofs.Math.Bool.{or-true}
use Rattle.std.specs.Option.{option_and_then}
use Rattle.std.specs.List.{list_all}
use Rattle.std.specs.Prelude.{nat_lt}
use Rattle.class_form.specs.declared.constant.Const.{Const}
use Rattle.class_form.specs.declared.constant.Const.TheVariants.{Integer, Fieldref, Methodref, InterfaceMethodref}
use Rattle.jvm_table.specs.declared.instr.ConstantUse.{ConstantUse}
use Rattle.code_asm.specs.declared.line.MemberName.{MemberName}
use Rattle.code_asm.specs.declared.line.Named.{Named}
use Rattle.code_asm.specs.declared.line.Named.TheVariants as named
use Rattle.code_asm.specs.declared.line.Line.{Line}
use Rattle.code_asm.specs.declared.line.Line.TheVariants as line
use Rattle.code_asm.specs.declared.fault.AsmFault.{AsmFault}
use Rattle.code_asm.specs.declared.fault.AsmFault.TheVariants.{Full, TooLong, FarJump, OutOfMemory}
use Rattle.code_asm.specs.Held.{Answers, Extends, Fails}
use Rattle.code_asm.specs.Lines.{line_marks, is_marked_in, MarkOnce, line_lands}
use Rattle.code_asm.specs.Pieces.{Piece, OpPiece, JumpPiece, MarkPiece, Draft, marks, is_marked, lands_in, all_land}
use Rattle.code_asm.specs.Encoding.{bytes_of, jump_opcode, use_bytes, interface_bytes}
use Rattle.code_asm.specs.Written.{hold_name, hold_named, with_line, with_lines, op_piece, use_piece, interface_piece, piece_of, AreOf}
use Rattle.code_asm.specs.Assembled.{Assembles, PutsBytes, PutsLine}
use Rattle.code_asm.proofs.Naming.{IsHolding, one_held, class_held, text_held, member_held, int_proper, pair_proper, extends_more}

pub named_held : (n : Named) → IsHolding (λ list. hold_named list n)
named_held (named.Int n) = one_held (Integer n) (int_proper n)
named_held (named.Text bytes) = text_held bytes
named_held (named.Class name) = class_held name
named_held (named.Field m) = member_held Fieldref pair_proper m.class m.name m.descriptor
named_held (named.Method m) = member_held Methodref pair_proper m.class m.name m.descriptor

pub call_held : (m : MemberName) → IsHolding (λ list. hold_name InterfaceMethodref list m)
call_held m = member_held InterfaceMethodref pair_proper m.class m.name m.descriptor

-- a use of what is held was written
pub use_put : (use_ : ConstantUse) (n : Named) (old new : List Const) (index : ℕ) (from to : Draft) → Answers (hold_named old n) old new (Ok index) → index < 65536
    → PutsBytes (Some (use_bytes use_ index)) from to → PutsLine (line.Uses use_ n) old new from to (Ok tt)
use_put use_ n old new index from to a lt p =
    let again : hold_named new n ≡ hold_named old n = ap (λ l. hold_named l n) a.0 ∙ (named_held n).twice old in
    let same : (hold_named new n).index ≡ index = ap (λ h. h.index) again ∙ sym a.1 in (
      a.0,
      λ few. a.2,
      record {
        piece = p.0;
        is = ap (λ i. use_piece use_ i) same ∙ ap (λ b. if b then op_piece (use_bytes use_ index) else None) (lt-ltb index 65536 lt) ∙ p.1;
        put = p.2;
      },
    )

-- a call of an interface's method was written
pub call_put : (m : MemberName) (count : ℕ) (old new : List Const) (index : ℕ) (from to : Draft) → Answers (hold_name InterfaceMethodref old m) old new (Ok index) → index < 65536
    → nat_lt count 256 ≡ true → PutsBytes (Some (interface_bytes index count)) from to → PutsLine (line.CallsInterface m count) old new from to (Ok tt)
call_put m count old new index from to a lt short p =
    let again : hold_name InterfaceMethodref new m ≡ hold_name InterfaceMethodref old m = ap (λ l. hold_name InterfaceMethodref l m) a.0 ∙ (call_held m).twice old in
    let same : (hold_name InterfaceMethodref new m).index ≡ index = ap (λ h. h.index) again ∙ sym a.1 in
    let both : (nat_lt index 65536 && nat_lt count 256) ≡ true = ap (λ b. b && nat_lt count 256) (lt-ltb index 65536 lt) ∙ short in (
      a.0,
      λ few. a.2,
      record {
        piece = p.0;
        is = ap (λ i. interface_piece i count) same ∙ ap (λ b. if b then op_piece (interface_bytes index count) else None) both ∙ p.1;
        put = p.2;
      },
    )

-- a piece that is an opcode with operands
pub record IsOp (bytes : Option (List ℕ)) (piece : Piece) : Type 0 where
  pub opcode : ℕ
  pub operands : List ℕ
  pub spelled : bytes ≡ Some (opcode ∷ operands)
  pub is : piece ≡ OpPiece opcode operands

pub opened : (bytes : Option (List ℕ)) (piece : Piece) → option_and_then op_piece bytes ≡ Some piece → IsOp bytes piece
opened None piece e = absurd cc
opened (Some []) piece e = absurd cc
opened (Some (opcode ∷ operands)) piece e = record { opcode = opcode; operands = operands; spelled = refl; is = cc }

pub opened_if : (b : Bool) (bytes : List ℕ) (piece : Piece) → (if b then op_piece bytes else None) ≡ Some piece → (b ≡ true) × IsOp (Some bytes) piece
opened_if true bytes piece e = (refl, opened (Some bytes) piece e)
opened_if false bytes piece e = absurd cc

pub both_left : (a b : Bool) → (a && b) ≡ true → a ≡ true
both_left true b h = refl
both_left false b h = h

-- each label is marked once among pieces too
abbrev pub AreMarkedOnce : List Piece → Type 0
AreMarkedOnce [] = Unit {0}
AreMarkedOnce (OpPiece opcode operands ∷ pieces) = AreMarkedOnce pieces
AreMarkedOnce (JumpPiece opcode label ∷ pieces) = AreMarkedOnce pieces
AreMarkedOnce (MarkPiece label ∷ pieces) = (is_marked pieces label ≡ false) × AreMarkedOnce pieces

-- the piece that a line is
module _ (list : List Const) where
  use_op : (use_ : ConstantUse) (n : Named) (p : Piece) → piece_of list (line.Uses use_ n) ≡ Some p → IsOp (Some (use_bytes use_ (hold_named list n).index)) p
  use_op use_ n p e = (opened_if (nat_lt (hold_named list n).index 65536) (use_bytes use_ (hold_named list n).index) p e).1

  call_op : (m : MemberName) (count : ℕ) (p : Piece) → piece_of list (line.CallsInterface m count) ≡ Some p → IsOp (Some (interface_bytes (hold_name InterfaceMethodref list m).index count)) p
  call_op m count p e = (opened_if (nat_lt (hold_name InterfaceMethodref list m).index 65536 && nat_lt count 256) (interface_bytes (hold_name InterfaceMethodref list m).index count) p e).1

  -- it marks what the line marks
  piece_marks : (l : Line) (p : Piece) (label : ℕ) → piece_of list l ≡ Some p → marks label p ≡ line_marks label l
  piece_marks (line.Plain instr) p label e = ap (marks label) (opened (bytes_of instr) p e).is
  piece_marks (line.Uses use_ n) p label e = ap (marks label) (use_op use_ n p e).is
  piece_marks (line.CallsInterface m count) p label e = ap (marks label) (call_op m count p e).is
  piece_marks (line.Branch jump to) p label e = let is : p ≡ JumpPiece (jump_opcode jump) to = cc in ap (marks label) is
  piece_marks (line.Mark to) p label e = let is : p ≡ MarkPiece to = cc in ap (marks label) is

  pub pieces_marked : (lines : List Line) (pieces : List Piece) (label : ℕ) → AreOf list lines pieces → is_marked pieces label ≡ is_marked_in lines label
  pieces_marked [] [] label of = refl
  pieces_marked [] (p ∷ ps) label of = absurd of
  pieces_marked (l ∷ ls) [] label of = absurd of
  pieces_marked (l ∷ ls) (p ∷ ps) label of =
      ap (λ b. b || is_marked ps label) (piece_marks l p label of.1) ∙ ap (λ b. line_marks label l || b) (pieces_marked ls ps label of.2)

  pub pieces_once : (lines : List Line) (pieces : List Piece) → AreOf list lines pieces → MarkOnce lines → AreMarkedOnce pieces
  pieces_once [] [] of once = tt
  pieces_once [] (p ∷ ps) of once = absurd of
  pieces_once (l ∷ ls) [] of once = absurd of
  pieces_once (line.Plain instr ∷ ls) (p ∷ ps) of once = subst (λ q. AreMarkedOnce (q ∷ ps)) (sym (opened (bytes_of instr) p of.1).is) (pieces_once ls ps of.2 once)
  pieces_once (line.Uses use_ n ∷ ls) (p ∷ ps) of once = subst (λ q. AreMarkedOnce (q ∷ ps)) (sym (use_op use_ n p of.1).is) (pieces_once ls ps of.2 once)
  pieces_once (line.CallsInterface m count ∷ ls) (p ∷ ps) of once = subst (λ q. AreMarkedOnce (q ∷ ps)) (sym (call_op m count p of.1).is) (pieces_once ls ps of.2 once)
  pieces_once (line.Branch jump to ∷ ls) (p ∷ ps) of once =
      let is : JumpPiece (jump_opcode jump) to ≡ p = cc in
      subst (λ q. AreMarkedOnce (q ∷ ps)) is (pieces_once ls ps of.2 once)
  pieces_once (line.Mark to ∷ ls) (p ∷ ps) of once =
      let is : MarkPiece to ≡ p = cc in
      subst (λ q. AreMarkedOnce (q ∷ ps)) is (pieces_marked ls ps to of.2 ∙ once.0, pieces_once ls ps of.2 once.1)

  -- it leads where the line leads
  piece_lands : (all : List Line) (whole : List Piece) → ((label : ℕ) → is_marked whole label ≡ is_marked_in all label) → (l : Line) (p : Piece) → piece_of list l ≡ Some p → lands_in whole p ≡ line_lands all l
  piece_lands all whole same (line.Plain instr) p e = ap (lands_in whole) (opened (bytes_of instr) p e).is
  piece_lands all whole same (line.Uses use_ n) p e = ap (lands_in whole) (use_op use_ n p e).is
  piece_lands all whole same (line.CallsInterface m count) p e = ap (lands_in whole) (call_op m count p e).is
  piece_lands all whole same (line.Branch jump to) p e = let is : p ≡ JumpPiece (jump_opcode jump) to = cc in ap (lands_in whole) is ∙ same to
  piece_lands all whole same (line.Mark to) p e = let is : p ≡ MarkPiece to = cc in ap (lands_in whole) is

  pieces_land_among : (all : List Line) (whole : List Piece) → ((label : ℕ) → is_marked whole label ≡ is_marked_in all label) → (lines : List Line) (pieces : List Piece) → AreOf list lines pieces
      → list_all (lands_in whole) pieces ≡ list_all (line_lands all) lines
  pieces_land_among all whole same [] [] of = refl
  pieces_land_among all whole same [] (p ∷ ps) of = absurd of
  pieces_land_among all whole same (l ∷ ls) [] of = absurd of
  pieces_land_among all whole same (l ∷ ls) (p ∷ ps) of =
      ap (λ b. b && list_all (lands_in whole) ps) (piece_lands all whole same l p of.1) ∙ ap (λ b. line_lands all l && b) (pieces_land_among all whole same ls ps of.2)

  pub pieces_land : (lines : List Line) (pieces : List Piece) → AreOf list lines pieces → list_all (line_lands lines) lines ≡ true → all_land pieces ≡ true
  pieces_land lines pieces of h = pieces_land_among lines pieces (λ label. pieces_marked lines pieces label of) lines pieces of ∙ h

-- a line whose constants are there is the same piece whatever stands behind them
line_more : (list more : List Const) (l : Line) → with_line list l ≡ list → (with_line (list ++ more) l ≡ list ++ more) × (piece_of (list ++ more) l ≡ piece_of list l)
line_more list more (line.Plain instr) e = (refl, refl)
line_more list more (line.Uses use_ n) e = let a = (named_held n).again list more e in (ap (λ h. h.constants) a, ap (λ h. use_piece use_ h.index) a)
line_more list more (line.CallsInterface m count) e = let a = (call_held m).again list more e in (ap (λ h. h.constants) a, ap (λ h. interface_piece h.index count) a)
line_more list more (line.Branch jump label) e = (refl, refl)
line_more list more (line.Mark label) e = (refl, refl)

-- pieces stay those of lines while constants are added
pub of_more : (old new : List Const) (lines : List Line) (pieces : List Piece) → Extends old new → AreOf old lines pieces → AreOf new lines pieces
of_more old new lines pieces e of = subst (λ l. AreOf l lines pieces) (sym e.1) (step lines pieces of)
  where
    step : (lines : List Line) (pieces : List Piece) → AreOf old lines pieces → AreOf (old ++ e.0) lines pieces
    step [] [] of = tt
    step [] (p ∷ ps) of = absurd of
    step (l ∷ ls) [] of = absurd of
    step (l ∷ ls) (p ∷ ps) of = let m = line_more old e.0 l of.0 in (m.0, m.1 ∙ of.1, step ls ps of.2)

of_end : (list : List Const) (lines : List Line) (pieces : List Piece) (l : Line) (p : Piece) → AreOf list lines pieces → with_line list l ≡ list → piece_of list l ≡ Some p
    → AreOf list (lines ++ l ∷ []) (pieces ++ p ∷ [])
of_end list [] [] l p of e f = (e, f, tt)
of_end list [] (q ∷ qs) l p of e f = absurd of
of_end list (k ∷ ks) [] l p of e f = absurd of
of_end list (k ∷ ks) (q ∷ qs) l p of e f = (of.0, of.1, of_end list ks qs l p of.2 e f)

line_extends : (list : List Const) (l : Line) → Extends list (with_line list l)
line_extends list (line.Plain instr) = ([], sym (append-nil list))
line_extends list (line.Uses use_ n) = (named_held n).extends list
line_extends list (line.CallsInterface m count) = (call_held m).extends list
line_extends list (line.Branch jump label) = ([], sym (append-nil list))
line_extends list (line.Mark label) = ([], sym (append-nil list))

line_settled : (list : List Const) (l : Line) → with_line (with_line list l) l ≡ with_line list l
line_settled list (line.Plain instr) = refl
line_settled list (line.Uses use_ n) = ap (λ h. h.constants) ((named_held n).twice list)
line_settled list (line.CallsInterface m count) = ap (λ h. h.constants) ((call_held m).twice list)
line_settled list (line.Branch jump label) = refl
line_settled list (line.Mark label) = refl

with_lines-end : (list : List Const) (lines : List Line) (l : Line) → with_lines list (lines ++ l ∷ []) ≡ with_line (with_lines list lines) l
with_lines-end list [] l = refl
with_lines-end list (k ∷ ks) l = with_lines-end (with_line list k) ks l

with_lines-append : (list : List Const) (a b : List Line) → with_lines list (a ++ b) ≡ with_lines (with_lines list a) b
with_lines-append list [] b = refl
with_lines-append list (k ∷ ks) b = with_lines-append (with_line list k) ks b

pub lines_extend : (list : List Const) (lines : List Line) → Extends list (with_lines list lines)
lines_extend list [] = ([], sym (append-nil list))
lines_extend list (k ∷ ks) = extends_more list (with_line list k) (with_lines (with_line list k) ks) (line_extends list k) (lines_extend (with_line list k) ks)

-- Of lines those in front of a place are written
pub record Going (lines : List Line) (old new : List Const) (pieces : List Piece) (i : ℕ) : Type 0 where
  pub constants : new ≡ with_lines old (take i lines)
  pub of : AreOf new (take i lines) pieces
  pub few : 1 + length old < 65536 → 1 + length new < 65536

-- one more line is written
pub goes_on : (lines : List Line) (old mid new : List Const) (from to : Draft) (i : ℕ) (l : Line) → i < length lines → l ≡ get_or lines i l → Going lines old mid from.pieces i
    → PutsLine l mid new from to (Ok tt) → Going lines old new to.pieces (i + 1)
goes_on lines old mid new from to i l lt e g p =
    let shown : take (i + 1) lines ≡ take i lines ++ l ∷ [] = take_more lines i l lt ∙ ap (λ x. take i lines ++ x ∷ []) (sym e) in
    let grown : Extends mid new = let x = line_extends mid l in (x.0, p.0 ∙ x.1) in
    let settled : with_line new l ≡ new = ap (λ x. with_line x l) p.0 ∙ line_settled mid l ∙ sym p.0 in
    record {
      constants = p.0 ∙ ap (λ x. with_line x l) g.constants ∙ sym (with_lines-end old (take i lines) l) ∙ sym (ap (with_lines old) shown);
      of = subst (λ x. AreOf new x to.pieces) (sym shown) (subst (AreOf new (take i lines ++ l ∷ [])) (sym (ap (λ d. d.pieces) p.2.put)) (of_end new (take i lines) from.pieces l p.2.piece (of_more mid new (take i lines) from.pieces grown g.of) settled p.2.is));
      few = λ h. p.1 (g.few h);
    }

-- constants that a line wants are among those of all lines
pub fails_for_all : (lines : List Line) (old mid : List Const) (i : ℕ) (l : Line) → i < length lines → l ≡ get_or lines i l → mid ≡ with_lines old (take i lines)
    → length (with_line mid l) ≤ length (with_lines old lines)
fails_for_all lines old mid i l lt e c =
    let shown : take (i + 1) lines ≡ take i lines ++ l ∷ [] = take_more lines i l lt ∙ ap (λ x. take i lines ++ x ∷ []) (sym e) in
    let here : with_line mid l ≡ with_lines old (take (i + 1) lines) = ap (λ x. with_line x l) c ∙ sym (with_lines-end old (take i lines) l) ∙ sym (ap (with_lines old) shown) in
    let whole : with_lines old lines ≡ with_lines (with_lines old (take (i + 1) lines)) (drop (i + 1) lines) = ap (with_lines old) (sym (take-append-drop (i + 1) lines)) ∙ with_lines-append old (take (i + 1) lines) (drop (i + 1) lines) in
    let x = lines_extend (with_lines old (take (i + 1) lines)) (drop (i + 1) lines) in
    omega (arith, ap length here, ap length whole, ap length x.1, length-append (with_lines old (take (i + 1) lines)) x.0)

-- a line that marks a label is the first that does
pub first_mark : (lines : List Line) (i label : ℕ) (l : Line) → MarkOnce lines → i < length lines → l ≡ get_or lines i l → line_marks label l ≡ true → is_marked_in (take i lines) label ≡ false
first_mark [] zero label l once lt e m = refl
first_mark [] (suc i) label l once lt e m = refl
first_mark (k ∷ ks) zero label l once lt e m = refl
first_mark (k ∷ ks) (suc i) label l once lt e m = ap (λ b. b || is_marked_in (take i ks) label) (apart k once) ∙ first_mark ks i label l (behind k once) (omega arith) e m
  where
    behind : (k : Line) → MarkOnce (k ∷ ks) → MarkOnce ks
    behind (line.Plain instr) o = o
    behind (line.Uses use_ n) o = o
    behind (line.CallsInterface q count) o = o
    behind (line.Branch jump to) o = o
    behind (line.Mark to) o = o.1

    there : (ls : List Line) (j : ℕ) → j < length ls → l ≡ get_or ls j l → is_marked_in ls label ≡ true
    there [] j lt f = absurd (omega arith)
    there (x ∷ xs) zero lt f = ap (λ b. b || is_marked_in xs label) (ap (line_marks label) (sym f) ∙ m)
    there (x ∷ xs) (suc j) lt f = ap (λ b. line_marks label x || b) (there xs j (omega arith) f) ∙ or-true (line_marks label x)

    apart : (k : Line) → MarkOnce (k ∷ ks) → line_marks label k ≡ false
    apart (line.Plain instr) o = refl
    apart (line.Uses use_ n) o = refl
    apart (line.CallsInterface q count) o = refl
    apart (line.Branch jump to) o = refl
    apart (line.Mark to) o = elim (eqb_tells label to) [
      | inl t ↦ absurd (true≢false (sym (there ks i (omega arith) e) ∙ ap (is_marked_in ks) t.1 ∙ o.0))
      | inr t ↦ t.0
    ]

-- a fault of a line is one of all lines
pub faults_are : (lines : List Line) (old mid new : List Const) (i : ℕ) (l : Line) (stack locals : ℕ) (fault : AsmFault) → i < length lines → l ≡ get_or lines i l → mid ≡ with_lines old (take i lines)
    → Fails fault (with_line mid l) → Assembles lines old new stack locals (Err fault)
faults_are lines old mid new i l stack locals Full lt e c f = let most = fails_for_all lines old mid i l lt e c in omega (arith, f, most)
faults_are lines old mid new i l stack locals (TooLong bytes) lt e c f = absurd f
faults_are lines old mid new i l stack locals (FarJump by) lt e c f = absurd f
faults_are lines old mid new i l stack locals OutOfMemory lt e c f = tt
