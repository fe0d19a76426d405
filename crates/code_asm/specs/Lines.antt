-- The lines that items are: without what only their meaning speaks of.
use Rattle.std.specs.Prelude.{◌≡◌, ℕ, ◌+◌, Bool, true, false, ◌==◌, nat_lt, List, [], ◌∷◌, map, is_some}
use Rattle.std.specs.List.{list_any, list_all}
use Rattle.jp_store.specs.Classes.{Key}
use Rattle.jvm_table.specs.Descriptors.{places_of}
use Rattle.code_asm.specs.declared.line.MemberName.{MemberName}
use Rattle.code_asm.specs.declared.line.Named.{Named}
use Rattle.code_asm.specs.declared.line.Named.TheVariants as named
use Rattle.code_asm.specs.declared.line.Line.{Line}
use Rattle.code_asm.specs.declared.line.Line.TheVariants as line
use Rattle.code_asm.specs.Encoding.{bytes_of}
use Rattle.code_asm.specs.Items.{Wanted, IntOf, TextOf, FieldOf, ClassOf, MethodOf, FamilyOf, BuiltIn, Item, Plain, Uses, CallsInterface, Branch, Mark}

abbrev pub name_of : Key → MemberName
name_of key = record { class = key.class; name = key.name; descriptor = key.descriptor }

abbrev pub named_of : Wanted → Named
named_of (IntOf n) = named.Int n
named_of (TextOf bytes) = named.Text bytes
named_of (FieldOf key) = named.Field (name_of key)
named_of (ClassOf name) = named.Class name
named_of (MethodOf key signature) = named.Method (name_of key)
named_of (FamilyOf key signature) = named.Method (name_of key)
named_of (BuiltIn key) = named.Method (name_of key)

abbrev pub line_of : Item → Line
line_of (Plain instr) = line.Plain instr
line_of (Uses use_ wanted) = line.Uses use_ (named_of wanted)
line_of (CallsInterface key signature) = line.CallsInterface (name_of key) (1 + places_of signature.parameters)
line_of (Branch jump label) = line.Branch jump label
line_of (Mark label) = line.Mark label

abbrev pub lines_of : List Item → List Line
lines_of items = map line_of items

-- whether a line is a label's mark
abbrev pub line_marks : ℕ → Line → Bool
line_marks label (line.Plain instr) = false
line_marks label (line.Uses use_ wanted) = false
line_marks label (line.CallsInterface m count) = false
line_marks label (line.Branch jump to) = false
line_marks label (line.Mark marked) = label == marked

abbrev pub is_marked_in : List Line → ℕ → Bool
is_marked_in lines label = list_any (line_marks label) lines

-- each label is marked once at most
abbrev pub MarkOnce : List Line → Type 0
MarkOnce [] = Unit {0}
MarkOnce (line.Plain instr ∷ lines) = MarkOnce lines
MarkOnce (line.Uses use_ wanted ∷ lines) = MarkOnce lines
MarkOnce (line.CallsInterface m count ∷ lines) = MarkOnce lines
MarkOnce (line.Branch jump label ∷ lines) = MarkOnce lines
MarkOnce (line.Mark label ∷ lines) = (is_marked_in lines label ≡ false) × MarkOnce lines

-- whether a line's label is one of the first n
abbrev pub is_labelled : ℕ → Line → Bool
is_labelled n (line.Plain instr) = true
is_labelled n (line.Uses use_ wanted) = true
is_labelled n (line.CallsInterface m count) = true
is_labelled n (line.Branch jump label) = nat_lt label n
is_labelled n (line.Mark label) = nat_lt label n

-- whether a jump's label is marked among lines
abbrev pub line_lands : List Line → Line → Bool
line_lands all (line.Plain instr) = true
line_lands all (line.Uses use_ wanted) = true
line_lands all (line.CallsInterface m count) = true
line_lands all (line.Branch jump label) = is_marked_in all label
line_lands all (line.Mark label) = true

-- lines with n labels, each marked once at most, and once if a jump leads to it
pub record AreLabelled (n : ℕ) (lines : List Line) : Type 0 where
  pub below : list_all (is_labelled n) lines ≡ true
  pub once : MarkOnce lines
  pub land : list_all (line_lands lines) lines ≡ true

-- whether there is an opcode for a line
abbrev pub has_opcode : Line → Bool
has_opcode (line.Plain instr) = is_some (bytes_of instr)
has_opcode (line.Uses use_ wanted) = true
has_opcode (line.CallsInterface m count) = nat_lt count 256
has_opcode (line.Branch jump label) = true
has_opcode (line.Mark label) = true
