-- How many bytes items take at most (JVM specification, second edition, chapter 6).
use Rattle.std.specs.Prelude.{ℕ, ◌+◌, List, [], ◌∷◌}
use Rattle.code_asm.specs.Items.{Item, Plain, Uses, CallsInterface, Branch, Mark}

-- An opcode without a jump has two bytes behind it at most, and one with a constant has the constant's index there. The opcode
-- that calls an interface's method has four bytes behind it, and a jump has its distance in two
abbrev pub most_bytes : Item → ℕ
most_bytes (Plain instr) = 3
most_bytes (Uses use_ wanted) = 3
most_bytes (CallsInterface key signature) = 5
most_bytes (Branch jump label) = 3
most_bytes (Mark label) = 0

abbrev pub most_bytes_of : List Item → ℕ
most_bytes_of [] = 0
most_bytes_of (item ∷ items) = most_bytes item + most_bytes_of items
