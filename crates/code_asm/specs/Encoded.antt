-- The bytes of an opcode with its operands.
use Rattle.std.specs.Prelude.{ℕ, List, [], ◌∷◌}
use Rattle.code_asm.specs.declared.encode.Encoded.{Encoded}
use Rattle.code_asm.specs.declared.encode.Encoded.TheVariants.{Bare, WithOne, WithTwo}

abbrev pub spelled : Encoded → List ℕ
spelled (Bare opcode) = opcode ∷ []
spelled (WithOne opcode a) = opcode ∷ a ∷ []
spelled (WithTwo opcode a b) = opcode ∷ a ∷ b ∷ []
