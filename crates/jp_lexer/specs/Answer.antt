-- What `lex` answers.
use Rattle.std.specs.Prelude.{Result, Ok, Err}
use Rattle.jp_lexical.specs.declared.fault.LexFault.{LexFault}
use Rattle.jp_lexer.specs.declared.tokens.LexErr.{LexErr}
use Rattle.jp_lexer.specs.declared.tokens.LexErr.TheVariants.{Fault, OutOfMemory}

-- this holds of the fault, where the answer is one
abbrev pub IfFault : {A : Type 0} → Result A LexErr → (LexFault → Type 0) → Type 0
IfFault (Ok tokens) P = Unit {0}
IfFault (Err (Fault fault)) P = P fault
IfFault (Err OutOfMemory) P = Unit {0}
