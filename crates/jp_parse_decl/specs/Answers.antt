-- What the functions that read parts of a unit answer.
use Rattle.std.specs.Prelude.{◌≡◌, Bool, List, ◌∷◌, Result, Ok, Err, ◌⊎◌}
use Rattle.std.specs.Borrow.{Bor}
use Rattle.jp_ast.specs.declared.token.Token.{Token}
use Rattle.jp_ast.specs.declared.decl.Decl.{Decl}
use Rattle.jp_grammar.specs.declared.kind.Kind.{Kind}
use Rattle.jp_grammar.specs.declared.kind.Kind.TheVariants as k
use Rattle.jp_grammar.specs.declared.fault.ParseFault.{ParseFault}
use Rattle.jp_grammar.specs.Kinds.{Is, Tokens}
use Rattle.jp_grammar.specs.Reading.{Reads, Ends, IsText, Found, Fails, Refused}
use Rattle.jp_parse_decl.specs.Behind.{ends_end}
use Rattle.jp_parse_decl.specs.Bounds.{SmallDecls}
use Rattle.jp_parse_decl.specs.Parts.{Gathered}

-- what a function answers that reads a part: the part, of which P holds, and the tokens behind it, or the fault
abbrev pub Yields : {T : Type 0} → Reads T → (Token → Bool) → (T → Type 0) → Tokens → Result (T × Bor Tokens) ParseFault → Type 0
Yields R ends P xs (Ok x) = Found R (λ _. ends) xs x.0 x.1.now × P x.0
Yields R ends P xs (Err e) = Fails R (λ _. ends) ends P xs e

-- the tokens begin with a token of this kind, and go on with the rest
pub record SkipsOne (kind : Kind) (xs zs : Tokens) : Type 0 where
  pub first : Token
  pub split : xs ≡ first ∷ zs
  pub is_kind : Is kind first

-- the tokens begin with something else than this kind
pub record SkipsNone (kind : Kind) (xs zs : Tokens) : Type 0 where
  pub first : Token
  pub rest : Tokens
  pub split : xs ≡ first ∷ rest
  pub other : Is kind first → ⊥
  pub same : zs ≡ xs

-- what is left behind a token of this kind, where it stands there
abbrev pub Skips : Kind → Tokens → Tokens → Type 0
Skips kind xs zs = SkipsOne kind xs zs ⊎ SkipsNone kind xs zs

-- the tokens begin with the word `class`, and go on with the rest
abbrev pub TakesWord : Tokens → Tokens → Type 0
TakesWord xs zs = SkipsOne k.Class xs zs

-- the tokens begin with something else than the word `class`, and it is refused
pub record LacksWord (xs : Tokens) (e : ParseFault) : Type 0 where
  pub first : Token
  pub rest : Tokens
  pub split : xs ≡ first ∷ rest
  pub other : Is k.Class first → ⊥
  pub refused : Refused first e

-- the declarations up to the end of the text, or the fault
abbrev pub Gathers : Tokens → Result (List Decl) ParseFault → Type 0
Gathers xs (Ok ds) = (zs : Tokens) × Found Gathered (λ _. ends_end) xs ds zs × Ends ends_end zs × IsText zs × SmallDecls ds
Gathers xs (Err e) = Fails Gathered (λ _. ends_end) ends_end SmallDecls xs e
