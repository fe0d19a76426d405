-- The signs, in the order of their numbers.
use Rattle.std.specs.Prelude.{ℕ, List, [], ◌∷◌, codes}

-- each sign's bytes, from the sign with number 0 on
unfoldable pub signs : List (List ℕ)
signs =
    codes "{" ∷ codes "}" ∷ codes "(" ∷ codes ")" ∷ codes "[" ∷ codes "]" ∷ codes ";" ∷ codes "," ∷ codes "." ∷ codes "="
    ∷ codes "<" ∷ codes ">" ∷ codes "!" ∷ codes "~" ∷ codes "?" ∷ codes ":" ∷ codes "+" ∷ codes "-" ∷ codes "*" ∷ codes "/"
    ∷ codes "%" ∷ codes "&" ∷ codes "|" ∷ codes "^" ∷ codes "@" ∷ codes "==" ∷ codes "!=" ∷ codes "<=" ∷ codes ">="
    ∷ codes "&&" ∷ codes "||" ∷ codes "<<" ∷ codes ">>" ∷ codes ">>>" ∷ codes "+=" ∷ codes "-=" ∷ codes "++" ∷ codes "--" ∷ []
