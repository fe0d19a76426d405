-- What is added to known bytes, piece after piece.
use Rattle.std.proofs.Common.{◌≡◌, ℕ, ◌+◌, ◌≤◌, List, [], ◌++◌, length, take, Some, None, IfSome, refl, ap, ◌∙◌, append_assoc, length-take, arith}
use Rattle.std.specs.Prelude.{Option}
use Rattle.std.specs.Option.{option_map}
use Rattle.std.proofs.lemmas.List.{take_all}
use Rattle.std.specs.Io.KnownBytes.{append_known}

-- two pieces added are their sequence added
pub append_known-append : (known : Option (List ℕ)) (first second : List ℕ) → append_known (append_known known first) second ≡ append_known known (first ++ second)
append_known-append None first second = refl
append_known-append (Some bytes) first second = ap Some (append_assoc bytes first second)

-- a reader that gave less than its limit gave all that it had
pub gave_all : (known : Option (List ℕ)) (limit : ℕ) (old bytes : List ℕ) → old ≡ [] → IfSome (option_map (take limit) known) (λ xs. bytes ≡ old ++ xs)
    → length bytes + 1 ≤ limit → IfSome known (λ left. bytes ≡ left)
gave_all None limit old bytes none read short = tt
gave_all (Some left) limit old bytes none read short =
    let front : bytes ≡ take limit left = read ∙ ap (λ l. l ++ take limit left) none in
    let len : length left ≤ limit = omega (arith, ap length front, length-take limit left) in
    front ∙ take_all limit left len
