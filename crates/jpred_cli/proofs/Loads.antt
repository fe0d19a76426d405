-- The class of a program of prints can be loaded.
use Rattle.std.proofs.Common.{◌≡◌, ℕ, ◌+◌, ◌*◌, ◌^◌, ◌<◌, ◌≤◌, ℤ, List, [], ◌∷◌, length, arith}
use Rattle.std.proofs.lemmas.List.Elements.{All-cons, All-nil}
use Rattle.jvm_load.specs.Loadable.{HasShortCode, IsLoadableFile, IsLoadable}
use Rattle.jpred_cli.specs.Built.{code_from, main_method, class_of}

pub code_length : (index : ℕ) (numbers : List ℤ) → length (code_from index numbers) ≡ 5 * length numbers + 1
code_length index [] = omega arith
code_length index (n ∷ more) = omega (arith, code_length (index + 1) more)

pub loadable : (main : List ℕ) (numbers : List ℤ) → length numbers ≤ 200 → IsLoadable (class_of main numbers ∷ [])
loadable main numbers few =
    let short : length (code_from 14 numbers) < 2 ^ 32 = omega (arith, code_length 14 numbers) in
    record { count = omega arith; each = All-cons IsLoadableFile (class_of main numbers) [] (record { fields = omega arith; methods = omega arith; codes = All-cons HasShortCode (main_method numbers) [] short (All-nil HasShortCode) }) (All-nil IsLoadableFile) }
