-- Front parts of what is written piece after piece.
use Rattle.std.proofs.Common.{◌≡◌, ℕ, List, [], ◌∷◌, ◌++◌, Option, Some, None, refl, sym, ap, ◌∙◌, append_assoc, append-nil}
use Rattle.std.specs.Prelude.{codes}
use Rattle.std.specs.Io.KnownBytes.{append_known}
use Rattle.jp_outside.specs.Bytes.{AppendsFront}

-- two pieces added are their sequence added
pub append_known-append : (known : Option (List ℕ)) (first second : List ℕ) → append_known (append_known known first) second ≡ append_known known (first ++ second)
append_known-append None first second = refl
append_known-append (Some bytes) first second = ap Some (append_assoc bytes first second)

pub append_known-nil : (known : Option (List ℕ)) → append_known known [] ≡ known
append_known-nil None = refl
append_known-nil (Some bytes) = ap Some (append-nil bytes)

-- all of it is a front part
pub front_whole : (old new : Option (List ℕ)) (bytes : List ℕ) → new ≡ append_known old bytes → AppendsFront old new bytes
front_whole old new bytes e = (bytes, [], append-nil bytes, e)

-- none of it is one
pub front_none : (old new : Option (List ℕ)) (bytes : List ℕ) → new ≡ old → AppendsFront old new bytes
front_none old new bytes e = ([], bytes, refl, e ∙ sym (append_known-nil old))

-- a front part of the first piece
pub front_first : (old new : Option (List ℕ)) (first second : List ℕ) → AppendsFront old new first → AppendsFront old new (first ++ second)
front_first old new first second f = (f.0, f.1 ++ second, sym (append_assoc f.0 f.1 second) ∙ ap (λ l. l ++ second) f.2, f.3)

-- the first piece, and a front part of the second
pub front_second : (old mid new : Option (List ℕ)) (first second : List ℕ) → mid ≡ append_known old first → AppendsFront mid new second → AppendsFront old new (first ++ second)
front_second old mid new first second e f =
    (first ++ f.0, f.1, append_assoc first f.0 f.1 ∙ ap (λ l. first ++ l) f.2, f.3 ∙ ap (λ k. append_known k f.0) e ∙ append_known-append old first f.0)

-- the line of a store's fault at a class file
pub class_fault_line : (main : List ℕ) → codes "store fault " ++ main ++ codes ".class\n" ≡ (codes "store fault " ++ (main ++ codes ".class")) ++ 10 ∷ []
class_fault_line main =
    append_assoc (codes "store fault ") main (codes ".class\n")
    ∙ ap (λ l. codes "store fault " ++ l) (sym (append_assoc main (codes ".class") (10 ∷ [])))
    ∙ sym (append_assoc (codes "store fault ") (main ++ codes ".class") (10 ∷ []))

-- three pieces behind one are they one after the other
pub onto : (front first second third : List ℕ) → front ++ (first ++ second ++ third) ≡ front ++ first ++ second ++ third
onto front first second third = sym (append_assoc front (first ++ second) third) ∙ ap (λ l. l ++ third) (sym (append_assoc front first second))

-- a front part of the same bytes
pub front_same : (old new : Option (List ℕ)) (bytes others : List ℕ) → bytes ≡ others → AppendsFront old new bytes → AppendsFront old new others
front_same old new bytes others e f = (f.0, f.1, f.2 ∙ e, f.3)
