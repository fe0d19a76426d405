-- What is kept of items, one after the other.
use Rattle.std.proofs.Common.{◌≡◌, ℕ, ◌+◌, ◌<◌, List, [], ◌∷◌, ◌++◌, take, length, get_or, Option, Some, None, refl, sym, ap, ◌∙◌, append_assoc}
use Rattle.std.specs.List.{filter_map, cons_option}
use Rattle.std.specs.Option.{option_to_list}
use Rattle.std.proofs.lemmas.List.{take_more}
use Rattle.std.proofs.lemmas.List.Elements.{filter_map-append}

by_option : {B : Type 0} (o : Option B) → cons_option o [] ≡ option_to_list o
by_option None = refl
by_option (Some x) = refl

pub one_more : {A B : Type 0} (f : A → Option B) (xs : List A) (i : ℕ) (x : A) (front all more : List B) (o : Option B) → i < length xs → x ≡ get_or xs i x → all ≡ front ++ filter_map f (take i xs) → o ≡ f x →
    more ≡ all ++ option_to_list o → more ≡ front ++ filter_map f (take (i + 1) xs)
one_more {A} {B} f xs i x front all more o l e a g m =
    let rest : filter_map f (take i xs) ++ option_to_list o ≡ filter_map f (take (i + 1) xs) =
    ap (λ (ys : List B). filter_map f (take i xs) ++ ys) (ap option_to_list g ∙ sym (by_option (f x)))
    ∙ (sym (filter_map-append f (take i xs) (x ∷ [])) ∙ ap (filter_map f) (sym (take_more xs i x l ∙ ap (λ (y : A). take i xs ++ y ∷ []) (sym e)))) in
    m ∙ (ap (λ (ys : List B). ys ++ option_to_list o) a ∙ (append_assoc front (filter_map f (take i xs)) (option_to_list o) ∙ ap (λ (ys : List B). front ++ ys) rest))
