-- Types that are read one after another.
use Rattle.std.proofs.Common.{◌≡◌, ℕ, zero, suc, ◌++◌, List, [], ◌∷◌, true, false, Option, Some, None, refl, sym, ap, ◌∙◌, append_assoc, length, arith}
use Rattle.std.specs.Prelude.{option_and_then, ◌==◌}
use Rattle.std.specs.Option.{option_map}
use Rattle.jp_store.specs.declared.value.Kind.{Kind}
use Rattle.jvm_table.specs.Descriptors.{first_type, types_in}
use Rattle.jvm_load.specs.Texts.{joined, text_behind}

pub ends_at_zero : (text : List ℕ) → types_in zero text ≡ None
unfolding types_in
ends_at_zero text = refl

pub ends_empty : (n : ℕ) → types_in (suc n) [] ≡ None
unfolding types_in
ends_empty n = refl

pub ends_closed : (n c : ℕ) (more : List ℕ) → (c == 41) ≡ true → types_in (suc n) (c ∷ more) ≡ Some ([], more)
unfolding types_in
ends_closed n c more h = rw h refl

open_case : (n c : ℕ) (more : List ℕ) → (c == 41) ≡ false → types_in (suc n) (c ∷ more) ≡ option_and_then (λ type. option_map (λ rest. (type.0 ∷ rest.0, rest.1)) (types_in n type.1)) (first_type (c ∷ more))
unfolding types_in
open_case n c more h = rw h refl

pub ends_wrong : (n c : ℕ) (more : List ℕ) → (c == 41) ≡ false → first_type (c ∷ more) ≡ None → types_in (suc n) (c ∷ more) ≡ None
ends_wrong n c more h e = open_case n c more h ∙ ap (option_and_then (λ type. option_map (λ rest. (type.0 ∷ rest.0, rest.1)) (types_in n type.1))) e

joined_more : (front : List Kind) (kind : Kind) (types : Option (List Kind × List ℕ)) → joined front (option_map (λ rest. (kind ∷ rest.0, rest.1)) types) ≡ joined (front ++ kind ∷ []) types
joined_more front kind None = refl
joined_more front kind (Some types) = ap (λ l. Some (l, types.1)) (sym (append_assoc front (kind ∷ []) types.0))

pub one_more : (n c : ℕ) (more : List ℕ) (front : List Kind) (kind : Kind) (rest : List ℕ) → (c == 41) ≡ false → first_type (c ∷ more) ≡ Some (kind, rest) → joined front (types_in (suc n) (c ∷ more)) ≡ joined (front ++ kind ∷ []) (types_in n rest)
one_more n c more front kind rest h e =
    ap (joined front) (open_case n c more h ∙ ap (option_and_then (λ type. option_map (λ tail. (type.0 ∷ tail.0, tail.1)) (types_in n type.1))) e) ∙ joined_more front kind (types_in n rest)

pub ends_short : (n : ℕ) (text : List ℕ) → length text ≡ 0 → types_in n text ≡ None
ends_short zero text h = ends_at_zero text
ends_short (suc n) [] h = ends_empty n
ends_short (suc n) (c ∷ cs) h = absurd (omega (arith, h))

skipped : (kind : Kind) (types : Option (List Kind × List ℕ)) → text_behind (option_map (λ rest. (kind ∷ rest.0, rest.1)) types) ≡ text_behind types
skipped kind None = refl
skipped kind (Some types) = refl

pub skips_one : (n c : ℕ) (more : List ℕ) (kind : Kind) (rest : List ℕ) → (c == 41) ≡ false → first_type (c ∷ more) ≡ Some (kind, rest) → text_behind (types_in (suc n) (c ∷ more)) ≡ text_behind (types_in n rest)
skips_one n c more kind rest h e =
    ap text_behind (open_case n c more h ∙ ap (option_and_then (λ type. option_map (λ tail. (type.0 ∷ tail.0, tail.1)) (types_in n type.1))) e) ∙ skipped kind (types_in n rest)
