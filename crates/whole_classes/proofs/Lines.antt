-- A line of classes upwards, class by class.
use Rattle.std.proofs.Common.{◌≡◌, ℕ, zero, suc, List, [], ◌∷◌, ◌++◌, Option, Some, None, refl, sym, ap, ◌∙◌, append-nil, append_assoc}
use Rattle.std.specs.Option.{option_map_or}
use Rattle.jp_pred.specs.Names.{Word}
use Rattle.jp_meaning.specs.declared.unit.TypedClass.{TypedClass}
use Rattle.jp_meaning.specs.Classes.{class_in, upwards}

module _ (classes : List TypedClass) where
  begins : (n m : ℕ) (name : Word) (c : TypedClass) → n ≡ suc m → class_in classes name ≡ Some c → upwards n classes name ≡ c ∷ option_map_or (upwards m classes) c.head.superclass []
  begins n m name c k e =
      ap (λ (j : ℕ). upwards j classes name) k ∙ ap (λ (o : Option TypedClass). option_map_or (λ (d : TypedClass). d ∷ option_map_or (upwards m classes) d.head.superclass []) o []) e

  is_bare : (n : ℕ) (name : Word) → class_in classes name ≡ None → upwards n classes name ≡ []
  is_bare zero name e = refl
  is_bare (suc n) name e = ap (λ (o : Option TypedClass). option_map_or (λ (d : TypedClass). d ∷ option_map_or (upwards n classes) d.head.superclass []) o []) e

  -- no class has the name
  pub ends_before : (line : List TypedClass) (n : ℕ) (name : Word) → class_in classes name ≡ None → line ≡ line ++ upwards n classes name
  ends_before line n name e = sym (ap (λ l. line ++ l) (is_bare n name e) ∙ append-nil line)

  -- the class of the name has no superclass
  pub ends_at : (line : List TypedClass) (n m : ℕ) (name : Word) (c : TypedClass) → n ≡ suc m → class_in classes name ≡ Some c → c.head.superclass ≡ None → line ++ c ∷ [] ≡ line ++ upwards n classes name
  ends_at line n m name c k e s = sym (ap (λ l. line ++ l) (begins n m name c k e ∙ ap (λ (o : Option Word). c ∷ option_map_or (upwards m classes) o []) s))

  -- it has one
  pub goes_on : (line : List TypedClass) (n m : ℕ) (name : Word) (c : TypedClass) (up : Word) → n ≡ suc m → class_in classes name ≡ Some c → c.head.superclass ≡ Some up → (line ++ c ∷ []) ++ upwards m classes up ≡ line ++ upwards n classes name
  goes_on line n m name c up k e s =
      append_assoc line (c ∷ []) (upwards m classes up) ∙ sym (ap (λ l. line ++ l) (begins n m name c k e ∙ ap (λ (o : Option Word). c ∷ option_map_or (upwards m classes) o []) s))

  -- as many as there are classes were met
  pub is_full : (line : List TypedClass) (n : ℕ) (name : Word) → n ≡ zero → line ≡ line ++ upwards n classes name
  is_full line n name k = sym (ap (λ (j : ℕ). line ++ upwards j classes name) k ∙ append-nil line)
