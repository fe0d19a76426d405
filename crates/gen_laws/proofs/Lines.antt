-- The line upwards from a class meets the first class that has something, before it comes to an end.
use Rattle.std.proofs.Common.{◌≡◌, ℕ, zero, suc, ◌<◌, ◌≤◌, Bool, true, false, ◌||◌, List, [], ◌∷◌, ◌++◌, Option, Some, None, refl, sym, ap, ◌∙◌, arith}
use Rattle.std.specs.Prelude.{◌==◌}
use Rattle.std.proofs.lemmas.Bool.{true≢false}
use Rattle.std.proofs.lemmas.Bool.Decides.{Decides-eqb}
use Rattle.jp_store.specs.Classes.{Class, is_among, super_of}
use Rattle.jvm_load.proofs.LineLemmas.{above, above_new}
use Rattle.gen_laws.proofs.Lists.{one_there, not_there}

module _ (classes : List Class) where
  -- the class so many steps above one
  abbrev pub walk : ℕ → Option ℕ → Option ℕ
  walk k None = None
  walk zero (Some at) = Some at
  walk (suc k) (Some at) = walk k (super_of classes at)

  module _ (has : ℕ → Bool) where
    -- no class up to so many steps above one has it
    abbrev Far : ℕ → ℕ → Type 0
    Far r at = (t : ℕ) → t ≤ r → (x : ℕ) → walk t (Some at) ≡ Some x → has x ≡ false

    abbrev AllFar : ℕ → List ℕ → Type 0
    AllFar r [] = Unit {0}
    AllFar r (at ∷ more) = Far r at × AllFar r more

    abbrev pub AllNot : List ℕ → Type 0
    AllNot [] = Unit {0}
    AllNot (at ∷ more) = (has at ≡ false) × AllNot more

    less_far : (r : ℕ) (met : List ℕ) → AllFar (suc r) met → AllFar r met
    less_far r [] h = tt
    less_far r (at ∷ more) h = (λ t le x e. h.0 t (omega (arith, le)) x e, less_far r more h.1)

    more_far : (r : ℕ) (met : List ℕ) (at : ℕ) → AllFar r met → Far r at → AllFar r (met ++ at ∷ [])
    more_far r [] at h k = (k, tt)
    more_far r (y ∷ more) at h k = (h.0, more_far r more at h.1 k)

    -- a class from which one that has it is reached was not met before
    not_met : (r : ℕ) (met : List ℕ) (at b : ℕ) → AllFar r met → walk r (Some at) ≡ Some b → has b ≡ true → is_among at met ≡ false
    not_met r [] at b far e h = refl
    not_met r (y ∷ more) at b far e h = by_first (y == at) refl (not_met r more at b far.1 e h) where
      by_first : (x : Bool) → (y == at) ≡ x → is_among at more ≡ false → is_among at (y ∷ more) ≡ false
      by_first true k rest =
          let same = (Decides-eqb y at).0 k in
          absurd (true≢false (sym h ∙ far.0 r (omega arith) b (ap (λ z. walk r (Some z)) same ∙ e)))
      by_first false k rest = ap (λ x. x || is_among at more) k ∙ rest

    -- the line comes to the class, and those before it don't have it
    pub record Reached (n : ℕ) (met : List ℕ) (at b : ℕ) : Type 0 where
      pub before : List ℕ
      pub more : List ℕ
      pub line : above n classes met (Some at) ≡ before ++ b ∷ more
      pub none : AllNot before

    pub reach : (r n : ℕ) (met : List ℕ) (at b : ℕ) → r < n → AllFar r met → walk r (Some at) ≡ Some b → has b ≡ true → ((i : ℕ) → i < r → (x : ℕ) → walk i (Some at) ≡ Some x → has x ≡ false) → Reached n met at b
    reach r zero met at b lt far e h none = absurd (omega (arith, lt))
    reach zero (suc n) met at b lt far e h none =
        let same = one_there (Some at) at b refl e in
        let new = above_new n classes met at (not_met zero met at b far e h) in
        record { before = []; more = above n classes (met ++ at ∷ []) (super_of classes at); line = new ∙ ap (λ z. z ∷ above n classes (met ++ at ∷ []) (super_of classes at)) same; none = tt }
    reach (suc r) (suc n) met at b lt far e h none =
        by_next (super_of classes at) refl e (λ next up e. reach r n (met ++ at ∷ []) next b (omega (arith, lt)) (more_far r met at (less_far r met far) (λ t le x e. none t (omega (arith, le)) x e)) e h
        (λ i lt x k. none (suc i) (omega (arith, lt)) x (ap (walk i) up ∙ k))) where
          Up : Type 0
          Up = (next : ℕ) → super_of classes at ≡ Some next → walk r (Some next) ≡ Some b → Reached n (met ++ at ∷ []) next b

          by_next : (o : Option ℕ) → super_of classes at ≡ o → walk r o ≡ Some b → Up → Reached (suc n) met at b
          by_next None up e rec = not_there (Reached (suc n) met at b) b None refl e
          by_next (Some next) up e rec =
              let rest = rec next up e in
              let e' : walk (suc r) (Some at) ≡ Some b = ap (walk r) up ∙ e in
              let new = above_new n classes met at (not_met (suc r) met at b far e' h) in
              record {
                before = at ∷ rest.before;
                more = rest.more;
                line = new ∙ ap (λ (o : Option ℕ). at ∷ above n classes (met ++ at ∷ []) o) up ∙ ap (λ l. at ∷ l) rest.line;
                none = (none zero (omega arith) at refl, rest.none);
              }
