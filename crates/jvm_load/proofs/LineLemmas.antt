-- The lines of the classes, one after another, and the walk that makes one.
use Rattle.std.proofs.Common.{◌≡◌, ℕ, zero, suc, ◌+◌, ◌<◌, true, false, List, [], ◌∷◌, ◌++◌, length, Option, Some, None, refl, sym, ap, ◌∙◌, subst, arith, length-append, get_or, ◌⊎◌, inl, inr}
use Rattle.std.proofs.Math.Nat.{eq-or-lt_of_le}
use Rattle.std.proofs.Math.ListN.{get_or-append}
use Rattle.std.proofs.Math.Seq.{get_or-append_seam}
use Rattle.std.specs.Option.{option_map_or}
use Rattle.jp_store.specs.Classes.{Class, is_among, super_of, line_from, line}
use Rattle.jvm_load.specs.Lines.{lines_of}

-- what is still to come of a line, from the next class on
abbrev pub above : ℕ → List Class → List ℕ → Option ℕ → List ℕ
above n classes met next = option_map_or (line_from n classes met) next []

line_stops : (n : ℕ) (classes : List Class) (met : List ℕ) → line_from zero classes met n ≡ []
unfolding line_from
line_stops n classes met = refl

pub above_ends : (classes : List Class) (met : List ℕ) (next : Option ℕ) → above zero classes met next ≡ []
above_ends classes met None = refl
above_ends classes met (Some at) = line_stops at classes met

pub above_met : (n : ℕ) (classes : List Class) (met : List ℕ) (at : ℕ) → is_among at met ≡ true → above n classes met (Some at) ≡ []
unfolding line_from
above_met zero classes met at h = refl
above_met (suc n) classes met at h = rw h refl

pub above_new : (n : ℕ) (classes : List Class) (met : List ℕ) (at : ℕ) → is_among at met ≡ false → above (suc n) classes met (Some at) ≡ at ∷ above n classes (met ++ at ∷ []) (super_of classes at)
unfolding line_from
above_new n classes met at h = rw h refl

pub lines_more : (classes : List Class) (n : ℕ) → lines_of classes (n + 1) ≡ lines_of classes n ++ line classes n ∷ []
unfolding lines_of
lines_more classes n = let e : n + 1 ≡ suc n = omega arith in ap (lines_of classes) e

pub lines_none : (classes : List Class) → lines_of classes zero ≡ []
unfolding lines_of
lines_none classes = refl

pub lines_count : (classes : List Class) (n : ℕ) → length (lines_of classes n) ≡ n
lines_count classes zero = ap length (lines_none classes)
lines_count classes (suc n) =
    let e : suc n ≡ n + 1 = omega arith in
    omega (arith, ap (λ k. length (lines_of classes k)) e, ap length (lines_more classes n), length-append (lines_of classes n) (line classes n ∷ []), lines_count classes n)

-- the last line, or one before it
by_place : (classes : List Class) (n at : ℕ) (d : List ℕ) → (at ≡ n) ⊎ (at < n) → (at < n → get_or (lines_of classes n) at d ≡ line classes at) → get_or (lines_of classes n ++ line classes n ∷ []) at d ≡ line classes at
by_place classes n at d (inl e) ih =
    let last = get_or-append_seam (lines_of classes n) (line classes n) [] d in
    let same : length (lines_of classes n) ≡ at = lines_count classes n ∙ sym e in
    subst (λ k. get_or (lines_of classes n ++ line classes n ∷ []) k d ≡ line classes at) same (last ∙ ap (line classes) (sym e))
by_place classes n at d (inr lt) ih =
    let within : at < length (lines_of classes n) = omega (arith, lines_count classes n) in
    get_or-append (lines_of classes n) (line classes n ∷ []) d at within ∙ ih lt

line_get : (classes : List Class) (n at : ℕ) (d : List ℕ) → at < n → get_or (lines_of classes n) at d ≡ line classes at
line_get classes zero at d h = absurd (omega arith)
line_get classes (suc n) at d h =
    let e : suc n ≡ n + 1 = omega arith in
    ap (λ k. get_or (lines_of classes k) at d) e ∙ ap (λ l. get_or l at d) (lines_more classes n) ∙ by_place classes n at d (eq-or-lt_of_le (omega arith)) (line_get classes n at d)

pub line_in : (classes : List Class) (n at : ℕ) (d : List ℕ) → at < n → get_or (lines_of classes n) at d ≡ line classes at
line_in = line_get
