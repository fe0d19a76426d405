-- How many values of an object stand before those of each class of its line.
use Rattle.std.proofs.Common.{◌≡◌, ◌≢◌, ℕ, zero, suc, ◌+◌, ◌-◌, ◌*◌, ◌<◌, ◌≤◌, Bool, true, false, ◌||◌, List, [], ◌∷◌, ◌++◌, length, reverse, get_or, Option, Some, None, refl, sym, ap, ◌∙◌, subst, arith, length-append, ◌⊎◌, inl, inr, eq-eqb}
use Rattle.std.specs.Prelude.{if◌then◌else◌, ◌==◌}
use Rattle.std.specs.Option.{option_map, option_map_or}
use Rattle.std.proofs.Math.Nat.{eq-or-lt_of_le}
use Rattle.std.proofs.Math.ListN.{get_or-append}
use Rattle.std.proofs.Math.Seq.{get_or-append_seam}
use Rattle.std.proofs.lemmas.Bool.Decides.{Decides-eqb}
use Rattle.std.proofs.lemmas.List.Folds.{list_any_at, list_any-append}
use Rattle.jp_store.specs.Classes.{Class, is_among, super_of, line_from, line, own_part, offset_in}
use Rattle.jvm_load.specs.Places.{AreOffsets, AreOffsetLists}
use Rattle.jvm_load.proofs.FieldFacts.{turned, offset_further, offset_here}

-- no number stands twice in a line

abbrev pub AreDistinct : List ℕ → Type 0
AreDistinct xs = (i j : ℕ) → i < j → j < length xs → get_or xs i 0 ≢ get_or xs j 0

never : (b : Bool) → b ≡ true → b ≡ false → ⊥
never true p q = absurd cc
never false p q = absurd cc

isnt : (b : Bool) → (b ≡ true → ⊥) → b ≡ false
isnt true h = absurd (h refl)
isnt false h = refl

neither : (a b : Bool) → (a || b) ≡ false → a ≡ false
neither true b h = h
neither false b h = refl

or_here : (a : Bool) → (a || (true || false)) ≡ true
or_here true = refl
or_here false = refl

distinct_cons : (x : ℕ) (xs : List ℕ) → is_among x xs ≡ false → AreDistinct xs → AreDistinct (x ∷ xs)
distinct_cons x xs a d i zero lt h = absurd (omega arith)
distinct_cons x xs a d zero (suc j) lt h = λ e. never (is_among x xs) (list_any_at (λ m. m == x) xs j 0 (omega arith) (eq-eqb (get_or xs j 0) x (sym e))) a
distinct_cons x xs a d (suc i) (suc j) lt h = d i j (omega arith) (omega arith)

distinct_if : (b : Bool) (x : ℕ) (xs : List ℕ) → is_among x xs ≡ false → AreDistinct xs → AreDistinct (if b then [] else x ∷ xs)
distinct_if true x xs a d = λ i j lt h. absurd (omega arith)
distinct_if false x xs a d = distinct_cons x xs a d

-- what is in a line wasn't met before
unmet_by : (c at : ℕ) (met more : List ℕ) → is_among at met ≡ false → (is_among c more ≡ true → is_among c (met ++ at ∷ []) ≡ false) → (t : Bool) → (at == c) ≡ t → (t || is_among c more) ≡ true → is_among c met ≡ false
unmet_by c at met more m rest true e k = subst (λ x. is_among x met ≡ false) ((Decides-eqb at c).0 e) m
unmet_by c at met more m rest false e k = neither (is_among c met) (is_among c (at ∷ [])) (sym (list_any-append (λ x. x == c) met (at ∷ [])) ∙ rest k)

unmet_if : (c at : ℕ) (b : Bool) (met more : List ℕ) → is_among at met ≡ b → (is_among c more ≡ true → is_among c (met ++ at ∷ []) ≡ false) → is_among c (if b then [] else at ∷ more) ≡ true → is_among c met ≡ false
unmet_if c at true met more m rest h = absurd cc
unmet_if c at false met more m rest h = unmet_by c at met more m rest (at == c) refl h

unmet_next : (c : ℕ) (go : ℕ → List ℕ) (met : List ℕ) (o : Option ℕ) → ((m : ℕ) → is_among c (go m) ≡ true → is_among c met ≡ false) → is_among c (option_map_or go o []) ≡ true → is_among c met ≡ false
unmet_next c go met None h k = absurd cc
unmet_next c go met (Some m) h k = h m k

-- what a line goes on with behind a class
abbrev behind : ℕ → List Class → List ℕ → ℕ → List ℕ
behind n classes met at = option_map_or (line_from n classes (met ++ at ∷ [])) (super_of classes at) []

unmet : (n : ℕ) (classes : List Class) (met : List ℕ) (at c : ℕ) → is_among c (line_from n classes met at) ≡ true → is_among c met ≡ false
unfolding line_from
unmet zero classes met at c h = absurd cc
unmet (suc n) classes met at c h =
    let more = met ++ at ∷ [] in
    unmet_if c at (is_among at met) met (behind n classes met at) refl (unmet_next c (line_from n classes more) more (super_of classes at) (λ m. unmet n classes more m c)) h

fresh : (n : ℕ) (classes : List Class) (met : List ℕ) (at : ℕ) → is_among at (behind n classes met at) ≡ false
fresh n classes met at =
    let more = met ++ at ∷ [] in
    let there : is_among at more ≡ true = list_any-append (λ x. x == at) met (at ∷ []) ∙ ap (λ b. is_among at met || (b || false)) (eq-eqb at at refl) ∙ or_here (is_among at met) in
    isnt (is_among at (behind n classes met at)) (λ t. never (is_among at more) there (unmet_next at (line_from n classes more) more (super_of classes at) (λ m. unmet n classes more m at) t))

distinct_next : (go : ℕ → List ℕ) (o : Option ℕ) → ((m : ℕ) → AreDistinct (go m)) → AreDistinct (option_map_or go o [])
distinct_next go None h = λ i j lt k. absurd (omega arith)
distinct_next go (Some m) h = h m

walks_distinct : (n : ℕ) (classes : List Class) (met : List ℕ) (at : ℕ) → AreDistinct (line_from n classes met at)
unfolding line_from
walks_distinct zero classes met at = λ i j lt k. absurd (omega arith)
walks_distinct (suc n) classes met at =
    distinct_if (is_among at met) at (behind n classes met at) (fresh n classes met at) (distinct_next (line_from n classes (met ++ at ∷ [])) (super_of classes at) (λ m. walks_distinct n classes (met ++ at ∷ []) m))

pub line_distinct : (classes : List Class) (at : ℕ) → AreDistinct (line classes at)
line_distinct classes at = walks_distinct (length classes) classes [] at

-- the classes of a line from the topmost down: what is left of the line, the offsets so far, and the next one
pub record IsPart (classes : List Class) (up rest offsets : List ℕ) (before : ℕ) : Type 0 where
  pub front : (k : ℕ) → k < length rest → get_or rest k 0 ≡ get_or up k 0
  pub count : length offsets + length rest ≡ length up
  pub sums : (class : ℕ) → ((k : ℕ) → length rest ≤ k → k < length up → get_or up k 0 ≢ class)
      → option_map (λ m. before + m) (offset_in classes class (reverse rest)) ≡ offset_in classes class (reverse up)
  pub each : (j : ℕ) → j < length offsets → offset_in classes (get_or up (length up - 1 - j) 0) (reverse up) ≡ Some (get_or offsets j 0)
  pub most : (j : ℕ) → j < length offsets → get_or offsets j 0 ≤ length up * 4294967295
  pub bound : before + length rest * 4294967295 ≤ length up * 4294967295

zero_more : (o : Option ℕ) → option_map (λ m. 0 + m) o ≡ o
zero_more None = refl
zero_more (Some m) = let e : 0 + m ≡ m = omega arith in ap Some e

pub part_first : (classes : List Class) (up : List ℕ) → IsPart classes up up [] 0
part_first classes up = record {
  front = λ k lt. refl;
  count = omega arith;
  sums = λ class h. zero_more (offset_in classes class (reverse up));
  each = λ j h. absurd (omega arith);
  most = λ j h. absurd (omega arith);
  bound = omega arith;
}

module _ (classes : List Class) (up rest below offsets : List ℕ) (class before : ℕ) (distinct : AreDistinct up) (split : rest ≡ below ++ class ∷ []) (p : IsPart classes up rest offsets before) where
  long : length rest ≡ length below + 1
  long = ap length split ∙ length-append below (class ∷ [])

  here : class ≡ get_or up (length below) 0
  here = sym (get_or-append_seam below class [] 0) ∙ ap (λ l. get_or l (length below) 0) (sym split) ∙ p.front (length below) (omega (arith, long))

  front_more : (k : ℕ) → k < length below → get_or below k 0 ≡ get_or up k 0
  front_more k lt = sym (get_or-append below (class ∷ []) 0 k lt) ∙ ap (λ l. get_or l k 0) (sym split) ∙ p.front k (omega (arith, long))

  sums_more : (c : ℕ) → ((k : ℕ) → length below ≤ k → k < length up → get_or up k 0 ≢ c)
      → option_map (λ m. (before + length (own_part false classes class)) + m) (offset_in classes c (reverse below)) ≡ offset_in classes c (reverse up)
  sums_more c away =
      let ne : class ≢ c = λ q. away (length below) (omega arith) (omega (arith, long, p.count)) (sym here ∙ q) in
      sym (offset_further classes c class before (reverse below) ne)
      ∙ ap (λ l. option_map (λ m. before + m) (offset_in classes c l)) (sym (ap reverse split ∙ turned below class))
      ∙ p.sums c (λ k le lt. away k (omega (arith, long)) lt)

  here_is : offset_in classes class (reverse up) ≡ Some before
  here_is =
      sym (p.sums class (λ k le lt. λ q. distinct (length below) k (omega (arith, long)) lt (sym here ∙ sym q)))
      ∙ ap (λ l. option_map (λ m. before + m) (offset_in classes class l)) (ap reverse split ∙ turned below class)
      ∙ offset_here classes class before (reverse below)

  each_more : (j : ℕ) → (j ≡ length offsets) ⊎ (j < length offsets) → offset_in classes (get_or up (length up - 1 - j) 0) (reverse up) ≡ Some (get_or (offsets ++ before ∷ []) j 0)
  each_more j (inr less) = p.each j less ∙ ap Some (sym (get_or-append offsets (before ∷ []) 0 j less))
  each_more j (inl same) =
      let place : length up - 1 - j ≡ length below = omega (arith, long, p.count, same) in
      ap (λ k. offset_in classes (get_or up k 0) (reverse up)) place ∙ ap (λ c. offset_in classes c (reverse up)) (sym here) ∙ here_is
      ∙ ap Some (sym (ap (λ k. get_or (offsets ++ before ∷ []) k 0) same ∙ get_or-append_seam offsets before [] 0))

  most_more : (j : ℕ) → (j ≡ length offsets) ⊎ (j < length offsets) → get_or (offsets ++ before ∷ []) j 0 ≤ length up * 4294967295
  most_more j (inr less) = subst (λ k. k ≤ length up * 4294967295) (sym (get_or-append offsets (before ∷ []) 0 j less)) (p.most j less)
  most_more j (inl same) =
      let last = ap (λ k. get_or (offsets ++ before ∷ []) k 0) same ∙ get_or-append_seam offsets before [] 0 in
      omega (arith, last, p.bound)

  pub part_more : length (own_part false classes class) < 4294967296 → IsPart classes up below (offsets ++ before ∷ []) (before + length (own_part false classes class))
  part_more few = record {
    front = front_more;
    count = omega (arith, length-append offsets (before ∷ []), long, p.count);
    sums = sums_more;
    each = λ j lt. each_more j (eq-or-lt_of_le (omega (arith, length-append offsets (before ∷ []), lt)));
    most = λ j lt. most_more j (eq-or-lt_of_le (omega (arith, length-append offsets (before ∷ []), lt)));
    bound = omega (arith, long, p.bound, few);
  }

pub part_last : (classes : List Class) (up rest offsets : List ℕ) (before : ℕ) → length rest ≡ 0 → IsPart classes up rest offsets before → AreOffsets classes up offsets
part_last classes up rest offsets before h p = record { count = omega (arith, h, p.count); each = p.each; most = p.most }

-- the classes so far
pub offsets_none : (classes : List Class) → AreOffsetLists classes zero []
offsets_none classes = record { count = refl; each = λ at h. absurd (omega arith) }

by_place : (classes : List Class) (n at : ℕ) (lists : List (List ℕ)) (offsets : List ℕ) → length lists ≡ n → AreOffsets classes (line classes n) offsets → (at ≡ n) ⊎ (at < n) → (at < n → AreOffsets classes (line classes at) (get_or lists at []))
    → AreOffsets classes (line classes at) (get_or (lists ++ offsets ∷ []) at [])
by_place classes n at lists offsets c h (inl e) before =
    let same : length lists ≡ at = c ∙ sym e in
    let last : get_or (lists ++ offsets ∷ []) at [] ≡ offsets = ap (λ k. get_or (lists ++ offsets ∷ []) k []) (sym same) ∙ get_or-append_seam lists offsets [] [] in
    subst (λ (l : List ℕ). AreOffsets classes (line classes at) l) (sym last) (subst (λ (k : ℕ). AreOffsets classes (line classes k) offsets) (sym e) h)
by_place classes n at lists offsets c h (inr lt) before =
    let within : at < length lists = omega (arith, c) in
    subst (λ (l : List ℕ). AreOffsets classes (line classes at) l) (sym (get_or-append lists (offsets ∷ []) [] at within)) (before lt)

pub offsets_more : (classes : List Class) (n : ℕ) (lists : List (List ℕ)) (offsets : List ℕ) → AreOffsetLists classes n lists → AreOffsets classes (line classes n) offsets → AreOffsetLists classes (n + 1) (lists ++ offsets ∷ [])
offsets_more classes n lists offsets a h = record {
  count = omega (arith, length-append lists (offsets ∷ []), a.count);
  each = λ at k. by_place classes n at lists offsets a.count h (eq-or-lt_of_le (omega arith)) (a.each at);
}
