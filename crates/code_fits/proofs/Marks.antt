-- How often items mark a label, and what is known of the labels that their jumps lead to.
use Rattle.std.proofs.Common.{◌≡◌, ℕ, ◌+◌, ◌≤◌, ◌<◌, Bool, true, false, not, ◌||◌, ◌&&◌, List, [], ◌∷◌, ◌++◌, refl, sym, ap, ◌∙◌, arith}
use Rattle.std.specs.Prelude.{◌==◌, nat_lt, cond}
use Rattle.std.specs.List.{list_all}
use Rattle.std.proofs.lemmas.Bool.{false≢true, lt-ltb, le-ltb, eq-eqb, eqb-true}
use Rattle.code_asm.specs.Items.{Item, Plain, Uses, CallsInterface, Branch, Mark}
use Rattle.code_asm.specs.Lines.{lines_of, is_marked_in, is_labelled, line_lands}
use Rattle.gen_code.specs.Compiled.{marks_once}

-- whether a number is another, and whether it is below another, as a number
abbrev pub hit : ℕ → ℕ → ℕ
hit label n = cond (label == n) 1 0

abbrev pub below : ℕ → ℕ → ℕ
below label n = cond (nat_lt label n) 1 0

at_most_one : (b : Bool) → cond b 1 0 ≤ 1
at_most_one true = omega arith
at_most_one false = omega arith

-- one label more
pub one_more : (label n : ℕ) → hit label n + below label n ≡ below label (n + 1)
one_more label n = by_equal (label == n) refl where
  by_less : (b : Bool) → nat_lt label n ≡ b → (label == n) ≡ false → hit label n + below label n ≡ below label (n + 1)
  by_less true e f = rw (f, e, lt-ltb label (n + 1) (let h = less label n e in omega (arith, h))) refl where
    less : (a b : ℕ) → nat_lt a b ≡ true → a < b
    less a b e = search arith
  by_less false e f = rw (f, e, le-ltb label (n + 1) (let h = more label n e f in omega (arith, h))) refl where
    more : (a b : ℕ) → nat_lt a b ≡ false → (a == b) ≡ false → b + 1 ≤ a
    more a b e f = search arith

  by_equal : (b : Bool) → (label == n) ≡ b → hit label n + below label n ≡ below label (n + 1)
  by_equal false e = by_less (nat_lt label n) refl e
  by_equal true e = same (eqb-true label n e) where
    same : label ≡ n → hit label n + below label n ≡ below label (n + 1)
    same h = rw (e, le-ltb label n (omega (arith, h)), lt-ltb label (n + 1) (omega (arith, h))) refl

pub two_more : (label n : ℕ) → hit label n + (hit label (n + 1) + below label n) ≡ below label (n + 2)
two_more label n =
    let e : (n + 1) + 1 ≡ n + 2 = omega arith in
    let f : below label ((n + 1) + 1) ≡ below label (n + 2) = ap (below label) e in
    omega (arith, one_more label n, one_more label (n + 1), f)

pub three_more : (label n : ℕ) → hit label n + (hit label (n + 1) + (hit label (n + 2) + below label n)) ≡ below label (n + 3)
three_more label n =
    let e : (n + 2) + 1 ≡ n + 3 = omega arith in
    let f : below label ((n + 2) + 1) ≡ below label (n + 3) = ap (below label) e in
    omega (arith, two_more label n, one_more label (n + 2), f)

-- how often items mark a label
abbrev pub marks_of : ℕ → Item → ℕ
marks_of label (Plain instr) = 0
marks_of label (Uses use_ wanted) = 0
marks_of label (CallsInterface key signature) = 0
marks_of label (Branch jump to) = 0
marks_of label (Mark marked) = hit label marked

abbrev pub count : ℕ → List Item → ℕ
count label [] = 0
count label (item ∷ items) = marks_of label item + count label items

pub count_join : (label : ℕ) (x y : List Item) → count label (x ++ y) ≡ count label x + count label y
count_join label [] y = omega arith
count_join label (item ∷ x) y = omega (arith, count_join label x y)

module _ (P : ℕ → Type 0) where
  -- what is so of each label that is marked
  abbrev pub Marked : List Item → Type 0
  Marked [] = Unit {0}
  Marked (Plain instr ∷ items) = Marked items
  Marked (Uses use_ wanted ∷ items) = Marked items
  Marked (CallsInterface key signature ∷ items) = Marked items
  Marked (Branch jump label ∷ items) = Marked items
  Marked (Mark label ∷ items) = P label × Marked items

  -- what is so of each label that a jump leads to
  abbrev pub Goes : List Item → Type 0
  Goes [] = Unit {0}
  Goes (Plain instr ∷ items) = Goes items
  Goes (Uses use_ wanted ∷ items) = Goes items
  Goes (CallsInterface key signature ∷ items) = Goes items
  Goes (Branch jump label ∷ items) = P label × Goes items
  Goes (Mark label ∷ items) = Goes items

  pub split : (a b : List Item) → Marked (a ++ b) → Marked a × Marked b
  split [] b h = (tt, h)
  split (Plain instr ∷ a) b h = split a b h
  split (Uses use_ wanted ∷ a) b h = split a b h
  split (CallsInterface key signature ∷ a) b h = split a b h
  split (Branch jump label ∷ a) b h = split a b h
  split (Mark label ∷ a) b h = let s = split a b h.1 in ((h.0, s.0), s.1)

  pub go_both : (a b : List Item) → Goes a → Goes b → Goes (a ++ b)
  go_both [] b h k = k
  go_both (Plain instr ∷ a) b h k = go_both a b h k
  go_both (Uses use_ wanted ∷ a) b h k = go_both a b h k
  go_both (CallsInterface key signature ∷ a) b h k = go_both a b h k
  go_both (Branch jump label ∷ a) b h k = (h.0, go_both a b h.1 k)
  go_both (Mark label ∷ a) b h k = go_both a b h k

  -- what is so of each label that lines mark
  pub marked_from : (items : List Item) → ((label : ℕ) → is_marked_in (lines_of items) label ≡ true → P label) → Marked items
  marked_from [] h = tt
  marked_from (Plain instr ∷ items) h = marked_from items h
  marked_from (Uses use_ wanted ∷ items) h = marked_from items h
  marked_from (CallsInterface key signature ∷ items) h = marked_from items h
  marked_from (Branch jump label ∷ items) h = marked_from items h
  marked_from (Mark label ∷ items) h =
      (h label (ap (λ b. b || is_marked_in (lines_of items) label) (eq-eqb label label refl)), marked_from items (λ l e. h l (later (l == label) (is_marked_in (lines_of items) l) e))) where
        later : (a b : Bool) → b ≡ true → (a || b) ≡ true
        later true b e = refl
        later false b e = e

-- lines whose jumps lead to labels that are marked
pub all_land : (all : List Item) (items : List Item) → Goes (λ l. is_marked_in (lines_of all) l ≡ true) items → list_all (line_lands (lines_of all)) (lines_of items) ≡ true
all_land all [] h = refl
all_land all (Plain instr ∷ items) h = all_land all items h
all_land all (Uses use_ wanted ∷ items) h = all_land all items h
all_land all (CallsInterface key signature ∷ items) h = all_land all items h
all_land all (Branch jump label ∷ items) h = ap (λ b. b && list_all (line_lands (lines_of all)) (lines_of items)) h.0 ∙ all_land all items h.1
all_land all (Mark label ∷ items) h = all_land all items h

-- lines whose labels are below a number
pub all_labelled : (n : ℕ) (items : List Item) → Marked (λ l. nat_lt l n ≡ true) items → Goes (λ l. nat_lt l n ≡ true) items → list_all (is_labelled n) (lines_of items) ≡ true
all_labelled n [] h k = refl
all_labelled n (Plain instr ∷ items) h k = all_labelled n items h k
all_labelled n (Uses use_ wanted ∷ items) h k = all_labelled n items h k
all_labelled n (CallsInterface key signature ∷ items) h k = all_labelled n items h k
all_labelled n (Branch jump label ∷ items) h k = ap (λ b. b && list_all (is_labelled n) (lines_of items)) k.0 ∙ all_labelled n items h k.1
all_labelled n (Mark label ∷ items) h k = ap (λ b. b && list_all (is_labelled n) (lines_of items)) h.0 ∙ all_labelled n items h.1 k

-- what isn't marked once isn't marked
pub none_marked : (label : ℕ) (items : List Item) → count label items ≤ 0 → is_marked_in (lines_of items) label ≡ false
none_marked label [] h = refl
none_marked label (Plain instr ∷ items) h = none_marked label items (omega (arith, h))
none_marked label (Uses use_ wanted ∷ items) h = none_marked label items (omega (arith, h))
none_marked label (CallsInterface key signature ∷ items) h = none_marked label items (omega (arith, h))
none_marked label (Branch jump to ∷ items) h = none_marked label items (omega (arith, h))
none_marked label (Mark marked ∷ items) h = by_label (label == marked) refl (none_marked label items (omega (arith, h))) where
  by_label : (b : Bool) → (label == marked) ≡ b → is_marked_in (lines_of items) label ≡ false → ((label == marked) || is_marked_in (lines_of items) label) ≡ false
  by_label true e k = let f : hit label marked ≡ 1 = ap (λ x. cond x 1 0) e in absurd (omega (arith, h, f))
  by_label false e k = ap (λ x. x || is_marked_in (lines_of items) label) e ∙ k

-- each label is marked once at most
pub each_once : (items : List Item) → ((label : ℕ) → count label items ≤ 1) → marks_once (lines_of items) ≡ true
each_once [] h = refl
each_once (Plain instr ∷ items) h = each_once items (λ l. omega (arith, h l))
each_once (Uses use_ wanted ∷ items) h = each_once items (λ l. omega (arith, h l))
each_once (CallsInterface key signature ∷ items) h = each_once items (λ l. omega (arith, h l))
each_once (Branch jump to ∷ items) h = each_once items (λ l. omega (arith, h l))
each_once (Mark label ∷ items) h =
    let f : hit label label ≡ 1 = ap (λ x. cond x 1 0) (eq-eqb label label refl) in
    ap (λ b. not b && marks_once (lines_of items)) (none_marked label items (omega (arith, h label, f))) ∙ each_once items (λ l. omega (arith, h l))

-- labels that are marked so often only as they are between two numbers
pub marked_below : (from next : ℕ) (items : List Item) → ((label : ℕ) → count label items + below label from ≤ below label next) → Marked (λ l. nat_lt l next ≡ true) items
marked_below from next items h = marked_from (λ l. nat_lt l next ≡ true) items (λ l e. by_label l (nat_lt l next) refl e) where
  by_label : (l : ℕ) (b : Bool) → nat_lt l next ≡ b → is_marked_in (lines_of items) l ≡ true → nat_lt l next ≡ true
  by_label l true f e = f
  by_label l false f e =
      let g : below l next ≡ 0 = ap (λ x. cond x 1 0) f in
      absurd (false≢true (sym (none_marked l items (omega (arith, h l, g))) ∙ e))

pub marked_once : (from next : ℕ) (items : List Item) → ((label : ℕ) → count label items + below label from ≤ below label next) → marks_once (lines_of items) ≡ true
marked_once from next items h = each_once items (λ l. omega (arith, h l, at_most_one (nat_lt l next)))
