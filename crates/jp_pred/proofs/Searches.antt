-- Facts that are decided, and sorts of things through which one can search.
use Rattle.std.proofs.Common.{◌≡◌, ℕ, zero, suc, ◌<◌, ◌≤◌, ◌^◌, List, [], ◌∷◌, length, Bool, true, false, Option, Some, None, ◌⊎◌, inl, inr, refl, sym, subst, ℤ, pos, negsuc, FitsSigned, w32, arith}
use Rattle.std.specs.Bool.{Decides}
use Rattle.std.proofs.lemmas.Int.{ints}
use Rattle.std.proofs.lemmas.Bool.{cases_lt}
use Rattle.jp_pred.specs.declared.shape.Kind.{Kind}
use Rattle.jp_pred.specs.declared.shape.Kind.TheVariants as kind
use Rattle.jp_pred.specs.Names.{Word, In, here, there}
use Rattle.jp_pred.proofs.Visits.{some_same, true_or_false}
use Rattle.jp_pred.proofs.Entries.{split_in}

abbrev pub Decided : Type 0 → Type 0
Decided A = A ⊎ (A → ⊥)

pub decided_as : {A B : Type 0} → Decided A → (A → B) → (B → A) → Decided B
decided_as (inl a) f g = inl (f a)
decided_as (inr n) f g = inr (λ b. n (g b))

pub and_decided : {A B : Type 0} → Decided A → Decided B → Decided (A × B)
and_decided (inl a) (inl b) = inl (a, b)
and_decided (inl a) (inr n) = inr (λ w. n w.1)
and_decided (inr n) d = inr (λ w. n w.0)

pub or_decided : {A B : Type 0} → Decided A → Decided B → Decided (A ⊎ B)
or_decided (inl a) d = inl (inl a)
or_decided (inr n) (inl b) = inl (inr b)
or_decided (inr n) (inr m) = inr (λ w. elim w [ inl a ↦ n a | inr b ↦ m b ])

pub then_decided : {A B : Type 0} → Decided A → Decided B → Decided (A → B)
then_decided (inr n) d = inl (λ a. absurd (n a))
then_decided (inl a) (inl b) = inl (λ _. b)
then_decided (inl a) (inr n) = inr (λ f. n (f a))

pub not_decided : {A : Type 0} → Decided A → Decided (A → ⊥)
not_decided (inl a) = inr (λ n. n a)
not_decided (inr n) = inl n

pub bool_decided : (a b : Bool) → Decided (a ≡ b)
bool_decided true true = inl refl
bool_decided true false = inr (λ e. cc)
bool_decided false true = inr (λ e. cc)
bool_decided false false = inl refl

pub test_decided : {A : Type 0} (b : Bool) → Decides b A → Decided A
test_decided b d = elim (true_or_false b) [ inl t ↦ inl (d.0 t) | inr f ↦ inr (λ a. let t : b ≡ true = d.1 a in cc) ]

pub all_decided : {X : Type 0} (P : X → Type 0) (xs : List X) → ((x : X) → Decided (P x)) → Decided ((x : X) → In x xs → P x)
all_decided P [] d = inl (λ x i. elim i [ ])
all_decided P (x ∷ xs) d = decided_as (and_decided (d x) (all_decided P xs d))
    (λ w y i. elim (split_in x y xs i) [ inl q ↦ subst P q w.0 | inr j ↦ w.1 y j ])
    (λ f. (f x here, (λ y i. f y (there i))))

pub some_decided : {X : Type 0} (o : Option X) (P : X → Type 0) → ((x : X) → Decided (P x)) → Decided ((x : X) → o ≡ Some x → P x)
some_decided None P d = inl (λ x e. absurd cc)
some_decided (Some y) P d = decided_as (d y) (λ p x e. subst P (some_same y x e) p) (λ f. f y refl)

pub fits_decided : (z : ℤ) → Decided (FitsSigned w32 z)
fits_decided (pos n) = elim (cases_lt n (2 ^ 31)) [ inl l ↦ inl (record { sfits = l }) | inr l ↦ inr (λ h. absurd (omega (arith, ints))) ]
fits_decided (negsuc n) = elim (cases_lt n (2 ^ 31)) [ inl l ↦ inl (record { sfits = l }) | inr l ↦ inr (λ h. absurd (omega (arith, ints))) ]

-- of the things of that sort one has the property, or none has
abbrev pub Searchable : {X : Type 0} → (X → Type 0) → Type 1
Searchable {X} S = (P : X → Type 0) → ((x : X) → Decided (P x)) → Decided ((x : X) × S x × P x)

pub search_list : {X : Type 0} (xs : List X) → Searchable (λ (x : X). In x xs)
search_list [] P d = inr (λ w. elim w.1 [ ])
search_list (x ∷ xs) P d = elim (d x) [
  | inl p ↦ inl (x, here, p)
  | inr n ↦ elim (search_list xs P d) [
    | inl w ↦ inl (w.0, there w.1, w.2)
    | inr m ↦ inr (λ w. elim (split_in x w.0 xs w.1) [ inl q ↦ n (subst P (sym q) w.2) | inr j ↦ m (w.0, j, w.2) ])
  ]
]

pub search_pair : {X Y : Type 0} (S : X → Type 0) (T : Y → Type 0) → Searchable S → Searchable T → Searchable (λ (z : X × Y). S z.0 × T z.1)
search_pair {X} {Y} S T a b P d = elim (a (λ x. (y : Y) × T y × P (x, y)) (λ x. b (λ y. P (x, y)) (λ y. d (x, y)))) [
  | inl w ↦ inl ((w.0, w.2.0), (w.1, w.2.1), w.2.2)
  | inr n ↦ inr (λ w. n (w.0.0, w.1.0, (w.0.1, w.1.1, w.2)))
]

-- at most that many things of that sort
abbrev pub AreFew : {X : Type 0} → (X → Type 0) → ℕ → List X → Type 0
AreFew {X} S n xs = (length xs ≤ n) × ((x : X) → In x xs → S x)

none_few : {X : Type 0} (S : X → Type 0) → AreFew S 0 []
none_few S = (omega arith, (λ x i. elim i [ ]))

one_more : {X : Type 0} (S : X → Type 0) (n : ℕ) (x : X) (xs : List X) → S x → AreFew S n xs → AreFew S (suc n) (x ∷ xs)
one_more S n x xs s few = (
  (let l : length xs ≤ n = few.0 in omega arith),
  (λ y i. elim (split_in x y xs i) [ inl q ↦ subst S q s | inr j ↦ few.1 y j ]),
)

fewer : {X : Type 0} (S : X → Type 0) (n : ℕ) (x : X) (xs : List X) → AreFew S (suc n) (x ∷ xs) → AreFew S n xs
fewer S n x xs few = ((let l : suc (length xs) ≤ suc n = few.0 in omega arith), (λ y i. few.1 y (there i)))

only_empty : {X : Type 0} (P : List X → Type 0) (xs : List X) → length xs ≤ 0 → P xs → P []
only_empty P [] l p = p
only_empty P (x ∷ xs) l p = absurd (omega arith)

none_found : {X : Type 0} (S : X → Type 0) (n : ℕ) (P : List X → Type 0) → (P [] → ⊥) → ((x : X) × S x × ((xs : List X) × AreFew S n xs × P (x ∷ xs)) → ⊥) → (xs : List X) → AreFew S (suc n) xs → P xs → ⊥
none_found S n P never none [] few p = never p
none_found S n P never none (x ∷ xs) few p = none (x, few.1 x here, (xs, fewer S n x xs few, p))

pub search_lists : {X : Type 0} (S : X → Type 0) → Searchable S → (n : ℕ) → Searchable (λ (xs : List X). AreFew S n xs)
search_lists S a zero P d = elim (d []) [
  | inl p ↦ inl ([], none_few S, p)
  | inr never ↦ inr (λ w. never (only_empty P w.0 w.1.0 w.2))
]
search_lists {X} S a (suc n) P d = elim (d []) [
  | inl p ↦ inl ([], ((omega arith), (λ x i. elim i [ ])), p)
  | inr never ↦ elim (a (λ x. (xs : List X) × AreFew S n xs × P (x ∷ xs)) (λ x. search_lists S a n (λ xs. P (x ∷ xs)) (λ xs. d (x ∷ xs)))) [
    | inl w ↦ inl (w.0 ∷ w.2.0, one_more S n w.0 w.2.0 w.1 w.2.1, w.2.2)
    | inr none ↦ inr (λ w. none_found S n P never none w.0 w.1 w.2)
  ]
]

none_below : (n : ℕ) (P : ℕ → Type 0) → (P n → ⊥) → ((m : ℕ) × (m < n) × P m → ⊥) → (m : ℕ) → m < suc n → P m → ⊥
none_below n P never none m l p = elim (cases_lt m n) [
  | inl k ↦ none (m, k, p)
  | inr k ↦ never (subst P (let e : m ≡ n = omega arith in e) p)
]

search_below : (n : ℕ) → Searchable (λ (m : ℕ). m < n)
search_below zero P d = inr (λ w. let l : w.0 < 0 = w.1 in absurd (omega arith))
search_below (suc n) P d = elim (d n) [
  | inl p ↦ inl (n, omega arith, p)
  | inr never ↦ elim (search_below n P d) [
    | inl w ↦ inl (w.0, (let l : w.0 < n = w.1 in omega arith), w.2)
    | inr none ↦ inr (λ w. none_below n P never none w.0 w.1 w.2)
  ]
]

none_fits : (n : ℕ) (P : ℤ → Type 0) → ((z : ℤ) → FitsSigned w32 z → (m : ℕ) × (m < n) × ((z ≡ pos m) ⊎ (z ≡ negsuc m))) → ((m : ℕ) × (m < n) × P (pos m) → ⊥) → ((m : ℕ) × (m < n) × P (negsuc m) → ⊥) → (z : ℤ) → FitsSigned w32 z → P z → ⊥
none_fits n P size up down z h p =
    let s = size z h in
    elim s.2 [ inl e ↦ up (s.0, s.1, subst P e p) | inr e ↦ down (s.0, s.1, subst P e p) ]

size_of : (z : ℤ) → FitsSigned w32 z → (m : ℕ) × (m < 2 ^ 31) × ((z ≡ pos m) ⊎ (z ≡ negsuc m))
size_of (pos m) h = (m, omega (arith, ints), inl refl)
size_of (negsuc m) h = (m, omega (arith, ints), inr refl)

pub search_ints : Searchable (λ (z : ℤ). FitsSigned w32 z)
search_ints P d = elim (search_below (2 ^ 31) (λ m. P (pos m)) (λ m. d (pos m))) [
  | inl w ↦ inl (pos w.0, record { sfits = w.1 }, w.2)
  | inr up ↦ elim (search_below (2 ^ 31) (λ m. P (negsuc m)) (λ m. d (negsuc m))) [
    | inl w ↦ inl (negsuc w.0, record { sfits = w.1 }, w.2)
    | inr down ↦ inr (λ w. none_fits (2 ^ 31) P size_of up down w.0 w.1 w.2)
  ]
]

-- a kind of those names, with at most n interfaces
abbrev pub IsListed : List Word → ℕ → Kind → Type 0
IsListed names n kind.Null = Unit {0}
IsListed names n kind.Array = Unit {0}
IsListed names n (kind.Known a) = In a names
IsListed names n (kind.Fresh a is) = In a names × AreFew (λ (i : Word). In i names) n is

none_listed : (names : List Word) (n : ℕ) (P : Kind → Type 0) → (P kind.Null → ⊥) → (P kind.Array → ⊥) → ((a : Word) × In a names × P (kind.Known a) → ⊥) →
    ((z : Word × List Word) × (In z.0 names × AreFew (λ (i : Word). In i names) n z.1) × P (kind.Fresh z.0 z.1) → ⊥) → (k : Kind) → IsListed names n k → P k → ⊥
none_listed names n P null array known fresh kind.Null l p = null p
none_listed names n P null array known fresh kind.Array l p = array p
none_listed names n P null array known fresh (kind.Known a) l p = known (a, l, p)
none_listed names n P null array known fresh (kind.Fresh a is) l p = fresh ((a, is), l, p)

pub search_kinds : (names : List Word) (n : ℕ) → Searchable (λ (k : Kind). IsListed names n k)
search_kinds names n P d = elim (d kind.Null) [
  | inl p ↦ inl (kind.Null, tt, p)
  | inr null ↦ elim (d kind.Array) [
    | inl p ↦ inl (kind.Array, tt, p)
    | inr array ↦ elim (search_list names (λ a. P (kind.Known a)) (λ a. d (kind.Known a))) [
      | inl w ↦ inl (kind.Known w.0, w.1, w.2)
      | inr known ↦ elim (search_pair (λ (a : Word). In a names) (λ (is : List Word). AreFew (λ (i : Word). In i names) n is) (search_list names) (search_lists (λ (i : Word). In i names) (search_list names) n)
          (λ z. P (kind.Fresh z.0 z.1)) (λ z. d (kind.Fresh z.0 z.1))) [
            | inl w ↦ inl (kind.Fresh w.0.0 w.0.1, w.1, w.2)
            | inr fresh ↦ inr (λ w. none_listed names n P null array known fresh w.0 w.1 w.2)
          ]
    ]
  ]
]
