-- Implication is decided: where it doesn't hold, a shape of the hierarchy itself says so.
use Rattle.std.proofs.Common.{◌≡◌, ℕ, zero, suc, ◌<◌, ◌≤◌, List, [], ◌∷◌, ◌++◌, length, map, true, false, Option, Some, ◌⊎◌, inl, inr, sym, ◌∙◌, subst, ℤ, pos, FitsSigned, w32, arith}
use Rattle.std.specs.Prelude.{slice_get}
use Rattle.std.proofs.lemmas.Int.{ints}
use Rattle.std.proofs.lemmas.Bool.{cases_lt}
use Rattle.jp_pred.specs.declared.hier.Hier.{Hier}
use Rattle.jp_pred.specs.declared.ty.Ty.{Ty}
use Rattle.jp_pred.specs.declared.ty.Ty.TheVariants as ty
use Rattle.jp_pred.specs.declared.path.Path.{Path}
use Rattle.jp_pred.specs.declared.shape.Kind.{Kind}
use Rattle.jp_pred.specs.declared.shape.Shape.{Shape}
use Rattle.jp_pred.specs.declared.guard.Guard.{Guard}
use Rattle.jp_pred.specs.Names.{Word, In, here, there, AreDistinct}
use Rattle.jp_pred.specs.Universe.{IsUniverse}
use Rattle.jp_pred.specs.Paths.{root_path, prefixes}
use Rattle.jp_pred.specs.Truth.{entry_of, is_true}
use Rattle.jp_pred.specs.Shapes.{path_type, IntFits, HasEntry, IsShape}
use Rattle.jp_pred.specs.Implication.{paths_of, root_types, Implies, Refuted}
use Rattle.jp_pred.specs.Seen.{AreSeen}
use Rattle.jp_pred.proofs.Lists.{no_longer}
use Rattle.jp_pred.proofs.Ascents.{length_map}
use Rattle.jp_pred.proofs.Cycles.{in_map_back}
use Rattle.jp_pred.proofs.Visits.{true_or_false, in_right}
use Rattle.jp_pred.proofs.Entries.{split_in, some_at, entry_here, entry_other, in_left, in_map}
use Rattle.jp_pred.proofs.Completion.{rooted}
use Rattle.jp_pred.proofs.Lowering.{all_names}
use Rattle.jp_pred.proofs.Searches.{Decided, and_decided, bool_decided, Searchable, AreFew, IsListed, search_list, search_pair, search_lists, search_ints, search_kinds}
use Rattle.jp_pred.proofs.Decisions.{shape_decided}
use Rattle.jp_pred.proofs.Stability.{Lowered, lowers, own}

-- the numbers below n
abbrev numbers : ℕ → List ℕ
numbers zero = []
numbers (suc n) = n ∷ numbers n

in_numbers : (n i : ℕ) → i < n → In i (numbers n)
in_numbers zero i l = absurd (omega arith)
in_numbers (suc n) i l = elim (cases_lt i n) [
  | inl k ↦ there (in_numbers n i k)
  | inr k ↦ let e : n ≡ i = omega arith in subst (λ (x : ℕ). In x (n ∷ numbers n)) e here
]

in_range : (roots : List Ty) (i : ℕ) (t : Ty) → slice_get roots i ≡ Some t → i < length roots
in_range [] i t e = absurd cc
in_range (r ∷ rs) zero t e = omega arith
in_range (r ∷ rs) (suc i) t e = let l = in_range rs i t e in omega arith

-- where a shape may have entries: at the roots, and at the set's paths and their prefixes
abbrev spots : List Ty → List Path → List Path
spots roots paths = map root_path (numbers (length roots)) ++ prefixes paths

entry_at : {X : Type 0} (es : List (Path × X)) (e : Path × X) → AreDistinct (map (λ (x : Path × X). x.0) es) → In e es → entry_of e.0 es ≡ Some e.1
entry_at [] e d i = elim i [ ]
entry_at {X} (x ∷ xs) e d i = elim (split_in x e xs i) [
  | inl q ↦ subst (λ (y : Path × X). entry_of y.0 (x ∷ xs) ≡ Some y.1) q (entry_here x.0 x.1 xs)
  | inr j ↦ entry_other x.0 e.0 x.1 xs (λ q. d.0 (subst (λ (z : Path). In z (map (λ (y : Path × X). y.0) xs)) (sym q) (in_map (λ (y : Path × X). y.0) j))) ∙ entry_at xs e d.1 j
]

few_entries : {X : Type 0} (S : X → Type 0) (places : List Path) (es : List (Path × X)) → AreDistinct (map (λ (e : Path × X). e.0) es) →
    ((p : Path) (x : X) → entry_of p es ≡ Some x → In p places × S x) → AreFew (λ (e : Path × X). In e.0 places × S e.1) (length places) es
few_entries {X} S places es d at =
    let front : Path × X → Path = λ e. e.0 in
    let short : length (map front es) ≤ length places = no_longer (map front es) places d (λ p i.
    let e = in_map_back front es p i in
    subst (λ (x : Path). In x places) e.2 (at e.0.0 e.0.1 (entry_at es e.0 d e.1)).0) in
    let q : length (map front es) ≡ length es = length_map front es in
    ((omega arith), (λ e i. at e.0 e.1 (entry_at es e d i)))

fits_all : (v : ℤ) (o : Option Ty) → IntFits v o → FitsSigned w32 v
fits_all v (Some ty.Int) h = h
fits_all v (Some ty.Boolean) (inl e) = let z : FitsSigned w32 (pos 0) = omega (arith, ints) in subst (λ (x : ℤ). FitsSigned w32 x) (sym e) z
fits_all v (Some ty.Boolean) (inr e) = let z : FitsSigned w32 (pos 1) = omega (arith, ints) in subst (λ (x : ℤ). FitsSigned w32 x) (sym e) z
fits_all v _ h = absurd h

module _ (places : List Path) (names : List Word) (n : ℕ) where
  abbrev IsRefOf : Path × Kind → Type 0
  IsRefOf e = In e.0 places × IsListed names n e.1

  abbrev IsIntOf : Path × ℤ → Type 0
  IsIntOf e = In e.0 places × FitsSigned w32 e.1

  abbrev IsSmall : Shape → Type 0
  IsSmall s = AreFew IsRefOf (length places) s.refs × AreFew IsIntOf (length places) s.ints

  search_shapes : Searchable IsSmall
  search_shapes P d = elim (search_pair (λ (es : List (Path × Kind)). AreFew IsRefOf (length places) es) (λ (es : List (Path × ℤ)). AreFew IsIntOf (length places) es)
      (search_lists IsRefOf (search_pair (λ (p : Path). In p places) (λ (k : Kind). IsListed names n k) (search_list places) (search_kinds names n)) (length places))
      (search_lists IsIntOf (search_pair (λ (p : Path). In p places) (λ (v : ℤ). FitsSigned w32 v) (search_list places) search_ints) (length places))
      (λ z. P (record { refs = z.0; ints = z.1 })) (λ z. d (record { refs = z.0; ints = z.1 }))) [
        | inl w ↦ inl (record { refs = w.0.0; ints = w.0.1 }, w.1, w.2)
        | inr none ↦ inr (λ w. none ((w.0.refs, w.0.ints), w.1, w.2))
      ]

module _ (hier : Hier) (parameters : List Ty) (g h : Guard) (valid : IsUniverse hier) (seen : AreSeen hier parameters (g ∷ h ∷ [])) where
  abbrev roots : List Ty
  roots = root_types parameters

  abbrev paths : List Path
  paths = paths_of g ++ paths_of h

  spot_of : (s : Shape) → IsShape hier roots paths s → (p : Path) → HasEntry s p → (root_path p.root ≡ p) ⊎ In p (prefixes paths) → In p (spots roots paths)
  spot_of s over p e (inl q) =
      let r = rooted hier roots valid.free paths s over p e in
      subst (λ (x : Path). In x (spots roots paths)) q (in_left (prefixes paths) (in_map root_path (in_numbers (length roots) p.root (in_range roots p.root r.0 r.1))))
  spot_of s over p e (inr i) = in_right (map root_path (numbers (length roots))) i

  small : (larger : Hier) (s : Shape) (low : Lowered larger hier hier parameters g h s) → IsSmall (spots roots paths) (all_names hier) (length hier.classes) low.shape
  small larger s low = (
    few_entries (λ k. IsListed (all_names hier) (length hier.classes) k) (spots roots paths) low.shape.refs low.over.refs_once (λ p k e.
        let there' : HasEntry low.shape p = inl (some_at _ k e) in
        (spot_of low.shape low.over p there' (low.places p there'), low.kinds p k e)),
    few_entries (λ v. FitsSigned w32 v) (spots roots paths) low.shape.ints low.over.ints_once (λ p v e.
        let there' : HasEntry low.shape p = inr (some_at _ v e) in
        (spot_of low.shape low.over p there' (low.places p there'), fits_all v (path_type hier roots p) (low.over.ints p v e))),
  )

  abbrev Refutes : Shape → Type 0
  Refutes s = IsShape hier roots paths s × ((is_true hier s g ≡ true) × (is_true hier s h ≡ false))

  refutes_decided : (s : Shape) → Decided (Refutes s)
  refutes_decided s = and_decided (shape_decided hier valid.free roots paths s) (and_decided (bool_decided (is_true hier s g) true) (bool_decided (is_true hier s h) false))

  pub implication_decided : Implies hier parameters g h ⊎ Refuted hier parameters g h
  implication_decided = elim (search_shapes (spots roots paths) (all_names hier) (length hier.classes) Refutes refutes_decided) [
    | inl w ↦ inr (record { shape = w.0; over = w.2.0; first = w.2.1.0; second = w.2.1.1 })
    | inr none ↦ inl (λ larger s f over t.
        let low = lowers larger hier hier parameters g h valid seen f (own hier valid) s over in
        elim (true_or_false (is_true hier low.shape h)) [
          | inl y ↦ low.second ∙ y
          | inr n ↦ absurd (none (low.shape, small larger s low, (low.over, (sym low.first ∙ t, n))))
        ])
  ]

-- what a shape refutes isn't implied
pub refuted_not : (hier : Hier) (parameters : List Ty) (g h : Guard) → IsUniverse hier → Refuted hier parameters g h → Implies hier parameters g h → ⊥
refuted_not hier parameters g h valid r implied =
    let t : is_true hier r.shape h ≡ true = implied hier r.shape (own hier valid) r.over r.first in
    let f : is_true hier r.shape h ≡ false = r.second in
    cc
