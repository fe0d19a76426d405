-- A guard has the same truth wherever its atoms have; so on two shapes that have the same entries at its paths.
use Rattle.std.proofs.Common.{◌≡◌, List, [], ◌∷◌, map, flat_map, Bool, not, ◌&&◌, ◌||◌, Option, Some, None, inl, inr, refl, sym, ◌∙◌, ap, subst, ℤ, pos, ◌+ℤ◌, ◌*ℤ◌}
use Rattle.std.specs.Prelude.{option_and_then}
use Rattle.jp_pred.specs.declared.hier.Hier.{Hier}
use Rattle.jp_pred.specs.declared.path.Path.{Path}
use Rattle.jp_pred.specs.declared.shape.Shape.{Shape}
use Rattle.jp_pred.specs.declared.guard.Term.{Term}
use Rattle.jp_pred.specs.declared.guard.Atom.{Atom}
use Rattle.jp_pred.specs.declared.guard.Atom.TheVariants as atom
use Rattle.jp_pred.specs.declared.guard.Guard.{Guard, Guard-F}
use Rattle.jp_pred.specs.declared.guard.Guard.TheOpen as layer
use Rattle.jp_pred.specs.declared.guard.Guard.TheFolds.{fold-roll-Guard, ind-Guard, map-Guard}
use Rattle.jp_pred.specs.Names.{Word, In, here, there}
use Rattle.jp_pred.specs.Truth.{entry_of, is_of, at_most, sum_from, atom_holds, truth, truth_step}
use Rattle.jp_pred.specs.Implication.{atom_paths, paths_of, paths_step}
use Rattle.jp_pred.specs.Seen.{type_names, step_names, atom_names, names_of, names_step}
use Rattle.jp_pred.proofs.Visits.{in_right}
use Rattle.jp_pred.proofs.Entries.{in_left, in_append, split_in}

-- the path has the same entries in both
pub record Alike (s t : Shape) (path : Path) : Type 0 where
  pub refs : entry_of path s.refs ≡ entry_of path t.refs
  pub ints : entry_of path s.ints ≡ entry_of path t.ints

pub then_each : {X Y : Type 0} (o : Option X) (f g : X → Option Y) → ((x : X) → f x ≡ g x) → option_and_then f o ≡ option_and_then g o
then_each None f g h = refl
then_each (Some x) f g h = h x

pub then_alike : {X Y : Type 0} (o r : Option X) (f g : X → Option Y) → o ≡ r → ((x : X) → f x ≡ g x) → option_and_then f o ≡ option_and_then g r
then_alike {X} o r f g e h = subst (λ (w : Option X). option_and_then f o ≡ option_and_then g w) e (then_each o f g h)

pub sum_alike : (s t : List (Path × ℤ)) (terms : List Term) (total : ℤ) → ((p : Path) → In p (map (λ (x : Term). x.path) terms) → entry_of p s ≡ entry_of p t) → sum_from s total terms ≡ sum_from t total terms
sum_alike s t [] total h = refl
sum_alike s t (x ∷ xs) total h = then_alike (entry_of x.path s) (entry_of x.path t) (λ v. sum_from s (total +ℤ x.coefficient *ℤ v) xs) (λ v. sum_from t (total +ℤ x.coefficient *ℤ v) xs)
    (h x.path here) (λ v. sum_alike s t xs (total +ℤ x.coefficient *ℤ v) (λ p i. h p (there i)))

atom_alike : (u : Hier) (s t : Shape) (a : Atom) → ((p : Path) → In p (atom_paths a) → Alike s t p) → atom_holds u s a ≡ atom_holds u t a
atom_alike u s t (atom.Is path ty) h = ap (λ o. is_of u ty o) (h path here).refs
atom_alike u s t (atom.Row row) h = ap (λ o. at_most row.bound o) (sum_alike s.ints t.ints row.terms (pos 0) (λ p i. (h p i).ints))

and_alike : (a b c d : Bool) → a ≡ b → c ≡ d → (a && c) ≡ (b && d)
and_alike a b c d e f = cc

or_alike : (a b c d : Bool) → a ≡ b → c ≡ d → (a || c) ≡ (b || d)
or_alike a b c d e f = cc

-- two truths of atoms agree on an atom whose paths and names are as they are wanted
module _ (v w : Atom → Bool) (R : Path → Type 0) (S : Word → Type 0) (agree : (a : Atom) → ((p : Path) → In p (atom_paths a) → R p) → ((n : Word) → In n (atom_names a) → S n) → v a ≡ w a) where
  -- then they agree on a guard whose paths and names are
  abbrev Agrees : Guard → Type 0
  Agrees g = ((p : Path) → In p (paths_of g) → R p) → ((n : Word) → In n (names_of g) → S n) → truth v g ≡ truth w g

  abbrev AgreesIn : Guard-F Guard → Type 0
  AgreesIn z = ((p : Path) → In p (paths_step (map-Guard Guard (List Path) paths_of z)) → R p) → ((n : Word) → In n (names_step (map-Guard Guard (List Word) names_of z)) → S n) →
      truth_step v (map-Guard Guard Bool (truth v) z) ≡ truth_step w (map-Guard Guard Bool (truth w) z)

  node : (y : Guard-F ((g : Guard) × Agrees g)) → AgreesIn (map-Guard ((g : Guard) × Agrees g) Guard (λ e. e.0) y)
  node layer.True h k = refl
  node layer.False h k = refl
  node (layer.And l r) h k = and_alike _ _ _ _
      (l.1 (λ p i. h p (in_left (paths_of r.0) i)) (λ n i. k n (in_left (names_of r.0) i)))
      (r.1 (λ p i. h p (in_right (paths_of l.0) i)) (λ n i. k n (in_right (names_of l.0) i)))
  node (layer.Or l r) h k = or_alike _ _ _ _
      (l.1 (λ p i. h p (in_left (paths_of r.0) i)) (λ n i. k n (in_left (names_of r.0) i)))
      (r.1 (λ p i. h p (in_right (paths_of l.0) i)) (λ n i. k n (in_right (names_of l.0) i)))
  node (layer.Not g) h k = ap not (g.1 h k)
  node (layer.Atom a) h k = agree a h k

  pub truth_agrees : (g : Guard) → ((p : Path) → In p (paths_of g) → R p) → ((n : Word) → In n (names_of g) → S n) → truth v g ≡ truth w g
  truth_agrees = ind-Guard Agrees (λ x y is h k.
      fold-roll-Guard Bool (truth_step v) x
      ∙ (subst AgreesIn is (node y)
      (λ p i. h p (subst (λ (ps : List Path). In p ps) (sym (fold-roll-Guard (List Path) paths_step x)) i))
      (λ n i. k n (subst (λ (ns : List Word). In n ns) (sym (fold-roll-Guard (List Word) names_step x)) i))
      ∙ sym (fold-roll-Guard Bool (truth_step w) x)))

pub truth_alike : (u : Hier) (s t : Shape) (g : Guard) → ((p : Path) → In p (paths_of g) → Alike s t p) → truth (atom_holds u s) g ≡ truth (atom_holds u t) g
truth_alike u s t g h = truth_agrees (atom_holds u s) (atom_holds u t) (Alike s t) (λ n. Unit {0}) (λ a i j. atom_alike u s t a i) g h (λ n i. tt)

-- a class of a step of a path that a guard names is one that the guard names
row_names : (terms : List Term) (q : Path) (n : Word) → In q (map (λ (x : Term). x.path) terms) → In n (step_names q) → In n (flat_map (λ (x : Term). step_names x.path) terms)
row_names [] q n i j = elim i [ ]
row_names (x ∷ xs) q n i j = elim (split_in x.path q (map (λ (y : Term). y.path) xs) i) [
  | inl e ↦ in_left (flat_map (λ (y : Term). step_names y.path) xs) (subst (λ (p : Path). In n (step_names p)) (sym e) j)
  | inr k ↦ in_right (step_names x.path) (row_names xs q n k j)
]

atom_step_names : (a : Atom) (q : Path) (n : Word) → In q (atom_paths a) → In n (step_names q) → In n (atom_names a)
atom_step_names (atom.Is path t) q n i j = elim (split_in path q [] i) [
  | inl e ↦ in_left (type_names t) (subst (λ (p : Path). In n (step_names p)) (sym e) j)
  | inr k ↦ elim k [ ]
]
atom_step_names (atom.Row row) q n i j = row_names row.terms q n i j

abbrev HasNames : Guard → Type 0
HasNames g = (q : Path) (n : Word) → In q (paths_of g) → In n (step_names q) → In n (names_of g)

abbrev HasNamesIn : Guard-F Guard → Type 0
HasNamesIn z = (q : Path) (n : Word) → In q (paths_step (map-Guard Guard (List Path) paths_of z)) → In n (step_names q) → In n (names_step (map-Guard Guard (List Word) names_of z))

part_names : (y : Guard-F ((g : Guard) × HasNames g)) → HasNamesIn (map-Guard ((g : Guard) × HasNames g) Guard (λ e. e.0) y)
part_names layer.True q n i j = elim i [ ]
part_names layer.False q n i j = elim i [ ]
part_names (layer.And l r) q n i j = elim (in_append q (paths_of l.0) (paths_of r.0) i) [ inl k ↦ in_left (names_of r.0) (l.1 q n k j) | inr k ↦ in_right (names_of l.0) (r.1 q n k j) ]
part_names (layer.Or l r) q n i j = elim (in_append q (paths_of l.0) (paths_of r.0) i) [ inl k ↦ in_left (names_of r.0) (l.1 q n k j) | inr k ↦ in_right (names_of l.0) (r.1 q n k j) ]
part_names (layer.Not g) q n i j = g.1 q n i j
part_names (layer.Atom a) q n i j = atom_step_names a q n i j

pub has_names : (g : Guard) (q : Path) (n : Word) → In q (paths_of g) → In n (step_names q) → In n (names_of g)
has_names = ind-Guard HasNames (λ x y is q n i j.
    subst (λ (ns : List Word). In n ns) (sym (fold-roll-Guard (List Word) names_step x))
    (subst HasNamesIn is (part_names y) q n (subst (λ (ps : List Path). In q ps) (fold-roll-Guard (List Path) paths_step x) i) j))
