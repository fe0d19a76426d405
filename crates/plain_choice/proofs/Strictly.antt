-- The test for a class implies that for each class above it, and no test implies that for a class which isn't above its own.
use Rattle.std.proofs.Common.{◌≡◌, ◌≢◌, ◌≤◌, ℕ, zero, suc, ℤ, pos, Bool, true, false, ◌&&◌, List, [], ◌∷◌, ◌++◌, map, Option, Some, None, ◌⊎◌, inl, inr, refl, sym, ap, ◌∙◌, subst, rules, arith}
use Rattle.std.specs.Prelude.{IsSome, slice_get, option_and_then}
use Rattle.std.proofs.lemmas.Int.{ints}
use Rattle.jp_pred.specs.declared.guard.Guard.{Guard, the_lemmas}
use Rattle.jp_pred.specs.declared.guard.Guard.TheVariants as guard
use Rattle.jp_pred.specs.declared.guard.Atom.{Atom}
use Rattle.jp_pred.specs.declared.guard.Atom.TheVariants as atom
use Rattle.jp_pred.specs.declared.hier.Hier.{Hier}
use Rattle.jp_pred.specs.declared.path.Path.{Path}
use Rattle.jp_pred.specs.declared.path.PathStep.{PathStep}
use Rattle.jp_pred.specs.declared.shape.Kind.{Kind}
use Rattle.jp_pred.specs.declared.shape.Kind.TheVariants as kind
use Rattle.jp_pred.specs.declared.shape.Shape.{Shape}
use Rattle.jp_pred.specs.declared.ty.Ty.{Ty}
use Rattle.jp_pred.specs.declared.ty.Ty.TheVariants as ty
use Rattle.jp_pred.specs.Names.{Word, object, In, here, there, AreDistinct}
use Rattle.jp_pred.specs.Hierarchy.{stop, IsBelow}
use Rattle.jp_pred.specs.Universe.{IsUniverse, IsSeen, Extends}
use Rattle.jp_pred.specs.Kinds.{is_reference, IsOf, IsOpen}
use Rattle.jp_pred.specs.Paths.{root_path, this, extend}
use Rattle.jp_pred.specs.Truth.{entry_of, is_of, atom_holds, truth, is_true}
use Rattle.jp_pred.specs.Shapes.{steps_type, path_type, RefFits, IntFits, HasEntry, IsShape}
use Rattle.jp_pred.specs.Implication.{atom_paths, paths_of, root_types, Implies}
use Rattle.jp_pred.specs.Selection.{whole_guard}
use Rattle.jp_pred.proofs.Agreement.{below_trans}
use Rattle.jp_pred.proofs.Ascents.{is_below-Decides}
use Rattle.jp_pred.proofs.Entries.{equal_or_not, entry_here, entry_other, split_in, none_apart, some_or_none, some_at, not_empty}
use Rattle.jp_pred.proofs.OfTypes.{kind_below-Decides}
use Rattle.jp_pred.proofs.Selections.{equal_or_other}
use Rattle.jp_pred.proofs.Universes.{below_kept}
use Rattle.jp_pred.proofs.Visits.{some_same}

-- TESTS

-- the truth of a test alone, and the path that it names
only_test : (value : Atom → Bool) (a : Atom) → truth value (guard.And (guard.Atom a) guard.True) ≡ (value a && true)
only_test value a = search (rules, the_lemmas)

pub untested : (u : Hier) (shape : Shape) → is_true u shape guard.True ≡ true
untested u shape = no_test (atom_holds u shape) where
  no_test : (value : Atom → Bool) → truth value guard.True ≡ true
  no_test value = search (rules, the_lemmas)

and_true : (b : Bool) → (b && true) ≡ b
and_true true = refl
and_true false = refl

only_path : (a : Atom) → paths_of (guard.And (guard.Atom a) guard.True) ≡ (atom_paths a ++ [])
only_path a = search (rules, the_lemmas)

-- the guard of a body that has none, with the test for its class
abbrev pub test_for : Word → Guard
test_for class = whole_guard (class, guard.True)

test_is : (u : Hier) (shape : Shape) (class : Word) → is_true u shape (test_for class) ≡ is_of u (ty.Class class) (entry_of this shape.refs)
test_is u shape class = let a = atom.Is this (ty.Class class) in only_test (atom_holds u shape) a ∙ and_true (atom_holds u shape a)

-- of a class and of those above it
of_above : (u : Hier) → IsUniverse u → (low high : Word) → IsBelow u low high → (k : Kind) → IsOf u k (ty.Class low) → IsOf u k (ty.Class high)
of_above u valid low high b kind.Null i = i
of_above u valid low high b kind.Array i = i
of_above u valid low high b (kind.Known name) i = (i.0, i.1, below_trans u valid i.0 low high i.2 b)
of_above u valid low high b (kind.Fresh superclass interfaces) i = (i.0, i.1, below_trans u valid i.0 low high i.2 b)

entry_above : (u : Hier) → IsUniverse u → (low high : Word) → IsBelow u low high → (o : Option Kind) → is_of u (ty.Class low) o ≡ true → is_of u (ty.Class high) o ≡ true
entry_above u valid low high b None e = e
entry_above u valid low high b (Some k) e = (kind_below-Decides u k (ty.Class high) valid.free).1 (of_above u valid low high b k ((kind_below-Decides u k (ty.Class low) valid.free).0 e))

pub implied_above : (hier : Hier) → IsUniverse hier → (parameters : List Ty) (low high : Word) → IsSeen hier low → IsBelow hier low high → Implies hier parameters (test_for low) (test_for high)
implied_above hier valid parameters low high seen b u shape extends over true_there =
    let above : IsBelow u low high = (below_kept u hier low high valid extends seen).0 ((is_below-Decides hier low high valid.free).1 b) in
    test_is u shape high ∙ entry_above u extends.valid low high above (entry_of this shape.refs) (sym (test_is u shape low) ∙ true_there)

-- SHAPES OF ROOTS ALONE

abbrev with_ref : ℕ → Kind → Shape → Shape
with_ref n k s = record { refs = (root_path n, k) ∷ s.refs; ints = s.ints }

abbrev with_int : ℕ → ℤ → Shape → Shape
with_int n v s = record { refs = s.refs; ints = (root_path n, v) ∷ s.ints }

module _ (u : Hier) (roots : List Ty) where
  -- the entries of a shape stand at the roots from this one on, one at each
  record Fills (n : ℕ) (s : Shape) : Type 0 where
    root : (i : ℕ) (t : Ty) → n ≤ i → slice_get roots i ≡ Some t → HasEntry s (root_path i)
    alone : (path : Path) → HasEntry s path → (path.steps ≡ []) × (n ≤ path.root)
    refs : (path : Path) (k : Kind) → entry_of path s.refs ≡ Some k → RefFits u k (path_type u roots path)
    ints : (path : Path) (v : ℤ) → entry_of path s.ints ≡ Some v → IntFits v (path_type u roots path)
    refs_once : AreDistinct (map (λ e. e.0) s.refs)
    ints_once : AreDistinct (map (λ e. e.0) s.ints)

  fills_none : (n : ℕ) → ((i : ℕ) (t : Ty) → n ≤ i → slice_get roots i ≡ Some t → ⊥) → Fills n (record { refs = []; ints = [] })
  fills_none n none = record {
    root = λ i t l e. absurd (none i t l e);
    alone = λ path h. elim h [ inl a ↦ absurd cc | inr a ↦ absurd cc ];
    refs = λ path k e. absurd cc;
    ints = λ path v e. absurd cc;
    refs_once = tt;
    ints_once = tt;
  }

  no_entry : (n : ℕ) (s : Shape) → Fills (suc n) s → HasEntry s (root_path n) → ⊥
  no_entry n s f h = let l : suc n ≤ n = (f.alone (root_path n) h).1 in absurd (omega (arith, l))

  -- one root more
  filled : (n : ℕ) (t : Ty) (s more : Shape) → Fills (suc n) s → HasEntry more (root_path n) → ((p : Path) → HasEntry s p → HasEntry more p) → ((p : Path) → HasEntry more p → (root_path n ≡ p) ⊎ HasEntry s p) →
      ((path : Path) (k : Kind) → entry_of path more.refs ≡ Some k → RefFits u k (path_type u roots path)) → ((path : Path) (v : ℤ) → entry_of path more.ints ≡ Some v → IntFits v (path_type u roots path)) →
      AreDistinct (map (λ e. e.0) more.refs) → AreDistinct (map (λ e. e.0) more.ints) → Fills n more
  filled n t s more f own on back refs ints refs_once ints_once = record {
    root = λ i t' l e. elim (equal_or_other i n) [
      | inl q ↦ subst (λ (j : ℕ). HasEntry more (root_path j)) (sym q) own
      | inr ne ↦ on (root_path i) (f.root i t' (omega (arith, l, ne)) e)
    ];
    alone = λ path h. elim (back path h) [
      | inl q ↦ (ap (λ (p : Path). p.steps) (sym q), subst (λ (p : Path). n ≤ p.root) q (omega arith))
      | inr o ↦ let a = f.alone path o in let l = a.1 in (a.0, omega (arith, l))
    ];
    refs = refs;
    ints = ints;
    refs_once = refs_once;
    ints_once = ints_once;
  }

  module _ (n : ℕ) (t : Ty) (at : slice_get roots n ≡ Some t) (s : Shape) (f : Fills (suc n) s) where
    fills_ref : (k : Kind) → RefFits u k (Some t) → Fills n (with_ref n k s)
    fills_ref k fit = filled n t s (with_ref n k s) f
        (inl (some_at _ k (entry_here (root_path n) k s.refs)))
        (λ p h. elim (equal_or_not (root_path n) p) [
          | inl q ↦ subst (λ (x : Path). HasEntry (with_ref n k s) x) q (inl (some_at _ k (entry_here (root_path n) k s.refs)))
          | inr ne ↦ elim h [ inl a ↦ inl (subst (λ (o : Option Kind). IsSome o) (sym (entry_other (root_path n) p k s.refs ne)) a) | inr a ↦ inr a ]
        ])
        (λ p h. elim (equal_or_not (root_path n) p) [
          | inl q ↦ inl q
          | inr ne ↦ inr (elim h [ inl a ↦ inl (subst (λ (o : Option Kind). IsSome o) (entry_other (root_path n) p k s.refs ne) a) | inr a ↦ inr a ])
        ])
        (λ path j e. elim (equal_or_not (root_path n) path) [
          | inl q ↦ subst (λ (x : Path). RefFits u j (path_type u roots x)) q (own_ref k fit j (subst (λ (x : Path). entry_of x ((root_path n, k) ∷ s.refs) ≡ Some j) (sym q) e))
          | inr ne ↦ f.refs path j (sym (entry_other (root_path n) path k s.refs ne) ∙ e)
        ])
        f.ints (none_apart (root_path n) s.refs no_ref, f.refs_once) f.ints_once where
          no_ref : entry_of (root_path n) s.refs ≡ None
          no_ref = elim (some_or_none (entry_of (root_path n) s.refs)) [ inl h ↦ absurd (no_entry n s f (inl h)) | inr e ↦ e ]

          own_ref : (k : Kind) → RefFits u k (Some t) → (j : Kind) → entry_of (root_path n) ((root_path n, k) ∷ s.refs) ≡ Some j → RefFits u j (path_type u roots (root_path n))
          own_ref k fit j e =
              let q : k ≡ j = some_same k j (sym (entry_here (root_path n) k s.refs) ∙ e) in
              subst (λ (x : Kind). RefFits u x (path_type u roots (root_path n))) q (subst (λ (o : Option Ty). RefFits u k (option_and_then (λ t. steps_type u t []) o)) (sym at) fit)

    fills_int : (v : ℤ) → IntFits v (Some t) → Fills n (with_int n v s)
    fills_int v fit = filled n t s (with_int n v s) f
        (inr (some_at _ v (entry_here (root_path n) v s.ints)))
        (λ p h. elim (equal_or_not (root_path n) p) [
          | inl q ↦ subst (λ (x : Path). HasEntry (with_int n v s) x) q (inr (some_at _ v (entry_here (root_path n) v s.ints)))
          | inr ne ↦ elim h [ inl a ↦ inl a | inr a ↦ inr (subst (λ (o : Option ℤ). IsSome o) (sym (entry_other (root_path n) p v s.ints ne)) a) ]
        ])
        (λ p h. elim (equal_or_not (root_path n) p) [
          | inl q ↦ inl q
          | inr ne ↦ inr (elim h [ inl a ↦ inl a | inr a ↦ inr (subst (λ (o : Option ℤ). IsSome o) (entry_other (root_path n) p v s.ints ne) a) ])
        ])
        f.refs
        (λ path w e. elim (equal_or_not (root_path n) path) [
          | inl q ↦ subst (λ (x : Path). IntFits w (path_type u roots x)) q (own_int w (subst (λ (x : Path). entry_of x ((root_path n, v) ∷ s.ints) ≡ Some w) (sym q) e))
          | inr ne ↦ f.ints path w (sym (entry_other (root_path n) path v s.ints ne) ∙ e)
        ])
        f.refs_once (none_apart (root_path n) s.ints no_int, f.ints_once) where
          no_int : entry_of (root_path n) s.ints ≡ None
          no_int = elim (some_or_none (entry_of (root_path n) s.ints)) [ inl h ↦ absurd (no_entry n s f (inr h)) | inr e ↦ e ]

          own_int : (w : ℤ) → entry_of (root_path n) ((root_path n, v) ∷ s.ints) ≡ Some w → IntFits w (path_type u roots (root_path n))
          own_int w e =
              let q : v ≡ w = some_same v w (sym (entry_here (root_path n) v s.ints) ∙ e) in
              subst (λ (x : ℤ). IntFits x (path_type u roots (root_path n))) q (subst (λ (o : Option Ty). IntFits v (option_and_then (λ t. steps_type u t []) o)) (sym at) fit)

  no_steps : (path : Path) (s : PathStep) → In (extend path s) (this ∷ this ∷ []) → ⊥
  no_steps path s i = elim (split_in this (extend path s) (this ∷ []) i) [
    | inl q ↦ not_empty path.steps s (ap (λ (p : Path). p.steps) q)
    | inr j ↦ elim (split_in this (extend path s) [] j) [
      | inl q ↦ not_empty path.steps s (ap (λ (p : Path). p.steps) q)
      | inr k ↦ elim k [ ]
    ]
  ]

  -- a shape with an entry at each root is one over the receiver
  is_shape : (s : Shape) → Fills 0 s → IsShape u roots (this ∷ this ∷ []) s
  is_shape s f = record {
    root = λ i t e. f.root i t (omega arith) e;
    longer = λ path st i l. absurd (no_steps path st i);
    defined = λ path st h. absurd (not_empty path.steps st (sym (f.alone (extend path st) h).0));
    refs = f.refs;
    ints = f.ints;
    refs_once = f.refs_once;
    ints_once = f.ints_once;
  }

-- NULL AND ZERO

-- the types are those of the roots from this one on
abbrev Stand : List Ty → ℕ → List Ty → Type 0
Stand roots n [] = (i : ℕ) (t : Ty) → n ≤ i → slice_get roots i ≡ Some t → ⊥
Stand roots n (t ∷ ts) = (slice_get roots n ≡ Some t) × Stand roots (suc n) ts

one_later : (r : Ty) (roots : List Ty) (n : ℕ) (ts : List Ty) → Stand roots n ts → Stand (r ∷ roots) (suc n) ts
one_later r roots n [] h = behind where
  behind : (i : ℕ) (t : Ty) → suc n ≤ i → slice_get (r ∷ roots) i ≡ Some t → ⊥
  behind zero t l e = absurd (omega (arith, l))
  behind (suc i) t l e = h i t (omega (arith, l)) e
one_later r roots n (t ∷ ts) h = (h.0, one_later r roots (suc n) ts h.1)

all_stand : (ts : List Ty) → Stand ts 0 ts
all_stand [] = λ i t l e. absurd cc
all_stand (t ∷ ts) = (refl, one_later t ts 0 ts (all_stand ts))

abbrev with_default : Bool → ℕ → Shape → Shape
with_default true n s = with_ref n kind.Null s
with_default false n s = with_int n (pos 0) s

-- null or 0 for each of the types, at the roots from this one on
abbrev defaults : ℕ → List Ty → Shape
defaults n [] = record { refs = []; ints = [] }
defaults n (t ∷ ts) = with_default (is_reference t) n (defaults (suc n) ts)

-- the types are those of values
abbrev pub AreValues : List Ty → Type 0
AreValues ts = (t : Ty) → In t ts → t ≢ ty.Void

zero_fits : (t : Ty) → t ≢ ty.Void → is_reference t ≡ false → IntFits (pos 0) (Some t)
zero_fits ty.Void value e = absurd (value refl)
zero_fits ty.Int value e = omega (arith, ints)
zero_fits ty.Boolean value e = inl refl
zero_fits (ty.Class c) value e = absurd cc
zero_fits ty.IntArray value e = absurd cc
zero_fits ty.BooleanArray value e = absurd cc
zero_fits (ty.ClassArray c) value e = absurd cc

defaults_fill : (u : Hier) (roots : List Ty) (n : ℕ) (ts : List Ty) → AreValues ts → Stand roots n ts → Fills u roots n (defaults n ts)
defaults_fill u roots n [] values h = fills_none u roots n h
defaults_fill u roots n (t ∷ ts) values h = by_kind (is_reference t) refl (defaults_fill u roots (suc n) ts (λ x i. values x (there i)) h.1) where
  by_kind : (b : Bool) → is_reference t ≡ b → Fills u roots (suc n) (defaults (suc n) ts) → Fills u roots n (with_default b n (defaults (suc n) ts))
  by_kind true e rest = fills_ref u roots n t h.0 (defaults (suc n) ts) rest kind.Null (tt, (e, inl refl))
  by_kind false e rest = fills_int u roots n t h.0 (defaults (suc n) ts) rest (pos 0) (zero_fits t (values t here) e)

-- AN OBJECT OF A FRESH CLASS

paths_are : (a b : Word) → (paths_of (test_for a) ++ paths_of (test_for b)) ≡ (this ∷ this ∷ [])
paths_are a b = ap (λ (ps : List Path). ps ++ paths_of (test_for b)) (only_path (atom.Is this (ty.Class a))) ∙ ap (λ (ps : List Path). this ∷ ps) (only_path (atom.Is this (ty.Class b)))

-- an object of a class below the one alone is none of the other
pub never_implied : (hier : Hier) → IsUniverse hier → (parameters : List Ty) → AreValues parameters → (high low : Word) → IsOpen hier high → (IsBelow hier high low → ⊥) → Implies hier parameters (test_for high) (test_for low) → ⊥
never_implied hier valid parameters values high low extends apart h =
    let roots = root_types parameters in
    let k : Kind = kind.Fresh high [] in
    let shape : Shape = with_ref 0 k (defaults 1 parameters) in
    let fit : RefFits hier k (Some (ty.Class object)) = ((extends, λ i j. elim j [ ]), (refl, inr (high, here, inr refl))) in
    let fill : Fills hier roots 0 shape = fills_ref hier roots 0 (ty.Class object) refl (defaults 1 parameters) (defaults_fill hier roots 1 parameters values (all_stand roots).1) k fit in
    let over = subst (λ (ps : List Path). IsShape hier roots ps shape) (sym (paths_are high low)) (is_shape hier roots shape fill) in
    let entry : entry_of this shape.refs ≡ Some k = entry_here this k (defaults 1 parameters).refs in
    let own : IsOf hier k (ty.Class high) = (high, here, inl stop) in
    let first = test_is hier shape high ∙ ap (is_of hier (ty.Class high)) entry ∙ (kind_below-Decides hier k (ty.Class high) valid.free).1 own in
    let itself : Extends hier hier = record { valid = valid; keeps = λ c i. i } in
    let second = h hier shape itself over first in
    let below : IsOf hier k (ty.Class low) = (kind_below-Decides hier k (ty.Class low) valid.free).0 (sym (ap (is_of hier (ty.Class low)) entry) ∙ sym (test_is hier shape low) ∙ second) in
    elim (split_in high below.0 [] below.1) [
      | inl q ↦ apart (subst (λ (w : Word). IsBelow hier w low) (sym q) below.2)
      | inr j ↦ elim j [ ]
    ]
