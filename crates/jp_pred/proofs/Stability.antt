-- What a universe implies, the hierarchy that it extends implies, where that has every class named.
use Rattle.std.proofs.Common.{◌≡◌, ℕ, List, [], ◌∷◌, ◌++◌, length, flat_map, Bool, true, ◌||◌, Option, Some, None, ◌⊎◌, inl, inr, refl, sym, ◌∙◌, ap, subst, ℤ, pos}
use Rattle.std.specs.Prelude.{option_map, slice_get, ◌↔◌}
use Rattle.std.specs.List.{list_any}
use Rattle.std.proofs.lemmas.Bool.Decides.{same_from_decides}
use Rattle.jp_pred.specs.declared.hier.Hier.{Hier}
use Rattle.jp_pred.specs.declared.ty.Ty.{Ty}
use Rattle.jp_pred.specs.declared.ty.Ty.TheVariants as ty
use Rattle.jp_pred.specs.declared.path.Path.{Path}
use Rattle.jp_pred.specs.declared.path.PathStep.{PathStep}
use Rattle.jp_pred.specs.declared.shape.Kind.{Kind}
use Rattle.jp_pred.specs.declared.shape.Shape.{Shape}
use Rattle.jp_pred.specs.declared.guard.Guard.{Guard}
use Rattle.jp_pred.specs.declared.guard.Atom.{Atom}
use Rattle.jp_pred.specs.declared.guard.Atom.TheVariants as atom
use Rattle.jp_pred.specs.Names.{Word, In, here}
use Rattle.jp_pred.specs.Universe.{IsSeen, IsUniverse, Extends}
use Rattle.jp_pred.specs.Kinds.{IsOf, IsKind}
use Rattle.jp_pred.specs.Paths.{same_path, root_path, extend, prefixes}
use Rattle.jp_pred.specs.Truth.{entry_of, kind_below, is_of, at_most, atom_holds, is_true}
use Rattle.jp_pred.specs.Shapes.{path_type, RefFits, IntFits, HasEntry, LeadsTo, IsShape}
use Rattle.jp_pred.specs.Implication.{atom_paths, paths_of, root_types, Implies}
use Rattle.jp_pred.specs.Seen.{type_names, step_names, atom_names, names_of, AreSeen}
use Rattle.jp_pred.proofs.Lists.{or_cases, or_left, or_right, any_from_in, in_from_any}
use Rattle.jp_pred.proofs.Visits.{in_right}
use Rattle.jp_pred.proofs.OfTypes.{kind_below-Decides}
use Rattle.jp_pred.proofs.Entries.{same_path-Decides, some_at, what_some, not_empty, in_left, in_append, in_map, in_prefixes}
use Rattle.jp_pred.proofs.Guards.{sum_alike, truth_agrees, has_names}
use Rattle.jp_pred.proofs.Agreement.{AreSeenSteps, IsSeenType, path_same, path_seen, type_named, root_named}
use Rattle.jp_pred.proofs.Searches.{IsListed}
use Rattle.jp_pred.proofs.Lowering.{all_names, looks}
use Rattle.jp_pred.proofs.Restriction.{front_in, step_in, kept, entry_kept, entry_source, kept_once}
use Rattle.jp_pred.proofs.Implied.{implies_kept}

kind_of_fit : (u : Hier) (k : Kind) (o : Option Ty) → RefFits u k o → IsKind u k
kind_of_fit u k None fit = absurd fit
kind_of_fit u k (Some t) fit = fit.0

map_same : {X : Type 0} (o : Option X) → option_map (λ x. x) o ≡ o
map_same None = refl
map_same (Some x) = refl

-- a root, or a path that the set has
abbrev needed : List Path → Path → Bool
needed paths p = same_path (root_path p.root) p || list_any (λ q. same_path q p) (prefixes paths)

needed_in : (paths : List Path) (p : Path) → In p (prefixes paths) → needed paths p ≡ true
needed_in paths p i = or_right (same_path (root_path p.root) p) (list_any (λ q. same_path q p) (prefixes paths)) (any_from_in (λ q. same_path q p) i ((same_path-Decides p p).1 refl))

needed_root : (paths : List Path) (i : ℕ) → needed paths (root_path i) ≡ true
needed_root paths i = or_left (same_path (root_path i) (root_path i)) (list_any (λ q. same_path q (root_path i)) (prefixes paths)) ((same_path-Decides (root_path i) (root_path i)).1 refl)

what_needed : (paths : List Path) (p : Path) → needed paths p ≡ true → (root_path p.root ≡ p) ⊎ In p (prefixes paths)
what_needed paths p w = elim (or_cases (same_path (root_path p.root) p) (list_any (λ q. same_path q p) (prefixes paths)) w) [
  | inl t ↦ inl ((same_path-Decides (root_path p.root) p).0 t)
  | inr t ↦
      let f = in_from_any (λ q. same_path q p) (prefixes paths) t in
      inr (subst (λ (x : Path). In x (prefixes paths)) ((same_path-Decides f.0 p).0 f.2) f.1)
]

-- a needed path with a step is one that the set has
step_needed : (paths : List Path) (p : Path) (s : PathStep) → needed paths (extend p s) ≡ true → In (extend p s) (prefixes paths)
step_needed paths p s w = elim (what_needed paths (extend p s) w) [
  | inl q ↦ absurd (not_empty p.steps s (ap (λ (x : Path). x.steps) q))
  | inr i ↦ i
]

module _ (larger universe hier : Hier) (valid : IsUniverse hier) (f : Extends larger hier) (e : Extends universe hier) (roots : List Ty) (paths : List Path)
    (seen_roots : (i : ℕ) (t : Ty) → slice_get roots i ≡ Some t → IsSeenType hier t) (seen_paths : (p : Path) → In p (prefixes paths) → AreSeenSteps hier p.steps) where
  abbrev down : Kind → Kind
  down k = (looks larger universe hier valid f e k).kind'

  abbrev wanted : Path → Bool
  wanted = needed paths

  -- the shape over the universe: the needed entries, with their kinds as the universe has them
  abbrev lowered : Shape → Shape
  lowered s = record { refs = kept wanted down s.refs; ints = kept wanted (λ (v : ℤ). v) s.ints }

  needed_steps : (p : Path) → wanted p ≡ true → AreSeenSteps hier p.steps
  needed_steps p w s i = elim (what_needed paths p w) [
    | inl q ↦ let none : In s [] = subst (λ (x : Path). In s x.steps) (sym q) i in elim none [ ]
    | inr j ↦ seen_paths p j s i
  ]

  types_same : (p : Path) → wanted p ≡ true → path_type larger roots p ≡ path_type universe roots p
  types_same p w = path_same larger hier valid f roots p (needed_steps p w) ∙ sym (path_same universe hier valid e roots p (needed_steps p w))

  type_seen : (p : Path) → wanted p ≡ true → (t : Ty) → path_type larger roots p ≡ Some t → IsSeenType hier t
  type_seen p w t q = path_seen hier valid roots seen_roots p t (sym (path_same larger hier valid f roots p (needed_steps p w)) ∙ q)

  ref_fits : (k : Kind) (o : Option Ty) → ((t : Ty) → o ≡ Some t → IsSeenType hier t) → RefFits larger k o → RefFits universe (down k) o
  ref_fits k None seen fit = absurd fit
  ref_fits k (Some t) seen fit =
      let l = looks larger universe hier valid f e k in
      (l.valid' fit.0, (fit.1.0, elim fit.1.1 [ inl q ↦ inl (l.null q) | inr r ↦ inr (l.into fit.0 t (seen t refl) r) ]))

  -- tests of seen types say the same of a kind and of what it becomes
  kind_same : (k : Kind) (t : Ty) → IsKind larger k → IsSeenType hier t → kind_below larger k t ≡ kind_below universe (down k) t
  kind_same k t h seen =
      let l = looks larger universe hier valid f e k in
      let d = kind_below-Decides larger k t f.valid.free in
      same_from_decides (kind_below larger k t) (kind_below universe (down k) t)
      ((λ b. l.into h t seen (d.0 b)), (λ r. d.1 (l.from t seen r))) (kind_below-Decides universe (down k) t e.valid.free)

  test_same : (t : Ty) (o : Option Kind) → ((k : Kind) → o ≡ Some k → IsKind larger k) → IsSeenType hier t → is_of larger t o ≡ is_of universe t (option_map down o)
  test_same t None h seen = refl
  test_same t (Some k) h seen = kind_same k t (h k refl) seen

  module _ (s : Shape) (over : IsShape larger roots paths s) where
    kinds : (p : Path) (k : Kind) → entry_of p s.refs ≡ Some k → IsKind larger k
    kinds p k q = kind_of_fit larger k (path_type larger roots p) (over.refs p k q)

    has_lowered : (p : Path) → wanted p ≡ true → HasEntry s p → HasEntry (lowered s) p
    has_lowered p w (inl h) = let x = what_some (entry_of p s.refs) h in inl (some_at _ (down x.0) (entry_kept wanted down s.refs p w ∙ ap (λ o. option_map down o) x.1))
    has_lowered p w (inr h) = let x = what_some (entry_of p s.ints) h in inr (some_at _ x.0 (entry_kept wanted (λ (v : ℤ). v) s.ints p w ∙ ap (λ o. option_map (λ (v : ℤ). v) o) x.1))

    had : (p : Path) → HasEntry (lowered s) p → (wanted p ≡ true) × HasEntry s p
    had p (inl h) =
        let x = what_some (entry_of p (kept wanted down s.refs)) h in
        let y = entry_source wanted down s.refs p x.0 x.1 in
        (y.is_wanted, inl (some_at _ y.value y.found))
    had p (inr h) =
        let x = what_some (entry_of p (kept wanted (λ (v : ℤ). v) s.ints)) h in
        let y = entry_source wanted (λ (v : ℤ). v) s.ints p x.0 x.1 in
        (y.is_wanted, inr (some_at _ y.value y.found))

    kinds_listed : (p : Path) (k : Kind) → entry_of p (kept wanted down s.refs) ≡ Some k → IsListed (all_names hier) (length hier.classes) k
    kinds_listed p k q =
        let y = entry_source wanted down s.refs p k q in
        subst (λ (x : Kind). IsListed (all_names hier) (length hier.classes) x) y.changed (looks larger universe hier valid f e y.value).listed

    class_seen : (p : Path) (st : PathStep) → In (extend p st) (prefixes paths) → IsSeenType hier (ty.Class st.class)
    class_seen p st i n m =
        let q : n ≡ st.class = elim m [ inl h ↦ class_same n st.class h | inr h ↦ absurd cc ] in
        subst (λ (x : Word). IsSeen hier x) (sym q) (seen_paths (extend p st) i st (in_right p.steps here))
      where
        class_same : (a b : Word) → ty.Class b ≡ ty.Class a → a ≡ b
        class_same a b h = cc

    leads_lowered : (p : Path) (st : PathStep) → In (extend p st) (prefixes paths) → LeadsTo larger s p st.class → LeadsTo universe (lowered s) p st.class
    leads_lowered p st i l =
        let w = needed_in paths p (front_in p st paths i) in (
          down l.0,
          entry_kept wanted down s.refs p w ∙ ap (λ o. option_map down o) l.1,
          (looks larger universe hier valid f e l.0).into (kinds p l.0 l.1) (ty.Class st.class) (class_seen p st i) l.2,
        )

    led : (p : Path) (st : PathStep) → In (extend p st) (prefixes paths) → LeadsTo universe (lowered s) p st.class → LeadsTo larger s p st.class
    led p st i l =
        let y = entry_source wanted down s.refs p l.0 l.1 in (
          y.value,
          y.found,
          (looks larger universe hier valid f e y.value).from (ty.Class st.class) (class_seen p st i)
              (subst (λ (k : Kind). IsOf universe k (ty.Class st.class)) (sym y.changed) l.2),
        )

    over_universe : IsShape universe roots paths (lowered s)
    over_universe = record {
      root = λ i t q. has_lowered (root_path i) (needed_root paths i) (over.root i t q);
      longer = λ p st i l. has_lowered (extend p st) (needed_in paths (extend p st) i) (over.longer p st i (led p st i l));
      defined = λ p st h. let x = had (extend p st) h in leads_lowered p st (step_needed paths p st x.0) (over.defined p st x.1);
      refs = λ p k q.
          let y = entry_source wanted down s.refs p k q in
          let fit : RefFits universe (down y.value) (path_type larger roots p) =
          ref_fits y.value (path_type larger roots p) (type_seen p y.is_wanted) (over.refs p y.value y.found) in
          subst (λ (x : Kind). RefFits universe x (path_type universe roots p)) y.changed
          (subst (λ (o : Option Ty). RefFits universe (down y.value) o) (types_same p y.is_wanted) fit);
      ints = λ p v q.
          let y = entry_source wanted (λ (x : ℤ). x) s.ints p v q in
          subst (λ (x : ℤ). IntFits x (path_type universe roots p)) y.changed
          (subst (λ (o : Option Ty). IntFits y.value o) (types_same p y.is_wanted) (over.ints p y.value y.found));
      refs_once = kept_once wanted down s.refs over.refs_once;
      ints_once = kept_once wanted (λ (v : ℤ). v) s.ints over.ints_once;
    }

    atom_same : (a : Atom) → ((p : Path) → In p (atom_paths a) → In p paths) → ((n : Word) → In n (atom_names a) → IsSeen hier n) → atom_holds larger s a ≡ atom_holds universe (lowered s) a
    atom_same (atom.Is p t) h k =
        test_same t (entry_of p s.refs) (kinds p) (λ n m. k n (in_right (step_names p) (type_named t n m)))
        ∙ ap (λ o. is_of universe t o) (sym (entry_kept wanted down s.refs p (needed_in paths p (in_prefixes p paths (h p here)))))
    atom_same (atom.Row row) h k = ap (λ o. at_most row.bound o) (sum_alike s.ints (kept wanted (λ (v : ℤ). v) s.ints) row.terms (pos 0) (λ p i.
        sym (entry_kept wanted (λ (v : ℤ). v) s.ints p (needed_in paths p (in_prefixes p paths (h p i))) ∙ map_same (entry_of p s.ints))))

    true_same : (g : Guard) → ((p : Path) → In p (paths_of g) → In p paths) → ((n : Word) → In n (names_of g) → IsSeen hier n) → is_true larger s g ≡ is_true universe (lowered s) g
    true_same = truth_agrees (atom_holds larger s) (atom_holds universe (lowered s)) (λ p. In p paths) (λ n. IsSeen hier n) atom_same

module _ (hier : Hier) (parameters : List Ty) (g h : Guard) (seen : AreSeen hier parameters (g ∷ h ∷ [])) where
  roots_seen : (i : ℕ) (t : Ty) → slice_get (root_types parameters) i ≡ Some t → IsSeenType hier t
  roots_seen i t q n m = seen n (in_left (flat_map names_of (g ∷ h ∷ [])) (root_named (root_types parameters) i t n q m))

  first_seen : (n : Word) → In n (names_of g) → IsSeen hier n
  first_seen n i = seen n (in_right (flat_map type_names (root_types parameters)) (in_left (flat_map names_of (h ∷ [])) i))

  second_seen : (n : Word) → In n (names_of h) → IsSeen hier n
  second_seen n i = seen n (in_right (flat_map type_names (root_types parameters)) (in_right (names_of g) (in_left [] i)))

  paths_seen : (p : Path) → In p (prefixes (paths_of g ++ paths_of h)) → AreSeenSteps hier p.steps
  paths_seen p i s j =
      let r = step_in p s (paths_of g ++ paths_of h) i j in
      let named : In s.class (step_names r.0) = in_map (λ (x : PathStep). x.class) r.2 in
      elim (in_append r.0 (paths_of g) (paths_of h) r.1) [
        | inl k ↦ first_seen s.class (has_names g r.0 s.class k named)
        | inr k ↦ second_seen s.class (has_names h r.0 s.class k named)
      ]

-- a shape over another universe on which the guards have the same truth, with entries at the needed paths alone, of listed kinds
pub record Lowered (larger universe hier : Hier) (parameters : List Ty) (g h : Guard) (s : Shape) : Type 0 where
  pub shape : Shape
  pub over : IsShape universe (root_types parameters) (paths_of g ++ paths_of h) shape
  pub first : is_true larger s g ≡ is_true universe shape g
  pub second : is_true larger s h ≡ is_true universe shape h
  pub places : (p : Path) → HasEntry shape p → (root_path p.root ≡ p) ⊎ In p (prefixes (paths_of g ++ paths_of h))
  pub kinds : (p : Path) (k : Kind) → entry_of p shape.refs ≡ Some k → IsListed (all_names hier) (length hier.classes) k

pub lowers : (larger universe hier : Hier) (parameters : List Ty) (g h : Guard) → IsUniverse hier → AreSeen hier parameters (g ∷ h ∷ []) → Extends larger hier → Extends universe hier →
    (s : Shape) → IsShape larger (root_types parameters) (paths_of g ++ paths_of h) s → Lowered larger universe hier parameters g h s
lowers larger universe hier parameters g h valid seen f e s over =
    let paths = paths_of g ++ paths_of h in
    let roots = root_types parameters in
    let roots' = roots_seen hier parameters g h seen in
    let paths' = paths_seen hier parameters g h seen in record {
      shape = lowered larger universe hier valid f e roots paths roots' paths' s;
      over = over_universe larger universe hier valid f e roots paths roots' paths' s over;
      first = true_same larger universe hier valid f e roots paths roots' paths' s over g (λ p i. in_left (paths_of h) i) (first_seen hier parameters g h seen);
      second = true_same larger universe hier valid f e roots paths roots' paths' s over h (λ p i. in_right (paths_of g) i) (second_seen hier parameters g h seen);
      places = λ p i. what_needed paths p (had larger universe hier valid f e roots paths roots' paths' s over p i).0;
      kinds = kinds_listed larger universe hier valid f e roots paths roots' paths' s over;
    }

pub own : (u : Hier) → IsUniverse u → Extends u u
own u valid = record { valid = valid; keeps = λ c i. i }

pub implies_stable : (universe hier : Hier) (parameters : List Ty) (g h : Guard) → IsUniverse hier → AreSeen hier parameters (g ∷ h ∷ []) → Extends universe hier →
    Implies hier parameters g h ↔ Implies universe parameters g h
implies_stable universe hier parameters g h valid seen e = (
  implies_kept universe hier parameters g h e,
  (λ gh larger s f over t.
      let low = lowers larger universe hier parameters g h valid seen f e s over in
      low.second ∙ gh universe low.shape (own universe e.valid) low.over (sym low.first ∙ t)),
)
