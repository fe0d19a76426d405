-- Whether a shape is one over some paths is decided.
use Rattle.std.proofs.Common.{◌≡◌, ℕ, zero, suc, List, [], ◌∷◌, ◌++◌, map, Bool, true, false, Option, Some, None, inl, inr, refl, sym, ◌∙◌, ap, subst, ℤ, pos, negsuc}
use Rattle.std.specs.Prelude.{slice_get, IsSome}
use Rattle.jp_pred.specs.declared.hier.SeenClass.{SeenClass}
use Rattle.jp_pred.specs.declared.hier.Hier.{Hier}
use Rattle.jp_pred.specs.declared.ty.Ty.{Ty}
use Rattle.jp_pred.specs.declared.ty.Ty.TheVariants as ty
use Rattle.jp_pred.specs.declared.path.Path.{Path}
use Rattle.jp_pred.specs.declared.path.PathStep.{PathStep}
use Rattle.jp_pred.specs.declared.shape.Kind.{Kind}
use Rattle.jp_pred.specs.declared.shape.Kind.TheVariants as kind
use Rattle.jp_pred.specs.declared.shape.Shape.{Shape}
use Rattle.jp_pred.specs.Names.{Word, object, same, In, here, there, AreDistinct}
use Rattle.jp_pred.specs.Hierarchy.{class_named, HasNoCycle}
use Rattle.jp_pred.specs.Universe.{IsClass, IsInterface}
use Rattle.jp_pred.specs.Kinds.{IsKind, is_reference}
use Rattle.jp_pred.specs.Paths.{root_path, extend, prefixes}
use Rattle.jp_pred.specs.Truth.{entry_of, kind_below}
use Rattle.jp_pred.specs.Shapes.{path_type, RefFits, IntFits, HasEntry, LeadsTo, IsShape}
use Rattle.jp_pred.proofs.Ascents.{same_true, same_refl}
use Rattle.jp_pred.proofs.Visits.{some_same, true_or_false, in_right}
use Rattle.jp_pred.proofs.OfTypes.{kind_below-Decides}
use Rattle.jp_pred.proofs.Entries.{equal_or_not, split_in, some_at, last_step, not_empty, in_left, entry_other}
use Rattle.jp_pred.proofs.Completion.{dec_entry, dec_leads, same_front, same_last}
use Rattle.jp_pred.proofs.Searches.{Decided, decided_as, and_decided, or_decided, then_decided, not_decided, bool_decided, test_decided, all_decided, some_decided, fits_decided}

in_path_decided : (p : Path) (ps : List Path) → Decided (In p ps)
in_path_decided p [] = inr (λ i. elim i [ ])
in_path_decided p (q ∷ qs) = elim (equal_or_not q p) [
  | inl e ↦ inl (subst (λ (x : Path). In x (q ∷ qs)) e here)
  | inr ne ↦ elim (in_path_decided p qs) [
    | inl i ↦ inl (there i)
    | inr n ↦ inr (λ i. elim (split_in q p qs i) [ inl e ↦ ne e | inr j ↦ n j ])
  ]
]

distinct_decided : (ps : List Path) → Decided (AreDistinct ps)
distinct_decided [] = inl tt
distinct_decided (p ∷ ps) = and_decided (not_decided (in_path_decided p ps)) (distinct_decided ps)

first_or_later : (r : Ty) (rs : List Ty) (Q : ℕ → Type 0) → Q 0 → ((i : ℕ) (t : Ty) → slice_get rs i ≡ Some t → Q (suc i)) → (i : ℕ) (t : Ty) → slice_get (r ∷ rs) i ≡ Some t → Q i
first_or_later r rs Q q later zero t e = q
first_or_later r rs Q q later (suc i) t e = later i t e

roots_decided : (roots : List Ty) (Q : ℕ → Type 0) → ((i : ℕ) → Decided (Q i)) → Decided ((i : ℕ) (t : Ty) → slice_get roots i ≡ Some t → Q i)
roots_decided [] Q d = inl (λ i t e. absurd cc)
roots_decided (r ∷ rs) Q d = decided_as (and_decided (d 0) (roots_decided rs (λ i. Q (suc i)) (λ i. d (suc i))))
    (λ w. first_or_later r rs Q w.0 w.1)
    (λ f. (f 0 r refl, (λ i t e. f (suc i) t e)))

-- a path has at most one last step
step_decided : (q : Path) (R : Path → PathStep → Type 0) → ((p : Path) (s : PathStep) → Decided (R p s)) → Decided ((p : Path) (s : PathStep) → extend p s ≡ q → R p s)
step_decided q R d = elim (last_step q.steps) [
  | inl e ↦ inl (λ p s h. absurd (not_empty p.steps s (sym e ∙ sym (ap (λ (x : Path). x.steps) h))))
  | inr r ↦
      let front : Path = record { root = q.root; steps = r.0 } in
      let e : q ≡ extend front r.1 = λ i. record { root = q.root; steps = r.2 i } in
      decided_as (d front r.1)
      (λ x p s h. subst (λ (st : PathStep). R p st) (same_last front p r.1 s (sym e ∙ sym h)) (subst (λ (f : Path). R f r.1) (same_front front p r.1 s (sym e ∙ sym h)) x))
      (λ f. f front r.1 (sym e))
]

entry_in : {X : Type 0} (p : Path) (es : List (Path × X)) → IsSome (entry_of p es) → In p (map (λ (e : Path × X). e.0) es)
entry_in p [] h = absurd cc
entry_in {X} p (e ∷ es) h = elim (equal_or_not e.0 p) [
  | inl q ↦ subst (λ (x : Path). In x (e.0 ∷ map (λ (d : Path × X). d.0) es)) q here
  | inr ne ↦ there (entry_in p es (subst (λ (o : Option X). IsSome o) (entry_other e.0 p e.1 es ne) h))
]

abbrev entries : Shape → List Path
entries s = map (λ (e : Path × Kind). e.0) s.refs ++ map (λ (e : Path × ℤ). e.0) s.ints

has_in : (s : Shape) (p : Path) → HasEntry s p → In p (entries s)
has_in s p (inl h) = in_left (map (λ (e : Path × ℤ). e.0) s.ints) (entry_in p s.refs h)
has_in s p (inr h) = in_right (map (λ (e : Path × Kind). e.0) s.refs) (entry_in p s.ints h)

is_object : (a : Word) → Decided (a ≡ object)
is_object a = elim (true_or_false (same a object)) [
  | inl t ↦ inl (same_true a object t)
  | inr f ↦ inr (λ e. let t : same a object ≡ true = subst (λ (x : Word). same a x ≡ true) e (same_refl a) in cc)
]

is_null : (k : Kind) → Decided (k ≡ kind.Null)
is_null kind.Null = inl refl
is_null kind.Array = inr (λ e. cc)
is_null (kind.Known a) = inr (λ e. cc)
is_null (kind.Fresh a is) = inr (λ e. cc)

module _ (u : Hier) where
  -- a class for which the flag isn't set
  class_decided : (a : Word) (flag : SeenClass → Bool) → Decided ((c : IsClass u a) × (flag c.entry ≡ false))
  class_decided a flag = elim (class_named a u.classes) as (λ o. class_named a u.classes ≡ o → Decided ((c : IsClass u a) × (flag c.entry ≡ false))) [
    | None ↦ λ h. inr (λ c. let k : None ≡ Some c.0.entry = sym h ∙ c.0.found in cc)
    | Some d ↦ λ h. decided_as (and_decided (bool_decided d.is_interface false) (bool_decided (flag d) false))
        (λ w. (record { entry = d; found = h; kind = w.0 }, w.1))
        (λ c.
        let q : c.0.entry ≡ d = some_same _ _ (sym c.0.found ∙ h) in
        (subst (λ (x : SeenClass). x.is_interface ≡ false) q c.0.kind, subst (λ (x : SeenClass). flag x ≡ false) q c.1))
  ] refl

  interface_decided : (a : Word) → Decided (IsInterface u a)
  interface_decided a = elim (class_named a u.classes) as (λ o. class_named a u.classes ≡ o → Decided (IsInterface u a)) [
    | None ↦ λ h. inr (λ c. let k : None ≡ Some c.entry = sym h ∙ c.found in cc)
    | Some d ↦ λ h. decided_as (bool_decided d.is_interface true)
        (λ w. record { entry = d; found = h; kind = w })
        (λ c. subst (λ (x : SeenClass). x.is_interface ≡ true) (some_same _ _ (sym c.found ∙ h)) c.kind)
  ] refl

  kind_decided : (k : Kind) → Decided (IsKind u k)
  kind_decided kind.Null = inl tt
  kind_decided kind.Array = inl tt
  kind_decided (kind.Known a) = or_decided (is_object a) (class_decided a (λ c. c.is_abstract))
  kind_decided (kind.Fresh a is) = and_decided (or_decided (is_object a) (class_decided a (λ c. c.is_final))) (all_decided (λ (i : Word). IsInterface u i) is interface_decided)

  ref_decided : HasNoCycle u → (k : Kind) (o : Option Ty) → Decided (RefFits u k o)
  ref_decided free k None = inr (λ x. x)
  ref_decided free k (Some t) = and_decided (kind_decided k) (and_decided (bool_decided (is_reference t) true) (or_decided (is_null k) (test_decided (kind_below u k t) (kind_below-Decides u k t free))))

is_zero : (v : ℤ) → Decided (v ≡ pos 0)
is_zero (pos zero) = inl refl
is_zero (pos (suc n)) = inr (λ e. cc)
is_zero (negsuc n) = inr (λ e. cc)

is_one : (v : ℤ) → Decided (v ≡ pos 1)
is_one (pos zero) = inr (λ e. cc)
is_one (pos (suc zero)) = inl refl
is_one (pos (suc (suc n))) = inr (λ e. cc)
is_one (negsuc n) = inr (λ e. cc)

int_decided : (v : ℤ) (o : Option Ty) → Decided (IntFits v o)
int_decided v (Some ty.Int) = fits_decided v
int_decided v (Some ty.Boolean) = or_decided (is_zero v) (is_one v)
int_decided v _ = inr (λ x. x)

module _ (u : Hier) (free : HasNoCycle u) (roots : List Ty) (paths : List Path) (s : Shape) where
  abbrev Rooted : Type 0
  Rooted = (i : ℕ) (t : Ty) → slice_get roots i ≡ Some t → HasEntry s (root_path i)

  abbrev Longer : Type 0
  Longer = (p : Path) (st : PathStep) → In (extend p st) (prefixes paths) → LeadsTo u s p st.class → HasEntry s (extend p st)

  longer_decided : Decided Longer
  longer_decided = decided_as
      (all_decided (λ (q : Path). (p : Path) (st : PathStep) → extend p st ≡ q → LeadsTo u s p st.class → HasEntry s (extend p st)) (prefixes paths)
      (λ q. step_decided q (λ p st. LeadsTo u s p st.class → HasEntry s (extend p st)) (λ p st. then_decided (dec_leads u free s p st.class) (dec_entry s (extend p st)))))
      (λ f p st i. f (extend p st) i p st refl)
      (λ f q i p st e. f p st (subst (λ (x : Path). In x (prefixes paths)) (sym e) i))

  abbrev Reached : Type 0
  Reached = (p : Path) (st : PathStep) → HasEntry s (extend p st) → LeadsTo u s p st.class

  reached_decided : Decided Reached
  reached_decided = decided_as
      (all_decided (λ (q : Path). (p : Path) (st : PathStep) → extend p st ≡ q → HasEntry s (extend p st) → LeadsTo u s p st.class) (entries s)
      (λ q. step_decided q (λ p st. HasEntry s (extend p st) → LeadsTo u s p st.class) (λ p st. then_decided (dec_entry s (extend p st)) (dec_leads u free s p st.class))))
      (λ f p st h. f (extend p st) (has_in s (extend p st) h) p st refl h)
      (λ f q i p st e. f p st)

  abbrev RefsFit : Type 0
  RefsFit = (p : Path) (k : Kind) → entry_of p s.refs ≡ Some k → RefFits u k (path_type u roots p)

  refs_decided : Decided RefsFit
  refs_decided = decided_as
      (all_decided (λ (q : Path). (k : Kind) → entry_of q s.refs ≡ Some k → RefFits u k (path_type u roots q)) (map (λ (e : Path × Kind). e.0) s.refs)
      (λ q. some_decided (entry_of q s.refs) (λ k. RefFits u k (path_type u roots q)) (λ k. ref_decided u free k (path_type u roots q))))
      (λ f p k e. f p (entry_in p s.refs (some_at (entry_of p s.refs) k e)) k e)
      (λ f q i. f q)

  abbrev IntsFit : Type 0
  IntsFit = (p : Path) (v : ℤ) → entry_of p s.ints ≡ Some v → IntFits v (path_type u roots p)

  ints_decided : Decided IntsFit
  ints_decided = decided_as
      (all_decided (λ (q : Path). (v : ℤ) → entry_of q s.ints ≡ Some v → IntFits v (path_type u roots q)) (map (λ (e : Path × ℤ). e.0) s.ints)
      (λ q. some_decided (entry_of q s.ints) (λ v. IntFits v (path_type u roots q)) (λ v. int_decided v (path_type u roots q))))
      (λ f p v e. f p (entry_in p s.ints (some_at (entry_of p s.ints) v e)) v e)
      (λ f q i. f q)

  pub shape_decided : Decided (IsShape u roots paths s)
  shape_decided = decided_as
      (and_decided (and_decided (roots_decided roots (λ i. HasEntry s (root_path i)) (λ i. dec_entry s (root_path i))) (and_decided longer_decided reached_decided))
      (and_decided (and_decided refs_decided ints_decided)
      (and_decided (distinct_decided (map (λ (e : Path × Kind). e.0) s.refs)) (distinct_decided (map (λ (e : Path × ℤ). e.0) s.ints)))))
      (λ w. record { root = w.0.0; longer = w.0.1.0; defined = w.0.1.1; refs = w.1.0.0; ints = w.1.0.1; refs_once = w.1.1.0; ints_once = w.1.1.1 })
      (λ v. ((v.root, (v.longer, v.defined)), ((v.refs, v.ints), (v.refs_once, v.ints_once))))
