-- Each shape over some paths can be made one over further paths, as long as these have types.
use Rattle.std.proofs.Common.{◌≡◌, ◌≢◌, List, [], ◌∷◌, true, cond, Option, Some, None, ◌⊎◌, inl, inr, refl, sym, ◌∙◌, ap, subst, ℤ, pos, FitsSigned, w32, arith}
use Rattle.std.specs.Prelude.{option_and_then, slice_get, IsSome}
use Rattle.std.proofs.lemmas.Int.{ints}
use Rattle.std.proofs.lemmas.List.{same_from_push}
use Rattle.jp_pred.specs.declared.hier.Hier.{Hier}
use Rattle.jp_pred.specs.declared.ty.Ty.{Ty}
use Rattle.jp_pred.specs.declared.ty.Ty.TheVariants as ty
use Rattle.jp_pred.specs.declared.path.Path.{Path}
use Rattle.jp_pred.specs.declared.path.PathStep.{PathStep}
use Rattle.jp_pred.specs.declared.shape.Kind.{Kind}
use Rattle.jp_pred.specs.declared.shape.Kind.TheVariants as kind
use Rattle.jp_pred.specs.declared.shape.Shape.{Shape}
use Rattle.jp_pred.specs.Names.{Word, In, here, there}
use Rattle.jp_pred.specs.Hierarchy.{HasNoCycle}
use Rattle.jp_pred.specs.Kinds.{IsOf, is_reference}
use Rattle.jp_pred.specs.Paths.{root_path, extend, prefixes, same_path}
use Rattle.jp_pred.specs.Truth.{entry_of, kind_below}
use Rattle.jp_pred.specs.Shapes.{steps_type, path_type, IsTyped, RefFits, IntFits, HasEntry, LeadsTo, IsShape}
use Rattle.jp_pred.proofs.Visits.{some_same, true_or_false}
use Rattle.jp_pred.proofs.OfTypes.{kind_below-Decides}
use Rattle.jp_pred.proofs.Entries.{same_path-Decides, equal_or_not, entry_here, entry_other, split_in, none_apart, some_or_none, some_at, what_some, last_step, not_empty, in_prefixes}
use Rattle.jp_pred.proofs.Guards.{Alike}

-- the paths have entries where they are reached
abbrev pub Complete : Hier → List Path → Shape → Type 0
Complete u required shape = (path : Path) (s : PathStep) → In (extend path s) required → LeadsTo u shape path s.class → HasEntry shape (extend path s)

-- new entries stand at paths that had none, and the references among them are null
pub record Grows (old new : Shape) : Type 0 where
  pub kept : (p : Path) → HasEntry old p → Alike old new p
  pub nulls : (p : Path) (k : Kind) → entry_of p new.refs ≡ Some k → (entry_of p old.refs ≡ Some k) ⊎ (k ≡ kind.Null)

grows_same : (s : Shape) → Grows s s
grows_same s = record { kept = λ p h. record { refs = refl; ints = refl }; nulls = λ p k e. inl e }

alike_entry : {s t : Shape} {p : Path} → Alike s t p → HasEntry s p → HasEntry t p
alike_entry a (inl h) = inl (subst (λ (o : Option Kind). IsSome o) a.refs h)
alike_entry a (inr h) = inr (subst (λ (o : Option ℤ). IsSome o) a.ints h)

has_grown : {old new : Shape} → Grows old new → (p : Path) → HasEntry old p → HasEntry new p
has_grown g p h = alike_entry (g.kept p h) h

leads_back : (u : Hier) {old new : Shape} → Grows old new → (p : Path) (c : Word) → LeadsTo u new p c → LeadsTo u old p c
leads_back u g p c l = elim (g.nulls p l.0 l.1) [
  | inl e ↦ (l.0, e, l.2)
  | inr e ↦ absurd (subst (λ (k : Kind). IsOf u k (ty.Class c)) e l.2)
]

leads_on : (u : Hier) {old new : Shape} → Grows old new → (p : Path) (c : Word) → LeadsTo u old p c → LeadsTo u new p c
leads_on u g p c l = (l.0, sym (g.kept p (inl (some_at _ l.0 l.1))).refs ∙ l.1, l.2)

grows_trans : {a b c : Shape} → Grows a b → Grows b c → Grows a c
grows_trans f g = record {
  kept = λ p h. let x = f.kept p h in let y = g.kept p (alike_entry x h) in record { refs = x.refs ∙ y.refs; ints = x.ints ∙ y.ints };
  nulls = λ p k e. elim (g.nulls p k e) [ inl r ↦ f.nulls p k r | inr r ↦ inr r ];
}

pub complete_grown : (u : Hier) (ps : List Path) {old new : Shape} → Complete u ps old → Grows old new → Complete u ps new
complete_grown u ps c g path s i l = has_grown g (extend path s) (c path s i (leads_back u g path s.class l))

pub dec_entry : (s : Shape) (p : Path) → HasEntry s p ⊎ (HasEntry s p → ⊥)
dec_entry s p = elim (some_or_none (entry_of p s.refs)) [
  | inl h ↦ inl (inl h)
  | inr e ↦ elim (some_or_none (entry_of p s.ints)) [
    | inl h ↦ inl (inr h)
    | inr f ↦ inr (λ h. elim h [
      | inl a ↦ let w = what_some (entry_of p s.refs) a in let k : None ≡ Some w.0 = sym e ∙ w.1 in cc
      | inr a ↦ let w = what_some (entry_of p s.ints) a in let k : None ≡ Some w.0 = sym f ∙ w.1 in cc
    ])
  ]
]

no_ref : (s : Shape) (p : Path) → (HasEntry s p → ⊥) → entry_of p s.refs ≡ None
no_ref s p none = elim (some_or_none (entry_of p s.refs)) [ inl h ↦ absurd (none (inl h)) | inr e ↦ e ]

no_int : (s : Shape) (p : Path) → (HasEntry s p → ⊥) → entry_of p s.ints ≡ None
no_int s p none = elim (some_or_none (entry_of p s.ints)) [ inl h ↦ absurd (none (inr h)) | inr e ↦ e ]

pub dec_leads : (u : Hier) → HasNoCycle u → (s : Shape) (p : Path) (c : Word) → LeadsTo u s p c ⊎ (LeadsTo u s p c → ⊥)
dec_leads u free s p c = elim (some_or_none (entry_of p s.refs)) [
  | inl h ↦ let w = what_some (entry_of p s.refs) h in elim (true_or_false (kind_below u w.0 (ty.Class c))) [
    | inl t ↦ inl (w.0, w.1, (kind_below-Decides u w.0 (ty.Class c) free).0 t)
    | inr f ↦ inr (λ l.
        let e : l.0 ≡ w.0 = some_same _ _ (sym l.1 ∙ w.1) in
        let t : kind_below u w.0 (ty.Class c) ≡ true = (kind_below-Decides u w.0 (ty.Class c) free).1 (subst (λ (k : Kind). IsOf u k (ty.Class c)) e l.2) in
        cc)
  ]
  | inr e ↦ inr (λ l. let k : None ≡ Some l.0 = sym e ∙ l.1 in cc)
]

-- one entry more
abbrev add_ref : Shape → Path → Shape
add_ref s q = record { refs = (q, kind.Null) ∷ s.refs; ints = s.ints }

abbrev add_int : Shape → Path → Shape
add_int s q = record { refs = s.refs; ints = (q, pos 0) ∷ s.ints }

ref_grows : (s : Shape) (q : Path) → (HasEntry s q → ⊥) → Grows s (add_ref s q)
ref_grows s q none = record {
  kept = λ p h. record { refs = sym (entry_other q p kind.Null s.refs (λ e. none (subst (λ (x : Path). HasEntry s x) (sym e) h))); ints = refl };
  nulls = λ p k e. elim (true_or_false (same_path q p)) [
    | inl t ↦ inr (let w : Some kind.Null ≡ Some k = sym (ap (λ b. cond b (Some kind.Null) (entry_of p s.refs)) t) ∙ e in sym (some_same _ _ w))
    | inr f ↦ inl (sym (ap (λ b. cond b (Some kind.Null) (entry_of p s.refs)) f) ∙ e)
  ];
}

int_grows : (s : Shape) (q : Path) → (HasEntry s q → ⊥) → Grows s (add_int s q)
int_grows s q none = record {
  kept = λ p h. record { refs = refl; ints = sym (entry_other q p (pos 0) s.ints (λ e. none (subst (λ (x : Path). HasEntry s x) (sym e) h))) };
  nulls = λ p k e. inl e;
}

entry_in_ref : (s : Shape) (q p : Path) → HasEntry (add_ref s q) p → (q ≡ p) ⊎ HasEntry s p
entry_in_ref s q p h = elim (equal_or_not q p) [
  | inl e ↦ inl e
  | inr ne ↦ inr (elim h [ inl a ↦ inl (subst (λ (o : Option Kind). IsSome o) (entry_other q p kind.Null s.refs ne) a) | inr a ↦ inr a ])
]

entry_in_int : (s : Shape) (q p : Path) → HasEntry (add_int s q) p → (q ≡ p) ⊎ HasEntry s p
entry_in_int s q p h = elim (equal_or_not q p) [
  | inl e ↦ inl e
  | inr ne ↦ inr (elim h [ inl a ↦ inl a | inr a ↦ inr (subst (λ (o : Option ℤ). IsSome o) (entry_other q p (pos 0) s.ints ne) a) ])
]

pub same_front : (p q : Path) (s t : PathStep) → extend p s ≡ extend q t → p ≡ q
same_front p q s t e =
    let r : p.root ≡ q.root = ap (λ (x : Path). x.root) e in
    let f : p.steps ≡ q.steps = (same_from_push p.steps q.steps s t (ap (λ (x : Path). x.steps) e)).0 in
    λ i. record { root = r i; steps = f i }

pub same_last : (p q : Path) (s t : PathStep) → extend p s ≡ extend q t → s ≡ t
same_last p q s t e = (same_from_push p.steps q.steps s t (ap (λ (x : Path). x.steps) e)).1

leads_same : (u : Hier) (shape : Shape) (p q : Path) (s t : PathStep) → extend p s ≡ extend q t → LeadsTo u shape p s.class → LeadsTo u shape q t.class
leads_same u shape p q s t e l =
    subst (λ (x : Path). LeadsTo u shape x t.class) (same_front p q s t e) (subst (λ (x : PathStep). LeadsTo u shape p x.class) (same_last p q s t e) l)

zero_fits : FitsSigned w32 (pos 0)
zero_fits = omega (arith, ints)

module _ (u : Hier) (roots : List Ty) (free : HasNoCycle u) where
  sound_ref : (s : Shape) (p : Path) (st : PathStep) → IsShape u roots [] s → LeadsTo u s p st.class → (HasEntry s (extend p st) → ⊥) → (t : Ty) → path_type u roots (extend p st) ≡ Some t → is_reference t ≡ true →
      IsShape u roots [] (add_ref s (extend p st))
  sound_ref s p st valid leads none t typed ref =
      let g : Grows s (add_ref s (extend p st)) = ref_grows s (extend p st) none in record {
        root = λ i t' e. has_grown g (root_path i) (valid.root i t' e);
        longer = λ path s' i. elim i [ ];
        defined = λ path s' h. leads_on u g path s'.class (elim (entry_in_ref s (extend p st) (extend path s') h) [
          | inl e ↦ leads_same u s p path st s' e leads
          | inr o ↦ valid.defined path s' o
        ]);
        refs = λ path k e. elim (equal_or_not (extend p st) path) [
          | inl q ↦
              let n : Some kind.Null ≡ Some k = sym (ap (λ b. cond b (Some kind.Null) (entry_of path s.refs)) ((same_path-Decides (extend p st) path).1 q)) ∙ e in
              let fit : RefFits u kind.Null (Some t) = (tt, (ref, inl refl)) in
              let here' : RefFits u kind.Null (path_type u roots (extend p st)) = subst (λ (o : Option Ty). RefFits u kind.Null o) (sym typed) fit in
              let there' : RefFits u kind.Null (path_type u roots path) = subst (λ (x : Path). RefFits u kind.Null (path_type u roots x)) q here' in
              subst (λ (x : Kind). RefFits u x (path_type u roots path)) (some_same _ _ n) there'
          | inr ne ↦ valid.refs path k (sym (entry_other (extend p st) path kind.Null s.refs ne) ∙ e)
        ];
        ints = valid.ints;
        refs_once = (none_apart (extend p st) s.refs (no_ref s (extend p st) none), valid.refs_once);
        ints_once = valid.ints_once;
      }

  sound_int : (s : Shape) (p : Path) (st : PathStep) → IsShape u roots [] s → LeadsTo u s p st.class → (HasEntry s (extend p st) → ⊥) → (t : Ty) → path_type u roots (extend p st) ≡ Some t → IntFits (pos 0) (Some t) →
      IsShape u roots [] (add_int s (extend p st))
  sound_int s p st valid leads none t typed fit =
      let g : Grows s (add_int s (extend p st)) = int_grows s (extend p st) none in record {
        root = λ i t' e. has_grown g (root_path i) (valid.root i t' e);
        longer = λ path s' i. elim i [ ];
        defined = λ path s' h. leads_on u g path s'.class (elim (entry_in_int s (extend p st) (extend path s') h) [
          | inl e ↦ leads_same u s p path st s' e leads
          | inr o ↦ valid.defined path s' o
        ]);
        refs = valid.refs;
        ints = λ path v e. elim (equal_or_not (extend p st) path) [
          | inl q ↦
              let n : Some (pos 0) ≡ Some v = sym (ap (λ b. cond b (Some (pos 0)) (entry_of path s.ints)) ((same_path-Decides (extend p st) path).1 q)) ∙ e in
              let here' : IntFits (pos 0) (path_type u roots (extend p st)) = subst (λ (o : Option Ty). IntFits (pos 0) o) (sym typed) fit in
              let there' : IntFits (pos 0) (path_type u roots path) = subst (λ (x : Path). IntFits (pos 0) (path_type u roots x)) q here' in
              subst (λ (x : ℤ). IntFits x (path_type u roots path)) (some_same _ _ n) there'
          | inr ne ↦ valid.ints path v (sym (entry_other (extend p st) path (pos 0) s.ints ne) ∙ e)
        ];
        refs_once = valid.refs_once;
        ints_once = (none_apart (extend p st) s.ints (no_int s (extend p st) none), valid.ints_once);
      }

  -- a shape with further entries that is complete for those paths
  pub record Completed (ps : List Path) (old : Shape) : Type 0 where
    pub shape : Shape
    pub sound : IsShape u roots [] shape
    pub complete : Complete u ps shape
    pub grows : Grows old shape

  completed_ref : (s : Shape) (p : Path) (st : PathStep) → IsShape u roots [] s → LeadsTo u s p st.class → (HasEntry s (extend p st) → ⊥) → (t : Ty) → path_type u roots (extend p st) ≡ Some t → is_reference t ≡ true → Completed (extend p st ∷ []) s
  completed_ref s p st valid leads none t typed ref = record {
    shape = add_ref s (extend p st);
    sound = sound_ref s p st valid leads none t typed ref;
    complete = λ path s' i l. elim (split_in (extend p st) (extend path s') [] i) [
      | inl e ↦ subst (λ (x : Path). HasEntry (add_ref s (extend p st)) x) e (inl (some_at _ kind.Null (entry_here (extend p st) kind.Null s.refs)))
      | inr j ↦ elim j [ ]
    ];
    grows = ref_grows s (extend p st) none;
  }

  completed_int : (s : Shape) (p : Path) (st : PathStep) → IsShape u roots [] s → LeadsTo u s p st.class → (HasEntry s (extend p st) → ⊥) → (t : Ty) → path_type u roots (extend p st) ≡ Some t → IntFits (pos 0) (Some t) → Completed (extend p st ∷ []) s
  completed_int s p st valid leads none t typed fit = record {
    shape = add_int s (extend p st);
    sound = sound_int s p st valid leads none t typed fit;
    complete = λ path s' i l. elim (split_in (extend p st) (extend path s') [] i) [
      | inl e ↦ subst (λ (x : Path). HasEntry (add_int s (extend p st)) x) e (inr (some_at _ (pos 0) (entry_here (extend p st) (pos 0) s.ints)))
      | inr j ↦ elim j [ ]
    ];
    grows = int_grows s (extend p st) none;
  }

  completed_by : (s : Shape) (p : Path) (st : PathStep) → IsShape u roots [] s → LeadsTo u s p st.class → (HasEntry s (extend p st) → ⊥) → (t : Ty) → path_type u roots (extend p st) ≡ Some t → t ≢ ty.Void → Completed (extend p st ∷ []) s
  completed_by s p st valid leads none ty.Void typed value = absurd (value refl)
  completed_by s p st valid leads none ty.Int typed value = completed_int s p st valid leads none ty.Int typed zero_fits
  completed_by s p st valid leads none ty.Boolean typed value = completed_int s p st valid leads none ty.Boolean typed (inl refl)
  completed_by s p st valid leads none (ty.Class c) typed value = completed_ref s p st valid leads none (ty.Class c) typed refl
  completed_by s p st valid leads none ty.IntArray typed value = completed_ref s p st valid leads none ty.IntArray typed refl
  completed_by s p st valid leads none ty.BooleanArray typed value = completed_ref s p st valid leads none ty.BooleanArray typed refl
  completed_by s p st valid leads none (ty.ClassArray c) typed value = completed_ref s p st valid leads none (ty.ClassArray c) typed refl

  -- where nothing is missing
  as_it_is : (s : Shape) (q : Path) → IsShape u roots [] s → Complete u (q ∷ []) s → Completed (q ∷ []) s
  as_it_is s q valid c = record { shape = s; sound = valid; complete = c; grows = grows_same s }

  complete_step : (s : Shape) (p : Path) (st : PathStep) → IsShape u roots [] s → (HasEntry s (extend p st) → ⊥) → IsTyped u roots (extend p st) → Completed (extend p st ∷ []) s
  complete_step s p st valid none typed = elim (dec_leads u free s p st.class) [
    | inl leads ↦ completed_by s p st valid leads none typed.0 typed.1 typed.2
    | inr never ↦ as_it_is s (extend p st) valid (λ path s' i l. elim (split_in (extend p st) (extend path s') [] i) [
      | inl e ↦ absurd (never (leads_same u s path p s' st (sym e) l))
      | inr j ↦ elim j [ ]
    ])
  ]

  complete_one : (s : Shape) (q : Path) → IsShape u roots [] s → IsTyped u roots q → Completed (q ∷ []) s
  complete_one s q valid typed = elim (dec_entry s q) [
    | inl h ↦ as_it_is s q valid (λ path s' i l. elim (split_in q (extend path s') [] i) [
      | inl e ↦ subst (λ (x : Path). HasEntry s x) e h
      | inr j ↦ elim j [ ]
    ])
    | inr none ↦ elim (last_step q.steps) [
      | inl e ↦ as_it_is s q valid (λ path s' i l. elim (split_in q (extend path s') [] i) [
        | inl f ↦ absurd (not_empty path.steps s' (sym e ∙ ap (λ (x : Path). x.steps) f))
        | inr j ↦ elim j [ ]
      ])
      | inr r ↦
          let p : Path = record { root = q.root; steps = r.0 } in
          let e : q ≡ extend p r.1 = λ i. record { root = q.root; steps = r.2 i } in
          subst (λ (x : Path). Completed (x ∷ []) s) (sym e)
          (complete_step s p r.1 valid (λ h. none (subst (λ (x : Path). HasEntry s x) (sym e) h)) (subst (λ (x : Path). IsTyped u roots x) e typed))
    ]
  ]

  pub complete_all : (ps : List Path) (s : Shape) → IsShape u roots [] s → ((p : Path) → In p ps → IsTyped u roots p) → Completed ps s
  complete_all [] s valid typed = record { shape = s; sound = valid; complete = λ path s' i. elim i [ ]; grows = grows_same s }
  complete_all (q ∷ qs) s valid typed =
      let a = complete_all qs s valid (λ p i. typed p (there i)) in
      let b = complete_one a.shape q a.sound (typed q here) in record {
        shape = b.shape;
        sound = b.sound;
        complete = λ path s' i l. elim (split_in q (extend path s') qs i) [
          | inl e ↦ b.complete path s' (subst (λ (x : Path). In x (q ∷ [])) e here) l
          | inr j ↦ complete_grown u qs a.complete b.grows path s' j l
        ];
        grows = grows_trans a.grows b.grows;
      }

  -- an entry stands at a path of a root
  pub rooted : (ps : List Path) (s : Shape) → IsShape u roots ps s → (p : Path) → HasEntry s p → (t : Ty) × (slice_get roots p.root ≡ Some t)
  rooted ps s valid p h = elim (slice_get roots p.root) as (λ o. slice_get roots p.root ≡ o → (t : Ty) × (o ≡ Some t)) [
    | None ↦ λ e.
        let n : path_type u roots p ≡ None = ap (λ o. option_and_then (λ t. steps_type u t p.steps) o) e in
        elim h [
          | inl a ↦ let w = what_some (entry_of p s.refs) a in absurd (subst (λ (o : Option Ty). RefFits u w.0 o) n (valid.refs p w.0 w.1))
          | inr a ↦ let w = what_some (entry_of p s.ints) a in absurd (subst (λ (o : Option Ty). IntFits w.0 o) n (valid.ints p w.0 w.1))
        ]
    | Some t ↦ λ e. (t, refl)
  ] refl

  -- at the paths of the old shape nothing is new
  pub alike_there : (ps : List Path) (old new : Shape) → IsShape u roots ps old → IsShape u roots [] new → Grows old new → (p : Path) → In p ps → Alike old new p
  alike_there ps old new valid sound g p i = elim (dec_entry old p) [
    | inl h ↦ g.kept p h
    | inr none ↦
        let none' : HasEntry new p → ⊥ = λ h. elim (last_step p.steps) [
          | inl e ↦
              let w = rooted [] new sound p h in
              let q : root_path p.root ≡ p = λ j. record { root = p.root; steps = sym e j } in
              none (subst (λ (x : Path). HasEntry old x) q (valid.root p.root w.0 w.1))
          | inr r ↦
              let f : Path = record { root = p.root; steps = r.0 } in
              let e : p ≡ extend f r.1 = λ j. record { root = p.root; steps = r.2 j } in
              let l = leads_back u g f r.1.class (sound.defined f r.1 (subst (λ (x : Path). HasEntry new x) e h)) in
              none (subst (λ (x : Path). HasEntry old x) (sym e) (valid.longer f r.1 (subst (λ (x : Path). In x (prefixes ps)) e (in_prefixes p ps i)) l))
        ] in
        record { refs = no_ref old p none ∙ sym (no_ref new p none'); ints = no_int old p none ∙ sym (no_int new p none') }
  ]
