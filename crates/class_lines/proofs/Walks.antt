-- The line upwards from a class meets each class above it.
use Rattle.std.proofs.Common.{◌≡◌, ℕ, zero, suc, ◌+◌, ◌≤◌, Bool, true, false, ◌||◌, List, [], ◌∷◌, ◌++◌, length, map, Option, Some, None, ◌⊎◌, inl, inr, refl, sym, ap, ◌∙◌, subst, arith}
use Rattle.std.specs.Prelude.{◌==◌, not, cond, slice_get, filter, option_and_then, if◌then◌else◌}
use Rattle.std.specs.List.{list_any}
use Rattle.std.specs.Option.{option_map, option_map_or}
use Rattle.std.specs.Str.{bytes_eq}
use Rattle.std.proofs.lemmas.Bool.{false≢true, false_from_ne_true, or_left, or_right}
use Rattle.std.proofs.lemmas.Bool.Decides.{Decides-eqb}
use Rattle.std.proofs.lemmas.List.{length-map}
use Rattle.std.proofs.lemmas.List.Folds.{list_any-append}
use Rattle.std.proofs.lemmas.Option.{none-some, same_Some, slice_get-map}
use Rattle.std.proofs.lemmas.Slice.Eq.{bytes_eq-Decides}
use Rattle.jp_pred.specs.declared.hier.SeenClass.{SeenClass}
use Rattle.jp_pred.specs.declared.ty.Ty.{Ty}
use Rattle.jp_pred.specs.Names.{Word, object, In, here, there, AreDistinct}
use Rattle.jp_pred.specs.Hierarchy.{class_named, named, parents, Ascends, stop, up, reaches}
use Rattle.jp_pred.specs.Universe.{IsClass}
use Rattle.jp_pred.proofs.Lists.{or_cases, no_longer}
use Rattle.jp_pred.proofs.Ascents.{ascent_from_reaches}
use Rattle.jp_pred.proofs.Universes.{by_superclass}
use Rattle.jp_pred.proofs.Extension.{found_in}
use Rattle.jp_pred.proofs.Visits.{in_super}
use Rattle.iface_codec.specs.declared.iface.IfaceField.{IfaceField}
use Rattle.iface_codec.specs.Hierarchy.{seen_class, instance_fields}
use Rattle.jp_store.specs.Classes.{Class, Field, object_name, place_of, super_of, is_among, line_from, line, own_fields, own_part, has_role, is_below_in}
use Rattle.jp_meaning.specs.declared.unit.TypedClass.{TypedClass}
use Rattle.jp_meaning.specs.Descriptors.{internal_name}
use Rattle.jp_meaning.specs.Classes.{field_of_head, class_of_head, hier_in}
use Rattle.value_types.specs.Stores.{InheritsFields}
use Rattle.value_types.proofs.Lists.{from_map, position_there}
use Rattle.value_types.proofs.Found.{own_there}
use Rattle.class_lines.specs.Agreeing.{AreClasses, store_classes}
use Rattle.class_lines.specs.Laws.{FieldsAreInherited}
use Rattle.class_lines.proofs.Standing.{in_mapped}
use Rattle.class_lines.proofs.Positions.{Stands, stored_at, seen_at, as_many, one_of_name, found_so, stands, not_object, placed_at, no_root, parents_so, no_parents, placed_so, same_name}
use Rattle.class_lines.proofs.Below.{agrees}
use Rattle.class_lines.proofs.Widening.{nowhere}

line_none : (classes : List Class) (met : List ℕ) (at : ℕ) → line_from zero classes met at ≡ []
unfolding line_from
line_none classes met at = refl

line_more : (n : ℕ) (classes : List Class) (met : List ℕ) (at : ℕ) → line_from (suc n) classes met at ≡ (if is_among at met then [] else at ∷ option_map_or (line_from n classes (met ++ at ∷ [])) (super_of classes at) [])
unfolding line_from
line_more n classes met at = refl

ascends_further : (classes : List TypedClass) {a b c : Word} → Ascends (hier_in classes) a b → Ascends (hier_in classes) b c → Ascends (hier_in classes) a c
ascends_further classes stop q = q
ascends_further classes (up i r) q = up i (ascends_further classes r q)

module _ (classes : List TypedClass) (are : AreClasses classes) where
  -- the superclass of a class, in the store and as it is seen
  record IsSuper (m : ℕ) (c : TypedClass) : Type 0 where
    super : TypedClass
    there_is : slice_get classes m ≡ Some super
    is : c.head.superclass ≡ Some super.head.name

  super_so : (at m : ℕ) (c : TypedClass) → slice_get classes at ≡ Some c → super_of (store_classes classes) at ≡ Some m → IsSuper m c
  super_so at m c e h =
      by_placed c.head.superclass refl
      (sym (ap (λ (o : Option Class). option_and_then (λ k. option_and_then (place_of (store_classes classes)) k.superclass) o) (stored_at classes are at c e)) ∙ h) where
        by_placed : (o : Option Word) → c.head.superclass ≡ o → place_of (store_classes classes) (option_map_or internal_name o object_name) ≡ Some m → IsSuper m c
        by_placed None k h = absurd (none-some m (sym (no_root classes are) ∙ h))
        by_placed (Some s) k h =
            let p = position_there (λ (x : Class). bytes_eq x.name (internal_name s)) (store_classes classes) m h in
            let g = from_map (λ (x : TypedClass). class_of_head x.head) classes m p.0 p.1 in
            let super : TypedClass = g.0 in
            let name = placed_so classes are s m super g.1 (ap (λ (x : Class). x.name) g.2 ∙ (bytes_eq-Decides (p.0).name (internal_name s)).0 p.2) in
            record { super = super; there_is = g.1; is = k ∙ ap Some (sym name) }

  one_up : (at : ℕ) (c : TypedClass) (s : Word) → slice_get classes at ≡ Some c → c.head.superclass ≡ Some s → In s (parents (hier_in classes) c.head.name)
  one_up at c s e k = subst (λ (l : List Word). In s l) (sym (parents_so classes are at c e)) (in_super (seen_class c.head) s k)

  -- what the line meets is above
  met_above : (n : ℕ) (met : List ℕ) (at b : ℕ) (c d : TypedClass) → slice_get classes at ≡ Some c → slice_get classes b ≡ Some d → is_among b (line_from n (store_classes classes) met at) ≡ true → Ascends (hier_in classes) c.head.name d.head.name
  met_above zero met at b c d e f h = absurd (false≢true (sym (ap (is_among b) (line_none (store_classes classes) met at)) ∙ h))
  met_above (suc n) met at b c d e f h = by_met (is_among at met) (sym (ap (is_among b) (line_more n (store_classes classes) met at)) ∙ h) (λ m x there_is k. met_above n (met ++ at ∷ []) m b x d there_is f k) where
    Rec : Type 0
    Rec = (m : ℕ) (x : TypedClass) → slice_get classes m ≡ Some x → is_among b (line_from n (store_classes classes) (met ++ at ∷ []) m) ≡ true → Ascends (hier_in classes) x.head.name d.head.name

    by_next : (o : Option ℕ) → super_of (store_classes classes) at ≡ o → is_among b (option_map_or (line_from n (store_classes classes) (met ++ at ∷ [])) o []) ≡ true → Rec → Ascends (hier_in classes) c.head.name d.head.name
    by_next None k h rec = absurd (false≢true h)
    by_next (Some m) k h rec =
        let s = super_so at m c e k in
        let super : TypedClass = s.super in
        up (one_up at c super.head.name e s.is) (rec m super s.there_is h)

    by_met : (x : Bool) → is_among b (if x then [] else at ∷ option_map_or (line_from n (store_classes classes) (met ++ at ∷ [])) (super_of (store_classes classes) at) []) ≡ true → Rec → Ascends (hier_in classes) c.head.name d.head.name
    by_met true h rec = absurd (false≢true h)
    by_met false h rec = elim (or_cases (at == b) (is_among b (option_map_or (line_from n (store_classes classes) (met ++ at ∷ [])) (super_of (store_classes classes) at) [])) h) [
      | inl l ↦
          let same : c ≡ d = same_Some c d (sym e ∙ ap (slice_get classes) ((Decides-eqb at b).0 l) ∙ f) in
          subst (λ (x : TypedClass). Ascends (hier_in classes) c.head.name x.head.name) same stop
      | inr r ↦ by_next (super_of (store_classes classes) at) refl r rec
    ]

  abbrev names : List Word
  names = map (λ (c : SeenClass). c.name) (hier_in classes).classes

  -- What was met before a class on the way from one below it, with the names of it: none of it is above the class, and so
  -- many steps are left as there are other classes
  record Past (n : ℕ) (met : List ℕ) (ms : List Word) (name : Word) : Type 0 where
    known : (y : ℕ) (x : TypedClass) → is_among y met ≡ true → slice_get classes y ≡ Some x → In x.head.name ms
    within : (w : Word) → In w ms → In w names
    apart : AreDistinct ms
    fresh : (w : Word) → In w ms → Ascends (hier_in classes) name w → ⊥
    count : length ms + n ≡ length names

  -- the class is another one than those that were met
  one_more : (n : ℕ) (met : List ℕ) (ms : List Word) (at : ℕ) (c : TypedClass) → slice_get classes at ≡ Some c → Past n met ms c.head.name → suc (length ms) ≤ length names
  one_more n met ms at c e past =
      no_longer (c.head.name ∷ ms) names ((λ i. past.fresh c.head.name i stop), past.apart) within where
        within : (w : Word) → In w (c.head.name ∷ ms) → In w names
        within _ here = in_mapped (λ (x : SeenClass). x.name) (hier_in classes).classes at (seen_class c.head) (seen_at classes are at c e)
        within w (there i) = past.within w i

  -- one step further
  next_past : (n : ℕ) (met : List ℕ) (ms : List Word) (at m : ℕ) (c d : TypedClass) → slice_get classes at ≡ Some c → In d.head.name (parents (hier_in classes) c.head.name) → Past (suc n) met ms c.head.name →
      Past n (met ++ at ∷ []) (c.head.name ∷ ms) d.head.name
  next_past n met ms at m c d e i past = record {
    known = known;
    within = within;
    apart = ((λ j. past.fresh c.head.name j stop), past.apart);
    fresh = fresh;
    count = let k = past.count in omega (arith, k);
  } where
    known : (y : ℕ) (x : TypedClass) → is_among y (met ++ at ∷ []) ≡ true → slice_get classes y ≡ Some x → In x.head.name (c.head.name ∷ ms)
    known y x h k = elim (or_cases (is_among y met) (is_among y (at ∷ [])) (sym (list_any-append (λ z. z == y) met (at ∷ [])) ∙ h)) [
      | inl l ↦ there (past.known y x l k)
      | inr r ↦ elim (or_cases (at == y) false r) [
        | inl q ↦
            let same : c ≡ x = same_Some c x (sym e ∙ ap (slice_get classes) ((Decides-eqb at y).0 q) ∙ k) in
            subst (λ (z : TypedClass). In z.head.name (c.head.name ∷ ms)) same here
        | inr q ↦ absurd (false≢true q)
      ]
    ]

    within : (w : Word) → In w (c.head.name ∷ ms) → In w names
    within _ here = in_mapped (λ (x : SeenClass). x.name) (hier_in classes).classes at (seen_class c.head) (seen_at classes are at c e)
    within w (there j) = past.within w j

    fresh : (w : Word) → In w (c.head.name ∷ ms) → Ascends (hier_in classes) d.head.name w → ⊥
    fresh _ here r = are.universe.free c.head.name d.head.name i r
    fresh w (there j) r = past.fresh w j (up i r)

  not_met : (n : ℕ) (met : List ℕ) (ms : List Word) (at : ℕ) (c : TypedClass) → slice_get classes at ≡ Some c → Past n met ms c.head.name → is_among at met ≡ false
  not_met n met ms at c e past = false_from_ne_true (is_among at met) (λ h. past.fresh c.head.name (past.known at c h e) stop)

  -- the superclass of a class, by its name
  place_above : (at : ℕ) (c : TypedClass) (s : Word) (f : Stands classes s) → slice_get classes at ≡ Some c → c.head.superclass ≡ Some s → super_of (store_classes classes) at ≡ Some f.at
  place_above at c s f e k =
      ap (λ (o : Option Class). option_and_then (λ x. option_and_then (place_of (store_classes classes)) x.superclass) o) (stored_at classes are at c e)
      ∙ ap (λ (o : Option Word). place_of (store_classes classes) (option_map_or internal_name o object_name)) (k ∙ ap Some (sym f.named)) ∙ placed_at classes are f.at f.class f.there

  -- nothing that is listed is above Object
  root_above : (b : ℕ) (d : TypedClass) {x y : Word} → slice_get classes b ≡ Some d → Ascends (hier_in classes) x y → x ≡ object → y ≡ d.head.name → ⊥
  root_above b d e stop p q = not_object classes are b d e (sym q ∙ p)
  root_above b d e (up {a = x} {b = y} {c = z} i r) p q =
      let j : In y [] = subst (λ (l : List Word). In y l) (ap (λ (w : Word). parents (hier_in classes) w) p ∙ no_parents classes are) i in
      elim j [ ]

  -- the next class on the way to a class
  record Next (at : ℕ) (c d : TypedClass) : Type 0 where
    m : ℕ
    super : TypedClass
    there_is : slice_get classes m ≡ Some super
    next : super_of (store_classes classes) at ≡ Some m
    named : In super.head.name (parents (hier_in classes) c.head.name)
    rest : Ascends (hier_in classes) super.head.name d.head.name

  next_so : (at b : ℕ) (c d : TypedClass) → slice_get classes at ≡ Some c → slice_get classes b ≡ Some d → IsClass (hier_in classes) d.head.name → (s : Word) → In s (parents (hier_in classes) c.head.name) →
      Ascends (hier_in classes) s d.head.name → Next at c d
  next_so at b c d e f k s i r =
      let x = by_superclass (hier_in classes) are.universe c.head.name s d.head.name i r k in
      let entry : SeenClass = x.0 in
      let same : entry ≡ seen_class c.head = same_Some entry (seen_class c.head) (sym x.1 ∙ found_so classes are at c e) in
      let super : c.head.superclass ≡ Some s = subst (λ (z : SeenClass). z.superclass ≡ Some s) same x.2 in
      elim (are.universe.superclass entry s (found_in c.head.name (hier_in classes).classes entry x.1).0 x.2) [
        | inl o ↦ absurd (root_above b d f r o refl)
        | inr q ↦
            let g = stands classes are s q.entry q.found in
            record {
              m = g.at;
              super = g.class;
              there_is = g.there;
              next = place_above at c s g e super;
              named = subst (λ (w : Word). In w (parents (hier_in classes) c.head.name)) (sym g.named) i;
              rest = subst (λ (w : Word). Ascends (hier_in classes) w d.head.name) (sym g.named) r;
            }
      ]

  -- the class itself, or one step on the way
  first_step : {x y : Word} → Ascends (hier_in classes) x y → (x ≡ y) ⊎ ((s : Word) × In s (parents (hier_in classes) x) × Ascends (hier_in classes) s y)
  first_step stop = inl refl
  first_step (up {a = x} {b = s} {c = y} i r) = inr (s, i, r)

  -- whether a class is met behind another one
  abbrev behind : ℕ → List ℕ → ℕ → ℕ → Option ℕ → Bool
  behind n met at b o = is_among b (option_map_or (line_from n (store_classes classes) (met ++ at ∷ [])) o [])

  -- the line comes to the class
  line_comes : (n : ℕ) (met : List ℕ) (ms : List Word) (at b : ℕ) (c d : TypedClass) → slice_get classes at ≡ Some c → slice_get classes b ≡ Some d → IsClass (hier_in classes) d.head.name →
      Ascends (hier_in classes) c.head.name d.head.name → Past n met ms c.head.name → is_among b (line_from n (store_classes classes) met at) ≡ true
  line_comes zero met ms at b c d e f k r past = let l = one_more zero met ms at c e past in let q = past.count in absurd (omega (arith, l, q))
  line_comes (suc n) met ms at b c d e f k r past =
      ap (is_among b) (line_more n (store_classes classes) met at ∙ ap (λ x. if x then [] else at ∷ option_map_or (line_from n (store_classes classes) (met ++ at ∷ [])) (super_of (store_classes classes) at) []) (not_met (suc n) met ms at c e past))
      ∙ by_step (first_step r) (λ m x there_is rest next. line_comes n (met ++ at ∷ []) (c.head.name ∷ ms) m b x d there_is f k rest next) where
        Rec : Type 0
        Rec = (m : ℕ) (x : TypedClass) → slice_get classes m ≡ Some x → Ascends (hier_in classes) x.head.name d.head.name → Past n (met ++ at ∷ []) (c.head.name ∷ ms) x.head.name →
            is_among b (line_from n (store_classes classes) (met ++ at ∷ []) m) ≡ true

        by_step : (c.head.name ≡ d.head.name) ⊎ ((s : Word) × In s (parents (hier_in classes) c.head.name) × Ascends (hier_in classes) s d.head.name) → Rec → ((at == b) || behind n met at b (super_of (store_classes classes) at)) ≡ true
        by_step (inl same) rec = or_left (at == b) (behind n met at b (super_of (store_classes classes) at)) ((Decides-eqb at b).1 (one_of_name classes are at b c d e f same))
        by_step (inr q) rec =
            let x = next_so at b c d e f k q.0 q.1 q.2 in
            or_right (at == b) (behind n met at b (super_of (store_classes classes) at))
            (ap (behind n met at b) x.next ∙ rec x.m x.super x.there_is x.rest (next_past n met ms at x.m c x.super e x.named past))

  abbrev seen_field : IfaceField → Word × Ty
  seen_field f = (f.name, f.ty)

  -- an interface has no fields of objects
  no_fields : (fs : List IfaceField) → instance_fields fs ≡ [] → filter (has_role false) (map field_of_head fs) ≡ []
  no_fields [] h = refl
  no_fields (f ∷ fs) h = by_role f.is_static h (no_fields fs) where
    by_role : (b : Bool) → map seen_field (cond (not b) (f ∷ filter (λ (f : IfaceField). not f.is_static) fs) (filter (λ (f : IfaceField). not f.is_static) fs)) ≡ [] → (instance_fields fs ≡ [] → filter (has_role false) (map field_of_head fs) ≡ []) →
        cond (not b) (field_of_head f ∷ filter (has_role false) (map field_of_head fs)) (filter (has_role false) (map field_of_head fs)) ≡ []
    by_role true h rec = rec h
    by_role false h rec = absurd cc

  -- what declares fields of objects is a class
  class_so : (b i : ℕ) (d : TypedClass) (f : Field) → slice_get classes b ≡ Some d → slice_get (own_part false (store_classes classes) b) i ≡ Some f → IsClass (hier_in classes) d.head.name
  class_so b i d f e own = record {
    entry = seen_class d.head;
    found = found_so classes are b d e;
    kind = false_from_ne_true d.head.is_interface (λ h.
        none-some f (sym (ap (λ (l : List Field). slice_get l i) (ap (λ (o : Option Class). filter (has_role false) (option_map_or (λ c. c.fields) o [])) (stored_at classes are b d e)
        ∙ no_fields d.head.fields (are.fieldless b d e h))) ∙ own));
  }

  -- a class at no place is alone on its line
  alone : (n : ℕ) (at b : ℕ) → slice_get classes at ≡ None → is_among b (line_from n (store_classes classes) [] at) ≡ true → at ≡ b
  alone zero at b e h = absurd (false≢true (sym (ap (is_among b) (line_none (store_classes classes) [] at)) ∙ h))
  alone (suc n) at b e h =
      let none : super_of (store_classes classes) at ≡ None = ap (λ (o : Option Class). option_and_then (λ x. option_and_then (place_of (store_classes classes)) x.superclass) o)
      (slice_get-map (λ (c : TypedClass). class_of_head c.head) classes at ∙ ap (option_map (λ (c : TypedClass). class_of_head c.head)) e) in
      let k = ap (λ (o : Option ℕ). is_among b (at ∷ option_map_or (line_from n (store_classes classes) (at ∷ [])) o [])) none in
      elim (or_cases (at == b) false (sym k ∙ sym (ap (is_among b) (line_more n (store_classes classes) [] at)) ∙ h)) [
        | inl l ↦ (Decides-eqb at b).0 l
        | inr r ↦ absurd (false≢true r)
      ]

  -- a class that declares fields of objects is there
  declares_there : (b i : ℕ) (f : Field) → slice_get (own_part false (store_classes classes) b) i ≡ Some f → (d : TypedClass) × (slice_get classes b ≡ Some d)
  declares_there b i f own =
      let o = own_there false (store_classes classes) b i f own in
      let g = from_map (λ (c : TypedClass). class_of_head c.head) classes b o.0 o.1 in
      (g.0, g.1)

  past_none : (name : Word) → Past (length (store_classes classes)) [] [] name
  past_none name = record {
    known = λ y x h k. absurd (false≢true h);
    within = λ w i. elim i [ ];
    apart = tt;
    fresh = λ w i r. elim i [ ];
    count = let e : length names ≡ length (store_classes classes) = length-map (hier_in classes).classes (λ (c : SeenClass). c.name) ∙ as_many classes are in omega (arith, e);
  }

  through : (at upper b : ℕ) (x y d : TypedClass) → slice_get classes at ≡ Some x → slice_get classes upper ≡ Some y → slice_get classes b ≡ Some d → IsClass (hier_in classes) d.head.name →
      is_below_in (length (store_classes classes)) (store_classes classes) upper at ≡ true → is_among b (line (store_classes classes) upper) ≡ true → is_among b (line (store_classes classes) at) ≡ true
  through at upper b x y d e f g k h among =
      let n = length (store_classes classes) in
      let first = ascent_from_reaches n (hier_in classes) x.head.name y.head.name (sym (agrees classes are upper y f n at x e) ∙ h) in
      let second = met_above n [] upper b y d f g among in
      line_comes n [] [] at b x d e g k (ascends_further classes first second) (past_none x.head.name)

  pub all_inherited : InheritsFields (store_classes classes)
  all_inherited at upper b h among f i own =
      let d = declares_there b i f own in
      by_classes (slice_get classes at) (slice_get classes upper) refl refl d.0 d.1 where
        by_classes : (o p : Option TypedClass) → slice_get classes at ≡ o → slice_get classes upper ≡ p → (d : TypedClass) → slice_get classes b ≡ Some d → is_among b (line (store_classes classes) at) ≡ true
        by_classes (Some x) (Some y) e k d g = through at upper b x y d e k g (class_so b i d f g own) h among
        by_classes (Some x) None e k d g = absurd (none-some d (sym k ∙ ap (slice_get classes) (alone (length (store_classes classes)) upper b k among) ∙ g))
        by_classes None p e k d g = subst (λ (z : ℕ). is_among b (line (store_classes classes) z) ≡ true) (sym (nowhere classes are (length (store_classes classes)) at upper e h)) among

pub inherited : FieldsAreInherited
inherited classes are = all_inherited classes are
