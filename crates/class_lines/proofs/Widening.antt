-- A value of a class is one of each class above it.
use Rattle.std.proofs.Common.{◌≡◌, ℕ, zero, suc, Bool, true, false, ◌||◌, List, [], ◌∷◌, length, map, Option, Some, None, ◌⊎◌, inl, inr, refl, sym, ap, ◌∙◌, subst}
use Rattle.std.specs.Prelude.{◌==◌, slice_get, if◌then◌else◌}
use Rattle.std.specs.List.{list_any}
use Rattle.std.specs.Option.{option_map, option_map_or}
use Rattle.std.specs.Str.{bytes_eq}
use Rattle.std.proofs.lemmas.Bool.{false≢true}
use Rattle.std.proofs.lemmas.Bool.Decides.{Decides-eqb}
use Rattle.std.proofs.lemmas.Option.{none-some, slice_get-map}
use Rattle.jp_pred.specs.declared.hier.SeenClass.{SeenClass}
use Rattle.jp_pred.specs.declared.ty.Ty.{Ty}
use Rattle.jp_pred.specs.declared.ty.Ty.TheVariants as ty
use Rattle.jp_pred.specs.Names.{Word, object, same}
use Rattle.jp_pred.specs.Hierarchy.{class_named, Ascends, stop, up, IsBelow, is_below as is_seen_below}
use Rattle.jp_pred.specs.Universe.{IsSeen}
use Rattle.jp_pred.proofs.Lists.{or_cases}
use Rattle.jp_pred.proofs.Ascents.{is_below-Decides}
use Rattle.jp_pred.proofs.Universes.{parent}
use Rattle.jp_pred.proofs.Extension.{found_in}
use Rattle.jp_pred.proofs.Agreement.{below_trans}
use Rattle.jp_store.specs.declared.value.Value.{Value}
use Rattle.jp_store.specs.declared.value.Value.TheVariants.{Int, Long, Null, Ref, Text}
use Rattle.jp_store.specs.declared.value.ClassAt.{ClassAt}
use Rattle.jp_store.specs.declared.value.ClassAt.TheVariants.{Root, Listed}
use Rattle.jp_store.specs.Classes.{Class, object_name, class_at, place_of, supers_in, supers_of, is_below, is_below_in}
use Rattle.jp_store.specs.Store.{Store}
use Rattle.jp_meaning.specs.declared.unit.TypedClass.{TypedClass}
use Rattle.jp_meaning.specs.Descriptors.{internal_name}
use Rattle.jp_meaning.specs.Classes.{class_of_head, hier_in}
use Rattle.value_types.specs.Values.{Sort, ObjectOf, ArrayOf, sorts, is_at_or_below, is_sort_of, refers, is_value_of, has_type}
use Rattle.value_types.proofs.Lists.{passing}
use Rattle.class_lines.specs.Agreeing.{AreClasses, widens, store_classes}
use Rattle.class_lines.specs.Laws.{ValuesWiden}
use Rattle.class_lines.proofs.Positions.{Stands, stands, placed_at, no_root}
use Rattle.class_lines.proofs.Below.{no_steps, one_step, below_same}

refers_more : (made : List Sort) (p q : Sort → Bool) → ((s : Sort) → p s ≡ true → q s ≡ true) → (v : Value) → refers made p v ≡ true → refers made q v ≡ true
refers_more made p q f Null h = refl
refers_more made p q f (Ref o) h = let x = passing p (slice_get made o) h in ap (λ (s : Option Sort). option_map_or q s false) x.1 ∙ f x.0 x.2
refers_more made p q f (Int n) h = h
refers_more made p q f (Long n) h = h
refers_more made p q f (Text t) h = h

module _ (classes : List TypedClass) (are : AreClasses classes) where
  -- what is above what is seen, is
  seen_above : {a b : Word} → Ascends (hier_in classes) a b → IsSeen (hier_in classes) a → IsSeen (hier_in classes) b
  seen_above stop h = h
  seen_above (up {a} {b} {c} i r) h =
      let p = parent (hier_in classes) a b i in
      let within = (found_in a (hier_in classes).classes p.entry p.found).0 in
      seen_above r (elim p.names [
        | inl s ↦ elim (are.universe.superclass p.entry b within s) [
          | inl o ↦ inl o
          | inr k ↦ inr (k.entry, k.found)
        ]
        | inr j ↦ let k = are.universe.interfaces p.entry b within j in inr (k.entry, k.found)
      ])

  -- a class at no place is below itself alone
  pub nowhere : (n at upper : ℕ) → slice_get classes at ≡ None → is_below_in n (store_classes classes) upper at ≡ true → at ≡ upper
  nowhere zero at upper e h = (Decides-eqb at upper).0 (sym (no_steps (store_classes classes) at upper) ∙ h)
  nowhere (suc n) at upper e h =
      elim (or_cases (at == upper) (list_any (is_below_in n (store_classes classes) upper) (supers_of (store_classes classes) at)) (sym (one_step n (store_classes classes) at upper) ∙ h)) [
        | inl l ↦ (Decides-eqb at upper).0 l
        | inr r ↦
            let none : slice_get (store_classes classes) at ≡ None = slice_get-map (λ (c : TypedClass). class_of_head c.head) classes at ∙ ap (option_map (λ (c : TypedClass). class_of_head c.head)) e in
            absurd (false≢true (sym (ap (λ (o : Option Class). list_any (is_below_in n (store_classes classes) upper) (option_map_or (supers_in (store_classes classes)) o [])) none) ∙ r))
      ]

  there_below : (n at upper : ℕ) (d : TypedClass) → slice_get classes upper ≡ Some d → is_below_in n (store_classes classes) upper at ≡ true → (c : TypedClass) × (slice_get classes at ≡ Some c)
  there_below n at upper d e h = by_class (slice_get classes at) refl where
    by_class : (o : Option TypedClass) → slice_get classes at ≡ o → (c : TypedClass) × (slice_get classes at ≡ Some c)
    by_class (Some c) k = (c, k)
    by_class None k = absurd (none-some d (sym (ap (slice_get classes) (sym (nowhere n at upper k h)) ∙ k) ∙ e))

  -- the class of a name, in the store
  abbrev found_by : Option ℕ → Word → Option ClassAt
  found_by o name = option_map_or (λ at. Some (Listed at)) o (if bytes_eq (internal_name name) object_name then Some Root else None)

  root_so : class_at (store_classes classes) (internal_name object) ≡ Some Root
  root_so = ap (λ (o : Option ℕ). found_by o object) (no_root classes are)

  listed_so : (name : Word) (f : Stands classes name) → class_at (store_classes classes) (internal_name name) ≡ Some (Listed f.at)
  listed_so name f = ap (λ (o : Option ℕ). found_by o name) (ap (λ (x : Word). place_of (store_classes classes) (internal_name x)) (sym f.named) ∙ placed_at classes are f.at f.class f.there)

  -- all is of Object's type
  all_of_root : (sort : Sort) → is_sort_of (store_classes classes) (ty.Class object) sort ≡ true
  all_of_root sort = ap (λ (o : Option ClassAt). option_map_or (λ c. is_at_or_below (store_classes classes) c sort) o false) root_so ∙ by_sort sort where
    by_sort : (sort : Sort) → is_at_or_below (store_classes classes) Root sort ≡ true
    by_sort (ObjectOf class) = refl
    by_sort (ArrayOf element) = refl

  sort_widens : (a b : Word) → is_seen_below (hier_in classes) a b ≡ true → (sort : Sort) → is_sort_of (store_classes classes) (ty.Class a) sort ≡ true → is_sort_of (store_classes classes) (ty.Class b) sort ≡ true
  sort_widens a b h sort k = by_relation ((is_below-Decides (hier_in classes) a b are.universe.free).0 h) where
    of_root : b ≡ object → is_sort_of (store_classes classes) (ty.Class b) sort ≡ true
    of_root e = subst (λ (x : Word). is_sort_of (store_classes classes) (ty.Class x) sort ≡ true) (sym e) (all_of_root sort)

    by_sort : (f : Stands classes a) (g : Stands classes b) (sort : Sort) → is_at_or_below (store_classes classes) (Listed f.at) sort ≡ true → is_at_or_below (store_classes classes) (Listed g.at) sort ≡ true
    by_sort f g (ObjectOf Root) k = absurd (false≢true k)
    by_sort f g (ArrayOf element) k = absurd (false≢true k)
    by_sort f g (ObjectOf (Listed at)) k =
        let c = there_below (length (store_classes classes)) at f.at f.class f.there k in
        let low = c.0 in
        let seen : is_seen_below (hier_in classes) low.head.name a ≡ true = ap (is_seen_below (hier_in classes) low.head.name) (sym f.named) ∙ sym (below_same classes are at f.at low f.class c.1 f.there) ∙ k in
        let below = (is_below-Decides (hier_in classes) low.head.name a are.universe.free).0 seen in
        let whole = below_trans (hier_in classes) are.universe low.head.name a b below ((is_below-Decides (hier_in classes) a b are.universe.free).0 h) in
        below_same classes are at g.at low g.class c.1 g.there ∙ ap (is_seen_below (hier_in classes) low.head.name) g.named
        ∙ (is_below-Decides (hier_in classes) low.head.name b are.universe.free).1 whole

    by_places : Stands classes a → Stands classes b → is_sort_of (store_classes classes) (ty.Class b) sort ≡ true
    by_places f g =
        ap (λ (o : Option ClassAt). option_map_or (λ c. is_at_or_below (store_classes classes) c sort) o false) (listed_so b g)
        ∙ by_sort f g sort (sym (ap (λ (o : Option ClassAt). option_map_or (λ c. is_at_or_below (store_classes classes) c sort) o false) (listed_so a f)) ∙ k)

    by_seen : Stands classes a → IsSeen (hier_in classes) b → is_sort_of (store_classes classes) (ty.Class b) sort ≡ true
    by_seen f (inl e) = of_root e
    by_seen f (inr g) = by_places f (stands classes are b g.0 g.1)

    by_ascent : {x y : Word} → Ascends (hier_in classes) x y → x ≡ a → y ≡ b → is_sort_of (store_classes classes) (ty.Class b) sort ≡ true
    by_ascent (stop {a = x}) p q = subst (λ (z : Word). is_sort_of (store_classes classes) (ty.Class z) sort ≡ true) (sym p ∙ q) k
    by_ascent (up {a = x} {b = y} {c = z} i r) p q =
        let m = parent (hier_in classes) x y i in
        let found = ap (λ (w : Word). class_named w (hier_in classes).classes) (sym p) ∙ m.found in
        by_seen (stands classes are a m.entry found) (subst (IsSeen (hier_in classes)) q (seen_above (up i r) (inr (m.entry, m.found))))

    by_relation : IsBelow (hier_in classes) a b → is_sort_of (store_classes classes) (ty.Class b) sort ≡ true
    by_relation (inl r) = by_ascent r refl refl
    by_relation (inr e) = of_root e

  by_types : (made : List Sort) (t u : Ty) (v : Value) → widens classes t u ≡ true → is_value_of (store_classes classes) made t v ≡ true → is_value_of (store_classes classes) made u v ≡ true
  by_types made (ty.Class a) (ty.Class b) v h k = refers_more made (is_sort_of (store_classes classes) (ty.Class a)) (is_sort_of (store_classes classes) (ty.Class b)) (sort_widens a b h) v k
  by_types made (ty.Class a) ty.Void v h k = absurd (false≢true h)
  by_types made (ty.Class a) ty.Int v h k = absurd (false≢true h)
  by_types made (ty.Class a) ty.Boolean v h k = absurd (false≢true h)
  by_types made (ty.Class a) ty.IntArray v h k = absurd (false≢true h)
  by_types made (ty.Class a) ty.BooleanArray v h k = absurd (false≢true h)
  by_types made (ty.Class a) (ty.ClassArray b) v h k = absurd (false≢true h)
  by_types made ty.Void u v h k = absurd (false≢true h)
  by_types made ty.Int u v h k = absurd (false≢true h)
  by_types made ty.Boolean u v h k = absurd (false≢true h)
  by_types made ty.IntArray u v h k = absurd (false≢true h)
  by_types made ty.BooleanArray u v h k = absurd (false≢true h)
  by_types made (ty.ClassArray a) u v h k = absurd (false≢true h)

pub widen : ValuesWiden
widen classes are s e t u v h k =
    subst (λ (cs : List Class). is_value_of cs (sorts s) u v ≡ true) (sym e)
    (by_types classes are (sorts s) t u v h (subst (λ (cs : List Class). is_value_of cs (sorts s) t v ≡ true) e k))
