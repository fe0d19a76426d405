-- One class is below another in the store where predicates see it below.
use Rattle.std.proofs.Common.{◌≡◌, ℕ, zero, suc, Bool, true, false, ◌||◌, List, [], ◌∷◌, ◌++◌, length, map, Option, Some, None, ◌⊎◌, inl, inr, refl, sym, ap, ◌∙◌, subst}
use Rattle.std.specs.Prelude.{◌==◌, slice_get, option_and_then, filter_map}
use Rattle.std.specs.List.{list_any, cons_option}
use Rattle.std.specs.Option.{option_map_or}
use Rattle.std.specs.Bool.{Decides}
use Rattle.std.proofs.lemmas.Bool.{false≢true, false_from_ne_true}
use Rattle.std.proofs.lemmas.Bool.Decides.{Decides-eqb, same_from_decides}
use Rattle.std.proofs.lemmas.List.Folds.{list_any-append}
use Rattle.std.proofs.lemmas.Option.{same_Some}
use Rattle.jp_pred.specs.declared.hier.SeenClass.{SeenClass}
use Rattle.jp_pred.specs.Names.{Word, object, same, In, here, there}
use Rattle.jp_pred.specs.Hierarchy.{or_none, named, parents, reaches, is_below as is_seen_below}
use Rattle.jp_pred.specs.Universe.{IsClass, IsInterface}
use Rattle.jp_pred.proofs.Ascents.{same_true, same_refl}
use Rattle.iface_codec.specs.Hierarchy.{seen_class}
use Rattle.jp_store.specs.declared.value.ClassAt.TheVariants.{Listed}
use Rattle.jp_store.specs.Classes.{Class, object_name, place_of, supers_in, supers_of, is_below_in}
use Rattle.jp_meaning.specs.declared.unit.TypedClass.{TypedClass}
use Rattle.jp_meaning.specs.Descriptors.{internal_name}
use Rattle.jp_meaning.specs.Classes.{class_of_head, hier_in}
use Rattle.class_lines.specs.Agreeing.{AreClasses, store_classes}
use Rattle.class_lines.specs.Laws.{BelowIsTheSame}
use Rattle.class_lines.proofs.Standing.{in_there}
use Rattle.class_lines.proofs.Positions.{Stands, stored_at, seen_at, as_many, one_of_name, stands, not_object, placed_at, no_root, parents_so, no_parents}

pub no_steps : (classes : List Class) (at up : ℕ) → is_below_in zero classes up at ≡ (at == up)
unfolding is_below_in
no_steps classes at up = refl

pub one_step : (k : ℕ) (classes : List Class) (at up : ℕ) → is_below_in (suc k) classes up at ≡ ((at == up) || list_any (is_below_in k classes up) (supers_of classes at))
unfolding is_below_in
one_step k classes at up = refl

module _ (classes : List TypedClass) (are : AreClasses classes) (up : ℕ) (d : TypedClass) (up_there : slice_get classes up ≡ Some d) where
  -- what is below the class in the store, by at most so many steps, and what is seen below it
  abbrev stored : ℕ → ℕ → Bool
  stored k at = is_below_in k (store_classes classes) up at

  abbrev seen : ℕ → Word → Bool
  seen k name = reaches k (hier_in classes) name d.head.name

  same_place : (at : ℕ) (c : TypedClass) → slice_get classes at ≡ Some c → (at == up) ≡ same c.head.name d.head.name
  same_place at c e = same_from_decides (at == up) (same c.head.name d.head.name) (Decides-eqb at up) (
    (λ k. one_of_name classes are at up c d e up_there (same_true c.head.name d.head.name k)),
    (λ k. subst (λ (x : TypedClass). same c.head.name x.head.name ≡ true) (same_Some c d (sym e ∙ ap (slice_get classes) k ∙ up_there)) (same_refl c.head.name)),
  )

  -- nothing that is listed is above Object
  root_other : same object d.head.name ≡ false
  root_other = false_from_ne_true (same object d.head.name) (λ h. not_object classes are up d up_there (sym (same_true object d.head.name h)))

  root_not : (k : ℕ) → seen k object ≡ false
  root_not zero = root_other
  root_not (suc k) =
      ap (λ b. b || list_any (seen k) (parents (hier_in classes) object)) root_other ∙ ap (list_any (seen k)) (no_parents classes are)

  module _ (k : ℕ) (known : (at : ℕ) (c : TypedClass) → slice_get classes at ≡ Some c → stored k at ≡ seen k c.head.name) where
    abbrev one : Option ℕ → List ℕ
    one o = option_map_or (λ at. at ∷ []) o []

    by_super : (o : Option Word) → ((s : Word) → o ≡ Some s → (s ≡ object) ⊎ IsClass (hier_in classes) s) →
        list_any (stored k) (one (place_of (store_classes classes) (option_map_or internal_name o object_name))) ≡ list_any (seen k) (or_none o)
    by_super None h = ap (λ o. list_any (stored k) (one o)) (no_root classes are)
    by_super (Some s) h = elim (h s refl) [
      | inl is ↦ ap (λ (x : Word). list_any (stored k) (one (place_of (store_classes classes) (internal_name x)))) is ∙ ap (λ o. list_any (stored k) (one o)) (no_root classes are)
          ∙ sym (ap (λ (x : Word). seen k x || false) is ∙ ap (λ b. b || false) (root_not k))
      | inr c ↦ let f = stands classes are s c.entry c.found in
          ap (λ o. list_any (stored k) (one o)) (ap (λ (x : Word). place_of (store_classes classes) (internal_name x)) (sym f.named) ∙ placed_at classes are f.at f.class f.there)
          ∙ ap (λ b. b || false) (known f.at f.class f.there ∙ ap (seen k) f.named)
    ]

    by_faces : (faces : List Word) → ((i : Word) → In i faces → IsInterface (hier_in classes) i) →
        list_any (stored k) (filter_map (place_of (store_classes classes)) (map internal_name faces)) ≡ list_any (seen k) faces
    by_faces [] h = refl
    by_faces (i ∷ faces) h =
        let c = h i here in
        let f = stands classes are i c.entry c.found in
        let rest = filter_map (place_of (store_classes classes)) (map internal_name faces) in
        ap (λ o. list_any (stored k) (cons_option o rest)) (ap (λ (x : Word). place_of (store_classes classes) (internal_name x)) (sym f.named) ∙ placed_at classes are f.at f.class f.there)
        ∙ ap (λ b. b || list_any (stored k) rest) (known f.at f.class f.there ∙ ap (seen k) f.named)
        ∙ ap (λ b. seen k i || b) (by_faces faces (λ j there_is. h j (there there_is)))

    by_supers : (at : ℕ) (c : TypedClass) → slice_get classes at ≡ Some c → list_any (stored k) (supers_of (store_classes classes) at) ≡ list_any (seen k) (parents (hier_in classes) c.head.name)
    by_supers at c e =
        let within = in_there (hier_in classes).classes at (seen_class c.head) (seen_at classes are at c e) in
        let first = one (place_of (store_classes classes) (option_map_or internal_name c.head.superclass object_name)) in
        let faces = filter_map (place_of (store_classes classes)) (map internal_name c.head.interfaces) in
        ap (λ (o : Option Class). list_any (stored k) (option_map_or (supers_in (store_classes classes)) o [])) (stored_at classes are at c e)
        ∙ list_any-append (stored k) first faces
        ∙ ap (λ b. b || list_any (stored k) faces) (by_super c.head.superclass (λ s is. are.universe.superclass (seen_class c.head) s within is))
        ∙ ap (λ b. list_any (seen k) (or_none c.head.superclass) || b) (by_faces c.head.interfaces (λ i there_is. are.universe.interfaces (seen_class c.head) i within there_is))
        ∙ sym (list_any-append (seen k) (or_none c.head.superclass) c.head.interfaces)
        ∙ sym (ap (list_any (seen k)) (parents_so classes are at c e))

  pub agrees : (k at : ℕ) (c : TypedClass) → slice_get classes at ≡ Some c → stored k at ≡ seen k c.head.name
  agrees zero at c e = no_steps (store_classes classes) at up ∙ same_place at c e
  agrees (suc k) at c e =
      one_step k (store_classes classes) at up ∙ ap (λ b. b || list_any (stored k) (supers_of (store_classes classes) at)) (same_place at c e)
      ∙ ap (λ b. same c.head.name d.head.name || b) (by_supers k (agrees k) at c e)

  pub below_so : (at : ℕ) (c : TypedClass) → slice_get classes at ≡ Some c → stored (length (store_classes classes)) at ≡ is_seen_below (hier_in classes) c.head.name d.head.name
  below_so at c e =
      agrees (length (store_classes classes)) at c e ∙ ap (λ n. seen n c.head.name) (sym (as_many classes are))
      ∙ sym (ap (λ b. b || seen (length (hier_in classes).classes) c.head.name) (false_from_ne_true (same d.head.name object) (λ h. not_object classes are up d up_there (same_true d.head.name object h))))

pub below_same : BelowIsTheSame
below_same classes are at up c d e f = below_so classes are up d f at c e
