-- What a hierarchy says of its classes and paths, each universe that extends it says too.
use Rattle.std.proofs.Common.{◌≡◌, List, [], ◌∷◌, true, false, cond, Option, Some, None, map, refl, sym, subst}
use Rattle.std.specs.Prelude.{option_and_then, slice_get}
use Rattle.jp_pred.specs.declared.hier.SeenClass.{SeenClass}
use Rattle.jp_pred.specs.declared.hier.Hier.{Hier}
use Rattle.jp_pred.specs.declared.ty.Ty.{Ty}
use Rattle.jp_pred.specs.declared.path.Path.{Path}
use Rattle.jp_pred.specs.declared.path.PathStep.{PathStep}
use Rattle.jp_pred.specs.Names.{Word, same, In, here, there, AreDistinct}
use Rattle.jp_pred.specs.Hierarchy.{class_named, parents, named_of, Ascends, stop, up}
use Rattle.jp_pred.specs.Universe.{Extends}
use Rattle.jp_pred.specs.Shapes.{field_type, steps_type, path_type, IsTyped}
use Rattle.jp_pred.proofs.Ascents.{same_true, same_refl}
use Rattle.jp_pred.proofs.Visits.{some_same}
use Rattle.jp_pred.proofs.Entries.{in_map}

-- what was found is an entry of that name
pub found_in : (name : Word) (cs : List SeenClass) (c : SeenClass) → class_named name cs ≡ Some c → In c cs × (c.name ≡ name)
found_in name [] c e = absurd cc
found_in name (d ∷ cs) c e = elim (same d.name name) as (λ t. same d.name name ≡ t → cond t (Some d) (class_named name cs) ≡ Some c → In c (d ∷ cs) × (c.name ≡ name)) [
  | true ↦ λ t h. let q : d ≡ c = some_same d c h in (subst (λ (x : SeenClass). In x (d ∷ cs)) q here, subst (λ (x : SeenClass). x.name ≡ name) q (same_true d.name name t))
  | false ↦ λ t h. let r = found_in name cs c h in (there r.0, r.1)
] refl e

-- an entry of a list of distinct names is found by its name
pub find_in : (cs : List SeenClass) (c : SeenClass) → AreDistinct (map (λ d. d.name) cs) → In c cs → class_named c.name cs ≡ Some c
find_in [] c apart i = elim i [ ]
find_in (d ∷ cs) c apart here = rw (same_refl d.name) refl
find_in (d ∷ cs) c apart (there i) = elim (same d.name c.name) as (λ t. same d.name c.name ≡ t → cond t (Some d) (class_named c.name cs) ≡ Some c) [
  | true ↦ λ t. absurd (apart.0 (subst (λ (x : Word). In x (map (λ d. d.name) cs)) (sym (same_true d.name c.name t)) (in_map (λ d. d.name) i)))
  | false ↦ λ t. find_in cs c apart.1 i
] refl

module _ (universe hier : Hier) (e : Extends universe hier) where
  pub found_up : (name : Word) (c : SeenClass) → class_named name hier.classes ≡ Some c → class_named name universe.classes ≡ Some c
  found_up name c h =
      let f = found_in name hier.classes c h in
      subst (λ (x : Word). class_named x universe.classes ≡ Some c) f.1 (find_in universe.classes c e.valid.distinct (e.keeps c f.0))

  pub parents_up : (a b : Word) → In b (parents hier a) → In b (parents universe a)
  parents_up a b i = elim (class_named a hier.classes) as (λ o. class_named a hier.classes ≡ o → In b (named_of o) → In b (parents universe a)) [
    | None ↦ λ h j. elim j [ ]
    | Some c ↦ λ h j. subst (λ (o : Option SeenClass). In b (named_of o)) (sym (found_up a c h)) j
  ] refl i

  pub ascends_up : {a b : Word} → Ascends hier a b → Ascends universe a b
  ascends_up stop = stop
  ascends_up (up {a} {b} {c} i r) = up (parents_up a b i) (ascends_up r)

  steps_up : (steps : List PathStep) (t v : Ty) → steps_type hier t steps ≡ Some v → steps_type universe t steps ≡ Some v
  steps_up [] t v h = h
  steps_up (s ∷ ss) t v h = elim (class_named s.class hier.classes) as (λ o. class_named s.class hier.classes ≡ o →
      option_and_then (λ c. option_and_then (λ u. steps_type hier u ss) (field_type s.field c.fields)) o ≡ Some v → steps_type universe t (s ∷ ss) ≡ Some v) [
        | None ↦ λ q k. absurd cc
        | Some c ↦ λ q k.
            subst (λ (o : Option SeenClass). option_and_then (λ d. option_and_then (λ u. steps_type universe u ss) (field_type s.field d.fields)) o ≡ Some v) (sym (found_up s.class c q))
            (elim (field_type s.field c.fields) as (λ o. option_and_then (λ u. steps_type hier u ss) o ≡ Some v → option_and_then (λ u. steps_type universe u ss) o ≡ Some v) [
              | None ↦ λ l. absurd cc
              | Some u ↦ λ l. steps_up ss u v l
            ] k)
      ] refl h

  pub path_type_up : (roots : List Ty) (path : Path) (v : Ty) → path_type hier roots path ≡ Some v → path_type universe roots path ≡ Some v
  path_type_up roots path v h = elim (slice_get roots path.root) as (λ o. option_and_then (λ t. steps_type hier t path.steps) o ≡ Some v → option_and_then (λ t. steps_type universe t path.steps) o ≡ Some v) [
    | None ↦ λ k. absurd cc
    | Some t ↦ λ k. steps_up path.steps t v k
  ] h

  pub typed_up : (roots : List Ty) (path : Path) → IsTyped hier roots path → IsTyped universe roots path
  typed_up roots path t = (t.0, path_type_up roots path t.0 t.1, t.2)
