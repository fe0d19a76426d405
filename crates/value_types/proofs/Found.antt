-- The field that a key finds, and where objects hold it.
use Rattle.std.proofs.Common.{◌≡◌, ℕ, zero, suc, ◌+◌, Bool, true, false, ◌&&◌, ◌||◌, List, [], ◌∷◌, ◌++◌, map, length, take, reverse, Option, Some, None, refl, sym, ap, ◌∙◌, subst, arith}
use Rattle.std.specs.Prelude.{◌==◌, filter, position, slice_get, option_and_then, if◌then◌else◌}
use Rattle.std.specs.List.{flat_map}
use Rattle.std.specs.Option.{option_map, option_map_or}
use Rattle.std.specs.Str.{bytes_eq}
use Rattle.std.proofs.lemmas.Bool.{false≢true, or_left, or_right}
use Rattle.std.proofs.lemmas.Bool.Decides.{Decides-eqb}
use Rattle.std.proofs.lemmas.Option.{none-some, same_Some, option_and_then_some}
use Rattle.std.proofs.lemmas.Slice.Eq.{bytes_eq-Decides}
use Rattle.jp_store.specs.declared.value.Kind.{Kind}
use Rattle.jp_store.specs.declared.value.ClassAt.TheVariants.{Root, Listed}
use Rattle.jp_store.specs.Classes.{Class, Field, Key, Found, kind_of, place_of, is_among, line, own_fields, own_part, has_role, first_field, find_field, fitted, field_of, offset_in, slot_of}
use Rattle.value_types.specs.Stores.{fields_of}
use Rattle.value_types.proofs.Lists.{both, filter_there, get_append, get_behind, any_reversed}

-- a field that a key finds: in a class that is met upwards, and of the wanted descriptor
pub record IsFound (static : Bool) (classes : List Class) (key : Key) (found : Found) : Type 0 where
  pub at : ℕ
  pub placed : place_of classes key.class ≡ Some at
  pub in_line : is_among found.class (line classes at) ≡ true
  pub field : Field
  pub there : slice_get (own_part static classes found.class) found.slot ≡ Some field
  pub described : field.descriptor ≡ key.descriptor
  pub kind_so : kind_of field.descriptor ≡ Some found.kind

first_among : (classes : List Class) (name : List ℕ) (cs : List ℕ) (p : ℕ × ℕ) → first_field classes name cs ≡ Some p → is_among p.0 cs ≡ true
first_among classes name [] p e = absurd (none-some p e)
first_among classes name (c ∷ cs) p e = by_position (position (λ f. bytes_eq f.name name) (own_fields classes c)) e (first_among classes name cs p) where
  by_position : (o : Option ℕ) → option_map_or (λ i. Some (c, i)) o (first_field classes name cs) ≡ Some p → (first_field classes name cs ≡ Some p → is_among p.0 cs ≡ true) → is_among p.0 (c ∷ cs) ≡ true
  by_position None e rec = or_right (c == p.0) (is_among p.0 cs) (rec e)
  by_position (Some i) e rec = or_left (c == p.0) (is_among p.0 cs) ((Decides-eqb c p.0).1 (ap (λ (q : ℕ × ℕ). q.0) (same_Some {A = ℕ × ℕ} (c, i) p e)))

module _ (static : Bool) (classes : List Class) (key : Key) where
  abbrev with_kind : ℕ → ℕ → Kind → Found
  with_kind c i kind = record { class = c; slot = length (filter (has_role static) (take i (own_fields classes c))); kind = kind }

  fitted_so : (at c i : ℕ) (f : Field) (found : Found) → place_of classes key.class ≡ Some at → is_among c (line classes at) ≡ true → slice_get (own_fields classes c) i ≡ Some f → fitted static key classes c i f ≡ Some found → IsFound static classes key found
  fitted_so at c i f found placed among there e = by_test (has_role static f && bytes_eq f.descriptor key.descriptor) refl e where
    by_kind : (o : Option Kind) → kind_of f.descriptor ≡ o → (has_role static f ≡ true) × (bytes_eq f.descriptor key.descriptor ≡ true) → option_map (with_kind c i) o ≡ Some found → IsFound static classes key found
    by_kind None k h e = absurd (none-some found e)
    by_kind (Some kind) k h e = subst (λ (x : Found). IsFound static classes key x) (same_Some (with_kind c i kind) found e) (record {
      at = at;
      placed = placed;
      in_line = among;
      field = f;
      there = filter_there (has_role static) (own_fields classes c) i f there h.0;
      described = (bytes_eq-Decides f.descriptor key.descriptor).0 h.1;
      kind_so = k;
    })

    by_test : (b : Bool) → (has_role static f && bytes_eq f.descriptor key.descriptor) ≡ b → (if b then option_map (with_kind c i) (kind_of f.descriptor) else None) ≡ Some found → IsFound static classes key found
    by_test true h e = by_kind (kind_of f.descriptor) refl (both (has_role static f) (bytes_eq f.descriptor key.descriptor) h) e
    by_test false h e = absurd (none-some found e)

  abbrev by_field : ℕ × ℕ → Option Found
  by_field p = option_and_then (fitted static key classes p.0 p.1) (slice_get (own_fields classes p.0) p.1)

  pub found_so : (found : Found) → field_of static classes key ≡ Some found → IsFound static classes key found
  found_so found e =
      option_and_then_some (λ at. option_and_then by_field (find_field classes at key.name)) (place_of classes key.class) found e (λ at placed e.
      option_and_then_some by_field (find_field classes at key.name) found e (λ p first e.
      option_and_then_some (fitted static key classes p.0 p.1) (slice_get (own_fields classes p.0) p.1) found e (λ f there e.
      fitted_so at p.0 p.1 f found placed (first_among classes key.name (line classes at) p first) there e)))

-- where the values of a class stand among those of an object, from the topmost class down
record Offset (classes : List Class) (c : ℕ) (cs : List ℕ) : Type 0 where
  before : ℕ
  is : offset_in classes c cs ≡ Some before
  holds : (slot : ℕ) (f : Field) → slice_get (own_part false classes c) slot ≡ Some f → slice_get (flat_map (own_part false classes) cs) (before + slot) ≡ Some f

offset_there : (classes : List Class) (c : ℕ) (cs : List ℕ) → is_among c cs ≡ true → Offset classes c cs
offset_there classes c [] h = absurd (false≢true h)
offset_there classes c (d ∷ cs) h = by_first (d == c) refl h (offset_there classes c cs) where
  more : (m : ℕ) (b : Bool) → (d == c) ≡ b → b ≡ false → offset_in classes c cs ≡ Some m → offset_in classes c (d ∷ cs) ≡ Some (length (own_part false classes d) + m)
  more m b k n e =
      ap (λ t. if t then Some 0 else option_map (λ n. length (own_part false classes d) + n) (offset_in classes c cs)) (k ∙ n) ∙ ap (option_map (λ n. length (own_part false classes d) + n)) e

  by_first : (b : Bool) → (d == c) ≡ b → (b || is_among c cs) ≡ true → (is_among c cs ≡ true → Offset classes c cs) → Offset classes c (d ∷ cs)
  by_first true k h rec =
      let same = (Decides-eqb d c).0 k in
      record {
        before = 0;
        is = ap (λ t. if t then Some 0 else option_map (λ n. length (own_part false classes d) + n) (offset_in classes c cs)) k;
        holds = λ slot f e. let z : 0 + slot ≡ slot = omega arith in ap (slice_get (own_part false classes d ++ flat_map (own_part false classes) cs)) z ∙ get_append (own_part false classes d) (flat_map (own_part false classes) cs) slot f (ap (λ x. slice_get (own_part false classes x) slot) same ∙ e);
      }
  by_first false k h rec =
      let r = rec h in
      record {
        before = length (own_part false classes d) + r.before;
        is = more r.before false k refl r.is;
        holds = λ slot f e. let z : (length (own_part false classes d) + r.before) + slot ≡ length (own_part false classes d) + (r.before + slot) = omega arith in
            ap (slice_get (own_part false classes d ++ flat_map (own_part false classes) cs)) z ∙ get_behind (own_part false classes d) (flat_map (own_part false classes) cs) (r.before + slot) f (r.holds slot f e);
      }

-- where an object holds a field that was found
pub record IsHeldAt (classes : List Class) (down : ℕ) (found : Found) (field : Field) : Type 0 where
  pub slot : ℕ
  pub slot_so : slot_of classes (Listed down) found ≡ Some slot
  pub there : slice_get (fields_of classes (Listed down)) slot ≡ Some field

pub held_at : (classes : List Class) (down : ℕ) (found : Found) (field : Field) → is_among found.class (line classes down) ≡ true → slice_get (own_part false classes found.class) found.slot ≡ Some field → IsHeldAt classes down found field
held_at classes down found field among e =
    let o = offset_there classes found.class (reverse (line classes down)) (any_reversed (λ m. m == found.class) (line classes down) among) in
    record { slot = o.before + found.slot; slot_so = ap (option_map (λ n. n + found.slot)) o.is; there = o.holds found.slot field e }

-- the class that declares a field is there
pub own_there : (static : Bool) (classes : List Class) (at i : ℕ) (f : Field) → slice_get (own_part static classes at) i ≡ Some f → (c : Class) × (slice_get classes at ≡ Some c) × (slice_get (filter (has_role static) c.fields) i ≡ Some f)
own_there static classes at i f e = by_class (slice_get classes at) refl e where
  by_class : (o : Option Class) → slice_get classes at ≡ o → slice_get (filter (has_role static) (option_map_or (λ c. c.fields) o [])) i ≡ Some f → (c : Class) × (slice_get classes at ≡ Some c) × (slice_get (filter (has_role static) c.fields) i ≡ Some f)
  by_class None k e = absurd (none-some f e)
  by_class (Some c) k e = (c, k, e)
