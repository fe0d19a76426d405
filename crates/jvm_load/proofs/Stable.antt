-- A stable sort by keys changes no first entry of a key.
use Rattle.std.proofs.Common.{◌≡◌, Bool, true, false, cond, List, [], ◌∷◌, Option, Some, None, refl, sym, ap, ◌∙◌, arith, Ordering, Less, Equal, Greater}
use Rattle.std.specs.Prelude.{◌&&◌, not, slice_get}
use Rattle.std.specs.List.{filter}
use Rattle.std.specs.List.Sorted.{ties}
use Rattle.std.specs.Cmp.{IsStrictWeakOrder}
use Rattle.std.specs.Ordering.{is_lt, ordering_reverse}
use Rattle.std.proofs.lemmas.Cmp.{tied_itself}
use Rattle.std.proofs.lemmas.List.Sorted.{ranks_by}
use Rattle.jvm_load.specs.declared.tables.TableEntry.{TableEntry}
use Rattle.jvm_load.specs.Tables.{Key, key_cmp, is_key, first_with}
use Rattle.jvm_load.proofs.Sorted.{total, exact, same_key, key_itself}

apart : (a b : Key) (t : Bool) → is_key a b ≡ t → (key_cmp a b ≡ Equal → ⊥) → is_key a b ≡ false
apart a b false e h = e
apart a b true e h = absurd (h (ap (key_cmp a) (same_key a b e) ∙ tied_itself total a))

ties_by : (a b : Key) (o : Ordering) → key_cmp a b ≡ o → is_key a b ≡ (not (is_lt o) && not (is_lt (ordering_reverse o)))
ties_by a b Less h = apart a b (is_key a b) refl (λ e. grind (arith, h, e))
ties_by a b Equal h = ap (is_key a) (sym (exact a b h)) ∙ key_itself a
ties_by a b Greater h = apart a b (is_key a b) refl (λ e. grind (arith, h, e))

head_by : (b : Bool) (y : TableEntry) (more : List TableEntry) (o : Option TableEntry) → o ≡ slice_get more 0 → cond b (Some y) o ≡ slice_get (cond b (y ∷ more) more) 0
head_by true y more o h = refl
head_by false y more o h = h

module _ (key : TableEntry → Key) where
  -- entries are in an order by their keys
  pub order : IsStrictWeakOrder (λ x y. is_lt (key_cmp (key x) (key y)))
  order = ranks_by total key

  tied : (x y : TableEntry) → is_key (key x) (key y) ≡ ties (λ a b. is_lt (key_cmp (key a) (key b))) x y
  tied x y =
      ties_by (key x) (key y) (key_cmp (key x) (key y)) refl
      ∙ ap (λ o. not (is_lt (key_cmp (key x) (key y))) && not (is_lt o)) (sym (total.antisymm (key y) (key x)))

  first_head : (x : TableEntry) (l : List TableEntry) → first_with key l (key x) ≡ slice_get (filter (ties (λ a b. is_lt (key_cmp (key a) (key b))) x) l) 0
  first_head x [] = refl
  first_head x (y ∷ l) =
      let t = ties (λ (a b : TableEntry). is_lt (key_cmp (key a) (key b))) x in
      ap (λ b. cond b (Some y) (first_with key l (key x))) (tied x y)
      ∙ head_by (t y) y (filter t l) (first_with key l (key x)) (first_head x l)

  key_by : (l : List TableEntry) (wanted : Key) (x y : TableEntry) (t : Bool) → is_key wanted (key y) ≡ t
      → (first_with key l wanted ≡ Some x → key x ≡ wanted) → cond t (Some y) (first_with key l wanted) ≡ Some x → key x ≡ wanted
  key_by l wanted x y true e more h =
      let same : y ≡ x = grind (arith, h) in
      ap key (sym same) ∙ same_key wanted (key y) e
  key_by l wanted x y false e more h = more h

  found_key : (l : List TableEntry) (wanted : Key) (x : TableEntry) → first_with key l wanted ≡ Some x → key x ≡ wanted
  found_key [] wanted x h = grind (arith, h)
  found_key (y ∷ l) wanted x h = key_by l wanted x y (is_key wanted (key y)) refl (found_key l wanted x) h

  module _ (xs ys : List TableEntry) (stable : (x : TableEntry) → filter (ties (λ a b. is_lt (key_cmp (key a) (key b))) x) ys ≡ filter (ties (λ a b. is_lt (key_cmp (key a) (key b))) x) xs) where
    same_by : (x : TableEntry) (wanted : Key) → key x ≡ wanted → first_with key ys wanted ≡ first_with key xs wanted
    same_by x wanted e =
        ap (first_with key ys) (sym e) ∙ first_head x ys ∙ ap (λ l. slice_get l 0) (stable x) ∙ sym (first_head x xs) ∙ ap (first_with key xs) e

    first_by : (wanted : Key) (o p : Option TableEntry) → first_with key xs wanted ≡ o → first_with key ys wanted ≡ p → first_with key ys wanted ≡ first_with key xs wanted
    first_by wanted (Some x) p h k = same_by x wanted (found_key xs wanted x h)
    first_by wanted None (Some y) h k = same_by y wanted (found_key ys wanted y k)
    first_by wanted None None h k = k ∙ sym h

    -- the first entry of a key stays
    pub same_first : (wanted : Key) → first_with key ys wanted ≡ first_with key xs wanted
    same_first wanted = first_by wanted (first_with key xs wanted) (first_with key ys wanted) refl refl
