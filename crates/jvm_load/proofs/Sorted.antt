-- Tables that entries are put into one after another, and what a place in a table says of a search.
use Rattle.std.proofs.Common.{◌≡◌, ℕ, ◌+◌, ◌-◌, ◌<◌, ◌≤◌, Bool, true, false, cond, List, [], ◌∷◌, ◌++◌, length, get_or, Option, Some, None, refl, sym, ap, ◌∙◌, subst, arith, ◌⊎◌, inl, inr, Ordering, Less, Equal, Greater, nat_cmp}
use Rattle.std.specs.Prelude.{◌&&◌}
use Rattle.std.specs.Option.{option_or}
use Rattle.std.specs.List.{insert}
use Rattle.std.specs.Cmp.{IsTotalOrder}
use Rattle.std.specs.Ordering.{ordering_then, ordering_reverse}
use Rattle.std.specs.Cmp.Lexicographic.{slice_cmp}
use Rattle.std.specs.Str.{bytes_eq}
use Rattle.std.proofs.Math.Nat.{eq-or-lt_of_le}
use Rattle.std.proofs.lemmas.Bool.{cases_lt}
use Rattle.std.proofs.lemmas.Cmp.{then_total, on_total, nat_list_cmp_total, tied_itself}
use Rattle.std.proofs.lemmas.Map.Lookups.{exact_bytes}
use Rattle.std.proofs.lemmas.Slice.Eq.{bytes_eq-Decides}
use Rattle.std.proofs.lemmas.List.Edits.{length-insert, get_or-insert_below, get_or-insert_at, get_or-insert_above}
use Rattle.std.proofs.lemmas.List.Folds.{find-append}
use Rattle.jvm_load.specs.declared.tables.TableEntry.{TableEntry}
use Rattle.jvm_load.specs.Tables.{Key, key_cmp, is_key, first_with, Rises, IsTable, IsAt, IsGap}

-- keys are in a total order, and only a key itself ties with it

pub total : IsTotalOrder key_cmp
total = then_total (on_total (λ (k : Key). k.0) nat_list_cmp_total) (on_total (λ (k : Key). k.1) nat_list_cmp_total)

first_tied : (o p : Ordering) → ordering_then o p ≡ Equal → o ≡ Equal
first_tied Less p h = h
first_tied Equal p h = refl
first_tied Greater p h = h

then_tied : (o p : Ordering) → ordering_then o p ≡ Equal → p ≡ Equal
then_tied Less p h = grind (arith, h)
then_tied Equal p h = h
then_tied Greater p h = grind (arith, h)

pub exact : (a b : Key) → key_cmp a b ≡ Equal → a ≡ b
exact a b h =
    let o = slice_cmp nat_cmp a.0 b.0 in
    let p = slice_cmp nat_cmp a.1 b.1 in
    ap (λ x. (x, a.1)) (exact_bytes a.0 b.0 (first_tied o p h)) ∙ ap (λ y. (b.0, y)) (exact_bytes a.1 b.1 (then_tied o p h))

not_less : (a b : Key) → a ≡ b → key_cmp a b ≡ Less → ⊥
not_less a b e h = grind (arith, ap (key_cmp a) (sym e), tied_itself total a, h)

not_greater : (a b : Key) → a ≡ b → key_cmp a b ≡ Greater → ⊥
not_greater a b e h = grind (arith, ap (key_cmp a) (sym e), tied_itself total a, h)

pub turned : (a b : Key) → key_cmp a b ≡ Greater → key_cmp b a ≡ Less
turned a b h = total.antisymm b a ∙ ap ordering_reverse h

both : (a b : Bool) → (a && b) ≡ true → (a ≡ true) × (b ≡ true)
both true b h = (refl, h)
both false b h = grind (arith, h)

pub same_key : (wanted key : Key) → is_key wanted key ≡ true → key ≡ wanted
same_key wanted key h =
    let b = both (bytes_eq key.0 wanted.0) (bytes_eq key.1 wanted.1) h in
    ap (λ x. (x, key.1)) ((bytes_eq-Decides key.0 wanted.0).0 b.0) ∙ ap (λ y. (wanted.0, y)) ((bytes_eq-Decides key.1 wanted.1).0 b.1)

pub key_itself : (key : Key) → is_key key key ≡ true
key_itself key = ap (λ b. b && bytes_eq key.1 key.1) ((bytes_eq-Decides key.0 key.0).1 refl) ∙ (bytes_eq-Decides key.1 key.1).1 refl

-- what a search finds, by cases

nothing : {A : Type 0} (o : Option A) → ((a : A) → o ≡ Some a → ⊥) → o ≡ None
nothing None h = refl
nothing (Some a) h = absurd (h a refl)

module _ (key : TableEntry → Key) (finds : Key → Option TableEntry) (table : List TableEntry) (t : IsTable key_cmp key finds table) where
  -- the entry at a key's place is what is found
  pub at_is : (wanted : Key) (i : ℕ) (d : TableEntry) → IsAt key table wanted i → finds wanted ≡ Some (get_or table i d)
  at_is wanted i d a = ap finds (sym (exact (key (get_or table i d)) wanted (a.same d))) ∙ t.sound i d a.within

  away : (wanted : Key) (i j : ℕ) (d : TableEntry) → IsGap key table wanted i → j < length table → key (get_or table j d) ≡ wanted → (j < i) ⊎ (i ≤ j) → ⊥
  away wanted i j d g lt e (inl before) = not_less (key (get_or table j d)) wanted e (g.before j d before)
  away wanted i j d g lt e (inr behind) = not_greater (key (get_or table j d)) wanted e (g.behind j d behind lt)

  -- where there is a gap for a key, nothing is found
  pub gap_is : (wanted : Key) (i : ℕ) → IsGap key table wanted i → finds wanted ≡ None
  gap_is wanted i g = nothing (finds wanted) (λ e h.
      let c = t.complete wanted e h in
      away wanted i c.0 e g c.1 (c.2 e) (cases_lt c.0 i))

  -- another search that finds the same
  pub alike : (other : Key → Option TableEntry) → ((k : Key) → finds k ≡ other k) → IsTable key_cmp key other table
  alike other same = record {
    rises = t.rises;
    sound = λ i d lt. sym (same (key (get_or table i d))) ∙ t.sound i d lt;
    complete = λ k e h. t.complete k e (same k ∙ h);
  }

or_none : (o : Option TableEntry) → option_or o None ≡ o
or_none None = refl
or_none (Some e) = refl

-- one entry more

module _ (key : TableEntry → Key) (entries : List TableEntry) (x : TableEntry) where
  abbrev one : Key → Option TableEntry
  one wanted = first_with key (x ∷ []) wanted

  joined : (wanted : Key) → first_with key (entries ++ x ∷ []) wanted ≡ option_or (first_with key entries wanted) (cond (is_key wanted (key x)) (Some x) None)
  joined wanted = find-append (λ (e : TableEntry). is_key wanted (key e)) entries (x ∷ [])

  known_by : (wanted : Key) (b : Bool) → is_key wanted (key x) ≡ b → (found : TableEntry) → first_with key entries (key x) ≡ Some found
      → first_with key entries wanted ≡ option_or (first_with key entries wanted) (cond b (Some x) None)
  known_by wanted false h found f = sym (or_none (first_with key entries wanted))
  known_by wanted true h found f =
      let e : first_with key entries wanted ≡ Some found = ap (first_with key entries) (sym (same_key wanted (key x) h)) ∙ f in
      e ∙ sym (ap (λ o. option_or o (Some x)) e)

  -- an entry of a key that is there changes nothing
  pub kept : (table : List TableEntry) → IsTable key_cmp key (first_with key entries) table → (i : ℕ) → IsAt key table (key x) i
      → IsTable key_cmp key (first_with key (entries ++ x ∷ [])) table
  kept table t i a = alike key (first_with key entries) table t (first_with key (entries ++ x ∷ [])) (λ k.
      known_by k (is_key k (key x)) refl (get_or table i x) (at_is key (first_with key entries) table t (key x) i x a)
      ∙ sym (joined k))

module _ (key : TableEntry → Key) (entries table : List TableEntry) (x : TableEntry) (at : ℕ) (t : IsTable key_cmp key (first_with key entries) table) (g : IsGap key table (key x) at) where
  abbrev new : List TableEntry
  new = insert table at x

  new_length : length new ≡ length table + 1
  new_length = length-insert table at x g.within

  below : (k : ℕ) (d : TableEntry) → k < at → get_or new k d ≡ get_or table k d
  below k d lt = get_or-insert_below table at x d k lt g.within

  here : (k : ℕ) (d : TableEntry) → k ≡ at → get_or new k d ≡ x
  here k d e = ap (λ n. get_or new n d) e ∙ get_or-insert_at table at x d g.within

  behind : (k : ℕ) (d : TableEntry) → at ≤ k → get_or new (k + 1) d ≡ get_or table k d
  behind k d le = get_or-insert_above table at x d k le g.within

  -- a place is before the new entry, is its place, or is behind it
  where_is : (k : ℕ) → (k < at) ⊎ ((k ≡ at) ⊎ ((j : ℕ) × (at ≤ j) × (k ≡ j + 1)))
  where_is k = elim (cases_lt k at) [
    | inl lt ↦ inl lt
    | inr le ↦ elim (eq-or-lt_of_le le) [
      | inl e ↦ inr (inl (sym e))
      | inr lt ↦ inr (inr (k - 1, omega arith, omega arith))
    ]
  ]

  abbrev less : TableEntry → TableEntry → Type 0
  less a b = key_cmp (key a) (key b) ≡ Less

  rises_by : (i j : ℕ) (d : TableEntry) → i < j → j < length table + 1
      → (i < at) ⊎ ((i ≡ at) ⊎ ((k : ℕ) × (at ≤ k) × (i ≡ k + 1)))
      → (j < at) ⊎ ((j ≡ at) ⊎ ((k : ℕ) × (at ≤ k) × (j ≡ k + 1)))
      → less (get_or new i d) (get_or new j d)
  rises_by i j d lt within (inl a) (inl b) =
      rw (below i d a, below j d b) (t.rises i j d lt (omega (arith, g.within)))
  rises_by i j d lt within (inl a) (inr (inl b)) =
      rw (below i d a, here j d b) (g.before i d a)
  rises_by i j d lt within (inl a) (inr (inr (k, le, e))) =
      rw (below i d a, e, behind k d le) (t.rises i k d (omega arith) (omega (arith, e)))
  rises_by i j d lt within (inr (inl a)) (inl b) = absurd (omega (arith, a))
  rises_by i j d lt within (inr (inl a)) (inr (inl b)) = absurd (omega (arith, a, b))
  rises_by i j d lt within (inr (inl a)) (inr (inr (k, le, e))) =
      rw (here i d a, e, behind k d le) (turned (key (get_or table k d)) (key x) (g.behind k d le (omega (arith, e))))
  rises_by i j d lt within (inr (inr (k, le, e))) (inl b) = absurd (omega (arith, e))
  rises_by i j d lt within (inr (inr (k, le, e))) (inr (inl b)) = absurd (omega (arith, e, b))
  rises_by i j d lt within (inr (inr (k, le, e))) (inr (inr (m, less, f))) =
      rw (e, f, behind k d le, behind m d less) (t.rises k m d (omega (arith, e, f)) (omega (arith, f)))

  abbrev find_new : Key → Option TableEntry
  find_new = first_with key (entries ++ x ∷ [])

  kept_found : (wanted : Key) (e : TableEntry) → first_with key entries wanted ≡ Some e → find_new wanted ≡ Some e
  kept_found wanted e h = joined key entries x wanted ∙ ap (λ o. option_or o (cond (is_key wanted (key x)) (Some x) None)) h

  found_new : find_new (key x) ≡ Some x
  found_new =
      joined key entries x (key x) ∙ ap (λ o. option_or o (cond (is_key (key x) (key x)) (Some x) None)) (gap_is key (first_with key entries) table t (key x) at g)
      ∙ ap (λ b. cond b (Some x) None) (key_itself (key x))

  sound_by : (k : ℕ) (d : TableEntry) → k < length table + 1 → (k < at) ⊎ ((k ≡ at) ⊎ ((j : ℕ) × (at ≤ j) × (k ≡ j + 1))) → find_new (key (get_or new k d)) ≡ Some (get_or new k d)
  sound_by k d lt (inl a) = rw (below k d a) (kept_found (key (get_or table k d)) (get_or table k d) (t.sound k d (omega (arith, g.within))))
  sound_by k d lt (inr (inl a)) = rw (here k d a) found_new
  sound_by k d lt (inr (inr (j, le, e))) = rw (e, behind j d le) (kept_found (key (get_or table j d)) (get_or table j d) (t.sound j d (omega (arith, e))))

  moved : (k : Key) (j : ℕ) → j < length table → ((d : TableEntry) → key (get_or table j d) ≡ k) → (j < at) ⊎ (at ≤ j) → (i : ℕ) × (i < length new) × ((d : TableEntry) → key (get_or new i d) ≡ k)
  moved k j lt same (inl a) = (j, omega (arith, new_length), λ d. ap key (below j d a) ∙ same d)
  moved k j lt same (inr le) = (j + 1, omega (arith, new_length), λ d. ap key (behind j d le) ∙ same d)

  whole_by : (k : Key) (e : TableEntry) (o : Option TableEntry) (b : Bool) → first_with key entries k ≡ o → is_key k (key x) ≡ b → option_or o (cond b (Some x) None) ≡ Some e
      → (i : ℕ) × (i < length new) × ((d : TableEntry) → key (get_or new i d) ≡ k)
  whole_by k e (Some old) b f h s =
      let c = t.complete k old f in
      moved k c.0 c.1 c.2 (cases_lt c.0 at)
  whole_by k e None true f h s = (at, omega (arith, new_length, g.within), λ d. ap key (here at d refl) ∙ same_key k (key x) h)
  whole_by k e None false f h s = grind (arith, s)

  -- an entry of a new key is put into its gap
  pub put : IsTable key_cmp key (first_with key (entries ++ x ∷ [])) (insert table at x)
  put = record {
    rises = λ i j d lt within. rises_by i j d lt (omega (arith, new_length)) (where_is i) (where_is j);
    sound = λ k d lt. sound_by k d (omega (arith, new_length)) (where_is k);
    complete = λ k e h. whole_by k e (first_with key entries k) (is_key k (key x)) refl refl (sym (joined key entries x k) ∙ h);
  }

-- no entries
pub empty_table : (key : TableEntry → Key) → IsTable key_cmp key (first_with key []) []
empty_table key = record {
  rises = λ i j d lt within. absurd (omega arith);
  sound = λ i d lt. absurd (omega arith);
  complete = λ k e h. grind (arith, h);
}

-- a place in the middle

module _ (key : TableEntry → Key) (table : List TableEntry) (wanted : Key) (r : Rises key_cmp key table) (m : ℕ) (within : m < length table) where
  -- what stands before an entry that is less is less too
  pub less_before : ((d : TableEntry) → key_cmp (key (get_or table m d)) wanted ≡ Less) → (j : ℕ) (d : TableEntry) → j < m + 1 → key_cmp (key (get_or table j d)) wanted ≡ Less
  less_before h j d lt = let le : j ≤ m = omega arith in elim (eq-or-lt_of_le le) [
    | inl e ↦ subst (λ (n : ℕ). key_cmp (key (get_or table n d)) wanted ≡ Less) (sym e) (h d)
    | inr before ↦ total.trans (key (get_or table j d)) (key (get_or table m d)) wanted (r j m d before within) (h d)
  ]

  -- what stands behind one that is greater is greater too
  pub greater_behind : ((d : TableEntry) → key_cmp (key (get_or table m d)) wanted ≡ Greater) → (j : ℕ) (d : TableEntry) → m ≤ j → j < length table → key_cmp (key (get_or table j d)) wanted ≡ Greater
  greater_behind h j d le lt = elim (eq-or-lt_of_le le) [
    | inl e ↦ subst (λ (n : ℕ). key_cmp (key (get_or table n d)) wanted ≡ Greater) e (h d)
    | inr behind ↦ total.antisymm (key (get_or table j d)) wanted ∙ ap ordering_reverse (total.trans wanted (key (get_or table m d)) (key (get_or table j d)) (turned (key (get_or table m d)) wanted (h d)) (r m j d behind lt))
  ]
