-- Entries under names, and the map that they make.
use Rattle.std.proofs.Common.{◌≡◌, ◌≢◌, ℕ, zero, suc, ◌+◌, ◌<◌, Bool, true, false, cond, not, List, [], ◌∷◌, ◌++◌, length, get_or, Some, None, refl, sym, ap, ◌∙◌, arith}
use Rattle.std.specs.Prelude.{Option, slice_set as set}
use Rattle.std.specs.List.{position, position_or_len}
use Rattle.std.specs.Str.{bytes_eq}
use Rattle.std.specs.Ordering.{nat_cmp, eq_by_cmp}
use Rattle.std.specs.Cmp.Lexicographic.{slice_cmp, nat_list_cmp_total, texts_ties, bytes_decides}
use Rattle.std.specs.FinMap as finite
use Rattle.std.proofs.lemmas.List.Quantifiers.{position-Some}
use Rattle.std.proofs.lemmas.List.Sums.{prefix_len-le-length}
use Rattle.std.proofs.lemmas.Grind.{common_steps}
use Rattle.jp_outside.specs.Files.{Files, Finds, OthersStay, AreDistinct, listed_files, put_known}

-- whether a name is another's
abbrev same : List ℕ → List ℕ → Bool
same = eq_by_cmp (slice_cmp nat_cmp)

abbrev find : List ℕ → List (List ℕ × List ℕ) → Option (List ℕ)
find = finite.find (slice_cmp nat_cmp)

equal : (a b : List ℕ) → same a b ≡ true → a ≡ b
equal a b h = (bytes_decides a b).0 (texts_ties a b ∙ h)

itself : (a b : List ℕ) → a ≡ b → same a b ≡ true
itself a b e = sym (texts_ties a b) ∙ (bytes_decides a b).1 e

other : (a b : List ℕ) → a ≢ b → same a b ≡ false
other a b ne = elim (same a b) as (λ t. same a b ≡ t → t ≡ false) [ true ↦ λ h. absurd (ne (equal a b h)) | false ↦ λ h. refl ] refl

in_either_order : (name : List ℕ) (entries : List (List ℕ × List ℕ)) → position (λ e. bytes_eq name e.0) entries ≡ position (λ e. same name e.0) entries
in_either_order name entries = λ i. position (λ e. texts_ties name e.0 i) entries

absent_from : (name : List ℕ) (entries : List (List ℕ × List ℕ)) → position_or_len (λ e. same name e.0) entries ≡ length entries → find name entries ≡ None
absent_from name [] h = refl
absent_from name (e ∷ es) h =
    elim (same name e.0) as (λ t. cond (not t) (1 + position_or_len (λ e. same name e.0) es) 0 ≡ suc (length es) → cond t (Some e.1) (find name es) ≡ None) [
      | true ↦ λ h. absurd (omega arith)
      | false ↦ λ h. absent_from name es (omega arith)
    ] h

-- a name that stands nowhere is not found
pub absent : (name : List ℕ) (entries : List (List ℕ × List ℕ)) → position (λ e. bytes_eq name e.0) entries ≡ None → find name entries ≡ None
absent name entries h =
    let none : position (λ e. same name e.0) entries ≡ None = sym (in_either_order name entries) ∙ h in
    let most = prefix_len-le-length (λ e. not (same name e.0)) entries in
    absent_from name entries (grind (arith, common_steps, most))

-- the first place of a name
pub record IsPlaceOf (name : List ℕ) (entries : List (List ℕ × List ℕ)) (i : ℕ) (d : List ℕ × List ℕ) : Type 0 where
  pub within : i < length entries
  pub here : same name (get_or entries i d).0 ≡ true
  pub before : (k : ℕ) → k < i → same name (get_or entries k d).0 ≡ false

pub place_of : (name : List ℕ) (entries : List (List ℕ × List ℕ)) (i : ℕ) (d : List ℕ × List ℕ) → position (λ e. bytes_eq name e.0) entries ≡ Some i → IsPlaceOf name entries i d
place_of name entries i d h =
    let facts = position-Some (λ e. same name e.0) entries i d (sym (in_either_order name entries) ∙ h) in
    record { within = facts.0; here = facts.1; before = facts.2 }

-- and so the store has no file of that name
pub finds_none : (name : List ℕ) (entries : List (List ℕ × List ℕ)) → position (λ e. bytes_eq name e.0) entries ≡ None → Finds (listed_files entries) name None
finds_none name entries h = finite.get-from_entries nat_list_cmp_total entries name ∙ absent name entries h

later : (name : List ℕ) (e : List ℕ × List ℕ) (es : List (List ℕ × List ℕ)) (i : ℕ) (d : List ℕ × List ℕ) → IsPlaceOf name (e ∷ es) (suc i) d → IsPlaceOf name es i d
later name e es i d p = record { within = let h = p.within in omega arith; here = p.here; before = λ k h. p.before (suc k) (omega arith) }

found_there : (name : List ℕ) (entries : List (List ℕ × List ℕ)) (i : ℕ) (d : List ℕ × List ℕ) → IsPlaceOf name entries i d → find name entries ≡ Some (get_or entries i d).1
found_there name [] i d p = absurd (let h = p.within in omega arith)
found_there name (e ∷ es) zero d p = ap (λ t. cond t (Some e.1) (find name es)) p.here
found_there name (e ∷ es) (suc i) d p =
    ap (λ t. cond t (Some e.1) (find name es)) (p.before 0 (omega arith)) ∙ found_there name es i d (later name e es i d p)

-- what stands at a name's place is what the store finds under it
pub finds_there : (name : List ℕ) (entries : List (List ℕ × List ℕ)) (i : ℕ) (d : List ℕ × List ℕ) → IsPlaceOf name entries i d → Finds (listed_files entries) name (Some (get_or entries i d).1)
finds_there name entries i d p = finite.get-from_entries nat_list_cmp_total entries name ∙ found_there name entries i d p

hidden : (t : Bool) (x y z : Option (List ℕ)) → cond t x z ≡ cond t x (cond t y z)
hidden true x y z = refl
hidden false x y z = refl

swapped : (a b : Bool) (x y z : Option (List ℕ)) → (a ≡ true → b ≡ true → ⊥) → cond a x (cond b y z) ≡ cond b y (cond a x z)
swapped true true x y z apart = absurd (apart refl refl)
swapped true false x y z apart = refl
swapped false b x y z apart = refl

find-set : (name : List ℕ) (entries : List (List ℕ × List ℕ)) (i : ℕ) (d : List ℕ × List ℕ) (bytes q : List ℕ) → IsPlaceOf name entries i d
    → find q (set entries i ((get_or entries i d).0, bytes)) ≡ cond (same q name) (Some bytes) (find q entries)
find-set name [] i d bytes q p = absurd (let h = p.within in omega arith)
find-set name (e ∷ es) zero d bytes q p =
    hidden (same q e.0) (Some bytes) (Some e.1) (find q es)
    ∙ ap (λ n. cond (same q n) (Some bytes) (cond (same q e.0) (Some e.1) (find q es))) (sym (equal name e.0 p.here))
find-set name (e ∷ es) (suc i) d bytes q p =
    let differs : same name e.0 ≡ false = p.before 0 (omega arith) in
    ap (λ r. cond (same q e.0) (Some e.1) r) (find-set name es i d bytes q (later name e es i d p))
    ∙ swapped (same q e.0) (same q name) (Some e.1) (Some bytes) (find q es)
    (λ a b. let true_too : same name e.0 ≡ true = itself name e.0 (sym (equal q name b) ∙ equal q e.0 a) in cc)

antisymmetric : finite.IsAntisymmetric (slice_cmp nat_cmp)
antisymmetric = finite.slice_cmp-IsAntisymmetric finite.nat_cmp-IsAntisymmetric

-- a content set at a name's place is put under it
pub set_there : (name : List ℕ) (entries : List (List ℕ × List ℕ)) (i : ℕ) (d : List ℕ × List ℕ) (bytes : List ℕ) → IsPlaceOf name entries i d
    → listed_files (set entries i ((get_or entries i d).0, bytes)) ≡ put_known (listed_files entries) name bytes
set_there name entries i d bytes p =
    ap Some (finite.same_map nat_list_cmp_total antisymmetric _ _ (λ q.
    finite.get-from_entries nat_list_cmp_total _ q
    ∙ find-set name entries i d bytes q p
    ∙ sym (finite.get-insert nat_list_cmp_total (finite.from_entries entries) name bytes q
    ∙ ap (λ r. cond (same q name) (Some bytes) r) (finite.get-from_entries nat_list_cmp_total entries q))))

-- a new name's content pushed is put under it
pub pushed : (name : List ℕ) (entries : List (List ℕ × List ℕ)) (bytes : List ℕ) → find name entries ≡ None
    → listed_files (entries ++ (name, bytes) ∷ []) ≡ put_known (listed_files entries) name bytes
pushed name entries bytes none = ap Some (finite.from_entries_push nat_list_cmp_total antisymmetric entries name bytes none)

inside : (a b : Files) → Some a ≡ Some b → a ≡ b
inside a b e = cc

-- to put a content leaves all other names
pub others_stay : (files files' : Option Files) (name bytes : List ℕ) → files' ≡ put_known files name bytes → OthersStay files files' name
others_stay None files' name bytes e = e
others_stay (Some files) None name bytes e = cc
others_stay (Some files) (Some files') name bytes e = λ q ne.
    ap (λ m. finite.get m q) (inside files' _ e)
    ∙ finite.get-insert nat_list_cmp_total files name bytes q
    ∙ ap (λ t. cond t (Some bytes) (finite.get files q)) (other q name ne)

none_later : (t : Bool) (x : List ℕ) (r : Option (List ℕ)) → cond t (Some x) r ≡ None → (t ≡ false) × (r ≡ None)
none_later true x r h = cc
none_later false x r h = (refl, h)

none-set : (q : List ℕ) (entries : List (List ℕ × List ℕ)) (i : ℕ) (d : List ℕ × List ℕ) (bytes : List ℕ) → find q entries ≡ None → find q (set entries i ((get_or entries i d).0, bytes)) ≡ None
none-set q [] i d bytes h = refl
none-set q (e ∷ es) zero d bytes h =
    let none = none_later (same q e.0) e.1 (find q es) h in ap (λ t. cond t (Some bytes) (find q es)) none.0 ∙ none.1
none-set q (e ∷ es) (suc i) d bytes h =
    let none = none_later (same q e.0) e.1 (find q es) h in
    ap (λ t. cond t (Some e.1) (find q (set es i ((get_or es i d).0, bytes)))) none.0 ∙ none-set q es i d bytes none.1

-- names stay distinct where a content is set
pub AreDistinct-set : (entries : List (List ℕ × List ℕ)) (i : ℕ) (d : List ℕ × List ℕ) (bytes : List ℕ) → AreDistinct entries → AreDistinct (set entries i ((get_or entries i d).0, bytes))
AreDistinct-set [] i d bytes h = tt
AreDistinct-set (e ∷ es) zero d bytes h = h
AreDistinct-set (e ∷ es) (suc i) d bytes h = (none-set e.0 es i d bytes h.0, AreDistinct-set es i d bytes h.1)

find-push : (name : List ℕ) (entries : List (List ℕ × List ℕ)) (bytes q : List ℕ) → find name entries ≡ None → find q (entries ++ (name, bytes) ∷ []) ≡ cond (same q name) (Some bytes) (find q entries)
find-push name entries bytes q none =
    sym (finite.get-from_entries nat_list_cmp_total (entries ++ (name, bytes) ∷ []) q)
    ∙ ap (λ m. finite.get m q) (finite.from_entries_push nat_list_cmp_total antisymmetric entries name bytes none)
    ∙ finite.get-insert nat_list_cmp_total (finite.from_entries entries) name bytes q
    ∙ ap (λ r. cond (same q name) (Some bytes) r) (finite.get-from_entries nat_list_cmp_total entries q)

-- names stay distinct where a new one is pushed
pub AreDistinct-push : (entries : List (List ℕ × List ℕ)) (name bytes : List ℕ) → AreDistinct entries → find name entries ≡ None → AreDistinct (entries ++ (name, bytes) ∷ [])
AreDistinct-push [] name bytes h none = (refl, tt)
AreDistinct-push (e ∷ es) name bytes h none =
    let apart = none_later (same name e.0) e.1 (find name es) none in
    let turned : same e.0 name ≡ false = other e.0 name (λ eq. let so : same name e.0 ≡ true = itself name e.0 (sym eq) in let no = apart.0 in cc) in
    (find-push name es bytes e.0 apart.1 ∙ ap (λ t. cond t (Some bytes) (find e.0 es)) turned ∙ h.0, AreDistinct-push es name bytes h.1 apart.1)
