-- The first place of lists, one after the other.
use Rattle.std.proofs.Common.{◌≡◌, ℕ, ◌+◌, ◌<◌, ◌≤◌, List, [], ◌∷◌, ◌++◌, map, length, get_or, drop, true, false, cond, Option, Some, refl, sym, ap, ◌∙◌}
use Rattle.std.specs.List.{filter, flat_map}
use Rattle.std.proofs.lemmas.List.{at_drop_more, drop_all}
use Rattle.jp_ast.specs.declared.token.Place.{Place}
use Rattle.jp_ast.specs.declared.decl.Member.{Member}
use Rattle.plain_form.specs.Places.{pick, earlier}
use Rattle.plain_form.specs.Families.{is_again, repeats_of, repeats}

pub earlier_append : (best : Option Place) (ps qs : List Place) → earlier (earlier best ps) qs ≡ earlier best (ps ++ qs)
earlier_append best [] qs = refl
earlier_append best (p ∷ ps) qs = earlier_append (Some (pick best p)) ps qs

-- two lists
pub then_more : (old mid new : Option Place) (ps qs : List Place) → mid ≡ earlier old ps → new ≡ earlier mid qs → new ≡ earlier old (ps ++ qs)
then_more old mid new ps qs e f = f ∙ (ap (λ o. earlier o qs) e ∙ earlier_append old ps qs)

-- the places of one more item
pub one_more : {X : Type 0} (f : X → List Place) (xs : List X) (i : ℕ) (x : X) (old new : Option Place) → i < length xs → x ≡ get_or xs i x → new ≡ earlier old (f x) →
    earlier new (flat_map f (drop (i + 1) xs)) ≡ earlier old (flat_map f (drop i xs))
one_more f xs i x old new h e g =
    let rest : List Place = flat_map f (drop (i + 1) xs) in
    ap (λ o. earlier o rest) g
    ∙ (earlier_append old (f x) rest
    ∙ (ap (λ y. earlier old (f y ++ rest)) e ∙ sym (at_drop_more (λ ys. earlier old (flat_map f ys)) xs i x h)))

-- no more items
pub no_more : {X : Type 0} (f : X → List Place) (xs : List X) (i : ℕ) (best all : Option Place) → length xs ≤ i → earlier best (flat_map f (drop i xs)) ≡ all → best ≡ all
no_more f xs i best all h e = sym (ap (λ ys. earlier best (flat_map f ys)) (drop_all i xs h)) ∙ e

-- REPEATS

-- one more member that may be of the family
repeats_cons : (m n : Member) (ns : List Member) → repeats_of m (n ∷ ns) ≡ repeats_of m (n ∷ []) ++ repeats_of m ns
repeats_cons m n ns = elim (is_again m n) as (λ b. map (λ (k : Member). k.place) (cond b (n ∷ filter (is_again m) ns) (filter (is_again m) ns)) ≡ map (λ (k : Member). k.place) (cond b (n ∷ []) []) ++ repeats_of m ns) [
  | true ↦ refl
  | false ↦ refl
]

pub repeat_here : (m n : Member) (best new : Option Place) → is_again m n ≡ true → new ≡ earlier best (n.place ∷ []) → new ≡ earlier best (repeats_of m (n ∷ []))
repeat_here m n best new e g = g ∙ sym (ap (λ b. earlier best (map (λ (k : Member). k.place) (cond b (n ∷ []) []))) e)

pub no_repeat : (m n : Member) (best : Option Place) → is_again m n ≡ false → best ≡ earlier best (repeats_of m (n ∷ []))
no_repeat m n best e = sym (ap (λ b. earlier best (map (λ (k : Member). k.place) (cond b (n ∷ []) []))) e)

pub one_behind : (m : Member) (ns : List Member) (i : ℕ) (n : Member) (old new : Option Place) → i < length ns → n ≡ get_or ns i n → new ≡ earlier old (repeats_of m (n ∷ [])) →
    earlier new (repeats_of m (drop (i + 1) ns)) ≡ earlier old (repeats_of m (drop i ns))
one_behind m ns i n old new h e g =
    let rest : List Member = drop (i + 1) ns in
    ap (λ o. earlier o (repeats_of m rest)) g
    ∙ (earlier_append old (repeats_of m (n ∷ [])) (repeats_of m rest)
    ∙ (ap (earlier old) (sym (repeats_cons m n rest))
    ∙ (ap (λ k. earlier old (repeats_of m (k ∷ rest))) e ∙ sym (at_drop_more (λ ks. earlier old (repeats_of m ks)) ns i n h))))

pub none_behind : (m : Member) (ns : List Member) (i : ℕ) (best all : Option Place) → length ns ≤ i → earlier best (repeats_of m (drop i ns)) ≡ all → best ≡ all
none_behind m ns i best all h e = sym (ap (λ ks. earlier best (repeats_of m ks)) (drop_all i ns h)) ∙ e

-- one more member with those behind it
pub one_first : (ms : List Member) (i : ℕ) (m : Member) (old new : Option Place) → i < length ms → m ≡ get_or ms i m → new ≡ earlier old (repeats_of m (drop (i + 1) ms)) →
    earlier new (repeats (drop (i + 1) ms)) ≡ earlier old (repeats (drop i ms))
one_first ms i m old new h e g =
    let rest : List Member = drop (i + 1) ms in
    ap (λ o. earlier o (repeats rest)) g
    ∙ (earlier_append old (repeats_of m rest) (repeats rest)
    ∙ (ap (λ k. earlier old (repeats (k ∷ rest))) e ∙ sym (at_drop_more (λ ks. earlier old (repeats ks)) ms i m h)))

pub no_first : (ms : List Member) (i : ℕ) (best all : Option Place) → length ms ≤ i → earlier best (repeats (drop i ms)) ≡ all → best ≡ all
no_first ms i best all h e = sym (ap (λ ks. earlier best (repeats ks)) (drop_all i ms h)) ∙ e
