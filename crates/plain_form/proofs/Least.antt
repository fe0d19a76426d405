-- The first place of a list is one of it, and no other of it stands before.
use Rattle.std.proofs.Common.{◌≡◌, ℕ, List, [], ◌∷◌, Bool, true, false, not, ◌||◌, ◌&&◌, nat_lt, ◌⊎◌, inl, inr, Option, Some, refl, sym, subst, ◌∙◌, arith}
use Rattle.std.specs.Prelude.{◌==◌, if◌then◌else◌}
use Rattle.std.specs.List.{list_all}
use Rattle.std.specs.Option.{ForSome}
use Rattle.std.proofs.lemmas.Bool.{and_from, not_from_false}
use Rattle.std.proofs.lemmas.Bool.Decides.{nat_tests}
use Rattle.jp_pred.specs.Names.{In, here, there}
use Rattle.jp_ast.specs.declared.token.Place.{Place}
use Rattle.plain_form.specs.Places.{place_before, pick, earlier, first_place, IsFirst}

-- PLACES ARE IN ONE ORDER

not_itself_at : (a b : ℕ) → (nat_lt a a || (a == a && nat_lt b b)) ≡ false
not_itself_at a b = grind (arith, nat_tests)

one_way_at : (a b c d : ℕ) → (nat_lt a c || (a == c && nat_lt b d)) ≡ true → (nat_lt c a || (c == a && nat_lt d b)) ≡ false
one_way_at a b c d e = grind (arith, nat_tests)

along_at : (a b c d m n : ℕ) → (nat_lt a c || (a == c && nat_lt b d)) ≡ false → (nat_lt c m || (c == m && nat_lt d n)) ≡ false → (nat_lt a m || (a == m && nat_lt b n)) ≡ false
along_at a b c d m n e f = grind (arith, nat_tests)

not_itself : (p : Place) → place_before p p ≡ false
not_itself p = not_itself_at p.line p.col

along : (p q r : Place) → place_before p q ≡ false → place_before q r ≡ false → place_before p r ≡ false
along p q r e f = along_at p.line p.col q.line q.col r.line r.col e f

-- THE EARLIER OF TWO

record Picked (best p one : Place) : Type 0 where
  best_not_before : place_before best one ≡ false
  not_before : place_before p one ≡ false
  is_either : (one ≡ best) ⊎ (one ≡ p)

picked_by : (best p : Place) (b : Bool) → place_before p best ≡ b → Picked best p (if b then p else best)
picked_by best p true e = record { best_not_before = one_way_at p.line p.col best.line best.col e; not_before = not_itself p; is_either = inr refl }
picked_by best p false e = record { best_not_before = not_itself best; not_before = e; is_either = inl refl }

picked : (best p : Place) → Picked best p (pick (Some best) p)
picked best p = picked_by best p (place_before p best) refl

-- THE FIRST OF A LIST

record Best (best : Place) (ps : List Place) (one : Place) : Type 0 where
  best_not_before : place_before best one ≡ false
  least : list_all (λ q. not (place_before q one)) ps ≡ true
  is_one : (one ≡ best) ⊎ In one ps

-- it stands in the longer list
further : (best p mid one : Place) (ps : List Place) → (mid ≡ best) ⊎ (mid ≡ p) → (one ≡ mid) ⊎ In one ps → (one ≡ best) ⊎ In one (p ∷ ps)
further best p mid one ps (inl e) (inl f) = inl (f ∙ e)
further best p mid one ps (inr e) (inl f) = inr (subst (λ (q : Place). In q (p ∷ ps)) (sym (f ∙ e)) here)
further best p mid one ps e (inr f) = inr (there f)

best_of : (best : Place) (ps : List Place) → (one : Place) × (earlier (Some best) ps ≡ Some one) × Best best ps one
best_of best [] = (best, refl, record { best_not_before = not_itself best; least = refl; is_one = inl refl })
best_of best (p ∷ ps) =
    let mid : Place = pick (Some best) p in
    let k : Picked best p mid = picked best p in
    let w : (one : Place) × (earlier (Some mid) ps ≡ Some one) × Best mid ps one = best_of mid ps in (
      w.0,
      w.1,
      record {
        best_not_before = along best mid w.0 k.best_not_before w.2.best_not_before;
        least = and_from (not (place_before p w.0)) (list_all (λ q. not (place_before q w.0)) ps) (not_from_false (place_before p w.0) (along p mid w.0 k.not_before w.2.best_not_before)) w.2.least;
        is_one = further best p mid w.0 ps k.is_either w.2.is_one;
      },
    )

-- the first of what was and the others is one of all
one_of_all : (p one : Place) (ps : List Place) → (one ≡ p) ⊎ In one ps → In one (p ∷ ps)
one_of_all p one ps (inl e) = subst (λ (q : Place). In q (p ∷ ps)) (sym e) here
one_of_all p one ps (inr h) = there h

pub is_first : (ps : List Place) (r : Option Place) → r ≡ first_place ps → ForSome r (IsFirst ps)
is_first [] r e x h = absurd cc
is_first (p ∷ ps) r e x h =
    let w : (one : Place) × (earlier (Some p) ps ≡ Some one) × Best p ps one = best_of p ps in
    let same : Some w.0 ≡ Some x = sym w.1 ∙ (sym e ∙ h) in
    let k : w.0 ≡ x = cc same in
    subst (λ (q : Place). IsFirst (p ∷ ps) q) k (record {
      is_one = one_of_all p w.0 ps w.2.is_one;
      least = and_from (not (place_before p w.0)) (list_all (λ q. not (place_before q w.0)) ps) (not_from_false (place_before p w.0) w.2.best_not_before) w.2.least;
    })
