-- Places in the order of the text.
use Rattle.std.specs.Prelude.{◌≡◌, nat_lt, ◌==◌, Bool, true, not, ◌&&◌, ◌||◌, if◌then◌else◌, List, [], ◌∷◌, Option, Some, None}
use Rattle.std.specs.List.{list_all}
use Rattle.jp_pred.specs.Names.{In}
use Rattle.jp_ast.specs.declared.token.Place.{Place}

-- lines, then columns
abbrev pub place_before : Place → Place → Bool
place_before p q = nat_lt p.line q.line || (p.line == q.line && nat_lt p.col q.col)

-- the earlier of the two
abbrev pub pick : Option Place → Place → Place
pick None p = p
pick (Some best) p = if place_before p best then p else best

-- the first of the best so far and the list
abbrev pub earlier : Option Place → List Place → Option Place
earlier best [] = best
earlier best (p ∷ ps) = earlier (Some (pick best p)) ps

abbrev pub first_place : List Place → Option Place
first_place places = earlier None places

-- it is one of the places, and none stands before it
pub record IsFirst (places : List Place) (one : Place) : Type 0 where
  pub is_one : In one places
  pub least : list_all (λ p. not (place_before p one)) places ≡ true
