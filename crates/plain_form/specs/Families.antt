-- Bodies of one family: of one name and number of parameters.
use Rattle.std.specs.Prelude.{◌==◌, Bool, true, false, not, ◌&&◌, List, [], ◌∷◌, ◌++◌, map, length}
use Rattle.std.specs.List.{filter, list_any}
use Rattle.jp_pred.specs.Names.{same}
use Rattle.jp_ast.specs.declared.token.Place.{Place}
use Rattle.jp_ast.specs.declared.decl.Member.{Member}
use Rattle.jp_ast.specs.declared.decl.MemberPart.{MemberPart}
use Rattle.jp_ast.specs.declared.decl.MemberPart.TheVariants as part

abbrev pub is_body : MemberPart → Bool
is_body (part.Body result guard block) = true
is_body _ = false

-- both are bodies, of one family
abbrev pub is_again : Member → Member → Bool
is_again m n = is_body m.part && is_body n.part && same m.name n.name && length m.params == length n.params

-- no two members are bodies of one family
abbrev pub has_lone_bodies : List Member → Bool
has_lone_bodies [] = true
has_lone_bodies (m ∷ ms) = not (list_any (is_again m) ms) && has_lone_bodies ms

-- the names of the bodies that stand behind the member and are of its family
abbrev pub repeats_of : Member → List Member → List Place
repeats_of m behind = map (λ n. n.place) (filter (is_again m) behind)

-- the names of the bodies that stand behind another of their family
abbrev pub repeats : List Member → List Place
repeats [] = []
repeats (m ∷ ms) = repeats_of m ms ++ repeats ms
