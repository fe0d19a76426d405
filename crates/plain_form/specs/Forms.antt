-- The plain form of units: no guards, and no two bodies of one family in a class or an interface.
use Rattle.std.specs.Prelude.{◌≡◌, Bool, true, not, List, [], ◌∷◌, ◌++◌, Option, Some, None, is_some}
use Rattle.std.specs.List.{list_all, flat_map}
use Rattle.jp_ast.specs.declared.token.Place.{Place}
use Rattle.jp_ast.specs.declared.guard.GuardExpr.{GuardExpr}
use Rattle.jp_ast.specs.declared.decl.SourceUnit.{SourceUnit}
use Rattle.jp_ast.specs.declared.decl.Decl.{Decl}
use Rattle.jp_ast.specs.declared.decl.Member.{Member}
use Rattle.jp_ast.specs.declared.decl.MemberPart.{MemberPart}
use Rattle.jp_ast.specs.declared.decl.MemberPart.TheVariants as part
use Rattle.plain_form.specs.Families.{has_lone_bodies, repeats}

abbrev pub guard_part : MemberPart → Option GuardExpr
guard_part (part.Body result guard block) = guard
guard_part _ = None

-- a member without a guard
abbrev pub has_no_guard : Member → Bool
has_no_guard m = not (is_some (guard_part m.part))

abbrev pub HasNoGuards : SourceUnit → Type 0
HasNoGuards unit = list_all (λ d. list_all has_no_guard d.members) unit.decls ≡ true

abbrev pub HasLoneBodies : SourceUnit → Type 0
HasLoneBodies unit = list_all (λ d. has_lone_bodies d.members) unit.decls ≡ true

pub record IsPlain (unit : SourceUnit) : Type 0 where
  pub no_guards : HasNoGuards unit
  pub lone_bodies : HasLoneBodies unit

-- the place of the guard, where there is one
abbrev pub place_of : Option GuardExpr → List Place
place_of None = []
place_of (Some guard) = guard.place ∷ []

abbrev pub guard_places : MemberPart → List Place
guard_places p = place_of (guard_part p)

abbrev pub decl_lacks : Decl → List Place
decl_lacks d = flat_map (λ m. guard_places m.part) d.members ++ repeats d.members

-- the places at which a unit lacks the form
abbrev pub lacks : SourceUnit → List Place
lacks unit = flat_map decl_lacks unit.decls
