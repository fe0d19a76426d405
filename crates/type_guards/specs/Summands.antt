-- Summands of comparisons that are walked, with the first fault so far.
use Rattle.std.specs.Prelude.{◌≡◌, List, [], ◌∷◌, ◌++◌, Bool, true, Option, Some, None}
use Rattle.std.specs.List.{flat_map}
use Rattle.std.specs.Option.{option_map, option_and_then}
use Rattle.jp_ast.specs.declared.guard.PathText.{PathText}
use Rattle.jp_ast.specs.declared.guard.Summand.{Summand}
use Rattle.jp_meaning.specs.declared.guard.TypedPath.{TypedPath}
use Rattle.jp_meaning.specs.declared.guard.TypedSummand.{TypedSummand}
use Rattle.type_rules.specs.declared.fault.TypeFault.{TypeFault}
use Rattle.type_rules.specs.declared.guard_scope.GuardScope.{GuardScope}
use Rattle.type_rules.specs.Nodes.{AtPath, AtSummand}
use Rattle.type_rules.specs.GuardPaths.{path_of}
use Rattle.type_rules.specs.Guards.{summand_at, summand_visits, summands_in}
use Rattle.type_rules.specs.Table.{faults_of}
use Rattle.type_rules.specs.Typing.{earlier}
use Rattle.type_heads.specs.Faults.{is_none_of}
use Rattle.type_guards.specs.Finding.{faults_at, unless_faulty}

-- the faults of the path of a summand
abbrev pub part_faults : GuardScope → Option PathText → List TypeFault
part_faults c None = []
part_faults c (Some path) = faults_at path.place (AtPath c true path)

-- the path of a summand, where it has none or one without a fault
abbrev pub part_in : GuardScope → Option PathText → Option (Option TypedPath)
part_in c None = Some None
part_in c (Some path) = option_map Some (unless_faulty path.place (AtPath c true path) (path_of c path))

-- The path of a summand is looked at, where it has one: the resolved one, and the first fault so far, with its own
pub record FindsPart (c : GuardScope) (text : Option PathText) (old new : Option TypeFault) (found : Option (Option TypedPath)) : Type 0 where
  pub part_is : found ≡ part_in c text
  pub first : new ≡ earlier old (part_faults c text)

-- The number of a summand is looked at: whether it breaks no rule, and the first fault so far, with its own
pub record LooksAtSummand (x : Summand) (old new : Option TypeFault) (kept : Bool) : Type 0 where
  pub sound : kept ≡ is_none_of (faults_at x.place (AtSummand x))
  pub first : new ≡ earlier old (faults_at x.place (AtSummand x))

-- A summand is walked: the resolved one, where it has no fault, and the first fault so far, with its own
pub record FindsSummand (c : GuardScope) (x : Summand) (old new : Option TypeFault) (found : Option TypedSummand) : Type 0 where
  pub summand_is : found ≡ unless_faulty x.place (AtSummand x) (option_map (summand_at x) (part_in c x.path))
  pub first : new ≡ earlier (earlier old (part_faults c x.path)) (faults_at x.place (AtSummand x))

-- one resolved summand more
abbrev pub with_summand : Option (List TypedSummand) → Option TypedSummand → Option (List TypedSummand)
with_summand done found = option_and_then (λ ts. option_map (λ t. ts ++ t ∷ []) found) done

-- Summands are walked, one after the other
pub record FindsSummands (c : GuardScope) (xs : List Summand) (old new : Option TypeFault) (found : Option (List TypedSummand)) : Type 0 where
  pub summands_are : found ≡ summands_in c [] xs
  pub first : new ≡ earlier old (faults_of (flat_map (summand_visits c) xs))
