-- Atoms of guards that are walked, with the first fault so far.
use Rattle.std.specs.Prelude.{◌≡◌, List, map, Bool, false, Option, Some, None, if◌then◌else◌}
use Rattle.std.specs.Option.{option_map, option_map_or}
use Rattle.jp_ast.specs.declared.token.Place.{Place}
use Rattle.jp_ast.specs.declared.guard.PathText.{PathText}
use Rattle.jp_pred.specs.declared.ty.Ty.TheVariants as ty
use Rattle.jp_pred.specs.Names.{Word}
use Rattle.jp_meaning.specs.declared.guard.TypedGuard.{TypedGuard}
use Rattle.jp_meaning.specs.declared.guard.TypedGuardKind.{TypedGuardKind}
use Rattle.jp_meaning.specs.declared.guard.TypedPath.{TypedPath}
use Rattle.type_rules.specs.declared.fault.TypeFault.{TypeFault}
use Rattle.type_rules.specs.declared.guard_scope.GuardScope.{GuardScope}
use Rattle.type_rules.specs.declared.guard_scope.Alias.{Alias}
use Rattle.type_rules.specs.Nodes.{AtPath, AtAtom, AtomNode, TestsClass}
use Rattle.type_rules.specs.GuardPaths.{path_of}
use Rattle.type_rules.specs.Guards.{aliased, tested, guard_at}
use Rattle.type_rules.specs.Typing.{earlier}
use Rattle.type_heads.specs.Faults.{is_none_of}
use Rattle.type_guards.specs.Finding.{faults_at, unless_faulty}

-- a path that isn't compared, where it has no fault
abbrev pub found_in : GuardScope → PathText → Option TypedPath
found_in c path = unless_faulty path.place (AtPath c false path) (path_of c path)

-- An atom with a path is walked: its resolved tree, where neither has a fault, and the first fault so far, with theirs
pub record IsAtom (c : GuardScope) (p : Place) (node : Option TypedPath → AtomNode) (path : PathText) (kind : TypedPath → TypedGuardKind) (old new : Option TypeFault) (made : Option TypedGuard) : Type 0 where
  pub made_is : made ≡ option_map (guard_at p) (unless_faulty p (AtAtom c (node (found_in c path))) (option_map kind (found_in c path)))
  pub first : new ≡ earlier (earlier old (faults_at path.place (AtPath c false path))) (faults_at p (AtAtom c (node (found_in c path))))

-- what is resolved, where the atom breaks no rule
abbrev pub resolved_if : Bool → Place → (TypedPath → TypedGuardKind) → Option TypedPath → Option TypedGuard
resolved_if sound p kind found = option_map (guard_at p) (if sound then option_map kind found else None)

-- a test narrows its path, where it breaks no rule
abbrev pub narrowed_if : Bool → GuardScope → Option TypedPath → Word → GuardScope
narrowed_if sound c found class = option_map_or (λ t. tested c t.path class) (if sound then found else None) c

-- its alias stands for the path in each case
abbrev pub named_if : GuardScope → Option TypedPath → Word → Option Word → GuardScope
named_if c found class alias = option_map_or (λ name. aliased c found name (Some (ty.Class class))) alias c

-- the scope behind a test
abbrev pub scope_behind_test : GuardScope → Place → PathText → Word → Option Word → GuardScope
scope_behind_test c p path class alias =
    named_if (narrowed_if (is_none_of (faults_at p (AtAtom c (TestsClass (found_in c path) class alias)))) c (found_in c path) class) (found_in c path) class alias

-- the names of aliases
abbrev pub alias_names : List Alias → List Word
alias_names aliases = map (λ a. a.name) aliases
