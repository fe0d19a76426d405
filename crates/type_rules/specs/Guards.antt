-- Guards: what one passes on to what stands further right, the nodes of it, and its resolved tree.
use Rattle.std.specs.Prelude.{List, [], ◌∷◌, ◌++◌, Bool, true, false, Option, Some, None, if◌then◌else◌}
use Rattle.std.specs.Option.{option_map, option_map_or, option_and_then}
use Rattle.std.specs.List.{flat_map}
use Rattle.jp_pred.specs.declared.ty.Ty.{Ty}
use Rattle.jp_pred.specs.declared.ty.Ty.TheVariants as ty
use Rattle.jp_pred.specs.declared.path.Path.{Path}
use Rattle.jp_pred.specs.Names.{Word}
use Rattle.jp_ast.specs.declared.token.Place.{Place}
use Rattle.jp_ast.specs.declared.guard.GuardExpr.{GuardExpr, fold-GuardExpr}
use Rattle.jp_ast.specs.declared.guard.GuardKind.{GuardKind-F}
use Rattle.jp_ast.specs.declared.guard.GuardKind.TheOpen as g
use Rattle.jp_ast.specs.declared.guard.PathText.{PathText}
use Rattle.jp_ast.specs.declared.guard.Summand.{Summand}
use Rattle.jp_meaning.specs.declared.guard.TypedPath.{TypedPath}
use Rattle.jp_meaning.specs.declared.guard.TypedSummand.{TypedSummand}
use Rattle.jp_meaning.specs.declared.guard.TypedGuard.{TypedGuard}
use Rattle.jp_meaning.specs.declared.guard.TypedGuardKind.{TypedGuardKind}
use Rattle.jp_meaning.specs.declared.guard.TypedGuardKind.TheVariants as made
use Rattle.type_rules.specs.declared.guard_scope.GuardScope.{GuardScope}
use Rattle.type_rules.specs.declared.guard_scope.Alias.{Alias}
use Rattle.type_rules.specs.Heads.{names_class}
use Rattle.type_rules.specs.GuardPaths.{no_path, path_of}
use Rattle.type_rules.specs.Nodes.{AtomNode, TestsClass, NamesPath, TestsNull, Stands, Node, AtAtom, AtPath, AtSummand, Visit}
use Rattle.type_rules.specs.Table.{own_faults}

-- What a guard does: the scope for what stands to the right of it in a conjunction, the nodes of it, and its resolved tree
-- where it has no fault
pub record Guarded : Type 0 where
  pub after : GuardScope
  pub visits : List Visit
  pub made : Option TypedGuard

-- a guard whose parts are waiting for their scopes
abbrev pub Step : Type 0
Step = GuardKind-F (Place → GuardScope → Guarded) (GuardScope → Guarded)

-- what stands, where there is no fault
abbrev pub unless_faulty : {A : Type 0} → Place → Node → Option A → Option A
unless_faulty p n made = elim (own_faults p n) [ [] ↦ made | _ ↦ None ]

-- PATHS AND SUMMANDS

-- a path with its names resolved, where it has no fault
abbrev pub path_in : GuardScope → Bool → PathText → Option TypedPath
path_in c compared path = unless_faulty path.place (AtPath c compared path) (path_of c path)

abbrev pub path_visit : GuardScope → Bool → PathText → List Visit
path_visit c compared path = record { place = path.place; node = AtPath c compared path } ∷ []

abbrev pub summand_visits : GuardScope → Summand → List Visit
summand_visits c x = option_map_or (path_visit c true) x.path [] ++ record { place = x.place; node = AtSummand x } ∷ []

abbrev pub summand_at : Summand → Option TypedPath → TypedSummand
summand_at x path = record { place = x.place; negative = x.negative; factor = x.factor; path = path }

-- the path of a summand, where it has none or one without a fault
abbrev pub summand_path : GuardScope → Option PathText → Option (Option TypedPath)
summand_path c None = Some None
summand_path c (Some path) = option_map Some (path_in c true path)

abbrev pub summand_in : GuardScope → Summand → Option TypedSummand
summand_in c x = unless_faulty x.place (AtSummand x) (option_map (summand_at x) (summand_path c x.path))

-- the resolved summands behind those so far
abbrev pub summands_in : GuardScope → List TypedSummand → List Summand → Option (List TypedSummand)
summands_in c done [] = Some done
summands_in c done (x ∷ xs) = option_and_then (λ t. summands_in c (done ++ t ∷ []) xs) (summand_in c x)

-- SCOPES

-- not reached through `&&` alone
abbrev pub inner : GuardScope → GuardScope
inner c = record c { is_outermost = false }

-- with the aliases that stand further left alone
abbrev pub with_aliases : GuardScope → List Alias → GuardScope
with_aliases c aliases = record c { aliases = aliases }

-- an alias of a path, with the type of the local that holds its value; of a path with a fault no type is known
abbrev pub alias_at : Option TypedPath → Word → Option Ty → Alias
alias_at None name t = record { name = name; path = no_path name; declared = ty.Void; ty = option_map_or (λ u. u) t ty.Void }
alias_at (Some p) name t = record { name = name; path = p.path; declared = p.declared; ty = option_map_or (λ u. u) t p.ty }

-- one more alias
abbrev pub aliased : GuardScope → Option TypedPath → Word → Option Ty → GuardScope
aliased c path name t = record c { aliases = c.aliases ++ alias_at path name t ∷ [] }

-- one more test, where it is one of a class; that of an interface changes no type
abbrev pub tested : GuardScope → Path → Word → GuardScope
tested c path class = if names_class c.heads class then record c { tests = c.tests ++ record { path = path; class = class } ∷ [] } else c

-- behind a test with a path: it narrows the path where it has no fault, and its alias stands for the path in each case
abbrev pub behind_test : GuardScope → Place → Option TypedPath → Word → Option Word → GuardScope
behind_test c p path class alias = option_map_or (λ name. aliased narrow path name (Some (ty.Class class))) alias narrow where
  narrow : GuardScope
  narrow = option_map_or (λ t. tested c t.path class) (unless_faulty p (AtAtom c (TestsClass path class alias)) path) c

-- the scope to the right of a guard
abbrev pub scope_behind : GuardScope → Place → Step → GuardScope
scope_behind c p (g.Truth value) = c
scope_behind c p (g.Not right) = with_aliases c (right (inner c)).after.aliases
scope_behind c p (g.And left right) = (right (left c).after).after
scope_behind c p (g.Or left right) = with_aliases c (right (with_aliases (inner c) (left (inner c)).after.aliases)).after.aliases
scope_behind c p (g.Is path class alias) = behind_test c p (path_in c false path) class alias
scope_behind c p (g.Alias path name) = aliased c (path_in c false path) name None
scope_behind c p _ = c

-- NODES

abbrev pub atom_visit : GuardScope → Place → AtomNode → PathText → List Visit
atom_visit c p n path = path_visit c false path ++ record { place = p; node = AtAtom c n } ∷ []

abbrev pub visits_in : GuardScope → Place → Step → List Visit
visits_in c p (g.Truth value) = []
visits_in c p (g.Not right) = (right (inner c)).visits
visits_in c p (g.And left right) = (left c).visits ++ (right (left c).after).visits
visits_in c p (g.Or left right) = (left (inner c)).visits ++ (right (with_aliases (inner c) (left (inner c)).after.aliases)).visits
visits_in c p (g.Is path class alias) = atom_visit c p (TestsClass (path_in c false path) class alias) path
visits_in c p (g.Alias path name) = atom_visit c p (NamesPath (path_in c false path) name) path
visits_in c p (g.NullTest path equal) = atom_visit c p (TestsNull (path_in c false path)) path
visits_in c p (g.Flag path) = atom_visit c p (Stands (path_in c false path)) path
visits_in c p (g.Compare left n right) = flat_map (summand_visits c) left ++ flat_map (summand_visits c) right

-- THE RESOLVED TREE

-- an atom with a path, where neither has a fault
abbrev pub atom : GuardScope → Place → AtomNode → Option TypedPath → (TypedPath → TypedGuardKind) → Option TypedGuardKind
atom c p n path made = unless_faulty p (AtAtom c n) (option_map made path)

abbrev pub both : (TypedGuard → TypedGuard → TypedGuardKind) → Option TypedGuard → Option TypedGuard → Option TypedGuardKind
both join left right = option_and_then (λ l. option_map (λ r. join l r) right) left

-- the alias of a test, with its class as its type
abbrev pub test_alias : Word → Option Word → Option (Word × Ty)
test_alias class alias = option_map (λ name. (name, ty.Class class)) alias

abbrev pub resolved : GuardScope → Place → Step → Option TypedGuardKind
resolved c p (g.Truth value) = Some (made.Truth value)
resolved c p (g.Not right) = option_map (λ r. made.Not r) (right (inner c)).made
resolved c p (g.And left right) = both (λ l r. made.And l r) (left c).made (right (left c).after).made
resolved c p (g.Or left right) =
    both (λ l r. made.Or l r) (left (inner c)).made (right (with_aliases (inner c) (left (inner c)).after.aliases)).made
resolved c p (g.Is path class alias) =
    atom c p (TestsClass (path_in c false path) class alias) (path_in c false path) (λ t. made.Is t class (test_alias class alias))
resolved c p (g.Alias path name) = atom c p (NamesPath (path_in c false path) name) (path_in c false path) (λ t. made.Alias t name t.ty)
resolved c p (g.NullTest path equal) = atom c p (TestsNull (path_in c false path)) (path_in c false path) (λ t. made.NullTest t equal)
resolved c p (g.Flag path) = atom c p (Stands (path_in c false path)) (path_in c false path) (λ t. made.Flag t)
resolved c p (g.Compare left n right) =
    option_and_then (λ l. option_map (λ r. made.Compare l n r) (summands_in c [] right)) (summands_in c [] left)

-- THE FOLD

abbrev pub guard_at : Place → TypedGuardKind → TypedGuard
guard_at p kind = record { place = p; kind = kind }

abbrev pub guarded_of : Step → Place → GuardScope → Guarded
guarded_of step p c = record {
  after = scope_behind c p step;
  visits = visits_in c p step;
  made = option_map (guard_at p) (resolved c p step);
}

-- a guard
abbrev pub guarded : GuardExpr → GuardScope → Guarded
guarded = fold-GuardExpr (Place → GuardScope → Guarded) (GuardScope → Guarded) guarded_of (λ x. x.kind x.place)
