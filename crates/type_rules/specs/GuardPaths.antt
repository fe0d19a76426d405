-- Paths of guards: what their names stand for, the class that declares each field on the way, and their types.
use Rattle.std.specs.Prelude.{List, [], ◌∷◌, ◌++◌, Bool, false, not, ◌&&◌, Option, Some, None, if◌then◌else◌, codes}
use Rattle.std.specs.List.{find}
use Rattle.std.specs.Option.{option_map, option_or, option_and_then}
use Rattle.jp_ast.specs.declared.token.Place.{Place}
use Rattle.jp_ast.specs.declared.guard.PathText.{PathText}
use Rattle.jp_pred.specs.declared.ty.Ty.{Ty}
use Rattle.jp_pred.specs.declared.ty.Ty.TheVariants as ty
use Rattle.jp_pred.specs.declared.path.Path.{Path}
use Rattle.jp_pred.specs.declared.path.PathStep.{PathStep}
use Rattle.jp_pred.specs.Names.{Word, same}
use Rattle.jp_pred.specs.Paths.{same_path, root_path, extend}
use Rattle.iface_codec.specs.declared.iface.IfaceField.{IfaceField}
use Rattle.jp_meaning.specs.declared.guard.TypedPath.{TypedPath}
use Rattle.type_rules.specs.declared.guard_scope.Alias.{Alias}
use Rattle.type_rules.specs.declared.guard_scope.GuardScope.{GuardScope}
use Rattle.type_rules.specs.declared.guard_scope.Narrowed.{Narrowed}
use Rattle.type_rules.specs.Types.{is_unknown}
use Rattle.type_rules.specs.Lookups.{field_that}
use Rattle.type_rules.specs.Names.{names_of, variable_from}

-- NARROWING

-- the type of a path: the class of the last test of it, or else the declared one
abbrev pub narrowed : List Narrowed → Path → Ty → Ty
narrowed [] path t = t
narrowed (test ∷ tests) path t = narrowed tests path (if same_path test.path path then ty.Class test.class else t)

-- a path at a place, as the tests before it narrow it
abbrev pub path_at : GuardScope → Place → Path → Ty → TypedPath
path_at g place path declared = record { place = place; path = path; declared = declared; ty = narrowed g.tests path declared }

-- ROOTS

-- a step to a field of a class that isn't known
abbrev pub step_named : Word → PathStep
step_named name = record { class = []; field = name }

-- a path that leads nowhere, for an alias of that name of a path with a fault
abbrev pub no_path : Word → Path
no_path name = extend (root_path 0) (step_named name)

-- `this`, as a path begins with it
abbrev pub this_word : Word
this_word = codes "this"

-- the alias of that name
abbrev pub alias_of : GuardScope → Word → Option Alias
alias_of g name = find (λ a. same a.name name) g.aliases

-- what a path begins with: `this`, a parameter, or an alias, which stands for its path
abbrev pub root_of : GuardScope → Place → Word → Option TypedPath
root_of g place name =
    if same name this_word then Some (path_at g place (root_path 0) (ty.Class g.class))
    else option_or (option_map (λ p. path_at g place (root_path p.0) p.1) (variable_from 1 name g.params))
    (option_map (λ a. path_at g place a.path a.declared) (alias_of g name))

-- STEPS

-- one field further
abbrev pub further : GuardScope → TypedPath → Word → Word × IfaceField → TypedPath
further g before name f = path_at g before.place (extend before.path (record { class = f.0; field = name })) f.1.ty

-- a field behind a path of a class: an instance field that the guard's class sees
abbrev pub step_in : GuardScope → TypedPath → Word → Ty → Option TypedPath
step_in g before name (ty.Class class) = option_map (further g before name) (field_that false g.heads g.class class name)
step_in g before name _ = None

-- a field behind a path; behind one whose type isn't known nothing is known either
abbrev pub step_of : GuardScope → TypedPath → Word → Option TypedPath
step_of g before name =
    if is_unknown before.ty then Some (path_at g before.place (extend before.path (step_named name)) ty.Void) else step_in g before name before.ty

abbrev pub steps_of : GuardScope → Option TypedPath → List Word → Option TypedPath
steps_of g before [] = before
steps_of g before (name ∷ more) = steps_of g (option_and_then (λ p. step_of g p name) before) more

-- a path with its names resolved, where it has no fault
abbrev pub path_of : GuardScope → PathText → Option TypedPath
path_of g path = steps_of g (root_of g path.place path.root) path.steps

-- the type of a path is known, and the test doesn't hold of it
abbrev pub isnt_path : (Ty → Bool) → Option TypedPath → Bool
isnt_path test None = false
isnt_path test (Some p) = not (is_unknown p.ty) && not (test p.ty)

-- the names that stand in a guard so far
abbrev pub guard_names : GuardScope → List Word
guard_names g = names_of g.params ++ aliased g.aliases where
  aliased : List Alias → List Word
  aliased [] = []
  aliased (a ∷ as') = a.name ∷ aliased as'
