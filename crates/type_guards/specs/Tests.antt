-- Tests that narrow a path.
use Rattle.std.specs.Prelude.{List, [], ◌∷◌, Option, Some, None, if◌then◌else◌}
use Rattle.std.specs.Option.{option_or}
use Rattle.jp_pred.specs.declared.path.Path.{Path}
use Rattle.jp_pred.specs.Names.{Word}
use Rattle.jp_pred.specs.Paths.{same_path}
use Rattle.type_rules.specs.declared.guard_scope.Narrowed.{Narrowed}

-- the class of the last test of the path
abbrev pub last_class : List Narrowed → Path → Option Word
last_class [] path = None
last_class (test ∷ tests) path = option_or (last_class tests path) (if same_path test.path path then Some test.class else None)
