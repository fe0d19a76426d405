-- Names that a walk upwards meets.
use Rattle.std.specs.Prelude.{◌≡◌, List, length, ◌||◌}
use Rattle.jp_pred.specs.Names.{Word}
use Rattle.jp_pred.specs.Hierarchy.{reaches}
use Rattle.jp_meaning.specs.declared.unit.TypedClass.{TypedClass}
use Rattle.jp_meaning.specs.Classes.{hier_in}
use Rattle.type_rules.specs.Types.{is_among}

-- the new names are the old ones and those that were added
abbrev pub IsJoined : List Word → List Word → List Word → Type 0
IsJoined new old added = (name : Word) → is_among name new ≡ (is_among name old || is_among name added)

-- where the names that were met are those of a list and the fresh ones, they still are
abbrev pub StaysJoined : (met fresh newly_met newly_fresh : List Word) → Type 0
StaysJoined met fresh newly_met newly_fresh = (base : List Word) → IsJoined met base fresh → IsJoined newly_met base newly_fresh

-- these are the names that are reached from a name upwards
abbrev pub HoldsAbove : List TypedClass → Word → List Word → Type 0
HoldsAbove classes name names = (upper : Word) → is_among upper names ≡ reaches (length classes) (hier_in classes) name upper
