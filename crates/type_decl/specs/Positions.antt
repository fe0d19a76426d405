-- The positions of members in the lists of a head.
use Rattle.std.specs.Prelude.{◌+◌, ◌<◌, List, length, if◌then◌else◌}
use Rattle.std.specs.List.{filter_map}
use Rattle.std.specs.Option.{is_some}
use Rattle.jp_ast.specs.declared.decl.Member.{Member}
use Rattle.jp_meaning.specs.declared.unit.TypedPart.{TypedPart}
use Rattle.jp_meaning.specs.declared.unit.TypedPart.TheVariants as typed
use Rattle.type_rules.specs.Heads.{as_field, as_constructor, as_method}
use Rattle.type_decl.specs.declared.places.Places.{Places}

-- how many of these members are in each list
abbrev pub places_of : List Member → Places
places_of ms = record {
  fields = length (filter_map as_field ms);
  constructors = length (filter_map as_constructor ms);
  methods = length (filter_map as_method ms);
}

-- what a member behind so many is, with its position
abbrev pub place_by : Places → Member → TypedPart
place_by p m =
    if is_some (as_field m) then typed.Field p.fields
    else if is_some (as_constructor m) then typed.Constructor p.constructors else typed.Method p.methods

-- one member more
abbrev pub counted : Places → Member → Places
counted p m =
    if is_some (as_field m) then record p { fields = p.fields + 1 }
    else if is_some (as_constructor m) then record p { constructors = p.constructors + 1 } else record p { methods = p.methods + 1 }

-- there is room for one more in each list
pub record AreFew (p : Places) : Type 0 where
  pub fields : p.fields < 65535
  pub constructors : p.constructors < 65535
  pub methods : p.methods < 65535
