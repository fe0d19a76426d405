-- Methods of the heads that a name leads to.
use Rattle.std.specs.Prelude.{List, []}
use Rattle.std.specs.Option.{option_map_or}
use Rattle.jp_pred.specs.Names.{Word}
use Rattle.iface_codec.specs.declared.iface.Iface.{Iface}
use Rattle.iface_codec.specs.declared.iface.IfaceMethod.{IfaceMethod}
use Rattle.type_rules.specs.Heads.{head_of}

-- those of the first class of that name
abbrev pub methods_named : List Iface → Word → List IfaceMethod
methods_named heads name = option_map_or (λ h. h.methods) (head_of heads name) []
