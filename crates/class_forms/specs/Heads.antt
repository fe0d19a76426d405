-- Heads of classes whose names are short.
use Rattle.std.specs.Prelude.{Bool, ◌&&◌}
use Rattle.std.specs.List.{list_all}
use Rattle.iface_codec.specs.declared.iface.Iface.{Iface}
use Rattle.iface_codec.specs.declared.iface.IfaceField.{IfaceField}
use Rattle.iface_codec.specs.declared.iface.IfaceMethod.{IfaceMethod}
use Rattle.code_texts.specs.Short.{is_short, names_short, has_short_params, or_so}

-- a field with a short name, and a type with one
abbrev pub is_short_field : IfaceField → Bool
is_short_field field = is_short field.name && names_short field.ty

-- a method with a short name, and a result and few parameters of types with short names
abbrev pub is_short_method : IfaceMethod → Bool
is_short_method method = is_short method.name && (has_short_params method.params && names_short method.result)

-- the class, its superclass, if it has one, and its interfaces have short names
abbrev pub names_short_supers : Iface → Bool
names_short_supers head = is_short head.name && (or_so is_short head.superclass && list_all is_short head.interfaces)

-- and so have its fields, its methods and its constructors' parameters
abbrev pub has_short_head : Iface → Bool
has_short_head head =
    names_short_supers head
    && (list_all is_short_field head.fields && (list_all is_short_method head.methods && list_all has_short_params head.constructors))
