-- The hierarchy that a list of classes gives.
use Rattle.std.specs.Prelude.{List, map, filter, not}
use Rattle.jp_pred.specs.declared.ty.Ty.{Ty}
use Rattle.jp_pred.specs.declared.hier.SeenClass.{SeenClass}
use Rattle.jp_pred.specs.declared.hier.Hier.{Hier}
use Rattle.jp_pred.specs.Names.{Word}
use Rattle.iface_codec.specs.declared.iface.IfaceField.{IfaceField}
use Rattle.iface_codec.specs.declared.iface.Iface.{Iface}

-- the fields of each object, with their types
abbrev pub instance_fields : List IfaceField → List (Word × Ty)
instance_fields fields = map (λ f. (f.name, f.ty)) (filter (λ f. not f.is_static) fields)

-- a class as predicates see it: its name, flags and supertypes, and the fields of each object
abbrev pub seen_class : Iface → SeenClass
seen_class head = record {
  name = head.name;
  is_interface = head.is_interface;
  is_abstract = head.is_abstract;
  is_final = head.is_final;
  superclass = head.superclass;
  interfaces = head.interfaces;
  fields = instance_fields head.fields;
}

-- the hierarchy of these classes
abbrev pub hier_of : List Iface → Hier
hier_of heads = record { classes = map seen_class heads }
