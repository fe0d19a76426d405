-- Members of one class, with its name.
use Rattle.std.specs.Prelude.{ℕ, Option, Some}
use Rattle.std.specs.List.{find}
use Rattle.std.specs.Option.{option_map, option_and_then}
use Rattle.std.specs.Borrow.{Bor}
use Rattle.jp_pred.specs.declared.ty.Ty.{Ty}
use Rattle.jp_pred.specs.Names.{Word}
use Rattle.iface_codec.specs.declared.iface.Iface.{Iface}
use Rattle.iface_codec.specs.declared.iface.IfaceField.{IfaceField}
use Rattle.iface_codec.specs.declared.iface.IfaceMethod.{IfaceMethod}
use Rattle.type_rules.specs.declared.seen.Seen.{Seen}
use Rattle.type_rules.specs.declared.seen.Seen.TheVariants as seen
use Rattle.type_rules.specs.Assigning.{typed}
use Rattle.type_rules.specs.Names.{class_of_value}
use Rattle.type_rules.specs.Lookups.{field_named, is_called}

-- the first field of that name
abbrev pub own_field : Word → Iface → Option (Word × IfaceField)
own_field name h = option_map (λ f. (h.name, f)) (field_named name h.fields)

-- the first method of that name and count that code of the class `own` sees
abbrev pub own_method : Word → Word → ℕ → Iface → Option (Word × IfaceMethod)
own_method own name count h = option_map (λ m. (h.name, m)) (find (is_called own name count h.name) h.methods)

-- a member that is referred to, with the name of its class
abbrev pub field_at : Option (Bor Word × Bor IfaceField) → Option (Word × IfaceField)
field_at found = option_map (λ f. (f.0.now, f.1.now)) found

abbrev pub method_at : Option (Bor Word × Bor IfaceMethod) → Option (Word × IfaceMethod)
method_at found = option_map (λ m. (m.0.now, m.1.now)) found

-- a variable's slot and type
abbrev pub slot_at : Option (ℕ × Bor Ty) → Option (ℕ × Ty)
slot_at found = option_map (λ v. (v.0, v.1.now)) found

-- the class in which a method is looked for that is called behind a dot
abbrev pub behind_dot : Seen → Option Word
behind_dot (seen.Class name) = Some name
behind_dot part = option_and_then class_of_value (typed part)
