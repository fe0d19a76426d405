-- The code's answers as the table's.
use Rattle.std.specs.Prelude.{true, false, Option, Some, None}
use Rattle.class_form.specs.declared.class_file.ClassFile.{ClassFile}
use Rattle.class_form.specs.Constants.{class_name_at}
use Rattle.jp_store.specs.Work.{GetField as FieldRead, PutField as FieldWrite, GetStatic as StaticRead, PutStatic as StaticWrite, MakeObject as ObjectMade, MakeArray, GetElem, PutElem, Length, InstanceOf as InstanceTest, Cast, IntElements, BooleanElements, ClassElements}
use Rattle.jvm_table.specs.declared.frame.Frame.{Frame}
use Rattle.jvm_table.specs.Constants.{field_in, method_in, interface_method_in, member_named, literal_at}
use Rattle.jvm_table.specs.Act.{Act, Moves, ShowsInt, ShowsText, Asks, Effects, Leaves, Fails, NoRow, on_found, invoked, calls, StaticMethod, calls_virtual, calls_special, calls_interface}
use Rattle.jvm_step.specs.declared.act.Effect.{Effect}
use Rattle.jvm_step.specs.declared.act.Effect.TheVariants.{GetField, PutField, GetStatic, PutStatic, MakeObject, MakeNumbers, MakeTruths, MakeReferences, GetElement, PutElement, ArrayLength, CheckCast, InstanceOf}
use Rattle.jvm_step.specs.declared.act.Left.{Left}
use Rattle.jvm_step.specs.declared.act.Left.TheVariants.{Next, PrintInt, PrintText, ReadByte, Do, CallVirtual, CallInterface, CallSpecial, CallStatic, Leave, Trap}

-- what is done to the store
abbrev pub done : ClassFile → Effect → Frame → Act
done file (GetField r index) f = on_found (member_named field_in file index) (λ key. Effects (FieldRead r key) true f)
done file (PutField r index v) f = on_found (member_named field_in file index) (λ key. Effects (FieldWrite r key v) false f)
done file (GetStatic index) f = on_found (member_named field_in file index) (λ key. Effects (StaticRead key) true f)
done file (PutStatic index v) f = on_found (member_named field_in file index) (λ key. Effects (StaticWrite key v) false f)
done file (MakeObject index) f = on_found (class_name_at file index) (λ name. Effects (ObjectMade name) true f)
done file (MakeNumbers n) f = Effects (MakeArray IntElements n) true f
done file (MakeTruths n) f = Effects (MakeArray BooleanElements n) true f
done file (MakeReferences index n) f = on_found (class_name_at file index) (λ name. Effects (MakeArray (ClassElements name) n) true f)
done file (GetElement kind r index) f = Effects (GetElem kind r index) true f
done file (PutElement kind r index v) f = Effects (PutElem kind r index v) false f
done file (ArrayLength r) f = Effects (Length r) true f
done file (CheckCast index r) f = on_found (class_name_at file index) (λ name. Effects (Cast r name) true f)
done file (InstanceOf index r) f = on_found (class_name_at file index) (λ name. Effects (InstanceTest r name) true f)

-- what is left to do, with the frame that the code left
abbrev pub left_to_do : ClassFile → Left → Frame → Act
left_to_do file Next f = Moves f
left_to_do file (PrintInt n) f = ShowsInt n f
left_to_do file (PrintText index) f = on_found (literal_at file index) (λ bytes. ShowsText bytes f)
left_to_do file ReadByte f = Asks f
left_to_do file (Do effect) f = done file effect f
left_to_do file (CallVirtual index) f = on_found (member_named method_in file index) (λ key. calls_virtual key f)
left_to_do file (CallInterface index count) f = on_found (member_named interface_method_in file index) (λ key. calls_interface count key f)
left_to_do file (CallSpecial index) f = on_found (member_named method_in file index) (λ key. calls_special file key f)
left_to_do file (CallStatic index) f = on_found (member_named method_in file index) (λ key. invoked key.descriptor f (calls (StaticMethod key)))
left_to_do file (Leave v) f = Leaves v
left_to_do file (Trap kind) f = Fails kind

-- the same of an answer that may be none: there is no row
abbrev pub as_act : ClassFile → Option Left → Frame → Act
as_act file None f = NoRow
as_act file (Some left) f = left_to_do file left f
