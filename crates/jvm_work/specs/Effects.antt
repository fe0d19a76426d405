-- What an effect does to a store, and what the code left of one.
use Rattle.std.specs.Prelude.{◌≡◌, ℕ, ℤ, pos, negsuc, List, Option, Some, None, slice_get, slice_set}
use Rattle.std.specs.Option.{option_map}
use Rattle.class_form.specs.declared.class_file.ClassFile.{ClassFile}
use Rattle.class_form.specs.Constants.{class_name_at}
use Rattle.jp_store.specs.declared.value.Value.{Value}
use Rattle.jp_store.specs.declared.value.Value.TheVariants.{Null}
use Rattle.jp_store.specs.declared.value.ClassAt.{ClassAt}
use Rattle.jp_store.specs.declared.value.Element.TheVariants.{References}
use Rattle.jp_store.specs.declared.value.ElementKind.{ElementKind}
use Rattle.jp_store.specs.declared.heap.Thing.{Thing}
use Rattle.jp_store.specs.declared.heap.Thing.TheVariants.{Object, Array}
use Rattle.jp_store.specs.declared.outcome.Outcome.{Outcome}
use Rattle.jp_store.specs.declared.outcome.Outcome.TheVariants.{Fine, Trap, Wrong}
use Rattle.jp_store.specs.Outcome.{then_with, on_some}
use Rattle.jp_store.specs.Arith.{is_kind, on_int}
use Rattle.jp_store.specs.Classes.{Class, Found, first_values}
use Rattle.jp_store.specs.Store.{Store}
use Rattle.jp_store.specs.Work.{Op, Worked, GetField as FieldRead, PutField as FieldWrite, GetStatic as StaticRead, PutStatic as StaticWrite, MakeObject as ObjectMade, MakeArray, GetElem, PutElem, Length, InstanceOf as InstanceTest, Cast, IntElements, BooleanElements, ClassElements, work, answers, on_array, at_index, fits_element, where_true, changed, made, on_thing, field_in as value_of_field, with_field, static_in, with_static, is_concrete, array_made, instance_truth, is_null_or, is_instance, cast_by}
use Rattle.jvm_table.specs.Constants.{field_in, member_named}
use Rattle.jvm_step.specs.declared.act.Effect.{Effect}
use Rattle.jvm_step.specs.declared.act.Effect.TheVariants.{GetField, PutField, GetStatic, PutStatic, MakeObject, MakeNumbers, MakeTruths, MakeReferences, GetElement, PutElement, ArrayLength, CheckCast, InstanceOf}

-- the operation that an effect names by a file's constants
abbrev pub op_of : ClassFile → Effect → Option Op
op_of file (GetField r index) = option_map (FieldRead r) (member_named field_in file index)
op_of file (PutField r index v) = option_map (λ key. FieldWrite r key v) (member_named field_in file index)
op_of file (GetStatic index) = option_map StaticRead (member_named field_in file index)
op_of file (PutStatic index v) = option_map (λ key. StaticWrite key v) (member_named field_in file index)
op_of file (MakeObject index) = option_map ObjectMade (class_name_at file index)
op_of file (MakeNumbers n) = Some (MakeArray IntElements n)
op_of file (MakeTruths n) = Some (MakeArray BooleanElements n)
op_of file (MakeReferences index n) = option_map (λ name. MakeArray (ClassElements name) n) (class_name_at file index)
op_of file (GetElement kind r index) = Some (GetElem kind r index)
op_of file (PutElement kind r index v) = Some (PutElem kind r index v)
op_of file (ArrayLength r) = Some (Length r)
op_of file (CheckCast index r) = option_map (Cast r) (class_name_at file index)
op_of file (InstanceOf index r) = option_map (InstanceTest r) (class_name_at file index)

-- what an effect comes to; where a constant doesn't name what it should, there is no row
abbrev pub effected : ClassFile → Effect → Store → Worked
effected file effect s = on_some (op_of file effect) (λ op. work op s)

-- what an effect comes to, by the field or class that its constant names, if there is one
abbrev pub field_read : Option Found → Value → Store → Worked
field_read found r s = on_some found (λ found. on_thing s.heap r (λ o thing. on_some (value_of_field s.classes found thing) (answers s)))

abbrev pub field_written : Option Found → Value → Value → Store → Worked
field_written found r v s =
    on_some found (λ found. where_true (is_kind found.kind v) (on_thing s.heap r (λ o thing. on_some (with_field s.classes found v thing) (changed s o))))

abbrev pub static_read : Option Found → Store → Worked
static_read found s = on_some found (λ found. on_some (static_in s.statics found) (answers s))

abbrev pub static_written : Option Found → Value → Store → Worked
static_written found v s =
    on_some found (λ found. where_true (is_kind found.kind v) (on_some (with_static s.statics found v) (λ statics. Fine (Null, record s { statics = statics }))))

abbrev pub object_made : Option ClassAt → Store → Worked
object_made class s = on_some class (λ class. where_true (is_concrete s.classes class) (made s (Object class (first_values s.classes class))))

abbrev pub references_made : Option ClassAt → Value → Store → Worked
references_made class size s = on_some (option_map References class) (λ element. on_int (array_made s element) size)

abbrev pub instance_tested : Option ClassAt → Value → Store → Worked
instance_tested class r s = on_some class (λ up. then_with (instance_truth s up r) (answers s))

abbrev pub casted : Option ClassAt → Value → Store → Worked
casted class r s = on_some class (λ up. then_with (is_null_or (is_instance s.classes up) s.heap r) (cast_by s r))

-- a store of these parts
abbrev pub store : List Class → List Thing → List (List Value) → Store
store classes heap statics = record { classes = classes; heap = heap; statics = statics }

-- an answer of the code, with the store that it left
abbrev pub left_with : Outcome Value → Store → Worked
left_with outcome s = then_with outcome (answers s)

-- what is the same unless an operation comes to a value
abbrev pub KeptUnlessFine : {A : Type 0} → Outcome Value → A → A → Type 0
KeptUnlessFine (Fine v) old new = Unit {0}
KeptUnlessFine (Trap kind) old new = new ≡ old
KeptUnlessFine Wrong old new = new ≡ old

-- what storing a value in an element of a thing comes to
abbrev pub stored_in : Store → ElementKind → ℤ → Value → ℕ → Thing → Worked
stored_in s kind index v o thing =
    on_array kind thing (λ element values. at_index values index (λ n old. then_with (fits_element s element v) (λ fits.
    where_true fits (changed s o (Array element (slice_set values n v))))))

-- how many an int counts, if it isn't negative
abbrev pub count_of : ℤ → Option ℕ
count_of (pos n) = Some n
count_of (negsuc n) = None

-- the element at an index, with the index
abbrev pub element_at : List Value → ℤ → Option (ℕ × Value)
element_at values (pos i) = option_map (λ v. (i, v)) (slice_get values i)
element_at values (negsuc i) = None

-- whether an effect makes an object or array
abbrev pub Allocates : Effect → Type 0
Allocates (MakeObject index) = Unit {0}
Allocates (MakeNumbers n) = Unit {0}
Allocates (MakeTruths n) = Unit {0}
Allocates (MakeReferences index n) = Unit {0}
Allocates (GetField r index) = ⊥
Allocates (PutField r index v) = ⊥
Allocates (GetStatic index) = ⊥
Allocates (PutStatic index v) = ⊥
Allocates (GetElement kind r index) = ⊥
Allocates (PutElement kind r index v) = ⊥
Allocates (ArrayLength r) = ⊥
Allocates (CheckCast index r) = ⊥
Allocates (InstanceOf index r) = ⊥
