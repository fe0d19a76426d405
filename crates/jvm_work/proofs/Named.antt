-- An effect by the field or class that its constant names.
use Rattle.std.proofs.Common.{◌≡◌, ℕ, true, false, List, Option, None, Some, refl}
use Rattle.std.specs.Prelude.{option_and_then}
use Rattle.std.specs.Option.{option_map}
use Rattle.class_form.specs.declared.class_file.ClassFile.{ClassFile}
use Rattle.class_form.specs.Constants.{class_name_at}
use Rattle.jp_store.specs.declared.value.Value.{Value}
use Rattle.jp_store.specs.declared.heap.Thing.{Thing}
use Rattle.jp_store.specs.Classes.{class_at, field_of}
use Rattle.jp_store.specs.Outcome.{on_some}
use Rattle.jp_store.specs.Store.{Store}
use Rattle.jp_store.specs.Work.{Op, Worked, GetField as FieldRead, PutField as FieldWrite, GetStatic as StaticRead, PutStatic as StaticWrite, MakeObject as ObjectMade, MakeArray, InstanceOf as InstanceTest, Cast, ClassElements, work}
use Rattle.jvm_table.specs.Constants.{field_in, member_named}
use Rattle.jvm_load.specs.FileClasses.{classes_of}
use Rattle.jvm_link.specs.Links.{class_named, field_named}
use Rattle.jvm_step.specs.declared.act.Effect.TheVariants.{GetField, PutField, GetStatic, PutStatic, MakeObject, MakeReferences, CheckCast, InstanceOf}
use Rattle.jvm_work.specs.Effects.{effected, store, field_read, field_written, static_read, static_written, object_made, references_made, instance_tested, casted}

named_then : {K F : Type 0} (s : Store) (o : Option K) (op : K → Op) (look : K → Option F) (go : Option F → Worked) → go None ≡ on_some {A = Op} None (λ x. work x s) → ((k : K) → go (look k) ≡ work (op k) s) → go (option_and_then look o) ≡ on_some (option_map op o) (λ x. work x s)
named_then s None op look go n h = n
named_then s (Some k) op look go n h = h k

module _ (files : List ClassFile) (file : ClassFile) (index : ℕ) (heap : List Thing) (statics : List (List Value)) where
  abbrev now : Store
  now = store (classes_of files) heap statics

  pub reads_field : (r : Value) → field_read (field_named false files file index) r now ≡ effected file (GetField r index) now
  reads_field r = named_then now (member_named field_in file index) (FieldRead r) (field_of false (classes_of files)) (λ o. field_read o r now) refl (λ k. refl)

  pub writes_field : (r v : Value) → field_written (field_named false files file index) r v now ≡ effected file (PutField r index v) now
  writes_field r v = named_then now (member_named field_in file index) (λ key. FieldWrite r key v) (field_of false (classes_of files)) (λ o. field_written o r v now) refl (λ k. refl)

  pub reads_static : static_read (field_named true files file index) now ≡ effected file (GetStatic index) now
  reads_static = named_then now (member_named field_in file index) StaticRead (field_of true (classes_of files)) (λ o. static_read o now) refl (λ k. refl)

  pub writes_static : (v : Value) → static_written (field_named true files file index) v now ≡ effected file (PutStatic index v) now
  writes_static v = named_then now (member_named field_in file index) (λ key. StaticWrite key v) (field_of true (classes_of files)) (λ o. static_written o v now) refl (λ k. refl)

  pub makes_object : object_made (class_named files file index) now ≡ effected file (MakeObject index) now
  makes_object = named_then now (class_name_at file index) ObjectMade (class_at (classes_of files)) (λ o. object_made o now) refl (λ k. refl)

  pub makes_references : (size : Value) → references_made (class_named files file index) size now ≡ effected file (MakeReferences index size) now
  makes_references size = named_then now (class_name_at file index) (λ name. MakeArray (ClassElements name) size) (class_at (classes_of files)) (λ o. references_made o size now) refl (λ k. refl)

  pub tests_instance : (r : Value) → instance_tested (class_named files file index) r now ≡ effected file (InstanceOf index r) now
  tests_instance r = named_then now (class_name_at file index) (InstanceTest r) (class_at (classes_of files)) (λ o. instance_tested o r now) refl (λ k. refl)

  pub casts : (r : Value) → casted (class_named files file index) r now ≡ effected file (CheckCast index r) now
  casts r = named_then now (class_name_at file index) (Cast r) (class_at (classes_of files)) (λ o. casted o r now) refl (λ k. refl)
