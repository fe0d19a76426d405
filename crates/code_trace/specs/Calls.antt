-- How code calls what the source calls.
use Rattle.std.specs.Prelude.{ℕ, List}
use Rattle.jp_store.specs.Classes.{Key}
use Rattle.jp_does.specs.OpenTrace.{Event, Called, Printed, Showed, WasRead}
use Rattle.jp_meaning.specs.Does as source
use Rattle.jvm_table.specs.Act.{Target, StaticMethod, VirtualMethod, Constructor, MethodAbove, Call}

-- a method, as a constant names it
abbrev pub key_of_method : source.Method → Key
key_of_method m = record { class = m.class; name = m.name; descriptor = m.descriptor }

-- A static method and a constructor are called by their names. A family is found from the receiver's class upwards, by
-- name and descriptor, and one of the superclass from above the class whose code it is
abbrev pub target_in : List ℕ → source.Target → Target
target_in current (source.StaticMethod m) = StaticMethod (key_of_method m)
target_in current (source.Constructor m) = Constructor (key_of_method m)
target_in current (source.OfClass m) = VirtualMethod m.name m.descriptor
target_in current (source.OfInterface m) = VirtualMethod m.name m.descriptor
target_in current (source.OfSuperclass m) = MethodAbove current m.name m.descriptor

abbrev pub call_in : List ℕ → source.Call → Call
call_in current c = record { target = target_in current c.target; args = c.args }

abbrev pub event_in : List ℕ → Event source.Call → Event Call
event_in current (Called c s i) = Called (call_in current c) s i
event_in current (Printed n) = Printed n
event_in current (Showed text) = Showed text
event_in current (WasRead n) = WasRead n
