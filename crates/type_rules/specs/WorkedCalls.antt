-- Worked examples of the rules of calls: a unit that breaks a rule, with the place and the rule of its first fault, and
-- units like it that break none.
use Rattle.std.specs.Prelude.{List, [], ◌∷◌, codes, Some, None, true, false}
use Rattle.jp_pred.specs.declared.ty.Ty.TheVariants as ty
use Rattle.type_rules.specs.Samples.{Sample, class, subclass, interface, piece, param}
use Rattle.type_rules.specs.Samples.{number, truth, null, text, name, binary, call, call_on, call_super, make, end, then}
use Rattle.type_rules.specs.Samples.{local, return, alone, done, go}
use Rattle.type_rules.specs.Samples.{a_static, an_abstract, a_body, a_constructor}
use Rattle.type_rules.specs.Worked.{Breaks, Passes}

-- `class A { int f() { return g(); } }`
abbrev pub no_such_method : List Sample
no_such_method = (class 7 (codes "A") ((piece 15 (codes "f") [] (a_body ty.Int None (go (return 21 (Some (call 28 (codes "g") end))) done))) ∷ [])) ∷ []

-- `class A { int f(int x) { return f(); } }`
abbrev pub another_count : List Sample
another_count = (class 7 (codes "A") ((piece 15 (codes "f") ((param 21 ty.Int (codes "x")) ∷ []) (a_body ty.Int None (go (return 26 (Some (call 33 (codes "f") end))) done))) ∷ [])) ∷ []

-- `class A { int f(int x) { return f(true); } }`
abbrev pub another_type : List Sample
another_type = (class 7 (codes "A") ((piece 15 (codes "f") ((param 21 ty.Int (codes "x")) ∷ []) (a_body ty.Int None (go (return 26 (Some (call 33 (codes "f") (then (truth 35 true) end)))) done))) ∷ [])) ∷ []

-- `class A { int f() { return A.f(); } }`
abbrev pub a_static_call_of_a_method : List Sample
a_static_call_of_a_method = (class 7 (codes "A") ((piece 15 (codes "f") [] (a_body ty.Int None (go (return 21 (Some (call_on 28 (name 28 (codes "A")) (codes "f") end))) done))) ∷ [])) ∷ []

-- `class A { static int g() { return 1; } int f(A a) { return a.g(); } }`
abbrev pub a_call_of_a_static_method_on_an_object : List Sample
a_call_of_a_static_method_on_an_object = (class 7 (codes "A") ((piece 22 (codes "g") [] (a_static ty.Int (go (return 28 (Some (number 35 1 false))) done))) ∷ (piece 44 (codes "f") ((param 48 (ty.Class (codes "A")) (codes "a")) ∷ []) (a_body ty.Int None (go (return 53 (Some (call_on 60 (name 60 (codes "a")) (codes "g") end))) done))) ∷ [])) ∷ []

-- `class A { private static int g() { return 1; } } class B { int f() { return A.g(); } }`
abbrev pub a_private_method_of_another_class : List Sample
a_private_method_of_another_class = (class 7 (codes "A") ((record { place = 30; is_private = true; name = (codes "g"); params = []; body = (a_static ty.Int (go (return 36 (Some (number 43 1 false))) done)) }) ∷ [])) ∷ (class 56 (codes "B") ((piece 64 (codes "f") [] (a_body ty.Int None (go (return 70 (Some (call_on 77 (name 77 (codes "A")) (codes "g") end))) done))) ∷ [])) ∷ []

-- `class A { void g() { } void f() { int x = g(); } }`
abbrev pub a_call_without_result : List Sample
a_call_without_result = (class 7 (codes "A") ((piece 16 (codes "g") [] (a_body ty.Void None done)) ∷ (piece 29 (codes "f") [] (a_body ty.Void None (go (local 35 ty.Int (codes "x") (Some (call 43 (codes "g") end))) done))) ∷ [])) ∷ []

-- `class A { void f() { Object x = "a"; } }`
abbrev pub a_text_as_a_value : List Sample
a_text_as_a_value = (class 7 (codes "A") ((piece 16 (codes "f") [] (a_body ty.Void None (go (local 22 (ty.Class (codes "Object")) (codes "x") (Some (text 33 (codes "a")))) done))) ∷ [])) ∷ []

-- `class A { void f() { Io.text(1); } }`
abbrev pub a_number_as_a_text : List Sample
a_number_as_a_text = (class 7 (codes "A") ((piece 16 (codes "f") [] (a_body ty.Void None (go (alone 22 (call_on 22 (name 22 (codes "Io")) (codes "text") (then (number 30 1 false) end))) done))) ∷ [])) ∷ []

-- `interface I { int h(int x); } abstract class A implements I { static int g(A a) { return a.h(1) + A.g(null); } void f() { Io.text("a"); Io.print(h(Io.read())); f(); new Object(); } }`
abbrev pub calls : List Sample
calls = (interface 11 (codes "I") ((piece 19 (codes "h") ((param 25 ty.Int (codes "x")) ∷ []) (an_abstract ty.Int)) ∷ [])) ∷ (record (class 46 (codes "A") ((piece 74 (codes "g") ((param 78 (ty.Class (codes "A")) (codes "a")) ∷ []) (a_static ty.Int (go (return 83 (Some (binary 90 16 (call_on 90 (name 90 (codes "a")) (codes "h") (then (number 94 1 false) end)) (call_on 99 (name 99 (codes "A")) (codes "g") (then (null 103) end))))) done))) ∷ (piece 117 (codes "f") [] (a_body ty.Void None (go (alone 123 (call_on 123 (name 123 (codes "Io")) (codes "text") (then (text 131 (codes "a")) end))) (go (alone 137 (call_on 137 (name 137 (codes "Io")) (codes "print") (then (call 146 (codes "h") (then (call_on 148 (name 148 (codes "Io")) (codes "read") end) end)) end))) (go (alone 161 (call 161 (codes "f") end)) (go (alone 166 (make 166 (codes "Object") end)) done)))))) ∷ [])) { is_abstract = true; interfaces = ((codes "I") ∷ []) }) ∷ []

-- `abstract class A { } class B { A f() { return new A(); } }`
abbrev pub a_new_abstract_object : List Sample
a_new_abstract_object = (record (class 16 (codes "A") []) { is_abstract = true }) ∷ (class 28 (codes "B") ((piece 34 (codes "f") [] (a_body (ty.Class (codes "A")) None (go (return 40 (Some (make 47 (codes "A") end))) done))) ∷ [])) ∷ []

-- `class A { A f() { return new A(1); } }`
abbrev pub a_new_object_of_another_count : List Sample
a_new_object_of_another_count = (class 7 (codes "A") ((piece 13 (codes "f") [] (a_body (ty.Class (codes "A")) None (go (return 19 (Some (make 26 (codes "A") (then (number 32 1 false) end)))) done))) ∷ [])) ∷ []

-- `class A { A(int x) { } A f() { return new A(true); } }`
abbrev pub a_new_object_of_another_type : List Sample
a_new_object_of_another_type = (class 7 (codes "A") ((piece 11 (codes "A") ((param 17 ty.Int (codes "x")) ∷ []) (a_constructor None done)) ∷ (piece 26 (codes "f") [] (a_body (ty.Class (codes "A")) None (go (return 32 (Some (make 39 (codes "A") (then (truth 45 true) end)))) done))) ∷ [])) ∷ []

-- `class A { A(A x) { } Object f() { new A(null); return new A(new A(null)); } }`
abbrev pub new_objects : List Sample
new_objects = (class 7 (codes "A") ((piece 11 (codes "A") ((param 15 (ty.Class (codes "A")) (codes "x")) ∷ []) (a_constructor None done)) ∷ (piece 29 (codes "f") [] (a_body (ty.Class (codes "Object")) None (go (alone 35 (make 35 (codes "A") (then (null 41) end))) (go (return 48 (Some (make 55 (codes "A") (then (make 61 (codes "A") (then (null 67) end)) end)))) done)))) ∷ [])) ∷ []

-- `class A { int f() { return super.f(); } }`
abbrev pub super_of_object : List Sample
super_of_object = (class 7 (codes "A") ((piece 15 (codes "f") [] (a_body ty.Int None (go (return 21 (Some (call_super 28 (codes "f") end))) done))) ∷ [])) ∷ []

-- `abstract class A { int f() { return 1; } } class B extends A { int f() { return super.f(); } }`
abbrev pub super_of_an_abstract_class : List Sample
super_of_an_abstract_class = (record (class 16 (codes "A") ((piece 24 (codes "f") [] (a_body ty.Int None (go (return 30 (Some (number 37 1 false))) done))) ∷ [])) { is_abstract = true }) ∷ (subclass 50 (codes "B") (codes "A") ((piece 68 (codes "f") [] (a_body ty.Int None (go (return 74 (Some (call_super 81 (codes "f") end))) done))) ∷ [])) ∷ []

-- `class A { int f() { return 1; } } class B extends A { } class C extends B { int f() { return super.f(); } }`
abbrev pub super_calls : List Sample
super_calls = (class 7 (codes "A") ((piece 15 (codes "f") [] (a_body ty.Int None (go (return 21 (Some (number 28 1 false))) done))) ∷ [])) ∷ (subclass 41 (codes "B") (codes "A") []) ∷ (subclass 63 (codes "C") (codes "B") ((piece 81 (codes "f") [] (a_body ty.Int None (go (return 87 (Some (call_super 94 (codes "f") end))) done))) ∷ [])) ∷ []

-- `class A { int f() { return 1; } } class B extends A { int g(B b) { return b.f() + f(); } }`
abbrev pub a_method_of_the_superclass : List Sample
a_method_of_the_superclass = (class 7 (codes "A") ((piece 15 (codes "f") [] (a_body ty.Int None (go (return 21 (Some (number 28 1 false))) done))) ∷ [])) ∷ (subclass 41 (codes "B") (codes "A") ((piece 59 (codes "g") ((param 63 (ty.Class (codes "B")) (codes "b")) ∷ []) (a_body ty.Int None (go (return 68 (Some (binary 75 16 (call_on 75 (name 75 (codes "b")) (codes "f") end) (call 83 (codes "f") end)))) done))) ∷ [])) ∷ []

-- `class A { int f() { return null.f(); } }`
abbrev pub a_call_on_null : List Sample
a_call_on_null = (class 7 (codes "A") ((piece 15 (codes "f") [] (a_body ty.Int None (go (return 21 (Some (call_on 28 (null 28) (codes "f") end))) done))) ∷ [])) ∷ []

-- what they come to
pub record CallsHold : Type 0 where
  pub no_such_method_breaks_32 : Breaks no_such_method 28 32
  pub another_count_breaks_32 : Breaks another_count 33 32
  pub another_type_breaks_32 : Breaks another_type 33 32
  pub a_static_call_of_a_method_breaks_32 : Breaks a_static_call_of_a_method 28 32
  pub a_call_of_a_static_method_on_an_object_breaks_32 : Breaks a_call_of_a_static_method_on_an_object 60 32
  pub a_private_method_of_another_class_breaks_32 : Breaks a_private_method_of_another_class 77 32
  pub a_call_without_result_breaks_32 : Breaks a_call_without_result 43 32
  pub a_text_as_a_value_breaks_32 : Breaks a_text_as_a_value 33 32
  pub a_number_as_a_text_breaks_32 : Breaks a_number_as_a_text 22 32
  pub calls_passes : Passes calls
  pub a_new_abstract_object_breaks_33 : Breaks a_new_abstract_object 47 33
  pub a_new_object_of_another_count_breaks_33 : Breaks a_new_object_of_another_count 26 33
  pub a_new_object_of_another_type_breaks_33 : Breaks a_new_object_of_another_type 39 33
  pub new_objects_passes : Passes new_objects
  pub super_of_object_breaks_34 : Breaks super_of_object 28 34
  pub super_of_an_abstract_class_breaks_34 : Breaks super_of_an_abstract_class 81 34
  pub super_calls_passes : Passes super_calls
  pub a_method_of_the_superclass_passes : Passes a_method_of_the_superclass
  pub a_call_on_null_breaks_32 : Breaks a_call_on_null 28 32
