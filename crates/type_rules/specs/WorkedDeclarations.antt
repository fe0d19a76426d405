-- Worked examples of the rules of declarations and members: a unit that breaks a rule, with the place and the rule of its first fault, and
-- units like it that break none.
use Rattle.std.specs.Prelude.{List, [], ◌∷◌, codes, Some, None, true, false}
use Rattle.jp_pred.specs.declared.ty.Ty.TheVariants as ty
use Rattle.type_rules.specs.Samples.{Sample, class, subclass, interface, piece, param}
use Rattle.type_rules.specs.Samples.{number, truth, null, this, name, binary, field, call, call_on, make, end, then}
use Rattle.type_rules.specs.Samples.{local, return, done, go}
use Rattle.type_rules.specs.Samples.{a_field, a_static, an_abstract, a_body, a_constructor}
use Rattle.type_rules.specs.Worked.{Breaks, Passes}

-- `class B extends A { int f() { return 1; } } class A { String f() { return null; } }`
abbrev pub a_refused_result_of_the_superclass : List Sample
a_refused_result_of_the_superclass = (subclass 7 (codes "B") (codes "A") ((piece 25 (codes "f") [] (a_body ty.Int None (go (return 31 (Some (number 38 1 false))) done))) ∷ [])) ∷ (class 51 (codes "A") ((piece 62 (codes "f") [] (a_body (ty.Class (codes "String")) None (go (return 68 (Some (null 75))) done))) ∷ [])) ∷ []

-- `class A { } class A { }`
abbrev pub two_of_one_name : List Sample
two_of_one_name = (class 7 (codes "A") []) ∷ (class 19 (codes "A") []) ∷ []

-- `class Io { }`
abbrev pub a_class_named_io : List Sample
a_class_named_io = (class 7 (codes "Io") []) ∷ []

-- `class A { } class B { }`
abbrev pub two_names : List Sample
two_names = (class 7 (codes "A") []) ∷ (class 19 (codes "B") []) ∷ []

-- `class A { String s; }`
abbrev pub a_field_of_strings : List Sample
a_field_of_strings = (class 7 (codes "A") ((piece 18 (codes "s") [] (a_field (ty.Class (codes "String")) false)) ∷ [])) ∷ []

-- `class A { int f(Io x) { return 1; } }`
abbrev pub a_parameter_of_io : List Sample
a_parameter_of_io = (class 7 (codes "A") ((piece 15 (codes "f") ((param 20 (ty.Class (codes "Io")) (codes "x")) ∷ []) (a_body ty.Int None (go (return 25 (Some (number 32 1 false))) done))) ∷ [])) ∷ []

-- `class A { void f() { String[] s; } }`
abbrev pub a_local_of_strings : List Sample
a_local_of_strings = (class 7 (codes "A") ((piece 16 (codes "f") [] (a_body ty.Void None (go (local 22 (ty.ClassArray (codes "String")) (codes "s") None) done))) ∷ [])) ∷ []

-- `class A extends String { }`
abbrev pub below_string : List Sample
below_string = (subclass 7 (codes "A") (codes "String") []) ∷ []

-- `class A { int f() { return s.x + g().y(); } String s; String g() { return null; } }`
abbrev pub used_before_it_is_refused : List Sample
used_before_it_is_refused = (class 7 (codes "A") ((piece 15 (codes "f") [] (a_body ty.Int None (go (return 21 (Some (binary 28 16 (field 28 (name 28 (codes "s")) (codes "x")) (call_on 34 (call 34 (codes "g") end) (codes "y") end)))) done))) ∷ (piece 52 (codes "s") [] (a_field (ty.Class (codes "String")) false)) ∷ (piece 62 (codes "g") [] (a_body (ty.Class (codes "String")) None (go (return 68 (Some (null 75))) done))) ∷ [])) ∷ []

-- `class A { Object s; Object f() { return new Object(); } }`
abbrev pub a_field_of_objects : List Sample
a_field_of_objects = (class 7 (codes "A") ((piece 18 (codes "s") [] (a_field (ty.Class (codes "Object")) false)) ∷ (piece 28 (codes "f") [] (a_body (ty.Class (codes "Object")) None (go (return 34 (Some (make 41 (codes "Object") end))) done))) ∷ [])) ∷ []

-- `final class A { } class B extends A { }`
abbrev pub below_a_final_class : List Sample
below_a_final_class = (record (class 13 (codes "A") []) { is_final = true }) ∷ (subclass 25 (codes "B") (codes "A") []) ∷ []

-- `interface I { } class B extends I { }`
abbrev pub a_class_below_an_interface : List Sample
a_class_below_an_interface = (interface 11 (codes "I") []) ∷ (subclass 23 (codes "B") (codes "I") []) ∷ []

-- `class A { } class B extends A { }`
abbrev pub below_a_class : List Sample
below_a_class = (class 7 (codes "A") []) ∷ (subclass 19 (codes "B") (codes "A") []) ∷ []

-- `class A { } class B implements A { }`
abbrev pub a_class_as_an_interface : List Sample
a_class_as_an_interface = (class 7 (codes "A") []) ∷ (record (class 19 (codes "B") []) { interfaces = ((codes "A") ∷ []) }) ∷ []

-- `interface I { } class B implements I, I { }`
abbrev pub an_interface_twice : List Sample
an_interface_twice = (interface 11 (codes "I") []) ∷ (record (class 23 (codes "B") []) { interfaces = ((codes "I") ∷ (codes "I") ∷ []) }) ∷ []

-- `interface I { } interface J extends I { } class B implements I, J { }`
abbrev pub interfaces : List Sample
interfaces = (interface 11 (codes "I") []) ∷ (record (interface 27 (codes "J") []) { interfaces = ((codes "I") ∷ []) }) ∷ (record (class 49 (codes "B") []) { interfaces = ((codes "I") ∷ (codes "J") ∷ []) }) ∷ []

-- `class A extends B { } class B extends A { }`
abbrev pub below_each_other : List Sample
below_each_other = (subclass 7 (codes "A") (codes "B") []) ∷ (subclass 29 (codes "B") (codes "A") []) ∷ []

-- `interface I { } interface J extends I, K { } interface K extends J { }`
abbrev pub interfaces_below_each_other : List Sample
interfaces_below_each_other = (interface 11 (codes "I") []) ∷ (record (interface 27 (codes "J") []) { interfaces = ((codes "I") ∷ (codes "K") ∷ []) }) ∷ (record (interface 56 (codes "K") []) { interfaces = ((codes "J") ∷ []) }) ∷ []

-- `class A extends B { } class B extends C { } class C { }`
abbrev pub three_generations : List Sample
three_generations = (subclass 7 (codes "A") (codes "B") []) ∷ (subclass 29 (codes "B") (codes "C") []) ∷ (class 51 (codes "C") []) ∷ []

-- `class A { private int x; } class B extends A { static int x; }`
abbrev pub a_field_of_the_superclass_again : List Sample
a_field_of_the_superclass_again = (class 7 (codes "A") ((record { place = 23; is_private = true; name = (codes "x"); params = []; body = (a_field ty.Int false) }) ∷ [])) ∷ (subclass 34 (codes "B") (codes "A") ((piece 59 (codes "x") [] (a_field ty.Int true)) ∷ [])) ∷ []

-- `class A { int x; boolean x; }`
abbrev pub a_field_twice : List Sample
a_field_twice = (class 7 (codes "A") ((piece 15 (codes "x") [] (a_field ty.Int false)) ∷ (piece 26 (codes "x") [] (a_field ty.Boolean false)) ∷ [])) ∷ []

-- `class A { int x; } class B { int x; }`
abbrev pub fields_of_two_classes : List Sample
fields_of_two_classes = (class 7 (codes "A") ((piece 15 (codes "x") [] (a_field ty.Int false)) ∷ [])) ∷ (class 26 (codes "B") ((piece 34 (codes "x") [] (a_field ty.Int false)) ∷ [])) ∷ []

-- `class A { int f(int a) { return a; } void f(int a) { } }`
abbrev pub two_results : List Sample
two_results = (class 7 (codes "A") ((piece 15 (codes "f") ((param 21 ty.Int (codes "a")) ∷ []) (a_body ty.Int None (go (return 26 (Some (name 33 (codes "a")))) done))) ∷ (piece 43 (codes "f") ((param 49 ty.Int (codes "a")) ∷ []) (a_body ty.Void None done)) ∷ [])) ∷ []

-- `class A { int f() { return 1; } } class B extends A { boolean f() { return true; } }`
abbrev pub another_result_than_inherited : List Sample
another_result_than_inherited = (class 7 (codes "A") ((piece 15 (codes "f") [] (a_body ty.Int None (go (return 21 (Some (number 28 1 false))) done))) ∷ [])) ∷ (subclass 41 (codes "B") (codes "A") ((piece 63 (codes "f") [] (a_body ty.Boolean None (go (return 69 (Some (truth 76 true))) done))) ∷ [])) ∷ []

-- `interface I { int f(); } interface J { boolean f(); } abstract class A implements I, J { }`
abbrev pub an_inherited_conflict : List Sample
an_inherited_conflict = (interface 11 (codes "I") ((piece 19 (codes "f") [] (an_abstract ty.Int)) ∷ [])) ∷ (interface 36 (codes "J") ((piece 48 (codes "f") [] (an_abstract ty.Boolean)) ∷ [])) ∷ (record (class 70 (codes "A") []) { is_abstract = true; interfaces = ((codes "I") ∷ (codes "J") ∷ []) }) ∷ []

-- `class A { int f() { return 1; } int f(int a) { return a; } } class B extends A { int f() { return 2; } int f() { return 3; } }`
abbrev pub bodies_and_counts : List Sample
bodies_and_counts = (class 7 (codes "A") ((piece 15 (codes "f") [] (a_body ty.Int None (go (return 21 (Some (number 28 1 false))) done))) ∷ (piece 37 (codes "f") ((param 43 ty.Int (codes "a")) ∷ []) (a_body ty.Int None (go (return 48 (Some (name 55 (codes "a")))) done))) ∷ [])) ∷ (subclass 68 (codes "B") (codes "A") ((piece 86 (codes "f") [] (a_body ty.Int None (go (return 92 (Some (number 99 2 false))) done))) ∷ (piece 108 (codes "f") [] (a_body ty.Int None (go (return 114 (Some (number 121 3 false))) done))) ∷ [])) ∷ []

-- `class A { static int f() { return 1; } int f() { return 2; } }`
abbrev pub static_and_not : List Sample
static_and_not = (class 7 (codes "A") ((piece 22 (codes "f") [] (a_static ty.Int (go (return 28 (Some (number 35 1 false))) done))) ∷ (piece 44 (codes "f") [] (a_body ty.Int None (go (return 50 (Some (number 57 2 false))) done))) ∷ [])) ∷ []

-- `class A { private static int f() { return 1; } } class B extends A { int f() { return 2; } }`
abbrev pub a_private_one_above : List Sample
a_private_one_above = (class 7 (codes "A") ((record { place = 30; is_private = true; name = (codes "f"); params = []; body = (a_static ty.Int (go (return 36 (Some (number 43 1 false))) done)) }) ∷ [])) ∷ (subclass 56 (codes "B") (codes "A") ((piece 74 (codes "f") [] (a_body ty.Int None (go (return 80 (Some (number 87 2 false))) done))) ∷ [])) ∷ []

-- `class A { static int f() { return 1; } static int f(int x) { return x; } }`
abbrev pub static_counts : List Sample
static_counts = (class 7 (codes "A") ((piece 22 (codes "f") [] (a_static ty.Int (go (return 28 (Some (number 35 1 false))) done))) ∷ (piece 51 (codes "f") ((param 57 ty.Int (codes "x")) ∷ []) (a_static ty.Int (go (return 62 (Some (name 69 (codes "x")))) done))) ∷ [])) ∷ []

-- `class A { B() { } }`
abbrev pub a_constructor_of_another_name : List Sample
a_constructor_of_another_name = (class 7 (codes "A") ((piece 11 (codes "B") [] (a_constructor None done)) ∷ [])) ∷ []

-- `class A { A(int x) { } A(boolean y) { } }`
abbrev pub two_constructors_of_one_count : List Sample
two_constructors_of_one_count = (class 7 (codes "A") ((piece 11 (codes "A") ((param 17 ty.Int (codes "x")) ∷ []) (a_constructor None done)) ∷ (piece 24 (codes "A") ((param 34 ty.Boolean (codes "y")) ∷ []) (a_constructor None done)) ∷ [])) ∷ []

-- `class A { A() { } A(int x) { } }`
abbrev pub two_constructors : List Sample
two_constructors = (class 7 (codes "A") ((piece 11 (codes "A") [] (a_constructor None done)) ∷ (piece 19 (codes "A") ((param 25 ty.Int (codes "x")) ∷ []) (a_constructor None done)) ∷ [])) ∷ []

-- `class A { private int f() { return 1; } }`
abbrev pub a_private_method : List Sample
a_private_method = (class 7 (codes "A") ((record { place = 23; is_private = true; name = (codes "f"); params = []; body = (a_body ty.Int None (go (return 29 (Some (number 36 1 false))) done)) }) ∷ [])) ∷ []

-- `class A { private int x; private static int f() { return 1; } int g() { return x + f(); } }`
abbrev pub private_members : List Sample
private_members = (class 7 (codes "A") ((record { place = 23; is_private = true; name = (codes "x"); params = []; body = (a_field ty.Int false) }) ∷ (record { place = 45; is_private = true; name = (codes "f"); params = []; body = (a_static ty.Int (go (return 51 (Some (number 58 1 false))) done)) }) ∷ (piece 67 (codes "g") [] (a_body ty.Int None (go (return 73 (Some (binary 80 16 (name 80 (codes "x")) (call 84 (codes "f") end)))) done))) ∷ [])) ∷ []

-- `class A { abstract int f(); }`
abbrev pub an_abstract_method_of_a_concrete_class : List Sample
an_abstract_method_of_a_concrete_class = (class 7 (codes "A") ((piece 24 (codes "f") [] (an_abstract ty.Int)) ∷ [])) ∷ []

-- `abstract class A { abstract int f(); } interface I { int g(); }`
abbrev pub abstract_methods : List Sample
abstract_methods = (record (class 16 (codes "A") ((piece 33 (codes "f") [] (an_abstract ty.Int)) ∷ [])) { is_abstract = true }) ∷ (interface 50 (codes "I") ((piece 58 (codes "g") [] (an_abstract ty.Int)) ∷ [])) ∷ []

-- `class A { A(int x) { } } class B extends A { }`
abbrev pub no_constructor_without_arguments : List Sample
no_constructor_without_arguments = (class 7 (codes "A") ((piece 11 (codes "A") ((param 17 ty.Int (codes "x")) ∷ []) (a_constructor None done)) ∷ [])) ∷ (subclass 32 (codes "B") (codes "A") []) ∷ []

-- `class A { A(int x) { } } class B extends A { B() { super(true); } }`
abbrev pub an_argument_of_super : List Sample
an_argument_of_super = (class 7 (codes "A") ((piece 11 (codes "A") ((param 17 ty.Int (codes "x")) ∷ []) (a_constructor None done)) ∷ [])) ∷ (subclass 32 (codes "B") (codes "A") ((piece 46 (codes "B") [] (a_constructor (Some (then (truth 58 true) end)) done)) ∷ [])) ∷ []

-- `class A { A(Object x) { } } class B extends A { B() { super(this); } }`
abbrev pub this_for_super : List Sample
this_for_super = (class 7 (codes "A") ((piece 11 (codes "A") ((param 20 (ty.Class (codes "Object")) (codes "x")) ∷ []) (a_constructor None done)) ∷ [])) ∷ (subclass 35 (codes "B") (codes "A") ((piece 49 (codes "B") [] (a_constructor (Some (then (this 61) end)) done)) ∷ [])) ∷ []

-- `interface I { int f(); } interface J { boolean f(); } interface K extends I, J { } abstract class A implements K { }`
abbrev pub a_conflict_above : List Sample
a_conflict_above = (interface 11 (codes "I") ((piece 19 (codes "f") [] (an_abstract ty.Int)) ∷ [])) ∷ (interface 36 (codes "J") ((piece 48 (codes "f") [] (an_abstract ty.Boolean)) ∷ [])) ∷ (record (interface 65 (codes "K") []) { interfaces = ((codes "I") ∷ (codes "J") ∷ []) }) ∷ (record (class 99 (codes "A") []) { is_abstract = true; interfaces = ((codes "K") ∷ []) }) ∷ []

-- `class A extends A { }`
abbrev pub below_itself : List Sample
below_itself = (subclass 7 (codes "A") (codes "A") []) ∷ []

-- what they come to
pub record DeclarationsHold : Type 0 where
  pub a_refused_result_of_the_superclass_breaks_2 : Breaks a_refused_result_of_the_superclass 62 2
  pub two_of_one_name_breaks_1 : Breaks two_of_one_name 19 1
  pub a_class_named_io_breaks_1 : Breaks a_class_named_io 7 1
  pub two_names_passes : Passes two_names
  pub a_field_of_strings_breaks_2 : Breaks a_field_of_strings 18 2
  pub a_parameter_of_io_breaks_2 : Breaks a_parameter_of_io 20 2
  pub a_local_of_strings_breaks_2 : Breaks a_local_of_strings 22 2
  pub below_string_breaks_2 : Breaks below_string 7 2
  pub used_before_it_is_refused_breaks_2 : Breaks used_before_it_is_refused 52 2
  pub a_field_of_objects_passes : Passes a_field_of_objects
  pub below_a_final_class_breaks_3 : Breaks below_a_final_class 25 3
  pub a_class_below_an_interface_breaks_3 : Breaks a_class_below_an_interface 23 3
  pub below_a_class_passes : Passes below_a_class
  pub a_class_as_an_interface_breaks_4 : Breaks a_class_as_an_interface 19 4
  pub an_interface_twice_breaks_4 : Breaks an_interface_twice 23 4
  pub interfaces_passes : Passes interfaces
  pub below_each_other_breaks_5 : Breaks below_each_other 7 5
  pub interfaces_below_each_other_breaks_5 : Breaks interfaces_below_each_other 27 5
  pub three_generations_passes : Passes three_generations
  pub a_field_of_the_superclass_again_breaks_6 : Breaks a_field_of_the_superclass_again 59 6
  pub a_field_twice_breaks_6 : Breaks a_field_twice 26 6
  pub fields_of_two_classes_passes : Passes fields_of_two_classes
  pub two_results_breaks_7 : Breaks two_results 43 7
  pub another_result_than_inherited_breaks_7 : Breaks another_result_than_inherited 63 7
  pub an_inherited_conflict_breaks_7 : Breaks an_inherited_conflict 70 7
  pub bodies_and_counts_passes : Passes bodies_and_counts
  pub static_and_not_breaks_8 : Breaks static_and_not 44 8
  pub a_private_one_above_breaks_8 : Breaks a_private_one_above 74 8
  pub static_counts_passes : Passes static_counts
  pub a_constructor_of_another_name_breaks_9 : Breaks a_constructor_of_another_name 11 9
  pub two_constructors_of_one_count_breaks_9 : Breaks two_constructors_of_one_count 24 9
  pub two_constructors_passes : Passes two_constructors
  pub a_private_method_breaks_10 : Breaks a_private_method 23 10
  pub private_members_passes : Passes private_members
  pub an_abstract_method_of_a_concrete_class_breaks_11 : Breaks an_abstract_method_of_a_concrete_class 24 11
  pub abstract_methods_passes : Passes abstract_methods
  pub no_constructor_without_arguments_breaks_35 : Breaks no_constructor_without_arguments 32 35
  pub an_argument_of_super_breaks_35 : Breaks an_argument_of_super 46 35
  pub this_for_super_passes : Passes this_for_super
  pub a_conflict_above_breaks_7 : Breaks a_conflict_above 65 7
  pub below_itself_breaks_5 : Breaks below_itself 7 5
