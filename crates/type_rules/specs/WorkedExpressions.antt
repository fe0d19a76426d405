-- Worked examples of the rules of expressions: a unit that breaks a rule, with the place and the rule of its first fault, and
-- units like it that break none.
use Rattle.std.specs.Prelude.{List, [], ◌∷◌, codes, Some, None, true, false}
use Rattle.jp_pred.specs.declared.ty.Ty.TheVariants as ty
use Rattle.type_rules.specs.Samples.{Sample, class, subclass, interface, piece, param, path_text, summand}
use Rattle.type_rules.specs.Samples.{number, truth, null, this, name, sign, binary, choice, instance, field, element, make, make_array, end}
use Rattle.type_rules.specs.Samples.{block, when, while, return, assign, done, go}
use Rattle.type_rules.specs.Samples.{compare, a_field, a_body}
use Rattle.type_rules.specs.Worked.{Breaks, Passes}

-- `class A { int f() { return 2147483648; } }`
abbrev pub a_number_that_is_too_large : List Sample
a_number_that_is_too_large = (class 7 (codes "A") ((piece 15 (codes "f") [] (a_body ty.Int None (go (return 21 (Some (number 28 2147483648 false))) done))) ∷ [])) ∷ []

-- `class A { int f() { return -(2147483648 + 1); } }`
abbrev pub a_sum_that_is_negated : List Sample
a_sum_that_is_negated = (class 7 (codes "A") ((piece 15 (codes "f") [] (a_body ty.Int None (go (return 21 (Some (sign 28 17 (binary 30 16 (number 30 2147483648 false) (number 43 1 false))))) done))) ∷ [])) ∷ []

-- `class A { int f(int x) when 2147483648*x <= 1 { return 1; } }`
abbrev pub a_factor_that_is_too_large : List Sample
a_factor_that_is_too_large = (class 7 (codes "A") ((piece 15 (codes "f") ((param 21 ty.Int (codes "x")) ∷ []) (a_body ty.Int (Some (compare 29 ((summand 29 false (Some (2147483648, false)) (Some (path_text 40 (codes "x") []))) ∷ []) 27 ((summand 45 false (Some (1, false)) None) ∷ []))) (go (return 49 (Some (number 56 1 false))) done))) ∷ [])) ∷ []

-- `class A { int f(int x) when x <= -2147483648 { return -(2147483648) + 0x80000000; } }`
abbrev pub the_least_number : List Sample
the_least_number = (class 7 (codes "A") ((piece 15 (codes "f") ((param 21 ty.Int (codes "x")) ∷ []) (a_body ty.Int (Some (compare 29 ((summand 29 false None (Some (path_text 29 (codes "x") []))) ∷ []) 27 ((summand 34 true (Some (2147483648, false)) None) ∷ []))) (go (return 48 (Some (binary 55 16 (sign 55 17 (number 57 2147483648 false)) (number 71 2147483648 true)))) done))) ∷ [])) ∷ []

-- `class A { int f() { return (1) + true; } }`
abbrev pub an_int_and_a_boolean : List Sample
an_int_and_a_boolean = (class 7 (codes "A") ((piece 15 (codes "f") [] (a_body ty.Int None (go (return 21 (Some (binary 28 16 (number 29 1 false) (truth 34 true)))) done))) ∷ [])) ∷ []

-- `class A { int f() { return true + x; } }`
abbrev pub beside_a_fault : List Sample
beside_a_fault = (class 7 (codes "A") ((piece 15 (codes "f") [] (a_body ty.Int None (go (return 21 (Some (binary 28 16 (truth 28 true) (name 35 (codes "x"))))) done))) ∷ [])) ∷ []

-- `class A { int f() { return (x) + true; } }`
abbrev pub behind_a_fault : List Sample
behind_a_fault = (class 7 (codes "A") ((piece 15 (codes "f") [] (a_body ty.Int None (go (return 21 (Some (binary 28 16 (name 29 (codes "x")) (truth 34 true)))) done))) ∷ [])) ∷ []

-- `class A { int f() { return ~true; } }`
abbrev pub the_complement_of_a_boolean : List Sample
the_complement_of_a_boolean = (class 7 (codes "A") ((piece 15 (codes "f") [] (a_body ty.Int None (go (return 21 (Some (sign 28 13 (truth 29 true)))) done))) ∷ [])) ∷ []

-- `class A { boolean f(int x) { return (x << 3) - ~x / 2 >= x; } }`
abbrev pub shifts : List Sample
shifts = (class 7 (codes "A") ((piece 19 (codes "f") ((param 25 ty.Int (codes "x")) ∷ []) (a_body ty.Boolean None (go (return 30 (Some (binary 37 28 (binary 37 17 (binary 38 31 (name 38 (codes "x")) (number 43 3 false)) (binary 48 19 (sign 48 13 (name 49 (codes "x"))) (number 53 2 false))) (name 58 (codes "x"))))) done))) ∷ [])) ∷ []

-- `class A { boolean f() { return !1; } }`
abbrev pub not_an_int : List Sample
not_an_int = (class 7 (codes "A") ((piece 19 (codes "f") [] (a_body ty.Boolean None (go (return 25 (Some (sign 32 12 (number 33 1 false)))) done))) ∷ [])) ∷ []

-- `class A { void f() { if (1) { } } }`
abbrev pub an_int_as_a_condition : List Sample
an_int_as_a_condition = (class 7 (codes "A") ((piece 16 (codes "f") [] (a_body ty.Void None (go (when 22 (number 26 1 false) (block 29 done)) done))) ∷ [])) ∷ []

-- `class A { boolean f(boolean b) { return b && 1; } }`
abbrev pub an_int_behind_and : List Sample
an_int_behind_and = (class 7 (codes "A") ((piece 19 (codes "f") ((param 29 ty.Boolean (codes "b")) ∷ []) (a_body ty.Boolean None (go (return 34 (Some (binary 41 29 (name 41 (codes "b")) (number 46 1 false)))) done))) ∷ [])) ∷ []

-- `class A { boolean f(boolean b) { while (b || !b) { } return b ? true : b; } }`
abbrev pub conditions : List Sample
conditions = (class 7 (codes "A") ((piece 19 (codes "f") ((param 29 ty.Boolean (codes "b")) ∷ []) (a_body ty.Boolean None (go (while 34 (binary 41 30 (name 41 (codes "b")) (sign 46 12 (name 47 (codes "b")))) (block 50 done)) (go (return 54 (Some (choice 61 (name 61 (codes "b")) (truth 65 true) (name 72 (codes "b"))))) done)))) ∷ [])) ∷ []

-- `class A { int f() { return 1 & true; } }`
abbrev pub bits_of_two_types : List Sample
bits_of_two_types = (class 7 (codes "A") ((piece 15 (codes "f") [] (a_body ty.Int None (go (return 21 (Some (binary 28 21 (number 28 1 false) (truth 32 true)))) done))) ∷ [])) ∷ []

-- `class A { boolean f(int x) { return (x & 3 | x) == 3 ^ true; } }`
abbrev pub bits : List Sample
bits = (class 7 (codes "A") ((piece 19 (codes "f") ((param 25 ty.Int (codes "x")) ∷ []) (a_body ty.Boolean None (go (return 30 (Some (binary 37 23 (binary 37 25 (binary 38 22 (binary 38 21 (name 38 (codes "x")) (number 42 3 false)) (name 46 (codes "x"))) (number 52 3 false)) (truth 56 true)))) done))) ∷ [])) ∷ []

-- `class A { boolean f() { return 1 == true; } }`
abbrev pub an_int_equals_a_boolean : List Sample
an_int_equals_a_boolean = (class 7 (codes "A") ((piece 19 (codes "f") [] (a_body ty.Boolean None (go (return 25 (Some (binary 32 25 (number 32 1 false) (truth 37 true)))) done))) ∷ [])) ∷ []

-- `class A { boolean f(Object o, int[] a) { return o == a; } }`
abbrev pub an_object_equals_an_array : List Sample
an_object_equals_an_array = (class 7 (codes "A") ((piece 19 (codes "f") ((param 28 (ty.Class (codes "Object")) (codes "o")) ∷ (param 37 ty.IntArray (codes "a")) ∷ []) (a_body ty.Boolean None (go (return 42 (Some (binary 49 25 (name 49 (codes "o")) (name 54 (codes "a"))))) done))) ∷ [])) ∷ []

-- `class A { } class B { boolean f(A a, B b) { return a != b; } }`
abbrev pub strangers_are_equal : List Sample
strangers_are_equal = (class 7 (codes "A") []) ∷ (class 19 (codes "B") ((piece 31 (codes "f") ((param 35 (ty.Class (codes "A")) (codes "a")) ∷ (param 40 (ty.Class (codes "B")) (codes "b")) ∷ []) (a_body ty.Boolean None (go (return 45 (Some (binary 52 26 (name 52 (codes "a")) (name 57 (codes "b"))))) done))) ∷ [])) ∷ []

-- `interface I { } final class A { boolean f(I i, A a, int[] b) { return i == a && null != b && null == null && a != new Object(); } }`
abbrev pub references_are_equal : List Sample
references_are_equal = (interface 11 (codes "I") []) ∷ (record (class 29 (codes "A") ((piece 41 (codes "f") ((param 45 (ty.Class (codes "I")) (codes "i")) ∷ (param 50 (ty.Class (codes "A")) (codes "a")) ∷ (param 59 ty.IntArray (codes "b")) ∷ []) (a_body ty.Boolean None (go (return 64 (Some (binary 71 29 (binary 71 29 (binary 71 29 (binary 71 25 (name 71 (codes "i")) (name 76 (codes "a"))) (binary 81 26 (null 81) (name 89 (codes "b")))) (binary 94 25 (null 94) (null 102))) (binary 110 26 (name 110 (codes "a")) (make 115 (codes "Object") end))))) done))) ∷ [])) { is_final = true }) ∷ []

-- `class A { boolean f(int x) { return x instanceof A; } }`
abbrev pub an_int_as_an_instance : List Sample
an_int_as_an_instance = (class 7 (codes "A") ((piece 19 (codes "f") ((param 25 ty.Int (codes "x")) ∷ []) (a_body ty.Boolean None (go (return 30 (Some (instance 37 (name 37 (codes "x")) (codes "A")))) done))) ∷ [])) ∷ []

-- `class A { boolean f(A a) { return null instanceof A || a instanceof A; } }`
abbrev pub null_as_an_instance : List Sample
null_as_an_instance = (class 7 (codes "A") ((piece 19 (codes "f") ((param 23 (ty.Class (codes "A")) (codes "a")) ∷ []) (a_body ty.Boolean None (go (return 28 (Some (binary 35 30 (instance 35 (null 35) (codes "A")) (instance 56 (name 56 (codes "a")) (codes "A"))))) done))) ∷ [])) ∷ []

-- `class A { int f() { return true ? 1 : false; } }`
abbrev pub arms_of_two_types : List Sample
arms_of_two_types = (class 7 (codes "A") ((piece 15 (codes "f") [] (a_body ty.Int None (go (return 21 (Some (choice 28 (truth 28 true) (number 35 1 false) (truth 39 false)))) done))) ∷ [])) ∷ []

-- `class A { } class B extends A { A f(A a, B b) { return true ? null : false ? b : a; } }`
abbrev pub null_as_an_arm : List Sample
null_as_an_arm = (class 7 (codes "A") []) ∷ (subclass 19 (codes "B") (codes "A") ((piece 35 (codes "f") ((param 39 (ty.Class (codes "A")) (codes "a")) ∷ (param 44 (ty.Class (codes "B")) (codes "b")) ∷ []) (a_body (ty.Class (codes "A")) None (go (return 49 (Some (choice 56 (truth 56 true) (null 63) (choice 70 (truth 70 false) (name 78 (codes "b")) (name 82 (codes "a")))))) done))) ∷ [])) ∷ []

-- `class A { int f(A a) { return a.x; } }`
abbrev pub no_such_field : List Sample
no_such_field = (class 7 (codes "A") ((piece 15 (codes "f") ((param 19 (ty.Class (codes "A")) (codes "a")) ∷ []) (a_body ty.Int None (go (return 24 (Some (field 31 (name 31 (codes "a")) (codes "x")))) done))) ∷ [])) ∷ []

-- `class A { static int x; int f(A a) { return a.x; } }`
abbrev pub a_static_field_of_an_object : List Sample
a_static_field_of_an_object = (class 7 (codes "A") ((piece 22 (codes "x") [] (a_field ty.Int true)) ∷ (piece 29 (codes "f") ((param 33 (ty.Class (codes "A")) (codes "a")) ∷ []) (a_body ty.Int None (go (return 38 (Some (field 45 (name 45 (codes "a")) (codes "x")))) done))) ∷ [])) ∷ []

-- `class A { int f(A a) { return a.length; } }`
abbrev pub a_length_of_an_object : List Sample
a_length_of_an_object = (class 7 (codes "A") ((piece 15 (codes "f") ((param 19 (ty.Class (codes "A")) (codes "a")) ∷ []) (a_body ty.Int None (go (return 24 (Some (field 31 (name 31 (codes "a")) (codes "length")))) done))) ∷ [])) ∷ []

-- `class A { int[] x; int f() { return x.length + this.x.length; } }`
abbrev pub lengths : List Sample
lengths = (class 7 (codes "A") ((piece 17 (codes "x") [] (a_field ty.IntArray false)) ∷ (piece 24 (codes "f") [] (a_body ty.Int None (go (return 30 (Some (binary 37 16 (field 37 (name 37 (codes "x")) (codes "length")) (field 48 (field 48 (this 48) (codes "x")) (codes "length"))))) done))) ∷ [])) ∷ []

-- `class A { int f(int x) { return x[0]; } }`
abbrev pub an_element_of_an_int : List Sample
an_element_of_an_int = (class 7 (codes "A") ((piece 15 (codes "f") ((param 21 ty.Int (codes "x")) ∷ []) (a_body ty.Int None (go (return 26 (Some (element 33 (name 33 (codes "x")) (number 35 0 false)))) done))) ∷ [])) ∷ []

-- `class A { int[] f() { return new int[true]; } }`
abbrev pub a_boolean_as_a_size : List Sample
a_boolean_as_a_size = (class 7 (codes "A") ((piece 17 (codes "f") [] (a_body ty.IntArray None (go (return 23 (Some (make_array 30 ty.Int (truth 38 true)))) done))) ∷ [])) ∷ []

-- `class A { A[] x; A f(int i) { x = new A[i]; return x[i]; } }`
abbrev pub elements : List Sample
elements = (class 7 (codes "A") ((piece 15 (codes "x") [] (a_field (ty.ClassArray (codes "A")) false)) ∷ (piece 20 (codes "f") ((param 26 ty.Int (codes "i")) ∷ []) (a_body (ty.Class (codes "A")) None (go (assign 31 (name 31 (codes "x")) 9 (make_array 35 (ty.Class (codes "A")) (name 41 (codes "i")))) (go (return 45 (Some (element 52 (name 52 (codes "x")) (name 54 (codes "i"))))) done)))) ∷ [])) ∷ []

-- `class A { int x; int f() { return A.x; } }`
abbrev pub an_instance_field_of_a_class : List Sample
an_instance_field_of_a_class = (class 7 (codes "A") ((piece 15 (codes "x") [] (a_field ty.Int false)) ∷ (piece 22 (codes "f") [] (a_body ty.Int None (go (return 28 (Some (field 35 (name 35 (codes "A")) (codes "x")))) done))) ∷ [])) ∷ []

-- `class A { int f() { return null + 1; } }`
abbrev pub null_and_an_int : List Sample
null_and_an_int = (class 7 (codes "A") ((piece 15 (codes "f") [] (a_body ty.Int None (go (return 21 (Some (binary 28 16 (null 28) (number 35 1 false)))) done))) ∷ [])) ∷ []

-- what they come to
pub record ExpressionsHold : Type 0 where
  pub a_number_that_is_too_large_breaks_21 : Breaks a_number_that_is_too_large 28 21
  pub a_sum_that_is_negated_breaks_21 : Breaks a_sum_that_is_negated 30 21
  pub a_factor_that_is_too_large_breaks_21 : Breaks a_factor_that_is_too_large 29 21
  pub the_least_number_passes : Passes the_least_number
  pub an_int_and_a_boolean_breaks_24 : Breaks an_int_and_a_boolean 28 24
  pub beside_a_fault_breaks_24 : Breaks beside_a_fault 28 24
  pub behind_a_fault_breaks_24 : Breaks behind_a_fault 28 24
  pub the_complement_of_a_boolean_breaks_24 : Breaks the_complement_of_a_boolean 28 24
  pub shifts_passes : Passes shifts
  pub not_an_int_breaks_25 : Breaks not_an_int 32 25
  pub an_int_as_a_condition_breaks_25 : Breaks an_int_as_a_condition 22 25
  pub an_int_behind_and_breaks_25 : Breaks an_int_behind_and 41 25
  pub conditions_passes : Passes conditions
  pub bits_of_two_types_breaks_26 : Breaks bits_of_two_types 28 26
  pub bits_passes : Passes bits
  pub an_int_equals_a_boolean_breaks_27 : Breaks an_int_equals_a_boolean 32 27
  pub an_object_equals_an_array_breaks_27 : Breaks an_object_equals_an_array 49 27
  pub strangers_are_equal_breaks_27 : Breaks strangers_are_equal 52 27
  pub references_are_equal_passes : Passes references_are_equal
  pub an_int_as_an_instance_breaks_28 : Breaks an_int_as_an_instance 37 28
  pub null_as_an_instance_passes : Passes null_as_an_instance
  pub arms_of_two_types_breaks_29 : Breaks arms_of_two_types 28 29
  pub null_as_an_arm_passes : Passes null_as_an_arm
  pub no_such_field_breaks_30 : Breaks no_such_field 31 30
  pub a_static_field_of_an_object_breaks_30 : Breaks a_static_field_of_an_object 45 30
  pub a_length_of_an_object_breaks_30 : Breaks a_length_of_an_object 31 30
  pub lengths_passes : Passes lengths
  pub an_element_of_an_int_breaks_31 : Breaks an_element_of_an_int 33 31
  pub a_boolean_as_a_size_breaks_31 : Breaks a_boolean_as_a_size 30 31
  pub elements_passes : Passes elements
  pub an_instance_field_of_a_class_breaks_30 : Breaks an_instance_field_of_a_class 35 30
  pub null_and_an_int_breaks_24 : Breaks null_and_an_int 28 24
