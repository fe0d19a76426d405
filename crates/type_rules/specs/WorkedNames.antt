-- Worked examples of the rules of names: a unit that breaks a rule, with the place and the rule of its first fault, and
-- units like it that break none.
use Rattle.std.specs.Prelude.{List, [], ◌∷◌, codes, Some, None, true, false}
use Rattle.jp_pred.specs.declared.ty.Ty.TheVariants as ty
use Rattle.type_rules.specs.Samples.{Sample, class, subclass, interface, piece, param, path_text}
use Rattle.type_rules.specs.Samples.{number, this, name, binary, choice, field, call, call_on, end, then}
use Rattle.type_rules.specs.Samples.{block, local, when, for, return, bump, alone, done, go}
use Rattle.type_rules.specs.Samples.{and', is, alias, a_field, a_static, a_body}
use Rattle.type_rules.specs.Worked.{Breaks, Passes}

-- `class A { int f(int x, int x) { return x; } }`
abbrev pub two_parameters_of_one_name : List Sample
two_parameters_of_one_name = (class 7 (codes "A") ((piece 15 (codes "f") ((param 21 ty.Int (codes "x")) ∷ (param 28 ty.Int (codes "x")) ∷ []) (a_body ty.Int None (go (return 33 (Some (name 40 (codes "x")))) done))) ∷ [])) ∷ []

-- `class A { void f(int x) { int x; } }`
abbrev pub a_local_as_a_parameter : List Sample
a_local_as_a_parameter = (class 7 (codes "A") ((piece 16 (codes "f") ((param 22 ty.Int (codes "x")) ∷ []) (a_body ty.Void None (go (local 27 ty.Int (codes "x") None) done))) ∷ [])) ∷ []

-- `class A { int f(A e) when e@A as e { return 1; } }`
abbrev pub an_alias_as_a_parameter : List Sample
an_alias_as_a_parameter = (class 7 (codes "A") ((piece 15 (codes "f") ((param 19 (ty.Class (codes "A")) (codes "e")) ∷ []) (a_body ty.Int (Some (is 27 (path_text 27 (codes "e") []) (codes "A") (Some (codes "e")))) (go (return 38 (Some (number 45 1 false))) done))) ∷ [])) ∷ []

-- `class A { void f() { { int x; } { int x; } int x; } }`
abbrev pub blocks_one_after_another : List Sample
blocks_one_after_another = (class 7 (codes "A") ((piece 16 (codes "f") [] (a_body ty.Void None (go (block 22 (go (local 24 ty.Int (codes "x") None) done)) (go (block 33 (go (local 35 ty.Int (codes "x") None) done)) (go (local 44 ty.Int (codes "x") None) done))))) ∷ [])) ∷ []

-- `class A { int f() { return x; } }`
abbrev pub no_such_name : List Sample
no_such_name = (class 7 (codes "A") ((piece 15 (codes "f") [] (a_body ty.Int None (go (return 21 (Some (name 28 (codes "x")))) done))) ∷ [])) ∷ []

-- `class A { private int x; } class B extends A { int f() { return x; } }`
abbrev pub a_private_field_of_the_superclass : List Sample
a_private_field_of_the_superclass = (class 7 (codes "A") ((record { place = 23; is_private = true; name = (codes "x"); params = []; body = (a_field ty.Int false) }) ∷ [])) ∷ (subclass 34 (codes "B") (codes "A") ((piece 52 (codes "f") [] (a_body ty.Int None (go (return 58 (Some (name 65 (codes "x")))) done))) ∷ [])) ∷ []

-- `interface I { } class A { int f() { return I.x; } }`
abbrev pub an_interface_before_a_dot : List Sample
an_interface_before_a_dot = (interface 11 (codes "I") []) ∷ (class 23 (codes "A") ((piece 31 (codes "f") [] (a_body ty.Int None (go (return 37 (Some (field 44 (name 44 (codes "I")) (codes "x")))) done))) ∷ [])) ∷ []

-- `class A { void f() { int x = x; } }`
abbrev pub a_local_in_its_own_value : List Sample
a_local_in_its_own_value = (class 7 (codes "A") ((piece 16 (codes "f") [] (a_body ty.Void None (go (local 22 ty.Int (codes "x") (Some (name 30 (codes "x")))) done))) ∷ [])) ∷ []

-- `class A { void f() { for (int i = 0; i < 2; i++) { } Io.print(i); } }`
abbrev pub a_local_of_a_loop_behind_it : List Sample
a_local_of_a_loop_behind_it = (class 7 (codes "A") ((piece 16 (codes "f") [] (a_body ty.Void None (go (for 22 (local 27 ty.Int (codes "i") (Some (number 35 0 false))) (binary 38 10 (name 38 (codes "i")) (number 42 2 false)) (bump 45 (name 45 (codes "i")) true) (block 50 done)) (go (alone 54 (call_on 54 (name 54 (codes "Io")) (codes "print") (then (name 63 (codes "i")) end))) done)))) ∷ [])) ∷ []

-- `class A { static int x; int f() { return A.x + x; } }`
abbrev pub a_class_before_a_dot : List Sample
a_class_before_a_dot = (class 7 (codes "A") ((piece 22 (codes "x") [] (a_field ty.Int true)) ∷ (piece 29 (codes "f") [] (a_body ty.Int None (go (return 35 (Some (binary 42 16 (field 42 (name 42 (codes "A")) (codes "x")) (name 48 (codes "x"))))) done))) ∷ [])) ∷ []

-- `class A { private int x; int f(B b) { return b.x; } } class B extends A { }`
abbrev pub a_private_field_of_a_subclass_object : List Sample
a_private_field_of_a_subclass_object = (class 7 (codes "A") ((record { place = 23; is_private = true; name = (codes "x"); params = []; body = (a_field ty.Int false) }) ∷ (piece 30 (codes "f") ((param 34 (ty.Class (codes "B")) (codes "b")) ∷ []) (a_body ty.Int None (go (return 39 (Some (field 46 (name 46 (codes "b")) (codes "x")))) done))) ∷ [])) ∷ (subclass 61 (codes "B") (codes "A") []) ∷ []

-- `class A { static A f() { return this; } }`
abbrev pub this_in_a_static_method : List Sample
this_in_a_static_method = (class 7 (codes "A") ((piece 20 (codes "f") [] (a_static (ty.Class (codes "A")) (go (return 26 (Some (this 33))) done))) ∷ [])) ∷ []

-- `class A { int x; static int f() { return x; } }`
abbrev pub a_field_in_a_static_method : List Sample
a_field_in_a_static_method = (class 7 (codes "A") ((piece 15 (codes "x") [] (a_field ty.Int false)) ∷ (piece 29 (codes "f") [] (a_static ty.Int (go (return 35 (Some (name 42 (codes "x")))) done))) ∷ [])) ∷ []

-- `class A { int g() { return 1; } static int f() { return g(); } }`
abbrev pub a_method_in_a_static_method : List Sample
a_method_in_a_static_method = (class 7 (codes "A") ((piece 15 (codes "g") [] (a_body ty.Int None (go (return 21 (Some (number 28 1 false))) done))) ∷ (piece 44 (codes "f") [] (a_static ty.Int (go (return 50 (Some (call 57 (codes "g") end))) done))) ∷ [])) ∷ []

-- `class A { static int x; static int g() { return x; } static int f() { return g(); } }`
abbrev pub a_static_field_in_a_static_method : List Sample
a_static_field_in_a_static_method = (class 7 (codes "A") ((piece 22 (codes "x") [] (a_field ty.Int true)) ∷ (piece 36 (codes "g") [] (a_static ty.Int (go (return 42 (Some (name 49 (codes "x")))) done))) ∷ (piece 65 (codes "f") [] (a_static ty.Int (go (return 71 (Some (call 78 (codes "g") end))) done))) ∷ [])) ∷ []

-- `class A { int f(A e) when e as b && this as b { return 1; } }`
abbrev pub two_aliases_of_one_name : List Sample
two_aliases_of_one_name = (class 7 (codes "A") ((piece 15 (codes "f") ((param 19 (ty.Class (codes "A")) (codes "e")) ∷ []) (a_body ty.Int (Some (and' 27 (alias 27 (path_text 27 (codes "e") []) (codes "b")) (alias 37 (path_text 37 (codes "this") []) (codes "b")))) (go (return 49 (Some (number 56 1 false))) done))) ∷ [])) ∷ []

-- `class A { int f(boolean b) { if (b) int x = 1; return x; } }`
abbrev pub a_local_of_a_single_statement : List Sample
a_local_of_a_single_statement = (class 7 (codes "A") ((piece 15 (codes "f") ((param 25 ty.Boolean (codes "b")) ∷ []) (a_body ty.Int None (go (when 30 (name 34 (codes "b")) (local 37 ty.Int (codes "x") (Some (number 45 1 false)))) (go (return 48 (Some (name 55 (codes "x")))) done)))) ∷ [])) ∷ []

-- `class A { int x; int f(boolean x) { return x ? this.x : 0; } }`
abbrev pub a_parameter_before_a_field : List Sample
a_parameter_before_a_field = (class 7 (codes "A") ((piece 15 (codes "x") [] (a_field ty.Int false)) ∷ (piece 22 (codes "f") ((param 32 ty.Boolean (codes "x")) ∷ []) (a_body ty.Int None (go (return 37 (Some (choice 44 (name 44 (codes "x")) (field 48 (this 48) (codes "x")) (number 57 0 false)))) done))) ∷ [])) ∷ []

-- what they come to
pub record NamesHold : Type 0 where
  pub two_parameters_of_one_name_breaks_12 : Breaks two_parameters_of_one_name 28 12
  pub a_local_as_a_parameter_breaks_12 : Breaks a_local_as_a_parameter 27 12
  pub an_alias_as_a_parameter_breaks_12 : Breaks an_alias_as_a_parameter 27 12
  pub blocks_one_after_another_passes : Passes blocks_one_after_another
  pub no_such_name_breaks_22 : Breaks no_such_name 28 22
  pub a_private_field_of_the_superclass_breaks_22 : Breaks a_private_field_of_the_superclass 65 22
  pub an_interface_before_a_dot_breaks_22 : Breaks an_interface_before_a_dot 44 22
  pub a_local_in_its_own_value_breaks_22 : Breaks a_local_in_its_own_value 30 22
  pub a_local_of_a_loop_behind_it_breaks_22 : Breaks a_local_of_a_loop_behind_it 63 22
  pub a_class_before_a_dot_passes : Passes a_class_before_a_dot
  pub a_private_field_of_a_subclass_object_passes : Passes a_private_field_of_a_subclass_object
  pub this_in_a_static_method_breaks_23 : Breaks this_in_a_static_method 33 23
  pub a_field_in_a_static_method_breaks_23 : Breaks a_field_in_a_static_method 42 23
  pub a_method_in_a_static_method_breaks_23 : Breaks a_method_in_a_static_method 57 23
  pub a_static_field_in_a_static_method_passes : Passes a_static_field_in_a_static_method
  pub two_aliases_of_one_name_breaks_12 : Breaks two_aliases_of_one_name 37 12
  pub a_local_of_a_single_statement_breaks_22 : Breaks a_local_of_a_single_statement 55 22
  pub a_parameter_before_a_field_passes : Passes a_parameter_before_a_field
