-- Worked examples of the rules of statements: a unit that breaks a rule, with the place and the rule of its first fault, and
-- units like it that break none.
use Rattle.std.specs.Prelude.{List, [], ◌∷◌, codes, Some, None, true, false}
use Rattle.jp_pred.specs.declared.ty.Ty.TheVariants as ty
use Rattle.type_rules.specs.Samples.{Sample, class, piece, param}
use Rattle.type_rules.specs.Samples.{number, truth, null, this, name, binary, choice, field, element, call, end, then}
use Rattle.type_rules.specs.Samples.{block, nothing, local, when, when_else, while, for_ever, break, continue, return, assign, bump, alone, done, go}
use Rattle.type_rules.specs.Samples.{a_field, a_static, a_body, a_constructor}
use Rattle.type_rules.specs.Worked.{Breaks, Passes}

-- `class A { void f() { 1 = 2; } }`
abbrev pub a_changed_number : List Sample
a_changed_number = (class 7 (codes "A") ((piece 16 (codes "f") [] (a_body ty.Void None (go (assign 22 (number 22 1 false) 9 (number 26 2 false)) done))) ∷ [])) ∷ []

-- `class A { void f(int[] a) { a.length = 1; } }`
abbrev pub a_changed_length : List Sample
a_changed_length = (class 7 (codes "A") ((piece 16 (codes "f") ((param 24 ty.IntArray (codes "a")) ∷ []) (a_body ty.Void None (go (assign 29 (field 29 (name 29 (codes "a")) (codes "length")) 9 (number 40 1 false)) done))) ∷ [])) ∷ []

-- `class A { int g() { return 1; } void f() { g() += true + 1; } }`
abbrev pub a_changed_call : List Sample
a_changed_call = (class 7 (codes "A") ((piece 15 (codes "g") [] (a_body ty.Int None (go (return 21 (Some (number 28 1 false))) done))) ∷ (piece 38 (codes "f") [] (a_body ty.Void None (go (assign 44 (call 44 (codes "g") end) 34 (binary 51 16 (truth 51 true) (number 58 1 false))) done))) ∷ [])) ∷ []

-- `class A { void f() { int x = true; } }`
abbrev pub a_value_of_another_type : List Sample
a_value_of_another_type = (class 7 (codes "A") ((piece 16 (codes "f") [] (a_body ty.Void None (go (local 22 ty.Int (codes "x") (Some (truth 30 true))) done))) ∷ [])) ∷ []

-- `class A { void f(A a, Object o) { a = o; } }`
abbrev pub an_assigned_value_of_another_type : List Sample
an_assigned_value_of_another_type = (class 7 (codes "A") ((piece 16 (codes "f") ((param 20 (ty.Class (codes "A")) (codes "a")) ∷ (param 30 (ty.Class (codes "Object")) (codes "o")) ∷ []) (a_body ty.Void None (go (assign 35 (name 35 (codes "a")) 9 (name 39 (codes "o"))) done))) ∷ [])) ∷ []

-- `class A { void f(boolean b) { b++; } }`
abbrev pub a_boolean_counted_up : List Sample
a_boolean_counted_up = (class 7 (codes "A") ((piece 16 (codes "f") ((param 26 ty.Boolean (codes "b")) ∷ []) (a_body ty.Void None (go (bump 31 (name 31 (codes "b")) true) done))) ∷ [])) ∷ []

-- `class A { void f() { 5; } }`
abbrev pub an_expression_alone : List Sample
an_expression_alone = (class 7 (codes "A") ((piece 16 (codes "f") [] (a_body ty.Void None (go (alone 22 (number 22 5 false)) done))) ∷ [])) ∷ []

-- `class A { void f() { x; } }`
abbrev pub two_rules_at_one_place : List Sample
two_rules_at_one_place = (class 7 (codes "A") ((piece 16 (codes "f") [] (a_body ty.Void None (go (alone 22 (name 22 (codes "x"))) done))) ∷ [])) ∷ []

-- `class A { int x; static int y; void f(int[] a, Object o) { int z; z = x; this.x += 1; A.y--; a[0] = y; o = null; o = a[0] == 0 ? null : this; f(a, o); } }`
abbrev pub changes : List Sample
changes = (class 7 (codes "A") ((piece 15 (codes "x") [] (a_field ty.Int false)) ∷ (piece 29 (codes "y") [] (a_field ty.Int true)) ∷ (piece 37 (codes "f") ((param 45 ty.IntArray (codes "a")) ∷ (param 55 (ty.Class (codes "Object")) (codes "o")) ∷ []) (a_body ty.Void None (go (local 60 ty.Int (codes "z") None) (go (assign 67 (name 67 (codes "z")) 9 (name 71 (codes "x"))) (go (assign 74 (field 74 (this 74) (codes "x")) 34 (number 84 1 false)) (go (bump 87 (field 87 (name 87 (codes "A")) (codes "y")) false) (go (assign 94 (element 94 (name 94 (codes "a")) (number 96 0 false)) 9 (name 101 (codes "y"))) (go (assign 104 (name 104 (codes "o")) 9 (null 108)) (go (assign 114 (name 114 (codes "o")) 9 (choice 118 (binary 118 25 (element 118 (name 118 (codes "a")) (number 120 0 false)) (number 126 0 false)) (null 130) (this 137))) (go (alone 143 (call 143 (codes "f") (then (name 145 (codes "a")) (then (name 148 (codes "o")) end)))) done)))))))))) ∷ [])) ∷ []

-- `class A { int f() { return true; } }`
abbrev pub another_result : List Sample
another_result = (class 7 (codes "A") ((piece 15 (codes "f") [] (a_body ty.Int None (go (return 21 (Some (truth 28 true))) done))) ∷ [])) ∷ []

-- `class A { void f() { return 1; } }`
abbrev pub a_result_of_a_void_method : List Sample
a_result_of_a_void_method = (class 7 (codes "A") ((piece 16 (codes "f") [] (a_body ty.Void None (go (return 22 (Some (number 29 1 false))) done))) ∷ [])) ∷ []

-- `class A { int f() { return; } }`
abbrev pub no_result : List Sample
no_result = (class 7 (codes "A") ((piece 15 (codes "f") [] (a_body ty.Int None (go (return 21 None) done))) ∷ [])) ∷ []

-- `class A { void f() { break; } }`
abbrev pub a_break_outside_a_loop : List Sample
a_break_outside_a_loop = (class 7 (codes "A") ((piece 16 (codes "f") [] (a_body ty.Void None (go (break 22) done))) ∷ [])) ∷ []

-- `class A { A() { return; } int f() { for (;;) { if (true) { continue; } return 1; } } }`
abbrev pub leaving : List Sample
leaving = (class 7 (codes "A") ((piece 11 (codes "A") [] (a_constructor None (go (return 17 None) done))) ∷ (piece 31 (codes "f") [] (a_body ty.Int None (go (for_ever 37 (block 46 (go (when 48 (truth 52 true) (block 58 (go (continue 60) done))) (go (return 72 (Some (number 79 1 false))) done)))) done))) ∷ [])) ∷ []

-- `class A { int f() { } }`
abbrev pub no_statements : List Sample
no_statements = (class 7 (codes "A") ((piece 15 (codes "f") [] (a_body ty.Int None done)) ∷ [])) ∷ []

-- `class A { int f() { while (true) { { break; } } } }`
abbrev pub a_loop_with_a_break : List Sample
a_loop_with_a_break = (class 7 (codes "A") ((piece 15 (codes "f") [] (a_body ty.Int None (go (while 21 (truth 28 true) (block 34 (go (block 36 (go (break 38) done)) done))) done))) ∷ [])) ∷ []

-- `class A { int f(boolean b) { if (b) { return 1; } } }`
abbrev pub an_if_without_else : List Sample
an_if_without_else = (class 7 (codes "A") ((piece 15 (codes "f") ((param 25 ty.Boolean (codes "b")) ∷ []) (a_body ty.Int None (go (when 30 (name 34 (codes "b")) (block 37 (go (return 39 (Some (number 46 1 false))) done))) done))) ∷ [])) ∷ []

-- `class A { int f(boolean b) { if (b) { return 1; } else { while (true) { for (;;) { break; } } } } int g() { for (;;) { } } }`
abbrev pub endless_loops : List Sample
endless_loops = (class 7 (codes "A") ((piece 15 (codes "f") ((param 25 ty.Boolean (codes "b")) ∷ []) (a_body ty.Int None (go (when_else 30 (name 34 (codes "b")) (block 37 (go (return 39 (Some (number 46 1 false))) done)) (block 56 (go (while 58 (truth 65 true) (block 71 (go (for_ever 73 (block 82 (go (break 84) done))) done))) done))) done))) ∷ (piece 103 (codes "g") [] (a_body ty.Int None (go (for_ever 109 (block 118 done)) done))) ∷ [])) ∷ []

-- `class A { int f() { return 1 + true; } int g() { return h(); } }`
abbrev pub faults_at_two_places : List Sample
faults_at_two_places = (class 7 (codes "A") ((piece 15 (codes "f") [] (a_body ty.Int None (go (return 21 (Some (binary 28 16 (number 28 1 false) (truth 32 true)))) done))) ∷ (piece 44 (codes "g") [] (a_body ty.Int None (go (return 50 (Some (call 57 (codes "h") end))) done))) ∷ [])) ∷ []

-- `class A { void f(A a) { a.x = 1; } }`
abbrev pub a_changed_field_that_is_not_there : List Sample
a_changed_field_that_is_not_there = (class 7 (codes "A") ((piece 16 (codes "f") ((param 20 (ty.Class (codes "A")) (codes "a")) ∷ []) (a_body ty.Void None (go (assign 25 (field 25 (name 25 (codes "a")) (codes "x")) 9 (number 31 1 false)) done))) ∷ [])) ∷ []

-- `class A { A() { return 1; } }`
abbrev pub a_result_of_a_constructor : List Sample
a_result_of_a_constructor = (class 7 (codes "A") ((piece 11 (codes "A") [] (a_constructor None (go (return 17 (Some (number 24 1 false))) done))) ∷ [])) ∷ []

-- `class A { static int f() { ; } }`
abbrev pub a_static_method_that_completes : List Sample
a_static_method_that_completes = (class 7 (codes "A") ((piece 22 (codes "f") [] (a_static ty.Int (go (nothing 28) done))) ∷ [])) ∷ []

-- what they come to
pub record StatementsHold : Type 0 where
  pub a_changed_number_breaks_36 : Breaks a_changed_number 22 36
  pub a_changed_length_breaks_36 : Breaks a_changed_length 29 36
  pub a_changed_call_breaks_36 : Breaks a_changed_call 44 36
  pub a_value_of_another_type_breaks_36 : Breaks a_value_of_another_type 22 36
  pub an_assigned_value_of_another_type_breaks_36 : Breaks an_assigned_value_of_another_type 35 36
  pub a_boolean_counted_up_breaks_36 : Breaks a_boolean_counted_up 31 36
  pub an_expression_alone_breaks_36 : Breaks an_expression_alone 22 36
  pub two_rules_at_one_place_breaks_22 : Breaks two_rules_at_one_place 22 22
  pub changes_passes : Passes changes
  pub another_result_breaks_37 : Breaks another_result 21 37
  pub a_result_of_a_void_method_breaks_37 : Breaks a_result_of_a_void_method 22 37
  pub no_result_breaks_37 : Breaks no_result 21 37
  pub a_break_outside_a_loop_breaks_37 : Breaks a_break_outside_a_loop 22 37
  pub leaving_passes : Passes leaving
  pub no_statements_breaks_38 : Breaks no_statements 15 38
  pub a_loop_with_a_break_breaks_38 : Breaks a_loop_with_a_break 15 38
  pub an_if_without_else_breaks_38 : Breaks an_if_without_else 15 38
  pub endless_loops_passes : Passes endless_loops
  pub faults_at_two_places_breaks_24 : Breaks faults_at_two_places 28 24
  pub a_changed_field_that_is_not_there_breaks_30 : Breaks a_changed_field_that_is_not_there 25 30
  pub a_result_of_a_constructor_breaks_37 : Breaks a_result_of_a_constructor 17 37
  pub a_static_method_that_completes_breaks_38 : Breaks a_static_method_that_completes 22 38
