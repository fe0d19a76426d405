-- Worked examples of the rules of guards: a unit that breaks a rule, with the place and the rule of its first fault, and
-- units like it that break none.
use Rattle.std.specs.Prelude.{List, [], ◌∷◌, codes, Some, None, true, false}
use Rattle.jp_pred.specs.declared.ty.Ty.TheVariants as ty
use Rattle.type_rules.specs.Samples.{Sample, class, subclass, interface, piece, param, path_text, summand}
use Rattle.type_rules.specs.Samples.{number, name, cast, instance, call_on, end, then}
use Rattle.type_rules.specs.Samples.{return, done, go}
use Rattle.type_rules.specs.Samples.{given, not', and', or', is, alias, null_test, flag, compare, a_field, an_abstract, a_body}
use Rattle.type_rules.specs.Worked.{Breaks, Passes}

-- `class A { int f(A e) when x@A { return 1; } }`
abbrev pub no_such_root : List Sample
no_such_root = (class 7 (codes "A") ((piece 15 (codes "f") ((param 19 (ty.Class (codes "A")) (codes "e")) ∷ []) (a_body ty.Int (Some (is 27 (path_text 27 (codes "x") []) (codes "A") None)) (go (return 33 (Some (number 40 1 false))) done))) ∷ [])) ∷ []

-- `class A { int f(A e) when b@A && e@A as b { return 1; } }`
abbrev pub an_alias_further_right : List Sample
an_alias_further_right = (class 7 (codes "A") ((piece 15 (codes "f") ((param 19 (ty.Class (codes "A")) (codes "e")) ∷ []) (a_body ty.Int (Some (and' 27 (is 27 (path_text 27 (codes "b") []) (codes "A") None) (is 34 (path_text 34 (codes "e") []) (codes "A") (Some (codes "b"))))) (go (return 45 (Some (number 52 1 false))) done))) ∷ [])) ∷ []

-- `class A { int f(A e) when e@A as b && b@A { return 1; } }`
abbrev pub an_alias_further_left : List Sample
an_alias_further_left = (class 7 (codes "A") ((piece 15 (codes "f") ((param 19 (ty.Class (codes "A")) (codes "e")) ∷ []) (a_body ty.Int (Some (and' 27 (is 27 (path_text 27 (codes "e") []) (codes "A") (Some (codes "b"))) (is 39 (path_text 39 (codes "b") []) (codes "A") None))) (go (return 45 (Some (number 52 1 false))) done))) ∷ [])) ∷ []

-- `class A { } class B { int f(A e) when e.x == 1 { return 1; } }`
abbrev pub no_such_step : List Sample
no_such_step = (class 7 (codes "A") []) ∷ (class 19 (codes "B") ((piece 27 (codes "f") ((param 31 (ty.Class (codes "A")) (codes "e")) ∷ []) (a_body ty.Int (Some (compare 39 ((summand 39 false None (Some (path_text 39 (codes "e") ((codes "x") ∷ [])))) ∷ []) 25 ((summand 46 false (Some (1, false)) None) ∷ []))) (go (return 50 (Some (number 57 1 false))) done))) ∷ [])) ∷ []

-- `class A { private int x; } class B { int f(A e) when e.x == 1 { return 1; } }`
abbrev pub a_private_step : List Sample
a_private_step = (class 7 (codes "A") ((record { place = 23; is_private = true; name = (codes "x"); params = []; body = (a_field ty.Int false) }) ∷ [])) ∷ (class 34 (codes "B") ((piece 42 (codes "f") ((param 46 (ty.Class (codes "A")) (codes "e")) ∷ []) (a_body ty.Int (Some (compare 54 ((summand 54 false None (Some (path_text 54 (codes "e") ((codes "x") ∷ [])))) ∷ []) 25 ((summand 61 false (Some (1, false)) None) ∷ []))) (go (return 65 (Some (number 72 1 false))) done))) ∷ [])) ∷ []

-- `class A { static int x; int f(A e) when e.x == 1 { return 1; } }`
abbrev pub a_static_step : List Sample
a_static_step = (class 7 (codes "A") ((piece 22 (codes "x") [] (a_field ty.Int true)) ∷ (piece 29 (codes "f") ((param 33 (ty.Class (codes "A")) (codes "e")) ∷ []) (a_body ty.Int (Some (compare 41 ((summand 41 false None (Some (path_text 41 (codes "e") ((codes "x") ∷ [])))) ∷ []) 25 ((summand 48 false (Some (1, false)) None) ∷ []))) (go (return 52 (Some (number 59 1 false))) done))) ∷ [])) ∷ []

-- `class A { } class B extends A { int x; int f(A e) when (e@B || true) && e.x == 1 { return 1; } }`
abbrev pub a_test_behind_or : List Sample
a_test_behind_or = (class 7 (codes "A") []) ∷ (subclass 19 (codes "B") (codes "A") ((piece 37 (codes "x") [] (a_field ty.Int false)) ∷ (piece 44 (codes "f") ((param 48 (ty.Class (codes "A")) (codes "e")) ∷ []) (a_body ty.Int (Some (and' 56 (or' 57 (is 57 (path_text 57 (codes "e") []) (codes "B") None) (given 64 true)) (compare 73 ((summand 73 false None (Some (path_text 73 (codes "e") ((codes "x") ∷ [])))) ∷ []) 25 ((summand 80 false (Some (1, false)) None) ∷ [])))) (go (return 84 (Some (number 91 1 false))) done))) ∷ [])) ∷ []

-- `class A { } class B extends A { int x; int f(A e) when !(e@B) && e.x == 1 { return 1; } }`
abbrev pub a_test_behind_not : List Sample
a_test_behind_not = (class 7 (codes "A") []) ∷ (subclass 19 (codes "B") (codes "A") ((piece 37 (codes "x") [] (a_field ty.Int false)) ∷ (piece 44 (codes "f") ((param 48 (ty.Class (codes "A")) (codes "e")) ∷ []) (a_body ty.Int (Some (and' 56 (not' 56 (is 58 (path_text 58 (codes "e") []) (codes "B") None)) (compare 66 ((summand 66 false None (Some (path_text 66 (codes "e") ((codes "x") ∷ [])))) ∷ []) 25 ((summand 73 false (Some (1, false)) None) ∷ [])))) (go (return 77 (Some (number 84 1 false))) done))) ∷ [])) ∷ []

-- `class A { } class B extends A { int x; int f(A e) when e@B && e@Object && e.x == 1 { return 1; } }`
abbrev pub the_last_test : List Sample
the_last_test = (class 7 (codes "A") []) ∷ (subclass 19 (codes "B") (codes "A") ((piece 37 (codes "x") [] (a_field ty.Int false)) ∷ (piece 44 (codes "f") ((param 48 (ty.Class (codes "A")) (codes "e")) ∷ []) (a_body ty.Int (Some (and' 56 (and' 56 (is 56 (path_text 56 (codes "e") []) (codes "B") None) (is 63 (path_text 63 (codes "e") []) (codes "Object") None)) (compare 75 ((summand 75 false None (Some (path_text 75 (codes "e") ((codes "x") ∷ [])))) ∷ []) 25 ((summand 82 false (Some (1, false)) None) ∷ [])))) (go (return 86 (Some (number 93 1 false))) done))) ∷ [])) ∷ []

-- `class A { } class B extends A { int x; int f(A e) when e@B && !(e.x == 1 || e.x > 2) { return 1; } }`
abbrev pub a_test_in_front : List Sample
a_test_in_front = (class 7 (codes "A") []) ∷ (subclass 19 (codes "B") (codes "A") ((piece 37 (codes "x") [] (a_field ty.Int false)) ∷ (piece 44 (codes "f") ((param 48 (ty.Class (codes "A")) (codes "e")) ∷ []) (a_body ty.Int (Some (and' 56 (is 56 (path_text 56 (codes "e") []) (codes "B") None) (not' 63 (or' 65 (compare 65 ((summand 65 false None (Some (path_text 65 (codes "e") ((codes "x") ∷ [])))) ∷ []) 25 ((summand 72 false (Some (1, false)) None) ∷ [])) (compare 77 ((summand 77 false None (Some (path_text 77 (codes "e") ((codes "x") ∷ [])))) ∷ []) 11 ((summand 83 false (Some (2, false)) None) ∷ [])))))) (go (return 88 (Some (number 95 1 false))) done))) ∷ [])) ∷ []

-- `class A { int f(int e) when e@A { return 1; } }`
abbrev pub a_test_of_an_int : List Sample
a_test_of_an_int = (class 7 (codes "A") ((piece 15 (codes "f") ((param 21 ty.Int (codes "e")) ∷ []) (a_body ty.Int (Some (is 29 (path_text 29 (codes "e") []) (codes "A") None)) (go (return 35 (Some (number 42 1 false))) done))) ∷ [])) ∷ []

-- `class A { int f() when this@A { return 1; } }`
abbrev pub a_test_of_this : List Sample
a_test_of_this = (class 7 (codes "A") ((piece 15 (codes "f") [] (a_body ty.Int (Some (is 24 (path_text 24 (codes "this") []) (codes "A") None)) (go (return 33 (Some (number 40 1 false))) done))) ∷ [])) ∷ []

-- `class A { int f() when this as t && t@A { return 1; } }`
abbrev pub a_test_of_an_alias_of_this : List Sample
a_test_of_an_alias_of_this = (class 7 (codes "A") ((piece 15 (codes "f") [] (a_body ty.Int (Some (and' 24 (alias 24 (path_text 24 (codes "this") []) (codes "t")) (is 37 (path_text 37 (codes "t") []) (codes "A") None))) (go (return 43 (Some (number 50 1 false))) done))) ∷ [])) ∷ []

-- `class A { A a; int f() when this.a@A { return 1; } }`
abbrev pub a_test_of_a_field : List Sample
a_test_of_a_field = (class 7 (codes "A") ((piece 13 (codes "a") [] (a_field (ty.Class (codes "A")) false)) ∷ (piece 20 (codes "f") [] (a_body ty.Int (Some (is 29 (path_text 29 (codes "this") ((codes "a") ∷ [])) (codes "A") None)) (go (return 40 (Some (number 47 1 false))) done))) ∷ [])) ∷ []

-- `class A { } class B { int f(A e) when e@B { return 1; } }`
abbrev pub a_test_of_a_stranger : List Sample
a_test_of_a_stranger = (class 7 (codes "A") []) ∷ (class 19 (codes "B") ((piece 27 (codes "f") ((param 31 (ty.Class (codes "A")) (codes "e")) ∷ []) (a_body ty.Int (Some (is 39 (path_text 39 (codes "e") []) (codes "B") None)) (go (return 45 (Some (number 52 1 false))) done))) ∷ [])) ∷ []

-- `class A { } class B { A f(B b) { return (A) b; } }`
abbrev pub a_cast_of_a_stranger : List Sample
a_cast_of_a_stranger = (class 7 (codes "A") []) ∷ (class 19 (codes "B") ((piece 25 (codes "f") ((param 29 (ty.Class (codes "B")) (codes "b")) ∷ []) (a_body (ty.Class (codes "A")) None (go (return 34 (Some (cast 41 (codes "A") (name 45 (codes "b"))))) done))) ∷ [])) ∷ []

-- `class A { } class B { boolean f(B b) { return b instanceof A; } }`
abbrev pub an_instance_of_a_stranger : List Sample
an_instance_of_a_stranger = (class 7 (codes "A") []) ∷ (class 19 (codes "B") ((piece 31 (codes "f") ((param 35 (ty.Class (codes "B")) (codes "b")) ∷ []) (a_body ty.Boolean None (go (return 40 (Some (instance 47 (name 47 (codes "b")) (codes "A")))) done))) ∷ [])) ∷ []

-- `interface I { } final class A { I f(A a) { return (I) a; } A g(Object o) { return (A) o; } }`
abbrev pub a_cast_to_an_interface : List Sample
a_cast_to_an_interface = (interface 11 (codes "I") []) ∷ (record (class 29 (codes "A") ((piece 35 (codes "f") ((param 39 (ty.Class (codes "A")) (codes "a")) ∷ []) (a_body (ty.Class (codes "I")) None (go (return 44 (Some (cast 51 (codes "I") (name 55 (codes "a"))))) done))) ∷ (piece 62 (codes "g") ((param 71 (ty.Class (codes "Object")) (codes "o")) ∷ []) (a_body (ty.Class (codes "A")) None (go (return 76 (Some (cast 83 (codes "A") (name 87 (codes "o"))))) done))) ∷ [])) { is_final = true }) ∷ []

-- `class A { int f(int e) when e == null { return 1; } }`
abbrev pub an_int_and_null : List Sample
an_int_and_null = (class 7 (codes "A") ((piece 15 (codes "f") ((param 21 ty.Int (codes "e")) ∷ []) (a_body ty.Int (Some (null_test 29 (path_text 29 (codes "e") []) true)) (go (return 41 (Some (number 48 1 false))) done))) ∷ [])) ∷ []

-- `class A { int f(int[] e) when e != null { return 1; } }`
abbrev pub an_array_and_null : List Sample
an_array_and_null = (class 7 (codes "A") ((piece 15 (codes "f") ((param 23 ty.IntArray (codes "e")) ∷ []) (a_body ty.Int (Some (null_test 31 (path_text 31 (codes "e") []) false)) (go (return 43 (Some (number 50 1 false))) done))) ∷ [])) ∷ []

-- `class A { boolean b; int f(A e) when 1 <= e.b { return 1; } }`
abbrev pub a_boolean_in_a_comparison : List Sample
a_boolean_in_a_comparison = (class 7 (codes "A") ((piece 19 (codes "b") [] (a_field ty.Boolean false)) ∷ (piece 26 (codes "f") ((param 30 (ty.Class (codes "A")) (codes "e")) ∷ []) (a_body ty.Int (Some (compare 38 ((summand 38 false (Some (1, false)) None) ∷ []) 27 ((summand 43 false None (Some (path_text 43 (codes "e") ((codes "b") ∷ [])))) ∷ []))) (go (return 49 (Some (number 56 1 false))) done))) ∷ [])) ∷ []

-- `class A { int b; int f(A e) when 2*e.b - this.b <= 0x80000000 { return 1; } }`
abbrev pub ints_in_a_comparison : List Sample
ints_in_a_comparison = (class 7 (codes "A") ((piece 15 (codes "b") [] (a_field ty.Int false)) ∷ (piece 22 (codes "f") ((param 26 (ty.Class (codes "A")) (codes "e")) ∷ []) (a_body ty.Int (Some (compare 34 ((summand 34 false (Some (2, false)) (Some (path_text 36 (codes "e") ((codes "b") ∷ [])))) ∷ (summand 40 true None (Some (path_text 42 (codes "this") ((codes "b") ∷ [])))) ∷ []) 27 ((summand 52 false (Some (2147483648, true)) None) ∷ []))) (go (return 65 (Some (number 72 1 false))) done))) ∷ [])) ∷ []

-- `class A { int f(int e) when e { return 1; } }`
abbrev pub an_int_alone : List Sample
an_int_alone = (class 7 (codes "A") ((piece 15 (codes "f") ((param 21 ty.Int (codes "e")) ∷ []) (a_body ty.Int (Some (flag 29 (path_text 29 (codes "e") []))) (go (return 33 (Some (number 40 1 false))) done))) ∷ [])) ∷ []

-- `class A { int f(boolean e) when e { return 1; } }`
abbrev pub a_boolean_alone : List Sample
a_boolean_alone = (class 7 (codes "A") ((piece 15 (codes "f") ((param 25 ty.Boolean (codes "e")) ∷ []) (a_body ty.Int (Some (flag 33 (path_text 33 (codes "e") []))) (go (return 37 (Some (number 44 1 false))) done))) ∷ [])) ∷ []

-- `class A { int f(A e) when true || e@A as b { return 1; } }`
abbrev pub an_alias_behind_or : List Sample
an_alias_behind_or = (class 7 (codes "A") ((piece 15 (codes "f") ((param 19 (ty.Class (codes "A")) (codes "e")) ∷ []) (a_body ty.Int (Some (or' 27 (given 27 true) (is 35 (path_text 35 (codes "e") []) (codes "A") (Some (codes "b"))))) (go (return 46 (Some (number 53 1 false))) done))) ∷ [])) ∷ []

-- `class A { int f(A e) when !(e as b) { return 1; } }`
abbrev pub an_alias_behind_not : List Sample
an_alias_behind_not = (class 7 (codes "A") ((piece 15 (codes "f") ((param 19 (ty.Class (codes "A")) (codes "e")) ∷ []) (a_body ty.Int (Some (not' 27 (alias 29 (path_text 29 (codes "e") []) (codes "b")))) (go (return 39 (Some (number 46 1 false))) done))) ∷ [])) ∷ []

-- `class A { int f(A e) when true && (e@A as b && true) { return b.f(e); } }`
abbrev pub an_alias_behind_and : List Sample
an_alias_behind_and = (class 7 (codes "A") ((piece 15 (codes "f") ((param 19 (ty.Class (codes "A")) (codes "e")) ∷ []) (a_body ty.Int (Some (and' 27 (given 27 true) (and' 36 (is 36 (path_text 36 (codes "e") []) (codes "A") (Some (codes "b"))) (given 48 true)))) (go (return 56 (Some (call_on 63 (name 63 (codes "b")) (codes "f") (then (name 67 (codes "e")) end)))) done))) ∷ [])) ∷ []

-- `interface I { } class A { int x; } class B extends A implements I { int y; int f(A e) when e@I && e.y == 1 { return 1; } }`
abbrev pub a_test_of_an_interface : List Sample
a_test_of_an_interface = (interface 11 (codes "I") []) ∷ (class 23 (codes "A") ((piece 31 (codes "x") [] (a_field ty.Int false)) ∷ [])) ∷ (record (class 42 (codes "B") ((piece 73 (codes "y") [] (a_field ty.Int false)) ∷ (piece 80 (codes "f") ((param 84 (ty.Class (codes "A")) (codes "e")) ∷ []) (a_body ty.Int (Some (and' 92 (is 92 (path_text 92 (codes "e") []) (codes "I") None) (compare 99 ((summand 99 false None (Some (path_text 99 (codes "e") ((codes "y") ∷ [])))) ∷ []) 25 ((summand 106 false (Some (1, false)) None) ∷ [])))) (go (return 110 (Some (number 117 1 false))) done))) ∷ [])) { superclass = Some (codes "A"); interfaces = ((codes "I") ∷ []) }) ∷ []

-- `interface I { int g(); } class A { int f(Object e) when e@I as i { return i.g(); } }`
abbrev pub an_alias_of_an_interface : List Sample
an_alias_of_an_interface = (interface 11 (codes "I") ((piece 19 (codes "g") [] (an_abstract ty.Int)) ∷ [])) ∷ (class 32 (codes "A") ((piece 40 (codes "f") ((param 49 (ty.Class (codes "Object")) (codes "e")) ∷ []) (a_body ty.Int (Some (is 57 (path_text 57 (codes "e") []) (codes "I") (Some (codes "i")))) (go (return 68 (Some (call_on 75 (name 75 (codes "i")) (codes "g") end))) done))) ∷ [])) ∷ []

-- `class P { P l; } class Q extends P { int v; int f(P e) when e.l@Q && e.l.v > 0 && e.l.l != null { return 1; } }`
abbrev pub tests_of_fields : List Sample
tests_of_fields = (class 7 (codes "P") ((piece 13 (codes "l") [] (a_field (ty.Class (codes "P")) false)) ∷ [])) ∷ (subclass 24 (codes "Q") (codes "P") ((piece 42 (codes "v") [] (a_field ty.Int false)) ∷ (piece 49 (codes "f") ((param 53 (ty.Class (codes "P")) (codes "e")) ∷ []) (a_body ty.Int (Some (and' 61 (and' 61 (is 61 (path_text 61 (codes "e") ((codes "l") ∷ [])) (codes "Q") None) (compare 70 ((summand 70 false None (Some (path_text 70 (codes "e") ((codes "l") ∷ (codes "v") ∷ [])))) ∷ []) 11 ((summand 78 false (Some (0, false)) None) ∷ []))) (null_test 83 (path_text 83 (codes "e") ((codes "l") ∷ (codes "l") ∷ [])) false))) (go (return 99 (Some (number 106 1 false))) done))) ∷ [])) ∷ []

-- what they come to
pub record GuardsHold : Type 0 where
  pub no_such_root_breaks_13 : Breaks no_such_root 27 13
  pub an_alias_further_right_breaks_13 : Breaks an_alias_further_right 27 13
  pub an_alias_further_left_passes : Passes an_alias_further_left
  pub no_such_step_breaks_14 : Breaks no_such_step 39 14
  pub a_private_step_breaks_14 : Breaks a_private_step 54 14
  pub a_static_step_breaks_14 : Breaks a_static_step 41 14
  pub a_test_behind_or_breaks_14 : Breaks a_test_behind_or 73 14
  pub a_test_behind_not_breaks_14 : Breaks a_test_behind_not 66 14
  pub the_last_test_breaks_14 : Breaks the_last_test 75 14
  pub a_test_in_front_passes : Passes a_test_in_front
  pub a_test_of_an_int_breaks_15 : Breaks a_test_of_an_int 29 15
  pub a_test_of_this_breaks_15 : Breaks a_test_of_this 24 15
  pub a_test_of_an_alias_of_this_breaks_15 : Breaks a_test_of_an_alias_of_this 37 15
  pub a_test_of_a_field_passes : Passes a_test_of_a_field
  pub a_test_of_a_stranger_breaks_16 : Breaks a_test_of_a_stranger 39 16
  pub a_cast_of_a_stranger_breaks_16 : Breaks a_cast_of_a_stranger 41 16
  pub an_instance_of_a_stranger_breaks_16 : Breaks an_instance_of_a_stranger 47 16
  pub a_cast_to_an_interface_passes : Passes a_cast_to_an_interface
  pub an_int_and_null_breaks_17 : Breaks an_int_and_null 29 17
  pub an_array_and_null_passes : Passes an_array_and_null
  pub a_boolean_in_a_comparison_breaks_18 : Breaks a_boolean_in_a_comparison 43 18
  pub ints_in_a_comparison_passes : Passes ints_in_a_comparison
  pub an_int_alone_breaks_19 : Breaks an_int_alone 29 19
  pub a_boolean_alone_passes : Passes a_boolean_alone
  pub an_alias_behind_or_breaks_20 : Breaks an_alias_behind_or 35 20
  pub an_alias_behind_not_breaks_20 : Breaks an_alias_behind_not 29 20
  pub an_alias_behind_and_passes : Passes an_alias_behind_and
  pub a_test_of_an_interface_breaks_14 : Breaks a_test_of_an_interface 99 14
  pub an_alias_of_an_interface_passes : Passes an_alias_of_an_interface
  pub tests_of_fields_passes : Passes tests_of_fields
