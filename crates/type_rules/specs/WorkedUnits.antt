-- Worked examples of whole units: those of a program of three units, each typed by what it sees of the ones before it, and one
-- whose places don't follow its text.
use Rattle.std.specs.Prelude.{◌≡◌, List, [], ◌∷◌, ◌++◌, map, true, false, Some, None, IsSome, codes}
use Rattle.jp_pred.specs.declared.ty.Ty.TheVariants as ty
use Rattle.iface_codec.specs.declared.iface.Iface.{Iface}
use Rattle.type_rules.specs.Samples.{Sample, class, subclass, unit, piece, param, path_text, summand}
use Rattle.type_rules.specs.Samples.{number, truth, text, name, sign, binary, field, call, call_on, make, end, then}
use Rattle.type_rules.specs.Samples.{local, return, assign, alone, done, go}
use Rattle.type_rules.specs.Samples.{not', and', is, compare, a_field, a_static, an_abstract, a_body, a_constructor}
use Rattle.type_rules.specs.Heads.{head}
use Rattle.type_rules.specs.Units.{made_unit}
use Rattle.type_rules.specs.Typing.{first_fault}
use Rattle.type_rules.specs.Worked.{Breaks}

-- the unit of expressions of the program of three units
abbrev pub expr_unit : List Sample
expr_unit = (record (class 16 (codes "Expr") ((piece 37 (codes "show") [] (an_abstract ty.Void)) ∷ [])) { is_abstract = true }) ∷ (record (class 59 (codes "Num") ((piece 82 (codes "v") [] (a_field ty.Int false)) ∷ (piece 85 (codes "Num") ((param 93 ty.Int (codes "a")) ∷ []) (a_constructor None (go (assign 98 (name 98 (codes "v")) 9 (name 102 (codes "a"))) done))) ∷ (piece 112 (codes "show") [] (a_body ty.Void None (go (alone 121 (call_on 121 (name 121 (codes "Io")) (codes "print") (then (name 130 (codes "v")) end))) done))) ∷ [])) { is_final = true; superclass = Some (codes "Expr") }) ∷ (record (class 150 (codes "Var") ((piece 173 (codes "id") [] (a_field ty.Int false)) ∷ (piece 177 (codes "Var") ((param 185 ty.Int (codes "a")) ∷ []) (a_constructor None (go (assign 190 (name 190 (codes "id")) 9 (name 195 (codes "a"))) done))) ∷ (piece 205 (codes "show") [] (a_body ty.Void None (go (alone 214 (call_on 214 (name 214 (codes "Io")) (codes "text") (then (text 222 (codes "x")) end))) (go (alone 228 (call_on 228 (name 228 (codes "Io")) (codes "print") (then (name 237 (codes "id")) end))) done)))) ∷ [])) { is_final = true; superclass = Some (codes "Expr") }) ∷ (record (class 261 (codes "Bin") ((piece 285 (codes "l") [] (a_field (ty.Class (codes "Expr")) false)) ∷ (piece 293 (codes "r") [] (a_field (ty.Class (codes "Expr")) false)) ∷ (piece 296 (codes "Bin") ((param 305 (ty.Class (codes "Expr")) (codes "a")) ∷ (param 313 (ty.Class (codes "Expr")) (codes "b")) ∷ []) (a_constructor None (go (assign 318 (name 318 (codes "l")) 9 (name 322 (codes "a"))) (go (assign 325 (name 325 (codes "r")) 9 (name 329 (codes "b"))) done)))) ∷ [])) { is_abstract = true; superclass = Some (codes "Expr") }) ∷ (record (class 348 (codes "Add") ((piece 366 (codes "Add") ((param 375 (ty.Class (codes "Expr")) (codes "a")) ∷ (param 383 (ty.Class (codes "Expr")) (codes "b")) ∷ []) (a_constructor (Some (then (name 394 (codes "a")) (then (name 397 (codes "b")) end))) done)) ∷ (piece 410 (codes "show") [] (a_body ty.Void None (go (alone 419 (call_on 419 (name 419 (codes "Io")) (codes "text") (then (text 427 (codes "(")) end))) (go (alone 433 (call_on 433 (name 433 (codes "l")) (codes "show") end)) (go (alone 443 (call_on 443 (name 443 (codes "Io")) (codes "text") (then (text 451 (codes "+")) end))) (go (alone 457 (call_on 457 (name 457 (codes "r")) (codes "show") end)) (go (alone 467 (call_on 467 (name 467 (codes "Io")) (codes "text") (then (text 475 (codes ")")) end))) done))))))) ∷ [])) { is_final = true; superclass = Some (codes "Bin") }) ∷ (record (class 497 (codes "Mul") ((piece 515 (codes "Mul") ((param 524 (ty.Class (codes "Expr")) (codes "a")) ∷ (param 532 (ty.Class (codes "Expr")) (codes "b")) ∷ []) (a_constructor (Some (then (name 543 (codes "a")) (then (name 546 (codes "b")) end))) done)) ∷ (piece 559 (codes "show") [] (a_body ty.Void None (go (alone 568 (call_on 568 (name 568 (codes "Io")) (codes "text") (then (text 576 (codes "(")) end))) (go (alone 582 (call_on 582 (name 582 (codes "l")) (codes "show") end)) (go (alone 592 (call_on 592 (name 592 (codes "Io")) (codes "text") (then (text 600 (codes "*")) end))) (go (alone 606 (call_on 606 (name 606 (codes "r")) (codes "show") end)) (go (alone 616 (call_on 616 (name 616 (codes "Io")) (codes "text") (then (text 624 (codes ")")) end))) done))))))) ∷ [])) { is_final = true; superclass = Some (codes "Bin") }) ∷ (record (class 646 (codes "Neg") ((piece 670 (codes "e") [] (a_field (ty.Class (codes "Expr")) false)) ∷ (piece 673 (codes "Neg") ((param 682 (ty.Class (codes "Expr")) (codes "a")) ∷ []) (a_constructor None (go (assign 687 (name 687 (codes "e")) 9 (name 691 (codes "a"))) done))) ∷ (piece 701 (codes "show") [] (a_body ty.Void None (go (alone 710 (call_on 710 (name 710 (codes "Io")) (codes "text") (then (text 718 (codes "-")) end))) (go (alone 724 (call_on 724 (name 724 (codes "e")) (codes "show") end)) done)))) ∷ [])) { is_final = true; superclass = Some (codes "Expr") }) ∷ []

-- its second unit, which simplifies them
abbrev pub simp_unit : List Sample
simp_unit = (class 7 (codes "Simp") ((piece 21 (codes "step") ((param 31 (ty.Class (codes "Expr")) (codes "e")) ∷ []) (a_body (ty.Class (codes "Expr")) None (go (return 36 (Some (name 43 (codes "e")))) done))) ∷ (piece 55 (codes "step") ((param 65 (ty.Class (codes "Expr")) (codes "e")) ∷ []) (a_body (ty.Class (codes "Expr")) (Some (and' 73 (and' 73 (and' 73 (is 73 (path_text 73 (codes "e") []) (codes "Add") (Some (codes "s"))) (is 87 (path_text 87 (codes "s") ((codes "l") ∷ [])) (codes "Num") None)) (compare 98 ((summand 98 false None (Some (path_text 98 (codes "s") ((codes "l") ∷ (codes "v") ∷ [])))) ∷ []) 25 ((summand 107 false (Some (0, false)) None) ∷ []))) (not' 112 (is 114 (path_text 114 (codes "s") ((codes "r") ∷ [])) (codes "Num") None)))) (go (return 125 (Some (field 132 (name 132 (codes "s")) (codes "r")))) done))) ∷ (piece 146 (codes "step") ((param 156 (ty.Class (codes "Expr")) (codes "e")) ∷ []) (a_body (ty.Class (codes "Expr")) (Some (and' 164 (and' 164 (and' 164 (is 164 (path_text 164 (codes "e") []) (codes "Add") (Some (codes "s"))) (is 178 (path_text 178 (codes "s") ((codes "r") ∷ [])) (codes "Num") None)) (compare 189 ((summand 189 false None (Some (path_text 189 (codes "s") ((codes "r") ∷ (codes "v") ∷ [])))) ∷ []) 25 ((summand 198 false (Some (0, false)) None) ∷ []))) (not' 203 (is 205 (path_text 205 (codes "s") ((codes "l") ∷ [])) (codes "Num") None)))) (go (return 216 (Some (field 223 (name 223 (codes "s")) (codes "l")))) done))) ∷ (piece 237 (codes "step") ((param 247 (ty.Class (codes "Expr")) (codes "e")) ∷ []) (a_body (ty.Class (codes "Expr")) (Some (and' 255 (and' 255 (is 255 (path_text 255 (codes "e") []) (codes "Add") (Some (codes "s"))) (is 269 (path_text 269 (codes "s") ((codes "l") ∷ [])) (codes "Num") (Some (codes "a")))) (is 285 (path_text 285 (codes "s") ((codes "r") ∷ [])) (codes "Num") (Some (codes "b"))))) (go (return 300 (Some (make 307 (codes "Num") (then (binary 315 16 (field 315 (name 315 (codes "a")) (codes "v")) (field 321 (name 321 (codes "b")) (codes "v"))) end)))) done))) ∷ (piece 336 (codes "step") ((param 346 (ty.Class (codes "Expr")) (codes "e")) ∷ []) (a_body (ty.Class (codes "Expr")) (Some (and' 354 (and' 354 (and' 354 (is 354 (path_text 354 (codes "e") []) (codes "Mul") (Some (codes "m"))) (is 368 (path_text 368 (codes "m") ((codes "l") ∷ [])) (codes "Num") None)) (compare 379 ((summand 379 false None (Some (path_text 379 (codes "m") ((codes "l") ∷ (codes "v") ∷ [])))) ∷ []) 25 ((summand 388 false (Some (1, false)) None) ∷ []))) (not' 393 (is 395 (path_text 395 (codes "m") ((codes "r") ∷ [])) (codes "Num") None)))) (go (return 406 (Some (field 413 (name 413 (codes "m")) (codes "r")))) done))) ∷ (piece 427 (codes "step") ((param 437 (ty.Class (codes "Expr")) (codes "e")) ∷ []) (a_body (ty.Class (codes "Expr")) (Some (and' 445 (and' 445 (and' 445 (is 445 (path_text 445 (codes "e") []) (codes "Mul") (Some (codes "m"))) (is 459 (path_text 459 (codes "m") ((codes "r") ∷ [])) (codes "Num") None)) (compare 470 ((summand 470 false None (Some (path_text 470 (codes "m") ((codes "r") ∷ (codes "v") ∷ [])))) ∷ []) 25 ((summand 479 false (Some (1, false)) None) ∷ []))) (not' 484 (is 486 (path_text 486 (codes "m") ((codes "l") ∷ [])) (codes "Num") None)))) (go (return 497 (Some (field 504 (name 504 (codes "m")) (codes "l")))) done))) ∷ (piece 518 (codes "step") ((param 528 (ty.Class (codes "Expr")) (codes "e")) ∷ []) (a_body (ty.Class (codes "Expr")) (Some (and' 536 (and' 536 (is 536 (path_text 536 (codes "e") []) (codes "Mul") (Some (codes "m"))) (is 550 (path_text 550 (codes "m") ((codes "l") ∷ [])) (codes "Num") (Some (codes "a")))) (is 566 (path_text 566 (codes "m") ((codes "r") ∷ [])) (codes "Num") (Some (codes "b"))))) (go (return 581 (Some (make 588 (codes "Num") (then (binary 596 18 (field 596 (name 596 (codes "a")) (codes "v")) (field 602 (name 602 (codes "b")) (codes "v"))) end)))) done))) ∷ (piece 617 (codes "step") ((param 627 (ty.Class (codes "Expr")) (codes "e")) ∷ []) (a_body (ty.Class (codes "Expr")) (Some (and' 635 (and' 635 (and' 635 (is 635 (path_text 635 (codes "e") []) (codes "Mul") (Some (codes "m"))) (is 649 (path_text 649 (codes "m") ((codes "l") ∷ [])) (codes "Num") None)) (compare 660 ((summand 660 false None (Some (path_text 660 (codes "m") ((codes "l") ∷ (codes "v") ∷ [])))) ∷ []) 25 ((summand 669 false (Some (0, false)) None) ∷ []))) (not' 674 (is 676 (path_text 676 (codes "m") ((codes "r") ∷ [])) (codes "Num") None)))) (go (return 687 (Some (make 694 (codes "Num") (then (number 702 0 false) end)))) done))) ∷ (piece 715 (codes "step") ((param 725 (ty.Class (codes "Expr")) (codes "e")) ∷ []) (a_body (ty.Class (codes "Expr")) (Some (and' 733 (and' 733 (and' 733 (is 733 (path_text 733 (codes "e") []) (codes "Mul") (Some (codes "m"))) (is 747 (path_text 747 (codes "m") ((codes "r") ∷ [])) (codes "Num") None)) (compare 758 ((summand 758 false None (Some (path_text 758 (codes "m") ((codes "r") ∷ (codes "v") ∷ [])))) ∷ []) 25 ((summand 767 false (Some (0, false)) None) ∷ []))) (not' 772 (is 774 (path_text 774 (codes "m") ((codes "l") ∷ [])) (codes "Num") None)))) (go (return 785 (Some (make 792 (codes "Num") (then (number 800 0 false) end)))) done))) ∷ (piece 813 (codes "step") ((param 823 (ty.Class (codes "Expr")) (codes "e")) ∷ []) (a_body (ty.Class (codes "Expr")) (Some (and' 831 (is 831 (path_text 831 (codes "e") []) (codes "Neg") (Some (codes "n"))) (is 845 (path_text 845 (codes "n") ((codes "e") ∷ [])) (codes "Num") (Some (codes "a"))))) (go (return 860 (Some (make 867 (codes "Num") (then (sign 875 17 (field 876 (name 876 (codes "a")) (codes "v"))) end)))) done))) ∷ [])) ∷ (subclass 892 (codes "Deep") (codes "Simp") ((piece 919 (codes "step") ((param 929 (ty.Class (codes "Expr")) (codes "e")) ∷ []) (a_body (ty.Class (codes "Expr")) (Some (and' 937 (is 937 (path_text 937 (codes "e") []) (codes "Neg") (Some (codes "n"))) (is 951 (path_text 951 (codes "n") ((codes "e") ∷ [])) (codes "Neg") (Some (codes "k"))))) (go (return 966 (Some (field 973 (name 973 (codes "k")) (codes "e")))) done))) ∷ (piece 987 (codes "walk") ((param 997 (ty.Class (codes "Expr")) (codes "e")) ∷ []) (a_body (ty.Class (codes "Expr")) None (go (return 1002 (Some (call 1009 (codes "step") (then (name 1014 (codes "e")) end)))) done))) ∷ (piece 1027 (codes "walk") ((param 1037 (ty.Class (codes "Expr")) (codes "e")) ∷ []) (a_body (ty.Class (codes "Expr")) (Some (is 1045 (path_text 1045 (codes "e") []) (codes "Add") (Some (codes "a")))) (go (return 1058 (Some (call 1065 (codes "step") (then (make 1070 (codes "Add") (then (call 1078 (codes "walk") (then (field 1083 (name 1083 (codes "a")) (codes "l")) end)) (then (call 1089 (codes "walk") (then (field 1094 (name 1094 (codes "a")) (codes "r")) end)) end))) end)))) done))) ∷ (piece 1111 (codes "walk") ((param 1121 (ty.Class (codes "Expr")) (codes "e")) ∷ []) (a_body (ty.Class (codes "Expr")) (Some (is 1129 (path_text 1129 (codes "e") []) (codes "Mul") (Some (codes "m")))) (go (return 1142 (Some (call 1149 (codes "step") (then (make 1154 (codes "Mul") (then (call 1162 (codes "walk") (then (field 1167 (name 1167 (codes "m")) (codes "l")) end)) (then (call 1173 (codes "walk") (then (field 1178 (name 1178 (codes "m")) (codes "r")) end)) end))) end)))) done))) ∷ (piece 1195 (codes "walk") ((param 1205 (ty.Class (codes "Expr")) (codes "e")) ∷ []) (a_body (ty.Class (codes "Expr")) (Some (is 1213 (path_text 1213 (codes "e") []) (codes "Neg") (Some (codes "n")))) (go (return 1226 (Some (call 1233 (codes "step") (then (make 1238 (codes "Neg") (then (call 1246 (codes "walk") (then (field 1251 (name 1251 (codes "n")) (codes "e")) end)) end)) end)))) done))) ∷ [])) ∷ []

-- its third unit
abbrev pub main_unit : List Sample
main_unit = (class 7 (codes "Main") ((piece 26 (codes "main") [] (a_static ty.Void (go (local 37 (ty.Class (codes "Deep")) (codes "d") (Some (make 46 (codes "Deep") end))) (go (local 58 (ty.Class (codes "Expr")) (codes "x") (Some (make 67 (codes "Var") (then (number 75 1 false) end)))) (go (alone 81 (call_on 81 (call_on 81 (name 81 (codes "d")) (codes "walk") (then (make 88 (codes "Add") (then (make 96 (codes "Mul") (then (make 104 (codes "Num") (then (number 112 1 false) end)) (then (name 116 (codes "x")) end))) (then (make 120 (codes "Mul") (then (make 128 (codes "Num") (then (number 136 0 false) end)) (then (make 140 (codes "Var") (then (number 148 2 false) end)) end))) end))) end)) (codes "show") end)) (go (alone 162 (call_on 162 (name 162 (codes "Io")) (codes "text") (then (text 170 (codes "n")) end))) (go (alone 178 (call_on 178 (call_on 178 (name 178 (codes "d")) (codes "walk") (then (make 185 (codes "Add") (then (make 193 (codes "Num") (then (number 201 2 false) end)) (then (make 205 (codes "Mul") (then (make 213 (codes "Num") (then (number 221 3 false) end)) (then (make 225 (codes "Num") (then (number 233 4 false) end)) end))) end))) end)) (codes "show") end)) (go (alone 247 (call_on 247 (name 247 (codes "Io")) (codes "text") (then (text 255 (codes "n")) end))) (go (alone 263 (call_on 263 (call_on 263 (name 263 (codes "d")) (codes "walk") (then (make 270 (codes "Neg") (then (make 278 (codes "Neg") (then (make 286 (codes "Add") (then (name 294 (codes "x")) (then (make 297 (codes "Neg") (then (make 305 (codes "Num") (then (number 313 5 false) end)) end)) end))) end)) end)) end)) (codes "show") end)) (go (alone 329 (call_on 329 (name 329 (codes "Io")) (codes "text") (then (text 337 (codes "n")) end))) done)))))))))) ∷ [])) ∷ []

-- `class A { int f() { return true; } int g() { return true; } }`, where the second method stands in front of the first
abbrev pub other_order : List Sample
other_order = (class 7 (codes "A") ((piece 115 (codes "f") [] (a_body ty.Int None (go (return 121 (Some (truth 128 true))) done))) ∷ (piece 40 (codes "g") [] (a_body ty.Int None (go (return 46 (Some (truth 53 true))) done))) ∷ [])) ∷ []

-- the heads of a unit
abbrev pub heads_in : List Sample → List Iface
heads_in ds = map head (unit ds).decls

-- it has no fault, and a resolved tree, where these heads are seen
abbrev pub PassesWith : List Iface → List Sample → Type 0
PassesWith others ds = (first_fault (unit ds) others ≡ None) × IsSome (made_unit (unit ds) others)

-- what they come to
pub record UnitsHold : Type 0 where
  pub expressions_are_sound : PassesWith [] expr_unit
  pub simplifying_is_sound : PassesWith (heads_in expr_unit) simp_unit
  pub the_main_class_is_sound : PassesWith (heads_in expr_unit ++ heads_in simp_unit) main_unit
  pub the_first_place_decides : Breaks other_order 46 37
