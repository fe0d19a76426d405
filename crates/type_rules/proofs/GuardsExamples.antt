-- The worked examples of the rules of guards.
use Rattle.std.proofs.Common.{[], refl, ◌∙◌}
use Rattle.type_rules.specs.WorkedGuards.{no_such_root, an_alias_further_right, an_alias_further_left, no_such_step, a_private_step, a_static_step, a_test_behind_or, a_test_behind_not, the_last_test, a_test_in_front, a_test_of_an_int, a_test_of_this, a_test_of_an_alias_of_this, a_test_of_a_field, a_test_of_a_stranger, a_cast_of_a_stranger, an_instance_of_a_stranger, a_cast_to_an_interface, an_int_and_null, an_array_and_null, a_boolean_in_a_comparison, ints_in_a_comparison, an_int_alone, a_boolean_alone, an_alias_behind_or, an_alias_behind_not, an_alias_behind_and, a_test_of_an_interface, an_alias_of_an_interface, tests_of_fields, GuardsHold}
use Rattle.type_rules.proofs.Computing.{first_is}
use Rattle.type_rules.proofs.Passing.{passes}

pub guards_hold : GuardsHold
guards_hold = record {
  no_such_root_breaks_13 = first_is no_such_root [] ∙ refl;
  an_alias_further_right_breaks_13 = first_is an_alias_further_right [] ∙ refl;
  an_alias_further_left_passes = passes an_alias_further_left refl refl;
  no_such_step_breaks_14 = first_is no_such_step [] ∙ refl;
  a_private_step_breaks_14 = first_is a_private_step [] ∙ refl;
  a_static_step_breaks_14 = first_is a_static_step [] ∙ refl;
  a_test_behind_or_breaks_14 = first_is a_test_behind_or [] ∙ refl;
  a_test_behind_not_breaks_14 = first_is a_test_behind_not [] ∙ refl;
  the_last_test_breaks_14 = first_is the_last_test [] ∙ refl;
  a_test_in_front_passes = passes a_test_in_front refl refl;
  a_test_of_an_int_breaks_15 = first_is a_test_of_an_int [] ∙ refl;
  a_test_of_this_breaks_15 = first_is a_test_of_this [] ∙ refl;
  a_test_of_an_alias_of_this_breaks_15 = first_is a_test_of_an_alias_of_this [] ∙ refl;
  a_test_of_a_field_passes = passes a_test_of_a_field refl refl;
  a_test_of_a_stranger_breaks_16 = first_is a_test_of_a_stranger [] ∙ refl;
  a_cast_of_a_stranger_breaks_16 = first_is a_cast_of_a_stranger [] ∙ refl;
  an_instance_of_a_stranger_breaks_16 = first_is an_instance_of_a_stranger [] ∙ refl;
  a_cast_to_an_interface_passes = passes a_cast_to_an_interface refl refl;
  an_int_and_null_breaks_17 = first_is an_int_and_null [] ∙ refl;
  an_array_and_null_passes = passes an_array_and_null refl refl;
  a_boolean_in_a_comparison_breaks_18 = first_is a_boolean_in_a_comparison [] ∙ refl;
  ints_in_a_comparison_passes = passes ints_in_a_comparison refl refl;
  an_int_alone_breaks_19 = first_is an_int_alone [] ∙ refl;
  a_boolean_alone_passes = passes a_boolean_alone refl refl;
  an_alias_behind_or_breaks_20 = first_is an_alias_behind_or [] ∙ refl;
  an_alias_behind_not_breaks_20 = first_is an_alias_behind_not [] ∙ refl;
  an_alias_behind_and_passes = passes an_alias_behind_and refl refl;
  a_test_of_an_interface_breaks_14 = first_is a_test_of_an_interface [] ∙ refl;
  an_alias_of_an_interface_passes = passes an_alias_of_an_interface refl refl;
  tests_of_fields_passes = passes tests_of_fields refl refl;
}
