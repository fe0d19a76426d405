-- The worked examples of the rules of expressions.
use Rattle.std.proofs.Common.{[], refl, ◌∙◌}
use Rattle.type_rules.specs.WorkedExpressions.{a_number_that_is_too_large, a_sum_that_is_negated, a_factor_that_is_too_large, the_least_number, an_int_and_a_boolean, beside_a_fault, behind_a_fault, the_complement_of_a_boolean, shifts, not_an_int, an_int_as_a_condition, an_int_behind_and, conditions, bits_of_two_types, bits, an_int_equals_a_boolean, an_object_equals_an_array, strangers_are_equal, references_are_equal, an_int_as_an_instance, null_as_an_instance, arms_of_two_types, null_as_an_arm, no_such_field, a_static_field_of_an_object, a_length_of_an_object, lengths, an_element_of_an_int, a_boolean_as_a_size, elements, an_instance_field_of_a_class, null_and_an_int, ExpressionsHold}
use Rattle.type_rules.proofs.Computing.{first_is}
use Rattle.type_rules.proofs.Passing.{passes}

pub expressions_hold : ExpressionsHold
expressions_hold = record {
  a_number_that_is_too_large_breaks_21 = first_is a_number_that_is_too_large [] ∙ refl;
  a_sum_that_is_negated_breaks_21 = first_is a_sum_that_is_negated [] ∙ refl;
  a_factor_that_is_too_large_breaks_21 = first_is a_factor_that_is_too_large [] ∙ refl;
  the_least_number_passes = passes the_least_number refl refl;
  an_int_and_a_boolean_breaks_24 = first_is an_int_and_a_boolean [] ∙ refl;
  beside_a_fault_breaks_24 = first_is beside_a_fault [] ∙ refl;
  behind_a_fault_breaks_24 = first_is behind_a_fault [] ∙ refl;
  the_complement_of_a_boolean_breaks_24 = first_is the_complement_of_a_boolean [] ∙ refl;
  shifts_passes = passes shifts refl refl;
  not_an_int_breaks_25 = first_is not_an_int [] ∙ refl;
  an_int_as_a_condition_breaks_25 = first_is an_int_as_a_condition [] ∙ refl;
  an_int_behind_and_breaks_25 = first_is an_int_behind_and [] ∙ refl;
  conditions_passes = passes conditions refl refl;
  bits_of_two_types_breaks_26 = first_is bits_of_two_types [] ∙ refl;
  bits_passes = passes bits refl refl;
  an_int_equals_a_boolean_breaks_27 = first_is an_int_equals_a_boolean [] ∙ refl;
  an_object_equals_an_array_breaks_27 = first_is an_object_equals_an_array [] ∙ refl;
  strangers_are_equal_breaks_27 = first_is strangers_are_equal [] ∙ refl;
  references_are_equal_passes = passes references_are_equal refl refl;
  an_int_as_an_instance_breaks_28 = first_is an_int_as_an_instance [] ∙ refl;
  null_as_an_instance_passes = passes null_as_an_instance refl refl;
  arms_of_two_types_breaks_29 = first_is arms_of_two_types [] ∙ refl;
  null_as_an_arm_passes = passes null_as_an_arm refl refl;
  no_such_field_breaks_30 = first_is no_such_field [] ∙ refl;
  a_static_field_of_an_object_breaks_30 = first_is a_static_field_of_an_object [] ∙ refl;
  a_length_of_an_object_breaks_30 = first_is a_length_of_an_object [] ∙ refl;
  lengths_passes = passes lengths refl refl;
  an_element_of_an_int_breaks_31 = first_is an_element_of_an_int [] ∙ refl;
  a_boolean_as_a_size_breaks_31 = first_is a_boolean_as_a_size [] ∙ refl;
  elements_passes = passes elements refl refl;
  an_instance_field_of_a_class_breaks_30 = first_is an_instance_field_of_a_class [] ∙ refl;
  null_and_an_int_breaks_24 = first_is null_and_an_int [] ∙ refl;
}
