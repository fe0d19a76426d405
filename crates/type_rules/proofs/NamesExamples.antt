-- The worked examples of the rules of names.
use Rattle.std.proofs.Common.{[], refl, ◌∙◌}
use Rattle.type_rules.specs.WorkedNames.{two_parameters_of_one_name, a_local_as_a_parameter, an_alias_as_a_parameter, blocks_one_after_another, no_such_name, a_private_field_of_the_superclass, an_interface_before_a_dot, a_local_in_its_own_value, a_local_of_a_loop_behind_it, a_class_before_a_dot, a_private_field_of_a_subclass_object, this_in_a_static_method, a_field_in_a_static_method, a_method_in_a_static_method, a_static_field_in_a_static_method, two_aliases_of_one_name, a_local_of_a_single_statement, a_parameter_before_a_field, NamesHold}
use Rattle.type_rules.proofs.Computing.{first_is}
use Rattle.type_rules.proofs.Passing.{passes}

pub names_hold : NamesHold
names_hold = record {
  two_parameters_of_one_name_breaks_12 = first_is two_parameters_of_one_name [] ∙ refl;
  a_local_as_a_parameter_breaks_12 = first_is a_local_as_a_parameter [] ∙ refl;
  an_alias_as_a_parameter_breaks_12 = first_is an_alias_as_a_parameter [] ∙ refl;
  blocks_one_after_another_passes = passes blocks_one_after_another refl refl;
  no_such_name_breaks_22 = first_is no_such_name [] ∙ refl;
  a_private_field_of_the_superclass_breaks_22 = first_is a_private_field_of_the_superclass [] ∙ refl;
  an_interface_before_a_dot_breaks_22 = first_is an_interface_before_a_dot [] ∙ refl;
  a_local_in_its_own_value_breaks_22 = first_is a_local_in_its_own_value [] ∙ refl;
  a_local_of_a_loop_behind_it_breaks_22 = first_is a_local_of_a_loop_behind_it [] ∙ refl;
  a_class_before_a_dot_passes = passes a_class_before_a_dot refl refl;
  a_private_field_of_a_subclass_object_passes = passes a_private_field_of_a_subclass_object refl refl;
  this_in_a_static_method_breaks_23 = first_is this_in_a_static_method [] ∙ refl;
  a_field_in_a_static_method_breaks_23 = first_is a_field_in_a_static_method [] ∙ refl;
  a_method_in_a_static_method_breaks_23 = first_is a_method_in_a_static_method [] ∙ refl;
  a_static_field_in_a_static_method_passes = passes a_static_field_in_a_static_method refl refl;
  two_aliases_of_one_name_breaks_12 = first_is two_aliases_of_one_name [] ∙ refl;
  a_local_of_a_single_statement_breaks_22 = first_is a_local_of_a_single_statement [] ∙ refl;
  a_parameter_before_a_field_passes = passes a_parameter_before_a_field refl refl;
}
