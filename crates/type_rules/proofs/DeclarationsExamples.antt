-- The worked examples of the rules of declarations and members.
use Rattle.std.proofs.Common.{[], refl, ◌∙◌}
use Rattle.type_rules.specs.WorkedDeclarations.{a_refused_result_of_the_superclass, two_of_one_name, a_class_named_io, two_names, a_field_of_strings, a_parameter_of_io, a_local_of_strings, below_string, used_before_it_is_refused, a_field_of_objects, below_a_final_class, a_class_below_an_interface, below_a_class, a_class_as_an_interface, an_interface_twice, interfaces, below_each_other, interfaces_below_each_other, three_generations, a_field_of_the_superclass_again, a_field_twice, fields_of_two_classes, two_results, another_result_than_inherited, an_inherited_conflict, bodies_and_counts, static_and_not, a_private_one_above, static_counts, a_constructor_of_another_name, two_constructors_of_one_count, two_constructors, a_private_method, private_members, an_abstract_method_of_a_concrete_class, abstract_methods, no_constructor_without_arguments, an_argument_of_super, this_for_super, a_conflict_above, below_itself, DeclarationsHold}
use Rattle.type_rules.proofs.Computing.{first_is}
use Rattle.type_rules.proofs.Passing.{passes}

pub declarations_hold : DeclarationsHold
declarations_hold = record {
  a_refused_result_of_the_superclass_breaks_2 = first_is a_refused_result_of_the_superclass [] ∙ refl;
  two_of_one_name_breaks_1 = first_is two_of_one_name [] ∙ refl;
  a_class_named_io_breaks_1 = first_is a_class_named_io [] ∙ refl;
  two_names_passes = passes two_names refl refl;
  a_field_of_strings_breaks_2 = first_is a_field_of_strings [] ∙ refl;
  a_parameter_of_io_breaks_2 = first_is a_parameter_of_io [] ∙ refl;
  a_local_of_strings_breaks_2 = first_is a_local_of_strings [] ∙ refl;
  below_string_breaks_2 = first_is below_string [] ∙ refl;
  used_before_it_is_refused_breaks_2 = first_is used_before_it_is_refused [] ∙ refl;
  a_field_of_objects_passes = passes a_field_of_objects refl refl;
  below_a_final_class_breaks_3 = first_is below_a_final_class [] ∙ refl;
  a_class_below_an_interface_breaks_3 = first_is a_class_below_an_interface [] ∙ refl;
  below_a_class_passes = passes below_a_class refl refl;
  a_class_as_an_interface_breaks_4 = first_is a_class_as_an_interface [] ∙ refl;
  an_interface_twice_breaks_4 = first_is an_interface_twice [] ∙ refl;
  interfaces_passes = passes interfaces refl refl;
  below_each_other_breaks_5 = first_is below_each_other [] ∙ refl;
  interfaces_below_each_other_breaks_5 = first_is interfaces_below_each_other [] ∙ refl;
  three_generations_passes = passes three_generations refl refl;
  a_field_of_the_superclass_again_breaks_6 = first_is a_field_of_the_superclass_again [] ∙ refl;
  a_field_twice_breaks_6 = first_is a_field_twice [] ∙ refl;
  fields_of_two_classes_passes = passes fields_of_two_classes refl refl;
  two_results_breaks_7 = first_is two_results [] ∙ refl;
  another_result_than_inherited_breaks_7 = first_is another_result_than_inherited [] ∙ refl;
  an_inherited_conflict_breaks_7 = first_is an_inherited_conflict [] ∙ refl;
  bodies_and_counts_passes = passes bodies_and_counts refl refl;
  static_and_not_breaks_8 = first_is static_and_not [] ∙ refl;
  a_private_one_above_breaks_8 = first_is a_private_one_above [] ∙ refl;
  static_counts_passes = passes static_counts refl refl;
  a_constructor_of_another_name_breaks_9 = first_is a_constructor_of_another_name [] ∙ refl;
  two_constructors_of_one_count_breaks_9 = first_is two_constructors_of_one_count [] ∙ refl;
  two_constructors_passes = passes two_constructors refl refl;
  a_private_method_breaks_10 = first_is a_private_method [] ∙ refl;
  private_members_passes = passes private_members refl refl;
  an_abstract_method_of_a_concrete_class_breaks_11 = first_is an_abstract_method_of_a_concrete_class [] ∙ refl;
  abstract_methods_passes = passes abstract_methods refl refl;
  no_constructor_without_arguments_breaks_35 = first_is no_constructor_without_arguments [] ∙ refl;
  an_argument_of_super_breaks_35 = first_is an_argument_of_super [] ∙ refl;
  this_for_super_passes = passes this_for_super refl refl;
  a_conflict_above_breaks_7 = first_is a_conflict_above [] ∙ refl;
  below_itself_breaks_5 = first_is below_itself [] ∙ refl;
}
