-- The worked examples of the rules of calls.
use Rattle.std.proofs.Common.{[], refl, ◌∙◌}
use Rattle.type_rules.specs.WorkedCalls.{no_such_method, another_count, another_type, a_static_call_of_a_method, a_call_of_a_static_method_on_an_object, a_private_method_of_another_class, a_call_without_result, a_text_as_a_value, a_number_as_a_text, calls, a_new_abstract_object, a_new_object_of_another_count, a_new_object_of_another_type, new_objects, super_of_object, super_of_an_abstract_class, super_calls, a_method_of_the_superclass, a_call_on_null, CallsHold}
use Rattle.type_rules.proofs.Computing.{first_is}
use Rattle.type_rules.proofs.Passing.{passes}

pub calls_hold : CallsHold
calls_hold = record {
  no_such_method_breaks_32 = first_is no_such_method [] ∙ refl;
  another_count_breaks_32 = first_is another_count [] ∙ refl;
  another_type_breaks_32 = first_is another_type [] ∙ refl;
  a_static_call_of_a_method_breaks_32 = first_is a_static_call_of_a_method [] ∙ refl;
  a_call_of_a_static_method_on_an_object_breaks_32 = first_is a_call_of_a_static_method_on_an_object [] ∙ refl;
  a_private_method_of_another_class_breaks_32 = first_is a_private_method_of_another_class [] ∙ refl;
  a_call_without_result_breaks_32 = first_is a_call_without_result [] ∙ refl;
  a_text_as_a_value_breaks_32 = first_is a_text_as_a_value [] ∙ refl;
  a_number_as_a_text_breaks_32 = first_is a_number_as_a_text [] ∙ refl;
  calls_passes = passes calls refl refl;
  a_new_abstract_object_breaks_33 = first_is a_new_abstract_object [] ∙ refl;
  a_new_object_of_another_count_breaks_33 = first_is a_new_object_of_another_count [] ∙ refl;
  a_new_object_of_another_type_breaks_33 = first_is a_new_object_of_another_type [] ∙ refl;
  new_objects_passes = passes new_objects refl refl;
  super_of_object_breaks_34 = first_is super_of_object [] ∙ refl;
  super_of_an_abstract_class_breaks_34 = first_is super_of_an_abstract_class [] ∙ refl;
  super_calls_passes = passes super_calls refl refl;
  a_method_of_the_superclass_passes = passes a_method_of_the_superclass refl refl;
  a_call_on_null_breaks_32 = first_is a_call_on_null [] ∙ refl;
}
