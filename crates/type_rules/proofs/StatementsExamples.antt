-- The worked examples of the rules of statements.
use Rattle.std.proofs.Common.{[], refl, ◌∙◌}
use Rattle.type_rules.specs.WorkedStatements.{a_changed_number, a_changed_length, a_changed_call, a_value_of_another_type, an_assigned_value_of_another_type, a_boolean_counted_up, an_expression_alone, two_rules_at_one_place, changes, another_result, a_result_of_a_void_method, no_result, a_break_outside_a_loop, leaving, no_statements, a_loop_with_a_break, an_if_without_else, endless_loops, faults_at_two_places, a_changed_field_that_is_not_there, a_result_of_a_constructor, a_static_method_that_completes, StatementsHold}
use Rattle.type_rules.proofs.Computing.{first_is}
use Rattle.type_rules.proofs.Passing.{passes}

pub statements_hold : StatementsHold
statements_hold = record {
  a_changed_number_breaks_36 = first_is a_changed_number [] ∙ refl;
  a_changed_length_breaks_36 = first_is a_changed_length [] ∙ refl;
  a_changed_call_breaks_36 = first_is a_changed_call [] ∙ refl;
  a_value_of_another_type_breaks_36 = first_is a_value_of_another_type [] ∙ refl;
  an_assigned_value_of_another_type_breaks_36 = first_is an_assigned_value_of_another_type [] ∙ refl;
  a_boolean_counted_up_breaks_36 = first_is a_boolean_counted_up [] ∙ refl;
  an_expression_alone_breaks_36 = first_is an_expression_alone [] ∙ refl;
  two_rules_at_one_place_breaks_22 = first_is two_rules_at_one_place [] ∙ refl;
  changes_passes = passes changes refl refl;
  another_result_breaks_37 = first_is another_result [] ∙ refl;
  a_result_of_a_void_method_breaks_37 = first_is a_result_of_a_void_method [] ∙ refl;
  no_result_breaks_37 = first_is no_result [] ∙ refl;
  a_break_outside_a_loop_breaks_37 = first_is a_break_outside_a_loop [] ∙ refl;
  leaving_passes = passes leaving refl refl;
  no_statements_breaks_38 = first_is no_statements [] ∙ refl;
  a_loop_with_a_break_breaks_38 = first_is a_loop_with_a_break [] ∙ refl;
  an_if_without_else_breaks_38 = first_is an_if_without_else [] ∙ refl;
  endless_loops_passes = passes endless_loops refl refl;
  faults_at_two_places_breaks_24 = first_is faults_at_two_places [] ∙ refl;
  a_changed_field_that_is_not_there_breaks_30 = first_is a_changed_field_that_is_not_there [] ∙ refl;
  a_result_of_a_constructor_breaks_37 = first_is a_result_of_a_constructor [] ∙ refl;
  a_static_method_that_completes_breaks_38 = first_is a_static_method_that_completes [] ∙ refl;
}
