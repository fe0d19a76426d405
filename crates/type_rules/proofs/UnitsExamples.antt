-- The worked examples of whole units.
use Rattle.std.proofs.Common.{◌≡◌, List, [], ◌++◌, None, true, refl, ap, ◌∙◌}
use Rattle.std.specs.Prelude.{is_some}
use Rattle.iface_codec.specs.declared.iface.Iface.{Iface}
use Rattle.type_rules.specs.Samples.{Sample}
use Rattle.type_rules.specs.WorkedUnits.{expr_unit, simp_unit, main_unit, other_order, heads_in, PassesWith, UnitsHold}
use Rattle.type_rules.proofs.Computing.{first', made', first_is, made_is}

passes_with : (others : List Iface) (ds : List Sample) → first' ds others ≡ None → is_some (made' ds others) ≡ true → PassesWith others ds
passes_with others ds e t = (first_is ds others ∙ e, ap is_some (made_is ds others) ∙ t)

expressions : PassesWith [] expr_unit
expressions = passes_with [] expr_unit refl refl

simplifying : PassesWith (heads_in expr_unit) simp_unit
simplifying = passes_with (heads_in expr_unit) simp_unit refl refl

main_class : PassesWith (heads_in expr_unit ++ heads_in simp_unit) main_unit
main_class = passes_with (heads_in expr_unit ++ heads_in simp_unit) main_unit refl refl

pub units_hold : UnitsHold
units_hold = record {
  expressions_are_sound = expressions;
  simplifying_is_sound = simplifying;
  the_main_class_is_sound = main_class;
  the_first_place_decides = first_is other_order [] ∙ refl;
}
