use Rattle.std.proofs.Common.{Option, refl, sym, ap, ◌∙◌}
use Rattle.std.specs.Borrow.{Bor}
use Rattle.std.specs.Option.{option_copied, option_to_list}
use Rattle.std.proofs.lemmas.Result.{IfOk-weaker}
use Rattle.iface_codec.specs.declared.iface.Iface.{Iface}
use Rattle.type_rules.specs.Lookups.{constructor_of}
use Rattle.type_decl.proofs.Constructing.{params_found, none_found}
use Rattle.type_decl.proofs.supers.params_above.Goals as goal

pub returns-in-Some : goal.returns-in-Some
returns-in-Some c =
    IfOk-weaker c.params_of.result _ _ (λ tys g. g ∙
    params_found c.args.heads.now c.args.decl.now c.args.count c.in-Some.class.now (constructor_of c.in-Some.class.now c.args.count)
    (ap (λ (o : Option (Bor Iface)). option_to_list (option_copied o)) (sym c.in-Some.is) ∙ c.in_ok-class.ensures) refl) c.params_of.ensures

pub returns-in-None : goal.returns-in-None
returns-in-None c =
    c.new.ensures ∙ none_found c.args.heads.now c.args.decl.now c.args.count
    (ap (λ (o : Option (Bor Iface)). option_to_list (option_copied o)) (sym c.in-None.is) ∙ c.in_ok-class.ensures)
