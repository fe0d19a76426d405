use Rattle.std.proofs.Common.{sym, ◌∙◌}
use Rattle.jp_parse_decl.proofs.HeadFacts.{interface_gives, abstract_gives, final_gives, class_gives}
use Rattle.jp_parse_decl.proofs.heads.declared.Goals as goal

pub returns-in-Interface-clause-gives : goal.returns-in-Interface-clause-gives
returns-in-Interface-clause-gives c =
    interface_gives c.front.result.0.now c.front.result.1.now c.args.tokens.now c.front.ensures.split c.interface.result (sym c.kind_of.ensures ∙ c.in-Interface.is) c.interface.ensures.gives

pub returns-in-Abstract-clause-gives : goal.returns-in-Abstract-clause-gives
returns-in-Abstract-clause-gives c =
    abstract_gives c.front.result.0.now c.front.result.1.now c.args.tokens.now c.front.ensures.split c.class.result (sym c.kind_of.ensures ∙ c.in-Abstract.is) c.class.ensures.gives

pub returns-in-Final-clause-gives : goal.returns-in-Final-clause-gives
returns-in-Final-clause-gives c =
    final_gives c.front.result.0.now c.front.result.1.now c.args.tokens.now c.front.ensures.split c.class-in-Final.result (sym c.kind_of.ensures ∙ c.in-Final.is) c.class-in-Final.ensures.gives

pub returns-in_default-clause-gives : goal.returns-in_default-clause-gives
returns-in_default-clause-gives c =
    class_gives c.front.result.0.now c.front.result.1.now c.args.tokens.now c.front.ensures.split c.class-in_default.result (record { no_interface = λ h. c.in_default.not-Interface (c.kind_of.ensures ∙ h); no_abstract = λ h. c.in_default.not-Abstract (c.kind_of.ensures ∙ h); no_final = λ h. c.in_default.not-Final (c.kind_of.ensures ∙ h) }) c.class-in_default.ensures.gives
