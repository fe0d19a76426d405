-- The first fault of lists, one after the other.
use Rattle.std.proofs.Common.{◌≡◌, List, [], ◌∷◌, ◌++◌, Option, Some, refl, sym, ap, ◌∙◌}
use Rattle.type_rules.specs.declared.fault.TypeFault.{TypeFault}
use Rattle.type_rules.specs.Nodes.{Visit}
use Rattle.type_rules.specs.Table.{faults_of}
use Rattle.type_rules.specs.Typing.{pick, earlier}
use Rattle.type_rules.proofs.Soundness.{faults_append}

pub earlier_append : (old : Option TypeFault) (fs gs : List TypeFault) → earlier (earlier old fs) gs ≡ earlier old (fs ++ gs)
earlier_append old [] gs = refl
earlier_append old (f ∷ fs) gs = earlier_append (Some (pick old f)) fs gs

-- that of two lists of nodes
pub then_faults : (old mid new : Option TypeFault) (vs ws : List Visit) → mid ≡ earlier old (faults_of vs) → new ≡ earlier mid (faults_of ws) → new ≡ earlier old (faults_of (vs ++ ws))
then_faults old mid new vs ws e f =
    f ∙ (ap (λ (o : Option TypeFault). earlier o (faults_of ws)) e ∙ (earlier_append old (faults_of vs) (faults_of ws) ∙ ap (earlier old) (sym (faults_append vs ws))))
