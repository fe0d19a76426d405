-- The first fault of a node's rules, one after the other, and of parameters.
use Rattle.std.proofs.Common.{◌≡◌, ℕ, ◌+◌, ◌<◌, List, [], ◌∷◌, ◌++◌, take, drop, length, get_or, Bool, Option, sym, ◌∙◌, ap}
use Rattle.std.proofs.lemmas.List.{take_more}
use Rattle.jp_ast.specs.declared.token.Place.{Place}
use Rattle.jp_ast.specs.declared.decl.Param.{Param}
use Rattle.type_rules.specs.declared.fault.TypeFault.{TypeFault}
use Rattle.type_rules.specs.Nodes.{AtParam}
use Rattle.type_rules.specs.Table.{fault_if, own_faults, faults_of}
use Rattle.type_rules.specs.Typing.{earlier}
use Rattle.type_rules.specs.Units.{param_visits}
use Rattle.type_heads.proofs.FaultLists.{earlier_append}
use Rattle.type_heads.proofs.Levels.{at_place}

-- a rule, and those behind it
pub then_rule : (p : Place) (n : ℕ) (old mid new : Option TypeFault) (broken rule : Bool) (rest : List TypeFault) →
    mid ≡ earlier old (fault_if p n broken) → broken ≡ rule → new ≡ earlier mid rest → new ≡ earlier old (fault_if p n rule ++ rest)
then_rule p n old mid new broken rule rest e b f =
    f ∙ (ap (λ (o : Option TypeFault). earlier o rest) (e ∙ ap (λ (c : Bool). earlier old (fault_if p n c)) b) ∙ earlier_append old (fault_if p n rule) rest)

-- a parameter, and those behind it
pub next_param : (old new : Option TypeFault) (ps : List Param) (i : ℕ) (q : Param) → i < length ps → q ≡ get_or ps i q →
    new ≡ earlier old (own_faults q.place (AtParam (take i ps) q)) →
    earlier new (faults_of (param_visits (take (i + 1) ps) (drop (i + 1) ps))) ≡ earlier old (faults_of (param_visits (take i ps) (drop i ps)))
next_param old new ps i q l e f =
    let rest = drop (i + 1) ps in
    let own = own_faults q.place (AtParam (take i ps) q) in
    let more : take (i + 1) ps ≡ take i ps ++ q ∷ [] = take_more ps i q l ∙ ap (λ (r : Param). take i ps ++ r ∷ []) (sym e) in
    ap (λ (o : Option TypeFault). earlier o (faults_of (param_visits (take (i + 1) ps) rest))) f
    ∙ (ap (λ (qs : List Param). earlier (earlier old own) (faults_of (param_visits qs rest))) more
    ∙ (earlier_append old own (faults_of (param_visits (take i ps ++ q ∷ []) rest))
    ∙ ap (λ (qs : List Param). earlier old (faults_of (param_visits (take i ps) qs))) (sym (at_place ps i q l e))))
