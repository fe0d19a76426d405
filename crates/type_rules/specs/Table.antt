-- The table of the rules, and the faults of nodes.
use Rattle.std.specs.Prelude.{ℕ, List, [], ◌∷◌, Bool, if◌then◌else◌}
use Rattle.std.specs.List.{flat_map}
use Rattle.jp_ast.specs.declared.token.Place.{Place}
use Rattle.type_rules.specs.declared.fault.TypeFault.{TypeFault}
use Rattle.type_rules.specs.Nodes.{Node, Visit, Rule}
use Rattle.type_rules.specs.RulesOfDeclarations.{rule_1, rule_2, rule_3, rule_4, rule_5, rule_6, rule_7, rule_8, rule_9, rule_10, rule_11, rule_35}
use Rattle.type_rules.specs.RulesOfNames.{rule_12, rule_22, rule_23}
use Rattle.type_rules.specs.RulesOfGuards.{rule_13, rule_14, rule_15, rule_16, rule_17, rule_18, rule_19, rule_20}
use Rattle.type_rules.specs.RulesOfExpressions.{rule_21, rule_24, rule_25, rule_26, rule_27, rule_28, rule_29, rule_30, rule_31, rule_32, rule_33, rule_34}
use Rattle.type_rules.specs.RulesOfStatements.{rule_36, rule_37, rule_38}

-- the rules with their numbers
abbrev pub all_rules : List Rule
all_rules = (1, rule_1) ∷ (2, rule_2) ∷ (3, rule_3) ∷ (4, rule_4) ∷ (5, rule_5) ∷ (6, rule_6) ∷ (7, rule_7) ∷ (8, rule_8) ∷ (9, rule_9) ∷ (10, rule_10)
    ∷ (11, rule_11) ∷ (12, rule_12) ∷ (13, rule_13) ∷ (14, rule_14) ∷ (15, rule_15) ∷ (16, rule_16) ∷ (17, rule_17) ∷ (18, rule_18) ∷ (19, rule_19)
    ∷ (20, rule_20) ∷ (21, rule_21) ∷ (22, rule_22) ∷ (23, rule_23) ∷ (24, rule_24) ∷ (25, rule_25) ∷ (26, rule_26) ∷ (27, rule_27) ∷ (28, rule_28)
    ∷ (29, rule_29) ∷ (30, rule_30) ∷ (31, rule_31) ∷ (32, rule_32) ∷ (33, rule_33) ∷ (34, rule_34) ∷ (35, rule_35) ∷ (36, rule_36) ∷ (37, rule_37)
    ∷ (38, rule_38) ∷ []

-- the fault at the place, where the rule is broken
abbrev pub fault_if : Place → ℕ → Bool → List TypeFault
fault_if p rule broken = if broken then record { place = p; rule = rule } ∷ [] else []

-- the faults of a node at a place
abbrev pub own_faults : Place → Node → List TypeFault
own_faults p n = flat_map (λ r. fault_if p r.0 (r.1 n)) all_rules

-- the faults of nodes that are visited
abbrev pub faults_of : List Visit → List TypeFault
faults_of visits = flat_map (λ v. own_faults v.place v.node) visits
