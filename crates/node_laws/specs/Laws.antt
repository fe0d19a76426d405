-- How many nodes resolved members have, and what it says of their code.
use Rattle.std.specs.Prelude.{◌≡◌, ℕ, ◌*◌, ◌≤◌, List, true}
use Rattle.std.specs.List.{list_all}
use Rattle.jp_pred.specs.declared.hier.Hier.{Hier}
use Rattle.jp_pred.specs.Names.{In}
use Rattle.iface_codec.specs.declared.iface.Iface.{Iface}
use Rattle.jp_ast.specs.declared.decl.SourceUnit.{SourceUnit}
use Rattle.jp_meaning.specs.declared.unit.TypedMember.{TypedMember}
use Rattle.jp_meaning.specs.declared.unit.TypedClass.{TypedClass}
use Rattle.jp_meaning.specs.declared.unit.TypedUnit.{TypedUnit}
use Rattle.type_rules.specs.Typing.{IsTyped}
use Rattle.gen_body.specs.Members.{member_code}
use Rattle.gen_bounds.specs.Nodes.{member_nodes}
use Rattle.gen_bounds.specs.Limits.{HasFewAliases}
use Rattle.gen_bounds.specs.Laws.{HasRoom}
use Rattle.node_laws.specs.Written.{has_at_most}

-- A written node is resolved to two at most: a field or a method of the own class that is named alone is one of `this`
abbrev pub ResolvedNodesAreFew : Type 0
ResolvedNodesAreFew =
    (unit : SourceUnit) (others : List Iface) (tree : TypedUnit) (most : ℕ) → IsTyped unit others tree → list_all (has_at_most most) unit.decls ≡ true →
    (c : TypedClass) → In c tree.classes → (m : TypedMember) → In m c.members → member_nodes m ≤ 2 * most

-- so within the limit on written nodes, and those on aliases, no code is too long and no jump leads too far
abbrev pub WrittenLimitsLeaveRoom : Type 0
WrittenLimitsLeaveRoom =
    (unit : SourceUnit) (others : List Iface) (tree : TypedUnit) → IsTyped unit others tree → list_all (has_at_most 1200) unit.decls ≡ true →
    (hier : Hier) (c : TypedClass) → In c tree.classes → (m : TypedMember) → In m c.members → HasFewAliases c.head m → HasRoom (member_code hier c.head m).items
