-- How much code the members of a unit without guards have, where it is within the limits.
use Rattle.std.specs.Prelude.{◌≡◌, ◌≤◌, List, length, None}
use Rattle.jp_pred.specs.declared.hier.Hier.{Hier}
use Rattle.jp_pred.specs.Names.{In}
use Rattle.iface_codec.specs.declared.iface.Iface.{Iface}
use Rattle.jp_ast.specs.declared.decl.SourceUnit.{SourceUnit}
use Rattle.jp_meaning.specs.declared.unit.TypedMember.{TypedMember}
use Rattle.jp_meaning.specs.declared.unit.TypedClass.{TypedClass}
use Rattle.jp_meaning.specs.declared.unit.TypedUnit.{TypedUnit}
use Rattle.type_rules.specs.Typing.{IsTyped}
use Rattle.gen_body.specs.Members.{member_code}
use Rattle.gen_bounds.specs.Laws.{HasRoom}
use Rattle.unit_limits.specs.Members.{first_over}
use Rattle.plain_form.specs.Forms.{HasNoGuards}

-- No body reads an alias on entry, and no member has more than 1,200 written nodes, so code has few items
abbrev pub PlainHasFewItems : Type 0
PlainHasFewItems = (unit : SourceUnit) (others : List Iface) (tree : TypedUnit) → IsTyped unit others tree → first_over unit ≡ None → HasNoGuards unit →
    (hier : Hier) (c : TypedClass) (m : TypedMember) → In c tree.classes → In m c.members → length (member_code hier c.head m).items ≤ 65536

-- and no code is too long and no jump leads too far
abbrev pub PlainHasRoom : Type 0
PlainHasRoom = (unit : SourceUnit) (others : List Iface) (tree : TypedUnit) → IsTyped unit others tree → first_over unit ≡ None → HasNoGuards unit →
    (hier : Hier) (c : TypedClass) (m : TypedMember) → In c tree.classes → In m c.members → HasRoom (member_code hier c.head m).items
