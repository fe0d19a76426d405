-- The code of a unit without a fault can be written.
use Rattle.std.specs.Prelude.{◌≡◌, ◌≤◌, List, [], true}
use Rattle.std.specs.List.{list_all}
use Rattle.jp_pred.specs.declared.hier.Hier.{Hier}
use Rattle.jp_pred.specs.Names.{In}
use Rattle.iface_codec.specs.declared.iface.Iface.{Iface}
use Rattle.jp_ast.specs.declared.decl.SourceUnit.{SourceUnit}
use Rattle.jp_meaning.specs.declared.unit.TypedMember.{TypedMember}
use Rattle.jp_meaning.specs.declared.unit.TypedClass.{TypedClass}
use Rattle.jp_meaning.specs.declared.unit.TypedUnit.{TypedUnit}
use Rattle.type_rules.specs.Heads.{heads_of}
use Rattle.type_rules.specs.Typing.{IsTyped}
use Rattle.code_asm.specs.Lines.{lines_of}
use Rattle.code_asm.specs.Written.{AreMeant}
use Rattle.gen_body.specs.Members.{member_code}
use Rattle.gen_code.specs.Compiled.{are_written}
use Rattle.typed_fits.specs.Laws.{has_plain_names}
use Rattle.code_fits.specs.Encodable.{stays_in, member_is_encodable}
use Rattle.code_fits.specs.Ordinary.{member_calls_ordinary}
use Rattle.typed_code.specs.Limits.{have_few_params, has_ordinary_methods}

-- each `break` and `continue` stands in a loop, whatever classes of other units are seen
abbrev pub TypedJumpsStandInLoops : Type 0
TypedJumpsStandInLoops =
    (unit : SourceUnit) (others : List Iface) (tree : TypedUnit) → IsTyped unit others tree → list_all (λ c. list_all stays_in c.members) tree.classes ≡ true

-- where methods have few parameters, each member with so few locals is encodable
abbrev pub TypedIsEncodable : Type 0
TypedIsEncodable =
    (unit : SourceUnit) (others : List Iface) (tree : TypedUnit) → IsTyped unit others tree → have_few_params (heads_of unit.decls others) ≡ true →
    (c : TypedClass) (m : TypedMember) → In c tree.classes → In m c.members → m.locals ≤ 256 → member_is_encodable c.head m ≡ true

-- so the writer can always lay out its lines
abbrev pub TypedIsWritten : Type 0
TypedIsWritten =
    (unit : SourceUnit) (others : List Iface) (tree : TypedUnit) → IsTyped unit others tree → have_few_params (heads_of unit.decls others) ≡ true →
    (hier : Hier) (c : TypedClass) (m : TypedMember) → In c tree.classes → In m c.members → m.locals ≤ 256 →
    are_written (member_code hier c.head m).next (lines_of (member_code hier c.head m).items) ≡ true

-- In a unit that names no other, whose names are as those that are read from a text, each member calls ordinary methods
abbrev pub TypedCallsOrdinary : Type 0
TypedCallsOrdinary =
    (unit : SourceUnit) (tree : TypedUnit) → IsTyped unit [] tree → list_all has_plain_names unit.decls ≡ true → list_all has_ordinary_methods unit.decls ≡ true →
    (c : TypedClass) (m : TypedMember) → In c tree.classes → In m c.members → member_calls_ordinary c.head m ≡ true

-- and so its code names each method with the signature of its descriptor
abbrev pub TypedIsMeant : Type 0
TypedIsMeant =
    (unit : SourceUnit) (tree : TypedUnit) → IsTyped unit [] tree → list_all has_plain_names unit.decls ≡ true → list_all has_ordinary_methods unit.decls ≡ true →
    (hier : Hier) (c : TypedClass) (m : TypedMember) → In c tree.classes → In m c.members → AreMeant (member_code hier c.head m).items
