-- A unit within the limits that are told to users is within what its passes ask.
use Rattle.std.specs.Prelude.{◌≡◌, ◌≤◌, List, [], true, None}
use Rattle.jp_pred.specs.declared.hier.Hier.{Hier}
use Rattle.jp_pred.specs.Names.{In}
use Rattle.iface_codec.specs.declared.iface.Iface.{Iface}
use Rattle.jp_ast.specs.declared.decl.SourceUnit.{SourceUnit}
use Rattle.jp_meaning.specs.declared.unit.TypedMember.{TypedMember}
use Rattle.jp_meaning.specs.declared.unit.TypedClass.{TypedClass}
use Rattle.jp_meaning.specs.declared.unit.TypedUnit.{TypedUnit}
use Rattle.type_rules.specs.Heads.{heads_of}
use Rattle.type_rules.specs.Typing.{IsTyped}
use Rattle.code_asm.specs.Lines.{lines_of}
use Rattle.gen_body.specs.Members.{member_code}
use Rattle.gen_body.specs.Correct.{slots_of}
use Rattle.gen_code.specs.Compiled.{are_written}
use Rattle.typed_code.specs.Limits.{have_few_params}
use Rattle.type_decl.specs.Limits.{unit_fits}
use Rattle.unit_limits.specs.Members.{first_over}

-- its declarations and members are small enough to be typed
abbrev pub WithinIsFit : Type 0
WithinIsFit = (unit : SourceUnit) → first_over unit ≡ None → unit_fits unit ≡ true

-- the parameters and the receiver of each method can be counted in one byte
abbrev pub WithinHasFewParams : Type 0
WithinHasFewParams = (unit : SourceUnit) → first_over unit ≡ None → have_few_params (heads_of unit.decls []) ≡ true

-- a resolved member has a slot for each value that it starts with, whatever its size
abbrev pub TypedHasSlots : Type 0
TypedHasSlots =
    (unit : SourceUnit) (others : List Iface) (tree : TypedUnit) → IsTyped unit others tree →
    (c : TypedClass) (m : TypedMember) → In c tree.classes → In m c.members → slots_of c.head m.part ≤ m.locals

-- and at most as many slots as a member may have locals
abbrev pub WithinHasFewLocals : Type 0
WithinHasFewLocals =
    (unit : SourceUnit) (tree : TypedUnit) → IsTyped unit [] tree → first_over unit ≡ None → (c : TypedClass) (m : TypedMember) →
    In c tree.classes → In m c.members → m.locals ≤ 200

-- so the writer can lay out the lines of each member
abbrev pub TypedIsWithin : Type 0
TypedIsWithin =
    (unit : SourceUnit) (tree : TypedUnit) → IsTyped unit [] tree → first_over unit ≡ None → (hier : Hier) (c : TypedClass) (m : TypedMember) →
    In c tree.classes → In m c.members → are_written (member_code hier c.head m).next (lines_of (member_code hier c.head m).items) ≡ true
