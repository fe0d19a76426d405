-- Why a class has no file.
use Rattle.std.specs.Prelude.{◌≡◌, ℕ, ◌+◌, ◌<◌, Bool, false, ◌&&◌, nat_lt, List, ◌∷◌, length, take, Some, slice_get, Err, ◌⊎◌}
use Rattle.std.specs.List.{filter_map}
use Rattle.class_form.specs.declared.constant.Const.{Const}
use Rattle.class_form.specs.declared.constant.Const.TheVariants.{Unused}
use Rattle.class_form.specs.WellFormed.{pool_fits}
use Rattle.jp_pred.specs.declared.hier.Hier.{Hier}
use Rattle.iface_codec.specs.declared.iface.Iface.{Iface}
use Rattle.jp_meaning.specs.declared.unit.TypedMember.{TypedMember}
use Rattle.jp_meaning.specs.declared.unit.TypedClass.{TypedClass}
use Rattle.code_asm.specs.declared.fault.AsmFault.{AsmFault}
use Rattle.code_asm.specs.declared.fault.AsmFault.TheVariants.{Full, TooLong, FarJump, OutOfMemory}
use Rattle.code_asm.specs.Lines.{lines_of}
use Rattle.code_asm.specs.Assembled.{Assembles}
use Rattle.gen_body.specs.Members.{member_code}
use Rattle.gen_code.specs.Compiled.{are_written}
use Rattle.gen_code.specs.declared.fault.BodyFault.{BodyFault}
use Rattle.gen_code.specs.declared.fault.BodyFault.TheVariants.{Unfit, Asm}
use Rattle.gen_laws.specs.Compiled.{Name, name_of_part}
use Rattle.gen_class.specs.Asked.{with_name, with_member, with_members, front_constants, class_constants}

-- a member's lines can't be laid out
abbrev pub IsUnlaid : Hier → Iface → TypedMember → Type 0
IsUnlaid hier head m = are_written (member_code hier head m).next (lines_of (member_code hier head m).items) ≡ false

-- a member's lines are assembled to a fault behind some constants, with some places of the stack
abbrev pub FailsSo : Hier → Iface → List Const → TypedMember → AsmFault → Type 0
FailsSo hier head list m fault =
    (new : List Const) × (stack : ℕ) × Assembles (lines_of (member_code hier head m).items) list new stack m.locals (Err fault)

-- a member has statements, and so a name, of which it is so
abbrev pub Written : Iface → TypedMember → (Name → Type 0) → Type 0
Written head m P = (name : Name) × (name_of_part head m.part ≡ Some name) × P name

-- Why a member has no method, where there are some constants: its lines can't be laid out; the constants with what it asks for
-- are more than 65,535; behind its name its code is too long, or a jump in it too far. Of memory nothing is said
abbrev pub ExcusesMember : Hier → Iface → List Const → TypedMember → BodyFault → Type 0
ExcusesMember hier head list m Unfit = Written head m (λ name. IsUnlaid hier head m)
ExcusesMember hier head list m (Asm Full) = 65535 < 1 + length (with_member hier head list m)
ExcusesMember hier head list m (Asm (TooLong bytes)) = Written head m (λ name. FailsSo hier head (with_name list name.name name.descriptor) m (TooLong bytes))
ExcusesMember hier head list m (Asm (FarJump by)) = Written head m (λ name. FailsSo hier head (with_name list name.name name.descriptor) m (FarJump by))
ExcusesMember hier head list m (Asm OutOfMemory) = Unit {0}

-- some member of a class has no method for a reason, where there are some constants and what the members in front of it ask for
abbrev pub SomeMember : Hier → TypedClass → List Const → BodyFault → Type 0
SomeMember hier c list fault =
    (i : ℕ) × (m : TypedMember) × (slice_get c.members i ≡ Some m) × ExcusesMember hier c.head (with_members hier c.head list (take i c.members)) m fault

-- why a class has no methods, where there are some constants
abbrev pub ExcusesMethods : Hier → TypedClass → List Const → BodyFault → Type 0
ExcusesMethods hier c list Unfit = SomeMember hier c list Unfit
ExcusesMethods hier c list (Asm Full) = 65535 < 1 + length (with_members hier c.head list c.members)
ExcusesMethods hier c list (Asm (TooLong bytes)) = SomeMember hier c list (Asm (TooLong bytes))
ExcusesMethods hier c list (Asm (FarJump by)) = SomeMember hier c list (Asm (FarJump by))
ExcusesMethods hier c list (Asm OutOfMemory) = Unit {0}

-- whether the file of a class is well formed where it can be made: its constants are, and none of its interfaces, fields and
-- members with statements are too many
abbrev pub is_fit : Hier → TypedClass → Bool
is_fit hier c =
    pool_fits (Unused ∷ class_constants hier c) && nat_lt (length c.head.interfaces) 65536 && nat_lt (length c.head.fields) 65536
    && nat_lt (length (filter_map (λ m. name_of_part c.head m.part) c.members)) 65536

-- Why a class has no file: a member's lines can't be laid out, or the file wouldn't be well formed; the constants that it asks
-- for are more than 65,535; a member's code is too long, or a jump in it too far. Of memory nothing is said
abbrev pub Excuses : Hier → TypedClass → BodyFault → Type 0
Excuses hier c Unfit = SomeMember hier c (front_constants c.head) Unfit ⊎ (is_fit hier c ≡ false)
Excuses hier c (Asm Full) = 65535 < 1 + length (class_constants hier c)
Excuses hier c (Asm (TooLong bytes)) = SomeMember hier c (front_constants c.head) (Asm (TooLong bytes))
Excuses hier c (Asm (FarJump by)) = SomeMember hier c (front_constants c.head) (Asm (FarJump by))
Excuses hier c (Asm OutOfMemory) = Unit {0}
