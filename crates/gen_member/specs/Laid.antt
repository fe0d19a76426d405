-- What comes of a member's code.
use Rattle.std.specs.Prelude.{ℕ, ◌<◌, Bool, true, false, List, [], length, Result, Ok, Err, ◌≡◌, is_some, slice_get}
use Rattle.class_form.specs.declared.constant.Const.{Const}
use Rattle.class_form.specs.declared.member.Code.{Code}
use Rattle.jp_pred.specs.declared.hier.Hier.{Hier}
use Rattle.iface_codec.specs.declared.iface.Iface.{Iface}
use Rattle.jp_meaning.specs.declared.unit.TypedMember.{TypedMember}
use Rattle.jp_meaning.specs.declared.unit.TypedPart.{TypedPart}
use Rattle.jp_meaning.specs.declared.unit.TypedPart.TheVariants as part
use Rattle.code_asm.specs.Lines.{lines_of}
use Rattle.code_asm.specs.Assembled.{Assembles}
use Rattle.gen_body.specs.Members.{member_code}
use Rattle.gen_code.specs.Compiled.{IsCompiled, are_written}
use Rattle.gen_code.specs.declared.fault.BodyFault.{BodyFault}
use Rattle.gen_code.specs.declared.fault.BodyFault.TheVariants.{Unfit, Asm}

-- The code is the member's, in files with the constants; or the member's lines can't be laid out, or can't be assembled with
-- the constants that there were
abbrev pub CompilesMember : Hier → Iface → TypedMember → List Const → List Const → Result Code BodyFault → Type 0
CompilesMember hier head m old new (Ok code) = IsCompiled hier head m new code
CompilesMember hier head m old new (Err Unfit) = are_written (member_code hier head m).next (lines_of (member_code hier head m).items) ≡ false
CompilesMember hier head m old new (Err (Asm fault)) = (stack : ℕ) × Assembles (lines_of (member_code hier head m).items) old new stack m.locals (Err fault)

-- whether a class declares the method or constructor of a member
abbrev pub is_declared : Iface → TypedPart → Bool
is_declared head (part.Field at) = false
is_declared head (part.Method at) = is_some (slice_get head.methods at)
is_declared head (part.Constructor at) = true

-- a member's code has as many bytes as a class file can have, with one at least where the member is declared, and no
-- attributes
pub record IsSized (head : Iface) (m : TypedMember) (code : Code) : Type 0 where
  pub some : is_declared head m.part ≡ true → 0 < length code.bytes
  pub short : length code.bytes < 65536
  pub bare : code.attributes ≡ []
