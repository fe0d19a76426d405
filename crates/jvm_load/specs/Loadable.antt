-- Which class files can be loaded: positions of files and members, and places in code, fit 32 bits.
use Rattle.std.specs.Prelude.{◌^◌, ◌<◌, List, length, All, IfSome}
use Rattle.class_form.specs.declared.class_file.ClassFile.{ClassFile}
use Rattle.class_form.specs.declared.member.MemberInfo.{MemberInfo}

-- a method whose code, if it has some, is of fewer than 2^32 bytes
abbrev pub HasShortCode : MemberInfo → Type 0
HasShortCode method = IfSome method.code (λ code. length code.bytes < 2 ^ 32)

-- a file of fewer than 2^32 fields and fewer than 2^32 methods, all of short code
pub record IsLoadableFile (file : ClassFile) : Type 0 where
  pub fields : length file.fields < 2 ^ 32
  pub methods : length file.methods < 2 ^ 32
  pub codes : All HasShortCode file.methods

-- fewer than 2^32 files, all loadable
pub record IsLoadable (files : List ClassFile) : Type 0 where
  pub count : length files < 2 ^ 32
  pub each : All IsLoadableFile files
