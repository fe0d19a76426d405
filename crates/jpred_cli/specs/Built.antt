-- The class file that is built for a program of prints.
use Rattle.std.specs.Prelude.{ℕ, ℤ, ◌+◌, List, [], ◌∷◌, ◌++◌, map, Some, codes}
use Rattle.class_form.specs.declared.constant.Const.{Const}
use Rattle.class_form.specs.declared.constant.Const.TheVariants.{Unused, Utf8, Integer, Class, Methodref, NameAndType}
use Rattle.class_form.specs.declared.class_file.ClassFile.{ClassFile}
use Rattle.class_form.specs.declared.member.Code.{Code}
use Rattle.class_form.specs.declared.member.MemberInfo.{MemberInfo}

-- the constants that don't depend on the numbers; the numbers follow from index 14 on
abbrev pub fixed_constants : List ℕ → List Const
fixed_constants main =
    Unused ∷ Utf8 main ∷ Class 1 ∷ Utf8 (codes "java/lang/Object") ∷ Class 3 ∷ Utf8 (codes "main") ∷ Utf8 (codes "()V") ∷ Utf8 (codes "Code") ∷ Utf8 (codes "Io") ∷ Class 8 ∷ Utf8 (codes "print") ∷ Utf8 (codes "(I)V") ∷ NameAndType 10 11 ∷ Methodref 9 12 ∷ []

-- for each number ldc of its constant and invokestatic of `Io.print`, and return at the end
abbrev pub code_from : ℕ → List ℤ → List ℕ
code_from index [] = 0xb1 ∷ []
code_from index (n ∷ more) = 0x12 ∷ index ∷ 0xb8 ∷ 0 ∷ 13 ∷ code_from (index + 1) more

-- the code of `main`
abbrev pub main_code : List ℤ → Code
main_code numbers = record { max_stack = 1; max_locals = 0; bytes = code_from 14 numbers; attributes = [] }

-- `main`, public and static
abbrev pub main_method : List ℤ → MemberInfo
main_method numbers = record { flags = 9; name = 5; descriptor = 6; code = Some (main_code numbers); attributes = [] }

-- the class, public, with `main` alone
abbrev pub class_of : List ℕ → List ℤ → ClassFile
class_of main numbers =
    record { constants = fixed_constants main ++ map Integer numbers; flags = 0x21; this_class = 2; super_class = 4; interfaces = []; fields = []; methods = main_method numbers ∷ []; attributes = [] }
