-- Constants from index 1 on, of which each is held once (JVM specification, second edition, 4.4).
use Rattle.std.specs.Prelude.{◌≡◌, ℕ, ◌+◌, ◌<◌, Bool, false, ◌&&◌, ◌==◌, List, [], ◌∷◌, ◌++◌, length, if◌then◌else◌, Result, Ok, Err}
use Rattle.std.specs.List.{list_any, position_or_len}
use Rattle.std.specs.Str.{bytes_eq}
use Rattle.std.specs.Ordering.{int_eq}
use Rattle.class_form.specs.declared.constant.Const.{Const}
use Rattle.class_form.specs.declared.constant.Const.TheVariants.{Unused, Utf8, Integer, Long, Class, Text, Fieldref, Methodref, InterfaceMethodref, NameAndType}
use Rattle.class_form.specs.declared.class_file.ClassFile.{ClassFile}
use Rattle.class_form.specs.WellFormed.{is_wide}
use Rattle.code_asm.specs.declared.fault.AsmFault.{AsmFault}
use Rattle.code_asm.specs.declared.fault.AsmFault.TheVariants.{Full, TooLong, FarJump, OutOfMemory}

-- whether two constants are the same, of the kinds that code names
abbrev pub is_same : Const → Const → Bool
is_same (Utf8 a) (Utf8 b) = bytes_eq a b
is_same (Integer a) (Integer b) = int_eq a b
is_same (Long a) (Long b) = int_eq a b
is_same (Class a) (Class b) = a == b
is_same (Text a) (Text b) = a == b
is_same (Fieldref a m) (Fieldref b n) = a == b && m == n
is_same (Methodref a m) (Methodref b n) = a == b && m == n
is_same (InterfaceMethodref a m) (InterfaceMethodref b n) = a == b && m == n
is_same (NameAndType a m) (NameAndType b n) = a == b && m == n
is_same _ _ = false

-- a constant with what has to stand behind it: a long takes two indices (4.4.5)
abbrev pub with_rest : Const → List Const
with_rest c = if is_wide c then c ∷ Unused ∷ [] else c ∷ []

-- constants that hold the one that was asked for, and its index
pub record Held : Type 0 where
  pub constants : List Const
  pub index : ℕ

-- a constant is added at the end where it isn't there yet
unfoldable pub hold : List Const → Const → Held
hold list c = record {
  constants = if list_any (is_same c) list then list else list ++ with_rest c;
  index = 1 + position_or_len (is_same c) list;
}

-- a class, a string literal, and a name and type, with the texts that they name
unfoldable pub hold_class : List Const → List ℕ → Held
hold_class list name = let text = hold list (Utf8 name) in hold text.constants (Class text.index)

unfoldable pub hold_text : List Const → List ℕ → Held
hold_text list bytes = let text = hold list (Utf8 bytes) in hold text.constants (Text text.index)

unfoldable pub hold_name_and_type : List Const → List ℕ → List ℕ → Held
hold_name_and_type list name descriptor =
    let n = hold list (Utf8 name) in let d = hold n.constants (Utf8 descriptor) in hold d.constants (NameAndType n.index d.index)

-- a field or a method, by its kind, with its class and its name and type
unfoldable pub hold_member : (ℕ → ℕ → Const) → List Const → List ℕ → List ℕ → List ℕ → Held
hold_member kind list class name descriptor =
    let c = hold_class list class in let m = hold_name_and_type c.constants name descriptor in hold m.constants (kind c.index m.index)

-- why the constants that were wanted can't be had: with index 0 counted they are more than 65,535 (4.1)
abbrev pub Fails : AsmFault → List Const → Type 0
Fails Full wanted = 65535 < 1 + length wanted
Fails OutOfMemory wanted = Unit {0}
Fails (TooLong bytes) wanted = ⊥
Fails (FarJump distance) wanted = ⊥

-- What was wanted is had and its index answered; or there is a fault, and nothing changes.
abbrev pub Answers : Held → List Const → List Const → Result ℕ AsmFault → Type 0
Answers held old new (Ok index) = (new ≡ held.constants) × (index ≡ held.index) × (1 + length new < 65536)
Answers held old new (Err fault) = (new ≡ old) × Fails fault held.constants

-- constants go on: what was there keeps its index
abbrev pub Extends : List Const → List Const → Type 0
Extends old new = (more : List Const) × (new ≡ old ++ more)

-- it is so in each class file with these constants and perhaps more behind them
abbrev pub InFiles : List Const → (ClassFile → Type 0) → Type 0
InFiles list P = (file : ClassFile) (more : List Const) → file.constants ≡ Unused ∷ (list ++ more) → P file
