-- The entries of a pool as constants.
use Rattle.std.specs.Prelude.{◌≡◌, ℕ, ◌+◌, ◌<◌, ℤ, Bool, true, false, List, ◌++◌, length, map, Result, Ok, Err}
use Rattle.std.specs.List.{list_any, position_or_len}
use Rattle.indexmap.specs.IndexSet.{insert_key}
use Rattle.class_form.specs.declared.constant.Const.{Const}
use Rattle.class_form.specs.declared.constant.Const.TheVariants.{Unused, Utf8, Integer, Long, Class, Text, Fieldref, Methodref, InterfaceMethodref, NameAndType}
use Rattle.code_asm.specs.declared.entry.Entry.{Entry}
use Rattle.code_asm.specs.declared.entry.Entry.TheVariants.{Utf8 as Utf8Entry, Integer as IntegerEntry, Long as LongEntry, Class as ClassEntry, Literal, Field, Method, InterfaceMethod, NameAndType as NameAndTypeEntry, Behind}
use Rattle.code_asm.specs.declared.entry.MemberKind.{MemberKind}
use Rattle.code_asm.specs.declared.entry.MemberKind.TheVariants.{Field as FieldKind, Method as MethodKind, InterfaceMethod as InterfaceMethodKind}
use Rattle.code_asm.specs.contracts.entry.EntryPartialEq.TheImpl as entry
use Rattle.code_asm.specs.declared.fault.AsmFault.{AsmFault}
use Rattle.code_asm.specs.Held.{Held, Fails}

-- the constant that an entry is
abbrev pub const_of : Entry → Const
const_of (Utf8Entry text) = Utf8 text
const_of (IntegerEntry n) = Integer n
const_of (LongEntry n) = Long n
const_of (ClassEntry name) = Class name
const_of (Literal text) = Text text
const_of (Field class name) = Fieldref class name
const_of (Method class name) = Methodref class name
const_of (InterfaceMethod class name) = InterfaceMethodref class name
const_of (NameAndTypeEntry name descriptor) = NameAndType name descriptor
const_of (Behind n) = Unused

-- the constants that entries are
abbrev pub consts_of : List Entry → List Const
consts_of entries = map const_of entries

-- the constant of a kind of members
abbrev pub kind_of : MemberKind → ℕ → ℕ → Const
kind_of FieldKind class member = Fieldref class member
kind_of MethodKind class member = Methodref class member
kind_of InterfaceMethodKind class member = InterfaceMethodref class member

-- an entry that takes one index
abbrev pub is_single : Entry → Bool
is_single (LongEntry n) = false
is_single (Behind n) = false
is_single _ = true

abbrev pub is_equal : Entry → Entry → Bool
is_equal = (entry.ghosts).eq

-- with an entry at the end, where it isn't there yet
abbrev pub with_entry : List Entry → Entry → List Entry
with_entry entries e = insert_key is_equal entries e

-- the second index of a long is there exactly where the long is
abbrev pub ArePaired : List Entry → Type 0
ArePaired entries = (n : ℤ) → list_any (is_equal (Behind n)) entries ≡ list_any (is_equal (LongEntry n)) entries

-- an entry was put
abbrev pub PutsEntry : List Entry → Entry → List Entry → Result ℕ AsmFault → Type 0
PutsEntry old e new (Ok index) = (new ≡ with_entry old e) × (index ≡ 1 + position_or_len (is_equal e) old) × (1 + length new < 65536)
PutsEntry old e new (Err fault) = Fails fault (consts_of (with_entry old e))

-- entries go on
abbrev pub GoOn : List Entry → List Entry → Type 0
GoOn old new = (more : List Entry) × (new ≡ old ++ more)

-- what was wanted is had, in entries
abbrev pub Puts : Held → List Entry → Result ℕ AsmFault → Type 0
Puts held new (Ok index) = (consts_of new ≡ held.constants) × (index ≡ held.index) × (1 + length new < 65536) × ArePaired new
Puts held new (Err fault) = Fails fault held.constants
