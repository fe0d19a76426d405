-- What the text of a unit is: a unit without a fault, or why it is refused.
use Rattle.std.specs.Prelude.{◌≡◌, ◌⊎◌, ℕ, List, [], ◌∷◌, length, Option, Some, None, Result, Ok, Err}
use Rattle.jp_ast.specs.declared.token.Place.{Place}
use Rattle.jp_ast.specs.declared.decl.SourceUnit.{SourceUnit}
use Rattle.jp_read.specs.declared.fault.ReadFault.{ReadFault}
use Rattle.jp_read.specs.declared.fault.ReadFault.TheVariants as reader
use Rattle.jp_read.specs.Reads.{ReadsUnit, ReadsFault}
use Rattle.jp_meaning.specs.declared.unit.TypedUnit.{TypedUnit}
use Rattle.type_rules.specs.declared.fault.TypeFault.{TypeFault}
use Rattle.type_rules.specs.Typing.{IsTyped, IsFirstFault}
use Rattle.type_rules.specs.Units.{visits_of}
use Rattle.type_rules.specs.ClassNames.{must_see}
use Rattle.type_heads.specs.declared.error.TypeErr.{TypeErr}
use Rattle.type_heads.specs.declared.error.TypeErr.TheVariants as types
use Rattle.unit_limits.specs.declared.limits.TooLarge.{TooLarge}
use Rattle.unit_limits.specs.declared.limits.Limit.TheVariants.{UnitBytes}
use Rattle.unit_limits.specs.Counting.{counted, first_told}
use Rattle.unit_limits.specs.Members.{first_over}
use Rattle.own_names.specs.Units.{first_outside}
use Rattle.unit_faults.specs.declared.refusal.Refusal.{Refusal}
use Rattle.unit_faults.specs.declared.refusal.Refusal.TheVariants as refusal
use Rattle.unit_check.specs.declared.checking.Sound.{Sound}
use Rattle.unit_check.specs.declared.fault.CheckErr.{CheckErr}
use Rattle.unit_check.specs.declared.fault.CheckErr.TheVariants.{Refused, OutOfMemory}

-- WHAT A TEXT IS

-- the count of a text's bytes, where it passes its limit
abbrev pub bytes_over : List ℕ → Option TooLarge
bytes_over text = first_told (counted UnitBytes (length text) ∷ [])

-- The text isn't too long, and is this unit and no other, which needs to see no class of another unit
pub record IsSelfContained (text : List ℕ) (unit : SourceUnit) : Type 0 where
  pub short : bytes_over text ≡ None
  pub read : ReadsUnit text unit
  pub own : must_see unit ≡ []

-- and the unit is within the limits
pub record IsWithin (text : List ℕ) (unit : SourceUnit) : Type 0 where
  pub is_self_contained : IsSelfContained text unit
  pub within : first_over unit ≡ None

-- and it breaks no rule of types, and has this resolved tree
pub record IsSound (text : List ℕ) (unit : SourceUnit) (tree : TypedUnit) : Type 0 where
  pub is_within : IsWithin text unit
  pub typed : IsTyped unit [] tree

-- WHY IT IS REFUSED

-- The text isn't too long, and is no unit, which this fault is first to show
pub record IsUnread (text : List ℕ) (fault : ReadFault) : Type 0 where
  pub short : bytes_over text ≡ None
  pub reads : ReadsFault text fault

-- The text isn't too long, and is this unit and no other, which names a class outside itself first at this place
pub record IsOutside (text : List ℕ) (place : Place) : Type 0 where
  pub short : bytes_over text ≡ None
  pub unit : SourceUnit
  pub read : ReadsUnit text unit
  pub outside : first_outside unit ≡ Some place

-- The text is this unit, which needs to see no other, and of which this count is the first to pass its limit
pub record IsPast (text : List ℕ) (over : TooLarge) : Type 0 where
  pub unit : SourceUnit
  pub is_self_contained : IsSelfContained text unit
  pub past : first_over unit ≡ Some over

-- The text is this unit within the limits, and this is the first rule of types that it breaks
pub record IsUntyped (text : List ℕ) (fault : TypeFault) : Type 0 where
  pub unit : SourceUnit
  pub is_within : IsWithin text unit
  pub first : IsFirstFault (visits_of unit []) fault

-- the text is refused so
abbrev pub IsRefused : List ℕ → Refusal → Type 0
IsRefused text (refusal.Lex fault) = IsUnread text (reader.Lex fault)
IsRefused text (refusal.Syntax fault) = IsUnread text (reader.Parse fault)
IsRefused text (refusal.TooLarge over) = (bytes_over text ≡ Some over) ⊎ IsPast text over
IsRefused text (refusal.Type fault) = IsUntyped text fault
IsRefused text (refusal.NotYet place) = IsOutside text place

-- the unit with its resolved tree, or why the text is refused; nothing is said where memory is wanting
abbrev pub ChecksText : List ℕ → Result Sound CheckErr → Type 0
ChecksText text (Ok sound) = IsSound text sound.unit sound.tree
ChecksText text (Err (Refused why)) = IsRefused text why
ChecksText text (Err OutOfMemory) = Unit {0}

-- WHAT THE PASSES TELL

abbrev pub of_read_fault : ReadFault → CheckErr
of_read_fault (reader.Lex fault) = Refused (refusal.Lex fault)
of_read_fault (reader.Parse fault) = Refused (refusal.Syntax fault)
of_read_fault reader.OutOfMemory = OutOfMemory

abbrev pub of_type_err : TypeErr → CheckErr
of_type_err (types.Fault fault) = Refused (refusal.Type fault)
of_type_err types.OutOfMemory = OutOfMemory
