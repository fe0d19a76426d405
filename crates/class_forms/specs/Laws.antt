-- The constants of a class's file are as a well-formed file needs them.
use Rattle.std.specs.Prelude.{◌≡◌, ℕ, ◌+◌, ◌*◌, ◌≤◌, ◌<◌, true, length}
use Rattle.std.specs.List.{list_all, sum_by}
use Rattle.jp_pred.specs.declared.hier.Hier.{Hier}
use Rattle.jp_meaning.specs.declared.unit.TypedClass.{TypedClass}
use Rattle.gen_body.specs.Members.{member_code}
use Rattle.pool_laws.specs.Sound.{IsSound}
use Rattle.pool_laws.specs.Texts.{fits}
use Rattle.code_texts.specs.Short.{is_short_member}
use Rattle.gen_class.specs.Asked.{class_constants}
use Rattle.gen_class.specs.Excuses.{is_fit}
use Rattle.class_forms.specs.Heads.{has_short_head}

-- Unused stands where it has to, and each index names a constant of the right kind
abbrev pub ClassConstantsAreSound : Type 0
ClassConstantsAreSound = (hier : Hier) (c : TypedClass) → IsSound (class_constants hier c)

-- where a class's names, and those and the literals in its members, are short, the texts of its constants fit
abbrev pub ClassConstantsFit : Type 0
ClassConstantsFit =
    (hier : Hier) (c : TypedClass) → has_short_head c.head ≡ true → list_all (is_short_member c.head) c.members ≡ true → fits (class_constants hier c) ≡ true

-- how many pieces the code of a class's members has
abbrev pub item_count : Hier → TypedClass → ℕ
item_count hier c = sum_by (λ m. length (member_code hier c.head m).items) c.members

-- A class with little code, and with few members, fields and interfaces, asks for few constants: six for each piece of code,
-- a name and a descriptor for each member and field, a class and its name for each interface, itself and its superclass, and
-- the name of the attribute in which code stands
abbrev pub SmallClassAsksFew : Type 0
SmallClassAsksFew =
    (hier : Hier) (c : TypedClass)
    → 6 * item_count hier c + 2 * length c.members + 2 * length c.head.fields + 2 * length c.head.interfaces + 5 ≤ 65534
    → 1 + length (class_constants hier c) < 65536

-- a class with short names fits a file, where nothing is too many
abbrev pub ShortClassIsFit : Type 0
ShortClassIsFit =
    (hier : Hier) (c : TypedClass) → has_short_head c.head ≡ true → list_all (is_short_member c.head) c.members ≡ true
    → 1 + length (class_constants hier c) < 65536 → length c.head.interfaces < 65536 → length c.head.fields < 65536 → length c.members < 65536
    → is_fit hier c ≡ true
