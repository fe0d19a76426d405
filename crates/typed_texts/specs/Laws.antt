-- The trees of a unit with short names and literals have such names and literals.
use Rattle.std.specs.Prelude.{◌≡◌, ℕ, List, [], true, None}
use Rattle.std.specs.List.{list_all}
use Rattle.jp_pred.specs.Names.{In}
use Rattle.jp_ast.specs.declared.decl.SourceUnit.{SourceUnit}
use Rattle.jp_ast.specs.declared.token.Token.{Token}
use Rattle.jp_lexical.specs.Lexed.{Lexed}
use Rattle.jp_grammar.specs.Faults.{Parsed}
use Rattle.jp_meaning.specs.declared.unit.TypedMember.{TypedMember}
use Rattle.jp_meaning.specs.declared.unit.TypedClass.{TypedClass}
use Rattle.jp_meaning.specs.declared.unit.TypedUnit.{TypedUnit}
use Rattle.type_rules.specs.Typing.{IsTyped}
use Rattle.unit_limits.specs.Members.{first_over}
use Rattle.plain_form.specs.Forms.{HasNoGuards}
use Rattle.code_texts.specs.Short.{is_short_member}
use Rattle.typed_texts.specs.Words.{head_is_short, has_short_names}

-- each member of a unit without guards that names no class of another unit
abbrev pub TypedIsShort : Type 0
TypedIsShort =
    (unit : SourceUnit) (tree : TypedUnit) → IsTyped unit [] tree → HasNoGuards unit → list_all has_short_names unit.decls ≡ true →
    (c : TypedClass) (m : TypedMember) → In c tree.classes → In m c.members → is_short_member c.head m ≡ true

-- and the head of each class, from which its file is written; the unit may have guards
abbrev pub TypedHeadsAreShort : Type 0
TypedHeadsAreShort =
    (unit : SourceUnit) (tree : TypedUnit) → IsTyped unit [] tree → list_all has_short_names unit.decls ≡ true → (c : TypedClass) → In c tree.classes → head_is_short c.head ≡ true

-- a unit that is read from a text and is within the limits has such names and literals
abbrev pub ReadIsShort : Type 0
ReadIsShort =
    (text : List ℕ) (tokens : List Token) (unit : SourceUnit) → Lexed text tokens → Parsed tokens unit → first_over unit ≡ None →
    list_all has_short_names unit.decls ≡ true

-- and so have its trees
abbrev pub ReadMembersAreShort : Type 0
ReadMembersAreShort =
    (text : List ℕ) (tokens : List Token) (unit : SourceUnit) (tree : TypedUnit) → Lexed text tokens → Parsed tokens unit → first_over unit ≡ None →
    HasNoGuards unit → IsTyped unit [] tree → (c : TypedClass) (m : TypedMember) → In c tree.classes → In m c.members → is_short_member c.head m ≡ true
