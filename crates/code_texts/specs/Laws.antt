-- Short names give texts that fit.
use Rattle.std.specs.Prelude.{◌≡◌, ◌≤◌, List, length, true}
use Rattle.jp_pred.specs.declared.hier.Hier.{Hier}
use Rattle.jp_pred.specs.declared.ty.Ty.{Ty}
use Rattle.jp_pred.specs.Names.{Word}
use Rattle.iface_codec.specs.declared.iface.Iface.{Iface}
use Rattle.jp_meaning.specs.declared.unit.TypedMember.{TypedMember}
use Rattle.jp_meaning.specs.Descriptors.{internal_name, descriptor_of, method_descriptor}
use Rattle.gen_body.specs.Members.{member_code}
use Rattle.code_texts.specs.Short.{is_short, names_short, has_short_params, is_short_member}
use Rattle.code_texts.specs.Fitting.{text_fits_in, items_fit}

-- a short name fits, and so does what its class is called in code
abbrev pub ShortNamesFit : Type 0
ShortNamesFit = (name : Word) → is_short name ≡ true → (text_fits_in name ≡ true) × (text_fits_in (internal_name name) ≡ true)

-- the descriptor of a type with a short name fits, and has few bytes
abbrev pub ShortTypesFit : Type 0
ShortTypesFit = (t : Ty) → names_short t ≡ true → (text_fits_in (descriptor_of t) ≡ true) × (length (descriptor_of t) ≤ 258)

-- so does that of a method with few parameters of such types
abbrev pub ShortMethodsFit : Type 0
ShortMethodsFit =
    (params : List Ty) (t : Ty) → has_short_params params ≡ true → names_short t ≡ true → text_fits_in (method_descriptor params t) ≡ true

-- the texts in the code of a member whose names and literals are short fit
abbrev pub ShortCodeFits : Type 0
ShortCodeFits = (hier : Hier) (head : Iface) (m : TypedMember) → is_short_member head m ≡ true → items_fit (member_code hier head m).items ≡ true
