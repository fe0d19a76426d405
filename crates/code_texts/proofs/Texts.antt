-- Short names, the descriptors of types with short names, and of methods with few parameters fit.
use Rattle.std.proofs.Common.{◌≡◌, ℕ, ◌+◌, ◌*◌, ◌≤◌, ◌<◌, Bool, true, false, ◌&&◌, List, [], ◌∷◌, ◌++◌, length, refl, ◌∙◌, arith}
use Rattle.std.specs.Prelude.{nat_lt, nat_le, codes, if◌then◌else◌}
use Rattle.std.specs.List.{list_all, flat_map}
use Rattle.std.proofs.lemmas.Bool.{lt-ltb, leb-true}
use Rattle.std.proofs.lemmas.List.{length-append}
use Rattle.std.proofs.lemmas.List.Folds.{list_all-append}
use Rattle.class_form.specs.WellFormed.{is_text_byte}
use Rattle.class_form.proofs.Facts.{both, and_both}
use Rattle.jp_pred.specs.declared.ty.Ty.{Ty}
use Rattle.jp_pred.specs.declared.ty.Ty.TheVariants as ty
use Rattle.jp_pred.specs.Names.{Word, object, same}
use Rattle.jp_store.specs.Classes.{object_name}
use Rattle.jp_meaning.specs.Descriptors.{internal_name, descriptor_of, method_descriptor}
use Rattle.code_texts.specs.Short.{is_short, names_short, has_short_params, is_short_text}
use Rattle.code_texts.specs.Fitting.{text_fits_in}
use Rattle.code_texts.specs.Laws.{ShortNamesFit, ShortTypesFit, ShortMethodsFit}

-- a text of at most so many bytes, each of which a text may have
abbrev Within : ℕ → List ℕ → Type 0
Within n text = (length text ≤ n) × (list_all is_text_byte text ≡ true)

fits : (n : ℕ) (text : List ℕ) → n < 65536 → Within n text → text_fits_in text ≡ true
fits n text lt h =
    let le = h.0 in and_both (nat_lt (length text) 65536) (list_all is_text_byte text) (lt-ltb (length text) 65536 (omega (arith, lt, le))) h.1

within : (n : ℕ) (text : List ℕ) → (nat_le (length text) n && list_all is_text_byte text) ≡ true → Within n text
within n text e = let h = both (nat_le (length text) n) (list_all is_text_byte text) e in (leb-true (length text) n h.0, h.1)

joined : (m n : ℕ) (a b : List ℕ) → Within m a → Within n b → Within (m + n) (a ++ b)
joined m n a b h i =
    let l = length-append a b in let p = h.0 in let q = i.0 in
    (omega (arith, l, p, q), list_all-append is_text_byte a b ∙ and_both (list_all is_text_byte a) (list_all is_text_byte b) h.1 i.1)

more : (m n : ℕ) (a : List ℕ) → m ≤ n → Within m a → Within n a
more m n a le h = let p = h.0 in (omega (arith, le, p), h.1)

class_within : (name : Word) → is_short name ≡ true → Within 255 (internal_name name)
class_within name e = by_object (same name object) where
  by_object : (b : Bool) → Within 255 (if b then object_name else name)
  by_object true = within 255 object_name refl
  by_object false = within 255 name e

type_within : (t : Ty) → names_short t ≡ true → Within 258 (descriptor_of t)
type_within ty.Void e = within 258 (codes "V") refl
type_within ty.Int e = within 258 (codes "I") refl
type_within ty.Boolean e = within 258 (codes "Z") refl
type_within (ty.Class name) e =
    more 257 258 (codes "L" ++ (internal_name name ++ codes ";")) (omega arith)
    (joined 1 256 (codes "L") (internal_name name ++ codes ";") (within 1 (codes "L") refl) (joined 255 1 (internal_name name) (codes ";") (class_within name e) (within 1 (codes ";") refl)))
type_within ty.IntArray e = within 258 (codes "[I") refl
type_within ty.BooleanArray e = within 258 (codes "[Z") refl
type_within (ty.ClassArray name) e =
    joined 2 256 (codes "[L") (internal_name name ++ codes ";") (within 2 (codes "[L") refl) (joined 255 1 (internal_name name) (codes ";") (class_within name e) (within 1 (codes ";") refl))

params_within : (params : List Ty) → list_all names_short params ≡ true → Within (258 * length params) (flat_map descriptor_of params)
params_within [] e = (omega arith, refl)
params_within (t ∷ ts) e =
    let h = both (names_short t) (list_all names_short ts) e in
    more (258 + 258 * length ts) (258 * length (t ∷ ts)) (descriptor_of t ++ flat_map descriptor_of ts) (omega arith)
    (joined 258 (258 * length ts) (descriptor_of t) (flat_map descriptor_of ts) (type_within t h.0) (params_within ts h.1))

all_params_within : (params : List Ty) → has_short_params params ≡ true → Within 51600 (flat_map descriptor_of params)
all_params_within params e =
    let h = both (nat_le (length params) 200) (list_all names_short params) e in
    let le = leb-true (length params) 200 h.0 in
    more (258 * length params) 51600 (flat_map descriptor_of params) (omega (arith, le)) (params_within params h.1)

pub names : ShortNamesFit
names name e = (fits 255 name (omega arith) (within 255 name e), fits 255 (internal_name name) (omega arith) (class_within name e))

pub types : ShortTypesFit
types t e = let h = type_within t e in (fits 258 (descriptor_of t) (omega arith) h, h.0)

pub methods : ShortMethodsFit
methods params t e i =
    let ends = joined 1 258 (codes ")") (descriptor_of t) (within 1 (codes ")") refl) (type_within t i) in
    let inner = joined 51600 259 (flat_map descriptor_of params) (codes ")" ++ descriptor_of t) (all_params_within params e) ends in
    fits 51860 (method_descriptor params t) (omega arith)
    (joined 1 51859 (codes "(") (flat_map descriptor_of params ++ (codes ")" ++ descriptor_of t)) (within 1 (codes "(") refl) inner)

pub literal : (text : List ℕ) → is_short_text text ≡ true → text_fits_in text ≡ true
literal text e = fits 65535 text (omega arith) (within 65535 text e)
