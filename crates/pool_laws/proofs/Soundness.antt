-- Constants stay sound.
use Rattle.std.proofs.Common.{◌≡◌, ℕ, zero, suc, Bool, true, false, not, ◌&&◌, if◌then◌else◌, List, [], ◌∷◌, ◌++◌, refl, ap, ◌∙◌}
use Rattle.std.proofs.lemmas.Bool.{false≢true, and_parts, and_from}
use Rattle.std.proofs.lemmas.List.Folds.{list_all-append}
use Rattle.std.specs.List.{list_any, list_all}
use Rattle.class_form.specs.declared.constant.Const.{Const}
use Rattle.class_form.specs.declared.constant.Const.TheVariants.{Unused, Utf8, Integer, Class, Text, Fieldref, Methodref, InterfaceMethodref, NameAndType}
use Rattle.class_form.specs.WellFormed.{is_unused, is_wide, is_utf8, is_class, is_name_and_type, names, is_spaced, has_right_indices}
use Rattle.code_asm.specs.declared.line.Named.{Named}
use Rattle.code_asm.specs.declared.line.Named.TheVariants as named_form
use Rattle.code_asm.specs.declared.line.Line.{Line}
use Rattle.code_asm.specs.declared.line.Line.TheVariants as line_form
use Rattle.code_asm.specs.Held.{is_same, with_rest, hold, hold_class, hold_text, hold_name_and_type, hold_member}
use Rattle.code_asm.specs.Written.{hold_named, with_line, with_lines}
use Rattle.pool_laws.specs.Sound.{IsSound, LinesKeepSoundness, HoldingKeepsSoundness}
use Rattle.pool_laws.proofs.Extending.{one_extends, type_extends}
use Rattle.pool_laws.proofs.Naming.{one_named, class_named, type_named}

-- a constant alone is spaced
spaced_alone : (c : Const) → is_unused c ≡ false → (b : Bool) → is_wide c ≡ b → is_spaced false (if b then c ∷ Unused ∷ [] else c ∷ []) ≡ true
spaced_alone c used true e = ap (λ u. not u && ((if is_wide c then true else false) && true)) used ∙ ap (λ w. (if w then true else false) && true) e
spaced_alone c used false e = ap (λ u. not u && not (is_wide c)) used ∙ ap not e

-- and so it is behind others
spaced_on : (behind : Bool) (list : List Const) (c : Const) → is_unused c ≡ false → is_spaced behind list ≡ true → is_spaced behind (list ++ with_rest c) ≡ true
spaced_on true [] c used h = absurd (false≢true h)
spaced_on false [] c used h = spaced_alone c used (is_wide c) refl
spaced_on behind (x ∷ xs) c used h =
    let p = and_parts (if behind then is_unused x else not (is_unused x)) (is_spaced (is_wide x) xs) h in
    and_from (if behind then is_unused x else not (is_unused x)) (is_spaced (is_wide x) (xs ++ with_rest c)) p.0 (spaced_on (is_wide x) xs c used p.1)

-- what an index names is the same whatever stands behind
names_on : (kind : Const → Bool) (constants more : List Const) (index : ℕ) → names kind constants index ≡ true → names kind (constants ++ more) index ≡ true
names_on kind [] more index h = absurd (false≢true h)
names_on kind (x ∷ xs) more zero h = h
names_on kind (x ∷ xs) more (suc i) h = names_on kind xs more i h

pair_on : (kind other : Const → Bool) (constants more : List Const) (i j : ℕ) → (names kind constants i && names other constants j) ≡ true
    → (names kind (constants ++ more) i && names other (constants ++ more) j) ≡ true
pair_on kind other constants more i j h =
    let p = and_parts (names kind constants i) (names other constants j) h in
    and_from (names kind (constants ++ more) i) (names other (constants ++ more) j) (names_on kind constants more i p.0) (names_on other constants more j p.1)

-- so right indices stay right
right_on : (constants more : List Const) (c : Const) → has_right_indices constants c ≡ true → has_right_indices (constants ++ more) c ≡ true
right_on constants more (Class name) h = names_on is_utf8 constants more name h
right_on constants more (Text text) h = names_on is_utf8 constants more text h
right_on constants more (Fieldref class name) h = pair_on is_class is_name_and_type constants more class name h
right_on constants more (Methodref class name) h = pair_on is_class is_name_and_type constants more class name h
right_on constants more (InterfaceMethodref class name) h = pair_on is_class is_name_and_type constants more class name h
right_on constants more (NameAndType name descriptor) h = pair_on is_utf8 is_utf8 constants more name descriptor h
right_on constants more _ h = refl

all_right_on : (constants more list : List Const) → list_all (has_right_indices constants) list ≡ true → list_all (has_right_indices (constants ++ more)) list ≡ true
all_right_on constants more [] h = refl
all_right_on constants more (x ∷ xs) h =
    let p = and_parts (has_right_indices constants x) (list_all (has_right_indices constants) xs) h in
    and_from (has_right_indices (constants ++ more) x) (list_all (has_right_indices (constants ++ more)) xs) (right_on constants more x p.0) (all_right_on constants more xs p.1)

alone_right : (constants : List Const) (c : Const) → has_right_indices constants c ≡ true → (b : Bool) → list_all (has_right_indices constants) (if b then c ∷ Unused ∷ [] else c ∷ []) ≡ true
alone_right constants c h true = ap (λ b. b && true) h
alone_right constants c h false = ap (λ b. b && true) h

-- and so they are among more constants
sound_on : (list : List Const) (c : Const) → is_unused c ≡ false → has_right_indices (Unused ∷ list) c ≡ true → IsSound list → IsSound (list ++ with_rest c)
sound_on list c used right s =
    let test : Const → Bool = has_right_indices (Unused ∷ (list ++ with_rest c)) in
    let old = all_right_on (Unused ∷ list) (with_rest c) list s.right in
    let last = alone_right (Unused ∷ (list ++ with_rest c)) c (right_on (Unused ∷ list) (with_rest c) c right) (is_wide c) in
    record { spaced = spaced_on false list c used s.spaced; right = list_all-append test list (with_rest c) ∙ and_from (list_all test list) (list_all test (with_rest c)) old last }

pub one_sound : (list : List Const) (c : Const) → is_unused c ≡ false → has_right_indices (Unused ∷ list) c ≡ true → IsSound list → IsSound (hold list c).constants
unfolding hold
one_sound list c used right s = by_test (list_any (is_same c) list)
  where
    by_test : (b : Bool) → IsSound (if b then list else list ++ with_rest c)
    by_test true = s
    by_test false = sound_on list c used right s

pub text_sound : (list : List Const) (text : List ℕ) → IsSound list → IsSound (hold list (Utf8 text)).constants
text_sound list text s = one_sound list (Utf8 text) refl refl s

pub class_sound : (list : List Const) (name : List ℕ) → IsSound list → IsSound (hold_class list name).constants
unfolding hold_class
class_sound list name s =
    let t = hold list (Utf8 name) in
    one_sound t.constants (Class t.index) refl (one_named list (Utf8 name) is_utf8 refl).here (text_sound list name s)

pub literal_sound : (list : List Const) (bytes : List ℕ) → IsSound list → IsSound (hold_text list bytes).constants
unfolding hold_text
literal_sound list bytes s =
    let t = hold list (Utf8 bytes) in
    one_sound t.constants (Text t.index) refl (one_named list (Utf8 bytes) is_utf8 refl).here (text_sound list bytes s)

pub type_sound : (list : List Const) (name descriptor : List ℕ) → IsSound list → IsSound (hold_name_and_type list name descriptor).constants
unfolding hold_name_and_type
type_sound list name descriptor s =
    let n = hold list (Utf8 name) in
    let d = hold n.constants (Utf8 descriptor) in
    let first = (one_named list (Utf8 name) is_utf8 refl).longer d.constants (one_extends n.constants (Utf8 descriptor)) in
    let second = (one_named n.constants (Utf8 descriptor) is_utf8 refl).here in
    one_sound d.constants (NameAndType n.index d.index) refl
    (and_from (names is_utf8 (Unused ∷ d.constants) n.index) (names is_utf8 (Unused ∷ d.constants) d.index) first second)
    (text_sound n.constants descriptor (text_sound list name s))

-- a kind of members
module _ (kind : ℕ → ℕ → Const) (used : (class name : ℕ) → is_unused (kind class name) ≡ false) (right : (constants : List Const) (class name : ℕ) → (names is_class constants class && names is_name_and_type constants name) ≡ true → has_right_indices constants (kind class name) ≡ true) where
  pub member_sound : (list : List Const) (class name descriptor : List ℕ) → IsSound list → IsSound (hold_member kind list class name descriptor).constants
  unfolding hold_member
  member_sound list class name descriptor s =
      let c = hold_class list class in
      let m = hold_name_and_type c.constants name descriptor in
      let first = (class_named list class).longer m.constants (type_extends c.constants name descriptor) in
      let second = (type_named c.constants name descriptor).here in
      one_sound m.constants (kind c.index m.index) (used c.index m.index)
      (right (Unused ∷ m.constants) c.index m.index (and_from (names is_class (Unused ∷ m.constants) c.index) (names is_name_and_type (Unused ∷ m.constants) m.index) first second))
      (type_sound c.constants name descriptor (class_sound list class s))

pub field_sound : (list : List Const) (class name descriptor : List ℕ) → IsSound list → IsSound (hold_member Fieldref list class name descriptor).constants
field_sound = member_sound Fieldref (λ class name. refl) (λ constants class name h. h)

pub method_sound : (list : List Const) (class name descriptor : List ℕ) → IsSound list → IsSound (hold_member Methodref list class name descriptor).constants
method_sound = member_sound Methodref (λ class name. refl) (λ constants class name h. h)

pub interface_method_sound : (list : List Const) (class name descriptor : List ℕ) → IsSound list → IsSound (hold_member InterfaceMethodref list class name descriptor).constants
interface_method_sound = member_sound InterfaceMethodref (λ class name. refl) (λ constants class name h. h)

pub named_sound : (list : List Const) (wanted : Named) → IsSound list → IsSound (hold_named list wanted).constants
named_sound list (named_form.Int n) s = one_sound list (Integer n) refl refl s
named_sound list (named_form.Text bytes) s = literal_sound list bytes s
named_sound list (named_form.Class name) s = class_sound list name s
named_sound list (named_form.Field m) s = field_sound list m.class m.name m.descriptor s
named_sound list (named_form.Method m) s = method_sound list m.class m.name m.descriptor s

pub line_sound : (list : List Const) (l : Line) → IsSound list → IsSound (with_line list l)
line_sound list (line_form.Plain instr) s = s
line_sound list (line_form.Uses use_ wanted) s = named_sound list wanted s
line_sound list (line_form.CallsInterface m count) s = interface_method_sound list m.class m.name m.descriptor s
line_sound list (line_form.Branch jump label) s = s
line_sound list (line_form.Mark label) s = s

pub lines_sound : (list : List Const) (lines : List Line) → IsSound list → IsSound (with_lines list lines)
lines_sound list [] s = s
lines_sound list (l ∷ ls) s = lines_sound (with_line list l) ls (line_sound list l s)

pub lines_keep : LinesKeepSoundness
lines_keep = record {
  none = record { spaced = refl; right = refl };
  line = line_sound;
  lines = lines_sound;
}

pub holding_keeps : HoldingKeepsSoundness
holding_keeps = record {
  one = one_sound;
  text = text_sound;
  integer = λ list n s. one_sound list (Integer n) refl refl s;
  class = class_sound;
  literal = literal_sound;
  name_and_type = type_sound;
  field = field_sound;
  method = method_sound;
  interface_method = interface_method_sound;
  named = named_sound;
}
