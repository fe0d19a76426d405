-- What a constant's index names, whatever stands behind the constants.
use Rattle.std.proofs.Common.{◌≡◌, ℕ, suc, ◌+◌, ℤ, Bool, true, false, not, ◌||◌, ◌&&◌, cond, if◌then◌else◌, List, [], ◌∷◌, ◌++◌, length, Option, Some, Result, Ok, Err, IfOk, refl, sym, ap, ◌∙◌, subst, arith, append_assoc, length-append, true≢false, eqb}
use Rattle.std.proofs.lemmas.List.{append-nil}
use Rattle.std.proofs.lemmas.Bool.{eqb-true, eq-eqb, false≢true}
use Rattle.std.proofs.lemmas.Bool.Decides.{Decides-int_eq}
use Rattle.std.proofs.lemmas.Slice.Eq.{bytes_eq-Decides}
use Rattle.std.proofs.lemmas.List.Folds.{list_any-append}
use Rattle.std.specs.Prelude.{slice_get}
use Rattle.std.specs.List.{list_any, position_or_len}
use Rattle.std.specs.Ordering.{int_eq}
use Rattle.std.specs.Option.{option_and_then}
use Rattle.class_form.specs.declared.constant.Const.{Const}
use Rattle.class_form.specs.declared.constant.Const.TheVariants.{Unused, Utf8, Integer, Long, Class, Text, Fieldref, Methodref, InterfaceMethodref, NameAndType}
use Rattle.class_form.specs.declared.class_file.ClassFile.{ClassFile}
use Rattle.class_form.specs.Constants.{text_in, class_in, utf8_at, class_name_at}
use Rattle.class_form.specs.WellFormed.{is_wide}
use Rattle.jp_store.specs.Classes.{Key}
use Rattle.jvm_table.specs.Constants.{member_named, string_in, literal_at}
use Rattle.code_asm.specs.Held.{Held, is_same, with_rest, hold, hold_class, hold_text, hold_name_and_type, hold_member, Extends, InFiles, Answers}
use Rattle.code_asm.specs.declared.fault.AsmFault.{AsmFault}

both : (a b : Bool) → (a && b) ≡ true → (a ≡ true) × (b ≡ true)
both true b h = (refl, h)
both false b h = absurd (false≢true h)

pair_is : (kind : ℕ → ℕ → Const) (a m b n : ℕ) → (eqb a b && eqb m n) ≡ true → kind a m ≡ kind b n
pair_is kind a m b n h = let p = both (eqb a b) (eqb m n) h in ap (λ x. kind x m) (eqb-true a b p.0) ∙ ap (kind b) (eqb-true m n p.1)

-- constants that are the same are equal
pub same_is : (c x : Const) → is_same c x ≡ true → c ≡ x
same_is (Utf8 a) (Utf8 b) h = ap Utf8 ((bytes_eq-Decides a b).0 h)
same_is (Integer a) (Integer b) h = ap Integer ((Decides-int_eq a b).0 h)
same_is (Long a) (Long b) h = ap Long ((Decides-int_eq a b).0 h)
same_is (Class a) (Class b) h = ap Class (eqb-true a b h)
same_is (Text a) (Text b) h = ap Text (eqb-true a b h)
same_is (Fieldref a m) (Fieldref b n) h = pair_is Fieldref a m b n h
same_is (Methodref a m) (Methodref b n) h = pair_is Methodref a m b n h
same_is (InterfaceMethodref a m) (InterfaceMethodref b n) h = pair_is InterfaceMethodref a m b n h
same_is (NameAndType a m) (NameAndType b n) h = pair_is NameAndType a m b n h
same_is _ _ h = absurd (false≢true h)

-- the first constant that is the same
module _ (c : Const) where
  at_found : (list more : List Const) → list_any (is_same c) list ≡ true → slice_get (list ++ more) (position_or_len (is_same c) list) ≡ Some c
  at_found [] more h = absurd (false≢true h)
  at_found (x ∷ xs) more h = first (is_same c x) refl h (at_found xs more)
    where
      first : (b : Bool) → is_same c x ≡ b → (b || list_any (is_same c) xs) ≡ true → (list_any (is_same c) xs ≡ true → slice_get (xs ++ more) (position_or_len (is_same c) xs) ≡ Some c)
          → slice_get (x ∷ (xs ++ more)) (cond (not b) (1 + position_or_len (is_same c) xs) 0) ≡ Some c
      first true e g ih = ap Some (sym (same_is c x e))
      first false e g ih = let n : 1 + position_or_len (is_same c) xs ≡ suc (position_or_len (is_same c) xs) = omega arith in ap (slice_get (x ∷ (xs ++ more))) n ∙ ih g

  at_end : (list rest : List Const) → list_any (is_same c) list ≡ false → slice_get (list ++ c ∷ rest) (position_or_len (is_same c) list) ≡ Some c
  at_end [] rest h = refl
  at_end (x ∷ xs) rest h = first (is_same c x) h (at_end xs rest)
    where
      first : (b : Bool) → (b || list_any (is_same c) xs) ≡ false → (list_any (is_same c) xs ≡ false → slice_get (xs ++ c ∷ rest) (position_or_len (is_same c) xs) ≡ Some c)
          → slice_get (x ∷ (xs ++ c ∷ rest)) (cond (not b) (1 + position_or_len (is_same c) xs) 0) ≡ Some c
      first true g ih = absurd (true≢false g)
      first false g ih = let n : 1 + position_or_len (is_same c) xs ≡ suc (position_or_len (is_same c) xs) = omega arith in ap (slice_get (x ∷ (xs ++ c ∷ rest))) n ∙ ih g

  -- a constant that is there has the same index whatever stands behind
  at_first : (list more : List Const) → list_any (is_same c) list ≡ true → position_or_len (is_same c) (list ++ more) ≡ position_or_len (is_same c) list
  at_first [] more h = absurd (false≢true h)
  at_first (x ∷ xs) more h = first (is_same c x) h (at_first xs more)
    where
      first : (b : Bool) → (b || list_any (is_same c) xs) ≡ true → (list_any (is_same c) xs ≡ true → position_or_len (is_same c) (xs ++ more) ≡ position_or_len (is_same c) xs)
          → cond (not b) (1 + position_or_len (is_same c) (xs ++ more)) 0 ≡ cond (not b) (1 + position_or_len (is_same c) xs) 0
      first true g ih = refl
      first false g ih = ap (λ n. 1 + n) (ih g)

  -- one that isn't there yet comes behind the others
  behind_none : (list rest : List Const) → list_any (is_same c) list ≡ false → is_same c c ≡ true → position_or_len (is_same c) (list ++ c ∷ rest) ≡ position_or_len (is_same c) list
  behind_none [] rest h t = ap (λ b. cond (not b) (1 + position_or_len (is_same c) rest) 0) t
  behind_none (x ∷ xs) rest h t = first (is_same c x) h (λ g. behind_none xs rest g t)
    where
      first : (b : Bool) → (b || list_any (is_same c) xs) ≡ false → (list_any (is_same c) xs ≡ false → position_or_len (is_same c) (xs ++ c ∷ rest) ≡ position_or_len (is_same c) xs)
          → cond (not b) (1 + position_or_len (is_same c) (xs ++ c ∷ rest)) 0 ≡ cond (not b) (1 + position_or_len (is_same c) xs) 0
      first true g ih = refl
      first false g ih = ap (λ n. 1 + n) (ih g)

  -- the constant itself comes first of what is added
  wanted_first : (b : Bool) (rest : List Const) → (more : List Const) × ((if b then c ∷ Unused ∷ [] else c ∷ []) ++ rest ≡ c ∷ more)
  wanted_first true rest = (Unused ∷ rest, refl)
  wanted_first false rest = (rest, refl)

-- the constant at an index, whatever stands behind
abbrev pub HasAt : List Const → ℕ → Const → Type 0
HasAt list index c = (more : List Const) → slice_get (Unused ∷ (list ++ more)) index ≡ Some c

pub extends_more : (a b c : List Const) → Extends a b → Extends b c → Extends a c
extends_more a b c f g = (f.0 ++ g.0, g.1 ∙ ap (λ l. l ++ g.0) f.1 ∙ append_assoc a f.0 g.0)

pub has_more : (a b : List Const) (i : ℕ) (c : Const) → Extends a b → HasAt a i c → HasAt b i c
has_more a b i c e h more = ap (λ l. slice_get (Unused ∷ l) i) (ap (λ l. l ++ more) e.1 ∙ append_assoc a e.0 more) ∙ h (e.0 ++ more)

-- what is held is had at its index
pub held_has : (list : List Const) (c : Const) → HasAt (hold list c).constants (hold list c).index c
unfolding hold
held_has list c more =
    let n : 1 + position_or_len (is_same c) list ≡ suc (position_or_len (is_same c) list) = omega arith in
    ap (slice_get (Unused ∷ ((hold list c).constants ++ more))) n ∙ by_test (list_any (is_same c) list) refl
  where
    by_test : (b : Bool) → list_any (is_same c) list ≡ b → slice_get ((if b then list else list ++ with_rest c) ++ more) (position_or_len (is_same c) list) ≡ Some c
    by_test true e = at_found c list more e
    by_test false e =
        let w = wanted_first c (is_wide c) more in
        ap (λ l. slice_get l (position_or_len (is_same c) list)) (append_assoc list (with_rest c) more ∙ ap (λ l. list ++ l) w.1) ∙ at_end c list w.0 e

nothing_more : (a more : List Const) → a ++ more ≡ a → more ≡ []
nothing_more a [] e = refl
nothing_more a (x ∷ xs) e = absurd (omega (arith, length-append a (x ∷ xs), ap length e))

-- constants between the same ones are the same
squeezed : (a b c : List Const) → Extends a b → Extends b c → c ≡ a → b ≡ a
squeezed a b c f g e =
    let z : f.0 ++ g.0 ≡ [] = nothing_more a (f.0 ++ g.0) (sym (append_assoc a f.0 g.0) ∙ ap (λ l. l ++ g.0) (sym f.1) ∙ sym g.1 ∙ e) in
    f.1 ∙ ap (λ l. a ++ l) (front_nil f.0 g.0 z) ∙ append-nil a
  where
    front_nil : (xs ys : List Const) → xs ++ ys ≡ [] → xs ≡ []
    front_nil [] ys e = refl
    front_nil (x ∷ xs) ys e = absurd (omega (arith, ap length e))

-- A way to hold something: constants go on; where nothing is added, the same is had whatever stands behind; and what is
-- held once is held
pub record IsHolding (f : List Const → Held) : Type 0 where
  pub extends : (list : List Const) → Extends list (f list).constants
  pub again : (list more : List Const) → (f list).constants ≡ list → f (list ++ more) ≡ record { constants = list ++ more; index = (f list).index }
  pub twice : (list : List Const) → f (f list).constants ≡ f list

-- what is the same as itself
abbrev pub IsProper : Const → Type 0
IsProper c = is_same c c ≡ true

pub utf8_proper : (bytes : List ℕ) → IsProper (Utf8 bytes)
utf8_proper bytes = (bytes_eq-Decides bytes bytes).1 refl

pub int_proper : (n : ℤ) → int_eq n n ≡ true
int_proper n = (Decides-int_eq n n).1 refl

pub pair_proper : (a b : ℕ) → (eqb a a && eqb b b) ≡ true
pair_proper a b = ap (λ x. x && eqb b b) (eq-eqb a a refl) ∙ eq-eqb b b refl

pub one_held : (c : Const) → IsProper c → IsHolding (λ list. hold list c)
unfolding hold
one_held c proper = record {
  extends = λ list. goes_on list (list_any (is_same c) list);
  again = λ list more e. there list more (list_any (is_same c) list) refl e;
  twice = λ list. once_more list (list_any (is_same c) list) refl;
}
  where
    once_more : (list : List Const) (b : Bool) → list_any (is_same c) list ≡ b
        → hold (if b then list else list ++ with_rest c) c ≡ record { constants = if b then list else list ++ with_rest c; index = 1 + position_or_len (is_same c) list }
    once_more list true e = ap (λ b. record { constants = if b then list else list ++ with_rest c; index = 1 + position_or_len (is_same c) list }) e
    once_more list false e =
        let w = wanted_first c (is_wide c) [] in
        let spelled : with_rest c ≡ c ∷ w.0 = sym (append-nil (with_rest c)) ∙ w.1 in
        let found : list_any (is_same c) (list ++ with_rest c) ≡ true =
        list_any-append (is_same c) list (with_rest c) ∙ ap (λ b. b || list_any (is_same c) (with_rest c)) e ∙ ap (list_any (is_same c)) spelled ∙ ap (λ b. b || list_any (is_same c) w.0) proper in
        ap (λ b. record { constants = if b then list ++ with_rest c else (list ++ with_rest c) ++ with_rest c; index = 1 + position_or_len (is_same c) (list ++ with_rest c) }) found
        ∙ ap (λ n. record { constants = list ++ with_rest c; index = 1 + n }) (ap (λ l. position_or_len (is_same c) (list ++ l)) spelled ∙ behind_none c list w.0 e proper)

    goes_on : (list : List Const) (b : Bool) → Extends list (if b then list else list ++ with_rest c)
    goes_on list true = ([], sym (append-nil list))
    goes_on list false = (with_rest c, refl)

    there : (list more : List Const) (b : Bool) → list_any (is_same c) list ≡ b → (if b then list else list ++ with_rest c) ≡ list → hold (list ++ more) c ≡ record { constants = list ++ more; index = 1 + position_or_len (is_same c) list }
    there list more true e h =
        let found : list_any (is_same c) (list ++ more) ≡ true = list_any-append (is_same c) list more ∙ ap (λ b. b || list_any (is_same c) more) e in
        ap (λ b. record { constants = if b then list ++ more else (list ++ more) ++ with_rest c; index = 1 + position_or_len (is_same c) (list ++ more) }) found
        ∙ ap (λ n. record { constants = list ++ more; index = 1 + n }) (at_first c list more e)
    there list more false e h =
        let w = wanted_first c (is_wide c) [] in
        absurd (omega (arith, ap length (nothing_more list (with_rest c) h), ap length (sym (append-nil (with_rest c)) ∙ w.1)))

-- one thing after the other, which goes by the first one's index
pub then_held : (f : List Const → Held) (g : ℕ → List Const → Held) → IsHolding f → ((i : ℕ) → IsHolding (g i)) → IsHolding (λ list. g (f list).index (f list).constants)
then_held f g F G = record {
  extends = λ list. extends_more list (f list).constants (g (f list).index (f list).constants).constants (F.extends list) ((G (f list).index).extends (f list).constants);
  again = λ list more e.
      let i : ℕ = (f list).index in
      let first : (f list).constants ≡ list = squeezed list (f list).constants (g i (f list).constants).constants (F.extends list) ((G i).extends (f list).constants) e in
      let second : (g i list).constants ≡ list = subst (λ l. (g i l).constants ≡ list) first e in
      ap (λ h. g h.index h.constants) (F.again list more first) ∙ (G i).again list more second ∙ ap (λ l. record { constants = list ++ more; index = (g i l).index }) (sym first);
  twice = λ list.
      let i : ℕ = (f list).index in
      let fc : List Const = (f list).constants in
      let e = (G i).extends fc in
      let there : (f fc).constants ≡ fc = ap (λ h. h.constants) (F.twice list) in
      let first : f (g i fc).constants ≡ record { constants = (g i fc).constants; index = i } =
      ap f e.1 ∙ F.again fc e.0 there ∙ ap (λ n. record { constants = fc ++ e.0; index = n }) (ap (λ h. h.index) (F.twice list)) ∙ ap (λ l. record { constants = l; index = i }) (sym e.1) in
      ap (λ h. g h.index h.constants) first ∙ (G i).twice fc;
}

pub class_held : (name : List ℕ) → IsHolding (λ list. hold_class list name)
unfolding hold_class
class_held name = then_held (λ list. hold list (Utf8 name)) (λ i list. hold list (Class i)) (one_held (Utf8 name) (utf8_proper name)) (λ i. one_held (Class i) (eq-eqb i i refl))

pub text_held : (bytes : List ℕ) → IsHolding (λ list. hold_text list bytes)
unfolding hold_text
text_held bytes = then_held (λ list. hold list (Utf8 bytes)) (λ i list. hold list (Text i)) (one_held (Utf8 bytes) (utf8_proper bytes)) (λ i. one_held (Text i) (eq-eqb i i refl))

pub name_and_type_held : (name descriptor : List ℕ) → IsHolding (λ list. hold_name_and_type list name descriptor)
unfolding hold_name_and_type
name_and_type_held name descriptor =
    then_held (λ list. hold list (Utf8 name)) (λ i list. let d = hold list (Utf8 descriptor) in hold d.constants (NameAndType i d.index)) (one_held (Utf8 name) (utf8_proper name))
    (λ i. then_held (λ list. hold list (Utf8 descriptor)) (λ j list. hold list (NameAndType i j)) (one_held (Utf8 descriptor) (utf8_proper descriptor)) (λ j. one_held (NameAndType i j) (pair_proper i j)))

pub member_held : (kind : ℕ → ℕ → Const) → ((a b : ℕ) → IsProper (kind a b)) → (class name descriptor : List ℕ) → IsHolding (λ list. hold_member kind list class name descriptor)
unfolding hold_member
member_held kind proper class name descriptor =
    then_held (λ list. hold_class list class) (λ i list. let m = hold_name_and_type list name descriptor in hold m.constants (kind i m.index)) (class_held class)
    (λ i. then_held (λ list. hold_name_and_type list name descriptor) (λ j list. hold list (kind i j)) (name_and_type_held name descriptor) (λ j. one_held (kind i j) (proper i j)))

-- a class, a string literal, a name and type, and a member, with what they name
pub record ClassAt (list : List Const) (index : ℕ) (name : List ℕ) : Type 0 where
  pub text : ℕ
  pub class : HasAt list index (Class text)
  pub spelled : HasAt list text (Utf8 name)

pub record TextAt (list : List Const) (index : ℕ) (bytes : List ℕ) : Type 0 where
  pub text : ℕ
  pub literal : HasAt list index (Text text)
  pub spelled : HasAt list text (Utf8 bytes)

pub record TypeAt (list : List Const) (index : ℕ) (name descriptor : List ℕ) : Type 0 where
  pub first : ℕ
  pub second : ℕ
  pub pair : HasAt list index (NameAndType first second)
  pub name_spelled : HasAt list first (Utf8 name)
  pub descriptor_spelled : HasAt list second (Utf8 descriptor)

pub record MemberAt (kind : ℕ → ℕ → Const) (list : List Const) (index : ℕ) (class name descriptor : List ℕ) : Type 0 where
  pub owner : ℕ
  pub type : ℕ
  pub member : HasAt list index (kind owner type)
  pub class_at : ClassAt list owner class
  pub type_at : TypeAt list type name descriptor

class_at_more : (a b : List Const) (i : ℕ) (name : List ℕ) → Extends a b → ClassAt a i name → ClassAt b i name
class_at_more a b i name e k = record { text = k.text; class = has_more a b i (Class k.text) e k.class; spelled = has_more a b k.text (Utf8 name) e k.spelled }

type_at_more : (a b : List Const) (i : ℕ) (name descriptor : List ℕ) → Extends a b → TypeAt a i name descriptor → TypeAt b i name descriptor
type_at_more a b i name descriptor e k = record {
  first = k.first;
  second = k.second;
  pair = has_more a b i (NameAndType k.first k.second) e k.pair;
  name_spelled = has_more a b k.first (Utf8 name) e k.name_spelled;
  descriptor_spelled = has_more a b k.second (Utf8 descriptor) e k.descriptor_spelled;
}

pub class_has : (list : List Const) (name : List ℕ) → ClassAt (hold_class list name).constants (hold_class list name).index name
unfolding hold_class
class_has list name =
    let t = hold list (Utf8 name) in
    record {
      text = t.index;
      class = held_has t.constants (Class t.index);
      spelled = has_more t.constants (hold t.constants (Class t.index)).constants t.index (Utf8 name) ((one_held (Class t.index) (eq-eqb t.index t.index refl)).extends t.constants) (held_has list (Utf8 name));
    }

pub text_has : (list : List Const) (bytes : List ℕ) → TextAt (hold_text list bytes).constants (hold_text list bytes).index bytes
unfolding hold_text
text_has list bytes =
    let t = hold list (Utf8 bytes) in
    record {
      text = t.index;
      literal = held_has t.constants (Text t.index);
      spelled = has_more t.constants (hold t.constants (Text t.index)).constants t.index (Utf8 bytes) ((one_held (Text t.index) (eq-eqb t.index t.index refl)).extends t.constants) (held_has list (Utf8 bytes));
    }

pub type_has : (list : List Const) (name descriptor : List ℕ) → TypeAt (hold_name_and_type list name descriptor).constants (hold_name_and_type list name descriptor).index name descriptor
unfolding hold_name_and_type
type_has list name descriptor =
    let n = hold list (Utf8 name) in
    let d = hold n.constants (Utf8 descriptor) in
    let e = (one_held (NameAndType n.index d.index) (pair_proper n.index d.index)).extends d.constants in
    let f = extends_more n.constants d.constants (hold d.constants (NameAndType n.index d.index)).constants ((one_held (Utf8 descriptor) (utf8_proper descriptor)).extends n.constants) e in
    record {
      first = n.index;
      second = d.index;
      pair = held_has d.constants (NameAndType n.index d.index);
      name_spelled = has_more n.constants (hold d.constants (NameAndType n.index d.index)).constants n.index (Utf8 name) f (held_has list (Utf8 name));
      descriptor_spelled = has_more d.constants (hold d.constants (NameAndType n.index d.index)).constants d.index (Utf8 descriptor) e (held_has n.constants (Utf8 descriptor));
    }

pub member_has : (kind : ℕ → ℕ → Const) → ((a b : ℕ) → IsProper (kind a b)) → (list : List Const) (class name descriptor : List ℕ)
    → MemberAt kind (hold_member kind list class name descriptor).constants (hold_member kind list class name descriptor).index class name descriptor
unfolding hold_member
member_has kind proper list class name descriptor =
    let c = hold_class list class in
    let m = hold_name_and_type c.constants name descriptor in
    let e = (one_held (kind c.index m.index) (proper c.index m.index)).extends m.constants in
    let f = extends_more c.constants m.constants (hold m.constants (kind c.index m.index)).constants ((name_and_type_held name descriptor).extends c.constants) e in
    record {
      owner = c.index;
      type = m.index;
      member = held_has m.constants (kind c.index m.index);
      class_at = class_at_more c.constants (hold m.constants (kind c.index m.index)).constants c.index class f (class_has list class);
      type_at = type_at_more m.constants (hold m.constants (kind c.index m.index)).constants m.index name descriptor e (type_has c.constants name descriptor);
    }

-- what these are in a file
module _ (list : List Const) (file : ClassFile) (more : List Const) (has : file.constants ≡ Unused ∷ (list ++ more)) where
  pub constant_in : (i : ℕ) (c : Const) → HasAt list i c → slice_get file.constants i ≡ Some c
  constant_in i c h = ap (λ l. slice_get l i) has ∙ h more

  pub utf8_in : (i : ℕ) (bytes : List ℕ) → HasAt list i (Utf8 bytes) → utf8_at file i ≡ Some bytes
  utf8_in i bytes h = ap (option_and_then text_in) (constant_in i (Utf8 bytes) h)

  pub class_name_in : (i : ℕ) (name : List ℕ) → ClassAt list i name → class_name_at file i ≡ Some name
  class_name_in i name k = ap (λ c. option_and_then (utf8_at file) (option_and_then class_in c)) (constant_in i (Class k.text) k.class) ∙ utf8_in k.text name k.spelled

  pub literal_in : (i : ℕ) (bytes : List ℕ) → TextAt list i bytes → literal_at file i ≡ Some bytes
  literal_in i bytes k = ap (λ c. option_and_then (utf8_at file) (option_and_then string_in c)) (constant_in i (Text k.text) k.literal) ∙ utf8_in k.text bytes k.spelled

  pub member_in : (kind : ℕ → ℕ → Const) (parts : Const → Option (ℕ × ℕ)) → ((a b : ℕ) → parts (kind a b) ≡ Some (a, b)) → (i : ℕ) (key : Key) → MemberAt kind list i key.class key.name key.descriptor
      → member_named parts file i ≡ Some key
  member_in kind parts is i key k =
      rw (
        constant_in i (kind k.owner k.type) k.member,
        is k.owner k.type,
        class_name_in k.owner key.class k.class_at,
        constant_in k.type (NameAndType k.type_at.first k.type_at.second) k.type_at.pair,
        utf8_in k.type_at.first key.name k.type_at.name_spelled,
        utf8_in k.type_at.second key.descriptor k.type_at.descriptor_spelled,
      ) refl

-- what is answered goes on, also where nothing is had
pub answers_extend : (f : List Const → Held) → IsHolding f → (old new : List Const) (r : Result ℕ AsmFault) → Answers (f old) old new r → Extends old new
answers_extend f F old new (Ok i) a = let e = F.extends old in (e.0, a.0 ∙ e.1)
answers_extend f F old new (Err fault) a = ([], a.0 ∙ sym (append-nil old))

-- what an answered index names
module _ (P : List Const → ℕ → ClassFile → Type 0) where
  pub answers_named : (held : Held) → ((file : ClassFile) (more : List Const) → file.constants ≡ Unused ∷ (held.constants ++ more) → P held.constants held.index file)
      → (old new : List Const) (r : Result ℕ AsmFault) → Answers held old new r → IfOk r (λ index. InFiles new (P new index))
  answers_named held h old new (Ok i) a =
      subst (λ l. InFiles l (P l i)) (sym a.0) (subst (λ n. InFiles held.constants (P held.constants n)) (sym a.1) h)
  answers_named held h old new (Err fault) a = tt
