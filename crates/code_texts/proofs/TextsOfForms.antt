-- Pieces of code whose texts fit, form by form.
use Rattle.std.proofs.Common.{◌≡◌, ℕ, ◌+◌, Bool, true, false, not, ◌&&◌, List, [], ◌∷◌, ◌++◌, Option, Some, None, refl, ◌∙◌}
use Rattle.std.specs.Prelude.{ℤ, cond, max, codes}
use Rattle.std.specs.List.{list_all}
use Rattle.std.proofs.lemmas.List.Folds.{list_all-append}
use Rattle.class_form.proofs.Facts.{both, and_both}
use Rattle.jp_pred.specs.declared.ty.Ty.{Ty}
use Rattle.jp_pred.specs.declared.ty.Ty.TheVariants as ty
use Rattle.jp_pred.specs.Names.{Word, object, same}
use Rattle.jp_pred.specs.Kinds.{is_reference}
use Rattle.jp_store.specs.declared.value.Kind.{Kind}
use Rattle.jp_store.specs.declared.operator.Test.{Test}
use Rattle.jp_store.specs.Classes.{Key, object_name}
use Rattle.jp_meaning.specs.Descriptors.{internal_name, descriptor_of, method_descriptor, method_of, constructor_of, key_of, elements_of}
use Rattle.jp_meaning.specs.Signs.{Prefix, Plus, Minus, Not, Complement, Infix, Operates, Compares, AndThen, OrElse}
use Rattle.jvm_table.specs.declared.instr.Instr.TheVariants.{PushNull, PushInt, PopTop}
use Rattle.jvm_table.specs.declared.instr.ConstantUse.TheVariants.{PushConstant, InvokeSpecial}
use Rattle.code_trace.specs.Calls.{key_of_method}
use Rattle.code_asm.specs.Items.{IntOf, BuiltIn, Item, Plain, Uses, Branch, Mark}
use Rattle.gen_body.specs.Codes.{Codes, jump_where, plain, void, judged, choose_truth, and_test, or_test, choice, is_short as is_short_int, push_int, construction, named, virtual_call, called, Place, LocalAt, FieldAt, StaticAt, ElementAt, Nowhere, Literal, Zero, Nil, Anything, Coded, prefix_codes, infix_codes, compare_both, compare_codes, local_codes, array_codes, local_spot}
use Rattle.code_texts.specs.Short.{is_short, names_short, has_short_params, is_short_call}
use Rattle.code_texts.specs.Fitting.{text_fits_in, key_texts, item_texts, items_fit}
use Rattle.code_texts.proofs.Texts.{names, types, methods}

abbrev pub Fit : Item → Type 0
Fit item = list_all text_fits_in (item_texts item) ≡ true

abbrev pub KeyFits : Key → Type 0
KeyFits key = list_all text_fits_in (key_texts key) ≡ true

abbrev pub Each : List Item → Type 0
Each items = items_fit items ≡ true

pub joined : (a b : List Item) → Each a → Each b → Each (a ++ b)
joined a b h k = list_all-append (λ i. list_all text_fits_in (item_texts i)) a b ∙ and_both (items_fit a) (items_fit b) h k

-- in front of others, and behind them
pub before : (item : Item) (items : List Item) → Fit item → Each items → Each (item ∷ items)
before item items h k = and_both (list_all text_fits_in (item_texts item)) (items_fit items) h k

pub single : (item : Item) → Fit item → Each (item ∷ [])
single item h = before item [] h refl

pub behind : (items : List Item) (item : Item) → Each items → Fit item → Each (items ++ item ∷ [])
behind items item h k = joined items (item ∷ []) h (single item k)

three_fit : (a b c : List ℕ) → text_fits_in a ≡ true → text_fits_in b ≡ true → text_fits_in c ≡ true → list_all text_fits_in (a ∷ b ∷ c ∷ []) ≡ true
three_fit a b c h i j =
    and_both (text_fits_in a) (text_fits_in b && (text_fits_in c && true)) h
    (and_both (text_fits_in b) (text_fits_in c && true) i (and_both (text_fits_in c) true j refl))

-- a class, a field, and a method, as code names them
pub class_fits : (class : Word) → is_short class ≡ true → list_all text_fits_in (internal_name class ∷ []) ≡ true
class_fits class e = and_both (text_fits_in (internal_name class)) true (names class e).1 refl

pub field_fits : (class name : Word) (t : Ty) → (is_short class && (is_short name && names_short t)) ≡ true → KeyFits (key_of class name t)
field_fits class name t e =
    let h = both (is_short class) (is_short name && names_short t) e in
    let i = both (is_short name) (names_short t) h.1 in
    three_fit (internal_name class) name (descriptor_of t) (names class h.0).1 (names name i.0).0 (types t i.1).0

pub method_fits : (class name : Word) (params : List Ty) (t : Ty) → is_short_call class name params t ≡ true → KeyFits (key_of_method (method_of class name params t))
method_fits class name params t e =
    let h = both (is_short class) (is_short name && (has_short_params params && names_short t)) e in
    let i = both (is_short name) (has_short_params params && names_short t) h.1 in
    let j = both (has_short_params params) (names_short t) i.1 in
    three_fit (internal_name class) name (method_descriptor params t) (names class h.0).1 (names name i.0).0 (methods params t j.0 j.1)

pub virtual_fits : (is_interface : Bool) (class name : Word) (params : List Ty) (t : Ty) → is_short_call class name params t ≡ true → Fit (virtual_call is_interface (method_of class name params t) params t)
virtual_fits true class name params t e = method_fits class name params t e
virtual_fits false class name params t e = method_fits class name params t e

pub construction_fits : (class : Word) (params : List Ty) → is_short class ≡ true → has_short_params params ≡ true → Fit (construction class params)
construction_fits class params e h = by_class (same class object) where
  by_class : (b : Bool) → Fit (Uses InvokeSpecial (cond b (BuiltIn (record { class = object_name; name = codes "<init>"; descriptor = codes "()V" })) (named (constructor_of class params) params ty.Void)))
  by_class true = refl
  by_class false = method_fits class (codes "<init>") params ty.Void
      (and_both (is_short class) (is_short (codes "<init>") && (has_short_params params && true)) e (and_both (has_short_params params) true h refl))

pub int_fits : (n : ℤ) → Fit (push_int n)
int_fits n = by_size (is_short_int n) where
  by_size : (b : Bool) → Fit (cond b (Plain (PushInt n)) (Uses PushConstant (IntOf n)))
  by_size true = refl
  by_size false = refl

pub record FitCodes (c : Codes) : Type 0 where
  pub value : Each c.value
  pub test : (want : Bool) (label : ℕ) → Each (c.test want label)
  pub done : Each c.done

pub plain_fits : (items : List Item) (need next : ℕ) → Each items → FitCodes (plain items need next)
plain_fits items need next h = record {
  value = h;
  test = λ want label. behind items (Branch (jump_where want) label) h refl;
  done = behind items (Plain PopTop) h refl;
}

pub void_fits : (items : List Item) (need next : ℕ) → Each items → FitCodes (void items need next)
void_fits items need next h =
    let v = behind items (Plain PushNull) h refl in
    record { value = v; test = λ want label. behind (items ++ Plain PushNull ∷ []) (Branch (jump_where want) label) v refl; done = h }

pub judged_fits : (test : Bool → ℕ → List Item) (n need next : ℕ) → ((want : Bool) (label : ℕ) → Each (test want label)) → FitCodes (judged test n need next)
judged_fits test n need next h =
    let v = joined (test false n) (choose_truth n) (h false n) refl in record { value = v; test = h; done = behind (test false n ++ choose_truth n) (Plain PopTop) v refl }

pub called_fits : (o : Option Kind) (items : List Item) (need next : ℕ) → Each items → FitCodes (called o items need next)
called_fits None items need next h = void_fits items need next h
called_fits (Some kind) items need next h = plain_fits items (max need 1) next h

pub choice_fits : (test : Bool → ℕ → List Item) (a b : List Item) (n : ℕ) → Each (test false n) → Each a → Each b → Each (choice test a b n)
choice_fits test a b n h k l = joined (test false n) _ h (joined a _ k (behind b (Mark (n + 1)) l refl))

-- where a value is stored
abbrev pub PlaceFits : Place → Type 0
PlaceFits (LocalAt slot kind) = Unit {0}
PlaceFits (FieldAt key) = KeyFits key
PlaceFits (StaticAt key) = KeyFits key
PlaceFits (ElementAt kind) = Unit {0}
PlaceFits Nowhere = Unit {0}

and_fits : (a b : Bool → ℕ → List Item) (skip : ℕ) → ((want : Bool) (label : ℕ) → Each (a want label)) → ((want : Bool) (label : ℕ) → Each (b want label)) → (want : Bool) (label : ℕ) → Each (and_test a b skip want label)
and_fits a b skip h k true label = joined (a false skip) _ (h false skip) (behind (b true label) (Mark skip) (k true label) refl)
and_fits a b skip h k false label = joined (a false label) (b false label) (h false label) (k false label)

or_fits : (a b : Bool → ℕ → List Item) (skip : ℕ) → ((want : Bool) (label : ℕ) → Each (a want label)) → ((want : Bool) (label : ℕ) → Each (b want label)) → (want : Bool) (label : ℕ) → Each (or_test a b skip want label)
or_fits a b skip h k true label = joined (a true label) (b true label) (h true label) (k true label)
or_fits a b skip h k false label = joined (a true skip) _ (h true skip) (behind (b false label) (Mark skip) (k false label) refl)

pub prefix_fits : (o : Option Prefix) (k : Coded) → ((n : ℕ) → FitCodes (k.codes n)) → (n : ℕ) → FitCodes (prefix_codes o k n)
prefix_fits None k h n = plain_fits [] 0 n refl
prefix_fits (Some Plus) k h n = plain_fits _ _ _ (h n).value
prefix_fits (Some Minus) k h n = plain_fits _ _ _ (behind (k.codes n).value _ (h n).value refl)
prefix_fits (Some Complement) k h n = plain_fits _ _ _ (joined (k.codes n).value _ (h n).value refl)
prefix_fits (Some Not) k h n = judged_fits _ n _ _ (λ want label. (h (n + 2)).test (not want) label)

both_fit : (references : Bool) (test : Test) (k l : Coded) → ((n : ℕ) → FitCodes (k.codes n)) → ((n : ℕ) → FitCodes (l.codes n)) → (n : ℕ) → FitCodes (compare_both references test k l n)
both_fit references test k l h i n =
    judged_fits _ n _ _ (λ want label. joined (k.codes (n + 2)).value _ (h (n + 2)).value (behind (l.codes (k.codes (n + 2)).next).value _ (i (k.codes (n + 2)).next).value refl))

compare_fits : (references : Bool) (literal : Literal) (test : Test) (k l : Coded) → ((n : ℕ) → FitCodes (k.codes n)) → ((n : ℕ) → FitCodes (l.codes n)) → (n : ℕ) → FitCodes (compare_codes references literal test k l n)
compare_fits false Zero test k l h i n = judged_fits _ n _ _ (λ want label. behind (k.codes (n + 2)).value _ (h (n + 2)).value refl)
compare_fits true Nil test k l h i n = judged_fits _ n _ _ (λ want label. behind (k.codes (n + 2)).value _ (h (n + 2)).value refl)
compare_fits true Zero test k l h i n = both_fit true test k l h i n
compare_fits true Anything test k l h i n = both_fit true test k l h i n
compare_fits false Nil test k l h i n = both_fit false test k l h i n
compare_fits false Anything test k l h i n = both_fit false test k l h i n

pub infix_fits : (o : Option Infix) (k l : Coded) → ((n : ℕ) → FitCodes (k.codes n)) → ((n : ℕ) → FitCodes (l.codes n)) → (n : ℕ) → FitCodes (infix_codes o k l n)
infix_fits None k l h i n = plain_fits [] 0 n refl
infix_fits (Some (Operates op)) k l h i n = plain_fits _ _ _ (joined (k.codes n).value _ (h n).value (behind (l.codes (k.codes n).next).value _ (i (k.codes n).next).value refl))
infix_fits (Some (Compares test)) k l h i n = compare_fits (is_reference k.ty) l.literal test k l h i n
infix_fits (Some AndThen) k l h i n =
    let c = k.codes (n + 3) in judged_fits _ n _ _ (and_fits c.test (l.codes c.next).test (n + 2) (h (n + 3)).test (i c.next).test)
infix_fits (Some OrElse) k l h i n =
    let c = k.codes (n + 3) in judged_fits _ n _ _ (or_fits c.test (l.codes c.next).test (n + 2) (h (n + 3)).test (i c.next).test)

pub local_fits : (o : Option Kind) (slot n : ℕ) → FitCodes (local_codes o slot n)
local_fits None slot n = plain_fits [] 0 n refl
local_fits (Some kind) slot n = plain_fits _ 1 n refl

pub local_spot_fits : (o : Option Kind) (slot n : ℕ) → Each (local_spot o slot n).items
local_spot_fits None slot n = refl
local_spot_fits (Some kind) slot n = refl

pub local_place : (o : Option Kind) (slot n : ℕ) → PlaceFits (local_spot o slot n).place
local_place None slot n = tt
local_place (Some kind) slot n = tt

pub elements_fit : (t : Ty) → names_short t ≡ true → (c : Codes) → FitCodes c → FitCodes (array_codes (elements_of t) c)
elements_fit ty.Void e c h = plain_fits _ _ _ h.value
elements_fit ty.Int e c h = plain_fits _ _ _ (behind c.value _ h.value refl)
elements_fit ty.Boolean e c h = plain_fits _ _ _ (behind c.value _ h.value refl)
elements_fit (ty.Class name) e c h = plain_fits _ _ _ (behind c.value _ h.value (class_fits name e))
elements_fit ty.IntArray e c h = plain_fits _ _ _ h.value
elements_fit ty.BooleanArray e c h = plain_fits _ _ _ h.value
elements_fit (ty.ClassArray name) e c h = plain_fits _ _ _ h.value
