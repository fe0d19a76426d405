-- Items with an opcode, whose methods are named with the signatures of their descriptors, form by form.
use Rattle.std.proofs.Common.{◌≡◌, ℕ, ◌+◌, ◌≤◌, Bool, true, false, not, ◌&&◌, ◌||◌, List, [], ◌∷◌, ◌++◌, length, Option, Some, None, refl, sym, ap, ◌∙◌, arith}
use Rattle.std.specs.Prelude.{ℤ, pos, negsuc, nat_lt, cond, if◌then◌else◌, is_some, max, codes}
use Rattle.std.specs.Int.{w8, w16, cast_unsigned}
use Rattle.std.specs.List.{list_all, filter_map, cons_option}
use Rattle.std.specs.Str.{bytes_eq}
use Rattle.std.proofs.lemmas.Bool.{false≢true, lt-ltb, ltb-true}
use Rattle.class_form.specs.Layout.{u2}
use Rattle.class_form.proofs.Facts.{both}
use Rattle.jp_pred.specs.declared.ty.Ty.{Ty}
use Rattle.jp_pred.specs.declared.ty.Ty.TheVariants as ty
use Rattle.jp_pred.specs.Names.{Word, object, same}
use Rattle.jp_pred.specs.Kinds.{is_reference}
use Rattle.jp_store.specs.declared.value.Kind.{Kind}
use Rattle.jp_store.specs.declared.value.Kind.TheVariants.{Number, LongNumber, Reference}
use Rattle.jp_store.specs.declared.operator.Test.{Test}
use Rattle.jp_store.specs.Classes.{object_name}
use Rattle.jp_store.specs.Work.{NamedElement, IntElements, BooleanElements, ClassElements}
use Rattle.jp_meaning.specs.Descriptors.{internal_name, method_descriptor, method_of, constructor_of, kind_of_type}
use Rattle.jp_meaning.specs.Signs.{Prefix, Plus, Minus, Not, Complement, Infix, Operates, Compares, AndThen, OrElse}
use Rattle.jvm_table.specs.declared.instr.Instr.TheVariants.{PushInt}
use Rattle.jvm_table.specs.declared.instr.ConstantUse.{ConstantUse}
use Rattle.jvm_table.specs.declared.instr.ConstantUse.TheVariants.{PushConstant, InvokeVirtual, InvokeSpecial}
use Rattle.jvm_table.specs.Descriptors.{signature_of, width_of_kind, places_of}
use Rattle.code_trace.specs.Calls.{key_of_method}
use Rattle.code_asm.specs.Encoding.{is_small, is_byte, small_opcode, int_bytes, with_local, local_bytes, load_bytes, store_bytes, increase_bytes, return_bytes}
use Rattle.code_asm.specs.Items.{IntOf, BuiltIn, Item, Plain, Uses, CallsInterface, Branch, Mark, is_built_in}
use Rattle.code_asm.specs.Lines.{line_of, lines_of, has_opcode}
use Rattle.code_asm.specs.Written.{IsMeant, AreMeant}
use Rattle.gen_body.specs.Names.{are_nameable, is_result}
use Rattle.gen_body.proofs.Signatures.{signatures_read_back}
use Rattle.gen_body.specs.Codes.{Codes, plain, void, judged, choose_truth, and_test, or_test, choice, is_short, push_int, construction, named, family, virtual_call, called, make_array, Place, LocalAt, FieldAt, StaticAt, ElementAt, Nowhere, Literal, Zero, Nil, Anything, Coded, prefix_codes, infix_codes, compare_both, compare_codes, local_codes, array_codes, local_spot}
use Rattle.code_fits.specs.Encodable.{is_in_reach, has_few}
use Rattle.code_fits.specs.Ordinary.{is_ordinary, is_ordinary_family, is_distinct}

pub denied : (b : Bool) → not b ≡ true → b ≡ false
denied true h = absurd (false≢true h)
denied false h = refl

-- an int that two bytes hold has an opcode
int_opcode : (n : ℤ) → is_short n ≡ true → is_some (int_bytes n) ≡ true
int_opcode n e = by_size (is_small n) (is_byte n) where
  by_size : (a b : Bool) →
      is_some (if a then Some (small_opcode n ∷ []) else (if b then Some (0x10 ∷ cast_unsigned w8 n ∷ []) else (if is_short n then Some (0x11 ∷ u2 (cast_unsigned w16 n)) else None))) ≡ true
  by_size true b = refl
  by_size false true = refl
  by_size false false = ap (λ c. is_some (if c then Some (0x11 ∷ u2 (cast_unsigned w16 n)) else None)) e

-- a local that one byte tells has opcodes
with_opcode : (opcode slot : ℕ) → is_in_reach slot ≡ true → is_some (with_local opcode slot) ≡ true
with_opcode opcode slot e = ap (λ c. is_some (if c then Some (opcode ∷ slot ∷ []) else None)) e

pub local_opcode : (first opcode slot : ℕ) → is_in_reach slot ≡ true → is_some (local_bytes first opcode slot) ≡ true
local_opcode first opcode slot e = by_size (nat_lt slot 4) where
  by_size : (b : Bool) → is_some (if b then Some ((first + slot) ∷ []) else with_local opcode slot) ≡ true
  by_size true = refl
  by_size false = with_opcode opcode slot e

-- a kind of values that take one place
abbrev pub is_single : Kind → Bool
is_single Number = true
is_single LongNumber = false
is_single Reference = true

abbrev pub Single : Option Kind → Type 0
Single None = Unit {0}
Single (Some kind) = is_single kind ≡ true

pub single_type : (t : Ty) → Single (kind_of_type t)
single_type ty.Void = tt
single_type ty.Int = refl
single_type ty.Boolean = refl
single_type (ty.Class name) = refl
single_type ty.IntArray = refl
single_type ty.BooleanArray = refl
single_type (ty.ClassArray name) = refl

pub load_opcode : (kind : Kind) (slot : ℕ) → is_single kind ≡ true → is_in_reach slot ≡ true → is_some (load_bytes kind slot) ≡ true
load_opcode Number slot h e = local_opcode 0x1a 0x15 slot e
load_opcode LongNumber slot h e = absurd (false≢true h)
load_opcode Reference slot h e = local_opcode 0x2a 0x19 slot e

pub store_opcode : (kind : Kind) (slot : ℕ) → is_single kind ≡ true → is_in_reach slot ≡ true → is_some (store_bytes kind slot) ≡ true
store_opcode Number slot h e = with_opcode 0x36 slot e
store_opcode LongNumber slot h e = absurd (false≢true h)
store_opcode Reference slot h e = with_opcode 0x3a slot e

pub return_opcode : (kind : Kind) → is_single kind ≡ true → is_some (return_bytes kind) ≡ true
return_opcode Number h = refl
return_opcode LongNumber h = absurd (false≢true h)
return_opcode Reference h = refl

pub increase_opcode : (up : Bool) (slot : ℕ) → is_in_reach slot ≡ true → is_some (increase_bytes slot (cond up (pos 1) (negsuc 0))) ≡ true
increase_opcode true slot e = ap (λ c. is_some (if c && true then Some (0x84 ∷ slot ∷ cast_unsigned w8 (pos 1) ∷ []) else None)) e
increase_opcode false slot e = ap (λ c. is_some (if c && true then Some (0x84 ∷ slot ∷ cast_unsigned w8 (negsuc 0) ∷ []) else None)) e

-- the places of arguments
one_place : (kind : Kind) → is_single kind ≡ true → width_of_kind kind ≡ 1
one_place Number h = refl
one_place LongNumber h = absurd (false≢true h)
one_place Reference h = refl

few_places : (params : List Ty) → places_of (filter_map kind_of_type params) ≤ length params
few_places [] = omega arith
few_places (t ∷ ts) = by_kind (kind_of_type t) (single_type t) (few_places ts) where
  by_kind : (o : Option Kind) → Single o → places_of (filter_map kind_of_type ts) ≤ length ts → places_of (cons_option o (filter_map kind_of_type ts)) ≤ length (t ∷ ts)
  by_kind None h le = omega (arith, le)
  by_kind (Some kind) h le = omega (arith, le, one_place kind h)

few_opcode : (params : List Ty) → nat_lt (length params) 255 ≡ true → nat_lt (1 + places_of (filter_map kind_of_type params)) 256 ≡ true
few_opcode params e = lt-ltb (1 + places_of (filter_map kind_of_type params)) 256 (let h = ltb-true (length params) 255 e in omega (arith, h, few_places params))

-- methods that aren't built into the machine
io_class : (class : Word) → same class (codes "Io") ≡ false → bytes_eq (internal_name class) (codes "Io") ≡ false
io_class class e = by_object (same class object) where
  by_object : (b : Bool) → bytes_eq (if b then object_name else class) (codes "Io") ≡ false
  by_object true = refl
  by_object false = e

all_false : (io init x y z d o : Bool) → io ≡ false → (o && init) ≡ false → ((io && x) || ((io && y) || ((io && z) || (o && (init && d))))) ≡ false
all_false true init x y z d o e f = absurd (false≢true (sym e))
all_false false true x y z d true e f = absurd (false≢true (sym f))
all_false false false x y z d true e f = refl
all_false false init x y z d false e f = refl

unbuilt : (class name : Word) (params : List Ty) (t : Ty) → is_ordinary class name ≡ true → is_built_in (key_of_method (method_of class name params t)) ≡ false
unbuilt class name params t e =
    let d = method_descriptor params t in
    let object_init = same (internal_name class) object_name && same name (codes "<init>") in
    let h = both (not (same class (codes "Io"))) (not object_init) e in
    all_false (bytes_eq (internal_name class) (codes "Io")) (bytes_eq name (codes "<init>"))
    (bytes_eq name (codes "print") && bytes_eq d (codes "(I)V")) (bytes_eq name (codes "text") && bytes_eq d (codes "(Ljava/lang/String;)V")) (bytes_eq name (codes "read") && bytes_eq d (codes "()I"))
    (bytes_eq d (codes "()V")) (bytes_eq (internal_name class) object_name) (io_class class (denied (same class (codes "Io")) h.0)) (denied object_init h.1)

none_named : (io o x y z d : Bool) → o ≡ false → ((io && (false && x)) || ((io && (false && y)) || ((io && (false && z)) || (o && d)))) ≡ false
none_named true true x y z d e = absurd (false≢true (sym e))
none_named false true x y z d e = absurd (false≢true (sym e))
none_named true false x y z d e = refl
none_named false false x y z d e = refl

made_unbuilt : (class : Word) (params : List Ty) → same class object ≡ false → is_distinct class ≡ true → is_built_in (key_of_method (constructor_of class params)) ≡ false
made_unbuilt class params e h =
    let d = method_descriptor params ty.Void in
    let own : internal_name class ≡ class = ap (λ b. if b then object_name else class) e in
    none_named (bytes_eq (internal_name class) (codes "Io")) (bytes_eq (internal_name class) object_name)
    (bytes_eq d (codes "(I)V")) (bytes_eq d (codes "(Ljava/lang/String;)V")) (bytes_eq d (codes "()I")) (bytes_eq (codes "<init>") (codes "<init>") && bytes_eq d (codes "()V"))
    (ap (λ w. bytes_eq w object_name) own ∙ denied (same class object_name) h)

-- what is meant by an item
abbrev pub Meant : Item → Type 0
Meant (Plain instr) = Unit {0}
Meant (Uses use_ wanted) = IsMeant wanted
Meant (CallsInterface key signature) = signature_of key.descriptor ≡ Some signature
Meant (Branch jump label) = Unit {0}
Meant (Mark label) = Unit {0}

-- what is so of both under a premise
pub both_if : (T : Type 0) (a b : Bool) → (T → (a && b) ≡ true) → (T → a ≡ true) × (T → b ≡ true)
both_if T a b h = (λ t. (both a b (h t)).0, λ t. (both a b (h t)).1)

-- Under one premise each item has an opcode; under another each names its method with the signature of its descriptor
module _ (G F : Type 0) where
  abbrev pub Fit : Item → Type 0
  Fit item = (G → has_opcode (line_of item) ≡ true) × (F → Meant item)

  abbrev pub Each : List Item → Type 0
  Each [] = Unit {0}
  Each (item ∷ items) = Fit item × Each items

  pub have_opcodes : (items : List Item) → G → Each items → list_all has_opcode (lines_of items) ≡ true
  have_opcodes [] g h = refl
  have_opcodes (item ∷ items) g h = ap (λ b. b && list_all has_opcode (lines_of items)) (h.0.0 g) ∙ have_opcodes items g h.1

  pub are_meant : (items : List Item) → F → Each items → AreMeant items
  are_meant [] f h = tt
  are_meant (Plain instr ∷ items) f h = are_meant items f h.1
  are_meant (Uses use_ wanted ∷ items) f h = (h.0.1 f, are_meant items f h.1)
  are_meant (CallsInterface key signature ∷ items) f h = (h.0.1 f, are_meant items f h.1)
  are_meant (Branch jump label ∷ items) f h = are_meant items f h.1
  are_meant (Mark label ∷ items) f h = are_meant items f h.1

  pub joined : (a b : List Item) → Each a → Each b → Each (a ++ b)
  joined [] b h k = k
  joined (item ∷ a) b h k = (h.0, joined a b h.1 k)

  pub record FitCodes (c : Codes) : Type 0 where
    pub value : Each c.value
    pub test : (want : Bool) (label : ℕ) → Each (c.test want label)
    pub done : Each c.done

  pub plain_fits : (items : List Item) (need next : ℕ) → Each items → FitCodes (plain items need next)
  plain_fits items need next h = record {
    value = h;
    test = λ want label. joined items (Branch _ label ∷ []) h ((λ g. refl, λ f. tt), tt);
    done = joined items _ h ((λ g. refl, λ f. tt), tt);
  }

  pub void_fits : (items : List Item) (need next : ℕ) → Each items → FitCodes (void items need next)
  void_fits items need next h =
      let v = joined items _ h ((λ g. refl, λ f. tt), tt) in
      record { value = v; test = λ want label. joined _ (Branch _ label ∷ []) v ((λ g. refl, λ f. tt), tt); done = h }

  choose_fits : (n : ℕ) → Each (choose_truth n)
  choose_fits n = ((λ g. refl, λ f. tt), ((λ g. refl, λ f. tt), ((λ g. refl, λ f. tt), ((λ g. refl, λ f. tt), ((λ g. refl, λ f. tt), tt)))))

  pub judged_fits : (test : Bool → ℕ → List Item) (n need next : ℕ) → ((want : Bool) (label : ℕ) → Each (test want label)) → FitCodes (judged test n need next)
  judged_fits test n need next h =
      let v = joined (test false n) (choose_truth n) (h false n) (choose_fits n) in
      record { value = v; test = h; done = joined _ _ v ((λ g. refl, λ f. tt), tt) }

  pub called_fits : (o : Option Kind) (items : List Item) (need next : ℕ) → Each items → FitCodes (called o items need next)
  called_fits None items need next h = void_fits items need next h
  called_fits (Some kind) items need next h = plain_fits items (max need 1) next h

  pub choice_fits : (test : Bool → ℕ → List Item) (a b : List Item) (n : ℕ) → Each (test false n) → Each a → Each b → Each (choice test a b n)
  choice_fits test a b n h k l = joined (test false n) _ h (joined a _ k ((λ g. refl, λ f. tt), ((λ g. refl, λ f. tt), joined b _ l ((λ g. refl, λ f. tt), tt))))

  -- a local that is assigned to can be told
  abbrev pub PlaceFits : Place → Type 0
  PlaceFits (LocalAt slot kind) = (is_single kind ≡ true) × (G → is_in_reach slot ≡ true)
  PlaceFits (FieldAt key) = Unit {0}
  PlaceFits (StaticAt key) = Unit {0}
  PlaceFits (ElementAt kind) = Unit {0}
  PlaceFits Nowhere = Unit {0}

  pub int_fits : (n : ℤ) → Fit (push_int n)
  int_fits n = by_size (is_short n) refl where
    by_size : (b : Bool) → is_short n ≡ b → Fit (cond b (Plain (PushInt n)) (Uses PushConstant (IntOf n)))
    by_size true e = (λ g. int_opcode n e, λ f. tt)
    by_size false e = (λ g. refl, λ f. tt)

  pub truth_fits : (b : Bool) → Fit (Plain (PushInt (cond b (pos 1) (pos 0))))
  truth_fits true = (λ g. refl, λ f. tt)
  truth_fits false = (λ g. refl, λ f. tt)

  pub named_fits : (use_ : ConstantUse) (class name : Word) (params : List Ty) (t : Ty) → (F → (are_nameable params && is_result t) ≡ true) → (F → is_ordinary class name ≡ true) → Fit (Uses use_ (named (method_of class name params t) params t))
  named_fits use_ class name params t h e =
      (λ g. refl, λ f. let i = both (are_nameable params) (is_result t) (h f) in (signatures_read_back params t i.0 i.1, unbuilt class name params t (e f)))

  pub family_fits : (use_ : ConstantUse) (class name : Word) (params : List Ty) (t : Ty) → (F → (are_nameable params && is_result t) ≡ true) → (F → is_ordinary_family class name ≡ true) → Fit (Uses use_ (family (method_of class name params t) params t))
  family_fits use_ class name params t h e = (
    λ g. refl,
    λ f.
        let i = both (are_nameable params) (is_result t) (h f) in
        let j = both (is_ordinary class name) (not (same name (codes "<init>"))) (e f) in
        (signatures_read_back params t i.0 i.1, unbuilt class name params t j.0, denied (same name (codes "<init>")) j.1),
  )

  pub virtual_fits : (is_interface : Bool) (class name : Word) (params : List Ty) (t : Ty) → (F → (are_nameable params && is_result t) ≡ true) → (F → is_ordinary class name ≡ true) → (G → has_few is_interface params ≡ true) → Fit (virtual_call is_interface (method_of class name params t) params t)
  virtual_fits true class name params t h e g =
      (λ z. few_opcode params (g z), λ f. let i = both (are_nameable params) (is_result t) (h f) in signatures_read_back params t i.0 i.1)
  virtual_fits false class name params t h e g = named_fits InvokeVirtual class name params t h e

  pub construction_fits : (class : Word) (params : List Ty) → (F → are_nameable params ≡ true) → (F → is_distinct class ≡ true) → Fit (construction class params)
  construction_fits class params h e = by_class (same class object) refl where
    by_class : (b : Bool) → same class object ≡ b → Fit (Uses InvokeSpecial (cond b (BuiltIn (record { class = object_name; name = codes "<init>"; descriptor = codes "()V" })) (named (constructor_of class params) params ty.Void)))
    by_class true i = (λ g. refl, λ f. tt)
    by_class false i = (λ g. refl, λ f. (signatures_read_back params ty.Void (h f) refl, made_unbuilt class params i (e f)))

  array_fits : (elements : NamedElement) → Fit (make_array elements)
  array_fits IntElements = (λ g. refl, λ f. tt)
  array_fits BooleanElements = (λ g. refl, λ f. tt)
  array_fits (ClassElements name) = (λ g. refl, λ f. tt)

  and_fits : (a b : Bool → ℕ → List Item) (skip : ℕ) → ((want : Bool) (label : ℕ) → Each (a want label)) → ((want : Bool) (label : ℕ) → Each (b want label)) → (want : Bool) (label : ℕ) → Each (and_test a b skip want label)
  and_fits a b skip h k true label = joined (a false skip) _ (h false skip) (joined (b true label) _ (k true label) ((λ g. refl, λ f. tt), tt))
  and_fits a b skip h k false label = joined (a false label) _ (h false label) (k false label)

  or_fits : (a b : Bool → ℕ → List Item) (skip : ℕ) → ((want : Bool) (label : ℕ) → Each (a want label)) → ((want : Bool) (label : ℕ) → Each (b want label)) → (want : Bool) (label : ℕ) → Each (or_test a b skip want label)
  or_fits a b skip h k true label = joined (a true label) _ (h true label) (k true label)
  or_fits a b skip h k false label = joined (a true skip) _ (h true skip) (joined (b false label) _ (k false label) ((λ g. refl, λ f. tt), tt))

  pub prefix_fits : (o : Option Prefix) (k : Coded) → ((n : ℕ) → FitCodes (k.codes n)) → (n : ℕ) → FitCodes (prefix_codes o k n)
  prefix_fits None k h n = plain_fits [] 0 n tt
  prefix_fits (Some Plus) k h n = plain_fits _ _ _ (h n).value
  prefix_fits (Some Minus) k h n = plain_fits _ _ _ (joined (k.codes n).value _ (h n).value ((λ g. refl, λ f. tt), tt))
  prefix_fits (Some Complement) k h n = plain_fits _ _ _ (joined (k.codes n).value _ (h n).value ((λ g. refl, λ f. tt), ((λ g. refl, λ f. tt), tt)))
  prefix_fits (Some Not) k h n = judged_fits _ n _ _ (λ want label. (h (n + 2)).test (not want) label)

  both_fit : (references : Bool) (test : Test) (k l : Coded) → ((n : ℕ) → FitCodes (k.codes n)) → ((n : ℕ) → FitCodes (l.codes n)) → (n : ℕ) → FitCodes (compare_both references test k l n)
  both_fit references test k l h i n =
      judged_fits _ n _ _ (λ want label. joined (k.codes (n + 2)).value _ (h (n + 2)).value (joined (l.codes (k.codes (n + 2)).next).value _ (i (k.codes (n + 2)).next).value ((λ g. refl, λ f. tt), tt)))

  compare_fits : (references : Bool) (literal : Literal) (test : Test) (k l : Coded) → ((n : ℕ) → FitCodes (k.codes n)) → ((n : ℕ) → FitCodes (l.codes n)) → (n : ℕ) → FitCodes (compare_codes references literal test k l n)
  compare_fits false Zero test k l h i n = judged_fits _ n _ _ (λ want label. joined (k.codes (n + 2)).value _ (h (n + 2)).value ((λ g. refl, λ f. tt), tt))
  compare_fits true Nil test k l h i n = judged_fits _ n _ _ (λ want label. joined (k.codes (n + 2)).value _ (h (n + 2)).value ((λ g. refl, λ f. tt), tt))
  compare_fits true Zero test k l h i n = both_fit true test k l h i n
  compare_fits true Anything test k l h i n = both_fit true test k l h i n
  compare_fits false Nil test k l h i n = both_fit false test k l h i n
  compare_fits false Anything test k l h i n = both_fit false test k l h i n

  pub infix_fits : (o : Option Infix) (k l : Coded) → ((n : ℕ) → FitCodes (k.codes n)) → ((n : ℕ) → FitCodes (l.codes n)) → (n : ℕ) → FitCodes (infix_codes o k l n)
  infix_fits None k l h i n = plain_fits [] 0 n tt
  infix_fits (Some (Operates op)) k l h i n = plain_fits _ _ _ (joined (k.codes n).value _ (h n).value (joined (l.codes (k.codes n).next).value _ (i (k.codes n).next).value ((λ g. refl, λ f. tt), tt)))
  infix_fits (Some (Compares test)) k l h i n = compare_fits (is_reference k.ty) l.literal test k l h i n
  infix_fits (Some AndThen) k l h i n = judged_fits _ n _ _ (and_fits _ _ (n + 2) (h (n + 3)).test (i (k.codes (n + 3)).next).test)
  infix_fits (Some OrElse) k l h i n = judged_fits _ n _ _ (or_fits _ _ (n + 2) (h (n + 3)).test (i (k.codes (n + 3)).next).test)

  pub local_fits : (o : Option Kind) → Single o → (slot : ℕ) → (G → is_in_reach slot ≡ true) → (n : ℕ) → FitCodes (local_codes o slot n)
  local_fits None h slot e n = plain_fits [] 0 n tt
  local_fits (Some kind) h slot e n = plain_fits _ 1 n ((λ g. load_opcode kind slot h (e g), λ f. tt), tt)

  pub local_spot_fits : (o : Option Kind) (slot n : ℕ) → Each (local_spot o slot n).items
  local_spot_fits None slot n = tt
  local_spot_fits (Some kind) slot n = tt

  pub local_place : (o : Option Kind) → Single o → (slot : ℕ) → (G → is_in_reach slot ≡ true) → (n : ℕ) → PlaceFits (local_spot o slot n).place
  local_place None h slot e n = tt
  local_place (Some kind) h slot e n = (h, e)

  pub elements_fit : (o : Option NamedElement) (c : Codes) → FitCodes c → FitCodes (array_codes o c)
  elements_fit None c h = plain_fits _ _ _ h.value
  elements_fit (Some elements) c h = plain_fits _ _ _ (joined c.value _ h.value (array_fits elements, tt))
