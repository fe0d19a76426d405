-- Values of types are of their kinds, and have entries.
use Rattle.std.proofs.Common.{◌≡◌, ℕ, zero, suc, pos, negsuc, Bool, true, false, List, [], ◌∷◌, map, Option, Some, None, refl, sym, ap, ◌∙◌, subst}
use Rattle.std.specs.Prelude.{is_some, slice_get}
use Rattle.std.specs.Option.{option_map, option_map_or}
use Rattle.std.proofs.lemmas.Bool.{false≢true}
use Rattle.std.proofs.lemmas.Option.{none-some, same_Some}
use Rattle.jp_pred.specs.declared.ty.Ty.{Ty}
use Rattle.jp_pred.specs.declared.ty.Ty.TheVariants as ty
use Rattle.jp_pred.specs.declared.hier.Hier.{Hier}
use Rattle.jp_pred.specs.Kinds.{is_reference}
use Rattle.jp_store.specs.declared.value.Value.{Value}
use Rattle.jp_store.specs.declared.value.Value.TheVariants.{Int, Long, Null, Ref, Text}
use Rattle.jp_store.specs.declared.value.Kind.{Kind}
use Rattle.jp_store.specs.declared.value.Kind.TheVariants.{Number, LongNumber, Reference}
use Rattle.jp_store.specs.declared.value.ElementKind.TheVariants.{TruthElement}
use Rattle.jp_store.specs.Arith.{is_kind, default_of}
use Rattle.jp_store.specs.Classes.{Class, kind_of}
use Rattle.jp_store.specs.Store.{Store}
use Rattle.jp_store.specs.Work.{can_store}
use Rattle.jp_meaning.specs.Descriptors.{kind_of_type, descriptor_of}
use Rattle.jp_meaning.specs.States.{ReferenceAt, thing_kind, reference_kind, boolean_entry, int_entry, entry_at}
use Rattle.value_types.specs.Values.{Sort, sort_of, sorts, is_sort_of, refers, is_value_of, has_type}
use Rattle.value_types.specs.Laws.{ValuesAreOfKinds, ValuesHaveEntries}
use Rattle.value_types.proofs.Lists.{passing, from_map}

truth_number : (v : Value) → can_store TruthElement v ≡ true → is_kind Number v ≡ true
truth_number (Int n) h = refl
truth_number (Long n) h = h
truth_number Null h = h
truth_number (Ref o) h = h
truth_number (Text t) h = h

pub refers_reference : (made : List Sort) (test : Sort → Bool) (v : Value) → refers made test v ≡ true → is_kind Reference v ≡ true
refers_reference made test (Int n) h = h
refers_reference made test (Long n) h = h
refers_reference made test Null h = refl
refers_reference made test (Ref o) h = refl
refers_reference made test (Text t) h = h

-- a value of a reference type refers to something of the type
pub refers_so : (classes : List Class) (made : List Sort) (t : Ty) (v : Value) → is_reference t ≡ true → is_value_of classes made t v ≡ refers made (is_sort_of classes t) v
refers_so classes made ty.Void v h = absurd (false≢true h)
refers_so classes made ty.Int v h = absurd (false≢true h)
refers_so classes made ty.Boolean v h = absurd (false≢true h)
refers_so classes made (ty.Class name) v h = refl
refers_so classes made ty.IntArray v h = refl
refers_so classes made ty.BooleanArray v h = refl
refers_so classes made (ty.ClassArray name) v h = refl

module _ (classes : List Class) (made : List Sort) where
  of_kind : (t : Ty) (v : Value) (kind : Kind) → kind_of_type t ≡ Some kind → is_value_of classes made t v ≡ true → is_kind kind v ≡ true
  of_kind ty.Void v kind e h = absurd (none-some kind e)
  of_kind ty.Int v kind e h = subst (λ k. is_kind k v ≡ true) (same_Some Number kind e) h
  of_kind ty.Boolean v kind e h = subst (λ k. is_kind k v ≡ true) (same_Some Number kind e) (truth_number v h)
  of_kind (ty.Class name) v kind e h = subst (λ k. is_kind k v ≡ true) (same_Some Reference kind e) (refers_reference made _ v h)
  of_kind ty.IntArray v kind e h = subst (λ k. is_kind k v ≡ true) (same_Some Reference kind e) (refers_reference made _ v h)
  of_kind ty.BooleanArray v kind e h = subst (λ k. is_kind k v ≡ true) (same_Some Reference kind e) (refers_reference made _ v h)
  of_kind (ty.ClassArray name) v kind e h = subst (λ k. is_kind k v ≡ true) (same_Some Reference kind e) (refers_reference made _ v h)

  first_of_kind : (t : Ty) (kind : Kind) → kind_of_type t ≡ Some kind → is_value_of classes made t (default_of kind) ≡ true
  first_of_kind ty.Void kind e = absurd (none-some kind e)
  first_of_kind ty.Int kind e = subst (λ k. is_value_of classes made ty.Int (default_of k) ≡ true) (same_Some Number kind e) refl
  first_of_kind ty.Boolean kind e = subst (λ k. is_value_of classes made ty.Boolean (default_of k) ≡ true) (same_Some Number kind e) refl
  first_of_kind (ty.Class name) kind e = subst (λ k. is_value_of classes made (ty.Class name) (default_of k) ≡ true) (same_Some Reference kind e) refl
  first_of_kind ty.IntArray kind e = subst (λ k. is_value_of classes made ty.IntArray (default_of k) ≡ true) (same_Some Reference kind e) refl
  first_of_kind ty.BooleanArray kind e = subst (λ k. is_value_of classes made ty.BooleanArray (default_of k) ≡ true) (same_Some Reference kind e) refl
  first_of_kind (ty.ClassArray name) kind e = subst (λ k. is_value_of classes made (ty.ClassArray name) (default_of k) ≡ true) (same_Some Reference kind e) refl

-- a descriptor's kind is its type's
kind_so : (t : Ty) → kind_of (descriptor_of t) ≡ kind_of_type t
kind_so ty.Void = refl
kind_so ty.Int = refl
kind_so ty.Boolean = refl
kind_so (ty.Class name) = refl
kind_so ty.IntArray = refl
kind_so ty.BooleanArray = refl
kind_so (ty.ClassArray name) = refl

-- by the descriptor's kind
pub described_kind : (classes : List Class) (made : List Sort) (t : Ty) (v : Value) (kind : Kind) → kind_of (descriptor_of t) ≡ Some kind → is_value_of classes made t v ≡ true → is_kind kind v ≡ true
described_kind classes made t v kind e h = of_kind classes made t v kind (sym (kind_so t) ∙ e) h

-- what a field of a type's descriptor starts as
pub first_described : (classes : List Class) (made : List Sort) (t : Ty) → is_value_of classes made t (option_map_or default_of (kind_of (descriptor_of t)) Null) ≡ true
first_described classes made ty.Void = refl
first_described classes made ty.Int = refl
first_described classes made ty.Boolean = refl
first_described classes made (ty.Class name) = refl
first_described classes made ty.IntArray = refl
first_described classes made ty.BooleanArray = refl
first_described classes made (ty.ClassArray name) = refl

pub kinds : ValuesAreOfKinds
kinds = record { same = λ s t v kind e h. of_kind s.classes (sorts s) t v kind e h; first = λ s t kind e. first_of_kind s.classes (sorts s) t kind e }

-- a reference to something that is there has a kind
reference_there : (hier : Hier) (s : Store) (test : Sort → Bool) (v : Value) → refers (sorts s) test v ≡ true → is_some (option_map ReferenceAt (reference_kind hier s v)) ≡ true
reference_there hier s test Null h = refl
reference_there hier s test (Ref o) h =
    let p = passing test (slice_get (sorts s) o) h in
    let f = from_map sort_of s.heap o p.0 p.1 in
    ap (λ x. is_some (option_map ReferenceAt (option_map (thing_kind hier s.classes) x))) f.1
reference_there hier s test (Int n) h = absurd (false≢true h)
reference_there hier s test (Long n) h = absurd (false≢true h)
reference_there hier s test (Text t) h = absurd (false≢true h)

number_there : (v : Value) → is_kind Number v ≡ true → is_some (int_entry v) ≡ true
number_there (Int n) h = refl
number_there (Long n) h = h
number_there Null h = h
number_there (Ref o) h = h
number_there (Text t) h = h

truth_there : (v : Value) → can_store TruthElement v ≡ true → is_some (boolean_entry v) ≡ true
truth_there (Int (pos zero)) h = refl
truth_there (Int (pos (suc zero))) h = refl
truth_there (Int (pos (suc (suc n)))) h = h
truth_there (Int (negsuc n)) h = h
truth_there (Long n) h = h
truth_there Null h = h
truth_there (Ref o) h = h
truth_there (Text t) h = h

pub have_entries : ValuesHaveEntries
have_entries hier s ty.Void v kind e h = absurd (none-some kind e)
have_entries hier s ty.Int v kind e h = number_there v h
have_entries hier s ty.Boolean v kind e h = truth_there v h
have_entries hier s (ty.Class name) v kind e h = reference_there hier s _ v h
have_entries hier s ty.IntArray v kind e h = reference_there hier s _ v h
have_entries hier s ty.BooleanArray v kind e h = reference_there hier s _ v h
have_entries hier s (ty.ClassArray name) v kind e h = reference_there hier s _ v h
