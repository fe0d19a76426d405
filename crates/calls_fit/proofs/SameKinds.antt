-- What is given to a call is of the kinds that the method of its name and descriptor is declared with.
use Rattle.std.proofs.Common.{◌≡◌, Bool, true, false, List, [], ◌∷◌, Option, Some, refl, sym, ap, ◌∙◌}
use Rattle.std.specs.Prelude.{unwrap_or, ◌&&◌}
use Rattle.std.specs.List.{filter_map, cons_option}
use Rattle.std.specs.Option.{option_map_or}
use Rattle.std.proofs.lemmas.Bool.{false≢true}
use Rattle.jp_pred.specs.declared.ty.Ty.{Ty}
use Rattle.jp_pred.specs.declared.ty.Ty.TheVariants as ty
use Rattle.jp_store.specs.declared.value.Value.{Value}
use Rattle.jp_store.specs.declared.value.Kind.{Kind}
use Rattle.jp_store.specs.declared.value.Kind.TheVariants.{Number, Reference}
use Rattle.jp_store.specs.Arith.{is_kind}
use Rattle.jp_meaning.specs.Descriptors.{method_descriptor, kind_of_type}
use Rattle.jp_meaning.specs.Expressions.{are_of}
use Rattle.jvm_table.specs.Descriptors.{Signature, signature_of}
use Rattle.gen_body.specs.Codes.{signature_for}
use Rattle.gen_body.specs.Names.{is_nameable, are_nameable, is_result}
use Rattle.gen_body.proofs.Signatures.{signatures_read_back}
use Rattle.calls_fit.proofs.Named.{first_true, second_true}

-- values are as many as the kinds, and each of its own
abbrev of_kinds : List Kind → List Value → Bool
of_kinds [] [] = true
of_kinds [] (v ∷ vs) = false
of_kinds (k ∷ ks) [] = false
of_kinds (k ∷ ks) (v ∷ vs) = is_kind k v && of_kinds ks vs

-- a type that can be named has a kind
kind_there : (t : Ty) → is_nameable t ≡ true → (k : Kind) × (kind_of_type t ≡ Some k)
kind_there ty.Void h = absurd (false≢true h)
kind_there ty.Int h = (Number, refl)
kind_there ty.Boolean h = (Number, refl)
kind_there (ty.Class name) h = (Reference, refl)
kind_there ty.IntArray h = (Reference, refl)
kind_there ty.BooleanArray h = (Reference, refl)
kind_there (ty.ClassArray name) h = (Reference, refl)

first_kind : (t : Ty) (ts : List Ty) → ((vs : List Value) → are_of ts vs ≡ of_kinds (filter_map kind_of_type ts) vs) → (k : Kind) → kind_of_type t ≡ Some k → (vs : List Value) → are_of (t ∷ ts) vs ≡ of_kinds (cons_option (kind_of_type t) (filter_map kind_of_type ts)) vs
first_kind t ts more k e [] = ap (λ (o : Option Kind). of_kinds (cons_option o (filter_map kind_of_type ts)) []) (sym e)
first_kind t ts more k e (v ∷ vs) =
    ap (λ (o : Option Kind). option_map_or (λ k. is_kind k v) o false && are_of ts vs) e
    ∙ ap (λ (b : Bool). is_kind k v && b) (more vs)
    ∙ ap (λ (o : Option Kind). of_kinds (cons_option o (filter_map kind_of_type ts)) (v ∷ vs)) (sym e)

by_kinds : (ts : List Ty) → are_nameable ts ≡ true → (vs : List Value) → are_of ts vs ≡ of_kinds (filter_map kind_of_type ts) vs
by_kinds [] h [] = refl
by_kinds [] h (v ∷ vs) = refl
by_kinds (t ∷ ts) h vs =
    let k = kind_there t (first_true (is_nameable t) (are_nameable ts) h) in
    first_kind t ts (by_kinds ts (second_true (is_nameable t) (are_nameable ts) h)) k.0 k.1 vs

signature_is : (x y : Signature) → Some x ≡ Some y → x ≡ y
signature_is x y e = ap (λ (o : Option Signature). unwrap_or o x) e

-- values of the types of one parameter list are of those of another that the descriptor can't tell apart from it
pub same_kinds : (ts us : List Ty) (r q : Ty) (vs : List Value) → are_nameable ts ≡ true → is_result r ≡ true → are_nameable us ≡ true → is_result q ≡ true →
    method_descriptor us q ≡ method_descriptor ts r → are_of ts vs ≡ true → are_of us vs ≡ true
same_kinds ts us r q vs a b c d e h =
    let s = signature_is (signature_for us q) (signature_for ts r) (sym (signatures_read_back us q c d) ∙ ap signature_of e ∙ signatures_read_back ts r a b) in
    by_kinds us c vs ∙ ap (λ (x : Signature). of_kinds x.parameters vs) s ∙ sym (by_kinds ts a vs) ∙ h
