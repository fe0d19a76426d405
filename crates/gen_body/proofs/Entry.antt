-- Where a member's code begins.
use Rattle.std.proofs.Common.{◌≡◌, ℕ, zero, suc, ◌+◌, ◌-◌, ◌<◌, ◌≤◌, List, [], ◌∷◌, ◌++◌, length, map, Option, Some, None, refl, sym, ap, ◌∙◌, arith, length-append, append_assoc}
use Rattle.std.specs.Prelude.{Bool, true, false, nat_eq, nat_le, replicate, slice_get, slice_set, option_and_then, if◌then◌else◌, cond}
use Rattle.std.specs.Option.{option_map, option_map_or}
use Rattle.std.proofs.lemmas.Bool.{false≢true, le-leb}
use Rattle.std.proofs.lemmas.Option.{slice_get_within}
use Rattle.std.proofs.lemmas.List.{length-map, length-replicate, map-append}
use Rattle.std.proofs.Math.Seq.{set-append_seam}
use Rattle.class_form.proofs.Facts.{both}
use Rattle.class_form.specs.declared.member.Code.{Code}
use Rattle.jp_pred.specs.declared.ty.Ty.{Ty}
use Rattle.iface_codec.specs.declared.iface.IfaceMethod.{IfaceMethod}
use Rattle.jp_store.specs.declared.value.Value.{Value}
use Rattle.jp_store.specs.declared.value.Kind.{Kind}
use Rattle.jp_store.specs.declared.value.Kind.TheVariants.{Reference}
use Rattle.jp_store.specs.Arith.{is_kind}
use Rattle.jp_meaning.specs.declared.unit.TypedMember.{TypedMember}
use Rattle.jp_meaning.specs.Classes.{is_static}
use Rattle.jp_meaning.specs.Descriptors.{kind_of_type}
use Rattle.jp_meaning.specs.Expressions.{Locals, is_of, are_of}
use Rattle.jp_meaning.specs.Members.{locals_of}
use Rattle.code_trace.specs.Entry.{placed, variables, entered, entry}
use Rattle.code_trace.specs.Given.{are_given}
use Rattle.gen_body.specs.Members.{given_to}
use Rattle.gen_body.proofs.Values.{IsNarrow, IsShortIf, of_short, types_short}
use Rattle.gen_body.proofs.Going.{Setting, at}

abbrev pub AreNarrow : List Value → Type 0
AreNarrow [] = Unit {0}
AreNarrow (v ∷ vs) = IsNarrow v × AreNarrow vs

of_type : (o : Option Kind) → IsShortIf o → (v : Value) → option_map_or (λ kind. is_kind kind v) o false ≡ true → IsNarrow v
of_type None h v e = absurd (false≢true e)
of_type (Some kind) h v e = of_short kind h v e

of_types : (params : List Ty) (vs : List Value) → are_of params vs ≡ true → AreNarrow vs × (length vs ≡ length params)
of_types [] [] e = (tt, refl)
of_types [] (v ∷ vs) e = absurd (false≢true e)
of_types (t ∷ ts) [] e = absurd (false≢true e)
of_types (t ∷ ts) (v ∷ vs) e =
    let h = both (is_of t v) (are_of ts vs) e in
    let k = of_types ts vs h.1 in
    ((of_type (kind_of_type t) (types_short t) v h.0, k.0), ap suc k.1)

pub of_given : (params : List Ty) (vs : List Value) → are_given params vs ≡ true → AreNarrow vs × (length vs ≡ 1 + length params)
of_given params [] e = absurd (false≢true e)
of_given params (v ∷ vs) e =
    let h = both (is_kind Reference v) (are_of params vs) e in
    let k = of_types params vs h.1 in
    let n : suc (length vs) ≡ 1 + length params = omega (arith, k.1) in
    ((of_short Reference tt v h.0, k.0), n)

-- what a method is given
pub of_method : (method : IfaceMethod) (vs : List Value) → cond (is_static method.kind) (are_of method.params vs) (are_given method.params vs) ≡ true → AreNarrow vs × (length vs ≡ given_to method)
of_method method vs e = by_kind (is_static method.kind) e where
  by_kind : (x : Bool) → cond x (are_of method.params vs) (are_given method.params vs) ≡ true → AreNarrow vs × (length vs ≡ cond x (length method.params) (1 + length method.params))
  by_kind true h = of_types method.params vs h
  by_kind false h = of_given method.params vs h

placed_each : (vs : List Value) → AreNarrow vs → placed vs ≡ map Some vs
placed_each [] h = refl
placed_each (v ∷ vs) h =
    ap (λ j. if nat_eq j 1 then Some v ∷ placed vs else Some v ∷ None ∷ placed vs) h.0 ∙ ap (λ (l : Locals). Some v ∷ l) (placed_each vs h.1)

-- the frame at which a member's code begins
pub entry_is : (w : Setting) (m : TypedMember) (vs : List Value) → w.code.max_locals ≡ m.locals → AreNarrow vs → length vs ≤ m.locals → entry w.method vs ≡ Some (at w 0 (locals_of m vs) [])
entry_is w m vs max narrow le =
    let len = length-map vs Some in
    let fits : nat_le (length (map Some vs)) m.locals ≡ true = le-leb (length (map Some vs)) m.locals (omega (arith, len, le)) in
    ap (λ (o : Option Code). option_and_then (λ code. option_map (entered code) (variables code.max_locals (placed vs))) o) w.has
    ∙ ap (λ l. option_map (entered w.code) (variables w.code.max_locals l)) (placed_each vs narrow)
    ∙ ap (λ k. option_map (entered w.code) (variables k (map Some vs))) max
    ∙ ap (λ b. option_map (entered w.code) (if b then Some (map Some vs ++ replicate (m.locals - length (map Some vs)) None) else None)) fits
    ∙ ap (λ k. Some (at w 0 (map Some vs ++ replicate (m.locals - k) None) [])) len

-- there is room for one more
pub room_for_one : (m : TypedMember) (us : List Value) → length us < m.locals → length us < length (locals_of m us)
room_for_one m us le =
    let rest : Locals = replicate (m.locals - length us) None in
    let none : Option Value = None in
    omega (arith, length-append (map Some us) rest, length-map us Some, length-replicate (m.locals - length us) none, le)

-- one more local has a value
pub locals_step : (m : TypedMember) (us : List Value) (v : Value) → length us < m.locals → slice_set (locals_of m us) (length us) (Some v) ≡ locals_of m (us ++ v ∷ [])
locals_step m us v le =
    let k = m.locals - length us - 1 in
    let rest : Locals = replicate k None in
    let e1 : m.locals - length us ≡ suc k = omega (arith, le) in
    let len = length-append us (v ∷ []) in
    let e2 : k ≡ m.locals - length (us ++ v ∷ []) = omega (arith, len, le) in
    ap (λ j. slice_set (map Some us ++ replicate j None) (length us) (Some v)) e1
    ∙ ap (λ j. slice_set (map Some us ++ None ∷ rest) j (Some v)) (sym (length-map us Some))
    ∙ set-append_seam (map Some us) None rest (Some v)
    ∙ sym (append_assoc (map Some us) (Some v ∷ []) rest)
    ∙ ap (λ (l : Locals). l ++ rest) (sym (map-append Some us (v ∷ [])))
    ∙ ap (λ j. map Some (us ++ v ∷ []) ++ replicate j None) e2

-- what is given stays where it is
pub root_at : (vs done : List Value) (rest : Locals) (i : ℕ) (v : Value) → slice_get vs i ≡ Some v → slice_get (map Some (vs ++ done) ++ rest) i ≡ Some (Some v)
root_at [] done rest i v e = absurd (omega (arith, slice_get_within [] i v e))
root_at (x ∷ vs) done rest zero v e = ap (λ (o : Option Value). option_map Some o) e
root_at (x ∷ vs) done rest (suc i) v e = root_at vs done rest i v e
