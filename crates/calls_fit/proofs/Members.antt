-- Each call of a program that fits is given what it is declared with.
use Rattle.std.proofs.Common.{◌≡◌, ◌⊎◌, ℕ, Bool, true, false, List, [], ◌∷◌, ◌++◌, map, Option, Some, None, refl, sym, ap, ◌∙◌, inl, inr}
use Rattle.std.specs.Prelude.{option_and_then, slice_get, ◌&&◌, codes, if◌then◌else◌}
use Rattle.std.specs.List.{list_all}
use Rattle.std.proofs.lemmas.Bool.{false≢true}
use Rattle.jp_pred.specs.declared.ty.Ty.{Ty}
use Rattle.jp_pred.specs.declared.ty.Ty.TheVariants as ty
use Rattle.jp_pred.specs.declared.path.Path.{Path}
use Rattle.jp_pred.specs.declared.path.PathStep.{PathStep}
use Rattle.jp_pred.specs.declared.hier.Hier.{Hier}
use Rattle.jp_pred.specs.Names.{Word, object, same}
use Rattle.jp_pred.specs.Hierarchy.{IsBelow, is_below}
use Rattle.iface_codec.specs.declared.iface.Iface.{Iface}
use Rattle.iface_codec.specs.declared.iface.IfaceMethod.{IfaceMethod}
use Rattle.jp_store.specs.declared.value.Value.{Value}
use Rattle.jp_store.specs.declared.value.Value.TheVariants.{Null, Ref}
use Rattle.jp_store.specs.declared.value.Kind.{Kind}
use Rattle.jp_store.specs.declared.value.Kind.TheVariants.{Reference}
use Rattle.jp_store.specs.Classes.{object_name}
use Rattle.jp_store.specs.Store.{first_store}
use Rattle.jp_store.specs.Work.{GetField}
use Rattle.jp_does.specs.Does.{then_do}
use Rattle.jp_meaning.specs.declared.unit.TypedMember.{TypedMember}
use Rattle.jp_meaning.specs.declared.unit.TypedPart.{TypedPart}
use Rattle.jp_meaning.specs.declared.unit.TypedPart.TheVariants as part
use Rattle.jp_meaning.specs.Does.{Does}
use Rattle.jp_meaning.specs.Descriptors.{internal_name, word_of, key_of, kind_of_type}
use Rattle.jp_meaning.specs.Expressions.{Locals, fits, typed, local_value, meant, values_of}
use Rattle.jp_meaning.specs.Statements.{Left, Goes, Breaks, Continues, Returned, block_does}
use Rattle.jp_meaning.specs.Members.{step_type, read_steps, read_path, read_alias, read_aliases, locals_of, leaves, returned, super_first, statements_do, part_does}
use Rattle.jp_meaning.specs.Classes.{Placed, hier_in, class_in}
use Rattle.jp_meaning.specs.Run.{World, Program, class_of_value, placed_does}
use Rattle.code_trace.specs.Given.{has_receiver}
use Rattle.whole_program.specs.Fits.{Enters, CallsFit, store_classes}
use Rattle.gen_body.specs.Names.{are_nameable}
use Rattle.calls_fit.specs.Fitting.{ProgramFits, ClassFits, all_fit, check, stmt_fits, member_fits}
use Rattle.calls_fit.specs.Laws.{CallsOfFittingPrograms}
use Rattle.calls_fit.proofs.Named.{none_is, first_true, second_true, first_of, second_of, in_get, all_in}
use Rattle.calls_fit.proofs.Entering.{is_under, static_call_enters}
use Rattle.calls_fit.proofs.Sure.{Sure, then_sure, found_sure, fits_sure, typed_sure, sure_fits, Here, Holds, work_sure, this_sure}
use Rattle.calls_fit.proofs.Expressions.{Inside, IsRightReceiver, construct_sure, above_own}
use Rattle.calls_fit.proofs.Statements.{After, values_sure, block_sure}

none_left : {A : Type 0} → false ≡ true → A
none_left e = absurd (false≢true e)

-- the name of the superclass in code means the superclass, or Object
below_meant : (hier : Hier) (own above : Word) → IsBelow hier own above → IsBelow hier own (word_of (internal_name above))
below_meant hier own above h = by_object (same above object) where
  by_name : (name : List ℕ) (b : Bool) → IsBelow hier own name → IsBelow hier own (if b then object else name)
  by_name name true h = inr refl
  by_name name false h = h

  by_object : (b : Bool) → IsBelow hier own (word_of (if b then object_name else above))
  by_object true = inr refl
  by_object false = by_name above (same above object_name) h

module _ (p : Program) (f : ProgramFits p) (n : ℕ) (head : Iface) (at : Inside p head) (receiver : Bool) (this : Value) (own : Word) (right : IsRightReceiver p head receiver own) where
  abbrev H : World → Type 0
  H = Here receiver this own []

  abbrev S : {A : Type 0} → Does A → World → (A → World → Type 0) → Type 0
  S = Sure p n head

  leaves_sure : (o : Option Kind) (v : Option Value) (w : World) → H w → S (leaves o v) w (λ v u. H u)
  leaves_sure None None w i = i
  leaves_sure None (Some v) w i = tt
  leaves_sure (Some kind) None w i = tt
  leaves_sure (Some kind) (Some v) w i = fits_sure p n head kind v w (λ v u. H u) (λ e. i)

  returned_sure : (o : Option Kind) (l : Left) (w : World) → After p f n head at receiver this own right l w → S (returned o l) w (λ v u. H u)
  returned_sure o (Goes env) w i = leaves_sure o None w (second_of i)
  returned_sure o (Breaks env) w i = tt
  returned_sure o (Continues env) w i = tt
  returned_sure o (Returned v) w i = leaves_sure o v w i

  statements_sure : (o : Option Kind) (m : TypedMember) → list_all (stmt_fits p head receiver) m.block ≡ true → (k : ℕ) (env : Locals) (w : World) → Holds receiver this env → H w → S (statements_do o m k env) w (λ v u. H u)
  statements_sure o m h k env w held i =
      then_sure p n head (block_does m.block k env) (returned o) w (After p f n head at receiver this own right) (λ v u. H u) (block_sure p f n head at receiver this own right m.block h k env w held i) (λ l u j. returned_sure o l u j)

  steps_sure : (hier : Hier) (steps : List PathStep) (v : Value) (w : World) → H w → S (read_steps hier steps v) w (λ v u. H u)
  steps_sure hier [] v w i = i
  steps_sure hier (s ∷ ss) v w i =
      then_sure p n head (fits Reference v) _ w (λ v u. H u) (λ v u. H u) (fits_sure p n head Reference v w (λ v u. H u) (λ e. i)) (λ o u j.
      found_sure p n head (step_type hier s) _ u (λ v u. H u) (λ t e. work_sure p n head receiver this own [] (GetField o (key_of s.class s.field t)) (λ x. then_do (typed t x) (read_steps hier ss)) u (λ v u. H u) j (λ x y l.
      then_sure p n head (typed t x) (read_steps hier ss) y (λ v u. H u) (λ v u. H u) (typed_sure p n head t x y (λ v u. H u) l) (λ z a b. steps_sure hier ss z a b))))

  alias_sure : (hier : Hier) (alias : Path × Ty) (vs : List Value) (w : World) → H w → S (read_alias hier alias vs) w (λ v u. H u)
  alias_sure hier alias vs w i =
      then_sure p n head (read_path hier alias.0 vs) (typed alias.1) w (λ v u. H u) (λ v u. H u) (found_sure p n head (slice_get vs alias.0.root) (read_steps hier alias.0.steps) w (λ v u. H u) (λ v e. steps_sure hier alias.0.steps v w i)) (λ x u j.
      typed_sure p n head alias.1 x u (λ v u. H u) j)

  aliases_sure : (hier : Hier) (aliases : List (Path × Ty)) (vs : List Value) (w : World) → H w → S (read_aliases hier aliases vs) w (λ v u. H u)
  aliases_sure hier [] vs w i = i
  aliases_sure hier (alias ∷ more) vs w i =
      then_sure p n head (read_alias hier alias vs) _ w (λ v u. H u) (λ v u. H u) (alias_sure hier alias vs w i) (λ v u j.
      then_sure p n head (read_aliases hier more vs) _ u (λ v u. H u) (λ v u. H u) (aliases_sure hier more vs u j) (λ rest x l. l))

  super_sure : (m : TypedMember) → receiver ≡ true → (all_fit (map (check p head receiver) m.super_args) && are_nameable m.super_params) ≡ true → (env : Locals) (w : World) → Holds receiver this env → H w → S (super_first head m env) w (λ v u. H u)
  super_sure m r h env w held i =
      let row = all_fit (map (check p head receiver) m.super_args) in
      found_sure p n head head.superclass _ w (λ v u. H u) (λ above e.
      then_sure p n head (local_value 0 Reference env) _ w (λ v u. (v ≡ this) × H u) (λ v u. H u) (this_sure p n head receiver this own env w (λ v u. (v ≡ this) × H u) r held (refl, i)) (λ o u j.
      then_sure p n head (values_of (map meant m.super_args) env) _ u (λ v u. H u) (λ v u. H u) (values_sure p f n head at receiver this own right m.super_args (first_true row (are_nameable m.super_params) h) env u held (second_of j)) (λ vs x l.
      construct_sure p f n head at receiver this own right [] above m.super_params o vs x (second_true row (are_nameable m.super_params) h) l (λ k e'.
      is_under p f x.store (Ref k ∷ vs) own (word_of (internal_name above)) (ap (class_of_value x.store) (sym e' ∙ first_of j) ∙ (first_of l) r)
      (below_meant (hier_in p.classes) own above (inl (above_own p f n head at receiver this own right above r e)))))))

  -- a member, where its receiver is in its place
  part_sure : (m : TypedMember) (q : TypedPart) → has_receiver head q ≡ receiver → (list_all (stmt_fits p head receiver) m.block && (all_fit (map (check p head receiver) m.super_args) && are_nameable m.super_params)) ≡ true → (k : ℕ) (vs : List Value) →
      ((more : List Value) → Holds receiver this (locals_of m (vs ++ more))) → Holds receiver this (locals_of m vs) → (w : World) → H w → S (part_does (hier_in p.classes) head m q k vs) w (λ v u. H u)
  part_sure m (part.Field at) r h k vs with_more alone w i = tt
  part_sure m (part.Method at) r h k vs with_more alone w i =
      found_sure p n head {A = IfaceMethod} (slice_get head.methods at) _ w (λ v u. H u) (λ method e.
      then_sure p n head (read_aliases (hier_in p.classes) method.aliases vs) _ w (λ v u. H u) (λ v u. H u) (aliases_sure (hier_in p.classes) method.aliases vs w i) (λ more u j.
      statements_sure (kind_of_type method.result) m (first_true (list_all (stmt_fits p head receiver) m.block) (all_fit (map (check p head receiver) m.super_args) && are_nameable m.super_params) h) k (locals_of m (vs ++ more)) u (with_more more) j))
  part_sure m (part.Constructor at) r h k vs with_more alone w i =
      let block = list_all (stmt_fits p head receiver) m.block in
      let rest = all_fit (map (check p head receiver) m.super_args) && are_nameable m.super_params in
      then_sure p n head (super_first head m (locals_of m vs)) _ w (λ v u. H u) (λ v u. H u) (super_sure m (sym r) (second_true block rest h) (locals_of m vs) w alone i) (λ done u j.
      statements_sure None m (first_true block rest h) k (locals_of m vs) u alone j)

module _ (p : Program) (f : ProgramFits p) (n k : ℕ) (q : Placed) (vs : List Value) (w : World) (e : Enters p q vs w.store) where
  class_fits : ClassFits p e.class
  class_fits = f.each e.position e.class e.class_there

  inside : Inside p q.head
  inside = record {
    class = e.class;
    named = ap (λ (h : Iface). class_in p.classes h.name) e.head ∙ class_fits.first;
    head_is = sym e.head;
    other = ap (λ (h : Iface). same h.name object) e.head ∙ class_fits.named;
  }

  fitting : member_fits p q.head q.member ≡ true
  fitting = ap (λ (h : Iface). member_fits p h q.member) e.head ∙ all_in (member_fits p e.class.head) e.class.members class_fits.members (in_get e.class.members e.index q.member e.member_there)

  first_place : (this : Value) (us more : List Value) → slice_get us 0 ≡ Some this → slice_get (locals_of q.member (us ++ more)) 0 ≡ Some (Some this)
  first_place this [] more h = none_is this h
  first_place this (v ∷ us) more h = ap (λ (o : Option Value). option_map_some o) h where
    option_map_some : Option Value → Option (Option Value)
    option_map_some None = None
    option_map_some (Some v) = Some (Some v)

  first_alone : (this : Value) (us : List Value) → slice_get us 0 ≡ Some this → slice_get (locals_of q.member us) 0 ≡ Some (Some this)
  first_alone this [] h = none_is this h
  first_alone this (v ∷ us) h = ap (λ (o : Option Value). option_map_some o) h where
    option_map_some : Option Value → Option (Option Value)
    option_map_some None = None
    option_map_some (Some v) = Some (Some v)

  with_receiver : (this : Value) (own : Word) → IsRightReceiver p q.head (has_receiver q.head q.member.part) own → (has_receiver q.head q.member.part ≡ true → slice_get vs 0 ≡ Some this) → (has_receiver q.head q.member.part ≡ true → class_of_value w.store this ≡ Some own) →
      CallsFit p n q.head (placed_does p k q vs) w
  with_receiver this own right first known =
      let r = has_receiver q.head q.member.part in
      sure_fits p n q.head (placed_does p k q vs) w (λ v u. Here r this own [] u)
      (part_sure p f n q.head inside r this own right q.member q.member.part refl fitting k vs (λ more x. first_place this vs more (first x)) (λ x. first_alone this vs (first x)) w (known, tt))

  member_calls_fit : CallsFit p n q.head (placed_does p k q vs) w
  member_calls_fit = by_receiver (has_receiver q.head q.member.part) refl where
    by_first : (own : Word) → (own ≡ q.head.name) ⊎ (is_below (hier_in p.classes) own q.head.name ≡ true) → (o : Option Value) → slice_get vs 0 ≡ o → option_and_then (class_of_value w.store) o ≡ Some own → CallsFit p n q.head (placed_does p k q vs) w
    by_first own right None g h = none_is own h
    by_first own right (Some this) g h = with_receiver this own (λ x. right) (λ x. g) (λ x. h)

    by_receiver : (b : Bool) → has_receiver q.head q.member.part ≡ b → CallsFit p n q.head (placed_does p k q vs) w
    by_receiver true h = let u = e.given.receiver h in by_first u.0 u.2 (slice_get vs 0) refl u.1
    by_receiver false h = with_receiver Null [] (λ x. none_left (sym h ∙ x)) (λ x. none_left (sym h ∙ x)) (λ x. none_left (sym h ∙ x))

pub calls_fit : CallsOfFittingPrograms
calls_fit p f = record {
  main = λ q e. static_call_enters p f p.main (codes "main") [] ty.Void refl refl [] (first_store (store_classes p)) refl q e;
  member = λ n k q vs w same made e. member_calls_fit p f n k q vs w e;
}
