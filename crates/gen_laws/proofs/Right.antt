-- Files that are compiled class by class are right.
use Rattle.std.proofs.Common.{◌≡◌, ℕ, zero, Bool, true, false, List, [], ◌∷◌, length, Option, Some, None, inl, refl, sym, ap, ◌∙◌, subst, arith}
use Rattle.std.specs.Prelude.{not, cond, is_some, slice_get, option_and_then, if◌then◌else◌, codes}
use Rattle.std.specs.List.{filter_map}
use Rattle.std.specs.Option.{option_map, option_map_or}
use Rattle.std.proofs.lemmas.Bool.{false≢true, false_from_ne_true}
use Rattle.std.proofs.lemmas.List.{length-map}
use Rattle.std.proofs.lemmas.Option.{slice_get-map, slice_get_within}
use Rattle.class_form.specs.declared.class_file.ClassFile.{ClassFile}
use Rattle.class_form.specs.declared.member.MemberInfo.{MemberInfo}
use Rattle.jp_pred.specs.declared.ty.Ty.{Ty}
use Rattle.jp_pred.specs.declared.ty.Ty.TheVariants as ty
use Rattle.jp_pred.specs.Names.{Word, object, same}
use Rattle.iface_codec.specs.declared.iface.Iface.{Iface}
use Rattle.iface_codec.specs.declared.iface.IfaceMethod.{IfaceMethod}
use Rattle.jp_store.specs.declared.value.Value.{Value}
use Rattle.jp_store.specs.declared.value.Value.TheVariants.{Int, Long, Null, Ref, Text}
use Rattle.jp_store.specs.declared.value.ClassAt.TheVariants.{Root, Listed}
use Rattle.jp_store.specs.declared.heap.Thing.{Thing}
use Rattle.jp_store.specs.declared.heap.Thing.TheVariants.{Object, Array}
use Rattle.jp_store.specs.Classes.{Class, object_name, place_of, super_of, first_statics}
use Rattle.jp_store.specs.Store.{Store}
use Rattle.jp_meaning.specs.declared.unit.TypedClass.{TypedClass}
use Rattle.jp_meaning.specs.declared.unit.TypedPart.{TypedPart}
use Rattle.jp_meaning.specs.Does.{Method}
use Rattle.jp_meaning.specs.Descriptors.{internal_name, word_of, method_descriptor}
use Rattle.jp_meaning.specs.Expressions.{are_of}
use Rattle.jp_meaning.specs.Classes.{Placed, Candidate, placed, is_static, class_of_head, hier_in, class_in, methods_in, as_constructor, static_named, constructor_named, chain_of}
use Rattle.jp_meaning.specs.States.{name_at}
use Rattle.jp_meaning.specs.Run.{Program, receiver_class, class_of_thing, main_of}
use Rattle.jvm_table.specs.Act.{Target, StaticMethod, VirtualMethod, Constructor, MethodAbove}
use Rattle.jvm_load.specs.FileClasses.{classes_of}
use Rattle.jvm_load.specs.Methods.{own_method}
use Rattle.jvm_step.specs.declared.state.Running.{Running}
use Rattle.jvm_step.specs.declared.state.State.{State}
use Rattle.jvm_step.specs.Turn as step_of
use Rattle.code_trace.specs.Calls.{key_of_method}
use Rattle.code_trace.specs.Given.{has_receiver, are_given, are_for}
use Rattle.gen_body.specs.Correct.{KeepsReceiver}
use Rattle.gen_body.proofs.Members.{code_enters, open_traces}
use Rattle.whole_program.specs.Fits.{Enters}
use Rattle.whole_program.specs.Right.{Bounds, Naming, call_to, RunsAs, RunsMember, Selecting, Reaches, StartsMain}
use Rattle.whole_program.specs.Found.{IsFirstFrom}
use Rattle.whole_program.proofs.Found.{own_is_run}
use Rattle.whole_program.proofs.Entered.{running, entry_of}
use Rattle.whole_program.proofs.Linked.{right_keeps}
use Rattle.calls_fit.proofs.Members.{calls_fit}
use Rattle.gen_laws.specs.Compiled.{Name, name_of_part, IsMethodOf, IsCompiled}
use Rattle.gen_laws.specs.Plain.{NearestIsSelected}
use Rattle.gen_laws.specs.Laws.{CompiledIsRight, CompiledKeepsTheMeaning}
use Rattle.gen_laws.proofs.Lists.{one_there}
use Rattle.gen_laws.proofs.Lines.{reach}
use Rattle.gen_laws.proofs.Names.{Named, named_of, equal_bytes, classes_are, file_at, named_so, placed_at, Coded, coded}
use Rattle.gen_laws.proofs.Methods.{same_name, Fits, one_of_class, own_of}
use Rattle.gen_laws.proofs.Constructors.{maker_is}
use Rattle.gen_laws.proofs.Chains.{name_for, called_so, super_is, have_none, FoundBody, found_body}
use Rattle.gen_laws.proofs.Members.{runs_as_found, body_plain, static_so, takes_nothing}

module _ (p : Program) (files : List ClassFile) (b : Bounds) (names : Named p) (nearest : NearestIsSelected p) (compiled : IsCompiled p files b.turn) where
  abbrev classes : List Class
  classes = classes_of files

  -- a class's own method is the first that is found from it
  first_here : (m : Method) (at index : ℕ) (c : TypedClass) → slice_get p.classes at ≡ Some c → own_method files m.name m.descriptor at ≡ Some index → IsFirstFrom files m.name m.descriptor at at
  first_here m at index c there own =
      let has : ℕ → Bool = λ y. is_some (own_method files m.name m.descriptor y) in
      let len : length p.classes ≡ length classes = sym (ap (λ (k : List Class). length k) (classes_are p files b.turn names compiled) ∙ length-map p.classes (λ (c : TypedClass). class_of_head c.head)) in
      let r = reach classes has zero (length classes) [] at at (omega (arith, slice_get_within p.classes at c there, len)) tt refl (ap is_some own) (λ i lt y w. absurd (omega (arith, lt))) in
      (r.before, r.more, r.line, have_none p files b.turn names compiled m r.before r.none)

  -- a static method that is named, and its method
  record Static (m : Method) (q : Placed) : Type 0 where
    c : TypedClass
    code : Coded p files b.turn names compiled m.class c
    x : Candidate
    same : placed x ≡ q
    file : ClassFile
    file_there : slice_get files code.at ≡ Some file
    index : ℕ
    method : MemberInfo
    method_there : slice_get file.methods index ≡ Some method
    own : own_method files m.name m.descriptor code.at ≡ Some index
    method_is : IsMethodOf (hier_in p.classes) x.head x.member file method b.turn
    kept : KeepsReceiver (hier_in p.classes) x.head x.member
    fits : Fits is_static m x.head x

  static_found : (m : Method) (q : Placed) → static_named p.classes m ≡ Some q → Static m q
  static_found m q e = by_class (class_in p.classes (word_of m.class)) refl e where
    by_first : (c : TypedClass) → class_in p.classes (word_of m.class) ≡ Some c → (o : Option Candidate) → slice_get (methods_in is_static m c) 0 ≡ o → option_map placed o ≡ Some q → Static m q
    by_first c k None first e = absurd (false≢true (ap is_some e))
    by_first c k (Some x) first e =
        let code = coded p files b.turn names compiled m.class c k in
        let f = file_at p files b.turn names compiled code.at c code.there in
        let h = one_of_class is_static m c 0 x first in
        let own = own_of (hier_in p.classes) b.turn files code.at f.file f.there c f.is h.index x.member (name_for m) h.there (called_so is_static m c.head x refl h.fits) in
        let head : c.head ≡ x.head = sym h.fits.head_is in
        record {
          c = c;
          code = code;
          x = x;
          same = one_there (Some (placed x)) (placed x) q refl e;
          file = f.file;
          file_there = f.there;
          index = own.index;
          method = own.method;
          method_there = own.there;
          own = own.own;
          method_is = subst (λ (h : Iface). IsMethodOf (hier_in p.classes) h x.member f.file own.method b.turn) head own.method_is;
          kept = subst (λ (h : Iface). KeepsReceiver (hier_in p.classes) h x.member) head (names.kept code.at h.index c x.member code.there h.there);
          fits = subst (λ (h : Iface). Fits is_static m h x) head h.fits;
        }

    by_class : (o : Option TypedClass) → class_in p.classes (word_of m.class) ≡ o → option_and_then (λ c. option_map placed (slice_get (methods_in is_static m c) 0)) o ≡ Some q → Static m q
    by_class None k e = absurd (false≢true (ap is_some e))
    by_class (Some c) k e = by_first c k (slice_get (methods_in is_static m c) 0) refl e

  static_right : (m : Method) (q : Placed) → static_named p.classes m ≡ Some q → (vs : List Value) (s : Store) → s.classes ≡ classes → Enters p q vs s → RunsMember p files b s.heap (call_to (StaticMethod (key_of_method m)) vs) q
  static_right m q e vs s hs enters =
      let r = static_found m q e in
      let given : are_for r.x.head r.x.member.part vs ≡ true = ap (λ (q : Placed). are_for q.head q.member.part vs) r.same ∙ enters.given.kinds in
      let f = code_enters (hier_in p.classes) r.x.head r.x.member r.file r.method r.method_is.code vs given in
      let run = own_is_run files s.heap (key_of_method m) vs r.code.at r.index r.file r.method f.0 r.file_there r.own r.method_there f.1 in
      subst (RunsMember p files b s.heap (call_to (StaticMethod (key_of_method m)) vs)) r.same
      (runs_as_found p files b s.heap (call_to (StaticMethod (key_of_method m)) vs) (placed r.x) r.file r.method r.method_is r.kept
      (run.static r.code.at r.code.placed (first_here m r.code.at r.index r.c r.code.there r.own) (static_so p m r.x r.file r.method b.turn r.fits r.method_is)))

  constructor_right : (m : Method) (q : Placed) → m.name ≡ codes "<init>" → constructor_named p.classes m ≡ Some q → (vs : List Value) (s : Store) → s.classes ≡ classes → Enters p q vs s → RunsMember p files b s.heap (call_to (Constructor (key_of_method m)) vs) q
  constructor_right m q init e vs s hs enters = by_class (class_in p.classes (word_of m.class)) refl e where
    by_class : (o : Option TypedClass) → class_in p.classes (word_of m.class) ≡ o → option_and_then (λ c. slice_get (filter_map (λ member. as_constructor m c.head member member.part) c.members) 0) o ≡ Some q → RunsMember p files b s.heap (call_to (Constructor (key_of_method m)) vs) q
    by_class None k e = absurd (false≢true (ap is_some e))
    by_class (Some c) k e =
        let code = coded p files b.turn names compiled m.class c k in
        let f = file_at p files b.turn names compiled code.at c code.there in
        let h = maker_is m c.head c.members q e in
        let n : Name = record { name = codes "<init>"; descriptor = method_descriptor h.makes.params ty.Void } in
        let called : name_of_part c.head q.member.part ≡ Some (name_for m) =
        ap (name_of_part c.head) h.makes.part_is ∙ ap (λ (o : Option (List Ty)). option_map (λ params. record { name = codes "<init>"; descriptor = method_descriptor params ty.Void }) o) h.makes.params_there
        ∙ ap (λ (n : Name). Some n) (same_name n (name_for m) (sym init) h.makes.descriptor) in
        let own = own_of (hier_in p.classes) b.turn files code.at f.file f.there c f.is h.index q.member (name_for m) h.there called in
        let is = subst (λ (h : Iface). IsMethodOf (hier_in p.classes) h q.member f.file own.method b.turn) (sym h.makes.head_is) own.method_is in
        let kept = subst (λ (h : Iface). KeepsReceiver (hier_in p.classes) h q.member) (sym h.makes.head_is) (names.kept code.at h.index c q.member code.there h.there) in
        let g = code_enters (hier_in p.classes) q.head q.member f.file own.method is.code vs enters.given.kinds in
        let run = own_is_run files s.heap (key_of_method m) vs code.at own.index f.file own.method g.0 f.there own.own own.there g.1 in
        runs_as_found p files b s.heap (call_to (Constructor (key_of_method m)) vs) q f.file own.method is kept
        (run.constructor code.placed (is.role ∙ ap (λ (t : TypedPart). not (has_receiver q.head t)) h.makes.part_is))

  -- a class that is called as it is in code
  word_is : (at : ℕ) (c : TypedClass) → slice_get p.classes at ≡ Some c → word_of (internal_name c.head.name) ≡ c.head.name
  word_is at c there =
      ap word_of (named_so p files b.turn names compiled at c there)
      ∙ ap (λ x. if x then object else c.head.name) (false_from_ne_true (same c.head.name object_name) (λ k. (names.ordinary at c there).1 (equal_bytes c.head.name object_name k)))

  -- where the class of a receiver stands
  receiver_at : (s : Store) (vs : List Value) (at : ℕ) (c : TypedClass) (class : Word) → s.classes ≡ classes → slice_get p.classes at ≡ Some c → c.head.name ≡ class → receiver_class s vs ≡ Some class → step_of.receiver_class s.heap vs ≡ Some at
  receiver_at s [] at c class hs there named e = absurd (false≢true (ap is_some e))
  receiver_at s (Int n ∷ vs) at c class hs there named e = absurd (false≢true (ap is_some e))
  receiver_at s (Long n ∷ vs) at c class hs there named e = absurd (false≢true (ap is_some e))
  receiver_at s (Null ∷ vs) at c class hs there named e = absurd (false≢true (ap is_some e))
  receiver_at s (Text t ∷ vs) at c class hs there named e = absurd (false≢true (ap is_some e))
  receiver_at s (Ref o ∷ vs) at c class hs there named e = by_thing (slice_get s.heap o) e where
    no_object : object ≡ class → ⊥
    no_object is = (names.ordinary at c there).0 (named ∙ sym is)

    by_class : (i : ℕ) (x : Option TypedClass) → slice_get p.classes i ≡ x → option_map_or (λ (k : Class). word_of k.name) (option_map (λ (d : TypedClass). class_of_head d.head) x) object ≡ class → i ≡ at
    by_class i None k is = absurd (no_object is)
    by_class i (Some d) k is = names.names.distinct i at d c k there (sym (word_is i d k) ∙ is ∙ sym named)

    by_name : (i : ℕ) → name_at s.classes i ≡ class → i ≡ at
    by_name i is =
        by_class i (slice_get p.classes i) refl
        (ap (λ (o : Option Class). option_map_or (λ (k : Class). word_of k.name) o object) (sym (slice_get-map (λ (d : TypedClass). class_of_head d.head) p.classes i))
        ∙ ap (λ (k : List Class). name_at k i) (sym (hs ∙ classes_are p files b.turn names compiled)) ∙ is)

    by_thing : (x : Option Thing) → option_and_then (class_of_thing s) x ≡ Some class → option_and_then step_of.class_of_thing x ≡ Some at
    by_thing None e = absurd (false≢true (ap is_some e))
    by_thing (Some (Object Root fields)) e = absurd (no_object (one_there (Some object) object class refl e))
    by_thing (Some (Object (Listed i) fields)) e = ap (λ (n : ℕ). Some n) (by_name i (one_there (Some (name_at s.classes i)) (name_at s.classes i) class refl e))
    by_thing (Some (Array element values)) e = absurd (false≢true (ap is_some e))

  -- what is selected is the first body
  body_of : (m : Method) (class : Word) (vs : List Value) (s : Store) (k : Selecting p files m class vs s) → FoundBody p files b.turn names compiled m class k.candidate
  body_of m class vs s k =
      found_body p files b.turn names compiled m class k.candidate (ap (slice_get (chain_of p.classes m class)) (sym (nearest m class k.shape k.index k.selected)) ∙ k.there)

  -- a call that finds it reaches the body itself
  reaches_body : (naming : Naming) (m : Method) (class : Word) (vs : List Value) (s : Store) (k : Selecting p files m class vs s) (r : FoundBody p files b.turn names compiled m class k.candidate) (target : Target) → RunsAs files s.heap (call_to target vs) r.file r.method → Reaches p files naming b m class vs s k (call_to target vs)
  reaches_body naming m class vs s k r target runs =
      inl (record { at = r.fits.at; part = r.fits.part_is; method = r.fits.method_there; runs = runs_as_found p files b s.heap (call_to target vs) (placed k.candidate) r.file r.method r.method_is r.kept runs })

  virtual_right : (naming : Naming) (m : Method) (class : Word) (vs : List Value) (s : Store) (k : Selecting p files m class vs s) → receiver_class s vs ≡ Some class → Reaches p files naming b m class vs s k (call_to (VirtualMethod m.name m.descriptor) vs)
  virtual_right naming m class vs s k e =
      let r = body_of m class vs s k in
      let f = code_enters (hier_in p.classes) k.candidate.head k.candidate.member r.file r.method r.method_is.code vs k.enters.given.kinds in
      let run = own_is_run files s.heap (key_of_method m) vs r.top r.index r.file r.method f.0 r.file_there r.own r.method_there f.1 in
      reaches_body naming m class vs s k r (VirtualMethod m.name m.descriptor)
      (run.virtual r.at (receiver_at s vs r.at r.c class k.classes r.there r.named e) r.first (body_plain p m k.candidate r.file r.method b.turn r.fits r.method_is))

  above_right : (naming : Naming) (c : TypedClass) (position : ℕ) → slice_get p.classes position ≡ Some c → (m : Method) (vs : List Value) (s : Store) (k : Selecting p files m (word_of m.class) vs s) → c.head.superclass ≡ Some (word_of m.class) →
      Reaches p files naming b m (word_of m.class) vs s k (call_to (MethodAbove (internal_name c.head.name) m.name m.descriptor) vs)
  above_right naming c position there m vs s k super =
      let r = body_of m (word_of m.class) vs s k in
      let f = code_enters (hier_in p.classes) k.candidate.head k.candidate.member r.file r.method r.method_is.code vs k.enters.given.kinds in
      let run = own_is_run files s.heap (key_of_method m) vs r.top r.index r.file r.method f.0 r.file_there r.own r.method_there f.1 in
      let current = internal_name c.head.name in
      let at : place_of classes current ≡ Some position = ap (place_of classes) (named_so p files b.turn names compiled position c there) ∙ placed_at p files b.turn names compiled position c there in
      let up : option_and_then (super_of classes) (place_of classes current) ≡ Some r.at = ap (option_and_then (super_of classes)) at ∙ super_is p files b.turn names compiled m position r.at c r.c (word_of m.class) there super r.there r.named in
      reaches_body naming m (word_of m.class) vs s k r (MethodAbove current m.name m.descriptor) (run.above current r.at up r.first (body_plain p m k.candidate r.file r.method b.turn r.fits r.method_is))

  -- `main` takes nothing
  main_given : (r : Static (main_of p.main) names.names.main) → are_for names.names.main.head names.names.main.member.part [] ≡ true
  main_given r =
      sym (ap (λ (q : Placed). are_for q.head q.member.part []) r.same) ∙ ap (λ (t : TypedPart). are_for r.x.head t []) r.fits.part_is
      ∙ ap (λ (o : Option IfaceMethod). option_map_or (λ method. cond (is_static method.kind) (are_of method.params []) (are_given method.params [])) o false) r.fits.method_there
      ∙ ap (λ x. cond x (are_of r.x.method.params []) (are_given r.x.method.params [])) r.fits.kind
      ∙ ap (λ (params : List Ty). are_of params []) (takes_nothing r.x.method.params r.x.method.result r.fits.descriptor)

  main_right : StartsMain p files b
  main_right =
      let r = static_found (main_of p.main) names.names.main names.names.main_there in
      let is = subst (λ (q : Placed). IsMethodOf (hier_in p.classes) q.head q.member r.file r.method b.turn) r.same r.method_is in
      let kept = subst (λ (q : Placed). KeepsReceiver (hier_in p.classes) q.head q.member) r.same r.kept in
      let f = code_enters (hier_in p.classes) names.names.main.head names.names.main.member r.file r.method is.code [] (main_given r) in
      let at : ℕ × ℕ = (r.code.at, r.index) in
      let key = key_of_method (main_of p.main) in
      let enters : step_of.entry files true [] at ≡ Some (running at f.0) = entry_of files (call_to (StaticMethod key) []) at r.file r.method f.0 r.file_there r.method_there (static_so p (main_of p.main) r.x r.file r.method b.turn r.fits r.method_is) f.1 in
      let begins : Running → Option State = λ running. Some (record { current = running; callers = []; heap = []; statics = first_statics classes }) in
      record {
        member = names.names.main;
        named = names.names.main_there;
        at = at;
        frame = f.0;
        starts = ap (λ (o : Option ℕ). option_and_then (λ at. option_and_then (λ m. option_and_then begins (step_of.entry files true [] (at, m))) (own_method files (codes "main") (codes "()V") at)) o) r.code.placed
            ∙ ap (λ (o : Option ℕ). option_and_then (λ m. option_and_then begins (step_of.entry files true [] (r.code.at, m))) o) r.own
            ∙ ap (option_and_then begins) enters;
        file = r.file;
        file_there = r.file_there;
        method = r.method;
        method_there = r.method_there;
        enters = f.1;
        has = open_traces (hier_in p.classes) names.names.main.head names.names.main.member r.file r.method b.turn is.code kept is.few;
      }

pub is_right : CompiledIsRight
is_right p files naming b fits named nearest compiled =
    let names = named_of p fits named in
    record {
      classes = classes_are p files b.turn names compiled;
      main = main_right p files b names nearest compiled;
      static = static_right p files b names nearest compiled;
      constructor = constructor_right p files b names nearest compiled;
      virtual = virtual_right p files b names nearest compiled naming;
      above = λ c position there m vs s k super whole. above_right p files b names nearest compiled naming c position there m vs s k super;
    }

-- without dispatchers there is nothing to be named
abbrev no_names : Naming
no_names = record { body = λ c. []; helper = λ c a. record { class = []; name = []; descriptor = [] } }

pub keeps_the_meaning : CompiledKeepsTheMeaning
keeps_the_meaning p files b fits named nearest compiled = right_keeps p files no_names b (calls_fit p fits) (is_right p files no_names b fits named nearest compiled)
