-- What is found by a call is given what it is declared with.
use Rattle.std.proofs.Common.{◌≡◌, ◌⊎◌, ℕ, Bool, true, false, List, ◌∷◌, Option, Some, refl, sym, ap, ◌∙◌, subst, inl, inr}
use Rattle.std.specs.Prelude.{slice_get, not, cond}
use Rattle.std.specs.Option.{option_map_or}
use Rattle.std.proofs.lemmas.Bool.{false≢true}
use Rattle.jp_pred.specs.declared.ty.Ty.{Ty}
use Rattle.jp_pred.specs.declared.ty.Ty.TheVariants as ty
use Rattle.jp_pred.specs.Names.{Word, In}
use Rattle.jp_pred.specs.Hierarchy.{Ascends, stop, IsBelow, is_below}
use Rattle.jp_pred.proofs.Ascents.{exactly_below}
use Rattle.iface_codec.specs.declared.iface.Iface.{Iface}
use Rattle.iface_codec.specs.declared.iface.IfaceMethod.{IfaceMethod}
use Rattle.iface_codec.specs.declared.iface.MethodKind.{MethodKind}
use Rattle.iface_codec.specs.declared.iface.MethodKind.TheVariants as kind
use Rattle.jp_store.specs.declared.value.Value.{Value}
use Rattle.jp_store.specs.declared.value.Value.TheVariants.{Ref}
use Rattle.jp_store.specs.Store.{Store}
use Rattle.jp_meaning.specs.declared.unit.TypedPart.{TypedPart}
use Rattle.jp_meaning.specs.declared.unit.TypedMember.{TypedMember}
use Rattle.jp_meaning.specs.declared.unit.TypedClass.{TypedClass}
use Rattle.jp_meaning.specs.Descriptors.{word_of, internal_name, method_of, constructor_of}
use Rattle.jp_meaning.specs.Expressions.{are_of}
use Rattle.jp_meaning.specs.Classes.{Placed, Candidate, placed, is_body, is_static, hier_in, chain_of, static_named, constructor_named}
use Rattle.jp_meaning.specs.Run.{Program, receiver_class}
use Rattle.code_trace.specs.Given.{are_given, are_for, has_receiver, IsUnder}
use Rattle.gen_body.specs.Names.{are_nameable, is_result}
use Rattle.whole_program.specs.Fits.{Enters, AllEnter}
use Rattle.calls_fit.specs.Fitting.{ProgramFits, ClassFits, method_fits}
use Rattle.calls_fit.proofs.Named.{first_true, second_true, in_get, get_in, all_in, IsOf, through, in_chain, static_of, maker_of}
use Rattle.calls_fit.proofs.SameKinds.{same_kinds}

module _ (p : Program) (f : ProgramFits p) where
  class_fits : (c : TypedClass) → In c p.classes → ClassFits p c
  class_fits c h = let g = get_in h in f.each g.0 c g.1

  -- an object of a class that is below another is under that
  pub is_under : (s : Store) (vs : List Value) (own class : Word) → receiver_class s vs ≡ Some own → IsBelow (hier_in p.classes) own class → IsUnder (hier_in p.classes) s vs class
  is_under s vs own class e h = (own, e, inr ((exactly_below (hier_in p.classes) own class (is_below (hier_in p.classes) own class) f.acyclic refl).1 h))

  pub is_below_so : (own class : Word) → (own ≡ class) ⊎ (is_below (hier_in p.classes) own class ≡ true) → IsBelow (hier_in p.classes) own class
  is_below_so own class (inl e) = inl (subst (Ascends (hier_in p.classes) own) e stop)
  is_below_so own class (inr h) = (exactly_below (hier_in p.classes) own class (is_below (hier_in p.classes) own class) f.acyclic refl).0 h

  -- a method of a class takes what a call with the types of its descriptor gives
  module _ (of_kind : MethodKind → Bool) (class : TypedClass) (there : In class p.classes) (name : Word) (target : Word) (params : List Ty) (result : Ty) (named : are_nameable params ≡ true) (given : is_result result ≡ true) (member : TypedMember) (inside : In member class.members) (c : Candidate) (o : IsOf of_kind (method_of target name params result) class.head member c) where
    fits : ClassFits p class
    fits = class_fits class there

    method_is : slice_get class.head.methods o.at ≡ Some c.method
    method_is = subst (λ (h : Iface). slice_get h.methods o.at ≡ Some c.method) o.head_is o.method_there

    well : method_fits c.method ≡ true
    well = all_in method_fits class.head.methods fits.methods (in_get class.head.methods o.at c.method method_is)

    taken : (vs : List Value) → are_of params vs ≡ true → are_of c.method.params vs ≡ true
    taken vs h =
        same_kinds params c.method.params result c.method.result vs named given (first_true (are_nameable c.method.params) (is_result c.method.result) well) (second_true (are_nameable c.method.params) (is_result c.method.result) well) o.descriptor h

    for_part : (vs : List Value) → cond (is_static c.method.kind) (are_of c.method.params vs) (are_given c.method.params vs) ≡ true → are_for c.head c.member.part vs ≡ true
    for_part vs h =
        ap (λ (x : TypedPart). are_for c.head x vs) o.part_is
        ∙ ap (λ (x : Option IfaceMethod). option_map_or (λ method. cond (is_static method.kind) (are_of method.params vs) (are_given method.params vs)) x false) o.method_there ∙ h

    receiver_is : has_receiver c.head c.member.part ≡ not (is_static c.method.kind)
    receiver_is = ap (has_receiver c.head) o.part_is ∙ ap (λ (x : Option IfaceMethod). option_map_or (λ method. not (is_static method.kind)) x false) o.method_there

    entering : (vs : List Value) (s : Store) → cond (is_static c.method.kind) (are_of c.method.params vs) (are_given c.method.params vs) ≡ true → (not (is_static c.method.kind) ≡ true → IsUnder (hier_in p.classes) s vs c.head.name) → Enters p (placed c) vs s
    entering vs s h under = record {
      class = class;
      position = (get_in there).0;
      class_there = (get_in there).1;
      head = o.head_is;
      index = (get_in inside).0;
      member_there = (get_in inside).1 ∙ ap (λ (m : TypedMember). Some m) (sym o.member_is);
      given = record { kinds = for_part vs h; receiver = λ e. under (sym receiver_is ∙ e) };
    }

    -- a body, on a receiver
    pub body_enters : ((k : MethodKind) → of_kind k ≡ true → is_static k ≡ false) → (k : ℕ) (vs : List Value) (s : Store) → are_of params vs ≡ true → IsUnder (hier_in p.classes) s (Ref k ∷ vs) c.head.name → Enters p (placed c) (Ref k ∷ vs) s
    body_enters bodies k vs s h under =
        entering (Ref k ∷ vs) s (ap (λ (b : Bool). cond b (are_of c.method.params (Ref k ∷ vs)) (are_given c.method.params (Ref k ∷ vs))) (bodies c.method.kind o.kind) ∙ taken vs h) (λ e. under)

    -- a static method
    pub static_enters : ((k : MethodKind) → of_kind k ≡ true → is_static k ≡ true) → (vs : List Value) (s : Store) → are_of params vs ≡ true → Enters p (placed c) vs s
    static_enters statics vs s h =
        entering vs s (ap (λ (b : Bool). cond b (are_of c.method.params vs) (are_given c.method.params vs)) (statics c.method.kind o.kind) ∙ taken vs h)
        (λ e. absurd (false≢true (ap not (sym (statics c.method.kind o.kind)) ∙ e)))

  body_is_no_static : (k : MethodKind) → is_body k ≡ true → is_static k ≡ false
  body_is_no_static kind.Body h = refl
  body_is_no_static kind.Abstract h = refl
  body_is_no_static kind.Static h = absurd (false≢true h)
  body_is_no_static kind.PrivateStatic h = absurd (false≢true h)

  -- each candidate of the chain of a class at or above the receiver's
  pub chain_enters : (target name : Word) (params : List Ty) (result : Ty) → are_nameable params ≡ true → is_result result ≡ true → (k : ℕ) (vs : List Value) (s : Store) (own start : Word) → are_of params vs ≡ true →
      receiver_class s (Ref k ∷ vs) ≡ Some own → Ascends (hier_in p.classes) own start → AllEnter p (chain_of p.classes (method_of target name params result) start) (Ref k ∷ vs) s
  chain_enters target name params result named given k vs s own start h e below i c there =
      let m = method_of target name params result in
      let g = in_chain p.classes m start c (in_get (chain_of p.classes m start) i c there) in
      body_enters is_body g.0 g.1 name target params result named given g.3 g.4 c g.5 body_is_no_static k vs s h
      (is_under s (Ref k ∷ vs) own c.head.name e (inl (through below (subst (λ (x : Iface). Ascends (hier_in p.classes) start x.name) (sym g.5.head_is) g.2))))

  pub static_call_enters : (target name : Word) (params : List Ty) (result : Ty) → are_nameable params ≡ true → is_result result ≡ true → (vs : List Value) (s : Store) → are_of params vs ≡ true →
      (q : Placed) → static_named p.classes (method_of target name params result) ≡ Some q → Enters p q vs s
  static_call_enters target name params result named given vs s h q e =
      let g = static_of p.classes (method_of target name params result) q e in
      subst (λ (x : Placed). Enters p x vs s) g.5 (static_enters is_static g.0 g.1 name target params result named given g.2 g.3 g.4 g.6 (λ k x. x) vs s h)

  -- a constructor, on an object of its class or of one below it
  pub maker_enters : (target : Word) (params : List Ty) → are_nameable params ≡ true → (k : ℕ) (vs : List Value) (s : Store) → are_of params vs ≡ true → IsUnder (hier_in p.classes) s (Ref k ∷ vs) (word_of (internal_name target)) →
      (q : Placed) → constructor_named p.classes (constructor_of target params) ≡ Some q → Enters p q (Ref k ∷ vs) s
  maker_enters target params named k vs s h under q e =
      let g = maker_of p.classes (constructor_of target params) q e in
      let fits = class_fits g.class g.class_there in
      let there = subst (λ (x : Iface). slice_get x.constructors g.at ≡ Some g.params) g.head_is g.params_there in
      let well = all_in are_nameable g.class.head.constructors fits.constructors (in_get g.class.head.constructors g.at g.params there) in
      let own = same_kinds params g.params ty.Void ty.Void vs named refl well refl g.descriptor h in
      record {
        class = g.class;
        position = (get_in g.class_there).0;
        class_there = (get_in g.class_there).1;
        head = g.head_is;
        index = (get_in g.member_there).0;
        member_there = (get_in g.member_there).1;
        given = record {
          kinds = ap (λ (x : TypedPart). are_for q.head x (Ref k ∷ vs)) g.part_is
              ∙ ap (λ (x : Option (List Ty)). option_map_or (λ params. are_given params (Ref k ∷ vs)) x false) g.params_there ∙ own;
          receiver = λ e. subst (IsUnder (hier_in p.classes) s (Ref k ∷ vs)) (sym (ap (λ (x : Iface). x.name) g.head_is ∙ g.name)) under;
        };
      }
