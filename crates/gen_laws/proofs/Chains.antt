-- The first body of a chain is the method that is found upwards from the class.
use Rattle.std.proofs.Common.{◌≡◌, ℕ, zero, suc, ◌<◌, Bool, false, List, [], ◌∷◌, ◌++◌, length, Option, Some, None, ◌⊎◌, inl, inr, refl, sym, ap, ◌∙◌, subst, arith}
use Rattle.std.specs.Prelude.{◌≢◌, is_some, slice_get, option_and_then, codes}
use Rattle.std.specs.List.{flat_map}
use Rattle.std.specs.Option.{option_map, option_map_or}
use Rattle.std.proofs.lemmas.Bool.{false≢true, true≢false}
use Rattle.std.proofs.lemmas.List.{length-map}
use Rattle.std.proofs.lemmas.Option.{slice_get-map}
use Rattle.class_form.specs.declared.class_file.ClassFile.{ClassFile}
use Rattle.class_form.specs.declared.member.MemberInfo.{MemberInfo}
use Rattle.jp_pred.specs.Names.{Word}
use Rattle.iface_codec.specs.declared.iface.Iface.{Iface}
use Rattle.iface_codec.specs.declared.iface.IfaceMethod.{IfaceMethod}
use Rattle.iface_codec.specs.declared.iface.MethodKind.{MethodKind}
use Rattle.iface_codec.specs.declared.iface.MethodKind.TheVariants as kind
use Rattle.jp_store.specs.Classes.{Class, object_name, place_of, super_of}
use Rattle.jp_meaning.specs.declared.unit.TypedClass.{TypedClass}
use Rattle.jp_meaning.specs.Does.{Method}
use Rattle.jp_meaning.specs.Descriptors.{internal_name, method_descriptor}
use Rattle.jp_meaning.specs.Classes.{Candidate, is_body, is_static, class_of_head, hier_in, class_in, methods_in, upwards, chain_of}
use Rattle.jp_meaning.specs.Run.{Program}
use Rattle.jvm_load.specs.FileClasses.{classes_of}
use Rattle.jvm_load.specs.Methods.{own_method}
use Rattle.jvm_load.proofs.LineLemmas.{above}
use Rattle.whole_program.specs.Found.{HaveNone, IsFirstFrom}
use Rattle.gen_body.specs.Correct.{KeepsReceiver}
use Rattle.gen_laws.specs.Compiled.{Name, name_of_method, name_of_part, IsMethodOf, IsCompiled}
use Rattle.gen_laws.specs.Plain.{statics_of}
use Rattle.gen_laws.proofs.Lists.{one_there, both_empty}
use Rattle.gen_laws.proofs.Lines.{walk, AllNot, reach}
use Rattle.gen_laws.proofs.Names.{Named, ClassAt, class_found, classes_are, file_at, named_so, placed_at}
use Rattle.gen_laws.proofs.Methods.{same_name, Fits, one_of_class, own_of, none_own}

-- what code calls a method
abbrev pub name_for : Method → Name
name_for m = record { name = m.name; descriptor = m.descriptor }

-- what a member that fits is called
pub called_so : (of_kind : MethodKind → Bool) (m : Method) (head : Iface) (x : Candidate) → of_kind kind.Abstract ≡ false → Fits of_kind m head x → name_of_part head x.member.part ≡ Some (name_for m)
called_so of_kind m head x abstract f = ap (name_of_part head) f.part_is ∙ ap (λ (o : Option IfaceMethod). option_and_then (λ m. name_of_method m.kind m) o) f.method_there ∙ by_kind x.method.kind refl where
  own_name : Name
  own_name = record { name = x.method.name; descriptor = method_descriptor x.method.params x.method.result }

  named : Some own_name ≡ Some (name_for m)
  named = ap (λ (n : Name). Some n) (same_name own_name (name_for m) f.name f.descriptor)

  by_kind : (k : MethodKind) → x.method.kind ≡ k → name_of_method k x.method ≡ Some (name_for m)
  by_kind kind.Abstract e = absurd (true≢false (sym f.kind ∙ ap of_kind e ∙ abstract))
  by_kind kind.Body e = named
  by_kind kind.Static e = named
  by_kind kind.PrivateStatic e = named

none_if : {A : Type 0} (o : Option A) → is_some o ≡ false → o ≡ None
none_if None e = refl
none_if (Some a) e = absurd (true≢false e)

module _ (p : Program) (files : List ClassFile) (most : ℕ) (names : Named p) (compiled : IsCompiled p files most) (m : Method) where
  abbrev classes : List Class
  classes = classes_of files

  -- where the superclass stands
  pub super_is : (at up : ℕ) (c d : TypedClass) (name : Word) → slice_get p.classes at ≡ Some c → c.head.superclass ≡ Some name → slice_get p.classes up ≡ Some d → d.head.name ≡ name → super_of classes at ≡ Some up
  super_is at up c d name e super e' named =
      ap (λ (k : List Class). option_and_then (λ (x : Class). option_and_then (place_of classes) x.superclass) (slice_get k at)) (classes_are p files most names compiled)
      ∙ ap (λ (o : Option Class). option_and_then (λ (x : Class). option_and_then (place_of classes) x.superclass) o) (slice_get-map (λ (x : TypedClass). class_of_head x.head) p.classes at ∙ ap (λ (o : Option TypedClass). option_map (λ (x : TypedClass). class_of_head x.head) o) e)
      ∙ ap (λ (o : Option Word). place_of classes (option_map_or internal_name o object_name)) super
      ∙ ap (λ (w : Word). place_of classes (internal_name w)) (sym named) ∙ ap (place_of classes) (named_so p files most names compiled up d e') ∙ placed_at p files most names compiled up d e'

  -- from the class of a name so many steps up to the class with the first body
  record Climb (n : ℕ) (name : Word) (x : Candidate) : Type 0 where
    at : ℕ
    c : TypedClass
    there : slice_get p.classes at ≡ Some c
    named : c.head.name ≡ name
    steps : ℕ
    few : steps < n
    top : ℕ
    d : TypedClass
    top_there : slice_get p.classes top ≡ Some d
    walks : walk classes steps (Some at) ≡ Some top
    first : slice_get (methods_in is_body m d) 0 ≡ Some x
    none : m.name ≢ codes "<init>" → (i : ℕ) → i < steps → (y : ℕ) → walk classes i (Some at) ≡ Some y → own_method files m.name m.descriptor y ≡ None

  climb : (n : ℕ) (name : Word) (x : Candidate) → slice_get (flat_map (methods_in is_body m) (upwards n p.classes name)) 0 ≡ Some x → flat_map (methods_in is_static m) (upwards n p.classes name) ≡ [] → Climb n name x
  climb zero name x e s = absurd (false≢true (ap is_some e))
  climb (suc n) name x e s = by_class (class_in p.classes name) refl e s (λ name e s. climb n name x e s) where
    Rec : Type 0
    Rec = (name : Word) → slice_get (flat_map (methods_in is_body m) (upwards n p.classes name)) 0 ≡ Some x → flat_map (methods_in is_static m) (upwards n p.classes name) ≡ [] → Climb n name x

    -- the next class up, where this one has no body
    step_up : (c : TypedClass) → ClassAt p.classes name c → methods_in is_body m c ≡ [] → methods_in is_static m c ≡ [] → (above : Word) → c.head.superclass ≡ Some above → Climb n above x → Climb (suc n) name x
    step_up c r body static above super k = record {
      at = r.at;
      c = c;
      there = r.there;
      named = r.named;
      steps = suc k.steps;
      few = omega (arith, k.few);
      top = k.top;
      d = k.d;
      top_there = k.top_there;
      walks = ap (walk classes k.steps) up ∙ k.walks;
      first = k.first;
      none = by_step;
    } where
      up : super_of classes r.at ≡ Some k.at
      up = super_is r.at k.at c k.c above r.there super k.there k.named

      by_step : m.name ≢ codes "<init>" → (i : ℕ) → i < suc k.steps → (y : ℕ) → walk classes i (Some r.at) ≡ Some y → own_method files m.name m.descriptor y ≡ None
      by_step init zero lt y e =
          let f = file_at p files most names compiled r.at c r.there in
          ap (own_method files m.name m.descriptor) (sym (one_there (Some r.at) r.at y refl e)) ∙ none_own (hier_in p.classes) most files r.at f.file f.there c f.is m init body static
      by_step init (suc i) lt y e = k.none init i (omega (arith, lt)) y (ap (walk classes i) (sym up) ∙ e)

    by_super : (c : TypedClass) → ClassAt p.classes name c → methods_in is_body m c ≡ [] → methods_in is_static m c ≡ [] → (o : Option Word) → c.head.superclass ≡ o → slice_get (flat_map (methods_in is_body m) (option_map_or (upwards n p.classes) o [])) 0 ≡ Some x → flat_map (methods_in is_static m) (option_map_or (upwards n p.classes) o []) ≡ [] → Rec → Climb (suc n) name x
    by_super c r body static None super e s rec = absurd (false≢true (ap is_some e))
    by_super c r body static (Some above) super e s rec = step_up c r body static above super (rec above e s)

    by_here : (c : TypedClass) → ClassAt p.classes name c → (bodies : List Candidate) → methods_in is_body m c ≡ bodies → slice_get (bodies ++ flat_map (methods_in is_body m) (option_map_or (upwards n p.classes) c.head.superclass [])) 0 ≡ Some x →
        (methods_in is_static m c ≡ []) × (flat_map (methods_in is_static m) (option_map_or (upwards n p.classes) c.head.superclass []) ≡ []) → Rec → Climb (suc n) name x
    by_here c r (y ∷ ys) body e s rec = record {
      at = r.at;
      c = c;
      there = r.there;
      named = r.named;
      steps = zero;
      few = omega arith;
      top = r.at;
      d = c;
      top_there = r.there;
      walks = refl;
      first = ap (λ (l : List Candidate). slice_get l 0) body ∙ e;
      none = λ init i lt y e. absurd (omega (arith, lt));
    }
    by_here c r [] body e s rec = by_super c r body s.0 c.head.superclass refl e s.1 rec

    by_class : (o : Option TypedClass) → class_in p.classes name ≡ o → slice_get (flat_map (methods_in is_body m) (option_map_or (λ c. c ∷ option_map_or (upwards n p.classes) c.head.superclass []) o [])) 0 ≡ Some x → flat_map (methods_in is_static m) (option_map_or (λ c. c ∷ option_map_or (upwards n p.classes) c.head.superclass []) o []) ≡ [] → Rec → Climb (suc n) name x
    by_class None there e s rec = absurd (false≢true (ap is_some e))
    by_class (Some c) there e s rec =
        by_here c (class_found p.classes name c there) (methods_in is_body m c) refl e (both_empty (methods_in is_static m c) (flat_map (methods_in is_static m) (option_map_or (upwards n p.classes) c.head.superclass [])) s) rec

  -- the first body of a chain, and its method
  pub record FoundBody (name : Word) (x : Candidate) : Type 0 where
    pub at : ℕ
    pub c : TypedClass
    pub there : slice_get p.classes at ≡ Some c
    pub named : c.head.name ≡ name
    pub top : ℕ
    pub file : ClassFile
    pub file_there : slice_get files top ≡ Some file
    pub index : ℕ
    pub method : MemberInfo
    pub method_there : slice_get file.methods index ≡ Some method
    pub own : own_method files m.name m.descriptor top ≡ Some index
    pub method_is : IsMethodOf (hier_in p.classes) x.head x.member file method most
    pub kept : KeepsReceiver (hier_in p.classes) x.head x.member
    pub first : IsFirstFrom files m.name m.descriptor at top
    pub fits : Fits is_body m x.head x

  pub have_none : (before : List ℕ) → AllNot classes (λ y. is_some (own_method files m.name m.descriptor y)) before → HaveNone files m.name m.descriptor before
  have_none [] h = tt
  have_none (at ∷ more) h = (none_if (own_method files m.name m.descriptor at) h.0, have_none more h.1)

  pub found_body : (name : Word) (x : Candidate) → slice_get (chain_of p.classes m name) 0 ≡ Some x → FoundBody name x
  found_body name x e = by_apart (names.names.apart m name) where
    from_climb : Climb (length p.classes) name x → FoundBody name x
    from_climb k =
        let f = file_at p files most names compiled k.top k.d k.top_there in
        let first = one_of_class is_body m k.d 0 x k.first in
        let own = own_of (hier_in p.classes) most files k.top f.file f.there k.d f.is first.index x.member (name_for m) first.there (called_so is_body m k.d.head x refl first.fits) in
        let init : m.name ≢ codes "<init>" = λ e. names.names.methods k.top first.fits.at k.d x.method k.top_there first.fits.method_there (first.fits.name ∙ e) in
        let has : ℕ → Bool = λ y. is_some (own_method files m.name m.descriptor y) in
        let len : length p.classes ≡ length classes = sym (ap (λ (k : List Class). length k) (classes_are p files most names compiled) ∙ length-map p.classes (λ (c : TypedClass). class_of_head c.head)) in
        let r = reach classes has k.steps (length classes) [] k.at k.top (omega (arith, k.few, len)) tt k.walks (ap is_some own.own) (λ i lt y w. ap is_some (k.none init i lt y w)) in
        let same : k.d.head ≡ x.head = sym first.fits.head_is in
        record {
          at = k.at;
          c = k.c;
          there = k.there;
          named = k.named;
          top = k.top;
          file = f.file;
          file_there = f.there;
          index = own.index;
          method = own.method;
          method_there = own.there;
          own = own.own;
          method_is = subst (λ (h : Iface). IsMethodOf (hier_in p.classes) h x.member f.file own.method most) same own.method_is;
          kept = subst (λ (h : Iface). KeepsReceiver (hier_in p.classes) h x.member) same (names.kept k.top first.index k.d x.member k.top_there first.there);
          first = (r.before, r.more, r.line, have_none r.before r.none);
          fits = subst (λ (h : Iface). Fits is_body m h x) same first.fits;
        }

    by_apart : (chain_of p.classes m name ≡ []) ⊎ (statics_of p.classes m name ≡ []) → FoundBody name x
    by_apart (inl none) = absurd (false≢true (ap is_some (ap (λ (l : List Candidate). slice_get l 0) (sym none) ∙ e)))
    by_apart (inr none) = from_climb (climb (length p.classes) name x e none)
