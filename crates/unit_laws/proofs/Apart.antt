-- Upwards from a class a static method and a body have not the same name and descriptor, and what that says of a unit
-- without a fault.
use Rattle.std.proofs.Common.{◌≡◌, ◌⊎◌, ℕ, suc, ◌≤◌, Bool, true, false, List, [], ◌∷◌, ◌++◌, map, length, Option, Some, None, refl, sym, ap, ◌∙◌, subst, inl, inr, arith}
use Rattle.std.specs.Prelude.{◌&&◌, ◌||◌, option_and_then, unwrap_or, slice_get, if◌then◌else◌}
use Rattle.std.specs.List.{flat_map, filter_map, list_all, cons_option}
use Rattle.std.specs.Option.{option_map, option_map_or}
use Rattle.std.specs.Str.{bytes_eq}
use Rattle.std.proofs.lemmas.Bool.{false≢true}
use Rattle.std.proofs.lemmas.List.{length-append, append-nil}
use Rattle.std.proofs.lemmas.Slice.Eq.{bytes_eq-Decides}
use Rattle.jp_pred.specs.declared.ty.Ty.{Ty}
use Rattle.jp_pred.specs.declared.ty.Ty.TheVariants as ty
use Rattle.jp_pred.specs.Names.{Word, In, here, there, same}
use Rattle.jp_pred.proofs.Ascents.{same_refl, length_map}
use Rattle.jp_pred.proofs.Entries.{in_left}
use Rattle.jp_pred.proofs.Lists.{or_left, or_right}
use Rattle.iface_codec.specs.declared.iface.Iface.{Iface}
use Rattle.iface_codec.specs.declared.iface.IfaceMethod.{IfaceMethod}
use Rattle.iface_codec.specs.declared.iface.MethodKind.{MethodKind}
use Rattle.iface_codec.specs.declared.iface.MethodKind.TheVariants as kind
use Rattle.jp_ast.specs.declared.decl.Decl.{Decl}
use Rattle.jp_store.specs.declared.value.Kind.{Kind}
use Rattle.jp_store.specs.declared.value.Kind.TheVariants.{Number, Reference}
use Rattle.jp_meaning.specs.declared.unit.TypedPart.{TypedPart}
use Rattle.jp_meaning.specs.declared.unit.TypedPart.TheVariants as part
use Rattle.jp_meaning.specs.declared.unit.TypedMember.{TypedMember}
use Rattle.jp_meaning.specs.declared.unit.TypedClass.{TypedClass}
use Rattle.jp_meaning.specs.Does.{Method}
use Rattle.jp_meaning.specs.Descriptors.{method_descriptor, kind_of_type}
use Rattle.jp_meaning.specs.Classes.{Candidate, is_body, is_static, is_named, as_method, as_named, methods_in, class_in, upwards, chain_of}
use Rattle.jp_meaning.specs.Run.{Program}
use Rattle.jvm_table.specs.Descriptors.{Signature, signature_of}
use Rattle.type_rules.specs.Heads.{own_heads, head, head_of, heads_of, superclass_of}
use Rattle.type_rules.specs.Heads as heads
use Rattle.type_rules.specs.Lookups.{superclasses, supertypes, interfaces_above}
use Rattle.type_rules.specs.RulesOfDeclarations.{inherited}
use Rattle.type_rules.specs.Typing.{AreSound}
use Rattle.type_rules.specs.Units.{open_decl, seats_of, resolved_head, made_class, entry_of, opened, visits_from}
use Rattle.gen_body.specs.Codes.{signature_for}
use Rattle.gen_body.specs.Names.{is_nameable, are_nameable, is_result}
use Rattle.gen_body.proofs.Signatures.{signatures_read_back}
use Rattle.gen_laws.specs.Plain.{statics_of}
use Rattle.calls_fit.specs.Fitting.{method_fits, ProgramFits}
use Rattle.calls_fit.proofs.Named.{some_is, none_is, first_of, first_true, second_true, in_get, get_in, all_in, in_filter, in_flat, class_at, on_way}
use Rattle.typed_fits.specs.Laws.{has_plain_names}
use Rattle.typed_fits.proofs.MemberFits.{as_own}
use Rattle.typed_fits.proofs.Rules.{AllKeep}
use Rattle.typed_fits.proofs.UnitFits.{Made, none, one, head_is, made_of, found_head, in_filter_to}
use Rattle.unit_laws.proofs.Seats.{in_flat_to, seen_as, Stands, stands, none_above, none_beside}
use Rattle.unit_laws.proofs.Climbs.{AreFound, IsClimbed, above_it, IsPast, along}

-- COUNTS OF PARAMETERS

counted : (t : Ty) (ts : List Ty) → is_nameable t ≡ true → length (cons_option (kind_of_type t) (filter_map kind_of_type ts)) ≡ suc (length (filter_map kind_of_type ts))
counted ty.Void ts e = absurd (false≢true e)
counted ty.Int ts e = refl
counted ty.Boolean ts e = refl
counted (ty.Class name) ts e = refl
counted ty.IntArray ts e = refl
counted ty.BooleanArray ts e = refl
counted (ty.ClassArray name) ts e = refl

as_many : (ts : List Ty) → are_nameable ts ≡ true → length (filter_map kind_of_type ts) ≡ length ts
as_many [] e = refl
as_many (t ∷ ts) e = counted t ts (first_true (is_nameable t) (are_nameable ts) e) ∙ ap suc (as_many ts (second_true (is_nameable t) (are_nameable ts) e))

signature_is : (x y : Signature) → Some x ≡ Some y → x ≡ y
signature_is x y e = ap (λ (o : Option Signature). unwrap_or o x) e

-- methods with one descriptor have as many parameters
pub same_count : (a b : IfaceMethod) → method_fits a ≡ true → method_fits b ≡ true → method_descriptor a.params a.result ≡ method_descriptor b.params b.result → length a.params ≡ length b.params
same_count a b f g e =
    let pa : are_nameable a.params ≡ true = first_true (are_nameable a.params) (is_result a.result) f in
    let pb : are_nameable b.params ≡ true = first_true (are_nameable b.params) (is_result b.result) g in
    let ra : is_result a.result ≡ true = second_true (are_nameable a.params) (is_result a.result) f in
    let rb : is_result b.result ≡ true = second_true (are_nameable b.params) (is_result b.result) g in
    let s = signature_is (signature_for a.params a.result) (signature_for b.params b.result) (sym (signatures_read_back a.params a.result pa ra) ∙ ap signature_of e ∙ signatures_read_back b.params b.result pb rb) in
    sym (as_many a.params pa) ∙ ap (λ (x : Signature). length x.parameters) s ∙ as_many b.params pb

-- METHODS THAT ARE NAMED

-- a method of a class of such a kind, with the name and the descriptor
record IsOwn (of_kind : MethodKind → Bool) (m : Method) (head : Iface) (k : IfaceMethod) : Type 0 where
  there : In k head.methods
  kind : of_kind k.kind ≡ true
  name : k.name ≡ m.name
  descriptor : method_descriptor k.params k.result ≡ m.descriptor

module _ (of_kind : MethodKind → Bool) (m : Method) where
  passing : (c d : Candidate) (b : Bool) → (if b then Some c else None) ≡ Some d → (b ≡ true) × (c ≡ d)
  passing c d true e = (refl, some_is c d e)
  passing c d false e = none_is d e

  named_own : (head : Iface) (member : TypedMember) (c : Candidate) → as_named of_kind m head member ≡ Some c → IsOwn of_kind m head c.method
  named_own head member c e = by_part member.part e where
    by_method : (at : ℕ) (o : Option IfaceMethod) → slice_get head.methods at ≡ o →
        option_and_then (λ c. if of_kind c.method.kind && is_named m c.method then Some c else None) (option_map (λ method. let x : Candidate = record { head = head; member = member; method = method } in x) o) ≡ Some c → IsOwn of_kind m head c.method
    by_method at None g e = none_is c e
    by_method at (Some method) g e =
        let x : Candidate = record { head = head; member = member; method = method } in
        let q = passing x c (of_kind method.kind && is_named m method) e in
        let named = second_true (of_kind method.kind) (is_named m method) q.0 in
        subst (λ (y : Candidate). IsOwn of_kind m head y.method) q.1 (record {
          there = in_get head.methods at method g;
          kind = first_true (of_kind method.kind) (is_named m method) q.0;
          name = (bytes_eq-Decides method.name m.name).0 (first_true (bytes_eq method.name m.name) (bytes_eq (method_descriptor method.params method.result) m.descriptor) named);
          descriptor = (bytes_eq-Decides (method_descriptor method.params method.result) m.descriptor).0 (second_true (bytes_eq method.name m.name) (bytes_eq (method_descriptor method.params method.result) m.descriptor) named);
        })

    by_part : (p : TypedPart) → option_and_then (λ c. if of_kind c.method.kind && is_named m c.method then Some c else None) (as_method head member p) ≡ Some c → IsOwn of_kind m head c.method
    by_part (part.Method at) e = by_method at (slice_get head.methods at) refl e
    by_part (part.Field at) e = none_is c e
    by_part (part.Constructor at) e = none_is c e

  -- a candidate of a way upwards is a method of one of its classes
  own_of : (classes : List TypedClass) (c : Candidate) → In c (flat_map (methods_in of_kind m) classes) → (class : TypedClass) × In class classes × IsOwn of_kind m class.head c.method
  own_of classes c i =
      let f = in_flat (methods_in of_kind m) classes c i in
      let g = in_filter (as_named of_kind m f.0.head) f.0.members c f.2 in
      (f.0, f.1, named_own f.0.head g.0 c g.2)

body_not_static : (k : MethodKind) → is_body k ≡ true → is_static k ≡ false
body_not_static kind.Body e = refl
body_not_static kind.Abstract e = absurd (false≢true e)
body_not_static kind.Static e = absurd (false≢true e)
body_not_static kind.PrivateStatic e = absurd (false≢true e)

-- IN A UNIT WITHOUT A FAULT

made_as_many : {heads : List Iface} {ds : List Decl} {cs : List TypedClass} → Made heads ds cs → length cs ≡ length ds
made_as_many none = refl
made_as_many (one f m) = ap suc (made_as_many m)

module _ (p : Program) (ds : List Decl) (made : Made (heads_of ds []) ds p.classes) (keep : AllKeep (heads_of ds []) [] ds) (plain : list_all has_plain_names ds ≡ true) (sound : AreSound (visits_from (heads_of ds []) [] (map open_decl ds))) (fits : ProgramFits p) where
  abbrev all_heads : List Iface
  all_heads = heads_of ds []

  -- a class and its declaration
  record Declared (c : TypedClass) : Type 0 where
    decl : Decl
    there : In decl ds
    head : c.head ≡ resolved_head all_heads (open_decl decl)
    found : head_of all_heads decl.name ≡ Some (heads.head decl)

  declared : (c : TypedClass) → In c p.classes → Declared c
  declared c i =
      let g = made_of all_heads [] made keep c i in
      record { decl = g.0; there = g.1; head = first_of (head_is all_heads g.0 c g.2); found = found_head p ds made keep plain g.0 g.1 }

  are_found : AreFound all_heads p.classes
  are_found name c e =
      let at = class_at p.classes name c e in
      let d = declared c at.0 in
      let name_is : d.decl.name ≡ name = ap (λ (h : Iface). h.name) (sym d.head) ∙ at.1 in
      (d.decl, ap (head_of all_heads) (sym name_is) ∙ d.found, name_is, ap (λ (h : Iface). h.superclass) d.head)

  own_methods : (c : TypedClass) (d : Declared c) (k : IfaceMethod) → In k c.head.methods → In k (filter_map as_own (seats_of all_heads (open_decl d.decl)))
  own_methods c d k i = subst (λ (h : Iface). In k h.methods) d.head i

  fits_in : (c : TypedClass) → In c p.classes → (k : IfaceMethod) → In k c.head.methods → method_fits k ≡ true
  fits_in c i k j = let g = get_in i in all_in method_fits c.head.methods (fits.each g.0 c g.1).methods j

  -- the method of a class is inherited by the one below
  inherits : (low high : TypedClass) (d : Declared low) (e : Declared high) → IsClimbed all_heads high (superclasses all_heads (heads.head d.decl)) → (k : IfaceMethod) → In k high.head.methods →
      (j : IfaceMethod) × In j (inherited all_heads d.decl) × (j.name ≡ k.name) × (j.params ≡ k.params) × (j.kind ≡ k.kind)
  inherits low high d e climbed k i =
      let st = stands all_heads e.decl k (own_methods high e k i) in
      let s = seen_as (entry_of st.seat (opened st.member)) st.member k st.own in
      let q : heads.head climbed.0 ≡ heads.head e.decl = some_is (heads.head climbed.0) (heads.head e.decl) (sym climbed.1 ∙ ap (λ (h : Iface). head_of all_heads h.name) e.head ∙ e.found) in
      let inside : In (heads.head e.decl) (supertypes all_heads (heads.head d.decl)) =
      in_left (interfaces_above all_heads (heads.head d.decl ∷ superclasses all_heads (heads.head d.decl))) (subst (λ (h : Iface). In h (superclasses all_heads (heads.head d.decl))) q climbed.2) in
      (s.seen, in_flat_to (λ h. h.methods) s.seen inside (in_filter_to heads.as_method s.seen st.inside s.is), s.name, s.params, s.kind)

  few_classes : length p.classes ≤ length all_heads
  few_classes = let e = made_as_many made in let g = length-append (map heads.head ds) [] in let h = length_map heads.head ds in omega (arith, e, g, h)

  -- two methods of one name and descriptor in classes of one way upwards, of which one is static
  clash : (low high : TypedClass) → In low p.classes → In high p.classes → IsPast p.classes (length p.classes) low high → (a b : IfaceMethod) → In a low.head.methods → In b high.head.methods → a.name ≡ b.name → method_descriptor a.params a.result ≡ method_descriptor b.params b.result →
      (is_static a.kind || is_static b.kind) ≡ true → ⊥
  clash low high i j past a b k l n e s =
      let d = declared low i in
      let h = declared high j in
      let at = class_at p.classes past.name low past.found in
      let name_is : d.decl.name ≡ past.name = ap (λ (x : Iface). x.name) (sym d.head) ∙ at.1 in
      let few = past.few in
      let climbed = above_it all_heads p.classes are_found fits.acyclic past.count (omega (arith, few, few_classes)) high low past.name d.decl past.found name_is (ap (λ (x : Iface). x.superclass) d.head) past.walked in
      let g = inherits low high d h climbed b l in
      none_above all_heads ds sound d.decl d.there a g.0 (own_methods low d a k) g.1 (n ∙ sym g.2)
      (same_count a b (fits_in low i a k) (fits_in high j b l) e ∙ sym (ap (λ (ts : List Ty). length ts) g.3)) (ap (λ (q : MethodKind). is_static a.kind || is_static q) g.4 ∙ s)

  together : (m : Method) (class : Word) (c s : Candidate) → In c (chain_of p.classes m class) → In s (statics_of p.classes m class) → ⊥
  together m class c s i j =
      let way = upwards (length p.classes) p.classes class in
      let f = own_of is_body m way c i in
      let g = own_of is_static m way s j in
      let fi = (on_way (length p.classes) p.classes class f.0 f.1).0 in
      let gi = (on_way (length p.classes) p.classes class g.0 g.1).0 in
      let names : c.method.name ≡ s.method.name = f.2.name ∙ sym g.2.name in
      let descriptors : method_descriptor c.method.params c.method.result ≡ method_descriptor s.method.params s.method.result = f.2.descriptor ∙ sym g.2.descriptor in
      elim (along p.classes (length p.classes) class f.0 g.0 f.1 g.1) [
        | inl q ↦ let d = declared f.0 fi in
            none_beside all_heads ds sound d.decl d.there s.method c.method (own_methods f.0 d s.method (subst (λ (x : TypedClass). In s.method x.head.methods) (sym q) g.2.there)) (own_methods f.0 d c.method f.2.there) (sym names)
            (sym (same_count c.method s.method (fits_in f.0 fi c.method f.2.there) (fits_in g.0 gi s.method g.2.there) descriptors)) g.2.kind (body_not_static c.method.kind f.2.kind)
        | inr r ↦ elim r [
          | inl past ↦ clash f.0 g.0 fi gi past c.method s.method f.2.there g.2.there names descriptors (or_right (is_static c.method.kind) (is_static s.method.kind) g.2.kind)
          | inr past ↦ clash g.0 f.0 gi fi past s.method c.method g.2.there f.2.there (sym names) (sym descriptors) (or_left (is_static s.method.kind) (is_static c.method.kind) g.2.kind)
        ]
      ]

  pub apart : (m : Method) (class : Word) → (chain_of p.classes m class ≡ []) ⊎ (statics_of p.classes m class ≡ [])
  apart m class = by_chain (chain_of p.classes m class) refl (statics_of p.classes m class) refl where
    by_chain : (cs : List Candidate) → chain_of p.classes m class ≡ cs → (ss : List Candidate) → statics_of p.classes m class ≡ ss → (chain_of p.classes m class ≡ []) ⊎ (statics_of p.classes m class ≡ [])
    by_chain [] e ss f = inl e
    by_chain (c ∷ cs) e [] f = inr f
    by_chain (c ∷ cs) e (s ∷ ss) f = absurd (together m class c s (subst (In c) (sym e) here) (subst (In s) (sym f) here))
