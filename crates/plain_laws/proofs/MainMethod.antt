-- A unit with a `main` that can be run has the static method that a program begins with.
use Rattle.std.proofs.Common.{◌≡◌, ℕ, Bool, true, false, List, [], ◌∷◌, map, length, Option, Some, None, refl, sym, ap, ◌∙◌, subst}
use Rattle.std.specs.Prelude.{◌&&◌, not, slice_get, codes, option_and_then, if◌then◌else◌}
use Rattle.std.specs.List.{filter_map, list_any, list_all}
use Rattle.std.specs.Option.{option_map}
use Rattle.std.specs.Str.{bytes_eq}
use Rattle.std.proofs.lemmas.Bool.{false≢true}
use Rattle.jp_pred.specs.declared.path.Path.{Path}
use Rattle.jp_pred.specs.declared.ty.Ty.{Ty}
use Rattle.jp_pred.specs.declared.ty.Ty.TheVariants as ty
use Rattle.jp_pred.specs.Names.{Word, In, same, object}
use Rattle.jp_pred.proofs.Ascents.{same_true, same_refl}
use Rattle.jp_pred.proofs.Lists.{in_from_any}
use Rattle.iface_codec.specs.declared.iface.Iface.{Iface}
use Rattle.iface_codec.specs.declared.iface.IfaceMethod.{IfaceMethod}
use Rattle.jp_ast.specs.declared.decl.Decl.{Decl}
use Rattle.jp_ast.specs.declared.decl.Member.{Member}
use Rattle.jp_ast.specs.declared.decl.MemberPart.{MemberPart}
use Rattle.jp_ast.specs.declared.decl.MemberPart.TheVariants as part
use Rattle.jp_ast.specs.declared.decl.Param.{Param}
use Rattle.jp_store.specs.Classes.{object_name}
use Rattle.jp_meaning.specs.declared.unit.TypedClass.{TypedClass}
use Rattle.jp_meaning.specs.declared.unit.TypedMember.{TypedMember}
use Rattle.jp_meaning.specs.declared.unit.TypedPart.TheVariants as typed
use Rattle.jp_meaning.specs.Descriptors.{internal_name, word_of, method_descriptor}
use Rattle.jp_meaning.specs.Classes.{Candidate, is_static, is_named, as_method, as_named, methods_in, class_in, placed, static_named}
use Rattle.jp_meaning.specs.Does.{Method}
use Rattle.jp_meaning.specs.Run.{main_of}
use Rattle.type_rules.specs.Heads.{method, static_kind, param_types, method_part, head, heads_of}
use Rattle.type_rules.specs.Heads as written
use Rattle.type_rules.specs.Units.{Seat, opened, open_decl, seats_of, entry_of, resolved_head, made_member}
use Rattle.gen_body.specs.Names.{are_nameable}
use Rattle.calls_fit.specs.Fitting.{method_fits}
use Rattle.calls_fit.proofs.Named.{first_true, second_true, all_in}
use Rattle.typed_fits.specs.Laws.{has_plain_names}
use Rattle.typed_fits.proofs.MemberFits.{stands_at}
use Rattle.typed_fits.proofs.SeenFits.{and_so}
use Rattle.typed_fits.proofs.Rules.{no_object, standing, turned}
use Rattle.typed_fits.proofs.UnitFits.{head_is, made_of, in_filter_to, not_so}
use Rattle.plain_form.specs.Main.{is_void, takes_nothing, is_static_void, is_main, declares_main}
use Rattle.plain_laws.specs.Laws.{PlainHasMain}
use Rattle.plain_laws.proofs.Resolved.{unit_made, class_for, seat_for, members_made, made_in, made_part, method_place, in_default}

-- THE METHOD

no_params : (ps : List Param) → takes_nothing ps ≡ true → map (λ p. p.ty) ps ≡ []
no_params [] e = refl
no_params (p ∷ ps) e = absurd (false≢true e)

void_is : (t : Ty) → is_void t ≡ true → t ≡ ty.Void
void_is ty.Void e = refl
void_is ty.Int e = absurd (false≢true e)
void_is ty.Boolean e = absurd (false≢true e)
void_is (ty.Class name) e = absurd (false≢true e)
void_is ty.IntArray e = absurd (false≢true e)
void_is ty.BooleanArray e = absurd (false≢true e)
void_is (ty.ClassArray name) e = absurd (false≢true e)

pub private_too : (b : Bool) → is_static (static_kind b) ≡ true
private_too true = refl
private_too false = refl

-- the method of a `main` in its class's head
record MainOf (aliases : List (Path × Ty)) (m : Member) : Type 0 where
  method : IfaceMethod
  is : method_part aliases m m.part ≡ Some method
  kind : is_static method.kind ≡ true
  named : is_named (main_of []) method ≡ true

main_method : (aliases : List (Path × Ty)) (m : Member) → is_main m ≡ true → MainOf aliases m
main_method aliases m e = by_part m.part refl (second_true (not m.is_private && same m.name (codes "main") && takes_nothing m.params) (is_static_void m.part) e) where
  early : (not m.is_private && same m.name (codes "main") && takes_nothing m.params) ≡ true
  early = first_true (not m.is_private && same m.name (codes "main") && takes_nothing m.params) (is_static_void m.part) e

  name_is : same m.name (codes "main") ≡ true
  name_is = second_true (not m.is_private) (same m.name (codes "main")) (first_true (not m.is_private && same m.name (codes "main")) (takes_nothing m.params) early)

  described : (result : Ty) → is_void result ≡ true → method_descriptor (param_types m) result ≡ method_descriptor [] ty.Void
  described result v =
      ap (λ (ts : List Ty). method_descriptor ts result) (no_params m.params (second_true (not m.is_private && same m.name (codes "main")) (takes_nothing m.params) early))
      ∙ ap (λ (t : Ty). method_descriptor [] t) (void_is result v)

  by_part : (q : MemberPart) → m.part ≡ q → is_static_void q ≡ true → MainOf aliases m
  by_part (part.Field t static) p v = absurd (false≢true v)
  by_part (part.Static result block) p v =
      let k : IfaceMethod = method m.name (static_kind m.is_private) (param_types m) result [] in
      record {
        method = k;
        is = ap (method_part aliases m) p;
        kind = private_too m.is_private;
        named = and_so (bytes_eq m.name (codes "main")) (bytes_eq (method_descriptor (param_types m) result) (method_descriptor [] ty.Void)) name_is
            (ap (λ (d : List ℕ). bytes_eq d (method_descriptor [] ty.Void)) (described result v) ∙ same_refl (method_descriptor [] ty.Void));
      }
  by_part (part.Abstract result) p v = absurd (false≢true v)
  by_part (part.Body result when block) p v = absurd (false≢true v)
  by_part (part.Constructor args block) p v = absurd (false≢true v)

-- THE CLASS

first_there : {X : Type 0} (xs : List X) (x : X) → In x xs → (y : X) × (slice_get xs 0 ≡ Some y)
first_there [] x i = elim i [ ]
first_there (y ∷ xs) x i = (y, refl)

-- the name of a class that has neither of Object's names is what it means in code
own_word : (name : Word) → same name object ≡ false → same name object_name ≡ false → word_of (internal_name name) ≡ name
own_word name o n = ap (λ (b : Bool). word_of (if b then object_name else name)) o ∙ ap (λ (b : Bool). if b then object else name) n

-- a resolved `main` is a static method of that name and descriptor
is_candidate : (heads : List Iface) (d : Decl) (s : Seat) (m : Member) → In (s, opened m) (seats_of heads (open_decl d)) → is_main m ≡ true → (c : TypedClass) → c.head ≡ resolved_head heads (open_decl d) → (t : TypedMember) → made_member s (opened m) ≡ Some t → (class : Word) →
    (x : Candidate) × (as_named is_static (main_of class) c.head t ≡ Some x)
is_candidate heads d s m i e c h t made class =
    let g = main_method (entry_of s (opened m)) m e in
    let n : ℕ = length (filter_map written.as_method s.earlier) in
    let at : slice_get c.head.methods n ≡ Some g.method = ap (λ (x : Iface). slice_get x.methods n) h ∙ stands_at heads d [] (map opened d.members) [] refl (s, opened m) i g.method g.is in
    let part_is : t.part ≡ typed.Method n = made_part s (opened m) t made ∙ method_place (entry_of s (opened m)) s.earlier m m.part g.method g.is in
    let x : Candidate = record { head = c.head; member = t; method = g.method } in
    let found : as_method c.head t t.part ≡ Some x = ap (as_method c.head t) part_is ∙ ap (option_map (λ k. let y : Candidate = record { head = c.head; member = t; method = k } in y)) at in (
      x,
      ap (λ (o : Option Candidate). option_and_then (λ y. if is_static y.method.kind && is_named (main_of class) y.method then Some y else None) o) found
          ∙ ap (λ (b : Bool). if b then Some x else None) (and_so (is_static g.method.kind) (is_named (main_of class) g.method) g.kind g.named),
    )

-- the static method that is first of its name and descriptor in its class is the one that is named
by_name : (classes : List TypedClass) (m : Method) (c : TypedClass) (x : Candidate) (all : List TypedClass) → all ≡ classes → class_in classes (word_of m.class) ≡ Some c → slice_get (methods_in is_static m c) 0 ≡ Some x → static_named all m ≡ Some (placed x)
by_name classes m c x all e f g =
    ap (λ (cs : List TypedClass). static_named cs m) e ∙ ap (λ (o : Option TypedClass). option_and_then (λ c. option_map placed (slice_get (methods_in is_static m c) 0)) o) f ∙ ap (option_map placed) g

pub has_a_main : PlainHasMain
has_a_main unit tree p typed plain classes has =
    let all = heads_of unit.decls [] in
    let made = unit_made unit tree typed in
    let d = in_from_any (declares_main p.main) unit.decls has in
    let front = first_true (not d.0.is_interface && same d.0.name p.main) (list_any is_main d.0.members) d.2 in
    let name_is : d.0.name ≡ p.main = same_true d.0.name p.main (second_true (not d.0.is_interface) (same d.0.name p.main) front) in
    let m = in_from_any is_main d.0.members (second_true (not d.0.is_interface && same d.0.name p.main) (list_any is_main d.0.members) d.2) in
    let c = class_for made.0 d.0 d.1 in
    let hs = head_is all d.0 c.0 c.2 in
    let found = (made_of all [] made.0 made.1 c.0 c.1).3 in
    let class_name : c.0.head.name ≡ p.main = ap (λ (h : Iface). h.name) hs.0 ∙ name_is in
    let s = seat_for all d.0 [] d.0.members m.0 m.1 in
    let ms = members_made (seats_of all (open_decl d.0)) [] hs.1.0 hs.1.1 in
    let t = made_in ms.2 (s.0, opened m.0) s.1 in
    let inside : In t.0 c.0.members = subst (λ (l : List TypedMember). In t.0 l) (sym hs.1.2) (in_default d.0 hs.1.0 t.0 (subst (λ (l : List TypedMember). In t.0 l) (sym ms.1) t.1)) in
    let x = is_candidate all d.0 s.0 m.0 s.1 m.2 c.0 hs.0 t.0 t.2 p.main in
    let first = first_there (methods_in is_static (main_of p.main) c.0) x.0 (in_filter_to (as_named is_static (main_of p.main) c.0.head) x.0 inside x.1) in
    let st = standing all [] unit.decls made.1 d.0 d.1 in
    let free = turned object d.0.name (no_object all st.before d.0 st.keeps) in
    let is_plain = not_so (same d.0.name object_name) (first_true (not (same d.0.name object_name)) (list_all method_fits (head d.0).methods && list_all are_nameable (head d.0).constructors) (all_in has_plain_names unit.decls plain d.1)) in
    let word : word_of (internal_name p.main) ≡ c.0.head.name = subst (λ (w : Word). word_of (internal_name w) ≡ w) name_is (own_word d.0.name free is_plain) ∙ sym class_name in
    (placed first.0, by_name tree.classes (main_of p.main) c.0 first.0 p.classes classes (ap (class_in tree.classes) word ∙ found) first.1)
