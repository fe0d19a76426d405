-- Where no two bodies of a declaration are of one family, its class has one body at most of a name and descriptor.
use Rattle.std.proofs.Common.{◌≡◌, ℕ, suc, Bool, true, false, cond, List, [], ◌∷◌, ◌++◌, map, length, Option, Some, None, refl, sym, ap, ◌∙◌, subst, inl, inr, eq-eqb}
use Rattle.std.specs.Prelude.{◌&&◌, ◌==◌, not, is_some, unwrap_or, slice_get, option_and_then, if◌then◌else◌}
use Rattle.std.specs.List.{list_any, filter_map, cons_option}
use Rattle.std.specs.Option.{option_map, option_map_or}
use Rattle.std.proofs.lemmas.Bool.{false≢true}
use Rattle.std.proofs.lemmas.List.{append-nil, append_assoc}
use Rattle.std.proofs.lemmas.List.Elements.{filter_map-append}
use Rattle.jp_pred.specs.declared.ty.Ty.{Ty}
use Rattle.jp_pred.specs.declared.ty.Ty.TheVariants as ty
use Rattle.jp_pred.specs.Names.{In, here, there, same}
use Rattle.jp_pred.proofs.Ascents.{same_refl, length_map}
use Rattle.jp_pred.proofs.Entries.{split_in}
use Rattle.jp_pred.proofs.Lists.{any_from_in}
use Rattle.iface_codec.specs.declared.iface.Iface.{Iface}
use Rattle.iface_codec.specs.declared.iface.IfaceMethod.{IfaceMethod}
use Rattle.jp_ast.specs.declared.decl.Decl.{Decl}
use Rattle.jp_ast.specs.declared.decl.Member.{Member}
use Rattle.jp_ast.specs.declared.decl.MemberPart.{MemberPart}
use Rattle.jp_ast.specs.declared.decl.MemberPart.TheVariants as part
use Rattle.jp_ast.specs.declared.decl.Param.{Param}
use Rattle.jp_meaning.specs.declared.unit.TypedPart.{TypedPart}
use Rattle.jp_meaning.specs.declared.unit.TypedPart.TheVariants as typed
use Rattle.jp_meaning.specs.declared.unit.TypedMember.{TypedMember}
use Rattle.jp_meaning.specs.declared.unit.TypedClass.{TypedClass}
use Rattle.jp_meaning.specs.Does.{Method}
use Rattle.jp_meaning.specs.Descriptors.{method_descriptor, kind_of_type}
use Rattle.jp_meaning.specs.Classes as classes
use Rattle.jp_meaning.specs.Classes.{Candidate, as_named, methods_in}
use Rattle.jvm_table.specs.Descriptors.{Signature, signature_of}
use Rattle.type_rules.specs.Heads.{field_part, constructor_part, method_part, as_field, as_constructor, as_method, static_kind}
use Rattle.type_rules.specs.RulesOfDeclarations.{has_no_constructor}
use Rattle.type_rules.specs.Units.{Opened, Seat, opened, open_decl, body_scope, super_parts, place_in, made_guard, guard_of, member_from, made_member, seats, seats_of, entry_of, resolved_head, default_constructor, with_default, made_members, made_class}
use Rattle.type_rules.specs.Expressions.{seen_all, arguments}
use Rattle.type_rules.specs.Statements.{made_along}
use Rattle.gen_body.specs.Codes.{signature_for}
use Rattle.gen_body.specs.Names.{is_nameable, are_nameable, is_result}
use Rattle.gen_body.proofs.Signatures.{signatures_read_back}
use Rattle.gen_laws.proofs.Methods.{IsOne, one_of_class}
use Rattle.calls_fit.specs.Fitting.{method_fits}
use Rattle.calls_fit.proofs.Named.{some_is, none_is, first_true, second_true, in_get, in_filter}
use Rattle.typed_fits.proofs.MemberFits.{as_own, stands_at, seat_is}
use Rattle.typed_fits.proofs.SeenFits.{and_so}
use Rattle.typed_fits.proofs.UnitFits.{head_is, not_so, is_opened}
use Rattle.plain_form.specs.Families.{is_body, is_again, has_lone_bodies}

-- COUNTS OF PARAMETERS

counted : (t : Ty) (ts : List Ty) → is_nameable t ≡ true → length (cons_option (kind_of_type t) (filter_map kind_of_type ts)) ≡ suc (length (filter_map kind_of_type ts))
counted ty.Void ts e = absurd (false≢true e)
counted ty.Int ts e = refl
counted ty.Boolean ts e = refl
counted (ty.Class name) ts e = refl
counted ty.IntArray ts e = refl
counted ty.BooleanArray ts e = refl
counted (ty.ClassArray name) ts e = refl

as_many : (ts : List Ty) → are_nameable ts ≡ true → length (filter_map kind_of_type ts) ≡ length ts
as_many [] e = refl
as_many (t ∷ ts) e = counted t ts (first_true (is_nameable t) (are_nameable ts) e) ∙ ap suc (as_many ts (second_true (is_nameable t) (are_nameable ts) e))

signature_is : (x y : Signature) → Some x ≡ Some y → x ≡ y
signature_is x y e = ap (λ (o : Option Signature). unwrap_or o x) e

-- methods with one descriptor have as many parameters
same_count : (a b : IfaceMethod) → method_fits a ≡ true → method_fits b ≡ true → method_descriptor a.params a.result ≡ method_descriptor b.params b.result → length a.params ≡ length b.params
same_count a b f g e =
    let pa : are_nameable a.params ≡ true = first_true (are_nameable a.params) (is_result a.result) f in
    let pb : are_nameable b.params ≡ true = first_true (are_nameable b.params) (is_result b.result) g in
    let ra : is_result a.result ≡ true = second_true (are_nameable a.params) (is_result a.result) f in
    let rb : is_result b.result ≡ true = second_true (are_nameable b.params) (is_result b.result) g in
    let s = signature_is (signature_for a.params a.result) (signature_for b.params b.result) (sym (signatures_read_back a.params a.result pa ra) ∙ ap signature_of e ∙ signatures_read_back b.params b.result pb rb) in
    sym (as_many a.params pa) ∙ ap (λ (x : Signature). length x.parameters) s ∙ as_many b.params pb

-- MEMBERS THAT ARE MADE

-- each is made of the member at its place
abbrev EachMade : List (Seat × Opened) → List TypedMember → Type 0
EachMade [] [] = Unit {0}
EachMade [] (t ∷ ts) = ⊥
EachMade (x ∷ xs) [] = ⊥
EachMade (x ∷ xs) (t ∷ ts) = (made_member x.0 x.1 ≡ Some t) × EachMade xs ts

no_members : (xs : List (Seat × Opened)) (ts : List TypedMember) → made_members None xs ≡ Some ts → ⊥
no_members [] ts e = none_is ts e
no_members (x ∷ xs) ts e = no_members xs ts e

each_made : (xs : List (Seat × Opened)) (done ts : List TypedMember) → made_members (Some done) xs ≡ Some ts → (more : List TypedMember) × (ts ≡ done ++ more) × EachMade xs more
each_made [] done ts e = ([], sym (some_is done ts e) ∙ sym (append-nil done), tt)
each_made (x ∷ xs) done ts e = by_member (made_member x.0 x.1) refl (λ t. each_made xs (done ++ t ∷ []) ts) e where
  by_member : (o : Option TypedMember) → made_member x.0 x.1 ≡ o → ((t : TypedMember) → made_members (Some (done ++ t ∷ [])) xs ≡ Some ts → (more : List TypedMember) × (ts ≡ (done ++ t ∷ []) ++ more) × EachMade xs more) →
      made_members (option_map (λ t. done ++ t ∷ []) o) xs ≡ Some ts → (more : List TypedMember) × (ts ≡ done ++ more) × EachMade (x ∷ xs) more
  by_member None f later e = absurd (no_members xs ts e)
  by_member (Some t) f later e = let g = later t e in (t ∷ g.0, g.1 ∙ append_assoc done (t ∷ []) g.0, (f, g.2))

-- the seat that a member is made at
made_at : (xs : List (Seat × Opened)) (ts : List TypedMember) → EachMade xs ts → (t : TypedMember) → In t ts → (x : Seat × Opened) × In x xs × (made_member x.0 x.1 ≡ Some t)
made_at [] [] made t i = elim i [ ]
made_at [] (u ∷ ts) made t i = absurd made
made_at (x ∷ xs) [] made t i = elim i [ ]
made_at (x ∷ xs) (u ∷ ts) made t i = elim (split_in u t ts i) [
  | inl q ↦ (x, here, made.0 ∙ ap (λ (t : TypedMember). Some t) q)
  | inr j ↦ let g = made_at xs ts made.1 t j in (g.0, there g.1, g.2)
]

of_any : {A B : Type 0} (P : B → Type 0) (f : A → Option B) (o : Option A) → ((x : A) (y : B) → f x ≡ Some y → P y) → (y : B) → option_and_then f o ≡ Some y → P y
of_any P f None h y e = none_is y e
of_any P f (Some x) h y e = h x y e

of_mapped : {A B : Type 0} (P : B → Type 0) (f : A → B) (o : Option A) → ((x : A) → P (f x)) → (y : B) → option_map f o ≡ Some y → P y
of_mapped P f None h y e = none_is y e
of_mapped P f (Some x) h y e = subst P (some_is (f x) y e) (h x)

-- its part is its place among the members of its sort
part_is : (seat : Seat) (m : Opened) (t : TypedMember) → made_member seat m ≡ Some t → t.part ≡ place_in seat.earlier m.member
part_is seat m t e =
    let P : TypedMember → Type 0 = λ t. t.part ≡ place_in seat.earlier m.member in
    of_any P (λ guard. option_and_then (λ args. option_map (λ block. member_from seat m guard args block) (made_along (Some []) m.block (body_scope seat m))) (arguments (Some []) (option_map_or seen_all (super_parts seat m) [])))
    (made_guard (guard_of seat m))
    (λ guard. of_any P (λ args. option_map (λ block. member_from seat m guard args block) (made_along (Some []) m.block (body_scope seat m)))
    (arguments (Some []) (option_map_or seen_all (super_parts seat m) []))
    (λ args. of_mapped P (λ block. member_from seat m guard args block) (made_along (Some []) m.block (body_scope seat m)) (λ block. refl)))
    t e

-- BODIES

-- the member is a body, and the method is what its head says of it
record IsBodyOf (m : Method) (head : Iface) (member : Member) (k : IfaceMethod) : Type 0 where
  body : is_body member.part ≡ true
  name : member.name ≡ m.name
  count : length member.params ≡ length k.params
  there_is : In k head.methods
  descriptor : method_descriptor k.params k.result ≡ m.descriptor

abbrev place_by : List Member → Member → MemberPart → TypedPart
place_by earlier m q =
    if is_some (field_part m q) then typed.Field (length (filter_map as_field earlier))
    else if is_some (constructor_part m q) then typed.Constructor (length (filter_map as_constructor earlier))
    else typed.Method (length (filter_map as_method earlier))

-- the position of a method
abbrev number_of : TypedPart → Option ℕ
number_of (typed.Method at) = Some at
number_of (typed.Field at) = None
number_of (typed.Constructor at) = None

not_static : (b : Bool) → classes.is_body (static_kind b) ≡ true → ⊥
not_static true e = false≢true e
not_static false e = false≢true e

module _ (heads : List Iface) (d : Decl) (m : Method) where
  abbrev own_head : Iface
  own_head = resolved_head heads (open_decl d)

  abbrev named : TypedMember → Option Candidate
  named = as_named classes.is_body m own_head

  -- what passes is a body of the member that it is made of
  body_of_member : (seat : Seat) (member : Member) → In (seat, opened member) (seats_of heads (open_decl d)) → (t : TypedMember) → made_member seat (opened member) ≡ Some t → (z : Candidate) → named t ≡ Some z → IsBodyOf m own_head member z.method
  body_of_member seat member inside t made z e = by_part member.part refl where
    alone : TypedClass
    alone = record { head = own_head; members = t ∷ [] }

    one : IsOne classes.is_body m own_head (t ∷ []) z
    one = one_of_class classes.is_body m alone 0 z (ap (λ (o : Option Candidate). slice_get (cons_option o []) 0) e)

    member_is : z.member ≡ t
    member_is = elim (split_in t z.member [] (in_get (t ∷ []) one.index z.member one.there)) [ inl q ↦ sym q | inr j ↦ elim j [ ] ]

    placed : (q : MemberPart) → member.part ≡ q → place_by seat.earlier member q ≡ typed.Method one.fits.at
    placed q f = ap (place_by seat.earlier member) (sym f) ∙ sym (part_is seat (opened member) t made) ∙ ap (λ (t : TypedMember). t.part) (sym member_is) ∙ one.fits.part_is

    -- the method that the member is in the head
    method_is : (q : MemberPart) → member.part ≡ q → (k : IfaceMethod) → method_part (entry_of seat (opened member)) member q ≡ Some k → place_by seat.earlier member q ≡ typed.Method (length (filter_map as_method seat.earlier)) → k ≡ z.method
    method_is q f k g p =
        let own : as_own (seat, opened member) ≡ Some k = ap (method_part (entry_of seat (opened member)) member) f ∙ g in
        let at = stands_at heads d [] (map opened d.members) [] refl (seat, opened member) inside k own in
        let n : length (filter_map as_method seat.earlier) ≡ one.fits.at = some_is _ _ (ap number_of (sym p ∙ placed q f)) in
        some_is k z.method (sym at ∙ ap (λ (i : ℕ). slice_get own_head.methods i) n ∙ one.fits.method_there)

    by_part : (q : MemberPart) → member.part ≡ q → IsBodyOf m own_head member z.method
    by_part (part.Field t static) f = absurd (false≢true (ap (λ (p : TypedPart). is_some (number_of p)) (placed (part.Field t static) f)))
    by_part (part.Constructor args block) f = absurd (false≢true (ap (λ (p : TypedPart). is_some (number_of p)) (placed (part.Constructor args block) f)))
    by_part (part.Static result block) f =
        let q = method_is (part.Static result block) f _ refl refl in
        absurd (not_static member.is_private (ap (λ (k : IfaceMethod). classes.is_body k.kind) q ∙ one.fits.kind))
    by_part (part.Abstract result) f =
        let q = method_is (part.Abstract result) f _ refl refl in
        absurd (false≢true (ap (λ (k : IfaceMethod). classes.is_body k.kind) q ∙ one.fits.kind))
    by_part (part.Body result guard block) f =
        let q = method_is (part.Body result guard block) f _ refl refl in record {
          body = ap is_body f;
          name = ap (λ (k : IfaceMethod). k.name) q ∙ one.fits.name;
          count = sym (length_map (λ (p : Param). p.ty) member.params) ∙ ap (λ (k : IfaceMethod). length k.params) q;
          there_is = in_get own_head.methods one.fits.at z.method one.fits.method_there;
          descriptor = one.fits.descriptor;
        }

  module _ (fits : (k : IfaceMethod) → In k own_head.methods → method_fits k ≡ true) where
    again : (a b : Member) (k l : IfaceMethod) → IsBodyOf m own_head a k → IsBodyOf m own_head b l → is_again a b ≡ true
    again a b k l x y =
        let names : same a.name b.name ≡ true = ap (λ w. same w b.name) (x.name ∙ sym y.name) ∙ same_refl b.name in
        let counts : length a.params ≡ length b.params = x.count ∙ same_count k l (fits k x.there_is) (fits l y.there_is) (x.descriptor ∙ sym y.descriptor) ∙ sym y.count in
        and_so (is_body a.part && is_body b.part && same a.name b.name) (length a.params == length b.params)
        (and_so (is_body a.part && is_body b.part) (same a.name b.name) (and_so (is_body a.part) (is_body b.part) x.body y.body) names)
        (eq-eqb (length a.params) (length b.params) counts)

    one_passes : (earlier ms : List Member) (ts : List TypedMember) → EachMade (seats heads d earlier (map opened ms)) ts → ((x : Seat × Opened) → In x (seats heads d earlier (map opened ms)) → In x (seats_of heads (open_decl d))) →
        has_lone_bodies ms ≡ true → (x y : Candidate) (zs : List Candidate) → filter_map named ts ≡ x ∷ y ∷ zs → ⊥
    one_passes earlier [] [] made inside h x y zs e = absurd cc
    one_passes earlier [] (t ∷ ts) made inside h x y zs e = made
    one_passes earlier (n ∷ ns) [] made inside h x y zs e = made
    one_passes earlier (n ∷ ns) (t ∷ ts) made inside h x y zs e = by_first (named t) refl e
        (λ e. one_passes (earlier ++ n ∷ []) ns ts made.1 (λ x i. inside x (there i)) (second_true (not (list_any (is_again n) ns)) (has_lone_bodies ns) h) x y zs e) where
          rest : List (Seat × Opened)
          rest = seats heads d (earlier ++ n ∷ []) (map opened ns)

          seat : Seat
          seat = record { heads = heads; decl = d; earlier = earlier }

          none_again : list_any (is_again n) ns ≡ false
          none_again = not_so (list_any (is_again n) ns) (first_true (not (list_any (is_again n) ns)) (has_lone_bodies ns) h)

          -- a second one would be of the family
          second : (z : Candidate) → named t ≡ Some z → In y (filter_map named ts) → ⊥
          second z f i =
              let g = in_filter named ts y i in
              let s = made_at rest ts made.1 g.0 g.1 in
              let o = is_opened ns s.0.1 (seat_is heads d (earlier ++ n ∷ []) (map opened ns) s.0 s.1).2 in
              let at : In (s.0.0, opened o.0) rest = subst (λ (x : Opened). In (s.0.0, x) rest) (sym o.2) s.1 in
              let is : made_member s.0.0 (opened o.0) ≡ Some g.0 = ap (λ (x : Opened). made_member s.0.0 x) o.2 ∙ s.2 in
              let a = body_of_member seat n (inside (seat, opened n) here) t made.0 z f in
              let b = body_of_member s.0.0 o.0 (inside (s.0.0, opened o.0) (there at)) g.0 is y g.2 in
              false≢true (sym none_again ∙ any_from_in (is_again n) o.1 (again n o.0 z.method y.method a b))

          by_first : (o : Option Candidate) → named t ≡ o → cons_option o (filter_map named ts) ≡ x ∷ y ∷ zs → (filter_map named ts ≡ x ∷ y ∷ zs → ⊥) → ⊥
          by_first None f e rec = rec e
          by_first (Some z) f e rec =
              let behind : filter_map named ts ≡ y ∷ zs = cc in
              second z f (subst (λ (l : List Candidate). In y l) (sym behind) here)

    -- the constructor that isn't written is no body
    without_default : (ms : List TypedMember) → filter_map named (with_default d ms) ≡ filter_map named ms
    without_default ms = by_kind d.is_interface where
      by_written : (b : Bool) → filter_map named (if b then ms ++ default_constructor ∷ [] else ms) ≡ filter_map named ms
      by_written true = filter_map-append named ms (default_constructor ∷ []) ∙ append-nil (filter_map named ms)
      by_written false = refl

      by_kind : (b : Bool) → filter_map named (cond b ms (if has_no_constructor d then ms ++ default_constructor ∷ [] else ms)) ≡ filter_map named ms
      by_kind true = refl
      by_kind false = by_written (has_no_constructor d)

    pub lone_body : has_lone_bodies d.members ≡ true → (c : TypedClass) → made_class heads (open_decl d) ≡ Some c → (x y : Candidate) (zs : List Candidate) → methods_in classes.is_body m c ≡ x ∷ y ∷ zs → ⊥
    lone_body h c e x y zs f =
        let hs = head_is heads d c e in
        let g = each_made (seats_of heads (open_decl d)) [] hs.1.0 hs.1.1 in
        let made : EachMade (seats_of heads (open_decl d)) hs.1.0 = subst (EachMade (seats_of heads (open_decl d))) (sym g.1) g.2 in
        one_passes [] d.members hs.1.0 made (λ x i. i) h x y zs
        (sym (without_default hs.1.0) ∙ ap (filter_map named) (sym hs.1.2) ∙ ap (λ (k : Iface). filter_map (as_named classes.is_body m k) c.members) (sym hs.0) ∙ f)
