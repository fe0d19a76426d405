-- What members with statements are called.
use Rattle.std.proofs.Common.{◌≡◌, ◌⊎◌, ℕ, Bool, true, false, List, [], ◌∷◌, ◌++◌, map, length, Option, Some, refl, sym, ap, ◌∙◌, subst, inl, inr}
use Rattle.std.specs.Prelude.{◌||◌, slice_get, codes, option_and_then}
use Rattle.std.specs.List.{filter_map, cons_option}
use Rattle.std.specs.Option.{option_map}
use Rattle.std.proofs.lemmas.Bool.{false≢true}
use Rattle.std.proofs.lemmas.List.{append_assoc}
use Rattle.std.proofs.lemmas.List.Elements.{filter_map-append}
use Rattle.jp_pred.specs.declared.ty.Ty.{Ty}
use Rattle.jp_pred.specs.declared.ty.Ty.TheVariants as ty
use Rattle.jp_pred.specs.Names.{In}
use Rattle.jp_pred.proofs.Entries.{split_in}
use Rattle.iface_codec.specs.declared.iface.Iface.{Iface}
use Rattle.iface_codec.specs.declared.iface.IfaceMethod.{IfaceMethod}
use Rattle.iface_codec.specs.declared.iface.MethodKind.{MethodKind}
use Rattle.iface_codec.specs.declared.iface.MethodKind.TheVariants as kind
use Rattle.jp_ast.specs.declared.decl.Decl.{Decl}
use Rattle.jp_ast.specs.declared.decl.Member.{Member}
use Rattle.jp_ast.specs.declared.decl.MemberPart.{MemberPart}
use Rattle.jp_ast.specs.declared.decl.MemberPart.TheVariants as part
use Rattle.jp_meaning.specs.declared.unit.TypedMember.{TypedMember}
use Rattle.jp_meaning.specs.declared.unit.TypedPart.TheVariants as typed
use Rattle.jp_meaning.specs.Descriptors.{method_descriptor}
use Rattle.jp_meaning.specs.Classes.{is_body, is_static}
use Rattle.type_rules.specs.Heads.{as_constructor, constructor_part, as_method, method_part, param_types, or_default}
use Rattle.type_rules.specs.Units.{Seat, Opened, opened, open_decl, seats, seats_of, entry_of, resolved_head, place_in, made_member}
use Rattle.gen_laws.specs.Compiled.{Name, name_of_method, name_of_part}
use Rattle.calls_fit.proofs.Named.{some_is, none_is, in_get}
use Rattle.typed_fits.proofs.MemberFits.{as_own, stands_at}
use Rattle.plain_form.specs.Families as families
use Rattle.plain_laws.proofs.MainMethod.{private_too}
use Rattle.plain_laws.proofs.Resolved.{made_part, placed_by}

-- A member is a method of the class with that name and descriptor; it is a body where it isn't static
pub record IsMethod (heads : List Iface) (d : Decl) (seat : Seat) (m : Member) (name : Name) : Type 0 where
  pub method : IfaceMethod
  pub own : as_own (seat, opened m) ≡ Some method
  pub there : In method (resolved_head heads (open_decl d)).methods
  pub named : method.name ≡ name.name
  pub described : method_descriptor method.params method.result ≡ name.descriptor
  pub name_is : method.name ≡ m.name
  pub params_are : method.params ≡ param_types m
  pub body : is_static method.kind ≡ false → families.is_body m.part ≡ true

-- a member is a constructor of the class with that descriptor
pub record IsMaker (heads : List Iface) (d : Decl) (m : Member) (name : Name) : Type 0 where
  pub params : List Ty
  pub own : as_constructor m ≡ Some params
  pub there : In params (resolved_head heads (open_decl d)).constructors
  pub named : codes "<init>" ≡ name.name
  pub described : method_descriptor params ty.Void ≡ name.descriptor

-- a method that has a name is static or a body
named_method : (name : Name) (q : MethodKind) (k : IfaceMethod) → name_of_method q k ≡ Some name → (k.name ≡ name.name) × (method_descriptor k.params k.result ≡ name.descriptor) × ((is_static q || is_body q) ≡ true)
named_method name kind.Abstract k e = none_is name e
named_method name kind.Body k e = let q = some_is _ name e in (ap (λ (n : Name). n.name) q, ap (λ (n : Name). n.descriptor) q, refl)
named_method name kind.Static k e = let q = some_is _ name e in (ap (λ (n : Name). n.name) q, ap (λ (n : Name). n.descriptor) q, refl)
named_method name kind.PrivateStatic k e = let q = some_is _ name e in (ap (λ (n : Name). n.name) q, ap (λ (n : Name). n.descriptor) q, refl)

-- CONSTRUCTORS

get_behind : {X : Type 0} (xs : List X) (y : X) (ys : List X) → slice_get (xs ++ y ∷ ys) (length xs) ≡ Some y
get_behind [] y ys = refl
get_behind (x ∷ xs) y ys = get_behind xs y ys

-- a constructor stands behind as many as there are before it
maker_at : (heads : List Iface) (d : Decl) (earlier ms : List Member) (x : Seat × Opened) → In x (seats heads d earlier (map opened ms)) → (params : List Ty) → as_constructor x.1.member ≡ Some params →
    slice_get (filter_map as_constructor (earlier ++ ms)) (length (filter_map as_constructor x.0.earlier)) ≡ Some params
maker_at heads d earlier [] x i params e = elim i [ ]
maker_at heads d earlier (m ∷ ms) x i params e = elim (split_in first x (seats heads d (earlier ++ m ∷ []) (map opened ms)) i) [
  | inl q ↦ subst (λ (z : Seat × Opened). as_constructor z.1.member ≡ Some params → slice_get (filter_map as_constructor (earlier ++ m ∷ ms)) (length (filter_map as_constructor z.0.earlier)) ≡ Some params) q
      (λ e. ap (λ (l : List (List Ty)). slice_get l (length (filter_map as_constructor earlier))) (filter_map-append as_constructor earlier (m ∷ ms) ∙ ap (λ (o : Option (List Ty)). filter_map as_constructor earlier ++ cons_option o (filter_map as_constructor ms)) e)
      ∙ get_behind (filter_map as_constructor earlier) params (filter_map as_constructor ms)) e
  | inr j ↦ ap (λ (l : List Member). slice_get (filter_map as_constructor l) (length (filter_map as_constructor x.0.earlier))) (sym (append_assoc earlier (m ∷ []) ms)) ∙ maker_at heads d (earlier ++ m ∷ []) ms x j params e
] where
  first : Seat × Opened
  first = (record { heads = heads; decl = d; earlier = earlier }, opened m)

or_default_at : (b : Bool) (all : List (List Ty)) (n : ℕ) (params : List Ty) → slice_get all n ≡ Some params → slice_get (or_default b all) n ≡ Some params
or_default_at true all n params e = e
or_default_at false [] n params e = none_is params e
or_default_at false (ps ∷ all) n params e = e

named_maker : (name : Name) (o : Option (List Ty)) (params : List Ty) → o ≡ Some params → option_map (λ params. let n : Name = record { name = codes "<init>"; descriptor = method_descriptor params ty.Void } in n) o ≡ Some name →
    (codes "<init>" ≡ name.name) × (method_descriptor params ty.Void ≡ name.descriptor)
named_maker name o params f e =
    let maker : List Ty → Name = λ params. record { name = codes "<init>"; descriptor = method_descriptor params ty.Void } in
    let q = some_is (maker params) name (sym (ap (option_map maker) f) ∙ e) in
    (ap (λ (n : Name). n.name) q, ap (λ (n : Name). n.descriptor) q)

-- MEMBERS

module _ (heads : List Iface) (d : Decl) (s : Seat) (m : Member) (i : In (s, opened m) (seats_of heads (open_decl d))) (name : Name) where
  abbrev own_head : Iface
  own_head = resolved_head heads (open_decl d)

  abbrev Called : Type 0
  Called = IsMethod heads d s m name ⊎ IsMaker heads d m name

  as_method_of : (q : MemberPart) → m.part ≡ q → (k : IfaceMethod) → method_part (entry_of s (opened m)) m q ≡ Some k → k.name ≡ m.name → k.params ≡ param_types m → (is_static k.kind ≡ false → is_body k.kind ≡ true → families.is_body q ≡ true) →
      name_of_part own_head (typed.Method (length (filter_map as_method s.earlier))) ≡ Some name → Called
  as_method_of q p k f n ps b e =
      let own : as_own (s, opened m) ≡ Some k = ap (method_part (entry_of s (opened m)) m) p ∙ f in
      let at : slice_get own_head.methods (length (filter_map as_method s.earlier)) ≡ Some k = stands_at heads d [] (map opened d.members) [] refl (s, opened m) i k own in
      let g = named_method name k.kind k (sym (ap (λ (o : Option IfaceMethod). option_and_then (λ k. name_of_method k.kind k) o) at) ∙ e) in
      inl (record {
        method = k;
        own = own;
        there = in_get own_head.methods (length (filter_map as_method s.earlier)) k at;
        named = g.0;
        described = g.1;
        name_is = n;
        params_are = ps;
        body = λ h. ap families.is_body p ∙ b h (sym (ap (λ (t : Bool). t || is_body k.kind) h) ∙ g.2);
      })

  as_maker_of : (params : List Ty) → as_constructor m ≡ Some params → name_of_part own_head (typed.Constructor (length (filter_map as_constructor s.earlier))) ≡ Some name → Called
  as_maker_of params own e =
      let n : ℕ = length (filter_map as_constructor s.earlier) in
      let at : slice_get own_head.constructors n ≡ Some params = or_default_at d.is_interface (filter_map as_constructor d.members) n params (maker_at heads d [] d.members (s, opened m) i params own) in
      let g = named_maker name (slice_get own_head.constructors n) params at e in
      inr (record { params = params; own = own; there = in_get own_head.constructors n params at; named = g.0; described = g.1 })

  pub called : (t : TypedMember) → made_member s (opened m) ≡ Some t → name_of_part own_head t.part ≡ Some name → IsMethod heads d s m name ⊎ IsMaker heads d m name
  called t made e = by_part m.part refl (sym (ap (name_of_part own_head) (made_part s (opened m) t made)) ∙ e) where
    placed : (q : MemberPart) → m.part ≡ q → name_of_part own_head (place_in s.earlier m) ≡ Some name → name_of_part own_head (placed_by s.earlier m q) ≡ Some name
    placed q p e = sym (ap (λ (r : MemberPart). name_of_part own_head (placed_by s.earlier m r)) p) ∙ e

    by_part : (q : MemberPart) → m.part ≡ q → name_of_part own_head (place_in s.earlier m) ≡ Some name → Called
    by_part (part.Field t static) p e = none_is name (placed (part.Field t static) p e)
    by_part (part.Static result block) p e =
        as_method_of (part.Static result block) p _ refl refl refl (λ h b. absurd (false≢true (sym h ∙ private_too m.is_private))) (placed (part.Static result block) p e)
    by_part (part.Abstract result) p e = as_method_of (part.Abstract result) p _ refl refl refl (λ h b. absurd (false≢true b)) (placed (part.Abstract result) p e)
    by_part (part.Body result when block) p e = as_method_of (part.Body result when block) p _ refl refl refl (λ h b. refl) (placed (part.Body result when block) p e)
    by_part (part.Constructor args block) p e = as_maker_of (param_types m) (ap (constructor_part m) p) (placed (part.Constructor args block) p e)
