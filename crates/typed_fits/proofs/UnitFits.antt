-- A unit without a fault has classes that fit.
use Rattle.std.proofs.Common.{◌≡◌, ◌⊎◌, ℕ, Bool, true, false, cond, List, [], ◌∷◌, ◌++◌, map, Option, Some, None, refl, sym, ap, ◌∙◌, subst, inl, inr}
use Rattle.std.specs.Prelude.{◌&&◌, ◌||◌, not, if◌then◌else◌, slice_get, unwrap_or}
use Rattle.std.specs.List.{list_all, filter_map, cons_option}
use Rattle.std.specs.Option.{option_map, option_map_or, option_and_then, option_to_list}
use Rattle.std.proofs.lemmas.Bool.{false≢true}
use Rattle.std.proofs.lemmas.List.{append-nil, append_assoc}
use Rattle.jp_pred.specs.declared.ty.Ty.{Ty}
use Rattle.jp_pred.specs.declared.path.Path.{Path}
use Rattle.jp_pred.specs.declared.hier.Hier.{Hier}
use Rattle.jp_pred.specs.declared.hier.SeenClass.{SeenClass}
use Rattle.jp_pred.specs.Names.{Word, In, here, there, same, object}
use Rattle.jp_pred.specs.Hierarchy.{class_named, named_of, or_none, parents, Ascends, stop, up, IsAboveItself, HasNoCycle}
use Rattle.jp_pred.proofs.Ascents.{same_true, same_refl}
use Rattle.jp_pred.proofs.Cycles.{in_map_back, none_above}
use Rattle.jp_pred.proofs.Entries.{in_left, in_append, split_in}
use Rattle.jp_pred.proofs.Visits.{true_or_false, in_right}
use Rattle.iface_codec.specs.declared.iface.Iface.{Iface}
use Rattle.iface_codec.specs.declared.iface.IfaceMethod.{IfaceMethod}
use Rattle.iface_codec.specs.Hierarchy.{seen_class, hier_of}
use Rattle.jp_ast.specs.declared.decl.Decl.{Decl}
use Rattle.jp_ast.specs.declared.decl.Member.{Member}
use Rattle.jp_ast.specs.declared.decl.MemberPart.{MemberPart}
use Rattle.jp_ast.specs.declared.decl.MemberPart.TheVariants as part
use Rattle.jp_store.specs.Classes.{object_name}
use Rattle.jp_meaning.specs.declared.unit.TypedMember.{TypedMember}
use Rattle.jp_meaning.specs.declared.unit.TypedClass.{TypedClass}
use Rattle.jp_meaning.specs.declared.unit.TypedUnit.{TypedUnit}
use Rattle.jp_meaning.specs.Descriptors.{internal_name, word_of}
use Rattle.jp_meaning.specs.Classes.{class_in, hier_in}
use Rattle.jp_meaning.specs.Run.{Program}
use Rattle.type_rules.specs.declared.scope.Scope.{Scope}
use Rattle.type_rules.specs.Types.{io}
use Rattle.type_rules.specs.Heads.{object_head, io_head, own_heads, as_method, as_method_with, method_part, head, heads_of, head_of, is_concrete, superclass_of}
use Rattle.type_rules.specs.Names.{concrete_super}
use Rattle.type_rules.specs.RulesOfDeclarations.{is_open, has_no_constructor}
use Rattle.type_rules.specs.Units.{Opened, OpenDecl, Seat, opened, open_decl, body_scope, made_member, seats_of, entry_of, resolved_head, default_constructor, with_default, made_members, made_class, made_classes, unit_in, visits_from}
use Rattle.type_rules.proofs.Ways.{above_itself}
use Rattle.gen_body.specs.Names.{are_nameable}
use Rattle.whole_program.specs.Fits.{is_whole}
use Rattle.calls_fit.specs.Fitting.{method_fits, member_fits, is_whole_above, ClassFits, ProgramFits}
use Rattle.calls_fit.proofs.Named.{some_is, none_is, first_true, second_true, first_of, second_of, in_get, all_in, in_filter}
use Rattle.calls_fit.proofs.Members.{calls_fit}
use Rattle.typed_fits.specs.Laws.{has_plain_names, TypedTreesFit, TypedCallsFit}
use Rattle.typed_fits.proofs.Looking.{AreNameable, head_in, find_in}
use Rattle.typed_fits.proofs.SeenFits.{and_so}
use Rattle.typed_fits.proofs.FlowFits.{OnMade}
use Rattle.typed_fits.proofs.MemberFits.{as_own, stands_at, seat_is, own_receiver, fit_member}
use Rattle.typed_fits.proofs.Rules.{AllKeep, all_keep, turned, no_object, no_io, Standing, standing, first_head}

-- WHAT IS MADE OF DECLARATIONS

pub data Made (heads : List Iface) : List Decl → List TypedClass → Type 0 where
  none : Made heads [] []
  one : {d : Decl} {ds : List Decl} {c : TypedClass} {cs : List TypedClass} → made_class heads (open_decl d) ≡ Some c → Made heads ds cs → Made heads (d ∷ ds) (c ∷ cs)

no_classes : (heads : List Iface) (ds : List OpenDecl) (cs : List TypedClass) → made_classes heads None ds ≡ Some cs → ⊥
no_classes heads [] cs e = none_is cs e
no_classes heads (d ∷ ds) cs e = no_classes heads ds cs e

pub all_made : (heads : List Iface) (ds : List Decl) (done cs : List TypedClass) → made_classes heads (Some done) (map open_decl ds) ≡ Some cs → (more : List TypedClass) × (cs ≡ done ++ more) × Made heads ds more
all_made heads [] done cs e = ([], sym (some_is done cs e) ∙ sym (append-nil done), none)
all_made heads (d ∷ ds) done cs e = by_class (made_class heads (open_decl d)) refl (λ c. all_made heads ds (done ++ c ∷ []) cs) e where
  by_class : (o : Option TypedClass) → made_class heads (open_decl d) ≡ o → ((c : TypedClass) → made_classes heads (Some (done ++ c ∷ [])) (map open_decl ds) ≡ Some cs → (more : List TypedClass) × (cs ≡ (done ++ c ∷ []) ++ more) × Made heads ds more) →
      made_classes heads (option_map (λ c. done ++ c ∷ []) o) (map open_decl ds) ≡ Some cs → (more : List TypedClass) × (cs ≡ done ++ more) × Made heads (d ∷ ds) more
  by_class None f later e = absurd (no_classes heads (map open_decl ds) cs e)
  by_class (Some c) f later e = let g = later c e in (c ∷ g.0, g.1 ∙ append_assoc done (c ∷ []) g.0, one f g.2)

-- the head of a class is that of its declaration
pub head_is : (heads : List Iface) (d : Decl) (c : TypedClass) → made_class heads (open_decl d) ≡ Some c → (c.head ≡ resolved_head heads (open_decl d)) × ((ms : List TypedMember) × (made_members (Some []) (seats_of heads (open_decl d)) ≡ Some ms) × (c.members ≡ with_default d ms))
head_is heads d c e = by_members (made_members (Some []) (seats_of heads (open_decl d))) refl e where
  by_members : (o : Option (List TypedMember)) → made_members (Some []) (seats_of heads (open_decl d)) ≡ o →
      option_map (λ ms. let x : TypedClass = record { head = resolved_head heads (open_decl d); members = with_default d ms } in x) o ≡ Some c →
      (c.head ≡ resolved_head heads (open_decl d)) × ((ms : List TypedMember) × (made_members (Some []) (seats_of heads (open_decl d)) ≡ Some ms) × (c.members ≡ with_default d ms))
  by_members None f e = none_is c e
  by_members (Some ms) f e =
      let x : TypedClass = record { head = resolved_head heads (open_decl d); members = with_default d ms } in
      let q = some_is x c e in
      (ap (λ (z : TypedClass). z.head) (sym q), (ms, f, ap (λ (z : TypedClass). z.members) (sym q)))

-- the class of a name has the flags of its head
made_named : (heads : List Iface) {ds : List Decl} {cs : List TypedClass} → Made heads ds cs → (name : Word) (h : Iface) → head_of (map head ds) name ≡ Some h → (c : TypedClass) × (class_in cs name ≡ Some c) × (c.head.is_abstract ≡ h.is_abstract) × (c.head.is_interface ≡ h.is_interface)
made_named heads none name h e = none_is h e
made_named heads (one {d} {ds} {c} {cs} f m) name h e = by_name (same d.name name) refl (made_named heads m name h) e where
  head_same : c.head ≡ resolved_head heads (open_decl d)
  head_same = first_of (head_is heads d c f)

  by_name : (b : Bool) → same d.name name ≡ b → (head_of (map head ds) name ≡ Some h → (c : TypedClass) × (class_in cs name ≡ Some c) × (c.head.is_abstract ≡ h.is_abstract) × (c.head.is_interface ≡ h.is_interface)) →
      cond b (Some (head d)) (head_of (map head ds) name) ≡ Some h → (x : TypedClass) × (class_in (c ∷ cs) name ≡ Some x) × (x.head.is_abstract ≡ h.is_abstract) × (x.head.is_interface ≡ h.is_interface)
  by_name true g later e =
      let q = some_is (head d) h e in (
        c,
        ap (λ (x : Iface). cond (same x.name name) (Some c) (class_in cs name)) head_same ∙ ap (λ (b : Bool). cond b (Some c) (class_in cs name)) g,
        ap (λ (x : Iface). x.is_abstract) head_same ∙ ap (λ (x : Iface). x.is_abstract) q,
        ap (λ (x : Iface). x.is_interface) head_same ∙ ap (λ (x : Iface). x.is_interface) q,
      )
  by_name false g later e =
      let k = later e in
      (k.0, ap (λ (x : Iface). cond (same x.name name) (Some c) (class_in cs name)) head_same ∙ ap (λ (b : Bool). cond b (Some c) (class_in cs name)) g ∙ k.1, k.2, k.3)

-- each class is made of a declaration, and is the first of its name
pub made_of : (heads : List Iface) (before : List Decl) {ds : List Decl} {cs : List TypedClass} → Made heads ds cs → AllKeep heads before ds → (c : TypedClass) → In c cs →
    (d : Decl) × In d ds × (made_class heads (open_decl d) ≡ Some c) × (class_in cs c.head.name ≡ Some c) × ((e : Decl) → In e before → same e.name c.head.name ≡ false)
made_of heads before none k c i = elim i [ ]
made_of heads before (one {d} {ds} {c = x} {cs} f m) k c i = by_place (made_of heads (before ++ d ∷ []) m k.1 c) (split_in x c cs i) where
  same_head : x.head ≡ resolved_head heads (open_decl d)
  same_head = first_of (head_is heads d x f)

  by_place : (In c cs → (e : Decl) × In e ds × (made_class heads (open_decl e) ≡ Some c) × (class_in cs c.head.name ≡ Some c) × ((y : Decl) → In y (before ++ d ∷ []) → same y.name c.head.name ≡ false)) → (x ≡ c) ⊎ In c cs →
      (e : Decl) × In e (d ∷ ds) × (made_class heads (open_decl e) ≡ Some c) × (class_in (x ∷ cs) c.head.name ≡ Some c) × ((y : Decl) → In y before → same y.name c.head.name ≡ false)
  by_place later (inl q) = subst (λ (z : TypedClass). (e : Decl) × In e (d ∷ ds) × (made_class heads (open_decl e) ≡ Some z) × (class_in (x ∷ cs) z.head.name ≡ Some z) × ((y : Decl) → In y before → same y.name z.head.name ≡ false)) q
      (d, here, f, ap (λ (b : Bool). cond b (Some x) (class_in cs x.head.name)) (same_refl x.head.name), λ y h. ap (λ (z : Iface). same y.name z.name) same_head ∙ second_of (first_head heads before (d ∷ ds) k d here) y h)
  by_place later (inr j) =
      let g = later j in
      (g.0, there g.1, g.2, ap (λ (z : Iface). cond (same z.name c.head.name) (Some x) (class_in cs c.head.name)) same_head ∙ ap (λ (b : Bool). cond b (Some x) (class_in cs c.head.name)) (g.4 d (in_right before here)) ∙ g.3, λ y h. g.4 y (in_left (d ∷ []) h))

-- MEMBERS

all_from : {X : Type 0} (f : X → Bool) (xs : List X) → ((x : X) → In x xs → f x ≡ true) → list_all f xs ≡ true
all_from f [] h = refl
all_from f (x ∷ xs) h = and_so (f x) (list_all f xs) (h x here) (all_from f xs (λ y i. h y (there i)))

more_all : {X : Type 0} (f : X → Bool) (xs : List X) (x : X) → list_all f xs ≡ true → f x ≡ true → list_all f (xs ++ x ∷ []) ≡ true
more_all f [] x h k = and_so (f x) true k refl
more_all f (y ∷ ys) x h k = and_so (f y) (list_all f (ys ++ x ∷ [])) (first_true (f y) (list_all f ys) h) (more_all f ys x (second_true (f y) (list_all f ys) h) k)

no_members : (xs : List (Seat × Opened)) (P : List TypedMember → Type 0) → OnMade P (made_members None xs)
no_members [] P = tt
no_members (x ∷ xs) P = no_members xs P

members_fit : (f : TypedMember → Bool) (xs : List (Seat × Opened)) (done : List TypedMember) → ((x : Seat × Opened) → In x xs → OnMade (λ t. f t ≡ true) (made_member x.0 x.1)) → list_all f done ≡ true → OnMade (λ ts. list_all f ts ≡ true) (made_members (Some done) xs)
members_fit f [] done h k = k
members_fit f (x ∷ xs) done h k = by_member (made_member x.0 x.1) (h x here) (λ t e. members_fit f xs (done ++ t ∷ []) (λ y i. h y (there i)) (more_all f done t k e)) where
  by_member : (o : Option TypedMember) → OnMade (λ t. f t ≡ true) o → ((t : TypedMember) → f t ≡ true → OnMade (λ ts. list_all f ts ≡ true) (made_members (Some (done ++ t ∷ [])) xs)) →
      OnMade (λ ts. list_all f ts ≡ true) (made_members (option_map (λ t. done ++ t ∷ []) o) xs)
  by_member None g later = no_members xs (λ ts. list_all f ts ≡ true)
  by_member (Some t) g later = later t g

on_some : {A : Type 0} (P : A → Type 0) (o : Option A) (x : A) → o ≡ Some x → OnMade P o → P x
on_some P o x e h = subst (OnMade P) e h

-- with the constructor that isn't written
default_fits : (p : Program) (h : Iface) (d : Decl) (ms : List TypedMember) → list_all (member_fits p h) ms ≡ true → list_all (member_fits p h) (with_default d ms) ≡ true
default_fits p h d ms k = by_kind d.is_interface where
  by_written : (b : Bool) → list_all (member_fits p h) (if b then ms ++ default_constructor ∷ [] else ms) ≡ true
  by_written true = more_all (member_fits p h) ms default_constructor k refl
  by_written false = k

  by_kind : (b : Bool) → list_all (member_fits p h) (cond b ms (if has_no_constructor d then ms ++ default_constructor ∷ [] else ms)) ≡ true
  by_kind true = k
  by_kind false = by_written (has_no_constructor d)

-- METHODS

in_cons : {Y : Type 0} (o : Option Y) {y : Y} {ys : List Y} → In y ys → In y (cons_option o ys)
in_cons None i = i
in_cons (Some w) i = there i

pub in_filter_to : {X Y : Type 0} (f : X → Option Y) {x : X} {xs : List X} (y : Y) → In x xs → f x ≡ Some y → In y (filter_map f xs)
in_filter_to {Y = Y} f y (here {x} {xs}) e = subst (λ (o : Option Y). In y (cons_option o (filter_map f xs))) (sym e) here
in_filter_to f y (there {x} {y = z} {xs} i) e = in_cons (f z) (in_filter_to f y i e)

-- a method with the aliases that it reads has the types of the one without
same_types : (aliases : List (Path × Ty)) (m : Member) (q : MemberPart) (k : IfaceMethod) → method_part aliases m q ≡ Some k → (j : IfaceMethod) × (method_part [] m q ≡ Some j) × (method_fits j ≡ method_fits k)
same_types aliases m (part.Field t static) k e = none_is k e
same_types aliases m (part.Static result block) k e = (_, refl, ap method_fits (some_is _ k e))
same_types aliases m (part.Abstract result) k e = (_, refl, ap method_fits (some_is _ k e))
same_types aliases m (part.Body result guard block) k e = (_, refl, ap method_fits (some_is _ k e))
same_types aliases m (part.Constructor args block) k e = none_is k e

pub is_opened : (ms : List Member) (x : Opened) → In x (map opened ms) → (m : Member) × In m ms × (opened m ≡ x)
is_opened ms x i = in_map_back opened ms x i

-- the methods of a class can be named, as those of its declaration
methods_fit : (heads : List Iface) (d : Decl) → list_all method_fits (head d).methods ≡ true → list_all method_fits (resolved_head heads (open_decl d)).methods ≡ true
methods_fit heads d h = all_from method_fits (filter_map as_own (seats_of heads (open_decl d))) (λ k i.
    let g = in_filter as_own (seats_of heads (open_decl d)) k i in
    let at = seat_is heads d [] (map opened d.members) g.0 g.1 in
    let m = is_opened d.members g.0.1 at.2 in
    let own : as_method_with (entry_of g.0.0 g.0.1) m.0 ≡ Some k = ap (λ (x : Opened). as_method_with (entry_of g.0.0 g.0.1) x.member) m.2 ∙ g.2 in
    let j = same_types (entry_of g.0.0 g.0.1) m.0 m.0.part k own in
    sym j.2 ∙ all_in method_fits (head d).methods h (in_filter_to as_method j.0 m.1 j.1))

-- THE HEADS

pub plain_heads : (ds : List Decl) → list_all has_plain_names ds ≡ true → (h : Iface) → In h (map head ds) → (d : Decl) × In d ds × (head d ≡ h) × (has_plain_names d ≡ true)
plain_heads ds plain h i = let g = in_map_back head ds h i in (g.0, g.1, g.2, all_in has_plain_names ds plain g.1)

pub plain_methods : (d : Decl) → has_plain_names d ≡ true → (list_all method_fits (head d).methods ≡ true) × (list_all are_nameable (head d).constructors ≡ true)
plain_methods d h =
    let rest = second_true (not (same d.name object_name)) (list_all method_fits (head d).methods && list_all are_nameable (head d).constructors) h in
    (first_true (list_all method_fits (head d).methods) (list_all are_nameable (head d).constructors) rest, second_true (list_all method_fits (head d).methods) (list_all are_nameable (head d).constructors) rest)

in_heads : (ds : List Decl) (h : Iface) → In h (heads_of ds []) → (h ≡ object_head) ⊎ ((h ≡ io_head) ⊎ In h (map head ds))
in_heads ds h i = elim (split_in object_head h (io_head ∷ (map head ds ++ [])) i) [
  | inl q ↦ inl (sym q)
  | inr j ↦ elim (split_in io_head h (map head ds ++ []) j) [
    | inl q ↦ inr (inl (sym q))
    | inr k ↦ inr (inr (subst (λ (xs : List Iface). In h xs) (append-nil (map head ds)) k))
  ]
]

all_nameable : (ds : List Decl) → list_all has_plain_names ds ≡ true → AreNameable (heads_of ds [])
all_nameable ds plain h i = elim (in_heads ds h i) [
  | inl q ↦ inr (subst (λ (x : Iface). (list_all method_fits x.methods ≡ true) × (list_all are_nameable x.constructors ≡ true)) (sym q) (refl, refl))
  | inr r ↦ elim r [
    | inl q ↦ inl q
    | inr j ↦ let g = plain_heads ds plain h j in inr (subst (λ (x : Iface). (list_all method_fits x.methods ≡ true) × (list_all are_nameable x.constructors ≡ true)) g.2 (plain_methods g.0 g.3))
  ]
]

-- SUPERCLASSES

concrete_is : (a b : Bool) → (not a && not b) ≡ true → not (b || a) ≡ true
concrete_is true b e = absurd (false≢true e)
concrete_is false true e = absurd (false≢true e)
concrete_is false false e = refl

pub not_so : (b : Bool) → not b ≡ true → b ≡ false
not_so true e = absurd (false≢true e)
not_so false e = refl

open_io : option_map_or is_open (head_of own_heads io) false ≡ false
open_io = refl

module _ (p : Program) (ds : List Decl) (made : Made (heads_of ds []) ds p.classes) (keep : AllKeep (heads_of ds []) [] ds) (plain : list_all has_plain_names ds ≡ true) where
  abbrev heads : List Iface
  heads = heads_of ds []

  -- a declaration is found by its name
  pub found_head : (d : Decl) → In d ds → head_of heads d.name ≡ Some (head d)
  found_head d i =
      let st = standing heads [] ds keep d i in
      ap (λ (b : Bool). cond b (Some object_head) (cond (same io d.name) (Some io_head) (head_of (map head ds ++ []) d.name))) (no_object heads st.before d st.keeps)
      ∙ ap (λ (b : Bool). cond b (Some io_head) (head_of (map head ds ++ []) d.name)) (no_io heads st.before d st.keeps)
      ∙ ap (λ (hs : List Iface). head_of hs d.name) (append-nil (map head ds)) ∙ first_of (first_head heads [] ds keep d i)

  -- a class of which objects can be made, other than Object and Io, is one of the program's
  whole_class : (h : Iface) → In h heads → (name : Word) → head_of heads name ≡ Some h → same h.name object ≡ false → same h.name io ≡ false → is_concrete h ≡ true → is_whole p name ≡ true
  whole_class h i name e no_o no_i concrete =
      let name_is : h.name ≡ name = second_of (head_in heads name h e) in
      let o : same object name ≡ false = turned name object (subst (λ (x : Word). same x object ≡ false) name_is no_o) in
      let j : same io name ≡ false = turned name io (subst (λ (x : Word). same x io ≡ false) name_is no_i) in
      let own : head_of (map head ds) name ≡ Some h =
      ap (λ (hs : List Iface). head_of hs name) (sym (append-nil (map head ds)))
      ∙ sym (ap (λ (b : Bool). cond b (Some io_head) (head_of (map head ds ++ []) name)) j)
      ∙ sym (ap (λ (b : Bool). cond b (Some object_head) (cond (same io name) (Some io_head) (head_of (map head ds ++ []) name))) o) ∙ e in
      let c = made_named heads made name h own in
      ap (λ (x : Option TypedClass). option_map_or (λ c. not (c.head.is_abstract || c.head.is_interface)) x false) c.1
      ∙ ap (λ (b : Bool). not (b || c.0.head.is_interface)) c.2 ∙ ap (λ (b : Bool). not (h.is_abstract || b)) c.3 ∙ concrete_is h.is_interface h.is_abstract concrete

  -- the name of a class that isn't Object's name in code is what it means there
  own_word : (name : Word) → same name object ≡ false → same name object_name ≡ false → word_of (internal_name name) ≡ name
  own_word name o n = ap (λ (b : Bool). word_of (if b then object_name else name)) o ∙ ap (λ (b : Bool). if b then object else name) n

  plain_name : (h : Iface) → In h heads → same h.name object ≡ false → same h.name object_name ≡ false
  plain_name h i o = elim (in_heads ds h i) [
    | inl q ↦ absurd (false≢true (sym o ∙ ap (λ (x : Iface). same x.name object) q ∙ same_refl object))
    | inr r ↦ elim r [
      | inl q ↦ ap (λ (x : Iface). same x.name object_name) q
      | inr j ↦ let g = plain_heads ds plain h j in
          ap (λ (x : Iface). same x.name object_name) (sym g.2) ∙ not_so (same g.0.name object_name) (first_true (not (same g.0.name object_name)) (list_all method_fits (head g.0).methods && list_all are_nameable (head g.0).constructors) g.3)
    ]
  ]

  -- Io isn't extended
  no_io_above : (d : Decl) → In d ds → (name : Word) → superclass_of d ≡ Some name → same name object ≡ false → same name io ≡ false
  no_io_above d i name e o = by_kind d.is_interface e where
    st : Standing heads ds d
    st = standing heads [] ds keep d i

    by_super : (s : Option Word) → d.superclass ≡ s → Some (unwrap_or s object) ≡ Some name → same name io ≡ false
    by_super None f e = absurd (false≢true (sym o ∙ ap (λ (x : Word). same x object) (sym (some_is object name e)) ∙ same_refl object))
    by_super (Some above) f e = elim (true_or_false (same name io)) [
      | inl t ↦ absurd (false≢true (sym (ap (λ (s : Option Word). option_map_or (λ name. not (option_map_or is_open (head_of heads name) false)) s false) (sym (f ∙ e ∙ ap Some (same_true name io t))) ∙ st.keeps.above)))
      | inr g ↦ g
    ]

    by_kind : (b : Bool) → cond b None (Some (unwrap_or d.superclass object)) ≡ Some name → same name io ≡ false
    by_kind true e = none_is name e
    by_kind false e = by_super d.superclass refl e

  -- the superclass whose families are called
  above_whole : (d : Decl) → In d ds → (h : Iface) → (c : Scope) → c.heads ≡ heads → c.class ≡ d.name → concrete_super c ≡ Some h → is_whole_above p (resolved_head heads (open_decl d)) (word_of (internal_name h.name)) ≡ true
  above_whole d i h c eh ec e = by_super (superclass_of d) refl
      (sym (ap (λ (hs : List Iface). option_and_then test (option_and_then (head_of hs) (option_and_then (λ h. h.superclass) (head_of hs c.class)))) eh
      ∙ ap (λ (w : Word). option_and_then test (option_and_then (head_of heads) (option_and_then (λ h. h.superclass) (head_of heads w)))) ec
      ∙ ap (λ (o : Option Iface). option_and_then test (option_and_then (head_of heads) (option_and_then (λ h. h.superclass) o))) (found_head d i)) ∙ e) where
        test : Iface → Option Iface
        test h = if is_concrete h && not (same h.name object) then Some h else None

        by_test : (name : Word) → superclass_of d ≡ Some name → (x : Iface) → head_of heads name ≡ Some x → (b : Bool) → (is_concrete x && not (same x.name object)) ≡ b → (if b then Some x else None) ≡ Some h → is_whole_above p (resolved_head heads (open_decl d)) (word_of (internal_name h.name)) ≡ true
        by_test name es x ex true t q = subst (λ (h : Iface). is_whole_above p (resolved_head heads (open_decl d)) (word_of (internal_name h.name)) ≡ true) (some_is x h q)
            (let g = head_in heads name x ex in
            let o : same x.name object ≡ false = not_so (same x.name object) (second_true (is_concrete x) (not (same x.name object)) t) in
            let o' : same name object ≡ false = subst (λ (w : Word). same w object ≡ false) g.1 o in
            let i' : same name io ≡ false = no_io_above d i name es o' in
            let word : word_of (internal_name x.name) ≡ name = own_word x.name o (plain_name x g.0 o) ∙ g.1 in
            ap (λ (w : Word). is_whole_above p (resolved_head heads (open_decl d)) w) word
            ∙ and_so (option_map_or (λ s. same s name) (superclass_of d) false) (is_whole p name) (ap (λ (s : Option Word). option_map_or (λ s. same s name) s false) es ∙ same_refl name)
            (whole_class x g.0 name ex o (subst (λ (w : Word). same w io ≡ false) (sym g.1) i') (first_true (is_concrete x) (not (same x.name object)) t)))
        by_test name es x ex false t q = none_is h q

        by_head : (name : Word) → superclass_of d ≡ Some name → (o : Option Iface) → head_of heads name ≡ o → option_and_then test o ≡ Some h → is_whole_above p (resolved_head heads (open_decl d)) (word_of (internal_name h.name)) ≡ true
        by_head name es None ex q = none_is h q
        by_head name es (Some x) ex q = by_test name es x ex (is_concrete x && not (same x.name object)) refl q

        by_super : (o : Option Word) → superclass_of d ≡ o → option_and_then test (option_and_then (head_of heads) o) ≡ Some h → is_whole_above p (resolved_head heads (open_decl d)) (word_of (internal_name h.name)) ≡ true
        by_super None es q = none_is h q
        by_super (Some name) es q = by_head name es (head_of heads name) refl q

  -- WAYS UPWARDS

  abbrev own_hier : Hier
  own_hier = hier_of (map head ds)

  pub seen_found : (hs : List Iface) (name : Word) → class_named name (map seen_class hs) ≡ option_map seen_class (head_of hs name)
  seen_found [] name = refl
  seen_found (h ∷ hs) name = by_name (same h.name name) (seen_found hs name) where
    by_name : (b : Bool) → class_named name (map seen_class hs) ≡ option_map seen_class (head_of hs name) → cond b (Some (seen_class h)) (class_named name (map seen_class hs)) ≡ option_map seen_class (cond b (Some h) (head_of hs name))
    by_name true e = refl
    by_name false e = e

  -- a name of the unit's own classes
  pub own_named : (name : Word) (h : Iface) → head_of (map head ds) name ≡ Some h → (d : Decl) × In d ds × (head d ≡ h) × (d.name ≡ name)
  own_named name h e =
      let g = find_in (λ (x : Iface). same x.name name) (map head ds) h e in
      let d = in_map_back head ds h g.0 in
      (d.0, d.1, d.2, ap (λ (x : Iface). x.name) d.2 ∙ same_true h.name name g.1)

  in_all : (name : Word) (h : Iface) → head_of (map head ds) name ≡ Some h → head_of heads name ≡ Some h
  in_all name h e =
      let g = own_named name h e in
      let st = standing heads [] ds keep g.0 g.1 in
      subst (λ (w : Word). head_of (map head ds) w ≡ Some h → head_of heads w ≡ Some h) g.3
      (λ e. ap (λ (b : Bool). cond b (Some object_head) (cond (same io g.0.name) (Some io_head) (head_of (map head ds ++ []) g.0.name))) (no_object heads st.before g.0 st.keeps)
      ∙ ap (λ (b : Bool). cond b (Some io_head) (head_of (map head ds ++ []) g.0.name)) (no_io heads st.before g.0 st.keeps)
      ∙ ap (λ (hs : List Iface). head_of hs g.0.name) (append-nil (map head ds)) ∙ e) e

  parents_in : (name b : Word) → In b (parents own_hier name) → In b (parents (hier_of heads) name)
  parents_in name b i = by_head (head_of (map head ds) name) refl (subst (λ (o : Option SeenClass). In b (named_of o)) (seen_found (map head ds) name) i) where
    by_head : (o : Option Iface) → head_of (map head ds) name ≡ o → In b (named_of (option_map seen_class o)) → In b (parents (hier_of heads) name)
    by_head None e j = elim j [ ]
    by_head (Some h) e j = subst (λ (o : Option SeenClass). In b (named_of o)) (sym (seen_found heads name ∙ ap (option_map seen_class) (in_all name h e))) j

  ways_in : {a b : Word} → Ascends own_hier a b → Ascends (hier_of heads) a b
  ways_in stop = stop
  ways_in (up {a} {b} {c} i r) = up (parents_in a b i) (ways_in r)

  -- nothing is above Object
  object_top : {a b : Word} → Ascends own_hier a b → a ≡ object → b ≡ object
  object_top stop q = q
  object_top (up {a} {b} {c} i r) q = by_head (head_of (map head ds) a) refl (subst (λ (o : Option SeenClass). In b (named_of o)) (seen_found (map head ds) a) i) where
    by_head : (o : Option Iface) → head_of (map head ds) a ≡ o → In b (named_of (option_map seen_class o)) → c ≡ object
    by_head None e j = elim j [ ]
    by_head (Some h) e j =
        let g = own_named a h e in
        let st = standing heads [] ds keep g.0 g.1 in
        absurd (false≢true (sym (no_object heads st.before g.0 st.keeps) ∙ ap (same object) (g.3 ∙ q) ∙ same_refl object))

  own_parents : (d : Decl) → In d ds → parents own_hier d.name ≡ or_none (superclass_of d) ++ d.interfaces
  own_parents d i = ap named_of (seen_found (map head ds) d.name ∙ ap (option_map seen_class) (first_of (first_head heads [] ds keep d i)))

  -- a parent is one that is written, or Object
  written : (d : Decl) (q : Word) → In q (or_none (superclass_of d) ++ d.interfaces) → (q ≡ object) ⊎ In q (option_to_list d.superclass ++ d.interfaces)
  written d q i = elim (in_append q (or_none (superclass_of d)) d.interfaces i) [
    | inl a ↦ by_kind d.is_interface a
    | inr b ↦ inr (in_right (option_to_list d.superclass) b)
  ] where
    by_super : (s : Option Word) → In q (unwrap_or s object ∷ []) → (q ≡ object) ⊎ In q (option_to_list s ++ d.interfaces)
    by_super None a = elim (split_in object q [] a) [ inl e ↦ inl (sym e) | inr j ↦ elim j [ ] ]
    by_super (Some above) a = elim (split_in above q [] a) [ inl e ↦ inr (subst (λ (w : Word). In w (above ∷ d.interfaces)) e here) | inr j ↦ elim j [ ] ]

    by_kind : (b : Bool) → In q (or_none (cond b None (Some (unwrap_or d.superclass object)))) → (q ≡ object) ⊎ In q (option_to_list d.superclass ++ d.interfaces)
    by_kind true a = elim a [ ]
    by_kind false a = by_super d.superclass a

  not_above : (d : Decl) → In d ds → IsAboveItself own_hier d.name → ⊥
  not_above d i above =
      let st = standing heads [] ds keep d i in
      elim (written d above.0 (subst (λ (xs : List Word). In above.0 xs) (own_parents d i) above.1)) [
        | inl q ↦ false≢true (sym (no_object heads st.before d st.keeps) ∙ ap (same object) (object_top above.2 q) ∙ same_refl object)
        | inr j ↦ false≢true (sym st.keeps.acyclic ∙ (above_itself (record { heads = heads; earlier = st.before; decl = d })).1 (above.0, j, ways_in above.2))
      ]

  pub own_acyclic : HasNoCycle own_hier
  own_acyclic = none_above own_hier (λ c i above.
      let h = in_map_back seen_class (map head ds) c i in
      let d = in_map_back head ds h.0 h.1 in
      not_above d.0 d.1 (subst (IsAboveItself own_hier) (ap (λ (x : SeenClass). x.name) (sym h.2) ∙ ap (λ (x : Iface). x.name) (sym d.2)) above))

  pub seen_same : {es : List Decl} {cs : List TypedClass} → Made heads es cs → map seen_class (map (λ c. c.head) cs) ≡ map seen_class (map head es)
  seen_same none = refl
  seen_same (one {d} {ds = es} {c} {cs} f m) =
      ap (λ (x : Iface). seen_class x ∷ map seen_class (map (λ c. c.head) cs)) (first_of (head_is heads d c f)) ∙ ap (λ (xs : List SeenClass). seen_class (head d) ∷ xs) (seen_same m)

  pub acyclic : HasNoCycle (hier_in p.classes)
  acyclic = subst (λ (xs : List SeenClass). HasNoCycle (record { classes = xs })) (sym (seen_same made)) own_acyclic

  -- CLASSES

  seat_fits : (d : Decl) → In d ds → (seat : Seat) (o : Opened) (m : Member) → opened m ≡ o → In (seat, o) (seats_of heads (open_decl d)) →
      OnMade (λ t. member_fits p (resolved_head heads (open_decl d)) t ≡ true) (made_member seat o)
  seat_fits d inside seat o m q i = subst (λ (o : Opened). In (seat, o) (seats_of heads (open_decl d)) → OnMade (λ t. member_fits p (resolved_head heads (open_decl d)) t ≡ true) (made_member seat o)) q
      (λ i.
      let at = seat_is heads d [] (map opened d.members) (seat, opened m) i in
      let named : AreNameable seat.heads = subst AreNameable (sym at.0) (all_nameable ds plain) in
      let own = own_receiver (resolved_head heads (open_decl d)) seat.earlier m (entry_of seat (opened m)) (λ k e. stands_at heads d [] (map opened d.members) [] refl (seat, opened m) i k e) in
      fit_member p (resolved_head heads (open_decl d)) seat m named (elim own [
        | inl s ↦ inl s
        | inr r ↦ inr (record { nameable = named; static = r; above = λ h e. above_whole d inside h (body_scope seat (opened m)) at.0 (ap (λ (x : Decl). x.name) at.1) e })
      ])) i

  class_fits : (i : ℕ) (c : TypedClass) → slice_get p.classes i ≡ Some c → ClassFits p c
  class_fits i c e =
      let g = made_of heads [] made keep c (in_get p.classes i c e) in
      let hs = head_is heads g.0 c g.2 in
      let ms = hs.1 in
      let st = standing heads [] ds keep g.0 g.1 in
      let plain' = plain_methods g.0 (all_in has_plain_names ds plain g.1) in
      let all = on_some (λ ts. list_all (member_fits p (resolved_head heads (open_decl g.0))) ts ≡ true) (made_members (Some []) (seats_of heads (open_decl g.0))) ms.0 ms.1
      (members_fit (member_fits p (resolved_head heads (open_decl g.0))) (seats_of heads (open_decl g.0)) [] (λ x j.
      let at = seat_is heads g.0 [] (map opened g.0.members) x j in
      let m = is_opened g.0.members x.1 at.2 in
      seat_fits g.0 g.1 x.0 x.1 m.0 m.2 j) refl) in
      record {
        named = ap (λ (h : Iface). same h.name object) hs.0 ∙ turned object g.0.name (no_object heads st.before g.0 st.keeps);
        first = g.3;
        methods = ap (λ (h : Iface). list_all method_fits h.methods) hs.0 ∙ methods_fit heads g.0 plain'.0;
        constructors = ap (λ (h : Iface). list_all are_nameable h.constructors) hs.0 ∙ plain'.1;
        members = ap (λ (h : Iface). list_all (member_fits p h) c.members) hs.0 ∙ ap (list_all (member_fits p (resolved_head heads (open_decl g.0)))) ms.2 ∙ default_fits p (resolved_head heads (open_decl g.0)) g.0 ms.0 all;
      }

  program_fits : ProgramFits p
  program_fits = record { acyclic = acyclic; each = class_fits }

pub unit_classes : (heads : List Iface) (ds : List OpenDecl) (tree : TypedUnit) → unit_in heads ds ≡ Some tree → made_classes heads (Some []) ds ≡ Some tree.classes
unit_classes heads ds tree e = by_classes (made_classes heads (Some []) ds) e where
  by_classes : (o : Option (List TypedClass)) → option_map (λ cs. let x : TypedUnit = record { classes = cs } in x) o ≡ Some tree → o ≡ Some tree.classes
  by_classes None e = none_is tree e
  by_classes (Some cs) e = let x : TypedUnit = record { classes = cs } in ap (λ (y : TypedUnit). Some y.classes) (some_is x tree e)

pub trees_fit : TypedTreesFit
trees_fit unit tree p typed plain e =
    let heads = heads_of unit.decls [] in
    let m = all_made heads unit.decls [] tree.classes (unit_classes heads (map open_decl unit.decls) tree typed.resolved) in
    program_fits p unit.decls (subst (Made heads unit.decls) (sym (e ∙ m.1)) m.2) (all_keep heads [] unit.decls (visits_from heads [] (map open_decl unit.decls)) typed.sound (λ v i. i)) plain

pub typed_fit : TypedCallsFit
typed_fit unit tree p typed plain e = calls_fit p (trees_fit unit tree p typed plain e)
