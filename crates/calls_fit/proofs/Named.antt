-- What is looked up in a program's classes: where it stands, and what is known of it.
use Rattle.std.proofs.Common.{◌≡◌, ℕ, zero, suc, Bool, true, false, List, [], ◌∷◌, ◌++◌, length, Option, Some, None, refl, sym, ap, ◌∙◌, subst, inl, inr}
use Rattle.std.specs.Prelude.{is_some, unwrap_or, option_and_then, slice_get, ◌&&◌, cond, if◌then◌else◌}
use Rattle.std.specs.List.{flat_map, filter_map, list_all, cons_option}
use Rattle.std.specs.Option.{option_map, option_map_or}
use Rattle.std.specs.Str.{bytes_eq}
use Rattle.std.proofs.lemmas.Bool.{false≢true}
use Rattle.std.proofs.lemmas.Slice.Eq.{bytes_eq-Decides}
use Rattle.jp_pred.specs.declared.ty.Ty.{Ty}
use Rattle.jp_pred.specs.declared.ty.Ty.TheVariants as ty
use Rattle.jp_pred.specs.declared.hier.Hier.{Hier}
use Rattle.jp_pred.specs.declared.hier.SeenClass.{SeenClass}
use Rattle.jp_pred.specs.Names.{Word, In, here, there, same}
use Rattle.jp_pred.specs.Hierarchy.{Ascends, stop, up, class_named, named_of, or_none, parents}
use Rattle.jp_pred.proofs.Ascents.{same_true}
use Rattle.jp_pred.proofs.Entries.{in_append, split_in}
use Rattle.iface_codec.specs.declared.iface.Iface.{Iface}
use Rattle.iface_codec.specs.declared.iface.IfaceMethod.{IfaceMethod}
use Rattle.iface_codec.specs.declared.iface.MethodKind.{MethodKind}
use Rattle.iface_codec.specs.Hierarchy.{seen_class}
use Rattle.jp_meaning.specs.declared.unit.TypedPart.{TypedPart}
use Rattle.jp_meaning.specs.declared.unit.TypedPart.TheVariants as part
use Rattle.jp_meaning.specs.declared.unit.TypedMember.{TypedMember}
use Rattle.jp_meaning.specs.declared.unit.TypedClass.{TypedClass}
use Rattle.jp_meaning.specs.Does.{Method}
use Rattle.jp_meaning.specs.Descriptors.{word_of, method_descriptor}
use Rattle.jp_meaning.specs.Classes.{Placed, Candidate, placed, is_body, is_named, as_method, as_named, methods_in, as_constructor, constructor_named, static_named, is_static, class_in, hier_in, upwards, chain_of}

pub some_is : {X : Type 0} (x y : X) → Some x ≡ Some y → x ≡ y
some_is {X = X} x y e = ap (λ (o : Option X). unwrap_or o x) e

pub none_is : {X A : Type 0} (x : X) → None ≡ Some x → A
none_is x e = absurd (false≢true (ap is_some e))

pub first_of : {A B : Type 0} → A × B → A
first_of (a, b) = a

pub second_of : {A B : Type 0} → A × B → B
second_of (a, b) = b

pub both_are : {A B : Type 0} {a b : A} {c d : B} → a ≡ b → c ≡ d → ◌≡◌ {A = A × B} (a, c) (b, d)
both_are {A = A} {B = B} {b = b} {c = c} p q =
    let left : A → A × B = λ x. (x, c) in
    let right : B → A × B = λ y. (b, y) in
    ap left p ∙ ap right q

pub first_true : (a b : Bool) → (a && b) ≡ true → a ≡ true
first_true true b e = refl
first_true false b e = absurd (false≢true e)

pub second_true : (a b : Bool) → (a && b) ≡ true → b ≡ true
second_true true b e = e
second_true false b e = absurd (false≢true e)

-- ITEMS OF LISTS

pub in_get : {X : Type 0} (xs : List X) (i : ℕ) (x : X) → slice_get xs i ≡ Some x → In x xs
in_get [] i x e = none_is x e
in_get {X = X} (y ∷ ys) zero x e = subst (λ (z : X). In z (y ∷ ys)) (some_is y x e) here
in_get (y ∷ ys) (suc i) x e = there (in_get ys i x e)

pub get_in : {X : Type 0} {x : X} {xs : List X} → In x xs → (i : ℕ) × (slice_get xs i ≡ Some x)
get_in here = (0, refl)
get_in (there h) = let g = get_in h in (suc g.0, g.1)

pub all_in : {X : Type 0} (f : X → Bool) (xs : List X) {x : X} → list_all f xs ≡ true → In x xs → f x ≡ true
all_in f [] e h = elim h [ ]
all_in f (y ∷ ys) {x} e h = elim (split_in y x ys h) [
  | inl q ↦ ap f (sym q) ∙ first_true (f y) (list_all f ys) e
  | inr i ↦ all_in f ys (second_true (f y) (list_all f ys) e) i
]

first_or_later : {X Y : Type 0} (f : X → Option Y) (x : X) (xs : List X) (y : Y) (o : Option Y) → f x ≡ o → (In y (filter_map f xs) → (z : X) × In z xs × (f z ≡ Some y)) → In y (cons_option o (filter_map f xs)) → (z : X) × In z (x ∷ xs) × (f z ≡ Some y)
first_or_later f x xs y None e later h = let g = later h in (g.0, there g.1, g.2)
first_or_later {X = X} {Y = Y} f x xs y (Some v) e later h = elim (split_in v y (filter_map f xs) h) [
  | inl q ↦ (x, here, e ∙ ap (λ (v : Y). Some v) q)
  | inr k ↦ let g = later k in (g.0, there g.1, g.2)
]

pub in_filter : {X Y : Type 0} (f : X → Option Y) (xs : List X) (y : Y) → In y (filter_map f xs) → (x : X) × In x xs × (f x ≡ Some y)
in_filter f [] y h = elim h [ ]
in_filter f (x ∷ xs) y h = first_or_later f x xs y (f x) refl (in_filter f xs y) h

pub in_flat : {X Y : Type 0} (f : X → List Y) (xs : List X) (y : Y) → In y (flat_map f xs) → (x : X) × In x xs × In y (f x)
in_flat f [] y h = elim h [ ]
in_flat f (x ∷ xs) y h = elim (in_append y (f x) (flat_map f xs) h) [
  | inl a ↦ (x, here, a)
  | inr b ↦ let g = in_flat f xs y b in (g.0, there g.1, g.2)
]

-- CLASSES

first_named : (d : TypedClass) (ds : List TypedClass) (name : Word) (c : TypedClass) (b : Bool) → same d.head.name name ≡ b → (class_in ds name ≡ Some c → In c ds × (c.head.name ≡ name)) → cond b (Some d) (class_in ds name) ≡ Some c → In c (d ∷ ds) × (c.head.name ≡ name)
first_named d ds name c true h later e = (subst (λ (x : TypedClass). In x (d ∷ ds)) (some_is d c e) here, ap (λ (x : TypedClass). x.head.name) (sym (some_is d c e)) ∙ same_true d.head.name name h)
first_named d ds name c false h later e = let g = later e in (there g.0, g.1)

pub class_at : (classes : List TypedClass) (name : Word) (c : TypedClass) → class_in classes name ≡ Some c → In c classes × (c.head.name ≡ name)
class_at [] name c e = none_is c e
class_at (d ∷ ds) name c e = first_named d ds name c (same d.head.name name) refl (class_at ds name c) e

first_seen : (d : TypedClass) (ds : List TypedClass) (name : Word) (c : TypedClass) (b : Bool) → (class_in ds name ≡ Some c → class_named name (hier_in ds).classes ≡ Some (seen_class c.head)) → cond b (Some d) (class_in ds name) ≡ Some c →
    cond b (Some (seen_class d.head)) (class_named name (hier_in ds).classes) ≡ Some (seen_class c.head)
first_seen d ds name c true later e = ap (λ (x : TypedClass). Some (seen_class x.head)) (some_is d c e)
first_seen d ds name c false later e = later e

seen_named : (classes : List TypedClass) (name : Word) (c : TypedClass) → class_in classes name ≡ Some c →
    class_named name (hier_in classes).classes ≡ Some (seen_class c.head)
seen_named [] name c e = none_is c e
seen_named (d ∷ ds) name c e = first_seen d ds name c (same d.head.name name) (seen_named ds name c) e

superclass_named : (o : Option Word) (more : List Word) (name : Word) → o ≡ Some name → In name (or_none o ++ more)
superclass_named None more name e = none_is name e
superclass_named (Some s) more name e = subst (λ (x : Word). In x (s ∷ more)) (some_is s name e) here

-- the superclass of a class is named by it
pub is_parent : (classes : List TypedClass) (name above : Word) (c : TypedClass) → class_in classes name ≡ Some c → c.head.superclass ≡ Some above → In above (parents (hier_in classes) name)
is_parent classes name above c e s = subst (λ (o : Option SeenClass). In above (named_of o)) (sym (seen_named classes name c e)) (superclass_named c.head.superclass c.head.interfaces above s)

-- a class of the way upwards is one of the classes, and is reached
abbrev IsReached : List TypedClass → Word → TypedClass → Type 0
IsReached classes name c = In c classes × Ascends (hier_in classes) name c.head.name

above_first : (n : ℕ) (classes : List TypedClass) (name : Word) (c d : TypedClass) → class_in classes name ≡ Some d → ((above : Word) → In c (upwards n classes above) → IsReached classes above c) →
    (o : Option Word) → d.head.superclass ≡ o → In c (option_map_or (upwards n classes) o []) → IsReached classes name c
above_first n classes name c d e later None s h = elim h [ ]
above_first n classes name c d e later (Some above) s h = let g = later above h in (g.0, up (is_parent classes name above d e s) g.1)

from_first : (n : ℕ) (classes : List TypedClass) (name : Word) (c : TypedClass) → ((above : Word) → In c (upwards n classes above) → IsReached classes above c) →
    (o : Option TypedClass) → class_in classes name ≡ o → In c (option_map_or (λ d. d ∷ option_map_or (upwards n classes) d.head.superclass []) o []) → IsReached classes name c
from_first n classes name c later None e h = elim h [ ]
from_first n classes name c later (Some d) e h = elim (split_in d c (option_map_or (upwards n classes) d.head.superclass []) h) [
  | inl q ↦ let a = class_at classes name d e in
      (subst (λ (x : TypedClass). In x classes) q a.0, subst (λ (x : Word). Ascends (hier_in classes) name x) (sym a.1 ∙ ap (λ (x : TypedClass). x.head.name) q) stop)
  | inr k ↦ above_first n classes name c d e later d.head.superclass refl k
]

pub on_way : (n : ℕ) (classes : List TypedClass) (name : Word) (c : TypedClass) → In c (upwards n classes name) → In c classes × Ascends (hier_in classes) name c.head.name
on_way zero classes name c h = elim h [ ]
on_way (suc n) classes name c h = from_first n classes name c (λ above. on_way n classes above c) (class_in classes name) refl h

-- ways up one after the other
pub through : {hier : Hier} {a b c : Word} → Ascends hier a b → Ascends hier b c → Ascends hier a c
through stop q = q
through (up i r) q = up i (through r q)

-- MEMBERS

-- a candidate is a method of such a kind, with the name and the descriptor, and a member of its class
pub record IsOf (of_kind : MethodKind → Bool) (m : Method) (head : Iface) (member : TypedMember) (c : Candidate) : Type 0 where
  pub head_is : c.head ≡ head
  pub member_is : c.member ≡ member
  pub at : ℕ
  pub part_is : c.member.part ≡ part.Method at
  pub method_there : slice_get c.head.methods at ≡ Some c.method
  pub kind : of_kind c.method.kind ≡ true
  pub descriptor : method_descriptor c.method.params c.method.result ≡ m.descriptor

module _ (of_kind : MethodKind → Bool) (m : Method) where
  passing : (c d : Candidate) (b : Bool) → (if b then Some c else None) ≡ Some d → (b ≡ true) × (c ≡ d)
  passing c d true e = (refl, some_is c d e)
  passing c d false e = none_is d e

  candidate_of : (head : Iface) (member : TypedMember) (c : Candidate) → as_named of_kind m head member ≡ Some c → IsOf of_kind m head member c
  candidate_of head member c e = by_part member.part refl e where
    by_method : (at : ℕ) → member.part ≡ part.Method at → (o : Option IfaceMethod) → slice_get head.methods at ≡ o →
        option_and_then (λ c. if of_kind c.method.kind && is_named m c.method then Some c else None) (option_map (λ method. let x : Candidate = record { head = head; member = member; method = method } in x) o) ≡ Some c → IsOf of_kind m head member c
    by_method at p None g e = none_is c e
    by_method at p (Some method) g e =
        let x : Candidate = record { head = head; member = member; method = method } in
        let q = passing x c (of_kind method.kind && is_named m method) e in
        subst (IsOf of_kind m head member) q.1 (record {
          head_is = refl;
          member_is = refl;
          at = at;
          part_is = p;
          method_there = g;
          kind = first_true (of_kind method.kind) (is_named m method) q.0;
          descriptor = (bytes_eq-Decides (method_descriptor method.params method.result) m.descriptor).0
              (second_true (bytes_eq method.name m.name) (bytes_eq (method_descriptor method.params method.result) m.descriptor) (second_true (of_kind method.kind) (is_named m method) q.0));
        })

    by_part : (p : TypedPart) → member.part ≡ p → option_and_then (λ c. if of_kind c.method.kind && is_named m c.method then Some c else None) (as_method head member p) ≡ Some c → IsOf of_kind m head member c
    by_part (part.Method at) p e = by_method at p (slice_get head.methods at) refl e
    by_part (part.Field at) p e = none_is c e
    by_part (part.Constructor at) p e = none_is c e

  pub methods_of : (class : TypedClass) (c : Candidate) → In c (methods_in of_kind m class) → (member : TypedMember) × In member class.members × IsOf of_kind m class.head member c
  methods_of class c h = let g = in_filter (as_named of_kind m class.head) class.members c h in (g.0, g.1, candidate_of class.head g.0 c g.2)

-- a candidate of a chain stands in a class that is reached
pub in_chain : (classes : List TypedClass) (m : Method) (name : Word) (c : Candidate) → In c (chain_of classes m name) →
    (class : TypedClass) × In class classes × Ascends (hier_in classes) name class.head.name × (member : TypedMember) × In member class.members × IsOf is_body m class.head member c
in_chain classes m name c h =
    let f = in_flat (methods_in is_body m) (upwards (length classes) classes name) c h in
    let w = on_way (length classes) classes name f.0 f.1 in
    let g = methods_of is_body m f.0 c f.2 in
    (f.0, w.0, w.1, g.0, g.1, g.2)

-- the first item of a list that is mapped
first_mapped : {X Y : Type 0} (f : X → Y) (xs : List X) (y : Y) → option_map f (slice_get xs 0) ≡ Some y → (x : X) × In x xs × (f x ≡ y)
first_mapped f [] y e = none_is y e
first_mapped f (x ∷ xs) y e = (x, here, some_is (f x) y e)

-- a static method that is named stands in the class of that name
pub static_of : (classes : List TypedClass) (m : Method) (q : Placed) → static_named classes m ≡ Some q →
    (class : TypedClass) × In class classes × (member : TypedMember) × In member class.members × (c : Candidate) × (placed c ≡ q) × IsOf is_static m class.head member c
static_of classes m q e = by_class (class_in classes (word_of m.class)) refl e where
  by_class : (o : Option TypedClass) → class_in classes (word_of m.class) ≡ o → option_and_then (λ c. option_map placed (slice_get (methods_in is_static m c) 0)) o ≡ Some q →
      (class : TypedClass) × In class classes × (member : TypedMember) × In member class.members × (c : Candidate) × (placed c ≡ q) × IsOf is_static m class.head member c
  by_class None h e = none_is q e
  by_class (Some class) h e =
      let f = first_mapped placed (methods_in is_static m class) q e in
      let g = methods_of is_static m class f.0 f.1 in
      (class, (class_at classes (word_of m.class) class h).0, g.0, g.1, f.0, f.2, g.2)

-- a constructor that is named stands in the class of that name
pub record IsMaker (classes : List TypedClass) (m : Method) (q : Placed) : Type 0 where
  pub class : TypedClass
  pub class_there : In class classes
  pub name : class.head.name ≡ word_of m.class
  pub head_is : q.head ≡ class.head
  pub member_there : In q.member class.members
  pub at : ℕ
  pub part_is : q.member.part ≡ part.Constructor at
  pub params : List Ty
  pub params_there : slice_get q.head.constructors at ≡ Some params
  pub descriptor : method_descriptor params ty.Void ≡ m.descriptor

pub maker_of : (classes : List TypedClass) (m : Method) (q : Placed) → constructor_named classes m ≡ Some q → IsMaker classes m q
maker_of classes m q e = by_class (class_in classes (word_of m.class)) refl e where
  by_class : (o : Option TypedClass) → class_in classes (word_of m.class) ≡ o → option_and_then (λ c. slice_get (filter_map (λ m'. as_constructor m c.head m' m'.part) c.members) 0) o ≡ Some q → IsMaker classes m q
  by_class None h e = none_is q e
  by_class (Some class) h e =
      let i = in_get (filter_map (λ m'. as_constructor m class.head m' m'.part) class.members) 0 q e in
      let g = in_filter (λ m'. as_constructor m class.head m' m'.part) class.members q i in
      by_part g.0 g.1 g.0.part refl g.2 where
        by_params : (member : TypedMember) → In member class.members → (at : ℕ) → member.part ≡ part.Constructor at → (o : Option (List Ty)) → slice_get class.head.constructors at ≡ o →
            option_and_then (λ params. if bytes_eq (method_descriptor params ty.Void) m.descriptor then Some (let x : Placed = record { head = class.head; member = member } in x) else None) o ≡ Some q → IsMaker classes m q
        by_params member k at p None g e = none_is q e
        by_params member k at p (Some params) g e = by_same (bytes_eq (method_descriptor params ty.Void) m.descriptor) refl e where
          by_same : (b : Bool) → bytes_eq (method_descriptor params ty.Void) m.descriptor ≡ b → (if b then Some (let x : Placed = record { head = class.head; member = member } in x) else None) ≡ Some q → IsMaker classes m q
          by_same true d e = subst (IsMaker classes m) (some_is _ q e) (record {
            class = class;
            class_there = (class_at classes (word_of m.class) class h).0;
            name = (class_at classes (word_of m.class) class h).1;
            head_is = refl;
            member_there = k;
            at = at;
            part_is = p;
            params = params;
            params_there = g;
            descriptor = (bytes_eq-Decides (method_descriptor params ty.Void) m.descriptor).0 d;
          })
          by_same false d e = none_is q e

        by_part : (member : TypedMember) → In member class.members → (p : TypedPart) → member.part ≡ p → as_constructor m class.head member p ≡ Some q → IsMaker classes m q
        by_part member k (part.Constructor at) p e = by_params member k at p (slice_get class.head.constructors at) refl e
        by_part member k (part.Field at) p e = none_is q e
        by_part member k (part.Method at) p e = none_is q e
