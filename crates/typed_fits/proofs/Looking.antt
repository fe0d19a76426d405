-- What is looked up in heads stands in them, and its types can be named, unless it is of the class `Io`.
use Rattle.std.proofs.Common.{◌≡◌, ◌⊎◌, ℕ, zero, suc, Bool, true, false, cond, List, [], ◌∷◌, length, Option, Some, None, refl, sym, ap, ◌∙◌, subst, inl, inr}
use Rattle.std.specs.Prelude.{◌==◌, if◌then◌else◌}
use Rattle.std.specs.List.{find, flat_map, list_all}
use Rattle.std.specs.Option.{option_map, option_map_or, option_and_then, option_or}
use Rattle.jp_pred.specs.declared.ty.Ty.{Ty}
use Rattle.jp_pred.specs.Names.{Word, In, here, there, same}
use Rattle.jp_pred.proofs.Entries.{in_append, split_in}
use Rattle.jp_pred.proofs.Ascents.{same_true}
use Rattle.iface_codec.specs.declared.iface.Iface.{Iface}
use Rattle.iface_codec.specs.declared.iface.IfaceMethod.{IfaceMethod}
use Rattle.jp_meaning.specs.Classes.{is_static}
use Rattle.type_rules.specs.Types.{is_among}
use Rattle.type_rules.specs.Heads.{io_head, head_of}
use Rattle.type_rules.specs.Lookups.{unless_met, climb, superclasses, interfaces_above, class_names, unmet, breadth_first, supertypes, is_called, method_among, method_of, constructor_of}
use Rattle.gen_body.specs.Names.{are_nameable}
use Rattle.calls_fit.specs.Fitting.{method_fits}
use Rattle.calls_fit.proofs.Named.{some_is, none_is, in_filter, all_in}

pub find_in : {X : Type 0} (f : X → Bool) (xs : List X) (x : X) → find f xs ≡ Some x → In x xs × (f x ≡ true)
find_in f [] x e = none_is x e
find_in {X = X} f (y ∷ ys) x e = by_first (f y) refl (find_in f ys x) e where
  by_first : (b : Bool) → f y ≡ b → (find f ys ≡ Some x → In x ys × (f x ≡ true)) → cond b (Some y) (find f ys) ≡ Some x → In x (y ∷ ys) × (f x ≡ true)
  by_first true h later e = (subst (λ (z : X). In z (y ∷ ys)) (some_is y x e) here, ap f (sym (some_is y x e)) ∙ h)
  by_first false h later e = let g = later e in (there g.0, g.1)

pub head_in : (heads : List Iface) (name : Word) (h : Iface) → head_of heads name ≡ Some h → In h heads × (h.name ≡ name)
head_in heads name h e = let g = find_in (λ (x : Iface). same x.name name) heads h e in (g.0, same_true h.name name g.1)

module _ (heads : List Iface) where
  -- the classes of a way upwards are among the heads
  after_name : (met : List Word) (name : Option Word) (go : Iface → List Iface) (h : Iface) → ((x : Iface) → In x heads → In h (go x) → In h heads) → In h (unless_met heads met name go) → In h heads
  after_name met None go h later i = elim i [ ]
  after_name met (Some name) go h later i = by_met (is_among name met) i where
    by_head : (o : Option Iface) → head_of heads name ≡ o → In h (option_map_or go o []) → In h heads
    by_head None e i = elim i [ ]
    by_head (Some x) e i = later x (head_in heads name x e).0 i

    by_met : (b : Bool) → In h (if b then [] else option_map_or go (head_of heads name) []) → In h heads
    by_met true i = elim i [ ]
    by_met false i = by_head (head_of heads name) refl i

  climbed : (n : ℕ) (met : List Word) (name : Option Word) (h : Iface) → In h (climb n heads met name) → In h heads
  climbed zero met name h i = elim i [ ]
  climbed (suc n) met name h i = after_name met name (λ x. x ∷ climb n heads (x.name ∷ met) x.superclass) h
      (λ x there i. elim (split_in x h (climb n heads (x.name ∷ met) x.superclass) i) [
        | inl q ↦ subst (λ (z : Iface). In z heads) q there
        | inr k ↦ climbed n (x.name ∷ met) x.superclass h k
      ]) i

  pub above_in : (x h : Iface) → In h (supertypes heads x) → In h heads
  above_in x h i = elim (in_append h (superclasses heads x) (interfaces_above heads (x ∷ superclasses heads x)) i) [
    | inl a ↦ climbed (length heads) (x.name ∷ []) x.superclass h a
    | inr b ↦ let g = in_filter (head_of heads) (names_above (x ∷ superclasses heads x)) h b in (head_in heads g.0 h g.2).0
  ] where
    names_above : List Iface → List Word
    names_above hs = breadth_first (length heads) heads (class_names hs) (unmet (class_names hs) (flat_map (λ h. h.interfaces) hs))

  among : (own name : Word) (count : ℕ) (hs : List Iface) (m : Word × IfaceMethod) → method_among own name count hs ≡ Some m → (h : Iface) × In h hs × In m.1 h.methods × (m.0 ≡ h.name)
  among own name count [] m e = none_is m e
  among own name count (h ∷ hs) m e = by_own (find (is_called own name count h.name) h.methods) refl (among own name count hs m) e where
    by_own : (o : Option IfaceMethod) → find (is_called own name count h.name) h.methods ≡ o → (method_among own name count hs ≡ Some m → (x : Iface) × In x hs × In m.1 x.methods × (m.0 ≡ x.name)) →
        option_or (option_map (λ k. (h.name, k)) o) (method_among own name count hs) ≡ Some m → (x : Iface) × In x (h ∷ hs) × In m.1 x.methods × (m.0 ≡ x.name)
    by_own None f later e = let g = later e in (g.0, there g.1, g.2, g.3)
    by_own (Some k) f later e =
        let pair : Word × IfaceMethod = (h.name, k) in
        let q = some_is pair m e in
        (h, here, subst (λ (z : Word × IfaceMethod). In z.1 h.methods) q (find_in (is_called own name count h.name) h.methods k f).0, ap (λ (z : Word × IfaceMethod). z.0) (sym q))

  -- a method that is found is declared by a head
  pub method_in : (own class name : Word) (count : ℕ) (m : Word × IfaceMethod) → method_of heads own class name count ≡ Some m → (h : Iface) × In h heads × In m.1 h.methods × (m.0 ≡ h.name)
  method_in own class name count m e = by_head (head_of heads class) refl e where
    by_head : (o : Option Iface) → head_of heads class ≡ o → option_and_then (λ h. method_among own name count (h ∷ supertypes heads h)) o ≡ Some m → (h : Iface) × In h heads × In m.1 h.methods × (m.0 ≡ h.name)
    by_head None f e = none_is m e
    by_head (Some x) f e =
        let g = among own name count (x ∷ supertypes heads x) m e in
        let inside : In g.0 heads = elim (split_in x g.0 (supertypes heads x) g.1) [
          | inl q ↦ subst (λ (z : Iface). In z heads) q (head_in heads class x f).0
          | inr k ↦ above_in x g.0 k
        ] in
        (g.0, inside, g.2, g.3)

  -- the types of each head's methods and constructors can be named, but for those of `Io`
  abbrev pub AreNameable : Type 0
  AreNameable = (h : Iface) → In h heads → (h ≡ io_head) ⊎ ((list_all method_fits h.methods ≡ true) × (list_all are_nameable h.constructors ≡ true))

all_static : (m : IfaceMethod) → In m io_head.methods → is_static m.kind ≡ true
all_static m i = all_in (λ (k : IfaceMethod). is_static k.kind) io_head.methods refl i

module _ (heads : List Iface) (named : AreNameable heads) where
  -- a method that isn't of `Io`
  pub method_nameable : (own class name : Word) (count : ℕ) (m : Word × IfaceMethod) → method_of heads own class name count ≡ Some m → ((m.0 ≡ io_head.name) × (is_static m.1.kind ≡ true)) ⊎ (method_fits m.1 ≡ true)
  method_nameable own class name count m e =
      let g = method_in heads own class name count m e in
      elim (named g.0 g.1) [
        | inl q ↦ inl (g.3 ∙ ap (λ (h : Iface). h.name) q, all_static m.1 (subst (λ (h : Iface). In m.1 h.methods) q g.2))
        | inr f ↦ inr (all_in method_fits g.0.methods f.0 g.2)
      ]

  pub maker_nameable : (class : Word) (count : ℕ) (params : List Ty) → option_and_then (λ h. constructor_of h count) (head_of heads class) ≡ Some params → are_nameable params ≡ true
  maker_nameable class count params e = by_head (head_of heads class) refl e where
    by_head : (o : Option Iface) → head_of heads class ≡ o → option_and_then (λ h. constructor_of h count) o ≡ Some params → are_nameable params ≡ true
    by_head None f e = none_is params e
    by_head (Some h) f e =
        let i = (find_in (λ (ps : List Ty). length ps == count) h.constructors params e).0 in
        elim (named h (head_in heads class h f).0) [
          | inl q ↦ elim (subst (λ (x : Iface). In params x.constructors) q i) [ ]
          | inr f ↦ all_in are_nameable h.constructors f.1 i
        ]
