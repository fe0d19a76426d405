-- What is first found from a class upwards: a walk that counts its steps finds what the list of the superclasses has.
use Rattle.std.proofs.Common.{◌≡◌, ℕ, zero, suc, List, [], ◌∷◌, ◌++◌, length, map, Bool, true, false, cond, Option, Some, None, ◌⊎◌, inl, inr, refl, sym, ◌∙◌, ap, subst}
use Rattle.std.specs.Prelude.{◌||◌, is_some}
use Rattle.std.specs.List.{find}
use Rattle.std.specs.Option.{option_map, option_or, option_and_then, option_map_or}
use Rattle.jp_pred.specs.Names.{Word, same}
use Rattle.jp_pred.proofs.Ascents.{same_true, same_refl}
use Rattle.jp_pred.proofs.Lists.{or_cases, or_left, or_right}
use Rattle.iface_codec.specs.declared.iface.Iface.{Iface}
use Rattle.iface_codec.specs.declared.iface.IfaceField.{IfaceField}
use Rattle.iface_codec.specs.declared.iface.IfaceMethod.{IfaceMethod}
use Rattle.type_rules.specs.Types.{is_among}
use Rattle.type_rules.specs.Heads.{head_of}
use Rattle.type_rules.specs.Lookups.{climb, superclasses, supertypes, interfaces_above, field_named, field_among, method_among, method_of}
use Rattle.type_heads.specs.Members.{own_field, own_method}

-- A HEAD AND ITS NAME

found_test : (test : Iface → Bool) (hs : List Iface) (h : Iface) → find test hs ≡ Some h → test h ≡ true
found_test test [] h e = absurd cc
found_test test (x ∷ xs) h e = elim (test x) as (λ b. test x ≡ b → cond b (Some x) (find test xs) ≡ Some h → test h ≡ true) [
  | true ↦ λ t k. let s : x ≡ h = cc in subst (λ (z : Iface). test z ≡ true) s t
  | false ↦ λ t k. found_test test xs h k
] refl e

-- the head that is found has the name
pub head_name : (heads : List Iface) (name : Word) (h : Iface) → head_of heads name ≡ Some h → h.name ≡ name
head_name heads name h e = same_true h.name name (found_test (λ x. same x.name name) heads h e)

-- and so it is found by its own name
pub head_again : (heads : List Iface) (name : Word) (h : Iface) → head_of heads name ≡ Some h → head_of heads h.name ≡ Some h
head_again heads name h e = subst (λ (n : Word). head_of heads n ≡ Some h) (sym (head_name heads name h e)) e

-- THE FIRST OF A LIST OF CLASSES

abbrev pub first_in : {X : Type 0} → (Iface → Option X) → List Iface → Option X
first_in own [] = None
first_in own (h ∷ hs) = option_or (own h) (first_in own hs)

pub first_append : {X : Type 0} (own : Iface → Option X) (hs gs : List Iface) → first_in own (hs ++ gs) ≡ option_or (first_in own hs) (first_in own gs)
first_append own [] gs = refl
first_append {X} own (h ∷ hs) gs = elim (own h) as (λ o. option_or o (first_in own (hs ++ gs)) ≡ option_or (option_or o (first_in own hs)) (first_in own gs)) [
  | None ↦ first_append own hs gs
  | Some x ↦ refl
]

pub fields_first : (name : Word) (hs : List Iface) → field_among name hs ≡ first_in (own_field name) hs
fields_first name [] = refl
fields_first name (h ∷ hs) = ap (option_or (own_field name h)) (fields_first name hs)

pub methods_first : (own name : Word) (count : ℕ) (hs : List Iface) → method_among own name count hs ≡ first_in (own_method own name count) hs
methods_first own name count [] = refl
methods_first own name count (h ∷ hs) = ap (option_or (own_method own name count h)) (methods_first own name count hs)

-- A WALK UPWARDS

-- the superclass of a class, where it is among the heads
abbrev pub super_head : List Iface → Iface → Option Iface
super_head heads h = option_and_then (head_of heads) h.superclass

-- what is first found from a class on, within so many steps
abbrev pub upwards : {X : Type 0} → (Iface → Option X) → ℕ → List Iface → Iface → Option X
upwards own zero heads h = own h
upwards own (suc n) heads h = option_or (own h) (option_and_then (upwards own n heads) (super_head heads h))

-- the walk ends where something is found, and where there is no superclass
pub here : {X B : Type 0} (own : Iface → Option X) (n : ℕ) (heads : List Iface) (h : Iface) (f : B → X) (r : Option B) → option_map f r ≡ own h → is_some r ≡ true → option_map f r ≡ upwards own n heads h
here own zero heads h f r e i = e
here own (suc n) heads h f None e i = absurd cc
here own (suc n) heads h f (Some x) e i = ap (λ p. option_or p (option_and_then (upwards own n heads) (super_head heads h))) e

not_found : {X B : Type 0} (f : B → X) (r : Option B) (o : Option X) → option_map f r ≡ o → is_some r ≡ false → o ≡ None
not_found f None o e i = sym e
not_found f (Some x) o e i = absurd cc

none_here : {X : Type 0} (own : Iface → Option X) (n : ℕ) (heads : List Iface) (h : Iface) → own h ≡ None → upwards own (suc n) heads h ≡ option_and_then (upwards own n heads) (super_head heads h)
none_here own n heads h e = ap (λ p. option_or p (option_and_then (upwards own n heads) (super_head heads h))) e

pub top : {X B : Type 0} (own : Iface → Option X) (n : ℕ) (heads : List Iface) (h : Iface) (f : B → X) (r : Option B) → option_map f r ≡ own h → is_some r ≡ false → None ≡ super_head heads h → None ≡ upwards own n heads h
top own zero heads h f r e i s = sym (not_found f r (own h) e i)
top own (suc n) heads h f r e i s = sym (none_here own n heads h (not_found f r (own h) e i) ∙ ap (option_and_then (upwards own n heads)) (sym s))

-- and else it goes on there
pub onward : {X B : Type 0} (own : Iface → Option X) (n m : ℕ) (heads : List Iface) (h g : Iface) (f : B → X) (r : Option B) → n ≡ suc m → option_map f r ≡ own h → is_some r ≡ false →
    Some g ≡ super_head heads h → upwards own m heads g ≡ upwards own n heads h
onward own n m heads h g f r k e i s =
    sym (ap (λ (j : ℕ). upwards own j heads h) k ∙ none_here own m heads h (not_found f r (own h) e i) ∙ ap (option_and_then (upwards own m heads)) (sym s))

pub last : {X : Type 0} (own : Iface → Option X) (n : ℕ) (heads : List Iface) (h : Iface) → n ≡ zero → own h ≡ upwards own n heads h
last own n heads h e = sym (ap (λ (j : ℕ). upwards own j heads h) e)

-- the same behind a class, from the name of its superclass on
abbrev behind : {X : Type 0} → (Iface → Option X) → ℕ → List Iface → Option Word → Option X
behind own zero heads o = None
behind own (suc n) heads o = option_and_then (λ h. option_or (own h) (behind own n heads h.superclass)) (option_and_then (head_of heads) o)

or_none : {X : Type 0} (o : Option X) → option_or o None ≡ o
or_none None = refl
or_none (Some x) = refl

mapped : {A B : Type 0} (f g : A → Option B) (o : Option A) → ((x : A) → f x ≡ g x) → option_and_then f o ≡ option_and_then g o
mapped f g None h = refl
mapped f g (Some x) h = h x

upwards_is : {X : Type 0} (own : Iface → Option X) (n : ℕ) (heads : List Iface) (h : Iface) → upwards own n heads h ≡ option_or (own h) (behind own n heads h.superclass)
upwards_is own zero heads h = sym (or_none (own h))
upwards_is own (suc n) heads h = ap (option_or (own h)) (mapped (upwards own n heads) _ (super_head heads h) (upwards_is own n heads))

module _ {X : Type 0} (own : Iface → Option X) (heads : List Iface) where
  abbrev own_at : Word → Option X
  own_at m = option_and_then own (head_of heads m)

  abbrev up_at : Word → Option Word
  up_at m = option_and_then (λ h. h.superclass) (head_of heads m)

  -- Nothing is found in the class of a name that was met, and it leads to one that was met, to the one that comes next, or
  -- nowhere
  record IsSpent (met : List Word) (next : Option Word) (m : Word) : Type 0 where
    none : own_at m ≡ None
    leads : (up_at m ≡ None) ⊎ (((x : Word) × (up_at m ≡ Some x) × (is_among x met ≡ true)) ⊎ (up_at m ≡ next))

  abbrev AreSpent : List Word → Option Word → Type 0
  AreSpent met next = (m : Word) → is_among m met ≡ true → IsSpent met next m

  behind_none : (n : ℕ) → behind own n heads None ≡ None
  behind_none zero = refl
  behind_none (suc n) = refl

  -- where one leads that was met, where what comes next was met too
  further : (n : ℕ) (met : List Word) (name : Word) → is_among name met ≡ true → ((m : Word) → is_among m met ≡ true → behind own n heads (Some m) ≡ None) →
      (o : Option Word) → (o ≡ None) ⊎ (((x : Word) × (o ≡ Some x) × (is_among x met ≡ true)) ⊎ (o ≡ Some name)) → behind own n heads o ≡ None
  further n met name i go o (inl e) = ap (λ (p : Option Word). behind own n heads p) e ∙ behind_none n
  further n met name i go o (inr (inl r)) = ap (λ (p : Option Word). behind own n heads p) r.1 ∙ go r.0 r.2
  further n met name i go o (inr (inr e)) = ap (λ (p : Option Word). behind own n heads p) e ∙ go name i

  at_met : (n : ℕ) (met : List Word) (name : Word) → ((o : Option Word) → (o ≡ None) ⊎ (((x : Word) × (o ≡ Some x) × (is_among x met ≡ true)) ⊎ (o ≡ Some name)) → behind own n heads o ≡ None) →
      (o : Option Iface) → option_and_then own o ≡ None →
      (option_and_then (λ h. h.superclass) o ≡ None) ⊎ (((x : Word) × (option_and_then (λ h. h.superclass) o ≡ Some x) × (is_among x met ≡ true)) ⊎ (option_and_then (λ h. h.superclass) o ≡ Some name)) →
      option_and_then (λ h. option_or (own h) (behind own n heads h.superclass)) o ≡ None
  at_met n met name go None e l = refl
  at_met n met name go (Some h) e l = ap (λ (p : Option X). option_or p (behind own n heads h.superclass)) e ∙ go h.superclass l

  -- where what comes next was met, nothing is found any more
  stuck : (n : ℕ) (met : List Word) (name m : Word) → is_among name met ≡ true → AreSpent met (Some name) → is_among m met ≡ true → behind own n heads (Some m) ≡ None
  stuck zero met name m i f j = refl
  stuck (suc n) met name m i f j =
      let s = f m j in at_met n met name (further n met name i (λ k l. stuck n met name k i f l)) (head_of heads m) s.none s.leads

  leads_on : (met : List Word) (name : Word) (h : Iface) → h.name ≡ name → (u : Option Word) → (u ≡ None) ⊎ (((x : Word) × (u ≡ Some x) × (is_among x met ≡ true)) ⊎ (u ≡ Some name)) →
      (u ≡ None) ⊎ (((x : Word) × (u ≡ Some x) × (is_among x (h.name ∷ met) ≡ true)) ⊎ (u ≡ h.superclass))
  leads_on met name h e u (inl k) = inl k
  leads_on met name h e u (inr (inl r)) = inr (inl (r.0, r.1, or_right (same h.name r.0) _ r.2))
  leads_on met name h e u (inr (inr k)) = inr (inl (name, k, or_left (same h.name name) _ (subst (λ (z : Word). same h.name z ≡ true) e (same_refl h.name))))

  spent_at : (met : List Word) (name : Word) (h : Iface) → head_of heads name ≡ Some h → own h ≡ None → AreSpent met (Some name) → (m : Word) → (same h.name m ≡ true) ⊎ (is_among m met ≡ true) → IsSpent (h.name ∷ met) h.superclass m
  spent_at met name h e none f m (inl t) =
      let q : head_of heads m ≡ Some h = subst (λ (z : Word). head_of heads z ≡ Some h) (sym (head_name heads name h e) ∙ same_true h.name m t) e in
      record { none = ap (option_and_then own) q ∙ none; leads = inr (inr (ap (option_and_then (λ (g : Iface). g.superclass)) q)) }
  spent_at met name h e none f m (inr t) = record { none = (f m t).none; leads = leads_on met name h (head_name heads name h e) (up_at m) (f m t).leads }

  -- a class more was met
  spent_more : (met : List Word) (name : Word) (h : Iface) → head_of heads name ≡ Some h → own h ≡ None → AreSpent met (Some name) → AreSpent (h.name ∷ met) h.superclass
  spent_more met name h e none f m i = spent_at met name h e none f m (or_cases (same h.name m) (is_among m met) i)

  climbed : (n : ℕ) (met : List Word) (o : Option Word) → AreSpent met o → first_in own (climb n heads met o) ≡ behind own n heads o
  climbed zero met o f = refl
  climbed (suc n) met None f = refl
  climbed (suc n) met (Some name) f = elim (is_among name met) as (λ b. is_among name met ≡ b →
      first_in own (cond b [] (option_map_or (λ h. h ∷ climb n heads (h.name ∷ met) h.superclass) (head_of heads name) [])) ≡ behind own (suc n) heads (Some name)) [
        | true ↦ λ t. sym (stuck (suc n) met name name t f t)
        | false ↦ λ t. elim (head_of heads name) as (λ p. head_of heads name ≡ p →
            first_in own (option_map_or (λ h. h ∷ climb n heads (h.name ∷ met) h.superclass) p []) ≡ option_and_then (λ h. option_or (own h) (behind own n heads h.superclass)) p) [
              | None ↦ λ e. refl
              | Some h ↦ λ e. elim (own h) as (λ q. own h ≡ q → option_or q (first_in own (climb n heads (h.name ∷ met) h.superclass)) ≡ option_or q (behind own n heads h.superclass)) [
                | None ↦ λ none. climbed n (h.name ∷ met) h.superclass (spent_more met name h e none f)
                | Some x ↦ λ none. refl
              ] refl
            ] refl
      ] refl

  nothing_met : (h : Iface) → AreSpent [] (Some h.name)
  nothing_met h m i = absurd cc

  -- the walk finds what the list of the class and its superclasses has
  pub walked : (h : Iface) → head_of heads h.name ≡ Some h → upwards own (length heads) heads h ≡ first_in own (h ∷ superclasses heads h)
  walked h e = upwards_is own (length heads) heads h ∙ elim (own h) as (λ q. own h ≡ q → option_or q (behind own (length heads) heads h.superclass) ≡ option_or q (first_in own (superclasses heads h))) [
    | None ↦ λ none. sym (climbed (length heads) (h.name ∷ []) h.superclass (spent_more [] h.name h e none (nothing_met h)))
    | Some x ↦ λ none. refl
  ] refl

pub fields_walked : (name : Word) (heads : List Iface) (h : Iface) → head_of heads h.name ≡ Some h → upwards (own_field name) (length heads) heads h ≡ field_among name (h ∷ superclasses heads h)
fields_walked name heads h e = walked (own_field name) heads h e ∙ sym (fields_first name (h ∷ superclasses heads h))

pub methods_walked : (own name : Word) (count : ℕ) (heads : List Iface) (h : Iface) → head_of heads h.name ≡ Some h →
    upwards (own_method own name count) (length heads) heads h ≡ method_among own name count (h ∷ superclasses heads h)
methods_walked own name count heads h e = walked (own_method own name count) heads h e ∙ sym (methods_first own name count (h ∷ superclasses heads h))

-- the methods of a class and its superclasses come before those of interfaces
pub methods_apart : (own name : Word) (count : ℕ) (heads : List Iface) (h : Iface) →
    method_among own name count (h ∷ supertypes heads h) ≡ option_or (method_among own name count (h ∷ superclasses heads h)) (method_among own name count (interfaces_above heads (h ∷ superclasses heads h)))
methods_apart own name count heads h =
    let line = h ∷ superclasses heads h in
    let above = interfaces_above heads line in
    methods_first own name count (line ++ above) ∙ first_append (own_method own name count) line above
    ∙ ap (λ (o : Option (Word × IfaceMethod)). option_or o (first_in (own_method own name count) above)) (sym (methods_first own name count line))
    ∙ ap (option_or (method_among own name count line)) (sym (methods_first own name count above))

-- what a call on a class means: what the line of the class has, and else what the interfaces have
pub method_by : (own name class : Word) (count : ℕ) (heads : List Iface) (h : Iface) → head_of heads class ≡ Some h →
    method_of heads own class name count ≡ option_or (method_among own name count (h ∷ superclasses heads h)) (method_among own name count (interfaces_above heads (h ∷ superclasses heads h)))
method_by own name class count heads h e =
    ap (option_and_then (λ (g : Iface). method_among own name count (g ∷ supertypes heads g))) e ∙ methods_apart own name count heads h

pub first_of_two : {X B : Type 0} (f : B → X) (r : Option B) (o p : Option X) → option_map f r ≡ o → is_some r ≡ true → option_map f r ≡ option_or o p
first_of_two f None o p e i = absurd cc
first_of_two f (Some x) o p e i = ap (λ q. option_or q p) e

pub second_of_two : {X B : Type 0} (f : B → X) (r : Option B) (o p : Option X) → option_map f r ≡ o → is_some r ≡ false → p ≡ option_or o p
second_of_two f None o p e i = ap (λ q. option_or q p) e
second_of_two f (Some x) o p e i = absurd cc
