-- The list of the faults of nodes, and the sentence that a node breaks a rule.
use Rattle.std.proofs.Common.{◌≡◌, ℕ, List, [], ◌∷◌, ◌++◌, Bool, true, false, ◌⊎◌, inl, inr, refl, subst}
use Rattle.std.specs.Prelude.{IsTrue}
use Rattle.std.specs.List.{flat_map}
use Rattle.jp_ast.specs.declared.token.Place.{Place}
use Rattle.jp_pred.specs.Names.{In, here, there}
use Rattle.type_rules.specs.declared.fault.TypeFault.{TypeFault}
use Rattle.type_rules.specs.Nodes.{Visit}
use Rattle.type_rules.specs.Table.{all_rules, fault_if, own_faults, faults_of}
use Rattle.type_rules.specs.Typing.{HasFault}
use Rattle.type_rules.specs.Laws.{FirstIsFirst, NoneIsNone}
use Rattle.type_rules.proofs.Firsts.{first_of, none_first}

in_front : {A : Type 0} {x : A} {xs : List A} (ys : List A) → In x xs → In x (xs ++ ys)
in_front ys here = here
in_front ys (there i) = there (in_front ys i)

in_behind : {A : Type 0} {x : A} (xs : List A) {ys : List A} → In x ys → In x (xs ++ ys)
in_behind [] i = i
in_behind (y ∷ xs) i = there (in_behind xs i)

later : {A : Type 0} {x y : A} {xs ys : List A} → In x xs ⊎ In x ys → In x (y ∷ xs) ⊎ In x ys
later (inl i) = inl (there i)
later (inr i) = inr i

in_cases : {A : Type 0} {x : A} (xs : List A) {ys : List A} → In x (xs ++ ys) → In x xs ⊎ In x ys
in_cases [] i = inr i
in_cases (y ∷ xs) here = inl here
in_cases (y ∷ xs) (there i) = later (in_cases xs i)

of_flat : {A : Type 0} (g : A → List TypeFault) (xs : List A) (f : TypeFault) → In f (flat_map g xs) → (x : A) × In x xs × In f (g x)
of_flat g [] f i = absurd (elim i [ ])
of_flat g (x ∷ xs) f i = elim (in_cases (g x) i) [
  | inl k ↦ (x, here, k)
  | inr k ↦ let o = of_flat g xs f k in (o.0, there o.1, o.2)
]

to_flat : {A : Type 0} (g : A → List TypeFault) {x : A} {xs : List A} (f : TypeFault) → In x xs → In f (g x) → In f (flat_map g xs)
to_flat g f (here {x} {xs}) k = in_front (flat_map g xs) k
to_flat g f (there {x} {y} {xs} i) k = in_behind (g y) (to_flat g f i k)

-- one rule at a node
at_rule : (p : Place) (r : ℕ) (b : Bool) (f : TypeFault) → In f (fault_if p r b) → (r ≡ f.rule) × (p ≡ f.place) × IsTrue b
at_rule p r true f here = (refl, refl, refl)
at_rule p r true f (there i) = absurd (elim i [ ])
at_rule p r false f i = absurd (elim i [ ])

abbrev fault : Place → ℕ → TypeFault
fault p n = record { place = p; rule = n }

rule_at : (p q : Place) (r n : ℕ) (b : Bool) → p ≡ q → r ≡ n → IsTrue b → In (record { place = q; rule = n }) (fault_if p r b)
rule_at p q r n true e h i =
    let w : fault p r ≡ fault q n = cc in
    subst (λ (f : TypeFault). In f (fault p r ∷ [])) w here
rule_at p q r n false e h i = absurd cc

to_sentence : (vs : List Visit) (f : TypeFault) → In f (faults_of vs) → HasFault vs f.place f.rule
to_sentence vs f h =
    let v = of_flat (λ v. own_faults v.place v.node) vs f h in
    let r = of_flat (λ r. fault_if v.0.place r.0 (r.1 v.0.node)) all_rules f v.2 in
    let a = at_rule v.0.place r.0.0 (r.0.1 v.0.node) f r.2 in
    record { rule = r.0; is_rule = r.1; number_is = a.0; visit = v.0; is_visited = v.1; place_is = a.1; breaks = a.2 }

of_sentence : (vs : List Visit) (p : Place) (n : ℕ) → HasFault vs p n → In (record { place = p; rule = n }) (faults_of vs)
of_sentence vs p n h =
    to_flat (λ v. own_faults v.place v.node) _ h.is_visited
    (to_flat (λ r. fault_if h.visit.place r.0 (r.1 h.visit.node)) _ h.is_rule
    (rule_at h.visit.place p h.rule.0 n (h.rule.1 h.visit.node) h.place_is h.number_is h.breaks))

pub first_is_first : FirstIsFirst
first_is_first vs f e = let l = first_of (faults_of vs) f e in record {
  is_one = to_sentence vs f l.is_one;
  least = λ g k. l.none g (of_sentence vs g.place g.rule k);
}

empty : {f : TypeFault} → In f [] → ⊥
empty i = elim i [ ]

pub none_is_none : NoneIsNone
none_is_none vs e p n k =
    empty (subst (λ (fs : List TypeFault). In (record { place = p; rule = n }) fs) (none_first (faults_of vs) e) (of_sentence vs p n k))
