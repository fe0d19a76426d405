-- The first fault of lists of faults doesn't depend on their order.
use Rattle.std.proofs.Common.{◌≡◌, List, [], ◌∷◌, ◌++◌, Option, Some, None, Bool, true, false, refl, sym, ap, ◌∙◌, arith}
use Rattle.std.specs.Prelude.{if◌then◌else◌}
use Rattle.std.proofs.lemmas.Bool.Decides.{nat_tests}
use Rattle.type_rules.specs.declared.fault.TypeFault.{TypeFault}
use Rattle.type_rules.specs.Nodes.{Visit}
use Rattle.type_rules.specs.Table.{faults_of}
use Rattle.type_rules.specs.Typing.{precedes, pick, earlier}
use Rattle.type_rules.proofs.Soundness.{faults_append}
use Rattle.type_heads.proofs.FaultLists.{earlier_append}

asymmetric : (f g : TypeFault) → precedes f g ≡ true → precedes g f ≡ false
asymmetric f g a = grind (arith, nat_tests)

not_before : (f g h : TypeFault) → precedes f g ≡ false → precedes g h ≡ false → precedes f h ≡ false
not_before f g h a b = grind (arith, nat_tests)

line_is : (f g : TypeFault) → precedes f g ≡ false → precedes g f ≡ false → f.place.line ≡ g.place.line
line_is f g a b = grind (arith, nat_tests)

col_is : (f g : TypeFault) → precedes f g ≡ false → precedes g f ≡ false → f.place.col ≡ g.place.col
col_is f g a b = grind (arith, nat_tests)

rule_is : (f g : TypeFault) → precedes f g ≡ false → precedes g f ≡ false → f.rule ≡ g.rule
rule_is f g a b = grind (arith, nat_tests)

same : (f g : TypeFault) → precedes f g ≡ false → precedes g f ≡ false → f ≡ g
same f g a b = λ i. record { place = record { line = line_is f g a b i; col = col_is f g a b i }; rule = rule_is f g a b i }

-- THE EARLIER OF TWO

stays : (b f : TypeFault) → precedes f b ≡ false → pick (Some b) f ≡ b
stays b f e = ap (λ (t : Bool). if t then f else b) e

takes : (b f : TypeFault) → precedes f b ≡ true → pick (Some b) f ≡ f
takes b f e = ap (λ (t : Bool). if t then f else b) e

either_way : (f g : TypeFault) (p q : Bool) → precedes g f ≡ p → precedes f g ≡ q → (if p then g else f) ≡ (if q then f else g)
either_way f g true true a b = absurd (cc (asymmetric g f a))
either_way f g true false a b = refl
either_way f g false true a b = refl
either_way f g false false a b = same f g b a

swap_two : (b f g : TypeFault) (p q : Bool) → precedes f b ≡ p → precedes g b ≡ q → pick (Some (if p then f else b)) g ≡ pick (Some (if q then g else b)) f
swap_two b f g true true a h = either_way f g (precedes g f) (precedes f g) refl refl
swap_two b f g true false a h = stays f g (not_before g b f h (asymmetric f b a)) ∙ sym (takes b f a)
swap_two b f g false true a h = takes b g h ∙ sym (stays g f (not_before f b g a (asymmetric g b h)))
swap_two b f g false false a h = stays b g h ∙ sym (stays b f a)

swap : (old : Option TypeFault) (f g : TypeFault) → pick (Some (pick old f)) g ≡ pick (Some (pick old g)) f
swap None f g = either_way f g (precedes g f) (precedes f g) refl refl
swap (Some b) f g = swap_two b f g (precedes f b) (precedes g b) refl refl

-- LISTS

one_behind : (old : Option TypeFault) (f : TypeFault) (gs : List TypeFault) → earlier (Some (pick old f)) gs ≡ Some (pick (earlier old gs) f)
one_behind old f [] = refl
one_behind old f (g ∷ gs) = ap (λ (h : TypeFault). earlier (Some h) gs) (swap old f g) ∙ one_behind (Some (pick old g)) f gs

pub swap_lists : (old : Option TypeFault) (fs gs : List TypeFault) → earlier (earlier old fs) gs ≡ earlier (earlier old gs) fs
swap_lists old [] gs = refl
swap_lists old (f ∷ fs) gs = swap_lists (Some (pick old f)) fs gs ∙ ap (λ (o : Option TypeFault). earlier o fs) (one_behind old f gs)

-- two lists of nodes
pub earlier_both : (old : Option TypeFault) (vs ws : List Visit) → earlier old (faults_of (vs ++ ws)) ≡ earlier (earlier old (faults_of vs)) (faults_of ws)
earlier_both old vs ws = ap (earlier old) (faults_append vs ws) ∙ sym (earlier_append old (faults_of vs) (faults_of ws))

-- Of two pairs of lists the middle ones change places
pub exchange : (old : Option TypeFault) (ps qs rs ss : List Visit) →
    earlier (earlier (earlier (earlier old (faults_of ps)) (faults_of qs)) (faults_of rs)) (faults_of ss) ≡ earlier (earlier old (faults_of (ps ++ rs))) (faults_of (qs ++ ss))
exchange old ps qs rs ss =
    ap (λ (o : Option TypeFault). earlier o (faults_of ss)) (swap_lists (earlier old (faults_of ps)) (faults_of qs) (faults_of rs))
    ∙ (ap (λ (o : Option TypeFault). earlier (earlier o (faults_of qs)) (faults_of ss)) (sym (earlier_both old ps rs)) ∙ sym (earlier_both (earlier old (faults_of (ps ++ rs))) qs ss))
