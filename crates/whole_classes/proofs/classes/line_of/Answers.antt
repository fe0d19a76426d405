use Rattle.std.proofs.Common.{◌≡◌, ◌-◌, ◌+◌, suc, List, [], ◌∷◌, ◌++◌, length, sym, ◌∙◌, ap, arith}
use Rattle.std.specs.Borrow.{Bor}
use Rattle.std.proofs.lemmas.List.{map-append}
use Rattle.jp_meaning.specs.declared.unit.TypedClass.{TypedClass}
use Rattle.jp_meaning.specs.Classes.{upwards}
use Rattle.whole_classes.specs.Bodies.{typed_at}
use Rattle.whole_classes.proofs.Lines.{ends_before, ends_at, goes_on}
use Rattle.whole_classes.proofs.classes.line_of.Goals as goal

pub returns-in_default : goal.returns-in_default
returns-in_default c =
    let classes = c.args.classes.now in
    ends_before classes (typed_at c.loop-i.line.items) (length classes - c.loop-i._i) c.loop-i.name.now (sym c.in_default.ensures) ∙ c.loop-i.invariant

pub returns-in_default-superclass : goal.returns-in_default-superclass
returns-in_default-superclass c =
    let classes = c.args.classes.now in
    let line = typed_at c.loop-i.line.items in
    let class = c.in-Some.class in
    let n = length classes - c.loop-i._i in
    let m = length classes - (c.loop-i._i + 1) in
    let k : n ≡ suc m = omega arith in
    let more : typed_at c.push.new.self.items ≡ line ++ class.now ∷ [] = ap (λ (l : List (Bor TypedClass)). typed_at l) c.in_ok-push.ensures.items ∙ map-append (λ (r : Bor TypedClass). r.now) c.loop-i.line.items (class ∷ []) in
    more ∙ (ends_at classes line n m c.loop-i.name.now class.now k (sym c.in-Some.ensures) c.in_default-superclass.is ∙ c.loop-i.invariant)

pub loop-i-preserved : goal.loop-i-preserved
loop-i-preserved c =
    let classes = c.args.classes.now in
    let line = typed_at c.loop-i.line.items in
    let class = c.in-Some.class in
    let up = c.in-Some-superclass.superclass in
    let n = length classes - c.loop-i._i in
    let m = length classes - (c.loop-i._i + 1) in
    let k : n ≡ suc m = omega arith in
    let more : typed_at c.push.new.self.items ≡ line ++ class.now ∷ [] = ap (λ (l : List (Bor TypedClass)). typed_at l) c.in_ok-push.ensures.items ∙ map-append (λ (r : Bor TypedClass). r.now) c.loop-i.line.items (class ∷ []) in
    ap (λ (l : List TypedClass). l ++ upwards m classes up) more
    ∙ (goes_on classes line n m c.loop-i.name.now class.now up k (sym c.in-Some.ensures) c.in-Some-superclass.is ∙ c.loop-i.invariant)
