use Rattle.std.proofs.Common.{◌≡◌, ◌+◌, ◌-◌, [], ◌∷◌, ◌++◌, suc, zero, true, false, length, sym, ap, ◌∙◌, arith, append-nil, append_assoc}
use Rattle.jp_store.specs.Classes.{is_among, super_of}
use Rattle.jvm_load.specs.FileClasses.{classes_of}
use Rattle.jvm_load.proofs.LineLemmas.{above, above_ends, above_met, above_new}
use Rattle.jvm_load.proofs.walk.walk_up.Goals as goal

pub returns-then-contains : goal.returns-then-contains
returns-then-contains c =
    let k = length c.args.files.now - c.loop-i._i in
    let classes = classes_of c.args.files.now in
    let up = c.loop-i.up.items in
    let met : is_among c.in-Some.at up ≡ true = ap (is_among c.in-Some.at) (sym c.as_slice.ensures.value) ∙ sym c.if-contains.ensures.value in
    let none : above k classes up c.loop-i.next ≡ [] = ap (above k classes up) c.in-Some.is ∙ above_met k classes up c.in-Some.at met in
    sym (append-nil up) ∙ ap (λ l. up ++ l) (sym none) ∙ c.loop-i.invariant

pub loop-i-preserved : goal.loop-i-preserved
loop-i-preserved c =
    let classes = classes_of c.args.files.now in
    let up = c.loop-i.up.items in
    let at = c.in-Some.at in
    let next = c.super_place-next.result in
    let n = length c.args.files.now - (c.loop-i._i + 1) in
    let k : length c.args.files.now - c.loop-i._i ≡ suc n = omega arith in
    let new : is_among at up ≡ false = ap (is_among at) (sym c.as_slice.ensures.value) ∙ sym c.if-contains.ensures.value in
    let step : above (length c.args.files.now - c.loop-i._i) classes up c.loop-i.next ≡ at ∷ above n classes (up ++ at ∷ []) (super_of classes at)
    = ap (λ j. above j classes up c.loop-i.next) k ∙ ap (above (suc n) classes up) c.in-Some.is ∙ above_new n classes up at new in
    ap (λ l. l ++ above n classes l next) c.in_ok-push.ensures.items
    ∙ ap (λ s. (up ++ at ∷ []) ++ above n classes (up ++ at ∷ []) s) c.super_place-next.ensures.place
    ∙ append_assoc up (at ∷ []) (above n classes (up ++ at ∷ []) (super_of classes at))
    ∙ ap (λ l. up ++ l) (sym step) ∙ c.loop-i.invariant

pub returns : goal.returns
returns c =
    let classes = classes_of c.args.files.now in
    let up = c.loop-i.up.items in
    let k : length c.args.files.now - c.loop-i._i ≡ zero = omega arith in
    sym (append-nil up) ∙ ap (λ l. up ++ l) (sym (ap (λ n. above n classes up c.loop-i.next) k ∙ above_ends classes up c.loop-i.next)) ∙ c.loop-i.invariant
