use Rattle.std.proofs.Common.{◌≡◌, ◌-◌, ◌+◌, suc, zero, List, [], ◌∷◌, ◌++◌, length, true, false, sym, ◌∙◌, ap, arith}
use Rattle.std.specs.Borrow.{Bor}
use Rattle.std.proofs.lemmas.List.{map-append}
use Rattle.iface_codec.specs.declared.iface.Iface.{Iface}
use Rattle.type_rules.specs.Types.{is_among}
use Rattle.type_rules.specs.Lookups.{climb, class_names}
use Rattle.type_heads.specs.Supertypes.{classes_at}
use Rattle.type_heads.proofs.Levels.{ends, none_behind, met_behind, unknown_behind, class_behind}
use Rattle.decl_rules.proofs.upwards.line_above.Goals as goal

-- what is behind a class
rest_of : (h : Iface) (xs ys : List Iface) → h ∷ xs ≡ h ∷ ys → xs ≡ ys
rest_of h xs ys e = cc

pub returns-in_default : goal.returns-in_default
returns-in_default c =
    let heads = c.args.heads.now in
    let own = c.args.own.now in
    let line = classes_at c.loop-i.line.items in
    let met = class_names (own ∷ line) in
    let n = length heads - c.loop-i._i in
    rest_of own _ _ (ends (own ∷ line) (climb n heads met c.loop-i.next.now) (ap (climb n heads met) c.in_default.is ∙ none_behind n heads met) ∙ c.loop-i.invariant)

pub returns-then-is_met : goal.returns-then-is_met
returns-then-is_met c =
    let heads = c.args.heads.now in
    let own = c.args.own.now in
    let line = classes_at c.loop-i.line.items in
    let met = class_names (own ∷ line) in
    let n = length heads - c.loop-i._i in
    let name = c.in-Some.name in
    let again : is_among name met ≡ true = ap (λ l. is_among name (class_names (own ∷ classes_at l))) (sym c.as_slice.ensures.value) ∙ (sym c.is_met.ensures ∙ c.if-is_met.true) in
    rest_of own _ _ (ends (own ∷ line) (climb n heads met c.loop-i.next.now) (ap (climb n heads met) c.in-Some.is ∙ met_behind n heads met name again) ∙ c.loop-i.invariant)

pub returns-in_default-head_of : goal.returns-in_default-head_of
returns-in_default-head_of c =
    let heads = c.args.heads.now in
    let own = c.args.own.now in
    let line = classes_at c.loop-i.line.items in
    let met = class_names (own ∷ line) in
    let n = length heads - c.loop-i._i in
    rest_of own _ _ (ends (own ∷ line) (climb n heads met c.loop-i.next.now) (ap (climb n heads met) c.in-Some.is ∙ unknown_behind n heads met c.in-Some.name (sym c.in_default-head_of.ensures)) ∙ c.loop-i.invariant)

pub loop-i-preserved : goal.loop-i-preserved
loop-i-preserved c =
    let heads = c.args.heads.now in
    let own = c.args.own.now in
    let line = classes_at c.loop-i.line.items in
    let class = c.in-Some-head_of.class in
    let name = c.in-Some.name in
    let n = length heads - c.loop-i._i in
    let m = length heads - (c.loop-i._i + 1) in
    let k : n ≡ suc m = omega arith in
    let other : is_among name (class_names (own ∷ line)) ≡ false = ap (λ l. is_among name (class_names (own ∷ classes_at l))) (sym c.as_slice.ensures.value) ∙ (sym c.is_met.ensures ∙ c.if-is_met.false) in
    let more : classes_at c.push.new.self.items ≡ line ++ class.now ∷ [] = ap classes_at c.in_ok-push.ensures.items ∙ map-append (λ (r : Bor Iface). r.now) c.loop-i.line.items (class ∷ []) in
    ap (λ (l : List Iface). (own ∷ l) ++ climb m heads (class_names (own ∷ l)) class.now.superclass) more
    ∙ (class_behind n m heads (own ∷ line) name class.now k other (sym c.in-Some-head_of.ensures) ∙ (ap (λ o. (own ∷ line) ++ climb n heads (class_names (own ∷ line)) o) (sym c.in-Some.is) ∙ c.loop-i.invariant))

pub returns : goal.returns
returns c =
    let heads = c.args.heads.now in
    let own = c.args.own.now in
    let line = classes_at c.loop-i.line.items in
    let met = class_names (own ∷ line) in
    let none : length heads - c.loop-i._i ≡ zero = omega arith in
    rest_of own _ _ (ends (own ∷ line) (climb (length heads - c.loop-i._i) heads met c.loop-i.next.now) (ap (λ n. climb n heads met c.loop-i.next.now) none) ∙ c.loop-i.invariant)
