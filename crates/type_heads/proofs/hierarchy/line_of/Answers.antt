use Rattle.std.proofs.Common.{◌≡◌, ◌-◌, ◌+◌, suc, zero, List, [], ◌∷◌, ◌++◌, length, true, false, Some, sym, ◌∙◌, ap, arith}
use Rattle.std.specs.Borrow.{Bor}
use Rattle.std.proofs.lemmas.List.{map-append}
use Rattle.iface_codec.specs.declared.iface.Iface.{Iface}
use Rattle.type_rules.specs.Types.{is_among}
use Rattle.type_rules.specs.Heads.{head_of}
use Rattle.type_rules.specs.Lookups.{climb, class_names}
use Rattle.type_heads.specs.Supertypes.{classes_at}
use Rattle.type_heads.proofs.Levels.{ends, none_behind, met_behind, unknown_behind, class_behind}
use Rattle.type_heads.proofs.hierarchy.line_of.Goals as goal

pub returns-in_default : goal.returns-in_default
returns-in_default c =
    let heads = c.args.heads.now in
    let line = classes_at c.loop-i.line.items in
    let n = length heads - c.loop-i._i in
    ends line (climb n heads (class_names line) c.loop-i.next.now) (ap (climb n heads (class_names line)) c.in_default.is ∙ none_behind n heads (class_names line)) ∙ c.loop-i.invariant

pub returns-then-names_one : goal.returns-then-names_one
returns-then-names_one c =
    let heads = c.args.heads.now in
    let line = classes_at c.loop-i.line.items in
    let n = length heads - c.loop-i._i in
    let met : is_among c.in-Some.name (class_names line) ≡ true = ap (λ l. is_among c.in-Some.name (class_names (classes_at l))) (sym c.as_slice.ensures.value) ∙ (sym c.names_one.ensures ∙ c.if-names_one.true) in
    ends line (climb n heads (class_names line) c.loop-i.next.now) (ap (climb n heads (class_names line)) c.in-Some.is ∙ met_behind n heads (class_names line) c.in-Some.name met) ∙ c.loop-i.invariant

pub returns-in_default-head_of : goal.returns-in_default-head_of
returns-in_default-head_of c =
    let heads = c.args.heads.now in
    let line = classes_at c.loop-i.line.items in
    let n = length heads - c.loop-i._i in
    ends line (climb n heads (class_names line) c.loop-i.next.now) (ap (climb n heads (class_names line)) c.in-Some.is ∙ unknown_behind n heads (class_names line) c.in-Some.name (sym c.in_default-head_of.ensures)) ∙ c.loop-i.invariant

pub loop-i-preserved : goal.loop-i-preserved
loop-i-preserved c =
    let heads = c.args.heads.now in
    let line = classes_at c.loop-i.line.items in
    let class = c.in-Some-head_of.class in
    let n = length heads - c.loop-i._i in
    let m = length heads - (c.loop-i._i + 1) in
    let k : n ≡ suc m = omega arith in
    let other : is_among c.in-Some.name (class_names line) ≡ false = ap (λ l. is_among c.in-Some.name (class_names (classes_at l))) (sym c.as_slice.ensures.value) ∙ (sym c.names_one.ensures ∙ c.if-names_one.false) in
    let more : classes_at c.push-in-loop-i.new.self.items ≡ line ++ class.now ∷ [] = ap classes_at c.in_ok-push-2.ensures.items ∙ map-append (λ (r : Bor Iface). r.now) c.loop-i.line.items (class ∷ []) in
    ap (λ (l : List Iface). l ++ climb m heads (class_names l) class.now.superclass) more
    ∙ (class_behind n m heads line c.in-Some.name class.now k other (sym c.in-Some-head_of.ensures) ∙ (ap (λ o. line ++ climb n heads (class_names line) o) (sym c.in-Some.is) ∙ c.loop-i.invariant))

pub returns : goal.returns
returns c =
    let heads = c.args.heads.now in
    let line = classes_at c.loop-i.line.items in
    let none : length heads - c.loop-i._i ≡ zero = omega arith in
    ends line (climb (length heads - c.loop-i._i) heads (class_names line) c.loop-i.next.now) (ap (λ n. climb n heads (class_names line) c.loop-i.next.now) none) ∙ c.loop-i.invariant
