use Rattle.std.proofs.Common.{rules, ◌≡◌, ℕ, ◌+◌, ◌≤◌, List, [], ◌∷◌, ◌++◌, length, sym, ap, subst, arith}
use Rattle.jp_store.specs.Classes.{line}
use Rattle.jvm_load.specs.FileClasses.{class_of, classes_of}
use Rattle.jvm_load.specs.Places.{AreOffsets}
use Rattle.jvm_load.proofs.LineLengths.{line_from_length}
use Rattle.jvm_load.proofs.Before.{AreDistinct, IsPart, part_first, part_more, part_last, line_distinct}
use Rattle.std.proofs.lemmas.List.{length-map}
use Rattle.jvm_load.proofs.offsets.offsets_of.Goals as goal

pub loop-class-init : goal.loop-class-init
loop-class-init c = subst (λ (l : List ℕ). IsPart (classes_of c.args.files.now) c.args.up.now c.args.up.now l 0) (sym c.new-offsets.ensures.items) (part_first (classes_of c.args.files.now) c.args.up.now)

pub overflow_add-before : goal.overflow_add-before
overflow_add-before c =
    let files = c.args.files.now in
    let classes = classes_of files in
    let count = length-map files class_of in
    let long = ap length c.requires.line in
    let most : length (line classes c.args.at) ≤ length classes = line_from_length (length classes) classes [] c.args.at in
    omega (arith, count, long, most, c.requires.loadable.count, c.loop-class.invariant.bound, c.own_count-before.ensures.most)

pub loop-class-preserved : goal.loop-class-preserved
loop-class-preserved c =
    let classes = classes_of c.args.files.now in
    let l = c.loop-class in
    let distinct : AreDistinct c.args.up.now = subst AreDistinct (sym c.requires.line) (line_distinct classes c.args.at) in
    let split : l.rest.now ≡ c.in-Some.below.now ++ c.in-Some.class.now ∷ [] = search rules in
    let few = c.own_count-before.ensures in
    let more = part_more classes c.args.up.now l.rest.now c.in-Some.below.now l.offsets.items c.in-Some.class.now l.before distinct split l.invariant (omega (arith, few.count, few.most)) in
    subst (λ (o : List ℕ). IsPart classes c.args.up.now c.in-Some.below.now o (l.before + c.own_count-before.result)) (sym c.in_ok-push.ensures.items)
    (subst (λ (n : ℕ). IsPart classes c.args.up.now c.in-Some.below.now (l.offsets.items ++ l.before ∷ []) (l.before + n)) (sym few.count) more)

pub returns : goal.returns
returns c =
    let classes = classes_of c.args.files.now in
    let l = c.loop-class in
    let none : length l.rest.now ≡ 0 = search rules in
    subst (λ (up : List ℕ). AreOffsets classes up l.offsets.items) c.requires.line (part_last classes c.args.up.now l.rest.now l.offsets.items l.before none l.invariant)
