use Rattle.std.proofs.Common.{◌≡◌, ℕ, ◌<◌, ◌+◌, min, Some, List, take, length, refl, sym, ap, subst, arith}
use Rattle.std.proofs.lemmas.List.{length_push, length-take}
use Rattle.std.proofs.lemmas.Iterator.Adapters.{YieldsList-from_vec}
use Rattle.std.proofs.lemmas.Iterator.Consumers.{YieldsList-turn, YieldsList-end}
use Rattle.jp_ast.specs.declared.decl.Member.{Member}
use Rattle.type_decl.specs.declared.walking.Walked.{Walked}
use Rattle.type_decl.specs.SettledMembers.{SettlesMembers}
use Rattle.type_decl.proofs.Opens.{as_many}
use Rattle.type_decl.proofs.Settles.{Settling, none_settled, one_more_settled, next_within, next_walked, next_few, all_settled}
use Rattle.type_decl.proofs.settling.settle_members.Goals as goal

pub loop-one-init : goal.loop-one-init
loop-one-init c =
    none_settled c.args.heads.now c.args.decl.now c.as_slice-members.result.now c.args.first.now.fault (Some c.new.result) c.new-methods.result c.none-places.result (ap Some c.new.ensures) c.new-methods.ensures c.none-places.ensures

pub bounds-members-at : goal.bounds-members-at
bounds-members-at c =
    let h = c.into_iter-one-iterator.ensures.into_iter_gives in
    let count : c.into_iter-one-iterator.result.rest.len ≡ length c.args.walked.items = omega (arith, c.args.walked.ok.0, h.1) in
    let t = YieldsList-turn (YieldsList-from_vec c.args.walked.items h.0 count) c.loop-one.yielded c.loop-one.one-iterator c.loop-one.yielded_by c.next.result c.next.new.self c.in-Some.one c.in-Some.is c.next.ensures.steps in
    next_within c.args.heads.now c.args.decl.now c.as_slice-members.result.now c.args.decl.now.members c.args.walked.items c.args.first.now.fault c.loop-one.first.fault c.loop-one.at (length c.loop-one.yielded) c.loop-one.made c.loop-one.methods c.loop-one.places
    c.loop-one.invariant c.requires.walked c.as_slice-members.ensures t.0

pub slice_bounds-judge-end : goal.slice_bounds-judge-end
slice_bounds-judge-end c =
    let h = c.into_iter-one-iterator.ensures.into_iter_gives in
    let count : c.into_iter-one-iterator.result.rest.len ≡ length c.args.walked.items = omega (arith, c.args.walked.ok.0, h.1) in
    let t = YieldsList-turn (YieldsList-from_vec c.args.walked.items h.0 count) c.loop-one.yielded c.loop-one.one-iterator c.loop-one.yielded_by c.next.result c.next.new.self c.in-Some.one c.in-Some.is c.next.ensures.steps in
    let within : c.loop-one.at < length c.as_slice-members.result.now = next_within c.args.heads.now c.args.decl.now c.as_slice-members.result.now c.args.decl.now.members c.args.walked.items c.args.first.now.fault c.loop-one.first.fault c.loop-one.at (length c.loop-one.yielded) c.loop-one.made c.loop-one.methods c.loop-one.places
    c.loop-one.invariant c.requires.walked c.as_slice-members.ensures t.0 in
    let many : length (take c.loop-one.at c.as_slice-members.result.now) ≡ min c.loop-one.at (length c.as_slice-members.result.now) = length-take c.loop-one.at c.as_slice-members.result.now in
    omega arith

pub judge-requires-clause-walked : goal.judge-requires-clause-walked
judge-requires-clause-walked c =
    let h = c.into_iter-one-iterator.ensures.into_iter_gives in
    let count : c.into_iter-one-iterator.result.rest.len ≡ length c.args.walked.items = omega (arith, c.args.walked.ok.0, h.1) in
    let t = YieldsList-turn (YieldsList-from_vec c.args.walked.items h.0 count) c.loop-one.yielded c.loop-one.one-iterator c.loop-one.yielded_by c.next.result c.next.new.self c.in-Some.one c.in-Some.is c.next.ensures.steps in
    ap (λ (w : Walked). w.super_args)
    (next_walked c.args.heads.now c.args.decl.now c.as_slice-members.result.now c.args.decl.now.members c.args.walked.items c.args.first.now.fault c.loop-one.first.fault c.loop-one.at (length c.loop-one.yielded) c.loop-one.made c.loop-one.methods c.loop-one.places
    c.loop-one.invariant c.requires.walked c.as_slice-members.ensures c.in-Some.one c.index-members-at.result t.0 t.1 c.index-members-at.is)

pub next-part-requires : goal.next-part-requires
next-part-requires c =
    next_few c.args.heads.now c.args.decl.now c.as_slice-members.result.now c.args.decl.now.members c.args.walked.items c.args.first.now.fault c.loop-one.first.fault c.loop-one.at (length c.loop-one.yielded) c.loop-one.made c.loop-one.methods c.loop-one.places
    c.loop-one.invariant c.requires.walked c.as_slice-members.ensures c.requires.few

pub loop-one-preserved : goal.loop-one-preserved
loop-one-preserved c =
    let h = c.into_iter-one-iterator.ensures.into_iter_gives in
    let count : c.into_iter-one-iterator.result.rest.len ≡ length c.args.walked.items = omega (arith, c.args.walked.ok.0, h.1) in
    let t = YieldsList-turn (YieldsList-from_vec c.args.walked.items h.0 count) c.loop-one.yielded c.loop-one.one-iterator c.loop-one.yielded_by c.next.result c.next.new.self c.in-Some.one c.in-Some.is c.next.ensures.steps in
    let heads = c.args.heads.now in
    let d = c.args.decl.now in
    let ms = c.as_slice-members.result.now in
    let within = next_within heads d ms d.members c.args.walked.items c.args.first.now.fault c.loop-one.first.fault c.loop-one.at (length c.loop-one.yielded) c.loop-one.made c.loop-one.methods c.loop-one.places
    c.loop-one.invariant c.requires.walked c.as_slice-members.ensures t.0 in
    let is_walked = next_walked heads d ms d.members c.args.walked.items c.args.first.now.fault c.loop-one.first.fault c.loop-one.at (length c.loop-one.yielded) c.loop-one.made c.loop-one.methods c.loop-one.places
    c.loop-one.invariant c.requires.walked c.as_slice-members.ensures c.in-Some.one c.index-members-at.result t.0 t.1 c.index-members-at.is in
    subst (λ (n : ℕ). Settling heads d ms c.args.first.now.fault c.judge.new.first.fault (c.loop-one.at + 1) n c.in_ok-made.made c.add_method.new.methods c.next-part.new.self) (sym (length_push c.loop-one.yielded c.in-Some.one))
    (one_more_settled heads d ms c.args.first.now.fault c.loop-one.first.fault c.judge.new.first.fault c.loop-one.at (length c.loop-one.yielded) c.loop-one.made c.in_ok-made.made c.loop-one.methods c.add_method.new.methods c.loop-one.places c.next-part.new.self
    c.index-members-at.result (take c.loop-one.at ms) c.in-Some.one c.next-part.result c.in_ok-settled.settled c.loop-one.invariant within c.index-members-at.is refl
    is_walked c.judge.ensures c.next-part.ensures.part c.next-part.ensures.counted c.in_ok-settled.ensures c.in_ok-made.ensures c.in_ok-add_method.ensures)

pub returns : goal.returns
returns c =
    let h = c.into_iter-one-iterator.ensures.into_iter_gives in
    let count : c.into_iter-one-iterator.result.rest.len ≡ length c.args.walked.items = omega (arith, c.args.walked.ok.0, h.1) in
    let t = YieldsList-end (YieldsList-from_vec c.args.walked.items h.0 count) c.loop-one.yielded c.loop-one.one-iterator c.loop-one.yielded_by c.next.result c.next.new.self c.in-None.is c.next.ensures.steps in
    let many : length c.args.walked.items ≡ length c.args.decl.now.members = as_many c.args.heads.now c.args.decl.now c.args.decl.now.members c.args.walked.items c.requires.walked in
    let same : length c.as_slice-members.result.now ≡ length c.args.decl.now.members = ap (λ (ms : List Member). length ms) c.as_slice-members.ensures in
    let ends : length c.loop-one.yielded ≡ length c.args.walked.items = t.1 in
    subst (λ (ms : List Member). SettlesMembers c.args.heads.now c.args.decl.now ms c.args.first.now.fault c.loop-one.first.fault c.loop-one.made c.loop-one.methods) c.as_slice-members.ensures
    (all_settled c.args.heads.now c.args.decl.now c.as_slice-members.result.now c.args.first.now.fault c.loop-one.first.fault c.loop-one.at (length c.loop-one.yielded) c.loop-one.made c.loop-one.methods c.loop-one.places (omega arith) c.loop-one.invariant)
