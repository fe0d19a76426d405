use Rattle.std.proofs.Common.{rules, sym, subst, List}
use Rattle.iface_codec.specs.Hierarchy.{seen_class, hier_of}
use Rattle.jp_pred.specs.Names.{Word, In}
use Rattle.jp_pred.specs.Hierarchy.{Ascends, stop}
use Rattle.jp_pred.proofs.Ascents.{same_true}
use Rattle.jp_pred.proofs.Visits.{in_super, in_face, up_from, closed_visit, closed_more, in_get_or, done_more}
use Rattle.type_heads.proofs.Search.{head_found}
use Rattle.type_heads.proofs.under.+visit.Goals as goal

pub visit-returns-then-eq-clause-found : goal.visit-returns-then-eq-clause-found
visit-returns-then-eq-clause-found t c = λ h. subst (λ (x : Word). Ascends (hier_of c.args.heads.now) c.args.name.now x) (same_true c.args.name.now c.args.upper.now (search (rules, c.eq.ensures, c.if-eq.true))) stop

pub visit-returns-then-visit_superclass-clause-found : goal.visit-returns-then-visit_superclass-clause-found
visit-returns-then-visit_superclass-clause-found t c = λ h.
    let x = c.index-heads-at.result in
    let e = head_found c.args.heads.now c.args.name.now c.in-Some.at x (search (rules, c.in-Some.ensures.place)) (search (rules, c.in-Some.ensures.within)) (search (rules, c.index-heads-at.is)) in
    let r = c.if-visit_superclass.ensures.found h in
    up_from (hier_of c.args.heads.now) c.args.name.now c.args.upper.now (seen_class x) r.0 e.1 (in_super (seen_class x) r.0 r.1) r.2

pub visit-returns-clause-found : goal.visit-returns-clause-found
visit-returns-clause-found t c = λ h.
    let x = c.index-heads-at.result in
    let e = head_found c.args.heads.now c.args.name.now c.in-Some.at x (search (rules, c.in-Some.ensures.place)) (search (rules, c.in-Some.ensures.within)) (search (rules, c.index-heads-at.is)) in
    let r = c.visit_all.ensures.found h in
    up_from (hier_of c.args.heads.now) c.args.name.now c.args.upper.now (seen_class x) r.0 e.1
    (in_face (seen_class x) r.0 (subst (λ (xs : List Word). In r.0 xs) c.as_slice.ensures r.1)) r.2

pub visit-returns-clause-closed : goal.visit-returns-clause-closed
visit-returns-clause-closed t c = λ h.
    let x = c.index-heads-at.result in
    let e = head_found c.args.heads.now c.args.name.now c.in-Some.at x (search (rules, c.in-Some.ensures.place)) (search (rules, c.in-Some.ensures.within)) (search (rules, c.index-heads-at.is)) in
    closed_visit (hier_of c.args.heads.now) c.args.upper.now c.args.marks.now c.visit_superclass.new.marks c.visit_all.new.marks c.in-Some.at (seen_class x) e.0
    (c.if-visit_superclass.ensures.closed (search rules)) (c.visit_all.ensures.closed h) c.visit_all.ensures.grows
    (c.if-visit_superclass.ensures.done (search rules)) (λ p i. c.visit_all.ensures.done h p (subst (λ (xs : List Word). In p xs) (sym c.as_slice.ensures) i))

pub visit_all-returns-then-visit-clause-found : goal.visit_all-returns-then-visit-clause-found
visit_all-returns-then-visit-clause-found t c = λ h. (
  c.name-item.result,
  subst (λ (x : Word). In x c.args.names.now) (sym c.name-item.is) (in_get_or c.args.names.now c.loop-name.name-index c.name-item.result c.loop-name-test.true),
  c.if-visit.ensures.found h,
)

pub visit_all-loop-name-preserved : goal.visit_all-loop-name-preserved
visit_all-loop-name-preserved t c = record {
  grows = λ i h. c.visit.ensures.grows i (c.loop-name.invariant.grows i h);
  less = search rules;
  closed = closed_more (hier_of c.args.heads.now) c.args.upper.now c.args.marks.now c.loop-name.marks c.visit.new.marks c.loop-name.invariant.closed (c.if-visit.ensures.closed (search rules)) c.visit.ensures.grows;
  done = done_more (hier_of c.args.heads.now) c.args.upper.now c.loop-name.marks c.visit.new.marks c.args.names.now c.loop-name.name-index c.name-item.result c.name-item.result c.loop-name-test.true (search rules) (search rules)
      c.visit.ensures.grows c.loop-name.invariant.done (c.if-visit.ensures.done (search rules));
}
