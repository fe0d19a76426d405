use Rattle.std.proofs.Common.{◌≤◌, ◌+◌, ◌*◌, List, ℕ, take}
use Rattle.iface_codec.specs.Hierarchy.{hier_of}
use Rattle.jp_pred.specs.Names.{In}
use Rattle.jp_pred.specs.Marks.{unmarked, Grows, Done, Closed}
use Rattle.type_heads.proofs.under.+visit.Given as goal

abbrev pub decreases-visit : goal.decreases-visit
decreases-visit l = 2 * unmarked l.marks.now

abbrev pub decreases-visit_all : goal.decreases-visit_all
decreases-visit_all l = 2 * unmarked l.marks.now + 1

abbrev pub decreases-visit_superclass : goal.decreases-visit_superclass
decreases-visit_superclass l = 2 * unmarked l.marks.now + 1

abbrev pub invariant-visit_all-loop-name : goal.invariant-visit_all-loop-name
invariant-visit_all-loop-name l = record {
  grows : Grows l.initial.marks l.marks;
  less : unmarked l.marks ≤ unmarked l.initial.marks;
  closed : Closed (hier_of l.heads) l.upper l.initial.marks l.marks;
  done : (p : List ℕ) → In p (take l.name-index l.names) → Done (hier_of l.heads) l.upper l.marks p;
}
