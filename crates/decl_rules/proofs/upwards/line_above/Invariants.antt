use Rattle.std.proofs.Common.{◌≡◌, ◌-◌, ◌∷◌, ◌++◌, length}
use Rattle.type_rules.specs.Lookups.{climb, class_names, superclasses}
use Rattle.type_heads.specs.Supertypes.{classes_at}
use Rattle.decl_rules.proofs.upwards.line_above.Given as goal

-- with those that are still to come
abbrev pub invariant-loop-i : goal.invariant-loop-i
invariant-loop-i l =
    (l.own ∷ classes_at l.line.items) ++ climb (length l.heads - l._i) l.heads (class_names (l.own ∷ classes_at l.line.items)) l.next ≡ l.own ∷ superclasses l.heads l.own
