-- Types at one place of two lists.
use Rattle.std.specs.Prelude.{ℕ, List, Bool, false, slice_get}
use Rattle.std.specs.Option.{option_map_or}
use Rattle.jp_pred.specs.declared.ty.Ty.{Ty}
use Rattle.type_rules.specs.Types.{agree}

-- both lists have a type there, and they agree
abbrev pub agree_at : List Ty → List Ty → ℕ → Bool
agree_at ts us i = option_map_or (λ t. option_map_or (agree t) (slice_get us i) false) (slice_get ts i) false
