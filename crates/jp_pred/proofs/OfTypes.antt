-- What the test of a kind against a type says.
use Rattle.std.proofs.Common.{List, [], ◌∷◌}
use Rattle.std.specs.Bool.{Decides}
use Rattle.jp_pred.specs.declared.hier.Hier.{Hier}
use Rattle.jp_pred.specs.declared.shape.Kind.{Kind}
use Rattle.jp_pred.specs.declared.shape.Kind.TheVariants as kind
use Rattle.jp_pred.specs.declared.ty.Ty.{Ty}
use Rattle.jp_pred.specs.declared.ty.Ty.TheVariants as ty
use Rattle.jp_pred.specs.Names.{Word}
use Rattle.jp_pred.specs.Hierarchy.{HasNoCycle, is_below}
use Rattle.jp_pred.specs.Kinds.{SomeBelow, IsOf}
use Rattle.jp_pred.specs.Truth.{some_below, kind_below}
use Rattle.jp_pred.proofs.Lists.{any_from_in, in_from_any}
use Rattle.jp_pred.proofs.Ascents.{is_below-Decides}

pub some_below-Decides : (u : Hier) (names : List Word) (t : Ty) → HasNoCycle u → Decides (some_below u names t) (SomeBelow u names t)
some_below-Decides u names (ty.Class c) free = (
  (λ h. let f = in_from_any (λ n. is_below u n c) names h in (f.0, f.1, (is_below-Decides u f.0 c free).0 f.2)),
  (λ s. any_from_in (λ n. is_below u n c) s.1 ((is_below-Decides u s.0 c free).1 s.2)),
)
some_below-Decides u names ty.Void free = ((λ h. absurd cc), (λ s. absurd s))
some_below-Decides u names ty.Int free = ((λ h. absurd cc), (λ s. absurd s))
some_below-Decides u names ty.Boolean free = ((λ h. absurd cc), (λ s. absurd s))
some_below-Decides u names ty.IntArray free = ((λ h. absurd cc), (λ s. absurd s))
some_below-Decides u names ty.BooleanArray free = ((λ h. absurd cc), (λ s. absurd s))
some_below-Decides u names (ty.ClassArray c) free = ((λ h. absurd cc), (λ s. absurd s))

pub kind_below-Decides : (u : Hier) (k : Kind) (t : Ty) → HasNoCycle u → Decides (kind_below u k t) (IsOf u k t)
kind_below-Decides u kind.Null t free = ((λ h. absurd cc), (λ s. absurd s))
kind_below-Decides u kind.Array t free = ((λ h. h), (λ h. h))
kind_below-Decides u (kind.Known name) t free = some_below-Decides u (name ∷ []) t free
kind_below-Decides u (kind.Fresh superclass interfaces) t free = some_below-Decides u (superclass ∷ interfaces) t free
