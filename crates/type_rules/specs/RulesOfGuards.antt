-- The rules of guards: 13 to 20. Each definition is true of a node that breaks the rule.
use Rattle.std.specs.Prelude.{List, Bool, false, not, ◌&&◌, ◌||◌}
use Rattle.std.specs.Option.{option_map_or, is_some, is_none}
use Rattle.jp_pred.specs.declared.ty.Ty.{Ty}
use Rattle.jp_pred.specs.declared.ty.Ty.TheVariants as ty
use Rattle.jp_pred.specs.Names.{Word}
use Rattle.jp_pred.specs.Kinds.{is_reference}
use Rattle.jp_pred.specs.Paths.{same_path, root_path}
use Rattle.iface_codec.specs.declared.iface.Iface.{Iface}
use Rattle.jp_ast.specs.declared.expr.ExprKind.TheOpen as e
use Rattle.jp_meaning.specs.declared.guard.TypedPath.{TypedPath}
use Rattle.type_rules.specs.declared.seen.Known.{Known}
use Rattle.type_rules.specs.Types.{is_int, is_boolean, is_named, is_reserved}
use Rattle.type_rules.specs.Heads.{names_class, are_related}
use Rattle.type_rules.specs.Assigning.{isnt}
use Rattle.type_rules.specs.GuardPaths.{root_of, path_of, isnt_path}
use Rattle.type_rules.specs.Nodes.{Node, AtAtom, AtPath, AtExpr, TestsClass, NamesPath, TestsNull, Stands}

-- 13. A path begins with `this`, with a parameter, or with an alias that is made to the left of it.
abbrev pub rule_13 : Node → Bool
rule_13 (AtPath g compared path) = is_none (root_of g path.place path.root)
rule_13 _ = false

-- 14. Each field on a path is an instance field that the class of the path up to it has; a private one is the guard's own
-- class's.
abbrev pub rule_14 : Node → Bool
rule_14 (AtPath g compared path) = is_some (root_of g path.place path.root) && is_none (path_of g path)
rule_14 _ = false

-- `this` alone
abbrev pub is_this : TypedPath → Bool
is_this p = same_path p.path (root_path 0)

-- 15. What stands before `@` is of a class or an interface, and isn't the receiver by itself.
abbrev pub rule_15 : Node → Bool
rule_15 (AtAtom g (TestsClass path class alias)) = isnt_path is_named path || option_map_or is_this path false
rule_15 _ = false

-- both are classes, and neither is below the other
abbrev pub are_apart : List Iface → Word → Word → Bool
are_apart heads a b = names_class heads a && names_class heads b && not (are_related heads a b)

-- a type is a class, the tested one is a class too, and neither is below the other
abbrev pub excludes : List Iface → Word → Ty → Bool
excludes heads class (ty.Class name) = not (is_reserved class) && not (is_reserved name) && are_apart heads name class
excludes heads class _ = false

abbrev pub excludes_value : List Iface → Word → Known → Bool
excludes_value heads class k = not k.is_null && excludes heads class k.expr.ty

-- 16. Where a class is tested for, cast to or asked for by `instanceof`, and what is tested has a class for its type, one
-- of the two is above the other.
abbrev pub rule_16 : Node → Bool
rule_16 (AtAtom g (TestsClass path class alias)) = option_map_or (λ p. excludes g.heads class p.ty) path false
rule_16 (AtExpr s r (e.Cast class value)) = isnt (λ k. not (excludes_value s.heads class k)) value
rule_16 (AtExpr s r (e.InstanceOf value class)) = isnt (λ k. not (excludes_value s.heads class k)) value
rule_16 _ = false

-- 17. A path that is compared with `null` isn't an int or a boolean.
abbrev pub rule_17 : Node → Bool
rule_17 (AtAtom g (TestsNull path)) = isnt_path is_reference path
rule_17 _ = false

-- 18. The paths of a comparison are ints. It stands at the path.
abbrev pub rule_18 : Node → Bool
rule_18 (AtPath g compared path) = compared && isnt_path is_int (path_of g path)
rule_18 _ = false

-- 19. A path alone is a boolean.
abbrev pub rule_19 : Node → Bool
rule_19 (AtAtom g (Stands path)) = isnt_path is_boolean path
rule_19 _ = false

-- 20. Between an alias and the whole guard there is nothing but `&&`.
abbrev pub rule_20 : Node → Bool
rule_20 (AtAtom g (TestsClass path class alias)) = is_some alias && not g.is_outermost
rule_20 (AtAtom g (NamesPath path name)) = not g.is_outermost
rule_20 _ = false
