-- The rules of names in code: 12, 22 and 23. Each definition is true of a node that breaks the rule.
use Rattle.std.specs.Prelude.{ℕ, map, length, Bool, false, not, ◌&&◌, ◌||◌, None}
use Rattle.std.specs.Option.{option_map_or, is_none}
use Rattle.jp_pred.specs.Names.{Word}
use Rattle.jp_ast.specs.declared.expr.ExprKind.TheOpen as e
use Rattle.jp_meaning.specs.Classes.{is_static}
use Rattle.type_rules.specs.declared.scope.Scope.{Scope}
use Rattle.type_rules.specs.Types.{is_among}
use Rattle.type_rules.specs.Names.{names_of, variable_of, own_field, is_value_name, is_class_name, called}
use Rattle.type_rules.specs.GuardPaths.{guard_names}
use Rattle.type_rules.specs.Nodes.{Node, AtParam, AtAtom, AtStmt, AtExpr, Declares, TestsClass, NamesPath}

-- 12. No parameter, alias or local has the name of another that is in scope there.
abbrev pub rule_12 : Node → Bool
rule_12 (AtParam earlier p) = is_among p.name (map (λ q. q.name) earlier)
rule_12 (AtAtom g (TestsClass path class alias)) = option_map_or (λ name. is_among name (guard_names g)) alias false
rule_12 (AtAtom g (NamesPath path name)) = is_among name (guard_names g)
rule_12 (AtStmt s (Declares t name value)) = is_among name (names_of s.variables)
rule_12 _ = false

-- 22. A name in an expression is that of a variable in scope or of a field of the class that is seen there, or, before a
-- dot, that of a class.
abbrev pub rule_22 : Node → Bool
rule_22 (AtExpr s r (e.Var name)) = not (is_value_name s name || is_class_name s r name)
rule_22 _ = false

-- the name is that of an instance field of the class
abbrev pub is_instance_field : Scope → Word → Bool
is_instance_field s name = is_none (variable_of s name) && option_map_or (λ f. not f.1.is_static) (own_field s name) false

-- the name, called without anything before it, is that of an instance method
abbrev pub is_instance_call : Scope → Word → ℕ → Bool
is_instance_call s name count = option_map_or (λ m. not (is_static m.1.kind)) (called s None name count) false

-- 23. A static method has no receiver: no `this` or `super`, and no instance field or instance method by its name alone,
-- stands in it.
abbrev pub rule_23 : Node → Bool
rule_23 (AtExpr s r e.This) = s.is_static
rule_23 (AtExpr s r (e.SuperCall name args)) = s.is_static
rule_23 (AtExpr s r (e.Var name)) = s.is_static && is_instance_field s name
rule_23 (AtExpr s r (e.Call None name args)) = s.is_static && is_instance_call s name (length args)
rule_23 _ = false
