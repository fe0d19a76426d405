-- The rules of expressions: 21, and 24 to 34. Each definition is true of a node that breaks the rule.
use Rattle.std.specs.Prelude.{ℕ, List, length, Bool, true, false, not, ◌&&◌, ◌||◌, ◌==◌, Option, Some, None, if◌then◌else◌, codes}
use Rattle.std.specs.List.{list_all}
use Rattle.std.specs.Option.{option_map_or, option_and_then, is_some, is_none}
use Rattle.jp_pred.specs.Names.{Word, object, same}
use Rattle.iface_codec.specs.declared.iface.IfaceMethod.{IfaceMethod}
use Rattle.jp_ast.specs.declared.sign.TheConstants as sign
use Rattle.jp_ast.specs.declared.expr.ExprKind.TheOpen as e
use Rattle.jp_meaning.specs.Classes.{is_static}
use Rattle.type_rules.specs.declared.scope.Scope.{Scope}
use Rattle.type_rules.specs.declared.seen.Known.{Known}
use Rattle.type_rules.specs.declared.seen.Seen.{Seen}
use Rattle.type_rules.specs.declared.seen.Seen.TheVariants as seen
use Rattle.type_rules.specs.declared.seen.Role.{Role}
use Rattle.type_rules.specs.declared.seen.Role.TheVariants as role
use Rattle.type_rules.specs.Types.{is_void, is_named}
use Rattle.type_rules.specs.Heads.{head_of, is_concrete}
use Rattle.type_rules.specs.Lookups.{field_that}
use Rattle.type_rules.specs.Assigning.{is_text, typed, isnt, differ, an_int, a_boolean, an_array, comparable, joins, some_misfit}
use Rattle.type_rules.specs.Signs.{group_of, takes_ints, is_bits, is_logic, is_equality}
use Rattle.type_rules.specs.Names.{class_of_value, called, super_method, is_class_seen, is_text_call}
use Rattle.type_rules.specs.RulesOfDeclarations.{cant_construct}
use Rattle.type_rules.specs.Nodes.{Node, AtSummand, AtStmt, AtExpr, Tests}

-- the role is directly behind a minus sign
abbrev pub is_negated : Role → Bool
is_negated role.Negated = true
is_negated _ = false

abbrev pub is_alone : Role → Bool
is_alone role.Alone = true
is_alone _ = false

abbrev pub is_shown : Role → Bool
is_shown role.Shown = true
is_shown _ = false

-- the least number that no int is, written in decimal digits
abbrev pub is_too_large : ℕ → Bool → Bool
is_too_large value hex = value == 2147483648 && not hex

-- 21. 2147483648 in decimal digits has a minus sign directly in front of it: a sign of the expression, or the summand's
-- own.
abbrev pub rule_21 : Node → Bool
rule_21 (AtExpr s r (e.Number value hex)) = is_too_large value hex && not (is_negated r)
rule_21 (AtSummand x) = option_map_or (λ n. is_too_large n.0 n.1) x.factor false && not x.negative
rule_21 _ = false

-- 24. `+ - * / %`, `~`, shifts and `< <= > >=` take ints.
abbrev pub rule_24 : Node → Bool
rule_24 (AtExpr s r (e.Unary n right)) = not (n == sign.NOT) && isnt an_int right
rule_24 (AtExpr s r (e.Binary n left right)) = takes_ints (group_of n) && (isnt an_int left || isnt an_int right)
rule_24 _ = false

-- 25. `! && ||` and conditions take booleans.
abbrev pub rule_25 : Node → Bool
rule_25 (AtExpr s r (e.Unary n right)) = n == sign.NOT && isnt a_boolean right
rule_25 (AtExpr s r (e.Binary n left right)) = is_logic (group_of n) && (isnt a_boolean left || isnt a_boolean right)
rule_25 (AtExpr s r (e.Cond test first second)) = isnt a_boolean test
rule_25 (AtStmt s (Tests test)) = isnt a_boolean test
rule_25 _ = false

-- both are ints, or both booleans
abbrev pub are_bits : Known → Known → Bool
are_bits a b = (an_int a && an_int b) || (a_boolean a && a_boolean b)

-- 26. `& | ^` take two ints or two booleans.
abbrev pub rule_26 : Node → Bool
rule_26 (AtExpr s r (e.Binary n left right)) = is_bits (group_of n) && differ are_bits left right
rule_26 _ = false

-- 27. `== !=` take two ints, two booleans, or two references of which one fits the other's type, or of which one is of an
-- interface and the other is no array.
abbrev pub rule_27 : Node → Bool
rule_27 (AtExpr s r (e.Binary n left right)) = is_equality (group_of n) && differ (comparable s.heads) left right
rule_27 _ = false

-- null, or of a class or interface type
abbrev pub may_be_cast : Known → Bool
may_be_cast k = k.is_null || is_named k.expr.ty

-- 28. What is cast or asked for by `instanceof` is null or of a class or an interface.
abbrev pub rule_28 : Node → Bool
rule_28 (AtExpr s r (e.Cast class value)) = isnt may_be_cast value
rule_28 (AtExpr s r (e.InstanceOf value class)) = isnt may_be_cast value
rule_28 _ = false

-- 29. One of the two values of `?:` fits the type of the other, which is the type of the whole.
abbrev pub rule_29 : Node → Bool
rule_29 (AtExpr s r (e.Cond test first second)) = differ (joins s.heads) first second
rule_29 _ = false

-- an array has a length alone, and an object the instance fields of its class that are seen here
abbrev pub has_field : Scope → Word → Known → Bool
has_field s name k =
    if an_array k then same name (codes "length") else is_some (option_and_then (λ class. field_that false s.heads s.class class name) (class_of_value k))

abbrev pub lacks_field : Scope → Word → Seen → Bool
lacks_field s name (seen.Class class) = is_none (field_that true s.heads s.class class name)
lacks_field s name object = isnt (has_field s name) object

-- 30. A field that is read exists and is seen there; a static one is read of a class, another of an object. Of an array
-- `length` is read.
abbrev pub rule_30 : Node → Bool
rule_30 (AtExpr s r (e.Field object name)) = lacks_field s name object
rule_30 _ = false

-- 31. What has elements is an array; an index and the size of a new array are ints.
abbrev pub rule_31 : Node → Bool
rule_31 (AtExpr s r (e.Index array index)) = isnt an_array array || isnt an_int index
rule_31 (AtExpr s r (e.NewArray elem size)) = isnt an_int size
rule_31 _ = false

-- it is known what stands before the dot, or nothing does
abbrev pub is_judged : Option Seen → Bool
is_judged None = true
is_judged (Some (seen.Class class)) = true
is_judged (Some part) = is_some (typed part)

-- the method is static exactly behind a class; without anything before it both may be called
abbrev pub is_of_wrong_kind : Option Seen → IfaceMethod → Bool
is_of_wrong_kind None m = false
is_of_wrong_kind (Some object) m = if is_class_seen object then not (is_static m.kind) else is_static m.kind

-- a call of the method breaks the rule: by its kind, its arguments, or as a value that it doesn't have
abbrev pub miscalled : Scope → Role → Option Seen → List Seen → Word × IfaceMethod → Bool
miscalled s r object args m =
    is_of_wrong_kind object m.1 || some_misfit s.heads args m.1.params || (is_void m.1.result && not (is_alone r))

-- 32. A method that is called exists with that number of parameters, and the arguments fit; a static one is called of a
-- class, another of an object, and by its name alone either. A call without a result is a statement. A text stands only as
-- the argument of `Io.text`, which takes nothing else.
abbrev pub rule_32 : Node → Bool
rule_32 (AtExpr s r (e.Call object name args)) =
    is_judged object && (option_map_or (miscalled s r object args) (called s object name (length args)) true
    || (is_text_call object name && not (list_all is_text args)))
rule_32 (AtExpr s r (e.SuperCall name args)) =
    option_map_or (λ m. is_void m.1.result && not (is_alone r)) (super_method s name (length args)) false
rule_32 (AtExpr s r (e.Text text)) = not (is_shown r)
rule_32 _ = false

-- 33. `new C(..)` is of a class that isn't abstract, with a constructor of that number of parameters, and the arguments
-- fit.
abbrev pub rule_33 : Node → Bool
rule_33 (AtExpr s r (e.New class args)) = option_map_or (λ h. not (is_concrete h) || cant_construct s.heads args h) (head_of s.heads class) true
rule_33 _ = false

-- 34. The direct superclass of a class with `super.f(..)` isn't Object or abstract and has, itself or from above, an
-- instance method `f` of that number of parameters; the arguments fit.
abbrev pub rule_34 : Node → Bool
rule_34 (AtExpr s r (e.SuperCall name args)) = option_map_or (λ m. some_misfit s.heads args m.1.params) (super_method s name (length args)) true
rule_34 _ = false
