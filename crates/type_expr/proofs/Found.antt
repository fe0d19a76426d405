-- What is found in two steps.
use Rattle.std.proofs.Common.{◌≡◌, ℕ, Bool, true, false, List, Option, Some, None, refl, ap, ◌∙◌}
use Rattle.std.specs.Prelude.{if◌then◌else◌}
use Rattle.std.specs.Option.{option_and_then}
use Rattle.jp_ast.specs.declared.token.Place.{Place}
use Rattle.jp_pred.specs.Names.{Word}
use Rattle.iface_codec.specs.declared.iface.IfaceMethod.{IfaceMethod}
use Rattle.jp_meaning.specs.declared.expr.TypedExpr.{TypedExpr}
use Rattle.type_rules.specs.declared.scope.Scope.{Scope}
use Rattle.type_rules.specs.declared.seen.Known.{Known}
use Rattle.type_rules.specs.declared.seen.Seen.{Seen}
use Rattle.type_rules.specs.declared.seen.Seen.TheVariants as seen
use Rattle.type_rules.specs.Types.{is_unknown}
use Rattle.type_rules.specs.Lookups.{method_of}
use Rattle.type_rules.specs.Names.{class_of_value, called}
use Rattle.type_rules.specs.Expressions.{of_found, virtual_call, dot_call}
use Rattle.type_expr.specs.DotCalls.{unknown_call, found_call}

pub found_behind : {A B : Type 0} (f : A → Option B) (o : Option A) (go : B → Seen) → of_found (option_and_then f o) go ≡ of_found o (λ x. of_found (f x) go)
found_behind f None go = refl
found_behind f (Some x) go = refl

twice : {A B : Type 0} (f : A → Option B) (o : Option A) (go : A → B → Seen) → of_found o (λ x. of_found (option_and_then f o) (go x)) ≡ of_found o (λ x. of_found (f x) (go x))
twice f None go = refl
twice f (Some x) go = refl

-- a call on a value, where it is said whether its type is unknown
call_by : (s : Scope) (p : Place) (k : Known) (name : Word) (count : ℕ) (args : List TypedExpr) (u : Bool) →
    (if u then unknown_call p k name args
    else of_found (class_of_value k) (λ class. of_found (option_and_then (λ c. method_of s.heads s.class c name count) (option_and_then class_of_value (if u then None else Some k))) (λ m. virtual_call s p k.expr class m.1 args)))
    ≡ (if u then unknown_call p k name args else of_found (class_of_value k) (λ class. of_found (method_of s.heads s.class class name count) (λ m. virtual_call s p k.expr class m.1 args)))
call_by s p k name count args true = refl
call_by s p k name count args false = twice (λ c. method_of s.heads s.class c name count) (class_of_value k) (λ class m. virtual_call s p k.expr class m.1 args)

called_is : (s : Scope) (p : Place) (object : Seen) (name : Word) (count : ℕ) (args : List TypedExpr) → found_call s p object name (called s (Some object) name count) args ≡ dot_call s p object name count args
called_is s p seen.Faulty name count args = refl
called_is s p (seen.Value k) name count args = call_by s p k name count args (is_unknown k.expr.ty)
called_is s p (seen.Class class) name count args = refl
called_is s p (seen.Text text) name count args = refl

-- a call of the method that is meant
pub found_is : (s : Scope) (p : Place) (object : Seen) (name : Word) (count : ℕ) (args : List TypedExpr) (found : Option (Word × IfaceMethod)) → found ≡ called s (Some object) name count →
    found_call s p object name found args ≡ dot_call s p object name count args
found_is s p object name count args found e = ap (λ o. found_call s p object name o args) e ∙ called_is s p object name count args
