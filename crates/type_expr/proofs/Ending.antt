-- What is answered of an expression whose value is wanted, by its first fault.
use Rattle.std.proofs.Common.{◌≡◌, Option, Some, None, refl, sym, ap, ◌∙◌, subst}
use Rattle.std.specs.Prelude.{IsTrue}
use Rattle.jp_ast.specs.declared.expr.Expr.{Expr}
use Rattle.jp_meaning.specs.declared.expr.TypedExpr.{TypedExpr}
use Rattle.type_rules.specs.declared.fault.TypeFault.{TypeFault}
use Rattle.type_rules.specs.declared.scope.Scope.{Scope}
use Rattle.type_rules.specs.declared.seen.Known.{Known}
use Rattle.type_rules.specs.declared.seen.Role.TheVariants as role
use Rattle.type_rules.specs.declared.seen.Seen.{Seen}
use Rattle.type_rules.specs.declared.seen.Seen.TheVariants as seen
use Rattle.type_rules.specs.Assigning.{is_value}
use Rattle.type_rules.specs.Table.{faults_of}
use Rattle.type_rules.specs.Expressions.{part}
use Rattle.type_rules.specs.Statements.{tree_of}
use Rattle.type_rules.specs.Typing.{IsFirstFault, IsTypedExpr, earlier, first_of}
use Rattle.type_rules.proofs.Sentences.{first_is_first, none_is_none}
use Rattle.type_rules.proofs.Values.{sound_is_seen}
use Rattle.type_expr.specs.Settling.{Sees}

-- a look that began without a fault gives the first fault
first_is : (s : Scope) (x : Expr) (old new : Option TypeFault) (found : Seen) → old ≡ None → Sees s role.Operand x old new found → first_of (part s x role.Operand).visits ≡ new
first_is s x old new found o a = ap (λ (b : Option TypeFault). earlier b (faults_of (part s x role.Operand).visits)) (sym o) ∙ sym a.first

pub fault_is_first : (s : Scope) (x : Expr) (old new : Option TypeFault) (found : Seen) (f : TypeFault) → old ≡ None → Sees s role.Operand x old new found → new ≡ Some f → IsFirstFault (part s x role.Operand).visits f
fault_is_first s x old new found f o a e = first_is_first (part s x role.Operand).visits f (first_is s x old new found o a ∙ e)

pub typed_is : (s : Scope) (x : Expr) (old new : Option TypeFault) (found : Seen) (k : Known) (tree : TypedExpr) → old ≡ None → Sees s role.Operand x old new found → new ≡ None → found ≡ seen.Value k → tree ≡ k.expr → IsTypedExpr s x tree
typed_is s x old new found k tree o a n v t = record {
  sound = none_is_none (part s x role.Operand).visits (first_is s x old new found o a ∙ n);
  resolved = ap tree_of (sym a.seen ∙ v) ∙ ap Some (sym t);
}

-- there is a value where no fault is found
no_other : (f : Seen) → IsTrue (is_value f) → ((k : Known) → f ≡ seen.Value k → ⊥) → ⊥
no_other seen.Faulty h n = absurd cc
no_other (seen.Value k) h n = n k refl
no_other (seen.Class name) h n = absurd cc
no_other (seen.Text text) h n = absurd cc

pub never_else : (s : Scope) (x : Expr) (old new : Option TypeFault) (found : Seen) → old ≡ None → Sees s role.Operand x old new found → new ≡ None → ((k : Known) → found ≡ seen.Value k → ⊥) → ⊥
never_else s x old new found o a n other =
    no_other found (subst (λ (f : Seen). IsTrue (is_value f)) (sym a.seen) (sound_is_seen s x (first_is s x old new found o a ∙ n))) other
