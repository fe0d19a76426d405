-- The rules of statements: 36 to 38. Each definition is true of a node that breaks the rule.
use Rattle.std.specs.Prelude.{ℕ, Bool, false, not, ◌&&◌, ◌||◌, ◌==◌, Some, None, if◌then◌else◌}
use Rattle.std.specs.Option.{option_map_or}
use Rattle.jp_ast.specs.declared.sign.TheConstants as sign
use Rattle.jp_ast.specs.declared.decl.MemberPart.{MemberPart}
use Rattle.jp_ast.specs.declared.decl.MemberPart.TheVariants as part
use Rattle.type_rules.specs.declared.scope.Scope.{Scope}
use Rattle.type_rules.specs.declared.seen.Seen.{Seen}
use Rattle.type_rules.specs.declared.seen.Seen.TheVariants as seen
use Rattle.type_rules.specs.Types.{is_void}
use Rattle.type_rules.specs.Assigning.{isnt, differ, an_int, fits, misfit}
use Rattle.type_rules.specs.Written.{Form, is_variable, is_call}
use Rattle.type_rules.specs.Nodes.{Node, AtMember, AtStmt, Declares, Jumps, Returns, Assigns, Bumps, Runs}

-- A value that isn't a local, parameter, alias, field or element; where there is a fault in the part, one that isn't written
-- as a name, a field or an element
abbrev pub cant_change : Form → Seen → Bool
cant_change form (seen.Value k) = not k.is_variable
cant_change form _ = not (is_variable form)

-- the changed thing and the value don't go together: with `=` the value isn't assignable, with another sign one isn't int
abbrev pub misfits : Scope → Seen → ℕ → Seen → Bool
misfits s left n right =
    if n == sign.ASSIGN then differ (λ l r. fits s.heads r l.expr.ty) left right else isnt an_int left || isnt an_int right

-- 36. What is changed is a variable, a field or an element, and the value fits it, the first value of a local too; `+= -=
-- ++ --` are of ints. An expression that is a statement is a call or `new C(..)`.
abbrev pub rule_36 : Node → Bool
rule_36 (AtStmt s (Declares t name value)) = option_map_or (λ v. misfit s.heads v t) value false
rule_36 (AtStmt s (Assigns form left n right)) = cant_change form left || misfits s left n right
rule_36 (AtStmt s (Bumps form left)) = cant_change form left || isnt an_int left
rule_36 (AtStmt s (Runs form)) = not (is_call form)
rule_36 _ = false

-- 37. `return` has a value exactly where the method has a result, and it fits; `break` and `continue` stand in a loop.
abbrev pub rule_37 : Node → Bool
rule_37 (AtStmt s (Returns None)) = not (is_void s.result)
rule_37 (AtStmt s (Returns (Some value))) = is_void s.result || misfit s.heads value s.result
rule_37 (AtStmt s Jumps) = not s.is_in_loop
rule_37 _ = false

-- a method with statements and a result
abbrev pub has_result : MemberPart → Bool
has_result (part.Static result block) = not (is_void result)
has_result (part.Body result when block) = not (is_void result)
has_result _ = false

-- 38. The statements of a method with a result can't complete. It stands at the method's name.
abbrev pub rule_38 : Node → Bool
rule_38 (AtMember m) = has_result m.member.part && m.completes
rule_38 _ = false
