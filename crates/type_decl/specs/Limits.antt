-- The limits on a unit, as far as typing it depends on them: how many members a declaration has, and how many parameters, aliases
-- and variables at once a member.
use Rattle.std.specs.Prelude.{ℕ, ◌+◌, ◌≤◌, nat_le, List, [], map, length, replicate, Bool, false, ◌&&◌}
use Rattle.std.specs.List.{list_all}
use Rattle.std.specs.Option.{option_map_or}
use Rattle.jp_pred.specs.declared.ty.Ty.TheVariants as ty
use Rattle.jp_ast.specs.declared.stmt.Stmt.{Stmt}
use Rattle.jp_ast.specs.declared.guard.GuardExpr.{GuardExpr, fold-GuardExpr}
use Rattle.jp_ast.specs.declared.guard.GuardKind.{GuardKind-F}
use Rattle.jp_ast.specs.declared.guard.GuardKind.TheOpen as g
use Rattle.jp_ast.specs.declared.decl.SourceUnit.{SourceUnit}
use Rattle.jp_ast.specs.declared.decl.Decl.{Decl}
use Rattle.jp_ast.specs.declared.decl.Member.{Member}
use Rattle.type_rules.specs.declared.scope.Scope.{Scope}
use Rattle.type_rules.specs.Names.{receiver_slots}
use Rattle.type_rules.specs.Statements.{count, most_along, flow}
use Rattle.type_rules.specs.Units.{guard_part, block_part, is_static_part}

-- ALIASES

abbrev pub alias_step : GuardKind-F ℕ ℕ → ℕ
alias_step (g.Not right) = right
alias_step (g.And left right) = left + right
alias_step (g.Or left right) = left + right
alias_step (g.Is path class alias) = option_map_or (λ name. 1) alias 0
alias_step (g.Alias path name) = 1
alias_step _ = 0

-- the aliases that a guard is written with
abbrev pub aliases_in : GuardExpr → ℕ
aliases_in = fold-GuardExpr ℕ ℕ alias_step (λ x. x.kind)

-- those of a member
abbrev pub alias_count : Member → ℕ
alias_count m = option_map_or aliases_in (guard_part m.part) 0

-- VARIABLES

-- a scope with so many variables, of which nothing else is known
abbrev pub blank : ℕ → Scope
blank n = record {
  heads = [];
  class = [];
  is_static = false;
  result = ty.Void;
  is_in_loop = false;
  variables = replicate n (record { name = []; ty = ty.Void });
}

-- the most variables that are in scope at once in statements, where so many are in scope before them
unfoldable pub most_at_once : ℕ → List Stmt → ℕ
most_at_once n block = most_along n (map flow block) (blank n)

-- the most slots that a member takes: its receiver, its parameters, its aliases, and the locals in scope at once
abbrev pub slot_count : Member → ℕ
slot_count m = receiver_slots (is_static_part m.part) + most_at_once (length m.params + alias_count m) (block_part m.part)

-- the variables in scope at a member's statements have slots, and so have those of the statements
pub record HasRoom (m : Member) (c : Scope) : Type 0 where
  pub variables : count c ≤ 16
  pub slots : receiver_slots (is_static_part m.part) + most_at_once (count c) (block_part m.part) ≤ 200

-- LIMITS

-- a member has at most 8 parameters and 8 aliases, and takes at most 200 slots
unfoldable pub member_fits : Member → Bool
member_fits m = nat_le (length m.params) 8 && nat_le (alias_count m) 8 && nat_le (slot_count m) 200

-- a declaration has at most 8,000 members, each within its limits
unfoldable pub decl_fits : Decl → Bool
decl_fits d = nat_le (length d.members) 8000 && list_all member_fits d.members

-- each declaration is within its limits
abbrev pub unit_fits : SourceUnit → Bool
unit_fits unit = list_all decl_fits unit.decls
