-- How many nodes of a member are written: its statements, their expressions, and the arguments of `super(..)`.
use Rattle.std.specs.Prelude.{ℕ, ◌+◌, nat_le, Bool}
use Rattle.std.specs.List.{list_all, sum_by}
use Rattle.std.specs.Option.{option_map_or}
use Rattle.jp_ast.specs.declared.decl.Decl.{Decl}
use Rattle.jp_ast.specs.declared.decl.Member.{Member}
use Rattle.jp_ast.specs.Counts.{expr_nodes, body_nodes}
use Rattle.type_rules.specs.Units.{super_part, block_part}

abbrev pub written_nodes : Member → ℕ
written_nodes m = option_map_or (sum_by expr_nodes) (super_part m.part) 0 + body_nodes (block_part m.part)

-- no member of a declaration has more than so many
abbrev pub has_at_most : ℕ → Decl → Bool
has_at_most most d = list_all (λ m. nat_le (written_nodes m) most) d.members
