-- The counts of members, classes and units, in the order in which they are looked at.
use Rattle.std.specs.Prelude.{ℕ, ◌+◌, List, [], ◌∷◌, ◌++◌, length, Option, None}
use Rattle.std.specs.List.{flat_map, sum_by}
use Rattle.std.specs.Option.{option_map_or}
use Rattle.jp_ast.specs.declared.expr.Expr.{Expr}
use Rattle.jp_ast.specs.declared.stmt.Stmt.{Stmt}
use Rattle.jp_ast.specs.declared.guard.GuardExpr.{GuardExpr}
use Rattle.jp_ast.specs.declared.decl.SourceUnit.{SourceUnit}
use Rattle.jp_ast.specs.declared.decl.Decl.{Decl}
use Rattle.jp_ast.specs.declared.decl.Member.{Member}
use Rattle.jp_ast.specs.declared.decl.MemberPart.{MemberPart}
use Rattle.jp_ast.specs.declared.decl.MemberPart.TheVariants as part
use Rattle.jp_ast.specs.Counts.{of_option, expr_nodes, body_nodes, guard_nodes_of}
use Rattle.unit_limits.specs.declared.limits.TooLarge.{TooLarge}
use Rattle.unit_limits.specs.declared.limits.Limit.TheVariants as limits
use Rattle.unit_limits.specs.Counting.{Count, counted, first_told}
use Rattle.unit_limits.specs.Texts.{in_option, expr_texts, stmt_texts}
use Rattle.unit_limits.specs.Aliases.{guard_aliases}
use Rattle.unit_limits.specs.Locals.{stmt_locals}

abbrev pub guard_part : MemberPart → Option GuardExpr
guard_part (part.Body result guard block) = guard
guard_part _ = None

abbrev pub super_part : MemberPart → Option (List Expr)
super_part (part.Constructor args block) = args
super_part _ = None

abbrev pub block_part : MemberPart → List Stmt
block_part (part.Static result block) = block
block_part (part.Body result guard block) = block
block_part (part.Constructor args block) = block
block_part _ = []

-- a field has no receiver, and a static method has none
abbrev pub receivers : MemberPart → ℕ
receivers (part.Field ty is_static) = 0
receivers (part.Static result block) = 0
receivers _ = 1

abbrev pub aliases : MemberPart → ℕ
aliases p = of_option guard_aliases (guard_part p)

abbrev pub locals : Member → ℕ
locals m = receivers m.part + length m.params + aliases m.part + sum_by stmt_locals (block_part m.part)

-- the statements and expressions that are written in a member
abbrev pub written_nodes : MemberPart → ℕ
written_nodes p = option_map_or (sum_by expr_nodes) (super_part p) 0 + body_nodes (block_part p)

-- with the member itself and its guard
abbrev pub member_nodes : Member → ℕ
member_nodes m = 1 + written_nodes m.part + of_option guard_nodes_of (guard_part m.part)

abbrev pub texts : MemberPart → List Count
texts p = in_option (flat_map expr_texts) (super_part p) ++ flat_map stmt_texts (block_part p)

abbrev pub member_counts : Member → List Count
member_counts m =
    texts m.part
    ++ (counted limits.Parameters (length m.params) ∷ counted limits.Aliases (aliases m.part) ∷ counted limits.Locals (locals m) ∷ counted limits.BodyNodes (written_nodes m.part) ∷ [])

abbrev pub decl_counts : Decl → List Count
decl_counts d = flat_map member_counts d.members ++ counted limits.ClassNodes (sum_by member_nodes d.members) ∷ []

abbrev pub counts_of : SourceUnit → List Count
counts_of unit = flat_map decl_counts unit.decls

-- the first count of a unit that passes its limit
abbrev pub first_over : SourceUnit → Option TooLarge
first_over unit = first_told (counts_of unit)
