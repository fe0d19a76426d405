-- The members of a typed unit without guards that is within the limits are within those on which the size of code depends.
use Rattle.std.proofs.Common.{◌≡◌, ◌≤◌, List, length, None, sym, ap, subst, arith}
use Rattle.std.specs.List.{list_all}
use Rattle.jp_pred.specs.declared.path.Path.{Path}
use Rattle.jp_pred.specs.declared.ty.Ty.{Ty}
use Rattle.jp_pred.specs.Names.{In}
use Rattle.iface_codec.specs.declared.iface.Iface.{Iface}
use Rattle.jp_ast.specs.declared.decl.SourceUnit.{SourceUnit}
use Rattle.jp_meaning.specs.declared.unit.TypedMember.{TypedMember}
use Rattle.jp_meaning.specs.declared.unit.TypedClass.{TypedClass}
use Rattle.jp_meaning.specs.declared.unit.TypedUnit.{TypedUnit}
use Rattle.type_rules.specs.Typing.{IsTyped}
use Rattle.gen_bounds.specs.Limits.{is_near, IsWithinLimits}
use Rattle.gen_bounds.proofs.Bounds.{room_left, few_pieces}
use Rattle.unit_limits.specs.Members.{first_over}
use Rattle.plain_form.specs.Forms.{HasNoGuards}
use Rattle.node_laws.proofs.UnitNodes.{nodes_few}
use Rattle.plain_sizes.specs.Laws.{PlainHasFewItems, PlainHasRoom}
use Rattle.plain_sizes.proofs.WithinLimits.{few_written}
use Rattle.plain_sizes.proofs.NoAliases.{no_aliases}

within : (unit : SourceUnit) (others : List Iface) (tree : TypedUnit) → IsTyped unit others tree → first_over unit ≡ None → HasNoGuards unit →
    (c : TypedClass) (m : TypedMember) → In c tree.classes → In m c.members → IsWithinLimits c.head m
within unit others tree typed small free c m i j =
    let nodes = nodes_few unit others tree 1200 typed (few_written unit small) c i m j in
    let none = no_aliases unit others tree typed free c i m.part in
    record { nodes = omega arith; aliases = subst (λ (xs : List (Path × Ty)). length xs ≤ 8) (sym none) (omega arith); steps = ap (list_all is_near) none }

pub few_items : PlainHasFewItems
few_items unit others tree typed small free hier c m i j = (few_pieces hier c.head m (within unit others tree typed small free c m i j)).pieces

pub room : PlainHasRoom
room unit others tree typed small free hier c m i j = room_left hier c.head m (within unit others tree typed small free c m i j)
