-- The limits on a member, as far as the size of its code depends on them.
use Rattle.std.specs.Prelude.{◌≡◌, ◌≤◌, nat_le, Bool, true, List, [], length, slice_get}
use Rattle.std.specs.List.{list_all}
use Rattle.std.specs.Option.{option_map_or}
use Rattle.jp_pred.specs.declared.ty.Ty.{Ty}
use Rattle.jp_pred.specs.declared.path.Path.{Path}
use Rattle.iface_codec.specs.declared.iface.Iface.{Iface}
use Rattle.jp_meaning.specs.declared.unit.TypedPart.{TypedPart}
use Rattle.jp_meaning.specs.declared.unit.TypedPart.TheVariants as part
use Rattle.jp_meaning.specs.declared.unit.TypedMember.{TypedMember}
use Rattle.gen_bounds.specs.Nodes.{member_nodes}

-- the aliases whose values a member starts with
abbrev pub aliases_of : Iface → TypedPart → List (Path × Ty)
aliases_of head (part.Field at) = []
aliases_of head (part.Method at) = option_map_or (λ method. method.aliases) (slice_get head.methods at) []
aliases_of head (part.Constructor at) = []

-- an alias whose path has at most eight steps
abbrev pub is_near : Path × Ty → Bool
is_near alias = nat_le (length alias.0.steps) 8

-- the limits on aliases: their number, and the steps of each
pub record HasFewAliases (head : Iface) (m : TypedMember) : Type 0 where
  pub aliases : length (aliases_of head m.part) ≤ 8
  pub steps : list_all is_near (aliases_of head m.part) ≡ true

-- The limits on a member: its aliases and their steps, and its nodes. A member has at most 1,200 written nodes, each of which is
-- resolved to two at most: a field or a method of the own class that is named alone is one of `this`. How many parameters and
-- locals it has makes its code no longer
pub record IsWithinLimits (head : Iface) (m : TypedMember) : Type 0 where
  pub nodes : member_nodes m ≤ 2400
  pub aliases : length (aliases_of head m.part) ≤ 8
  pub steps : list_all is_near (aliases_of head m.part) ≡ true
