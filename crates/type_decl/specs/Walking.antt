-- Members whose parts are walked, with the first fault so far.
use Rattle.std.specs.Prelude.{◌≡◌, List, map, Option}
use Rattle.std.specs.List.{flat_map}
use Rattle.iface_codec.specs.declared.iface.Iface.{Iface}
use Rattle.jp_ast.specs.declared.decl.Decl.{Decl}
use Rattle.jp_ast.specs.declared.decl.Member.{Member}
use Rattle.type_rules.specs.declared.fault.TypeFault.{TypeFault}
use Rattle.type_rules.specs.Table.{faults_of}
use Rattle.type_rules.specs.Typing.{earlier}
use Rattle.type_decl.specs.declared.opening.OpenMember.{OpenMember}
use Rattle.type_decl.specs.declared.walking.Walked.{Walked}
use Rattle.type_decl.specs.declared.walking.WalkedPart.{WalkedPart}
use Rattle.type_decl.specs.Parts.{entry_in, guard_in, scope_in, super_in, block_in, slots_in, front_visits, part_visits}

-- the member, as its parts are walked
abbrev pub walked_of : List Iface → Decl → Member → Walked
walked_of heads d m =
    record { entry = entry_in heads d m; guard = guard_in heads d m; super_args = super_in heads d m; block = block_in heads d m; locals = slots_in heads d m }

-- The guard of a member is walked: what its body reads on entry, its guard, and the scope of its statements
pub record OpensMember (heads : List Iface) (d : Decl) (m : Member) (old new : Option TypeFault) (o : OpenMember) : Type 0 where
  pub entry_is : o.entry ≡ entry_in heads d m
  pub guard_is : o.guard ≡ guard_in heads d m
  pub scope_is : o.scope ≡ scope_in heads d m
  pub first : new ≡ earlier old (faults_of (front_visits heads d m))

-- The parts of a member are walked, and the heads come back
pub record WalksParts (heads : List Iface) (d : Decl) (m : Member) (old new : Option TypeFault) (one : WalkedPart) : Type 0 where
  pub heads_are : one.heads ≡ heads
  pub walked_is : one.walked ≡ walked_of heads d m
  pub first : new ≡ earlier old (faults_of (part_visits heads d m))

-- The parts of each member are walked, and the heads come back
pub record WalksMembers (heads : List Iface) (d : Decl) (ms : List Member) (old new : Option TypeFault) (back : List Iface) (all : List Walked) : Type 0 where
  pub heads_are : back ≡ heads
  pub walked_are : all ≡ map (walked_of heads d) ms
  pub first : new ≡ earlier old (faults_of (flat_map (part_visits heads d) ms))
