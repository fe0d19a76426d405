use Rattle.std.proofs.Common.{◌≡◌, true, map, take}
use Rattle.std.specs.List.{filter_map, list_all}
use Rattle.class_form.specs.WellFormed.{member_fits}
use Rattle.code_asm.specs.Held.{Extends, InFiles}
use Rattle.gen_class.specs.Asked.{with_members}
use Rattle.gen_class.specs.Flags.{flags_of_part}
use Rattle.gen_class.specs.Made.{InClass, AreMade}
use Rattle.gen_class.proofs.methods.methods_of.Given as goal

-- the methods so far
abbrev pub invariant-loop-member : goal.invariant-loop-member
invariant-loop-member l = record {
  kept : Extends l.initial.pool l.pool;
  made : InClass l.class.head l.pool (λ file. AreMade l.hier l.class.head file (take l.member-index l.class.members) l.methods);
  flagged : map (λ method. method.flags) l.methods ≡ filter_map (λ m. flags_of_part l.class.head m.part) (take l.member-index l.class.members);
  fits : InFiles l.pool (λ file. list_all (member_fits file.constants) l.methods ≡ true);
  asked : l.pool ≡ with_members l.hier l.class.head l.initial.pool (take l.member-index l.class.members);
}
