use Rattle.std.proofs.Common.{◌≡◌, ◌++◌, take}
use Rattle.std.specs.Prelude.{flat_map}
use Rattle.jp_print.specs.Layout.{laid_out}
use Rattle.jp_print.specs.Declarations.{member_tokens}
use Rattle.jp_print.proofs.decls.put_members.Given as goal

-- the members so far
abbrev pub invariant-loop-member : goal.invariant-loop-member
invariant-loop-member l = l.out.items ≡ l.initial.out.items ++ laid_out (flat_map (member_tokens l.in_interface) (take l.member-index l.members))
