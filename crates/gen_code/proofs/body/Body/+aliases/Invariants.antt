use Rattle.std.proofs.Common.{length}
use Rattle.gen_code.proofs.body.Body.+aliases.Given as goal

-- those that are left
abbrev pub decreases-aliases : goal.decreases-aliases
decreases-aliases l = length l.aliases.now
