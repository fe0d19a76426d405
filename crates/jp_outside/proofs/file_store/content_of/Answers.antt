use Rattle.std.proofs.Common.{◌≡◌, ◌+◌, ◌≤◌, IfSome, length, subst, arith}
use Rattle.jp_outside.proofs.Known.{gave_all}
use Rattle.jp_outside.proofs.file_store.content_of.Goals as goal

pub returns-clause-whole : goal.returns-clause-whole
returns-clause-whole g c =
    let bytes = c.read_to_end.new.buf in
    let len = bytes.ok in
    let count = c.in_ok-count.ensures.ok in
    let short : length bytes.items + 1 ≤ c.take.result.limit = omega (arith, len, count, c.new-bytes.ensures.len, c.take.ensures.limit) in
    subst (λ r. IfSome (g.R.Read.remaining r) (λ left. bytes.items ≡ left)) c.take.ensures.inner
    (gave_all (g.R.Read.remaining c.take.result.inner) c.take.result.limit c.new-bytes.result.items bytes.items c.new-bytes.ensures.items c.in_ok-count.ensures.bytes short)
