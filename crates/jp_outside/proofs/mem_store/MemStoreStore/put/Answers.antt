use Rattle.std.proofs.Common.{◌/◌, length, take, ap, ◌∙◌}
use Rattle.jp_outside.specs.Files.{listed_files, put_known}
use Rattle.jp_outside.proofs.Entries.{others_stay}
use Rattle.jp_outside.proofs.mem_store.MemStoreStore.put.Goals as goal

pub returns-then-starts_call-clause-others : goal.returns-then-starts_call-clause-others
returns-then-starts_call-clause-others c = λ _.
    let half = take (length c.args.bytes.now / 2) c.args.bytes.now in
    others_stay (listed_files c.args.self.now.told) (listed_files c.set.new.self) c.args.name.now half
    (c.in_ok-set.ensures.ok ∙ ap (λ s. put_known (listed_files s.told) c.args.name.now half) c.self.view_is)
