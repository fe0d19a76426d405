use Rattle.std.proofs.Common.{◌≡◌, ℕ, List, get_or, Some, sym, ap, ◌∙◌}
use Rattle.jp_outside.proofs.Entries.{finds_none, place_of, finds_there}
use Rattle.jp_outside.proofs.file_list.FileList.get.Goals as goal

pub returns-in_default : goal.returns-in_default
returns-in_default c = finds_none c.args.name.now c.args.self.now (sym c.place_of.ensures ∙ c.in_default.is)

pub returns : goal.returns
returns c =
    let place = c.in-Some.place in
    let file = c.index.result.now in
    let here : file ≡ get_or c.args.self.now place file = c.index.ensures ∙ ap (λ (l : List (List ℕ × List ℕ)). get_or l place file) c.self.view_is in
    finds_there c.args.name.now c.args.self.now place file (place_of c.args.name.now c.args.self.now place file (sym c.place_of.ensures ∙ c.in-Some.is))
    ∙ ap Some (sym (c.in_ok-bytes.ensures.items ∙ c.bytes.ensures ∙ ap (λ e. e.1) here))
