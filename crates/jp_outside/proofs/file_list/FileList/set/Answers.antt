use Rattle.std.proofs.Common.{◌≡◌, ℕ, List, [], ◌∷◌, ◌++◌, get_or, Some, None, sym, ap, subst, ◌∙◌}
use Rattle.std.specs.Prelude.{slice_set as set}
use Rattle.std.specs.List.{position}
use Rattle.std.specs.Str.{bytes_eq}
use Rattle.jp_outside.specs.Files.{AreDistinct, listed_files, put_known}
use Rattle.jp_outside.proofs.Entries.{absent, place_of, set_there, pushed, AreDistinct-set, AreDistinct-push}
use Rattle.jp_outside.proofs.file_list.FileList.set.Goals as goal

-- the content that is set stands under the old name
entry_is : (c : goal.After-self-1) → c.set_bytes.new.self ≡ ((get_or c.self.inside.files.items c.in-Some.place c.index_mut-file.result.now).0, c.args.bytes.now)
entry_is c = c.set_bytes.ensures ∙ (λ i. ((c.index_mut-file.ensures.value i).0, c.in_ok-bytes.ensures.items i))

-- the entry that is pushed
pushed_is : (c : goal.In_ok-push-in-None) → c.push.new.self.items ≡ c.self.inside.files.items ++ (c.args.name.now, c.args.bytes.now) ∷ []
pushed_is c =
    c.in_ok-push-in-None.ensures.items
    ∙ ap (λ e. c.self.inside.files.items ++ e ∷ []) (c.new.ensures ∙ (λ i. (c.in_ok-name-in-None.ensures.ok i, c.in_ok-bytes.ensures.items i)))

nowhere : (c : goal.In_ok-push-in-None) → position (λ e. bytes_eq c.args.name.now e.0) c.self.inside.files.items ≡ None
nowhere c = ap (λ (l : List (List ℕ × List ℕ)). position (λ e. bytes_eq c.args.name.now e.0) l) c.self.view_is ∙ sym c.place_of.ensures ∙ c.in-None.is

somewhere : (c : goal.After-self-1) → position (λ e. bytes_eq c.args.name.now e.0) c.self.inside.files.items ≡ Some c.in-Some.place
somewhere c = ap (λ (l : List (List ℕ × List ℕ)). position (λ e. bytes_eq c.args.name.now e.0) l) c.self.view_is ∙ sym c.place_of.ensures ∙ c.in-Some.is

pub invariant_of-self : goal.invariant_of-self
invariant_of-self c =
    subst (λ e. AreDistinct (set c.self.inside.files.items c.in-Some.place e)) (sym (entry_is c)) (AreDistinct-set _ _ _ _ c.self.invariant)

pub invariant_of-self-in-Continue-branch-3 : goal.invariant_of-self-in-Continue-branch-3
invariant_of-self-in-Continue-branch-3 c =
    subst AreDistinct (sym (pushed_is c)) (AreDistinct-push _ _ _ c.self.invariant (absent c.args.name.now c.self.inside.files.items (nowhere c)))

pub returns-in-Some-clause-ok : goal.returns-in-Some-clause-ok
returns-in-Some-clause-ok c =
    let place = c.in-Some.place in
    let file = c.index_mut-file.result.now in
    ap (λ e. listed_files (set c.self.inside.files.items place e)) (entry_is c)
    ∙ set_there c.args.name.now c.self.inside.files.items place file c.args.bytes.now (place_of _ _ place file (somewhere c))
    ∙ ap (λ l. put_known (listed_files l) c.args.name.now c.args.bytes.now) c.self.view_is

pub returns-in_ok-push-in-None-clause-ok : goal.returns-in_ok-push-in-None-clause-ok
returns-in_ok-push-in-None-clause-ok c =
    ap listed_files (pushed_is c)
    ∙ pushed c.args.name.now c.self.inside.files.items c.args.bytes.now (absent c.args.name.now c.self.inside.files.items (nowhere c))
    ∙ ap (λ l. put_known (listed_files l) c.args.name.now c.args.bytes.now) c.self.view_is
