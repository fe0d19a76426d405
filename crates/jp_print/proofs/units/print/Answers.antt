use Rattle.std.proofs.Common.{◌≡◌, ◌≤◌, List, ℕ, length, ap, sym, subst, ◌∙◌}
use Rattle.std.specs.Prelude.{flat_map}
use Rattle.std.proofs.lemmas.List.{take_all}
use Rattle.jp_ast.specs.declared.decl.Decl.{Decl}
use Rattle.jp_print.specs.Layout.{laid_out}
use Rattle.jp_print.specs.Declarations.{decl_tokens, printed_unit}
use Rattle.jp_print.specs.ReadsBack.{ReadsBack}
use Rattle.jp_print.proofs.ReadBack.{reads_back}
use Rattle.jp_print.proofs.units.print.Goals as goal

pub returns-clause-reads_back : goal.returns-clause-reads_back
returns-clause-reads_back c g =
    let unit = c.args.unit.now in
    let all : length unit.decls ≤ c.loop-decl.decl-index =
    subst (λ (decls : List Decl). length decls ≤ c.loop-decl.decl-index) c.as_slice-decl-items.ensures c.loop-decl-test.false in
    let e : c.loop-decl.text.items ≡ printed_unit unit =
    c.loop-decl.invariant ∙ ap (λ (decls : List Decl). laid_out (flat_map decl_tokens decls)) (take_all c.loop-decl.decl-index unit.decls all) in
    subst (λ (text : List ℕ). ReadsBack text unit) (sym e) (reads_back unit g)
