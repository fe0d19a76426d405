use Rattle.std.proofs.Common.{List, [], ◌∷◌, ◌++◌, Ok, Err, sym, ap, subst, arith}
use Rattle.std.proofs.lemmas.Result.{err_from_is_err_and}
use Rattle.std.proofs.lemmas.Grind.{common_steps}
use Rattle.jp_ast.specs.declared.decl.Decl.{Decl}
use Rattle.jp_grammar.specs.declared.kind.Kind.TheVariants as k
use Rattle.jp_grammar.specs.Kinds.{Is}
use Rattle.jp_parse_decl.specs.Answers.{Yields}
use Rattle.jp_parse_decl.specs.Bounds.{SmallDecls}
use Rattle.jp_parse_decl.proofs.Tokens.{begins_at}
use Rattle.jp_parse_decl.proofs.UnitFacts.{AtLeast, decls_fails, decls_gives, decls_small, more_end, more_gives, all_gives}
use Rattle.jp_parse_decl.proofs.HeadFacts.{decl_shorter}
use Rattle.jp_parse_decl.specs.Behind.{end_kind, ends_end}
use Rattle.jp_parse_decl.specs.Answers.{Gathers}
use Rattle.jp_parse_decl.proofs.unit.declarations.Goals as goal

pub returns-in_err-decl : goal.returns-in_err-decl
returns-in_err-decl c =
    let p = err_from_is_err_and c.from_residual.result c.from_residual.ensures.1 in
    rw (p.1, p.2) (all_gives c.args.tokens.now (Err c.in_err-decl.field-0.0) (c.list.invariant.whole (Err c.in_err-decl.field-0.0) (decls_fails c.list.decls c.list.left.now c.in_err-decl.field-0.0 c.list.invariant.small c.in_err-decl.ensures.gives)))

pub returns-then-eq : goal.returns-then-eq
returns-then-eq c =
    let i = c.list.invariant in
    let g = c.in_ok-decl.ensures.gives in
    let ds : List Decl = c.list.decls ++ c.in_ok-decl.decl ∷ [] in
    let h : Is k.End c.front.result.0.now = grind (arith, common_steps) in
    let small : SmallDecls ds = decls_small c.list.decls c.in_ok-decl.decl i.small g.1 in
    let w = all_gives c.args.tokens.now (Ok (ds, c.in_ok-decl.behind)) (i.whole (Ok (ds, c.in_ok-decl.behind))
    (decls_gives c.list.decls c.list.left.now c.in_ok-decl.behind.now c.in_ok-decl.decl (Ok (ds, c.in_ok-decl.behind)) i.small g.0
    (more_end ds c.front.result.0.now c.front.result.1.now c.in_ok-decl.behind.now c.front.ensures.split h, small))) in
    subst (λ (x : List Decl). Gathers c.args.tokens.now (Ok x)) (sym c.in_ok-push.ensures.ok)
    (c.in_ok-decl.behind.now, w.0, begins_at end_kind c.front.result.0.now c.front.result.1.now c.in_ok-decl.behind.now c.front.ensures.split (ap end_kind h), c.in_ok-decl.ensures.rest.0, small)

pub list-smaller : goal.list-smaller
list-smaller c =
    decl_shorter c.list.left.now c.in_ok-decl.behind.now c.in_ok-decl.decl c.in_ok-decl.ensures.gives.0

pub list-preserved : goal.list-preserved
list-preserved c =
    let i = c.list.invariant in
    let g = c.in_ok-decl.ensures.gives in
    let ds : List Decl = c.list.decls ++ c.in_ok-decl.decl ∷ [] in
    let other : Is k.End c.front.result.0.now → ⊥ = grind (arith, common_steps) in
    record {
      rest = (c.in_ok-decl.ensures.rest.0, omega (arith, i.rest.1, c.in_ok-decl.ensures.rest.1));
      small = subst (λ (x : List Decl). SmallDecls x) (sym c.in_ok-push.ensures.ok) (decls_small c.list.decls c.in_ok-decl.decl i.small g.1);
      whole = λ r f. i.whole r (decls_gives c.list.decls c.list.left.now c.in_ok-decl.behind.now c.in_ok-decl.decl r i.small g.0
          (more_gives ds c.front.result.0.now c.front.result.1.now c.in_ok-decl.behind.now c.front.ensures.split r other
          (subst (λ (x : List Decl). Yields (AtLeast x) ends_end SmallDecls c.in_ok-decl.behind.now r) c.in_ok-push.ensures.ok f)));
    }
