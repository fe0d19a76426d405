use Rattle.std.proofs.Common.{◌≡◌, ℕ, ◌+◌, ◌∷◌, length, drop, false, sym, ap, ◌∙◌, arith}
use Rattle.jp_ast.specs.declared.sign.TheConstants as sign
use Rattle.jp_grammar.specs.declared.kind.Kind.TheVariants as k
use Rattle.jp_grammar.specs.Kinds.{IsSign}
use Rattle.jp_parse_expr.proofs.Signs.{sign_is, sign_is_no}
use Rattle.jp_parse_expr.proofs.Runs.{drop_next}
use Rattle.jp_parse_expr.proofs.GuardRuns.{open_more}
use Rattle.jp_parse_expr.proofs.guard.opened.Goals as goal

pub run-preserved : goal.run-preserved
run-preserved c =
    let i = c.run.invariant in
    let split : drop c.run.count c.args.tokens.now ≡ c.front.result.0.now ∷ c.front.result.1.now = sym i.behind ∙ c.front.ensures.split in
    let is_open : IsSign sign.OPEN_PAREN c.front.result.0.now = sign_is sign.OPEN_PAREN c.front.result.0.now (sym c.is_sign.ensures ∙ c.if-not-is_sign.false) in
    let next : drop (c.run.count + 1) c.args.tokens.now ≡ c.front.result.1.now = drop_next c.run.count c.args.tokens.now c.front.result.1.now c.front.result.0.now split in
    record {
      text = c.front.ensures.text (λ h. let g : k.Sign sign.OPEN_PAREN ≡ k.End = sym is_open ∙ h in cc);
      behind = sym next;
      most = omega (arith, i.most, ap length c.front.ensures.split);
      opens = open_more c.run.count c.args.tokens.now i.opens (record { first = c.front.result.0.now; rest = c.front.result.1.now; split = split; is_open = is_open });
    }
