-- Printed units read back.
use Rattle.std.proofs.Common.{◌≡◌, ℕ, ◌≤◌, List, refl, sym, ap, ◌∙◌, subst, inl, inr, arith}
use Rattle.std.specs.List.{AllByRecursion}
use Rattle.jp_ast.specs.declared.token.Place.{Place}
use Rattle.jp_ast.specs.declared.token.Token.{Token}
use Rattle.jp_ast.specs.declared.token.Lexeme.{Lexeme}
use Rattle.jp_ast.specs.declared.decl.SourceUnit.{SourceUnit}
use Rattle.jp_lexical.specs.Lexed.{Lexed, LexedFrom, end, gap, token}
use Rattle.jp_lexical.specs.Places.{first_place}
use Rattle.jp_grammar.specs.Faults.{deepest_of_unit}
use Rattle.jp_print.specs.Layout.{laid_out}
use Rattle.jp_print.specs.Declarations.{unit_tokens, printed_unit}
use Rattle.jp_print.specs.Places.{unplaced_unit}
use Rattle.jp_print.specs.ReadsBack.{IsFormed, IsOfGrammar, ReadsBack, PrintedReadsBack, ReadReadsBack, PlacesAreNotPrinted}
use Rattle.jp_print.proofs.OfUnits.{unit_of, unit_formed, unit_again}
use Rattle.jp_print.proofs.Lexing.{lexed_as}
use Rattle.jp_print.proofs.Blind.{unit_blind, unit_deep}

same_tokens : (u v : SourceUnit) → unplaced_unit u ≡ unplaced_unit v → unit_tokens u ≡ unit_tokens v
same_tokens u v e = sym (unit_blind u) ∙ ap unit_tokens e ∙ unit_blind v

same_depth : (u v : SourceUnit) → unplaced_unit u ≡ unplaced_unit v → deepest_of_unit u ≡ deepest_of_unit v
same_depth u v e = sym (unit_deep u) ∙ ap deepest_of_unit e ∙ unit_deep v

pub reads_back : PrintedReadsBack
reads_back unit g =
    let a = unit_of g.parsed.whole g.formed in
    let l = lexed_as (unit_tokens g.other) (unit_formed g.other a) first_place in
    let r = unit_again g.other a l.goes in
    let depth = same_depth r.tree g.other r.same in
    record {
      tokens = l.tokens;
      again = r.tree;
      lexed = subst (λ (ls : List Lexeme). Lexed (laid_out ls) l.tokens) (same_tokens g.other unit g.same) l.lexed;
      parsed = record { whole = r.reads; small = omega (arith, depth, g.parsed.small) };
      same = r.same ∙ g.same;
    }

formed_from : {place : Place} {text : List ℕ} {tokens : List Token} → LexedFrom place text tokens → AllByRecursion IsFormed tokens
formed_from end = (inl refl, tt)
formed_from (gap e g r) = formed_from r
formed_from (token {bytes = bytes} e t r) = (inr (record { bytes = bytes; spells = t.spells }), formed_from r)

pub read_reads_back : ReadReadsBack
read_reads_back text tokens unit lexed parsed = reads_back unit (record { tokens = tokens; other = unit; formed = formed_from lexed; parsed = parsed; same = refl })

pub printed_alike : PlacesAreNotPrinted
printed_alike unit other same = ap laid_out (same_tokens unit other same)
