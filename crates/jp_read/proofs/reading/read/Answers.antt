use Rattle.std.proofs.Common.{Ok, Err, sym, subst}
use Rattle.std.proofs.lemmas.Result.{err_from_is_err_and}
use Rattle.jp_lexical.specs.Places.{first_place}
use Rattle.jp_grammar.specs.Kinds.{Tokens}
use Rattle.jp_grammar.specs.Reading.{IsText}
use Rattle.jp_grammar.specs.Faults.{Parses}
use Rattle.jp_read.proofs.Ends.{is_text}
use Rattle.jp_read.proofs.Texts.{HasTokens, parsed_reads, refused_reads, unlexed_reads}
use Rattle.jp_read.proofs.reading.read.Goals as goal

pub parse-requires : goal.parse-requires
parse-requires c =
    subst (λ (x : Tokens). IsText x) (sym c.as_slice.ensures.value) (is_text first_place c.args.text.now c.in_ok-tokens.tokens.items c.in_ok-tokens.ensures.end)

pub returns-in_err-tokens : goal.returns-in_err-tokens
returns-in_err-tokens c =
    let p = err_from_is_err_and c.from_residual.result c.from_residual.ensures.1 in
    let e = c.lex.ensures in
    rw (p.1, p.2) (unlexed_reads c.args.text.now c.lex.result c.in_err-tokens.field-0.0 c.in_err-tokens.was e.fault e.only_fault e.no_tokens)

pub returns-in_err-parse : goal.returns-in_err-parse
returns-in_err-parse c =
    let p = err_from_is_err_and c.from_residual-in_err-parse.result c.from_residual-in_err-parse.ensures.1 in
    let e = c.in_ok-tokens.ensures in
    let h : HasTokens c.args.text.now c.in_ok-tokens.tokens.items = record { lexed = e.tokens; only = e.only_tokens; no_fault = e.no_fault } in
    let told : Parses c.in_ok-tokens.tokens.items (Err c.in_err-parse.field-0.0) = subst (λ (x : Tokens). Parses x (Err c.in_err-parse.field-0.0)) c.as_slice.ensures.value c.in_err-parse.ensures in
    rw (p.1, p.2) (refused_reads c.args.text.now c.in_ok-tokens.tokens.items c.in_err-parse.field-0.0 h told)

pub returns : goal.returns
returns c =
    let e = c.in_ok-tokens.ensures in
    let h : HasTokens c.args.text.now c.in_ok-tokens.tokens.items = record { lexed = e.tokens; only = e.only_tokens; no_fault = e.no_fault } in
    let told : Parses c.in_ok-tokens.tokens.items (Ok c.in_ok-parse.field-0) = subst (λ (x : Tokens). Parses x (Ok c.in_ok-parse.field-0)) c.as_slice.ensures.value c.in_ok-parse.ensures in
    parsed_reads c.args.text.now c.in_ok-tokens.tokens.items c.in_ok-parse.field-0 h told
