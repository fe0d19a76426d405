use Rattle.std.proofs.Common.{◌≡◌, Bool, false, eqb, Option, ◌∙◌, ◌<◌, ◌++◌, List, ℕ, length, sym, ap, arith, Ok}
use Rattle.std.proofs.lemmas.Bool.Decides.{nat_tests}
use Rattle.std.proofs.lemmas.List.{length-append}
use Rattle.jp_ast.specs.declared.token.Lexeme.{Lexeme}
use Rattle.jp_lexer.specs.declared.front.Form.{Form}
use Rattle.jp_lexical.specs.Lexed.{Lexed, FirstFault}
use Rattle.jp_lexer.specs.Scanning.{Front, front_of, lexeme_of, tokens_at}
use Rattle.jp_lexer.proofs.FrontLemmas.{Splits}
use Rattle.jp_lexer.proofs.Whole.{lexed_ends, lexed_once, fault_once, no_fault, fault_here, piece_here, split_into, step_tokens, step_fault, end_tokens}
use Rattle.jp_lexer.proofs.tokens.lex.Goals as goal

found : (c : goal.After-drop-tokens) → FirstFault c.args.text.now (record { place = c.loop-rest.place; kind = c.in-Err.kind })
found c =
    let some : 0 < length c.loop-rest.rest.now = grind (arith, nat_tests) in
    c.loop-rest.invariant.fault _ (fault_here c.loop-rest.place c.loop-rest.rest.now c.in-Err.kind some (sym c.front_of.ensures ∙ c.in-Err.is))

pub returns-in-Err-clause-fault : goal.returns-in-Err-clause-fault
returns-in-Err-clause-fault c = found c

pub returns-in-Err-clause-only_fault : goal.returns-in-Err-clause-only_fault
returns-in-Err-clause-only_fault c = λ other o. fault_once (found c) o

pub returns-in-Err-clause-no_tokens : goal.returns-in-Err-clause-no_tokens
returns-in-Err-clause-no_tokens c = λ tokens t. no_fault t (found c)

-- what stands at the front of the rest
piece : (rest : List ℕ) (empty : Bool) (front : Form × ℕ) (answer : Front) → empty ≡ false → empty ≡ eqb (length rest) 0 → answer ≡ front_of rest → answer ≡ Ok front → Splits rest front.0 front.1
piece rest empty front answer some is exact ok =
    let some : 0 < length rest = grind (arith, nat_tests) in piece_here rest front.0 front.1 some (sym exact ∙ ok)

pub split_at-requires : goal.split_at-requires
split_at-requires c =
    let p = piece c.loop-rest.rest.now c.is_empty.result c.in-Ok.front c.front_of.result c.loop-rest-test.true c.is_empty.ensures c.front_of.ensures c.in-Ok.is in
    omega (arith, p.long, ap length p.parts, length-append p.bytes p.rest)

pub lexeme_of-requires : goal.lexeme_of-requires
lexeme_of-requires c = λ literal. let p = piece c.loop-rest.rest.now c.is_empty.result c.in-Ok.front c.front_of.result c.loop-rest-test.true c.is_empty.ensures c.front_of.ensures c.in-Ok.is in omega (arith, p.literal literal, c.split_at.ensures.front_len)

pub loop-rest-smaller : goal.loop-rest-smaller
loop-rest-smaller c =
    let p = piece c.loop-rest.rest.now c.is_empty.result c.in-Ok.front c.front_of.result c.loop-rest-test.true c.is_empty.ensures c.front_of.ensures c.in-Ok.is in
    omega (arith, p.some, c.split_at.ensures.back_len)

pub loop-rest-preserved : goal.loop-rest-preserved
loop-rest-preserved c =
    let p = piece c.loop-rest.rest.now c.is_empty.result c.in-Ok.front c.front_of.result c.loop-rest-test.true c.is_empty.ensures c.front_of.ensures c.in-Ok.is in
    let rest = c.loop-rest.rest.now in
    let bytes = c.split_at.result.0.now in
    let others = c.split_at.result.1.now in
    let form = c.in-Ok.front.0 in
    let q = split_into rest form c.in-Ok.front.1 bytes others p c.split_at.ensures.front c.split_at.ensures.back in
    let more : c.push_token.new.tokens.items ≡ c.loop-rest.tokens.items ++ tokens_at c.loop-rest.place (lexeme_of form bytes) =
    c.in_ok-push_token.ensures ∙ ap (λ (l : Option Lexeme). c.loop-rest.tokens.items ++ tokens_at c.loop-rest.place l) c.in_ok-lexeme.ensures in
    record {
      whole = step_tokens (Lexed c.args.text.now) c.loop-rest.place c.behind-place.result (lexeme_of form bytes) rest bytes others c.loop-rest.tokens.items c.push_token.new.tokens.items q.parts q.begins c.behind-place.ensures more c.loop-rest.invariant.whole;
      fault = step_fault (FirstFault c.args.text.now) c.loop-rest.place c.behind-place.result (lexeme_of form bytes) rest bytes others q.parts q.begins c.behind-place.ensures c.loop-rest.invariant.fault;
    }

lexed : (c : goal.In_ok-push_token-2) → Lexed c.args.text.now c.push_token-2.new.tokens.items
lexed c =
    let len : length c.loop-rest.rest.now ≡ 0 = grind (arith, nat_tests) in
    end_tokens (Lexed c.args.text.now) c.loop-rest.place c.loop-rest.rest.now c.loop-rest.tokens.items c.push_token-2.new.tokens.items len c.in_ok-push_token-2.ensures c.loop-rest.invariant.whole

pub returns-clause-tokens : goal.returns-clause-tokens
returns-clause-tokens c = lexed c

pub returns-clause-only_tokens : goal.returns-clause-only_tokens
returns-clause-only_tokens c = λ others o. lexed_once (lexed c) o

pub returns-clause-no_fault : goal.returns-clause-no_fault
returns-clause-no_fault c = λ fault f. no_fault (lexed c) f

pub returns-clause-end : goal.returns-clause-end
returns-clause-end c = lexed_ends (lexed c)
