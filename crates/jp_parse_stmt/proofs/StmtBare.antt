-- Statements for which there is no room.
use Rattle.std.proofs.Common.{◌≡◌, ℕ, ◌+◌, ◌<◌, ◌≤◌, max, Bool, true, false, not, ◌||◌, ◌==◌, IsTrue, List, [], ◌∷◌, ◌++◌, map, Option, Some, None, refl, sym, ap, ◌∙◌, subst, inl, inr, ◌⊎◌, Ok, Err, append_assoc, arith}
use Rattle.std.specs.Borrow.{Bor}
use Rattle.std.proofs.lemmas.Bool.{eqb-true}
use Rattle.jp_pred.specs.declared.ty.Ty.TheVariants as ty
use Rattle.jp_ast.specs.declared.token.Place.{Place}
use Rattle.jp_ast.specs.declared.token.Token.{Token}
use Rattle.jp_ast.specs.declared.expr.Expr.{Expr}
use Rattle.jp_ast.specs.declared.stmt.Stmt.{Stmt, fold-Stmt, fold_out-Stmt}
use Rattle.jp_ast.specs.declared.stmt.StmtKind.{StmtKind-F, fold_out-StmtKind}
use Rattle.jp_ast.specs.declared.stmt.StmtKind.TheOpen as stmt_kind
use Rattle.jp_grammar.specs.Depth.{stmt_depth, stmt_depth_step}
use Rattle.jp_ast.specs.declared.stmt.StmtKind.TheVariants as made
use Rattle.jp_ast.specs.declared.sign.TheConstants as sign
use Rattle.jp_grammar.specs.declared.kind.Kind.{Kind}
use Rattle.jp_grammar.specs.declared.kind.Kind.TheVariants as k
use Rattle.jp_grammar.specs.declared.fault.ParseFault.{ParseFault}
use Rattle.jp_grammar.specs.declared.fault.ParseFault.TheVariants.{TooDeep}
use Rattle.jp_grammar.specs.Kinds.{Is, IsSign, Tokens, nowhere, place_of, kind_of_token}
use Rattle.jp_grammar.specs.Trees.{number_at, text_at, truth_at, null_at, this_at, named_at, super_at, new_at}
use Rattle.jp_grammar.specs.Expressions.{Expression, Postfix, Primary, postfix, steps_end, number, text, truth, falsehood, nothing, receiver, parenthesis, name, uncalled, super_call, new_object, no_args, closed}
use Rattle.jp_grammar.specs.Statements.{Statement, Else, Block, OneType, element_type, run, test, no_init, no_expr, no_change, block, empty, local, when_true, while_true, for_each, break_off, continue_on, return_from, change, no_else, some_else, block_end, block_more}
use Rattle.jp_grammar.specs.Reading.{Reads, Ends, Any, Never, Viable, Found, Fails, Refused, IsText}
use Rattle.jp_grammar.proofs.Words.{number_token, text_token, name_token}
use Rattle.jp_grammar.proofs.Excluding.{or_cases}
use Rattle.jp_grammar.proofs.Outcome.{fails_at, deep_at}
use Rattle.jp_grammar.proofs.Samples.{a_number, a_name, a_name_is, a_sign, zero_expr, expression_number}
use Rattle.jp_parse_stmt.specs.Behind.{anything}
use Rattle.jp_parse_stmt.specs.Forms.{OneStmt, Form, Formed, Braced, loop_at, Small, SmallAll, begins_stmt, ends_stmt}
use Rattle.jp_parse_stmt.specs.Parts.{Gets, stmt_at}
use Rattle.jp_parse_stmt.proofs.StmtFacts.{stmt_begins}
use Rattle.jp_parse_stmt.proofs.StmtParts.{an_else, an_else_is, with}
use Rattle.jp_parse_stmt.proofs.StmtBlocks.{block_grows, block_found, braced_fails, braced_gives}
use Rattle.jp_parse_stmt.proofs.StmtDepths.{stmt_depth_empty, deepest_empty, stmt_depth_if, stmt_depth_if_else, stmt_depth_while}
use Rattle.jp_parse_stmt.proofs.StmtLoops.{stmt_depth_for}
use Rattle.jp_parse_stmt.proofs.FormReads.{form_of}

-- the token goes on to a statement behind which anything may stand
abbrev pub Begun : Token → Tokens → Type 0
Begun s zs = (more : Tokens) × (t : Stmt) × Statement (s ∷ (more ++ zs)) t false zs

semicolon_run : (s : Token) (more zs : Tokens) (e : Expr) → Primary (s ∷ (more ++ a_sign sign.SEMICOLON ∷ zs)) e (a_sign sign.SEMICOLON ∷ zs) → Statement (s ∷ (more ++ a_sign sign.SEMICOLON ∷ zs)) (stmt_at s.place (made.Run e)) false zs
semicolon_run s more zs e p = change (run (postfix p steps_end)) refl

primary_begun : (s : Token) (more : Tokens) (e : Expr) (zs : Tokens) → Primary (s ∷ (more ++ a_sign sign.SEMICOLON ∷ zs)) e (a_sign sign.SEMICOLON ∷ zs) → (t : Stmt) × Statement (s ∷ (more ++ a_sign sign.SEMICOLON ∷ zs)) t false zs
primary_begun s more e zs p = (stmt_at s.place (made.Run e), semicolon_run s more zs e p)

sign_begun : (s : Token) (b : ℕ) (zs : Tokens) → kind_of_token s ≡ k.Sign b → IsTrue (begins_stmt (k.Sign b)) → Begun s zs
sign_begun s b zs e h = elim (or_cases (b == sign.OPEN_BRACE || b == sign.SEMICOLON) (b == sign.OPEN_PAREN) h) [
  | inl i ↦ elim (or_cases (b == sign.OPEN_BRACE) (b == sign.SEMICOLON) i) [
    | inl j ↦
        let same : b ≡ sign.OPEN_BRACE = eqb-true b sign.OPEN_BRACE j in
        (a_sign sign.CLOSE_BRACE ∷ [], stmt_at s.place (made.Block []), block (e ∙ ap k.Sign same) (block_end refl))
    | inr j ↦ let same : b ≡ sign.SEMICOLON = eqb-true b sign.SEMICOLON j in ([], stmt_at s.place made.Empty, empty (e ∙ ap k.Sign same))
  ]
  | inr i ↦
      let same : b ≡ sign.OPEN_PAREN = eqb-true b sign.OPEN_PAREN i in
      let e' : kind_of_token s ≡ k.Sign sign.OPEN_PAREN = e ∙ ap k.Sign same in
      let r = primary_begun s (a_number ∷ a_sign sign.CLOSE_PAREN ∷ []) zero_expr zs (parenthesis e' (closed (expression_number (a_sign sign.CLOSE_PAREN ∷ a_sign sign.SEMICOLON ∷ zs)) refl)) in
      (a_number ∷ a_sign sign.CLOSE_PAREN ∷ a_sign sign.SEMICOLON ∷ [], r.0, r.1)
]

kind_begun : (s : Token) (kind : Kind) (zs : Tokens) → kind_of_token s ≡ kind → IsTrue (begins_stmt kind) → Begun s zs
kind_begun s (k.Sign b) zs e h = sign_begun s b zs e h
kind_begun s k.If zs e h = (
  a_sign sign.OPEN_PAREN ∷ a_number ∷ a_sign sign.CLOSE_PAREN ∷ a_sign sign.SEMICOLON ∷ an_else ∷ a_sign sign.SEMICOLON ∷ [],
  stmt_at s.place (made.If zero_expr (stmt_at nowhere made.Empty) (Some (stmt_at nowhere made.Empty))),
  when_true e (test refl (expression_number (a_sign sign.CLOSE_PAREN ∷ a_sign sign.SEMICOLON ∷ an_else ∷ a_sign sign.SEMICOLON ∷ zs)) refl) (empty refl) (some_else an_else_is (empty refl)),
)
kind_begun s k.While zs e h = (
  a_sign sign.OPEN_PAREN ∷ a_number ∷ a_sign sign.CLOSE_PAREN ∷ a_sign sign.SEMICOLON ∷ [],
  stmt_at s.place (made.While zero_expr (stmt_at nowhere made.Empty)),
  while_true e (test refl (expression_number (a_sign sign.CLOSE_PAREN ∷ a_sign sign.SEMICOLON ∷ zs)) refl) (empty refl),
)
kind_begun s k.For zs e h = (
  a_sign sign.OPEN_PAREN ∷ a_sign sign.SEMICOLON ∷ a_sign sign.SEMICOLON ∷ a_sign sign.CLOSE_PAREN ∷ a_sign sign.SEMICOLON ∷ [],
  stmt_at s.place (made.For None None None (stmt_at nowhere made.Empty)),
  for_each e refl (no_init refl) (no_expr refl) (no_change refl) (empty refl),
)
kind_begun s k.Break zs e h = (a_sign sign.SEMICOLON ∷ [], stmt_at s.place made.Break, break_off e refl)
kind_begun s k.Continue zs e h = (a_sign sign.SEMICOLON ∷ [], stmt_at s.place made.Continue, continue_on e refl)
kind_begun s k.Return zs e h = (a_sign sign.SEMICOLON ∷ [], stmt_at s.place (made.Return None), return_from e (no_expr refl))
kind_begun s k.Int zs e h = (a_name ∷ a_sign sign.SEMICOLON ∷ [], stmt_at s.place (made.Local ty.Int (97 ∷ []) None), local (element_type e) a_name_is refl)
kind_begun s k.Boolean zs e h = (a_name ∷ a_sign sign.SEMICOLON ∷ [], stmt_at s.place (made.Local ty.Boolean (97 ∷ []) None), local (element_type e) a_name_is refl)
kind_begun s k.Name zs e h = let w = name_token s e in let r = primary_begun s [] (named_at s.place None w.0) zs (name (uncalled w.1)) in (a_sign sign.SEMICOLON ∷ [], r.0, r.1)
kind_begun s k.Number zs e h = let w = number_token s e in let r = primary_begun s [] (number_at s.place w.0 w.1) zs (number w.2) in (a_sign sign.SEMICOLON ∷ [], r.0, r.1)
kind_begun s k.Text zs e h = let w = text_token s e in let r = primary_begun s [] (text_at s.place w.0) zs (text w.1) in (a_sign sign.SEMICOLON ∷ [], r.0, r.1)
kind_begun s k.True zs e h = let r = primary_begun s [] (truth_at s.place true) zs (truth e) in (a_sign sign.SEMICOLON ∷ [], r.0, r.1)
kind_begun s k.False zs e h = let r = primary_begun s [] (truth_at s.place false) zs (falsehood e) in (a_sign sign.SEMICOLON ∷ [], r.0, r.1)
kind_begun s k.Null zs e h = let r = primary_begun s [] (null_at s.place) zs (nothing e) in (a_sign sign.SEMICOLON ∷ [], r.0, r.1)
kind_begun s k.This zs e h = let r = primary_begun s [] (this_at s.place) zs (receiver e) in (a_sign sign.SEMICOLON ∷ [], r.0, r.1)
kind_begun s k.Super zs e h =
    let r = primary_begun s (a_sign sign.DOT ∷ a_name ∷ a_sign sign.OPEN_PAREN ∷ a_sign sign.CLOSE_PAREN ∷ []) (super_at s.place (97 ∷ []) []) zs (super_call e refl a_name_is refl (no_args refl)) in
    (a_sign sign.DOT ∷ a_name ∷ a_sign sign.OPEN_PAREN ∷ a_sign sign.CLOSE_PAREN ∷ a_sign sign.SEMICOLON ∷ [], r.0, r.1)
kind_begun s k.New zs e h =
    let r = primary_begun s (a_name ∷ a_sign sign.OPEN_PAREN ∷ a_sign sign.CLOSE_PAREN ∷ []) (new_at s.place (97 ∷ []) []) zs (new_object e a_name_is refl (no_args refl)) in
    (a_name ∷ a_sign sign.OPEN_PAREN ∷ a_sign sign.CLOSE_PAREN ∷ a_sign sign.SEMICOLON ∷ [], r.0, r.1)
kind_begun s _ zs e h = cc

-- what begins a statement goes on to one
pub stmt_begun : (s : Token) (zs : Tokens) → IsTrue (begins_stmt (kind_of_token s)) → Begun s zs
stmt_begun s zs h = kind_begun s (kind_of_token s) zs refl h

-- ---- nothing may stand between the braces

step_positive : (kind : StmtKind-F ℕ ℕ) → 1 ≤ stmt_depth_step kind
step_positive (stmt_kind.Block all) = omega arith
step_positive stmt_kind.Empty = omega arith
step_positive (stmt_kind.Local u n v) = omega arith
step_positive (stmt_kind.If e first second) = omega arith
step_positive (stmt_kind.While e body) = omega arith
step_positive (stmt_kind.For i e c body) = omega arith
step_positive stmt_kind.Break = omega arith
step_positive stmt_kind.Continue = omega arith
step_positive (stmt_kind.Return value) = omega arith
step_positive (stmt_kind.Assign left sign right) = omega arith
step_positive (stmt_kind.Bump left up) = omega arith
step_positive (stmt_kind.Run value) = omega arith

pub stmt_depth_positive : (t : Stmt) → 1 ≤ stmt_depth t
unfolding stmt_depth
stmt_depth_positive t = rw (fold_out-Stmt, fold_out-StmtKind) (step_positive _)

bare_never : (s : Token) (more zs : Tokens) (us : List Stmt) → (IsSign sign.CLOSE_BRACE s → ⊥) → Block [] (s ∷ more) us zs → SmallAll 0 us → ⊥
bare_never s more zs us other (block_end h) q = other h
bare_never s more zs us other (block_more {t = t} o r) q = let p = stmt_depth_positive t in let g = (block_grows r).0 in absurd (omega (arith, p, g, q.0))

bare_viable : Viable (Block []) (λ _. anything) anything (SmallAll 0) []
bare_viable zs e = (a_sign sign.CLOSE_BRACE ∷ [], [], block_end refl, e, (omega arith, omega arith))

-- a statement would be too deep
pub bare_deep : (s : Token) (xs : Tokens) → (IsSign sign.CLOSE_BRACE s → ⊥) → IsTrue (begins_stmt (kind_of_token s)) → Gets (Block []) anything (SmallAll 0) (s ∷ xs) (Err (TooDeep s.place))
bare_deep s xs other h = deep_at (Block []) anything (SmallAll 0) [] s xs bare_viable (λ more zs us r e q. bare_never s more zs us other r q)
    (λ zs e. let b = stmt_begun s (a_sign sign.CLOSE_BRACE ∷ zs) h in
    (b.0 ++ a_sign sign.CLOSE_BRACE ∷ [], b.1 ∷ [], subst (λ (x : Tokens). Block [] (s ∷ x) (b.1 ∷ []) zs) (sym (append_assoc b.0 (a_sign sign.CLOSE_BRACE ∷ []) zs)) (block_more b.2 (block_end refl)), e, tt))

bare_nothing : (s : Token) (more zs : Tokens) (us : List Stmt) → (IsSign sign.CLOSE_BRACE s → ⊥) → (IsTrue (begins_stmt (kind_of_token s)) → ⊥) → Block [] (s ∷ more) us zs → ⊥
bare_nothing s more zs us other none (block_end h) = other h
bare_nothing s more zs us other none (block_more o r) = none (stmt_begins o)

-- no statement stands there
pub bare_wrong : (s : Token) (xs : Tokens) (e : ParseFault) → (IsSign sign.CLOSE_BRACE s → ⊥) → (IsTrue (begins_stmt (kind_of_token s)) → ⊥) → Refused s e → Gets (Block []) anything (SmallAll 0) (s ∷ xs) (Err e)
bare_wrong s xs e other none r = fails_at (Block []) anything (SmallAll 0) [] s xs e r bare_viable (λ more zs us d h q. bare_nothing s more zs us other none d)

-- ---- no room for the statement in an `if`, a `while` or a `for`

-- such a word goes on to statements that are too deep alone
pub word_deep : (s : Token) (xs : Tokens) → IsTrue (begins_stmt (kind_of_token s)) → ((more zs : Tokens) (x : Stmt × Bool) → OneStmt (s ∷ more) x zs → stmt_depth x.0 ≤ 1 → ⊥) → Fails OneStmt ends_stmt anything (Small 1) (s ∷ xs) (TooDeep s.place)
word_deep s xs h deep = inr (record {
  front = [];
  next = s;
  more = xs;
  split = refl;
  tells = refl;
  viable = λ zs e. (a_sign sign.SEMICOLON ∷ [], with (stmt_at nowhere made.Empty) false, empty refl, e, let d = stmt_depth_empty nowhere in let i = deepest_empty nowhere in (omega (arith, d), omega (arith, i)));
  never = λ more zs x r e q. deep more zs x r q.0;
  never_deeper = λ i. cc;
  deeper = λ i. λ zs e. let b = stmt_begun s zs h in (b.0, with b.1 false, b.2, e, tt);
})

if_deep : (at : Place) (e : Expr) (a t : Stmt) (inner short : Bool) (ys zs : Tokens) → Else at e a inner ys t short zs → stmt_depth t ≤ 1 → ⊥
if_deep at e a t inner short ys zs no_else q = let d = stmt_depth_if at e a in let p = stmt_depth_positive a in absurd (omega (arith, d, p, q))
if_deep at e a t inner short ys zs (some_else {b = b} h r) q = let d = stmt_depth_if_else at e a b in let p = stmt_depth_positive a in absurd (omega (arith, d, p, q))

pub when_deep : (s : Token) (xs : Tokens) → Is k.If s → Fails OneStmt ends_stmt anything (Small 1) (s ∷ xs) (TooDeep s.place)
when_deep s xs h = word_deep s xs (ap begins_stmt h) (λ more zs x r q. let f : Form k.If s more x zs = subst (λ (y : Kind). Form y s more x zs) h (form_of s more zs x.0 x.1 r) in if_deep s.place f.0 f.3.0.0 x.0 f.3.0.1 x.1 f.3.1 zs f.3.3 q)

pub while_deep : (s : Token) (xs : Tokens) → Is k.While s → Fails OneStmt ends_stmt anything (Small 1) (s ∷ xs) (TooDeep s.place)
while_deep s xs h = word_deep s xs (ap begins_stmt h) (λ more zs x r q.
    let f : Form k.While s more x zs = subst (λ (y : Kind). Form y s more x zs) h (form_of s more zs x.0 x.1 r) in
    let d = stmt_depth_while s.place f.0 f.3.0 in
    let p = stmt_depth_positive f.3.0 in
    let same : stmt_depth x.0 ≡ stmt_depth (stmt_at s.place (made.While f.0 f.3.0)) = ap stmt_depth f.3.2 in
    absurd (omega (arith, d, p, q, same)))

-- ---- the braces as a statement that may hold none

module _ (at : Place) (s : Token) (xs tokens : Tokens) (split : tokens ≡ s ∷ xs) where
  pub bare_full : (IsSign sign.CLOSE_BRACE s → ⊥) → begins_stmt (kind_of_token s) ≡ true → Formed (Braced at) 1 tokens (Err (TooDeep s.place))
  bare_full other h = subst (λ (x : Tokens). Formed (Braced at) 1 x (Err (TooDeep s.place))) (sym split) (braced_fails at 1 (omega arith) (s ∷ xs) (TooDeep s.place) (bare_deep s xs other h))

  pub bare_refused : (e : ParseFault) → (IsSign sign.CLOSE_BRACE s → ⊥) → begins_stmt (kind_of_token s) ≡ false → Refused s e → Formed (Braced at) 1 tokens (Err e)
  bare_refused e other h r = subst (λ (x : Tokens). Formed (Braced at) 1 x (Err e)) (sym split) (braced_fails at 1 (omega arith) (s ∷ xs) e (bare_wrong s xs e other (λ i. cc) r))

  pub bare_closed : (t : Stmt) (zs : Bor Tokens) → zs.now ≡ xs → IsSign sign.CLOSE_BRACE s → IsText zs.now → t ≡ stmt_at at (made.Block []) → Formed (Braced at) 1 tokens (Ok (t, zs))
  bare_closed t zs rest h whole same = braced_gives at 1 (omega arith) [] t tokens zs (block_found 0 [] s zs.now tokens (split ∙ ap (λ (x : Tokens). s ∷ x) (sym rest)) h, (omega arith, omega arith)) whole same

pub for_deep : (s : Token) (xs : Tokens) → Is k.For s → Fails OneStmt ends_stmt anything (Small 1) (s ∷ xs) (TooDeep s.place)
for_deep s xs h = word_deep s xs (ap begins_stmt h) (λ more zs x r q.
    let f : Form k.For s more x zs = subst (λ (y : Kind). Form y s more x zs) h (form_of s more zs x.0 x.1 r) in
    let t : Stmt = loop_at s.place f.0 f.3.0 in
    let same : stmt_depth x.0 ≡ stmt_depth t = ap stmt_depth f.3.2 in
    let d = stmt_depth_for s.place f.0.0 f.0.2 f.0.1 f.3.0 in
    let p = stmt_depth_positive f.3.0 in
    absurd (omega (arith, d, p, q, same)))
