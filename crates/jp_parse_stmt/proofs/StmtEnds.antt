-- Statements without statements in them, and statements in braces.
use Rattle.std.proofs.Common.{◌≡◌, ℕ, ◌+◌, ◌-◌, ◌<◌, ◌≤◌, max, Bool, true, false, not, ◌&&◌, ◌||◌, ◌==◌, IsTrue, List, [], ◌∷◌, ◌++◌, length, map, Option, Some, None, Result, Ok, Err, IfOk, refl, sym, ap, ◌∙◌, subst, inl, inr, ◌⊎◌, rules, arith}
use Rattle.std.specs.Borrow.{Bor}
use Rattle.std.proofs.lemmas.Bool.{eqb-true}
use Rattle.jp_pred.specs.declared.ty.Ty.TheVariants as ty
use Rattle.jp_ast.specs.declared.token.Place.{Place}
use Rattle.jp_ast.specs.declared.token.Token.{Token}
use Rattle.jp_ast.specs.declared.expr.Expr.{Expr}
use Rattle.jp_ast.specs.declared.stmt.Stmt.{Stmt}
use Rattle.jp_ast.specs.declared.stmt.StmtKind.{StmtKind}
use Rattle.jp_ast.specs.declared.stmt.StmtKind.TheVariants as made
use Rattle.jp_ast.specs.declared.sign.TheConstants as sign
use Rattle.jp_grammar.specs.declared.kind.Kind.{Kind}
use Rattle.jp_grammar.specs.declared.kind.Kind.TheVariants as k
use Rattle.jp_grammar.specs.declared.fault.ParseFault.{ParseFault}
use Rattle.jp_grammar.specs.declared.fault.ParseFault.TheVariants.{TooDeep, OutOfMemory}
use Rattle.jp_grammar.specs.Kinds.{Is, IsSign, Tokens, nowhere, kind_of_token}
use Rattle.jp_grammar.specs.Depth.{depth, depth_of_option, greatest, stmt_depth, deepest}
use Rattle.jp_grammar.specs.Expressions.{Expression}
use Rattle.jp_grammar.specs.Statements.{Change, Init, Declared, Test, Statement, Else, Block, assign, bump, run, declared, init_local, init_change, block_end, block_more}
use Rattle.jp_grammar.specs.Reading.{Reads, Ends, Any, Never, Viable, SameHead, Follows, Found, Fault, Fails, Refused, Takes, Lacks, Begins, IsText, IsRest}
use Rattle.jp_grammar.proofs.Sequence.{Then, Step, Image, found_then, found_image, fails_first, fails_then, fails_image}
use Rattle.jp_grammar.proofs.Choice.{Choice, found_choice, fails_choice}
use Rattle.jp_grammar.proofs.Outcome.{fails_at, deep_at}
use Rattle.jp_grammar.proofs.Samples.{a_sign}
use Rattle.jp_parse_stmt.specs.Behind.{anything}
use Rattle.jp_parse_stmt.specs.Forms.{OneStmt, Form, Formed, Small, SmallAll, Flat, Ended, IsEnding, Returned, Braced, begins_stmt, ends_stmt, is_else}
use Rattle.jp_parse_stmt.specs.Locals.{NameOf, name_of, Head, Valued, valued, Declares, no_value, some_value, LocalLine, Simple}
use Rattle.jp_parse_stmt.specs.Parts.{Gets, Shallow, Sealed, Shut, MaybeShut, Each, stmt_at}
use Rattle.jp_parse_stmt.proofs.FormReads.{form_of, form_into, simple_stmt}
use Rattle.jp_parse_stmt.proofs.StmtDepths.{stmt_depth_empty, deepest_empty, stmt_depth_local, stmt_depth_assign, stmt_depth_bump, stmt_depth_run, stmt_depth_return, deepest_return, stmt_depth_break, deepest_break, stmt_depth_continue, deepest_continue, stmt_depth_block, deepest_block, greatest_push}
use Rattle.jp_parse_stmt.proofs.StmtFacts.{stmt_begins, stmt_shorter, block_shorter}
use Rattle.jp_parse_stmt.proofs.StmtParts.{fails_known, some_token, text_some, begins_no_else, with}

-- ---- simple statements

pub change_flat : (xs zs : Tokens) (t : Stmt) → Change xs t zs → stmt_depth t ≡ 1
change_flat xs zs t (assign {b = b} {left = l} {right = r} p h i e) = stmt_depth_assign _ l r b
change_flat xs zs t (bump {up = up} {left = l} p h) = stmt_depth_bump _ l up
change_flat xs zs t (run {e = e} p) = stmt_depth_run _ e

pub sealed_flat : (n : ℕ) (a t : Stmt) (ys zs : Tokens) → stmt_depth a ≡ 1 → Sealed n a ys t zs → stmt_depth t ≡ 1
sealed_flat n a t [] zs h r = absurd r
sealed_flat n a t (s ∷ ys) zs h r = ap stmt_depth r.1 ∙ h

declares_flat : (at : Place) (x : _) (ys zs : Tokens) (t : Stmt) → Declares at x ys t zs → stmt_depth t ≡ 1
declares_flat at x ys zs t (no_value h) = stmt_depth_local at x.0 x.1 None
declares_flat at x ys zs t (some_value (valued {value = v} h r)) = stmt_depth_local at x.0 x.1 (Some v)

simple_flat : (xs zs : Tokens) (t : Stmt) → Simple xs t zs → stmt_depth t ≡ 1
simple_flat xs zs t (inl r) = declares_flat r.0.0 r.0.1 r.1 zs t r.3
simple_flat xs zs t (inr r) = sealed_flat sign.SEMICOLON r.0 t r.1 zs (change_flat xs r.1 r.0 r.2) r.3

-- simple statements among all
abbrev SimpleOne : Reads (Stmt × Bool)
SimpleOne xs x zs = Simple xs x.0 zs × (x.1 ≡ false)

same_with : (x : Stmt × Bool) (t : Stmt) (b : Bool) → x.0 ≡ t → x.1 ≡ b → x ≡ with t b
same_with (u, c) t b h i = cc

simple_image : (P : Stmt → Type 0) → Image [] (λ (t : Stmt). with t false) Simple SimpleOne (λ _. anything) ends_stmt P (λ x. P x.0)
simple_image P = record {
  same = λ a zs. (λ e. e, λ e. e);
  into = λ xs zs t r. (r, refl);
  from = λ xs zs x r e. (x.0, same_with x x.0 false refl r.1, r.0);
  up = λ a p. p;
  down = λ a p. p;
}

-- no statement with a word of its own begins with the kind
abbrev pub Plain : Kind → Type 0
Plain k.If = ⊥
Plain k.While = ⊥
Plain k.For = ⊥
Plain k.Break = ⊥
Plain k.Continue = ⊥
Plain k.Return = ⊥
Plain (k.Sign b) = (b ≡ sign.OPEN_BRACE → ⊥) × (b ≡ sign.SEMICOLON → ⊥)
Plain kind = Unit {0}

plain_form : (kind : Kind) (s : Token) (xs zs : Tokens) (x : Stmt × Bool) → Plain kind → Form kind s xs x zs → SimpleOne (s ∷ xs) x zs
plain_form k.If s xs zs x p f = absurd p
plain_form k.While s xs zs x p f = absurd p
plain_form k.For s xs zs x p f = absurd p
plain_form k.Break s xs zs x p f = absurd p
plain_form k.Continue s xs zs x p f = absurd p
plain_form k.Return s xs zs x p f = absurd p
plain_form (k.Sign b) s xs zs x p (inl r) = absurd (p.0 r.0)
plain_form (k.Sign b) s xs zs x p (inr (inl r)) = absurd (p.1 r.0)
plain_form (k.Sign b) s xs zs x p (inr (inr r)) = r
plain_form _ s xs zs x p f = f

simple_choice : (s : Token) → Plain (kind_of_token s) → Choice s SimpleOne OneStmt ends_stmt
simple_choice s p = record {
  into = λ xs zs x r. subst (λ (b : Bool). Statement xs x.0 b zs) (sym r.1) (simple_stmt xs zs x.0 r.0);
  from = λ xs zs x r e. plain_form (kind_of_token s) s xs zs x p (form_of s xs zs x.0 x.1 r);
  solid = λ xs x r. let h = stmt_shorter (simple_stmt xs xs x.0 r.0) in absurd (omega (arith, h));
}

simple_fits : (most : ℕ) → 1 ≤ most → (xs zs : Tokens) (x : Stmt × Bool) → SimpleOne xs x zs → Shallow x.0 → Small most x
simple_fits most room xs zs x r p = let d = simple_flat xs zs x.0 r.0 in (omega (arith, d, room), p)

-- a simple statement
pub simple_gives : (most : ℕ) (s : Token) (xs tokens : Tokens) (r : Result (Stmt × Bor Tokens) ParseFault) → 1 ≤ most → tokens ≡ s ∷ xs → Plain (kind_of_token s) → IfOk r (λ x. IsRest tokens x.1.now) → Gets Simple anything Shallow tokens r → Formed OneStmt most tokens r
simple_gives most s xs tokens (Ok x) room split p rest g =
    let f : Found SimpleOne ends_stmt tokens (with x.0 false) x.1.now = found_image (simple_image Shallow) g.0 in
    let f' : Found SimpleOne ends_stmt (s ∷ xs) (with x.0 false) x.1.now = subst (λ (y : Tokens). Found SimpleOne ends_stmt y (with x.0 false) x.1.now) split f in
    let r : SimpleOne (f.front ++ x.1.now) (with x.0 false) x.1.now = f.reads x.1.now (inl (text_some x.1.now rest.0)) in
    (false, subst (λ (y : Tokens). Found OneStmt ends_stmt y (with x.0 false) x.1.now) (sym split) (found_choice (simple_choice s p) f'), simple_fits most room _ _ (with x.0 false) r g.1, text_some x.1.now rest.0)
simple_gives most s xs tokens (Err e) room split p rest g =
    let f : Fails SimpleOne ends_stmt anything (λ x. Shallow x.0) tokens e = fails_image (simple_image Shallow) anything tokens e g in
    let f' : Fails SimpleOne ends_stmt anything (Small most) (s ∷ xs) e = subst (λ (y : Tokens). Fails SimpleOne ends_stmt anything (Small most) y e) split (fails_known (simple_fits most room) (λ xs zs x r q. q.1) tokens e f) in
    subst (λ (y : Tokens). Fails OneStmt ends_stmt anything (Small most) y e) (sym split) (fails_choice (simple_choice s p) anything (Small most) xs e f')

-- ---- a word and `;`

ending_small : (at : Place) (kind : StmtKind) → IsEnding kind → (stmt_depth (stmt_at at kind) ≤ 1) × (deepest (stmt_at at kind) ≤ 200)
ending_small at kind (inl h) = rw h (let d = stmt_depth_break at in let i = deepest_break at in (omega (arith, d), omega (arith, i)))
ending_small at kind (inr h) = rw h (let d = stmt_depth_continue at in let i = deepest_continue at in (omega (arith, d), omega (arith, i)))

module _ (at : Place) (kind : StmtKind) (ending : IsEnding kind) (most : ℕ) (room : 1 ≤ most) where
  ended_small : Small most (with (stmt_at at kind) false)
  ended_small = let e = ending_small at kind ending in (omega (arith, e.0, room), e.1)

  ended_only : (p : Token) (ys zs : Tokens) (x : Stmt × Bool) → Ended at kind (p ∷ ys) x zs → (x ≡ with (stmt_at at kind) false) × (zs ≡ ys)
  ended_only p ys zs x r = let e = r.1 in (same_with x (stmt_at at kind) false r.3 r.4, cc)

  ended_never : (s : Token) (more zs : Tokens) (x : Stmt × Bool) → (IsSign sign.SEMICOLON s → ⊥) → Ended at kind (s ∷ more) x zs → ⊥
  ended_never s more zs x other r = let e = r.1 in let same : r.0 ≡ s = cc in other (subst (λ (y : Token). IsSign sign.SEMICOLON y) same r.2)

  -- no `;` stands there
  pub ended_wrong : (tokens : Tokens) (e : ParseFault) → Lacks sign.SEMICOLON tokens e → Fails (Ended at kind) ends_stmt anything (Small most) tokens e
  ended_wrong tokens e l = ended_fault l.refused where
    ended_fault : Refused l.first e → Fails (Ended at kind) ends_stmt anything (Small most) tokens e
    ended_fault (inl m) = inl m
    ended_fault (inr r) = inr (record {
      front = [];
      next = l.first;
      more = l.rest;
      split = l.split;
      tells = r.0;
      viable = λ zs h. (a_sign sign.SEMICOLON ∷ [], with (stmt_at at kind) false, (a_sign sign.SEMICOLON, refl, refl, refl, refl), h, ended_small);
      never = λ more zs x d h q. ended_never l.first more zs x l.other d;
      never_deeper = λ i. λ more zs x d h q. ended_never l.first more zs x l.other d;
      deeper = λ i. let c = r.1 in cc;
    })

  pub ended_gives : (t : Stmt) (tokens : Tokens) (zs : Bor Tokens) → Takes sign.SEMICOLON tokens zs.now → IsText zs.now → t ≡ stmt_at at kind → Formed (Ended at kind) most tokens (Ok (t, zs))
  ended_gives t tokens zs l text same =
      let f : Found (Ended at kind) ends_stmt tokens (with (stmt_at at kind) false) zs.now = record {
        front = l.first ∷ [];
        split = l.split;
        reads = λ ys g. (l.first, refl, l.sign_is, refl, refl);
        only = λ ys zs' x g r h. ended_only l.first ys zs' x r;
      } in
      subst (λ (u : Stmt). Formed (Ended at kind) most tokens (Ok (u, zs))) (sym same) (false, f, ended_small, text_some zs.now text)

-- ---- `return`

module _ (at : Place) (most : ℕ) (room : 1 ≤ most) where
  return_image : Image [] (λ (e : Option Expr). with (stmt_at at (made.Return e)) false) (MaybeShut sign.SEMICOLON Expression) (Returned at) (λ _. anything) ends_stmt (Each (λ t. depth t ≤ 200)) (Small most)
  return_image = record {
    same = λ a zs. (λ e. e, λ e. e);
    into = λ xs zs e r. (e, r, refl, refl);
    from = λ xs zs x r h. (r.0, same_with x (stmt_at at (made.Return r.0)) false r.2 r.3, r.1);
    up = return_up;
    down = return_down;
  } where
    return_up : (e : Option Expr) → Each (λ t. depth t ≤ 200) e → Small most (with (stmt_at at (made.Return e)) false)
    return_up None p = let d = stmt_depth_return at None in let i = deepest_return at None in (omega (arith, d, room), omega (arith, i))
    return_up (Some e) p = let d = stmt_depth_return at (Some e) in let i = deepest_return at (Some e) in (omega (arith, d, room), omega (arith, i, p))

    return_down : (e : Option Expr) → Small most (with (stmt_at at (made.Return e)) false) → Each (λ t. depth t ≤ 200) e
    return_down None p = tt
    return_down (Some e) p = let i = deepest_return at (Some e) in omega (arith, i, p.1)

  pub return_fails : (xs : Tokens) (e : ParseFault) → Fails (MaybeShut sign.SEMICOLON Expression) (λ _. anything) anything (Each (λ t. depth t ≤ 200)) xs e → Fails (Returned at) ends_stmt anything (Small most) xs e
  return_fails xs e f = fails_image return_image anything xs e f

  pub return_gives : (e : Option Expr) (t : Stmt) (xs : Tokens) (zs : Bor Tokens) → Gets (MaybeShut sign.SEMICOLON Expression) anything (Each (λ t. depth t ≤ 200)) xs (Ok (e, zs)) → IsText zs.now → t ≡ stmt_at at (made.Return e) → Formed (Returned at) most xs (Ok (t, zs))
  return_gives e t xs zs g text same =
      subst (λ (u : Stmt). Formed (Returned at) most xs (Ok (u, zs))) (sym same) (false, found_image return_image g.0, return_image.up e g.1, text_some zs.now text)
