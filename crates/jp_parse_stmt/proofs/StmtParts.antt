-- Statements behind their first token, by what is read of them.
use Rattle.std.proofs.Common.{◌≡◌, ℕ, ◌+◌, ◌-◌, ◌<◌, ◌≤◌, max, Bool, true, false, not, ◌&&◌, ◌||◌, ◌==◌, IsTrue, List, [], ◌∷◌, ◌++◌, length, map, Option, Some, None, Result, Ok, Err, IfOk, refl, sym, ap, ◌∙◌, subst, inl, inr, ◌⊎◌, rules, arith}
use Rattle.std.specs.Borrow.{Bor}
use Rattle.jp_ast.specs.declared.token.Place.{Place}
use Rattle.jp_ast.specs.declared.token.Token.{Token}
use Rattle.jp_ast.specs.declared.token.Lexeme.TheVariants as lexeme
use Rattle.jp_ast.specs.declared.expr.Expr.{Expr}
use Rattle.jp_ast.specs.declared.stmt.Stmt.{Stmt}
use Rattle.jp_ast.specs.declared.stmt.StmtKind.{StmtKind}
use Rattle.jp_ast.specs.declared.stmt.StmtKind.TheVariants as made
use Rattle.jp_ast.specs.declared.sign.TheConstants as sign
use Rattle.jp_grammar.specs.declared.kind.Kind.{Kind}
use Rattle.jp_grammar.specs.declared.kind.Kind.TheVariants as k
use Rattle.jp_grammar.specs.declared.fault.ParseFault.{ParseFault}
use Rattle.jp_grammar.specs.declared.fault.ParseFault.TheVariants.{TooDeep}
use Rattle.jp_grammar.specs.Kinds.{Is, IsSign, Tokens, nowhere, kind_of_token, kind_of_word, reserved}
use Rattle.jp_grammar.specs.Depth.{depth, greatest, stmt_depth, deepest}
use Rattle.jp_grammar.specs.Expressions.{Expression}
use Rattle.jp_grammar.specs.Statements.{Test, Statement, Else, Block, empty, no_else, some_else, block_end, block_more, test}
use Rattle.jp_grammar.specs.Reading.{Reads, Ends, Any, Never, Viable, SameHead, Follows, Found, Fault, Fails, Begins, IsText, IsRest}
use Rattle.jp_grammar.proofs.Sequence.{Then, Step, Image, found_then, found_image, fails_first, fails_then, fails_image}
use Rattle.jp_grammar.proofs.Choice.{Choice, found_choice, fails_choice}
use Rattle.jp_grammar.proofs.Samples.{a_number, a_name, a_name_is, a_sign, zero_expr, expression_number}
use Rattle.jp_parse_stmt.specs.Behind.{anything}
use Rattle.jp_parse_stmt.specs.Forms.{OneStmt, Tested, Form, Formed, Small, SmallAll, Flat, Bodied, ElseOf, Branched, Elsed, begins_stmt, ends_stmt, is_else}
use Rattle.jp_parse_stmt.specs.Locals.{Simple}
use Rattle.jp_parse_stmt.specs.Parts.{Gets, Shallow, stmt_at}
use Rattle.jp_parse_stmt.proofs.FormReads.{form_of, form_into, simple_stmt}
use Rattle.jp_parse_stmt.proofs.StmtDepths.{stmt_depth_empty, deepest_empty, stmt_depth_if, deepest_if, stmt_depth_if_else, deepest_if_else, greatest_push}
use Rattle.jp_parse_stmt.proofs.StmtFacts.{stmt_begins, stmt_shorter, block_shorter}

-- ---- what holds of what is read

-- where the one bound holds of what is read, the other does, and the other way round
pub fails_known : {A : Type 0} {R : Reads A} {ends : A → Token → Bool} {follow : Token → Bool} {P Q : A → Type 0} →
    ((xs zs : Tokens) (t : A) → R xs t zs → P t → Q t) → ((xs zs : Tokens) (t : A) → R xs t zs → Q t → P t) → (xs : Tokens) (e : ParseFault) → Fails R ends follow P xs e → Fails R ends follow Q xs e
fails_known up down xs e (inl m) = inl m
fails_known {A} {R} {ends} {follow} {P} {Q} up down xs e (inr g) = inr (record {
  front = g.front;
  next = g.next;
  more = g.more;
  split = g.split;
  tells = g.tells;
  viable = λ zs f. let v : (more : Tokens) × (t : A) × R (g.front ++ (more ++ zs)) t zs × Ends (ends t) zs × P t = g.viable zs f in (v.0, v.1, v.2, v.3, up _ _ v.1 v.2 v.4);
  never = λ more zs t r f q. g.never more zs t r f (down _ _ t r q);
  never_deeper = g.never_deeper;
  deeper = g.deeper;
})

-- a list that begins with something is not empty
pub some_token : (begins : Kind → Bool) (xs : Tokens) → Begins begins xs → Ends anything xs
some_token begins [] h = absurd h
some_token begins (s ∷ xs) h = refl

pub text_some : (xs : Tokens) → IsText xs → Ends anything xs
text_some [] h = absurd h
text_some (s ∷ xs) h = refl

-- a statement with whether it ends in an `if` that has no `else`
abbrev pub with : Stmt → Bool → Stmt × Bool
with t b = (t, b)

same_stmt : (x : Stmt × Bool) (t : Stmt) (b : Bool) → x.0 ≡ t → x.1 ≡ b → x ≡ (t, b)
same_stmt (u, c) t b h i = cc

-- ---- a statement by the kind of its first token

form_image : (kind : Kind) (s : Token) (P : Stmt × Bool → Type 0) → kind_of_token s ≡ kind → Image (s ∷ []) (λ x. x) (Form kind s) OneStmt ends_stmt ends_stmt P P
form_image kind s P h = record {
  same = λ a zs. (λ e. e, λ e. e);
  into = λ xs zs x r. form_into s xs zs x (subst (λ (y : Kind). Form y s xs x zs) (sym h) r);
  from = λ xs zs x r e. (x, refl, subst (λ (y : Kind). Form y s xs x zs) h (form_of s xs zs x.0 x.1 r));
  up = λ a p. p;
  down = λ a p. p;
}

-- what stands behind the first token of a statement
pub form_gives : (kind : Kind) (most : ℕ) (s : Token) (xs : Tokens) (r : Result (Stmt × Bor Tokens) ParseFault) → kind_of_token s ≡ kind → Formed (Form kind s) most xs r → Formed OneStmt most (s ∷ xs) r
form_gives kind most s xs (Ok x) h f = (f.0, found_image (form_image kind s (Small most) h) f.1, f.2, f.3)
form_gives kind most s xs (Err e) h f = fails_image (form_image kind s (Small most) h) anything xs e f

-- ---- a statement, and f of it, behind something else

bodied_starts : (f : Stmt → Stmt) (ys zs : Tokens) (t : Stmt × Bool) → Bodied f ys t zs → Ends anything ys
bodied_starts f ys zs t r = some_token begins_stmt ys (stmt_begins r.1)

module _ {A : Type 0} (P : A → Type 0) (f : A → Stmt → Stmt) (most : ℕ)
    (up : (a : A) (b : Stmt) → P a → stmt_depth b + 1 ≤ most → deepest b ≤ 200 → (stmt_depth (f a b) ≤ most) × (deepest (f a b) ≤ 200))
    (down : (a : A) (b : Stmt) → stmt_depth (f a b) ≤ most → deepest (f a b) ≤ 200 → P a × (stmt_depth b + 1 ≤ most) × (deepest b ≤ 200)) (room : 2 ≤ most) where
  body_down : (a : A) (ys zs : Tokens) (t : Stmt × Bool) → Bodied (f a) ys t zs → Small most t → P a
  body_down a ys zs t r q =
      let i : (stmt_depth (f a r.0) ≤ most) × (deepest (f a r.0) ≤ 200) = subst (λ (u : Stmt). (stmt_depth u ≤ most) × (deepest u ≤ 200)) r.2 q in
      (down a r.0 i.0 i.1).0

  empty_small : (a : A) → P a → Small most (f a (stmt_at nowhere made.Empty), false)
  empty_small a p = let d = stmt_depth_empty nowhere in let e = deepest_empty nowhere in up a (stmt_at nowhere made.Empty) p (omega (arith, d, room)) (omega (arith, e))

  body_image : (a : A) → P a → Image [] (λ (b : Stmt × Bool). (f a b.0, b.1)) OneStmt (Bodied (f a)) ends_stmt ends_stmt (Small (most - 1)) (Small most)
  body_image a p = record {
    same = λ b zs. (λ e. e, λ e. e);
    into = λ xs zs b r. (b.0, r, refl);
    from = λ xs zs t r e. ((r.0, t.1), same_stmt t (f a r.0) t.1 r.2 refl, r.1);
    up = λ b q. up a b.0 p (omega (arith, q.0, room)) q.1;
    down = λ b q. let d = down a b.0 q.0 q.1 in (omega (arith, d.1, room), d.2);
  }

  module _ {R : Reads A} where
    body_step : Step R (λ a. Bodied (f a)) (λ _. anything) ends_stmt anything anything P (Small most)
    body_step = record {
      starts = λ a ys zs t r e. bodied_starts (f a) ys zs t r;
      down = body_down;
      close = a_sign sign.SEMICOLON ∷ [];
      follows = λ zs e. refl;
      closed = λ a zs e e'. ((f a (stmt_at nowhere made.Empty), false), (stmt_at nowhere made.Empty, empty refl, refl), e', empty_small a);
    }

    -- what stands before the statement fails
    pub body_begun : (xs : Tokens) (e : ParseFault) → Fails R (λ _. anything) anything P xs e → Fails (Then R (λ a. Bodied (f a))) ends_stmt anything (Small most) xs e
    body_begun xs e g = fails_first body_step xs e g

    -- the statement fails
    pub body_fails : (a : A) (xs ys : Tokens) (e : ParseFault) → Found R (λ _. anything) xs a ys → P a → Fails OneStmt ends_stmt anything (Small (most - 1)) ys e → Fails (Then R (λ a. Bodied (f a))) ends_stmt anything (Small most) xs e
    body_fails a xs ys e g p h = fails_then body_step xs ys a e g (fails_image (body_image a p) anything ys e h)

    -- the statement is read
    pub body_gives : (a : A) (b t : Stmt) (xs ys : Tokens) (zs : Bor Tokens) → Found R (λ _. anything) xs a ys → P a → Formed OneStmt (most - 1) ys (Ok (b, zs)) → t ≡ f a b → Formed (Then R (λ a. Bodied (f a))) most xs (Ok (t, zs))
    body_gives a b t xs ys zs g p h same =
        let u = up a b p (omega (arith, h.2.0, room)) h.2.1 in
        subst (λ (x : Stmt). Formed (Then R (λ a. Bodied (f a))) most xs (Ok (x, zs))) (sym same)
        (h.0, found_then body_step g (found_image (body_image a p) h.1), u, h.3)

-- ---- `if` and its statements

else_begins : (s : Token) → Is k.Else s → IsTrue (is_else (kind_of_token s))
else_begins s h = ap is_else h

no_both : (b : Bool) → IsTrue b → IsTrue (not b) → ⊥
no_both true h i = cc
no_both false h i = cc

pub short_less : (b : Bool) (c : Bool) → IsTrue (not c) → IsTrue (not (b && c))
short_less true c h = h
short_less false c h = refl

pub kind_no_else : (kind : Kind) → (kind ≡ k.Else → ⊥) → IsTrue (not (is_else kind))
kind_no_else k.Else h = absurd (h refl)
kind_no_else _ h = refl

pub begins_no_else : (kind : Kind) → IsTrue (begins_stmt kind) → IsTrue (not (is_else kind))
begins_no_else k.Else h = cc
begins_no_else _ h = refl

-- the statement with a second one that is empty
abbrev empty_else : Place → Expr → Stmt → Stmt
empty_else at e a = stmt_at at (made.If e a (Some (stmt_at nowhere made.Empty)))

-- where `else` may stand behind a statement, it ends in no `if` without `else`
not_short : (b : Bool) → IsTrue (not (b && true)) → b ≡ false
not_short true h = cc
not_short false h = refl

abbrev pub an_else : Token
an_else = record { place = nowhere; lexeme = lexeme.Word (101 ∷ 108 ∷ 115 ∷ 101 ∷ []) }

pub an_else_is : Is k.Else an_else
unfolding kind_of_word reserved
an_else_is = refl

empty_read : (at : Place) (e : Expr) (a : Stmt) (b : Bool) (zs : Tokens) → b ≡ false → Else at e a b (an_else ∷ a_sign sign.SEMICOLON ∷ zs) (empty_else at e a) false zs
empty_read at e a b zs h = subst (λ (c : Bool). Else at e a c (an_else ∷ a_sign sign.SEMICOLON ∷ zs) (empty_else at e a) false zs) (sym h) (some_else an_else_is (empty refl))

else_short : (b : Bool) (zs : Tokens) → Ends (ends_stmt (stmt_at nowhere made.Empty, b)) (an_else ∷ zs) → b ≡ false
else_short b zs h = not_short b (subst (λ (c : Bool). IsTrue (not (b && c))) (else_begins an_else an_else_is) h)

module _ (at : Place) (e : Expr) (most : ℕ) (test_small : depth e ≤ 200) (room : 2 ≤ most) where
  else_starts : (a t : Stmt) (inner short : Bool) (ys zs : Tokens) → Else at e a inner ys t short zs → Ends (ends_stmt (t, short)) zs → Ends (ends_stmt (a, inner)) ys
  else_starts a t inner short [] zs no_else h = h
  else_starts a t inner short (s ∷ ys) zs no_else h = short_less inner (is_else (kind_of_token s)) h
  else_starts a t inner short ys zs (some_else i b) h = refl

  else_down : (a t : Stmt) (inner short : Bool) (ys zs : Tokens) → Else at e a inner ys t short zs → Small most (t, short) → Small (most - 1) (a, inner)
  else_down a t inner short ys zs no_else q = let d = stmt_depth_if at e a in let i = deepest_if at e a in (omega (arith, d, q.0), omega (arith, i, q.1))
  else_down a t inner short ys zs (some_else {b = b} h r) q = let d = stmt_depth_if_else at e a b in let i = deepest_if_else at e a b in (omega (arith, d, q.0), omega (arith, i, q.1))

  else_small : (a b : Stmt) → stmt_depth a + 1 ≤ most → deepest a ≤ 200 → stmt_depth b + 1 ≤ most → deepest b ≤ 200 → (stmt_depth (stmt_at at (made.If e a (Some b))) ≤ most) × (deepest (stmt_at at (made.If e a (Some b))) ≤ 200)
  else_small a b p q r t = let d = stmt_depth_if_else at e a b in let i = deepest_if_else at e a b in (omega (arith, d, p, r), omega (arith, i, q, t, test_small))

  empty_else_small : (a : Stmt) → stmt_depth a + 1 ≤ most → deepest a ≤ 200 → Small most (empty_else at e a, false)
  empty_else_small a p q = let d = stmt_depth_empty nowhere in let i = deepest_empty nowhere in else_small a (stmt_at nowhere made.Empty) p q (omega (arith, d, room)) (omega (arith, i))

  else_step : Step OneStmt (ElseOf at e) ends_stmt ends_stmt anything anything (Small (most - 1)) (Small most)
  else_step = record {
    starts = λ a ys zs t r h. else_starts a.0 t.0 a.1 t.1 ys zs r h;
    down = λ a ys zs t r q. else_down a.0 t.0 a.1 t.1 ys zs r q;
    close = an_else ∷ a_sign sign.SEMICOLON ∷ [];
    follows = λ zs h. refl;
    closed = λ a zs h h'. ((empty_else at e a.0, false), empty_read at e a.0 a.1 zs (else_short a.1 (a_sign sign.SEMICOLON ∷ zs) h), h', λ p. empty_else_small a.0 (omega (arith, p.0, room)) p.1);
  }

  -- the first statement fails
  pub branch_fails : (xs : Tokens) (err : ParseFault) → Fails OneStmt ends_stmt anything (Small (most - 1)) xs err → Fails (Branched at e) ends_stmt anything (Small most) xs err
  branch_fails xs err f = fails_first else_step xs err f

  -- the first statement is read
  pub branch_gives : (a : Stmt) (xs : Tokens) (ys : Bor Tokens) (r : Result (Stmt × Bor Tokens) ParseFault) → Formed OneStmt (most - 1) xs (Ok (a, ys)) → Elsed at e a most ys.now r → Formed (Branched at e) most xs r
  branch_gives a xs ys (Ok t) g f = let h = f g.0 g.3 in (h.0, found_then else_step g.1 h.1, h.2, h.3)
  branch_gives a xs ys (Err err) g f = fails_then else_step xs ys.now (a, g.0) err g.1 (f g.0 g.3)

  no_else_only : (a : Stmt) (inner : Bool) (s : Token) (xs ys zs : Tokens) (t : Stmt × Bool) → (Is k.Else s → ⊥) → Follows (ends_stmt (stmt_at at (made.If e a None), true)) (s ∷ xs) ys → ElseOf at e (a, inner) ys t zs →
      (t ≡ with (stmt_at at (made.If e a None)) true) × (zs ≡ ys)
  no_else_only a inner s xs ys zs t other f r = no_else_cases a inner s xs ys zs t.0 t.1 other f r where
    no_else_cases : (a : Stmt) (inner : Bool) (s : Token) (xs ys zs : Tokens) (t : Stmt) (short : Bool) → (Is k.Else s → ⊥) → Follows (ends_stmt (stmt_at at (made.If e a None), true)) (s ∷ xs) ys → Else at e a inner ys t short zs →
        (with t short ≡ with (stmt_at at (made.If e a None)) true) × (zs ≡ ys)
    no_else_cases a inner s xs ys zs t short other f no_else = (refl, refl)
    no_else_cases a inner s xs ys zs t short other (inl h) (some_else {s = s'} i b) = absurd (no_both (is_else (kind_of_token s')) (else_begins s' i) h)
    no_else_cases a inner s xs ys zs t short other (inr h) (some_else {s = s'} i b) = absurd (other (subst (λ (x : Token). Is k.Else x) h i))

  -- no `else` stands there
  pub else_none : (a t : Stmt) (s : Token) (xs tokens : Tokens) (zs : Bor Tokens) → stmt_depth a + 1 ≤ most → deepest a ≤ 200 → tokens ≡ s ∷ xs → (Is k.Else s → ⊥) → zs.now ≡ tokens → t ≡ stmt_at at (made.If e a None) → Elsed at e a most tokens (Ok (t, zs))
  else_none a t s xs tokens zs p q split other rest same inner h =
      let d = stmt_depth_if at e a in
      let i = deepest_if at e a in
      let u : Stmt = stmt_at at (made.If e a None) in
      let f : Found (ElseOf at e (a, inner)) ends_stmt tokens (u, true) tokens = record {
        front = [];
        split = refl;
        reads = λ ys g. no_else;
        only = λ ys zs' t' g r e'. no_else_only a inner s xs ys zs' t' other (subst (λ (x : Tokens). Follows (ends_stmt (u, true)) x ys) split g) r;
      } in
      let w : Ends (ends_stmt (u, true)) tokens = subst (λ (x : Tokens). Ends (ends_stmt (u, true)) x) (sym split) (kind_no_else (kind_of_token s) other) in
      let whole : Formed (ElseOf at e (a, inner)) most tokens (Ok (u, zs)) = (true, subst (λ (x : Tokens). Found (ElseOf at e (a, inner)) ends_stmt tokens (u, true) x) (sym rest) f, (omega (arith, d, p), omega (arith, i, q, test_small)), subst (λ (x : Tokens). Ends (ends_stmt (u, true)) x) (sym rest) w) in
      subst (λ (x : Stmt). Formed (ElseOf at e (a, inner)) most tokens (Ok (x, zs))) (sym same) whole

  else_from : (a : Stmt) (inner : Bool) (s : Token) (xs zs : Tokens) (t : Stmt) (short : Bool) → Is k.Else s → Else at e a inner (s ∷ xs) t short zs → Ends (ends_stmt (t, short)) zs →
      (b : Stmt × Bool) × (with t short ≡ with (stmt_at at (made.If e a (Some b.0))) b.1) × OneStmt xs b zs
  else_from a inner s xs zs t short h no_else g = absurd (no_both (is_else (kind_of_token s)) (else_begins s h) g)
  else_from a inner s xs zs t short h (some_else {b = b} i r) g = ((b, short), refl, r)

  else_into : (a b : Stmt) (inner short : Bool) (s : Token) (xs zs : Tokens) → inner ≡ false → Is k.Else s → Statement xs b short zs → Else at e a inner (s ∷ xs) (stmt_at at (made.If e a (Some b))) short zs
  else_into a b inner short s xs zs i h r = subst (λ (c : Bool). Else at e a c (s ∷ xs) (stmt_at at (made.If e a (Some b))) short zs) (sym i) (some_else h r)

  else_image : (a : Stmt) (inner : Bool) (s : Token) → stmt_depth a + 1 ≤ most → deepest a ≤ 200 → inner ≡ false → Is k.Else s →
      Image (s ∷ []) (λ (b : Stmt × Bool). (stmt_at at (made.If e a (Some b.0)), b.1)) OneStmt (ElseOf at e (a, inner)) ends_stmt ends_stmt (Small (most - 1)) (Small most)
  else_image a inner s p q i h = record {
    same = λ b zs. (λ g. g, λ g. g);
    into = λ xs zs b r. else_into a b.0 inner b.1 s xs zs i h r;
    from = λ xs zs t r g. else_from a inner s xs zs t.0 t.1 h r g;
    up = λ b u. else_small a b.0 p q (omega (arith, u.0, room)) u.1;
    down = λ b u. let d = stmt_depth_if_else at e a b.0 in let j = deepest_if_else at e a b.0 in (omega (arith, d, u.0), omega (arith, j, u.1));
  }

  else_plain : (a : Stmt) (inner : Bool) (s : Token) (xs tokens : Tokens) → tokens ≡ s ∷ xs → Is k.Else s → Ends (ends_stmt (a, inner)) tokens → inner ≡ false
  else_plain a inner s xs tokens split h g =
      let g' : Ends (ends_stmt (a, inner)) (s ∷ xs) = subst (λ (x : Tokens). Ends (ends_stmt (a, inner)) x) split g in
      not_short inner (subst (λ (c : Bool). IsTrue (not (inner && c))) (else_begins s h) g')

  -- the second statement fails
  pub else_fails : (a : Stmt) (s : Token) (xs tokens : Tokens) (err : ParseFault) → stmt_depth a + 1 ≤ most → deepest a ≤ 200 → tokens ≡ s ∷ xs → Is k.Else s → Fails OneStmt ends_stmt anything (Small (most - 1)) xs err → Elsed at e a most tokens (Err err)
  else_fails a s xs tokens err p q split h f inner g =
      subst (λ (x : Tokens). Fails (ElseOf at e (a, inner)) ends_stmt anything (Small most) x err) (sym split)
      (fails_image (else_image a inner s p q (else_plain a inner s xs tokens split h g) h) anything xs err f)

  -- the second statement is read
  pub else_gives : (a b t : Stmt) (s : Token) (xs tokens : Tokens) (zs : Bor Tokens) → stmt_depth a + 1 ≤ most → deepest a ≤ 200 → tokens ≡ s ∷ xs → Is k.Else s → Formed OneStmt (most - 1) xs (Ok (b, zs)) →
      t ≡ stmt_at at (made.If e a (Some b)) → Elsed at e a most tokens (Ok (t, zs))
  else_gives a b t s xs tokens zs p q split h f same inner g =
      let found = found_image (else_image a inner s p q (else_plain a inner s xs tokens split h g) h) f.1 in
      let small = else_small a b p q (omega (arith, f.2.0, room)) f.2.1 in
      subst (λ (x : Tokens). Formed (ElseOf at e (a, inner)) most x (Ok (t, zs))) (sym split)
      (subst (λ (x : Stmt). Formed (ElseOf at e (a, inner)) most (s ∷ xs) (Ok (x, zs))) (sym same) (f.0, found, small, f.3))

-- ---- a test and what stands behind it

module _ (at : Place) (most : ℕ) (room : 2 ≤ most) where
  branched_down : (e : Expr) (a : Stmt) (inner : Bool) (ys zs : Tokens) (t : Stmt) (short : Bool) → Else at e a inner ys t short zs → Small most (t, short) → depth e ≤ 200
  branched_down e a inner ys zs t short no_else q = let i = deepest_if at e a in omega (arith, i, q.1)
  branched_down e a inner ys zs t short (some_else {b = b} h r) q = let i = deepest_if_else at e a b in omega (arith, i, q.1)

  abbrev closed_if : Expr → Stmt
  closed_if e = empty_else at e (stmt_at nowhere made.Empty)

  tested_step : Step Test (Branched at) (λ _. anything) ends_stmt anything anything (λ e. depth e ≤ 200) (Small most)
  tested_step = record {
    starts = λ e ys zs t r h. some_token begins_stmt ys (stmt_begins r.2);
    down = λ e ys zs t r q. branched_down e r.0.0 r.0.1 r.1 zs t.0 t.1 r.3 q;
    close = a_sign sign.SEMICOLON ∷ an_else ∷ a_sign sign.SEMICOLON ∷ [];
    follows = λ zs h. refl;
    closed = λ e zs h h'. ((closed_if e, false), ((stmt_at nowhere made.Empty, false), an_else ∷ a_sign sign.SEMICOLON ∷ zs, empty refl, some_else an_else_is (empty refl)), h', λ p. let d = stmt_depth_empty nowhere in let i = deepest_empty nowhere in empty_else_small at e most p room (stmt_at nowhere made.Empty) (omega (arith, d, room)) (omega (arith, i)));
  }

  -- the test fails
  pub tested_fails : (xs : Tokens) (err : ParseFault) → Fails Test (λ _. anything) anything (λ e. depth e ≤ 200) xs err → Fails (Tested at) ends_stmt anything (Small most) xs err
  tested_fails xs err f = fails_first tested_step xs err f

  -- the test is read
  pub tested_gives : (e : Expr) (xs ys : Tokens) (r : Result (Stmt × Bor Tokens) ParseFault) → Found Test (λ _. anything) xs e ys → Formed (Branched at e) most ys r → Formed (Tested at) most xs r
  tested_gives e xs ys (Ok t) g f = (f.0, found_then tested_step g f.1, f.2, f.3)
  tested_gives e xs ys (Err err) g f = fails_then tested_step xs ys e err g f
