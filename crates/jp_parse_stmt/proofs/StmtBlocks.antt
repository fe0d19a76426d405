-- Statements in braces.
use Rattle.std.proofs.Common.{◌≡◌, ℕ, ◌+◌, ◌-◌, ◌<◌, ◌≤◌, max, Bool, true, false, not, ◌&&◌, ◌||◌, ◌==◌, IsTrue, List, [], ◌∷◌, ◌++◌, length, map, Option, Some, None, Result, Ok, Err, IfOk, refl, sym, ap, ◌∙◌, subst, inl, inr, ◌⊎◌, rules, arith}
use Rattle.std.specs.Borrow.{Bor}
use Rattle.jp_ast.specs.declared.token.Place.{Place}
use Rattle.jp_ast.specs.declared.token.Token.{Token}
use Rattle.jp_ast.specs.declared.stmt.Stmt.{Stmt}
use Rattle.jp_ast.specs.declared.stmt.StmtKind.TheVariants as made
use Rattle.jp_ast.specs.declared.sign.TheConstants as sign
use Rattle.jp_grammar.specs.declared.kind.Kind.{Kind}
use Rattle.jp_grammar.specs.declared.kind.Kind.TheVariants as k
use Rattle.jp_grammar.specs.declared.fault.ParseFault.{ParseFault}
use Rattle.jp_grammar.specs.declared.fault.ParseFault.TheVariants.{TooDeep, OutOfMemory}
use Rattle.jp_grammar.specs.Kinds.{Is, IsSign, Tokens, kind_of_token}
use Rattle.jp_grammar.specs.Depth.{greatest, stmt_depth, deepest}
use Rattle.jp_grammar.specs.Faults.{deepest_of_stmt, deepest_of_block}
use Rattle.jp_grammar.specs.Statements.{Statement, Block, block_end, block_more}
use Rattle.jp_grammar.specs.Reading.{Reads, Ends, Any, Found, Fails, FailsWithin, Refused, Begins, IsText}
use Rattle.jp_grammar.proofs.Sequence.{Then, Step, Image, found_then, found_image, fails_first, fails_then, fails_image}
use Rattle.jp_grammar.proofs.Choice.{Choice, found_choice, fails_choice}
use Rattle.jp_grammar.proofs.Outcome.{fails_at, deep_at}
use Rattle.jp_grammar.proofs.Samples.{a_sign}
use Rattle.jp_parse_stmt.specs.Behind.{anything}
use Rattle.jp_parse_stmt.specs.Forms.{OneStmt, Formed, Small, SmallAll, Braced, begins_stmt, ends_stmt, is_else}
use Rattle.jp_parse_stmt.specs.Parts.{Gets, stmt_at}
use Rattle.jp_parse_stmt.proofs.StmtDepths.{stmt_depth_block, deepest_block, greatest_push}
use Rattle.jp_parse_stmt.proofs.StmtFacts.{stmt_begins, stmt_shorter, block_shorter}
use Rattle.jp_parse_stmt.proofs.StmtParts.{fails_known, some_token, text_some, begins_no_else, kind_no_else, short_less, with}

brace_no_stmt : (s : Token) → IsSign sign.CLOSE_BRACE s → IsTrue (begins_stmt (kind_of_token s)) → ⊥
brace_no_stmt s h b = let g : IsTrue (begins_stmt (k.Sign sign.CLOSE_BRACE)) = subst (λ (x : Kind). IsTrue (begins_stmt x)) h b in cc

pub block_grows : {ts us : List Stmt} {xs zs : Tokens} → Block ts xs us zs → (greatest (map stmt_depth ts) ≤ greatest (map stmt_depth us)) × (greatest (map deepest ts) ≤ greatest (map deepest us))
block_grows (block_end h) = (omega arith, omega arith)
block_grows {ts = ts} (block_more {t = t} o r) = let d = greatest_push stmt_depth ts t in let i = greatest_push deepest ts t in let h = block_grows r in (omega (arith, d, h.0), omega (arith, i, h.1))

-- no `else` stands before the end of a block
block_starts : (x : Stmt × Bool) {ts us : List Stmt} {xs zs : Tokens} → Block ts xs us zs → Ends (ends_stmt x) xs
block_starts x (block_end {p = p} h) = short_less x.1 (is_else (kind_of_token p)) (kind_no_else (kind_of_token p) (λ i. cc))
block_starts x {xs = xs} (block_more {t = t} o r) = begun_starts x xs (stmt_begins o) where
  begun_starts : (x : Stmt × Bool) (xs : Tokens) → Begins begins_stmt xs → Ends (ends_stmt x) xs
  begun_starts x [] h = absurd h
  begun_starts x (s ∷ xs) h = short_less x.1 (is_else (kind_of_token s)) (begins_no_else (kind_of_token s) h)

push_small : (most : ℕ) (ts : List Stmt) (x : Stmt × Bool) → SmallAll most ts → Small most x → SmallAll most (ts ++ x.0 ∷ [])
push_small most ts x p q = let d = greatest_push stmt_depth ts x.0 in let i = greatest_push deepest ts x.0 in (omega (arith, d, p.0, q.0), omega (arith, i, p.1, q.1))

-- a statement behind others, with those it makes more
pub small_push : (most : ℕ) (ts : List Stmt) (t : Stmt) → SmallAll most ts → stmt_depth t ≤ most → deepest t ≤ 200 → SmallAll most (ts ++ t ∷ [])
small_push most ts t p q r = push_small most ts (with t false) p (q, r)

abbrev Later : List Stmt → Stmt × Bool → Reads (List Stmt)
Later ts x = Block (ts ++ x.0 ∷ [])

block_step : (most : ℕ) (ts : List Stmt) → SmallAll most ts → Step OneStmt (Later ts) ends_stmt (λ _. anything) anything anything (Small most) (SmallAll most)
block_step most ts small = record {
  starts = λ x ys zs us r h. block_starts x r;
  down = λ x ys zs us r q. let g = block_grows r in let d = greatest_push stmt_depth ts x.0 in let i = greatest_push deepest ts x.0 in (omega (arith, d, g.0, q.0), omega (arith, i, g.1, q.1));
  close = a_sign sign.CLOSE_BRACE ∷ [];
  follows = λ zs h. refl;
  closed = λ x zs h h'. (ts ++ x.0 ∷ [], block_end refl, h', λ p. push_small most ts x small p);
}

block_from : (ts : List Stmt) (s : Token) (xs zs : Tokens) (us : List Stmt) → (IsSign sign.CLOSE_BRACE s → ⊥) → Block ts (s ∷ xs) us zs → Then OneStmt (Later ts) (s ∷ xs) us zs
block_from ts s xs zs us other (block_end h) = absurd (other h)
block_from ts s xs zs us other (block_more {ys = ys} {t = t} {short = short} o r) = ((t, short), ys, o, r)

block_only : (ts : List Stmt) (s : Token) (xs zs : Tokens) (us : List Stmt) → IsSign sign.CLOSE_BRACE s → Block ts (s ∷ xs) us zs → (us ≡ ts) × (zs ≡ xs)
block_only ts s xs zs us h (block_end h') = (refl, refl)
block_only ts s xs zs us h (block_more o r) = absurd (brace_no_stmt s h (stmt_begins o))

later_shorter : (ts us : List Stmt) (xs : Tokens) → Then OneStmt (Later ts) xs us xs → ⊥
later_shorter ts us xs r = let a = stmt_shorter r.2 in let b = block_shorter r.3 in absurd (omega (arith, a, b))

module _ (most : ℕ) (ts : List Stmt) (s : Token) (xs tokens : Tokens) (split : tokens ≡ s ∷ xs) where
  -- `}`
  pub block_found : IsSign sign.CLOSE_BRACE s → Found (Block ts) (λ _. anything) tokens ts xs
  block_found h = record {
    front = s ∷ [];
    split = split;
    reads = λ ys f. block_end h;
    only = λ ys zs us f r e. block_only ts s ys zs us h r;
  }

  block_choice : (IsSign sign.CLOSE_BRACE s → ⊥) → Choice s (Then OneStmt (Later ts)) (Block ts) (λ _. anything)
  block_choice other = record {
    into = λ ys zs us q. block_more q.2 q.3;
    from = λ ys zs us q e. block_from ts s ys zs us other q;
    solid = λ ys us q. later_shorter ts us ys q;
  }

  -- the next statement fails
  pub block_fails : SmallAll most ts → (IsSign sign.CLOSE_BRACE s → ⊥) → (e : ParseFault) → Fails OneStmt ends_stmt anything (Small most) tokens e → Gets (Block ts) anything (SmallAll most) tokens (Err e)
  block_fails small other e f =
      let g : Fails (Then OneStmt (Later ts)) (λ _. anything) anything (SmallAll most) (s ∷ xs) e = subst (λ (x : Tokens). Fails (Then OneStmt (Later ts)) (λ _. anything) anything (SmallAll most) x e) split (fails_first (block_step most ts small) tokens e f) in
      subst (λ (x : Tokens). Fails (Block ts) (λ _. anything) anything (SmallAll most) x e) (sym split) (fails_choice (block_choice other) anything (SmallAll most) xs e g)

  -- behind the next statement
  pub block_gives : SmallAll most ts → (IsSign sign.CLOSE_BRACE s → ⊥) → (t : Stmt) (ys : Bor Tokens) (r : Result (List Stmt × Bor Tokens) ParseFault) → Formed OneStmt most tokens (Ok (t, ys)) → Gets (Block (ts ++ t ∷ [])) anything (SmallAll most) ys.now r →
      Gets (Block ts) anything (SmallAll most) tokens r
  block_gives small other t ys (Ok x) g f =
      let h : Found (Then OneStmt (Later ts)) (λ _. anything) (s ∷ xs) x.0 x.1.now = subst (λ (y : Tokens). Found (Then OneStmt (Later ts)) (λ _. anything) y x.0 x.1.now) split (found_then (block_step most ts small) g.1 f.0) in
      (subst (λ (y : Tokens). Found (Block ts) (λ _. anything) y x.0 x.1.now) (sym split) (found_choice (block_choice other) h), f.1)
  block_gives small other t ys (Err e) g f =
      let h : Fails (Then OneStmt (Later ts)) (λ _. anything) anything (SmallAll most) (s ∷ xs) e = subst (λ (x : Tokens). Fails (Then OneStmt (Later ts)) (λ _. anything) anything (SmallAll most) x e) split (fails_then (block_step most ts small) tokens ys.now (t, g.0) e g.1 f) in
      subst (λ (x : Tokens). Fails (Block ts) (λ _. anything) anything (SmallAll most) x e) (sym split) (fails_choice (block_choice other) anything (SmallAll most) xs e h)

-- the statements take tokens
pub stmt_less : (most : ℕ) (t : Stmt) (xs : Tokens) (ys : Bor Tokens) → IsText ys.now → Formed OneStmt most xs (Ok (t, ys)) → length ys.now < length xs
stmt_less most t xs ys text g =
    let f : Found OneStmt ends_stmt xs (t, g.0) ys.now = g.1 in
    let h = stmt_shorter (f.reads ys.now (inl g.3)) in
    let same : length xs ≡ length (f.front ++ ys.now) = ap length f.split in
    omega (arith, h, same)

-- ---- a block as a statement

module _ (at : Place) (most : ℕ) (room : 1 ≤ most) where
  braced_image : Image [] (λ (ts : List Stmt). with (stmt_at at (made.Block ts)) false) (Block []) (Braced at) (λ _. anything) ends_stmt (SmallAll (most - 1)) (Small most)
  braced_image = record {
    same = λ a zs. (λ e. e, λ e. e);
    into = λ xs zs ts r. (ts, r, refl, refl);
    from = λ xs zs x r h. (r.0, same_braced x (stmt_at at (made.Block r.0)) r.2 r.3, r.1);
    up = λ ts p. let d = stmt_depth_block at ts in let i = deepest_block at ts in (omega (arith, d, p.0, room), omega (arith, i, p.1));
    down = λ ts p. let d = stmt_depth_block at ts in let i = deepest_block at ts in (omega (arith, d, p.0, room), omega (arith, i, p.1));
  } where
    same_braced : (x : Stmt × Bool) (t : Stmt) → x.0 ≡ t → x.1 ≡ false → x ≡ with t false
    same_braced (u, c) t h i = cc

  pub braced_fails : (xs : Tokens) (e : ParseFault) → Gets (Block []) anything (SmallAll (most - 1)) xs (Err e) → Fails (Braced at) ends_stmt anything (Small most) xs e
  braced_fails xs e f = fails_image braced_image anything xs e f

  pub braced_gives : (ts : List Stmt) (t : Stmt) (xs : Tokens) (zs : Bor Tokens) → Gets (Block []) anything (SmallAll (most - 1)) xs (Ok (ts, zs)) → IsText zs.now → t ≡ stmt_at at (made.Block ts) → Formed (Braced at) most xs (Ok (t, zs))
  braced_gives ts t xs zs g text same =
      subst (λ (u : Stmt). Formed (Braced at) most xs (Ok (u, zs))) (sym same) (false, found_image braced_image g.0, braced_image.up ts g.1, text_some zs.now text)

-- ---- the bound of the whole

deepest_both : (ts : List Stmt) → greatest (map deepest_of_stmt ts) ≡ max (greatest (map stmt_depth ts)) (greatest (map deepest ts))
deepest_both [] = omega arith
deepest_both (t ∷ ts) = let h = deepest_both ts in omega (arith, h)

pub within_small : (ts : List Stmt) → deepest_of_block ts ≤ 200 → SmallAll 200 ts
within_small ts h = let d = deepest_both ts in (omega (arith, d, h), omega (arith, d, h))

pub small_within : (ts : List Stmt) → SmallAll 200 ts → deepest_of_block ts ≤ 200
small_within ts h = let d = deepest_both ts in omega (arith, d, h.0, h.1)

pub block_within : (xs : Tokens) (e : ParseFault) → Gets (Block []) anything (SmallAll 200) xs (Err e) → FailsWithin (Block []) deepest_of_block anything 200 xs e
block_within xs e f = fails_known (λ xs zs ts r p. small_within ts p) (λ xs zs ts r p. within_small ts p) xs e f
