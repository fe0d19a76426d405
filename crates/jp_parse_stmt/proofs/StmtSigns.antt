-- Statements that begin with a sign.
use Rattle.std.proofs.Common.{◌≡◌, ℕ, ◌≤◌, Bool, true, false, IsTrue, List, [], ◌∷◌, ◌++◌, Result, Ok, Err, refl, sym, ap, ◌∙◌, subst, inl, inr, arith}
use Rattle.std.specs.Borrow.{Bor}
use Rattle.jp_pred.specs.declared.ty.Ty.{Ty}
use Rattle.jp_ast.specs.declared.token.Token.{Token}
use Rattle.jp_ast.specs.declared.stmt.Stmt.{Stmt}
use Rattle.jp_ast.specs.declared.stmt.StmtKind.TheVariants as made
use Rattle.jp_ast.specs.declared.sign.TheConstants as sign
use Rattle.jp_grammar.specs.declared.kind.Kind.{Kind}
use Rattle.jp_grammar.specs.declared.kind.Kind.TheVariants as k
use Rattle.jp_grammar.specs.declared.fault.ParseFault.{ParseFault}
use Rattle.jp_grammar.specs.Kinds.{Is, IsSign, Tokens, kind_of_token}
use Rattle.jp_grammar.specs.Statements.{Statement, Block, Declared, declared, block, empty, local, local_value, when_true, while_true, for_each, break_off, continue_on, return_from, change}
use Rattle.jp_grammar.specs.Reading.{Reads, Ends, Found, Fails, IsText}
use Rattle.jp_grammar.proofs.Sequence.{Image, found_image, fails_image}
use Rattle.jp_parse_stmt.specs.Behind.{anything}
use Rattle.jp_parse_stmt.specs.Forms.{OneStmt, Formed, Braced, Small, ends_stmt}
use Rattle.jp_parse_stmt.specs.Parts.{stmt_at}
use Rattle.jp_parse_stmt.proofs.Inits.{change_begins, type_no_sign, begins_sign}
use Rattle.jp_parse_stmt.proofs.StmtDepths.{stmt_depth_empty, deepest_empty}
use Rattle.jp_parse_stmt.proofs.StmtParts.{text_some, with}
use Rattle.jp_parse_stmt.proofs.StmtEnds.{Plain}

-- a kind without a word of its own
pub plain_other : (kind : Kind) → (kind ≡ k.If → ⊥) → (kind ≡ k.While → ⊥) → (kind ≡ k.For → ⊥) → (kind ≡ k.Break → ⊥) → (kind ≡ k.Continue → ⊥) → (kind ≡ k.Return → ⊥) → ((b : ℕ) → kind ≡ k.Sign b → ⊥) → Plain kind
plain_other k.If a b c d e f g = absurd (a refl)
plain_other k.While a b c d e f g = absurd (b refl)
plain_other k.For a b c d e f g = absurd (c refl)
plain_other k.Break a b c d e f g = absurd (d refl)
plain_other k.Continue a b c d e f g = absurd (e refl)
plain_other k.Return a b c d e f g = absurd (f refl)
plain_other (k.Sign n) a b c d e f g = absurd (g n refl)
plain_other _ a b c d e f g = tt

pub plain_sign : (kind : Kind) (b : ℕ) → kind ≡ k.Sign b → (b ≡ sign.OPEN_BRACE → ⊥) → (b ≡ sign.SEMICOLON → ⊥) → Plain kind
plain_sign kind b h p q = subst (λ (x : Kind). Plain x) (sym h) (p, q)

declared_no_sign : (n : ℕ) (s : Token) (xs ys : Tokens) (t : Stmt) → Declared (s ∷ xs) t ys → IsSign n s → ⊥
declared_no_sign n s xs ys t (declared {t = u} o c e v) h = type_no_sign n u s xs _ o h

-- `;` alone
empty_only : (s : Token) (ys zs : Tokens) (t : Stmt) (short : Bool) → IsSign sign.SEMICOLON s → Statement (s ∷ ys) t short zs → (with t short ≡ with (stmt_at s.place made.Empty) false) × (zs ≡ ys)
empty_only s ys zs t short h (block i b) = absurd (let same : sign.SEMICOLON ≡ sign.OPEN_BRACE = cc in cc)
empty_only s ys zs t short h (empty i) = (refl, refl)
empty_only s ys zs t short h (local {t = u} o n i) = absurd (type_no_sign sign.SEMICOLON u s ys _ o h)
empty_only s ys zs t short h (local_value d i) = absurd (declared_no_sign sign.SEMICOLON s ys _ t d h)
empty_only s ys zs t short h (when_true i r a e) = absurd (cc)
empty_only s ys zs t short h (while_true i r a) = absurd (cc)
empty_only s ys zs t short h (for_each i o m e c a) = absurd (cc)
empty_only s ys zs t short h (break_off i p) = absurd (cc)
empty_only s ys zs t short h (continue_on i p) = absurd (cc)
empty_only s ys zs t short h (return_from i e) = absurd (cc)
empty_only s ys zs t short h (change c i) = absurd (begins_sign sign.SEMICOLON s refl h (change_begins (s ∷ ys) _ t c))

-- statements in braces
brace_from : (s : Token) (ys zs : Tokens) (t : Stmt) (short : Bool) → IsSign sign.OPEN_BRACE s → Statement (s ∷ ys) t short zs → Braced s.place ys (t, short) zs
brace_from s ys zs t short h (block {ts = ts} i b) = (ts, b, refl, refl)
brace_from s ys zs t short h (empty i) = absurd (let same : sign.SEMICOLON ≡ sign.OPEN_BRACE = cc in cc)
brace_from s ys zs t short h (local {t = u} o n i) = absurd (type_no_sign sign.OPEN_BRACE u s ys _ o h)
brace_from s ys zs t short h (local_value d i) = absurd (declared_no_sign sign.OPEN_BRACE s ys _ t d h)
brace_from s ys zs t short h (when_true i r a e) = absurd (cc)
brace_from s ys zs t short h (while_true i r a) = absurd (cc)
brace_from s ys zs t short h (for_each i o m e c a) = absurd (cc)
brace_from s ys zs t short h (break_off i p) = absurd (cc)
brace_from s ys zs t short h (continue_on i p) = absurd (cc)
brace_from s ys zs t short h (return_from i e) = absurd (cc)
brace_from s ys zs t short h (change c i) = absurd (begins_sign sign.OPEN_BRACE s refl h (change_begins (s ∷ ys) _ t c))

brace_into : (s : Token) (ys zs : Tokens) (x : Stmt × Bool) → IsSign sign.OPEN_BRACE s → Braced s.place ys x zs → OneStmt (s ∷ ys) x zs
brace_into s ys zs x h r = subst (λ (b : Bool). Statement (s ∷ ys) x.0 b zs) (sym r.3) (subst (λ (t : Stmt). Statement (s ∷ ys) t false zs) (sym r.2) (block h r.1))

brace_image : (s : Token) (P : Stmt × Bool → Type 0) → IsSign sign.OPEN_BRACE s → Image (s ∷ []) (λ x. x) (Braced s.place) OneStmt ends_stmt ends_stmt P P
brace_image s P h = record {
  same = λ a zs. (λ e. e, λ e. e);
  into = λ xs zs x r. brace_into s xs zs x h r;
  from = λ xs zs x r e. (x, refl, brace_from s xs zs x.0 x.1 h r);
  up = λ a p. p;
  down = λ a p. p;
}

module _ (most : ℕ) (s : Token) (xs tokens : Tokens) (split : tokens ≡ s ∷ xs) where
  pub brace_gives : (r : Result (Stmt × Bor Tokens) ParseFault) → IsSign sign.OPEN_BRACE s → Formed (Braced s.place) most xs r → Formed OneStmt most tokens r
  brace_gives (Ok x) h f = subst (λ (y : Tokens). Formed OneStmt most y (Ok x)) (sym split) (f.0, found_image (brace_image s (Small most) h) f.1, f.2, f.3)
  brace_gives (Err e) h f = subst (λ (y : Tokens). Formed OneStmt most y (Err e)) (sym split) (fails_image (brace_image s (Small most) h) anything xs e f)

  pub empty_gives : (t : Stmt) (zs : Bor Tokens) → 1 ≤ most → zs.now ≡ xs → IsSign sign.SEMICOLON s → IsText zs.now → t ≡ stmt_at s.place made.Empty → Formed OneStmt most tokens (Ok (t, zs))
  empty_gives t zs room rest h text same =
      let d = stmt_depth_empty s.place in
      let i = deepest_empty s.place in
      let f : Found OneStmt ends_stmt tokens (with (stmt_at s.place made.Empty) false) zs.now = record {
        front = s ∷ [];
        split = split ∙ ap (λ (x : Tokens). s ∷ x) (sym rest);
        reads = λ ys g. empty h;
        only = λ ys zs' x g r e. empty_only s ys zs' x.0 x.1 h r;
      } in
      subst (λ (u : Stmt). Formed OneStmt most tokens (Ok (u, zs))) (sym same) (false, f, (omega (arith, d, room), omega (arith, i)), text_some zs.now text)
