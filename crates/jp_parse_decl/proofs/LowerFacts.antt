-- Guards, blocks and arguments, which the parsers below read.
use Rattle.std.proofs.Common.{◌≡◌, Bool, List, [], ◌∷◌, Option, Some, None, Ok, Err, IsTrue, refl, sym, ap, subst, inl, inr, arith}
use Rattle.std.specs.Borrow.{Bor}
use Rattle.jp_ast.specs.declared.token.Token.{Token}
use Rattle.jp_ast.specs.declared.expr.Expr.{Expr}
use Rattle.jp_ast.specs.declared.stmt.Stmt.{Stmt}
use Rattle.jp_ast.specs.declared.guard.GuardExpr.{GuardExpr}
use Rattle.jp_ast.specs.declared.sign.TheConstants as sign
use Rattle.jp_grammar.specs.declared.kind.Kind.TheVariants as k
use Rattle.jp_grammar.specs.declared.fault.ParseFault.{ParseFault}
use Rattle.jp_grammar.specs.Kinds.{Is, Tokens, is_sign_of, is_sign_kind}
use Rattle.jp_grammar.specs.Expressions.{Args, no_args, some_args}
use Rattle.jp_grammar.specs.Guards.{Guard}
use Rattle.jp_grammar.specs.Statements.{OneType, Block, Statement, Change, Declared, block_end, block_more, block, empty, local, local_value, when_true, while_true, for_each, break_off, continue_on, return_from, change, assign, bump, run, declared, element_type, array_type}
use Rattle.jp_grammar.specs.Declarations.{MaybeGuard, Braces, no_guard, some_guard, braces}
use Rattle.jp_grammar.specs.Reading.{Reads, Ends, Any, Follows, Found, Fails, Takes, Lacks}
use Rattle.jp_grammar.specs.Behind.{begins_plain, begins_expr, primary_kind, ends_primary}
use Rattle.jp_grammar.proofs.Sequence.{Then, found_image, fails_image}
use Rattle.jp_grammar.proofs.Outcome.{Same, image_of, found_nothing}
use Rattle.jp_grammar.proofs.Facts.{postfix_begins, expression_begins}
use Rattle.jp_grammar.proofs.Samples.{a_sign}
use Rattle.jp_parse_expr.specs.BehindGuards.{ends_guard, stands_behind_guard}
use Rattle.jp_parse_expr.proofs.Alls.{found_fewer, fails_fewer}
use Rattle.jp_parse_stmt.specs.Behind.{anything}
use Rattle.jp_parse_decl.specs.Answers.{Yields}
use Rattle.jp_parse_decl.specs.Behind.{ends_brace}
use Rattle.jp_parse_decl.specs.Bounds.{SmallMaybe, SmallGuard, SmallBlock, SmallArgs}
use Rattle.jp_parse_decl.specs.Parts.{Passed, passed}
use Rattle.jp_parse_decl.proofs.Links.{Answer, Part, Tail, Fits, Alike, Both, Done, done, finished, last_part, linked, goes, stops, ended, alike_gives}
use Rattle.jp_parse_decl.proofs.Tokens.{SignAt, sign_at, sign_is, sign_part, sign_found, sign_fails, fits_all, some_begin, some_end}

-- ---- statements

type_begins : {xs zs : Tokens} {t : _} → OneType xs t zs → Ends anything xs
type_begins (element_type h) = refl
type_begins (array_type elem h o p) = refl

change_begins : {xs zs : Tokens} {t : Stmt} → Change xs t zs → Ends anything xs
change_begins (assign p h i e) = some_begin begins_plain _ (postfix_begins p)
change_begins (bump p h) = some_begin begins_plain _ (postfix_begins p)
change_begins (run p) = some_begin begins_plain _ (postfix_begins p)

declared_begins : {xs zs : Tokens} {t : Stmt} → Declared xs t zs → Ends anything xs
declared_begins (declared r n h e) = type_begins r

statement_begins : {xs zs : Tokens} {t : Stmt} {short : Bool} → Statement xs t short zs → Ends anything xs
statement_begins (block h b) = refl
statement_begins (empty h) = refl
statement_begins (local r n h) = type_begins r
statement_begins (local_value d h) = declared_begins d
statement_begins (when_true h e s i) = refl
statement_begins (while_true h e s) = refl
statement_begins (for_each h o i e c s) = refl
statement_begins (break_off h p) = refl
statement_begins (continue_on h p) = refl
statement_begins (return_from h e) = refl
statement_begins (change c h) = change_begins c

pub block_begins : (xs zs : Tokens) (ts us : List Stmt) → Block us xs ts zs → Ends anything xs
block_begins xs zs ts us (block_end h) = refl
block_begins xs zs ts us (block_more s b) = statement_begins s

pub block_part : Part (Block []) anything anything SmallBlock
block_part = record {
  starts = λ xs zs t r h. block_begins xs zs t [] r;
  sample = a_sign sign.CLOSE_BRACE ∷ [];
  value = [];
  reads = λ zs h. block_end refl;
  holds = omega arith;
}

block_tail : Tail (λ (e : Unit {0} × Unit {0}). Block []) anything anything (Both Any Any) SmallBlock
block_tail = last_part block_part (λ e. (tt, tt))

braces_into : (xs zs : Tokens) (ts : List Stmt) → Then (SignAt sign.OPEN_BRACE) (λ _. Block []) xs ts zs → Braces xs ts zs
braces_into xs zs ts (u, ys, sign_at o, b) = braces o b

braces_from : (xs zs : Tokens) (ts : List Stmt) → Braces xs ts zs → Then (SignAt sign.OPEN_BRACE) (λ _. Block []) xs ts zs
braces_from xs zs ts (braces o b) = (_, _, sign_at o, b)

braces_alike : Alike (Then (SignAt sign.OPEN_BRACE) (λ _. Block [])) Braces anything
braces_alike = record { into = λ xs zs p r. braces_into xs zs p r; from = λ xs zs p r e. braces_from xs zs p r }

pub braces_wrong : (xs : Tokens) (e : ParseFault) → Lacks sign.OPEN_BRACE xs e → Yields Braces anything SmallBlock xs (Err e)
braces_wrong xs e l = alike_gives SmallBlock braces_alike xs (Err e) (stops Any (sign_part sign.OPEN_BRACE) block_tail (fits_all _) tt tt xs e (sign_fails sign.OPEN_BRACE xs e l))

pub braces_gives : (xs ys : Tokens) (r : Answer (List Stmt)) → Takes sign.OPEN_BRACE xs ys → Yields (Block []) anything SmallBlock ys r → Yields Braces anything SmallBlock xs r
braces_gives xs ys r t f = alike_gives SmallBlock braces_alike xs r (goes Any (sign_part sign.OPEN_BRACE) block_tail (fits_all _) tt tt xs ys tt r (sign_found sign.OPEN_BRACE xs ys t) f)

brace_head : (xs zs : Tokens) (ts : List Stmt) → Braces xs ts zs → Ends (is_sign_of sign.OPEN_BRACE) xs
brace_head xs zs ts (braces o b) = ap (is_sign_kind sign.OPEN_BRACE) o

pub braces_part : Part Braces anything ends_brace SmallBlock
braces_part = record {
  starts = λ xs zs t r h. brace_head xs zs t r;
  sample = a_sign sign.OPEN_BRACE ∷ a_sign sign.CLOSE_BRACE ∷ [];
  value = [];
  reads = λ zs h. braces refl (block_end refl);
  holds = omega arith;
}

-- ---- guards

guard_begins : (xs zs : Tokens) (g : Option GuardExpr) → MaybeGuard xs g zs → Ends ends_brace zs → Ends anything xs
guard_begins xs zs g no_guard h = some_end ends_brace xs h
guard_begins xs zs g (some_guard w r) h = refl

pub guard_part : Part MaybeGuard ends_brace anything SmallMaybe
guard_part = record {
  starts = λ xs zs t r h. guard_begins xs zs t r h;
  sample = [];
  value = None;
  reads = λ zs h. no_guard;
  holds = omega arith;
}

-- `{` may stand behind a guard
brace_guard : (s : Token) → IsTrue (ends_brace s) → IsTrue (ends_guard s)
brace_guard s h = ap stands_behind_guard (sign_is sign.OPEN_BRACE s h)

module _ (s : Token) (xs tokens : Tokens) (split : tokens ≡ s ∷ xs) where
  unguarded_only : (ys zs : Tokens) (g : Option GuardExpr) → (Is k.When s → ⊥) → Follows ends_brace (s ∷ xs) ys → MaybeGuard ys g zs → (g ≡ None) × (zs ≡ ys)
  unguarded_only ys zs g other f no_guard = (refl, refl)
  unguarded_only ys zs g other (inl e) (some_guard h r) = absurd (let c = ap (is_sign_kind sign.OPEN_BRACE) h in cc)
  unguarded_only ys zs g other (inr same) (some_guard h r) = absurd (other (subst (λ (x : Token). Is k.When x) same h))

  pub unguarded : (Is k.When s → ⊥) → Found MaybeGuard (λ _. ends_brace) tokens None tokens
  unguarded other = subst (λ (x : Tokens). Found MaybeGuard (λ _. ends_brace) x None x) (sym split)
      (found_nothing MaybeGuard ends_brace (s ∷ xs) None (λ ys. no_guard) (λ ys zs g f r e. unguarded_only ys zs g other f r))

  guarded_from : (ys zs : Tokens) (t : Option GuardExpr) → Is k.When s → MaybeGuard (s ∷ ys) t zs → Ends ends_brace zs → (g : GuardExpr) × (t ≡ Some g) × Guard ys g zs
  guarded_from ys zs t h no_guard e = absurd (let c = ap (is_sign_kind sign.OPEN_BRACE) h in cc)
  guarded_from ys zs t h (some_guard {g = g} h' r) e = (g, refl, r)

  guarded_same : Is k.When s → Same (s ∷ []) (λ g. Some g) Guard MaybeGuard ends_brace SmallGuard SmallMaybe
  guarded_same h = record {
    into = λ ys zs g r. some_guard h r;
    from = λ ys zs t r e. guarded_from ys zs t h r e;
    up = λ g p. p;
    down = λ g p. p;
  }

  pub guarded_fails : (e : ParseFault) → Is k.When s → Fails Guard (λ _. ends_guard) ends_guard SmallGuard xs e → Fails MaybeGuard (λ _. ends_brace) ends_brace SmallMaybe tokens e
  guarded_fails e h f = subst (λ (x : Tokens). Fails MaybeGuard (λ _. ends_brace) ends_brace SmallMaybe x e) (sym split)
      (fails_image (image_of (guarded_same h)) ends_brace xs e (fails_fewer brace_guard f))

  pub guarded_found : (g : GuardExpr) (zs : Tokens) → Is k.When s → Found Guard (λ _. ends_guard) xs g zs → Found MaybeGuard (λ _. ends_brace) tokens (Some g) zs
  guarded_found g zs h f = subst (λ (x : Tokens). Found MaybeGuard (λ _. ends_brace) x (Some g) zs) (sym split)
      (found_image (image_of (guarded_same h)) (found_fewer brace_guard f))

-- ---- arguments

args_begins : (xs zs : Tokens) (ts : List Expr) → Args xs ts zs → Ends anything xs
args_begins xs zs ts (no_args h) = refl
args_begins xs zs ts (some_args e m) = some_begin begins_expr _ (expression_begins e)

pub args_part : Part Args ends_primary anything SmallArgs
args_part = record {
  starts = λ xs zs t r h. args_begins xs zs t r;
  sample = a_sign sign.CLOSE_PAREN ∷ [];
  value = [];
  reads = λ zs h. no_args refl;
  holds = omega arith;
}

semicolon_fits : Fits (is_sign_of sign.SEMICOLON) ends_primary
semicolon_fits s h = ap primary_kind (sign_is sign.SEMICOLON s h)

abbrev Passed2 : (Unit {0} × List Expr) → Reads (List Expr)
Passed2 e = Then (SignAt sign.SEMICOLON) (λ u. Done e.1)

abbrev Passed1 : Unit {0} → Reads (List Expr)
Passed1 e = Then Args (λ ts. Passed2 (e, ts))

passed_into : (xs zs : Tokens) (ts : List Expr) → Passed1 tt xs ts zs → Passed xs ts zs
passed_into xs zs ts (us, ys, a, (u, ws, sign_at h, done)) = passed a h

passed_from : (xs zs : Tokens) (ts : List Expr) → Passed xs ts zs → Passed1 tt xs ts zs
passed_from xs zs ts (passed a h) = (_, _, a, (_, _, sign_at h, done))

passed_alike : Alike (Passed1 tt) Passed anything
passed_alike = record { into = λ xs zs p r. passed_into xs zs p r; from = λ xs zs p r e. passed_from xs zs p r }

passed_tail3 : Tail (λ (e : (Unit {0} × List Expr) × Unit {0}). Done e.0.1) anything anything (Both (Both Any SmallArgs) Any) SmallArgs
passed_tail3 = finished (λ e. e.0.1) (λ e p. p.0.1) (λ e q. ((tt, q), tt))

passed_tail2 : Tail Passed2 anything (is_sign_of sign.SEMICOLON) (Both Any SmallArgs) SmallArgs
passed_tail2 = linked (Both Any SmallArgs) (sign_part sign.SEMICOLON) passed_tail3 (fits_all _)

pub passed_args_fails : (xs : Tokens) (e : ParseFault) → Fails Args (λ _. ends_primary) ends_primary SmallArgs xs e → Yields Passed anything SmallArgs xs (Err e)
passed_args_fails xs e f = alike_gives SmallArgs passed_alike xs (Err e) (stops Any args_part passed_tail2 semicolon_fits tt tt xs e f)

module _ (xs ys : Tokens) (ts : List Expr) (g : Found Args (λ _. ends_primary) xs ts ys) (small : SmallArgs ts) where
  passed_behind : (r : Answer (List Expr)) → Yields (Passed2 (tt, ts)) anything SmallArgs ys r → Yields Passed anything SmallArgs xs r
  passed_behind r f = alike_gives SmallArgs passed_alike xs r (goes Any args_part passed_tail2 semicolon_fits tt tt xs ys ts r g f)

  pub passed_end_fails : (e : ParseFault) → Lacks sign.SEMICOLON ys e → Yields Passed anything SmallArgs xs (Err e)
  passed_end_fails e h = passed_behind (Err e) (stops (Both Any SmallArgs) (sign_part sign.SEMICOLON) passed_tail3 (fits_all _) (tt, ts) (tt, small) ys e (sign_fails sign.SEMICOLON ys e h))

  pub passed_found : (zs : Bor Tokens) → Takes sign.SEMICOLON ys zs.now → Yields Passed anything SmallArgs xs (Ok (ts, zs))
  passed_found zs h = passed_behind (Ok (ts, zs))
      (goes (Both Any SmallArgs) (sign_part sign.SEMICOLON) passed_tail3 (fits_all _) (tt, ts) (tt, small) ys zs.now tt (Ok (ts, zs)) (sign_found sign.SEMICOLON ys zs.now h)
      (ended anything SmallArgs ts zs small))

passed_begins : (xs zs : Tokens) (ts : List Expr) → Passed xs ts zs → Ends anything xs
passed_begins xs zs ts (passed a h) = args_begins _ _ _ a

pub passed_part : Part Passed anything anything SmallArgs
passed_part = record {
  starts = λ xs zs t r h. passed_begins xs zs t r;
  sample = a_sign sign.CLOSE_PAREN ∷ a_sign sign.SEMICOLON ∷ [];
  value = [];
  reads = λ zs h. passed (no_args refl) refl;
  holds = omega arith;
}
