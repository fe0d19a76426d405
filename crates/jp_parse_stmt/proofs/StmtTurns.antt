-- What stands in the parentheses of a `for`.
use Rattle.std.proofs.Common.{◌≡◌, ℕ, ◌+◌, ◌-◌, ◌<◌, ◌≤◌, max, Bool, true, false, IsTrue, List, [], ◌∷◌, ◌++◌, Option, Some, None, Result, Ok, Err, refl, sym, ap, ◌∙◌, subst, inl, inr, ◌⊎◌, rules, arith}
use Rattle.std.specs.Borrow.{Bor}
use Rattle.jp_ast.specs.declared.token.Place.{Place}
use Rattle.jp_ast.specs.declared.token.Token.{Token}
use Rattle.jp_ast.specs.declared.expr.Expr.{Expr}
use Rattle.jp_ast.specs.declared.stmt.Stmt.{Stmt, the_lemmas}
use Rattle.jp_ast.specs.declared.stmt.StmtKind.TheVariants as made
use Rattle.jp_ast.specs.declared.sign.TheConstants as sign
use Rattle.jp_grammar.specs.declared.fault.ParseFault.{ParseFault}
use Rattle.jp_grammar.specs.Kinds.{IsSign, Tokens}
use Rattle.jp_grammar.specs.Depth.{depth, depth_of_option, stmt_depth, deepest}
use Rattle.jp_grammar.specs.Expressions.{Expression}
use Rattle.jp_grammar.specs.Statements.{Change, Init, Declared, declared, init_local, init_change}
use Rattle.jp_grammar.specs.Reading.{Reads, Ends, Any, Found, Fails, Takes, Lacks, IsText}
use Rattle.jp_grammar.specs.Behind.{begins_plain, begins_expr}
use Rattle.jp_grammar.proofs.Facts.{expression_begins}
use Rattle.jp_parse_stmt.proofs.Inits.{change_begins}
use Rattle.jp_grammar.proofs.Outcome.{Joint, Same, image_of, fails_at}
use Rattle.jp_grammar.proofs.Sequence.{Then, found_image, fails_image}
use Rattle.jp_grammar.proofs.Samples.{a_sign}
use Rattle.jp_parse_stmt.specs.Behind.{anything}
use Rattle.jp_parse_stmt.specs.Forms.{Turns, LastTurn, LaterTurns, AllTurns, OpenTurns, open_turns, SmallTurns, Flat, loop_at}
use Rattle.jp_parse_stmt.specs.Parts.{Gets, Shallow, Sealed, Shut, MaybeShut, Each, stmt_at}
use Rattle.jp_parse_stmt.proofs.StmtDepths.{stmt_depth_local}
use Rattle.jp_parse_stmt.proofs.StmtParts.{fails_known, some_token, text_some}
use Rattle.jp_parse_stmt.proofs.StmtEnds.{change_flat, sealed_flat}
use Rattle.jp_parse_stmt.proofs.Steps.{gets_then, gets_fault, gets_same}

init_flat : (xs zs : Tokens) (t : Stmt) → Init xs t zs → stmt_depth t ≡ 1
init_flat xs zs t (init_local (declared {name = n} {t = u} {value = v} o c h e)) = stmt_depth_local _ u n (Some v)
init_flat xs zs t (init_change c) = change_flat xs zs t c

maybe_flat : (n : ℕ) (R : Reads Stmt) → ((xs zs : Tokens) (t : Stmt) → R xs t zs → stmt_depth t ≡ 1) → (xs zs : Tokens) (o : Option Stmt) → MaybeShut n R xs o zs → Each Shallow o → Each Flat o
maybe_flat n R flat xs zs None r p = tt
maybe_flat n R flat xs zs (Some t) r p = let d = sealed_flat n r.0 t r.1 zs (flat xs r.1 r.0 r.2) r.3 in (omega (arith, d), p)

flat_shallow : (o : Option Stmt) → Each Flat o → Each Shallow o
flat_shallow None p = tt
flat_shallow (Some t) p = p.1

maybe_starts : {A : Type 0} (n : ℕ) (R : Reads A) → ((xs zs : Tokens) (t : A) → R xs t zs → Ends anything xs) → (xs zs : Tokens) (o : Option A) → MaybeShut n R xs o zs → Ends anything xs
maybe_starts n R begins xs zs None r = subst (λ (y : Tokens). Ends anything y) (sym r.1) refl
maybe_starts n R begins xs zs (Some t) r = begins xs r.1 r.0 r.2

-- ---- `[change] ")"` behind what stands before it

last_same : (i : Option Stmt) (e : Option Expr) → Each Flat i → Each (λ t. depth t ≤ 200) e → Same [] (λ (c : Option Stmt). (i, e, c)) (MaybeShut sign.CLOSE_PAREN Change) (LastTurn i e) anything (Each Flat) SmallTurns
last_same i e p q = record {
  into = λ xs zs c r. (c, r, refl);
  from = λ xs zs h r g. (r.0, r.2, r.1);
  up = λ c u. (p, q, u);
  down = λ c u. u.2;
}

pub change_maybe_flat : (xs zs : Tokens) (o : Option Stmt) → MaybeShut sign.CLOSE_PAREN Change xs o zs → Each Shallow o → Each Flat o
change_maybe_flat xs zs o r p = maybe_flat sign.CLOSE_PAREN Change change_flat xs zs o r p

module _ (i : Option Stmt) (e : Option Expr) (p : Each Flat i) (q : Each (λ t. depth t ≤ 200) e) where
  pub last_fails : (xs : Tokens) (err : ParseFault) → Fails (MaybeShut sign.CLOSE_PAREN Change) (λ _. anything) anything (Each Shallow) xs err → Fails (LastTurn i e) (λ _. anything) anything SmallTurns xs err
  last_fails xs err f = fails_image (image_of (last_same i e p q)) anything xs err (fails_known change_maybe_flat (λ ys zs o r p. flat_shallow o p) xs err f)

  pub last_found : (c : Option Stmt) (xs zs : Tokens) → Found (MaybeShut sign.CLOSE_PAREN Change) (λ _. anything) xs c zs → Found (LastTurn i e) (λ _. anything) xs (i, e, c) zs
  last_found c xs zs f = found_image (image_of (last_same i e p q)) f

last_some : (i : Option Stmt) (e : Option Expr) (xs zs : Tokens) (h : Turns) → LastTurn i e xs h zs → Ends anything xs
last_some i e xs zs h r = maybe_starts sign.CLOSE_PAREN Change (λ ys ws t d. some_token begins_plain ys (change_begins ys ws t d)) xs zs r.0 r.1

expr_some : (xs zs : Tokens) (o : Option Expr) → MaybeShut sign.SEMICOLON Expression xs o zs → Ends anything xs
expr_some xs zs o r = maybe_starts sign.SEMICOLON Expression (λ ys ws t d. some_token begins_expr ys (expression_begins d)) xs zs o r

later_joint : (i : Option Stmt) → Each Flat i → Joint (MaybeShut sign.SEMICOLON Expression) (LastTurn i) anything anything (Each (λ t. depth t ≤ 200)) SmallTurns
later_joint i p = record {
  starts = λ e ys zs h r g. last_some i e ys zs h r;
  down = λ e ys zs h r q. let same = r.2 in (subst (λ (x : Turns). SmallTurns x) same q).1;
  close = a_sign sign.CLOSE_PAREN ∷ [];
  follows = λ zs g. refl;
  closed = λ e zs g. ((i, e, None), (None, (a_sign sign.CLOSE_PAREN, refl, refl), refl), λ q. (p, q, tt));
}

all_joint : Joint (MaybeShut sign.SEMICOLON Init) LaterTurns anything anything (Each Flat) SmallTurns
all_joint = record {
  starts = λ i ys zs h r g. expr_some ys r.1 r.0 r.2;
  down = λ i ys zs h r q. let same = r.3.2 in (subst (λ (x : Turns). SmallTurns x) same q).0;
  close = a_sign sign.SEMICOLON ∷ a_sign sign.CLOSE_PAREN ∷ [];
  follows = λ zs g. refl;
  closed = λ i zs g. ((i, None, None), (None, a_sign sign.CLOSE_PAREN ∷ zs, (a_sign sign.SEMICOLON, refl, refl), (None, (a_sign sign.CLOSE_PAREN, refl, refl), refl)), λ q. (q, tt, tt));
}

pub init_maybe_flat : (xs zs : Tokens) (o : Option Stmt) → MaybeShut sign.SEMICOLON Init xs o zs → Each Shallow o → Each Flat o
init_maybe_flat xs zs o r p = maybe_flat sign.SEMICOLON Init init_flat xs zs o r p

-- what is read is flat
read_flat : (n : ℕ) (R : Reads Stmt) → ((xs zs : Tokens) (o : Option Stmt) → MaybeShut n R xs o zs → Each Shallow o → Each Flat o) → (xs zs : Tokens) (o : Option Stmt) → Found (MaybeShut n R) (λ _. anything) xs o zs → IsText zs → Each Shallow o → Each Flat o
read_flat n R flat xs zs o f text p = flat _ zs o (f.reads zs (inl (text_some zs text))) p

-- what begins a `for` fails
pub turns_begun : (xs : Tokens) (err : ParseFault) → Fails (MaybeShut sign.SEMICOLON Init) (λ _. anything) anything (Each Shallow) xs err → Fails AllTurns (λ _. anything) anything SmallTurns xs err
turns_begun xs err f = gets_fault all_joint xs err (fails_known init_maybe_flat (λ ys zs o r p. flat_shallow o p) xs err f)

module _ (i : Option Stmt) (xs ys : Tokens) (f : Found (MaybeShut sign.SEMICOLON Init) (λ _. anything) xs i ys) (text : IsText ys) (small : Each Shallow i) where
  init_is_flat : Each Flat i
  init_is_flat = read_flat sign.SEMICOLON Init init_maybe_flat xs ys i f text small

  -- the test fails
  pub turns_tested : (err : ParseFault) → Fails (MaybeShut sign.SEMICOLON Expression) (λ _. anything) anything (Each (λ t. depth t ≤ 200)) ys err → Fails AllTurns (λ _. anything) anything SmallTurns xs err
  turns_tested err g = gets_then all_joint xs ys i (Err err) f (gets_fault (later_joint i init_is_flat) ys err g)

  -- the change fails
  pub turns_changed : (e : Option Expr) (ws : Tokens) (err : ParseFault) → Found (MaybeShut sign.SEMICOLON Expression) (λ _. anything) ys e ws → Each (λ t. depth t ≤ 200) e →
      Fails (MaybeShut sign.CLOSE_PAREN Change) (λ _. anything) anything (Each Shallow) ws err → Fails AllTurns (λ _. anything) anything SmallTurns xs err
  turns_changed e ws err g q h = gets_then all_joint xs ys i (Err err) f (gets_then (later_joint i init_is_flat) ys ws e (Err err) g (last_fails i e init_is_flat q ws err h))

  -- all of them are read
  pub turns_read : (e : Option Expr) (c : Option Stmt) (ws : Tokens) (zs : Bor Tokens) → Found (MaybeShut sign.SEMICOLON Expression) (λ _. anything) ys e ws → Each (λ t. depth t ≤ 200) e →
      Found (MaybeShut sign.CLOSE_PAREN Change) (λ _. anything) ws c zs.now → IsText zs.now → Each Shallow c → Gets AllTurns anything SmallTurns xs (Ok ((i, e, c), zs))
  turns_read e c ws zs g q h text' p =
      let flat = read_flat sign.CLOSE_PAREN Change change_maybe_flat ws zs.now c h text' p in
      gets_then all_joint xs ys i (Ok ((i, e, c), zs)) f (gets_then (later_joint i init_is_flat) ys ws e (Ok ((i, e, c), zs)) g (last_found i e init_is_flat q c ws zs.now h, (init_is_flat, q, flat)))

-- ---- the parenthesis

open_same : (s : Token) → IsSign sign.OPEN_PAREN s → Same (s ∷ []) (λ h. h) AllTurns OpenTurns anything SmallTurns SmallTurns
open_same s i = record {
  into = λ xs zs h r. open_turns i r;
  from = λ xs zs h r g. (h, refl, open_from s xs zs h r);
  up = λ h p. p;
  down = λ h p. p;
} where
  open_from : (s : Token) (xs zs : Tokens) (h : Turns) → OpenTurns (s ∷ xs) h zs → AllTurns xs h zs
  open_from s xs zs h (open_turns i r) = r

open_never : (s : Token) (more zs : Tokens) (h : Turns) → (IsSign sign.OPEN_PAREN s → ⊥) → OpenTurns (s ∷ more) h zs → ⊥
open_never s more zs h other (open_turns i r) = other i

-- no `(` stands there
pub open_wrong : (tokens : Tokens) (e : ParseFault) → Lacks sign.OPEN_PAREN tokens e → Fails OpenTurns (λ _. anything) anything SmallTurns tokens e
open_wrong tokens e l =
    subst (λ (y : Tokens). Fails OpenTurns (λ _. anything) anything SmallTurns y e) (sym l.split)
    (fails_at OpenTurns anything SmallTurns [] l.first l.rest e l.refused
    (λ zs e'. (a_sign sign.OPEN_PAREN ∷ a_sign sign.SEMICOLON ∷ a_sign sign.SEMICOLON ∷ a_sign sign.CLOSE_PAREN ∷ [], (None, None, None), open_turns refl (None, a_sign sign.SEMICOLON ∷ a_sign sign.CLOSE_PAREN ∷ zs, (a_sign sign.SEMICOLON, refl, refl), (None, a_sign sign.CLOSE_PAREN ∷ zs, (a_sign sign.SEMICOLON, refl, refl), (None, (a_sign sign.CLOSE_PAREN, refl, refl), refl))), e', (tt, tt, tt)))
    (λ more zs h r e' q. open_never l.first more zs h l.other r))

-- what stands behind the `(`
pub open_gets : (tokens xs : Tokens) (r : Result (Turns × Bor Tokens) ParseFault) → Takes sign.OPEN_PAREN tokens xs → Gets AllTurns anything SmallTurns xs r → Gets OpenTurns anything SmallTurns tokens r
open_gets tokens xs r l g =
    subst (λ (y : Tokens). Gets OpenTurns anything SmallTurns y r) (sym l.split)
    (gets_same (open_same l.first l.sign_is) xs r g)
