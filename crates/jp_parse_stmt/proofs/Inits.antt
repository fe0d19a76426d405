-- What may begin a `for`, and parts that may be left out.
use Rattle.std.proofs.Common.{◌≡◌, ℕ, ◌≤◌, true, false, IsTrue, List, [], ◌∷◌, ◌++◌, length, Some, Result, Ok, Err, refl, sym, ap, subst, inl, inr, ◌⊎◌, arith}
use Rattle.std.specs.Borrow.{Bor}
use Rattle.jp_pred.specs.declared.ty.Ty.{Ty}
use Rattle.jp_pred.specs.declared.ty.Ty.TheVariants as ty
use Rattle.jp_ast.specs.declared.token.Place.{Place}
use Rattle.jp_ast.specs.declared.token.Token.{Token}
use Rattle.jp_ast.specs.declared.expr.Expr.{Expr}
use Rattle.jp_ast.specs.declared.stmt.Stmt.{Stmt}
use Rattle.jp_ast.specs.declared.stmt.StmtKind.TheVariants as made
use Rattle.jp_ast.specs.declared.sign.TheConstants as sign
use Rattle.jp_grammar.specs.declared.kind.Kind.{Kind}
use Rattle.jp_grammar.specs.declared.kind.Kind.TheVariants as k
use Rattle.jp_grammar.specs.declared.fault.ParseFault.{ParseFault}
use Rattle.jp_grammar.specs.Kinds.{IsSign, Tokens, place_of, kind_of_token}
use Rattle.jp_grammar.specs.Depth.{depth}
use Rattle.jp_grammar.specs.Expressions.{Expression, IsElement}
use Rattle.jp_grammar.specs.Statements.{OneType, Change, Declared, Init, Test, element_type, array_type, assign, bump, run, declared, init_local, init_change, test}
use Rattle.jp_grammar.specs.Reading.{Ends, Any, Found, Fails, Begins, Takes, Lacks}
use Rattle.jp_grammar.specs.Behind.{begins_plain, begins_expr, ends_full, stands_behind}
use Rattle.jp_grammar.proofs.Outcome.{Joint, Same, Placed, fails_at, found_placed, fails_placed}
use Rattle.jp_grammar.proofs.Facts.{postfix_begins, postfix_shorter, expression_begins, expression_shorter}
use Rattle.jp_grammar.proofs.Samples.{a_name, a_name_is, a_number, a_sign, zero_expr, expression_number}
use Rattle.jp_grammar.proofs.Depths.{depth_number}
use Rattle.jp_grammar.proofs.Words.{name_token}
use Rattle.jp_grammar.specs.Kinds.{nowhere}
use Rattle.jp_parse_stmt.specs.Behind.{anything, ends_change, change_kind}
use Rattle.jp_parse_stmt.specs.Locals.{begins_local, NameOf, name_of, Head, Valued, valued, ValuedLine}
use Rattle.jp_parse_stmt.specs.Parts.{Gets, Shallow, Sealed, Shut, stmt_at}
use Rattle.jp_parse_stmt.proofs.Branches.{Branch, found_branch, fails_branch}
use Rattle.jp_parse_stmt.proofs.LocalTokens.{Untold, head_local, shut_no_local}
use Rattle.jp_parse_stmt.proofs.LocalLines.{GoesOn, change_on, open_line, head_solid, type_solid, zero_shut, zero_small}
use Rattle.jp_parse_stmt.proofs.Steps.{gets_then, gets_fault, gets_same}

-- ---- lengths, and what the parts begin with

pub change_shorter : (xs zs : Tokens) (t : Stmt) → Change xs t zs → length zs ≤ length xs
change_shorter xs zs t (assign p h i e) = let a = postfix_shorter p in let b = expression_shorter e in omega (arith, a, b)
change_shorter xs zs t (bump p h) = let a = postfix_shorter p in omega (arith, a)
change_shorter xs zs t (run p) = let a = postfix_shorter p in omega (arith, a)

pub declared_shorter : (xs zs : Tokens) (t : Stmt) → Declared xs t zs → length zs ≤ length xs
declared_shorter xs zs t (declared {t = u} o n h e) = let a = type_solid u xs _ o in let b = expression_shorter e in omega (arith, a, b)

pub init_shorter : (xs zs : Tokens) (t : Stmt) → Init xs t zs → length zs ≤ length xs
init_shorter xs zs t (init_local d) = declared_shorter xs zs t d
init_shorter xs zs t (init_change c) = change_shorter xs zs t c

pub change_begins : (xs zs : Tokens) (t : Stmt) → Change xs t zs → Begins begins_plain xs
change_begins xs zs t (assign p h i e) = postfix_begins p
change_begins xs zs t (bump p h) = postfix_begins p
change_begins xs zs t (run p) = postfix_begins p

pub begins_sign : (n : ℕ) (s : Token) → begins_plain (k.Sign n) ≡ false → IsSign n s → IsTrue (begins_plain (kind_of_token s)) → ⊥
begins_sign n s f h b = let g : IsTrue (begins_plain (k.Sign n)) = subst (λ (x : Kind). IsTrue (begins_plain x)) h b in cc

-- no change begins with `)`
pub change_no_close : (s : Token) (xs zs : Tokens) (t : Stmt) → IsSign sign.CLOSE_PAREN s → Change (s ∷ xs) t zs → ⊥
change_no_close s xs zs t h r = begins_sign sign.CLOSE_PAREN s refl h (change_begins (s ∷ xs) zs t r)

elem_no_sign : (n : ℕ) (t : Ty) (s : Token) → IsElement t s → IsSign n s → ⊥
elem_no_sign n ty.Int s i h = cc
elem_no_sign n ty.Boolean s i h = cc
elem_no_sign n (ty.Class class) s i h = let j = i.1 in cc
elem_no_sign n _ s i h = absurd i

pub type_no_sign : (n : ℕ) (t : Ty) (s : Token) (xs ys : Tokens) → OneType (s ∷ xs) t ys → IsSign n s → ⊥
type_no_sign n t s xs ys (element_type i) h = elem_no_sign n t s i h
type_no_sign n t s xs ys (array_type elem i o p) h = elem_no_sign n elem s i h

-- no such beginning is `;`
pub init_no_semicolon : (s : Token) (xs zs : Tokens) (t : Stmt) → IsSign sign.SEMICOLON s → Init (s ∷ xs) t zs → ⊥
init_no_semicolon s xs zs t h (init_local (declared {t = u} o n e v)) = type_no_sign sign.SEMICOLON u s xs _ o h
init_no_semicolon s xs zs t h (init_change c) = begins_sign sign.SEMICOLON s refl h (change_begins (s ∷ xs) zs t c)

expr_begins_sign : (n : ℕ) (s : Token) → begins_expr (k.Sign n) ≡ false → IsSign n s → IsTrue (begins_expr (kind_of_token s)) → ⊥
expr_begins_sign n s f h b = let g : IsTrue (begins_expr (k.Sign n)) = subst (λ (x : Kind). IsTrue (begins_expr x)) h b in cc

-- no expression begins with `;`
pub expr_no_semicolon : (s : Token) (xs zs : Tokens) (t : Expr) → IsSign sign.SEMICOLON s → Expression (s ∷ xs) t zs → ⊥
expr_no_semicolon s xs zs t h r = expr_begins_sign sign.SEMICOLON s refl h (expression_begins r)

pub expr_less : (xs zs : Tokens) (t : Expr) → Expression xs t zs → length zs ≤ length xs
expr_less xs zs t r = let a = expression_shorter r in omega (arith, a)

-- `)` may stand behind an expression
pub close_full : (s : Token) → IsSign sign.CLOSE_PAREN s → IsTrue (ends_full s)
close_full s h = ap (λ (x : Kind). stands_behind x) h

-- and behind a change
pub close_change : (s : Token) → IsSign sign.CLOSE_PAREN s → IsTrue (ends_change s)
close_change s h = ap (λ (x : Kind). change_kind x) h

-- ---- a test

test_from : (s : Token) (xs zs : Tokens) (t : Expr) → Test (s ∷ xs) t zs → Shut sign.CLOSE_PAREN Expression xs t zs
test_from s xs zs t (test {p = p} h e i) = (t, p ∷ zs, e, (i, refl, refl))

test_into : (s : Token) (xs zs : Tokens) (t : Expr) (ys : Tokens) (v : Expr) → IsSign sign.OPEN_PAREN s → Expression xs v ys → Sealed sign.CLOSE_PAREN v ys t zs → Test (s ∷ xs) t zs
test_into s xs zs t [] v h e r = absurd r
test_into s xs zs t (p ∷ ys) v h e r =
    let e' : Expression xs t (p ∷ zs) = subst (λ (y : Tokens). Expression xs t (p ∷ y)) (sym r.2) (subst (λ (u : Expr). Expression xs u (p ∷ ys)) (sym r.1) e) in
    test h e' r.0

test_same : (s : Token) (P : Expr → Type 0) → IsSign sign.OPEN_PAREN s → Same (s ∷ []) (λ t. t) (Shut sign.CLOSE_PAREN Expression) Test anything P P
test_same s P h = record {
  into = λ xs zs t r. test_into s xs zs t r.1 r.0 h r.2 r.3;
  from = λ xs zs t r e. (t, refl, test_from s xs zs t r);
  up = λ t p. p;
  down = λ t p. p;
}

test_never : (s : Token) (more zs : Tokens) (t : Expr) → (IsSign sign.OPEN_PAREN s → ⊥) → Test (s ∷ more) t zs → ⊥
test_never s more zs t other (test h e i) = other h

-- no `(` stands there
pub test_wrong : (tokens : Tokens) (e : ParseFault) → Lacks sign.OPEN_PAREN tokens e → Fails Test (λ _. anything) anything (λ t. depth t ≤ 200) tokens e
test_wrong tokens e l =
    subst (λ (y : Tokens). Fails Test (λ _. anything) anything (λ t. depth t ≤ 200) y e) (sym l.split)
    (fails_at Test anything (λ t. depth t ≤ 200) [] l.first l.rest e l.refused
    (λ zs e'. (a_sign sign.OPEN_PAREN ∷ a_number ∷ a_sign sign.CLOSE_PAREN ∷ [], zero_expr, test refl (expression_number (a_sign sign.CLOSE_PAREN ∷ zs)) refl, e', let n : depth zero_expr ≡ 1 = depth_number nowhere 0 false in omega (arith, n)))
    (λ more zs t r e' q. test_never l.first more zs t l.other r))

-- what stands behind the `(`
pub test_gets : (tokens xs : Tokens) (r : Result (Expr × Bor Tokens) ParseFault) → Takes sign.OPEN_PAREN tokens xs → Gets (Shut sign.CLOSE_PAREN Expression) anything (λ t. depth t ≤ 200) xs r → Gets Test anything (λ t. depth t ≤ 200) tokens r
test_gets tokens xs r l g =
    subst (λ (y : Tokens). Gets Test anything (λ t. depth t ≤ 200) y r) (sym l.split)
    (gets_same (test_same l.first (λ t. depth t ≤ 200) l.sign_is) xs r g)

-- ---- what begins a `for`, and `;`

valued_starts : (at : Place) (x : Ty × List ℕ) (ys zs : Tokens) (t : Stmt) → Valued at x ys t zs → Ends anything ys
valued_starts at x ys zs t (valued h r) = refl

valued_joint : Joint (Placed Head) (λ x. Valued x.0 x.1) anything anything (λ x. Any x.1) Shallow
valued_joint = record {
  starts = λ a ys zs t r e. valued_starts a.0 a.1 ys zs t r;
  down = λ a ys zs t r q. tt;
  close = a_sign sign.ASSIGN ∷ a_number ∷ a_sign sign.SEMICOLON ∷ [];
  follows = λ zs e. refl;
  closed = λ a zs e. (stmt_at a.0 (made.Local a.1.0 a.1.1 (Some zero_expr)), valued refl (zero_shut zs), λ p. zero_small a.0 a.1);
}

pub valued_line_fails : (xs : Tokens) (e : ParseFault) → Fails Head (λ _. anything) anything Any xs e → Fails ValuedLine (λ _. anything) anything Shallow xs e
valued_line_fails xs e f = gets_fault valued_joint xs e (fails_placed Head anything Any xs e f)

pub valued_line_gets : (s : Token) (rest xs ys : Tokens) (x : Ty × List ℕ) (r : Result (Stmt × Bor Tokens) ParseFault) → xs ≡ s ∷ rest → Found Head (λ _. anything) xs x ys → Gets (Valued s.place x) anything Shallow ys r → Gets ValuedLine anything Shallow xs r
valued_line_gets s rest xs ys x r split f g =
    let place : s.place ≡ place_of xs = sym (ap place_of split) in
    gets_then valued_joint xs ys (place_of xs, x) r (found_placed head_solid f) (subst (λ (p : Place). Gets (Valued p x) anything Shallow ys r) place g)

valued_local : (xs zs : Tokens) (t : Stmt) → ValuedLine xs t zs → begins_local xs ≡ true
valued_local xs zs t r = head_local xs r.1 r.0.1 r.2.1

named_value : (at : Place) (u : Ty) (x : Ty × List ℕ) (xs ws ys zs : Tokens) (t : Stmt) → at ≡ place_of xs → OneType xs u ws → NameOf u ws x ys → Valued at x ys t zs → Shut sign.SEMICOLON Init xs t zs
named_value at u x xs ws ys zs t place o (name_of {name = word} n) (valued {value = v} h r) =
    sealed_value at u word v xs _ zs r.1 r.0 place (λ w e. declared o n h e) r.2 r.3 where
      sealed_value : (at : Place) (u : Ty) (word : List ℕ) (v : Expr) (xs ys zs vs : Tokens) (w : Expr) → at ≡ place_of xs → ((b : Expr) → Expression ys b vs → Declared xs (stmt_at (place_of xs) (made.Local u word (Some b))) vs) →
          Expression ys w vs → Sealed sign.SEMICOLON w vs v zs → Shut sign.SEMICOLON Init xs (stmt_at at (made.Local u word (Some v))) zs
      sealed_value at u word v xs ys zs [] w place make e s = absurd s
      sealed_value at u word v xs ys zs (p ∷ vs) w place make e s =
          let e' : Expression ys v (p ∷ vs) = subst (λ (b : Expr). Expression ys b (p ∷ vs)) (sym s.1) e in
          let d = make v e' in
          let t : Stmt = stmt_at at (made.Local u word (Some v)) in
          (t, p ∷ vs, init_local (subst (λ (q : Place). Declared xs (stmt_at q (made.Local u word (Some v))) (p ∷ vs)) (sym place) d), (s.0, refl, s.2))

valued_into : (xs zs : Tokens) (t : Stmt) → ValuedLine xs t zs → Shut sign.SEMICOLON Init xs t zs
valued_into xs zs t r = named_value r.0.0 r.2.1.0 r.0.1 xs r.2.1.1 r.1 zs t r.2.0 r.2.1.2 r.2.1.3 r.3

-- a local variable with its value, or a change, and `;`
init_cases : (xs ys zs : Tokens) (a t : Stmt) → Init xs a ys → Sealed sign.SEMICOLON a ys t zs → ValuedLine xs t zs ⊎ Shut sign.SEMICOLON Change xs t zs
init_cases xs [] zs a t r s = absurd s
init_cases xs (p ∷ ys) zs a t (init_change c) s = inr (a, p ∷ ys, c, s)
init_cases xs (p ∷ ys) zs a t (init_local (declared {c = c} {e = e} {name = word} {ys = ws} {t = u} {value = v} o n h w)) s =
    let whole : ValuedLine xs a ys = ((place_of xs, (u, word)), e ∷ ws, (refl, (u, c ∷ e ∷ ws, o, name_of n)), valued h (v, p ∷ ys, w, (s.0, refl, refl))) in
    inl (subst (λ (y : Tokens). ValuedLine xs t y) (sym s.2) (subst (λ (b : Stmt). ValuedLine xs b ys) (sym s.1) whole))

valued_from : (xs zs : Tokens) (t : Stmt) → Shut sign.SEMICOLON Init xs t zs → begins_local xs ≡ true → ValuedLine xs t zs
valued_from xs zs t r d = elim (init_cases xs r.1 zs r.0 t r.2 r.3) [
  | inl v ↦ v
  | inr c ↦ let e = shut_no_local xs zs t c in cc
]

plain_from : (xs zs : Tokens) (t : Stmt) → Shut sign.SEMICOLON Init xs t zs → begins_local xs ≡ false → Shut sign.SEMICOLON Change xs t zs
plain_from xs zs t r d = elim (init_cases xs r.1 zs r.0 t r.2 r.3) [
  | inl v ↦ let e = valued_local xs zs t v in cc
  | inr c ↦ c
]

plain_into : (xs zs : Tokens) (t : Stmt) → Shut sign.SEMICOLON Change xs t zs → Shut sign.SEMICOLON Init xs t zs
plain_into xs zs t r = (r.0, r.1, init_change r.2, r.3)

valued_on : (front : Tokens) (next : Token) → Untold front next → GoesOn ValuedLine front next
valued_on front next (inl u) =
    let w = name_token next u.1 in
    let zs : Tokens = a_sign sign.SEMICOLON ∷ [] in
    let x : Ty × List ℕ = (ty.Class w.0, 97 ∷ []) in
    let tail : Tokens = a_sign sign.ASSIGN ∷ a_number ∷ a_sign sign.SEMICOLON ∷ zs in
    let t : Stmt = stmt_at next.place (made.Local x.0 x.1 (Some zero_expr)) in
    let r : ValuedLine (next ∷ a_name ∷ tail) t zs = ((next.place, x), tail, (refl, (ty.Class w.0, a_name ∷ tail, element_type w.1, name_of a_name_is)), valued refl (zero_shut zs)) in
    (a_name ∷ tail, zs, t, subst (λ (f : Tokens). ValuedLine (f ++ next ∷ a_name ∷ tail) t zs) (sym u.0) r, refl, zero_small next.place x)
valued_on front next (inr u) =
    let a : Token = u.0 in
    let w = name_token a u.2 in
    let zs : Tokens = a_sign sign.SEMICOLON ∷ [] in
    let x : Ty × List ℕ = (ty.ClassArray w.0, 97 ∷ []) in
    let tail : Tokens = a_sign sign.ASSIGN ∷ a_number ∷ a_sign sign.SEMICOLON ∷ zs in
    let t : Stmt = stmt_at a.place (made.Local x.0 x.1 (Some zero_expr)) in
    let r : ValuedLine (a ∷ next ∷ a_sign sign.CLOSE_BRACKET ∷ a_name ∷ tail) t zs = ((a.place, x), tail, (refl, (ty.ClassArray w.0, a_name ∷ tail, array_type (ty.Class w.0) w.1 u.3 refl, name_of a_name_is)), valued refl (zero_shut zs)) in
    (a_sign sign.CLOSE_BRACKET ∷ a_name ∷ tail, zs, t, subst (λ (f : Tokens). ValuedLine (f ++ next ∷ a_sign sign.CLOSE_BRACKET ∷ a_name ∷ tail) t zs) (sym u.1) r, refl, zero_small a.place x)

valued_branch : Branch begins_local true ValuedLine (Shut sign.SEMICOLON Init) anything Shallow
valued_branch = record {
  into = valued_into;
  from = λ xs zs t r e d. valued_from xs zs t r d;
  decided = valued_local;
  open_to = open_line ValuedLine true valued_on;
}

plain_branch : Branch begins_local false (Shut sign.SEMICOLON Change) (Shut sign.SEMICOLON Init) anything Shallow
plain_branch = record {
  into = plain_into;
  from = λ xs zs t r e d. plain_from xs zs t r d;
  decided = λ xs zs t r. shut_no_local xs zs t r;
  open_to = open_line (Shut sign.SEMICOLON Change) false change_on;
}

-- a local variable with its value may begin a `for`
pub init_line : (xs : Tokens) (r : Result (Stmt × Bor Tokens) ParseFault) → begins_local xs ≡ true → Gets ValuedLine anything Shallow xs r → Gets (Shut sign.SEMICOLON Init) anything Shallow xs r
init_line xs (Ok u) d g = (found_branch valued_branch g.0, g.1)
init_line xs (Err e) d g = fails_branch valued_branch xs e d g

-- and a change may
pub init_changed : (xs : Tokens) (r : Result (Stmt × Bor Tokens) ParseFault) → begins_local xs ≡ false → Gets (Shut sign.SEMICOLON Change) anything Shallow xs r → Gets (Shut sign.SEMICOLON Init) anything Shallow xs r
init_changed xs (Ok u) d g = (found_branch plain_branch g.0, g.1)
init_changed xs (Err e) d g = fails_branch plain_branch xs e d g
