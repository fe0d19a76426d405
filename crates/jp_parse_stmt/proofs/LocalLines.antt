-- Declarations of local variables, and simple statements.
use Rattle.std.proofs.Common.{◌≡◌, ℕ, ◌<◌, ◌≤◌, Bool, true, false, not, IsTrue, List, [], ◌∷◌, ◌++◌, length, Option, Some, None, Result, Ok, Err, refl, sym, ap, ◌∙◌, subst, inl, inr, rules, arith}
use Rattle.std.specs.Borrow.{Bor}
use Rattle.jp_pred.specs.declared.ty.Ty.{Ty}
use Rattle.jp_pred.specs.declared.ty.Ty.TheVariants as ty
use Rattle.jp_ast.specs.declared.token.Place.{Place}
use Rattle.jp_ast.specs.declared.token.Token.{Token}
use Rattle.jp_ast.specs.declared.expr.Expr.{Expr}
use Rattle.jp_ast.specs.declared.stmt.Stmt.{Stmt, the_lemmas}
use Rattle.jp_ast.specs.declared.stmt.StmtKind.TheVariants as made
use Rattle.jp_ast.specs.declared.sign.TheConstants as sign
use Rattle.jp_grammar.specs.declared.kind.Kind.{Kind}
use Rattle.jp_grammar.specs.declared.kind.Kind.TheVariants as k
use Rattle.jp_grammar.specs.declared.fault.ParseFault.{ParseFault}
use Rattle.jp_grammar.specs.Kinds.{Is, IsSign, IsName, Tokens, nowhere, place_of, kind_of_token, is_sign_kind}
use Rattle.jp_grammar.specs.Trees.{named_at, index_at}
use Rattle.jp_grammar.specs.Depth.{depth, depth_of_option, deepest}
use Rattle.jp_grammar.specs.Expressions.{Expression, postfix, name, uncalled, steps_end, element, bracketed}
use Rattle.jp_grammar.specs.Statements.{OneType, Change, element_type, array_type, run}
use Rattle.jp_grammar.specs.Reading.{Reads, Ends, Any, Found, Fails, RefusedName, Takes, Lacks}
use Rattle.jp_grammar.proofs.Sequence.{found_image, fails_image}
use Rattle.jp_grammar.proofs.Choice.{Choice, found_choice, fails_choice}
use Rattle.jp_grammar.proofs.Outcome.{Joint, Same, image_of, Placed, fails_at, found_placed, fails_placed}
use Rattle.jp_grammar.proofs.Depths.{depth_number, depth_var, depth_index}
use Rattle.jp_grammar.proofs.Samples.{a_name, a_name_is, a_number, a_sign, zero_expr, expression_number}
use Rattle.jp_grammar.proofs.Facts.{expression_shorter}
use Rattle.jp_grammar.proofs.Words.{name_token}
use Rattle.jp_grammar.specs.Behind.{ends_full, stands_behind}
use Rattle.jp_parse_stmt.specs.Behind.{anything, ends_type, ends_change, change_kind}
use Rattle.jp_parse_stmt.specs.Locals.{begins_local, NameOf, name_of, Head, Valued, valued, Declares, no_value, some_value, LocalLine, Simple}
use Rattle.jp_parse_stmt.specs.Parts.{Gets, Shallow, Shut, stmt_at}
use Rattle.jp_parse_stmt.proofs.Branches.{Branch, found_branch, fails_branch}
use Rattle.jp_parse_stmt.proofs.Changes.{deepest_run}
use Rattle.jp_parse_stmt.proofs.LocalTokens.{Untold, depends, head_local, shut_no_local}
use Rattle.jp_parse_stmt.proofs.Sealing.{sealed_shorter}
use Rattle.jp_parse_stmt.proofs.Steps.{gets_then, gets_fault}

pub deepest_local : (p : Place) (t : Ty) (n : List ℕ) (v : Option Expr) → deepest (stmt_at p (made.Local t n v)) ≡ depth_of_option v
unfolding deepest
deepest_local p t n v = search (rules, the_lemmas)

-- `;` may stand behind an expression
pub semicolon_full : (s : Token) → IsSign sign.SEMICOLON s → IsTrue (ends_full s)
semicolon_full s h = ap (λ (x : Kind). stands_behind x) h

-- and behind a change
pub semicolon_change : (s : Token) → IsSign sign.SEMICOLON s → IsTrue (ends_change s)
semicolon_change s h = ap (λ (x : Kind). change_kind x) h

-- ---- a type and a name

no_bracket_name : (s : Token) → Is k.Name s → IsTrue (ends_type s)
no_bracket_name s h = subst (λ (x : Kind). IsTrue (not (is_sign_kind sign.OPEN_BRACKET x))) (sym h) refl

name_starts : (t : Ty) (x : Ty × List ℕ) (ys zs : Tokens) → NameOf t ys x zs → Ends ends_type ys
name_starts t x ys zs (name_of {c = c} n) = no_bracket_name c n.1

head_joint : Joint OneType NameOf ends_type anything Any Any
head_joint = record {
  starts = λ a ys zs t r e. name_starts a t ys zs r;
  down = λ a ys zs t r q. tt;
  close = a_name ∷ [];
  follows = λ zs e. no_bracket_name a_name a_name_is.1;
  closed = λ a zs e. ((a, 97 ∷ []), name_of a_name_is, λ p. tt);
}

name_only : (t : Ty) (c : Token) (word : List ℕ) (ys zs : Tokens) (x : Ty × List ℕ) → IsName word c → NameOf t (c ∷ ys) x zs → (x ≡ (t, word)) × (zs ≡ ys)
name_only t c word ys zs x n (name_of {name = word'} n') = let a = n.0 in let b = n'.0 in let same : word' ≡ word = cc in (ap (λ (w : List ℕ). (t, w)) same, refl)

name_never : (t : Ty) (c : Token) (more zs : Tokens) (x : Ty × List ℕ) → (kind_of_token c ≡ k.Name → ⊥) → NameOf t (c ∷ more) x zs → ⊥
name_never t c more zs x other (name_of n) = other n.1

name_fails : (t : Ty) (c : Token) (xs : Tokens) (e : ParseFault) → RefusedName c e → Fails (NameOf t) (λ _. anything) anything Any (c ∷ xs) e
name_fails t c xs e (inl m) = inl m
name_fails t c xs e (inr r) = fails_at (NameOf t) anything Any [] c xs e r.1
    (λ zs e'. (a_name ∷ [], (t, 97 ∷ []), name_of a_name_is, e', tt))
    (λ more zs x r' e' q. name_never t c more zs x r.0 r')

name_found : (t : Ty) (c : Token) (word : List ℕ) (zs : Tokens) → IsName word c → Found (NameOf t) (λ _. anything) (c ∷ zs) (t, word) zs
name_found t c word zs n = record {
  front = c ∷ [];
  split = refl;
  reads = λ ys f. name_of n;
  only = λ ys zs' x f r e. name_only t c word ys zs' x n r;
}

-- the type fails
pub head_fails : (xs : Tokens) (e : ParseFault) → Fails OneType (λ _. ends_type) ends_type Any xs e → Fails Head (λ _. anything) anything Any xs e
head_fails xs e f = gets_fault head_joint xs e f

-- no name stands behind the type
pub head_wrong : (xs ys rest : Tokens) (c : Token) (t : Ty) (e : ParseFault) → ys ≡ c ∷ rest → Found OneType (λ _. ends_type) xs t ys → RefusedName c e → Fails Head (λ _. anything) anything Any xs e
head_wrong xs ys rest c t e split g r = gets_then head_joint xs ys t (Err e) g (subst (λ (y : Tokens). Fails (NameOf t) (λ _. anything) anything Any y e) (sym split) (name_fails t c rest e r))

-- a type and a name
pub head_gets : (xs ys : Tokens) (zs : Bor Tokens) (c : Token) (t : Ty) (word : List ℕ) → ys ≡ c ∷ zs.now → Found OneType (λ _. ends_type) xs t ys → IsName word c → Gets Head anything Any xs (Ok ((t, word), zs))
head_gets xs ys zs c t word split g n = gets_then head_joint xs ys t (Ok ((t, word), zs)) g (subst (λ (y : Tokens). Found (NameOf t) (λ _. anything) y (t, word) zs.now) (sym split) (name_found t c word zs.now n), tt)

-- ---- a value

valued_from : (at : Place) (x : Ty × List ℕ) (s : Token) (xs zs : Tokens) (t : Stmt) → Valued at x (s ∷ xs) t zs → (v : Expr) × (t ≡ stmt_at at (made.Local x.0 x.1 (Some v))) × Shut sign.SEMICOLON Expression xs v zs
valued_from at x s xs zs t (valued {value = v} h r) = (v, refl, r)

valued_never : (at : Place) (x : Ty × List ℕ) (s : Token) (xs zs : Tokens) (t : Stmt) → (IsSign sign.ASSIGN s → ⊥) → Valued at x (s ∷ xs) t zs → ⊥
valued_never at x s xs zs t other (valued h r) = other h

pub zero_shut : (zs : Tokens) → Shut sign.SEMICOLON Expression (a_number ∷ a_sign sign.SEMICOLON ∷ zs) zero_expr zs
zero_shut zs = (zero_expr, a_sign sign.SEMICOLON ∷ zs, expression_number (a_sign sign.SEMICOLON ∷ zs), (refl, refl, refl))

pub zero_small : (at : Place) (x : Ty × List ℕ) → deepest (stmt_at at (made.Local x.0 x.1 (Some zero_expr))) ≤ 200
zero_small at x = let d = deepest_local at x.0 x.1 (Some zero_expr) in let n : depth zero_expr ≡ 1 = depth_number nowhere 0 false in omega (arith, d, n)

none_small : (at : Place) (t : Ty) (n : List ℕ) → deepest (stmt_at at (made.Local t n None)) ≤ 200
none_small at t n = let d = deepest_local at t n None in omega (arith, d)

module _ (at : Place) (x : Ty × List ℕ) where
  valued_same : (s : Token) → IsSign sign.ASSIGN s → Same (s ∷ []) (λ v. stmt_at at (made.Local x.0 x.1 (Some v))) (Shut sign.SEMICOLON Expression) (Valued at x) anything (λ v. depth v ≤ 200) Shallow
  valued_same s h = record {
    into = λ ys zs v r. valued h r;
    from = λ ys zs t r e. valued_from at x s ys zs t r;
    up = λ v p. let d = deepest_local at x.0 x.1 (Some v) in omega (arith, d, p);
    down = λ v p. let d = deepest_local at x.0 x.1 (Some v) in omega (arith, d, p);
  }

  -- no `=` stands there
  pub valued_wrong : (tokens : Tokens) (e : ParseFault) → Lacks sign.ASSIGN tokens e → Fails (Valued at x) (λ _. anything) anything Shallow tokens e
  valued_wrong tokens e l =
      subst (λ (y : Tokens). Fails (Valued at x) (λ _. anything) anything Shallow y e) (sym l.split)
      (fails_at (Valued at x) anything Shallow [] l.first l.rest e l.refused
      (λ zs e'. (a_sign sign.ASSIGN ∷ a_number ∷ a_sign sign.SEMICOLON ∷ [], stmt_at at (made.Local x.0 x.1 (Some zero_expr)), valued refl (zero_shut zs), e', zero_small at x))
      (λ more zs t r e' q. valued_never at x l.first more zs t l.other r))

  -- the value fails
  pub valued_fails : (tokens ys : Tokens) (e : ParseFault) → Takes sign.ASSIGN tokens ys → Fails (Shut sign.SEMICOLON Expression) (λ _. anything) anything (λ v. depth v ≤ 200) ys e → Fails (Valued at x) (λ _. anything) anything Shallow tokens e
  valued_fails tokens ys e l f =
      subst (λ (y : Tokens). Fails (Valued at x) (λ _. anything) anything Shallow y e) (sym l.split)
      (fails_image (image_of (valued_same l.first l.sign_is)) anything ys e f)

  -- the value
  pub valued_gets : (tokens ys : Tokens) (v : Expr) (t : Stmt) (zs : Bor Tokens) → Takes sign.ASSIGN tokens ys → Gets (Shut sign.SEMICOLON Expression) anything (λ v. depth v ≤ 200) ys (Ok (v, zs)) → t ≡ stmt_at at (made.Local x.0 x.1 (Some v)) →
      Gets (Valued at x) anything Shallow tokens (Ok (t, zs))
  valued_gets tokens ys v t zs l g same =
      let whole : Found (Valued at x) (λ _. anything) (l.first ∷ ys) (stmt_at at (made.Local x.0 x.1 (Some v))) zs.now = found_image (image_of (valued_same l.first l.sign_is)) g.0 in
      let d = deepest_local at x.0 x.1 (Some v) in
      let deep : deepest t ≡ deepest (stmt_at at (made.Local x.0 x.1 (Some v))) = ap deepest same in
      (subst (λ (y : Tokens). Found (Valued at x) (λ _. anything) y t zs.now) (sym l.split) (subst (λ (u : Stmt). Found (Valued at x) (λ _. anything) (l.first ∷ ys) u zs.now) (sym same) whole), omega (arith, d, deep, g.1))

  -- ---- a value or none

  valued_solid : (xs : Tokens) (t : Stmt) → Valued at x xs t xs → ⊥
  valued_solid xs t (valued {xs = ys} h r) = let d = sealed_shorter sign.SEMICOLON r.0 _ r.1 _ r.3 in let d' = shorter ys r.1 r.0 r.2 in absurd (omega (arith, d, d')) where
    shorter : (ys zs : Tokens) (v : Expr) → Expression ys v zs → length zs < length ys
    shorter ys zs v e = expression_shorter e

  declares_from : (s : Token) (xs zs : Tokens) (t : Stmt) → (IsSign sign.SEMICOLON s → ⊥) → Declares at x (s ∷ xs) t zs → Valued at x (s ∷ xs) t zs
  declares_from s xs zs t other (no_value h) = absurd (other h)
  declares_from s xs zs t other (some_value r) = r

  declares_choice : (s : Token) → (IsSign sign.SEMICOLON s → ⊥) → Choice s (Valued at x) (Declares at x) (λ _. anything)
  declares_choice s other = record {
    into = λ xs zs t r. some_value r;
    from = λ xs zs t r e. declares_from s xs zs t other r;
    solid = valued_solid;
  }

  declares_some : (s : Token) (xs : Tokens) (r : Result (Stmt × Bor Tokens) ParseFault) → (IsSign sign.SEMICOLON s → ⊥) → Gets (Valued at x) anything Shallow (s ∷ xs) r → Gets (Declares at x) anything Shallow (s ∷ xs) r
  declares_some s xs (Ok u) other g = (found_choice (declares_choice s other) g.0, g.1)
  declares_some s xs (Err e) other g = fails_choice (declares_choice s other) anything Shallow xs e g

  pub declares_value : (s : Token) (xs tokens : Tokens) (r : Result (Stmt × Bor Tokens) ParseFault) → tokens ≡ s ∷ xs → (IsSign sign.SEMICOLON s → ⊥) → Gets (Valued at x) anything Shallow tokens r → Gets (Declares at x) anything Shallow tokens r
  declares_value s xs tokens r split other g =
      subst (λ (y : Tokens). Gets (Declares at x) anything Shallow y r) (sym split) (declares_some s xs r other (subst (λ (y : Tokens). Gets (Valued at x) anything Shallow y r) split g))

  none_only : (s : Token) (ys zs : Tokens) (t : Stmt) → IsSign sign.SEMICOLON s → Declares at x (s ∷ ys) t zs → (t ≡ stmt_at at (made.Local x.0 x.1 None)) × (zs ≡ ys)
  none_only s ys zs t h (no_value h') = (refl, refl)
  none_only s ys zs t h (some_value (valued h' r)) = let g : sign.ASSIGN ≡ sign.SEMICOLON = cc in cc

  pub declares_none : (s : Token) (xs tokens : Tokens) (t : Stmt) (zs : Bor Tokens) → tokens ≡ s ∷ xs → IsSign sign.SEMICOLON s → zs.now ≡ xs → t ≡ stmt_at at (made.Local x.0 x.1 None) → Gets (Declares at x) anything Shallow tokens (Ok (t, zs))
  declares_none s xs tokens t zs split h rest same =
      let f : Found (Declares at x) (λ _. anything) (s ∷ zs.now) (stmt_at at (made.Local x.0 x.1 None)) zs.now = record {
        front = s ∷ [];
        split = refl;
        reads = λ ys g. no_value h;
        only = λ ys zs' t' g r e. none_only s ys zs' t' h r;
      } in
      let d = none_small at x.0 x.1 in
      let deep : deepest t ≡ deepest (stmt_at at (made.Local x.0 x.1 None)) = ap deepest same in
      (subst (λ (y : Tokens). Found (Declares at x) (λ _. anything) y t zs.now) (ap (λ (y : Tokens). s ∷ y) rest ∙ sym split) (subst (λ (u : Stmt). Found (Declares at x) (λ _. anything) (s ∷ zs.now) u zs.now) (sym same) f), omega (arith, d, deep))

-- ---- a line

declares_starts : (at : Place) (x : Ty × List ℕ) (ys zs : Tokens) (t : Stmt) → Declares at x ys t zs → Ends anything ys
declares_starts at x ys zs t (no_value h) = refl
declares_starts at x ys zs t (some_value (valued h r)) = refl

line_joint : Joint (Placed Head) (λ x. Declares x.0 x.1) anything anything (λ x. Any x.1) Shallow
line_joint = record {
  starts = λ a ys zs t r e. declares_starts a.0 a.1 ys zs t r;
  down = λ a ys zs t r q. tt;
  close = a_sign sign.SEMICOLON ∷ [];
  follows = λ zs e. refl;
  closed = λ a zs e. (stmt_at a.0 (made.Local a.1.0 a.1.1 None), no_value refl, λ p. none_small a.0 a.1.0 a.1.1);
}

pub type_solid : (t : Ty) (xs ys : Tokens) → OneType xs t ys → length ys < length xs
type_solid t xs ys (element_type i) = omega arith
type_solid t xs ys (array_type elem i o p) = omega arith

named_less : (t : Ty) (x : Ty × List ℕ) (ys zs : Tokens) → NameOf t ys x zs → length zs < length ys
named_less t x ys zs (name_of n) = omega arith

pub head_solid : (xs : Tokens) (x : Ty × List ℕ) → Head xs x xs → ⊥
head_solid xs x r = let a = type_solid r.0 xs r.1 r.2 in let b = named_less r.0 x r.1 xs r.3 in absurd (omega (arith, a, b))

pub line_fails : (xs : Tokens) (e : ParseFault) → Fails Head (λ _. anything) anything Any xs e → Fails LocalLine (λ _. anything) anything Shallow xs e
line_fails xs e f = gets_fault line_joint xs e (fails_placed Head anything Any xs e f)

pub line_gets : (s : Token) (rest xs ys : Tokens) (x : Ty × List ℕ) (r : Result (Stmt × Bor Tokens) ParseFault) → xs ≡ s ∷ rest → Found Head (λ _. anything) xs x ys → Gets (Declares s.place x) anything Shallow ys r → Gets LocalLine anything Shallow xs r
line_gets s rest xs ys x r split f g =
    let place : s.place ≡ place_of xs = sym (ap place_of split) in
    gets_then line_joint xs ys (place_of xs, x) r (found_placed head_solid f) (subst (λ (p : Place). Gets (Declares p x) anything Shallow ys r) place g)

-- ---- a line or a change

line_local : (xs zs : Tokens) (t : Stmt) → LocalLine xs t zs → begins_local xs ≡ true
line_local xs zs t r = head_local xs r.1 r.0.1 r.2.1

line_from : (xs zs : Tokens) (t : Stmt) → Simple xs t zs → begins_local xs ≡ true → LocalLine xs t zs
line_from xs zs t (inl r) d = r
line_from xs zs t (inr r) d = let e = shut_no_local xs zs t r in cc

change_from : (xs zs : Tokens) (t : Stmt) → Simple xs t zs → begins_local xs ≡ false → Shut sign.SEMICOLON Change xs t zs
change_from xs zs t (inl r) d = let e = line_local xs zs t r in cc
change_from xs zs t (inr r) d = r

-- what goes on with the tokens
abbrev pub GoesOn : Reads Stmt → Tokens → Token → Type 0
GoesOn R front next = (m : Tokens) × (zs : Tokens) × (t : Stmt) × R (front ++ next ∷ m) t zs × Ends anything zs × Shallow t

line_on : (front : Tokens) (next : Token) → Untold front next → GoesOn LocalLine front next
line_on front next (inl u) =
    let w = name_token next u.1 in
    let t : Stmt = stmt_at next.place (made.Local (ty.Class w.0) (97 ∷ []) None) in
    let zs : Tokens = a_sign sign.SEMICOLON ∷ [] in
    let r : LocalLine (next ∷ a_name ∷ a_sign sign.SEMICOLON ∷ zs) t zs = ((next.place, (ty.Class w.0, 97 ∷ [])), a_sign sign.SEMICOLON ∷ zs, (refl, (ty.Class w.0, a_name ∷ a_sign sign.SEMICOLON ∷ zs, element_type w.1, name_of a_name_is)), no_value refl) in
    (a_name ∷ a_sign sign.SEMICOLON ∷ zs, zs, t, subst (λ (f : Tokens). LocalLine (f ++ next ∷ a_name ∷ a_sign sign.SEMICOLON ∷ zs) t zs) (sym u.0) r, refl, none_small next.place (ty.Class w.0) (97 ∷ []))
line_on front next (inr u) =
    let a : Token = u.0 in
    let w = name_token a u.2 in
    let t : Stmt = stmt_at a.place (made.Local (ty.ClassArray w.0) (97 ∷ []) None) in
    let zs : Tokens = a_sign sign.SEMICOLON ∷ [] in
    let tail : Tokens = a_name ∷ a_sign sign.SEMICOLON ∷ zs in
    let r : LocalLine (a ∷ next ∷ a_sign sign.CLOSE_BRACKET ∷ tail) t zs = ((a.place, (ty.ClassArray w.0, 97 ∷ [])), a_sign sign.SEMICOLON ∷ zs, (refl, (ty.ClassArray w.0, tail, array_type (ty.Class w.0) w.1 u.3 refl, name_of a_name_is)), no_value refl) in
    (a_sign sign.CLOSE_BRACKET ∷ tail, zs, t, subst (λ (f : Tokens). LocalLine (f ++ next ∷ a_sign sign.CLOSE_BRACKET ∷ tail) t zs) (sym u.1) r, refl, none_small a.place (ty.ClassArray w.0) (97 ∷ []))

pub change_on : (front : Tokens) (next : Token) → Untold front next → GoesOn (Shut sign.SEMICOLON Change) front next
change_on front next (inl u) =
    let w = name_token next u.1 in
    let left : Expr = named_at next.place None w.0 in
    let t : Stmt = stmt_at next.place (made.Run left) in
    let zs : Tokens = a_sign sign.SEMICOLON ∷ [] in
    let r : Shut sign.SEMICOLON Change (next ∷ a_sign sign.SEMICOLON ∷ zs) t zs = (t, a_sign sign.SEMICOLON ∷ zs, run (postfix (name (uncalled w.1)) steps_end), (refl, refl, refl)) in
    let d = deepest_run next.place left in
    let n = depth_var next.place w.0 in
    (a_sign sign.SEMICOLON ∷ zs, zs, t, subst (λ (f : Tokens). Shut sign.SEMICOLON Change (f ++ next ∷ a_sign sign.SEMICOLON ∷ zs) t zs) (sym u.0) r, refl, omega (arith, d, n))
change_on front next (inr u) =
    let a : Token = u.0 in
    let w = name_token a u.2 in
    let left : Expr = index_at a.place (named_at a.place None w.0) zero_expr in
    let t : Stmt = stmt_at a.place (made.Run left) in
    let zs : Tokens = a_sign sign.SEMICOLON ∷ [] in
    let tail : Tokens = a_number ∷ a_sign sign.CLOSE_BRACKET ∷ a_sign sign.SEMICOLON ∷ zs in
    let r : Shut sign.SEMICOLON Change (a ∷ next ∷ tail) t zs =
    (t, a_sign sign.SEMICOLON ∷ zs, run (postfix (name (uncalled w.1)) (element u.3 (bracketed (expression_number (a_sign sign.CLOSE_BRACKET ∷ a_sign sign.SEMICOLON ∷ zs)) refl) steps_end)), (refl, refl, refl)) in
    let d = deepest_run a.place left in
    let n = depth_var a.place w.0 in
    let z : depth zero_expr ≡ 1 = depth_number nowhere 0 false in
    let i = depth_index a.place (named_at a.place None w.0) zero_expr in
    (tail, zs, t, subst (λ (f : Tokens). Shut sign.SEMICOLON Change (f ++ next ∷ tail) t zs) (sym u.1) r, refl, omega (arith, d, n, z, i))

pub open_line : (R : Reads Stmt) (b : Bool) → ((front : Tokens) (next : Token) → Untold front next → GoesOn R front next) → (front : Tokens) (next : Token) (more more' : Tokens) →
    begins_local (front ++ next ∷ more) ≡ b → (begins_local (front ++ next ∷ more') ≡ b → ⊥) → GoesOn R front next
open_line R b on front next more more' same differs = elim (depends front next more more') [
  | inl e ↦ absurd (differs (sym e ∙ same))
  | inr u ↦ on front next u
]

line_branch : Branch begins_local true LocalLine Simple anything Shallow
line_branch = record {
  into = λ xs zs t r. inl r;
  from = λ xs zs t r e d. line_from xs zs t r d;
  decided = line_local;
  open_to = open_line LocalLine true line_on;
}

change_branch : Branch begins_local false (Shut sign.SEMICOLON Change) Simple anything Shallow
change_branch = record {
  into = λ xs zs t r. inr r;
  from = λ xs zs t r e d. change_from xs zs t r d;
  decided = λ xs zs t r. shut_no_local xs zs t r;
  open_to = open_line (Shut sign.SEMICOLON Change) false change_on;
}

-- a local variable is a simple statement
pub simple_line : (xs : Tokens) (r : Result (Stmt × Bor Tokens) ParseFault) → begins_local xs ≡ true → Gets LocalLine anything Shallow xs r → Gets Simple anything Shallow xs r
simple_line xs (Ok u) d g = (found_branch line_branch g.0, g.1)
simple_line xs (Err e) d g = fails_branch line_branch xs e d g

-- a change and `;` is one
pub simple_change : (xs : Tokens) (r : Result (Stmt × Bor Tokens) ParseFault) → begins_local xs ≡ false → Gets (Shut sign.SEMICOLON Change) anything Shallow xs r → Gets Simple anything Shallow xs r
simple_change xs (Ok u) d g = (found_branch change_branch g.0, g.1)
simple_change xs (Err e) d g = fails_branch change_branch xs e d g
