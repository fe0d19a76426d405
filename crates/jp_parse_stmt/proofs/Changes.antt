-- Changes.
use Rattle.std.proofs.Common.{◌≡◌, ℕ, ◌≤◌, max, Bool, true, false, cond, ◌==◌, ◌||◌, IsTrue, [], ◌∷◌, Option, Some, None, Result, Ok, Err, refl, sym, ap, ◌∙◌, subst, inl, inr, rules, arith}
use Rattle.std.specs.Borrow.{Bor}
use Rattle.std.proofs.lemmas.Bool.{eqb-true}
use Rattle.jp_ast.specs.declared.token.Place.{Place}
use Rattle.jp_ast.specs.declared.token.Token.{Token}
use Rattle.jp_ast.specs.declared.expr.Expr.{Expr}
use Rattle.jp_ast.specs.declared.stmt.Stmt.{Stmt, the_lemmas}
use Rattle.jp_ast.specs.declared.stmt.StmtKind.TheVariants as made
use Rattle.jp_ast.specs.declared.sign.TheConstants as sign
use Rattle.jp_grammar.specs.declared.kind.Kind.{Kind}
use Rattle.jp_grammar.specs.declared.kind.Kind.TheVariants as k
use Rattle.jp_grammar.specs.declared.fault.ParseFault.{ParseFault}
use Rattle.jp_grammar.specs.Kinds.{IsSign, Tokens, place_of, kind_of_token}
use Rattle.jp_grammar.specs.Depth.{depth, deepest}
use Rattle.jp_grammar.specs.Expressions.{Expression, Postfix}
use Rattle.jp_grammar.specs.Statements.{Change, assign, bump, run, is_assignment, IsBump}
use Rattle.jp_grammar.specs.Behind.{ends_full, ends_level, ends_kind, stands_behind}
use Rattle.jp_grammar.specs.Reading.{Reads, Ends, Follows, Found, Fails}
use Rattle.jp_grammar.proofs.Sequence.{Then, found_image, fails_image}
use Rattle.jp_grammar.proofs.Outcome.{Joint, Same, image_of, Placed, found_nothing, found_placed, fails_placed}
use Rattle.jp_grammar.proofs.Excluding.{or_cases, among_misses, behind_level}
use Rattle.jp_grammar.proofs.Facts.{postfix_shorter}
use Rattle.jp_parse_stmt.specs.Behind.{ends_change, change_kind}
use Rattle.jp_parse_stmt.specs.Parts.{Gets, Shallow, Changed, assigned, bumped, ran, Assigned, of_right, stmt_at, assignment_of, bump_of}
use Rattle.jp_parse_stmt.proofs.Steps.{found_fewer, fails_fewer, gets_then, gets_fault, gets_same}

-- ---- depths

pub deepest_assign : (p : Place) (l r : Expr) (b : ℕ) → deepest (stmt_at p (made.Assign l b r)) ≡ max (depth l) (depth r)
unfolding deepest
deepest_assign p l r b = search (rules, the_lemmas)

pub deepest_bump : (p : Place) (l : Expr) (up : Bool) → deepest (stmt_at p (made.Bump l up)) ≡ depth l
unfolding deepest
deepest_bump p l up = search (rules, the_lemmas)

pub deepest_run : (p : Place) (l : Expr) → deepest (stmt_at p (made.Run l)) ≡ depth l
unfolding deepest
deepest_run p l = search (rules, the_lemmas)

-- ---- what may stand behind

change_full_kind : (kind : Kind) → IsTrue (change_kind kind) → IsTrue (stands_behind kind)
change_full_kind (k.Sign b) h = elim (or_cases (b == sign.SEMICOLON) (b == sign.CLOSE_PAREN || false) h) [
  | inl e ↦ let same : b ≡ sign.SEMICOLON = eqb-true b sign.SEMICOLON e in rw same refl
  | inr e ↦ elim (or_cases (b == sign.CLOSE_PAREN) false e) [
    | inl e' ↦ let same : b ≡ sign.CLOSE_PAREN = eqb-true b sign.CLOSE_PAREN e' in rw same refl
    | inr e' ↦ cc
  ]
]
change_full_kind _ h = cc

-- what may stand behind a change may stand behind an expression
pub change_full : (zs : Tokens) → Ends ends_change zs → Ends ends_full zs
change_full [] e = e
change_full (s ∷ zs) e = change_full_kind (kind_of_token s) e

pub change_level : (zs : Tokens) → Ends ends_change zs → Ends (ends_level 0) zs
change_level [] e = e
change_level (s ∷ zs) e = behind_level 0 (kind_of_token s) (change_full_kind (kind_of_token s) e)

assignment_behind : (b : ℕ) → IsTrue (is_assignment b) → IsTrue (stands_behind (k.Sign b))
assignment_behind b h = elim (or_cases (b == sign.ASSIGN || b == sign.ADD_ASSIGN) (b == sign.SUBTRACT_ASSIGN) h) [
  | inl e ↦ elim (or_cases (b == sign.ASSIGN) (b == sign.ADD_ASSIGN) e) [
    | inl e' ↦ let same : b ≡ sign.ASSIGN = eqb-true b sign.ASSIGN e' in rw same refl
    | inr e' ↦ let same : b ≡ sign.ADD_ASSIGN = eqb-true b sign.ADD_ASSIGN e' in rw same refl
  ]
  | inr e ↦ let same : b ≡ sign.SUBTRACT_ASSIGN = eqb-true b sign.SUBTRACT_ASSIGN e in rw same refl
]

-- an assignment's sign stands behind no change
assignment_inside : (s : Token) (b : ℕ) → IsSign b s → IsTrue (is_assignment b) → IsTrue (ends_change s) → ⊥
assignment_inside s b h i e =
    let e' : IsTrue (change_kind (k.Sign b)) = subst (λ (x : Kind). IsTrue (change_kind x)) h e in
    among_misses is_assignment b (sign.SEMICOLON ∷ sign.CLOSE_PAREN ∷ []) refl e' i

bump_inside : (up : Bool) (s : Token) → IsBump up s → IsTrue (ends_change s) → ⊥
bump_inside true s h e = let e' : IsTrue (change_kind (k.Sign sign.INCREMENT)) = subst (λ (x : Kind). IsTrue (change_kind x)) h e in cc
bump_inside false s h e = let e' : IsTrue (change_kind (k.Sign sign.DECREMENT)) = subst (λ (x : Kind). IsTrue (change_kind x)) h e in cc

-- `++` and `--` assign nothing
bump_assigns : (up : Bool) (s : Token) (b : ℕ) → IsBump up s → IsSign b s → IsTrue (is_assignment b) → ⊥
bump_assigns true s b h i a = let same : b ≡ sign.INCREMENT = cc in let g : IsTrue (is_assignment sign.INCREMENT) = subst (λ (x : ℕ). IsTrue (is_assignment x)) same a in cc
bump_assigns false s b h i a = let same : b ≡ sign.DECREMENT = cc in let g : IsTrue (is_assignment sign.DECREMENT) = subst (λ (x : ℕ). IsTrue (is_assignment x)) same a in cc

bump_is : (up : Bool) (s : Token) → IsBump up s → bump_of (kind_of_token s) ≡ Some up
bump_is true s h = ap bump_of h
bump_is false s h = ap bump_of h

bump_same : (up up' : Bool) (s : Token) → IsBump up s → IsBump up' s → up' ≡ up
bump_same up up' s h i = let e : Some up' ≡ Some up = sym (bump_is up' s i) ∙ bump_is up s h in cc

assignment_is : (b : ℕ) (s : Token) → IsSign b s → IsTrue (is_assignment b) → assignment_of (kind_of_token s) ≡ Some b
assignment_is b s h i = ap assignment_of h ∙ rw i refl

-- ---- the right side of an assignment

right_from : (at : Place) (left : Expr) (b : ℕ) (xs zs : Tokens) (t : Stmt) → Assigned at left b xs t zs → (r : Expr) × (t ≡ stmt_at at (made.Assign left b r)) × Expression xs r zs
right_from at left b xs zs t (of_right {right = r} e) = (r, refl, e)

module _ (at : Place) (left : Expr) (b : ℕ) (small : depth left ≤ 200) where
  right_same : Same [] (λ r. stmt_at at (made.Assign left b r)) Expression (Assigned at left b) ends_change (λ r. depth r ≤ 200) Shallow
  right_same = record {
    into = λ xs zs r e. of_right e;
    from = λ xs zs t r e. right_from at left b xs zs t r;
    up = λ r p. let d = deepest_assign at left r b in omega (arith, d);
    down = λ r p. let d = deepest_assign at left r b in omega (arith, d);
  }

  pub right_fails : (xs : Tokens) (e : ParseFault) → Fails Expression (λ _. ends_full) ends_full (λ r. depth r ≤ 200) xs e → Fails (Assigned at left b) (λ _. ends_change) ends_change Shallow xs e
  right_fails xs e f = fails_image (image_of right_same) ends_change xs e (fails_fewer change_full e xs f)

  pub right_gets : (t : Stmt) (xs : Tokens) (r : Expr) (zs : Bor Tokens) → Found Expression (λ _. ends_full) xs r zs.now → depth r ≤ 200 → t ≡ stmt_at at (made.Assign left b r) → Gets (Assigned at left b) ends_change Shallow xs (Ok (t, zs))
  right_gets t xs r zs f p same =
      let d = deepest_assign at left r b in
      let deep : deepest t ≡ deepest (stmt_at at (made.Assign left b r)) = ap deepest same in
      (subst (λ (u : Stmt). Found (Assigned at left b) (λ _. ends_change) xs u zs.now) (sym same) (found_image (image_of right_same) (found_fewer change_full f)), omega (arith, d, deep, p, small))

-- ---- what stands behind the left side

module _ (at : Place) (left : Expr) (s : Token) (xs tokens : Tokens) (split : tokens ≡ s ∷ xs) where
  assigned_from : (b : ℕ) (ys zs : Tokens) (t : Stmt) → IsSign b s → IsTrue (is_assignment b) → Changed at left (s ∷ ys) t zs → Ends ends_change zs → Assigned at left b ys t zs
  assigned_from b ys zs t h i (assigned {right = r} {b = b'} h' i' r') e = let same : b' ≡ b = cc in subst (λ (x : ℕ). Assigned at left b ys (stmt_at at (made.Assign left x r)) zs) (sym same) (of_right r')
  assigned_from b ys zs t h i (bumped {up = up} h') e = absurd (bump_assigns up s b h' h i)
  assigned_from b ys zs t h i ran e = absurd (assignment_inside s b h i e)

  assigned_into : (b : ℕ) (ys zs : Tokens) (t : Stmt) → IsSign b s → IsTrue (is_assignment b) → Assigned at left b ys t zs → Changed at left (s ∷ ys) t zs
  assigned_into b ys zs t h i (of_right r) = assigned h i r

  assigned_same : (b : ℕ) → IsSign b s → IsTrue (is_assignment b) → Same (s ∷ []) (λ t. t) (Assigned at left b) (Changed at left) ends_change Shallow Shallow
  assigned_same b h i = record {
    into = λ ys zs t r. assigned_into b ys zs t h i r;
    from = λ ys zs t r e. (t, refl, assigned_from b ys zs t h i r e);
    up = λ t p. p;
    down = λ t p. p;
  }

  -- an assignment
  pub assigned_gets : (b : ℕ) (r : Result (Stmt × Bor Tokens) ParseFault) → IsSign b s → IsTrue (is_assignment b) → Gets (Assigned at left b) ends_change Shallow xs r → Gets (Changed at left) ends_change Shallow tokens r
  assigned_gets b r h i g = subst (λ (x : Tokens). Gets (Changed at left) ends_change Shallow x r) (sym split) (gets_same (assigned_same b h i) xs r g)

  bumped_only : (up : Bool) (ys zs : Tokens) (t : Stmt) → IsBump up s → Changed at left (s ∷ ys) t zs → Ends ends_change zs → (t ≡ stmt_at at (made.Bump left up)) × (zs ≡ ys)
  bumped_only up ys zs t h (assigned {b = b} h' i' r) e = absurd (bump_assigns up s b h h' i')
  bumped_only up ys zs t h (bumped {up = up'} h') e = (ap (λ (x : Bool). stmt_at at (made.Bump left x)) (bump_same up up' s h h'), refl)
  bumped_only up ys zs t h ran e = absurd (bump_inside up s h e)

  -- `++` or `--`
  pub bumped_gets : (up : Bool) (t : Stmt) (zs : Bor Tokens) → IsBump up s → depth left ≤ 200 → zs.now ≡ xs → t ≡ stmt_at at (made.Bump left up) → Gets (Changed at left) ends_change Shallow tokens (Ok (t, zs))
  bumped_gets up t zs h small rest same =
      let d = deepest_bump at left up in
      let deep : deepest t ≡ deepest (stmt_at at (made.Bump left up)) = ap deepest same in
      let f : Found (Changed at left) (λ _. ends_change) (s ∷ zs.now) (stmt_at at (made.Bump left up)) zs.now = record {
        front = s ∷ [];
        split = refl;
        reads = λ ys g. bumped h;
        only = λ ys zs' t' g r e. bumped_only up ys zs' t' h r e;
      } in
      (subst (λ (x : Tokens). Found (Changed at left) (λ _. ends_change) x t zs.now) (ap (λ (x : Tokens). s ∷ x) rest ∙ sym split) (subst (λ (u : Stmt). Found (Changed at left) (λ _. ends_change) (s ∷ zs.now) u zs.now) (sym same) f), omega (arith, d, deep, small))

  no_some : {A : Type 0} (o : Option A) (a : A) → o ≡ None → o ≡ Some a → ⊥
  no_some o a h i = cc

  ran_only : (ys zs : Tokens) (t : Stmt) → assignment_of (kind_of_token s) ≡ None → bump_of (kind_of_token s) ≡ None → Follows ends_change (s ∷ xs) ys → Changed at left ys t zs → (t ≡ stmt_at at (made.Run left)) × (zs ≡ ys)
  ran_only ys zs t a b f ran = (refl, refl)
  ran_only ys zs t a b (inl e) (assigned {b = n} {s = s'} h i r) = absurd (assignment_inside s' n h i e)
  ran_only ys zs t a b (inr same) (assigned {b = n} {s = s'} h i r) = absurd (no_some (assignment_of (kind_of_token s)) n a (assignment_is n s (subst (λ (x : Token). IsSign n x) same h) i))
  ran_only ys zs t a b (inl e) (bumped {up = up} {s = s'} h) = absurd (bump_inside up s' h e)
  ran_only ys zs t a b (inr same) (bumped {up = up} {s = s'} h) = absurd (no_some (bump_of (kind_of_token s)) up b (bump_is up s (subst (λ (x : Token). IsBump up x) same h)))

  -- the left side alone
  pub ran_gets : (t : Stmt) (zs : Bor Tokens) → assignment_of (kind_of_token s) ≡ None → bump_of (kind_of_token s) ≡ None → depth left ≤ 200 → zs.now ≡ tokens → t ≡ stmt_at at (made.Run left) → Gets (Changed at left) ends_change Shallow tokens (Ok (t, zs))
  ran_gets t zs a b small rest same =
      let d = deepest_run at left in
      let deep : deepest t ≡ deepest (stmt_at at (made.Run left)) = ap deepest same in
      let f : Found (Changed at left) (λ _. ends_change) (s ∷ xs) (stmt_at at (made.Run left)) (s ∷ xs) =
      found_nothing (Changed at left) ends_change (s ∷ xs) (stmt_at at (made.Run left)) (λ ys. ran) (λ ys zs' u g r e. ran_only ys zs' u a b g r) in
      let g : Found (Changed at left) (λ _. ends_change) tokens (stmt_at at (made.Run left)) tokens = subst (λ (x : Tokens). Found (Changed at left) (λ _. ends_change) x (stmt_at at (made.Run left)) x) (sym split) f in
      (subst (λ (y : Tokens). Found (Changed at left) (λ _. ends_change) tokens t y) (sym rest) (subst (λ (u : Stmt). Found (Changed at left) (λ _. ends_change) tokens u tokens) (sym same) g), omega (arith, d, deep, small))

-- ---- a left side, and what stands behind it

changed_into : (xs ys zs : Tokens) (left : Expr) (t : Stmt) (at : Place) → at ≡ place_of xs → Postfix xs left ys → Changed at left ys t zs → Change xs t zs
changed_into xs ys zs left t at place p (assigned {right = r} {b = b} h i e) = subst (λ (x : Place). Change xs (stmt_at x (made.Assign left b r)) zs) (sym place) (assign p h i e)
changed_into xs ys zs left t at place p (bumped {up = up} h) = subst (λ (x : Place). Change xs (stmt_at x (made.Bump left up)) zs) (sym place) (bump p h)
changed_into xs ys zs left t at place p ran = subst (λ (x : Place). Change xs (stmt_at x (made.Run left)) zs) (sym place) (run p)

abbrev pub Whole : Reads Stmt
Whole = Then (Placed Postfix) (λ x. Changed x.0 x.1)

pub changed_from : (xs zs : Tokens) (t : Stmt) → Change xs t zs → Whole xs t zs
changed_from xs zs t (assign {left = left} p h i e) = ((place_of xs, left), _, (refl, p), assigned h i e)
changed_from xs zs t (bump {left = left} p h) = ((place_of xs, left), _, (refl, p), bumped h)
changed_from xs zs t (run {e = left} p) = ((place_of xs, left), _, (refl, p), ran)

change_same : Same [] (λ t. t) Whole Change ends_change Shallow Shallow
change_same = record {
  into = λ xs zs t r. changed_into xs r.1 zs r.0.1 t r.0.0 r.2.0 r.2.1 r.3;
  from = λ xs zs t r e. (t, refl, changed_from xs zs t r);
  up = λ t p. p;
  down = λ t p. p;
}

bump_starts : (up : Bool) (s : Token) → IsBump up s → IsTrue (ends_level 0 s)
bump_starts true s h = ap (ends_kind 0) h
bump_starts false s h = ap (ends_kind 0) h

pub changed_starts : (at : Place) (left : Expr) (ys zs : Tokens) (t : Stmt) → Changed at left ys t zs → Ends ends_change zs → Ends (ends_level 0) ys
changed_starts at left ys zs t (assigned {b = b} {s = s} h i r) e = ap (ends_kind 0) h ∙ behind_level 0 (k.Sign b) (assignment_behind b i)
changed_starts at left ys zs t (bumped {up = up} {s = s} h) e = bump_starts up s h
changed_starts at left ys zs t ran e = change_level zs e

changed_depth : (at : Place) (left : Expr) (ys zs : Tokens) (t : Stmt) → Changed at left ys t zs → depth left ≤ deepest t
changed_depth at left ys zs t (assigned {right = r} {b = b} h i e) = let d = deepest_assign at left r b in omega (arith, d)
changed_depth at left ys zs t (bumped {up = up} h) = let d = deepest_bump at left up in omega (arith, d)
changed_depth at left ys zs t ran = let d = deepest_run at left in omega (arith, d)

change_joint : Joint (Placed Postfix) (λ x. Changed x.0 x.1) (ends_level 0) ends_change (λ x. depth x.1 ≤ 200) Shallow
change_joint = record {
  starts = λ a ys zs t r e. changed_starts a.0 a.1 ys zs t r e;
  down = λ a ys zs t r q. let d = changed_depth a.0 a.1 ys zs t r in omega (arith, d, q);
  close = [];
  follows = λ zs e. change_level zs e;
  closed = λ a zs e. (stmt_at a.0 (made.Run a.1), ran, λ p. let d = deepest_run a.0 a.1 in omega (arith, d, p));
}

postfix_solid : (xs : Tokens) (t : Expr) → Postfix xs t xs → ⊥
postfix_solid xs t r = let h = postfix_shorter r in absurd (omega (arith, h))

-- the left side fails
pub change_fails : (xs : Tokens) (e : ParseFault) → Fails Postfix (λ _. ends_level 0) (ends_level 0) (λ t. depth t ≤ 200) xs e → Fails Change (λ _. ends_change) ends_change Shallow xs e
change_fails xs e f = gets_same change_same xs (Err e) (gets_fault change_joint xs e (fails_placed Postfix (ends_level 0) (λ t. depth t ≤ 200) xs e f))

-- what stands behind the left side
pub change_gets : (s : Token) (rest xs ys : Tokens) (left : Expr) (r : Result (Stmt × Bor Tokens) ParseFault) → xs ≡ s ∷ rest → Found Postfix (λ _. ends_level 0) xs left ys → Gets (Changed s.place left) ends_change Shallow ys r → Gets Change ends_change Shallow xs r
change_gets s rest xs ys left r split f g =
    let place : s.place ≡ place_of xs = sym (ap place_of split) in
    gets_same change_same xs r (gets_then change_joint xs ys (place_of xs, left) r (found_placed postfix_solid f) (subst (λ (p : Place). Gets (Changed p left) ends_change Shallow ys r) place g))

-- ---- tests of signs, and what they say

assignment_if : (n b : ℕ) (x : Bool) → is_assignment n ≡ x → cond x (Some n) None ≡ Some b → (k.Sign n ≡ k.Sign b) × IsTrue (is_assignment b)
assignment_if n b true e h = let same : n ≡ b = cc in (ap k.Sign same, subst (λ (y : ℕ). IsTrue (is_assignment y)) same e)
assignment_if n b false e h = cc

pub assignment_kind : (kind : Kind) (b : ℕ) → assignment_of kind ≡ Some b → (kind ≡ k.Sign b) × IsTrue (is_assignment b)
assignment_kind (k.Sign n) b h = assignment_if n b (is_assignment n) refl h
assignment_kind _ b h = cc

bump_if : (n : ℕ) (up x y : Bool) → (n == sign.INCREMENT) ≡ x → (n == sign.DECREMENT) ≡ y → cond x (Some true) (cond y (Some false) None) ≡ Some up → k.Sign n ≡ k.Sign (cond up sign.INCREMENT sign.DECREMENT)
bump_if n true true y e f h = ap k.Sign (eqb-true n sign.INCREMENT e)
bump_if n false true y e f h = cc
bump_if n true false true e f h = cc
bump_if n false false true e f h = ap k.Sign (eqb-true n sign.DECREMENT f)
bump_if n up false false e f h = cc

bump_kind : (kind : Kind) (up : Bool) → bump_of kind ≡ Some up → kind ≡ k.Sign (cond up sign.INCREMENT sign.DECREMENT)
bump_kind (k.Sign n) up h = bump_if n up (n == sign.INCREMENT) (n == sign.DECREMENT) refl refl h
bump_kind _ up h = cc

pub bump_sign : (s : Token) (up : Bool) → bump_of (kind_of_token s) ≡ Some up → IsBump up s
bump_sign s true h = bump_kind (kind_of_token s) true h
bump_sign s false h = bump_kind (kind_of_token s) false h

pub none_of : {A : Type 0} (o : Option A) → ((a : A) → o ≡ Some a → ⊥) → o ≡ None
none_of None h = refl
none_of (Some a) h = absurd (h a refl)
