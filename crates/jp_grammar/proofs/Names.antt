-- Names with their arguments, and arguments.
use Rattle.std.proofs.Common.{◌≡◌, ℕ, zero, suc, ◌+◌, ◌-◌, ◌<◌, ◌≤◌, max, Bool, true, false, ◌||◌, IsTrue, List, [], ◌∷◌, ◌++◌, length, Option, Some, None, Result, Ok, Err, refl, sym, ap, ◌∙◌, subst, inl, inr, ◌⊎◌, append_assoc, arith}
use Rattle.std.specs.Borrow.{Bor}
use Rattle.jp_ast.specs.declared.token.Place.{Place}
use Rattle.jp_ast.specs.declared.token.Token.{Token}
use Rattle.jp_ast.specs.declared.expr.Expr.{Expr}
use Rattle.jp_ast.specs.declared.sign.TheConstants as sign
use Rattle.jp_grammar.specs.declared.kind.Kind.TheVariants as k
use Rattle.jp_grammar.specs.declared.fault.ParseFault.{ParseFault}
use Rattle.jp_grammar.specs.declared.fault.ParseFault.TheVariants.{TooDeep}
use Rattle.jp_grammar.specs.Kinds.{IsSign, IsName, Tokens, kind_of_token}
use Rattle.jp_grammar.specs.Trees.{named_at, called_at}
use Rattle.jp_grammar.specs.Expressions.{Expression, Named, Args, MoreArgs, uncalled, called, no_args, some_args, last_arg, next_arg}
use Rattle.jp_grammar.specs.Reading.{Reads, Ends, Any, Never, Viable, SameHead, Follows, Found, Fails, FailsWithin, Gives, Refused}
use Rattle.jp_grammar.specs.Behind.{begins_expr, stands_behind, ends_full, primary_kind, ends_primary}
use Rattle.jp_grammar.specs.Depth.{depth, depth_of_all, depth_of_option}
use Rattle.jp_grammar.proofs.Sequence.{Then, found_image, fails_image}
use Rattle.jp_grammar.proofs.Choice.{Choice, found_choice, fails_choice}
use Rattle.jp_grammar.proofs.Outcome.{Joint, Same, image_of, gives_then, gives_same, fails_begun, fails_at, deep_at}
use Rattle.jp_grammar.proofs.Facts.{more_depth, expression_begins, expression_shorter, more_shorter}
use Rattle.jp_grammar.proofs.Depths.{depth_field, depth_call, depth_call_of, depth_var, depth_all_push, depth_positive}
use Rattle.jp_grammar.proofs.Samples.{a_name, a_name_is, a_sign}
use Rattle.jp_grammar.proofs.Begun.{expr_begun}

-- what a function answers that reads arguments
abbrev pub ReadAll : Type 0
ReadAll = Result (List Expr × ℕ × Bor Tokens) ParseFault

pub depth_named : (at : Place) (o : Option Expr) (word : List ℕ) → depth (named_at at o word) ≡ 1 + depth_of_option o
depth_named at None word = let d = depth_var at word in omega (arith, d)
depth_named at (Some l) word = depth_field at l word

pub depth_called : (at : Place) (o : Option Expr) (word : List ℕ) (ts : List Expr) → depth (called_at at o word ts) ≡ 1 + max (depth_of_option o) (depth_of_all ts)
depth_called at None word ts = let d = depth_call at word ts in omega (arith, d)
depth_called at (Some l) word ts = depth_call_of at l word ts

-- ---- a name, and its arguments

module _ (at : Place) (o : Option Expr) (most : ℕ) (c : Token) where
  named_never : (more zs : Tokens) (t : Expr) → (kind_of_token c ≡ k.Name → ⊥) → Named at o (c ∷ more) t zs → ⊥
  named_never more zs t other (uncalled n) = other n.1
  named_never more zs t other (called n h a) = other n.1

  -- no name stands there
  pub named_wrong : (xs : Tokens) (e : ParseFault) → (kind_of_token c ≡ k.Name → ⊥) → Refused c e → depth_of_option o + 1 ≤ most → FailsWithin (Named at o) depth ends_primary most (c ∷ xs) e
  named_wrong xs e other r room = fails_at (Named at o) ends_primary (λ t. depth t ≤ most) [] c xs e r
      (λ zs e'. (a_name ∷ [], named_at at o (97 ∷ []), uncalled a_name_is, e', let d = depth_named at o (97 ∷ []) in omega (arith, d)))
      (λ more zs t r' e' q. named_never more zs t other r')

  module _ (s : Token) (xs : Tokens) (word : List ℕ) (n : IsName word c) where
    uncalled_only : (ys zs : Tokens) (t : Expr) → (IsSign sign.OPEN_PAREN s → ⊥) → Follows ends_primary (s ∷ xs) ys → Named at o (c ∷ ys) t zs → (t ≡ named_at at o word) × (zs ≡ ys)
    uncalled_only ys zs t other f (uncalled {name = word'} n') = let same : word' ≡ word = cc in (ap (named_at at o) same, refl)
    uncalled_only ys zs t other (inl e) (called n' h a) = absurd (let g = ap primary_kind h in cc)
    uncalled_only ys zs t other (inr same) (called n' h a) = absurd (other (subst (λ (x : Token). IsSign sign.OPEN_PAREN x) same h))

    -- a name without arguments
    pub uncalled_found : (IsSign sign.OPEN_PAREN s → ⊥) → Found (Named at o) (λ _. ends_primary) (c ∷ s ∷ xs) (named_at at o word) (s ∷ xs)
    uncalled_found other = record {
      front = c ∷ [];
      split = refl;
      reads = λ ys f. uncalled n;
      only = λ ys zs t f r e. uncalled_only ys zs t other f r;
    }

    called_from : (ys zs : Tokens) (t : Expr) → IsSign sign.OPEN_PAREN s → Named at o (c ∷ s ∷ ys) t zs → Ends ends_primary zs → (ts : List Expr) × (t ≡ called_at at o word ts) × Args ys ts zs
    called_from ys zs t h (uncalled n') e = let g = ap primary_kind h in cc
    called_from ys zs t h (called {name = word'} {ts = ts} n' h' a) e =
        let same : word' ≡ word = cc in
        (ts, ap (λ w. called_at at o w ts) same, a)

    called_same : (P : List Expr → Type 0) (Q : Expr → Type 0) → ((ts : List Expr) → P ts → Q (called_at at o word ts)) → ((ts : List Expr) → Q (called_at at o word ts) → P ts) →
        IsSign sign.OPEN_PAREN s → Same (c ∷ s ∷ []) (called_at at o word) Args (Named at o) ends_primary P Q
    called_same P Q up down h = record {
      into = λ ys zs ts a. called n h a;
      from = λ ys zs t r e. called_from ys zs t h r e;
      up = up;
      down = down;
    }

    pub called_fails : (e : ParseFault) → IsSign sign.OPEN_PAREN s → depth_of_option o + 1 ≤ most → FailsWithin Args depth_of_all ends_primary (most - 1) xs e → FailsWithin (Named at o) depth ends_primary most (c ∷ s ∷ xs) e
    called_fails e h room f = fails_image (image_of (called_same (λ ts. depth_of_all ts ≤ most - 1) (λ t. depth t ≤ most)
        (λ ts p. let d = depth_called at o word ts in omega (arith, d)) (λ ts q. let d = depth_called at o word ts in omega (arith, d)) h)) ends_primary xs e f

    pub called_found : (ts : List Expr) (zs : Tokens) → IsSign sign.OPEN_PAREN s → Found Args (λ _. ends_primary) xs ts zs → Found (Named at o) (λ _. ends_primary) (c ∷ s ∷ xs) (called_at at o word ts) zs
    called_found ts zs h f = found_image (image_of (called_same Any Any (λ ts p. tt) (λ ts q. tt) h)) f

-- ---- arguments

first_depth : {t : Expr} {ts : List Expr} {ys zs : Tokens} → MoreArgs (t ∷ []) ys ts zs → depth t ≤ depth_of_all ts
first_depth {t = t} m = let d = more_depth m in omega (arith, d)

more_starts : {ts us : List Expr} {ys zs : Tokens} → MoreArgs ts ys us zs → Ends ends_full ys
more_starts (last_arg h) = ap stands_behind h
more_starts (next_arg h e m) = ap stands_behind h

module _ (most : ℕ) (p : Token) (xs : Tokens) where
  none_only : (ys zs : Tokens) (ts : List Expr) → IsSign sign.CLOSE_PAREN p → Args (p ∷ ys) ts zs → (ts ≡ []) × (zs ≡ ys)
  none_only ys zs ts h (no_args h') = (refl, refl)
  none_only ys zs ts h (some_args e m) = absurd (let b : IsTrue (begins_expr (kind_of_token p)) = expression_begins e in let g = ap begins_expr h in cc)

  -- no arguments
  pub args_none : IsSign sign.CLOSE_PAREN p → Found Args (λ _. ends_primary) (p ∷ xs) [] xs
  args_none h = record {
    front = p ∷ [];
    split = refl;
    reads = λ ys f. no_args h;
    only = λ ys zs ts f r e. none_only ys zs ts h r;
  }

  some_from : (ys zs : Tokens) (ts : List Expr) → (IsSign sign.CLOSE_PAREN p → ⊥) → Args (p ∷ ys) ts zs → Then Expression (λ t. MoreArgs (t ∷ [])) (p ∷ ys) ts zs
  some_from ys zs ts other (no_args h) = absurd (other h)
  some_from ys zs ts other (some_args {ys = ws} {t = t} e m) = (t, ws, e, m)

  some_solid : (ys : Tokens) (ts : List Expr) → Then Expression (λ t. MoreArgs (t ∷ [])) ys ts ys → ⊥
  some_solid ys ts r = let a = expression_shorter r.2 in let b = more_shorter r.3 in absurd (omega (arith, a, b))

  some_choice : (IsSign sign.CLOSE_PAREN p → ⊥) → Choice p (Then Expression (λ t. MoreArgs (t ∷ []))) Args (λ _. ends_primary)
  some_choice other = record {
    into = λ ys zs ts r. some_args r.2 r.3;
    from = λ ys zs ts r e. some_from ys zs ts other r;
    solid = λ ys ts r. some_solid ys ts r;
  }

  some_joint : Joint Expression (λ t. MoreArgs (t ∷ [])) ends_full ends_primary (λ t. depth t ≤ most) (λ ts. depth_of_all ts ≤ most)
  some_joint = record {
    starts = λ a ys zs t r e. more_starts r;
    down = λ a ys zs t r q. let d = first_depth r in omega (arith, d);
    close = a_sign sign.CLOSE_PAREN ∷ [];
    follows = λ zs e. refl;
    closed = λ a zs e. (a ∷ [], last_arg refl, λ q. omega (arith, q));
  }

  -- the first argument fails
  pub args_fails : (e : ParseFault) → (IsSign sign.CLOSE_PAREN p → ⊥) → FailsWithin Expression depth ends_full most (p ∷ xs) e → FailsWithin Args depth_of_all ends_primary most (p ∷ xs) e
  args_fails e other f = fails_choice (some_choice other) ends_primary (λ ts. depth_of_all ts ≤ most) xs e (fails_begun some_joint (p ∷ xs) e f)

  gives_choice : (r : ReadAll) → (IsSign sign.CLOSE_PAREN p → ⊥) → Gives (Then Expression (λ t. MoreArgs (t ∷ []))) depth_of_all ends_primary most (p ∷ xs) r → Gives Args depth_of_all ends_primary most (p ∷ xs) r
  gives_choice (Ok x) other g = (found_choice (some_choice other) g.0, g.1, g.2)
  gives_choice (Err e) other g = fails_choice (some_choice other) ends_primary (λ ts. depth_of_all ts ≤ most) xs e g

  -- further arguments behind the first
  pub args_gives : (ys : Tokens) (a : Expr) (r : ReadAll) → (IsSign sign.CLOSE_PAREN p → ⊥) → Found Expression (λ _. ends_full) (p ∷ xs) a ys →
      Gives (MoreArgs (a ∷ [])) depth_of_all ends_primary most ys r → Gives Args depth_of_all ends_primary most (p ∷ xs) r
  args_gives ys a r other g f = gives_choice r other (gives_then some_joint (p ∷ xs) ys a r g f)

  room_never : (more zs : Tokens) (ts : List Expr) → (IsSign sign.CLOSE_PAREN p → ⊥) → most ≡ 0 → Args (p ∷ more) ts zs → depth_of_all ts ≤ most → ⊥
  room_never more zs ts other none (no_args h) q = other h
  room_never more zs ts other none (some_args {t = t} e m) q = let d = first_depth m in let n = depth_positive t in absurd (omega (arith, d, n))

  args_deeper : IsTrue (begins_expr (kind_of_token p)) → Viable Args (λ _. ends_primary) ends_primary Any (p ∷ [])
  args_deeper b = λ zs e.
      let x = expr_begun p (a_sign sign.CLOSE_PAREN ∷ zs) b in
      (x.0 ++ a_sign sign.CLOSE_PAREN ∷ [], x.1 ∷ [], rw append_assoc (some_args x.2 (last_arg refl)), e, tt)

  -- there is no room for an argument
  pub args_full : (IsSign sign.CLOSE_PAREN p → ⊥) → most ≡ 0 → IsTrue (begins_expr (kind_of_token p)) → FailsWithin Args depth_of_all ends_primary most (p ∷ xs) (TooDeep p.place)
  args_full other none b = deep_at Args ends_primary (λ ts. depth_of_all ts ≤ most) [] p xs
      (λ zs e. (a_sign sign.CLOSE_PAREN ∷ [], [], no_args refl, e, omega arith))
      (λ more zs ts r e q. room_never more zs ts other none r q)
      (args_deeper b)

  wrong_never : (more zs : Tokens) (ts : List Expr) → (IsSign sign.CLOSE_PAREN p → ⊥) → (IsTrue (begins_expr (kind_of_token p)) → ⊥) → Args (p ∷ more) ts zs → ⊥
  wrong_never more zs ts other b (no_args h) = other h
  wrong_never more zs ts other b (some_args e m) = b (expression_begins e)

  -- no argument stands there
  pub args_wrong : (e : ParseFault) → (IsSign sign.CLOSE_PAREN p → ⊥) → (IsTrue (begins_expr (kind_of_token p)) → ⊥) → Refused p e → FailsWithin Args depth_of_all ends_primary most (p ∷ xs) e
  args_wrong e other b r = fails_at Args ends_primary (λ ts. depth_of_all ts ≤ most) [] p xs e r
      (λ zs e'. (a_sign sign.CLOSE_PAREN ∷ [], [], no_args refl, e', omega arith))
      (λ more zs ts r' e' q. wrong_never more zs ts other b r')

-- ---- further arguments

module _ (ts : List Expr) (most : ℕ) (p : Token) (xs : Tokens) where
  last_only : (ys zs : Tokens) (us : List Expr) → IsSign sign.CLOSE_PAREN p → MoreArgs ts (p ∷ ys) us zs → (us ≡ ts) × (zs ≡ ys)
  last_only ys zs us h (last_arg h') = (refl, refl)
  last_only ys zs us h (next_arg h' e m) = absurd (let g : sign.COMMA ≡ sign.CLOSE_PAREN = cc in omega (arith, g))

  pub last_found : IsSign sign.CLOSE_PAREN p → Found (MoreArgs ts) (λ _. ends_primary) (p ∷ xs) ts xs
  last_found h = record {
    front = p ∷ [];
    split = refl;
    reads = λ ys f. last_arg h;
    only = λ ys zs us f r e. last_only ys zs us h r;
  }

  next_from : (ys zs : Tokens) (us : List Expr) → IsSign sign.COMMA p → MoreArgs ts (p ∷ ys) us zs → Then Expression (λ t. MoreArgs (ts ++ t ∷ [])) ys us zs
  next_from ys zs us h (last_arg h') = absurd (let g : sign.COMMA ≡ sign.CLOSE_PAREN = cc in omega (arith, g))
  next_from ys zs us h (next_arg {ys = ws} {t = t} h' e m) = (t, ws, e, m)

  next_same : IsSign sign.COMMA p → Same (p ∷ []) (λ t. t) (Then Expression (λ t. MoreArgs (ts ++ t ∷ []))) (MoreArgs ts) ends_primary (λ us. depth_of_all us ≤ most) (λ us. depth_of_all us ≤ most)
  next_same h = record {
    into = λ ys zs us r. next_arg h r.2 r.3;
    from = λ ys zs us r e. (us, refl, next_from ys zs us h r);
    up = λ a q. q;
    down = λ a q. q;
  }

  next_joint : depth_of_all ts ≤ most → Joint Expression (λ t. MoreArgs (ts ++ t ∷ [])) ends_full ends_primary (λ t. depth t ≤ most) (λ us. depth_of_all us ≤ most)
  next_joint small = record {
    starts = λ a ys zs t r e. more_starts r;
    down = λ a ys zs t r q. let d = more_depth r in let d' = depth_all_push ts a in omega (arith, d, d');
    close = a_sign sign.CLOSE_PAREN ∷ [];
    follows = λ zs e. refl;
    closed = λ a zs e. (ts ++ a ∷ [], last_arg refl, λ q. let d' = depth_all_push ts a in omega (arith, d'));
  }

  pub next_fails : (e : ParseFault) → IsSign sign.COMMA p → depth_of_all ts ≤ most → FailsWithin Expression depth ends_full most xs e → FailsWithin (MoreArgs ts) depth_of_all ends_primary most (p ∷ xs) e
  next_fails e h small f = gives_same (next_same h) xs (Err e) (fails_begun (next_joint small) xs e f)

  pub next_gives : (ys : Tokens) (a : Expr) (r : ReadAll) → IsSign sign.COMMA p → depth_of_all ts ≤ most → Found Expression (λ _. ends_full) xs a ys →
      Gives (MoreArgs (ts ++ a ∷ [])) depth_of_all ends_primary most ys r → Gives (MoreArgs ts) depth_of_all ends_primary most (p ∷ xs) r
  next_gives ys a r h small g f = gives_same (next_same h) xs r (gives_then (next_joint small) xs ys a r g f)

  more_never : (more zs : Tokens) (us : List Expr) → (IsSign sign.CLOSE_PAREN p → ⊥) → (IsSign sign.COMMA p → ⊥) → MoreArgs ts (p ∷ more) us zs → ⊥
  more_never more zs us a b (last_arg h) = a h
  more_never more zs us a b (next_arg h e m) = b h

  pub more_wrong : (e : ParseFault) → (IsSign sign.CLOSE_PAREN p → ⊥) → (IsSign sign.COMMA p → ⊥) → Refused p e → depth_of_all ts ≤ most → FailsWithin (MoreArgs ts) depth_of_all ends_primary most (p ∷ xs) e
  more_wrong e a b r small = fails_at (MoreArgs ts) ends_primary (λ us. depth_of_all us ≤ most) [] p xs e r
      (λ zs e'. (a_sign sign.CLOSE_PAREN ∷ [], ts, last_arg refl, e', small))
      (λ more zs us r' e' q. more_never more zs us a b r')
