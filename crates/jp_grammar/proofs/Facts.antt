-- What every part of an expression has: the tokens that it begins with, the tokens that it takes, what may stand
-- behind its parts, and a depth that its parts don't pass.
use Rattle.std.proofs.Common.{◌≡◌, ℕ, zero, suc, ◌+◌, ◌<◌, ◌≤◌, max, Bool, true, false, ◌||◌, IsTrue, List, [], ◌∷◌, ◌++◌, length, Option, Some, None, refl, sym, ap, ◌∙◌, subst, arith}
use Rattle.jp_pred.specs.declared.ty.Ty.{Ty}
use Rattle.jp_ast.specs.declared.token.Place.{Place}
use Rattle.jp_ast.specs.declared.token.Token.{Token}
use Rattle.jp_ast.specs.declared.expr.Expr.{Expr}
use Rattle.jp_ast.specs.declared.sign.TheConstants as sign
use Rattle.jp_grammar.specs.declared.kind.Kind.{Kind}
use Rattle.jp_grammar.specs.declared.kind.Kind.TheVariants as k
use Rattle.jp_grammar.specs.Kinds.{Is, IsSign, IsName, Tokens, place_of, kind_of_token, kind_of_lexeme, is_sign_kind}
use Rattle.jp_grammar.specs.Expressions.{Expression, Choices, Alternative, Level, Chain, Unary, Plain, Postfix, Steps, Named, Primary, NewArray, Closed, Bracketed, Args, MoreArgs, expression, unconditional, conditional, alternative, strongest, weaker, chain_end, chain_sign, chain_instance, negation, unary_plain, inversion, cast, plain_postfix, postfix, postfix_array, steps_end, member, element, uncalled, called, number, text, truth, falsehood, nothing, receiver, parenthesis, name, super_call, new_object, new_array, closed, bracketed, no_args, some_args, last_arg, next_arg, binds, is_inversion, is_negation}
use Rattle.jp_grammar.specs.Reading.{Ends, Begins}
use Rattle.jp_grammar.specs.Behind.{begins_plain, negates, begins_expr, stands_behind, ends_kind, ends_level, ends_full, primary_kind, ends_primary}
use Rattle.jp_grammar.specs.Depth.{depth, depth_of_all}
use Rattle.jp_grammar.proofs.Depths.{depth_binary, depth_instance, depth_cond, depth_field, depth_call_of, depth_index, depth_all_push, depth_positive}
use Rattle.jp_grammar.proofs.Excluding.{or_left, or_right, ends_weaker, ends_binds, behind_level, level_primary, question_level}

-- ---- what they begin with

pub named_begins : {at : Place} {o : Option Expr} {xs zs : Tokens} {t : Expr} → Named at o xs t zs → Begins begins_plain xs
named_begins (uncalled n) = ap begins_plain n.1
named_begins (called n s a) = ap begins_plain n.1

pub primary_begins : {xs zs : Tokens} {t : Expr} → Primary xs t zs → Begins begins_plain xs
primary_begins (number h) = ap (λ l. begins_plain (kind_of_lexeme l)) h
primary_begins (text h) = ap (λ l. begins_plain (kind_of_lexeme l)) h
primary_begins (truth h) = ap begins_plain h
primary_begins (falsehood h) = ap begins_plain h
primary_begins (nothing h) = ap begins_plain h
primary_begins (receiver h) = ap begins_plain h
primary_begins (parenthesis h c) = ap begins_plain h
primary_begins (name n) = named_begins n
primary_begins (super_call h d n o a) = ap begins_plain h
primary_begins (new_object h n o a) = ap begins_plain h

pub array_begins : {xs zs : Tokens} {t : Expr} → NewArray xs t zs → Begins begins_plain xs
array_begins (new_array h e o b) = ap begins_plain h

pub postfix_begins : {xs zs : Tokens} {t : Expr} → Postfix xs t zs → Begins begins_plain xs
postfix_begins (postfix p s) = primary_begins p
postfix_begins (postfix_array p n s) = array_begins p

pub plain_begins : {xs zs : Tokens} {t : Expr} → Plain xs t zs → Begins begins_plain xs
plain_begins (inversion {b = b} h i u) = ap begins_plain h ∙ or_left (is_inversion b) _ i
plain_begins (cast h n p r) = ap begins_plain h
plain_begins (plain_postfix p) = postfix_begins p

weaken : (xs : Tokens) → Begins begins_plain xs → Begins begins_expr xs
weaken [] h = h
weaken (s ∷ xs) h = or_right (negates (kind_of_token s)) (begins_plain (kind_of_token s)) h

pub unary_begins : {xs zs : Tokens} {t : Expr} → Unary xs t zs → Begins begins_expr xs
unary_begins (negation {b = b} h i u) = ap begins_expr h ∙ or_left (is_negation b) (begins_plain (k.Sign b)) i
unary_begins (unary_plain p) = weaken _ (plain_begins p)

pub level_begins : {n : ℕ} {xs zs : Tokens} {t : Expr} → Level n xs t zs → Begins begins_expr xs
level_begins (strongest u) = unary_begins u
level_begins (weaker l c) = level_begins l

pub expression_begins : {xs zs : Tokens} {t : Expr} → Expression xs t zs → Begins begins_expr xs
expression_begins (expression l c) = level_begins l

-- ---- the tokens that they take

mutual
  pub expression_shorter : {xs zs : Tokens} {t : Expr} → Expression xs t zs → length zs < length xs
  expression_shorter (expression l c) = let h = level_shorter l in let i = choices_shorter c in omega arith

  pub choices_shorter : {at : Place} {l t : Expr} {xs zs : Tokens} → Choices at l xs t zs → length zs ≤ length xs
  choices_shorter unconditional = omega arith
  choices_shorter (conditional h e a) = let i = expression_shorter e in let j = alternative_shorter a in omega arith

  pub alternative_shorter : {at : Place} {l a t : Expr} {xs zs : Tokens} → Alternative at l a xs t zs → length zs ≤ length xs
  alternative_shorter (alternative h e) = let i = expression_shorter e in omega arith

  pub level_shorter : {n : ℕ} {xs zs : Tokens} {t : Expr} → Level n xs t zs → length zs < length xs
  level_shorter (strongest u) = unary_shorter u
  level_shorter (weaker l c) = let h = level_shorter l in let i = chain_shorter c in omega arith

  pub chain_shorter : {at : Place} {n : ℕ} {l t : Expr} {xs zs : Tokens} → Chain at n l xs t zs → length zs ≤ length xs
  chain_shorter chain_end = omega arith
  chain_shorter (chain_sign h i l c) = let a = level_shorter l in let b = chain_shorter c in omega arith
  chain_shorter (chain_instance h i n c) = let b = chain_shorter c in omega arith

  pub unary_shorter : {xs zs : Tokens} {t : Expr} → Unary xs t zs → length zs < length xs
  unary_shorter (negation h i u) = let a = unary_shorter u in omega arith
  unary_shorter (unary_plain p) = plain_shorter p

  pub plain_shorter : {xs zs : Tokens} {t : Expr} → Plain xs t zs → length zs < length xs
  plain_shorter (inversion h i u) = let a = unary_shorter u in omega arith
  plain_shorter (cast h n p r) = let a = plain_shorter r in omega arith
  plain_shorter (plain_postfix p) = postfix_shorter p

  pub postfix_shorter : {xs zs : Tokens} {t : Expr} → Postfix xs t zs → length zs < length xs
  postfix_shorter (postfix p s) = let a = primary_shorter p in let b = steps_shorter s in omega arith
  postfix_shorter (postfix_array p n s) = let a = array_shorter p in let b = steps_shorter s in omega arith

  pub steps_shorter : {at : Place} {l t : Expr} {xs zs : Tokens} → Steps at l xs t zs → length zs ≤ length xs
  steps_shorter steps_end = omega arith
  steps_shorter (member h n s) = let a = named_shorter n in let b = steps_shorter s in omega arith
  steps_shorter (element h n s) = let a = bracketed_shorter n in let b = steps_shorter s in omega arith

  pub named_shorter : {at : Place} {o : Option Expr} {xs zs : Tokens} {t : Expr} → Named at o xs t zs → length zs < length xs
  named_shorter (uncalled n) = omega arith
  named_shorter (called n s a) = let b = args_shorter a in omega arith

  pub primary_shorter : {xs zs : Tokens} {t : Expr} → Primary xs t zs → length zs < length xs
  primary_shorter (number h) = omega arith
  primary_shorter (text h) = omega arith
  primary_shorter (truth h) = omega arith
  primary_shorter (falsehood h) = omega arith
  primary_shorter (nothing h) = omega arith
  primary_shorter (receiver h) = omega arith
  primary_shorter (parenthesis h c) = let a = closed_shorter c in omega arith
  primary_shorter (name n) = named_shorter n
  primary_shorter (super_call h d n o a) = let b = args_shorter a in omega arith
  primary_shorter (new_object h n o a) = let b = args_shorter a in omega arith

  pub array_shorter : {xs zs : Tokens} {t : Expr} → NewArray xs t zs → length zs < length xs
  array_shorter (new_array h e o b) = let a = bracketed_shorter b in omega arith

  pub closed_shorter : {xs zs : Tokens} {t : Expr} → Closed xs t zs → length zs < length xs
  closed_shorter (closed e h) = let a = expression_shorter e in omega arith

  pub bracketed_shorter : {xs zs : Tokens} {t : Expr} → Bracketed xs t zs → length zs < length xs
  bracketed_shorter (bracketed e h) = let a = expression_shorter e in omega arith

  pub args_shorter : {xs zs : Tokens} {ts : List Expr} → Args xs ts zs → length zs < length xs
  args_shorter (no_args h) = omega arith
  args_shorter (some_args e m) = let a = expression_shorter e in let b = more_shorter m in omega arith

  pub more_shorter : {xs zs : Tokens} {ts us : List Expr} → MoreArgs ts xs us zs → length zs < length xs
  more_shorter (last_arg h) = omega arith
  more_shorter (next_arg h e m) = let a = expression_shorter e in let b = more_shorter m in omega arith

pub level_solid : (n : ℕ) (xs : Tokens) (t : Expr) → Level n xs t xs → ⊥
level_solid n xs t r = let h = level_shorter r in absurd (omega arith)

pub unary_solid : (xs : Tokens) (t : Expr) → Unary xs t xs → ⊥
unary_solid xs t r = let h = unary_shorter r in absurd (omega arith)

pub primary_solid : (xs : Tokens) (t : Expr) → Primary xs t xs → ⊥
primary_solid xs t r = let h = primary_shorter r in absurd (omega arith)

pub expression_solid : (xs : Tokens) (t : Expr) → Expression xs t xs → ⊥
expression_solid xs t r = let h = expression_shorter r in absurd (omega arith)

-- ---- what may stand behind their parts

pub ends_weaker_all : (n : ℕ) (zs : Tokens) → Ends (ends_level (suc n)) zs → Ends (ends_level n) zs
ends_weaker_all n [] e = e
ends_weaker_all n (s ∷ zs) e = ends_weaker n (kind_of_token s) e

pub full_level : (n : ℕ) (zs : Tokens) → Ends ends_full zs → Ends (ends_level n) zs
full_level n [] e = e
full_level n (s ∷ zs) e = behind_level n (kind_of_token s) e

pub level_primary_all : (zs : Tokens) → Ends (ends_level 0) zs → Ends ends_primary zs
level_primary_all [] e = e
level_primary_all (s ∷ zs) e = level_primary (kind_of_token s) e

pub chain_starts : {at : Place} {n : ℕ} {l t : Expr} {ys zs : Tokens} → Chain at n l ys t zs → Ends (ends_level (suc n)) zs → Ends (ends_level n) ys
chain_starts {n = n} {zs = zs} chain_end e = ends_weaker_all n zs e
chain_starts {n = n} (chain_sign {s = s} h i l c) e = ends_binds n (kind_of_token s) (ap binds h ∙ i)
chain_starts {n = n} (chain_instance {s = s} h i m c) e = ends_binds n (kind_of_token s) (ap binds h ∙ ap Some (sym i))

pub choices_starts : {at : Place} {l t : Expr} {ys zs : Tokens} → Choices at l ys t zs → Ends ends_full zs → Ends (ends_level 10) ys
choices_starts {zs = zs} unconditional e = full_level 10 zs e
choices_starts (conditional {s = s} h x a) e = question_level 10 (kind_of_token s) h

pub steps_starts : {at : Place} {l t : Expr} {ys zs : Tokens} → Steps at l ys t zs → Ends (ends_level 0) zs → Ends ends_primary ys
steps_starts {zs = zs} steps_end e = level_primary_all zs e
steps_starts (member h n s) e = ap primary_kind h
steps_starts (element h n s) e = ap primary_kind h

-- ---- depths

pub chain_depth : {at : Place} {n : ℕ} {l t : Expr} {ys zs : Tokens} → Chain at n l ys t zs → depth l ≤ depth t
chain_depth chain_end = omega arith
chain_depth {at = at} {l = l} (chain_sign {b = b} {r = r} h i p c) = let d = depth_binary at b l r in let e = chain_depth c in omega (arith, d, e)
chain_depth {at = at} {l = l} (chain_instance {class = class} h i m c) = let d = depth_instance at l class in let e = chain_depth c in omega (arith, d, e)

pub alternative_depth : {at : Place} {l a t : Expr} {ys zs : Tokens} → Alternative at l a ys t zs → (depth l + 1 ≤ depth t) × (depth a + 1 ≤ depth t)
alternative_depth {at = at} {l = l} {a = a} (alternative {b = b} i y) = let d = depth_cond at l a b in (omega (arith, d), omega (arith, d))

pub choices_depth : {at : Place} {l t : Expr} {ys zs : Tokens} → Choices at l ys t zs → depth l ≤ depth t
choices_depth unconditional = omega arith
choices_depth (conditional h x a) = let d = alternative_depth a in omega (arith, d.0)

pub named_depth : {at : Place} {l t : Expr} {xs zs : Tokens} → Named at (Some l) xs t zs → depth l + 1 ≤ depth t
named_depth {at = at} {l = l} (uncalled {name = word} n) = let d = depth_field at l word in omega (arith, d)
named_depth {at = at} {l = l} (called {name = word} {ts = ts} n s a) = let d = depth_call_of at l word ts in omega (arith, d)

pub steps_depth : {at : Place} {l t : Expr} {ys zs : Tokens} → Steps at l ys t zs → depth l ≤ depth t
steps_depth steps_end = omega arith
steps_depth (member h n s) = let d = named_depth n in let e = steps_depth s in omega (arith, d, e)
steps_depth {at = at} {l = l} (element {i = i} h n s) = let d = depth_index at l i in let e = steps_depth s in omega (arith, d, e)

pub more_depth : {ts us : List Expr} {xs zs : Tokens} → MoreArgs ts xs us zs → depth_of_all ts ≤ depth_of_all us
more_depth (last_arg h) = omega arith
more_depth {ts = ts} (next_arg {t = t} h e m) = let d = depth_all_push ts t in let i = more_depth m in omega (arith, d, i)
