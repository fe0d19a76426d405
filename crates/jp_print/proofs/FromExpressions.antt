-- What the grammar gives as an expression reads back.
use Rattle.std.proofs.Common.{◌≡◌, ℕ, zero, suc, ◌+◌, ◌<◌, ◌≤◌, Bool, true, false, List, [], ◌∷◌, ◌++◌, Option, Some, None, refl, sym, ap, ◌∙◌, subst, arith}
use Rattle.jp_pred.specs.declared.ty.Ty.{Ty}
use Rattle.jp_ast.specs.declared.token.Place.{Place}
use Rattle.jp_ast.specs.declared.token.Token.{Token}
use Rattle.jp_ast.specs.declared.token.Lexeme.TheVariants.{Number, Text, Sign}
use Rattle.jp_ast.specs.declared.expr.Expr.{Expr}
use Rattle.jp_grammar.specs.Kinds.{Tokens}
use Rattle.jp_grammar.specs.Expressions.{Expression, Choices, Alternative, Level, Chain, Unary, Plain, Postfix, Steps, Named, Primary, NewArray, Closed, Bracketed, Args, MoreArgs, expression, unconditional, conditional, alternative, strongest, weaker, chain_end, chain_sign, chain_instance, negation, unary_plain, inversion, cast, plain_postfix, postfix, postfix_array, steps_end, member, element, uncalled, called, number, text, truth, falsehood, nothing, receiver, parenthesis, name, super_call, new_object, new_array, closed, bracketed, no_args, some_args, last_arg, next_arg}
use Rattle.jp_print.proofs.Forms.{FormedTokens, has_form, nameable, sign_form}
use Rattle.jp_print.proofs.Types.{elem_of}
use Rattle.jp_print.proofs.Operands.{Again}
use Rattle.jp_print.proofs.Arguments.{AllAgain, all_append}
use Rattle.jp_print.proofs.OfExpressions.{number_again, text_again, truth_again, null_again, this_again, var_again, negation_again, inversion_again, binary_again, instance_again, cast_again, cond_again, field_again, index_again, call_again, call_of_again, super_again, new_again, array_again}

-- what is before a name, where there is something
abbrev AgainIf : Option Expr → Type 0
AgainIf None = Unit {0}
AgainIf (Some o) = Again o

mutual
  pub expression_again : {xs zs : Tokens} {t : Expr} → Expression xs t zs → FormedTokens xs → Again t × FormedTokens zs
  expression_again (expression l c) f = let a = level_again (omega arith) l f in choices_again c a.0 a.1

  choices_again : {at : Place} {l t : Expr} {xs zs : Tokens} → Choices at l xs t zs → Again l → FormedTokens xs → Again t × FormedTokens zs
  choices_again unconditional a f = (a, f)
  choices_again (conditional h e r) a f = let b = expression_again e f.1 in alternative_again r a b.0 b.1

  alternative_again : {at : Place} {l m t : Expr} {xs zs : Tokens} → Alternative at l m xs t zs → Again l → Again m → FormedTokens xs → Again t × FormedTokens zs
  alternative_again {at = at} (alternative h e) a b f = let c = expression_again e f.1 in (cond_again at _ _ _ a b c.0, c.1)

  level_again : {n : ℕ} {xs zs : Tokens} {t : Expr} → n ≤ 10 → Level n xs t zs → FormedTokens xs → Again t × FormedTokens zs
  level_again le (strongest u) f = unary_again u f
  level_again le (weaker l c) f = let a = level_again (omega arith) l f in chain_again (omega arith) c a.0 a.1

  chain_again : {at : Place} {n : ℕ} {l t : Expr} {xs zs : Tokens} → n < 10 → Chain at n l xs t zs → Again l → FormedTokens xs → Again t × FormedTokens zs
  chain_again lt chain_end a f = (a, f)
  chain_again {at = at} {n = n} lt (chain_sign {b = b} {s = s} h e r c) a f =
      let b' = level_again (omega arith) r f.1 in
      chain_again lt c (binary_again at b (sign_form b s h f.0) _ _ a b'.0 n lt e) b'.1
  chain_again {at = at} lt (chain_instance {c = n} {class = class} h e i c) a f = chain_again lt c (instance_again at class (nameable class n i f.1.0) _ a) f.1.1

  unary_again : {xs zs : Tokens} {t : Expr} → Unary xs t zs → FormedTokens xs → Again t × FormedTokens zs
  unary_again (negation {b = b} {s = s} h i u) f = let a = unary_again u f.1 in (negation_again s.place b (sign_form b s h f.0) _ a.0 i, a.1)
  unary_again (unary_plain p) f = plain_again p f

  plain_again : {xs zs : Tokens} {t : Expr} → Plain xs t zs → FormedTokens xs → Again t × FormedTokens zs
  plain_again (inversion {b = b} {s = s} h i u) f = let a = unary_again u f.1 in (inversion_again s.place b (sign_form b s h f.0) _ a.0 i, a.1)
  plain_again (cast {s = s} {c = c} {class = class} h n p r) f = let a = plain_again r f.1.1.1 in (cast_again s.place class (nameable class c n f.1.0) _ a.0, a.1)
  plain_again (plain_postfix p) f = postfix_again p f

  pub postfix_again : {xs zs : Tokens} {t : Expr} → Postfix xs t zs → FormedTokens xs → Again t × FormedTokens zs
  postfix_again (postfix p s) f = let a = primary_again p f in steps_again s a.0 a.1
  postfix_again (postfix_array p n s) f = let a = array_of_again p f in steps_again s a.0 a.1

  steps_again : {at : Place} {l t : Expr} {xs zs : Tokens} → Steps at l xs t zs → Again l → FormedTokens xs → Again t × FormedTokens zs
  steps_again steps_end a f = (a, f)
  steps_again (member h n s) a f = let b = named_again n a f.1 in steps_again s b.0 b.1
  steps_again {at = at} (element h i s) a f = let b = bracketed_again i f.1 in steps_again s (index_again at _ _ a b.0) b.1

  named_again : {at : Place} {o : Option Expr} {t : Expr} {xs zs : Tokens} → Named at o xs t zs → AgainIf o → FormedTokens xs → Again t × FormedTokens zs
  named_again {at = at} {o = None} (uncalled {c = c} {name = word} n) a f = (var_again at word (nameable word c n f.0), f.1)
  named_again {at = at} {o = Some o} (uncalled {c = c} {name = word} n) a f = (field_again at word (nameable word c n f.0) o a, f.1)
  named_again {at = at} {o = None} (called {c = c} {name = word} n h r) a f = let b = args_again r f.1.1 in (call_again at word (nameable word c n f.0) _ b.0, b.1)
  named_again {at = at} {o = Some o} (called {c = c} {name = word} n h r) a f = let b = args_again r f.1.1 in (call_of_again at word (nameable word c n f.0) _ b.0 o a, b.1)

  primary_again : {xs zs : Tokens} {t : Expr} → Primary xs t zs → FormedTokens xs → Again t × FormedTokens zs
  primary_again (number {s = s} {value = value} {hex = hex} h) f = (number_again s.place value hex (has_form _ s h (λ e. cc) f.0), f.1)
  primary_again (text {s = s} {bytes = bytes} h) f = (text_again s.place bytes (has_form _ s h (λ e. cc) f.0), f.1)
  primary_again (truth {s = s} h) f = (truth_again s.place true, f.1)
  primary_again (falsehood {s = s} h) f = (truth_again s.place false, f.1)
  primary_again (nothing {s = s} h) f = (null_again s.place, f.1)
  primary_again (receiver {s = s} h) f = (this_again s.place, f.1)
  primary_again (parenthesis h c) f = closed_again c f.1
  primary_again (name n) f = named_again n tt f
  primary_again (super_call {s = s} {c = c} {word = word} h d n o r) f = let a = args_again r f.1.1.1.1 in (super_again s.place word (nameable word c n f.1.1.0) _ a.0, a.1)
  primary_again (new_object {s = s} {c = c} {class = class} h n o r) f = let a = args_again r f.1.1.1 in (new_again s.place class (nameable class c n f.1.0) _ a.0, a.1)

  array_of_again : {xs zs : Tokens} {t : Expr} → NewArray xs t zs → FormedTokens xs → Again t × FormedTokens zs
  array_of_again (new_array {s = s} {c = c} {elem = elem} h e o b) f = let a = bracketed_again b f.1.1.1 in (array_again s.place elem (elem_of c elem e f.1.0) _ a.0, a.1)

  closed_again : {xs zs : Tokens} {t : Expr} → Closed xs t zs → FormedTokens xs → Again t × FormedTokens zs
  closed_again (closed e h) f = let a = expression_again e f in (a.0, a.1.1)

  bracketed_again : {xs zs : Tokens} {t : Expr} → Bracketed xs t zs → FormedTokens xs → Again t × FormedTokens zs
  bracketed_again (bracketed e h) f = let a = expression_again e f in (a.0, a.1.1)

  pub args_again : {xs zs : Tokens} {ts : List Expr} → Args xs ts zs → FormedTokens xs → AllAgain ts × FormedTokens zs
  args_again (no_args h) f = (tt, f.1)
  args_again (some_args e m) f = let a = expression_again e f in more_again m (a.0, tt) a.1

  more_again : {xs zs : Tokens} {ts us : List Expr} → MoreArgs ts xs us zs → AllAgain ts → FormedTokens xs → AllAgain us × FormedTokens zs
  more_again (last_arg h) a f = (a, f.1)
  more_again (next_arg {t = t} {ts = ts} h e m) a f = let b = expression_again e f.1 in more_again m (all_append ts (t ∷ []) a (b.0, tt)) b.1
