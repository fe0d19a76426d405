-- Expressions that are read from short tokens: they are fine, and the tokens behind them are short.
use Rattle.std.proofs.Common.{ℕ, List, true, false, Option}
use Rattle.jp_ast.specs.declared.token.Place.{Place}
use Rattle.jp_ast.specs.declared.expr.Expr.{Expr}
use Rattle.jp_grammar.specs.Kinds.{Tokens}
use Rattle.jp_grammar.specs.Expressions.{Expression, expression, Choices, unconditional, conditional, Alternative, alternative, Level, strongest, weaker, Chain, chain_end, chain_sign, chain_instance, Unary, negation, unary_plain, Plain, inversion, cast, plain_postfix, Postfix, postfix, postfix_array, Steps, steps_end, member, element, Named, uncalled, called, Primary, number, text, truth, falsehood, nothing, receiver, parenthesis, name, super_call, new_object, NewArray, new_array, Closed, closed, Bracketed, bracketed, Args, no_args, some_args, MoreArgs, last_arg, next_arg}
use Rattle.typed_texts.proofs.ShortTokens.{AreShort, named, texted, element_short}
use Rattle.typed_texts.proofs.SourceForms.{Fine, AllFine, more_fine, FineBefore, fine_number, fine_truth, fine_null, fine_this, fine_text, fine_unary, fine_binary, fine_cond, fine_cast, fine_instance, fine_named, fine_call, fine_index, fine_super, fine_new, fine_array}

mutual
  pub read_expression : {xs zs : Tokens} {t : Expr} → Expression xs t zs → AreShort xs → AreShort zs × Fine t
  read_expression (expression l c) w = let a = read_level l w in read_choices c a.0 a.1

  read_choices : {at : Place} {l t : Expr} {xs zs : Tokens} → Choices at l xs t zs → AreShort xs → Fine l → AreShort zs × Fine t
  read_choices unconditional w h = (w, h)
  read_choices (conditional q e a) w h = let x = read_expression e w.1 in read_alternative a x.0 h x.1

  read_alternative : {at : Place} {l a t : Expr} {xs zs : Tokens} → Alternative at l a xs t zs → AreShort xs → Fine l → Fine a → AreShort zs × Fine t
  read_alternative (alternative {at} {l = l} {a = a} {b = b} q e) w h k = let x = read_expression e w.1 in (x.0, fine_cond at l a b h k x.1)

  read_level : {n : ℕ} {xs zs : Tokens} {t : Expr} → Level n xs t zs → AreShort xs → AreShort zs × Fine t
  read_level (strongest u) w = read_unary u w
  read_level (weaker l c) w = let a = read_level l w in read_chain c a.0 a.1

  read_chain : {at : Place} {n : ℕ} {l t : Expr} {xs zs : Tokens} → Chain at n l xs t zs → AreShort xs → Fine l → AreShort zs × Fine t
  read_chain chain_end w h = (w, h)
  read_chain (chain_sign {at} {b = b} {l = l} {r = r} q i m c) w h = let x = read_level m w.1 in read_chain c x.0 (fine_binary at b l r h x.1)
  read_chain (chain_instance {at} {c = s} {l = l} {class = class} q i j c) w h = read_chain c w.1.1 (fine_instance at l class (named class s j w.1.0) h)

  read_unary : {xs zs : Tokens} {t : Expr} → Unary xs t zs → AreShort xs → AreShort zs × Fine t
  read_unary (negation {b} {s = s} {t = t} q i u) w = let x = read_unary u w.1 in (x.0, fine_unary s.place b t x.1)
  read_unary (unary_plain p) w = read_plain p w

  read_plain : {xs zs : Tokens} {t : Expr} → Plain xs t zs → AreShort xs → AreShort zs × Fine t
  read_plain (inversion {b} {s = s} {t = t} q i u) w = let x = read_unary u w.1 in (x.0, fine_unary s.place b t x.1)
  read_plain (cast {s} {c = c} {t = t} {class = class} q i j p) w = let x = read_plain p w.1.1.1 in (x.0, fine_cast s.place class t (named class c i w.1.0) x.1)
  read_plain (plain_postfix p) w = read_postfix p w

  pub read_postfix : {xs zs : Tokens} {t : Expr} → Postfix xs t zs → AreShort xs → AreShort zs × Fine t
  read_postfix (postfix p s) w = let x = read_primary p w in read_steps s x.0 x.1
  read_postfix (postfix_array a q s) w = let x = read_array a w in read_steps s x.0 x.1

  read_steps : {at : Place} {l t : Expr} {xs zs : Tokens} → Steps at l xs t zs → AreShort xs → Fine l → AreShort zs × Fine t
  read_steps steps_end w h = (w, h)
  read_steps (member {l = l} q n s) w h = let x = read_named n w.1 h in read_steps s x.0 x.1
  read_steps (element {at} {l = l} {i = i} q b s) w h = let x = read_bracketed b w.1 in read_steps s x.0 (fine_index at l i h x.1)

  read_named : {at : Place} {o : Option Expr} {t : Expr} {xs zs : Tokens} → Named at o xs t zs → AreShort xs → FineBefore o → AreShort zs × Fine t
  read_named (uncalled {at} {o = o} {c = c} {name = word} q) w h = (w.1, fine_named at o word (named word c q w.0) h)
  read_named (called {at} {o = o} {c = c} {name = word} {ts = ts} q i a) w h = let x = read_args a w.1.1 in (x.0, fine_call at o word ts (named word c q w.0) h x.1)

  read_primary : {xs zs : Tokens} {t : Expr} → Primary xs t zs → AreShort xs → AreShort zs × Fine t
  read_primary (number {s} {value = value} {hex = hex} q) w = (w.1, fine_number s.place value hex)
  read_primary (text {s} {bytes = bytes} q) w = (w.1, fine_text s.place bytes (texted bytes s q w.0))
  read_primary (truth {s} q) w = (w.1, fine_truth s.place true)
  read_primary (falsehood {s} q) w = (w.1, fine_truth s.place false)
  read_primary (nothing {s} q) w = (w.1, fine_null s.place)
  read_primary (receiver {s} q) w = (w.1, fine_this s.place)
  read_primary (parenthesis q c) w = read_closed c w.1
  read_primary (name n) w = read_named n w tt
  read_primary (super_call {s} {c = c} {word = word} {ts = ts} q i j k a) w = let x = read_args a w.1.1.1.1 in (x.0, fine_super s.place word ts (named word c j w.1.1.0) x.1)
  read_primary (new_object {s} {c = c} {class = class} {ts = ts} q i j a) w = let x = read_args a w.1.1.1 in (x.0, fine_new s.place class ts (named class c i w.1.0) x.1)

  read_array : {xs zs : Tokens} {t : Expr} → NewArray xs t zs → AreShort xs → AreShort zs × Fine t
  read_array (new_array {s} {c = c} {elem = elem} {size = size} q i j b) w = let x = read_bracketed b w.1.1.1 in (x.0, fine_array s.place elem size (element_short elem c i w.1.0).0 x.1)

  read_closed : {xs zs : Tokens} {t : Expr} → Closed xs t zs → AreShort xs → AreShort zs × Fine t
  read_closed (closed e q) w = let x = read_expression e w in (x.0.1, x.1)

  read_bracketed : {xs zs : Tokens} {t : Expr} → Bracketed xs t zs → AreShort xs → AreShort zs × Fine t
  read_bracketed (bracketed e q) w = let x = read_expression e w in (x.0.1, x.1)

  pub read_args : {xs zs : Tokens} {ts : List Expr} → Args xs ts zs → AreShort xs → AreShort zs × AllFine ts
  read_args (no_args q) w = (w.1, tt)
  read_args (some_args e a) w = let x = read_expression e w in read_more a x.0 (x.1, tt)

  read_more : {ts us : List Expr} {xs zs : Tokens} → MoreArgs ts xs us zs → AreShort xs → AllFine ts → AreShort zs × AllFine us
  read_more (last_arg q) w h = (w.1, h)
  read_more (next_arg {t = t} {ts = ts} q e a) w h = let x = read_expression e w.1 in read_more a x.0 (more_fine ts t h x.1)
