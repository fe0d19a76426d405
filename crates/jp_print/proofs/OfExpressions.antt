-- Each form of an expression reads back where its parts do.
use Rattle.std.proofs.Common.{◌≡◌, ℕ, suc, ◌+◌, ◌<◌, ◌≤◌, ◌-◌, Bool, true, false, List, [], ◌∷◌, ◌++◌, map, Option, Some, None, refl, sym, ap, ◌∙◌, subst, arith, codes, IsTrue}
use Rattle.jp_pred.specs.declared.ty.Ty.{Ty}
use Rattle.jp_ast.specs.declared.token.Place.{Place}
use Rattle.jp_ast.specs.declared.token.Token.{Token}
use Rattle.jp_ast.specs.declared.token.Lexeme.{Lexeme}
use Rattle.jp_ast.specs.declared.token.Lexeme.TheVariants.{Word, Number, Text, Sign}
use Rattle.jp_ast.specs.declared.expr.Expr.{Expr}
use Rattle.jp_ast.specs.declared.sign.TheConstants as sign
use Rattle.jp_grammar.specs.declared.kind.Kind.{Kind}
use Rattle.jp_grammar.specs.declared.kind.Kind.TheVariants as k
use Rattle.jp_grammar.specs.Kinds.{Is, IsSign, IsName, Tokens, place_of, nowhere}
use Rattle.jp_grammar.specs.Trees.{number_at, text_at, truth_at, null_at, this_at, unary_at, binary_at, instance_at, cond_at, cast_at, named_at, called_at, index_at, super_at, new_at, array_at}
use Rattle.jp_grammar.specs.Expressions.{Expression, Level, Unary, Plain, Postfix, Steps, Primary, NewArray, Bracketed, NoBracket, strength, is_negation, is_inversion, expression, unconditional, conditional, alternative, weaker, chain_end, chain_sign, chain_instance, negation, unary_plain, inversion, cast, postfix, postfix_array, steps_end, member, element, uncalled, called, number, text, truth, falsehood, nothing, receiver, name, super_call, new_object, new_array, bracketed}
use Rattle.jp_print.specs.Expressions.{Printed, in_parens, in_brackets, primary, created, loose, operand, array, arguments, dot_name, type_tokens, truth_word, printed_expr, expr_tokens, operand_tokens}
use Rattle.jp_print.specs.Expressions.{receiver as receiver_tokens}
use Rattle.jp_print.specs.Places.{unplaced}
use Rattle.jp_print.specs.ReadsBack.{HasForm}
use Rattle.jp_print.proofs.Equations as by
use Rattle.jp_print.proofs.Forms.{Formed, formed_append, is_sign, sign_formed, is_name, Nameable}
use Rattle.jp_print.proofs.Keywords.{is, true_word, false_word, null_word, this_word, instanceof_word, super_word, new_word}
use Rattle.jp_print.proofs.Goes.{Goes, done, next, Parted, parted, Reading, no_bracket, other_sign, other_word}
use Rattle.jp_print.proofs.Types.{IsElem, elem_formed, OneElement, one_element, read_elem}
use Rattle.jp_print.proofs.Operands.{level_of, raised, unary_expression, Operand, postfix_of, plain_of, unary_of, expression_of, ReadWhole, ReadOperand, ReadArray, PrintedAs, Again, alone, creates, loosely, operand_formed, array_formed}
use Rattle.jp_print.proofs.Arguments.{AllAgain, each_tokens, arguments_formed, read_args}

-- what is printed so reads back
again_as : (t : Expr) (p : Printed) → printed_expr t ≡ p → PrintedAs p t → Again t
again_as t p e a = subst (λ (x : Printed). PrintedAs x t) (sym e) a

-- ---- one token

module _ (p : Place) where
  number_read : (n : ℕ) (hex : Bool) → ReadArray (Number n hex ∷ []) (number_at p n hex)
  number_read n hex xs ys (next {s = s} h done) = record {
    tree = number_at s.place n hex;
    same = by.unplaced_number s.place n hex ∙ sym (by.unplaced_number p n hex);
    goes_on = λ st. postfix (number h) st;
  }

  pub number_again : (n : ℕ) (hex : Bool) → HasForm (Number n hex) → Again (number_at p n hex)
  number_again n hex f = again_as _ _ (by.printed_number p n hex) (alone _ _ (f, tt) (number_read n hex))

  text_read : (bytes : List ℕ) → ReadArray (Text bytes ∷ []) (text_at p bytes)
  text_read bytes xs ys (next {s = s} h done) = record {
    tree = text_at s.place bytes;
    same = by.unplaced_text s.place bytes ∙ sym (by.unplaced_text p bytes);
    goes_on = λ st. postfix (text h) st;
  }

  pub text_again : (bytes : List ℕ) → HasForm (Text bytes) → Again (text_at p bytes)
  text_again bytes f = again_as _ _ (by.printed_text p bytes) (alone _ _ (f, tt) (text_read bytes))

  truth_read : (value : Bool) → ReadArray (truth_word value ∷ []) (truth_at p value)
  truth_read true xs ys (next {s = s} h done) = record {
    tree = truth_at s.place true;
    same = by.unplaced_truth s.place true ∙ sym (by.unplaced_truth p true);
    goes_on = λ st. postfix (truth (is true_word s h)) st;
  }
  truth_read false xs ys (next {s = s} h done) = record {
    tree = truth_at s.place false;
    same = by.unplaced_truth s.place false ∙ sym (by.unplaced_truth p false);
    goes_on = λ st. postfix (falsehood (is false_word s h)) st;
  }

  pub truth_formed : (value : Bool) → HasForm (truth_word value)
  truth_formed true = true_word.form
  truth_formed false = false_word.form

  pub truth_again : (value : Bool) → Again (truth_at p value)
  truth_again value = again_as _ _ (by.printed_truth p value) (alone _ _ (truth_formed value, tt) (truth_read value))

  null_read : ReadArray (Word (codes "null") ∷ []) (null_at p)
  null_read xs ys (next {s = s} h done) = record {
    tree = null_at s.place;
    same = by.unplaced_null s.place ∙ sym (by.unplaced_null p);
    goes_on = λ st. postfix (nothing (is null_word s h)) st;
  }

  pub null_again : Again (null_at p)
  null_again = again_as _ _ (by.printed_null p) (alone _ _ (null_word.form, tt) null_read)

  this_read : ReadArray (Word (codes "this") ∷ []) (this_at p)
  this_read xs ys (next {s = s} h done) = record {
    tree = this_at s.place;
    same = by.unplaced_this s.place ∙ sym (by.unplaced_this p);
    goes_on = λ st. postfix (receiver (is this_word s h)) st;
  }

  pub this_again : Again (this_at p)
  this_again = again_as _ _ (by.printed_this p) (alone _ _ (this_word.form, tt) this_read)

  var_read : (word : List ℕ) → Nameable word → ReadArray (Word word ∷ []) (named_at p None word)
  var_read word n xs ys (next {s = s} h done) = record {
    tree = named_at s.place None word;
    same = by.unplaced_var s.place word ∙ sym (by.unplaced_var p word);
    goes_on = λ st. postfix (name (uncalled (is_name word s n h))) st;
  }

  pub var_again : (word : List ℕ) → Nameable word → Again (named_at p None word)
  var_again word n = again_as _ _ (by.printed_var p word) (alone _ _ (n.formed, tt) (var_read word n))

-- ---- signs

module _ (p : Place) (b : ℕ) (f : HasForm (Sign b)) where
  negation_read : (r : Expr) → Again r → IsTrue (is_negation b) → ReadWhole (Sign b ∷ operand_tokens r) (unary_at p b r)
  negation_read r a i xs ys (next {s = s} h g) n =
      let x = a.operand _ _ g n in
      record {
        tree = unary_at s.place b x.tree;
        reads = unary_expression (negation (is_sign b s h) i (unary_of x));
        same = by.unplaced_unary s.place b x.tree ∙ ap (λ e. unary_at nowhere b e) x.same ∙ sym (by.unplaced_unary p b r);
      }

  inversion_read : (r : Expr) → Again r → IsTrue (is_inversion b) → ReadWhole (Sign b ∷ operand_tokens r) (unary_at p b r)
  inversion_read r a i xs ys (next {s = s} h g) n =
      let x = a.operand _ _ g n in
      record {
        tree = unary_at s.place b x.tree;
        reads = unary_expression (unary_plain (inversion (is_sign b s h) i (unary_of x)));
        same = by.unplaced_unary s.place b x.tree ∙ ap (λ e. unary_at nowhere b e) x.same ∙ sym (by.unplaced_unary p b r);
      }

  unary_formed : (r : Expr) → Again r → Formed (Sign b ∷ operand_tokens r)
  unary_formed r a = (f, operand_formed _ r a)

  pub negation_again : (r : Expr) → Again r → IsTrue (is_negation b) → Again (unary_at p b r)
  negation_again r a i = again_as _ _ (by.printed_unary p b r) (loosely _ _ (unary_formed r a) (negation_read r a i))

  pub inversion_again : (r : Expr) → Again r → IsTrue (is_inversion b) → Again (unary_at p b r)
  inversion_again r a i = again_as _ _ (by.printed_unary p b r) (loosely _ _ (unary_formed r a) (inversion_read r a i))

  module _ (l r : Expr) (al : Again l) (ar : Again r) (n : ℕ) (small : n < 10) (binds : strength b ≡ Some n) where
    no_open : (k.Sign b ≡ k.Sign sign.OPEN_BRACKET) → ⊥
    no_open e = let same : b ≡ sign.OPEN_BRACKET = cc in let g : strength sign.OPEN_BRACKET ≡ Some n = subst (λ (x : ℕ). strength x ≡ Some n) same binds in cc

    binary_parts : {xs ms ys : Tokens} → Goes (operand_tokens l) xs ms → Goes (Sign b ∷ operand_tokens r) ms ys → NoBracket ys → Reading Expression unplaced xs (binary_at p b l r) ys
    binary_parts {xs = xs} front (next {s = s} h g) nb =
        let x = al.operand _ _ front (no_bracket (Sign b) s h no_open) in
        let y = ar.operand _ _ g nb in
        let at = place_of xs in
        record {
          tree = binary_at at b x.tree y.tree;
          reads = expression (raised 10 (suc n) (weaker (level_of n (unary_of x)) (chain_sign (is_sign b s h) binds (level_of n (unary_of y)) chain_end)) (9 - n) (omega arith)) unconditional;
          same = by.unplaced_binary at b x.tree y.tree ∙ ap (λ e. binary_at nowhere b e (unplaced y.tree)) x.same ∙ ap (λ e. binary_at nowhere b (unplaced l) e) y.same ∙ sym (by.unplaced_binary p b l r);
        }

    binary_read : ReadWhole (operand_tokens l ++ Sign b ∷ operand_tokens r) (binary_at p b l r)
    binary_read xs ys g nb = let q = parted (operand_tokens l) (Sign b ∷ operand_tokens r) g in binary_parts q.front q.back nb

    pub binary_again : Again (binary_at p b l r)
    binary_again = again_as _ _ (by.printed_binary p b l r) (loosely _ _ (formed_append (operand_tokens l) _ (operand_formed _ l al) (f, operand_formed _ r ar)) binary_read)

-- ---- `instanceof`, casts and conditions

module _ (p : Place) (class : List ℕ) (n : Nameable class) (v : Expr) (a : Again v) where
  instance_parts : {xs ms ys : Tokens} → Goes (operand_tokens v) xs ms → Goes (Word (codes "instanceof") ∷ Word class ∷ []) ms ys → Reading Expression unplaced xs (instance_at p v class) ys
  instance_parts {xs = xs} front (next {s = s} h (next {s = c} i done)) =
      let x = a.operand _ _ front (other_word _ _ s h instanceof_word.kind_is refl) in
      let at = place_of xs in
      record {
        tree = instance_at at x.tree class;
        reads = expression (raised 10 4 (weaker (level_of 3 (unary_of x)) (chain_instance (is instanceof_word s h) refl (is_name class c n i) chain_end)) 6 refl) unconditional;
        same = by.unplaced_instance at x.tree class ∙ ap (λ e. instance_at nowhere e class) x.same ∙ sym (by.unplaced_instance p v class);
      }

  instance_read : ReadWhole (operand_tokens v ++ Word (codes "instanceof") ∷ Word class ∷ []) (instance_at p v class)
  instance_read xs ys g nb = let q = parted (operand_tokens v) (Word (codes "instanceof") ∷ Word class ∷ []) g in instance_parts q.front q.back

  pub instance_again : Again (instance_at p v class)
  instance_again = again_as _ _ (by.printed_instance p v class) (loosely _ _ (formed_append (operand_tokens v) _ (operand_formed _ v a) (instanceof_word.form, (n.formed, tt))) instance_read)

  cast_read : ReadWhole (in_parens (Word class ∷ []) ++ operand_tokens v) (cast_at p class v)
  cast_read xs ys (next {s = o} h (next {s = c} i (next {s = e} j g))) nb =
      let x = a.operand _ _ g nb in
      record {
        tree = cast_at o.place class x.tree;
        reads = unary_expression (unary_plain (cast (is_sign _ o h) (is_name class c n i) (is_sign _ e j) (plain_of x)));
        same = by.unplaced_cast o.place class x.tree ∙ ap (λ e. cast_at nowhere class e) x.same ∙ sym (by.unplaced_cast p class v);
      }

  pub cast_again : Again (cast_at p class v)
  cast_again = again_as _ _ (by.printed_cast p class v) (loosely _ _ (sign_formed sign.OPEN_PAREN (omega arith), (n.formed, (sign_formed sign.CLOSE_PAREN (omega arith), operand_formed _ v a))) cast_read)

module _ (p : Place) (t a b : Expr) (at : Again t) (aa : Again a) (ab : Again b) where
  cond_parts : {xs ms ns ys : Tokens} → Goes (operand_tokens t) xs ms → Goes (Sign sign.QUESTION ∷ operand_tokens a) ms ns → Goes (Sign sign.COLON ∷ operand_tokens b) ns ys → NoBracket ys →
      Reading Expression unplaced xs (cond_at p t a b) ys
  cond_parts {xs = xs} front (next {s = q} h second) (next {s = c} i third) nb =
      let x = at.operand _ _ front (other_sign _ q h refl) in
      let y = expression_of (aa.operand _ _ second (other_sign _ c i refl)) in
      let z = expression_of (ab.operand _ _ third nb) in
      let at = place_of xs in
      record {
        tree = cond_at at x.tree y.tree z.tree;
        reads = expression (level_of 10 (unary_of x)) (conditional (is_sign _ q h) y.reads (alternative (is_sign _ c i) z.reads));
        same = by.unplaced_cond at x.tree y.tree z.tree ∙ ap (λ e. cond_at nowhere e (unplaced y.tree) (unplaced z.tree)) x.same ∙ ap (λ e. cond_at nowhere (unplaced t) e (unplaced z.tree)) y.same
            ∙ ap (λ e. cond_at nowhere (unplaced t) (unplaced a) e) z.same ∙ sym (by.unplaced_cond p t a b);
      }

  cond_read : ReadWhole (operand_tokens t ++ Sign sign.QUESTION ∷ operand_tokens a ++ Sign sign.COLON ∷ operand_tokens b) (cond_at p t a b)
  cond_read xs ys g nb =
      let q = parted (operand_tokens t ++ Sign sign.QUESTION ∷ operand_tokens a) (Sign sign.COLON ∷ operand_tokens b) g in
      let r = parted (operand_tokens t) (Sign sign.QUESTION ∷ operand_tokens a) q.front in
      cond_parts r.front r.back q.back nb

  pub cond_again : Again (cond_at p t a b)
  cond_again = again_as _ _ (by.printed_cond p t a b) (loosely _ _
      (formed_append (operand_tokens t ++ Sign sign.QUESTION ∷ operand_tokens a) _
      (formed_append (operand_tokens t) _ (operand_formed _ t at) (sign_formed sign.QUESTION (omega arith), operand_formed _ a aa))
      (sign_formed sign.COLON (omega arith), operand_formed _ b ab)) cond_read)

-- ---- fields and elements

module _ (p : Place) (word : List ℕ) (n : Nameable word) where
  pub dot_formed : Formed (dot_name word)
  dot_formed = (sign_formed sign.DOT (omega arith), (n.formed, tt))

  module _ (o : Expr) (a : Again o) where
    field_parts : {xs ms ys : Tokens} → Goes (operand_tokens o) xs ms → Goes (dot_name word) ms ys → Operand xs (named_at p (Some o) word) ys
    field_parts {xs = xs} front (next {s = d} h (next {s = c} i done)) =
        let x = a.operand _ _ front (other_sign _ d h refl) in
        let at = place_of xs in
        record {
          tree = named_at at (Some x.tree) word;
          same = by.unplaced_field at x.tree word ∙ ap (λ e. named_at nowhere (Some e) word) x.same ∙ sym (by.unplaced_field p o word);
          goes_on = λ st. x.goes_on (member (is_sign _ d h) (uncalled (is_name word c n i)) st);
        }

    field_read : ReadArray (operand_tokens o ++ dot_name word) (named_at p (Some o) word)
    field_read xs ys g = let q = parted (operand_tokens o) (dot_name word) g in field_parts q.front q.back

    pub field_again : Again (named_at p (Some o) word)
    field_again = again_as _ _ (by.printed_field p o word) (alone _ _ (formed_append (operand_tokens o) _ (operand_formed _ o a) dot_formed) field_read)

index_parts : (i : Expr) → Again i → {xs ms ys : Tokens} → Goes (expr_tokens i) xs ms → Goes (Sign sign.CLOSE_BRACKET ∷ []) ms ys → Reading Bracketed unplaced xs i ys
index_parts i a front (next {s = c} j done) =
    let r = a.whole _ _ front (other_sign _ c j refl) in
    record { tree = r.tree; reads = bracketed r.reads (is_sign _ c j); same = r.same }

-- an index behind `[`
read_index : (i : Expr) → Again i → {xs ys : Tokens} → Goes (expr_tokens i ++ Sign sign.CLOSE_BRACKET ∷ []) xs ys → Reading Bracketed unplaced xs i ys
read_index i a g = let q = parted (expr_tokens i) (Sign sign.CLOSE_BRACKET ∷ []) g in index_parts i a q.front q.back

brackets_formed : (i : Expr) → Again i → Formed (in_brackets (expr_tokens i))
brackets_formed i a = (sign_formed sign.OPEN_BRACKET (omega arith), formed_append (expr_tokens i) _ a.formed (sign_formed sign.CLOSE_BRACKET (omega arith), tt))

module _ (p : Place) (o i : Expr) (ao : Again o) (ai : Again i) where
  element_parts : {xs ms ys : Tokens} → Goes (array (printed_expr o)) xs ms → Goes (in_brackets (expr_tokens i)) ms ys → Operand xs (index_at p o i) ys
  element_parts {xs = xs} front (next {s = b} h second) =
      let x = ao.array _ _ front in
      let y = read_index i ai second in
      let at = place_of xs in
      record {
        tree = index_at at x.tree y.tree;
        same = by.unplaced_index at x.tree y.tree ∙ ap (λ e. index_at nowhere e (unplaced y.tree)) x.same ∙ ap (λ e. index_at nowhere (unplaced o) e) y.same ∙ sym (by.unplaced_index p o i);
        goes_on = λ st. x.goes_on (element (is_sign _ b h) y.reads st);
      }

  index_read : ReadArray (array (printed_expr o) ++ in_brackets (expr_tokens i)) (index_at p o i)
  index_read xs ys g = let q = parted (array (printed_expr o)) (in_brackets (expr_tokens i)) g in element_parts q.front q.back

  pub index_again : Again (index_at p o i)
  index_again = again_as _ _ (by.printed_index p o i) (alone _ _ (formed_append (array (printed_expr o)) _ (array_formed _ o ao) (brackets_formed i ai)) index_read)

-- ---- calls

module _ (p : Place) (word : List ℕ) (n : Nameable word) (ts : List Expr) (as' : AllAgain ts) where
  call_formed : Formed (Word word ∷ arguments (map printed_expr ts))
  call_formed = (n.formed, arguments_formed ts as')

  call_read : ReadArray (Word word ∷ arguments (map printed_expr ts)) (called_at p None word ts)
  call_read xs ys (next {s = c} h (next {s = o} i g)) =
      let r = read_args ts as' g in
      record {
        tree = called_at c.place None word r.tree;
        same = by.unplaced_call c.place word r.tree ∙ ap (λ e. called_at nowhere None word e) r.same ∙ sym (by.unplaced_call p word ts);
        goes_on = λ st. postfix (name (called (is_name word c n h) (is_sign _ o i) r.reads)) st;
      }

  pub call_again : Again (called_at p None word ts)
  call_again = again_as _ _ (by.printed_call p word ts) (alone _ _ call_formed call_read)

  module _ (o : Expr) (a : Again o) where
    call_of_parts : {xs ms ns ys : Tokens} → Goes (operand_tokens o) xs ms → Goes (Sign sign.DOT ∷ []) ms ns → Goes (Word word ∷ arguments (map printed_expr ts)) ns ys → Operand xs (called_at p (Some o) word ts) ys
    call_of_parts {xs = xs} front (next {s = d} h done) (next {s = c} i (next {s = q} j g)) =
        let x = a.operand _ _ front (other_sign _ d h refl) in
        let r = read_args ts as' g in
        let at = place_of xs in
        record {
          tree = called_at at (Some x.tree) word r.tree;
          same = by.unplaced_call_of at x.tree word r.tree ∙ ap (λ e. called_at nowhere (Some e) word (map unplaced r.tree)) x.same ∙ ap (λ e. called_at nowhere (Some (unplaced o)) word e) r.same ∙ sym (by.unplaced_call_of p o word ts);
          goes_on = λ st. x.goes_on (member (is_sign _ d h) (called (is_name word c n i) (is_sign _ q j) r.reads) st);
        }

    call_of_read : ReadArray (receiver_tokens (printed_expr o) ++ Word word ∷ arguments (map printed_expr ts)) (called_at p (Some o) word ts)
    call_of_read xs ys g =
        let q = parted (receiver_tokens (printed_expr o)) (Word word ∷ arguments (map printed_expr ts)) g in
        let r = parted (operand_tokens o) (Sign sign.DOT ∷ []) q.front in
        call_of_parts r.front r.back q.back

    pub call_of_again : Again (called_at p (Some o) word ts)
    call_of_again = again_as _ _ (by.printed_call_of p o word ts) (alone _ _
        (formed_append (receiver_tokens (printed_expr o)) _ (formed_append (operand_tokens o) _ (operand_formed _ o a) (sign_formed sign.DOT (omega arith), tt)) call_formed) call_of_read)

  super_read : ReadArray (Word (codes "super") ∷ dot_name word ++ arguments (map printed_expr ts)) (super_at p word ts)
  super_read xs ys (next {s = s} h (next {s = d} i (next {s = c} j (next {s = o} k g)))) =
      let r = read_args ts as' g in
      record {
        tree = super_at s.place word r.tree;
        same = by.unplaced_super s.place word r.tree ∙ ap (λ e. super_at nowhere word e) r.same ∙ sym (by.unplaced_super p word ts);
        goes_on = λ st. postfix (super_call (is super_word s h) (is_sign _ d i) (is_name word c n j) (is_sign _ o k) r.reads) st;
      }

  pub super_again : Again (super_at p word ts)
  super_again = again_as _ _ (by.printed_super p word ts) (alone _ _ (super_word.form, (sign_formed sign.DOT (omega arith), (n.formed, arguments_formed ts as'))) super_read)

  new_read : ReadArray (Word (codes "new") ∷ Word word ∷ arguments (map printed_expr ts)) (new_at p word ts)
  new_read xs ys (next {s = s} h (next {s = c} j (next {s = o} k g))) =
      let r = read_args ts as' g in
      record {
        tree = new_at s.place word r.tree;
        same = by.unplaced_new s.place word r.tree ∙ ap (λ e. new_at nowhere word e) r.same ∙ sym (by.unplaced_new p word ts);
        goes_on = λ st. postfix (new_object (is new_word s h) (is_name word c n j) (is_sign _ o k) r.reads) st;
      }

  pub new_again : Again (new_at p word ts)
  new_again = again_as _ _ (by.printed_new p word ts) (alone _ _ (new_word.form, call_formed) new_read)

-- ---- a created array

module _ (p : Place) (elem : Ty) (e : IsElem elem) (size : Expr) (a : Again size) where
  array_parts : {xs ms ys : Tokens} (s : Token) → s.lexeme ≡ Word (codes "new") → OneElement elem xs ms → Goes (in_brackets (expr_tokens size)) ms ys → NoBracket ys → Operand (s ∷ xs) (array_at p elem size) ys
  array_parts s h (one_element t) (next {s = o} i g) nb =
      let r = read_index size a g in
      record {
        tree = array_at s.place elem r.tree;
        same = by.unplaced_array s.place elem r.tree ∙ ap (λ e. array_at nowhere elem e) r.same ∙ sym (by.unplaced_array p elem size);
        goes_on = λ st. postfix_array (new_array (is new_word s h) t (is_sign _ o i) r.reads) nb st;
      }

  array_read : ReadOperand (Word (codes "new") ∷ type_tokens elem ++ in_brackets (expr_tokens size)) (array_at p elem size)
  array_read xs ys (next {s = s} h g) nb =
      let q = parted (type_tokens elem) (in_brackets (expr_tokens size)) g in
      array_parts s h (read_elem elem e q.front) q.back nb

  pub array_again : Again (array_at p elem size)
  array_again = again_as _ _ (by.printed_array p elem size) (creates _ _ (new_word.form, formed_append (type_tokens elem) _ (elem_formed elem e) (brackets_formed size a)) array_read)
