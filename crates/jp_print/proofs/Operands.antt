-- What it means that an expression reads back, and what stands in parentheses.
use Rattle.std.proofs.Common.{◌≡◌, ℕ, zero, suc, ◌+◌, ◌<◌, ◌≤◌, Bool, true, false, List, [], ◌∷◌, ◌++◌, map, Option, Some, None, refl, sym, ap, ◌∙◌, subst, arith, cond}
use Rattle.std.specs.Prelude.{◌&&◌, not}
use Rattle.jp_ast.specs.declared.token.Token.{Token}
use Rattle.jp_ast.specs.declared.token.Lexeme.{Lexeme}
use Rattle.jp_ast.specs.declared.token.Lexeme.TheVariants.{Sign}
use Rattle.jp_ast.specs.declared.expr.Expr.{Expr}
use Rattle.jp_ast.specs.declared.sign.TheConstants as sign
use Rattle.jp_grammar.specs.declared.kind.Kind.{Kind}
use Rattle.jp_grammar.specs.declared.kind.Kind.TheVariants as k
use Rattle.jp_grammar.specs.Kinds.{IsSign, Tokens, place_of, kind_of_token, kind_of_lexeme}
use Rattle.jp_grammar.specs.Expressions.{Expression, Level, Unary, Plain, Postfix, Steps, Primary, NewArray, NoBracket, expression, unconditional, strongest, weaker, chain_end, unary_plain, plain_postfix, postfix, postfix_array, steps_end, parenthesis, closed}
use Rattle.jp_print.specs.Expressions.{Printed, in_parens, primary, created, loose, operand, array, printed_expr}
use Rattle.jp_print.specs.Places.{unplaced}
use Rattle.jp_print.proofs.Forms.{Formed, formed_append, is_sign, sign_formed}
use Rattle.jp_print.proofs.Goes.{Goes, done, next, Parted, parted, Reading, other_sign}

-- ---- levels

pub level_of : (n : ℕ) {xs zs : Tokens} {t : Expr} → Unary xs t zs → Level n xs t zs
level_of zero u = strongest u
level_of (suc n) u = weaker (level_of n u) chain_end

pub raised : (n k : ℕ) {xs zs : Tokens} {t : Expr} → Level k xs t zs → (d : ℕ) → d + k ≡ n → Level n xs t zs
raised n k {xs = xs} {zs = zs} {t = t} l zero e = let same : k ≡ n = omega (arith, e) in subst (λ (m : ℕ). Level m xs t zs) same l
raised n k {xs = xs} {zs = zs} {t = t} l (suc d) e = raised n (suc k) (weaker l chain_end) d (omega (arith, e))

pub unary_expression : {xs zs : Tokens} {t : Expr} → Unary xs t zs → Expression xs t zs
unary_expression u = expression (level_of 10 u) unconditional

-- ---- operands

-- From xs the expression is read, places aside, as the beginning of a postfix form that goes on behind ys.
pub record Operand (xs : Tokens) (t : Expr) (ys : Tokens) : Type 0 where
  pub tree : Expr
  pub same : unplaced tree ≡ unplaced t
  pub goes_on : {v : Expr} {zs : Tokens} → Steps (place_of xs) tree ys v zs → Postfix xs v zs

-- it alone
pub postfix_of : {xs ys : Tokens} {t : Expr} (o : Operand xs t ys) → Postfix xs o.tree ys
postfix_of o = o.goes_on steps_end

pub plain_of : {xs ys : Tokens} {t : Expr} (o : Operand xs t ys) → Plain xs o.tree ys
plain_of o = plain_postfix (postfix_of o)

pub unary_of : {xs ys : Tokens} {t : Expr} (o : Operand xs t ys) → Unary xs o.tree ys
unary_of o = unary_plain (plain_of o)

pub expression_of : {xs ys : Tokens} {t : Expr} → Operand xs t ys → Reading Expression unplaced xs t ys
expression_of o = record { tree = o.tree; reads = unary_expression (unary_of o); same = o.same }

-- read from tokens that are these, places aside, as a whole expression
abbrev pub ReadWhole : List Lexeme → Expr → Type 0
ReadWhole ls t = (xs ys : Tokens) → Goes ls xs ys → NoBracket ys → Reading Expression unplaced xs t ys

-- read as an operand that no `[` directly follows
abbrev pub ReadOperand : List Lexeme → Expr → Type 0
ReadOperand ls t = (xs ys : Tokens) → Goes ls xs ys → NoBracket ys → Operand xs t ys

-- read as an operand
abbrev pub ReadArray : List Lexeme → Expr → Type 0
ReadArray ls t = (xs ys : Tokens) → Goes ls xs ys → Operand xs t ys

-- Printed so, the expression reads back: as a whole, as an operand, and in front of `[`.
pub record PrintedAs (p : Printed) (t : Expr) : Type 0 where
  pub formed : Formed p.tokens
  pub whole : ReadWhole p.tokens t
  pub operand : ReadOperand (operand p) t
  pub array : ReadArray (array p) t

-- the expression reads back
abbrev pub Again : Expr → Type 0
Again t = PrintedAs (printed_expr t) t

-- ---- parentheses

pub parens_formed : (ls : List Lexeme) → Formed ls → Formed (in_parens ls)
parens_formed ls f = (sign_formed sign.OPEN_PAREN (omega arith), formed_append ls _ f (sign_formed sign.CLOSE_PAREN (omega arith), tt))

module _ (ls : List Lexeme) (t : Expr) (w : ReadWhole ls t) (o : Token) (h : o.lexeme ≡ Sign sign.OPEN_PAREN) where
  closing : {xs ms ys : Tokens} → Goes ls xs ms → Goes (Sign sign.CLOSE_PAREN ∷ []) ms ys → Operand (o ∷ xs) t ys
  closing front (next {s = c} i done) =
      let r = w _ _ front (other_sign _ c i refl) in
      record { tree = r.tree; same = r.same; goes_on = λ st. postfix (parenthesis (is_sign _ o h) (closed {t = r.tree} r.reads (is_sign _ c i))) st }

pub in_parentheses : (ls : List Lexeme) (t : Expr) → ReadWhole ls t → {xs ys : Tokens} → Goes (in_parens ls) xs ys → Operand xs t ys
in_parentheses ls t w (next {s = o} h g) = let p = parted ls (Sign sign.CLOSE_PAREN ∷ []) g in closing ls t w o h p.front p.back

-- a primary or a postfix form other than a created array
pub alone : (ls : List Lexeme) (t : Expr) → Formed ls → ReadArray ls t → PrintedAs (primary ls) t
alone ls t f o = record {
  formed = f;
  whole = λ xs ys g b. expression_of (o xs ys g);
  operand = λ xs ys g b. o xs ys g;
  array = o;
}

-- a created array
pub creates : (ls : List Lexeme) (t : Expr) → Formed ls → ReadOperand ls t → PrintedAs (created ls) t
creates ls t f o = record {
  formed = f;
  whole = λ xs ys g b. expression_of (o xs ys g b);
  operand = o;
  array = λ xs ys g. in_parentheses ls t (λ xs ys g b. expression_of (o xs ys g b)) g;
}

-- anything else
pub loosely : (ls : List Lexeme) (t : Expr) → Formed ls → ReadWhole ls t → PrintedAs (loose ls) t
loosely ls t f w = record {
  formed = f;
  whole = w;
  operand = λ xs ys g b. in_parentheses ls t w g;
  array = λ xs ys g. in_parentheses ls t w g;
}

-- ---- the forms of an operand

pub operand_formed : (p : Printed) (t : Expr) → PrintedAs p t → Formed (operand p)
operand_formed p t a = elim p.alone as (λ b. Formed (cond b p.tokens (in_parens p.tokens))) [ true ↦ a.formed | false ↦ parens_formed p.tokens a.formed ]

pub array_formed : (p : Printed) (t : Expr) → PrintedAs p t → Formed (array p)
array_formed p t a = elim (p.alone && not p.creates) as (λ b. Formed (cond b p.tokens (in_parens p.tokens))) [ true ↦ a.formed | false ↦ parens_formed p.tokens a.formed ]
