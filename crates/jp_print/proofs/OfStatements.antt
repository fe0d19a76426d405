-- Statements read back.
use Rattle.std.proofs.Common.{◌≡◌, ℕ, Bool, true, false, List, [], ◌∷◌, ◌++◌, map, Option, Some, None, refl, sym, ap, ◌∙◌, subst, append_assoc, arith, codes, IsTrue}
use Rattle.std.specs.Prelude.{if◌then◌else◌, flat_map, option_map}
use Rattle.std.specs.List.{AllByRecursion}
use Rattle.jp_pred.specs.declared.ty.Ty.{Ty}
use Rattle.jp_ast.specs.declared.token.Place.{Place}
use Rattle.jp_ast.specs.declared.token.Token.{Token}
use Rattle.jp_ast.specs.declared.token.Lexeme.{Lexeme}
use Rattle.jp_ast.specs.declared.token.Lexeme.TheVariants.{Word, Sign}
use Rattle.jp_ast.specs.declared.expr.Expr.{Expr}
use Rattle.jp_ast.specs.declared.stmt.Stmt.{Stmt}
use Rattle.jp_ast.specs.declared.sign.TheConstants as sign
use Rattle.jp_grammar.specs.declared.kind.Kind.{Kind}
use Rattle.jp_grammar.specs.declared.kind.Kind.TheVariants as k
use Rattle.jp_grammar.specs.Kinds.{IsSign, Tokens, place_of, nowhere}
use Rattle.jp_grammar.specs.Expressions.{Expression, NoBracket}
use Rattle.jp_grammar.specs.Statements.{OneType, is_assignment, IsBump, Change, Declared, Init, MaybeInit, MaybeExpr, MaybeChange, Test, Statement, Else, Block, assign, bump, run, declared, init_local, init_change, no_init, some_init, no_expr, some_expr, no_change, some_change, test, block, empty, local, local_value, when_true, while_true, for_each, break_off, continue_on, return_from, change, no_else, some_else, block_end, block_more}
use Rattle.jp_print.specs.Expressions.{in_parens, maybe, type_tokens, expr_tokens, operand_tokens, printed_expr}
use Rattle.jp_print.specs.Statements.{PrintedStmt, ended, unended, whole, in_braces, all_tokens, block_tokens, initial_value, condition, else_branch, for_init, for_test, for_change, printed_stmt}
use Rattle.jp_print.specs.Places.{unplaced, unplaced_stmt}
use Rattle.jp_print.specs.ReadsBack.{HasForm}
use Rattle.jp_print.proofs.Forms.{Formed, FormedTokens, formed_append, Nameable, nameable, is_name, is_sign, sign_formed, sign_form}
use Rattle.jp_print.proofs.Keywords.{is, if_word, else_word, while_word, for_word, break_word, continue_word, return_word}
use Rattle.jp_print.proofs.Goes.{Goes, done, next, Parted, parted, Reading, pushed, all_pushed, no_bracket, other_sign}
use Rattle.jp_print.proofs.Types.{IsType, type_of, value_formed, read_type}
use Rattle.jp_print.proofs.Operands as expr
use Rattle.jp_print.proofs.Operands.{postfix_of, operand_formed, parens_formed}
use Rattle.jp_print.proofs.FromExpressions.{expression_again, postfix_again}
use Rattle.jp_print.proofs.StmtEquations as by
use Rattle.jp_print.proofs.StmtEquations.{block_at, empty_at, local_at, if_at, while_at, for_at, break_at, continue_at, return_at, assign_at, bump_at, run_at}

-- ---- what may be left out

-- an expression that reads back, where there is one
abbrev pub ExprIf : Option Expr → Type 0
ExprIf None = Unit {0}
ExprIf (Some e) = expr.Again e

value_formed_if : (value : Option Expr) → ExprIf value → Formed (maybe expr_tokens value)
value_formed_if None a = tt
value_formed_if (Some e) a = a.formed

read_maybe : (value : Option Expr) → ExprIf value → {xs ms ys : Tokens} → Goes (maybe expr_tokens value) xs ms → Goes (Sign sign.SEMICOLON ∷ []) ms ys →
    Reading MaybeExpr (option_map unplaced) xs value ys
read_maybe None a done (next {s = p} h done) = record { tree = None; reads = no_expr (is_sign _ p h); same = refl }
read_maybe (Some e) a g (next {s = p} h done) =
    let r = a.whole _ _ g (other_sign _ p h refl) in
    record { tree = Some r.tree; reads = some_expr r.reads (is_sign _ p h); same = ap (λ x. Some x) r.same }

-- ---- statements that may stand in the head of a `for`

-- Printed with a `;` behind it, the statement reads back in front of the `;`.
pub record Inner (R : Tokens → Stmt → Tokens → Type 0) (t : Stmt) : Type 0 where
  pub tokens : List Lexeme
  pub printed : printed_stmt t ≡ ended tokens
  pub formed : Formed tokens
  pub read : (xs ys : Tokens) → Goes tokens xs ys → NoBracket ys → Reading R unplaced_stmt xs t ys

assignment_other : (b : ℕ) → IsTrue (is_assignment b) → (k.Sign b ≡ k.Sign sign.OPEN_BRACKET) → ⊥
assignment_other b i e =
    let same : b ≡ sign.OPEN_BRACKET = cc in
    let g : is_assignment sign.OPEN_BRACKET ≡ true = subst (λ (x : ℕ). is_assignment x ≡ true) same i in cc

bump_sign : (up : Bool) → HasForm (Sign (if up then sign.INCREMENT else sign.DECREMENT))
bump_sign true = sign_formed sign.INCREMENT (omega arith)
bump_sign false = sign_formed sign.DECREMENT (omega arith)

is_bump : (up : Bool) (s : Token) → s.lexeme ≡ Sign (if up then sign.INCREMENT else sign.DECREMENT) → IsBump up s
is_bump true s h = is_sign _ s h
is_bump false s h = is_sign _ s h

bump_other : (up : Bool) (s : Token) → s.lexeme ≡ Sign (if up then sign.INCREMENT else sign.DECREMENT) → IsSign sign.OPEN_BRACKET s → ⊥
bump_other true s h = other_sign _ s h refl
bump_other false s h = other_sign _ s h refl

module _ (p : Place) where
  module _ (left right : Expr) (al : expr.Again left) (ar : expr.Again right) (b : ℕ) (f : HasForm (Sign b)) (i : IsTrue (is_assignment b)) where
    assign_parts : {xs ms ys : Tokens} → Goes (operand_tokens left) xs ms → Goes (Sign b ∷ expr_tokens right) ms ys → NoBracket ys → Reading Change unplaced_stmt xs (assign_at p left b right) ys
    assign_parts {xs = xs} front (next {s = s} h g) nb =
        let x = al.operand _ _ front (no_bracket (Sign b) s h (assignment_other b i)) in
        let y = ar.whole _ _ g nb in
        let at = place_of xs in
        record {
          tree = assign_at at x.tree b y.tree;
          reads = assign (postfix_of x) (is_sign b s h) i y.reads;
          same = by.unplaced_assign at x.tree b y.tree ∙ ap (λ e. assign_at nowhere e b (unplaced y.tree)) x.same ∙ ap (λ e. assign_at nowhere (unplaced left) b e) y.same ∙ sym (by.unplaced_assign p left b right);
        }

    pub assign_inner : Inner Change (assign_at p left b right)
    assign_inner = record {
      tokens = operand_tokens left ++ Sign b ∷ expr_tokens right;
      printed = by.printed_assign p left b right;
      formed = formed_append (operand_tokens left) _ (operand_formed _ left al) (f, ar.formed);
      read = λ xs ys g nb. let q = parted (operand_tokens left) (Sign b ∷ expr_tokens right) g in assign_parts q.front q.back nb;
    }

  module _ (left : Expr) (al : expr.Again left) where
    bump_parts : (up : Bool) → {xs ms ys : Tokens} → Goes (operand_tokens left) xs ms → Goes (Sign (if up then sign.INCREMENT else sign.DECREMENT) ∷ []) ms ys → Reading Change unplaced_stmt xs (bump_at p left up) ys
    bump_parts up {xs = xs} front (next {s = s} h done) =
        let x = al.operand _ _ front (bump_other up s h) in
        let at = place_of xs in
        record {
          tree = bump_at at x.tree up;
          reads = bump (postfix_of x) (is_bump up s h);
          same = by.unplaced_bump at x.tree up ∙ ap (λ e. bump_at nowhere e up) x.same ∙ sym (by.unplaced_bump p left up);
        }

    pub bump_inner : (up : Bool) → Inner Change (bump_at p left up)
    bump_inner up = record {
      tokens = operand_tokens left ++ Sign (if up then sign.INCREMENT else sign.DECREMENT) ∷ [];
      printed = by.printed_bump p left up;
      formed = formed_append (operand_tokens left) _ (operand_formed _ left al) (bump_sign up, tt);
      read = λ xs ys g nb. let q = parted (operand_tokens left) (Sign (if up then sign.INCREMENT else sign.DECREMENT) ∷ []) g in bump_parts up q.front q.back;
    }

    run_read : (xs ys : Tokens) → Goes (operand_tokens left) xs ys → NoBracket ys → Reading Change unplaced_stmt xs (run_at p left) ys
    run_read xs ys g nb =
        let x = al.operand _ _ g nb in
        let at = place_of xs in
        record { tree = run_at at x.tree; reads = run (postfix_of x); same = by.unplaced_run at x.tree ∙ ap (λ e. run_at nowhere e) x.same ∙ sym (by.unplaced_run p left) }

    pub run_inner : Inner Change (run_at p left)
    run_inner = record { tokens = operand_tokens left; printed = by.printed_run p left; formed = operand_formed _ left al; read = run_read }

  module _ (ty : Ty) (i : IsType ty) (name : List ℕ) (n : Nameable name) where
    module _ (value : Expr) (a : expr.Again value) where
      local_parts : {xs ms ys : Tokens} → Goes (type_tokens ty) xs ms → Goes (Word name ∷ initial_value value) ms ys → NoBracket ys → Reading Declared unplaced_stmt xs (local_at p ty name (Some value)) ys
      local_parts {xs = xs} front (next {s = c} h (next {s = e} j g)) nb =
          let y = a.whole _ _ g nb in
          let at = place_of xs in
          record {
            tree = local_at at ty name (Some y.tree);
            reads = declared (read_type ty i front) (is_name name c n h) (is_sign _ e j) y.reads;
            same = by.unplaced_local at ty name (Some y.tree) ∙ ap (λ e. local_at nowhere ty name (Some e)) y.same ∙ sym (by.unplaced_local p ty name (Some value));
          }

      pub local_inner : Inner Declared (local_at p ty name (Some value))
      local_inner = record {
        tokens = type_tokens ty ++ Word name ∷ initial_value value;
        printed = by.printed_local p ty name (Some value);
        formed = formed_append (type_tokens ty) _ (value_formed ty i) (n.formed, (sign_formed sign.ASSIGN (omega arith), a.formed));
        read = λ xs ys g nb. let q = parted (type_tokens ty) (Word name ∷ initial_value value) g in local_parts q.front q.back nb;
      }

pub change_inner : {xs zs : Tokens} {t : Stmt} → Change xs t zs → FormedTokens xs → Inner Change t × FormedTokens zs
change_inner {xs = xs} (assign {s = s} {b = b} l h i r) f =
    let x = postfix_again l f in let y = expression_again r x.1.1 in (assign_inner (place_of xs) _ _ x.0 y.0 b (sign_form b s h x.1.0) i, y.1)
change_inner {xs = xs} (bump {up = up} l h) f = let x = postfix_again l f in (bump_inner (place_of xs) _ x.0 up, x.1.1)
change_inner {xs = xs} (run r) f = let x = postfix_again r f in (run_inner (place_of xs) _ x.0, x.1)

pub declared_inner : {xs zs : Tokens} {t : Stmt} → Declared xs t zs → FormedTokens xs → Inner Declared t × FormedTokens zs
declared_inner {xs = xs} (declared {c = c} {name = name} {t = ty} r n h v) f =
    let x = type_of r f in let y = expression_again v x.1.1.1 in (local_inner (place_of xs) ty x.0 name (nameable name c n x.1.0) _ y.0, y.1)

wider : (R S : Tokens → Stmt → Tokens → Type 0) (t : Stmt) → ((xs : Tokens) (u : Stmt) (zs : Tokens) → R xs u zs → S xs u zs) → Inner R t → Inner S t
wider R S t into i = record {
  tokens = i.tokens;
  printed = i.printed;
  formed = i.formed;
  read = λ xs ys g nb. let r = i.read xs ys g nb in record { tree = r.tree; reads = into _ _ _ r.reads; same = r.same };
}

pub init_inner : {xs zs : Tokens} {t : Stmt} → Init xs t zs → FormedTokens xs → Inner Init t × FormedTokens zs
init_inner (init_local d) f = let a = declared_inner d f in (wider Declared Init _ (λ xs u zs r. init_local r) a.0, a.1)
init_inner (init_change c) f = let a = change_inner c f in (wider Change Init _ (λ xs u zs r. init_change r) a.0, a.1)

-- ---- the head of a `for`

abbrev pub InnerIf : (Tokens → Stmt → Tokens → Type 0) → Option Stmt → Type 0
InnerIf R None = Unit {0}
InnerIf R (Some t) = Inner R t

-- the tokens in front of the `;`
abbrev pub inner_tokens : Option Stmt → List Lexeme
inner_tokens t = maybe (λ i. i.inner) (option_map printed_stmt t)

inner_formed : (R : Tokens → Stmt → Tokens → Type 0) (t : Option Stmt) → InnerIf R t → Formed (inner_tokens t)
inner_formed R None i = tt
inner_formed R (Some t) i = subst (λ (x : PrintedStmt). Formed x.inner) (sym i.printed) i.formed

inner_goes : (R : Tokens → Stmt → Tokens → Type 0) (t : Stmt) (i : Inner R t) → {xs ys : Tokens} → Goes (inner_tokens (Some t)) xs ys → Goes i.tokens xs ys
inner_goes R t i {xs = xs} {ys = ys} g = subst (λ (x : PrintedStmt). Goes x.inner xs ys) i.printed g

read_init : (t : Option Stmt) → InnerIf Init t → {xs ms ys : Tokens} → Goes (inner_tokens t) xs ms → Goes (Sign sign.SEMICOLON ∷ []) ms ys → Reading MaybeInit (option_map unplaced_stmt) xs t ys
read_init None i done (next {s = p} h done) = record { tree = None; reads = no_init (is_sign _ p h); same = refl }
read_init (Some t) i g (next {s = p} h done) =
    let r = i.read _ _ (inner_goes Init t i g) (other_sign _ p h refl) in
    record { tree = Some r.tree; reads = some_init r.reads (is_sign _ p h); same = ap (λ x. Some x) r.same }

read_change : (t : Option Stmt) → InnerIf Change t → {xs ms ys : Tokens} → Goes (inner_tokens t) xs ms → Goes (Sign sign.CLOSE_PAREN ∷ []) ms ys → Reading MaybeChange (option_map unplaced_stmt) xs t ys
read_change None i done (next {s = p} h done) = record { tree = None; reads = no_change (is_sign _ p h); same = refl }
read_change (Some t) i g (next {s = p} h done) =
    let r = i.read _ _ (inner_goes Change t i g) (other_sign _ p h refl) in
    record { tree = Some r.tree; reads = some_change r.reads (is_sign _ p h); same = ap (λ x. Some x) r.same }

-- ---- statements

-- read as a statement that ends in an `if` without `else`, or doesn't
abbrev pub StatementOf : Bool → Tokens → Stmt → Tokens → Type 0
StatementOf short xs t ys = Statement xs t short ys

-- Printed so, the statement reads back.
pub record PrintedAs (p : PrintedStmt) (t : Stmt) (short : Bool) : Type 0 where
  pub formed : Formed (whole p)
  pub read : (xs ys : Tokens) → Goes (whole p) xs ys → Reading (StatementOf short) unplaced_stmt xs t ys

-- the statement reads back
abbrev pub AgainAs : Stmt → Bool → Type 0
AgainAs t short = PrintedAs (printed_stmt t) t short

again_as : (t : Stmt) (short : Bool) (p : PrintedStmt) → printed_stmt t ≡ p → PrintedAs p t short → AgainAs t short
again_as t short p e a = subst (λ (x : PrintedStmt). PrintedAs x t short) (sym e) a

pub record Again (t : Stmt) : Type 0 where
  pub short : Bool
  pub as' : AgainAs t short

abbrev pub AllAgain : List Stmt → Type 0
AllAgain ts = AllByRecursion Again ts

pub all_append : (ts us : List Stmt) → AllAgain ts → AllAgain us → AllAgain (ts ++ us)
all_append [] us a b = b
all_append (t ∷ ts) us a b = (a.0, all_append ts us a.1 b)

-- the tokens of statements one behind the other
abbrev pub stmts_tokens : List Stmt → List Lexeme
stmts_tokens ts = all_tokens (map printed_stmt ts)

pub stmts_formed : (ts : List Stmt) → AllAgain ts → Formed (stmts_tokens ts)
stmts_formed [] a = tt
stmts_formed (t ∷ ts) a = formed_append (whole (printed_stmt t)) _ a.0.as'.formed (stmts_formed ts a.1)

pub read_block : (ts begun : List Stmt) → AllAgain ts → {xs ms ys : Tokens} → Goes (stmts_tokens ts) xs ms → Goes (Sign sign.CLOSE_BRACE ∷ []) ms ys → Reading (Block begun) (map unplaced_stmt) xs (begun ++ ts) ys
read_block [] begun a done (next {s = p} h done) = record { tree = begun; reads = block_end (is_sign _ p h); same = all_pushed unplaced_stmt begun }
read_block (t ∷ ts) begun a g h =
    let p = parted (whole (printed_stmt t)) (stmts_tokens ts) g in
    let r = a.0.as'.read _ _ p.front in
    let m = read_block ts (begun ++ r.tree ∷ []) a.1 p.back h in
    record { tree = m.tree; reads = block_more r.reads m.reads; same = m.same ∙ pushed unplaced_stmt begun r.tree t ts r.same }

pub braces_formed : (ls : List Lexeme) → Formed ls → Formed (in_braces ls)
braces_formed ls f = (sign_formed sign.OPEN_BRACE (omega arith), formed_append ls _ f (sign_formed sign.CLOSE_BRACE (omega arith), tt))

-- a condition in parentheses
condition_formed : (e : Expr) → expr.Again e → Formed (condition e)
condition_formed e a = parens_formed (expr_tokens e) a.formed

condition_parts : (e : Expr) → expr.Again e → {xs ms ys : Tokens} (o : Token) → o.lexeme ≡ Sign sign.OPEN_PAREN → Goes (expr_tokens e) xs ms → Goes (Sign sign.CLOSE_PAREN ∷ []) ms ys → Reading Test unplaced (o ∷ xs) e ys
condition_parts e a o h front (next {s = c} i done) =
    let r = a.whole _ _ front (other_sign _ c i refl) in
    record { tree = r.tree; reads = test (is_sign _ o h) r.reads (is_sign _ c i); same = r.same }

read_condition : (e : Expr) → expr.Again e → {xs ys : Tokens} → Goes (condition e) xs ys → Reading Test unplaced xs e ys
read_condition e a (next {s = o} h g) = let p = parted (expr_tokens e) (Sign sign.CLOSE_PAREN ∷ []) g in condition_parts e a o h p.front p.back

module _ (p : Place) where
  -- ---- blocks and short statements

  block_read : (ts : List Stmt) → AllAgain ts → (xs ys : Tokens) → Goes (block_tokens (map printed_stmt ts)) xs ys → Reading (StatementOf false) unplaced_stmt xs (block_at p ts) ys
  block_read ts a xs ys (next {s = s} h g) =
      let q = parted (stmts_tokens ts) (Sign sign.CLOSE_BRACE ∷ []) g in
      let r = read_block ts [] a q.front q.back in
      record { tree = block_at s.place r.tree; reads = block (is_sign _ s h) r.reads; same = by.unplaced_block s.place r.tree ∙ ap (λ x. block_at nowhere x) r.same ∙ sym (by.unplaced_block p ts) }

  pub block_again : (ts : List Stmt) → AllAgain ts → AgainAs (block_at p ts) false
  block_again ts a = again_as _ _ _ (by.printed_block p ts) (record { formed = braces_formed (stmts_tokens ts) (stmts_formed ts a); read = block_read ts a })

  empty_read : (xs ys : Tokens) → Goes (Sign sign.SEMICOLON ∷ []) xs ys → Reading (StatementOf false) unplaced_stmt xs (empty_at p) ys
  empty_read xs ys (next {s = s} h done) = record { tree = empty_at s.place; reads = empty (is_sign _ s h); same = by.unplaced_empty s.place ∙ sym (by.unplaced_empty p) }

  pub empty_again : AgainAs (empty_at p) false
  empty_again = again_as _ _ _ (by.printed_empty p) (record { formed = (sign_formed sign.SEMICOLON (omega arith), tt); read = empty_read })

  break_read : (xs ys : Tokens) → Goes (Word (codes "break") ∷ Sign sign.SEMICOLON ∷ []) xs ys → Reading (StatementOf false) unplaced_stmt xs (break_at p) ys
  break_read xs ys (next {s = s} h (next {s = e} i done)) = record { tree = break_at s.place; reads = break_off (is break_word s h) (is_sign _ e i); same = by.unplaced_break s.place ∙ sym (by.unplaced_break p) }

  pub break_again : AgainAs (break_at p) false
  break_again = again_as _ _ _ (by.printed_break p) (record { formed = (break_word.form, (sign_formed sign.SEMICOLON (omega arith), tt)); read = break_read })

  continue_read : (xs ys : Tokens) → Goes (Word (codes "continue") ∷ Sign sign.SEMICOLON ∷ []) xs ys → Reading (StatementOf false) unplaced_stmt xs (continue_at p) ys
  continue_read xs ys (next {s = s} h (next {s = e} i done)) =
      record { tree = continue_at s.place; reads = continue_on (is continue_word s h) (is_sign _ e i); same = by.unplaced_continue s.place ∙ sym (by.unplaced_continue p) }

  pub continue_again : AgainAs (continue_at p) false
  continue_again = again_as _ _ _ (by.printed_continue p) (record { formed = (continue_word.form, (sign_formed sign.SEMICOLON (omega arith), tt)); read = continue_read })

  module _ (value : Option Expr) (a : ExprIf value) where
    return_read : (xs ys : Tokens) → Goes (Word (codes "return") ∷ maybe expr_tokens value ++ Sign sign.SEMICOLON ∷ []) xs ys → Reading (StatementOf false) unplaced_stmt xs (return_at p value) ys
    return_read xs ys (next {s = s} h g) =
        let q = parted (maybe expr_tokens value) (Sign sign.SEMICOLON ∷ []) g in
        let r = read_maybe value a q.front q.back in
        record { tree = return_at s.place r.tree; reads = return_from (is return_word s h) r.reads; same = by.unplaced_return s.place r.tree ∙ ap (λ x. return_at nowhere x) r.same ∙ sym (by.unplaced_return p value) }

    pub return_again : AgainAs (return_at p value) false
    return_again = again_as _ _ _ (by.printed_return p value) (record {
      formed = (return_word.form, formed_append (maybe expr_tokens value) _ (value_formed_if value a) (sign_formed sign.SEMICOLON (omega arith), tt));
      read = return_read;
    })

  module _ (ty : Ty) (i : IsType ty) (name : List ℕ) (n : Nameable name) where
    local_alone : {xs ms ys : Tokens} → Goes (type_tokens ty) xs ms → Goes (Word name ∷ Sign sign.SEMICOLON ∷ []) ms ys → Reading (StatementOf false) unplaced_stmt xs (local_at p ty name None) ys
    local_alone {xs = xs} front (next {s = c} h (next {s = e} j done)) =
        let at = place_of xs in
        record {
          tree = local_at at ty name None;
          reads = local (read_type ty i front) (is_name name c n h) (is_sign _ e j);
          same = by.unplaced_local at ty name None ∙ sym (by.unplaced_local p ty name None);
        }

    local_read : (xs ys : Tokens) → Goes ((type_tokens ty ++ Word name ∷ []) ++ Sign sign.SEMICOLON ∷ []) xs ys → Reading (StatementOf false) unplaced_stmt xs (local_at p ty name None) ys
    local_read xs ys g =
        let e = append_assoc (type_tokens ty) (Word name ∷ []) (Sign sign.SEMICOLON ∷ []) in
        let q = parted (type_tokens ty) (Word name ∷ Sign sign.SEMICOLON ∷ []) (subst (λ (ls : List Lexeme). Goes ls xs ys) e g) in
        local_alone q.front q.back

    pub local_again : AgainAs (local_at p ty name None) false
    local_again = again_as _ _ _ (by.printed_local p ty name None) (record {
      formed = formed_append (type_tokens ty ++ Word name ∷ []) _ (formed_append (type_tokens ty) _ (value_formed ty i) (n.formed, tt)) (sign_formed sign.SEMICOLON (omega arith), tt);
      read = local_read;
    })

-- what reads back in front of `;` is a statement with it
module _ (R : Tokens → Stmt → Tokens → Type 0) (into : (xs zs : Tokens) (s : Token) (u : Stmt) → R xs u (s ∷ zs) → IsSign sign.SEMICOLON s → Statement xs u false zs) (t : Stmt) (i : Inner R t) where
  ended_parts : {xs ms ys : Tokens} → Goes i.tokens xs ms → Goes (Sign sign.SEMICOLON ∷ []) ms ys → Reading (StatementOf false) unplaced_stmt xs t ys
  ended_parts front (next {s = e} h done) = let r = i.read _ _ front (other_sign _ e h refl) in record { tree = r.tree; reads = into _ _ e r.tree r.reads (is_sign _ e h); same = r.same }

  pub ended_again : AgainAs t false
  ended_again = again_as _ _ _ i.printed (record {
    formed = formed_append i.tokens _ i.formed (sign_formed sign.SEMICOLON (omega arith), tt);
    read = λ xs ys g. let q = parted i.tokens (Sign sign.SEMICOLON ∷ []) g in ended_parts q.front q.back;
  })

module _ (p : Place) (e : Expr) (ae : expr.Again e) where
  -- ---- `if`

  module _ (first : Stmt) where
    if_read : (inner : Bool) → AgainAs first inner → (xs ys : Tokens) → Goes (Word (codes "if") ∷ condition e ++ whole (printed_stmt first) ++ []) xs ys → Reading (StatementOf true) unplaced_stmt xs (if_at p e first None) ys
    if_read inner a xs ys (next {s = s} h g) =
        let o = parted (condition e ++ whole (printed_stmt first)) [] g in
        let q = parted (condition e) (whole (printed_stmt first)) o.front in
        let x = read_condition e ae q.front in
        let y = a.read _ _ q.back in
        nothing_behind s h x.tree x.same x.reads y o.back where
          nothing_behind : {xs ms ns zs : Tokens} (s : Token) → s.lexeme ≡ Word (codes "if") → (u : Expr) → unplaced u ≡ unplaced e → Test xs u ms → Reading (StatementOf inner) unplaced_stmt ms first ns → Goes [] ns zs →
              Reading (StatementOf true) unplaced_stmt (s ∷ xs) (if_at p e first None) zs
          nothing_behind s h u same x y done = record {
            tree = if_at s.place u y.tree None;
            reads = when_true (is if_word s h) x y.reads no_else;
            same = by.unplaced_if s.place u y.tree None ∙ ap (λ z. if_at nowhere z (unplaced_stmt y.tree) None) same ∙ ap (λ z. if_at nowhere (unplaced e) z None) y.same ∙ sym (by.unplaced_if p e first None);
          }

    pub if_again : (inner : Bool) → AgainAs first inner → AgainAs (if_at p e first None) true
    if_again inner a = again_as _ _ _ (by.printed_if p e first None) (record {
      formed = (if_word.form, formed_append (condition e ++ whole (printed_stmt first)) [] (formed_append (condition e) _ (condition_formed e ae) a.formed) tt);
      read = if_read inner a;
    })

    module _ (second : Stmt) (short : Bool) (a : AgainAs first false) (b : AgainAs second short) where
      else_parts : {xs ms ns zs : Tokens} (s : Token) → s.lexeme ≡ Word (codes "if") → Reading Test unplaced xs e ms → Reading (StatementOf false) unplaced_stmt ms first ns → Goes (Word (codes "else") ∷ whole (printed_stmt second)) ns zs →
          Reading (StatementOf short) unplaced_stmt (s ∷ xs) (if_at p e first (Some second)) zs
      else_parts s h x y (next {s = l} i g) =
          let z = b.read _ _ g in
          record {
            tree = if_at s.place x.tree y.tree (Some z.tree);
            reads = when_true (is if_word s h) x.reads y.reads (some_else (is else_word l i) z.reads);
            same = by.unplaced_if s.place x.tree y.tree (Some z.tree) ∙ ap (λ u. if_at nowhere u (unplaced_stmt y.tree) (Some (unplaced_stmt z.tree))) x.same ∙ ap (λ u. if_at nowhere (unplaced e) u (Some (unplaced_stmt z.tree))) y.same
                ∙ ap (λ u. if_at nowhere (unplaced e) (unplaced_stmt first) (Some u)) z.same ∙ sym (by.unplaced_if p e first (Some second));
          }

      else_read : (xs ys : Tokens) → Goes (Word (codes "if") ∷ condition e ++ whole (printed_stmt first) ++ Word (codes "else") ∷ whole (printed_stmt second)) xs ys → Reading (StatementOf short) unplaced_stmt xs (if_at p e first (Some second)) ys
      else_read xs ys (next {s = s} h g) =
          let o = parted (condition e ++ whole (printed_stmt first)) (Word (codes "else") ∷ whole (printed_stmt second)) g in
          let q = parted (condition e) (whole (printed_stmt first)) o.front in
          else_parts s h (read_condition e ae q.front) (a.read _ _ q.back) o.back

      pub else_again : AgainAs (if_at p e first (Some second)) short
      else_again = again_as _ _ _ (by.printed_if p e first (Some second)) (record {
        formed = (if_word.form, formed_append (condition e ++ whole (printed_stmt first)) _ (formed_append (condition e) _ (condition_formed e ae) a.formed) (else_word.form, b.formed));
        read = else_read;
      })

  -- ---- `while`

  module _ (body : Stmt) (short : Bool) (a : AgainAs body short) where
    while_read : (xs ys : Tokens) → Goes (Word (codes "while") ∷ condition e ++ whole (printed_stmt body)) xs ys → Reading (StatementOf short) unplaced_stmt xs (while_at p e body) ys
    while_read xs ys (next {s = s} h g) =
        let q = parted (condition e) (whole (printed_stmt body)) g in
        let x = read_condition e ae q.front in
        let y = a.read _ _ q.back in
        record {
          tree = while_at s.place x.tree y.tree;
          reads = while_true (is while_word s h) x.reads y.reads;
          same = by.unplaced_while s.place x.tree y.tree ∙ ap (λ u. while_at nowhere u (unplaced_stmt y.tree)) x.same ∙ ap (λ u. while_at nowhere (unplaced e) u) y.same ∙ sym (by.unplaced_while p e body);
        }

    pub while_again : AgainAs (while_at p e body) short
    while_again = again_as _ _ _ (by.printed_while p e body) (record { formed = (while_word.form, formed_append (condition e) _ (condition_formed e ae) a.formed); read = while_read })

-- ---- `for`

module _ (p : Place) (i : Option Stmt) (e : Option Expr) (c : Option Stmt) (ai : InnerIf Init i) (ae : ExprIf e) (ac : InnerIf Change c) (body : Stmt) (short : Bool) (a : AgainAs body short) where
  abbrev first_part : List Lexeme
  first_part = for_init (option_map printed_stmt i)

  abbrev last_part : List Lexeme
  last_part = for_change (option_map printed_stmt c)

  init_formed : Formed first_part
  init_formed = (for_word.form, (sign_formed sign.OPEN_PAREN (omega arith), inner_formed Init i ai))

  test_formed : Formed (for_test e)
  test_formed = (sign_formed sign.SEMICOLON (omega arith), value_formed_if e ae)

  change_formed : Formed last_part
  change_formed = (sign_formed sign.SEMICOLON (omega arith), formed_append (inner_tokens c) _ (inner_formed Change c ac) (sign_formed sign.CLOSE_PAREN (omega arith), tt))

  change_read : {xs ys : Tokens} → Goes (inner_tokens c ++ Sign sign.CLOSE_PAREN ∷ []) xs ys → Reading MaybeChange (option_map unplaced_stmt) xs c ys
  change_read g = let q = parted (inner_tokens c) (Sign sign.CLOSE_PAREN ∷ []) g in read_change c ac q.front q.back

  loop_parts : {x0 x1 x2 x3 ys : Tokens} → Goes first_part x0 x1 → Goes (for_test e) x1 x2 → Goes last_part x2 x3 → Goes (whole (printed_stmt body)) x3 ys →
      Reading (StatementOf short) unplaced_stmt x0 (for_at p i e c body) ys
  loop_parts (next {s = s} h (next {s = o} j gi)) (next {s = m} k ge) (next {s = n} l gc) gb =
      let x = read_init i ai gi (next {s = m} k done) in
      let y = read_maybe e ae ge (next {s = n} l done) in
      let z = change_read gc in
      let w = a.read _ _ gb in
      record {
        tree = for_at s.place x.tree y.tree z.tree w.tree;
        reads = for_each (is for_word s h) (is_sign _ o j) x.reads y.reads z.reads w.reads;
        same = by.unplaced_for s.place x.tree y.tree z.tree w.tree
            ∙ ap (λ u. for_at nowhere u (option_map unplaced y.tree) (option_map unplaced_stmt z.tree) (unplaced_stmt w.tree)) x.same
            ∙ ap (λ u. for_at nowhere (option_map unplaced_stmt i) u (option_map unplaced_stmt z.tree) (unplaced_stmt w.tree)) y.same
            ∙ ap (λ u. for_at nowhere (option_map unplaced_stmt i) (option_map unplaced e) u (unplaced_stmt w.tree)) z.same
            ∙ ap (λ u. for_at nowhere (option_map unplaced_stmt i) (option_map unplaced e) (option_map unplaced_stmt c) u) w.same
            ∙ sym (by.unplaced_for p i e c body);
      }

  loop_read : (xs ys : Tokens) → Goes (first_part ++ for_test e ++ last_part ++ whole (printed_stmt body)) xs ys → Reading (StatementOf short) unplaced_stmt xs (for_at p i e c body) ys
  loop_read xs ys g =
      let q1 = parted (first_part ++ for_test e ++ last_part) (whole (printed_stmt body)) g in
      let q2 = parted (first_part ++ for_test e) last_part q1.front in
      let q3 = parted first_part (for_test e) q2.front in
      loop_parts q3.front q3.back q2.back q1.back

  pub for_again : AgainAs (for_at p i e c body) short
  for_again = again_as _ _ _ (by.printed_for p i e c body) (record {
    formed = formed_append (first_part ++ for_test e ++ last_part) _ (formed_append (first_part ++ for_test e) _ (formed_append first_part _ init_formed test_formed) change_formed) a.formed;
    read = loop_read;
  })

-- ---- what the grammar gives as a statement

maybe_init : {xs zs : Tokens} {t : Option Stmt} → MaybeInit xs t zs → FormedTokens xs → InnerIf Init t × FormedTokens zs
maybe_init (no_init h) f = (tt, f.1)
maybe_init (some_init i h) f = let a = init_inner i f in (a.0, a.1.1)

maybe_expr : {xs zs : Tokens} {e : Option Expr} → MaybeExpr xs e zs → FormedTokens xs → ExprIf e × FormedTokens zs
maybe_expr (no_expr h) f = (tt, f.1)
maybe_expr (some_expr e h) f = let a = expression_again e f in (a.0, a.1.1)

maybe_change : {xs zs : Tokens} {t : Option Stmt} → MaybeChange xs t zs → FormedTokens xs → InnerIf Change t × FormedTokens zs
maybe_change (no_change h) f = (tt, f.1)
maybe_change (some_change c h) f = let a = change_inner c f in (a.0, a.1.1)

test_again : {xs zs : Tokens} {e : Expr} → Test xs e zs → FormedTokens xs → expr.Again e × FormedTokens zs
test_again (test o e p) f = let a = expression_again e f.1 in (a.0, a.1.1)

mutual
  pub stmt_again : {xs zs : Tokens} {t : Stmt} {short : Bool} → Statement xs t short zs → FormedTokens xs → AgainAs t short × FormedTokens zs
  stmt_again (block {s = s} h b) f = let a = stmts_again b tt f.1 in (block_again s.place _ a.0, a.1)
  stmt_again (empty {s = s} h) f = (empty_again s.place, f.1)
  stmt_again {xs = xs} (local {c = c} {name = name} {t = ty} r n h) f = let a = type_of r f in (local_again (place_of xs) ty a.0 name (nameable name c n a.1.0), a.1.1.1)
  stmt_again (local_value d h) f = let a = declared_inner d f in (ended_again Declared (λ xs zs s u r i. local_value r i) _ a.0, a.1.1)
  stmt_again (when_true {s = s} h e a r) f = let x = test_again e f.1 in let y = stmt_again a x.1 in branch_again r x.0 y.0 y.1
  stmt_again (while_true {s = s} {short = short} h e a) f = let x = test_again e f.1 in let y = stmt_again a x.1 in (while_again s.place _ x.0 _ short y.0, y.1)
  stmt_again (for_each {s = s} {i = i} {c = c} {e = e} {short = short} h o a b d r) f =
      let x = maybe_init a f.1.1 in let y = maybe_expr b x.1 in let z = maybe_change d y.1 in let w = stmt_again r z.1 in
      (for_again s.place i e c x.0 y.0 z.0 _ short w.0, w.1)
  stmt_again (break_off {s = s} h p) f = (break_again s.place, f.1.1)
  stmt_again (continue_on {s = s} h p) f = (continue_again s.place, f.1.1)
  stmt_again (return_from {s = s} {e = e} h v) f = let a = maybe_expr v f.1 in (return_again s.place e a.0, a.1)
  stmt_again (change c h) f = let a = change_inner c f in (ended_again Change (λ xs zs s u r i. change r i) _ a.0, a.1.1)

  branch_again : {at : Place} {e : Expr} {a t : Stmt} {inner short : Bool} {xs zs : Tokens} → Else at e a inner xs t short zs → expr.Again e → AgainAs a inner → FormedTokens xs → AgainAs t short × FormedTokens zs
  branch_again {at = at} {inner = inner} no_else x y f = (if_again at _ x _ inner y, f)
  branch_again {at = at} (some_else {short = short} h b) x y f = let z = stmt_again b f.1 in (else_again at _ x _ _ short y z.0, z.1)

  pub stmts_again : {xs zs : Tokens} {ts us : List Stmt} → Block ts xs us zs → AllAgain ts → FormedTokens xs → AllAgain us × FormedTokens zs
  stmts_again (block_end h) a f = (a, f.1)
  stmts_again (block_more {ts = ts} {t = t} {short = short} r b) a f = let x = stmt_again r f in stmts_again b (all_append ts (t ∷ []) a (record { short = short; as' = x.0 }, tt)) x.1
