-- Arguments read back.
use Rattle.std.proofs.Common.{◌≡◌, ℕ, List, [], ◌∷◌, ◌++◌, map, refl, sym, ap, ◌∙◌, arith}
use Rattle.std.specs.Prelude.{flat_map}
use Rattle.std.specs.List.{AllByRecursion}
use Rattle.jp_ast.specs.declared.token.Token.{Token}
use Rattle.jp_ast.specs.declared.token.Lexeme.{Lexeme}
use Rattle.jp_ast.specs.declared.token.Lexeme.TheVariants.{Sign}
use Rattle.jp_ast.specs.declared.expr.Expr.{Expr}
use Rattle.jp_ast.specs.declared.sign.TheConstants as sign
use Rattle.jp_grammar.specs.Kinds.{Tokens}
use Rattle.jp_grammar.specs.Expressions.{Args, MoreArgs, NoBracket, no_args, some_args, last_arg, next_arg}
use Rattle.jp_print.specs.Expressions.{behind_comma, commas, arguments, printed_expr}
use Rattle.jp_print.specs.Places.{unplaced}
use Rattle.jp_print.proofs.Forms.{Formed, formed_append, is_sign, sign_formed}
use Rattle.jp_print.proofs.Goes.{Goes, done, next, parted, Reading, pushed, all_pushed, unbracketed}
use Rattle.jp_print.proofs.Operands.{Again, parens_formed}

abbrev pub AllAgain : List Expr → Type 0
AllAgain ts = AllByRecursion Again ts

pub all_append : (ts us : List Expr) → AllAgain ts → AllAgain us → AllAgain (ts ++ us)
all_append [] us a b = b
all_append (t ∷ ts) us a b = (a.0, all_append ts us a.1 b)

-- the tokens of each
abbrev pub each_tokens : List Expr → List (List Lexeme)
each_tokens ts = map (λ arg. arg.tokens) (map printed_expr ts)

-- ---- their forms

-- each of the lists has lexical forms
abbrev pub AllFormed : List (List Lexeme) → Type 0
AllFormed parts = AllByRecursion Formed parts

more_formed : (parts : List (List Lexeme)) → AllFormed parts → Formed (flat_map behind_comma parts)
more_formed [] f = tt
more_formed (part ∷ parts) f = (sign_formed sign.COMMA (omega arith), formed_append part _ f.0 (more_formed parts f.1))

pub commas_formed : (parts : List (List Lexeme)) → AllFormed parts → Formed (commas parts)
commas_formed [] f = tt
commas_formed (part ∷ parts) f = formed_append part _ f.0 (more_formed parts f.1)

each_formed : (ts : List Expr) → AllAgain ts → AllFormed (each_tokens ts)
each_formed [] a = tt
each_formed (t ∷ ts) a = (a.0.formed, each_formed ts a.1)

pub arguments_formed : (ts : List Expr) → AllAgain ts → Formed (arguments (map printed_expr ts))
arguments_formed ts a = parens_formed (commas (each_tokens ts)) (commas_formed (each_tokens ts) (each_formed ts a))

-- ---- their reading

-- behind the parts of a list that are left stands `)`, so no `[` comes next
pub part_end : (parts : List (List Lexeme)) {xs ms zs : Tokens} → Goes (flat_map behind_comma parts) xs ms → Goes (Sign sign.CLOSE_PAREN ∷ []) ms zs → NoBracket xs
part_end [] done g = unbracketed g (λ e. cc)
part_end (part ∷ parts) g h = unbracketed g (λ e. cc)

pub read_more : (ts begun : List Expr) → AllAgain ts → {xs ms zs : Tokens} → Goes (flat_map behind_comma (each_tokens ts)) xs ms → Goes (Sign sign.CLOSE_PAREN ∷ []) ms zs →
    Reading (MoreArgs begun) (map unplaced) xs (begun ++ ts) zs
read_more [] begun a done (next {s = p} h done) = record { tree = begun; reads = last_arg (is_sign _ p h); same = all_pushed unplaced begun }
read_more (t ∷ ts) begun a (next {s = c} i g) h =
    let p = parted (printed_expr t).tokens (flat_map behind_comma (each_tokens ts)) g in
    let r = a.0.whole _ _ p.front (part_end (each_tokens ts) p.back h) in
    let m = read_more ts (begun ++ r.tree ∷ []) a.1 p.back h in
    record { tree = m.tree; reads = next_arg (is_sign _ c i) r.reads m.reads; same = m.same ∙ pushed unplaced begun r.tree t ts r.same }

pub read_args : (ts : List Expr) → AllAgain ts → {xs zs : Tokens} → Goes (commas (each_tokens ts) ++ Sign sign.CLOSE_PAREN ∷ []) xs zs → Reading Args (map unplaced) xs ts zs
read_args [] a (next {s = p} h done) = record { tree = []; reads = no_args (is_sign _ p h); same = refl }
read_args (t ∷ ts) a g =
    let p = parted (commas (each_tokens (t ∷ ts))) (Sign sign.CLOSE_PAREN ∷ []) g in
    let q = parted (printed_expr t).tokens (flat_map behind_comma (each_tokens ts)) p.front in
    let r = a.0.whole _ _ q.front (part_end (each_tokens ts) q.back p.back) in
    let m = read_more ts (r.tree ∷ []) a.1 q.back p.back in
    record { tree = m.tree; reads = some_args r.reads m.reads; same = m.same ∙ ap (λ x. x ∷ map unplaced ts) r.same }
