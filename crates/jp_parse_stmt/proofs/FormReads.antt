-- Statements behind their first token.
use Rattle.std.proofs.Common.{◌≡◌, ℕ, ◌<◌, ◌≤◌, max, Bool, true, false, not, ◌&&◌, ◌||◌, ◌==◌, IsTrue, List, [], ◌∷◌, ◌++◌, length, Option, Some, None, Result, Ok, Err, refl, sym, ap, ◌∙◌, subst, inl, inr, ◌⊎◌, rules, arith}
use Rattle.std.specs.Borrow.{Bor}
use Rattle.jp_pred.specs.declared.ty.Ty.{Ty}
use Rattle.jp_pred.specs.declared.ty.Ty.TheVariants as ty
use Rattle.jp_ast.specs.declared.token.Place.{Place}
use Rattle.jp_ast.specs.declared.token.Token.{Token}
use Rattle.jp_ast.specs.declared.expr.Expr.{Expr}
use Rattle.jp_ast.specs.declared.stmt.Stmt.{Stmt}
use Rattle.jp_ast.specs.declared.stmt.StmtKind.{StmtKind}
use Rattle.jp_ast.specs.declared.stmt.StmtKind.TheVariants as made
use Rattle.jp_ast.specs.declared.sign.TheConstants as sign
use Rattle.jp_grammar.specs.declared.kind.Kind.{Kind}
use Rattle.jp_grammar.specs.declared.kind.Kind.TheVariants as k
use Rattle.jp_grammar.specs.declared.fault.ParseFault.{ParseFault}
use Rattle.jp_grammar.specs.Kinds.{Is, IsSign, Tokens, place_of, kind_of_token}
use Rattle.jp_grammar.specs.Expressions.{Expression, IsElement}
use Rattle.jp_grammar.specs.Statements.{OneType, Change, Declared, Init, MaybeInit, MaybeExpr, MaybeChange, no_init, some_init, no_expr, some_expr, no_change, some_change, Test, Statement, Else, Block, element_type, array_type, block, empty, local, local_value, when_true, while_true, for_each, break_off, continue_on, return_from, change, declared}
use Rattle.jp_grammar.specs.Reading.{Reads, Begins}
use Rattle.jp_grammar.specs.Behind.{begins_plain}
use Rattle.jp_parse_stmt.specs.Forms.{OneStmt, Form, Turns, OpenTurns, open_turns, loop_at}
use Rattle.jp_parse_stmt.specs.Locals.{NameOf, name_of, Head, Valued, valued, Declares, no_value, some_value, LocalLine, Simple}
use Rattle.jp_parse_stmt.specs.Parts.{Sealed, Shut, MaybeShut, stmt_at}
use Rattle.jp_parse_stmt.proofs.Inits.{change_begins}
use Rattle.jp_parse_stmt.proofs.StmtFacts.{begins_simple}

-- ---- parts that may be left out

shut_init : (a t : Stmt) (xs ys zs : Tokens) → Init xs a ys → Sealed sign.SEMICOLON a ys t zs → MaybeInit xs (Some t) zs
shut_init a t xs [] zs c s = absurd s
shut_init a t xs (p ∷ ys) zs c s = some_init (subst (λ (q : Tokens). Init xs t (p ∷ q)) (sym s.2) (subst (λ (b : Stmt). Init xs b (p ∷ ys)) (sym s.1) c)) s.0

init_maybe : (o : Option Stmt) (xs zs : Tokens) → MaybeShut sign.SEMICOLON Init xs o zs → MaybeInit xs o zs
init_maybe None xs zs r = subst (λ (q : Tokens). MaybeInit q None zs) (sym r.1) (no_init r.2)
init_maybe (Some t) xs zs r = shut_init r.0 t xs r.1 zs r.2 r.3

maybe_init : {o : Option Stmt} {xs zs : Tokens} → MaybeInit xs o zs → MaybeShut sign.SEMICOLON Init xs o zs
maybe_init (no_init {p = p} h) = (p, refl, h)
maybe_init {zs = zs} (some_init {p = p} {t = t} c h) = (t, p ∷ zs, c, (h, refl, refl))

shut_expr : (a t : Expr) (xs ys zs : Tokens) → Expression xs a ys → Sealed sign.SEMICOLON a ys t zs → MaybeExpr xs (Some t) zs
shut_expr a t xs [] zs c s = absurd s
shut_expr a t xs (p ∷ ys) zs c s = some_expr (subst (λ (q : Tokens). Expression xs t (p ∷ q)) (sym s.2) (subst (λ (b : Expr). Expression xs b (p ∷ ys)) (sym s.1) c)) s.0

expr_maybe : (o : Option Expr) (xs zs : Tokens) → MaybeShut sign.SEMICOLON Expression xs o zs → MaybeExpr xs o zs
expr_maybe None xs zs r = subst (λ (q : Tokens). MaybeExpr q None zs) (sym r.1) (no_expr r.2)
expr_maybe (Some t) xs zs r = shut_expr r.0 t xs r.1 zs r.2 r.3

maybe_expr : {o : Option Expr} {xs zs : Tokens} → MaybeExpr xs o zs → MaybeShut sign.SEMICOLON Expression xs o zs
maybe_expr (no_expr {p = p} h) = (p, refl, h)
maybe_expr {zs = zs} (some_expr {p = p} {t = t} c h) = (t, p ∷ zs, c, (h, refl, refl))

shut_change : (a t : Stmt) (xs ys zs : Tokens) → Change xs a ys → Sealed sign.CLOSE_PAREN a ys t zs → MaybeChange xs (Some t) zs
shut_change a t xs [] zs c s = absurd s
shut_change a t xs (p ∷ ys) zs c s = some_change (subst (λ (q : Tokens). Change xs t (p ∷ q)) (sym s.2) (subst (λ (b : Stmt). Change xs b (p ∷ ys)) (sym s.1) c)) s.0

change_maybe : (o : Option Stmt) (xs zs : Tokens) → MaybeShut sign.CLOSE_PAREN Change xs o zs → MaybeChange xs o zs
change_maybe None xs zs r = subst (λ (q : Tokens). MaybeChange q None zs) (sym r.1) (no_change r.2)
change_maybe (Some t) xs zs r = shut_change r.0 t xs r.1 zs r.2 r.3

maybe_change : {o : Option Stmt} {xs zs : Tokens} → MaybeChange xs o zs → MaybeShut sign.CLOSE_PAREN Change xs o zs
maybe_change (no_change {p = p} h) = (p, refl, h)
maybe_change {zs = zs} (some_change {p = p} {t = t} c h) = (t, p ∷ zs, c, (h, refl, refl))

-- the loop of its parts
loop_of : (s : Token) (xs ys zs : Tokens) (h : Turns) (a : Stmt) (short : Bool) → Is k.For s → OpenTurns xs h ys → Statement ys a short zs → Statement (s ∷ xs) (loop_at s.place h a) short zs
loop_of s xs ys zs h a short i (open_turns {xs = vs} o r) b =
    subst (λ (x : Turns). Statement (s ∷ xs) (loop_at s.place x a) short zs) (sym r.3.3.2)
    (for_each i o (init_maybe r.0 vs r.1 r.2) (expr_maybe r.3.0 r.1 r.3.1 r.3.2) (change_maybe r.3.3.0 r.3.1 ys r.3.3.1) b)

-- ---- simple statements

simple_form : (kind : Kind) (s : Token) (xs zs : Tokens) (x : Stmt × Bool) → IsTrue (begins_simple kind) → Simple (s ∷ xs) x.0 zs → x.1 ≡ false → Form kind s xs x zs
simple_form (k.Sign b) s xs zs x h r e = inr (inr (r, e))
simple_form k.Int s xs zs x h r e = (r, e)
simple_form k.Boolean s xs zs x h r e = (r, e)
simple_form k.Name s xs zs x h r e = (r, e)
simple_form k.Number s xs zs x h r e = (r, e)
simple_form k.Text s xs zs x h r e = (r, e)
simple_form k.True s xs zs x h r e = (r, e)
simple_form k.False s xs zs x h r e = (r, e)
simple_form k.Null s xs zs x h r e = (r, e)
simple_form k.This s xs zs x h r e = (r, e)
simple_form k.Super s xs zs x h r e = (r, e)
simple_form k.New s xs zs x h r e = (r, e)
simple_form _ s xs zs x h r e = cc

plain_simple : (kind : Kind) → IsTrue (begins_plain kind) → IsTrue (begins_simple kind)
plain_simple k.Int h = refl
plain_simple k.Boolean h = refl
plain_simple (k.Sign b) h = h
plain_simple k.Name h = refl
plain_simple k.Number h = refl
plain_simple k.Text h = refl
plain_simple k.True h = refl
plain_simple k.False h = refl
plain_simple k.Null h = refl
plain_simple k.This h = refl
plain_simple k.Super h = refl
plain_simple k.New h = refl
plain_simple _ h = cc

elem_simple : (t : Ty) (s : Token) → IsElement t s → IsTrue (begins_simple (kind_of_token s))
elem_simple ty.Int s i = ap begins_simple i
elem_simple ty.Boolean s i = ap begins_simple i
elem_simple (ty.Class class) s i = ap begins_simple i.1
elem_simple _ s i = absurd i

type_simple : (t : Ty) (s : Token) (xs ys : Tokens) → OneType (s ∷ xs) t ys → IsTrue (begins_simple (kind_of_token s))
type_simple t s xs ys (element_type i) = elem_simple t s i
type_simple t s xs ys (array_type elem i o p) = elem_simple elem s i

moved : (kind : Kind) (s : Token) (xs zs : Tokens) (x : Stmt × Bool) → kind_of_token s ≡ kind → Form kind s xs x zs → Form (kind_of_token s) s xs x zs
moved kind s xs zs x h f = subst (λ (y : Kind). Form y s xs x zs) (sym h) f

declared_line : (xs zs : Tokens) (p : Token) (t : Stmt) → Declared xs t (p ∷ zs) → IsSign sign.SEMICOLON p → LocalLine xs t zs
declared_line xs zs p t (declared {c = c} {e = e} {name = word} {ys = ws} {t = u} {value = v} o n h w) i =
    ((place_of xs, (u, word)), e ∷ ws, (refl, (u, c ∷ e ∷ ws, o, name_of n)), some_value (valued h (v, p ∷ zs, w, (i, refl, refl))))

declared_simple : (s : Token) (xs ys : Tokens) (t : Stmt) → Declared (s ∷ xs) t ys → IsTrue (begins_simple (kind_of_token s))
declared_simple s xs ys t (declared {t = u} o n h w) = type_simple u s xs _ o

-- what a statement is behind its first token
pub form_of : (s : Token) (xs zs : Tokens) (t : Stmt) (short : Bool) → Statement (s ∷ xs) t short zs → Form (kind_of_token s) s xs (t, short) zs
form_of s xs zs t short (block {ts = ts} h b) = moved (k.Sign sign.OPEN_BRACE) s xs zs (t, short) h (inl (refl, (ts, b, refl, refl)))
form_of s xs zs t short (empty h) = moved (k.Sign sign.SEMICOLON) s xs zs (t, short) h (inr (inl (refl, refl, refl, refl)))
form_of s xs zs t short (local {c = c} {p = p} {name = word} {t = u} o n h) =
    simple_form (kind_of_token s) s xs zs (t, short) (type_simple u s xs _ o) (inl ((s.place, (u, word)), p ∷ zs, (refl, (u, c ∷ p ∷ zs, o, name_of n)), no_value h)) refl
form_of s xs zs t short (local_value {p = p} d h) = simple_form (kind_of_token s) s xs zs (t, short) (declared_simple s xs _ t d) (inl (declared_line (s ∷ xs) zs p t d h)) refl
form_of s xs zs t short (when_true {ys = ys} {ws = ws} {e = e} {a = a} {inner = inner} h r b f) = moved k.If s xs zs (t, short) h (e, ys, r, ((a, inner), ws, b, f))
form_of s xs zs t short (while_true {ys = ys} {e = e} {a = a} h r b) = moved k.While s xs zs (t, short) h (e, ys, r, (a, b, refl))
form_of s xs zs t short (for_each {o = o} {xs = vs} {ys = ys} {ws = ws} {vs = us} {i = i} {c = c} {e = e} {a = a} h q m n l b) = moved k.For s xs zs (t, short) h ((i, e, c), us, open_turns q (i, ys, maybe_init m, (e, ws, maybe_expr n, (c, maybe_change l, refl))), (a, b, refl))
form_of s xs zs t short (break_off {p = p} h q) = moved k.Break s xs zs (t, short) h (p, refl, q, refl, refl)
form_of s xs zs t short (continue_on {p = p} h q) = moved k.Continue s xs zs (t, short) h (p, refl, q, refl, refl)
form_of s xs zs t short (return_from {e = e} h r) = moved k.Return s xs zs (t, short) h (e, maybe_expr r, refl, refl)
form_of s xs zs t short (change {p = p} c h) = simple_form (kind_of_token s) s xs zs (t, short) (plain_simple (kind_of_token s) (change_begins (s ∷ xs) _ t c)) (inr (t, p ∷ zs, c, (h, refl, refl))) refl

-- ---- a statement of what stands behind its first token

valued_stmt : (u : Ty) (word : List ℕ) (v b : Expr) (xs ys vs zs : Tokens) → ((c : Expr) (qs : Tokens) → Expression ys c qs → Declared xs (stmt_at (place_of xs) (made.Local u word (Some c))) qs) →
    Expression ys b vs → Sealed sign.SEMICOLON b vs v zs → Statement xs (stmt_at (place_of xs) (made.Local u word (Some v))) false zs
valued_stmt u word v b xs ys [] zs make e s = absurd s
valued_stmt u word v b xs ys (p ∷ vs) zs make e s =
    let e' : Expression ys v (p ∷ zs) = subst (λ (q : Tokens). Expression ys v (p ∷ q)) (sym s.2) (subst (λ (c : Expr). Expression ys c (p ∷ vs)) (sym s.1) e) in
    local_value (make v (p ∷ zs) e') s.0

line_stmt : (u : Ty) (x : Ty × List ℕ) (xs ws ys zs : Tokens) (t : Stmt) → OneType xs u ws → NameOf u ws x ys → Declares (place_of xs) x ys t zs → Statement xs t false zs
line_stmt u x xs ws ys zs t o (name_of n) (no_value h) = local o n h
line_stmt u x xs ws ys zs t o (name_of {name = word} n) (some_value (valued {value = v} h r)) = valued_stmt u word v r.0 xs _ r.1 zs (λ c qs e. declared o n h e) r.2 r.3

change_stmt : (a t : Stmt) (xs ys zs : Tokens) → Change xs a ys → Sealed sign.SEMICOLON a ys t zs → Statement xs t false zs
change_stmt a t xs [] zs c s = absurd s
change_stmt a t xs (p ∷ ys) zs c s = change (subst (λ (q : Tokens). Change xs t (p ∷ q)) (sym s.2) (subst (λ (b : Stmt). Change xs b (p ∷ ys)) (sym s.1) c)) s.0

pub simple_stmt : (xs zs : Tokens) (t : Stmt) → Simple xs t zs → Statement xs t false zs
simple_stmt xs zs t (inl r) = line_stmt r.2.1.0 r.0.1 xs r.2.1.1 r.1 zs t r.2.1.2 r.2.1.3 (subst (λ (p : Place). Declares p r.0.1 r.1 t zs) r.2.0 r.3)
simple_stmt xs zs t (inr r) = change_stmt r.0 t xs r.1 zs r.2 r.3

made_of : (xs zs : Tokens) (x : Stmt × Bool) (t : Stmt) (short : Bool) → x.0 ≡ t → x.1 ≡ short → Statement xs t short zs → OneStmt xs x zs
made_of xs zs x t short h i r = subst (λ (b : Bool). Statement xs x.0 b zs) (sym i) (subst (λ (u : Stmt). Statement xs u short zs) (sym h) r)

form_kind : (kind : Kind) (s : Token) (xs zs : Tokens) (x : Stmt × Bool) → kind_of_token s ≡ kind → Form kind s xs x zs → OneStmt (s ∷ xs) x zs
form_kind k.If s xs zs x h r = when_true h r.2 r.3.2 r.3.3
form_kind k.While s xs zs x h r = made_of (s ∷ xs) zs x _ x.1 r.3.2 refl (while_true h r.2 r.3.1)
form_kind k.Break s xs zs x h r = made_of (s ∷ xs) zs x _ false r.3 r.4 (subst (λ (q : Tokens). Statement (s ∷ q) (stmt_at s.place made.Break) false zs) (sym r.1) (break_off h r.2))
form_kind k.Continue s xs zs x h r = made_of (s ∷ xs) zs x _ false r.3 r.4 (subst (λ (q : Tokens). Statement (s ∷ q) (stmt_at s.place made.Continue) false zs) (sym r.1) (continue_on h r.2))
form_kind k.Return s xs zs x h r = made_of (s ∷ xs) zs x _ false r.2 r.3 (return_from h (expr_maybe r.0 xs zs r.1))
form_kind k.For s xs zs x h r = made_of (s ∷ xs) zs x (loop_at s.place r.0 r.3.0) x.1 r.3.2 refl (loop_of s xs r.1 zs r.0 r.3.0 x.1 h r.2 r.3.1)
form_kind (k.Sign b) s xs zs x h (inl r) = made_of (s ∷ xs) zs x _ false r.1.2 r.1.3 (block (h ∙ ap k.Sign r.0) r.1.1)
form_kind (k.Sign b) s xs zs x h (inr (inl r)) = made_of (s ∷ xs) zs x _ false r.1 r.2 (subst (λ (q : Tokens). Statement (s ∷ xs) (stmt_at s.place made.Empty) false q) (sym r.3) (empty (h ∙ ap k.Sign r.0)))
form_kind (k.Sign b) s xs zs x h (inr (inr r)) = made_of (s ∷ xs) zs x x.0 false refl r.1 (simple_stmt (s ∷ xs) zs x.0 r.0)
form_kind _ s xs zs x h r = made_of (s ∷ xs) zs x x.0 false refl r.1 (simple_stmt (s ∷ xs) zs x.0 r.0)

-- and back
pub form_into : (s : Token) (xs zs : Tokens) (x : Stmt × Bool) → Form (kind_of_token s) s xs x zs → OneStmt (s ∷ xs) x zs
form_into s xs zs x r = form_kind (kind_of_token s) s xs zs x refl r
