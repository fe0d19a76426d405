-- What is printed, and how deep trees are, doesn't depend on places.
use Rattle.std.proofs.Common.{◌≡◌, ℕ, Bool, true, false, max, List, [], ◌∷◌, ◌++◌, map, Option, Some, None, refl, sym, ap, ◌∙◌, codes, cond}
use Rattle.std.specs.Prelude.{if◌then◌else◌, flat_map, option_map}
use Rattle.jp_ast.specs.declared.token.Lexeme.{Lexeme}
use Rattle.jp_ast.specs.declared.token.Lexeme.TheVariants.{Word, Sign}
use Rattle.jp_ast.specs.declared.expr.Expr.{Expr}
use Rattle.jp_ast.specs.declared.guard.PathText.{PathText}
use Rattle.jp_ast.specs.declared.guard.Summand.{Summand}
use Rattle.jp_ast.specs.declared.guard.GuardExpr.{GuardExpr}
use Rattle.jp_ast.specs.declared.guard.GuardKind.{GuardKind-F}
use Rattle.jp_ast.specs.declared.guard.GuardKind.TheOpen as g
use Rattle.jp_ast.specs.declared.stmt.Stmt.{Stmt}
use Rattle.jp_ast.specs.declared.stmt.StmtKind.{StmtKind-F}
use Rattle.jp_ast.specs.declared.stmt.StmtKind.TheOpen as s
use Rattle.jp_ast.specs.declared.decl.SourceUnit.{SourceUnit}
use Rattle.jp_ast.specs.declared.decl.Decl.{Decl}
use Rattle.jp_ast.specs.declared.decl.Param.{Param}
use Rattle.jp_ast.specs.declared.decl.Member.{Member}
use Rattle.jp_ast.specs.declared.decl.MemberPart.{MemberPart}
use Rattle.jp_ast.specs.declared.decl.MemberPart.TheVariants as part
use Rattle.jp_ast.specs.declared.sign.TheConstants as sign
use Rattle.jp_grammar.specs.Depth.{greatest, or_zero, depth_step, depth, depth_of_all, depth_of_option, stmt_depth_step, stmt_depth, deepest_step, deepest, guard_depth_step, guard_depth}
use Rattle.jp_grammar.specs.Faults.{deepest_of_stmt, deepest_of_block, deepest_of_guard, deepest_of_args, deepest_of_part, deepest_of_member, deepest_of_decl, deepest_of_unit}
use Rattle.jp_print.specs.Expressions.{Printed, in_parens, commas, maybe, type_tokens, operand, expr_step, printed_expr, expr_tokens, operand_tokens, arguments}
use Rattle.jp_print.specs.Guards.{PrintedGuard, path_tokens, term_tokens, first_summand, next_summand, sum_tokens, atomic, as_name, guard_step, printed_guard, guard_tokens}
use Rattle.jp_print.specs.Statements.{PrintedStmt, ended, unended, whole, condition, initial_value, else_branch, for_init, for_change, block_tokens, all_tokens, in_braces, stmt_step, printed_stmt}
use Rattle.jp_print.specs.Declarations.{word_if, param_tokens, named_params, signature, when_guard, super_call, part_tokens, member_tokens, class_head, interface_head, decl_tokens, unit_tokens}
use Rattle.jp_print.specs.Places.{unplaced, unplaced_path, unplaced_summand, unplaced_layer, unplaced_guard, unplaced_stmt_layer, unplaced_stmt, unplaced_param, unplaced_part, unplaced_member, unplaced_decl, unplaced_unit}
use Rattle.jp_print.proofs.Placeless.{expr_fold, guard_fold, stmt_fold}

-- ---- lists and options

map_blind : {T U : Type 0} (f : T → U) (bare : T → T) → ((t : T) → f (bare t) ≡ f t) → (ts : List T) → map f (map bare ts) ≡ map f ts
map_blind f bare h [] = refl
map_blind f bare h (t ∷ ts) = ap (λ x. x ∷ map f (map bare ts)) (h t) ∙ ap (λ xs. f t ∷ xs) (map_blind f bare h ts)

flat_blind : {T U : Type 0} (f : T → List U) (bare : T → T) → ((t : T) → f (bare t) ≡ f t) → (ts : List T) → flat_map f (map bare ts) ≡ flat_map f ts
flat_blind f bare h [] = refl
flat_blind f bare h (t ∷ ts) = ap (λ x. x ++ flat_map f (map bare ts)) (h t) ∙ ap (λ xs. f t ++ xs) (flat_blind f bare h ts)

maybe_blind : {T : Type 0} (f : T → List Lexeme) (bare : T → T) → ((t : T) → f (bare t) ≡ f t) → (t : Option T) → maybe f (option_map bare t) ≡ maybe f t
maybe_blind f bare h None = refl
maybe_blind f bare h (Some t) = h t

-- ---- expressions

pub expr_blind : (t : Expr) → printed_expr (unplaced t) ≡ printed_expr t
unfolding printed_expr
expr_blind t = expr_fold expr_step t

depth_blind : (t : Expr) → depth (unplaced t) ≡ depth t
unfolding depth
depth_blind t = expr_fold depth_step t

tokens_blind : (t : Expr) → expr_tokens (unplaced t) ≡ expr_tokens t
tokens_blind t = ap (λ p. p.tokens) (expr_blind t)

operand_blind : (t : Expr) → operand_tokens (unplaced t) ≡ operand_tokens t
operand_blind t = ap operand (expr_blind t)

-- ---- guards

term_blind : (factor : Option (ℕ × Bool)) (path : Option PathText) → term_tokens factor (option_map unplaced_path path) ≡ term_tokens factor path
term_blind None None = refl
term_blind None (Some path) = refl
term_blind (Some factor) None = refl
term_blind (Some factor) (Some path) = refl

first_blind : (a : Summand) → first_summand (unplaced_summand a) ≡ first_summand a
first_blind a = ap (λ x. if a.negative then Sign sign.MINUS ∷ x else x) (term_blind a.factor a.path)

next_blind : (a : Summand) → next_summand (unplaced_summand a) ≡ next_summand a
next_blind a = ap (λ x. Sign (if a.negative then sign.MINUS else sign.PLUS) ∷ x) (term_blind a.factor a.path)

sum_blind : (sum : List Summand) → sum_tokens (map unplaced_summand sum) ≡ sum_tokens sum
sum_blind [] = refl
sum_blind (a ∷ sum) = ap (λ x. x ++ flat_map next_summand (map unplaced_summand sum)) (first_blind a) ∙ ap (λ x. first_summand a ++ x) (flat_blind next_summand unplaced_summand next_blind sum)

guard_step_blind : (z : GuardKind-F PrintedGuard PrintedGuard) → guard_step (unplaced_layer z) ≡ guard_step z
guard_step_blind (g.Truth value) = refl
guard_step_blind (g.Not right) = refl
guard_step_blind (g.And left right) = refl
guard_step_blind (g.Or left right) = refl
guard_step_blind (g.Is path class alias) = refl
guard_step_blind (g.Alias path name) = refl
guard_step_blind (g.NullTest path equal) = refl
guard_step_blind (g.Flag path) = refl
guard_step_blind (g.Compare left sign right) =
    ap (λ x. atomic (x ++ Sign sign ∷ sum_tokens (map unplaced_summand right))) (sum_blind left) ∙ ap (λ x. atomic (sum_tokens left ++ Sign sign ∷ x)) (sum_blind right)

guard_depth_blind : (z : GuardKind-F ℕ ℕ) → guard_depth_step (unplaced_layer z) ≡ guard_depth_step z
guard_depth_blind (g.Truth value) = refl
guard_depth_blind (g.Not right) = refl
guard_depth_blind (g.And left right) = refl
guard_depth_blind (g.Or left right) = refl
guard_depth_blind (g.Is path class alias) = refl
guard_depth_blind (g.Alias path name) = refl
guard_depth_blind (g.NullTest path equal) = refl
guard_depth_blind (g.Flag path) = refl
guard_depth_blind (g.Compare left sign right) = refl

guard_blind : (t : GuardExpr) → printed_guard (unplaced_guard t) ≡ printed_guard t
unfolding printed_guard
guard_blind t = guard_fold guard_step guard_step_blind t

guard_deep : (t : GuardExpr) → guard_depth (unplaced_guard t) ≡ guard_depth t
unfolding guard_depth
guard_deep t = guard_fold guard_depth_step guard_depth_blind t

-- ---- statements

stmt_step_blind : (z : StmtKind-F PrintedStmt PrintedStmt) → stmt_step (unplaced_stmt_layer z) ≡ stmt_step z
stmt_step_blind (s.Block block) = refl
stmt_step_blind s.Empty = refl
stmt_step_blind (s.Local ty name value) = ap (λ x. ended (type_tokens ty ++ Word name ∷ x)) (maybe_blind initial_value unplaced (λ t. ap (λ x. Sign sign.ASSIGN ∷ x) (tokens_blind t)) value)
stmt_step_blind (s.If test first second) = ap (λ x. unended (Word (codes "if") ∷ in_parens x ++ whole first ++ maybe else_branch second)) (tokens_blind test)
stmt_step_blind (s.While test body) = ap (λ x. unended (Word (codes "while") ∷ in_parens x ++ whole body)) (tokens_blind test)
stmt_step_blind (s.For init test change body) =
    ap (λ x. unended (for_init init ++ (Sign sign.SEMICOLON ∷ x) ++ for_change change ++ whole body)) (maybe_blind expr_tokens unplaced tokens_blind test)
stmt_step_blind s.Break = refl
stmt_step_blind s.Continue = refl
stmt_step_blind (s.Return value) = ap (λ x. ended (Word (codes "return") ∷ x)) (maybe_blind expr_tokens unplaced tokens_blind value)
stmt_step_blind (s.Assign left n right) = ap (λ x. ended (x ++ Sign n ∷ expr_tokens (unplaced right))) (operand_blind left) ∙ ap (λ x. ended (operand_tokens left ++ Sign n ∷ x)) (tokens_blind right)
stmt_step_blind (s.Bump left up) = ap (λ x. ended (x ++ Sign (if up then sign.INCREMENT else sign.DECREMENT) ∷ [])) (operand_blind left)
stmt_step_blind (s.Run value) = ap ended (operand_blind value)

stmt_depth_blind : (z : StmtKind-F ℕ ℕ) → stmt_depth_step (unplaced_stmt_layer z) ≡ stmt_depth_step z
stmt_depth_blind (s.Block block) = refl
stmt_depth_blind s.Empty = refl
stmt_depth_blind (s.Local ty name value) = refl
stmt_depth_blind (s.If test first second) = refl
stmt_depth_blind (s.While test body) = refl
stmt_depth_blind (s.For init test change body) = refl
stmt_depth_blind s.Break = refl
stmt_depth_blind s.Continue = refl
stmt_depth_blind (s.Return value) = refl
stmt_depth_blind (s.Assign left n right) = refl
stmt_depth_blind (s.Bump left up) = refl
stmt_depth_blind (s.Run value) = refl

option_deep : (t : Option Expr) → depth_of_option (option_map unplaced t) ≡ depth_of_option t
option_deep None = refl
option_deep (Some t) = depth_blind t

deepest_blind : (z : StmtKind-F ℕ ℕ) → deepest_step (unplaced_stmt_layer z) ≡ deepest_step z
deepest_blind (s.Block block) = refl
deepest_blind s.Empty = refl
deepest_blind (s.Local ty name value) = option_deep value
deepest_blind (s.If test first second) = ap (λ x. max x (max first (or_zero second))) (depth_blind test)
deepest_blind (s.While test body) = ap (λ x. max x body) (depth_blind test)
deepest_blind (s.For init test change body) = ap (λ x. max (or_zero init) (max x (max (or_zero change) body))) (option_deep test)
deepest_blind s.Break = refl
deepest_blind s.Continue = refl
deepest_blind (s.Return value) = option_deep value
deepest_blind (s.Assign left n right) = ap (λ x. max x (depth (unplaced right))) (depth_blind left) ∙ ap (λ x. max (depth left) x) (depth_blind right)
deepest_blind (s.Bump left up) = depth_blind left
deepest_blind (s.Run value) = depth_blind value

stmt_blind : (t : Stmt) → printed_stmt (unplaced_stmt t) ≡ printed_stmt t
unfolding printed_stmt
stmt_blind t = stmt_fold stmt_step stmt_step_blind t

stmt_deep : (t : Stmt) → stmt_depth (unplaced_stmt t) ≡ stmt_depth t
unfolding stmt_depth
stmt_deep t = stmt_fold stmt_depth_step stmt_depth_blind t

exprs_deep : (t : Stmt) → deepest (unplaced_stmt t) ≡ deepest t
unfolding deepest
exprs_deep t = stmt_fold deepest_step deepest_blind t

-- ---- members

block_blind : (ts : List Stmt) → block_tokens (map printed_stmt (map unplaced_stmt ts)) ≡ block_tokens (map printed_stmt ts)
block_blind ts = ap block_tokens (map_blind printed_stmt unplaced_stmt stmt_blind ts)

params_blind : (ps : List Param) → commas (map param_tokens (map unplaced_param ps)) ≡ commas (map param_tokens ps)
params_blind ps = ap commas (map_blind param_tokens unplaced_param (λ p. refl) ps)

guard_if_blind : (g : Option GuardExpr) → maybe when_guard (option_map unplaced_guard g) ≡ maybe when_guard g
guard_if_blind g = maybe_blind when_guard unplaced_guard (λ t. ap (λ p. Word (codes "when") ∷ p.tokens) (guard_blind t)) g

super_blind : (args : Option (List Expr)) → maybe super_call (option_map (map unplaced) args) ≡ maybe super_call args
super_blind args = maybe_blind super_call (map unplaced) (λ ts. ap (λ ps. Word (codes "super") ∷ arguments ps ++ Sign sign.SEMICOLON ∷ []) (map_blind printed_expr unplaced expr_blind ts)) args

part_blind : (in_interface : Bool) (name : List ℕ) (ps : List Param) (p : MemberPart) → part_tokens in_interface name (map unplaced_param ps) (unplaced_part p) ≡ part_tokens in_interface name ps p
part_blind b name ps (part.Field ty static) = refl
part_blind b name ps (part.Static t ts) =
    ap (λ x. Word (codes "static") ∷ (type_tokens t ++ Word name ∷ in_parens x) ++ block_tokens (map printed_stmt (map unplaced_stmt ts))) (params_blind ps)
    ∙ ap (λ x. Word (codes "static") ∷ signature t name ps ++ x) (block_blind ts)
part_blind false name ps (part.Abstract t) = ap (λ x. Word (codes "abstract") ∷ (type_tokens t ++ Word name ∷ in_parens x) ++ Sign sign.SEMICOLON ∷ []) (params_blind ps)
part_blind true name ps (part.Abstract t) = ap (λ x. (type_tokens t ++ Word name ∷ in_parens x) ++ Sign sign.SEMICOLON ∷ []) (params_blind ps)
part_blind b name ps (part.Body t g ts) =
    ap (λ x. (type_tokens t ++ Word name ∷ in_parens x) ++ maybe when_guard (option_map unplaced_guard g) ++ block_tokens (map printed_stmt (map unplaced_stmt ts))) (params_blind ps)
    ∙ ap (λ x. signature t name ps ++ x ++ block_tokens (map printed_stmt (map unplaced_stmt ts))) (guard_if_blind g)
    ∙ ap (λ x. signature t name ps ++ maybe when_guard g ++ x) (block_blind ts)
part_blind b name ps (part.Constructor args ts) =
    ap (λ x. (Word name ∷ in_parens x) ++ (Sign sign.OPEN_BRACE ∷ (maybe super_call (option_map (map unplaced) args) ++ all_tokens (map printed_stmt (map unplaced_stmt ts))) ++ Sign sign.CLOSE_BRACE ∷ [])) (params_blind ps)
    ∙ ap (λ x. named_params name ps ++ (Sign sign.OPEN_BRACE ∷ (x ++ all_tokens (map printed_stmt (map unplaced_stmt ts))) ++ Sign sign.CLOSE_BRACE ∷ [])) (super_blind args)
    ∙ ap (λ x. named_params name ps ++ (Sign sign.OPEN_BRACE ∷ (maybe super_call args ++ all_tokens x) ++ Sign sign.CLOSE_BRACE ∷ [])) (map_blind printed_stmt unplaced_stmt stmt_blind ts)

member_blind : (in_interface : Bool) (m : Member) → member_tokens in_interface (unplaced_member m) ≡ member_tokens in_interface m
member_blind b m = ap (λ x. word_if m.is_private (codes "private") ++ x) (part_blind b m.name m.params m.part)

decl_blind : (d : Decl) → decl_tokens (unplaced_decl d) ≡ decl_tokens d
decl_blind d = ap (λ x. (if d.is_interface then interface_head d else class_head d) ++ in_braces x) (flat_blind (member_tokens d.is_interface) unplaced_member (member_blind d.is_interface) d.members)

-- ---- units

pub unit_blind : (u : SourceUnit) → unit_tokens (unplaced_unit u) ≡ unit_tokens u
unit_blind u = flat_blind decl_tokens unplaced_decl decl_blind u.decls

-- ---- depths

stmt_all_deep : (t : Stmt) → deepest_of_stmt (unplaced_stmt t) ≡ deepest_of_stmt t
stmt_all_deep t = ap (λ x. max x (deepest (unplaced_stmt t))) (stmt_deep t) ∙ ap (λ x. max (stmt_depth t) x) (exprs_deep t)

block_deep : (ts : List Stmt) → deepest_of_block (map unplaced_stmt ts) ≡ deepest_of_block ts
block_deep ts = ap greatest (map_blind deepest_of_stmt unplaced_stmt stmt_all_deep ts)

guard_if_deep : (g : Option GuardExpr) → deepest_of_guard (option_map unplaced_guard g) ≡ deepest_of_guard g
guard_if_deep None = refl
guard_if_deep (Some g) = guard_deep g

args_deep : (args : Option (List Expr)) → deepest_of_args (option_map (map unplaced) args) ≡ deepest_of_args args
args_deep None = refl
args_deep (Some args) = ap greatest (map_blind depth unplaced depth_blind args)

part_deep : (p : MemberPart) → deepest_of_part (unplaced_part p) ≡ deepest_of_part p
part_deep (part.Field ty static) = refl
part_deep (part.Static t ts) = block_deep ts
part_deep (part.Abstract t) = refl
part_deep (part.Body t g ts) = ap (λ x. max x (deepest_of_block (map unplaced_stmt ts))) (guard_if_deep g) ∙ ap (λ x. max (deepest_of_guard g) x) (block_deep ts)
part_deep (part.Constructor args ts) = ap (λ x. max x (deepest_of_block (map unplaced_stmt ts))) (args_deep args) ∙ ap (λ x. max (deepest_of_args args) x) (block_deep ts)

decl_deep : (d : Decl) → deepest_of_decl (unplaced_decl d) ≡ deepest_of_decl d
decl_deep d = ap greatest (map_blind deepest_of_member unplaced_member (λ m. part_deep m.part) d.members)

pub unit_deep : (u : SourceUnit) → deepest_of_unit (unplaced_unit u) ≡ deepest_of_unit u
unit_deep u = ap greatest (map_blind deepest_of_decl unplaced_decl decl_deep u.decls)
