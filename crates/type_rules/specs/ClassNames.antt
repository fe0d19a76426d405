-- The classes that a unit names: those that stand in type positions, which it must see, and names before a dot, which may be
-- classes.
use Rattle.std.specs.Prelude.{List, [], ◌∷◌, ◌++◌, map, Bool, true, false, Option, Some, None, if◌then◌else◌}
use Rattle.std.specs.List.{flat_map, filter_map}
use Rattle.std.specs.Option.{option_map_or, option_to_list}
use Rattle.jp_pred.specs.declared.ty.Ty.{Ty}
use Rattle.jp_pred.specs.declared.ty.Ty.TheVariants as ty
use Rattle.jp_pred.specs.Names.{Word, object}
use Rattle.jp_ast.specs.declared.expr.Expr.{Expr, fold-Expr}
use Rattle.jp_ast.specs.declared.expr.ExprKind.{ExprKind-F}
use Rattle.jp_ast.specs.declared.expr.ExprKind.TheOpen as e
use Rattle.jp_ast.specs.declared.stmt.Stmt.{Stmt, fold-Stmt}
use Rattle.jp_ast.specs.declared.stmt.StmtKind.{StmtKind-F}
use Rattle.jp_ast.specs.declared.stmt.StmtKind.TheOpen as s
use Rattle.jp_ast.specs.declared.guard.GuardExpr.{GuardExpr, fold-GuardExpr}
use Rattle.jp_ast.specs.declared.guard.GuardKind.{GuardKind-F}
use Rattle.jp_ast.specs.declared.guard.GuardKind.TheOpen as g
use Rattle.jp_ast.specs.declared.decl.SourceUnit.{SourceUnit}
use Rattle.jp_ast.specs.declared.decl.Decl.{Decl}
use Rattle.jp_ast.specs.declared.decl.Member.{Member}
use Rattle.jp_ast.specs.declared.decl.MemberPart.{MemberPart}
use Rattle.jp_ast.specs.declared.decl.MemberPart.TheVariants as part
use Rattle.type_rules.specs.Types.{io, string, is_among}
use Rattle.type_rules.specs.Lookups.{unmet}

-- a name in a type position, or before a dot
pub data Mention : Type 0 where
  InType : Word → Mention
  BeforeDot : Word → Mention

-- the class that a type names
abbrev pub in_type : Ty → List Mention
in_type (ty.Class name) = InType name ∷ []
in_type (ty.ClassArray name) = InType name ∷ []
in_type _ = []

-- EXPRESSIONS, given the variables in scope, and whether a dot follows

abbrev pub Mentions : Type 0
Mentions = List Word → Bool → List Mention

abbrev pub all_of : List Mentions → List Word → List Mention
all_of xs vars = flat_map (λ x. x vars false) xs

abbrev pub expr_step : ExprKind-F Mentions Mentions → Mentions
expr_step (e.Var name) vars true = if is_among name vars then [] else BeforeDot name ∷ []
expr_step (e.Unary n right) vars dot = right vars false
expr_step (e.Binary n left right) vars dot = left vars false ++ right vars false
expr_step (e.Cond test first second) vars dot = test vars false ++ (first vars false ++ second vars false)
expr_step (e.Cast class value) vars dot = InType class ∷ value vars false
expr_step (e.InstanceOf value class) vars dot = value vars false ++ InType class ∷ []
expr_step (e.Field object name) vars dot = object vars true
expr_step (e.Index array index) vars dot = array vars false ++ index vars false
expr_step (e.Call object name args) vars dot = option_map_or (λ o. o vars true) object [] ++ all_of args vars
expr_step (e.SuperCall name args) vars dot = all_of args vars
expr_step (e.New class args) vars dot = InType class ∷ all_of args vars
expr_step (e.NewArray elem size) vars dot = in_type elem ++ size vars false
expr_step _ vars dot = []

abbrev pub in_expr : List Word → Expr → List Mention
in_expr vars x = fold-Expr Mentions Mentions expr_step (λ y. y.kind) x vars false

abbrev pub in_option : List Word → Option Expr → List Mention
in_option vars x = option_map_or (in_expr vars) x []

-- STATEMENTS, given the variables in scope: what they name, and the variables behind them

pub record Scoped : Type 0 where
  pub mentions : List Mention
  pub after : List Word

abbrev pub Line : Type 0
Line = List Word → Scoped

abbrev pub along : List Line → List Word → List Mention
along [] vars = []
along (x ∷ xs) vars = (x vars).mentions ++ along xs (x vars).after

-- a statement that may be left out
abbrev pub or_none : Option Line → Line
or_none None vars = record { mentions = []; after = vars }
or_none (Some x) vars = x vars

-- nothing is declared for what follows
abbrev pub closed : List Word → List Mention → Scoped
closed vars mentions = record { mentions = mentions; after = vars }

abbrev pub in_for : Scoped → Option Expr → Option Line → Line → List Mention
in_for init test change body = init.mentions ++ (in_option init.after test ++ ((or_none change init.after).mentions ++ (body init.after).mentions))

abbrev pub stmt_step : StmtKind-F Line Line → Line
stmt_step (s.Block all) vars = closed vars (along all vars)
stmt_step (s.Local t name value) vars = record { mentions = in_type t ++ in_option vars value; after = vars ++ name ∷ [] }
stmt_step (s.If test first second) vars = closed vars (in_expr vars test ++ ((first vars).mentions ++ (or_none second vars).mentions))
stmt_step (s.While test body) vars = closed vars (in_expr vars test ++ (body vars).mentions)
stmt_step (s.For init test change body) vars = closed vars (in_for (or_none init vars) test change body)
stmt_step (s.Return value) vars = closed vars (in_option vars value)
stmt_step (s.Assign left n right) vars = closed vars (in_expr vars left ++ in_expr vars right)
stmt_step (s.Bump left up) vars = closed vars (in_expr vars left)
stmt_step (s.Run x) vars = closed vars (in_expr vars x)
stmt_step _ vars = closed vars []

abbrev pub in_stmt : Stmt → Line
in_stmt = fold-Stmt Line Line stmt_step (λ x. x.kind)

-- GUARDS: what they name, and their aliases

pub record Aliased : Type 0 where
  pub mentions : List Mention
  pub aliases : List Word

abbrev pub both : Aliased → Aliased → Aliased
both x y = record { mentions = x.mentions ++ y.mentions; aliases = x.aliases ++ y.aliases }

abbrev pub guard_step : GuardKind-F Aliased Aliased → Aliased
guard_step (g.Not right) = right
guard_step (g.And left right) = both left right
guard_step (g.Or left right) = both left right
guard_step (g.Is path class alias) = record { mentions = InType class ∷ []; aliases = option_to_list alias }
guard_step (g.Alias path name) = record { mentions = []; aliases = name ∷ [] }
guard_step _ = record { mentions = []; aliases = [] }

abbrev pub in_guard : GuardExpr → Aliased
in_guard = fold-GuardExpr Aliased Aliased guard_step (λ x. x.kind)

abbrev pub in_guard_option : Option GuardExpr → Aliased
in_guard_option guard = option_map_or in_guard guard (record { mentions = []; aliases = [] })

-- MEMBERS, given their parameters

abbrev pub in_block : List Word → List Stmt → List Mention
in_block vars block = along (map in_stmt block) vars

abbrev pub in_exprs : List Word → Option (List Expr) → List Mention
in_exprs vars args = option_map_or (flat_map (in_expr vars)) args []

abbrev pub in_params : Member → List Mention
in_params m = flat_map (λ p. in_type p.ty) m.params

abbrev pub in_body : Member → List Word → MemberPart → List Mention
in_body m params (part.Field t static) = in_type t
in_body m params (part.Static result block) = in_type result ++ (in_params m ++ in_block params block)
in_body m params (part.Abstract result) = in_type result ++ in_params m
in_body m params (part.Body result guard block) =
    in_type result ++ (in_params m ++ ((in_guard_option guard).mentions ++ in_block (params ++ (in_guard_option guard).aliases) block))
in_body m params (part.Constructor args block) = in_params m ++ (in_exprs params args ++ in_block params block)

abbrev pub in_member : Member → List Mention
in_member m = in_body m (map (λ p. p.name) m.params) m.part

abbrev pub in_decl : Decl → List Mention
in_decl d = map InType (option_to_list d.superclass ++ d.interfaces) ++ flat_map in_member d.members

-- THE NAMES OF A UNIT, in the order in which they are first mentioned; its own classes and the language's are left out

abbrev pub as_type : Mention → Option Word
as_type (InType name) = Some name
as_type (BeforeDot name) = None

abbrev pub as_object : Mention → Option Word
as_object (InType name) = None
as_object (BeforeDot name) = Some name

abbrev pub known_names : SourceUnit → List Word
known_names unit = object ∷ io ∷ string ∷ map (λ d. d.name) unit.decls

-- what stands in type positions
abbrev pub must_see : SourceUnit → List Word
must_see unit = unmet (known_names unit) (filter_map as_type (flat_map in_decl unit.decls))

-- what stands before a dot and is no parameter, alias or local there
abbrev pub may_see : SourceUnit → List Word
may_see unit = unmet (known_names unit) (filter_map as_object (flat_map in_decl unit.decls))
