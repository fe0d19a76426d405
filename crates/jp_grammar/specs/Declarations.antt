-- The grammar of units. `P xs t zs` says that the production P reads t from the front of the tokens xs, and leaves zs.
use Rattle.std.specs.Prelude.{◌≡◌, ℕ, Bool, true, false, List, [], ◌∷◌, ◌++◌, Option, Some, None}
use Rattle.jp_pred.specs.declared.ty.Ty.{Ty}
use Rattle.jp_ast.specs.declared.token.Token.{Token}
use Rattle.jp_ast.specs.declared.expr.Expr.{Expr}
use Rattle.jp_ast.specs.declared.stmt.Stmt.{Stmt}
use Rattle.jp_ast.specs.declared.guard.GuardExpr.{GuardExpr}
use Rattle.jp_ast.specs.declared.decl.SourceUnit.{SourceUnit}
use Rattle.jp_ast.specs.declared.decl.Decl.{Decl}
use Rattle.jp_ast.specs.declared.decl.Param.{Param}
use Rattle.jp_ast.specs.declared.decl.Member.{Member}
use Rattle.jp_ast.specs.declared.decl.MemberPart.{MemberPart}
use Rattle.jp_ast.specs.declared.decl.MemberPart.TheVariants as part
use Rattle.jp_ast.specs.declared.sign.TheConstants as sign
use Rattle.jp_grammar.specs.declared.kind.Kind.{Kind}
use Rattle.jp_grammar.specs.declared.kind.Kind.TheVariants as k
use Rattle.jp_grammar.specs.Kinds.{Is, IsSign, IsName, Tokens}
use Rattle.jp_grammar.specs.Expressions.{Args}
use Rattle.jp_grammar.specs.Guards.{Guard}
use Rattle.jp_grammar.specs.Statements.{OneType, ResultType, Block}

-- [word], and whether it stands there
pub data Maybe : Kind → Tokens → Bool → Tokens → Type 0 where
  absent : {kind : Kind} {xs : Tokens} → Maybe kind xs false xs
  present : {kind : Kind} {s : Token} {xs : Tokens} → Is kind s → Maybe kind (s ∷ xs) true xs

-- {"," NAME}, behind some names
pub data MoreNames : List (List ℕ) → Tokens → List (List ℕ) → Tokens → Type 0 where
  names_end : {ns : List (List ℕ)} {xs : Tokens} → MoreNames ns xs ns xs
  names_more : {s c : Token} {name : List ℕ} {ns ms : List (List ℕ)} {xs zs : Tokens} →
      IsSign sign.COMMA s → IsName name c → MoreNames (ns ++ name ∷ []) xs ms zs → MoreNames ns (s ∷ c ∷ xs) ms zs

-- [word NAME {"," NAME}]
pub data MaybeNames : Kind → Tokens → List (List ℕ) → Tokens → Type 0 where
  no_names : {kind : Kind} {xs : Tokens} → MaybeNames kind xs [] xs
  some_names : {kind : Kind} {s c : Token} {name : List ℕ} {ns : List (List ℕ)} {xs zs : Tokens} →
      Is kind s → IsName name c → MoreNames (name ∷ []) xs ns zs → MaybeNames kind (s ∷ c ∷ xs) ns zs

-- ["extends" NAME]
pub data MaybeSuper : Tokens → Option (List ℕ) → Tokens → Type 0 where
  no_super : {xs : Tokens} → MaybeSuper xs None xs
  some_super : {s c : Token} {name : List ℕ} {xs : Tokens} → Is k.Extends s → IsName name c → MaybeSuper (s ∷ c ∷ xs) (Some name) xs

-- type NAME
pub data OneParam : Tokens → Param → Tokens → Type 0 where
  one_param : {c : Token} {name : List ℕ} {t : Ty} {xs zs : Tokens} →
      OneType xs t (c ∷ zs) → IsName name c → OneParam xs (record { place = c.place; ty = t; name = name }) zs

-- {"," type NAME} ")", behind some parameters
pub data MoreParams : List Param → Tokens → List Param → Tokens → Type 0 where
  last_param : {p : Token} {ps : List Param} {xs : Tokens} → IsSign sign.CLOSE_PAREN p → MoreParams ps (p ∷ xs) ps xs
  next_param : {s : Token} {p : Param} {ps qs : List Param} {xs ys zs : Tokens} →
      IsSign sign.COMMA s → OneParam xs p ys → MoreParams (ps ++ p ∷ []) ys qs zs → MoreParams ps (s ∷ xs) qs zs

-- "(" params ")", where params = [type NAME {"," type NAME}]
pub data Params : Tokens → List Param → Tokens → Type 0 where
  no_params : {o p : Token} {xs : Tokens} → IsSign sign.OPEN_PAREN o → IsSign sign.CLOSE_PAREN p → Params (o ∷ p ∷ xs) [] xs
  some_params : {o : Token} {p : Param} {ps : List Param} {xs ys zs : Tokens} →
      IsSign sign.OPEN_PAREN o → OneParam xs p ys → MoreParams (p ∷ []) ys ps zs → Params (o ∷ xs) ps zs

-- ["when" guard]
pub data MaybeGuard : Tokens → Option GuardExpr → Tokens → Type 0 where
  no_guard : {xs : Tokens} → MaybeGuard xs None xs
  some_guard : {s : Token} {g : GuardExpr} {xs zs : Tokens} → Is k.When s → Guard xs g zs → MaybeGuard (s ∷ xs) (Some g) zs

-- "{" {stmt} "}"
pub data Braces : Tokens → List Stmt → Tokens → Type 0 where
  braces : {o : Token} {ts : List Stmt} {xs zs : Tokens} → IsSign sign.OPEN_BRACE o → Block [] xs ts zs → Braces (o ∷ xs) ts zs

-- ["super" "(" args ")" ";"]
pub data MaybeSuperCall : Tokens → Option (List Expr) → Tokens → Type 0 where
  no_super_call : {xs : Tokens} → MaybeSuperCall xs None xs
  some_super_call : {s o p : Token} {ts : List Expr} {xs zs : Tokens} →
      Is k.Super s → IsSign sign.OPEN_PAREN o → Args xs ts (p ∷ zs) → IsSign sign.SEMICOLON p → MaybeSuperCall (s ∷ o ∷ xs) (Some ts) zs

-- a member at its name
abbrev pub member_at : Bool → Token → List ℕ → List Param → MemberPart → Member
member_at private c name params part = record { place = c.place; is_private = private; name = name; params = params; part = part }

-- the part of a member behind ["public" | "private"]:
--   ["static"] type NAME ";" | "static" result NAME "(" params ")" block | "abstract" result NAME "(" params ")" ";"
--   | result NAME "(" params ")" ["when" guard] block | NAME "(" params ")" "{" ["super" "(" args ")" ";"] {stmt} "}"
pub data MemberBody : Bool → Tokens → Member → Tokens → Type 0 where
  field : {private static : Bool} {c p : Token} {name : List ℕ} {t : Ty} {xs ys zs : Tokens} →
      Maybe k.Static xs static ys → OneType ys t (c ∷ p ∷ zs) → IsName name c → IsSign sign.SEMICOLON p →
      MemberBody private xs (member_at private c name [] (part.Field t static)) zs
  static_method : {private : Bool} {s c : Token} {name : List ℕ} {t : Ty} {ps : List Param} {ts : List Stmt} {xs ys vs zs : Tokens} →
      Is k.Static s → ResultType xs t (c ∷ ys) → IsName name c → Params ys ps vs → Braces vs ts zs →
      MemberBody private (s ∷ xs) (member_at private c name ps (part.Static t ts)) zs
  abstract_method : {private : Bool} {s c p : Token} {name : List ℕ} {t : Ty} {ps : List Param} {xs ys zs : Tokens} →
      Is k.Abstract s → ResultType xs t (c ∷ ys) → IsName name c → Params ys ps (p ∷ zs) → IsSign sign.SEMICOLON p →
      MemberBody private (s ∷ xs) (member_at private c name ps (part.Abstract t)) zs
  method_body : {private : Bool} {c : Token} {name : List ℕ} {t : Ty} {ps : List Param} {g : Option GuardExpr} {ts : List Stmt} {xs ys vs ws zs : Tokens} →
      ResultType xs t (c ∷ ys) → IsName name c → Params ys ps vs → MaybeGuard vs g ws → Braces ws ts zs →
      MemberBody private xs (member_at private c name ps (part.Body t g ts)) zs
  constructor : {private : Bool} {c o : Token} {name : List ℕ} {ps : List Param} {args : Option (List Expr)} {ts : List Stmt} {xs ys ws zs : Tokens} →
      IsName name c → Params xs ps (o ∷ ys) → IsSign sign.OPEN_BRACE o → MaybeSuperCall ys args ws → Block [] ws ts zs →
      MemberBody private (c ∷ xs) (member_at private c name ps (part.Constructor args ts)) zs

-- member = ["public" | "private"] ( .. )
pub data OneMember : Tokens → Member → Tokens → Type 0 where
  default_member : {xs zs : Tokens} {m : Member} → MemberBody false xs m zs → OneMember xs m zs
  public_member : {s : Token} {xs zs : Tokens} {m : Member} → Is k.Public s → MemberBody false xs m zs → OneMember (s ∷ xs) m zs
  private_member : {s : Token} {xs zs : Tokens} {m : Member} → Is k.Private s → MemberBody true xs m zs → OneMember (s ∷ xs) m zs

-- {member} "}", behind some members
pub data Members : List Member → Tokens → List Member → Tokens → Type 0 where
  members_end : {p : Token} {ms : List Member} {xs : Tokens} → IsSign sign.CLOSE_BRACE p → Members ms (p ∷ xs) ms xs
  members_more : {m : Member} {ms ns : List Member} {xs ys zs : Tokens} →
      OneMember xs m ys → Members (ms ++ m ∷ []) ys ns zs → Members ms xs ns zs

-- ["public"] ["abstract"] result NAME "(" params ")" ";"
pub data Promise : Tokens → Member → Tokens → Type 0 where
  promise : {a b : Bool} {c p : Token} {name : List ℕ} {t : Ty} {ps : List Param} {xs ys vs ws zs : Tokens} →
      Maybe k.Public xs a ys → Maybe k.Abstract ys b vs → ResultType vs t (c ∷ ws) → IsName name c → Params ws ps (p ∷ zs) → IsSign sign.SEMICOLON p →
      Promise xs (member_at false c name ps (part.Abstract t)) zs

-- { promise } "}", behind some members
pub data Promises : List Member → Tokens → List Member → Tokens → Type 0 where
  promises_end : {p : Token} {ms : List Member} {xs : Tokens} → IsSign sign.CLOSE_BRACE p → Promises ms (p ∷ xs) ms xs
  promises_more : {m : Member} {ms ns : List Member} {xs ys zs : Tokens} →
      Promise xs m ys → Promises (ms ++ m ∷ []) ys ns zs → Promises ms xs ns zs

-- ["abstract" | "final"], and which of them stands there
pub data Modifier : Tokens → Bool → Bool → Tokens → Type 0 where
  no_modifier : {xs : Tokens} → Modifier xs false false xs
  abstract_modifier : {s : Token} {xs : Tokens} → Is k.Abstract s → Modifier (s ∷ xs) true false xs
  final_modifier : {s : Token} {xs : Tokens} → Is k.Final s → Modifier (s ∷ xs) false true xs

-- decl = ["public"] ["abstract" | "final"] "class" NAME ["extends" NAME] ["implements" NAME {"," NAME}] "{" {member} "}"
--      | ["public"] "interface" NAME ["extends" NAME {"," NAME}] "{" { ["public"] ["abstract"] result NAME "(" params ")" ";" } "}"
pub data Declaration : Tokens → Decl → Tokens → Type 0 where
  class_decl : {public abstracts finals : Bool} {s c o : Token} {name : List ℕ} {super : Option (List ℕ)} {ns : List (List ℕ)} {ms : List Member} {xs ys vs ws us zs : Tokens} →
      Maybe k.Public xs public ys → Modifier ys abstracts finals (s ∷ c ∷ vs) → Is k.Class s → IsName name c →
      MaybeSuper vs super ws → MaybeNames k.Implements ws ns (o ∷ us) → IsSign sign.OPEN_BRACE o → Members [] us ms zs →
      Declaration xs (record { place = c.place; name = name; is_interface = false; is_abstract = abstracts; is_final = finals; superclass = super; interfaces = ns; members = ms }) zs
  interface_decl : {public : Bool} {s c o : Token} {name : List ℕ} {ns : List (List ℕ)} {ms : List Member} {xs vs us zs : Tokens} →
      Maybe k.Public xs public (s ∷ c ∷ vs) → Is k.Interface s → IsName name c →
      MaybeNames k.Extends vs ns (o ∷ us) → IsSign sign.OPEN_BRACE o → Promises [] us ms zs →
      Declaration xs (record { place = c.place; name = name; is_interface = true; is_abstract = false; is_final = false; superclass = None; interfaces = ns; members = ms }) zs

-- {decl} and the end of the text, behind some declarations
pub data MoreDeclarations : List Decl → Tokens → List Decl → Type 0 where
  unit_end : {last : Token} {ds : List Decl} → Is k.End last → MoreDeclarations ds (last ∷ []) ds
  unit_more : {d : Decl} {ds es : List Decl} {xs ys : Tokens} → Declaration xs d ys → MoreDeclarations (ds ++ d ∷ []) ys es → MoreDeclarations ds xs es

-- unit = decl { decl }
pub data Whole : Tokens → SourceUnit → Type 0 where
  whole : {d : Decl} {ds : List Decl} {xs ys : Tokens} → Declaration xs d ys → MoreDeclarations (d ∷ []) ys ds → Whole xs (record { decls = ds })
