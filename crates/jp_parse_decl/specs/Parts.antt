-- Parts of a unit behind what was read of them before.
use Rattle.std.specs.Prelude.{◌≡◌, ℕ, Bool, true, false, List, [], ◌∷◌, ◌++◌, Option, Some, None}
use Rattle.jp_pred.specs.declared.ty.Ty.{Ty}
use Rattle.jp_pred.specs.declared.ty.Ty.TheVariants as ty
use Rattle.jp_ast.specs.declared.token.Token.{Token}
use Rattle.jp_ast.specs.declared.expr.Expr.{Expr}
use Rattle.jp_ast.specs.declared.stmt.Stmt.{Stmt}
use Rattle.jp_ast.specs.declared.guard.GuardExpr.{GuardExpr}
use Rattle.jp_ast.specs.declared.decl.Decl.{Decl}
use Rattle.jp_ast.specs.declared.decl.Param.{Param}
use Rattle.jp_ast.specs.declared.decl.Member.{Member}
use Rattle.jp_ast.specs.declared.decl.MemberPart.{MemberPart}
use Rattle.jp_ast.specs.declared.decl.MemberPart.TheVariants as part
use Rattle.jp_ast.specs.declared.sign.TheConstants as sign
use Rattle.jp_grammar.specs.declared.kind.Kind.TheVariants as k
use Rattle.jp_grammar.specs.Kinds.{Is, IsSign, IsName, Tokens}
use Rattle.jp_grammar.specs.Expressions.{Args}
use Rattle.jp_grammar.specs.Statements.{ResultType, Block}
use Rattle.jp_grammar.specs.Declarations.{OneParam, MoreParams, Params, MaybeGuard, Braces, MoreNames, MaybeNames, MaybeSuper, Modifier, Members, Promises, Declaration}
use Rattle.jp_parse_decl.specs.declared.token.Label.{Label}

-- NAME, with its place
pub data LabelAt : Tokens → Label → Tokens → Type 0 where
  label_at : {c : Token} {name : List ℕ} {xs : Tokens} → IsName name c → LabelAt (c ∷ xs) (record { place = c.place; name = name }) xs

-- params ")", where params = [type NAME {"," type NAME}]
pub data Listed : Tokens → List Param → Tokens → Type 0 where
  none_listed : {p : Token} {xs : Tokens} → IsSign sign.CLOSE_PAREN p → Listed (p ∷ xs) [] xs
  some_listed : {p : Param} {ps : List Param} {xs ys zs : Tokens} → OneParam xs p ys → MoreParams (p ∷ []) ys ps zs → Listed xs ps zs

-- args ")" ";"
pub data Passed : Tokens → List Expr → Tokens → Type 0 where
  passed : {p : Token} {ts : List Expr} {xs zs : Tokens} → Args xs ts (p ∷ zs) → IsSign sign.SEMICOLON p → Passed xs ts zs

-- a member at its name
abbrev pub made_at : Bool → Label → List Param → MemberPart → Member
made_at private l params part = record { place = l.place; is_private = private; name = l.name; params = params; part = part }

-- the type is `void`
abbrev pub is_void : Ty → Bool
is_void ty.Void = true
is_void _ = false

-- result NAME "(" params ")" ";"
pub data Pledge : Bool → Tokens → Member → Tokens → Type 0 where
  pledge : {private : Bool} {t : Ty} {l : Label} {p : Token} {ps : List Param} {xs ys ws zs : Tokens} →
      ResultType xs t ys → LabelAt ys l ws → Params ws ps (p ∷ zs) → IsSign sign.SEMICOLON p → Pledge private xs (made_at private l ps (part.Abstract t)) zs

-- "(" params ")" block, behind a type and a name
pub data StaticRest : Bool → Ty → Label → Tokens → Member → Tokens → Type 0 where
  static_rest : {private : Bool} {t : Ty} {l : Label} {ps : List Param} {ts : List Stmt} {xs ys zs : Tokens} →
      Params xs ps ys → Braces ys ts zs → StaticRest private t l xs (made_at private l ps (part.Static t ts)) zs

-- "(" params ")" ["when" guard] block, behind a type and a name
pub data BodyRest : Bool → Ty → Label → Tokens → Member → Tokens → Type 0 where
  body_rest : {private : Bool} {t : Ty} {l : Label} {ps : List Param} {g : Option GuardExpr} {ts : List Stmt} {xs ys ws zs : Tokens} →
      Params xs ps ys → MaybeGuard ys g ws → Braces ws ts zs → BodyRest private t l xs (made_at private l ps (part.Body t g ts)) zs

-- what makes a member of a type and a name: ";" where the type isn't `void`, or the rest of a method
pub data MemberRest : Bool → Bool → Ty → Label → Tokens → Member → Tokens → Type 0 where
  of_field : {private static : Bool} {t : Ty} {l : Label} {p : Token} {xs : Tokens} →
      is_void t ≡ false → IsSign sign.SEMICOLON p → MemberRest private static t l (p ∷ xs) (made_at private l [] (part.Field t static)) xs
  of_static : {private : Bool} {t : Ty} {l : Label} {m : Member} {xs zs : Tokens} → StaticRest private t l xs m zs → MemberRest private true t l xs m zs
  of_body : {private : Bool} {t : Ty} {l : Label} {m : Member} {xs zs : Tokens} → BodyRest private t l xs m zs → MemberRest private false t l xs m zs

-- result NAME, and what makes a member of them
pub data Titled : Bool → Bool → Tokens → Member → Tokens → Type 0 where
  titled : {private static : Bool} {t : Ty} {l : Label} {m : Member} {xs ys ws zs : Tokens} →
      ResultType xs t ys → LabelAt ys l ws → MemberRest private static t l ws m zs → Titled private static xs m zs

-- args ")" ";" {stmt} "}", behind `super` and `(`
pub data ConstructorArgs : Tokens → MemberPart → Tokens → Type 0 where
  constructor_args : {args : List Expr} {ts : List Stmt} {xs ys zs : Tokens} →
      Passed xs args ys → Block [] ys ts zs → ConstructorArgs xs (part.Constructor (Some args) ts) zs

-- {stmt} "}", as a constructor
pub data Bare : Tokens → MemberPart → Tokens → Type 0 where
  bare : {ts : List Stmt} {xs zs : Tokens} → Block [] xs ts zs → Bare xs (part.Constructor None ts) zs

-- ["super" "(" args ")" ";"] {stmt} "}"
pub data ConstructorBody : Tokens → MemberPart → Tokens → Type 0 where
  without_super : {ts : List Stmt} {xs zs : Tokens} → Block [] xs ts zs → ConstructorBody xs (part.Constructor None ts) zs
  with_super : {s o : Token} {p : MemberPart} {xs zs : Tokens} →
      Is k.Super s → IsSign sign.OPEN_PAREN o → ConstructorArgs xs p zs → ConstructorBody (s ∷ o ∷ xs) p zs

-- NAME "(" params ")" "{" ["super" "(" args ")" ";"] {stmt} "}"
pub data ConstructorAt : Bool → Tokens → Member → Tokens → Type 0 where
  constructor_at : {private : Bool} {l : Label} {o : Token} {ps : List Param} {p : MemberPart} {xs ys ws zs : Tokens} →
      LabelAt xs l ys → Params ys ps (o ∷ ws) → IsSign sign.OPEN_BRACE o → ConstructorBody ws p zs → ConstructorAt private xs (made_at private l ps p) zs

-- NAME {"," NAME}
pub data NamesAt : Tokens → List (List ℕ) → Tokens → Type 0 where
  names_at : {l : Label} {ns : List (List ℕ)} {xs ys zs : Tokens} → LabelAt xs l ys → MoreNames (l.name ∷ []) ys ns zs → NamesAt xs ns zs

-- a class with these modifiers
abbrev pub class_of : Bool → Bool → Label → Option (List ℕ) → List (List ℕ) → List Member → Decl
class_of abstracts finals l super ns ms = record { place = l.place; name = l.name; is_interface = false; is_abstract = abstracts; is_final = finals; superclass = super; interfaces = ns; members = ms }

-- an interface
abbrev pub interface_of : Label → List (List ℕ) → List Member → Decl
interface_of l ns ms = record { place = l.place; name = l.name; is_interface = true; is_abstract = false; is_final = false; superclass = None; interfaces = ns; members = ms }

-- "class" NAME ["extends" NAME] ["implements" NAME {"," NAME}] "{" {member} "}"
pub data ClassAt : Bool → Bool → Tokens → Decl → Tokens → Type 0 where
  class_at : {abstracts finals : Bool} {s o : Token} {l : Label} {super : Option (List ℕ)} {ns : List (List ℕ)} {ms : List Member} {xs ys vs ws zs : Tokens} →
      Is k.Class s → LabelAt xs l ys → MaybeSuper ys super vs → MaybeNames k.Implements vs ns (o ∷ ws) → IsSign sign.OPEN_BRACE o → Members [] ws ms zs →
      ClassAt abstracts finals (s ∷ xs) (class_of abstracts finals l super ns ms) zs

-- NAME ["extends" NAME {"," NAME}] "{" { promise } "}", behind `interface`
pub data InterfaceAt : Tokens → Decl → Tokens → Type 0 where
  interface_at : {o : Token} {l : Label} {ns : List (List ℕ)} {ms : List Member} {xs ys ws zs : Tokens} →
      LabelAt xs l ys → MaybeNames k.Extends ys ns (o ∷ ws) → IsSign sign.OPEN_BRACE o → Promises [] ws ms zs → InterfaceAt xs (interface_of l ns ms) zs

-- a declaration without `public` in front
pub data Declared : Tokens → Decl → Tokens → Type 0 where
  of_class : {abstracts finals : Bool} {d : Decl} {xs ys zs : Tokens} → Modifier xs abstracts finals ys → ClassAt abstracts finals ys d zs → Declared xs d zs
  of_interface : {s : Token} {d : Decl} {xs zs : Tokens} → Is k.Interface s → InterfaceAt xs d zs → Declared (s ∷ xs) d zs

-- {decl}, behind some declarations
pub data MoreGathered : List Decl → Tokens → List Decl → Tokens → Type 0 where
  gathered_end : {ds : List Decl} {xs : Tokens} → MoreGathered ds xs ds xs
  gathered_more : {d : Decl} {ds es : List Decl} {xs ys zs : Tokens} → Declaration xs d ys → MoreGathered (ds ++ d ∷ []) ys es zs → MoreGathered ds xs es zs

-- decl {decl}
pub data Gathered : Tokens → List Decl → Tokens → Type 0 where
  gathered : {d : Decl} {ds : List Decl} {xs ys zs : Tokens} → Declaration xs d ys → MoreGathered (d ∷ []) ys ds zs → Gathered xs ds zs
