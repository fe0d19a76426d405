-- The kinds of members, and lists of members.
use Rattle.std.proofs.Common.{◌≡◌, ℕ, ◌≤◌, ◌<◌, max, Bool, true, false, map, List, [], ◌∷◌, ◌++◌, length, Err, IsTrue, refl, ap, ◌∙◌, subst, arith}
use Rattle.jp_pred.specs.declared.ty.Ty.{Ty}
use Rattle.jp_pred.specs.declared.ty.Ty.TheVariants as ty
use Rattle.jp_ast.specs.declared.token.Token.{Token}
use Rattle.jp_ast.specs.declared.decl.Param.{Param}
use Rattle.jp_ast.specs.declared.decl.Member.{Member}
use Rattle.jp_ast.specs.declared.decl.MemberPart.TheVariants as part
use Rattle.jp_ast.specs.declared.sign.TheConstants as sign
use Rattle.jp_grammar.specs.declared.kind.Kind.{Kind}
use Rattle.jp_grammar.specs.declared.kind.Kind.TheVariants as k
use Rattle.jp_grammar.specs.declared.fault.ParseFault.{ParseFault}
use Rattle.jp_grammar.specs.Kinds.{Is, IsSign, IsName, Tokens, kind_of_token}
use Rattle.jp_grammar.specs.Expressions.{IsElement}
use Rattle.jp_grammar.specs.Statements.{OneType, ResultType, block_end, element_type, array_type, no_result, some_result}
use Rattle.jp_grammar.specs.Declarations.{Maybe, absent, present, Params, no_guard, braces, no_params, some_params, MemberBody, field, static_method, abstract_method, method_body, constructor, no_super_call, some_super_call, OneMember, default_member, public_member, private_member, Members, members_end, members_more, Promise, promise, Promises, promises_end, promises_more}
use Rattle.jp_grammar.specs.Reading.{Reads, Ends, Any, Found, Fails}
use Rattle.jp_grammar.specs.Depth.{greatest}
use Rattle.jp_grammar.specs.Faults.{deepest_of_member}
use Rattle.jp_grammar.proofs.Sequence.{Then}
use Rattle.jp_grammar.proofs.Outcome.{Joint, Same}
use Rattle.jp_grammar.proofs.Samples.{a_name, a_name_is, a_sign}
use Rattle.jp_grammar.proofs.Words.{name_token}
use Rattle.jp_parse_stmt.specs.Behind.{anything, ends_type}
use Rattle.jp_parse_decl.specs.declared.token.Label.{Label}
use Rattle.jp_parse_decl.specs.Answers.{Yields, Skips}
use Rattle.jp_parse_decl.specs.Bounds.{SmallMember, SmallMembers}
use Rattle.jp_parse_decl.specs.Parts.{LabelAt, label_at, Pledge, pledge, StaticRest, static_rest, BodyRest, body_rest, MemberRest, of_field, of_static, of_body, Titled, titled, passed, constructor_args, without_super, with_super, ConstructorAt, constructor_at, made_at, is_void}
use Rattle.jp_parse_decl.proofs.Links.{Answer, Part, Tail, Alike, Alt, After, Both, linked, goes, stops, then_gives, then_fails, alike_gives, alt_gives, after_same, after_gives, same_gives, moved, found_shorter}
use Rattle.jp_parse_decl.proofs.Tokens.{Optional, kept, skipped, skips_gives, label_part, head_name, name_type, fits_all}
use Rattle.jp_parse_decl.proofs.ParamFacts.{result_part, type_begins, result_begins}

-- `,`, with which no member begins
abbrev pub a_comma : Token
a_comma = a_sign sign.COMMA

-- ---- what makes a member of a type and a name

abbrev pub MethodRest : Bool → Bool → Ty → Label → Reads Member
MethodRest private true t l = StaticRest private t l
MethodRest private false t l = BodyRest private t l

params_open : {s : Token} {xs zs : Tokens} {ps : List Param} → Params (s ∷ xs) ps zs → IsSign sign.OPEN_PAREN s
params_open (no_params o h) = o
params_open (some_params o p m) = o

static_open : {s : Token} {private : Bool} {t : Ty} {l : Label} {m : Member} {xs zs : Tokens} → StaticRest private t l (s ∷ xs) m zs → IsSign sign.OPEN_PAREN s
static_open (static_rest q b) = params_open q

body_open : {s : Token} {private : Bool} {t : Ty} {l : Label} {m : Member} {xs zs : Tokens} → BodyRest private t l (s ∷ xs) m zs → IsSign sign.OPEN_PAREN s
body_open (body_rest q g b) = params_open q

method_open : (s : Token) (private static : Bool) (t : Ty) (l : Label) (m : Member) (xs zs : Tokens) → MethodRest private static t l (s ∷ xs) m zs → IsSign sign.OPEN_PAREN s
method_open s private true t l m xs zs r = static_open r
method_open s private false t l m xs zs r = body_open r

method_into : (private static : Bool) (t : Ty) (l : Label) (xs zs : Tokens) (m : Member) → MethodRest private static t l xs m zs → MemberRest private static t l xs m zs
method_into private true t l xs zs m r = of_static r
method_into private false t l xs zs m r = of_body r

rest_from : (private static : Bool) (t : Ty) (l : Label) (s : Token) (ys zs : Tokens) (m : Member) → (is_void t ≡ false → IsSign sign.SEMICOLON s → ⊥) → MemberRest private static t l (s ∷ ys) m zs → MethodRest private static t l (s ∷ ys) m zs
rest_from private static t l s ys zs m other (of_field v h) = absurd (other v h)
rest_from private static t l s ys zs m other (of_static r) = r
rest_from private static t l s ys zs m other (of_body r) = r

no_open : (s : Token) → IsSign sign.SEMICOLON s → IsSign sign.OPEN_PAREN s → ⊥
no_open s h o = let n : sign.SEMICOLON ≡ sign.OPEN_PAREN = cc in omega (arith, n)

field_only : (private static : Bool) (t : Ty) (l : Label) (s : Token) (ys zs : Tokens) (m : Member) → IsSign sign.SEMICOLON s → MemberRest private static t l (s ∷ ys) m zs → (m ≡ made_at private l [] (part.Field t static)) × (zs ≡ ys)
field_only private static t l s ys zs m h (of_field v h') = (refl, refl)
field_only private static t l s ys zs m h (of_static r) = absurd (no_open s h (static_open r))
field_only private static t l s ys zs m h (of_body r) = absurd (no_open s h (body_open r))

module _ (private static : Bool) (t : Ty) (l : Label) (s : Token) (xs tokens : Tokens) (split : tokens ≡ s ∷ xs) where
  rest_alt : (is_void t ≡ false → IsSign sign.SEMICOLON s → ⊥) → Alt s (MethodRest private static t l) (MemberRest private static t l) anything
  rest_alt other = record {
    into = λ ys zs m r. method_into private static t l ys zs m r;
    from = λ ys zs m r h. rest_from private static t l s ys zs m other r;
    bad = a_comma ∷ [];
    bad_ends = refl;
    solid = λ m r. absurd (let g = method_open a_comma private static t l m [] (a_comma ∷ []) r in let n : sign.COMMA ≡ sign.OPEN_PAREN = cc in omega (arith, n));
  }

  pub rest_gives : (r : Answer Member) → (is_void t ≡ false → IsSign sign.SEMICOLON s → ⊥) → Yields (MethodRest private static t l) anything SmallMember tokens r → Yields (MemberRest private static t l) anything SmallMember tokens r
  rest_gives r other g = moved (MemberRest private static t l) anything SmallMember tokens (s ∷ xs) r split
      (alt_gives SmallMember (rest_alt other) xs r (subst (λ (x : Tokens). Yields (MethodRest private static t l) anything SmallMember x r) split g))

  pub field_found : is_void t ≡ false → IsSign sign.SEMICOLON s → Found (MemberRest private static t l) (λ _. anything) tokens (made_at private l [] (part.Field t static)) xs
  field_found v h = record {
    front = s ∷ [];
    split = split;
    reads = λ ys f. of_field v h;
    only = λ ys zs m f r e. field_only private static t l s ys zs m h r;
  }

-- ---- result NAME, and what makes a member of them

rest_close : (private static : Bool) (t : Ty) (l : Label) (zs : Tokens) → (m : Member) × MemberRest private static t l (a_sign sign.OPEN_PAREN ∷ a_sign sign.CLOSE_PAREN ∷ a_sign sign.OPEN_BRACE ∷ a_sign sign.CLOSE_BRACE ∷ zs) m zs × SmallMember m
rest_close private true t l zs = (_, of_static (static_rest (no_params refl refl) (braces refl (block_end refl))), omega arith)
rest_close private false t l zs = (_, of_body (body_rest (no_params refl refl) no_guard (braces refl (block_end refl))), omega arith)

params_some : {xs zs : Tokens} {ps : List Param} → Params xs ps zs → Ends anything xs
params_some (no_params o h) = refl
params_some (some_params o p m) = refl

static_some : {private : Bool} {t : Ty} {l : Label} {m : Member} {xs zs : Tokens} → StaticRest private t l xs m zs → Ends anything xs
static_some (static_rest q b) = params_some q

body_some : {private : Bool} {t : Ty} {l : Label} {m : Member} {xs zs : Tokens} → BodyRest private t l xs m zs → Ends anything xs
body_some (body_rest q g b) = params_some q

rest_begins : {private static : Bool} {t : Ty} {l : Label} {xs zs : Tokens} {m : Member} → MemberRest private static t l xs m zs → Ends anything xs
rest_begins (of_field v h) = refl
rest_begins (of_static r) = static_some r
rest_begins (of_body r) = body_some r

module _ (private static : Bool) where
  abbrev Titled3 : ((Unit {0} × Ty) × Label) → Reads Member
  Titled3 e = MemberRest private static e.0.1 e.1

  abbrev Titled2 : (Unit {0} × Ty) → Reads Member
  Titled2 e = Then LabelAt (λ l. Titled3 (e, l))

  abbrev Titled1 : Unit {0} → Reads Member
  Titled1 e = Then ResultType (λ t. Titled2 (e, t))

  titled_into : (xs zs : Tokens) (m : Member) → Titled1 tt xs m zs → Titled private static xs m zs
  titled_into xs zs m (t, ys, r, (l, ws, n, q)) = titled r n q

  titled_from : (xs zs : Tokens) (m : Member) → Titled private static xs m zs → Titled1 tt xs m zs
  titled_from xs zs m (titled r n q) = (_, _, r, (_, _, n, q))

  titled_alike : Alike (Titled1 tt) (Titled private static) anything
  titled_alike = record { into = λ xs zs p r. titled_into xs zs p r; from = λ xs zs p r e. titled_from xs zs p r }

  titled_tail3 : Tail Titled3 anything anything (Both (Both Any Any) Any) SmallMember
  titled_tail3 = record {
    starts = λ e xs zs m r h. rest_begins r;
    down = λ e xs zs m r q. ((tt, tt), tt);
    close = a_sign sign.OPEN_PAREN ∷ a_sign sign.CLOSE_PAREN ∷ a_sign sign.OPEN_BRACE ∷ a_sign sign.CLOSE_BRACE ∷ [];
    closed = λ e zs h. let c = rest_close private static e.0.1 e.1 zs in (c.0, c.1, λ p. c.2);
  }

  titled_tail2 : Tail Titled2 anything head_name (Both Any Any) SmallMember
  titled_tail2 = linked (Both Any Any) label_part titled_tail3 (fits_all _)

  pub titled_result_fails : (xs : Tokens) (e : ParseFault) → Fails ResultType (λ _. ends_type) ends_type Any xs e → Yields (Titled private static) anything SmallMember xs (Err e)
  titled_result_fails xs e f = alike_gives SmallMember titled_alike xs (Err e) (stops Any result_part titled_tail2 name_type tt tt xs e f)

  module _ (xs ys : Tokens) (t : Ty) (g : Found ResultType (λ _. ends_type) xs t ys) where
    titled_behind1 : (r : Answer Member) → Yields (Titled2 (tt, t)) anything SmallMember ys r → Yields (Titled private static) anything SmallMember xs r
    titled_behind1 r f = alike_gives SmallMember titled_alike xs r (goes Any result_part titled_tail2 name_type tt tt xs ys t r g f)

    pub titled_name_fails : (e : ParseFault) → Fails LabelAt (λ _. anything) anything Any ys e → Yields (Titled private static) anything SmallMember xs (Err e)
    titled_name_fails e f = titled_behind1 (Err e) (stops (Both Any Any) label_part titled_tail3 (fits_all _) (tt, t) (tt, tt) ys e f)

    pub titled_gives : (ws : Tokens) (l : Label) (r : Answer Member) → Found LabelAt (λ _. anything) ys l ws → Yields (MemberRest private static t l) anything SmallMember ws r → Yields (Titled private static) anything SmallMember xs r
    titled_gives ws l r n f = titled_behind1 r (goes (Both Any Any) label_part titled_tail3 (fits_all _) (tt, t) (tt, tt) ys ws l r n f)

-- ---- what members begin with

abbrev type_kind : Kind → Bool
type_kind k.Int = true
type_kind k.Boolean = true
type_kind k.Name = true
type_kind _ = false

abbrev result_kind : Kind → Bool
result_kind k.Void = true
result_kind k.Int = true
result_kind k.Boolean = true
result_kind k.Name = true
result_kind _ = false

abbrev body_kind : Kind → Bool
body_kind k.Static = true
body_kind k.Abstract = true
body_kind k.Void = true
body_kind k.Int = true
body_kind k.Boolean = true
body_kind k.Name = true
body_kind _ = false

abbrev member_kind : Kind → Bool
member_kind k.Public = true
member_kind k.Private = true
member_kind kind = body_kind kind

body_member : (kind : Kind) → IsTrue (body_kind kind) → IsTrue (member_kind kind)
body_member k.Public h = refl
body_member k.Private h = refl
body_member _ h = h

element_head : (elem : Ty) (s : Token) → IsElement elem s → IsTrue (type_kind (kind_of_token s)) × IsTrue (result_kind (kind_of_token s)) × IsTrue (body_kind (kind_of_token s))
element_head ty.Int s e = (ap type_kind e, ap result_kind e, ap body_kind e)
element_head ty.Boolean s e = (ap type_kind e, ap result_kind e, ap body_kind e)
element_head (ty.Class class) s e = (ap type_kind e.1, ap result_kind e.1, ap body_kind e.1)
element_head ty.Void s e = absurd e
element_head ty.IntArray s e = absurd e
element_head ty.BooleanArray s e = absurd e
element_head (ty.ClassArray class) s e = absurd e

type_head : {s : Token} {xs zs : Tokens} {t : Ty} → OneType (s ∷ xs) t zs → IsTrue (type_kind (kind_of_token s)) × IsTrue (result_kind (kind_of_token s)) × IsTrue (body_kind (kind_of_token s))
type_head {s = s} (element_type {elem = elem} e) = element_head elem s e
type_head {s = s} (array_type elem e o p) = element_head elem s e

result_head : {s : Token} {xs zs : Tokens} {t : Ty} → ResultType (s ∷ xs) t zs → IsTrue (result_kind (kind_of_token s)) × IsTrue (body_kind (kind_of_token s))
result_head (no_result h) = (ap result_kind h, ap body_kind h)
result_head (some_result r) = let h = type_head r in (h.1, h.2)

maybe_head : {s : Token} {static : Bool} {t : Ty} {xs ys zs : Tokens} → Maybe k.Static (s ∷ xs) static ys → OneType ys t zs → IsTrue (body_kind (kind_of_token s))
maybe_head absent r = (type_head r).2
maybe_head (present h) r = ap body_kind h

body_head : {s : Token} {private : Bool} {m : Member} {xs zs : Tokens} → MemberBody private (s ∷ xs) m zs → IsTrue (body_kind (kind_of_token s))
body_head (field w r n h) = maybe_head w r
body_head (static_method h r n q b) = ap body_kind h
body_head (abstract_method h r n q p) = ap body_kind h
body_head (method_body r n q g b) = (result_head r).1
body_head (constructor n q o a b) = ap body_kind n.1

titled_head : {s : Token} {private static : Bool} {m : Member} {xs zs : Tokens} → Titled private static (s ∷ xs) m zs → IsTrue (result_kind (kind_of_token s))
titled_head (titled r n q) = (result_head r).0

type_no_void' : {xs zs : Tokens} {t : Ty} → OneType xs t zs → is_void t ≡ false
type_no_void' (element_type {s = s} {elem = elem} e) = element_no s elem e where
  element_no : (s : Token) (elem : Ty) → IsElement elem s → is_void elem ≡ false
  element_no s ty.Int e = refl
  element_no s ty.Boolean e = refl
  element_no s (ty.Class class) e = refl
  element_no s ty.Void e = absurd e
  element_no s ty.IntArray e = absurd e
  element_no s ty.BooleanArray e = absurd e
  element_no s (ty.ClassArray class) e = absurd e
type_no_void' (array_type ty.Int e o p) = refl
type_no_void' (array_type ty.Boolean e o p) = refl
type_no_void' (array_type (ty.Class class) e o p) = refl
type_no_void' (array_type ty.Void e o p) = absurd e
type_no_void' (array_type ty.IntArray e o p) = absurd e
type_no_void' (array_type ty.BooleanArray e o p) = absurd e
type_no_void' (array_type (ty.ClassArray class) e o p) = absurd e

result_type : {xs zs : Tokens} {t : Ty} → is_void t ≡ false → ResultType xs t zs → OneType xs t zs
result_type v (no_result h) = cc
result_type v (some_result r) = r

-- ---- the part of a member behind `public` or `private`

static_into : {private : Bool} {s : Token} {xs zs : Tokens} {m : Member} → Is k.Static s → Titled private true xs m zs → MemberBody private (s ∷ xs) m zs
static_into hs (titled r (label_at n) (of_field v h)) = field (present hs) (result_type v r) n h
static_into hs (titled r (label_at n) (of_static (static_rest q b))) = static_method hs r n q b

static_from : {private : Bool} {s : Token} {xs zs : Tokens} {m : Member} → Is k.Static s → MemberBody private (s ∷ xs) m zs → Titled private true xs m zs
static_from hs (field absent r n h) = absurd (let a = (type_head r).0 in let g = ap type_kind hs in cc)
static_from hs (field (present h') r n h) = titled (some_result r) (label_at n) (of_field (type_no_void' r) h)
static_from hs (static_method h r n q b) = titled r (label_at n) (of_static (static_rest q b))
static_from hs (abstract_method h r n q p) = cc
static_from hs (method_body r n q g b) = absurd (let a = (result_head r).0 in let c = ap result_kind hs in cc)
static_from hs (constructor n q o a b) = let m = n.1 in cc

pledge_into : {private : Bool} {s : Token} {xs zs : Tokens} {m : Member} → Is k.Abstract s → Pledge private xs m zs → MemberBody private (s ∷ xs) m zs
pledge_into hs (pledge r (label_at n) q h) = abstract_method hs r n q h

pledge_from : {private : Bool} {s : Token} {xs zs : Tokens} {m : Member} → Is k.Abstract s → MemberBody private (s ∷ xs) m zs → Pledge private xs m zs
pledge_from hs (field absent r n h) = absurd (let a = (type_head r).0 in let g = ap type_kind hs in cc)
pledge_from hs (field (present h') r n h) = cc
pledge_from hs (static_method h r n q b) = cc
pledge_from hs (abstract_method h r n q p) = pledge r (label_at n) q p
pledge_from hs (method_body r n q g b) = absurd (let a = (result_head r).0 in let c = ap result_kind hs in cc)
pledge_from hs (constructor n q o a b) = let m = n.1 in cc

plain_into : {private : Bool} {xs zs : Tokens} {m : Member} → Titled private false xs m zs → MemberBody private xs m zs
plain_into (titled r (label_at n) (of_field v h)) = field absent (result_type v r) n h
plain_into (titled r (label_at n) (of_body (body_rest q g b))) = method_body r n q g b

-- the token is none of the words that begin another kind of member
pub record Plain (s : Token) : Type 0 where
  pub no_abstract : Is k.Abstract s → ⊥
  pub no_static : Is k.Static s → ⊥

plain_from : {private : Bool} {s : Token} {xs zs : Tokens} {m : Member} → Plain s → ((ps : List Param) (ys : Tokens) → Is k.Name s → Params xs ps ys → ⊥) → MemberBody private (s ∷ xs) m zs → Titled private false (s ∷ xs) m zs
plain_from p none (field absent r n h) = titled (some_result r) (label_at n) (of_field (type_no_void' r) h)
plain_from p none (field (present h') r n h) = absurd (p.no_static h')
plain_from p none (static_method h r n q b) = absurd (p.no_static h)
plain_from p none (abstract_method h r n q e) = absurd (p.no_abstract h)
plain_from p none (method_body r n q g b) = titled r (label_at n) (of_body (body_rest q g b))
plain_from p none (constructor n q o a b) = absurd (none _ _ n.1 q)

maker_into : {private : Bool} {xs zs : Tokens} {m : Member} → ConstructorAt private xs m zs → MemberBody private xs m zs
maker_into (constructor_at (label_at n) q o (without_super b)) = constructor n q o no_super_call b
maker_into (constructor_at (label_at n) q o (with_super s p (constructor_args (passed a h) b))) = constructor n q o (some_super_call s p a h) b

type_open : {c o c' : Token} {xs zs : Tokens} {t : Ty} {name : List ℕ} → IsSign sign.OPEN_PAREN o → OneType (c ∷ o ∷ xs) t (c' ∷ zs) → IsName name c' → ⊥
type_open h (element_type e) n = let m = n.1 in cc
type_open h (array_type elem e o' p) n = let g : sign.OPEN_BRACKET ≡ sign.OPEN_PAREN = cc in omega (arith, g)

maker_from : {private : Bool} {c o : Token} {xs zs : Tokens} {m : Member} → Is k.Name c → IsSign sign.OPEN_PAREN o → MemberBody private (c ∷ o ∷ xs) m zs → ConstructorAt private (c ∷ o ∷ xs) m zs
maker_from w h (field absent r n e) = absurd (type_open h r n)
maker_from w h (field (present h') r n e) = cc
maker_from w h (static_method h' r n q b) = cc
maker_from w h (abstract_method h' r n q p) = cc
maker_from w h (method_body (no_result h') n q g b) = cc
maker_from w h (method_body (some_result r) n q g b) = absurd (type_open h r n)
maker_from w h (constructor n q o no_super_call b) = constructor_at (label_at n) q o (without_super b)
maker_from w h (constructor n q o (some_super_call s p a e) b) = constructor_at (label_at n) q o (with_super s p (constructor_args (passed a e) b))

module _ (private : Bool) (s : Token) (xs tokens : Tokens) (split : tokens ≡ s ∷ xs) where
  pub static_gives : (r : Answer Member) → Is k.Static s → Yields (Titled private true) anything SmallMember xs r → Yields (MemberBody private) anything SmallMember tokens r
  static_gives r h g = moved (MemberBody private) anything SmallMember tokens (s ∷ xs) r split (same_gives same xs r g) where
    same : Same (s ∷ []) (λ t. t) (Titled private true) (MemberBody private) anything SmallMember SmallMember
    same = record {
      into = λ ys zs m q. static_into h q;
      from = λ ys zs m q e. (m, refl, static_from h q);
      up = λ a p. p;
      down = λ a p. p;
    }

  pub abstract_gives : (r : Answer Member) → Is k.Abstract s → Yields (Pledge private) anything SmallMember xs r → Yields (MemberBody private) anything SmallMember tokens r
  abstract_gives r h g = moved (MemberBody private) anything SmallMember tokens (s ∷ xs) r split (same_gives same xs r g) where
    same : Same (s ∷ []) (λ t. t) (Pledge private) (MemberBody private) anything SmallMember SmallMember
    same = record {
      into = λ ys zs m q. pledge_into h q;
      from = λ ys zs m q e. (m, refl, pledge_from h q);
      up = λ a p. p;
      down = λ a p. p;
    }

  pub plain_gives : (r : Answer Member) → Plain s → (Is k.Name s → ⊥) → Yields (Titled private false) anything SmallMember tokens r → Yields (MemberBody private) anything SmallMember tokens r
  plain_gives r p none g = moved (MemberBody private) anything SmallMember tokens (s ∷ xs) r split
      (alt_gives SmallMember alt xs r (subst (λ (x : Tokens). Yields (Titled private false) anything SmallMember x r) split g)) where
        alt : Alt s (Titled private false) (MemberBody private) anything
        alt = record {
          into = λ ys zs m q. plain_into q;
          from = λ ys zs m q e. plain_from p (λ ps ys n x. none n) q;
          bad = a_comma ∷ [];
          bad_ends = refl;
          solid = λ m q. let b = titled_head q in cc;
        }

module _ (private : Bool) (c s : Token) (xs ys tokens : Tokens) (split : tokens ≡ c ∷ ys) (next : ys ≡ s ∷ xs) (w : Is k.Name c) where
  both : tokens ≡ c ∷ s ∷ xs
  both = split ∙ ap (λ (x : Tokens). c ∷ x) next

  word : (name : List ℕ) × IsName name c
  word = name_token c w

  maker_solid : (m : Member) (zs : Tokens) → ConstructorAt private (c ∷ a_comma ∷ []) m zs → ⊥
  maker_solid m zs (constructor_at (label_at n) q o b) = let g : sign.COMMA ≡ sign.OPEN_PAREN = (let i = params_open q in cc) in omega (arith, g)

  maker_name : (m : Member) (zs : Tokens) → ConstructorAt private (a_comma ∷ []) m zs → ⊥
  maker_name m zs (constructor_at (label_at n) q o b) = let i = n.1 in cc

  pub maker_gives : (r : Answer Member) → IsSign sign.OPEN_PAREN s → Yields (ConstructorAt private) anything SmallMember tokens r → Yields (MemberBody private) anything SmallMember tokens r
  maker_gives r h g = moved (MemberBody private) anything SmallMember tokens (c ∷ s ∷ xs) r both
      (same_gives (after_same c (MemberBody private) anything SmallMember) (s ∷ xs) r
      (alt_gives SmallMember alt xs r
      (after_gives c (ConstructorAt private) anything SmallMember (s ∷ xs) r (a_comma ∷ []) refl (λ m q. maker_name m _ q)
      (a_sign sign.OPEN_PAREN ∷ a_sign sign.CLOSE_PAREN ∷ a_sign sign.OPEN_BRACE ∷ a_sign sign.CLOSE_BRACE ∷ a_comma ∷ []) (a_comma ∷ []) _
      (constructor_at (label_at word.1) (no_params refl refl) refl (without_super (block_end refl))) refl (omega arith)
      (subst (λ (x : Tokens). Yields (ConstructorAt private) anything SmallMember x r) both g)))) where
        alt : Alt s (After c (ConstructorAt private)) (After c (MemberBody private)) anything
        alt = record {
          into = λ ys zs m q. maker_into q;
          from = λ ys zs m q e. maker_from w h q;
          bad = a_comma ∷ [];
          bad_ends = refl;
          solid = λ m q. maker_solid m _ q;
        }

  typed_solid : (m : Member) (zs : Tokens) → Titled private false (c ∷ a_comma ∷ []) m zs → ⊥
  typed_solid m zs (titled (no_result h) (label_at n) q) = let i = n.1 in cc
  typed_solid m zs (titled (some_result (element_type e)) (label_at n) q) = let i = n.1 in cc

  pub typed_gives : (r : Answer Member) → (IsSign sign.OPEN_PAREN s → ⊥) → Yields (Titled private false) anything SmallMember tokens r → Yields (MemberBody private) anything SmallMember tokens r
  typed_gives r none g = moved (MemberBody private) anything SmallMember tokens (c ∷ s ∷ xs) r both
      (same_gives (after_same c (MemberBody private) anything SmallMember) (s ∷ xs) r
      (alt_gives SmallMember alt xs r
      (after_gives c (Titled private false) anything SmallMember (s ∷ xs) r (a_comma ∷ []) refl (λ m q. let b = titled_head q in cc)
      (a_name ∷ a_sign sign.SEMICOLON ∷ a_comma ∷ []) (a_comma ∷ []) _
      (titled (some_result (element_type {elem = ty.Class word.0} word.1)) (label_at a_name_is) (of_field refl refl)) refl (omega arith)
      (subst (λ (x : Tokens). Yields (Titled private false) anything SmallMember x r) both g)))) where
        plain : Plain c
        plain = record { no_abstract = λ h. cc; no_static = λ h. cc }

        alt : Alt s (After c (Titled private false)) (After c (MemberBody private)) anything
        alt = record {
          into = λ ys zs m q. plain_into q;
          from = λ ys zs m q e. plain_from plain (λ ps ys n x. none (params_open x)) q;
          bad = a_comma ∷ [];
          bad_ends = refl;
          solid = λ m q. typed_solid m _ q;
        }

-- ---- members

one_head : {s : Token} {m : Member} {xs zs : Tokens} → OneMember (s ∷ xs) m zs → IsTrue (member_kind (kind_of_token s))
one_head {s = s} (default_member b) = body_member (kind_of_token s) (body_head b)
one_head (public_member h b) = ap member_kind h
one_head (private_member h b) = ap member_kind h

default_from : (s : Token) (xs zs : Tokens) (m : Member) → (Is k.Public s → ⊥) → (Is k.Private s → ⊥) → OneMember (s ∷ xs) m zs → MemberBody false (s ∷ xs) m zs
default_from s xs zs m a b (default_member r) = r
default_from s xs zs m a b (public_member h r) = absurd (a h)
default_from s xs zs m a b (private_member h r) = absurd (b h)

public_from : (s : Token) (xs zs : Tokens) (m : Member) → Is k.Public s → OneMember (s ∷ xs) m zs → MemberBody false xs m zs
public_from s xs zs m h (default_member r) = absurd (let b = body_head r in let c = ap body_kind h in cc)
public_from s xs zs m h (public_member h' r) = r
public_from s xs zs m h (private_member h' r) = cc

private_from : (s : Token) (xs zs : Tokens) (m : Member) → Is k.Private s → OneMember (s ∷ xs) m zs → MemberBody true xs m zs
private_from s xs zs m h (default_member r) = absurd (let b = body_head r in let c = ap body_kind h in cc)
private_from s xs zs m h (public_member h' r) = cc
private_from s xs zs m h (private_member h' r) = r

module _ (s : Token) (xs tokens : Tokens) (split : tokens ≡ s ∷ xs) where
  pub public_gives : (r : Answer Member) → Is k.Public s → Yields (MemberBody false) anything SmallMember xs r → Yields OneMember anything SmallMember tokens r
  public_gives r h g = moved OneMember anything SmallMember tokens (s ∷ xs) r split (same_gives same xs r g) where
    same : Same (s ∷ []) (λ t. t) (MemberBody false) OneMember anything SmallMember SmallMember
    same = record {
      into = λ ys zs m q. public_member h q;
      from = λ ys zs m q e. (m, refl, public_from s ys zs m h q);
      up = λ a p. p;
      down = λ a p. p;
    }

  pub private_gives : (r : Answer Member) → Is k.Private s → Yields (MemberBody true) anything SmallMember xs r → Yields OneMember anything SmallMember tokens r
  private_gives r h g = moved OneMember anything SmallMember tokens (s ∷ xs) r split (same_gives same xs r g) where
    same : Same (s ∷ []) (λ t. t) (MemberBody true) OneMember anything SmallMember SmallMember
    same = record {
      into = λ ys zs m q. private_member h q;
      from = λ ys zs m q e. (m, refl, private_from s ys zs m h q);
      up = λ a p. p;
      down = λ a p. p;
    }

  pub default_gives : (r : Answer Member) → (Is k.Public s → ⊥) → (Is k.Private s → ⊥) → Yields (MemberBody false) anything SmallMember tokens r → Yields OneMember anything SmallMember tokens r
  default_gives r a b g = moved OneMember anything SmallMember tokens (s ∷ xs) r split
      (alt_gives SmallMember alt xs r (subst (λ (x : Tokens). Yields (MemberBody false) anything SmallMember x r) split g)) where
        alt : Alt s (MemberBody false) OneMember anything
        alt = record {
          into = λ ys zs m q. default_member q;
          from = λ ys zs m q e. default_from s ys zs m a b q;
          bad = a_comma ∷ [];
          bad_ends = refl;
          solid = λ m q. let h = body_head q in cc;
        }

pub small_push : (ms : List Member) (m : Member) → greatest (map deepest_of_member (ms ++ m ∷ [])) ≡ max (greatest (map deepest_of_member ms)) (deepest_of_member m)
small_push [] m = omega arith
small_push (n ∷ ms) m = let h = small_push ms m in omega (arith, h)

members_grow : {ms ns : List Member} {xs zs : Tokens} → Members ms xs ns zs → greatest (map deepest_of_member ms) ≤ greatest (map deepest_of_member ns)
members_grow (members_end h) = omega arith
members_grow {ms = ms} (members_more {m = m} o r) = let d = small_push ms m in let h = members_grow r in omega (arith, d, h)

maybe_some : {static : Bool} {t : Ty} {xs ys zs : Tokens} → Maybe k.Static xs static ys → OneType ys t zs → Ends anything xs
maybe_some absent r = type_begins _ _ _ r
maybe_some (present h) r = refl

member_some : {private : Bool} {m : Member} {xs zs : Tokens} → MemberBody private xs m zs → Ends anything xs
member_some (field w r n h) = maybe_some w r
member_some (static_method h r n q b) = refl
member_some (abstract_method h r n q p) = refl
member_some (method_body r n q g b) = result_begins _ _ _ r
member_some (constructor n q o a b) = refl

one_some : {m : Member} {xs zs : Tokens} → OneMember xs m zs → Ends anything xs
one_some (default_member b) = member_some b
one_some (public_member h b) = refl
one_some (private_member h b) = refl

members_some : {ms ns : List Member} {xs zs : Tokens} → Members ms xs ns zs → Ends anything xs
members_some (members_end h) = refl
members_some (members_more o r) = one_some o

-- a class's members, to their end
pub members_part : Part (Members []) anything anything SmallMembers
members_part = record {
  starts = λ xs zs ns r h. members_some r;
  sample = a_sign sign.CLOSE_BRACE ∷ [];
  value = [];
  reads = λ zs h. members_end refl;
  holds = omega arith;
}

members_joint : (ms : List Member) → SmallMembers ms → Joint OneMember (λ m. Members (ms ++ m ∷ [])) anything anything SmallMember SmallMembers
members_joint ms small = record {
  starts = λ m ys zs ns r h. members_some r;
  down = λ m ys zs ns r q. let g = members_grow r in let d = small_push ms m in omega (arith, g, d, q);
  close = a_sign sign.CLOSE_BRACE ∷ [];
  follows = λ zs h. refl;
  closed = λ m zs h. (ms ++ m ∷ [], members_end refl, λ q. let d = small_push ms m in omega (arith, d, q, small));
}

members_from : (ms : List Member) (s : Token) (xs zs : Tokens) (ns : List Member) → (IsSign sign.CLOSE_BRACE s → ⊥) → Members ms (s ∷ xs) ns zs → Then OneMember (λ m. Members (ms ++ m ∷ [])) (s ∷ xs) ns zs
members_from ms s xs zs ns other (members_end h) = absurd (other h)
members_from ms s xs zs ns other (members_more {m = m} {ys = ys} o r) = (m, ys, o, r)

members_only : (ms : List Member) (s : Token) (xs zs : Tokens) (ns : List Member) → IsSign sign.CLOSE_BRACE s → Members ms (s ∷ xs) ns zs → (ns ≡ ms) × (zs ≡ xs)
members_only ms s xs zs ns h (members_end h') = (refl, refl)
members_only ms s xs zs ns h (members_more o r) = absurd (let a = one_head o in let c = ap member_kind h in cc)

module _ (ms : List Member) (s : Token) (xs tokens : Tokens) (split : tokens ≡ s ∷ xs) where
  pub members_found : IsSign sign.CLOSE_BRACE s → Found (Members ms) (λ _. anything) tokens ms xs
  members_found h = record {
    front = s ∷ [];
    split = split;
    reads = λ ys f. members_end h;
    only = λ ys zs ns f r e. members_only ms s ys zs ns h r;
  }

  members_alt : (IsSign sign.CLOSE_BRACE s → ⊥) → Alt s (Then OneMember (λ m. Members (ms ++ m ∷ []))) (Members ms) anything
  members_alt other = record {
    into = λ ys zs ns q. members_more q.2 q.3;
    from = λ ys zs ns q e. members_from ms s ys zs ns other q;
    bad = a_comma ∷ [];
    bad_ends = refl;
    solid = λ ns q. let h = one_head q.2 in cc;
  }

  members_behind : (r : Answer (List Member)) → (IsSign sign.CLOSE_BRACE s → ⊥) → Yields (Then OneMember (λ m. Members (ms ++ m ∷ []))) anything SmallMembers tokens r → Yields (Members ms) anything SmallMembers tokens r
  members_behind r other g = moved (Members ms) anything SmallMembers tokens (s ∷ xs) r split
      (alt_gives SmallMembers (members_alt other) xs r (subst (λ (x : Tokens). Yields (Then OneMember (λ m. Members (ms ++ m ∷ []))) anything SmallMembers x r) split g))

  pub members_fails : SmallMembers ms → (IsSign sign.CLOSE_BRACE s → ⊥) → (e : ParseFault) → Fails OneMember (λ _. anything) anything SmallMember tokens e → Yields (Members ms) anything SmallMembers tokens (Err e)
  members_fails small other e f = members_behind (Err e) other (then_fails (members_joint ms small) tokens e f)

  pub members_gives : SmallMembers ms → (IsSign sign.CLOSE_BRACE s → ⊥) → (m : Member) (ys : Tokens) (r : Answer (List Member)) → Found OneMember (λ _. anything) tokens m ys → Yields (Members (ms ++ m ∷ [])) anything SmallMembers ys r → Yields (Members ms) anything SmallMembers tokens r
  members_gives small other m ys r g f = members_behind r other (then_gives (members_joint ms small) tokens ys m r g f)

-- ---- promises

abbrev promise_kind : Kind → Bool
promise_kind k.Public = true
promise_kind k.Abstract = true
promise_kind kind = result_kind kind

result_promise : (kind : Kind) → IsTrue (result_kind kind) → IsTrue (promise_kind kind)
result_promise k.Public h = refl
result_promise k.Abstract h = refl
result_promise _ h = h

pledge_head : {s : Token} {private : Bool} {m : Member} {xs zs : Tokens} → Pledge private (s ∷ xs) m zs → IsTrue (result_kind (kind_of_token s))
pledge_head (pledge r n q h) = (result_head r).0

abbrev Plainly : Reads Member
Plainly = Optional k.Abstract (Pledge false)

plainly_head : {s : Token} {m : Member} {xs zs : Tokens} → Plainly (s ∷ xs) m zs → IsTrue (promise_kind (kind_of_token s))
plainly_head {s = s} (kept r) = result_promise (kind_of_token s) (pledge_head r)
plainly_head (skipped h r) = ap promise_kind h

plainly_public : (s : Token) (xs zs : Tokens) (m : Member) → Is k.Public s → Plainly (s ∷ xs) m zs → ⊥
plainly_public s xs zs m h (kept r) = let a = pledge_head r in let c = ap result_kind h in cc
plainly_public s xs zs m h (skipped h' r) = cc

pledge_abstract : (s : Token) (xs zs : Tokens) (m : Member) → Is k.Abstract s → Pledge false (s ∷ xs) m zs → ⊥
pledge_abstract s xs zs m h r = let a = pledge_head r in let c = ap result_kind h in cc

promise_into : (xs zs : Tokens) (m : Member) → Optional k.Public Plainly xs m zs → Promise xs m zs
promise_into xs zs m (kept (kept (pledge r (label_at n) q h))) = promise absent absent r n q h
promise_into xs zs m (kept (skipped a (pledge r (label_at n) q h))) = promise absent (present a) r n q h
promise_into xs zs m (skipped b (kept (pledge r (label_at n) q h))) = promise (present b) absent r n q h
promise_into xs zs m (skipped b (skipped a (pledge r (label_at n) q h))) = promise (present b) (present a) r n q h

promise_from : (xs zs : Tokens) (m : Member) → Promise xs m zs → Optional k.Public Plainly xs m zs
promise_from xs zs m (promise absent absent r n q h) = kept (kept (pledge r (label_at n) q h))
promise_from xs zs m (promise absent (present a) r n q h) = kept (skipped a (pledge r (label_at n) q h))
promise_from xs zs m (promise (present b) absent r n q h) = skipped b (kept (pledge r (label_at n) q h))
promise_from xs zs m (promise (present b) (present a) r n q h) = skipped b (skipped a (pledge r (label_at n) q h))

promise_alike : Alike (Optional k.Public Plainly) Promise anything
promise_alike = record { into = λ xs zs p r. promise_into xs zs p r; from = λ xs zs p r e. promise_from xs zs p r }

pub promise_gives : (xs ys zs : Tokens) (r : Answer Member) → Skips k.Public xs ys → Skips k.Abstract ys zs → Yields (Pledge false) anything SmallMember zs r → Yields Promise anything SmallMember xs r
promise_gives xs ys zs r a b g = alike_gives SmallMember promise_alike xs r
    (skips_gives k.Public Plainly anything SmallMember plainly_public (a_comma ∷ []) refl (λ m q. let h = plainly_head q in cc) xs ys r a
    (skips_gives k.Abstract (Pledge false) anything SmallMember pledge_abstract (a_comma ∷ []) refl (λ m q. let h = pledge_head q in cc) ys zs r b g))

promise_head : {s : Token} {m : Member} {xs zs : Tokens} → Promise (s ∷ xs) m zs → IsTrue (promise_kind (kind_of_token s))
promise_head {s = s} {m = m} {xs = xs} {zs = zs} r = optional_head (promise_from (s ∷ xs) zs m r) where
  optional_head : Optional k.Public Plainly (s ∷ xs) m zs → IsTrue (promise_kind (kind_of_token s))
  optional_head (kept q) = plainly_head q
  optional_head (skipped h q) = ap promise_kind h

pledge_some : {m : Member} {xs zs : Tokens} → Pledge false xs m zs → Ends anything xs
pledge_some (pledge r n q h) = result_begins _ _ _ r

plainly_some : {m : Member} {xs zs : Tokens} → Plainly xs m zs → Ends anything xs
plainly_some (kept r) = pledge_some r
plainly_some (skipped h r) = refl

optional_some : {m : Member} {xs zs : Tokens} → Optional k.Public Plainly xs m zs → Ends anything xs
optional_some (kept q) = plainly_some q
optional_some (skipped h q) = refl

promises_grow : {ms ns : List Member} {xs zs : Tokens} → Promises ms xs ns zs → greatest (map deepest_of_member ms) ≤ greatest (map deepest_of_member ns)
promises_grow (promises_end h) = omega arith
promises_grow {ms = ms} (promises_more {m = m} o r) = let d = small_push ms m in let h = promises_grow r in omega (arith, d, h)

promises_some : {ms ns : List Member} {xs zs : Tokens} → Promises ms xs ns zs → Ends anything xs
promises_some (promises_end h) = refl
promises_some (promises_more o r) = optional_some (promise_from _ _ _ o)

-- an interface's methods, to their end
pub promises_part : Part (Promises []) anything anything SmallMembers
promises_part = record {
  starts = λ xs zs ns r h. promises_some r;
  sample = a_sign sign.CLOSE_BRACE ∷ [];
  value = [];
  reads = λ zs h. promises_end refl;
  holds = omega arith;
}

promises_joint : (ms : List Member) → SmallMembers ms → Joint Promise (λ m. Promises (ms ++ m ∷ [])) anything anything SmallMember SmallMembers
promises_joint ms small = record {
  starts = λ m ys zs ns r h. promises_some r;
  down = λ m ys zs ns r q. let g = promises_grow r in let d = small_push ms m in omega (arith, g, d, q);
  close = a_sign sign.CLOSE_BRACE ∷ [];
  follows = λ zs h. refl;
  closed = λ m zs h. (ms ++ m ∷ [], promises_end refl, λ q. let d = small_push ms m in omega (arith, d, q, small));
}

promises_from : (ms : List Member) (s : Token) (xs zs : Tokens) (ns : List Member) → (IsSign sign.CLOSE_BRACE s → ⊥) → Promises ms (s ∷ xs) ns zs → Then Promise (λ m. Promises (ms ++ m ∷ [])) (s ∷ xs) ns zs
promises_from ms s xs zs ns other (promises_end h) = absurd (other h)
promises_from ms s xs zs ns other (promises_more {m = m} {ys = ys} o r) = (m, ys, o, r)

promises_only : (ms : List Member) (s : Token) (xs zs : Tokens) (ns : List Member) → IsSign sign.CLOSE_BRACE s → Promises ms (s ∷ xs) ns zs → (ns ≡ ms) × (zs ≡ xs)
promises_only ms s xs zs ns h (promises_end h') = (refl, refl)
promises_only ms s xs zs ns h (promises_more o r) = absurd (let a = promise_head o in let c = ap promise_kind h in cc)

module _ (ms : List Member) (s : Token) (xs tokens : Tokens) (split : tokens ≡ s ∷ xs) where
  pub promises_found : IsSign sign.CLOSE_BRACE s → Found (Promises ms) (λ _. anything) tokens ms xs
  promises_found h = record {
    front = s ∷ [];
    split = split;
    reads = λ ys f. promises_end h;
    only = λ ys zs ns f r e. promises_only ms s ys zs ns h r;
  }

  promises_alt : (IsSign sign.CLOSE_BRACE s → ⊥) → Alt s (Then Promise (λ m. Promises (ms ++ m ∷ []))) (Promises ms) anything
  promises_alt other = record {
    into = λ ys zs ns q. promises_more q.2 q.3;
    from = λ ys zs ns q e. promises_from ms s ys zs ns other q;
    bad = a_comma ∷ [];
    bad_ends = refl;
    solid = λ ns q. let h = promise_head q.2 in cc;
  }

  promises_behind : (r : Answer (List Member)) → (IsSign sign.CLOSE_BRACE s → ⊥) → Yields (Then Promise (λ m. Promises (ms ++ m ∷ []))) anything SmallMembers tokens r → Yields (Promises ms) anything SmallMembers tokens r
  promises_behind r other g = moved (Promises ms) anything SmallMembers tokens (s ∷ xs) r split
      (alt_gives SmallMembers (promises_alt other) xs r (subst (λ (x : Tokens). Yields (Then Promise (λ m. Promises (ms ++ m ∷ []))) anything SmallMembers x r) split g))

  pub promises_fails : SmallMembers ms → (IsSign sign.CLOSE_BRACE s → ⊥) → (e : ParseFault) → Fails Promise (λ _. anything) anything SmallMember tokens e → Yields (Promises ms) anything SmallMembers tokens (Err e)
  promises_fails small other e f = promises_behind (Err e) other (then_fails (promises_joint ms small) tokens e f)

  pub promises_gives : SmallMembers ms → (IsSign sign.CLOSE_BRACE s → ⊥) → (m : Member) (ys : Tokens) (r : Answer (List Member)) → Found Promise (λ _. anything) tokens m ys → Yields (Promises (ms ++ m ∷ [])) anything SmallMembers ys r → Yields (Promises ms) anything SmallMembers tokens r
  promises_gives small other m ys r g f = promises_behind r other (then_gives (promises_joint ms small) tokens ys m r g f)

-- a member takes some tokens
pub one_shorter : (xs zs : Tokens) (m : Member) → Found OneMember (λ _. anything) xs m zs → length zs < length xs
one_shorter xs zs m g = found_shorter OneMember anything (a_comma ∷ []) xs zs m refl (λ q. let h = one_head q in cc) g

pub promise_shorter : (xs zs : Tokens) (m : Member) → Found Promise (λ _. anything) xs m zs → length zs < length xs
promise_shorter xs zs m g = found_shorter Promise anything (a_comma ∷ []) xs zs m refl (λ q. let h = promise_head q in cc) g
