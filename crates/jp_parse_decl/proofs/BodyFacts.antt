-- Members of classes and interfaces.
use Rattle.std.proofs.Common.{Bool, List, Option, Ok, Err, arith}
use Rattle.std.specs.Borrow.{Bor}
use Rattle.jp_pred.specs.declared.ty.Ty.{Ty}
use Rattle.jp_ast.specs.declared.stmt.Stmt.{Stmt}
use Rattle.jp_ast.specs.declared.guard.GuardExpr.{GuardExpr}
use Rattle.jp_ast.specs.declared.decl.Param.{Param}
use Rattle.jp_ast.specs.declared.decl.Member.{Member}
use Rattle.jp_ast.specs.declared.decl.MemberPart.TheVariants as part
use Rattle.jp_ast.specs.declared.sign.TheConstants as sign
use Rattle.jp_grammar.specs.declared.fault.ParseFault.{ParseFault}
use Rattle.jp_grammar.specs.Kinds.{Tokens, is_sign_of}
use Rattle.jp_grammar.specs.Statements.{ResultType}
use Rattle.jp_grammar.specs.Declarations.{Params, MaybeGuard, Braces}
use Rattle.jp_grammar.specs.Reading.{Reads, Any, Found, Fails, Takes, Lacks}
use Rattle.jp_grammar.proofs.Sequence.{Then}
use Rattle.jp_parse_stmt.specs.Behind.{anything, ends_type}
use Rattle.jp_parse_decl.specs.declared.token.Label.{Label}
use Rattle.jp_parse_decl.specs.Answers.{Yields}
use Rattle.jp_parse_decl.specs.Behind.{ends_brace}
use Rattle.jp_parse_decl.specs.Bounds.{SmallMaybe, SmallBlock, SmallMember}
use Rattle.jp_parse_decl.specs.Parts.{LabelAt, Pledge, pledge, StaticRest, static_rest, BodyRest, body_rest, made_at}
use Rattle.jp_parse_decl.proofs.Links.{Answer, Tail, Alike, Both, Done, done, finished, linked, goes, stops, ended, alike_gives}
use Rattle.jp_parse_decl.proofs.Tokens.{SignAt, sign_at, sign_part, sign_found, sign_fails, label_part, head_name, name_type, fits_all}
use Rattle.jp_parse_decl.proofs.ParamFacts.{result_part, params_part}
use Rattle.jp_parse_decl.proofs.LowerFacts.{guard_part, braces_part}

-- ---- result NAME "(" params ")" ";"

module _ (private : Bool) where
  abbrev Pledge4 : (((Unit {0} × Ty) × Label) × List Param) → Reads Member
  Pledge4 e = Then (SignAt sign.SEMICOLON) (λ u. Done (made_at private e.0.1 e.1 (part.Abstract e.0.0.1)))

  abbrev Pledge3 : ((Unit {0} × Ty) × Label) → Reads Member
  Pledge3 e = Then Params (λ ps. Pledge4 (e, ps))

  abbrev Pledge2 : (Unit {0} × Ty) → Reads Member
  Pledge2 e = Then LabelAt (λ l. Pledge3 (e, l))

  abbrev Pledge1 : Unit {0} → Reads Member
  Pledge1 e = Then ResultType (λ t. Pledge2 (e, t))

  pledge_into : (xs zs : Tokens) (m : Member) → Pledge1 tt xs m zs → Pledge private xs m zs
  pledge_into xs zs m (t, ys, r, (l, ws, n, (ps, vs, q, (u, us, sign_at h, done)))) = pledge r n q h

  pledge_from : (xs zs : Tokens) (m : Member) → Pledge private xs m zs → Pledge1 tt xs m zs
  pledge_from xs zs m (pledge r n q h) = (_, _, r, (_, _, n, (_, _, q, (_, _, sign_at h, done))))

  pledge_alike : Alike (Pledge1 tt) (Pledge private) anything
  pledge_alike = record { into = λ xs zs p r. pledge_into xs zs p r; from = λ xs zs p r e. pledge_from xs zs p r }

  pledge_tail5 : Tail (λ (e : (((Unit {0} × Ty) × Label) × List Param) × Unit {0}). Done (made_at private e.0.0.1 e.0.1 (part.Abstract e.0.0.0.1))) anything anything (Both (Both (Both (Both Any Any) Any) Any) Any) SmallMember
  pledge_tail5 = finished (λ e. made_at private e.0.0.1 e.0.1 (part.Abstract e.0.0.0.1)) (λ e p. omega arith) (λ e q. ((((tt, tt), tt), tt), tt))

  pledge_tail4 : Tail Pledge4 anything (is_sign_of sign.SEMICOLON) (Both (Both (Both Any Any) Any) Any) SmallMember
  pledge_tail4 = linked (Both (Both (Both Any Any) Any) Any) (sign_part sign.SEMICOLON) pledge_tail5 (fits_all _)

  pledge_tail3 : Tail Pledge3 anything anything (Both (Both Any Any) Any) SmallMember
  pledge_tail3 = linked (Both (Both Any Any) Any) params_part pledge_tail4 (fits_all _)

  pledge_tail2 : Tail Pledge2 anything head_name (Both Any Any) SmallMember
  pledge_tail2 = linked (Both Any Any) label_part pledge_tail3 (fits_all _)

  pub pledge_result_fails : (xs : Tokens) (e : ParseFault) → Fails ResultType (λ _. ends_type) ends_type Any xs e → Yields (Pledge private) anything SmallMember xs (Err e)
  pledge_result_fails xs e f = alike_gives SmallMember pledge_alike xs (Err e) (stops Any result_part pledge_tail2 name_type tt tt xs e f)

  module _ (xs ys : Tokens) (t : Ty) (g : Found ResultType (λ _. ends_type) xs t ys) where
    pledge_behind1 : (r : Answer Member) → Yields (Pledge2 (tt, t)) anything SmallMember ys r → Yields (Pledge private) anything SmallMember xs r
    pledge_behind1 r f = alike_gives SmallMember pledge_alike xs r (goes Any result_part pledge_tail2 name_type tt tt xs ys t r g f)

    pub pledge_name_fails : (e : ParseFault) → Fails LabelAt (λ _. anything) anything Any ys e → Yields (Pledge private) anything SmallMember xs (Err e)
    pledge_name_fails e f = pledge_behind1 (Err e) (stops (Both Any Any) label_part pledge_tail3 (fits_all _) (tt, t) (tt, tt) ys e f)

    module _ (ws : Tokens) (l : Label) (n : Found LabelAt (λ _. anything) ys l ws) where
      pledge_behind2 : (r : Answer Member) → Yields (Pledge3 ((tt, t), l)) anything SmallMember ws r → Yields (Pledge private) anything SmallMember xs r
      pledge_behind2 r f = pledge_behind1 r (goes (Both Any Any) label_part pledge_tail3 (fits_all _) (tt, t) (tt, tt) ys ws l r n f)

      pub pledge_params_fails : (e : ParseFault) → Fails Params (λ _. anything) anything Any ws e → Yields (Pledge private) anything SmallMember xs (Err e)
      pledge_params_fails e f = pledge_behind2 (Err e) (stops (Both (Both Any Any) Any) params_part pledge_tail4 (fits_all _) ((tt, t), l) ((tt, tt), tt) ws e f)

      module _ (vs : Tokens) (ps : List Param) (q : Found Params (λ _. anything) ws ps vs) where
        pledge_behind3 : (r : Answer Member) → Yields (Pledge4 (((tt, t), l), ps)) anything SmallMember vs r → Yields (Pledge private) anything SmallMember xs r
        pledge_behind3 r f = pledge_behind2 r (goes (Both (Both Any Any) Any) params_part pledge_tail4 (fits_all _) ((tt, t), l) ((tt, tt), tt) ws vs ps r q f)

        pub pledge_end_fails : (e : ParseFault) → Lacks sign.SEMICOLON vs e → Yields (Pledge private) anything SmallMember xs (Err e)
        pledge_end_fails e h = pledge_behind3 (Err e) (stops (Both (Both (Both Any Any) Any) Any) (sign_part sign.SEMICOLON) pledge_tail5 (fits_all _) (((tt, t), l), ps) (((tt, tt), tt), tt) vs e (sign_fails sign.SEMICOLON vs e h))

        pub pledge_found : (zs : Bor Tokens) → Takes sign.SEMICOLON vs zs.now → Yields (Pledge private) anything SmallMember xs (Ok (made_at private l ps (part.Abstract t), zs))
        pledge_found zs h = pledge_behind3 (Ok (made_at private l ps (part.Abstract t), zs))
            (goes (Both (Both (Both Any Any) Any) Any) (sign_part sign.SEMICOLON) pledge_tail5 (fits_all _) (((tt, t), l), ps) (((tt, tt), tt), tt) vs zs.now tt (Ok (made_at private l ps (part.Abstract t), zs)) (sign_found sign.SEMICOLON vs zs.now h)
            (ended anything SmallMember (made_at private l ps (part.Abstract t)) zs (omega arith)))

-- ---- "(" params ")" block

module _ (private : Bool) (t : Ty) (l : Label) where
  abbrev Static2 : (Unit {0} × List Param) → Reads Member
  Static2 e = Then Braces (λ ts. Done (made_at private l e.1 (part.Static t ts)))

  abbrev Static1 : Unit {0} → Reads Member
  Static1 e = Then Params (λ ps. Static2 (e, ps))

  static_into : (xs zs : Tokens) (m : Member) → Static1 tt xs m zs → StaticRest private t l xs m zs
  static_into xs zs m (ps, ys, q, (ts, ws, b, done)) = static_rest q b

  static_from : (xs zs : Tokens) (m : Member) → StaticRest private t l xs m zs → Static1 tt xs m zs
  static_from xs zs m (static_rest q b) = (_, _, q, (_, _, b, done))

  static_alike : Alike (Static1 tt) (StaticRest private t l) anything
  static_alike = record { into = λ xs zs p r. static_into xs zs p r; from = λ xs zs p r e. static_from xs zs p r }

  static_tail3 : Tail (λ (e : (Unit {0} × List Param) × List Stmt). Done (made_at private l e.0.1 (part.Static t e.1))) anything anything (Both (Both Any Any) SmallBlock) SmallMember
  static_tail3 = finished (λ e. made_at private l e.0.1 (part.Static t e.1)) (λ e p. p.1) (λ e q. ((tt, tt), q))

  static_tail2 : Tail Static2 anything ends_brace (Both Any Any) SmallMember
  static_tail2 = linked (Both Any Any) braces_part static_tail3 (fits_all _)

  pub static_params_fails : (xs : Tokens) (e : ParseFault) → Fails Params (λ _. anything) anything Any xs e → Yields (StaticRest private t l) anything SmallMember xs (Err e)
  static_params_fails xs e f = alike_gives SmallMember static_alike xs (Err e) (stops Any params_part static_tail2 (fits_all _) tt tt xs e f)

  module _ (xs ys : Tokens) (ps : List Param) (q : Found Params (λ _. anything) xs ps ys) where
    static_behind1 : (r : Answer Member) → Yields (Static2 (tt, ps)) anything SmallMember ys r → Yields (StaticRest private t l) anything SmallMember xs r
    static_behind1 r f = alike_gives SmallMember static_alike xs r (goes Any params_part static_tail2 (fits_all _) tt tt xs ys ps r q f)

    pub static_block_fails : (e : ParseFault) → Fails Braces (λ _. anything) anything SmallBlock ys e → Yields (StaticRest private t l) anything SmallMember xs (Err e)
    static_block_fails e f = static_behind1 (Err e) (stops (Both Any Any) braces_part static_tail3 (fits_all _) (tt, ps) (tt, tt) ys e f)

    pub static_found : (ts : List Stmt) (zs : Bor Tokens) → Found Braces (λ _. anything) ys ts zs.now → SmallBlock ts → Yields (StaticRest private t l) anything SmallMember xs (Ok (made_at private l ps (part.Static t ts), zs))
    static_found ts zs b small = static_behind1 (Ok (made_at private l ps (part.Static t ts), zs))
        (goes (Both Any Any) braces_part static_tail3 (fits_all _) (tt, ps) (tt, tt) ys zs.now ts (Ok (made_at private l ps (part.Static t ts), zs)) b
        (ended anything SmallMember (made_at private l ps (part.Static t ts)) zs small))

-- ---- "(" params ")" ["when" guard] block

module _ (private : Bool) (t : Ty) (l : Label) where
  abbrev Body3 : ((Unit {0} × List Param) × Option GuardExpr) → Reads Member
  Body3 e = Then Braces (λ ts. Done (made_at private l e.0.1 (part.Body t e.1 ts)))

  abbrev Body2 : (Unit {0} × List Param) → Reads Member
  Body2 e = Then MaybeGuard (λ g. Body3 (e, g))

  abbrev Body1 : Unit {0} → Reads Member
  Body1 e = Then Params (λ ps. Body2 (e, ps))

  body_into : (xs zs : Tokens) (m : Member) → Body1 tt xs m zs → BodyRest private t l xs m zs
  body_into xs zs m (ps, ys, q, (g, vs, w, (ts, ws, b, done))) = body_rest q w b

  body_from : (xs zs : Tokens) (m : Member) → BodyRest private t l xs m zs → Body1 tt xs m zs
  body_from xs zs m (body_rest q w b) = (_, _, q, (_, _, w, (_, _, b, done)))

  body_alike : Alike (Body1 tt) (BodyRest private t l) anything
  body_alike = record { into = λ xs zs p r. body_into xs zs p r; from = λ xs zs p r e. body_from xs zs p r }

  body_tail4 : Tail (λ (e : ((Unit {0} × List Param) × Option GuardExpr) × List Stmt). Done (made_at private l e.0.0.1 (part.Body t e.0.1 e.1))) anything anything (Both (Both (Both Any Any) SmallMaybe) SmallBlock) SmallMember
  body_tail4 = finished (λ e. made_at private l e.0.0.1 (part.Body t e.0.1 e.1)) (λ e p. let a = p.0.1 in let b = p.1 in omega (arith, a, b)) (λ e q. (((tt, tt), omega (arith, q)), omega (arith, q)))

  body_tail3 : Tail Body3 anything ends_brace (Both (Both Any Any) SmallMaybe) SmallMember
  body_tail3 = linked (Both (Both Any Any) SmallMaybe) braces_part body_tail4 (fits_all _)

  body_tail2 : Tail Body2 anything anything (Both Any Any) SmallMember
  body_tail2 = linked (Both Any Any) guard_part body_tail3 (λ s h. h)

  pub body_params_fails : (xs : Tokens) (e : ParseFault) → Fails Params (λ _. anything) anything Any xs e → Yields (BodyRest private t l) anything SmallMember xs (Err e)
  body_params_fails xs e f = alike_gives SmallMember body_alike xs (Err e) (stops Any params_part body_tail2 (fits_all _) tt tt xs e f)

  module _ (xs ys : Tokens) (ps : List Param) (q : Found Params (λ _. anything) xs ps ys) where
    body_behind1 : (r : Answer Member) → Yields (Body2 (tt, ps)) anything SmallMember ys r → Yields (BodyRest private t l) anything SmallMember xs r
    body_behind1 r f = alike_gives SmallMember body_alike xs r (goes Any params_part body_tail2 (fits_all _) tt tt xs ys ps r q f)

    pub body_guard_fails : (e : ParseFault) → Fails MaybeGuard (λ _. ends_brace) ends_brace SmallMaybe ys e → Yields (BodyRest private t l) anything SmallMember xs (Err e)
    body_guard_fails e f = body_behind1 (Err e) (stops (Both Any Any) guard_part body_tail3 (λ s h. h) (tt, ps) (tt, tt) ys e f)

    module _ (vs : Tokens) (g : Option GuardExpr) (w : Found MaybeGuard (λ _. ends_brace) ys g vs) (small : SmallMaybe g) where
      body_behind2 : (r : Answer Member) → Yields (Body3 ((tt, ps), g)) anything SmallMember vs r → Yields (BodyRest private t l) anything SmallMember xs r
      body_behind2 r f = body_behind1 r (goes (Both Any Any) guard_part body_tail3 (λ s h. h) (tt, ps) (tt, tt) ys vs g r w f)

      pub body_block_fails : (e : ParseFault) → Fails Braces (λ _. anything) anything SmallBlock vs e → Yields (BodyRest private t l) anything SmallMember xs (Err e)
      body_block_fails e f = body_behind2 (Err e) (stops (Both (Both Any Any) SmallMaybe) braces_part body_tail4 (fits_all _) ((tt, ps), g) ((tt, tt), small) vs e f)

      pub body_found : (ts : List Stmt) (zs : Bor Tokens) → Found Braces (λ _. anything) vs ts zs.now → SmallBlock ts → Yields (BodyRest private t l) anything SmallMember xs (Ok (made_at private l ps (part.Body t g ts), zs))
      body_found ts zs b small' = body_behind2 (Ok (made_at private l ps (part.Body t g ts), zs))
          (goes (Both (Both Any Any) SmallMaybe) braces_part body_tail4 (fits_all _) ((tt, ps), g) ((tt, tt), small) vs zs.now ts (Ok (made_at private l ps (part.Body t g ts), zs)) b
          (ended anything SmallMember (made_at private l ps (part.Body t g ts)) zs (omega (arith, small, small'))))
