-- Constructors.
use Rattle.std.proofs.Common.{◌≡◌, ℕ, Bool, List, [], ◌∷◌, ◌++◌, Some, None, Ok, Err, refl, ap, ◌∙◌, subst, arith, rules}
use Rattle.std.specs.Borrow.{Bor}
use Rattle.jp_pred.specs.declared.ty.Ty.{Ty}
use Rattle.jp_pred.specs.declared.ty.Ty.TheVariants as ty
use Rattle.jp_ast.specs.declared.token.Place.{Place}
use Rattle.jp_ast.specs.declared.token.Token.{Token}
use Rattle.jp_ast.specs.declared.expr.Expr.{Expr}
use Rattle.jp_ast.specs.declared.stmt.Stmt.{Stmt, the_lemmas}
use Rattle.jp_ast.specs.declared.stmt.StmtKind.TheVariants as stmt_kind
use Rattle.jp_ast.specs.declared.decl.Param.{Param}
use Rattle.jp_ast.specs.declared.decl.Member.{Member}
use Rattle.jp_ast.specs.declared.decl.MemberPart.{MemberPart}
use Rattle.jp_ast.specs.declared.decl.MemberPart.TheVariants as part
use Rattle.jp_ast.specs.declared.sign.TheConstants as sign
use Rattle.jp_grammar.specs.declared.kind.Kind.TheVariants as k
use Rattle.jp_grammar.specs.declared.fault.ParseFault.{ParseFault}
use Rattle.jp_grammar.specs.Kinds.{Is, IsSign, Tokens, kind_of_lexeme, is_sign_of}
use Rattle.jp_grammar.specs.Trees.{super_at}
use Rattle.jp_grammar.specs.Expressions.{IsElement, Postfix, Primary, postfix, postfix_array, steps_end, number, text, truth, falsehood, nothing, receiver, parenthesis, name, uncalled, called, super_call, new_object, new_array, no_args}
use Rattle.jp_grammar.specs.Statements.{OneType, Block, Statement, Change, block_end, block_more, block, empty, local, local_value, when_true, while_true, for_each, break_off, continue_on, return_from, change, assign, bump, run, declared, element_type, array_type}
use Rattle.jp_grammar.specs.Declarations.{Params}
use Rattle.jp_grammar.specs.Reading.{Reads, Ends, Any, Found, Fails, Takes, Lacks}
use Rattle.jp_grammar.specs.Depth.{stmt_depth, deepest, depth}
use Rattle.jp_grammar.proofs.Sequence.{Then, found_image, fails_image}
use Rattle.jp_grammar.proofs.Depths.{depth_super}
use Rattle.jp_grammar.proofs.Facts.{postfix_begins}
use Rattle.jp_grammar.proofs.Outcome.{Same, image_of}
use Rattle.jp_grammar.proofs.Samples.{a_name, a_name_is, a_sign}
use Rattle.jp_parse_stmt.specs.Behind.{anything}
use Rattle.jp_parse_decl.specs.declared.token.Label.{Label}
use Rattle.jp_parse_decl.specs.Answers.{Yields}
use Rattle.jp_parse_decl.specs.Bounds.{SmallBlock, SmallMember, SmallPart, SmallArgs}
use Rattle.jp_parse_decl.specs.Parts.{LabelAt, Passed, ConstructorArgs, constructor_args, Bare, bare, ConstructorBody, without_super, with_super, ConstructorAt, constructor_at, made_at}
use Rattle.jp_parse_decl.proofs.Links.{Answer, Part, Tail, Alike, Alt, After, Both, Done, done, finished, linked, goes, stops, ended, alike_gives, alt_gives, after_same, after_gives, same_gives, moved}
use Rattle.jp_parse_decl.proofs.Tokens.{SignAt, sign_at, sign_part, sign_found, sign_fails, label_part, fits_all}
use Rattle.jp_parse_decl.proofs.ParamFacts.{params_part}
use Rattle.jp_parse_decl.proofs.LowerFacts.{block_part, block_begins, passed_part}

-- ---- args ")" ";" {stmt} "}"

abbrev Args2 : (Unit {0} × List Expr) → Reads MemberPart
Args2 e = Then (Block []) (λ ts. Done (part.Constructor (Some e.1) ts))

abbrev Args1 : Unit {0} → Reads MemberPart
Args1 e = Then Passed (λ args. Args2 (e, args))

args_into : (xs zs : Tokens) (p : MemberPart) → Args1 tt xs p zs → ConstructorArgs xs p zs
args_into xs zs p (as', ys, a, (ts, ws, b, done)) = constructor_args a b

args_from : (xs zs : Tokens) (p : MemberPart) → ConstructorArgs xs p zs → Args1 tt xs p zs
args_from xs zs p (constructor_args a b) = (_, _, a, (_, _, b, done))

args_alike : Alike (Args1 tt) ConstructorArgs anything
args_alike = record { into = λ xs zs p r. args_into xs zs p r; from = λ xs zs p r e. args_from xs zs p r }

args_tail3 : Tail (λ (e : (Unit {0} × List Expr) × List Stmt). Done (part.Constructor (Some e.0.1) e.1)) anything anything (Both (Both Any SmallArgs) SmallBlock) SmallPart
args_tail3 = finished (λ e. part.Constructor (Some e.0.1) e.1) (λ e p. let a = p.0.1 in let b = p.1 in omega (arith, a, b)) (λ e q. ((tt, omega (arith, q)), omega (arith, q)))

args_tail2 : Tail Args2 anything anything (Both Any SmallArgs) SmallPart
args_tail2 = linked (Both Any SmallArgs) block_part args_tail3 (fits_all _)

pub args_passed_fails : (xs : Tokens) (e : ParseFault) → Fails Passed (λ _. anything) anything SmallArgs xs e → Yields ConstructorArgs anything SmallPart xs (Err e)
args_passed_fails xs e f = alike_gives SmallPart args_alike xs (Err e) (stops Any passed_part args_tail2 (fits_all _) tt tt xs e f)

module _ (xs ys : Tokens) (args : List Expr) (q : Found Passed (λ _. anything) xs args ys) (small : SmallArgs args) where
  args_behind1 : (r : Answer MemberPart) → Yields (Args2 (tt, args)) anything SmallPart ys r → Yields ConstructorArgs anything SmallPart xs r
  args_behind1 r f = alike_gives SmallPart args_alike xs r (goes Any passed_part args_tail2 (fits_all _) tt tt xs ys args r q f)

  pub args_block_fails : (e : ParseFault) → Fails (Block []) (λ _. anything) anything SmallBlock ys e → Yields ConstructorArgs anything SmallPart xs (Err e)
  args_block_fails e f = args_behind1 (Err e) (stops (Both Any SmallArgs) block_part args_tail3 (fits_all _) (tt, args) (tt, small) ys e f)

  pub args_found : (ts : List Stmt) (zs : Bor Tokens) → Found (Block []) (λ _. anything) ys ts zs.now → SmallBlock ts → Yields ConstructorArgs anything SmallPart xs (Ok (part.Constructor (Some args) ts, zs))
  args_found ts zs b small' = args_behind1 (Ok (part.Constructor (Some args) ts, zs))
      (goes (Both Any SmallArgs) block_part args_tail3 (fits_all _) (tt, args) (tt, small) ys zs.now ts (Ok (part.Constructor (Some args) ts, zs)) b
      (ended anything SmallPart (part.Constructor (Some args) ts) zs (omega (arith, small, small'))))

-- ---- what statements begin with

element_super : (elem : Ty) (s : Token) → Is k.Super s → IsElement elem s → ⊥
element_super ty.Int s h e = cc
element_super ty.Boolean s h e = cc
element_super (ty.Class class) s h e = let n = e.1 in cc
element_super ty.Void s h e = absurd e
element_super ty.IntArray s h e = absurd e
element_super ty.BooleanArray s h e = absurd e
element_super (ty.ClassArray class) s h e = absurd e

type_super : {s : Token} {xs zs : Tokens} {t : Ty} → Is k.Super s → OneType (s ∷ xs) t zs → ⊥
type_super {s = s} h (element_type {elem = elem} e) = element_super elem s h e
type_super {s = s} h (array_type elem e o p) = element_super elem s h e

dot_open : (o : Token) → IsSign sign.OPEN_PAREN o → IsSign sign.DOT o → ⊥
dot_open o h d = let g : sign.DOT ≡ sign.OPEN_PAREN = cc in omega (arith, g)

primary_super : {s o : Token} {xs zs : Tokens} {t : Expr} → Is k.Super s → (IsSign sign.DOT o → ⊥) → Primary (s ∷ o ∷ xs) t zs → ⊥
primary_super h p (number e) = let g = ap kind_of_lexeme e in cc
primary_super h p (text e) = let g = ap kind_of_lexeme e in cc
primary_super h p (truth e) = cc
primary_super h p (falsehood e) = cc
primary_super h p (nothing e) = cc
primary_super h p (receiver e) = cc
primary_super h p (parenthesis e c) = cc
primary_super h p (name (uncalled n)) = let m = n.1 in cc
primary_super h p (name (called n e a)) = let m = n.1 in cc
primary_super h p (super_call e d n q a) = p d
primary_super h p (new_object e n q a) = cc

postfix_super : {s o : Token} {xs zs : Tokens} {t : Expr} → Is k.Super s → (IsSign sign.DOT o → ⊥) → Postfix (s ∷ o ∷ xs) t zs → ⊥
postfix_super h p (postfix r q) = primary_super h p r
postfix_super h p (postfix_array (new_array e c o' b) n q) = cc

change_super : {s o : Token} {xs zs : Tokens} {t : Stmt} → Is k.Super s → (IsSign sign.DOT o → ⊥) → Change (s ∷ o ∷ xs) t zs → ⊥
change_super h p (assign r b i e) = postfix_super h p r
change_super h p (bump r b) = postfix_super h p r
change_super h p (run r) = postfix_super h p r

statement_super : {s o : Token} {xs zs : Tokens} {t : Stmt} {short : Bool} → Is k.Super s → (IsSign sign.DOT o → ⊥) → Statement (s ∷ o ∷ xs) t short zs → ⊥
statement_super h p (block e b) = cc
statement_super h p (empty e) = cc
statement_super h p (local r n e) = type_super h r
statement_super h p (local_value (declared r n e v) q) = type_super h r
statement_super h p (when_true e c s i) = cc
statement_super h p (while_true e c s) = cc
statement_super h p (for_each e o' i c d s) = cc
statement_super h p (break_off e q) = cc
statement_super h p (continue_on e q) = cc
statement_super h p (return_from e q) = cc
statement_super h p (change c e) = change_super h p c

block_super : {s o : Token} {xs zs : Tokens} {ts : List Stmt} → Is k.Super s → (IsSign sign.DOT o → ⊥) → Block [] (s ∷ o ∷ xs) ts zs → ⊥
block_super h p (block_end e) = cc
block_super h p (block_more s b) = statement_super h p s

-- `,`, with which no statement begins
abbrev a_comma : Token
a_comma = a_sign sign.COMMA

element_comma : (elem : Ty) → IsElement elem a_comma → ⊥
element_comma ty.Int e = cc
element_comma ty.Boolean e = cc
element_comma (ty.Class class) e = let n = e.1 in cc
element_comma ty.Void e = absurd e
element_comma ty.IntArray e = absurd e
element_comma ty.BooleanArray e = absurd e
element_comma (ty.ClassArray class) e = absurd e

type_comma : {xs zs : Tokens} {t : Ty} → OneType (a_comma ∷ xs) t zs → ⊥
type_comma (element_type {elem = elem} e) = element_comma elem e
type_comma (array_type elem e o p) = element_comma elem e

postfix_comma : {xs zs : Tokens} {t : Expr} → Postfix (a_comma ∷ xs) t zs → ⊥
postfix_comma r = let h = postfix_begins r in cc

change_comma : {xs zs : Tokens} {t : Stmt} → Change (a_comma ∷ xs) t zs → ⊥
change_comma (assign r b i e) = postfix_comma r
change_comma (bump r b) = postfix_comma r
change_comma (run r) = postfix_comma r

other_sign : (n : ℕ) → (n ≡ sign.COMMA → ⊥) → IsSign n a_comma → ⊥
other_sign n other h = other (let g : n ≡ sign.COMMA = cc in g)

statement_comma : {xs zs : Tokens} {t : Stmt} {short : Bool} → Statement (a_comma ∷ xs) t short zs → ⊥
statement_comma (block e b) = other_sign sign.OPEN_BRACE (λ g. omega (arith, g)) e
statement_comma (empty e) = other_sign sign.SEMICOLON (λ g. omega (arith, g)) e
statement_comma (local r n e) = type_comma r
statement_comma (local_value (declared r n e v) q) = type_comma r
statement_comma (when_true e c s i) = cc
statement_comma (while_true e c s) = cc
statement_comma (for_each e o' i c d s) = cc
statement_comma (break_off e q) = cc
statement_comma (continue_on e q) = cc
statement_comma (return_from e q) = cc
statement_comma (change c e) = change_comma c

block_comma : {xs zs : Tokens} {ts : List Stmt} → Block [] (a_comma ∷ xs) ts zs → ⊥
block_comma (block_end e) = other_sign sign.CLOSE_BRACE (λ g. omega (arith, g)) e
block_comma (block_more s b) = statement_comma s

comma_dot : IsSign sign.DOT a_comma → ⊥
comma_dot h = other_sign sign.DOT (λ g. omega (arith, g)) h

-- ---- what stands behind the brace of a constructor

bare_from : (xs zs : Tokens) (p : MemberPart) → Bare xs p zs → (ts : List Stmt) × (p ≡ part.Constructor None ts) × Block [] xs ts zs
bare_from xs zs p (bare {ts = ts} b) = (ts, refl, b)

bare_same : Same [] (λ ts. part.Constructor None ts) (Block []) Bare anything SmallBlock SmallPart
bare_same = record {
  into = λ xs zs ts b. bare b;
  from = λ xs zs p q e. bare_from xs zs p q;
  up = λ ts q. omega (arith, q);
  down = λ ts q. omega (arith, q);
}

pub bare_fails : (xs : Tokens) (e : ParseFault) → Fails (Block []) (λ _. anything) anything SmallBlock xs e → Yields Bare anything SmallPart xs (Err e)
bare_fails xs e f = fails_image (image_of bare_same) anything xs e f

pub bare_found : (xs zs : Tokens) (ts : List Stmt) → Found (Block []) (λ _. anything) xs ts zs → SmallBlock ts → Found Bare (λ _. anything) xs (part.Constructor None ts) zs × SmallPart (part.Constructor None ts)
bare_found xs zs ts g q = (found_image (image_of bare_same) g, omega (arith, q))

bare_comma : (p : MemberPart) (xs zs : Tokens) → Bare (a_comma ∷ xs) p zs → ⊥
bare_comma p xs zs (bare b) = block_comma b

bare_super : (s o : Token) (p : MemberPart) (xs zs : Tokens) → Is k.Super s → (IsSign sign.DOT o → ⊥) → Bare (s ∷ o ∷ xs) p zs → ⊥
bare_super s o p xs zs h d (bare b) = block_super h d b

run_depth : (at : Place) (e : Expr) → stmt_depth (record { place = at; kind = stmt_kind.Run e }) ≡ 1
unfolding stmt_depth
run_depth at e = search (rules, the_lemmas)

run_deepest : (at : Place) (e : Expr) → deepest (record { place = at; kind = stmt_kind.Run e }) ≡ depth e
unfolding deepest
run_deepest at e = search (rules, the_lemmas)

-- `super.a(); }`
super_statement : (s : Token) (zs : Tokens) → Is k.Super s → (p : MemberPart) × Bare (s ∷ ((a_sign sign.DOT ∷ a_name ∷ a_sign sign.OPEN_PAREN ∷ a_sign sign.CLOSE_PAREN ∷ a_sign sign.SEMICOLON ∷ a_sign sign.CLOSE_BRACE ∷ []) ++ zs)) p zs × SmallPart p
super_statement s zs h =
    let e = super_at s.place (97 ∷ []) [] in
    let t : Stmt = record { place = s.place; kind = stmt_kind.Run e } in
    let a = run_depth s.place e in
    let b = run_deepest s.place e in
    let c = depth_super s.place (97 ∷ []) [] in (
      part.Constructor None (t ∷ []),
      bare (block_more (change (run (postfix (super_call h refl a_name_is refl (no_args refl)) steps_end)) refl) (block_end refl)),
      omega (arith, a, b, c),
    )

body_bare : (s : Token) (xs zs : Tokens) (p : MemberPart) → (Is k.Super s → ⊥) → ConstructorBody (s ∷ xs) p zs → Bare (s ∷ xs) p zs
body_bare s xs zs p other (without_super b) = bare b
body_bare s xs zs p other (with_super h o a) = absurd (other h)

body_bare2 : (s o : Token) (xs zs : Tokens) (p : MemberPart) → (IsSign sign.OPEN_PAREN o → ⊥) → ConstructorBody (s ∷ o ∷ xs) p zs → Bare (s ∷ o ∷ xs) p zs
body_bare2 s o xs zs p other (without_super b) = bare b
body_bare2 s o xs zs p other (with_super h q a) = absurd (other q)

body_args : (s o : Token) (xs zs : Tokens) (p : MemberPart) → Is k.Super s → IsSign sign.OPEN_PAREN o → ConstructorBody (s ∷ o ∷ xs) p zs → ConstructorArgs xs p zs
body_args s o xs zs p h q (without_super b) = absurd (block_super h (dot_open o q) b)
body_args s o xs zs p h q (with_super h' q' a) = a

bare_body : (xs zs : Tokens) (p : MemberPart) → Bare xs p zs → ConstructorBody xs p zs
bare_body xs zs p (bare b) = without_super b

module _ (s : Token) (xs tokens : Tokens) (split : tokens ≡ s ∷ xs) where
  pub bare_gives : (r : Answer MemberPart) → (Is k.Super s → ⊥) → Yields Bare anything SmallPart tokens r → Yields ConstructorBody anything SmallPart tokens r
  bare_gives r other g = moved ConstructorBody anything SmallPart tokens (s ∷ xs) r split
      (alt_gives SmallPart alt xs r (subst (λ (x : Tokens). Yields Bare anything SmallPart x r) split g)) where
        alt : Alt s Bare ConstructorBody anything
        alt = record {
          into = λ ys zs p q. bare_body ys zs p q;
          from = λ ys zs p q e. body_bare s ys zs p other q;
          bad = a_comma ∷ [];
          bad_ends = refl;
          solid = λ p q. bare_comma p [] (a_comma ∷ []) q;
        }

module _ (s o : Token) (xs ys tokens : Tokens) (split : tokens ≡ s ∷ ys) (next : ys ≡ o ∷ xs) (h : Is k.Super s) where
  both : tokens ≡ s ∷ o ∷ xs
  both = split ∙ ap (λ (x : Tokens). s ∷ x) next

  pub super_gives : (r : Answer MemberPart) → IsSign sign.OPEN_PAREN o → Yields ConstructorArgs anything SmallPart xs r → Yields ConstructorBody anything SmallPart tokens r
  super_gives r q g = moved ConstructorBody anything SmallPart tokens (s ∷ o ∷ xs) r both (same_gives same xs r g) where
    same : Same (s ∷ o ∷ []) (λ t. t) ConstructorArgs ConstructorBody anything SmallPart SmallPart
    same = record {
      into = λ ys zs p a. with_super h q a;
      from = λ ys zs p b e. (p, refl, body_args s o ys zs p h q b);
      up = λ a p. p;
      down = λ a p. p;
    }

  pub call_gives : (r : Answer MemberPart) → (IsSign sign.OPEN_PAREN o → ⊥) → Yields Bare anything SmallPart tokens r → Yields ConstructorBody anything SmallPart tokens r
  call_gives r other g = moved ConstructorBody anything SmallPart tokens (s ∷ o ∷ xs) r both
      (same_gives (after_same s ConstructorBody anything SmallPart) (o ∷ xs) r
      (alt_gives SmallPart alt xs r
      (after_gives s Bare anything SmallPart (o ∷ xs) r (a_comma ∷ []) refl (λ p q. bare_comma p [] (a_comma ∷ []) q)
      ((a_sign sign.DOT ∷ a_name ∷ a_sign sign.OPEN_PAREN ∷ a_sign sign.CLOSE_PAREN ∷ a_sign sign.SEMICOLON ∷ a_sign sign.CLOSE_BRACE ∷ []) ++ a_comma ∷ []) (a_comma ∷ []) w.0 w.1 refl w.2
      (subst (λ (x : Tokens). Yields Bare anything SmallPart x r) both g)))) where
        w : (p : MemberPart) × Bare (s ∷ ((a_sign sign.DOT ∷ a_name ∷ a_sign sign.OPEN_PAREN ∷ a_sign sign.CLOSE_PAREN ∷ a_sign sign.SEMICOLON ∷ a_sign sign.CLOSE_BRACE ∷ []) ++ a_comma ∷ [])) p (a_comma ∷ []) × SmallPart p
        w = super_statement s (a_comma ∷ []) h

        alt : Alt o (After s Bare) (After s ConstructorBody) anything
        alt = record {
          into = λ ys zs p q. bare_body (s ∷ ys) zs p q;
          from = λ ys zs p q e. body_bare2 s o ys zs p other q;
          bad = a_comma ∷ [];
          bad_ends = refl;
          solid = λ p q. bare_super s a_comma p [] (a_comma ∷ []) h comma_dot q;
        }

-- ---- NAME "(" params ")" "{" ["super" "(" args ")" ";"] {stmt} "}"

body_begins : (xs zs : Tokens) (p : MemberPart) → ConstructorBody xs p zs → Ends anything xs
body_begins xs zs p (without_super b) = block_begins _ _ _ [] b
body_begins xs zs p (with_super h o a) = refl

body_part : Part ConstructorBody anything anything SmallPart
body_part = record {
  starts = λ xs zs p r h. body_begins xs zs p r;
  sample = a_sign sign.CLOSE_BRACE ∷ [];
  value = part.Constructor None [];
  reads = λ zs h. without_super (block_end refl);
  holds = omega arith;
}

module _ (private : Bool) where
  abbrev Maker4 : (((Unit {0} × Label) × List Param) × Unit {0}) → Reads Member
  Maker4 e = Then ConstructorBody (λ p. Done (made_at private e.0.0.1 e.0.1 p))

  abbrev Maker3 : ((Unit {0} × Label) × List Param) → Reads Member
  Maker3 e = Then (SignAt sign.OPEN_BRACE) (λ u. Maker4 (e, u))

  abbrev Maker2 : (Unit {0} × Label) → Reads Member
  Maker2 e = Then Params (λ ps. Maker3 (e, ps))

  abbrev Maker1 : Unit {0} → Reads Member
  Maker1 e = Then LabelAt (λ l. Maker2 (e, l))

  maker_into : (xs zs : Tokens) (m : Member) → Maker1 tt xs m zs → ConstructorAt private xs m zs
  maker_into xs zs m (l, ys, n, (ps, ws, q, (u, vs, sign_at o, (p, us, b, done)))) = constructor_at n q o b

  maker_from : (xs zs : Tokens) (m : Member) → ConstructorAt private xs m zs → Maker1 tt xs m zs
  maker_from xs zs m (constructor_at n q o b) = (_, _, n, (_, _, q, (_, _, sign_at o, (_, _, b, done))))

  maker_alike : Alike (Maker1 tt) (ConstructorAt private) anything
  maker_alike = record { into = λ xs zs p r. maker_into xs zs p r; from = λ xs zs p r e. maker_from xs zs p r }

  maker_tail5 : Tail (λ (e : (((Unit {0} × Label) × List Param) × Unit {0}) × MemberPart). Done (made_at private e.0.0.0.1 e.0.0.1 e.1)) anything anything (Both (Both (Both (Both Any Any) Any) Any) SmallPart) SmallMember
  maker_tail5 = finished (λ e. made_at private e.0.0.0.1 e.0.0.1 e.1) (λ e p. p.1) (λ e q. ((((tt, tt), tt), tt), q))

  maker_tail4 : Tail Maker4 anything anything (Both (Both (Both Any Any) Any) Any) SmallMember
  maker_tail4 = linked (Both (Both (Both Any Any) Any) Any) body_part maker_tail5 (fits_all _)

  maker_tail3 : Tail Maker3 anything (is_sign_of sign.OPEN_BRACE) (Both (Both Any Any) Any) SmallMember
  maker_tail3 = linked (Both (Both Any Any) Any) (sign_part sign.OPEN_BRACE) maker_tail4 (fits_all _)

  maker_tail2 : Tail Maker2 anything anything (Both Any Any) SmallMember
  maker_tail2 = linked (Both Any Any) params_part maker_tail3 (fits_all _)

  pub maker_name_fails : (xs : Tokens) (e : ParseFault) → Fails LabelAt (λ _. anything) anything Any xs e → Yields (ConstructorAt private) anything SmallMember xs (Err e)
  maker_name_fails xs e f = alike_gives SmallMember maker_alike xs (Err e) (stops Any label_part maker_tail2 (fits_all _) tt tt xs e f)

  module _ (xs ys : Tokens) (l : Label) (n : Found LabelAt (λ _. anything) xs l ys) where
    maker_behind1 : (r : Answer Member) → Yields (Maker2 (tt, l)) anything SmallMember ys r → Yields (ConstructorAt private) anything SmallMember xs r
    maker_behind1 r f = alike_gives SmallMember maker_alike xs r (goes Any label_part maker_tail2 (fits_all _) tt tt xs ys l r n f)

    pub maker_params_fails : (e : ParseFault) → Fails Params (λ _. anything) anything Any ys e → Yields (ConstructorAt private) anything SmallMember xs (Err e)
    maker_params_fails e f = maker_behind1 (Err e) (stops (Both Any Any) params_part maker_tail3 (fits_all _) (tt, l) (tt, tt) ys e f)

    module _ (ws : Tokens) (ps : List Param) (q : Found Params (λ _. anything) ys ps ws) where
      maker_behind2 : (r : Answer Member) → Yields (Maker3 ((tt, l), ps)) anything SmallMember ws r → Yields (ConstructorAt private) anything SmallMember xs r
      maker_behind2 r f = maker_behind1 r (goes (Both Any Any) params_part maker_tail3 (fits_all _) (tt, l) (tt, tt) ys ws ps r q f)

      pub maker_brace_fails : (e : ParseFault) → Lacks sign.OPEN_BRACE ws e → Yields (ConstructorAt private) anything SmallMember xs (Err e)
      maker_brace_fails e h = maker_behind2 (Err e) (stops (Both (Both Any Any) Any) (sign_part sign.OPEN_BRACE) maker_tail4 (fits_all _) ((tt, l), ps) ((tt, tt), tt) ws e (sign_fails sign.OPEN_BRACE ws e h))

      module _ (vs : Tokens) (o : Takes sign.OPEN_BRACE ws vs) where
        maker_behind3 : (r : Answer Member) → Yields (Maker4 (((tt, l), ps), tt)) anything SmallMember vs r → Yields (ConstructorAt private) anything SmallMember xs r
        maker_behind3 r f = maker_behind2 r (goes (Both (Both Any Any) Any) (sign_part sign.OPEN_BRACE) maker_tail4 (fits_all _) ((tt, l), ps) ((tt, tt), tt) ws vs tt r (sign_found sign.OPEN_BRACE ws vs o) f)

        pub maker_body_fails : (e : ParseFault) → Fails ConstructorBody (λ _. anything) anything SmallPart vs e → Yields (ConstructorAt private) anything SmallMember xs (Err e)
        maker_body_fails e f = maker_behind3 (Err e) (stops (Both (Both (Both Any Any) Any) Any) body_part maker_tail5 (fits_all _) (((tt, l), ps), tt) (((tt, tt), tt), tt) vs e f)

        pub maker_found : (p : MemberPart) (zs : Bor Tokens) → Found ConstructorBody (λ _. anything) vs p zs.now → SmallPart p → Yields (ConstructorAt private) anything SmallMember xs (Ok (made_at private l ps p, zs))
        maker_found p zs b small = maker_behind3 (Ok (made_at private l ps p, zs))
            (goes (Both (Both (Both Any Any) Any) Any) body_part maker_tail5 (fits_all _) (((tt, l), ps), tt) (((tt, tt), tt), tt) vs zs.now p (Ok (made_at private l ps p, zs)) b
            (ended anything SmallMember (made_at private l ps p) zs small))
