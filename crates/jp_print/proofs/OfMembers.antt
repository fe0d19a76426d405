-- Members read back.
use Rattle.std.proofs.Common.{◌≡◌, ℕ, Bool, true, false, List, [], ◌∷◌, ◌++◌, map, Option, Some, None, refl, sym, ap, ◌∙◌, subst, append_assoc, arith, codes}
use Rattle.std.specs.Prelude.{flat_map, option_map}
use Rattle.std.specs.List.{AllByRecursion}
use Rattle.std.proofs.lemmas.List.{append-nil}
use Rattle.jp_pred.specs.declared.ty.Ty.{Ty}
use Rattle.jp_ast.specs.declared.token.Place.{Place}
use Rattle.jp_ast.specs.declared.token.Token.{Token}
use Rattle.jp_ast.specs.declared.token.Lexeme.{Lexeme}
use Rattle.jp_ast.specs.declared.token.Lexeme.TheVariants.{Word, Sign}
use Rattle.jp_ast.specs.declared.expr.Expr.{Expr}
use Rattle.jp_ast.specs.declared.stmt.Stmt.{Stmt}
use Rattle.jp_ast.specs.declared.guard.GuardExpr.{GuardExpr}
use Rattle.jp_ast.specs.declared.decl.Param.{Param}
use Rattle.jp_ast.specs.declared.decl.Member.{Member}
use Rattle.jp_ast.specs.declared.decl.MemberPart.{MemberPart}
use Rattle.jp_ast.specs.declared.decl.MemberPart.TheVariants as part
use Rattle.jp_ast.specs.declared.sign.TheConstants as sign
use Rattle.jp_grammar.specs.declared.kind.Kind.{Kind}
use Rattle.jp_grammar.specs.declared.kind.Kind.TheVariants as k
use Rattle.jp_grammar.specs.Kinds.{IsSign, IsName, Tokens, nowhere}
use Rattle.jp_grammar.specs.Statements.{OneType, ResultType}
use Rattle.jp_grammar.specs.Declarations.{Maybe, OneParam, MoreParams, Params, MaybeGuard, Braces, MaybeSuperCall, MemberBody, OneMember, Promise, member_at, absent, present, one_param, last_param, next_param, no_params, some_params, no_guard, some_guard, braces, no_super_call, some_super_call, field, static_method, abstract_method, method_body, constructor, default_member, public_member, private_member, promise}
use Rattle.jp_print.specs.Expressions.{in_parens, behind_comma, commas, maybe, type_tokens, arguments, printed_expr}
use Rattle.jp_print.specs.Guards.{printed_guard, guard_tokens}
use Rattle.jp_print.specs.Statements.{in_braces, block_tokens, printed_stmt}
use Rattle.jp_print.specs.Declarations.{word_if, param_tokens, named_params, signature, when_guard, super_call, part_tokens, member_tokens}
use Rattle.jp_print.specs.Places.{unplaced, unplaced_guard, unplaced_stmt, unplaced_param, unplaced_part, unplaced_member}
use Rattle.jp_print.proofs.Forms.{Formed, FormedTokens, formed_append, Nameable, nameable, is_name, is_sign, sign_formed}
use Rattle.jp_print.proofs.Keywords.{Keyword, is, static_word, abstract_word, private_word, when_word, super_word}
use Rattle.jp_print.proofs.Goes.{Goes, done, next, Parted, parted, Reading, pushed, all_pushed}
use Rattle.jp_print.proofs.Types.{IsType, IsResult, type_of, result_of, value_formed, type_formed, read_type, read_result}
use Rattle.jp_print.proofs.Operands.{parens_formed}
use Rattle.jp_print.proofs.Arguments as args
use Rattle.jp_print.proofs.Arguments.{AllFormed, commas_formed, arguments_formed, read_args}
use Rattle.jp_print.proofs.FromExpressions.{args_again}
use Rattle.jp_print.proofs.OfGuards as guards
use Rattle.jp_print.proofs.OfGuards.{guard_again}
use Rattle.jp_print.proofs.OfStatements as stmts
use Rattle.jp_print.proofs.OfStatements.{stmts_tokens, stmts_formed, read_block, braces_formed, stmts_again}

-- ---- parameters

pub record IsParam (p : Param) : Type 0 where
  pub ty : IsType p.ty
  pub name : Nameable p.name

abbrev pub AreParams : List Param → Type 0
AreParams ps = AllByRecursion IsParam ps

param_formed : (p : Param) → IsParam p → Formed (param_tokens p)
param_formed p i = formed_append (type_tokens p.ty) _ (value_formed p.ty i.ty) (i.name.formed, tt)

all_formed : (ps : List Param) → AreParams ps → AllFormed (map param_tokens ps)
all_formed [] i = tt
all_formed (p ∷ ps) i = (param_formed p i.0, all_formed ps i.1)

params_formed : (ps : List Param) → AreParams ps → Formed (in_parens (commas (map param_tokens ps)))
params_formed ps i = parens_formed (commas (map param_tokens ps)) (commas_formed (map param_tokens ps) (all_formed ps i))

param_parts : (p : Param) → IsParam p → {xs ms ys : Tokens} → Goes (type_tokens p.ty) xs ms → Goes (Word p.name ∷ []) ms ys → Reading OneParam unplaced_param xs p ys
param_parts p i front (next {s = c} h done) = record { tree = record p { place = c.place }; reads = one_param (read_type p.ty i.ty front) (is_name p.name c i.name h); same = refl }

read_param : (p : Param) → IsParam p → {xs ys : Tokens} → Goes (param_tokens p) xs ys → Reading OneParam unplaced_param xs p ys
read_param p i g = let q = parted (type_tokens p.ty) (Word p.name ∷ []) g in param_parts p i q.front q.back

more_params : (ps begun : List Param) → AreParams ps → {xs ms ys : Tokens} → Goes (flat_map behind_comma (map param_tokens ps)) xs ms → Goes (Sign sign.CLOSE_PAREN ∷ []) ms ys → Reading (MoreParams begun) (map unplaced_param) xs (begun ++ ps) ys
more_params [] begun i done (next {s = e} h done) = record { tree = begun; reads = last_param (is_sign _ e h); same = all_pushed unplaced_param begun }
more_params (p ∷ ps) begun i (next {s = c} h g) e =
    let q = parted (param_tokens p) (flat_map behind_comma (map param_tokens ps)) g in
    let r = read_param p i.0 q.front in
    let m = more_params ps (begun ++ r.tree ∷ []) i.1 q.back e in
    record { tree = m.tree; reads = next_param (is_sign _ c h) r.reads m.reads; same = m.same ∙ pushed unplaced_param begun r.tree p ps r.same }

read_params : (ps : List Param) → AreParams ps → {xs ys : Tokens} → Goes (in_parens (commas (map param_tokens ps))) xs ys → Reading Params (map unplaced_param) xs ps ys
read_params [] i (next {s = o} h (next {s = e} j done)) = record { tree = []; reads = no_params (is_sign _ o h) (is_sign _ e j); same = refl }
read_params (p ∷ ps) i (next {s = o} h g) =
    let q = parted (commas (map param_tokens (p ∷ ps))) (Sign sign.CLOSE_PAREN ∷ []) g in
    let q' = parted (param_tokens p) (flat_map behind_comma (map param_tokens ps)) q.front in
    let r = read_param p i.0 q'.front in
    let m = more_params ps (r.tree ∷ []) i.1 q'.back q.back in
    record { tree = m.tree; reads = some_params (is_sign _ o h) r.reads m.reads; same = m.same ∙ ap (λ x. x ∷ map unplaced_param ps) r.same }

all_params : (ps qs : List Param) → AreParams ps → AreParams qs → AreParams (ps ++ qs)
all_params [] qs a b = b
all_params (p ∷ ps) qs a b = (a.0, all_params ps qs a.1 b)

param_of : {xs zs : Tokens} {p : Param} → OneParam xs p zs → FormedTokens xs → IsParam p × FormedTokens zs
param_of (one_param {c = c} {name = name} r n) f = let a = type_of r f in (record { ty = a.0; name = nameable name c n a.1.0 }, a.1.1)

more_params_of : {xs zs : Tokens} {ps qs : List Param} → MoreParams ps xs qs zs → AreParams ps → FormedTokens xs → AreParams qs × FormedTokens zs
more_params_of (last_param h) i f = (i, f.1)
more_params_of (next_param {p = p} {ps = ps} h r m) i f = let a = param_of r f.1 in more_params_of m (all_params ps (p ∷ []) i (a.0, tt)) a.1

pub params_of : {xs zs : Tokens} {ps : List Param} → Params xs ps zs → FormedTokens xs → AreParams ps × FormedTokens zs
params_of (no_params h e) f = (tt, f.1.1)
params_of (some_params h r m) f = let a = param_of r f.1 in more_params_of m (a.0, tt) a.1

-- ---- results, names and parameters

pub record ReadSignature (t : Ty) (name : List ℕ) (ps : List Param) (xs ys : Tokens) : Type 0 where
  pub named : Token
  pub rest : Tokens
  pub result : ResultType xs t (named ∷ rest)
  pub name_is : IsName name named
  pub params : Reading Params (map unplaced_param) rest ps ys

module _ (t : Ty) (it : IsResult t) (name : List ℕ) (n : Nameable name) (ps : List Param) (i : AreParams ps) where
  signature_formed : Formed (signature t name ps)
  signature_formed = formed_append (type_tokens t) _ (type_formed t it) (n.formed, params_formed ps i)

  signature_parts : {xs ms ys : Tokens} → Goes (type_tokens t) xs ms → Goes (named_params name ps) ms ys → ReadSignature t name ps xs ys
  signature_parts front (next {s = c} h g) = record { named = c; rest = _; result = read_result t it front; name_is = is_name name c n h; params = read_params ps i g }

  read_signature : {xs ys : Tokens} → Goes (signature t name ps) xs ys → ReadSignature t name ps xs ys
  read_signature g = let q = parted (type_tokens t) (named_params name ps) g in signature_parts q.front q.back

-- ---- guards, blocks and the call of `super`

abbrev pub GuardIf : Option GuardExpr → Type 0
GuardIf None = Unit {0}
GuardIf (Some g) = guards.Again g

guard_formed : (g : Option GuardExpr) → GuardIf g → Formed (maybe when_guard g)
guard_formed None a = tt
guard_formed (Some g) a = (when_word.form, a.formed)

read_guard : (g : Option GuardExpr) → GuardIf g → {xs ys : Tokens} → Goes (maybe when_guard g) xs ys → Reading MaybeGuard (option_map unplaced_guard) xs g ys
read_guard None a done = record { tree = None; reads = no_guard; same = refl }
read_guard (Some g) a (next {s = s} h r) = let x = a.whole _ _ r in record { tree = Some x.tree; reads = some_guard (is when_word s h) x.reads; same = ap (λ y. Some y) x.same }

pub guard_of : {xs zs : Tokens} {g : Option GuardExpr} → MaybeGuard xs g zs → FormedTokens xs → GuardIf g × FormedTokens zs
guard_of no_guard f = (tt, f)
guard_of (some_guard h r) f = guard_again r f.1

block_formed : (ts : List Stmt) → stmts.AllAgain ts → Formed (block_tokens (map printed_stmt ts))
block_formed ts a = braces_formed (stmts_tokens ts) (stmts_formed ts a)

read_braces : (ts : List Stmt) → stmts.AllAgain ts → {xs ys : Tokens} → Goes (block_tokens (map printed_stmt ts)) xs ys → Reading Braces (map unplaced_stmt) xs ts ys
read_braces ts a (next {s = o} h g) =
    let q = parted (stmts_tokens ts) (Sign sign.CLOSE_BRACE ∷ []) g in
    let r = read_block ts [] a q.front q.back in
    record { tree = r.tree; reads = braces (is_sign _ o h) r.reads; same = r.same }

pub braces_of : {xs zs : Tokens} {ts : List Stmt} → Braces xs ts zs → FormedTokens xs → stmts.AllAgain ts × FormedTokens zs
braces_of (braces h b) f = stmts_again b tt f.1

abbrev pub ArgsIf : Option (List Expr) → Type 0
ArgsIf None = Unit {0}
ArgsIf (Some ts) = args.AllAgain ts

super_formed : (ts : Option (List Expr)) → ArgsIf ts → Formed (maybe super_call ts)
super_formed None a = tt
super_formed (Some ts) a = (super_word.form, formed_append (arguments (map printed_expr ts)) _ (arguments_formed ts a) (sign_formed sign.SEMICOLON (omega arith), tt))

super_parts : (ts : List Expr) → args.AllAgain ts → {xs ms ys : Tokens} (s o : Token) → s.lexeme ≡ Word (codes "super") → o.lexeme ≡ Sign sign.OPEN_PAREN →
    Goes (commas (args.each_tokens ts) ++ Sign sign.CLOSE_PAREN ∷ []) xs ms → Goes (Sign sign.SEMICOLON ∷ []) ms ys → Reading MaybeSuperCall (option_map (map unplaced)) (s ∷ o ∷ xs) (Some ts) ys
super_parts ts a s o h i g (next {s = e} j done) =
    let r = read_args ts a g in
    record { tree = Some r.tree; reads = some_super_call (is super_word s h) (is_sign _ o i) r.reads (is_sign _ e j); same = ap (λ x. Some x) r.same }

read_super : (ts : Option (List Expr)) → ArgsIf ts → {xs ys : Tokens} → Goes (maybe super_call ts) xs ys → Reading MaybeSuperCall (option_map (map unplaced)) xs ts ys
read_super None a done = record { tree = None; reads = no_super_call; same = refl }
read_super (Some ts) a (next {s = s} h (next {s = o} i g)) =
    let q = parted (commas (args.each_tokens ts) ++ Sign sign.CLOSE_PAREN ∷ []) (Sign sign.SEMICOLON ∷ []) g in
    super_parts ts a s o h i q.front q.back

pub super_of : {xs zs : Tokens} {ts : Option (List Expr)} → MaybeSuperCall xs ts zs → FormedTokens xs → ArgsIf ts × FormedTokens zs
super_of no_super_call f = (tt, f)
super_of (some_super_call h o r e) f = let a = args_again r f.1.1 in (a.0, a.1.1)

-- ---- a word that may be left out

word_formed : (stands : Bool) {word : List ℕ} {kind : Kind} → Keyword word kind → Formed (word_if stands word)
word_formed true keyword = (keyword.form, tt)
word_formed false keyword = tt

pub read_word : (stands : Bool) {word : List ℕ} {kind : Kind} → Keyword word kind → {xs ys : Tokens} → Goes (word_if stands word) xs ys → Maybe kind xs stands ys
read_word true keyword (next {s = s} h done) = present (is keyword s h)
read_word false keyword done = absent

pub word_of : {kind : Kind} {stands : Bool} {xs ys : Tokens} → Maybe kind xs stands ys → FormedTokens xs → FormedTokens ys
word_of absent f = f
word_of (present h) f = f.1

-- ---- members

-- a member without its place
abbrev bare : Bool → List ℕ → List Param → MemberPart → Member
bare private name params part = record { place = nowhere; is_private = private; name = name; params = params; part = part }

-- Behind `public` or `private` the member of a class reads back.
pub record BodyAgain (private : Bool) (m : Member) : Type 0 where
  pub access : m.is_private ≡ private
  pub formed : Formed (part_tokens false m.name m.params m.part)
  pub read : (xs ys : Tokens) → Goes (part_tokens false m.name m.params m.part) xs ys → Reading (MemberBody private) unplaced_member xs m ys

module _ (private : Bool) (p : Token) (name : List ℕ) (n : Nameable name) where
  module _ (ty : Ty) (i : IsType ty) (static : Bool) where
    field_parts : {xs ms ns ys : Tokens} → Goes (word_if static (codes "static")) xs ms → Goes (type_tokens ty) ms ns → Goes (Word name ∷ Sign sign.SEMICOLON ∷ []) ns ys →
        Reading (MemberBody private) unplaced_member xs (member_at private p name [] (part.Field ty static)) ys
    field_parts w t (next {s = c} h (next {s = e} j done)) =
        record { tree = member_at private c name [] (part.Field ty static); reads = field (read_word static static_word w) (read_type ty i t) (is_name name c n h) (is_sign _ e j); same = refl }

    field_read : (xs ys : Tokens) → Goes (word_if static (codes "static") ++ type_tokens ty ++ Word name ∷ Sign sign.SEMICOLON ∷ []) xs ys → Reading (MemberBody private) unplaced_member xs (member_at private p name [] (part.Field ty static)) ys
    field_read xs ys g =
        let q = parted (word_if static (codes "static") ++ type_tokens ty) (Word name ∷ Sign sign.SEMICOLON ∷ []) g in
        let r = parted (word_if static (codes "static")) (type_tokens ty) q.front in
        field_parts r.front r.back q.back

    pub field_again : BodyAgain private (member_at private p name [] (part.Field ty static))
    field_again = record {
      access = refl;
      formed = formed_append (word_if static (codes "static") ++ type_tokens ty) _ (formed_append (word_if static (codes "static")) _ (word_formed static static_word) (value_formed ty i)) (n.formed, (sign_formed sign.SEMICOLON (omega arith), tt));
      read = field_read;
    }

  module _ (ps : List Param) (ips : AreParams ps) where
    module _ (t : Ty) (it : IsResult t) where
      module _ (ts : List Stmt) (a : stmts.AllAgain ts) where
        static_read : (xs ys : Tokens) → Goes (Word (codes "static") ∷ signature t name ps ++ block_tokens (map printed_stmt ts)) xs ys → Reading (MemberBody private) unplaced_member xs (member_at private p name ps (part.Static t ts)) ys
        static_read xs ys (next {s = s} h g) =
            let q = parted (signature t name ps) (block_tokens (map printed_stmt ts)) g in
            let x = read_signature t it name n ps ips q.front in
            let y = read_braces ts a q.back in
            record {
              tree = member_at private x.named name x.params.tree (part.Static t y.tree);
              reads = static_method (is static_word s h) x.result x.name_is x.params.reads y.reads;
              same = ap (λ z. bare private name z (part.Static t (map unplaced_stmt y.tree))) x.params.same ∙ ap (λ z. bare private name (map unplaced_param ps) (part.Static t z)) y.same;
            }

        pub static_again : BodyAgain private (member_at private p name ps (part.Static t ts))
        static_again = record {
          access = refl;
          formed = (static_word.form, formed_append (signature t name ps) _ (signature_formed t it name n ps ips) (block_formed ts a));
          read = static_read;
        }

        module _ (g : Option GuardExpr) (b : GuardIf g) where
          body_read : (xs ys : Tokens) → Goes (signature t name ps ++ maybe when_guard g ++ block_tokens (map printed_stmt ts)) xs ys → Reading (MemberBody private) unplaced_member xs (member_at private p name ps (part.Body t g ts)) ys
          body_read xs ys r =
              let q = parted (signature t name ps ++ maybe when_guard g) (block_tokens (map printed_stmt ts)) r in
              let q' = parted (signature t name ps) (maybe when_guard g) q.front in
              let x = read_signature t it name n ps ips q'.front in
              let y = read_guard g b q'.back in
              let z = read_braces ts a q.back in
              record {
                tree = member_at private x.named name x.params.tree (part.Body t y.tree z.tree);
                reads = method_body x.result x.name_is x.params.reads y.reads z.reads;
                same = ap (λ u. bare private name u (part.Body t (option_map unplaced_guard y.tree) (map unplaced_stmt z.tree))) x.params.same
                    ∙ ap (λ u. bare private name (map unplaced_param ps) (part.Body t u (map unplaced_stmt z.tree))) y.same
                    ∙ ap (λ u. bare private name (map unplaced_param ps) (part.Body t (option_map unplaced_guard g) u)) z.same;
              }

          pub body_again : BodyAgain private (member_at private p name ps (part.Body t g ts))
          body_again = record {
            access = refl;
            formed = formed_append (signature t name ps ++ maybe when_guard g) _ (formed_append (signature t name ps) _ (signature_formed t it name n ps ips) (guard_formed g b)) (block_formed ts a);
            read = body_read;
          }

      abstract_parts : {xs ms ys : Tokens} (s : Token) → s.lexeme ≡ Word (codes "abstract") → Goes (signature t name ps) xs ms → Goes (Sign sign.SEMICOLON ∷ []) ms ys →
          Reading (MemberBody private) unplaced_member (s ∷ xs) (member_at private p name ps (part.Abstract t)) ys
      abstract_parts s h g (next {s = e} j done) =
          let x = read_signature t it name n ps ips g in
          record {
            tree = member_at private x.named name x.params.tree (part.Abstract t);
            reads = abstract_method (is abstract_word s h) x.result x.name_is x.params.reads (is_sign _ e j);
            same = ap (λ z. bare private name z (part.Abstract t)) x.params.same;
          }

      abstract_read : (xs ys : Tokens) → Goes (Word (codes "abstract") ∷ signature t name ps ++ Sign sign.SEMICOLON ∷ []) xs ys → Reading (MemberBody private) unplaced_member xs (member_at private p name ps (part.Abstract t)) ys
      abstract_read xs ys (next {s = s} h g) = let q = parted (signature t name ps) (Sign sign.SEMICOLON ∷ []) g in abstract_parts s h q.front q.back

      pub abstract_again : BodyAgain private (member_at private p name ps (part.Abstract t))
      abstract_again = record {
        access = refl;
        formed = (abstract_word.form, formed_append (signature t name ps) _ (signature_formed t it name n ps ips) (sign_formed sign.SEMICOLON (omega arith), tt));
        read = abstract_read;
      }

    module _ (ts : List Stmt) (a : stmts.AllAgain ts) (es : Option (List Expr)) (b : ArgsIf es) where
      constructor_parts : {xs ms ns vs ys : Tokens} (c o : Token) → c.lexeme ≡ Word name → Goes (in_parens (commas (map param_tokens ps))) xs (o ∷ ms) → o.lexeme ≡ Sign sign.OPEN_BRACE →
          Goes (maybe super_call es) ms ns → Goes (stmts_tokens ts) ns vs → Goes (Sign sign.CLOSE_BRACE ∷ []) vs ys → Reading (MemberBody private) unplaced_member (c ∷ xs) (member_at private p name ps (part.Constructor es ts)) ys
      constructor_parts c o h g i r s e =
          let x = read_params ps ips g in
          let y = read_super es b r in
          let z = read_block ts [] a s e in
          record {
            tree = member_at private c name x.tree (part.Constructor y.tree z.tree);
            reads = constructor (is_name name c n h) x.reads (is_sign _ o i) y.reads z.reads;
            same = ap (λ u. bare private name u (part.Constructor (option_map (map unplaced) y.tree) (map unplaced_stmt z.tree))) x.same
                ∙ ap (λ u. bare private name (map unplaced_param ps) (part.Constructor u (map unplaced_stmt z.tree))) y.same
                ∙ ap (λ u. bare private name (map unplaced_param ps) (part.Constructor (option_map (map unplaced) es) u)) z.same;
          }

      constructor_body : {xs ms ys : Tokens} (c : Token) → c.lexeme ≡ Word name → Goes (in_parens (commas (map param_tokens ps))) xs ms → Goes (in_braces (maybe super_call es ++ stmts_tokens ts)) ms ys →
          Reading (MemberBody private) unplaced_member (c ∷ xs) (member_at private p name ps (part.Constructor es ts)) ys
      constructor_body c h g (next {s = o} i r) =
          let q = parted (maybe super_call es ++ stmts_tokens ts) (Sign sign.CLOSE_BRACE ∷ []) r in
          let q' = parted (maybe super_call es) (stmts_tokens ts) q.front in
          constructor_parts c o h g i q'.front q'.back q.back

      constructor_read : (xs ys : Tokens) → Goes (named_params name ps ++ in_braces (maybe super_call es ++ stmts_tokens ts)) xs ys → Reading (MemberBody private) unplaced_member xs (member_at private p name ps (part.Constructor es ts)) ys
      constructor_read xs ys (next {s = c} h g) =
          let q = parted (in_parens (commas (map param_tokens ps))) (in_braces (maybe super_call es ++ stmts_tokens ts)) g in
          constructor_body c h q.front q.back

      pub constructor_again : BodyAgain private (member_at private p name ps (part.Constructor es ts))
      constructor_again = record {
        access = refl;
        formed = (n.formed, formed_append (in_parens (commas (map param_tokens ps))) _ (params_formed ps ips) (braces_formed (maybe super_call es ++ stmts_tokens ts) (formed_append (maybe super_call es) _ (super_formed es b) (stmts_formed ts a))));
        read = constructor_read;
      }

pub member_body : {private : Bool} {xs zs : Tokens} {m : Member} → MemberBody private xs m zs → FormedTokens xs → BodyAgain private m × FormedTokens zs
member_body {private = private} (field {static = static} {c = c} {name = name} {t = t} w r n h) f =
    let a = type_of r (word_of w f) in (field_again private c name (nameable name c n a.1.0) t a.0 static, a.1.1.1)
member_body {private = private} (static_method {c = c} {name = name} {t = t} {ps = ps} h r n p b) f =
    let x = result_of r f.1 in let y = params_of p x.1.1 in let z = braces_of b y.1 in
    (static_again private c name (nameable name c n x.1.0) ps y.0 t x.0 _ z.0, z.1)
member_body {private = private} (abstract_method {c = c} {name = name} {t = t} {ps = ps} h r n p e) f =
    let x = result_of r f.1 in let y = params_of p x.1.1 in (abstract_again private c name (nameable name c n x.1.0) ps y.0 t x.0, y.1.1)
member_body {private = private} (method_body {c = c} {name = name} {t = t} {ps = ps} {g = g} r n p w b) f =
    let x = result_of r f in let y = params_of p x.1.1 in let u = guard_of w y.1 in let z = braces_of b u.1 in
    (body_again private c name (nameable name c n x.1.0) ps y.0 t x.0 _ z.0 g u.0, z.1)
member_body {private = private} (constructor {c = c} {name = name} {ps = ps} {args = es} n p h s b) f =
    let y = params_of p f.1 in let u = super_of s y.1.1 in let z = stmts_again b tt u.1 in
    (constructor_again private c name (nameable name c n f.0) ps y.0 _ z.0 es u.0, z.1)

-- Printed with `private` or without, the member of a class reads back.
pub record MemberAs (private : Bool) (m : Member) : Type 0 where
  pub formed : Formed (word_if private (codes "private") ++ part_tokens false m.name m.params m.part)
  pub read : (xs ys : Tokens) → Goes (word_if private (codes "private") ++ part_tokens false m.name m.params m.part) xs ys → Reading OneMember unplaced_member xs m ys

-- the member of a class reads back
abbrev pub MemberAgain : Member → Type 0
MemberAgain m = MemberAs m.is_private m

private_read : (m : Member) → BodyAgain true m → (xs ys : Tokens) → Goes (Word (codes "private") ∷ part_tokens false m.name m.params m.part) xs ys → Reading OneMember unplaced_member xs m ys
private_read m b xs ys (next {s = s} h g) = let r = b.read _ _ g in record { tree = r.tree; reads = private_member (is private_word s h) r.reads; same = r.same }

member_as : (private : Bool) (m : Member) → BodyAgain private m → MemberAs private m
member_as false m b = record { formed = b.formed; read = λ xs ys g. let r = b.read xs ys g in record { tree = r.tree; reads = default_member r.reads; same = r.same } }
member_as true m b = record { formed = (private_word.form, b.formed); read = private_read m b }

member_again : (private : Bool) (m : Member) → BodyAgain private m → MemberAgain m
member_again private m b = subst (λ (x : Bool). MemberAs x m) (sym b.access) (member_as private m b)

pub member_of : {xs zs : Tokens} {m : Member} → OneMember xs m zs → FormedTokens xs → MemberAgain m × FormedTokens zs
member_of (default_member b) f = let a = member_body b f in (member_again false _ a.0, a.1)
member_of (public_member h b) f = let a = member_body b f.1 in (member_again false _ a.0, a.1)
member_of (private_member h b) f = let a = member_body b f.1 in (member_again true _ a.0, a.1)

-- the member of an interface reads back
pub record PromiseAgain (m : Member) : Type 0 where
  pub formed : Formed (member_tokens true m)
  pub read : (xs ys : Tokens) → Goes (member_tokens true m) xs ys → Reading Promise unplaced_member xs m ys

module _ (p : Token) (name : List ℕ) (n : Nameable name) (ps : List Param) (ips : AreParams ps) (t : Ty) (it : IsResult t) where
  promise_parts : {xs ms ys : Tokens} → Goes (signature t name ps) xs ms → Goes (Sign sign.SEMICOLON ∷ []) ms ys → Reading Promise unplaced_member xs (member_at false p name ps (part.Abstract t)) ys
  promise_parts g (next {s = e} j done) =
      let x = read_signature t it name n ps ips g in
      record {
        tree = member_at false x.named name x.params.tree (part.Abstract t);
        reads = promise absent absent x.result x.name_is x.params.reads (is_sign _ e j);
        same = ap (λ z. bare false name z (part.Abstract t)) x.params.same;
      }

  promise_again : PromiseAgain (member_at false p name ps (part.Abstract t))
  promise_again = record {
    formed = formed_append (signature t name ps) _ (signature_formed t it name n ps ips) (sign_formed sign.SEMICOLON (omega arith), tt);
    read = λ xs ys g. let q = parted (signature t name ps) (Sign sign.SEMICOLON ∷ []) g in promise_parts q.front q.back;
  }

pub promise_of : {xs zs : Tokens} {m : Member} → Promise xs m zs → FormedTokens xs → PromiseAgain m × FormedTokens zs
promise_of (promise {c = c} {name = name} {t = t} {ps = ps} a b r n p e) f =
    let x = result_of r (word_of b (word_of a f)) in let y = params_of p x.1.1 in (promise_again c name (nameable name c n x.1.0) ps y.0 t x.0, y.1.1)
