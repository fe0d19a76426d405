-- The names in a unit that was read are ones that a descriptor can carry.
use Rattle.std.proofs.Common.{◌≡◌, ℕ, List, [], ◌∷◌, ◌++◌, map, Bool, true, false, Option, refl, ap, subst}
use Rattle.std.specs.Prelude.{◌&&◌, not}
use Rattle.std.specs.List.{list_all, filter_map, cons_option}
use Rattle.jp_pred.specs.declared.ty.Ty.{Ty}
use Rattle.jp_pred.specs.Names.{same}
use Rattle.jp_ast.specs.declared.token.Place.{Place}
use Rattle.jp_ast.specs.declared.token.Lexeme.{Lexeme}
use Rattle.jp_ast.specs.declared.token.Lexeme.TheVariants as lexeme
use Rattle.jp_ast.specs.declared.expr.Expr.{Expr}
use Rattle.jp_ast.specs.declared.stmt.Stmt.{Stmt}
use Rattle.jp_ast.specs.declared.guard.GuardExpr.{GuardExpr}
use Rattle.jp_ast.specs.declared.decl.Decl.{Decl}
use Rattle.jp_ast.specs.declared.decl.Member.{Member}
use Rattle.jp_ast.specs.declared.decl.MemberPart.{MemberPart}
use Rattle.jp_ast.specs.declared.decl.MemberPart.TheVariants as part
use Rattle.jp_ast.specs.declared.decl.Param.{Param}
use Rattle.jp_ast.specs.declared.decl.SourceUnit.{SourceUnit}
use Rattle.jp_store.specs.Classes.{object_name}
use Rattle.jp_lexical.specs.Tokens.{Spells}
use Rattle.jp_lexical.specs.Lexed.{LexedFrom, end, gap, token}
use Rattle.jp_grammar.specs.declared.kind.Kind.{Kind}
use Rattle.jp_grammar.specs.Kinds.{Tokens}
use Rattle.jp_grammar.specs.Declarations.{Maybe, absent, present, MoreNames, names_end, names_more, MaybeNames, no_names, some_names, MaybeSuper, no_super, some_super, OneParam, one_param, MoreParams, last_param, next_param, Params, no_params, some_params, MaybeGuard, no_guard, some_guard, Braces, braces, MaybeSuperCall, no_super_call, some_super_call, MemberBody, field, static_method, abstract_method, method_body, constructor, OneMember, default_member, public_member, private_member, Members, members_end, members_more, Promise, promise, Promises, promises_end, promises_more, Modifier, no_modifier, abstract_modifier, final_modifier, Declaration, class_decl, interface_decl, MoreDeclarations, unit_end, unit_more, Whole, whole}
use Rattle.type_rules.specs.Heads.{as_method, as_constructor, method_part, constructor_part, param_types, or_default, head}
use Rattle.gen_body.specs.Names.{is_nameable, are_nameable, is_result}
use Rattle.calls_fit.specs.Fitting.{method_fits}
use Rattle.calls_fit.proofs.Named.{first_true, second_true, first_of, second_of}
use Rattle.typed_fits.specs.Laws.{has_plain_names, ReadNamesArePlain}
use Rattle.typed_fits.proofs.SeenFits.{and_so}
use Rattle.typed_fits.proofs.WordsOfExpressions.{IsWordly, AreWordly, no_tokens, one_more, rest, word_is, two, behind_args}
use Rattle.typed_fits.proofs.WordsOfGuards.{behind_guard}
use Rattle.typed_fits.proofs.WordsOfStatements.{not_object, behind_type, type_named, behind_result, result_named, behind_block}

-- TOKENS

pub lexed_wordly : {place : Place} {text : List ℕ} {tokens : Tokens} → LexedFrom place text tokens → AreWordly tokens
lexed_wordly end = one_more (λ bytes e. absurd (no_end bytes e)) no_tokens where
  no_end : (bytes : List ℕ) → lexeme.End ≡ lexeme.Word bytes → ⊥
  no_end bytes e = cc
lexed_wordly (gap e g l) = lexed_wordly l
lexed_wordly (token {bytes = spelled} {lexeme = x} e t l) = one_more (λ bytes w. of_word spelled x t.spells bytes w) (lexed_wordly l) where
  of_word : (spelled : List ℕ) (x : Lexeme) → Spells x spelled → (bytes : List ℕ) → x ≡ lexeme.Word bytes → IsWordly bytes
  of_word spelled (lexeme.Word name) s bytes w = subst IsWordly (word_same name bytes w) s.1.goes_on where
    word_same : (a b : List ℕ) → lexeme.Word a ≡ lexeme.Word b → a ≡ b
    word_same a b e = cc
  of_word spelled (lexeme.Number value hex) s bytes w = absurd cc
  of_word spelled (lexeme.Text value) s bytes w = absurd cc
  of_word spelled (lexeme.Sign sign) s bytes w = absurd cc
  of_word spelled lexeme.End s bytes w = absurd s

-- PARAMETERS

pub behind_maybe : {kind : Kind} {b : Bool} {xs zs : Tokens} → Maybe kind xs b zs → AreWordly xs → AreWordly zs
behind_maybe absent w = w
behind_maybe (present h) w = rest w

behind_more_names : {ns ms : List (List ℕ)} {xs zs : Tokens} → MoreNames ns xs ms zs → AreWordly xs → AreWordly zs
behind_more_names names_end w = w
behind_more_names (names_more h i m) w = behind_more_names m (two w)

pub behind_names : {kind : Kind} {ns : List (List ℕ)} {xs zs : Tokens} → MaybeNames kind xs ns zs → AreWordly xs → AreWordly zs
behind_names no_names w = w
behind_names (some_names h i m) w = behind_more_names m (two w)

pub behind_super : {o : Option (List ℕ)} {xs zs : Tokens} → MaybeSuper xs o zs → AreWordly xs → AreWordly zs
behind_super no_super w = w
behind_super (some_super h i) w = two w

abbrev types_in : List Param → List Ty
types_in ps = map (λ p. p.ty) ps

behind_param : {p : Param} {xs zs : Tokens} → OneParam xs p zs → AreWordly xs → AreWordly zs
behind_param (one_param t h) w = rest (behind_type t w)

param_named : {p : Param} {xs zs : Tokens} → OneParam xs p zs → AreWordly xs → is_nameable p.ty ≡ true
param_named (one_param t h) w = type_named t w

more_named : (ps : List Param) (p : Param) → are_nameable (types_in ps) ≡ true → is_nameable p.ty ≡ true → are_nameable (types_in (ps ++ p ∷ [])) ≡ true
more_named [] p h k = and_so (is_nameable p.ty) true k refl
more_named (q ∷ ps) p h k = and_so (is_nameable q.ty) (are_nameable (types_in (ps ++ p ∷ []))) (first_true (is_nameable q.ty) (are_nameable (types_in ps)) h) (more_named ps p (second_true (is_nameable q.ty) (are_nameable (types_in ps)) h) k)

behind_more_params : {ps qs : List Param} {xs zs : Tokens} → MoreParams ps xs qs zs → AreWordly xs → AreWordly zs
behind_more_params (last_param h) w = rest w
behind_more_params (next_param h p m) w = behind_more_params m (behind_param p (rest w))

more_params_named : {ps qs : List Param} {xs zs : Tokens} → MoreParams ps xs qs zs → AreWordly xs → are_nameable (types_in ps) ≡ true → are_nameable (types_in qs) ≡ true
more_params_named (last_param h) w k = k
more_params_named (next_param {p = p} {ps = ps} h g m) w k = more_params_named m (behind_param g (rest w)) (more_named ps p k (param_named g (rest w)))

pub behind_params : {ps : List Param} {xs zs : Tokens} → Params xs ps zs → AreWordly xs → AreWordly zs
behind_params (no_params h i) w = two w
behind_params (some_params h p m) w = behind_more_params m (behind_param p (rest w))

params_named : {ps : List Param} {xs zs : Tokens} → Params xs ps zs → AreWordly xs → are_nameable (types_in ps) ≡ true
params_named (no_params h i) w = refl
params_named (some_params {p = p} h g m) w = more_params_named m (behind_param g (rest w)) (more_named [] p refl (param_named g (rest w)))

-- MEMBERS

behind_maybe_guard : {g : Option GuardExpr} {xs zs : Tokens} → MaybeGuard xs g zs → AreWordly xs → AreWordly zs
behind_maybe_guard no_guard w = w
behind_maybe_guard (some_guard h g) w = behind_guard g (rest w)

behind_braces : {ts : List Stmt} {xs zs : Tokens} → Braces xs ts zs → AreWordly xs → AreWordly zs
behind_braces (braces h b) w = behind_block b (rest w)

behind_super_call : {ts : Option (List Expr)} {xs zs : Tokens} → MaybeSuperCall xs ts zs → AreWordly xs → AreWordly zs
behind_super_call no_super_call w = w
behind_super_call (some_super_call h i a j) w = rest (behind_args a (two w))

-- the types of a member's parameters, and its result
abbrev result_in : MemberPart → Bool
result_in (part.Field t static) = true
result_in (part.Static result block) = is_result result
result_in (part.Abstract result) = is_result result
result_in (part.Body result guard block) = is_result result
result_in (part.Constructor args block) = true

abbrev IsPlain : Member → Type 0
IsPlain m = (are_nameable (param_types m) ≡ true) × (result_in m.part ≡ true)

behind_body : {private : Bool} {m : Member} {xs zs : Tokens} → MemberBody private xs m zs → AreWordly xs → AreWordly zs
behind_body (field s t h i) w = two (behind_type t (behind_maybe s w))
behind_body (static_method h r i p b) w = behind_braces b (behind_params p (rest (behind_result r (rest w))))
behind_body (abstract_method h r i p j) w = rest (behind_params p (rest (behind_result r (rest w))))
behind_body (method_body r h p g b) w = behind_braces b (behind_maybe_guard g (behind_params p (rest (behind_result r w))))
behind_body (constructor h p i s b) w = behind_block b (behind_super_call s (rest (behind_params p (rest w))))

body_plain : {private : Bool} {m : Member} {xs zs : Tokens} → MemberBody private xs m zs → AreWordly xs → IsPlain m
body_plain (field s t h i) w = (refl, refl)
body_plain (static_method h r i p b) w = (params_named p (rest (behind_result r (rest w))), result_named r (rest w))
body_plain (abstract_method h r i p j) w = (params_named p (rest (behind_result r (rest w))), result_named r (rest w))
body_plain (method_body r h p g b) w = (params_named p (rest (behind_result r w)), result_named r w)
body_plain (constructor h p i s b) w = (params_named p (rest w), refl)

pub behind_member : {m : Member} {xs zs : Tokens} → OneMember xs m zs → AreWordly xs → AreWordly zs
behind_member (default_member b) w = behind_body b w
behind_member (public_member h b) w = behind_body b (rest w)
behind_member (private_member h b) w = behind_body b (rest w)

member_plain : {m : Member} {xs zs : Tokens} → OneMember xs m zs → AreWordly xs → IsPlain m
member_plain (default_member b) w = body_plain b w
member_plain (public_member h b) w = body_plain b (rest w)
member_plain (private_member h b) w = body_plain b (rest w)

abbrev ArePlain : List Member → Type 0
ArePlain [] = Unit {0}
ArePlain (m ∷ ms) = IsPlain m × ArePlain ms

one_plain : (ms : List Member) (m : Member) → ArePlain ms → IsPlain m → ArePlain (ms ++ m ∷ [])
one_plain [] m h k = (k, tt)
one_plain (x ∷ ms) m (a, h) k = (a, one_plain ms m h k)

behind_members : {ms ns : List Member} {xs zs : Tokens} → Members ms xs ns zs → AreWordly xs → AreWordly zs
behind_members (members_end h) w = rest w
behind_members (members_more m n) w = behind_members n (behind_member m w)

members_plain : {ms ns : List Member} {xs zs : Tokens} → Members ms xs ns zs → AreWordly xs → ArePlain ms → ArePlain ns
members_plain (members_end h) w k = k
members_plain (members_more {m = m} {ms = ms} g n) w k = members_plain n (behind_member g w) (one_plain ms m k (member_plain g w))

pub behind_promise : {m : Member} {xs zs : Tokens} → Promise xs m zs → AreWordly xs → AreWordly zs
behind_promise (promise a b r h p i) w = rest (behind_params p (rest (behind_result r (behind_maybe b (behind_maybe a w)))))

promise_plain : {m : Member} {xs zs : Tokens} → Promise xs m zs → AreWordly xs → IsPlain m
promise_plain (promise a b r h p i) w = let v = behind_maybe b (behind_maybe a w) in (params_named p (rest (behind_result r v)), result_named r v)

behind_promises : {ms ns : List Member} {xs zs : Tokens} → Promises ms xs ns zs → AreWordly xs → AreWordly zs
behind_promises (promises_end h) w = rest w
behind_promises (promises_more m n) w = behind_promises n (behind_promise m w)

promises_plain : {ms ns : List Member} {xs zs : Tokens} → Promises ms xs ns zs → AreWordly xs → ArePlain ms → ArePlain ns
promises_plain (promises_end h) w k = k
promises_plain (promises_more {m = m} {ms = ms} g n) w k = promises_plain n (behind_promise g w) (one_plain ms m k (promise_plain g w))

-- DECLARATIONS

with_method : (m : Member) (q : MemberPart) → are_nameable (param_types m) ≡ true → result_in q ≡ true → (ms : List _) → list_all method_fits ms ≡ true → list_all method_fits (cons_option (method_part [] m q) ms) ≡ true
with_method m (part.Field t static) h k ms e = e
with_method m (part.Static result block) h k ms e = and_so (are_nameable (param_types m) && is_result result) (list_all method_fits ms) (and_so (are_nameable (param_types m)) (is_result result) h k) e
with_method m (part.Abstract result) h k ms e = and_so (are_nameable (param_types m) && is_result result) (list_all method_fits ms) (and_so (are_nameable (param_types m)) (is_result result) h k) e
with_method m (part.Body result guard block) h k ms e = and_so (are_nameable (param_types m) && is_result result) (list_all method_fits ms) (and_so (are_nameable (param_types m)) (is_result result) h k) e
with_method m (part.Constructor args block) h k ms e = e

all_methods : (ms : List Member) → ArePlain ms → list_all method_fits (filter_map as_method ms) ≡ true
all_methods [] h = refl
all_methods (m ∷ ms) (a, h) = with_method m m.part (first_of a) (second_of a) (filter_map as_method ms) (all_methods ms h)

with_maker : (m : Member) (q : MemberPart) → are_nameable (param_types m) ≡ true → (ts : List (List Ty)) → list_all are_nameable ts ≡ true → list_all are_nameable (cons_option (constructor_part m q) ts) ≡ true
with_maker m (part.Field t static) h ts e = e
with_maker m (part.Static result block) h ts e = e
with_maker m (part.Abstract result) h ts e = e
with_maker m (part.Body result guard block) h ts e = e
with_maker m (part.Constructor args block) h ts e = and_so (are_nameable (param_types m)) (list_all are_nameable ts) h e

all_makers : (ms : List Member) → ArePlain ms → list_all are_nameable (filter_map as_constructor ms) ≡ true
all_makers [] h = refl
all_makers (m ∷ ms) (a, h) = with_maker m m.part (first_of a) (filter_map as_constructor ms) (all_makers ms h)

defaults : (b : Bool) (ts : List (List Ty)) → list_all are_nameable ts ≡ true → list_all are_nameable (or_default b ts) ≡ true
defaults true ts h = h
defaults false [] h = refl
defaults false (t ∷ ts) h = h

decl_from : (d : Decl) → IsWordly d.name → ArePlain d.members → has_plain_names d ≡ true
decl_from d n h =
    and_so (not (same d.name object_name)) (list_all method_fits (head d).methods && list_all are_nameable (head d).constructors) (ap not (not_object d.name n))
    (and_so (list_all method_fits (head d).methods) (list_all are_nameable (head d).constructors) (all_methods d.members h) (defaults d.is_interface (filter_map as_constructor d.members) (all_makers d.members h)))

pub behind_modifier : {a b : Bool} {xs zs : Tokens} → Modifier xs a b zs → AreWordly xs → AreWordly zs
behind_modifier no_modifier w = w
behind_modifier (abstract_modifier h) w = rest w
behind_modifier (final_modifier h) w = rest w

pub behind_declaration : {d : Decl} {xs zs : Tokens} → Declaration xs d zs → AreWordly xs → AreWordly zs
behind_declaration (class_decl a m h i s n j g) w = behind_members g (rest (behind_names n (behind_super s (two (behind_modifier m (behind_maybe a w))))))
behind_declaration (interface_decl a h i n j g) w = behind_promises g (rest (behind_names n (two (behind_maybe a w))))

declaration_plain : {xs zs : Tokens} (d : Decl) → Declaration xs d zs → AreWordly xs → has_plain_names d ≡ true
declaration_plain d (class_decl {name = name} a m h i s n j g) w =
    let v = behind_modifier m (behind_maybe a w) in
    decl_from d (word_is (rest v) name (first_of i)) (members_plain g (rest (behind_names n (behind_super s (two v)))) tt)
declaration_plain d (interface_decl {name = name} a h i n j g) w =
    let v = behind_maybe a w in
    decl_from d (word_is (rest v) name (first_of i)) (promises_plain g (rest (behind_names n (two v))) tt)

more_plain : (ds : List Decl) (d : Decl) → list_all has_plain_names ds ≡ true → has_plain_names d ≡ true → list_all has_plain_names (ds ++ d ∷ []) ≡ true
more_plain [] d h k = and_so (has_plain_names d) true k refl
more_plain (x ∷ ds) d h k = and_so (has_plain_names x) (list_all has_plain_names (ds ++ d ∷ [])) (first_true (has_plain_names x) (list_all has_plain_names ds) h) (more_plain ds d (second_true (has_plain_names x) (list_all has_plain_names ds) h) k)

declarations_plain : {ds es : List Decl} {xs : Tokens} → MoreDeclarations ds xs es → AreWordly xs → list_all has_plain_names ds ≡ true → list_all has_plain_names es ≡ true
declarations_plain (unit_end h) w k = k
declarations_plain (unit_more {d = d} {ds = ds} g m) w k = declarations_plain m (behind_declaration g w) (more_plain ds d k (declaration_plain d g w))

-- a unit that was read
pub whole_plain : {xs : Tokens} {u : SourceUnit} → Whole xs u → AreWordly xs → list_all has_plain_names u.decls ≡ true
whole_plain (whole {d = d} g m) w = declarations_plain m (behind_declaration g w) (more_plain [] d refl (declaration_plain d g w))

pub names_plain : ReadNamesArePlain
names_plain text tokens unit l p = whole_plain p.whole (lexed_wordly l)
