-- Types, results and parameters.
use Rattle.std.proofs.Common.{◌≡◌, ◌<◌, List, [], ◌∷◌, ◌++◌, length, Ok, Err, refl, sym, ◌∙◌, subst, arith}
use Rattle.std.specs.Borrow.{Bor}
use Rattle.jp_pred.specs.declared.ty.Ty.{Ty}
use Rattle.jp_pred.specs.declared.ty.Ty.TheVariants as ty
use Rattle.jp_ast.specs.declared.token.Token.{Token}
use Rattle.jp_ast.specs.declared.decl.Param.{Param}
use Rattle.jp_ast.specs.declared.sign.TheConstants as sign
use Rattle.jp_grammar.specs.declared.kind.Kind.TheVariants as k
use Rattle.jp_grammar.specs.declared.fault.ParseFault.{ParseFault}
use Rattle.jp_grammar.specs.Kinds.{Is, IsSign, Tokens, nowhere}
use Rattle.jp_grammar.specs.Expressions.{IsElement}
use Rattle.jp_grammar.specs.Statements.{OneType, ResultType, element_type, array_type, no_result, some_result}
use Rattle.jp_grammar.specs.Declarations.{OneParam, MoreParams, Params, one_param, last_param, next_param, no_params, some_params}
use Rattle.jp_grammar.specs.Reading.{Ends, Any, Found, Fails, Takes, Lacks}
use Rattle.jp_grammar.proofs.Sequence.{Then}
use Rattle.jp_grammar.proofs.Choice.{Choice}
use Rattle.jp_grammar.proofs.Outcome.{Joint, Same, fails_at}
use Rattle.jp_grammar.proofs.Samples.{a_name, a_name_is, a_sign}
use Rattle.jp_parse_stmt.specs.Behind.{anything, ends_type}
use Rattle.jp_parse_decl.specs.declared.token.Label.{Label}
use Rattle.jp_parse_decl.specs.Answers.{Yields}
use Rattle.jp_parse_decl.specs.Parts.{LabelAt, label_at, Listed, none_listed, some_listed}
use Rattle.jp_parse_decl.proofs.Links.{Answer, Part, Tail, Alike, Both, Done, done, finished, last_part, linked, goes, stops, ended, then_gives, then_fails, alike_gives, same_gives, choice_gives, moved}
use Rattle.jp_parse_decl.proofs.Tokens.{SignAt, sign_at, sign_part, sign_found, sign_fails, label_part, head_name, name_type, fits_all}

-- ---- types

pub type_begins : (xs zs : Tokens) (t : Ty) → OneType xs t zs → Ends anything xs
type_begins xs zs t (element_type h) = refl
type_begins xs zs t (array_type elem h o p) = refl

pub type_part : Part OneType ends_type anything Any
type_part = record {
  starts = λ xs zs t r h. type_begins xs zs t r;
  sample = a_name ∷ [];
  value = ty.Class (97 ∷ []);
  reads = λ zs h. element_type a_name_is;
  holds = tt;
}

pub result_begins : (xs zs : Tokens) (t : Ty) → ResultType xs t zs → Ends anything xs
result_begins xs zs t (no_result h) = refl
result_begins xs zs t (some_result r) = type_begins xs zs t r

pub result_part : Part ResultType ends_type anything Any
result_part = record {
  starts = λ xs zs t r h. result_begins xs zs t r;
  sample = a_name ∷ [];
  value = ty.Class (97 ∷ []);
  reads = λ zs h. some_result (element_type a_name_is);
  holds = tt;
}

element_no_void : (elem : Ty) (s : Token) → Is k.Void s → IsElement elem s → ⊥
element_no_void ty.Int s h e = cc
element_no_void ty.Boolean s h e = cc
element_no_void (ty.Class class) s h e = let g : k.Void ≡ k.Name = sym h ∙ e.1 in cc
element_no_void ty.Void s h e = absurd e
element_no_void ty.IntArray s h e = absurd e
element_no_void ty.BooleanArray s h e = absurd e
element_no_void (ty.ClassArray class) s h e = absurd e

pub type_no_void : (s : Token) (xs zs : Tokens) (t : Ty) → Is k.Void s → OneType (s ∷ xs) t zs → ⊥
type_no_void s xs zs t h (element_type {elem = elem} e) = element_no_void elem s h e
type_no_void s xs zs t h (array_type elem e o p) = element_no_void elem s h e

type_solid : (xs ys : Tokens) (t : Ty) → OneType xs t ys → length ys < length xs
type_solid xs ys t (element_type h) = omega arith
type_solid xs ys t (array_type elem h o p) = omega arith

module _ (s : Token) (xs tokens : Tokens) (split : tokens ≡ s ∷ xs) where
  void_only : (ys zs : Tokens) (t : Ty) → Is k.Void s → ResultType (s ∷ ys) t zs → (t ≡ ty.Void) × (zs ≡ ys)
  void_only ys zs t h (no_result h') = (refl, refl)
  void_only ys zs t h (some_result r) = absurd (type_no_void s ys zs t h r)

  pub void_found : Is k.Void s → Found ResultType (λ _. ends_type) tokens ty.Void xs
  void_found h = record {
    front = s ∷ [];
    split = split;
    reads = λ ys f. no_result h;
    only = λ ys zs t f r e. void_only ys zs t h r;
  }

  result_from : (ys zs : Tokens) (t : Ty) → (Is k.Void s → ⊥) → ResultType (s ∷ ys) t zs → OneType (s ∷ ys) t zs
  result_from ys zs t other (no_result h) = absurd (other h)
  result_from ys zs t other (some_result r) = r

  result_choice : (Is k.Void s → ⊥) → Choice s OneType ResultType (λ _. ends_type)
  result_choice other = record {
    into = λ ys zs t r. some_result r;
    from = λ ys zs t r e. result_from ys zs t other r;
    solid = λ ys t r. let h = type_solid ys ys t r in absurd (omega arith);
  }

  pub type_result : (r : Answer Ty) → (Is k.Void s → ⊥) → Yields OneType ends_type Any tokens r → Yields ResultType ends_type Any tokens r
  type_result r other g = moved ResultType ends_type Any tokens (s ∷ xs) r split
      (choice_gives Any (result_choice other) xs r (subst (λ (x : Tokens). Yields OneType ends_type Any x r) split g))

-- ---- a parameter

abbrev pub param_at : Ty → Label → Param
param_at t l = record { place = l.place; ty = t; name = l.name }

pub param_tail2 : Tail (λ (e : (Unit {0} × Ty) × Label). Done (param_at e.0.1 e.1)) anything anything (Both (Both Any Any) Any) Any
param_tail2 = finished (λ e. param_at e.0.1 e.1) (λ e p. tt) (λ e q. ((tt, tt), tt))

pub param_tail1 : Tail (λ (e : Unit {0} × Ty). Then LabelAt (λ l. Done (param_at e.1 l))) anything head_name (Both Any Any) Any
param_tail1 = linked (Both Any Any) label_part param_tail2 (fits_all _)

param_into : (xs zs : Tokens) (p : Param) → Then OneType (λ t. Then LabelAt (λ l. Done (param_at t l))) xs p zs → OneParam xs p zs
param_into xs zs p (t, ys, r, (l, ws, label_at n, done)) = one_param r n

param_from : (xs zs : Tokens) (p : Param) → OneParam xs p zs → Then OneType (λ t. Then LabelAt (λ l. Done (param_at t l))) xs p zs
param_from xs zs p (one_param r n) = (_, _, r, (_, _, label_at n, done))

pub param_alike : Alike (Then OneType (λ t. Then LabelAt (λ l. Done (param_at t l)))) OneParam anything
param_alike = record { into = λ xs zs p r. param_into xs zs p r; from = λ xs zs p r e. param_from xs zs p r }

pub param_type_fails : (xs : Tokens) (e : ParseFault) → Fails OneType (λ _. ends_type) ends_type Any xs e → Yields OneParam anything Any xs (Err e)
param_type_fails xs e f = alike_gives Any param_alike xs (Err e) (stops Any type_part param_tail1 name_type tt tt xs e f)

pub param_name_fails : (xs ys : Tokens) (t : Ty) (e : ParseFault) → Found OneType (λ _. ends_type) xs t ys → Fails LabelAt (λ _. anything) anything Any ys e → Yields OneParam anything Any xs (Err e)
param_name_fails xs ys t e g f = alike_gives Any param_alike xs (Err e)
    (goes Any type_part param_tail1 name_type tt tt xs ys t (Err e) g
    (stops (Both Any Any) label_part param_tail2 (fits_all _) (tt, t) (tt, tt) ys e f))

pub param_found : (xs ys : Tokens) (zs : Bor Tokens) (t : Ty) (l : Label) → Found OneType (λ _. ends_type) xs t ys → Found LabelAt (λ _. anything) ys l zs.now → Yields OneParam anything Any xs (Ok (param_at t l, zs))
param_found xs ys zs t l g f = alike_gives Any param_alike xs (Ok (param_at t l, zs))
    (goes Any type_part param_tail1 name_type tt tt xs ys t (Ok (param_at t l, zs)) g
    (goes (Both Any Any) label_part param_tail2 (fits_all _) (tt, t) (tt, tt) ys zs.now l (Ok (param_at t l, zs)) f
    (ended anything Any (param_at t l) zs tt)))

param_begins : (xs zs : Tokens) (p : Param) → OneParam xs p zs → Ends anything xs
param_begins xs zs p (one_param r n) = type_begins _ _ _ r

param_shorter : (xs zs : Tokens) (p : Param) → OneParam xs p zs → length zs < length xs
param_shorter xs zs p (one_param r n) = let h = type_solid _ _ _ r in omega (arith, h)

pub param_part : Part OneParam anything anything Any
param_part = record {
  starts = λ xs zs t r h. param_begins xs zs t r;
  sample = a_name ∷ a_name ∷ [];
  value = record { place = nowhere; ty = ty.Class (97 ∷ []); name = 97 ∷ [] };
  reads = λ zs h. one_param (element_type a_name_is) a_name_is;
  holds = tt;
}

-- no parameter begins with `)`
pub param_no_close : (s : Token) (xs zs : Tokens) (p : Param) → IsSign sign.CLOSE_PAREN s → OneParam (s ∷ xs) p zs → ⊥
param_no_close s xs zs p h (one_param r n) = type_no_sign r where
  element_no_sign : (elem : Ty) → IsElement elem s → ⊥
  element_no_sign ty.Int e = cc
  element_no_sign ty.Boolean e = cc
  element_no_sign (ty.Class class) e = let g : k.Sign sign.CLOSE_PAREN ≡ k.Name = sym h ∙ e.1 in cc
  element_no_sign ty.Void e = absurd e
  element_no_sign ty.IntArray e = absurd e
  element_no_sign ty.BooleanArray e = absurd e
  element_no_sign (ty.ClassArray class) e = absurd e

  type_no_sign : {ys zs : Tokens} {t : Ty} → OneType (s ∷ ys) t zs → ⊥
  type_no_sign (element_type {elem = elem} e) = element_no_sign elem e
  type_no_sign (array_type elem e o p) = element_no_sign elem e

-- ---- further parameters

more_begins : (ps : List Param) (xs zs : Tokens) (qs : List Param) → MoreParams ps xs qs zs → Ends anything xs
more_begins ps xs zs qs (last_param h) = refl
more_begins ps xs zs qs (next_param h p m) = refl

more_shorter : (ps : List Param) (xs zs : Tokens) (qs : List Param) → MoreParams ps xs qs zs → length zs < length xs
more_shorter ps xs zs qs (last_param h) = omega arith
more_shorter ps xs zs qs (next_param h p m) = let a = param_shorter _ _ _ p in let b = more_shorter _ _ _ _ m in omega (arith, a, b)

more_joint : (f : Param → List Param) → Joint OneParam (λ p. MoreParams (f p)) anything anything Any Any
more_joint f = record {
  starts = λ p ys zs qs r e. more_begins (f p) ys zs qs r;
  down = λ p ys zs qs r q. tt;
  close = a_sign sign.CLOSE_PAREN ∷ [];
  follows = λ zs e. refl;
  closed = λ p zs e. (f p, last_param refl, λ u. tt);
}

module _ (ps : List Param) (s : Token) (xs tokens : Tokens) (split : tokens ≡ s ∷ xs) where
  last_only : (ys zs : Tokens) (qs : List Param) → IsSign sign.CLOSE_PAREN s → MoreParams ps (s ∷ ys) qs zs → (qs ≡ ps) × (zs ≡ ys)
  last_only ys zs qs h (last_param h') = (refl, refl)
  last_only ys zs qs h (next_param h' p m) = absurd (let g : sign.COMMA ≡ sign.CLOSE_PAREN = cc in omega (arith, g))

  pub last_found : IsSign sign.CLOSE_PAREN s → Found (MoreParams ps) (λ _. anything) tokens ps xs
  last_found h = record {
    front = s ∷ [];
    split = split;
    reads = λ ys f. last_param h;
    only = λ ys zs qs f r e. last_only ys zs qs h r;
  }

  more_never : (more zs : Tokens) (qs : List Param) → (IsSign sign.CLOSE_PAREN s → ⊥) → (IsSign sign.COMMA s → ⊥) → MoreParams ps (s ∷ more) qs zs → ⊥
  more_never more zs qs a b (last_param h) = a h
  more_never more zs qs a b (next_param h p m) = b h

  next_from : (ys zs : Tokens) (qs : List Param) → IsSign sign.COMMA s → MoreParams ps (s ∷ ys) qs zs → Then OneParam (λ p. MoreParams (ps ++ p ∷ [])) ys qs zs
  next_from ys zs qs h (last_param h') = absurd (let g : sign.COMMA ≡ sign.CLOSE_PAREN = cc in omega (arith, g))
  next_from ys zs qs h (next_param {p = p} {ys = ws} h' r m) = (p, ws, r, m)

  next_same : IsSign sign.COMMA s → Same (s ∷ []) (λ t. t) (Then OneParam (λ p. MoreParams (ps ++ p ∷ []))) (MoreParams ps) anything Any Any
  next_same h = record {
    into = λ ys zs qs r. next_param h r.2 r.3;
    from = λ ys zs qs r e. (qs, refl, next_from ys zs qs h r);
    up = λ a q. q;
    down = λ a q. q;
  }

-- neither `,` nor `)` stands there
pub more_wrong : (ps : List Param) (s : Token) (xs tokens : Tokens) → tokens ≡ s ∷ xs → (e : ParseFault) → (IsSign sign.CLOSE_PAREN s → ⊥) → Lacks sign.COMMA tokens e → Yields (MoreParams ps) anything Any tokens (Err e)
more_wrong ps s xs tokens split e no_close l =
    let same : s ≡ l.first = cc in
    subst (λ (x : Tokens). Fails (MoreParams ps) (λ _. anything) anything Any x e) (sym l.split)
    (fails_at (MoreParams ps) anything Any [] l.first l.rest e l.refused
    (λ zs h. (a_sign sign.CLOSE_PAREN ∷ [], ps, last_param refl, h, tt))
    (λ more zs qs d h u. more_never ps l.first l.rest tokens l.split more zs qs (subst (λ (x : Token). IsSign sign.CLOSE_PAREN x → ⊥) same no_close) l.other d))

pub next_fails : (ps : List Param) (tokens ys : Tokens) (e : ParseFault) → Takes sign.COMMA tokens ys → Fails OneParam (λ _. anything) anything Any ys e → Yields (MoreParams ps) anything Any tokens (Err e)
next_fails ps tokens ys e t f = moved (MoreParams ps) anything Any tokens (t.first ∷ ys) (Err e) t.split
    (same_gives (next_same ps t.first ys tokens t.split t.sign_is) ys (Err e) (then_fails (more_joint (λ p. ps ++ p ∷ [])) ys e f))

pub next_gives : (ps : List Param) (tokens ys ws : Tokens) (p : Param) (r : Answer (List Param)) → Takes sign.COMMA tokens ys → Found OneParam (λ _. anything) ys p ws → Yields (MoreParams (ps ++ p ∷ [])) anything Any ws r → Yields (MoreParams ps) anything Any tokens r
next_gives ps tokens ys ws p r t g f = moved (MoreParams ps) anything Any tokens (t.first ∷ ys) r t.split
    (same_gives (next_same ps t.first ys tokens t.split t.sign_is) ys r (then_gives (more_joint (λ p. ps ++ p ∷ [])) ys ws p r g f))

-- ---- all parameters

module _ (s : Token) (xs tokens : Tokens) (split : tokens ≡ s ∷ xs) where
  none_only : (ys zs : Tokens) (ps : List Param) → IsSign sign.CLOSE_PAREN s → Listed (s ∷ ys) ps zs → (ps ≡ []) × (zs ≡ ys)
  none_only ys zs ps h (none_listed h') = (refl, refl)
  none_only ys zs ps h (some_listed p m) = absurd (param_no_close s ys _ _ h p)

  pub none_found : IsSign sign.CLOSE_PAREN s → Found Listed (λ _. anything) tokens [] xs
  none_found h = record {
    front = s ∷ [];
    split = split;
    reads = λ ys f. none_listed h;
    only = λ ys zs ps f r e. none_only ys zs ps h r;
  }

  some_from : (ys zs : Tokens) (ps : List Param) → (IsSign sign.CLOSE_PAREN s → ⊥) → Listed (s ∷ ys) ps zs → Then OneParam (λ p. MoreParams (p ∷ [])) (s ∷ ys) ps zs
  some_from ys zs ps other (none_listed h) = absurd (other h)
  some_from ys zs ps other (some_listed {p = p} {ys = ws} r m) = (p, ws, r, m)

  some_choice : (IsSign sign.CLOSE_PAREN s → ⊥) → Choice s (Then OneParam (λ p. MoreParams (p ∷ []))) Listed (λ _. anything)
  some_choice other = record {
    into = λ ys zs ps r. some_listed r.2 r.3;
    from = λ ys zs ps r e. some_from ys zs ps other r;
    solid = λ ys ps r. let a = param_shorter _ _ _ r.2 in let b = more_shorter _ _ _ _ r.3 in absurd (omega (arith, a, b));
  }

  pub listed_fails : (e : ParseFault) → (IsSign sign.CLOSE_PAREN s → ⊥) → Fails OneParam (λ _. anything) anything Any tokens e → Yields Listed anything Any tokens (Err e)
  listed_fails e other f = moved Listed anything Any tokens (s ∷ xs) (Err e) split
      (choice_gives Any (some_choice other) xs (Err e) (subst (λ (x : Tokens). Yields (Then OneParam (λ p. MoreParams (p ∷ []))) anything Any x (Err e)) split
      (then_fails (more_joint (λ p. p ∷ [])) tokens e f)))

  pub listed_gives : (ys : Tokens) (p : Param) (r : Answer (List Param)) → (IsSign sign.CLOSE_PAREN s → ⊥) → Found OneParam (λ _. anything) tokens p ys → Yields (MoreParams (p ∷ [])) anything Any ys r → Yields Listed anything Any tokens r
  listed_gives ys p r other g f = moved Listed anything Any tokens (s ∷ xs) r split
      (choice_gives Any (some_choice other) xs r (subst (λ (x : Tokens). Yields (Then OneParam (λ p. MoreParams (p ∷ []))) anything Any x r) split
      (then_gives (more_joint (λ p. p ∷ [])) tokens ys p r g f)))

listed_begins : (xs zs : Tokens) (ps : List Param) → Listed xs ps zs → Ends anything xs
listed_begins xs zs ps (none_listed h) = refl
listed_begins xs zs ps (some_listed p m) = param_begins _ _ _ p

pub listed_part : Part Listed anything anything Any
listed_part = record {
  starts = λ xs zs t r h. listed_begins xs zs t r;
  sample = a_sign sign.CLOSE_PAREN ∷ [];
  value = [];
  reads = λ zs h. none_listed refl;
  holds = tt;
}

params_into : (xs zs : Tokens) (ps : List Param) → Then (SignAt sign.OPEN_PAREN) (λ _. Listed) xs ps zs → Params xs ps zs
params_into xs zs ps (u, ys, sign_at o, none_listed h) = no_params o h
params_into xs zs ps (u, ys, sign_at o, some_listed p m) = some_params o p m

params_from : (xs zs : Tokens) (ps : List Param) → Params xs ps zs → Then (SignAt sign.OPEN_PAREN) (λ _. Listed) xs ps zs
params_from xs zs ps (no_params o h) = (_, _, sign_at o, none_listed h)
params_from xs zs ps (some_params o p m) = (_, _, sign_at o, some_listed p m)

params_alike : Alike (Then (SignAt sign.OPEN_PAREN) (λ _. Listed)) Params anything
params_alike = record { into = λ xs zs p r. params_into xs zs p r; from = λ xs zs p r e. params_from xs zs p r }

params_tail : Tail (λ (e : Unit {0} × Unit {0}). Listed) anything anything (Both Any Any) Any
params_tail = last_part listed_part (λ e. (tt, tt))

pub params_wrong : (xs : Tokens) (e : ParseFault) → Lacks sign.OPEN_PAREN xs e → Yields Params anything Any xs (Err e)
params_wrong xs e l = alike_gives Any params_alike xs (Err e) (stops Any (sign_part sign.OPEN_PAREN) params_tail (fits_all _) tt tt xs e (sign_fails sign.OPEN_PAREN xs e l))

pub params_gives : (xs ys : Tokens) (r : Answer (List Param)) → Takes sign.OPEN_PAREN xs ys → Yields Listed anything Any ys r → Yields Params anything Any xs r
params_gives xs ys r t f = alike_gives Any params_alike xs r (goes Any (sign_part sign.OPEN_PAREN) params_tail (fits_all _) tt tt xs ys tt r (sign_found sign.OPEN_PAREN xs ys t) f)

params_begins : (xs zs : Tokens) (ps : List Param) → Params xs ps zs → Ends anything xs
params_begins xs zs ps (no_params o h) = refl
params_begins xs zs ps (some_params o p m) = refl

pub params_part : Part Params anything anything Any
params_part = record {
  starts = λ xs zs t r h. params_begins xs zs t r;
  sample = a_sign sign.OPEN_PAREN ∷ a_sign sign.CLOSE_PAREN ∷ [];
  value = [];
  reads = λ zs h. no_params refl refl;
  holds = tt;
}
