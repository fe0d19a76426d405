-- Names behind `extends` and `implements`, classes and interfaces.
use Rattle.std.proofs.Common.{◌≡◌, ℕ, ◌<◌, Bool, true, false, List, [], ◌∷◌, ◌++◌, length, Option, Some, None, Ok, Err, IsTrue, refl, sym, ap, ◌∙◌, subst, inl, inr, arith}
use Rattle.std.specs.Borrow.{Bor}
use Rattle.jp_ast.specs.declared.token.Token.{Token}
use Rattle.jp_ast.specs.declared.decl.Decl.{Decl}
use Rattle.jp_ast.specs.declared.decl.Member.{Member}
use Rattle.jp_ast.specs.declared.sign.TheConstants as sign
use Rattle.jp_grammar.specs.declared.kind.Kind.{Kind}
use Rattle.jp_grammar.specs.declared.kind.Kind.TheVariants as k
use Rattle.jp_grammar.specs.declared.fault.ParseFault.{ParseFault}
use Rattle.jp_grammar.specs.Kinds.{Is, IsSign, Tokens, kind_of_token, is_sign_of, is_sign_kind}
use Rattle.jp_grammar.specs.Declarations.{absent, present, MoreNames, names_end, names_more, MaybeNames, no_names, some_names, MaybeSuper, no_super, some_super, no_modifier, abstract_modifier, final_modifier, Members, Promises, Declaration, class_decl, interface_decl}
use Rattle.jp_grammar.specs.Reading.{Reads, Ends, Any, Follows, Found, Fails, Takes, Lacks}
use Rattle.jp_grammar.proofs.Sequence.{Then, found_image, fails_image}
use Rattle.jp_grammar.proofs.Outcome.{Joint, Same, image_of, found_nothing}
use Rattle.jp_parse_expr.proofs.Alls.{found_fewer, fails_fewer}
use Rattle.jp_parse_stmt.specs.Behind.{anything}
use Rattle.jp_parse_decl.specs.declared.token.Label.{Label}
use Rattle.jp_parse_decl.specs.Answers.{Yields, Skips, TakesWord, LacksWord}
use Rattle.jp_parse_decl.specs.Behind.{ends_brace, super_kind, ends_super}
use Rattle.jp_parse_decl.specs.Bounds.{SmallMembers, SmallDecl}
use Rattle.jp_parse_decl.specs.Parts.{LabelAt, label_at, NamesAt, names_at, class_of, interface_of, ClassAt, class_at, InterfaceAt, interface_at, Declared, of_class, of_interface}
use Rattle.jp_parse_decl.proofs.Links.{Answer, Part, Tail, Alike, Alt, Both, Done, done, finished, linked, goes, stops, ended, then_gives, then_fails, alike_gives, alt_gives, same_gives, moved, found_shorter}
use Rattle.jp_parse_decl.proofs.Tokens.{sign_is, SignAt, sign_at, sign_part, sign_found, sign_fails, ClassWord, class_word, word_part, word_found, word_fails, label_part, head_name, fits_all, some_end, Optional, kept, skipped, skips_gives}
use Rattle.jp_parse_decl.proofs.MemberFacts.{a_comma, members_part, promises_part}

-- ---- the superclass

super_begins : (xs zs : Tokens) (t : Option (List ℕ)) → MaybeSuper xs t zs → Ends ends_super zs → Ends anything xs
super_begins xs zs t no_super h = some_end ends_super xs h
super_begins xs zs t (some_super e n) h = refl

super_part : Part MaybeSuper ends_super anything Any
super_part = record {
  starts = λ xs zs t r h. super_begins xs zs t r h;
  sample = [];
  value = None;
  reads = λ zs h. no_super;
  holds = tt;
}

any_fewer : (fewer : Token → Bool) (s : Token) → IsTrue (fewer s) → IsTrue (anything s)
any_fewer fewer s h = refl

module _ (s : Token) (xs tokens : Tokens) (split : tokens ≡ s ∷ xs) where
  no_super_only : (ys zs : Tokens) (t : Option (List ℕ)) → (Is k.Extends s → ⊥) → Follows ends_super (s ∷ xs) ys → MaybeSuper ys t zs → (t ≡ None) × (zs ≡ ys)
  no_super_only ys zs t other f no_super = (refl, refl)
  no_super_only ys zs t other (inl e) (some_super h n) = absurd (let c = ap super_kind h in cc)
  no_super_only ys zs t other (inr same) (some_super h n) = absurd (other (subst (λ (x : Token). Is k.Extends x) same h))

  pub super_none : (Is k.Extends s → ⊥) → Found MaybeSuper (λ _. ends_super) tokens None tokens
  super_none other = subst (λ (x : Tokens). Found MaybeSuper (λ _. ends_super) x None x) (sym split)
      (found_nothing MaybeSuper ends_super (s ∷ xs) None (λ ys. no_super) (λ ys zs t f r e. no_super_only ys zs t other f r))

  super_into : (ys zs : Tokens) (l : Label) → Is k.Extends s → LabelAt ys l zs → MaybeSuper (s ∷ ys) (Some l.name) zs
  super_into ys zs l h (label_at n) = some_super h n

  super_from : (ys zs : Tokens) (t : Option (List ℕ)) → Is k.Extends s → MaybeSuper (s ∷ ys) t zs → Ends ends_super zs → (l : Label) × (t ≡ Some l.name) × LabelAt ys l zs
  super_from ys zs t h no_super e = absurd (let c = ap super_kind h in cc)
  super_from ys zs t h (some_super h' n) e = (_, refl, label_at n)

  super_same : Is k.Extends s → Same (s ∷ []) (λ l. Some l.name) LabelAt MaybeSuper ends_super Any Any
  super_same h = record {
    into = λ ys zs l r. super_into ys zs l h r;
    from = λ ys zs t r e. super_from ys zs t h r e;
    up = λ a p. tt;
    down = λ a p. tt;
  }

  pub super_fails : (e : ParseFault) → Is k.Extends s → Fails LabelAt (λ _. anything) anything Any xs e → Fails MaybeSuper (λ _. ends_super) ends_super Any tokens e
  super_fails e h f = subst (λ (x : Tokens). Fails MaybeSuper (λ _. ends_super) ends_super Any x e) (sym split)
      (fails_image (image_of (super_same h)) ends_super xs e (fails_fewer (any_fewer ends_super) f))

  pub super_found : (l : Label) (zs : Tokens) → Is k.Extends s → Found LabelAt (λ _. anything) xs l zs → Found MaybeSuper (λ _. ends_super) tokens (Some l.name) zs
  super_found l zs h f = subst (λ (x : Tokens). Found MaybeSuper (λ _. ends_super) x (Some l.name) zs) (sym split)
      (found_image (image_of (super_same h)) (found_fewer (any_fewer ends_super) f))

-- ---- names with commas between them

brace_comma : (s : Token) → IsTrue (ends_brace s) → IsSign sign.COMMA s → ⊥
brace_comma s h c = let g : sign.COMMA ≡ sign.OPEN_BRACE = (let b = sign_is sign.OPEN_BRACE s h in cc) in omega (arith, g)

names_some : (ns ms : List (List ℕ)) (xs zs : Tokens) → MoreNames ns xs ms zs → Ends ends_brace zs → Ends anything xs
names_some ns ms xs zs names_end h = some_end ends_brace xs h
names_some ns ms xs zs (names_more c n m) h = refl

names_joint : (f : Label → List (List ℕ)) → Joint LabelAt (λ l. MoreNames (f l)) anything ends_brace Any Any
names_joint f = record {
  starts = λ l ys zs ms r h. names_some (f l) ms ys zs r h;
  down = λ l ys zs ms r q. tt;
  close = [];
  follows = λ zs h. some_end ends_brace zs h;
  closed = λ l zs h. (f l, names_end, λ p. tt);
}

module _ (ns : List (List ℕ)) (s : Token) (xs tokens : Tokens) (split : tokens ≡ s ∷ xs) where
  names_only : (ys zs : Tokens) (ms : List (List ℕ)) → (IsSign sign.COMMA s → ⊥) → Follows ends_brace (s ∷ xs) ys → MoreNames ns ys ms zs → (ms ≡ ns) × (zs ≡ ys)
  names_only ys zs ms other f names_end = (refl, refl)
  names_only ys zs ms other (inl e) (names_more {s = s'} c n m) = absurd (brace_comma s' e c)
  names_only ys zs ms other (inr same) (names_more c n m) = absurd (other (subst (λ (x : Token). IsSign sign.COMMA x) same c))

  pub names_stop : (IsSign sign.COMMA s → ⊥) → Found (MoreNames ns) (λ _. ends_brace) tokens ns tokens
  names_stop other = subst (λ (x : Tokens). Found (MoreNames ns) (λ _. ends_brace) x ns x) (sym split)
      (found_nothing (MoreNames ns) ends_brace (s ∷ xs) ns (λ ys. names_end) (λ ys zs ms f r e. names_only ys zs ms other f r))

  names_into : (ys zs : Tokens) (ms : List (List ℕ)) → IsSign sign.COMMA s → Then LabelAt (λ l. MoreNames (ns ++ l.name ∷ [])) ys ms zs → MoreNames ns (s ∷ ys) ms zs
  names_into ys zs ms c (l, ws, label_at n, m) = names_more c n m

  names_from : (ys zs : Tokens) (ms : List (List ℕ)) → IsSign sign.COMMA s → MoreNames ns (s ∷ ys) ms zs → Ends ends_brace zs → Then LabelAt (λ l. MoreNames (ns ++ l.name ∷ [])) ys ms zs
  names_from ys zs ms c names_end e = absurd (brace_comma s e c)
  names_from ys zs ms c (names_more c' n m) e = (_, _, label_at n, m)

  names_same : IsSign sign.COMMA s → Same (s ∷ []) (λ t. t) (Then LabelAt (λ l. MoreNames (ns ++ l.name ∷ []))) (MoreNames ns) ends_brace Any Any
  names_same c = record {
    into = λ ys zs ms r. names_into ys zs ms c r;
    from = λ ys zs ms r e. (ms, refl, names_from ys zs ms c r e);
    up = λ a p. tt;
    down = λ a p. tt;
  }

  pub names_fails : (e : ParseFault) → IsSign sign.COMMA s → Fails LabelAt (λ _. anything) anything Any xs e → Yields (MoreNames ns) ends_brace Any tokens (Err e)
  names_fails e c f = moved (MoreNames ns) ends_brace Any tokens (s ∷ xs) (Err e) split
      (same_gives (names_same c) xs (Err e) (then_fails (names_joint (λ l. ns ++ l.name ∷ [])) xs e f))

  pub names_gives : (l : Label) (ys : Tokens) (r : Answer (List (List ℕ))) → IsSign sign.COMMA s → Found LabelAt (λ _. anything) xs l ys → Yields (MoreNames (ns ++ l.name ∷ [])) ends_brace Any ys r → Yields (MoreNames ns) ends_brace Any tokens r
  names_gives l ys r c g f = moved (MoreNames ns) ends_brace Any tokens (s ∷ xs) r split
      (same_gives (names_same c) xs r (then_gives (names_joint (λ l. ns ++ l.name ∷ [])) xs ys l r g f))

at_into : (xs zs : Tokens) (ns : List (List ℕ)) → Then LabelAt (λ l. MoreNames (l.name ∷ [])) xs ns zs → NamesAt xs ns zs
at_into xs zs ns (l, ys, n, m) = names_at n m

at_from : (xs zs : Tokens) (ns : List (List ℕ)) → NamesAt xs ns zs → Then LabelAt (λ l. MoreNames (l.name ∷ [])) xs ns zs
at_from xs zs ns (names_at n m) = (_, _, n, m)

at_alike : Alike (Then LabelAt (λ l. MoreNames (l.name ∷ []))) NamesAt ends_brace
at_alike = record { into = λ xs zs p r. at_into xs zs p r; from = λ xs zs p r e. at_from xs zs p r }

pub at_fails : (xs : Tokens) (e : ParseFault) → Fails LabelAt (λ _. anything) anything Any xs e → Yields NamesAt ends_brace Any xs (Err e)
at_fails xs e f = alike_gives Any at_alike xs (Err e) (then_fails (names_joint (λ l. l.name ∷ [])) xs e f)

pub at_gives : (xs ys : Tokens) (l : Label) (r : Answer (List (List ℕ))) → Found LabelAt (λ _. anything) xs l ys → Yields (MoreNames (l.name ∷ [])) ends_brace Any ys r → Yields NamesAt ends_brace Any xs r
at_gives xs ys l r g f = alike_gives Any at_alike xs r (then_gives (names_joint (λ l. l.name ∷ [])) xs ys l r g f)

-- ---- names behind a word

module _ (kind : Kind) (word : is_sign_kind sign.OPEN_BRACE kind ≡ false) (s : Token) (xs tokens : Tokens) (split : tokens ≡ s ∷ xs) where
  word_brace : (x : Token) → Is kind x → IsTrue (ends_brace x) → ⊥
  word_brace x h e = let c : is_sign_kind sign.OPEN_BRACE (kind_of_token x) ≡ false = ap (is_sign_kind sign.OPEN_BRACE) h ∙ word in cc

  none_only : (ys zs : Tokens) (ns : List (List ℕ)) → (Is kind s → ⊥) → Follows ends_brace (s ∷ xs) ys → MaybeNames kind ys ns zs → (ns ≡ []) × (zs ≡ ys)
  none_only ys zs ns other f no_names = (refl, refl)
  none_only ys zs ns other (inl e) (some_names {s = s'} h n m) = absurd (word_brace s' h e)
  none_only ys zs ns other (inr same) (some_names h n m) = absurd (other (subst (λ (x : Token). Is kind x) same h))

  pub names_none : (Is kind s → ⊥) → Found (MaybeNames kind) (λ _. ends_brace) tokens [] tokens
  names_none other = subst (λ (x : Tokens). Found (MaybeNames kind) (λ _. ends_brace) x [] x) (sym split)
      (found_nothing (MaybeNames kind) ends_brace (s ∷ xs) [] (λ ys. no_names) (λ ys zs ns f r e. none_only ys zs ns other f r))

  maybe_into : (ys zs : Tokens) (ns : List (List ℕ)) → Is kind s → NamesAt ys ns zs → MaybeNames kind (s ∷ ys) ns zs
  maybe_into ys zs ns h (names_at (label_at n) m) = some_names h n m

  maybe_from : (ys zs : Tokens) (ns : List (List ℕ)) → Is kind s → MaybeNames kind (s ∷ ys) ns zs → Ends ends_brace zs → NamesAt ys ns zs
  maybe_from ys zs ns h no_names e = absurd (word_brace s h e)
  maybe_from ys zs ns h (some_names h' n m) e = names_at (label_at n) m

  maybe_same : Is kind s → Same (s ∷ []) (λ t. t) NamesAt (MaybeNames kind) ends_brace Any Any
  maybe_same h = record {
    into = λ ys zs ns r. maybe_into ys zs ns h r;
    from = λ ys zs ns r e. (ns, refl, maybe_from ys zs ns h r e);
    up = λ a p. tt;
    down = λ a p. tt;
  }

  pub names_given : (r : Answer (List (List ℕ))) → Is kind s → Yields NamesAt ends_brace Any xs r → Yields (MaybeNames kind) ends_brace Any tokens r
  names_given r h g = moved (MaybeNames kind) ends_brace Any tokens (s ∷ xs) r split (same_gives (maybe_same h) xs r g)

implements_begins : (xs zs : Tokens) (ns : List (List ℕ)) → MaybeNames k.Implements xs ns zs → Ends ends_brace zs → Ends ends_super xs
implements_begins xs zs ns no_names h = brace_super xs h where
  brace_super : (xs : Tokens) → Ends ends_brace xs → Ends ends_super xs
  brace_super [] h = h
  brace_super (s ∷ xs) h = ap super_kind (sign_is sign.OPEN_BRACE s h)
implements_begins xs zs ns (some_names e n m) h = ap super_kind e

implements_part : Part (MaybeNames k.Implements) ends_brace ends_super Any
implements_part = record {
  starts = λ xs zs ns r h. implements_begins xs zs ns r h;
  sample = [];
  value = [];
  reads = λ zs h. no_names;
  holds = tt;
}

extends_begins : (xs zs : Tokens) (ns : List (List ℕ)) → MaybeNames k.Extends xs ns zs → Ends ends_brace zs → Ends anything xs
extends_begins xs zs ns no_names h = some_end ends_brace xs h
extends_begins xs zs ns (some_names e n m) h = refl

extends_part : Part (MaybeNames k.Extends) ends_brace anything Any
extends_part = record {
  starts = λ xs zs ns r h. extends_begins xs zs ns r h;
  sample = [];
  value = [];
  reads = λ zs h. no_names;
  holds = tt;
}

-- ---- interfaces

abbrev Faces4 : (((Unit {0} × Label) × List (List ℕ)) × Unit {0}) → Reads Decl
Faces4 e = Then (Promises []) (λ ms. Done (interface_of e.0.0.1 e.0.1 ms))

abbrev Faces3 : ((Unit {0} × Label) × List (List ℕ)) → Reads Decl
Faces3 e = Then (SignAt sign.OPEN_BRACE) (λ u. Faces4 (e, u))

abbrev Faces2 : (Unit {0} × Label) → Reads Decl
Faces2 e = Then (MaybeNames k.Extends) (λ ns. Faces3 (e, ns))

abbrev Faces1 : Unit {0} → Reads Decl
Faces1 e = Then LabelAt (λ l. Faces2 (e, l))

faces_into : (xs zs : Tokens) (d : Decl) → Faces1 tt xs d zs → InterfaceAt xs d zs
faces_into xs zs d (l, ys, n, (ns, ws, m, (u, vs, sign_at o, (ms, us, q, done)))) = interface_at n m o q

faces_from : (xs zs : Tokens) (d : Decl) → InterfaceAt xs d zs → Faces1 tt xs d zs
faces_from xs zs d (interface_at n m o q) = (_, _, n, (_, _, m, (_, _, sign_at o, (_, _, q, done))))

faces_alike : Alike (Faces1 tt) InterfaceAt anything
faces_alike = record { into = λ xs zs p r. faces_into xs zs p r; from = λ xs zs p r e. faces_from xs zs p r }

faces_tail5 : Tail (λ (e : (((Unit {0} × Label) × List (List ℕ)) × Unit {0}) × List Member). Done (interface_of e.0.0.0.1 e.0.0.1 e.1)) anything anything (Both (Both (Both (Both Any Any) Any) Any) SmallMembers) SmallDecl
faces_tail5 = finished (λ e. interface_of e.0.0.0.1 e.0.0.1 e.1) (λ e p. p.1) (λ e q. ((((tt, tt), tt), tt), q))

faces_tail4 : Tail Faces4 anything anything (Both (Both (Both Any Any) Any) Any) SmallDecl
faces_tail4 = linked (Both (Both (Both Any Any) Any) Any) promises_part faces_tail5 (fits_all _)

faces_tail3 : Tail Faces3 anything (is_sign_of sign.OPEN_BRACE) (Both (Both Any Any) Any) SmallDecl
faces_tail3 = linked (Both (Both Any Any) Any) (sign_part sign.OPEN_BRACE) faces_tail4 (fits_all _)

faces_tail2 : Tail Faces2 anything anything (Both Any Any) SmallDecl
faces_tail2 = linked (Both Any Any) extends_part faces_tail3 (λ s h. h)

pub faces_name_fails : (xs : Tokens) (e : ParseFault) → Fails LabelAt (λ _. anything) anything Any xs e → Yields InterfaceAt anything SmallDecl xs (Err e)
faces_name_fails xs e f = alike_gives SmallDecl faces_alike xs (Err e) (stops Any label_part faces_tail2 (fits_all _) tt tt xs e f)

module _ (xs ys : Tokens) (l : Label) (n : Found LabelAt (λ _. anything) xs l ys) where
  faces_behind1 : (r : Answer Decl) → Yields (Faces2 (tt, l)) anything SmallDecl ys r → Yields InterfaceAt anything SmallDecl xs r
  faces_behind1 r f = alike_gives SmallDecl faces_alike xs r (goes Any label_part faces_tail2 (fits_all _) tt tt xs ys l r n f)

  pub faces_names_fails : (e : ParseFault) → Fails (MaybeNames k.Extends) (λ _. ends_brace) ends_brace Any ys e → Yields InterfaceAt anything SmallDecl xs (Err e)
  faces_names_fails e f = faces_behind1 (Err e) (stops (Both Any Any) extends_part faces_tail3 (λ s h. h) (tt, l) (tt, tt) ys e f)

  module _ (ws : Tokens) (ns : List (List ℕ)) (m : Found (MaybeNames k.Extends) (λ _. ends_brace) ys ns ws) where
    faces_behind2 : (r : Answer Decl) → Yields (Faces3 ((tt, l), ns)) anything SmallDecl ws r → Yields InterfaceAt anything SmallDecl xs r
    faces_behind2 r f = faces_behind1 r (goes (Both Any Any) extends_part faces_tail3 (λ s h. h) (tt, l) (tt, tt) ys ws ns r m f)

    pub faces_brace_fails : (e : ParseFault) → Lacks sign.OPEN_BRACE ws e → Yields InterfaceAt anything SmallDecl xs (Err e)
    faces_brace_fails e h = faces_behind2 (Err e) (stops (Both (Both Any Any) Any) (sign_part sign.OPEN_BRACE) faces_tail4 (fits_all _) ((tt, l), ns) ((tt, tt), tt) ws e (sign_fails sign.OPEN_BRACE ws e h))

    module _ (vs : Tokens) (o : Takes sign.OPEN_BRACE ws vs) where
      faces_behind3 : (r : Answer Decl) → Yields (Faces4 (((tt, l), ns), tt)) anything SmallDecl vs r → Yields InterfaceAt anything SmallDecl xs r
      faces_behind3 r f = faces_behind2 r (goes (Both (Both Any Any) Any) (sign_part sign.OPEN_BRACE) faces_tail4 (fits_all _) ((tt, l), ns) ((tt, tt), tt) ws vs tt r (sign_found sign.OPEN_BRACE ws vs o) f)

      pub faces_body_fails : (e : ParseFault) → Fails (Promises []) (λ _. anything) anything SmallMembers vs e → Yields InterfaceAt anything SmallDecl xs (Err e)
      faces_body_fails e f = faces_behind3 (Err e) (stops (Both (Both (Both Any Any) Any) Any) promises_part faces_tail5 (fits_all _) (((tt, l), ns), tt) (((tt, tt), tt), tt) vs e f)

      pub faces_found : (ms : List Member) (zs : Bor Tokens) → Found (Promises []) (λ _. anything) vs ms zs.now → SmallMembers ms → Yields InterfaceAt anything SmallDecl xs (Ok (interface_of l ns ms, zs))
      faces_found ms zs b small = faces_behind3 (Ok (interface_of l ns ms, zs))
          (goes (Both (Both (Both Any Any) Any) Any) promises_part faces_tail5 (fits_all _) (((tt, l), ns), tt) (((tt, tt), tt), tt) vs zs.now ms (Ok (interface_of l ns ms, zs)) b
          (ended anything SmallDecl (interface_of l ns ms) zs small))

-- ---- classes

module _ (abstracts finals : Bool) where
  abbrev Class6 : (((((Unit {0} × Unit {0}) × Label) × Option (List ℕ)) × List (List ℕ)) × Unit {0}) → Reads Decl
  Class6 e = Then (Members []) (λ ms. Done (class_of abstracts finals e.0.0.0.1 e.0.0.1 e.0.1 ms))

  abbrev Class5 : ((((Unit {0} × Unit {0}) × Label) × Option (List ℕ)) × List (List ℕ)) → Reads Decl
  Class5 e = Then (SignAt sign.OPEN_BRACE) (λ u. Class6 (e, u))

  abbrev Class4 : (((Unit {0} × Unit {0}) × Label) × Option (List ℕ)) → Reads Decl
  Class4 e = Then (MaybeNames k.Implements) (λ ns. Class5 (e, ns))

  abbrev Class3 : ((Unit {0} × Unit {0}) × Label) → Reads Decl
  Class3 e = Then MaybeSuper (λ t. Class4 (e, t))

  abbrev Class2 : (Unit {0} × Unit {0}) → Reads Decl
  Class2 e = Then LabelAt (λ l. Class3 (e, l))

  abbrev Class1 : Unit {0} → Reads Decl
  Class1 e = Then ClassWord (λ u. Class2 (e, u))

  class_into : (xs zs : Tokens) (d : Decl) → Class1 tt xs d zs → ClassAt abstracts finals xs d zs
  class_into xs zs d (v, ts, class_word h, (l, ys, n, (t, rs, p, (ns, ws, m, (u, vs, sign_at o, (ms, us, q, done)))))) = class_at h n p m o q

  class_from : (xs zs : Tokens) (d : Decl) → ClassAt abstracts finals xs d zs → Class1 tt xs d zs
  class_from xs zs d (class_at h n p m o q) = (_, _, class_word h, (_, _, n, (_, _, p, (_, _, m, (_, _, sign_at o, (_, _, q, done))))))

  class_alike : Alike (Class1 tt) (ClassAt abstracts finals) anything
  class_alike = record { into = λ xs zs p r. class_into xs zs p r; from = λ xs zs p r e. class_from xs zs p r }

  abbrev On1 : Unit {0} × Unit {0} → Type 0
  On1 = Both Any Any

  abbrev On2 : (Unit {0} × Unit {0}) × Label → Type 0
  On2 = Both On1 Any

  abbrev On3 : ((Unit {0} × Unit {0}) × Label) × Option (List ℕ) → Type 0
  On3 = Both On2 Any

  abbrev On4 : (((Unit {0} × Unit {0}) × Label) × Option (List ℕ)) × List (List ℕ) → Type 0
  On4 = Both On3 Any

  abbrev On5 : ((((Unit {0} × Unit {0}) × Label) × Option (List ℕ)) × List (List ℕ)) × Unit {0} → Type 0
  On5 = Both On4 Any

  class_tail7 : Tail (λ (e : (((((Unit {0} × Unit {0}) × Label) × Option (List ℕ)) × List (List ℕ)) × Unit {0}) × List Member). Done (class_of abstracts finals e.0.0.0.0.1 e.0.0.0.1 e.0.0.1 e.1)) anything anything (Both On5 SmallMembers) SmallDecl
  class_tail7 = finished (λ e. class_of abstracts finals e.0.0.0.0.1 e.0.0.0.1 e.0.0.1 e.1) (λ e p. p.1) (λ e q. ((((((tt, tt), tt), tt), tt), tt), q))

  class_tail6 : Tail Class6 anything anything On5 SmallDecl
  class_tail6 = linked On5 members_part class_tail7 (fits_all _)

  class_tail5 : Tail Class5 anything (is_sign_of sign.OPEN_BRACE) On4 SmallDecl
  class_tail5 = linked On4 (sign_part sign.OPEN_BRACE) class_tail6 (fits_all _)

  class_tail4 : Tail Class4 anything ends_super On3 SmallDecl
  class_tail4 = linked On3 implements_part class_tail5 (λ s h. h)

  class_tail3 : Tail Class3 anything anything On2 SmallDecl
  class_tail3 = linked On2 super_part class_tail4 (λ s h. h)

  class_tail2 : Tail Class2 anything head_name On1 SmallDecl
  class_tail2 = linked On1 label_part class_tail3 (fits_all _)

  pub class_word_fails : (xs : Tokens) (e : ParseFault) → LacksWord xs e → Yields (ClassAt abstracts finals) anything SmallDecl xs (Err e)
  class_word_fails xs e f = alike_gives SmallDecl class_alike xs (Err e) (stops Any word_part class_tail2 (fits_all _) tt tt xs e (word_fails xs e f))

  module _ (xs vs : Tokens) (w : TakesWord xs vs) where
    class_behind0 : (r : Answer Decl) → Yields (Class2 (tt, tt)) anything SmallDecl vs r → Yields (ClassAt abstracts finals) anything SmallDecl xs r
    class_behind0 r f = alike_gives SmallDecl class_alike xs r (goes Any word_part class_tail2 (fits_all _) tt tt xs vs tt r (word_found xs vs w) f)

    pub class_name_fails : (e : ParseFault) → Fails LabelAt (λ _. anything) anything Any vs e → Yields (ClassAt abstracts finals) anything SmallDecl xs (Err e)
    class_name_fails e f = class_behind0 (Err e) (stops On1 label_part class_tail3 (fits_all _) (tt, tt) (tt, tt) vs e f)

    module _ (ys : Tokens) (l : Label) (n : Found LabelAt (λ _. anything) vs l ys) where
      class_behind1 : (r : Answer Decl) → Yields (Class3 ((tt, tt), l)) anything SmallDecl ys r → Yields (ClassAt abstracts finals) anything SmallDecl xs r
      class_behind1 r f = class_behind0 r (goes On1 label_part class_tail3 (fits_all _) (tt, tt) (tt, tt) vs ys l r n f)

      pub class_super_fails : (e : ParseFault) → Fails MaybeSuper (λ _. ends_super) ends_super Any ys e → Yields (ClassAt abstracts finals) anything SmallDecl xs (Err e)
      class_super_fails e f = class_behind1 (Err e) (stops On2 super_part class_tail4 (λ s h. h) ((tt, tt), l) ((tt, tt), tt) ys e f)

      module _ (ws : Tokens) (t : Option (List ℕ)) (p : Found MaybeSuper (λ _. ends_super) ys t ws) where
        class_behind2 : (r : Answer Decl) → Yields (Class4 (((tt, tt), l), t)) anything SmallDecl ws r → Yields (ClassAt abstracts finals) anything SmallDecl xs r
        class_behind2 r f = class_behind1 r (goes On2 super_part class_tail4 (λ s h. h) ((tt, tt), l) ((tt, tt), tt) ys ws t r p f)

        pub class_names_fails : (e : ParseFault) → Fails (MaybeNames k.Implements) (λ _. ends_brace) ends_brace Any ws e → Yields (ClassAt abstracts finals) anything SmallDecl xs (Err e)
        class_names_fails e f = class_behind2 (Err e) (stops On3 implements_part class_tail5 (λ s h. h) (((tt, tt), l), t) (((tt, tt), tt), tt) ws e f)

        module _ (us : Tokens) (ns : List (List ℕ)) (m : Found (MaybeNames k.Implements) (λ _. ends_brace) ws ns us) where
          class_behind3 : (r : Answer Decl) → Yields (Class5 ((((tt, tt), l), t), ns)) anything SmallDecl us r → Yields (ClassAt abstracts finals) anything SmallDecl xs r
          class_behind3 r f = class_behind2 r (goes On3 implements_part class_tail5 (λ s h. h) (((tt, tt), l), t) (((tt, tt), tt), tt) ws us ns r m f)

          pub class_brace_fails : (e : ParseFault) → Lacks sign.OPEN_BRACE us e → Yields (ClassAt abstracts finals) anything SmallDecl xs (Err e)
          class_brace_fails e h = class_behind3 (Err e) (stops On4 (sign_part sign.OPEN_BRACE) class_tail6 (fits_all _) ((((tt, tt), l), t), ns) ((((tt, tt), tt), tt), tt) us e (sign_fails sign.OPEN_BRACE us e h))

          module _ (rs : Tokens) (o : Takes sign.OPEN_BRACE us rs) where
            class_behind4 : (r : Answer Decl) → Yields (Class6 (((((tt, tt), l), t), ns), tt)) anything SmallDecl rs r → Yields (ClassAt abstracts finals) anything SmallDecl xs r
            class_behind4 r f = class_behind3 r (goes On4 (sign_part sign.OPEN_BRACE) class_tail6 (fits_all _) ((((tt, tt), l), t), ns) ((((tt, tt), tt), tt), tt) us rs tt r (sign_found sign.OPEN_BRACE us rs o) f)

            pub class_body_fails : (e : ParseFault) → Fails (Members []) (λ _. anything) anything SmallMembers rs e → Yields (ClassAt abstracts finals) anything SmallDecl xs (Err e)
            class_body_fails e f = class_behind4 (Err e) (stops On5 members_part class_tail7 (fits_all _) (((((tt, tt), l), t), ns), tt) (((((tt, tt), tt), tt), tt), tt) rs e f)

            pub class_found : (ms : List Member) (zs : Bor Tokens) → Found (Members []) (λ _. anything) rs ms zs.now → SmallMembers ms → Yields (ClassAt abstracts finals) anything SmallDecl xs (Ok (class_of abstracts finals l t ns ms, zs))
            class_found ms zs b small = class_behind4 (Ok (class_of abstracts finals l t ns ms, zs))
                (goes On5 members_part class_tail7 (fits_all _) (((((tt, tt), l), t), ns), tt) (((((tt, tt), tt), tt), tt), tt) rs zs.now ms (Ok (class_of abstracts finals l t ns ms, zs)) b
                (ended anything SmallDecl (class_of abstracts finals l t ns ms) zs small))

-- ---- declarations without `public` in front

class_head : {s : Token} {abstracts finals : Bool} {d : Decl} {xs zs : Tokens} → ClassAt abstracts finals (s ∷ xs) d zs → Is k.Class s
class_head (class_at h n p m o q) = h

interface_from : (s : Token) (xs zs : Tokens) (d : Decl) → Is k.Interface s → Declared (s ∷ xs) d zs → InterfaceAt xs d zs
interface_from s xs zs d h (of_class no_modifier c) = let i = class_head c in cc
interface_from s xs zs d h (of_class (abstract_modifier i) c) = cc
interface_from s xs zs d h (of_class (final_modifier i) c) = cc
interface_from s xs zs d h (of_interface i c) = c

abstract_from : (s : Token) (xs zs : Tokens) (d : Decl) → Is k.Abstract s → Declared (s ∷ xs) d zs → ClassAt true false xs d zs
abstract_from s xs zs d h (of_class no_modifier c) = let i = class_head c in cc
abstract_from s xs zs d h (of_class (abstract_modifier i) c) = c
abstract_from s xs zs d h (of_class (final_modifier i) c) = cc
abstract_from s xs zs d h (of_interface i c) = cc

final_from : (s : Token) (xs zs : Tokens) (d : Decl) → Is k.Final s → Declared (s ∷ xs) d zs → ClassAt false true xs d zs
final_from s xs zs d h (of_class no_modifier c) = let i = class_head c in cc
final_from s xs zs d h (of_class (abstract_modifier i) c) = cc
final_from s xs zs d h (of_class (final_modifier i) c) = c
final_from s xs zs d h (of_interface i c) = cc

-- the token is none of those that begin another declaration
pub record PlainClass (s : Token) : Type 0 where
  pub no_interface : Is k.Interface s → ⊥
  pub no_abstract : Is k.Abstract s → ⊥
  pub no_final : Is k.Final s → ⊥

plain_class : (s : Token) (xs zs : Tokens) (d : Decl) → PlainClass s → Declared (s ∷ xs) d zs → ClassAt false false (s ∷ xs) d zs
plain_class s xs zs d p (of_class no_modifier c) = c
plain_class s xs zs d p (of_class (abstract_modifier i) c) = absurd (p.no_abstract i)
plain_class s xs zs d p (of_class (final_modifier i) c) = absurd (p.no_final i)
plain_class s xs zs d p (of_interface i c) = absurd (p.no_interface i)

module _ (s : Token) (xs tokens : Tokens) (split : tokens ≡ s ∷ xs) where
  pub interface_gives : (r : Answer Decl) → Is k.Interface s → Yields InterfaceAt anything SmallDecl xs r → Yields Declared anything SmallDecl tokens r
  interface_gives r h g = moved Declared anything SmallDecl tokens (s ∷ xs) r split (same_gives same xs r g) where
    same : Same (s ∷ []) (λ t. t) InterfaceAt Declared anything SmallDecl SmallDecl
    same = record {
      into = λ ys zs d q. of_interface h q;
      from = λ ys zs d q e. (d, refl, interface_from s ys zs d h q);
      up = λ a p. p;
      down = λ a p. p;
    }

  pub abstract_gives : (r : Answer Decl) → Is k.Abstract s → Yields (ClassAt true false) anything SmallDecl xs r → Yields Declared anything SmallDecl tokens r
  abstract_gives r h g = moved Declared anything SmallDecl tokens (s ∷ xs) r split (same_gives same xs r g) where
    same : Same (s ∷ []) (λ t. t) (ClassAt true false) Declared anything SmallDecl SmallDecl
    same = record {
      into = λ ys zs d q. of_class (abstract_modifier h) q;
      from = λ ys zs d q e. (d, refl, abstract_from s ys zs d h q);
      up = λ a p. p;
      down = λ a p. p;
    }

  pub final_gives : (r : Answer Decl) → Is k.Final s → Yields (ClassAt false true) anything SmallDecl xs r → Yields Declared anything SmallDecl tokens r
  final_gives r h g = moved Declared anything SmallDecl tokens (s ∷ xs) r split (same_gives same xs r g) where
    same : Same (s ∷ []) (λ t. t) (ClassAt false true) Declared anything SmallDecl SmallDecl
    same = record {
      into = λ ys zs d q. of_class (final_modifier h) q;
      from = λ ys zs d q e. (d, refl, final_from s ys zs d h q);
      up = λ a p. p;
      down = λ a p. p;
    }

  pub class_gives : (r : Answer Decl) → PlainClass s → Yields (ClassAt false false) anything SmallDecl tokens r → Yields Declared anything SmallDecl tokens r
  class_gives r p g = moved Declared anything SmallDecl tokens (s ∷ xs) r split
      (alt_gives SmallDecl alt xs r (subst (λ (x : Tokens). Yields (ClassAt false false) anything SmallDecl x r) split g)) where
        alt : Alt s (ClassAt false false) Declared anything
        alt = record {
          into = λ ys zs d q. of_class no_modifier q;
          from = λ ys zs d q e. plain_class s ys zs d p q;
          bad = a_comma ∷ [];
          bad_ends = refl;
          solid = λ d q. let h = class_head q in cc;
        }

-- ---- declarations

abbrev declared_kind : Kind → Bool
declared_kind k.Class = true
declared_kind k.Interface = true
declared_kind k.Abstract = true
declared_kind k.Final = true
declared_kind _ = false

declared_head : {s : Token} {d : Decl} {xs zs : Tokens} → Declared (s ∷ xs) d zs → IsTrue (declared_kind (kind_of_token s))
declared_head (of_class no_modifier c) = ap declared_kind (class_head c)
declared_head (of_class (abstract_modifier h) c) = ap declared_kind h
declared_head (of_class (final_modifier h) c) = ap declared_kind h
declared_head (of_interface h c) = ap declared_kind h

declared_public : (s : Token) (xs zs : Tokens) (d : Decl) → Is k.Public s → Declared (s ∷ xs) d zs → ⊥
declared_public s xs zs d h r = let a = declared_head r in let c = ap declared_kind h in cc

decl_into : (xs zs : Tokens) (d : Decl) → Optional k.Public Declared xs d zs → Declaration xs d zs
decl_into xs zs d (kept (of_class m (class_at h (label_at n) p i o q))) = class_decl absent m h n p i o q
decl_into xs zs d (kept (of_interface h (interface_at (label_at n) i o q))) = interface_decl absent h n i o q
decl_into xs zs d (skipped a (of_class m (class_at h (label_at n) p i o q))) = class_decl (present a) m h n p i o q
decl_into xs zs d (skipped a (of_interface h (interface_at (label_at n) i o q))) = interface_decl (present a) h n i o q

decl_from : (xs zs : Tokens) (d : Decl) → Declaration xs d zs → Optional k.Public Declared xs d zs
decl_from xs zs d (class_decl absent m h n p i o q) = kept (of_class m (class_at h (label_at n) p i o q))
decl_from xs zs d (class_decl (present a) m h n p i o q) = skipped a (of_class m (class_at h (label_at n) p i o q))
decl_from xs zs d (interface_decl absent h n i o q) = kept (of_interface h (interface_at (label_at n) i o q))
decl_from xs zs d (interface_decl (present a) h n i o q) = skipped a (of_interface h (interface_at (label_at n) i o q))

decl_alike : Alike (Optional k.Public Declared) Declaration anything
decl_alike = record { into = λ xs zs p r. decl_into xs zs p r; from = λ xs zs p r e. decl_from xs zs p r }

pub decl_gives : (xs ys : Tokens) (r : Answer Decl) → Skips k.Public xs ys → Yields Declared anything SmallDecl ys r → Yields Declaration anything SmallDecl xs r
decl_gives xs ys r a g = alike_gives SmallDecl decl_alike xs r
    (skips_gives k.Public Declared anything SmallDecl declared_public (a_comma ∷ []) refl (λ d q. let h = declared_head q in cc) xs ys r a g)

-- no declaration begins with the end of the text
pub decl_no_end : (s : Token) (xs zs : Tokens) (d : Decl) → Is k.End s → Declaration (s ∷ xs) d zs → ⊥
decl_no_end s xs zs d e r = optional_no_end (decl_from (s ∷ xs) zs d r) where
  optional_no_end : Optional k.Public Declared (s ∷ xs) d zs → ⊥
  optional_no_end (kept q) = let a = declared_head q in let c = ap declared_kind e in cc
  optional_no_end (skipped h q) = cc

declared_some : {d : Decl} {xs zs : Tokens} → Declared xs d zs → Ends anything xs
declared_some (of_class no_modifier (class_at h n p m o q)) = refl
declared_some (of_class (abstract_modifier h) c) = refl
declared_some (of_class (final_modifier h) c) = refl
declared_some (of_interface h c) = refl

optional_some : {d : Decl} {xs zs : Tokens} → Optional k.Public Declared xs d zs → Ends anything xs
optional_some (kept q) = declared_some q
optional_some (skipped h q) = refl

pub decl_some : (xs zs : Tokens) (d : Decl) → Declaration xs d zs → Ends anything xs
decl_some xs zs d r = optional_some (decl_from xs zs d r)

optional_comma : {d : Decl} {zs : Tokens} → Optional k.Public Declared (a_comma ∷ []) d zs → ⊥
optional_comma (kept q) = let a = declared_head q in cc
optional_comma (skipped h q) = cc

-- a declaration takes some tokens
pub decl_shorter : (xs zs : Tokens) (d : Decl) → Found Declaration (λ _. anything) xs d zs → length zs < length xs
decl_shorter xs zs d g = found_shorter Declaration anything (a_comma ∷ []) xs zs d refl (λ q. optional_comma (decl_from (a_comma ∷ []) (a_comma ∷ []) d q)) g
