-- Calls of `super`, what is created, and steps, by the tokens that were gone over.
use Rattle.std.proofs.Common.{◌≡◌, ℕ, zero, suc, ◌+◌, ◌-◌, ◌<◌, ◌≤◌, max, Bool, true, false, ◌||◌, IsTrue, List, [], ◌∷◌, ◌++◌, Option, Some, None, Result, Ok, Err, refl, sym, ap, ◌∙◌, subst, inl, inr, ◌⊎◌, arith}
use Rattle.std.specs.Borrow.{Bor}
use Rattle.jp_pred.specs.declared.ty.Ty.{Ty}
use Rattle.jp_pred.specs.declared.ty.Ty.TheVariants as ty
use Rattle.jp_ast.specs.declared.token.Place.{Place}
use Rattle.jp_ast.specs.declared.token.Token.{Token}
use Rattle.jp_ast.specs.declared.expr.Expr.{Expr}
use Rattle.jp_ast.specs.declared.sign.TheConstants as sign
use Rattle.jp_grammar.specs.declared.kind.Kind.TheVariants as k
use Rattle.jp_grammar.specs.declared.fault.ParseFault.{ParseFault}
use Rattle.jp_grammar.specs.declared.fault.ParseFault.TheVariants.{TooDeep}
use Rattle.jp_grammar.specs.Kinds.{Is, IsSign, IsName, Tokens, kind_of_token}
use Rattle.jp_grammar.specs.Trees.{super_at, new_at, array_at, named_at}
use Rattle.jp_grammar.specs.Expressions.{Expression, Primary, Postfix, Steps, Named, Bracketed, Args, MoreArgs, Unary, IsElement}
use Rattle.jp_grammar.specs.Reading.{Found, FailsWithin, Gives, Refused, RefusedName, Takes, Lacks}
use Rattle.jp_grammar.specs.Behind.{begins_expr, ends_level, ends_full, ends_primary}
use Rattle.jp_grammar.specs.Depth.{depth, depth_of_all, depth_of_option}
use Rattle.jp_grammar.proofs.Depths.{depth_super, depth_new, depth_array, depth_all_push}
use Rattle.jp_grammar.proofs.Names.{ReadAll}
use Rattle.jp_grammar.proofs.Prefixes.{unary_wrong}
use Rattle.jp_grammar.proofs.Words.{name_token}
use Rattle.jp_parse_expr.specs.Ahead.{is_cast}
use Rattle.jp_parse_expr.specs.Parts.{Read, Continues, IsStep}
use Rattle.jp_parse_expr.proofs.Created.{super_wrong_dot, super_wrong_name, super_wrong_paren, super_fails, super_found, new_wrong, class_wrong, class_full, object_fails, object_gives, simple_full, simple_wrong, array_fails, array_gives, array_wrong}
use Rattle.jp_parse_expr.proofs.Rules.{name_fails, member_continues, list_gives, first_arg_gives}
use Rattle.jp_parse_expr.proofs.Wholes.{cast_name, cast_deep}

-- ---- `super`

module _ (most : ℕ) (room : 1 ≤ most) (s : Token) (h : Is k.Super s) (tokens ys : Tokens) (dot : Takes sign.DOT tokens ys) where
  pub word_wrong : (c : Token) (zs : Tokens) (e : ParseFault) → ys ≡ c ∷ zs → RefusedName c e → FailsWithin Primary depth ends_primary most (s ∷ tokens) e
  word_wrong c zs e split r =
      let all : tokens ≡ dot.first ∷ c ∷ zs = dot.split ∙ ap (λ (x : Tokens). dot.first ∷ x) split in
      name_fails c r (λ other w. subst (λ (x : Tokens). FailsWithin Primary depth ends_primary most (s ∷ x) e) (sym all) (super_wrong_name most room s h dot.first dot.sign_is c zs e other w))

  module _ (c : Token) (zs : Tokens) (split : ys ≡ c ∷ zs) (word : List ℕ) (n : IsName word c) where
    all : tokens ≡ dot.first ∷ c ∷ zs
    all = dot.split ∙ ap (λ (x : Tokens). dot.first ∷ x) split

    pub paren_wrong : (e : ParseFault) → Lacks sign.OPEN_PAREN zs e → FailsWithin Primary depth ends_primary most (s ∷ tokens) e
    paren_wrong e l = subst (λ (x : Tokens). FailsWithin Primary depth ends_primary most (s ∷ x) e) (sym all) (super_wrong_paren most room s h dot.first dot.sign_is c word n zs e l)

    module _ (ws : Tokens) (paren : Takes sign.OPEN_PAREN zs ws) where
      four : tokens ≡ dot.first ∷ c ∷ paren.first ∷ ws
      four = all ∙ ap (λ (x : Tokens). dot.first ∷ c ∷ x) paren.split

      pub super_falls : (e : ParseFault) → FailsWithin Args depth_of_all ends_primary (most - 1) ws e → FailsWithin Primary depth ends_primary most (s ∷ tokens) e
      super_falls e f = subst (λ (x : Tokens). FailsWithin Primary depth ends_primary most (s ∷ x) e) (sym four) (super_fails most room s h dot.first dot.sign_is c word n paren.first ws e paren.sign_is f)

      pub super_gives : (t : Expr) (ts : List Expr) (d : ℕ) (vs : Bor Tokens) → Found Args (λ _. ends_primary) ws ts vs.now → d ≡ depth_of_all ts → d ≤ most - 1 → t ≡ super_at s.place word ts → Gives Primary depth ends_primary most (s ∷ tokens) (Ok (t, d + 1, vs))
      super_gives t ts d vs g da small same =
          let m = depth_super s.place word ts in
          let deep : depth t ≡ depth (super_at s.place word ts) = ap depth same in (
            subst (λ (x : Tokens). Found Primary (λ _. ends_primary) (s ∷ x) t vs.now) (sym four) (subst (λ (u : Expr). Found Primary (λ _. ends_primary) (s ∷ dot.first ∷ c ∷ paren.first ∷ ws) u vs.now) (sym same) (super_found most room s h dot.first dot.sign_is c word n paren.first ws vs.now ts paren.sign_is g)),
            omega (arith, deep, m, da),
            omega (arith, small, room),
          )

-- ---- `new`

module _ (most : ℕ) (room : 1 ≤ most) (s : Token) (h : Is k.New s) where
  pub type_wrong : (next : Token) (xs tokens : Tokens) (e : ParseFault) → tokens ≡ next ∷ xs → (Is k.Name next → ⊥) → (Is k.Int next → ⊥) → (Is k.Boolean next → ⊥) → Refused next e → FailsWithin Postfix depth (ends_level 0) most (s ∷ tokens) e
  type_wrong next xs tokens e split n i b r = subst (λ (x : Tokens). FailsWithin Postfix depth (ends_level 0) most (s ∷ x) e) (sym split) (new_wrong most room s h next xs e n i b r)

  module _ (c : Token) (next : Token) (xs tokens : Tokens) (split : tokens ≡ next ∷ xs) where
    -- the same behind the first three tokens and behind two of them
    pub third : (r : Read) → Gives Postfix depth (ends_level 0) most (s ∷ c ∷ next ∷ xs) r → Gives Postfix depth (ends_level 0) most (s ∷ c ∷ tokens) r
    third r f = subst (λ (x : Tokens). Gives Postfix depth (ends_level 0) most (s ∷ c ∷ x) r) (sym split) f

    module _ (word : List ℕ) (n : IsName word c) where
      pub class_sign_wrong : (e : ParseFault) → (IsSign sign.OPEN_PAREN next → ⊥) → (IsSign sign.OPEN_BRACKET next → ⊥) → Refused next e → FailsWithin Postfix depth (ends_level 0) most (s ∷ c ∷ tokens) e
      class_sign_wrong e p b r = third (Err e) (class_wrong most room s h c word n next xs e p b r)

      pub class_deep : IsSign sign.OPEN_BRACKET next → most ≡ 1 → FailsWithin Postfix depth (ends_level 0) most (s ∷ c ∷ tokens) (TooDeep next.place)
      class_deep b one = third (Err (TooDeep next.place)) (class_full most room s h c word n next xs b one)

      pub object_falls : (e : ParseFault) → IsSign sign.OPEN_PAREN next → FailsWithin Args depth_of_all ends_primary (most - 1) xs e → FailsWithin Postfix depth (ends_level 0) most (s ∷ c ∷ tokens) e
      object_falls e j f = third (Err e) (object_fails most room s h c word n next xs e j f)

      pub object_stepped : (t : Expr) (ys : Tokens) (ts : List Expr) (r : Read) → IsSign sign.OPEN_PAREN next → Found Args (λ _. ends_primary) xs ts ys → t ≡ new_at s.place word ts → Gives (Steps s.place t) depth (ends_level 0) most ys r →
          Gives Postfix depth (ends_level 0) most (s ∷ c ∷ tokens) r
      object_stepped t ys ts r j g same f = third r (object_gives most room s h c word n next xs ys ts r j g (subst (λ (x : Expr). Gives (Steps s.place x) depth (ends_level 0) most ys r) same f))

    pub simple_sign_wrong : (elem : Ty) (e : ParseFault) → IsElement elem c → (Is k.Name c → ⊥) → 2 ≤ most → (IsSign sign.OPEN_BRACKET next → ⊥) → Refused next e → FailsWithin Postfix depth (ends_level 0) most (s ∷ c ∷ tokens) e
    simple_sign_wrong elem e i other two b r = third (Err e) (simple_wrong most room s h c elem i next xs e other two b r)

  module _ (c o : Token) (elem : Ty) (i : IsElement elem c) (j : IsSign sign.OPEN_BRACKET o) (two : 2 ≤ most) (xs ys : Tokens) (z : Expr) (g : Found Bracketed (λ _. ends_primary) xs z ys) (next : Token) (zs : Tokens) (split : ys ≡ next ∷ zs) where
    moved : Found Bracketed (λ _. ends_primary) xs z (next ∷ zs)
    moved = subst (λ (x : Tokens). Found Bracketed (λ _. ends_primary) xs z x) split g

    pub size_wrong : (e : ParseFault) → depth z + 1 ≤ most → IsSign sign.OPEN_BRACKET next → Refused next e → FailsWithin Postfix depth (ends_level 0) most (s ∷ c ∷ o ∷ xs) e
    size_wrong e small b r = array_wrong most room s h c elem i o j two xs zs z next e moved small b r

    pub array_stepped : (t : Expr) (r : Read) → (IsSign sign.OPEN_BRACKET next → ⊥) → t ≡ array_at s.place elem z → Gives (Steps s.place t) depth (ends_level 0) most ys r → Gives Postfix depth (ends_level 0) most (s ∷ c ∷ o ∷ xs) r
    array_stepped t r b same f =
        array_gives most room s h c elem i o j two xs zs z next r moved b
        (subst (λ (x : Tokens). Gives (Steps s.place (array_at s.place elem z)) depth (ends_level 0) most x r) split (subst (λ (x : Expr). Gives (Steps s.place x) depth (ends_level 0) most ys r) same f))

-- ---- steps

pub named_continues : (at : Place) (most : ℕ) (l : Expr) (s c : Token) (xs tokens : Tokens) (r : Read) → tokens ≡ c ∷ xs → IsSign sign.DOT s → Gives (Named at (Some l)) depth ends_primary most (c ∷ xs) r →
    Continues (Steps at) (ends_level 0) most l (s ∷ tokens) r
named_continues at most l s c xs tokens r split h f = subst (λ (x : Tokens). Continues (Steps at) (ends_level 0) most l (s ∷ x) r) (sym split) (member_continues at most l s (c ∷ xs) r h f)

-- ---- operands

pub sign_wrong : (most : ℕ) (s : Token) (xs tokens : Tokens) (e : ParseFault) → tokens ≡ s ∷ xs → (IsTrue (begins_expr (kind_of_token s)) → ⊥) → Refused s e → 1 ≤ most → FailsWithin Unary depth (ends_level 0) most tokens e
sign_wrong most s xs tokens e split other r room = subst (λ (x : Tokens). FailsWithin Unary depth (ends_level 0) most x e) (sym split) (unary_wrong most s xs e other r room)

module _ (most : ℕ) (s : Token) (xs : Tokens) (h : IsSign sign.OPEN_PAREN s) (cast : is_cast xs ≡ true) (c : Token) (ys : Tokens) (split : xs ≡ c ∷ ys) where
  -- the cast's class is a name
  pub class_named : (e : ParseFault) → RefusedName c e → FailsWithin Unary depth (ends_level 0) most (s ∷ xs) e
  class_named e r = name_fails c r (λ other w. absurd (other (cast_name most s xs h cast c ys split)))

  pub cast_too_deep : (p y : Token) (zs ws : Tokens) → ys ≡ p ∷ zs → zs ≡ y ∷ ws → most ≡ 1 → FailsWithin Unary depth (ends_level 0) most (s ∷ xs) (TooDeep y.place)
  cast_too_deep p y zs ws a b one =
      let w = name_token c (cast_name most s xs h cast c ys split) in
      cast_deep most s xs h cast c p zs (split ∙ ap (λ (x : Tokens). c ∷ x) a) y ws w.0 b w.1 one

-- ---- arguments

pub list_pushed : (ts us : List Expr) (most : ℕ) (p : Token) (xs tokens ys : Tokens) (a : Expr) (r : ReadAll) → tokens ≡ p ∷ xs → us ≡ ts ++ a ∷ [] → IsSign sign.COMMA p → depth_of_all ts ≤ most → Found Expression (λ _. ends_full) xs a ys →
    Gives (MoreArgs us) depth_of_all ends_primary most ys r → Gives (MoreArgs ts) depth_of_all ends_primary most tokens r
list_pushed ts us most p xs tokens ys a r split pushed h small g f =
    list_gives ts most p xs tokens split ys a r h small g (subst (λ (x : List Expr). Gives (MoreArgs x) depth_of_all ends_primary most ys r) pushed f)

pub list_begun : (most : ℕ) (p : Token) (xs tokens : Tokens) → tokens ≡ p ∷ xs → (ys : Tokens) (a : Expr) (us : List Expr) (r : ReadAll) → us ≡ [] ++ a ∷ [] → (IsSign sign.CLOSE_PAREN p → ⊥) → Found Expression (λ _. ends_full) tokens a ys →
    Gives (MoreArgs us) depth_of_all ends_primary most ys r → Gives Args depth_of_all ends_primary most tokens r
list_begun most p xs tokens split ys a us r pushed other g f =
    first_arg_gives most p xs tokens split ys a r other g (subst (λ (x : List Expr). Gives (MoreArgs x) depth_of_all ends_primary most ys r) pushed f)

pub depth_pushed : (ts us : List Expr) (a : Expr) (d e g : ℕ) → g ≡ max d e → us ≡ ts ++ a ∷ [] → d ≡ depth_of_all ts → e ≡ depth a → g ≡ depth_of_all us
depth_pushed ts us a d e g greater pushed dt da = let m = depth_all_push ts a in let n : depth_of_all us ≡ depth_of_all (ts ++ a ∷ []) = ap depth_of_all pushed in omega (arith, m, n, dt, da, greater)
