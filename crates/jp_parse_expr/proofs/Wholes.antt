-- Levels, expressions and operands, by what is read of them so far.
use Rattle.std.proofs.Common.{◌≡◌, ℕ, zero, suc, ◌+◌, ◌-◌, ◌<◌, ◌≤◌, max, Bool, true, false, ◌||◌, IsTrue, List, [], ◌∷◌, ◌++◌, length, drop, Option, Some, None, Result, Ok, Err, refl, sym, ap, ◌∙◌, subst, inl, inr, ◌⊎◌, add-one, arith}
use Rattle.std.specs.Borrow.{Bor}
use Rattle.jp_ast.specs.declared.token.Place.{Place}
use Rattle.jp_ast.specs.declared.token.Token.{Token}
use Rattle.jp_ast.specs.declared.expr.Expr.{Expr}
use Rattle.jp_ast.specs.declared.sign.TheConstants as sign
use Rattle.jp_grammar.specs.declared.kind.Kind.TheVariants as k
use Rattle.jp_grammar.specs.declared.fault.ParseFault.{ParseFault}
use Rattle.jp_grammar.specs.declared.fault.ParseFault.TheVariants.{TooDeep, OutOfMemory}
use Rattle.jp_grammar.specs.Kinds.{Is, IsSign, IsName, Tokens, place_of, kind_of_token}
use Rattle.jp_grammar.specs.Trees.{cast_at}
use Rattle.jp_grammar.specs.Expressions.{Expression, Choices, Level, Chain, Unary, Postfix, Steps, Primary, Closed, Bracketed}
use Rattle.jp_grammar.specs.Reading.{Found, FailsWithin, Gives, Refused, RefusedName, Takes, Lacks}
use Rattle.jp_grammar.specs.Behind.{begins_plain, ends_level, ends_full, ends_primary}
use Rattle.jp_grammar.specs.Depth.{depth}
use Rattle.jp_grammar.proofs.Depths.{depth_cast}
use Rattle.jp_grammar.proofs.Chains.{level_gives, level_fails, level_zero, unary_level_fails}
use Rattle.jp_grammar.proofs.Parts.{expression_gives, expression_fails, closed_fails, closed_wrong, closed_found, bracketed_fails, bracketed_wrong, bracketed_found}
use Rattle.jp_parse_expr.specs.Ahead.{is_cast, Opens}
use Rattle.jp_parse_expr.specs.Parts.{Read}
use Rattle.jp_parse_expr.proofs.Operands.{CastAt, cast_parts, postfix_fails, postfix_gives}
use Rattle.jp_parse_expr.proofs.Casts.{cast_found, cast_fails, cast_full}
use Rattle.jp_parse_expr.proofs.Runs.{run_fails, paren_run_fails, paren_run_gives}

-- ---- expressions

-- the first operand fails
pub operand_fails : (most : ℕ) (xs : Tokens) (e : ParseFault) → FailsWithin Unary depth (ends_level 0) most xs e → FailsWithin Expression depth ends_full most xs e
operand_fails most xs e f = expression_fails most xs e (unary_level_fails 10 most xs e f)

-- choices behind a level
pub rest_gives : (most : ℕ) (s : Token) (xs begin ys : Tokens) (a : Expr) (r : Read) → begin ≡ s ∷ xs → Found (Level 10) (λ _. ends_level 10) begin a ys → Gives (Choices s.place a) depth ends_full most ys r → Gives Expression depth ends_full most begin r
rest_gives most s xs begin ys a r split g f =
    let place : s.place ≡ place_of begin = sym (ap place_of split) in
    expression_gives most begin ys a r g (subst (λ (at : Place). Gives (Choices at a) depth ends_full most ys r) place f)

-- ---- levels

-- a chain behind a level
pub chain_gives : (n most : ℕ) (s : Token) (xs begin ys : Tokens) (a : Expr) (r : Read) → begin ≡ s ∷ xs → Found (Level n) (λ _. ends_level n) begin a ys → Gives (Chain s.place n a) depth (ends_level (suc n)) most ys r →
    Gives (Level (suc n)) depth (ends_level (suc n)) most begin r
chain_gives n most s xs begin ys a r split g f =
    let place : s.place ≡ place_of begin = sym (ap place_of split) in
    level_gives n most begin ys a r g (subst (λ (at : Place). Gives (Chain at n a) depth (ends_level (suc n)) most ys r) place f)

pub chain_found : (n most : ℕ) (s : Token) (xs begin ys : Tokens) (a t : Expr) (d : ℕ) (zs : Bor Tokens) → begin ≡ s ∷ xs → Found (Level n) (λ _. ends_level n) begin a ys → Gives (Chain s.place n a) depth (ends_level (suc n)) most ys (Ok (t, d, zs)) →
    Found (Level (n + 1)) (λ _. ends_level (n + 1)) begin t zs.now
chain_found n most s xs begin ys a t d zs split g f = rw add-one ((chain_gives n most s xs begin ys a (Ok (t, d, zs)) split g f).0)

-- a fault in a chain is one of the weaker levels
pub chain_fails : (n m most : ℕ) (s : Token) (xs begin ys : Tokens) (a : Expr) (e : ParseFault) → n < m → begin ≡ s ∷ xs → Found (Level n) (λ _. ends_level n) begin a ys → FailsWithin (Chain s.place n a) depth (ends_level (suc n)) most ys e →
    FailsWithin (Level m) depth (ends_level m) most begin e
chain_fails n m most s xs begin ys a e less split g f =
    let same : m - suc n + suc n ≡ m = omega arith in
    subst (λ (x : ℕ). FailsWithin (Level x) depth (ends_level x) most begin e) same (level_fails (m - suc n) (suc n) most begin e (chain_gives n most s xs begin ys a (Err e) split g f))

-- ---- steps behind a primary

pub steps_give : (most : ℕ) (s : Token) (xs ys : Tokens) (a : Expr) (r : Read) → (Is k.New s → ⊥) → Found Primary (λ _. ends_primary) (s ∷ xs) a ys → Gives (Steps s.place a) depth (ends_level 0) most ys r → Gives Postfix depth (ends_level 0) most (s ∷ xs) r
steps_give most s xs ys a r other g f = postfix_gives most s xs other ys a r g f

-- ---- casts

module _ (most : ℕ) (s : Token) (xs : Tokens) (h : IsSign sign.OPEN_PAREN s) (cast : is_cast xs ≡ true) where
  parts : CastAt xs
  parts = cast_parts xs cast

  -- the operand's first tokens
  pub cast_tokens : (c p : Token) (ys zs : Tokens) → xs ≡ c ∷ ys → ys ≡ p ∷ zs → xs ≡ c ∷ p ∷ zs
  cast_tokens c p ys zs a b = a ∙ ap (λ (x : Tokens). c ∷ x) b

  pub cast_name : (c : Token) (ys : Tokens) → xs ≡ c ∷ ys → Is k.Name c
  cast_name c ys a = let p = parts in let same : p.class ≡ c = cc (p.split, a) in subst (λ (x : Token). Is k.Name x) same p.is_class

  module _ (c p : Token) (zs : Tokens) (split : xs ≡ c ∷ p ∷ zs) where
    cast_paren : IsSign sign.CLOSE_PAREN p
    cast_paren = let q = parts in let same : q.paren ≡ p = cc (q.split, split) in subst (λ (x : Token). IsSign sign.CLOSE_PAREN x) same q.is_paren

    cast_rest : zs ≡ parts.next ∷ parts.more
    cast_rest = let q = parts in let e : zs ≡ q.next ∷ q.more = cc (q.split, split) in e

    whole : xs ≡ c ∷ p ∷ parts.next ∷ parts.more
    whole = split ∙ ap (λ (x : Tokens). c ∷ p ∷ x) cast_rest

    pub cast_deep : (y : Token) (ws : Tokens) (class : List ℕ) → zs ≡ y ∷ ws → IsName class c → most ≡ 1 → FailsWithin Unary depth (ends_level 0) most (s ∷ xs) (TooDeep y.place)
    cast_deep y ws class e n one =
        let q = parts in
        let same : q.next ≡ y = cc (q.split, split, e) in
        let b : IsTrue (begins_plain (kind_of_token y)) = subst (λ (x : Token). IsTrue (begins_plain (kind_of_token x))) same q.begins in
        let all : s ∷ c ∷ p ∷ y ∷ ws ≡ s ∷ xs = ap (λ (x : Tokens). s ∷ x) (sym (split ∙ ap (λ (x : Tokens). c ∷ p ∷ x) e)) in
        subst (λ (x : Tokens). FailsWithin Unary depth (ends_level 0) most x (TooDeep y.place)) all (cast_full most s c p y class h n cast_paren b ws one)

    pub cast_falls : (class : List ℕ) (e : ParseFault) → IsName class c → 2 ≤ most → FailsWithin Unary depth (ends_level 0) (most - 1) zs e → FailsWithin Unary depth (ends_level 0) most (s ∷ xs) e
    cast_falls class e n room f =
        let q = parts in
        subst (λ (x : Tokens). FailsWithin Unary depth (ends_level 0) most (s ∷ x) e) (sym whole)
        (cast_fails most s c p q.next class h n cast_paren q.begins q.more e room (subst (λ (x : Tokens). FailsWithin Unary depth (ends_level 0) (most - 1) x e) cast_rest f))

    pub cast_gives : (class : List ℕ) (t a : Expr) (d : ℕ) (ws : Bor Tokens) → IsName class c → 2 ≤ most → Found Unary (λ _. ends_level 0) zs a ws.now → d ≡ depth a → d ≤ most - 1 → t ≡ cast_at s.place class a →
        Gives Unary depth (ends_level 0) most (s ∷ xs) (Ok (t, d + 1, ws))
    cast_gives class t a d ws n room g da small same =
        let q = parts in
        let m = depth_cast s.place class a in
        let deep : depth t ≡ depth (cast_at s.place class a) = ap depth same in
        let found = cast_found most s c p q.next class h n cast_paren q.begins q.more ws.now a (subst (λ (x : Tokens). Found Unary (λ _. ends_level 0) x a ws.now) cast_rest g) in (
          subst (λ (x : Expr). Found Unary (λ _. ends_level 0) (s ∷ xs) x ws.now) (sym same) (subst (λ (x : Tokens). Found Unary (λ _. ends_level 0) (s ∷ x) (cast_at s.place class a) ws.now) (sym whole) found),
          omega (arith, deep, m, da),
          omega (arith, small, room),
        )

-- ---- runs

module _ (most : ℕ) (room : 1 ≤ most) (tokens : Tokens) (i : ℕ) (some : 0 < i) (opens : (j : ℕ) → j < i → Opens (drop j tokens)) where
  -- what stands in the parentheses fails
  pub inner_fails : (e : ParseFault) → FailsWithin Expression depth ends_full most (drop i tokens) e → FailsWithin Unary depth (ends_level 0) most tokens e
  inner_fails e f = paren_run_fails most room tokens i e some opens (closed_fails ends_primary most (drop i tokens) e f)

  -- no `)` stands there
  pub closing_wrong : (t : Expr) (ys : Tokens) (e : ParseFault) → Found Expression (λ _. ends_full) (drop i tokens) t ys → depth t ≤ most → Lacks sign.CLOSE_PAREN ys e → FailsWithin Unary depth (ends_level 0) most tokens e
  closing_wrong t ys e g small h = paren_run_fails most room tokens i e some opens (closed_wrong ends_primary most (drop i tokens) t ys e g small h)

  -- the steps behind the parenthesis
  pub outer_gives : (s : Token) (xs : Tokens) (t : Expr) (d : ℕ) (ys zs : Bor Tokens) (r : Read) → drop (i - 1) tokens ≡ s ∷ xs → Found Expression (λ _. ends_full) (drop i tokens) t ys.now → d ≡ depth t → d ≤ most → Takes sign.CLOSE_PAREN ys.now zs.now →
      Gives (Steps s.place t) depth (ends_level 0) most zs.now r → Gives Unary depth (ends_level 0) most (drop (i - 1) tokens) r
  outer_gives s xs t d ys zs r split g dt small h f =
      paren_run_gives most room tokens i s.place (t, d, zs) r some opens (sym (ap place_of split)) (closed_found ends_primary most (drop i tokens) t ys.now zs.now g h, dt, small) f

  pub outer_fails : (s : Token) (xs : Tokens) (t : Expr) (d : ℕ) (ys zs : Bor Tokens) (e : ParseFault) → drop (i - 1) tokens ≡ s ∷ xs → Found Expression (λ _. ends_full) (drop i tokens) t ys.now → d ≡ depth t → d ≤ most → Takes sign.CLOSE_PAREN ys.now zs.now →
      FailsWithin (Steps s.place t) depth (ends_level 0) most zs.now e → FailsWithin Unary depth (ends_level 0) most tokens e
  outer_fails s xs t d ys zs e split g dt small h f =
      run_fails most room tokens (i - 1) e (λ j less. opens j (omega arith)) (outer_gives s xs t d ys zs (Err e) split g dt small h f)
