-- Which kinds exclude one another.
use Rattle.std.proofs.Common.{◌≡◌, ◌≢◌, ℕ, zero, suc, ◌<◌, ◌≤◌, ◌+◌, Bool, true, false, not, ◌==◌, ◌||◌, ◌&&◌, nat_le, nat_eq, IsTrue, Option, Some, None, List, [], ◌∷◌, ◌⊎◌, inl, inr, refl, sym, ap, ◌∙◌, subst, arith, rules}
use Rattle.std.proofs.lemmas.Bool.{eqb-true, leb-true, le-leb}
use Rattle.jp_ast.specs.declared.sign.TheConstants as sign
use Rattle.jp_grammar.specs.declared.kind.Kind.{Kind}
use Rattle.jp_grammar.specs.declared.kind.Kind.TheVariants as k
use Rattle.jp_grammar.specs.Kinds.{is_sign_kind}
use Rattle.jp_grammar.specs.Expressions.{binds, strength, is_negation, is_inversion}
use Rattle.jp_grammar.specs.Behind.{begins_plain, negates, begins_expr, stands_behind, among, behind_signs, at_least, ends_kind, primary_kind}

pub or_cases : (a b : Bool) → IsTrue (a || b) → IsTrue a ⊎ IsTrue b
or_cases true b h = inl refl
or_cases false b h = inr h

pub or_left : (a b : Bool) → IsTrue a → IsTrue (a || b)
or_left true b h = refl
or_left false b h = cc

pub or_right : (a b : Bool) → IsTrue b → IsTrue (a || b)
or_right true b h = refl
or_right false b h = h

-- a number that is one of two passes no test that both fail
is_one : (P : ℕ → Bool) (b n : ℕ) → IsTrue (b == n) → P n ≡ false → IsTrue (P b) → ⊥
is_one P b n e fails h =
    let same : b ≡ n = eqb-true b n e in
    let h' : P n ≡ true = subst (λ (x : ℕ). P x ≡ true) same h in
    cc

-- the test fails at each of the numbers
abbrev pub misses : (ℕ → Bool) → List ℕ → Bool
misses P [] = true
misses P (n ∷ ns) = not (P n) && misses P ns

and_left : (a b : Bool) → IsTrue (a && b) → IsTrue a
and_left true b h = refl
and_left false b h = cc

and_right : (a b : Bool) → IsTrue (a && b) → IsTrue b
and_right true b h = h
and_right false b h = cc

not_false : (b : Bool) → IsTrue (not b) → b ≡ false
not_false true h = cc
not_false false h = refl

-- what is among numbers passes no test that fails at each
pub among_misses : (P : ℕ → Bool) (b : ℕ) (ns : List ℕ) → IsTrue (misses P ns) → IsTrue (among ns b) → IsTrue (P b) → ⊥
among_misses P b [] m a p = cc
among_misses P b (n ∷ ns) m a p =
    let first : IsTrue (b == n) → ⊥ = λ e. is_one P b n e (not_false (P n) (and_left (not (P n)) (misses P ns) m)) p in
    let others : IsTrue (among ns b) → ⊥ = λ e. among_misses P b ns (and_right (not (P n)) (misses P ns) m) e p in
    let c = or_cases (b == n) (among ns b) a in
    elim c [ inl e ↦ first e | inr e ↦ others e ]

pub plain_among : (b : ℕ) → IsTrue (begins_plain (k.Sign b)) → IsTrue (among (sign.NOT ∷ sign.COMPLEMENT ∷ sign.OPEN_PAREN ∷ []) b)
plain_among b h = elim (b == sign.NOT) as (λ x. IsTrue ((x || b == sign.COMPLEMENT) || b == sign.OPEN_PAREN) → IsTrue (x || among (sign.COMPLEMENT ∷ sign.OPEN_PAREN ∷ []) b)) [
  | true ↦ λ i. refl
  | false ↦ λ i. elim (b == sign.COMPLEMENT) as (λ x. IsTrue (x || b == sign.OPEN_PAREN) → IsTrue (x || among (sign.OPEN_PAREN ∷ []) b)) [
    | true ↦ λ j. refl
    | false ↦ λ j. or_left (b == sign.OPEN_PAREN) false j
  ] i
] h

pub negation_among : (b : ℕ) → IsTrue (is_negation b) → IsTrue (among (sign.MINUS ∷ sign.PLUS ∷ []) b)
negation_among b h = elim (b == sign.MINUS) as (λ x. IsTrue (x || b == sign.PLUS) → IsTrue (x || among (sign.PLUS ∷ []) b)) [
  | true ↦ λ i. refl
  | false ↦ λ i. or_left (b == sign.PLUS) false i
] h

-- what begins a plain stands behind no primary
pub plain_primary : (kind : Kind) → IsTrue (begins_plain kind) → IsTrue (primary_kind kind) → ⊥
plain_primary k.Name h e = cc
plain_primary k.Number h e = cc
plain_primary k.Text h e = cc
plain_primary k.True h e = cc
plain_primary k.False h e = cc
plain_primary k.Null h e = cc
plain_primary k.This h e = cc
plain_primary k.Super h e = cc
plain_primary k.New h e = cc
plain_primary (k.Sign b) h e = among_misses (λ x. primary_kind (k.Sign x)) b (sign.NOT ∷ sign.COMPLEMENT ∷ sign.OPEN_PAREN ∷ []) refl (plain_among b h) e
plain_primary _ h e = cc

-- no negation begins a plain
pub negates_plain : (kind : Kind) → IsTrue (negates kind) → IsTrue (begins_plain kind) → ⊥
negates_plain (k.Sign b) h e = among_misses (λ x. begins_plain (k.Sign x)) b (sign.MINUS ∷ sign.PLUS ∷ []) refl (negation_among b h) e
negates_plain _ h e = cc

-- whether there is a strength
abbrev pub is_strong : Option ℕ → Bool
is_strong None = false
is_strong (Some n) = true

binds_strong : (kind : Kind) (n : ℕ) → binds kind ≡ Some n → IsTrue (is_strong (binds kind))
binds_strong kind n h = ap is_strong h

-- a sign that binds is no `?`, and stands behind no expression
pub binds_inside : (kind : Kind) (n : ℕ) → binds kind ≡ Some n → IsTrue (is_sign_kind sign.QUESTION kind || stands_behind kind) → ⊥
binds_inside k.InstanceOf n h e = cc
binds_inside (k.Sign b) n h e =
    let strong : IsTrue (is_strong (strength b)) = binds_strong (k.Sign b) n h in
    among_misses (λ x. is_strong (strength x)) b (sign.QUESTION ∷ behind_signs) refl e strong
binds_inside k.End n h e = cc
binds_inside _ n h e = cc

same_le : (n : ℕ) → IsTrue (nat_le n n)
same_le n = le-leb n n (omega arith)

at_least_weaker : (n : ℕ) (o : Option ℕ) → IsTrue (at_least (suc n) o) → IsTrue (at_least n o)
at_least_weaker n None h = h
at_least_weaker n (Some m) h = let l = leb-true (suc n) m h in le-leb n m (omega arith)

-- what stands behind a level stands behind the stronger ones
pub ends_weaker : (n : ℕ) (kind : Kind) → IsTrue (ends_kind (suc n) kind) → IsTrue (ends_kind n kind)
ends_weaker n kind h =
    let others = is_sign_kind sign.QUESTION kind || stands_behind kind in
    let c = or_cases (at_least (suc n) (binds kind)) others h in
    elim c [ inl e ↦ or_left (at_least n (binds kind)) others (at_least_weaker n (binds kind) e) | inr e ↦ or_right (at_least n (binds kind)) others e ]

pub ends_zero : (n : ℕ) (kind : Kind) → IsTrue (ends_kind n kind) → IsTrue (ends_kind 0 kind)
ends_zero zero kind h = h
ends_zero (suc n) kind h = ends_zero n kind (ends_weaker n kind h)

-- a sign of the strength stands behind the level
pub ends_binds : (n : ℕ) (kind : Kind) → binds kind ≡ Some n → IsTrue (ends_kind n kind)
ends_binds n kind h = or_left (at_least n (binds kind)) (is_sign_kind sign.QUESTION kind || stands_behind kind) (ap (at_least n) h ∙ same_le n)

-- and it doesn't stand behind the next one
pub ends_inside : (n : ℕ) (kind : Kind) → binds kind ≡ Some n → IsTrue (ends_kind (suc n) kind) → ⊥
ends_inside n kind h e =
    let others = is_sign_kind sign.QUESTION kind || stands_behind kind in
    let first : IsTrue (at_least (suc n) (binds kind)) → ⊥ = λ a.
    let a' : IsTrue (nat_le (suc n) n) = sym (ap (at_least (suc n)) h) ∙ a in
    let l = leb-true (suc n) n a' in
    absurd (omega arith) in
    let c = or_cases (at_least (suc n) (binds kind)) others e in
    elim c [ inl a ↦ first a | inr a ↦ binds_inside kind n h a ]

-- what stands behind an expression stands behind each level, and behind a primary
pub behind_level : (n : ℕ) (kind : Kind) → IsTrue (stands_behind kind) → IsTrue (ends_kind n kind)
behind_level n kind h = or_right (at_least n (binds kind)) (is_sign_kind sign.QUESTION kind || stands_behind kind) (or_right (is_sign_kind sign.QUESTION kind) (stands_behind kind) h)

pub level_primary : (kind : Kind) → IsTrue (ends_kind 0 kind) → IsTrue (primary_kind kind)
level_primary kind h = or_right (is_sign_kind sign.DOT kind || is_sign_kind sign.OPEN_BRACKET kind) (ends_kind 0 kind) h

-- `?` stands behind each level
pub question_level : (n : ℕ) (kind : Kind) → kind ≡ k.Sign sign.QUESTION → IsTrue (ends_kind n kind)
question_level n kind h = ap (ends_kind n) h
