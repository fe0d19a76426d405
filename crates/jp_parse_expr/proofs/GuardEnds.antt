-- What may stand behind the parts of a guard, and what may not.
use Rattle.std.proofs.Common.{◌≡◌, ℕ, zero, suc, ◌<◌, ◌≤◌, ◌+◌, Bool, true, false, not, ◌==◌, ◌||◌, nat_le, IsTrue, Option, Some, None, List, [], ◌∷◌, ◌⊎◌, inl, inr, refl, sym, ap, ◌∙◌, subst, arith}
use Rattle.std.proofs.lemmas.Bool.{eqb-true, leb-true, le-leb}
use Rattle.jp_ast.specs.declared.token.Token.{Token}
use Rattle.jp_ast.specs.declared.sign.TheConstants as sign
use Rattle.jp_grammar.specs.declared.kind.Kind.{Kind}
use Rattle.jp_grammar.specs.declared.kind.Kind.TheVariants as k
use Rattle.jp_grammar.specs.Kinds.{Tokens, IsSign, is_sign_kind, kind_of_token}
use Rattle.jp_grammar.specs.Reading.{Ends}
use Rattle.jp_grammar.specs.Behind.{among, at_least}
use Rattle.jp_grammar.specs.Guards.{is_comparison, IsJoin}
use Rattle.jp_grammar.proofs.Excluding.{or_cases, or_left, or_right, among_misses, is_strong}
use Rattle.jp_parse_expr.specs.BehindGuards.{stands_behind_guard, ends_guard, join_strength, joins, join_kind, ends_join, compares, sum_kind, ends_sum, term_kind, ends_term, is_as, path_kind, ends_path}
use Rattle.jp_parse_expr.specs.GuardParts.{is_equality, goes_on}

-- ---- what stands behind the whole stands behind the part

pub guard_join : (n : ℕ) (s : Token) → IsTrue (ends_guard s) → IsTrue (ends_join n s)
guard_join n s h = or_right (at_least n (joins (kind_of_token s))) (stands_behind_guard (kind_of_token s)) h

pub join_sum : (s : Token) → IsTrue (ends_join 0 s) → IsTrue (ends_sum s)
join_sum s h = or_right (compares (kind_of_token s)) (join_kind 0 (kind_of_token s)) h

pub sum_term : (s : Token) → IsTrue (ends_sum s) → IsTrue (ends_term s)
sum_term s h = or_right (is_sign_kind sign.PLUS (kind_of_token s) || is_sign_kind sign.MINUS (kind_of_token s)) (sum_kind (kind_of_token s)) h

pub term_path : (s : Token) → IsTrue (ends_term s) → IsTrue (ends_path s)
term_path s h = or_right ((is_sign_kind sign.TIMES (kind_of_token s) || is_sign_kind sign.AT (kind_of_token s)) || is_as (kind_of_token s)) (term_kind (kind_of_token s)) h

pub join_path : (s : Token) → IsTrue (ends_join 0 s) → IsTrue (ends_path s)
join_path s h = term_path s (sum_term s (join_sum s h))

-- the same of lists
pub each : {fewer ends : Token → Bool} → ((s : Token) → IsTrue (fewer s) → IsTrue (ends s)) → (zs : Tokens) → Ends fewer zs → Ends ends zs
each some [] e = absurd e
each some (s ∷ zs) e = some s e

-- ---- comparisons

any_of : (a b c d e f : Bool) → IsTrue (a || b || c || d || e || f) → IsTrue (a || (b || (c || (d || (e || (f || false))))))
any_of true b c d e f h = refl
any_of false true c d e f h = refl
any_of false false true d e f h = refl
any_of false false false true e f h = refl
any_of false false false false true f h = refl
any_of false false false false false true h = refl
any_of false false false false false false h = cc

comparison_among : (b : ℕ) → IsTrue (is_comparison b) → IsTrue (among (sign.LESS ∷ sign.AT_MOST ∷ sign.GREATER ∷ sign.AT_LEAST ∷ sign.EQUAL ∷ sign.NOT_EQUAL ∷ []) b)
comparison_among b h = any_of (b == sign.LESS) (b == sign.AT_MOST) (b == sign.GREATER) (b == sign.AT_LEAST) (b == sign.EQUAL) (b == sign.NOT_EQUAL) h

pub comparison_join : (b : ℕ) → IsTrue (is_comparison b) → IsTrue (join_kind 0 (k.Sign b)) → ⊥
comparison_join b h e = among_misses (λ x. join_kind 0 (k.Sign x)) b (sign.LESS ∷ sign.AT_MOST ∷ sign.GREATER ∷ sign.AT_LEAST ∷ sign.EQUAL ∷ sign.NOT_EQUAL ∷ []) refl (comparison_among b h) e

pub comparison_sum : (b : ℕ) → IsTrue (is_comparison b) → IsTrue (sum_kind (k.Sign b))
comparison_sum b h = or_left (is_comparison b) (join_kind 0 (k.Sign b)) h

-- an equality is a comparison
pub equality_comparison : (b : ℕ) → IsTrue (is_equality b) → IsTrue (is_comparison b)
equality_comparison b h = elim (or_cases (b == sign.EQUAL) (b == sign.NOT_EQUAL) h) [
  | inl e ↦ let same : b ≡ sign.EQUAL = eqb-true b sign.EQUAL e in rw same refl
  | inr e ↦ let same : b ≡ sign.NOT_EQUAL = eqb-true b sign.NOT_EQUAL e in rw same refl
]

-- ---- what goes on behind a path

goes_cases : (b : ℕ) → IsTrue (goes_on (k.Sign b)) → ((b ≡ sign.TIMES) ⊎ (b ≡ sign.PLUS)) ⊎ ((b ≡ sign.MINUS) ⊎ IsTrue (is_comparison b))
goes_cases b h = elim (or_cases (b == sign.TIMES || b == sign.PLUS || b == sign.MINUS) (is_comparison b) h) [
  | inr c ↦ inr (inr c)
  | inl g ↦ elim (or_cases (b == sign.TIMES || b == sign.PLUS) (b == sign.MINUS) g) [
    | inr m ↦ inr (inl (eqb-true b sign.MINUS m))
    | inl f ↦ elim (or_cases (b == sign.TIMES) (b == sign.PLUS) f) [ inl t ↦ inl (inl (eqb-true b sign.TIMES t)) | inr p ↦ inl (inr (eqb-true b sign.PLUS p)) ]
  ]
]

goes_join_sign : (b : ℕ) → ((b ≡ sign.TIMES) ⊎ (b ≡ sign.PLUS)) ⊎ ((b ≡ sign.MINUS) ⊎ IsTrue (is_comparison b)) → IsTrue (join_kind 0 (k.Sign b)) → ⊥
goes_join_sign b (inl (inl t)) e = let g : IsTrue (join_kind 0 (k.Sign sign.TIMES)) = subst (λ (x : ℕ). IsTrue (join_kind 0 (k.Sign x))) t e in cc
goes_join_sign b (inl (inr p)) e = let g : IsTrue (join_kind 0 (k.Sign sign.PLUS)) = subst (λ (x : ℕ). IsTrue (join_kind 0 (k.Sign x))) p e in cc
goes_join_sign b (inr (inl m)) e = let g : IsTrue (join_kind 0 (k.Sign sign.MINUS)) = subst (λ (x : ℕ). IsTrue (join_kind 0 (k.Sign x))) m e in cc
goes_join_sign b (inr (inr c)) e = comparison_join b c e

-- it doesn't stand behind an atom
pub goes_join : (kind : Kind) → IsTrue (goes_on kind) → IsTrue (join_kind 0 kind) → ⊥
goes_join (k.Sign b) h e = goes_join_sign b (goes_cases b h) e
goes_join _ h e = cc

goes_path_sign : (b : ℕ) → ((b ≡ sign.TIMES) ⊎ (b ≡ sign.PLUS)) ⊎ ((b ≡ sign.MINUS) ⊎ IsTrue (is_comparison b)) → IsTrue (path_kind (k.Sign b))
goes_path_sign b (inl (inl t)) = rw t refl
goes_path_sign b (inl (inr p)) = rw p refl
goes_path_sign b (inr (inl m)) = rw m refl
goes_path_sign b (inr (inr c)) =
    or_right ((b == sign.TIMES || b == sign.AT) || false) (term_kind (k.Sign b)) (or_right (b == sign.PLUS || b == sign.MINUS) (sum_kind (k.Sign b)) (comparison_sum b c))

-- it stands behind a path
pub goes_path : (kind : Kind) → IsTrue (goes_on kind) → IsTrue (path_kind kind)
goes_path (k.Sign b) h = goes_path_sign b (goes_cases b h)
goes_path _ h = cc

pub comparison_goes : (b : ℕ) → IsTrue (is_comparison b) → IsTrue (goes_on (k.Sign b))
comparison_goes b h = or_right (b == sign.TIMES || b == sign.PLUS || b == sign.MINUS) (is_comparison b) h

-- ---- signs that join

joins_inside : (kind : Kind) (n : ℕ) → joins kind ≡ Some n → IsTrue (stands_behind_guard kind) → ⊥
joins_inside (k.Sign b) n h e =
    let strong : IsTrue (is_strong (join_strength b)) = ap is_strong h in
    among_misses (λ x. is_strong (join_strength x)) b (sign.OPEN_BRACE ∷ sign.CLOSE_PAREN ∷ []) refl e strong
joins_inside k.End n h e = cc
joins_inside _ n h e = cc

same_le : (n : ℕ) → IsTrue (nat_le n n)
same_le n = le-leb n n (omega arith)

at_least_weaker : (n : ℕ) (o : Option ℕ) → IsTrue (at_least (suc n) o) → IsTrue (at_least n o)
at_least_weaker n None h = h
at_least_weaker n (Some m) h = let l = leb-true (suc n) m h in le-leb n m (omega arith)

-- what stands behind a level stands behind the stronger ones
pub join_weaker : (n : ℕ) (s : Token) → IsTrue (ends_join (suc n) s) → IsTrue (ends_join n s)
join_weaker n s h =
    let kind = kind_of_token s in
    elim (or_cases (at_least (suc n) (joins kind)) (stands_behind_guard kind) h) [
      | inl e ↦ or_left (at_least n (joins kind)) (stands_behind_guard kind) (at_least_weaker n (joins kind) e)
      | inr e ↦ or_right (at_least n (joins kind)) (stands_behind_guard kind) e
    ]

-- a sign of the strength stands behind the level
pub join_here : (n : ℕ) (s : Token) → joins (kind_of_token s) ≡ Some n → IsTrue (ends_join n s)
join_here n s h = or_left (at_least n (joins (kind_of_token s))) (stands_behind_guard (kind_of_token s)) (ap (at_least n) h ∙ same_le n)

-- and it doesn't stand behind the next one
pub join_inside : (n : ℕ) (s : Token) → joins (kind_of_token s) ≡ Some n → IsTrue (ends_join (suc n) s) → ⊥
join_inside n s h e =
    let kind = kind_of_token s in
    let first : IsTrue (at_least (suc n) (joins kind)) → ⊥ = λ a.
    let a' : IsTrue (nat_le (suc n) n) = sym (ap (at_least (suc n)) h) ∙ a in
    let l = leb-true (suc n) n a' in
    absurd (omega arith) in
    elim (or_cases (at_least (suc n) (joins kind)) (stands_behind_guard kind) e) [ inl a ↦ first a | inr a ↦ joins_inside kind n h a ]

-- the sign of a strength
pub join_sign : (n : ℕ) (s : Token) → IsJoin n s → joins (kind_of_token s) ≡ Some n
join_sign zero s h = ap joins h
join_sign (suc n) s h = ap joins h.1 ∙ ap (λ (x : ℕ). Some (suc x)) (sym h.0)

join_kinds : (kind : Kind) (n : ℕ) → joins kind ≡ Some n → ((kind ≡ k.Sign sign.AND) × (n ≡ 0)) ⊎ ((kind ≡ k.Sign sign.OR) × (n ≡ 1))
join_kinds (k.Sign b) n h = elim (b == sign.AND) as (λ (x : Bool). (b == sign.AND) ≡ x → ((k.Sign b ≡ k.Sign sign.AND) × (n ≡ 0)) ⊎ ((k.Sign b ≡ k.Sign sign.OR) × (n ≡ 1))) [
  | true ↦ λ e. let same : b ≡ sign.AND = eqb-true b sign.AND e in inl (ap k.Sign same, let g : joins (k.Sign sign.AND) ≡ Some n = subst (λ (x : ℕ). joins (k.Sign x) ≡ Some n) same h in cc)
  | false ↦ λ e. elim (b == sign.OR) as (λ (x : Bool). (b == sign.OR) ≡ x → ((k.Sign b ≡ k.Sign sign.AND) × (n ≡ 0)) ⊎ ((k.Sign b ≡ k.Sign sign.OR) × (n ≡ 1))) [
    | true ↦ λ e'. let same : b ≡ sign.OR = eqb-true b sign.OR e' in inr (ap k.Sign same, let g : joins (k.Sign sign.OR) ≡ Some n = subst (λ (x : ℕ). joins (k.Sign x) ≡ Some n) same h in cc)
    | false ↦ λ e'. let g : joins (k.Sign b) ≡ None = rw (e, e') refl in cc
  ] refl
] refl
join_kinds _ n h = cc

pub sign_join : (n : ℕ) (s : Token) → joins (kind_of_token s) ≡ Some n → IsJoin n s
sign_join zero s h = elim (join_kinds (kind_of_token s) zero h) [ inl a ↦ a.0 | inr a ↦ absurd (let g = a.1 in omega (arith, g)) ]
sign_join (suc n) s h = elim (join_kinds (kind_of_token s) (suc n) h) [ inl a ↦ absurd (let g = a.1 in omega (arith, g)) | inr a ↦ (let g = a.1 in omega (arith, g), a.0) ]
