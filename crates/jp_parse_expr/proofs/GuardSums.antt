-- Sums of guards, and their comparisons.
use Rattle.std.proofs.Common.{◌≡◌, ℕ, ◌==◌, Bool, true, false, not, IsTrue, List, [], ◌∷◌, ◌++◌, length, Option, Some, None, Result, Ok, Err, refl, sym, ap, ◌∙◌, subst, inl, inr, ◌⊎◌, arith}
use Rattle.std.specs.Borrow.{Bor}
use Rattle.jp_ast.specs.declared.token.Place.{Place}
use Rattle.jp_ast.specs.declared.token.Token.{Token}
use Rattle.jp_ast.specs.declared.guard.PathText.{PathText}
use Rattle.jp_ast.specs.declared.guard.Summand.{Summand}
use Rattle.jp_ast.specs.declared.guard.GuardExpr.{GuardExpr}
use Rattle.jp_ast.specs.declared.sign.TheConstants as sign
use Rattle.jp_grammar.specs.declared.kind.Kind.{Kind}
use Rattle.jp_grammar.specs.declared.kind.Kind.TheVariants as k
use Rattle.jp_grammar.specs.declared.fault.ParseFault.{ParseFault}
use Rattle.jp_grammar.specs.Kinds.{Is, IsSign, Tokens, nowhere, kind_of_token}
use Rattle.jp_grammar.specs.Guards.{Term, Terms, Lin, IsSummandSign, is_comparison, summand_at, lin_negative, lin, terms_end, terms_more}
use Rattle.jp_grammar.specs.Reading.{Reads, Ends, Any, Viable, SameHead, Follows, Found, Fails, Refused, Begins}
use Rattle.jp_grammar.proofs.Sequence.{Then, found_image, fails_image}
use Rattle.jp_grammar.proofs.Choice.{Choice, found_choice, fails_choice}
use Rattle.jp_grammar.proofs.Outcome.{Joint, Same, image_of, fails_at, found_nothing}
use Rattle.jp_grammar.proofs.Samples.{a_number, a_sign}
use Rattle.jp_parse_expr.specs.BehindGuards.{join_kind, ends_join, sum_kind, ends_sum, term_kind, ends_term}
use Rattle.jp_parse_expr.specs.GuardParts.{GivesAll, Scaled, Begun, Summed, Compared, Equated, unscaled, scaled, compared, to_null, to_sum, compared_at, null_at, path_sum}
use Rattle.jp_parse_expr.proofs.Alls.{all_same, all_then, all_begun, all_choice, found_fewer, fails_fewer}
use Rattle.jp_parse_expr.proofs.Narrow.{Narrow, found_narrow, fails_narrow}
use Rattle.jp_parse_expr.proofs.GuardEnds.{sum_term, join_sum, each, comparison_join, comparison_sum}
use Rattle.jp_parse_expr.proofs.GuardFacts.{begins_term, begins_sum, term_begins, lin_begins, term_shorter, terms_shorter, lin_shorter, lin_number}

-- what a function answers that reads a sum
abbrev pub ReadSum : Type 0
ReadSum = Result (List Summand × Bor Tokens) ParseFault

-- what a function answers that reads an atom
abbrev pub ReadAtom : Type 0
ReadAtom = Result (GuardExpr × Bor Tokens) ParseFault

-- ---- terms

summand_sign : (negative : Bool) (s : Token) → IsSummandSign negative s → IsTrue (term_kind (kind_of_token s))
summand_sign true s h = ap term_kind h
summand_sign false s h = ap term_kind h

summand_sum : (negative : Bool) (s : Token) → IsSummandSign negative s → IsTrue (sum_kind (kind_of_token s)) → ⊥
summand_sum true s h e = let g = ap sum_kind h in cc
summand_sum false s h e = let g = ap sum_kind h in cc

no_summand : (negative : Bool) (s : Token) → (IsSign sign.MINUS s → ⊥) → (IsSign sign.PLUS s → ⊥) → IsSummandSign negative s → ⊥
no_summand true s m p h = m h
no_summand false s m p h = p h

same_sign : (negative negative' : Bool) (s : Token) → IsSummandSign negative s → IsSummandSign negative' s → negative' ≡ negative
same_sign true true s h i = refl
same_sign true false s h i = absurd (let g : sign.MINUS ≡ sign.PLUS = cc in omega (arith, g))
same_sign false true s h i = absurd (let g : sign.MINUS ≡ sign.PLUS = cc in omega (arith, g))
same_sign false false s h i = refl

terms_starts : {begun sum : List Summand} {ys zs : Tokens} → Terms begun ys sum zs → Ends ends_sum zs → Ends ends_term ys
terms_starts {zs = zs} terms_end e = each sum_term zs e
terms_starts (terms_more {s = s} {negative = negative} h a r) e = summand_sign negative s h

terms_joint : {R : Reads Summand} (begun : List Summand) → Joint R (λ a. Terms (begun ++ a ∷ [])) ends_term ends_sum Any Any
terms_joint begun = record {
  starts = λ a ys zs t r e. terms_starts r e;
  down = λ a ys zs t r q. tt;
  close = [];
  follows = λ zs e. each sum_term zs e;
  closed = λ a zs e. (begun ++ a ∷ [], terms_end, λ t. tt);
}

module _ (begun : List Summand) (s : Token) (xs tokens : Tokens) (split : tokens ≡ s ∷ xs) where
  stop_only : (ys zs : Tokens) (sum : List Summand) → (IsSign sign.MINUS s → ⊥) → (IsSign sign.PLUS s → ⊥) → Follows ends_sum (s ∷ xs) ys → Terms begun ys sum zs → (sum ≡ begun) × (zs ≡ ys)
  stop_only ys zs sum m p f terms_end = (refl, refl)
  stop_only ys zs sum m p (inl e) (terms_more {s = s'} {negative = negative} h a r) = absurd (summand_sum negative s' h e)
  stop_only ys zs sum m p (inr same) (terms_more {s = s'} {negative = negative} h a r) = absurd (no_summand negative s m p (subst (λ (x : Token). IsSummandSign negative x) same h))

  pub terms_stop : (IsSign sign.MINUS s → ⊥) → (IsSign sign.PLUS s → ⊥) → Found (Terms begun) (λ _. ends_sum) tokens begun tokens
  terms_stop m p = subst (λ (x : Tokens). Found (Terms begun) (λ _. ends_sum) x begun x) (sym split)
      (found_nothing (Terms begun) ends_sum (s ∷ xs) begun (λ ys. terms_end) (λ ys zs sum f r e. stop_only ys zs sum m p f r))

  more_from : (negative : Bool) (ys zs : Tokens) (sum : List Summand) → IsSummandSign negative s → Terms begun (s ∷ ys) sum zs → Ends ends_sum zs → Then (Term s.place negative) (λ a. Terms (begun ++ a ∷ [])) ys sum zs
  more_from negative ys zs sum h terms_end e = absurd (summand_sum negative s h e)
  more_from negative ys zs sum h (terms_more {negative = negative'} {ys = ws} {a = a} h' t r) e =
      (a, ws, subst (λ (x : Bool). Term s.place x ys a ws) (same_sign negative negative' s h h') t, r)

  more_same : (negative : Bool) → IsSummandSign negative s → Same (s ∷ []) (λ sum. sum) (Then (Term s.place negative) (λ a. Terms (begun ++ a ∷ []))) (Terms begun) ends_sum Any Any
  more_same negative h = record {
    into = λ ys zs sum r. terms_more h r.2 r.3;
    from = λ ys zs sum r e. (sum, refl, more_from negative ys zs sum h r e);
    up = λ a t. t;
    down = λ a t. t;
  }

  -- the next term fails
  pub more_fails : (negative : Bool) (e : ParseFault) → IsSummandSign negative s → Fails (Term s.place negative) (λ _. ends_term) ends_term Any xs e → Fails (Terms begun) (λ _. ends_sum) ends_sum Any tokens e
  more_fails negative e h f = subst (λ (x : Tokens). Fails (Terms begun) (λ _. ends_sum) ends_sum Any x e) (sym split) (all_same (more_same negative h) xs (Err e) (all_begun (terms_joint begun) xs e f))

  -- the terms behind the next one
  pub more_gives : (negative : Bool) (a : Summand) (ys : Tokens) (r : ReadSum) → IsSummandSign negative s → Found (Term s.place negative) (λ _. ends_term) xs a ys → GivesAll (Terms (begun ++ a ∷ [])) ends_sum ys r → GivesAll (Terms begun) ends_sum tokens r
  more_gives negative a ys r h g f = subst (λ (x : Tokens). GivesAll (Terms begun) ends_sum x r) (sym split) (all_same (more_same negative h) xs r (all_then (terms_joint begun) xs ys a r g f))

-- ---- a term or a path, and the terms behind it

pub begun_fails : (at : Place) (negative : Bool) (xs : Tokens) (e : ParseFault) → Fails (Term at negative) (λ _. ends_term) ends_term Any xs e → Fails (Begun at negative) (λ _. ends_sum) ends_sum Any xs e
begun_fails at negative xs e f = all_begun (terms_joint []) xs e f

pub begun_gives : (at : Place) (negative : Bool) (xs ys : Tokens) (a : Summand) (r : ReadSum) → Found (Term at negative) (λ _. ends_term) xs a ys → GivesAll (Terms (a ∷ [])) ends_sum ys r → GivesAll (Begun at negative) ends_sum xs r
begun_gives at negative xs ys a r g f = all_then (terms_joint []) xs ys a r g f

pub summed_fails : (p : PathText) (xs : Tokens) (e : ParseFault) → Fails (Scaled p.place false p) (λ _. ends_term) ends_term Any xs e → Fails (Summed p) (λ _. ends_sum) ends_sum Any xs e
summed_fails p xs e f = all_begun (terms_joint []) xs e f

pub summed_gives : (p : PathText) (xs ys : Tokens) (a : Summand) (r : ReadSum) → Found (Scaled p.place false p) (λ _. ends_term) xs a ys → GivesAll (Terms (a ∷ [])) ends_sum ys r → GivesAll (Summed p) ends_sum xs r
summed_gives p xs ys a r g f = all_then (terms_joint []) xs ys a r g f

-- ---- sums

begun_solid : (at : Place) (negative : Bool) (xs : Tokens) (sum : List Summand) → Begun at negative xs sum xs → ⊥
begun_solid at negative xs sum r = let b = term_shorter r.2 in let c = terms_shorter r.3 in absurd (omega (arith, b, c))

module _ (s : Token) (xs tokens : Tokens) (split : tokens ≡ s ∷ xs) where
  minus_from : (ys zs : Tokens) (sum : List Summand) → IsSign sign.MINUS s → Lin (s ∷ ys) sum zs → Begun s.place true ys sum zs
  minus_from ys zs sum h (lin_negative {ys = ws} {a = a} h' t r) = (a, ws, t, r)
  minus_from ys zs sum h (lin t r) = absurd (let b : IsTrue (begins_term (kind_of_token s)) = term_begins t in let g : begins_term (kind_of_token s) ≡ false = ap begins_term h in cc)

  minus_same : IsSign sign.MINUS s → Same (s ∷ []) (λ sum. sum) (Begun s.place true) Lin ends_sum Any Any
  minus_same h = record {
    into = λ ys zs sum r. lin_negative h r.2 r.3;
    from = λ ys zs sum r e. (sum, refl, minus_from ys zs sum h r);
    up = λ a t. t;
    down = λ a t. t;
  }

  -- a sum with a sign in front
  pub minus_gives : (r : ReadSum) → IsSign sign.MINUS s → GivesAll (Begun s.place true) ends_sum xs r → GivesAll Lin ends_sum tokens r
  minus_gives r h f = subst (λ (x : Tokens). GivesAll Lin ends_sum x r) (sym split) (all_same (minus_same h) xs r f)

  plain_from : (ys zs : Tokens) (sum : List Summand) → (IsSign sign.MINUS s → ⊥) → Lin (s ∷ ys) sum zs → Begun s.place false (s ∷ ys) sum zs
  plain_from ys zs sum other (lin_negative h t r) = absurd (other h)
  plain_from ys zs sum other (lin {ys = ws} {a = a} t r) = (a, ws, t, r)

  plain_narrow : (IsSign sign.MINUS s → ⊥) → Narrow s (Begun s.place false) Lin ends_sum
  plain_narrow other = record {
    into = λ ys zs sum r. lin r.2 r.3;
    from = λ ys zs sum r e. plain_from ys zs sum other r;
    solid = λ ys sum r. begun_solid s.place false ys sum r;
  }

  none_read : Viable Lin (λ _. ends_sum) ends_sum Any []
  none_read = λ zs e. (a_number ∷ [], summand_at nowhere false (Some (0, false)) None ∷ [], lin_number zs, e, tt)

  plain_read : (r : ReadSum) → (IsSign sign.MINUS s → ⊥) → GivesAll (Begun s.place false) ends_sum (s ∷ xs) r → GivesAll Lin ends_sum (s ∷ xs) r
  plain_read (Ok x) other f = found_narrow (plain_narrow other) f
  plain_read (Err e) other f = fails_narrow (plain_narrow other) ends_sum Any xs e none_read f

  -- a sum with no sign in front
  pub plain_gives : (r : ReadSum) → (IsSign sign.MINUS s → ⊥) → GivesAll (Begun s.place false) ends_sum tokens r → GivesAll Lin ends_sum tokens r
  plain_gives r other f = subst (λ (x : Tokens). GivesAll Lin ends_sum x r) (sym split) (plain_read r other (subst (λ (x : Tokens). GivesAll (Begun s.place false) ends_sum x r) split f))

-- ---- comparisons

module _ (at : Place) (left : List Summand) (s : Token) (xs tokens : Tokens) (split : tokens ≡ s ∷ xs) where
  compared_never : (more zs : Tokens) (t : GuardExpr) → ((b : ℕ) → IsSign b s → IsTrue (is_comparison b) → ⊥) → Compared at left (s ∷ more) t zs → ⊥
  compared_never more zs t other (compared {b = b} h i r) = other b h i

  -- no comparison stands there
  pub compared_wrong : (e : ParseFault) → ((b : ℕ) → IsSign b s → IsTrue (is_comparison b) → ⊥) → Refused s e → Fails (Compared at left) (λ _. ends_join 0) (ends_join 0) Any tokens e
  compared_wrong e other r = subst (λ (x : Tokens). Fails (Compared at left) (λ _. ends_join 0) (ends_join 0) Any x e) (sym split)
      (fails_at (Compared at left) (ends_join 0) Any [] s xs e r
      (λ zs e'. (a_sign sign.LESS ∷ a_number ∷ [], compared_at at left sign.LESS (summand_at nowhere false (Some (0, false)) None ∷ []), compared refl refl (lin_number zs), e', tt))
      (λ more zs t d e' u. compared_never more zs t other d))

  compared_from : (b : ℕ) (ys zs : Tokens) (t : GuardExpr) → IsSign b s → Compared at left (s ∷ ys) t zs → (right : List Summand) × (t ≡ compared_at at left b right) × Lin ys right zs
  compared_from b ys zs t h (compared {right = right} {b = b'} h' i r) =
      let same : b' ≡ b = cc in
      (right, ap (λ (x : ℕ). compared_at at left x right) same, r)

  compared_same : (b : ℕ) → IsSign b s → IsTrue (is_comparison b) → Same (s ∷ []) (compared_at at left b) Lin (Compared at left) (ends_join 0) Any Any
  compared_same b h i = record {
    into = λ ys zs right r. compared h i r;
    from = λ ys zs t r e. compared_from b ys zs t h r;
    up = λ a t. tt;
    down = λ a t. tt;
  }

  pub compared_fails : (b : ℕ) (e : ParseFault) → IsSign b s → IsTrue (is_comparison b) → Fails Lin (λ _. ends_sum) ends_sum Any xs e → Fails (Compared at left) (λ _. ends_join 0) (ends_join 0) Any tokens e
  compared_fails b e h i f = subst (λ (x : Tokens). Fails (Compared at left) (λ _. ends_join 0) (ends_join 0) Any x e) (sym split)
      (fails_image (image_of (compared_same b h i)) (ends_join 0) xs e (fails_fewer join_sum f))

  pub compared_found : (b : ℕ) (right : List Summand) (zs : Tokens) → IsSign b s → IsTrue (is_comparison b) → Found Lin (λ _. ends_sum) xs right zs → Found (Compared at left) (λ _. ends_join 0) tokens (compared_at at left b right) zs
  compared_found b right zs h i f = subst (λ (x : Tokens). Found (Compared at left) (λ _. ends_join 0) x (compared_at at left b right) zs) (sym split)
      (found_image (image_of (compared_same b h i)) (found_fewer join_sum f))

-- ---- behind a path and `==` or `!=`

-- a sum that the path is compared with
abbrev Against : PathText → ℕ → Reads GuardExpr
Against p b xs t zs = (right : List Summand) × (t ≡ compared_at p.place (path_sum p) b right) × Lin xs right zs

module _ (p : PathText) (b : ℕ) (s : Token) (xs tokens : Tokens) (split : tokens ≡ s ∷ xs) where
  null_only : (ys zs : Tokens) (t : GuardExpr) → Is k.Null s → Equated p b (s ∷ ys) t zs → (t ≡ null_at p (b == sign.EQUAL)) × (zs ≡ ys)
  null_only ys zs t h (to_null n) = (refl, refl)
  null_only ys zs t h (to_sum r) = absurd (let g : IsTrue (begins_sum (kind_of_token s)) = lin_begins r in let f : begins_sum (kind_of_token s) ≡ false = ap begins_sum h in cc)

  pub null_found : Is k.Null s → Found (Equated p b) (λ _. ends_join 0) tokens (null_at p (b == sign.EQUAL)) xs
  null_found h = record {
    front = s ∷ [];
    split = split;
    reads = λ ys f. to_null h;
    only = λ ys zs t f r e. null_only ys zs t h r;
  }

  against_same : Same [] (compared_at p.place (path_sum p) b) Lin (Against p b) (ends_join 0) Any Any
  against_same = record {
    into = λ ys zs right r. (right, refl, r);
    from = λ ys zs t r e. r;
    up = λ a t. tt;
    down = λ a t. tt;
  }

  against_into : (ys zs : Tokens) (t : GuardExpr) → Against p b ys t zs → Equated p b ys t zs
  against_into ys zs t r = subst (λ (x : GuardExpr). Equated p b ys x zs) (sym r.1) (to_sum r.2)

  against_from : (ys zs : Tokens) (t : GuardExpr) → (Is k.Null s → ⊥) → Equated p b (s ∷ ys) t zs → Against p b (s ∷ ys) t zs
  against_from ys zs t other (to_null n) = absurd (other n)
  against_from ys zs t other (to_sum {right = right} r) = (right, refl, r)

  against_choice : (Is k.Null s → ⊥) → Choice s (Against p b) (Equated p b) (λ _. ends_join 0)
  against_choice other = record {
    into = λ ys zs t r. against_into ys zs t r;
    from = λ ys zs t r e. against_from ys zs t other r;
    solid = λ ys t r. let h = lin_shorter r.2 in absurd (omega (arith, h));
  }

  pub equated_fails : (e : ParseFault) → (Is k.Null s → ⊥) → Fails Lin (λ _. ends_sum) ends_sum Any tokens e → Fails (Equated p b) (λ _. ends_join 0) (ends_join 0) Any tokens e
  equated_fails e other f = subst (λ (x : Tokens). Fails (Equated p b) (λ _. ends_join 0) (ends_join 0) Any x e) (sym split)
      (fails_choice (against_choice other) (ends_join 0) Any xs e (fails_image (image_of against_same) (ends_join 0) (s ∷ xs) e (fails_fewer join_sum (subst (λ (x : Tokens). Fails Lin (λ _. ends_sum) ends_sum Any x e) split f))))

  pub equated_found : (right : List Summand) (zs : Tokens) → (Is k.Null s → ⊥) → Found Lin (λ _. ends_sum) tokens right zs → Found (Equated p b) (λ _. ends_join 0) tokens (compared_at p.place (path_sum p) b right) zs
  equated_found right zs other f = subst (λ (x : Tokens). Found (Equated p b) (λ _. ends_join 0) x (compared_at p.place (path_sum p) b right) zs) (sym split)
      (found_choice (against_choice other) (found_image (image_of against_same) (found_fewer join_sum (subst (λ (x : Tokens). Found Lin (λ _. ends_sum) x right zs) split f))))
