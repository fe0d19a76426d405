-- Atoms of guards.
use Rattle.std.proofs.Common.{◌≡◌, ℕ, ◌==◌, ◌||◌, Bool, true, false, not, IsTrue, List, [], ◌∷◌, ◌++◌, length, Option, Some, None, Result, Ok, Err, refl, sym, ap, ◌∙◌, subst, inl, inr, ◌⊎◌, arith}
use Rattle.std.proofs.lemmas.Bool.{eqb-true}
use Rattle.std.specs.Borrow.{Bor}
use Rattle.jp_ast.specs.declared.token.Place.{Place}
use Rattle.jp_ast.specs.declared.token.Token.{Token}
use Rattle.jp_ast.specs.declared.guard.PathText.{PathText}
use Rattle.jp_ast.specs.declared.guard.Summand.{Summand}
use Rattle.jp_ast.specs.declared.guard.GuardExpr.{GuardExpr}
use Rattle.jp_ast.specs.declared.guard.GuardKind.TheVariants as made
use Rattle.jp_ast.specs.declared.sign.TheConstants as sign
use Rattle.jp_grammar.specs.declared.kind.Kind.{Kind}
use Rattle.jp_grammar.specs.declared.kind.Kind.TheVariants as k
use Rattle.jp_grammar.specs.declared.fault.ParseFault.{ParseFault}
use Rattle.jp_grammar.specs.Kinds.{Is, IsSign, IsName, Tokens, nowhere, place_of, kind_of_token}
use Rattle.jp_grammar.specs.Guards.{Terms, IsSummandSign, is_comparison, summand_at, terms_end, terms_more}
use Rattle.jp_grammar.specs.Reading.{Reads, Ends, Any, SameHead, Follows, Found, Fails, Refused, RefusedName, Begins}
use Rattle.jp_grammar.proofs.Sequence.{Then}
use Rattle.jp_grammar.proofs.Choice.{Choice}
use Rattle.jp_grammar.proofs.Outcome.{Joint, Same, Placed, found_placed, fails_placed, fails_at, found_nothing}
use Rattle.jp_grammar.proofs.Excluding.{or_cases, or_left, or_right}
use Rattle.jp_grammar.proofs.Samples.{a_number, a_name, a_name_is, a_sign}
use Rattle.jp_parse_expr.specs.BehindGuards.{join_kind, ends_join, sum_kind, ends_sum, path_kind, ends_path, is_as}
use Rattle.jp_parse_expr.specs.GuardParts.{GivesAll, Scaled, Summed, Compared, Equated, Classed, Tested, Aliased, Measured, Pathed, unscaled, scaled, compared, to_null, to_sum, unnamed, named_so, tested, aliased, of_class, of_name, of_equality, of_sum, of_flag, class_at, alias_at, null_at, flag_at, compared_at, path_sum, guard_at, is_root, is_simple, truth_kind, is_equality, goes_on}
use Rattle.jp_parse_expr.proofs.Alls.{all_same, all_then, all_begun, all_choice}
use Rattle.jp_parse_expr.proofs.Rules.{name_fails}
use Rattle.jp_parse_expr.proofs.GuardEnds.{join_path, join_sum, each, comparison_join, comparison_sum, equality_comparison, goes_join, goes_path}
use Rattle.jp_parse_expr.proofs.GuardFacts.{path_begins, lin_begins, begins_sum, measured_begins, path_place, path_shorter, lin_shorter, scaled_shorter, terms_shorter, compared_shorter, lin_solid, lin_number}
use Rattle.jp_parse_expr.proofs.GuardSums.{ReadAtom}

-- ---- `as` and a name, behind a class

module _ (p : PathText) (class : List ℕ) (s : Token) (xs tokens : Tokens) (split : tokens ≡ s ∷ xs) where
  unnamed_only : (ys zs : Tokens) (t : GuardExpr) → (Is k.As s → ⊥) → Follows (ends_join 0) (s ∷ xs) ys → Classed p class ys t zs → (t ≡ class_at p class None) × (zs ≡ ys)
  unnamed_only ys zs t other f unnamed = (refl, refl)
  unnamed_only ys zs t other (inl e) (named_so h n) = absurd (let g = ap (join_kind 0) h in cc)
  unnamed_only ys zs t other (inr same) (named_so h n) = absurd (other (subst (λ (x : Token). Is k.As x) same h))

  pub class_alone : (Is k.As s → ⊥) → Found (Classed p class) (λ _. ends_join 0) tokens (class_at p class None) tokens
  class_alone other = subst (λ (x : Tokens). Found (Classed p class) (λ _. ends_join 0) x (class_at p class None) x) (sym split)
      (found_nothing (Classed p class) (ends_join 0) (s ∷ xs) (class_at p class None) (λ ys. unnamed) (λ ys zs t f r e. unnamed_only ys zs t other f r))

module _ (p : PathText) (class : List ℕ) (s c : Token) (xs ys tokens : Tokens) (split : tokens ≡ s ∷ ys) (next : ys ≡ c ∷ xs) (h : Is k.As s) where
  both : tokens ≡ s ∷ c ∷ xs
  both = split ∙ ap (λ (x : Tokens). s ∷ x) next

  named_never : (more zs : Tokens) (t : GuardExpr) → (kind_of_token c ≡ k.Name → ⊥) → Classed p class (s ∷ c ∷ more) t zs → Ends (ends_join 0) zs → ⊥
  named_never more zs t other unnamed e = let g = ap (join_kind 0) h in cc
  named_never more zs t other (named_so h' n) e = other n.1

  -- no name stands behind `as`
  pub name_wrong : (e : ParseFault) → RefusedName c e → Fails (Classed p class) (λ _. ends_join 0) (ends_join 0) Any tokens e
  name_wrong e r = subst (λ (x : Tokens). Fails (Classed p class) (λ _. ends_join 0) (ends_join 0) Any x e) (sym both)
      (name_fails c r (λ other w. fails_at (Classed p class) (ends_join 0) Any (s ∷ []) c xs e w
      (λ zs e'. (a_name ∷ [], class_at p class (Some (97 ∷ [])), named_so h a_name_is, e', tt))
      (λ more zs t d e' u. named_never more zs t other d e')))

  named_only : (name : List ℕ) (ws zs : Tokens) (t : GuardExpr) → IsName name c → Classed p class (s ∷ c ∷ ws) t zs → Ends (ends_join 0) zs → (t ≡ class_at p class (Some name)) × (zs ≡ ws)
  named_only name ws zs t n unnamed e = let g = ap (join_kind 0) h in cc
  named_only name ws zs t n (named_so {name = name'} h' n') e =
      let same : name' ≡ name = cc in
      (ap (λ (x : List ℕ). class_at p class (Some x)) same, refl)

  pub class_named : (name : List ℕ) → IsName name c → Found (Classed p class) (λ _. ends_join 0) tokens (class_at p class (Some name)) xs
  class_named name n = record {
    front = s ∷ c ∷ [];
    split = both;
    reads = λ ws f. named_so h n;
    only = λ ws zs t f r e. named_only name ws zs t n r e;
  }

-- ---- a class behind `@`, and a name behind `as`

module _ (p : PathText) (c : Token) (xs tokens : Tokens) (split : tokens ≡ c ∷ xs) where
  tested_never : (more zs : Tokens) (t : GuardExpr) → (kind_of_token c ≡ k.Name → ⊥) → Tested p (c ∷ more) t zs → ⊥
  tested_never more zs t other (tested n r) = other n.1

  pub tested_wrong : (e : ParseFault) → RefusedName c e → Fails (Tested p) (λ _. ends_join 0) (ends_join 0) Any tokens e
  tested_wrong e r = subst (λ (x : Tokens). Fails (Tested p) (λ _. ends_join 0) (ends_join 0) Any x e) (sym split)
      (name_fails c r (λ other w. fails_at (Tested p) (ends_join 0) Any [] c xs e w
      (λ zs e'. (a_name ∷ [], class_at p (97 ∷ []) None, tested a_name_is unnamed, e', tt))
      (λ more zs t d e' u. tested_never more zs t other d)))

  tested_from : (class : List ℕ) (ys zs : Tokens) (t : GuardExpr) → IsName class c → Tested p (c ∷ ys) t zs → Classed p class ys t zs
  tested_from class ys zs t n (tested {class = class'} n' r) =
      let same : class' ≡ class = cc in
      subst (λ (x : List ℕ). Classed p x ys t zs) same r

  tested_same : (class : List ℕ) → IsName class c → Same (c ∷ []) (λ t. t) (Classed p class) (Tested p) (ends_join 0) Any Any
  tested_same class n = record {
    into = λ ys zs t r. tested n r;
    from = λ ys zs t r e. (t, refl, tested_from class ys zs t n r);
    up = λ a t. t;
    down = λ a t. t;
  }

  pub tested_gives : (class : List ℕ) (r : ReadAtom) → IsName class c → GivesAll (Classed p class) (ends_join 0) xs r → GivesAll (Tested p) (ends_join 0) tokens r
  tested_gives class r n f = subst (λ (x : Tokens). GivesAll (Tested p) (ends_join 0) x r) (sym split) (all_same (tested_same class n) xs r f)

  aliased_never : (more zs : Tokens) (t : GuardExpr) → (kind_of_token c ≡ k.Name → ⊥) → Aliased p (c ∷ more) t zs → ⊥
  aliased_never more zs t other (aliased n) = other n.1

  pub aliased_wrong : (e : ParseFault) → RefusedName c e → Fails (Aliased p) (λ _. ends_join 0) (ends_join 0) Any tokens e
  aliased_wrong e r = subst (λ (x : Tokens). Fails (Aliased p) (λ _. ends_join 0) (ends_join 0) Any x e) (sym split)
      (name_fails c r (λ other w. fails_at (Aliased p) (ends_join 0) Any [] c xs e w
      (λ zs e'. (a_name ∷ [], alias_at p (97 ∷ []), aliased a_name_is, e', tt))
      (λ more zs t d e' u. aliased_never more zs t other d)))

  aliased_only : (name : List ℕ) (ys zs : Tokens) (t : GuardExpr) → IsName name c → Aliased p (c ∷ ys) t zs → (t ≡ alias_at p name) × (zs ≡ ys)
  aliased_only name ys zs t n (aliased {name = name'} n') =
      let same : name' ≡ name = cc in
      (ap (alias_at p) same, refl)

  pub aliased_found : (name : List ℕ) → IsName name c → Found (Aliased p) (λ _. ends_join 0) tokens (alias_at p name) xs
  aliased_found name n = record {
    front = c ∷ [];
    split = split;
    reads = λ ys f. aliased n;
    only = λ ys zs t f r e. aliased_only name ys zs t n r;
  }

-- ---- a comparison of a sum that begins with the path

pub compared_starts : (at : Place) (left : List Summand) (ys zs : Tokens) (t : GuardExpr) → Compared at left ys t zs → Ends ends_sum ys
compared_starts at left ys zs t (compared {b = b} h i r) = ap sum_kind h ∙ comparison_sum b i

pub less_number : (at : Place) (left : List Summand) (zs : Tokens) → Compared at left (a_sign sign.LESS ∷ a_number ∷ zs) (compared_at at left sign.LESS (summand_at nowhere false (Some (0, false)) None ∷ [])) zs
less_number at left zs = compared refl refl (lin_number zs)

measured_joint : (p : PathText) → Joint (Summed p) (Compared p.place) ends_sum (ends_join 0) Any Any
measured_joint p = record {
  starts = λ left ys zs t r e. compared_starts p.place left ys zs t r;
  down = λ left ys zs t r q. tt;
  close = a_sign sign.LESS ∷ a_number ∷ [];
  follows = λ zs e. refl;
  closed = λ left zs e. (_, less_number p.place left zs, λ u. tt);
}

pub measured_fails : (p : PathText) (xs : Tokens) (e : ParseFault) → Fails (Summed p) (λ _. ends_sum) ends_sum Any xs e → Fails (Measured p) (λ _. ends_join 0) (ends_join 0) Any xs e
measured_fails p xs e f = all_begun (measured_joint p) xs e f

pub measured_gives : (p : PathText) (xs ys : Tokens) (left : List Summand) (r : ReadAtom) → Found (Summed p) (λ _. ends_sum) xs left ys → GivesAll (Compared p.place left) (ends_join 0) ys r → GivesAll (Measured p) (ends_join 0) xs r
measured_gives p xs ys left r g f = all_then (measured_joint p) xs ys left r g f

measured_solid : (p : PathText) (ys : Tokens) (t : GuardExpr) → Measured p ys t ys → ⊥
measured_solid p ys t r = let a = scaled_shorter r.2.2 in let b = terms_shorter r.2.3 in let c = compared_shorter r.3 in absurd (omega (arith, a, b, c))

-- ---- what makes an atom of a path

module _ (p : PathText) (s : Token) (b : ℕ) (h : IsSign b s) (i : IsTrue (is_equality b)) where
  no_sign : (n : ℕ) → IsSign n s → is_equality n ≡ false → ⊥
  no_sign n h' f =
      let same : n ≡ b = cc in
      let g : is_equality b ≡ false = subst (λ (x : ℕ). is_equality x ≡ false) same f in
      cc

  no_summand : (negative : Bool) → IsSummandSign negative s → ⊥
  no_summand true h' = no_sign sign.MINUS h' refl
  no_summand false h' = no_sign sign.PLUS h' refl

  compared_equated : (ys zs : Tokens) (t : GuardExpr) → Compared p.place (path_sum p) (s ∷ ys) t zs → Equated p b ys t zs
  compared_equated ys zs t (compared {right = right} {b = b'} h' j l) =
      let same : b ≡ b' = cc in
      subst (λ (x : ℕ). Equated p b ys (compared_at p.place (path_sum p) x right) zs) same (to_sum l)

  terms_equated : (ys : Tokens) (left : List Summand) (ws zs : Tokens) (t : GuardExpr) → Terms (path_sum p) (s ∷ ys) left ws → Compared p.place left ws t zs → Equated p b ys t zs
  terms_equated ys left ws zs t terms_end c = compared_equated ys zs t c
  terms_equated ys left ws zs t (terms_more {negative = negative} h' a r) c = absurd (no_summand negative h')

  scaled_equated : (ys : Tokens) (a : Summand) (left : List Summand) (vs ws zs : Tokens) (t : GuardExpr) → Scaled p.place false p (s ∷ ys) a vs → Terms (a ∷ []) vs left ws → Compared p.place left ws t zs → Equated p b ys t zs
  scaled_equated ys a left vs ws zs t unscaled r c = terms_equated ys left ws zs t r c
  scaled_equated ys a left vs ws zs t (scaled m n) r c = absurd (no_sign sign.TIMES m refl)

  measured_equated : (ys zs : Tokens) (t : GuardExpr) → Measured p (s ∷ ys) t zs → Equated p b ys t zs
  measured_equated ys zs t r = scaled_equated ys r.2.0 r.0 r.2.1 r.1 zs t r.2.2 r.2.3 r.3

no_goes : (p : PathText) (s : Token) (kind : Kind) (ys zs : Tokens) (t : GuardExpr) → kind_of_token s ≡ kind → goes_on kind ≡ false → Measured p (s ∷ ys) t zs → ⊥
no_goes p s kind ys zs t h f r =
    let b : IsTrue (goes_on (kind_of_token s)) = measured_begins p t (s ∷ ys) zs r in
    let g : goes_on (kind_of_token s) ≡ goes_on kind = ap goes_on h in
    cc

module _ (p : PathText) (s : Token) (xs tokens : Tokens) (split : tokens ≡ s ∷ xs) where
  -- `as`
  as_from : (ys zs : Tokens) (t : GuardExpr) → Is k.As s → Pathed p (s ∷ ys) t zs → Ends (ends_join 0) zs → Aliased p ys t zs
  as_from ys zs t h (of_class h' r) e = cc
  as_from ys zs t h (of_name h' r) e = r
  as_from ys zs t h (of_equality h' i r) e = cc
  as_from ys zs t h (of_sum r) e = absurd (no_goes p s k.As ys zs t h refl r)
  as_from ys zs t h of_flag e = let g = ap (join_kind 0) h in cc

  as_same : Is k.As s → Same (s ∷ []) (λ t. t) (Aliased p) (Pathed p) (ends_join 0) Any Any
  as_same h = record {
    into = λ ys zs t r. of_name h r;
    from = λ ys zs t r e. (t, refl, as_from ys zs t h r e);
    up = λ a t. t;
    down = λ a t. t;
  }

  pub as_gives : (r : ReadAtom) → Is k.As s → GivesAll (Aliased p) (ends_join 0) xs r → GivesAll (Pathed p) (ends_join 0) tokens r
  as_gives r h f = subst (λ (x : Tokens). GivesAll (Pathed p) (ends_join 0) x r) (sym split) (all_same (as_same h) xs r f)

  -- `@`
  at_from : (ys zs : Tokens) (t : GuardExpr) → IsSign sign.AT s → Pathed p (s ∷ ys) t zs → Ends (ends_join 0) zs → Tested p ys t zs
  at_from ys zs t h (of_class h' r) e = r
  at_from ys zs t h (of_name h' r) e = cc
  at_from ys zs t h (of_equality {b = b} h' i r) e = absurd (no_sign p s b h' i sign.AT h refl)
  at_from ys zs t h (of_sum r) e = absurd (no_goes p s (k.Sign sign.AT) ys zs t h refl r)
  at_from ys zs t h of_flag e = let g = ap (join_kind 0) h in cc

  at_same : IsSign sign.AT s → Same (s ∷ []) (λ t. t) (Tested p) (Pathed p) (ends_join 0) Any Any
  at_same h = record {
    into = λ ys zs t r. of_class h r;
    from = λ ys zs t r e. (t, refl, at_from ys zs t h r e);
    up = λ a t. t;
    down = λ a t. t;
  }

  pub at_gives : (r : ReadAtom) → IsSign sign.AT s → GivesAll (Tested p) (ends_join 0) xs r → GivesAll (Pathed p) (ends_join 0) tokens r
  at_gives r h f = subst (λ (x : Tokens). GivesAll (Pathed p) (ends_join 0) x r) (sym split) (all_same (at_same h) xs r f)

  -- `==` or `!=`
  equal_from : (b : ℕ) (ys zs : Tokens) (t : GuardExpr) → IsSign b s → IsTrue (is_equality b) → Pathed p (s ∷ ys) t zs → Ends (ends_join 0) zs → Equated p b ys t zs
  equal_from b ys zs t h i (of_class h' r) e = absurd (no_sign p s b h i sign.AT h' refl)
  equal_from b ys zs t h i (of_name h' r) e = cc
  equal_from b ys zs t h i (of_equality {b = b'} h' i' r) e = let same : b' ≡ b = cc in subst (λ (x : ℕ). Equated p x ys t zs) same r
  equal_from b ys zs t h i (of_sum r) e = measured_equated p s b h i ys zs t r
  equal_from b ys zs t h i of_flag e = absurd (comparison_join b (equality_comparison b i) (sym (ap (join_kind 0) h) ∙ e))

  equal_same : (b : ℕ) → IsSign b s → IsTrue (is_equality b) → Same (s ∷ []) (λ t. t) (Equated p b) (Pathed p) (ends_join 0) Any Any
  equal_same b h i = record {
    into = λ ys zs t r. of_equality h i r;
    from = λ ys zs t r e. (t, refl, equal_from b ys zs t h i r e);
    up = λ a t. t;
    down = λ a t. t;
  }

  pub equal_gives : (b : ℕ) (r : ReadAtom) → IsSign b s → IsTrue (is_equality b) → GivesAll (Equated p b) (ends_join 0) xs r → GivesAll (Pathed p) (ends_join 0) tokens r
  equal_gives b r h i f = subst (λ (x : Tokens). GivesAll (Pathed p) (ends_join 0) x r) (sym split) (all_same (equal_same b h i) xs r f)

  -- a sum goes on
  sum_from : (ys zs : Tokens) (t : GuardExpr) → IsTrue (goes_on (kind_of_token s)) → ((b : ℕ) → IsSign b s → IsTrue (is_equality b) → ⊥) → Pathed p (s ∷ ys) t zs → Ends (ends_join 0) zs → Measured p (s ∷ ys) t zs
  sum_from ys zs t h other (of_class h' r) e = let g = ap goes_on h' in cc
  sum_from ys zs t h other (of_name h' r) e = let g = ap goes_on h' in cc
  sum_from ys zs t h other (of_equality {b = b} h' i r) e = absurd (other b h' i)
  sum_from ys zs t h other (of_sum r) e = r
  sum_from ys zs t h other of_flag e = absurd (goes_join (kind_of_token s) h e)

  sum_choice : IsTrue (goes_on (kind_of_token s)) → ((b : ℕ) → IsSign b s → IsTrue (is_equality b) → ⊥) → Choice s (Measured p) (Pathed p) (λ _. ends_join 0)
  sum_choice h other = record {
    into = λ ys zs t r. of_sum r;
    from = λ ys zs t r e. sum_from ys zs t h other r e;
    solid = λ ys t r. measured_solid p ys t r;
  }

  pub sum_gives : (r : ReadAtom) → IsTrue (goes_on (kind_of_token s)) → ((b : ℕ) → IsSign b s → IsTrue (is_equality b) → ⊥) → GivesAll (Measured p) (ends_join 0) tokens r → GivesAll (Pathed p) (ends_join 0) tokens r
  sum_gives r h other f = subst (λ (x : Tokens). GivesAll (Pathed p) (ends_join 0) x r) (sym split)
      (all_choice (sum_choice h other) xs r (subst (λ (x : Tokens). GivesAll (Measured p) (ends_join 0) x r) split f))

  -- nothing goes on
  goes_follow : (ys : Tokens) → (IsTrue (goes_on (kind_of_token s)) → ⊥) → Follows (ends_join 0) (s ∷ xs) ys → Begins goes_on ys → ⊥
  goes_follow [] none f b = absurd b
  goes_follow (y ∷ ys) none (inl e) b = goes_join (kind_of_token y) b e
  goes_follow (y ∷ ys) none (inr same) b = none (subst (λ (x : Token). IsTrue (goes_on (kind_of_token x))) same b)

  flag_only : (ys zs : Tokens) (t : GuardExpr) → (Is k.As s → ⊥) → (IsSign sign.AT s → ⊥) → ((b : ℕ) → IsSign b s → IsTrue (is_equality b) → ⊥) → (IsTrue (goes_on (kind_of_token s)) → ⊥) →
      Follows (ends_join 0) (s ∷ xs) ys → Pathed p ys t zs → (t ≡ flag_at p) × (zs ≡ ys)
  flag_only ys zs t no_as no_at no_equal none (inl e) (of_class h r) = absurd (let g = ap (join_kind 0) h in cc)
  flag_only ys zs t no_as no_at no_equal none (inr same) (of_class h r) = absurd (no_at (subst (λ (x : Token). IsSign sign.AT x) same h))
  flag_only ys zs t no_as no_at no_equal none (inl e) (of_name h r) = absurd (let g = ap (join_kind 0) h in cc)
  flag_only ys zs t no_as no_at no_equal none (inr same) (of_name h r) = absurd (no_as (subst (λ (x : Token). Is k.As x) same h))
  flag_only ys zs t no_as no_at no_equal none (inl e) (of_equality {b = b} h i r) = absurd (comparison_join b (equality_comparison b i) (sym (ap (join_kind 0) h) ∙ e))
  flag_only ys zs t no_as no_at no_equal none (inr same) (of_equality {b = b} h i r) = absurd (no_equal b (subst (λ (x : Token). IsSign b x) same h) i)
  flag_only ys zs t no_as no_at no_equal none f (of_sum r) = absurd (goes_follow ys none f (measured_begins p t ys zs r))
  flag_only ys zs t no_as no_at no_equal none f of_flag = (refl, refl)

  pub flag_found : (Is k.As s → ⊥) → (IsSign sign.AT s → ⊥) → ((b : ℕ) → IsSign b s → IsTrue (is_equality b) → ⊥) → (IsTrue (goes_on (kind_of_token s)) → ⊥) → Found (Pathed p) (λ _. ends_join 0) tokens (flag_at p) tokens
  flag_found no_as no_at no_equal none = subst (λ (x : Tokens). Found (Pathed p) (λ _. ends_join 0) x (flag_at p) x) (sym split)
      (found_nothing (Pathed p) (ends_join 0) (s ∷ xs) (flag_at p) (λ ys. of_flag) (λ ys zs t f r e. flag_only ys zs t no_as no_at no_equal none f r))

-- a sign that is neither `==` nor `!=`
pub no_equality : (s : Token) → (IsSign sign.EQUAL s → ⊥) → (IsSign sign.NOT_EQUAL s → ⊥) → (b : ℕ) → IsSign b s → IsTrue (is_equality b) → ⊥
no_equality s e n b h i = elim (or_cases (b == sign.EQUAL) (b == sign.NOT_EQUAL) i) [
  | inl x ↦ e (h ∙ ap k.Sign (eqb-true b sign.EQUAL x))
  | inr x ↦ n (h ∙ ap k.Sign (eqb-true b sign.NOT_EQUAL x))
]
