-- Atoms by what they begin with.
use Rattle.std.proofs.Common.{◌≡◌, ℕ, ◌==◌, ◌||◌, ◌≤◌, Bool, true, false, not, IsTrue, List, [], ◌∷◌, ◌++◌, length, Option, Some, None, Result, Ok, Err, refl, sym, ap, ◌∙◌, subst, inl, inr, ◌⊎◌, arith}
use Rattle.std.proofs.lemmas.Bool.{eqb-true}
use Rattle.std.specs.Borrow.{Bor}
use Rattle.jp_ast.specs.declared.token.Place.{Place}
use Rattle.jp_ast.specs.declared.token.Token.{Token}
use Rattle.jp_ast.specs.declared.guard.PathText.{PathText}
use Rattle.jp_ast.specs.declared.guard.Summand.{Summand}
use Rattle.jp_ast.specs.declared.guard.GuardExpr.{GuardExpr}
use Rattle.jp_ast.specs.declared.guard.GuardKind.TheVariants as made
use Rattle.jp_ast.specs.declared.sign.TheConstants as sign
use Rattle.jp_grammar.specs.declared.kind.Kind.{Kind}
use Rattle.jp_grammar.specs.declared.kind.Kind.TheVariants as k
use Rattle.jp_grammar.specs.declared.fault.ParseFault.{ParseFault}
use Rattle.jp_grammar.specs.Kinds.{Is, IsSign, IsNumber, Tokens, place_of, kind_of_token, kind_of_lexeme}
use Rattle.jp_grammar.specs.Guards.{Path, Term, Terms, Lin, Atom, IsEquality, is_comparison, summand_at, truth_guard, lin_negative, lin, terms_end, truth, falsehood, class_test, class_alias, alias, null_test, comparison, flag, variable}
use Rattle.jp_grammar.specs.Reading.{Ends, Any, Found, Fails, FailsWithin, Begins}
use Rattle.jp_grammar.specs.Depth.{guard_depth}
use Rattle.jp_grammar.proofs.Sequence.{Then}
use Rattle.jp_grammar.proofs.Choice.{Choice}
use Rattle.jp_grammar.proofs.Outcome.{Joint, Placed, found_placed, fails_placed}
use Rattle.jp_grammar.proofs.Excluding.{or_cases}
use Rattle.jp_grammar.proofs.Samples.{a_number, a_sign}
use Rattle.jp_parse_expr.specs.BehindGuards.{ends_join, sum_kind, ends_sum, path_kind, ends_path}
use Rattle.jp_parse_expr.specs.GuardParts.{GivesAll, Scaled, Compared, Equated, Measured, Pathed, unscaled, compared, to_null, to_sum, unnamed, named_so, tested, aliased, of_class, of_name, of_equality, of_sum, of_flag, flag_at, compared_at, guard_at, is_root, is_simple, truth_kind, is_equality, goes_on}
use Rattle.jp_parse_expr.proofs.Alls.{all_then, all_begun, all_choice}
use Rattle.jp_parse_expr.proofs.GuardEnds.{join_path, each, comparison_sum, comparison_goes, equality_comparison, goes_path}
use Rattle.jp_parse_expr.proofs.GuardFacts.{path_begins, lin_begins, begins_sum, measured_begins, path_place, path_shorter, pathed_shorter, lin_shorter, compared_shorter, lin_solid}
use Rattle.jp_parse_expr.proofs.GuardTerms.{scaled_term, term_scaled}
use Rattle.jp_parse_expr.proofs.GuardSums.{ReadAtom}
use Rattle.jp_parse_expr.proofs.GuardAtoms.{less_number, compared_starts}

-- ---- atoms that begin with a path

equality_is : (b : ℕ) (s : Token) → IsSign b s → IsTrue (is_equality b) → IsEquality (b == sign.EQUAL) s
equality_is b s h i = elim (or_cases (b == sign.EQUAL) (b == sign.NOT_EQUAL) i) [
  | inl e ↦ let same : b ≡ sign.EQUAL = eqb-true b sign.EQUAL e in subst (λ (x : ℕ). IsEquality (x == sign.EQUAL) s) (sym same) (h ∙ ap k.Sign same)
  | inr e ↦ let same : b ≡ sign.NOT_EQUAL = eqb-true b sign.NOT_EQUAL e in subst (λ (x : ℕ). IsEquality (x == sign.EQUAL) s) (sym same) (h ∙ ap k.Sign same)
]

module _ (p : PathText) (xs : Tokens) where
  sum_atom : (ys zs ws : Tokens) (left : List Summand) (t : GuardExpr) → Path xs p ys → Lin xs left ws → Compared p.place left ws t zs → Atom xs t zs
  sum_atom ys zs ws left t q l (compared {right = right} {b = b} h i r) =
      subst (λ (at : Place). Atom xs (compared_at at left b right) zs) (sym (path_place q)) (comparison l h i r)

  measured_atom : (ys zs : Tokens) (t : GuardExpr) → Path xs p ys → Measured p ys t zs → Atom xs t zs
  measured_atom ys zs t q r =
      let d : Scaled (place_of xs) false p ys r.2.0 r.2.1 = subst (λ (at : Place). Scaled at false p ys r.2.0 r.2.1) (path_place q) r.2.2 in
      sum_atom ys zs r.1 r.0 t q (lin (scaled_term (place_of xs) false p xs ys r.2.1 r.2.0 q d) r.2.3) r.3

  equated_atom : (b : ℕ) (s : Token) (ys zs : Tokens) (t : GuardExpr) → Path xs p (s ∷ ys) → IsSign b s → IsTrue (is_equality b) → Equated p b ys t zs → Atom xs t zs
  equated_atom b s ys zs t q h i (to_null n) = subst (λ (at : Place). Atom xs (guard_at at (made.NullTest p (b == sign.EQUAL))) zs) (sym (path_place q)) (null_test q (equality_is b s h i) n)
  equated_atom b s ys zs t q h i (to_sum {right = right} r) =
      subst (λ (at : Place). Atom xs (compared_at at (summand_at at false None (Some p) ∷ []) b right) zs) (sym (path_place q)) (comparison (lin (variable q) terms_end) h (equality_comparison b i) r)

  path_atom : (ys zs : Tokens) (t : GuardExpr) → Path xs p ys → Pathed p ys t zs → Atom xs t zs
  path_atom ys zs t q (of_class h (tested {class = class} n unnamed)) = subst (λ (at : Place). Atom xs (guard_at at (made.Is p class None)) zs) (sym (path_place q)) (class_test q h n)
  path_atom ys zs t q (of_class h (tested {class = class} n (named_so {name = name} b m))) = subst (λ (at : Place). Atom xs (guard_at at (made.Is p class (Some name))) zs) (sym (path_place q)) (class_alias q h n b m)
  path_atom ys zs t q (of_name h (aliased {name = name} n)) = subst (λ (at : Place). Atom xs (guard_at at (made.Alias p name)) zs) (sym (path_place q)) (alias q h n)
  path_atom ys zs t q (of_equality {b = b} {s = s} {xs = ws} h i r) = equated_atom b s ws zs t q h i r
  path_atom ys zs t q (of_sum r) = measured_atom ys zs t q r
  path_atom ys zs t q of_flag = subst (λ (at : Place). Atom xs (guard_at at (made.Flag p)) zs) (sym (path_place q)) (flag q)

pathed_starts : (p : PathText) (ys zs : Tokens) (t : GuardExpr) → Pathed p ys t zs → Ends (ends_join 0) zs → Ends ends_path ys
pathed_starts p ys zs t (of_class h r) e = ap path_kind h
pathed_starts p ys zs t (of_name h r) e = ap path_kind h
pathed_starts p ys zs t (of_equality {b = b} h i r) e = ap path_kind h ∙ goes_path (k.Sign b) (comparison_goes b (equality_comparison b i))
pathed_starts p [] zs t (of_sum r) e = absurd (measured_begins p t [] zs r)
pathed_starts p (y ∷ ys) zs t (of_sum r) e = goes_path (kind_of_token y) (measured_begins p t (y ∷ ys) zs r)
pathed_starts p ys zs t of_flag e = each join_path zs e

path_joint : Joint Path Pathed ends_path (ends_join 0) Any Any
path_joint = record {
  starts = λ p ys zs t r e. pathed_starts p ys zs t r e;
  down = λ p ys zs t r q. tt;
  close = [];
  follows = λ zs e. each join_path zs e;
  closed = λ p zs e. (flag_at p, of_flag, λ u. tt);
}

path_solid : (ys : Tokens) (t : GuardExpr) → Then Path Pathed ys t ys → ⊥
path_solid ys t r = let a = path_shorter r.2 in let b = pathed_shorter r.3 in absurd (omega (arith, a, b))

root_number : (s : Token) → IsTrue (is_root (kind_of_token s)) → (value : ℕ) (hex : Bool) → IsNumber value hex s → ⊥
root_number s b value hex i = let g : is_root (kind_of_token s) ≡ false = ap (λ l. is_root (kind_of_lexeme l)) i in cc

module _ (s : Token) (root : IsTrue (is_root (kind_of_token s))) where
  no_kind : (kind : Kind) → Is kind s → is_root kind ≡ false → ⊥
  no_kind kind h f = let g : is_root (kind_of_token s) ≡ is_root kind = ap is_root h in cc

  moved : (f : Place → GuardExpr) (p : PathText) (ys zs ws : Tokens) → Path (s ∷ ys) p ws → Pathed p ws (f p.place) zs → Pathed p ws (f s.place) zs
  moved f p ys zs ws q r = subst (λ (at : Place). Pathed p ws (f at) zs) (path_place q) r

  lin_measured : (ys ws zs : Tokens) (left : List Summand) (t : GuardExpr) → Lin (s ∷ ys) left ws → Compared s.place left ws t zs → Then Path Pathed (s ∷ ys) t zs
  lin_measured ys ws zs left t (lin_negative h a r) c = absurd (no_kind (k.Sign sign.MINUS) h refl)
  lin_measured ys ws zs left t (lin {ys = vs} {a = a} d r) c =
      let w = term_scaled s.place false s ys vs a (root_number s root) d in
      let at : s.place ≡ w.0.place = sym (path_place w.2) in
      (w.0, w.1, w.2, of_sum (left, ws, (a, vs, subst (λ (x : Place). Scaled x false w.0 w.1 a vs) at w.3, r), subst (λ (x : Place). Compared x left ws t zs) at c))

  path_from : (ys zs : Tokens) (t : GuardExpr) → Atom (s ∷ ys) t zs → Then Path Pathed (s ∷ ys) t zs
  path_from ys zs t (truth h) = absurd (no_kind k.True h refl)
  path_from ys zs t (falsehood h) = absurd (no_kind k.False h refl)
  path_from ys zs t (class_test {p = p} {class = class} q h n) = (p, _, q, moved (λ (at : Place). guard_at at (made.Is p class None)) p ys zs _ q (of_class h (tested n unnamed)))
  path_from ys zs t (class_alias {p = p} {class = class} {name = name} q h n b m) = (p, _, q, moved (λ (at : Place). guard_at at (made.Is p class (Some name))) p ys zs _ q (of_class h (tested n (named_so b m))))
  path_from ys zs t (alias {p = p} {name = name} q b m) = (p, _, q, moved (λ (at : Place). guard_at at (made.Alias p name)) p ys zs _ q (of_name b (aliased m)))
  path_from ys zs t (null_test {equal = true} {p = p} q h n) = (p, _, q, moved (λ (at : Place). guard_at at (made.NullTest p true)) p ys zs _ q (of_equality {b = sign.EQUAL} h refl (to_null n)))
  path_from ys zs t (null_test {equal = false} {p = p} q h n) = (p, _, q, moved (λ (at : Place). guard_at at (made.NullTest p false)) p ys zs _ q (of_equality {b = sign.NOT_EQUAL} h refl (to_null n)))
  path_from ys zs t (comparison {left = left} l h c r) = lin_measured ys _ zs left t l (compared h c r)
  path_from ys zs t (flag {p = p} q) = (p, _, q, moved (λ (at : Place). guard_at at (made.Flag p)) p ys zs _ q of_flag)

  path_choice : Choice s (Then Path Pathed) Atom (λ _. ends_join 0)
  path_choice = record {
    into = λ ys zs t r. path_atom r.0 ys r.1 zs t r.2 r.3;
    from = λ ys zs t r e. path_from ys zs t r;
    solid = λ ys t r. path_solid ys t r;
  }

module _ (s : Token) (xs tokens : Tokens) (split : tokens ≡ s ∷ xs) (root : IsTrue (is_root (kind_of_token s))) where
  pub root_fails : (e : ParseFault) → Fails Path (λ _. ends_path) ends_path Any tokens e → Fails Atom (λ _. ends_join 0) (ends_join 0) Any tokens e
  root_fails e f = subst (λ (x : Tokens). Fails Atom (λ _. ends_join 0) (ends_join 0) Any x e) (sym split)
      (all_choice (path_choice s root) xs (Err e) (all_begun path_joint (s ∷ xs) e (subst (λ (x : Tokens). Fails Path (λ _. ends_path) ends_path Any x e) split f)))

  pub root_gives : (p : PathText) (ys : Tokens) (r : ReadAtom) → Found Path (λ _. ends_path) tokens p ys → GivesAll (Pathed p) (ends_join 0) ys r → GivesAll Atom (ends_join 0) tokens r
  root_gives p ys r g f = subst (λ (x : Tokens). GivesAll Atom (ends_join 0) x r) (sym split)
      (all_choice (path_choice s root) xs r (all_then path_joint (s ∷ xs) ys p r (subst (λ (x : Tokens). Found Path (λ _. ends_path) x p ys) split g) f))

-- ---- comparisons that begin with no path

root_simple : (kind : Kind) → IsTrue (is_root kind) → IsTrue (is_simple kind)
root_simple k.This h = refl
root_simple k.Name h = refl
root_simple _ h = cc

module _ (s : Token) (other : IsTrue (is_simple (kind_of_token s)) → ⊥) where
  no_path : (p : PathText) (ys zs : Tokens) → Path (s ∷ ys) p zs → ⊥
  no_path p ys zs q = other (root_simple (kind_of_token s) (path_begins q))

  sums_into : (xs ws zs : Tokens) (at : Place) (left : List Summand) (t : GuardExpr) → at ≡ place_of xs → Lin xs left ws → Compared at left ws t zs → Atom xs t zs
  sums_into xs ws zs at left t e l (compared {right = right} {b = b} h i r) = subst (λ (x : Place). Atom xs (compared_at x left b right) zs) (sym e) (comparison l h i r)

  sums_from : (ys zs : Tokens) (t : GuardExpr) → Atom (s ∷ ys) t zs → Then (Placed Lin) (λ x. Compared x.0 x.1) (s ∷ ys) t zs
  sums_from ys zs t (truth h) = absurd (other (ap is_simple h))
  sums_from ys zs t (falsehood h) = absurd (other (ap is_simple h))
  sums_from ys zs t (class_test {p = p} q h n) = absurd (no_path p ys _ q)
  sums_from ys zs t (class_alias {p = p} q h n b m) = absurd (no_path p ys _ q)
  sums_from ys zs t (alias {p = p} q b m) = absurd (no_path p ys _ q)
  sums_from ys zs t (null_test {p = p} q h n) = absurd (no_path p ys _ q)
  sums_from ys zs t (comparison {left = left} l h c r) = ((s.place, left), _, (refl, l), compared h c r)
  sums_from ys zs t (flag {p = p} q) = absurd (no_path p ys _ q)

  sums_solid : (ys : Tokens) (t : GuardExpr) → Then (Placed Lin) (λ x. Compared x.0 x.1) ys t ys → ⊥
  sums_solid ys t r = let a = lin_shorter r.2.1 in let b = compared_shorter r.3 in absurd (omega (arith, a, b))

  sums_choice : Choice s (Then (Placed Lin) (λ x. Compared x.0 x.1)) Atom (λ _. ends_join 0)
  sums_choice = record {
    into = λ ys zs t r. sums_into ys r.1 zs r.0.0 r.0.1 t r.2.0 r.2.1 r.3;
    from = λ ys zs t r e. sums_from ys zs t r;
    solid = λ ys t r. sums_solid ys t r;
  }

sums_joint : Joint (Placed Lin) (λ x. Compared x.0 x.1) ends_sum (ends_join 0) Any Any
sums_joint = record {
  starts = λ x ys zs t r e. compared_starts x.0 x.1 ys zs t r;
  down = λ x ys zs t r q. tt;
  close = a_sign sign.LESS ∷ a_number ∷ [];
  follows = λ zs e. refl;
  closed = λ x zs e. (_, less_number x.0 x.1 zs, λ u. tt);
}

module _ (s : Token) (xs tokens : Tokens) (split : tokens ≡ s ∷ xs) (other : IsTrue (is_simple (kind_of_token s)) → ⊥) where
  pub sums_fails : (e : ParseFault) → Fails Lin (λ _. ends_sum) ends_sum Any tokens e → Fails Atom (λ _. ends_join 0) (ends_join 0) Any tokens e
  sums_fails e f = subst (λ (x : Tokens). Fails Atom (λ _. ends_join 0) (ends_join 0) Any x e) (sym split)
      (all_choice (sums_choice s other) xs (Err e) (all_begun sums_joint (s ∷ xs) e (fails_placed Lin ends_sum Any (s ∷ xs) e (subst (λ (x : Tokens). Fails Lin (λ _. ends_sum) ends_sum Any x e) split f))))

  pub sums_gives : (left : List Summand) (ys : Tokens) (r : ReadAtom) → Found Lin (λ _. ends_sum) tokens left ys → GivesAll (Compared s.place left) (ends_join 0) ys r → GivesAll Atom (ends_join 0) tokens r
  sums_gives left ys r g f = subst (λ (x : Tokens). GivesAll Atom (ends_join 0) x r) (sym split)
      (all_choice (sums_choice s other) xs r (all_then sums_joint (s ∷ xs) ys (s.place, left) r (found_placed lin_solid (subst (λ (x : Tokens). Found Lin (λ _. ends_sum) x left ys) split g)) f))

-- ---- truths

truth_reads : (value : Bool) (s : Token) (ys : Tokens) → Is (truth_kind value) s → Atom (s ∷ ys) (truth_guard s.place value) ys
truth_reads true s ys h = truth h
truth_reads false s ys h = falsehood h

truth_begins : (value : Bool) (s : Token) → Is (truth_kind value) s → (is_root (kind_of_token s) ≡ false) × (begins_sum (kind_of_token s) ≡ false)
truth_begins true s h = (ap is_root h, ap begins_sum h)
truth_begins false s h = (ap is_root h, ap begins_sum h)

truth_same : (value value' : Bool) (s : Token) → Is (truth_kind value) s → Is (truth_kind value') s → value' ≡ value
truth_same true true s h i = refl
truth_same true false s h i = cc
truth_same false true s h i = cc
truth_same false false s h i = refl

module _ (value : Bool) (s : Token) (h : Is (truth_kind value) s) where
  truth_path : (p : PathText) (ys zs : Tokens) → Path (s ∷ ys) p zs → ⊥
  truth_path p ys zs q = let b : IsTrue (is_root (kind_of_token s)) = path_begins q in let g = (truth_begins value s h).0 in cc

  truth_sum : (left : List Summand) (ys zs : Tokens) → Lin (s ∷ ys) left zs → ⊥
  truth_sum left ys zs l = let b : IsTrue (begins_sum (kind_of_token s)) = lin_begins l in let g = (truth_begins value s h).1 in cc

  truth_only : (ys zs : Tokens) (t : GuardExpr) → Atom (s ∷ ys) t zs → (t ≡ truth_guard s.place value) × (zs ≡ ys)
  truth_only ys zs t (truth i) = (ap (truth_guard s.place) (truth_same value true s h i), refl)
  truth_only ys zs t (falsehood i) = (ap (truth_guard s.place) (truth_same value false s h i), refl)
  truth_only ys zs t (class_test {p = p} q i n) = absurd (truth_path p ys _ q)
  truth_only ys zs t (class_alias {p = p} q i n b m) = absurd (truth_path p ys _ q)
  truth_only ys zs t (alias {p = p} q b m) = absurd (truth_path p ys _ q)
  truth_only ys zs t (null_test {p = p} q i n) = absurd (truth_path p ys _ q)
  truth_only ys zs t (comparison {left = left} l i c r) = absurd (truth_sum left ys _ l)
  truth_only ys zs t (flag {p = p} q) = absurd (truth_path p ys _ q)

  pub truth_found : (xs : Tokens) → Found Atom (λ _. ends_join 0) (s ∷ xs) (truth_guard s.place value) xs
  truth_found xs = record {
    front = s ∷ [];
    split = refl;
    reads = λ ys f. truth_reads value s ys h;
    only = λ ys zs t f r e. truth_only ys zs t r;
  }

-- ---- the same, where the first token isn't named

pub path_atom_fails : (tokens : Tokens) (e : ParseFault) → Begins is_root tokens → Fails Path (λ _. ends_path) ends_path Any tokens e → Fails Atom (λ _. ends_join 0) (ends_join 0) Any tokens e
path_atom_fails [] e b f = absurd b
path_atom_fails (s ∷ xs) e b f = root_fails s xs (s ∷ xs) refl b e f

pub path_atom_gives : (tokens ys : Tokens) (p : PathText) (r : ReadAtom) → Begins is_root tokens → Found Path (λ _. ends_path) tokens p ys → GivesAll (Pathed p) (ends_join 0) ys r → GivesAll Atom (ends_join 0) tokens r
path_atom_gives [] ys p r b g f = absurd b
path_atom_gives (s ∷ xs) ys p r b g f = root_gives s xs (s ∷ xs) refl b p ys r g f
