-- What every part of a guard has: the tokens that it begins with, the tokens that it takes, and its place.
use Rattle.std.proofs.Common.{◌≡◌, ℕ, zero, suc, ◌+◌, ◌<◌, ◌≤◌, Bool, true, false, ◌||◌, ◌==◌, IsTrue, List, [], ◌∷◌, ◌++◌, length, Option, Some, None, refl, sym, ap, ◌∙◌, subst, inl, inr, ◌⊎◌, arith}
use Rattle.jp_ast.specs.declared.token.Place.{Place}
use Rattle.jp_ast.specs.declared.token.Token.{Token}
use Rattle.jp_ast.specs.declared.guard.PathText.{PathText}
use Rattle.jp_ast.specs.declared.guard.Summand.{Summand}
use Rattle.jp_ast.specs.declared.guard.GuardExpr.{GuardExpr}
use Rattle.jp_ast.specs.declared.guard.GuardKind.TheVariants as made
use Rattle.jp_ast.specs.declared.sign.TheConstants as sign
use Rattle.jp_grammar.specs.declared.kind.Kind.{Kind}
use Rattle.jp_grammar.specs.declared.kind.Kind.TheVariants as k
use Rattle.jp_grammar.specs.Kinds.{Is, IsSign, IsName, IsNumber, Tokens, nowhere, place_of, kind_of_token, kind_of_lexeme}
use Rattle.jp_grammar.specs.Guards.{Path, PathSteps, Term, Lin, Terms, Atom, Level, Chain, Gun, Closed, IsRoot, IsSummandSign, root_at, step_to, summand_at, truth_guard, path, path_end, path_step, constant, variable, factor_first, factor_last, lin_negative, lin, terms_end, terms_more, truth, falsehood, class_test, class_alias, alias, null_test, comparison, flag, strongest, weaker, chain_end, chain_sign, opposite, parenthesis, atom, closed}
use Rattle.jp_grammar.specs.Reading.{Ends, Begins}
use Rattle.jp_grammar.specs.Depth.{guard_depth}
use Rattle.jp_grammar.proofs.Samples.{a_number, a_name, a_name_is, a_sign}
use Rattle.jp_parse_expr.specs.GuardParts.{Scaled, Multiplied, Begun, Summed, Compared, Equated, Classed, Tested, Aliased, Measured, Pathed, unscaled, scaled, unmultiplied, multiplied, compared, to_null, to_sum, unnamed, named_so, tested, aliased, of_class, of_name, of_equality, of_sum, of_flag, is_root, is_simple, goes_on}
use Rattle.jp_parse_expr.proofs.GuardDepths.{depth_truth, depth_not, depth_joined, depth_class, depth_alias, depth_null, depth_flag, depth_compared}
use Rattle.jp_parse_expr.proofs.GuardEnds.{comparison_goes}

-- ---- the tokens that they take

pub steps_shorter : {p q : PathText} {xs zs : Tokens} → PathSteps p xs q zs → length zs ≤ length xs
steps_shorter path_end = omega arith
steps_shorter (path_step h n r) = let a = steps_shorter r in omega arith

pub path_shorter : {p : PathText} {xs zs : Tokens} → Path xs p zs → length zs < length xs
path_shorter (path h r) = let a = steps_shorter r in omega arith

pub term_shorter : {at : Place} {negative : Bool} {a : Summand} {xs zs : Tokens} → Term at negative xs a zs → length zs < length xs
term_shorter (constant h) = omega arith
term_shorter (variable p) = path_shorter p
term_shorter (factor_first h m p) = let a = path_shorter p in omega arith
term_shorter (factor_last p m h) = let a = path_shorter p in omega arith

pub terms_shorter : {begun sum : List Summand} {xs zs : Tokens} → Terms begun xs sum zs → length zs ≤ length xs
terms_shorter terms_end = omega arith
terms_shorter (terms_more h a r) = let b = term_shorter a in let c = terms_shorter r in omega arith

pub lin_shorter : {sum : List Summand} {xs zs : Tokens} → Lin xs sum zs → length zs < length xs
lin_shorter (lin_negative h a r) = let b = term_shorter a in let c = terms_shorter r in omega arith
lin_shorter (lin a r) = let b = term_shorter a in let c = terms_shorter r in omega arith

pub scaled_shorter : {at : Place} {negative : Bool} {p : PathText} {a : Summand} {xs zs : Tokens} → Scaled at negative p xs a zs → length zs ≤ length xs
scaled_shorter unscaled = omega arith
scaled_shorter (scaled m h) = omega arith

pub compared_shorter : {at : Place} {left : List Summand} {xs zs : Tokens} {t : GuardExpr} → Compared at left xs t zs → length zs < length xs
compared_shorter (compared h i r) = let a = lin_shorter r in omega arith

equated_shorter : {p : PathText} {b : ℕ} {xs zs : Tokens} {t : GuardExpr} → Equated p b xs t zs → length zs ≤ length xs
equated_shorter (to_null n) = omega arith
equated_shorter (to_sum r) = let a = lin_shorter r in omega arith

classed_shorter : {p : PathText} {class : List ℕ} {xs zs : Tokens} {t : GuardExpr} → Classed p class xs t zs → length zs ≤ length xs
classed_shorter unnamed = omega arith
classed_shorter (named_so h n) = omega arith

pub pathed_shorter : {p : PathText} {xs zs : Tokens} {t : GuardExpr} → Pathed p xs t zs → length zs ≤ length xs
pathed_shorter (of_class h (tested n r)) = let a = classed_shorter r in omega arith
pathed_shorter (of_name h (aliased n)) = omega arith
pathed_shorter (of_equality h i r) = let a = equated_shorter r in omega arith
pathed_shorter (of_sum r) = let a = scaled_shorter r.2.2 in let b = terms_shorter r.2.3 in let c = compared_shorter r.3 in omega (arith, a, b, c)
pathed_shorter of_flag = omega arith

pub atom_shorter : {xs zs : Tokens} {t : GuardExpr} → Atom xs t zs → length zs < length xs
atom_shorter (truth h) = omega arith
atom_shorter (falsehood h) = omega arith
atom_shorter (class_test p h n) = let a = path_shorter p in omega arith
atom_shorter (class_alias p h n b m) = let a = path_shorter p in omega arith
atom_shorter (alias p b m) = let a = path_shorter p in omega arith
atom_shorter (null_test p h n) = let a = path_shorter p in omega arith
atom_shorter (comparison l h c r) = let a = lin_shorter l in let b = lin_shorter r in omega arith
atom_shorter (flag p) = path_shorter p

mutual
  pub level_shorter : {n : ℕ} {xs zs : Tokens} {t : GuardExpr} → Level n xs t zs → length zs < length xs
  level_shorter (strongest g) = gun_shorter g
  level_shorter (weaker l c) = let a = level_shorter l in let b = chain_shorter c in omega arith

  pub chain_shorter : {at : Place} {n : ℕ} {l t : GuardExpr} {xs zs : Tokens} → Chain at n l xs t zs → length zs ≤ length xs
  chain_shorter chain_end = omega arith
  chain_shorter (chain_sign h l c) = let a = level_shorter l in let b = chain_shorter c in omega arith

  pub gun_shorter : {xs zs : Tokens} {t : GuardExpr} → Gun xs t zs → length zs < length xs
  gun_shorter (opposite h g) = let a = gun_shorter g in omega arith
  gun_shorter (parenthesis h c) = let a = closed_shorter c in omega arith
  gun_shorter (atom a) = atom_shorter a

  pub closed_shorter : {xs zs : Tokens} {t : GuardExpr} → Closed xs t zs → length zs < length xs
  closed_shorter (closed l h) = let a = level_shorter l in omega arith

pub level_solid : (n : ℕ) (xs : Tokens) (t : GuardExpr) → Level n xs t xs → ⊥
level_solid n xs t r = let h = level_shorter r in absurd (omega arith)

pub lin_solid : (xs : Tokens) (sum : List Summand) → Lin xs sum xs → ⊥
lin_solid xs sum r = let h = lin_shorter r in absurd (omega arith)

-- ---- what they begin with

root_is : (s : Token) {word : List ℕ} → IsRoot word s → IsTrue (is_root (kind_of_token s))
root_is s (e, inl h) = ap is_root h
root_is s (e, inr h) = ap is_root h

pub path_begins : {p : PathText} {xs zs : Tokens} → Path xs p zs → Begins is_root xs
path_begins (path {s = s} h r) = root_is s h

-- a term begins with it
abbrev pub begins_term : Kind → Bool
begins_term k.Number = true
begins_term kind = is_root kind

root_term : (kind : Kind) → IsTrue (is_root kind) → IsTrue (begins_term kind)
root_term k.This h = refl
root_term k.Name h = refl
root_term _ h = cc

pub root_term_all : (xs : Tokens) → Begins is_root xs → Begins begins_term xs
root_term_all [] h = h
root_term_all (s ∷ xs) h = root_term (kind_of_token s) h

pub term_begins : {at : Place} {negative : Bool} {a : Summand} {xs zs : Tokens} → Term at negative xs a zs → Begins begins_term xs
term_begins (constant h) = ap (λ l. begins_term (kind_of_lexeme l)) h
term_begins {xs = xs} (variable p) = root_term_all xs (path_begins p)
term_begins (factor_first h m p) = ap (λ l. begins_term (kind_of_lexeme l)) h
term_begins {xs = xs} (factor_last p m h) = root_term_all xs (path_begins p)

-- a sum begins with it
abbrev pub begins_sum : Kind → Bool
begins_sum (k.Sign b) = b == sign.MINUS
begins_sum kind = begins_term kind

term_sum : (kind : Kind) → IsTrue (begins_term kind) → IsTrue (begins_sum kind)
term_sum k.Number h = refl
term_sum k.This h = refl
term_sum k.Name h = refl
term_sum _ h = cc

pub lin_begins : {sum : List Summand} {xs zs : Tokens} → Lin xs sum zs → Begins begins_sum xs
lin_begins (lin_negative h a r) = ap begins_sum h
lin_begins {xs = []} (lin a r) = absurd (term_begins a)
lin_begins {xs = s ∷ xs} (lin a r) = term_sum (kind_of_token s) (term_begins a)

-- an atom begins with it
abbrev pub begins_atom : Kind → Bool
begins_atom k.True = true
begins_atom k.False = true
begins_atom kind = begins_sum kind

sum_atom : (kind : Kind) → IsTrue (begins_sum kind) → IsTrue (begins_atom kind)
sum_atom (k.Sign b) h = h
sum_atom k.Number h = refl
sum_atom k.This h = refl
sum_atom k.Name h = refl
sum_atom _ h = cc

sum_atom_all : (xs : Tokens) → Begins begins_sum xs → Begins begins_atom xs
sum_atom_all [] h = h
sum_atom_all (s ∷ xs) h = sum_atom (kind_of_token s) h

root_atom_all : (xs : Tokens) → Begins is_root xs → Begins begins_atom xs
root_atom_all [] h = h
root_atom_all (s ∷ xs) h = sum_atom (kind_of_token s) (term_sum (kind_of_token s) (root_term (kind_of_token s) h))

pub atom_begins : {xs zs : Tokens} {t : GuardExpr} → Atom xs t zs → Begins begins_atom xs
atom_begins (truth h) = ap begins_atom h
atom_begins (falsehood h) = ap begins_atom h
atom_begins {xs = xs} (class_test p h n) = root_atom_all xs (path_begins p)
atom_begins {xs = xs} (class_alias p h n b m) = root_atom_all xs (path_begins p)
atom_begins {xs = xs} (alias p b m) = root_atom_all xs (path_begins p)
atom_begins {xs = xs} (null_test p h n) = root_atom_all xs (path_begins p)
atom_begins {xs = xs} (comparison l h c r) = sum_atom_all xs (lin_begins l)
atom_begins {xs = xs} (flag p) = root_atom_all xs (path_begins p)

pub scaled_begins : {at : Place} {negative : Bool} {p : PathText} {a : Summand} {begun sum : List Summand} {place : Place} {t : GuardExpr} {xs ys ws zs : Tokens} →
    Scaled at negative p xs a ys → Terms begun ys sum ws → Compared place sum ws t zs → Begins goes_on xs
scaled_begins (scaled m h) r c = ap goes_on m
scaled_begins unscaled (terms_more {negative = true} h a r) c = ap goes_on h
scaled_begins unscaled (terms_more {negative = false} h a r) c = ap goes_on h
scaled_begins unscaled terms_end (compared {b = b} h i r) = ap goes_on h ∙ comparison_goes b i

pub measured_begins : (p : PathText) (t : GuardExpr) (xs zs : Tokens) → Measured p xs t zs → Begins goes_on xs
measured_begins p t xs zs r = scaled_begins r.2.2 r.2.3 r.3

-- ---- places

pub steps_place : {p q : PathText} {xs zs : Tokens} → PathSteps p xs q zs → q.place ≡ p.place
steps_place path_end = refl
steps_place (path_step h n r) = steps_place r

pub path_place : {p : PathText} {xs zs : Tokens} → Path xs p zs → p.place ≡ place_of xs
path_place (path h r) = steps_place r

-- ---- depths

pub atom_depth : {xs zs : Tokens} {t : GuardExpr} → Atom xs t zs → guard_depth t ≡ 1
atom_depth (truth {s = s} h) = depth_truth s.place true
atom_depth (falsehood {s = s} h) = depth_truth s.place false
atom_depth {xs = xs} (class_test {p = p} {class = class} q h n) = depth_class (place_of xs) p class None
atom_depth {xs = xs} (class_alias {p = p} {class = class} {name = name} q h n b m) = depth_class (place_of xs) p class (Some name)
atom_depth {xs = xs} (alias {p = p} {name = name} q b m) = depth_alias (place_of xs) p name
atom_depth {xs = xs} (null_test {equal = equal} {p = p} q h n) = depth_null (place_of xs) p equal
atom_depth {xs = xs} (comparison {b = b} {left = left} {right = right} l h c r) = depth_compared (place_of xs) left b right
atom_depth {xs = xs} (flag {p = p} q) = depth_flag (place_of xs) p

pub chain_depth : {at : Place} {n : ℕ} {l t : GuardExpr} {ys zs : Tokens} → Chain at n l ys t zs → guard_depth l ≤ guard_depth t
chain_depth chain_end = omega arith
chain_depth {at = at} {n = n} {l = l} (chain_sign {r = r} h p c) = let d = depth_joined at n l r in let e = chain_depth c in omega (arith, d, e)

-- ---- parts with which what is begun can be completed

pub lin_number : (zs : Tokens) → Lin (a_number ∷ zs) (summand_at nowhere false (Some (0, false)) None ∷ []) zs
lin_number zs = lin (constant refl) terms_end

abbrev pub a_path : PathText
a_path = root_at nowhere (97 ∷ [])

pub path_name : (zs : Tokens) → Path (a_name ∷ zs) a_path zs
path_name zs = path (a_name_is.0, inr a_name_is.1) path_end

abbrev pub a_guard : GuardExpr
a_guard = record { place = nowhere; kind = made.Flag a_path }

pub a_guard_depth : guard_depth a_guard ≡ 1
a_guard_depth = depth_flag nowhere a_path

pub gun_name : (zs : Tokens) → Gun (a_name ∷ zs) a_guard zs
gun_name zs = atom (flag (path_name zs))

pub level_name : (n : ℕ) (zs : Tokens) → Level n (a_name ∷ zs) a_guard zs
level_name zero zs = strongest (gun_name zs)
level_name (suc n) zs = weaker (level_name n zs) chain_end
