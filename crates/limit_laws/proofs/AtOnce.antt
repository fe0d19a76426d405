-- In a statement at most so many variables are in scope at once as before it, and as it declares locals in all.
use Rattle.std.proofs.Common.{◌≡◌, ℕ, ◌+◌, ◌≤◌, List, [], ◌∷◌, map, Option, Some, None, refl, sym, ap, subst, arith}
use Rattle.std.specs.Prelude.{sum, max}
use Rattle.std.specs.List.{sum_by}
use Rattle.std.specs.Option.{option_map}
use Rattle.std.proofs.lemmas.List.{length_push}
use Rattle.std.proofs.lemmas.List.Sums.{sum_by-cons}
use Rattle.jp_pred.specs.declared.ty.Ty.{Ty}
use Rattle.jp_pred.specs.Names.{Word}
use Rattle.jp_ast.specs.declared.token.Place.{Place}
use Rattle.jp_ast.specs.declared.stmt.Stmt.{Stmt}
use Rattle.jp_ast.specs.declared.stmt.StmtKind.{StmtKind, StmtKind-F}
use Rattle.jp_ast.specs.declared.stmt.StmtKind.TheOpen as s
use Rattle.jp_ast.specs.declared.stmt.StmtKind.TheFolds.{ind-Stmt, fold-StmtKind, fold-roll-Stmt, fold-roll-StmtKind, map-StmtKind}
use Rattle.jp_ast.specs.Counts.{or_zero}
use Rattle.type_rules.specs.declared.scope.Scope.{Scope}
use Rattle.type_rules.specs.declared.scope.Variable.{Variable}
use Rattle.type_rules.specs.Statements.{Flow, step_of, in_loop, count, after_init, flow_most, most_along, declared, flow_of, flow}
use Rattle.unit_limits.specs.Locals.{local_step, stmt_locals}

-- so many variables more, behind a statement and in it
abbrev Adds : ℕ → (Scope → Flow) → Type 0
Adds n f = (c : Scope) → (count (f c).after ≤ count c + n) × ((f c).most ≤ count c + n)

abbrev AddsOne : Type 0
AddsOne = (x : Stmt) × Adds (stmt_locals x) (flow x)

abbrev flows : List AddsOne → List (Scope → Flow)
flows xs = map flow (map (λ (x : AddsOne). x.0) xs)

abbrev locals_in : List AddsOne → List ℕ
locals_in xs = map stmt_locals (map (λ (x : AddsOne). x.0) xs)

abbrev maybe : Option AddsOne → Option (Scope → Flow)
maybe x = option_map flow (option_map (λ (x : AddsOne). x.0) x)

abbrev maybe_locals : Option AddsOne → ℕ
maybe_locals x = or_zero (option_map stmt_locals (option_map (λ (x : AddsOne). x.0) x))

none_more : (n k : ℕ) → n ≤ n + k
none_more n k = omega arith

as_many : (n : ℕ) → n ≤ n
as_many n = omega arith

-- ONE AFTER ANOTHER

sum_cons : (k : ℕ) (ks : List ℕ) → sum (k ∷ ks) ≡ k + sum ks
sum_cons k ks = sum_by-cons (λ x. x) k ks

first_within : (most inner now k l r n : ℕ) → r ≡ k + l → most ≤ n → inner ≤ now + k → now + r ≤ n → max most inner ≤ n
first_within most inner now k l r n e h i j = omega arith

rest_within : (behind now k l r n : ℕ) → r ≡ k + l → behind ≤ now + k → now + r ≤ n → behind + l ≤ n
rest_within behind now k l r n e h j = omega arith

along : (xs : List AddsOne) (most n : ℕ) (c : Scope) → most ≤ n → count c + sum (locals_in xs) ≤ n → most_along most (flows xs) c ≤ n
along [] most n c h j = h
along (x ∷ xs) most n c h j =
    let e = sum_cons (stmt_locals x.0) (locals_in xs) in
    let a = x.1 c in
    along xs (max most (flow x.0 c).most) n (flow x.0 c).after
    (first_within most (flow x.0 c).most (count c) (stmt_locals x.0) (sum (locals_in xs)) (sum (locals_in (x ∷ xs))) n e h a.1 j)
    (rest_within (count (flow x.0 c).after) (count c) (stmt_locals x.0) (sum (locals_in xs)) (sum (locals_in (x ∷ xs))) n e a.0 j)

block_within : (xs : List AddsOne) (c : Scope) → most_along (count c) (flows xs) c ≤ count c + sum (locals_in xs)
block_within xs c = along xs (count c) (count c + sum (locals_in xs)) c (none_more (count c) (sum (locals_in xs))) (as_many (count c + sum (locals_in xs)))

-- PARTS

init_behind : (x : Option AddsOne) (c : Scope) → count (after_init (maybe x) c) ≤ count c + maybe_locals x
init_behind None c = none_more (count c) 0
init_behind (Some x) c = (x.1 c).0

part_within : (x : Option AddsOne) (c : Scope) → flow_most (maybe x) c ≤ count c + maybe_locals x
part_within None c = none_more (count c) 0
part_within (Some x) c = (x.1 c).1

two_within : (a b n k l : ℕ) → a ≤ n + k → b ≤ n + l → max a b ≤ n + (k + l)
two_within a b n k l g h = omega arith

three_within : (a b d n inside k l j : ℕ) → inside ≤ n + k → a ≤ n + k → b ≤ inside + l → d ≤ inside + j → max a (max b d) ≤ n + (k + l + j)
three_within a b d n inside k l j e f g h = omega arith

if_within : (first : AddsOne) (second : Option AddsOne) (c : Scope) → max (flow first.0 c).most (flow_most (maybe second) c) ≤ count c + (stmt_locals first.0 + maybe_locals second)
if_within first second c = two_within (flow first.0 c).most (flow_most (maybe second) c) (count c) (stmt_locals first.0) (maybe_locals second) (first.1 c).1 (part_within second c)

for_within : (init change : Option AddsOne) (body : AddsOne) (c : Scope) →
    max (flow_most (maybe init) c) (max (flow_most (maybe change) (after_init (maybe init) c)) (flow body.0 (in_loop (after_init (maybe init) c))).most)
    ≤ count c + (maybe_locals init + maybe_locals change + stmt_locals body.0)
for_within init change body c =
    let d : Scope = after_init (maybe init) c in
    three_within (flow_most (maybe init) c) (flow_most (maybe change) d) (flow body.0 (in_loop d)).most (count c) (count d) (maybe_locals init) (maybe_locals change) (stmt_locals body.0)
    (init_behind init c) (part_within init c) (part_within change d) (body.1 (in_loop d)).1

one_more : (c : Scope) (t : Ty) (name : Word) → count (declared c t name) ≤ count c + 1
one_more c t name = let v : Variable = record { name = name; ty = t } in let e : count (declared c t name) ≡ count c + 1 = length_push c.variables v in omega arith

-- THE FOLD

abbrev step : StmtKind-F (Place → Scope → Flow) (Scope → Flow) → Place → Scope → Flow
step kind = flow_of (step_of kind)

abbrev kind_flow : StmtKind → Place → Scope → Flow
kind_flow = fold-StmtKind (Place → Scope → Flow) (Scope → Flow) step (λ x. x.kind x.place)

abbrev kind_locals : StmtKind → ℕ
kind_locals = fold-StmtKind ℕ ℕ local_step (λ x. x.kind)

abbrev AddsKind : Type 0
AddsKind = (k : StmtKind) × ((place : Place) → Adds (kind_locals k) (kind_flow k place))

layer : (y : StmtKind-F AddsKind AddsOne) (place : Place) →
    Adds (local_step (map-StmtKind StmtKind Stmt ℕ ℕ kind_locals stmt_locals (map-StmtKind AddsKind AddsOne StmtKind Stmt (λ k. k.0) (λ x. x.0) y)))
    (step (map-StmtKind StmtKind Stmt (Place → Scope → Flow) (Scope → Flow) kind_flow flow (map-StmtKind AddsKind AddsOne StmtKind Stmt (λ k. k.0) (λ x. x.0) y)) place)
layer (s.Block all) place c = (none_more (count c) (sum (locals_in all)), block_within all c)
layer s.Empty place c = (none_more (count c) 0, none_more (count c) 0)
layer (s.Local t name value) place c = (one_more c t name, as_many (count c + 1))
layer (s.If test first None) place c = (none_more (count c) _, if_within first None c)
layer (s.If test first (Some second)) place c = (none_more (count c) _, if_within first (Some second) c)
layer (s.While test body) place c = (none_more (count c) _, (body.1 (in_loop c)).1)
layer (s.For None test None body) place c = (none_more (count c) _, for_within None None body c)
layer (s.For None test (Some change) body) place c = (none_more (count c) _, for_within None (Some change) body c)
layer (s.For (Some init) test None body) place c = (none_more (count c) _, for_within (Some init) None body c)
layer (s.For (Some init) test (Some change) body) place c = (none_more (count c) _, for_within (Some init) (Some change) body c)
layer s.Break place c = (none_more (count c) 0, none_more (count c) 0)
layer s.Continue place c = (none_more (count c) 0, none_more (count c) 0)
layer (s.Return value) place c = (none_more (count c) 0, none_more (count c) 0)
layer (s.Assign left n right) place c = (none_more (count c) 0, none_more (count c) 0)
layer (s.Bump left up) place c = (none_more (count c) 0, none_more (count c) 0)
layer (s.Run x) place c = (none_more (count c) 0, none_more (count c) 0)

with_both : {A B : Type 0} (Q : A → B → Type 0) (x z : A) (y u : B) → x ≡ z → y ≡ u → Q z u → Q x y
with_both Q x z y u e f q = subst (λ v. Q v y) (sym e) (subst (λ v. Q z v) (sym f) q)

flow_adds : (x : Stmt) → Adds (stmt_locals x) (flow x)
flow_adds = ind-Stmt (λ k. (place : Place) → Adds (kind_locals k) (kind_flow k place)) (λ x. Adds (stmt_locals x) (flow x))
    (λ x y is. with_both (λ (f : ℕ) (g : Place → Scope → Flow). (place : Place) → Adds f (g place)) _ _ _ _ (fold-roll-StmtKind ℕ ℕ local_step (λ x. x.kind) x) (fold-roll-StmtKind (Place → Scope → Flow) (Scope → Flow) step (λ x. x.kind x.place) x)
    (subst (λ (z : StmtKind-F StmtKind Stmt). (place : Place) → Adds (local_step (map-StmtKind StmtKind Stmt ℕ ℕ kind_locals stmt_locals z)) (step (map-StmtKind StmtKind Stmt (Place → Scope → Flow) (Scope → Flow) kind_flow flow z) place)) is (layer y)))
    (λ x y is. with_both Adds _ _ _ _ (fold-roll-Stmt ℕ ℕ local_step (λ x. x.kind) x) (fold-roll-Stmt (Place → Scope → Flow) (Scope → Flow) step (λ x. x.kind x.place) x)
    (subst (λ (z : s.Stmt-F StmtKind Stmt). Adds (kind_locals z.kind) (kind_flow z.kind z.place)) is (y.kind.1 y.place)))

-- the statements of a block
pub most_within : (xs : List Stmt) (c : Scope) → most_along (count c) (map flow xs) c ≤ count c + sum_by stmt_locals xs
most_within xs c =
    subst (λ (fs : List (Scope → Flow)). most_along (count c) fs c ≤ count c + sum_by stmt_locals xs) (as_flows xs)
    (subst (λ (n : ℕ). most_along (count c) (flows (all xs)) c ≤ count c + n) (counted xs) (block_within (all xs) c)) where
      all : List Stmt → List AddsOne
      all [] = []
      all (x ∷ xs) = (x, flow_adds x) ∷ all xs

      as_flows : (xs : List Stmt) → flows (all xs) ≡ map flow xs
      as_flows [] = refl
      as_flows (x ∷ xs) = ap (λ (fs : List (Scope → Flow)). flow x ∷ fs) (as_flows xs)

      counted : (xs : List Stmt) → sum (locals_in (all xs)) ≡ sum_by stmt_locals xs
      counted [] = refl
      counted (x ∷ xs) =
          let a = sum_cons (stmt_locals x) (locals_in (all xs)) in
          let b : sum_by stmt_locals (x ∷ xs) ≡ stmt_locals x + sum_by stmt_locals xs = sum_by-cons stmt_locals x xs in
          let h = counted xs in omega arith
