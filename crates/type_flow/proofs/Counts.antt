-- How many variables are in scope at once, where more than 256 count as so many.
use Rattle.std.proofs.Common.{◌≡◌, ℕ, ◌+◌, ◌<◌, ◌≤◌, max, List, ◌∷◌, map, drop, length, get_or, Option, refl, sym, ap, ◌∙◌, arith}
use Rattle.std.specs.Option.{option_map}
use Rattle.std.proofs.lemmas.List.{at_drop_more, drop_all}
use Rattle.jp_ast.specs.declared.expr.Expr.{Expr}
use Rattle.jp_ast.specs.declared.stmt.Stmt.{Stmt}
use Rattle.jp_ast.specs.declared.stmt.StmtKind.TheVariants as run
use Rattle.type_rules.specs.declared.scope.Scope.{Scope}
use Rattle.type_rules.specs.Statements.{Flow, count, in_loop, flow_most, after_init, most_along, flow}
use Rattle.type_flow.specs.Room.{up_to}
use Rattle.type_flow.proofs.Shapes.{flow_for}

-- the greater of two
pub up_to_max : (m n a b : ℕ) → up_to m ≡ a → up_to n ≡ b → up_to (max m n) ≡ max a b
up_to_max m n a b e f = omega arith

-- a loop with `for`
pub for_counted : (x : Stmt) (init : Option Stmt) (test : Option Expr) (change : Option Stmt) (a : Stmt) (c : Scope) (before inside changing body one all : ℕ) → x.kind ≡ run.For init test change a →
    up_to (flow_most (option_map flow init) c) ≡ before → up_to (count (after_init (option_map flow init) c)) ≡ inside →
    ((d : Scope) → up_to (count d) ≡ inside → up_to (flow_most (option_map flow change) d) ≡ changing) → ((d : Scope) → up_to (count d) ≡ inside → up_to (flow a d).most ≡ body) →
    one ≡ max changing body → all ≡ max before one → up_to (flow x c).most ≡ all
for_counted x init test change a c before inside changing body one all h b i g f m n =
    let d : Scope = after_init (option_map flow init) c in
    ap (λ (w : Scope → Flow). up_to (w c).most) (flow_for x init test change a h)
    ∙ (up_to_max (flow_most (option_map flow init) c) (max (flow_most (option_map flow change) d) (flow a (in_loop d)).most) before one b
    (up_to_max (flow_most (option_map flow change) d) (flow a (in_loop d)).most changing body (g d i) (f (in_loop d) i) ∙ sym m) ∙ sym n)

-- some statements are counted, and the others are left
pub record Counting (c : Scope) (xs left : List Stmt) (most now : ℕ) : Type 0 where
  pub scope : Scope
  pub here : up_to (count scope) ≡ now
  pub so_far : ℕ
  pub most_is : up_to so_far ≡ most
  pub same : most_along (count c) (map flow xs) c ≡ most_along so_far (map flow left) scope

pub none_counted : (c : Scope) (xs : List Stmt) (begin : ℕ) → up_to (count c) ≡ begin → Counting c xs xs begin begin
none_counted c xs begin e = record { scope = c; here = e; so_far = count c; most_is = e; same = refl }

pub one_counted : (c : Scope) (xs : List Stmt) (i : ℕ) (x : Stmt) (most now inner more behind : ℕ) → i < length xs → x ≡ get_or xs i x → Counting c xs (drop i xs) most now →
    ((d : Scope) → up_to (count d) ≡ now → up_to (flow x d).most ≡ inner) → ((d : Scope) → up_to (count d) ≡ now → up_to (count (flow x d).after) ≡ behind) → more ≡ max most inner → Counting c xs (drop (i + 1) xs) more behind
one_counted c xs i x most now inner more behind l e a f g m = record {
  scope = (flow x a.scope).after;
  here = g a.scope a.here;
  so_far = max a.so_far (flow x a.scope).most;
  most_is = up_to_max a.so_far (flow x a.scope).most most inner a.most_is (f a.scope a.here) ∙ sym m;
  same = a.same ∙ ap (λ (ys : List Stmt). most_along a.so_far (map flow ys) a.scope) (at_drop_more (λ (ys : List Stmt). ys) xs i x l ∙ ap (λ (y : Stmt). y ∷ drop (i + 1) xs) (sym e));
}

pub all_counted : (c : Scope) (xs : List Stmt) (i most now : ℕ) → length xs ≤ i → Counting c xs (drop i xs) most now → up_to (most_along (count c) (map flow xs) c) ≡ most
all_counted c xs i most now l a =
    ap up_to (a.same ∙ ap (λ (ys : List Stmt). most_along a.so_far (map flow ys) a.scope) (drop_all i xs l)) ∙ a.most_is
