-- Scopes behind statements, and room for their variables.
use Rattle.std.proofs.Common.{◌≡◌, ℕ, ◌+◌, ◌≤◌, max, Bool, List, [], ◌∷◌, ◌++◌, map, take, length, Option, Some, None, refl, sym, ap, ◌∙◌, subst, append_assoc, append-nil, arith}
use Rattle.std.specs.Option.{option_map}
use Rattle.std.proofs.lemmas.List.{length-append}
use Rattle.std.proofs.Math.Seq.{take-append_seam}
use Rattle.jp_pred.specs.declared.ty.Ty.{Ty}
use Rattle.jp_pred.specs.Names.{Word}
use Rattle.jp_ast.specs.declared.token.Place.{Place}
use Rattle.jp_ast.specs.declared.expr.Expr.{Expr}
use Rattle.jp_ast.specs.declared.stmt.Stmt.{Stmt, fold_out-Stmt}
use Rattle.jp_ast.specs.declared.stmt.StmtKind.{StmtKind-F, fold_out-StmtKind}
use Rattle.jp_ast.specs.declared.stmt.StmtKind.TheOpen as s
use Rattle.jp_ast.specs.declared.stmt.StmtKind.TheVariants as run
use Rattle.type_rules.specs.declared.scope.Scope.{Scope}
use Rattle.type_rules.specs.declared.scope.Variable.{Variable}
use Rattle.type_rules.specs.Statements.{Flow, step_of, count, in_loop, after_init, flow_most, scope_along, most_along, declared, scope_behind, flow_of, flow}
use Rattle.type_flow.proofs.Shapes.{flow_block, flow_empty, flow_local, flow_if, flow_while, flow_for, flow_break, flow_continue, flow_return, flow_assign, flow_bump, flow_alone}

-- WHAT IS DECLARED

-- the scope has more variables, and is else the same
abbrev pub Grows : Scope → Scope → Type 0
Grows c d = (more : List Variable) × (d ≡ record c { variables = c.variables ++ more })

grows_not : (c : Scope) → Grows c c
grows_not c = ([], ap (λ (vs : List Variable). record c { variables = vs }) (sym (append-nil c.variables)))

grows_then : (c d e : Scope) → Grows c d → Grows d e → Grows c e
grows_then c d e g h =
    (g.0 ++ h.0, h.1 ∙ (ap (λ (z : Scope). record z { variables = z.variables ++ h.0 }) g.1 ∙ ap (λ (vs : List Variable). record c { variables = vs }) (append_assoc c.variables g.0 h.0)))

step_grows : (y : StmtKind-F (Place → Scope → Flow) (Scope → Flow)) (c : Scope) → Grows c (scope_behind c (step_of y))
step_grows (s.Block all) c = grows_not c
step_grows s.Empty c = grows_not c
step_grows (s.Local t name value) c = (record { name = name; ty = t } ∷ [], refl)
step_grows (s.If test first second) c = grows_not c
step_grows (s.While test body) c = grows_not c
step_grows (s.For init test change body) c = grows_not c
step_grows s.Break c = grows_not c
step_grows s.Continue c = grows_not c
step_grows (s.Return value) c = grows_not c
step_grows (s.Assign left n right) c = grows_not c
step_grows (s.Bump left up) c = grows_not c
step_grows (s.Run x) c = grows_not c

-- what holds of every layer holds of each statement
by_layer : (P : (Scope → Flow) → Type 0) (x : Stmt) → ((y : StmtKind-F (Place → Scope → Flow) (Scope → Flow)) → P (flow_of (step_of y) x.place)) → P (flow x)
by_layer P x h = rw (fold_out-Stmt, fold_out-StmtKind) (h _)

pub grows_one : (x : Stmt) (c : Scope) → Grows c (flow x c).after
grows_one x c = by_layer (λ (f : Scope → Flow). Grows c (f c).after) x (λ y. step_grows y c)

pub grows_init : (x : Option Stmt) (c : Scope) → Grows c (after_init (option_map flow x) c)
grows_init None c = grows_not c
grows_init (Some x) c = grows_one x c

pub grows_along : (xs : List Stmt) (c : Scope) → Grows c (scope_along (map flow xs) c)
grows_along [] c = grows_not c
grows_along (x ∷ xs) c = grows_then c (flow x c).after (scope_along (map flow xs) (flow x c).after) (grows_one x c) (grows_along xs (flow x c).after)

-- back to the variables that were in scope before
pub back : (c d : Scope) → Grows c d → record d { variables = take (count c) d.variables } ≡ c
back c d g =
    ap (λ (z : Scope). record z { variables = take (count c) z.variables }) g.1 ∙ ap (λ (vs : List Variable). record c { variables = vs }) (take-append_seam c.variables g.0)

-- a scope that has grown, cut to the variables that were in scope before
restored : (c d e : Scope) (mark : ℕ) (vs : List Variable) → Grows c e → d ≡ e → mark ≡ count c → vs ≡ take mark d.variables → record d { variables = vs } ≡ c
restored c d e mark vs g f m t =
    ap (λ (us : List Variable). record d { variables = us }) (t ∙ ap (λ (k : ℕ). take k d.variables) m)
    ∙ (ap (λ (z : Scope). record z { variables = take (count c) z.variables }) f ∙ back c e g)

pub restored_one : (x : Stmt) (c d : Scope) (mark : ℕ) (vs : List Variable) → d ≡ (flow x c).after → mark ≡ count c → vs ≡ take mark d.variables → record d { variables = vs } ≡ c
restored_one x c d mark vs f m t = restored c d (flow x c).after mark vs (grows_one x c) f m t

pub restored_init : (x : Option Stmt) (c d : Scope) (mark : ℕ) (vs : List Variable) → d ≡ after_init (option_map flow x) c → mark ≡ count c → vs ≡ take mark d.variables → record d { variables = vs } ≡ c
restored_init x c d mark vs f m t = restored c d (after_init (option_map flow x) c) mark vs (grows_init x c) f m t

pub restored_along : (xs : List Stmt) (c d : Scope) (mark : ℕ) (vs : List Variable) → d ≡ scope_along (map flow xs) c → mark ≡ count c → vs ≡ take mark d.variables → record d { variables = vs } ≡ c
restored_along xs c d mark vs f m t = restored c d (scope_along (map flow xs) c) mark vs (grows_along xs c) f m t

-- ROOM

step_room : (y : StmtKind-F (Place → Scope → Flow) (Scope → Flow)) (p : Place) (c : Scope) (n : ℕ) → count c ≤ n → (flow_of (step_of y) p c).most ≤ n → count (scope_behind c (step_of y)) ≤ n
step_room (s.Block all) p c n h m = h
step_room s.Empty p c n h m = h
step_room (s.Local t name value) p c n h m = omega (arith, m, length-append c.variables (record { name = name; ty = t } ∷ []))
step_room (s.If test first second) p c n h m = h
step_room (s.While test body) p c n h m = h
step_room (s.For init test change body) p c n h m = h
step_room s.Break p c n h m = h
step_room s.Continue p c n h m = h
step_room (s.Return value) p c n h m = h
step_room (s.Assign left n' right) p c n h m = h
step_room (s.Bump left up) p c n h m = h
step_room (s.Run x) p c n h m = h

pub room_behind : (x : Stmt) (c : Scope) (n : ℕ) → count c ≤ n → (flow x c).most ≤ n → count (flow x c).after ≤ n
room_behind x c n = by_layer (λ (f : Scope → Flow). count c ≤ n → (f c).most ≤ n → count (f c).after ≤ n) x (λ y. step_room y x.place c n)

pub room_init : (x : Option Stmt) (c : Scope) (n : ℕ) → count c ≤ n → flow_most (option_map flow x) c ≤ n → count (after_init (option_map flow x) c) ≤ n
room_init None c n h m = h
room_init (Some x) c n h m = room_behind x c n h m

-- the greatest so far is within the greatest of all
pub most_more : (m : ℕ) (xs : List Stmt) (c : Scope) → m ≤ most_along m (map flow xs) c
most_more m [] c = omega arith
most_more m (x ∷ xs) c = omega (arith, most_more (max m (flow x c).most) xs (flow x c).after)

pub most_first : (m n : ℕ) (x : Stmt) (xs : List Stmt) (c : Scope) → most_along m (map flow (x ∷ xs)) c ≤ n → (flow x c).most ≤ n
most_first m n x xs c h = omega (arith, h, most_more (max m (flow x c).most) xs (flow x c).after)

module _ (x : Stmt) (c : Scope) (n : ℕ) (m : (flow x c).most ≤ n) where
  room_as : (k : ℕ) → (flow x c).most ≡ k → k ≤ n
  room_as k e = omega (arith, m, e)

  pub room_block : (xs : List Stmt) → x.kind ≡ run.Block xs → most_along (count c) (map flow xs) c ≤ n
  room_block xs h = room_as _ (ap (λ (f : Scope → Flow). (f c).most) (flow_block x xs h))

  pub room_local : (t : Ty) (name : Word) (value : Option Expr) → x.kind ≡ run.Local t name value → count c + 1 ≤ n
  room_local t name value h = room_as _ (ap (λ (f : Scope → Flow). (f c).most) (flow_local x t name value h))

  pub room_first : (test : Expr) (a : Stmt) (b : Option Stmt) → x.kind ≡ run.If test a b → (flow a c).most ≤ n
  room_first test a b h = omega (arith, room_as (max (flow a c).most (flow_most (option_map flow b) c)) (ap (λ (f : Scope → Flow). (f c).most) (flow_if x test a b h)))

  pub room_second : (test : Expr) (a : Stmt) (b : Option Stmt) → x.kind ≡ run.If test a b → flow_most (option_map flow b) c ≤ n
  room_second test a b h = omega (arith, room_as (max (flow a c).most (flow_most (option_map flow b) c)) (ap (λ (f : Scope → Flow). (f c).most) (flow_if x test a b h)))

  pub room_while : (test : Expr) (a : Stmt) → x.kind ≡ run.While test a → (flow a (in_loop c)).most ≤ n
  room_while test a h = room_as _ (ap (λ (f : Scope → Flow). (f c).most) (flow_while x test a h))

  module _ (init : Option Stmt) (test : Option Expr) (change : Option Stmt) (a : Stmt) (h : x.kind ≡ run.For init test change a) where
    room_for : max (flow_most (option_map flow init) c) (max (flow_most (option_map flow change) (after_init (option_map flow init) c)) (flow a (in_loop (after_init (option_map flow init) c))).most) ≤ n
    room_for = room_as _ (ap (λ (f : Scope → Flow). (f c).most) (flow_for x init test change a h))

    pub room_before : flow_most (option_map flow init) c ≤ n
    room_before = omega (arith, room_for)

    pub room_change : flow_most (option_map flow change) (after_init (option_map flow init) c) ≤ n
    room_change = omega (arith, room_for)

    pub room_body : (flow a (in_loop (after_init (option_map flow init) c))).most ≤ n
    room_body = omega (arith, room_for)

-- A STATEMENT THAT DECLARES NOTHING leaves its scope as it is

module _ (x : Stmt) (c : Scope) where
  after_as : (f : Scope → Flow) → flow x ≡ f → (flow x c).after ≡ (f c).after
  after_as f e = ap (λ (g : Scope → Flow). (g c).after) e

  pub after_block : (xs : List Stmt) → x.kind ≡ run.Block xs → (flow x c).after ≡ c
  after_block xs h = after_as _ (flow_block x xs h)

  pub after_empty : x.kind ≡ run.Empty → (flow x c).after ≡ c
  after_empty h = after_as _ (flow_empty x h)

  pub after_local : (t : Ty) (name : Word) (value : Option Expr) → x.kind ≡ run.Local t name value → (flow x c).after ≡ declared c t name
  after_local t name value h = after_as _ (flow_local x t name value h)

  pub after_if : (test : Expr) (a : Stmt) (b : Option Stmt) → x.kind ≡ run.If test a b → (flow x c).after ≡ c
  after_if test a b h = after_as _ (flow_if x test a b h)

  pub after_while : (test : Expr) (a : Stmt) → x.kind ≡ run.While test a → (flow x c).after ≡ c
  after_while test a h = after_as _ (flow_while x test a h)

  pub after_for : (init : Option Stmt) (test : Option Expr) (change : Option Stmt) (a : Stmt) → x.kind ≡ run.For init test change a → (flow x c).after ≡ c
  after_for init test change a h = after_as _ (flow_for x init test change a h)

  pub after_break : x.kind ≡ run.Break → (flow x c).after ≡ c
  after_break h = after_as _ (flow_break x h)

  pub after_continue : x.kind ≡ run.Continue → (flow x c).after ≡ c
  after_continue h = after_as _ (flow_continue x h)

  pub after_return : (value : Option Expr) → x.kind ≡ run.Return value → (flow x c).after ≡ c
  after_return value h = after_as _ (flow_return x value h)

  pub after_assign : (y : Expr) (n : ℕ) (z : Expr) → x.kind ≡ run.Assign y n z → (flow x c).after ≡ c
  after_assign y n z h = after_as _ (flow_assign x y n z h)

  pub after_bump : (y : Expr) (up : Bool) → x.kind ≡ run.Bump y up → (flow x c).after ≡ c
  after_bump y up h = after_as _ (flow_bump x y up h)

  pub after_alone : (y : Expr) → x.kind ≡ run.Run y → (flow x c).after ≡ c
  after_alone y h = after_as _ (flow_alone x y h)
