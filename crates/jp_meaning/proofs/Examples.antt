-- What small programs mean.
use Rattle.std.proofs.Common.{◌≡◌, ℕ, suc, ◌-◌, List, [], ◌∷◌, ◌++◌, map, Some, None, false, refl, ap, ◌∙◌, subst}
use Rattle.std.specs.Prelude.{codes, replicate, ℤ, pos, ◌<◌, ◌^◌}
use Rattle.std.specs.Int.{w32, int_wrap}
use Rattle.std.specs.Fmt.{signed_decimal}
use Rattle.std.proofs.Common.{arith, rules}
use Rattle.std.proofs.lemmas.Int.{int_wrap_fits}
use Rattle.jp_ast.specs.declared.token.Place.{Place}
use Rattle.jp_pred.specs.declared.ty.Ty.{Ty}
use Rattle.jp_pred.specs.declared.ty.Ty.TheVariants as ty
use Rattle.jp_pred.specs.declared.guard.Guard.{Guard}
use Rattle.jp_pred.specs.declared.guard.Guard.TheVariants as guard
use Rattle.jp_pred.specs.declared.guard.Guard as on_guards
use Rattle.jp_pred.specs.Implication.{paths_of}
use Rattle.iface_codec.specs.declared.iface.Iface.{Iface}
use Rattle.iface_codec.specs.declared.iface.MethodKind.TheVariants as kind
use Rattle.jp_meaning.specs.declared.expr.TypedExpr.{TypedExpr}
use Rattle.jp_meaning.specs.declared.expr.TypedKind.{TypedKind}
use Rattle.jp_meaning.specs.declared.expr.TypedKind.TheVariants as form
use Rattle.jp_meaning.specs.declared.stmt.TypedStmt.{TypedStmt}
use Rattle.jp_meaning.specs.declared.stmt.TypedStmtKind.{TypedStmtKind}
use Rattle.jp_meaning.specs.declared.stmt.TypedStmtKind.TheVariants as stmt
use Rattle.jp_meaning.specs.declared.unit.TypedPart.TheVariants as part
use Rattle.jp_meaning.specs.declared.unit.TypedClass.{TypedClass}
use Rattle.jp_store.specs.declared.value.Value.TheVariants.{Int}
use Rattle.jp_store.specs.declared.value.Kind.TheVariants.{Number}
use Rattle.jp_store.specs.declared.value.TrapKind.TheVariants.{OutOfBounds}
use Rattle.jp_meaning.specs.declared.expr.TypedKind.TheOpen as layer
use Rattle.jp_does.specs.Does.{Gives, Stuck, then_do, do_of, found}
use Rattle.jp_meaning.specs.Does.{Does}
use Rattle.jp_meaning.specs.Signs.{change_of}
use Rattle.jp_meaning.specs.Expressions.{Locals, Meant, meant, meant_step, of_kind}
use Rattle.jp_meaning.specs.Statements.{Left, Returned, skip, turns, in_order, assign, put_local, does}
use Rattle.jp_meaning.specs.Members.{returned}
use Rattle.jp_meaning.specs.Choice.{NoneIsTrue, Selects}
use Rattle.jp_meaning.specs.Run.{Program, Result, Done, Trapped, More, play, calls, first_world, result_of, run, IsStuck}
use Rattle.jp_meaning.proofs.Forms.{does_assign, does_block, does_local, does_return, does_run, does_while, meant_binary, meant_index, meant_local, meant_new, meant_new_array, meant_number, meant_print, meant_read, meant_truth, meant_virtual_call}

abbrev here : Place
here = record { line = 1; col = 1 }

abbrev expr : Ty → TypedKind → TypedExpr
expr t kind = record { place = here; ty = t; kind = kind }

abbrev statement : TypedStmtKind → TypedStmt
statement kind = record { place = here; kind = kind }

abbrev number : ℕ → TypedExpr
number n = expr ty.Int (form.Number n false)

abbrev print : TypedExpr → TypedStmt
print e = statement (stmt.Run (expr ty.Void (form.Print e)))

-- a class `Main` whose only method is `main` with these statements
abbrev main_head : Iface
main_head = record {
  name = codes "Main";
  is_abstract = false;
  is_final = false;
  is_interface = false;
  superclass = Some (codes "Object");
  interfaces = [];
  fields = [];
  constructors = [] ∷ [];
  methods = record { name = codes "main"; kind = kind.Static; params = []; result = ty.Void; guard = guard.True; aliases = [] } ∷ [];
}

abbrev main_class : ℕ → List TypedStmt → TypedClass
main_class locals block = record {
  head = main_head;
  members = record { part = part.Method 0; locals = locals; guard = None; super_params = []; super_args = []; block = block } ∷ [];
}

abbrev program : ℕ → List TypedStmt → Program
program locals block = record { classes = main_class locals block ∷ []; main = codes "Main"; select = λ q. NoneIsTrue }

-- what a statement does, by the turns that its loops may make
abbrev Turned : Type 0
Turned = ℕ → Locals → Does Left

-- what the program comes to, where its statements do this
abbrev outcome : Program → ℕ → List Turned → List ℕ → ℕ → Result
outcome p locals ds input n =
    result_of input (play (calls p (suc n)) (then_do (in_order ds (suc n) (replicate (locals - 0) None)) (returned None)) (first_world p input n))

runs : (locals : ℕ) (block : List TypedStmt) (ds : List Turned) → map does block ≡ ds → (input : List ℕ) (n : ℕ) (r : Result) →
    outcome (program locals block) locals ds input n ≡ r → run (program locals block) input n ≡ r
runs locals block ds e input n r = subst (λ (ds : List Turned). outcome (program locals block) locals ds input n ≡ r → run (program locals block) input n ≡ r) e (λ h. h)

small : (n : ℕ) → n < 2 ^ 31 → int_wrap w32 (pos n) ≡ pos n
small n h = int_wrap_fits w32 (pos n) (omega (arith, h))

-- a number is a number
abbrev N : ℕ → Meant
N n = record { ty = ty.Int; value = λ env. Gives (Int (pos n)); spot = λ env. Stuck }

number_is : (n : ℕ) → n < 2 ^ 31 → meant (number n) ≡ N n
number_is n h = meant_number here ty.Int n false
    ∙ ap (λ (z : ℤ). let m : Meant = record { ty = ty.Int; value = λ env. Gives (Int z); spot = λ env. Stuck } in m) (small n h)

print_is : (e : TypedExpr) (m : Meant) → meant e ≡ m → does (print e) ≡ (λ n env. then_do ((meant_step (layer.Print m) ty.Void).value env) (λ v. skip env))
print_is e m h = does_run here (expr ty.Void (form.Print e))
    ∙ ap (λ (k : Meant). λ n env. then_do (k.value env) (λ v. skip env)) (meant_print here ty.Void e ∙ ap (λ (m : Meant). meant_step (layer.Print m) ty.Void) h)

-- `Io.print(7);`
seven : run (program 0 (print (number 7) ∷ [])) [] 0 ≡ record { output = signed_decimal (pos 7); used = 0; end = Done }
seven = runs 0 (print (number 7) ∷ []) _ (ap (λ (d : Turned). d ∷ []) (print_is (number 7) (N 7) (number_is 7 (omega arith)))) [] 0 _ refl

-- `i`, `i < 2` and `i += 1`, where `i` is the first local
abbrev i : TypedExpr
i = expr ty.Int (form.Local 0)

abbrev I : Meant
I = meant_step (layer.Local 0) ty.Int

less_is : meant (expr ty.Boolean (form.Binary 10 i (number 2))) ≡ meant_step (layer.Binary 10 I (N 2)) ty.Boolean
less_is = meant_binary here ty.Boolean 10 i (number 2)
    ∙ ap (λ (m : Meant). meant_step (layer.Binary 10 m (meant (number 2))) ty.Boolean) (meant_local here ty.Int 0)
    ∙ ap (λ (m : Meant). meant_step (layer.Binary 10 I m) ty.Boolean) (number_is 2 (omega arith))

abbrev adds : Meant → Meant → Turned
adds left right n env = found (change_of 34) (λ change. assign change left right env)

add_is : does (statement (stmt.Assign i 34 (number 1))) ≡ adds I (N 1)
add_is = does_assign here i 34 (number 1)
    ∙ ap (λ (m : Meant). adds m (meant (number 1))) (meant_local here ty.Int 0) ∙ ap (λ (m : Meant). adds I m) (number_is 1 (omega arith))

-- `Io.print(i); i += 1;`
abbrev body : TypedStmt
body = statement (stmt.Block (print i ∷ statement (stmt.Assign i 34 (number 1)) ∷ []))

abbrev prints_i : Turned
prints_i n env = then_do ((meant_step (layer.Print I) ty.Void).value env) (λ v. skip env)

body_is : does body ≡ in_order (prints_i ∷ adds I (N 1) ∷ [])
body_is = does_block here (print i ∷ statement (stmt.Assign i 34 (number 1)) ∷ [])
    ∙ ap (λ (d : Turned). in_order (d ∷ does (statement (stmt.Assign i 34 (number 1))) ∷ [])) (print_is i I (meant_local here ty.Int 0))
    ∙ ap (λ (d : Turned). in_order (prints_i ∷ d ∷ [])) add_is

-- `int i = 0; while (i < 2) { Io.print(i); i += 1; }`
abbrev counting : List TypedStmt
counting = statement (stmt.Local 0 ty.Int (Some (number 0))) ∷ statement (stmt.While (expr ty.Boolean (form.Binary 10 i (number 2))) body) ∷ []

abbrev starts : Meant → Turned
starts m n env = then_do (m.value env) (λ v. put_local 0 Number v env)

abbrev goes_round : Meant → Turned → Turned
goes_round test d n env = turns n test.value skip (d n) env

counting_is : map does counting ≡ starts (N 0) ∷ goes_round (meant_step (layer.Binary 10 I (N 2)) ty.Boolean) (in_order (prints_i ∷ adds I (N 1) ∷ [])) ∷ []
counting_is =
    ap (λ (d : Turned). d ∷ does (statement (stmt.While (expr ty.Boolean (form.Binary 10 i (number 2))) body)) ∷ [])
    (does_local here 0 ty.Int (Some (number 0)) ∙ ap starts (number_is 0 (omega arith)))
    ∙ ap (λ (d : Turned). starts (N 0) ∷ d ∷ []) (does_while here (expr ty.Boolean (form.Binary 10 i (number 2))) body
    ∙ ap (λ (m : Meant). goes_round m (does body)) less_is ∙ ap (goes_round (meant_step (layer.Binary 10 I (N 2)) ty.Boolean)) body_is)

-- a turn for each number that is printed
counts : run (program 1 counting) [] 2 ≡ record { output = signed_decimal (pos 0) ++ signed_decimal (pos 1); used = 0; end = Done }
counts = runs 1 counting _ counting_is [] 2 _ (rw (small 1 (omega arith), small 2 (omega arith)) refl)

-- with a tick less it ends before it prints the last
counts_less : run (program 1 counting) [] 1 ≡ record { output = signed_decimal (pos 0); used = 0; end = More }
counts_less = runs 1 counting _ counting_is [] 1 _ (rw (small 1 (omega arith)) refl)

-- the elements of a new array of one element, from the index 1 on, where the value is read from the input
abbrev element : TypedExpr
element = expr ty.Int (form.Index (expr ty.IntArray (form.NewArray ty.Int (number 1))) (number 1))

abbrev A : Meant
A = meant_step (layer.Index (meant_step (layer.NewArray ty.Int (N 1)) ty.IntArray) (N 1)) ty.Int

abbrev reads : TypedExpr
reads = expr ty.Int form.Read

abbrev R : Meant
R = meant_step layer.Read ty.Int

element_is : meant element ≡ A
element_is = meant_index here ty.Int (expr ty.IntArray (form.NewArray ty.Int (number 1))) (number 1)
    ∙ ap (λ (m : Meant). meant_step (layer.Index m (meant (number 1))) ty.Int)
    (meant_new_array here ty.IntArray ty.Int (number 1) ∙ ap (λ (m : Meant). meant_step (layer.NewArray ty.Int m) ty.IntArray) (number_is 1 (omega arith)))
    ∙ ap (λ (m : Meant). meant_step (layer.Index (meant_step (layer.NewArray ty.Int (N 1)) ty.IntArray) m) ty.Int) (number_is 1 (omega arith))

abbrev changes : ℕ → Meant → Meant → Turned
changes sign left right n env = found (change_of sign) (λ change. assign change left right env)

change_is : (sign : ℕ) → map does (statement (stmt.Assign element sign reads) ∷ []) ≡ changes sign A R ∷ []
change_is sign = ap (λ (d : Turned). d ∷ []) (does_assign here element sign reads
    ∙ ap (λ (m : Meant). changes sign m (meant reads)) element_is ∙ ap (λ (m : Meant). changes sign A m) (meant_read here ty.Int))

-- `new int[1][1] = Io.read();` reads, and then finds that there is no such element
assigns_outside : run (program 0 (statement (stmt.Assign element 9 reads) ∷ [])) (65 ∷ []) 0 ≡ record { output = []; used = 1; end = Trapped OutOfBounds }
assigns_outside = runs 0 (statement (stmt.Assign element 9 reads) ∷ []) _ (change_is 9) (65 ∷ []) 0 _ refl

-- `new int[1][1] += Io.read();` finds it before it reads
changes_outside : run (program 0 (statement (stmt.Assign element 34 reads) ∷ [])) (65 ∷ []) 0 ≡ record { output = []; used = 0; end = Trapped OutOfBounds }
changes_outside = runs 0 (statement (stmt.Assign element 34 reads) ∷ []) _ (change_is 34) (65 ∷ []) 0 _ refl

-- `class C { int f() { return 5; } }`
abbrev c_head : Iface
c_head = record {
  name = codes "C";
  is_abstract = false;
  is_final = false;
  is_interface = false;
  superclass = Some (codes "Object");
  interfaces = [];
  fields = [];
  constructors = [] ∷ [];
  methods = record { name = codes "f"; kind = kind.Body; params = []; result = ty.Int; guard = guard.True; aliases = [] } ∷ [];
}

abbrev gives_five : TypedStmt
gives_five = statement (stmt.Return (Some (number 5)))

abbrev c_class : TypedClass
c_class = record {
  head = c_head;
  members = record { part = part.Method 0; locals = 1; guard = None; super_params = []; super_args = []; block = gives_five ∷ [] }
      ∷ record { part = part.Constructor 0; locals = 1; guard = None; super_params = []; super_args = []; block = [] } ∷ [];
}

-- `new C().f()`
abbrev call : TypedExpr
call = expr ty.Int (form.CallVirtual (expr (ty.Class (codes "C")) (form.New (codes "C") [] [])) (codes "C") false (codes "f") [] [])

abbrev F : Meant
F = meant_step (layer.CallVirtual (meant_step (layer.New (codes "C") [] []) (ty.Class (codes "C"))) (codes "C") false (codes "f") [] []) ty.Int

call_is : meant call ≡ F
call_is = meant_virtual_call here ty.Int (expr (ty.Class (codes "C")) (form.New (codes "C") [] [])) (codes "C") false (codes "f") [] []
    ∙ ap (λ (m : Meant). meant_step (layer.CallVirtual m (codes "C") false (codes "f") [] []) ty.Int) (meant_new here (ty.Class (codes "C")) (codes "C") [] [])

abbrev dispatching : Program
dispatching = record { classes = main_class 0 (print call ∷ []) ∷ c_class ∷ []; main = codes "Main"; select = λ q. Selects 0 }

runs_dispatching : (ds : List Turned) → map does (print call ∷ []) ≡ ds → (n : ℕ) (r : Result) →
    outcome dispatching 0 ds [] n ≡ r → run dispatching [] n ≡ r
runs_dispatching ds e n r = subst (λ (ds : List Turned). outcome dispatching 0 ds [] n ≡ r → run dispatching [] n ≡ r) e (λ h. h)

five_is : does gives_five ≡ (λ n env. then_do ((N 5).value env) (λ v. do_of (of_kind Number v) (λ w. Gives (Returned (Some w)))))
five_is = does_return here (Some (number 5))
    ∙ ap (λ (m : Meant). λ n env. then_do (m.value env) (λ v. do_of (of_kind Number v) (λ w. Gives (Returned (Some w))))) (number_is 5 (omega arith))

no_paths : paths_of guard.True ≡ []
no_paths = search (rules, on_guards.the_lemmas)

-- `Io.print(new C().f());` spends a tick for the constructor and one for the body
dispatches : run dispatching [] 2 ≡ record { output = signed_decimal (pos 5); used = 0; end = Done }
dispatches = runs_dispatching _ (ap (λ (d : Turned). d ∷ []) (print_is call F call_is)) 2 _ (rw (no_paths, five_is) refl)

-- `false && Io.read() ..` reads nothing
abbrev decided : TypedExpr
decided = expr ty.Boolean (form.Binary 29 (expr ty.Boolean (form.Truth false)) reads)

abbrev D : Meant
D = meant_step (layer.Binary 29 (meant_step (layer.Truth false) ty.Boolean) R) ty.Boolean

decided_is : meant decided ≡ D
decided_is = meant_binary here ty.Boolean 29 (expr ty.Boolean (form.Truth false)) reads
    ∙ ap (λ (m : Meant). meant_step (layer.Binary 29 m (meant reads)) ty.Boolean) (meant_truth here ty.Boolean false)
    ∙ ap (λ (m : Meant). meant_step (layer.Binary 29 (meant_step (layer.Truth false) ty.Boolean) m) ty.Boolean) (meant_read here ty.Int)

abbrev runs_it : Meant → List Turned
runs_it m = (λ n env. then_do (m.value env) (λ v. skip env)) ∷ []

and_decides : run (program 0 (statement (stmt.Run decided) ∷ [])) (65 ∷ []) 0 ≡ record { output = []; used = 0; end = Done }
and_decides = runs 0 (statement (stmt.Run decided) ∷ []) _ (ap (λ (d : Turned). d ∷ []) (does_run here decided) ∙ ap runs_it decided_is) (65 ∷ []) 0 _ refl

-- `new C(Io.read())` of a class that isn't there reads nothing, since the object is made first
abbrev made_nowhere : TypedExpr
made_nowhere = expr (ty.Class (codes "C")) (form.New (codes "C") (ty.Int ∷ []) (reads ∷ []))

abbrev M : Meant
M = meant_step (layer.New (codes "C") (ty.Int ∷ []) (R ∷ [])) (ty.Class (codes "C"))

made_is : meant made_nowhere ≡ M
made_is = meant_new here (ty.Class (codes "C")) (codes "C") (ty.Int ∷ []) (reads ∷ [])
    ∙ ap (λ (m : Meant). meant_step (layer.New (codes "C") (ty.Int ∷ []) (m ∷ [])) (ty.Class (codes "C"))) (meant_read here ty.Int)

makes_first : run (program 0 (statement (stmt.Run made_nowhere) ∷ [])) (65 ∷ []) 0 ≡ record { output = []; used = 0; end = IsStuck }
makes_first = runs 0 (statement (stmt.Run made_nowhere) ∷ []) _ (ap (λ (d : Turned). d ∷ []) (does_run here made_nowhere) ∙ ap runs_it made_is) (65 ∷ []) 0 _ refl

-- a class whose constructor prints a number
abbrev printing : List ℕ → List ℕ → ℕ → TypedClass
printing name superclass n = record {
  head = record {
    name = name;
    is_abstract = false;
    is_final = false;
    is_interface = false;
    superclass = Some superclass;
    interfaces = [];
    fields = [];
    constructors = [] ∷ [];
    methods = [];
  };
  members = record { part = part.Constructor 0; locals = 1; guard = None; super_params = []; super_args = []; block = print (number n) ∷ [] } ∷ [];
}

abbrev prints_number : ℕ → Turned
prints_number k n env = then_do ((meant_step (layer.Print (N k)) ty.Void).value env) (λ v. skip env)

-- `class A { A() { Io.print(1); } } class B extends A { B() { Io.print(2); } }`, and `new B()`
abbrev made_b : TypedExpr
made_b = expr (ty.Class (codes "B")) (form.New (codes "B") [] [])

abbrev making : Program
making = record {
  classes = main_class 0 (statement (stmt.Run made_b) ∷ []) ∷ printing (codes "A") (codes "Object") 1 ∷ printing (codes "B") (codes "A") 2 ∷ [];
  main = codes "Main";
  select = λ q. NoneIsTrue;
}

runs_making : (ds : List Turned) → map does (statement (stmt.Run made_b) ∷ []) ≡ ds → (n : ℕ) (r : Result) → outcome making 0 ds [] n ≡ r → run making [] n ≡ r
runs_making ds e n r = subst (λ (ds : List Turned). outcome making 0 ds [] n ≡ r → run making [] n ≡ r) e (λ h. h)

first_prints : does (print (number 1)) ≡ prints_number 1
first_prints = print_is (number 1) (N 1) (number_is 1 (omega arith))

second_prints : does (print (number 2)) ≡ prints_number 2
second_prints = print_is (number 2) (N 2) (number_is 2 (omega arith))

-- the superclass's constructor runs first, and each spends a tick
constructs : run making [] 2 ≡ record { output = signed_decimal (pos 1) ++ signed_decimal (pos 2); used = 0; end = Done }
constructs = runs_making _ (ap (λ (d : Turned). d ∷ []) (does_run here made_b) ∙ ap runs_it (meant_new here (ty.Class (codes "B")) (codes "B") [] [])) 2 _
    (rw (first_prints, second_prints) refl)
