-- With more turns for its loops a member does the same, and goes on where it was at its limit.
use Rattle.std.proofs.Common.{ℕ, zero, suc, ◌≤◌, List, [], ◌∷◌, map, Option, Some, None, subst, sym, arith}
use Rattle.jp_pred.specs.declared.hier.Hier.{Hier}
use Rattle.iface_codec.specs.declared.iface.Iface.{Iface}
use Rattle.iface_codec.specs.declared.iface.IfaceMethod.{IfaceMethod}
use Rattle.jp_store.specs.declared.value.Value.{Value}
use Rattle.jp_store.specs.declared.value.Kind.{Kind}
use Rattle.jp_meaning.specs.declared.stmt.TypedStmt.{TypedStmt}
use Rattle.jp_meaning.specs.declared.stmt.TypedStmtKind.{TypedStmtKind, TypedStmtKind-F}
use Rattle.jp_meaning.specs.declared.stmt.TypedStmtKind.TheOpen as form
use Rattle.jp_meaning.specs.declared.stmt.TypedStmtKind.TheFolds.{ind-TypedStmt, fold-TypedStmtKind, fold-roll-TypedStmt, fold-roll-TypedStmtKind, map-TypedStmtKind}
use Rattle.jp_meaning.specs.declared.unit.TypedMember.{TypedMember}
use Rattle.jp_meaning.specs.declared.unit.TypedPart.{TypedPart}
use Rattle.jp_meaning.specs.declared.unit.TypedPart.TheVariants as part
use Rattle.jp_meaning.specs.Does.{Does}
use Rattle.jp_meaning.specs.Expressions.{Locals, value_of}
use Rattle.jp_meaning.specs.Statements.{Left, Goes, Breaks, Continues, Returned, go_on, around, turns, skip, in_order, test_of, does_step, does, block_does}
use Rattle.jp_meaning.specs.Members.{read_aliases, locals_of, returned, super_first, statements_do, part_does, member_does}
use Rattle.jp_meaning.proofs.Cuts.{Cut, cut, gives, stuck, ticks, cut_refl, then_cut, found_cut, by_cut}

-- what a statement does, by the turns that its loops may make
abbrev Turned : Type 0
Turned = ℕ → Locals → Does Left

-- with more turns it does the same, or goes on
abbrev Sure : Turned → Type 0
Sure d = (k n : ℕ) → k ≤ n → (env : Locals) → Cut (d k env) (d n env)

go_on_cut : (next more : Locals → Does Left) → ((env : Locals) → Cut (next env) (more env)) → (l : Left) → Cut (go_on next l) (go_on more l)
go_on_cut next more h (Goes env) = h env
go_on_cut next more h (Breaks env) = gives (Breaks env)
go_on_cut next more h (Continues env) = gives (Continues env)
go_on_cut next more h (Returned v) = gives (Returned v)

around_cut : (next more : Locals → Does Left) → ((env : Locals) → Cut (next env) (more env)) → (l : Left) → Cut (around next l) (around more l)
around_cut next more h (Goes env) = h env
around_cut next more h (Breaks env) = gives (Goes env)
around_cut next more h (Continues env) = h env
around_cut next more h (Returned v) = gives (Returned v)

turns_cut : (k n : ℕ) → k ≤ n → (test : Locals → Does Value) (change change' body body' : Locals → Does Left) →
    ((env : Locals) → Cut (change env) (change' env)) → ((env : Locals) → Cut (body env) (body' env)) → (env : Locals) →
    Cut (turns k test change body env) (turns n test change' body' env)
turns_cut zero n le test change change' body body' g h env = cut _
turns_cut (suc k) zero le test change change' body body' g h env = absurd (omega arith)
turns_cut (suc k) (suc n) le test change change' body body' g h env =
    by_cut (test env) _ _ _ _ (ticks (then_cut _ _ (h env) (around_cut _ _ (λ after. then_cut _ _ (g after)
    (go_on_cut _ _ (turns_cut k n (omega arith) test change change' body body' g h)))))) (gives (Goes env))

abbrev kind_does : TypedStmtKind → Turned
kind_does = fold-TypedStmtKind Turned Turned does_step (λ s. s.kind)

-- a kind of statement, and a statement, with what is known of them
abbrev SureKind : Type 0
SureKind = (k : TypedStmtKind) × Sure (kind_does k)

abbrev SureStmt : Type 0
SureStmt = (s : TypedStmt) × Sure (does s)

order_sure : (ss : List SureStmt) → Sure (in_order (map does (map (λ e. e.0) ss)))
order_sure [] k n le env = cut_refl _
order_sure (s ∷ ss) k n le env = then_cut _ _ (s.1 k n le env) (go_on_cut _ _ (order_sure ss k n le))

layer : (y : TypedStmtKind-F SureKind SureStmt) →
    Sure (does_step (map-TypedStmtKind TypedStmtKind TypedStmt Turned Turned kind_does does (map-TypedStmtKind SureKind SureStmt TypedStmtKind TypedStmt (λ e. e.0) (λ e. e.0) y)))
layer (form.Block block) k n le env = order_sure block k n le env
layer form.Empty k n le env = cut_refl _
layer (form.Local slot t value) k n le env = cut_refl _
layer (form.If test first None) k n le env = by_cut (value_of test env) _ _ _ _ (first.1 k n le env) (cut_refl _)
layer (form.If test first (Some second)) k n le env = by_cut (value_of test env) _ _ _ _ (first.1 k n le env) (second.1 k n le env)
layer (form.While test body) k n le env = turns_cut k n le (value_of test) skip skip _ _ (λ e. cut_refl _) (body.1 k n le) env
layer (form.For None test None body) k n le env = turns_cut k n le (test_of test) _ _ _ _ (λ e. cut_refl _) (body.1 k n le) env
layer (form.For None test (Some change) body) k n le env = turns_cut k n le (test_of test) _ _ _ _ (change.1 k n le) (body.1 k n le) env
layer (form.For (Some init) test None body) k n le env =
    then_cut _ _ (init.1 k n le env) (go_on_cut _ _ (turns_cut k n le (test_of test) _ _ _ _ (λ e. cut_refl _) (body.1 k n le)))
layer (form.For (Some init) test (Some change) body) k n le env =
    then_cut _ _ (init.1 k n le env) (go_on_cut _ _ (turns_cut k n le (test_of test) _ _ _ _ (change.1 k n le) (body.1 k n le)))
layer form.Break k n le env = cut_refl _
layer form.Continue k n le env = cut_refl _
layer (form.Return value) k n le env = cut_refl _
layer (form.Assign left sign right) k n le env = cut_refl _
layer (form.Bump left up) k n le env = cut_refl _
layer (form.Run value) k n le env = cut_refl _

does_sure : (s : TypedStmt) → Sure (does s)
does_sure = ind-TypedStmt (λ k. Sure (kind_does k)) (λ s. Sure (does s))
    (λ x y is. subst Sure (sym (fold-roll-TypedStmtKind Turned Turned does_step (λ s. s.kind) x))
    (subst (λ (z : TypedStmtKind-F TypedStmtKind TypedStmt). Sure (does_step (map-TypedStmtKind TypedStmtKind TypedStmt Turned Turned kind_does does z))) is (layer y)))
    (λ x y is. subst Sure (sym (fold-roll-TypedStmt Turned Turned does_step (λ s. s.kind) x))
    (subst (λ (z : form.TypedStmt-F TypedStmtKind TypedStmt). Sure (kind_does z.kind)) is y.kind.1))

block_sure : (ss : List TypedStmt) → Sure (block_does ss)
block_sure [] k n le env = cut_refl _
block_sure (s ∷ ss) k n le env = then_cut _ _ (does_sure s k n le env) (go_on_cut _ _ (block_sure ss k n le))

statements_cut : (result : Option Kind) (m : TypedMember) (k n : ℕ) → k ≤ n → (env : Locals) → Cut (statements_do result m k env) (statements_do result m n env)
statements_cut result m k n le env = then_cut _ _ (block_sure m.block k n le env) (λ l. cut_refl (returned result l))

part_cut : (hier : Hier) (head : Iface) (m : TypedMember) (p : TypedPart) (k n : ℕ) → k ≤ n → (vs : List Value) → Cut (part_does hier head m p k vs) (part_does hier head m p n vs)
part_cut hier head m (part.Field at) k n le vs = stuck
part_cut hier head m (part.Method at) k n le vs =
    found_cut {A = IfaceMethod} _ _ _ (λ method. then_cut _ _ (cut_refl (read_aliases hier method.aliases vs)) (λ more. statements_cut _ m k n le _))
part_cut hier head m (part.Constructor at) k n le vs = then_cut _ _ (cut_refl (super_first head m (locals_of m vs))) (λ done. statements_cut None m k n le _)

pub member_cut : (hier : Hier) (head : Iface) (m : TypedMember) (k n : ℕ) → k ≤ n → (vs : List Value) → Cut (member_does hier head m k vs) (member_does hier head m n vs)
member_cut hier head m k n le vs = part_cut hier head m m.part k n le vs
