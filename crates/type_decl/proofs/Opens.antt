-- A member is opened once its guard is walked, and its parts are walked one after the other.
use Rattle.std.proofs.Common.{◌≡◌, ℕ, zero, suc, ◌+◌, ◌<◌, ◌≤◌, List, [], ◌∷◌, ◌++◌, map, take, length, get_or, Option, Some, None, Bool, true, false, refl, sym, ap, ◌∙◌, subst, arith}
use Rattle.std.specs.Prelude.{IsTrue, ◌&&◌, if◌then◌else◌}
use Rattle.std.specs.List.{flat_map, list_all}
use Rattle.std.specs.Option.{option_map, option_map_or, is_some}
use Rattle.std.proofs.lemmas.List.{length-replicate, length-map, take_more, take_all, map-append, append-nil}
use Rattle.std.proofs.lemmas.List.Concat.{flat_map-append}
use Rattle.iface_codec.specs.declared.iface.Iface.{Iface}
use Rattle.jp_ast.specs.declared.expr.Expr.{Expr}
use Rattle.jp_ast.specs.declared.stmt.Stmt.{Stmt}
use Rattle.jp_ast.specs.declared.guard.GuardExpr.{GuardExpr}
use Rattle.jp_ast.specs.declared.decl.Decl.{Decl}
use Rattle.jp_ast.specs.declared.decl.Member.{Member}
use Rattle.jp_meaning.specs.declared.guard.TypedGuard.{TypedGuard}
use Rattle.type_rules.specs.declared.fault.TypeFault.{TypeFault}
use Rattle.type_rules.specs.declared.scope.Scope.{Scope}
use Rattle.type_rules.specs.declared.guard_scope.GuardScope.{GuardScope}
use Rattle.type_rules.specs.declared.seen.Role.TheVariants as role
use Rattle.type_rules.specs.declared.seen.Seen.{Seen}
use Rattle.type_rules.specs.Nodes.{Visit}
use Rattle.type_rules.specs.Table.{faults_of}
use Rattle.type_rules.specs.Heads.{as_field}
use Rattle.type_rules.specs.Names.{receiver_slots}
use Rattle.type_rules.specs.Expressions.{Part, seen_all, visits_all}
use Rattle.type_rules.specs.Statements.{waiting, operand, count, scope_along, most_along, flow}
use Rattle.type_rules.specs.Guards.{Guarded}
use Rattle.type_rules.specs.Typing.{earlier}
use Rattle.type_rules.specs.Units.{opened, guard_part, super_part, block_part, is_static_part, result_part, guard_scope, guard_of, param_visits}
use Rattle.type_heads.proofs.FaultLists.{then_faults}
use Rattle.type_guards.specs.Walking.{Walks, Keeps}
use Rattle.type_expr.specs.Settling.{parts_in, SeesAll}
use Rattle.type_flow.specs.Room.{IsMost}
use Rattle.type_stmt.specs.Walking.{WalksAll}
use Rattle.type_stmt.proofs.Rooms.{grows_along}
use Rattle.type_decl.specs.declared.opening.OpenMember.{OpenMember}
use Rattle.type_decl.specs.declared.walking.Walked.{Walked}
use Rattle.type_decl.specs.declared.walking.WalkedPart.{WalkedPart}
use Rattle.type_decl.specs.Limits.{blank, most_at_once, member_fits, HasRoom}
use Rattle.type_decl.specs.Parts.{seat_of, alias_variable, alias_entry, scope_behind, WalksGuard, SeesSuper, entry_in, guard_in, scope_in, super_in, block_in, slots_in, front_visits, super_visits, block_visits, part_visits, slots_taken}
use Rattle.type_decl.specs.Walking.{walked_of, OpensMember, WalksParts, WalksMembers}
use Rattle.type_decl.proofs.Rooms.{has_room}

-- GUARDS

pub guard_none : (x : Option GuardExpr) (c : GuardScope) (old : Option TypeFault) → x ≡ None → WalksGuard x c c old old (Some None)
guard_none x c old e =
    subst (λ (z : Option GuardExpr). WalksGuard z c c old old (Some None)) (sym e)
    (record { aliases = refl; made_is = refl; first = refl; heads = refl; class = refl; params = refl })

pub guard_some : (x : Option GuardExpr) (y : GuardExpr) (c d : GuardScope) (old new : Option TypeFault) (one : Option TypedGuard) (made : Option (Option TypedGuard)) → x ≡ Some y →
    Walks y c d old new one → Keeps c d → made ≡ option_map Some one → WalksGuard x c d old new made
guard_some x y c d old new one made e w k m =
    subst (λ (z : Option GuardExpr). WalksGuard z c d old new made) (sym e)
    (record {
      aliases = ap (λ (z : GuardScope). z.aliases) w.after;
      made_is = m ∙ ap (option_map Some) w.made_is;
      first = w.first;
      heads = k.heads;
      class = k.class;
      params = k.params;
    })

pub member_opens : (heads : List Iface) (d : Decl) (m : Member) (b c : GuardScope) (old mid new : Option TypeFault) (o : OpenMember) → b ≡ guard_scope (seat_of heads d) m →
    mid ≡ earlier old (faults_of (param_visits [] m.params)) → WalksGuard (guard_part m.part) b c mid new o.guard → o.entry ≡ map alias_entry c.aliases → o.scope ≡ scope_behind c m.part → OpensMember heads d m old new o
unfolding entry_in guard_in scope_in front_visits
member_opens heads d m b c old mid new o e f w n s =
    let v = subst (λ (z : GuardScope). WalksGuard (guard_part m.part) z c mid new o.guard) e w in
    record {
      entry_is = n ∙ ap (map alias_entry) v.aliases;
      guard_is = v.made_is;
      scope_is = s ∙ (λ i. record {
        heads = v.heads i;
        class = v.class i;
        is_static = is_static_part m.part;
        result = result_part m.part;
        is_in_loop = false;
        variables = v.params i ++ map alias_variable (v.aliases i);
      });
      first = then_faults old mid new (param_visits [] m.params) (option_map_or (λ (g : Guarded). g.visits) (guard_of (seat_of heads d) (opened m)) []) f v.first;
    }

-- THE ARGUMENTS OF `super(..)`

parts_are : (c : Scope) (xs : List Expr) → map (operand c) (map waiting xs) ≡ parts_in c role.Operand xs
parts_are c [] = refl
parts_are c (x ∷ xs) = ap (λ (ps : List Part). operand c (waiting x) ∷ ps) (parts_are c xs)

pub super_none : (c : Scope) (x : Option (List Expr)) (old : Option TypeFault) → x ≡ None → SeesSuper c x old old None
super_none c x old e = subst (λ (z : Option (List Expr)). SeesSuper c z old old None) (sym e) (record { seen = refl; first = refl })

pub super_some : (c : Scope) (x : Option (List Expr)) (xs : List Expr) (old new : Option TypeFault) (found all : List Seen) → x ≡ Some xs → SeesAll c role.Operand xs old new found → all ≡ found → SeesSuper c x old new (Some all)
super_some c x xs old new found all e s a =
    subst (λ (z : Option (List Expr)). SeesSuper c z old new (Some all)) (sym e)
    (record {
      seen = ap Some (a ∙ (s.seen ∙ ap seen_all (sym (parts_are c xs))));
      first = s.first ∙ ap (λ (ps : List Part). earlier old (faults_of (visits_all ps))) (sym (parts_are c xs));
    })

-- SLOTS

blank_most : (n : ℕ) (block : List Stmt) → most_along (count (blank n)) (map flow block) (blank n) ≡ most_at_once n block
unfolding most_at_once
blank_most n block = ap (λ (k : ℕ). most_along k (map flow block) (blank n)) (length-replicate n _)

none_over : (r k m : ℕ) → r + m ≤ 200 → k ≡ m → 255 < k → ⊥
none_over r k m a e h = absurd (omega arith)

few_kept : (r k j m : ℕ) → r + m ≤ 200 → k ≡ m → j ≡ k → r + j ≤ 200
few_kept r k j m a e h = omega arith

-- so many are found, of so many before
abbrev Finds : ℕ → List Stmt → Option ℕ → Type 0
Finds n xs found = (s : Scope) → count s ≡ n → IsMost (most_along (count s) (map flow xs) s) found

module _ (m : Member) (c : Scope) (n : ℕ) (xs : List Stmt) (r : HasRoom m c) (e : n ≡ count c) (b : xs ≡ block_part m.part) where
  few : receiver_slots (is_static_part m.part) + most_at_once n (block_part m.part) ≤ 200
  few = subst (λ (k : ℕ). receiver_slots (is_static_part m.part) + most_at_once k (block_part m.part) ≤ 200) (sym e) r.slots

  blank_count : count (blank n) ≡ n
  blank_count = length-replicate n _

  -- no more than have slots
  pub most_none : Finds n xs None → ⊥
  most_none g =
      let h : Finds n (block_part m.part) None = subst (λ (ys : List Stmt). Finds n ys None) b g in
      none_over (receiver_slots (is_static_part m.part)) (most_along (count (blank n)) (map flow (block_part m.part)) (blank n)) (most_at_once n (block_part m.part)) few
      (blank_most n (block_part m.part)) (h (blank n) blank_count)

  pub most_is : (k : ℕ) → Finds n xs (Some k) → k ≡ most_along (count c) (map flow (block_part m.part)) c
  most_is k g =
      let h : Finds n (block_part m.part) (Some k) = subst (λ (ys : List Stmt). Finds n ys (Some k)) b g in
      h c (sym e)

  pub most_few : (k : ℕ) → Finds n xs (Some k) → receiver_slots (is_static_part m.part) + k ≤ 200
  most_few k g =
      let h : Finds n (block_part m.part) (Some k) = subst (λ (ys : List Stmt). Finds n ys (Some k)) b g in
      few_kept (receiver_slots (is_static_part m.part)) (most_along (count (blank n)) (map flow (block_part m.part)) (blank n)) k (most_at_once n (block_part m.part)) few
      (blank_most n (block_part m.part)) (h (blank n) blank_count)

-- A MEMBER

pub parts_walked : (heads : List Iface) (d : Decl) (m : Member) (o : OpenMember) (e : Scope) (xs : List Stmt) (old one two new : Option TypeFault) (p : WalkedPart) →
    OpensMember heads d m old one o → SeesSuper o.scope (super_part m.part) one two p.walked.super_args → p.walked.locals ≡ slots_taken m o.scope → xs ≡ block_part m.part →
    WalksAll o.scope xs two new p.walked.block → e ≡ scope_along (map flow xs) o.scope → p.heads ≡ e.heads → p.walked.entry ≡ o.entry → p.walked.guard ≡ o.guard → WalksParts heads d m old new p
unfolding scope_in super_in block_in slots_in super_visits block_visits
parts_walked heads d m o e xs old one two new p a s l b w f h n g =
    let v = subst (λ (ys : List Stmt). WalksAll o.scope ys two new p.walked.block) b w in
    let v' = subst (λ (z : Scope). WalksAll z (block_part m.part) two new p.walked.block) a.scope_is v in
    let s' = subst (λ (z : Scope). SeesSuper z (super_part m.part) one two p.walked.super_args) a.scope_is s in
    record {
      heads_are = h ∙ (ap (λ (z : Scope). z.heads) (f ∙ (grows_along xs o.scope).1) ∙ ap (λ (z : Scope). z.heads) a.scope_is);
      walked_is = λ i. record {
        entry = (n ∙ a.entry_is) i;
        guard = (g ∙ a.guard_is) i;
        super_args = s'.seen i;
        block = v'.made_is i;
        locals = (l ∙ ap (slots_taken m) a.scope_is) i;
      };
      first = then_faults old one new (front_visits heads d m) (super_visits heads d m ++ block_visits heads d m) a.first (then_faults one two new (super_visits heads d m) (block_visits heads d m) s'.first v'.first);
    }

-- MEMBERS

pub none_walked : (heads : List Iface) (d : Decl) (ms : List Member) (old : Option TypeFault) (all : List Walked) → all ≡ [] → WalksMembers heads d (take 0 ms) old old heads all
none_walked heads d ms old all e = record { heads_are = refl; walked_are = e; first = refl }

pub one_more_walked : (heads back : List Iface) (d : Decl) (ms : List Member) (i : ℕ) (m : Member) (old mid new : Option TypeFault) (all more : List Walked) (p : WalkedPart) → i < length ms → m ≡ get_or ms i m →
    WalksMembers heads d (take i ms) old mid back all → WalksParts back d m mid new p → more ≡ all ++ p.walked ∷ [] → WalksMembers heads d (take (i + 1) ms) old new p.heads more
one_more_walked heads back d ms i m old mid new all more p l e a w f =
    let v = subst (λ (z : List Iface). WalksParts z d m mid new p) a.heads_are w in
    let t : take (i + 1) ms ≡ take i ms ++ m ∷ [] = take_more ms i m l ∙ ap (λ (z : Member). take i ms ++ z ∷ []) (sym e) in
    subst (λ (zs : List Member). WalksMembers heads d zs old new p.heads more) (sym t)
    (record {
      heads_are = v.heads_are;
      walked_are = f ∙ ((λ j. a.walked_are j ++ v.walked_is j ∷ []) ∙ sym (map-append (walked_of heads d) (take i ms) (m ∷ [])));
      first = then_faults old mid new (flat_map (part_visits heads d) (take i ms)) (part_visits heads d m ++ []) a.first (v.first ∙ ap (λ (vs : List Visit). earlier mid (faults_of vs)) (sym (append-nil (part_visits heads d m))))
          ∙ ap (λ (vs : List Visit). earlier old (faults_of vs)) (sym (flat_map-append (part_visits heads d) (take i ms) (m ∷ [])));
    })

pub all_walked : (heads back : List Iface) (d : Decl) (ms : List Member) (i : ℕ) (old new : Option TypeFault) (all : List Walked) → length ms ≤ i → WalksMembers heads d (take i ms) old new back all → WalksMembers heads d ms old new back all
all_walked heads back d ms i old new all l a = subst (λ (zs : List Member). WalksMembers heads d zs old new back all) (take_all i ms l) a

-- AT A POSITION

map_at : {A B : Type 0} (f : A → B) (xs : List A) (i : ℕ) (y : B) (x : A) → i < length xs → y ≡ get_or (map f xs) i y → x ≡ get_or xs i x → y ≡ f x
map_at f [] i y x l a b = absurd (omega arith)
map_at f (z ∷ xs) zero y x l a b = a ∙ ap f (sym b)
map_at f (z ∷ xs) (suc i) y x l a b = map_at f xs i y x (omega arith) a b

pub as_many : (heads : List Iface) (d : Decl) (ms : List Member) (all : List Walked) → all ≡ map (walked_of heads d) ms → length all ≡ length ms
as_many heads d ms all e = ap (λ (ws : List Walked). length ws) e ∙ length-map ms (walked_of heads d)

pub walked_at : (heads : List Iface) (d : Decl) (ms : List Member) (all : List Walked) (i : ℕ) (w : Walked) (m : Member) → all ≡ map (walked_of heads d) ms → i < length all → w ≡ get_or all i w → m ≡ get_or ms i m → w ≡ walked_of heads d m
walked_at heads d ms all i w m e l a b =
    map_at (walked_of heads d) ms i w m (omega (arith, l, as_many heads d ms all e)) (a ∙ ap (λ (ws : List Walked). get_or ws i w) e) b

both_true : (a b : Bool) → (a && b) ≡ true → (a ≡ true) × (b ≡ true)
both_true true b h = (refl, h)
both_true false b h = absurd cc

pub all_at : {A : Type 0} (f : A → Bool) (xs : List A) (i : ℕ) (x : A) → i < length xs → x ≡ get_or xs i x → list_all f xs ≡ true → f x ≡ true
all_at f [] i x l e h = absurd (omega arith)
all_at f (y ∷ xs) zero x l e h = ap f e ∙ (both_true (f y) (list_all f xs) h).0
all_at f (y ∷ xs) (suc i) x l e h = all_at f xs i x (omega arith) e (both_true (f y) (list_all f xs) h).1

-- ROOM

pub opened_room : (heads : List Iface) (d : Decl) (m : Member) (old new : Option TypeFault) (o : OpenMember) → IsTrue (member_fits m) → OpensMember heads d m old new o → HasRoom m o.scope
opened_room heads d m old new o h a = subst (λ (z : Scope). HasRoom m z) (sym a.scope_is) (has_room heads d m h)

within_255 : (n : ℕ) → n ≤ 16 → n ≤ 255
within_255 n h = omega arith

pub opened_few : (heads : List Iface) (d : Decl) (m : Member) (old new : Option TypeFault) (o : OpenMember) → IsTrue (member_fits m) → OpensMember heads d m old new o → length o.scope.variables ≤ 255
opened_few heads d m old new o h a = within_255 (length o.scope.variables) (opened_room heads d m old new o h a).variables

pub opened_most : (m : Member) (c : Scope) (xs : List Stmt) → xs ≡ block_part m.part → most_along (count c) (map flow (block_part m.part)) c ≤ 255 → most_along (count c) (map flow xs) c ≤ 255
opened_most m c xs e h = subst (λ (ys : List Stmt). most_along (count c) (map flow ys) c ≤ 255) (sym e) h

under_255 : (r k : ℕ) → r + k ≤ 200 → k ≤ 255
under_255 r k h = omega arith

pub below_255 : (r k : ℕ) → r + k ≤ 200 → k < 255
below_255 r k h = omega arith

-- slots, of a member that takes so many
pub slots_are : (m : Member) (c : Scope) (k n : ℕ) → k ≡ most_along (count c) (map flow (block_part m.part)) c → n ≡ (if is_some (as_field m) then 0 else receiver_slots (is_static_part m.part) + k) → n ≡ slots_taken m c
slots_are m c k n e f = f ∙ ap (λ (j : ℕ). if is_some (as_field m) then 0 else receiver_slots (is_static_part m.part) + j) e

pub most_within : (m : Member) (c : Scope) (k : ℕ) → k ≡ most_along (count c) (map flow (block_part m.part)) c → receiver_slots (is_static_part m.part) + k ≤ 200 → most_along (count c) (map flow (block_part m.part)) c ≤ 255
most_within m c k e h = subst (λ (j : ℕ). j ≤ 255) e (under_255 (receiver_slots (is_static_part m.part)) k h)
