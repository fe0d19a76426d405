-- The members of a typed unit have at most twice as many nodes as are written, and so their code has room.
use Rattle.std.proofs.Common.{◌≡◌, ℕ, ◌+◌, ◌*◌, ◌≤◌, Bool, true, false, cond, List, [], ◌∷◌, ◌++◌, map, Option, Some, None, refl, subst, arith}
use Rattle.std.specs.Prelude.{sum, nat_le, if◌then◌else◌}
use Rattle.std.specs.List.{sum_by, list_all}
use Rattle.std.specs.Option.{option_map, option_map_or, option_and_then}
use Rattle.std.proofs.lemmas.Bool.{leb-true}
use Rattle.std.proofs.lemmas.List.Sums.{sum_by-cons}
use Rattle.class_form.proofs.Facts.{both}
use Rattle.jp_pred.specs.Names.{In, here, there}
use Rattle.iface_codec.specs.declared.iface.Iface.{Iface}
use Rattle.jp_ast.specs.declared.expr.Expr.{Expr}
use Rattle.jp_ast.specs.declared.decl.Decl.{Decl}
use Rattle.jp_ast.specs.declared.decl.Member.{Member}
use Rattle.jp_ast.specs.Counts as written
use Rattle.jp_meaning.specs.declared.unit.TypedMember.{TypedMember}
use Rattle.jp_meaning.specs.declared.unit.TypedClass.{TypedClass}
use Rattle.jp_meaning.specs.declared.unit.TypedUnit.{TypedUnit}
use Rattle.type_rules.specs.declared.scope.Scope.{Scope}
use Rattle.type_rules.specs.declared.seen.Role.TheVariants as role
use Rattle.type_rules.specs.Heads.{heads_of}
use Rattle.type_rules.specs.RulesOfDeclarations.{has_no_constructor}
use Rattle.type_rules.specs.Expressions.{seen_all, arguments}
use Rattle.type_rules.specs.Statements.{waiting, operand, flow, made_along}
use Rattle.type_rules.specs.Units.{Opened, OpenDecl, Seat, super_part, block_part, opened, open_decl, body_scope, super_parts, made_guard, guard_of, member_from, made_member, seats, seats_of, resolved_head, default_constructor, with_default, made_members, made_class, made_classes, unit_in}
use Rattle.gen_bounds.specs.Nodes.{member_nodes}
use Rattle.gen_bounds.proofs.Bounds.{room_left}
use Rattle.node_laws.specs.Written.{written_nodes, has_at_most}
use Rattle.node_laws.specs.Laws.{ResolvedNodesAreFew, WrittenLimitsLeaveRoom}
use Rattle.node_laws.proofs.SeenNodes.{AllFew, arguments_few, part_few, sum_cons}
use Rattle.node_laws.proofs.FlowNodes.{OnMade, map_made, so_made, FewAll, block_few}

-- each of a list
abbrev Each : {A : Type 0} → (A → Type 0) → List A → Type 0
Each P [] = Unit {0}
Each P (x ∷ xs) = P x × Each P xs

each_in : {A : Type 0} (P : A → Type 0) {x : A} {xs : List A} → In x xs → Each P xs → P x
each_in P here h = h.0
each_in P (there i) h = each_in P i h.1

each_more : {A : Type 0} (P : A → Type 0) (xs : List A) (x : A) → Each P xs → P x → Each P (xs ++ x ∷ [])
each_more P [] x h k = (k, tt)
each_more P (y ∷ ys) x h k = (h.0, each_more P ys x h.1 k)

any_made : {A B : Type 0} (f : A → Option B) (P : B → Type 0) (o : Option A) → ((x : A) → o ≡ Some x → OnMade P (f x)) → OnMade P (option_and_then f o)
any_made f P None h = tt
any_made f P (Some x) h = h x refl

on_some : {A : Type 0} (P : A → Type 0) (o : Option A) (x : A) → o ≡ Some x → OnMade P o → P x
on_some P o x e h = subst (OnMade P) e h

-- THE MEMBER

abbrev super_nodes : Option (List Expr) → List ℕ
super_nodes None = []
super_nodes (Some xs) = map written.expr_nodes xs

summed : (xs : List Expr) → sum (map written.expr_nodes xs) ≡ sum_by written.expr_nodes xs
summed [] = refl
summed (x ∷ xs) =
    let a = sum_cons (written.expr_nodes x) (map written.expr_nodes xs) in
    let b : sum_by written.expr_nodes (x ∷ xs) ≡ written.expr_nodes x + sum_by written.expr_nodes xs = sum_by-cons written.expr_nodes x xs in
    let h = summed xs in omega arith

super_summed : (o : Option (List Expr)) → sum (super_nodes o) ≡ option_map_or (sum_by written.expr_nodes) o 0
super_summed None = refl
super_summed (Some xs) = summed xs

all_operands : (c : Scope) (xs : List Expr) → AllFew (map written.expr_nodes xs) (seen_all (map (operand c) (map waiting xs)))
all_operands c [] = tt
all_operands c (x ∷ xs) = (part_few c x role.Operand, all_operands c xs)

parts_few : (c : Scope) (o : Option (List Expr)) → AllFew (super_nodes o) (option_map_or seen_all (option_map (map (operand c)) (option_map (map waiting) o)) [])
parts_few c None = tt
parts_few c (Some xs) = all_operands c xs

member_few : (seat : Seat) (m : Member) → OnMade (λ t. member_nodes t ≤ 2 * written_nodes m) (made_member seat (opened m))
member_few seat m =
    let c = body_scope seat (opened m) in
    let ss = option_map_or seen_all (super_parts seat (opened m)) [] in
    any_made _ (λ t. member_nodes t ≤ 2 * written_nodes m) (made_guard (guard_of seat (opened m))) (λ guard eg.
    any_made _ (λ t. member_nodes t ≤ 2 * written_nodes m) (arguments (Some []) ss) (λ args ea.
    map_made (λ block. member_from seat (opened m) guard args block) (λ t. member_nodes t ≤ 2 * written_nodes m) (made_along (Some []) (map flow (block_part m.part)) c)
    (so_made (FewAll (written.body_nodes (block_part m.part))) _ (made_along (Some []) (map flow (block_part m.part)) c) (block_few (block_part m.part) c) (λ block hb.
    let ha = arguments_few (super_nodes (super_part m.part)) ss [] args (parts_few c (super_part m.part)) ea in
    let e = super_summed (super_part m.part) in omega arith))))

-- MEMBERS, CLASSES AND UNITS

module _ (most : ℕ) where
  abbrev IsFew : TypedMember → Type 0
  IsFew t = member_nodes t ≤ 2 * most

  abbrev IsFewIn : TypedClass → Type 0
  IsFewIn c = Each IsFew c.members

  abbrev few_written : Member → Bool
  few_written m = nat_le (written_nodes m) most

  abbrev FewSeat : Seat × Opened → Type 0
  FewSeat x = OnMade IsFew (made_member x.0 x.1)

  seats_few : (heads : List Iface) (d : Decl) (earlier ms : List Member) → list_all few_written ms ≡ true → Each FewSeat (seats heads d earlier (map opened ms))
  seats_few heads d earlier [] h = tt
  seats_few heads d earlier (m ∷ ms) h =
      let k = both (few_written m) (list_all few_written ms) h in
      let le = leb-true (written_nodes m) most k.0 in
      let seat : Seat = record { heads = heads; decl = d; earlier = earlier } in
      (so_made (λ t. member_nodes t ≤ 2 * written_nodes m) IsFew (made_member seat (opened m)) (member_few seat m) (λ t e. omega arith), seats_few heads d (earlier ++ m ∷ []) ms k.1)

  no_members : (xs : List (Seat × Opened)) (P : List TypedMember → Type 0) → OnMade P (made_members None xs)
  no_members [] P = tt
  no_members (x ∷ xs) P = no_members xs P

  members_few : (xs : List (Seat × Opened)) (done : List TypedMember) → Each FewSeat xs → Each IsFew done → OnMade (Each IsFew) (made_members (Some done) xs)
  members_few [] done h k = k
  members_few (x ∷ xs) done h k = by_member (made_member x.0 x.1) h.0 (λ t e. members_few xs (done ++ t ∷ []) h.1 (each_more IsFew done t k e)) where
    by_member : (o : Option TypedMember) → OnMade IsFew o → ((t : TypedMember) → IsFew t → OnMade (Each IsFew) (made_members (Some (done ++ t ∷ [])) xs)) →
        OnMade (Each IsFew) (made_members (option_map (λ t. done ++ t ∷ []) o) xs)
    by_member None g later = no_members xs (Each IsFew)
    by_member (Some t) g later = later t g

  -- the constructor that isn't written has none
  default_few : (d : Decl) (ms : List TypedMember) → Each IsFew ms → Each IsFew (with_default d ms)
  default_few d ms k = by_kind d.is_interface where
    by_written : (b : Bool) → Each IsFew (if b then ms ++ default_constructor ∷ [] else ms)
    by_written true = each_more IsFew ms default_constructor k (omega arith)
    by_written false = k

    by_kind : (b : Bool) → Each IsFew (cond b ms (if has_no_constructor d then ms ++ default_constructor ∷ [] else ms))
    by_kind true = k
    by_kind false = by_written (has_no_constructor d)

  class_few : (heads : List Iface) (d : Decl) → has_at_most most d ≡ true → OnMade IsFewIn (made_class heads (open_decl d))
  class_few heads d h =
      let xs = seats_of heads (open_decl d) in
      map_made (λ ms. record { head = resolved_head heads (open_decl d); members = with_default d ms }) IsFewIn (made_members (Some []) xs)
      (so_made (Each IsFew) _ (made_members (Some []) xs) (members_few xs [] (seats_few heads d [] d.members h) tt) (λ ms k. default_few d ms k))

  no_classes : (heads : List Iface) (ds : List OpenDecl) (P : List TypedClass → Type 0) → OnMade P (made_classes heads None ds)
  no_classes heads [] P = tt
  no_classes heads (d ∷ ds) P = no_classes heads ds P

  classes_few : (heads : List Iface) (ds : List Decl) (done : List TypedClass) → list_all (has_at_most most) ds ≡ true → Each IsFewIn done → OnMade (Each IsFewIn) (made_classes heads (Some done) (map open_decl ds))
  classes_few heads [] done h k = k
  classes_few heads (d ∷ ds) done h k =
      let g = both (has_at_most most d) (list_all (has_at_most most) ds) h in
      by_class (made_class heads (open_decl d)) (class_few heads d g.0) (λ c e. classes_few heads ds (done ++ c ∷ []) g.1 (each_more IsFewIn done c k e)) where
        by_class : (o : Option TypedClass) → OnMade IsFewIn o → ((c : TypedClass) → IsFewIn c → OnMade (Each IsFewIn) (made_classes heads (Some (done ++ c ∷ [])) (map open_decl ds))) →
            OnMade (Each IsFewIn) (made_classes heads (option_map (λ c. done ++ c ∷ []) o) (map open_decl ds))
        by_class None g later = no_classes heads (map open_decl ds) (Each IsFewIn)
        by_class (Some c) g later = later c g

  unit_few : (heads : List Iface) (ds : List Decl) → list_all (has_at_most most) ds ≡ true → OnMade (λ (tree : TypedUnit). Each IsFewIn tree.classes) (unit_in heads (map open_decl ds))
  unit_few heads ds h = map_made (λ cs. record { classes = cs }) (λ (tree : TypedUnit). Each IsFewIn tree.classes) (made_classes heads (Some []) (map open_decl ds)) (classes_few heads ds [] h tt)

pub nodes_few : ResolvedNodesAreFew
nodes_few unit others tree most typed h c i m j =
    let heads = heads_of unit.decls others in
    let all = on_some (λ (tree : TypedUnit). Each (IsFewIn most) tree.classes) (unit_in heads (map open_decl unit.decls)) tree typed.resolved (unit_few most heads unit.decls h) in
    each_in (IsFew most) j (each_in (IsFewIn most) i all)

pub room_for_written : WrittenLimitsLeaveRoom
room_for_written unit others tree typed h hier c i m j few =
    let nodes = nodes_few unit others tree 1200 typed h c i m j in
    room_left hier c.head m (record { nodes = omega arith; aliases = few.aliases; steps = few.steps })
