-- A unit without a fault has a resolved tree.
use Rattle.std.proofs.Common.{◌≡◌, List, [], ◌∷◌, ◌++◌, map, Option, Some, None, true, refl, sym, subst}
use Rattle.std.specs.Prelude.{is_some}
use Rattle.std.specs.List.{flat_map}
use Rattle.std.specs.Option.{option_map, option_map_or}
use Rattle.iface_codec.specs.declared.iface.Iface.{Iface}
use Rattle.jp_ast.specs.declared.expr.Expr.{Expr}
use Rattle.jp_ast.specs.declared.guard.GuardExpr.{GuardExpr}
use Rattle.jp_ast.specs.declared.decl.Decl.{Decl}
use Rattle.jp_ast.specs.declared.decl.Member.{Member}
use Rattle.jp_meaning.specs.declared.unit.TypedMember.{TypedMember}
use Rattle.jp_meaning.specs.declared.unit.TypedClass.{TypedClass}
use Rattle.type_rules.specs.declared.scope.Scope.{Scope}
use Rattle.type_rules.specs.declared.guard_scope.GuardScope.{GuardScope}
use Rattle.type_rules.specs.declared.seen.Role.TheVariants as role
use Rattle.type_rules.specs.Nodes.{Visit}
use Rattle.type_rules.specs.Table.{faults_of}
use Rattle.type_rules.specs.Heads.{heads_of}
use Rattle.type_rules.specs.Expressions.{seen_all, visits_all, arguments}
use Rattle.type_rules.specs.Statements.{waiting, operand, visits_along, made_along}
use Rattle.type_rules.specs.Guards.{Guarded, guarded}
use Rattle.type_rules.specs.Units.{Seat, Opened, opened, open_decl, guard_part, super_part, block_part, guard_scope, guard_of, body_scope, super_parts, member_node, param_visits, member_visits, made_guard, made_member, seats, seats_of, decl_visits, made_members, made_class, visits_from, made_classes, visits_of}
use Rattle.type_rules.specs.Laws.{SoundIsTyped}
use Rattle.type_rules.proofs.Soundness.{front_sound, back_sound, some_map, some_then}
use Rattle.type_rules.proofs.Values.{are_values, operand_is, arguments_from, and_true, sound}
use Rattle.type_rules.proofs.Flows.{some_is, block_makes}
use Rattle.type_rules.proofs.GuardTrees.{guard_makes}
use Rattle.type_rules.proofs.Firsts.{none_first}

-- PARTS OF A MEMBER

guard_some : (c : GuardScope) (o : Option GuardExpr) → faults_of (option_map_or (λ (x : Guarded). x.visits) (option_map (λ (g : GuardScope → Guarded). g c) (option_map guarded o)) []) ≡ [] →
    is_some (made_guard (option_map (λ (g : GuardScope → Guarded). g c) (option_map guarded o))) ≡ true
guard_some c None e = refl
guard_some c (Some x) e = some_map Some (guarded x c).made (guard_makes x c e)

values : (c : Scope) (xs : List Expr) → faults_of (visits_all (map (operand c) (map waiting xs))) ≡ [] → are_values (seen_all (map (operand c) (map waiting xs))) ≡ true
values c [] e = refl
values c (x ∷ xs) e = and_true _ _
    (operand_is _ (sound c x role.Operand (front_sound (operand c (waiting x)).visits (visits_all (map (operand c) (map waiting xs))) e)))
    (values c xs (back_sound (operand c (waiting x)).visits (visits_all (map (operand c) (map waiting xs))) e))

super_some : (c : Scope) (o : Option (List Expr)) → faults_of (option_map_or visits_all (option_map (map (operand c)) (option_map (map waiting) o)) []) ≡ [] →
    is_some (arguments (Some []) (option_map_or seen_all (option_map (map (operand c)) (option_map (map waiting) o)) [])) ≡ true
super_some c None e = refl
super_some c (Some xs) e = arguments_from (seen_all (map (operand c) (map waiting xs))) [] (values c xs e)

-- MEMBERS

member_some : (seat : Seat) (m : Member) → faults_of (member_visits seat (opened m)) ≡ [] → is_some (made_member seat (opened m)) ≡ true
member_some seat m e =
    let o : Opened = opened m in
    let c : Scope = body_scope seat o in
    let last : List Visit = record { place = m.place; node = member_node seat o } ∷ [] in
    let block : List Visit = visits_along o.block c in
    let supers : List Visit = option_map_or visits_all (super_parts seat o) [] in
    let guards : List Visit = option_map_or (λ (x : Guarded). x.visits) (guard_of seat o) [] in
    let e1 = back_sound (param_visits [] m.params) (guards ++ (supers ++ (block ++ last))) e in
    let e2 = back_sound guards (supers ++ (block ++ last)) e1 in
    let e3 = back_sound supers (block ++ last) e2 in
    some_then _ (made_guard (guard_of seat o)) (guard_some (guard_scope seat m) (guard_part m.part) (front_sound guards (supers ++ (block ++ last)) e1))
    (λ g. some_then _ (arguments (Some []) (option_map_or seen_all (super_parts seat o) [])) (super_some c (super_part m.part) (front_sound supers (block ++ last) e2))
    (λ args. some_map _ (made_along (Some []) o.block c) (block_makes (block_part m.part) [] c (front_sound block last e3))))

members_some : (heads : List Iface) (d : Decl) (earlier : List Member) (ms : List Member) (done : List TypedMember) →
    faults_of (flat_map (λ (x : Seat × Opened). member_visits x.0 x.1) (seats heads d earlier (map opened ms))) ≡ [] →
    is_some (made_members (Some done) (seats heads d earlier (map opened ms))) ≡ true
members_some heads d earlier [] done e = refl
members_some heads d earlier (m ∷ ms) done e =
    let seat : Seat = record { heads = heads; decl = d; earlier = earlier } in
    let more : List (Seat × Opened) = seats heads d (earlier ++ m ∷ []) (map opened ms) in
    let rest : List Visit = flat_map (λ (x : Seat × Opened). member_visits x.0 x.1) more in
    let t = some_is (made_member seat (opened m)) (member_some seat m (front_sound (member_visits seat (opened m)) rest e)) in
    subst (λ (o : Option TypedMember). is_some (made_members (option_map (λ t. done ++ t ∷ []) o) more) ≡ true) (sym t.1)
    (members_some heads d (earlier ++ m ∷ []) ms (done ++ t.0 ∷ []) (back_sound (member_visits seat (opened m)) rest e))

-- UNITS

class_some : (heads : List Iface) (before : List Decl) (d : Decl) → faults_of (decl_visits heads before (open_decl d)) ≡ [] → is_some (made_class heads (open_decl d)) ≡ true
class_some heads before d e =
    some_map _ (made_members (Some []) (seats_of heads (open_decl d))) (members_some heads d [] d.members []
    (front_sound (flat_map (λ (x : Seat × Opened). member_visits x.0 x.1) (seats_of heads (open_decl d))) _ e))

classes_some : (heads : List Iface) (before ds : List Decl) (done : List TypedClass) → faults_of (visits_from heads before (map open_decl ds)) ≡ [] →
    is_some (made_classes heads (Some done) (map open_decl ds)) ≡ true
classes_some heads before [] done e = refl
classes_some heads before (d ∷ ds) done e =
    let t = some_is (made_class heads (open_decl d)) (class_some heads before d (front_sound (decl_visits heads before (open_decl d)) _ e)) in
    subst (λ (o : Option TypedClass). is_some (made_classes heads (option_map (λ t. done ++ t ∷ []) o) (map open_decl ds)) ≡ true) (sym t.1)
    (classes_some heads (before ++ d ∷ []) ds (done ++ t.0 ∷ []) (back_sound (decl_visits heads before (open_decl d)) _ e))

pub sound_is_typed : SoundIsTyped
sound_is_typed unit others e =
    some_map _ (made_classes (heads_of unit.decls others) (Some []) (map open_decl unit.decls))
    (classes_some (heads_of unit.decls others) [] unit.decls [] (none_first (faults_of (visits_of unit others)) e))
