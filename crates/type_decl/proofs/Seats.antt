-- The members of a declaration, one after the other.
use Rattle.std.proofs.Common.{◌≡◌, List, [], ◌∷◌, ◌++◌, map, Option, Some, refl, sym, ap, ◌∙◌, append_assoc, append-nil}
use Rattle.std.specs.List.{flat_map, filter_map, cons_option}
use Rattle.std.specs.Option.{option_map, option_map_or, option_and_then}
use Rattle.std.proofs.lemmas.List.Elements.{filter_map-append}
use Rattle.iface_codec.specs.declared.iface.Iface.{Iface}
use Rattle.jp_ast.specs.declared.decl.Decl.{Decl}
use Rattle.jp_ast.specs.declared.decl.Member.{Member}
use Rattle.jp_meaning.specs.declared.unit.TypedMember.{TypedMember}
use Rattle.type_rules.specs.declared.fault.TypeFault.{TypeFault}
use Rattle.type_rules.specs.Nodes.{Visit}
use Rattle.type_rules.specs.Table.{faults_of}
use Rattle.type_rules.specs.Expressions.{visits_all}
use Rattle.type_rules.specs.Statements.{visits_along}
use Rattle.type_rules.specs.Guards.{Guarded}
use Rattle.type_rules.specs.Units.{Seat, Opened, opened, param_visits, guard_of, super_parts, body_scope, member_visits, made_member, seats, made_members}
use Rattle.type_rules.specs.Typing.{earlier}
use Rattle.type_decl.specs.Parts.{seat_in, front_visits, super_visits, block_visits, part_visits}
use Rattle.type_decl.specs.Settling.{own_visit, own_visits, made_in, front_seats, made_front, method_at, methods_front}
use Rattle.type_decl.proofs.Orders.{earlier_both, exchange}

-- ONE MEMBER MORE

seats_more : (heads : List Iface) (d : Decl) (before ms : List Member) (m : Member) →
    seats heads d before (map opened (ms ++ m ∷ [])) ≡ seats heads d before (map opened ms) ++ (seat_in heads d (before ++ ms), opened m) ∷ []
seats_more heads d before [] m = ap (λ (xs : List Member). (seat_in heads d xs, opened m) ∷ []) (sym (append-nil before))
seats_more heads d before (x ∷ ms) m =
    ap (λ (ss : List (Seat × Opened)). (seat_in heads d before, opened x) ∷ ss)
    (seats_more heads d (before ++ x ∷ []) ms m
    ∙ ap (λ (xs : List Member). seats heads d (before ++ x ∷ []) (map opened ms) ++ (seat_in heads d xs, opened m) ∷ []) (append_assoc before (x ∷ []) ms))

made_one_more : (so_far : Option (List TypedMember)) (ss : List (Seat × Opened)) (x : Seat × Opened) →
    made_members so_far (ss ++ x ∷ []) ≡ option_and_then (λ ms. option_map (λ m. ms ++ m ∷ []) (made_member x.0 x.1)) (made_members so_far ss)
made_one_more so_far [] x = refl
made_one_more so_far (s ∷ ss) x = made_one_more (option_and_then (λ ms. option_map (λ m. ms ++ m ∷ []) (made_member s.0 s.1)) so_far) ss x

pub made_more : (heads : List Iface) (d : Decl) (ms : List Member) (m : Member) →
    made_front heads d (ms ++ m ∷ []) ≡ option_and_then (λ so_far. option_map (λ one. so_far ++ one ∷ []) (made_in heads d ms m)) (made_front heads d ms)
unfolding made_front made_in
made_more heads d ms m = ap (made_members (Some [])) (seats_more heads d [] ms m) ∙ made_one_more (Some []) (front_seats heads d ms) (seat_in heads d ms, opened m)

pub methods_more : (heads : List Iface) (d : Decl) (ms : List Member) (m : Member) →
    methods_front heads d (ms ++ m ∷ []) ≡ methods_front heads d ms ++ cons_option (method_at (seat_in heads d ms, opened m)) []
unfolding methods_front
methods_more heads d ms m = ap (filter_map method_at) (seats_more heads d [] ms m) ∙ filter_map-append method_at (front_seats heads d ms) ((seat_in heads d ms, opened m) ∷ [])

pub own_more : (heads : List Iface) (d : Decl) (before ms : List Member) (m : Member) →
    own_visits heads d before (ms ++ m ∷ []) ≡ own_visits heads d before ms ++ own_visit heads d (before ++ ms) m ∷ []
own_more heads d before [] m = ap (λ (xs : List Member). own_visit heads d xs m ∷ []) (sym (append-nil before))
own_more heads d before (x ∷ ms) m =
    ap (λ (vs : List Visit). own_visit heads d before x ∷ vs)
    (own_more heads d (before ++ x ∷ []) ms m
    ∙ ap (λ (xs : List Member). own_visits heads d (before ++ x ∷ []) ms ++ own_visit heads d xs m ∷ []) (append_assoc before (x ∷ []) ms))

-- THE NODES, those of the parts of all members first

regroup : {A : Type 0} (ps gs ss bs ws : List A) → ps ++ (gs ++ (ss ++ (bs ++ ws))) ≡ ((ps ++ gs) ++ (ss ++ bs)) ++ ws
regroup {A} ps gs ss bs ws =
    sym (append_assoc (ps ++ gs) (ss ++ bs) ws ∙ (append_assoc ps gs ((ss ++ bs) ++ ws) ∙ ap (λ (xs : List A). ps ++ (gs ++ xs)) (append_assoc ss bs ws)))

parts_then_own : (heads : List Iface) (d : Decl) (before : List Member) (m : Member) →
    member_visits (seat_in heads d before) (opened m) ≡ part_visits heads d m ++ own_visit heads d before m ∷ []
unfolding front_visits super_visits block_visits own_visit
parts_then_own heads d before m =
    let s : Seat = seat_in heads d before in
    let o : Opened = opened m in
    regroup (param_visits [] m.params) (option_map_or (λ (g : Guarded). g.visits) (guard_of s o) []) (option_map_or visits_all (super_parts s o) [])
    (visits_along o.block (body_scope s o)) (own_visit heads d before m ∷ [])

pub parts_first : (heads : List Iface) (d : Decl) (before ms : List Member) (old : Option TypeFault) →
    earlier old (faults_of (flat_map (λ (x : Seat × Opened). member_visits x.0 x.1) (seats heads d before (map opened ms))))
    ≡ earlier (earlier old (faults_of (flat_map (part_visits heads d) ms))) (faults_of (own_visits heads d before ms))
parts_first heads d before [] old = refl
parts_first heads d before (m ∷ ms) old =
    let parts : List Visit = part_visits heads d m in
    let own : List Visit = own_visit heads d before m ∷ [] in
    let rest : List Visit = flat_map (λ (x : Seat × Opened). member_visits x.0 x.1) (seats heads d (before ++ m ∷ []) (map opened ms)) in
    earlier_both old (member_visits (seat_in heads d before) (opened m)) rest
    ∙ (ap (λ (vs : List Visit). earlier (earlier old (faults_of vs)) (faults_of rest)) (parts_then_own heads d before m)
    ∙ (ap (λ (o : Option TypeFault). earlier o (faults_of rest)) (earlier_both old parts own)
    ∙ (parts_first heads d (before ++ m ∷ []) ms (earlier (earlier old (faults_of parts)) (faults_of own))
    ∙ exchange old parts own (flat_map (part_visits heads d) ms) (own_visits heads d (before ++ m ∷ []) ms))))
