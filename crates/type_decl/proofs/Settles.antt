-- Members are settled one after the other, and then their declaration is.
use Rattle.std.proofs.Common.{◌≡◌, ℕ, ◌+◌, ◌<◌, ◌≤◌, List, [], ◌∷◌, ◌++◌, map, take, length, get_or, Option, Some, None, Bool, refl, sym, ap, ◌∙◌, subst, arith}
use Rattle.std.specs.List.{flat_map, cons_option}
use Rattle.std.specs.Option.{option_map, option_map_or, option_to_list}
use Rattle.std.proofs.lemmas.List.{append-nil, take_more, take_all}
use Rattle.iface_codec.specs.declared.iface.Iface.{Iface}
use Rattle.iface_codec.specs.declared.iface.IfaceMethod.{IfaceMethod}
use Rattle.jp_ast.specs.declared.decl.Decl.{Decl}
use Rattle.jp_ast.specs.declared.decl.Member.{Member}
use Rattle.jp_meaning.specs.declared.unit.TypedPart.{TypedPart}
use Rattle.jp_meaning.specs.declared.unit.TypedMember.{TypedMember}
use Rattle.jp_meaning.specs.declared.unit.TypedClass.{TypedClass}
use Rattle.type_rules.specs.declared.fault.TypeFault.{TypeFault}
use Rattle.type_rules.specs.declared.seen.Seen.{Seen}
use Rattle.type_rules.specs.Completing.{can_complete}
use Rattle.type_rules.specs.Heads.{as_method_with}
use Rattle.type_rules.specs.Expressions.{Part, seen_all, arguments}
use Rattle.type_rules.specs.Nodes.{Visit, AtMember, AtDecl}
use Rattle.type_rules.specs.Table.{own_faults, faults_of}
use Rattle.type_rules.specs.Typing.{earlier}
use Rattle.type_rules.specs.Units.{Seat, Opened, opened, open_decl, block_part, member_node, member_visits, super_parts, place_in, super_params, seats_of}
use Rattle.type_heads.proofs.FaultLists.{then_faults}
use Rattle.type_decl.specs.declared.places.Places.{Places}
use Rattle.type_decl.specs.declared.walking.Walked.{Walked}
use Rattle.type_decl.specs.declared.settling.Settled.{Settled}
use Rattle.type_decl.specs.Parts.{seat_in, seat_of, entry_in, guard_in, super_in, block_in, slots_in, part_visits}
use Rattle.type_decl.specs.Positions.{places_of, place_by, counted, AreFew}
use Rattle.type_decl.specs.Walking.{walked_of, WalksMembers}
use Rattle.type_decl.specs.Settling.{own_visit, own_visits, made_in, made_front, method_at, methods_front, member_of, with_member}
use Rattle.type_decl.specs.SettledMembers.{settled_from, SettlesOne, SettlesMembers}
use Rattle.type_decl.specs.Checking.{decl_visit, class_from, class_in, nodes_in, SettlesDecl, ChecksDecl}
use Rattle.type_decl.proofs.Opens.{as_many, walked_at}
use Rattle.type_decl.proofs.Orders.{earlier_both}
use Rattle.type_decl.proofs.Positions.{counted_more, few_front}
use Rattle.type_decl.proofs.Seats.{made_more, methods_more, own_more, parts_first}

-- ONE MEMBER

pub own_judged : (heads : List Iface) (d : Decl) (before : List Member) (m : Member) (old new : Option TypeFault) (args : Option (List Seen)) (completes : Bool) → args ≡ super_in heads d m → completes ≡ can_complete (block_part m.part) →
    new ≡ earlier old (own_faults m.place (AtMember (record { heads = heads; decl = d; earlier = before; member = m; super_args = args; completes = completes }))) →
    new ≡ earlier old (faults_of (own_visit heads d before m ∷ []))
unfolding own_visit super_in
own_judged heads d before m old new args completes a b e =
    e ∙ ((λ i. earlier old (own_faults m.place (AtMember (record { heads = heads; decl = d; earlier = before; member = m; super_args = a i; completes = b i }))))
    ∙ ap (earlier old) (sym (append-nil (own_faults m.place (member_node (seat_in heads d before) (opened m))))))

no_parts : (o : Option (List Part)) → option_map_or (λ (ps : List Seen). ps) (option_map seen_all o) [] ≡ option_map_or seen_all o []
no_parts None = refl
no_parts (Some ps) = refl

settled_is : (heads : List Iface) (d : Decl) (before : List Member) (m : Member) (part : TypedPart) → part ≡ place_in before m → settled_from heads d m part (walked_of heads d m) ≡ made_in heads d before m
unfolding made_in guard_in super_in block_in slots_in
settled_is heads d before m part e =
    λ i. member_of (e i) (slots_in heads d m) (guard_in heads d m) (super_params (seat_of heads d) (opened m))
    (arguments (Some []) (no_parts (super_parts (seat_of heads d) (opened m)) i)) (block_in heads d m)

by_option : {A : Type 0} (o : Option A) → option_to_list o ≡ cons_option o []
by_option None = refl
by_option (Some x) = refl

-- MEMBERS

-- some members are settled, as many as were yielded
pub record Settling (heads : List Iface) (d : Decl) (ms : List Member) (old new : Option TypeFault) (at count : ℕ) (made : Option (List TypedMember)) (methods : List IfaceMethod) (places : Places) : Type 0 where
  pub at_is : at ≡ count
  pub front : SettlesMembers heads d (take at ms) old new made methods
  pub places_are : places ≡ places_of (take at ms)

pub none_settled : (heads : List Iface) (d : Decl) (ms : List Member) (old : Option TypeFault) (made : Option (List TypedMember)) (methods : List IfaceMethod) (places : Places) → made ≡ Some [] → methods ≡ [] → places ≡ places_of [] →
    Settling heads d ms old old 0 0 made methods places
unfolding made_front methods_front
none_settled heads d ms old made methods places a b e = record { at_is = refl; front = record { made_are = a; methods_are = b; first = refl }; places_are = e }

pub one_more_settled : (heads : List Iface) (d : Decl) (ms : List Member) (old mid new : Option TypeFault) (at count : ℕ) (made more : Option (List TypedMember)) (methods others : List IfaceMethod) (places next : Places)
    (m : Member) (before : List Member) (w : Walked) (part : TypedPart) (one : Settled) → Settling heads d ms old mid at count made methods places → at < length ms → m ≡ get_or ms at m → before ≡ take at ms →
    w ≡ walked_of heads d m → new ≡ earlier mid (faults_of (own_visit heads d before m ∷ [])) → part ≡ place_by places m → next ≡ counted places m → SettlesOne heads d m part w one →
    more ≡ with_member made one.made → others ≡ methods ++ option_to_list one.method → Settling heads d ms old new (at + 1) (count + 1) more others next
unfolding entry_in
one_more_settled heads d ms old mid new at count made more methods others places next m before w part one a l e b g f p n s h k =
    let t : take at ms ++ m ∷ [] ≡ take (at + 1) ms = sym (take_more ms at m l ∙ ap (λ (z : Member). take at ms ++ z ∷ []) (sym e)) in
    let place : part ≡ place_in (take at ms) m = p ∙ ap (λ (z : Places). place_by z m) a.places_are in
    let made_one : one.made ≡ made_in heads d (take at ms) m = s.made_is ∙ (ap (settled_from heads d m part) g ∙ settled_is heads d (take at ms) m part place) in
    let method_one : one.method ≡ method_at (seat_in heads d (take at ms), opened m) = s.method_is ∙ ap (λ (z : Walked). as_method_with z.entry m) g in
    record {
      at_is = ap (λ (i : ℕ). i + 1) a.at_is;
      front = subst (λ (zs : List Member). SettlesMembers heads d zs old new more others) t (record {
        made_are = h ∙ ((λ i. with_member (a.front.made_are i) (made_one i)) ∙ sym (made_more heads d (take at ms) m));
        methods_are = k ∙ ((λ i. a.front.methods_are i ++ (ap option_to_list method_one ∙ by_option (method_at (seat_in heads d (take at ms), opened m))) i) ∙ sym (methods_more heads d (take at ms) m));
        first = then_faults old mid new (own_visits heads d [] (take at ms)) (own_visit heads d (take at ms) m ∷ []) a.front.first (f ∙ ap (λ (zs : List Member). earlier mid (faults_of (own_visit heads d zs m ∷ []))) b)
            ∙ ap (λ (vs : List Visit). earlier old (faults_of vs)) (sym (own_more heads d [] (take at ms) m));
      });
      places_are = n ∙ (ap (λ (z : Places). counted z m) a.places_are ∙ (counted_more (take at ms) m ∙ ap places_of t));
    }

-- what is yielded next is the next member, as its parts are walked
module _ (heads : List Iface) (d : Decl) (ms ds : List Member) (all : List Walked) (old new : Option TypeFault) (at count : ℕ) (made : Option (List TypedMember)) (methods : List IfaceMethod) (places : Places)
    (a : Settling heads d ms old new at count made methods places) (q : all ≡ map (walked_of heads d) ds) (s : ms ≡ ds) where
  pub next_within : count < length all → at < length ms
  next_within l =
      let i : at ≡ count = a.at_is in
      let n : length all ≡ length ds = as_many heads d ds all q in
      let k : length ms ≡ length ds = ap (λ (xs : List Member). length xs) s in
      omega arith

  pub next_walked : (w : Walked) (m : Member) → count < length all → w ≡ get_or all count w → m ≡ get_or ms at m → w ≡ walked_of heads d m
  next_walked w m l e f = walked_at heads d ds all count w m q l e (f ∙ (λ j. get_or (s j) (a.at_is j) m))

  pub next_few : length ds ≤ 8000 → AreFew places
  next_few l =
      let k : length ms ≡ length ds = ap (λ (xs : List Member). length xs) s in
      few_front ms at places a.places_are (omega arith)

  pub next_fits : count < length all → length ds ≤ 8000 → at + 1 ≤ 8000
  next_fits l f =
      let h : at < length ms = next_within l in
      let k : length ms ≡ length ds = ap (λ (xs : List Member). length xs) s in
      omega arith

pub all_settled : (heads : List Iface) (d : Decl) (ms : List Member) (old new : Option TypeFault) (at count : ℕ) (made : Option (List TypedMember)) (methods : List IfaceMethod) (places : Places) → length ms ≤ count →
    Settling heads d ms old new at count made methods places → SettlesMembers heads d ms old new made methods
all_settled heads d ms old new at count made methods places l a =
    subst (λ (zs : List Member). SettlesMembers heads d zs old new made methods) (take_all at ms (omega (arith, l, a.at_is))) a.front

-- DECLARATIONS

pub decl_settled : (heads : List Iface) (before : List Decl) (d : Decl) (old mid new : Option TypeFault) (made : Option (List TypedMember)) (methods : List IfaceMethod) (class : Option TypedClass) → SettlesMembers heads d d.members old mid made methods →
    new ≡ earlier mid (own_faults d.place (AtDecl (record { heads = heads; earlier = before; decl = d }))) → class ≡ class_from d made methods → SettlesDecl heads before d old new class
unfolding class_in made_front methods_front
decl_settled heads before d old mid new made methods class a e g = record {
  class_is = g ∙ (λ i. class_from d (a.made_are i) (a.methods_are i));
  first = e ∙ (ap (earlier mid) (sym (append-nil (own_faults d.place (AtDecl (record { heads = heads; earlier = before; decl = d })))))
      ∙ ap (λ (o : Option TypeFault). earlier o (faults_of (decl_visit heads before d ∷ []))) a.first);
}

nodes_first : (heads : List Iface) (before : List Decl) (d : Decl) (old : Option TypeFault) →
    earlier old (faults_of (nodes_in heads before d)) ≡ earlier (earlier (earlier old (faults_of (flat_map (part_visits heads d) d.members))) (faults_of (own_visits heads d [] d.members))) (faults_of (decl_visit heads before d ∷ []))
unfolding nodes_in
nodes_first heads before d old =
    earlier_both old (flat_map (λ (x : Seat × Opened). member_visits x.0 x.1) (seats_of heads (open_decl d))) (decl_visit heads before d ∷ [])
    ∙ ap (λ (o : Option TypeFault). earlier o (faults_of (decl_visit heads before d ∷ []))) (parts_first heads d [] d.members old)

pub decl_checked : (heads back : List Iface) (before : List Decl) (d : Decl) (old mid new : Option TypeFault) (all : List Walked) (class : Option TypedClass) → WalksMembers heads d d.members old mid back all →
    SettlesDecl back before d mid new class → ChecksDecl heads before d old new (record { heads = back; class = class })
decl_checked heads back before d old mid new all class a s =
    let v = subst (λ (z : List Iface). SettlesDecl z before d mid new class) a.heads_are s in
    record {
      heads_are = a.heads_are;
      class_is = v.class_is;
      first = v.first ∙ (ap (λ (o : Option TypeFault). earlier (earlier o (faults_of (own_visits heads d [] d.members))) (faults_of (decl_visit heads before d ∷ []))) a.first ∙ sym (nodes_first heads before d old));
    }
