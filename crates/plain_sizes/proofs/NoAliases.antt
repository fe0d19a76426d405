-- In a typed unit without guards no body reads an alias on entry.
use Rattle.std.proofs.Common.{◌≡◌, ℕ, Bool, true, List, [], ◌∷◌, ◌++◌, map, Option, Some, None, refl, ap, subst, zero, suc}
use Rattle.std.specs.Prelude.{is_some, not, slice_get}
use Rattle.std.specs.List.{list_all, filter_map, cons_option}
use Rattle.std.specs.Option.{option_map, option_map_or}
use Rattle.std.proofs.lemmas.Bool.{false≢true}
use Rattle.class_form.proofs.Facts.{both}
use Rattle.jp_pred.specs.declared.path.Path.{Path}
use Rattle.jp_pred.specs.declared.ty.Ty.{Ty}
use Rattle.jp_pred.specs.Names.{In, here, there}
use Rattle.iface_codec.specs.declared.iface.Iface.{Iface}
use Rattle.iface_codec.specs.declared.iface.IfaceMethod.{IfaceMethod}
use Rattle.jp_ast.specs.declared.guard.GuardExpr.{GuardExpr}
use Rattle.jp_ast.specs.declared.decl.SourceUnit.{SourceUnit}
use Rattle.jp_ast.specs.declared.decl.Decl.{Decl}
use Rattle.jp_ast.specs.declared.decl.Member.{Member}
use Rattle.jp_ast.specs.declared.decl.MemberPart.{MemberPart}
use Rattle.jp_ast.specs.declared.decl.MemberPart.TheVariants as part
use Rattle.jp_meaning.specs.declared.unit.TypedPart.{TypedPart}
use Rattle.jp_meaning.specs.declared.unit.TypedPart.TheVariants as typed
use Rattle.jp_meaning.specs.declared.unit.TypedClass.{TypedClass}
use Rattle.jp_meaning.specs.declared.unit.TypedUnit.{TypedUnit}
use Rattle.type_rules.specs.Heads.{heads_of, method_part, as_method_with}
use Rattle.type_rules.specs.Typing.{IsTyped}
use Rattle.type_rules.specs.Units.{Seat, OpenDecl, opened, open_decl, guard_scope, guard_part, entry_of, seats, seats_of, resolved_head, with_default, made_members, made_class, made_classes, unit_in}
use Rattle.type_rules.specs.Guards.{guarded}
use Rattle.gen_bounds.specs.Limits.{aliases_of}
use Rattle.plain_form.specs.Forms as form
use Rattle.node_laws.proofs.FlowNodes.{OnMade, map_made}

-- each of a list
abbrev Each : {A : Type 0} → (A → Type 0) → List A → Type 0
Each P [] = Unit {0}
Each P (x ∷ xs) = P x × Each P xs

each_in : {A : Type 0} (P : A → Type 0) {x : A} {xs : List A} → In x xs → Each P xs → P x
each_in P here h = h.0
each_in P (there i) h = each_in P i h.1

each_more : {A : Type 0} (P : A → Type 0) (xs : List A) (x : A) → Each P xs → P x → Each P (xs ++ x ∷ [])
each_more P [] x h k = (k, tt)
each_more P (y ∷ ys) x h k = (h.0, each_more P ys x h.1 k)

on_any : {A : Type 0} (P : A → Type 0) (o : Option A) → ((x : A) → P x) → OnMade P o
on_any P None h = tt
on_any P (Some x) h = h x

on_some : {A : Type 0} (P : A → Type 0) (o : Option A) (x : A) → o ≡ Some x → OnMade P o → P x
on_some P o x e h = subst (OnMade P) e h

-- METHODS

abbrev IsBare : IfaceMethod → Type 0
IsBare k = k.aliases ≡ []

bare_at : (ks : List IfaceMethod) (at : ℕ) → Each IsBare ks → option_map_or (λ k. k.aliases) (slice_get ks at) [] ≡ []
bare_at [] at h = refl
bare_at (k ∷ ks) zero h = h.0
bare_at (k ∷ ks) (suc at) h = bare_at ks at h.1

one_bare : (o : Option IfaceMethod) (ks : List IfaceMethod) → OnMade IsBare o → Each IsBare ks → Each IsBare (cons_option o ks)
one_bare None ks h k = k
one_bare (Some x) ks h k = (h, k)

-- without a guard the rules see none
no_guard : (q : MemberPart) → not (is_some (form.guard_part q)) ≡ true → guard_part q ≡ None
no_guard (part.Field t static) e = refl
no_guard (part.Static result block) e = refl
no_guard (part.Abstract result) e = refl
no_guard (part.Body result None block) e = refl
no_guard (part.Body result (Some guard) block) e = absurd (false≢true e)
no_guard (part.Constructor args block) e = refl

no_entry : (seat : Seat) (m : Member) → guard_part m.part ≡ None → entry_of seat (opened m) ≡ []
no_entry seat m e = ap (λ (o : Option GuardExpr). map (λ a. (a.path, a.ty)) (option_map_or (λ x. x.after.aliases) (option_map (λ g. g (guard_scope seat m)) (option_map guarded o)) [])) e

bare_part : (entry : List (Path × Ty)) (m : Member) (q : MemberPart) → entry ≡ [] → OnMade IsBare (method_part entry m q)
bare_part entry m (part.Field t static) e = tt
bare_part entry m (part.Static result block) e = refl
bare_part entry m (part.Abstract result) e = refl
bare_part entry m (part.Body result guard block) e = e
bare_part entry m (part.Constructor args block) e = tt

-- HEADS

methods_bare : (heads : List Iface) (d : Decl) (earlier ms : List Member) → list_all form.has_no_guard ms ≡ true →
    Each IsBare (filter_map (λ x. as_method_with (entry_of x.0 x.1) x.1.member) (seats heads d earlier (map opened ms)))
methods_bare heads d earlier [] h = tt
methods_bare heads d earlier (m ∷ ms) h =
    let k = both (form.has_no_guard m) (list_all form.has_no_guard ms) h in
    let seat : Seat = record { heads = heads; decl = d; earlier = earlier } in
    one_bare (as_method_with (entry_of seat (opened m)) m) _ (bare_part (entry_of seat (opened m)) m m.part (no_entry seat m (no_guard m.part k.0))) (methods_bare heads d (earlier ++ m ∷ []) ms k.1)

abbrev IsBareIn : TypedClass → Type 0
IsBareIn c = Each IsBare c.head.methods

abbrev has_none : Decl → Bool
has_none d = list_all form.has_no_guard d.members

class_bare : (heads : List Iface) (d : Decl) → has_none d ≡ true → OnMade IsBareIn (made_class heads (open_decl d))
class_bare heads d h =
    let ms = made_members (Some []) (seats_of heads (open_decl d)) in
    map_made (λ ms. record { head = resolved_head heads (open_decl d); members = with_default d ms }) IsBareIn ms (on_any _ ms (λ x. methods_bare heads d [] d.members h))

no_classes : (heads : List Iface) (ds : List OpenDecl) (P : List TypedClass → Type 0) → OnMade P (made_classes heads None ds)
no_classes heads [] P = tt
no_classes heads (d ∷ ds) P = no_classes heads ds P

classes_bare : (heads : List Iface) (ds : List Decl) (done : List TypedClass) → list_all has_none ds ≡ true → Each IsBareIn done → OnMade (Each IsBareIn) (made_classes heads (Some done) (map open_decl ds))
classes_bare heads [] done h k = k
classes_bare heads (d ∷ ds) done h k =
    let g = both (has_none d) (list_all has_none ds) h in
    by_class (made_class heads (open_decl d)) (class_bare heads d g.0) (λ c e. classes_bare heads ds (done ++ c ∷ []) g.1 (each_more IsBareIn done c k e)) where
      by_class : (o : Option TypedClass) → OnMade IsBareIn o → ((c : TypedClass) → IsBareIn c → OnMade (Each IsBareIn) (made_classes heads (Some (done ++ c ∷ [])) (map open_decl ds))) →
          OnMade (Each IsBareIn) (made_classes heads (option_map (λ c. done ++ c ∷ []) o) (map open_decl ds))
      by_class None g later = no_classes heads (map open_decl ds) (Each IsBareIn)
      by_class (Some c) g later = later c g

unit_bare : (heads : List Iface) (ds : List Decl) → list_all has_none ds ≡ true → OnMade (λ (tree : TypedUnit). Each IsBareIn tree.classes) (unit_in heads (map open_decl ds))
unit_bare heads ds h = map_made (λ cs. record { classes = cs }) (λ (tree : TypedUnit). Each IsBareIn tree.classes) (made_classes heads (Some []) (map open_decl ds)) (classes_bare heads ds [] h tt)

of_part : (head : Iface) (p : TypedPart) → Each IsBare head.methods → aliases_of head p ≡ []
of_part head (typed.Field at) h = refl
of_part head (typed.Method at) h = bare_at head.methods at h
of_part head (typed.Constructor at) h = refl

pub no_aliases : (unit : SourceUnit) (others : List Iface) (tree : TypedUnit) → IsTyped unit others tree → form.HasNoGuards unit → (c : TypedClass) → In c tree.classes → (p : TypedPart) → aliases_of c.head p ≡ []
no_aliases unit others tree typed free c i p =
    let heads = heads_of unit.decls others in
    let all = on_some (λ (tree : TypedUnit). Each IsBareIn tree.classes) (unit_in heads (map open_decl unit.decls)) tree typed.resolved (unit_bare heads unit.decls free) in
    of_part c.head p (each_in IsBareIn i all)
