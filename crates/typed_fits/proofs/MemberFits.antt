-- A member without a fault has a tree that fits.
use Rattle.std.proofs.Common.{◌≡◌, ◌⊎◌, ℕ, ◌+◌, Bool, true, false, List, [], ◌∷◌, ◌++◌, map, length, Option, Some, None, refl, sym, ap, ◌∙◌, subst, inl, inr}
use Rattle.std.specs.Prelude.{◌&&◌, not, if◌then◌else◌, is_some, slice_get}
use Rattle.std.specs.List.{list_all, filter_map, flat_map, cons_option}
use Rattle.std.specs.Option.{option_map, option_map_or, option_and_then, option_to_list}
use Rattle.std.proofs.lemmas.Bool.{false≢true}
use Rattle.std.proofs.lemmas.List.{append_assoc, length-append}
use Rattle.std.proofs.lemmas.List.Elements.{filter_map-append}
use Rattle.jp_pred.specs.declared.ty.Ty.{Ty}
use Rattle.jp_pred.specs.declared.path.Path.{Path}
use Rattle.jp_pred.specs.Names.{Word, In, here, there}
use Rattle.jp_pred.proofs.Entries.{split_in}
use Rattle.iface_codec.specs.declared.iface.Iface.{Iface}
use Rattle.iface_codec.specs.declared.iface.IfaceMethod.{IfaceMethod}
use Rattle.jp_ast.specs.declared.expr.Expr.{Expr}
use Rattle.jp_ast.specs.declared.stmt.Stmt.{Stmt}
use Rattle.jp_ast.specs.declared.decl.Decl.{Decl}
use Rattle.jp_ast.specs.declared.decl.Member.{Member}
use Rattle.jp_ast.specs.declared.decl.MemberPart.{MemberPart}
use Rattle.jp_ast.specs.declared.decl.MemberPart.TheVariants as part
use Rattle.jp_meaning.specs.declared.unit.TypedPart.{TypedPart}
use Rattle.jp_meaning.specs.declared.unit.TypedPart.TheVariants as typed
use Rattle.jp_meaning.specs.Classes.{is_static}
use Rattle.jp_meaning.specs.Run.{Program}
use Rattle.type_rules.specs.declared.scope.Scope.{Scope}
use Rattle.type_rules.specs.declared.seen.Role.TheVariants as role
use Rattle.type_rules.specs.Heads.{field_part, constructor_part, method_part, as_field, as_constructor, as_method, as_method_with, static_kind, head_of, is_class, superclass_of}
use Rattle.type_rules.specs.Lookups.{constructor_of}
use Rattle.type_rules.specs.RulesOfDeclarations.{super_head}
use Rattle.type_rules.specs.Expressions.{seen_all, arguments}
use Rattle.type_rules.specs.Statements.{waiting, operand, flow, made_along}
use Rattle.type_rules.specs.Units.{Opened, Seat, super_part, block_part, opened, is_static_part, body_scope, super_parts, place_in, made_guard, guard_of, super_count, super_params, member_from, made_member, seats, entry_of}
use Rattle.code_trace.specs.Given.{has_receiver}
use Rattle.gen_body.specs.Names.{are_nameable, is_nameable}
use Rattle.calls_fit.specs.Fitting.{all_fit, check, stmt_fits, member_fits}
use Rattle.calls_fit.proofs.Named.{first_true, second_true, first_of, second_of}
use Rattle.typed_fits.proofs.Looking.{AreNameable, maker_nameable}
use Rattle.typed_fits.proofs.SeenFits.{Setting, AllFit, and_so, arguments_fit, part_fit}
use Rattle.typed_fits.proofs.FlowFits.{OnMade, block_fit}

-- WHERE A METHOD STANDS

abbrev pub as_own : Seat × Opened → Option IfaceMethod
as_own x = as_method_with (entry_of x.0 x.1) x.1.member

get_behind : {X : Type 0} (xs : List X) (y : X) (ys : List X) → slice_get (xs ++ y ∷ ys) (length xs) ≡ Some y
get_behind [] y ys = refl
get_behind (x ∷ xs) y ys = get_behind xs y ys

sizes : {X Y : Type 0} (xs : List X) (ys : List Y) (o : Option X) (q : Option Y) → length xs ≡ length ys → is_some o ≡ is_some q → length (xs ++ cons_option o []) ≡ length (ys ++ cons_option q [])
sizes xs ys None None e h = length-append xs [] ∙ ap (λ (n : ℕ). n + 0) e ∙ sym (length-append ys [])
sizes xs ys (Some x) (Some y) e h = length-append xs (x ∷ []) ∙ ap (λ (n : ℕ). n + 1) e ∙ sym (length-append ys (y ∷ []))
sizes xs ys None (Some y) e h = absurd (false≢true h)
sizes xs ys (Some x) None e h = absurd (false≢true (sym h))

cons_behind : {X : Type 0} (xs ys : List X) (o : Option X) → (xs ++ cons_option o []) ++ ys ≡ xs ++ cons_option o ys
cons_behind xs ys None = append_assoc xs [] ys
cons_behind xs ys (Some x) = append_assoc xs (x ∷ []) ys

-- a member is a method with the aliases that it reads exactly where it is one without
same_parts : (aliases : List (Path × Ty)) (m : Member) (q : MemberPart) → is_some (method_part aliases m q) ≡ is_some (method_part [] m q)
same_parts aliases m (part.Field t static) = refl
same_parts aliases m (part.Static result block) = refl
same_parts aliases m (part.Abstract result) = refl
same_parts aliases m (part.Body result guard block) = refl
same_parts aliases m (part.Constructor args block) = refl

module _ (heads : List Iface) (d : Decl) where
  -- a method stands behind as many as there are before it
  pub stands_at : (earlier : List Member) (ms : List Opened) (front : List IfaceMethod) → length front ≡ length (filter_map as_method earlier) → (x : Seat × Opened) → In x (seats heads d earlier ms) → (k : IfaceMethod) → as_own x ≡ Some k →
      slice_get (front ++ filter_map as_own (seats heads d earlier ms)) (length (filter_map as_method x.0.earlier)) ≡ Some k
  stands_at earlier [] front size x i k e = elim i [ ]
  stands_at earlier (m ∷ ms) front size x i k e = elim (split_in first x rest i) [
    | inl q ↦ subst (λ (z : Seat × Opened). (k : IfaceMethod) → as_own z ≡ Some k → slice_get (front ++ cons_option (as_own first) (filter_map as_own rest)) (length (filter_map as_method z.0.earlier)) ≡ Some k) q
        (λ k e. ap (λ (o : Option IfaceMethod). slice_get (front ++ cons_option o (filter_map as_own rest)) (length (filter_map as_method earlier))) e
        ∙ ap (λ (n : ℕ). slice_get (front ++ k ∷ filter_map as_own rest) n) (sym size) ∙ get_behind front k (filter_map as_own rest)) k e
    | inr j ↦ ap (λ (ks : List IfaceMethod). slice_get ks (length (filter_map as_method x.0.earlier))) (sym (cons_behind front (filter_map as_own rest) (as_own first)))
        ∙ stands_at (earlier ++ m.member ∷ []) ms (front ++ cons_option (as_own first) [])
        (sizes front (filter_map as_method earlier) (as_own first) (as_method m.member) size (same_parts (entry_of first.0 m) m.member m.member.part) ∙ ap length (sym (filter_map-append as_method earlier (m.member ∷ [])))) x j k e
  ] where
    first : Seat × Opened
    first = (record { heads = heads; decl = d; earlier = earlier }, m)

    rest : List (Seat × Opened)
    rest = seats heads d (earlier ++ m.member ∷ []) ms

  -- and what is known of each seat: the heads, the declaration, and which member it is of
  pub seat_is : (earlier : List Member) (ms : List Opened) (x : Seat × Opened) → In x (seats heads d earlier ms) → (x.0.heads ≡ heads) × (x.0.decl ≡ d) × In x.1 ms
  seat_is earlier [] x i = elim i [ ]
  seat_is earlier (m ∷ ms) x i = elim (split_in first x (seats heads d (earlier ++ m.member ∷ []) ms) i) [
    | inl q ↦ (ap (λ (z : Seat × Opened). z.0.heads) (sym q), ap (λ (z : Seat × Opened). z.0.decl) (sym q), subst (λ (z : Seat × Opened). In z.1 (m ∷ ms)) q here)
    | inr j ↦ let g = seat_is (earlier ++ m.member ∷ []) ms x j in (g.0, g.1, there g.2)
  ] where
    first : Seat × Opened
    first = (record { heads = heads; decl = d; earlier = earlier }, m)

-- WHETHER THERE IS A RECEIVER

abbrev place_by : List Member → Member → MemberPart → TypedPart
place_by earlier m q =
    if is_some (field_part m q) then typed.Field (length (filter_map as_field earlier))
    else if is_some (constructor_part m q) then typed.Constructor (length (filter_map as_constructor earlier))
    else typed.Method (length (filter_map as_method earlier))

-- nothing is evaluated in the member
abbrev pub IsSilent : MemberPart → Type 0
IsSilent q = (block_part q ≡ []) × (super_part q ≡ None)

module _ (head : Iface) (earlier : List Member) (m : Member) (aliases : List (Path × Ty)) (there : (k : IfaceMethod) → as_method_with aliases m ≡ Some k → slice_get head.methods (length (filter_map as_method earlier)) ≡ Some k) where
  pub own_receiver : IsSilent m.part ⊎ (has_receiver head (place_in earlier m) ≡ not (is_static_part m.part))
  own_receiver = by_part m.part refl where
    method_receiver : (q : MemberPart) → m.part ≡ q → (k : IfaceMethod) → method_part aliases m q ≡ Some k → has_receiver head (typed.Method (length (filter_map as_method earlier))) ≡ not (is_static k.kind)
    method_receiver q e k f = ap (λ (o : Option IfaceMethod). option_map_or (λ method. not (is_static method.kind)) o false) (there k (ap (method_part aliases m) e ∙ f))

    placed : (q : MemberPart) → m.part ≡ q → place_in earlier m ≡ place_by earlier m q
    placed q e = ap (place_by earlier m) e

    private_too : (b : Bool) → is_static (static_kind b) ≡ true
    private_too true = refl
    private_too false = refl

    by_part : (q : MemberPart) → m.part ≡ q → IsSilent m.part ⊎ (has_receiver head (place_in earlier m) ≡ not (is_static_part m.part))
    by_part (part.Field t static) e = inl (subst IsSilent (sym e) (refl, refl))
    by_part (part.Abstract result) e = inl (subst IsSilent (sym e) (refl, refl))
    by_part (part.Static result block) e =
        inr (ap (has_receiver head) (placed (part.Static result block) e) ∙ method_receiver (part.Static result block) e _ refl ∙ ap not (private_too m.is_private) ∙ ap (λ (q : MemberPart). not (is_static_part q)) (sym e))
    by_part (part.Body result guard block) e =
        inr (ap (has_receiver head) (placed (part.Body result guard block) e) ∙ method_receiver (part.Body result guard block) e _ refl ∙ ap (λ (q : MemberPart). not (is_static_part q)) (sym e))
    by_part (part.Constructor args block) e = inr (ap (has_receiver head) (placed (part.Constructor args block) e) ∙ ap (λ (q : MemberPart). not (is_static_part q)) (sym e))

-- THE MEMBER

any_made : {A B : Type 0} (f : A → Option B) (P : B → Type 0) (o : Option A) → ((x : A) → o ≡ Some x → OnMade P (f x)) → OnMade P (option_and_then f o)
any_made f P None h = tt
any_made f P (Some x) h = h x refl

mapped_made : {A B : Type 0} (f : A → B) (P : B → Type 0) (Q : A → Type 0) (o : Option A) → OnMade Q o → ((x : A) → Q x → P (f x)) → OnMade P (option_map f o)
mapped_made f P Q None h k = tt
mapped_made f P Q (Some x) h k = k x h

none_behind : (ts : List Ty) → are_nameable ts ≡ true → are_nameable (ts ++ []) ≡ true
none_behind [] h = refl
none_behind (t ∷ ts) h = and_so (is_nameable t) (are_nameable (ts ++ [])) (first_true (is_nameable t) (are_nameable ts) h) (none_behind ts (second_true (is_nameable t) (are_nameable ts) h))

-- the parameters of the superclass's constructor can be named
above_nameable : (heads : List Iface) → AreNameable heads → (d : Decl) (count : ℕ) → are_nameable (flat_map (λ h. option_map_or (λ ts. ts) (constructor_of h count) []) (super_head heads d)) ≡ true
above_nameable heads named d count = by_name (superclass_of d) where
  by_params : (name : Word) (h : Iface) → head_of heads name ≡ Some h → (o : Option (List Ty)) → constructor_of h count ≡ o → are_nameable (option_map_or (λ ts. ts) o [] ++ []) ≡ true
  by_params name h e None f = refl
  by_params name h e (Some ts) f = none_behind ts (maker_nameable heads named name count ts (ap (λ (o : Option Iface). option_and_then (λ h. constructor_of h count) o) e ∙ f))

  by_class : (name : Word) (h : Iface) → head_of heads name ≡ Some h → (b : Bool) → are_nameable (flat_map (λ h. option_map_or (λ ts. ts) (constructor_of h count) []) (cons_option (if b then Some h else None) [])) ≡ true
  by_class name h e true = by_params name h e (constructor_of h count) refl
  by_class name h e false = refl

  by_head : (name : Word) (o : Option Iface) → head_of heads name ≡ o → are_nameable (flat_map (λ h. option_map_or (λ ts. ts) (constructor_of h count) []) (filter_map (λ h. if is_class h then Some h else None) (option_to_list o))) ≡ true
  by_head name None e = refl
  by_head name (Some h) e = by_class name h e (is_class h)

  by_name : (o : Option Word) → are_nameable (flat_map (λ h. option_map_or (λ ts. ts) (constructor_of h count) []) (option_map_or (λ name. filter_map (λ h. if is_class h then Some h else None) (option_to_list (head_of heads name))) o [])) ≡ true
  by_name None = refl
  by_name (Some name) = by_head name (head_of heads name) refl

module _ (p : Program) (head : Iface) (seat : Seat) (m : Member) (named : AreNameable seat.heads) where
  abbrev receiver : Bool
  receiver = has_receiver head (place_in seat.earlier m)

  abbrev scope : Scope
  scope = body_scope seat (opened m)

  abbrev Here : Type 0
  Here = Setting p head receiver scope

  params_fit : are_nameable (super_params seat (opened m)) ≡ true
  params_fit = by_kind (is_some (as_constructor m)) where
    by_kind : (b : Bool) → are_nameable (if b then flat_map (λ h. option_map_or (λ ts. ts) (constructor_of h (super_count (opened m))) []) (super_head seat.heads seat.decl) else []) ≡ true
    by_kind true = above_nameable seat.heads named seat.decl (super_count (opened m))
    by_kind false = refl

  blocks_fit : (q : MemberPart) → IsSilent q ⊎ Here → OnMade (λ ts. list_all (stmt_fits p head receiver) ts ≡ true) (made_along (Some []) (map flow (block_part q)) scope)
  blocks_fit q (inl s) = subst (λ (xs : List Stmt). OnMade (λ ts. list_all (stmt_fits p head receiver) ts ≡ true) (made_along (Some []) (map flow xs) scope)) (sym (first_of s)) refl
  blocks_fit q (inr g) = block_fit p head receiver (block_part q) scope g

  all_operands : Here → (xs : List Expr) → AllFit p head receiver (seen_all (map (operand scope) (map waiting xs)))
  all_operands g [] = tt
  all_operands g (x ∷ xs) = (part_fit p head receiver scope g x role.Operand, all_operands g xs)

  parts_fit : IsSilent m.part ⊎ Here → (o : Option (List Expr)) → super_part m.part ≡ o → AllFit p head receiver (option_map_or seen_all (option_map (map (operand scope)) (option_map (map waiting) o)) [])
  parts_fit s None e = tt
  parts_fit (inl s) (Some xs) e = absurd (false≢true (ap is_some (sym (second_of s) ∙ e)))
  parts_fit (inr g) (Some xs) e = all_operands g xs

  pub fit_member : IsSilent m.part ⊎ Here → OnMade (λ t. member_fits p head t ≡ true) (made_member seat (opened m))
  fit_member s =
      any_made _ (λ t. member_fits p head t ≡ true) (made_guard (guard_of seat (opened m))) (λ guard eg.
      any_made _ (λ t. member_fits p head t ≡ true) (arguments (Some []) (option_map_or seen_all (super_parts seat (opened m)) [])) (λ args ea.
      mapped_made (λ block. member_from seat (opened m) guard args block) (λ t. member_fits p head t ≡ true) (λ ts. list_all (stmt_fits p head receiver) ts ≡ true) (made_along (Some []) (map flow (block_part m.part)) scope) (blocks_fit m.part s) (λ block hb.
      and_so (list_all (stmt_fits p head receiver) block) (all_fit (map (check p head receiver) args) && are_nameable (super_params seat (opened m))) hb
      (and_so (all_fit (map (check p head receiver) args)) (are_nameable (super_params seat (opened m)))
      (arguments_fit p head receiver (option_map_or seen_all (super_parts seat (opened m)) []) [] args (parts_fit s (super_part m.part) refl) refl ea) params_fit))))
