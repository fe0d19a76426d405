-- The classes of a unit without a fault are a universe.
use Rattle.std.proofs.Common.{◌≡◌, ◌⊎◌, Bool, true, false, cond, List, [], ◌∷◌, ◌++◌, map, Option, Some, None, refl, sym, ap, ◌∙◌, subst, inl, inr}
use Rattle.std.specs.Prelude.{not, ◌&&◌, ◌||◌, unwrap_or, is_some, if◌then◌else◌}
use Rattle.std.specs.List.{find, list_all, list_any, filter, filter_map, flat_map, cons_option}
use Rattle.std.specs.Option.{option_map, option_map_or, option_to_list}
use Rattle.std.proofs.lemmas.Bool.{false≢true}
use Rattle.std.proofs.lemmas.List.{append-nil}
use Rattle.jp_pred.specs.declared.ty.Ty.{Ty}
use Rattle.jp_pred.specs.declared.ty.Ty.TheVariants as ty
use Rattle.jp_pred.specs.declared.hier.Hier.{Hier}
use Rattle.jp_pred.specs.declared.hier.SeenClass.{SeenClass}
use Rattle.jp_pred.specs.Names.{Word, In, here, there, same, object, AreDistinct}
use Rattle.jp_pred.specs.Hierarchy.{class_named, named_of, or_none, parents, Ascends, stop, up}
use Rattle.jp_pred.specs.Universe.{IsClass, IsInterface, Names, IsSeen, IsUniverse}
use Rattle.jp_pred.proofs.Ascents.{same_true, same_refl}
use Rattle.jp_pred.proofs.Cycles.{in_map_back}
use Rattle.jp_pred.proofs.Entries.{in_append, in_left, split_in}
use Rattle.jp_pred.proofs.Lists.{any_from_in, or_cases}
use Rattle.jp_pred.proofs.Visits.{true_or_false, in_right, in_named}
use Rattle.iface_codec.specs.declared.iface.Iface.{Iface}
use Rattle.iface_codec.specs.declared.iface.IfaceField.{IfaceField}
use Rattle.iface_codec.specs.Hierarchy.{instance_fields, seen_class, hier_of}
use Rattle.jp_ast.specs.declared.decl.Decl.{Decl}
use Rattle.jp_ast.specs.declared.decl.Member.{Member}
use Rattle.jp_ast.specs.declared.decl.MemberPart.{MemberPart}
use Rattle.jp_ast.specs.declared.decl.MemberPart.TheVariants as part
use Rattle.jp_meaning.specs.Classes.{hier_in}
use Rattle.jp_meaning.specs.Run.{Program}
use Rattle.type_rules.specs.Types.{io}
use Rattle.type_rules.specs.Heads.{object_head, io_head, own_heads, as_field, field_part, head, heads_of, head_of, names_interface, superclass_of}
use Rattle.type_rules.specs.Lookups.{field_named, superclasses}
use Rattle.type_rules.specs.Nodes.{AtDecl, Visit, Rule}
use Rattle.type_rules.specs.RulesOfDeclarations.{rule_3, rule_4, rule_6, is_open, has_field, has_twice}
use Rattle.type_rules.specs.Table.{all_rules}
use Rattle.type_rules.specs.Typing.{AreSound}
use Rattle.type_rules.specs.Units.{Opened, Seat, opened, open_decl, member_node, member_visits, seats, seats_of, decl_visits, visits_from}
use Rattle.type_rules.proofs.Soundness.{or_false_left, or_false_right, not_false, and_false}
use Rattle.calls_fit.specs.Fitting.{ProgramFits}
use Rattle.calls_fit.proofs.Named.{some_is, none_is, first_true, second_true, all_in, in_filter}
use Rattle.typed_fits.specs.Laws.{has_plain_names}
use Rattle.typed_fits.proofs.Looking.{find_in}
use Rattle.typed_fits.proofs.Rules.{AllKeep, all_keep, kept, no_object, no_io, standing, first_head, turned}
use Rattle.typed_fits.proofs.UnitFits.{Made, all_made, unit_classes, found_head, own_named, seen_found, seen_same, own_acyclic, not_so, in_filter_to, trees_fit}
use Rattle.unit_laws.specs.Laws.{IsProgramOf, is_own_type, has_own_fields, is_open_interface, UnitIsUniverse}
use Rattle.unit_laws.proofs.Seats.{stays, member_keeps}

-- RULES OF DECLARATIONS

-- a declaration of several breaks a rule, with those before it, in no place
record Keeps (heads : List Iface) (r : Rule) (d : Decl) : Type 0 where
  before : List Decl
  keeps : r.1 (AtDecl (record { heads = heads; earlier = before; decl = d })) ≡ false

decl_keeps : (heads : List Iface) (before ds : List Decl) (visits : List Visit) → AreSound visits → ((v : Visit) → In v (visits_from heads before (map open_decl ds)) → In v visits) → (r : Rule) → In r all_rules → (d : Decl) → In d ds → Keeps heads r d
decl_keeps heads before [] visits sound inside r i d j = elim j [ ]
decl_keeps heads before (e ∷ ds) visits sound inside r i d j = elim (split_in e d ds j) [
  | inl q ↦ subst (Keeps heads r) q
      (let v : Visit = record { place = e.place; node = AtDecl (record { heads = heads; earlier = before; decl = e }) } in
      let at : In v visits = inside v (in_left (visits_from heads (before ++ e ∷ []) (map open_decl ds)) (in_right (flat_map (λ x. member_visits x.0 x.1) (seats_of heads (open_decl e))) here)) in
      record { before = before; keeps = kept visits sound r i v at })
  | inr k ↦ decl_keeps heads (before ++ e ∷ []) ds visits sound (λ w l. inside w (in_right (decl_visits heads before (open_decl e)) l)) r i d k
]

-- NAMES OF DECLARATIONS

distinct_names : (heads : List Iface) (before ds : List Decl) → AllKeep heads before ds → AreDistinct (map (λ c. c.name) (map seen_class (map head ds)))
distinct_names heads before [] k = tt
distinct_names heads before (d ∷ ds) k = (
  λ i.
      let c = in_map_back (λ (c : SeenClass). c.name) (map seen_class (map head ds)) d.name i in
      let h = in_map_back seen_class (map head ds) c.0 c.1 in
      let e = in_map_back head ds h.0 h.1 in
      let name_is : e.0.name ≡ d.name = ap (λ (x : Iface). x.name) e.2 ∙ ap (λ (x : SeenClass). x.name) h.2 ∙ c.2 in
      false≢true (sym ((first_head heads (before ++ d ∷ []) ds k.1 e.0 e.1).1 d (in_right before here)) ∙ ap (λ w. same w e.0.name) (sym name_is) ∙ same_refl e.0.name),
  distinct_names heads (before ++ d ∷ []) ds k.1,
)

-- FIELDS

-- a field of each object has its name
own_name : (m : Member) (f : IfaceField) → as_field m ≡ Some f → f.name ≡ m.name
own_name m f e = by_part m.part e where
  by_part : (q : MemberPart) → field_part m q ≡ Some f → f.name ≡ m.name
  by_part (part.Field t static) e = let g : IfaceField = record { name = m.name; ty = t; is_private = m.is_private; is_static = static } in ap (λ (x : IfaceField). x.name) (sym (some_is g f e))
  by_part (part.Static result block) e = none_is f e
  by_part (part.Abstract result) e = none_is f e
  by_part (part.Body result guard block) e = none_is f e
  by_part (part.Constructor args block) e = none_is f e

-- what is looked for by its name and isn't found isn't there
none_named : (name : Word) (fs : List IfaceField) (f : IfaceField) → has_field name fs ≡ false → In f fs → f.name ≡ name → ⊥
none_named name [] f e i n = elim i [ ]
none_named name (g ∷ fs) f e i n = by_first (same g.name name) refl e (λ e j. none_named name fs f e j n) where
  by_first : (b : Bool) → same g.name name ≡ b → is_some (cond b (Some g) (field_named name fs)) ≡ false → (has_field name fs ≡ false → In f fs → ⊥) → ⊥
  by_first true h e rec = false≢true (sym e)
  by_first false h e rec = elim (split_in g f fs i) [
    | inl q ↦ false≢true (sym h ∙ ap (λ (x : IfaceField). same x.name name) q ∙ ap (λ w. same w name) n ∙ same_refl name)
    | inr j ↦ rec e j
  ]

-- the names of the fields of each object
abbrev names_of : List IfaceField → List Word
names_of fs = map (λ (f : Word × Ty). f.0) (instance_fields fs)

in_names : (fs : List IfaceField) (name : Word) → In name (names_of fs) → (f : IfaceField) × In f fs × (f.name ≡ name)
in_names [] name i = elim i [ ]
in_names (g ∷ fs) name i = by_static g.is_static i (in_names fs name) where
  by_static : (b : Bool) → In name (map (λ (f : Word × Ty). f.0) (map (λ (f : IfaceField). (f.name, f.ty)) (cond (not b) (g ∷ filter (λ f. not f.is_static) fs) (filter (λ f. not f.is_static) fs)))) → (In name (names_of fs) → (f : IfaceField) × In f fs × (f.name ≡ name)) → (f : IfaceField) × In f (g ∷ fs) × (f.name ≡ name)
  by_static true j rec = let r = rec j in (r.0, there r.1, r.2)
  by_static false j rec = elim (split_in g.name name (names_of fs) j) [
    | inl q ↦ (g, here, q)
    | inr k ↦ let r = rec k in (r.0, there r.1, r.2)
  ]

-- the fields of members, each of which breaks no rule, have distinct names
distinct_fields : (heads : List Iface) (d : Decl) (earlier : List Member) (ms : List Member) →
    ((x : Seat × Opened) → In x (seats heads d earlier (map opened ms)) → rule_6 (member_node x.0 x.1) ≡ false) → AreDistinct (names_of (filter_map as_field ms))
distinct_fields heads d earlier [] k = tt
distinct_fields heads d earlier (m ∷ ms) k = by_field (as_field m) refl (distinct_fields heads d (earlier ++ m ∷ []) ms (λ x i. k x (there i))) where
  rest : List (Seat × Opened)
  rest = seats heads d (earlier ++ m ∷ []) (map opened ms)

  -- the seat of a member
  seat_of : (earlier : List Member) (ms : List Member) (n : Member) → In n ms → (seat : Seat) × In (seat, opened n) (seats heads d earlier (map opened ms))
  seat_of earlier [] n i = elim i [ ]
  seat_of earlier (o ∷ ms) n i = elim (split_in o n ms i) [
    | inl q ↦ subst (λ (n : Member). (seat : Seat) × In (seat, opened n) (seats heads d earlier (opened o ∷ map opened ms))) q (record { heads = heads; decl = d; earlier = earlier }, here)
    | inr j ↦ let g = seat_of (earlier ++ o ∷ []) ms n j in (g.0, there g.1)
  ]

  not_later : (f : IfaceField) → as_field m ≡ Some f → In f.name (names_of (filter_map as_field ms)) → ⊥
  not_later f e i =
      let g = in_names (filter_map as_field ms) f.name i in
      let n = in_filter as_field ms g.0 g.1 in
      let s = seat_of (earlier ++ m ∷ []) ms n.0 n.1 in
      let before : In m s.0.earlier = stays heads d (earlier ++ m ∷ []) (map opened ms) m (in_right earlier here) (s.0, opened n.0) s.1 in
      let broken : (is_some (as_field n.0) && (has_field n.0.name (filter_map as_field s.0.earlier) || list_any (λ h. has_field n.0.name h.fields) (superclasses s.0.heads (head s.0.decl)))) ≡ false = k (s.0, opened n.0) (there s.1) in
      let free = or_false_left (has_field n.0.name (filter_map as_field s.0.earlier)) (list_any (λ h. has_field n.0.name h.fields) (superclasses s.0.heads (head s.0.decl)))
      (and_false (is_some (as_field n.0)) (has_field n.0.name (filter_map as_field s.0.earlier) || list_any (λ h. has_field n.0.name h.fields) (superclasses s.0.heads (head s.0.decl))) (ap is_some n.2) broken) in
      none_named n.0.name (filter_map as_field s.0.earlier) f free (in_filter_to as_field f before e) (sym g.2 ∙ own_name n.0 g.0 n.2)

  by_field : (o : Option IfaceField) → as_field m ≡ o → AreDistinct (names_of (filter_map as_field ms)) → AreDistinct (names_of (cons_option o (filter_map as_field ms)))
  by_field None e later = later
  by_field (Some f) e later = by_static f.is_static where
    by_static : (b : Bool) → AreDistinct (map (λ (f : Word × Ty). f.0) (map (λ (f : IfaceField). (f.name, f.ty)) (cond (not b) (f ∷ filter (λ f. not f.is_static) (filter_map as_field ms)) (filter (λ f. not f.is_static) (filter_map as_field ms)))))
    by_static true = later
    by_static false = (not_later f e, later)

-- WHAT HEADS NAME

-- a head that isn't of the language itself is the unit's
own_head : (ds : List Decl) (name : Word) (h : Iface) → head_of (heads_of ds []) name ≡ Some h → same object name ≡ false → same io name ≡ false → head_of (map head ds) name ≡ Some h
own_head ds name h e o i =
    ap (λ (hs : List Iface). head_of hs name) (sym (append-nil (map head ds)))
    ∙ sym (ap (λ (b : Bool). cond b (Some io_head) (head_of (map head ds ++ []) name)) i)
    ∙ sym (ap (λ (b : Bool). cond b (Some object_head) (cond (same io name) (Some io_head) (head_of (map head ds ++ []) name))) o) ∙ e

-- a name of an open class: Object, or a class of the unit
open_class : (ds : List Decl) (name : Word) → option_map_or is_open (head_of (heads_of ds []) name) false ≡ true → (name ≡ object) ⊎ ((h : Iface) × (head_of (map head ds) name ≡ Some h) × (is_open h ≡ true))
open_class ds name e = elim (true_or_false (same object name)) [
  | inl t ↦ inl (sym (same_true object name t))
  | inr o ↦ elim (true_or_false (same io name)) [
    | inl t ↦ absurd (false≢true (ap (λ w. option_map_or is_open (head_of (heads_of ds []) w) false) (same_true io name t) ∙ e))
    | inr i ↦ inr (by_head (head_of (heads_of ds []) name) refl o i e)
  ]
] where
  by_head : (q : Option Iface) → head_of (heads_of ds []) name ≡ q → same object name ≡ false → same io name ≡ false → option_map_or is_open q false ≡ true → (h : Iface) × (head_of (map head ds) name ≡ Some h) × (is_open h ≡ true)
  by_head None f o i e = absurd (false≢true e)
  by_head (Some h) f o i e = (h, own_head ds name h f o i, e)

-- a name of an interface: one of the unit
own_interface : (ds : List Decl) (name : Word) → names_interface (heads_of ds []) name ≡ true → (h : Iface) × (head_of (map head ds) name ≡ Some h) × (h.is_interface ≡ true)
own_interface ds name e = elim (true_or_false (same object name)) [
  | inl t ↦ absurd (false≢true (ap (λ w. names_interface (heads_of ds []) w) (same_true object name t) ∙ e))
  | inr o ↦ elim (true_or_false (same io name)) [
    | inl t ↦ absurd (false≢true (ap (λ w. names_interface (heads_of ds []) w) (same_true io name t) ∙ e))
    | inr i ↦ by_head (head_of (heads_of ds []) name) refl o i e
  ]
] where
  by_head : (q : Option Iface) → head_of (heads_of ds []) name ≡ q → same object name ≡ false → same io name ≡ false → option_map_or (λ h. h.is_interface) q false ≡ true → (h : Iface) × (head_of (map head ds) name ≡ Some h) × (h.is_interface ≡ true)
  by_head None f o i e = absurd (false≢true e)
  by_head (Some h) f o i e = (h, own_head ds name h f o i, e)

-- no item breaks the test
none_breaks : {X : Type 0} (test : X → Bool) (xs : List X) (x : X) → list_any test xs ≡ false → In x xs → test x ≡ false
none_breaks test xs x e i = elim (true_or_false (test x)) [
  | inl t ↦ absurd (false≢true (sym e ∙ any_from_in test i t))
  | inr f ↦ f
]

-- THE UNIVERSE

module _ (p : Program) (ds : List Decl) (made : Made (heads_of ds []) ds p.classes) (keep : AllKeep (heads_of ds []) [] ds) (plain : list_all has_plain_names ds ≡ true)
    (sound : AreSound (visits_from (heads_of ds []) [] (map open_decl ds))) (fits : ProgramFits p) (closed : list_all is_open_interface ds ≡ true) (own : list_all (has_own_fields ds) ds ≡ true) where
  abbrev all_heads : List Iface
  all_heads = heads_of ds []

  abbrev hier : Hier
  hier = hier_of (map head ds)

  -- an entry is that of a declaration
  entry_of : (c : SeenClass) → In c hier.classes → (d : Decl) × In d ds × (seen_class (head d) ≡ c)
  entry_of c i =
      let h = in_map_back seen_class (map head ds) c i in
      let d = in_map_back head ds h.0 h.1 in
      (d.0, d.1, ap seen_class d.2 ∙ h.2)

  no_rule : (r : Rule) → In r all_rules → (d : Decl) → In d ds → Keeps all_heads r d
  no_rule = decl_keeps all_heads [] ds (visits_from all_heads [] (map open_decl ds)) sound (λ v i. i)

  named : (name : Word) (h : Iface) → head_of (map head ds) name ≡ Some h → class_named name hier.classes ≡ Some (seen_class h)
  named name h e = seen_found p ds made keep plain (map head ds) name ∙ ap (option_map seen_class) e

  -- a written superclass is Object, or an open class of the unit
  above_open : (d : Decl) → In d ds → (s : Word) → superclass_of d ≡ Some s → (s ≡ object) ⊎ ((h : Iface) × (head_of (map head ds) s ≡ Some h) × (is_open h ≡ true))
  above_open d i s e = by_kind d.is_interface e where
    by_super : (o : Option Word) → d.superclass ≡ o → Some (unwrap_or o object) ≡ Some s → (s ≡ object) ⊎ ((h : Iface) × (head_of (map head ds) s ≡ Some h) × (is_open h ≡ true))
    by_super None f e = inl (sym (some_is object s e))
    by_super (Some above) f e =
        let k = (no_rule (3, rule_3) (there (there here)) d i).keeps in
        let open_above : not (option_map_or is_open (head_of all_heads above) false) ≡ false = sym (ap (λ (o : Option Word). option_map_or (λ name. not (option_map_or is_open (head_of all_heads name) false)) o false) f) ∙ k in
        subst (λ (w : Word). (w ≡ object) ⊎ ((h : Iface) × (head_of (map head ds) w ≡ Some h) × (is_open h ≡ true))) (some_is above s e) (open_class ds above (not_false (option_map_or is_open (head_of all_heads above) false) open_above))

    by_kind : (b : Bool) → cond b None (Some (unwrap_or d.superclass object)) ≡ Some s → (s ≡ object) ⊎ ((h : Iface) × (head_of (map head ds) s ≡ Some h) × (is_open h ≡ true))
    by_kind true e = none_is s e
    by_kind false e = by_super d.superclass refl e

  -- each named interface is one of the unit
  above_interface : (d : Decl) → In d ds → (name : Word) → In name d.interfaces → (h : Iface) × (head_of (map head ds) name ≡ Some h) × (h.is_interface ≡ true)
  above_interface d i name j =
      let k = (no_rule (4, rule_4) (there (there (there here))) d i).keeps in
      let all = or_false_left (list_any (λ name. not (names_interface all_heads name)) d.interfaces) (has_twice d.interfaces) k in
      own_interface ds name (not_false (names_interface all_heads name) (none_breaks (λ name. not (names_interface all_heads name)) d.interfaces name all j))

  superclass_seen : (c : SeenClass) (s : Word) → In c hier.classes → c.superclass ≡ Some s → (s ≡ object) ⊎ IsClass hier s
  superclass_seen c s i e =
      let d = entry_of c i in
      elim (above_open d.0 d.1 s (ap (λ (x : SeenClass). x.superclass) d.2 ∙ e)) [
        | inl q ↦ inl q
        | inr h ↦ inr (record { entry = seen_class h.0; found = named s h.0 h.1; kind = not_so h.0.is_interface (first_true (not h.0.is_interface) (not h.0.is_final) h.2) })
      ]

  interfaces_seen : (c : SeenClass) (name : Word) → In c hier.classes → In name c.interfaces → IsInterface hier name
  interfaces_seen c name i j =
      let d = entry_of c i in
      let h = above_interface d.0 d.1 name (subst (λ (x : SeenClass). In name x.interfaces) (sym d.2) j) in
      record { entry = seen_class h.0; found = named name h.0 h.1; kind = h.2 }

  interface_open : (c : SeenClass) → In c hier.classes → c.is_interface ≡ true → (c.superclass ≡ None) × (c.is_final ≡ false)
  interface_open c i e =
      let d = entry_of c i in
      let kind : d.0.is_interface ≡ true = ap (λ (x : SeenClass). x.is_interface) d.2 ∙ e in
      let free : not (d.0.is_interface && d.0.is_final) ≡ true = all_in is_open_interface ds closed d.1 in
      subst (λ (x : SeenClass). (x.superclass ≡ None) × (x.is_final ≡ false)) d.2
      (ap (λ (b : Bool). cond b None (Some (unwrap_or d.0.superclass object))) kind, sym (ap (λ (b : Bool). b && d.0.is_final) kind) ∙ not_so (d.0.is_interface && d.0.is_final) free)

  fields_distinct : (c : SeenClass) → In c hier.classes → AreDistinct (map (λ f. f.0) c.fields)
  fields_distinct c i =
      let d = entry_of c i in
      subst (λ (x : SeenClass). AreDistinct (map (λ f. f.0) x.fields)) d.2
      (distinct_fields all_heads d.0 [] d.0.members (λ x j. member_keeps all_heads ds sound (6, rule_6) (there (there (there (there (there here))))) d.0 d.1 x j))

  -- the class that a type names is one of the unit, or Object
  type_seen : (t : Ty) (name : Word) → is_own_type ds t ≡ true → Names t name → IsSeen hier name
  type_seen t name e n = elim n [
    | inl q ↦ own_seen (subst (λ (x : Ty). is_own_type ds x ≡ true) q e)
    | inr q ↦ own_seen (subst (λ (x : Ty). is_own_type ds x ≡ true) q e)
  ] where
    by_head : (o : Option Iface) → head_of (map head ds) name ≡ o → is_some o ≡ true → IsSeen hier name
    by_head None f e = absurd (false≢true e)
    by_head (Some h) f e = inr (seen_class h, named name h f)

    own_seen : (same name object || is_some (head_of (map head ds) name)) ≡ true → IsSeen hier name
    own_seen e = elim (or_cases (same name object) (is_some (head_of (map head ds) name)) e) [
      | inl t ↦ inl (same_true name object t)
      | inr t ↦ by_head (head_of (map head ds) name) refl t
    ]

  in_fields : (fs : List IfaceField) (f : Word × Ty) → In f (instance_fields fs) → (g : IfaceField) × In g fs × (g.ty ≡ f.1)
  in_fields [] f i = elim i [ ]
  in_fields (g ∷ fs) f i = by_static g.is_static i (in_fields fs f) where
    by_static : (b : Bool) → In f (map (λ f. (f.name, f.ty)) (cond (not b) (g ∷ filter (λ f. not f.is_static) fs) (filter (λ f. not f.is_static) fs))) → (In f (instance_fields fs) → (x : IfaceField) × In x fs × (x.ty ≡ f.1)) → (x : IfaceField) × In x (g ∷ fs) × (x.ty ≡ f.1)
    by_static true j rec = let r = rec j in (r.0, there r.1, r.2)
    by_static false j rec = elim (split_in (g.name, g.ty) f (instance_fields fs) j) [
      | inl q ↦ (g, here, ap (λ (x : Word × Ty). x.1) q)
      | inr k ↦ let r = rec k in (r.0, there r.1, r.2)
    ]

  types_seen : (c : SeenClass) (f : Word × Ty) (name : Word) → In c hier.classes → In f c.fields → Names f.1 name → IsSeen hier name
  types_seen c f name i j n =
      let d = entry_of c i in
      let g = in_fields (head d.0).fields f (subst (λ (x : SeenClass). In f x.fields) (sym d.2) j) in
      type_seen f.1 name (subst (λ (t : Ty). is_own_type ds t ≡ true) g.2 (all_in (λ (f : IfaceField). is_own_type ds f.ty) (head d.0).fields (all_in (has_own_fields ds) ds own d.1) g.1)) n

  -- what is named as a superclass or an interface isn't final
  none_final : (a : Word) (d : Decl) → In d ds → d.is_final ≡ true → In d.name (parents hier a) → ⊥
  none_final a d i e j = by_head (head_of (map head ds) a) refl (subst (λ (o : Option SeenClass). In d.name (named_of o)) (seen_found p ds made keep plain (map head ds) a) j) where
    found : head_of (map head ds) d.name ≡ Some (head d)
    found = (first_head all_heads [] ds keep d i).0

    as_super : (s : Word) → s ≡ d.name → (s ≡ object) ⊎ ((h : Iface) × (head_of (map head ds) s ≡ Some h) × (is_open h ≡ true)) → ⊥
    as_super s q r = elim r [
      | inl o ↦ let st = standing all_heads [] ds keep d i in false≢true (sym (no_object all_heads st.before d st.keeps) ∙ ap (same object) (sym q ∙ o) ∙ same_refl object)
      | inr h ↦ let is : h.0 ≡ head d = some_is h.0 (head d) (sym h.1 ∙ ap (head_of (map head ds)) q ∙ found) in
          false≢true (sym (not_so h.0.is_final (second_true (not h.0.is_interface) (not h.0.is_final) h.2)) ∙ ap (λ (x : Iface). x.is_final) is ∙ e)
    ]

    by_head : (o : Option Iface) → head_of (map head ds) a ≡ o → In d.name (named_of (option_map seen_class o)) → ⊥
    by_head None f k = elim k [ ]
    by_head (Some h) f k =
        let g = own_named p ds made keep plain a h f in
        elim (in_named h.superclass h.interfaces d.name k) [
          | inl s ↦ as_super d.name refl (above_open g.0 g.1 d.name (ap (λ (x : Iface). x.superclass) g.2 ∙ s))
          | inr l ↦ let x = above_interface g.0 g.1 d.name (subst (λ (y : Iface). In d.name y.interfaces) (sym g.2) l) in
              let is : x.0 ≡ head d = some_is x.0 (head d) (sym x.1 ∙ found) in
              let kind : d.is_interface ≡ true = ap (λ (y : Iface). y.is_interface) (sym is) ∙ x.2 in
              false≢true (sym (not_so (d.is_interface && d.is_final) (all_in is_open_interface ds closed i)) ∙ ap (λ (b : Bool). b && d.is_final) kind ∙ e)
        ]

  final_alone : (d : Decl) → In d ds → d.is_final ≡ true → {a b : Word} → Ascends hier a b → b ≡ d.name → a ≡ d.name
  final_alone d i e stop q = q
  final_alone d i e (up {a} {b} {c} j r) q = absurd (none_final a d i e (subst (λ (w : Word). In w (parents hier a)) (final_alone d i e r q) j))

  is_final : (c : SeenClass) (a : Word) → In c hier.classes → c.is_final ≡ true → Ascends hier a c.name → a ≡ c.name
  is_final c a i e r =
      let d = entry_of c i in
      final_alone d.0 d.1 (ap (λ (x : SeenClass). x.is_final) d.2 ∙ e) r (ap (λ (x : SeenClass). x.name) (sym d.2)) ∙ ap (λ (x : SeenClass). x.name) d.2

  not_there : In object (map (λ c. c.name) hier.classes) → ⊥
  not_there i =
      let c = in_map_back (λ (c : SeenClass). c.name) hier.classes object i in
      let d = entry_of c.0 c.1 in
      let st = standing all_heads [] ds keep d.0 d.1 in
      false≢true (sym (no_object all_heads st.before d.0 st.keeps) ∙ ap (same object) (ap (λ (x : SeenClass). x.name) d.2 ∙ c.2) ∙ same_refl object)

  own_universe : IsUniverse hier
  own_universe = record {
    distinct = distinct_names all_heads [] ds keep;
    no_object = not_there;
    superclass = superclass_seen;
    interfaces = interfaces_seen;
    interface = interface_open;
    fields = fields_distinct;
    types = types_seen;
    free = own_acyclic p ds made keep plain;
    final = is_final;
  }

  pub universe : IsUniverse (hier_in p.classes)
  universe = subst (λ (xs : List SeenClass). IsUniverse (record { classes = xs })) (sym (seen_same p ds made keep plain made)) own_universe

pub unit_universe : UnitIsUniverse
unit_universe unit tree p of plain opened own =
    let heads = heads_of unit.decls [] in
    let m = all_made heads unit.decls [] tree.classes (unit_classes heads (map open_decl unit.decls) tree of.typed.resolved) in
    let made = subst (Made heads unit.decls) (sym (of.classes ∙ m.1)) m.2 in
    let keep = all_keep heads [] unit.decls (visits_from heads [] (map open_decl unit.decls)) of.typed.sound (λ v i. i) in
    universe p unit.decls made keep plain of.typed.sound (trees_fit unit tree p of.typed plain of.classes) opened own
