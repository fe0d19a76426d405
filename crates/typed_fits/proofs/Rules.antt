-- What the rules say of the declarations of a unit without a fault.
use Rattle.std.proofs.Common.{◌≡◌, Bool, false, List, [], ◌∷◌, ◌++◌, map, Some, refl, sym, ap, ◌∙◌, subst, inl, inr}
use Rattle.std.specs.Prelude.{cond}
use Rattle.std.specs.List.{flat_map}
use Rattle.std.proofs.lemmas.Bool.{false≢true}
use Rattle.jp_pred.specs.Names.{Word, In, here, there, same, object}
use Rattle.jp_pred.proofs.Ascents.{same_true, same_refl}
use Rattle.jp_pred.proofs.Entries.{in_left, in_map, split_in}
use Rattle.jp_pred.proofs.Lists.{any_from_in}
use Rattle.jp_pred.proofs.Visits.{true_or_false, in_right}
use Rattle.iface_codec.specs.declared.iface.Iface.{Iface}
use Rattle.jp_ast.specs.declared.decl.Decl.{Decl}
use Rattle.type_rules.specs.Types.{io, string, is_among}
use Rattle.type_rules.specs.Heads.{head, head_of}
use Rattle.type_rules.specs.Nodes.{AtDecl, Visit, Rule}
use Rattle.type_rules.specs.RulesOfDeclarations.{rule_1, rule_3, rule_5}
use Rattle.type_rules.specs.Table.{all_rules}
use Rattle.type_rules.specs.Typing.{AreSound}
use Rattle.type_rules.specs.Units.{open_decl, member_visits, seats_of, decl_visits, visits_from}
use Rattle.type_rules.proofs.Soundness.{or_false_left, or_false_right}

-- no rule is broken at a node that is visited
pub kept : (visits : List Visit) → AreSound visits → (r : Rule) → In r all_rules → (v : Visit) → In v visits → r.1 v.node ≡ false
kept visits sound r i v j = elim (true_or_false (r.1 v.node)) [
  | inl t ↦ absurd (sound v.place r.0 (record { rule = r; is_rule = i; number_is = refl; visit = v; is_visited = j; place_is = refl; breaks = t }))
  | inr f ↦ f
]

-- a declaration, behind those before it, breaks none of these rules
pub record KeepsRules (heads : List Iface) (before : List Decl) (d : Decl) : Type 0 where
  pub own_name : rule_1 (AtDecl (record { heads = heads; earlier = before; decl = d })) ≡ false
  pub above : rule_3 (AtDecl (record { heads = heads; earlier = before; decl = d })) ≡ false
  pub acyclic : rule_5 (AtDecl (record { heads = heads; earlier = before; decl = d })) ≡ false

abbrev pub AllKeep : List Iface → List Decl → List Decl → Type 0
AllKeep heads before [] = Unit {0}
AllKeep heads before (d ∷ ds) = KeepsRules heads before d × AllKeep heads (before ++ d ∷ []) ds

pub all_keep : (heads : List Iface) (before ds : List Decl) (visits : List Visit) → AreSound visits → ((v : Visit) → In v (visits_from heads before (map open_decl ds)) → In v visits) → AllKeep heads before ds
all_keep heads before [] visits sound inside = tt
all_keep heads before (d ∷ ds) visits sound inside =
    let v : Visit = record { place = d.place; node = AtDecl (record { heads = heads; earlier = before; decl = d }) } in
    let at : In v visits = inside v (in_left (visits_from heads (before ++ d ∷ []) (map open_decl ds)) (in_right (flat_map (λ x. member_visits x.0 x.1) (seats_of heads (open_decl d))) here)) in (
      record {
        own_name = kept visits sound (1, rule_1) here v at;
        above = kept visits sound (3, rule_3) (there (there here)) v at;
        acyclic = kept visits sound (5, rule_5) (there (there (there (there here)))) v at;
      },
      all_keep heads (before ++ d ∷ []) ds visits sound (λ w i. inside w (in_right (decl_visits heads before (open_decl d)) i)),
    )

-- NAMES

-- what isn't among names isn't one of them
pub apart : (name : Word) (names : List Word) → is_among name names ≡ false → (n : Word) → In n names → same n name ≡ false
apart name names e n i = elim (true_or_false (same n name)) [
  | inl t ↦ absurd (false≢true (sym e ∙ any_from_in (λ n. same n name) i t))
  | inr f ↦ f
]

pub turned : (a b : Word) → same a b ≡ false → same b a ≡ false
turned a b e = elim (true_or_false (same b a)) [
  | inl t ↦ absurd (false≢true (sym e ∙ ap (λ (x : Word). same x b) (sym (same_true b a t)) ∙ same_refl b))
  | inr f ↦ f
]

module _ (heads : List Iface) (before : List Decl) (d : Decl) (k : KeepsRules heads before d) where
  pub no_earlier : (e : Decl) → In e before → same e.name d.name ≡ false
  no_earlier e i = apart d.name (map (λ x. x.name) before) (or_false_left (is_among d.name (map (λ x. x.name) before)) (is_among d.name (object ∷ io ∷ string ∷ [])) k.own_name) e.name (in_map (λ (x : Decl). x.name) i)

  pub no_object : same object d.name ≡ false
  no_object = apart d.name (object ∷ io ∷ string ∷ []) (or_false_right (is_among d.name (map (λ x. x.name) before)) (is_among d.name (object ∷ io ∷ string ∷ [])) k.own_name) object here

  pub no_io : same io d.name ≡ false
  no_io = apart d.name (object ∷ io ∷ string ∷ []) (or_false_right (is_among d.name (map (λ x. x.name) before)) (is_among d.name (object ∷ io ∷ string ∷ [])) k.own_name) io (there here)

-- a declaration of several, with those before it
pub record Standing (heads : List Iface) (ds : List Decl) (d : Decl) : Type 0 where
  pub before : List Decl
  pub keeps : KeepsRules heads before d

pub standing : (heads : List Iface) (before ds : List Decl) → AllKeep heads before ds → (d : Decl) → In d ds → Standing heads ds d
standing heads before (e ∷ ds) k d i = elim (split_in e d ds i) [
  | inl q ↦ subst (Standing heads (e ∷ ds)) q (record { before = before; keeps = k.0 })
  | inr j ↦ let g = standing heads (before ++ e ∷ []) ds k.1 d j in record { before = g.before; keeps = g.keeps }
]
standing heads before [] k d i = elim i [ ]

-- a declaration is the first of its name, and none before it has its name
pub first_head : (heads : List Iface) (before ds : List Decl) → AllKeep heads before ds → (d : Decl) → In d ds → (head_of (map head ds) d.name ≡ Some (head d)) × ((e : Decl) → In e before → same e.name d.name ≡ false)
first_head heads before [] k d i = elim i [ ]
first_head heads before (e ∷ ds) k d i = elim (split_in e d ds i) [
  | inl q ↦ subst (λ (x : Decl). (cond (same e.name x.name) (Some (head e)) (head_of (map head ds) x.name) ≡ Some (head x)) × ((y : Decl) → In y before → same y.name x.name ≡ false)) q
      (ap (λ (b : Bool). cond b (Some (head e)) (head_of (map head ds) e.name)) (same_refl e.name), no_earlier heads before e k.0)
  | inr j ↦ let g = first_head heads (before ++ e ∷ []) ds k.1 d j in
      (ap (λ (b : Bool). cond b (Some (head e)) (head_of (map head ds) d.name)) (g.1 e (in_right before here)) ∙ g.0, λ y h. g.1 y (in_left (e ∷ []) h))
]
