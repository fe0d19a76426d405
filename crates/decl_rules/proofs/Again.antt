-- Supertypes are found again by their names.
use Rattle.std.proofs.Common.{◌≡◌, ℕ, zero, suc, List, [], ◌∷◌, ◌++◌, length, true, false, cond, Option, Some, None, refl, sym, ◌∙◌, ap}
use Rattle.std.specs.List.{flat_map, filter_map, cons_option}
use Rattle.std.specs.Option.{option_map_or}
use Rattle.std.proofs.lemmas.List.Concat.{flat_map-append}
use Rattle.jp_pred.specs.Names.{Word}
use Rattle.iface_codec.specs.declared.iface.Iface.{Iface}
use Rattle.iface_codec.specs.declared.iface.IfaceMethod.{IfaceMethod}
use Rattle.type_rules.specs.Types.{is_among}
use Rattle.type_rules.specs.Heads.{head_of}
use Rattle.type_rules.specs.Lookups.{climb, superclasses, supertypes, breadth_first, class_names, unmet}
use Rattle.type_heads.proofs.Upwards.{head_again}
use Rattle.decl_rules.specs.Inherited.{methods_named}

abbrev pub named : List Iface → List Iface → List IfaceMethod
named heads hs = flat_map (λ h. methods_named heads h.name) hs

abbrev pub own : List Iface → List IfaceMethod
own hs = flat_map (λ h. h.methods) hs

-- a class that is found by a name
one_again : (heads : List Iface) (name : Word) (h : Iface) (hs : List Iface) → head_of heads name ≡ Some h → named heads hs ≡ own hs → named heads (h ∷ hs) ≡ own (h ∷ hs)
one_again heads name h hs e rest =
    ap (λ (o : Option Iface). option_map_or (λ (g : Iface). g.methods) o [] ++ named heads hs) (head_again heads name h e) ∙ ap (λ (ms : List IfaceMethod). h.methods ++ ms) rest

found_again : (heads : List Iface) (names : List Word) → named heads (filter_map (head_of heads) names) ≡ own (filter_map (head_of heads) names)
found_again heads [] = refl
found_again heads (n ∷ ns) = elim (head_of heads n) as (λ o. head_of heads n ≡ o →
    named heads (cons_option o (filter_map (head_of heads) ns)) ≡ own (cons_option o (filter_map (head_of heads) ns))) [
      | None ↦ λ e. found_again heads ns
      | Some h ↦ λ e. one_again heads n h (filter_map (head_of heads) ns) e (found_again heads ns)
    ] refl

climbed_again : (n : ℕ) (heads : List Iface) (met : List Word) (o : Option Word) → named heads (climb n heads met o) ≡ own (climb n heads met o)
climbed_again zero heads met o = refl
climbed_again (suc n) heads met None = refl
climbed_again (suc n) heads met (Some name) = elim (is_among name met) as (λ b.
    named heads (cond b [] (option_map_or (λ h. h ∷ climb n heads (h.name ∷ met) h.superclass) (head_of heads name) []))
    ≡ own (cond b [] (option_map_or (λ h. h ∷ climb n heads (h.name ∷ met) h.superclass) (head_of heads name) []))) [
      | true ↦ refl
      | false ↦ elim (head_of heads name) as (λ o. head_of heads name ≡ o →
          named heads (option_map_or (λ h. h ∷ climb n heads (h.name ∷ met) h.superclass) o []) ≡ own (option_map_or (λ h. h ∷ climb n heads (h.name ∷ met) h.superclass) o [])) [
            | None ↦ λ e. refl
            | Some h ↦ λ e. one_again heads name h (climb n heads (h.name ∷ met) h.superclass) e (climbed_again n heads (h.name ∷ met) h.superclass)
          ] refl
    ]

-- those of the names of supertypes are those of the supertypes
pub again : (heads : List Iface) (h : Iface) → flat_map (λ g. methods_named heads g.name) (supertypes heads h) ≡ flat_map (λ g. g.methods) (supertypes heads h)
again heads h =
    let line = superclasses heads h in
    let names = breadth_first (length heads) heads (class_names (h ∷ line)) (unmet (class_names (h ∷ line)) (flat_map (λ (g : Iface). g.interfaces) (h ∷ line))) in
    let above = filter_map (head_of heads) names in
    flat_map-append (λ (g : Iface). methods_named heads g.name) line above
    ∙ (ap (λ (ms : List IfaceMethod). ms ++ named heads above) (climbed_again (length heads) heads (h.name ∷ []) h.superclass)
    ∙ (ap (λ (ms : List IfaceMethod). own line ++ ms) (found_again heads names)
    ∙ sym (flat_map-append (λ (g : Iface). g.methods) line above)))
