-- A class is known where it is one of the language's own or declared.
use Rattle.std.proofs.Common.{◌≡◌, Bool, true, false, List, [], ◌∷◌, map, refl, sym, ap, ◌∙◌}
use Rattle.std.specs.Prelude.{◌||◌}
use Rattle.std.specs.List.{list_any}
use Rattle.std.proofs.lemmas.Bool.{false_from_ne_true, false≢true}
use Rattle.jp_pred.specs.Names.{Word, object, same}
use Rattle.jp_pred.proofs.Ascents.{same_true, same_refl}
use Rattle.jp_ast.specs.declared.decl.Decl.{Decl}
use Rattle.jp_ast.specs.declared.decl.SourceUnit.{SourceUnit}
use Rattle.type_rules.specs.Types.{io, string, is_among}
use Rattle.type_rules.specs.ClassNames.{known_names}

same_back : (a b : Word) → same a b ≡ true → same b a ≡ true
same_back a b e = ap (λ (w : Word). same b w) (same_true a b e) ∙ same_refl b

same_both_ways : (a b : Word) → same a b ≡ same b a
same_both_ways a b = by_first (same a b) refl where
  by_first : (x : Bool) → same a b ≡ x → same a b ≡ same b a
  by_first true e = e ∙ sym (same_back a b e)
  by_first false e = e ∙ sym (false_from_ne_true (same b a) (λ h. false≢true (sym e ∙ same_back b a h)))

among_declared : (ds : List Decl) (name : Word) → list_any (λ (d : Decl). same d.name name) ds ≡ is_among name (map (λ (d : Decl). d.name) ds)
among_declared [] name = refl
among_declared (d ∷ ds) name = ap (λ b. same d.name name || b) (among_declared ds name)

regrouped : (a b c d : Bool) → (a || b || c || d) ≡ (a || (b || (c || d)))
regrouped true b c d = refl
regrouped false true c d = refl
regrouped false false c d = refl

pub known_by : (unit : SourceUnit) (name : Word) → ((same name object || same name io || same name string) || list_any (λ (d : Decl). same d.name name) unit.decls) ≡ is_among name (known_names unit)
known_by unit name =
    regrouped (same name object) (same name io) (same name string) (list_any (λ (d : Decl). same d.name name) unit.decls)
    ∙ (λ i. same_both_ways name object i || (same_both_ways name io i || (same_both_ways name string i || among_declared unit.decls name i)))

-- one of the language's own
pub known_own : (unit : SourceUnit) (name : Word) → (same name object || same name io || same name string) ≡ true → true ≡ is_among name (known_names unit)
known_own unit name e = sym (ap (λ b. b || list_any (λ (d : Decl). same d.name name) unit.decls) e) ∙ known_by unit name

-- one that isn't
pub known_declared : (unit : SourceUnit) (name : Word) → (same name object || same name io || same name string) ≡ false → list_any (λ (d : Decl). same d.name name) unit.decls ≡ is_among name (known_names unit)
known_declared unit name e = sym (ap (λ b. b || list_any (λ (d : Decl). same d.name name) unit.decls) e) ∙ known_by unit name
