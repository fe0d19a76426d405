-- The names that stand in a guard so far.
use Rattle.std.proofs.Common.{◌≡◌, List, [], ◌∷◌, ◌++◌, Bool, true, false, refl, sym, ap, ◌∙◌}
use Rattle.std.specs.Prelude.{◌||◌}
use Rattle.jp_pred.specs.Names.{Word, same}
use Rattle.type_rules.specs.declared.guard_scope.GuardScope.{GuardScope}
use Rattle.type_rules.specs.declared.guard_scope.Alias.{Alias}
use Rattle.type_rules.specs.Types.{is_among}
use Rattle.type_rules.specs.Names.{names_of}
use Rattle.type_rules.specs.GuardPaths.{guard_names}
use Rattle.type_guards.specs.Atoms.{alias_names}

or_three : (a b c : Bool) → ((a || b) || c) ≡ (a || (b || c))
or_three true b c = refl
or_three false b c = refl

among_append : (name : Word) (xs ys : List Word) → is_among name (xs ++ ys) ≡ (is_among name xs || is_among name ys)
among_append name [] ys = refl
among_append name (x ∷ xs) ys = ap (λ b. same x name || b) (among_append name xs ys) ∙ sym (or_three (same x name) (is_among name xs) (is_among name ys))

-- the names of a guard whose parameters are left out are those of its aliases
aliases_are : (c : GuardScope) (as' : List Alias) → guard_names (record c { params = []; aliases = as' }) ≡ alias_names as'
aliases_are c [] = refl
aliases_are c (a ∷ as') = ap (λ ns. a.name ∷ ns) (aliases_are c as')

pub names_are : (name : Word) (c : GuardScope) → is_among name (guard_names c) ≡ (is_among name (names_of c.params) || is_among name (alias_names c.aliases))
names_are name c = among_append name (names_of c.params) (guard_names (record c { params = [] })) ∙ ap (λ ns. is_among name (names_of c.params) || is_among name ns) (aliases_are c c.aliases)
