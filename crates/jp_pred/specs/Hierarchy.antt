-- Hierarchies: the supertypes that classes name, and what is below what.
use Rattle.std.specs.Prelude.{◌≡◌, ℕ, zero, suc, List, [], ◌∷◌, ◌++◌, length, Bool, cond, ◌||◌, Option, Some, None, ◌⊎◌}
use Rattle.std.specs.List.{list_any}
use Rattle.jp_pred.specs.declared.hier.SeenClass.{SeenClass}
use Rattle.jp_pred.specs.declared.hier.Hier.{Hier}
use Rattle.jp_pred.specs.Names.{Word, object, same, In}

-- the first entry of that name
abbrev pub class_named : Word → List SeenClass → Option SeenClass
class_named name [] = None
class_named name (c ∷ cs) = cond (same c.name name) (Some c) (class_named name cs)

-- a superclass, where there is one, as a list
abbrev pub or_none : Option Word → List Word
or_none None = []
or_none (Some name) = name ∷ []

-- the supertypes that an entry names: its superclass, then its interfaces
abbrev pub named : SeenClass → List Word
named c = or_none c.superclass ++ c.interfaces

-- those of an entry that was looked for
abbrev pub named_of : Option SeenClass → List Word
named_of None = []
named_of (Some c) = named c

-- the supertypes that the hierarchy names of a class
abbrev pub parents : Hier → Word → List Word
parents hier name = named_of (class_named name hier.classes)

-- b is a, or is reached from it by named supertypes
pub data Ascends (hier : Hier) : Word → Word → Type 0 where
  stop : {a : Word} → Ascends hier a a
  up : {a b c : Word} → In b (parents hier a) → Ascends hier b c → Ascends hier a c

-- a is b or has it as a supertype: the reflexive and transitive closure of the named supertypes, with Object above all
abbrev pub IsBelow : Hier → Word → Word → Type 0
IsBelow hier a b = Ascends hier a b ⊎ (b ≡ object)

-- b is reached from one of the names
abbrev pub SomeAscends : Hier → List Word → Word → Type 0
SomeAscends hier names b = (p : Word) × In p names × Ascends hier p b

-- a class is its own proper supertype
abbrev pub IsAboveItself : Hier → Word → Type 0
IsAboveItself hier a = SomeAscends hier (parents hier a) a

-- no class is its own proper supertype
abbrev pub HasNoCycle : Hier → Type 0
HasNoCycle hier = (a b : Word) → In b (parents hier a) → Ascends hier b a → ⊥

-- b is reached from a by at most that many steps
abbrev pub reaches : ℕ → Hier → Word → Word → Bool
reaches zero hier a b = same a b
reaches (suc n) hier a b = same a b || list_any (λ p. reaches n hier p b) (parents hier a)

-- whether a is below b: without a cycle no way up is longer than the list of classes
abbrev pub is_below : Hier → Word → Word → Bool
is_below hier a b = same b object || reaches (length hier.classes) hier a b
