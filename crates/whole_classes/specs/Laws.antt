-- What classes with a body for each family say of calls.
use Rattle.std.specs.Prelude.{◌≡◌, List, [], IsTrue, Some}
use Rattle.jp_pred.specs.Names.{Word}
use Rattle.jp_pred.specs.Hierarchy.{is_below}
use Rattle.jp_pred.specs.Universe.{IsUniverse}
use Rattle.jp_meaning.specs.declared.unit.TypedClass.{TypedClass}
use Rattle.jp_meaning.specs.Does.{Method}
use Rattle.jp_meaning.specs.Descriptors.{word_of}
use Rattle.jp_meaning.specs.Classes.{class_in, hier_in, has_family, chain_of}
use Rattle.type_rules.specs.Heads.{is_concrete}
use Rattle.whole_classes.specs.Whole.{AreWhole}

-- Where all classes are whole, a call that names a class and a family which that class or one above it declares has a body
-- in the chain of each concrete class that the named class is, or is above
abbrev pub WholeCallsFindBodies : Type 0
WholeCallsFindBodies =
    (classes : List TypedClass) → IsUniverse (hier_in classes) → AreWhole classes → (named : Method) → IsTrue (has_family classes named) →
    (name : Word) (c : TypedClass) → class_in classes name ≡ Some c → IsTrue (is_concrete c.head) →
    IsTrue (is_below (hier_in classes) name (word_of named.class)) → chain_of classes named name ≡ [] → ⊥
