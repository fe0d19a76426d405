-- Lists of references, as the classes and names that they lead to.
use Rattle.std.specs.Prelude.{List, map}
use Rattle.std.specs.Borrow.{Bor}
use Rattle.jp_pred.specs.Names.{Word}
use Rattle.iface_codec.specs.declared.iface.Iface.{Iface}

abbrev pub classes_at : List (Bor Iface) → List Iface
classes_at classes = map (λ c. c.now) classes

abbrev pub words_at : List (Bor Word) → List Word
words_at names = map (λ n. n.now) names
