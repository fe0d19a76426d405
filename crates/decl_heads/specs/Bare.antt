-- The head of a declaration without its members.
use Rattle.std.specs.Prelude.{[]}
use Rattle.iface_codec.specs.declared.iface.Iface.{Iface}
use Rattle.jp_ast.specs.declared.decl.Decl.{Decl}
use Rattle.type_rules.specs.Heads.{head}

abbrev pub bare : Decl → Iface
bare d = record (head d) { fields = []; constructors = []; methods = [] }
