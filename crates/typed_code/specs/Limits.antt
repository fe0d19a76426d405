-- The limits on parameters and names within which code can be written.
use Rattle.std.specs.Prelude.{List, length, Bool, not, nat_lt, codes}
use Rattle.std.specs.List.{list_all}
use Rattle.jp_pred.specs.Names.{same}
use Rattle.iface_codec.specs.declared.iface.Iface.{Iface}
use Rattle.iface_codec.specs.declared.iface.IfaceMethod.{IfaceMethod}
use Rattle.jp_ast.specs.declared.decl.Decl.{Decl}
use Rattle.type_rules.specs.Heads.{head}

-- a method whose parameters and receiver can be counted in one byte
abbrev pub has_few_params : IfaceMethod → Bool
has_few_params m = nat_lt (length m.params) 255

-- classes and interfaces that have only such methods
abbrev pub have_few_params : List Iface → Bool
have_few_params heads = list_all (λ h. list_all has_few_params h.methods) heads

-- a declaration none of whose methods is called as constructors are in class files
abbrev pub has_ordinary_methods : Decl → Bool
has_ordinary_methods d = list_all (λ m. not (same m.name (codes "<init>"))) (head d).methods
