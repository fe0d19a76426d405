-- Where a program may begin.
use Rattle.std.specs.Prelude.{Bool, true, false, not, ◌&&◌, List, [], ◌∷◌, codes}
use Rattle.std.specs.List.{list_any}
use Rattle.jp_pred.specs.declared.ty.Ty.{Ty}
use Rattle.jp_pred.specs.declared.ty.Ty.TheVariants as ty
use Rattle.jp_pred.specs.Names.{Word, same}
use Rattle.jp_ast.specs.declared.decl.SourceUnit.{SourceUnit}
use Rattle.jp_ast.specs.declared.decl.Decl.{Decl}
use Rattle.jp_ast.specs.declared.decl.Member.{Member}
use Rattle.jp_ast.specs.declared.decl.Param.{Param}
use Rattle.jp_ast.specs.declared.decl.MemberPart.{MemberPart}
use Rattle.jp_ast.specs.declared.decl.MemberPart.TheVariants as part

abbrev pub is_void : Ty → Bool
is_void ty.Void = true
is_void _ = false

abbrev pub takes_nothing : List Param → Bool
takes_nothing [] = true
takes_nothing (p ∷ ps) = false

abbrev pub is_static_void : MemberPart → Bool
is_static_void (part.Static result block) = is_void result
is_static_void _ = false

-- `static void main()`, which isn't private
abbrev pub is_main : Member → Bool
is_main m = not m.is_private && same m.name (codes "main") && takes_nothing m.params && is_static_void m.part

-- a class of that name, with such a method
abbrev pub declares_main : Word → Decl → Bool
declares_main name d = not d.is_interface && same d.name name && list_any is_main d.members

-- one of the classes is so
abbrev pub has_main : SourceUnit → Word → Bool
has_main unit name = list_any (declares_main name) unit.decls
