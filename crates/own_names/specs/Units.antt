-- The classes that members, declarations and units name in type positions, in the order of the text, and the first of
-- them that the unit doesn't know.
use Rattle.std.specs.Prelude.{List, ◌++◌, Option}
use Rattle.std.specs.List.{flat_map}
use Rattle.jp_pred.specs.declared.ty.Ty.{Ty}
use Rattle.jp_ast.specs.declared.token.Place.{Place}
use Rattle.jp_ast.specs.declared.decl.SourceUnit.{SourceUnit}
use Rattle.jp_ast.specs.declared.decl.Decl.{Decl}
use Rattle.jp_ast.specs.declared.decl.Member.{Member}
use Rattle.jp_ast.specs.declared.decl.Param.{Param}
use Rattle.jp_ast.specs.declared.decl.MemberPart.{MemberPart}
use Rattle.jp_ast.specs.declared.decl.MemberPart.TheVariants as part
use Rattle.type_rules.specs.ClassNames.{known_names}
use Rattle.own_names.specs.Naming.{Named, alone, type_names, in_option, first_unknown}
use Rattle.own_names.specs.Trees.{expr_names, stmt_names, guard_names}

-- the types of parameters, at the place of their member
abbrev pub param_names : Place → List Param → List Named
param_names p params = flat_map (λ param. type_names p param.ty) params

-- what stands in front of a method's body
abbrev pub head_names : Member → Ty → List Named
head_names m result = type_names m.place result ++ param_names m.place m.params

abbrev pub part_names : Member → MemberPart → List Named
part_names m (part.Field ty static) = type_names m.place ty
part_names m (part.Static result block) = head_names m result ++ flat_map stmt_names block
part_names m (part.Abstract result) = head_names m result
part_names m (part.Body result guard block) = head_names m result ++ in_option guard_names guard ++ flat_map stmt_names block
part_names m (part.Constructor args block) = param_names m.place m.params ++ in_option (flat_map expr_names) args ++ flat_map stmt_names block

abbrev pub member_names : Member → List Named
member_names m = part_names m m.part

-- supertypes stand at the declaration's place
abbrev pub decl_names : Decl → List Named
decl_names d = in_option (alone d.place) d.superclass ++ flat_map (alone d.place) d.interfaces ++ flat_map member_names d.members

abbrev pub unit_names : SourceUnit → List Named
unit_names unit = flat_map decl_names unit.decls

-- the place of the first class that the unit doesn't declare and that isn't the language's own
abbrev pub first_outside : SourceUnit → Option Place
first_outside unit = first_unknown (known_names unit) (unit_names unit)
