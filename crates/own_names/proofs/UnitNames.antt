-- A unit needs to see no other class exactly where it knows each class that it names.
use Rattle.std.proofs.Common.{◌≡◌, ◌↔◌, List, [], ◌∷◌, ◌++◌, map, true, false, not, cond, Option, Some, None, refl, sym, ap, ◌∙◌}
use Rattle.std.specs.Prelude.{if◌then◌else◌}
use Rattle.std.specs.List.{find, flat_map}
use Rattle.std.specs.Option.{option_map, option_to_list}
use Rattle.jp_pred.specs.Names.{Word}
use Rattle.jp_ast.specs.declared.token.Place.{Place}
use Rattle.jp_ast.specs.declared.expr.Expr.{Expr}
use Rattle.jp_ast.specs.declared.decl.SourceUnit.{SourceUnit}
use Rattle.jp_ast.specs.declared.decl.Decl.{Decl}
use Rattle.jp_ast.specs.declared.decl.Member.{Member}
use Rattle.jp_ast.specs.declared.decl.Param.{Param}
use Rattle.jp_ast.specs.declared.decl.MemberPart.{MemberPart}
use Rattle.jp_ast.specs.declared.decl.MemberPart.TheVariants as part
use Rattle.type_rules.specs.Types.{is_among}
use Rattle.type_rules.specs.Lookups.{unmet}
use Rattle.type_rules.specs.ClassNames.{InType, in_type, in_expr, in_guard_option, in_block, in_exprs, in_params, in_body, in_member, in_decl, known_names, must_see}
use Rattle.own_names.specs.Naming.{Named, alone, type_names, in_option, is_unknown, first_unknown}
use Rattle.own_names.specs.Trees.{expr_names, stmt_names, guard_names}
use Rattle.own_names.specs.Units.{param_names, part_names, member_names, decl_names, unit_names}
use Rattle.own_names.proofs.Says.{Says, both_say, three_say, four_say, type_says, all_say, names_say}
use Rattle.own_names.proofs.ExprNames.{expr_says}
use Rattle.own_names.proofs.StmtNames.{block_says}
use Rattle.own_names.proofs.GuardNames.{condition_says}

-- MEMBERS

args_say : (args : Option (List Expr)) (vars : List Word) → Says (in_exprs vars args) (in_option (flat_map expr_names) args)
args_say None vars = refl
args_say (Some args) vars = all_say (in_expr vars) expr_names args (λ x. expr_says x vars false)

params_say : (m : Member) → Says (in_params m) (param_names m.place m.params)
params_say m = all_say (λ (p : Param). in_type p.ty) (λ (p : Param). type_names m.place p.ty) m.params (λ p. type_says p.ty m.place)

member_says : (m : Member) → Says (in_member m) (member_names m)
member_says m = by_part m.part where
  params : List Word
  params = map (λ (p : Param). p.name) m.params

  by_part : (q : MemberPart) → Says (in_body m params q) (part_names m q)
  by_part (part.Field t static) = type_says t m.place
  by_part (part.Static result block) =
      three_say (in_type result) (in_params m) (in_block params block) (type_names m.place result) (param_names m.place m.params) (flat_map stmt_names block)
      (type_says result m.place) (params_say m) (block_says block params)
  by_part (part.Abstract result) = both_say (in_type result) (in_params m) (type_names m.place result) (param_names m.place m.params) (type_says result m.place) (params_say m)
  by_part (part.Body result guard block) =
      let scope : List Word = params ++ (in_guard_option guard).aliases in
      four_say (in_type result) (in_params m) (in_guard_option guard).mentions (in_block scope block) (type_names m.place result) (param_names m.place m.params) (in_option guard_names guard) (flat_map stmt_names block)
      (type_says result m.place) (params_say m) (condition_says guard) (block_says block scope)
  by_part (part.Constructor args block) =
      three_say (in_params m) (in_exprs params args) (in_block params block) (param_names m.place m.params) (in_option (flat_map expr_names) args) (flat_map stmt_names block)
      (params_say m) (args_say args params) (block_says block params)

-- DECLARATIONS

supertypes_say : (p : Place) (superclass : Option Word) (interfaces : List Word) → Says (map InType (option_to_list superclass ++ interfaces)) (in_option (alone p) superclass ++ flat_map (alone p) interfaces)
supertypes_say p None interfaces = names_say p interfaces
supertypes_say p (Some name) interfaces = ap (λ (l : List Word). name ∷ l) (names_say p interfaces)

decl_says : (d : Decl) → Says (in_decl d) (decl_names d)
decl_says d =
    both_say (map InType (option_to_list d.superclass ++ d.interfaces)) (flat_map in_member d.members) (in_option (alone d.place) d.superclass ++ flat_map (alone d.place) d.interfaces) (flat_map member_names d.members)
    (supertypes_say d.place d.superclass d.interfaces) (all_say in_member member_names d.members member_says)

unit_says : (unit : SourceUnit) → Says (flat_map in_decl unit.decls) (unit_names unit)
unit_says unit = all_say in_decl decl_names unit.decls decl_says

-- THE FIRST CLASS THAT ISN'T KNOWN

-- none is left exactly where each is known
none_left_over : (known : List Word) (ns : List Named) → (first_unknown known ns ≡ None) ↔ (unmet known (map (λ n. n.class) ns) ≡ [])
none_left_over known [] = (λ e. refl, λ e. refl)
none_left_over known (n ∷ ns) = elim (is_among n.class known) as (λ b. (option_map (λ (n : Named). n.place) (cond (not b) (Some n) (find (is_unknown known) ns)) ≡ None) ↔ ((if b then unmet known (map (λ (n : Named). n.class) ns) else n.class ∷ unmet (n.class ∷ known) (map (λ (n : Named). n.class) ns)) ≡ [])) [
  | true ↦ none_left_over known ns
  | false ↦ (λ e. absurd cc, λ e. absurd cc)
]

pub names_own : (unit : SourceUnit) (r : Option Place) → r ≡ first_unknown (known_names unit) (unit_names unit) → (r ≡ None) ↔ (must_see unit ≡ [])
names_own unit r e =
    let h = none_left_over (known_names unit) (unit_names unit) in
    let says : Says (flat_map in_decl unit.decls) (unit_names unit) = unit_says unit in
    (λ n. ap (unmet (known_names unit)) says ∙ h.0 (sym e ∙ n), λ m. e ∙ h.1 (sym (ap (unmet (known_names unit)) says) ∙ m))
