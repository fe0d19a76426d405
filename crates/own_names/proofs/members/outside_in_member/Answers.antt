use Rattle.std.proofs.Common.{◌++◌, refl, sym, ap, ◌∙◌}
use Rattle.std.specs.List.{flat_map}
use Rattle.jp_ast.specs.declared.decl.MemberPart.TheVariants as part
use Rattle.type_rules.specs.ClassNames.{known_names}
use Rattle.own_names.specs.Naming.{in_option}
use Rattle.own_names.specs.Trees.{expr_names, stmt_names, guard_names}
use Rattle.own_names.specs.Units.{param_names, head_names, part_names, member_names}
use Rattle.own_names.proofs.Shapes.{two_parts}
use Rattle.own_names.proofs.members.outside_in_member.Goals as goal

pub returns-in-Static : goal.returns-in-Static
returns-in-Static c =
    let m = c.args.member.now in
    two_parts (known_names c.args.unit.now) (head_names m c.in-Static.result) (flat_map stmt_names c.as_slice.result.now) (member_names m) c.outside_in_head.result c.outside_in_stmts.result c.or.result
    c.outside_in_head.ensures c.outside_in_stmts.ensures c.or.ensures
    (ap (part_names m) (c.in-Static.is ∙ ap (part.Static c.in-Static.result) (sym c.as_slice.ensures)))

pub returns-in-Body : goal.returns-in-Body
returns-in-Body c =
    let known = known_names c.args.unit.now in
    let m = c.args.member.now in
    let head = head_names m c.in-Body.result in
    let guard = in_option guard_names c.in-Body.guard in
    let block = c.as_slice-in-Body.result.now in
    two_parts known (head ++ guard) (flat_map stmt_names block) (member_names m) c.or-in-Body.result c.outside_in_stmts-in-Body.result c.or-in-Body-2.result
    (two_parts known head guard (head ++ guard) c.outside_in_head-in-Body.result c.outside_in_condition.result c.or-in-Body.result c.outside_in_head-in-Body.ensures c.outside_in_condition.ensures c.or-in-Body.ensures refl)
    c.outside_in_stmts-in-Body.ensures c.or-in-Body-2.ensures
    (ap (part_names m) (c.in-Body.is ∙ ap (part.Body c.in-Body.result c.in-Body.guard) (sym c.as_slice-in-Body.ensures)))

pub returns-in-Constructor : goal.returns-in-Constructor
returns-in-Constructor c =
    let known = known_names c.args.unit.now in
    let m = c.args.member.now in
    let params = c.as_slice-in-Constructor.result.now in
    let args = in_option (flat_map expr_names) c.in-Constructor.super_args in
    let block = c.as_slice-in-Constructor-2.result.now in
    two_parts known (param_names m.place params ++ args) (flat_map stmt_names block) (member_names m) c.or-in-Constructor.result c.outside_in_stmts-in-Constructor.result c.or-in-Constructor-2.result
    (two_parts known (param_names m.place params) args (param_names m.place params ++ args) c.outside_in_params.result c.outside_in_super.result c.or-in-Constructor.result
    c.outside_in_params.ensures c.outside_in_super.ensures c.or-in-Constructor.ensures refl)
    c.outside_in_stmts-in-Constructor.ensures c.or-in-Constructor-2.ensures
    (ap (part_names m) (c.in-Constructor.is ∙ ap (part.Constructor c.in-Constructor.super_args) (sym c.as_slice-in-Constructor-2.ensures))
    ∙ ap (λ ps. param_names m.place ps ++ args ++ flat_map stmt_names block) (sym c.as_slice-in-Constructor.ensures))
