use Rattle.std.proofs.Common.{List, [], map, ap, ◌∙◌}
use Rattle.jp_ast.specs.declared.decl.Param.{Param}
use Rattle.type_rules.specs.Table.{faults_of}
use Rattle.type_rules.specs.Typing.{earlier}
use Rattle.type_rules.specs.Units.{param_visits}
use Rattle.type_decl.specs.Parts.{alias_entry}
use Rattle.type_decl.proofs.Opens.{member_opens}
use Rattle.type_decl.proofs.Rooms.{guard_params}
use Rattle.type_decl.proofs.opening.open_member.Goals as goal

pub walk_guard-requires : goal.walk_guard-requires
walk_guard-requires c = guard_params c.args.heads c.args.decl.now c.args.member.now c.in_ok-outside.outside c.requires c.in_ok-outside.ensures

pub returns : goal.returns
returns c =
    member_opens c.args.heads c.args.decl.now c.args.member.now c.in_ok-outside.outside c.walk_guard.new.scope c.args.first.now.fault c.judge_params.new.first.fault c.walk_guard.new.first.fault _
    c.in_ok-outside.ensures
    (c.judge_params.ensures ∙ ap (λ (ps : List Param). earlier c.args.first.now.fault (faults_of (param_visits [] ps))) c.as_slice-params.ensures)
    c.in_ok-guard.ensures
    (c.in_ok-entry.ensures ∙ ap (map alias_entry) c.as_slice-aliases.ensures)
    c.in_ok-scope.ensures
