use Rattle.std.proofs.Common.{List, map, sym, ap, ◌∙◌, subst}
use Rattle.iface_codec.specs.declared.iface.Iface.{Iface}
use Rattle.type_decl.specs.Walking.{walked_of}
use Rattle.type_decl.specs.Checking.{SettlesDecl}
use Rattle.type_decl.proofs.Rooms.{members_fit}
use Rattle.type_decl.proofs.Settles.{decl_checked}
use Rattle.type_decl.proofs.classes.check_decl.Goals as goal

pub walk_members-requires : goal.walk_members-requires
walk_members-requires c = (members_fit c.args.decl.now c.requires).1

pub settle_decl-requires-clause-few : goal.settle_decl-requires-clause-few
settle_decl-requires-clause-few c = (members_fit c.args.decl.now c.requires).0

pub settle_decl-requires-clause-walked : goal.settle_decl-requires-clause-walked
settle_decl-requires-clause-walked c =
    c.in_ok-all.ensures.walked_are
    ∙ ap (λ (hs : List Iface). map (walked_of hs c.args.decl.now) c.args.decl.now.members) (sym (c.as_slice.ensures ∙ c.in_ok-all.ensures.heads_are))

pub returns : goal.returns
returns c =
    decl_checked c.args.heads c.in_ok-all.all.heads c.args.before.now c.args.decl.now c.args.first.now.fault c.walk_members.new.first.fault c.settle_decl.new.first.fault c.in_ok-all.all.walked.items c.in_ok-class.class
    c.in_ok-all.ensures
    (subst (λ (hs : List Iface). SettlesDecl hs c.args.before.now c.args.decl.now c.walk_members.new.first.fault c.settle_decl.new.first.fault c.in_ok-class.class) c.as_slice.ensures c.in_ok-class.ensures)
