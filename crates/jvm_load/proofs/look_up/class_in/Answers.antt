use Rattle.std.proofs.Common.{[], ◌∷◌, Some, None}
use Rattle.jvm_load.specs.Tables.{first_entry}
use Rattle.jvm_load.specs.declared.tables.Listing.TheVariants.{OfClasses}
use Rattle.jvm_load.proofs.Placed.{class_is, class_within}
use Rattle.jvm_load.proofs.look_up.class_in.Goals as goal

pub returns-in-Some-clause-place : goal.returns-in-Some-clause-place
returns-in-Some-clause-place c =
    let files = c.args.files.now in
    class_is files c.args.name.now (Some c.in-Some.entry) (c.in-Some.ensures (first_entry OfClasses files (0 ∷ [])) c.requires)

pub returns-in-Some-clause-within : goal.returns-in-Some-clause-within
returns-in-Some-clause-within c =
    let files = c.args.files.now in
    class_within files c.args.name.now (Some c.in-Some.entry.member)
    (class_is files c.args.name.now (Some c.in-Some.entry) (c.in-Some.ensures (first_entry OfClasses files (0 ∷ [])) c.requires))

pub returns-in-None-clause-place : goal.returns-in-None-clause-place
returns-in-None-clause-place c =
    let files = c.args.files.now in
    class_is files c.args.name.now None (c.in-None.ensures (first_entry OfClasses files (0 ∷ [])) c.requires)
