use Rattle.std.proofs.Common.{List, [], ◌∷◌, sym, subst}
use Rattle.class_form.specs.declared.class_file.ClassFile.{ClassFile}
use Rattle.jvm_load.specs.declared.tables.TableEntry.{TableEntry as Entry}
use Rattle.jvm_load.specs.declared.tables.Listing.TheVariants.{OfClasses}
use Rattle.jvm_load.specs.Tables.{key_of, key_cmp, first_entry, IsTable}
use Rattle.jvm_load.proofs.program.Program.names.Goals as goal

pub returns : goal.returns
returns c =
    let files = c.self.inside.files.items in
    subst (λ (fs : List ClassFile). IsTable key_cmp (key_of OfClasses fs) (first_entry OfClasses fs (0 ∷ [])) c.as_slice.result.now) c.self.view_is
    (subst (λ (l : List Entry). IsTable key_cmp (key_of OfClasses files) (first_entry OfClasses files (0 ∷ [])) l) (sym c.as_slice.ensures) c.self.invariant.3)
