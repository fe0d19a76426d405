use Rattle.std.proofs.Common.{◌≡◌, ◌<◌, List, [], length, get_or, sym, ap, ◌∙◌, subst, arith}
use Rattle.std.proofs.lemmas.List.{get_or_default}
use Rattle.class_form.specs.declared.class_file.ClassFile.{ClassFile}
use Rattle.jvm_load.specs.declared.tables.TableEntry.{TableEntry as Entry}
use Rattle.jvm_load.specs.declared.tables.Listing.TheVariants.{OfFields}
use Rattle.jvm_load.specs.Tables.{key_of, key_cmp, found_above, IsTable}
use Rattle.jvm_load.proofs.program.Program.fields_above.Goals as goal

pub returns : goal.returns
returns c =
    let files = c.self.inside.files.items in
    let tables = c.self.inside.fields.items in
    let class = c.args.class in
    let seen = ap length c.self.view_is in
    let within : class < length files = omega (arith, seen, c.requires) in
    let inside : class < length tables = omega (arith, within, c.self.invariant.5.count) in
    let e : c.as_slice.result.now ≡ get_or tables class []
    = c.as_slice.ensures ∙ c.index-table.ensures ∙ get_or_default tables class c.index-table.result.now [] inside in
    subst (λ (fs : List ClassFile). IsTable key_cmp (key_of OfFields fs) (found_above OfFields fs class) c.as_slice.result.now) c.self.view_is
    (subst (λ (l : List Entry). IsTable key_cmp (key_of OfFields files) (found_above OfFields files class) l) (sym e) (c.self.invariant.5.each class within))
