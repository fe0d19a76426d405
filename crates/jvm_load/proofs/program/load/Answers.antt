use Rattle.std.proofs.Common.{◌≡◌, List, [], ◌∷◌, length, sym, subst}
use Rattle.class_form.specs.declared.class_file.ClassFile.{ClassFile}
use Rattle.jvm_load.specs.FileClasses.{classes_of}
use Rattle.jvm_load.specs.Lines.{lines_of}
use Rattle.jvm_load.specs.Above.{AreAbove}
use Rattle.jvm_load.specs.Loadable.{IsLoadable}
use Rattle.jvm_load.specs.Places.{AreRanked, AreOffsetLists}
use Rattle.jvm_load.specs.Tables.{key_of, key_cmp, first_entry, IsTable, AreTables}
use Rattle.jvm_load.specs.declared.tables.Listing.TheVariants.{OfClasses, OfMethods, OfFields}
use Rattle.jvm_load.proofs.program.load.Goals as goal

-- each part is made of the copies
pub invariant_of-result : goal.invariant_of-result
invariant_of-result c = (
  subst IsLoadable (sym c.in_ok-copies.ensures) c.requires,
  subst (λ (fs : List ClassFile). c.in_ok-lines.lines.items ≡ lines_of (classes_of fs) (length fs)) c.as_slice.ensures.value c.in_ok-lines.ensures,
  subst (λ (fs : List ClassFile). AreAbove (classes_of fs) (length fs) c.in_ok-above.above.items) c.as_slice-2.ensures.value c.in_ok-above.ensures,
  subst (λ (fs : List ClassFile). IsTable key_cmp (key_of OfClasses fs) (first_entry OfClasses fs (0 ∷ [])) c.in_ok-names.names) c.as_slice-3.ensures.value c.in_ok-names.ensures,
  subst (λ (fs : List ClassFile). AreTables OfMethods fs (length fs) c.in_ok-methods.methods.items) c.as_slice-4.ensures.value c.in_ok-methods.ensures,
  subst (λ (fs : List ClassFile). AreTables OfFields fs (length fs) c.in_ok-fields.fields.items) c.as_slice-6.ensures.value c.in_ok-fields.ensures,
  subst (λ (fs : List ClassFile). AreRanked fs (length fs) c.in_ok-ranks.ranks.items) c.as_slice-8.ensures.value c.in_ok-ranks.ensures,
  subst (λ (fs : List ClassFile). AreOffsetLists (classes_of fs) (length fs) c.in_ok-offsets.offsets.items) c.as_slice-9.ensures.value c.in_ok-offsets.ensures,
)
