use Rattle.std.proofs.Common.{◌+◌, List, take, refl, sym, subst}
use Rattle.class_form.specs.declared.class_file.ClassFile.{ClassFile}
use Rattle.jp_pred.specs.declared.hier.Hier.{Hier}
use Rattle.jp_meaning.specs.Classes.{hier_in}
use Rattle.gen_laws.specs.Compiled.{IsFileOf, AreFilesOf}
use Rattle.unit_build.specs.Files.{AreFlagged, AreFormed}
use Rattle.unit_build.proofs.Adding.{compiled_more, flagged_more, formed_more, writable}
use Rattle.unit_build.proofs.files.files_of.Goals as goal

pub class_file-requires-clause-slots : goal.class_file-requires-clause-slots
class_file-requires-clause-slots c = (writable c.args.classes.now _ c.loop-class.class-index c.class-item.result refl c.loop-class-test.true c.class-item.is c.in_ok-hier.hier c.in_ok-hier.ensures c.requires).slots

pub class_file-requires-clause-meant : goal.class_file-requires-clause-meant
class_file-requires-clause-meant c = (writable c.args.classes.now _ c.loop-class.class-index c.class-item.result refl c.loop-class-test.true c.class-item.is c.in_ok-hier.hier c.in_ok-hier.ensures c.requires).meant

pub class_file-requires-clause-signed : goal.class_file-requires-clause-signed
class_file-requires-clause-signed c = (writable c.args.classes.now _ c.loop-class.class-index c.class-item.result refl c.loop-class-test.true c.class-item.is c.in_ok-hier.hier c.in_ok-hier.ensures c.requires).signed

pub class_file-requires-clause-apart : goal.class_file-requires-clause-apart
class_file-requires-clause-apart c = (writable c.args.classes.now _ c.loop-class.class-index c.class-item.result refl c.loop-class-test.true c.class-item.is c.in_ok-hier.hier c.in_ok-hier.ensures c.requires).apart

pub loop-class-preserved : goal.loop-class-preserved
loop-class-preserved c =
    let can = writable c.args.classes.now _ c.loop-class.class-index c.class-item.result refl c.loop-class-test.true c.class-item.is c.in_ok-hier.hier c.in_ok-hier.ensures c.requires in
    let is = subst (λ (h : Hier). IsFileOf h c.class-item.result c.in_ok-class_file.field-0 65536) c.in_ok-hier.ensures (c.in_ok-class_file.ensures.compiled 65536 can.few) in
    let pushed = c.in_ok-push.ensures in
    record {
      compiled = subst (λ (files : List ClassFile). AreFilesOf (hier_in c.args.classes.now) (take (c.loop-class.class-index + 1) c.args.classes.now) files 65536) (sym pushed.ok)
          (compiled_more c.args.classes.now _ c.loop-class.class-index c.class-item.result refl c.loop-class-test.true c.class-item.is (hier_in c.args.classes.now) c.loop-class.files c.in_ok-class_file.field-0 c.loop-class.invariant.compiled is);
      flagged = subst (λ (files : List ClassFile). AreFlagged (take (c.loop-class.class-index + 1) c.args.classes.now) files) (sym pushed.ok)
          (flagged_more c.args.classes.now _ c.loop-class.class-index c.class-item.result refl c.loop-class-test.true c.class-item.is c.loop-class.files c.in_ok-class_file.field-0 c.loop-class.invariant.flagged c.in_ok-class_file.ensures.flagged);
      formed = subst AreFormed (sym pushed.ok) (formed_more c.loop-class.files c.in_ok-class_file.field-0 c.loop-class.invariant.formed c.in_ok-class_file.ensures.formed);
    }
