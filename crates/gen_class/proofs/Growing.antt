-- What is so in each file that has certain constants stays so while constants are added.
use Rattle.std.proofs.Common.{◌≡◌, List, [], ◌∷◌, ◌++◌, sym, ap, ◌∙◌, append_assoc}
use Rattle.std.proofs.lemmas.List.{append-nil}
use Rattle.class_form.specs.declared.constant.Const.{Const}
use Rattle.class_form.specs.declared.constant.Const.TheVariants.{Unused}
use Rattle.class_form.specs.declared.class_file.ClassFile.{ClassFile}
use Rattle.code_asm.specs.Held.{Extends, InFiles}

pub grown : (a b c : List Const) → Extends a b → Extends b c → Extends a c
grown a b c e f = (e.0 ++ f.0, f.1 ∙ ap (λ l. l ++ f.0) e.1 ∙ append_assoc a e.0 f.0)

pub same : (a : List Const) → Extends a a
same a = ([], sym (append-nil a))

pub longer : (P : ClassFile → Type 0) (a b : List Const) → Extends a b → InFiles a P → InFiles b P
longer P a b e h file more f = h file (e.0 ++ more) (f ∙ ap (λ l. Unused ∷ l) (ap (λ l. l ++ more) e.1 ∙ append_assoc a e.0 more))

-- in the file that has these constants and no others
pub in_file : (P : ClassFile → Type 0) (a : List Const) (file : ClassFile) → file.constants ≡ Unused ∷ a → InFiles a P → P file
in_file P a file e h = h file [] (e ∙ ap (λ l. Unused ∷ l) (sym (append-nil a)))
