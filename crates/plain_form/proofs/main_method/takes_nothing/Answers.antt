use Rattle.std.proofs.Common.{◌≡◌, ◌↔◌, IsTrue, List, [], ◌∷◌, Bool, refl}
use Rattle.std.proofs.lemmas.Bool.{false_from_ne_true}
use Rattle.jp_ast.specs.declared.decl.Param.{Param}
use Rattle.plain_form.specs.Main.{takes_nothing}
use Rattle.plain_form.proofs.main_method.takes_nothing.Goals as goal

as_test : (b : Bool) (ps : List Param) → IsTrue b ↔ (ps ≡ []) → b ≡ takes_nothing ps
as_test b [] h = h.1 refl
as_test b (p ∷ ps) h = false_from_ne_true b (λ e. let none : p ∷ ps ≡ [] = h.0 e in cc)

pub returns : goal.returns
returns c = as_test c.is_empty.result c.args.member.now.params c.is_empty.ensures
