-- The tokens behind a guard that is read from short tokens are short.
use Rattle.std.proofs.Common.{ℕ, List, Bool}
use Rattle.jp_ast.specs.declared.token.Place.{Place}
use Rattle.jp_ast.specs.declared.guard.PathText.{PathText}
use Rattle.jp_ast.specs.declared.guard.Summand.{Summand}
use Rattle.jp_ast.specs.declared.guard.GuardExpr.{GuardExpr}
use Rattle.jp_grammar.specs.Kinds.{Tokens}
use Rattle.jp_grammar.specs.Guards.{Path, path, PathSteps, path_end, path_step, Term, constant, variable, factor_first, factor_last, Lin, lin_negative, lin, Terms, terms_end, terms_more, Atom, truth, falsehood, class_test, class_alias, alias, null_test, comparison, flag, Level, strongest, weaker, Chain, chain_end, chain_sign, Gun, opposite, parenthesis, atom, Closed, closed, Guard}
use Rattle.typed_texts.proofs.ShortTokens.{AreShort}

behind_steps : {p q : PathText} {xs zs : Tokens} → PathSteps p xs q zs → AreShort xs → AreShort zs
behind_steps path_end w = w
behind_steps (path_step h i s) w = behind_steps s w.1.1

behind_path : {xs zs : Tokens} {p : PathText} → Path xs p zs → AreShort xs → AreShort zs
behind_path (path h s) w = behind_steps s w.1

behind_term : {at : Place} {negative : Bool} {a : Summand} {xs zs : Tokens} → Term at negative xs a zs → AreShort xs → AreShort zs
behind_term (constant h) w = w.1
behind_term (variable p) w = behind_path p w
behind_term (factor_first h i p) w = behind_path p w.1.1
behind_term (factor_last p h i) w = (behind_path p w).1.1

behind_terms : {a b : List Summand} {xs zs : Tokens} → Terms a xs b zs → AreShort xs → AreShort zs
behind_terms terms_end w = w
behind_terms (terms_more h t s) w = behind_terms s (behind_term t w.1)

behind_lin : {sum : List Summand} {xs zs : Tokens} → Lin xs sum zs → AreShort xs → AreShort zs
behind_lin (lin_negative h t s) w = behind_terms s (behind_term t w.1)
behind_lin (lin t s) w = behind_terms s (behind_term t w)

behind_atom : {t : GuardExpr} {xs zs : Tokens} → Atom xs t zs → AreShort xs → AreShort zs
behind_atom (truth h) w = w.1
behind_atom (falsehood h) w = w.1
behind_atom (class_test p h i) w = (behind_path p w).1.1
behind_atom (class_alias p h i j k) w = (behind_path p w).1.1.1.1
behind_atom (alias p h i) w = (behind_path p w).1.1
behind_atom (null_test p h i) w = (behind_path p w).1.1
behind_atom (comparison a h i b) w = behind_lin b (behind_lin a w).1
behind_atom (flag p) w = behind_path p w

mutual
  behind_level : {n : ℕ} {t : GuardExpr} {xs zs : Tokens} → Level n xs t zs → AreShort xs → AreShort zs
  behind_level (strongest g) w = behind_gun g w
  behind_level (weaker l c) w = behind_chain c (behind_level l w)

  behind_chain : {at : Place} {n : ℕ} {l t : GuardExpr} {xs zs : Tokens} → Chain at n l xs t zs → AreShort xs → AreShort zs
  behind_chain chain_end w = w
  behind_chain (chain_sign h l c) w = behind_chain c (behind_level l w.1)

  behind_gun : {t : GuardExpr} {xs zs : Tokens} → Gun xs t zs → AreShort xs → AreShort zs
  behind_gun (opposite h g) w = behind_gun g w.1
  behind_gun (parenthesis h c) w = behind_closed c w.1
  behind_gun (atom a) w = behind_atom a w

  behind_closed : {t : GuardExpr} {xs zs : Tokens} → Closed xs t zs → AreShort xs → AreShort zs
  behind_closed (closed l h) w = (behind_level l w).1

pub behind_guard : {t : GuardExpr} {xs zs : Tokens} → Guard xs t zs → AreShort xs → AreShort zs
behind_guard g w = behind_level g w
