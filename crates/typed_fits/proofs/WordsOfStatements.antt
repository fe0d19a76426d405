-- The words behind what is read are words of the tokens that were there: types and statements; and the names in types are
-- ones that a descriptor can carry.
use Rattle.std.proofs.Common.{◌≡◌, ℕ, suc, List, [], ◌∷◌, Bool, true, false, Option, refl, subst, inl, inr}
use Rattle.std.specs.Prelude.{◌==◌, not, IsTrue, if◌then◌else◌}
use Rattle.std.proofs.lemmas.Bool.{false≢true}
use Rattle.std.proofs.lemmas.Bool.Decides.{Decides-eqb}
use Rattle.std.proofs.Common.{arith}
use Rattle.jp_pred.specs.declared.ty.Ty.{Ty}
use Rattle.jp_pred.specs.declared.ty.Ty.TheVariants as ty
use Rattle.jp_pred.specs.Names.{Word, same, object}
use Rattle.jp_pred.proofs.Ascents.{same_true}
use Rattle.jp_pred.proofs.Visits.{true_or_false}
use Rattle.jp_ast.specs.declared.token.Token.{Token}
use Rattle.jp_ast.specs.declared.token.Place.{Place}
use Rattle.jp_ast.specs.declared.expr.Expr.{Expr}
use Rattle.jp_ast.specs.declared.stmt.Stmt.{Stmt}
use Rattle.jp_store.specs.Classes.{object_name}
use Rattle.jp_meaning.specs.Descriptors.{internal_name}
use Rattle.jp_lexical.specs.Characters.{is_word_byte}
use Rattle.jp_grammar.specs.Kinds.{Tokens}
use Rattle.jp_grammar.specs.Expressions.{IsElement}
use Rattle.jp_grammar.specs.Statements.{array_of, OneType, element_type, array_type, ResultType, no_result, some_result, Change, assign, bump, run, Declared, declared, Init, init_local, init_change, MaybeInit, no_init, some_init, MaybeExpr, no_expr, some_expr, MaybeChange, no_change, some_change, Test, test, Statement, block, empty, local, local_value, when_true, while_true, for_each, break_off, continue_on, return_from, change, Else, no_else, some_else, Block, block_end, block_more}
use Rattle.gen_body.specs.Names.{is_plain, is_nameable, is_result}
use Rattle.calls_fit.proofs.Named.{first_of, second_of}
use Rattle.typed_fits.proofs.SeenFits.{and_so}
use Rattle.typed_fits.proofs.WordsOfExpressions.{IsWordly, AreWordly, rest, word_is, two, three, behind_expression, behind_postfix}

-- NAMES

no_semicolon : (b : ℕ) → IsTrue (is_word_byte b) → not (b == 59) ≡ true
unfolding is_word_byte
no_semicolon b h = elim (b == 59) as (λ (x : Bool). b == 59 ≡ x → not x ≡ true) [
  | true ↦ λ e. absurd (no_word (subst (λ (n : ℕ). IsTrue (is_word_byte n)) {x = b} {y = 59} ((Decides-eqb b 59).0 e) h))
  | false ↦ λ e. refl
] refl where
  no_word : IsTrue (is_word_byte 59) → ⊥
  no_word h = false≢true h

plain_word : (bytes : List ℕ) → IsWordly bytes → is_plain bytes ≡ true
plain_word [] h = refl
plain_word (b ∷ bytes) h = and_so (not (b == 59)) (is_plain bytes) (no_semicolon b (h 0 b (omega arith))) (plain_word bytes (λ k d lt. h (suc k) d (omega (arith, lt))))

pub plain_inside : (name : Word) → IsWordly name → is_plain (internal_name name) ≡ true
plain_inside name h = by_object (same name object) where
  by_object : (b : Bool) → is_plain (if b then object_name else name) ≡ true
  by_object true = refl
  by_object false = plain_word name h

pub not_object : (name : Word) → IsWordly name → same name object_name ≡ false
unfolding is_word_byte
not_object name h = elim (true_or_false (same name object_name)) [
  | inl t ↦ absurd (no_slash (subst IsWordly (same_true name object_name t) h))
  | inr f ↦ f
] where
  no_slash : IsWordly object_name → ⊥
  no_slash h = false≢true (h 4 0 (omega arith))

-- TYPES

element_named : (elem : Ty) {s : Token} {xs : Tokens} → IsElement elem s → AreWordly (s ∷ xs) → (is_nameable elem ≡ true) × (is_nameable (array_of elem) ≡ true)
element_named ty.Int h w = (refl, refl)
element_named ty.Boolean h w = (refl, refl)
element_named (ty.Class name) h w = let p = plain_inside name (word_is w name (first_of h)) in (p, p)
element_named ty.Void h w = absurd h
element_named ty.IntArray h w = absurd h
element_named ty.BooleanArray h w = absurd h
element_named (ty.ClassArray name) h w = absurd h

pub behind_type : {t : Ty} {xs zs : Tokens} → OneType xs t zs → AreWordly xs → AreWordly zs
behind_type (element_type h) w = rest w
behind_type (array_type elem h i j) w = three w

pub type_named : {t : Ty} {xs zs : Tokens} → OneType xs t zs → AreWordly xs → is_nameable t ≡ true
type_named (element_type {elem = elem} h) w = first_of (element_named elem h w)
type_named (array_type elem h i j) w = second_of (element_named elem h w)

as_result : (t : Ty) → is_nameable t ≡ true → is_result t ≡ true
as_result ty.Void h = absurd (false≢true h)
as_result ty.Int h = refl
as_result ty.Boolean h = refl
as_result (ty.Class name) h = h
as_result ty.IntArray h = refl
as_result ty.BooleanArray h = refl
as_result (ty.ClassArray name) h = h

pub behind_result : {t : Ty} {xs zs : Tokens} → ResultType xs t zs → AreWordly xs → AreWordly zs
behind_result (no_result h) w = rest w
behind_result (some_result t) w = behind_type t w

pub result_named : {t : Ty} {xs zs : Tokens} → ResultType xs t zs → AreWordly xs → is_result t ≡ true
result_named (no_result h) w = refl
result_named (some_result {t = t} g) w = as_result t (type_named g w)

-- STATEMENTS

behind_change : {t : Stmt} {xs zs : Tokens} → Change xs t zs → AreWordly xs → AreWordly zs
behind_change (assign p h i e) w = behind_expression e (rest (behind_postfix p w))
behind_change (bump p h) w = rest (behind_postfix p w)
behind_change (run p) w = behind_postfix p w

behind_declared : {t : Stmt} {xs zs : Tokens} → Declared xs t zs → AreWordly xs → AreWordly zs
behind_declared (declared t h i e) w = behind_expression e (two (behind_type t w))

behind_init : {t : Stmt} {xs zs : Tokens} → Init xs t zs → AreWordly xs → AreWordly zs
behind_init (init_local d) w = behind_declared d w
behind_init (init_change c) w = behind_change c w

behind_maybe_init : {t : Option Stmt} {xs zs : Tokens} → MaybeInit xs t zs → AreWordly xs → AreWordly zs
behind_maybe_init (no_init h) w = rest w
behind_maybe_init (some_init i h) w = rest (behind_init i w)

behind_maybe_expr : {t : Option Expr} {xs zs : Tokens} → MaybeExpr xs t zs → AreWordly xs → AreWordly zs
behind_maybe_expr (no_expr h) w = rest w
behind_maybe_expr (some_expr e h) w = rest (behind_expression e w)

behind_maybe_change : {t : Option Stmt} {xs zs : Tokens} → MaybeChange xs t zs → AreWordly xs → AreWordly zs
behind_maybe_change (no_change h) w = rest w
behind_maybe_change (some_change c h) w = rest (behind_change c w)

behind_test : {t : Expr} {xs zs : Tokens} → Test xs t zs → AreWordly xs → AreWordly zs
behind_test (test h e i) w = rest (behind_expression e (rest w))

mutual
  behind_statement : {t : Stmt} {short : Bool} {xs zs : Tokens} → Statement xs t short zs → AreWordly xs → AreWordly zs
  behind_statement (block h b) w = behind_block b (rest w)
  behind_statement (empty h) w = rest w
  behind_statement (local t h i) w = two (behind_type t w)
  behind_statement (local_value d h) w = rest (behind_declared d w)
  behind_statement (when_true h t s e) w = behind_else e (behind_statement s (behind_test t (rest w)))
  behind_statement (while_true h t s) w = behind_statement s (behind_test t (rest w))
  behind_statement (for_each h i j e c s) w = behind_statement s (behind_maybe_change c (behind_maybe_expr e (behind_maybe_init j (two w))))
  behind_statement (break_off h i) w = two w
  behind_statement (continue_on h i) w = two w
  behind_statement (return_from h e) w = behind_maybe_expr e (rest w)
  behind_statement (change c h) w = rest (behind_change c w)

  behind_else : {at : Place} {e : Expr} {a t : Stmt} {inner short : Bool} {xs zs : Tokens} → Else at e a inner xs t short zs → AreWordly xs → AreWordly zs
  behind_else no_else w = w
  behind_else (some_else h s) w = behind_statement s (rest w)

  pub behind_block : {ts us : List Stmt} {xs zs : Tokens} → Block ts xs us zs → AreWordly xs → AreWordly zs
  behind_block (block_end h) w = rest w
  behind_block (block_more s b) w = behind_block b (behind_statement s w)
