-- What items weigh, by numbers for an instruction, a call of an interface's method, and a label.
use Rattle.std.proofs.Common.{◌≡◌, ℕ, ◌+◌, ◌*◌, ◌≤◌, Bool, true, false, List, [], ◌∷◌, ◌++◌, refl, arith}
use Rattle.std.specs.Prelude.{ℤ, pos, cond}
use Rattle.jp_pred.specs.declared.ty.Ty.{Ty}
use Rattle.jp_store.specs.declared.value.Kind.{Kind}
use Rattle.jp_store.specs.declared.value.Kind.TheVariants.{Number, LongNumber, Reference}
use Rattle.jp_store.specs.Work.{NamedElement, IntElements, BooleanElements, ClassElements}
use Rattle.jp_meaning.specs.Does.{Method}
use Rattle.jvm_table.specs.declared.instr.Instr.TheVariants.{PushInt, Binary}
use Rattle.jvm_table.specs.declared.instr.Jump.TheVariants.{Always}
use Rattle.jvm_table.specs.declared.instr.ConstantUse.TheVariants.{PushConstant}
use Rattle.code_asm.specs.Items.{IntOf, Item, Plain, Uses, CallsInterface, Branch, Mark}
use Rattle.gen_body.specs.Codes.{Place, LocalAt, FieldAt, StaticAt, ElementAt, Nowhere, choice, choose_truth, is_short, push_int, virtual_call, make_array}
use Rattle.gen_body.specs.Statements.{copy_parts, get_place, put_place, push_default, step_of, step_place, bump_place}

module _ (a i m : ℕ) where
  abbrev pub weight : Item → ℕ
  weight (Plain instr) = a
  weight (Uses use_ wanted) = a
  weight (CallsInterface key signature) = i
  weight (Branch jump label) = a
  weight (Mark label) = m

  abbrev pub weigh : List Item → ℕ
  weigh [] = 0
  weigh (item ∷ items) = weight item + weigh items

  pub weigh_join : (x y : List Item) → weigh (x ++ y) ≡ weigh x + weigh y
  weigh_join [] y = omega arith
  weigh_join (item ∷ x) y = omega (arith, weigh_join x y)

  -- with an item at the end
  pub weigh_end : (x : List Item) (item : Item) → weigh (x ++ item ∷ []) ≡ weigh x + weight item
  weigh_end x item = omega (arith, weigh_join x (item ∷ []))

  -- two parts and an item behind them
  pub weigh_both : (x y : List Item) (item : Item) → weigh (x ++ (y ++ item ∷ [])) ≡ weigh x + (weigh y + weight item)
  weigh_both x y item = omega (arith, weigh_join x (y ++ item ∷ []), weigh_end y item)

  pub weigh_choose : (x : List Item) (n : ℕ) → weigh (x ++ choose_truth n) ≡ weigh x + (3 * a + 2 * m)
  weigh_choose x n = omega (arith, weigh_join x (choose_truth n))

  pub weigh_choice : (test : Bool → ℕ → List Item) (x y : List Item) (n : ℕ) → weigh (choice test x y n) ≡ weigh (test false n) + (weigh x + (weigh y + (a + 2 * m)))
  weigh_choice test x y n =
      let e = weigh_end y (Mark (n + 1)) in
      let f = weigh_join x (Branch Always (n + 1) ∷ Mark n ∷ (y ++ Mark (n + 1) ∷ [])) in
      let g = weigh_join (test false n) (x ++ (Branch Always (n + 1) ∷ Mark n ∷ (y ++ Mark (n + 1) ∷ []))) in
      omega arith

  pub int_weight : (n : ℤ) → weight (push_int n) ≡ a
  int_weight n = by_test (is_short n) where
    by_test : (x : Bool) → weight (cond x (Plain (PushInt n)) (Uses PushConstant (IntOf n))) ≡ a
    by_test true = refl
    by_test false = refl

  pub array_weight : (elements : NamedElement) → weight (make_array elements) ≡ a
  array_weight IntElements = refl
  array_weight BooleanElements = refl
  array_weight (ClassElements name) = refl

  pub default_weight : (kind : Kind) → weight (push_default kind) ≡ a
  default_weight Number = refl
  default_weight LongNumber = refl
  default_weight Reference = refl

  pub virtual_weight : i ≤ a + a → (is_interface : Bool) (m : Method) (params : List Ty) (t : Ty) → weight (virtual_call is_interface m params t) ≤ a + a
  virtual_weight h true m params t = h
  virtual_weight h false m params t = omega arith

  pub copy_weight : (place : Place) → weigh (copy_parts place) ≤ a
  copy_weight (LocalAt slot kind) = omega arith
  copy_weight (FieldAt key) = omega arith
  copy_weight (StaticAt key) = omega arith
  copy_weight (ElementAt kind) = omega arith
  copy_weight Nowhere = omega arith

  pub get_weight : (place : Place) → weigh (get_place place) ≤ a
  get_weight (LocalAt slot kind) = omega arith
  get_weight (FieldAt key) = omega arith
  get_weight (StaticAt key) = omega arith
  get_weight (ElementAt kind) = omega arith
  get_weight Nowhere = omega arith

  pub put_weight : (place : Place) → weigh (put_place place) ≤ a
  put_weight (LocalAt slot kind) = omega arith
  put_weight (FieldAt key) = omega arith
  put_weight (StaticAt key) = omega arith
  put_weight (ElementAt kind) = omega arith
  put_weight Nowhere = omega arith

  step_weight : (up : Bool) (place : Place) → weigh (step_place up place) ≤ 5 * a
  step_weight up place =
      let f = weigh_join (get_place place) (Plain (PushInt (pos 1)) ∷ Plain (Binary (step_of up)) ∷ put_place place) in
      let e = weigh_join (copy_parts place) (get_place place ++ (Plain (PushInt (pos 1)) ∷ Plain (Binary (step_of up)) ∷ put_place place)) in
      omega (arith, copy_weight place, get_weight place, put_weight place)

  pub bump_weight : (up : Bool) (place : Place) → weigh (bump_place up place) ≤ 5 * a
  bump_weight up (LocalAt slot Number) = omega arith
  bump_weight up (LocalAt slot LongNumber) = step_weight up (LocalAt slot LongNumber)
  bump_weight up (LocalAt slot Reference) = step_weight up (LocalAt slot Reference)
  bump_weight up (FieldAt key) = step_weight up (FieldAt key)
  bump_weight up (StaticAt key) = step_weight up (StaticAt key)
  bump_weight up (ElementAt kind) = step_weight up (ElementAt kind)
  bump_weight up Nowhere = omega arith
