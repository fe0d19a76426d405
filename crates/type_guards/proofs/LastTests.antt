-- The last test of a path decides its type.
use Rattle.std.proofs.Common.{◌≡◌, ℕ, zero, ◌+◌, ◌<◌, List, [], ◌∷◌, ◌++◌, length, take, get_or, Bool, true, false, Option, Some, None, refl, sym, ap, ◌∙◌}
use Rattle.std.specs.Prelude.{if◌then◌else◌}
use Rattle.std.specs.Option.{option_map_or, option_or}
use Rattle.std.proofs.lemmas.List.{take_more}
use Rattle.jp_pred.specs.declared.ty.Ty.{Ty}
use Rattle.jp_pred.specs.declared.ty.Ty.TheVariants as ty
use Rattle.jp_pred.specs.declared.path.Path.{Path}
use Rattle.jp_pred.specs.Names.{Word}
use Rattle.jp_pred.specs.Paths.{same_path}
use Rattle.type_rules.specs.declared.guard_scope.Narrowed.{Narrowed}
use Rattle.type_rules.specs.GuardPaths.{narrowed}
use Rattle.type_guards.specs.Tests.{last_class}

either : (b : Bool) (o : Option Word) (class : Word) (t : Ty) → option_map_or (λ c. ty.Class c) o (if b then ty.Class class else t) ≡ option_map_or (λ c. ty.Class c) (option_or o (if b then Some class else None)) t
either true None class t = refl
either false None class t = refl
either b (Some c) class t = refl

pub narrowed_is : (tests : List Narrowed) (path : Path) (t : Ty) → narrowed tests path t ≡ option_map_or (λ c. ty.Class c) (last_class tests path) t
narrowed_is [] path t = refl
narrowed_is (test ∷ tests) path t =
    narrowed_is tests path (if same_path test.path path then ty.Class test.class else t) ∙ either (same_path test.path path) (last_class tests path) test.class t

or_three : (a b c : Option Word) → option_or (option_or a b) c ≡ option_or a (option_or b c)
or_three None b c = refl
or_three (Some x) b c = refl

or_nothing : (o : Option Word) → option_or None o ≡ option_or o None
or_nothing None = refl
or_nothing (Some x) = refl

behind : (tests : List Narrowed) (test : Narrowed) (path : Path) → last_class (tests ++ test ∷ []) path ≡ option_or (if same_path test.path path then Some test.class else None) (last_class tests path)
behind [] test path = or_nothing (if same_path test.path path then Some test.class else None)
behind (x ∷ xs) test path =
    ap (λ o. option_or o (if same_path x.path path then Some x.class else None)) (behind xs test path)
    ∙ or_three (if same_path test.path path then Some test.class else None) (last_class xs path) (if same_path x.path path then Some x.class else None)

-- the test at a place, of those up to it
up_to : (tests : List Narrowed) (i : ℕ) (test : Narrowed) (path : Path) → i < length tests → test ≡ get_or tests i test →
    last_class (take (i + 1) tests) path ≡ option_or (if same_path test.path path then Some test.class else None) (last_class (take i tests) path)
up_to tests i test path l e =
    ap (λ ts. last_class ts path) (take_more tests i test l ∙ ap (λ t. take i tests ++ t ∷ []) (sym e)) ∙ behind (take i tests) test path

pub found_test : (tests : List Narrowed) (n i : ℕ) (test : Narrowed) (path : Path) → n ≡ i + 1 → i < length tests → test ≡ get_or tests i test → same_path test.path path ≡ true → Some test.class ≡ last_class (take n tests) path
found_test tests n i test path k l e s =
    sym (ap (λ (j : ℕ). last_class (take j tests) path) k ∙ (up_to tests i test path l e ∙ ap (λ b. option_or (if b then Some test.class else None) (last_class (take i tests) path)) s))

pub other_test : (tests : List Narrowed) (n i : ℕ) (test : Narrowed) (path : Path) → n ≡ i + 1 → i < length tests → test ≡ get_or tests i test → same_path test.path path ≡ false →
    last_class (take i tests) path ≡ last_class (take n tests) path
other_test tests n i test path k l e s =
    sym (ap (λ (j : ℕ). last_class (take j tests) path) k ∙ (up_to tests i test path l e ∙ ap (λ b. option_or (if b then Some test.class else None) (last_class (take i tests) path)) s))

pub no_test : (tests : List Narrowed) (n : ℕ) (path : Path) → n ≡ zero → None ≡ last_class (take n tests) path
no_test tests n path e = sym (ap (λ (j : ℕ). last_class (take j tests) path) e)
