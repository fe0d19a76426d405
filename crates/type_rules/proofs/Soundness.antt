-- Nodes without a fault: what their rules say, and lists of faults that are empty.
use Rattle.std.proofs.Common.{◌≡◌, ℕ, List, [], ◌∷◌, ◌++◌, Option, Some, None, Bool, true, false, not, refl, sym, ap, ◌∙◌}
use Rattle.std.proofs.lemmas.List.{append_assoc}
use Rattle.std.specs.Prelude.{◌&&◌, ◌||◌, is_some}
use Rattle.std.specs.Option.{option_map, option_map_or, option_and_then}
use Rattle.jp_ast.specs.declared.token.Place.{Place}
use Rattle.type_rules.specs.declared.fault.TypeFault.{TypeFault}
use Rattle.type_rules.specs.Nodes.{Visit}
use Rattle.type_rules.specs.Table.{fault_if, own_faults, faults_of}

-- EMPTY LISTS

pub front_empty : {A : Type 0} (xs ys : List A) → xs ++ ys ≡ [] → xs ≡ []
front_empty [] ys e = refl
front_empty (x ∷ xs) ys e = absurd cc

pub back_empty : {A : Type 0} (xs ys : List A) → xs ++ ys ≡ [] → ys ≡ []
back_empty [] ys e = e
back_empty (x ∷ xs) ys e = absurd cc

pub faults_append : (xs ys : List Visit) → faults_of (xs ++ ys) ≡ faults_of xs ++ faults_of ys
faults_append [] ys = refl
faults_append (x ∷ xs) ys = ap (λ (fs : List TypeFault). own_faults x.place x.node ++ fs) (faults_append xs ys) ∙ sym (append_assoc (own_faults x.place x.node) (faults_of xs) (faults_of ys))

pub front_sound : (xs ys : List Visit) → faults_of (xs ++ ys) ≡ [] → faults_of xs ≡ []
front_sound xs ys e = front_empty (faults_of xs) (faults_of ys) (sym (faults_append xs ys) ∙ e)

pub back_sound : (xs ys : List Visit) → faults_of (xs ++ ys) ≡ [] → faults_of ys ≡ []
back_sound xs ys e = back_empty (faults_of xs) (faults_of ys) (sym (faults_append xs ys) ∙ e)

pub own_sound : (v : Visit) → faults_of (v ∷ []) ≡ [] → own_faults v.place v.node ≡ []
own_sound v e = front_empty (own_faults v.place v.node) [] e

pub kept : (p : Place) (n : ℕ) (b : Bool) → fault_if p n b ≡ [] → b ≡ false
kept p n true e = absurd cc
kept p n false e = refl

-- the first of the rules that are looked at is kept, and then the others
pub first_kept : (p : Place) (n : ℕ) (b : Bool) (rest : List TypeFault) → fault_if p n b ++ rest ≡ [] → b ≡ false
first_kept p n b rest e = kept p n b (front_empty (fault_if p n b) rest e)

pub others_kept : (p : Place) (n : ℕ) (b : Bool) (rest : List TypeFault) → fault_if p n b ++ rest ≡ [] → rest ≡ []
others_kept p n b rest e = back_empty (fault_if p n b) rest e

-- TRUTHS

pub both_left : (a b : Bool) → (a && b) ≡ true → a ≡ true
both_left true b e = refl
both_left false b e = absurd cc

pub or_false_left : (a b : Bool) → (a || b) ≡ false → a ≡ false
or_false_left true b e = absurd cc
or_false_left false b e = refl

pub or_false_right : (a b : Bool) → (a || b) ≡ false → b ≡ false
or_false_right true b e = absurd cc
or_false_right false b e = e

pub not_false : (a : Bool) → not a ≡ false → a ≡ true
not_false true e = refl
not_false false e = absurd cc

pub and_false : (a b : Bool) → a ≡ true → (a && b) ≡ false → b ≡ false
and_false true b t e = e
and_false false b t e = absurd cc

-- what fails where nothing is found doesn't fail, so something is
pub found : {A : Type 0} (test : A → Bool) (o : Option A) → option_map_or test o true ≡ false → is_some o ≡ true
found test None e = absurd cc
found test (Some x) e = refl

pub found_first : {A B : Type 0} (f : A → Option B) (o : Option A) → is_some (option_and_then f o) ≡ true → is_some o ≡ true
found_first f None e = absurd cc
found_first f (Some x) e = refl

pub some_map : {A B : Type 0} (f : A → B) (o : Option A) → is_some o ≡ true → is_some (option_map f o) ≡ true
some_map f None e = absurd cc
some_map f (Some x) e = refl

pub some_then : {A B : Type 0} (f : A → Option B) (o : Option A) → is_some o ≡ true → ((x : A) → is_some (f x) ≡ true) → is_some (option_and_then f o) ≡ true
some_then f None e h = absurd cc
some_then f (Some x) e h = h x
