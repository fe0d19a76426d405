-- What is known of what may be made.
use Rattle.std.proofs.Common.{Option, Some, None}
use Rattle.std.specs.Prelude.{option_and_then}
use Rattle.std.specs.Option.{option_map}

-- what is known of what there is, if there is something
abbrev pub OnMade : {A : Type 0} → (A → Type 0) → Option A → Type 0
OnMade P None = Unit {0}
OnMade P (Some x) = P x

pub any_then : {A B : Type 0} (f : A → Option B) (P : B → Type 0) (o : Option A) → ((x : A) → OnMade P (f x)) → OnMade P (option_and_then f o)
any_then f P None h = tt
any_then f P (Some x) h = h x

pub so_then : {A B : Type 0} (f : A → Option B) (P : B → Type 0) (Q : A → Type 0) (o : Option A) → OnMade Q o → ((x : A) → Q x → OnMade P (f x)) → OnMade P (option_and_then f o)
so_then f P Q None q h = tt
so_then f P Q (Some x) q h = h x q

pub any_map : {A B : Type 0} (f : A → B) (P : B → Type 0) (o : Option A) → ((x : A) → P (f x)) → OnMade P (option_map f o)
any_map f P None h = tt
any_map f P (Some x) h = h x

pub so_map : {A B : Type 0} (f : A → B) (P : B → Type 0) (Q : A → Type 0) (o : Option A) → OnMade Q o → ((x : A) → Q x → P (f x)) → OnMade P (option_map f o)
so_map f P Q None q h = tt
so_map f P Q (Some x) q h = h x q
