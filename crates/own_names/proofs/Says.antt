-- What is mentioned in type positions is what is named there.
use Rattle.std.proofs.Common.{◌≡◌, List, [], ◌∷◌, ◌++◌, map, refl, sym, ap, ◌∙◌, subst, append_assoc}
use Rattle.std.specs.List.{filter_map, flat_map}
use Rattle.std.proofs.lemmas.List.{map-append}
use Rattle.std.proofs.lemmas.List.Elements.{filter_map-append}
use Rattle.jp_pred.specs.declared.ty.Ty.{Ty}
use Rattle.jp_pred.specs.declared.ty.Ty.TheVariants as ty
use Rattle.jp_pred.specs.Names.{Word}
use Rattle.jp_ast.specs.declared.token.Place.{Place}
use Rattle.type_rules.specs.ClassNames.{Mention, InType, in_type, as_type}
use Rattle.own_names.specs.Naming.{Named, alone, type_names}

-- the mentions in type positions are these names, in this order
abbrev pub Says : List Mention → List Named → Type 0
Says ms ns = filter_map as_type ms ≡ map (λ n. n.class) ns

pub both_say : (a b : List Mention) (x y : List Named) → Says a x → Says b y → Says (a ++ b) (x ++ y)
both_say a b x y h k =
    filter_map-append as_type a b
    ∙ (ap (λ (l : List Word). l ++ filter_map as_type b) h
    ∙ (ap (λ (l : List Word). map (λ (n : Named). n.class) x ++ l) k ∙ sym (map-append (λ (n : Named). n.class) x y)))

pub three_say : (a b c : List Mention) (x y z : List Named) → Says a x → Says b y → Says c z → Says (a ++ (b ++ c)) (x ++ y ++ z)
three_say a b c x y z h k l = subst (λ (ns : List Named). Says (a ++ (b ++ c)) ns) (sym (append_assoc x y z)) (both_say a (b ++ c) x (y ++ z) h (both_say b c y z k l))

pub four_say : (a b c d : List Mention) (x y z w : List Named) → Says a x → Says b y → Says c z → Says d w → Says (a ++ (b ++ (c ++ d))) (x ++ y ++ z ++ w)
four_say a b c d x y z w h k l m = subst (λ (ns : List Named). Says (a ++ (b ++ (c ++ d))) ns) (sym (append_assoc (x ++ y) z w)) (three_say a b (c ++ d) x y (z ++ w) h k (both_say c d z w l m))

pub type_says : (t : Ty) (p : Place) → Says (in_type t) (type_names p t)
type_says ty.Void p = refl
type_says ty.Int p = refl
type_says ty.Boolean p = refl
type_says (ty.Class name) p = refl
type_says ty.IntArray p = refl
type_says ty.BooleanArray p = refl
type_says (ty.ClassArray name) p = refl

-- items one after another
pub all_say : {X : Type 0} (f : X → List Mention) (g : X → List Named) (xs : List X) → ((x : X) → Says (f x) (g x)) → Says (flat_map f xs) (flat_map g xs)
all_say f g [] h = refl
all_say f g (x ∷ xs) h = both_say (f x) (flat_map f xs) (g x) (flat_map g xs) (h x) (all_say f g xs h)

-- classes that are named at one place
pub names_say : (p : Place) (names : List Word) → Says (map InType names) (flat_map (alone p) names)
names_say p [] = refl
names_say p (name ∷ names) = ap (λ (l : List Word). name ∷ l) (names_say p names)
