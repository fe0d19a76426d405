-- Ways up in any hierarchy, one with a cycle too: what is above a class is reached within as many steps as there are classes.
use Rattle.std.proofs.Common.{◌≡◌, ℕ, zero, suc, ◌≤◌, List, [], ◌∷◌, ◌++◌, length, map, true, false, ◌⊎◌, inl, inr, refl, sym, ap, subst, arith, ◌∙◌}
use Rattle.std.specs.Option.{option_to_list}
use Rattle.iface_codec.specs.Hierarchy.{hier_of, seen_class}
use Rattle.jp_pred.specs.declared.hier.Hier.{Hier}
use Rattle.jp_pred.specs.Names.{Word, object, same, In, here, there, AreDistinct}
use Rattle.jp_pred.specs.Hierarchy.{parents, Ascends, stop, up, IsBelow, reaches, is_below}
use Rattle.jp_pred.proofs.Lists.{or_cases, or_left, or_right, any_from_in, in_from_any, no_longer}
use Rattle.jp_pred.proofs.Ascents.{same_true, same_refl, ascent_from_reaches, name_there}
use Rattle.type_rules.specs.Laws.{UnderIsBelow, AboveItself}

-- the names that a way up goes through, the last left out
data Way (hier : Hier) : List Word → Word → Word → Type 0 where
  end : {a : Word} → Way hier [] a a
  step : {ns : List Word} {a b c : Word} → In b (parents hier a) → Way hier ns b c → Way hier (a ∷ ns) a c

record Found (hier : Hier) (a b : Word) : Type 0 where
  names : List Word
  way : Way hier names a b
  distinct : AreDistinct names

apart : (a n : Word) (ns : List Word) → same n a ≡ false → (In a ns → ⊥) → In a (n ∷ ns) → ⊥
apart a _ ns e none here = let w : true ≡ false = sym (same_refl a) ∙ e in cc
apart a n ns e none (there i) = none i

else : (a n : Word) (ns : List Word) → same n a ≡ false → In a ns ⊎ (In a ns → ⊥) → In a (n ∷ ns) ⊎ (In a (n ∷ ns) → ⊥)
else a n ns e (inl i) = inl (there i)
else a n ns e (inr none) = inr (apart a n ns e none)

in_or_not : (a : Word) (ns : List Word) → In a ns ⊎ (In a ns → ⊥)
in_or_not a [] = inr (λ i. elim i [ ])
in_or_not a (n ∷ ns) = elim (same n a) as (λ t. same n a ≡ t → In a (n ∷ ns) ⊎ (In a (n ∷ ns) → ⊥)) [
  | true ↦ λ e. inl (subst (λ (x : Word). In x (n ∷ ns)) (same_true n a e) here)
  | false ↦ λ e. else a n ns e (in_or_not a ns)
] refl

-- the rest of a way, from a name that it goes through
from_there : {hier : Hier} {ns : List Word} {b c a : Word} → Way hier ns b c → AreDistinct ns → In a ns → Found hier a c
from_there end d i = elim i [ ]
from_there (step {ns} {a} {b} {c} j w) d here = record { names = a ∷ ns; way = step j w; distinct = d }
from_there (step j w) d (there i) = from_there w d.1 i

-- without its loops
joined : {hier : Hier} {a b c : Word} → In b (parents hier a) → (f : Found hier b c) → In a f.names ⊎ (In a f.names → ⊥) → Found hier a c
joined j f (inl i) = from_there f.way f.distinct i
joined {a = a} j f (inr none) = record { names = a ∷ f.names; way = step j f.way; distinct = (none, f.distinct) }

found : {hier : Hier} {a b : Word} → Ascends hier a b → Found hier a b
found stop = record { names = []; way = end; distinct = tt }
found (up {a} {b} {c} i r) = let f = found r in joined i f (in_or_not a f.names)

way_there : {hier : Hier} {ns : List Word} {a b x : Word} → Way hier ns a b → In x ns → In x (map (λ c. c.name) hier.classes)
way_there end j = elim j [ ]
way_there {hier} (step {ns} {a} {b} {c} i w) here = name_there hier.classes a b i
way_there (step i w) (there j) = way_there w j

reaches_by : {hier : Hier} {ns : List Word} {a b : Word} → Way hier ns a b → (n : ℕ) → length ns ≤ n → reaches n hier a b ≡ true
reaches_by (end {a}) zero h = same_refl a
reaches_by {hier} (end {a}) (suc n) h = or_left (same a a) _ (same_refl a)
reaches_by (step i w) zero h = absurd (omega arith)
reaches_by {hier} (step {ns} {a} {b} {c} i w) (suc n) h = or_right (same a c) _ (any_from_in (λ p. reaches n hier p c) i (reaches_by w n (omega arith)))

length_map : {X Y : Type 0} (f : X → Y) (xs : List X) → length (map f xs) ≡ length xs
length_map f [] = refl
length_map f (x ∷ xs) = ap suc (length_map f xs)

complete : (hier : Hier) (a b : Word) → Ascends hier a b → reaches (length hier.classes) hier a b ≡ true
complete hier a b r =
    let f = found r in
    let short = no_longer f.names (map (λ c. c.name) hier.classes) f.distinct (λ x i. way_there f.way i) in
    let e : length (map (λ c. c.name) hier.classes) ≡ length hier.classes = length_map (λ c. c.name) hier.classes in
    reaches_by f.way (length hier.classes) (omega arith)

below_from : (hier : Hier) (a b : Word) → (same b object ≡ true) ⊎ (reaches (length hier.classes) hier a b ≡ true) → IsBelow hier a b
below_from hier a b (inl e) = inr (same_true b object e)
below_from hier a b (inr r) = inl (ascent_from_reaches (length hier.classes) hier a b r)

to_below : (hier : Hier) (a b : Word) → IsBelow hier a b → is_below hier a b ≡ true
to_below hier a b (inl r) = or_right (same b object) _ (complete hier a b r)
to_below hier a b (inr e) = or_left (same b object) _ (subst (λ (x : Word). same x object ≡ true) (sym e) (same_refl object))

pub under_is_below : UnderIsBelow
under_is_below heads a b = (
  (λ h. below_from (hier_of heads) a b (or_cases (same b object) (reaches (length (hier_of heads).classes) (hier_of heads) a b) h)),
  (λ h. to_below (hier_of heads) a b h),
)

pub above_itself : AboveItself
above_itself d =
    let hier = hier_of d.heads in
    let named = option_to_list d.decl.superclass ++ d.decl.interfaces in
    let e : length hier.classes ≡ length d.heads = length_map seen_class d.heads in (
      (λ h. let f = in_from_any (λ p. reaches (length d.heads) hier p d.decl.name) named h in (f.0, f.1, ascent_from_reaches (length d.heads) hier f.0 d.decl.name f.2)),
      (λ s. any_from_in (λ p. reaches (length d.heads) hier p d.decl.name) s.1 (subst (λ (n : ℕ). reaches n hier s.0 d.decl.name ≡ true) e (complete hier s.0 d.decl.name s.2))),
    )
