-- A kind of one universe as another one has it, where both extend a hierarchy: of the same seen types.
use Rattle.std.proofs.Common.{◌≡◌, ◌≤◌, List, [], ◌∷◌, length, map, true, false, ◌&&◌, Some, ◌⊎◌, inl, inr, refl, sym, ◌∙◌, subst, arith}
use Rattle.jp_pred.specs.declared.hier.SeenClass.{SeenClass}
use Rattle.jp_pred.specs.declared.hier.Hier.{Hier}
use Rattle.jp_pred.specs.declared.ty.Ty.{Ty}
use Rattle.jp_pred.specs.declared.ty.Ty.TheVariants as ty
use Rattle.jp_pred.specs.declared.shape.Kind.{Kind}
use Rattle.jp_pred.specs.declared.shape.Kind.TheVariants as kind
use Rattle.jp_pred.specs.Names.{Word, object, In, here, there}
use Rattle.jp_pred.specs.Hierarchy.{class_named, Ascends, stop, IsBelow, is_below}
use Rattle.jp_pred.specs.Universe.{IsClass, IsInterface, IsSeen, IsUniverse, Extends}
use Rattle.jp_pred.specs.Kinds.{SomeBelow, IsOf, IsConcrete, IsOpen, IsKind}
use Rattle.jp_pred.specs.Truth.{some_below}
use Rattle.jp_pred.proofs.Ascents.{is_below-Decides}
use Rattle.jp_pred.proofs.Visits.{some_same, true_or_false}
use Rattle.jp_pred.proofs.OfTypes.{some_below-Decides}
use Rattle.jp_pred.proofs.Entries.{both, and_true, in_map, split_in}
use Rattle.jp_pred.proofs.Extension.{found_in, find_in, found_up}
use Rattle.jp_pred.proofs.Universes.{interface_above, not_both, linear}
use Rattle.jp_pred.proofs.Searches.{IsListed}
use Rattle.jp_pred.proofs.Agreement.{seen_or_not, below_trans, across, IsSeenType, same_entry}

-- Object and the listed names
abbrev pub all_names : Hier → List Word
all_names hier = object ∷ map (λ c. c.name) hier.classes

-- where some name is below a class, and one is below it there: so for each type that names seen classes
some_over : (u v hier : Hier) (ms ns : List Word) → ((a : Word) → IsSeen hier a → SomeBelow u ms (ty.Class a) → SomeBelow v ns (ty.Class a)) →
    (t : Ty) → IsSeenType hier t → SomeBelow u ms t → SomeBelow v ns t
some_over u v hier ms ns h (ty.Class a) seen s = h a (seen a (inl refl)) s
some_over u v hier ms ns h _ seen s = absurd s

module _ (u v hier : Hier) (valid : IsUniverse hier) (f : Extends u hier) (e : Extends v hier) where
  class_up : (a : Word) → IsClass hier a → IsClass u a
  class_up a k = record { entry = k.entry; found = found_up u hier f a k.entry k.found; kind = k.kind }

  interface_up : (a : Word) → IsInterface hier a → IsInterface v a
  interface_up a k = record { entry = k.entry; found = found_up v hier e a k.entry k.found; kind = k.kind }

  -- the lowest of those classes that are above the name, or Object
  record Lowest (cs : List SeenClass) (a : Word) : Type 0 where
    pub name : Word
    pub is : (name ≡ object) ⊎ IsClass hier name
    pub above : IsBelow u a name
    pub least : (c : SeenClass) → In c cs → c.is_interface ≡ false → IsBelow u a c.name → IsBelow u name c.name

  stays : (c : SeenClass) (cs : List SeenClass) (a : Word) (low : Lowest cs a) → (c.is_interface ≡ false → IsBelow u a c.name → IsBelow u low.name c.name) → Lowest (c ∷ cs) a
  stays c cs a low at = record {
    name = low.name;
    is = low.is;
    above = low.above;
    least = λ d i k r. elim (split_in c d cs i) [
      | inl q ↦ subst (λ (x : SeenClass). x.is_interface ≡ false → IsBelow u a x.name → IsBelow u low.name x.name) q at k r
      | inr j ↦ low.least d j k r
    ];
  }

  goes_down : (c : SeenClass) (cs : List SeenClass) (a : Word) (low : Lowest cs a) → In c hier.classes → c.is_interface ≡ false → IsBelow u a c.name → IsBelow u c.name low.name → Lowest (c ∷ cs) a
  goes_down c cs a low there' class' r under = record {
    name = c.name;
    is = inr (record { entry = c; found = find_in hier.classes c valid.distinct there'; kind = class' });
    above = r;
    least = λ d i k s. elim (split_in c d cs i) [
      | inl q ↦ subst (λ (x : SeenClass). IsBelow u c.name x.name) q (inl stop)
      | inr j ↦ below_trans u f.valid c.name low.name d.name under (low.least d j k s)
    ];
  }

  -- one more class above the name
  lower : (c : SeenClass) (cs : List SeenClass) (a : Word) (low : Lowest cs a) → In c hier.classes → c.is_interface ≡ false → IsBelow u a c.name → Lowest (c ∷ cs) a
  lower c cs a low there' class' r = elim low.is [
    | inl q ↦ goes_down c cs a low there' class' r (inr q)
    | inr k ↦ elim low.above [
      | inr q ↦ goes_down c cs a low there' class' r (inr q)
      | inl s ↦ elim r [
        | inr q ↦ stays c cs a low (λ _ _. inr q)
        | inl t ↦ elim (linear u f.valid s t (class_up low.name k) (class_up c.name (record { entry = c; found = find_in hier.classes c valid.distinct there'; kind = class' }))) [
          | inl x ↦ stays c cs a low (λ _ _. inl x)
          | inr x ↦ goes_down c cs a low there' class' (inl t) (inl x)
        ]
      ]
    ]
  ]

  lowest : (cs : List SeenClass) → ((c : SeenClass) → In c cs → In c hier.classes) → (a : Word) → Lowest cs a
  lowest [] all a = record { name = object; is = inl refl; above = inr refl; least = λ c i. elim i [ ] }
  lowest (c ∷ cs) all a =
      let low = lowest cs (λ d i. all d (there i)) a in
      elim (true_or_false c.is_interface) [
        | inl t ↦ stays c cs a low (λ k. absurd cc)
        | inr class' ↦ elim (true_or_false (is_below u a c.name)) [
          | inl t ↦ lower c cs a low (all c here) class' ((is_below-Decides u a c.name f.valid.free).0 t)
          | inr n ↦ stays c cs a low (λ k r. let t : is_below u a c.name ≡ true = (is_below-Decides u a c.name f.valid.free).1 r in absurd cc)
        ]
      ]

  -- the interfaces among those entries that some of the names is below
  record Faces (cs : List SeenClass) (names : List Word) : Type 0 where
    pub list : List Word
    pub short : length list ≤ length cs
    pub interfaces : (i : Word) → In i list → IsInterface hier i
    pub below : (i : Word) → In i list → SomeBelow u names (ty.Class i)
    pub all : (c : SeenClass) → In c cs → c.is_interface ≡ true → SomeBelow u names (ty.Class c.name) → In c.name list

  one_face : (c : SeenClass) (cs : List SeenClass) (names : List Word) → Faces cs names → In c hier.classes → c.is_interface ≡ true → SomeBelow u names (ty.Class c.name) → Faces (c ∷ cs) names
  one_face c cs names rest there' face s =
      let found' = find_in hier.classes c valid.distinct there' in
      let at : IsInterface hier c.name = record { entry = c; found = found'; kind = face } in record {
        list = c.name ∷ rest.list;
        short = let l : length rest.list ≤ length cs = rest.short in omega arith;
        interfaces = λ i j. elim (split_in c.name i rest.list j) [ inl q ↦ subst (λ (x : Word). IsInterface hier x) q at | inr k ↦ rest.interfaces i k ];
        below = λ i j. elim (split_in c.name i rest.list j) [ inl q ↦ subst (λ (x : Word). SomeBelow u names (ty.Class x)) q s | inr k ↦ rest.below i k ];
        all = λ d i k r. elim (split_in c d cs i) [
          | inl q ↦ subst (λ (x : SeenClass). In x.name (c.name ∷ rest.list)) q here
          | inr j ↦ there (rest.all d j k r)
        ];
      }

  no_face : (c : SeenClass) (cs : List SeenClass) (names : List Word) → Faces cs names → (c.is_interface ≡ true → SomeBelow u names (ty.Class c.name) → ⊥) → Faces (c ∷ cs) names
  no_face c cs names rest never = record {
    list = rest.list;
    short = let l : length rest.list ≤ length cs = rest.short in omega arith;
    interfaces = rest.interfaces;
    below = rest.below;
    all = λ d i k r. elim (split_in c d cs i) [
      | inl q ↦ absurd (subst (λ (x : SeenClass). x.is_interface ≡ true → SomeBelow u names (ty.Class x.name) → ⊥) q never k r)
      | inr j ↦ rest.all d j k r
    ];
  }

  faces : (cs : List SeenClass) → ((c : SeenClass) → In c cs → In c hier.classes) → (names : List Word) → Faces cs names
  faces [] up names = record { list = []; short = omega arith; interfaces = λ i j. elim j [ ]; below = λ i j. elim j [ ]; all = λ c i. elim i [ ] }
  faces (c ∷ cs) up names =
      let rest = faces cs (λ d i. up d (there i)) names in
      let d = some_below-Decides u names (ty.Class c.name) f.valid.free in
      elim (true_or_false (c.is_interface && some_below u names (ty.Class c.name))) [
        | inl t ↦
            let b = both c.is_interface (some_below u names (ty.Class c.name)) t in
            one_face c cs names rest (up c here) b.0 (d.0 b.1)
        | inr n ↦ no_face c cs names rest (λ k s.
            let t : (c.is_interface && some_below u names (ty.Class c.name)) ≡ true = and_true c.is_interface (some_below u names (ty.Class c.name)) k (d.1 s) in
            cc)
      ]

  low : (a : Word) → Lowest hier.classes a
  low a = lowest hier.classes (λ c i. i) a

  face : (names : List Word) → Faces hier.classes names
  face names = faces hier.classes (λ c i. i) names

  seen_low : (a : Word) → IsSeen hier (low a).name
  seen_low a = elim (low a).is [ inl q ↦ inl q | inr k ↦ inr (k.entry, k.found) ]

  -- a class of the universe with interfaces, and what stands for it
  fresh_into : (a : Word) (is : List Word) → ((i : Word) → In i is → IsInterface u i) → (c : Word) → IsSeen hier c → SomeBelow u (a ∷ is) (ty.Class c) → SomeBelow v ((low a).name ∷ (face (a ∷ is)).list) (ty.Class c)
  fresh_into a is known c (inl q) s = ((low a).name, here, inr q)
  fresh_into a is known c (inr k) s =
      let t = found_in c hier.classes k.0 k.1 in
      elim (true_or_false k.0.is_interface) [
        | inl yes' ↦ (
          c,
          there (subst (λ (x : Word). In x (face (a ∷ is)).list) t.1
              ((face (a ∷ is)).all k.0 t.0 yes' (subst (λ (x : Word). SomeBelow u (a ∷ is) (ty.Class x)) (sym t.1) s))),
          inl stop,
        )
        | inr class' ↦
            let low_below : IsBelow u (low a).name c = elim (split_in a s.0 is s.1) [
              | inl q ↦ subst (λ (x : Word). IsBelow u (low a).name x) t.1
                  ((low a).least k.0 t.0 class' (subst (λ (x : Word). IsBelow u a x) (sym t.1) (subst (λ (x : Word). IsBelow u x c) (sym q) s.2)))
              | inr j ↦ elim s.2 [
                | inr q ↦ inr q
                | inl r ↦
                    let at : IsClass hier c = record { entry = k.0; found = k.1; kind = class' } in
                    absurd (not_both u f.valid c (class_up c at) (interface_above u f.valid r (known s.0 j)))
              ]
            ] in
            ((low a).name, here, across u v hier valid f e (low a).name c (seen_low a) low_below)
      ]

  fresh_from : (a : Word) (is : List Word) (c : Word) → SomeBelow v ((low a).name ∷ (face (a ∷ is)).list) (ty.Class c) → SomeBelow u (a ∷ is) (ty.Class c)
  fresh_from a is c s = elim (split_in (low a).name s.0 (face (a ∷ is)).list s.1) [
    | inl q ↦ (
      a,
      here,
      below_trans u f.valid a (low a).name c (low a).above
          (across v u hier valid e f (low a).name c (seen_low a) (subst (λ (x : Word). IsBelow v x c) (sym q) s.2)),
    )
    | inr j ↦
        let w = (face (a ∷ is)).below s.0 j in
        let k = (face (a ∷ is)).interfaces s.0 j in
        (w.0, w.1, below_trans u f.valid w.0 s.0 c w.2 (across v u hier valid e f s.0 c (inr (k.entry, k.found)) s.2))
  ]

  -- no seen class of that name is final
  abbrev IsFreeToExtend : Word → Type 0
  IsFreeToExtend a = (c : SeenClass) → In c hier.classes → c.name ≡ a → c.is_final ≡ true → ⊥

  open_class : (a : Word) → IsFreeToExtend a → (k : IsClass hier (low a).name) → IsOpen v (low a).name
  open_class a free k = elim (true_or_false k.entry.is_final) [
    | inr no' ↦ inr (record { entry = k.entry; found = found_up v hier e (low a).name k.entry k.found; kind = k.kind }, no')
    | inl yes' ↦ elim (low a).above [
      | inr q ↦ inl q
      | inl r ↦
          let t = found_in (low a).name hier.classes k.entry k.found in
          let q : a ≡ k.entry.name = f.valid.final k.entry a (f.keeps k.entry t.0) yes' (subst (λ (x : Word). Ascends u a x) (sym t.1) r) in
          absurd (free k.entry t.0 (sym q) yes')
    ]
  ]

  fresh_valid : (a : Word) (is : List Word) → IsFreeToExtend a → IsKind v (kind.Fresh (low a).name (face (a ∷ is)).list)
  fresh_valid a is free = (
    elim (low a).is [ inl q ↦ inl q | inr k ↦ open_class a free k ],
    (λ i j. interface_up i ((face (a ∷ is)).interfaces i j)),
  )

  unseen_free : (a : Word) → (IsSeen hier a → ⊥) → IsFreeToExtend a
  unseen_free a unseen c i q t = unseen (inr (c, subst (λ (x : Word). class_named x hier.classes ≡ Some c) q (find_in hier.classes c valid.distinct i)))

  open_free : (a : Word) → IsOpen u a → IsFreeToExtend a
  open_free a (inl o) c i q t = valid.no_object (subst (λ (x : Word). In x (map (λ d. d.name) hier.classes)) (q ∙ o) (in_map (λ d. d.name) i))
  open_free a (inr k) c i q t =
      let at : class_named a u.classes ≡ Some c = subst (λ (x : Word). class_named x u.classes ≡ Some c) q (find_in u.classes c f.valid.distinct (f.keeps c i)) in
      let same' : k.0.entry ≡ c = some_same _ _ (sym k.0.found ∙ at) in
      let not_final : c.is_final ≡ false = subst (λ (x : SeenClass). x.is_final ≡ false) same' k.1 in
      cc

  seen_listed : (a : Word) → IsSeen hier a → In a (all_names hier)
  seen_listed a (inl q) = subst (λ (x : Word). In x (all_names hier)) (sym q) here
  seen_listed a (inr s) =
      let t = found_in a hier.classes s.0 s.1 in
      subst (λ (x : Word). In x (all_names hier)) t.1 (there (in_map (λ (c : SeenClass). c.name) t.0))

  fresh_listed : (a : Word) (is : List Word) → IsListed (all_names hier) (length hier.classes) (kind.Fresh (low a).name (face (a ∷ is)).list)
  fresh_listed a is = (
    seen_listed (low a).name (seen_low a),
    ((face (a ∷ is)).short, (λ i j. let k = (face (a ∷ is)).interfaces i j in seen_listed i (inr (k.entry, k.found)))),
  )

  -- the kind as the other universe has it
  pub record Looks (k : Kind) : Type 0 where
    pub kind' : Kind
    pub valid' : IsKind u k → IsKind v kind'
    pub listed : IsListed (all_names hier) (length hier.classes) kind'
    pub null : k ≡ kind.Null → kind' ≡ kind.Null
    pub into : IsKind u k → (t : Ty) → IsSeenType hier t → IsOf u k t → IsOf v kind' t
    pub from : (t : Ty) → IsSeenType hier t → IsOf v kind' t → IsOf u k t

  same_concrete : (a : Word) → IsSeen hier a → IsConcrete u a → IsConcrete v a
  same_concrete a seen (inl q) = inl q
  same_concrete a seen (inr c) =
      let found' : class_named a v.classes ≡ Some c.0.entry = same_entry v hier valid e a seen ∙ (sym (same_entry u hier valid f a seen) ∙ c.0.found) in
      inr (record { entry = c.0.entry; found = found'; kind = c.0.kind }, c.1)

  only_seen : (u' v' : Hier) → Extends u' hier → Extends v' hier → (a : Word) → IsSeen hier a → (c : Word) → SomeBelow u' (a ∷ []) (ty.Class c) → SomeBelow v' (a ∷ []) (ty.Class c)
  only_seen u' v' f' e' a seen c s = elim (split_in a s.0 [] s.1) [
    | inl q ↦ (a, here, across u' v' hier valid f' e' a c seen (subst (λ (x : Word). IsBelow u' x c) (sym q) s.2))
    | inr j ↦ elim j [ ]
  ]

  pub looks : (k : Kind) → Looks k
  looks kind.Null = record { kind' = kind.Null; valid' = λ h. tt; listed = tt; null = λ q. refl; into = λ h t s r. r; from = λ t s r. r }
  looks kind.Array = record { kind' = kind.Array; valid' = λ h. tt; listed = tt; null = λ q. q; into = λ h t s r. r; from = λ t s r. r }
  looks (kind.Known a) = elim (seen_or_not hier a) [
    | inl seen ↦ record {
      kind' = kind.Known a;
      valid' = same_concrete a seen;
      listed = seen_listed a seen;
      null = λ q. q;
      into = λ h. some_over u v hier (a ∷ []) (a ∷ []) (λ c _ s. only_seen u v f e a seen c s);
      from = some_over v u hier (a ∷ []) (a ∷ []) (λ c _ s. only_seen v u e f a seen c s);
    }
    | inr unseen ↦ record {
      kind' = kind.Fresh (low a).name (face (a ∷ [])).list;
      valid' = λ h. fresh_valid a [] (unseen_free a unseen);
      listed = fresh_listed a [];
      null = λ q. absurd cc;
      into = λ h. some_over u v hier (a ∷ []) ((low a).name ∷ (face (a ∷ [])).list) (fresh_into a [] (λ i j. elim j [ ]));
      from = some_over v u hier ((low a).name ∷ (face (a ∷ [])).list) (a ∷ []) (λ c _ s. fresh_from a [] c s);
    }
  ]
  looks (kind.Fresh a is) = record {
    kind' = kind.Fresh (low a).name (face (a ∷ is)).list;
    valid' = λ h. fresh_valid a is (open_free a h.0);
    listed = fresh_listed a is;
    null = λ q. absurd cc;
    into = λ h. some_over u v hier (a ∷ is) ((low a).name ∷ (face (a ∷ is)).list) (fresh_into a is h.1);
    from = some_over v u hier ((low a).name ∷ (face (a ∷ is)).list) (a ∷ is) (λ c _ s. fresh_from a is c s);
  }
