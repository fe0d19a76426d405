-- Methods that are made from members one by one are those of the class's file.
use Rattle.std.proofs.Common.{◌≡◌, ℕ, zero, suc, ◌+◌, ◌≤◌, ◌<◌, List, [], ◌∷◌, ◌++◌, length, take, get_or, Option, Some, None, refl, sym, ap, ◌∙◌, subst, arith}
use Rattle.std.specs.Prelude.{slice_get}
use Rattle.std.specs.List.{filter_map, cons_option}
use Rattle.std.proofs.lemmas.List.{take_more}
use Rattle.std.proofs.lemmas.Option.{slice_get_read}
use Rattle.class_form.specs.declared.class_file.ClassFile.{ClassFile}
use Rattle.class_form.specs.declared.constant.Const.{Const}
use Rattle.class_form.specs.declared.member.MemberInfo.{MemberInfo}
use Rattle.class_form.specs.Constants.{class_name_at}
use Rattle.jp_pred.specs.declared.hier.Hier.{Hier}
use Rattle.iface_codec.specs.declared.iface.Iface.{Iface}
use Rattle.jp_meaning.specs.declared.unit.TypedMember.{TypedMember}
use Rattle.jp_meaning.specs.declared.unit.TypedClass.{TypedClass}
use Rattle.jp_meaning.specs.Descriptors.{internal_name}
use Rattle.code_asm.specs.Held.{Extends}
use Rattle.gen_body.specs.Members.{member_code}
use Rattle.gen_laws.specs.Compiled.{Name, name_of_part, name_in, IsMethodOf, HasMethod, HasMember}
use Rattle.gen_laws.proofs.Lists.{one_there, not_there}
use Rattle.gen_class.specs.Made.{InClass, IsMade, FirstIs, AreMade, Adds}
use Rattle.gen_class.specs.Members.{AreApart}
use Rattle.gen_class.proofs.Growing.{longer}

filter_push : {A B : Type 0} (f : A → Option B) (xs : List A) (x : A) → filter_map f (xs ++ x ∷ []) ≡ filter_map f xs ++ cons_option (f x) []
filter_push f [] x = refl
filter_push f (y ∷ ys) x = by_first (f y) (filter_push f ys x) where
  by_first : (o : Option _) → filter_map f (ys ++ x ∷ []) ≡ filter_map f ys ++ cons_option (f x) [] → cons_option o (filter_map f (ys ++ x ∷ [])) ≡ cons_option o (filter_map f ys) ++ cons_option (f x) []
  by_first None e = e
  by_first (Some z) e = ap (λ (l : List _). z ∷ l) e

module _ (hier : Hier) (head : Iface) (file : ClassFile) where
  abbrev Made : List TypedMember → List MemberInfo → Type 0
  Made ms xs = AreMade hier head file ms xs

  abbrev Is : TypedMember → MemberInfo → Type 0
  Is m x = IsMade hier head m file x

  -- more methods, of more members
  pub made_more : (ms ns : List TypedMember) (xs ys : List MemberInfo) → Made ms xs → Made ns ys → Made (ms ++ ns) (xs ++ ys)
  made_more [] ns [] ys h k = k
  made_more [] ns (x ∷ xs) ys h k = absurd h
  made_more (m ∷ ms) ns xs ys h k = by_name (λ xs h. made_more ms ns xs ys h k) (name_of_part head m.part) xs h where
    by_name : ((xs : List MemberInfo) → Made ms xs → Made (ms ++ ns) (xs ++ ys)) → (o : Option Name) (xs : List MemberInfo) → FirstIs (Is m) (Made ms) o xs → FirstIs (Is m) (Made (ms ++ ns)) o (xs ++ ys)
    by_name rest None xs h = rest xs h
    by_name rest (Some name) [] h = absurd h
    by_name rest (Some name) (x ∷ xs) h = (h.0, rest xs h.1)

  -- as many methods as there are members with statements
  pub made_count : (ms : List TypedMember) (xs : List MemberInfo) → Made ms xs → length xs ≡ length (filter_map (λ m. name_of_part head m.part) ms)
  made_count [] [] h = refl
  made_count [] (x ∷ xs) h = absurd h
  made_count (m ∷ ms) xs h = by_name (λ xs h. made_count ms xs h) (name_of_part head m.part) xs h where
    by_name : ((xs : List MemberInfo) → Made ms xs → length xs ≡ length (filter_map (λ m. name_of_part head m.part) ms)) → (o : Option Name) (xs : List MemberInfo) → FirstIs (Is m) (Made ms) o xs → length xs ≡ length (cons_option o (filter_map (λ m. name_of_part head m.part) ms))
    by_name rest None xs h = rest xs h
    by_name rest (Some name) [] h = absurd h
    by_name rest (Some name) (x ∷ xs) h = ap suc (rest xs h.1)

  -- the method of a member
  record Found (m : TypedMember) (xs : List MemberInfo) : Type 0 where
    index : ℕ
    method : MemberInfo
    there : slice_get xs index ≡ Some method
    is : Is m method

  behind_first : (m : TypedMember) (x : MemberInfo) (xs : List MemberInfo) → Found m xs → Found m (x ∷ xs)
  behind_first m x xs f = record { index = suc f.index; method = f.method; there = f.there; is = f.is }

  found : (ms : List TypedMember) (xs : List MemberInfo) (i : ℕ) (m : TypedMember) (name : Name) → Made ms xs → slice_get ms i ≡ Some m → name_of_part head m.part ≡ Some name → Found m xs
  found [] xs i m name h e n = not_there (Found m xs) m None refl e
  found (f ∷ ms) xs zero m name h e n = by_name (name_of_part head f.part) (ap (λ (t : TypedMember). name_of_part head t.part) is ∙ n) xs h where
    is : f ≡ m
    is = one_there (Some f) f m refl e

    by_name : (o : Option Name) → o ≡ Some name → (xs : List MemberInfo) → FirstIs (Is f) (Made ms) o xs → Found m xs
    by_name None g xs h = not_there (Found m xs) name None refl g
    by_name (Some other) g [] h = absurd h
    by_name (Some other) g (x ∷ xs) h = record { index = zero; method = x; there = refl; is = subst (λ (t : TypedMember). Is t x) is h.0 }
  found (f ∷ ms) xs (suc i) m name h e n = by_name (λ xs h. found ms xs i m name h e n) (name_of_part head f.part) xs h where
    by_name : ((xs : List MemberInfo) → Made ms xs → Found m xs) → (o : Option Name) (xs : List MemberInfo) → FirstIs (Is f) (Made ms) o xs → Found m xs
    by_name rest None xs h = rest xs h
    by_name rest (Some other) [] h = absurd h
    by_name rest (Some other) (x ∷ xs) h = behind_first m x xs (rest xs h.1)

  -- the member of a method
  record Owned (ms : List TypedMember) (x : MemberInfo) : Type 0 where
    index : ℕ
    member : TypedMember
    there : slice_get ms index ≡ Some member
    named : name_of_part head member.part ≡ Some (name_in file x)

  owned_behind : (m : TypedMember) (ms : List TypedMember) (x : MemberInfo) → Owned ms x → Owned (m ∷ ms) x
  owned_behind m ms x o = record { index = suc o.index; member = o.member; there = o.there; named = o.named }

  owned : (ms : List TypedMember) (xs : List MemberInfo) (j : ℕ) (x : MemberInfo) → Made ms xs → slice_get xs j ≡ Some x → Owned ms x
  owned [] [] j x h e = not_there (Owned [] x) x None refl e
  owned [] (y ∷ ys) j x h e = absurd h
  owned (m ∷ ms) xs j x h e = by_name (λ xs j h e. owned ms xs j x h e) (name_of_part head m.part) xs j h e where
    by_name : ((xs : List MemberInfo) (j : ℕ) → Made ms xs → slice_get xs j ≡ Some x → Owned ms x) → (o : Option Name) (xs : List MemberInfo) (j : ℕ) → FirstIs (Is m) (Made ms) o xs → slice_get xs j ≡ Some x → Owned (m ∷ ms) x
    by_name rest None xs j h e = owned_behind m ms x (rest xs j h e)
    by_name rest (Some name) [] j h e = absurd h
    by_name rest (Some name) (y ∷ ys) zero h e =
        let is : y ≡ x = one_there (Some y) y x refl e in
        record { index = zero; member = m; there = refl; named = subst (λ (t : MemberInfo). name_of_part head m.part ≡ Some (name_in file t)) is h.0.named }
    by_name rest (Some name) (y ∷ ys) (suc j) h e = owned_behind m ms x (rest ys j h.1 e)

  -- members with one name and descriptor are one
  abbrev Apart : List TypedMember → Type 0
  Apart ms =
      (i j : ℕ) (a b : TypedMember) (name : Name) → slice_get ms i ≡ Some a → slice_get ms j ≡ Some b → name_of_part head a.part ≡ Some name → name_of_part head b.part ≡ Some name → i ≡ j

  apart_behind : (m : TypedMember) (ms : List TypedMember) → Apart (m ∷ ms) → Apart ms
  apart_behind m ms apart i j a b name e f g h = omega (arith, apart (suc i) (suc j) a b name e f g h)

  -- the first member's method has another name than those behind it
  not_behind : (m : TypedMember) (ms : List TypedMember) (xs : List MemberInfo) (j : ℕ) (x y : MemberInfo) → Apart (m ∷ ms) → Is m x → Made ms xs → slice_get xs j ≡ Some y → name_in file x ≡ name_in file y → ⊥
  not_behind m ms xs j x y apart is h e same =
      let o = owned ms xs j y h e in
      omega (arith, apart zero (suc o.index) m o.member (name_in file y) refl o.there (is.named ∙ ap (λ (n : Name). Some n) same) o.named)

  once : (ms : List TypedMember) (xs : List MemberInfo) → Apart ms → Made ms xs → (i j : ℕ) (a b : MemberInfo) → slice_get xs i ≡ Some a → slice_get xs j ≡ Some b → name_in file a ≡ name_in file b → i ≡ j
  once [] [] apart h i j a b e f same = not_there (i ≡ j) a None refl e
  once [] (x ∷ xs) apart h i j a b e f same = absurd h
  once (m ∷ ms) xs apart h i j a b e f same = by_name (λ xs h i j e f. once ms xs (apart_behind m ms apart) h i j a b e f same) (name_of_part head m.part) xs h i j e f where
    by_name : ((xs : List MemberInfo) → Made ms xs → (i j : ℕ) → slice_get xs i ≡ Some a → slice_get xs j ≡ Some b → i ≡ j) → (o : Option Name) (xs : List MemberInfo) → FirstIs (Is m) (Made ms) o xs → (i j : ℕ) → slice_get xs i ≡ Some a → slice_get xs j ≡ Some b → i ≡ j
    by_name rest None xs h i j e f = rest xs h i j e f
    by_name rest (Some name) [] h i j e f = absurd h
    by_name rest (Some name) (x ∷ xs) h zero zero e f = refl
    by_name rest (Some name) (x ∷ xs) h zero (suc j) e f =
        let is : Is m a = subst (λ (t : MemberInfo). Is m t) (one_there (Some x) x a refl e) h.0 in
        absurd (not_behind m ms xs j a b apart is h.1 f same)
    by_name rest (Some name) (x ∷ xs) h (suc i) zero e f =
        let is : Is m b = subst (λ (t : MemberInfo). Is m t) (one_there (Some x) x b refl f) h.0 in
        absurd (not_behind m ms xs i b a apart is h.1 e (sym same))
    by_name rest (Some name) (x ∷ xs) h (suc i) (suc j) e f = ap suc (rest xs h.1 i j e f)

  -- code of few items has at most so many
  of_few : (m : TypedMember) (x : MemberInfo) (most : ℕ) → length (member_code hier head m).items ≤ most → Is m x → IsMethodOf hier head m file x most
  of_few m x most few is = record { named = is.named; role = is.role; code = is.code; few = few }

-- the methods of a whole class
module _ (hier : Hier) (c : TypedClass) (file : ClassFile) (made : AreMade hier c.head file c.members file.methods) where
  pub each_has : (most : ℕ) (i : ℕ) (m : TypedMember) (name : Name) → slice_get c.members i ≡ Some m → name_of_part c.head m.part ≡ Some name → length (member_code hier c.head m).items ≤ most → HasMethod hier c.head m file most
  each_has most i m name e n few =
      let f = found hier c.head file c.members file.methods i m name made e n in
      record { index = f.index; method = f.method; there = f.there; is = of_few hier c.head file m f.method most few f.is }

  pub no_others : (j : ℕ) (method : MemberInfo) → slice_get file.methods j ≡ Some method → HasMember c file method
  no_others j method e =
      let o = owned hier c.head file c.members file.methods j method made e in
      record { index = o.index; member = o.member; there = o.there; named = o.named }

  pub none_twice : AreApart c → (i j : ℕ) (a b : MemberInfo) → slice_get file.methods i ≡ Some a → slice_get file.methods j ≡ Some b → name_in file a ≡ name_in file b → i ≡ j
  none_twice apart = once hier c.head file c.members file.methods apart made

-- ONE MEMBER MORE

module _ (ms seen : List TypedMember) (same : seen ≡ ms) (i : ℕ) (m : TypedMember) (within : i < length seen) (is : m ≡ get_or seen i m) where
  next_member : take (i + 1) ms ≡ take i ms ++ m ∷ []
  next_member =
      ap (λ (xs : List TypedMember). take (i + 1) xs) (sym same) ∙ take_more seen i m within ∙ ap (λ (t : TypedMember). take i seen ++ t ∷ []) (sym is)
      ∙ ap (λ (xs : List TypedMember). take i xs ++ m ∷ []) same

  pub there_is : slice_get ms i ≡ Some m
  there_is = subst (λ (xs : List TypedMember). slice_get xs i ≡ Some m) same (slice_get_read seen (length seen) i m refl within is)

  pub member_more : (hier : Hier) (head : Iface) (first last : List Const) (old new : List MemberInfo) → Extends first last → InClass head first (λ file. AreMade hier head file (take i ms) old)
      → InClass head last (Adds hier head m old new) → InClass head last (λ file. AreMade hier head file (take (i + 1) ms) new)
  member_more hier head first last old new e h k file more f this =
      let so_far = longer (λ (file : ClassFile). class_name_at file file.this_class ≡ Some (internal_name head.name) → AreMade hier head file (take i ms) old) first last e h file more f this in
      let a = k file more f this in
      subst (λ (xs : List TypedMember). AreMade hier head file xs new) (sym next_member)
      (subst (λ (xs : List MemberInfo). AreMade hier head file (take i ms ++ m ∷ []) xs) (sym a.added) (made_more hier head file (take i ms) (m ∷ []) old a.more so_far a.made))

  pub kept_more : {B : Type 0} (f : TypedMember → Option B) (old new : List B) → old ≡ filter_map f (take i ms) → new ≡ old ++ cons_option (f m) [] → new ≡ filter_map f (take (i + 1) ms)
  kept_more f old new e n =
      n ∙ ap (λ (xs : List _). xs ++ cons_option (f m) []) e ∙ sym (ap (λ (xs : List TypedMember). filter_map f xs) next_member ∙ filter_push f (take i ms) m)
