-- How many fields before each are static as it is, one field more at a time.
use Rattle.std.proofs.Common.{◌≡◌, ℕ, zero, ◌+◌, ◌<◌, ◌≤◌, Bool, true, false, cond, List, [], ◌∷◌, ◌++◌, length, filter, take, get_or, refl, sym, ap, ◌∙◌, subst, arith, length-append, ◌⊎◌, inl, inr}
use Rattle.std.specs.Prelude.{not}
use Rattle.std.proofs.Math.Nat.{eq-or-lt_of_le}
use Rattle.std.proofs.Math.ListN.{get_or-append}
use Rattle.std.proofs.Math.Seq.{get_or-append_seam}
use Rattle.std.proofs.lemmas.List.Filters.{length-filter_more}
use Rattle.std.proofs.lemmas.Option.{slice_get_read, get_or_from_slice_get}
use Rattle.class_form.specs.declared.class_file.ClassFile.{ClassFile}
use Rattle.class_form.specs.declared.member.MemberInfo.{MemberInfo}
use Rattle.jvm_load.specs.FileClasses.{is_static}
use Rattle.jvm_load.specs.Fields.{member_role}
use Rattle.jvm_load.specs.Places.{IsRanked, AreRanked}

-- the element at a place, whatever stands in for one that isn't there
pub at_any : {X : Type 0} (xs : List X) (i : ℕ) (x d : X) → i < length xs → x ≡ get_or xs i x → get_or xs i d ≡ x
at_any xs i x d lt e = get_or_from_slice_get xs i x d (slice_get_read xs (length xs) i x refl lt e)

-- how many of the first n fields are static, or aren't
abbrev pub counted : Bool → List MemberInfo → ℕ → ℕ
counted b fields n = length (filter (member_role b) (take n fields))

-- the ranks of the first n fields
pub record AreFirstRanks (fields : List MemberInfo) (n : ℕ) (ranks : List ℕ) : Type 0 where
  pub count : length ranks ≡ n
  pub each : (i : ℕ) (d : MemberInfo) → i < n → get_or ranks i 0 ≡ counted (is_static (get_or fields i d)) fields i

pub counted_more : (b : Bool) (fields : List MemberInfo) (i : ℕ) (m : MemberInfo) → i < length fields → m ≡ get_or fields i m → counted b fields (i + 1) ≡ counted b fields i + cond (member_role b m) 1 0
counted_more b fields i m lt e = length-filter_more (member_role b) fields i m lt ∙ ap (λ (x : MemberInfo). counted b fields i + cond (member_role b x) 1 0) (sym e)

by_place : (fields : List MemberInfo) (n i : ℕ) (ranks : List ℕ) (m d : MemberInfo) (rank : ℕ) → length ranks ≡ n → n < length fields → m ≡ get_or fields n m → rank ≡ counted (is_static m) fields n → (i ≡ n) ⊎ (i < n)
    → (i < n → get_or ranks i 0 ≡ counted (is_static (get_or fields i d)) fields i) → get_or (ranks ++ rank ∷ []) i 0 ≡ counted (is_static (get_or fields i d)) fields i
by_place fields n i ranks m d rank c within e r (inl same) before =
    let there : length ranks ≡ i = c ∙ sym same in
    let last : get_or (ranks ++ rank ∷ []) i 0 ≡ rank = ap (λ k. get_or (ranks ++ rank ∷ []) k 0) (sym there) ∙ get_or-append_seam ranks rank [] 0 in
    let field : m ≡ get_or fields i d = sym (at_any fields n m d within e) ∙ ap (λ k. get_or fields k d) (sym same) in
    last ∙ r ∙ ap (λ k. counted (is_static m) fields k) (sym same) ∙ ap (λ (x : MemberInfo). counted (is_static x) fields i) field
by_place fields n i ranks m d rank c within e r (inr lt) before =
    let inside : i < length ranks = omega (arith, c) in
    get_or-append ranks (rank ∷ []) 0 i inside ∙ before lt

pub rank_more : (fields : List MemberInfo) (n : ℕ) (ranks : List ℕ) (m : MemberInfo) (rank : ℕ) → n < length fields → m ≡ get_or fields n m → rank ≡ counted (is_static m) fields n → AreFirstRanks fields n ranks → AreFirstRanks fields (n + 1) (ranks ++ rank ∷ [])
rank_more fields n ranks m rank lt e r a = record {
  count = omega (arith, length-append ranks (rank ∷ []), a.count);
  each = λ i d k. by_place fields n i ranks m d rank a.count lt e r (eq-or-lt_of_le (omega arith)) (a.each i d);
}

-- the ranks of the first fields, and how many of them are static, or aren't
pub record RankedSoFar (fields : List MemberInfo) (n : ℕ) (ranks : List ℕ) (statics others : ℕ) : Type 0 where
  pub first : AreFirstRanks fields n ranks
  pub statics_are : statics ≡ counted true fields n
  pub others_are : others ≡ counted false fields n
  pub few_statics : statics ≤ n
  pub few_others : others ≤ n

pub ranks_none : (fields : List MemberInfo) → RankedSoFar fields zero [] zero zero
ranks_none fields = record {
  first = record { count = refl; each = λ i d h. absurd (omega arith) };
  statics_are = refl;
  others_are = refl;
  few_statics = omega arith;
  few_others = omega arith;
}

role_of : (s b : Bool) (m : MemberInfo) → is_static m ≡ s → member_role b m ≡ cond b s (not s)
role_of s true m e = e
role_of s false m e = ap not e

pub rank_of_static : (fields : List MemberInfo) (n : ℕ) (ranks : List ℕ) (m : MemberInfo) (statics others : ℕ) → n < length fields → m ≡ get_or fields n m → is_static m ≡ true → RankedSoFar fields n ranks statics others
    → RankedSoFar fields (n + 1) (ranks ++ statics ∷ []) (statics + 1) others
rank_of_static fields n ranks m statics others lt e s a = record {
  first = rank_more fields n ranks m statics lt e (a.statics_are ∙ ap (λ b. counted b fields n) (sym s)) a.first;
  statics_are = ap (λ k. k + 1) a.statics_are ∙ sym (counted_more true fields n m lt e ∙ ap (λ b. counted true fields n + cond b 1 0) (role_of true true m s));
  others_are = omega (arith, a.others_are, counted_more false fields n m lt e ∙ ap (λ b. counted false fields n + cond b 1 0) (role_of true false m s));
  few_statics = omega (arith, a.few_statics);
  few_others = omega (arith, a.few_others);
}

pub rank_of_other : (fields : List MemberInfo) (n : ℕ) (ranks : List ℕ) (m : MemberInfo) (statics others : ℕ) → n < length fields → m ≡ get_or fields n m → is_static m ≡ false → RankedSoFar fields n ranks statics others
    → RankedSoFar fields (n + 1) (ranks ++ others ∷ []) statics (others + 1)
rank_of_other fields n ranks m statics others lt e s a = record {
  first = rank_more fields n ranks m others lt e (a.others_are ∙ ap (λ b. counted b fields n) (sym s)) a.first;
  statics_are = omega (arith, a.statics_are, counted_more true fields n m lt e ∙ ap (λ b. counted true fields n + cond b 1 0) (role_of false true m s));
  others_are = ap (λ k. k + 1) a.others_are ∙ sym (counted_more false fields n m lt e ∙ ap (λ b. counted false fields n + cond b 1 0) (role_of false false m s));
  few_statics = omega (arith, a.few_statics);
  few_others = omega (arith, a.few_others);
}

pub ranks_all : (fields : List MemberInfo) (n : ℕ) (ranks : List ℕ) (statics others : ℕ) → n ≡ length fields → RankedSoFar fields n ranks statics others → IsRanked fields ranks
ranks_all fields n ranks statics others all a = record {
  count = a.first.count ∙ all;
  each = λ i d lt. a.first.each i d (omega (arith, all));
}

-- the files so far
pub ranked_none : (files : List ClassFile) → AreRanked files zero []
ranked_none files = record { count = refl; each = λ at d h. absurd (omega arith) }

by_file : (files : List ClassFile) (n at : ℕ) (lists : List (List ℕ)) (file d : ClassFile) (ranks : List ℕ) → length lists ≡ n → n < length files → file ≡ get_or files n file → IsRanked file.fields ranks → (at ≡ n) ⊎ (at < n)
    → (at < n → IsRanked (get_or files at d).fields (get_or lists at [])) → IsRanked (get_or files at d).fields (get_or (lists ++ ranks ∷ []) at [])
by_file files n at lists file d ranks c lt e r (inl same) before =
    let there : length lists ≡ at = c ∙ sym same in
    let last : get_or (lists ++ ranks ∷ []) at [] ≡ ranks = ap (λ k. get_or (lists ++ ranks ∷ []) k []) (sym there) ∙ get_or-append_seam lists ranks [] [] in
    let found : file ≡ get_or files at d = sym (at_any files n file d lt e) ∙ ap (λ k. get_or files k d) (sym same) in
    subst (λ (l : List ℕ). IsRanked (get_or files at d).fields l) (sym last) (subst (λ (f : ClassFile). IsRanked f.fields ranks) found r)
by_file files n at lists file d ranks c lt e r (inr less) before =
    let inside : at < length lists = omega (arith, c) in
    subst (λ (l : List ℕ). IsRanked (get_or files at d).fields l) (sym (get_or-append lists (ranks ∷ []) [] at inside)) (before less)

pub ranked_more : (files : List ClassFile) (n : ℕ) (lists : List (List ℕ)) (file : ClassFile) (ranks : List ℕ) → n < length files → file ≡ get_or files n file → AreRanked files n lists → IsRanked file.fields ranks → AreRanked files (n + 1) (lists ++ ranks ∷ [])
ranked_more files n lists file ranks lt e a r = record {
  count = omega (arith, length-append lists (ranks ∷ []), a.count);
  each = λ at d k. by_file files n at lists file d ranks a.count lt e r (eq-or-lt_of_le (omega arith)) (a.each at d);
}

not_true : (b : Bool) → not b ≡ true → b ≡ false
not_true true h = sym h
not_true false h = refl

-- a field is static as it is said to be
pub role_said : (s : Bool) (m : MemberInfo) → member_role s m ≡ true → is_static m ≡ s
role_said true m h = h
role_said false m h = not_true (is_static m) h
