-- A field or a method that is read is the one that stands there.
use Rattle.std.proofs.Common.{◌≡◌, ℕ, zero, suc, ◌+◌, ◌<◌, Bool, true, false, not, ◌&&◌, ◌||◌, cond, ltb, List, [], ◌∷◌, ◌++◌, length, Option, Some, None, Ok, refl, sym, ap, subst, ◌∙◌, append_assoc, arith, inl, inr, ◌⊎◌}
use Rattle.std.specs.Prelude.{flat_map, IfSome, is_some}
use Rattle.std.specs.List.{filter, list_all, list_any}
use Rattle.std.proofs.lemmas.Bool.{lt-ltb, ltb-true}
use Rattle.std.proofs.lemmas.List.{append-nil}
use Rattle.std.proofs.lemmas.List.Concat.{flat_map-cons}
use Rattle.class_form.specs.declared.constant.Const.{Const}
use Rattle.class_form.specs.declared.constant.Const.TheVariants.{Utf8}
use Rattle.class_form.specs.declared.member.Attribute.{Attribute}
use Rattle.class_form.specs.declared.member.Code.{Code}
use Rattle.class_form.specs.declared.member.MemberInfo.{MemberInfo}
use Rattle.class_form.specs.WellFormed.{names, is_utf8, is_code_text, is_code, has_code, attribute_fits, attributes_fit, any_code_fits, code_fits, code_count, member_fits}
use Rattle.class_form.specs.Layout.{u2, u4, attribute_bytes, attribute_list_bytes, code_content, member_bytes, IsCodeAttribute, HasAttributes, EncodesMember, EncodesMembers, MemberInRange, CodeInRange}
use Rattle.class_form.proofs.Facts.{both, and_both}
use Rattle.class_reader.specs.declared.members.Held.{Held}
use Rattle.class_reader.specs.Fields.{◌>>=◌, file_edge, u2_at, index_at, many_at}
use Rattle.class_reader.specs.Reading.{content_at, code_at, first_code, kept, held_at, all_held_at, nothing_held, member_at, members_at}
use Rattle.class_reader.proofs.FieldLaws.{IsBytes, bind_ok, chosen, ok_is, Takes, Takes-then, u2_takes, index_takes, u2_again, index_again}
use Rattle.class_reader.proofs.AttributeLaws.{content_takes, code_takes, content_again, code_again, three}
use Rattle.class_reader.proofs.PoolAgain.{index_small}

-- ---- lists that a test cuts

filter_all_step : {X : Type 0} (p : X → Bool) (x : X) (xs : List X) (b : Bool) → p x ≡ b → list_all p (filter p xs) ≡ true → list_all p (cond b (x ∷ filter p xs) (filter p xs)) ≡ true
filter_all_step p x xs true e h = and_both (p x) (list_all p (filter p xs)) e h
filter_all_step p x xs false e h = h

filter_all : {X : Type 0} (p : X → Bool) (xs : List X) → list_all p (filter p xs) ≡ true
filter_all p [] = refl
filter_all p (x ∷ xs) = filter_all_step p x xs (p x) refl (filter_all p xs)

split_step : {X : Type 0} (b : Bool) (x : X) (left right : List X) (n : ℕ) → length left + length right ≡ n → length (cond b (x ∷ left) left) + length (cond (not b) (x ∷ right) right) ≡ suc n
split_step true x left right n h = omega (arith, h)
split_step false x left right n h = omega (arith, h)

pub filter_split : {X : Type 0} (p : X → Bool) (xs : List X) → length (filter p xs) + length (filter (λ x. not (p x)) xs) ≡ length xs
filter_split p [] = refl
filter_split p (x ∷ xs) = split_step (p x) x (filter p xs) (filter (λ y. not (p y)) xs) (length xs) (filter_split p xs)

or_right : (a b : Bool) → b ≡ true → (a || b) ≡ true
or_right true b e = refl
or_right false b e = e

-- a constant that is named stands in the list
pub any_named : (kind : Const → Bool) (cs : List Const) (i : ℕ) → names kind cs i ≡ true → list_any kind cs ≡ true
any_named kind [] i h = absurd cc
any_named kind (c ∷ cs) zero h = rw h refl
any_named kind (c ∷ cs) (suc i) h = or_right (kind c) (list_any kind cs) (any_named kind cs i h)

-- ---- one attribute of a member

-- the code of a member with more attributes, of which `found` are those named `Code`
abbrev CodeAdds : Option Code → Option Code → List Attribute → Type 0
CodeAdds None final found = IsCodeAttribute final found
CodeAdds (Some code) final found = (final ≡ Some code) × (found ≡ [])

-- what these attributes add to what was held
record Adds (cs : List Const) (held final : Held) (all : List Attribute) : Type 0 where
  others : final.attributes ≡ held.attributes ++ filter (λ a. not (is_code cs a)) all
  code : CodeAdds held.code final.code (filter (is_code cs) all)
  fit : list_all (attribute_fits cs) (filter (λ a. not (is_code cs a)) all) ≡ true
  right : any_code_fits cs held.code ≡ true → any_code_fits cs final.code ≡ true
  numbers : IfSome held.code CodeInRange → IfSome final.code CodeInRange

-- an attribute is the member's first code
record IsFirstCode (cs : List Const) (held more : Held) (a : Attribute) : Type 0 where
  code : Code
  named : is_code cs a ≡ true
  none : held.code ≡ None
  some : more.code ≡ Some code
  same : more.attributes ≡ held.attributes
  is : a ≡ record { name = a.name; content = code_content code }
  fits : code_fits cs code ≡ true
  numbers : CodeInRange code

-- an attribute is kept
record IsKept (cs : List Const) (held more : Held) (a : Attribute) : Type 0 where
  named : is_code cs a ≡ false
  is : more ≡ kept held a
  fits : attribute_fits cs a ≡ true

first_code_takes : (cs : List Const) (o : Option Code) (attributes : List Attribute) (bytes rest : List ℕ) (x : Held × List ℕ) → IsBytes rest → first_code cs o attributes bytes rest ≡ Ok x
    → (code : Code) × Takes rest (u4 (length (code_content code)) ++ code_content code) x.1 × (o ≡ None) × (x.0.code ≡ Some code) × (x.0.attributes ≡ attributes) × (code_fits cs code ≡ true) × CodeInRange code
first_code_takes cs None attributes bytes rest x fits e =
    let b = bind_ok (code_at cs rest) (λ code. Ok (record { code = Some code.0; attributes = attributes }, code.1)) x e in
    let t = code_takes cs rest b.0 fits b.1 in
    let made : Held × List ℕ = (record { code = Some b.0.0; attributes = attributes }, b.0.1) in
    let is = ok_is made x b.2 in
    (b.0.0, subst (λ (r : List ℕ). Takes rest (u4 (length (code_content b.0.0)) ++ code_content b.0.0) r) (ap (λ (y : Held × List ℕ). y.1) is) t.0, refl, sym (ap (λ (y : Held × List ℕ). y.0.code) is), sym (ap (λ (y : Held × List ℕ). y.0.attributes) is), t.1, t.2)
first_code_takes cs (Some other) attributes bytes rest x fits e = absurd cc

held_takes : (cs : List Const) (held : Held) (bytes : List ℕ) (x : Held × List ℕ) → IsBytes bytes → held_at cs held bytes ≡ Ok x → (a : Attribute) × Takes bytes (attribute_bytes a) x.1 × (IsFirstCode cs held x.0 a ⊎ IsKept cs held x.0 a)
unfolding held_at attribute_bytes
held_takes cs held bytes x fits e =
    let a = bind_ok (index_at file_edge (names is_utf8 cs) bytes) (λ name. cond (names is_code_text cs name.0) (first_code cs held.code held.attributes bytes name.1) (content_at file_edge name.1 >>= λ content. Ok (kept held (record { name = name.0; content = content.0 }), content.1))) x e in
    let s = index_takes file_edge (names is_utf8 cs) bytes a.0 fits a.1 in
    elim (chosen (names is_code_text cs a.0.0) _ _ (Ok x) a.2) [
      | inl h ↦
          let f = first_code_takes cs held.code held.attributes bytes a.0.1 x s.0.rest_fits h.1 in
          let whole = Takes-then bytes (u2 a.0.0) a.0.1 (u4 (length (code_content f.0)) ++ code_content f.0) x.1 s.0 f.1 in
          let left = subst (λ (t : List ℕ). Takes bytes t x.1) (sym (append_assoc (u2 a.0.0) (u4 (length (code_content f.0))) (code_content f.0))) whole in
          let known : IsFirstCode cs held x.0 (record { name = a.0.0; content = code_content f.0 }) = record { code = f.0; named = h.0; none = f.2; some = f.3; same = f.4; is = refl; fits = f.5; numbers = f.6 } in
          (record { name = a.0.0; content = code_content f.0 }, left, inl known)
      | inr h ↦
          let b = bind_ok (content_at file_edge a.0.1) (λ content. Ok (kept held (record { name = a.0.0; content = content.0 }), content.1)) x h.1 in
          let t = content_takes file_edge a.0.1 b.0 s.0.rest_fits b.1 in
          let made : Held × List ℕ = (kept held (record { name = a.0.0; content = b.0.0 }), b.0.1) in
          let is = ok_is made x b.2 in
          let whole = Takes-then bytes (u2 a.0.0) a.0.1 (u4 (length b.0.0) ++ b.0.0) b.0.1 s.0 t.0 in
          let left = subst (λ (t : List ℕ). Takes bytes t b.0.1) (sym (append_assoc (u2 a.0.0) (u4 (length b.0.0)) b.0.0)) whole in
          let ended = subst (λ (r : List ℕ). Takes bytes (u2 a.0.0 ++ u4 (length b.0.0) ++ b.0.0) r) (ap (λ (y : Held × List ℕ). y.1) is) left in
          let known : IsKept cs held x.0 (record { name = a.0.0; content = b.0.0 }) = record { named = h.0; is = sym (ap (λ (y : Held × List ℕ). y.0) is); fits = and_both (names is_utf8 cs a.0.0) (ltb (length b.0.0) 4294967296) s.1 (lt-ltb _ _ t.1) } in
          (record { name = a.0.0; content = b.0.0 }, ended, inr known)
    ]

-- ---- all attributes of a member

none_added : (o : Option Code) → CodeAdds o o []
none_added None = refl
none_added (Some code) = (refl, refl)

code_added : (o m final : Option Code) (found : List Attribute) (a : Attribute) (code : Code) → o ≡ None → m ≡ Some code → a ≡ record { name = a.name; content = code_content code } → CodeAdds m final found → CodeAdds o final (a ∷ found)
code_added (Some other) m final found a code none some is adds = absurd cc
code_added None None final found a code none some is adds = absurd cc
code_added None (Some c) final found a code none some is adds =
    let same : c ≡ code = cc in
    let final-is = adds.0 in
    let nothing = adds.1 in
    let one : a ∷ found ≡ record { name = a.name; content = code_content c } ∷ [] = ap (λ (r : List Attribute). a ∷ r) nothing ∙ ap (λ (b : Attribute). b ∷ []) is ∙ ap (λ (k : Code). record { name = a.name; content = code_content k } ∷ []) (sym same) in
    subst (λ (o : Option Code). IsCodeAttribute o (a ∷ found)) (sym final-is) (a.name, one)

first_adds : (cs : List Const) (held more final : Held) (a : Attribute) (all : List Attribute) → IsFirstCode cs held more a → Adds cs more final all → Adds cs held final (a ∷ all)
first_adds cs held more final a all first adds =
    let named = first.named in
    record {
      others = rw named (adds.others ∙ ap (λ (list : List Attribute). list ++ filter (λ b. not (is_code cs b)) all) first.same);
      code = rw named (code_added held.code more.code final.code (filter (is_code cs) all) a first.code first.none first.some first.is adds.code);
      fit = rw named adds.fit;
      right = λ h. adds.right (subst (λ (o : Option Code). any_code_fits cs o ≡ true) (sym first.some) first.fits);
      numbers = λ h. adds.numbers (subst (λ (o : Option Code). IfSome o CodeInRange) (sym first.some) first.numbers);
    }

kept_adds : (cs : List Const) (held final : Held) (a : Attribute) (all : List Attribute) → is_code cs a ≡ false → attribute_fits cs a ≡ true → Adds cs (kept held a) final all → Adds cs held final (a ∷ all)
kept_adds cs held final a all named fits adds =
    record {
      others = rw named (adds.others ∙ append_assoc held.attributes (a ∷ []) (filter (λ b. not (is_code cs b)) all));
      code = rw named adds.code;
      fit = rw named (and_both (attribute_fits cs a) (list_all (attribute_fits cs) (filter (λ b. not (is_code cs b)) all)) fits adds.fit);
      right = adds.right;
      numbers = adds.numbers;
    }

one_adds : (cs : List Const) (held more final : Held) (a : Attribute) (all : List Attribute) → (IsFirstCode cs held more a ⊎ IsKept cs held more a) → Adds cs more final all → Adds cs held final (a ∷ all)
one_adds cs held more final a all (inl first) adds = first_adds cs held more final a all first adds
one_adds cs held more final a all (inr k) adds = kept_adds cs held final a all k.named k.fits (subst (λ (m : Held). Adds cs m final all) k.is adds)

all_held_take : (cs : List Const) (n : ℕ) (held : Held) (bytes : List ℕ) (x : Held × List ℕ) → IsBytes bytes → all_held_at cs held n bytes ≡ Ok x → (all : List Attribute) × Takes bytes (flat_map attribute_bytes all) x.1 × (length all ≡ n) × Adds cs held x.0 all
unfolding all_held_at
all_held_take cs zero held bytes x fits e =
    let start : Adds cs held held [] = record { others = sym (append-nil held.attributes); code = none_added held.code; fit = refl; right = λ h. h; numbers = λ h. h } in
    subst (λ (y : Held × List ℕ). (all : List Attribute) × Takes bytes (flat_map attribute_bytes all) y.1 × (length all ≡ 0) × Adds cs held y.0 all) (ok_is (held, bytes) x e) ([], record { parts = refl; rest_fits = fits }, refl, start)
all_held_take cs (suc n) held bytes x fits e =
    let a = bind_ok (held_at cs held bytes) (λ more. all_held_at cs more.0 n more.1) x e in
    let first = held_takes cs held bytes a.0 fits a.1 in
    let second = all_held_take cs n a.0.0 a.0.1 x first.1.rest_fits a.2 in
    let whole = Takes-then bytes (attribute_bytes first.0) a.0.1 (flat_map attribute_bytes second.0) x.1 first.1 second.1 in
    (first.0 ∷ second.0, rw flat_map-cons whole, ap suc second.2, one_adds cs held a.0.0 x.0 first.0 second.0 first.2 second.3)

-- ---- members

code_counted : (code : Option Code) (found : List Attribute) → IsCodeAttribute code found → length found ≡ code_count code
code_counted None found is = ap length is
code_counted (Some code) found is = ap length is.1

code_there : (cs : List Const) (code : Option Code) (found : List Attribute) → IsCodeAttribute code found → list_all (is_code cs) found ≡ true → is_some code ≡ true → list_any is_code_text cs ≡ true
code_there cs None found is all has = absurd cc
code_there cs (Some code) found is all has =
    let one = subst (λ (f : List Attribute). list_all (is_code cs) f ≡ true) is.1 all in
    let named = both (names is_code_text cs is.0) true one in
    any_named is_code_text cs is.0 named.0

-- what is known of a member that was read
pub record IsMember (cs : List Const) (m : MemberInfo) (text : List ℕ) : Type 0 where
  pub encodes : EncodesMember cs m text
  pub fits : member_fits cs m ≡ true
  pub named : has_code m ≡ true → list_any is_code_text cs ≡ true

member_is : (cs : List Const) (flags name descriptor : ℕ) (held : Held) (all : List Attribute) → flags < 65536 → names is_utf8 cs name ≡ true → names is_utf8 cs descriptor ≡ true → length all < 65536 → Adds cs nothing_held held all
    → IsMember cs (record { flags = flags; name = name; descriptor = descriptor; code = held.code; attributes = held.attributes }) (member_bytes (record { flags = flags; name = name; descriptor = descriptor; code = held.code; attributes = held.attributes }) all)
member_is cs flags name descriptor held all small named typed few adds =
    let kept-are : filter (λ a. not (is_code cs a)) all ≡ held.attributes = sym adds.others in
    let counted = code_counted held.code (filter (is_code cs) all) adds.code in
    let sum = filter_split (is_code cs) all in
    let len : length (filter (λ a. not (is_code cs a)) all) ≡ length held.attributes = ap length kept-are in
    let right = adds.right refl in
    let count : ltb (code_count held.code + length held.attributes) 65536 ≡ true = lt-ltb _ _ (omega (arith, counted, sum, len, few)) in
    let fit : list_all (attribute_fits cs) held.attributes ≡ true = subst (λ (list : List Attribute). list_all (attribute_fits cs) list ≡ true) kept-are adds.fit in
    let none : list_all (λ a. not (is_code cs a)) held.attributes ≡ true = subst (λ (list : List Attribute). list_all (λ a. not (is_code cs a)) list ≡ true) kept-are (filter_all (λ a. not (is_code cs a)) all) in
    let p = and_both (names is_utf8 cs name) (names is_utf8 cs descriptor) named typed in
    let q = and_both (names is_utf8 cs name && names is_utf8 cs descriptor) (any_code_fits cs held.code) p right in
    let r = and_both (names is_utf8 cs name && names is_utf8 cs descriptor && any_code_fits cs held.code) (attributes_fit cs (code_count held.code) held.attributes) q (and_both (ltb (code_count held.code + length held.attributes) 65536) (list_all (attribute_fits cs) held.attributes) count fit) in
    record {
      encodes = record { all = all; has_attributes = record { code_attribute = adds.code; others = kept-are }; spelled = refl; numbers = record { flags = small; code = adds.numbers tt } };
      fits = and_both (names is_utf8 cs name && names is_utf8 cs descriptor && any_code_fits cs held.code && attributes_fit cs (code_count held.code) held.attributes) (list_all (λ a. not (is_code cs a)) held.attributes) r none;
      named = λ has. code_there cs held.code (filter (is_code cs) all) adds.code (filter_all (is_code cs) all) has;
    }

pub member_takes : (cs : List Const) (bytes : List ℕ) (x : MemberInfo × List ℕ) → IsBytes bytes → member_at cs bytes ≡ Ok x → (text : List ℕ) × Takes bytes text x.1 × IsMember cs x.0 text
unfolding member_at member_bytes attribute_list_bytes
member_takes cs bytes x fits e =
    let a = bind_ok (u2_at file_edge bytes) (λ flags. index_at file_edge (names is_utf8 cs) flags.1 >>= λ name. index_at file_edge (names is_utf8 cs) name.1 >>= λ descriptor. u2_at file_edge descriptor.1 >>= λ count. all_held_at cs nothing_held count.0 count.1 >>= λ held. Ok (record { flags = flags.0; name = name.0; descriptor = descriptor.0; code = held.0.code; attributes = held.0.attributes }, held.1)) x e in
    let b = bind_ok (index_at file_edge (names is_utf8 cs) a.0.1) (λ name. index_at file_edge (names is_utf8 cs) name.1 >>= λ descriptor. u2_at file_edge descriptor.1 >>= λ count. all_held_at cs nothing_held count.0 count.1 >>= λ held. Ok (record { flags = a.0.0; name = name.0; descriptor = descriptor.0; code = held.0.code; attributes = held.0.attributes }, held.1)) x a.2 in
    let c = bind_ok (index_at file_edge (names is_utf8 cs) b.0.1) (λ descriptor. u2_at file_edge descriptor.1 >>= λ count. all_held_at cs nothing_held count.0 count.1 >>= λ held. Ok (record { flags = a.0.0; name = b.0.0; descriptor = descriptor.0; code = held.0.code; attributes = held.0.attributes }, held.1)) x b.2 in
    let d = bind_ok (u2_at file_edge c.0.1) (λ count. all_held_at cs nothing_held count.0 count.1 >>= λ held. Ok (record { flags = a.0.0; name = b.0.0; descriptor = c.0.0; code = held.0.code; attributes = held.0.attributes }, held.1)) x c.2 in
    let f = bind_ok (all_held_at cs nothing_held d.0.0 d.0.1) (λ held. Ok (record { flags = a.0.0; name = b.0.0; descriptor = c.0.0; code = held.0.code; attributes = held.0.attributes }, held.1)) x d.2 in
    let ta = u2_takes file_edge bytes a.0 fits a.1 in
    let tb = index_takes file_edge (names is_utf8 cs) a.0.1 b.0 ta.0.rest_fits b.1 in
    let tc = index_takes file_edge (names is_utf8 cs) b.0.1 c.0 tb.0.rest_fits c.1 in
    let td = u2_takes file_edge c.0.1 d.0 tc.0.rest_fits d.1 in
    let tf = all_held_take cs d.0.0 nothing_held d.0.1 f.0 td.0.rest_fits f.1 in
    let all = tf.0 in
    let list = Takes-then c.0.1 (u2 d.0.0) d.0.1 (flat_map attribute_bytes all) f.0.1 td.0 tf.1 in
    let counted = subst (λ (k : ℕ). Takes c.0.1 (u2 k ++ flat_map attribute_bytes all) f.0.1) (sym tf.2) list in
    let e1 = Takes-then bytes (u2 a.0.0) a.0.1 (u2 b.0.0) b.0.1 ta.0 tb.0 in
    let e2 = Takes-then bytes (u2 a.0.0 ++ u2 b.0.0) b.0.1 (u2 c.0.0) c.0.1 e1 tc.0 in
    let whole = Takes-then bytes (u2 a.0.0 ++ u2 b.0.0 ++ u2 c.0.0) c.0.1 (u2 (length all) ++ flat_map attribute_bytes all) f.0.1 e2 counted in
    let made : MemberInfo × List ℕ = (record { flags = a.0.0; name = b.0.0; descriptor = c.0.0; code = f.0.0.code; attributes = f.0.0.attributes }, f.0.1) in
    let known = member_is cs a.0.0 b.0.0 c.0.0 f.0.0 all ta.1 tb.1 tc.1 (omega (arith, tf.2, td.1)) tf.3 in
    subst (λ (y : MemberInfo × List ℕ). (text : List ℕ) × Takes bytes text y.1 × IsMember cs y.0 text) (ok_is made x f.2) (member_bytes made.0 all, whole, known)

-- what is known of members that were read
pub record AreMembers (cs : List Const) (ms : List MemberInfo) (text : List ℕ) : Type 0 where
  pub encodes : EncodesMembers cs ms text
  pub fits : list_all (member_fits cs) ms ≡ true
  pub named : list_any has_code ms ≡ true → list_any is_code_text cs ≡ true

either : (a b : Bool) {P : Type 0} → (a ≡ true → P) → (b ≡ true → P) → (a || b) ≡ true → P
either true b f g e = f refl
either false b f g e = g e

many_members_take : (cs : List Const) (n : ℕ) (bytes : List ℕ) (x : List MemberInfo × List ℕ) → IsBytes bytes → many_at (member_at cs) n bytes ≡ Ok x → (text : List ℕ) × Takes bytes text x.1 × (length x.0 ≡ n) × AreMembers cs x.0 text
unfolding many_at
many_members_take cs zero bytes x fits e =
    let none : AreMembers cs [] [] = record { encodes = refl; fits = refl; named = λ h. absurd cc } in
    subst (λ (y : List MemberInfo × List ℕ). (text : List ℕ) × Takes bytes text y.1 × (length y.0 ≡ 0) × AreMembers cs y.0 text) (ok_is ([], bytes) x e) ([], record { parts = refl; rest_fits = fits }, refl, none)
many_members_take cs (suc n) bytes x fits e =
    let a = bind_ok (member_at cs bytes) (λ first. many_at (member_at cs) n first.1 >>= λ others. Ok (first.0 ∷ others.0, others.1)) x e in
    let b = bind_ok (many_at (member_at cs) n a.0.1) (λ others. Ok (a.0.0 ∷ others.0, others.1)) x a.2 in
    let first = member_takes cs bytes a.0 fits a.1 in
    let second = many_members_take cs n a.0.1 b.0 first.1.rest_fits b.1 in
    let whole = Takes-then bytes first.0 a.0.1 second.0 b.0.1 first.1 second.1 in
    let made : List MemberInfo × List ℕ = (a.0.0 ∷ b.0.0, b.0.1) in
    let known : AreMembers cs (a.0.0 ∷ b.0.0) (first.0 ++ second.0) = record {
      encodes = (first.0, second.0, first.2.encodes, second.3.encodes, refl);
      fits = and_both (member_fits cs a.0.0) (list_all (member_fits cs) b.0.0) first.2.fits second.3.fits;
      named = either (has_code a.0.0) (list_any has_code b.0.0) first.2.named second.3.named;
    } in
    subst (λ (y : List MemberInfo × List ℕ). (text : List ℕ) × Takes bytes text y.1 × (length y.0 ≡ suc n) × AreMembers cs y.0 text) (ok_is made x b.2) (first.0 ++ second.0, whole, ap suc second.2, known)

pub members_take : (cs : List Const) (bytes : List ℕ) (x : List MemberInfo × List ℕ) → IsBytes bytes → members_at cs bytes ≡ Ok x → (text : List ℕ) × Takes bytes (u2 (length x.0) ++ text) x.1 × (ltb (length x.0) 65536 ≡ true) × AreMembers cs x.0 text
unfolding members_at
members_take cs bytes x fits e =
    let a = bind_ok (u2_at file_edge bytes) (λ count. many_at (member_at cs) count.0 count.1) x e in
    let s = u2_takes file_edge bytes a.0 fits a.1 in
    let t = many_members_take cs a.0.0 a.0.1 x s.0.rest_fits a.2 in
    let whole = Takes-then bytes (u2 a.0.0) a.0.1 t.0 x.1 s.0 t.1 in
    (t.0, subst (λ (k : ℕ). Takes bytes (u2 k ++ t.0) x.1) (sym t.2) whole, lt-ltb _ _ (omega (arith, t.2, s.1)), t.3)

-- ---- what stands there is read again

utf8_code : (c : Const) → is_code_text c ≡ true → is_utf8 c ≡ true
utf8_code (Utf8 text) h = refl
utf8_code _ h = absurd cc

code_is_utf8 : (cs : List Const) (i : ℕ) → names is_code_text cs i ≡ true → names is_utf8 cs i ≡ true
code_is_utf8 [] i h = absurd cc
code_is_utf8 (c ∷ cs) zero h = utf8_code c h
code_is_utf8 (c ∷ cs) (suc i) h = code_is_utf8 cs i h

abbrev holds : Option Code → List Attribute → Held
holds code attributes = record { code = code; attributes = attributes }

held_code_again : (cs : List Const) (attributes : List Attribute) (name : ℕ) (c : Code) (rest : List ℕ) → length cs < 65536 → names is_code_text cs name ≡ true → code_fits cs c ≡ true → CodeInRange c
    → held_at cs (holds None attributes) (attribute_bytes (record { name = name; content = code_content c }) ++ rest) ≡ Ok (holds (Some c) attributes, rest)
unfolding held_at attribute_bytes
held_code_again cs attributes name c rest few named fits numbers =
    let text = code_is_utf8 cs name named in
    ap (held_at cs (holds None attributes)) (three (u2 name) (u4 (length (code_content c))) (code_content c) rest)
    ∙ rw (index_again file_edge (names is_utf8 cs) name (u4 (length (code_content c)) ++ (code_content c ++ rest)) text (index_small is_utf8 cs name few text) (omega arith), named, code_again cs c rest few fits numbers) refl

held_kept_again : (cs : List Const) (o : Option Code) (attributes : List Attribute) (a : Attribute) (rest : List ℕ) → length cs < 65536 → is_code cs a ≡ false → attribute_fits cs a ≡ true
    → held_at cs (holds o attributes) (attribute_bytes a ++ rest) ≡ Ok (holds o (attributes ++ a ∷ []), rest)
unfolding held_at attribute_bytes
held_kept_again cs o attributes a rest few named fits =
    let b = both (names is_utf8 cs a.name) (ltb (length a.content) 4294967296) fits in
    ap (held_at cs (holds o attributes)) (three (u2 a.name) (u4 (length a.content)) a.content rest)
    ∙ rw (index_again file_edge (names is_utf8 cs) a.name (u4 (length a.content) ++ (a.content ++ rest)) b.0 (index_small is_utf8 cs a.name few b.0) (omega arith), named, content_again file_edge a.content rest (ltb-true _ _ b.1) (omega arith)) refl

nothing_more : (o final : Option Code) → CodeAdds o final [] → o ≡ final
nothing_more None None adds = refl
nothing_more None (Some c) adds = let e = adds.1 in absurd cc
nothing_more (Some c) final adds = sym adds.0

-- one attribute, and the others behind it; `found` and `others` are those of them that are named `Code`, and those that aren't
held_step : (cs : List Const) (final : Option Code) (a : Attribute) (n : ℕ) (found others : List Attribute) (o : Option Code) (attributes : List Attribute) (more rest : List ℕ) (b : Bool) → is_code cs a ≡ b → length cs < 65536
    → CodeAdds o final (cond b (a ∷ found) found) → any_code_fits cs final ≡ true → IfSome final CodeInRange → list_all (attribute_fits cs) (cond (not b) (a ∷ others) others) ≡ true
    → ((o' : Option Code) (attributes' : List Attribute) → CodeAdds o' final found → list_all (attribute_fits cs) others ≡ true → all_held_at cs (holds o' attributes') n more ≡ Ok (holds final (attributes' ++ others), rest))
    → (held_at cs (holds o attributes) (attribute_bytes a ++ more) >>= λ x. all_held_at cs x.0 n x.1) ≡ Ok (holds final (attributes ++ cond (not b) (a ∷ others) others), rest)
held_step cs final a n found others (Some c) attributes more rest true named few adds fits numbers right ih = let e = adds.1 in absurd cc
held_step cs None a n found others None attributes more rest true named few adds fits numbers right ih = absurd cc
held_step cs (Some c) a n found others None attributes more rest true named few adds fits numbers right ih =
    let e = adds.1 in
    let a-is : a ≡ record { name = adds.0; content = code_content c } = cc in
    let none : found ≡ [] = cc in
    let named' : names is_code_text cs adds.0 ≡ true = subst (λ (x : Attribute). is_code cs x ≡ true) a-is named in
    let first : held_at cs (holds None attributes) (attribute_bytes a ++ more) ≡ Ok (holds (Some c) attributes, more) = subst (λ (x : Attribute). held_at cs (holds None attributes) (attribute_bytes x ++ more) ≡ Ok (holds (Some c) attributes, more)) (sym a-is) (held_code_again cs attributes adds.0 c more few named' fits numbers) in
    rw first (ih (Some c) attributes (refl, none) right)
held_step cs final a n found others o attributes more rest false named few adds fits numbers right ih =
    let b = both (attribute_fits cs a) (list_all (attribute_fits cs) others) right in
    rw (held_kept_again cs o attributes a more few named b.0)
    (ih o (attributes ++ a ∷ []) adds b.1 ∙ ap (λ (list : List Attribute). Ok (holds final list, rest)) (append_assoc attributes (a ∷ []) others))

all_held_again : (cs : List Const) (final : Option Code) (all : List Attribute) (o : Option Code) (attributes : List Attribute) (rest : List ℕ) → length cs < 65536 → any_code_fits cs final ≡ true → IfSome final CodeInRange → CodeAdds o final (filter (is_code cs) all) → list_all (attribute_fits cs) (filter (λ a. not (is_code cs a)) all) ≡ true
    → all_held_at cs (holds o attributes) (length all) (flat_map attribute_bytes all ++ rest) ≡ Ok (holds final (attributes ++ filter (λ a. not (is_code cs a)) all), rest)
unfolding all_held_at
all_held_again cs final [] o attributes rest few fits numbers adds right =
    ap (λ (k : Option Code). Ok (holds k attributes, rest)) (nothing_more o final adds) ∙ ap (λ (list : List Attribute). Ok (holds final list, rest)) (sym (append-nil attributes))
all_held_again cs final (a ∷ all) o attributes rest few fits numbers adds right =
    let more = flat_map attribute_bytes all ++ rest in
    let regrouped : flat_map attribute_bytes (a ∷ all) ++ rest ≡ attribute_bytes a ++ more = ap (λ (x : List ℕ). x ++ rest) (flat_map-cons attribute_bytes a all) ∙ append_assoc (attribute_bytes a) (flat_map attribute_bytes all) rest in
    ap (all_held_at cs (holds o attributes) (suc (length all))) regrouped
    ∙ held_step cs final a (length all) (filter (is_code cs) all) (filter (λ x. not (is_code cs x)) all) o attributes more rest (is_code cs a) refl few adds fits numbers right (λ o' attributes' adds' right'. all_held_again cs final all o' attributes' rest few fits numbers adds' right')

five : (a b c k x r : List ℕ) → a ++ b ++ c ++ (k ++ x) ++ r ≡ a ++ (b ++ (c ++ (k ++ (x ++ r))))
five a b c k x r = simp append_assoc

member_again : (cs : List Const) (m : MemberInfo) (all : List Attribute) (rest : List ℕ) → length cs < 65536 → member_fits cs m ≡ true → HasAttributes cs m.code m.attributes all → MemberInRange m → member_at cs (member_bytes m all ++ rest) ≡ Ok (m, rest)
unfolding member_at member_bytes attribute_list_bytes
member_again cs m all rest few h has numbers =
    let p = both (names is_utf8 cs m.name && names is_utf8 cs m.descriptor && any_code_fits cs m.code && attributes_fit cs (code_count m.code) m.attributes) (list_all (λ a. not (is_code cs a)) m.attributes) h in
    let q = both (names is_utf8 cs m.name && names is_utf8 cs m.descriptor && any_code_fits cs m.code) (attributes_fit cs (code_count m.code) m.attributes) p.0 in
    let s = both (names is_utf8 cs m.name && names is_utf8 cs m.descriptor) (any_code_fits cs m.code) q.0 in
    let t = both (names is_utf8 cs m.name) (names is_utf8 cs m.descriptor) s.0 in
    let u = both (ltb (code_count m.code + length m.attributes) 65536) (list_all (attribute_fits cs) m.attributes) q.1 in
    let counted = code_counted m.code (filter (is_code cs) all) has.code_attribute in
    let sum = filter_split (is_code cs) all in
    let len : length (filter (λ a. not (is_code cs a)) all) ≡ length m.attributes = ap length has.others in
    let small : length all < 65536 = omega (arith, counted, sum, len, ltb-true (code_count m.code + length m.attributes) 65536 u.0) in
    let right : list_all (attribute_fits cs) (filter (λ a. not (is_code cs a)) all) ≡ true = subst (λ (list : List Attribute). list_all (attribute_fits cs) list ≡ true) (sym has.others) u.1 in
    let list = flat_map attribute_bytes all in
    let held = all_held_again cs m.code all None [] rest few s.1 numbers.code has.code_attribute right in
    ap (member_at cs) (five (u2 m.flags) (u2 m.name) (u2 m.descriptor) (u2 (length all)) list rest)
    ∙ rw (
      u2_again file_edge m.flags (u2 m.name ++ (u2 m.descriptor ++ (u2 (length all) ++ (list ++ rest)))) numbers.flags (omega arith),
      index_again file_edge (names is_utf8 cs) m.name (u2 m.descriptor ++ (u2 (length all) ++ (list ++ rest))) t.0 (index_small is_utf8 cs m.name few t.0) (omega arith),
      index_again file_edge (names is_utf8 cs) m.descriptor (u2 (length all) ++ (list ++ rest)) t.1 (index_small is_utf8 cs m.descriptor few t.1) (omega arith),
      u2_again file_edge (length all) (list ++ rest) small (omega arith),
      held,
      has.others,
    ) refl

many_members_again : (cs : List Const) (ms : List MemberInfo) (text rest : List ℕ) → length cs < 65536 → list_all (member_fits cs) ms ≡ true → EncodesMembers cs ms text → many_at (member_at cs) (length ms) (text ++ rest) ≡ Ok (ms, rest)
unfolding many_at
many_members_again cs [] text rest few h encodes = ap (λ (t : List ℕ). Ok ([], t ++ rest)) encodes
many_members_again cs (m ∷ more) text rest few h encodes =
    let b = both (member_fits cs m) (list_all (member_fits cs) more) h in
    let front = encodes.0 in
    let back = encodes.1 in
    let one = encodes.2 in
    let regrouped : text ++ rest ≡ front ++ (back ++ rest) = ap (λ (t : List ℕ). t ++ rest) encodes.4 ∙ append_assoc front back rest in
    let first : member_at cs (front ++ (back ++ rest)) ≡ Ok (m, back ++ rest) = subst (λ (t : List ℕ). member_at cs (t ++ (back ++ rest)) ≡ Ok (m, back ++ rest)) (sym one.spelled) (member_again cs m one.all (back ++ rest) few b.0 one.has_attributes one.numbers) in
    ap (many_at (member_at cs) (suc (length more))) regrouped ∙ rw (first, many_members_again cs more back rest few b.1 encodes.3) refl

pub members_again : (cs : List Const) (ms : List MemberInfo) (text rest : List ℕ) → length cs < 65536 → ltb (length ms) 65536 ≡ true → list_all (member_fits cs) ms ≡ true → EncodesMembers cs ms text → members_at cs (u2 (length ms) ++ (text ++ rest)) ≡ Ok (ms, rest)
unfolding members_at
members_again cs ms text rest few count h encodes =
    rw (u2_again file_edge (length ms) (text ++ rest) (ltb-true (length ms) 65536 count) (omega arith)) (many_members_again cs ms text rest few h encodes)
