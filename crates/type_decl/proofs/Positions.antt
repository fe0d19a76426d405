-- The positions of members, one after the other.
use Rattle.std.proofs.Common.{◌≡◌, ℕ, ◌+◌, ◌≤◌, min, List, [], ◌∷◌, ◌++◌, length, take, Option, Some, None, refl, sym, ap, ◌∙◌, subst, arith, length-append}
use Rattle.std.specs.Prelude.{if◌then◌else◌}
use Rattle.std.specs.List.{filter_map, cons_option}
use Rattle.std.specs.Option.{is_some}
use Rattle.std.proofs.lemmas.List.{append-nil, length-take}
use Rattle.std.proofs.lemmas.List.Elements.{filter_map-append}
use Rattle.jp_ast.specs.declared.decl.Member.{Member}
use Rattle.jp_ast.specs.declared.decl.MemberPart.{MemberPart}
use Rattle.jp_ast.specs.declared.decl.MemberPart.TheVariants as part
use Rattle.type_rules.specs.Heads.{field_part, constructor_part, method_part, as_field, as_constructor, as_method}
use Rattle.type_decl.specs.declared.places.Places.{Places}
use Rattle.type_decl.specs.Positions.{places_of, counted, AreFew}

-- so many, and one more or none
abbrev behind : {A : Type 0} → ℕ → Option A → ℕ
behind n None = n
behind n (Some x) = n + 1

length_behind : {A : Type 0} (xs : List A) (o : Option A) → length (xs ++ cons_option o []) ≡ behind (length xs) o
length_behind xs None = ap length (append-nil xs)
length_behind xs (Some x) = omega (arith, length-append xs (x ∷ []))

length_more : {A : Type 0} (f : Member → Option A) (ms : List Member) (m : Member) → length (filter_map f (ms ++ m ∷ [])) ≡ behind (length (filter_map f ms)) (f m)
length_more f ms m = ap length (filter_map-append f ms (m ∷ [])) ∙ length_behind (filter_map f ms) (f m)

by_part : (p : Places) (m : Member) (x : MemberPart) →
    (if is_some (field_part m x) then record p { fields = p.fields + 1 }
    else if is_some (constructor_part m x) then record p { constructors = p.constructors + 1 } else record p { methods = p.methods + 1 })
    ≡ record { fields = behind p.fields (field_part m x); constructors = behind p.constructors (constructor_part m x); methods = behind p.methods (method_part [] m x) }
by_part p m (part.Field t static) = refl
by_part p m (part.Static result block) = refl
by_part p m (part.Abstract result) = refl
by_part p m (part.Body result guard block) = refl
by_part p m (part.Constructor args block) = refl

pub counted_more : (ms : List Member) (m : Member) → counted (places_of ms) m ≡ places_of (ms ++ m ∷ [])
counted_more ms m =
    by_part (places_of ms) m m.part
    ∙ (λ i. record { fields = sym (length_more as_field ms m) i; constructors = sym (length_more as_constructor ms m) i; methods = sym (length_more as_method ms m) i })

kept_few : {A : Type 0} (f : Member → Option A) (ms : List Member) → length (filter_map f ms) ≤ length ms
kept_few f [] = omega arith
kept_few f (m ∷ ms) = more (f m) (kept_few f ms) where
  more : (o : Option _) → length (filter_map f ms) ≤ length ms → length (cons_option o (filter_map f ms)) ≤ length (m ∷ ms)
  more None h = omega (arith, h)
  more (Some x) h = omega (arith, h)

pub few_places : (ms : List Member) → length ms ≤ 8000 → AreFew (places_of ms)
few_places ms l = record {
  fields = omega (arith, kept_few as_field ms);
  constructors = omega (arith, kept_few as_constructor ms);
  methods = omega (arith, kept_few as_method ms);
}

pub few_front : (ms : List Member) (i : ℕ) (p : Places) → p ≡ places_of (take i ms) → length ms ≤ 8000 → AreFew p
few_front ms i p e l =
    let n : length (take i ms) ≡ min i (length ms) = length-take i ms in
    let few : length (take i ms) ≤ 8000 = omega arith in
    subst (λ (q : Places). AreFew q) (sym e) (few_places (take i ms) few)
