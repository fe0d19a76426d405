-- An entry that is put is held as a constant.
use Rattle.std.proofs.Common.{◌≡◌, ◌+◌, ℤ, Bool, true, false, not, ◌||◌, cond, if◌then◌else◌, List, [], ◌∷◌, ◌++◌, length, ◌≤◌, refl, sym, ap, ◌∙◌, subst, arith, true≢false}
use Rattle.std.proofs.lemmas.List.{map-append, length-append, length-map, append_assoc}
use Rattle.std.proofs.lemmas.List.Folds.{list_any-append}
use Rattle.std.specs.List.{list_any, position_or_len}
use Rattle.class_form.specs.declared.constant.Const.{Const}
use Rattle.class_form.specs.declared.constant.Const.TheVariants.{Unused, Long}
use Rattle.class_form.specs.WellFormed.{is_wide}
use Rattle.code_asm.specs.declared.entry.Entry.{Entry}
use Rattle.code_asm.specs.declared.entry.Entry.TheVariants.{Utf8 as Utf8Entry, Integer as IntegerEntry, Long as LongEntry, Class as ClassEntry, Literal, Field, Method, InterfaceMethod, NameAndType as NameAndTypeEntry, Behind}
use Rattle.code_asm.specs.declared.fault.AsmFault.{AsmFault}
use Rattle.code_asm.specs.declared.fault.AsmFault.TheVariants.{Full, TooLong, FarJump, OutOfMemory}
use Rattle.code_asm.specs.Held.{is_same, with_rest, hold, Fails}
use Rattle.code_asm.specs.Entries.{const_of, consts_of, is_single, is_equal, with_entry, ArePaired, GoOn}

-- a test of entries that is one of their constants
module _ (p : Const → Bool) where
  any_map : (ks : List Entry) → list_any (λ k. p (const_of k)) ks ≡ list_any p (consts_of ks)
  any_map [] = refl
  any_map (k ∷ ks) = ap (λ b. p (const_of k) || b) (any_map ks)

  at_map : (ks : List Entry) → position_or_len (λ k. p (const_of k)) ks ≡ position_or_len p (consts_of ks)
  at_map [] = refl
  at_map (k ∷ ks) = ap (λ n. cond (not (p (const_of k))) (1 + n) 0) (at_map ks)

-- whether an entry is the second index of a long
abbrev is_behind : Entry → Bool
is_behind (Behind n) = true
is_behind _ = false

-- entries that aren't the second index of a long are equal where their constants are
abbrev IsAlike : Entry → Entry → Type 0
IsAlike (Behind n) x = Unit {0}
IsAlike k x = is_equal k x ≡ is_same (const_of k) (const_of x)

pub alike : (k x : Entry) → IsAlike k x
alike (Utf8Entry a) (Utf8Entry u) = refl
alike (Utf8Entry a) (IntegerEntry u) = refl
alike (Utf8Entry a) (LongEntry u) = refl
alike (Utf8Entry a) (ClassEntry u) = refl
alike (Utf8Entry a) (Literal u) = refl
alike (Utf8Entry a) (Field u v) = refl
alike (Utf8Entry a) (Method u v) = refl
alike (Utf8Entry a) (InterfaceMethod u v) = refl
alike (Utf8Entry a) (NameAndTypeEntry u v) = refl
alike (Utf8Entry a) (Behind u) = refl
alike (IntegerEntry a) (Utf8Entry u) = refl
alike (IntegerEntry a) (IntegerEntry u) = refl
alike (IntegerEntry a) (LongEntry u) = refl
alike (IntegerEntry a) (ClassEntry u) = refl
alike (IntegerEntry a) (Literal u) = refl
alike (IntegerEntry a) (Field u v) = refl
alike (IntegerEntry a) (Method u v) = refl
alike (IntegerEntry a) (InterfaceMethod u v) = refl
alike (IntegerEntry a) (NameAndTypeEntry u v) = refl
alike (IntegerEntry a) (Behind u) = refl
alike (LongEntry a) (Utf8Entry u) = refl
alike (LongEntry a) (IntegerEntry u) = refl
alike (LongEntry a) (LongEntry u) = refl
alike (LongEntry a) (ClassEntry u) = refl
alike (LongEntry a) (Literal u) = refl
alike (LongEntry a) (Field u v) = refl
alike (LongEntry a) (Method u v) = refl
alike (LongEntry a) (InterfaceMethod u v) = refl
alike (LongEntry a) (NameAndTypeEntry u v) = refl
alike (LongEntry a) (Behind u) = refl
alike (ClassEntry a) (Utf8Entry u) = refl
alike (ClassEntry a) (IntegerEntry u) = refl
alike (ClassEntry a) (LongEntry u) = refl
alike (ClassEntry a) (ClassEntry u) = refl
alike (ClassEntry a) (Literal u) = refl
alike (ClassEntry a) (Field u v) = refl
alike (ClassEntry a) (Method u v) = refl
alike (ClassEntry a) (InterfaceMethod u v) = refl
alike (ClassEntry a) (NameAndTypeEntry u v) = refl
alike (ClassEntry a) (Behind u) = refl
alike (Literal a) (Utf8Entry u) = refl
alike (Literal a) (IntegerEntry u) = refl
alike (Literal a) (LongEntry u) = refl
alike (Literal a) (ClassEntry u) = refl
alike (Literal a) (Literal u) = refl
alike (Literal a) (Field u v) = refl
alike (Literal a) (Method u v) = refl
alike (Literal a) (InterfaceMethod u v) = refl
alike (Literal a) (NameAndTypeEntry u v) = refl
alike (Literal a) (Behind u) = refl
alike (Field a b) (Utf8Entry u) = refl
alike (Field a b) (IntegerEntry u) = refl
alike (Field a b) (LongEntry u) = refl
alike (Field a b) (ClassEntry u) = refl
alike (Field a b) (Literal u) = refl
alike (Field a b) (Field u v) = refl
alike (Field a b) (Method u v) = refl
alike (Field a b) (InterfaceMethod u v) = refl
alike (Field a b) (NameAndTypeEntry u v) = refl
alike (Field a b) (Behind u) = refl
alike (Method a b) (Utf8Entry u) = refl
alike (Method a b) (IntegerEntry u) = refl
alike (Method a b) (LongEntry u) = refl
alike (Method a b) (ClassEntry u) = refl
alike (Method a b) (Literal u) = refl
alike (Method a b) (Field u v) = refl
alike (Method a b) (Method u v) = refl
alike (Method a b) (InterfaceMethod u v) = refl
alike (Method a b) (NameAndTypeEntry u v) = refl
alike (Method a b) (Behind u) = refl
alike (InterfaceMethod a b) (Utf8Entry u) = refl
alike (InterfaceMethod a b) (IntegerEntry u) = refl
alike (InterfaceMethod a b) (LongEntry u) = refl
alike (InterfaceMethod a b) (ClassEntry u) = refl
alike (InterfaceMethod a b) (Literal u) = refl
alike (InterfaceMethod a b) (Field u v) = refl
alike (InterfaceMethod a b) (Method u v) = refl
alike (InterfaceMethod a b) (InterfaceMethod u v) = refl
alike (InterfaceMethod a b) (NameAndTypeEntry u v) = refl
alike (InterfaceMethod a b) (Behind u) = refl
alike (NameAndTypeEntry a b) (Utf8Entry u) = refl
alike (NameAndTypeEntry a b) (IntegerEntry u) = refl
alike (NameAndTypeEntry a b) (LongEntry u) = refl
alike (NameAndTypeEntry a b) (ClassEntry u) = refl
alike (NameAndTypeEntry a b) (Literal u) = refl
alike (NameAndTypeEntry a b) (Field u v) = refl
alike (NameAndTypeEntry a b) (Method u v) = refl
alike (NameAndTypeEntry a b) (InterfaceMethod u v) = refl
alike (NameAndTypeEntry a b) (NameAndTypeEntry u v) = refl
alike (NameAndTypeEntry a b) (Behind u) = refl
alike (Behind n) (Utf8Entry u) = tt
alike (Behind n) (IntegerEntry u) = tt
alike (Behind n) (LongEntry u) = tt
alike (Behind n) (ClassEntry u) = tt
alike (Behind n) (Literal u) = tt
alike (Behind n) (Field u v) = tt
alike (Behind n) (Method u v) = tt
alike (Behind n) (InterfaceMethod u v) = tt
alike (Behind n) (NameAndTypeEntry u v) = tt
alike (Behind n) (Behind u) = tt

plain_alike : (k : Entry) → is_behind k ≡ false → (x : Entry) → is_equal k x ≡ is_same (const_of k) (const_of x)
plain_alike (Behind n) e x = absurd (true≢false e)
plain_alike (Utf8Entry a) e x = alike (Utf8Entry a) x
plain_alike (IntegerEntry a) e x = alike (IntegerEntry a) x
plain_alike (LongEntry a) e x = alike (LongEntry a) x
plain_alike (ClassEntry a) e x = alike (ClassEntry a) x
plain_alike (Literal a) e x = alike (Literal a) x
plain_alike (Field a b) e x = alike (Field a b) x
plain_alike (Method a b) e x = alike (Method a b) x
plain_alike (InterfaceMethod a b) e x = alike (InterfaceMethod a b) x
plain_alike (NameAndTypeEntry a b) e x = alike (NameAndTypeEntry a b) x

any_is : (k : Entry) → is_behind k ≡ false → (ks : List Entry) → list_any (is_equal k) ks ≡ list_any (is_same (const_of k)) (consts_of ks)
any_is k e ks = ap (λ f. list_any f ks) (λ i x. plain_alike k e x i) ∙ any_map (is_same (const_of k)) ks

at_is : (k : Entry) → is_behind k ≡ false → (ks : List Entry) → position_or_len (is_equal k) ks ≡ position_or_len (is_same (const_of k)) (consts_of ks)
at_is k e ks = ap (λ f. position_or_len f ks) (λ i x. plain_alike k e x i) ∙ at_map (is_same (const_of k)) ks

-- the index of an entry that isn't the second of a long
pub index_held : (k : Entry) → is_behind k ≡ false → (ks : List Entry) → 1 + position_or_len (is_equal k) ks ≡ (hold (consts_of ks) (const_of k)).index
unfolding hold
index_held k e ks = ap (λ n. 1 + n) (at_is k e ks)

-- entries that take one index
pub single_plain : (k : Entry) → is_single k ≡ true → is_behind k ≡ false
single_plain (Behind n) e = absurd (true≢false (sym e))
single_plain (LongEntry a) e = refl
single_plain (Utf8Entry a) e = refl
single_plain (IntegerEntry a) e = refl
single_plain (ClassEntry a) e = refl
single_plain (Literal a) e = refl
single_plain (Field a b) e = refl
single_plain (Method a b) e = refl
single_plain (InterfaceMethod a b) e = refl
single_plain (NameAndTypeEntry a b) e = refl

single_narrow : (k : Entry) → is_single k ≡ true → is_wide (const_of k) ≡ false
single_narrow (Behind n) e = absurd (true≢false (sym e))
single_narrow (LongEntry a) e = absurd (true≢false (sym e))
single_narrow (Utf8Entry a) e = refl
single_narrow (IntegerEntry a) e = refl
single_narrow (ClassEntry a) e = refl
single_narrow (Literal a) e = refl
single_narrow (Field a b) e = refl
single_narrow (Method a b) e = refl
single_narrow (InterfaceMethod a b) e = refl
single_narrow (NameAndTypeEntry a b) e = refl

single_apart : (k : Entry) → is_single k ≡ true → (n : ℤ) → is_equal (Behind n) k ≡ is_equal (LongEntry n) k
single_apart (Behind m) e n = absurd (true≢false (sym e))
single_apart (LongEntry m) e n = absurd (true≢false (sym e))
single_apart (Utf8Entry a) e n = refl
single_apart (IntegerEntry a) e n = refl
single_apart (ClassEntry a) e n = refl
single_apart (Literal a) e n = refl
single_apart (Field a b) e n = refl
single_apart (Method a b) e n = refl
single_apart (InterfaceMethod a b) e n = refl
single_apart (NameAndTypeEntry a b) e n = refl

consts_if : (b : Bool) (ks more : List Entry) → consts_of (if b then ks else ks ++ more) ≡ (if b then consts_of ks else consts_of ks ++ consts_of more)
consts_if true ks more = refl
consts_if false ks more = map-append const_of ks more

pub single_held : (k : Entry) → is_single k ≡ true → (ks : List Entry) → consts_of (with_entry ks k) ≡ (hold (consts_of ks) (const_of k)).constants
unfolding hold
single_held k e ks =
    consts_if (list_any (is_equal k) ks) ks (k ∷ [])
    ∙ ap (λ b. if b then consts_of ks else consts_of ks ++ const_of k ∷ []) (any_is k (single_plain k e) ks)
    ∙ ap (λ w. if list_any (is_same (const_of k)) (consts_of ks) then consts_of ks else consts_of ks ++ (if w then const_of k ∷ Unused ∷ [] else const_of k ∷ [])) (sym (single_narrow k e))

paired_on : (k : Entry) → ((n : ℤ) → is_equal (Behind n) k ≡ is_equal (LongEntry n) k) → (ks : List Entry) → ArePaired ks → ArePaired (ks ++ k ∷ [])
paired_on k apart ks h n =
    list_any-append (is_equal (Behind n)) ks (k ∷ [])
    ∙ ap (λ b. b || (is_equal (Behind n) k || false)) (h n)
    ∙ ap (λ b. list_any (is_equal (LongEntry n)) ks || (b || false)) (apart n)
    ∙ sym (list_any-append (is_equal (LongEntry n)) ks (k ∷ []))

paired_if : (b : Bool) (ks more : List Entry) → ArePaired ks → ArePaired (ks ++ more) → ArePaired (if b then ks else ks ++ more)
paired_if true ks more h g = h
paired_if false ks more h g = g

pub single_paired : (k : Entry) → is_single k ≡ true → (ks : List Entry) → ArePaired ks → ArePaired (with_entry ks k)
single_paired k e ks h = paired_if (list_any (is_equal k) ks) ks (k ∷ []) h (paired_on k (single_apart k e) ks h)

-- a long and its second index are put, or both are there
long_entries : (n : ℤ) (ks : List Entry) → ArePaired ks → (b : Bool) → list_any (is_equal (LongEntry n)) ks ≡ b
    → with_entry (with_entry ks (LongEntry n)) (Behind n) ≡ (if b then ks else ks ++ LongEntry n ∷ Behind n ∷ [])
long_entries n ks h true e =
    ap (λ l. with_entry l (Behind n)) (ap (λ b. if b then ks else ks ++ LongEntry n ∷ []) e)
    ∙ ap (λ b. if b then ks else ks ++ Behind n ∷ []) (h n ∙ e)
long_entries n ks h false e =
    let at : list_any (is_equal (Behind n)) (ks ++ LongEntry n ∷ []) ≡ false =
    list_any-append (is_equal (Behind n)) ks (LongEntry n ∷ []) ∙ ap (λ b. b || (is_equal (Behind n) (LongEntry n) || false)) (h n ∙ e) in
    ap (λ l. with_entry l (Behind n)) (ap (λ b. if b then ks else ks ++ LongEntry n ∷ []) e)
    ∙ ap (λ b. if b then ks ++ LongEntry n ∷ [] else (ks ++ LongEntry n ∷ []) ++ Behind n ∷ []) at
    ∙ append_assoc ks (LongEntry n ∷ []) (Behind n ∷ [])

pub long_held : (n : ℤ) (ks : List Entry) → ArePaired ks → consts_of (with_entry (with_entry ks (LongEntry n)) (Behind n)) ≡ (hold (consts_of ks) (Long n)).constants
unfolding hold
long_held n ks h =
    ap consts_of (long_entries n ks h (list_any (is_equal (LongEntry n)) ks) refl)
    ∙ consts_if (list_any (is_equal (LongEntry n)) ks) ks (LongEntry n ∷ Behind n ∷ [])
    ∙ ap (λ b. if b then consts_of ks else consts_of ks ++ Long n ∷ Unused ∷ []) (any_is (LongEntry n) refl ks)

both_paired : (n : ℤ) (ks : List Entry) → ArePaired ks → ArePaired (ks ++ LongEntry n ∷ Behind n ∷ [])
both_paired n ks h m =
    list_any-append (is_equal (Behind m)) ks (LongEntry n ∷ Behind n ∷ [])
    ∙ ap (λ b. b || (is_equal (LongEntry m) (LongEntry n) || false)) (h m)
    ∙ sym (list_any-append (is_equal (LongEntry m)) ks (LongEntry n ∷ Behind n ∷ []))

pub long_paired : (n : ℤ) (ks : List Entry) → ArePaired ks → ArePaired (with_entry (with_entry ks (LongEntry n)) (Behind n))
long_paired n ks h =
    subst ArePaired (sym (long_entries n ks h (list_any (is_equal (LongEntry n)) ks) refl))
    (paired_if (list_any (is_equal (LongEntry n)) ks) ks (LongEntry n ∷ Behind n ∷ []) h (both_paired n ks h))

-- entries that are put never are fewer
if_longer : {X : Type 0} (b : Bool) (xs more : List X) → length xs ≤ length (if b then xs else xs ++ more)
if_longer true xs more = omega arith
if_longer false xs more = let e = length-append xs more in omega (arith, e)

pub hold_longer : (list : List Const) (c : Const) → length list ≤ length (hold list c).constants
unfolding hold
hold_longer list c = if_longer (list_any (is_same c) list) list (with_rest c)

pub entry_longer : (ks : List Entry) (k : Entry) → length (consts_of ks) ≤ length (consts_of (with_entry ks k))
entry_longer ks k =
    let e = length-map ks const_of in let f = length-map (with_entry ks k) const_of in
    let g = if_longer (list_any (is_equal k) ks) ks (k ∷ []) in omega (arith, e, f, g)

pub fails_more : (f : AsmFault) (a b : List Const) → length a ≤ length b → Fails f a → Fails f b
fails_more Full a b le h = omega (arith, le, h)
fails_more OutOfMemory a b le h = tt
fails_more (TooLong n) a b le h = h
fails_more (FarJump n) a b le h = h

pub go_on : (a b c : List Entry) → GoOn a b → GoOn b c → GoOn a c
go_on a b c f g = (f.0 ++ g.0, g.1 ∙ ap (λ l. l ++ g.0) f.1 ∙ append_assoc a f.0 g.0)
