-- Constants that name others are held behind those, and what isn't had leaves the pool as it was.
use Rattle.std.proofs.Common.{◌≡◌, ℕ, ◌+◌, ◌≤◌, ◌<◌, ℤ, true, List, length, take, Result, Ok, Err, MatchResult, refl, sym, ap, ◌∙◌, subst, arith}
use Rattle.std.proofs.Math.Seq.{take-append_seam}
use Rattle.std.proofs.lemmas.List.{length-map}
use Rattle.class_form.specs.declared.constant.Const.{Const}
use Rattle.class_form.specs.declared.constant.Const.TheVariants.{Utf8, Class, Text, NameAndType, Long}
use Rattle.code_asm.specs.declared.entry.Entry.{Entry}
use Rattle.code_asm.specs.declared.entry.Entry.TheVariants.{Long as LongEntry, Behind}
use Rattle.code_asm.specs.declared.fault.AsmFault.{AsmFault}
use Rattle.code_asm.specs.Held.{Held, hold, hold_class, hold_text, hold_name_and_type, hold_member, Fails, Answers}
use Rattle.code_asm.specs.Entries.{const_of, consts_of, is_single, with_entry, ArePaired, PutsEntry, GoOn, Puts}
use Rattle.code_asm.proofs.Holding.{single_plain, single_held, single_paired, index_held, long_held, long_paired, hold_longer, entry_longer, fails_more}

pub put_single : (k : Entry) → is_single k ≡ true → (old new : List Entry) (r : Result ℕ AsmFault) → ArePaired old → PutsEntry old k new r → Puts (hold (consts_of old) (const_of k)) new r
put_single k e old new (Ok i) h q =
    (ap consts_of q.0 ∙ single_held k e old, q.1 ∙ index_held k (single_plain k e) old, q.2, subst ArePaired (sym q.0) (single_paired k e old h))
put_single k e old new (Err f) h q = subst (Fails f) (single_held k e old) q

module _ (n : ℤ) (old : List Entry) (h : ArePaired old) where
  pub long_fails : (f : AsmFault) → Fails f (consts_of (with_entry old (LongEntry n))) → Fails f (hold (consts_of old) (Long n)).constants
  long_fails f q =
      subst (Fails f) (long_held n old h)
      (fails_more f (consts_of (with_entry old (LongEntry n))) (consts_of (with_entry (with_entry old (LongEntry n)) (Behind n))) (entry_longer (with_entry old (LongEntry n)) (Behind n)) q)

  pub long_fails_behind : (mid new : List Entry) (i : ℕ) (f : AsmFault) → PutsEntry old (LongEntry n) mid (Ok i) → PutsEntry mid (Behind n) new (Err f) → Fails f (hold (consts_of old) (Long n)).constants
  long_fails_behind mid new i f p q = subst (Fails f) (long_held n old h) (subst (λ l. Fails f (consts_of (with_entry l (Behind n)))) p.0 q)

  pub long_puts : (mid new : List Entry) (i j : ℕ) → PutsEntry old (LongEntry n) mid (Ok i) → PutsEntry mid (Behind n) new (Ok j) → Puts (hold (consts_of old) (Long n)) new (Ok i)
  long_puts mid new i j p q =
      let e : new ≡ with_entry (with_entry old (LongEntry n)) (Behind n) = q.0 ∙ ap (λ l. with_entry l (Behind n)) p.0 in
      (ap consts_of e ∙ long_held n old h, p.1 ∙ index_held (LongEntry n) refl old, q.2, subst ArePaired (sym e) (long_paired n old h))

module _ (list : List Const) (name : List ℕ) where
  pub class_fails : (f : AsmFault) → Fails f (hold list (Utf8 name)).constants → Fails f (hold_class list name).constants
  unfolding hold_class
  class_fails f q = let t = hold list (Utf8 name) in fails_more f t.constants (hold t.constants (Class t.index)).constants (hold_longer t.constants (Class t.index)) q

  pub class_puts : (mid new : List Entry) (i : ℕ) (r : Result ℕ AsmFault) → Puts (hold list (Utf8 name)) mid (Ok i) → Puts (hold (consts_of mid) (Class i)) new r → Puts (hold_class list name) new r
  unfolding hold_class
  class_puts mid new i r p q =
      subst (λ l. Puts (hold l (Class (hold list (Utf8 name)).index)) new r) p.0 (subst (λ n. Puts (hold (consts_of mid) (Class n)) new r) p.1 q)

  pub text_fails : (f : AsmFault) → Fails f (hold list (Utf8 name)).constants → Fails f (hold_text list name).constants
  unfolding hold_text
  text_fails f q = let t = hold list (Utf8 name) in fails_more f t.constants (hold t.constants (Text t.index)).constants (hold_longer t.constants (Text t.index)) q

  pub text_puts : (mid new : List Entry) (i : ℕ) (r : Result ℕ AsmFault) → Puts (hold list (Utf8 name)) mid (Ok i) → Puts (hold (consts_of mid) (Text i)) new r → Puts (hold_text list name) new r
  unfolding hold_text
  text_puts mid new i r p q =
      subst (λ l. Puts (hold l (Text (hold list (Utf8 name)).index)) new r) p.0 (subst (λ n. Puts (hold (consts_of mid) (Text n)) new r) p.1 q)

module _ (list : List Const) (name descriptor : List ℕ) where
  abbrev named : Held
  named = hold list (Utf8 name)

  abbrev described : Held
  described = hold named.constants (Utf8 descriptor)

  described_fails : (f : AsmFault) → Fails f described.constants → Fails f (hold_name_and_type list name descriptor).constants
  unfolding hold_name_and_type
  described_fails f q = fails_more f described.constants _ (hold_longer described.constants (NameAndType named.index described.index)) q

  pub name_fails : (f : AsmFault) → Fails f named.constants → Fails f (hold_name_and_type list name descriptor).constants
  name_fails f q = described_fails f (fails_more f named.constants described.constants (hold_longer named.constants (Utf8 descriptor)) q)

  pub descriptor_fails : (mid : List Entry) (i : ℕ) (f : AsmFault) → Puts named mid (Ok i) → Fails f (hold (consts_of mid) (Utf8 descriptor)).constants → Fails f (hold_name_and_type list name descriptor).constants
  descriptor_fails mid i f p q = described_fails f (subst (λ l. Fails f (hold l (Utf8 descriptor)).constants) p.0 q)

  pub name_and_type_puts : (mid later new : List Entry) (i j : ℕ) (r : Result ℕ AsmFault) → Puts named mid (Ok i) → Puts (hold (consts_of mid) (Utf8 descriptor)) later (Ok j)
      → Puts (hold (consts_of later) (NameAndType i j)) new r → Puts (hold_name_and_type list name descriptor) new r
  unfolding hold_name_and_type
  name_and_type_puts mid later new i j r p q s =
      let d : Puts described later (Ok j) = subst (λ l. Puts (hold l (Utf8 descriptor)) later (Ok j)) p.0 q in
      subst (λ l. Puts (hold l (NameAndType named.index described.index)) new r) d.0
      (subst (λ n. Puts (hold (consts_of later) (NameAndType named.index n)) new r) d.1
      (subst (λ n. Puts (hold (consts_of later) (NameAndType n j)) new r) p.1 s))

pub name_and_type_longer : (list : List Const) (name descriptor : List ℕ) → length list ≤ length (hold_name_and_type list name descriptor).constants
unfolding hold_name_and_type
name_and_type_longer list name descriptor =
    let n = hold list (Utf8 name) in let d = hold n.constants (Utf8 descriptor) in
    let a = hold_longer list (Utf8 name) in let b = hold_longer n.constants (Utf8 descriptor) in let c = hold_longer d.constants (NameAndType n.index d.index) in
    omega (arith, a, b, c)

module _ (kind : ℕ → ℕ → Const) (list : List Const) (class name descriptor : List ℕ) where
  abbrev owner : Held
  owner = hold_class list class

  abbrev member : Held
  member = hold_name_and_type owner.constants name descriptor

  member_fails : (f : AsmFault) → Fails f member.constants → Fails f (hold_member kind list class name descriptor).constants
  unfolding hold_member
  member_fails f q = fails_more f member.constants _ (hold_longer member.constants (kind owner.index member.index)) q

  pub owner_fails : (f : AsmFault) → Fails f owner.constants → Fails f (hold_member kind list class name descriptor).constants
  owner_fails f q = member_fails f (fails_more f owner.constants member.constants (name_and_type_longer owner.constants name descriptor) q)

  pub type_fails : (mid : List Entry) (i : ℕ) (f : AsmFault) → Puts owner mid (Ok i) → Fails f (hold_name_and_type (consts_of mid) name descriptor).constants → Fails f (hold_member kind list class name descriptor).constants
  type_fails mid i f p q = member_fails f (subst (λ l. Fails f (hold_name_and_type l name descriptor).constants) p.0 q)

  pub member_puts : (mid later new : List Entry) (i j : ℕ) (r : Result ℕ AsmFault) → Puts owner mid (Ok i) → Puts (hold_name_and_type (consts_of mid) name descriptor) later (Ok j)
      → Puts (hold (consts_of later) (kind i j)) new r → Puts (hold_member kind list class name descriptor) new r
  unfolding hold_member
  member_puts mid later new i j r p q s =
      let d : Puts member later (Ok j) = subst (λ l. Puts (hold_name_and_type l name descriptor) later (Ok j)) p.0 q in
      subst (λ l. Puts (hold l (kind owner.index member.index)) new r) d.0
      (subst (λ n. Puts (hold (consts_of later) (kind owner.index n)) new r) d.1
      (subst (λ n. Puts (hold (consts_of later) (kind n j)) new r) p.1 s))

-- entries that are kept where all went well, and cut back where not
abbrev pub Cut : ℕ → List Entry → List Entry → Result ℕ AsmFault → Type 0
Cut n mid new answer = MatchResult answer (λ _. new ≡ mid) (λ _. new ≡ take n mid)

cut_back : (old mid : List Entry) → GoOn old mid → take (length old) mid ≡ old
cut_back old mid g = ap (take (length old)) g.1 ∙ take-append_seam old g.0

pub answers : (held : Held) (old mid new : List Entry) (answer : Result ℕ AsmFault) → GoOn old mid → Puts held mid answer → Cut (length old) mid new answer → Answers held (consts_of old) (consts_of new) answer
answers held old mid new (Ok i) g p e =
    (ap consts_of e ∙ p.0, p.1, subst (λ l. 1 + length l < 65536) (ap consts_of (sym e)) (subst (λ n. 1 + n < 65536) (sym (length-map mid const_of)) p.2))
answers held old mid new (Err f) g p e = (ap consts_of (e ∙ cut_back old mid g), p)

pub stays_paired : (held : Held) (old mid new : List Entry) (answer : Result ℕ AsmFault) → GoOn old mid → Puts held mid answer → Cut (length old) mid new answer → ArePaired old → ArePaired new
stays_paired held old mid new (Ok i) g p e h = subst ArePaired (sym e) p.3
stays_paired held old mid new (Err f) g p e h = subst ArePaired (sym (e ∙ cut_back old mid g)) h

-- the same, as the pool's calls have it
module _ (held : Held) (old mid new : List Entry) (n : ℕ) (answer : Result ℕ AsmFault) (len : n ≡ length old) (g : GoOn old mid) (p : Puts held mid answer) (e : Cut n mid new answer) where
  cut : Cut (length old) mid new answer
  cut = subst (λ m. Cut m mid new answer) len e

  pub kept_answers : (result : Result ℕ AsmFault) → result ≡ answer → Answers held (consts_of old) (consts_of new) result
  kept_answers result same = subst (Answers held (consts_of old) (consts_of new)) (sym same) (answers held old mid new answer g p cut)

  pub kept_paired : ArePaired old → ArePaired new
  kept_paired h = stays_paired held old mid new answer g p cut h
