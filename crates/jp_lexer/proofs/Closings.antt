-- Where a block comment closes.
use Rattle.std.proofs.Common.{◌≡◌, ℕ, ◌+◌, Bool, true, false, eqb, List, [], ◌∷◌, ◌++◌, length, get_or, drop, Option, Some, None, refl, sym, ap, subst, ◌∙◌, arith, inl, inr}
use Rattle.std.specs.Prelude.{◌&&◌, codes, option_map}
use Rattle.std.proofs.lemmas.Bool.{cond-true, cond-false, cases_Bool, and_parts, and_from, eqb-true, eq-eqb, both_ways, false_from_ne_true}
use Rattle.std.proofs.lemmas.List.{length-append}
use Rattle.std.proofs.lemmas.Option.{same_Some}
use Rattle.jp_lexical.specs.Tokens.{ClosesAtEnd}
use Rattle.jp_lexer.specs.Scanning.{close_len}

-- the inside of a comment, and what stands behind its `*/`
pub record Closes (text : List ℕ) (n : ℕ) : Type 0 where
  pub body : List ℕ
  pub rest : List ℕ
  pub parts : text ≡ body ++ 42 ∷ 47 ∷ rest
  pub long : n ≡ length body + 2
  pub at_end : ClosesAtEnd (body ++ codes "*/")

closes_here : ClosesAtEnd (codes "*/")
closes_here [] more e = cc
closes_here (x ∷ []) more e = absurd cc
closes_here (x ∷ y ∷ front) more e =
    let len : length (((x ∷ y ∷ front) ++ codes "*/") ++ more) ≡ 2 = ap length (sym e) in
    absurd (omega (arith, len, length-append ((x ∷ y ∷ front) ++ codes "*/") more, length-append (x ∷ y ∷ front) (codes "*/")))

-- the first two bytes of a text are `*/`
abbrev pub is_close : ℕ → List ℕ → Bool
is_close b bytes = eqb b 42 && eqb (get_or bytes 0 0) 47

head_of : (body rest more : List ℕ) → body ++ codes "*/" ≡ 47 ∷ more → get_or (body ++ 42 ∷ 47 ∷ rest) 0 0 ≡ 47
head_of [] rest more e = absurd (omega (arith, ap (λ (l : List ℕ). get_or l 0 0) e))
head_of (x ∷ body) rest more e = ap (λ (l : List ℕ). get_or l 0 0) e

closes_later : (b : ℕ) (body rest : List ℕ) → is_close b (body ++ 42 ∷ 47 ∷ rest) ≡ false → ClosesAtEnd (body ++ codes "*/") → ClosesAtEnd ((b ∷ body) ++ codes "*/")
closes_later b body rest fails closes [] more e =
    let star : b ≡ 42 = ap (λ (l : List ℕ). get_or l 0 0) e in
    let slash : body ++ codes "*/" ≡ 47 ∷ more = ap (λ (l : List ℕ). drop 1 l) e in
    absurd (both_ways _ fails (and_from (eqb b 42) (eqb (get_or (body ++ 42 ∷ 47 ∷ rest) 0 0) 47) (eq-eqb b 42 star) (eq-eqb _ 47 (head_of body rest more slash))))
closes_later b body rest fails closes (x ∷ front) more e = closes front more cc

some_more : (o : Option ℕ) (n : ℕ) → option_map (λ k. 1 + k) o ≡ Some n → (k : ℕ) × (o ≡ Some k) × (n ≡ 1 + k)
some_more None n e = absurd cc
some_more (Some k) n e = (k, refl, cc)

close_now : (b : ℕ) (bs : List ℕ) (n : ℕ) → (eqb b 42 ≡ true) × (eqb (get_or bs 0 0) 47 ≡ true) → 2 ≡ n → Closes (b ∷ bs) n
close_now b [] n t e = absurd cc
close_now b (c ∷ cs) n t e =
    let star = eqb-true b 42 t.0 in
    let slash = eqb-true c 47 t.1 in
    record { body = []; rest = cs; parts = cc; long = omega (arith, e); at_end = closes_here }

pub close_sound : (text : List ℕ) (n : ℕ) → close_len text ≡ Some n → Closes text n
close_sound [] n e = absurd cc
close_sound (b ∷ bs) n e = elim (cases_Bool (is_close b bs)) [
  | inl holds ↦ close_now b bs n (and_parts (eqb b 42) (eqb (get_or bs 0 0) 47) holds) (same_Some 2 n (sym (cond-true _ (Some 2) (option_map (λ k. 1 + k) (close_len bs)) holds) ∙ e))
  | inr fails ↦
      let m = some_more (close_len bs) n (sym (cond-false _ (Some 2) (option_map (λ k. 1 + k) (close_len bs)) fails) ∙ e) in
      let later = close_sound bs m.0 m.1 in
      record {
        body = b ∷ later.body;
        rest = later.rest;
        parts = ap (λ (x : List ℕ). b ∷ x) later.parts;
        long = omega (arith, m.2, later.long);
        at_end = closes_later b later.body later.rest (subst (λ (x : List ℕ). is_close b x ≡ false) later.parts fails) later.at_end;
      }
]

not_yet : (b : ℕ) (body rest : List ℕ) → ClosesAtEnd ((b ∷ body) ++ codes "*/") → is_close b ((body ++ codes "*/") ++ rest) ≡ false
not_yet b [] rest closes = false_from_ne_true _ (λ t. let p = and_parts (eqb b 42) false t in absurd cc)
not_yet b (c ∷ body) rest closes = false_from_ne_true _ (λ t.
    let p = and_parts (eqb b 42) (eqb c 47) t in
    let star = eqb-true b 42 p.0 in
    let slash = eqb-true c 47 p.1 in
    let nothing : body ++ codes "*/" ≡ [] = closes [] (body ++ codes "*/") cc in
    let len = ap length nothing in omega (arith, len, length-append body (codes "*/")))

-- `*/` stands at the end of what follows a byte too
closes_tail : (b : ℕ) (body : List ℕ) → ClosesAtEnd ((b ∷ body) ++ codes "*/") → ClosesAtEnd (body ++ codes "*/")
closes_tail b body closes front more e = closes (b ∷ front) more (ap (λ (x : List ℕ). b ∷ x) e)

pub close_complete : (body rest : List ℕ) → ClosesAtEnd (body ++ codes "*/") → close_len ((body ++ codes "*/") ++ rest) ≡ Some (length body + 2)
close_complete [] rest closes = refl
close_complete (b ∷ body) rest closes =
    cond-false (is_close b ((body ++ codes "*/") ++ rest)) (Some 2) (option_map (λ k. 1 + k) (close_len ((body ++ codes "*/") ++ rest))) (not_yet b body rest closes)
    ∙ ap (λ (o : Option ℕ). option_map (λ k. 1 + k) o) (close_complete body rest (closes_tail b body closes))
    ∙ ap (λ (k : ℕ). Some k) (omega arith)
