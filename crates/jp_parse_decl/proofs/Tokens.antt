-- Names, signs and words that stand alone.
use Rattle.std.proofs.Common.{◌≡◌, ℕ, ◌≤◌, ◌<◌, suc, zero, drop, Bool, true, false, not, List, [], ◌∷◌, length, IsTrue, refl, sym, ap, ◌∙◌, subst, inl, inr, arith}
use Rattle.std.proofs.lemmas.Bool.{eqb-true, eq-eqb}
use Rattle.jp_ast.specs.declared.token.Token.{Token}
use Rattle.jp_ast.specs.declared.token.Lexeme.TheVariants as lexeme
use Rattle.jp_ast.specs.declared.sign.TheConstants as sign
use Rattle.jp_grammar.specs.declared.kind.Kind.{Kind}
use Rattle.jp_grammar.specs.declared.kind.Kind.TheVariants as k
use Rattle.jp_grammar.specs.declared.fault.ParseFault.{ParseFault}
use Rattle.jp_grammar.specs.Kinds.{Is, IsSign, IsName, Tokens, nowhere, kind_of_token, kind_of_word, reserved, is_sign_kind, is_sign_of}
use Rattle.jp_grammar.specs.Reading.{Reads, Ends, Any, Found, Fails, RefusedName, Takes, Lacks, Begins, IsText}
use Rattle.jp_grammar.proofs.Outcome.{Same, fails_at}
use Rattle.jp_grammar.proofs.Samples.{a_name, a_name_is, a_sign}
use Rattle.jp_parse_stmt.specs.Behind.{anything, ends_type}
use Rattle.jp_parse_decl.specs.declared.token.Label.{Label}
use Rattle.jp_parse_decl.specs.Answers.{Yields, Skips, TakesWord, LacksWord}
use Rattle.jp_parse_decl.specs.Behind.{name_kind, super_word}
use Rattle.jp_parse_decl.specs.Parts.{LabelAt, label_at}
use Rattle.jp_parse_decl.proofs.Links.{Answer, Part, Fits, Alt, same_gives, alt_gives, moved}

-- a test that holds
pub sign_is : (n : ℕ) (s : Token) → is_sign_of n s ≡ true → IsSign n s
sign_is n s h = sign_kind n (kind_of_token s) h where
  sign_kind : (n : ℕ) (kind : Kind) → is_sign_kind n kind ≡ true → kind ≡ k.Sign n
  sign_kind n (k.Sign own) h = ap k.Sign (eqb-true own n h)
  sign_kind n _ h = cc

pub sign_true : (n : ℕ) (s : Token) → IsSign n s → IsTrue (is_sign_of n s)
sign_true n s h = ap (is_sign_kind n) h ∙ eq-eqb n n refl

-- a test that fails
pub sign_is_no : (n : ℕ) (s : Token) → is_sign_of n s ≡ false → IsSign n s → ⊥
sign_is_no n s f h = let g : is_sign_of n s ≡ true = sign_true n s h in cc

-- some token stands there
pub some_begin : (test : Kind → Bool) (xs : Tokens) → Begins test xs → Ends anything xs
some_begin test [] h = h
some_begin test (s ∷ xs) h = refl

pub some_end : (ends : Token → Bool) (xs : Tokens) → Ends ends xs → Ends anything xs
some_end ends [] h = h
some_end ends (s ∷ xs) h = refl

pub fits_all : (heads : Token → Bool) → Fits heads anything
fits_all heads s h = refl

pub text_some : (xs : Tokens) → IsText xs → Ends anything xs
text_some [] h = h
text_some (s ∷ xs) h = refl

pub text_drop : (n : ℕ) (xs : Tokens) → IsText xs → n < length xs → IsText (drop n xs)
text_drop zero xs text small = text
text_drop (suc n) [] text small = absurd text
text_drop (suc n) (s ∷ []) text small = absurd (omega arith)
text_drop (suc n) (s ∷ x ∷ xs) text small = text_drop n (x ∷ xs) text.1 (omega arith)

pub drop_short : (n : ℕ) (xs : Tokens) → length (drop n xs) ≤ length xs
drop_short zero xs = omega arith
drop_short (suc n) [] = omega arith
drop_short (suc n) (s ∷ xs) = let h = drop_short n xs in omega arith

-- ---- names

abbrev pub head_name : Token → Bool
head_name s = name_kind (kind_of_token s)

label_starts : (xs zs : Tokens) (l : Label) → LabelAt xs l zs → Ends head_name xs
label_starts xs zs l (label_at n) = ap name_kind n.1

pub label_part : Part LabelAt anything head_name Any
label_part = record {
  starts = λ xs zs l r h. label_starts xs zs l r;
  sample = a_name ∷ [];
  value = record { place = nowhere; name = 97 ∷ [] };
  reads = λ zs h. label_at a_name_is;
  holds = tt;
}

name_fit : (kind : Kind) → IsTrue (name_kind kind) → IsTrue (not (is_sign_kind sign.OPEN_BRACKET kind))
name_fit k.Name h = refl
name_fit _ h = cc

-- a name isn't `[`
pub name_type : Fits head_name ends_type
name_type s h = name_fit (kind_of_token s) h

module _ (c : Token) (rest xs : Tokens) (split : xs ≡ c ∷ rest) where
  label_never : (more zs : Tokens) (l : Label) → (kind_of_token c ≡ k.Name → ⊥) → LabelAt (c ∷ more) l zs → ⊥
  label_never more zs l other (label_at n) = other n.1

  pub label_wrong : (e : ParseFault) → RefusedName c e → Fails LabelAt (λ _. anything) anything Any xs e
  label_wrong e (inl m) = inl m
  label_wrong e (inr r) = subst (λ (x : Tokens). Fails LabelAt (λ _. anything) anything Any x e) (sym split)
      (fails_at LabelAt anything Any [] c rest e r.1
      (λ zs h. (a_name ∷ [], record { place = nowhere; name = 97 ∷ [] }, label_at a_name_is, h, tt))
      (λ more zs l d h u. label_never more zs l r.0 d))

  label_only : (name : List ℕ) (ys zs : Tokens) (l : Label) → IsName name c → LabelAt (c ∷ ys) l zs → (l ≡ record { place = c.place; name = name }) × (zs ≡ ys)
  label_only name ys zs l n (label_at {name = name'} n') =
      let same : name' ≡ name = cc in
      (ap (λ (x : List ℕ). record { place = c.place; name = x }) same, refl)

  pub label_found : (name : List ℕ) → IsName name c → Found LabelAt (λ _. anything) xs (record { place = c.place; name = name }) rest
  label_found name n = record {
    front = c ∷ [];
    split = split;
    reads = λ ys f. label_at n;
    only = λ ys zs l f r h. label_only name ys zs l n r;
  }

-- ---- signs

pub data SignAt : ℕ → Tokens → Unit {0} → Tokens → Type 0 where
  sign_at : {n : ℕ} {s : Token} {xs : Tokens} → IsSign n s → SignAt n (s ∷ xs) tt xs

sign_starts : (n : ℕ) (xs zs : Tokens) (u : Unit {0}) → SignAt n xs u zs → Ends (is_sign_of n) xs
sign_starts n xs zs u (sign_at {s = s} h) = sign_true n s h

pub sign_part : (n : ℕ) → Part (SignAt n) anything (is_sign_of n) Any
sign_part n = record {
  starts = λ xs zs u r h. sign_starts n xs zs u r;
  sample = a_sign n ∷ [];
  value = tt;
  reads = λ zs h. sign_at refl;
  holds = tt;
}

sign_only : (n : ℕ) (s : Token) (ys zs : Tokens) (u : Unit {0}) → SignAt n (s ∷ ys) u zs → (u ≡ tt) × (zs ≡ ys)
sign_only n s ys zs u (sign_at h) = (refl, refl)

pub sign_found : (n : ℕ) (xs zs : Tokens) → Takes n xs zs → Found (SignAt n) (λ _. anything) xs tt zs
sign_found n xs zs t = record {
  front = t.first ∷ [];
  split = t.split;
  reads = λ ys f. sign_at t.sign_is;
  only = λ ys zs' u f r h. sign_only n t.first ys zs' u r;
}

sign_never : (n : ℕ) (s : Token) (more zs : Tokens) (u : Unit {0}) → (IsSign n s → ⊥) → SignAt n (s ∷ more) u zs → ⊥
sign_never n s more zs u other (sign_at h) = other h

pub sign_fails : (n : ℕ) (xs : Tokens) (e : ParseFault) → Lacks n xs e → Fails (SignAt n) (λ _. anything) anything Any xs e
sign_fails n xs e l = subst (λ (x : Tokens). Fails (SignAt n) (λ _. anything) anything Any x e) (sym l.split)
    (fails_at (SignAt n) anything Any [] l.first l.rest e l.refused
    (λ zs h. (a_sign n ∷ [], tt, sign_at refl, h, tt))
    (λ more zs u d h t. sign_never n l.first more zs u l.other d))

-- ---- the word `class`

pub data ClassWord : Tokens → Unit {0} → Tokens → Type 0 where
  class_word : {s : Token} {xs : Tokens} → Is k.Class s → ClassWord (s ∷ xs) tt xs

-- `class`
abbrev pub a_class : Token
a_class = record { place = nowhere; lexeme = lexeme.Word (99 ∷ 108 ∷ 97 ∷ 115 ∷ 115 ∷ []) }

pub a_class_is : Is k.Class a_class
unfolding kind_of_word reserved
a_class_is = refl

word_only : (s : Token) (ys zs : Tokens) (u : Unit {0}) → ClassWord (s ∷ ys) u zs → (u ≡ tt) × (zs ≡ ys)
word_only s ys zs u (class_word h) = (refl, refl)

word_starts : (xs zs : Tokens) (u : Unit {0}) → ClassWord xs u zs → Ends anything xs
word_starts xs zs u (class_word h) = refl

pub word_part : Part ClassWord anything anything Any
word_part = record {
  starts = λ xs zs u r h. word_starts xs zs u r;
  sample = a_class ∷ [];
  value = tt;
  reads = λ zs h. class_word a_class_is;
  holds = tt;
}

pub word_found : (xs zs : Tokens) → TakesWord xs zs → Found ClassWord (λ _. anything) xs tt zs
word_found xs zs t = record {
  front = t.first ∷ [];
  split = t.split;
  reads = λ ys f. class_word t.is_kind;
  only = λ ys zs' u f r h. word_only t.first ys zs' u r;
}

word_never : (s : Token) (more zs : Tokens) (u : Unit {0}) → (Is k.Class s → ⊥) → ClassWord (s ∷ more) u zs → ⊥
word_never s more zs u other (class_word h) = other h

pub word_fails : (xs : Tokens) (e : ParseFault) → LacksWord xs e → Fails ClassWord (λ _. anything) anything Any xs e
word_fails xs e l = subst (λ (x : Tokens). Fails ClassWord (λ _. anything) anything Any x e) (sym l.split)
    (fails_at ClassWord anything Any [] l.first l.rest e l.refused
    (λ zs h. (a_class ∷ [], tt, class_word a_class_is, h, tt))
    (λ more zs u d h t. word_never l.first more zs u l.other d))

-- ---- words that may be missing

-- [word], and what is read behind it
pub data Optional {T : Type 0} (kind : Kind) (R : Reads T) : Tokens → T → Tokens → Type 0 where
  kept : {xs zs : Tokens} {t : T} → R xs t zs → Optional kind R xs t zs
  skipped : {s : Token} {xs zs : Tokens} {t : T} → Is kind s → R xs t zs → Optional kind R (s ∷ xs) t zs

module _ {T : Type 0} (kind : Kind) (R : Reads T) (ends : Token → Bool) (P : T → Type 0)
    (no_kind : (s : Token) (xs zs : Tokens) (t : T) → Is kind s → R (s ∷ xs) t zs → ⊥) (bad : Tokens) (bad_ends : Ends ends bad) (solid : (t : T) → R bad t bad → ⊥) where
  skip_from : (s : Token) (xs zs : Tokens) (t : T) → Is kind s → Optional kind R (s ∷ xs) t zs → R xs t zs
  skip_from s xs zs t h (kept r) = absurd (no_kind s xs zs t h r)
  skip_from s xs zs t h (skipped h' r) = r

  keep_from : (s : Token) (xs zs : Tokens) (t : T) → (Is kind s → ⊥) → Optional kind R (s ∷ xs) t zs → R (s ∷ xs) t zs
  keep_from s xs zs t other (kept r) = r
  keep_from s xs zs t other (skipped h' r) = absurd (other h')

  skip_same : (s : Token) → Is kind s → Same (s ∷ []) (λ t. t) R (Optional kind R) ends P P
  skip_same s h = record {
    into = λ ys zs t r. skipped h r;
    from = λ ys zs t r e. (t, refl, skip_from s ys zs t h r);
    up = λ a p. p;
    down = λ a p. p;
  }

  keep_alt : (s : Token) → (Is kind s → ⊥) → Alt s R (Optional kind R) ends
  keep_alt s other = record {
    into = λ ys zs t r. kept r;
    from = λ ys zs t r e. keep_from s ys zs t other r;
    bad = bad;
    bad_ends = bad_ends;
    solid = solid;
  }

  -- the word is skipped where it stands there
  pub skips_gives : (xs zs : Tokens) (r : Answer T) → Skips kind xs zs → Yields R ends P zs r → Yields (Optional kind R) ends P xs r
  skips_gives xs zs r (inl o) g = moved (Optional kind R) ends P xs (o.first ∷ zs) r o.split (same_gives (skip_same o.first o.is_kind) zs r g)
  skips_gives xs zs r (inr n) g =
      let g' : Yields R ends P (n.first ∷ n.rest) r = subst (λ (x : Tokens). Yields R ends P x r) (n.same ∙ n.split) g in
      moved (Optional kind R) ends P xs (n.first ∷ n.rest) r n.split (alt_gives P (keep_alt n.first n.other) n.rest r g')

-- ---- what a list begins with

pub begins_at : (test : Kind → Bool) (s : Token) (rest tokens : Tokens) → tokens ≡ s ∷ rest → IsTrue (test (kind_of_token s)) → Begins test tokens
begins_at test s rest tokens split h = subst (λ (x : Tokens). Begins test x) (sym split) h

pub first_at : (test : Kind → Bool) (s : Token) (rest tokens : Tokens) → tokens ≡ s ∷ rest → Begins test tokens → IsTrue (test (kind_of_token s))
first_at test s rest tokens split h = subst (λ (x : Tokens). Begins test x) split h

-- such a token isn't the end of the text
pub first_no_end : (test : Kind → Bool) → test k.End ≡ false → (s : Token) (rest tokens : Tokens) → tokens ≡ s ∷ rest → Begins test tokens → kind_of_token s ≡ k.End → ⊥
first_no_end test no_end s rest tokens split h e = let a : IsTrue (test (kind_of_token s)) = first_at test s rest tokens split h in let b = ap test e in cc

name_kind_is : (kind : Kind) → IsTrue (name_kind kind) → kind ≡ k.Name
name_kind_is k.Name h = refl
name_kind_is _ h = cc

pub name_is : (s : Token) (rest tokens : Tokens) → tokens ≡ s ∷ rest → Begins name_kind tokens → Is k.Name s
name_is s rest tokens split h = name_kind_is (kind_of_token s) (first_at name_kind s rest tokens split h)

super_word_is : (kind : Kind) → IsTrue (super_word kind) → kind ≡ k.Super
super_word_is k.Super h = refl
super_word_is _ h = cc

pub super_is : (s : Token) (rest tokens : Tokens) → tokens ≡ s ∷ rest → Begins super_word tokens → Is k.Super s
super_is s rest tokens split h = super_word_is (kind_of_token s) (first_at super_word s rest tokens split h)
