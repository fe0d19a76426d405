-- A part, or none, and a sign behind it.
use Rattle.std.proofs.Common.{◌≡◌, ℕ, ◌<◌, ◌≤◌, [], ◌∷◌, Bool, IsTrue, Option, Some, None, length, Ok, Err, refl, sym, ap, ◌∙◌, subst, arith}
use Rattle.std.specs.Borrow.{Bor}
use Rattle.jp_ast.specs.declared.token.Token.{Token}
use Rattle.jp_grammar.specs.declared.fault.ParseFault.{ParseFault}
use Rattle.jp_grammar.specs.Kinds.{IsSign, Tokens}
use Rattle.jp_grammar.specs.Reading.{Reads, Ends, Found, Fails, Takes, Lacks}
use Rattle.jp_grammar.proofs.Sequence.{found_image, fails_image}
use Rattle.jp_grammar.proofs.Choice.{Choice, found_choice, fails_choice}
use Rattle.jp_grammar.proofs.Outcome.{Joint, Same, image_of, fails_at}
use Rattle.jp_grammar.proofs.Samples.{a_sign}
use Rattle.jp_parse_stmt.specs.Behind.{anything}
use Rattle.jp_parse_stmt.specs.Parts.{Gets, Sealed, Shut, MaybeShut, Each}
use Rattle.jp_parse_stmt.proofs.Steps.{gets_then, gets_fault}

module _ {A : Type 0} (n : ℕ) where
  sealed_same : (a t : A) (ys zs : Tokens) → Sealed n a ys t zs → t ≡ a
  sealed_same a t [] zs r = absurd r
  sealed_same a t (s ∷ ys) zs r = r.1

  pub sealed_shorter : (a t : A) (ys zs : Tokens) → Sealed n a ys t zs → length zs < length ys
  sealed_shorter a t [] zs r = absurd r
  sealed_shorter a t (s ∷ ys) zs r = let same : length zs ≡ length ys = ap length r.2 in omega (arith, same)

  sealed_starts : (ends : Token → Bool) → ((s : Token) → IsSign n s → IsTrue (ends s)) → (a t : A) (ys zs : Tokens) → Sealed n a ys t zs → Ends ends ys
  sealed_starts ends stand a t [] zs r = absurd r
  sealed_starts ends stand a t (s ∷ ys) zs r = stand s r.0

  sealed_found : (a : A) (ys zs : Tokens) → Takes n ys zs → Found (Sealed n a) (λ _. anything) ys a zs
  sealed_found a ys zs h = record {
    front = h.first ∷ [];
    split = h.split;
    reads = λ ws f. (h.sign_is, refl, refl);
    only = λ ws zs' t' f r e. (r.1, r.2);
  }

  sealed_never : (a : A) (s : Token) (more zs : Tokens) (u : A) → (IsSign n s → ⊥) → Sealed n a (s ∷ more) u zs → ⊥
  sealed_never a s more zs u other r = other r.0

  sealed_fails : (P : A → Type 0) (a : A) (ys : Tokens) (e : ParseFault) → P a → Lacks n ys e → Fails (Sealed n a) (λ _. anything) anything P ys e
  sealed_fails P a ys e small h =
      subst (λ (x : Tokens). Fails (Sealed n a) (λ _. anything) anything P x e) (sym h.split)
      (fails_at (Sealed n a) anything P [] h.first h.rest e h.refused
      (λ zs e'. (a_sign n ∷ [], a, (refl, refl, refl), e', small))
      (λ more zs u r e' q. sealed_never a h.first more zs u h.other r))

  -- a part and the sign
  module _ {R : Reads A} {ends : Token → Bool} (P : A → Type 0) (stand : (s : Token) → IsSign n s → IsTrue (ends s)) where
    shut_joint : Joint R (Sealed n) ends anything P P
    shut_joint = record {
      starts = λ a ys zs t r e. sealed_starts ends stand a t ys zs r;
      down = λ a ys zs t r q. subst P (sealed_same a t ys zs r) q;
      close = a_sign n ∷ [];
      follows = λ zs e. stand (a_sign n) refl;
      closed = λ a zs e. (a, (refl, refl, refl), λ p. p);
    }

    pub shut_fails : (xs : Tokens) (e : ParseFault) → Fails R (λ _. ends) ends P xs e → Fails (Shut n R) (λ _. anything) anything P xs e
    shut_fails xs e f = gets_fault shut_joint xs e f

    pub shut_wrong : (xs ys : Tokens) (t : A) (e : ParseFault) → Found R (λ _. ends) xs t ys → P t → Lacks n ys e → Fails (Shut n R) (λ _. anything) anything P xs e
    shut_wrong xs ys t e g small h = gets_then shut_joint xs ys t (Err e) g (sealed_fails P t ys e small h)

    pub shut_gets : (xs ys : Tokens) (t : A) (zs : Bor Tokens) → Found R (λ _. ends) xs t ys → P t → Takes n ys zs.now → Gets (Shut n R) anything P xs (Ok (t, zs))
    shut_gets xs ys t zs g small h = gets_then shut_joint xs ys t (Ok (t, zs)) g (sealed_found t ys zs.now h, small)

  -- a part or none, and the sign
  module _ {R : Reads A} (P : A → Type 0) (skip : (s : Token) (xs zs : Tokens) (a : A) → IsSign n s → R (s ∷ xs) a zs → ⊥) (less : (xs zs : Tokens) (a : A) → R xs a zs → length zs ≤ length xs)
      (s : Token) (xs tokens : Tokens) (split : tokens ≡ s ∷ xs) where
    none_only : (h : IsSign n s) (ys zs : Tokens) (t : Option A) → MaybeShut n R (s ∷ ys) t zs → (t ≡ None) × (zs ≡ ys)
    none_only h ys zs None r = let e = r.1 in (refl, cc)
    none_only h ys zs (Some a) r = absurd (skip s ys r.1 r.0 h r.2)

    pub maybe_none : (zs : Bor Tokens) → IsSign n s → zs.now ≡ xs → Gets (MaybeShut n R) anything (Each P) tokens (Ok (None, zs))
    maybe_none zs h rest =
        let f : Found (MaybeShut n R) (λ _. anything) (s ∷ zs.now) None zs.now = record {
          front = s ∷ [];
          split = refl;
          reads = λ ys g. (s, refl, h);
          only = λ ys zs' t' g r e. none_only h ys zs' t' r;
        } in
        (subst (λ (x : Tokens). Found (MaybeShut n R) (λ _. anything) x None zs.now) (ap (λ (x : Tokens). s ∷ x) rest ∙ sym split) f, tt)

    abbrev Something : Reads (Option A)
    Something ys t zs = (a : A) × (t ≡ Some a) × Shut n R ys a zs

    something_same : Same [] (λ a. Some a) (Shut n R) Something anything P (Each P)
    something_same = record {
      into = λ ys zs a r. (a, refl, r);
      from = λ ys zs t r e. r;
      up = λ a p. p;
      down = λ a p. p;
    }

    something_from : (other : IsSign n s → ⊥) (ys zs : Tokens) (t : Option A) → MaybeShut n R (s ∷ ys) t zs → Something (s ∷ ys) t zs
    something_from other ys zs None r = absurd (other (let e = r.1 in let same : r.0 ≡ s = cc in subst (λ (x : Token). IsSign n x) same r.2))
    something_from other ys zs (Some a) r = (a, refl, r)

    something_into : (ys zs : Tokens) (t : Option A) → Something ys t zs → MaybeShut n R ys t zs
    something_into ys zs t r = subst (λ (u : Option A). MaybeShut n R ys u zs) (sym r.1) r.2

    shut_less : (ys zs : Tokens) (a : A) → Shut n R ys a zs → length zs < length ys
    shut_less ys zs a r = let d = less ys r.1 r.0 r.2 in let e = sealed_shorter r.0 a r.1 zs r.3 in omega (arith, d, e)

    something_choice : (other : IsSign n s → ⊥) → Choice s Something (MaybeShut n R) (λ _. anything)
    something_choice other = record {
      into = something_into;
      from = λ ys zs t r e. something_from other ys zs t r;
      solid = λ ys t r. let d = shut_less ys ys r.0 r.2 in absurd (omega (arith, d));
    }

    pub maybe_fails : (e : ParseFault) → (IsSign n s → ⊥) → Fails (Shut n R) (λ _. anything) anything P tokens e → Fails (MaybeShut n R) (λ _. anything) anything (Each P) tokens e
    maybe_fails e other f =
        let f' : Fails (Shut n R) (λ _. anything) anything P (s ∷ xs) e = subst (λ (x : Tokens). Fails (Shut n R) (λ _. anything) anything P x e) split f in
        subst (λ (x : Tokens). Fails (MaybeShut n R) (λ _. anything) anything (Each P) x e) (sym split)
        (fails_choice (something_choice other) anything (Each P) xs e (fails_image (image_of something_same) anything (s ∷ xs) e f'))

    pub maybe_some : (a : A) (zs : Bor Tokens) → (IsSign n s → ⊥) → Gets (Shut n R) anything P tokens (Ok (a, zs)) → Gets (MaybeShut n R) anything (Each P) tokens (Ok (Some a, zs))
    maybe_some a zs other g =
        let f : Found (Shut n R) (λ _. anything) (s ∷ xs) a zs.now = subst (λ (x : Tokens). Found (Shut n R) (λ _. anything) x a zs.now) split g.0 in
        (subst (λ (x : Tokens). Found (MaybeShut n R) (λ _. anything) x (Some a) zs.now) (sym split) (found_choice (something_choice other) (found_image (image_of something_same) f)), g.1)
