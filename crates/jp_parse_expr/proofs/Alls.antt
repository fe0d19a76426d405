-- Parts of which nothing is too deep: one behind another, one as another, and fewer tokens behind.
use Rattle.std.proofs.Common.{◌≡◌, ℕ, ◌≤◌, List, [], ◌∷◌, ◌++◌, Bool, true, false, not, IsTrue, Result, Ok, Err, refl, sym, ap, ◌∙◌, subst, inl, inr, ◌⊎◌}
use Rattle.std.specs.Borrow.{Bor}
use Rattle.jp_ast.specs.declared.token.Token.{Token}
use Rattle.jp_grammar.specs.declared.fault.ParseFault.{ParseFault}
use Rattle.jp_grammar.specs.declared.fault.ParseFault.TheVariants.{OutOfMemory}
use Rattle.jp_grammar.specs.Kinds.{Tokens}
use Rattle.jp_grammar.specs.Reading.{Reads, Ends, Any, Never, Viable, SameHead, Follows, Found, Fault, Fails, FailsWithin, Gives, is_deep}
use Rattle.jp_grammar.proofs.Sequence.{Then, found_then, found_image, fails_first, fails_then, fails_image}
use Rattle.jp_grammar.proofs.Choice.{Choice, found_choice, fails_choice}
use Rattle.jp_grammar.proofs.Outcome.{Joint, Same, step_of, image_of}
use Rattle.jp_parse_expr.specs.GuardParts.{GivesAll}

-- S behind R
module _ {A B : Type 0} {R : Reads A} {S : A → Reads B} {endsR endsS : Token → Bool} (j : Joint R S endsR endsS Any Any) where
  pub all_then : (xs ys : Tokens) (a : A) (r : Result (B × Bor Tokens) ParseFault) → Found R (λ _. endsR) xs a ys → GivesAll (S a) endsS ys r → GivesAll (Then R S) endsS xs r
  all_then xs ys a (Ok x) g f = found_then (step_of j) g f
  all_then xs ys a (Err e) g f = fails_then (step_of j) xs ys a e g f

  pub all_begun : (xs : Tokens) (e : ParseFault) → Fails R (λ _. endsR) endsR Any xs e → Fails (Then R S) (λ _. endsS) endsS Any xs e
  all_begun xs e f = fails_first (step_of j) xs e f

-- one as another
module _ {A : Type 0} {before : Tokens} {R S : Reads A} {ends : Token → Bool} (i : Same before (λ a. a) R S ends Any Any) where
  pub all_same : (xs : Tokens) (r : Result (A × Bor Tokens) ParseFault) → GivesAll R ends xs r → GivesAll S ends (before ++ xs) r
  all_same xs (Ok x) g = found_image (image_of i) g
  all_same xs (Err e) g = fails_image (image_of i) ends xs e g

-- one as another, on lists that begin with a token
module _ {A : Type 0} {s : Token} {R S : Reads A} {ends : Token → Bool} (choice : Choice s R S (λ _. ends)) where
  pub all_choice : (xs : Tokens) (r : Result (A × Bor Tokens) ParseFault) → GivesAll R ends (s ∷ xs) r → GivesAll S ends (s ∷ xs) r
  all_choice xs (Ok x) g = found_choice choice g
  all_choice xs (Err e) g = fails_choice choice ends Any xs e g

-- ---- fewer tokens behind

module _ {ends fewer : Token → Bool} (some : (s : Token) → IsTrue (fewer s) → IsTrue (ends s)) where
  some_ends : (zs : Tokens) → Ends fewer zs → Ends ends zs
  some_ends [] e = absurd e
  some_ends (s ∷ zs) e = some s e

  some_follows : (zs ys : Tokens) → Follows fewer zs ys → Follows ends zs ys
  some_follows zs ys (inl e) = inl (some_ends ys e)
  some_follows zs ys (inr h) = inr h

  pub found_fewer : {A : Type 0} {R : Reads A} {xs zs : Tokens} {a : A} → Found R (λ _. ends) xs a zs → Found R (λ _. fewer) xs a zs
  found_fewer {A} {R} {xs} {zs} {a} g = record {
    front = g.front;
    split = g.split;
    reads = λ ys f. g.reads ys (some_follows zs ys f);
    only = λ ys zs' t' f r e. g.only ys zs' t' (some_follows zs ys f) r (some_ends zs' e);
  }

  fewer_viable : {A : Type 0} (R : Reads A) (P : A → Type 0) (front : Tokens) → Viable R (λ _. ends) ends P front → Viable R (λ _. fewer) fewer P front
  fewer_viable R P front v = λ zs e. let w = v zs (some_ends zs e) in (w.0, w.1, w.2, e, w.4)

  fewer_never : {A : Type 0} (R : Reads A) (P : A → Type 0) (front : Tokens) (next : Token) → Never R (λ _. ends) P front next → Never R (λ _. fewer) P front next
  fewer_never R P front next n = λ more zs t r e q. n more zs t r (some_ends zs e) q

  pub fails_fewer : {A : Type 0} {R : Reads A} {P : A → Type 0} {xs : Tokens} {e : ParseFault} → Fails R (λ _. ends) ends P xs e → Fails R (λ _. fewer) fewer P xs e
  fails_fewer (inl m) = inl m
  fails_fewer {A} {R} {P} {xs} {e} (inr g) = inr (record {
    front = g.front;
    next = g.next;
    more = g.more;
    split = g.split;
    tells = g.tells;
    viable = fewer_viable R P g.front g.viable;
    never = fewer_never R P g.front g.next g.never;
    never_deeper = λ h. fewer_never R Any g.front g.next (g.never_deeper h);
    deeper = λ h. fewer_viable R Any (g.front ++ g.next ∷ []) (g.deeper h);
  })

-- ---- a part of a certain depth

module _ {A : Type 0} {R : Reads A} {ends : Token → Bool} (depth : A → ℕ) (most : ℕ) (small : (xs zs : Tokens) (t : A) → R xs t zs → depth t ≤ most) where
  small_viable : (front : Tokens) → Viable R (λ _. ends) ends Any front → Viable R (λ _. ends) ends (λ t. depth t ≤ most) front
  small_viable front v = λ zs e. let w = v zs e in (w.0, w.1, w.2, w.3, small _ _ _ w.2)

  pub fails_small : (xs : Tokens) (e : ParseFault) → Fails R (λ _. ends) ends Any xs e → FailsWithin R depth ends most xs e
  fails_small xs e (inl m) = inl m
  fails_small xs e (inr g) = inr (record {
    front = g.front;
    next = g.next;
    more = g.more;
    split = g.split;
    tells = g.tells;
    viable = small_viable g.front g.viable;
    never = λ more zs t r e' q. g.never more zs t r e' tt;
    never_deeper = g.never_deeper;
    deeper = g.deeper;
  })
