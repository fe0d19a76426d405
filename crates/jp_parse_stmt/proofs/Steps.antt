-- Parts read one behind the other, and parts read as others.
use Rattle.std.proofs.Common.{[], ◌∷◌, ◌++◌, Bool, Result, Ok, Err, inl, inr}
use Rattle.std.specs.Borrow.{Bor}
use Rattle.jp_ast.specs.declared.token.Token.{Token}
use Rattle.jp_grammar.specs.declared.fault.ParseFault.{ParseFault}
use Rattle.jp_grammar.specs.Kinds.{Tokens}
use Rattle.jp_grammar.specs.Reading.{Reads, Ends, Any, Follows, Found, Fault, Fails}
use Rattle.jp_grammar.proofs.Sequence.{Then, found_then, found_image, fails_first, fails_then, fails_image}
use Rattle.jp_grammar.proofs.Outcome.{Joint, Same, step_of, image_of}
use Rattle.jp_parse_stmt.specs.Parts.{Gets}

follows_less : (ends fewer : Token → Bool) → ((zs : Tokens) → Ends fewer zs → Ends ends zs) → (zs ys : Tokens) → Follows fewer zs ys → Follows ends zs ys
follows_less ends fewer less zs ys (inl e) = inl (less ys e)
follows_less ends fewer less zs ys (inr h) = inr h

-- where fewer tokens may stand behind
module _ {A : Type 0} {R : Reads A} {ends fewer : Token → Bool} (less : (zs : Tokens) → Ends fewer zs → Ends ends zs) where
  pub found_fewer : {xs zs : Tokens} {t : A} → Found R (λ _. ends) xs t zs → Found R (λ _. fewer) xs t zs
  found_fewer {xs} {zs} {t} g = record {
    front = g.front;
    split = g.split;
    reads = λ ys f. g.reads ys (follows_less ends fewer less zs ys f);
    only = λ ys zs' t' f r e. g.only ys zs' t' (follows_less ends fewer less zs ys f) r (less zs' e);
  }

  fault_fewer : {P : A → Type 0} {e : ParseFault} {xs : Tokens} → Fault R (λ _. ends) ends P e xs → Fault R (λ _. fewer) fewer P e xs
  fault_fewer {P} {e} {xs} g = record {
    front = g.front;
    next = g.next;
    more = g.more;
    split = g.split;
    tells = g.tells;
    viable = λ zs f. let v : (more : Tokens) × (t : A) × R (g.front ++ (more ++ zs)) t zs × Ends ends zs × P t = g.viable zs (less zs f) in (v.0, v.1, v.2, f, v.4);
    never = λ more zs t r f q. g.never more zs t r (less zs f) q;
    never_deeper = λ h. λ more zs t r f q. g.never_deeper h more zs t r (less zs f) q;
    deeper = λ h. λ zs f. let v : (more : Tokens) × (t : A) × R ((g.front ++ g.next ∷ []) ++ (more ++ zs)) t zs × Ends ends zs × Any t = g.deeper h zs (less zs f) in (v.0, v.1, v.2, f, tt);
  }

  pub fails_fewer : {P : A → Type 0} (e : ParseFault) (xs : Tokens) → Fails R (λ _. ends) ends P xs e → Fails R (λ _. fewer) fewer P xs e
  fails_fewer e xs (inl m) = inl m
  fails_fewer e xs (inr g) = inr (fault_fewer g)

-- a part behind another
module _ {A B : Type 0} {R : Reads A} {S : A → Reads B} {endsR endsS : Token → Bool} {P : A → Type 0} {Q : B → Type 0} (j : Joint R S endsR endsS P Q) where
  pub gets_then : (xs ys : Tokens) (a : A) (r : Result (B × Bor Tokens) ParseFault) → Found R (λ _. endsR) xs a ys → Gets (S a) endsS Q ys r → Gets (Then R S) endsS Q xs r
  gets_then xs ys a (Ok x) g f = (found_then (step_of j) g f.0, f.1)
  gets_then xs ys a (Err e) g f = fails_then (step_of j) xs ys a e g f

  pub gets_fault : (xs : Tokens) (e : ParseFault) → Fails R (λ _. endsR) endsR P xs e → Fails (Then R S) (λ _. endsS) endsS Q xs e
  gets_fault xs e f = fails_first (step_of j) xs e f

-- a part as another
module _ {A : Type 0} {before : Tokens} {R S : Reads A} {ends : Token → Bool} {P : A → Type 0} (i : Same before (λ a. a) R S ends P P) where
  pub gets_same : (xs : Tokens) (r : Result (A × Bor Tokens) ParseFault) → Gets R ends P xs r → Gets S ends P (before ++ xs) r
  gets_same xs (Ok x) g = (found_image (image_of i) g.0, g.1)
  gets_same xs (Err e) g = fails_image (image_of i) ends xs e g
