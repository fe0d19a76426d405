-- One of two readings, which the first tokens tell apart.
use Rattle.std.proofs.Common.{◌≡◌, [], ◌∷◌, ◌++◌, Bool, true, false, refl, sym, ap, ◌∙◌, inl, inr, ◌⊎◌}
use Rattle.jp_ast.specs.declared.token.Token.{Token}
use Rattle.jp_grammar.specs.declared.fault.ParseFault.{ParseFault}
use Rattle.jp_grammar.specs.Kinds.{Tokens}
use Rattle.jp_grammar.specs.Reading.{Reads, Ends, Any, Never, Found, Fault, Fails}

-- S is R where the test of the tokens gives b. Where it depends on what comes behind a token, R goes on with that token.
pub record Branch {A : Type 0} (d : Tokens → Bool) (b : Bool) (R S : Reads A) (ends : Token → Bool) (P : A → Type 0) : Type 0 where
  pub into : (xs zs : Tokens) (t : A) → R xs t zs → S xs t zs
  pub from : (xs zs : Tokens) (t : A) → S xs t zs → Ends ends zs → d xs ≡ b → R xs t zs
  pub decided : (xs zs : Tokens) (t : A) → R xs t zs → d xs ≡ b
  pub open_to : (front : Tokens) (next : Token) (more more' : Tokens) → d (front ++ next ∷ more) ≡ b → (d (front ++ next ∷ more') ≡ b → ⊥) →
      (m : Tokens) × (zs : Tokens) × (t : A) × R (front ++ next ∷ m) t zs × Ends ends zs × P t

same_or : (x y : Bool) → (x ≡ y) ⊎ (x ≡ y → ⊥)
same_or true true = inl refl
same_or false false = inl refl
same_or true false = inr (λ e. cc)
same_or false true = inr (λ e. cc)

module _ {A : Type 0} {d : Tokens → Bool} {b : Bool} {R S : Reads A} {ends : Token → Bool} {P : A → Type 0} (branch : Branch d b R S ends P) where
  pub found_branch : {xs zs : Tokens} {t : A} → Found R (λ _. ends) xs t zs → Found S (λ _. ends) xs t zs
  found_branch {xs} {zs} {t} g = record {
    front = g.front;
    split = g.split;
    reads = λ ys f. branch.into _ _ _ (g.reads ys f);
    only = λ ys zs' t' f r e. g.only ys zs' t' f (branch.from _ _ _ r e (branch.decided _ _ _ (g.reads ys f))) e;
  }

  branch_never : (Q : A → Type 0) (front : Tokens) (next : Token) (more : Tokens) → d (front ++ next ∷ more) ≡ b → Never R (λ _. ends) P front next → Never R (λ _. ends) Q front next → Never S (λ _. ends) Q front next
  branch_never Q front next more same never never' more' zs t r e q = elim (same_or (d (front ++ next ∷ more')) b) [
    | inl h ↦ never' more' zs t (branch.from _ _ _ r e h) e q
    | inr h ↦ let o = branch.open_to front next more more' same h in never o.0 o.1 o.2 o.3 o.4 o.5
  ]

  fault_branch : {e : ParseFault} {xs : Tokens} → d xs ≡ b → Fault R (λ _. ends) ends P e xs → Fault S (λ _. ends) ends P e xs
  fault_branch {e} {xs} same g =
      let here : d (g.front ++ g.next ∷ g.more) ≡ b = sym (ap d g.split) ∙ same in
      record {
        front = g.front;
        next = g.next;
        more = g.more;
        split = g.split;
        tells = g.tells;
        viable = λ zs f. let v : (more : Tokens) × (t : A) × R (g.front ++ (more ++ zs)) t zs × Ends ends zs × P t = g.viable zs f in (v.0, v.1, branch.into _ _ _ v.2, v.3, v.4);
        never = branch_never P g.front g.next g.more here g.never g.never;
        never_deeper = λ h. branch_never Any g.front g.next g.more here g.never (g.never_deeper h);
        deeper = λ h. λ zs f. let v : (more : Tokens) × (t : A) × R ((g.front ++ g.next ∷ []) ++ (more ++ zs)) t zs × Ends ends zs × Any t = g.deeper h zs f in (v.0, v.1, branch.into _ _ _ v.2, v.3, v.4);
      }

  pub fails_branch : (xs : Tokens) (e : ParseFault) → d xs ≡ b → Fails R (λ _. ends) ends P xs e → Fails S (λ _. ends) ends P xs e
  fails_branch xs e same (inl m) = inl m
  fails_branch xs e same (inr g) = inr (fault_branch same g)
