-- One reading as another on lists that begin with a certain token.
use Rattle.std.proofs.Common.{◌≡◌, ℕ, ◌≤◌, List, [], ◌∷◌, ◌++◌, Bool, not, IsTrue, refl, sym, ap, ◌∙◌, subst, inl, inr, ◌⊎◌, append_assoc}
use Rattle.jp_ast.specs.declared.token.Token.{Token}
use Rattle.jp_grammar.specs.declared.fault.ParseFault.{ParseFault}
use Rattle.jp_grammar.specs.Kinds.{Tokens}
use Rattle.jp_grammar.specs.Reading.{Reads, Ends, Any, Never, Viable, SameHead, Follows, Found, Fault, Fails, is_deep}

-- on lists that begin with s, S is R, which reads at least one token
pub record Choice {A : Type 0} (s : Token) (R S : Reads A) (ends : A → Token → Bool) : Type 0 where
  pub into : (xs zs : Tokens) (t : A) → R xs t zs → S xs t zs
  pub from : (xs zs : Tokens) (t : A) → S (s ∷ xs) t zs → Ends (ends t) zs → R (s ∷ xs) t zs
  pub solid : (xs : Tokens) (t : A) → R xs t xs → ⊥

same_cons : {s s' : Token} {xs xs' : Tokens} → s ∷ xs ≡ s' ∷ xs' → s' ≡ s
same_cons h = cc

same_self : (zs ys : Tokens) → SameHead zs ys → SameHead zs zs
same_self [] ys h = absurd h
same_self (z ∷ zs) ys h = refl

module _ {A : Type 0} {s : Token} {R S : Reads A} {ends : A → Token → Bool} (choice : Choice s R S ends) where
  from_front : (front ws zs xs : Tokens) (t : A) → s ∷ xs ≡ front ++ ws → (ys : Tokens) (zs' : Tokens) (t' : A) → R (front ++ ys) t ys → S (front ++ ys) t' zs' → Ends (ends t') zs' → R (front ++ ys) t' zs'
  from_front [] ws zs xs t split ys zs' t' solid r e = absurd (choice.solid ys t solid)
  from_front (s' ∷ front) ws zs xs t split ys zs' t' solid r e =
      let same : s' ≡ s = same_cons split in
      subst (λ (x : Token). R (x ∷ (front ++ ys)) t' zs') (sym same) (choice.from (front ++ ys) zs' t' (subst (λ (x : Token). S (x ∷ (front ++ ys)) t' zs') same r) e)

  pub found_choice : {xs zs : Tokens} {t : A} → Found R ends (s ∷ xs) t zs → Found S ends (s ∷ xs) t zs
  found_choice {xs} {zs} {t} g = record {
    front = g.front;
    split = g.split;
    reads = λ ys f. choice.into _ _ _ (g.reads ys f);
    only = λ ys zs' t' f r e. g.only ys zs' t' f (from_front g.front zs zs xs t g.split ys zs' t' (g.reads ys f) r e) e;
  }

  from_fault : (front : Tokens) (next : Token) (more xs : Tokens) → s ∷ xs ≡ front ++ next ∷ more → (more' zs' : Tokens) (t' : A) → S (front ++ next ∷ more') t' zs' → Ends (ends t') zs' → R (front ++ next ∷ more') t' zs'
  from_fault [] next more xs split more' zs' t' r e =
      let same : next ≡ s = same_cons split in
      subst (λ (x : Token). R (x ∷ more') t' zs') (sym same) (choice.from more' zs' t' (subst (λ (x : Token). S (x ∷ more') t' zs') same r) e)
  from_fault (s' ∷ front) next more xs split more' zs' t' r e =
      let same : s' ≡ s = same_cons split in
      subst (λ (x : Token). R (x ∷ (front ++ next ∷ more')) t' zs') (sym same) (choice.from (front ++ next ∷ more') zs' t' (subst (λ (x : Token). S (x ∷ (front ++ next ∷ more')) t' zs') same r) e)

  pub fault_choice : {follow : Token → Bool} {P : A → Type 0} {err : ParseFault} {xs : Tokens} → Fault R ends follow P err (s ∷ xs) → Fault S ends follow P err (s ∷ xs)
  fault_choice {follow} {P} {err} {xs} g = record {
    front = g.front;
    next = g.next;
    more = g.more;
    split = g.split;
    tells = g.tells;
    viable = λ zs e. let v = g.viable zs e in (v.0, v.1, choice.into _ _ _ v.2, v.3, v.4);
    never = λ more zs t r e q. g.never more zs t (from_fault g.front g.next g.more xs g.split more zs t r e) e q;
    never_deeper = λ h. λ more zs t r e q. g.never_deeper h more zs t (from_fault g.front g.next g.more xs g.split more zs t r e) e q;
    deeper = λ h. λ zs e. let v = g.deeper h zs e in (v.0, v.1, choice.into _ _ _ v.2, v.3, v.4);
  }

  pub fails_choice : (follow : Token → Bool) (P : A → Type 0) (xs : Tokens) (err : ParseFault) → Fails R ends follow P (s ∷ xs) err → Fails S ends follow P (s ∷ xs) err
  fails_choice follow P xs err (inl m) = inl m
  fails_choice follow P xs err (inr g) = inr (fault_choice g)
