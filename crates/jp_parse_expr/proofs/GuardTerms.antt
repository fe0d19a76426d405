-- Terms of guards: numbers, paths, and products of both.
use Rattle.std.proofs.Common.{◌≡◌, ℕ, Bool, true, false, not, IsTrue, List, [], ◌∷◌, ◌++◌, length, Option, Some, None, Result, Ok, Err, refl, sym, ap, ◌∙◌, subst, inl, inr, ◌⊎◌, arith}
use Rattle.std.specs.Borrow.{Bor}
use Rattle.jp_ast.specs.declared.token.Place.{Place}
use Rattle.jp_ast.specs.declared.token.Token.{Token}
use Rattle.jp_ast.specs.declared.token.Lexeme.TheVariants as lexeme
use Rattle.jp_ast.specs.declared.guard.PathText.{PathText}
use Rattle.jp_ast.specs.declared.guard.Summand.{Summand}
use Rattle.jp_ast.specs.declared.sign.TheConstants as sign
use Rattle.jp_grammar.specs.declared.kind.Kind.{Kind}
use Rattle.jp_grammar.specs.declared.kind.Kind.TheVariants as k
use Rattle.jp_grammar.specs.declared.fault.ParseFault.{ParseFault}
use Rattle.jp_grammar.specs.Kinds.{IsSign, IsNumber, Tokens, kind_of_token, kind_of_lexeme}
use Rattle.jp_grammar.specs.Guards.{Path, Term, summand_at, constant, variable, factor_first, factor_last}
use Rattle.jp_grammar.specs.Reading.{Ends, Any, SameHead, Follows, Found, Fails, Refused}
use Rattle.jp_grammar.proofs.Sequence.{Then, found_image, fails_image}
use Rattle.jp_grammar.proofs.Choice.{Choice}
use Rattle.jp_grammar.proofs.Outcome.{Joint, Same, image_of, fails_at, found_nothing}
use Rattle.jp_grammar.proofs.Samples.{a_number, a_name}
use Rattle.jp_parse_expr.specs.BehindGuards.{path_kind, ends_path, term_kind, ends_term}
use Rattle.jp_parse_expr.specs.GuardParts.{GivesAll, Scaled, Multiplied, unscaled, scaled, unmultiplied, multiplied, is_root}
use Rattle.jp_parse_expr.proofs.Alls.{all_same, all_then, all_begun, all_choice, found_fewer, fails_fewer}
use Rattle.jp_parse_expr.proofs.GuardEnds.{term_path, each}
use Rattle.jp_parse_expr.proofs.GuardFacts.{a_path, path_name, path_begins, path_shorter, scaled_shorter}

-- what a function answers that reads a term
abbrev pub ReadTerm : Type 0
ReadTerm = Result (Summand × Bor Tokens) ParseFault

-- ---- a number, and the path behind `*`

module _ (at : Place) (negative : Bool) (value : ℕ) (hex : Bool) (s : Token) (xs tokens : Tokens) (split : tokens ≡ s ∷ xs) where
  single_only : (ys zs : Tokens) (a : Summand) → (IsSign sign.TIMES s → ⊥) → Follows ends_term (s ∷ xs) ys → Multiplied at negative value hex ys a zs → (a ≡ summand_at at negative (Some (value, hex)) None) × (zs ≡ ys)
  single_only ys zs a other f unmultiplied = (refl, refl)
  single_only ys zs a other (inl e) (multiplied h p) = absurd (let g = ap term_kind h in cc)
  single_only ys zs a other (inr same) (multiplied h p) = absurd (other (subst (λ (x : Token). IsSign sign.TIMES x) same h))

  pub number_alone : (IsSign sign.TIMES s → ⊥) → Found (Multiplied at negative value hex) (λ _. ends_term) tokens (summand_at at negative (Some (value, hex)) None) tokens
  number_alone other = subst (λ (x : Tokens). Found (Multiplied at negative value hex) (λ _. ends_term) x (summand_at at negative (Some (value, hex)) None) x) (sym split)
      (found_nothing (Multiplied at negative value hex) ends_term (s ∷ xs) (summand_at at negative (Some (value, hex)) None) (λ ys. unmultiplied) (λ ys zs a f r e. single_only ys zs a other f r))

  product_from : (ys zs : Tokens) (a : Summand) → IsSign sign.TIMES s → Multiplied at negative value hex (s ∷ ys) a zs → Ends ends_term zs → (p : PathText) × (a ≡ summand_at at negative (Some (value, hex)) (Some p)) × Path ys p zs
  product_from ys zs a h unmultiplied e = let g = ap term_kind h in cc
  product_from ys zs a h (multiplied {p = p} h' q) e = (p, refl, q)

  product_same : IsSign sign.TIMES s → Same (s ∷ []) (λ p. summand_at at negative (Some (value, hex)) (Some p)) Path (Multiplied at negative value hex) ends_term Any Any
  product_same h = record {
    into = λ ys zs p q. multiplied h q;
    from = λ ys zs a r e. product_from ys zs a h r e;
    up = λ a t. tt;
    down = λ a t. tt;
  }

  pub product_found : (p : PathText) (zs : Tokens) → IsSign sign.TIMES s → Found Path (λ _. ends_path) xs p zs → Found (Multiplied at negative value hex) (λ _. ends_term) tokens (summand_at at negative (Some (value, hex)) (Some p)) zs
  product_found p zs h f = subst (λ (x : Tokens). Found (Multiplied at negative value hex) (λ _. ends_term) x (summand_at at negative (Some (value, hex)) (Some p)) zs) (sym split)
      (found_image (image_of (product_same h)) (found_fewer term_path f))

  pub product_fails : (e : ParseFault) → IsSign sign.TIMES s → Fails Path (λ _. ends_path) ends_path Any xs e → Fails (Multiplied at negative value hex) (λ _. ends_term) ends_term Any tokens e
  product_fails e h f = subst (λ (x : Tokens). Fails (Multiplied at negative value hex) (λ _. ends_term) ends_term Any x e) (sym split)
      (fails_image (image_of (product_same h)) ends_term xs e (fails_fewer term_path f))

-- ---- a path, and the number behind `*`

module _ (at : Place) (negative : Bool) (p : PathText) (s : Token) (xs tokens : Tokens) (split : tokens ≡ s ∷ xs) where
  alone_only : (ys zs : Tokens) (a : Summand) → (IsSign sign.TIMES s → ⊥) → Follows ends_term (s ∷ xs) ys → Scaled at negative p ys a zs → (a ≡ summand_at at negative None (Some p)) × (zs ≡ ys)
  alone_only ys zs a other f unscaled = (refl, refl)
  alone_only ys zs a other (inl e) (scaled h n) = absurd (let g = ap term_kind h in cc)
  alone_only ys zs a other (inr same) (scaled h n) = absurd (other (subst (λ (x : Token). IsSign sign.TIMES x) same h))

  pub path_alone : (IsSign sign.TIMES s → ⊥) → Found (Scaled at negative p) (λ _. ends_term) tokens (summand_at at negative None (Some p)) tokens
  path_alone other = subst (λ (x : Tokens). Found (Scaled at negative p) (λ _. ends_term) x (summand_at at negative None (Some p)) x) (sym split)
      (found_nothing (Scaled at negative p) ends_term (s ∷ xs) (summand_at at negative None (Some p)) (λ ys. unscaled) (λ ys zs a f r e. alone_only ys zs a other f r))

module _ (at : Place) (negative : Bool) (p : PathText) (s n : Token) (xs ys tokens : Tokens) (split : tokens ≡ s ∷ ys) (next : ys ≡ n ∷ xs) (h : IsSign sign.TIMES s) where
  both : tokens ≡ s ∷ n ∷ xs
  both = split ∙ ap (λ (x : Tokens). s ∷ x) next

  factor_never : (more zs : Tokens) (a : Summand) → ((value : ℕ) (hex : Bool) → IsNumber value hex n → ⊥) → Scaled at negative p (s ∷ n ∷ more) a zs → Ends ends_term zs → ⊥
  factor_never more zs a other unscaled e = let g = ap term_kind h in cc
  factor_never more zs a other (scaled {hex = hex} {value = value} h' i) e = other value hex i

  -- no number stands behind `*`
  pub factor_wrong : (e : ParseFault) → ((value : ℕ) (hex : Bool) → IsNumber value hex n → ⊥) → Refused n e → Fails (Scaled at negative p) (λ _. ends_term) ends_term Any tokens e
  factor_wrong e other r = subst (λ (x : Tokens). Fails (Scaled at negative p) (λ _. ends_term) ends_term Any x e) (sym both)
      (fails_at (Scaled at negative p) ends_term Any (s ∷ []) n xs e r
      (λ zs e'. (a_number ∷ [], summand_at at negative (Some (0, false)) (Some p), scaled h refl, e', tt))
      (λ more zs a d e' t. factor_never more zs a other d e'))

  factor_only : (value : ℕ) (hex : Bool) (ws zs : Tokens) (a : Summand) → IsNumber value hex n → Scaled at negative p (s ∷ n ∷ ws) a zs → Ends ends_term zs → (a ≡ summand_at at negative (Some (value, hex)) (Some p)) × (zs ≡ ws)
  factor_only value hex ws zs a i unscaled e = let g = ap term_kind h in cc
  factor_only value hex ws zs a i (scaled {hex = hex'} {value = value'} h' i') e =
      let g : lexeme.Number value' hex' ≡ lexeme.Number value hex = sym i' ∙ i in
      let v : value' ≡ value = cc in
      let x : hex' ≡ hex = cc in
      (cc, refl)

  pub factor_found : (value : ℕ) (hex : Bool) → IsNumber value hex n → Found (Scaled at negative p) (λ _. ends_term) tokens (summand_at at negative (Some (value, hex)) (Some p)) xs
  factor_found value hex i = record {
    front = s ∷ n ∷ [];
    split = both;
    reads = λ ws f. scaled h i;
    only = λ ws zs a f r e. factor_only value hex ws zs a i r e;
  }

-- ---- terms

number_root : {s : Token} {value : ℕ} {hex : Bool} {p : PathText} {ys zs : Tokens} → IsNumber value hex s → Path (s ∷ ys) p zs → ⊥
number_root {s = s} i p = let b : IsTrue (is_root (kind_of_token s)) = path_begins p in let g : is_root (kind_of_token s) ≡ false = ap (λ l. is_root (kind_of_lexeme l)) i in cc

pub scaled_term : (at : Place) (negative : Bool) (p : PathText) (ws ys zs : Tokens) (a : Summand) → Path ws p ys → Scaled at negative p ys a zs → Term at negative ws a zs
scaled_term at negative p ws ys zs a q unscaled = variable q
scaled_term at negative p ws ys zs a q (scaled m i) = factor_last q m i

pub term_scaled : (at : Place) (negative : Bool) (s : Token) (ys zs : Tokens) (a : Summand) → ((value : ℕ) (hex : Bool) → IsNumber value hex s → ⊥) → Term at negative (s ∷ ys) a zs → Then Path (Scaled at negative) (s ∷ ys) a zs
term_scaled at negative s ys zs a other (constant {hex = hex} {value = value} i) = absurd (other value hex i)
term_scaled at negative s ys zs a other (variable {p = p} q) = (p, zs, q, unscaled)
term_scaled at negative s ys zs a other (factor_first {hex = hex} {value = value} i m q) = absurd (other value hex i)
term_scaled at negative s ys zs a other (factor_last {s = n} {m = m} {p = p} q h i) = (p, m ∷ n ∷ zs, q, scaled h i)

module _ (at : Place) (negative : Bool) (s : Token) (xs tokens : Tokens) (split : tokens ≡ s ∷ xs) where
  number_into : (value : ℕ) (hex : Bool) (ys zs : Tokens) (a : Summand) → IsNumber value hex s → Multiplied at negative value hex ys a zs → Term at negative (s ∷ ys) a zs
  number_into value hex ys zs a i unmultiplied = constant i
  number_into value hex ys zs a i (multiplied h p) = factor_first i h p

  same_number : (value value' : ℕ) (hex hex' : Bool) → IsNumber value hex s → IsNumber value' hex' s → (value' ≡ value) × (hex' ≡ hex)
  same_number value value' hex hex' i i' =
      let g : lexeme.Number value' hex' ≡ lexeme.Number value hex = sym i' ∙ i in
      (cc, cc)

  number_from : (value : ℕ) (hex : Bool) (ys zs : Tokens) (a : Summand) → IsNumber value hex s → Term at negative (s ∷ ys) a zs → Multiplied at negative value hex ys a zs
  number_from value hex ys zs a i (constant {hex = hex'} {value = value'} i') =
      let e = same_number value value' hex hex' i i' in
      subst (λ (x : ℕ). Multiplied at negative x hex ys (summand_at at negative (Some (value', hex')) None) zs) e.0
      (subst (λ (x : Bool). Multiplied at negative value' x ys (summand_at at negative (Some (value', hex')) None) zs) e.1 unmultiplied)
  number_from value hex ys zs a i (variable p) = absurd (number_root i p)
  number_from value hex ys zs a i (factor_first {hex = hex'} {value = value'} {p = p} i' m q) =
      let e = same_number value value' hex hex' i i' in
      subst (λ (x : ℕ). Multiplied at negative x hex ys (summand_at at negative (Some (value', hex')) (Some p)) zs) e.0
      (subst (λ (x : Bool). Multiplied at negative value' x ys (summand_at at negative (Some (value', hex')) (Some p)) zs) e.1 (multiplied m q))
  number_from value hex ys zs a i (factor_last p m n) = absurd (number_root i p)

  number_same : (value : ℕ) (hex : Bool) → IsNumber value hex s → Same (s ∷ []) (λ a. a) (Multiplied at negative value hex) (Term at negative) ends_term Any Any
  number_same value hex i = record {
    into = λ ys zs a r. number_into value hex ys zs a i r;
    from = λ ys zs a r e. (a, refl, number_from value hex ys zs a i r);
    up = λ a t. t;
    down = λ a t. t;
  }

  -- a term that begins with a number
  pub number_gives : (value : ℕ) (hex : Bool) (r : ReadTerm) → IsNumber value hex s → GivesAll (Multiplied at negative value hex) ends_term xs r → GivesAll (Term at negative) ends_term tokens r
  number_gives value hex r i f = subst (λ (x : Tokens). GivesAll (Term at negative) ends_term x r) (sym split) (all_same (number_same value hex i) xs r f)

  scaled_solid : (ys : Tokens) (a : Summand) → Then Path (Scaled at negative) ys a ys → ⊥
  scaled_solid ys a r = let b = path_shorter r.2 in let c = scaled_shorter r.3 in absurd (omega (arith, b, c))

  scaled_choice : ((value : ℕ) (hex : Bool) → IsNumber value hex s → ⊥) → Choice s (Then Path (Scaled at negative)) (Term at negative) (λ _. ends_term)
  scaled_choice other = record {
    into = λ ys zs a r. scaled_term at negative r.0 ys r.1 zs a r.2 r.3;
    from = λ ys zs a r e. term_scaled at negative s ys zs a other r;
    solid = λ ys a r. scaled_solid ys a r;
  }

  scaled_starts : (p : PathText) (ys zs : Tokens) (a : Summand) → Scaled at negative p ys a zs → Ends ends_term zs → Ends ends_path ys
  scaled_starts p ys zs a unscaled e = each term_path ys e
  scaled_starts p ys zs a (scaled m i) e = ap path_kind m

  scaled_joint : Joint Path (Scaled at negative) ends_path ends_term Any Any
  scaled_joint = record {
    starts = λ p ys zs a r e. scaled_starts p ys zs a r e;
    down = λ p ys zs a r q. tt;
    close = [];
    follows = λ zs e. each term_path zs e;
    closed = λ p zs e. (summand_at at negative None (Some p), unscaled, λ t. tt);
  }

  -- the path fails
  pub path_fails : (e : ParseFault) → ((value : ℕ) (hex : Bool) → IsNumber value hex s → ⊥) → Fails Path (λ _. ends_path) ends_path Any tokens e → Fails (Term at negative) (λ _. ends_term) ends_term Any tokens e
  path_fails e other f = subst (λ (x : Tokens). Fails (Term at negative) (λ _. ends_term) ends_term Any x e) (sym split)
      (all_choice (scaled_choice other) xs (Err e) (all_begun scaled_joint (s ∷ xs) e (subst (λ (x : Tokens). Fails Path (λ _. ends_path) ends_path Any x e) split f)))

  -- what stands behind the path
  pub path_scales : (p : PathText) (ys : Tokens) (r : ReadTerm) → ((value : ℕ) (hex : Bool) → IsNumber value hex s → ⊥) → Found Path (λ _. ends_path) tokens p ys → GivesAll (Scaled at negative p) ends_term ys r → GivesAll (Term at negative) ends_term tokens r
  path_scales p ys r other g f = subst (λ (x : Tokens). GivesAll (Term at negative) ends_term x r) (sym split)
      (all_choice (scaled_choice other) xs r (all_then scaled_joint (s ∷ xs) ys p r (subst (λ (x : Tokens). Found Path (λ _. ends_path) x p ys) split g) f))
