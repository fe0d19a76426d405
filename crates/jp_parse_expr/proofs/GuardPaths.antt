-- Paths of guards.
use Rattle.std.proofs.Common.{◌≡◌, ℕ, Bool, true, false, not, IsTrue, List, [], ◌∷◌, ◌++◌, Result, Ok, Err, refl, sym, ap, ◌∙◌, subst, inl, inr, ◌⊎◌}
use Rattle.std.specs.Borrow.{Bor}
use Rattle.jp_ast.specs.declared.token.Token.{Token}
use Rattle.jp_ast.specs.declared.token.Lexeme.TheVariants as lexeme
use Rattle.jp_ast.specs.declared.guard.PathText.{PathText}
use Rattle.jp_ast.specs.declared.sign.TheConstants as sign
use Rattle.jp_grammar.specs.declared.kind.Kind.TheVariants as k
use Rattle.jp_grammar.specs.declared.fault.ParseFault.{ParseFault}
use Rattle.jp_grammar.specs.Kinds.{IsSign, IsName, Tokens, kind_of_token}
use Rattle.jp_grammar.specs.Guards.{Path, PathSteps, IsRoot, root_at, step_to, path, path_end, path_step}
use Rattle.jp_grammar.specs.Reading.{Ends, Any, SameHead, Follows, Found, Fails, Refused, RefusedName}
use Rattle.jp_grammar.proofs.Outcome.{Same, fails_at, found_nothing}
use Rattle.jp_grammar.proofs.Samples.{a_name, a_name_is}
use Rattle.jp_parse_expr.specs.BehindGuards.{path_kind, ends_path}
use Rattle.jp_parse_expr.specs.GuardParts.{GivesAll, RefusedRoot, is_root}
use Rattle.jp_parse_expr.proofs.Alls.{all_same}
use Rattle.jp_parse_expr.proofs.GuardFacts.{a_path, path_name, path_begins}
use Rattle.jp_parse_expr.proofs.Rules.{name_fails}

-- what a function answers that reads a path
abbrev pub ReadPath : Type 0
ReadPath = Result (PathText × Bor Tokens) ParseFault

-- ---- steps

module _ (p : PathText) (s : Token) (xs tokens : Tokens) (split : tokens ≡ s ∷ xs) where
  stop_only : (ys zs : Tokens) (q : PathText) → (IsSign sign.DOT s → ⊥) → Follows ends_path (s ∷ xs) ys → PathSteps p ys q zs → (q ≡ p) × (zs ≡ ys)
  stop_only ys zs q other f path_end = (refl, refl)
  stop_only ys zs q other (inl e) (path_step h n r) = absurd (let g = ap path_kind h in cc)
  stop_only ys zs q other (inr same) (path_step h n r) = absurd (other (subst (λ (x : Token). IsSign sign.DOT x) same h))

  pub path_stops : (IsSign sign.DOT s → ⊥) → Found (PathSteps p) (λ _. ends_path) tokens p tokens
  path_stops other = subst (λ (x : Tokens). Found (PathSteps p) (λ _. ends_path) x p x) (sym split)
      (found_nothing (PathSteps p) ends_path (s ∷ xs) p (λ ys. path_end) (λ ys zs q f r e. stop_only ys zs q other f r))

module _ (p : PathText) (s c : Token) (xs ys tokens : Tokens) (split : tokens ≡ s ∷ ys) (next : ys ≡ c ∷ xs) (h : IsSign sign.DOT s) where
  both : tokens ≡ s ∷ c ∷ xs
  both = split ∙ ap (λ (x : Tokens). s ∷ x) next

  step_never : (more zs : Tokens) (q : PathText) → (kind_of_token c ≡ k.Name → ⊥) → PathSteps p (s ∷ c ∷ more) q zs → Ends ends_path zs → ⊥
  step_never more zs q other path_end e = let g = ap path_kind h in cc
  step_never more zs q other (path_step h' n r) e = other n.1

  -- no name stands behind the dot
  pub step_wrong : (e : ParseFault) → RefusedName c e → Fails (PathSteps p) (λ _. ends_path) ends_path Any tokens e
  step_wrong e r = subst (λ (x : Tokens). Fails (PathSteps p) (λ _. ends_path) ends_path Any x e) (sym both)
      (name_fails c r (λ other w. fails_at (PathSteps p) ends_path Any (s ∷ []) c xs e w
      (λ zs e'. (a_name ∷ [], step_to p (97 ∷ []), path_step h a_name_is path_end, e', tt))
      (λ more zs q d e' t. step_never more zs q other d e')))

  step_from : (word : List ℕ) (ws zs : Tokens) (q : PathText) → IsName word c → PathSteps p (s ∷ c ∷ ws) q zs → Ends ends_path zs → PathSteps (step_to p word) ws q zs
  step_from word ws zs q n path_end e = let g = ap path_kind h in cc
  step_from word ws zs q n (path_step {name = word'} h' n' r) e =
      let same : word' ≡ word = cc in
      subst (λ (x : List ℕ). PathSteps (step_to p x) ws q zs) same r

  step_same : (word : List ℕ) → IsName word c → Same (s ∷ c ∷ []) (λ q. q) (PathSteps (step_to p word)) (PathSteps p) ends_path Any Any
  step_same word n = record {
    into = λ ws zs q r. path_step h n r;
    from = λ ws zs q r e. (q, refl, step_from word ws zs q n r e);
    up = λ a t. t;
    down = λ a t. t;
  }

  -- further steps behind a name
  pub step_gives : (word : List ℕ) (r : ReadPath) → IsName word c → GivesAll (PathSteps (step_to p word)) ends_path xs r → GivesAll (PathSteps p) ends_path tokens r
  step_gives word r n f = subst (λ (x : Tokens). GivesAll (PathSteps p) ends_path x r) (sym both) (all_same (step_same word n) xs r f)

-- ---- paths

root_no : (s : Token) {word : List ℕ} → IsTrue (not (is_root (kind_of_token s))) → IsRoot word s → ⊥
root_no s none (e, inl h) = let g = ap is_root h in cc
root_no s none (e, inr h) = let g = ap is_root h in cc

root_never : (s : Token) (more zs : Tokens) (q : PathText) → IsTrue (not (is_root (kind_of_token s))) → Path (s ∷ more) q zs → ⊥
root_never s more zs q none (path root r) = root_no s none root

module _ (s : Token) (xs tokens : Tokens) (split : tokens ≡ s ∷ xs) where
  -- no path stands there
  root_wrong : (e : ParseFault) → RefusedRoot s e → Fails Path (λ _. ends_path) ends_path Any (s ∷ xs) e
  root_wrong e (inl m) = inl m
  root_wrong e (inr r) = fails_at Path ends_path Any [] s xs e r.1
      (λ zs e'. (a_name ∷ [], a_path, path_name zs, e', tt))
      (λ more zs q d e' t. root_never s more zs q r.0 d)

  pub path_wrong : (e : ParseFault) → RefusedRoot s e → Fails Path (λ _. ends_path) ends_path Any tokens e
  path_wrong e r = subst (λ (x : Tokens). Fails Path (λ _. ends_path) ends_path Any x e) (sym split) (root_wrong e r)

  path_from : (word : List ℕ) (ys zs : Tokens) (q : PathText) → IsRoot word s → Path (s ∷ ys) q zs → PathSteps (root_at s.place word) ys q zs
  path_from word ys zs q root (path {word = word'} root' r) =
      let same : word' ≡ word = cc (root'.0, root.0) in
      subst (λ (x : List ℕ). PathSteps (root_at s.place x) ys q zs) same r

  path_same : (word : List ℕ) → IsRoot word s → Same (s ∷ []) (λ q. q) (PathSteps (root_at s.place word)) Path ends_path Any Any
  path_same word root = record {
    into = λ ys zs q r. path root r;
    from = λ ys zs q r e. (q, refl, path_from word ys zs q root r);
    up = λ a t. t;
    down = λ a t. t;
  }

  -- the steps behind the root
  pub path_gives : (word : List ℕ) (r : ReadPath) → IsRoot word s → GivesAll (PathSteps (root_at s.place word)) ends_path xs r → GivesAll Path ends_path tokens r
  path_gives word r root f = subst (λ (x : Tokens). GivesAll Path ends_path x r) (sym split) (all_same (path_same word root) xs r f)
