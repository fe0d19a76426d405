-- Paths and sums of guards read back.
use Rattle.std.proofs.Common.{◌≡◌, ℕ, Bool, true, false, List, [], ◌∷◌, ◌++◌, map, Option, Some, None, refl, sym, ap, ◌∙◌, subst, append_assoc, arith, inl, inr, ◌⊎◌, IsTrue}
use Rattle.std.specs.Prelude.{if◌then◌else◌, flat_map, option_map}
use Rattle.std.specs.List.{AllByRecursion}
use Rattle.std.proofs.lemmas.List.{append-nil}
use Rattle.jp_ast.specs.declared.token.Place.{Place}
use Rattle.jp_ast.specs.declared.token.Token.{Token}
use Rattle.jp_ast.specs.declared.token.Lexeme.{Lexeme}
use Rattle.jp_ast.specs.declared.token.Lexeme.TheVariants.{Word, Number, Sign}
use Rattle.jp_ast.specs.declared.guard.PathText.{PathText}
use Rattle.jp_ast.specs.declared.guard.Summand.{Summand}
use Rattle.jp_ast.specs.declared.sign.TheConstants as sign
use Rattle.jp_grammar.specs.declared.kind.Kind.{Kind}
use Rattle.jp_grammar.specs.declared.kind.Kind.TheVariants as k
use Rattle.jp_grammar.specs.Kinds.{Is, Tokens, place_of, nowhere, kind_of_word, kind_of_lexeme}
use Rattle.jp_grammar.specs.Guards.{IsRoot, IsSummandSign, Path, PathSteps, Term, Lin, Terms, root_at, step_to, summand_at, path, path_end, path_step, constant, variable, factor_first, factor_last, lin_negative, lin, terms_end, terms_more}
use Rattle.jp_print.specs.Expressions.{dot_name, maybe}
use Rattle.jp_print.specs.Guards.{path_tokens, number_token, term_tokens, first_summand, next_summand, sum_tokens}
use Rattle.jp_print.specs.Places.{unplaced_path, unplaced_summand}
use Rattle.jp_print.specs.ReadsBack.{HasForm, IsFormed}
use Rattle.jp_print.proofs.Forms.{Formed, FormedTokens, formed_append, Nameable, nameable, has_form, is_name, is_sign, sign_formed}
use Rattle.jp_print.proofs.Goes.{Goes, done, next, parted, Reading, pushed, all_pushed}

-- ---- what the grammar gives

-- the word may begin a path
pub record Rooted (word : List ℕ) : Type 0 where
  pub form : HasForm (Word word)
  pub kind : (kind_of_word word ≡ k.This) ⊎ (kind_of_word word ≡ k.Name)

pub record IsPath (p : PathText) : Type 0 where
  pub root : Rooted p.root
  pub steps : AllByRecursion Nameable p.steps

-- a number, a path, or both
abbrev pub IsTerm : Option (ℕ × Bool) → Option PathText → Type 0
IsTerm None None = ⊥
IsTerm None (Some p) = IsPath p
IsTerm (Some f) None = HasForm (number_token f)
IsTerm (Some f) (Some p) = HasForm (number_token f) × IsPath p

pub record IsSummand (a : Summand) : Type 0 where
  pub term : IsTerm a.factor a.path

-- at least one summand
abbrev pub IsSum : List Summand → Type 0
IsSum [] = ⊥
IsSum (a ∷ others) = IsSummand a × AllByRecursion IsSummand others

all_of : {T : Type 0} (P : T → Type 0) (xs ys : List T) → AllByRecursion P xs → AllByRecursion P ys → AllByRecursion P (xs ++ ys)
all_of P [] ys a b = b
all_of P (x ∷ xs) ys a b = (a.0, all_of P xs ys a.1 b)

root_kind : (word : List ℕ) (s : Token) → s.lexeme ≡ Word word → Is k.This s ⊎ Is k.Name s → (kind_of_word word ≡ k.This) ⊎ (kind_of_word word ≡ k.Name)
root_kind word s h (inl e) = inl (sym (ap kind_of_lexeme h) ∙ e)
root_kind word s h (inr e) = inr (sym (ap kind_of_lexeme h) ∙ e)

rooted : (word : List ℕ) (s : Token) → IsRoot word s → IsFormed s → Rooted word
rooted word s r f = record { form = has_form (Word word) s r.0 (λ e. cc) f; kind = root_kind word s r.0 r.1 }

steps_of : {p q : PathText} {xs zs : Tokens} → PathSteps p xs q zs → IsPath p → FormedTokens xs → IsPath q × FormedTokens zs
steps_of path_end i f = (i, f)
steps_of (path_step {c = c} {p = p} {name = name} h n r) i f =
    steps_of r (record { root = i.root; steps = all_of Nameable p.steps (name ∷ []) i.steps (nameable name c n f.1.0, tt) }) f.1.1

pub path_of : {p : PathText} {xs zs : Tokens} → Path xs p zs → FormedTokens xs → IsPath p × FormedTokens zs
path_of (path {s = s} {word = word} r steps) f = steps_of steps (record { root = rooted word s r f.0; steps = tt }) f.1

term_of : {at : Place} {negative : Bool} {a : Summand} {xs zs : Tokens} → Term at negative xs a zs → FormedTokens xs → IsSummand a × FormedTokens zs
term_of (constant {s = s} h) f = (record { term = has_form _ s h (λ e. cc) f.0 }, f.1)
term_of (variable p) f = let a = path_of p f in (record { term = a.0 }, a.1)
term_of (factor_first {s = s} h m p) f = let a = path_of p f.1.1 in (record { term = (has_form _ s h (λ e. cc) f.0, a.0) }, a.1)
term_of (factor_last {s = s} p m h) f = let a = path_of p f in (record { term = (has_form _ s h (λ e. cc) a.1.1.0, a.0) }, a.1.1.1)

push_sum : (as' : List Summand) (b : Summand) → IsSum as' → IsSummand b → IsSum (as' ++ b ∷ [])
push_sum [] b i j = absurd i
push_sum (a ∷ as') b i j = (i.0, all_of IsSummand as' (b ∷ []) i.1 (j, tt))

terms_of : {as' bs : List Summand} {xs zs : Tokens} → Terms as' xs bs zs → IsSum as' → FormedTokens xs → IsSum bs × FormedTokens zs
terms_of terms_end i f = (i, f)
terms_of (terms_more {a = a} {begun = begun} h t r) i f = let b = term_of t f.1 in terms_of r (push_sum begun a i b.0) b.1

pub lin_of : {as' : List Summand} {xs zs : Tokens} → Lin xs as' zs → FormedTokens xs → IsSum as' × FormedTokens zs
lin_of (lin_negative h t r) f = let a = term_of t f.1 in terms_of r (a.0, tt) a.1
lin_of (lin t r) f = let a = term_of t f in terms_of r (a.0, tt) a.1

-- ---- they have lexical forms

steps_formed : (names : List (List ℕ)) → AllByRecursion Nameable names → Formed (flat_map dot_name names)
steps_formed [] i = tt
steps_formed (name ∷ names) i = (sign_formed sign.DOT (omega arith), (i.0.formed, steps_formed names i.1))

pub path_formed : (p : PathText) → IsPath p → Formed (path_tokens p)
path_formed p i = (i.root.form, steps_formed p.steps i.steps)

term_formed : (factor : Option (ℕ × Bool)) (p : Option PathText) → IsTerm factor p → Formed (term_tokens factor p)
term_formed None None i = absurd i
term_formed None (Some p) i = path_formed p i
term_formed (Some f) None i = (i, tt)
term_formed (Some f) (Some p) i = (i.0, (sign_formed sign.TIMES (omega arith), path_formed p i.1))

sign_of_formed : (negative : Bool) → HasForm (Sign (if negative then sign.MINUS else sign.PLUS))
sign_of_formed true = sign_formed sign.MINUS (omega arith)
sign_of_formed false = sign_formed sign.PLUS (omega arith)

more_formed : (as' : List Summand) → AllByRecursion IsSummand as' → Formed (flat_map next_summand as')
more_formed [] i = tt
more_formed (a ∷ as') i = (sign_of_formed a.negative, formed_append (term_tokens a.factor a.path) _ (term_formed a.factor a.path i.0.term) (more_formed as' i.1))

first_formed : (at : Place) (negative : Bool) (factor : Option (ℕ × Bool)) (p : Option PathText) → IsTerm factor p → Formed (first_summand (summand_at at negative factor p))
first_formed at true factor p i = (sign_formed sign.MINUS (omega arith), term_formed factor p i)
first_formed at false factor p i = term_formed factor p i

pub sum_formed : (as' : List Summand) → IsSum as' → Formed (sum_tokens as')
sum_formed [] i = absurd i
sum_formed (a ∷ as') i = formed_append (first_summand a) _ (first_formed a.place a.negative a.factor a.path i.0.term) (more_formed as' i.1)

-- ---- they are read

read_steps : (names : List (List ℕ)) → AllByRecursion Nameable names → (q : PathText) → {xs ys : Tokens} → Goes (flat_map dot_name names) xs ys → PathSteps q xs (record q { steps = q.steps ++ names }) ys
read_steps [] i q {xs = xs} done = subst (λ (steps : List (List ℕ)). PathSteps q xs (record q { steps = steps }) xs) (sym (append-nil q.steps)) path_end
read_steps (name ∷ names) i q {ys = ys} (next {s = d} h (next {s = c} {xs = xs} j g)) =
    path_step (is_sign _ d h) (is_name name c i.0 j)
    (subst (λ (steps : List (List ℕ)). PathSteps (step_to q name) xs (record q { steps = steps }) ys) (append_assoc q.steps (name ∷ []) names) (read_steps names i.1 (step_to q name) g))

root_is : (word : List ℕ) (s : Token) → s.lexeme ≡ Word word → (kind_of_word word ≡ k.This) ⊎ (kind_of_word word ≡ k.Name) → Is k.This s ⊎ Is k.Name s
root_is word s h (inl e) = inl (ap kind_of_lexeme h ∙ e)
root_is word s h (inr e) = inr (ap kind_of_lexeme h ∙ e)

pub read_path : (p : PathText) → IsPath p → {xs ys : Tokens} → Goes (path_tokens p) xs ys → Reading Path unplaced_path xs p ys
read_path p i (next {s = s} h g) = record {
  tree = record p { place = s.place };
  reads = path (h, root_is p.root s h i.root.kind) (read_steps p.steps i.steps (root_at s.place p.root) g);
  same = refl;
}

module _ (at q : Place) (negative : Bool) where
  read_term : (factor : Option (ℕ × Bool)) (p : Option PathText) → IsTerm factor p → {xs ys : Tokens} → Goes (term_tokens factor p) xs ys →
      Reading (Term at negative) unplaced_summand xs (summand_at q negative factor p) ys
  read_term None None i g = absurd i
  read_term None (Some p) i g =
      let r = read_path p i g in
      record { tree = summand_at at negative None (Some r.tree); reads = variable r.reads; same = ap (λ x. summand_at nowhere negative None (Some x)) r.same }
  read_term (Some f) None i (next {s = s} h done) = record { tree = summand_at at negative (Some f) None; reads = constant h; same = refl }
  read_term (Some f) (Some p) i (next {s = s} h (next {s = m} j g)) =
      let r = read_path p i.1 g in
      record { tree = summand_at at negative (Some f) (Some r.tree); reads = factor_first h (is_sign _ m j) r.reads; same = ap (λ x. summand_at nowhere negative (Some f) (Some x)) r.same }

summand_sign : (negative : Bool) (s : Token) → s.lexeme ≡ Sign (if negative then sign.MINUS else sign.PLUS) → IsSummandSign negative s
summand_sign true s h = is_sign _ s h
summand_sign false s h = is_sign _ s h

read_terms : (as' begun : List Summand) → AllByRecursion IsSummand as' → {xs ys : Tokens} → Goes (flat_map next_summand as') xs ys → Reading (Terms begun) (map unplaced_summand) xs (begun ++ as') ys
read_terms [] begun i done = record { tree = begun; reads = terms_end; same = all_pushed unplaced_summand begun }
read_terms (a ∷ as') begun i (next {s = s} h g) =
    let p = parted (term_tokens a.factor a.path) (flat_map next_summand as') g in
    let r = read_term s.place a.place a.negative a.factor a.path i.0.term p.front in
    let m = read_terms as' (begun ++ r.tree ∷ []) i.1 p.back in
    record { tree = m.tree; reads = terms_more (summand_sign a.negative s h) r.reads m.reads; same = m.same ∙ pushed unplaced_summand begun r.tree a as' r.same }

read_first : (q : Place) (negative : Bool) (factor : Option (ℕ × Bool)) (p : Option PathText) → IsTerm factor p → (as' : List Summand) → AllByRecursion IsSummand as' →
    {xs ms ys : Tokens} → Goes (first_summand (summand_at q negative factor p)) xs ms → Goes (flat_map next_summand as') ms ys →
    Reading Lin (map unplaced_summand) xs (summand_at q negative factor p ∷ as') ys
read_first q true factor p i as' j (next {s = s} h g) back =
    let r = read_term s.place q true factor p i g in
    let m = read_terms as' (r.tree ∷ []) j back in
    record { tree = m.tree; reads = lin_negative (is_sign _ s h) r.reads m.reads; same = m.same ∙ ap (λ x. x ∷ map unplaced_summand as') r.same }
read_first q false factor p i as' j {xs = xs} g back =
    let r = read_term (place_of xs) q false factor p i g in
    let m = read_terms as' (r.tree ∷ []) j back in
    record { tree = m.tree; reads = lin r.reads m.reads; same = m.same ∙ ap (λ x. x ∷ map unplaced_summand as') r.same }

pub read_sum : (as' : List Summand) → IsSum as' → {xs ys : Tokens} → Goes (sum_tokens as') xs ys → Reading Lin (map unplaced_summand) xs as' ys
read_sum [] i g = absurd i
read_sum (a ∷ as') i g =
    let p = parted (first_summand a) (flat_map next_summand as') g in
    read_first a.place a.negative a.factor a.path i.0.term as' i.1 p.front p.back
