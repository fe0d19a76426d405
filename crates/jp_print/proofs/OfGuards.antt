-- Guards read back.
use Rattle.std.proofs.Common.{◌≡◌, ℕ, zero, suc, Bool, true, false, List, [], ◌∷◌, ◌++◌, map, Option, Some, None, refl, sym, ap, ◌∙◌, subst, arith, codes, cond, IsTrue}
use Rattle.std.specs.Prelude.{if◌then◌else◌}
use Rattle.jp_ast.specs.declared.token.Place.{Place}
use Rattle.jp_ast.specs.declared.token.Token.{Token}
use Rattle.jp_ast.specs.declared.token.Lexeme.{Lexeme}
use Rattle.jp_ast.specs.declared.token.Lexeme.TheVariants.{Word, Sign}
use Rattle.jp_ast.specs.declared.guard.PathText.{PathText}
use Rattle.jp_ast.specs.declared.guard.Summand.{Summand}
use Rattle.jp_ast.specs.declared.guard.GuardExpr.{GuardExpr}
use Rattle.jp_ast.specs.declared.sign.TheConstants as sign
use Rattle.jp_grammar.specs.Kinds.{Tokens, place_of, nowhere}
use Rattle.jp_grammar.specs.Guards.{IsEquality, is_comparison, Path, Lin, Atom, Level, Chain, Gun, Closed, Guard, truth, falsehood, class_test, class_alias, alias, null_test, comparison, flag, strongest, weaker, chain_end, chain_sign, opposite, parenthesis, atom, closed}
use Rattle.jp_print.specs.Expressions.{in_parens, truth_word, maybe}
use Rattle.jp_print.specs.Guards.{PrintedGuard, atomic, composed, guard_part, printed_guard, guard_tokens, path_tokens, sum_tokens, as_name}
use Rattle.jp_print.specs.Places.{unplaced_guard, unplaced_path, unplaced_summand}
use Rattle.jp_print.specs.ReadsBack.{HasForm}
use Rattle.jp_print.proofs.Forms.{Formed, FormedTokens, formed_append, Nameable, nameable, is_name, is_sign, sign_formed, sign_form}
use Rattle.jp_print.proofs.Keywords.{is, true_word, false_word, null_word, as_word}
use Rattle.jp_print.proofs.Goes.{Goes, done, next, Parted, parted, Reading}
use Rattle.jp_print.proofs.Operands.{parens_formed}
use Rattle.jp_print.proofs.GuardEquations as by
use Rattle.jp_print.proofs.GuardEquations.{truth_at, not_at, and_at, or_at, is_at, alias_at, null_at, flag_at, compare_at}
use Rattle.jp_print.proofs.Sums.{IsPath, path_of, path_formed, read_path, IsSum, lin_of, sum_formed, read_sum}

-- read from tokens that are these, places aside, by a production
abbrev pub ReadAs : (Tokens → GuardExpr → Tokens → Type 0) → List Lexeme → GuardExpr → Type 0
ReadAs R ls g = (xs ys : Tokens) → Goes ls xs ys → Reading R unplaced_guard xs g ys

-- Printed so, the guard reads back: as a whole, and as a part of another.
pub record PrintedAs (p : PrintedGuard) (g : GuardExpr) : Type 0 where
  pub formed : Formed p.tokens
  pub whole : ReadAs Guard p.tokens g
  pub part : ReadAs Gun (guard_part p) g

-- the guard reads back
abbrev pub Again : GuardExpr → Type 0
Again g = PrintedAs (printed_guard g) g

again_as : (g : GuardExpr) (p : PrintedGuard) → printed_guard g ≡ p → PrintedAs p g → Again g
again_as g p e a = subst (λ (x : PrintedGuard). PrintedAs x g) (sym e) a

pub part_formed : (p : PrintedGuard) (g : GuardExpr) → PrintedAs p g → Formed (guard_part p)
part_formed p g a = elim p.atom as (λ b. Formed (cond b p.tokens (in_parens p.tokens))) [ true ↦ a.formed | false ↦ parens_formed p.tokens a.formed ]

gun_guard : {xs ys : Tokens} {g : GuardExpr} → Gun xs g ys → Guard xs g ys
gun_guard r = weaker (weaker (strongest r) chain_end) chain_end

atomically : (ls : List Lexeme) (g : GuardExpr) → Formed ls → ReadAs Atom ls g → PrintedAs (atomic ls) g
atomically ls g f r = record {
  formed = f;
  whole = λ xs ys h. let a = r xs ys h in record { tree = a.tree; reads = gun_guard (atom a.reads); same = a.same };
  part = λ xs ys h. let a = r xs ys h in record { tree = a.tree; reads = atom a.reads; same = a.same };
}

module _ (ls : List Lexeme) (g : GuardExpr) (w : ReadAs Guard ls g) where
  closing : {xs ms ys : Tokens} (o : Token) → o.lexeme ≡ Sign sign.OPEN_PAREN → Goes ls xs ms → Goes (Sign sign.CLOSE_PAREN ∷ []) ms ys → Reading Gun unplaced_guard (o ∷ xs) g ys
  closing o h front (next {s = c} i done) = let r = w _ _ front in record { tree = r.tree; reads = parenthesis (is_sign _ o h) (closed {t = r.tree} r.reads (is_sign _ c i)); same = r.same }

  in_parentheses : ReadAs Gun (in_parens ls) g
  in_parentheses xs ys (next {s = o} h r) = let p = parted ls (Sign sign.CLOSE_PAREN ∷ []) r in closing o h p.front p.back

composedly : (ls : List Lexeme) (g : GuardExpr) → Formed ls → ReadAs Guard ls g → PrintedAs (composed ls) g
composedly ls g f w = record { formed = f; whole = w; part = in_parentheses ls g w }

-- ---- composed guards

module _ (p : Place) where
  module _ (r : GuardExpr) (a : Again r) where
    not_read : ReadAs Guard (Sign sign.NOT ∷ guard_part (printed_guard r)) (not_at p r)
    not_read xs ys (next {s = s} h g) =
        let x = a.part _ _ g in
        record {
          tree = not_at s.place x.tree;
          reads = gun_guard (opposite (is_sign _ s h) x.reads);
          same = by.unplaced_not s.place x.tree ∙ ap (λ e. not_at nowhere e) x.same ∙ sym (by.unplaced_not p r);
        }

    pub not_again : Again (not_at p r)
    not_again = again_as _ _ (by.printed_not p r) (composedly _ _ (sign_formed sign.NOT (omega arith), part_formed _ r a) not_read)

  module _ (l r : GuardExpr) (al : Again l) (ar : Again r) where
    and_parts : {xs ms ys : Tokens} → Goes (guard_part (printed_guard l)) xs ms → Goes (Sign sign.AND ∷ guard_part (printed_guard r)) ms ys → Reading Guard unplaced_guard xs (and_at p l r) ys
    and_parts {xs = xs} front (next {s = s} h g) =
        let x = al.part _ _ front in
        let y = ar.part _ _ g in
        let at = place_of xs in
        record {
          tree = and_at at x.tree y.tree;
          reads = weaker (weaker (strongest x.reads) (chain_sign (is_sign _ s h) (strongest y.reads) chain_end)) chain_end;
          same = by.unplaced_and at x.tree y.tree ∙ ap (λ e. and_at nowhere e (unplaced_guard y.tree)) x.same ∙ ap (λ e. and_at nowhere (unplaced_guard l) e) y.same ∙ sym (by.unplaced_and p l r);
        }

    and_read : ReadAs Guard (guard_part (printed_guard l) ++ Sign sign.AND ∷ guard_part (printed_guard r)) (and_at p l r)
    and_read xs ys g = let q = parted (guard_part (printed_guard l)) (Sign sign.AND ∷ guard_part (printed_guard r)) g in and_parts q.front q.back

    pub and_again : Again (and_at p l r)
    and_again = again_as _ _ (by.printed_and p l r) (composedly _ _ (formed_append (guard_part (printed_guard l)) _ (part_formed _ l al) (sign_formed sign.AND (omega arith), part_formed _ r ar)) and_read)

    or_parts : {xs ms ys : Tokens} → Goes (guard_part (printed_guard l)) xs ms → Goes (Sign sign.OR ∷ guard_part (printed_guard r)) ms ys → Reading Guard unplaced_guard xs (or_at p l r) ys
    or_parts {xs = xs} front (next {s = s} h g) =
        let x = al.part _ _ front in
        let y = ar.part _ _ g in
        let at = place_of xs in
        record {
          tree = or_at at x.tree y.tree;
          reads = weaker (weaker (strongest x.reads) chain_end) (chain_sign (refl, is_sign _ s h) (weaker (strongest y.reads) chain_end) chain_end);
          same = by.unplaced_or at x.tree y.tree ∙ ap (λ e. or_at nowhere e (unplaced_guard y.tree)) x.same ∙ ap (λ e. or_at nowhere (unplaced_guard l) e) y.same ∙ sym (by.unplaced_or p l r);
        }

    or_read : ReadAs Guard (guard_part (printed_guard l) ++ Sign sign.OR ∷ guard_part (printed_guard r)) (or_at p l r)
    or_read xs ys g = let q = parted (guard_part (printed_guard l)) (Sign sign.OR ∷ guard_part (printed_guard r)) g in or_parts q.front q.back

    pub or_again : Again (or_at p l r)
    or_again = again_as _ _ (by.printed_or p l r) (composedly _ _ (formed_append (guard_part (printed_guard l)) _ (part_formed _ l al) (sign_formed sign.OR (omega arith), part_formed _ r ar)) or_read)

  -- ---- atoms

  truth_read : (value : Bool) → ReadAs Atom (truth_word value ∷ []) (truth_at p value)
  truth_read true xs ys (next {s = s} h done) = record { tree = truth_at s.place true; reads = truth (is true_word s h); same = by.unplaced_truth s.place true ∙ sym (by.unplaced_truth p true) }
  truth_read false xs ys (next {s = s} h done) = record { tree = truth_at s.place false; reads = falsehood (is false_word s h); same = by.unplaced_truth s.place false ∙ sym (by.unplaced_truth p false) }

  word_formed : (value : Bool) → HasForm (truth_word value)
  word_formed true = true_word.form
  word_formed false = false_word.form

  pub truth_again : (value : Bool) → Again (truth_at p value)
  truth_again value = again_as _ _ (by.printed_truth p value) (atomically _ _ (word_formed value, tt) (truth_read value))

  module _ (path : PathText) (i : IsPath path) where
    module _ (class : List ℕ) (n : Nameable class) where
      class_parts : {xs ms ys : Tokens} → Goes (path_tokens path) xs ms → Goes (Sign sign.AT ∷ Word class ∷ []) ms ys → Reading Atom unplaced_guard xs (is_at p path class None) ys
      class_parts {xs = xs} front (next {s = a} h (next {s = c} j done)) =
          let x = read_path path i front in
          let at = place_of xs in
          record {
            tree = is_at at x.tree class None;
            reads = class_test x.reads (is_sign _ a h) (is_name class c n j);
            same = by.unplaced_is at x.tree class None ∙ ap (λ e. is_at nowhere e class None) x.same ∙ sym (by.unplaced_is p path class None);
          }

      class_read : ReadAs Atom (path_tokens path ++ Sign sign.AT ∷ Word class ∷ []) (is_at p path class None)
      class_read xs ys g = let q = parted (path_tokens path) (Sign sign.AT ∷ Word class ∷ []) g in class_parts q.front q.back

      pub class_again : Again (is_at p path class None)
      class_again = again_as _ _ (by.printed_is p path class None) (atomically _ _ (formed_append (path_tokens path) _ (path_formed path i) (sign_formed sign.AT (omega arith), (n.formed, tt))) class_read)

      module _ (name : List ℕ) (m : Nameable name) where
        aliased_parts : {xs ms ys : Tokens} → Goes (path_tokens path) xs ms → Goes (Sign sign.AT ∷ Word class ∷ as_name name) ms ys → Reading Atom unplaced_guard xs (is_at p path class (Some name)) ys
        aliased_parts {xs = xs} front (next {s = a} h (next {s = c} j (next {s = b} l (next {s = d} o done)))) =
            let x = read_path path i front in
            let at = place_of xs in
            record {
              tree = is_at at x.tree class (Some name);
              reads = class_alias x.reads (is_sign _ a h) (is_name class c n j) (is as_word b l) (is_name name d m o);
              same = by.unplaced_is at x.tree class (Some name) ∙ ap (λ e. is_at nowhere e class (Some name)) x.same ∙ sym (by.unplaced_is p path class (Some name));
            }

        aliased_read : ReadAs Atom (path_tokens path ++ Sign sign.AT ∷ Word class ∷ as_name name) (is_at p path class (Some name))
        aliased_read xs ys g = let q = parted (path_tokens path) (Sign sign.AT ∷ Word class ∷ as_name name) g in aliased_parts q.front q.back

        pub aliased_again : Again (is_at p path class (Some name))
        aliased_again = again_as _ _ (by.printed_is p path class (Some name)) (atomically _ _ (formed_append (path_tokens path) _ (path_formed path i) (sign_formed sign.AT (omega arith), (n.formed, (as_word.form, (m.formed, tt))))) aliased_read)

    module _ (name : List ℕ) (m : Nameable name) where
      alias_parts : {xs ms ys : Tokens} → Goes (path_tokens path) xs ms → Goes (as_name name) ms ys → Reading Atom unplaced_guard xs (alias_at p path name) ys
      alias_parts {xs = xs} front (next {s = b} l (next {s = d} o done)) =
          let x = read_path path i front in
          let at = place_of xs in
          record {
            tree = alias_at at x.tree name;
            reads = alias x.reads (is as_word b l) (is_name name d m o);
            same = by.unplaced_alias at x.tree name ∙ ap (λ e. alias_at nowhere e name) x.same ∙ sym (by.unplaced_alias p path name);
          }

      alias_read : ReadAs Atom (path_tokens path ++ as_name name) (alias_at p path name)
      alias_read xs ys g = let q = parted (path_tokens path) (as_name name) g in alias_parts q.front q.back

      pub alias_again : Again (alias_at p path name)
      alias_again = again_as _ _ (by.printed_alias p path name) (atomically _ _ (formed_append (path_tokens path) _ (path_formed path i) (as_word.form, (m.formed, tt))) alias_read)

    equality : (equal : Bool) (s : Token) → s.lexeme ≡ Sign (if equal then sign.EQUAL else sign.NOT_EQUAL) → IsEquality equal s
    equality true s h = is_sign _ s h
    equality false s h = is_sign _ s h

    equality_formed : (equal : Bool) → HasForm (Sign (if equal then sign.EQUAL else sign.NOT_EQUAL))
    equality_formed true = sign_formed sign.EQUAL (omega arith)
    equality_formed false = sign_formed sign.NOT_EQUAL (omega arith)

    module _ (equal : Bool) where
      null_parts : {xs ms ys : Tokens} → Goes (path_tokens path) xs ms → Goes (Sign (if equal then sign.EQUAL else sign.NOT_EQUAL) ∷ Word (codes "null") ∷ []) ms ys → Reading Atom unplaced_guard xs (null_at p path equal) ys
      null_parts {xs = xs} front (next {s = e} l (next {s = n} o done)) =
          let x = read_path path i front in
          let at = place_of xs in
          record {
            tree = null_at at x.tree equal;
            reads = null_test x.reads (equality equal e l) (is null_word n o);
            same = by.unplaced_null at x.tree equal ∙ ap (λ e. null_at nowhere e equal) x.same ∙ sym (by.unplaced_null p path equal);
          }

      null_read : ReadAs Atom (path_tokens path ++ Sign (if equal then sign.EQUAL else sign.NOT_EQUAL) ∷ Word (codes "null") ∷ []) (null_at p path equal)
      null_read xs ys g = let q = parted (path_tokens path) (Sign (if equal then sign.EQUAL else sign.NOT_EQUAL) ∷ Word (codes "null") ∷ []) g in null_parts q.front q.back

      pub null_again : Again (null_at p path equal)
      null_again = again_as _ _ (by.printed_null p path equal) (atomically _ _ (formed_append (path_tokens path) _ (path_formed path i) (equality_formed equal, (null_word.form, tt))) null_read)

    flag_read : ReadAs Atom (path_tokens path) (flag_at p path)
    flag_read xs ys g =
        let x = read_path path i g in
        let at = place_of xs in
        record { tree = flag_at at x.tree; reads = flag x.reads; same = by.unplaced_flag at x.tree ∙ ap (λ e. flag_at nowhere e) x.same ∙ sym (by.unplaced_flag p path) }

    pub flag_again : Again (flag_at p path)
    flag_again = again_as _ _ (by.printed_flag p path) (atomically _ _ (path_formed path i) flag_read)

  module _ (left right : List Summand) (il : IsSum left) (ir : IsSum right) (b : ℕ) (f : HasForm (Sign b)) (c : IsTrue (is_comparison b)) where
    compare_parts : {xs ms ys : Tokens} → Goes (sum_tokens left) xs ms → Goes (Sign b ∷ sum_tokens right) ms ys → Reading Atom unplaced_guard xs (compare_at p left b right) ys
    compare_parts {xs = xs} front (next {s = s} h g) =
        let x = read_sum left il front in
        let y = read_sum right ir g in
        let at = place_of xs in
        record {
          tree = compare_at at x.tree b y.tree;
          reads = comparison x.reads (is_sign b s h) c y.reads;
          same = by.unplaced_compare at x.tree b y.tree ∙ ap (λ e. compare_at nowhere e b (map unplaced_summand y.tree)) x.same ∙ ap (λ e. compare_at nowhere (map unplaced_summand left) b e) y.same ∙ sym (by.unplaced_compare p left b right);
        }

    compare_read : ReadAs Atom (sum_tokens left ++ Sign b ∷ sum_tokens right) (compare_at p left b right)
    compare_read xs ys g = let q = parted (sum_tokens left) (Sign b ∷ sum_tokens right) g in compare_parts q.front q.back

    pub compare_again : Again (compare_at p left b right)
    compare_again = again_as _ _ (by.printed_compare p left b right) (atomically _ _ (formed_append (sum_tokens left) _ (sum_formed left il) (f, sum_formed right ir)) compare_read)

-- ---- what the grammar gives as a guard

pub atom_again : {xs zs : Tokens} {g : GuardExpr} → Atom xs g zs → FormedTokens xs → Again g × FormedTokens zs
atom_again (truth {s = s} h) f = (truth_again s.place true, f.1)
atom_again (falsehood {s = s} h) f = (truth_again s.place false, f.1)
atom_again {xs = xs} (class_test {c = c} {p = p} {class = class} r h n) f = let a = path_of r f in (class_again (place_of xs) p a.0 class (nameable class c n a.1.1.0), a.1.1.1)
atom_again {xs = xs} (class_alias {c = c} {d = d} {p = p} {class = class} {name = name} r h n i m) f =
    let a = path_of r f in (aliased_again (place_of xs) p a.0 class (nameable class c n a.1.1.0) name (nameable name d m a.1.1.1.1.0), a.1.1.1.1.1)
atom_again {xs = xs} (alias {d = d} {p = p} {name = name} r i m) f = let a = path_of r f in (alias_again (place_of xs) p a.0 name (nameable name d m a.1.1.0), a.1.1.1)
atom_again {xs = xs} (null_test {equal = equal} {p = p} r h i) f = let a = path_of r f in (null_again (place_of xs) p a.0 equal, a.1.1.1)
atom_again {xs = xs} (comparison {s = s} {b = b} {left = left} {right = right} l h c r) f =
    let x = lin_of l f in let y = lin_of r x.1.1 in (compare_again (place_of xs) left right x.0 y.0 b (sign_form b s h x.1.0) c, y.1)
atom_again {xs = xs} (flag {p = p} r) f = let a = path_of r f in (flag_again (place_of xs) p a.0, a.1)

mutual
  pub guard_again : {n : ℕ} {xs zs : Tokens} {g : GuardExpr} → Level n xs g zs → FormedTokens xs → Again g × FormedTokens zs
  guard_again (strongest r) f = gun_again r f
  guard_again (weaker l c) f = let a = guard_again l f in chain_again c a.0 a.1

  chain_again : {at : Place} {n : ℕ} {l g : GuardExpr} {xs zs : Tokens} → Chain at n l xs g zs → Again l → FormedTokens xs → Again g × FormedTokens zs
  chain_again chain_end a f = (a, f)
  chain_again {at = at} {n = zero} (chain_sign h r c) a f = let b = guard_again r f.1 in chain_again c (and_again at _ _ a b.0) b.1
  chain_again {at = at} {n = suc n} (chain_sign h r c) a f = let b = guard_again r f.1 in chain_again c (or_again at _ _ a b.0) b.1

  gun_again : {xs zs : Tokens} {g : GuardExpr} → Gun xs g zs → FormedTokens xs → Again g × FormedTokens zs
  gun_again (opposite {s = s} h r) f = let a = gun_again r f.1 in (not_again s.place _ a.0, a.1)
  gun_again (parenthesis h c) f = closed_again c f.1
  gun_again (atom a) f = atom_again a f

  closed_again : {xs zs : Tokens} {g : GuardExpr} → Closed xs g zs → FormedTokens xs → Again g × FormedTokens zs
  closed_again (closed r h) f = let a = guard_again r f in (a.0, a.1.1)
