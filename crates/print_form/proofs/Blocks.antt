-- Statements that print, one after the other.
use Rattle.std.proofs.Common.{◌≡◌, ℕ, ◌<◌, suc, zero, List, [], ◌∷◌, ◌++◌, length, get_or, refl, arith}
use Rattle.jp_ast.specs.declared.stmt.Stmt.{Stmt}
use Rattle.print_form.specs.declared.literal.Literal.{Literal}
use Rattle.print_form.specs.Form.{IsPrint, PrintEach}

pub each_length : (ls : List Literal) (block : List Stmt) → PrintEach ls block → length ls ≡ length block
each_length [] [] p = refl
each_length [] (s ∷ block) p = absurd p
each_length (l ∷ ls) [] p = absurd p
each_length (l ∷ ls) (s ∷ block) p = omega (arith, each_length ls block p.1)

-- one statement more
pub each_more : (ls : List Literal) (block : List Stmt) (l : Literal) (s : Stmt) → PrintEach ls block → IsPrint l s → PrintEach (ls ++ l ∷ []) (block ++ s ∷ [])
each_more [] [] l s p q = (q, tt)
each_more [] (t ∷ block) l s p q = absurd p
each_more (m ∷ ls) [] l s p q = absurd p
each_more (m ∷ ls) (t ∷ block) l s p q = (p.0, each_more ls block l s p.1 q)

-- each of the statements prints
pub each_at : (ls : List Literal) (block : List Stmt) (i : ℕ) (s : Stmt) → i < length block → PrintEach ls block → (l : Literal) × IsPrint l (get_or block i s)
each_at [] [] i s h p = absurd (omega (arith, h))
each_at [] (t ∷ block) i s h p = absurd p
each_at (l ∷ ls) [] i s h p = absurd p
each_at (l ∷ ls) (t ∷ block) zero s h p = (l, p.0)
each_at (l ∷ ls) (t ∷ block) (suc i) s h p = each_at ls block i s (omega (arith, h)) p.1
