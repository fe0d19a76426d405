-- Implication is reflexive and transitive.
use Rattle.std.proofs.Common.{◌≡◌, List, [], ◌++◌, inl, inr, sym, ◌∙◌}
use Rattle.jp_pred.specs.declared.hier.Hier.{Hier}
use Rattle.jp_pred.specs.declared.ty.Ty.{Ty}
use Rattle.jp_pred.specs.declared.path.Path.{Path}
use Rattle.jp_pred.specs.declared.shape.Shape.{Shape}
use Rattle.jp_pred.specs.declared.guard.Guard.{Guard}
use Rattle.jp_pred.specs.Universe.{Extends}
use Rattle.jp_pred.specs.Paths.{prefixes, extend}
use Rattle.jp_pred.specs.Truth.{is_true}
use Rattle.jp_pred.specs.Shapes.{IsShape, AreTyped}
use Rattle.jp_pred.specs.Implication.{paths_of, root_types, Implies}
use Rattle.jp_pred.proofs.Entries.{in_left, prefixes_append, prefixes_left, prefixes_right}
use Rattle.jp_pred.proofs.Visits.{in_right}
use Rattle.jp_pred.proofs.Guards.{truth_alike}
use Rattle.jp_pred.proofs.Extension.{typed_up}
use Rattle.jp_pred.proofs.Universes.{extends_trans}
use Rattle.jp_pred.proofs.Completion.{Complete, complete_grown, complete_all, alike_there}

pub implies_refl : (hier : Hier) (parameters : List Ty) (g : Guard) → Implies hier parameters g g
implies_refl hier parameters g universe shape e valid t = t

-- what is implied over a hierarchy is implied over each universe that extends it
pub implies_kept : (universe hier : Hier) (parameters : List Ty) (g h : Guard) → Extends universe hier → Implies hier parameters g h → Implies universe parameters g h
implies_kept universe hier parameters g h e gh larger shape f valid t = gh larger shape (extends_trans larger universe hier f e) valid t

-- a shape over some paths is one over fewer, and one that is complete is one over its paths
pub shape_over : (u : Hier) (roots : List Ty) (ps qs : List Path) (s : Shape) → IsShape u roots ps s → Complete u (prefixes qs) s → IsShape u roots qs s
shape_over u roots ps qs s valid c = record {
  root = valid.root;
  longer = c;
  defined = valid.defined;
  refs = valid.refs;
  ints = valid.ints;
  refs_once = valid.refs_once;
  ints_once = valid.ints_once;
}

nothing : (u : Hier) (s : Shape) → Complete u (prefixes []) s
nothing u s path st i = elim i [ ]

pub implies_trans : (hier : Hier) (parameters : List Ty) (g h k : Guard) → AreTyped hier (root_types parameters) (paths_of h) →
    Implies hier parameters g h → Implies hier parameters h k → Implies hier parameters g k
implies_trans hier parameters g h k typed gh hk u s e valid t =
    let roots = root_types parameters in
    let c = complete_all u roots e.valid.free (prefixes (paths_of h)) s (shape_over u roots (paths_of g ++ paths_of k) [] s valid (nothing u s)) (λ p i. typed_up u hier e roots p (typed p i)) in
    let alike = alike_there u roots e.valid.free (paths_of g ++ paths_of k) s c.shape valid c.sound c.grows in
    let at_g : is_true u s g ≡ is_true u c.shape g = truth_alike u s c.shape g (λ p i. alike p (in_left (paths_of k) i)) in
    let at_k : is_true u s k ≡ is_true u c.shape k = truth_alike u s c.shape k (λ p i. alike p (in_right (paths_of g) i)) in
    let old : Complete u (prefixes (paths_of g ++ paths_of k)) c.shape = complete_grown u (prefixes (paths_of g ++ paths_of k)) valid.longer c.grows in
    let over_gh : IsShape u roots (paths_of g ++ paths_of h) c.shape = shape_over u roots [] (paths_of g ++ paths_of h) c.shape c.sound
    (λ path st i l. elim (prefixes_append (extend path st) (paths_of g) (paths_of h) i) [
      | inl j ↦ old path st (prefixes_left (extend path st) (paths_of g) (paths_of k) j) l
      | inr j ↦ c.complete path st j l
    ]) in
    let over_hk : IsShape u roots (paths_of h ++ paths_of k) c.shape = shape_over u roots [] (paths_of h ++ paths_of k) c.shape c.sound
    (λ path st i l. elim (prefixes_append (extend path st) (paths_of h) (paths_of k) i) [
      | inl j ↦ c.complete path st j l
      | inr j ↦ old path st (prefixes_right (extend path st) (paths_of g) (paths_of k) j) l
    ]) in
    at_k ∙ hk u c.shape e over_hk (gh u c.shape e over_gh (sym at_g ∙ t))
