-- Statements one after another are walked from the front.
use Rattle.std.proofs.Common.{◌≡◌, ℕ, ◌+◌, ◌<◌, ◌≤◌, max, List, [], ◌∷◌, ◌++◌, map, drop, length, get_or, Option, Some, refl, sym, ap, ◌∙◌, subst}
use Rattle.std.proofs.lemmas.List.{at_drop_more, drop_all}
use Rattle.jp_ast.specs.declared.stmt.Stmt.{Stmt}
use Rattle.jp_meaning.specs.declared.stmt.TypedStmt.{TypedStmt}
use Rattle.type_rules.specs.declared.fault.TypeFault.{TypeFault}
use Rattle.type_rules.specs.declared.scope.Scope.{Scope}
use Rattle.type_rules.specs.Table.{faults_of}
use Rattle.type_rules.specs.Statements.{count, scope_along, visits_along, most_along, pushed, made_along, flow}
use Rattle.type_rules.specs.Typing.{earlier}
use Rattle.type_heads.proofs.FaultLists.{then_faults}
use Rattle.type_stmt.specs.Walking.{Walks, WalksAll}
use Rattle.type_stmt.proofs.Rooms.{room_behind, most_first}

-- some statements are walked, and the others are left
pub record Along (c d : Scope) (xs left : List Stmt) (old new : Option TypeFault) (so_far : Option (List TypedStmt)) : Type 0 where
  pub made_is : made_along (Some []) (map flow xs) c ≡ made_along so_far (map flow left) d
  pub first : earlier old (faults_of (visits_along (map flow xs) c)) ≡ earlier new (faults_of (visits_along (map flow left) d))
  pub after : scope_along (map flow xs) c ≡ scope_along (map flow left) d
  pub room : count d ≤ 255
  pub most : ℕ
  pub fits : most_along most (map flow left) d ≤ 255

pub begins : (c : Scope) (xs : List Stmt) (old : Option TypeFault) (so_far : Option (List TypedStmt)) → so_far ≡ Some [] → count c ≤ 255 → most_along (count c) (map flow xs) c ≤ 255 → Along c c xs xs old old so_far
begins c xs old so_far e r m = record {
  made_is = ap (λ (o : Option (List TypedStmt)). made_along o (map flow xs) c) (sym e);
  first = refl;
  after = refl;
  room = r;
  most = count c;
  fits = m;
}

pub first_fits : (c d : Scope) (xs left : List Stmt) (x : Stmt) (old new : Option TypeFault) (so_far : Option (List TypedStmt)) → Along c d xs (x ∷ left) old new so_far → (flow x d).most ≤ 255
first_fits c d xs left x old new so_far a = most_first a.most 255 x left d a.fits

-- the statement that is walked next
pub at_next : (c d : Scope) (xs : List Stmt) (i : ℕ) (x : Stmt) (old new : Option TypeFault) (so_far : Option (List TypedStmt)) → i < length xs → x ≡ get_or xs i x →
    Along c d xs (drop i xs) old new so_far → Along c d xs (x ∷ drop (i + 1) xs) old new so_far
at_next c d xs i x old new so_far l e a =
    subst (λ (ys : List Stmt). Along c d xs ys old new so_far) (at_drop_more (λ (ys : List Stmt). ys) xs i x l ∙ ap (λ (y : Stmt). y ∷ drop (i + 1) xs) (sym e)) a

-- none is left
pub at_end : (c d : Scope) (xs : List Stmt) (i : ℕ) (old new : Option TypeFault) (so_far : Option (List TypedStmt)) → length xs ≤ i → Along c d xs (drop i xs) old new so_far → Along c d xs [] old new so_far
at_end c d xs i old new so_far l a = subst (λ (ys : List Stmt). Along c d xs ys old new so_far) (drop_all i xs l) a

-- one statement more
pub goes_on : (c d e : Scope) (xs left : List Stmt) (x : Stmt) (old mid new : Option TypeFault) (so_far more : Option (List TypedStmt)) (result : Option TypedStmt) → Along c d xs (x ∷ left) old mid so_far →
    Walks d x mid new result → e ≡ (flow x d).after → more ≡ pushed so_far result → Along c e xs left old new more
goes_on c d e xs left x old mid new so_far more result a w f m =
    let there : Scope = (flow x d).after in
    record {
      made_is = a.made_is ∙ (ap (λ (o : Option (List TypedStmt)). made_along o (map flow left) there) (ap (pushed so_far) (sym w.made_is) ∙ sym m) ∙ ap (λ (z : Scope). made_along more (map flow left) z) (sym f));
      first = a.first ∙ (sym (then_faults mid new (earlier new (faults_of (visits_along (map flow left) there))) (flow x d).visits (visits_along (map flow left) there) w.first refl)
          ∙ ap (λ (z : Scope). earlier new (faults_of (visits_along (map flow left) z))) (sym f));
      after = a.after ∙ ap (λ (z : Scope). scope_along (map flow left) z) (sym f);
      room = subst (λ (z : Scope). count z ≤ 255) (sym f) (room_behind x d 255 a.room (first_fits c d xs left x old mid so_far a));
      most = max a.most (flow x d).most;
      fits = subst (λ (z : Scope). most_along (max a.most (flow x d).most) (map flow left) z ≤ 255) (sym f) a.fits;
    }

-- all of them
pub all_walked : (c d : Scope) (xs : List Stmt) (old new : Option TypeFault) (so_far : Option (List TypedStmt)) → Along c d xs [] old new so_far → WalksAll c xs old new so_far
all_walked c d xs old new so_far a = record { made_is = sym a.made_is; first = sym a.first }

pub all_behind : (c d : Scope) (xs : List Stmt) (old new : Option TypeFault) (so_far : Option (List TypedStmt)) → Along c d xs [] old new so_far → d ≡ scope_along (map flow xs) c
all_behind c d xs old new so_far a = sym a.after
