-- A guard is walked, once its parts are walked one after the other.
use Rattle.std.proofs.Common.{◌≡◌, ℕ, ◌+◌, ◌<◌, List, [], ◌∷◌, ◌++◌, take, drop, length, get_or, Bool, true, false, cond, Option, Some, None, refl, sym, ap, ◌∙◌, append-nil}
use Rattle.std.specs.Prelude.{Result, Ok, Err, IfOk, OnOk}
use Rattle.std.specs.List.{flat_map}
use Rattle.std.specs.Option.{option_map, option_map_or, option_and_then}
use Rattle.std.proofs.lemmas.List.{at_drop_more}
use Rattle.std.proofs.Math.Seq.{take-append_seam}
use Rattle.jp_ast.specs.declared.token.Place.{Place}
use Rattle.jp_ast.specs.declared.guard.GuardExpr.{GuardExpr}
use Rattle.jp_ast.specs.declared.guard.GuardKind.{GuardKind}
use Rattle.jp_ast.specs.declared.guard.GuardKind.TheVariants as test
use Rattle.jp_ast.specs.declared.guard.GuardKind.TheOpen as g
use Rattle.jp_ast.specs.declared.guard.PathText.{PathText}
use Rattle.jp_ast.specs.declared.guard.Summand.{Summand}
use Rattle.jp_pred.specs.Names.{Word}
use Rattle.jp_meaning.specs.declared.guard.TypedGuard.{TypedGuard}
use Rattle.jp_meaning.specs.declared.guard.TypedGuardKind.{TypedGuardKind}
use Rattle.jp_meaning.specs.declared.guard.TypedGuardKind.TheVariants as made
use Rattle.jp_meaning.specs.declared.guard.TypedPath.{TypedPath}
use Rattle.jp_meaning.specs.declared.guard.TypedSummand.{TypedSummand}
use Rattle.type_rules.specs.declared.fault.TypeFault.{TypeFault}
use Rattle.type_rules.specs.declared.guard_scope.GuardScope.{GuardScope}
use Rattle.type_rules.specs.GuardPaths.{path_of}
use Rattle.type_rules.specs.Nodes.{Node, AtomNode, TestsClass, NamesPath, TestsNull, Stands, AtPath, AtAtom, AtSummand}
use Rattle.type_rules.specs.Table.{own_faults, faults_of}
use Rattle.type_rules.specs.Guards.{Guarded, Step, unless_faulty as unless, path_in, summand_at, summand_path, summand_in, summand_visits, summands_in, inner, with_aliases, aliased, tested, behind_test, scope_behind, atom_visit, visits_in, atom, both, test_alias, resolved, guard_at, guarded_of, guarded}
use Rattle.type_rules.specs.Typing.{earlier}
use Rattle.type_rules.proofs.Computing.{judge_and, judge_or, judge_is, judge_alias, judge_null_test, judge_flag}
use Rattle.type_heads.specs.Faults.{is_none_of}
use Rattle.type_heads.proofs.FaultLists.{then_faults}
use Rattle.type_guards.specs.Finding.{faults_at, unless_faulty}
use Rattle.type_guards.specs.Atoms.{found_in, IsAtom, named_if, scope_behind_test}
use Rattle.type_guards.specs.Summands.{part_faults, part_in, FindsSummand, FindsSummands, with_summand}
use Rattle.type_guards.specs.Walking.{Walks, Keeps, left_to, Compares, compared}

-- FAULTS OF NODES

settled : {A : Type 0} (fs : List TypeFault) (found : Option A) → cond (is_none_of fs) found None ≡ elim fs [ [] ↦ found | _ ↦ None ]
settled [] found = refl
settled (f ∷ fs) found = refl

unless_is : {A : Type 0} (p : Place) (n : Node) (found : Option A) → unless_faulty p n found ≡ unless p n found
unfolding faults_at
unless_is p n found = settled (own_faults p n) found

one_visit : (p : Place) (n : Node) → faults_at p n ≡ faults_of (record { place = p; node = n } ∷ [])
unfolding faults_at
one_visit p n = sym (append-nil (own_faults p n))

-- two nodes, one after the other
two_visits : (p q : Place) (n m : Node) (old new : Option TypeFault) → new ≡ earlier (earlier old (faults_at p n)) (faults_at q m) →
    new ≡ earlier old (faults_of ((record { place = p; node = n } ∷ []) ++ record { place = q; node = m } ∷ []))
two_visits p q n m old new e =
    then_faults old (earlier old (faults_at p n)) new (record { place = p; node = n } ∷ []) (record { place = q; node = m } ∷ []) (ap (earlier old) (one_visit p n))
    (e ∙ ap (earlier (earlier old (faults_at p n))) (one_visit q m))

-- ONE GUARD

at_kind : (x : GuardExpr) (kind : GuardKind) (step : Step) → x.kind ≡ kind → guarded (record { place = x.place; kind = kind }) ≡ guarded_of step x.place → guarded x ≡ guarded_of step x.place
at_kind x kind step h e = ap (λ (k : GuardKind). guarded (record { place = x.place; kind = k })) h ∙ e

-- a guard whose layer is known
by_layer : (x : GuardExpr) (step : Step) (c d : GuardScope) (old new : Option TypeFault) (result : Option TypedGuard) → guarded x ≡ guarded_of step x.place → d ≡ scope_behind c x.place step →
    result ≡ option_map (guard_at x.place) (resolved c x.place step) → new ≡ earlier old (faults_of (visits_in c x.place step)) → Walks x c d old new result
by_layer x step c d old new result e a m f = record {
  after = a ∙ ap (λ (h : GuardScope → Guarded). (h c).after) (sym e);
  made_is = m ∙ ap (λ (h : GuardScope → Guarded). (h c).made) (sym e);
  first = f ∙ ap (λ (h : GuardScope → Guarded). earlier old (faults_of (h c).visits)) (sym e);
}

-- ATOMS

found_is : (c : GuardScope) (path : PathText) → found_in c path ≡ path_in c false path
found_is c path = unless_is path.place (AtPath c false path) (path_of c path)

atom_made : (c : GuardScope) (p : Place) (node : Option TypedPath → AtomNode) (path : PathText) (kind : TypedPath → TypedGuardKind) (old new : Option TypeFault) (made : Option TypedGuard) →
    IsAtom c p node path kind old new made → made ≡ option_map (guard_at p) (atom c p (node (path_in c false path)) (path_in c false path) kind)
atom_made c p node path kind old new made h =
    h.made_is ∙ (ap (option_map (guard_at p)) (unless_is p (AtAtom c (node (found_in c path))) (option_map kind (found_in c path)))
    ∙ ap (λ (o : Option TypedPath). option_map (guard_at p) (atom c p (node o) o kind)) (found_is c path))

atom_first : (c : GuardScope) (p : Place) (node : Option TypedPath → AtomNode) (path : PathText) (kind : TypedPath → TypedGuardKind) (old new : Option TypeFault) (made : Option TypedGuard) →
    IsAtom c p node path kind old new made → new ≡ earlier old (faults_of (atom_visit c p (node (path_in c false path)) path))
atom_first c p node path kind old new made h =
    two_visits path.place p (AtPath c false path) (AtAtom c (node (found_in c path))) old new h.first
    ∙ ap (λ (o : Option TypedPath). earlier old (faults_of (atom_visit c p (node o) path))) (found_is c path)

pub walks_flag : (x : GuardExpr) (c : GuardScope) (path : PathText) (old new : Option TypeFault) (result : Option TypedGuard) → x.kind ≡ test.Flag path →
    IsAtom c x.place Stands path (λ t. made.Flag t) old new result → Walks x c c old new result
walks_flag x c path old new result h a =
    by_layer x (g.Flag path) c c old new result (at_kind x _ (g.Flag path) h (judge_flag guarded_of x.place path)) refl
    (atom_made c x.place Stands path (λ t. made.Flag t) old new result a) (atom_first c x.place Stands path (λ t. made.Flag t) old new result a)

pub walks_null_test : (x : GuardExpr) (c : GuardScope) (path : PathText) (equal : Bool) (old new : Option TypeFault) (result : Option TypedGuard) → x.kind ≡ test.NullTest path equal →
    IsAtom c x.place TestsNull path (λ t. made.NullTest t equal) old new result → Walks x c c old new result
walks_null_test x c path equal old new result h a =
    by_layer x (g.NullTest path equal) c c old new result (at_kind x _ (g.NullTest path equal) h (judge_null_test guarded_of x.place path equal)) refl
    (atom_made c x.place TestsNull path (λ t. made.NullTest t equal) old new result a) (atom_first c x.place TestsNull path (λ t. made.NullTest t equal) old new result a)

pub walks_alias : (x : GuardExpr) (c d : GuardScope) (path : PathText) (name : Word) (old new : Option TypeFault) (result : Option TypedGuard) → x.kind ≡ test.Alias path name →
    IsAtom c x.place (λ found. NamesPath found name) path (λ t. made.Alias t name t.ty) old new result → d ≡ aliased c (found_in c path) name None → Walks x c d old new result
walks_alias x c d path name old new result h a e =
    by_layer x (g.Alias path name) c d old new result (at_kind x _ (g.Alias path name) h (judge_alias guarded_of x.place path name)) (e ∙ ap (λ o. aliased c o name None) (found_is c path))
    (atom_made c x.place (λ found. NamesPath found name) path (λ t. made.Alias t name t.ty) old new result a) (atom_first c x.place (λ found. NamesPath found name) path (λ t. made.Alias t name t.ty) old new result a)

-- the scope behind a test, where it is said what its path is, and what of it stands
abbrev behind_by : GuardScope → Option TypedPath → Option TypedPath → Word → Option Word → GuardScope
behind_by c found kept class alias = named_if (option_map_or (λ t. tested c t.path class) kept c) found class alias

behind_is : (c : GuardScope) (p : Place) (path : PathText) (class : Word) (alias : Option Word) → scope_behind_test c p path class alias ≡ behind_test c p (path_in c false path) class alias
behind_is c p path class alias =
    ap (λ kept. behind_by c (found_in c path) kept class alias) (unless_is p (AtAtom c (TestsClass (found_in c path) class alias)) (found_in c path))
    ∙ ap (λ (o : Option TypedPath). behind_by c o (unless p (AtAtom c (TestsClass o class alias)) o) class alias) (found_is c path)

pub walks_test : (x : GuardExpr) (c d : GuardScope) (path : PathText) (class : Word) (alias : Option Word) (old new : Option TypeFault) (result : Option TypedGuard) → x.kind ≡ test.Is path class alias →
    IsAtom c x.place (λ found. TestsClass found class alias) path (λ t. made.Is t class (test_alias class alias)) old new result → d ≡ scope_behind_test c x.place path class alias → Walks x c d old new result
walks_test x c d path class alias old new result h a e =
    by_layer x (g.Is path class alias) c d old new result (at_kind x _ (g.Is path class alias) h (judge_is guarded_of x.place path class alias)) (e ∙ behind_is c x.place path class alias)
    (atom_made c x.place (λ found. TestsClass found class alias) path (λ t. made.Is t class (test_alias class alias)) old new result a)
    (atom_first c x.place (λ found. TestsClass found class alias) path (λ t. made.Is t class (test_alias class alias)) old new result a)

-- WHAT STAYS

-- INSIDE AND OUTSIDE

-- outside again, with the aliases that were made inside
pub outside : (c d : GuardScope) (mark : ℕ) (b : Bool) (z : GuardScope) → mark ≡ length c.tests → Keeps c d → z ≡ left_to d mark b → z ≡ record c { aliases = d.aliases; is_outermost = b }
outside c d mark b z m k e =
    let tests : take mark d.tests ≡ c.tests = ap (λ (j : ℕ). take j d.tests) m ∙ (ap (take (length c.tests)) k.tests ∙ take-append_seam c.tests k.more) in
    e ∙ (λ i. record { heads = k.heads i; class = k.class i; params = k.params i; aliases = d.aliases; tests = tests i; is_outermost = b })

pub keeps_outside : (c d : GuardScope) (b : Bool) → b ≡ c.is_outermost → d ≡ record c { aliases = d.aliases; is_outermost = b } → Keeps c d
keeps_outside c d b h e = record {
  heads = ap (λ (z : GuardScope). z.heads) e;
  class = ap (λ (z : GuardScope). z.class) e;
  params = ap (λ (z : GuardScope). z.params) e;
  outermost = ap (λ (z : GuardScope). z.is_outermost) e ∙ h;
  more = [];
  tests = ap (λ (z : GuardScope). z.tests) e ∙ sym (append-nil c.tests);
}

pub walks_and : (x y z : GuardExpr) (c d f : GuardScope) (old mid new : Option TypeFault) (left right result : Option TypedGuard) → x.kind ≡ test.And y z → Walks y c d old mid left → Walks z d f mid new right →
    result ≡ option_map (guard_at x.place) (both (λ l r. made.And l r) left right) → Walks x c f old new result
walks_and x y z c d f old mid new left right result h a b r =
    let l : Guarded = guarded y c in
    by_layer x (g.And (guarded y) (guarded z)) c f old new result (at_kind x _ (g.And (guarded y) (guarded z)) h (judge_and guarded_of x.place y z))
    (b.after ∙ ap (λ (w : GuardScope). (guarded z w).after) a.after)
    (r ∙ (ap (λ p. option_map (guard_at x.place) (both (λ l r. made.And l r) p right)) a.made_is
    ∙ ap (λ p. option_map (guard_at x.place) (both (λ l r. made.And l r) l.made p)) (b.made_is ∙ ap (λ (w : GuardScope). (guarded z w).made) a.after)))
    (then_faults old mid new l.visits (guarded z l.after).visits a.first (b.first ∙ ap (λ (w : GuardScope). earlier mid (faults_of (guarded z w).visits)) a.after))

pub walks_or : (x y z : GuardExpr) (c d e f w : GuardScope) (mark : ℕ) (b : Bool) (old mid new : Option TypeFault) (left right result : Option TypedGuard) → x.kind ≡ test.Or y z → mark ≡ length c.tests → b ≡ c.is_outermost →
    Walks y (inner c) d old mid left → Keeps (inner c) d → e ≡ left_to d mark false → Walks z e f mid new right → Keeps e f → w ≡ left_to f mark b →
    result ≡ option_map (guard_at x.place) (both (λ l r. made.Or l r) left right) → Walks x c w old new result
walks_or x y z c d e f w mark b old mid new left right result h m o a k s t j u r =
    let l : Guarded = guarded y (inner c) in
    let i : GuardScope = with_aliases (inner c) l.after.aliases in
    let there : e ≡ i = outside (inner c) d mark false e m k s ∙ ap (λ (q : GuardScope). with_aliases (inner c) q.aliases) a.after in
    let count : mark ≡ length e.tests = m ∙ ap (λ (q : GuardScope). length q.tests) (sym there) in
    let back : w ≡ record e { aliases = f.aliases; is_outermost = b } = outside e f mark b w count j u in
    by_layer x (g.Or (guarded y) (guarded z)) c w old new result (at_kind x _ (g.Or (guarded y) (guarded z)) h (judge_or guarded_of x.place y z))
    (back ∙ (ap (λ (q : GuardScope). record q { aliases = f.aliases; is_outermost = b }) there ∙ ((λ n. record c { aliases = f.aliases; is_outermost = o n })
    ∙ ap (λ (q : GuardScope). with_aliases c q.aliases) (t.after ∙ ap (λ (q : GuardScope). (guarded z q).after) there))))
    (r ∙ (ap (λ p. option_map (guard_at x.place) (both (λ l r. made.Or l r) p right)) a.made_is
    ∙ ap (λ p. option_map (guard_at x.place) (both (λ l r. made.Or l r) l.made p)) (t.made_is ∙ ap (λ (q : GuardScope). (guarded z q).made) there)))
    (then_faults old mid new l.visits (guarded z i).visits a.first (t.first ∙ ap (λ (q : GuardScope). earlier mid (faults_of (guarded z q).visits)) there))

pub keeps_or : (c d e f w : GuardScope) (mark : ℕ) (b : Bool) → mark ≡ length c.tests → b ≡ c.is_outermost → Keeps (inner c) d → e ≡ left_to d mark false → Keeps e f → w ≡ left_to f mark b → Keeps c w
keeps_or c d e f w mark b m o k s j u =
    let there : e ≡ record (inner c) { aliases = d.aliases; is_outermost = false } = outside (inner c) d mark false e m k s in
    let count : mark ≡ length e.tests = m ∙ ap (λ (q : GuardScope). length q.tests) (sym there) in
    let back : w ≡ record e { aliases = f.aliases; is_outermost = b } = outside e f mark b w count j u in
    let names : f.aliases ≡ w.aliases = sym (ap (λ (q : GuardScope). q.aliases) back) in
    keeps_outside c w b o (back ∙ (ap (λ (q : GuardScope). record q { aliases = f.aliases; is_outermost = b }) there ∙ (λ i. record c { aliases = names i; is_outermost = b })))

-- what holds of a result, with what holds where there is one
pub with_after : {T E Q : Type 0} (r : Result T E) (P R : T → Type 0) → ((x : T) → P x → Q → R x) → IfOk r P → OnOk r Q → IfOk r R
with_after (Ok x) P R f p q = f x p q
with_after (Err e) P R f p q = tt

-- SUMMANDS

part_is : (c : GuardScope) (text : Option PathText) → part_in c text ≡ summand_path c text
part_is c None = refl
part_is c (Some path) = ap (option_map Some) (unless_is path.place (AtPath c true path) (path_of c path))

summand_found : (c : GuardScope) (x : Summand) (old new : Option TypeFault) (found : Option TypedSummand) → FindsSummand c x old new found → found ≡ summand_in c x
summand_found c x old new found h =
    h.summand_is ∙ (unless_is x.place (AtSummand x) (option_map (summand_at x) (part_in c x.path)) ∙ ap (λ p. unless x.place (AtSummand x) (option_map (summand_at x) p)) (part_is c x.path))

first_by : (c : GuardScope) (x : Summand) (text : Option PathText) (old new : Option TypeFault) → new ≡ earlier (earlier old (part_faults c text)) (faults_at x.place (AtSummand x)) →
    new ≡ earlier old (faults_of (option_map_or (λ path. record { place = path.place; node = AtPath c true path } ∷ []) text [] ++ record { place = x.place; node = AtSummand x } ∷ []))
first_by c x None old new e = e ∙ ap (earlier old) (one_visit x.place (AtSummand x))
first_by c x (Some path) old new e = two_visits path.place x.place (AtPath c true path) (AtSummand x) old new e

summand_first : (c : GuardScope) (x : Summand) (old new : Option TypeFault) (found : Option TypedSummand) → FindsSummand c x old new found → new ≡ earlier old (faults_of (summand_visits c x))
summand_first c x old new found h = first_by c x x.path old new h.first

at_place : (xs : List Summand) (i : ℕ) (x : Summand) → i < length xs → x ≡ get_or xs i x → drop i xs ≡ x ∷ drop (i + 1) xs
at_place xs i x l e = at_drop_more (λ ys. ys) xs i x l ∙ ap (λ y. y ∷ drop (i + 1) xs) (sym e)

made_on : (c : GuardScope) (xs : List Summand) (done : Option (List TypedSummand)) (found : Option TypedSummand) →
    option_and_then (λ ts. summands_in c ts xs) (with_summand done found) ≡ option_and_then (λ ts. option_and_then (λ t. summands_in c (ts ++ t ∷ []) xs) found) done
made_on c xs None found = refl
made_on c xs (Some ts) None = refl
made_on c xs (Some ts) (Some t) = refl

-- one summand more
pub next_summand : (c : GuardScope) (xs : List Summand) (i : ℕ) (x : Summand) (done more : Option (List TypedSummand)) (found : Option TypedSummand) (old new : Option TypeFault) → i < length xs → x ≡ get_or xs i x →
    FindsSummand c x old new found → more ≡ with_summand done found → option_and_then (λ ts. summands_in c ts (drop (i + 1) xs)) more ≡ option_and_then (λ ts. summands_in c ts (drop i xs)) done
next_summand c xs i x done more found old new l e h m =
    ap (option_and_then (λ ts. summands_in c ts (drop (i + 1) xs))) m
    ∙ (made_on c (drop (i + 1) xs) done found
    ∙ (ap (λ o. option_and_then (λ ts. option_and_then (λ t. summands_in c (ts ++ t ∷ []) (drop (i + 1) xs)) o) done) (summand_found c x old new found h)
    ∙ ap (λ ys. option_and_then (λ ts. summands_in c ts ys) done) (sym (at_place xs i x l e))))

pub next_first : (c : GuardScope) (xs : List Summand) (i : ℕ) (x : Summand) (found : Option TypedSummand) (old new : Option TypeFault) → i < length xs → x ≡ get_or xs i x → FindsSummand c x old new found →
    earlier new (faults_of (flat_map (summand_visits c) (drop (i + 1) xs))) ≡ earlier old (faults_of (flat_map (summand_visits c) (drop i xs)))
next_first c xs i x found old new l e h =
    then_faults old new _ (summand_visits c x) (flat_map (summand_visits c) (drop (i + 1) xs)) (summand_first c x old new found h) refl
    ∙ ap (λ ys. earlier old (faults_of (flat_map (summand_visits c) ys))) (sym (at_place xs i x l e))

-- the two sides of a comparison, one after the other
pub compares_sides : (c : GuardScope) (p : Place) (left : List Summand) (n : ℕ) (right : List Summand) (old mid new : Option TypeFault) (l r : Option (List TypedSummand)) (result : Option TypedGuard) →
    FindsSummands c left old mid l → FindsSummands c right mid new r → result ≡ compared p l n r → Compares c p left n right old new result
compares_sides c p left n right old mid new l r result a b m = record {
  made_is = m ∙ (λ i. compared p (a.summands_are i) n (b.summands_are i));
  first = then_faults old mid new (flat_map (summand_visits c) left) (flat_map (summand_visits c) right) a.first b.first;
}
