-- The faults of the nodes of a guard, rule by rule.
use Rattle.std.proofs.Common.{◌≡◌, ℕ, ◌+◌, ◌<◌, List, [], ◌∷◌, ◌++◌, length, drop, get_or, Bool, true, false, not, Option, Some, None, refl, sym, ap, ◌∙◌, append-nil}
use Rattle.std.specs.Prelude.{◌&&◌, ◌||◌, is_some, is_none, if◌then◌else◌}
use Rattle.std.specs.Option.{option_map_or}
use Rattle.std.proofs.lemmas.List.{at_drop_more}
use Rattle.jp_pred.specs.Names.{Word}
use Rattle.jp_ast.specs.declared.token.Place.{Place}
use Rattle.jp_ast.specs.declared.guard.PathText.{PathText}
use Rattle.jp_meaning.specs.declared.guard.TypedPath.{TypedPath}
use Rattle.type_rules.specs.declared.fault.TypeFault.{TypeFault}
use Rattle.type_rules.specs.declared.guard_scope.GuardScope.{GuardScope}
use Rattle.type_rules.specs.Types.{is_int, is_named, is_reserved, is_among}
use Rattle.type_rules.specs.GuardPaths.{root_of, step_of, steps_of, path_of, isnt_path, guard_names}
use Rattle.type_rules.specs.RulesOfGuards.{is_this, excludes}
use Rattle.type_rules.specs.Nodes.{AtPath, AtAtom, TestsClass}
use Rattle.type_rules.specs.Table.{fault_if}
use Rattle.type_rules.specs.Typing.{earlier}
use Rattle.type_heads.specs.Faults.{is_none_of}
use Rattle.type_heads.proofs.FaultLists.{earlier_append}
use Rattle.type_guards.specs.Finding.{faults_at, FindsPath, LooksAt}

-- LISTS

none_one : (p : Place) (n : ℕ) (b : Bool) → is_none_of (fault_if p n b) ≡ not b
none_one p n true = refl
none_one p n false = refl

none_more : (p : Place) (n : ℕ) (b : Bool) (fs : List TypeFault) → is_none_of (fault_if p n b ++ fs) ≡ (not b && is_none_of fs)
none_more p n true fs = refl
none_more p n false fs = refl

-- what one rule says of a node, and then the others
first_more : (p : Place) (n : ℕ) (b : Bool) (fs : List TypeFault) (old mid new : Option TypeFault) → mid ≡ earlier old (fault_if p n b) → new ≡ earlier mid fs → new ≡ earlier old (fault_if p n b ++ fs)
first_more p n b fs old mid new e f = f ∙ (ap (λ (o : Option TypeFault). earlier o fs) e ∙ earlier_append old (fault_if p n b) fs)

and_three : (a b c : Bool) → ((a && b) && c) ≡ (a && (b && c))
and_three true b c = refl
and_three false b c = refl

and_false : (b : Bool) → (b && false) ≡ false
and_false true = refl
and_false false = refl

-- ATOMS

-- the rules that a test may break
abbrev pub test_faults : Place → Bool → Bool → Bool → Bool → Bool → List TypeFault
test_faults p a b d e f = fault_if p 2 a ++ (fault_if p 12 b ++ (fault_if p 15 d ++ (fault_if p 16 e ++ fault_if p 20 f)))

is_faults : (p : Place) (c : GuardScope) (found : Option TypedPath) (class : Word) (alias : Option Word) →
    faults_at p (AtAtom c (TestsClass found class alias)) ≡ test_faults p (is_reserved class) (option_map_or (λ name. is_among name (guard_names c)) alias false)
    (isnt_path is_named found || option_map_or is_this found false) (option_map_or (λ t. excludes c.heads class t.ty) found false) (is_some alias && not c.is_outermost)
unfolding faults_at
is_faults p c found class alias =
    ap (λ (fs : List TypeFault). fault_if p 2 (is_reserved class) ++ (fault_if p 12 (option_map_or (λ name. is_among name (guard_names c)) alias false)
    ++ (fault_if p 15 (isnt_path is_named found || option_map_or is_this found false) ++ (fault_if p 16 (option_map_or (λ t. excludes c.heads class t.ty) found false) ++ fs))))
    (append-nil (fault_if p 20 (is_some alias && not c.is_outermost)))

none_test : (p : Place) (a b d e f : Bool) → is_none_of (test_faults p a b d e f) ≡ (not a && (not b && (not d && (not e && not f))))
none_test p a b d e f =
    none_more p 2 a _ ∙ ap (λ (t : Bool). not a && t) (none_more p 12 b _ ∙ ap (λ (t : Bool). not b && t) (none_more p 15 d _ ∙ ap (λ (t : Bool). not d && t) (none_more p 16 e (fault_if p 20 f) ∙ ap (λ (t : Bool). not e && t) (none_one p 20 f))))

and_five : (a b c d e : Bool) → ((((a && b) && c) && d) && e) ≡ (a && (b && (c && (d && e))))
and_five a b c d e = and_three ((a && b) && c) d e ∙ (and_three (a && b) c (d && e) ∙ and_three a b (c && (d && e)))

pub looks_test : (p : Place) (c : GuardScope) (found : Option TypedPath) (class : Word) (alias : Option Word) (a b d e f : Bool) (old one two three four new : Option TypeFault) (kept : Bool) →
    a ≡ is_reserved class → b ≡ option_map_or (λ name. is_among name (guard_names c)) alias false → d ≡ (isnt_path is_named found || option_map_or is_this found false) →
    e ≡ option_map_or (λ t. excludes c.heads class t.ty) found false → f ≡ (is_some alias && not c.is_outermost) →
    one ≡ earlier old (fault_if p 2 a) → two ≡ earlier one (fault_if p 12 b) → three ≡ earlier two (fault_if p 15 d) → four ≡ earlier three (fault_if p 16 e) → new ≡ earlier four (fault_if p 20 f) →
    kept ≡ ((((not a && not b) && not d) && not e) && not f) → LooksAt c p (TestsClass found class alias) old new kept
looks_test p c found class alias a b d e f old one two three four new kept ha hb hd he hf h1 h2 h3 h4 h5 k =
    let all : test_faults p a b d e f ≡ faults_at p (AtAtom c (TestsClass found class alias)) = (λ i. test_faults p (ha i) (hb i) (hd i) (he i) (hf i)) ∙ sym (is_faults p c found class alias) in
    record {
      sound = k ∙ (and_five (not a) (not b) (not d) (not e) (not f) ∙ (sym (none_test p a b d e f) ∙ ap is_none_of all));
      first = first_more p 2 a _ old one new h1 (first_more p 12 b _ one two new h2 (first_more p 15 d _ two three new h3 (first_more p 16 e _ three four new h4 h5))) ∙ ap (earlier old) all;
    }

-- PATHS

pub no_steps : (c : GuardScope) (names : List Word) → steps_of c None names ≡ None
no_steps c [] = refl
no_steps c (name ∷ more) = no_steps c more

-- where one of the steps leads nowhere, so do they all
pub no_step : (c : GuardScope) (names : List Word) (i : ℕ) (name : Word) (before : TypedPath) (next : Option TypedPath) → i < length names → name ≡ get_or names i name →
    next ≡ step_of c before name → next ≡ None → None ≡ steps_of c (Some before) (drop i names)
no_step c names i name before next l e f n =
    sym (at_drop_more (λ ns. steps_of c (Some before) ns) names i name l
    ∙ (ap (λ (m : Word). steps_of c (Some before) (m ∷ drop (i + 1) names)) (sym e)
    ∙ (ap (λ (o : Option TypedPath). steps_of c o (drop (i + 1) names)) (sym f ∙ n) ∙ no_steps c (drop (i + 1) names))))

-- the rules that a path may break, by its root and where it leads
abbrev pub path_faults : Place → Bool → Option TypedPath → Option TypedPath → List TypeFault
path_faults p compared root found = fault_if p 13 (is_none root) ++ (fault_if p 14 (is_some root && is_none found) ++ fault_if p 18 (compared && isnt_path is_int found))

module _ (c : GuardScope) (compared : Bool) (path : PathText) (old new : Option TypeFault) where
  abbrev root : Option TypedPath
  root = root_of c path.place path.root

  faults_are : faults_at path.place (AtPath c compared path) ≡ path_faults path.place compared root (path_of c path)
  unfolding faults_at
  faults_are =
      ap (λ (fs : List TypeFault). fault_if path.place 13 (is_none root) ++ (fault_if path.place 14 (is_some root && is_none (path_of c path)) ++ fs))
      (append-nil (fault_if path.place 18 (compared && isnt_path is_int (path_of c path))))

  finds_by : (fs : List TypeFault) (r found result : Option TypedPath) → root ≡ r → path_of c path ≡ found → path_faults path.place compared r found ≡ fs →
      result ≡ (if is_none_of fs then found else None) → new ≡ earlier old fs → FindsPath c compared path old new result
  finds_by fs r found result e f all m n =
      let are : fs ≡ faults_at path.place (AtPath c compared path) = sym (faults_are ∙ ((λ i. path_faults path.place compared (e i) (f i)) ∙ all)) in
      record {
        path_is = m ∙ (λ i. if is_none_of (are i) then sym f i else None);
        first = n ∙ ap (earlier old) are;
      }

  -- its root stands for nothing
  pub finds_no_root : None ≡ root → new ≡ earlier old (fault_if path.place 13 true) → FindsPath c compared path old new None
  finds_no_root e n =
      finds_by (fault_if path.place 13 true) None None None (sym e) (ap (λ (r : Option TypedPath). steps_of c r path.steps) (sym e) ∙ no_steps c path.steps)
      (ap (λ (b : Bool). fault_if path.place 13 true ++ fault_if path.place 18 b) (and_false compared)) refl n

  -- a field is wanting
  pub finds_no_step : (r : TypedPath) → Some r ≡ root → None ≡ steps_of c (Some r) path.steps → new ≡ earlier old (fault_if path.place 14 true) → FindsPath c compared path old new None
  finds_no_step r e f n =
      finds_by (fault_if path.place 14 true) (Some r) None None (sym e) (ap (λ (q : Option TypedPath). steps_of c q path.steps) (sym e) ∙ sym f)
      (ap (λ (b : Bool). fault_if path.place 14 true ++ fault_if path.place 18 b) (and_false compared)) refl n

  -- it leads to a path, whose type is then looked at
  pub finds_end : (r t : TypedPath) (b : Bool) (result : Option TypedPath) → Some r ≡ root → Some t ≡ steps_of c (Some r) path.steps → b ≡ (compared && isnt_path is_int (Some t)) →
      new ≡ earlier old (fault_if path.place 18 b) → result ≡ (if not b then Some t else None) → FindsPath c compared path old new result
  finds_end r t b result e f h n m =
      finds_by (fault_if path.place 18 b) (Some r) (Some t) result (sym e) (ap (λ (q : Option TypedPath). steps_of c q path.steps) (sym e) ∙ sym f)
      (ap (fault_if path.place 18) (sym h)) (m ∙ ap (λ (k : Bool). if k then Some t else None) (sym (none_one path.place 18 b))) n

  pub finds_no_int : (r t : TypedPath) (b kept : Bool) → Some r ≡ root → Some t ≡ steps_of c (Some r) path.steps → b ≡ (compared && isnt_path is_int (Some t)) →
      new ≡ earlier old (fault_if path.place 18 b) → kept ≡ not b → kept ≡ false → FindsPath c compared path old new None
  finds_no_int r t b kept e f h n k s = finds_end r t b None e f h n (ap (λ (z : Bool). if z then Some t else None) (sym s ∙ k))

  pub finds : (r t : TypedPath) (b kept : Bool) → Some r ≡ root → Some t ≡ steps_of c (Some r) path.steps → b ≡ (compared && isnt_path is_int (Some t)) →
      new ≡ earlier old (fault_if path.place 18 b) → kept ≡ not b → kept ≡ true → FindsPath c compared path old new (Some t)
  finds r t b kept e f h n k s = finds_end r t b (Some t) e f h n (ap (λ (z : Bool). if z then Some t else None) (sym s ∙ k))
