-- The declarations of a unit are checked one after the other.
use Rattle.std.proofs.Common.{◌≡◌, ℕ, ◌+◌, ◌<◌, ◌≤◌, List, [], ◌∷◌, ◌++◌, map, take, length, get_or, true, false, Option, Some, None, refl, sym, ap, ◌∙◌, subst, append_assoc}
use Rattle.std.specs.Prelude.{is_some}
use Rattle.std.specs.Option.{option_map}
use Rattle.std.proofs.lemmas.List.{append-nil, take_more, take_all}
use Rattle.iface_codec.specs.declared.iface.Iface.{Iface}
use Rattle.jp_ast.specs.declared.decl.SourceUnit.{SourceUnit}
use Rattle.jp_ast.specs.declared.decl.Decl.{Decl}
use Rattle.jp_meaning.specs.declared.unit.TypedClass.{TypedClass}
use Rattle.jp_meaning.specs.declared.unit.TypedUnit.{TypedUnit}
use Rattle.type_rules.specs.declared.fault.TypeFault.{TypeFault}
use Rattle.type_rules.specs.Heads.{heads_of}
use Rattle.type_rules.specs.Nodes.{Visit}
use Rattle.type_rules.specs.Table.{faults_of}
use Rattle.type_rules.specs.Typing.{earlier, first_of, IsTyped, IsFirstFault}
use Rattle.type_rules.specs.Units.{open_decl, decl_visits, visits_from, made_classes, visits_of, made_unit}
use Rattle.type_rules.proofs.Sentences.{first_is_first, none_is_none}
use Rattle.type_rules.proofs.UnitTrees.{sound_is_typed}
use Rattle.type_heads.proofs.FaultLists.{then_faults}
use Rattle.type_decl.specs.declared.classes.CheckedDecl.{CheckedDecl}
use Rattle.type_decl.specs.Checking.{class_in, nodes_in, with_class, ChecksDecl, ChecksDecls}

visits_more : (heads : List Iface) (before ds : List Decl) (d : Decl) →
    visits_from heads before (map open_decl (ds ++ d ∷ [])) ≡ visits_from heads before (map open_decl ds) ++ nodes_in heads (before ++ ds) d
unfolding nodes_in
visits_more heads before [] d = append-nil (decl_visits heads before (open_decl d)) ∙ ap (λ (xs : List Decl). decl_visits heads xs (open_decl d)) (sym (append-nil before))
visits_more heads before (x ∷ ds) d =
    ap (λ (vs : List Visit). decl_visits heads before (open_decl x) ++ vs)
    (visits_more heads (before ++ x ∷ []) ds d
    ∙ ap (λ (xs : List Decl). visits_from heads (before ++ x ∷ []) (map open_decl ds) ++ decl_visits heads xs (open_decl d)) (append_assoc before (x ∷ []) ds))
    ∙ sym (append_assoc (decl_visits heads before (open_decl x)) (visits_from heads (before ++ x ∷ []) (map open_decl ds)) (decl_visits heads (before ++ x ∷ ds) (open_decl d)))

classes_more : (heads : List Iface) (so_far : Option (List TypedClass)) (ds : List Decl) (d : Decl) →
    made_classes heads so_far (map open_decl (ds ++ d ∷ [])) ≡ with_class (made_classes heads so_far (map open_decl ds)) (class_in heads d)
unfolding class_in
classes_more heads so_far [] d = refl
classes_more heads so_far (x ∷ ds) d = classes_more heads (with_class so_far (class_in heads x)) ds d

-- some declarations are checked, and the heads are the same
pub record Checking (heads back : List Iface) (ds : List Decl) (at : ℕ) (old new : Option TypeFault) (so_far : Option (List TypedClass)) : Type 0 where
  pub heads_are : back ≡ heads
  pub front : ChecksDecls heads (take at ds) old new so_far

pub none_checked : (heads : List Iface) (ds : List Decl) (old : Option TypeFault) (so_far : Option (List TypedClass)) → so_far ≡ Some [] → Checking heads heads ds 0 old old so_far
none_checked heads ds old so_far e = record { heads_are = refl; front = record { classes_are = e; first = refl } }

pub one_more_checked : (heads back : List Iface) (ds : List Decl) (at : ℕ) (d : Decl) (before : List Decl) (old mid new : Option TypeFault) (so_far more : Option (List TypedClass)) (one : CheckedDecl) → at < length ds → d ≡ get_or ds at d →
    before ≡ take at ds → Checking heads back ds at old mid so_far → ChecksDecl back before d mid new one → more ≡ with_class so_far one.class → Checking heads one.heads ds (at + 1) old new more
one_more_checked heads back ds at d before old mid new so_far more one l e b a c m =
    let v = subst (λ (z : List Iface). ChecksDecl z before d mid new one) a.heads_are c in
    let v' = subst (λ (zs : List Decl). ChecksDecl heads zs d mid new one) b v in
    let t : take at ds ++ d ∷ [] ≡ take (at + 1) ds = sym (take_more ds at d l ∙ ap (λ (z : Decl). take at ds ++ z ∷ []) (sym e)) in
    record {
      heads_are = v'.heads_are;
      front = subst (λ (zs : List Decl). ChecksDecls heads zs old new more) t (record {
        classes_are = m ∙ ((λ i. with_class (a.front.classes_are i) (v'.class_is i)) ∙ sym (classes_more heads (Some []) (take at ds) d));
        first = then_faults old mid new (visits_from heads [] (map open_decl (take at ds))) (nodes_in heads (take at ds) d) a.front.first v'.first
            ∙ ap (λ (vs : List Visit). earlier old (faults_of vs)) (sym (visits_more heads [] (take at ds) d));
      });
    }

pub all_checked : (heads back : List Iface) (ds : List Decl) (at : ℕ) (old new : Option TypeFault) (so_far : Option (List TypedClass)) → length ds ≤ at → Checking heads back ds at old new so_far → ChecksDecls heads ds old new so_far
all_checked heads back ds at old new so_far l a = subst (λ (zs : List Decl). ChecksDecls heads zs old new so_far) (take_all at ds l) a.front

-- UNITS

abbrev unit_of : List TypedClass → TypedUnit
unit_of cs = record { classes = cs }

module _ (unit : SourceUnit) (others heads : List Iface) (ds : List Decl) (old new : Option TypeFault) (so_far : Option (List TypedClass))
    (h : heads ≡ heads_of ds others) (e : ds ≡ unit.decls) (o : old ≡ None) (a : ChecksDecls heads ds old new so_far) where
  all_heads : heads ≡ heads_of unit.decls others
  all_heads = h ∙ ap (λ (xs : List Decl). heads_of xs others) e

  first_is : new ≡ first_of (visits_of unit others)
  first_is = a.first ∙ (λ i. earlier (o i) (faults_of (visits_from (all_heads i) [] (map open_decl (e i)))))

  made_is : option_map unit_of so_far ≡ made_unit unit others
  made_is = λ i. option_map unit_of ((a.classes_are ∙ (λ j. made_classes (all_heads j) (Some []) (map open_decl (e j)))) i)

  pub unit_fault : (f : TypeFault) → new ≡ Some f → IsFirstFault (visits_of unit others) f
  unit_fault f n = first_is_first (visits_of unit others) f (sym first_is ∙ n)

  pub unit_typed : (cs : List TypedClass) → new ≡ None → so_far ≡ Some cs → IsTyped unit others (record { classes = cs })
  unit_typed cs n d = record {
    sound = none_is_none (visits_of unit others) (sym first_is ∙ n);
    resolved = sym made_is ∙ ap (option_map unit_of) d;
  }

  pub never_else : new ≡ None → so_far ≡ None → ⊥
  never_else n d =
      let s : is_some (made_unit unit others) ≡ true = sound_is_typed unit others (sym first_is ∙ n) in
      let m : made_unit unit others ≡ None = sym made_is ∙ ap (option_map unit_of) d in
      let k : true ≡ false = sym s ∙ ap is_some m in
      cc
