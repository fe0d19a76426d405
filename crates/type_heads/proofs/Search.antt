-- The search for what is above a class, over heads.
use Rattle.std.proofs.Common.{◌≡◌, ℕ, ◌<◌, List, [], ◌∷◌, length, map, get_or, Bool, true, false, cond, IsTrue, Some, None, refl, sym, ◌∙◌, ap}
use Rattle.std.specs.Prelude.{◌||◌, slice_get}
use Rattle.std.specs.Option.{option_map}
use Rattle.std.proofs.lemmas.List.{get_or-map}
use Rattle.std.proofs.lemmas.Bool.Decides.{same_from_decides}
use Rattle.jp_ast.specs.declared.decl.Decl.{Decl}
use Rattle.jp_pred.specs.declared.hier.SeenClass.{SeenClass}
use Rattle.jp_pred.specs.Names.{Word, same, here}
use Rattle.jp_pred.specs.Hierarchy.{class_named, Ascends, reaches}
use Rattle.jp_pred.specs.Marks.{place, is_marked, Done, Closed}
use Rattle.jp_pred.proofs.Ascents.{ascent_from_reaches}
use Rattle.jp_pred.proofs.Visits.{entry_found, decided}
use Rattle.iface_codec.specs.declared.iface.Iface.{Iface}
use Rattle.iface_codec.specs.Hierarchy.{seen_class, hier_of}
use Rattle.type_rules.specs.Heads.{head_of}
use Rattle.type_rules.specs.Nodes.{DeclNode}
use Rattle.type_rules.proofs.Ways.{above_itself}

-- the head at the place of a name is the one of that name
pub head_found : (heads : List Iface) (a : Word) (i : ℕ) (x : Iface) → place a (map seen_class heads) ≡ Some i → i < length heads → x ≡ get_or heads i x →
    (slice_get (map seen_class heads) i ≡ Some (seen_class x)) × (class_named a (map seen_class heads) ≡ Some (seen_class x))
head_found heads a i x h l e = entry_found (map seen_class heads) a i (seen_class x) h (ap seen_class e ∙ sym (get_or-map seen_class heads i x (seen_class x) l))

-- the entry of a name is that of its head
pub named_head : (heads : List Iface) (a : Word) → class_named a (map seen_class heads) ≡ option_map seen_class (head_of heads a)
named_head [] a = refl
named_head (h ∷ hs) a = elim (same h.name a) as (λ b. cond b (Some (seen_class h)) (class_named a (map seen_class hs)) ≡ option_map seen_class (cond b (Some h) (head_of hs a))) [
  | true ↦ refl
  | false ↦ named_head hs a
]

or_false : (b : Bool) → (b || false) ≡ true → b ≡ true
or_false true h = refl
or_false false h = h

-- what is above is reached within as many steps as there are heads
pub complete : (heads : List Iface) (a b : Word) → Ascends (hier_of heads) a b → reaches (length heads) (hier_of heads) a b ≡ true
complete heads a b r =
    let decl : Decl = record {
      place = record { line = 0; col = 0 };
      name = b;
      is_interface = false;
      is_abstract = false;
      is_final = false;
      superclass = None;
      interfaces = a ∷ [];
      members = [];
    } in
    let d : DeclNode = record { heads = heads; earlier = []; decl = decl } in
    or_false (reaches (length heads) (hier_of heads) a b) ((above_itself d).1 (a, here, r))

-- a search without marks at its begin answers whether the name is reached
pub reached : (heads : List Iface) (a u : Word) (r : Bool) (old new : List Bool) → ((i : ℕ) → is_marked old i ≡ false) → (IsTrue r → Ascends (hier_of heads) a u) →
    (r ≡ false → Closed (hier_of heads) u old new) → (r ≡ false → Done (hier_of heads) u new a) → r ≡ reaches (length heads) (hier_of heads) a u
reached heads a u r old new blank found closed done = same_from_decides r (reaches (length heads) (hier_of heads) a u)
    (found, λ s. decided (hier_of heads) a u r old new blank closed done s) (ascent_from_reaches (length heads) (hier_of heads) a u, complete heads a u)
