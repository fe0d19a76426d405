-- A call of a declared family finds a body.
use Rattle.std.proofs.Common.{◌≡◌, true, false, ◌&&◌, List, [], ◌∷◌, Some, refl, sym, ap, ◌∙◌, subst}
use Rattle.std.specs.Prelude.{cond}
use Rattle.jp_pred.specs.declared.hier.Hier.{Hier}
use Rattle.jp_pred.specs.Names.{Word, same, In, here, there}
use Rattle.jp_pred.specs.Hierarchy.{is_below}
use Rattle.jp_pred.specs.Universe.{IsUniverse}
use Rattle.jp_pred.proofs.Lists.{in_from_any}
use Rattle.jp_pred.proofs.Ascents.{same_true, is_below-Decides}
use Rattle.jp_pred.proofs.Agreement.{below_trans}
use Rattle.iface_codec.specs.declared.iface.IfaceMethod.{IfaceMethod}
use Rattle.jp_meaning.specs.declared.unit.TypedClass.{TypedClass}
use Rattle.jp_meaning.specs.Does.{Method}
use Rattle.jp_meaning.specs.Descriptors.{word_of, method_descriptor}
use Rattle.jp_meaning.specs.Classes.{is_virtual, is_named, declares, class_in, hier_in, chain_of}
use Rattle.whole_classes.specs.Bodies.{called}
use Rattle.whole_classes.specs.Whole.{family_of}
use Rattle.whole_classes.specs.Laws.{WholeCallsFindBodies}
use Rattle.whole_classes.proofs.Wholeness.{and_left, and_right}

-- the first class of a name is one of the classes, and has the name
class_found : (classes : List TypedClass) (name : Word) (c : TypedClass) → class_in classes name ≡ Some c → In c classes × (c.head.name ≡ name)
class_found [] name c e = absurd cc
class_found (d ∷ cs) name c e = elim (same d.head.name name) as (λ b. same d.head.name name ≡ b → cond b (Some d) (class_in cs name) ≡ Some c → In c (d ∷ cs) × (c.head.name ≡ name)) [
  | true ↦ λ t k.
      let q : d ≡ c = cc in
      (subst (λ (x : TypedClass). In x (d ∷ cs)) q here, subst (λ (x : TypedClass). x.head.name ≡ name) q (same_true d.head.name name t))
  | false ↦ λ t k. let r = class_found cs name c k in (there r.0, r.1)
] refl e

below_by : (hier : Hier) → IsUniverse hier → (a b c : Word) → is_below hier a b ≡ true → is_below hier b c ≡ true → is_below hier a c ≡ true
below_by hier valid a b c h k = (is_below-Decides hier a c valid.free).1 (below_trans hier valid a b c ((is_below-Decides hier a b valid.free).0 h) ((is_below-Decides hier b c valid.free).0 k))

-- a chain depends on the name and the descriptor alone
same_chain : (classes : List TypedClass) (named : Method) (d : TypedClass) (m : IfaceMethod) (name : Word) → is_named named m ≡ true → chain_of classes named name ≡ chain_of classes (family_of d.head m) name
same_chain classes named d m name h =
    let descriptor = method_descriptor m.params m.result in
    let n : m.name ≡ named.name = same_true m.name named.name (and_left (same m.name named.name) (same descriptor named.descriptor) h) in
    let t : descriptor ≡ named.descriptor = same_true descriptor named.descriptor (and_right (same m.name named.name) (same descriptor named.descriptor) h) in
    sym (ap (λ (w : Word). chain_of classes (called w descriptor) name) n ∙ ap (λ (w : Word). chain_of classes (called named.name w) name) t)

pub find_bodies : WholeCallsFindBodies
find_bodies classes valid whole named family name c found concrete below none =
    let hier = hier_in classes in
    let r = class_found classes name c found in
    let d = in_from_any (λ (d : TypedClass). is_below hier (word_of named.class) d.head.name && declares named d) classes family in
    let above : is_below hier (word_of named.class) d.0.head.name ≡ true = and_left (is_below hier (word_of named.class) d.0.head.name) (declares named d.0) d.2 in
    let m = in_from_any (λ (m : IfaceMethod). is_virtual m.kind && is_named named m) d.0.head.methods (and_right (is_below hier (word_of named.class) d.0.head.name) (declares named d.0) d.2) in
    let under : is_below hier c.head.name d.0.head.name ≡ true = subst (λ (w : Word). is_below hier w d.0.head.name ≡ true) (sym r.1) (below_by hier valid name (word_of named.class) d.0.head.name below above) in
    let bare : chain_of classes (family_of d.0.head m.0) c.head.name ≡ [] = ap (chain_of classes (family_of d.0.head m.0)) r.1 ∙ (sym (same_chain classes named d.0 m.0 name (and_right (is_virtual m.0.kind) (is_named named m.0) m.2)) ∙ none) in
    whole c r.0 concrete d.0 d.1 under m.0 m.1 (and_left (is_virtual m.0.kind) (is_named named m.0) m.2) bare
