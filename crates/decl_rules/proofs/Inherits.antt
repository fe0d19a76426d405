-- Methods that are inherited, and lists of classes and methods that are referred to.
use Rattle.std.proofs.Common.{◌≡◌, ℕ, ◌+◌, ◌<◌, List, [], ◌∷◌, ◌++◌, drop, length, get_or, false, refl, sym, ◌∙◌, ap, append_assoc}
use Rattle.std.specs.Prelude.{◌||◌}
use Rattle.std.specs.Borrow.{Bor}
use Rattle.std.specs.List.{flat_map, list_any}
use Rattle.std.proofs.Math.Seq.{drop-length}
use Rattle.iface_codec.specs.declared.iface.Iface.{Iface}
use Rattle.iface_codec.specs.declared.iface.IfaceMethod.{IfaceMethod}
use Rattle.type_rules.specs.RulesOfDeclarations.{disagree, collide, some_pair}
use Rattle.type_heads.specs.Supertypes.{classes_at}
use Rattle.type_heads.proofs.Levels.{at_place}
use Rattle.decl_rules.specs.declared.clashes.Clash.{Clash}
use Rattle.decl_rules.specs.declared.clashes.Clash.TheVariants as clash
use Rattle.decl_rules.specs.Clashes.{clash_of}
use Rattle.decl_rules.specs.Inherited.{methods_named}
use Rattle.decl_rules.specs.Signatures.{bare}
use Rattle.decl_rules.specs.Standing.{methods_at}

-- LISTS, ONE AFTER THE OTHER

pub next_methods : (heads : List Iface) (cs : List (Bor Iface)) (i : ℕ) (c : Bor Iface) (all new : List IfaceMethod) → i < length cs → c ≡ get_or cs i c → new ≡ all ++ methods_named heads c.now.name →
    new ++ flat_map (λ h. methods_named heads h.name) (classes_at (drop (i + 1) cs)) ≡ all ++ flat_map (λ h. methods_named heads h.name) (classes_at (drop i cs))
next_methods heads cs i c all new l e f =
    let rest = flat_map (λ (h : Iface). methods_named heads h.name) (classes_at (drop (i + 1) cs)) in
    ap (λ (ms : List IfaceMethod). ms ++ rest) f
    ∙ (append_assoc all (methods_named heads c.now.name) rest
    ∙ ap (λ (ds : List (Bor Iface)). all ++ flat_map (λ (h : Iface). methods_named heads h.name) (classes_at ds)) (sym (at_place cs i c l e)))

-- a method and those behind it
pub one_method : (k : Clash) (ms : List (Bor IfaceMethod)) (i : ℕ) (m : Bor IfaceMethod) → i < length ms → m ≡ get_or ms i m →
    (list_any (clash_of k m.now) (methods_at (drop (i + 1) ms)) || some_pair (clash_of k) (methods_at (drop (i + 1) ms))) ≡ some_pair (clash_of k) (methods_at (drop i ms))
one_method k ms i m l e = sym (ap (λ (ns : List (Bor IfaceMethod)). some_pair (clash_of k) (methods_at ns)) (at_place ms i m l e))

-- behind the last one
pub no_method : (k : Clash) (ms : List (Bor IfaceMethod)) (i : ℕ) → i ≡ length ms → false ≡ some_pair (clash_of k) (methods_at (drop i ms))
no_method k ms i e = sym (ap (λ (j : ℕ). some_pair (clash_of k) (methods_at (drop j ms))) e ∙ ap (λ (ns : List (Bor IfaceMethod)). some_pair (clash_of k) (methods_at ns)) (drop-length ms))

-- GUARDS AREN'T COMPARED

pub bare_second : (k : Clash) (a m : IfaceMethod) → clash_of k a (bare m) ≡ clash_of k a m
bare_second clash.Types a m = refl
bare_second clash.Static a m = refl

pub bare_first : (k : Clash) (m : IfaceMethod) (ms : List IfaceMethod) → list_any (clash_of k (bare m)) ms ≡ list_any (clash_of k m) ms
bare_first clash.Types m [] = refl
bare_first clash.Types m (x ∷ xs) = ap (λ b. disagree m x || b) (bare_first clash.Types m xs)
bare_first clash.Static m [] = refl
bare_first clash.Static m (x ∷ xs) = ap (λ b. collide m x || b) (bare_first clash.Static m xs)
