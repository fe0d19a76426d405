use Rattle.std.proofs.Common.{◌≡◌, List, ◌∙◌, ap, subst}
use Rattle.std.specs.Prelude.{IfOk}
use Rattle.std.specs.List.{flat_map}
use Rattle.iface_codec.specs.declared.iface.Iface.{Iface}
use Rattle.iface_codec.specs.declared.iface.IfaceMethod.{IfaceMethod}
use Rattle.type_rules.specs.Lookups.{supertypes}
use Rattle.type_heads.specs.Supertypes.{classes_at}
use Rattle.decl_rules.specs.Inherited.{methods_named}
use Rattle.decl_rules.specs.Standing.{methods_at}
use Rattle.decl_rules.proofs.Again.{again}
use Rattle.decl_rules.proofs.upwards.methods_above.Goals as goal

pub returns : goal.returns
returns c =
    let heads = c.args.heads.now in
    let own = c.args.own.now in
    let seen : classes_at c.as_slice.result.now ≡ supertypes heads own = ap classes_at c.as_slice.ensures.value ∙ c.in_ok-classes.ensures in
    let all = ap (λ (hs : List Iface). flat_map (λ (h : Iface). methods_named heads h.name) hs) seen ∙ again heads own in
    subst (λ (ms : List IfaceMethod). IfOk c.methods_of.result (λ found. methods_at found.items ≡ ms)) all c.methods_of.ensures
