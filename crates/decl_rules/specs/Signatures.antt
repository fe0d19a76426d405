-- Methods as the rules compare them, without guards and without what they read on entry.
use Rattle.std.specs.Prelude.{List, [], map}
use Rattle.jp_pred.specs.declared.ty.Ty.{Ty}
use Rattle.jp_pred.specs.declared.guard.Guard.TheVariants as guard
use Rattle.iface_codec.specs.declared.iface.IfaceMethod.{IfaceMethod}
use Rattle.type_rules.specs.Heads.{method}
use Rattle.decl_rules.specs.declared.signature.Params.{Params}
use Rattle.decl_rules.specs.declared.signature.Params.TheVariants as params
use Rattle.decl_rules.specs.declared.signature.Signature.{Signature}

-- the types of parameters
abbrev pub types_in : Params → List Ty
types_in (params.Written all) = map (λ p. p.ty) all.now
types_in (params.Told types) = types.now

-- a method of that signature
abbrev pub as_told : Signature → IfaceMethod
as_told s = method s.name.now s.kind (types_in s.params) s.gives.now []

-- the same method without its guard
abbrev pub bare : IfaceMethod → IfaceMethod
bare m = record m { guard = guard.True; aliases = [] }
