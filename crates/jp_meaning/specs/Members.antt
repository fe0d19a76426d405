-- What a method or a constructor does.
use Rattle.std.specs.Prelude.{ℕ, ◌-◌, List, [], ◌∷◌, ◌++◌, length, replicate, map, Option, Some, None, option_and_then, slice_get}
use Rattle.jp_pred.specs.declared.ty.Ty.{Ty}
use Rattle.jp_pred.specs.declared.path.Path.{Path}
use Rattle.jp_pred.specs.declared.path.PathStep.{PathStep}
use Rattle.jp_pred.specs.declared.hier.Hier.{Hier}
use Rattle.jp_pred.specs.Hierarchy.{class_named}
use Rattle.jp_pred.specs.Shapes.{field_type}
use Rattle.iface_codec.specs.declared.iface.Iface.{Iface}
use Rattle.jp_store.specs.declared.value.Value.{Value}
use Rattle.jp_store.specs.declared.value.Value.TheVariants.{Null}
use Rattle.jp_store.specs.declared.value.Kind.{Kind}
use Rattle.jp_store.specs.declared.value.Kind.TheVariants.{Reference}
use Rattle.jp_store.specs.Work.{GetField}
use Rattle.jp_meaning.specs.declared.unit.TypedPart.{TypedPart}
use Rattle.jp_meaning.specs.declared.unit.TypedPart.TheVariants as part
use Rattle.jp_meaning.specs.declared.unit.TypedMember.{TypedMember}
use Rattle.jp_does.specs.Does.{Gives, Works, Stuck, then_do, found}
use Rattle.jp_meaning.specs.Does.{Does}
use Rattle.jp_meaning.specs.Descriptors.{key_of, kind_of_type}
use Rattle.jp_meaning.specs.Expressions.{Locals, fits, typed, local_value, meant, values_of, construct}
use Rattle.jp_meaning.specs.Statements.{Left, Goes, Breaks, Continues, Returned, block_does}

-- the declared type of a step's field
abbrev pub step_type : Hier → PathStep → Option Ty
step_type hier s = option_and_then (λ c. field_type s.field c.fields) (class_named s.class hier.classes)

-- the value behind some steps from an object
abbrev pub read_steps : Hier → List PathStep → Value → Does Value
read_steps hier [] v = Gives v
read_steps hier (s ∷ ss) v =
    then_do (fits Reference v) (λ o. found (step_type hier s) (λ t. Works (GetField o (key_of s.class s.field t)) (λ u.
    then_do (typed t u) (read_steps hier ss))))

-- the value at a path from the receiver and the arguments
abbrev pub read_path : Hier → Path → List Value → Does Value
read_path hier path vs = found (slice_get vs path.root) (read_steps hier path.steps)

-- the value of an alias
abbrev pub read_alias : Hier → Path × Ty → List Value → Does Value
read_alias hier alias vs = then_do (read_path hier alias.0 vs) (typed alias.1)

-- the values of aliases, one after the other
abbrev pub read_aliases : Hier → List (Path × Ty) → List Value → Does (List Value)
read_aliases hier [] vs = Gives []
read_aliases hier (alias ∷ more) vs = then_do (read_alias hier alias vs) (λ v. then_do (read_aliases hier more vs) (λ rest. Gives (v ∷ rest)))

-- a member's locals at its start: the given values, and room for the others
abbrev pub locals_of : TypedMember → List Value → Locals
locals_of m vs = map Some vs ++ replicate (m.locals - length vs) None

-- what a member returns, by what its result is: a value of its kind, or none
abbrev pub leaves : Option Kind → Option Value → Does Value
leaves None None = Gives Null
leaves None (Some v) = Stuck
leaves (Some kind) None = Stuck
leaves (Some kind) (Some v) = fits kind v

-- what a member returns, by the way that its statements leave
abbrev pub returned : Option Kind → Left → Does Value
returned result (Goes env) = leaves result None
returned result (Breaks env) = Stuck
returned result (Continues env) = Stuck
returned result (Returned v) = leaves result v

-- the constructor of the superclass runs on the same object
abbrev pub super_first : Iface → TypedMember → Locals → Does Value
super_first head m env =
    found head.superclass (λ superclass. then_do (local_value 0 Reference env) (λ o. then_do (values_of (map meant m.super_args) env) (λ args.
    construct superclass m.super_params o args)))

-- the statements of a member with such a result, from these locals on
abbrev pub statements_do : Option Kind → TypedMember → ℕ → Locals → Does Value
statements_do result m n env = then_do (block_does m.block n env) (returned result)

-- What a member of a part does, given the receiver and the arguments. A body reads its aliases first, and a constructor
-- runs that of the superclass first
abbrev pub part_does : Hier → Iface → TypedMember → TypedPart → ℕ → List Value → Does Value
part_does hier head m (part.Field at) n vs = Stuck
part_does hier head m (part.Method at) n vs =
    found (slice_get head.methods at) (λ method. then_do (read_aliases hier method.aliases vs) (λ more.
    statements_do (kind_of_type method.result) m n (locals_of m (vs ++ more))))
part_does hier head m (part.Constructor at) n vs =
    then_do (super_first head m (locals_of m vs)) (λ done. statements_do None m n (locals_of m vs))

-- what a member of a class does, where each loop makes at most n turns
abbrev pub member_does : Hier → Iface → TypedMember → ℕ → List Value → Does Value
member_does hier head m n vs = part_does hier head m m.part n vs
