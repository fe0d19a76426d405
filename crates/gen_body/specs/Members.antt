-- The code of members.
use Rattle.std.specs.Prelude.{ℕ, ◌+◌, max, List, [], ◌∷◌, ◌++◌, length, map, Option, Some, None, cond, slice_get}
use Rattle.jp_pred.specs.declared.ty.Ty.{Ty}
use Rattle.jp_pred.specs.declared.path.Path.{Path}
use Rattle.jp_pred.specs.declared.path.PathStep.{PathStep}
use Rattle.jp_pred.specs.declared.hier.Hier.{Hier}
use Rattle.jp_pred.specs.Names.{Word}
use Rattle.iface_codec.specs.declared.iface.Iface.{Iface}
use Rattle.iface_codec.specs.declared.iface.IfaceMethod.{IfaceMethod}
use Rattle.jp_store.specs.declared.value.Kind.{Kind}
use Rattle.jp_store.specs.declared.value.Kind.TheVariants.{Reference}
use Rattle.jp_meaning.specs.declared.unit.TypedPart.{TypedPart}
use Rattle.jp_meaning.specs.declared.unit.TypedPart.TheVariants as part
use Rattle.jp_meaning.specs.declared.unit.TypedMember.{TypedMember}
use Rattle.jp_meaning.specs.Classes.{is_static}
use Rattle.jp_meaning.specs.Descriptors.{key_of, kind_of_type}
use Rattle.jp_meaning.specs.Members.{step_type}
use Rattle.jvm_table.specs.declared.instr.Instr.TheVariants.{Load, Store, ReturnValue, ReturnVoid}
use Rattle.jvm_table.specs.declared.instr.ConstantUse.TheVariants.{GetField}
use Rattle.code_asm.specs.Items.{FieldOf, Item, Plain, Uses}
use Rattle.gen_body.specs.Codes.{row_codes, construction, coded}
use Rattle.gen_body.specs.Statements.{Part, block_code, push_default}

-- reads a field of the object on the stack, if its type is known
abbrev pub step_code : Option Ty → PathStep → List Item
step_code None step = []
step_code (Some t) step = Uses GetField (FieldOf (key_of step.class step.field t)) ∷ []

-- goes on from the object on the stack
abbrev pub steps_code : Hier → List PathStep → List Item
steps_code hier [] = []
steps_code hier (step ∷ steps) = step_code (step_type hier step) step ++ steps_code hier steps

-- pushes the value at a path, to one of a kind
abbrev pub path_code : Hier → ℕ → List PathStep → Option Kind → List Item
path_code hier root [] None = []
path_code hier root [] (Some kind) = Plain (Load kind root) ∷ []
path_code hier root (step ∷ steps) kind = Plain (Load Reference root) ∷ steps_code hier (step ∷ steps)

-- pops a value of a kind into a local
abbrev pub store_code : ℕ → Option Kind → List Item
store_code slot None = []
store_code slot (Some kind) = Plain (Store kind slot) ∷ []

-- stores the value of an alias in a local
abbrev pub alias_code : Hier → ℕ → Path × Ty → List Item
alias_code hier slot alias =
    path_code hier alias.0.root alias.0.steps (kind_of_type alias.1) ++ store_code slot (kind_of_type alias.1)

-- stores the values of aliases in the locals from one on
abbrev pub aliases_code : Hier → ℕ → List (Path × Ty) → List Item
aliases_code hier slot [] = []
aliases_code hier slot (alias ∷ more) = alias_code hier slot alias ++ aliases_code hier (slot + 1) more

-- how many locals a method is given
abbrev pub given_to : IfaceMethod → ℕ
given_to method = cond (is_static method.kind) (length method.params) (1 + length method.params)

-- runs the constructor of the superclass, if there is one, on the same object
abbrev pub super_code : Option Word → TypedMember → ℕ → Part
super_code None m n = record { items = []; next = n; need = 0 }
super_code (Some superclass) m n =
    let r = row_codes (map coded m.super_args) n in
    record { items = Plain (Load Reference 0) ∷ (r.items ++ construction superclass m.super_params ∷ []); next = r.next; need = 1 + r.need }

-- what stands at the end of a member with such a result
abbrev pub end_code : Option Kind → List Item
end_code None = Plain ReturnVoid ∷ []
end_code (Some kind) = push_default kind ∷ Plain (ReturnValue kind) ∷ []

-- a member with such a result, with some code at its start. A `break` or `continue` outside of loops has no label
abbrev pub framed : Option Kind → Part → TypedMember → Part
framed result start m =
    let c = block_code m.block start.next 0 1 in
    record { items = start.items ++ (c.items ++ end_code result); next = c.next; need = max start.need (max c.need 1) }

-- the code of a method, with its aliases first
abbrev pub method_code : Hier → Option IfaceMethod → TypedMember → Part
method_code hier None m = record { items = []; next = 2; need = 0 }
method_code hier (Some method) m =
    framed (kind_of_type method.result) (record { items = aliases_code hier (given_to method) method.aliases; next = 2; need = 1 }) m

-- the code of a member of a class; a constructor runs that of the superclass first
abbrev pub part_code : Hier → Iface → TypedMember → TypedPart → Part
part_code hier head m (part.Field at) = record { items = []; next = 2; need = 0 }
part_code hier head m (part.Method at) = method_code hier (slice_get head.methods at) m
part_code hier head m (part.Constructor at) = framed None (super_code head.superclass m 2) m

abbrev pub member_code : Hier → Iface → TypedMember → Part
member_code hier head m = part_code hier head m m.part
