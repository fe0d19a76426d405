-- Paths and parts of guards that are looked at, with the first fault so far.
use Rattle.std.specs.Prelude.{◌≡◌, List, Bool, false, Option, None, if◌then◌else◌}
use Rattle.jp_ast.specs.declared.token.Place.{Place}
use Rattle.jp_ast.specs.declared.guard.PathText.{PathText}
use Rattle.jp_pred.specs.declared.ty.Ty.{Ty}
use Rattle.jp_pred.specs.declared.ty.Ty.TheVariants as ty
use Rattle.jp_pred.specs.Names.{Word}
use Rattle.jp_pred.specs.Paths.{extend}
use Rattle.iface_codec.specs.declared.iface.IfaceField.{IfaceField}
use Rattle.jp_meaning.specs.declared.guard.TypedPath.{TypedPath}
use Rattle.type_rules.specs.declared.fault.TypeFault.{TypeFault}
use Rattle.type_rules.specs.declared.guard_scope.GuardScope.{GuardScope}
use Rattle.type_rules.specs.Nodes.{Node, AtPath, AtAtom, AtomNode}
use Rattle.type_rules.specs.Lookups.{field_that}
use Rattle.type_rules.specs.GuardPaths.{path_at, path_of}
use Rattle.type_rules.specs.Table.{own_faults}
use Rattle.type_rules.specs.Typing.{earlier}
use Rattle.type_heads.specs.Faults.{is_none_of}

-- the faults of a node
unfoldable pub faults_at : Place → Node → List TypeFault
faults_at p n = own_faults p n

-- what stands, where the node has no fault
abbrev pub unless_faulty : {A : Type 0} → Place → Node → Option A → Option A
unless_faulty p n made = if is_none_of (faults_at p n) then made else None

-- A path is looked at: the resolved one, where it has no fault, and the first fault so far, with its own
pub record FindsPath (c : GuardScope) (compared : Bool) (path : PathText) (old new : Option TypeFault) (found : Option TypedPath) : Type 0 where
  pub path_is : found ≡ unless_faulty path.place (AtPath c compared path) (path_of c path)
  pub first : new ≡ earlier old (faults_at path.place (AtPath c compared path))

-- The rules of an atom are looked at: whether it breaks none, and the first fault so far, with its own
pub record LooksAt (c : GuardScope) (p : Place) (n : AtomNode) (old new : Option TypeFault) (kept : Bool) : Type 0 where
  pub sound : kept ≡ is_none_of (faults_at p (AtAtom c n))
  pub first : new ≡ earlier old (faults_at p (AtAtom c n))

-- the instance field of that name of a type
abbrev pub instance_field : GuardScope → Ty → Word → Option (Word × IfaceField)
instance_field c (ty.Class class) name = field_that false c.heads c.class class name
instance_field c _ name = None

-- one field further
abbrev pub stepped : GuardScope → TypedPath → Word → Word → Ty → TypedPath
stepped c before class name declared = path_at c before.place (extend before.path (record { class = class; field = name })) declared
