-- The kinds of values of a universe, and the types that they are of.
use Rattle.std.specs.Prelude.{◌≡◌, List, [], ◌∷◌, Bool, true, false, IsTrue, ◌⊎◌}
use Rattle.jp_pred.specs.declared.hier.Hier.{Hier}
use Rattle.jp_pred.specs.declared.shape.Kind.{Kind}
use Rattle.jp_pred.specs.declared.shape.Kind.TheVariants as kind
use Rattle.jp_pred.specs.declared.ty.Ty.{Ty}
use Rattle.jp_pred.specs.declared.ty.Ty.TheVariants as ty
use Rattle.jp_pred.specs.Names.{Word, object, In}
use Rattle.jp_pred.specs.Hierarchy.{IsBelow}
use Rattle.jp_pred.specs.Universe.{IsClass, IsInterface}

-- the type is an array's
abbrev pub is_array : Ty → Bool
is_array ty.IntArray = true
is_array ty.BooleanArray = true
is_array (ty.ClassArray c) = true
is_array _ = false

-- the type is a class's, an interface's or an array's
abbrev pub is_reference : Ty → Bool
is_reference ty.Void = false
is_reference ty.Int = false
is_reference ty.Boolean = false
is_reference _ = true

-- some of the names is below the type, which names a class or an interface
abbrev pub SomeBelow : Hier → List Word → Ty → Type 0
SomeBelow hier names (ty.Class c) = (n : Word) × In n names × IsBelow hier n c
SomeBelow hier names _ = ⊥

-- the kind isn't null and is below the type; an array is below each array type, and below no class or interface
abbrev pub IsOf : Hier → Kind → Ty → Type 0
IsOf hier kind.Null t = ⊥
IsOf hier kind.Array t = IsTrue (is_array t)
IsOf hier (kind.Known name) t = SomeBelow hier (name ∷ []) t
IsOf hier (kind.Fresh superclass interfaces) t = SomeBelow hier (superclass ∷ interfaces) t

-- a class of which there are objects
abbrev pub IsConcrete : Hier → Word → Type 0
IsConcrete hier name = (name ≡ object) ⊎ ((c : IsClass hier name) × (c.entry.is_abstract ≡ false))

-- a class that others may extend
abbrev pub IsOpen : Hier → Word → Type 0
IsOpen hier name = (name ≡ object) ⊎ ((c : IsClass hier name) × (c.entry.is_final ≡ false))

-- a kind that a reference may have: null, an array, a concrete class, or an unlisted class with an open superclass and any interfaces
abbrev pub IsKind : Hier → Kind → Type 0
IsKind hier kind.Null = Unit {0}
IsKind hier kind.Array = Unit {0}
IsKind hier (kind.Known name) = IsConcrete hier name
IsKind hier (kind.Fresh superclass interfaces) = IsOpen hier superclass × ((i : Word) → In i interfaces → IsInterface hier i)

-- a variable of a reference type may hold a value of that kind
abbrev pub Conforms : Hier → Kind → Ty → Type 0
Conforms hier k t = IsTrue (is_reference t) × ((k ≡ kind.Null) ⊎ IsOf hier k t)
