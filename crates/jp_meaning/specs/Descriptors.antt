-- Types and classes as the store and code name them (JVM specification, second edition, 4.3.2 and 4.3.3).
use Rattle.std.specs.Prelude.{ℕ, List, ◌++◌, Option, Some, None, codes, if◌then◌else◌}
use Rattle.std.specs.List.{flat_map}
use Rattle.jp_pred.specs.declared.ty.Ty.{Ty}
use Rattle.jp_pred.specs.declared.ty.Ty.TheVariants as ty
use Rattle.jp_pred.specs.Names.{Word, object, same}
use Rattle.jp_store.specs.declared.value.Kind.{Kind}
use Rattle.jp_store.specs.declared.value.Kind.TheVariants.{Number, Reference}
use Rattle.jp_store.specs.declared.value.ElementKind.{ElementKind}
use Rattle.jp_store.specs.declared.value.ElementKind.TheVariants.{NumberElement, TruthElement, ReferenceElement}
use Rattle.jp_store.specs.Classes.{Key, object_name}
use Rattle.jp_store.specs.Work.{NamedElement, IntElements, BooleanElements, ClassElements}
use Rattle.jp_meaning.specs.Does.{Method}

-- a class's name in the store and in code
abbrev pub internal_name : Word → List ℕ
internal_name name = if same name object then object_name else name

-- the class of that name in the store and in code
abbrev pub word_of : List ℕ → Word
word_of name = if same name object_name then object else name

-- a type's descriptor
abbrev pub descriptor_of : Ty → List ℕ
descriptor_of ty.Void = codes "V"
descriptor_of ty.Int = codes "I"
descriptor_of ty.Boolean = codes "Z"
descriptor_of (ty.Class name) = codes "L" ++ (internal_name name ++ codes ";")
descriptor_of ty.IntArray = codes "[I"
descriptor_of ty.BooleanArray = codes "[Z"
descriptor_of (ty.ClassArray name) = codes "[L" ++ (internal_name name ++ codes ";")

-- the descriptor of a method with such parameters and result
abbrev pub method_descriptor : List Ty → Ty → List ℕ
method_descriptor params result = codes "(" ++ (flat_map descriptor_of params ++ (codes ")" ++ descriptor_of result))

-- a method of a class
abbrev pub method_of : Word → Word → List Ty → Ty → Method
method_of class name params result =
    record { class = internal_name class; name = name; descriptor = method_descriptor params result }

-- a class's constructor with such parameters
abbrev pub constructor_of : Word → List Ty → Method
constructor_of class params = method_of class (codes "<init>") params ty.Void

-- a field of a class, as the class that declares it, its name and its type name it
abbrev pub key_of : Word → Word → Ty → Key
key_of class name t = record { class = internal_name class; name = name; descriptor = descriptor_of t }

-- what kind of value a variable of a type holds
abbrev pub kind_of_type : Ty → Option Kind
kind_of_type ty.Void = None
kind_of_type ty.Int = Some Number
kind_of_type ty.Boolean = Some Number
kind_of_type (ty.Class name) = Some Reference
kind_of_type ty.IntArray = Some Reference
kind_of_type ty.BooleanArray = Some Reference
kind_of_type (ty.ClassArray name) = Some Reference

-- how an element of a type is read and stored
abbrev pub element_kind_of : Ty → ElementKind
element_kind_of ty.Void = ReferenceElement
element_kind_of ty.Int = NumberElement
element_kind_of ty.Boolean = TruthElement
element_kind_of (ty.Class name) = ReferenceElement
element_kind_of ty.IntArray = ReferenceElement
element_kind_of ty.BooleanArray = ReferenceElement
element_kind_of (ty.ClassArray name) = ReferenceElement

-- what an array with elements of a type is made of
abbrev pub elements_of : Ty → Option NamedElement
elements_of ty.Void = None
elements_of ty.Int = Some IntElements
elements_of ty.Boolean = Some BooleanElements
elements_of (ty.Class name) = Some (ClassElements (internal_name name))
elements_of ty.IntArray = None
elements_of ty.BooleanArray = None
elements_of (ty.ClassArray name) = None
