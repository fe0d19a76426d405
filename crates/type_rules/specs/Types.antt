-- Types: which are the same, and which a part without a fault may still be without.
use Rattle.std.specs.Prelude.{List, [], ◌∷◌, Bool, true, false, ◌&&◌, ◌||◌, codes}
use Rattle.std.specs.List.{list_any}
use Rattle.jp_pred.specs.declared.ty.Ty.{Ty}
use Rattle.jp_pred.specs.declared.ty.Ty.TheVariants as ty
use Rattle.jp_pred.specs.Names.{Word, same}

-- the class of input and output, and the name that isn't one of a class
abbrev pub io : Word
io = codes "Io"

abbrev pub string : Word
string = codes "String"

-- the name stands among the names
abbrev pub is_among : Word → List Word → Bool
is_among name names = list_any (λ n. same n name) names

-- names that stand in no type position
abbrev pub is_reserved : Word → Bool
is_reserved name = same name io || same name string

abbrev pub is_int : Ty → Bool
is_int ty.Int = true
is_int _ = false

abbrev pub is_boolean : Ty → Bool
is_boolean ty.Boolean = true
is_boolean _ = false

abbrev pub is_void : Ty → Bool
is_void ty.Void = true
is_void _ = false

-- a class's or an interface's
abbrev pub is_named : Ty → Bool
is_named (ty.Class name) = true
is_named _ = false

abbrev pub is_class_of : Word → Ty → Bool
is_class_of name (ty.Class other) = same other name
is_class_of name _ = false

abbrev pub is_int_array : Ty → Bool
is_int_array ty.IntArray = true
is_int_array _ = false

abbrev pub is_boolean_array : Ty → Bool
is_boolean_array ty.BooleanArray = true
is_boolean_array _ = false

abbrev pub is_array_of : Word → Ty → Bool
is_array_of name (ty.ClassArray other) = same other name
is_array_of name _ = false

-- the two types are equal
abbrev pub same_type : Ty → Ty → Bool
same_type ty.Void t = is_void t
same_type ty.Int t = is_int t
same_type ty.Boolean t = is_boolean t
same_type (ty.Class name) t = is_class_of name t
same_type ty.IntArray t = is_int_array t
same_type ty.BooleanArray t = is_boolean_array t
same_type (ty.ClassArray name) t = is_array_of name t

-- the type names what stands in no type position
abbrev pub is_refused : Ty → Bool
is_refused (ty.Class name) = is_reserved name
is_refused (ty.ClassArray name) = is_reserved name
is_refused _ = false

-- Whether it is unknown what type a value has: that of what is declared with a refused type, and what is read from it. No
-- rule that needs a type finds a fault at such a value
abbrev pub is_unknown : Ty → Bool
is_unknown t = is_void t || is_refused t

-- the two types are equal, or one is refused, so that nothing can be said of it
abbrev pub agree : Ty → Ty → Bool
agree t u = is_refused t || is_refused u || same_type t u

-- the types of two lists agree, one by one
abbrev pub all_agree : List Ty → List Ty → Bool
all_agree [] [] = true
all_agree [] (u ∷ us) = false
all_agree (t ∷ ts) [] = false
all_agree (t ∷ ts) (u ∷ us) = agree t u && all_agree ts us
