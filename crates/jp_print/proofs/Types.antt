-- Types read back.
use Rattle.std.proofs.Common.{◌≡◌, ℕ, List, [], ◌∷◌, ◌++◌, refl, codes, arith}
use Rattle.jp_pred.specs.declared.ty.Ty.{Ty}
use Rattle.jp_pred.specs.declared.ty.Ty.TheVariants as ty
use Rattle.jp_ast.specs.declared.token.Token.{Token}
use Rattle.jp_ast.specs.declared.token.Lexeme.TheVariants.{Word, Sign}
use Rattle.jp_ast.specs.declared.sign.TheConstants as sign
use Rattle.jp_grammar.specs.declared.kind.Kind.TheVariants as k
use Rattle.jp_grammar.specs.Kinds.{Tokens}
use Rattle.jp_grammar.specs.Expressions.{IsElement}
use Rattle.jp_grammar.specs.Statements.{OneType, ResultType, array_of, element_type, array_type, no_result, some_result}
use Rattle.jp_print.specs.Expressions.{type_tokens}
use Rattle.jp_print.specs.ReadsBack.{IsFormed}
use Rattle.jp_print.proofs.Forms.{Formed, FormedTokens, Nameable, nameable, is_name, is_sign, sign_formed}
use Rattle.jp_print.proofs.Keywords.{is, void_word, int_word, boolean_word}
use Rattle.jp_print.proofs.Goes.{Goes, done, next}

-- the type of an array's elements
abbrev pub IsElem : Ty → Type 0
IsElem ty.Int = Unit {0}
IsElem ty.Boolean = Unit {0}
IsElem (ty.Class class) = Nameable class
IsElem _ = ⊥

-- a type of a value
abbrev pub IsType : Ty → Type 0
IsType ty.Void = ⊥
IsType (ty.Class class) = Nameable class
IsType (ty.ClassArray class) = Nameable class
IsType _ = Unit {0}

-- a type of a result
abbrev pub IsResult : Ty → Type 0
IsResult ty.Void = Unit {0}
IsResult t = IsType t

-- ---- what the grammar gives

pub elem_of : (s : Token) (elem : Ty) → IsElement elem s → IsFormed s → IsElem elem
elem_of s ty.Void e f = e
elem_of s ty.Int e f = tt
elem_of s ty.Boolean e f = tt
elem_of s (ty.Class class) e f = nameable class s e f
elem_of s ty.IntArray e f = e
elem_of s ty.BooleanArray e f = e
elem_of s (ty.ClassArray class) e f = e

elem_type : (elem : Ty) → IsElem elem → IsType elem
elem_type ty.Void e = e
elem_type ty.Int e = tt
elem_type ty.Boolean e = tt
elem_type (ty.Class class) e = e
elem_type ty.IntArray e = tt
elem_type ty.BooleanArray e = tt
elem_type (ty.ClassArray class) e = absurd e

elem_array : (elem : Ty) → IsElem elem → IsType (array_of elem)
elem_array ty.Void e = e
elem_array ty.Int e = tt
elem_array ty.Boolean e = tt
elem_array (ty.Class class) e = e
elem_array ty.IntArray e = tt
elem_array ty.BooleanArray e = tt
elem_array (ty.ClassArray class) e = absurd e

result_type : (t : Ty) → IsType t → IsResult t
result_type ty.Void e = tt
result_type ty.Int e = tt
result_type ty.Boolean e = tt
result_type (ty.Class class) e = e
result_type ty.IntArray e = tt
result_type ty.BooleanArray e = tt
result_type (ty.ClassArray class) e = e

pub type_of : {xs zs : Tokens} {t : Ty} → OneType xs t zs → FormedTokens xs → IsType t × FormedTokens zs
type_of (element_type {elem = elem} e) f = (elem_type elem (elem_of _ elem e f.0), f.1)
type_of (array_type elem e o p) f = (elem_array elem (elem_of _ elem e f.0), f.1.1.1)

pub result_of : {xs zs : Tokens} {t : Ty} → ResultType xs t zs → FormedTokens xs → IsResult t × FormedTokens zs
result_of (no_result h) f = (tt, f.1)
result_of (some_result {t = t} r) f = let g = type_of r f in (result_type t g.0, g.1)

-- ---- they have lexical forms

pub type_formed : (t : Ty) → IsResult t → Formed (type_tokens t)
type_formed ty.Void r = (void_word.form, tt)
type_formed ty.Int r = (int_word.form, tt)
type_formed ty.Boolean r = (boolean_word.form, tt)
type_formed (ty.Class class) r = (r.formed, tt)
type_formed ty.IntArray r = (int_word.form, (sign_formed sign.OPEN_BRACKET (omega arith), (sign_formed sign.CLOSE_BRACKET (omega arith), tt)))
type_formed ty.BooleanArray r = (boolean_word.form, (sign_formed sign.OPEN_BRACKET (omega arith), (sign_formed sign.CLOSE_BRACKET (omega arith), tt)))
type_formed (ty.ClassArray class) r = (r.formed, (sign_formed sign.OPEN_BRACKET (omega arith), (sign_formed sign.CLOSE_BRACKET (omega arith), tt)))

pub value_formed : (t : Ty) → IsType t → Formed (type_tokens t)
value_formed t r = type_formed t (result_type t r)

elem_result : (elem : Ty) → IsElem elem → IsResult elem
elem_result elem e = result_type elem (elem_type elem e)

pub elem_formed : (elem : Ty) → IsElem elem → Formed (type_tokens elem)
elem_formed elem e = type_formed elem (elem_result elem e)

-- ---- they are read

-- one token is the type of an array's elements
pub data OneElement (elem : Ty) : Tokens → Tokens → Type 0 where
  one_element : {s : Token} {xs : Tokens} → IsElement elem s → OneElement elem (s ∷ xs) xs

pub read_elem : (elem : Ty) → IsElem elem → {xs zs : Tokens} → Goes (type_tokens elem) xs zs → OneElement elem xs zs
read_elem ty.Void e g = absurd e
read_elem ty.Int e (next {s = s} h done) = one_element (is int_word s h)
read_elem ty.Boolean e (next {s = s} h done) = one_element (is boolean_word s h)
read_elem (ty.Class class) e (next {s = s} h done) = one_element (is_name class s e h)
read_elem ty.IntArray e g = absurd e
read_elem ty.BooleanArray e g = absurd e
read_elem (ty.ClassArray class) e g = absurd e

pub read_type : (t : Ty) → IsType t → {xs zs : Tokens} → Goes (type_tokens t) xs zs → OneType xs t zs
read_type ty.Void r g = absurd r
read_type ty.Int r (next {s = s} h done) = element_type (is int_word s h)
read_type ty.Boolean r (next {s = s} h done) = element_type (is boolean_word s h)
read_type (ty.Class class) r (next {s = s} h done) = element_type (is_name class s r h)
read_type ty.IntArray r (next {s = s} h (next {s = o} i (next {s = p} j done))) = array_type ty.Int (is int_word s h) (is_sign _ o i) (is_sign _ p j)
read_type ty.BooleanArray r (next {s = s} h (next {s = o} i (next {s = p} j done))) = array_type ty.Boolean (is boolean_word s h) (is_sign _ o i) (is_sign _ p j)
read_type (ty.ClassArray class) r (next {s = s} h (next {s = o} i (next {s = p} j done))) = array_type (ty.Class class) (is_name class s r h) (is_sign _ o i) (is_sign _ p j)

pub read_result : (t : Ty) → IsResult t → {xs zs : Tokens} → Goes (type_tokens t) xs zs → ResultType xs t zs
read_result ty.Void r (next {s = s} h done) = no_result (is void_word s h)
read_result ty.Int r g = some_result (read_type ty.Int r g)
read_result ty.Boolean r g = some_result (read_type ty.Boolean r g)
read_result (ty.Class class) r g = some_result (read_type (ty.Class class) r g)
read_result ty.IntArray r g = some_result (read_type ty.IntArray r g)
read_result ty.BooleanArray r g = some_result (read_type ty.BooleanArray r g)
read_result (ty.ClassArray class) r g = some_result (read_type (ty.ClassArray class) r g)
