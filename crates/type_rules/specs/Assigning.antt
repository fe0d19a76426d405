-- Which values may stand where a type is wanted.
use Rattle.std.specs.Prelude.{List, [], ◌∷◌, Bool, true, false, not, ◌&&◌, ◌||◌, Option, Some, None, if◌then◌else◌}
use Rattle.std.specs.Option.{option_map_or}
use Rattle.jp_pred.specs.declared.ty.Ty.{Ty}
use Rattle.jp_pred.specs.declared.ty.Ty.TheVariants as ty
use Rattle.jp_pred.specs.Kinds.{is_array, is_reference}
use Rattle.iface_codec.specs.declared.iface.Iface.{Iface}
use Rattle.type_rules.specs.declared.seen.Known.{Known}
use Rattle.type_rules.specs.declared.seen.Seen.{Seen}
use Rattle.type_rules.specs.declared.seen.Seen.TheVariants as seen
use Rattle.type_rules.specs.Types.{is_int, is_boolean, is_unknown, same_type}
use Rattle.type_rules.specs.Heads.{names_interface, is_under}

-- WHAT IS SEEN OF A PART

abbrev pub is_value : Seen → Bool
is_value (seen.Value k) = true
is_value _ = false

-- a text literal
abbrev pub is_text : Seen → Bool
is_text (seen.Text text) = true
is_text _ = false

-- the value of a part of which a type is known
abbrev pub typed : Seen → Option Known
typed (seen.Value k) = if is_unknown k.expr.ty then None else Some k
typed _ = None

-- its type is known, and the test doesn't hold of it
abbrev pub isnt : (Known → Bool) → Seen → Bool
isnt test part = option_map_or (λ k. not (test k)) (typed part) false

-- both types are known, and the test doesn't hold of them
abbrev pub differ : (Known → Known → Bool) → Seen → Seen → Bool
differ test left right = option_map_or (λ a. option_map_or (λ b. not (test a b)) (typed right) false) (typed left) false

-- TESTS OF A VALUE'S TYPE; one that has the type of null has no other

abbrev pub an_int : Known → Bool
an_int k = not k.is_null && is_int k.expr.ty

abbrev pub a_boolean : Known → Bool
a_boolean k = not k.is_null && is_boolean k.expr.ty

abbrev pub an_array : Known → Bool
an_array k = not k.is_null && is_array k.expr.ty

abbrev pub a_reference : Known → Bool
a_reference k = k.is_null || is_reference k.expr.ty

-- ASSIGNABLE

-- a class or an interface is below the other type, which is one too
abbrev pub widens : List Iface → Ty → Ty → Bool
widens heads (ty.Class lower) (ty.Class upper) = is_under heads lower upper
widens heads _ _ = false

-- a type is assignable to an equal one; a class or an interface to its supertypes and to Object
abbrev pub assignable : List Iface → Ty → Ty → Bool
assignable heads t u = same_type t u || widens heads t u

-- a value is assignable to a type; null to every reference type
abbrev pub fits : List Iface → Known → Ty → Bool
fits heads k t = if k.is_null then is_reference t else assignable heads k.expr.ty t

-- a part whose type is known isn't assignable to the type, which is known too
abbrev pub misfit : List Iface → Seen → Ty → Bool
misfit heads part t = not (is_unknown t) && isnt (λ k. fits heads k t) part

-- some part isn't assignable to the type at its place
abbrev pub some_misfit : List Iface → List Seen → List Ty → Bool
some_misfit heads [] ts = false
some_misfit heads (a ∷ more) [] = false
some_misfit heads (a ∷ more) (t ∷ ts) = misfit heads a t || some_misfit heads more ts

-- the type of a value is assignable to that of another
abbrev pub widens_to : List Iface → Known → Known → Bool
widens_to heads a b = if b.is_null then a.is_null else fits heads a b.expr.ty

-- of the types of two values one is assignable to the other
abbrev pub joins : List Iface → Known → Known → Bool
joins heads a b = widens_to heads a b || widens_to heads b a

-- the type is an interface's
abbrev pub an_interface : List Iface → Known → Bool
an_interface heads k = not k.is_null && names heads k.expr.ty where
  names : List Iface → Ty → Bool
  names heads (ty.Class name) = names_interface heads name
  names heads _ = false

-- two values that `==` takes: ints, booleans, or references of which one is assignable to the other or one is an interface
-- and the other no array
abbrev pub comparable : List Iface → Known → Known → Bool
comparable heads a b =
    (an_int a && an_int b) || (a_boolean a && a_boolean b)
    || (a_reference a && a_reference b && (joins heads a b || (an_interface heads a && not (an_array b)) || (an_interface heads b && not (an_array a))))
