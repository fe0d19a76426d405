-- The rules of declarations and members: 1 to 11, and 35. Each definition is true of a node that breaks the rule.
use Rattle.std.specs.Prelude.{List, [], ◌∷◌, ◌++◌, map, length, Bool, true, false, not, ◌&&◌, ◌||◌, ◌==◌, Option, Some, None, if◌then◌else◌}
use Rattle.std.specs.List.{list_any, list_all, filter_map, flat_map}
use Rattle.std.specs.Option.{option_map_or, option_to_list, is_some}
use Rattle.jp_pred.specs.declared.ty.Ty.{Ty}
use Rattle.jp_pred.specs.Names.{Word, object, same}
use Rattle.jp_pred.specs.Hierarchy.{reaches}
use Rattle.iface_codec.specs.declared.iface.Iface.{Iface}
use Rattle.iface_codec.specs.declared.iface.IfaceField.{IfaceField}
use Rattle.iface_codec.specs.declared.iface.IfaceMethod.{IfaceMethod}
use Rattle.iface_codec.specs.Hierarchy.{hier_of}
use Rattle.jp_ast.specs.declared.expr.ExprKind.TheOpen as e
use Rattle.jp_ast.specs.declared.decl.Decl.{Decl}
use Rattle.jp_ast.specs.declared.decl.MemberPart.{MemberPart}
use Rattle.jp_ast.specs.declared.decl.MemberPart.TheVariants as part
use Rattle.jp_meaning.specs.Classes.{is_static}
use Rattle.type_rules.specs.declared.seen.Seen.{Seen}
use Rattle.type_rules.specs.Types.{io, string, is_among, is_reserved, is_refused, agree, all_agree}
use Rattle.type_rules.specs.Heads.{as_field, as_constructor, as_method, head, head_of, superclass_of, is_class, names_interface}
use Rattle.type_rules.specs.Lookups.{superclasses, supertypes, field_named, constructor_of}
use Rattle.type_rules.specs.Assigning.{some_misfit}
use Rattle.type_rules.specs.Nodes.{Node, AtDecl, AtMember, AtParam, AtAtom, AtStmt, AtExpr, Declares, TestsClass, MemberNode}

-- 1. Each class and interface of a unit has a name of its own, and none is called Object, Io or String.
abbrev pub rule_1 : Node → Bool
rule_1 (AtDecl d) = is_among d.decl.name (map (λ x. x.name) d.earlier) || is_among d.decl.name (object ∷ io ∷ string ∷ [])
rule_1 _ = false

-- the types that a member names beside those of its parameters
abbrev pub own_types : MemberPart → List Ty
own_types (part.Field t static) = t ∷ []
own_types (part.Static result block) = result ∷ []
own_types (part.Abstract result) = result ∷ []
own_types (part.Body result when block) = result ∷ []
own_types (part.Constructor args block) = []

-- 2. Io and String are no types: they aren't extended, created, tested, cast to, or written as the type of anything.
abbrev pub rule_2 : Node → Bool
rule_2 (AtDecl d) = list_any is_reserved (option_to_list d.decl.superclass ++ d.decl.interfaces)
rule_2 (AtMember m) = list_any is_refused (own_types m.member.part)
rule_2 (AtParam earlier p) = is_refused p.ty
rule_2 (AtAtom g (TestsClass path class alias)) = is_reserved class
rule_2 (AtStmt s (Declares t name value)) = is_refused t
rule_2 (AtExpr s r (e.Cast class value)) = is_reserved class
rule_2 (AtExpr s r (e.InstanceOf value class)) = is_reserved class
rule_2 (AtExpr s r (e.New class args)) = is_reserved class
rule_2 (AtExpr s r (e.NewArray elem size)) = is_refused elem
rule_2 _ = false

-- a class that others may extend
abbrev pub is_open : Iface → Bool
is_open h = not h.is_interface && not h.is_final

-- 3. A class extends a class, and one that isn't final.
abbrev pub rule_3 : Node → Bool
rule_3 (AtDecl d) = option_map_or (λ name. not (option_map_or is_open (head_of d.heads name) false)) d.decl.superclass false
rule_3 _ = false

-- some name stands in the list twice
abbrev pub has_twice : List Word → Bool
has_twice [] = false
has_twice (name ∷ more) = is_among name more || has_twice more

-- 4. What a class implements and what an interface extends are interfaces, and none is named twice.
abbrev pub rule_4 : Node → Bool
rule_4 (AtDecl d) = list_any (λ name. not (names_interface d.heads name)) d.decl.interfaces || has_twice d.decl.interfaces
rule_4 _ = false

-- 5. No class or interface is above itself.
abbrev pub rule_5 : Node → Bool
rule_5 (AtDecl d) =
    list_any (λ name. reaches (length d.heads) (hier_of d.heads) name d.decl.name) (option_to_list d.decl.superclass ++ d.decl.interfaces)
rule_5 _ = false

-- a field of the list has the name
abbrev pub has_field : Word → List IfaceField → Bool
has_field name fields = is_some (field_named name fields)

-- 6. No field has the name of another field of its class or of a class above, static and private ones counted.
abbrev pub rule_6 : Node → Bool
rule_6 (AtMember m) = is_some (as_field m.member)
    && (has_field m.member.name (filter_map as_field m.earlier) || list_any (λ h. has_field m.member.name h.fields) (superclasses m.heads (head m.decl)))
rule_6 _ = false

-- METHODS that can't stand together

abbrev pub share_family : IfaceMethod → IfaceMethod → Bool
share_family a b = same a.name b.name && length a.params == length b.params

-- two instance methods of one name and count whose parameters or results have other types
abbrev pub disagree : IfaceMethod → IfaceMethod → Bool
disagree a b = share_family a b && not (is_static a.kind) && not (is_static b.kind)
    && not (all_agree a.params b.params && agree a.result b.result)

-- two methods of one name and count, of which one is static
abbrev pub collide : IfaceMethod → IfaceMethod → Bool
collide a b = share_family a b && (is_static a.kind || is_static b.kind)

-- two methods of the list can't stand together
abbrev pub some_pair : (IfaceMethod → IfaceMethod → Bool) → List IfaceMethod → Bool
some_pair clash [] = false
some_pair clash (m ∷ ms) = list_any (clash m) ms || some_pair clash ms

-- the methods that a declaration inherits, private ones among them
abbrev pub inherited : List Iface → Decl → List IfaceMethod
inherited heads d = flat_map (λ h. h.methods) (supertypes heads (head d))

-- the member is a method that can't stand together with one written before it or inherited
abbrev pub member_clashes : (IfaceMethod → IfaceMethod → Bool) → MemberNode → Bool
member_clashes clash m = option_map_or (λ own. list_any (clash own) (filter_map as_method m.earlier ++ inherited m.heads m.decl)) (as_method m.member) false

-- 7. In a class and all that is above it, instance methods of one name and number of parameters agree in the types of these
-- and in the result.
abbrev pub rule_7 : Node → Bool
rule_7 (AtDecl d) = some_pair disagree (inherited d.heads d.decl)
rule_7 (AtMember m) = member_clashes disagree m
rule_7 _ = false

-- 8. In a class and all that is above it, a static method shares its name and number of parameters with no other method,
-- private ones counted.
abbrev pub rule_8 : Node → Bool
rule_8 (AtDecl d) = some_pair collide (inherited d.heads d.decl)
rule_8 (AtMember m) = member_clashes collide m
rule_8 _ = false

-- 9. A constructor is called as its class is, and no two have the same number of parameters.
abbrev pub rule_9 : Node → Bool
rule_9 (AtMember m) = option_map_or
    (λ params. not (same m.member.name m.decl.name) || list_any (λ other. length other == length params) (filter_map as_constructor m.earlier))
    (as_constructor m.member) false
rule_9 _ = false

-- a field or a static method
abbrev pub may_be_private : MemberPart → Bool
may_be_private (part.Field t static) = true
may_be_private (part.Static result block) = true
may_be_private _ = false

-- 10. Only fields and static methods are private.
abbrev pub rule_10 : Node → Bool
rule_10 (AtMember m) = m.member.is_private && not (may_be_private m.member.part)
rule_10 _ = false

abbrev pub is_abstract : MemberPart → Bool
is_abstract (part.Abstract result) = true
is_abstract _ = false

-- 11. A class with an abstract method is abstract.
abbrev pub rule_11 : Node → Bool
rule_11 (AtMember m) = is_abstract m.member.part && not m.decl.is_interface && not m.decl.is_abstract
rule_11 _ = false

-- the superclass of a declaration, where it is a class
abbrev pub super_head : List Iface → Decl → List Iface
super_head heads d = option_map_or (λ name. filter_map (λ h. if is_class h then Some h else None) (option_to_list (head_of heads name))) (superclass_of d) []

-- the class has no constructor that takes these arguments
abbrev pub cant_construct : List Iface → List Seen → Iface → Bool
cant_construct heads args h = option_map_or (some_misfit heads args) (constructor_of h (length args)) true

abbrev pub super_arguments : Option (List Seen) → List Seen
super_arguments None = []
super_arguments (Some args) = args

-- no constructor is written
abbrev pub has_no_constructor : Decl → Bool
has_no_constructor d = list_all (λ m. not (is_some (as_constructor m))) d.members

-- 35. The superclass has a constructor of the number of arguments of `super(..)`, without any where it isn't written, and
-- they fit. It stands at the constructor, or at the class's name where none is written.
abbrev pub rule_35 : Node → Bool
rule_35 (AtDecl d) = has_no_constructor d.decl && list_any (cant_construct d.heads []) (super_head d.heads d.decl)
rule_35 (AtMember m) = is_some (as_constructor m.member) && list_any (cant_construct m.heads (super_arguments m.super_args)) (super_head m.heads m.decl)
rule_35 _ = false
