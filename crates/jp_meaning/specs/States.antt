-- The shape of a state: what is known, at some paths, of the values that are reached from the receiver and the arguments.
use Rattle.std.specs.Prelude.{ℕ, zero, suc, ℤ, pos, negsuc, List, [], ◌∷◌, ◌++◌, map, filter, length, Bool, true, false, ◌&&◌, Option, Some, None, option_and_then, slice_get, cond}
use Rattle.std.specs.List.{list_any}
use Rattle.std.specs.Option.{option_map, option_map_or}
use Rattle.jp_pred.specs.declared.ty.Ty.{Ty}
use Rattle.jp_pred.specs.declared.ty.Ty.TheVariants as ty
use Rattle.jp_pred.specs.declared.path.Path.{Path}
use Rattle.jp_pred.specs.declared.path.PathStep.{PathStep}
use Rattle.jp_pred.specs.declared.hier.Hier.{Hier}
use Rattle.jp_pred.specs.declared.shape.Kind.{Kind}
use Rattle.jp_pred.specs.declared.shape.Kind.TheVariants as kind
use Rattle.jp_pred.specs.declared.shape.Shape.{Shape}
use Rattle.jp_pred.specs.Names.{Word, object}
use Rattle.jp_pred.specs.Hierarchy.{class_named}
use Rattle.jp_pred.specs.Paths.{same_path, root_path, prefixes}
use Rattle.jp_pred.specs.Truth.{kind_below}
use Rattle.jp_store.specs.declared.value.Value.{Value}
use Rattle.jp_store.specs.declared.value.Value.TheVariants.{Int, Long, Null, Ref, Text}
use Rattle.jp_store.specs.declared.value.ClassAt.TheVariants.{Root, Listed}
use Rattle.jp_store.specs.declared.heap.Thing.{Thing}
use Rattle.jp_store.specs.declared.heap.Thing.TheVariants.{Object, Array}
use Rattle.jp_store.specs.declared.outcome.Outcome.{Outcome}
use Rattle.jp_store.specs.declared.outcome.Outcome.TheVariants.{Fine, Trap, Wrong}
use Rattle.jp_store.specs.Classes.{Class, class_at, line, is_below}
use Rattle.jp_store.specs.Store.{Store}
use Rattle.jp_store.specs.Work.{GetField, work}
use Rattle.jp_meaning.specs.Descriptors.{internal_name, word_of, key_of}
use Rattle.jp_meaning.specs.Members.{step_type}

-- whether the hierarchy has the class; Object is in each
abbrev pub is_seen : Hier → Word → Bool
is_seen hier name = option_map_or (λ c. true) (class_named name hier.classes) false

-- the name of the class at a position
abbrev pub name_at : List Class → ℕ → Word
name_at classes at = option_map_or (λ c. word_of c.name) (slice_get classes at) object

-- the first of the names that the hierarchy has, or Object
abbrev pub nearest_seen : Hier → List Word → Word
nearest_seen hier [] = object
nearest_seen hier (name ∷ names) = cond (is_seen hier name) name (nearest_seen hier names)

-- the interfaces of the hierarchy that the class at a position is below
abbrev pub seen_interfaces : Hier → List Class → ℕ → List Word
seen_interfaces hier classes at =
    map (λ c. c.name) (filter (λ c. c.is_interface && option_map_or (is_below classes (Listed at)) (class_at classes (internal_name c.name)) false) hier.classes)

-- The kind of an object of the class at a position: known by its name where the hierarchy has the class, and otherwise
-- fresh, with its nearest seen superclass and its seen interfaces
abbrev pub class_kind : Hier → List Class → ℕ → Kind
class_kind hier classes at =
    cond (is_seen hier (name_at classes at)) (kind.Known (name_at classes at))
    (kind.Fresh (nearest_seen hier (map (name_at classes) (line classes at))) (seen_interfaces hier classes at))

-- the kind of an object or array
abbrev pub thing_kind : Hier → List Class → Thing → Kind
thing_kind hier classes (Object Root fields) = kind.Known object
thing_kind hier classes (Object (Listed at) fields) = class_kind hier classes at
thing_kind hier classes (Array element values) = kind.Array

-- the kind of a reference to something that is there
abbrev pub reference_kind : Hier → Store → Value → Option Kind
reference_kind hier s Null = Some kind.Null
reference_kind hier s (Ref o) = option_map (thing_kind hier s.classes) (slice_get s.heap o)
reference_kind hier s (Int n) = None
reference_kind hier s (Long n) = None
reference_kind hier s (Text t) = None

-- what a shape has at a path: a number, a reference's kind, or nothing
pub data Entry : Type 0 where
  NumberAt : ℤ → Entry
  ReferenceAt : Kind → Entry
  Undefined : Entry

-- an int
abbrev pub int_entry : Value → Option Entry
int_entry (Int n) = Some (NumberAt n)
int_entry (Long n) = None
int_entry Null = None
int_entry (Ref o) = None
int_entry (Text t) = None

-- 0 or 1
abbrev pub boolean_entry : Value → Option Entry
boolean_entry (Int (pos zero)) = Some (NumberAt (pos 0))
boolean_entry (Int (pos (suc zero))) = Some (NumberAt (pos 1))
boolean_entry (Int (pos (suc (suc n)))) = None
boolean_entry (Int (negsuc n)) = None
boolean_entry (Long n) = None
boolean_entry Null = None
boolean_entry (Ref o) = None
boolean_entry (Text t) = None

-- the entry of a value of a type; none where it is no such value
abbrev pub entry_at : Hier → Store → Ty → Value → Option Entry
entry_at hier s ty.Void v = None
entry_at hier s ty.Int v = int_entry v
entry_at hier s ty.Boolean v = boolean_entry v
entry_at hier s (ty.Class name) v = option_map ReferenceAt (reference_kind hier s v)
entry_at hier s ty.IntArray v = option_map ReferenceAt (reference_kind hier s v)
entry_at hier s ty.BooleanArray v = option_map ReferenceAt (reference_kind hier s v)
entry_at hier s (ty.ClassArray name) v = option_map ReferenceAt (reference_kind hier s v)

-- the value that an operation gives
abbrev pub given : Outcome (Value × Store) → Option Value
given (Fine r) = Some r.0
given (Trap k) = None
given Wrong = None

-- the value of a step's field
abbrev pub field_value : Store → PathStep → Ty → Value → Option Value
field_value s step t v = given (work (GetField v (key_of step.class step.field t)) s)

-- The entry behind some steps from a value of a type: a step goes on from a value of a kind below the step's class, and
-- is undefined from any other
abbrev pub entry_behind : Hier → Store → List PathStep → Ty → Value → Option Entry
entry_behind hier s [] t v = entry_at hier s t v
entry_behind hier s (step ∷ steps) t v =
    option_and_then (λ k. cond (kind_below hier k (ty.Class step.class))
    (option_and_then (λ u. option_and_then (entry_behind hier s steps u) (field_value s step u v)) (step_type hier step))
    (Some Undefined)) (reference_kind hier s v)

-- the entry of a path from roots of these types with these values
abbrev pub path_entry : Hier → Store → List Ty → List Value → Path → Option Entry
path_entry hier s roots vs path =
    option_and_then (λ t. option_and_then (entry_behind hier s path.steps t) (slice_get vs path.root)) (slice_get roots path.root)

-- a shape with one entry more
abbrev pub with_entry : Path → Entry → Shape → Shape
with_entry path (NumberAt n) shape = record shape { ints = (path, n) ∷ shape.ints }
with_entry path (ReferenceAt k) shape = record shape { refs = (path, k) ∷ shape.refs }
with_entry path Undefined shape = shape

-- the shape with the entries of these paths; none where some value isn't of its type
abbrev pub entries : Hier → Store → List Ty → List Value → List Path → Option Shape
entries hier s roots vs [] = Some (record { refs = []; ints = [] })
entries hier s roots vs (path ∷ paths) =
    option_and_then (λ e. option_map (with_entry path e) (entries hier s roots vs paths)) (path_entry hier s roots vs path)

-- each path once
abbrev pub distinct : List Path → List Path
distinct [] = []
distinct (path ∷ paths) = cond (list_any (same_path path) paths) (distinct paths) (path ∷ distinct paths)

-- the paths of n roots, from this one on
abbrev pub roots_from : ℕ → ℕ → List Path
roots_from zero root = []
roots_from (suc n) root = root_path root ∷ roots_from n (suc root)

-- The shape of a state over a hierarchy: at the roots, and at the paths with their prefixes
abbrev pub shape_of : Hier → List Ty → List Path → Store → List Value → Option Shape
shape_of hier roots paths s vs = entries hier s roots vs (distinct (roots_from (length roots) 0 ++ prefixes paths))
