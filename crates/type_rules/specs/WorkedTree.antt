-- A worked example of a resolved tree.
use Rattle.std.specs.Prelude.{◌≡◌, List, [], ◌∷◌, false, Some, None, codes}
use Rattle.jp_pred.specs.declared.ty.Ty.TheVariants as ty
use Rattle.jp_pred.specs.declared.guard.Guard.TheVariants as guard
use Rattle.iface_codec.specs.declared.iface.MethodKind.TheVariants as kind
use Rattle.jp_meaning.specs.declared.expr.TypedKind.TheVariants as form
use Rattle.jp_meaning.specs.declared.stmt.TypedStmtKind.TheVariants as run
use Rattle.jp_meaning.specs.declared.guard.TypedGuardKind.TheVariants as test
use Rattle.jp_meaning.specs.declared.unit.TypedPart.TheVariants as typed
use Rattle.jp_meaning.specs.declared.unit.TypedClass.{TypedClass}
use Rattle.type_rules.specs.Samples.{Sample, at, class, subclass, unit, piece, param, path_text, summand}
use Rattle.type_rules.specs.Samples.{name, binary, field, end}
use Rattle.type_rules.specs.Samples.{local, return, done, go}
use Rattle.type_rules.specs.Samples.{and', is, compare, a_field, a_body, a_constructor}
use Rattle.type_rules.specs.Units.{made_unit}

-- `class A { int x; int f(A e, int n) when e@B as b && b.z > n { int m = b.z; return m + x; } } class B extends A { int z; B() { super(); } }`
abbrev pub resolving : List Sample
resolving = (class 7 (codes "A") ((piece 15 (codes "x") [] (a_field ty.Int false)) ∷ (piece 22 (codes "f") ((param 26 (ty.Class (codes "A")) (codes "e")) ∷ (param 33 ty.Int (codes "n")) ∷ []) (a_body ty.Int (Some (and' 41 (is 41 (path_text 41 (codes "e") []) (codes "B") (Some (codes "b"))) (compare 53 ((summand 53 false None (Some (path_text 53 (codes "b") ((codes "z") ∷ [])))) ∷ []) 11 ((summand 59 false None (Some (path_text 59 (codes "n") []))) ∷ [])))) (go (local 63 ty.Int (codes "m") (Some (field 71 (name 71 (codes "b")) (codes "z")))) (go (return 76 (Some (binary 83 16 (name 83 (codes "m")) (name 87 (codes "x"))))) done)))) ∷ [])) ∷ (subclass 100 (codes "B") (codes "A") ((piece 118 (codes "z") [] (a_field ty.Int false)) ∷ (piece 121 (codes "B") [] (a_constructor (Some end) done)) ∷ [])) ∷ []

abbrev pub resolved_a : TypedClass
resolved_a = record {
  head = record {
    name = (codes "A");
    is_abstract = false;
    is_final = false;
    is_interface = false;
    superclass = Some (codes "Object");
    interfaces = [];
    fields = record { name = (codes "x"); ty = ty.Int; is_private = false; is_static = false } ∷ [];
    constructors = [] ∷ [];
    methods = record { name = codes "f"; kind = kind.Body; params = (ty.Class (codes "A")) ∷ ty.Int ∷ []; result = ty.Int; guard = guard.True; aliases = (record { root = 1; steps = [] }, (ty.Class (codes "B"))) ∷ [] } ∷ [];
  };
  members = record { part = typed.Field 0; locals = 0; guard = None; super_params = []; super_args = []; block = [] }
      ∷ record { part = typed.Method 0; locals = 5; guard = Some (record { place = at 41; kind = test.And (record { place = at 41; kind = test.Is (record { place = at 41; path = record { root = 1; steps = [] }; declared = (ty.Class (codes "A")); ty = (ty.Class (codes "A")) }) (codes "B") (Some (codes "b", (ty.Class (codes "B")))) }) (record { place = at 53; kind = test.Compare (record { place = at 53; negative = false; factor = None; path = Some (record { place = at 53; path = record { root = 1; steps = (record { class = codes "B"; field = codes "z" } ∷ []) }; declared = ty.Int; ty = ty.Int }) } ∷ []) 11 (record { place = at 59; negative = false; factor = None; path = Some (record { place = at 59; path = record { root = 2; steps = [] }; declared = ty.Int; ty = ty.Int }) } ∷ []) }) }); super_params = []; super_args = []; block = record { place = at 63; kind = run.Local 4 ty.Int (Some (record { place = at 71; ty = ty.Int; kind = form.Field (record { place = at 71; ty = (ty.Class (codes "B")); kind = form.Local 3 }) (codes "B") (codes "z") })) } ∷ record { place = at 76; kind = run.Return (Some (record { place = at 83; ty = ty.Int; kind = form.Binary 16 (record { place = at 83; ty = ty.Int; kind = form.Local 4 }) (record { place = at 87; ty = ty.Int; kind = form.Field (record { place = at 87; ty = (ty.Class (codes "A")); kind = form.This }) (codes "A") (codes "x") }) })) } ∷ [] }
      ∷ record { part = typed.Constructor 0; locals = 1; guard = None; super_params = []; super_args = []; block = [] } ∷ [];
}

abbrev pub resolved_b : TypedClass
resolved_b = record {
  head = record {
    name = (codes "B");
    is_abstract = false;
    is_final = false;
    is_interface = false;
    superclass = Some (codes "A");
    interfaces = [];
    fields = record { name = (codes "z"); ty = ty.Int; is_private = false; is_static = false } ∷ [];
    constructors = [] ∷ [];
    methods = [];
  };
  members = record { part = typed.Field 0; locals = 0; guard = None; super_params = []; super_args = []; block = [] } ∷ record { part = typed.Constructor 0; locals = 1; guard = None; super_params = []; super_args = []; block = [] } ∷ [];
}

-- its resolved tree
abbrev pub TreeHolds : Type 0
TreeHolds = made_unit (unit resolving) [] ≡ Some (record { classes = resolved_a ∷ resolved_b ∷ [] })
