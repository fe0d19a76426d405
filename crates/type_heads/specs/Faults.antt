-- Lists of faults.
use Rattle.std.specs.Prelude.{List, [], ◌∷◌, Bool, true, false}
use Rattle.type_rules.specs.declared.fault.TypeFault.{TypeFault}

-- there is none
abbrev pub is_none_of : List TypeFault → Bool
is_none_of [] = true
is_none_of (f ∷ fs) = false
