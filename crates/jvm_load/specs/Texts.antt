-- What is left of a text that is read, as the code borrows it.
use Rattle.std.specs.Prelude.{ℕ, List, ◌++◌, Option}
use Rattle.std.specs.Option.{option_map}
use Rattle.std.specs.Borrow.{Bor}
use Rattle.jp_store.specs.declared.value.Kind.{Kind}

-- a kind, and the rest that is pointed to
abbrev pub kind_and_rest : Kind × Bor (List ℕ) → Kind × List ℕ
kind_and_rest type = (type.0, type.1.now)

-- types that are read behind others
abbrev pub joined : List Kind → Option (List Kind × List ℕ) → Option (List Kind × List ℕ)
joined front types = option_map (λ types. (front ++ types.0, types.1)) types

-- the text that is left behind types
abbrev pub text_behind : Option (List Kind × List ℕ) → Option (List ℕ)
text_behind types = option_map (λ types. types.1) types
