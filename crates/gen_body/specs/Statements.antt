-- The code of statements.
use Rattle.std.specs.Prelude.{ℕ, ◌+◌, max, pos, negsuc, List, [], ◌∷◌, ◌++◌, Bool, false, Option, Some, None, cond, map}
use Rattle.std.specs.Option.{option_map}
use Rattle.jp_store.specs.declared.value.Kind.{Kind}
use Rattle.jp_store.specs.declared.value.Kind.TheVariants.{Number, LongNumber, Reference}
use Rattle.jp_store.specs.declared.operator.BinaryOp.{BinaryOp}
use Rattle.jp_store.specs.declared.operator.BinaryOp.TheVariants.{Add, Subtract}
use Rattle.jp_meaning.specs.declared.expr.TypedExpr.{TypedExpr}
use Rattle.jp_meaning.specs.declared.stmt.TypedStmt.{TypedStmt, fold-TypedStmt}
use Rattle.jp_meaning.specs.declared.stmt.TypedStmtKind.{TypedStmtKind-F}
use Rattle.jp_meaning.specs.declared.stmt.TypedStmtKind.TheOpen as form
use Rattle.jp_meaning.specs.Descriptors.{kind_of_type}
use Rattle.jp_meaning.specs.Signs.{Change, Becomes, Changes, change_of}
use Rattle.jvm_table.specs.declared.instr.Instr.TheVariants.{PushNull, PushInt, PushLong, Load, Store, Increase, LoadElement, StoreElement, Dup, DupTwo, Binary, ReturnValue, ReturnVoid}
use Rattle.jvm_table.specs.declared.instr.Jump.TheVariants.{Always}
use Rattle.jvm_table.specs.declared.instr.ConstantUse.TheVariants.{GetStatic, PutStatic, GetField, PutField}
use Rattle.code_asm.specs.Items.{FieldOf, Item, Plain, Uses, Branch, Mark}
use Rattle.gen_body.specs.Codes.{Codes, Place, LocalAt, FieldAt, StaticAt, ElementAt, Nowhere, Coded, plain, choice, coded}

-- a statement's code, the first label that is free behind it, and how many places of the stack it takes at most
pub record Part : Type 0 where
  pub items : List Item
  pub next : ℕ
  pub need : ℕ

-- a statement's code, with its labels from a number on, and the labels where `break` and `continue` go
abbrev pub Made : Type 0
Made = ℕ → ℕ → ℕ → Part

abbrev pub nothing : Made
nothing n out back = record { items = []; next = n; need = 0 }

-- how many values stand on the stack for a place
abbrev pub parts_of : Place → ℕ
parts_of (LocalAt slot kind) = 0
parts_of (FieldAt key) = 1
parts_of (StaticAt key) = 0
parts_of (ElementAt kind) = 2
parts_of Nowhere = 0

-- pushes the parts of a place once more
abbrev pub copy_parts : Place → List Item
copy_parts (LocalAt slot kind) = []
copy_parts (FieldAt key) = Plain Dup ∷ []
copy_parts (StaticAt key) = []
copy_parts (ElementAt kind) = Plain DupTwo ∷ []
copy_parts Nowhere = []

-- pushes the value of a place, whose parts stand on the stack
abbrev pub get_place : Place → List Item
get_place (LocalAt slot kind) = Plain (Load kind slot) ∷ []
get_place (FieldAt key) = Uses GetField (FieldOf key) ∷ []
get_place (StaticAt key) = Uses GetStatic (FieldOf key) ∷ []
get_place (ElementAt kind) = Plain (LoadElement kind) ∷ []
get_place Nowhere = []

-- pops a value into a place, whose parts stand below it
abbrev pub put_place : Place → List Item
put_place (LocalAt slot kind) = Plain (Store kind slot) ∷ []
put_place (FieldAt key) = Uses PutField (FieldOf key) ∷ []
put_place (StaticAt key) = Uses PutStatic (FieldOf key) ∷ []
put_place (ElementAt kind) = Plain (StoreElement kind) ∷ []
put_place Nowhere = []

-- pushes what a variable of a kind starts with
abbrev pub push_default : Kind → Item
push_default Number = Plain (PushInt (pos 0))
push_default LongNumber = Plain (PushLong (pos 0))
push_default Reference = Plain PushNull

-- a declared local
abbrev pub declare : Option Kind → ℕ → Option Coded → Made
declare None slot value n out back = nothing n out back
declare (Some kind) slot None n out back = record { items = push_default kind ∷ Plain (Store kind slot) ∷ []; next = n; need = 1 }
declare (Some kind) slot (Some value) n out back =
    let c = value.codes n in record { items = c.value ++ Plain (Store kind slot) ∷ []; next = c.next; need = c.need }

-- a new value of a place
abbrev pub assign : Option Change → Coded → Coded → Made
assign None left right n out back = nothing n out back
assign (Some Becomes) left right n out back =
    let s = left.spot n in let c = right.codes s.next in
    record { items = s.items ++ (c.value ++ put_place s.place); next = c.next; need = max s.need (parts_of s.place + c.need) }
assign (Some (Changes op)) left right n out back =
    let s = left.spot n in let c = right.codes s.next in
    record {
      items = s.items ++ (copy_parts s.place ++ (get_place s.place ++ (c.value ++ (Plain (Binary op) ∷ put_place s.place))));
      next = c.next;
      need = max s.need (parts_of s.place + (parts_of s.place + (1 + c.need)));
    }

-- the operator by which a value is one more or less
abbrev pub step_of : Bool → BinaryOp
step_of up = cond up Add Subtract

-- a value of a place that is one more or less, whose parts stand on the stack
abbrev pub step_place : Bool → Place → List Item
step_place up place =
    copy_parts place ++ (get_place place ++ (Plain (PushInt (pos 1)) ∷ Plain (Binary (step_of up)) ∷ put_place place))

-- the same; a local with a number has an instruction of its own
abbrev pub bump_place : Bool → Place → List Item
bump_place up (LocalAt slot Number) = Plain (Increase slot (cond up (pos 1) (negsuc 0))) ∷ []
bump_place up (LocalAt slot LongNumber) = step_place up (LocalAt slot LongNumber)
bump_place up (LocalAt slot Reference) = step_place up (LocalAt slot Reference)
bump_place up (FieldAt key) = step_place up (FieldAt key)
bump_place up (StaticAt key) = step_place up (StaticAt key)
bump_place up (ElementAt kind) = step_place up (ElementAt kind)
bump_place up Nowhere = []

abbrev pub bump : Bool → Coded → Made
bump up left n out back =
    let s = left.spot n in
    record { items = s.items ++ bump_place up s.place; next = s.next; need = max s.need (parts_of s.place + (parts_of s.place + 2)) }

-- one statement after the other
abbrev pub in_row : List Made → Made
in_row [] n out back = nothing n out back
in_row (s ∷ ss) n out back =
    let c = s n out back in let d = in_row ss c.next out back in
    record { items = c.items ++ d.items; next = d.next; need = max c.need d.need }

-- what is done where a test is true, with a label n
abbrev pub only_where : (Bool → ℕ → List Item) → List Item → ℕ → List Item
only_where test first n = test false n ++ (first ++ Mark n ∷ [])

-- one of two, or nothing in place of the second
abbrev pub decide : Coded → Made → Option Made → Made
decide test first None n out back =
    let c = test.codes (n + 2) in let d = first c.next out back in
    record { items = only_where c.test d.items n; next = d.next; need = max c.need d.need }
decide test first (Some second) n out back =
    let c = test.codes (n + 2) in let d = first c.next out back in let e = second d.next out back in
    record { items = choice c.test d.items e.items n; next = e.next; need = max c.need (max d.need e.need) }

-- A loop: the test, which goes to the end where it is false, the body, the change and a jump back. The labels are the
-- loop's start, its end and its change
abbrev pub loop : (Bool → ℕ → List Item) → List Item → List Item → ℕ → List Item
loop test body change n =
    Mark n ∷ (test false (n + 1) ++ (body ++ (Mark (n + 2) ∷ (change ++ (Branch Always n ∷ Mark (n + 1) ∷ [])))))

-- the code of a loop's test, which is true where it is left out
abbrev pub test_codes : Option TypedExpr → ℕ → Codes
test_codes None n = plain (Plain (PushInt (pos 1)) ∷ []) 1 n
test_codes (Some test) n = (coded test).codes n

-- a loop by its test, its change and its body
abbrev pub repeat : (ℕ → Codes) → Made → Made → Made
repeat test change body n out back =
    let c = test (n + 3) in let d = body c.next (n + 1) (n + 2) in let e = change d.next out back in
    record { items = loop c.test d.items e.items n; next = e.next; need = max c.need (max d.need e.need) }

-- a statement that may be left out
abbrev pub or_nothing : Option Made → Made
or_nothing None = nothing
or_nothing (Some s) = s

-- a loop behind its first statement
abbrev pub begin_loop : Made → Made → Made
begin_loop init loop n out back =
    let c = init n out back in let d = loop c.next out back in record { items = c.items ++ d.items; next = d.next; need = max c.need d.need }

-- a return with a value of a kind
abbrev pub return_of : Option Kind → Codes → Part
return_of None c = record { items = c.value; next = c.next; need = c.need }
return_of (Some kind) c = record { items = c.value ++ Plain (ReturnValue kind) ∷ []; next = c.next; need = c.need }

abbrev pub leave : Option TypedExpr → ℕ → Part
leave None n = record { items = Plain ReturnVoid ∷ []; next = n; need = 0 }
leave (Some value) n = return_of (kind_of_type value.ty) ((coded value).codes n)

-- the code of a statement of a form
abbrev pub made_step : TypedStmtKind-F Made Made → Made
made_step (form.Block block) n out back = in_row block n out back
made_step form.Empty n out back = nothing n out back
made_step (form.Local slot t value) n out back = declare (kind_of_type t) slot (option_map coded value) n out back
made_step (form.If test first second) n out back = decide (coded test) first second n out back
made_step (form.While test body) n out back = repeat (coded test).codes nothing body n out back
made_step (form.For init test change body) n out back =
    begin_loop (or_nothing init) (repeat (test_codes test) (or_nothing change) body) n out back
made_step form.Break n out back = record { items = Branch Always out ∷ []; next = n; need = 0 }
made_step form.Continue n out back = record { items = Branch Always back ∷ []; next = n; need = 0 }
made_step (form.Return value) n out back = leave value n
made_step (form.Assign left sign right) n out back = assign (change_of sign) (coded left) (coded right) n out back
made_step (form.Bump left up) n out back = bump up (coded left) n out back
made_step (form.Run value) n out back = let c = (coded value).codes n in record { items = c.done; next = c.next; need = c.need }

-- the code of a statement
abbrev pub made : TypedStmt → Made
made = fold-TypedStmt Made Made made_step (λ s. s.kind)

-- the code of the statements of a block
abbrev pub block_code : List TypedStmt → Made
block_code block = in_row (map made block)
