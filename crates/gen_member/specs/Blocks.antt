-- What the writer of statements has written.
use Rattle.std.specs.Prelude.{ℕ, ◌+◌, max, pos, List, [], ◌∷◌, ◌++◌, false, Option, Some, None, map}
use Rattle.std.specs.Option.{option_map}
use Rattle.jp_store.specs.declared.value.Kind.{Kind}
use Rattle.jp_store.specs.declared.operator.BinaryOp.{BinaryOp}
use Rattle.jp_meaning.specs.declared.expr.TypedExpr.{TypedExpr}
use Rattle.jp_meaning.specs.declared.stmt.TypedStmt.{TypedStmt}
use Rattle.jp_meaning.specs.declared.unit.TypedMember.{TypedMember}
use Rattle.jp_meaning.specs.Descriptors.{kind_of_type}
use Rattle.jp_meaning.specs.Signs.{Change}
use Rattle.jvm_table.specs.declared.instr.Instr.TheVariants.{PushInt, Binary, ReturnValue, ReturnVoid}
use Rattle.jvm_table.specs.declared.instr.Jump.TheVariants.{Always}
use Rattle.code_asm.specs.Items.{Item, Plain, Branch, Mark}
use Rattle.gen_body.specs.Codes.{jump_where}
use Rattle.gen_body.specs.Statements.{Part, Made, nothing, parts_of, copy_parts, get_place, put_place, declare, assign, in_row, made}
use Rattle.gen_body.specs.Members.{end_code}
use Rattle.gen_code.specs.Emitted.{code_of, shape_of}
use Rattle.gen_parts.specs.Emits.{value_part, test_part, one_part, Tail}

-- the code of a statement, by a name that proofs can keep closed
unfoldable pub made_of : TypedStmt → Made
made_of = made

abbrev pub stmt_part : TypedStmt → ℕ → ℕ → ℕ → Part
stmt_part s out back n = made_of s n out back

-- statements, one after the other
abbrev pub block_part : List TypedStmt → ℕ → ℕ → ℕ → Part
block_part block out back n = in_row (map made_of block) n out back

-- a statement that may be left out
abbrev pub maybe_part : Option TypedStmt → ℕ → ℕ → ℕ → Part
maybe_part None out back n = nothing n out back
maybe_part (Some s) out back n = stmt_part s out back n

-- a jump
abbrev pub jump_part : ℕ → ℕ → Part
jump_part to n = record { items = Branch Always to ∷ []; next = n; need = 0 }

-- a declared local, a new value of a place
abbrev pub declared_part : Option Kind → ℕ → Option TypedExpr → ℕ → Part
declared_part kind slot value n = declare kind slot (option_map code_of value) n 0 0

abbrev pub assigned_part : Option Change → TypedExpr → TypedExpr → ℕ → Part
assigned_part change left right n = assign change (code_of left) (code_of right) n 0 0

-- the parts of what is assigned to
abbrev pub spot_part : TypedExpr → ℕ → Part
spot_part left n = let s = (code_of left).spot n in record { items = s.items; next = s.next; need = s.need }

-- a value that is stored, one that is changed and stored, and one that is counted up or down, by where the place is
abbrev pub becomes_part : TypedExpr → TypedExpr → Tail
becomes_part left right first n =
    let place = (shape_of left).place in let c = value_part right n in
    record { items = c.items ++ put_place place; next = c.next; need = max first (parts_of place + c.need) }

abbrev pub changed_part : BinaryOp → TypedExpr → TypedExpr → Tail
changed_part op left right first n =
    let place = (shape_of left).place in let c = value_part right n in
    record {
      items = (copy_parts place ++ get_place place) ++ (c.items ++ Plain (Binary op) ∷ put_place place);
      next = c.next;
      need = max first (parts_of place + (parts_of place + (1 + c.need)));
    }

-- what returns a value of a kind
abbrev pub return_items : Option Kind → List Item
return_items None = []
return_items (Some kind) = Plain (ReturnValue kind) ∷ []

abbrev pub return_part : Option TypedExpr → ℕ → Part
return_part None n = record { items = Plain ReturnVoid ∷ []; next = n; need = 0 }
return_part (Some value) n = one_part value (return_items (kind_of_type value.ty)) n

-- what stands behind what is done where a test is true, which goes to a label where it is false
abbrev pub else_part : Option TypedStmt → ℕ → ℕ → ℕ → ℕ → Tail
else_part None out back label tested first n = record { items = Mark label ∷ []; next = n; need = max tested first }
else_part (Some s) out back label tested first n =
    let f = stmt_part s out back n in
    record { items = Branch Always (label + 1) ∷ Mark label ∷ (f.items ++ Mark (label + 1) ∷ []); next = f.next; need = max tested (max first f.need) }

-- a loop's test, which is true where it is left out
abbrev pub true_test_part : ℕ → ℕ → Part
true_test_part to n = record { items = Plain (PushInt (pos 1)) ∷ Branch (jump_where false) to ∷ []; next = n; need = 1 }

abbrev pub loop_test_part : Option TypedExpr → ℕ → ℕ → Part
loop_test_part None to n = true_test_part to n
loop_test_part (Some test) to n = test_part test false to n

-- the end of a loop: its change, and a jump to its start
abbrev pub round_part : Option TypedStmt → ℕ → ℕ → ℕ → ℕ → ℕ → Tail
round_part change out back label before tested inside n =
    let e = maybe_part change out back n in
    record { items = Mark (label + 2) ∷ (e.items ++ (Branch Always label ∷ Mark (label + 1) ∷ [])); next = e.next; need = max before (max tested (max inside e.need)) }

-- the body of a loop without a change, behind its test, and a jump to its start
abbrev pub body_part : TypedStmt → ℕ → Tail
body_part body label tested n =
    let d = stmt_part body (label + 1) (label + 2) n in
    record { items = d.items ++ (Mark (label + 2) ∷ Branch Always label ∷ Mark (label + 1) ∷ []); next = d.next; need = max tested (max d.need 0) }

-- the block of a member with such a result, behind what stands at its start
abbrev pub framed_part : Option Kind → TypedMember → Tail
framed_part result m start n =
    let c = block_part m.block 0 1 n in record { items = c.items ++ end_code result; next = c.next; need = max start (max c.need 1) }
