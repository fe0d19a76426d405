-- Bytes that are the code of a small member.
use Rattle.std.proofs.Common.{◌≡◌, ℕ, ◌<◌, ◌≤◌, List, [], ◌∷◌, ◌++◌, map, Option, Some, None, true, false, cond, refl, sym, ap, ◌∙◌, subst, arith, rules}
use Rattle.std.specs.Prelude.{codes, max, ℤ, pos, ◌^◌, ◌==◌}
use Rattle.std.specs.Int.{w32}
use Rattle.std.proofs.lemmas.Int.{int_wrap_fits}
use Rattle.class_form.specs.declared.constant.Const.TheVariants.{Unused, Utf8, Class, NameAndType, Methodref}
use Rattle.class_form.specs.declared.class_file.ClassFile.{ClassFile}
use Rattle.class_form.specs.declared.member.MemberInfo.{MemberInfo}
use Rattle.class_form.specs.declared.member.Code.{Code}
use Rattle.jp_ast.specs.declared.token.Place.{Place}
use Rattle.jp_pred.specs.declared.hier.Hier.{Hier}
use Rattle.jp_pred.specs.declared.ty.Ty.{Ty}
use Rattle.jp_pred.specs.declared.ty.Ty.TheVariants as ty
use Rattle.jp_pred.specs.declared.guard.Guard.TheVariants as guard
use Rattle.iface_codec.specs.declared.iface.Iface.{Iface}
use Rattle.iface_codec.specs.declared.iface.MethodKind.TheVariants as kind
use Rattle.jp_store.specs.declared.value.Kind.TheVariants.{Number}
use Rattle.jp_meaning.specs.declared.expr.TypedExpr.{TypedExpr, the_lemmas}
use Rattle.jp_meaning.specs.declared.expr.TypedKind.{TypedKind}
use Rattle.jp_meaning.specs.declared.expr.TypedKind.TheVariants as form
use Rattle.jp_meaning.specs.declared.expr.TypedKind.TheOpen as layer
use Rattle.jp_meaning.specs.declared.stmt.TypedStmt.{TypedStmt}
use Rattle.jp_meaning.specs.declared.stmt.TypedStmt as tree
use Rattle.jp_meaning.specs.declared.stmt.TypedStmtKind.{TypedStmtKind}
use Rattle.jp_meaning.specs.declared.stmt.TypedStmtKind.TheVariants as stmt
use Rattle.jp_meaning.specs.declared.unit.TypedPart.TheVariants as part
use Rattle.jp_meaning.specs.declared.unit.TypedMember.{TypedMember}
use Rattle.std.specs.Option.{option_map}
use Rattle.std.specs.List.{list_all}
use Rattle.jvm_table.specs.Descriptors.{Signature}
use Rattle.code_asm.specs.Items.{Stands}
use Rattle.gen_body.specs.Codes.{Zero, Anything, Coded, plain, push_int, no_spot, coded_step, coded}
use Rattle.gen_body.specs.Statements.{Part, Made, in_row, repeat, declare, bump, nothing, made}
use Rattle.gen_body.specs.Members.{end_code, member_code}
use Rattle.gen_body.specs.Correct.{IsCodeOf, keeps, KeepsReceiver}
use Rattle.gen_body.proofs.Signatures.{signatures_read_back}

abbrev here : Place
here = record { line = 1; col = 1 }

abbrev expr : Ty → TypedKind → TypedExpr
expr t k = record { place = here; ty = t; kind = k }

abbrev statement : TypedStmtKind → TypedStmt
statement k = record { place = here; kind = k }

abbrev number : ℕ → TypedExpr
number n = expr ty.Int (form.Number n false)

abbrev i : TypedExpr
i = expr ty.Int (form.Local 0)

abbrev less : TypedExpr
less = expr ty.Boolean (form.Binary 10 i (number 2))

abbrev print : TypedExpr
print = expr ty.Void (form.Print i)

abbrev body : TypedStmt
body = statement (stmt.Block (statement (stmt.Run print) ∷ statement (stmt.Bump i true) ∷ []))

-- `int i = 0; while (i < 2) { Io.print(i); i++; }`
abbrev block : List TypedStmt
block = statement (stmt.Local 0 ty.Int (Some (number 0))) ∷ statement (stmt.While less body) ∷ []

abbrev head : Iface
head = record {
  name = codes "Main";
  is_abstract = false;
  is_final = false;
  is_interface = false;
  superclass = Some (codes "Object");
  interfaces = [];
  fields = [];
  constructors = [] ∷ [];
  methods = record { name = codes "main"; kind = kind.Static; params = []; result = ty.Void; guard = guard.True; aliases = [] } ∷ [];
}

abbrev main : TypedMember
main = record { part = part.Method 0; locals = 1; guard = None; super_params = []; super_args = []; block = block }

-- the number as it stands in the code
abbrev N : ℕ → Coded
N n = record { ty = ty.Int; literal = cond (n == 0) Zero Anything; codes = λ k. plain (push_int (pos n) ∷ []) 1 k; spot = no_spot }

number_is : (n : ℕ) → n < 2 ^ 31 → coded (number n) ≡ N n
number_is n h = step_is ∙ ap (λ (z : ℤ). let c : Coded = record { ty = ty.Int; literal = cond (n == 0) Zero Anything; codes = λ k. plain (push_int z ∷ []) 1 k; spot = no_spot } in c) (int_wrap_fits w32 (pos n) (omega (arith, h))) where
  step_is : coded (number n) ≡ coded_step (layer.Number n false) ty.Int
  step_is = search (rules, the_lemmas)

abbrev I : Coded
I = coded_step (layer.Local 0) ty.Int

i_is : coded i ≡ I
i_is = search (rules, the_lemmas)

abbrev L : Coded
L = coded_step (layer.Binary 10 I (N 2)) ty.Boolean

less_is : coded less ≡ L
less_is = step_is ∙ ap (λ (c : Coded). coded_step (layer.Binary 10 c (coded (number 2))) ty.Boolean) i_is ∙ ap (λ (c : Coded). coded_step (layer.Binary 10 I c) ty.Boolean) (number_is 2 (omega arith)) where
  step_is : coded less ≡ coded_step (layer.Binary 10 (coded i) (coded (number 2))) ty.Boolean
  step_is = search (rules, the_lemmas)

abbrev runs : Coded → Made
runs c n out back = let d = c.codes n in record { items = d.done; next = d.next; need = d.need }

abbrev P : Coded
P = coded_step (layer.Print I) ty.Void

print_is : made (statement (stmt.Run print)) ≡ runs P
print_is = step_is ∙ ap runs (print_step ∙ ap (λ (c : Coded). coded_step (layer.Print c) ty.Void) i_is) where
  step_is : made (statement (stmt.Run print)) ≡ runs (coded print)
  step_is = search (rules, tree.the_lemmas)

  print_step : coded print ≡ coded_step (layer.Print (coded i)) ty.Void
  print_step = search (rules, the_lemmas)

bump_is : made (statement (stmt.Bump i true)) ≡ bump true I
bump_is = step_is ∙ ap (bump true) i_is where
  step_is : made (statement (stmt.Bump i true)) ≡ bump true (coded i)
  step_is = search (rules, tree.the_lemmas)

abbrev B : Made
B = in_row (runs P ∷ bump true I ∷ [])

body_is : made body ≡ B
body_is = step_is ∙ ap (λ (m : Made). in_row (m ∷ made (statement (stmt.Bump i true)) ∷ [])) print_is ∙ ap (λ (m : Made). in_row (runs P ∷ m ∷ [])) bump_is where
  step_is : made body ≡ in_row (made (statement (stmt.Run print)) ∷ made (statement (stmt.Bump i true)) ∷ [])
  step_is = search (rules, tree.the_lemmas)

abbrev declared : Coded → Made
declared c = declare (Some Number) 0 (Some c)

declared_is : made (statement (stmt.Local 0 ty.Int (Some (number 0)))) ≡ declared (N 0)
declared_is = step_is ∙ ap declared (number_is 0 (omega arith)) where
  step_is : made (statement (stmt.Local 0 ty.Int (Some (number 0)))) ≡ declared (coded (number 0))
  step_is = search (rules, tree.the_lemmas)

abbrev looping : Coded → Made → Made
looping c m n out back = repeat c.codes nothing m n out back

while_is : made (statement (stmt.While less body)) ≡ looping L B
while_is = step_is ∙ ap (λ (c : Coded). looping c (made body)) less_is ∙ ap (looping L) body_is where
  step_is : made (statement (stmt.While less body)) ≡ looping (coded less) (made body)
  step_is = search (rules, tree.the_lemmas)

block_is : map made block ≡ declared (N 0) ∷ looping L B ∷ []
block_is = ap (λ (m : Made). m ∷ made (statement (stmt.While less body)) ∷ []) declared_is ∙ ap (λ (m : Made). declared (N 0) ∷ m ∷ []) while_is

-- the member's code, by that of its statements
abbrev framed_of : List Made → Part
framed_of ms =
    let c = in_row ms 2 0 1 in
    record { items = [] ++ (c.items ++ end_code None); next = c.next; need = max 1 (max c.need 1) }

abbrev code : Code
code = record {
  max_stack = 2;
  max_locals = 1;
  bytes = 3 ∷ 54 ∷ 0 ∷ 26 ∷ 5 ∷ 162 ∷ 0 ∷ 13 ∷ 26 ∷ 184 ∷ 0 ∷ 8 ∷ 132 ∷ 0 ∷ 1 ∷ 167 ∷ 255 ∷ 244 ∷ 177 ∷ [];
  attributes = [];
}

abbrev method : MemberInfo
method = record { flags = 9; name = 10; descriptor = 9; code = Some code; attributes = [] }

abbrev file : ClassFile
file = record {
  constants = Unused ∷ Utf8 (codes "Main") ∷ Class 1 ∷ Utf8 (codes "Io") ∷ Class 3 ∷ Utf8 (codes "print") ∷ Utf8 (codes "(I)V")
      ∷ NameAndType 5 6 ∷ Methodref 4 7 ∷ Utf8 (codes "()V") ∷ Utf8 (codes "main") ∷ [];
  flags = 33;
  this_class = 2;
  super_class = 0;
  interfaces = [];
  fields = [];
  methods = method ∷ [];
  attributes = [];
}

-- the loop begins at 3 and ends at 18, and its change is at 15
abbrev labels : ℕ → ℕ
labels label = cond (label == 2) 3 (cond (label == 3) 18 15)

pub loop_is_code : (hier : Hier) → IsCodeOf hier head main file method
loop_is_code hier =
    let same : member_code hier head main ≡ framed_of (declared (N 0) ∷ looping L B ∷ []) = ap framed_of block_is in
    record {
      code = code;
      has = refl;
      this = refl;
      result = ap (λ (o : Option Signature). option_map (λ s. s.result) o) (signatures_read_back [] ty.Void refl refl);
      place = labels;
      to = 19;
      stands = subst (λ (c : Part). Stands file code.bytes labels 0 c.items 19) (sym same)
          (1, refl, (3, refl, (refl, (4, refl, (5, refl, (8, refl, (9, refl, (8, 12, refl, refl, (15, refl, (refl, (18, refl, (refl, (19, refl, refl)))))))))))));
      room = subst (λ (c : Part). c.need ≤ 2) (sym same) (omega arith);
      locals = refl;
      slots = omega arith;
    }

pub loop_keeps : (hier : Hier) → KeepsReceiver hier head main
loop_keeps hier =
    let same : member_code hier head main ≡ framed_of (declared (N 0) ∷ looping L B ∷ []) = ap framed_of block_is in
    subst (λ (c : Part). list_all (keeps false) c.items ≡ true) (sym same) refl
