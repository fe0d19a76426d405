-- An attribute that is read is the attribute that stands there, and what stands there is read again.
use Rattle.std.proofs.Common.{◌≡◌, ℕ, ◌+◌, ◌-◌, ◌<◌, ◌≤◌, Bool, true, false, ◌&&◌, cond, eqb, ltb, leb, eq-eqb, List, ◌++◌, length, Ok, Err, refl, sym, ap, subst, ◌∙◌, append_assoc, arith, length-append}
use Rattle.std.specs.Prelude.{flat_map}
use Rattle.std.specs.List.{list_all}
use Rattle.std.proofs.lemmas.Bool.{eqb-true, ltb-true, lt-ltb}
use Rattle.class_form.specs.declared.constant.Const.{Const}
use Rattle.class_form.specs.declared.member.Attribute.{Attribute}
use Rattle.class_form.specs.declared.member.Code.{Code}
use Rattle.class_form.specs.WellFormed.{names, is_utf8, attribute_fits, attributes_fit, code_fits, code_size}
use Rattle.class_form.specs.Layout.{u2, u4, attribute_bytes, attribute_list_bytes, code_content, CodeInRange}
use Rattle.class_form.proofs.Facts.{both, and_both, four, and_four}
use Rattle.class_form.proofs.Sizes.{length-code_content}
use Rattle.class_reader.specs.declared.fault.ClassKind.TheVariants as kinds
use Rattle.class_reader.specs.declared.fields.Edge.{Edge}
use Rattle.class_reader.specs.Fields.{◌>>=◌, fault, file_edge, u2_at, u4_at, run_at, index_at, many_at}
use Rattle.class_reader.specs.Reading.{content_at, attribute_at, attributes_at, code_run, handlers_at, parts_at, code_edge, code_at}
use Rattle.class_reader.proofs.PoolAgain.{index_small}
use Rattle.class_reader.proofs.FieldLaws.{IsBytes, bind_ok, guard_then, ok_is, Takes, Takes-then, u2_takes, u4_takes, u2_again, u4_again, run_takes, run_again, index_takes, index_again, many_take, many_again}

pub content_takes : (edge : Edge) (bytes : List ℕ) (x : List ℕ × List ℕ) → IsBytes bytes → content_at edge bytes ≡ Ok x → Takes bytes (u4 (length x.0) ++ x.0) x.1 × (length x.0 < 4294967296)
unfolding content_at
content_takes edge bytes x fits e =
    let b = bind_ok (u4_at edge bytes) (λ size. run_at edge size.0 size.1) x e in
    let t = u4_takes edge bytes b.0 fits b.1 in
    let r = run_takes edge b.0.0 b.0.1 x t.0.rest_fits b.2 in
    let whole = Takes-then bytes (u4 b.0.0) b.0.1 x.0 x.1 t.0 r.0 in
    (subst (λ (k : ℕ). Takes bytes (u4 k ++ x.0) x.1) (sym r.1) whole, omega (arith, r.1, t.1))

pub attribute_takes : (edge : Edge) (cs : List Const) (bytes : List ℕ) (x : Attribute × List ℕ) → IsBytes bytes → attribute_at edge cs bytes ≡ Ok x → Takes bytes (attribute_bytes x.0) x.1 × (attribute_fits cs x.0 ≡ true)
unfolding attribute_at attribute_bytes
attribute_takes edge cs bytes x fits e =
    let a = bind_ok (index_at edge (names is_utf8 cs) bytes) (λ name. content_at edge name.1 >>= λ content. Ok (record { name = name.0; content = content.0 }, content.1)) x e in
    let b = bind_ok (content_at edge a.0.1) (λ content. Ok (record { name = a.0.0; content = content.0 }, content.1)) x a.2 in
    let s = index_takes edge (names is_utf8 cs) bytes a.0 fits a.1 in
    let t = content_takes edge a.0.1 b.0 s.0.rest_fits b.1 in
    let whole = Takes-then bytes (u2 a.0.0) a.0.1 (u4 (length b.0.0) ++ b.0.0) b.0.1 s.0 t.0 in
    let left = subst (λ (t : List ℕ). Takes bytes t b.0.1) (sym (append_assoc (u2 a.0.0) (u4 (length b.0.0)) b.0.0)) whole in
    let made : Attribute × List ℕ = (record { name = a.0.0; content = b.0.0 }, b.0.1) in
    subst (λ (y : Attribute × List ℕ). Takes bytes (u2 y.0.name ++ u4 (length y.0.content) ++ y.0.content) y.1 × (attribute_fits cs y.0 ≡ true)) (ok_is made x b.2) (left, and_both (names is_utf8 cs a.0.0) (ltb (length b.0.0) 4294967296) s.1 (lt-ltb _ _ t.1))

pub attributes_take : (edge : Edge) (cs : List Const) (bytes : List ℕ) (x : List Attribute × List ℕ) → IsBytes bytes → attributes_at edge cs bytes ≡ Ok x → Takes bytes (attribute_list_bytes x.0) x.1 × (attributes_fit cs 0 x.0 ≡ true)
unfolding attributes_at attribute_list_bytes
attributes_take edge cs bytes x fits e =
    let a = bind_ok (u2_at edge bytes) (λ count. many_at (attribute_at edge cs) count.0 count.1) x e in
    let s = u2_takes edge bytes a.0 fits a.1 in
    let t = many_take (attribute_at edge cs) attribute_bytes (attribute_fits cs) (attribute_takes edge cs) a.0.0 a.0.1 x s.0.rest_fits a.2 in
    let whole = Takes-then bytes (u2 a.0.0) a.0.1 (flat_map attribute_bytes x.0) x.1 s.0 t.0 in (
      subst (λ (k : ℕ). Takes bytes (u2 k ++ flat_map attribute_bytes x.0) x.1) (sym t.1) whole,
      and_both (ltb (0 + length x.0) 65536) (list_all (attribute_fits cs) x.0) (lt-ltb _ _ (omega (arith, t.1, s.1))) t.2,
    )

code_run_takes : (edge : Edge) (bytes : List ℕ) (x : List ℕ × List ℕ) → IsBytes bytes → code_run edge bytes ≡ Ok x → Takes bytes (u4 (length x.0) ++ x.0) x.1 × (ltb 0 (length x.0) ≡ true) × (ltb (length x.0) 65536 ≡ true)
unfolding code_run
code_run_takes edge bytes x fits e =
    let b = bind_ok (u4_at edge bytes) (λ size. cond (ltb 0 size.0 && ltb size.0 65536) (run_at edge size.0 size.1) (Err (fault kinds.Length bytes))) x e in
    let g = guard_then (ltb 0 b.0.0 && ltb b.0.0 65536) (fault kinds.Length bytes) (run_at edge b.0.0 b.0.1) x b.2 in
    let t = u4_takes edge bytes b.0 fits b.1 in
    let r = run_takes edge b.0.0 b.0.1 x t.0.rest_fits g.1 in
    let whole = Takes-then bytes (u4 b.0.0) b.0.1 x.0 x.1 t.0 r.0 in
    let h = both (ltb 0 b.0.0) (ltb b.0.0 65536) g.0 in
    subst (λ (k : ℕ). Takes bytes (u4 k ++ x.0) x.1 × (ltb 0 k ≡ true) × (ltb k 65536 ≡ true)) (sym r.1) (whole, h.0, h.1)

handlers_take : (edge : Edge) (bytes x : List ℕ) → IsBytes bytes → handlers_at edge bytes ≡ Ok x → Takes bytes (u2 0) x
unfolding handlers_at
handlers_take edge bytes x fits e =
    let b = bind_ok (u2_at edge bytes) (λ count. cond (eqb count.0 0) (Ok count.1) (Err (fault kinds.Handlers bytes))) x e in
    let g = guard_then (eqb b.0.0 0) (fault kinds.Handlers bytes) (Ok b.0.1) x b.2 in
    let t = u2_takes edge bytes b.0 fits b.1 in
    let none : b.0.0 ≡ 0 = eqb-true _ _ g.0 in
    subst (λ (r : List ℕ). Takes bytes (u2 0) r) (ok_is b.0.1 x g.1) (subst (λ (k : ℕ). Takes bytes (u2 k) b.0.1) none t.0)

-- what is known of the parts of code that were read
record AreParts (cs : List Const) (code : Code) : Type 0 where
  some : ltb 0 (length code.bytes) ≡ true
  few : ltb (length code.bytes) 65536 ≡ true
  attributes : attributes_fit cs 0 code.attributes ≡ true
  numbers : CodeInRange code

parts_take : (edge : Edge) (cs : List Const) (bytes : List ℕ) (x : Code × List ℕ) → IsBytes bytes → parts_at edge cs bytes ≡ Ok x → Takes bytes (code_content x.0) x.1 × AreParts cs x.0
unfolding parts_at code_content
parts_take edge cs bytes x fits e =
    let a = bind_ok (u2_at edge bytes) (λ max_stack. u2_at edge max_stack.1 >>= λ max_locals. code_run edge max_locals.1 >>= λ code. handlers_at edge code.1 >>= λ handlers. attributes_at edge cs handlers >>= λ attributes. Ok (record { max_stack = max_stack.0; max_locals = max_locals.0; bytes = code.0; attributes = attributes.0 }, attributes.1)) x e in
    let b = bind_ok (u2_at edge a.0.1) (λ max_locals. code_run edge max_locals.1 >>= λ code. handlers_at edge code.1 >>= λ handlers. attributes_at edge cs handlers >>= λ attributes. Ok (record { max_stack = a.0.0; max_locals = max_locals.0; bytes = code.0; attributes = attributes.0 }, attributes.1)) x a.2 in
    let c = bind_ok (code_run edge b.0.1) (λ code. handlers_at edge code.1 >>= λ handlers. attributes_at edge cs handlers >>= λ attributes. Ok (record { max_stack = a.0.0; max_locals = b.0.0; bytes = code.0; attributes = attributes.0 }, attributes.1)) x b.2 in
    let d = bind_ok (handlers_at edge c.0.1) (λ handlers. attributes_at edge cs handlers >>= λ attributes. Ok (record { max_stack = a.0.0; max_locals = b.0.0; bytes = c.0.0; attributes = attributes.0 }, attributes.1)) x c.2 in
    let f = bind_ok (attributes_at edge cs d.0) (λ attributes. Ok (record { max_stack = a.0.0; max_locals = b.0.0; bytes = c.0.0; attributes = attributes.0 }, attributes.1)) x d.2 in
    let ta = u2_takes edge bytes a.0 fits a.1 in
    let tb = u2_takes edge a.0.1 b.0 ta.0.rest_fits b.1 in
    let tc = code_run_takes edge b.0.1 c.0 tb.0.rest_fits c.1 in
    let td = handlers_take edge c.0.1 d.0 tc.0.rest_fits d.1 in
    let tf = attributes_take edge cs d.0 f.0 td.rest_fits f.1 in
    let e1 = Takes-then bytes (u2 a.0.0) a.0.1 (u2 b.0.0) b.0.1 ta.0 tb.0 in
    let e2 = Takes-then bytes (u2 a.0.0 ++ u2 b.0.0) b.0.1 (u4 (length c.0.0) ++ c.0.0) c.0.1 e1 tc.0 in
    let left = subst (λ (t : List ℕ). Takes bytes t c.0.1) (sym (append_assoc (u2 a.0.0 ++ u2 b.0.0) (u4 (length c.0.0)) c.0.0)) e2 in
    let e3 = Takes-then bytes (u2 a.0.0 ++ u2 b.0.0 ++ u4 (length c.0.0) ++ c.0.0) c.0.1 (u2 0) d.0 left td in
    let whole = Takes-then bytes (u2 a.0.0 ++ u2 b.0.0 ++ u4 (length c.0.0) ++ c.0.0 ++ u2 0) d.0 (attribute_list_bytes f.0.0) f.0.1 e3 tf.0 in
    let made : Code × List ℕ = (record { max_stack = a.0.0; max_locals = b.0.0; bytes = c.0.0; attributes = f.0.0 }, f.0.1) in
    let known : AreParts cs made.0 = record { some = tc.1; few = tc.2; attributes = tf.1; numbers = record { max_stack = ta.1; max_locals = tb.1 } } in
    subst (λ (y : Code × List ℕ). Takes bytes (u2 y.0.max_stack ++ u2 y.0.max_locals ++ u4 (length y.0.bytes) ++ y.0.bytes ++ u2 0 ++ attribute_list_bytes y.0.attributes) y.1 × AreParts cs y.0) (ok_is made x f.2) (whole, known)

pub code_takes : (cs : List Const) (bytes : List ℕ) (x : Code × List ℕ) → IsBytes bytes → code_at cs bytes ≡ Ok x → Takes bytes (u4 (length (code_content x.0)) ++ code_content x.0) x.1 × (code_fits cs x.0 ≡ true) × CodeInRange x.0
unfolding code_at
code_takes cs bytes x fits e =
    let a = bind_ok (u4_at file_edge bytes) (λ size. parts_at (code_edge bytes size.0 size.1) cs size.1 >>= λ parts. cond (eqb (length parts.1 + size.0) (length size.1)) (Ok parts) (Err (fault kinds.Length bytes))) x e in
    let b = bind_ok (parts_at (code_edge bytes a.0.0 a.0.1) cs a.0.1) (λ parts. cond (eqb (length parts.1 + a.0.0) (length a.0.1)) (Ok parts) (Err (fault kinds.Length bytes))) x a.2 in
    let g = guard_then (eqb (length b.0.1 + a.0.0) (length a.0.1)) (fault kinds.Length bytes) (Ok b.0) x b.2 in
    let t = u4_takes file_edge bytes a.0 fits a.1 in
    let p = parts_take (code_edge bytes a.0.0 a.0.1) cs a.0.1 b.0 t.0.rest_fits b.1 in
    let filled : length b.0.1 + a.0.0 ≡ length a.0.1 = eqb-true _ _ g.0 in
    let len : length a.0.1 ≡ length (code_content b.0.0) + length b.0.1 = ap length p.0.parts ∙ length-append (code_content b.0.0) b.0.1 in
    let size : a.0.0 ≡ length (code_content b.0.0) = omega (arith, filled, len) in
    let whole = Takes-then bytes (u4 a.0.0) a.0.1 (code_content b.0.0) b.0.1 t.0 p.0 in
    let counted = subst (λ (k : ℕ). Takes bytes (u4 k ++ code_content b.0.0) b.0.1) size whole in
    let small : code_size b.0.0 < 4294967296 = omega (arith, length-code_content b.0.0, size, t.1) in
    let known : code_fits cs b.0.0 ≡ true = and_four (ltb 0 (length b.0.0.bytes)) (ltb (length b.0.0.bytes) 65536) (attributes_fit cs 0 b.0.0.attributes) (ltb (code_size b.0.0) 4294967296) p.1.some p.1.few p.1.attributes (lt-ltb _ _ small) in
    subst (λ (y : Code × List ℕ). Takes bytes (u4 (length (code_content y.0)) ++ code_content y.0) y.1 × (code_fits cs y.0 ≡ true) × CodeInRange y.0) (ok_is b.0 x g.1) (counted, known, p.1.numbers)

-- ---- what stands there is read again

pub content_again : (edge : Edge) (text rest : List ℕ) → length text < 4294967296 → edge.left ≤ length rest → content_at edge (u4 (length text) ++ (text ++ rest)) ≡ Ok (text, rest)
unfolding content_at
content_again edge text rest lt room =
    rw (u4_again edge (length text) (text ++ rest) lt (omega (arith, length-append text rest)), run_again edge text rest room) refl

pub three : (a b c d : List ℕ) → a ++ b ++ c ++ d ≡ a ++ (b ++ (c ++ d))
three a b c d = append_assoc (a ++ b) c d ∙ append_assoc a b (c ++ d)

attribute_again : (edge : Edge) (cs : List Const) (a : Attribute) (rest : List ℕ) → length cs < 65536 → attribute_fits cs a ≡ true → edge.left ≤ length rest → attribute_at edge cs (attribute_bytes a ++ rest) ≡ Ok (a, rest)
unfolding attribute_at attribute_bytes
attribute_again edge cs a rest few h room =
    let b = both (names is_utf8 cs a.name) (ltb (length a.content) 4294967296) h in
    let lt = index_small is_utf8 cs a.name few b.0 in
    ap (attribute_at edge cs) (three (u2 a.name) (u4 (length a.content)) a.content rest)
    ∙ rw (index_again edge (names is_utf8 cs) a.name (u4 (length a.content) ++ (a.content ++ rest)) b.0 lt (omega (arith, length-append (u4 (length a.content)) (a.content ++ rest), length-append a.content rest)), content_again edge a.content rest (ltb-true _ _ b.1) room) refl

pub attributes_again : (edge : Edge) (cs : List Const) (list : List Attribute) (rest : List ℕ) → length cs < 65536 → attributes_fit cs 0 list ≡ true → edge.left ≤ length rest → attributes_at edge cs (attribute_list_bytes list ++ rest) ≡ Ok (list, rest)
unfolding attributes_at attribute_list_bytes
attributes_again edge cs list rest few h room =
    let b = both (ltb (0 + length list) 65536) (list_all (attribute_fits cs) list) h in
    let lt : length list < 65536 = omega (arith, ltb-true (0 + length list) 65536 b.0) in
    ap (attributes_at edge cs) (append_assoc (u2 (length list)) (flat_map attribute_bytes list) rest)
    ∙ rw (u2_again edge (length list) (flat_map attribute_bytes list ++ rest) lt (omega (arith, length-append (flat_map attribute_bytes list) rest))) (many_again edge (attribute_at edge cs) attribute_bytes (attribute_fits cs) (λ a after fits space. attribute_again edge cs a after few fits space) list rest b.1 room)

code_run_again : (edge : Edge) (text rest : List ℕ) → ltb 0 (length text) ≡ true → ltb (length text) 65536 ≡ true → edge.left ≤ length rest → code_run edge (u4 (length text) ++ (text ++ rest)) ≡ Ok (text, rest)
unfolding code_run
code_run_again edge text rest some few room =
    rw (u4_again edge (length text) (text ++ rest) (omega (arith, ltb-true _ _ few)) (omega (arith, length-append text rest)), and_both (ltb 0 (length text)) (ltb (length text) 65536) some few, run_again edge text rest room) refl

handlers_again : (edge : Edge) (rest : List ℕ) → edge.left ≤ length rest → handlers_at edge (u2 0 ++ rest) ≡ Ok rest
unfolding handlers_at
handlers_again edge rest room = rw (u2_again edge 0 rest (omega arith) room) refl

six : (a b c d e f r : List ℕ) → a ++ b ++ c ++ d ++ e ++ f ++ r ≡ a ++ (b ++ (c ++ (d ++ (e ++ (f ++ r)))))
six a b c d e f r = simp append_assoc

longer : (k : ℕ) (x rest : List ℕ) → k ≤ length rest → k ≤ length (x ++ rest)
longer k x rest le = omega (arith, length-append x rest)

parts_again : (edge : Edge) (cs : List Const) (code : Code) (rest : List ℕ) → length cs < 65536 → code_fits cs code ≡ true → CodeInRange code → edge.left ≤ length rest → parts_at edge cs (code_content code ++ rest) ≡ Ok (code, rest)
unfolding parts_at code_content
parts_again edge cs code rest few h numbers room =
    let f = four (ltb 0 (length code.bytes)) (ltb (length code.bytes) 65536) (attributes_fit cs 0 code.attributes) (ltb (code_size code) 4294967296) h in
    let r5 = attribute_list_bytes code.attributes ++ rest in
    let r4 = u2 0 ++ r5 in
    let r3 = u4 (length code.bytes) ++ (code.bytes ++ r4) in
    let r2 = u2 code.max_locals ++ r3 in
    let k5 : edge.left ≤ length r5 = longer edge.left (attribute_list_bytes code.attributes) rest room in
    let k4 : edge.left ≤ length r4 = longer edge.left (u2 0) r5 k5 in
    let k3 : edge.left ≤ length r3 = longer edge.left (u4 (length code.bytes)) (code.bytes ++ r4) (longer edge.left code.bytes r4 k4) in
    let k2 : edge.left ≤ length r2 = longer edge.left (u2 code.max_locals) r3 k3 in
    ap (parts_at edge cs) (six (u2 code.max_stack) (u2 code.max_locals) (u4 (length code.bytes)) code.bytes (u2 0) (attribute_list_bytes code.attributes) rest)
    ∙ rw (u2_again edge code.max_stack r2 numbers.max_stack k2, u2_again edge code.max_locals r3 numbers.max_locals k3, code_run_again edge code.bytes r4 f.0 f.1 k4, handlers_again edge r5 k5, attributes_again edge cs code.attributes rest few f.2 room) refl

room_of : (b : Bool) (e : Edge) (m : ℕ) → e.left ≤ m → (cond b e file_edge).left ≤ m
room_of true e m le = le
room_of false e m le = omega arith

pub code_again : (cs : List Const) (code : Code) (rest : List ℕ) → length cs < 65536 → code_fits cs code ≡ true → CodeInRange code → code_at cs (u4 (length (code_content code)) ++ (code_content code ++ rest)) ≡ Ok (code, rest)
unfolding code_at
code_again cs code rest few h numbers =
    let n = length (code_content code) in
    let body = code_content code ++ rest in
    let bytes = u4 n ++ body in
    let f = four (ltb 0 (length code.bytes)) (ltb (length code.bytes) 65536) (attributes_fit cs 0 code.attributes) (ltb (code_size code) 4294967296) h in
    let small : n < 4294967296 = omega (arith, length-code_content code, ltb-true _ _ f.3) in
    let len : length body ≡ n + length rest = length-append (code_content code) rest in
    let room : (code_edge bytes n body).left ≤ length rest = room_of (leb n (length body)) (record { left = length body - n; short = fault kinds.Length bytes }) (length rest) (omega (arith, len)) in
    let filled : eqb (length rest + n) (length body) ≡ true = eq-eqb (length rest + n) (length body) (omega (arith, len)) in
    rw (u4_again file_edge n body small (omega arith), parts_again (code_edge bytes n body) cs code rest few h numbers room, filled) refl
