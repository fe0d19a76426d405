-- Attributes, code and members, where more bytes stand behind.
use Rattle.std.proofs.Common.{◌≡◌, ℕ, zero, suc, ◌+◌, ◌-◌, ◌<◌, ◌≤◌, Bool, true, false, ◌&&◌, cond, eqb, ltb, leb, List, ◌++◌, length, Option, Some, None, Result, Ok, Err, refl, ap, subst, arith, inl, inr, length-append}
use Rattle.std.proofs.lemmas.Bool.{leb-true, leb-false, eqb-true, eqb-false}
use Rattle.class_form.specs.declared.constant.Const.{Const}
use Rattle.class_form.specs.declared.member.Attribute.{Attribute}
use Rattle.class_form.specs.declared.member.Code.{Code}
use Rattle.class_form.specs.WellFormed.{names, is_utf8, is_code_text}
use Rattle.class_reader.specs.declared.fault.ClassKind.TheVariants as kinds
use Rattle.class_reader.specs.declared.fault.Defect.{Defect}
use Rattle.class_reader.specs.declared.fields.Edge.{Edge}
use Rattle.class_reader.specs.declared.members.Held.{Held}
use Rattle.class_reader.specs.Fields.{fault, file_edge, u2_at, u4_at, run_at, index_at}
use Rattle.class_reader.specs.Reading.{content_at, attribute_at, attributes_at, code_run, handlers_at, parts_at, code_edge, code_at, first_code, held_at, all_held_at, nothing_held, member_at, members_at}
use Rattle.class_reader.proofs.Continued.{Goes, then, with_more, Reads, next, further, fails, choose, Later, file_later, u2_goes, u4_goes, run_goes, index_goes, many_goes}

content_goes : (more : List ℕ) (lim : ℕ) (e e' : Edge) (bytes : List ℕ) → Later more lim e e' → Reads more lim 4 bytes (content_at e bytes) (content_at e' (bytes ++ more))
unfolding content_at
content_goes more lim e e' bytes later =
    next more lim 4 0 bytes (u4_at e bytes) (u4_at e' (bytes ++ more)) _ _ (u4_goes more lim e e' bytes later) (λ x less. run_goes more lim e e' x.0 x.1 later)

attribute_goes : (more : List ℕ) (lim : ℕ) (e e' : Edge) (cs : List Const) (bytes : List ℕ) → length bytes ≤ lim → Later more lim e e' → Reads more lim 2 bytes (attribute_at e cs bytes) (attribute_at e' cs (bytes ++ more))
unfolding attribute_at
attribute_goes more lim e e' cs bytes le later =
    next more lim 2 4 bytes (index_at e (names is_utf8 cs) bytes) (index_at e' (names is_utf8 cs) (bytes ++ more)) _ _ (index_goes more lim e e' (names is_utf8 cs) bytes le later)
    (λ x less. next more lim 4 0 x.1 (content_at e x.1) (content_at e' (x.1 ++ more)) _ _ (content_goes more lim e e' x.1 later) (λ y less'. (refl, omega arith)))

pub attributes_go : (more : List ℕ) (lim : ℕ) (e e' : Edge) (cs : List Const) (bytes : List ℕ) → length bytes ≤ lim → Later more lim e e' → Reads more lim 2 bytes (attributes_at e cs bytes) (attributes_at e' cs (bytes ++ more))
unfolding attributes_at
attributes_go more lim e e' cs bytes le later =
    next more lim 2 0 bytes (u2_at e bytes) (u2_at e' (bytes ++ more)) _ _ (u2_goes more lim e e' bytes later)
    (λ x less. many_goes more lim 2 (attribute_at e cs) (attribute_at e' cs) (λ rest few. attribute_goes more lim e e' cs rest few later) x.0 x.1 (omega arith))

-- ---- the attribute `Code`

code_run_goes : (more : List ℕ) (lim : ℕ) (e e' : Edge) (bytes : List ℕ) → length bytes ≤ lim → Later more lim e e' → Reads more lim 4 bytes (code_run e bytes) (code_run e' (bytes ++ more))
unfolding code_run
code_run_goes more lim e e' bytes le later =
    next more lim 4 0 bytes (u4_at e bytes) (u4_at e' (bytes ++ more)) _ _ (u4_goes more lim e e' bytes later)
    (λ x less. choose more lim (with_more more) (λ y. 0 + length y.1 ≤ length x.1) (ltb 0 x.0 && ltb x.0 65536) (run_at e x.0 x.1) (run_at e' x.0 (x.1 ++ more)) (Err (fault kinds.Length bytes)) (Err (fault kinds.Length (bytes ++ more))) (run_goes more lim e e' x.0 x.1 later)
    (fails more lim (with_more more) (λ y. 0 + length y.1 ≤ length x.1) kinds.Length bytes (λ is. cc) (omega arith) le))

-- the bytes that a step left
abbrev pub Leaves : List ℕ → ℕ → ℕ → List ℕ → Result (List ℕ) Defect → Result (List ℕ) Defect → Type 0
Leaves more lim k bytes r r' = Goes more lim (λ rest. rest ++ more) (λ rest. k + length rest ≤ length bytes) r r'

handlers_go : (more : List ℕ) (lim : ℕ) (e e' : Edge) (bytes : List ℕ) → length bytes ≤ lim → Later more lim e e' → Leaves more lim 2 bytes (handlers_at e bytes) (handlers_at e' (bytes ++ more))
unfolding handlers_at
handlers_go more lim e e' bytes le later =
    then more lim (with_more more) (λ rest. rest ++ more) (λ x. 2 + length x.1 ≤ length bytes) (λ rest. 2 + length rest ≤ length bytes) (u2_at e bytes) (u2_at e' (bytes ++ more)) _ _ (u2_goes more lim e e' bytes later)
    (λ x less. choose more lim (λ rest. rest ++ more) (λ rest. 2 + length rest ≤ length bytes) (eqb x.0 0) (Ok x.1) (Ok (x.1 ++ more)) (Err (fault kinds.Handlers bytes)) (Err (fault kinds.Handlers (bytes ++ more))) (refl, less)
    (fails more lim (λ rest. rest ++ more) (λ rest. 2 + length rest ≤ length bytes) kinds.Handlers bytes (λ is. cc) (omega arith) le))

parts_go : (more : List ℕ) (lim : ℕ) (e e' : Edge) (cs : List Const) (bytes : List ℕ) → length bytes ≤ lim → Later more lim e e' → Reads more lim 2 bytes (parts_at e cs bytes) (parts_at e' cs (bytes ++ more))
unfolding parts_at
parts_go more lim e e' cs bytes le later =
    next more lim 2 2 bytes (u2_at e bytes) (u2_at e' (bytes ++ more)) _ _ (u2_goes more lim e e' bytes later)
    (λ x less. next more lim 2 4 x.1 (u2_at e x.1) (u2_at e' (x.1 ++ more)) _ _ (u2_goes more lim e e' x.1 later)
    (λ y less1. next more lim 4 2 y.1 (code_run e y.1) (code_run e' (y.1 ++ more)) _ _ (code_run_goes more lim e e' y.1 (omega arith) later)
    (λ z less2. then more lim (λ rest. rest ++ more) (with_more more) (λ rest. 2 + length rest ≤ length z.1) (λ v. 2 + length v.1 ≤ length z.1) (handlers_at e z.1) (handlers_at e' (z.1 ++ more)) _ _ (handlers_go more lim e e' z.1 (omega arith) later)
    (λ rest less3. further more lim 2 2 z.1 rest _ _ less3 (next more lim 2 0 rest (attributes_at e cs rest) (attributes_at e' cs (rest ++ more)) _ _ (attributes_go more lim e e' cs rest (omega arith) later) (λ v less4. (refl, omega arith)))))))

-- the edge of the parts: the attribute's end, or the input's, behind which the attribute may end
edge_cases : (more : List ℕ) (lim size : ℕ) (field body : List ℕ) (b b' : Bool) → leb size (length body) ≡ b → leb size (length (body ++ more)) ≡ b' → 0 < length field → length field ≤ lim
    → Later more lim (cond b (record { left = length body - size; short = fault kinds.Length field }) file_edge) (cond b' (record { left = length (body ++ more) - size; short = fault kinds.Length (field ++ more) }) file_edge)
edge_cases more lim size field body true true h h' some le =
    let room : size ≤ length body = leb-true _ _ h in
    record {
      room = omega (arith, length-append body more, room);
      short = inr (record { left = omega (arith, length-append body more, room); placed = record { kind = λ is. cc; some = some; within = le }; same = ap (λ (n : ℕ). record { kind = kinds.Length; left = n }) (length-append field more) });
    }
edge_cases more lim size field body true false h h' some le =
    let room : size ≤ length body = leb-true _ _ h in
    let past : length (body ++ more) < size = leb-false _ _ h' in
    absurd (omega (arith, length-append body more, room, past))
edge_cases more lim size field body false true h h' some le =
    let past : length body < size = leb-false _ _ h in
    record { room = omega (arith, length-append body more, past); short = inl refl }
edge_cases more lim size field body false false h h' some le = record { room = omega arith; short = inl refl }

edge_goes : (more : List ℕ) (lim size : ℕ) (field body : List ℕ) → 0 < length field → length field ≤ lim → Later more lim (code_edge field size body) (code_edge (field ++ more) size (body ++ more))
edge_goes more lim size field body some le = edge_cases more lim size field body (leb size (length body)) (leb size (length (body ++ more))) refl refl some le

same_test : (a b c d : ℕ) (p q : Bool) → eqb a b ≡ p → eqb c d ≡ q → (a ≡ b → c ≡ d) → (c ≡ d → a ≡ b) → p ≡ q
same_test a b c d true true h h' f g = refl
same_test a b c d true false h h' f g = absurd (eqb-false c d h' (f (eqb-true a b h)))
same_test a b c d false true h h' f g = absurd (eqb-false a b h (g (eqb-true c d h')))
same_test a b c d false false h h' f g = refl

-- the parts fill the length, or don't, whatever stands behind
fill_goes : (more : List ℕ) (lim size : ℕ) (bytes body : List ℕ) (y : Code × List ℕ) → 0 < length bytes → length bytes ≤ lim
    → Reads more lim 0 y.1 (cond (eqb (length y.1 + size) (length body)) (Ok y) (Err (fault kinds.Length bytes))) (cond (eqb (length (y.1 ++ more) + size) (length (body ++ more))) (Ok (with_more more y)) (Err (fault kinds.Length (bytes ++ more))))
fill_goes more lim size bytes body y some le =
    let same : eqb (length y.1 + size) (length body) ≡ eqb (length (y.1 ++ more) + size) (length (body ++ more)) = same_test (length y.1 + size) (length body) (length (y.1 ++ more) + size) (length (body ++ more)) _ _ refl refl (λ e. omega (arith, e, length-append y.1 more, length-append body more)) (λ e. omega (arith, e, length-append y.1 more, length-append body more)) in
    subst (λ (b : Bool). Reads more lim 0 y.1 (cond (eqb (length y.1 + size) (length body)) (Ok y) (Err (fault kinds.Length bytes))) (cond b (Ok (with_more more y)) (Err (fault kinds.Length (bytes ++ more))))) same
    (choose more lim (with_more more) (λ z. 0 + length z.1 ≤ length y.1) (eqb (length y.1 + size) (length body)) (Ok y) (Ok (with_more more y)) (Err (fault kinds.Length bytes)) (Err (fault kinds.Length (bytes ++ more))) (refl, omega arith)
    (fails more lim (with_more more) (λ z. 0 + length z.1 ≤ length y.1) kinds.Length bytes (λ is. cc) some le))

code_goes : (more : List ℕ) (lim : ℕ) (cs : List Const) (bytes : List ℕ) → length bytes ≤ lim → Reads more lim 4 bytes (code_at cs bytes) (code_at cs (bytes ++ more))
unfolding code_at
code_goes more lim cs bytes le =
    next more lim 4 2 bytes (u4_at file_edge bytes) (u4_at file_edge (bytes ++ more)) _ _ (u4_goes more lim file_edge file_edge bytes (file_later more lim))
    (λ x less. next more lim 2 0 x.1 (parts_at (code_edge bytes x.0 x.1) cs x.1) (parts_at (code_edge (bytes ++ more) x.0 (x.1 ++ more)) cs (x.1 ++ more)) _ _ (parts_go more lim (code_edge bytes x.0 x.1) (code_edge (bytes ++ more) x.0 (x.1 ++ more)) cs x.1 (omega arith) (edge_goes more lim x.0 bytes x.1 (omega arith) le))
    (λ y less'. fill_goes more lim x.0 bytes x.1 y (omega arith) le))

-- ---- members

first_code_goes : (more : List ℕ) (lim : ℕ) (cs : List Const) (o : Option Code) (attributes : List Attribute) (bytes rest : List ℕ) → 0 < length bytes → length bytes ≤ lim → length rest ≤ lim → Reads more lim 0 rest (first_code cs o attributes bytes rest) (first_code cs o attributes (bytes ++ more) (rest ++ more))
first_code_goes more lim cs None attributes bytes rest some le few =
    further more lim 0 4 rest rest _ _ (omega arith) (next more lim 4 0 rest (code_at cs rest) (code_at cs (rest ++ more)) _ _ (code_goes more lim cs rest few) (λ x less. (refl, omega arith)))
first_code_goes more lim cs (Some other) attributes bytes rest some le few = fails more lim (with_more more) (λ y. 0 + length y.1 ≤ length rest) kinds.Twice bytes (λ is. cc) some le

held_goes : (more : List ℕ) (lim : ℕ) (cs : List Const) (held : Held) (bytes : List ℕ) → length bytes ≤ lim → Reads more lim 2 bytes (held_at cs held bytes) (held_at cs held (bytes ++ more))
unfolding held_at
held_goes more lim cs held bytes le =
    let file = file_later more lim in
    next more lim 2 0 bytes (index_at file_edge (names is_utf8 cs) bytes) (index_at file_edge (names is_utf8 cs) (bytes ++ more)) _ _ (index_goes more lim file_edge file_edge (names is_utf8 cs) bytes le file)
    (λ x less. choose more lim (with_more more) (λ y. 0 + length y.1 ≤ length x.1) (names is_code_text cs x.0) _ _ _ _ (first_code_goes more lim cs held.code held.attributes bytes x.1 (omega arith) le (omega arith))
    (further more lim 0 4 x.1 x.1 _ _ (omega arith) (next more lim 4 0 x.1 (content_at file_edge x.1) (content_at file_edge (x.1 ++ more)) _ _ (content_goes more lim file_edge file_edge x.1 file) (λ y less'. (refl, omega arith)))))

all_held_go : (more : List ℕ) (lim : ℕ) (cs : List Const) (held : Held) (n : ℕ) (bytes : List ℕ) → length bytes ≤ lim → Reads more lim 0 bytes (all_held_at cs held n bytes) (all_held_at cs held n (bytes ++ more))
unfolding all_held_at
all_held_go more lim cs held zero bytes le = (refl, omega arith)
all_held_go more lim cs held (suc n) bytes le =
    further more lim 0 2 bytes bytes _ _ (omega arith) (next more lim 2 0 bytes (held_at cs held bytes) (held_at cs held (bytes ++ more)) _ _ (held_goes more lim cs held bytes le) (λ x less. all_held_go more lim cs x.0 n x.1 (omega arith)))

member_goes : (more : List ℕ) (lim : ℕ) (cs : List Const) (bytes : List ℕ) → length bytes ≤ lim → Reads more lim 2 bytes (member_at cs bytes) (member_at cs (bytes ++ more))
unfolding member_at
member_goes more lim cs bytes le =
    let file = file_later more lim in
    next more lim 2 2 bytes (u2_at file_edge bytes) (u2_at file_edge (bytes ++ more)) _ _ (u2_goes more lim file_edge file_edge bytes file)
    (λ x less. next more lim 2 2 x.1 (index_at file_edge (names is_utf8 cs) x.1) (index_at file_edge (names is_utf8 cs) (x.1 ++ more)) _ _ (index_goes more lim file_edge file_edge (names is_utf8 cs) x.1 (omega arith) file)
    (λ y less1. next more lim 2 2 y.1 (index_at file_edge (names is_utf8 cs) y.1) (index_at file_edge (names is_utf8 cs) (y.1 ++ more)) _ _ (index_goes more lim file_edge file_edge (names is_utf8 cs) y.1 (omega arith) file)
    (λ z less2. next more lim 2 0 z.1 (u2_at file_edge z.1) (u2_at file_edge (z.1 ++ more)) _ _ (u2_goes more lim file_edge file_edge z.1 file)
    (λ v less3. next more lim 0 0 v.1 (all_held_at cs nothing_held v.0 v.1) (all_held_at cs nothing_held v.0 (v.1 ++ more)) _ _ (all_held_go more lim cs nothing_held v.0 v.1 (omega arith)) (λ w less4. (refl, omega arith))))))

pub members_go : (more : List ℕ) (lim : ℕ) (cs : List Const) (bytes : List ℕ) → length bytes ≤ lim → Reads more lim 2 bytes (members_at cs bytes) (members_at cs (bytes ++ more))
unfolding members_at
members_go more lim cs bytes le =
    next more lim 2 0 bytes (u2_at file_edge bytes) (u2_at file_edge (bytes ++ more)) _ _ (u2_goes more lim file_edge file_edge bytes (file_later more lim))
    (λ x less. many_goes more lim 2 (member_at cs) (member_at cs) (member_goes more lim cs) x.0 x.1 (omega arith))
