-- The constants, where more bytes stand behind.
use Rattle.std.proofs.Common.{◌≡◌, ℕ, zero, suc, ◌+◌, ◌-◌, ◌<◌, ◌≤◌, Bool, true, false, cond, eqb, ltb, List, [], ◌∷◌, ◌++◌, length, take, drop, Option, Some, None, Result, Ok, Err, refl, sym, ap, subst, ◌∙◌, arith, inl, inr, length-append}
use Rattle.std.specs.List.{prefix_len, sum_by}
use Rattle.std.specs.Int.{w32, w64, cast_signed}
use Rattle.std.proofs.lemmas.Bool.{false_from_ne_true, eqb-true, ltb-true, lt-ltb, cases_lt}
use Rattle.std.proofs.lemmas.List.{take-append-le, length-drop, length-take}
use Rattle.std.proofs.lemmas.List.Folds.{prefix_len-append}
use Rattle.std.proofs.lemmas.List.Sums.{sum_by-cons}
use Rattle.class_form.specs.declared.constant.Const.{Const}
use Rattle.class_form.specs.declared.constant.Const.TheVariants.{Utf8, Integer, Float, Long, Double, Class, Text, Fieldref, Methodref, InterfaceMethodref, NameAndType}
use Rattle.class_form.specs.WellFormed.{names, is_utf8, is_class, is_name_and_type, is_wide, is_text_byte, constant_size}
use Rattle.class_reader.specs.declared.fault.ClassKind.TheVariants as kinds
use Rattle.class_reader.specs.declared.fault.Defect.{Defect}
use Rattle.class_reader.specs.Fields.{◌>>=◌, fault, file_edge, u2_at, run_at}
use Rattle.class_reader.specs.Reading.{text_run, text_at, numbered, pair_at, wide_at, tagged_at, constant_at, entry_at, entries_at, bad_one, bad_pair, bad_index, found_first, bad_index_among, with_right_indices, pool_at}
use Rattle.class_reader.proofs.Continued.{then, with_more, Counts, Reads, fails, choose, end, file_later, u2_counts, u4_counts, u8_counts, run_counts}

-- ---- texts

front_of : (n : ℕ) (xs ys : List ℕ) → (zs : List ℕ) × (take n (xs ++ ys) ≡ take n xs ++ zs)
front_of zero xs ys = ([], refl)
front_of (suc n) [] ys = (take (suc n) ys, refl)
front_of (suc n) (x ∷ xs) ys =
    let f = front_of n xs ys in
    (f.0, ap (λ (l : List ℕ). x ∷ l) f.1)

-- a byte that doesn't pass is the first that doesn't, whatever stands behind
prefix_stays : (p : ℕ → Bool) (xs ys : List ℕ) → prefix_len p xs < length xs → prefix_len p (xs ++ ys) ≡ prefix_len p xs
prefix_stays p xs ys lt =
    let other : eqb (prefix_len p xs) (length xs) ≡ false = false_from_ne_true (eqb (prefix_len p xs) (length xs)) (λ h. let e : prefix_len p xs ≡ length xs = eqb-true _ _ h in absurd (omega (arith, lt, e))) in
    prefix_len-append p xs ys ∙ rw other refl

-- the bytes of a text
abbrev IsText : List ℕ → ℕ → List ℕ → Result (List ℕ × List ℕ) Defect → Result (List ℕ × List ℕ) Defect → Type 0
IsText more lim bytes r r' = Counts more lim length (length bytes) r r'

wrong_text : (more : List ℕ) (lim count : ℕ) (bytes : List ℕ) → prefix_len is_text_byte (take count bytes) < length (take count bytes) → length bytes ≤ lim
    → IsText more lim bytes (Err (fault kinds.Utf8 (drop (prefix_len is_text_byte (take count bytes)) bytes))) (text_run count (bytes ++ more))
wrong_text more lim count bytes lt le =
    let there = take count bytes in
    let p = prefix_len is_text_byte there in
    let whole = take count (bytes ++ more) in
    let f = front_of count bytes more in
    let same : prefix_len is_text_byte whole ≡ p = ap (prefix_len is_text_byte) f.1 ∙ prefix_stays is_text_byte there f.0 lt in
    let long : length whole ≡ length there + length f.0 = ap length f.1 ∙ length-append there f.0 in
    let test : ltb (prefix_len is_text_byte whole) (length whole) ≡ true = lt-ltb _ _ (omega (arith, same, long, lt)) in
    let left : length (drop (prefix_len is_text_byte whole) (bytes ++ more)) ≡ length (drop p bytes) + length more = omega (arith, length-drop (prefix_len is_text_byte whole) (bytes ++ more), length-append bytes more, length-drop p bytes, same, lt, length-take count bytes) in
    inr (record { kind = λ is. cc; some = omega (arith, length-drop p bytes, lt, length-take count bytes); within = omega (arith, length-drop p bytes, le) }, rw test (ap (λ (n : ℕ). Err (record { kind = kinds.Utf8; left = n })) left))

short_run : (count : ℕ) (bytes : List ℕ) → length bytes < count → run_at file_edge count bytes ≡ Err end
unfolding run_at
short_run count bytes lt =
    let test : ltb (length bytes - 0) count ≡ true = lt-ltb _ _ (omega (arith, lt)) in
    rw test refl

right_text : (more : List ℕ) (lim count : ℕ) (bytes : List ℕ) → ltb (prefix_len is_text_byte (take count bytes)) (length (take count bytes)) ≡ false → IsText more lim bytes (run_at file_edge count bytes) (text_run count (bytes ++ more))
right_text more lim count bytes h =
    elim (cases_lt (length bytes) count) [
      | inl lt ↦ subst (λ (r : Result (List ℕ × List ℕ) Defect). IsText more lim bytes r (text_run count (bytes ++ more))) (sym (short_run count bytes lt)) (inl refl)
      | inr enough ↦
          let same : take count (bytes ++ more) ≡ take count bytes = take-append-le count bytes more enough in
          let is : text_run count (bytes ++ more) ≡ run_at file_edge count (bytes ++ more) = rw (same, h) refl in
          subst (λ (r : Result (List ℕ × List ℕ) Defect). IsText more lim bytes (run_at file_edge count bytes) r) (sym is) (run_counts more lim file_edge file_edge count bytes (file_later more lim))
    ]

text_cases : (more : List ℕ) (lim count : ℕ) (bytes : List ℕ) (b : Bool) → ltb (prefix_len is_text_byte (take count bytes)) (length (take count bytes)) ≡ b → length bytes ≤ lim
    → IsText more lim bytes (cond b (Err (fault kinds.Utf8 (drop (prefix_len is_text_byte (take count bytes)) bytes))) (run_at file_edge count bytes)) (text_run count (bytes ++ more))
text_cases more lim count bytes true h le = wrong_text more lim count bytes (ltb-true _ _ h) le
text_cases more lim count bytes false h le = right_text more lim count bytes h

text_behind : (more : List ℕ) (lim all : ℕ) (rest : List ℕ) (r r' : Result (List ℕ × List ℕ) Defect) → 2 + length rest ≡ all → Counts more lim length (length rest) r r' → Counts more lim (λ text. 2 + length text) all r r'
text_behind more lim all rest (Ok x) r' took g = let e = g.1 in (g.0, omega arith)
text_behind more lim all rest (Err d) r' took g = g

text_goes : (more : List ℕ) (lim : ℕ) (bytes : List ℕ) → length bytes ≤ lim → Counts more lim (λ text. 2 + length text) (length bytes) (text_at bytes) (text_at (bytes ++ more))
unfolding text_at
text_goes more lim bytes le =
    then more lim (with_more more) (with_more more) (λ x. 2 + length x.1 ≡ length bytes) (λ x. 2 + length x.0 + length x.1 ≡ length bytes) (u2_at file_edge bytes) (u2_at file_edge (bytes ++ more)) _ _ (u2_counts more lim file_edge file_edge bytes (file_later more lim))
    (λ x took. text_behind more lim (length bytes) x.1 (text_run x.0 x.1) (text_run x.0 (x.1 ++ more)) took (text_cases more lim x.0 x.1 (ltb (prefix_len is_text_byte (take x.0 x.1)) (length (take x.0 x.1))) refl (omega arith)))

-- ---- constants

-- a constant of which this many bytes are left, from its tag on
abbrev IsConstant : List ℕ → ℕ → ℕ → Result (Const × List ℕ) Defect → Result (Const × List ℕ) Defect → Type 0
IsConstant more lim all r r' = Counts more lim constant_size all r r'

number_goes : (more : List ℕ) (lim k : ℕ) (make : ℕ → Const) (rest : List ℕ) (r r' : Result (ℕ × List ℕ) Defect) → ((n : ℕ) → constant_size (make n) ≡ 1 + k) → Counts more lim (λ x. k) (length rest) r r' → IsConstant more lim (1 + length rest) (numbered make r) (numbered make r')
number_goes more lim k make rest r r' sized g =
    then more lim (with_more more) (with_more more) (λ x. k + length x.1 ≡ length rest) (λ x. constant_size x.0 + length x.1 ≡ 1 + length rest) r r' (λ x. Ok (make x.0, x.1)) (λ x. Ok (make x.0, x.1)) g (λ x took. (refl, omega (arith, sized x.0)))

pair_goes : (more : List ℕ) (lim : ℕ) (make : ℕ → ℕ → Const) (rest : List ℕ) → ((a b : ℕ) → constant_size (make a b) ≡ 5) → IsConstant more lim (1 + length rest) (pair_at make rest) (pair_at make (rest ++ more))
unfolding pair_at
pair_goes more lim make rest sized =
    then more lim (with_more more) (with_more more) (λ x. 2 + length x.1 ≡ length rest) (λ x. constant_size x.0 + length x.1 ≡ 1 + length rest) (u2_at file_edge rest) (u2_at file_edge (rest ++ more)) _ _ (u2_counts more lim file_edge file_edge rest (file_later more lim))
    (λ x took. then more lim (with_more more) (with_more more) (λ y. 2 + length y.1 ≡ length x.1) (λ y. constant_size y.0 + length y.1 ≡ 1 + length rest) (u2_at file_edge x.1) (u2_at file_edge (x.1 ++ more)) _ _ (u2_counts more lim file_edge file_edge x.1 (file_later more lim))
    (λ y took'. (refl, omega (arith, sized x.0 y.0))))

utf8_goes : (more : List ℕ) (lim : ℕ) (rest : List ℕ) → length rest ≤ lim → IsConstant more lim (1 + length rest) (text_at rest >>= λ x. Ok (Utf8 x.0, x.1)) (text_at (rest ++ more) >>= λ x. Ok (Utf8 x.0, x.1))
utf8_goes more lim rest le =
    then more lim (with_more more) (with_more more) (λ x. 2 + length x.0 + length x.1 ≡ length rest) (λ x. constant_size x.0 + length x.1 ≡ 1 + length rest) (text_at rest) (text_at (rest ++ more)) (λ x. Ok (Utf8 x.0, x.1)) (λ x. Ok (Utf8 x.0, x.1)) (text_goes more lim rest le) (λ x took. (refl, omega arith))

wide_goes : (more : List ℕ) (lim all : ℕ) (l : Bool) (bytes : List ℕ) (r r' : Result (Const × List ℕ) Defect) → 0 < length bytes → length bytes ≤ lim → IsConstant more lim all r r' → IsConstant more lim all (wide_at l bytes r) (wide_at l (bytes ++ more) r')
wide_goes more lim all true bytes r r' some le g = fails more lim (with_more more) (λ x. constant_size x.0 + length x.1 ≡ all) kinds.Tag bytes (λ is. cc) some le
wide_goes more lim all false bytes r r' some le g = g

either : (more : List ℕ) (lim all : ℕ) (b : Bool) (r r' s s' : Result (Const × List ℕ) Defect) → IsConstant more lim all r r' → IsConstant more lim all s s' → IsConstant more lim all (cond b r s) (cond b r' s')
either more lim all b r r' s s' g h = choose more lim (with_more more) (λ x. constant_size x.0 + length x.1 ≡ all) b r r' s s' g h

tagged_goes : (more : List ℕ) (lim : ℕ) (l : Bool) (tag : ℕ) (rest bytes : List ℕ) → length rest ≤ lim → 0 < length bytes → length bytes ≤ lim → IsConstant more lim (1 + length rest) (tagged_at l tag rest bytes) (tagged_at l tag (rest ++ more) (bytes ++ more))
unfolding tagged_at
tagged_goes more lim l tag rest bytes few some le =
    let all = 1 + length rest in
    let file = file_later more lim in
    let u2 = u2_counts more lim file_edge file_edge rest file in
    let u4 = u4_counts more lim file_edge file_edge rest file in
    let u8 = u8_counts more lim file_edge file_edge rest file in
    either more lim all (eqb tag 1) _ _ _ _ (utf8_goes more lim rest few)
    (either more lim all (eqb tag 3) _ _ _ _ (number_goes more lim 4 (λ n. Integer (cast_signed w32 n)) rest _ _ (λ n. refl) u4)
    (either more lim all (eqb tag 4) _ _ _ _ (number_goes more lim 4 Float rest _ _ (λ n. refl) u4)
    (either more lim all (eqb tag 5) _ _ _ _ (wide_goes more lim all l bytes _ _ some le (number_goes more lim 8 (λ n. Long (cast_signed w64 n)) rest _ _ (λ n. refl) u8))
    (either more lim all (eqb tag 6) _ _ _ _ (wide_goes more lim all l bytes _ _ some le (number_goes more lim 8 Double rest _ _ (λ n. refl) u8))
    (either more lim all (eqb tag 7) _ _ _ _ (number_goes more lim 2 Class rest _ _ (λ n. refl) u2)
    (either more lim all (eqb tag 8) _ _ _ _ (number_goes more lim 2 Text rest _ _ (λ n. refl) u2)
    (either more lim all (eqb tag 9) _ _ _ _ (pair_goes more lim Fieldref rest (λ a b. refl))
    (either more lim all (eqb tag 10) _ _ _ _ (pair_goes more lim Methodref rest (λ a b. refl))
    (either more lim all (eqb tag 11) _ _ _ _ (pair_goes more lim InterfaceMethodref rest (λ a b. refl))
    (either more lim all (eqb tag 12) _ _ _ _ (pair_goes more lim NameAndType rest (λ a b. refl))
    (fails more lim (with_more more) (λ x. constant_size x.0 + length x.1 ≡ all) kinds.Tag bytes (λ is. cc) some le)))))))))))

constant_goes : (more : List ℕ) (lim : ℕ) (l : Bool) (bytes : List ℕ) → length bytes ≤ lim → IsConstant more lim (length bytes) (constant_at l bytes) (constant_at l (bytes ++ more))
unfolding constant_at
constant_goes more lim l [] le = inl refl
constant_goes more lim l (tag ∷ rest) le = subst (λ (all : ℕ). IsConstant more lim all (tagged_at l tag rest (tag ∷ rest)) (tagged_at l tag (rest ++ more) (tag ∷ rest ++ more))) (omega arith) (tagged_goes more lim l tag rest (tag ∷ rest) (omega arith) (omega arith) le)

-- ---- entries

entry_goes : (more : List ℕ) (lim : ℕ) (behind l : Bool) (bytes : List ℕ) → length bytes ≤ lim → IsConstant more lim (length bytes) (entry_at behind l bytes) (entry_at behind l (bytes ++ more))
entry_goes more lim true l bytes le = (refl, omega arith)
entry_goes more lim false l bytes le = constant_goes more lim l bytes le

entries_go : (more : List ℕ) (lim : ℕ) (behind : Bool) (n : ℕ) (bytes : List ℕ) → length bytes ≤ lim → Counts more lim (sum_by constant_size) (length bytes) (entries_at behind n bytes) (entries_at behind n (bytes ++ more))
unfolding entries_at
entries_go more lim behind zero bytes le = (refl, omega arith)
entries_go more lim behind (suc n) bytes le =
    then more lim (with_more more) (with_more more) (λ x. constant_size x.0 + length x.1 ≡ length bytes) (λ x. sum_by constant_size x.0 + length x.1 ≡ length bytes) (entry_at behind (eqb n 0) bytes) (entry_at behind (eqb n 0) (bytes ++ more)) _ _ (entry_goes more lim behind (eqb n 0) bytes le)
    (λ x took. then more lim (with_more more) (with_more more) (λ y. sum_by constant_size y.0 + length y.1 ≡ length x.1) (λ y. sum_by constant_size y.0 + length y.1 ≡ length bytes) (entries_at (is_wide x.0) n x.1) (entries_at (is_wide x.0) n (x.1 ++ more)) _ _ (entries_go more lim (is_wide x.0) n x.1 (omega arith))
    (λ y took'. (refl, omega (arith, sum_by-cons constant_size x.0 y.0))))

-- ---- indices

-- an index of the wrong kind stands within its constant
abbrev Within : ℕ → Option ℕ → Type 0
Within size None = Unit {0}
Within size (Some into) = into < size

one_within : (b : Bool) → Within 3 (bad_one b)
one_within true = tt
one_within false = omega arith

pair_within : (a b : Bool) → Within 5 (bad_pair a b)
pair_within true true = tt
pair_within true false = omega arith
pair_within false b = omega arith

bad_within : (all : List Const) (c : Const) → Within (constant_size c) (bad_index all c)
bad_within all (Class name) = one_within (names is_utf8 all name)
bad_within all (Text text) = one_within (names is_utf8 all text)
bad_within all (Fieldref class name) = pair_within (names is_class all class) (names is_name_and_type all name)
bad_within all (Methodref class name) = pair_within (names is_class all class) (names is_name_and_type all name)
bad_within all (InterfaceMethodref class name) = pair_within (names is_class all class) (names is_name_and_type all name)
bad_within all (NameAndType name descriptor) = pair_within (names is_utf8 all name) (names is_utf8 all descriptor)
bad_within all _ = tt

-- where the first index of the wrong kind stands, with n bytes more behind
abbrev Moves : ℕ → ℕ → Option ℕ → Option ℕ → Type 0
Moves n left None o = o ≡ None
Moves n left (Some k) o = (o ≡ Some (k + n)) × (0 < k) × (k ≤ left)

moves_less : (n left less : ℕ) (o o' : Option ℕ) → less ≤ left → Moves n less o o' → Moves n left o o'
moves_less n left less None o' le m = m
moves_less n left less (Some k) o' le m = let le' = m.2 in (m.0, m.1, omega arith)

first_moves : (n left size : ℕ) (found o o' : Option ℕ) → Within size found → size ≤ left → Moves n left o o' → Moves n left (found_first found left o) (found_first found (left + n) o')
first_moves n left size None o o' within le m = m
first_moves n left size (Some into) o o' within le m =
    let is : left + n - into ≡ left - into + n = omega arith in
    (ap Some is, omega arith, omega arith)

bad_moves : (all cs : List Const) (left n : ℕ) → sum_by constant_size cs ≤ left → Moves n left (bad_index_among all cs left) (bad_index_among all cs (left + n))
unfolding bad_index_among
bad_moves all [] left n le = refl
bad_moves all (c ∷ more) left n le =
    let size = constant_size c in
    let sum = sum_by-cons constant_size c more in
    let is : left - size + n ≡ left + n - size = omega (arith, sum, le) in
    let behind = bad_moves all more (left - size) n (omega (arith, sum, le)) in
    let moved = subst (λ (k : ℕ). Moves n (left - size) (bad_index_among all more (left - size)) (bad_index_among all more k)) is behind in
    first_moves n left size (bad_index all c) (bad_index_among all more (left - size)) (bad_index_among all more (left + n - size)) (bad_within all c) (omega (arith, sum, le)) (moves_less n left (left - size) (bad_index_among all more (left - size)) (bad_index_among all more (left + n - size)) (omega arith) moved)

indices_go : (more : List ℕ) (lim k left : ℕ) (o o' : Option ℕ) (bytes : List ℕ) (x : List Const × List ℕ) → Moves (length more) left o o' → left ≤ lim → k + length x.1 ≤ length bytes → Reads more lim k bytes (with_right_indices o x) (with_right_indices o' (with_more more x))
indices_go more lim k left None o' bytes x moves le less = (rw moves refl, less)
indices_go more lim k left (Some at) o' bytes x moves le less = let within = moves.2 in inr (record { kind = λ is. cc; some = moves.1; within = omega arith }, rw moves.0 refl)

pub pool_goes : (more : List ℕ) (lim : ℕ) (bytes : List ℕ) → length bytes ≤ lim → Reads more lim 2 bytes (pool_at bytes) (pool_at (bytes ++ more))
unfolding pool_at
pool_goes more lim bytes le =
    then more lim (with_more more) (with_more more) (λ x. 2 + length x.1 ≡ length bytes) (λ x. 2 + length x.1 ≤ length bytes) (u2_at file_edge bytes) (u2_at file_edge (bytes ++ more)) _ _ (u2_counts more lim file_edge file_edge bytes (file_later more lim))
    (λ x took. then more lim (with_more more) (with_more more) (λ y. sum_by constant_size y.0 + length y.1 ≡ length x.1) (λ y. 2 + length y.1 ≤ length bytes) (entries_at true x.0 x.1) (entries_at true x.0 (x.1 ++ more)) _ _ (entries_go more lim true x.0 x.1 (omega arith))
    (λ y took'. indices_go more lim 2 (length x.1) (bad_index_among y.0 y.0 (length x.1)) (bad_index_among y.0 y.0 (length (x.1 ++ more))) bytes y
    (subst (λ (n : ℕ). Moves (length more) (length x.1) (bad_index_among y.0 y.0 (length x.1)) (bad_index_among y.0 y.0 n)) (sym (length-append x.1 more)) (bad_moves y.0 y.0 (length x.1) (length more) (omega arith)))
    (omega arith) (omega arith)))
