-- A class file that is read is well formed, and its bytes are an encoding of it.
use Rattle.std.proofs.Common.{◌≡◌, ℕ, zero, suc, ◌<◌, Bool, true, false, not, ◌&&◌, ◌||◌, cond, eqb, ltb, List, [], ◌∷◌, ◌++◌, length, get_or, Result, Ok, Err, refl, sym, ap, subst, ◌∙◌, append_assoc, arith, inl, inr}
use Rattle.std.specs.Prelude.{flat_map, IfOk}
use Rattle.std.specs.List.{list_all, list_any, All, AllByRecursion}
use Rattle.std.proofs.lemmas.Bool.{cases_lt, eqb-true, lt-ltb, ltb-true}
use Rattle.std.proofs.lemmas.List.{append-nil, get_or_past, nil_from_length}
use Rattle.std.proofs.lemmas.List.Elements.{All-from_recursion, All-get_or, recursion_from_All}
use Rattle.class_form.specs.declared.constant.Const.{Const}
use Rattle.class_form.specs.declared.class_file.ClassFile.{ClassFile}
use Rattle.class_form.specs.declared.member.Attribute.{Attribute}
use Rattle.class_form.specs.declared.member.MemberInfo.{MemberInfo}
use Rattle.class_form.specs.WellFormed.{WellFormed, names, is_class, is_super_class, has_code, is_code_text, attributes_fit}
use Rattle.class_form.specs.Layout.{u2, u4, head_bytes, pool_bytes, declared_bytes, attribute_list_bytes, class_file_bytes, Encodes, EncodesMembers, NumberInRange}
use Rattle.class_form.proofs.Facts.{both}
use Rattle.class_reader.specs.declared.fault.Defect.{Defect}
use Rattle.class_reader.specs.declared.fault.ClassErr.{ClassErr}
use Rattle.class_reader.specs.declared.fault.ClassKind.TheVariants as kinds
use Rattle.class_reader.specs.declared.reader.Declared.{Declared}
use Rattle.class_reader.specs.Fields.{◌>>=◌, fault, file_edge, u2_at, u4_at, index_at, many_at}
use Rattle.class_reader.specs.Reading.{Answers, at_offset, class_of, file_at, file_of, head_at, version_at, declared_at, pool_at, members_at, attributes_at}
use Rattle.class_reader.proofs.FieldLaws.{IsBytes, bind_ok, guard_then, ok_is, Takes, Takes-then, u2_takes, u4_takes, index_takes, many_take, u2_again, u4_again, index_again, many_again}
use Rattle.class_reader.proofs.PoolLaws.{IsPool, pool_takes, never_zero}
use Rattle.class_reader.proofs.PoolAgain.{index_small, pool_again}
use Rattle.class_reader.proofs.AttributeLaws.{attributes_take, attributes_again}
use Rattle.class_reader.proofs.MemberLaws.{AreMembers, members_take, members_again}

version_takes : (bytes x : List ℕ) → IsBytes bytes → version_at bytes ≡ Ok x → Takes bytes (u2 0 ++ u2 48) x
unfolding version_at
version_takes bytes x fits e =
    let a = bind_ok (u2_at file_edge bytes) (λ minor. u2_at file_edge minor.1 >>= λ major. cond (eqb minor.0 0 && eqb major.0 48) (Ok major.1) (Err (fault kinds.Version bytes))) x e in
    let b = bind_ok (u2_at file_edge a.0.1) (λ major. cond (eqb a.0.0 0 && eqb major.0 48) (Ok major.1) (Err (fault kinds.Version bytes))) x a.2 in
    let g = guard_then (eqb a.0.0 0 && eqb b.0.0 48) (fault kinds.Version bytes) (Ok b.0.1) x b.2 in
    let h = both (eqb a.0.0 0) (eqb b.0.0 48) g.0 in
    let s = u2_takes file_edge bytes a.0 fits a.1 in
    let t = u2_takes file_edge a.0.1 b.0 s.0.rest_fits b.1 in
    let whole = Takes-then bytes (u2 a.0.0) a.0.1 (u2 b.0.0) b.0.1 s.0 t.0 in
    let minor = subst (λ (k : ℕ). Takes bytes (u2 k ++ u2 b.0.0) b.0.1) (eqb-true a.0.0 0 h.0) whole in
    let major = subst (λ (k : ℕ). Takes bytes (u2 0 ++ u2 k) b.0.1) (eqb-true b.0.0 48 h.1) minor in
    subst (λ (r : List ℕ). Takes bytes (u2 0 ++ u2 48) r) (ok_is b.0.1 x g.1) major

head_takes : (bytes x : List ℕ) → IsBytes bytes → head_at bytes ≡ Ok x → Takes bytes head_bytes x
unfolding head_at head_bytes
head_takes bytes x fits e =
    let a = bind_ok (u4_at file_edge bytes) (λ magic. cond (eqb magic.0 3405691582) (version_at magic.1) (Err (fault kinds.Magic bytes))) x e in
    let g = guard_then (eqb a.0.0 3405691582) (fault kinds.Magic bytes) (version_at a.0.1) x a.2 in
    let s = u4_takes file_edge bytes a.0 fits a.1 in
    let t = version_takes a.0.1 x s.0.rest_fits g.1 in
    let whole = Takes-then bytes (u4 a.0.0) a.0.1 (u2 0 ++ u2 48) x s.0 t in
    let magic = subst (λ (k : ℕ). Takes bytes (u4 k ++ (u2 0 ++ u2 48)) x) (eqb-true a.0.0 3405691582 g.0) whole in
    subst (λ (r : List ℕ). Takes bytes r x) (sym (append_assoc (u4 3405691582) (u2 0) (u2 48))) magic

-- the head of the class, without the rest of the file
declared_text : Declared → List ℕ
declared_text d = u2 d.flags ++ u2 d.this_class ++ u2 d.super_class ++ u2 (length d.interfaces) ++ flat_map u2 d.interfaces

record IsDeclared (cs : List Const) (d : Declared) : Type 0 where
  flags : d.flags < 65536
  this_class : names is_class cs d.this_class ≡ true
  super_class : is_super_class cs d.super_class ≡ true
  count : ltb (length d.interfaces) 65536 ≡ true
  interfaces : list_all (names is_class cs) d.interfaces ≡ true

declared_takes : (cs : List Const) (bytes : List ℕ) (x : Declared × List ℕ) → IsBytes bytes → declared_at cs bytes ≡ Ok x → Takes bytes (declared_text x.0) x.1 × IsDeclared cs x.0
unfolding declared_at declared_text
declared_takes cs bytes x fits e =
    let a = bind_ok (u2_at file_edge bytes) (λ flags. index_at file_edge (names is_class cs) flags.1 >>= λ this_class. index_at file_edge (is_super_class cs) this_class.1 >>= λ super_class. u2_at file_edge super_class.1 >>= λ count. many_at (index_at file_edge (names is_class cs)) count.0 count.1 >>= λ interfaces. Ok (record { flags = flags.0; this_class = this_class.0; super_class = super_class.0; interfaces = interfaces.0 }, interfaces.1)) x e in
    let b = bind_ok (index_at file_edge (names is_class cs) a.0.1) (λ this_class. index_at file_edge (is_super_class cs) this_class.1 >>= λ super_class. u2_at file_edge super_class.1 >>= λ count. many_at (index_at file_edge (names is_class cs)) count.0 count.1 >>= λ interfaces. Ok (record { flags = a.0.0; this_class = this_class.0; super_class = super_class.0; interfaces = interfaces.0 }, interfaces.1)) x a.2 in
    let c = bind_ok (index_at file_edge (is_super_class cs) b.0.1) (λ super_class. u2_at file_edge super_class.1 >>= λ count. many_at (index_at file_edge (names is_class cs)) count.0 count.1 >>= λ interfaces. Ok (record { flags = a.0.0; this_class = b.0.0; super_class = super_class.0; interfaces = interfaces.0 }, interfaces.1)) x b.2 in
    let d = bind_ok (u2_at file_edge c.0.1) (λ count. many_at (index_at file_edge (names is_class cs)) count.0 count.1 >>= λ interfaces. Ok (record { flags = a.0.0; this_class = b.0.0; super_class = c.0.0; interfaces = interfaces.0 }, interfaces.1)) x c.2 in
    let f = bind_ok (many_at (index_at file_edge (names is_class cs)) d.0.0 d.0.1) (λ interfaces. Ok (record { flags = a.0.0; this_class = b.0.0; super_class = c.0.0; interfaces = interfaces.0 }, interfaces.1)) x d.2 in
    let ta = u2_takes file_edge bytes a.0 fits a.1 in
    let tb = index_takes file_edge (names is_class cs) a.0.1 b.0 ta.0.rest_fits b.1 in
    let tc = index_takes file_edge (is_super_class cs) b.0.1 c.0 tb.0.rest_fits c.1 in
    let td = u2_takes file_edge c.0.1 d.0 tc.0.rest_fits d.1 in
    let tf = many_take (index_at file_edge (names is_class cs)) u2 (names is_class cs) (index_takes file_edge (names is_class cs)) d.0.0 d.0.1 f.0 td.0.rest_fits f.1 in
    let counted = subst (λ (k : ℕ). Takes c.0.1 (u2 k) d.0.1) (sym tf.1) td.0 in
    let e1 = Takes-then bytes (u2 a.0.0) a.0.1 (u2 b.0.0) b.0.1 ta.0 tb.0 in
    let e2 = Takes-then bytes (u2 a.0.0 ++ u2 b.0.0) b.0.1 (u2 c.0.0) c.0.1 e1 tc.0 in
    let e3 = Takes-then bytes (u2 a.0.0 ++ u2 b.0.0 ++ u2 c.0.0) c.0.1 (u2 (length f.0.0)) d.0.1 e2 counted in
    let whole = Takes-then bytes (u2 a.0.0 ++ u2 b.0.0 ++ u2 c.0.0 ++ u2 (length f.0.0)) d.0.1 (flat_map u2 f.0.0) f.0.1 e3 tf.0 in
    let made : Declared × List ℕ = (record { flags = a.0.0; this_class = b.0.0; super_class = c.0.0; interfaces = f.0.0 }, f.0.1) in
    let known : IsDeclared cs made.0 = record { flags = ta.1; this_class = tb.1; super_class = tc.1; count = lt-ltb _ _ (omega (arith, tf.1, td.1)); interfaces = tf.2 } in
    subst (λ (y : Declared × List ℕ). Takes bytes (u2 y.0.flags ++ u2 y.0.this_class ++ u2 y.0.super_class ++ u2 (length y.0.interfaces) ++ flat_map u2 y.0.interfaces) y.1 × IsDeclared cs y.0) (ok_is made x f.2) (whole, known)

names_some : (kind : Const → Bool) (cs : List Const) (i : ℕ) → names kind cs i ≡ true → 0 < length cs
names_some kind [] i h = absurd cc
names_some kind (c ∷ cs) i h = omega arith

implied : (a b : Bool) → (a ≡ true → b ≡ true) → (not a || b) ≡ true
implied true b f = f refl
implied false b f = refl

either : (a b c : Bool) → (a ≡ true → c ≡ true) → (b ≡ true → c ≡ true) → (a || b) ≡ true → c ≡ true
either true b c f g e = f refl
either false b c f g e = g e

-- what stands one after the other, to the end
spelled_is : (bytes r0 r1 r2 r3 r4 r5 h p d nf f nm m a : List ℕ) → Takes bytes h r0 → Takes r0 p r1 → Takes r1 d r2 → Takes r2 (nf ++ f) r3 → Takes r3 (nm ++ m) r4 → Takes r4 a r5 → length r5 ≡ 0 → bytes ≡ h ++ p ++ d ++ nf ++ f ++ nm ++ m ++ a
spelled_is bytes r0 r1 r2 r3 r4 r5 h p d nf f nm m a th tp td tf tm ta end =
    let e1 = Takes-then bytes h r0 p r1 th tp in
    let e2 = Takes-then bytes (h ++ p) r1 d r2 e1 td in
    let e3 = Takes-then bytes (h ++ p ++ d) r2 (nf ++ f) r3 e2 tf in
    let e4 = Takes-then bytes (h ++ p ++ d ++ (nf ++ f)) r3 (nm ++ m) r4 e3 tm in
    let e5 = Takes-then bytes (h ++ p ++ d ++ (nf ++ f) ++ (nm ++ m)) r4 a r5 e4 ta in
    let nothing : r5 ≡ [] = nil_from_length r5 end in
    let one : h ++ p ++ d ++ (nf ++ f) ≡ h ++ p ++ d ++ nf ++ f = sym (append_assoc (h ++ p ++ d) nf f) in
    let two : h ++ p ++ d ++ (nf ++ f) ++ (nm ++ m) ≡ h ++ p ++ d ++ nf ++ f ++ nm ++ m = ap (λ (t : List ℕ). t ++ (nm ++ m)) one ∙ sym (append_assoc (h ++ p ++ d ++ nf ++ f) nm m) in
    e5.parts ∙ ap (λ (r : List ℕ). h ++ p ++ d ++ (nf ++ f) ++ (nm ++ m) ++ a ++ r) nothing ∙ append-nil (h ++ p ++ d ++ (nf ++ f) ++ (nm ++ m) ++ a) ∙ ap (λ (t : List ℕ). t ++ a) two

well_is : (cs : List Const) (d : Declared) (fields methods : List MemberInfo) (attributes : List Attribute) (f m : List ℕ) → IsPool cs → IsDeclared cs d → ltb (length fields) 65536 ≡ true → AreMembers cs fields f → ltb (length methods) 65536 ≡ true → AreMembers cs methods m → attributes_fit cs 0 attributes ≡ true → WellFormed (file_of cs d fields methods attributes)
well_is cs d fields methods attributes f m pool declared fc fs mc ms as_fit = record {
  count = lt-ltb _ _ pool.count;
  spaced = pool.spaced (names_some is_class cs d.this_class declared.this_class);
  texts = pool.texts;
  indices = pool.indices;
  this_class = declared.this_class;
  super_class = declared.super_class;
  interface_count = declared.count;
  interfaces = declared.interfaces;
  field_count = fc;
  fields = fs.fits;
  method_count = mc;
  methods = ms.fits;
  attributes = as_fit;
  code_name = implied (list_any has_code fields || list_any has_code methods) (list_any is_code_text cs) (either (list_any has_code fields) (list_any has_code methods) (list_any is_code_text cs) fs.named ms.named);
}

file_is : (bytes r0 r1 r2 r3 r4 r5 : List ℕ) (cs : List Const) (d : Declared) (fields methods : List MemberInfo) (attributes : List Attribute) → IsBytes bytes → head_at bytes ≡ Ok r0 → pool_at r0 ≡ Ok (cs, r1) → declared_at cs r1 ≡ Ok (d, r2) → members_at cs r2 ≡ Ok (fields, r3) → members_at cs r3 ≡ Ok (methods, r4) → attributes_at file_edge cs r4 ≡ Ok (attributes, r5) → length r5 ≡ 0 → WellFormed (file_of cs d fields methods attributes) × Encodes (file_of cs d fields methods attributes) bytes
unfolding class_file_bytes declared_bytes declared_text
file_is bytes r0 r1 r2 r3 r4 r5 cs d fields methods attributes fits ea eb ec ed ef eg end =
    let ta = head_takes bytes r0 fits ea in
    let tb = pool_takes r0 (cs, r1) ta.rest_fits eb in
    let tc = declared_takes cs r1 (d, r2) tb.0.rest_fits ec in
    let td = members_take cs r2 (fields, r3) tc.0.rest_fits ed in
    let tf = members_take cs r3 (methods, r4) td.1.rest_fits ef in
    let tg = attributes_take file_edge cs r4 (attributes, r5) tf.1.rest_fits eg in (
      well_is cs d fields methods attributes td.0 tf.0 tb.1 tc.1 td.2 td.3 tf.2 tf.3 tg.1,
      record {
        field_bytes = td.0;
        method_bytes = tf.0;
        fields = td.3.encodes;
        methods = tf.3.encodes;
        spelled = spelled_is bytes r0 r1 r2 r3 r4 r5 head_bytes (pool_bytes cs) (declared_text d) (u2 (length fields)) td.0 (u2 (length methods)) tf.0 (attribute_list_bytes attributes) ta tb.0 tc.0 td.1 tf.1 tg.0 end;
        numbers = All-from_recursion NumberInRange cs tb.1.numbers;
        flags = tc.1.flags;
      },
    )

-- the steps of reading that are left, one less each time
abbrev ended : List Const → Declared → List MemberInfo → List MemberInfo → List Attribute × List ℕ → Result ClassFile Defect
ended cs d fields methods attributes = cond (eqb (length attributes.1) 0) (Ok (file_of cs d fields methods attributes.0)) (Err (fault kinds.Trailing attributes.1))

abbrev from_methods : List Const → Declared → List MemberInfo → List MemberInfo × List ℕ → Result ClassFile Defect
from_methods cs d fields methods = attributes_at file_edge cs methods.1 >>= ended cs d fields methods.0

abbrev from_fields : List Const → Declared → List MemberInfo × List ℕ → Result ClassFile Defect
from_fields cs d fields = members_at cs fields.1 >>= from_methods cs d fields.0

abbrev from_declared : List Const → Declared × List ℕ → Result ClassFile Defect
from_declared cs d = members_at cs d.1 >>= from_fields cs d.0

abbrev from_pool : List Const × List ℕ → Result ClassFile Defect
from_pool pool = declared_at pool.0 pool.1 >>= from_declared pool.0

abbrev from_head : List ℕ → Result ClassFile Defect
from_head rest = pool_at rest >>= from_pool

IsIt : List ℕ → ClassFile → Type 0
IsIt bytes x = WellFormed x × Encodes x bytes

methods_done : (bytes r0 r1 r2 r3 r4 : List ℕ) (cs : List Const) (d : Declared) (fields methods : List MemberInfo) (x : ClassFile) → IsBytes bytes → head_at bytes ≡ Ok r0 → pool_at r0 ≡ Ok (cs, r1) → declared_at cs r1 ≡ Ok (d, r2) → members_at cs r2 ≡ Ok (fields, r3) → members_at cs r3 ≡ Ok (methods, r4) → from_methods cs d fields (methods, r4) ≡ Ok x → IsIt bytes x
unfolding IsIt
methods_done bytes r0 r1 r2 r3 r4 cs d fields methods x fits ea eb ec ed ef e =
    let a = bind_ok (attributes_at file_edge cs r4) (ended cs d fields methods) x e in
    let h = guard_then (eqb (length a.0.1) 0) (fault kinds.Trailing a.0.1) (Ok (file_of cs d fields methods a.0.0)) x a.2 in
    let it = file_is bytes r0 r1 r2 r3 r4 a.0.1 cs d fields methods a.0.0 fits ea eb ec ed ef a.1 (eqb-true _ _ h.0) in
    subst (λ (y : ClassFile). WellFormed y × Encodes y bytes) (ok_is (file_of cs d fields methods a.0.0) x h.1) it

fields_done : (bytes r0 r1 r2 r3 : List ℕ) (cs : List Const) (d : Declared) (fields : List MemberInfo) (x : ClassFile) → IsBytes bytes → head_at bytes ≡ Ok r0 → pool_at r0 ≡ Ok (cs, r1) → declared_at cs r1 ≡ Ok (d, r2) → members_at cs r2 ≡ Ok (fields, r3) → from_fields cs d (fields, r3) ≡ Ok x → IsIt bytes x
fields_done bytes r0 r1 r2 r3 cs d fields x fits ea eb ec ed e =
    let a = bind_ok (members_at cs r3) (from_methods cs d fields) x e in
    methods_done bytes r0 r1 r2 r3 a.0.1 cs d fields a.0.0 x fits ea eb ec ed a.1 a.2

declared_done : (bytes r0 r1 r2 : List ℕ) (cs : List Const) (d : Declared) (x : ClassFile) → IsBytes bytes → head_at bytes ≡ Ok r0 → pool_at r0 ≡ Ok (cs, r1) → declared_at cs r1 ≡ Ok (d, r2) → from_declared cs (d, r2) ≡ Ok x → IsIt bytes x
declared_done bytes r0 r1 r2 cs d x fits ea eb ec e =
    let a = bind_ok (members_at cs r2) (from_fields cs d) x e in
    fields_done bytes r0 r1 r2 a.0.1 cs d a.0.0 x fits ea eb ec a.1 a.2

pool_done : (bytes r0 r1 : List ℕ) (cs : List Const) (x : ClassFile) → IsBytes bytes → head_at bytes ≡ Ok r0 → pool_at r0 ≡ Ok (cs, r1) → from_pool (cs, r1) ≡ Ok x → IsIt bytes x
pool_done bytes r0 r1 cs x fits ea eb e =
    let a = bind_ok (declared_at cs r1) (from_declared cs) x e in
    declared_done bytes r0 r1 a.0.1 cs a.0.0 x fits ea eb a.1 a.2

file_takes : (bytes : List ℕ) (x : ClassFile) → IsBytes bytes → file_at bytes ≡ Ok x → IsIt bytes x
unfolding file_at
file_takes bytes x fits e =
    let a = bind_ok (head_at bytes) from_head x e in
    let b = bind_ok (pool_at a.0) from_pool x a.2 in
    pool_done bytes a.0 b.0.1 b.0.0 x fits a.1 b.1 b.2

offset_ok : (n : ℕ) (r : Result ClassFile Defect) (file : ClassFile) → at_offset n r ≡ Ok file → r ≡ Ok file
offset_ok n (Ok f) file e = cc
offset_ok n (Err d) file e = absurd cc

byte_at : (bytes : List ℕ) (i : ℕ) → All (λ b. b < 256) bytes → get_or bytes i 0 < 256
byte_at bytes i fit =
    elim (cases_lt i (length bytes)) [
      | inl lt ↦ All-get_or (λ b. b < 256) bytes i 0 lt fit
      | inr le ↦ rw (get_or_past bytes i 0 le) (omega arith)
    ]

pub is_encoded : (bytes : List ℕ) (file : ClassFile) → All (λ b. b < 256) bytes → class_of bytes ≡ Ok file → WellFormed file × Encodes file bytes
unfolding class_of IsIt
is_encoded bytes file fit read = file_takes bytes file (λ i. byte_at bytes i fit) (offset_ok (length bytes) (file_at bytes) file read)

pub is_found : (bytes : List ℕ) (r : Result ClassFile ClassErr) → IsBytes bytes → Answers r (class_of bytes) → IfOk r (λ file. WellFormed file × Encodes file bytes)
unfolding class_of IsIt
is_found bytes (Ok file) fits given = file_takes bytes file fits (offset_ok (length bytes) (file_at bytes) file given)
is_found bytes (Err e) fits given = tt

-- ---- what stands there is read again

three : (a b c d : List ℕ) → a ++ b ++ c ++ d ≡ a ++ (b ++ (c ++ d))
three a b c d = append_assoc (a ++ b) c d ∙ append_assoc a b (c ++ d)

version_again : (rest : List ℕ) → version_at (u2 0 ++ (u2 48 ++ rest)) ≡ Ok rest
unfolding version_at
version_again rest = rw (u2_again file_edge 0 (u2 48 ++ rest) (omega arith) (omega arith), u2_again file_edge 48 rest (omega arith) (omega arith)) refl

head_again : (rest : List ℕ) → head_at (head_bytes ++ rest) ≡ Ok rest
unfolding head_at head_bytes
head_again rest =
    ap head_at (three (u4 3405691582) (u2 0) (u2 48) rest) ∙ rw (u4_again file_edge 3405691582 (u2 0 ++ (u2 48 ++ rest)) (omega arith) (omega arith)) (version_again rest)

zero_or : (i : ℕ) (b : Bool) (m : ℕ) → (b ≡ true → i < m) → 0 < m → (eqb i 0 || b) ≡ true → i < m
zero_or zero b m f some h = some
zero_or (suc i) true m f some h = f refl
zero_or (suc i) false m f some h = let k = rw (never_zero i) at h in absurd cc

five : (a b c d e r : List ℕ) → a ++ b ++ c ++ d ++ e ++ r ≡ a ++ (b ++ (c ++ (d ++ (e ++ r))))
five a b c d e r = simp append_assoc

declared_again : (cs : List Const) (d : Declared) (rest : List ℕ) → length cs < 65536 → IsDeclared cs d → declared_at cs (declared_text d ++ rest) ≡ Ok (d, rest)
unfolding declared_at declared_text
declared_again cs d rest few is =
    let list = flat_map u2 d.interfaces in
    ap (declared_at cs) (five (u2 d.flags) (u2 d.this_class) (u2 d.super_class) (u2 (length d.interfaces)) list rest)
    ∙ rw (
      u2_again file_edge d.flags (u2 d.this_class ++ (u2 d.super_class ++ (u2 (length d.interfaces) ++ (list ++ rest)))) is.flags (omega arith),
      index_again file_edge (names is_class cs) d.this_class (u2 d.super_class ++ (u2 (length d.interfaces) ++ (list ++ rest))) is.this_class (index_small is_class cs d.this_class few is.this_class) (omega arith),
      index_again file_edge (is_super_class cs) d.super_class (u2 (length d.interfaces) ++ (list ++ rest)) is.super_class (zero_or d.super_class (names is_class cs d.super_class) 65536 (index_small is_class cs d.super_class few) (omega arith) is.super_class) (omega arith),
      u2_again file_edge (length d.interfaces) (list ++ rest) (ltb-true (length d.interfaces) 65536 is.count) (omega arith),
      many_again file_edge (index_at file_edge (names is_class cs)) u2 (names is_class cs) (λ i after right room. index_again file_edge (names is_class cs) i after right (index_small is_class cs i few right) room) d.interfaces rest is.interfaces (omega arith),
    ) refl

eight : (h p d nf f nm m a : List ℕ) → h ++ p ++ d ++ nf ++ f ++ nm ++ m ++ a ≡ h ++ (p ++ (d ++ (nf ++ (f ++ (nm ++ (m ++ (a ++ [])))))))
eight h p d nf f nm m a = simp (append_assoc, append-nil)

declared_of : ClassFile → Declared
declared_of file = record { flags = file.flags; this_class = file.this_class; super_class = file.super_class; interfaces = file.interfaces }

file_again : (file : ClassFile) (f m : List ℕ) → WellFormed file → EncodesMembers file.constants file.fields f → EncodesMembers file.constants file.methods m → AllByRecursion NumberInRange file.constants → file.flags < 65536 → file_at (class_file_bytes file f m) ≡ Ok file
unfolding file_at class_file_bytes declared_bytes declared_text declared_of
file_again file f m w fields methods numbers flags =
    let cs = file.constants in
    let few = ltb-true (length cs) 65536 w.count in
    let d = declared_of file in
    let is : IsDeclared cs d = record { flags = flags; this_class = w.this_class; super_class = w.super_class; count = w.interface_count; interfaces = w.interfaces } in
    let r6 = attribute_list_bytes file.attributes ++ [] in
    let r5 = m ++ r6 in
    let r4 = u2 (length file.methods) ++ r5 in
    let r3 = f ++ r4 in
    let r2 = u2 (length file.fields) ++ r3 in
    let r1 = declared_text d ++ r2 in
    ap file_at (eight head_bytes (pool_bytes cs) (declared_text d) (u2 (length file.fields)) f (u2 (length file.methods)) m (attribute_list_bytes file.attributes))
    ∙ rw (
      head_again (pool_bytes cs ++ r1),
      pool_again cs r1 few w.indices w.texts numbers w.spaced,
      declared_again cs d r2 few is,
      members_again cs file.fields f r4 few w.field_count w.fields fields,
      members_again cs file.methods m r6 few w.method_count w.methods methods,
      attributes_again file_edge cs file.attributes [] few w.attributes (omega arith),
    ) refl

pub reads_back : (bytes : List ℕ) (file : ClassFile) → WellFormed file → Encodes file bytes → class_of bytes ≡ Ok file
unfolding class_of
reads_back bytes file w e =
    let read : file_at bytes ≡ Ok file = ap file_at e.spelled ∙ file_again file e.field_bytes e.method_bytes w e.fields e.methods (recursion_from_All NumberInRange file.constants e.numbers) e.flags in
    ap (at_offset (length bytes)) read

pub is_only : (bytes : List ℕ) (r : Result ClassFile ClassErr) → Answers r (class_of bytes) → (file : ClassFile) → WellFormed file → Encodes file bytes → Answers r (Ok file)
is_only bytes r given file w e = subst (Answers r) (reads_back bytes file w e) given
