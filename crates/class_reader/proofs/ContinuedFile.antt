-- A whole class file, where more bytes stand behind, and the laws that follow.
use Rattle.std.proofs.Common.{◌≡◌, ◌≢◌, ℕ, ◌+◌, ◌-◌, ◌<◌, ◌≤◌, ◌&&◌, cond, eqb, List, [], ◌∷◌, ◌++◌, length, Result, Ok, Err, refl, sym, ap, subst, ◌∙◌, arith, inl, inr, ◌⊎◌, length-append}
use Rattle.std.proofs.lemmas.List.{append-nil}
use Rattle.class_form.specs.declared.constant.Const.{Const}
use Rattle.class_form.specs.declared.class_file.ClassFile.{ClassFile}
use Rattle.class_form.specs.WellFormed.{names, is_class, is_super_class}
use Rattle.class_reader.specs.declared.fault.ClassKind.{ClassKind}
use Rattle.class_reader.specs.declared.fault.ClassKind.TheVariants as kinds
use Rattle.class_reader.specs.declared.fault.ClassFault.{ClassFault}
use Rattle.class_reader.specs.declared.fault.Defect.{Defect}
use Rattle.class_reader.specs.Fields.{◌>>=◌, fault, file_edge, u2_at, u4_at, index_at, many_at}
use Rattle.class_reader.specs.Reading.{at_offset, class_of, file_at, file_of, head_at, version_at, declared_at, pool_at, members_at, attributes_at}
use Rattle.class_reader.specs.Laws.{FaultsStay, PlacesAreWithin, FaultsHaveAByte, TruncatedIsTheEnd, FilesEnd, CutsAreTruncated, FaultsComeFirst, EncodingsAreRead, FaultsAreFinal}
use Rattle.class_reader.proofs.PoolLaws.{never_zero}
use Rattle.class_reader.proofs.FileLaws.{reads_back}
use Rattle.class_reader.proofs.Continued.{Goes, then, with_more, Reads, next, fails, choose, end, grown, IsPlaced, file_later, u2_goes, u4_goes, index_goes, many_goes}
use Rattle.class_reader.proofs.ContinuedPool.{pool_goes}
use Rattle.class_reader.proofs.ContinuedParts.{Leaves, attributes_go, members_go}

version_goes : (more : List ℕ) (lim : ℕ) (bytes : List ℕ) → length bytes ≤ lim → Leaves more lim 0 bytes (version_at bytes) (version_at (bytes ++ more))
unfolding version_at
version_goes more lim bytes le =
    then more lim (with_more more) (λ rest. rest ++ more) (λ x. 2 + length x.1 ≤ length bytes) (λ rest. 0 + length rest ≤ length bytes) (u2_at file_edge bytes) (u2_at file_edge (bytes ++ more)) _ _ (u2_goes more lim file_edge file_edge bytes (file_later more lim))
    (λ x less. then more lim (with_more more) (λ rest. rest ++ more) (λ y. 2 + length y.1 ≤ length x.1) (λ rest. 0 + length rest ≤ length bytes) (u2_at file_edge x.1) (u2_at file_edge (x.1 ++ more)) _ _ (u2_goes more lim file_edge file_edge x.1 (file_later more lim))
    (λ y less'. choose more lim (λ rest. rest ++ more) (λ rest. 0 + length rest ≤ length bytes) (eqb x.0 0 && eqb y.0 48) (Ok y.1) (Ok (y.1 ++ more)) (Err (fault kinds.Version bytes)) (Err (fault kinds.Version (bytes ++ more))) (refl, omega arith)
    (fails more lim (λ rest. rest ++ more) (λ rest. 0 + length rest ≤ length bytes) kinds.Version bytes (λ is. cc) (omega arith) le)))

leaves_less : (more : List ℕ) (lim : ℕ) (bytes rest : List ℕ) (r r' : Result (List ℕ) Defect) → length rest ≤ length bytes → Leaves more lim 0 rest r r' → Leaves more lim 0 bytes r r'
leaves_less more lim bytes rest (Ok x) r' le g = let le' = g.1 in (g.0, omega arith)
leaves_less more lim bytes rest (Err d) r' le g = g

head_goes : (more : List ℕ) (lim : ℕ) (bytes : List ℕ) → length bytes ≤ lim → Leaves more lim 0 bytes (head_at bytes) (head_at (bytes ++ more))
unfolding head_at
head_goes more lim bytes le =
    then more lim (with_more more) (λ rest. rest ++ more) (λ x. 4 + length x.1 ≤ length bytes) (λ rest. 0 + length rest ≤ length bytes) (u4_at file_edge bytes) (u4_at file_edge (bytes ++ more)) _ _ (u4_goes more lim file_edge file_edge bytes (file_later more lim))
    (λ x less. choose more lim (λ rest. rest ++ more) (λ rest. 0 + length rest ≤ length bytes) (eqb x.0 3405691582) (version_at x.1) (version_at (x.1 ++ more)) (Err (fault kinds.Magic bytes)) (Err (fault kinds.Magic (bytes ++ more))) (leaves_less more lim bytes x.1 (version_at x.1) (version_at (x.1 ++ more)) (omega arith) (version_goes more lim x.1 (omega arith)))
    (fails more lim (λ rest. rest ++ more) (λ rest. 0 + length rest ≤ length bytes) kinds.Magic bytes (λ is. cc) (omega arith) le))

declared_goes : (more : List ℕ) (lim : ℕ) (cs : List Const) (bytes : List ℕ) → length bytes ≤ lim → Reads more lim 2 bytes (declared_at cs bytes) (declared_at cs (bytes ++ more))
unfolding declared_at
declared_goes more lim cs bytes le =
    let file = file_later more lim in
    next more lim 2 2 bytes (u2_at file_edge bytes) (u2_at file_edge (bytes ++ more)) _ _ (u2_goes more lim file_edge file_edge bytes file)
    (λ x less. next more lim 2 2 x.1 (index_at file_edge (names is_class cs) x.1) (index_at file_edge (names is_class cs) (x.1 ++ more)) _ _ (index_goes more lim file_edge file_edge (names is_class cs) x.1 (omega arith) file)
    (λ y less1. next more lim 2 2 y.1 (index_at file_edge (is_super_class cs) y.1) (index_at file_edge (is_super_class cs) (y.1 ++ more)) _ _ (index_goes more lim file_edge file_edge (is_super_class cs) y.1 (omega arith) file)
    (λ z less2. next more lim 2 0 z.1 (u2_at file_edge z.1) (u2_at file_edge (z.1 ++ more)) _ _ (u2_goes more lim file_edge file_edge z.1 file)
    (λ v less3. next more lim 0 0 v.1 (many_at (index_at file_edge (names is_class cs)) v.0 v.1) (many_at (index_at file_edge (names is_class cs)) v.0 (v.1 ++ more)) _ _ (many_goes more lim 2 (index_at file_edge (names is_class cs)) (index_at file_edge (names is_class cs)) (λ rest few. index_goes more lim file_edge file_edge (names is_class cs) rest few file) v.0 v.1 (omega arith))
    (λ w less4. (refl, omega arith))))))

-- ---- the file

-- a file ends where it ends; a fault stays, unless it is the end
abbrev FileGoes : List ℕ → ℕ → Result ClassFile Defect → Result ClassFile Defect → Type 0
FileGoes more lim (Ok file) r = 0 < length more → r ≡ Err (fault kinds.Trailing more)
FileGoes more lim (Err d) r = (d ≡ end) ⊎ (IsPlaced lim d × (r ≡ Err (grown more d)))

step : {A : Type 0} (more : List ℕ) (lim : ℕ) (grow : A → A) (Right : A → Type 0) (r r' : Result A Defect) (f f' : A → Result ClassFile Defect) → Goes more lim grow Right r r' → ((x : A) → Right x → FileGoes more lim (f x) (f' (grow x))) → FileGoes more lim (r >>= f) (r' >>= f')
step more lim grow Right (Ok x) r' f f' g h = rw g.0 (h x g.1)
step more lim grow Right (Err d) r' f f' (inl e) h = inl e
step more lim grow Right (Err d) r' f f' (inr p) h = inr (p.0, rw p.1 refl)

-- the end of a file
abbrev ended : ClassFile → List ℕ → Result ClassFile Defect
ended file rest = cond (eqb (length rest) 0) (Ok file) (Err (fault kinds.Trailing rest))

not_ended : (file : ClassFile) (rest : List ℕ) → 0 < length rest → ended file rest ≡ Err (fault kinds.Trailing rest)
not_ended file [] some = absurd (omega (arith, some))
not_ended file (b ∷ rest) some = rw (never_zero (length rest)) refl

end_goes : (more : List ℕ) (lim : ℕ) (file : ClassFile) (rest : List ℕ) → length rest ≤ lim → FileGoes more lim (ended file rest) (ended file (rest ++ more))
end_goes more lim file [] le = λ some. not_ended file more some
end_goes more lim file (b ∷ rest) le =
    let wrong : ended file (b ∷ rest) ≡ Err (fault kinds.Trailing (b ∷ rest)) = not_ended file (b ∷ rest) (omega arith) in
    let longer : ended file (b ∷ rest ++ more) ≡ Err (fault kinds.Trailing (b ∷ rest ++ more)) = not_ended file (b ∷ rest ++ more) (omega arith) in
    let moved : ended file (b ∷ rest ++ more) ≡ Err (grown more (fault kinds.Trailing (b ∷ rest))) = longer ∙ ap (λ (n : ℕ). Err (record { kind = kinds.Trailing; left = n })) (length-append (b ∷ rest) more) in
    subst (λ (r : Result ClassFile Defect). FileGoes more lim r (ended file (b ∷ rest ++ more))) (sym wrong) (inr (record { kind = λ is. cc; some = omega arith; within = le }, moved))

file_goes : (more bytes : List ℕ) → FileGoes more (length bytes) (file_at bytes) (file_at (bytes ++ more))
unfolding file_at
file_goes more bytes =
    let lim = length bytes in
    step more lim (λ rest. rest ++ more) (λ rest. 0 + length rest ≤ length bytes) (head_at bytes) (head_at (bytes ++ more)) _ _ (head_goes more lim bytes (omega arith))
    (λ rest less. step more lim (with_more more) (λ x. 2 + length x.1 ≤ length rest) (pool_at rest) (pool_at (rest ++ more)) _ _ (pool_goes more lim rest (omega arith))
    (λ x less1. step more lim (with_more more) (λ y. 2 + length y.1 ≤ length x.1) (declared_at x.0 x.1) (declared_at x.0 (x.1 ++ more)) _ _ (declared_goes more lim x.0 x.1 (omega arith))
    (λ y less2. step more lim (with_more more) (λ z. 2 + length z.1 ≤ length y.1) (members_at x.0 y.1) (members_at x.0 (y.1 ++ more)) _ _ (members_go more lim x.0 y.1 (omega arith))
    (λ z less3. step more lim (with_more more) (λ v. 2 + length v.1 ≤ length z.1) (members_at x.0 z.1) (members_at x.0 (z.1 ++ more)) _ _ (members_go more lim x.0 z.1 (omega arith))
    (λ v less4. step more lim (with_more more) (λ w. 2 + length w.1 ≤ length v.1) (attributes_at file_edge x.0 v.1) (attributes_at file_edge x.0 (v.1 ++ more)) _ _ (attributes_go more lim file_edge file_edge x.0 v.1 (omega arith) (file_later more lim))
    (λ w less5. end_goes more lim (file_of x.0 y.0 z.0 v.0 w.0) w.1 (omega arith)))))))

-- ---- the laws

stays : (n m : ℕ) (more : List ℕ) (r r' : Result ClassFile Defect) (f : ClassFault) → m ≡ n + length more → FileGoes more n r r' → at_offset n r ≡ Err f → f.kind ≢ kinds.Truncated → at_offset m r' ≡ Err f
stays n m more (Ok file) r' f sum g e wrong = absurd cc
stays n m more (Err d) r' f sum (inl is) e wrong =
    let same : d.kind ≡ f.kind = cc in
    let cut : d.kind ≡ kinds.Truncated = ap (λ (x : Defect). x.kind) is in
    absurd (wrong (sym same ∙ cut))
stays n m more (Err d) r' f sum (inr p) e wrong =
    let place : m - (d.left + length more) ≡ n - d.left = omega (arith, sum) in
    rw p.1 (ap (λ (o : ℕ). Err (record { offset = o; kind = d.kind })) place ∙ e)

pub faults_stay : FaultsStay
unfolding class_of
faults_stay bytes more f e wrong = stays (length bytes) (length (bytes ++ more)) more (file_at bytes) (file_at (bytes ++ more)) f (length-append bytes more) (file_goes more bytes) e wrong

has_a_byte : (n : ℕ) (r r' : Result ClassFile Defect) (f : ClassFault) → FileGoes [] n r r' → at_offset n r ≡ Err f → f.kind ≢ kinds.Truncated → f.offset < n
has_a_byte n (Ok file) r' f g e wrong = absurd cc
has_a_byte n (Err d) r' f (inl is) e wrong =
    let same : d.kind ≡ f.kind = cc in
    let cut : d.kind ≡ kinds.Truncated = ap (λ (x : Defect). x.kind) is in
    absurd (wrong (sym same ∙ cut))
has_a_byte n (Err d) r' f (inr p) e wrong =
    let same : n - d.left ≡ f.offset = cc in
    let placed = p.0 in
    omega (arith, same, placed.some, placed.within)

is_within : (n : ℕ) (r r' : Result ClassFile Defect) (d : Defect) → FileGoes [] n r r' → r ≡ Err d → d.left ≤ n
is_within n (Ok file) r' d g e = absurd cc
is_within n (Err x) r' d (inl is) e =
    let same : x ≡ d = cc in
    let none : d.left ≡ 0 = ap (λ (y : Defect). y.left) (sym same ∙ is) in
    omega (arith, none)
is_within n (Err x) r' d (inr p) e =
    let same : x.left ≡ d.left = cc in
    let placed = p.0 in
    omega (arith, same, placed.within)

pub places_are_within : PlacesAreWithin
places_are_within bytes d e = is_within (length bytes) (file_at bytes) (file_at (bytes ++ [])) d (file_goes [] bytes) e

pub faults_have_a_byte : FaultsHaveAByte
unfolding class_of
faults_have_a_byte bytes f e wrong = has_a_byte (length bytes) (file_at bytes) (file_at (bytes ++ [])) f (file_goes [] bytes) e wrong

is_the_end : (n : ℕ) (r r' : Result ClassFile Defect) (f : ClassFault) → FileGoes [] n r r' → at_offset n r ≡ Err f → f.kind ≡ kinds.Truncated → f.offset ≡ n
is_the_end n (Ok file) r' f g e cut = absurd cc
is_the_end n (Err d) r' f (inl is) e cut =
    let same : n - d.left ≡ f.offset = cc in
    let none : d.left ≡ 0 = ap (λ (x : Defect). x.left) is in
    omega (arith, same, none)
is_the_end n (Err d) r' f (inr p) e cut =
    let same : d.kind ≡ f.kind = cc in
    absurd (p.0.kind (same ∙ cut))

pub truncated_is_the_end : TruncatedIsTheEnd
unfolding class_of
truncated_is_the_end bytes f e cut = is_the_end (length bytes) (file_at bytes) (file_at (bytes ++ [])) f (file_goes [] bytes) e cut

ends_there : (n m : ℕ) (more : List ℕ) (r r' : Result ClassFile Defect) (file : ClassFile) → m ≡ n + length more → 0 < length more → FileGoes more n r r' → at_offset n r ≡ Ok file → at_offset m r' ≡ Err (record { offset = n; kind = kinds.Trailing })
ends_there n m more (Ok x) r' file sum some g e =
    let place : m - length more ≡ n = omega (arith, sum) in
    rw (g some) (ap (λ (o : ℕ). Err (record { offset = o; kind = kinds.Trailing })) place)
ends_there n m more (Err d) r' file sum some g e = absurd cc

pub files_end : FilesEnd
unfolding class_of
files_end bytes b more file e = ends_there (length bytes) (length (bytes ++ b ∷ more)) (b ∷ more) (file_at bytes) (file_at (bytes ++ b ∷ more)) file (length-append bytes (b ∷ more)) (omega arith) (file_goes (b ∷ more) bytes) e

-- a fault at the end of the bytes, or not
kind_cases : (k : ClassKind) → (k ≡ kinds.Truncated) ⊎ (k ≢ kinds.Truncated)
kind_cases kinds.Truncated = inl refl
kind_cases _ = inr (λ is. cc)

cut_at : (bytes : List ℕ) (f : ClassFault) → class_of bytes ≡ Err f → f.kind ≡ kinds.Truncated → class_of bytes ≡ Err (record { offset = length bytes; kind = kinds.Truncated })
cut_at bytes f e cut =
    let place : f.offset ≡ length bytes = truncated_is_the_end bytes f e cut in
    e ∙ ap (λ (o : ℕ). Err (record { offset = o; kind = f.kind })) place ∙ ap (λ (k : ClassKind). Err (record { offset = length bytes; kind = k })) cut

-- a front of bytes is a file, is cut, or has the fault of all of them
front_cases : (front : List ℕ) (b : ℕ) (back : List ℕ) (r : Result ClassFile ClassFault) → class_of front ≡ r
    → (class_of front ≡ Err (record { offset = length front; kind = kinds.Truncated })) ⊎ ((f : ClassFault) × (class_of (front ++ b ∷ back) ≡ Err f) × (f.offset ≤ length front))
front_cases front b back (Ok file) e = inr (record { offset = length front; kind = kinds.Trailing }, files_end front b back file e, omega arith)
front_cases front b back (Err f) e =
    elim (kind_cases f.kind) [
      | inl cut ↦ inl (cut_at front f e cut)
      | inr wrong ↦ let lt = faults_have_a_byte front f e wrong in inr (f, faults_stay front (b ∷ back) f e wrong, omega (arith, lt))
    ]

pub cuts_are_truncated : CutsAreTruncated
cuts_are_truncated front b back file e =
    elim (front_cases front b back (class_of front) refl) [
      | inl cut ↦ cut
      | inr h ↦ let other = h.1 in absurd cc
    ]

pub faults_come_first : FaultsComeFirst
faults_come_first front [] f e lt =
    let here : class_of front ≡ Err f = ap class_of (sym (append-nil front)) ∙ e in
    elim (kind_cases f.kind) [
      | inl cut ↦ let place = truncated_is_the_end front f here cut in absurd (omega (arith, place, lt))
      | inr wrong ↦ let within = faults_have_a_byte front f here wrong in absurd (omega (arith, within, lt))
    ]
faults_come_first front (b ∷ back) f e lt =
    elim (front_cases front b back (class_of front) refl) [
      | inl cut ↦ cut
      | inr h ↦
          let other = h.1 in
          let same : h.0.offset ≡ f.offset = cc in
          let le = h.2 in
          absurd (omega (arith, same, le, lt))
    ]

pub encodings_are_read : EncodingsAreRead
encodings_are_read = reads_back

pub faults_are_final : FaultsAreFinal
faults_are_final bytes f e wrong more file w encodes =
    let stays = faults_stay bytes more f e wrong in
    let read = reads_back (bytes ++ more) file w encodes in
    cc
