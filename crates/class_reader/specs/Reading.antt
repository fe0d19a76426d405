-- Reading a class file from the first byte on, with the first fault that is met.
use Rattle.std.specs.Prelude.{◌≡◌, ℕ, zero, suc, ◌+◌, ◌-◌, Bool, true, false, ◌&&◌, List, [], ◌∷◌, ◌++◌, length, take, drop, Option, Some, None, Result, Ok, Err, nat_lt, nat_le, ◌==◌, if◌then◌else◌}
use Rattle.std.specs.List.{prefix_len}
use Rattle.std.specs.Int.{w32, w64, cast_signed}
use Rattle.class_form.specs.declared.constant.Const.{Const}
use Rattle.class_form.specs.declared.constant.Const.TheVariants.{Unused, Utf8, Integer, Float, Long, Double, Class, Text, Fieldref, Methodref, InterfaceMethodref, NameAndType}
use Rattle.class_form.specs.declared.class_file.ClassFile.{ClassFile}
use Rattle.class_form.specs.declared.member.Attribute.{Attribute}
use Rattle.class_form.specs.declared.member.Code.{Code}
use Rattle.class_form.specs.declared.member.MemberInfo.{MemberInfo}
use Rattle.class_form.specs.WellFormed.{names, is_utf8, is_class, is_name_and_type, is_code_text, is_wide, is_text_byte, constant_size, is_super_class}
use Rattle.class_reader.specs.declared.fault.ClassKind.TheVariants as kinds
use Rattle.class_reader.specs.declared.fault.ClassFault.{ClassFault}
use Rattle.class_reader.specs.declared.fault.ClassErr.{ClassErr}
use Rattle.class_reader.specs.declared.fault.ClassErr.TheVariants as errors
use Rattle.class_reader.specs.declared.fault.Defect.{Defect}
use Rattle.class_reader.specs.declared.fields.Edge.{Edge}
use Rattle.class_reader.specs.declared.members.Held.{Held}
use Rattle.class_reader.specs.declared.reader.Declared.{Declared}
use Rattle.class_reader.specs.Fields.{◌>>=◌, fault, file_edge, u2_at, u4_at, u8_at, run_at, index_at, many_at}

-- ---- the constants (4.4)

-- the bytes of a text; a wrong byte comes before the end behind it
abbrev pub text_run : ℕ → List ℕ → Result (List ℕ × List ℕ) Defect
text_run count bytes =
    if nat_lt (prefix_len is_text_byte (take count bytes)) (length (take count bytes))
    then Err (fault kinds.Utf8 (drop (prefix_len is_text_byte (take count bytes)) bytes))
    else run_at file_edge count bytes

unfoldable pub text_at : List ℕ → Result (List ℕ × List ℕ) Defect
text_at bytes = do
  count ← u2_at file_edge bytes
  text_run count.0 count.1

-- a constant of one number
abbrev pub numbered : (ℕ → Const) → Result (ℕ × List ℕ) Defect → Result (Const × List ℕ) Defect
numbered make read = read >>= λ x. Ok (make x.0, x.1)

-- a constant of two indices
unfoldable pub pair_at : (ℕ → ℕ → Const) → List ℕ → Result (Const × List ℕ) Defect
pair_at make bytes = do
  first ← u2_at file_edge bytes
  second ← u2_at file_edge first.1
  Ok (make first.0 second.0, second.1)

-- a constant of two indices' room, which the last index doesn't give
abbrev pub wide_at : Bool → List ℕ → Result (Const × List ℕ) Defect → Result (Const × List ℕ) Defect
wide_at true bytes read = Err (fault kinds.Tag bytes)
wide_at false bytes read = read

-- the constant behind a tag; `bytes` are those from the tag on
unfoldable pub tagged_at : Bool → ℕ → List ℕ → List ℕ → Result (Const × List ℕ) Defect
tagged_at is_last tag rest bytes =
    if tag == 1 then (text_at rest >>= λ x. Ok (Utf8 x.0, x.1))
    else (if tag == 3 then numbered (λ n. Integer (cast_signed w32 n)) (u4_at file_edge rest)
    else (if tag == 4 then numbered Float (u4_at file_edge rest)
    else (if tag == 5 then wide_at is_last bytes (numbered (λ n. Long (cast_signed w64 n)) (u8_at file_edge rest))
    else (if tag == 6 then wide_at is_last bytes (numbered Double (u8_at file_edge rest))
    else (if tag == 7 then numbered Class (u2_at file_edge rest)
    else (if tag == 8 then numbered Text (u2_at file_edge rest)
    else (if tag == 9 then pair_at Fieldref rest
    else (if tag == 10 then pair_at Methodref rest
    else (if tag == 11 then pair_at InterfaceMethodref rest
    else (if tag == 12 then pair_at NameAndType rest
    else Err (fault kinds.Tag bytes)))))))))))

unfoldable pub constant_at : Bool → List ℕ → Result (Const × List ℕ) Defect
constant_at is_last [] = Err (fault kinds.Truncated [])
constant_at is_last (tag ∷ rest) = tagged_at is_last tag rest (tag ∷ rest)

-- the entry for the next index: Unused first and behind a constant of two indices
abbrev pub entry_at : Bool → Bool → List ℕ → Result (Const × List ℕ) Defect
entry_at true is_last bytes = Ok (Unused, bytes)
entry_at false is_last bytes = constant_at is_last bytes

-- the entries for this many indices
unfoldable pub entries_at : Bool → ℕ → List ℕ → Result (List Const × List ℕ) Defect
entries_at behind zero bytes = Ok ([], bytes)
entries_at behind (suc n) bytes = do
  first ← entry_at behind (n == 0) bytes
  others ← entries_at (is_wide first.0) n first.1
  Ok (first.0 ∷ others.0, others.1)

-- how many bytes into a constant its first index of the wrong kind stands
abbrev pub bad_one : Bool → Option ℕ
bad_one is_right = if is_right then None else Some 1

abbrev pub bad_pair : Bool → Bool → Option ℕ
bad_pair first second = if first then (if second then None else Some 3) else Some 1

abbrev pub bad_index : List Const → Const → Option ℕ
bad_index constants (Class name) = bad_one (names is_utf8 constants name)
bad_index constants (Text text) = bad_one (names is_utf8 constants text)
bad_index constants (Fieldref class name) = bad_pair (names is_class constants class) (names is_name_and_type constants name)
bad_index constants (Methodref class name) = bad_pair (names is_class constants class) (names is_name_and_type constants name)
bad_index constants (InterfaceMethodref class name) = bad_pair (names is_class constants class) (names is_name_and_type constants name)
bad_index constants (NameAndType name descriptor) = bad_pair (names is_utf8 constants name) (names is_utf8 constants descriptor)
bad_index constants _ = None

-- how many bytes are left at the first of these indices of the wrong kind, where `left` are from the first constant on
abbrev pub found_first : Option ℕ → ℕ → Option ℕ → Option ℕ
found_first (Some into) left more = Some (left - into)
found_first None left more = more

unfoldable pub bad_index_among : List Const → List Const → ℕ → Option ℕ
bad_index_among all [] left = None
bad_index_among all (c ∷ more) left =
    found_first (bad_index all c) left (bad_index_among all more (left - constant_size c))

-- the constants, of which no index is of the wrong kind
abbrev pub with_right_indices : Option ℕ → List Const × List ℕ → Result (List Const × List ℕ) Defect
with_right_indices (Some left) read = Err (record { kind = kinds.Index; left = left })
with_right_indices None read = Ok read

unfoldable pub pool_at : List ℕ → Result (List Const × List ℕ) Defect
pool_at bytes = do
  count ← u2_at file_edge bytes
  constants ← entries_at true count.0 count.1
  with_right_indices (bad_index_among constants.0 constants.0 (length count.1)) constants

-- ---- attributes (4.7)

unfoldable pub content_at : Edge → List ℕ → Result (List ℕ × List ℕ) Defect
content_at edge bytes = do
  size ← u4_at edge bytes
  run_at edge size.0 size.1

unfoldable pub attribute_at : Edge → List Const → List ℕ → Result (Attribute × List ℕ) Defect
attribute_at edge constants bytes = do
  name ← index_at edge (names is_utf8 constants) bytes
  content ← content_at edge name.1
  Ok (record { name = name.0; content = content.0 }, content.1)

unfoldable pub attributes_at : Edge → List Const → List ℕ → Result (List Attribute × List ℕ) Defect
attributes_at edge constants bytes = do
  count ← u2_at edge bytes
  many_at (attribute_at edge constants) count.0 count.1

-- ---- the attribute `Code` (4.7.3)

-- the code itself, of 1 to 65,535 bytes
unfoldable pub code_run : Edge → List ℕ → Result (List ℕ × List ℕ) Defect
code_run edge bytes = do
  size ← u4_at edge bytes
  if nat_lt 0 size.0 && nat_lt size.0 65536 then run_at edge size.0 size.1 else Err (fault kinds.Length bytes)

-- an empty exception table
unfoldable pub handlers_at : Edge → List ℕ → Result (List ℕ) Defect
handlers_at edge bytes = do
  count ← u2_at edge bytes
  if count.0 == 0 then Ok count.1 else Err (fault kinds.Handlers bytes)

-- the parts
unfoldable pub parts_at : Edge → List Const → List ℕ → Result (Code × List ℕ) Defect
parts_at edge constants bytes = do
  max_stack ← u2_at edge bytes
  max_locals ← u2_at edge max_stack.1
  code ← code_run edge max_locals.1
  handlers ← handlers_at edge code.1
  attributes ← attributes_at edge constants handlers
  Ok (record { max_stack = max_stack.0; max_locals = max_locals.0; bytes = code.0; attributes = attributes.0 }, attributes.1)

-- Where the parts end at the latest: at the attribute's end, behind which no byte of theirs may stand, or at the
-- file's end, where that is nearer. `field` are the bytes from the length on, `body` those behind it.
abbrev pub code_edge : List ℕ → ℕ → List ℕ → Edge
code_edge field size body =
    if nat_le size (length body) then record { left = length body - size; short = fault kinds.Length field } else file_edge

-- the parts, which have to fill the length
unfoldable pub code_at : List Const → List ℕ → Result (Code × List ℕ) Defect
code_at constants bytes = do
  size ← u4_at file_edge bytes
  parts ← parts_at (code_edge bytes size.0 size.1) constants size.1
  if length parts.1 + size.0 == length size.1 then Ok parts else Err (fault kinds.Length bytes)

-- ---- fields and methods (4.5, 4.6)

-- the code of a member that has none yet; `bytes` are those from the name on
abbrev pub first_code : List Const → Option Code → List Attribute → List ℕ → List ℕ → Result (Held × List ℕ) Defect
first_code constants None attributes bytes rest =
    code_at constants rest >>= λ code. Ok (record { code = Some code.0; attributes = attributes }, code.1)
first_code constants (Some other) attributes bytes rest = Err (fault kinds.Twice bytes)

-- an attribute that is kept
abbrev pub kept : Held → Attribute → Held
kept held attribute = record { code = held.code; attributes = held.attributes ++ attribute ∷ [] }

-- one more attribute of a member
unfoldable pub held_at : List Const → Held → List ℕ → Result (Held × List ℕ) Defect
held_at constants held bytes = do
  name ← index_at file_edge (names is_utf8 constants) bytes
  if names is_code_text constants name.0
      then first_code constants held.code held.attributes bytes name.1
      else (content_at file_edge name.1 >>= λ content. Ok (kept held (record { name = name.0; content = content.0 }), content.1))

-- this many more
unfoldable pub all_held_at : List Const → Held → ℕ → List ℕ → Result (Held × List ℕ) Defect
all_held_at constants held zero bytes = Ok (held, bytes)
all_held_at constants held (suc n) bytes = do
  more ← held_at constants held bytes
  all_held_at constants more.0 n more.1

-- a member without attributes so far
abbrev pub nothing_held : Held
nothing_held = record { code = None; attributes = [] }

unfoldable pub member_at : List Const → List ℕ → Result (MemberInfo × List ℕ) Defect
member_at constants bytes = do
  flags ← u2_at file_edge bytes
  name ← index_at file_edge (names is_utf8 constants) flags.1
  descriptor ← index_at file_edge (names is_utf8 constants) name.1
  count ← u2_at file_edge descriptor.1
  held ← all_held_at constants nothing_held count.0 count.1
  Ok (record { flags = flags.0; name = name.0; descriptor = descriptor.0; code = held.0.code; attributes = held.0.attributes }, held.1)

unfoldable pub members_at : List Const → List ℕ → Result (List MemberInfo × List ℕ) Defect
members_at constants bytes = do
  count ← u2_at file_edge bytes
  many_at (member_at constants) count.0 count.1

-- ---- the class (4.1)

-- the magic number and the version
unfoldable pub version_at : List ℕ → Result (List ℕ) Defect
version_at bytes = do
  minor ← u2_at file_edge bytes
  major ← u2_at file_edge minor.1
  if minor.0 == 0 && major.0 == 48 then Ok major.1 else Err (fault kinds.Version bytes)

unfoldable pub head_at : List ℕ → Result (List ℕ) Defect
head_at bytes = do
  magic ← u4_at file_edge bytes
  if magic.0 == 0xcafebabe then version_at magic.1 else Err (fault kinds.Magic bytes)

-- the access flags, this class, the super class and the interfaces
unfoldable pub declared_at : List Const → List ℕ → Result (Declared × List ℕ) Defect
declared_at constants bytes = do
  flags ← u2_at file_edge bytes
  this_class ← index_at file_edge (names is_class constants) flags.1
  super_class ← index_at file_edge (is_super_class constants) this_class.1
  count ← u2_at file_edge super_class.1
  interfaces ← many_at (index_at file_edge (names is_class constants)) count.0 count.1
  Ok (record { flags = flags.0; this_class = this_class.0; super_class = super_class.0; interfaces = interfaces.0 }, interfaces.1)

abbrev pub file_of : List Const → Declared → List MemberInfo → List MemberInfo → List Attribute → ClassFile
file_of constants declared fields methods attributes = record {
  constants = constants;
  flags = declared.flags;
  this_class = declared.this_class;
  super_class = declared.super_class;
  interfaces = declared.interfaces;
  fields = fields;
  methods = methods;
  attributes = attributes;
}

-- a whole class file, behind which nothing stands
unfoldable pub file_at : List ℕ → Result ClassFile Defect
file_at bytes = do
  rest ← head_at bytes
  pool ← pool_at rest
  declared ← declared_at pool.0 pool.1
  fields ← members_at pool.0 declared.1
  methods ← members_at pool.0 fields.1
  attributes ← attributes_at file_edge pool.0 methods.1
  if length attributes.1 == 0
      then Ok (file_of pool.0 declared.0 fields.0 methods.0 attributes.0)
      else Err (fault kinds.Trailing attributes.1)

-- the fault by its offset, in this many bytes
abbrev pub at_offset : ℕ → Result ClassFile Defect → Result ClassFile ClassFault
at_offset count (Ok file) = Ok file
at_offset count (Err defect) = Err (record { offset = count - defect.left; kind = defect.kind })

-- the class file that these bytes are, or their first fault in reading order
unfoldable pub class_of : List ℕ → Result ClassFile ClassFault
class_of bytes = at_offset (length bytes) (file_at bytes)

-- what `read_class` returned is this class file or this fault, unless memory ran out
abbrev pub Answers : Result ClassFile ClassErr → Result ClassFile ClassFault → Type 0
Answers (Ok file) read = read ≡ Ok file
Answers (Err errors.OutOfMemory) read = Unit {0}
Answers (Err (errors.Fault fault)) read = read ≡ Err fault
