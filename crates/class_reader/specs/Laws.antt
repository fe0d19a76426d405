-- What holds of the reading of any bytes: what stands behind a fault can't repair it, and up to a fault's place
-- nothing is wrong.
use Rattle.std.specs.Prelude.{◌≡◌, ◌≢◌, ℕ, ◌<◌, ◌≤◌, List, ◌∷◌, ◌++◌, length, Ok, Err}
use Rattle.std.specs.List.{All}
use Rattle.class_form.specs.declared.class_file.ClassFile.{ClassFile}
use Rattle.class_form.specs.WellFormed.{WellFormed}
use Rattle.class_form.specs.Layout.{Encodes}
use Rattle.class_reader.specs.declared.fault.ClassKind.TheVariants.{Truncated, Trailing}
use Rattle.class_reader.specs.declared.fault.ClassFault.{ClassFault}
use Rattle.class_reader.specs.declared.fault.Defect.{Defect}
use Rattle.class_reader.specs.Reading.{class_of, file_at}

-- a fault stays the same, whatever stands behind the bytes, unless it is that they end
abbrev pub FaultsStay : Type 0
FaultsStay = (bytes more : List ℕ) (fault : ClassFault) → class_of bytes ≡ Err fault → fault.kind ≢ Truncated → class_of (bytes ++ more) ≡ Err fault

-- so no class file begins with the bytes
abbrev pub FaultsAreFinal : Type 0
FaultsAreFinal =
    (bytes : List ℕ) (fault : ClassFault) → class_of bytes ≡ Err fault → fault.kind ≢ Truncated
    → (more : List ℕ) (file : ClassFile) → WellFormed file → Encodes file (bytes ++ more) → ⊥

-- a fault's place isn't before the bytes, so its offset is the count of bytes before it
abbrev pub PlacesAreWithin : Type 0
PlacesAreWithin = (bytes : List ℕ) (defect : Defect) → file_at bytes ≡ Err defect → defect.left ≤ length bytes

-- a fault other than Truncated stands at one of the bytes
abbrev pub FaultsHaveAByte : Type 0
FaultsHaveAByte = (bytes : List ℕ) (fault : ClassFault) → class_of bytes ≡ Err fault → fault.kind ≢ Truncated → fault.offset < length bytes

-- and Truncated stands at their end
abbrev pub TruncatedIsTheEnd : Type 0
TruncatedIsTheEnd = (bytes : List ℕ) (fault : ClassFault) → class_of bytes ≡ Err fault → fault.kind ≡ Truncated → fault.offset ≡ length bytes

-- bytes that end before the place of a fault are cut, and have no fault of their own
abbrev pub FaultsComeFirst : Type 0
FaultsComeFirst =
    (front back : List ℕ) (fault : ClassFault) → class_of (front ++ back) ≡ Err fault → length front < fault.offset
    → class_of front ≡ Err (record { offset = length front; kind = Truncated })

-- so is each front of a class file
abbrev pub CutsAreTruncated : Type 0
CutsAreTruncated =
    (front : List ℕ) (b : ℕ) (back : List ℕ) (file : ClassFile) → class_of (front ++ b ∷ back) ≡ Ok file
    → class_of front ≡ Err (record { offset = length front; kind = Truncated })

-- the first byte behind a class file is a fault
abbrev pub FilesEnd : Type 0
FilesEnd =
    (bytes : List ℕ) (b : ℕ) (more : List ℕ) (file : ClassFile) → class_of bytes ≡ Ok file
    → class_of (bytes ++ b ∷ more) ≡ Err (record { offset = length bytes; kind = Trailing })

-- each encoding of a well-formed file is read as that file
abbrev pub EncodingsAreRead : Type 0
EncodingsAreRead = (bytes : List ℕ) (file : ClassFile) → WellFormed file → Encodes file bytes → class_of bytes ≡ Ok file

-- and bytes that are read are an encoding of the file, which is well formed
abbrev pub FilesAreEncoded : Type 0
FilesAreEncoded = (bytes : List ℕ) (file : ClassFile) → All (λ byte. byte < 256) bytes → class_of bytes ≡ Ok file → WellFormed file × Encodes file bytes
