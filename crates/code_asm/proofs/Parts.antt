-- Parts of items stand where the whole stands.
use Rattle.std.proofs.Common.{ℕ, List, [], ◌∷◌, ◌++◌, refl}
use Rattle.class_form.specs.declared.class_file.ClassFile.{ClassFile}
use Rattle.code_asm.specs.Items.{Item, Plain, Uses, CallsInterface, Branch, Mark, Stands}

-- a part of the items, and the rest
pub record Split (file : ClassFile) (code : List ℕ) (place : ℕ → ℕ) (pc : ℕ) (a b : List Item) (to : ℕ) : Type 0 where
  pub mid : ℕ
  pub front : Stands file code place pc a mid
  pub back : Stands file code place mid b to

pub split : (file : ClassFile) (code : List ℕ) (place : ℕ → ℕ) (a b : List Item) (pc to : ℕ) → Stands file code place pc (a ++ b) to → Split file code place pc a b to
split file code place [] b pc to h = record { mid = pc; front = refl; back = h }
split file code place (Plain i ∷ a) b pc to h =
    let s = split file code place a b h.0 to h.2 in record { mid = s.mid; front = (h.0, h.1, s.front); back = s.back }
split file code place (Uses u w ∷ a) b pc to h =
    let s = split file code place a b h.1 to h.4 in record { mid = s.mid; front = (h.0, h.1, h.2, h.3, s.front); back = s.back }
split file code place (CallsInterface k s ∷ a) b pc to h =
    let s = split file code place a b h.1 to h.5 in record { mid = s.mid; front = (h.0, h.1, h.2, h.3, h.4, s.front); back = s.back }
split file code place (Branch j l ∷ a) b pc to h =
    let s = split file code place a b h.0 to h.2 in record { mid = s.mid; front = (h.0, h.1, s.front); back = s.back }
split file code place (Mark l ∷ a) b pc to h =
    let s = split file code place a b pc to h.1 in record { mid = s.mid; front = (h.0, s.front); back = s.back }
