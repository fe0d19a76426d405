-- Code whose names and literals fit the texts of a class file.
use Rattle.std.specs.Prelude.{ℕ, List, [], ◌∷◌, Bool}
use Rattle.std.specs.List.{list_all}
use Rattle.class_form.specs.declared.constant.Const.TheVariants.{Utf8}
use Rattle.class_form.specs.WellFormed.{text_fits}
use Rattle.jp_store.specs.Classes.{Key}
use Rattle.code_asm.specs.Items.{Wanted, IntOf, TextOf, FieldOf, ClassOf, MethodOf, FamilyOf, BuiltIn, Item, Plain, Uses, CallsInterface, Branch, Mark}

-- whether a text can stand in a class file, as one of its constants
abbrev pub text_fits_in : List ℕ → Bool
text_fits_in text = text_fits (Utf8 text)

-- the texts that name a field or a method
abbrev pub key_texts : Key → List (List ℕ)
key_texts key = key.class ∷ key.name ∷ key.descriptor ∷ []

-- the texts of what an instruction names
abbrev pub wanted_texts : Wanted → List (List ℕ)
wanted_texts (IntOf n) = []
wanted_texts (TextOf bytes) = bytes ∷ []
wanted_texts (FieldOf key) = key_texts key
wanted_texts (ClassOf name) = name ∷ []
wanted_texts (MethodOf key signature) = key_texts key
wanted_texts (FamilyOf key signature) = key_texts key
wanted_texts (BuiltIn key) = key_texts key

-- the texts of a piece of code
abbrev pub item_texts : Item → List (List ℕ)
item_texts (Plain instr) = []
item_texts (Uses use_ wanted) = wanted_texts wanted
item_texts (CallsInterface key signature) = key_texts key
item_texts (Branch jump label) = []
item_texts (Mark label) = []

-- whether each text of these pieces fits
abbrev pub items_fit : List Item → Bool
items_fit items = list_all (λ i. list_all text_fits_in (item_texts i)) items
