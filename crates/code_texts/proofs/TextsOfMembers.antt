-- The same of members.
use Rattle.std.proofs.Common.{◌≡◌, ℕ, true, ◌&&◌, List, [], ◌∷◌, length, map, Option, Some, None, refl, arith}
use Rattle.std.specs.Prelude.{nat_le, slice_get}
use Rattle.std.specs.List.{list_all}
use Rattle.std.proofs.lemmas.Bool.{leb-true}
use Rattle.class_form.proofs.Facts.{both}
use Rattle.jp_pred.specs.declared.hier.Hier.{Hier}
use Rattle.jp_pred.specs.declared.path.Path.{Path}
use Rattle.jp_pred.specs.declared.ty.Ty.{Ty}
use Rattle.jp_pred.specs.Names.{Word}
use Rattle.iface_codec.specs.declared.iface.Iface.{Iface}
use Rattle.iface_codec.specs.declared.iface.IfaceMethod.{IfaceMethod}
use Rattle.jp_store.specs.declared.value.Kind.{Kind}
use Rattle.jp_meaning.specs.declared.unit.TypedMember.{TypedMember}
use Rattle.jp_meaning.specs.declared.unit.TypedPart.{TypedPart}
use Rattle.jp_meaning.specs.declared.unit.TypedPart.TheVariants as part
use Rattle.jp_meaning.specs.Descriptors.{kind_of_type}
use Rattle.jvm_table.specs.declared.instr.Instr.TheVariants.{ReturnValue}
use Rattle.code_asm.specs.Items.{Plain}
use Rattle.gen_body.specs.Codes.{row_codes, construction, coded}
use Rattle.gen_body.specs.Statements.{Part, block_code, push_default}
use Rattle.gen_body.specs.Members.{aliases_code, given_to, super_code, end_code, framed, method_code, part_code}
use Rattle.code_texts.specs.Short.{is_short, has_short_params, is_short_expr, is_short_stmt, or_so, has_no_aliases, start_is_short}
use Rattle.code_texts.specs.Laws.{ShortCodeFits}
use Rattle.code_texts.proofs.TextsOfForms.{Each, joined, before, behind, construction_fits}
use Rattle.code_texts.proofs.TextsOfExpressions.{list_fits}
use Rattle.code_texts.proofs.TextsOfStatements.{default_fits, block_fits}

aliases_fit : (hier : Hier) (slot : ℕ) (aliases : List (Path × Ty)) → nat_le (length aliases) 0 ≡ true → Each (aliases_code hier slot aliases)
aliases_fit hier slot [] e = refl
aliases_fit hier slot (alias ∷ more) e = absurd (let le = leb-true (length (alias ∷ more)) 0 e in omega (arith, le))

end_fits : (o : Option Kind) → Each (end_code o)
end_fits None = refl
end_fits (Some kind) = before (push_default kind) (Plain (ReturnValue kind) ∷ []) (default_fits kind) refl

module _ (m : TypedMember) where
  super_fits : (o : Option Word) (n : ℕ) → list_all is_short_expr m.super_args ≡ true → or_so is_short o ≡ true → has_short_params m.super_params ≡ true → Each (super_code o m n).items
  super_fits None n e h i = refl
  super_fits (Some superclass) n e h i =
      behind (row_codes (map coded m.super_args) n).items (construction superclass m.super_params) (list_fits m.super_args e n) (construction_fits superclass m.super_params h i)

  framed_fits : (o : Option Kind) (start : Part) → Each start.items → list_all is_short_stmt m.block ≡ true → Each (framed o start m).items
  framed_fits o start h e =
      joined start.items _ h (joined (block_code m.block start.next 0 1).items (end_code o) (block_fits m.block e start.next 0 1) (end_fits o))

  method_fits : (hier : Hier) (o : Option IfaceMethod) → list_all is_short_stmt m.block ≡ true → or_so has_no_aliases o ≡ true → Each (method_code hier o m).items
  method_fits hier None e h = refl
  method_fits hier (Some method) e h =
      framed_fits (kind_of_type method.result) (record { items = aliases_code hier (given_to method) method.aliases; next = 2; need = 1 })
      (aliases_fit hier (given_to method) method.aliases h) e

  part_fits : (hier : Hier) (head : Iface) (q : TypedPart) → start_is_short head m q ≡ true → list_all is_short_expr m.super_args ≡ true → list_all is_short_stmt m.block ≡ true → Each (part_code hier head m q).items
  part_fits hier head (part.Field at) h a e = refl
  part_fits hier head (part.Method at) h a e = method_fits hier (slice_get head.methods at) e h
  part_fits hier head (part.Constructor at) h a e =
      let i = both (or_so is_short head.superclass) (has_short_params m.super_params) h in
      framed_fits None (super_code head.superclass m 2) (super_fits head.superclass 2 a i.0 i.1) e

pub member_fits : ShortCodeFits
member_fits hier head m e =
    let h = both (start_is_short head m m.part) (list_all is_short_expr m.super_args && list_all is_short_stmt m.block) e in
    let i = both (list_all is_short_expr m.super_args) (list_all is_short_stmt m.block) h.1 in
    part_fits m hier head m.part h.0 i.0 i.1
