use Rattle.std.proofs.Common.{◌≡◌, true, map, take}
use Rattle.std.specs.List.{list_all}
use Rattle.class_form.specs.WellFormed.{member_fits}
use Rattle.jp_meaning.specs.Classes.{field_of_head}
use Rattle.jvm_load.specs.FileClasses.{field_of_member}
use Rattle.code_asm.specs.Held.{Extends, InFiles}
use Rattle.gen_class.specs.Asked.{with_fields}
use Rattle.gen_class.specs.Flags.{field_flags}
use Rattle.gen_class.proofs.heads.fields_of.Given as goal

-- the fields so far
abbrev pub invariant-loop-field : goal.invariant-loop-field
invariant-loop-field l = record {
  kept : Extends l.initial.pool l.pool;
  named : InFiles l.pool (λ file. map (field_of_member file) l.members ≡ map field_of_head (take l.field-index l.fields));
  flagged : map (λ member. member.flags) l.members ≡ map field_flags (take l.field-index l.fields);
  fits : InFiles l.pool (λ file. list_all (member_fits file.constants) l.members ≡ true);
  asked : l.pool ≡ with_fields l.initial.pool (take l.field-index l.fields);
}
