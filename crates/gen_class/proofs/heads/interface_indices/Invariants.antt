use Rattle.std.proofs.Common.{◌≡◌, map, take, Some}
use Rattle.jp_meaning.specs.Descriptors.{internal_name}
use Rattle.class_form.specs.Constants.{class_name_at}
use Rattle.code_asm.specs.Held.{Extends, InFiles}
use Rattle.gen_class.specs.Asked.{with_classes}
use Rattle.gen_class.proofs.heads.interface_indices.Given as goal

-- the indices so far
abbrev pub invariant-loop-name : goal.invariant-loop-name
invariant-loop-name l = record {
  kept : Extends l.initial.pool l.pool;
  named : InFiles l.pool (λ file. map (class_name_at file) l.indices ≡ map (λ name. Some (internal_name name)) (take l.name-index l.names));
  asked : l.pool ≡ with_classes l.initial.pool (take l.name-index l.names);
}
