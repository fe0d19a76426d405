use Rattle.std.proofs.Common.{ℕ, [], ◌∷◌, ◌++◌, Option, ap, ◌∙◌}
use Rattle.std.specs.Option.{option_map_or}
use Rattle.jp_store.specs.Classes.{place_of}
use Rattle.jvm_load.specs.FileClasses.{class_text_at, classes_of}
use Rattle.jvm_load.proofs.Reach.{one_interface_more}
use Rattle.jvm_load.proofs.above.push_interfaces.Goals as goal

pub loop-name-preserved : goal.loop-name-preserved
loop-name-preserved c =
    let find = place_of (classes_of c.args.files.now) in
    c.in_ok-push_place.ensures
    ∙ ap (λ (o : Option ℕ). c.loop-name.places.items ++ option_map_or (λ at. at ∷ []) o []) (c.find_class.ensures.place ∙ ap find c.class_text.ensures)
    ∙ one_interface_more find (class_text_at c.args.file.now) c.args.names.now c.loop-name.name-index c.loop-name.places.items c.args.places.now.items c.loop-name-test.true c.loop-name.invariant
