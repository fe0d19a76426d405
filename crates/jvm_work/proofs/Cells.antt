-- A value that is stored in an element.
use Rattle.std.proofs.Common.{◌≡◌, ℕ, List, Some, sym, ap, ◌∙◌}
use Rattle.std.specs.Prelude.{slice_get}
use Rattle.jp_store.specs.declared.value.Value.{Value}
use Rattle.jp_store.specs.declared.value.Value.TheVariants.{Null}
use Rattle.jp_store.specs.declared.heap.Thing.{Thing}
use Rattle.jp_store.specs.Classes.{Class}
use Rattle.jp_store.specs.Heap.{set_in, with_cell, with_value}
use Rattle.jp_store.specs.Outcome.{on_some}
use Rattle.jp_store.specs.Work.{Worked, answers, changed}
use Rattle.jvm_work.specs.Effects.{store}

-- with the thing that stands at a number
pub on_there : (heap : List Thing) (o : ℕ) (thing : Thing) (go : Thing → Worked) → Some thing ≡ slice_get heap o → on_some (slice_get heap o) go ≡ go thing
on_there heap o thing go h = ap (λ t. on_some t go) (sym h)

-- the heap with another element is the one with the changed thing
pub changed_there : (classes : List Class) (heap : List Thing) (statics : List (List Value)) (o n : ℕ) (v : Value) (thing : Thing) (new : List Thing) → Some thing ≡ slice_get heap o → new ≡ with_cell heap o n v
    → answers (store classes new statics) Null ≡ changed (store classes heap statics) o (with_value thing n v)
changed_there classes heap statics o n v thing new h e =
    ap (λ (l : List Thing). answers (store classes l statics) Null) (e ∙ ap (λ t. set_in heap o t n v) (sym h))
