-- The parts of a place that is neither a field of an object nor an element.
use Rattle.std.proofs.Common.{◌≡◌, ℕ, [], Option, Some, None, refl, sym, ap, ◌∙◌}
use Rattle.jp_pred.specs.Names.{Word}
use Rattle.jp_store.specs.declared.value.Kind.{Kind}
use Rattle.jp_meaning.specs.declared.expr.TypedExpr.{TypedExpr}
use Rattle.jp_meaning.specs.declared.expr.TypedKind.{TypedKind, TypedKind-F, out-TypedKind, roll-TypedKind, roll-out-TypedKind}
use Rattle.jp_meaning.specs.declared.expr.TypedKind.TheVariants as form
use Rattle.jp_meaning.specs.declared.expr.TypedKind.TheOpen as e
use Rattle.jp_meaning.specs.Descriptors.{kind_of_type}
use Rattle.gen_body.specs.Codes.{Coded, SpotCodes, coded_step, local_spot}
use Rattle.gen_body.specs.Statements.{Part}
use Rattle.gen_code.specs.Emitted.{code_of}
use Rattle.gen_expr.proofs.Layers.{of_layer, at_layer}
use Rattle.gen_member.specs.Blocks.{spot_part}

-- what is neither a field of an object nor an element has a place without parts
abbrev spot_of : SpotCodes → Part
spot_of s = record { items = s.items; next = s.next; need = s.need }

abbrev no_parts : ℕ → Part
no_parts n = record { items = []; next = n; need = 0 }

local_bare : (o : Option Kind) (slot n : ℕ) → spot_of (local_spot o slot n) ≡ no_parts n
local_bare None slot n = refl
local_bare (Some kind) slot n = refl

bare_layer : (x : TypedExpr) (n : ℕ) (z : TypedKind-F TypedKind TypedExpr) → x.kind ≡ roll-TypedKind z → ((y : TypedExpr) (class name : Word) → x.kind ≡ form.Field y class name → ⊥) → ((y v : TypedExpr) → x.kind ≡ form.Index y v → ⊥) →
    spot_of ((of_layer coded_step z x.ty).spot n) ≡ no_parts n
bare_layer x n (e.Field y class name) h nf ni = absurd (nf y class name (h ∙ form.rolls-Field y class name))
bare_layer x n (e.Index y v) h nf ni = absurd (ni y v (h ∙ form.rolls-Index y v))
bare_layer x n (e.Local slot) h nf ni = local_bare (kind_of_type x.ty) slot n
bare_layer x n _ h nf ni = refl

pub bare_spot : (x : TypedExpr) (n : ℕ) → ((y : TypedExpr) (class name : Word) → x.kind ≡ form.Field y class name → ⊥) → ((y v : TypedExpr) → x.kind ≡ form.Index y v → ⊥) → spot_part x n ≡ record { items = []; next = n; need = 0 }
unfolding code_of
bare_spot x n nf ni =
    let h : x.kind ≡ roll-TypedKind (out-TypedKind x.kind) = sym (roll-out-TypedKind x.kind) in
    ap (λ (c : Coded). spot_of (c.spot n)) (at_layer coded_step x (out-TypedKind x.kind) h) ∙ bare_layer x n (out-TypedKind x.kind) h nf ni
