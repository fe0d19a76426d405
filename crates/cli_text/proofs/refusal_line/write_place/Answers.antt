use Rattle.std.proofs.Common.{◌≡◌, ℕ, List, ◌++◌, refl, ◌∙◌}
use Rattle.std.specs.Prelude.{codes, decimal}
use Rattle.cli_text.proofs.Fronts.{onto, front_same, front_first, front_second}
use Rattle.cli_text.proofs.refusal_line.write_place.Goals as goal

-- the parts that are written are the place
parts : (unit line col line' col' : List ℕ) → line' ≡ line → col' ≡ col → (unit ++ codes ":" ++ line') ++ (codes ":" ++ col' ++ codes ": ") ≡ unit ++ codes ":" ++ line ++ codes ":" ++ col ++ codes ": "
parts unit line col line' col' el ec = rw (el, ec) (onto (unit ++ codes ":" ++ line) (codes ":") col (codes ": "))

pub returns-in_err-write_parts-clause-front : goal.returns-in_err-write_parts-clause-front
returns-in_err-write_parts-clause-front g c =
    front_same _ _ _ _ (parts c.args.unit.now (decimal c.args.place.line) (decimal c.args.place.col) _ _ (c.as_bytes.ensures.value ∙ c.format.ensures.text) (refl))
    (front_first _ _ (c.args.unit.now ++ codes ":" ++ c.as_bytes.result.now) (codes ":" ++ decimal c.args.place.col ++ codes ": ") c.in_err-write_parts.ensures.front)

pub returns-clause-front : goal.returns-clause-front
returns-clause-front g c =
    front_same _ _ _ _ (parts c.args.unit.now (decimal c.args.place.line) (decimal c.args.place.col) _ _ (c.as_bytes.ensures.value ∙ c.format.ensures.text) (c.as_bytes-2.ensures.value ∙ c.format-2.ensures.text))
    (front_second _ _ _ (c.args.unit.now ++ codes ":" ++ c.as_bytes.result.now) (codes ":" ++ c.as_bytes-2.result.now ++ codes ": ") c.in_ok-write_parts.ensures.whole c.write_parts-2.ensures.front)
