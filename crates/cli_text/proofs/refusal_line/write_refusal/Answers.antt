use Rattle.std.proofs.Common.{◌≡◌, ℕ, List, [], ◌∷◌, ◌++◌, Option, Result, ap, sym, ◌∙◌, append_assoc}
use Rattle.std.specs.Prelude.{codes, decimal, OnOk}
use Rattle.std.specs.Io.KnownBytes.{append_known}
use Rattle.std.proofs.lemmas.Result.{on_ok_weaker}
use Rattle.jp_ast.specs.declared.token.Place.{Place}
use Rattle.cli_text.specs.declared.refusal.Refusal.{Refusal}
use Rattle.cli_text.specs.Lines.{joined, place_of, kind_words, line, refusal_text}
use Rattle.cli_text.proofs.Fronts.{append_known-append, front_same, front_first, front_second}
use Rattle.cli_text.proofs.refusal_line.write_refusal.Goals as goal

-- the line up to its kind
abbrev the_place : List ℕ → Place → List ℕ
the_place unit place = unit ++ codes ":" ++ decimal place.line ++ codes ":" ++ decimal place.col ++ codes ": "

-- the place and the words are the line
parts : (unit : List ℕ) (refusal : Refusal) (place : Place) (kind word : List ℕ) → place ≡ place_of refusal → joined (kind_words refusal) ≡ kind ++ word
    → the_place unit place ++ (kind ++ word ++ codes "\n") ≡ line (refusal_text unit refusal)
parts unit refusal place kind word p e =
    ap (λ (x : Place). the_place unit x ++ (kind ++ word ++ codes "\n")) p ∙ sym (append_assoc (the_place unit (place_of refusal)) (kind ++ word) (codes "\n"))
    ∙ ap (λ w. (the_place unit (place_of refusal) ++ w) ++ 10 ∷ []) (sym e)

whole : {T E : Type 0} (r : Result T E) (unit : List ℕ) (refusal : Refusal) (place : Place) (kind word : List ℕ) (old mid new : Option (List ℕ)) → place ≡ place_of refusal → joined (kind_words refusal) ≡ kind ++ word
    → mid ≡ append_known old (the_place unit place) → OnOk r (new ≡ append_known mid (kind ++ word ++ codes "\n")) → OnOk r (new ≡ append_known old (line (refusal_text unit refusal)))
whole r unit refusal place kind word old mid new p e first second =
    on_ok_weaker r (λ s. s ∙ ap (λ k. append_known k (kind ++ word ++ codes "\n")) first ∙ append_known-append old (the_place unit place) (kind ++ word ++ codes "\n") ∙ ap (append_known old) (parts unit refusal place kind word p e)) second

pub returns-in_err-write_place-clause-front : goal.returns-in_err-write_place-clause-front
returns-in_err-write_place-clause-front g c =
    front_same _ _ _ _ (parts c.args.unit.now c.args.refusal.now c.place_of.result c.kind_words.result.0.now c.kind_words.result.1.now c.place_of.ensures c.kind_words.ensures)
    (front_first _ _ (the_place c.args.unit.now c.place_of.result) (c.kind_words.result.0.now ++ c.kind_words.result.1.now ++ codes "\n") c.in_err-write_place.ensures.front)

pub returns-clause-whole : goal.returns-clause-whole
returns-clause-whole g c =
    whole c.write_parts.result c.args.unit.now c.args.refusal.now c.place_of.result c.kind_words.result.0.now c.kind_words.result.1.now _ _ _ c.place_of.ensures c.kind_words.ensures
    c.in_ok-write_place.ensures.whole c.write_parts.ensures.whole

pub returns-clause-front : goal.returns-clause-front
returns-clause-front g c =
    front_same _ _ _ _ (parts c.args.unit.now c.args.refusal.now c.place_of.result c.kind_words.result.0.now c.kind_words.result.1.now c.place_of.ensures c.kind_words.ensures)
    (front_second _ _ _ (the_place c.args.unit.now c.place_of.result) (c.kind_words.result.0.now ++ c.kind_words.result.1.now ++ codes "\n") c.in_ok-write_place.ensures.whole c.write_parts.ensures.front)
