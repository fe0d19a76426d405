use Rattle.std.proofs.Common.{◌≡◌, sym, ap, ◌∙◌}
use Rattle.jp_grammar.specs.Kinds.{kind_in, kind_of_lexeme, kind_of_token, kind_of_word, reserved, row_of}
use Rattle.jp_grammar.proofs.kind.kind_of.Goals as goal

pub returns-in-Word : goal.returns-in-Word
unfolding kind_of_word reserved
returns-in-Word c =
    let h : kind_of_token c.args.token.now ≡ kind_of_word c.in-Word.word = ap kind_of_lexeme c.in-Word.is in
    c.kind_in.ensures ∙ ap (kind_in reserved) c.bytes.ensures ∙ sym h
