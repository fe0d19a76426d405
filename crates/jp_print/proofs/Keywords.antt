-- The reserved words that are printed: each is a word, of its kind.
use Rattle.std.proofs.Common.{◌≡◌, ℕ, List, refl, ap, ◌∙◌, codes}
use Rattle.jp_ast.specs.declared.token.Token.{Token}
use Rattle.jp_ast.specs.declared.token.Lexeme.TheVariants.{Word}
use Rattle.jp_lexical.specs.Characters.{begins_word, is_word_byte}
use Rattle.jp_grammar.specs.declared.kind.Kind.{Kind}
use Rattle.jp_grammar.specs.declared.kind.Kind.TheVariants as k
use Rattle.jp_grammar.specs.Kinds.{Is, kind_of_word, kind_of_lexeme, reserved}
use Rattle.jp_print.specs.ReadsBack.{HasForm}
use Rattle.jp_print.proofs.Forms.{word_formed, word_passes}

-- the bytes are a word, of this kind
pub record Keyword (word : List ℕ) (kind : Kind) : Type 0 where
  pub form : HasForm (Word word)
  pub kind_is : kind_of_word word ≡ kind

-- a token that is the word is of its kind
pub is : {word : List ℕ} {kind : Kind} → Keyword word kind → (s : Token) → s.lexeme ≡ Word word → Is kind s
is keyword s h = ap kind_of_lexeme h ∙ keyword.kind_is

pub void_word : Keyword (codes "void") k.Void
unfolding kind_of_word reserved begins_word is_word_byte
void_word = record { form = word_formed _ refl; kind_is = refl }

pub int_word : Keyword (codes "int") k.Int
unfolding kind_of_word reserved begins_word is_word_byte
int_word = record { form = word_formed _ refl; kind_is = refl }

pub boolean_word : Keyword (codes "boolean") k.Boolean
unfolding kind_of_word reserved begins_word is_word_byte
boolean_word = record { form = word_formed _ refl; kind_is = refl }

pub true_word : Keyword (codes "true") k.True
unfolding kind_of_word reserved begins_word is_word_byte
true_word = record { form = word_formed _ refl; kind_is = refl }

pub false_word : Keyword (codes "false") k.False
unfolding kind_of_word reserved begins_word is_word_byte
false_word = record { form = word_formed _ refl; kind_is = refl }

pub null_word : Keyword (codes "null") k.Null
unfolding kind_of_word reserved begins_word is_word_byte
null_word = record { form = word_formed _ refl; kind_is = refl }

pub this_word : Keyword (codes "this") k.This
unfolding kind_of_word reserved begins_word is_word_byte
this_word = record { form = word_formed _ refl; kind_is = refl }

pub instanceof_word : Keyword (codes "instanceof") k.InstanceOf
unfolding kind_of_word reserved begins_word is_word_byte
instanceof_word = record { form = word_formed _ refl; kind_is = refl }

pub super_word : Keyword (codes "super") k.Super
unfolding kind_of_word reserved begins_word is_word_byte
super_word = record { form = word_formed _ refl; kind_is = refl }

pub new_word : Keyword (codes "new") k.New
unfolding kind_of_word reserved begins_word is_word_byte
new_word = record { form = word_formed _ refl; kind_is = refl }

pub as_word : Keyword (codes "as") k.As
unfolding kind_of_word reserved begins_word is_word_byte
as_word = record { form = word_formed _ refl; kind_is = refl }

pub if_word : Keyword (codes "if") k.If
unfolding kind_of_word reserved begins_word is_word_byte
if_word = record { form = word_formed _ refl; kind_is = refl }

pub else_word : Keyword (codes "else") k.Else
unfolding kind_of_word reserved begins_word is_word_byte
else_word = record { form = word_formed _ refl; kind_is = refl }

pub while_word : Keyword (codes "while") k.While
unfolding kind_of_word reserved begins_word is_word_byte
while_word = record { form = word_formed _ refl; kind_is = refl }

pub for_word : Keyword (codes "for") k.For
unfolding kind_of_word reserved begins_word is_word_byte
for_word = record { form = word_formed _ refl; kind_is = refl }

pub break_word : Keyword (codes "break") k.Break
unfolding kind_of_word reserved begins_word is_word_byte
break_word = record { form = word_formed _ refl; kind_is = refl }

pub continue_word : Keyword (codes "continue") k.Continue
unfolding kind_of_word reserved begins_word is_word_byte
continue_word = record { form = word_formed _ refl; kind_is = refl }

pub return_word : Keyword (codes "return") k.Return
unfolding kind_of_word reserved begins_word is_word_byte
return_word = record { form = word_formed _ refl; kind_is = refl }

pub static_word : Keyword (codes "static") k.Static
unfolding kind_of_word reserved begins_word is_word_byte
static_word = record { form = word_formed _ refl; kind_is = refl }

pub abstract_word : Keyword (codes "abstract") k.Abstract
unfolding kind_of_word reserved begins_word is_word_byte
abstract_word = record { form = word_formed _ refl; kind_is = refl }

pub when_word : Keyword (codes "when") k.When
unfolding kind_of_word reserved begins_word is_word_byte
when_word = record { form = word_formed _ refl; kind_is = refl }

pub private_word : Keyword (codes "private") k.Private
unfolding kind_of_word reserved begins_word is_word_byte
private_word = record { form = word_formed _ refl; kind_is = refl }

pub final_word : Keyword (codes "final") k.Final
unfolding kind_of_word reserved begins_word is_word_byte
final_word = record { form = word_formed _ refl; kind_is = refl }

pub class_word : Keyword (codes "class") k.Class
unfolding kind_of_word reserved begins_word is_word_byte
class_word = record { form = word_formed _ refl; kind_is = refl }

pub extends_word : Keyword (codes "extends") k.Extends
unfolding kind_of_word reserved begins_word is_word_byte
extends_word = record { form = word_formed _ refl; kind_is = refl }

pub implements_word : Keyword (codes "implements") k.Implements
unfolding kind_of_word reserved begins_word is_word_byte
implements_word = record { form = word_formed _ refl; kind_is = refl }

pub interface_word : Keyword (codes "interface") k.Interface
unfolding kind_of_word reserved begins_word is_word_byte
interface_word = record { form = word_formed _ refl; kind_is = refl }
