-- What was written one after the other was written in a row.
use Rattle.std.proofs.Common.{◌≡◌, ℕ, ◌+◌, List, [], ◌∷◌, ◌++◌, map, Bool, true, false, not, Option, Some, None, length, take, refl, sym, ap, ◌∙◌, subst, append-nil, arith}
use Rattle.std.specs.Prelude.{max}
use Rattle.std.proofs.lemmas.List.{map-append, append_assoc}
use Rattle.jp_meaning.specs.declared.expr.TypedExpr.{TypedExpr}
use Rattle.code_asm.specs.declared.line.Line.{Line}
use Rattle.code_asm.specs.Items.{Item}
use Rattle.code_asm.specs.Lines.{line_of, lines_of}
use Rattle.gen_body.specs.Statements.{Part}
use Rattle.gen_code.specs.declared.body.Body.{Body}
use Rattle.gen_parts.specs.Emits.{Puts, Adds}

-- one list of lines behind another
pub behind : (a b c : List Line) (xs ys : List Item) → b ≡ a ++ lines_of xs → c ≡ b ++ lines_of ys → c ≡ a ++ lines_of (xs ++ ys)
behind a b c xs ys h k = k ∙ (ap (λ (z : List Line). z ++ lines_of ys) h ∙ (append_assoc a (lines_of xs) (lines_of ys) ∙ ap (λ (z : List Line). a ++ z) (sym (map-append line_of xs ys))))

-- nothing is written where nothing changes
pub none_added : (a : Body) → Adds a a []
none_added a = record { lines = sym (append-nil a.lines.items); labels = refl }

-- items behind items
pub adds : (a b c : Body) (xs ys : List Item) → Adds a b xs → Adds b c ys → Adds a c (xs ++ ys)
adds a b c xs ys h k = record { lines = behind a.lines.items b.lines.items c.lines.items xs ys h.lines k.lines; labels = k.labels ∙ h.labels }

-- items alone
pub puts : (a b : Body) (p need : ℕ) (xs : List Item) → Adds a b xs → p ≡ need → Puts a b p (record { items = xs; next = a.labels; need = need })
puts a b p need xs h e = record { lines = h.lines; labels = h.labels; need = e }

-- items behind a part
pub puts_then : (a b c : Body) (p q need : ℕ) (part : Part) (ys : List Item) → Puts a b p part → Adds b c ys → q ≡ need → Puts a c q (record { items = part.items ++ ys; next = part.next; need = need })
puts_then a b c p q need part ys h k e = record { lines = behind a.lines.items b.lines.items c.lines.items part.items ys h.lines k.lines; labels = k.labels ∙ h.labels; need = e }

-- a part behind items
pub then_puts : (a b c : Body) (p q need : ℕ) (xs : List Item) (part : ℕ → Part) → Adds a b xs → Puts b c p (part b.labels) → q ≡ need → Puts a c q (record { items = xs ++ (part a.labels).items; next = (part a.labels).next; need = need })
then_puts a b c p q need xs part h k e =
    let k' : Puts b c p (part a.labels) = subst (λ (n : ℕ). Puts b c p (part n)) h.labels k in
    record { lines = behind a.lines.items b.lines.items c.lines.items xs (part a.labels).items h.lines k'.lines; labels = k'.labels; need = e }

-- a part behind a part
pub puts_both : (a b c : Body) (p q r need : ℕ) (first : Part) (second : ℕ → Part) → Puts a b p first → Puts b c q (second b.labels) → r ≡ need →
    Puts a c r (record { items = first.items ++ (second first.next).items; next = (second first.next).next; need = need })
puts_both a b c p q r need first second h k e =
    let k' : Puts b c q (second first.next) = subst (λ (n : ℕ). Puts b c q (second n)) h.labels k in
    record { lines = behind a.lines.items b.lines.items c.lines.items first.items (second first.next).items h.lines k'.lines; labels = k'.labels; need = e }

-- a part by another name of its labels, where only labels were taken before
pub puts_from : (a b c : Body) (p n : ℕ) (part : ℕ → Part) → b.lines.items ≡ a.lines.items → b.labels ≡ n → Puts b c p (part b.labels) → Puts a c p (part n)
puts_from a b c p n part e l h =
    let h' : Puts b c p (part n) = subst (λ (m : ℕ). Puts b c p (part m)) l h in
    record { lines = h'.lines ∙ ap (λ (z : List Line). z ++ lines_of (part n).items) e; labels = h'.labels; need = h'.need }

-- the same part by other words for its items
pub puts_as : (a b : Body) (p : ℕ) (part : Part) (xs : List Item) → part.items ≡ xs → Puts a b p part → Puts a b p (record { items = xs; next = part.next; need = part.need })
puts_as a b p part xs e h = record { lines = h.lines ∙ ap (λ (z : List Item). a.lines.items ++ lines_of z) e; labels = h.labels; need = h.need }
