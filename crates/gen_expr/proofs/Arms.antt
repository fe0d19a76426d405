-- What is written, once its parts are.
use Rattle.std.proofs.Common.{◌≡◌, ℕ, ◌+◌, List, [], ◌∷◌, ◌++◌, Option, Some, Result, Ok, Err, refl, sym, ap, ◌∙◌, subst}
use Rattle.std.specs.Prelude.{IfOk, OnOk}
use Rattle.std.proofs.lemmas.Result.{IfOk-weaker}
use Rattle.code_asm.specs.Items.{Item}
use Rattle.code_asm.specs.Lines.{lines_of}
use Rattle.gen_body.specs.Statements.{Part}
use Rattle.gen_code.specs.declared.body.Body.{Body}
use Rattle.gen_parts.specs.Emits.{Puts, Adds, Ends, chained}
use Rattle.gen_expr.proofs.Steps.{behind, none_added, puts, puts_from}

-- what holds anyway holds where a call went well
pub always : {T E P : Type 0} (r : Result T E) → P → OnOk r P
always (Ok x) p = p
always (Err e) p = tt

-- what is there, by its name
pub named : {A : Type 0} {o : Option A} {x y : A} → o ≡ Some x → x ≡ y → o ≡ Some y
named e h = e ∙ ap Some h

-- nothing
pub nothing_put : (a : Body) (part : Part) → part ≡ record { items = []; next = a.labels; need = 0 } → Puts a a 0 part
nothing_put a part e = subst (Puts a a 0) (sym e) (puts a a 0 0 [] (none_added a) refl)

-- the same part by another name
pub same_put : {E : Type 0} (a b : Body) (res : Result ℕ E) (part other : Part) → part ≡ other → IfOk res (λ p. Puts a b p other) → IfOk res (λ p. Puts a b p part)
same_put a b res part other e h = subst (λ (z : Part). IfOk res (λ p. Puts a b p z)) (sym e) h

-- items behind a part
ended : (a b c : Body) (p q : ℕ) (one : Part) (xs : List Item) (f : ℕ → ℕ) → Puts a b p one → Ends b c xs q (f p) → Puts a c q (record { items = one.items ++ xs; next = one.next; need = f one.need })
ended a b c p q one xs f h e = record {
  lines = behind a.lines.items b.lines.items c.lines.items one.items xs h.lines e.lines;
  labels = e.labels ∙ h.labels;
  need = e.need ∙ ap f h.need;
}

pub part_ends : {E : Type 0} (a b c : Body) (p : ℕ) (one : Part) (xs : List Item) (f : ℕ → ℕ) (res : Result ℕ E) → Puts a b p one → IfOk res (λ q. Ends b c xs q (f p)) →
    IfOk res (λ q. Puts a c q (record { items = one.items ++ xs; next = one.next; need = f one.need }))
part_ends a b c p one xs f res h k =
    IfOk-weaker res (λ (q : ℕ). Ends b c xs q (f p)) (λ (q : ℕ). Puts a c q (record { items = one.items ++ xs; next = one.next; need = f one.need })) (λ q e. ended a b c p q one xs f h e) k

-- the same behind other items
around : (a b c d : Body) (p q : ℕ) (front : List Item) (part : ℕ → Part) (xs : List Item) (f : ℕ → ℕ) → Adds a b front → Puts b c p (part b.labels) → Ends c d xs q (f p) →
    Puts a d q (record { items = front ++ ((part a.labels).items ++ xs); next = (part a.labels).next; need = f (part a.labels).need })
around a b c d p q front part xs f h k e =
    let one = part a.labels in
    let k' : Puts b c p one = subst (λ (n : ℕ). Puts b c p (part n)) h.labels k in
    record {
      lines = behind a.lines.items b.lines.items d.lines.items front (one.items ++ xs) h.lines (behind b.lines.items c.lines.items d.lines.items one.items xs k'.lines e.lines);
      labels = e.labels ∙ k'.labels;
      need = e.need ∙ ap f k'.need;
    }

pub between_ends : {E : Type 0} (a b c d : Body) (p : ℕ) (front : List Item) (part : ℕ → Part) (xs : List Item) (f : ℕ → ℕ) (res : Result ℕ E) → Adds a b front → Puts b c p (part b.labels) → IfOk res (λ q. Ends c d xs q (f p)) →
    IfOk res (λ q. Puts a d q (record { items = front ++ ((part a.labels).items ++ xs); next = (part a.labels).next; need = f (part a.labels).need }))
between_ends a b c d p front part xs f res h k e =
    IfOk-weaker res (λ (q : ℕ). Ends c d xs q (f p)) (λ (q : ℕ). Puts a d q (record { items = front ++ ((part a.labels).items ++ xs); next = (part a.labels).next; need = f (part a.labels).need }))
    (λ q g. around a b c d p q front part xs f h k g) e

-- a tail behind a part
linked : (a b c : Body) (p q : ℕ) (one : Part) (tail : ℕ → ℕ → Part) → Puts a b p one → Puts b c q (tail p b.labels) → Puts a c q (chained one tail)
linked a b c p q one tail h k =
    let k' : Puts b c q (tail one.need one.next) = subst (λ (n : ℕ). Puts b c q (tail one.need n)) h.labels (subst (λ (m : ℕ). Puts b c q (tail m b.labels)) h.need k) in
    record { lines = behind a.lines.items b.lines.items c.lines.items one.items (tail one.need one.next).items h.lines k'.lines; labels = k'.labels; need = k'.need }

pub chain : {E : Type 0} (a b c : Body) (p : ℕ) (one : Part) (tail : ℕ → ℕ → Part) (res : Result ℕ E) → Puts a b p one → IfOk res (λ q. Puts b c q (tail p b.labels)) → IfOk res (λ q. Puts a c q (chained one tail))
chain a b c p one tail res h k = IfOk-weaker res (λ (q : ℕ). Puts b c q (tail p b.labels)) (λ (q : ℕ). Puts a c q (chained one tail)) (λ q g. linked a b c p q one tail h g) k

-- a part behind labels that were taken
pub after_labels : (a b c : Body) (p n : ℕ) (part : ℕ → Part) → b.labels ≡ n → b.lines.items ≡ a.lines.items → Puts b c p (part b.labels) → Puts a c p (part n)
after_labels a b c p n part l e h = puts_from a b c p n part e l h

pub all_after_labels : {E : Type 0} (a b c : Body) (n : ℕ) (part : ℕ → Part) (res : Result ℕ E) → b.labels ≡ n → b.lines.items ≡ a.lines.items → IfOk res (λ q. Puts b c q (part b.labels)) → IfOk res (λ q. Puts a c q (part n))
all_after_labels a b c n part res l e h = IfOk-weaker res (λ (q : ℕ). Puts b c q (part b.labels)) (λ (q : ℕ). Puts a c q (part n)) (λ q g. after_labels a b c q n part l e g) h
