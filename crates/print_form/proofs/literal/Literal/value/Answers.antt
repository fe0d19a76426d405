use Rattle.std.proofs.Common.{◌≡◌, Bool, sym, ap, ◌∙◌, rules, w32, to_z, of_z, neg_ℤ, pos, if◌then◌else◌}
use Rattle.std.specs.Int.{int_wrap}
use Rattle.std.proofs.lemmas.Int.{to_z-of_z}
use Rattle.print_form.proofs.Values.{signed_is, negated_is}
use Rattle.print_form.proofs.literal.Literal.value.Goals as goal

pub returns-then-self : goal.returns-then-self
returns-then-self c =
    let size : c.cast_signed-size.result ≡ int_wrap w32 (pos c.args.self.size) = c.cast_signed-size.ensures ∙ signed_is c.args.self.size (search rules) in
    let kept : to_z w32 (of_z w32 c.wrapping_neg.result) ≡ c.wrapping_neg.result = search (rules, to_z-of_z) in
    let kept_size : to_z w32 (of_z w32 c.cast_signed-size.result) ≡ c.cast_signed-size.result = search (rules, to_z-of_z) in
    kept ∙ c.wrapping_neg.ensures ∙ negated_is c.args.self.size _ (kept_size ∙ size) ∙ ap (λ (b : Bool). int_wrap w32 (if b then neg_ℤ (pos c.args.self.size) else pos c.args.self.size)) (sym c.if-self.true)

pub returns-else-self : goal.returns-else-self
returns-else-self c =
    let size : c.cast_signed-size.result ≡ int_wrap w32 (pos c.args.self.size) = c.cast_signed-size.ensures ∙ signed_is c.args.self.size (search rules) in
    let kept : to_z w32 (of_z w32 c.cast_signed-size.result) ≡ c.cast_signed-size.result = search (rules, to_z-of_z) in
    kept ∙ size ∙ ap (λ (b : Bool). int_wrap w32 (if b then neg_ℤ (pos c.args.self.size) else pos c.args.self.size)) (sym c.if-self.false)
