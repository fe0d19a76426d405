-- The first tokens tell the declaration of a local variable from a change.
use Rattle.std.proofs.Common.{◌≡◌, ℕ, Bool, true, false, ◌&&◌, ◌||◌, IsTrue, List, [], ◌∷◌, ◌++◌, None, refl, sym, ap, ◌∙◌, subst, inl, inr, ◌⊎◌}
use Rattle.jp_pred.specs.declared.ty.Ty.{Ty}
use Rattle.jp_pred.specs.declared.ty.Ty.TheVariants as ty
use Rattle.jp_ast.specs.declared.token.Place.{Place}
use Rattle.jp_ast.specs.declared.token.Token.{Token}
use Rattle.jp_ast.specs.declared.expr.Expr.{Expr}
use Rattle.jp_ast.specs.declared.stmt.Stmt.{Stmt}
use Rattle.jp_ast.specs.declared.sign.TheConstants as sign
use Rattle.jp_grammar.specs.declared.kind.Kind.{Kind}
use Rattle.jp_grammar.specs.declared.kind.Kind.TheVariants as k
use Rattle.jp_grammar.specs.Kinds.{Is, IsSign, IsName, Tokens, place_of, kind_of_token, kind_of_lexeme, is_sign_kind, is_sign_of}
use Rattle.jp_grammar.specs.Expressions.{Postfix, Primary, Steps, Named, Bracketed, IsElement, postfix, postfix_array, steps_end, member, element, uncalled, called, number, text, truth, falsehood, nothing, receiver, parenthesis, name, super_call, new_object, new_array, bracketed}
use Rattle.jp_grammar.specs.Statements.{OneType, Change, element_type, array_type}
use Rattle.jp_grammar.specs.Reading.{Ends, Begins}
use Rattle.jp_grammar.specs.Behind.{ends_level, ends_kind, begins_expr}
use Rattle.jp_grammar.proofs.Excluding.{or_cases, or_left, or_right}
use Rattle.jp_grammar.proofs.Facts.{expression_begins}
use Rattle.jp_parse_expr.proofs.Signs.{sign_is}
use Rattle.jp_parse_stmt.specs.Behind.{ends_change, change_kind}
use Rattle.jp_parse_stmt.specs.Parts.{Sealed, Shut}
use Rattle.jp_parse_stmt.proofs.Changes.{changed_from, changed_starts}
use Rattle.jp_parse_stmt.specs.Locals.{is_name, closes, names_local, local_kind, begins_local, NameOf, name_of, Head}

is_false : (x : Bool) → (IsTrue x → ⊥) → x ≡ false
is_false true h = absurd (h refl)
is_false false h = refl

both_left : (a b : Bool) → IsTrue (a && b) → IsTrue a
both_left true b h = refl
both_left false b h = cc

both_right : (a b : Bool) → IsTrue (a && b) → IsTrue b
both_right true b h = h
both_right false b h = cc

name_kind : (kind : Kind) → IsTrue (is_name kind) → kind ≡ k.Name
name_kind k.Name h = refl
name_kind _ h = cc

names_no : (s : Token) (xs : Tokens) → (Is k.Name s → ⊥) → (IsSign sign.OPEN_BRACKET s → IsTrue (closes xs) → ⊥) → names_local (s ∷ xs) ≡ false
names_no s xs n o = is_false (names_local (s ∷ xs)) (λ h. elim (or_cases (is_name (kind_of_token s)) (is_sign_of sign.OPEN_BRACKET s && closes xs) h) [
  | inl i ↦ n (name_kind (kind_of_token s) i)
  | inr i ↦ o (sign_is sign.OPEN_BRACKET s (both_left (is_sign_of sign.OPEN_BRACKET s) (closes xs) i)) (both_right (is_sign_of sign.OPEN_BRACKET s) (closes xs) i)
])

ends_no_name : (kind : Kind) → IsTrue (ends_kind 0 kind) → kind ≡ k.Name → ⊥
ends_no_name kind e h = let g : IsTrue (ends_kind 0 k.Name) = subst (λ (x : Kind). IsTrue (ends_kind 0 x)) h e in cc

ends_no_open : (kind : Kind) → IsTrue (ends_kind 0 kind) → kind ≡ k.Sign sign.OPEN_BRACKET → ⊥
ends_no_open kind e h = let g : IsTrue (ends_kind 0 (k.Sign sign.OPEN_BRACKET)) = subst (λ (x : Kind). IsTrue (ends_kind 0 x)) h e in cc

begins_no_close : (xs : Tokens) → Begins begins_expr xs → IsTrue (closes xs) → ⊥
begins_no_close [] b h = absurd b
begins_no_close (s ∷ xs) b h =
    let i : IsSign sign.CLOSE_BRACKET s = sign_is sign.CLOSE_BRACKET s h in
    let g : IsTrue (begins_expr (k.Sign sign.CLOSE_BRACKET)) = subst (λ (x : Kind). IsTrue (begins_expr x)) i b in
    cc

bracketed_no_close : (xs zs : Tokens) (t : Expr) → Bracketed xs t zs → IsTrue (closes xs) → ⊥
bracketed_no_close xs zs t (bracketed e q) h = begins_no_close xs (expression_begins e) h

-- no name and no `[` `]` stand behind a name in a change
names_steps : (at : Place) (l t : Expr) (ws ys : Tokens) → Steps at l ws t ys → Ends (ends_level 0) ys → names_local ws ≡ false
names_steps at l t [] ys steps_end e = absurd e
names_steps at l t (s ∷ xs) ys steps_end e = names_no s xs (ends_no_name (kind_of_token s) e) (λ i c. ends_no_open (kind_of_token s) e i)
names_steps at l t ws ys (member {s = s} {xs = xs} h n r) e = names_no s xs (λ i. cc) (λ i c. let g : sign.DOT ≡ sign.OPEN_BRACKET = cc in cc)
names_steps at l t ws ys (element {s = s} {xs = xs} h n r) e = names_no s xs (λ i. cc) (λ i c. bracketed_no_close xs _ _ n c)

-- a local variable's kind where the kind is no type's
other_kind : (kind : Kind) (s : Token) (xs : Tokens) → kind_of_token s ≡ kind → local_kind kind xs ≡ false → begins_local (s ∷ xs) ≡ false
other_kind kind s xs h e = ap (λ (x : Kind). local_kind x xs) h ∙ e

named_no_local : (at : Place) (l t : Expr) (xs ws ys : Tokens) → Named at None xs l ws → Steps at l ws t ys → Ends (ends_level 0) ys → begins_local xs ≡ false
named_no_local at l t xs ws ys (uncalled {c = c} n) r e = other_kind k.Name c ws n.1 (names_steps at l t ws ys r e)
named_no_local at l t xs ws ys (called {c = c} {s = s} {xs = zs} n o a) r e = other_kind k.Name c (s ∷ zs) n.1 (names_no s zs (λ i. cc) (λ i q. let g : sign.OPEN_PAREN ≡ sign.OPEN_BRACKET = cc in cc))

primary_no_local : (at : Place) (l t : Expr) (xs ws ys : Tokens) → at ≡ place_of xs → Primary xs l ws → Steps at l ws t ys → Ends (ends_level 0) ys → begins_local xs ≡ false
primary_no_local at l t xs ws ys u (number {s = s} h) r e = other_kind k.Number s ws (ap kind_of_lexeme h) refl
primary_no_local at l t xs ws ys u (text {s = s} h) r e = other_kind k.Text s ws (ap kind_of_lexeme h) refl
primary_no_local at l t xs ws ys u (truth {s = s} h) r e = other_kind k.True s ws h refl
primary_no_local at l t xs ws ys u (falsehood {s = s} h) r e = other_kind k.False s ws h refl
primary_no_local at l t xs ws ys u (nothing {s = s} h) r e = other_kind k.Null s ws h refl
primary_no_local at l t xs ws ys u (receiver {s = s} h) r e = other_kind k.This s ws h refl
primary_no_local at l t xs ws ys u (parenthesis {s = s} h c) r e = other_kind (k.Sign sign.OPEN_PAREN) s _ h refl
primary_no_local at l t xs ws ys u (name n) r e = named_no_local at l t xs ws ys (subst (λ (p : Place). Named p None xs l ws) (sym u) n) r e
primary_no_local at l t xs ws ys u (super_call {s = s} h d n o a) r e = other_kind k.Super s _ h refl
primary_no_local at l t xs ws ys u (new_object {s = s} h n o a) r e = other_kind k.New s _ h refl

postfix_no_local : (t : Expr) (xs ys : Tokens) → Postfix xs t ys → Ends (ends_level 0) ys → begins_local xs ≡ false
postfix_no_local t xs ys (postfix {ys = ws} {l = l} p r) e = primary_no_local (place_of xs) l t xs ws ys refl p r e
postfix_no_local t xs ys (postfix_array (new_array {s = s} h n o b) m r) e = other_kind k.New s _ h refl

sealed_change : (a t : Stmt) (ys zs : Tokens) → Sealed sign.SEMICOLON a ys t zs → Ends ends_change ys
sealed_change a t [] zs r = absurd r
sealed_change a t (s ∷ ys) zs r = ap (λ (x : Kind). change_kind x) r.0

-- a change and `;` don't begin as a local variable does
pub shut_no_local : (xs zs : Tokens) (t : Stmt) → Shut sign.SEMICOLON Change xs t zs → begins_local xs ≡ false
shut_no_local xs zs t r =
    let w = changed_from xs r.1 r.0 r.2 in
    postfix_no_local w.0.1 xs w.1 w.2.1 (changed_starts w.0.0 w.0.1 w.1 r.1 r.0 w.3 (sealed_change r.0 t r.1 zs r.3))

-- ---- the declaration of a local variable

elem_local : (t : Ty) (s : Token) (xs : Tokens) → IsElement t s → names_local xs ≡ true → begins_local (s ∷ xs) ≡ true
elem_local ty.Int s xs i n = ap (λ (x : Kind). local_kind x xs) i
elem_local ty.Boolean s xs i n = ap (λ (x : Kind). local_kind x xs) i
elem_local (ty.Class class) s xs i n = ap (λ (x : Kind). local_kind x xs) i.1 ∙ n
elem_local _ s xs i n = absurd i

both : (a b : Bool) → a ≡ true → b ≡ true → IsTrue (a && b)
both a b h i = rw (h, i) refl

name_local : (c : Token) (word : List ℕ) (ys : Tokens) → IsName word c → names_local (c ∷ ys) ≡ true
name_local c word ys n = or_left (is_name (kind_of_token c)) (is_sign_of sign.OPEN_BRACKET c && closes ys) (ap is_name n.1)

array_local : (o p : Token) (ys : Tokens) → IsSign sign.OPEN_BRACKET o → IsSign sign.CLOSE_BRACKET p → names_local (o ∷ p ∷ ys) ≡ true
array_local o p ys h i = or_right (is_name (kind_of_token o)) (is_sign_of sign.OPEN_BRACKET o && is_sign_of sign.CLOSE_BRACKET p)
    (both (is_sign_of sign.OPEN_BRACKET o) (is_sign_of sign.CLOSE_BRACKET p) (ap (is_sign_kind sign.OPEN_BRACKET) h) (ap (is_sign_kind sign.CLOSE_BRACKET) i))

type_local : (t : Ty) (xs ws : Tokens) → OneType xs t ws → names_local ws ≡ true → begins_local xs ≡ true
type_local t xs ws (element_type {s = s} i) n = elem_local t s ws i n
type_local t xs ws (array_type {s = s} {o = o} {p = p} elem i h q) n = elem_local elem s (o ∷ p ∷ ws) i (array_local o p ws h q)

named_local : (t : Ty) (x : Ty × List ℕ) (ws ys : Tokens) → NameOf t ws x ys → names_local ws ≡ true
named_local t x ws ys (name_of {c = c} {name = word} n) = name_local c word ys n

-- a type and a name begin as a local variable does
pub head_local : (xs ys : Tokens) (x : Ty × List ℕ) → Head xs x ys → begins_local xs ≡ true
head_local xs ys x r = type_local r.0 xs r.1 r.2 (named_local r.0 x r.1 ys r.3)

-- ---- how many tokens tell

kind_depends : (kind : Kind) (xs ys : Tokens) → (local_kind kind xs ≡ local_kind kind ys) ⊎ (kind ≡ k.Name)
kind_depends k.Name xs ys = inr refl
kind_depends _ xs ys = inl refl

kind_then : (kind : Kind) (xs ys : Tokens) → names_local xs ≡ names_local ys → local_kind kind xs ≡ local_kind kind ys
kind_then k.Name xs ys e = e
kind_then _ xs ys e = refl

either_depends : (n x c c' : Bool) → ((n || (x && c)) ≡ (n || (x && c'))) ⊎ (x ≡ true)
either_depends n true c c' = inr refl
either_depends n false c c' = inl refl

names_depend : (next : Token) (more more' : Tokens) → (names_local (next ∷ more) ≡ names_local (next ∷ more')) ⊎ IsSign sign.OPEN_BRACKET next
names_depend next more more' = elim (either_depends (is_name (kind_of_token next)) (is_sign_of sign.OPEN_BRACKET next) (closes more) (closes more')) [
  | inl e ↦ inl e
  | inr e ↦ inr (sign_is sign.OPEN_BRACKET next e)
]

closes_same : (front : Tokens) (next : Token) (more more' : Tokens) → closes (front ++ next ∷ more) ≡ closes (front ++ next ∷ more')
closes_same [] next more more' = refl
closes_same (s ∷ front) next more more' = refl

-- the tokens tell, but for a name alone, or a name and `[`
abbrev pub Untold : Tokens → Token → Type 0
Untold front next = ((front ≡ []) × Is k.Name next) ⊎ ((a : Token) × (front ≡ a ∷ []) × Is k.Name a × IsSign sign.OPEN_BRACKET next)

pub depends : (front : Tokens) (next : Token) (more more' : Tokens) → (begins_local (front ++ next ∷ more) ≡ begins_local (front ++ next ∷ more')) ⊎ Untold front next
depends [] next more more' = elim (kind_depends (kind_of_token next) more more') [
  | inl e ↦ inl e
  | inr n ↦ inr (inl (refl, n))
]
depends (a ∷ []) next more more' = elim (kind_depends (kind_of_token a) (next ∷ more) (next ∷ more')) [
  | inl e ↦ inl e
  | inr n ↦ elim (names_depend next more more') [
    | inl e ↦ inl (kind_then (kind_of_token a) (next ∷ more) (next ∷ more') e)
    | inr o ↦ inr (inr (a, refl, n, o))
  ]
]
depends (a ∷ b ∷ front) next more more' = inl (kind_then (kind_of_token a) (b ∷ (front ++ next ∷ more)) (b ∷ (front ++ next ∷ more'))
    (ap (λ (x : Bool). is_name (kind_of_token b) || (is_sign_of sign.OPEN_BRACKET b && x)) (closes_same front next more more')))
