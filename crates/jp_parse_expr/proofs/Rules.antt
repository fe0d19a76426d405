-- What each function of the parser answers, by what those that it calls answered.
use Rattle.std.proofs.Common.{◌≡◌, ℕ, zero, suc, ◌+◌, ◌-◌, ◌<◌, ◌≤◌, max, Bool, true, false, ◌||◌, IsTrue, List, [], ◌∷◌, ◌++◌, length, Option, Some, None, Result, Ok, Err, refl, sym, ap, ◌∙◌, subst, inl, inr, ◌⊎◌, arith}
use Rattle.std.specs.Borrow.{Bor}
use Rattle.jp_pred.specs.declared.ty.Ty.{Ty}
use Rattle.jp_ast.specs.declared.token.Place.{Place}
use Rattle.jp_ast.specs.declared.token.Token.{Token}
use Rattle.jp_ast.specs.declared.expr.Expr.{Expr}
use Rattle.jp_ast.specs.declared.sign.TheConstants as sign
use Rattle.jp_grammar.specs.declared.kind.Kind.{Kind}
use Rattle.jp_grammar.specs.declared.kind.Kind.TheVariants as k
use Rattle.jp_grammar.specs.declared.fault.ParseFault.{ParseFault}
use Rattle.jp_grammar.specs.declared.fault.ParseFault.TheVariants.{TooDeep, OutOfMemory}
use Rattle.jp_grammar.specs.Kinds.{Is, IsSign, IsName, Tokens, nowhere, place_of, kind_of_token, kind_of_lexeme}
use Rattle.jp_grammar.specs.Trees.{unary_at, binary_at, instance_at, cond_at, cast_at, named_at, called_at, index_at, super_at, new_at, array_at}
use Rattle.jp_grammar.specs.Expressions.{Expression, Choices, Alternative, Level, Chain, Unary, Plain, Postfix, Steps, Named, Primary, Bracketed, Closed, Args, MoreArgs, IsElement, name, number, text, truth, falsehood, nothing, receiver, parenthesis, super_call, new_object, strength, binds}
use Rattle.jp_grammar.specs.Reading.{Reads, Ends, Any, Never, Viable, Found, Fault, Fails, FailsWithin, Gives, Refused, RefusedName, Takes, Lacks}
use Rattle.jp_grammar.specs.Behind.{begins_plain, begins_expr, ends_level, ends_full, ends_primary}
use Rattle.jp_grammar.specs.Depth.{depth, depth_of_all, depth_of_option}
use Rattle.jp_grammar.proofs.Facts.{named_shorter}
use Rattle.jp_grammar.proofs.Depths.{depth_number, depth_unary, depth_binary, depth_instance, depth_cond, depth_cast, depth_index, depth_super, depth_new, depth_array, depth_all_push, depth_positive}
use Rattle.jp_grammar.proofs.Samples.{a_number, zero_expr}
use Rattle.jp_grammar.proofs.Chains.{joins, chain_stops, chain_full, sign_fails, sign_gives, instance_gives, instance_wrong}
use Rattle.jp_grammar.proofs.Parts.{choice_stops, choice_full, choice_fails, choice_gives, second_fails, second_found, second_wrong, bracketed_fails, bracketed_wrong, bracketed_found, steps_stop, steps_full, member_fails, member_gives, element_fails, element_gives}
use Rattle.jp_grammar.proofs.Names.{ReadAll, depth_named, depth_called, named_wrong, uncalled_found, called_fails, called_found, args_none, args_fails, args_gives, args_full, args_wrong, last_found, next_fails, next_gives, more_wrong}
use Rattle.jp_grammar.proofs.Prefixes.{is_prefix, prefix_fails, prefix_found, prefix_full, unary_wrong}
use Rattle.jp_parse_expr.specs.Ahead.{is_cast}
use Rattle.jp_parse_expr.specs.Parts.{Read, Continues, IsStep}
use Rattle.jp_parse_expr.specs.Literals.{literal_of, RefusedAs}
use Rattle.jp_parse_expr.proofs.Narrow.{Narrow, found_narrow, fails_narrow}

-- want of memory is a fault of each part
pub no_memory : {T : Type 0} {R : Reads T} {ends : T → Token → Bool} {follow : Token → Bool} {P : T → Type 0} {xs : Tokens} {e : ParseFault} → e ≡ OutOfMemory → Fails R ends follow P xs e
no_memory m = inl m

-- where no name stands
pub name_fails : {T : Type 0} {R : Reads T} {ends : T → Token → Bool} {follow : Token → Bool} {P : T → Type 0} {xs : Tokens} (c : Token) {e : ParseFault} →
    RefusedName c e → ((kind_of_token c ≡ k.Name → ⊥) → Refused c e → Fails R ends follow P xs e) → Fails R ends follow P xs e
name_fails c (inl m) f = inl m
name_fails c (inr r) f = f r.0 r.1

-- ---- signs and `instanceof`

module _ (at : Place) (n most : ℕ) (l : Expr) (s : Token) (xs tokens : Tokens) (split : tokens ≡ s ∷ xs) where
  pub chain_ends : (binds (kind_of_token s) ≡ Some n → ⊥) → Found (Chain at n l) (λ _. ends_level (suc n)) tokens l tokens
  chain_ends other = subst (λ (x : Tokens). Found (Chain at n l) (λ _. ends_level (suc n)) x l x) (sym split) (chain_stops at n l most s xs other)

  pub chain_deep : binds (kind_of_token s) ≡ Some n → depth l ≡ most → FailsWithin (Chain at n l) depth (ends_level (suc n)) most tokens (TooDeep s.place)
  chain_deep b full = subst (λ (x : Tokens). FailsWithin (Chain at n l) depth (ends_level (suc n)) most x (TooDeep s.place)) (sym split) (chain_full at n l most s xs b full)

module _ (at : Place) (n most : ℕ) (l : Expr) (s : Token) (xs : Tokens) (b : ℕ) (h : IsSign b s) (i : strength b ≡ Some n) (room : depth l + 1 ≤ most) where
  pub pair_continues : (t a : Expr) (d e g : ℕ) (zs : Bor Tokens) → g ≡ max d e → Found (Level n) (λ _. ends_level n) xs a zs.now → d ≡ depth l → e ≡ depth a → e ≤ most - 1 → t ≡ binary_at at b l a →
      Continues (Chain at n) (ends_level (suc n)) most l (s ∷ xs) (Ok (t, 1 + g, zs))
  pair_continues t a d e m' zs greater g dl da small same =
      let deep : depth t ≡ depth (binary_at at b l a) = ap depth same in
      let m = depth_binary at b l a in (
        λ r f. sign_gives at n l most s xs b zs.now a r h i room g (subst (λ (x : Expr). Gives (Chain at n x) depth (ends_level (suc n)) most zs.now r) same f),
        omega (arith, deep, m, dl, da, greater),
        omega (arith, dl, da, small, room, greater),
      )

  pub pair_fails : (e : ParseFault) → FailsWithin (Level n) depth (ends_level n) (most - 1) xs e → FailsWithin (Chain at n l) depth (ends_level (suc n)) most (s ∷ xs) e
  pair_fails e f = sign_fails at n l most s xs b e h i room f

module _ (at : Place) (n most : ℕ) (l : Expr) (s c : Token) (xs tokens : Tokens) (split : tokens ≡ c ∷ xs) (h : Is k.InstanceOf s) (i : n ≡ 3) (room : depth l + 1 ≤ most) where
  pub class_fails : (e : ParseFault) → RefusedName c e → FailsWithin (Chain at n l) depth (ends_level (suc n)) most (s ∷ tokens) e
  class_fails e r = name_fails c r (λ other w. subst (λ (x : Tokens). FailsWithin (Chain at n l) depth (ends_level (suc n)) most (s ∷ x) e) (sym split) (instance_wrong at n l most s c xs e h i room other w))

  pub class_continues : (word : List ℕ) (t : Expr) (d : ℕ) (zs : Bor Tokens) → IsName word c → zs.now ≡ xs → d ≡ depth l → t ≡ instance_at at l word →
      Continues (Chain at n) (ends_level (suc n)) most l (s ∷ tokens) (Ok (t, d + 1, zs))
  class_continues word t d zs m rest dl same =
      let deep : depth t ≡ depth (instance_at at l word) = ap depth same in
      let d' = depth_instance at l word in (
        λ r f. subst (λ (x : Tokens). Gives (Chain at n l) depth (ends_level (suc n)) most (s ∷ x) r) (sym split)
            (instance_gives at n l most s c xs word r h i m (subst (λ (y : Tokens). Gives (Chain at n (instance_at at l word)) depth (ends_level (suc n)) most y r) rest (subst (λ (x : Expr). Gives (Chain at n x) depth (ends_level (suc n)) most zs.now r) same f))),
        omega (arith, deep, d', dl),
        omega (arith, dl, room),
      )

-- the word is `instanceof` where it is no sign
pub instance_kind : (kind : Kind) (n : ℕ) → binds kind ≡ Some n → ((b : ℕ) → kind ≡ k.Sign b → ⊥) → (kind ≡ k.InstanceOf) × (n ≡ 3)
instance_kind kind n h none = elim (joins kind n h) [ inl j ↦ absurd (none j.0 j.1) | inr j ↦ j ]

pub sign_strength : (kind : Kind) (n b : ℕ) → binds kind ≡ Some n → kind ≡ k.Sign b → strength b ≡ Some n
sign_strength kind n b h e = sym (ap binds e) ∙ h

-- ---- steps

module _ (at : Place) (most : ℕ) (l : Expr) (s : Token) (xs tokens : Tokens) (split : tokens ≡ s ∷ xs) where
  pub steps_stops : (IsSign sign.DOT s → ⊥) → (IsSign sign.OPEN_BRACKET s → ⊥) → Found (Steps at l) (λ _. ends_level 0) tokens l tokens
  steps_stops d b = subst (λ (x : Tokens). Found (Steps at l) (λ _. ends_level 0) x l x) (sym split) (steps_stop at l most s xs d b)

  pub steps_deep : IsStep s → depth l ≡ most → FailsWithin (Steps at l) depth (ends_level 0) most tokens (TooDeep s.place)
  steps_deep h full = subst (λ (x : Tokens). FailsWithin (Steps at l) depth (ends_level 0) most x (TooDeep s.place)) (sym split) (steps_full at l most s xs h full)

module _ (at : Place) (most : ℕ) (l : Expr) (s : Token) (xs : Tokens) where
  pub member_continues : (r : Read) → IsSign sign.DOT s → Gives (Named at (Some l)) depth ends_primary most xs r → Continues (Steps at) (ends_level 0) most l (s ∷ xs) r
  member_continues (Ok x) h g = (λ r f. member_gives at l most s xs x.2.now x.0 r h g.0 f, g.1, g.2)
  member_continues (Err e) h g = member_fails at l most s xs e h g

  pub index_fails : (e : ParseFault) → IsSign sign.OPEN_BRACKET s → depth l + 1 ≤ most → FailsWithin Bracketed depth ends_primary (most - 1) xs e → FailsWithin (Steps at l) depth (ends_level 0) most (s ∷ xs) e
  index_fails e h room f = element_fails at l most s xs e h room f

  pub index_continues : (t a : Expr) (d e g : ℕ) (zs : Bor Tokens) → g ≡ max d e → IsSign sign.OPEN_BRACKET s → depth l + 1 ≤ most → Found Bracketed (λ _. ends_primary) xs a zs.now → d ≡ depth l → e ≡ depth a → e ≤ most - 1 → t ≡ index_at at l a →
      Continues (Steps at) (ends_level 0) most l (s ∷ xs) (Ok (t, 1 + g, zs))
  index_continues t a d e m' zs greater h room g dl da small same =
      let deep : depth t ≡ depth (index_at at l a) = ap depth same in
      let m = depth_index at l a in (
        λ r f. element_gives at l most s xs zs.now a r h room g (subst (λ (x : Expr). Gives (Steps at x) depth (ends_level 0) most zs.now r) same f),
        omega (arith, deep, m, dl, da, greater),
        omega (arith, dl, da, small, room, greater),
      )

-- ---- `?` and its parts

module _ (at : Place) (most : ℕ) (l : Expr) (s : Token) (xs tokens : Tokens) (split : tokens ≡ s ∷ xs) where
  pub choice_ends : (IsSign sign.QUESTION s → ⊥) → Found (Choices at l) (λ _. ends_full) tokens l tokens
  choice_ends other = subst (λ (x : Tokens). Found (Choices at l) (λ _. ends_full) x l x) (sym split) (choice_stops at l most s xs other)

  pub choice_deep : IsSign sign.QUESTION s → depth l ≡ most → FailsWithin (Choices at l) depth ends_full most tokens (TooDeep s.place)
  choice_deep h full = subst (λ (x : Tokens). FailsWithin (Choices at l) depth ends_full most x (TooDeep s.place)) (sym split) (choice_full at l most s xs h full)

  pub first_fails : (e : ParseFault) → IsSign sign.QUESTION s → depth l + 1 ≤ most → FailsWithin Expression depth ends_full (most - 1) xs e → FailsWithin (Choices at l) depth ends_full most tokens e
  first_fails e h room f = subst (λ (x : Tokens). FailsWithin (Choices at l) depth ends_full most x e) (sym split) (choice_fails at l most s xs e h room f)

  pub first_gives : (ys : Tokens) (a : Expr) (r : Read) → IsSign sign.QUESTION s → depth l + 1 ≤ most → Found Expression (λ _. ends_full) xs a ys →
      Gives (Alternative at l a) depth ends_full most ys r → Gives (Choices at l) depth ends_full most tokens r
  first_gives ys a r h room g f = subst (λ (x : Tokens). Gives (Choices at l) depth ends_full most x r) (sym split) (choice_gives at l most s xs ys a r h room g f)

module _ (at : Place) (most : ℕ) (l a : Expr) (s : Token) (xs tokens : Tokens) (split : tokens ≡ s ∷ xs) (room : depth l + 1 ≤ most) (small : depth a + 1 ≤ most) where
  pub colon_wrong : (e : ParseFault) → (IsSign sign.COLON s → ⊥) → Refused s e → FailsWithin (Alternative at l a) depth ends_full most tokens e
  colon_wrong e other r = subst (λ (x : Tokens). FailsWithin (Alternative at l a) depth ends_full most x e) (sym split) (second_wrong at l a most s xs e other r room (omega arith))

  pub colon_fails : (e : ParseFault) → IsSign sign.COLON s → FailsWithin Expression depth ends_full (most - 1) xs e → FailsWithin (Alternative at l a) depth ends_full most tokens e
  colon_fails e h f = subst (λ (x : Tokens). FailsWithin (Alternative at l a) depth ends_full most x e) (sym split) (second_fails at l a most s xs e h room (omega arith) f)

  pub colon_gives : (t b : Expr) (d e f g i : ℕ) (zs : Bor Tokens) → g ≡ max e f → i ≡ max d g → IsSign sign.COLON s → Found Expression (λ _. ends_full) xs b zs.now → d ≡ depth l → e ≡ depth a → f ≡ depth b → f ≤ most - 1 → t ≡ cond_at at l a b →
      Gives (Alternative at l a) depth ends_full most tokens (Ok (t, 1 + i, zs))
  colon_gives t b d e f m' n' zs first second h g dl da db less same =
      let deep : depth t ≡ depth (cond_at at l a b) = ap depth same in
      let m = depth_cond at l a b in (
        subst (λ (x : Tokens). Found (Alternative at l a) (λ _. ends_full) x t zs.now) (sym split) (subst (λ (u : Expr). Found (Alternative at l a) (λ _. ends_full) (s ∷ xs) u zs.now) (sym same) (second_found at l a most s xs b zs.now h g)),
        omega (arith, deep, m, dl, da, db, first, second),
        omega (arith, dl, da, db, less, room, small, first, second),
      )

-- ---- names

named_from : (s : Token) (xs zs : Tokens) (t : Expr) → Is k.Name s → Primary (s ∷ xs) t zs → Named s.place None (s ∷ xs) t zs
named_from s xs zs t h (number i) = let g : k.Number ≡ k.Name = sym (ap kind_of_lexeme i) ∙ h in cc
named_from s xs zs t h (text i) = let g : k.Text ≡ k.Name = sym (ap kind_of_lexeme i) ∙ h in cc
named_from s xs zs t h (truth i) = cc
named_from s xs zs t h (falsehood i) = cc
named_from s xs zs t h (nothing i) = cc
named_from s xs zs t h (receiver i) = cc
named_from s xs zs t h (parenthesis i c) = cc
named_from s xs zs t h (name n) = n
named_from s xs zs t h (super_call i e n p a) = cc
named_from s xs zs t h (new_object i n p a) = cc

named_narrow : (s : Token) → Is k.Name s → Narrow s (Named s.place None) Primary ends_primary
named_narrow s h = record {
  into = λ xs zs t r. name r;
  from = λ xs zs t r e. named_from s xs zs t h r;
  solid = λ xs t r. let d = named_shorter r in absurd (omega (arith, d));
}

primary_none : (most : ℕ) → 1 ≤ most → Viable Primary (λ _. ends_primary) ends_primary (λ t. depth t ≤ most) []
primary_none most room = λ zs e. (a_number ∷ [], zero_expr, number refl, e, let d = depth_number nowhere 0 false in omega (arith, d))

-- a name without an object is a primary
pub named_gives : (most : ℕ) (s : Token) (xs : Tokens) (r : Read) → 1 ≤ most → Is k.Name s → Gives (Named s.place None) depth ends_primary most (s ∷ xs) r → Gives Primary depth ends_primary most (s ∷ xs) r
named_gives most s xs (Ok x) room h g = (found_narrow (named_narrow s h) g.0, g.1, g.2)
named_gives most s xs (Err e) room h g = fails_narrow (named_narrow s h) ends_primary (λ t. depth t ≤ most) xs e (primary_none most room) g

module _ (at : Place) (o : Option Expr) (most : ℕ) (c : Token) (tokens : Tokens) (room : depth_of_option o + 1 ≤ most) where
  pub no_name : (e : ParseFault) → RefusedName c e → FailsWithin (Named at o) depth ends_primary most (c ∷ tokens) e
  no_name e r = name_fails c r (λ other w. named_wrong at o most c tokens e other w room)

  module _ (s : Token) (xs : Tokens) (split : tokens ≡ s ∷ xs) (word : List ℕ) (n : IsName word c) where
    pub plain_name : (t : Expr) (d : ℕ) (zs : Bor Tokens) → (IsSign sign.OPEN_PAREN s → ⊥) → zs.now ≡ tokens → d ≡ depth_of_option o → t ≡ named_at at o word → Gives (Named at o) depth ends_primary most (c ∷ tokens) (Ok (t, d + 1, zs))
    plain_name t d zs other rest da same =
        let found = subst (λ (x : Tokens). Found (Named at o) (λ _. ends_primary) (c ∷ x) (named_at at o word) x) (sym split) (uncalled_found at o most c s xs word n other) in
        let deep : depth t ≡ depth (named_at at o word) = ap depth same in
        let m = depth_named at o word in (
          subst (λ (y : Tokens). Found (Named at o) (λ _. ends_primary) (c ∷ tokens) t y) (sym rest) (subst (λ (u : Expr). Found (Named at o) (λ _. ends_primary) (c ∷ tokens) u tokens) (sym same) found),
          omega (arith, deep, m, da),
          omega (arith, da, room),
        )

    pub call_fails : (e : ParseFault) → IsSign sign.OPEN_PAREN s → FailsWithin Args depth_of_all ends_primary (most - 1) xs e → FailsWithin (Named at o) depth ends_primary most (c ∷ tokens) e
    call_fails e h f = subst (λ (x : Tokens). FailsWithin (Named at o) depth ends_primary most (c ∷ x) e) (sym split) (called_fails at o most c s xs word n e h room f)

    pub call_gives : (t : Expr) (ts : List Expr) (d e g : ℕ) (zs : Bor Tokens) → g ≡ max d e → IsSign sign.OPEN_PAREN s → Found Args (λ _. ends_primary) xs ts zs.now → d ≡ depth_of_option o → e ≡ depth_of_all ts → e ≤ most - 1 → t ≡ called_at at o word ts →
        Gives (Named at o) depth ends_primary most (c ∷ tokens) (Ok (t, 1 + g, zs))
    call_gives t ts d e m' zs greater h g dl da small same =
        let m = depth_called at o word ts in
        let deep : depth t ≡ depth (called_at at o word ts) = ap depth same in (
          subst (λ (x : Tokens). Found (Named at o) (λ _. ends_primary) (c ∷ x) t zs.now) (sym split) (subst (λ (u : Expr). Found (Named at o) (λ _. ends_primary) (c ∷ s ∷ xs) u zs.now) (sym same) (called_found at o most c s xs word n ts zs.now h g)),
          omega (arith, deep, m, dl, da, greater),
          omega (arith, dl, da, small, room, greater),
        )

-- ---- arguments

module _ (most : ℕ) (p : Token) (xs tokens : Tokens) (split : tokens ≡ p ∷ xs) where
  pub no_args_found : IsSign sign.CLOSE_PAREN p → Found Args (λ _. ends_primary) tokens [] xs
  no_args_found h = subst (λ (x : Tokens). Found Args (λ _. ends_primary) x [] xs) (sym split) (args_none most p xs h)

  pub no_args_wrong : (e : ParseFault) → (IsSign sign.CLOSE_PAREN p → ⊥) → (IsTrue (begins_expr (kind_of_token p)) → ⊥) → Refused p e → FailsWithin Args depth_of_all ends_primary most tokens e
  no_args_wrong e other b r = subst (λ (x : Tokens). FailsWithin Args depth_of_all ends_primary most x e) (sym split) (args_wrong most p xs e other b r)

  pub no_args_full : (IsSign sign.CLOSE_PAREN p → ⊥) → most ≡ 0 → IsTrue (begins_expr (kind_of_token p)) → FailsWithin Args depth_of_all ends_primary most tokens (TooDeep p.place)
  no_args_full other none b = subst (λ (x : Tokens). FailsWithin Args depth_of_all ends_primary most x (TooDeep p.place)) (sym split) (args_full most p xs other none b)

  pub first_arg_fails : (e : ParseFault) → (IsSign sign.CLOSE_PAREN p → ⊥) → FailsWithin Expression depth ends_full most tokens e → FailsWithin Args depth_of_all ends_primary most tokens e
  first_arg_fails e other f = subst (λ (x : Tokens). FailsWithin Args depth_of_all ends_primary most x e) (sym split) (args_fails most p xs e other (subst (λ (x : Tokens). FailsWithin Expression depth ends_full most x e) split f))

  pub first_arg_gives : (ys : Tokens) (a : Expr) (r : ReadAll) → (IsSign sign.CLOSE_PAREN p → ⊥) → Found Expression (λ _. ends_full) tokens a ys →
      Gives (MoreArgs (a ∷ [])) depth_of_all ends_primary most ys r → Gives Args depth_of_all ends_primary most tokens r
  first_arg_gives ys a r other g f = subst (λ (x : Tokens). Gives Args depth_of_all ends_primary most x r) (sym split) (args_gives most p xs ys a r other (subst (λ (x : Tokens). Found Expression (λ _. ends_full) x a ys) split g) f)

module _ (ts : List Expr) (most : ℕ) (p : Token) (xs tokens : Tokens) (split : tokens ≡ p ∷ xs) where
  pub list_ends : IsSign sign.CLOSE_PAREN p → Found (MoreArgs ts) (λ _. ends_primary) tokens ts xs
  list_ends h = subst (λ (x : Tokens). Found (MoreArgs ts) (λ _. ends_primary) x ts xs) (sym split) (last_found ts most p xs h)

  pub list_wrong : (e : ParseFault) → (IsSign sign.CLOSE_PAREN p → ⊥) → (IsSign sign.COMMA p → ⊥) → Refused p e → depth_of_all ts ≤ most → FailsWithin (MoreArgs ts) depth_of_all ends_primary most tokens e
  list_wrong e a b r small = subst (λ (x : Tokens). FailsWithin (MoreArgs ts) depth_of_all ends_primary most x e) (sym split) (more_wrong ts most p xs e a b r small)

  pub list_fails : (e : ParseFault) → IsSign sign.COMMA p → depth_of_all ts ≤ most → FailsWithin Expression depth ends_full most xs e → FailsWithin (MoreArgs ts) depth_of_all ends_primary most tokens e
  list_fails e h small f = subst (λ (x : Tokens). FailsWithin (MoreArgs ts) depth_of_all ends_primary most x e) (sym split) (next_fails ts most p xs e h small f)

  pub list_gives : (ys : Tokens) (a : Expr) (r : ReadAll) → IsSign sign.COMMA p → depth_of_all ts ≤ most → Found Expression (λ _. ends_full) xs a ys →
      Gives (MoreArgs (ts ++ a ∷ [])) depth_of_all ends_primary most ys r → Gives (MoreArgs ts) depth_of_all ends_primary most tokens r
  list_gives ys a r h small g f = subst (λ (x : Tokens). Gives (MoreArgs ts) depth_of_all ends_primary most x r) (sym split) (next_gives ts most p xs ys a r h small g f)

-- ---- prefixes

module _ (b most : ℕ) (s : Token) (xs : Tokens) (h : IsSign b s) (i : IsTrue (is_prefix b)) where
  pub prefix_gives : (t a : Expr) (d : ℕ) (zs : Bor Tokens) → 2 ≤ most → Found Unary (λ _. ends_level 0) xs a zs.now → d ≡ depth a → d ≤ most - 1 → t ≡ unary_at s.place b a →
      Gives Unary depth (ends_level 0) most (s ∷ xs) (Ok (t, d + 1, zs))
  prefix_gives t a d zs room g da small same =
      let m = depth_unary s.place b a in
      let deep : depth t ≡ depth (unary_at s.place b a) = ap depth same in (
        subst (λ (x : Expr). Found Unary (λ _. ends_level 0) (s ∷ xs) x zs.now) (sym same) (prefix_found b most s xs h i a zs.now g),
        omega (arith, deep, m, da),
        omega (arith, small, room),
      )
