-- What is created, and calls of `super`.
use Rattle.std.proofs.Common.{◌≡◌, ℕ, zero, suc, ◌+◌, ◌-◌, ◌<◌, ◌≤◌, max, Bool, true, false, IsTrue, List, [], ◌∷◌, ◌++◌, length, Option, Some, None, Result, Ok, Err, refl, sym, ap, ◌∙◌, subst, inl, inr, ◌⊎◌, append_assoc, arith}
use Rattle.std.specs.Borrow.{Bor}
use Rattle.jp_pred.specs.declared.ty.Ty.{Ty}
use Rattle.jp_pred.specs.declared.ty.Ty.TheVariants as ty
use Rattle.jp_ast.specs.declared.token.Place.{Place}
use Rattle.jp_ast.specs.declared.token.Token.{Token}
use Rattle.jp_ast.specs.declared.token.Lexeme.TheVariants as lexeme
use Rattle.jp_ast.specs.declared.expr.Expr.{Expr}
use Rattle.jp_ast.specs.declared.sign.TheConstants as sign
use Rattle.jp_grammar.specs.declared.kind.Kind.{Kind}
use Rattle.jp_grammar.specs.declared.kind.Kind.TheVariants as k
use Rattle.jp_grammar.specs.declared.fault.ParseFault.{ParseFault}
use Rattle.jp_grammar.specs.declared.fault.ParseFault.TheVariants.{TooDeep}
use Rattle.jp_grammar.specs.Kinds.{Is, IsSign, IsName, Tokens, nowhere, kind_of_token, kind_of_lexeme}
use Rattle.jp_grammar.specs.Trees.{super_at, new_at, array_at}
use Rattle.jp_grammar.specs.Expressions.{Primary, Postfix, Named, NewArray, Steps, Bracketed, Args, IsElement, NoBracket, number, text, truth, falsehood, nothing, receiver, parenthesis, name, uncalled, called, super_call, new_object, new_array, postfix, postfix_array, steps_end, member, element, no_args}
use Rattle.jp_grammar.specs.Reading.{Reads, Ends, Any, Never, Viable, SameHead, Follows, Found, Fault, Fails, FailsWithin, Gives, Refused, Takes, Lacks}
use Rattle.jp_grammar.specs.Behind.{ends_level, ends_primary, ends_kind}
use Rattle.jp_grammar.specs.Depth.{depth, depth_of_all}
use Rattle.jp_grammar.proofs.Sequence.{Then, found_image, fails_image}
use Rattle.jp_grammar.proofs.Outcome.{Joint, Same, image_of, gives_then, gives_same, fails_begun, fails_at, deep_at}
use Rattle.jp_grammar.proofs.Facts.{steps_starts, steps_depth, level_primary_all}
use Rattle.jp_grammar.proofs.Depths.{depth_number, depth_super, depth_new, depth_array, depth_positive}
use Rattle.jp_grammar.proofs.Samples.{a_number, a_name, a_name_is, a_sign, zero_expr}
use Rattle.jp_grammar.proofs.Parts.{bracketed_number}
use Rattle.jp_parse_expr.specs.Parts.{Read, ArraySteps}

-- ---- `super`

-- the parts of what begins with `super`
record SuperParts (s : Token) (ys : Tokens) (t : Expr) (zs : Tokens) : Type 0 where
  dot : Token
  called_name : Token
  paren : Token
  more : Tokens
  split : ys ≡ dot ∷ called_name ∷ paren ∷ more
  is_dot : IsSign sign.DOT dot
  word : List ℕ
  is_name : IsName word called_name
  is_paren : IsSign sign.OPEN_PAREN paren
  args : List Expr
  reads : Args more args zs
  tree : t ≡ super_at s.place word args

super_parts : (s : Token) (ys zs : Tokens) (t : Expr) → Is k.Super s → Primary (s ∷ ys) t zs → SuperParts s ys t zs
super_parts s ys zs t h (number i) = let g : k.Number ≡ k.Super = sym (ap kind_of_lexeme i) ∙ h in cc
super_parts s ys zs t h (text i) = let g : k.Text ≡ k.Super = sym (ap kind_of_lexeme i) ∙ h in cc
super_parts s ys zs t h (truth i) = cc
super_parts s ys zs t h (falsehood i) = cc
super_parts s ys zs t h (nothing i) = cc
super_parts s ys zs t h (receiver i) = cc
super_parts s ys zs t h (parenthesis i c) = cc
super_parts s ys zs t h (name (uncalled n)) = let g = n.1 in cc
super_parts s ys zs t h (name (called n i a)) = let g = n.1 in cc
super_parts s ys zs t h (super_call {d = d} {c = c} {o = o} {xs = xs} {word = w} {ts = ts} i e n p a) = record {
  dot = d;
  called_name = c;
  paren = o;
  more = xs;
  split = refl;
  is_dot = e;
  word = w;
  is_name = n;
  is_paren = p;
  args = ts;
  reads = a;
  tree = refl;
}
super_parts s ys zs t h (new_object i n o a) = cc

-- `super.a()`
super_none : (s : Token) (zs : Tokens) → Is k.Super s → Primary (s ∷ a_sign sign.DOT ∷ a_name ∷ a_sign sign.OPEN_PAREN ∷ a_sign sign.CLOSE_PAREN ∷ zs) (super_at s.place (97 ∷ []) []) zs
super_none s zs h = super_call h refl a_name_is refl (no_args refl)

super_small : (s : Token) (w : List ℕ) → depth (super_at s.place w []) ≡ 1
super_small s w = let d = depth_super s.place w [] in omega (arith, d)

new_small : (s : Token) (w : List ℕ) → depth (new_at s.place w []) ≡ 1
new_small s w = let d = depth_new s.place w [] in omega (arith, d)

module _ (most : ℕ) (room : 1 ≤ most) (s : Token) (h : Is k.Super s) where
  super_no_dot : (next : Token) (more zs : Tokens) (t : Expr) → (IsSign sign.DOT next → ⊥) → Primary (s ∷ next ∷ more) t zs → ⊥
  super_no_dot next more zs t other r =
      let p = super_parts s (next ∷ more) zs t h r in
      let same : p.dot ≡ next = cc (p.split) in
      other (subst (λ (x : Token). IsSign sign.DOT x) same p.is_dot)

  -- no `.` stands there
  pub super_wrong_dot : (xs : Tokens) (e : ParseFault) → Lacks sign.DOT xs e → FailsWithin Primary depth ends_primary most (s ∷ xs) e
  super_wrong_dot xs e l =
      subst (λ (x : Tokens). FailsWithin Primary depth ends_primary most (s ∷ x) e) (sym l.split)
      (fails_at Primary ends_primary (λ t. depth t ≤ most) (s ∷ []) l.first l.rest e l.refused
      (λ zs e'. (a_sign sign.DOT ∷ a_name ∷ a_sign sign.OPEN_PAREN ∷ a_sign sign.CLOSE_PAREN ∷ [], super_at s.place (97 ∷ []) [], super_none s zs h, e', let d = super_small s (97 ∷ []) in omega (arith, d)))
      (λ more zs t r e' q. super_no_dot l.first more zs t l.other r))

  module _ (d : Token) (i : IsSign sign.DOT d) where
    super_no_name : (next : Token) (more zs : Tokens) (t : Expr) → (kind_of_token next ≡ k.Name → ⊥) → Primary (s ∷ d ∷ next ∷ more) t zs → ⊥
    super_no_name next more zs t other r =
        let p = super_parts s (d ∷ next ∷ more) zs t h r in
        let same : p.called_name ≡ next = cc (p.split) in
        other (subst (λ (x : Token). Is k.Name x) same p.is_name.1)

    -- no name stands there
    pub super_wrong_name : (next : Token) (xs : Tokens) (e : ParseFault) → (kind_of_token next ≡ k.Name → ⊥) → Refused next e → FailsWithin Primary depth ends_primary most (s ∷ d ∷ next ∷ xs) e
    super_wrong_name next xs e other r = fails_at Primary ends_primary (λ t. depth t ≤ most) (s ∷ d ∷ []) next xs e r
        (λ zs e'. (a_name ∷ a_sign sign.OPEN_PAREN ∷ a_sign sign.CLOSE_PAREN ∷ [], super_at s.place (97 ∷ []) [], super_call h i a_name_is refl (no_args refl), e', let d' = super_small s (97 ∷ []) in omega (arith, d')))
        (λ more zs t r' e' q. super_no_name next more zs t other r')

    module _ (c : Token) (word : List ℕ) (n : IsName word c) where
      super_no_paren : (next : Token) (more zs : Tokens) (t : Expr) → (IsSign sign.OPEN_PAREN next → ⊥) → Primary (s ∷ d ∷ c ∷ next ∷ more) t zs → ⊥
      super_no_paren next more zs t other r =
          let p = super_parts s (d ∷ c ∷ next ∷ more) zs t h r in
          let same : p.paren ≡ next = cc (p.split) in
          other (subst (λ (x : Token). IsSign sign.OPEN_PAREN x) same p.is_paren)

      -- no `(` stands there
      pub super_wrong_paren : (xs : Tokens) (e : ParseFault) → Lacks sign.OPEN_PAREN xs e → FailsWithin Primary depth ends_primary most (s ∷ d ∷ c ∷ xs) e
      super_wrong_paren xs e l =
          subst (λ (x : Tokens). FailsWithin Primary depth ends_primary most (s ∷ d ∷ c ∷ x) e) (sym l.split)
          (fails_at Primary ends_primary (λ t. depth t ≤ most) (s ∷ d ∷ c ∷ []) l.first l.rest e l.refused
          (λ zs e'. (a_sign sign.OPEN_PAREN ∷ a_sign sign.CLOSE_PAREN ∷ [], super_at s.place word [], super_call h i n refl (no_args refl), e', let d' = super_small s word in omega (arith, d')))
          (λ more zs t r e' q. super_no_paren l.first more zs t l.other r))

      super_from : (o : Token) (xs zs : Tokens) (t : Expr) → Primary (s ∷ d ∷ c ∷ o ∷ xs) t zs → (ts : List Expr) × (t ≡ super_at s.place word ts) × Args xs ts zs
      super_from o xs zs t r =
          let p = super_parts s (d ∷ c ∷ o ∷ xs) zs t h r in
          let same : p.called_name ≡ c = cc (p.split) in
          let tail : p.more ≡ xs = cc (p.split) in
          let n' : IsName p.word c = subst (λ (x : Token). IsName p.word x) same p.is_name in
          let words : lexeme.Word p.word ≡ lexeme.Word word = sym n'.0 ∙ n.0 in
          let word_same : p.word ≡ word = cc in
          (p.args, p.tree ∙ ap (λ w. super_at s.place w p.args) word_same, subst (λ (x : Tokens). Args x p.args zs) tail p.reads)

      super_same : (o : Token) → IsSign sign.OPEN_PAREN o → (P : List Expr → Type 0) (Q : Expr → Type 0) → ((ts : List Expr) → P ts → Q (super_at s.place word ts)) → ((ts : List Expr) → Q (super_at s.place word ts) → P ts) →
          Same (s ∷ d ∷ c ∷ o ∷ []) (super_at s.place word) Args Primary ends_primary P Q
      super_same o j P Q up down = record {
        into = λ xs zs ts r. super_call h i n j r;
        from = λ xs zs t r e. super_from o xs zs t r;
        up = up;
        down = down;
      }

      -- the arguments fail
      pub super_fails : (o : Token) (xs : Tokens) (e : ParseFault) → IsSign sign.OPEN_PAREN o → FailsWithin Args depth_of_all ends_primary (most - 1) xs e → FailsWithin Primary depth ends_primary most (s ∷ d ∷ c ∷ o ∷ xs) e
      super_fails o xs e j f = fails_image (image_of (super_same o j (λ ts. depth_of_all ts ≤ most - 1) (λ t. depth t ≤ most)
          (λ ts q. let d' = depth_super s.place word ts in omega (arith, d')) (λ ts q. let d' = depth_super s.place word ts in omega (arith, d')))) ends_primary xs e f

      -- the arguments
      pub super_found : (o : Token) (xs zs : Tokens) (ts : List Expr) → IsSign sign.OPEN_PAREN o → Found Args (λ _. ends_primary) xs ts zs → Found Primary (λ _. ends_primary) (s ∷ d ∷ c ∷ o ∷ xs) (super_at s.place word ts) zs
      super_found o xs zs ts j f = found_image (image_of (super_same o j Any Any (λ ts q. tt) (λ ts q. tt))) f

-- ---- `new`

-- the parts of a created object and its steps
record ObjectParts (s : Token) (ys : Tokens) (t : Expr) (zs : Tokens) : Type 0 where
  class_token : Token
  paren : Token
  more : Tokens
  behind : Tokens
  split : ys ≡ class_token ∷ paren ∷ more
  class : List ℕ
  is_name : IsName class class_token
  is_paren : IsSign sign.OPEN_PAREN paren
  args : List Expr
  reads : Args more args behind
  steps : Steps s.place (new_at s.place class args) behind t zs

-- the parts of a created array and its steps
record ArrayParts (s : Token) (ys : Tokens) (t : Expr) (zs : Tokens) : Type 0 where
  elem_token : Token
  bracket : Token
  more : Tokens
  behind : Tokens
  split : ys ≡ elem_token ∷ bracket ∷ more
  elem_type : Ty
  is_elem : IsElement elem_type elem_token
  is_bracket : IsSign sign.OPEN_BRACKET bracket
  size : Expr
  reads : Bracketed more size behind
  no_bracket : NoBracket behind
  steps : Steps s.place (array_at s.place elem_type size) behind t zs

primary_parts : (s : Token) (ys ws zs : Tokens) (l t : Expr) → Is k.New s → Primary (s ∷ ys) l ws → Steps s.place l ws t zs → ObjectParts s ys t zs
primary_parts s ys ws zs l t h (number i) r = let g : k.Number ≡ k.New = sym (ap kind_of_lexeme i) ∙ h in cc
primary_parts s ys ws zs l t h (text i) r = let g : k.Text ≡ k.New = sym (ap kind_of_lexeme i) ∙ h in cc
primary_parts s ys ws zs l t h (truth i) r = cc
primary_parts s ys ws zs l t h (falsehood i) r = cc
primary_parts s ys ws zs l t h (nothing i) r = cc
primary_parts s ys ws zs l t h (receiver i) r = cc
primary_parts s ys ws zs l t h (parenthesis i c) r = cc
primary_parts s ys ws zs l t h (name (uncalled n)) r = let g = n.1 in cc
primary_parts s ys ws zs l t h (name (called n i a)) r = let g = n.1 in cc
primary_parts s ys ws zs l t h (super_call i e n p a) r = cc
primary_parts s ys ws zs l t h (new_object {c = c} {o = o} {xs = xs} {class = w} {ts = ts} i n p a) r = record {
  class_token = c;
  paren = o;
  more = xs;
  behind = ws;
  split = refl;
  class = w;
  is_name = n;
  is_paren = p;
  args = ts;
  reads = a;
  steps = r;
}

new_parts : (s : Token) (ys zs : Tokens) (t : Expr) → Is k.New s → Postfix (s ∷ ys) t zs → ObjectParts s ys t zs ⊎ ArrayParts s ys t zs
new_parts s ys zs t h (postfix {ys = ws} {l = l} p r) = inl (primary_parts s ys ws zs l t h p r)
new_parts s ys zs t h (postfix_array {ys = ws} (new_array {c = c} {o = o} {xs = xs} {elem = elem} {size = size} i e p b) m r) = inr (record {
  elem_token = c;
  bracket = o;
  more = xs;
  behind = ws;
  split = refl;
  elem_type = elem;
  is_elem = e;
  is_bracket = p;
  size = size;
  reads = b;
  no_bracket = m;
  steps = r;
})

-- an element is a name, `int` or `boolean`
element_kind : (elem : Ty) (c : Token) → IsElement elem c → (Is k.Name c → ⊥) → (Is k.Int c → ⊥) → (Is k.Boolean c → ⊥) → ⊥
element_kind ty.Void c e n i b = e
element_kind ty.Int c e n i b = i e
element_kind ty.Boolean c e n i b = b e
element_kind (ty.Class class) c e n i b = n e.1
element_kind ty.IntArray c e n i b = e
element_kind ty.BooleanArray c e n i b = e
element_kind (ty.ClassArray class) c e n i b = e

element_same : (a b : Ty) (c : Token) → IsElement a c → IsElement b c → b ≡ a
element_same ty.Void b c h i = absurd h
element_same ty.IntArray b c h i = absurd h
element_same ty.BooleanArray b c h i = absurd h
element_same (ty.ClassArray class) b c h i = absurd h
element_same ty.Int ty.Int c h i = refl
element_same ty.Int ty.Boolean c h i = cc
element_same ty.Int (ty.Class class) c h i = let g = i.1 in cc
element_same ty.Int ty.Void c h i = absurd i
element_same ty.Int ty.IntArray c h i = absurd i
element_same ty.Int ty.BooleanArray c h i = absurd i
element_same ty.Int (ty.ClassArray class) c h i = absurd i
element_same ty.Boolean ty.Boolean c h i = refl
element_same ty.Boolean ty.Int c h i = cc
element_same ty.Boolean (ty.Class class) c h i = let g = i.1 in cc
element_same ty.Boolean ty.Void c h i = absurd i
element_same ty.Boolean ty.IntArray c h i = absurd i
element_same ty.Boolean ty.BooleanArray c h i = absurd i
element_same ty.Boolean (ty.ClassArray class) c h i = absurd i
element_same (ty.Class class) (ty.Class class') c h i = let words : lexeme.Word class ≡ lexeme.Word class' = sym h.0 ∙ i.0 in cc
element_same (ty.Class class) ty.Int c h i = let g = h.1 in cc
element_same (ty.Class class) ty.Boolean c h i = let g = h.1 in cc
element_same (ty.Class class) ty.Void c h i = absurd i
element_same (ty.Class class) ty.IntArray c h i = absurd i
element_same (ty.Class class) ty.BooleanArray c h i = absurd i
element_same (ty.Class class) (ty.ClassArray class') c h i = absurd i

-- `new a()`
new_none : (s : Token) (zs : Tokens) → Is k.New s → Postfix (s ∷ a_name ∷ a_sign sign.OPEN_PAREN ∷ a_sign sign.CLOSE_PAREN ∷ zs) (new_at s.place (97 ∷ []) []) zs
new_none s zs h = postfix (new_object h a_name_is refl (no_args refl)) steps_end

no_bracket_behind : (zs : Tokens) → Ends (ends_level 0) zs → NoBracket zs
no_bracket_behind [] e = tt
no_bracket_behind (s ∷ zs) e = λ h. let g = ap (ends_kind 0) h in cc

-- `new elem[0]`
array_zero : (s c : Token) (elem : Ty) (zs : Tokens) → Is k.New s → IsElement elem c → Ends (ends_level 0) zs → Postfix (s ∷ c ∷ a_sign sign.OPEN_BRACKET ∷ a_number ∷ a_sign sign.CLOSE_BRACKET ∷ zs) (array_at s.place elem zero_expr) zs
array_zero s c elem zs h i e = postfix_array (new_array h i refl (bracketed_number zs)) (no_bracket_behind zs e) steps_end

array_small : (s : Token) (elem : Ty) → depth (array_at s.place elem zero_expr) ≡ 2
array_small s elem = let d = depth_array s.place elem zero_expr in let z : depth zero_expr ≡ 1 = depth_number nowhere 0 false in omega (arith, d, z)

array_deep : {s : Token} {ys zs : Tokens} {t : Expr} → ArrayParts s ys t zs → 2 ≤ depth t
array_deep {s} {ys} {zs} {t} p =
    let d = depth_array s.place p.elem_type p.size in
    let d' = steps_depth p.steps in
    let m = depth_positive p.size in
    omega (arith, d, d', m)

-- ---- steps behind an array

same_cons : {s s' : Token} {xs xs' : Tokens} → s ∷ xs ≡ s' ∷ xs' → s' ≡ s
same_cons h = cc

no_bracket_same : (next : Token) (ys zs : Tokens) → (IsSign sign.OPEN_BRACKET next → ⊥) → SameHead (next ∷ ys) zs → NoBracket zs
no_bracket_same next ys [] lacks h = tt
no_bracket_same next ys (z ∷ zs) lacks h = subst (λ (x : Token). IsSign sign.OPEN_BRACKET x → ⊥) (sym h) lacks

module _ (at : Place) (l : Expr) (next : Token) (ys : Tokens) (lacks : IsSign sign.OPEN_BRACKET next → ⊥) where
  no_bracket_front : (front zs ws : Tokens) → next ∷ ys ≡ front ++ zs → Follows (ends_level 0) zs ws → NoBracket (front ++ ws)
  no_bracket_front [] zs ws split (inl e) = no_bracket_behind ws e
  no_bracket_front [] zs ws split (inr h) = no_bracket_same next ys ws lacks (subst (λ (x : Tokens). SameHead x ws) (sym split) h)
  no_bracket_front (s ∷ front) zs ws split f = subst (λ (x : Token). IsSign sign.OPEN_BRACKET x → ⊥) (sym (same_cons split)) lacks

  array_steps_found : (t : Expr) (zs : Tokens) → Found (Steps at l) (λ _. ends_level 0) (next ∷ ys) t zs → Found (ArraySteps at l) (λ _. ends_level 0) (next ∷ ys) t zs
  array_steps_found t zs g = record {
    front = g.front;
    split = g.split;
    reads = λ ws f. (no_bracket_front g.front zs ws g.split f, g.reads ws f);
    only = λ ws zs' u f r e. g.only ws zs' u f r.1 e;
  }

  array_viable : (P : Expr → Type 0) → ((t : Expr) → depth l ≤ depth t → P t → P l) → (front zs : Tokens) → next ∷ ys ≡ front ++ zs → Viable (Steps at l) (λ _. ends_level 0) (ends_level 0) P front → Viable (ArraySteps at l) (λ _. ends_level 0) (ends_level 0) P front
  array_viable P down [] zs split v = λ ws e. let w = v ws e in ([], l, (no_bracket_behind ws e, steps_end), e, down w.1 (steps_depth w.2) w.4)
  array_viable P down (s ∷ front) zs split v = λ ws e. let w = v ws e in (w.0, w.1, (subst (λ (x : Token). IsSign sign.OPEN_BRACKET x → ⊥) (sym (same_cons split)) lacks, w.2), w.3, w.4)

  array_fault : (most : ℕ) (e : ParseFault) → Fault (Steps at l) (λ _. ends_level 0) (ends_level 0) (λ t. depth t ≤ most) e (next ∷ ys) → Fault (ArraySteps at l) (λ _. ends_level 0) (ends_level 0) (λ t. depth t ≤ most) e (next ∷ ys)
  array_fault most e g = record {
    front = g.front;
    next = g.next;
    more = g.more;
    split = g.split;
    tells = g.tells;
    viable = array_viable (λ t. depth t ≤ most) (λ t d q. omega (arith, d, q)) g.front (g.next ∷ g.more) g.split g.viable;
    never = λ more zs t r e' q. g.never more zs t r.1 e' q;
    never_deeper = λ h. λ more zs t r e' q. g.never_deeper h more zs t r.1 e' q;
    deeper = λ h. array_viable Any (λ t d q. tt) (g.front ++ g.next ∷ []) g.more (g.split ∙ sym (append_assoc g.front (g.next ∷ []) g.more)) (g.deeper h);
  }

  pub array_steps : (most : ℕ) (r : Read) → Gives (Steps at l) depth (ends_level 0) most (next ∷ ys) r → Gives (ArraySteps at l) depth (ends_level 0) most (next ∷ ys) r
  array_steps most (Ok x) g = (array_steps_found x.0 x.2.now g.0, g.1, g.2)
  array_steps most (Err e) (inl m) = inl m
  array_steps most (Err e) (inr g) = inr (array_fault most e g)

module _ (most : ℕ) (room : 1 ≤ most) (s : Token) (h : Is k.New s) where
  new_no_elem : (next : Token) (more zs : Tokens) (t : Expr) → (Is k.Name next → ⊥) → (Is k.Int next → ⊥) → (Is k.Boolean next → ⊥) → Postfix (s ∷ next ∷ more) t zs → ⊥
  new_no_elem next more zs t n i b r = elim (new_parts s (next ∷ more) zs t h r) [
    | inl p ↦ let same : p.class_token ≡ next = cc (p.split) in n (subst (λ (x : Token). Is k.Name x) same p.is_name.1)
    | inr p ↦ let same : p.elem_token ≡ next = cc (p.split) in element_kind p.elem_type next (subst (λ (x : Token). IsElement p.elem_type x) same p.is_elem) n i b
  ]

  -- no type stands there
  pub new_wrong : (next : Token) (xs : Tokens) (e : ParseFault) → (Is k.Name next → ⊥) → (Is k.Int next → ⊥) → (Is k.Boolean next → ⊥) → Refused next e → FailsWithin Postfix depth (ends_level 0) most (s ∷ next ∷ xs) e
  new_wrong next xs e n i b r = fails_at Postfix (ends_level 0) (λ t. depth t ≤ most) (s ∷ []) next xs e r
      (λ zs e'. (a_name ∷ a_sign sign.OPEN_PAREN ∷ a_sign sign.CLOSE_PAREN ∷ [], new_at s.place (97 ∷ []) [], new_none s zs h, e', let d = new_small s (97 ∷ []) in omega (arith, d)))
      (λ more zs t r' e' q. new_no_elem next more zs t n i b r')

  -- ---- behind a name

  module _ (c : Token) (word : List ℕ) (n : IsName word c) where
    -- `new word()`
    word_none : (zs : Tokens) → Postfix (s ∷ c ∷ a_sign sign.OPEN_PAREN ∷ a_sign sign.CLOSE_PAREN ∷ zs) (new_at s.place word []) zs
    word_none zs = postfix (new_object h n refl (no_args refl)) steps_end

    class_no_sign : (next : Token) (more zs : Tokens) (t : Expr) → (IsSign sign.OPEN_PAREN next → ⊥) → (IsSign sign.OPEN_BRACKET next → ⊥) → Postfix (s ∷ c ∷ next ∷ more) t zs → ⊥
    class_no_sign next more zs t p b r = elim (new_parts s (c ∷ next ∷ more) zs t h r) [
      | inl o ↦ let same : o.paren ≡ next = cc (o.split) in p (subst (λ (x : Token). IsSign sign.OPEN_PAREN x) same o.is_paren)
      | inr o ↦ let same : o.bracket ≡ next = cc (o.split) in b (subst (λ (x : Token). IsSign sign.OPEN_BRACKET x) same o.is_bracket)
    ]

    -- neither `(` nor `[` stands there
    pub class_wrong : (next : Token) (xs : Tokens) (e : ParseFault) → (IsSign sign.OPEN_PAREN next → ⊥) → (IsSign sign.OPEN_BRACKET next → ⊥) → Refused next e → FailsWithin Postfix depth (ends_level 0) most (s ∷ c ∷ next ∷ xs) e
    class_wrong next xs e p b r = fails_at Postfix (ends_level 0) (λ t. depth t ≤ most) (s ∷ c ∷ []) next xs e r
        (λ zs e'. (a_sign sign.OPEN_PAREN ∷ a_sign sign.CLOSE_PAREN ∷ [], new_at s.place word [], word_none zs, e', let d = new_small s word in omega (arith, d)))
        (λ more zs t r' e' q. class_no_sign next more zs t p b r')

    class_never : (o : Token) (more zs : Tokens) (t : Expr) → IsSign sign.OPEN_BRACKET o → most ≡ 1 → Postfix (s ∷ c ∷ o ∷ more) t zs → depth t ≤ most → ⊥
    class_never o more zs t b one r q = elim (new_parts s (c ∷ o ∷ more) zs t h r) [
      | inl p ↦
          let same : p.paren ≡ o = cc (p.split) in
          let i : IsSign sign.OPEN_PAREN o = subst (λ (x : Token). IsSign sign.OPEN_PAREN x) same p.is_paren in
          let g : sign.OPEN_PAREN ≡ sign.OPEN_BRACKET = cc in
          absurd (omega (arith, g))
      | inr p ↦ let d = array_deep p in absurd (omega (arith, d))
    ]

    -- there is no room for a size
    pub class_full : (o : Token) (xs : Tokens) → IsSign sign.OPEN_BRACKET o → most ≡ 1 → FailsWithin Postfix depth (ends_level 0) most (s ∷ c ∷ o ∷ xs) (TooDeep o.place)
    class_full o xs b one = deep_at Postfix (ends_level 0) (λ t. depth t ≤ most) (s ∷ c ∷ []) o xs
        (λ zs e. (a_sign sign.OPEN_PAREN ∷ a_sign sign.CLOSE_PAREN ∷ [], new_at s.place word [], word_none zs, e, let d = new_small s word in omega (arith, d)))
        (λ more zs t r e q. class_never o more zs t b one r q)
        (λ zs e. (a_number ∷ a_sign sign.CLOSE_BRACKET ∷ [], array_at s.place (ty.Class word) zero_expr, postfix_array (new_array h n b (bracketed_number zs)) (no_bracket_behind zs e) steps_end, e, tt))

    object_from : (o : Token) (xs zs : Tokens) (t : Expr) → IsSign sign.OPEN_PAREN o → Postfix (s ∷ c ∷ o ∷ xs) t zs → Then Args (λ ts. Steps s.place (new_at s.place word ts)) xs t zs
    object_from o xs zs t j r = elim (new_parts s (c ∷ o ∷ xs) zs t h r) [
      | inl p ↦
          let same : p.class_token ≡ c = cc (p.split) in
          let tail : p.more ≡ xs = cc (p.split) in
          let n' : IsName p.class c = subst (λ (x : Token). IsName p.class x) same p.is_name in
          let words : lexeme.Word p.class ≡ lexeme.Word word = sym n'.0 ∙ n.0 in
          let word_same : p.class ≡ word = cc in
          (p.args, p.behind, subst (λ (x : Tokens). Args x p.args p.behind) tail p.reads, subst (λ (w : List ℕ). Steps s.place (new_at s.place w p.args) p.behind t zs) word_same p.steps)
      | inr p ↦
          let same : p.bracket ≡ o = cc (p.split) in
          let i : IsSign sign.OPEN_BRACKET o = subst (λ (x : Token). IsSign sign.OPEN_BRACKET x) same p.is_bracket in
          let g : sign.OPEN_PAREN ≡ sign.OPEN_BRACKET = cc in
          absurd (omega (arith, g))
    ]

    object_same : (o : Token) → IsSign sign.OPEN_PAREN o → Same (s ∷ c ∷ o ∷ []) (λ t. t) (Then Args (λ ts. Steps s.place (new_at s.place word ts))) Postfix (ends_level 0) (λ t. depth t ≤ most) (λ t. depth t ≤ most)
    object_same o j = record {
      into = λ xs zs t r. postfix (new_object h n j r.2) r.3;
      from = λ xs zs t r e. (t, refl, object_from o xs zs t j r);
      up = λ a q. q;
      down = λ a q. q;
    }

    object_joint : Joint Args (λ ts. Steps s.place (new_at s.place word ts)) ends_primary (ends_level 0) (λ ts. depth_of_all ts ≤ most - 1) (λ t. depth t ≤ most)
    object_joint = record {
      starts = λ a ys zs t r e. steps_starts r e;
      down = λ a ys zs t r q. let d = steps_depth r in let d' = depth_new s.place word a in omega (arith, d, d');
      close = [];
      follows = λ zs e. level_primary_all zs e;
      closed = λ a zs e. (new_at s.place word a, steps_end, λ q. let d' = depth_new s.place word a in omega (arith, d'));
    }

    -- the arguments fail
    pub object_fails : (o : Token) (xs : Tokens) (e : ParseFault) → IsSign sign.OPEN_PAREN o → FailsWithin Args depth_of_all ends_primary (most - 1) xs e → FailsWithin Postfix depth (ends_level 0) most (s ∷ c ∷ o ∷ xs) e
    object_fails o xs e j f = gives_same (object_same o j) xs (Err e) (fails_begun object_joint xs e f)

    -- the steps behind the arguments
    pub object_gives : (o : Token) (xs ys : Tokens) (ts : List Expr) (r : Read) → IsSign sign.OPEN_PAREN o → Found Args (λ _. ends_primary) xs ts ys → Gives (Steps s.place (new_at s.place word ts)) depth (ends_level 0) most ys r →
        Gives Postfix depth (ends_level 0) most (s ∷ c ∷ o ∷ xs) r
    object_gives o xs ys ts r j g f = gives_same (object_same o j) xs r (gives_then object_joint xs ys ts r g f)

  -- ---- behind a type

  module _ (c : Token) (elem : Ty) (i : IsElement elem c) where
    simple_never : (more zs : Tokens) (t : Expr) → (Is k.Name c → ⊥) → most ≡ 1 → Postfix (s ∷ c ∷ more) t zs → depth t ≤ most → ⊥
    simple_never more zs t other one r q = elim (new_parts s (c ∷ more) zs t h r) [
      | inl p ↦ let same : p.class_token ≡ c = cc (p.split) in other (subst (λ (x : Token). Is k.Name x) same p.is_name.1)
      | inr p ↦ let d = array_deep p in absurd (omega (arith, d))
    ]

    -- there is no room for a size
    pub simple_full : (xs : Tokens) → (Is k.Name c → ⊥) → most ≡ 1 → FailsWithin Postfix depth (ends_level 0) most (s ∷ c ∷ xs) (TooDeep c.place)
    simple_full xs other one = deep_at Postfix (ends_level 0) (λ t. depth t ≤ most) (s ∷ []) c xs
        (λ zs e. (a_name ∷ a_sign sign.OPEN_PAREN ∷ a_sign sign.CLOSE_PAREN ∷ [], new_at s.place (97 ∷ []) [], new_none s zs h, e, let d = new_small s (97 ∷ []) in omega (arith, d)))
        (λ more zs t r e q. simple_never more zs t other one r q)
        (λ zs e. (a_sign sign.OPEN_BRACKET ∷ a_number ∷ a_sign sign.CLOSE_BRACKET ∷ [], array_at s.place elem zero_expr, array_zero s c elem zs h i e, e, tt))

    simple_no_sign : (next : Token) (more zs : Tokens) (t : Expr) → (Is k.Name c → ⊥) → (IsSign sign.OPEN_BRACKET next → ⊥) → Postfix (s ∷ c ∷ next ∷ more) t zs → ⊥
    simple_no_sign next more zs t other b r = elim (new_parts s (c ∷ next ∷ more) zs t h r) [
      | inl p ↦ let same : p.class_token ≡ c = cc (p.split) in other (subst (λ (x : Token). Is k.Name x) same p.is_name.1)
      | inr p ↦ let same : p.bracket ≡ next = cc (p.split) in b (subst (λ (x : Token). IsSign sign.OPEN_BRACKET x) same p.is_bracket)
    ]

    -- no `[` stands there
    pub simple_wrong : (next : Token) (xs : Tokens) (e : ParseFault) → (Is k.Name c → ⊥) → 2 ≤ most → (IsSign sign.OPEN_BRACKET next → ⊥) → Refused next e → FailsWithin Postfix depth (ends_level 0) most (s ∷ c ∷ next ∷ xs) e
    simple_wrong next xs e other two b r = fails_at Postfix (ends_level 0) (λ t. depth t ≤ most) (s ∷ c ∷ []) next xs e r
        (λ zs e'. (a_sign sign.OPEN_BRACKET ∷ a_number ∷ a_sign sign.CLOSE_BRACKET ∷ [], array_at s.place elem zero_expr, array_zero s c elem zs h i e', e', let d = array_small s elem in omega (arith, d)))
        (λ more zs t r' e' q. simple_no_sign next more zs t other b r')

    module _ (o : Token) (j : IsSign sign.OPEN_BRACKET o) (two : 2 ≤ most) where
      array_from : (xs zs : Tokens) (t : Expr) → Postfix (s ∷ c ∷ o ∷ xs) t zs → Then Bracketed (λ z. ArraySteps s.place (array_at s.place elem z)) xs t zs
      array_from xs zs t r = elim (new_parts s (c ∷ o ∷ xs) zs t h r) [
        | inl p ↦
            let same : p.paren ≡ o = cc (p.split) in
            let i' : IsSign sign.OPEN_PAREN o = subst (λ (x : Token). IsSign sign.OPEN_PAREN x) same p.is_paren in
            let g : sign.OPEN_PAREN ≡ sign.OPEN_BRACKET = cc in
            absurd (omega (arith, g))
        | inr p ↦
            let same : p.elem_token ≡ c = cc (p.split) in
            let tail : p.more ≡ xs = cc (p.split) in
            let i' : IsElement p.elem_type c = subst (λ (x : Token). IsElement p.elem_type x) same p.is_elem in
            let types : p.elem_type ≡ elem = element_same elem p.elem_type c i i' in
            (p.size, p.behind, subst (λ (x : Tokens). Bracketed x p.size p.behind) tail p.reads, (p.no_bracket, subst (λ (w : Ty). Steps s.place (array_at s.place w p.size) p.behind t zs) types p.steps))
      ]

      array_same : Same (s ∷ c ∷ o ∷ []) (λ t. t) (Then Bracketed (λ z. ArraySteps s.place (array_at s.place elem z))) Postfix (ends_level 0) (λ t. depth t ≤ most) (λ t. depth t ≤ most)
      array_same = record {
        into = λ xs zs t r. postfix_array (new_array h i j r.2) r.3.0 r.3.1;
        from = λ xs zs t r e. (t, refl, array_from xs zs t r);
        up = λ a q. q;
        down = λ a q. q;
      }

      array_joint : Joint Bracketed (λ z. ArraySteps s.place (array_at s.place elem z)) ends_primary (ends_level 0) (λ t. depth t ≤ most - 1) (λ t. depth t ≤ most)
      array_joint = record {
        starts = λ a ys zs t r e. steps_starts r.1 e;
        down = λ a ys zs t r q. let d = steps_depth r.1 in let d' = depth_array s.place elem a in omega (arith, d, d');
        close = [];
        follows = λ zs e. level_primary_all zs e;
        closed = λ a zs e. (array_at s.place elem a, (no_bracket_behind zs e, steps_end), λ q. let d' = depth_array s.place elem a in omega (arith, d'));
      }

      -- the size fails
      pub array_fails : (xs : Tokens) (e : ParseFault) → FailsWithin Bracketed depth ends_primary (most - 1) xs e → FailsWithin Postfix depth (ends_level 0) most (s ∷ c ∷ o ∷ xs) e
      array_fails xs e f = gives_same array_same xs (Err e) (fails_begun array_joint xs e f)

      array_gives_steps : (xs ys : Tokens) (z : Expr) (r : Read) → Found Bracketed (λ _. ends_primary) xs z ys → Gives (ArraySteps s.place (array_at s.place elem z)) depth (ends_level 0) most ys r →
          Gives Postfix depth (ends_level 0) most (s ∷ c ∷ o ∷ xs) r
      array_gives_steps xs ys z r g f = gives_same array_same xs r (gives_then array_joint xs ys z r g f)

      -- the steps behind the size
      pub array_gives : (xs ys : Tokens) (z : Expr) (next : Token) (r : Read) → Found Bracketed (λ _. ends_primary) xs z (next ∷ ys) → (IsSign sign.OPEN_BRACKET next → ⊥) →
          Gives (Steps s.place (array_at s.place elem z)) depth (ends_level 0) most (next ∷ ys) r → Gives Postfix depth (ends_level 0) most (s ∷ c ∷ o ∷ xs) r
      array_gives xs ys z next r g b f = array_gives_steps xs (next ∷ ys) z r g (array_steps s.place (array_at s.place elem z) next ys b most r f)

      -- a `[` stands behind the size
      pub array_wrong : (xs ys : Tokens) (z : Expr) (next : Token) (e : ParseFault) → Found Bracketed (λ _. ends_primary) xs z (next ∷ ys) → depth z + 1 ≤ most → IsSign sign.OPEN_BRACKET next → Refused next e →
          FailsWithin Postfix depth (ends_level 0) most (s ∷ c ∷ o ∷ xs) e
      array_wrong xs ys z next e g small b r =
          array_gives_steps xs (next ∷ ys) z (Err e) g
          (fails_at (ArraySteps s.place (array_at s.place elem z)) (ends_level 0) (λ t. depth t ≤ most) [] next ys e r
          (λ zs e'. ([], array_at s.place elem z, (no_bracket_behind zs e', steps_end), e', let d = depth_array s.place elem z in omega (arith, d)))
          (λ more zs t r' e' q. r'.0 b))
