-- What makes the code of expressions short, form by form.
use Rattle.std.proofs.Common.{◌≡◌, ℕ, ◌+◌, ◌*◌, ◌≤◌, Bool, true, false, not, List, [], ◌∷◌, ◌++◌, Option, Some, None, refl, arith}
use Rattle.std.specs.Prelude.{max, negsuc}
use Rattle.jp_pred.specs.Kinds.{is_reference}
use Rattle.jp_store.specs.declared.value.Kind.{Kind}
use Rattle.jp_store.specs.declared.operator.BinaryOp.TheVariants.{Xor}
use Rattle.jp_store.specs.declared.operator.Test.{Test}
use Rattle.jp_store.specs.Work.{NamedElement}
use Rattle.jp_meaning.specs.Signs.{Prefix, Plus, Minus, Not, Complement, Infix, Operates, Compares, AndThen, OrElse}
use Rattle.jvm_table.specs.declared.instr.Instr.TheVariants.{PushNull, PushInt, PopTop, Binary}
use Rattle.code_asm.specs.Items.{Item, Plain, Branch, Mark}
use Rattle.gen_body.specs.Codes.{Codes, SpotCodes, Row, Literal, Zero, Nil, Anything, Coded, jump_where, jump_by, plain, void, judged, choose_truth, and_test, or_test, make_array, prefix_codes, compare_both, compare_codes, infix_codes, local_codes, array_codes, called, no_spot, local_spot}
use Rattle.gen_body.specs.Statements.{parts_of}
use Rattle.gen_bounds.proofs.Weights as weights
use Rattle.gen_bounds.proofs.Weights.{weigh, weigh_join, weigh_end, weigh_both, weigh_choose, array_weight}

-- an instruction weighs a, a call of an interface's method i and a label m; a node may have so much
module _ (a i m node : ℕ) (fair : 4 * a + 3 * m ≤ node) where
  abbrev pub w : List Item → ℕ
  w = weigh a i m

  -- code with labels from n on, of an expression with k nodes. A value may be dropped, and may be jumped by
  pub record ShortCodes (k n : ℕ) (c : Codes) : Type 0 where
    pub value : w c.value + a ≤ node * k
    pub test : (want : Bool) (label : ℕ) → w (c.test want label) ≤ node * k
    pub done : w c.done ≤ node * k
    pub next : c.next ≤ n + 3 * k
    pub need : c.need ≤ 2 * k

  -- the parts of what is assigned to
  pub record ShortSpot (k n : ℕ) (s : SpotCodes) : Type 0 where
    pub items : w s.items + node ≤ node * k
    pub next : s.next ≤ n + 3 * k
    pub need : s.need ≤ 2 * k
    pub parts : parts_of s.place + 1 ≤ k

  pub record ShortCoded (k : ℕ) (x : Coded) : Type 0 where
    pub some : 1 ≤ k
    pub codes : (n : ℕ) → ShortCodes k n (x.codes n)
    pub spot : (n : ℕ) → ShortSpot k n (x.spot n)

  pub record ShortRow (k n : ℕ) (r : Row) : Type 0 where
    pub items : w r.items ≤ node * k
    pub next : r.next ≤ n + 3 * k
    pub need : r.need ≤ 2 * k

  pub plain_short : (items : List Item) (need next k n : ℕ) → w items + a ≤ node * k → next ≤ n + 3 * k → need ≤ 2 * k → ShortCodes k n (plain items need next)
  plain_short items need next k n h f g = record {
    value = h;
    test = λ want label. let e = weigh_end a i m items (Branch (jump_where want) label) in omega arith;
    done = let e = weigh_end a i m items (Plain PopTop) in omega arith;
    next = f;
    need = g;
  }

  pub void_short : (items : List Item) (need next k n : ℕ) → w items + 2 * a ≤ node * k → next ≤ n + 3 * k → max need 1 ≤ 2 * k → ShortCodes k n (void items need next)
  void_short items need next k n h f g =
      let e = weigh_end a i m items (Plain PushNull) in
      record {
        value = omega arith;
        test = λ want label. let d = weigh_end a i m (items ++ Plain PushNull ∷ []) (Branch (jump_where want) label) in omega arith;
        done = omega arith;
        next = f;
        need = g;
      }

  pub judged_short : (test : Bool → ℕ → List Item) (start need next k n : ℕ) → ((want : Bool) (label : ℕ) → w (test want label) + (4 * a + 2 * m) ≤ node * k) → next ≤ n + 3 * k → max need 1 ≤ 2 * k → ShortCodes k n (judged test start need next)
  judged_short test start need next k n h f g =
      let t = h false start in
      let e = weigh_choose a i m (test false start) start in
      record {
        value = omega arith;
        test = λ want label. let u = h want label in omega arith;
        done = let d = weigh_end a i m (test false start ++ choose_truth start) (Plain PopTop) in omega arith;
        next = f;
        need = g;
      }

  pub called_short : (o : Option Kind) (items : List Item) (need next k n : ℕ) → w items + 2 * a ≤ node * k → next ≤ n + 3 * k → max need 1 ≤ 2 * k → ShortCodes k n (called o items need next)
  called_short None items need next k n h f g = void_short items need next k n h f g
  called_short (Some kind) items need next k n h f g = plain_short items (max need 1) next k n (omega arith) f g

  pub none_short : (k n : ℕ) → ShortCodes (1 + k) n (plain [] 0 n)
  none_short k n = plain_short [] 0 n (1 + k) n (omega arith) (omega arith) (omega arith)

  -- an expression with a single instruction
  pub single_short : (item : Item) (n : ℕ) → weights.weight a i m item ≤ a → ShortCodes 1 n (plain (item ∷ []) 1 n)
  single_short item n h = plain_short (item ∷ []) 1 n 1 n (omega arith) (omega arith) (omega arith)

  -- a value with an instruction behind it
  pub behind_short : (c : Codes) (item : Item) (k n : ℕ) → ShortCodes k n c → weights.weight a i m item ≤ a → ShortCodes (1 + k) n (plain (c.value ++ item ∷ []) c.need c.next)
  behind_short c item k n h l = plain_short (c.value ++ item ∷ []) c.need c.next (1 + k) n (let e = weigh_end a i m c.value item in omega arith) (omega arith) (omega arith)

  pub no_spot_short : (k n : ℕ) → ShortSpot (1 + k) n (no_spot n)
  no_spot_short k n = record { items = omega arith; next = omega arith; need = omega arith; parts = omega arith }

  pub prefix_short : (o : Option Prefix) (x : Coded) (k : ℕ) → ShortCoded k x → (n : ℕ) → ShortCodes (1 + k) n (prefix_codes o x n)
  prefix_short None x k h n = none_short k n
  prefix_short (Some Plus) x k h n =
      let c = x.codes n in let l = h.codes n in
      plain_short c.value c.need c.next (1 + k) n (omega arith) (omega arith) (omega arith)
  prefix_short (Some Minus) x k h n = behind_short (x.codes n) _ k n (h.codes n) (omega arith)
  prefix_short (Some Complement) x k h n =
      let c = x.codes n in let l = h.codes n in
      plain_short _ (max c.need 2) c.next (1 + k) n (let e = weigh_join a i m c.value (Plain (PushInt (negsuc 0)) ∷ Plain (Binary Xor) ∷ []) in omega arith) (omega arith) (omega arith)
  prefix_short (Some Not) x k h n =
      let c = x.codes (n + 2) in let l = h.codes (n + 2) in
      judged_short (λ want label. c.test (not want) label) n c.need c.next (1 + k) n (λ want label. let t = l.test (not want) label in omega arith) (omega arith) (omega arith)

  both_short : (references : Bool) (test : Test) (x y : Coded) (k l : ℕ) → ShortCoded k x → ShortCoded l y → (n : ℕ) → ShortCodes (1 + (k + l)) n (compare_both references test x y n)
  both_short references test x y k l h j n =
      let c = x.codes (n + 2) in let d = y.codes c.next in let p = h.codes (n + 2) in let q = j.codes c.next in
      let some = j.some in
      judged_short _ n (max c.need (1 + d.need)) d.next (1 + (k + l)) n (λ want label. let e = weigh_both a i m c.value d.value (Branch (jump_by references test want) label) in omega arith) (omega arith) (omega arith)

  zero_short : (test : Bool → ℕ → Item) (x : Coded) (k l : ℕ) → ((want : Bool) (label : ℕ) → weights.weight a i m (test want label) ≡ a) → ShortCoded k x → (n : ℕ) → ShortCodes (1 + (k + l)) n (judged (λ want label. (x.codes (n + 2)).value ++ test want label ∷ []) n (x.codes (n + 2)).need (x.codes (n + 2)).next)
  zero_short test x k l e h n =
      let c = x.codes (n + 2) in let p = h.codes (n + 2) in
      judged_short _ n c.need c.next (1 + (k + l)) n (λ want label. let f = weigh_end a i m c.value (test want label) in let g = e want label in omega arith) (omega arith) (omega arith)

  compare_short : (references : Bool) (literal : Literal) (test : Test) (x y : Coded) (k l : ℕ) → ShortCoded k x → ShortCoded l y → (n : ℕ) → ShortCodes (1 + (k + l)) n (compare_codes references literal test x y n)
  compare_short false Zero test x y k l h j n = zero_short (λ want label. Branch _ label) x k l (λ want label. refl) h n
  compare_short true Nil test x y k l h j n = zero_short (λ want label. Branch _ label) x k l (λ want label. refl) h n
  compare_short true Zero test x y k l h j n = both_short true test x y k l h j n
  compare_short true Anything test x y k l h j n = both_short true test x y k l h j n
  compare_short false Nil test x y k l h j n = both_short false test x y k l h j n
  compare_short false Anything test x y k l h j n = both_short false test x y k l h j n

  -- the second test behind the first one, and a label behind both at most
  and_weight : (first second : Bool → ℕ → List Item) (skip most least : ℕ) → ((want : Bool) (label : ℕ) → w (first want label) ≤ most) → ((want : Bool) (label : ℕ) → w (second want label) ≤ least) → (want : Bool) (label : ℕ) → w (and_test first second skip want label) ≤ most + least + m
  and_weight first second skip most least h j true label =
      let e = weigh_both a i m (first false skip) (second true label) (Mark skip) in let f = h false skip in let g = j true label in omega arith
  and_weight first second skip most least h j false label =
      let e = weigh_join a i m (first false label) (second false label) in let f = h false label in let g = j false label in omega arith

  or_weight : (first second : Bool → ℕ → List Item) (skip most least : ℕ) → ((want : Bool) (label : ℕ) → w (first want label) ≤ most) → ((want : Bool) (label : ℕ) → w (second want label) ≤ least) → (want : Bool) (label : ℕ) → w (or_test first second skip want label) ≤ most + least + m
  or_weight first second skip most least h j true label =
      let e = weigh_join a i m (first true label) (second true label) in let f = h true label in let g = j true label in omega arith
  or_weight first second skip most least h j false label =
      let e = weigh_both a i m (first true skip) (second false label) (Mark skip) in let f = h true skip in let g = j false label in omega arith

  joint_short : (test : Bool → ℕ → List Item) (c d : Codes) (k l n : ℕ) → ShortCodes k (n + 3) c → ShortCodes l c.next d → ((want : Bool) (label : ℕ) → w (test want label) ≤ node * k + node * l + m) → ShortCodes (1 + (k + l)) n (judged test n (max c.need d.need) d.next)
  joint_short test c d k l n h j f = judged_short test n (max c.need d.need) d.next (1 + (k + l)) n (λ want label. let e = f want label in omega arith) (omega arith) (omega arith)

  pub infix_short : (o : Option Infix) (x y : Coded) (k l : ℕ) → ShortCoded k x → ShortCoded l y → (n : ℕ) → ShortCodes (1 + (k + l)) n (infix_codes o x y n)
  infix_short None x y k l h j n = none_short (k + l) n
  infix_short (Some (Operates op)) x y k l h j n =
      let c = x.codes n in let d = y.codes c.next in let p = h.codes n in let q = j.codes c.next in
      let some = j.some in
      plain_short _ (max c.need (1 + d.need)) d.next (1 + (k + l)) n (let e = weigh_both a i m c.value d.value (Plain (Binary op)) in omega arith) (omega arith) (omega arith)
  infix_short (Some (Compares test)) x y k l h j n = compare_short (is_reference x.ty) y.literal test x y k l h j n
  infix_short (Some AndThen) x y k l h j n =
      let c = x.codes (n + 3) in let d = y.codes c.next in let p = h.codes (n + 3) in let q = j.codes c.next in
      joint_short _ c d k l n p q (and_weight c.test d.test (n + 2) (node * k) (node * l) p.test q.test)
  infix_short (Some OrElse) x y k l h j n =
      let c = x.codes (n + 3) in let d = y.codes c.next in let p = h.codes (n + 3) in let q = j.codes c.next in
      joint_short _ c d k l n p q (or_weight c.test d.test (n + 2) (node * k) (node * l) p.test q.test)

  pub local_short : (o : Option Kind) (slot n : ℕ) → ShortCodes 1 n (local_codes o slot n)
  local_short None slot n = none_short 0 n
  local_short (Some kind) slot n = single_short _ n (omega arith)

  pub local_spot_short : (o : Option Kind) (slot n : ℕ) → ShortSpot 1 n (local_spot o slot n)
  local_spot_short None slot n = no_spot_short 0 n
  local_spot_short (Some kind) slot n = record { items = omega arith; next = omega arith; need = omega arith; parts = omega arith }

  pub array_short : (o : Option NamedElement) (c : Codes) (k n : ℕ) → ShortCodes k n c → ShortCodes (1 + k) n (array_codes o c)
  array_short None c k n h = plain_short c.value c.need c.next (1 + k) n (omega arith) (omega arith) (omega arith)
  array_short (Some elements) c k n h = behind_short c (make_array elements) k n h (let e = array_weight a i m elements in omega arith)
