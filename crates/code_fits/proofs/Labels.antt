-- Items with labels of their own, from one number up to another, form by form.
use Rattle.std.proofs.Common.{◌≡◌, ℕ, ◌+◌, ◌≤◌, Bool, true, false, not, List, [], ◌∷◌, ◌++◌, Option, Some, None, arith}
use Rattle.std.specs.Prelude.{max, negsuc}
use Rattle.jp_pred.specs.Kinds.{is_reference}
use Rattle.jp_store.specs.declared.value.Kind.{Kind}
use Rattle.jp_store.specs.declared.operator.BinaryOp.TheVariants.{Xor}
use Rattle.jp_store.specs.declared.operator.Test.{Test}
use Rattle.jp_store.specs.Classes.{Key}
use Rattle.jp_store.specs.Work.{NamedElement, IntElements, BooleanElements, ClassElements}
use Rattle.jp_meaning.specs.Signs.{Prefix, Plus, Minus, Not, Complement, Infix, Operates, Compares, AndThen, OrElse}
use Rattle.jvm_table.specs.declared.instr.Instr.{Instr}
use Rattle.jvm_table.specs.declared.instr.Instr.TheVariants.{PushInt, Binary}
use Rattle.jvm_table.specs.declared.instr.Jump.{Jump}
use Rattle.jvm_table.specs.declared.instr.Jump.TheVariants.{Always}
use Rattle.jvm_table.specs.declared.instr.ConstantUse.{ConstantUse}
use Rattle.jvm_table.specs.Descriptors.{Signature}
use Rattle.code_asm.specs.Items.{Wanted, Item, Plain, Uses, CallsInterface, Branch, Mark}
use Rattle.gen_body.specs.Codes.{Codes, Literal, Zero, Nil, Anything, Coded, jump_where, plain, void, judged, choose_truth, and_test, or_test, choice, make_array, prefix_codes, compare_both, compare_codes, infix_codes, local_codes, array_codes, called, no_code}
use Rattle.gen_body.specs.Statements.{only_where, loop}
use Rattle.code_fits.proofs.Marks.{hit, below, two_more, three_more, count, count_join, Marked, Goes, split, go_both}

module _ (label : ℕ) (P : ℕ → Type 0) where
  -- Items with labels from n up to k: a label is marked once at most, and only if it is one of these. Each jump leads to a label
  -- that is so, if those that are marked are, and if what is asked of jumps to others is so
  pub record Own (asked : Type 0) (n k : ℕ) (items : List Item) : Type 0 where
    pub counted : count label items + below label n ≤ below label k
    pub lands : asked → Marked P items → Goes P items

  pub no_items : (asked : Type 0) (n : ℕ) → Own asked n n []
  no_items asked n = record { counted = omega arith; lands = λ a q. tt }

  pub quiet : (asked : Type 0) (n : ℕ) (instr : Instr) → Own asked n n (Plain instr ∷ [])
  quiet asked n instr = record { counted = omega arith; lands = λ a q. tt }

  pub uses : (asked : Type 0) (n : ℕ) (use_ : ConstantUse) (wanted : Wanted) → Own asked n n (Uses use_ wanted ∷ [])
  uses asked n use_ wanted = record { counted = omega arith; lands = λ a q. tt }

  pub calls : (asked : Type 0) (n : ℕ) (key : Key) (signature : Signature) → Own asked n n (CallsInterface key signature ∷ [])
  calls asked n key signature = record { counted = omega arith; lands = λ a q. tt }

  pub branch : (asked : Type 0) (n : ℕ) (jump : Jump) (to : ℕ) → (asked → P to) → Own asked n n (Branch jump to ∷ [])
  branch asked n jump to h = record { counted = omega arith; lands = λ a q. (h a, tt) }

  pub joined : (asked : Type 0) (n m k : ℕ) (a b : List Item) → Own asked n m a → Own asked m k b → Own asked n k (a ++ b)
  joined asked n m k a b h j = record {
    counted = let e = count_join label a b in omega (arith, e, h.counted, j.counted);
    lands = λ r q. let s = split P a b q in go_both P a b (h.lands r s.0) (j.lands r s.1);
  }

  -- where more is asked of jumps to other labels, and where labels in front are left out
  pub given : (asked more : Type 0) (n k : ℕ) (items : List Item) → (more → asked) → Own asked n k items → Own more n k items
  given asked more n k items f h = record { counted = h.counted; lands = λ r q. h.lands (f r) q }

  pub behind_two : (asked : Type 0) (n k : ℕ) (items : List Item) → Own asked (n + 2) k items → Own asked n k items
  behind_two asked n k items h = record { counted = let e = two_more label n in omega (arith, e, h.counted); lands = h.lands }

  pub record OwnCodes (n : ℕ) (c : Codes) : Type 0 where
    pub value : Own (Unit {0}) n c.next c.value
    pub test : (want : Bool) (to : ℕ) → Own (P to) n c.next (c.test want to)
    pub done : Own (Unit {0}) n c.next c.done

  -- a value in front of other items
  pub loose : (asked : Type 0) (n k : ℕ) (items : List Item) → Own (Unit {0}) n k items → Own asked n k items
  loose asked n k items h = given (Unit {0}) asked n k items (λ r. tt) h

  -- a value with an instruction behind it
  pub then_plain : (n k : ℕ) (items : List Item) (instr : Instr) → Own (Unit {0}) n k items → Own (Unit {0}) n k (items ++ Plain instr ∷ [])
  then_plain n k items instr h = joined (Unit {0}) n k k items (Plain instr ∷ []) h (quiet (Unit {0}) k instr)

  pub then_uses : (n k : ℕ) (items : List Item) (use_ : ConstantUse) (wanted : Wanted) → Own (Unit {0}) n k items → Own (Unit {0}) n k (items ++ Uses use_ wanted ∷ [])
  then_uses n k items use_ wanted h = joined (Unit {0}) n k k items (Uses use_ wanted ∷ []) h (uses (Unit {0}) k use_ wanted)

  -- and with a jump
  pub then_jump : (n k : ℕ) (items : List Item) (jump : Jump) (to : ℕ) → Own (Unit {0}) n k items → Own (P to) n k (items ++ Branch jump to ∷ [])
  then_jump n k items jump to h = joined (P to) n k k items (Branch jump to ∷ []) (loose (P to) n k items h) (branch (P to) k jump to (λ r. r))

  pub plain_own : (items : List Item) (need next n : ℕ) → Own (Unit {0}) n next items → OwnCodes n (plain items need next)
  plain_own items need next n h = record {
    value = h;
    test = λ want to. then_jump n next items (jump_where want) to h;
    done = then_plain n next items _ h;
  }

  pub void_own : (items : List Item) (need next n : ℕ) → Own (Unit {0}) n next items → OwnCodes n (void items need next)
  void_own items need next n h =
      let v = then_plain n next items _ h in
      record { value = v; test = λ want to. then_jump n next _ (jump_where want) to v; done = h }

  pub called_own : (o : Option Kind) (items : List Item) (need next n : ℕ) → Own (Unit {0}) n next items → OwnCodes n (called o items need next)
  called_own None items need next n h = void_own items need next n h
  called_own (Some kind) items need next n h = plain_own items (max need 1) next n h

  choose_count : (items : List Item) (n : ℕ) → count label (items ++ choose_truth n) ≡ count label items + (hit label n + hit label (n + 1))
  choose_count items n = omega (arith, count_join label items (choose_truth n))

  pub judged_own : (test : Bool → ℕ → List Item) (n need next : ℕ) → ((want : Bool) (to : ℕ) → Own (P to) (n + 2) next (test want to)) → OwnCodes n (judged test n need next)
  judged_own test n need next h =
      let t = h false n in
      let v : Own (Unit {0}) n next (test false n ++ choose_truth n) = record {
        counted = let e = choose_count (test false n) n in let f = two_more label n in omega (arith, e, f, t.counted);
        lands = λ r q. let s = split P (test false n) (choose_truth n) q in go_both P (test false n) (choose_truth n) (t.lands s.1.0 s.0) (s.1.1.0, tt);
      } in
      record { value = v; test = λ want to. behind_two (P to) n next (test want to) (h want to); done = then_plain n next _ _ v }

  pub none_own : (n : ℕ) → OwnCodes n (no_code n)
  none_own n = plain_own [] 0 n n (no_items (Unit {0}) n)

  -- a test with a mark behind it, to which another leads in front of it
  skipped : (first second : List Item) (skip n m k : ℕ) (asked : Type 0) → hit label skip + below label n ≡ below label m → (j : ℕ) → Own (P skip) m j first → Own asked j k second → Own asked n k (first ++ (second ++ Mark skip ∷ []))
  skipped first second skip n m k asked e j f g = record {
    counted =
        let d = count_join label first (second ++ Mark skip ∷ []) in
        let c = count_join label second (Mark skip ∷ []) in
        omega (arith, c, d, e, f.counted, g.counted);
    lands = λ r q.
        let s = split P first (second ++ Mark skip ∷ []) q in let t = split P second (Mark skip ∷ []) s.1 in
        go_both P first (second ++ Mark skip ∷ []) (f.lands t.1.0 s.0) (go_both P second (Mark skip ∷ []) (g.lands r t.0) tt);
  }

  third : (n : ℕ) → hit label (n + 2) + below label (n + 2) ≡ below label (n + 3)
  third n = omega (arith, two_more label n, three_more label n)

  past_third : (asked : Type 0) (n k : ℕ) (items : List Item) → Own asked (n + 3) k items → Own asked (n + 2) k items
  past_third asked n k items h = record { counted = let e = third n in omega (arith, e, h.counted); lands = h.lands }

  pub and_own : (first second : Bool → ℕ → List Item) (n m k : ℕ) → ((want : Bool) (to : ℕ) → Own (P to) (n + 3) m (first want to)) → ((want : Bool) (to : ℕ) → Own (P to) m k (second want to)) → (want : Bool) (to : ℕ) → Own (P to) (n + 2) k (and_test first second (n + 2) want to)
  and_own first second n m k f g true to = skipped (first false (n + 2)) (second true to) (n + 2) (n + 2) (n + 3) k (P to) (third n) m (f false (n + 2)) (g true to)
  and_own first second n m k f g false to = past_third (P to) n k _ (joined (P to) (n + 3) m k (first false to) (second false to) (f false to) (g false to))

  pub or_own : (first second : Bool → ℕ → List Item) (n m k : ℕ) → ((want : Bool) (to : ℕ) → Own (P to) (n + 3) m (first want to)) → ((want : Bool) (to : ℕ) → Own (P to) m k (second want to)) → (want : Bool) (to : ℕ) → Own (P to) (n + 2) k (or_test first second (n + 2) want to)
  or_own first second n m k f g true to = past_third (P to) n k _ (joined (P to) (n + 3) m k (first true to) (second true to) (f true to) (g true to))
  or_own first second n m k f g false to = skipped (first true (n + 2)) (second false to) (n + 2) (n + 2) (n + 3) k (P to) (third n) m (f true (n + 2)) (g false to)

  -- one of two, by a test
  pub choice_own : (asked : Type 0) (test : Bool → ℕ → List Item) (first second : List Item) (n m j k : ℕ) → Own (P n) (n + 2) m (test false n) → Own asked m j first → Own asked j k second → Own asked n k (choice test first second n)
  choice_own asked test first second n m j k t f g =
      let last = second ++ Mark (n + 1) ∷ [] in
      let rest = Branch Always (n + 1) ∷ Mark n ∷ last in
      record {
        counted =
            let c = count_join label second (Mark (n + 1) ∷ []) in
            let d = count_join label first rest in
            let e = count_join label (test false n) (first ++ rest) in
            let i = two_more label n in
            omega (arith, c, d, e, i, t.counted, f.counted, g.counted);
        lands = λ r q.
            let s = split P (test false n) (first ++ rest) q in
            let u = split P first rest s.1 in
            let v = split P second (Mark (n + 1) ∷ []) u.1.1 in
            go_both P (test false n) (first ++ rest) (t.lands u.1.0 s.0) (go_both P first rest (f.lands r u.0) (v.1.0, go_both P second (Mark (n + 1) ∷ []) (g.lands r v.0) tt));
      }

  -- what is done where a test is true
  pub only_own : (asked : Type 0) (test : Bool → ℕ → List Item) (first : List Item) (n m k : ℕ) → Own (P n) (n + 2) m (test false n) → Own asked m k first → Own asked n k (only_where test first n)
  only_own asked test first n m k t f = record {
    counted =
        let c = count_join label first (Mark n ∷ []) in
        let d = count_join label (test false n) (first ++ Mark n ∷ []) in
        let e = two_more label n in
        omega (arith, c, d, e, t.counted, f.counted);
    lands = λ r q.
        let s = split P (test false n) (first ++ Mark n ∷ []) q in let u = split P first (Mark n ∷ []) s.1 in
        go_both P (test false n) (first ++ Mark n ∷ []) (t.lands u.1.0 s.0) (go_both P first (Mark n ∷ []) (f.lands r u.0) tt);
  }

  -- a loop, whose body may jump to its end and to its change
  pub loop_own : (asked inside : Type 0) (test : Bool → ℕ → List Item) (body change : List Item) (n m j k : ℕ) → (P (n + 1) → P (n + 2) → inside) → Own (P (n + 1)) (n + 3) m (test false (n + 1)) → Own inside m j body → Own asked j k change → Own asked n k (loop test body change n)
  loop_own asked inside test body change n m j k ends t f g =
      let last = Branch Always n ∷ Mark (n + 1) ∷ [] in
      let rest = Mark (n + 2) ∷ (change ++ last) in
      record {
        counted =
            let c = count_join label change last in
            let d = count_join label body rest in
            let e = count_join label (test false (n + 1)) (body ++ rest) in
            let i = three_more label n in
            omega (arith, c, d, e, i, t.counted, f.counted, g.counted);
        lands = λ r q.
            let s = split P (test false (n + 1)) (body ++ rest) q.1 in
            let u = split P body rest s.1 in
            let v = split P change last u.1.1 in
            go_both P (test false (n + 1)) (body ++ rest) (t.lands v.1.0 s.0) (go_both P body rest (f.lands (ends v.1.0 u.1.0) u.0) (go_both P change last (g.lands r v.0) (q.0, tt)));
      }

  pub prefix_own : (o : Option Prefix) (x : Coded) → ((n : ℕ) → OwnCodes n (x.codes n)) → (n : ℕ) → OwnCodes n (prefix_codes o x n)
  prefix_own None x h n = none_own n
  prefix_own (Some Plus) x h n = plain_own _ _ _ n (h n).value
  prefix_own (Some Minus) x h n = plain_own _ _ _ n (then_plain n (x.codes n).next (x.codes n).value _ (h n).value)
  prefix_own (Some Complement) x h n =
      let c = x.codes n in
      plain_own _ _ _ n (joined (Unit {0}) n c.next c.next c.value (Plain (PushInt (negsuc 0)) ∷ Plain (Binary Xor) ∷ []) (h n).value (record { counted = omega arith; lands = λ r q. tt }))
  prefix_own (Some Not) x h n = judged_own _ n _ _ (λ want to. (h (n + 2)).test (not want) to)

  both_own : (references : Bool) (test : Test) (x y : Coded) → ((n : ℕ) → OwnCodes n (x.codes n)) → ((n : ℕ) → OwnCodes n (y.codes n)) → (n : ℕ) → OwnCodes n (compare_both references test x y n)
  both_own references test x y h j n =
      let c = x.codes (n + 2) in let d = y.codes c.next in
      judged_own _ n _ _ (λ want to. joined (P to) (n + 2) c.next d.next c.value _ (loose (P to) (n + 2) c.next c.value (h (n + 2)).value) (then_jump c.next d.next d.value _ to (j c.next).value))

  compare_own : (references : Bool) (literal : Literal) (test : Test) (x y : Coded) → ((n : ℕ) → OwnCodes n (x.codes n)) → ((n : ℕ) → OwnCodes n (y.codes n)) → (n : ℕ) → OwnCodes n (compare_codes references literal test x y n)
  compare_own false Zero test x y h j n = judged_own _ n _ _ (λ want to. then_jump (n + 2) (x.codes (n + 2)).next (x.codes (n + 2)).value _ to (h (n + 2)).value)
  compare_own true Nil test x y h j n = judged_own _ n _ _ (λ want to. then_jump (n + 2) (x.codes (n + 2)).next (x.codes (n + 2)).value _ to (h (n + 2)).value)
  compare_own true Zero test x y h j n = both_own true test x y h j n
  compare_own true Anything test x y h j n = both_own true test x y h j n
  compare_own false Nil test x y h j n = both_own false test x y h j n
  compare_own false Anything test x y h j n = both_own false test x y h j n

  pub infix_own : (o : Option Infix) (x y : Coded) → ((n : ℕ) → OwnCodes n (x.codes n)) → ((n : ℕ) → OwnCodes n (y.codes n)) → (n : ℕ) → OwnCodes n (infix_codes o x y n)
  infix_own None x y h j n = none_own n
  infix_own (Some (Operates op)) x y h j n =
      let c = x.codes n in let d = y.codes c.next in
      plain_own _ _ _ n (joined (Unit {0}) n c.next d.next c.value _ (h n).value (then_plain c.next d.next d.value _ (j c.next).value))
  infix_own (Some (Compares test)) x y h j n = compare_own (is_reference x.ty) y.literal test x y h j n
  infix_own (Some AndThen) x y h j n =
      let c = x.codes (n + 3) in let d = y.codes c.next in
      judged_own _ n _ _ (and_own c.test d.test n c.next d.next (h (n + 3)).test (j c.next).test)
  infix_own (Some OrElse) x y h j n =
      let c = x.codes (n + 3) in let d = y.codes c.next in
      judged_own _ n _ _ (or_own c.test d.test n c.next d.next (h (n + 3)).test (j c.next).test)

  pub local_own : (o : Option Kind) (slot n : ℕ) → OwnCodes n (local_codes o slot n)
  local_own None slot n = none_own n
  local_own (Some kind) slot n = plain_own _ 1 n n (quiet (Unit {0}) n _)

  made_own : (elements : NamedElement) (n : ℕ) → Own (Unit {0}) n n (make_array elements ∷ [])
  made_own IntElements n = quiet (Unit {0}) n _
  made_own BooleanElements n = quiet (Unit {0}) n _
  made_own (ClassElements name) n = uses (Unit {0}) n _ _

  pub array_own : (o : Option NamedElement) (c : Codes) (n : ℕ) → OwnCodes n c → OwnCodes n (array_codes o c)
  array_own None c n h = plain_own _ _ _ n h.value
  array_own (Some elements) c n h = plain_own _ _ _ n (joined (Unit {0}) n c.next c.next c.value _ h.value (made_own elements c.next))
