-- Distances are put into code part by part.
use Rattle.std.proofs.Common.{◌≡◌, ℕ, suc, ◌+◌, ◌<◌, ◌≤◌, ℤ, Bool, true, false, ◌&&◌, cond, List, [], ◌∷◌, ◌++◌, length, take, drop, get_or, set, Option, Some, None, Result, Ok, Err, refl, sym, ap, ◌∙◌, subst, arith, append_assoc, length-set, add-one, add-zero, true≢false, lt-ltb, le-ltb}
use Rattle.std.proofs.Math.Seq.{take-add, drop-cons}
use Rattle.std.proofs.lemmas.List.{length-drop, length-take-le, drop-drop, take_more, take_more_set, drop-set-lt, get_or-drop}
use Rattle.std.specs.List.{list_all}
use Rattle.std.specs.Int.{w16, cast_unsigned, to_be_bytes}
use Rattle.class_form.specs.declared.member.Code.{Code}
use Rattle.class_form.specs.Layout.{u2}
use Rattle.code_asm.specs.declared.fault.AsmFault.{AsmFault}
use Rattle.code_asm.specs.declared.fault.AsmFault.TheVariants.{TooLong, FarJump}
use Rattle.code_asm.specs.declared.asm.Part.{Part}
use Rattle.code_asm.specs.declared.asm.Part.TheVariants.{Op, Jump, Mark}
use Rattle.code_asm.specs.Pieces.{Piece, size_of_all, is_marked, place_in, lands_in, distance, is_short, far_jump, laid, bytes_of_all, unless_far, finished}
use Rattle.code_asm.specs.Kept.{parts_size, pieces_in, short_of}

-- Of pieces, whose bytes were b0, those in front of a place are laid; the parts from there on are left
pub record Progress (pieces : List Piece) (b0 bytes : List ℕ) (at : ℕ) (left : List Part) : Type 0 where
  pub done : bytes_of_all pieces ≡ take at bytes ++ laid (place_in pieces) at (pieces_in left (drop at b0))
  pub rest : drop at bytes ≡ drop at b0
  pub far : far_jump (place_in pieces) 0 pieces ≡ far_jump (place_in pieces) at (pieces_in left (drop at b0))
  pub sized : at + parts_size left ≡ length b0
  pub same : length bytes ≡ length b0
  pub lands : list_all (lands_in pieces) (pieces_in left (drop at b0)) ≡ true

-- the part at an index is the first of those that are left there
pub next_part : (parts : List Part) (i : ℕ) (p : Part) → i < length parts → p ≡ get_or parts i p → drop i parts ≡ p ∷ drop (i + 1) parts
next_part parts i p lt e = rw (add-one, drop-cons parts i p lt, ← e) refl

pub at_part : (pieces : List Piece) (b0 bytes : List ℕ) (at : ℕ) (parts : List Part) (i : ℕ) (p q : Part) → i < length parts → p ≡ get_or parts i p → p ≡ q
    → Progress pieces b0 bytes at (drop i parts) → Progress pieces b0 bytes at (q ∷ drop (i + 1) parts)
at_part pieces b0 bytes at parts i p q lt e f = subst (Progress pieces b0 bytes at) (next_part parts i p lt e ∙ ap (λ x. x ∷ drop (i + 1) parts) f)

-- an opcode and its operands are bytes that stand together
op_bytes : (n : ℕ) (d : List ℕ) → n + 1 ≤ length d → (get_or d 0 0 ∷ take n (drop 1 d) ≡ take (1 + n) d) × (drop n (drop 1 d) ≡ drop (1 + n) d) × (length (take n (drop 1 d)) ≡ n)
op_bytes n [] h = absurd (omega arith)
op_bytes n (b ∷ d) h =
    let e : 1 + n ≡ suc n = omega arith in
    (rw e refl, rw e refl, length-take-le n d (omega arith))

both_left : (a b : Bool) → (a && b) ≡ true → a ≡ true
both_left true b h = refl
both_left false b h = h

both_right : (a b : Bool) → (a && b) ≡ true → b ≡ true
both_right true b h = h
both_right false b h = absurd (true≢false (sym h))

-- a distance that two signed bytes hold
pub short_is : (by v : ℤ) → short_of by ≡ Ok v → (is_short by ≡ true) × (v ≡ by)
short_is by v e = by_test (is_short by) refl
  where
    same : Result ℤ AsmFault
    same = Ok v

    by_test : (b : Bool) → is_short by ≡ b → (b ≡ true) × (v ≡ by)
    by_test true t =
        let q : Ok by ≡ same = sym (ap (λ b. cond b (Ok by) (Err (FarJump by))) t) ∙ e in
        (refl, cc)
    by_test false t =
        let q : Err (FarJump by) ≡ same = sym (ap (λ b. cond b (Ok by) (Err (FarJump by))) t) ∙ e in
        absurd cc

-- a number's two bytes
pub two_spelled : (n v : ℕ) (bytes : List ℕ) → v ≡ n → bytes ≡ to_be_bytes w16 v → u2 n ≡ get_or bytes 0 0 ∷ get_or bytes 1 0 ∷ []
unfolding u2
two_spelled n v bytes e f = rw (f, e) refl

module _ (pieces : List Piece) (b0 bytes : List ℕ) (at : ℕ) (left : List Part) where
  abbrev behind : List ℕ
  behind = drop at b0

  pub after_op : (n : ℕ) → Progress pieces b0 bytes at (Op n ∷ left) → Progress pieces b0 bytes (at + (1 + n)) left
  after_op n p =
      let o = op_bytes n behind (omega (arith, length-drop at b0, p.sized)) in
      let d : drop n (drop 1 behind) ≡ drop (at + (1 + n)) b0 = o.1 ∙ drop-drop (1 + n) at b0 in
      let t : take at bytes ++ (get_or behind 0 0 ∷ take n (drop 1 behind)) ≡ take (at + (1 + n)) bytes =
      ap (λ l. take at bytes ++ l) (o.0 ∙ sym (ap (take (1 + n)) p.rest)) ∙ sym (take-add at (1 + n) bytes) in
      record {
        done = p.done ∙ ap (λ m. take at bytes ++ ((get_or behind 0 0 ∷ take n (drop 1 behind)) ++ laid (place_in pieces) (at + (1 + m)) (pieces_in left (drop n (drop 1 behind))))) o.2
            ∙ sym (append_assoc (take at bytes) (get_or behind 0 0 ∷ take n (drop 1 behind)) _) ∙ ap (λ l. l ++ laid (place_in pieces) (at + (1 + n)) (pieces_in left (drop n (drop 1 behind)))) t
            ∙ ap (λ l. take (at + (1 + n)) bytes ++ laid (place_in pieces) (at + (1 + n)) (pieces_in left l)) d;
        rest = sym (drop-drop (1 + n) at bytes) ∙ ap (drop (1 + n)) p.rest ∙ drop-drop (1 + n) at b0;
        far = p.far ∙ ap (λ m. far_jump (place_in pieces) (at + (1 + m)) (pieces_in left (drop n (drop 1 behind)))) o.2 ∙ ap (λ l. far_jump (place_in pieces) (at + (1 + n)) (pieces_in left l)) d;
        sized = omega (arith, p.sized);
        same = p.same;
        lands = ap (λ l. list_all (lands_in pieces) (pieces_in left l)) (sym d) ∙ p.lands;
      }

  -- two bytes behind the opcode are written
  pub after_jump : (l h w : ℕ) → is_short (distance at (place_in pieces l)) ≡ true → u2 (cast_unsigned w16 (distance at (place_in pieces l))) ≡ h ∷ w ∷ []
      → Progress pieces b0 bytes at (Jump l ∷ left) → Progress pieces b0 (set (set bytes (at + 1) h) (at + 2) w) (at + 3) left
  after_jump l h w short spelled p =
      let d : drop 3 behind ≡ drop (at + 3) b0 = drop-drop 3 at b0 in
      let first : List ℕ = set bytes (at + 1) h in
      let e2 : at + 2 ≡ (at + 1) + 1 = omega arith in
      let e3 : at + 3 ≡ (at + 2) + 1 = omega arith in
      let opcode : get_or bytes at 0 ≡ get_or behind 0 0 = ap (λ n. get_or bytes n 0) (sym (add-zero at)) ∙ sym (get_or-drop at bytes 0 0) ∙ ap (λ x. get_or x 0 0) p.rest in
      let t1 : take (at + 1) bytes ≡ take at bytes ++ get_or behind 0 0 ∷ [] = take_more bytes at 0 (omega (arith, p.sized, p.same)) ∙ ap (λ x. take at bytes ++ x ∷ []) opcode in
      let t2 : take (at + 2) first ≡ take (at + 1) bytes ++ h ∷ [] = ap (λ n. take n first) e2 ∙ take_more_set bytes (at + 1) h (omega (arith, p.sized, p.same)) in
      let t3 : take (at + 3) (set first (at + 2) w) ≡ take (at + 2) first ++ w ∷ [] = ap (λ n. take n (set first (at + 2) w)) e3 ∙ take_more_set first (at + 2) w (omega (arith, p.sized, p.same, length-set bytes (at + 1) h)) in
      let t : take at bytes ++ (get_or behind 0 0 ∷ u2 (cast_unsigned w16 (distance at (place_in pieces l)))) ≡ take (at + 3) (set first (at + 2) w) =
      ap (λ x. take at bytes ++ (get_or behind 0 0 ∷ x)) spelled ∙ sym (append_assoc (take at bytes) (get_or behind 0 0 ∷ []) (h ∷ w ∷ [])) ∙ ap (λ x. x ++ h ∷ w ∷ []) (sym t1)
      ∙ sym (append_assoc (take (at + 1) bytes) (h ∷ []) (w ∷ [])) ∙ ap (λ x. x ++ w ∷ []) (sym t2) ∙ sym t3 in
      record {
        done = p.done ∙ sym (append_assoc (take at bytes) (get_or behind 0 0 ∷ u2 (cast_unsigned w16 (distance at (place_in pieces l)))) (laid (place_in pieces) (at + 3) (pieces_in left (drop 3 behind))))
            ∙ ap (λ x. x ++ laid (place_in pieces) (at + 3) (pieces_in left (drop 3 behind))) t ∙ ap (λ x. take (at + 3) (set first (at + 2) w) ++ laid (place_in pieces) (at + 3) (pieces_in left x)) d;
        rest = drop-set-lt (at + 3) first (at + 2) w (omega arith) ∙ drop-set-lt (at + 3) bytes (at + 1) h (omega arith) ∙ sym (drop-drop 3 at bytes) ∙ ap (drop 3) p.rest ∙ d;
        far = p.far ∙ ap (λ b. cond b (far_jump (place_in pieces) (at + 3) (pieces_in left (drop 3 behind))) (Some (distance at (place_in pieces l)))) short ∙ ap (λ x. far_jump (place_in pieces) (at + 3) (pieces_in left x)) d;
        sized = omega (arith, p.sized);
        same = length-set first (at + 2) w ∙ length-set bytes (at + 1) h ∙ p.same;
        lands = ap (λ x. list_all (lands_in pieces) (pieces_in left x)) (sym d) ∙ both_right _ _ p.lands;
      }

  pub after_mark : (l : ℕ) → Progress pieces b0 bytes at (Mark l ∷ left) → Progress pieces b0 bytes at left
  after_mark l p = record { done = p.done; rest = p.rest; far = p.far; sized = omega (arith, p.sized); same = p.same; lands = p.lands }

  -- the label of the next jump is marked
  pub next_lands : (l : ℕ) → Progress pieces b0 bytes at (Jump l ∷ left) → is_marked pieces l ≡ true
  next_lands l p = both_left (is_marked pieces l) _ p.lands

  -- what is told where the next jump leads too far
  pub told : (l : ℕ) (fault : AsmFault) → Progress pieces b0 bytes at (Jump l ∷ left) → short_of (distance at (place_in pieces l)) ≡ Err fault
      → (by : ℤ) × (fault ≡ FarJump by) × (far_jump (place_in pieces) 0 pieces ≡ Some by)
  told l fault p e = by_test (is_short (distance at (place_in pieces l))) refl
    where
      by : ℤ
      by = distance at (place_in pieces l)

      further : Option ℤ
      further = far_jump (place_in pieces) (at + 3) (pieces_in left (drop 3 behind))

      by_test : (b : Bool) → is_short by ≡ b → (d : ℤ) × (fault ≡ FarJump d) × (far_jump (place_in pieces) 0 pieces ≡ Some d)
      by_test true t =
          let same : Result ℤ AsmFault = Err fault in
          let q : Ok by ≡ same = sym (ap (λ b. cond b (Ok by) (Err (FarJump by))) t) ∙ e in
          cc
      by_test false t =
          let same : Result ℤ AsmFault = Err fault in
          let q : Err (FarJump by) ≡ same = sym (ap (λ b. cond b (Ok by) (Err (FarJump by))) t) ∙ e in
          (by, cc, p.far ∙ ap (λ b. cond b further (Some by)) t)

-- what comes of code
module _ (pieces : List Piece) (stack locals : ℕ) where
  abbrev code_of : List ℕ → Code
  code_of bytes = record { max_stack = stack; max_locals = locals; bytes = bytes; attributes = [] }

  abbrev limited : Bool → Option ℤ → Result Code AsmFault
  limited long far = cond long (Err (TooLong (size_of_all pieces))) (unless_far far (code_of (bytes_of_all pieces)))

  pub too_long : (n : ℕ) → size_of_all pieces ≡ n → 65535 < n → Err (TooLong n) ≡ finished pieces stack locals
  too_long n e h = rw (← e) (sym (ap (λ b. limited b (far_jump (place_in pieces) 0 pieces)) (lt-ltb 65535 (size_of_all pieces) (omega arith))))

  pub too_far : (by : ℤ) → size_of_all pieces ≤ 65535 → far_jump (place_in pieces) 0 pieces ≡ Some by → Err (FarJump by) ≡ finished pieces stack locals
  too_far by h e = sym (ap (λ b. limited b (far_jump (place_in pieces) 0 pieces)) (le-ltb 65535 (size_of_all pieces) h) ∙ ap (limited false) e)

  pub laid_out : (bytes : List ℕ) → size_of_all pieces ≤ 65535 → bytes ≡ bytes_of_all pieces → far_jump (place_in pieces) 0 pieces ≡ None → Ok (code_of bytes) ≡ finished pieces stack locals
  laid_out bytes h b e = ap (λ x. Ok (code_of x)) b ∙ sym (ap (λ b. limited b (far_jump (place_in pieces) 0 pieces)) (le-ltb 65535 (size_of_all pieces) h) ∙ ap (limited false) e)
