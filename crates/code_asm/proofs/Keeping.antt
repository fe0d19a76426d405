-- What is written at the end of code is the last of its pieces, and the labels stay where they are.
use Rattle.std.proofs.Common.{◌≡◌, ℕ, ◌+◌, ◌<◌, ◌≤◌, Bool, true, false, ◌||◌, cond, List, [], ◌∷◌, ◌++◌, length, take, drop, get_or, set, Option, Some, None, is_none, refl, sym, ap, ◌∙◌, subst, arith, eqb, true≢false, get_or-set_same, get_or-set_other, inl, inr, zero, suc, length-append}
use Rattle.std.proofs.lemmas.List.{take-append-le, drop-append-le, length-drop, length-take-le, append-nil, take_all}
use Rattle.std.proofs.lemmas.List.Folds.{list_any-append}
use Rattle.std.proofs.lemmas.List.Sums.{sum_by-set, sum_by_push, count_by-le-length}
use Rattle.std.proofs.lemmas.Bool.{eq-eqb, false≢true}
use Rattle.std.proofs.lemmas.Bool.Decides.{eqb_tells}
use Rattle.code_asm.specs.declared.asm.Part.{Part}
use Rattle.code_asm.specs.declared.asm.Part.TheVariants.{Op, Jump, Mark}
use Rattle.code_asm.specs.Pieces.{Piece, OpPiece, JumpPiece, MarkPiece, size_of, size_of_all, marks, is_marked, place_in}
use Rattle.code_asm.specs.Kept.{part_size, parts_size, pieces_in, spot_in, AreKept, unmarked}

parts_size-append : (a b : List Part) → parts_size (a ++ b) ≡ parts_size a + parts_size b
parts_size-append [] b = omega arith
parts_size-append (p ∷ ps) b = omega (arith, parts_size-append ps b)

-- the pieces of parts, where they have bytes enough, with further ones behind them
pub pieces_in-append : (parts more : List Part) (bytes cs : List ℕ) → parts_size parts ≡ length bytes → pieces_in (parts ++ more) (bytes ++ cs) ≡ pieces_in parts bytes ++ pieces_in more cs
pieces_in-append [] more [] cs h = refl
pieces_in-append [] more (b ∷ bs) cs h = absurd (omega arith)
pieces_in-append (Op n ∷ ps) more [] cs h = absurd (omega arith)
pieces_in-append (Op n ∷ ps) more (b ∷ bs) cs h =
    let le : n ≤ length bs = omega arith in
    let e : parts_size ps ≡ length (drop n bs) = omega (arith, length-drop n bs) in
    rw (take-append-le n bs cs le, drop-append-le n bs cs le) (ap (λ l. OpPiece b (take n bs) ∷ l) (pieces_in-append ps more (drop n bs) cs e))
pieces_in-append (Jump l ∷ ps) more [] cs h = absurd (omega arith)
pieces_in-append (Jump l ∷ ps) more (b ∷ []) cs h = absurd (omega arith)
pieces_in-append (Jump l ∷ ps) more (b ∷ c ∷ []) cs h = absurd (omega arith)
pieces_in-append (Jump l ∷ ps) more (b ∷ c ∷ d ∷ bs) cs h =
    let e : parts_size ps ≡ length bs = omega arith in
    ap (λ x. JumpPiece b l ∷ x) (pieces_in-append ps more bs cs e)
pieces_in-append (Mark l ∷ ps) more bytes cs h = ap (λ x. MarkPiece l ∷ x) (pieces_in-append ps more bytes cs (omega arith))

-- a mark takes none
pub pieces_in-mark : (parts : List Part) (bytes : List ℕ) (l : ℕ) → parts_size parts ≡ length bytes → pieces_in (parts ++ Mark l ∷ []) bytes ≡ pieces_in parts bytes ++ MarkPiece l ∷ []
pieces_in-mark parts bytes l h = ap (pieces_in (parts ++ Mark l ∷ [])) (sym (append-nil bytes)) ∙ pieces_in-append parts (Mark l ∷ []) bytes [] h

-- the pieces take as many bytes as the parts
pub size_of_all-pieces_in : (parts : List Part) (bytes : List ℕ) → parts_size parts ≡ length bytes → size_of_all (pieces_in parts bytes) ≡ length bytes
size_of_all-pieces_in [] bytes h = h
size_of_all-pieces_in (Op n ∷ ps) [] h = absurd (omega arith)
size_of_all-pieces_in (Op n ∷ ps) (b ∷ bs) h =
    let e : parts_size ps ≡ length (drop n bs) = omega (arith, length-drop n bs) in
    omega (arith, size_of_all-pieces_in ps (drop n bs) e, length-drop n bs, length-take-le n bs (omega arith))
size_of_all-pieces_in (Jump l ∷ ps) [] h = absurd (omega arith)
size_of_all-pieces_in (Jump l ∷ ps) (b ∷ []) h = absurd (omega arith)
size_of_all-pieces_in (Jump l ∷ ps) (b ∷ c ∷ []) h = absurd (omega arith)
size_of_all-pieces_in (Jump l ∷ ps) (b ∷ c ∷ d ∷ bs) h = omega (arith, size_of_all-pieces_in ps bs (omega arith))
size_of_all-pieces_in (Mark l ∷ ps) bytes h = omega (arith, size_of_all-pieces_in ps bytes (omega arith))

-- a place behind all that there are is as good as one that holds nothing
get_or_push_none : (places : List (Option ℕ)) (l : ℕ) → get_or (places ++ None ∷ []) l None ≡ get_or places l None
get_or_push_none [] zero = refl
get_or_push_none [] (suc l) = refl
get_or_push_none (p ∷ ps) zero = refl
get_or_push_none (p ∷ ps) (suc l) = get_or_push_none ps l

module _ (l : ℕ) (qs : List Piece) where
  past : (b : Bool) (n : ℕ) (ps : List Piece) → (is_marked ps l ≡ true → place_in (ps ++ qs) l ≡ place_in ps l) → (b || is_marked ps l) ≡ true
      → cond b 0 (n + place_in (ps ++ qs) l) ≡ cond b 0 (n + place_in ps l)
  past true n ps ih h = refl
  past false n ps ih h = ap (λ m. n + m) (ih h)

  -- a label that is marked keeps its place
  pub place_in-marked : (ps : List Piece) → is_marked ps l ≡ true → place_in (ps ++ qs) l ≡ place_in ps l
  place_in-marked [] h = absurd (false≢true h)
  place_in-marked (p ∷ ps) h = past (marks l p) (size_of p) ps (place_in-marked ps) h

  behind : (b : Bool) (n : ℕ) (ps : List Piece) → (is_marked ps l ≡ false → place_in (ps ++ qs) l ≡ size_of_all ps + place_in qs l) → (b || is_marked ps l) ≡ false
      → cond b 0 (n + place_in (ps ++ qs) l) ≡ (n + size_of_all ps) + place_in qs l
  behind true n ps ih h = absurd (true≢false h)
  behind false n ps ih h = omega (arith, ih h)

  -- the place of one that isn't marked is behind all of them
  pub place_in-unmarked : (ps : List Piece) → is_marked ps l ≡ false → place_in (ps ++ qs) l ≡ size_of_all ps + place_in qs l
  place_in-unmarked [] h = omega arith
  place_in-unmarked (p ∷ ps) h = behind (marks l p) (size_of p) ps (place_in-unmarked ps) h

module _ (l : ℕ) (q : Piece) (ps : List Piece) where
  same : (b : Bool) → is_marked ps l ≡ b → marks l q ≡ false → spot_in (ps ++ q ∷ []) l ≡ spot_in ps l
  same true e h =
      let m : is_marked (ps ++ q ∷ []) l ≡ true = list_any-append (marks l) ps (q ∷ []) ∙ ap (λ b. b || (marks l q || false)) e in
      rw (m, e) (ap Some (place_in-marked l (q ∷ []) ps e))
  same false e h =
      let m : is_marked (ps ++ q ∷ []) l ≡ false = list_any-append (marks l) ps (q ∷ []) ∙ ap (λ b. b || (marks l q || false)) e ∙ ap (λ b. b || false) h in
      rw (m, e) refl

  -- a piece that doesn't mark it leaves a label where it is
  pub spot_in-other : marks l q ≡ false → spot_in (ps ++ q ∷ []) l ≡ spot_in ps l
  spot_in-other h = same (is_marked ps l) refl h

within : (b : Bool) (n m k : ℕ) → m ≤ k → cond b 0 (n + m) ≤ n + k
within true n m k h = omega arith
within false n m k h = omega arith

-- no label lies behind the end of the code
pub place_in-le : (ps : List Piece) (l : ℕ) → place_in ps l ≤ size_of_all ps
place_in-le [] l = omega arith
place_in-le (p ∷ ps) l = within (marks l p) (size_of p) (place_in ps l) (size_of_all ps) (place_in-le ps l)

-- a label's mark, where it has none yet
pub spot_in-mark : (l : ℕ) (ps : List Piece) → is_marked ps l ≡ false → spot_in (ps ++ MarkPiece l ∷ []) l ≡ Some (size_of_all ps)
spot_in-mark l ps h =
    let t : eqb l l ≡ true = eq-eqb l l refl in
    let m : is_marked (ps ++ MarkPiece l ∷ []) l ≡ true = list_any-append (marks l) ps (MarkPiece l ∷ []) ∙ ap (λ b. b || (eqb l l || false)) h ∙ ap (λ b. b || false) t in
    let n : cond (eqb l l) 0 (0 + 0) ≡ 0 = ap (λ b. cond b 0 (0 + 0)) t in
    rw m (ap Some (omega (arith, place_in-unmarked l (MarkPiece l ∷ []) ps h, n)))

-- a part that is no mark is written with its bytes
module _ (bytes : List ℕ) (parts : List Part) (places : List (Option ℕ)) (k : AreKept bytes parts places) where
  more_sized : (cs : List ℕ) (p : Part) → part_size p ≡ length cs → parts_size (parts ++ p ∷ []) ≡ length (bytes ++ cs)
  more_sized cs p h = omega (arith, parts_size-append parts (p ∷ []), length-append bytes cs, k.sized)

  pub written : (cs : List ℕ) (p : Part) (q : Piece) → part_size p ≡ length cs → pieces_in (p ∷ []) cs ≡ q ∷ [] → ((l : ℕ) → marks l q ≡ false) → AreKept (bytes ++ cs) (parts ++ p ∷ []) places
  written cs p q h e free = record {
    sized = more_sized cs p h;
    spots = λ l. k.spots l ∙ sym (ap (λ ps. spot_in ps l) (pieces_in-append parts (p ∷ []) bytes cs k.sized ∙ ap (λ x. pieces_in parts bytes ++ x) e) ∙ spot_in-other l q (pieces_in parts bytes) (free l));
  }

  -- a label is marked behind all that is written
  pub marked : (l n : ℕ) → n ≡ length bytes → l < length places → is_marked (pieces_in parts bytes) l ≡ false → AreKept bytes (parts ++ Mark l ∷ []) (set places l (Some n))
  marked l n here lt first =
      let ps : List Piece = pieces_in parts bytes in
      let whole : pieces_in (parts ++ Mark l ∷ []) bytes ≡ ps ++ MarkPiece l ∷ [] = pieces_in-mark parts bytes l k.sized in
      record {
        sized = omega (arith, parts_size-append parts (Mark l ∷ []), k.sized);
        spots = λ m. elim (eqb_tells m l) [
          | inl t ↦ subst (λ i. get_or (set places l (Some n)) i None ≡ spot_in (pieces_in (parts ++ Mark l ∷ []) bytes) i) (sym t.1)
              (get_or-set_same places l (Some n) None lt ∙ ap Some (here ∙ sym (size_of_all-pieces_in parts bytes k.sized)) ∙ sym (ap (λ x. spot_in x l) whole ∙ spot_in-mark l ps first))
          | inr f ↦ get_or-set_other places l m (Some n) None f.1 ∙ k.spots m ∙ sym (ap (λ x. spot_in x m) whole ∙ spot_in-other m (MarkPiece l) ps f.0)
        ];
      }

  -- what isn't marked has no place
  pub free : (l : ℕ) → is_marked (pieces_in parts bytes) l ≡ false → get_or places l None ≡ None
  free l first = k.spots l ∙ ap (λ b. cond b (Some (place_in (pieces_in parts bytes) l)) None) first

  -- what is marked has its place, which is in the code or at its end
  pub found : (l number n : ℕ) → number ≡ l → is_marked (pieces_in parts bytes) l ≡ true → get_or places number None ≡ Some n → (n ≡ place_in (pieces_in parts bytes) l) × (n ≤ length bytes)
  found l number n same_label there e =
      let ps : List Piece = pieces_in parts bytes in
      let q : Some n ≡ Some (place_in ps l) = sym e ∙ ap (λ i. get_or places i None) same_label ∙ k.spots l ∙ ap (λ b. cond b (Some (place_in ps l)) None) there in
      let same : n ≡ place_in ps l = cc in
      (same, omega (arith, place_in-le ps l, size_of_all-pieces_in parts bytes k.sized))

  -- a new label isn't marked
  pub labelled : AreKept bytes parts (places ++ None ∷ [])
  labelled = record { sized = k.sized; spots = λ l. get_or_push_none places l ∙ k.spots l }

-- a label that isn't marked is marked
pub unmarked-set : (places : List (Option ℕ)) (l n : ℕ) → l < length places → get_or places l None ≡ None → unmarked (set places l (Some n)) + 1 ≡ unmarked places
unmarked-set places l n lt e =
    let f : Option ℕ → ℕ = λ x. cond (is_none x) 1 0 in
    let one : f (get_or places l None) ≡ 1 = ap f e in
    omega (arith, sum_by-set f places l (Some n) None lt, one)

pub unmarked-push : (places : List (Option ℕ)) → unmarked (places ++ None ∷ []) ≡ unmarked places + 1
unmarked-push places = sum_by_push (λ x. cond (is_none x) 1 0) places None

pub unmarked_few : (places : List (Option ℕ)) → unmarked places ≤ length places
unmarked_few places = count_by-le-length is_none places

-- an opcode with its operands is one piece
pub op_pieces : (opcode : ℕ) (operands : List ℕ) → pieces_in (Op (length operands) ∷ []) (opcode ∷ operands) ≡ OpPiece opcode operands ∷ []
op_pieces opcode operands = ap (λ l. OpPiece opcode l ∷ []) (take_all (length operands) operands (omega arith))
