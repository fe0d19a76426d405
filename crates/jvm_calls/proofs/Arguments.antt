-- Arguments that are taken from the last one on, and put into local variables from the first one on.
use Rattle.std.proofs.Common.{◌≡◌, ℕ, zero, suc, ◌+◌, ◌-◌, ◌<◌, ◌≤◌, Bool, true, false, List, [], ◌∷◌, ◌++◌, length, drop, replicate, Option, Some, None, refl, sym, ap, ◌∙◌, append_assoc, append-nil, length-append, drop-cons, get_or, arith}
use Rattle.std.specs.Prelude.{option_and_then, nat_le, nat_lt, slice_set, if◌then◌else◌}
use Rattle.std.proofs.Math.Seq.{set-append_seam}
use Rattle.std.proofs.lemmas.List.{length-replicate}
use Rattle.std.proofs.lemmas.Bool.{le-leb, lt-leb, lt-ltb}
use Rattle.std.specs.Bool.{OnTrue}
use Rattle.jp_store.specs.declared.value.Value.{Value}
use Rattle.jp_store.specs.declared.value.Value.TheVariants.{Int, Long, Null, Ref, Text}
use Rattle.jp_store.specs.declared.value.Kind.{Kind}
use Rattle.jp_store.specs.declared.value.Kind.TheVariants.{Number}
use Rattle.jp_store.specs.Arith.{is_kind, width_of}
use Rattle.jvm_table.specs.declared.frame.Frame.{Frame}
use Rattle.jvm_table.specs.Act.{popped, args_taken}
use Rattle.jvm_table.specs.Descriptors.{width_of_kind, places_of}
use Rattle.jvm_step.specs.Turn.{placed, variables}

-- without the last ones there are none
pub none_above : (kinds : List Kind) (i : ℕ) (f : Frame) → args_taken (drop i kinds) f ≡ None → args_taken kinds f ≡ None
none_above [] zero f e = e
none_above [] (suc i) f e = e
none_above (kind ∷ kinds) zero f e = e
none_above (kind ∷ kinds) (suc i) f e =
    ap (option_and_then (λ r. option_and_then (λ p. if is_kind kind p.0 then Some (p.0 ∷ r.0, p.1) else None) (popped r.1.stack.values r.1))) (none_above kinds i f e)

-- one more from the stack: there is none
pub none_popped : (kind : Kind) (kinds : List Kind) (f g : Frame) (args : List Value) → args_taken kinds f ≡ Some (args, g) → popped g.stack.values g ≡ None → args_taken (kind ∷ kinds) f ≡ None
none_popped kind kinds f g args e p =
    ap (option_and_then (λ r. option_and_then (λ q. if is_kind kind q.0 then Some (q.0 ∷ r.0, q.1) else None) (popped r.1.stack.values r.1))) e
    ∙ ap (option_and_then (λ q. if is_kind kind q.0 then Some (q.0 ∷ args, q.1) else None)) p

chosen : (kind : Kind) (kinds : List Kind) (f g h : Frame) (args : List Value) (v : Value) → args_taken kinds f ≡ Some (args, g) → popped g.stack.values g ≡ Some (v, h) → args_taken (kind ∷ kinds) f ≡ (if is_kind kind v then Some (v ∷ args, h) else None)
chosen kind kinds f g h args v e p =
    ap (option_and_then (λ r. option_and_then (λ q. if is_kind kind q.0 then Some (q.0 ∷ r.0, q.1) else None) (popped r.1.stack.values r.1))) e
    ∙ ap (option_and_then (λ q. if is_kind kind q.0 then Some (q.0 ∷ args, q.1) else None)) p

-- one of another kind
pub other_kind : (kind : Kind) (kinds : List Kind) (f g h : Frame) (args : List Value) (v : Value) → args_taken kinds f ≡ Some (args, g) → popped g.stack.values g ≡ Some (v, h) → is_kind kind v ≡ false → args_taken (kind ∷ kinds) f ≡ None
other_kind kind kinds f g h args v e p k = chosen kind kinds f g h args v e p ∙ ap (λ b. if b then Some (v ∷ args, h) else None) k

-- one of this kind
pub one_more : (kind : Kind) (kinds : List Kind) (f g h : Frame) (args : List Value) (v : Value) → args_taken kinds f ≡ Some (args, g) → popped g.stack.values g ≡ Some (v, h) → is_kind kind v ≡ true → args_taken (kind ∷ kinds) f ≡ Some (v ∷ args, h)
one_more kind kinds f g h args v e p k = chosen kind kinds f g h args v e p ∙ ap (λ b. if b then Some (v ∷ args, h) else None) k

-- the first variables are filled with the first arguments, and others are left
pub record Placing (count : ℕ) (all : List Value) (place : ℕ) (locals : List (Option Value)) (left : List Value) : Type 0 where
  pub done : List (Option Value)
  pub place_is : length done ≡ place
  pub fits : place ≤ count
  pub locals_are : locals ≡ done ++ replicate (count - place) None
  pub all_are : placed all ≡ done ++ placed left

pub placing_none : (count : ℕ) (all : List Value) → Placing count all 0 (replicate count None) all
placing_none count all =
    let e : count ≡ count - 0 = omega arith in
    record { done = []; place_is = refl; fits = omega arith; locals_are = ap (λ n. replicate n None) e; all_are = refl }

-- what a value takes in the variables
wide : Value → List (Option Value)
wide (Int n) = Some (Int n) ∷ []
wide (Long n) = Some (Long n) ∷ None ∷ []
wide Null = Some Null ∷ []
wide (Ref o) = Some (Ref o) ∷ []
wide (Text t) = Some (Text t) ∷ []

placed_one : (v : Value) (vs : List Value) → placed (v ∷ vs) ≡ wide v ++ placed vs
unfolding wide
placed_one (Int n) vs = refl
placed_one (Long n) vs = refl
placed_one Null vs = refl
placed_one (Ref o) vs = refl
placed_one (Text t) vs = refl

length-wide : (v : Value) → length (wide v) ≡ width_of v
unfolding wide
length-wide (Int n) = refl
length-wide (Long n) = refl
length-wide Null = refl
length-wide (Ref o) = refl
length-wide (Text t) = refl

room_for : (v : Value) (m : ℕ) → width_of v ≤ m → (rest : List (Option Value)) × ((replicate m None ≡ None ∷ rest) × (Some v ∷ rest ≡ wide v ++ replicate (m - width_of v) None))
unfolding wide
room_for (Int n) zero h = absurd (omega arith)
room_for (Int n) (suc m) h = let e : m ≡ suc m - 1 = omega arith in (replicate m None, (refl, ap (λ k. Some (Int n) ∷ replicate k None) e))
room_for (Long n) zero h = absurd (omega arith)
room_for (Long n) (suc zero) h = absurd (omega arith)
room_for (Long n) (suc (suc m)) h = let e : m ≡ suc (suc m) - 2 = omega arith in (None ∷ replicate m None, (refl, ap (λ k. Some (Long n) ∷ None ∷ replicate k None) e))
room_for Null zero h = absurd (omega arith)
room_for Null (suc m) h = let e : m ≡ suc m - 1 = omega arith in (replicate m None, (refl, ap (λ k. Some Null ∷ replicate k None) e))
room_for (Ref o) zero h = absurd (omega arith)
room_for (Ref o) (suc m) h = let e : m ≡ suc m - 1 = omega arith in (replicate m None, (refl, ap (λ k. Some (Ref o) ∷ replicate k None) e))
room_for (Text t) zero h = absurd (omega arith)
room_for (Text t) (suc m) h = let e : m ≡ suc m - 1 = omega arith in (replicate m None, (refl, ap (λ k. Some (Text t) ∷ replicate k None) e))

-- the next value is stored
pub placing_more : (count : ℕ) (all : List Value) (place : ℕ) (locals locals' : List (Option Value)) (v : Value) (vs : List Value) (w : ℕ) → Placing count all place locals (v ∷ vs) → w ≡ width_of v → w ≤ count - place → locals' ≡ slice_set locals place (Some v) → Placing count all (place + w) locals' vs
placing_more count all place locals locals' v vs w p e h s =
    let room = room_for v (count - place) (omega (arith, e, h)) in
    let k : count - place - width_of v ≡ count - (place + w) = omega (arith, e) in
    let stored : slice_set (p.done ++ None ∷ room.0) (length p.done) (Some v) ≡ p.done ++ Some v ∷ room.0 = set-append_seam p.done None room.0 (Some v) in
    record {
      done = p.done ++ wide v;
      place_is = length-append p.done (wide v) ∙ ap (λ n. length p.done + n) (length-wide v ∙ sym e) ∙ ap (λ n. n + w) p.place_is;
      fits = omega (arith, p.fits, h);
      locals_are = s ∙ ap (λ l. slice_set l place (Some v)) (p.locals_are ∙ ap (λ l. p.done ++ l) room.1.0)
          ∙ ap (λ n. slice_set (p.done ++ None ∷ room.0) n (Some v)) (sym p.place_is) ∙ stored
          ∙ ap (λ l. p.done ++ l) (room.1.1 ∙ ap (λ n. wide v ++ replicate n None) k) ∙ sym (append_assoc p.done (wide v) (replicate (count - (place + w)) None));
      all_are = p.all_are ∙ ap (λ l. p.done ++ l) (placed_one v vs) ∙ sym (append_assoc p.done (wide v) (placed vs));
    }

-- all are stored
pub placing_all : (count : ℕ) (all : List Value) (place : ℕ) (locals : List (Option Value)) → Placing count all place locals [] → Some locals ≡ variables count (placed all)
placing_all count all place locals p =
    let all_are : placed all ≡ p.done = p.all_are ∙ append-nil p.done in
    let fits : nat_le (length p.done) count ≡ true = le-leb (length p.done) count (omega (arith, p.place_is, p.fits)) in
    sym (ap (variables count) all_are
    ∙ ap (λ b. if b then Some (p.done ++ replicate (count - length p.done) None) else None) fits
    ∙ ap (λ n. Some (p.done ++ replicate (count - n) None)) p.place_is
    ∙ ap Some (sym p.locals_are))

-- the next value finds no room
pub placing_fails : (count : ℕ) (all : List Value) (place : ℕ) (locals : List (Option Value)) (v : Value) (vs : List Value) (w : ℕ) → Placing count all place locals (v ∷ vs) → w ≡ width_of v → count - place < w → None ≡ variables count (placed all)
placing_fails count all place locals v vs w p e h =
    let more : length (placed all) ≡ length p.done + (width_of v + length (placed vs)) = ap length p.all_are ∙ length-append p.done (placed (v ∷ vs)) ∙ ap (λ l. length p.done + length l) (placed_one v vs) ∙ ap (λ n. length p.done + n) (length-append (wide v) (placed vs) ∙ ap (λ n. n + length (placed vs)) (length-wide v)) in
    let fits : nat_le (length (placed all)) count ≡ false = lt-leb (length (placed all)) count (omega (arith, more, e, h, p.place_is, p.fits)) in
    sym (ap (λ b. if b then Some (placed all ++ replicate (count - length (placed all)) None) else None) fits)

-- how many places kinds take, one after another
pub places_more : (kind : Kind) (kinds : List Kind) → places_of (kind ∷ kinds) ≡ width_of_kind kind + places_of kinds
places_more kind kinds = refl

pub fails_popped : (kinds : List Kind) (i : ℕ) (f g : Frame) (args : List Value) → 0 < i → i ≤ length kinds → args_taken (drop i kinds) f ≡ Some (args, g) → popped g.stack.values g ≡ None → args_taken kinds f ≡ None
fails_popped kinds zero f g args z l e p = absurd (omega arith)
fails_popped kinds (suc j) f g args z l e p =
    none_above kinds j f (ap (λ k. args_taken k f) (drop-cons kinds j Number (omega arith)) ∙ none_popped (get_or kinds j Number) (drop (suc j) kinds) f g args e p)

pub fails_kind : (kinds : List Kind) (i : ℕ) (d : Kind) (f g h : Frame) (args : List Value) (v : Value) → 0 < i → i ≤ length kinds → args_taken (drop i kinds) f ≡ Some (args, g) → popped g.stack.values g ≡ Some (v, h) → is_kind (get_or kinds (i - 1) d) v ≡ false → args_taken kinds f ≡ None
fails_kind kinds zero d f g h args v z l e p k = absurd (omega arith)
fails_kind kinds (suc j) d f g h args v z l e p k =
    let m : suc j - 1 ≡ j = omega arith in
    none_above kinds j f (ap (λ k. args_taken k f) (drop-cons kinds j d (omega arith)) ∙ other_kind (get_or kinds j d) (drop (suc j) kinds) f g h args v e p (ap (λ n. is_kind (get_or kinds n d) v) (sym m) ∙ k))

on_true : (b : Bool) (P : Type 0) → b ≡ true → OnTrue b P → P
on_true true P e h = h
on_true false P e h = cc

pub placing_set : (count : ℕ) (all : List Value) (place : ℕ) (locals locals' : List (Option Value)) (v : Value) (vs : List Value) (w : ℕ) (b : Bool) → Placing count all place locals (v ∷ vs) → w ≡ width_of v → 1 ≤ w → w ≤ count - place → b ≡ nat_lt place (length locals) → OnTrue b (locals' ≡ slice_set locals place (Some v)) → Placing count all (place + w) locals' vs
placing_set count all place locals locals' v vs w b p e m h t s =
    let many : length locals ≡ length p.done + (count - place) = ap length p.locals_are ∙ length-append p.done (replicate (count - place) None) ∙ ap (λ n. length p.done + n) (length-replicate (count - place) None) in
    let there : nat_lt place (length locals) ≡ true = lt-ltb place (length locals) (omega (arith, many, p.place_is, h, m)) in
    placing_more count all place locals locals' v vs w p e h (on_true b (locals' ≡ slice_set locals place (Some v)) (t ∙ there) s)
