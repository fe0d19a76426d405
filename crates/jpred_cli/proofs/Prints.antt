-- The machine runs the class of a program of prints to its end, and reads nothing.
use Rattle.std.proofs.Common.{◌≡◌, ℕ, zero, suc, ◌+◌, ◌-◌, ◌*◌, ◌<◌, ℤ, List, [], ◌∷◌, ◌++◌, length, map, flat_map, Option, Some, None, refl, sym, ap, ◌∙◌, subst, arith, append_assoc, append-nil, length-append}
use Rattle.std.specs.Prelude.{slice_get, option_and_then, true}
use Rattle.std.specs.Fmt.{signed_decimal}
use Rattle.std.specs.Str.{bytes_eq}
use Rattle.std.proofs.Math.Seq.{get_or-append_seam}
use Rattle.std.proofs.lemmas.Option.{slice_get-get_or}
use Rattle.std.proofs.lemmas.Slice.Eq.{bytes_eq-Decides}
use Rattle.class_form.specs.declared.constant.Const.{Const}
use Rattle.class_form.specs.declared.constant.Const.TheVariants.{Integer}
use Rattle.class_form.specs.declared.class_file.ClassFile.{ClassFile}
use Rattle.jp_store.specs.declared.value.Value.{Value}
use Rattle.jp_store.specs.declared.value.Value.TheVariants.{Int}
use Rattle.jp_store.specs.Classes.{first_statics}
use Rattle.jvm_table.specs.declared.decode.Row.{Row}
use Rattle.jvm_table.specs.declared.instr.Instr.TheVariants.{OnConstant, ReturnVoid}
use Rattle.jvm_table.specs.declared.instr.ConstantUse.TheVariants.{PushConstant, InvokeStatic}
use Rattle.jvm_table.specs.Decode.{row_at}
use Rattle.jvm_table.specs.Descriptors.{types_in}
use Rattle.jvm_table.specs.Act.{on_found, pushed, constant_value, act}
use Rattle.jvm_load.specs.FileClasses.{classes_of}
use Rattle.jvm_step.specs.declared.value.End.TheVariants.{Done}
use Rattle.jvm_step.specs.declared.value.Halt.TheVariants.{Done as HaltDone}
use Rattle.jvm_step.specs.declared.state.State.{State}
use Rattle.jvm_step.specs.Turn.{Turn, Goes, Shows, Wants, Stops, turn, turn_of}
use Rattle.jvm_step.specs.Run.{on_turn, exec, on_way, behind, start, from_start, machine_run, Passes}
use Rattle.jpred_cli.specs.Built.{fixed_constants, code_from, main_method, class_of}

-- these stand in the list from a place on
abbrev Stands : {A : Type 0} → List A → ℕ → List A → Type 0
Stands all place [] = Unit {0}
Stands all place (x ∷ xs) = (slice_get all place ≡ Some x) × Stands all (place + 1) xs

stands_behind : {A : Type 0} (front xs : List A) → Stands (front ++ xs) (length front) xs
stands_behind front [] = tt
stands_behind {A} front (x ∷ xs) =
    let within : length front < length (front ++ x ∷ xs) = omega (arith, length-append front (x ∷ xs)) in
    let here = slice_get-get_or (front ++ x ∷ xs) (length front) x within ∙ ap Some (get_or-append_seam front x xs x) in
    let n : length (front ++ x ∷ []) ≡ length front + 1 = omega (arith, length-append front (x ∷ [])) in
    let more = subst (λ (l : List A). Stands l (length (front ++ x ∷ [])) xs) (append_assoc front (x ∷ []) xs) (stands_behind (front ++ x ∷ []) xs) in
    (here, subst (λ m. Stands (front ++ x ∷ xs) m xs) n more)

-- what stands at a place of some code
row_load : (code : List ℕ) (place index : ℕ) → slice_get code place ≡ Some 0x12 → slice_get code (place + 1) ≡ Some index → row_at code place ≡ Some (record { instr = OnConstant PushConstant index; next = place + 2 })
row_load code place index op at = rw op (rw at refl)

row_call : (code : List ℕ) (place : ℕ) → slice_get code place ≡ Some 0xb8 → slice_get code (place + 1) ≡ Some 0 → slice_get code (place + 1 + 1) ≡ Some 13 → row_at code place ≡ Some (record { instr = OnConstant InvokeStatic 13; next = place + 3 })
row_call code place op high low = rw op (rw high (rw low refl))

row_leave : (code : List ℕ) (place : ℕ) → slice_get code place ≡ Some 0xb1 → row_at code place ≡ Some (record { instr = ReturnVoid; next = place + 1 })
row_leave code place op = rw op refl

-- a state on the way of a run, with the input that is left there and what was written before it
abbrev Way : Type 0
Way = State × (List ℕ × List ℕ)

-- a turn that doesn't read
abbrev pub ReadsNothing : Turn → Type 0
ReadsNothing (Goes state) = Unit {0}
ReadsNothing (Shows bytes state) = Unit {0}
ReadsNothing (Wants state) = ⊥
ReadsNothing (Stops halt) = Unit {0}

module _ (main : List ℕ) (numbers : List ℤ) where
  abbrev file : ClassFile
  file = class_of main numbers

  abbrev code : List ℕ
  code = code_from 14 numbers

  -- the only frame, at a place with these values
  abbrev at : ℕ → List Value → State
  at place values = record {
    current = record { file = 0; method = 0; frame = record { place = place; locals = []; stack = record { room = 1; values = values } } };
    callers = [];
    heap = [];
    statics = first_statics (classes_of (file ∷ []));
  }

  -- its turn by the row of the instruction
  abbrev by_row : ℕ → List Value → Option Row → Turn
  by_row place values o =
      turn (file ∷ []) (at place values) (on_found o (λ row. act file (main_method numbers) row.instr (record { place = row.next; locals = []; stack = record { room = 1; values = values } })))

  abbrev by_constant : ℕ → Option Const → ℕ → Turn
  by_constant place o index =
      turn (file ∷ []) (at place []) (on_found (option_and_then (constant_value file index) o) (λ v. pushed v (record { place = place + 2; locals = []; stack = record { room = 1; values = [] } })))

  loads : (place index : ℕ) (n : ℤ) → row_at code place ≡ Some (record { instr = OnConstant PushConstant index; next = place + 2 }) → slice_get file.constants index ≡ Some (Integer n) → turn_of (file ∷ []) (at place []) ≡ Goes (at (place + 2) (Int n ∷ []))
  loads place index n row there = ap (by_row place []) row ∙ ap (λ o. by_constant place o index) there

  prints : (place : ℕ) (n : ℤ) → row_at code place ≡ Some (record { instr = OnConstant InvokeStatic 13; next = place + 3 }) → turn_of (file ∷ []) (at place (Int n ∷ [])) ≡ Shows (signed_decimal n) (at (place + 3) [])
  prints place n row = ap (by_row place (Int n ∷ [])) row

  leaves : (place : ℕ) → row_at code place ≡ Some (record { instr = ReturnVoid; next = place + 1 }) → turn_of (file ∷ []) (at place []) ≡ Stops HaltDone
  unfolding types_in
  leaves place row = ap (by_row place []) row

  step : (n : ℕ) (state : State) (input out : List ℕ) (u : Turn) → turn_of (file ∷ []) state ≡ u → exec (file ∷ []) (suc n) state input out ≡ on_turn (file ∷ []) (exec (file ∷ []) n) input out u
  unfolding exec
  step n state input out u e = ap (on_turn (file ∷ []) (exec (file ∷ []) n) input out) e

  -- the places of a print's call, and of what follows it
  call_at : (place index : ℕ) (rest : List ℕ) → Stands code place (0x12 ∷ index ∷ 0xb8 ∷ 0 ∷ 13 ∷ rest) → Stands code (place + 2) (0xb8 ∷ 0 ∷ 13 ∷ rest)
  call_at place index rest here = let e : place + 1 + 1 ≡ place + 2 = omega arith in subst (λ p. Stands code p (0xb8 ∷ 0 ∷ 13 ∷ rest)) e here.1.1

  rest_at : (place index : ℕ) (rest : List ℕ) → Stands code place (0x12 ∷ index ∷ 0xb8 ∷ 0 ∷ 13 ∷ rest) → Stands code (place + 2 + 3) rest
  rest_at place index rest here = let e : place + 2 + 1 + 1 + 1 ≡ place + 2 + 3 = omega arith in subst (λ p. Stands code p rest) e (call_at place index rest here).1.1.1

  load_turn : (place index : ℕ) (n : ℤ) (rest : List ℕ) → Stands code place (0x12 ∷ index ∷ 0xb8 ∷ 0 ∷ 13 ∷ rest) → slice_get file.constants index ≡ Some (Integer n) → turn_of (file ∷ []) (at place []) ≡ Goes (at (place + 2) (Int n ∷ []))
  load_turn place index n rest here there = loads place index n (row_load code place index here.0 here.1.0) there

  print_turn : (place index : ℕ) (n : ℤ) (rest : List ℕ) → Stands code place (0x12 ∷ index ∷ 0xb8 ∷ 0 ∷ 13 ∷ rest) → turn_of (file ∷ []) (at (place + 2) (Int n ∷ [])) ≡ Shows (signed_decimal n) (at (place + 2 + 3) [])
  print_turn place index n rest here =
      let c = call_at place index rest here in
      prints (place + 2) n (row_call code (place + 2) c.0 c.1.0 c.1.1.0)

  -- from the code of some numbers on
  runs : (rest : List ℤ) (index place more : ℕ) (input out : List ℕ) → Stands code place (code_from index rest) → Stands file.constants index (map Integer rest) → exec (file ∷ []) (suc (2 * length rest + more)) (at place []) input out ≡ record { end = Done; input = input; out = out ++ flat_map signed_decimal rest }
  runs [] index place more input out here there =
      step (2 * 0 + more) (at place []) input out (Stops HaltDone) (leaves place (row_leave code place here.0)) ∙ ap (λ o. record { end = Done; input = input; out = o }) (sym (append-nil out))
  runs (n ∷ rest) index place more input out here there =
      let k = 2 * length rest + more in
      let count : suc (2 * length (n ∷ rest) + more) ≡ suc (suc (suc k)) = omega arith in
      ap (λ j. exec (file ∷ []) j (at place []) input out) count
      ∙ step (suc (suc k)) (at place []) input out (Goes (at (place + 2) (Int n ∷ []))) (load_turn place index n (code_from (index + 1) rest) here there.0)
      ∙ step (suc k) (at (place + 2) (Int n ∷ [])) input out (Shows (signed_decimal n) (at (place + 2 + 3) [])) (print_turn place index n (code_from (index + 1) rest) here)
      ∙ runs rest (index + 1) (place + 2 + 3) more input (out ++ signed_decimal n) (rest_at place index (code_from (index + 1) rest) here) there.1
      ∙ ap (λ o. record { end = Done; input = input; out = o }) (append_assoc out (signed_decimal n) (flat_map signed_decimal rest))

  starts : start (file ∷ []) main ≡ Some (at 0 [])
  starts = let same : bytes_eq main main ≡ true = (bytes_eq-Decides main main).1 refl in rw same refl

  -- the whole run, where the limit lets it end
  pub machine_prints : (limit : ℕ) (input : List ℕ) → 2 * length numbers < limit → machine_run (file ∷ []) main limit input ≡ record { end = Done; input = input; out = flat_map signed_decimal numbers }
  machine_prints limit input enough =
      let more = limit - suc (2 * length numbers) in
      let count : limit ≡ suc (2 * length numbers + more) = omega arith in
      ap (from_start (file ∷ []) main limit input) starts
      ∙ ap (λ j. exec (file ∷ []) j (at 0 []) input []) count
      ∙ runs numbers 14 0 more input [] (stands_behind [] code) (stands_behind (fixed_constants main) (map Integer numbers))

  behind-zero : (state : State) (input out : List ℕ) → behind (file ∷ []) zero state input out ≡ Some (state, (input, out))
  unfolding behind
  behind-zero state input out = refl

  way : (n : ℕ) (state : State) (input out : List ℕ) (u : Turn) → turn_of (file ∷ []) state ≡ u → behind (file ∷ []) (suc n) state input out ≡ on_way (behind (file ∷ []) n) input out u
  unfolding behind
  way n state input out u e = ap (on_way (behind (file ∷ []) n) input out) e

  -- no input was read, and none is read now
  abbrev Quiet : List ℕ → Way → Type 0
  Quiet input w = (w.1.0 ≡ input) × ReadsNothing (turn_of (file ∷ []) w.0)

  stays : (state : State) (input out : List ℕ) (u : Turn) (w : Way) → turn_of (file ∷ []) state ≡ u → ReadsNothing u → behind (file ∷ []) zero state input out ≡ Some w → Quiet input w
  stays state input out u w e h b =
      let same : Some (state, (input, out)) ≡ Some w = sym (behind-zero state input out) ∙ b in
      let is : (state, (input, out)) ≡ w = cc in
      subst (Quiet input) is (refl, subst ReadsNothing (sym e) h)

  quiet : (n : ℕ) (rest : List ℤ) (index place : ℕ) (input out : List ℕ) (w : Way) → Stands code place (code_from index rest) → Stands file.constants index (map Integer rest) → behind (file ∷ []) n (at place []) input out ≡ Some w → Quiet input w
  quiet zero [] index place input out w here there b =
      stays (at place []) input out (Stops HaltDone) w (leaves place (row_leave code place here.0)) tt b
  quiet zero (n ∷ rest) index place input out w here there b =
      stays (at place []) input out (Goes (at (place + 2) (Int n ∷ []))) w (load_turn place index n (code_from (index + 1) rest) here there.0) tt b
  quiet (suc k) [] index place input out w here there b =
      let none : None ≡ Some w = sym (way k (at place []) input out (Stops HaltDone) (leaves place (row_leave code place here.0))) ∙ b in
      cc
  quiet (suc zero) (n ∷ rest) index place input out w here there b =
      stays (at (place + 2) (Int n ∷ [])) input out (Shows (signed_decimal n) (at (place + 2 + 3) [])) w (print_turn place index n (code_from (index + 1) rest) here) tt
      (sym (way zero (at place []) input out (Goes (at (place + 2) (Int n ∷ []))) (load_turn place index n (code_from (index + 1) rest) here there.0)) ∙ b)
  quiet (suc (suc k)) (n ∷ rest) index place input out w here there b =
      quiet k rest (index + 1) (place + 2 + 3) input (out ++ signed_decimal n) w (rest_at place index (code_from (index + 1) rest) here) there.1
      (sym (way k (at (place + 2) (Int n ∷ [])) input out (Shows (signed_decimal n) (at (place + 2 + 3) [])) (print_turn place index n (code_from (index + 1) rest) here))
      ∙ sym (way (suc k) (at place []) input out (Goes (at (place + 2) (Int n ∷ []))) (load_turn place index n (code_from (index + 1) rest) here there.0))
      ∙ b)

  -- no state that the run passes reads, and all of the input is left there
  pub passes_quietly : (limit : ℕ) (input : List ℕ) (state : State) (rest out : List ℕ) → Passes (file ∷ []) main limit input state rest out → (rest ≡ input) × ReadsNothing (turn_of (file ∷ []) state)
  passes_quietly limit input state rest out p =
      let same : Some p.first ≡ Some (at 0 []) = sym p.started ∙ starts in
      let is : p.first ≡ at 0 [] = cc in
      quiet p.count numbers 14 0 input [] (state, (rest, out)) (stands_behind [] code) (stands_behind (fixed_constants main) (map Integer numbers))
      (ap (λ s. behind (file ∷ []) p.count s input []) (sym is) ∙ p.comes)
