-- From one step of a run to the next, and what a run has read and written.
use Rattle.std.proofs.Common.{◌≡◌, inl, inr, ℕ, ℤ, pos, negsuc, zero, suc, ◌+◌, ◌-◌, ◌<◌, ◌≤◌, Bool, true, false, List, [], ◌∷◌, ◌++◌, Option, Some, None, refl, sym, ap, ◌∙◌, subst, append_assoc, append-nil, arith}
use Rattle.std.specs.Prelude.{is_some, option_and_then, codes, Result, Ok, Err, OnOk, OnErr, is_err}
use Rattle.std.specs.Bool.{OnTrue}
use Rattle.jp_outside.specs.Faults.{HasCause}
use Rattle.std.specs.Io.KnownBytes.{append_known}
use Rattle.jp_outside.specs.Bytes.{ReadsFirst, AppendsFront}
use Rattle.class_form.specs.declared.class_file.ClassFile.{ClassFile}
use Rattle.jvm_step.specs.declared.value.End.{End}
use Rattle.jvm_step.specs.declared.value.End.TheVariants.{Cut, ReadFault, WriteFault, BadCode}
use Rattle.jvm_step.specs.declared.value.Halt.{Halt}
use Rattle.jvm_step.specs.declared.value.Halt.TheVariants.{Done, Trapped, NoRow}
use Rattle.jvm_step.specs.declared.state.State.{State}
use Rattle.jvm_step.specs.Turn.{Turn, Goes, Shows, Wants, Stops, turn_of}
use Rattle.jvm_step.specs.Run.{Finish, Passes, Ran, Stopped, Tells, start, from_start, machine_run, end_of, on_turn, exec, on_way, behind, first_of, rest_of, with_read}
use Rattle.std.proofs.lemmas.Option.{same_Some}
use Rattle.jvm_quick.specs.Walks.{gone_by}
use Rattle.jvm_quick.proofs.Walked.{gone_zero, one_before}
use Rattle.mini_jvm.specs.Memory.{StoppedAt}
use Rattle.mini_jvm.specs.Reading.{ReadsNumber}

append_known-nil : (known : Option (List ℕ)) → known ≡ append_known known []
append_known-nil None = refl
append_known-nil (Some bytes) = ap Some (sym (append-nil bytes))

append_known-append : (known : Option (List ℕ)) (first second : List ℕ) → append_known (append_known known first) second ≡ append_known known (first ++ second)
append_known-append None first second = refl
append_known-append (Some bytes) first second = ap Some (append_assoc bytes first second)

-- a state on the way of a run, with the input that is left there and what was written before it
abbrev Way : Type 0
Way = State × (List ℕ × List ℕ)

module _ (files : List ClassFile) where
  exec-zero : (st : State) (input out : List ℕ) → exec files zero st input out ≡ record { end = Cut; input = input; out = out }
  unfolding exec
  exec-zero st input out = refl

  exec-suc : (n : ℕ) (st : State) (input out : List ℕ) → exec files (suc n) st input out ≡ on_turn files (exec files n) input out (turn_of files st)
  unfolding exec
  exec-suc n st input out = refl

  behind-zero : (st : State) (input out : List ℕ) → behind files zero st input out ≡ Some (st, (input, out))
  unfolding behind
  behind-zero st input out = refl

  behind-suc : (n : ℕ) (st : State) (input out : List ℕ) → behind files (suc n) st input out ≡ on_way (behind files n) input out (turn_of files st)
  unfolding behind
  behind-suc n st input out = refl

  -- one turn more
  abbrev next : Way → Option Way
  next way = on_way (behind files 0) way.1.0 way.1.1 (turn_of files way.0)

  way_more : (n : ℕ) (way : Way) → ((st : State) (input out : List ℕ) → behind files n st input out ≡ Some way → behind files (suc n) st input out ≡ next way) → (u : Turn) (input out : List ℕ) → on_way (behind files n) input out u ≡ Some way → on_way (behind files (suc n)) input out u ≡ next way
  way_more n way more (Goes st) input out e = more st input out e
  way_more n way more (Shows bytes st) input out e = more st input (out ++ bytes) e
  way_more n way more (Wants st) input out e = more (with_read (first_of input) st) (rest_of input) out e
  way_more n way more (Stops halt) input out e = cc

  behind_more : (n : ℕ) (st : State) (input out : List ℕ) (way : Way) → behind files n st input out ≡ Some way → behind files (suc n) st input out ≡ next way
  behind_more zero st input out way e =
      let same : Some (st, (input, out)) ≡ Some way = sym (behind-zero st input out) ∙ e in
      let P : Option Way → Option Way = λ o. option_and_then next o in
      behind-suc 0 st input out ∙ ap P same
  behind_more (suc n) st input out way e =
      behind-suc (suc n) st input out
      ∙ way_more n way (λ st' input' out'. behind_more n st' input' out' way) (turn_of files st) input out (sym (behind-suc n st input out) ∙ e)

  -- the run goes on from there
  abbrev goes_on : ℕ → Way → Finish
  goes_on m way = exec files m way.0 way.1.0 way.1.1

  exec_way : (n m : ℕ) (way : Way) → ((st : State) (input out : List ℕ) → behind files n st input out ≡ Some way → exec files (n + m) st input out ≡ goes_on m way) → (u : Turn) (input out : List ℕ) → on_way (behind files n) input out u ≡ Some way → on_turn files (exec files (n + m)) input out u ≡ goes_on m way
  exec_way n m way more (Goes st) input out e = more st input out e
  exec_way n m way more (Shows bytes st) input out e = more st input (out ++ bytes) e
  exec_way n m way more (Wants st) input out e = more (with_read (first_of input) st) (rest_of input) out e
  exec_way n m way more (Stops halt) input out e = cc

  exec_behind : (n m : ℕ) (st : State) (input out : List ℕ) (way : Way) → behind files n st input out ≡ Some way → exec files (n + m) st input out ≡ goes_on m way
  exec_behind zero m st input out way e =
      let same : Some (st, (input, out)) ≡ Some way = sym (behind-zero st input out) ∙ e in
      let k : 0 + m ≡ m = omega arith in
      ap (λ n. exec files n st input out) k ∙ ap (λ (o : Option Way). (elim o [ None ↦ goes_on m (st, (input, out)) | Some w ↦ goes_on m w ])) same
  exec_behind (suc n) m st input out way e =
      let k : suc n + m ≡ suc (n + m) = omega arith in
      ap (λ n. exec files n st input out) k ∙ exec-suc (n + m) st input out
      ∙ exec_way n m way (λ st' input' out'. exec_behind n m st' input' out' way) (turn_of files st) input out (sym (behind-suc n st input out) ∙ e)

  -- a run keeps what it has written and adds to it
  abbrev Grows : List ℕ → Finish → Type 0
  Grows out finish = (more : List ℕ) × (finish.out ≡ out ++ more)

  turn_grows : (go : State → List ℕ → List ℕ → Finish) → ((st : State) (input out : List ℕ) → Grows out (go st input out)) → (input out : List ℕ) (u : Turn) → Grows out (on_turn files go input out u)
  turn_grows go grows input out (Goes st) = grows st input out
  turn_grows go grows input out (Shows bytes st) =
      let r = grows st input (out ++ bytes) in
      (bytes ++ r.0, r.1 ∙ append_assoc out bytes r.0)
  turn_grows go grows input out (Wants st) = grows (with_read (first_of input) st) (rest_of input) out
  turn_grows go grows input out (Stops halt) = ([], sym (append-nil out))

  exec_grows : (n : ℕ) (st : State) (input out : List ℕ) → Grows out (exec files n st input out)
  exec_grows zero st input out = ([], ap (λ f. f.out) (exec-zero st input out) ∙ sym (append-nil out))
  exec_grows (suc n) st input out =
      let r = turn_grows (exec files n) (exec_grows n) input out (turn_of files st) in
      (r.0, ap (λ f. f.out) (exec-suc n st input out) ∙ r.1)

-- the input goes on with these bytes, where its end was met or not
abbrev pub Fits : Bool → List ℕ → Type 0
Fits true rest = rest ≡ []
Fits false rest = Unit {0}

-- of what a source told first, the bytes that were read and what it tells now
abbrev pub Told : Bool → Option (List ℕ) → List ℕ → Option (List ℕ) → Type 0
Told ended None got None = Unit {0}
Told ended None got (Some left) = ⊥
Told ended (Some all) got None = ⊥
Told ended (Some all) got (Some left) = (all ≡ got ++ left) × Fits ended left

-- what is told, or nothing
abbrev pub told_rest : Option (List ℕ) → List ℕ
told_rest None = []
told_rest (Some left) = left

fits_rest : (ended : Bool) (old : Option (List ℕ)) (got : List ℕ) (left : Option (List ℕ)) → Told ended old got left → Fits ended (told_rest left)
fits_rest true None got None t = refl
fits_rest false None got None t = tt
fits_rest ended None got (Some left) t = absurd t
fits_rest ended (Some all) got None t = absurd t
fits_rest ended (Some all) got (Some left) t = t.1

tells_input : (ended : Bool) (old : Option (List ℕ)) (got : List ℕ) (left : Option (List ℕ)) → Told ended old got left → Tells old (got ++ told_rest left)
tells_input ended None got None t = tt
tells_input ended None got (Some left) t = absurd t
tells_input ended (Some all) got None t = absurd t
tells_input ended (Some all) got (Some left) t = t.0

tells_rest : (left : Option (List ℕ)) → Tells left (told_rest left)
tells_rest None = tt
tells_rest (Some left) = refl

still_tells : (ended : Bool) (old : Option (List ℕ)) (got : List ℕ) (left : Option (List ℕ)) → Told ended old got left → is_some left ≡ is_some old
still_tells ended None got None t = refl
still_tells ended None got (Some left) t = absurd t
still_tells ended (Some all) got None t = absurd t
still_tells ended (Some all) got (Some left) t = refl

-- a run that has done i instructions: it stands at a state, for every input that begins with what was read
pub record Reached (files : List ClassFile) (i : ℕ) (first now : State) (ended : Bool) (old left before taken : Option (List ℕ)) : Type 0 where
  pub got : List ℕ
  pub out : List ℕ
  pub comes : (rest : List ℕ) → Fits ended rest → behind files i first (got ++ rest) [] ≡ Some (now, (rest, out))
  pub told : Told ended old got left
  pub added : taken ≡ append_known before out

module _ (files : List ClassFile) where
  told_first : (old : Option (List ℕ)) → Told false old [] old
  told_first None = tt
  told_first (Some all) = (refl, tt)

  pub reached_start : (first : State) (old taken : Option (List ℕ)) → Reached files 0 first first false old old taken taken
  reached_start first old taken = record {
    got = [];
    out = [];
    comes = λ rest h. behind-zero files first rest [];
    told = told_first old;
    added = append_known-nil taken;
  }

  -- the state that the turn of the state leads to
  comes_next : (i : ℕ) (first now : State) (input rest out : List ℕ) (u : Turn) → behind files i first input [] ≡ Some (now, (rest, out)) → turn_of files now ≡ u → behind files (i + 1) first input [] ≡ on_way (behind files 0) rest out u
  comes_next i first now input rest out u e t =
      let k : i + 1 ≡ suc i = omega arith in
      ap (λ n. behind files n first input []) k ∙ behind_more files i first input [] (now, (rest, out)) e ∙ ap (on_way (behind files 0) rest out) t

  pub reached_goes : (i : ℕ) (first now next : State) (ended : Bool) (old left before taken : Option (List ℕ)) → Reached files i first now ended old left before taken → turn_of files now ≡ Goes next → Reached files (i + 1) first next ended old left before taken
  reached_goes i first now next ended old left before taken r e = record {
    got = r.got;
    out = r.out;
    comes = λ rest h. comes_next i first now (r.got ++ rest) rest r.out (Goes next) (r.comes rest h) e ∙ behind-zero files next rest r.out;
    told = r.told;
    added = r.added;
  }

  -- behind turns that only go on
  pub reached_gone : (n i : ℕ) (first now last : State) (ended : Bool) (old left before taken : Option (List ℕ)) → Reached files i first now ended old left before taken → gone_by files n now ≡ Some last → Reached files (i + n) first last ended old left before taken
  reached_gone zero i first now last ended old left before taken r e =
      let same : now ≡ last = same_Some now last (sym (gone_zero files now) ∙ e) in
      let k : i ≡ i + 0 = omega arith in
      subst (λ (s : State). Reached files (i + 0) first s ended old left before taken) same
      (subst (λ (j : ℕ). Reached files j first now ended old left before taken) k r)
  reached_gone (suc n) i first now last ended old left before taken r e =
      let b = one_before files n now last e in
      let k : (i + n) + 1 ≡ i + suc n = omega arith in
      subst (λ (j : ℕ). Reached files j first last ended old left before taken) k
      (reached_goes (i + n) first b.0 last ended old left before taken (reached_gone n i first now b.0 ended old left before taken r b.1) b.2)

  pub reached_sum : (i n : ℕ) (first now : State) (ended : Bool) (old left before taken : Option (List ℕ)) → Reached files ((i + n) + 1) first now ended old left before taken → Reached files (i + (n + 1)) first now ended old left before taken
  reached_sum i n first now ended old left before taken r =
      let k : (i + n) + 1 ≡ i + (n + 1) = omega arith in
      subst (λ (j : ℕ). Reached files j first now ended old left before taken) k r

  pub reached_shows : (i : ℕ) (first now next : State) (ended : Bool) (old left before taken taken' : Option (List ℕ)) (bytes : List ℕ) → Reached files i first now ended old left before taken → turn_of files now ≡ Shows bytes next → taken' ≡ append_known taken bytes → Reached files (i + 1) first next ended old left before taken'
  reached_shows i first now next ended old left before taken taken' bytes r e w = record {
    got = r.got;
    out = r.out ++ bytes;
    comes = λ rest h. comes_next i first now (r.got ++ rest) rest r.out (Shows bytes next) (r.comes rest h) e ∙ behind-zero files next rest (r.out ++ bytes);
    told = r.told;
    added = w ∙ ap (λ k. append_known k bytes) r.added ∙ append_known-append before r.out bytes;
  }

  -- at the end of the input
  at_end : (i : ℕ) (first now next : State) (got out rest : List ℕ) → behind files i first (got ++ rest) [] ≡ Some (now, (rest, out)) → turn_of files now ≡ Wants next → rest ≡ [] → behind files (i + 1) first (got ++ rest) [] ≡ Some (with_read (negsuc 0) next, (rest, out))
  at_end i first now next got out rest b e h =
      comes_next i first now (got ++ rest) rest out (Wants next) b e
      ∙ behind-zero files (with_read (first_of rest) next) (rest_of rest) out
      ∙ ap (λ (r : List ℕ). Some (with_read (first_of r) next, (rest_of r, out))) h
      ∙ ap (λ (r : List ℕ). Some (with_read (negsuc 0) next, (r, out))) (sym h)

  told_byte : (old left left' : Option (List ℕ)) (got : List ℕ) (b : ℕ) → Told false old got left → ReadsFirst left (Some b) left' → Told false old (got ++ b ∷ []) left'
  told_byte None None left' got b t r = subst (λ (l : Option (List ℕ)). Told false None (got ++ b ∷ []) l) (sym r) tt
  told_byte None (Some l) left' got b t r = absurd t
  told_byte (Some all) None left' got b t r = absurd t
  told_byte (Some all) (Some []) left' got b t r = cc (r.0)
  told_byte (Some all) (Some (c ∷ l)) left' got b t r =
      let same : Some b ≡ Some c = r.0 in
      let e : b ≡ c = cc in
      subst (λ (k : Option (List ℕ)). Told false (Some all) (got ++ b ∷ []) k) (sym r.1)
      (t.0 ∙ ap (λ (d : ℕ). got ++ d ∷ l) (sym e) ∙ sym (append_assoc got (b ∷ []) l), tt)

  told_end : (old left left' : Option (List ℕ)) (got : List ℕ) → Told false old got left → ReadsFirst left None left' → Told true old got left'
  told_end None None left' got t r = subst (λ (l : Option (List ℕ)). Told true None got l) (sym r) tt
  told_end None (Some l) left' got t r = absurd t
  told_end (Some all) None left' got t r = absurd t
  told_end (Some all) (Some []) left' got t r = subst (λ (k : Option (List ℕ)). Told true (Some all) got k) (sym r.1) (t.0, refl)
  told_end (Some all) (Some (c ∷ l)) left' got t r = cc (r.0)

  read_at_end : (i : ℕ) (first now next now' : State) (old left left' before taken : Option (List ℕ)) (r : Reached files i first now true old left before taken) → turn_of files now ≡ Wants next → now' ≡ with_read (negsuc 0) next → Told true old r.got left' → Reached files (i + 1) first now' true old left' before taken
  read_at_end i first now next now' old left left' before taken r e n t = record {
    got = r.got;
    out = r.out;
    comes = λ rest h. at_end i first now next r.got r.out rest (r.comes rest h) e h ∙ ap (λ (s : State). Some (s, (rest, r.out))) (sym n);
    told = t;
    added = r.added;
  }

  pub reached_reads : (i : ℕ) (first now next now' : State) (ended ended' : Bool) (old left left' before taken : Option (List ℕ)) (n : ℤ) → Reached files i first now ended old left before taken → turn_of files now ≡ Wants next → ReadsNumber ended left n ended' left' → now' ≡ with_read n next → Reached files (i + 1) first now' ended' old left' before taken
  reached_reads i first now next now' true ended' old left left' before taken n r e h w =
      let told = subst (λ (l : Option (List ℕ)). Told true old r.got l) (sym h.2) r.told in
      subst (λ (b : Bool). Reached files (i + 1) first now' b old left' before taken) (sym h.1)
      (read_at_end i first now next now' old left left' before taken r e (w ∙ ap (λ (m : ℤ). with_read m next) h.0) told)
  reached_reads i first now next now' false ended' old left left' before taken n r e (None, f, m, s) w =
      subst (λ (b : Bool). Reached files (i + 1) first now' b old left' before taken) (sym s) (record {
        got = r.got;
        out = r.out;
        comes = λ rest h. at_end i first now next r.got r.out rest (r.comes rest tt) e h ∙ ap (λ (t : State). Some (t, (rest, r.out))) (sym (w ∙ ap (λ (k : ℤ). with_read k next) m));
        told = told_end old left left' r.got r.told f;
        added = r.added;
      })
  reached_reads i first now next now' false ended' old left left' before taken n r e (Some b, f, m, s) w =
      subst (λ (c : Bool). Reached files (i + 1) first now' c old left' before taken) (sym s) (record {
        got = r.got ++ b ∷ [];
        out = r.out;
        comes = λ rest h.
            ap (λ (input : List ℕ). behind files (i + 1) first input []) (append_assoc r.got (b ∷ []) rest)
            ∙ comes_next i first now (r.got ++ b ∷ rest) (b ∷ rest) r.out (Wants next) (r.comes (b ∷ rest) tt) e
            ∙ behind-zero files (with_read (pos b) next) rest r.out
            ∙ ap (λ (t : State). Some (t, (rest, r.out))) (sym (w ∙ ap (λ (k : ℤ). with_read k next) m));
        told = told_byte old left left' r.got b r.told f;
        added = r.added;
      })

  -- the whole run by the state that it has reached
  whole : (main : List ℕ) (limit i : ℕ) (first now : State) (ended : Bool) (old left before taken : Option (List ℕ)) → start files main ≡ Some first → i ≤ limit → (r : Reached files i first now ended old left before taken) → machine_run files main limit (r.got ++ told_rest left) ≡ exec files (limit - i) now (told_rest left) r.out
  whole main limit i first now ended old left before taken s le r =
      let rest = told_rest left in
      let k : limit ≡ i + (limit - i) = omega arith in
      let fits = fits_rest ended old r.got left r.told in
      ap (from_start files main limit (r.got ++ rest)) s
      ∙ ap (λ n. exec files n first (r.got ++ rest) []) k
      ∙ exec_behind files i (limit - i) first (r.got ++ rest) [] (now, (rest, r.out)) (r.comes rest fits)

  by_turn : (main : List ℕ) (limit i : ℕ) (first now : State) (ended : Bool) (old left before taken : Option (List ℕ)) (u : Turn) → start files main ≡ Some first → i < limit → (r : Reached files i first now ended old left before taken) → turn_of files now ≡ u → machine_run files main limit (r.got ++ told_rest left) ≡ on_turn files (exec files (limit - (i + 1))) (told_rest left) r.out u
  by_turn main limit i first now ended old left before taken u s lt r e =
      let n : limit - i ≡ suc (limit - (i + 1)) = omega arith in
      whole main limit i first now ended old left before taken s (omega arith) r
      ∙ ap (λ k. exec files k now (told_rest left) r.out) n
      ∙ exec-suc files (limit - (i + 1)) now (told_rest left) r.out
      ∙ ap (on_turn files (exec files (limit - (i + 1))) (told_rest left) r.out) e

  -- an input on which the answer is the run's
  abbrev pub OnInput : (main : List ℕ) (limit : ℕ) (end : End) (old left before taken : Option (List ℕ)) → Type 0
  OnInput main limit end old left before taken = (bytes : List ℕ) × Tells old bytes × Ran files main limit bytes end left before taken

  ended_by : (main : List ℕ) (limit : ℕ) (halt : Halt) (bytes rest out : List ℕ) (left before taken : Option (List ℕ)) → machine_run files main limit bytes ≡ record { end = end_of files halt; input = rest; out = out } → Tells left rest → taken ≡ append_known before out → Ran files main limit bytes (end_of files halt) left before taken
  ended_by main limit Done bytes rest out left before taken e t w =
      (ap (λ f. f.end) e, subst (λ (l : List ℕ). Tells left l) (sym (ap (λ f. f.input) e)) t, w ∙ ap (append_known before) (sym (ap (λ f. f.out) e)))
  ended_by main limit (Trapped kind) bytes rest out left before taken e t w =
      (ap (λ f. f.end) e, subst (λ (l : List ℕ). Tells left l) (sym (ap (λ f. f.input) e)) t, w ∙ ap (append_known before) (sym (ap (λ f. f.out) e)))
  ended_by main limit (NoRow file method place) bytes rest out left before taken e t w =
      (ap (λ f. f.end) e, subst (λ (l : List ℕ). Tells left l) (sym (ap (λ f. f.input) e)) t, w ∙ ap (append_known before) (sym (ap (λ f. f.out) e)))

  -- the run ends where the state that it has reached stops
  pub stops : (main : List ℕ) (limit i : ℕ) (first now : State) (ended : Bool) (old left before taken : Option (List ℕ)) (halt : Halt) → start files main ≡ Some first → i < limit → Reached files i first now ended old left before taken → turn_of files now ≡ Stops halt → OnInput main limit (end_of files halt) old left before taken
  stops main limit i first now ended old left before taken halt s lt r e = (
    r.got ++ told_rest left,
    tells_input ended old r.got left r.told,
    ended_by main limit halt (r.got ++ told_rest left) (told_rest left) r.out left before taken (by_turn main limit i first now ended old left before taken (Stops halt) s lt r e) (tells_rest left) r.added,
  )

  -- the run is cut where it has done all its instructions
  pub cut : (main : List ℕ) (limit i : ℕ) (first now : State) (ended : Bool) (old left before taken : Option (List ℕ)) → start files main ≡ Some first → i ≤ limit → limit ≤ i → Reached files i first now ended old left before taken → OnInput main limit Cut old left before taken
  cut main limit i first now ended old left before taken s le ge r =
      let n : limit - i ≡ zero = omega arith in
      let e = whole main limit i first now ended old left before taken s le r ∙ ap (λ k. exec files k now (told_rest left) r.out) n ∙ exec-zero files now (told_rest left) r.out in (
        r.got ++ told_rest left,
        tells_input ended old r.got left r.told,
        (ap (λ f. f.end) e, subst (λ (l : List ℕ). Tells left l) (sym (ap (λ f. f.input) e)) (tells_rest left), r.added ∙ ap (append_known before) (sym (ap (λ f. f.out) e))),
      )

  passes : (main : List ℕ) (limit i : ℕ) (first now : State) (ended : Bool) (old left before taken : Option (List ℕ)) → start files main ≡ Some first → i < limit → (r : Reached files i first now ended old left before taken) → Passes files main limit (r.got ++ told_rest left) now (told_rest left) r.out
  passes main limit i first now ended old left before taken s lt r =
      record { first = first; started = s; count = i; within = lt; comes = r.comes (told_rest left) (fits_rest ended old r.got left r.told) }

  -- a read fails
  pub read_fails : (main : List ℕ) (limit i : ℕ) (first now next : State) (ended : Bool) (old left before taken : Option (List ℕ)) → start files main ≡ Some first → i < limit → Reached files i first now ended old left before taken → turn_of files now ≡ Wants next → OnInput main limit ReadFault old left before taken
  read_fails main limit i first now next ended old left before taken s lt r e = (
    r.got ++ told_rest left,
    tells_input ended old r.got left r.told,
    (now, next, told_rest left, r.out, passes main limit i first now ended old left before taken s lt r, e, tells_rest left, r.added),
  )

  -- a write fails
  pub write_fails : (main : List ℕ) (limit i : ℕ) (first now next : State) (ended : Bool) (old left before taken taken' : Option (List ℕ)) (bytes : List ℕ) → start files main ≡ Some first → i < limit → Reached files i first now ended old left before taken → turn_of files now ≡ Shows bytes next → AppendsFront taken taken' bytes → OnInput main limit WriteFault old left before taken'
  write_fails main limit i first now next ended old left before taken taken' bytes s lt r e w = (
    r.got ++ told_rest left,
    tells_input ended old r.got left r.told,
    (now, next, told_rest left, r.out, bytes, passes main limit i first now ended old left before taken s lt r, e, tells_rest left, subst (λ (k : Option (List ℕ)). AppendsFront k taken' bytes) r.added w),
  )

  -- an input on which what was written is a front part of what the run writes
  abbrev pub FrontOn : (main : List ℕ) (limit : ℕ) (old before taken : Option (List ℕ)) → Type 0
  FrontOn main limit old before taken = (bytes : List ℕ) × Tells old bytes × Stopped files main limit bytes before taken

  pub front_here : (main : List ℕ) (limit i : ℕ) (first now : State) (ended : Bool) (old left before taken : Option (List ℕ)) → start files main ≡ Some first → i ≤ limit → Reached files i first now ended old left before taken → FrontOn main limit old before taken
  front_here main limit i first now ended old left before taken s le r =
      let g = exec_grows files (limit - i) now (told_rest left) r.out in (
        r.got ++ told_rest left,
        tells_input ended old r.got left r.told,
        (r.out, g.0, sym (ap (λ f. f.out) (whole main limit i first now ended old left before taken s le r) ∙ g.1), r.added),
      )

  regroup : (out piece others more : List ℕ) → (out ++ piece) ++ (others ++ more) ≡ (out ++ (piece ++ others)) ++ more
  regroup out piece others more = simp append_assoc

  pub front_written : (main : List ℕ) (limit i : ℕ) (first now next : State) (ended : Bool) (old left before taken taken' : Option (List ℕ)) (bytes : List ℕ) → start files main ≡ Some first → i < limit → Reached files i first now ended old left before taken → turn_of files now ≡ Shows bytes next → AppendsFront taken taken' bytes → FrontOn main limit old before taken'
  front_written main limit i first now next ended old left before taken taken' bytes s lt r e w =
      let g = exec_grows files (limit - (i + 1)) next (told_rest left) (r.out ++ bytes) in
      let all = ap (λ f. f.out) (by_turn main limit i first now ended old left before taken (Shows bytes next) s lt r e) ∙ g.1 in (
        r.got ++ told_rest left,
        tells_input ended old r.got left r.told,
        (
          r.out ++ w.0,
          w.1 ++ g.0,
          regroup r.out w.0 w.1 g.0 ∙ ap (λ l. (r.out ++ l) ++ g.0) w.2 ∙ sym all,
          w.3 ∙ ap (λ k. append_known k w.0) r.added ∙ append_known-append before r.out w.0,
        ),
      )

  pub goes_on_telling : (i : ℕ) (first now : State) (ended : Bool) (old left before taken : Option (List ℕ)) → Reached files i first now ended old left before taken → is_some left ≡ is_some old
  goes_on_telling i first now ended old left before taken r = still_tells ended old r.got left r.told

  -- an input on which want of memory comes at a state of the run
  abbrev pub WantsOn : (main : List ℕ) (limit : ℕ) (old left before taken : Option (List ℕ)) → Type 0
  WantsOn main limit old left before taken = (bytes : List ℕ) × Tells old bytes × StoppedAt files main limit bytes left before taken

  pub wants_here : (main : List ℕ) (limit i : ℕ) (first now : State) (ended : Bool) (old left before taken : Option (List ℕ)) → start files main ≡ Some first → i < limit → Reached files i first now ended old left before taken → WantsOn main limit old left before taken
  wants_here main limit i first now ended old left before taken s lt r = (
    r.got ++ told_rest left,
    tells_input ended old r.got left r.told,
    inr (now, told_rest left, r.out, passes main limit i first now ended old left before taken s lt r, tells_rest left, r.added),
  )

  pub wants_first : (main : List ℕ) (limit : ℕ) (old before : Option (List ℕ)) → WantsOn main limit old old before before
  wants_first main limit old before = (told_rest old, tells_rest old, inl (tells_rest old, refl))

  -- nothing ran
  pub nothing_written : (main : List ℕ) (limit : ℕ) (old before : Option (List ℕ)) → FrontOn main limit old before before
  nothing_written main limit old before =
      (told_rest old, tells_rest old, ([], (machine_run files main limit (told_rest old)).out, refl, append_known-nil before))

  pub no_main : (main : List ℕ) (limit : ℕ) (old before : Option (List ℕ)) (class method : List ℕ) → start files main ≡ None → class ≡ main → method ≡ codes "main" → OnInput main limit (BadCode class method 0) old old before before
  no_main main limit old before class method s c m =
      let e : machine_run files main limit (told_rest old) ≡ record { end = BadCode main (codes "main") 0; input = told_rest old; out = [] } = ap (from_start files main limit (told_rest old)) s in
      subst (λ (l : List ℕ). OnInput main limit (BadCode l method 0) old old before before) (sym c)
      (subst (λ (l : List ℕ). OnInput main limit (BadCode main l 0) old old before before) (sym m)
      (told_rest old, tells_rest old, (ap (λ f. f.end) e, subst (λ (l : List ℕ). Tells old l) (sym (ap (λ f. f.input) e)) (tells_rest old), append_known-nil before ∙ ap (append_known before) (sym (ap (λ f. f.out) e)))))

  -- the same of what is the same
  pub reached_as : (i : ℕ) (first now now' : State) (ended ended' : Bool) (old left left' before taken taken' : Option (List ℕ)) → now' ≡ now → ended' ≡ ended → left' ≡ left → taken' ≡ taken → Reached files i first now ended old left before taken → Reached files i first now' ended' old left' before taken'
  reached_as i first now now' ended ended' old left left' before taken taken' s e l t r =
      subst (λ (x : State). Reached files i first x ended' old left' before taken') (sym s)
      (subst (λ (x : Bool). Reached files i first now x old left' before taken') (sym e)
      (subst (λ (x : Option (List ℕ)). Reached files i first now ended old x before taken') (sym l)
      (subst (λ (x : Option (List ℕ)). Reached files i first now ended old left before x) (sym t) r)))

pub on_true : (b : Bool) (P : Type 0) → b ≡ true → OnTrue b P → P
on_true true P e h = h
on_true false P e h = cc

pub on_ok : {T E : Type 0} (r : Result T E) (P : Type 0) → is_err r ≡ false → OnOk r P → P
on_ok (Ok x) P e h = h
on_ok (Err x) P e h = cc

pub no_fault : {T E : Type 0} (r : Result T E) (before now : ℕ) → is_err r ≡ false → HasCause before now r → now ≡ before
no_fault (Ok x) before now e h = h
no_fault (Err x) before now e h = cc

pub at_error : {T E : Type 0} (r : Result T E) (P : Type 0) → P → OnErr r P
at_error (Ok x) P h = tt
at_error (Err x) P h = h
