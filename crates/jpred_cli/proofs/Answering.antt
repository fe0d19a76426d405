-- What a whole answer says of single statuses.
use Rattle.std.proofs.Common.{◌≡◌, ◌⊎◌, ℕ, List, Option, Some, None, inl, inr, sym, ◌∙◌, subst, ap}
use Rattle.jp_outside.specs.Files.{Files, Finds}
use Rattle.cli_text.specs.declared.ending.Ending.{Ending}
use Rattle.cli_text.specs.declared.ending.Ending.TheVariants.{Done, NoCommand, Refused, Missing, UnitFault, ClassFault, OutputFault, OutOfMemory}
use Rattle.cli_text.specs.Words.{Go, IsRequest}
use Rattle.std.specs.Io.KnownBytes.{append_known}
use Rattle.print_form.specs.declared.literal.Literal.{Literal}
use Rattle.cli_text.specs.declared.refusal.Refusal.{Refusal}
use Rattle.cli_text.specs.Programs.{IsProgramText, IsRefusal}
use Rattle.cli_text.specs.Lines.{status_of, line, refusal_text, Reports}
use Rattle.jpred_cli.specs.Outcome.{Outside, AskNothing, HasRefusal, Did, Ended, Answers}
use Rattle.jpred_cli.specs.Answer.{IsStatus, AsksFor, WasRefused, ShowsRefusal, RunsPrograms, RefusesOthers, ShowsRefusals, MissesUnits}

-- a run that the words ask for ended as it did
pub ended : (words : List (List ℕ)) (main unit : List ℕ) (old new : Outside) (ending : Ending) → IsRequest words (Go main unit) → Did main unit old new ending → Ended words main unit old new ending
ended words main unit old new NoCommand asked did = absurd did
ended words main unit old new Done asked did = (asked, did)
ended words main unit old new (Refused refusal) asked did = (asked, did)
ended words main unit old new Missing asked did = (asked, did)
ended words main unit old new UnitFault asked did = (asked, did)
ended words main unit old new ClassFault asked did = (asked, did)
ended words main unit old new OutputFault asked did = (asked, did)
ended words main unit old new OutOfMemory asked did = (asked, did)

-- the status is the ending's, or 9
status_is : (ending : Ending) (main unit : List ℕ) (status : ℕ) (t t' : Option (List ℕ)) (f f' : ℕ) → Reports ending main unit status t t' f f' → (status ≡ status_of ending) ⊎ (status ≡ 9)
status_is ending main unit status t t' f f' (inl r) = inl r.0
status_is ending main unit status t t' f f' (inr r) = inr r.1

is_status : (ending : Ending) (status : ℕ) → (status ≡ status_of ending) ⊎ (status ≡ 9) → IsStatus status
is_status ending status (inl e) = (ending, e)
is_status ending status (inr e) = (OutputFault, e)

module _ (words : List (List ℕ)) (old new : Outside) (status : ℕ) (t t' : Option (List ℕ)) (f f' : ℕ) where
  pub statuses : Answers words old new status t t' f f' → IsStatus status
  statuses a = is_status a.ending status (status_is a.ending a.main a.unit status t t' f f' a.reports)

  asked_nothing : (ending : Ending) (main unit : List ℕ) → AskNothing words → Ended words main unit old new ending → (status ≡ status_of ending) ⊎ (status ≡ 9) → (status ≡ 2) ⊎ (status ≡ 9)
  asked_nothing NoCommand main unit none e s = s
  asked_nothing Done main unit none e s = absurd (none (Go main unit) e.0)
  asked_nothing (Refused refusal) main unit none e s = absurd (none (Go main unit) e.0)
  asked_nothing Missing main unit none e s = absurd (none (Go main unit) e.0)
  asked_nothing UnitFault main unit none e s = absurd (none (Go main unit) e.0)
  asked_nothing ClassFault main unit none e s = absurd (none (Go main unit) e.0)
  asked_nothing OutputFault main unit none e s = absurd (none (Go main unit) e.0)
  asked_nothing OutOfMemory main unit none e s = absurd (none (Go main unit) e.0)

  pub no_command : AskNothing words → Answers words old new status t t' f f' → (status ≡ 2) ⊎ (status ≡ 9)
  no_command none a = asked_nothing a.ending a.main a.unit none a.ended (status_is a.ending a.main a.unit status t t' f f' a.reports)

  -- the words ask for one run
  same_request : (main unit main' unit' : List ℕ) → IsRequest words (Go main unit) → IsRequest words (Go main' unit') → (main ≡ main') × (unit ≡ unit')
  same_request main unit main' unit' a b = let e = sym a.0 ∙ b.0 in (cc, cc)

  -- a store that tells its files finds one text under a name
  same_found : (files : Files) (unit unit' : List ℕ) (a b : Option (List ℕ)) → old.files ≡ Some files → unit ≡ unit' → Finds (Some files) unit a → Finds old.files unit' b → a ≡ b
  same_found files unit unit' a b told eu here there =
      let there' = subst (λ u. Finds (Some files) u b) (sym eu) (subst (λ (k : Option Files). Finds k unit' b) told there) in
      let both = sym here ∙ there' in cc

  same_text : (files : Files) (unit unit' text text' : List ℕ) → old.files ≡ Some files → unit ≡ unit' → Finds (Some files) unit (Some text) → Finds old.files unit' (Some text') → text ≡ text'
  same_text files unit unit' text text' told eu here there = let e = same_found files unit unit' (Some text) (Some text') told eu here there in cc

  module _ (main unit : List ℕ) (found : Option (List ℕ)) (asks : AsksFor words old.files main unit found) where
    -- what ended is the run that was asked for, of what was found
    ended_at : (main' unit' text' : List ℕ) → IsRequest words (Go main' unit') → Finds old.files unit' (Some text') → (main ≡ main') × (unit ≡ unit') × (found ≡ Some text')
    ended_at main' unit' text' asked there =
        let same = same_request main unit main' unit' asks.asked asked in
        (same.0, same.1, same_found asks.files unit unit' found (Some text') asks.told same.1 asks.finds there)

    missing_at : (main' unit' : List ℕ) → IsRequest words (Go main' unit') → Finds old.files unit' None → found ≡ None
    missing_at main' unit' asked there =
        let same = same_request main unit main' unit' asks.asked asked in
        same_found asks.files unit unit' found None asks.told same.1 asks.finds there

  runs_of : (ending : Ending) (main unit main' unit' text : List ℕ) (literals : List Literal) → AsksFor words old.files main unit (Some text) → IsProgramText main text literals → Ended words main' unit' old new ending → (status ≡ status_of ending) ⊎ (status ≡ 9) → (status ≡ 0) ⊎ (status ≡ 8) ⊎ (status ≡ 9) ⊎ (status ≡ 12)
  runs_of ending main unit main' unit' text literals asks is e (inr nine) = inr (inr (inl nine))
  runs_of Done main unit main' unit' text literals asks is e (inl s) = inl s
  runs_of NoCommand main unit main' unit' text literals asks is e (inl s) = absurd (e.0 (Go main unit) asks.asked)
  runs_of (Refused refusal) main unit main' unit' text literals asks is e (inl s) =
      let has = e.1.0 in
      let same = ended_at main unit (Some text) asks main' unit' has.text e.0 has.found in
      let texts : text ≡ has.text = let t = same.2 in cc in
      absurd (has.read.no_program literals (subst (λ m. IsProgramText m has.text literals) same.0 (subst (λ x. IsProgramText main x literals) texts is)))
  runs_of Missing main unit main' unit' text literals asks is e (inl s) = let gone = missing_at main unit (Some text) asks main' unit' e.0 e.1.0 in cc
  runs_of UnitFault main unit main' unit' text literals asks is e (inl s) = inr (inl s)
  runs_of ClassFault main unit main' unit' text literals asks is e (inl s) = inr (inl s)
  runs_of OutputFault main unit main' unit' text literals asks is e (inl s) = inr (inr (inl s))
  runs_of OutOfMemory main unit main' unit' text literals asks is e (inl s) = inr (inr (inr s))

  pub runs : Answers words old new status t t' f f' → RunsPrograms words old.files status
  runs a = λ main unit text literals asks is. runs_of a.ending main unit a.main a.unit text literals asks is a.ended (status_is a.ending a.main a.unit status t t' f f' a.reports)

  refuses_of : (ending : Ending) (main unit main' unit' text : List ℕ) → AsksFor words old.files main unit (Some text) → ((literals : List Literal) → IsProgramText main text literals → ⊥) → Ended words main' unit' old new ending → (status ≡ status_of ending) ⊎ (status ≡ 9) → (status ≡ 3) ⊎ (status ≡ 8) ⊎ (status ≡ 9) ⊎ (status ≡ 12)
  refuses_of ending main unit main' unit' text asks none e (inr nine) = inr (inr (inl nine))
  refuses_of Done main unit main' unit' text asks none e (inl s) =
      let has = e.1.1 in
      let same = ended_at main unit (Some text) asks main' unit' has.text e.0 has.found in
      let texts : has.text ≡ text = let t = same.2 in cc in
      absurd (none e.1.0 (subst (λ m. IsProgramText m text e.1.0) (sym same.0) (subst (λ x. IsProgramText main' x e.1.0) texts has.read.program)))
  refuses_of NoCommand main unit main' unit' text asks none e (inl s) = absurd (e.0 (Go main unit) asks.asked)
  refuses_of (Refused refusal) main unit main' unit' text asks none e (inl s) = inl s
  refuses_of Missing main unit main' unit' text asks none e (inl s) = let gone = missing_at main unit (Some text) asks main' unit' e.0 e.1.0 in cc
  refuses_of UnitFault main unit main' unit' text asks none e (inl s) = inr (inl s)
  refuses_of ClassFault main unit main' unit' text asks none e (inl s) = inr (inl s)
  refuses_of OutputFault main unit main' unit' text asks none e (inl s) = inr (inr (inl s))
  refuses_of OutOfMemory main unit main' unit' text asks none e (inl s) = inr (inr (inr s))

  pub refuses : Answers words old new status t t' f f' → RefusesOthers words old.files status
  refuses a = λ main unit text asks none. refuses_of a.ending main unit a.main a.unit text asks none a.ended (status_is a.ending a.main a.unit status t t' f f' a.reports)

  -- a refusal that is due is shown
  shown : (refusal refusal' : Refusal) (main unit main' unit' text : List ℕ) → AsksFor words old.files main unit (Some text) → IsRefusal main text refusal → IsRequest words (Go main' unit') → HasRefusal old.files main' unit' refusal' → Reports (Refused refusal') main' unit' status t t' f f' → ShowsRefusal refusal main unit status t t' ⊎ (status ≡ 9)
  shown refusal refusal' main unit main' unit' text asks is asked has (inr nine) = inr nine.1
  shown refusal refusal' main unit main' unit' text asks is asked has (inl r) =
      let same = ended_at main unit (Some text) asks main' unit' has.text asked has.found in
      let texts : text ≡ has.text = let t = same.2 in cc in
      let due : IsRefusal main' has.text refusal = subst (λ m. IsRefusal m has.text refusal) same.0 (subst (λ x. IsRefusal main x refusal) texts is) in
      inl (record {
        shown = refusal';
        same = has.read.only refusal due;
        status_is = r.0;
        written = r.1 ∙ ap (λ u. append_known t (line (refusal_text u refusal'))) (sym same.1);
      })

  shows_of : (ending : Ending) (main unit main' unit' text : List ℕ) (refusal : Refusal) → AsksFor words old.files main unit (Some text) → IsRefusal main text refusal → Ended words main' unit' old new ending → Reports ending main' unit' status t t' f f' → ShowsRefusal refusal main unit status t t' ⊎ (status ≡ 8) ⊎ (status ≡ 9) ⊎ (status ≡ 12)
  shows_of Done main unit main' unit' text refusal asks is e r =
      let has = e.1.1 in
      let same = ended_at main unit (Some text) asks main' unit' has.text e.0 has.found in
      let texts : text ≡ has.text = let t = same.2 in cc in
      absurd (has.read.no_refusal refusal (subst (λ m. IsRefusal m has.text refusal) same.0 (subst (λ x. IsRefusal main x refusal) texts is)))
  shows_of NoCommand main unit main' unit' text refusal asks is e r = absurd (e.0 (Go main unit) asks.asked)
  shows_of (Refused refusal') main unit main' unit' text refusal asks is e r =
      elim (shown refusal refusal' main unit main' unit' text asks is e.0 e.1.0 r) [
        | inl s ↦ inl s
        | inr nine ↦ inr (inr (inl nine))
      ]
  shows_of Missing main unit main' unit' text refusal asks is e r = let gone = missing_at main unit (Some text) asks main' unit' e.0 e.1.0 in cc
  shows_of UnitFault main unit main' unit' text refusal asks is e r = elim (status_is UnitFault main' unit' status t t' f f' r) [ inl s ↦ inr (inl s) | inr nine ↦ inr (inr (inl nine)) ]
  shows_of ClassFault main unit main' unit' text refusal asks is e r = elim (status_is ClassFault main' unit' status t t' f f' r) [ inl s ↦ inr (inl s) | inr nine ↦ inr (inr (inl nine)) ]
  shows_of OutputFault main unit main' unit' text refusal asks is e r = elim (status_is OutputFault main' unit' status t t' f f' r) [ inl s ↦ inr (inr (inl s)) | inr nine ↦ inr (inr (inl nine)) ]
  shows_of OutOfMemory main unit main' unit' text refusal asks is e r = elim (status_is OutOfMemory main' unit' status t t' f f' r) [ inl s ↦ inr (inr (inr s)) | inr nine ↦ inr (inr (inl nine)) ]

  pub shows : Answers words old new status t t' f f' → ShowsRefusals words old.files status t t'
  shows a = λ main unit text refusal asks is. shows_of a.ending main unit a.main a.unit text refusal asks is a.ended a.reports

  was_refused : (ending : Ending) (main unit : List ℕ) → Ended words main unit old new ending → Reports ending main unit status t t' f f' → status ≡ 3 → WasRefused words old new t t'
  was_refused (Refused refusal) main unit e (inl r) three = record { main = main; unit = unit; refusal = refusal; asked = e.0; did = e.1; written = r.1 }
  was_refused ending main unit e (inr r) three = let nine = r.1 in cc
  was_refused Done main unit e (inl r) three = let s = r.0 in cc
  was_refused NoCommand main unit e (inl r) three = let s = r.0 in cc
  was_refused Missing main unit e (inl r) three = let s = r.0 in cc
  was_refused UnitFault main unit e (inl r) three = let s = r.0 in cc
  was_refused ClassFault main unit e (inl r) three = let s = r.0 in cc
  was_refused OutputFault main unit e (inl r) three = let s = r.0 in cc
  was_refused OutOfMemory main unit e (inl r) three = let s = r.0 in cc

  pub refused : Answers words old new status t t' f f' → status ≡ 3 → WasRefused words old new t t'
  refused a three = was_refused a.ending a.main a.unit a.ended a.reports three

  misses_of : (ending : Ending) (main unit main' unit' : List ℕ) → AsksFor words old.files main unit None → Ended words main' unit' old new ending → (status ≡ status_of ending) ⊎ (status ≡ 9) → (status ≡ 6) ⊎ (status ≡ 8) ⊎ (status ≡ 9) ⊎ (status ≡ 12)
  misses_of ending main unit main' unit' asks e (inr nine) = inr (inr (inl nine))
  misses_of Done main unit main' unit' asks e (inl s) = let there = (ended_at main unit None asks main' unit' e.1.1.text e.0 e.1.1.found).2 in cc
  misses_of NoCommand main unit main' unit' asks e (inl s) = absurd (e.0 (Go main unit) asks.asked)
  misses_of (Refused refusal) main unit main' unit' asks e (inl s) = let there = (ended_at main unit None asks main' unit' e.1.0.text e.0 e.1.0.found).2 in cc
  misses_of Missing main unit main' unit' asks e (inl s) = inl s
  misses_of UnitFault main unit main' unit' asks e (inl s) = inr (inl s)
  misses_of ClassFault main unit main' unit' asks e (inl s) = inr (inl s)
  misses_of OutputFault main unit main' unit' asks e (inl s) = inr (inr (inl s))
  misses_of OutOfMemory main unit main' unit' asks e (inl s) = inr (inr (inr s))

  pub misses : Answers words old new status t t' f f' → MissesUnits words old.files status
  misses a = λ main unit asks. misses_of a.ending main unit a.main a.unit asks a.ended (status_is a.ending a.main a.unit status t t' f f' a.reports)
