-- From bytes to the round: the sheet that a sound cabinet fills passes checks 1 to 9, and settling it gives the round
-- of what the cabinet reads. It is refused exactly where no reading is accepted; else bytes 6 to 9 of its answer sheet
-- are the round's new value.
-- Assumes nothing.
use mathlib.Core.Bool.{true, false}
use mathlib.Core.List.{List}
use mathlib.Core.Logic.{⊎_elim}
use mathlib.Core.Option.{none, some}
use mathlib.Core.Path.{◌≡◌, refl, sym, ap, ◌∙◌}
use Prim.Native.Nat.{ℕ, ◌+◌, ◌*◌, ◌<◌}
use native.Mathlib.Omega.{arith}
use borrow.Author.Tests.{eq-eqb, ne_eqb}
use lib.Arith.{digits_lt}
use lib.Dec.{eqb}
use lib.IntN.{ℤ}
use lib.ListN.{length, replicate, length-replicate}
use mir.Syntax.{w32}
use mir.Val.{SFits}
use Rattle.arithmetic.proofs.Bools.{both_ways}
use Rattle.decision_laws.proofs.Decision.{decide_ext}
use Rattle.decision_laws.proofs.Rows.{read-direct, read-decided}
use Rattle.model.specs.declared.Settings.{Settings}
use Rattle.model.specs.Ensemble.{present, Readings, ticks, quorum}
use Rattle.model.specs.RoundSheet.{cca, trims, settings_at, entry_count, entry_at, sheet_length, sheet_bytes}
use Rattle.model.specs.AnswerSheet.{answer_length, answer_bytes}
use Rattle.model.specs.Refusals.{refusal, first_of, settings_checks, settle_checks, too_many_faults, too_many_faults_number}
use Rattle.model.specs.Calls.{granted, refused, Outcome, written_after, write, settle_spread, settle}
use Rattle.model.specs.Planner.{with_window}
use Rattle.model.specs.Steps.{Round, decided_reading, readings_of, round_of, round_at}
use Rattle.round_laws.proofs.Local.{EqualBelow, EqualRounds, round_local, round-by-spans, answer_local}
use Rattle.sheet_laws.proofs.Answer.{answer-value}
use Rattle.sheet_laws.proofs.Checks.{room-pass}
use Rattle.run.proofs.Filled.{marks_from, ticks_from, filled_well_formed, filled-entry, filled-write}
use Rattle.sheet_laws.proofs.Orders.{settle-checks, no_spread}
use Rattle.sheet_laws.proofs.Written.{WellFormed, settings-back, sheet-passes, entries-pass}
use Rattle.run.specs.Run.{Station, N, Sends, Allowed, State, entry_of, sheet_of, settled, holds}
use Rattle.run.proofs.Entries.{seen}

-- readings depend on the entries below E alone
pub readings_local :
    (c : Settings) (f g : Readings) → EqualBelow (entry_count c) f g
    → EqualBelow c.n (readings_of c f) (readings_of c g)
unfolding entry_count
readings_local c f g same r l =
    ⊎_elim
    (λ b.
    read-decided c f r b
    ∙ ap decided_reading
    (decide_ext (quorum c) c.n (λ s. f (r * c.n + s)) (λ s. g (r * c.n + s))
    (λ s k. same (r * c.n + s) (relayed b (digits_lt l k))))
    ∙ sym (read-decided c g r b))
    (λ b. read-direct c f r b ∙ same r (direct b) ∙ sym (read-direct c g r b))
    (both_ways (eqb c.rule cca))
  where
    relayed : eqb c.rule cca ≡ true → {e : ℕ} → e < c.n * c.n → e < entry_count c
    relayed b h = rw b h

    direct : eqb c.rule cca ≡ false → r < entry_count c
    direct b = rw b l

module _ (st : Station) (now : State) (x : Sends) (w p : ℕ) where
  -- the settings of the round, and the round of what p reads
  abbrev c : Settings
  c = with_window st.settings w

  abbrev pub found : Round
  found = round_of c 0 (seen st now x w p)

  -- p's entries, and the marks, the readings and the bytes of its sheet
  abbrev entries : Readings
  entries = entry_of st now x p

  abbrev marks : List ℕ
  marks = marks_from c entries

  abbrev readings : List ℤ
  readings = ticks_from c entries

  bytes : List ℕ
  bytes = sheet_bytes c marks readings

  module _ (plan : now.plan.settings ≡ with_window st.settings w)
      (pass : first_of (settings_checks (with_window st.settings w)) ≡ none)
      (spans : trims st.settings.rule ≡ false)
      (allowed : Allowed st x)
      (fits : (e : ℕ) → e < entry_count st.settings → SFits w32 (ticks (entry_of st now x p e))) where
    same_entries : entry_count c ≡ entry_count st.settings
    unfolding entry_count
    same_entries = refl

    fits-here : (e : ℕ) → e < entry_count c → SFits w32 (ticks (entries e))
    fits-here e l = fits e (rw same_entries at l)

    formed : WellFormed c marks readings
    formed = filled_well_formed c entries pass fits-here

    settings_is : settings_at bytes ≡ c
    unfolding bytes
    settings_is = settings-back c marks readings formed

    size_is : (settings_at bytes).n ≡ N st
    size_is = ap (λ (d : Settings). d.n) settings_is

    sheet_is : sheet_of st now x p ≡ bytes
    unfolding sheet_of bytes entry_count
    sheet_is =
        ap (λ (d : Settings). (write d marks readings blank).buffer) plan
        ∙ ap (λ (z : Outcome). z.buffer)
        (filled-write c entries pass fits-here blank (length-replicate (sheet_length st.settings) 0))
      where
        blank : List ℕ
        blank = replicate (sheet_length st.settings) 0

    -- the round that settling finds is the round of what p reads
    round_is : EqualRounds (N st) (round_at bytes 0) found
    unfolding round_at bytes seen
    round_is =
        rw (settings_is, round-by-spans c 0 (readings_of c (entry_at bytes (entry_count c))) spans)
        (round_local c 0
        (readings_of c (entry_at bytes (entry_count c)))
        (readings_of c entries)
        (readings_local c (entry_at bytes (entry_count c)) entries (filled-entry c entries pass fits-here)))

    -- of the checks only 10 can refuse
    checks : first_of (settle_checks bytes 0 (length (x.buffer p))) ≡ too_many_faults found.count
    unfolding bytes
    checks =
        settle-checks bytes 0 (length (x.buffer p))
        ∙ rw (
          no_spread bytes,
          sheet-passes c marks readings formed,
          size_is,
          room-pass (length (x.buffer p)) (answer_length (N st)) (allowed.room p),
          entries-pass c marks readings formed,
          round_is.count,
        )

    -- what settling gives: the round of what p reads, or refusal 10
    pub settled_is :
        settled st now x p
        ≡ written_after (too_many_faults found.count) (answer_length (N st)) (answer_bytes (N st) found) (x.buffer p)
    unfolding settled settle settle_spread
    settled_is =
        ap (λ (s : List ℕ). settle s (x.buffer p)) sheet_is
        ∙ rw (checks, size_is, answer_local (N st) (round_at bytes 0) found round_is)

    none_check : (count : ℕ) → 0 < count → too_many_faults count ≡ none
    unfolding too_many_faults
    none_check count h = rw (ne_eqb count 0 (λ e. omega arith))

    some_check : (count : ℕ) → count ≡ 0 → too_many_faults count ≡ some (refusal too_many_faults_number 0)
    unfolding too_many_faults
    some_check count h = rw (eq-eqb count 0 h)

    -- no reading accepted: refusal 10 at place 0
    pub settled-refused : found.count ≡ 0 → (settled st now x p).verdict ≡ refused (refusal too_many_faults_number 0)
    settled-refused h =
        let s = settled_is in
        rw s (rw (some_check found.count h))

    module _ (some-acc : 0 < found.count) where
      pub settled-granted : (settled st now x p).verdict ≡ granted (answer_length (N st))
      settled-granted =
          let s = settled_is in
          rw s (rw (none_check found.count some-acc))

      -- p holds the round's new value
      pub settled-holds :
          SFits w32 found.value
          → holds (settled st now x p).verdict (settled st now x p).buffer ≡ present found.value
      settled-holds h =
          let s = settled_is in
          rw s
          (rw (none_check found.count some-acc)
          (ap present (answer-value (N st) found (x.buffer p) h)))
