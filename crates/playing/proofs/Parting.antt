-- The parts of a trace that a round is played on: they lie in it, have the roles, marks and readings of the round, and
-- are as long as a round asks.
-- Assumes nothing.
use mathlib.Core.Bool.{true}
use mathlib.Core.List.{List}
use mathlib.Core.Path.{◌≡◌, refl, ap, ap₂, ◌∙◌}
use Prim.Native.Nat.{ℕ, ◌+◌, ◌*◌, ◌≤◌, ◌<◌}
use native.Mathlib.Nat.{one-mul, add-mul, mul-le-mul, le_refl}
use native.Mathlib.Omega.{arith}
use borrow.Author.Tests.{le-leb, lt-ltb, eq-eqb}
use lib.ListN.{length, get_or}
use Rattle.arithmetic.proofs.Bools.{and_intro}
use Rattle.model.specs.declared.Settings.{Settings}
use Rattle.model.specs.Ensemble.{max_cabinets, max_window}
use Rattle.model.specs.RoundSheet.{byte, word, settings_at}
use Rattle.model.specs.Planner.{with_window}
use Rattle.refusal_laws.proofs.Limits.{Limits, limits}
use Rattle.hearing.specs.Heard.{audible}
use Rattle.station_rounds.specs.Rounds.{round_fits}
use Rattle.trace.specs.Trace.{trace_header_size, rounds_at, trace_entries}
use Rattle.trace.specs.Replay.{state_to}
use Rattle.trace_parts.specs.Parts.{part_from}
use Rattle.trace_parts.proofs.Parts.{part_length, part_at, part-word}
use Rattle.playing.specs.Playing.{Playable}
use Rattle.playing.proofs.Hearing.{Parts, planned, planned-within}

-- a round's entries lie among those of all rounds
rounds_lie : (k rounds pairs : ℕ) → k < rounds → k * pairs + pairs ≤ rounds * pairs
rounds_lie k rounds pairs h =
    let one = add-mul k 1 pairs in
    let more : k + 1 ≤ rounds = omega arith in
    let whole = mul-le-mul {n₂ = rounds} {m₂ = pairs} more (le_refl pairs) in
    omega (arith, one-mul pairs)

module _ (s : List ℕ) (small : (j : ℕ) → byte s j < 256) (ok : Playable s) (k : ℕ) (early : k < rounds_at s) where
  abbrev n : ℕ
  n = (settings_at s).n

  abbrev pairs : ℕ
  pairs = (settings_at s).n * (settings_at s).n

  abbrev before : ℕ
  before = k * ((settings_at s).n * (settings_at s).n)

  lies : before + pairs ≤ rounds_at s * pairs
  lies = rounds_lie k (rounds_at s) pairs early

  long : length s ≡ trace_header_size + 5 * n + 5 * (rounds_at s * pairs)
  long = ok.long

  module _ (c : Settings) (own : c ≡ (state_to s k).plan.settings) where
    settled : c ≡ with_window (settings_at s) (state_to s k).plan.settings.window
    settled = own ∙ planned s small ok k early

    pub cabinets : c.n ≡ n
    cabinets = ap (λ (d : Settings). d.n) settled

    faults : c.m ≡ (settings_at s).m
    faults = ap (λ (d : Settings). d.m) settled

    narrow : c.window ≤ max_window
    narrow = rw settled (planned-within s small ok k early).window

    within : Limits (settings_at s)
    within = limits (settings_at s) ok.passes

    pub few : c.n ≤ max_cabinets
    few = rw cabinets within.cabinets

    one-round : trace_entries c.n 1 ≡ pairs
    one-round = one-mul (c.n * c.n) ∙ ap (λ (m : ℕ). m * m) cabinets

    module _ (roles sent readings : List ℕ)
        (roles-are : roles ≡ part_from s trace_header_size c.n)
        (sent-are : sent ≡ part_from s (trace_header_size + 5 * c.n + trace_entries c.n k) (trace_entries c.n 1))
        (readings-are :
        readings
        ≡ part_from s (trace_header_size + 5 * c.n + trace_entries c.n (rounds_at s) + 4 * trace_entries c.n k)
        (4 * trace_entries c.n 1)) where
      roles-here : roles ≡ part_from s trace_header_size n
      roles-here = roles-are ∙ ap (part_from s trace_header_size) cabinets

      sent-here : sent ≡ part_from s (trace_header_size + 5 * n + before) pairs
      sent-here =
          sent-are
          ∙ ap₂ (part_from s) (ap (λ (m : ℕ). trace_header_size + 5 * m + k * (m * m)) cabinets) one-round

      readings-here : readings ≡ part_from s (trace_header_size + 5 * n + rounds_at s * pairs + 4 * before) (4 * pairs)
      readings-here =
          readings-are
          ∙ ap₂ (part_from s)
          (ap (λ (m : ℕ). trace_header_size + 5 * m + rounds_at s * (m * m) + 4 * (k * (m * m))) cabinets)
          (ap (λ (x : ℕ). 4 * x) one-round)

      roles_lie : trace_header_size + n ≤ length s
      roles_lie = omega (arith, long)

      sent_lie : trace_header_size + 5 * n + before + pairs ≤ length s
      sent_lie = omega (arith, long, lies)

      readings_lie : trace_header_size + 5 * n + rounds_at s * pairs + 4 * before + 4 * pairs ≤ length s
      readings_lie = omega (arith, long, lies)

      pub roles-long : length roles ≡ n
      roles-long = ap length roles-here ∙ part_length s trace_header_size n roles_lie

      sent-long : length sent ≡ pairs
      sent-long = ap length sent-here ∙ part_length s (trace_header_size + 5 * n + before) pairs sent_lie

      readings-long : length readings ≡ 4 * pairs
      readings-long =
          ap length readings-here
          ∙ part_length s (trace_header_size + 5 * n + rounds_at s * pairs + 4 * before) (4 * pairs) readings_lie

      pub parts : Parts s small ok k early roles sent readings
      parts =
          record {
            long = roles-long;
            role = λ r l. ap (λ (xs : List ℕ). get_or xs r 0) roles-here ∙ part_at s trace_header_size n roles_lie r l;
            mark = λ e l.
                ap (λ (xs : List ℕ). get_or xs e 0) sent-here
                ∙ part_at s (trace_header_size + 5 * n + before) pairs sent_lie e l
                ∙ ap (byte s) (omega arith);
            bits = λ e l.
                ap (λ (xs : List ℕ). word xs (4 * e)) readings-here
                ∙ part-word s (trace_header_size + 5 * n + rounds_at s * pairs + 4 * before) (4 * pairs) readings_lie (4 * e)
                (omega arith)
                ∙ ap (word s) (omega arith);
          }

      -- the sizes fit a round
      pub fits-here :
          (held next : List ℕ) → length held ≡ c.n → length next ≡ c.n
          → round_fits c roles held sent readings next ≡ true
      unfolding round_fits audible
      fits-here held next h x =
          let f = within.faults in
          rw (roles-long, sent-long, readings-long, h, x, cabinets)
          (and_intro
          (and_intro (eq-eqb n n refl)
          (and_intro (lt-ltb (2 * c.m) n (rw faults (omega arith))) (le-leb c.window max_window narrow)))
          (and_intro (and_intro (le-leb n max_cabinets within.cabinets) (lt-ltb 0 n within.some_cabinet))
          (and_intro
          (and_intro (and_intro (eq-eqb n n refl) (eq-eqb pairs pairs refl)) (eq-eqb (4 * pairs) (4 * pairs) refl))
          (and_intro (eq-eqb n n refl) (eq-eqb n n refl)))))
