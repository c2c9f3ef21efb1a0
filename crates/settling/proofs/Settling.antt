-- What is written of a round that is held is the sheet's answer, or check 10 refuses.
-- Assumes nothing.
use mathlib.Core.Bool.{Bool, true, false}
use mathlib.Core.List.{List}
use mathlib.Core.Option.{none, some}
use mathlib.Core.Path.{◌≡◌, refl, sym, ap, ap₂, ◌∙◌, subst}
use Prim.Native.Nat.{ℕ, ◌≤◌, ◌<◌}
use native.Mathlib.Omega.{arith}
use borrow.Author.Tests.{le-leb, eq-eqb, ne_eqb}
use lib.ListN.{length}
use Rattle.arithmetic.specs.Writing.{overwrite}
use Rattle.arithmetic.proofs.Bools.{and_intro}
use Rattle.model.specs.Refusals.{Refusal}
use Rattle.model.specs.declared.Settings.{Settings}
use Rattle.model.specs.Ensemble.{max_cabinets}
use Rattle.model.specs.RoundSheet.{byte, trims, settings_at}
use Rattle.model.specs.AnswerSheet.{answer_bytes, answer_length}
use Rattle.model.specs.Steps.{span_width, Round, round_at}
use Rattle.model.specs.Refusals.{Check, refusal, first_of, row_checks, too_many_faults, bad_spread, too_many_faults_number}
use Rattle.model.specs.Calls.{Outcome, granted, refused, verdict, settle_after, settle_spread}
use Rattle.refusal_laws.proofs.Limits.{Limits}
use Rattle.round_laws.proofs.Local.{answer_local}
use Rattle.estimates.specs.declared.Estimated.{Estimated}
use Rattle.answer_parts.specs.Parts.{roomy}
use Rattle.answer_writer.specs.Answers.{round_held, written_of}
use Rattle.answer_writer.proofs.Bytes.{written}
use Rattle.outcomes.specs.Outcomes.{concluded}
use Rattle.outcomes.proofs.Outcomes.{none_left, some_left}
use Rattle.reception.specs.Receiving.{marks_received, values_received}
use Rattle.settling.specs.Rounds.{Ready, spread_of, numbers_by, marks_by, numbers_of, marks_of}
use Rattle.settling.proofs.Checking.{passes-settle}
use Rattle.settling.proofs.Received as received
use Rattle.settling.proofs.Received.{Receives, Written}
use Rattle.settling.proofs.Agreed.{agreed-written}
use Rattle.settling.proofs.Trimmed.{trimmed-written}

-- the two outcomes that are left when checks 1 to 9 pass
abbrev wrote : ℕ → List ℕ → Outcome
wrote size buffer = record { verdict = granted size; buffer = buffer }

abbrev too_many : List ℕ → Outcome
too_many buffer = record { verdict = refused (refusal too_many_faults_number 0); buffer = buffer }

pub record CallsLeave (s : List ℕ) (c : Settings) (D : ℕ) (marks₀ values₀ marks values kept : List ℕ) (a : Estimated)
    : Type 0 where
  pub receives : Receives s c marks₀ values₀ marks values
  pub agrees : a ≡ numbers_by c (span_width c D) marks values
  pub keeps : kept ≡ marks_by c (span_width c D) marks values

-- the span is as wide as its window and its spread
wide : (c : Settings) (span : ℕ) → c.window ≤ span → span ≡ span_width c (spread_of c span)
wide c span l = omega arith

pub calls_leave :
    (s : List ℕ) (c : Settings) (span : ℕ) (marks₀ values₀ values kept : List ℕ) (a : Estimated)
    → ((j : ℕ) → byte s j < 256)
    → length marks₀ ≡ c.n
    → length values₀ ≡ c.n
    → c.window ≤ span
    → a ≡ numbers_of s c span marks₀ values₀
    → kept ≡ marks_of s c span marks₀ values₀
    → values ≡ values_received s c marks₀ values₀
    → CallsLeave s c (spread_of c span) marks₀ values₀ (marks_received s c marks₀ values₀) values kept a
calls_leave s c span marks₀ values₀ values kept a small mark-room value_room l agrees keeps valued =
    let marks = marks_received s c marks₀ values₀ in
    record {
      receives =
          record {
            small = small;
            mark_room = mark-room;
            value_room = value_room;
            marked = refl;
            valued = valued;
          };
      agrees = agrees ∙ ap₂ (λ (w : ℕ) (v : List ℕ). numbers_by c w marks v) (wide c span l) (sym valued);
      keeps = keeps ∙ ap₂ (λ (w : ℕ) (v : List ℕ). marks_by c w marks v) (wide c span l) (sym valued);
    }

module _ (s : List ℕ) (D : ℕ) (pass : first_of (row_checks s) ≡ none) (spread : bad_spread (settings_at s) D ≡ none) where
  abbrev own : Settings
  own = settings_at s

  within : Limits own
  within = received.within s pass

  module _ (marks₀ values₀ marks values kept : List ℕ) (a : Estimated)
      (h : CallsLeave s own D marks₀ values₀ marks values kept a) where
    -- by either kind of rule
    w : Written s D values kept a
    unfolding numbers_by marks_by
    w = go (trims own.rule) refl
      where
        go : (b : Bool) → trims own.rule ≡ b → Written s D values kept a
        go true e =
            trimmed-written s D pass e marks₀ values₀ marks values kept a h.receives (h.agrees ∙ rw e) (h.keeps ∙ rw e)
        go false e =
            agreed-written s D pass spread e marks₀ values₀ marks values kept a h.receives (h.agrees ∙ rw e)
            (h.keeps ∙ rw e)

    also-long : length values ≡ own.n
    also-long = received.also-long s pass marks₀ values₀ marks values h.receives

    -- the round that is written
    abbrev round : Round
    round = round_held a.count a.estimate a.value kept values

    module _ (old : List ℕ) (large : answer_length own.n ≤ length old) where
      pub none-settled : a.count ≡ 0 → too_many old ≡ settle_spread s D old
      unfolding too_many_faults
      none-settled z = after ∙ passes-settle s D old pass spread large
        where
          after :
              too_many old ≡ settle_after (too_many_faults (round_at s D).count) s D old
          after = rw (eq-eqb (round_at s D).count 0 (w.none z))

      room-here : (a.count ≡ 0 → ⊥) → roomy (length kept) (length values) (length old) ≡ true
      unfolding roomy
      room-here d =
          rw (w.long d, also-long)
          (and_intro (le-leb own.n max_cabinets within.cabinets)
          (and_intro (eq-eqb own.n own.n refl) (le-leb (answer_length own.n) (length old) large)))

      -- what is written is the sheet's answer
      answer-here :
          (a.count ≡ 0 → ⊥)
          → written_of a.count a.estimate a.value kept values old
          ≡ overwrite (answer_bytes own.n (round_at s D)) old
      answer-here d =
          sym (written a.count a.estimate a.value kept values old (room-here d))
          ∙ ap (λ (l : List ℕ). overwrite l old)
          (ap (λ (n : ℕ). answer_bytes n round) (w.long d) ∙ answer_local own.n round (round_at s D) (w.alike d))

      pub some-settled :
          (a.count ≡ 0 → ⊥)
          → wrote (answer_length own.n) (written_of a.count a.estimate a.value kept values old)
          ≡ settle_spread s D old
      unfolding too_many_faults
      some-settled d =
          ap (wrote (answer_length own.n)) (answer-here d)
          ∙ after
          ∙ passes-settle s D old pass spread large
        where
          some-count : (round_at s D).count ≡ 0 → ⊥
          some-count z = d ((w.alike d).count ∙ z)

          after :
              wrote (answer_length own.n) (overwrite (answer_bytes own.n (round_at s D)) old)
              ≡ settle_after (too_many_faults (round_at s D).count) s D old
          after = rw (ne_eqb (round_at s D).count 0 some-count)

-- the same for settings that are known to be the sheet's
module _ (s : List ℕ) (c : Settings) (D : ℕ) (old : List ℕ) (ready : Ready s c D old)
    (marks₀ values₀ marks values kept : List ℕ) (a : Estimated) (h : CallsLeave s c D marks₀ values₀ marks values kept a) where
  moved : CallsLeave s (settings_at s) D marks₀ values₀ marks values kept a
  moved = subst (λ (d : Settings). CallsLeave s d D marks₀ values₀ marks values kept a) ready.own h

  room : answer_length (settings_at s).n ≤ length old
  room = subst (λ (d : Settings). answer_length d.n ≤ length old) ready.own ready.room

  -- what `conclude` leaves
  module _ (left : List ℕ)
      (is-left : left ≡ concluded a.count a.estimate a.value kept values old) where
    refuses :
        (r : Refusal)
        → some r ≡ too_many_faults a.count
        → ◌≡◌ {A = Outcome} (record { verdict = refused r; buffer = left }) (settle_spread s D old)
    refuses r told =
        let n = none_left a.count a.estimate a.value kept values old left is-left r told in
        ap₂ (λ (f : Refusal) (l : List ℕ). record { verdict = refused f; buffer = l }) n.number n.kept
        ∙ none-settled s D ready.passes ready.spread marks₀ values₀ marks values kept a moved old room n.count_none

    settles : none ≡ too_many_faults a.count → wrote (answer_length c.n) left ≡ settle_spread s D old
    settles told =
        let n = some_left a.count a.estimate a.value kept values old left is-left told in
        ap (wrote (answer_length c.n)) n.put
        ∙ rw ready.own
        (some-settled s D ready.passes ready.spread marks₀ values₀ marks values kept a moved old room n.count-some)

    -- what check 10 says of it
    pub concludes :
        (last : Check) → last ≡ too_many_faults a.count
        → ◌≡◌ {A = Outcome} (record { verdict = verdict last (answer_length c.n); buffer = left }) (settle_spread s D old)
    concludes none told = settles told
    concludes (some r) told = refuses r told

-- settings that pass checks 2 to 5
pub few-faults :
    (s : List ℕ) (c : Settings) (D : ℕ) (old : List ℕ) → Ready s c D old → (c.m ≤ c.n) × (c.n ≤ max_cabinets)
few-faults s c D old ready =
    let l = received.within s ready.passes in
    rw ready.own (let f = l.faults in (omega arith, l.cabinets))
