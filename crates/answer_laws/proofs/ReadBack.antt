-- The answer sheet that settling granted passes its checks and shows the round's fields: its bytes are those that
-- settling wrote, and every number of the round has 32 bits.
-- Assumes nothing.
use mathlib.Core.Bool.{true, false}
use mathlib.Core.List.{List, [], ◌++◌, append-nil}
use mathlib.Core.Option.{none}
use mathlib.Core.Path.{◌≡◌, sym, ap, ◌∙◌, subst⁻¹}
use Prim.Native.Nat.{ℕ, ◌+◌, ◌<◌}
use native.Mathlib.Omega.{arith}
use borrow.Author.Tests.{eq-eqb, ne_eqb, le-ltb}
use lib.Dec.{eqb, ltb}
use lib.ListN.{length, take, drop}
use lib.Seq.{take-append-le, take-length, drop-nil}
use Rattle.arithmetic.specs.Writing.{overwrite}
use Rattle.model.specs.RoundSheet.{byte, settings_at}
use Rattle.model.specs.AnswerSheet.{answer_length, answer_bytes}
use Rattle.model.specs.Steps.{round_at}
use Rattle.model.specs.Refusals.{Check, first_of, settle_checks, spread_checks, bad_cabinets, bad_length, no_room}
use Rattle.model.specs.Calls.{granted, verdict, settle_spread, written_after}
use Rattle.model.specs.Ensemble.{max_cabinets}
use Rattle.refusal_laws.proofs.Checks.{first_snoc, none_left}
use Rattle.refusal_laws.proofs.Limits.{Limits}
use Rattle.sheet_laws.proofs.Outcomes.{granted-none, granted-same}
use Rattle.sheet_laws.proofs.Answer.{length-answer_bytes, answer-cabinets, answer-count, answer-estimate, answer-value, answer-mark, answer-used}
use Rattle.sheet_laws.proofs.Inspection.{inspected}
use Rattle.sheet_laws.proofs.Orders.{spread-passed}
use Rattle.value_laws.proofs.Sheets.{settled-estimate, settled-value, settled-used}
use Rattle.answer_reader.specs.Fields.{answer_checks, cabinet_checks, cabinets_in, count_in, estimate_in, value_in, mark_in, used_in}
use Rattle.answer_laws.specs.ReadBack.{ReadsBack, Settled, answer_sheet, SettledReadsBack}

-- writing over nothing leaves what is written
over_nothing : (new : List ℕ) → overwrite new [] ≡ new
unfolding overwrite
over_nothing new = ap (λ (l : List ℕ). new ++ l) (drop-nil (length new)) ∙ append-nil new

-- the first bytes of what is written over, as many as were written
over_first : (new old : List ℕ) (size : ℕ) → length new ≡ size → take size (overwrite new old) ≡ new
unfolding overwrite
over_first new old size same =
    ap (λ (k : ℕ). take k (new ++ drop (length new) old)) (sym same)
    ∙ take-append-le (length new) new (drop (length new) old) (omega arith)
    ∙ take-length new

module _ (s : List ℕ) (D : ℕ) (buffer : List ℕ) (size : ℕ) (settled : Settled s D buffer size) where
  abbrev n : ℕ
  n = (settings_at s).n

  abbrev outcome : Check
  outcome = first_of (settle_checks s D (length buffer))

  abbrev new : List ℕ
  new = answer_bytes n (round_at s D)

  passes : outcome ≡ none
  unfolding settle_spread
  passes = granted-none outcome (answer_length n) size settled.granted-size

  same_size : answer_length n ≡ size
  unfolding settle_spread
  same_size = granted-same outcome (answer_length n) size settled.granted-size

  abbrev a : List ℕ
  a = answer_sheet s D buffer size

  -- what settling wrote, and nothing after it
  written : a ≡ overwrite new []
  unfolding settle_spread
  written =
      ap (λ (x : Check). take size (written_after x (answer_length n) new buffer).buffer) passes
      ∙ over_first new buffer size (length-answer_bytes n (round_at s D) ∙ same_size)
      ∙ sym (over_nothing new)

  within : Limits (settings_at s)
  unfolding settle_checks
  within =
      (inspected s (settings_at s) (ap (λ (x : Check). verdict x (settings_at s)) (spread-passed s D (none_left (spread_checks s D) _ passes)).1)).within

  -- the bytes are an answer sheet, with cabinets 0 to n-1
  module _ (b : List ℕ) (cabinets : byte b 0 ≡ n) (long : length b ≡ answer_length n) where
    sheet-passes : first_of (answer_checks b) ≡ none
    unfolding first_of answer_checks bad_cabinets bad_length
    sheet-passes =
        let one = within.some_cabinet in
        let most = within.cabinets in
        let some-cabinet : eqb (byte b 0) 0 ≡ false = ne_eqb (byte b 0) 0 (λ e. omega arith) in
        let few : ltb max_cabinets (byte b 0) ≡ false = le-ltb max_cabinets (byte b 0) (omega arith) in
        let same : eqb (length b) (answer_length (byte b 0)) ≡ true =
        eq-eqb (length b) (answer_length (byte b 0)) (long ∙ ap answer_length (sym cabinets)) in
        rw (some-cabinet, few, same)

    cabinet-passes : (r : ℕ) → r < n → first_of (cabinet_checks b r) ≡ none
    unfolding cabinet_checks no_room
    cabinet-passes r h =
        let room : ltb (byte b 0) (r + 1) ≡ false = le-ltb (byte b 0) (r + 1) (omega arith) in
        first_snoc (answer_checks b) (no_room (byte b 0) (r + 1)) ∙ rw (sheet-passes, room)

  shown : ReadsBack s D (overwrite new [])
  unfolding cabinets_in count_in estimate_in value_in mark_in used_in
  shown =
      let round = round_at s D in
      let cabinets = answer-cabinets n round [] in
      let long = ap length (over_nothing new) ∙ length-answer_bytes n round in
      let pass = sheet-passes (overwrite new []) cabinets long in
      let pass-at = cabinet-passes (overwrite new []) cabinets long in
      let bytes = settled.bytes in
      record {
        cabinets = rw pass (ap granted cabinets);
        count = rw pass (ap granted (answer-count n round []));
        estimate = rw pass (ap granted (answer-estimate n round [] (settled-estimate s bytes D buffer passes)));
        value = rw pass (ap granted (answer-value n round [] (settled-value s bytes D buffer passes)));
        mark = λ r h. rw (pass-at r h) (ap granted (answer-mark n round [] r h));
        used = λ r h.
            rw (pass-at r h, cabinets) (ap granted (answer-used n round [] r h (settled-used s bytes D buffer passes r h)));
      }

pub settled-reads-back : SettledReadsBack
settled-reads-back s D buffer size settled =
    subst⁻¹ (λ (l : List ℕ). ReadsBack s D l) (written s D buffer size settled) (shown s D buffer size settled)
