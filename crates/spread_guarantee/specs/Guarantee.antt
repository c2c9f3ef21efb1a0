-- Document 02, "Paper 2. Cable runs differ" (docs/FORMAT.md, 13): how far sound cabinets can be from each other and
-- from true time after one round, where they read a good cabinet alike only up to a spread D and at most m cabinets are
-- bad, whatever the bad ones send to whom. The theorem is `spread-guarantee` of proofs/Guarantee.antt. Witnesses.antt
-- has the sheets that reach both limits. The first is as "Paper 4. Halves go to the even tick" rewrites it: the whole
-- part of q/N plus one where "Paper 2" has ⌈q/N⌉, which is true too for an odd N, where no mean is a half.
--
-- Where this departs from the paper (document 004): its Lemma 16 takes 2(δ + D) for the hull of what two cabinets
-- accept, and the last line of its proof of Theorem 17 rests on that. Both are false: Witnesses.antt.
-- What is not claimed: more rounds than one with a spread; limits where more than m are bad. "Repeated rounds and t
-- above m are promised only for D 0": that is crates/demand_3/specs/Guarantee.antt.
--
--   Cabinet               a sound cabinet: its round sheet and its answer buffer, any bytes
--   reading               what it reads of each cabinet, by its sheet
--   settled, new_value     what settling its sheet with a spread gives; bytes 6 to 9 of its answer sheet
--   bad                   t, the number of cabinets that are not good
--   Reads, Alike          what is asked of one cabinet's sheet, and of two
--   spread_parts           q
--   spread_gap, spread_error    the two limits
--   odd_spread_gap          the first for an odd N
--   SpreadLimits          what holds of all sound cabinets
--   SpreadGuarantee       of all settings by FCA or CCA, spreads, good sets and true values
use Rattle.std.specs.Prelude.{Bool, true, not, List, ◌≡◌, ℕ, ◌+◌, ◌*◌, ◌-◌, ◌%◌, ◌≤◌, ◌<◌, ℤ}
use Rattle.std.specs.Int.{w32}
use Rattle.std.proofs.Common.{to_z}
use Rattle.arithmetic.specs.Counting.{count}
use Rattle.model.specs.declared.Settings.{Settings}
use Rattle.model.specs.Ensemble.{Reading, is_present, ticks}
use Rattle.model.specs.RoundSheet.{cca, word, settings_at, entry_count, entry_at}
use Rattle.model.specs.AnswerSheet.{answer_length}
use Rattle.model.specs.Steps.{readings_of, span_width}
use Rattle.model.specs.Planner.{ceil_div, past_div}
use Rattle.model.specs.Calls.{granted, Outcome, settle_spread}
use Rattle.demand_1_2.specs.Demand2.{Bytes, Passed}
use Rattle.demand_3.specs.Guarantee.{apart}

-- ---- Words

pub record Cabinet : Type 0 where
  pub sheet : List ℕ
  pub buffer : List ℕ

abbrev pub reading : Cabinet → ℕ → Reading
reading p r = readings_of (settings_at p.sheet) (entry_at p.sheet (entry_count (settings_at p.sheet))) r

abbrev pub settled : ℕ → Cabinet → Outcome
settled D p = settle_spread p.sheet D p.buffer

abbrev pub new_value : ℕ → Cabinet → ℤ
new_value D p = to_z w32 (word (settled D p).buffer 6)

abbrev pub bad : Settings → (ℕ → Bool) → ℕ
bad c good = count (λ r. not (good r)) c.n

-- ---- What is asked

-- of a sound cabinet: its sheet and its answer buffer pass checks 1 to 9 and 16, and its settings are c. "Good
-- readings, as each cabinet reads them, lie within κ of true and within δ + D of each other". The rows of the bad ones
-- are anything
pub record Reads (c : Settings) (D κ : ℕ) (true-value : ℤ) (good : ℕ → Bool) (p : Cabinet) : Type 0 where
  pub bytes : Bytes p.sheet
  pub passes : Passed p.sheet D p.buffer
  pub settings : settings_at p.sheet ≡ c
  pub present : (r : ℕ) → r < c.n → good r ≡ true → is_present (reading p r) ≡ true
  pub accurate : (r : ℕ) → r < c.n → good r ≡ true → apart (ticks (reading p r)) true-value ≤ κ
  pub precise :
      (r s : ℕ) → r < c.n → s < c.n → good r ≡ true → good s ≡ true
      → apart (ticks (reading p r)) (ticks (reading p s)) ≤ span_width c D

-- "two cabinets' readings of a good one differ by at most D"
abbrev pub Alike : Settings → ℕ → (ℕ → Bool) → Cabinet → Cabinet → Type 0
Alike c D good p q = (r : ℕ) → r < c.n → good r ≡ true → apart (ticks (reading p r)) (ticks (reading q r)) ≤ D

-- ---- The limits

-- "two sound values differ by at most" ((N-t)D + t(2δ+3D))/N, "the whole part", "plus one"
abbrev pub spread_parts : Settings → ℕ → ℕ → ℕ
spread_parts c D t = (c.n - t) * D + t * (2 * c.window + 3 * D)

abbrev pub spread_gap : Settings → ℕ → ℕ → ℕ
spread_gap c D t = past_div (spread_parts c D t) c.n

-- for an odd N: ⌈q/N⌉
abbrev pub odd_spread_gap : Settings → ℕ → ℕ → ℕ
odd_spread_gap c D t = ceil_div (spread_parts c D t) c.n

-- "and accuracy is κ + ⌈t(δ+D)/N⌉"
abbrev pub spread_error : Settings → ℕ → ℕ → ℕ → ℕ
spread_error c D κ t = κ + ceil_div (t * (c.window + D)) c.n

-- ---- The statement

pub record SpreadLimits (c : Settings) (D κ : ℕ) (true-value : ℤ) (good : ℕ → Bool) : Type 0 where
  -- no sound cabinet is refused
  pub unrefused :
      (p : Cabinet) → Reads c D κ true-value good p → (settled D p).verdict ≡ granted (answer_length c.n)
  pub precise :
      (p q : Cabinet) → Reads c D κ true-value good p → Reads c D κ true-value good q → Alike c D good p q
      → apart (new_value D p) (new_value D q) ≤ spread_gap c D (bad c good)
  -- an odd N
  pub odd :
      c.n % 2 ≡ 1
      → (p q : Cabinet) → Reads c D κ true-value good p → Reads c D κ true-value good q → Alike c D good p q
      → apart (new_value D p) (new_value D q) ≤ odd_spread_gap c D (bad c good)
  pub accurate :
      (p : Cabinet) → Reads c D κ true-value good p
      → apart (new_value D p) true-value ≤ spread_error c D κ (bad c good)

-- "For one round with t at most m", by FCA or CCA
abbrev pub SpreadGuarantee : Type 0
SpreadGuarantee =
    (c : Settings) (D κ : ℕ) (true-value : ℤ) (good : ℕ → Bool)
    → c.rule ≤ cca → bad c good ≤ c.m → SpreadLimits c D κ true-value good
