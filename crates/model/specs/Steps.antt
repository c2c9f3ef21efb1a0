-- Document 01, "Steps of a round" (document 004, section 3; docs/FORMAT.md, 5), with what document 02 changes in it:
-- "Paper 2. Cable runs differ", the caller's spread D is added to the window, and is 0 without one; "Paper 4. Halves go
-- to the even tick", the mean's rounding; "Paper 5. Trimming rules", the rules 2 and 3.
--   Decision, decide_row       the crusaders decision of a row
--   readings_of                the reading of each cabinet: FCA, and rules 2 and 3, as sent, CCA as decided
--   inside, held              a reading lies in a span; how many readings a span holds
--   accepted                  some span of a width holds the reading and N-m readings
--   numbered                  the accepted reading numbered h from below, counting from 1
--   estimate                  average, median or midpoint of the accepted readings
--   mean                      to the nearest whole number, a half going to the even neighbour
--   span_width                 how wide a span may be: the window and the spread
--   accepted_at                accepted, by the settings and the spread
--   Round, round_of            what a settled round has; the round of given readings by FCA or CCA
--   precedes, rank            a reading comes before another; how many come before it
--   kept_count, is_kept         how many are left, and which: neither the m lowest nor the m highest
--   ranked                    the reading before which so many come
--   trimmed_value              the new value by rule 2 or 3
--   trimmed_with, trimmed_round the round of given readings by rule 2 or 3
--   round_by, round_at          the round of given readings by any rule; the round of a sheet
use Rattle.std.specs.Prelude.{Bool, false, cond, ◌&&◌, ◌||◌, ℕ, ◌+◌, ◌*◌, ◌-◌, ◌/◌, ◌%◌, leb, ltb, eqb, ℤ, pos, nat_abs, ◌+ℤ◌, List}
use Rattle.std.proofs.Math.Option.{Option, none, some}
use Rattle.std.specs.Int.Signed.{le_z, lt_z}
use Rattle.arithmetic.specs.Counting.{count, any_below, lowest, sum, eq_z, floor_div}
use Rattle.model.specs.declared.Settings.{Settings}
use Rattle.model.specs.Ensemble.{Reading, missing, present, Readings, is_present, ticks, quorum}
use Rattle.model.specs.RoundSheet.{cca, trimmed_midpoint, trims, average, median}
use Rattle.model.specs.RoundSheet.{settings_at, entry_count, entry_at}

-- "If there is none, that cabinet is known faulty and its reading missing"
pub data Decision : Type 0 where
  decided : ℤ → Decision
  known_faulty : Decision

abbrev pub decided_reading : Decision → Reading
decided_reading (decided z) = present z
decided_reading known_faulty = missing

-- two copies are present and equal
abbrev pub same : Reading → Reading → Bool
same (present a) (present b) = eq_z a b
same (present a) missing = false
same missing b = false

abbrev pub decision_at : Readings → Option ℕ → Decision
decision_at copy (some s) = decided (ticks (copy s))
decision_at copy none = known_faulty

-- "CCA first decides each row: the value that at least N-m present copies equal"
unfoldable pub decide_row : ℕ → ℕ → Readings → Decision
decide_row need n copy = decision_at copy (lowest (λ s. leb need (count (λ t. same (copy s) (copy t)) n)) n)

-- "entry r × N + s being the copy of r's value that s relayed"
unfoldable pub readings_of : Settings → Readings → Readings
readings_of c entry r =
    cond (eqb c.rule cca) (decided_reading (decide_row (quorum c) c.n (λ s. entry (r * c.n + s)))) (entry r)

-- a reading v with s ≤ v ≤ f
abbrev pub inside : ℤ → ℤ → Reading → Bool
inside s f (present v) = le_z s v && le_z v f
inside s f missing = false

-- the present readings that the span [s, f] holds, "equal ones counted each"
abbrev pub held : ℤ → ℤ → Readings → ℕ → ℕ
held s f v n = count (λ r. inside s f (v r)) n

-- a reading lies in the span of width w that starts at another reading
abbrev pub within : ℕ → Reading → Reading → Bool
within w (present s) v = inside s (s +ℤ pos w) v
within w missing v = false

-- "A reading v is accepted if some span [s, f] with s ≤ v ≤ f and f - s ≤ δ holds at least N-m present readings": it
-- is enough to try the spans that start at a reading (the law `accepted-span` says so of any span)
unfoldable pub accepted : ℕ → ℕ → ℕ → Readings → ℕ → Bool
accepted w need n v r = any_below (λ s. within w (v s) (v r) && leb need (count (λ t. within w (v s) (v t)) n)) n

abbrev pub ticks_at : Readings → Option ℕ → ℤ
ticks_at v (some r) = ticks (v r)
ticks_at v none = pos 0

-- "the element numbered h from below, counting from 1", over the cabinets that acc admits: at least h of them read at
-- or below it, and fewer than h below it
unfoldable pub numbered : (ℕ → Bool) → ℕ → Readings → ℕ → ℤ
numbered acc n v h =
    ticks_at v
    (lowest
    (λ r.
    acc r
    && (leb h (count (λ s. acc s && le_z (ticks (v s)) (ticks (v r))) n)
    && ltb (count (λ s. acc s && lt_z (ticks (v s)) (ticks (v r))) n) h))
    n)

-- "average, sum over count rounded down"
unfoldable pub average_of : (ℕ → Bool) → ℕ → Readings → ℤ
average_of acc n v = floor_div (sum (λ r. cond (acc r) (ticks (v r)) (pos 0)) n) (count acc n)

-- "median, the element numbered ⌈count/2⌉ from below, counting from 1"
unfoldable pub median_of : (ℕ → Bool) → ℕ → Readings → ℤ
median_of acc n v = numbered acc n v ((count acc n + 1) / 2)

-- "midpoint, half of lowest plus highest rounded down"
unfoldable pub midpoint_of : (ℕ → Bool) → ℕ → Readings → ℤ
midpoint_of acc n v = floor_div (numbered acc n v 1 +ℤ numbered acc n v (count acc n)) 2

-- "Estimate, over accepted readings only"
unfoldable pub estimate : ℕ → (ℕ → Bool) → ℕ → Readings → ℤ
estimate kind acc n v =
    cond (eqb kind average) (average_of acc n v)
    (cond (eqb kind median) (median_of acc n v) (midpoint_of acc n v))

-- twice a whole number, below zero too
abbrev pub is_even : ℤ → Bool
is_even z = eqb (nat_abs z % 2) 0

-- "the mean of N used values to the nearest whole number"; document 02, request 4: "The mean's half now goes to the
-- even neighbour". With a half going up it is the whole part of (2S + N) / 2N, with one going down that of
-- (2S + N-1) / 2N. Where S/N is no half they are the same, and where it is one they are its neighbours
unfoldable pub mean : ℕ → ℤ → ℤ
mean n s =
    let above = floor_div (s +ℤ s +ℤ pos n) (2 * n) in
    let below = floor_div (s +ℤ s +ℤ pos (n - 1)) (2 * n) in
    cond (is_even above) above below

-- document 01, "The answer sheet": "0 missing or known faulty, 1 accepted, 2 present and not accepted"
abbrev pub mark_of : Bool → Reading → ℕ
mark_of acc missing = 0
mark_of acc (present z) = cond acc 1 2

pub record Round : Type 0 where
  pub count : ℕ
  pub estimate : ℤ
  pub value : ℤ
  pub mark : ℕ → ℕ
  pub used : ℕ → ℤ

-- "Missing or unaccepted readings are replaced by the estimate"
abbrev pub used_value : (ℕ → Bool) → Readings → ℤ → ℕ → ℤ
used_value acc v e r = cond (acc r) (ticks (v r)) e

-- the round of readings v, with the accepted cabinets acc and the estimate e
abbrev pub round_with : ℕ → Readings → (ℕ → Bool) → ℤ → Round
round_with n v acc e =
    record {
      count = count acc n;
      estimate = e;
      value = mean n (sum (used_value acc v e) n);
      mark = λ r. mark_of (acc r) (v r);
      used = used_value acc v e;
    }

-- how wide a span may be: "f - s ≤ δ"; document 02, request 2: "the span is δ + D"
abbrev pub span_width : Settings → ℕ → ℕ
span_width c D = c.window + D

-- the cabinets whose readings are accepted under the settings, with the spread D
unfoldable pub accepted_at : Settings → ℕ → Readings → ℕ → Bool
accepted_at c D v r = accepted (span_width c D) (quorum c) c.n v r

unfoldable pub round_of : Settings → ℕ → Readings → Round
round_of c D v = round_with c.n v (accepted_at c D v) (estimate c.estimator (accepted_at c D v) c.n v)

-- ---- Document 02, "Paper 5. Trimming rules"

-- the reading of s comes before that of r: "A missing reading counts as 0; equal readings order by cabinet number"
abbrev pub precedes : Readings → ℕ → ℕ → Bool
precedes v s r = lt_z (ticks (v s)) (ticks (v r)) || (eq_z (ticks (v s)) (ticks (v r)) && ltb s r)

-- how many come before it
unfoldable pub rank : ℕ → Readings → ℕ → ℕ
rank n v r = count (λ s. precedes v s r) n

-- how many are left, missing ones among them: "the count is N-2m"
abbrev pub kept_count : ℕ → ℕ → ℕ
kept_count n m = n - 2 * m

-- "drops the m lowest and m highest of N"
unfoldable pub is_kept : ℕ → ℕ → Readings → ℕ → Bool
is_kept n m v r = leb m (rank n v r) && ltb (rank n v r) (n - m)

-- the ticks of the reading before which k come
unfoldable pub ranked : ℕ → Readings → ℕ → ℤ
ranked n v k = ticks_at v (lowest (λ r. eqb (rank n v r) k) n)

-- "half the sum of the extremes left": m come before the lowest, and N-m-1 before the highest
unfoldable pub trimmed_midpoint_of : ℕ → ℕ → Readings → ℤ
trimmed_midpoint_of n m v = mean 2 (ranked n v m +ℤ ranked n v (n - m - 1))

-- "the mean of those left"
unfoldable pub trimmed_mean_of : ℕ → ℕ → Readings → ℤ
trimmed_mean_of n m v = mean (kept_count n m) (sum (λ r. cond (is_kept n m v r) (ticks (v r)) (pos 0)) n)

-- "Both round as Paper 4 says"
unfoldable pub trimmed_value : ℕ → ℕ → ℕ → Readings → ℤ
trimmed_value rule n m v = cond (eqb rule trimmed_midpoint) (trimmed_midpoint_of n m v) (trimmed_mean_of n m v)

-- "kept present places use their reading, all other places and the estimate field show the new value"
abbrev pub trimmed_used : ℕ → ℕ → Readings → ℤ → ℕ → ℤ
trimmed_used n m v value r = cond (is_kept n m v r && is_present (v r)) (ticks (v r)) value

-- "A kept present reading has mark 1, a dropped one 2, a missing one 0"
abbrev pub trimmed_with : ℕ → ℕ → Readings → ℤ → Round
trimmed_with n m v value =
    record {
      count = kept_count n m;
      estimate = value;
      value = value;
      mark = λ r. mark_of (is_kept n m v r) (v r);
      used = trimmed_used n m v value;
    }

unfoldable pub trimmed_round : Settings → Readings → Round
trimmed_round c v = trimmed_with c.n c.m v (trimmed_value c.rule c.n c.m v)

-- ---- By any rule

unfoldable pub round_by : Settings → ℕ → Readings → Round
round_by c D v = cond (trims c.rule) (trimmed_round c v) (round_of c D v)

-- the round that a sheet's entries make
unfoldable pub round_at : List ℕ → ℕ → Round
round_at s D = round_by (settings_at s) D (readings_of (settings_at s) (entry_at s (entry_count (settings_at s))))
