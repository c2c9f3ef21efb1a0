-- INNER: no reader needs this page to believe a public promise. What is gathered of the readings that two lists hold: a
-- list of marks, and a list of naturals that are ticks moved up by 2^31.
--   present_count          how many readings are present
--   Fitting               the lists are of at most 64 readings, and equally long
--   used_at                a present reading, or what replaces it
--   most_apart, far_apart   twice the widest span; two readings lie farther apart than that
--   distance_at            how far a present reading lies above another; 0 for a missing one
--   Taken                 the number of a present reading
--   OnePass               what one pass gathers: how many are present, 32 bits of their sum, the lowest and the highest
--   ungathered            nothing is gathered: the lists do not fit, none is present, or two lie too far apart
--   Summarizes, Gathers   what is gathered of the present readings; the same of lists of any kind
use Rattle.std.specs.Prelude.{Option, None, MatchOption, ◌≡◌, ℕ, ◌+◌, ◌-◌, ◌*◌, ◌%◌, ◌<◌, ◌≤◌, Bool, true, false, cond, ◌&&◌, ◌||◌, List, length, ◌==◌, nat_lt}
use Rattle.arithmetic.specs.Counting.{count, any_below}
use Rattle.arithmetic.specs.Naturals.{total}
use Rattle.arithmetic.specs.Words.{two_to32}
use Rattle.model.specs.Ensemble.{max_cabinets, max_window, max_spread}
use Rattle.round_laws.specs.Naturals.{used_nat}
use Rattle.held.specs.Held.{present_in, value_at, unfit}
use Rattle.selection.specs.Order.{numbered_at}
use Rattle.summaries.specs.declared.Gathered.{Gathered}
use Rattle.summaries.specs.declared.Summary.{Summary}

abbrev pub present_count : List ℕ → ℕ
present_count marks = count (present_in marks) (length marks)

pub record Fitting (marks values : List ℕ) : Type 0 where
  pub few : length marks ≤ max_cabinets
  pub even : length values ≡ length marks

abbrev pub used_at : List ℕ → List ℕ → ℕ → ℕ → ℕ
used_at marks values e = used_nat (present_in marks) (value_at values) e

-- document 02, request 3: "within twice the span", of the widest
abbrev pub most_apart : ℕ
most_apart = 2 * (max_window + max_spread)

-- of the numbers that acc admits
unfoldable pub far_apart : (ℕ → Bool) → ℕ → (ℕ → ℕ) → Bool
far_apart acc n x = any_below (λ i. acc i && any_below (λ j. acc j && nat_lt (x i + most_apart) (x j)) n) n

abbrev pub distance_at : List ℕ → List ℕ → ℕ → ℕ → ℕ
distance_at marks values low i = cond (present_in marks i) (value_at values i - low) 0

abbrev pub Taken : List ℕ → List ℕ → ℕ → Type 0
Taken marks values v = (i : ℕ) × (i < length marks) × (present_in marks i ≡ true) × (value_at values i ≡ v)

pub record OnePass (r : Gathered) (marks values : List ℕ) : Type 0 where
  pub counted : r.count ≡ present_count marks
  pub added : r.total ≡ total (used_at marks values 0) (length marks) % two_to32
  pub least : (j : ℕ) → j < length marks → present_in marks j ≡ true → r.low ≤ value_at values j
  pub greatest : (j : ℕ) → j < length marks → present_in marks j ≡ true → value_at values j ≤ r.high
  pub low-taken : 0 < present_count marks → Taken marks values r.low
  pub high_taken : 0 < present_count marks → Taken marks values r.high

unfoldable pub ungathered : List ℕ → List ℕ → Bool
ungathered marks values =
    unfit (length marks) (length values)
    || (present_count marks == 0 || far_apart (present_in marks) (length marks) (value_at values))

-- the count of the present readings, of which there is one, the lowest, the highest, and the sum of their distances
-- from the lowest
pub record Summarizes (r : Summary) (marks values : List ℕ) : Type 0 where
  pub some : 0 < r.count
  pub counted : r.count ≡ present_count marks
  pub lowest : r.low ≡ numbered_at marks values 1
  pub highest : r.high ≡ numbered_at marks values (present_count marks)
  pub ordered : r.low ≤ r.high
  pub apart : r.high ≤ r.low + most_apart
  pub least : (j : ℕ) → j < length marks → present_in marks j ≡ true → r.low ≤ value_at values j
  pub greatest : (j : ℕ) → j < length marks → present_in marks j ≡ true → value_at values j ≤ r.high
  pub added : r.sum ≡ total (distance_at marks values r.low) (length marks)

pub record Gathers (r : Option Summary) (marks values : List ℕ) : Type 0 where
  pub all : ungathered marks values ≡ false → Fitting marks values × MatchOption r ⊥ (λ s. Summarizes s marks values)
  pub none : ungathered marks values ≡ true → r ≡ None
