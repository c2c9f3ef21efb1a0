-- One receiver's round over naturals, and what the limits of a round assume of the good ones and of each receiver.
--   Receiver                    the readings that a receiver has, and its estimator
--   accepts, estimate_by,        which of them it accepts; its estimate; the value that it uses for each of the n;
--   used_by, value_by             its new value
--   Spread, ReadsSome           fewer than n - m are bad; a receiver reads the good ones alike, or not at all, and is
--                               not refused
--   Few, Reads                  at most m are bad; a receiver reads every good one alike
--   Truth                       the good values lie within κ of the true one
-- Assumes nothing.
use mathlib.Core.Bool.{Bool, true, false, not}
use mathlib.Core.Path.{◌≡◌}
use Prim.Native.Nat.{ℕ, ◌+◌, ◌*◌, ◌-◌, ◌≤◌, ◌<◌}
use Rattle.arithmetic.specs.Counting.{count}
use Rattle.arithmetic.specs.Naturals.{total}
use Rattle.round_laws.specs.Naturals.{accepted_nat, estimate_nat, used_nat, mean_nat}

-- pres says which readings x are present; k is what a search that finds nothing answers; kind is the estimator's number
pub record Receiver : Type 0 where
  pub pres : ℕ → Bool
  pub x : ℕ → ℕ
  pub k : ℕ
  pub kind : ℕ

module _ (n m w : ℕ) where
  abbrev pub accepts : Receiver → ℕ → Bool
  accepts v = accepted_nat w v.pres v.x (n - m) n

  abbrev pub estimate_by : Receiver → ℕ
  estimate_by v = estimate_nat v.k v.kind (accepts v) n v.x

  abbrev pub used_by : Receiver → ℕ → ℕ
  used_by v = used_nat (accepts v) v.x (estimate_by v)

  abbrev pub value_by : Receiver → ℕ
  value_by v = mean_nat n (total (used_by v) n)

  pub used-accepted : (v : Receiver) (r : ℕ) → accepts v r ≡ true → used_by v r ≡ v.x r
  used-accepted v r e = rw e

  pub used-replaced : (v : Receiver) (r : ℕ) → accepts v r ≡ false → used_by v r ≡ estimate_by v
  used-replaced v r e = rw e

-- how many of the n are not good
abbrev pub bad_count : ℕ → (ℕ → Bool) → ℕ
bad_count n good = count (λ r. not (good r)) n

-- any two good ones of the n have values within w of each other
abbrev pub CloseValues : ℕ → ℕ → (ℕ → Bool) → (ℕ → ℕ) → Type 0
CloseValues n w good g = (r s : ℕ) → r < n → s < n → good r ≡ true → good s ≡ true → g r ≤ g s + w

-- a good one's reading, where it is present, is its value
abbrev pub GoodAlike : ℕ → (ℕ → Bool) → (ℕ → ℕ) → Receiver → Type 0
GoodAlike n good g v = (r : ℕ) → r < n → good r ≡ true → v.pres r ≡ true → v.x r ≡ g r

-- what two receivers both have they read alike
abbrev pub BothAlike : ℕ → Receiver → Receiver → Type 0
BothAlike n p q = (r : ℕ) → r < n → p.pres r ≡ true → q.pres r ≡ true → p.x r ≡ q.x r

module _ (n m w : ℕ) (good : ℕ → Bool) (g : ℕ → ℕ) where
  pub record Spread : Type 0 where
    pub many : bad_count n good < n - m
    pub close : CloseValues n w good g

  pub record ReadsSome (v : Receiver) : Type 0 where
    pub alike : GoodAlike n good g v
    pub unrefused : 0 < count (accepts n m w v) n

  pub record Few : Type 0 where
    pub planned : 3 * m < n
    pub few : bad_count n good ≤ m
    pub close : CloseValues n w good g

pub record Reads (n : ℕ) (good : ℕ → Bool) (g : ℕ → ℕ) (v : Receiver) : Type 0 where
  pub alike : GoodAlike n good g v
  pub here : (r : ℕ) → r < n → good r ≡ true → v.pres r ≡ true

pub record Truth (n : ℕ) (good : ℕ → Bool) (g : ℕ → ℕ) (T κ : ℕ) : Type 0 where
  pub above : (r : ℕ) → r < n → good r ≡ true → g r ≤ T + κ
  pub below : (r : ℕ) → r < n → good r ≡ true → T ≤ g r + κ
