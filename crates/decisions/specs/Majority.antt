-- INNER: no reader needs this page to believe a public promise. What the code's majority vote over a row of copies
-- has found after some copies. The law `bits_decide` (proofs/Candidates) says that a count of the candidate then
-- gives document 01's decision of the row.
--   Candidate     the candidate of the vote, with its counter, after i copies
use Rattle.std.specs.Prelude.{Bool, ◌≡◌, ℕ, ◌+◌, ◌*◌, ◌≤◌}
use Rattle.arithmetic.specs.Counting.{count}

-- of the first i copies, those that hold the candidate c are ahead of those that hold any other value by the counter
-- k at least
module _ {A : Type 0} (holds : A → ℕ → Bool) where
  pub record Candidate (c : A) (k i : ℕ) : Type 0 where
    pub bounded : k ≤ i
    pub others : (v : A) → (v ≡ c → ⊥) → 2 * count (holds v) i + k ≤ i
    pub own : 2 * count (holds c) i ≤ i + k
