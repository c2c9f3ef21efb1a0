-- Document 02, "Paper 4": "The next window is 0 when m or δ is 0". Then demand 3 leaves nothing between sound cabinets
-- where at most m are bad: they hold one value after every round. (With m 0 their sheets are alike, and with δ 0 what
-- they accept is one value; the proof needs neither, since demand 3's limit is 0.) The theorem is `one_value` of
-- proofs/OneValue.antt.
--
--   AllEqual    new values that are equal
--   OneValue    after every round of every run with at most m bad, where m or δ is 0
use Rattle.std.specs.Prelude.{Bool, List, ◌⊎◌, ◌≡◌, ℕ, ◌≤◌, ℤ, length}
use Rattle.model.specs.Planner.{max_rounds}
use Rattle.run.specs.Run.{Station, m, δ, Start, Sends, Allowed, State, start, Sound}
use Rattle.demand_3.specs.Guarantee.{Each, Every, new_value, Good, bad}

abbrev pub AllEqual : Station → State → Sends → Type 0
AllEqual st now x = (p q : ℕ) → Sound st p → Sound st q → new_value st now x p ≡ new_value st now x q

abbrev pub OneValue : Type 0
OneValue =
    (st : Station) → Start st
    → (rounds : List Sends) → length rounds ≤ max_rounds → Each (Allowed st) rounds
    → (good : ℕ → Bool) (true-value : ℤ) → Good st good true-value
    → bad st good ≤ m st → (m st ≡ 0) ⊎ (δ st ≡ 0)
    → Every st (AllEqual st) (start st) rounds
