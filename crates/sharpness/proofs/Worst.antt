-- The round in which the exact limits are reached. Of the N-t sound cabinets, all good, N-m-t read the base, as many
-- read as high as good ones can, and the others about half-way between. The t faulty ones tell cabinet 0 what is δ below
-- the lowest of these, and cabinet 1 what is δ above the highest. The base is 0 or 1, so that cabinet 1's new value is
-- even: where its mean is a half it goes up.
--   needed, spread, base            N-m-t; how far good readings are apart; the lowest of them
--   first_reading                    how far above the base a sound cabinet reads first
--   worst_station, worst_sends        the round
--   true_value                       true time
-- Assumes nothing.
use mathlib.Core.Bool.{cond}
use mathlib.Core.List.{[], ◌∷◌}
use Prim.Native.Nat.{ℕ, ◌+◌, ◌*◌, ◌-◌, ◌%◌, min}
use lib.Dec.{ltb}
use lib.IntN.{ℤ, pos, ◌-ℤ◌}
use Rattle.model.specs.Ensemble.{present}
use Rattle.model.specs.RoundSheet.{fca, median}
use Rattle.model.specs.Planner.{ceil_div}
use Rattle.model.specs.Cases.{settings, at}
use Rattle.run.specs.Run.{Station, Sends}
use Rattle.run.specs.Rounds.{below, two_faced}
use Rattle.demand_3.specs.Exact.{half_up}

-- how many sound cabinets the t faulty ones need beside them for a span to hold N-m readings
abbrev pub needed : ℕ → ℕ → ℕ → ℕ
needed n m t = n - m - t

-- "within κ of one whole true value" and "within δ of each other"
unfoldable pub spread : ℕ → ℕ → ℕ
spread δ κ = min δ (2 * κ)

module _ (n m t δ κ : ℕ) where
  unfoldable pub base : ℕ
  base = (spread δ κ + half_up n ((m + t) * δ)) % 2

  -- the first needed ones read 0, the next needed ones read highest, the others half of that, rounded up
  unfoldable pub first_reading : ℕ → ℕ
  first_reading p =
      cond (ltb p (needed n m t)) 0 (cond (ltb p (2 * needed n m t)) (spread δ κ) (ceil_div (spread δ κ) 2))

  -- cabinets 0 to N-t-1 are sound
  unfoldable pub worst_station : Station
  worst_station =
      record {
        settings = settings n m fca median δ;
        accuracy = κ;
        sound = below (n - t);
        first = λ p. at (base + first_reading p);
      }

  -- the faulty ones send to cabinet 0 the first of these, to cabinet 1 the second, and to the others nothing
  unfoldable pub worst_sends : Sends
  worst_sends = two_faced n (present (pos base -ℤ pos δ) ∷ at (base + spread δ κ + δ) ∷ []) []

  -- true time is κ before the highest good reading
  abbrev pub true_value : ℤ
  true_value = pos (base + spread δ κ) -ℤ pos κ
