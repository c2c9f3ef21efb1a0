-- Sizes that fit a round, by the tests that the code makes; what is given where they fit, and where they do not.
-- Assumes nothing.
use mathlib.Core.Bool.{Bool, true, false, ◌&&◌}
use mathlib.Core.List.{List}
use mathlib.Core.Path.{◌≡◌, refl, ap, ◌∙◌}
use native.Mathlib.Omega.{arith}
use Rattle.std.proofs.lemmas.Grind.{common_steps}
use Prim.Native.Nat.{ℕ, ◌*◌, ◌≤◌}
use borrow.Author.Tests.{eqb-true, leb-true, ltb-true}
use lib.Dec.{leb, ltb, eqb}
use lib.ListN.{length}
use Rattle.arithmetic.specs.Writing.{table, overwrite}
use Rattle.arithmetic.proofs.Bools.{and_left, and_right}
use Rattle.model.specs.declared.Settings.{Settings}
use Rattle.model.specs.Ensemble.{max_cabinets, max_window}
use Rattle.hearing.specs.declared.Recorded.{Recorded}
use Rattle.hearing.specs.Heard.{audible}
use Rattle.hearing.proofs.Audible.{Audible, audible-fits}
use Rattle.station_rounds.specs.Rounds.{next_value, round_fits, refused_given, next_given}
use Rattle.station_rounds.specs.Settling.{Fits, Left}

module _ (c : Settings) (roles held sent readings next : List ℕ) where
  abbrev pub planned : Bool
  planned = ltb (2 * c.m) (length roles) && leb c.window max_window

  abbrev sizes : Bool
  sizes = audible (length roles) (length held) (length sent) (length readings) 0 (length roles) (length next)

  and_none : (a : Bool) {b : Bool} → b ≡ false → (a && b) ≡ false
  and_none true e = e
  and_none false e = refl

  pub unsized : sizes ≡ false → round_fits c roles held sent readings next ≡ false
  unfolding round_fits
  unsized h = and_none (eqb c.n (length roles) && planned) h

  tested :
      length roles ≤ max_cabinets → length held ≡ length roles → length sent ≡ length roles * length roles
      → length readings ≡ 4 * (length roles * length roles)
      → ((eqb c.n (length roles) && planned) && eqb (length next) (length roles))
      ≡ round_fits c roles held sent readings next
  unfolding round_fits audible
  tested few values pairs bytes = grind (arith, common_steps)

  -- the test of the code, of lists that make a round
  pub tested-fits :
      (round : Recorded) → (round.roles.now ≡ roles) × (round.held.now ≡ held) × (round.sent.now ≡ sent)
      × (round.readings.now ≡ readings)
      → ((eqb c.n (length roles) && planned) && eqb (length next) (length roles))
      ≡ round_fits c roles held sent readings next
  tested-fits round same =
      tested
      (rw same.0 at round.few)
      (rw (same.1, same.0) at round.values_held)
      (rw (same.2, same.0) at round.pairs)
      (rw (same.3, same.0) at round.bytes)

  pub none-given : round_fits c roles held sent readings next ≡ false → length roles ≡ refused_given c roles held sent readings next
  unfolding refused_given
  none-given h = rw h

  pub next-kept : round_fits c roles held sent readings next ≡ false → next ≡ next_given c roles held sent readings next
  unfolding next_given
  next-kept h = rw h

  module _ (h : round_fits c roles held sent readings next ≡ true) where
    sized : Audible (length roles) (length held) (length sent) (length readings) 0 (length roles) (length next)
    unfolding round_fits
    sized = audible-fits _ _ _ _ _ _ _ (and_right (eqb c.n (length roles) && planned) sizes h)

    pub few : length roles ≤ max_cabinets
    few = sized.few

    pub next-room : length next ≡ length roles
    next-room = sized.value_room

    pub fits-round : (marks values : ℕ) → marks ≡ length roles → values ≡ length roles
        → Fits c roles held sent readings marks values
    unfolding round_fits
    fits-round marks values m v =
        let counts = and_left (eqb c.n (length roles) && planned) sizes h in
        let plans = and_right (eqb c.n (length roles)) planned counts in
        record {
          cabinets = eqb-true c.n (length roles) (and_left (eqb c.n (length roles)) planned counts);
          faults = ltb-true (2 * c.m) (length roles) (and_left (ltb (2 * c.m) (length roles)) _ plans);
          narrow = leb-true c.window max_window (and_right (ltb (2 * c.m) (length roles)) _ plans);
          few = sized.few;
          values-held = sized.values-held;
          pairs = sized.pairs;
          bytes = sized.bytes;
          mark-room = m;
          value_room = v;
        }

    module _ (r : ℕ) (after : List ℕ) (left : Left c roles held sent readings next r after) where
      pub first-given : r ≡ refused_given c roles held sent readings next
      unfolding refused_given
      first-given = left.first ∙ rw h

      pub next-given : after ≡ next_given c roles held sent readings next
      unfolding next_given
      next-given =
          rw h
          (left.stored ∙ ap (λ (k : ℕ). overwrite (table (next_value c roles held sent readings) k) next) left.first)
