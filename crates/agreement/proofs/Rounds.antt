-- The estimate and the new value of an agreed round are naturals moved down by 2^31: moved up and down again they are
-- what they were.
-- Assumes nothing.
use mathlib.Core.Bool.{Bool}
use mathlib.Core.Path.{◌≡◌, ap, ◌∙◌}
use mathlib.Core.List.{List}
use Prim.Native.Nat.{ℕ, ◌<◌}
use native.Mathlib.Omega.{arith}
use lib.IntN.{ℤ}
use lib.ListN.{length}
use Rattle.arithmetic.specs.Counting.{sum}
use Rattle.arithmetic.specs.Naturals.{down, up, total}
use Rattle.arithmetic.proofs.Counting.{count-le}
use Rattle.arithmetic.specs.Words.{two_to31}
use Rattle.model.specs.Steps.{mean, used_value}
use Rattle.round_laws.specs.Naturals.{estimate_nat, mean_nat, used_nat}
use Rattle.round_laws.proofs.Shifted.{estimate-shifted, value_shifted, even_31}
use Rattle.held.proofs.Held.{moved_back}
use Rattle.held.specs.Held.{present_in, value_at, readings_in}
use Rattle.acceptance.specs.Values.{accepted_in, accepted_count}
use Rattle.acceptance.proofs.Spans.{held-present}
use Rattle.agreement.specs.Values.{agreed_round}

module _ (w need kind : ℕ) (marks values : List ℕ) (some : 0 < accepted_count w need marks values) where
  abbrev acc : ℕ → Bool
  acc = accepted_in w need marks values

  abbrev round-estimate : ℤ
  round-estimate = (agreed_round w need kind marks values).estimate

  abbrev round-value : ℤ
  round-value = (agreed_round w need kind marks values).value

  -- the estimate over naturals
  est : ℕ
  est = estimate_nat two_to31 kind acc (length marks) (value_at values)

  estimate-down : round-estimate ≡ down two_to31 est
  unfolding accepted_count est
  estimate-down =
      estimate-shifted two_to31 (present_in marks) (value_at values) acc (length marks)
      (held-present w need marks values)
      some
      kind

  pub estimate-back : down two_to31 (up two_to31 round-estimate) ≡ round-estimate
  estimate-back = moved_back round-estimate est estimate-down

  some-reading : 0 < length marks
  unfolding accepted_count
  some-reading = omega (arith, some, count-le acc (length marks))

  pub value-back : down two_to31 (up two_to31 round-value) ≡ round-value
  value-back =
      let n = length marks in
      let there = held-present w need marks values in
      moved_back round-value (mean_nat n (total (used_nat acc (value_at values) est) n))
      (ap (λ z. mean n (sum (used_value acc (readings_in marks values) z) n)) estimate-down
      ∙ value_shifted two_to31 (present_in marks) (value_at values) acc n there est some-reading even_31)
