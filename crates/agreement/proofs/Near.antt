-- Accepted readings never lie farther apart than twice the widest span, where more than half of all must agree and the
-- span is no wider than the widest.
-- Assumes nothing.
use mathlib.Core.Bool.{true, false}
use mathlib.Core.List.{List}
use mathlib.Core.Path.{◌≡◌, sym, ◌∙◌}
use Prim.Native.Nat.{ℕ, ◌+◌, ◌*◌, ◌≤◌, ◌<◌}
use native.Mathlib.Omega.{arith}
use lib.ListN.{length}
use Rattle.arithmetic.specs.Words.{two_to31}
use Rattle.model.specs.Ensemble.{max_window, max_spread}
use Rattle.round_laws.specs.Naturals.{accepted_nat}
use Rattle.round_laws.proofs.Shifted.{accepted-shifted}
use Rattle.value_laws.proofs.Apart.{accepted-apart}
use Rattle.held.specs.Held.{present_in, value_at}
use Rattle.summaries.specs.Summaries.{far_apart}
use Rattle.summaries.proofs.Fits.{near_apart}
use Rattle.acceptance.specs.Values.{accepted_in}

module _ (w need : ℕ) (marks values : List ℕ) (most : length marks < 2 * need) (narrow : w ≤ max_window + max_spread) where
  -- acceptance over naturals
  natural :
      (r : ℕ)
      → accepted_in w need marks values r ≡ true
      → accepted_nat w (present_in marks) (value_at values) need (length marks) r ≡ true
  unfolding accepted_in
  natural r e = sym (accepted-shifted w (present_in marks) (value_at values) two_to31 need (length marks) r) ∙ e

  pub agreed-near : far_apart (accepted_in w need marks values) (length marks) (value_at values) ≡ false
  agreed-near =
      near_apart (accepted_in w need marks values) (length marks) (value_at values)
      (λ i j _ _ p q.
      omega (
        arith,
        accepted-apart w (present_in marks) (value_at values) need (length marks) most i j (natural i p) (natural j q),
      ))
