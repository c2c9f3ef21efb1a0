-- What is inspected first refuses first; where both sheets are granted, 19 and 7 are left.
-- Assumes nothing.
use Rattle.std.proofs.Common.{◌≡◌, sym, List, ℕ}
use Rattle.std.proofs.Math.Option.{some}
use Rattle.model.specs.declared.Settings.{Settings}
use Rattle.model.specs.RoundSheet.{settings_at}
use Rattle.model.specs.AnswerSheet.{answer_length}
use Rattle.model.specs.Refusals.{Check, Refusal, or_next, first_of, no_room, sheet_checks}
use Rattle.model.specs.Calls.{granted, refused, verdict}
use Rattle.sheet_laws.proofs.Outcomes.{granted-none, granted-same, refused-some}
use Rattle.sheet_pairs.specs.Fallback.{bad_pair, pair_checks}
use Rattle.sheet_pairs.proofs.Pairs.{pair-order}

module _ (a b : List ℕ) (room : ℕ) where
  pub crusaders_refused :
      (r : Refusal) → refused r ≡ verdict (first_of (sheet_checks a)) (settings_at a)
      → some r ≡ first_of (pair_checks a b room)
  crusaders_refused r h = rw (pair-order a b room, refused-some (first_of (sheet_checks a)) (settings_at a) r (sym h))

  module _ (x : Settings) (gx : granted x ≡ verdict (first_of (sheet_checks a)) (settings_at a)) where
    pub direct_refused :
        (r : Refusal) → refused r ≡ verdict (first_of (sheet_checks b)) (settings_at b)
        → some r ≡ first_of (pair_checks a b room)
    direct_refused r h =
        rw (
          pair-order a b room,
          granted-none (first_of (sheet_checks a)) (settings_at a) x (sym gx),
          refused-some (first_of (sheet_checks b)) (settings_at b) r (sym h),
        )

    pub both_granted :
        (y : Settings) → granted y ≡ verdict (first_of (sheet_checks b)) (settings_at b)
        → {c : Check} → c ≡ or_next (bad_pair x y) (no_room room (answer_length x.n))
        → c ≡ first_of (pair_checks a b room)
    both_granted y gy h =
        rw (
          h,
          pair-order a b room,
          granted-none (first_of (sheet_checks a)) (settings_at a) x (sym gx),
          granted-none (first_of (sheet_checks b)) (settings_at b) y (sym gy),
          ← granted-same (first_of (sheet_checks a)) (settings_at a) x (sym gx),
          ← granted-same (first_of (sheet_checks b)) (settings_at b) y (sym gy),
        )

-- what each way out says
pub ruleset ways = (crusaders_refused, direct_refused, both_granted)
