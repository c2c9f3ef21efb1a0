-- A round played on the parts of a trace, on plain values: it stops at the first cabinet that meets too many faults, or
-- its sound cabinets hold what they hold next.
-- Assumes nothing.
use mathlib.Core.Bool.{cond}
use mathlib.Core.List.{List}
use mathlib.Core.Option.{Option, none, some}
use mathlib.Core.Path.{◌≡◌, refl, sym, ap, ◌∙◌, subst}
use Prim.Native.Nat.{ℕ, ◌+◌, ◌*◌, ◌≤◌, ◌<◌}
use native.Mathlib.Nat.{le_of_lt, le_refl}
use native.Mathlib.Numerals.{add-one}
use native.Mathlib.Omega.{arith}
use borrow.Author.Tests.{lt-ltb, le-ltb}
use lib.Dec.{eqb}
use lib.ListN.{length, get_or}
use Rattle.arithmetic.specs.Counting.{lowest}
use Rattle.arithmetic.specs.Writing.{table, overwrite}
use Rattle.arithmetic.proofs.Counting.{lowest-found}
use Rattle.arithmetic.proofs.Writing.{length-overwrite, length-table}
use Rattle.model.specs.declared.Settings.{Settings}
use Rattle.model.specs.RoundSheet.{byte, settings_at}
use Rattle.station_rounds.specs.Rounds.{meets_too_many, next_value, place_of, first_refused, refused_given, next_given}
use Rattle.trace.specs.Trace.{trace_header_size, rounds_at, trace_entries}
use Rattle.trace.specs.Replay.{state_to, refused_in}
use Rattle.trace_parts.specs.Parts.{part_from}
use Rattle.playing.specs.Playing.{HeldTo, Playable, RoundPlayed}
use Rattle.playing.proofs.Hearing.{below, no_some, first_is, holds-next}
use Rattle.playing.proofs.Parting.{cabinets, roles-long, parts, fits-here}

-- no cabinet past the last
first-most : (c : Settings) (roles held sent readings : List ℕ) → first_refused c roles held sent readings ≤ length roles
unfolding first_refused
first-most c roles held sent readings = go (lowest (meets_too_many c roles held sent readings) (length roles)) refl
  where
    go :
        (o : Option ℕ) → lowest (meets_too_many c roles held sent readings) (length roles) ≡ o
        → place_of c roles held sent readings o ≤ length roles
    go (some p) e = le_of_lt (lowest-found (meets_too_many c roles held sent readings) (length roles) p e).in_range
    go none e = le_refl (length roles)

module _ (s : List ℕ) (small : (j : ℕ) → byte s j < 256) (ok : Playable s) (k : ℕ) (early : k < rounds_at s)
    (c : Settings) (own : c ≡ (state_to s k).plan.settings)
    (roles sent readings : List ℕ)
    (roles-are : roles ≡ part_from s trace_header_size c.n)
    (sent-are : sent ≡ part_from s (trace_header_size + 5 * c.n + trace_entries c.n k) (trace_entries c.n 1))
    (readings-are :
    readings
    ≡ part_from s (trace_header_size + 5 * c.n + trace_entries c.n (rounds_at s) + 4 * trace_entries c.n k)
    (4 * trace_entries c.n 1)) where
  pub roles-room : length roles ≡ c.n
  roles-room =
      roles-long s small ok k early c own roles sent readings roles-are sent-are readings-are
      ∙ sym (cabinets s small ok k early c own)

  module _ (held next₀ : List ℕ) (held-room : length held ≡ c.n) (next-room : length next₀ ≡ c.n)
      (holds : HeldTo s k held) (r : ℕ) (next : List ℕ)
      (answered : r ≡ refused_given c roles held sent readings next₀)
      (left : next ≡ next_given c roles held sent readings next₀) where
    first-given : r ≡ first_refused c roles held sent readings
    unfolding refused_given
    first-given =
        answered
        ∙ rw (fits-here s small ok k early c own roles sent readings roles-are sent-are readings-are held next₀ held-room
        next-room)

    next-given :
        next
        ≡ overwrite (table (next_value c roles held sent readings) (first_refused c roles held sent readings)) next₀
    unfolding next_given
    next-given =
        left
        ∙ rw (fits-here s small ok k early c own roles sent readings roles-are sent-are readings-are held next₀ held-room
        next-room)

    pub next-long : length next ≡ c.n
    next-long =
        ap length next-given
        ∙ length-overwrite
        (table (next_value c roles held sent readings) (first_refused c roles held sent readings))
        next₀
        (let t = length-table (next_value c roles held sent readings) (first_refused c roles held sent readings) in
        omega (arith, first-most c roles held sent readings, roles-room))
        ∙ next-room

    found : lowest (refused_in s k) (settings_at s).n ≡ below (settings_at s).n r
    found =
        first_is s small ok k early roles sent readings
        (parts s small ok k early c own roles sent readings roles-are sent-are readings-are) held holds c own
        ∙ ap (below (settings_at s).n) (sym first-given)

    pub round-stops : r < c.n → RoundPlayed s k (some r) held
    round-stops few =
        let fewer : r < (settings_at s).n = omega (arith, cabinets s small ok k early c own) in
        record {
          first = found ∙ rw (lt-ltb r (settings_at s).n fewer);
          holds = λ e. no_some r e;
        }

    pub round-passes :
        c.n ≤ r → (later : List ℕ)
        → later ≡ table (λ p. cond (eqb (get_or roles p 0) 1) (get_or next p 0) (get_or held p 0)) (length roles)
        → RoundPlayed s k none later
    round-passes all later e =
        let past : (settings_at s).n ≤ r = omega (arith, cabinets s small ok k early c own) in
        record {
          first = found ∙ rw (le-ltb r (settings_at s).n past);
          holds = λ _.
              subst (λ (j : ℕ). HeldTo s j later) (sym (add-one k))
              (holds-next s small ok k early roles sent readings
              (parts s small ok k early c own roles sent readings roles-are sent-are readings-are)
              held
              holds
              c
              own
              (omega (arith, first-given, cabinets s small ok k early c own))
              next
              next₀
              (next-room ∙ cabinets s small ok k early c own)
              next-given
              later
              e);
        }
