-- A replay by what playing the trace gave, on plain values: a refusal leaves the buffer as it was, and else the values
-- that are written are those of the recorded run.
-- Assumes nothing.
use mathlib.Core.Bool.{Bool, true, false, cond}
use mathlib.Core.List.{List}
use mathlib.Core.Option.{none}
use mathlib.Core.Path.{◌≡◌, refl, sym, ap, ap₂, ◌∙◌}
use Prim.Native.Nat.{ℕ, ◌+◌, ◌*◌, ◌≤◌, ◌<◌, min}
use native.Mathlib.Nat.{min-eq_right}
use native.Mathlib.Omega.{arith}
use lib.Dec.{eqb}
use lib.IntN.{ℤ, pos}
use lib.ListN.{length, get_or}
use Rattle.arithmetic.specs.Naturals.{down}
use Rattle.arithmetic.specs.Words.{two_to31}
use Rattle.arithmetic.specs.Writing.{table, overwrite}
use Rattle.arithmetic.proofs.Writing.{table_ext}
use Rattle.model.specs.declared.Settings.{Settings}
use Rattle.model.specs.Refusals.{Refusal}
use Rattle.model.specs.Ensemble.{ticks, max_cabinets}
use Rattle.model.specs.RoundSheet.{reading_bytes, settings_at}
use Rattle.model.specs.Refusals.{Check, first_of}
use Rattle.model.specs.Calls.{granted, refused, verdict, written_after}
use Rattle.refusal_laws.proofs.Checks.{first_snoc, next-none-left}
use Rattle.sheet_laws.proofs.Outcomes.{granted-none, granted-same, refused-some}
use Rattle.trace.specs.Trace.{trace_header_size, rounds_at, sound_at}
use Rattle.trace.specs.Replay.{state_to, run_stopped, trace_checks, replay_checks, shown_after, values_to, replay_to, replay}
use Rattle.trace_heads.proofs.Heads.{Headed}
use Rattle.trace_checks.proofs.Traced.{traced}
use Rattle.trace_parts.specs.Parts.{part_from}
use Rattle.trace_parts.proofs.Parts.{part_at, part_length}
use Rattle.playing.specs.Playing.{HeldTo, played_given}
use Rattle.value_writer.specs.Values.{shown_of, unfit, size_put, values_put}
use Rattle.value_writer.proofs.Fitting.{fits, size-put, values-put}

module _ (s : List ℕ) (most : ℕ) (values : List ℕ) where
  abbrev k : ℕ
  k = min most (rounds_at s)

  -- a list for 64 cabinets is large enough
  given :
      played_given s most (length values) max_cabinets
      ≡ verdict (first_of (replay_checks s k (length values))) (settings_at s)
  unfolding played_given
  given = refl

  pub replay_refused :
      (r : Refusal) (held : ℕ) → held ≡ max_cabinets → refused r ≡ played_given s most (length values) held
      → record { verdict = refused r; buffer = values } ≡ replay_to s k values
  unfolding replay_to
  replay_refused r held large e =
      sym
      (ap
      (λ (c : Check). written_after c (4 * (settings_at s).n) (reading_bytes (values_to s k)) values)
      (refused-some (first_of (replay_checks s k (length values))) (settings_at s) r
      (sym (e ∙ ap (played_given s most (length values)) large ∙ given))))

  module _ (c : Settings) (e : granted c ≡ played_given s most (length values) max_cabinets) where
    pub own : settings_at s ≡ c
    own = granted-same (first_of (replay_checks s k (length values))) (settings_at s) c (sym (e ∙ given))

    passes : first_of (replay_checks s k (length values)) ≡ none
    passes = granted-none (first_of (replay_checks s k (length values))) (settings_at s) c (sym (e ∙ given))

    pub head : Headed s (length values)
    unfolding replay_checks
    head =
        (traced s (length values) (settings_at s)
        (ap (λ (x : Check). verdict x (settings_at s))
        (next-none-left (first_of (trace_checks s (length values))) (run_stopped s k)
        (sym (first_snoc (trace_checks s (length values)) (run_stopped s k)) ∙ passes)))
        ).head

    pub cabinets : c.n ≡ (settings_at s).n
    cabinets = ap (λ (d : Settings). d.n) (sym own)

    pub few : c.n ≤ max_cabinets
    few = rw cabinets head.within.cabinets

    pub spacious : 4 * c.n ≤ length values
    spacious = rw cabinets head.spacious

    roles_lie : trace_header_size + c.n ≤ length s
    roles_lie = let l = head.long in omega (arith, cabinets)

    module _ (roles : List ℕ) (roles-are : roles ≡ part_from s trace_header_size c.n) where
      pub roles-long : length roles ≡ c.n
      roles-long = ap length roles-are ∙ part_length s trace_header_size c.n roles_lie

      sound_is : (p : ℕ) → p < c.n → eqb (get_or roles p 0) 1 ≡ sound_at s p
      sound_is p l =
          ap (λ (x : ℕ). eqb x 1)
          (ap (λ (xs : List ℕ). get_or xs p 0) roles-are ∙ part_at s trace_header_size c.n roles_lie p l)

      module _ (held : List ℕ) (large : length held ≡ max_cabinets) (holds : HeldTo s k held) where
        fit : unfit (length roles) (length held) (length values) ≡ false
        fit =
            fits (length roles) (length held) (length values) (omega (arith, roles-long, large, few))
            (omega (arith, roles-long, spacious))

        shown_is : (p : ℕ) → p < c.n → shown_of roles held p ≡ shown_after s k p
        shown_is p l =
            ap (λ (b : Bool). cond b (down two_to31 (get_or held p 0)) (pos 0)) (sound_is p l) ∙ go (sound_at s p) refl
          where
            go :
                (b : Bool) → sound_at s p ≡ b
                → cond b (down two_to31 (get_or held p 0)) (pos 0) ≡ cond b (ticks ((state_to s k).held p)) (pos 0)
            go true h = sym (ap ticks (holds p (rw cabinets at l) h))
            go false h = refl

        values-are : table (shown_of roles held) (length roles) ≡ values_to s k
        unfolding values_to
        values-are =
            ap (table (shown_of roles held)) roles-long
            ∙ table_ext (shown_of roles held) (shown_after s k) c.n shown_is
            ∙ ap (table (shown_after s k)) cabinets

        pub replay-granted :
            (size : ℕ) (after : List ℕ) → size ≡ size_put roles held values → after ≡ values_put roles held values
            → record { verdict = granted size; buffer = after } ≡ replay_to s k values
        unfolding replay_to
        replay-granted size after e f =
            ap₂ (λ (x : ℕ) (b : List ℕ). record { verdict = granted x; buffer = b })
            (e ∙ sym (size-put roles held values fit) ∙ ap (λ (x : ℕ). 4 * x) (roles-long ∙ cabinets))
            (f
            ∙ sym (values-put roles held values fit)
            ∙ ap (λ (zs : List ℤ). overwrite (reading_bytes zs) values) values-are)
            ∙ sym
            (ap (λ (x : Check). written_after x (4 * (settings_at s).n) (reading_bytes (values_to s k)) values) passes)

-- all rounds of a trace, where no byte says more than is asked for
pub replay-all :
    (s values : List ℕ) (most : ℕ) → rounds_at s ≤ most → replay_to s (min most (rounds_at s)) values ≡ replay s values
unfolding replay
replay-all s values most few = ap (λ (j : ℕ). replay_to s j values) (min-eq_right few)
