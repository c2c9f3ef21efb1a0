-- `fallback-results` is the theorem that specs/Results.antt states: falling back, by what settling each sheet alone
-- gives. Where 1 to 6 of both sheets, 19 and 7 pass, the checks that are left are 8 and 9 of the crusaders sheet, and
-- where it accepts nothing those of settling the direct sheet.
-- Assumes nothing.
use mathlib.Core.Bool.{Bool, true, false}
use mathlib.Core.List.{List}
use mathlib.Core.Option.{none, some}
use mathlib.Core.Path.{◌≡◌, refl, sym, ap, ◌∙◌}
use Prim.Native.Nat.{ℕ, ◌*◌}
use native.Mathlib.Omega.{arith}
use lib.Dec.{eqb}
use lib.ListN.{length}
use Rattle.arithmetic.specs.Writing.{overwrite}
use Rattle.model.specs.Refusals.{Refusal}
use Rattle.model.specs.RoundSheet.{word, settings_at, entry_count, mark_at, bits_at}
use Rattle.model.specs.AnswerSheet.{answer_length, answer_bytes}
use Rattle.model.specs.Steps.{round_at}
use Rattle.model.specs.Refusals.{Check, refuse_if, or_next, first_of, bad_mark, bad_missing, too_many_faults}
use Rattle.model.specs.Refusals.{too_many_faults_number, entry_checks, settle_checks}
use Rattle.model.specs.Calls.{granted, refused, verdict, settle_after, settle_spread, settle}
use Rattle.refusal_laws.proofs.Checks.{first_snoc, next-none, next-none-left, next-none-right, when_none}
use Rattle.refusal_laws.proofs.Numbers.{no_refusal, faults-says, mark-number, missing-number}
use Rattle.sheet_laws.proofs.Outcomes.{granted-none, granted-same, refused-some}
use Rattle.sheet_pairs.specs.Fallback.{crusaders, direct, source_by, source_of, pair_checks, own_checks}
use Rattle.sheet_pairs.specs.Fallback.{fallback_checks, readings_part, shown_by, fallback_after, fallback}
use Rattle.sheet_pairs.specs.Results.{Kept, SettledBy, FallbackResults}
use Rattle.sheet_pairs.proofs.Readings.{part-long, part-reading}
use Rattle.sheet_pairs.proofs.Pairs.{Paired, pair_of, roomy-direct, fallback-order, settle-left}

-- ---- settling a sheet alone

-- 8 and 9 are not 10
entry-not-ten :
    (s : List ℕ) (r : Refusal) → first_of (entry_checks s) ≡ some r → r.number ≡ too_many_faults_number → ⊥
unfolding entry_checks first_of
entry-not-ten s r e ten = go (bad_mark mark E) refl e
  where
    mark : ℕ → ℕ
    mark = mark_at s

    E : ℕ
    E = entry_count (settings_at s)

    bits : ℕ → ℕ
    bits = bits_at s E

    go : (x : Check) → bad_mark mark E ≡ x → or_next x (or_next (bad_missing mark bits E) none) ≡ some r → ⊥
    go none _ h =
        let nine = missing-number mark bits E r (sym (next-none (bad_missing mark bits E)) ∙ h) in omega arith
    go (some y) q h = let eight = mark-number mark bits E r (q ∙ h) in omega arith

module _ (s answer : List ℕ) where
  -- by its checks
  pub settled-none :
      (size : ℕ) → (settle s answer).verdict ≡ granted size → first_of (settle_checks s 0 (length answer)) ≡ none
  unfolding settle settle_spread
  settled-none size = granted-none (first_of (settle_checks s 0 (length answer))) (answer_length (settings_at s).n) size

  pub settled-size : (size : ℕ) → (settle s answer).verdict ≡ granted size → answer_length (settings_at s).n ≡ size
  unfolding settle settle_spread
  settled-size size = granted-same (first_of (settle_checks s 0 (length answer))) (answer_length (settings_at s).n) size

  pub settled-some :
      (r : Refusal) → (settle s answer).verdict ≡ refused r → first_of (settle_checks s 0 (length answer)) ≡ some r
  unfolding settle settle_spread
  settled-some r = refused-some (first_of (settle_checks s 0 (length answer))) (answer_length (settings_at s).n) r

  pub settled-buffer :
      first_of (settle_checks s 0 (length answer)) ≡ none
      → (settle s answer).buffer ≡ overwrite (answer_bytes (settings_at s).n (round_at s 0)) answer
  unfolding settle settle_spread
  settled-buffer e = ap (λ (x : Check). (settle_after x s 0 answer).buffer) e

  -- a refusal leaves the buffer as it was
  pub refused-buffer : (r : Refusal) → (settle s answer).verdict ≡ refused r → (settle s answer).buffer ≡ answer
  unfolding settle settle_spread
  refused-buffer r e = ap (λ (x : Check). (settle_after x s 0 answer).buffer) (settled-some r e)

-- ---- what the count says

accepts : (k : ℕ) → too_many_faults k ≡ none → source_by k ≡ crusaders
unfolding too_many_faults
accepts k e = rw (when_none (eqb k 0) too_many_faults_number e)

accepts-none : (k : ℕ) (r : Refusal) → too_many_faults k ≡ some r → source_by k ≡ direct
unfolding too_many_faults
accepts-none k r e = go (eqb k 0) refl e
  where
    go : (x : Bool) → eqb k 0 ≡ x → refuse_if x too_many_faults_number ≡ some r → source_by k ≡ direct
    go true q h = rw q
    go false q h = no_refusal h

-- ---- falling back

module _ (a b answer : List ℕ) where
  abbrev first : Check
  first = first_of (fallback_checks a b (length answer))

  kept : (r : Refusal) → first_of (fallback_checks a b (length answer)) ≡ some r → Kept a b answer r
  unfolding fallback
  kept r e =
      record {
        verdict = ap (λ (x : Check). (fallback_after x a b answer).verdict) e;
        shown = ap (λ (x : Check). (fallback_after x a b answer).shown) e;
        buffer = ap (λ (x : Check). (fallback_after x a b answer).buffer) e;
      }

  module _ (pass : first_of (pair_checks a b (length answer)) ≡ none) where
    are : Paired a b (length answer)
    are = pair_of a b (length answer) pass

    rest :
        first_of (fallback_checks a b (length answer))
        ≡ or_next (first_of (entry_checks a)) (first_of (own_checks (source_of a) b))
    rest = fallback-order a b (length answer) ∙ rw pass

    left :
        first_of (settle_checks a 0 (length answer))
        ≡ or_next (first_of (entry_checks a)) (too_many_faults (round_at a 0).count)
    left = settle-left a (length answer) are.first are.roomy

    own : first_of (own_checks direct b) ≡ first_of (settle_checks b 0 (length answer))
    own =
        first_snoc (entry_checks b) (too_many_faults (round_at b 0).count)
        ∙ sym (settle-left b (length answer) are.second (roomy-direct a b (length answer) are))

    -- the crusaders sheet settles
    module _ (size : ℕ) (grants : (settle a answer).verdict ≡ granted size) where
      none-refuses : or_next (first_of (entry_checks a)) (too_many_faults (round_at a 0).count) ≡ none
      none-refuses = sym left ∙ settled-none a answer size grants

      entries-pass : first_of (entry_checks a) ≡ none
      entries-pass = next-none-left (first_of (entry_checks a)) _ none-refuses

      by-crusaders : source_of a ≡ crusaders
      unfolding source_of
      by-crusaders =
          accepts (round_at a 0).count
          (next-none-right (first_of (entry_checks a)) (too_many_faults (round_at a 0).count) none-refuses)

      all_pass : first_of (fallback_checks a b (length answer)) ≡ none
      unfolding first_of
      all_pass = rest ∙ rw (entries-pass, by-crusaders)

      shown-first : (fallback a b answer).shown ≡ readings_part a
      unfolding fallback
      shown-first = rw (all_pass, by-crusaders)

      settled-first : SettledBy a b answer crusaders size
      unfolding fallback
      settled-first =
          record {
            verdict = rw (all_pass, by-crusaders, settled-size a answer size grants);
            shown = shown-first;
            buffer = rw (all_pass, by-crusaders) (sym (settled-buffer a answer (settled-none a answer size grants)));
            long = ap length shown-first ∙ part-long a are.first;
            readings = λ e l. ap (λ (s : List ℕ). word s (4 * e)) shown-first ∙ part-reading a e l;
          }

    module _ (r : Refusal) (refuses : (settle a answer).verdict ≡ refused r) where
      refuses-first : or_next (first_of (entry_checks a)) (too_many_faults (round_at a 0).count) ≡ some r
      refuses-first = sym left ∙ settled-some a answer r refuses

      -- not under 10: the refusal is of an entry
      stands : (r.number ≡ too_many_faults_number → ⊥) → Kept a b answer r
      stands other = kept r (rest ∙ go (first_of (entry_checks a)) refl refuses-first)
        where
          go :
              (x : Check) → first_of (entry_checks a) ≡ x → or_next x (too_many_faults (round_at a 0).count) ≡ some r
              → or_next x (first_of (own_checks (source_of a) b)) ≡ some r
          go (some y) q h = h
          go none q h =
              absurd (other (ap (λ (z : Refusal). z.number) (faults-says (round_at a 0).count r h)))

      module _ (ten : r.number ≡ too_many_faults_number) where
        entries-fine : first_of (entry_checks a) ≡ none
        entries-fine = go (first_of (entry_checks a)) refl refuses-first
          where
            go :
                (x : Check) → first_of (entry_checks a) ≡ x → or_next x (too_many_faults (round_at a 0).count) ≡ some r
                → x ≡ none
            go none q h = refl
            go (some y) q h = absurd (entry-not-ten a r (q ∙ h) ten)

        by-direct : source_of a ≡ direct
        unfolding source_of
        by-direct = accepts-none (round_at a 0).count r (rw entries-fine at refuses-first)

        same : first_of (fallback_checks a b (length answer)) ≡ first_of (settle_checks b 0 (length answer))
        same = rest ∙ rw (entries-fine, by-direct) own

        own-refuses : (x : Refusal) → (settle b answer).verdict ≡ refused x → Kept a b answer x
        own-refuses x e = kept x (same ∙ settled-some b answer x e)

        module _ (size : ℕ) (grants : (settle b answer).verdict ≡ granted size) where
          both-pass : first_of (fallback_checks a b (length answer)) ≡ none
          both-pass = same ∙ settled-none b answer size grants

          cabinets : (settings_at a).n ≡ (settings_at b).n
          cabinets = are.pair.cabinets

          shown-second : (fallback a b answer).shown ≡ readings_part b
          unfolding fallback
          shown-second = rw (both-pass, by-direct)

          settled-second : SettledBy a b answer direct size
          unfolding fallback
          settled-second =
              record {
                verdict = rw (both-pass, by-direct, cabinets, settled-size b answer size grants);
                shown = shown-second;
                long = ap length shown-second ∙ part-long b are.second;
                readings = λ e l. ap (λ (s : List ℕ). word s (4 * e)) shown-second ∙ part-reading b e l;
                buffer =
                    rw (both-pass, by-direct, cabinets)
                    (sym (settled-buffer b answer (settled-none b answer size grants)));
              }

-- what is shown goes by the verdict
pub shown_is : (a b answer : List ℕ) → (fallback a b answer).shown ≡ shown_by (fallback a b answer).verdict a b
unfolding fallback
shown_is a b answer = refl

pub fallback-results : FallbackResults
fallback-results a b answer =
    record {
      turned_away = λ r e. kept a b answer r (fallback-order a b (length answer) ∙ rw e);
      settles = λ pass size grants. settled-first a b answer pass size grants;
      stands = λ pass r refuses other. stands a b answer pass r refuses other;
      falls-back = λ pass r refuses ten size grants. settled-second a b answer pass r refuses ten size grants;
      refuses = λ pass r refuses ten own e. own-refuses a b answer pass r refuses ten own e;
    }
