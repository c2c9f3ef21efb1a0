-- Each reading of a sheet of bytes is read back from what is held of it: no reading of 32 bits is lost.
-- Assumes nothing.
use mathlib.Core.Bool.{Bool, true, false}
use mathlib.Core.List.{List}
use mathlib.Core.Path.{◌≡◌, refl, sym, subst}
use Prim.Native.Nat.{ℕ, ◌+◌, ◌*◌, ◌<◌}
use lib.Dec.{eqb}
use lib.IntN.{ℤ}
use Rattle.model.specs.declared.Settings.{Settings}
use Rattle.model.specs.Ensemble.{Reading, missing, present, quorum}
use Rattle.model.specs.RoundSheet.{cca, byte, mark_at, bits_at, entry_count, entry_at, header_size}
use Rattle.model.specs.Steps.{decided_reading, decide_row}
use Rattle.decision_laws.proofs.Rows.{read-direct, read-decided, read_all}
use Rattle.sheet_laws.proofs.Words.{word_fits}
use Rattle.held.proofs.Held.{missing-held}
use Rattle.held.proofs.Kept.{Kept, entry_kept}
use Rattle.reception.specs.Receiving.{reading_at}

-- a reading is kept where it is kept if it is present
reading-kept : (z : Reading) → ((a : ℤ) → z ≡ present a → Kept (present a)) → Kept z
reading-kept missing f = missing-held
reading-kept (present a) f = f a refl

module _ (s : List ℕ) (small : (j : ℕ) → byte s j < 256) where
  sent-kept : (E e : ℕ) → Kept (entry_at s E e)
  unfolding entry_at
  sent-kept E e = entry_kept (eqb (mark_at s e) 1) (bits_at s E e) (word_fits s (header_size + E + 4 * e) small)

  pub sheet-kept : (c : Settings) → 0 < quorum c → (r : ℕ) → Kept (reading_at s c r)
  sheet-kept c some-need r = go (eqb c.rule cca) refl
    where
      copy : ℕ → Reading
      copy t = entry_at s (entry_count c) (r * c.n + t)

      go : (b : Bool) → eqb c.rule cca ≡ b → Kept (reading_at s c r)
      go false e = subst Kept (sym (read-direct c (entry_at s (entry_count c)) r e)) (sent-kept (entry_count c) r)
      go true e =
          subst Kept (sym (read-decided c (entry_at s (entry_count c)) r e))
          (reading-kept (decided_reading (decide_row (quorum c) c.n copy))
          (λ a d.
          read_all (λ (z : ℤ). Kept (present z)) (quorum c) c.n copy a some-need
          (λ t z _ q. subst Kept q (sent-kept (entry_count c) (r * c.n + t)))
          d))
