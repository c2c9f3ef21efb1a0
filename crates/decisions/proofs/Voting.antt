-- The majority vote over the copies of a row, copy by copy, and the decision by one count of its candidate.
-- Assumes nothing.
use mathlib.Core.Bool.{Bool, true, false, cond, ◌&&◌}
use mathlib.Core.List.{List}
use mathlib.Core.Path.{◌≡◌, sym, ◌∙◌}
use Prim.Native.Nat.{ℕ, ◌+◌, ◌*◌, ◌-◌, ◌/◌, ◌≤◌, ◌<◌, zero-le}
use native.Mathlib.Omega.{arith}
use borrow.Author.Tests.{le-ltb, lt-leb, eq-eqb, ne_eqb, leb-true, leb-false, ltb-true, eqb-true}
use lib.Dec.{leb, ltb, eqb}
use lib.ListN.{length, get_or}
use mir.Syntax.{w32}
use mir.Val.{to_z}
use Rattle.arithmetic.specs.Counting.{count}
use Rattle.arithmetic.proofs.Bools.{and_left, and_right}
use Rattle.model.specs.RoundSheet.{word}
use Rattle.model.specs.Steps.{decided, known_faulty, decide_row}
use Rattle.model.specs.Ensemble.{max_cabinets}
use Rattle.copies.specs.Copies.{marked_at, copy_bits, holds_copy, copies_in}
use Rattle.copies.proofs.Copies.{holds_test, copies-fit}
use Rattle.decisions.specs.Majority.{Candidate}
use Rattle.decisions.proofs.Majority.{candidate_lower}
use Rattle.decisions.proofs.Candidates.{bits-begin, bits-agree, bits_replace, bits-missing, bits-enough, bits_spent, bits_decide, to_z_one}
use Rattle.arithmetic.specs.Words.{two_to32}
use Rattle.decisions.specs.Rows.{copy_at, Elected, row_decision}

-- four bytes make a number of 32 bits
bits-low : (row : List ℕ) → ((i : ℕ) → get_or row i 0 < 256) → (t : ℕ) → copy_bits row t < two_to32
unfolding word
bits-low row f t = omega (arith, f (4 * t), f (4 * t + 1), f (4 * t + 2), f (4 * t + 3))

module _ (marks row : List ℕ) where
  pub record Voted (c k t : ℕ) : Type 0 where
    pub up_to : t ≤ length marks
    pub vote : Candidate (holds_copy marks row) c k t

  pub vote-none : Voted 0 0 0
  vote-none = record { up_to = zero-le; vote = bits-begin (marked_at marks) (copy_bits row) 0 }

  module _ (c k t : ℕ) (so_far : Voted c k t) (room : t < length marks) (v : ℕ) {b : Bool} (read : v ≡ copy_bits row t) (test : b ≡ (eqb (get_or marks t 0) 1 && eqb c v)) where
    pub vote-agree : b ≡ true → Voted c (k + 1) (t + 1)
    vote-agree e =
        let both = sym (holds_test marks row c v t read test) ∙ e in
        record {
          up_to = omega arith;
          vote =
              bits-agree (marked_at marks) (copy_bits row) c k t so_far.vote
              (and_left (marked_at marks t) (eqb c (copy_bits row t)) both)
              (sym (eqb-true c (copy_bits row t) (and_right (marked_at marks t) (eqb c (copy_bits row t)) both)));
        }

    pub vote-differ : b ≡ false → 0 < k → Voted c (k - 1) (t + 1)
    vote-differ e l =
        record {
          up_to = omega arith;
          vote = candidate_lower (holds_copy marks row) c k t so_far.vote l (sym
              (holds_test marks row c v t read test) ∙ e);
        }

    module _ (zero : k ≤ 0) where
      none : k ≡ 0
      none = omega arith

      pub vote_replace : get_or marks t 0 ≡ 1 → Voted v 1 (t + 1)
      vote_replace e =
          record {
            up_to = omega arith;
            vote = rw read (bits_replace (marked_at marks) (copy_bits row) c k t so_far.vote none (eq-eqb (get_or marks t 0) 1 e));
          }

      pub vote-missing : (get_or marks t 0 ≡ 1 → ⊥) → Voted c k (t + 1)
      vote-missing d =
          record {
            up_to = omega arith;
            vote = bits-missing (marked_at marks) (copy_bits row) c k t so_far.vote none (ne_eqb (get_or marks t 0) 1 d);
          }

  pub vote-all : (c k t : ℕ) → Voted c k t → length marks ≤ t → Elected marks row c
  vote-all c k t w l =
      let e : t ≡ length marks = omega (arith, w.up_to) in
      record { lead = k; vote = rw e at w.vote }

  -- ---- the decision of a row that fits

  module _ (need : ℕ) (few : length marks ≤ max_cabinets) (sized : length row ≡ 4 * length marks) (most : length marks < need + need) (bytes : (i : ℕ) → get_or row i 0 < 256) where
    low : (t : ℕ) → copy_bits row t < two_to32
    low = bits-low row bytes

    row-decided : decide_row need (length marks) (copy_at marks row) ≡ row_decision need marks row
    unfolding row_decision
    row-decided =
        rw (le-ltb max_cabinets (length marks) few, eq-eqb (length row) (4 * length marks) sized, lt-leb need (length marks / 2) (omega (arith, most)))

    -- one count of a value
    module _ (c : ℕ) (below : c < two_to32) (n : ℕ) (copied : n ≡ copies_in marks row c) where
      counted : n ≡ count (holds_copy marks row c) (length marks)
      counted = copied ∙ copies-fit marks row sized c few

      pub decision-enough : leb need n ≡ true → decided (to_z w32 c) ≡ row_decision need marks row
      decision-enough e =
          let l = leb-true need n e in
          sym
          (bits-enough (to_z w32) two_to32 to_z_one (marked_at marks) (copy_bits row) (length marks) (λ t _. low t) c need below most
          (omega (arith, counted)))
          ∙ row-decided

      pub decision_spent : leb need n ≡ false → ltb (length marks - need) n ≡ true → known_faulty ≡ row_decision need marks row
      decision_spent e f =
          let l = leb-false need n e in
          let h = ltb-true (length marks - need) n f in
          sym
          (bits_spent (to_z w32) two_to32 to_z_one (marked_at marks) (copy_bits row) (length marks) (λ t _. low t) c need below
          (omega (arith, counted))
          (omega (arith, counted)))
          ∙ row-decided

    -- the count of the vote's candidate
    module _ (c : ℕ) (elected : Elected marks row c) (n : ℕ) (copied : n ≡ copies_in marks row c) where
      candidate_decides : cond (leb need n) (decided (to_z w32 c)) known_faulty ≡ row_decision need marks row
      candidate_decides =
          rw (copied ∙ copies-fit marks row sized c few)
          (sym
          (bits_decide (to_z w32) two_to32 to_z_one (marked_at marks) (copy_bits row) (length marks) (λ t _. low t) c elected.lead elected.vote need most))
          ∙ row-decided

      pub decision-short : leb need n ≡ false → known_faulty ≡ row_decision need marks row
      decision-short e = rw e at candidate_decides

      pub decision-bits : leb need n ≡ true → decided (to_z w32 c) ≡ row_decision need marks row
      decision-bits e = rw e at candidate_decides
