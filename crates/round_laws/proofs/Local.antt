-- A round depends on the readings of the cabinets below N alone: readings that agree there give the same round and the same answer sheet.
-- Assumes nothing.
use mathlib.Core.Bool.{Bool, true, false, cond, ◌&&◌}
use mathlib.Core.Option.{Option, none, some}
use mathlib.Core.Path.{◌≡◌, refl, ap, ap₂, ◌∙◌}
use Prim.Native.Nat.{ℕ, ◌+◌, ◌/◌, ◌<◌}
use lib.Dec.{leb, ltb, eqb}
use lib.IntN.{ℤ, pos, ◌+ℤ◌}
use lib.Signed.{le_z, lt_z, shr_z}
use Rattle.arithmetic.specs.Counting.{count, lowest}
use Rattle.arithmetic.proofs.Bools.{and_left, and_ext, cond_ext}
use Rattle.arithmetic.proofs.Counting.{count_ext, any_ext, lowest_ext, lowest-found}
use Rattle.arithmetic.proofs.Sums.{sum_ext}
use Rattle.arithmetic.proofs.Writing.{table_ext}
use Rattle.model.specs.declared.Settings.{Settings}
use Rattle.model.specs.Ensemble.{Readings, ticks, quorum}
use Rattle.model.specs.RoundSheet.{trims, average, median}
use Rattle.model.specs.AnswerSheet.{answer_header, answer_bytes}
use Rattle.model.specs.Steps.{within, accepted, accepted_at, numbered, ticks_at, average_of, median_of, midpoint_of, estimate, mean, used_value, mark_of, Round, round_of}
use Rattle.model.specs.Steps.{span_width, trimmed_round, round_by}

-- two functions agree below n
abbrev pub EqualBelow : {A : Type 0} → ℕ → (ℕ → A) → (ℕ → A) → Type 0
EqualBelow n f g = (i : ℕ) → i < n → f i ≡ g i

module _ (n : ℕ) (v u : Readings) (same : EqualBelow n v u) where
  pub accepted_local : (w need r : ℕ) → r < n → accepted w need n v r ≡ accepted w need n u r
  unfolding accepted
  accepted_local w need r h =
      any_ext
      (λ s. within w (v s) (v r) && leb need (count (λ t. within w (v s) (v t)) n))
      (λ s. within w (u s) (u r) && leb need (count (λ t. within w (u s) (u t)) n))
      n
      (λ s l.
      ap₂
      (λ (a : Bool) (c : ℕ). a && leb need c)
      (ap₂ (within w) (same s l) (same r h))
      (count_ext (λ t. within w (v s) (v t)) (λ t. within w (u s) (u t)) n (λ t k. ap₂ (within w) (same s l) (same t k))))

-- an estimate and the used values depend on the readings of the cabinets that are admitted alone
module _ (n : ℕ) (v u : Readings) (acc bcc : ℕ → Bool) (both : EqualBelow n acc bcc) (same : (r : ℕ) → r < n → acc r ≡ true → v r ≡ u r) where
  pub count_local : count acc n ≡ count bcc n
  count_local = count_ext acc bcc n both

  -- how many admitted readings pass a test against r's
  ranks_local : (test : ℤ → ℤ → Bool) (r : ℕ) → r < n → acc r ≡ true → count (λ s. acc s && test (ticks (v s)) (ticks (v r))) n ≡ count (λ s. bcc s && test (ticks (u s)) (ticks (u r))) n
  ranks_local test r h a =
      count_ext
      (λ s. acc s && test (ticks (v s)) (ticks (v r)))
      (λ s. bcc s && test (ticks (u s)) (ticks (u r)))
      n
      (λ s l. and_ext (both s l) (λ b. ap₂ test (ap ticks (same s l b)) (ap ticks (same r h a))))

  ticks_local : (o : Option ℕ) → ((r : ℕ) → o ≡ some r → (r < n) × (acc r ≡ true)) → ticks_at v o ≡ ticks_at u o
  ticks_local (some r) f = ap ticks (same r (f r refl).0 (f r refl).1)
  ticks_local none f = refl

  pub numbered_local : (h : ℕ) → numbered acc n v h ≡ numbered bcc n u h
  unfolding numbered
  numbered_local h =
      ticks_local (lowest test n) (λ r e. let f = lowest-found test n r e in (f.in_range, and_left (acc r) _ f.passes))
      ∙ ap (ticks_at u)
      (lowest_ext test test' n
      (λ r l. and_ext (both r l) (λ a. ap₂ (λ (i j : ℕ). leb h i && ltb j h) (ranks_local le_z r l a) (ranks_local lt_z r l a))))
    where
      test : ℕ → Bool
      test r =
          acc r
          && (leb h (count (λ s. acc s && le_z (ticks (v s)) (ticks (v r))) n)
          && ltb (count (λ s. acc s && lt_z (ticks (v s)) (ticks (v r))) n) h)

      test' : ℕ → Bool
      test' r =
          bcc r
          && (leb h (count (λ s. bcc s && le_z (ticks (u s)) (ticks (u r))) n)
          && ltb (count (λ s. bcc s && lt_z (ticks (u s)) (ticks (u r))) n) h)

  pub estimate_local : (kind : ℕ) → estimate kind acc n v ≡ estimate kind bcc n u
  unfolding estimate average_of median_of midpoint_of
  estimate_local kind =
      ap₂
      (λ (a b : ℤ). cond (eqb kind average) a b)
      (ap₂ shr_z
      (sum_ext (λ r. cond (acc r) (ticks (v r)) (pos 0)) (λ r. cond (bcc r) (ticks (u r)) (pos 0)) n
      (λ r l. cond_ext (both r l) (λ a. ap ticks (same r l a)) refl))
      count_local)
      (ap₂
      (λ (a b : ℤ). cond (eqb kind median) a b)
      (ap (λ (c : ℕ). numbered acc n v ((c + 1) / 2)) count_local ∙ numbered_local ((count bcc n + 1) / 2))
      (ap₂ (λ (a b : ℤ). shr_z (a +ℤ b) 2) (numbered_local 1) (ap (numbered acc n v) count_local ∙ numbered_local (count bcc n))))

  pub used_local : {d e : ℤ} → d ≡ e → EqualBelow n (used_value acc v d) (used_value bcc u e)
  used_local p r l = cond_ext (both r l) (λ a. ap ticks (same r l a)) p

-- what two rounds that agree below n have in common
pub record EqualRounds (n : ℕ) (a b : Round) : Type 0 where
  pub count : a.count ≡ b.count
  pub estimate : a.estimate ≡ b.estimate
  pub value : a.value ≡ b.value
  pub mark : EqualBelow n a.mark b.mark
  pub used : EqualBelow n a.used b.used

pub rounds_trans : {n : ℕ} {a b c : Round} → EqualRounds n a b → EqualRounds n b c → EqualRounds n a c
rounds_trans p q =
    record {
      count = p.count ∙ q.count;
      estimate = p.estimate ∙ q.estimate;
      value = p.value ∙ q.value;
      mark = λ r l. p.mark r l ∙ q.mark r l;
      used = λ r l. p.used r l ∙ q.used r l;
    }

pub round_local :
    (c : Settings) (D : ℕ) (v u : Readings) → EqualBelow c.n v u
    → EqualRounds c.n (round_of c D v) (round_of c D u)
unfolding round_of accepted_at
round_local c D v u same =
    let both : EqualBelow c.n (λ r. accepted (span_width c D) (quorum c) c.n v r) (λ r. accepted (span_width c D) (quorum c) c.n u r) = λ r l. accepted_local c.n v u same (span_width c D) (quorum c) r l in
    let e = estimate_local c.n v u _ _ both (λ r l _. same r l) c.estimator in
    let used = used_local c.n v u _ _ both (λ r l _. same r l) e in
    record {
      count = count_local c.n v u _ _ both (λ r l _. same r l);
      estimate = e;
      value = ap (mean c.n) (sum_ext _ _ c.n used);
      mark = λ r l. ap₂ mark_of (both r l) (same r l);
      used = used;
    }

-- rounds alike below n have the same answer sheet
pub answer_local : (n : ℕ) (a b : Round) → EqualRounds n a b → answer_bytes n a ≡ answer_bytes n b
unfolding answer_bytes answer_header
answer_local n a b s =
    simp (s.count, s.estimate, s.value, table_ext a.mark b.mark n s.mark, table_ext a.used b.used n s.used)

-- ---- the round by its rule

module _ (c : Settings) (D : ℕ) (v : Readings) where
  pub round-by-spans : trims c.rule ≡ false → round_by c D v ≡ round_of c D v
  unfolding round_by
  round-by-spans e = rw e

  pub round-by_trimming : trims c.rule ≡ true → round_by c D v ≡ trimmed_round c v
  unfolding round_by
  round-by_trimming e = rw e
