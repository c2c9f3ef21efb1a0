-- Each of the two inequalities holds just where its sentence on clocks does. One way the clocks' bounds are multiplied
-- out; the other way the slowest and the fastest clock are taken.
-- Assumes nothing.
use mathlib.Core.Bool.{true, false, ◌&&◌}
use mathlib.Core.Path.{◌≡◌, refl, sym, ap, ◌∙◌, subst}
use Prim.Native.Nat.{ℕ, ◌+◌, ◌*◌, ◌-◌, ◌≤◌, ◌<◌, zero-le}
use native.Mathlib.Nat.{le_refl, le_trans, le_of_eq, mul_comm, mul_assoc, mul_left_comm, mul-add, add-mul, mul-pos}
use native.Mathlib.Nat.{mul-le-mul_left, mul-le-mul_right, le_of_mul-le-mul_left}
use native.Mathlib.Omega.{arith}
use borrow.Author.Tests.{le-leb, leb-true}
use lib.Dec.{leb}
use Rattle.arithmetic.proofs.Bools.{clash, and_left, and_right, and_intro}
use Rattle.model.specs.Planner.{ceil_div}
use Rattle.interval.specs.Interval.{max_drift, stays_within, starts_within, meets, out_of_range}
use Rattle.interval.specs.Formula.{coefficient, needed, least_by, greatest_by}
use Rattle.interval.specs.Guarantee.{Answered}
use Rattle.interval.specs.Clocks.{Rated, StaysTogether, StartsTogether, KeptWhere, ClocksKept, IntervalsKept}
use Rattle.interval.specs.Clocks.{NeverEarly, EarlyStart, LateStart}
use Rattle.interval.proofs.Formula.{leb-same, stays-natural, starts-raced}
use Rattle.interval.proofs.Guarantee.{in_range_lem, interval-found, interval-guarantee}

module _ (r : ℕ) (most : r ≤ max_drift) where
  abbrev slow : ℕ
  slow = 2000000 - r

  abbrev fast : ℕ
  fast = 2000000 + r

  some-slow : 0 < slow
  some-slow = omega arith

  -- what the rates are of any number
  slow-of : (T : ℕ) → slow * T + r * T ≡ 2000000 * T
  slow-of T = sym (add-mul slow r T) ∙ ap (λ (x : ℕ). x * T) whole
    where
      whole : slow + r ≡ 2000000
      whole = omega arith

  fast-of : (T : ℕ) → fast * T ≡ 2000000 * T + r * T
  fast-of T = add-mul 2000000 r T

  -- a clock that goes n at one rate, counted at the other
  at-slow : (n : ℕ) → slow * (2000000 * (fast * n)) ≡ 2000000 * (slow * fast * n)
  at-slow n = mul_left_comm slow 2000000 (fast * n) ∙ ap (λ (x : ℕ). 2000000 * x) (sym (mul_assoc slow fast n))

  at-fast : (n : ℕ) → fast * (2000000 * (slow * n)) ≡ 2000000 * (slow * fast * n)
  at-fast n =
      mul_left_comm fast 2000000 (slow * n)
      ∙ ap (λ (x : ℕ). 2000000 * x) (mul_left_comm fast slow n ∙ sym (mul_assoc slow fast n))

  wider : (n : ℕ) → slow * n ≤ fast * n
  wider n = mul-le-mul_right n (omega arith)

  -- the slowest clock, and the fastest, that go n
  rated_slow : (n : ℕ) → Rated r (2000000 * (fast * n)) (slow * fast * n)
  rated_slow n =
      record {
        slowest = le_of_eq (at-slow n);
        fastest = le_trans (le_of_eq (sym (at-slow n))) (wider (2000000 * (fast * n)));
      }

  rated_fast : (n : ℕ) → Rated r (2000000 * (slow * n)) (slow * fast * n)
  rated_fast n =
      record {
        slowest = le_trans (wider (2000000 * (slow * n))) (le_of_eq (at-fast n));
        fastest = le_of_eq (sym (at-fast n));
      }

  -- ---- the first inequality

  module _ (δ c R : ℕ) where
    first-of : stays_within δ c r R ≡ true → 2 * r * R + c * slow ≤ δ * slow
    first-of e =
        leb-true (2 * r * R + c * slow) (δ * slow) (sym (stays-natural δ c r R (omega arith)) ∙ e)

    -- k times a number at the slow rate, a million times over
    spread-out : (k n : ℕ) → slow * (1000000 * (k * n)) ≡ 1000000 * (k * (n * slow))
    spread-out k n =
        mul_left_comm slow 1000000 (k * n)
        ∙ ap (λ (x : ℕ). 1000000 * x) (mul_left_comm slow k n ∙ ap (λ (x : ℕ). k * x) (mul_comm slow n))

    gone : (k : ℕ) → r * (2000000 * (k * R)) ≡ 1000000 * (k * (2 * r * R))
    gone k =
        let moved = mul_left_comm r 2000000 (k * R) in
        let inner = mul_left_comm r k R in
        let twice : k * (2 * r * R) ≡ 2 * (k * (r * R)) =
        ap (λ (x : ℕ). k * x) (mul_assoc 2 r R) ∙ mul_left_comm k 2 (r * R) in
        let scaled = ap (λ (x : ℕ). 2000000 * x) inner in
        omega arith

    drifted : (k T a : ℕ) → 2 * r * R + c * slow ≤ δ * slow → slow * T ≤ 2000000 * a → a ≤ k * R
        → r * T + 1000000 * (k * c) ≤ 1000000 * (k * δ)
    drifted k T a l rate early =
        let clock : r * (slow * T) ≤ r * (2000000 * (k * R)) =
        mul-le-mul_left r (le_trans rate (mul-le-mul_left 2000000 early)) in
        let moved = mul_left_comm slow r T in
        let is = gone k in
        let near = spread-out k c in
        let far = spread-out k δ in
        let times : k * (2 * r * R + c * slow) ≤ k * (δ * slow) = mul-le-mul_left k l in
        let split = mul-add k (2 * r * R) (c * slow) in
        let sum = mul-add slow (r * T) (1000000 * (k * c)) in
        le_of_mul-le-mul_left {k = slow} (omega arith) some-slow

    stays_so : stays_within δ c r R ≡ true → StaysTogether δ c r R
    stays_so e k T x y a b hx hy p q early =
        let room = drifted k T a (first-of e) p.slowest early in
        let slowly = slow-of T in
        let fastly = fast-of T in
        let slowest = p.slowest in
        let fastest = p.fastest in
        let slowest-other = q.slowest in
        let fastest-other = q.fastest in
        (omega arith, omega arith)

    -- the slowest clock goes (2,000,000-r)R, the fastest (2,000,000+r)R, in 2,000,000-r parts of a tick
    stays-only : StaysTogether δ c r R → stays_within δ c r R ≡ true
    stays-only h =
        let a = slow * R in
        let b = fast * R in
        let T = 2000000 * R in
        let slowly = slow-of R in
        let fastly = fast-of R in
        let of-slow = mul_left_comm slow 2000000 R in
        let of-fast = mul_left_comm fast 2000000 R in
        let p : Rated r T a = record { slowest = omega arith; fastest = omega arith } in
        let q : Rated r T b = record { slowest = omega arith; fastest = omega arith } in
        let end = (h slow T 0 (slow * c) a b zero-le (omega arith) p q (le_refl (slow * R))).1 in
        let near = mul_comm slow c in
        let far = mul_comm slow δ in
        let twice = mul_assoc 2 r R in
        stays-natural δ c r R (omega arith) ∙ le-leb (2 * r * R + c * slow) (δ * slow) (omega arith)

  -- ---- the second inequality

  module _ (c R : ℕ) where
    second-of : starts_within c r R ≡ true → (R + c) * (2000000 * fast) ≤ R * (slow * fast) + R * (2000000 * slow)
    second-of e =
        leb-true ((R + c) * (2000000 * fast)) (R * (slow * fast) + R * (2000000 * slow)) (sym (starts-raced r most c R) ∙ e)

    -- k times a number at a rate, 2,000,000 times over
    raced : (k n rate : ℕ) → rate * (2000000 * (k * n)) ≡ k * (n * (2000000 * rate))
    raced k n rate =
        mul_left_comm rate 2000000 (k * n)
        ∙ ap (λ (x : ℕ). 2000000 * x) (mul_left_comm rate k n ∙ ap (λ (x : ℕ). k * x) (mul_comm rate n))
        ∙ mul_left_comm 2000000 k (n * rate)
        ∙ ap (λ (x : ℕ). k * x) (mul_left_comm 2000000 n rate)

    starts_so : starts_within c r R ≡ true → StartsTogether c r R
    starts_so e k S T a b p early q late =
        let slower : fast * (slow * T) ≤ fast * (2000000 * (k * (R + c))) =
        mul-le-mul_left fast (le_trans p.slowest (mul-le-mul_left 2000000 early)) in
        let faster : slow * (2000000 * (k * R)) ≤ slow * (fast * S) =
        mul-le-mul_left slow (le_trans (mul-le-mul_left 2000000 late) q.fastest) in
        let times = mul-le-mul_left k (second-of e) in
        let split = mul-add k (R * (slow * fast)) (R * (2000000 * slow)) in
        let first = raced k (R + c) fast in
        let second = raced k R slow in
        let left : slow * fast * T ≡ fast * (slow * T) = mul_assoc slow fast T ∙ mul_left_comm slow fast T in
        let right : slow * fast * (S + k * R) ≡ slow * (fast * S) + k * (R * (slow * fast)) = right_is k S in
        le_of_mul-le-mul_left {k = slow * fast} (omega arith) (mul-pos some-slow (omega arith))
      where
        right_is : (k S : ℕ) → slow * fast * (S + k * R) ≡ slow * (fast * S) + k * (R * (slow * fast))
        right_is k S =
            let both = mul-add (slow * fast) S (k * R) in
            let one = mul_assoc slow fast S in
            let other = mul_left_comm (slow * fast) k R ∙ ap (λ (x : ℕ). k * x) (mul_comm (slow * fast) R) in
            omega arith

    -- the slowest clock goes R + c and the fastest R, in (2,000,000-r)(2,000,000+r) parts of a tick
    starts-only : StartsTogether c r R → starts_within c r R ≡ true
    starts-only h =
        let k = slow * fast in
        let end = h k (2000000 * (slow * R)) (2000000 * (fast * (R + c))) (k * (R + c)) (k * R)
        (rated_slow (R + c)) (le_refl (k * (R + c))) (rated_fast R) (le_refl (k * R)) in
        let first = mul_left_comm (R + c) 2000000 fast ∙ ap (λ (x : ℕ). 2000000 * x) (mul_comm (R + c) fast) in
        let second = mul_left_comm R 2000000 slow ∙ ap (λ (x : ℕ). 2000000 * x) (mul_comm R slow) in
        let product = mul_comm k R in
        starts-raced r most c R
        ∙ le-leb ((R + c) * (2000000 * fast)) (R * (slow * fast) + R * (2000000 * slow)) (omega arith)

    -- ---- no early start

    raced-twice : leb ((R + c) * fast) ((R + R) * slow) ≡ leb (c * fast) (R * (2000000 - 3 * r))
    raced-twice =
        let both = add-mul R c fast in
        let twice = add-mul R R slow in
        let of-fast = mul-add R 2000000 r in
        let of-slow : R * slow + R * r ≡ R * 2000000 = sym (mul-add R slow r) ∙ ap (λ (x : ℕ). R * x) once in
        let of_three : R * (2000000 - 3 * r) + R * (3 * r) ≡ R * 2000000 =
        sym (mul-add R (2000000 - 3 * r) (3 * r)) ∙ ap (λ (x : ℕ). R * x) thrice in
        let three = mul_left_comm R 3 r in
        leb-same ((R + c) * fast) ((R + R) * slow) (c * fast) (R * (2000000 - 3 * r)) (λ l. omega arith) (λ l. omega arith)
      where
        once : slow + r ≡ 2000000
        once = omega arith

        thrice : 2000000 - 3 * r + 3 * r ≡ 2000000
        thrice = omega arith

    never-early : c * fast ≤ R * (2000000 - 3 * r) → NeverEarly c r R
    never-early l k S T a b p early q late =
        let slower : fast * (slow * T) ≤ fast * (2000000 * (k * (R + c))) =
        mul-le-mul_left fast (le_trans p.slowest (mul-le-mul_left 2000000 early)) in
        let faster : slow * (2000000 * (k * (R + R))) ≤ slow * (fast * S) =
        mul-le-mul_left slow (le_trans (mul-le-mul_left 2000000 late) q.fastest) in
        let ahead =
        leb-true ((R + c) * fast) ((R + R) * slow)
        (raced-twice ∙ le-leb (c * fast) (R * (2000000 - 3 * r)) l) in
        let times = mul-le-mul_left (2000000 * k) ahead in
        let first = turned (R + c) fast in
        let second = turned (R + R) slow in
        let left = mul_assoc slow fast T ∙ mul_left_comm slow fast T in
        let right = mul_assoc slow fast S in
        le_of_mul-le-mul_left {k = slow * fast} (omega arith) (mul-pos some-slow (omega arith))
      where
        turned : (n rate : ℕ) → rate * (2000000 * (k * n)) ≡ 2000000 * k * (n * rate)
        turned n rate =
            mul_comm rate (2000000 * (k * n))
            ∙ ap (λ (x : ℕ). x * rate) (sym (mul_assoc 2000000 k n))
            ∙ mul_assoc (2000000 * k) n rate

    early-only : NeverEarly c r R → c * fast ≤ R * (2000000 - 3 * r)
    early-only h =
        let k = slow * fast in
        let end = h k (2000000 * (slow * (R + R))) (2000000 * (fast * (R + c))) (k * (R + c)) (k * (R + R))
        (rated_slow (R + c)) (le_refl (k * (R + c))) (rated_fast (R + R)) (le_refl (k * (R + R))) in
        let first = mul_comm (R + c) fast in
        let second = mul_comm (R + R) slow in
        leb-true (c * fast) (R * (2000000 - 3 * r))
        (sym raced-twice ∙ le-leb ((R + c) * fast) ((R + R) * slow) (omega arith))

pub clocks_kept : ClocksKept
clocks_kept δ c r R most =
    record {
      stays = stays_so r most δ c R;
      stays_only = stays-only r most δ c R;
      starts = starts_so r most c R;
      starts_only = starts-only r most c R;
    }

-- ---- an interval that is granted

both-met : (δ c r R : ℕ) → meets δ c r R ≡ true → (stays_within δ c r R ≡ true) × (starts_within c r R ≡ true)
unfolding meets
both-met δ c r R e =
    let inequalities = and_right (leb 1 R) (stays_within δ c r R && starts_within c r R) e in
    (and_left (stays_within δ c r R) (starts_within c r R) inequalities, and_right (stays_within δ c r R) (starts_within c r R) inequalities)

met-both : (δ c r R : ℕ) → 1 ≤ R → stays_within δ c r R ≡ true → starts_within c r R ≡ true → meets δ c r R ≡ true
unfolding meets
met-both δ c r R one stays starts = and_intro (le-leb 1 R one) (and_intro stays starts)

pub intervals_kept : IntervalsKept
intervals_kept δ c r i e =
    let given = subst (Answered δ c r) e (interval-guarantee.right δ c r) in
    let h = given.0 in
    let is = given.1.0 in
    let kept : (R : ℕ) → KeptWhere δ c r R = λ R. clocks_kept δ c r R h.drift in
    record {
      stays = λ R l g. (kept R).stays (both-met δ c r R (is.between_meets R l g)).0;
      starts = λ R l g. (kept R).starts (both-met δ c r R (is.between_meets R l g)).1;
      no_other = λ R one s t. is.all_between R (met-both δ c r R one ((kept R).stays_only s) ((kept R).starts_only t));
    }

-- ---- starts that are early or late

pub early-start : EarlyStart
unfolding out_of_range coefficient needed least_by greatest_by ceil_div
early-start =
    record {
      grants = interval-found 1000000 998998 1000 (in_range_lem 1000000 998998 1000 refl) (omega arith);
      early = λ h.
          too_late
          (h 1 1999999 2000497 1999497 2000998
          (record { slowest = omega arith; fastest = omega arith })
          (omega arith)
          (record { slowest = omega arith; fastest = omega arith })
          (omega arith));
      enough = λ c r R most. never-early r most c R;
      no_less = λ c r R most. early-only r most c R;
    }
  where
    too_late : 2000497 ≤ 1999999 → ⊥
    too_late l = omega arith

too_wide : stays_within 1000000 998998 1000 2000497 ≡ false
unfolding stays_within
too_wide = refl

pub late-start : LateStart
late-start =
    record {
      late = λ h. clash ((clocks_kept 1000000 998998 1000 2000497 (omega arith)).stays_only h) too_wide;
      enough = λ δ c r i e R l g. (intervals_kept δ c r i e).stays (R + c) (omega arith) g;
    }
