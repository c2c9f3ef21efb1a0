-- The readings tested one after the other; and what `accept` answers.
-- Assumes nothing.
use mathlib.Core.Bool.{Bool, true, false, not, ◌||◌}
use mathlib.Core.List.{List, [], ◌∷◌}
use mathlib.Core.Logic.{inl}
use mathlib.Core.Path.{◌≡◌, refl, sym, ap, ◌∙◌}
use Prim.Native.Nat.{ℕ, zero, suc, ◌+◌, ◌≤◌, ◌<◌, zero-le}
use native.Mathlib.Omega.{arith}
use borrow.Author.Tests.{ltb-false, eqb-true, not-false}
use lib.Dec.{ltb, eqb}
use lib.ListN.{length, set, replicate, get_or-replicate}
use Rattle.arithmetic.specs.Counting.{bit, count}
use Rattle.arithmetic.specs.Writing.{table, overwrite}
use Rattle.arithmetic.proofs.Bools.{or_left, or_right}
use Rattle.arithmetic.proofs.Counting.{count-le}
use Rattle.arithmetic.proofs.Writing.{length-table, length-overwrite}
use Rattle.model.specs.Ensemble.{max_cabinets}
use Rattle.held.specs.Held.{present_in}
use Rattle.acceptance.proofs.Spans.{missing-not}
use Rattle.acceptance.specs.Values.{accepted_in, accepted_count, lists_misfit, count_given, flags_of}
use Rattle.acceptance.specs.Values.{Remembered, Begins}
use Rattle.starts.specs.declared.Known.{Known}
use Rattle.starts.specs.declared.Known.TheVariants.{Uncounted}
use Rattle.std.specs.Prelude.{Option, None, is_some, IfSome}
use Rattle.loop_laws.proofs.Loops.{count_next, store-none, store-next, store-ended}

-- as many values as marks, at most 64, and a memory of 64 starts
abbrev pub Alike : List ℕ → List ℕ → List Known → Type 0
Alike marks values known =
    (length values ≡ length marks) × (length marks ≤ max_cabinets) × (length known ≡ max_cabinets)

-- a flag that is stored again
set_again : (l : List Bool) (i : ℕ) (a b : Bool) → set (set l i a) i b ≡ set l i b
set_again [] i a b = refl
set_again (x ∷ xs) zero a b = refl
set_again (x ∷ xs) (suc i) a b = ap (λ (ys : List Bool). x ∷ ys) (set_again xs i a b)

module _ (w need : ℕ) (marks values : List ℕ) (flags₀ : List Bool) where
  abbrev passing : ℕ → Bool
  passing = accepted_in w need marks values

  -- where the readings below r are tested
  pub record Testing (known : List Known) (flags : List Bool) (counted : ℕ) (earlier : Option ℕ) (r : ℕ) : Type 0 where
    pub up_to : r ≤ length marks
    pub alike : Alike marks values known
    pub room : length marks ≤ length flags₀
    pub memory : Remembered w need marks values known
    pub start : IfSome earlier (Begins w need marks values)
    pub exact : counted ≡ count passing r
    pub written : flags ≡ overwrite (table passing r) flags₀

  pub test-none :
      (known : List Known)
      → Alike marks values known
      → length marks ≤ length flags₀
      → Remembered w need marks values known
      → Testing known flags₀ 0 None 0
  unfolding count
  test-none known a s m =
      record {
        up_to = zero-le;
        alike = a;
        room = s;
        memory = m;
        start = tt;
        exact = refl;
        written = store-none passing flags₀;
      }

  module _ (known : List Known) (flags : List Bool) (c : ℕ) (earlier : Option ℕ) (r : ℕ)
      (so_far : Testing known flags c earlier r) where
    pub flags_long : length flags ≡ length flags₀
    flags_long =
        let t = length-table passing r in
        let e = so_far.room in
        let u = so_far.up_to in
        ap length so_far.written ∙ length-overwrite (table passing r) flags₀ (omega arith)

    pub test-small : c ≤ max_cabinets
    test-small =
        let l = count-le passing r in
        let e = so_far.exact in
        let u = so_far.up_to in
        let f = so_far.alike.1 in
        omega arith

    -- a reading's test
    test-next :
        r < length marks
        → (known' : List Known)
        → length known' ≡ length known
        → Remembered w need marks values known'
        → (b : Bool)
        → b ≡ accepted_in w need marks values r
        → (next : Option ℕ)
        → IfSome next (Begins w need marks values)
        → (k : ℕ)
        → k ≡ c + bit b
        → Testing known' (set flags r b) k next (r + 1)
    test-next h known' l m b e next begins k q =
        record {
          up_to = omega arith;
          alike = (so_far.alike.0, so_far.alike.1, l ∙ so_far.alike.2);
          room = so_far.room;
          memory = m;
          start = begins;
          exact = omega (arith, so_far.exact, q, ap bit e, count_next passing r);
          written = store-next passing r flags₀ flags b so_far.written e (omega (arith, so_far.room));
        }

    -- a missing one
    pub test-missing :
        r < length marks → present_in marks r ≡ false → Testing known (set flags r false) c earlier (r + 1)
    test-missing h m =
        test-next h known refl so_far.memory false (sym (missing-not w need marks values r m)) earlier so_far.start c
        (omega arith)

    -- by the start that is found, or where none is
    module _ (h : r < length marks) (known' : List Known) (l : length known' ≡ length known)
        (m : Remembered w need marks values known') (s : Option ℕ) (e : is_some s ≡ accepted_in w need marks values r)
        (k : ℕ) (q : k ≡ bit (is_some s)) where
      pub test-found :
          is_some s ≡ true
          → IfSome s (Begins w need marks values)
          → Testing known' (set (set flags r false) r true) (c + k) s (r + 1)
      test-found t begins =
          rw set_again
          (test-next h known' l m true (sym t ∙ e) s begins (c + k) (omega (arith, q, ap bit t)))

      pub test-not : is_some s ≡ false → Testing known' (set flags r false) (c + k) earlier (r + 1)
      test-not t = test-next h known' l m false (sym t ∙ e) earlier so_far.start (c + k) (omega (arith, q, ap bit t))

    pub all-counted : length marks ≤ r → c ≡ accepted_count w need marks values
    unfolding accepted_count
    all-counted h = let e : r ≡ length marks = omega (arith, so_far.up_to) in rw (← e) so_far.exact

    pub all_tested :
        length marks ≤ r → flags ≡ overwrite (table (accepted_in w need marks values) (length marks)) flags₀
    all_tested h = store-ended passing (length marks) r flags₀ flags so_far.up_to h so_far.written

-- nothing is remembered of any start
pub remember-none :
    (w need : ℕ) (marks values : List ℕ) → length marks ≤ max_cabinets → Remembered w need marks values (replicate 64 Uncounted)
remember-none w need marks values few a l = inl (get_or-replicate 64 a Uncounted Uncounted (omega arith))

-- ---- the answers

module _ (w need : ℕ) (marks values : List ℕ) (old : List Bool) {b : Bool}
    (test : b ≡ lists_misfit marks values old) where
  pub count-unfit : b ≡ true → 0 ≡ count_given w need marks values old
  unfolding count_given
  count-unfit t = rw (sym test ∙ t)

  pub flags_unfit : b ≡ true → old ≡ flags_of w need marks values old
  unfolding flags_of
  flags_unfit t = rw (sym test ∙ t)

  module _ (f : b ≡ false) where
    rest : (not (eqb (length values) (length marks)) || ltb (length old) (length marks)) ≡ false
    rest = or_right (ltb max_cabinets (length marks)) _ (sym test ∙ f)

    pub fit-few : length marks ≤ max_cabinets
    fit-few = ltb-false 64 (length marks) (or_left (ltb max_cabinets (length marks)) _ (sym test ∙ f))

    pub fit-alike : length values ≡ length marks
    fit-alike =
        eqb-true (length values) (length marks)
        (not-false (eqb (length values) (length marks)) (or_left (not (eqb (length values) (length marks))) _ rest))

    pub fit-room : length marks ≤ length old
    fit-room = ltb-false (length old) (length marks) (or_right (not (eqb (length values) (length marks))) _ rest)

    pub count-fit : (n : ℕ) → n ≡ accepted_count w need marks values → n ≡ count_given w need marks values old
    unfolding count_given
    count-fit n e = e ∙ rw (sym test ∙ f)

    pub flags_fit :
        (flags : List Bool)
        → flags ≡ overwrite (table (accepted_in w need marks values) (length marks)) old
        → flags ≡ flags_of w need marks values old
    unfolding flags_of
    flags_fit flags e = e ∙ rw (sym test ∙ f)
