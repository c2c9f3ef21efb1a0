-- The search for a present reading by its number from below, index by index.
--   Narrowed h low high t   the indices below t do not fit, nor does any number below low, or above high
-- Assumes nothing.
use mathlib.Core.Bool.{Bool, true, false, ◌&&◌}
use mathlib.Core.List.{List}
use mathlib.Core.Path.{◌≡◌, refl, sym, ap, ◌∙◌}
use Prim.Native.Nat.{ℕ, ◌+◌, ◌-◌, min, ◌≤◌, ◌<◌, zero-le}
use native.Mathlib.Nat.{le_refl, not-suc-le-zero}
use native.Mathlib.Omega.{arith}
use borrow.Author.Count.{below_more}
use borrow.Author.Tests.{leb-false}
use lib.Dec.{leb, ltb}
use lib.ListN.{length}
use Rattle.arithmetic.proofs.Bools.{and_left, clash}
use Rattle.arithmetic.specs.Words.{two_to31, two_to32}
use Rattle.model.specs.Ensemble.{max_cabinets}
use Rattle.round_laws.specs.Naturals.{is_numbered}
use Rattle.held.specs.Held.{present_in, value_at, unfit}
use Rattle.held.proofs.Held.{fit-few, fit-even, fit_intro}
use Rattle.selection.specs.Order.{count_below, count_up_to, numbered_at, numbered_of}
use Rattle.selection.proofs.Selection.{under, up_to, too_low, too_high}
use Rattle.selection.proofs.Selection.{numbered_intro, numbered-value, numbered-none}

module _ (marks values : List ℕ) where
  -- whether the reading at j is numbered h from below
  abbrev pub fits : ℕ → ℕ → Bool
  fits h j = is_numbered (present_in marks) (length marks) (value_at values) h j

  -- whether the reading at t is present and in a range
  abbrev pub open_at : ℕ → ℕ → ℕ → Bool
  open_at low high t = present_in marks t && (leb low (value_at values t) && leb (value_at values t) high)

  missing-unfit : (h j : ℕ) → present_in marks j ≡ false → fits h j ≡ false
  missing-unfit h j e =
      let v = value_at values j in
      let upto = up_to (present_in marks) (length marks) (value_at values) v in
      let below = under (present_in marks) (length marks) (value_at values) v in
      ap (λ (b : Bool). b && (leb h upto && ltb below h)) e

  pub record Narrowed (h low high t : ℕ) : Type 0 where
    pub few : length marks ≤ max_cabinets
    pub even : length values ≡ length marks
    pub in_range : t ≤ length marks
    pub passed : (j : ℕ) → j < t → fits h j ≡ false
    pub lows : (j : ℕ) → value_at values j < low → fits h j ≡ false
    pub highs : (j : ℕ) → high < value_at values j → fits h j ≡ false

  pub narrow-none :
      (h : ℕ)
      → {b : Bool}
      → b ≡ unfit (length marks) (length values)
      → b ≡ false
      → ((j : ℕ) → value_at values j < two_to32)
      → Narrowed h 0 (two_to32 - 1) 0
  narrow-none h e f small =
      record {
        few = fit-few (length marks) (length values) (sym e ∙ f);
        even = fit-even (length marks) (length values) (sym e ∙ f);
        in_range = zero-le;
        passed = λ j l. absurd (not-suc-le-zero l);
        lows = λ j l. absurd (not-suc-le-zero l);
        highs = λ j l. absurd (omega (arith, small j));
      }

  module _ (h low high t : ℕ) (so_far : Narrowed h low high t) (room : t < length marks) where
    abbrev here : ℕ
    here = value_at values t

    -- the reading at t is missing or out of range
    pub narrow-skip : {b : Bool} → b ≡ open_at low high t → b ≡ false → Narrowed h low high (t + 1)
    narrow-skip e f =
        record {
          few = so_far.few;
          even = so_far.even;
          in_range = omega arith;
          passed =
              below_more (λ (j : ℕ). fits h j ≡ false) t so_far.passed
              (go (present_in marks t) (leb low here) (leb here high) refl refl refl (sym e ∙ f));
          lows = so_far.lows;
          highs = so_far.highs;
        }
      where
        go :
            (a b c : Bool)
            → present_in marks t ≡ a
            → leb low here ≡ b
            → leb here high ≡ c
            → (a && (b && c)) ≡ false
            → fits h t ≡ false
        go false b c p q r z = missing-unfit h t p
        go true false c p q r z = so_far.lows t (leb-false low here q)
        go true true false p q r z = so_far.highs t (leb-false here high r)
        go true true true p q r z = clash refl z

    -- the number at t is too high
    pub narrow_high : h ≤ count_below marks values here → (w : ℕ) → w ≡ here - 1 → Narrowed h low w (t + 1)
    narrow_high m w e =
        record {
          few = so_far.few;
          even = so_far.even;
          in_range = omega arith;
          passed = below_more (λ (j : ℕ). fits h j ≡ false) t so_far.passed (beyond t (le_refl here));
          lows = so_far.lows;
          highs = λ j l. beyond j (omega arith);
        }
      where
        beyond : (j : ℕ) → here ≤ value_at values j → fits h j ≡ false
        beyond j l = too_high (present_in marks) (length marks) (value_at values) h here j l m

    -- the number at t is too low
    pub narrow-low :
        count_up_to marks values here < h → (w : ℕ) → w ≡ min (here + 1) (two_to32 - 1) → Narrowed h w high (t + 1)
    narrow-low m w e =
        record {
          few = so_far.few;
          even = so_far.even;
          in_range = omega arith;
          passed = below_more (λ (j : ℕ). fits h j ≡ false) t so_far.passed (beyond t (le_refl here));
          lows = λ j l. beyond j (omega arith);
          highs = so_far.highs;
        }
      where
        beyond : (j : ℕ) → value_at values j ≤ here → fits h j ≡ false
        beyond j l = too_low (present_in marks) (length marks) (value_at values) h here j l m

  -- ---- what `numbered` answers: of lists that do not fit, of the number at t, and of all passed

  pub numbered-unfit :
      (h : ℕ) {b : Bool} → b ≡ unfit (length marks) (length values) → b ≡ true → two_to31 ≡ numbered_of marks values h
  unfolding numbered_of
  numbered-unfit h e f = rw (sym e ∙ f)

  module _ (h low high t : ℕ) (so_far : Narrowed h low high t) where
    numbered-fit : numbered_at marks values h ≡ numbered_of marks values h
    unfolding numbered_of
    numbered-fit = rw (fit_intro (length marks) (length values) so_far.few so_far.even)

    pub numbered-here :
        t < length marks
        → {b : Bool}
        → b ≡ open_at low high t
        → b ≡ true
        → count_below marks values (value_at values t) < h
        → h ≤ count_up_to marks values (value_at values t)
        → value_at values t ≡ numbered_of marks values h
    numbered-here room e f l m =
        let there = and_left (present_in marks t) _ (sym e ∙ f) in
        sym
        (numbered-value (present_in marks) (length marks) (value_at values) h two_to31 t room
        (numbered_intro (present_in marks) (length marks) (value_at values) h t there m l))
        ∙ numbered-fit

    pub numbered-all : length marks ≤ t → two_to31 ≡ numbered_of marks values h
    numbered-all l =
        sym
        (numbered-none (present_in marks) (length marks) (value_at values) h two_to31
        (λ j m. so_far.passed j (omega arith)))
        ∙ numbered-fit
