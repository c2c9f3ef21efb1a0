-- What sizes that fit are, and entries in their range. What one sender is heard to say, by its role.
-- Assumes nothing.
use mathlib.Core.Bool.{Bool, true, false, ◌&&◌}
use mathlib.Core.List.{List}
use mathlib.Core.Path.{◌≡◌, sym, ap, ◌∙◌}
use Prim.Native.Nat.{ℕ, ◌*◌, ◌≤◌, ◌<◌}
use native.Mathlib.Omega.{arith}
use borrow.Author.Tests.{leb-true, ltb-true, eqb-true}
use lib.Dec.{leb, ltb, eqb}
use lib.ListN.{length}
use Rattle.arithmetic.specs.Naturals.{down}
use Rattle.arithmetic.specs.Words.{two_to31}
use Rattle.arithmetic.specs.Writing.{table}
use Rattle.arithmetic.proofs.Bools.{and_left, and_right}
use Rattle.arithmetic.proofs.Shift.{up-down}
use Rattle.arithmetic.proofs.Writing.{length-table, overwrite-whole}
use Rattle.model.specs.Ensemble.{present, max_cabinets}
use Rattle.held.specs.Held.{entry_reading, held_mark, held_value}
use Rattle.model.specs.RoundSheet.{byte, word}
use Rattle.held_laws.specs.Stored.{Stored}
use Rattle.hearing.specs.Heard.{spoken, heard_from, audible, marks_heard, values_heard}

-- ---- one sender

module _ (role value : ℕ) (sent readings : List ℕ) (e : ℕ) where
  pub sound_speaks : eqb role 1 ≡ true → spoken role value sent readings e ≡ present (down two_to31 value)
  sound_speaks h = rw h

  pub faulty_speaks :
      eqb role 1 ≡ false
      → spoken role value sent readings e ≡ entry_reading (byte sent e) (word readings (4 * e))
  faulty_speaks h = rw h

  pub sound-value : eqb role 1 ≡ true → value ≡ held_value (spoken role value sent readings e)
  sound-value h = sym (up-down two_to31 value) ∙ ap held_value (sym (sound_speaks h))

-- ---- sizes

pub record Audible (n held sent readings p marks values : ℕ) : Type 0 where
  pub few : n ≤ max_cabinets
  pub one : p < n
  pub values-held : held ≡ n
  pub pairs : sent ≡ n * n
  pub bytes : readings ≡ 4 * (n * n)
  pub mark-room : marks ≡ n
  pub value_room : values ≡ n

module _ (n held sent readings p marks values : ℕ) where
  pub audible-fits : audible n held sent readings p marks values ≡ true → Audible n held sent readings p marks values
  unfolding audible
  audible-fits h =
      let a = leb n max_cabinets && ltb p n in
      let b = (eqb held n && eqb sent (n * n)) && eqb readings (4 * (n * n)) in
      let c = eqb marks n && eqb values n in
      let small = and_left a (b && c) h in
      let rest = and_right a (b && c) h in
      let lists = and_left b c rest in
      let rooms = and_right b c rest in
      let pair = and_left (eqb held n && eqb sent (n * n)) (eqb readings (4 * (n * n))) lists in
      record {
        few = leb-true n max_cabinets (and_left (leb n max_cabinets) (ltb p n) small);
        one = ltb-true p n (and_right (leb n max_cabinets) (ltb p n) small);
        values-held = eqb-true held n (and_left (eqb held n) (eqb sent (n * n)) pair);
        pairs = eqb-true sent (n * n) (and_right (eqb held n) (eqb sent (n * n)) pair);
        bytes =
            eqb-true readings (4 * (n * n))
            (and_right (eqb held n && eqb sent (n * n)) (eqb readings (4 * (n * n))) lists);
        mark-room = eqb-true marks n (and_left (eqb marks n) (eqb values n) rooms);
        value_room = eqb-true values n (and_right (eqb marks n) (eqb values n) rooms);
      }

-- ---- the lists that are left

module _ (roles held sent readings : List ℕ) (p : ℕ) (marks₀ values₀ : List ℕ) where
  abbrev pub fit : Bool
  fit = audible (length roles) (length held) (length sent) (length readings) p (length marks₀) (length values₀)

  pub marks-not : fit ≡ false → marks₀ ≡ marks_heard roles held sent readings p marks₀ values₀
  unfolding marks_heard
  marks-not h = rw h

  pub values-not : fit ≡ false → values₀ ≡ values_heard roles held sent readings p marks₀ values₀
  unfolding values_heard
  values-not h = rw h

  module _ (h : fit ≡ true) (marks values : List ℕ)
      (stored : Stored (heard_from roles held sent readings p) (length roles) marks₀ values₀ marks values) where
    fits : Audible (length roles) (length held) (length sent) (length readings) p (length marks₀) (length values₀)
    fits = audible-fits _ _ _ _ _ _ _ h

    pub marks-heard : marks ≡ marks_heard roles held sent readings p marks₀ values₀
    unfolding marks_heard
    marks-heard =
        rw h
        (stored.marked
        ∙ overwrite-whole (table (λ r. held_mark (heard_from roles held sent readings p r)) (length roles)) marks₀
        (let t = length-table (λ r. held_mark (heard_from roles held sent readings p r)) (length roles) in
        omega (arith, fits.mark-room)))

    pub values-heard : values ≡ values_heard roles held sent readings p marks₀ values₀
    unfolding values_heard
    values-heard =
        rw h
        (stored.valued
        ∙ overwrite-whole (table (λ r. held_value (heard_from roles held sent readings p r)) (length roles)) values₀
        (let t = length-table (λ r. held_value (heard_from roles held sent readings p r)) (length roles) in
        omega (arith, fits.value_room)))
