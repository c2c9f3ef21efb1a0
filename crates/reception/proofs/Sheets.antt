-- The entries of a sheet in the parts that the code reads: the marks and the readings as sent, and each cabinet's
-- row of copies.
-- Assumes nothing.
use mathlib.Core.Bool.{true, false, cond, ◌&&◌}
use mathlib.Core.List.{List}
use mathlib.Core.Path.{◌≡◌, refl, sym, ap, ap₂, ◌∙◌}
use Prim.Native.Nat.{ℕ, ◌+◌, ◌*◌, ◌-◌, ◌/◌, ◌≤◌, ◌<◌}
use native.Mathlib.Nat.{le_of_eq}
use native.Mathlib.Omega.{arith}
use borrow.Author.Rules.{part_to_end}
use borrow.Author.Tests.{eq-eqb, ne_eqb, le-ltb, lt-leb, eqb-true, leb-true, ltb-true}
use lib.Dec.{eqb, leb, ltb}
use lib.ListN.{length, take, drop, length-drop}
use lib.Seq.{get_or-take, get_or-drop, length-take-le}
use mir.Syntax.{w32}
use mir.Val.{to_z}
use Rattle.arithmetic.specs.Writing.{table, overwrite}
use Rattle.arithmetic.proofs.Bools.{and_left, and_right}
use Rattle.arithmetic.proofs.Writing.{length-table, overwrite-whole, table_ext}
use Rattle.decision_laws.proofs.Decision.{decide_ext}
use Rattle.decision_laws.proofs.Rows.{read-direct, read-decided}
use Rattle.model.specs.declared.Settings.{Settings}
use Rattle.model.specs.Ensemble.{Reading, Readings, missing, present, max_cabinets}
use Rattle.model.specs.RoundSheet.{cca, byte, word, entry_count, entry_at, sheet_length, header_size}
use Rattle.model.specs.Steps.{decided_reading, decide_row}
use Rattle.sheet_laws.proofs.Words.{word_ext}
use Rattle.held.specs.Held.{held_mark, held_value}
use Rattle.decisions.specs.Rows.{copy_at, row_decision}
use Rattle.held_laws.specs.Stored.{Stored}
use Rattle.sent_readings.specs.Sizes.{readings_taken}
use Rattle.sent_readings.proofs.Sizes.{all-readings}
use Rattle.decided_readings.specs.Rows.{row_marks, row_bytes, row_reading, rows_taken}
use Rattle.decided_readings.proofs.Sizes.{all-rows}
use Rattle.decided_readings.proofs.Squares.{row_room}
use Rattle.reception.specs.Receiving.{reading_at, fitting, marks_received, values_received}

-- ---- bytes and words of a part

add_again : (j i b : ℕ) → j + i + b ≡ j + (i + b)
add_again j i b = omega arith

byte-part : (s : List ℕ) (j k i : ℕ) → i < k → byte (take k (drop j s)) i ≡ byte s (j + i)
byte-part s j k i h = get_or-take k (drop j s) i 0 h ∙ get_or-drop j s i 0

word-part : (s : List ℕ) (j k i : ℕ) → i + 4 ≤ k → word (take k (drop j s)) i ≡ word s (j + i)
word-part s j k i h =
    word_ext (take k (drop j s)) s i (j + i)
    (λ b l. byte-part s j k (i + b) (omega arith) ∙ ap (byte s) (sym (add_again j i b)))

word-rest : (s : List ℕ) (j i : ℕ) → word (drop j s) i ≡ word s (j + i)
word-rest s j i =
    word_ext (drop j s) s i (j + i) (λ b l. get_or-drop j s (i + b) 0 ∙ ap (byte s) (sym (add_again j i b)))

length_part : (s : List ℕ) (j k : ℕ) → j + k ≤ length s → length (take k (drop j s)) ≡ k
length_part s j k h = length-take-le k (drop j s) (rw (length-drop j s) (omega arith))

-- a part by its two ends
cut : (a k : ℕ) → a + k - a ≡ k
cut a k = omega arith

-- the marks and the readings of n entries, as the code cuts them
abbrev pub sent_marks : List ℕ → ℕ → List ℕ
sent_marks s n = take (header_size + n - header_size) (drop header_size s)

abbrev pub sent_bytes : List ℕ → ℕ → List ℕ
sent_bytes s n = take (header_size + n + 4 * n - (header_size + n)) (drop (header_size + n) s)

-- those of rows of n copies
abbrev pub relayed_marks : List ℕ → ℕ → List ℕ
relayed_marks s n = take (header_size + n * n - header_size) (drop header_size s)

abbrev pub relayed_bytes : List ℕ → ℕ → List ℕ
relayed_bytes s n = take (length s - (header_size + n * n)) (drop (header_size + n * n) s)

marks-long : (s : List ℕ) (n : ℕ) → header_size + n ≤ length s → length (sent_marks s n) ≡ n
marks-long s n h = rw (cut header_size n) (length_part s header_size n h)

-- four bytes for each mark
row-long :
    (s : List ℕ) (n : ℕ) → header_size + n + 4 * n ≤ length s → length (sent_bytes s n) ≡ 4 * length (sent_marks s n)
row-long s n h =
    rw (cut (header_size + n) (4 * n), marks-long s n (omega arith)) (length_part s (header_size + n) (4 * n) h)

-- entry e of a sheet, from a part of the marks and a part of the readings
entry-part :
    (s : List ℕ) (E j k i l e t : ℕ)
    → t < k
    → 4 * t + 4 ≤ l
    → header_size + e ≡ j + t
    → header_size + E + 4 * e ≡ i + 4 * t
    → entry_at s E e ≡ copy_at (take k (drop j s)) (take l (drop i s)) t
unfolding entry_at
entry-part s E j k i l e t ht hl a b =
    ap₂ (λ (mark bits : ℕ). cond (eqb mark 1) (present (to_z w32 bits)) missing)
    (ap (byte s) a ∙ sym (byte-part s j k t ht))
    (ap (word s) b ∙ sym (word-part s i l (4 * t) hl))

-- a row that fits is decided
row-fit :
    (need n : ℕ) (marks row : List ℕ)
    → length marks ≡ n
    → length row ≡ 4 * n
    → n ≤ max_cabinets
    → n / 2 < need
    → row_decision need marks row ≡ decide_row need n (copy_at marks row)
unfolding row_decision
row-fit need n marks row a b h most =
    rw (a, b, le-ltb max_cabinets n h, eq-eqb (4 * n) (4 * n) refl, lt-leb need (n / 2) most)

-- ---- the lists that hold readings which are the sheet's

-- a list as long as the table that is stored in it
stored-whole :
    (f g : ℕ → ℕ) (n : ℕ) (old : List ℕ)
    → length old ≡ n
    → ((r : ℕ) → r < n → f r ≡ g r)
    → overwrite (table f n) old ≡ table g n
stored-whole f g n old long e =
    overwrite-whole (table f n) old (le_of_eq (long ∙ sym (length-table f n))) ∙ table_ext f g n e

-- lists that are filled with the sheet's readings
pub record Filled (s : List ℕ) (c : Settings) (marks values : List ℕ) : Type 0 where
  pub marked : marks ≡ table (λ r. held_mark (reading_at s c r)) c.n
  pub valued : values ≡ table (λ r. held_value (reading_at s c r)) c.n

module _ (s : List ℕ) (c : Settings) (marks₀ values₀ marks₁ values₁ : List ℕ)
    (mark_room : length marks₀ ≡ c.n) (value_room : length values₀ ≡ c.n) where
  filled :
      (v : Readings)
      → ((r : ℕ) → r < c.n → reading_at s c r ≡ v r)
      → Stored v c.n marks₀ values₀ marks₁ values₁
      → Filled s c marks₁ values₁
  filled v same st =
      record {
        marked = st.marked ∙ here held_mark marks₀ mark_room;
        valued = st.valued ∙ here held_value values₀ value_room;
      }
    where
      here :
          (hold : Reading → ℕ) (old : List ℕ)
          → length old ≡ c.n
          → overwrite (table (λ r. hold (v r)) c.n) old ≡ table (λ r. hold (reading_at s c r)) c.n
      here hold old room =
          stored-whole (λ r. hold (v r)) (λ r. hold (reading_at s c r)) c.n old room
          (λ r l. ap hold (sym (same r l)))

  -- FCA: the marks and the readings as they stand
  module _ (b : eqb c.rule cca ≡ false) (long : header_size + c.n + 4 * c.n ≤ length s) where
    direct-copies :
        (r : ℕ)
        → r < c.n
        → reading_at s c r
        ≡ copy_at (take c.n (drop header_size s)) (take (4 * c.n) (drop (header_size + c.n) s)) r
    unfolding entry_count
    direct-copies r l =
        read-direct c (entry_at s (entry_count c)) r b
        ∙ rw b
        (entry-part s c.n header_size c.n (header_size + c.n) (4 * c.n) r r l (omega arith) refl refl)

    -- all of them are taken
    all-sent :
        readings_taken (length (sent_marks s c.n)) (length (sent_bytes s c.n)) (length marks₀) (length values₀) ≡ c.n
    all-sent =
        let few = marks-long s c.n (omega arith) in
        let four = row-long s c.n long in
        all-readings (length (sent_marks s c.n)) (length (sent_bytes s c.n)) (length marks₀) (length values₀)
        (omega arith)
        (omega arith)
        (omega arith)
        ∙ few

    pub direct-filled :
        Stored (copy_at (sent_marks s c.n) (sent_bytes s c.n))
        (readings_taken (length (sent_marks s c.n)) (length (sent_bytes s c.n)) (length marks₀) (length values₀))
        marks₀
        values₀
        marks₁
        values₁
        → Filled s c marks₁ values₁
    direct-filled st =
        filled (copy_at (take c.n (drop header_size s)) (take (4 * c.n) (drop (header_size + c.n) s))) direct-copies
        (rw (cut header_size c.n, cut (header_size + c.n) (4 * c.n)) at (rw all-sent at st))

  -- CCA: the row of each cabinet
  module _ (b : eqb c.rule cca ≡ true) (few : 2 * c.m < c.n) (small : c.n ≤ max_cabinets)
      (long : length s ≡ header_size + 5 * (c.n * c.n)) where
    square : ℕ
    square = c.n * c.n

    marks : List ℕ
    marks = take square (drop header_size s)

    bytes : List ℕ
    bytes = drop (header_size + square) s

    copies :
        (r t : ℕ)
        → r < c.n
        → t < c.n
        → entry_at s square (r * c.n + t) ≡ copy_at (row_marks marks c.n r) (row_bytes bytes c.n r) t
    unfolding entry_at marks bytes square
    copies r t l h =
        let room = row_room r c.n l in
        ap₂ (λ (mark bits : ℕ). cond (eqb mark 1) (present (to_z w32 bits)) missing)
        (sym
        (byte-part marks (r * c.n) c.n t h ∙ byte-part s header_size square (r * c.n + t) (omega arith)))
        (sym
        (word-part bytes (4 * (r * c.n)) (4 * c.n) (4 * t) (omega arith)
        ∙ word-rest s (header_size + square) (4 * (r * c.n) + 4 * t)
        ∙ ap (word s) (behind (r * c.n) square t)))
      where
        behind : (a b t : ℕ) → header_size + b + (4 * a + 4 * t) ≡ header_size + b + 4 * (a + t)
        behind a b t = omega arith

    row-decided : (r : ℕ) → r < c.n → reading_at s c r ≡ row_reading marks bytes c.n (c.n - c.m) r
    unfolding entry_count marks bytes square
    row-decided r l =
        let room = row_room r c.n l in
        let all-marks = length_part s header_size square (omega arith) in
        let all-bytes = length-drop (header_size + square) s in
        let long-marks = length_part marks (r * c.n) c.n (omega arith) in
        let long-bytes = length_part bytes (4 * (r * c.n)) (4 * c.n) (omega arith) in
        read-decided c (entry_at s (entry_count c)) r b
        ∙ ap decided_reading
        (ap (λ (E : ℕ). decide_row need c.n (λ t. entry_at s E (r * c.n + t))) entries
        ∙ decide_ext need c.n (λ t. entry_at s square (r * c.n + t))
        (copy_at (row_marks marks c.n r) (row_bytes bytes c.n r))
        (λ t h. copies r t l h)
        ∙ sym
        (row-fit need c.n (row_marks marks c.n r) (row_bytes bytes c.n r) long-marks long-bytes small
        (half c.n c.m few)))
      where
        need : ℕ
        need = c.n - c.m

        entries : entry_count c ≡ square
        entries = rw b

        half : (n m : ℕ) → 2 * m < n → n / 2 < n - m
        half n m h = omega arith

    -- all of them are taken
    all-relayed :
        rows_taken c.n (length (relayed_marks s c.n)) (length (relayed_bytes s c.n)) (length marks₀)
        (length values₀)
        ≡ c.n
    all-relayed =
        let cut-marks = cut header_size (c.n * c.n) in
        let all-marks = length_part s header_size (c.n * c.n) (omega arith) in
        let all-bytes = ap length (part_to_end s (header_size + c.n * c.n)) ∙ length-drop (header_size + c.n * c.n) s in
        all-rows c.n (length (relayed_marks s c.n)) (length (relayed_bytes s c.n)) (length marks₀)
        (length values₀)
        small
        (rw cut-marks (omega arith))
        (omega arith)
        (omega arith)
        (omega arith)

    pub relayed-filled :
        Stored (row_reading (relayed_marks s c.n) (relayed_bytes s c.n) c.n (c.n - c.m))
        (rows_taken c.n (length (relayed_marks s c.n)) (length (relayed_bytes s c.n)) (length marks₀)
        (length values₀))
        marks₀
        values₀
        marks₁
        values₁
        → Filled s c marks₁ values₁
    unfolding marks bytes square
    relayed-filled st =
        filled (row_reading marks bytes c.n (c.n - c.m)) row-decided
        (rw (cut header_size (c.n * c.n), part_to_end s (header_size + c.n * c.n)) at (rw all-relayed at st))

-- ---- sizes that fit

pub record Fit (c : Settings) (sheet marks values : ℕ) : Type 0 where
  pub small : c.n ≤ max_cabinets
  pub few : 2 * c.m < c.n
  pub long : sheet ≡ sheet_length c
  pub mark_room : marks ≡ c.n
  pub value_room : values ≡ c.n

pub fit : (c : Settings) (sheet marks values : ℕ) → fitting c sheet marks values ≡ true → Fit c sheet marks values
unfolding fitting
fit c sheet marks values e =
    let a = and_left (leb c.n max_cabinets && ltb (2 * c.m) c.n) _ e in
    let b = and_right (leb c.n max_cabinets && ltb (2 * c.m) c.n) _ e in
    let lists = and_right (eqb sheet (sheet_length c)) (eqb marks c.n && eqb values c.n) b in
    record {
      small = leb-true c.n max_cabinets (and_left (leb c.n max_cabinets) _ a);
      few = ltb-true (2 * c.m) c.n (and_right (leb c.n max_cabinets) (ltb (2 * c.m) c.n) a);
      long = eqb-true sheet (sheet_length c) (and_left (eqb sheet (sheet_length c)) _ b);
      mark_room = eqb-true marks c.n (and_left (eqb marks c.n) _ lists);
      value_room = eqb-true values c.n (and_right (eqb marks c.n) (eqb values c.n) lists);
    }

-- what is left in the lists, by what the sizes are
pub record Left (s : List ℕ) (c : Settings) (marks₀ values₀ marks values : List ℕ) : Type 0 where
  pub marked : marks ≡ marks_received s c marks₀ values₀
  pub valued : values ≡ values_received s c marks₀ values₀

pub entries_relayed : (c : Settings) → c.rule ≡ cca → entry_count c ≡ c.n * c.n
unfolding entry_count
entries_relayed c e = rw (eq-eqb c.rule cca e)

pub entries_direct : (c : Settings) → (c.rule ≡ cca → ⊥) → entry_count c ≡ c.n
unfolding entry_count
entries_direct c d = rw (ne_eqb c.rule cca d)

module _ (s : List ℕ) (c : Settings) (marks₀ values₀ : List ℕ) where
  pub left_as_were : false ≡ fitting c (length s) (length marks₀) (length values₀) → Left s c marks₀ values₀ marks₀ values₀
  unfolding marks_received values_received
  left_as_were e = record { marked = rw (sym e); valued = rw (sym e) }

  module _ (e : true ≡ fitting c (length s) (length marks₀) (length values₀)) (marks values : List ℕ) where
    here : Fit c (length s) (length marks₀) (length values₀)
    here = fit c (length s) (length marks₀) (length values₀) (sym e)

    left_filled : Filled s c marks values → Left s c marks₀ values₀ marks values
    unfolding marks_received values_received
    left_filled f = record { marked = f.marked ∙ rw (sym e); valued = f.valued ∙ rw (sym e) }

    pub left_direct :
        (c.rule ≡ cca → ⊥)
        → Stored (copy_at (sent_marks s c.n) (sent_bytes s c.n))
        (readings_taken (length (sent_marks s c.n)) (length (sent_bytes s c.n)) (length marks₀) (length values₀))
        marks₀
        values₀
        marks
        values
        → Left s c marks₀ values₀ marks values
    left_direct d st =
        left_filled
        (direct-filled s c marks₀ values₀ marks values here.mark_room here.value_room (ne_eqb c.rule cca d)
        (omega (arith, here.long, entries_direct c d))
        st)

    pub left_relayed :
        c.rule ≡ cca
        → Stored (row_reading (relayed_marks s c.n) (relayed_bytes s c.n) c.n (c.n - c.m))
        (rows_taken c.n (length (relayed_marks s c.n)) (length (relayed_bytes s c.n)) (length marks₀)
        (length values₀))
        marks₀
        values₀
        marks
        values
        → Left s c marks₀ values₀ marks values
    left_relayed r st =
        left_filled
        (relayed-filled s c marks₀ values₀ marks values here.mark_room here.value_room (eq-eqb c.rule cca r) here.few
        here.small
        (omega (arith, here.long, entries_relayed c r))
        st)
