-- Demand 1 holds: each call gives what the first of its checks that applies says, and a refusal leaves what was lent.
-- Assumes nothing.
use mathlib.Core.Bool.{◌||◌}
use mathlib.Core.List.{List, [], ◌∷◌, ◌++◌}
use mathlib.Core.Logic.{⊎_elim}
use mathlib.Core.Option.{none, some}
use mathlib.Core.Path.{◌≡◌, refl, ap}
use Prim.Native.Nat.{ℕ, ◌+◌, ◌≤◌}
use native.Mathlib.Nat.{le_refl}
use native.Mathlib.Omega.{arith}
use borrow.Author.Tests.{ltb-true, ltb-false}
use lib.Dec.{ltb, leb}
use lib.IntN.{ℤ}
use lib.ListN.{length}
use mir.Syntax.{w32}
use mir.Val.{to_z}
use Rattle.arithmetic.specs.Writing.{overwrite}
use Rattle.arithmetic.proofs.Bools.{both_ways}
use Rattle.arithmetic.proofs.Writing.{length-table, length-overwrite, take-overwrite, drop-overwrite}
use Rattle.model.specs.declared.Settings.{Settings}
use Rattle.model.specs.Refusals.{Refusal}
use Rattle.model.specs.RoundSheet.{byte, settings_at, entry_count, sheet_length, mark_at, bits_at, bits_in, sheet_bytes}
use Rattle.model.specs.AnswerSheet.{answer_length, answer_bytes}
use Rattle.model.specs.Steps.{round_at}
use Rattle.model.specs.Planner.{Plan, plan_from, advance, after, window_after, Reaches, max_accuracy, max_rounds}
use Rattle.model.specs.Planner.{max_step_accuracy}
use Rattle.model.specs.Refusals.{refusal, Check, first_of, no_room, bad_length, too_many_faults, target_missed_number}
use Rattle.model.specs.Refusals.{settings_checks, sheet_checks, spread_checks, entry_checks, read_checks, write_checks, row_checks}
use Rattle.model.specs.Refusals.{settle_checks, plan_checks, step_checks, target_checks}
use Rattle.model.specs.Calls.{Verdict, granted, refused, verdict, lent, marks_of, ticks_of, read, write, settle_spread}
use Rattle.model.specs.Calls.{plan, step, Target}
use Rattle.refusal_laws.proofs.Checks.{none-at}
use Rattle.refusal_laws.proofs.Numbers.{no_refusal, Plain, check_more, no_checks, plain_append, plain_one}
use Rattle.refusal_laws.proofs.Numbers.{plain_first, plain_settings, plain_planner, plain_sheet, plain_spread, length-says, room_says}
use Rattle.refusal_laws.proofs.Numbers.{faults-says}
use Rattle.refusal_laws.proofs.Numbers.{plan-says, target-says, each}
use Rattle.sheet_laws.proofs.Answer.{length-answer_bytes}
use Rattle.sheet_laws.proofs.Checks.{length-passed, room-passed}
use Rattle.sheet_laws.proofs.Outcomes.{refused-some, row-refused}
use Rattle.sheet_laws.proofs.Written.{written-length}
use Rattle.planner_laws.proofs.Targets.{start-refuses-target, target-missed, target-reached}
use Rattle.demand_1_2.specs.Demand1.{InOrder, Gives, Leaves, Placed}
use Rattle.demand_1_2.specs.Demand1.{OfSettle, OfRead, OfWrite, OfRow, OfPlan, OfStep, OfTarget, Demand1}
use Rattle.demand_1_2.proofs.Orders.{first-applies, applies-first}
use Rattle.demand_1_2.proofs.Orders.{plain_order}
use Rattle.demand_1_2.proofs.Orders.{entry-order, entry-placed}

-- ---- any call

module _ {A : Type 0} (checks : List Check) (a : A) where
  -- it gives what its first check says
  pub gives-first : Gives checks (λ b. b ≡ a) (verdict (first_of checks) a)
  gives-first = go (first_of checks) refl
    where
      go : (x : Check) → first_of checks ≡ x → Gives checks (λ b. b ≡ a) (verdict x a)
      go none e = (none-at checks e, refl)
      go (some r) e = first-applies checks r e

  -- and leaves what is new, or what was there
  pub leaves-first :
      {B : Type 0} (new before : List B) → (first_of checks ≡ none → length new ≤ length before)
      → Leaves (verdict (first_of checks) a) new before (lent (first_of checks) (overwrite new before) before)
  leaves-first new before room = go (first_of checks) refl
    where
      go : (x : Check) → first_of checks ≡ x → Leaves (verdict x a) new before (lent x (overwrite new before) before)
      go none e =
          record {
            start = take-overwrite new before;
            later = drop-overwrite new before;
            long = length-overwrite new before (room e);
          }
      go (some r) e = refl

-- ---- sheets

module _ (s : List ℕ) where
  abbrev E : ℕ
  E = entry_count (settings_at s)

  module _ (D : ℕ) (answer : List ℕ) where
    pub before-settle :
        Plain (1 ∷ 2 ∷ 3 ∷ 4 ∷ 5 ∷ 16 ∷ 6 ∷ 7 ∷ [])
        (spread_checks s D ++ (no_room (length answer) (answer_length (settings_at s).n) ∷ []))
    before-settle =
        plain_append (plain_spread s D) (plain_one (room_says (length answer) (answer_length (settings_at s).n)))

    behind-settle : Plain (10 ∷ []) (too_many_faults (round_at s D).count ∷ [])
    behind-settle = plain_one (faults-says (round_at s D).count)

    pub settle-order : InOrder (1 ∷ 2 ∷ 3 ∷ 4 ∷ 5 ∷ 16 ∷ 6 ∷ 7 ∷ 8 ∷ 9 ∷ 10 ∷ []) (settle_checks s D (length answer))
    unfolding settle_checks spread_checks settings_checks entry_checks
    settle-order = entry-order (mark_at s) (bits_at s E) E before-settle behind-settle

    settle-placed : (r : Refusal) → (settle_spread s D answer).verdict ≡ refused r → Placed (mark_at s) (bits_at s E) E r
    unfolding settle_spread settle_checks spread_checks settings_checks entry_checks each
    settle-placed r h =
        entry-placed (mark_at s) (bits_at s E) E before-settle behind-settle refl refl r
        (refused-some (first_of (settle_checks s D (length answer))) (answer_length (settings_at s).n) r h)

    settle-room :
        first_of (settle_checks s D (length answer)) ≡ none
        → length (answer_bytes (settings_at s).n (round_at s D)) ≤ length answer
    unfolding settle_checks spread_checks settings_checks entry_checks
    settle-room h =
        let room =
        room-passed (length answer) (answer_length (settings_at s).n)
        (none-at (settle_checks s D (length answer)) h 7) in
        let long = length-answer_bytes (settings_at s).n (round_at s D) in
        omega arith

    settling : OfSettle s D answer
    unfolding settle_spread
    settling =
        record {
          order = settle-order;
          gives = gives-first (settle_checks s D (length answer)) (answer_length (settings_at s).n);
          leaves =
              leaves-first (settle_checks s D (length answer)) (answer_length (settings_at s).n)
              (answer_bytes (settings_at s).n (round_at s D)) answer settle-room;
          place = settle-placed;
        }

  module _ (marks : List ℕ) (readings : List ℤ) where
    before-read :
        Plain (1 ∷ 2 ∷ 3 ∷ 4 ∷ 5 ∷ 6 ∷ 7 ∷ 7 ∷ [])
        (sheet_checks s ++ (no_room (length marks) E ∷ no_room (length readings) E ∷ []))
    before-read =
        plain_append (plain_sheet s)
        (check_more (room_says (length marks) E) (plain_one (room_says (length readings) E)))

    read-order : InOrder (1 ∷ 2 ∷ 3 ∷ 4 ∷ 5 ∷ 6 ∷ 7 ∷ 7 ∷ 8 ∷ 9 ∷ []) (read_checks s (length marks) (length readings))
    unfolding read_checks sheet_checks settings_checks entry_checks
    read-order = entry-order (mark_at s) (bits_at s E) E before-read no_checks

    read-placed : (r : Refusal) → (read s marks readings).verdict ≡ refused r → Placed (mark_at s) (bits_at s E) E r
    unfolding read read_checks sheet_checks settings_checks entry_checks each
    read-placed r h =
        entry-placed (mark_at s) (bits_at s E) E before-read no_checks refl refl r
        (refused-some (first_of (read_checks s (length marks) (length readings))) (settings_at s) r h)

    marks-room : first_of (read_checks s (length marks) (length readings)) ≡ none → length (marks_of s) ≤ length marks
    unfolding read_checks sheet_checks settings_checks entry_checks
    marks-room h =
        let room = room-passed (length marks) E (none-at (read_checks s (length marks) (length readings)) h 6) in
        let long = length-table (mark_at s) E in
        omega arith

    readings-room :
        first_of (read_checks s (length marks) (length readings)) ≡ none → length (ticks_of s) ≤ length readings
    unfolding read_checks sheet_checks settings_checks entry_checks
    readings-room h =
        let room = room-passed (length readings) E (none-at (read_checks s (length marks) (length readings)) h 7) in
        let long = length-table (λ e. to_z w32 (bits_at s E e)) E in
        omega arith

    reader : OfRead s marks readings
    unfolding read
    reader =
        record {
          order = read-order;
          gives = gives-first (read_checks s (length marks) (length readings)) (settings_at s);
          leaves_marks =
              leaves-first (read_checks s (length marks) (length readings)) (settings_at s) (marks_of s) marks
              marks-room;
          leaves_readings =
              leaves-first (read_checks s (length marks) (length readings)) (settings_at s) (ticks_of s) readings
              readings-room;
          place = read-placed;
        }

  row-order : InOrder (1 ∷ 2 ∷ 3 ∷ 4 ∷ 5 ∷ 6 ∷ 8 ∷ 9 ∷ []) (row_checks s)
  unfolding row_checks entry_checks
  row-order = entry-order (mark_at s) (bits_at s E) E (plain_sheet s) no_checks

  row-empty : OfRow s
  row-empty =
      record { order = row-order; empty = λ r h cabinet. row-refused s cabinet r (applies-first (row_checks s) r h) }

module _ (c : Settings) (marks : List ℕ) (readings : List ℤ) (buffer : List ℕ) where
  before-write :
      Plain (2 ∷ 3 ∷ 4 ∷ 5 ∷ 6 ∷ 6 ∷ 7 ∷ [])
      (settings_checks c
      ++ (bad_length (length marks) (entry_count c)
      ∷ bad_length (length readings) (entry_count c)
      ∷ no_room (length buffer) (sheet_length c)
      ∷ []))
  before-write =
      plain_append (plain_settings c)
      (check_more (length-says (length marks) (entry_count c))
      (check_more (length-says (length readings) (entry_count c)) (plain_one (room_says (length buffer) (sheet_length c)))))

  write-order : InOrder (2 ∷ 3 ∷ 4 ∷ 5 ∷ 6 ∷ 6 ∷ 7 ∷ 8 ∷ 9 ∷ []) (write_checks c marks readings (length buffer))
  unfolding write_checks settings_checks
  write-order = entry-order (byte marks) (bits_in readings) (entry_count c) before-write no_checks

  write-placed :
      (r : Refusal) → (write c marks readings buffer).verdict ≡ refused r
      → Placed (byte marks) (bits_in readings) (entry_count c) r
  unfolding write write_checks settings_checks each
  write-placed r h =
      entry-placed (byte marks) (bits_in readings) (entry_count c) before-write no_checks refl refl r
      (refused-some (first_of (write_checks c marks readings (length buffer))) (sheet_length c) r h)

  write-room :
      first_of (write_checks c marks readings (length buffer)) ≡ none
      → length (sheet_bytes c marks readings) ≤ length buffer
  unfolding write_checks settings_checks
  write-room h =
      let passed = none-at (write_checks c marks readings (length buffer)) h in
      let long =
      written-length c marks readings (length-passed (length marks) (entry_count c) (passed 4))
      (length-passed (length readings) (entry_count c) (passed 5)) in
      let room = room-passed (length buffer) (sheet_length c) (passed 6) in
      omega arith

  writer : OfWrite c marks readings buffer
  unfolding write
  writer =
      record {
        order = write-order;
        gives = gives-first (write_checks c marks readings (length buffer)) (sheet_length c);
        leaves =
            leaves-first (write_checks c marks readings (length buffer)) (sheet_length c) (sheet_bytes c marks readings)
            buffer
            write-room;
        place = write-placed;
      }

-- ---- the planner

-- the first refusal of plain checks has the place 0
plain_place : {ns : List ℕ} {xs : List Check} → Plain ns xs → (r : Refusal) → first_of xs ≡ some r → r.place ≡ 0
unfolding first_of
plain_place {ns} {xs} p r h =
    ⊎_elim
    (λ w. ap (λ (x : Refusal). x.place) w.1)
    (λ e. no_refusal e)
    (plain_first p [] r (rw mathlib.Core.List.append-nil h))

module _ (c : Settings) (κ : ℕ) where
  plain_plan : (k : ℕ) → Plain (2 ∷ 3 ∷ 4 ∷ 5 ∷ 11 ∷ []) (plan_checks c κ k)
  unfolding plan_checks
  plain_plan k = plain_append (plain_planner c) (plain_one (plan-says (ltb max_accuracy κ || ltb max_rounds k)))

  plans : (k : ℕ) → OfPlan c κ k
  unfolding plan
  plans k =
      record {
        order = plain_order (plain_plan k);
        gives = gives-first (plan_checks c κ k) (after k (plan_from c κ));
        place = λ r h.
            plain_place (plain_plan k) r (refused-some (first_of (plan_checks c κ k)) (after k (plan_from c κ)) r h);
      }

  module _ (target : ℕ) where
    plain_target : Plain (2 ∷ 3 ∷ 4 ∷ 5 ∷ 11 ∷ 12 ∷ []) (target_checks c κ target)
    unfolding target_checks
    plain_target =
        plain_append (plain_planner c)
        (check_more (plan-says (ltb max_accuracy κ)) (plain_one (target-says (window_after max_rounds c κ) target)))

    target-gives :
        (answer : Verdict ℕ) → Target c κ target answer → Gives (target_checks c κ target) (Reaches c κ target) answer
    target-gives (granted k) (e, fits) = (none-at (target_checks c κ target) e, fits)
    target-gives (refused r) e = first-applies (target_checks c κ target) r e

    -- 32 rounds reach a target that any count reaches
    target-some : (answer : Verdict ℕ) × Target c κ target answer
    target-some = go (first_of (plan_checks c κ 0)) refl
      where
        go : (x : Check) → first_of (plan_checks c κ 0) ≡ x → (answer : Verdict ℕ) × Target c κ target answer
        go (some r) e = (refused r, start-refuses-target c κ target e)
        go none e =
            ⊎_elim
            (λ t. (refused (refusal target_missed_number 0), target-missed c κ target e (ltb-true target (window_after max_rounds c κ) t)))
            (λ f.
            let fits = ltb-false target (window_after max_rounds c κ) f in
            (granted max_rounds, target-reached c κ target e max_rounds (le_refl max_rounds) fits))
            (both_ways (ltb target (window_after max_rounds c κ)))

    counts : OfTarget c κ target
    counts =
        record {
          order = plain_order plain_target;
          gives = target-gives;
          some = target-some;
          place = λ r h. plain_place plain_target r h;
        }

module _ (p : Plan) where
  plain_step : Plain (2 ∷ 3 ∷ 4 ∷ 5 ∷ 11 ∷ []) (step_checks p)
  unfolding step_checks
  plain_step =
      plain_append (plain_planner p.settings)
      (plain_one (plan-says (leb max_rounds p.rounds || ltb max_step_accuracy p.accuracy)))

  steps : OfStep p
  unfolding step
  steps =
      record {
        order = plain_order plain_step;
        gives = gives-first (step_checks p) (advance p);
        place = λ r h. plain_place plain_step r (refused-some (first_of (step_checks p)) (advance p) r h);
      }

-- ---- the statement

pub demand_1 : Demand1
demand_1 =
    record {
      of_settle = settling;
      of_read = reader;
      of_write = writer;
      of_row = row-empty;
      of_plan = plans;
      of_step = steps;
      of_target = counts;
    }
