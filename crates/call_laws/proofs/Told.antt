-- Every call's answer tells what it gives: a grant is below 2^32, and a refusal is 2^32 or above and gives back its
-- number, 1 to 12, and its place. A refusal has the place of an entry only where the settings pass, and these have at
-- most 4,096 entries.
-- Assumes nothing.
use mathlib.Core.Bool.{Bool, ◌||◌}
use mathlib.Core.List.{List}
use mathlib.Core.Option.{none, some}
use mathlib.Core.Path.{◌≡◌, refl, sym, ◌∙◌}
use Prim.Native.Nat.{ℕ, ◌+◌, ◌*◌, ◌≤◌, ◌<◌}
use native.Mathlib.Omega.{arith}
use lib.Dec.{ltb}
use lib.IntN.{ℤ}
use lib.ListN.{length}
use Rattle.arithmetic.specs.Words.{two_to32}
use Rattle.model.specs.declared.Settings.{Settings}
use Rattle.model.specs.RoundSheet.{byte, word, settings_at, entry_count}
use Rattle.model.specs.RoundSheet.{sheet_length, mark_at, bits_at, bits_in}
use Rattle.model.specs.AnswerSheet.{answer_length, answer_header_size}
use Rattle.model.specs.Planner.{Plan, plan_from, advance, after, window_after, max_accuracy, max_rounds}
use Rattle.model.specs.Refusals.{Check, first_of}
use Rattle.model.specs.Refusals.{bad_length, no_room}
use Rattle.model.specs.Refusals.{settings_checks, sheet_checks, entry_checks, planning_checks}
use Rattle.model.specs.Refusals.{read_checks, write_checks, settle_checks, plan_checks, step_checks, target_checks}
use Rattle.model.specs.Calls.{Verdict, granted, refused, verdict, read, write, settle_spread, settle, plan, step, Target}
use Rattle.refusal_laws.proofs.Checks.{first_snoc, next-none-left}
use Rattle.refusal_laws.proofs.Limits.{limits, entries-most}
use Rattle.refusal_laws.proofs.Numbers.{check_more, plain_append, plain_one, each}
use Rattle.refusal_laws.proofs.Numbers.{length-says, room_says, plan-says, target-says, cabinets_say}
use Rattle.refusal_laws.proofs.Numbers.{plain_settings, plain_planner, plain_sheet, plain_spread}
use Rattle.refusal_laws.proofs.Tables.{Sound, next-sound, says-sound, plain_sound, array_sound}
use Rattle.sheet_laws.proofs.Tables.{few-passed, spread-sound, settle-sound, settled-few}
use Rattle.sheet_laws.proofs.Words.{word_fits}
use Rattle.sheet_laws.proofs.Orders.{read-checks, write-checks}
use Rattle.planner_laws.proofs.Checks.{none-may-start, none-may-step}
use Rattle.planner_laws.proofs.Rounds.{rounds-after}
use Rattle.answer_reader.specs.Fields.{answer_checks, cabinet_checks, cabinets_in, count_in, estimate_in}
use Rattle.answer_reader.specs.Fields.{value_in, mark_in, used_in}
use Rattle.packed_refusals.specs.Answers.{packed}
use Rattle.packed_records.specs.Answers.{opening_of, planning_of}
use Rattle.call_laws.specs.Statements.{Tells, AnswerTells, FieldsTell, GrantsBelow, SpreadBelow}
use Rattle.call_laws.proofs.Sound.{refusal-tells, size-tells}

-- ---- The checks

module _ (c : Settings) where
  settings-sound : Sound 12 (first_of (settings_checks c))
  settings-sound = plain_sound (plain_settings c) (unfold each in refl)

  few-entries : first_of (settings_checks c) ≡ none → entry_count c ≤ 4096
  few-entries pass = entries-most c (limits c pass).cabinets

  planning-sound : (fails : Bool) → Sound 12 (first_of (planning_checks c fails))
  planning-sound fails =
      plain_sound (plain_append (plain_planner c) (plain_one (plan-says fails))) (unfold each in refl)

length-sound : (given wanted : ℕ) → Sound 12 (bad_length given wanted)
length-sound given wanted = says-sound (length-says given wanted) refl

room-sound : (given wanted : ℕ) → Sound 12 (no_room given wanted)
room-sound given wanted = says-sound (room_says given wanted) refl

module _ (s : List ℕ) where
  sheet-sound : Sound 12 (first_of (sheet_checks s))
  sheet-sound = plain_sound (plain_sheet s) (unfold each in refl)

  entries-sound : first_of (sheet_checks s) ≡ none → Sound 12 (first_of (entry_checks s))
  unfolding entry_checks
  entries-sound pass =
      let few = few-passed s pass in
      array_sound 12 refl refl (mark_at s) (bits_at s (entry_count (settings_at s))) (entry_count (settings_at s))
      (omega arith)

  read-sound : (marks readings : ℕ) → Sound 12 (first_of (read_checks s marks readings))
  read-sound marks readings =
      let E = entry_count (settings_at s) in
      rw (read-checks s marks readings)
      (next-sound (first_of (sheet_checks s)) _ sheet-sound λ pass.
      next-sound (no_room marks E) _ (room-sound marks E) λ _.
      next-sound (no_room readings E) _ (room-sound readings E) λ _.
      entries-sound pass)

write-sound : (c : Settings) (marks : List ℕ) (readings : List ℤ) (room : ℕ)
    → Sound 12 (first_of (write_checks c marks readings room))
write-sound c marks readings room =
    let E = entry_count c in
    rw (write-checks c marks readings room)
    (next-sound (first_of (settings_checks c)) _ (settings-sound c) λ pass.
    next-sound (bad_length (length marks) E) _ (length-sound (length marks) E) λ _.
    next-sound (bad_length (length readings) E) _ (length-sound (length readings) E) λ _.
    next-sound (no_room room (sheet_length c)) _ (room-sound room (sheet_length c)) λ _.
    let few = few-entries c pass in
    array_sound 12 refl refl (byte marks) (bits_in readings) E (omega arith))

target_sound : (c : Settings) (κ target : ℕ) → Sound 12 (first_of (target_checks c κ target))
unfolding target_checks
target_sound c κ target =
    plain_sound
    (plain_append (plain_planner c)
    (check_more (plan-says (ltb max_accuracy κ)) (plain_one (target-says (window_after max_rounds c κ) target))))
    (unfold each in refl)

-- ---- What is packed

opening_tells : (check : Check) (c : Settings) → Sound 12 check → (check ≡ none → entry_count c < two_to32)
    → AnswerTells (verdict check c) (opening_of (verdict check c)).answer
opening_tells none c t small = small refl
opening_tells (some r) c t small = refusal-tells r (t.told r refl)

planning-tells : (check : Check) (p : Plan) → Sound 12 check → (check ≡ none → p.rounds < two_to32)
    → AnswerTells (verdict check p) (planning_of (verdict check p)).answer
planning-tells none p t small = small refl
planning-tells (some r) p t small = refusal-tells r (t.told r refl)

-- settling with a spread, whose checks refuse under numbers up to some number
settling-tells :
    (most : ℕ) (s : List ℕ) (D : ℕ) (answer : List ℕ) → Sound most (first_of (settle_checks s D (length answer)))
    → Tells most (settle_spread s D answer).verdict (packed (settle_spread s D answer).verdict)
unfolding settle_spread
settling-tells most s D answer front =
    size-tells (first_of (settle_checks s D (length answer))) (answer_length (settings_at s).n) front λ pass.
    let cabinets = settled-few s D (length answer) pass in
    omega arith

settle-tells : (s answer : List ℕ) → AnswerTells (settle s answer).verdict (packed (settle s answer).verdict)
unfolding settle
settle-tells s answer = settling-tells 12 s 0 answer (settle-sound s (length answer))

pub spread-below : SpreadBelow
spread-below s D answer =
    settling-tells 16 s D answer
    (spread-sound 16 refl s D (plain_sound (plain_spread s D) (unfold each in refl)) (length answer))

read-tells : (s marks : List ℕ) (readings : List ℤ)
    → AnswerTells (read s marks readings).verdict (opening_of (read s marks readings).verdict).answer
unfolding read
read-tells s marks readings =
    let a = length marks in
    let b = length readings in
    opening_tells (first_of (read_checks s a b)) (settings_at s) (read-sound s a b) λ pass.
    let sizes = next-none-left (first_of (sheet_checks s)) _ (sym (read-checks s a b) ∙ pass) in
    let few = few-passed s sizes in
    omega arith

write-tells : (c : Settings) (marks : List ℕ) (readings : List ℤ) (buffer : List ℕ)
    → AnswerTells (write c marks readings buffer).verdict (packed (write c marks readings buffer).verdict)
unfolding write
write-tells c marks readings buffer =
    let room = length buffer in
    size-tells (first_of (write_checks c marks readings room)) (sheet_length c) (write-sound c marks readings room) λ pass.
    let sizes = next-none-left (first_of (settings_checks c)) _ (sym (write-checks c marks readings room) ∙ pass) in
    let few = few-entries c sizes in
    omega arith

plan-tells : (c : Settings) (κ k : ℕ) → AnswerTells (plan c κ k) (planning_of (plan c κ k)).answer
unfolding plan plan_checks
plan-tells c κ k =
    let fails = ltb max_accuracy κ || ltb max_rounds k in
    planning-tells (first_of (plan_checks c κ k)) (after k (plan_from c κ)) (planning-sound c fails) λ pass.
    let few = (none-may-start c κ k pass).few in
    let done = rounds-after k (plan_from c κ) in
    omega arith

step-tells : (p : Plan) → AnswerTells (step p) (planning_of (step p)).answer
unfolding step step_checks advance
step-tells p =
    planning-tells (first_of (step_checks p)) (advance p) (planning-sound p.settings _) λ pass.
    let early = (none-may-step p pass).early in
    omega arith

target-tells : (c : Settings) (κ target answer : ℕ) (v : Verdict ℕ) → answer ≡ packed v → Target c κ target v
    → AnswerTells v answer
target-tells c κ target answer (granted k) same t =
    let most = t.1.most in
    omega arith
target-tells c κ target answer (refused r) same t =
    rw same (refusal-tells r ((target_sound c κ target).told r t))

-- ---- the fields of an answer sheet

module _ (a : List ℕ) where
  answer-sound : Sound 12 (first_of (answer_checks a))
  unfolding answer_checks
  answer-sound =
      plain_sound
      (check_more (cabinets_say (settings_at a)) (plain_one (length-says (length a) (answer_length (byte a 0)))))
      (unfold each in refl)

  cabinet-sound : (r : ℕ) → Sound 12 (first_of (cabinet_checks a r))
  unfolding cabinet_checks
  cabinet-sound r =
      rw (first_snoc (answer_checks a) (no_room (byte a 0) (r + 1)))
      (next-sound (first_of (answer_checks a)) _ answer-sound λ _. room-sound (byte a 0) (r + 1))

  module _ (small : (i : ℕ) → byte a i < 256) where
    byte-below : (i : ℕ) → byte a i < two_to32
    byte-below i = let b = small i in omega arith

    fields_tell : (r : ℕ) → FieldsTell a r
    unfolding cabinets_in count_in estimate_in value_in mark_in used_in
    fields_tell r =
        let checks = first_of (cabinet_checks a r) in
        let mark = answer_header_size + r in
        let used = answer_header_size + byte a 0 + 4 * r in
        record {
          cabinets = size-tells (first_of (answer_checks a)) (byte a 0) answer-sound (λ _. byte-below 0);
          count = size-tells (first_of (answer_checks a)) (byte a 1) answer-sound (λ _. byte-below 1);
          estimate = size-tells (first_of (answer_checks a)) (word a 2) answer-sound (λ _. word_fits a 2 small);
          value = size-tells (first_of (answer_checks a)) (word a 6) answer-sound (λ _. word_fits a 6 small);
          mark = size-tells checks (byte a mark) (cabinet-sound r) (λ _. byte-below mark);
          used = size-tells checks (word a used) (cabinet-sound r) (λ _. word_fits a used small);
        }

pub grants-below : GrantsBelow
grants-below =
    record {
      settling = settle-tells;
      reading = read-tells;
      writing = write-tells;
      planning = plan-tells;
      stepping = step-tells;
      fields = λ a r small. fields_tell a small r;
      counting = λ c κ target answer t. target-tells c κ target answer t.verdict t.is_packed t.is_target;
    }
