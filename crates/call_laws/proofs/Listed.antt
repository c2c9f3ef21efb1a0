-- Every refusal that a check gives has a number of the table, 1 to 19, whatever it is given. So where a function of the
-- code promises what such checks give, its refusal has a listed reason.
--   ListedNumber r       a refusal has one of those numbers
--   ListedCheck check    what the check refuses has
--   Each checks          each check of a list does so
--   ListedVerdict v      where the verdict is a refusal, it has
-- Assumes nothing.
use Rattle.std.proofs.Common.{◌≡◌, ℕ, zero, suc, ◌+◌, ◌*◌, ◌-◌, ◌≤◌, Bool, true, false, not, cond, ◌||◌, List, [], ◌∷◌, ◌++◌, length, min, leb, ltb, eqb, refl, sym, arith}
use Rattle.std.proofs.Math.Option.{Option, none, some}
use lib.IntN.{ℤ}
use Rattle.arithmetic.specs.Counting.{any_below, lowest}
use Rattle.arithmetic.proofs.Bools.{and_left, and_right}
use Rattle.model.specs.declared.Settings.{Settings}
use Rattle.model.specs.RoundSheet.{fca, byte, word, settings_at, entry_count, sheet_length, mark_at, bits_at, bits_in}
use Rattle.model.specs.AnswerSheet.{answer_length}
use Rattle.model.specs.Ensemble.{max_cabinets}
use Rattle.model.specs.Planner.{Plan, max_rounds, max_accuracy, max_step_accuracy, window_after}
use Rattle.model.specs.Steps.{round_at}
use Rattle.model.specs.Refusals.{Refusal, refusal, Check, or_next, first_of, bad_length, no_room, bad_mark, bad_missing, too_many_faults}
use Rattle.model.specs.Refusals.{settings_checks, planner_checks, sheet_checks, spread_checks, array_checks, entry_checks, read_checks}
use Rattle.model.specs.Refusals.{write_checks, row_checks, settle_checks, planning_checks, plan_checks, step_checks, target_checks}
use Rattle.model.specs.Calls.{Verdict, refused, verdict}
use Rattle.refusal_laws.proofs.Numbers.{Says, says_if, Plain, no_checks, check_more, each, short-says, length-says}
use Rattle.refusal_laws.proofs.Numbers.{room_says, faults-says, plan-says, target-says, cabinets_say, plain_settings, plain_planner, plain_sheet}
use Rattle.refusal_laws.proofs.Numbers.{plain_spread, mark-number, missing-number}
use Rattle.refusal_laws.proofs.Tables.{listed, says-sound}
use Rattle.sheet_laws.proofs.Outcomes.{refused-some}
use Rattle.sheet_sizes.specs.Bounds.{most_entries}
use Rattle.mark_checks.specs.Marks.{marks_in}
use Rattle.missing_search.specs.Missing.{missing_in}
use Rattle.answer_reader.specs.Fields.{answer_checks, cabinet_checks}
use Rattle.sheet_pairs.specs.Fallback.{Source, crusaders, direct, source_of, pair_checks, own_checks, fallback_checks}
use Rattle.sheet_pairs.proofs.Pairs.{pair-says}
use Rattle.interval.specs.Interval.{meets, searched, out_of_range, bad_interval, no_interval, interval_checks}
use Rattle.trace.specs.Trace.{rounds_at, trace_entries, traced_mark, traced_bits, trace_length}
use Rattle.trace.specs.Replay.{bad_trace, strange_role, sound_sent, bad_roles, refused_in, at_round, in_round, run_stopped, trace_checks, replay_checks}
use Rattle.trace_heads.specs.Heads.{head_checks}
use Rattle.sender_checks.specs.Senders.{sent_in}
use Rattle.role_checks.specs.Roles.{strange_in, roles_in}
use Rattle.playing.specs.Playing.{played_given}
use Rattle.limits.specs.Limits as limits
use Rattle.limits.specs.Limits.{stated, stated_after, bounds, wider_at}
use Rattle.refusals.specs.declared.Refusal as code
use Rattle.refusals.specs.Answers.{Listed, refusal_of}

abbrev pub ListedNumber : Refusal → Type 0
ListedNumber r = (1 ≤ r.number) × (r.number ≤ 19)

pub record ListedCheck (check : Check) : Type 0 where
  pub told : (r : Refusal) → check ≡ some r → ListedNumber r

-- ---- what checks are made of

pub none-listed : ListedCheck none
none-listed = record { told = λ r e. cc }

pub next-listed : (a b : Check) → ListedCheck a → ListedCheck b → ListedCheck (or_next a b)
next-listed none b x y = y
next-listed (some r) b x y = x

pub cond-listed : (b : Bool) {x y : Check} → ListedCheck x → ListedCheck y → ListedCheck (cond b x y)
cond-listed true x y = x
cond-listed false x y = y

-- a check that says a number of the table
pub says-listed : {number : ℕ} {x : Check} → Says number x → listed 19 number ≡ true → ListedCheck x
says-listed f h = record { told = λ r e. let t = (says-sound {most = 19} f h).told r e in (t.first, t.last) }

pub data Each : List Check → Type 0 where
  no-check : Each []
  one-more : {x : Check} {checks : List Check} → ListedCheck x → Each checks → Each (x ∷ checks)

pub each-append : {xs ys : List Check} → Each xs → Each ys → Each (xs ++ ys)
each-append no-check ys = ys
each-append (one-more x xs) ys = one-more x (each-append xs ys)

pub first-listed : {checks : List Check} → Each checks → ListedCheck (first_of checks)
unfolding first_of
first-listed no-check = none-listed
first-listed (one-more {x} {checks} h more) = next-listed x (first_of checks) h (first-listed more)

pub each-one : {x : Check} → ListedCheck x → Each (x ∷ [])
each-one x = one-more x no-check

-- checks that have no entry to point at
pub plain-each : {numbers : List ℕ} {checks : List Check} → Plain numbers checks → each (listed 19) numbers ≡ true → Each checks
unfolding each
plain-each no_checks h = no-check
plain-each (check_more {number} {x} {numbers} {checks} f p) h =
    one-more (says-listed f (and_left (listed 19 number) (each (listed 19) numbers) h))
    (plain-each p (and_right (listed 19 number) (each (listed 19) numbers) h))

-- ---- the checks of the table

pub length-listed : (given wanted : ℕ) → ListedCheck (bad_length given wanted)
length-listed given wanted = says-listed (length-says given wanted) refl

pub room-listed : (given wanted : ℕ) → ListedCheck (no_room given wanted)
room-listed given wanted = says-listed (room_says given wanted) refl

pub faults-listed : (accepted : ℕ) → ListedCheck (too_many_faults accepted)
faults-listed accepted = says-listed (faults-says accepted) refl

module _ (mark bits : ℕ → ℕ) (E : ℕ) where
  pub mark-listed : ListedCheck (bad_mark mark E)
  mark-listed = record { told = λ r e. let n = mark-number mark bits E r e in (omega (arith, n), omega (arith, n)) }

  pub missing-listed : ListedCheck (bad_missing mark bits E)
  missing-listed = record { told = λ r e. let n = missing-number mark bits E r e in (omega (arith, n), omega (arith, n)) }

  pub arrays-listed : Each (array_checks mark bits E)
  arrays-listed = one-more mark-listed (each-one missing-listed)

module _ (c : Settings) where
  pub settings-listed : Each (settings_checks c)
  settings-listed = plain-each (plain_settings c) (unfold each in refl)

  pub planner-listed : Each (planner_checks c)
  planner-listed = plain-each (plain_planner c) (unfold each in refl)

  planning-listed : (fails : Bool) → Each (planning_checks c fails)
  planning-listed fails = each-append planner-listed (each-one (says-listed (plan-says fails) refl))

  pub plan-listed : (κ k : ℕ) → Each (plan_checks c κ k)
  unfolding plan_checks
  plan-listed κ k = planning-listed (ltb max_accuracy κ || ltb max_rounds k)

  pub target-listed : (κ target : ℕ) → Each (target_checks c κ target)
  unfolding target_checks
  target-listed κ target =
      each-append planner-listed
      (one-more (says-listed (plan-says (ltb max_accuracy κ)) refl)
      (each-one (says-listed (target-says (window_after max_rounds c κ) target) refl)))

  pub write-listed : (marks : List ℕ) (readings : List ℤ) (buffer : ℕ) → Each (write_checks c marks readings buffer)
  unfolding write_checks
  write-listed marks readings buffer =
      each-append settings-listed
      (one-more (length-listed (length marks) (entry_count c))
      (one-more (length-listed (length readings) (entry_count c))
      (one-more (room-listed buffer (sheet_length c))
      (arrays-listed (byte marks) (bits_in readings) (entry_count c)))))

pub step-listed : (p : Plan) → Each (step_checks p)
unfolding step_checks
step-listed p = planning-listed p.settings (leb max_rounds p.rounds || ltb max_step_accuracy p.accuracy)

-- ---- a sheet

module _ (s : List ℕ) where
  pub sheet-listed : Each (sheet_checks s)
  sheet-listed = plain-each (plain_sheet s) (unfold each in refl)

  pub spread-listed : (D : ℕ) → Each (spread_checks s D)
  spread-listed D = plain-each (plain_spread s D) (unfold each in refl)

  pub entries-listed : Each (entry_checks s)
  unfolding entry_checks
  entries-listed = arrays-listed (mark_at s) (bits_at s (entry_count (settings_at s))) (entry_count (settings_at s))

  pub read-listed : (marks readings : ℕ) → Each (read_checks s marks readings)
  unfolding read_checks
  read-listed marks readings =
      each-append sheet-listed
      (one-more (room-listed marks (entry_count (settings_at s)))
      (one-more (room-listed readings (entry_count (settings_at s))) entries-listed))

  pub row-listed : Each (row_checks s)
  unfolding row_checks
  row-listed = each-append sheet-listed entries-listed

  pub settle-listed : (D answer : ℕ) → Each (settle_checks s D answer)
  unfolding settle_checks
  settle-listed D answer =
      each-append (spread-listed D)
      (one-more (room-listed answer (answer_length (settings_at s).n))
      (each-append entries-listed (each-one (faults-listed (round_at s D).count))))

-- ---- an answer sheet, two sheets, an interval

module _ (a : List ℕ) where
  pub answer-listed : Each (answer_checks a)
  unfolding answer_checks
  answer-listed =
      one-more (says-listed (cabinets_say (settings_at a)) refl)
      (each-one (length-listed (length a) (answer_length (byte a 0))))

  pub cabinet-listed : (r : ℕ) → Each (cabinet_checks a r)
  unfolding cabinet_checks
  cabinet-listed r = each-append answer-listed (each-one (room-listed (byte a 0) (r + 1)))

pub pair-listed : (a b : List ℕ) (answer : ℕ) → Each (pair_checks a b answer)
unfolding pair_checks
pair-listed a b answer =
    each-append (sheet-listed a)
    (each-append (sheet-listed b)
    (one-more (says-listed (pair-says (settings_at a) (settings_at b)) refl)
    (each-one (room-listed answer (answer_length (settings_at a).n)))))

own-listed : (source : Source) (b : List ℕ) → Each (own_checks source b)
own-listed crusaders b = no-check
own-listed direct b = each-append (entries-listed b) (each-one (faults-listed (round_at b 0).count))

pub fallback-listed : (a b : List ℕ) (answer : ℕ) → Each (fallback_checks a b answer)
unfolding fallback_checks
fallback-listed a b answer =
    each-append (pair-listed a b answer) (each-append (entries-listed a) (own-listed (source_of a) b))

pub interval-listed : (δ c r : ℕ) → Each (interval_checks δ c r)
unfolding interval_checks bad_interval no_interval
interval-listed δ c r =
    one-more (says-listed (says_if (out_of_range δ c r) 17) refl)
    (each-one (says-listed (says_if (not (any_below (meets δ c r) searched)) 18) refl))

-- ---- a trace

module _ (s : List ℕ) where
  form-listed : ListedCheck (bad_trace s)
  unfolding bad_trace
  form-listed =
      says-listed
      (says_if
      (not (eqb (settings_at s).rule fca)
      || (ltb max_rounds (rounds_at s) || not (eqb (length s) (trace_length (settings_at s).n (rounds_at s)))))
      13)
      refl

  pub head-listed : (room : ℕ) → Each (head_checks s room)
  unfolding head_checks
  head-listed room =
      each-append (one-more (says-listed (short-says s) refl) (settings-listed (settings_at s)))
      (one-more form-listed (each-one (room-listed room (4 * (settings_at s).n))))

  pub trace-listed : (buffer : ℕ) → Each (trace_checks s buffer)
  unfolding trace_checks bad_roles
  trace-listed buffer =
      each-append (one-more (says-listed (short-says s) refl) (settings-listed (settings_at s)))
      (one-more form-listed
      (one-more (room-listed buffer (4 * (settings_at s).n))
      (each-append
      (arrays-listed (traced_mark s (settings_at s).n) (traced_bits s (settings_at s).n (rounds_at s))
      (trace_entries (settings_at s).n (rounds_at s)))
      (each-one (says-listed (says_if (strange_role s || sound_sent s) 14) refl)))))

  round-listed : (k : ℕ) (o : Option ℕ) → ListedCheck (at_round k o)
  round-listed k none = none-listed
  round-listed k (some p) = record { told = λ r e. let same : 15 ≡ r.number = cc in (omega (arith, same), omega (arith, same)) }

  stopped-listed : (k : ℕ) → ListedCheck (run_stopped s k)
  unfolding run_stopped
  stopped-listed zero = none-listed
  stopped-listed (suc k) =
      next-listed (run_stopped s k) (in_round s k) (stopped-listed k)
      (round-listed k (lowest (refused_in s k) (settings_at s).n))

  pub replay-listed : (k buffer : ℕ) → Each (replay_checks s k buffer)
  unfolding replay_checks
  replay-listed k buffer = each-append (trace-listed buffer) (each-one (stopped-listed k))

-- ---- parts of a sheet or of a trace

pub marks-listed : (marks : List ℕ) → ListedCheck (marks_in marks)
unfolding marks_in
marks-listed marks =
    cond-listed (ltb most_entries (length marks)) none-listed (mark-listed (byte marks) (byte marks) (length marks))

pub missed-listed : (marks readings : List ℕ) → ListedCheck (missing_in marks readings)
unfolding missing_in
missed-listed marks readings =
    cond-listed (ltb most_entries (length marks) || not (eqb (length readings) (4 * length marks))) none-listed
    (missing-listed (byte marks) (λ e. word readings (4 * e)) (length marks))

pub roles-listed : (roles marks : List ℕ) → ListedCheck (roles_in roles marks)
unfolding roles_in
roles-listed roles marks = says-listed (says_if (strange_in roles || sent_in roles marks) 14) refl

-- ---- what the functions answer

pub record ListedVerdict {A : Type 0} (v : Verdict A) : Type 0 where
  pub told : (r : Refusal) → v ≡ refused r → ListedNumber r

pub verdict-listed : {A : Type 0} (check : Check) (a : A) → ListedCheck check → ListedVerdict (verdict check a)
verdict-listed check a h = record { told = λ r e. h.told r (refused-some check a r e) }

pub played-listed : (s : List ℕ) (most room held : ℕ) → ListedVerdict (played_given s most room held)
unfolding played_given
played-listed s most room held = go (ltb held max_cabinets)
  where
    checks : Check
    checks = first_of (replay_checks s (min most (rounds_at s)) room)

    go : (b : Bool) → ListedVerdict (cond b (refused (refusal 7 0)) (verdict checks (settings_at s)))
    go true = verdict-listed (some (refusal 7 0)) (settings_at s) (says-listed (says_if true 7) refl)
    go false = verdict-listed checks (settings_at s) (first-listed (replay-listed s (min most (rounds_at s)) room))

no_limit_refuses : {X : Type 0} (c : Settings) (κ t : ℕ) (r : Refusal) → bounds c κ t ≡ limits.refused r → X
unfolding bounds wider_at
no_limit_refuses {X} c κ t r = go (leb t c.m) (leb (c.n - c.m) t)
  where
    go : (a b : Bool) → cond a limits.planned (cond b limits.nothing (wider_at c κ t)) ≡ limits.refused r → X
    go true b e = cc
    go false true e = cc
    go false false e = cc

pub stated-listed : (c : Settings) (κ t : ℕ) (r : Refusal) → stated c κ t ≡ limits.refused r → ListedNumber r
unfolding stated
stated-listed c κ t r e = (first-listed (plan-listed c κ 0)).told r (go (first_of (plan_checks c κ 0)) e)
  where
    go : (check : Check) → stated_after check (bounds c κ t) ≡ limits.refused r → check ≡ some r
    go none e = no_limit_refuses c κ t r e
    go (some x) e = cc

-- the reason of what a function refuses, by what it promises
module _ (r : code.Refusal) where
  pub by-check : (check : Check) → some (refusal_of r) ≡ check → ListedCheck check → Listed r.reason
  by-check check e h = h.told (refusal_of r) (sym e)

  pub by-verdict : {A : Type 0} (v : Verdict A) → refused (refusal_of r) ≡ v → ListedVerdict v → Listed r.reason
  by-verdict v e h = h.told (refusal_of r) (sym e)
