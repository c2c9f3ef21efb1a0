-- Document 01, "Rounds on paper": cases 1 to 12 as questions with their answers, in its order; those of cases 1, 5, 11
-- and 12 as document 02's "Paper 4. Halves go to the even tick" has them. `proofs/Cases.antt` has the theorem that the
-- definitions give these answers, computed by the checker.
--   Question, ask    what a case asks, and what the definitions answer
--   Case, cases      a question with the answer that the documents give it, and the table of them
--   sheet1, listing1 case 1's sheet in bytes, and the listing of it: document 01's, with document 02's new value
--   rows_shown        what the row accessor shows of case 1's and of case 10's sheet
--   halves           document 02, request 4: more halves, and windows that stand still
--   trimmed_shown     document 02, request 5: rounds by rules 2 and 3
use Rattle.std.specs.Prelude.{List, [], ◌∷◌, ◌++◌, map, ℕ, ◌-◌, get_or, ℤ, pos, negsuc, nat_abs, ◌-ℤ◌}
use Rattle.std.proofs.Math.Option.{none, some}
use Rattle.arithmetic.specs.Writing.{table}
use Rattle.model.specs.declared.Settings.{Settings}
use Rattle.model.specs.Ensemble.{Reading, missing, present, ticks}
use Rattle.model.specs.RoundSheet.{fca, cca, trimmed_midpoint, trimmed_mean, average, median, midpoint, sheet_bytes}
use Rattle.model.specs.Steps.{Decision, decided, known_faulty, decide_row, Round, readings_of, round_by}
use Rattle.model.specs.Planner.{plan_from, after, ceil_div}
use Rattle.model.specs.Refusals.{Check, first_of, too_many_faults, target_checks}
use Rattle.model.specs.Calls.{row}

pub data Question : Type 0 where
  -- the count, the estimate and the new value of a round
  round : Settings → List Reading → Question
  -- its count and its new value
  counted : Settings → List Reading → Question
  -- its new value alone
  settled : Settings → List Reading → Question
  -- the value used for a cabinet, and the new value
  replaced : Settings → List Reading → ℕ → Question
  -- how far the new values of two rounds are apart, and beside it a quotient rounded up
  gap : Settings → List Reading → List Reading → ℕ → ℕ → Question
  -- the decision of a row at N and m
  decision : ℕ → ℕ → List Reading → Question
  -- the window and the accuracy after some rounds
  planned : Settings → ℕ → ℕ → Question
  -- whether a target is granted
  target : Settings → ℕ → ℕ → Question

pub data Answer : Type 0 where
  gives : List ℤ → Answer
  faulty : Answer
  grants : Answer
  refuses : ℕ → Answer

abbrev pub of_check : Check → Answer → Answer
of_check none a = a
of_check (some r) a = refuses r.number

abbrev pub of_decision : Decision → Answer
of_decision (decided z) = gives (z ∷ [])
of_decision known_faulty = faulty

-- the round that a list of entries makes, with a spread; without one
abbrev pub spread_from : Settings → ℕ → List Reading → Round
spread_from c D entries = round_by c D (readings_of c (λ e. get_or entries e missing))

abbrev pub round_from : Settings → List Reading → Round
round_from c entries = spread_from c 0 entries

unfoldable pub of_round : Round → List ℤ → Answer
of_round r shown = of_check (too_many_faults r.count) (gives shown)

unfoldable pub ask : Question → Answer
ask (round c es) =
    of_round (round_from c es) (pos (round_from c es).count ∷ (round_from c es).estimate ∷ (round_from c es).value ∷ [])
ask (counted c es) = of_round (round_from c es) (pos (round_from c es).count ∷ (round_from c es).value ∷ [])
ask (settled c es) = of_round (round_from c es) ((round_from c es).value ∷ [])
ask (replaced c es r) = of_round (round_from c es) ((round_from c es).used r ∷ (round_from c es).value ∷ [])
ask (gap c es fs a n) =
    of_check (too_many_faults (round_from c es).count)
    (of_round (round_from c fs) (pos (nat_abs ((round_from c es).value -ℤ (round_from c fs).value)) ∷ pos (ceil_div a n) ∷ []))
ask (decision n m copies) = of_decision (decide_row (n - m) n (λ s. get_or copies s missing))
ask (planned c κ k) =
    gives (pos (after k (plan_from c κ)).settings.window ∷ pos (after k (plan_from c κ)).accuracy ∷ [])
ask (target c κ t) = of_check (first_of (target_checks c κ t)) grants

pub record Case : Type 0 where
  pub number : ℕ
  pub asks : Question
  pub answer : Answer

abbrev pub case : ℕ → Question → Answer → Case
case number asks answer = record { number = number; asks = asks; answer = answer }

-- N, m, the rule, the estimator and the window
abbrev pub settings : ℕ → ℕ → ℕ → ℕ → ℕ → Settings
settings n m rule estimator window = record { n = n; m = m; rule = rule; estimator = estimator; window = window }

-- a present reading, at or above 0; a present reading below 0
abbrev pub at : ℕ → Reading
at x = present (pos x)

abbrev pub minus : ℕ → Reading
minus x = present (negsuc (x - 1))

-- "Plan, N 4, m 1, FCA, δ 100, κ 100"
abbrev pub plan11 : Settings
plan11 = settings 4 1 fca median 100

-- the readings of cases 7 and 8
abbrev pub readings7 : List Reading
readings7 = at 0 ∷ at 0 ∷ at 10 ∷ at 10 ∷ at 10 ∷ at 20 ∷ at 20 ∷ []

abbrev pub readings8 : List Reading
readings8 = at 0 ∷ at 0 ∷ at 10 ∷ at 10 ∷ at 10 ∷ at 20 ∷ at 0 ∷ []

-- case 10's rows: three cabinets whose copies agree, and the copies of cabinet 3
abbrev pub rows10 : List Reading → List Reading
rows10 last =
    minus 10 ∷ minus 10 ∷ minus 10 ∷ minus 10
    ∷ at 0 ∷ at 0 ∷ at 0 ∷ at 0
    ∷ at 10 ∷ at 10 ∷ at 10 ∷ at 10
    ∷ last

unfoldable pub cases : List Case
cases =
    -- 1: count 3, estimate 4, new 4 (18/4)
    case 1 (round (settings 4 1 fca median 10) (at 0 ∷ at 4 ∷ at 10 ∷ at 500 ∷ [])) (gives (pos 3 ∷ pos 4 ∷ pos 4 ∷ []))
    -- 2: as 1, δ 9: refusal 10
    ∷ case 2 (round (settings 4 1 fca median 9) (at 0 ∷ at 4 ∷ at 10 ∷ at 500 ∷ [])) (refuses 10)
    -- 3: as 1, midpoint: estimate 5, new 5 (19/4)
    ∷ case 3 (round (settings 4 1 fca midpoint 10) (at 0 ∷ at 4 ∷ at 10 ∷ at 500 ∷ []))
    (gives (pos 3 ∷ pos 5 ∷ pos 5 ∷ []))
    -- 4: N 1, m 0, δ 0; -3: new -3
    ∷ case 4 (settled (settings 1 0 fca median 0) (minus 3 ∷ [])) (gives (negsuc 2 ∷ []))
    -- 5: N 2, m 0, δ 1; -1, 0: new 0. With 0, 1: new 0
    ∷ case 5 (settled (settings 2 0 fca median 1) (minus 1 ∷ at 0 ∷ [])) (gives (pos 0 ∷ []))
    ∷ case 5 (settled (settings 2 0 fca median 1) (at 0 ∷ at 1 ∷ [])) (gives (pos 0 ∷ []))
    -- 6: N 5, m 1, δ 20; 0, 0, 10, 20, 30: new 6. With 40, 40, 10, 20, 30: new 32
    ∷ case 6 (settled (settings 5 1 fca median 20) (at 0 ∷ at 0 ∷ at 10 ∷ at 20 ∷ at 30 ∷ [])) (gives (pos 6 ∷ []))
    ∷ case 6 (settled (settings 5 1 fca median 20) (at 40 ∷ at 40 ∷ at 10 ∷ at 20 ∷ at 30 ∷ [])) (gives (pos 32 ∷ []))
    -- 7: N 7, m 2, δ 10; 0, 0, 10, 10, 10, 20, 20: all accepted, new 10
    ∷ case 7 (counted (settings 7 2 fca median 10) readings7) (gives (pos 7 ∷ pos 10 ∷ []))
    -- 8: as 7, last reading 0: 20 replaced by 0, new 4. The gap from 7 is 6 = ⌈40/7⌉
    ∷ case 8 (replaced (settings 7 2 fca median 10) readings8 5) (gives (pos 0 ∷ pos 4 ∷ []))
    ∷ case 8 (gap (settings 7 2 fca median 10) readings7 readings8 40 7) (gives (pos 6 ∷ pos 6 ∷ []))
    -- 9: row, N 4, m 1: 7, 7, 7, 9 gives 7; 7, 7, 9, 9 is known faulty
    ∷ case 9 (decision 4 1 (at 7 ∷ at 7 ∷ at 7 ∷ at 9 ∷ [])) (gives (pos 7 ∷ []))
    ∷ case 9 (decision 4 1 (at 7 ∷ at 7 ∷ at 9 ∷ at 9 ∷ [])) faulty
    -- 10: CCA, N 4, m 1, δ 20, decided -10, 0, 10, known faulty: new 0. With 20 for the last: new 5
    ∷ case 10 (settled (settings 4 1 cca median 20) (rows10 (at 20 ∷ at 20 ∷ missing ∷ missing ∷ [])))
    (gives (pos 0 ∷ []))
    ∷ case 10 (settled (settings 4 1 cca median 20) (rows10 (at 20 ∷ at 20 ∷ at 20 ∷ missing ∷ [])))
    (gives (pos 5 ∷ []))
    -- 11: plan, N 4, m 1, FCA, δ 100, κ 100: windows 51, 26, 14; κ 125, 138, 145
    ∷ case 11 (planned plan11 100 1) (gives (pos 51 ∷ pos 125 ∷ []))
    ∷ case 11 (planned plan11 100 2) (gives (pos 26 ∷ pos 138 ∷ []))
    ∷ case 11 (planned plan11 100 3) (gives (pos 14 ∷ pos 145 ∷ []))
    -- 12: that plan, targets 0 and 1: refusal 12; target 2: granted
    ∷ case 12 (target plan11 100 0) (refuses 12)
    ∷ case 12 (target plan11 100 1) (refuses 12)
    ∷ case 12 (target plan11 100 2) grants
    ∷ []

-- ---- The listing of case 1, and the rows of a sheet

-- case 1's sheet, in bytes
unfoldable pub sheet1 : List ℕ
sheet1 = sheet_bytes (settings 4 1 fca median 10) (1 ∷ 1 ∷ 1 ∷ 1 ∷ []) (pos 0 ∷ pos 4 ∷ pos 10 ∷ pos 500 ∷ [])

-- its lines: `round 4 3 4 4`, `0 1 0`, `1 1 4`, `2 1 10`, `3 2 4`
unfoldable pub listing1 : List ℕ
listing1 =
    114 ∷ 111 ∷ 117 ∷ 110 ∷ 100 ∷ 32 ∷ 52 ∷ 32 ∷ 51 ∷ 32 ∷ 52 ∷ 32 ∷ 52 ∷ 10
    ∷ 48 ∷ 32 ∷ 49 ∷ 32 ∷ 48 ∷ 10
    ∷ 49 ∷ 32 ∷ 49 ∷ 32 ∷ 52 ∷ 10
    ∷ 50 ∷ 32 ∷ 49 ∷ 32 ∷ 49 ∷ 48 ∷ 10
    ∷ 51 ∷ 32 ∷ 50 ∷ 32 ∷ 52 ∷ 10 ∷ []

-- case 10's sheet, with 20 for the last
unfoldable pub sheet10 : List ℕ
sheet10 =
    sheet_bytes (settings 4 1 cca median 20)
    (1 ∷ 1 ∷ 1 ∷ 1 ∷ 1 ∷ 1 ∷ 1 ∷ 1 ∷ 1 ∷ 1 ∷ 1 ∷ 1 ∷ 1 ∷ 1 ∷ 1 ∷ 0 ∷ [])
    (map ticks (rows10 (at 20 ∷ at 20 ∷ at 20 ∷ missing ∷ [])))

-- the rows that the accessor shows: for FCA a cabinet's four bytes, for CCA its N readings, for a number of N or above
-- nothing
unfoldable pub rows_shown : List (List ℕ)
rows_shown = row sheet1 0 ∷ row sheet1 3 ∷ row sheet1 4 ∷ row sheet10 0 ∷ row sheet10 3 ∷ row sheet10 4 ∷ []

unfoldable pub rows_wanted : List (List ℕ)
rows_wanted =
    (0 ∷ 0 ∷ 0 ∷ 0 ∷ [])
    ∷ (244 ∷ 1 ∷ 0 ∷ 0 ∷ [])
    ∷ []
    ∷ (246 ∷ 255 ∷ 255 ∷ 255 ∷ 246 ∷ 255 ∷ 255 ∷ 255 ∷ 246 ∷ 255 ∷ 255 ∷ 255 ∷ 246 ∷ 255 ∷ 255 ∷ 255 ∷ [])
    ∷ (20 ∷ 0 ∷ 0 ∷ 0 ∷ 20 ∷ 0 ∷ 0 ∷ 0 ∷ 20 ∷ 0 ∷ 0 ∷ 0 ∷ 0 ∷ 0 ∷ 0 ∷ 0 ∷ [])
    ∷ []
    ∷ []

-- ---- Document 02, request 2: N 4, m 1, a window of 1 and a spread of 2

-- the count and the new value of the readings 0, 0, 0, -3, and of 2, 2, 2, 5
unfoldable pub spread_shown : List ℤ
spread_shown =
    let low = spread_from (settings 4 1 fca median 1) 2 (at 0 ∷ at 0 ∷ at 0 ∷ minus 3 ∷ []) in
    let high = spread_from (settings 4 1 fca median 1) 2 (at 2 ∷ at 2 ∷ at 2 ∷ at 5 ∷ []) in
    pos low.count ∷ low.value ∷ pos high.count ∷ high.value ∷ []

unfoldable pub spread_wanted : List ℤ
spread_wanted = pos 4 ∷ negsuc 0 ∷ pos 4 ∷ pos 3 ∷ []

-- ---- Document 02, request 4: "The mean's half now goes to the even neighbour"

-- none of document 01's cases, so number 0
unfoldable pub halves : List Case
halves =
    -- N 2, m 0, δ 1; 1, 2: new 2. With -2, -1: new -2. With -3, -2: new -2
    case 0 (settled (settings 2 0 fca median 1) (at 1 ∷ at 2 ∷ [])) (gives (pos 2 ∷ []))
    ∷ case 0 (settled (settings 2 0 fca median 1) (minus 2 ∷ minus 1 ∷ [])) (gives (negsuc 1 ∷ []))
    ∷ case 0 (settled (settings 2 0 fca median 1) (minus 3 ∷ minus 2 ∷ [])) (gives (negsuc 1 ∷ []))
    -- N 4, m 1, average, δ 1; 1, 1, 2, 2: the estimate is rounded down as before, 1; new 2 (6/4)
    ∷ case 0 (round (settings 4 1 fca average 1) (at 1 ∷ at 1 ∷ at 2 ∷ at 2 ∷ [])) (gives (pos 4 ∷ pos 1 ∷ pos 2 ∷ []))
    -- "The next window is 0 when m or δ is 0"
    ∷ case 0 (planned (settings 4 0 fca median 100) 100 1) (gives (pos 0 ∷ pos 100 ∷ []))
    ∷ case 0 (planned (settings 4 1 fca median 0) 100 1) (gives (pos 0 ∷ pos 100 ∷ []))
    -- "That plan's window now settles at 2": it is there after 7 rounds, and after 32
    ∷ case 0 (planned plan11 100 7) (gives (pos 2 ∷ pos 154 ∷ []))
    ∷ case 0 (planned plan11 100 32) (gives (pos 2 ∷ pos 179 ∷ []))
    ∷ []

-- ---- Document 02, request 5: "Rule 2 drops the m lowest and m highest of N and takes half the sum of the extremes
-- left; rule 3 takes the mean of those left"

-- the count, the estimate and the new value; then the mark of each cabinet; then its used value
abbrev pub of_all : ℕ → Round → List ℤ
of_all n r =
    (pos r.count ∷ r.estimate ∷ r.value ∷ []) ++ (table (λ i. pos (r.mark i)) n ++ table r.used n)

-- N 4, m 1 and a window of 0
abbrev pub trimmed : ℕ → List Reading → List ℤ
trimmed rule readings = of_all 4 (round_from (settings 4 1 rule average 0) readings)

unfoldable pub trimmed_shown : List (List ℤ)
trimmed_shown =
    -- half of 4 + 11 is 7.5, and goes to 8; half of -5 is -2.5, and goes to -2; half of -3 is -1.5, and goes to -2
    trimmed trimmed_midpoint (at 500 ∷ at 4 ∷ at 11 ∷ minus 9 ∷ [])
    ∷ trimmed trimmed_midpoint (minus 3 ∷ minus 2 ∷ at 0 ∷ minus 4 ∷ [])
    ∷ trimmed trimmed_midpoint (minus 2 ∷ minus 1 ∷ at 0 ∷ minus 3 ∷ [])
    ∷ trimmed trimmed_mean (minus 2 ∷ minus 1 ∷ at 0 ∷ minus 3 ∷ [])
    -- "equal readings order by cabinet number"
    ∷ trimmed trimmed_mean (at 5 ∷ at 5 ∷ at 5 ∷ at 9 ∷ [])
    -- "A missing reading counts as 0": it is dropped as the lowest, and it is kept
    ∷ trimmed trimmed_mean (at 10 ∷ missing ∷ at 20 ∷ at 31 ∷ [])
    ∷ trimmed trimmed_mean (minus 10 ∷ missing ∷ at 6 ∷ at 7 ∷ [])
    -- N 7, m 2: those left are 2, 3 and 11, whose mean is 16/3; the extremes are together 13
    ∷ of_all 3
    (round_from (settings 7 2 trimmed_mean average 0) (at 3 ∷ at 11 ∷ at 2 ∷ at 90 ∷ at 0 ∷ at 1 ∷ at 80 ∷ []))
    ∷ of_all 3
    (round_from (settings 7 2 trimmed_midpoint average 0) (at 3 ∷ at 11 ∷ at 2 ∷ at 90 ∷ at 0 ∷ at 1 ∷ at 80 ∷ []))
    -- the sum of two readings at the end of 32 bits takes 33
    ∷ trimmed trimmed_midpoint (at 2147483647 ∷ at 2147483647 ∷ at 2147483646 ∷ at 2147483647 ∷ [])
    ∷ []

unfoldable pub trimmed_wanted : List (List ℤ)
trimmed_wanted =
    (pos 2 ∷ pos 8 ∷ pos 8 ∷ pos 2 ∷ pos 1 ∷ pos 1 ∷ pos 2 ∷ pos 8 ∷ pos 4 ∷ pos 11 ∷ pos 8 ∷ [])
    ∷ (pos 2 ∷ negsuc 1 ∷ negsuc 1 ∷ pos 1 ∷ pos 1 ∷ pos 2 ∷ pos 2 ∷ negsuc 2 ∷ negsuc 1 ∷ negsuc 1 ∷ negsuc 1 ∷ [])
    ∷ (pos 2 ∷ negsuc 1 ∷ negsuc 1 ∷ pos 1 ∷ pos 1 ∷ pos 2 ∷ pos 2 ∷ negsuc 1 ∷ negsuc 0 ∷ negsuc 1 ∷ negsuc 1 ∷ [])
    ∷ (pos 2 ∷ negsuc 1 ∷ negsuc 1 ∷ pos 1 ∷ pos 1 ∷ pos 2 ∷ pos 2 ∷ negsuc 1 ∷ negsuc 0 ∷ negsuc 1 ∷ negsuc 1 ∷ [])
    ∷ (pos 2 ∷ pos 5 ∷ pos 5 ∷ pos 2 ∷ pos 1 ∷ pos 1 ∷ pos 2 ∷ pos 5 ∷ pos 5 ∷ pos 5 ∷ pos 5 ∷ [])
    ∷ (pos 2 ∷ pos 15 ∷ pos 15 ∷ pos 1 ∷ pos 0 ∷ pos 1 ∷ pos 2 ∷ pos 10 ∷ pos 15 ∷ pos 20 ∷ pos 15 ∷ [])
    ∷ (pos 2 ∷ pos 3 ∷ pos 3 ∷ pos 2 ∷ pos 0 ∷ pos 1 ∷ pos 2 ∷ pos 3 ∷ pos 3 ∷ pos 6 ∷ pos 3 ∷ [])
    ∷ (pos 3 ∷ pos 5 ∷ pos 5 ∷ pos 1 ∷ pos 1 ∷ pos 1 ∷ pos 3 ∷ pos 11 ∷ pos 2 ∷ [])
    ∷ (pos 3 ∷ pos 6 ∷ pos 6 ∷ pos 1 ∷ pos 1 ∷ pos 1 ∷ pos 3 ∷ pos 11 ∷ pos 2 ∷ [])
    ∷ (pos 2 ∷ pos 2147483647 ∷ pos 2147483647 ∷ pos 1 ∷ pos 1 ∷ pos 2 ∷ pos 2
    ∷ pos 2147483647 ∷ pos 2147483647 ∷ pos 2147483647 ∷ pos 2147483647 ∷ [])
    ∷ []
