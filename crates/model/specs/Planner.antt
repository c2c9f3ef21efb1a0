-- Document 01, "The planner" (docs/FORMAT.md, 6), with document 02's "Paper 4. Halves go to the even tick", which
-- changes the next window.
--   ceil_div, past_div      a quotient rounded up; its whole part plus one
--   next_window, growth    the next window; what a round adds to the accuracy
--   Plan                  the settings with the next round's window, the accuracy planned by then, the rounds done
--   plan_from, advance     a fresh plan; the plan one round on
--   after                 the plan any number of rounds on
--   Reaches               what a count that is granted for a target means
use Rattle.std.specs.Prelude.{cond, ◌&&◌, ◌||◌, ℕ, zero, suc, ◌+◌, ◌*◌, ◌-◌, ◌/◌, ◌≤◌, eqb}
use Rattle.model.specs.declared.Settings.{Settings}
use Rattle.model.specs.RoundSheet.{cca, median}

-- "accuracy κ (0 to 1,000,000,000) and 0 to 32 rounds"; "The limit on κ is for the start"
abbrev pub max_accuracy : ℕ
max_accuracy = 1_000_000_000

abbrev pub max_rounds : ℕ
max_rounds = 32

-- a step is refused "when 32 rounds or more are done or the plan's accuracy is above 1,100,000,000"
abbrev pub max_step_accuracy : ℕ
max_step_accuracy = 1_100_000_000

-- ⌈a / n⌉
unfoldable pub ceil_div : ℕ → ℕ → ℕ
ceil_div a n = (a + (n - 1)) / n

-- document 02, request 4: "a precision limit written ⌈q/N⌉ becomes the whole part of q/N plus one"
unfoldable pub past_div : ℕ → ℕ → ℕ
past_div a n = a / n + 1

-- mδ/N once for CCA with median, and else twice: "⌈2mδ/N⌉, or ⌈mδ/N⌉ for CCA with median", as document 01 has it
unfoldable pub window_factor : Settings → ℕ
window_factor c = cond (eqb c.rule cca && eqb c.estimator median) 1 2

-- "The next window is 0 when m or δ is 0, and otherwise follows the same change"
unfoldable pub next_window : Settings → ℕ
next_window c =
    cond (eqb c.m 0 || eqb c.window 0) 0 (past_div (window_factor c * (c.m * c.window)) c.n)

-- "κ grows each round by ⌈mδ/N⌉ with that round's δ"
unfoldable pub growth : Settings → ℕ
growth c = ceil_div (c.m * c.window) c.n

abbrev pub with_window : Settings → ℕ → Settings
with_window c w = record { n = c.n; m = c.m; rule = c.rule; estimator = c.estimator; window = w }

pub record Plan : Type 0 where
  pub settings : Settings
  pub accuracy : ℕ
  pub rounds : ℕ

-- the plan for 0 rounds: "The plan has window δ, accuracy κ and no round done"
abbrev pub plan_from : Settings → ℕ → Plan
plan_from c κ = record { settings = c; accuracy = κ; rounds = 0 }

-- "A plan goes forward one round at a time and hands back the plan that follows"
unfoldable pub advance : Plan → Plan
advance p =
    record {
      settings = with_window p.settings (next_window p.settings);
      accuracy = p.accuracy + growth p.settings;
      rounds = p.rounds + 1;
    }

-- the plan k rounds on
unfoldable pub after : ℕ → Plan → Plan
after zero p = p
after (suc k) p = advance (after k p)

abbrev pub window_after : ℕ → Settings → ℕ → ℕ
window_after k c κ = (after k (plan_from c κ)).settings.window

-- "a round count of at most 32 whose window is at or below the target. More than one count may fit, and no definition
-- here decides which"
pub record Reaches (c : Settings) (κ target k : ℕ) : Type 0 where
  pub most : k ≤ max_rounds
  pub fits : window_after k c κ ≤ target
