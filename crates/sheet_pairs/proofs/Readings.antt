-- The part of a sheet that holds its readings has E of them, four bytes each.
-- Assumes nothing.
use mathlib.Core.List.{List}
use mathlib.Core.Option.{none}
use mathlib.Core.Path.{◌≡◌, ap, ◌∙◌}
use Prim.Native.Nat.{ℕ, ◌+◌, ◌*◌, ◌≤◌, ◌<◌}
use native.Mathlib.Omega.{arith}
use lib.ListN.{length, take, drop, length-drop}
use lib.Seq.{length-take-le, get_or-take, get_or-drop}
use Rattle.model.specs.RoundSheet.{byte, word, settings_at, entry_count, bits_at}
use Rattle.model.specs.Refusals.{first_of, sheet_checks}
use Rattle.sheet_laws.proofs.Checks.{sheet-length-passed}
use Rattle.sheet_laws.proofs.Words.{word_ext}
use Rattle.sheet_pairs.specs.Fallback.{readings_start, readings_length, readings_part}

module _ (s : List ℕ) where
  abbrev start : ℕ
  start = readings_start (settings_at s)

  abbrev size : ℕ
  size = readings_length (settings_at s)

  pub part-long : first_of (sheet_checks s) ≡ none → length (readings_part s) ≡ 4 * entry_count (settings_at s)
  unfolding readings_part
  part-long pass = length-take-le size (drop start s) fits
    where
      fits : readings_length (settings_at s) ≤ length (drop (readings_start (settings_at s)) s)
      fits =
          let long = sheet-length-passed s pass in
          let rest = length-drop (readings_start (settings_at s)) s in
          omega arith

  pub part-reading :
      (e : ℕ) → e < entry_count (settings_at s)
      → word (readings_part s) (4 * e) ≡ bits_at s (entry_count (settings_at s)) e
  unfolding readings_part
  part-reading e l =
      word_ext (take size (drop start s)) s (4 * e) (start + 4 * e)
      (λ b k.
      get_or-take size (drop start s) (4 * e + b) 0 (omega arith)
      ∙ get_or-drop start s (4 * e + b) 0
      ∙ ap (byte s) (along b))
    where
      along : (b : ℕ) → readings_start (settings_at s) + (4 * e + b) ≡ readings_start (settings_at s) + 4 * e + b
      along b = omega arith
