-- The text of the first four bytes, and of what stands behind them.
use Rattle.std.proofs.Common.{◌≡◌, ℕ, ◌<◌, min, List, [], ◌∷◌, ◌++◌, length, refl, ap, append-nil, arith}
use Rattle.std.proofs.lemmas.List.{nil_from_length}
use Rattle.vectors.specs.Texts.{tick_text, ticks_text}

pub tick_first : (all part rest : List ℕ) → all ≡ part ++ rest → length part ≡ min 4 (length all) → 0 < length all
    → tick_text part ++ ticks_text rest ≡ ticks_text all
tick_first all [] rest e size some = absurd (omega arith)
tick_first all (a ∷ []) rest e size some =
    let none : rest ≡ [] = nil_from_length rest (omega (arith, ap length e)) in rw (e, none) (append-nil (tick_text (a ∷ [])))
tick_first all (a ∷ b ∷ []) rest e size some =
    let none : rest ≡ [] = nil_from_length rest (omega (arith, ap length e)) in rw (e, none) (append-nil (tick_text (a ∷ b ∷ [])))
tick_first all (a ∷ b ∷ c ∷ []) rest e size some =
    let none : rest ≡ [] = nil_from_length rest (omega (arith, ap length e)) in rw (e, none) (append-nil (tick_text (a ∷ b ∷ c ∷ [])))
tick_first all (a ∷ b ∷ c ∷ d ∷ []) rest e size some = rw e refl
tick_first all (a ∷ b ∷ c ∷ d ∷ x ∷ more) rest e size some = absurd (omega arith)
