-- A list that is cut at a place, or at its end where it is shorter.
use Rattle.std.proofs.Common.{◌≡◌, ℕ, List, length, take, drop, min, ◌∙◌, ap}
use Rattle.std.proofs.lemmas.List.{drop_min, take_min}

pub record Cut {A : Type 0} (n : ℕ) (xs front back : List A) : Type 0 where
  pub taken : front ≡ take n xs
  pub dropped : back ≡ drop n xs

pub cut_at : {A : Type 0} (n : ℕ) (xs front back : List A) (m : ℕ) → m ≡ min n (length xs) → front ≡ take m xs → back ≡ drop m xs → Cut n xs front back
cut_at n xs front back m e f b = record { taken = f ∙ ap (λ k. take k xs) e ∙ take_min n xs; dropped = b ∙ ap (λ k. drop k xs) e ∙ drop_min n xs }
