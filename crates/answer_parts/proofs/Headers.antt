-- The header of an answer sheet, as the code stores it.
-- Assumes nothing.
use mathlib.Core.List.{List, [], ◌∷◌}
use mathlib.Core.Path.{◌≡◌, refl, sym, ap, ◌∙◌}
use Prim.Native.Nat.{ℕ, suc, ◌≤◌}
use native.Mathlib.Omega.{arith}
use borrow.Author.Tests.{le-leb}
use lib.ListN.{length, set}
use Rattle.arithmetic.specs.Writing.{overwrite}
use Rattle.arithmetic.proofs.Writing.{overwrite_nil, overwrite_snoc}
use Rattle.model.specs.RoundSheet.{bytes4}
use Rattle.model.specs.AnswerSheet.{header_bytes, answer_header_size}
use Rattle.sheet_laws.specs.Storing.{put_word}
use Rattle.sheet_laws.proofs.Readings.{length-bytes4}
use Rattle.sheet_laws.proofs.Storing.{put-word-next}
use Rattle.answer_parts.specs.Parts.{headed}

-- two bytes and two numbers of four bytes
header-stored :
    (b : List ℕ) (n count e v : ℕ)
    → answer_header_size ≤ length b
    → put_word (put_word (set (set b 0 n) 1 count) 2 e) 6 v ≡ overwrite (header_bytes n count e v) b
header-stored b n count e v h =
    ap (λ (l : List ℕ). put_word (put_word (set (set l 0 n) 1 count) 2 e) 6 v) (sym (overwrite_nil b))
    ∙ ap (λ (l : List ℕ). put_word (put_word (set l 1 count) 2 e) 6 v) (overwrite_snoc [] b n (omega arith))
    ∙ ap (λ (l : List ℕ). put_word (put_word l 2 e) 6 v) (overwrite_snoc (n ∷ []) b count (omega arith))
    ∙ ap (λ (l : List ℕ). put_word l 6 v) (put-word-next (n ∷ count ∷ []) b 2 e refl (omega arith))
    ∙ put-word-next (n ∷ count ∷ bytes4 e) b 6 v six (omega arith)
  where
    six : length (n ∷ count ∷ bytes4 e) ≡ 6
    six = ap (λ (k : ℕ). suc (suc k)) (length-bytes4 e)

pub header-written :
    (b : List ℕ) (n count e v : ℕ)
    → answer_header_size ≤ length b
    → put_word (put_word (set (set b 0 n) 1 count) 2 e) 6 v ≡ headed n count e v b
unfolding headed
header-written b n count e v h = header-stored b n count e v h ∙ rw (le-leb answer_header_size (length b) h)
