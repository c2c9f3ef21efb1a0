-- The checks of a call on a sheet in their order: the first refusal of one group stands, or else the next group's.
-- Assumes nothing.
use mathlib.Core.List.{List, [], ◌∷◌, ◌++◌}
use mathlib.Core.Option.{none}
use mathlib.Core.Path.{◌≡◌, refl, sym, ap, ◌∙◌}
use Prim.Native.Nat.{ℕ}
use lib.IntN.{ℤ}
use lib.ListN.{length}
use Rattle.model.specs.declared.Settings.{Settings}
use Rattle.model.specs.RoundSheet.{byte, settings_at, entry_count, sheet_length, bits_in}
use Rattle.model.specs.AnswerSheet.{answer_length}
use Rattle.model.specs.Steps.{round_at}
use Rattle.model.specs.Refusals.{Check, or_next, first_of, settings_checks, sheet_checks, array_checks, entry_checks}
use Rattle.model.specs.Refusals.{too_short, bad_length, no_room, too_many_faults, bad_spread}
use Rattle.model.specs.Refusals.{read_checks, write_checks, row_checks, spread_checks, settle_checks}
use Rattle.refusal_laws.proofs.Checks.{first_append, first_snoc, next-none, next-none-left, next-none-right}

-- a sheet: check 1, 2 to 5, 6
pub sheet-checks :
    (s : List ℕ)
    → first_of (sheet_checks s) ≡ or_next (too_short s) (or_next (first_of (settings_checks (settings_at s)))
    (bad_length (length s) (sheet_length (settings_at s))))
unfolding sheet_checks first_of
sheet-checks s =
    ap (or_next (too_short s))
    (first_snoc (settings_checks (settings_at s)) (bad_length (length s) (sheet_length (settings_at s))))

-- the reader: checks 1 to 6, 7 of each array, 8 and 9
pub read-checks :
    (s : List ℕ) (marks readings : ℕ)
    → first_of (read_checks s marks readings) ≡ or_next (first_of (sheet_checks s)) (or_next
    (no_room marks (entry_count (settings_at s)))
    (or_next (no_room readings (entry_count (settings_at s))) (first_of (entry_checks s))))
unfolding read_checks first_of
read-checks s marks readings =
    first_append (sheet_checks s)
    (no_room marks (entry_count (settings_at s)) ∷ no_room readings (entry_count (settings_at s)) ∷ entry_checks s)

-- the writer: checks 2 to 5, 6 of each array, 7, 8 and 9
pub write-checks :
    (c : Settings) (marks : List ℕ) (readings : List ℤ) (room : ℕ)
    → first_of (write_checks c marks readings room) ≡ or_next (first_of (settings_checks c)) (or_next
    (bad_length (length marks) (entry_count c))
    (or_next (bad_length (length readings) (entry_count c))
    (or_next (no_room room (sheet_length c)) (first_of (array_checks (byte marks) (bits_in readings) (entry_count c))))))
unfolding write_checks first_of
write-checks c marks readings room =
    first_append (settings_checks c)
    (bad_length (length marks) (entry_count c)
    ∷ bad_length (length readings) (entry_count c)
    ∷ no_room room (sheet_length c)
    ∷ array_checks (byte marks) (bits_in readings) (entry_count c))

-- the row accessor: checks 1 to 6, 8 and 9
pub row-checks : (s : List ℕ) → first_of (row_checks s) ≡ or_next (first_of (sheet_checks s)) (first_of (entry_checks s))
unfolding row_checks
row-checks s = first_append (sheet_checks s) (entry_checks s)

-- a sheet and a spread: check 1, 2 to 5, 16, 6
pub spread-checks :
    (s : List ℕ) (D : ℕ)
    → first_of (spread_checks s D) ≡ or_next (too_short s) (or_next (first_of (settings_checks (settings_at s)))
    (or_next (bad_spread (settings_at s) D) (bad_length (length s) (sheet_length (settings_at s)))))
unfolding spread_checks first_of
spread-checks s D =
    let sixth : Check = bad_length (length s) (sheet_length (settings_at s)) in
    ap (or_next (too_short s))
    (first_append (settings_checks (settings_at s)) (bad_spread (settings_at s) D ∷ sixth ∷ [])
    ∙ ap (λ (r : Check). or_next (first_of (settings_checks (settings_at s))) (or_next (bad_spread (settings_at s) D) r))
    (next-none sixth))

-- a spread that check 16 passes changes nothing of checks 1 to 6
pub spread-passes :
    (s : List ℕ) (D : ℕ) → bad_spread (settings_at s) D ≡ none → first_of (spread_checks s D) ≡ first_of (sheet_checks s)
spread-passes s D h = spread-checks s D ∙ rw h (sym (sheet-checks s))

-- no spread is one
pub no_spread : (s : List ℕ) → first_of (spread_checks s 0) ≡ first_of (sheet_checks s)
unfolding bad_spread
no_spread s = spread-passes s 0 refl

-- where checks 1 to 5, 16 and 6 pass, 16 does and 1 to 6 do
pub spread-passed :
    (s : List ℕ) (D : ℕ) → first_of (spread_checks s D) ≡ none
    → (bad_spread (settings_at s) D ≡ none) × (first_of (sheet_checks s) ≡ none)
spread-passed s D h =
    let c : Settings = settings_at s in
    let sixth : Check = bad_length (length s) (sheet_length c) in
    let last : Check = or_next (bad_spread c D) sixth in
    let passed : bad_spread c D ≡ none =
    next-none-left (bad_spread c D) sixth
    (next-none-right (first_of (settings_checks c)) last
    (next-none-right (too_short s) (or_next (first_of (settings_checks c)) last) (sym (spread-checks s D) ∙ h))) in
    (passed, sym (spread-passes s D passed) ∙ h)

-- settling: checks 1 to 5, 16 and 6, 7 of the answer buffer, 8 and 9, 10
pub settle-checks :
    (s : List ℕ) (D room : ℕ)
    → first_of (settle_checks s D room) ≡ or_next (first_of (spread_checks s D)) (or_next
    (no_room room (answer_length (settings_at s).n))
    (or_next (first_of (entry_checks s)) (too_many_faults (round_at s D).count)))
unfolding settle_checks first_of
settle-checks s D room =
    let seventh : Check = no_room room (answer_length (settings_at s).n) in
    let tenth : Check = too_many_faults (round_at s D).count in
    first_append (spread_checks s D) (seventh ∷ (entry_checks s ++ (tenth ∷ [])))
    ∙ ap (λ (r : Check). or_next (first_of (spread_checks s D)) (or_next seventh r)) (first_snoc (entry_checks s) tenth)
