-- What reading back means: the fields of the answer sheet that settling granted are those of the round of its sheet.
-- The theorem is `settled-reads-back` of proofs/ReadBack.antt.
--   ReadsBack     every field that the bytes a show, for the sheet s and the spread D
--   Settled       s is a sheet of bytes that settles with the spread D, in a buffer of any bytes, to an answer sheet of
--                 that size
use Rattle.std.specs.Prelude.{List, ◌≡◌, ℕ, ◌<◌, take}
use Rattle.model.specs.RoundSheet.{byte, settings_at}
use Rattle.model.specs.Steps.{round_at}
use Rattle.model.specs.Calls.{granted, settle_spread}
use Rattle.answer_reader.specs.Fields.{cabinets_in, count_in, estimate_in, value_in, mark_in, used_in, signed_field}

pub record ReadsBack (s : List ℕ) (D : ℕ) (a : List ℕ) : Type 0 where
  pub cabinets : cabinets_in a ≡ granted (settings_at s).n
  pub count : count_in a ≡ granted (round_at s D).count
  pub estimate : signed_field (estimate_in a) ≡ granted (round_at s D).estimate
  pub value : signed_field (value_in a) ≡ granted (round_at s D).value
  pub mark : (r : ℕ) → r < (settings_at s).n → mark_in a r ≡ granted ((round_at s D).mark r)
  pub used : (r : ℕ) → r < (settings_at s).n → signed_field (used_in a r) ≡ granted ((round_at s D).used r)

pub record Settled (s : List ℕ) (D : ℕ) (buffer : List ℕ) (size : ℕ) : Type 0 where
  pub bytes : (j : ℕ) → byte s j < 256
  pub granted-size : (settle_spread s D buffer).verdict ≡ granted size

-- the answer sheet: the first bytes of what settling left in the buffer, as many as it granted
abbrev pub answer_sheet : List ℕ → ℕ → List ℕ → ℕ → List ℕ
answer_sheet s D buffer size = take size (settle_spread s D buffer).buffer

abbrev pub SettledReadsBack : Type 0
SettledReadsBack =
    (s : List ℕ) (D : ℕ) (buffer : List ℕ) (size : ℕ) → Settled s D buffer size
    → ReadsBack s D (answer_sheet s D buffer size)
