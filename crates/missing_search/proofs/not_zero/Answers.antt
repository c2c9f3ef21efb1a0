-- The four bytes read are the entry's.
use Rattle.std.proofs.Common.{ℕ, ◌*◌, ◌&&◌, not, eqb, ap, ap₂, ◌∙◌}
use Rattle.sheet_laws.proofs.Words.{word-joined}
use Rattle.missing_search.proofs.not_zero.Goals as goal

pub returns : goal.returns
returns c =
    let a = c.args in
    ap₂ ◌&&◌ c.is_missing.ensures
    (c.is_filled.ensures
    ∙ ap (λ (x : ℕ). not (eqb x 0)) (word-joined a.readings.now (4 * a.e) c.join-bits.result c.join-bits.ensures))
