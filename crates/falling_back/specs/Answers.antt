-- What the types of this crate say in document 02's terms.
--   source_of          a sheet of the two
--   pair_settled_of    which sheet settled the round and the answer sheet's length, or the first refusal
use Rattle.std.specs.Prelude.{Result, Ok, Err}
use Rattle.model.specs.Calls.{Verdict, granted, refused}
use Rattle.refusals.specs.declared.Refusal.{Refusal}
use Rattle.refusals.specs.Answers.{refusal_of}
use Rattle.sheet_pairs.specs.Fallback.{crusaders, direct}
use Rattle.sheet_pairs.specs.Fallback as pair
use Rattle.falling_back.specs.declared.Source.{Source}
use Rattle.falling_back.specs.declared.Source.TheVariants.{Crusaders, Direct}
use Rattle.falling_back.specs.declared.Settlement.{Settlement}

abbrev pub source_of : Source → pair.Source
source_of Crusaders = crusaders
source_of Direct = direct

abbrev pub pair_settled_of : Result Settlement Refusal → Verdict pair.Settlement
pair_settled_of (Ok s) = granted (record { source = source_of s.source; size = s.size })
pair_settled_of (Err r) = refused (refusal_of r)
