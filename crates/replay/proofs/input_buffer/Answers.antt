-- The buffer has as many bytes as are read at most.
use Rattle.std.proofs.Common.{sym, ℕ}
use Rattle.std.proofs.lemmas.List.{length-replicate}
use Rattle.trace.specs.ReplayText.{max_trace_input}
use Rattle.replay.proofs.input_buffer.Goals as goal

pub returns : goal.returns
returns c = sym (length-replicate {A = ℕ} max_trace_input 0)
