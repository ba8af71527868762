-- A call as the file has it, apart from the bytes, and what a call of the code stands for. Assumes nothing.
use Rattle.std.specs.Prelude.{ℕ, List, map, ℤ}
use Rattle.market.specs.declared.kind.Figures.{Figures}
use Rattle.market.specs.declared.step.Step.{Step}
use Rattle.dayformat.specs.Steps.{step_of}
use Rattle.dayformat.specs.declared.call.Call.{Call}
use Rattle.dayformat.specs.declared.call.Call.TheVariants.{Submit, Withdraw, OpenBatch, KeepBatch, CancelBatch, Limit}

pub data Filed : Type 0 where
  to_submit : Figures → List Step → Filed
  to_withdraw : ℕ → Filed
  to_open_batch : Filed
  to_keep_batch : Filed
  to_cancel_batch : Filed
  to_limit : ℤ → Filed

abbrev pub means : Call → Filed
means (Submit figures steps) = to_submit figures (map step_of steps.bytes.now)
means (Withdraw number) = to_withdraw number
means OpenBatch = to_open_batch
means KeepBatch = to_keep_batch
means CancelBatch = to_cancel_batch
means (Limit limit) = to_limit limit
