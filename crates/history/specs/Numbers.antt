-- The number that a call of the book returns for each refusal, and 0 for an acceptance. Assumes nothing.
use Rattle.std.specs.Prelude.{ℕ, Ok, Err, Result}
use Rattle.history.specs.declared.refusal.Refusal.{Refusal}
use Rattle.history.specs.declared.refusal.Refusal.TheVariants.{NumberStands, RowsFull, NotStanding, Rule, SubmitOver, WithdrawOver, TotalOutOfRange, BatchOpen, NoBatch, LimitUnfit, RightsUnfit, NoMemory}

abbrev pub number_of : Refusal → ℕ
number_of NumberStands = 21
number_of RowsFull = 22
number_of NotStanding = 23
number_of (Rule fault) = 24
number_of (SubmitOver exposure room) = 25
number_of (WithdrawOver exposure room) = 26
number_of TotalOutOfRange = 27
number_of BatchOpen = 31
number_of NoBatch = 32
number_of LimitUnfit = 33
number_of RightsUnfit = 41
number_of NoMemory = 53

abbrev pub returned : {T : Type 0} → Result T Refusal → ℕ
returned (Ok x) = 0
returned (Err f) = number_of f
