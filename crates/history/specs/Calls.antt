-- The calls of a book, and the event that each becomes. Assumes nothing.
use Rattle.std.specs.Prelude.{ℕ, ℤ}
use Rattle.market.specs.declared.submission.Submission.{Submission}
use Rattle.history.specs.declared.batch.BatchCall.{BatchCall}
use Rattle.history.specs.Answers.{submit_answer, withdraw_answer, batch_answer, limit_answer}
use Rattle.history.specs.Events.{Event, submitted, withdrew, batched, limited}
use Rattle.history.specs.Numbers.{returned}
use Rattle.history.specs.Views.{Meaning, View}

pub data Call : Type 0 where
  submit : Submission → Meaning → Call
  withdraw : ℕ → Call
  on_batch : BatchCall → Call
  new_limit : ℤ → Call

-- the call that an event answered
abbrev pub call : Event → Call
call (submitted s m r) = submit s m
call (withdrew n r) = withdraw n
call (batched c r) = on_batch c
call (limited l r) = new_limit l

-- the call with the answer that its contract gives
abbrev pub reply : View → Call → Event
reply v (submit s m) = submitted s m (submit_answer v s m)
reply v (withdraw n) = withdrew n (withdraw_answer v n)
reply v (on_batch c) = batched c (batch_answer v c)
reply v (new_limit l) = limited l (limit_answer v l)

-- the number that an event returns
abbrev pub event_number : Event → ℕ
event_number (submitted s m r) = returned r
event_number (withdrew n r) = returned r
event_number (batched c r) = returned r
event_number (limited l r) = returned r
