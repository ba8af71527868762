-- The lines of a file: what each call returns and leaves. Assumes nothing.
use Rattle.std.specs.Prelude.{◌≡◌, ℕ, ◌<◌, ◌≤◌, List, [], ◌++◌, length, Some, None, Ok, Err, Option, Result}
use Rattle.market.specs.declared.refusal.Refusal.{Refusal as Unmade}
use Rattle.market.specs.declared.submission.Submission.{Submission}
use Rattle.market.specs.Making.{submission_of}
use Rattle.market.specs.Numbers.{number_of}
use Rattle.prices.specs.declared.fault.Label.TheVariants.{DayAhead, RealTime}
use Rattle.prices.specs.Pages.{page_entry}
use Rattle.formulas.specs.declared.factors.Factors.{Factors}
use Rattle.formulas.specs.Factors.{factors_of}
use Rattle.exposure.specs.declared.rates.Rates.{Rates}
use Rattle.exposure.specs.Protocol.{protocol_worth}
use Rattle.exposure.specs.Rates.{rates_of, rate_worth}
use Rattle.history.specs.declared.refusal.Refusal.{Refusal as Unopened}
use Rattle.history.specs.Answers.{opening_fault}
use Rattle.history.specs.declared.batch.BatchCall.TheVariants.{Open, Keep, Cancel}
use Rattle.history.specs.Calls.{Call, submit, withdraw, on_batch, new_limit, reply, event_number}
use Rattle.history.specs.Events.{after}
use Rattle.book.specs.Opening.{opening}
use Rattle.history.specs.Sums.{sum}
use Rattle.history.specs.Views.{Meaning, View, start}
use Rattle.dayformat.specs.Filed.{Filed, to_submit, to_withdraw, to_open_batch, to_keep_batch, to_cancel_batch, to_limit}
use Rattle.dayformat.specs.Headers.{Head, header}
use Rattle.dayformat.specs.Valuations.{Valued, by_rates, by_protocol}
use Rattle.dayformat.specs.Scripts.{Script, done, cut, then, script}
use Rattle.dayfile.specs.declared.refusal.Refusal.{Refusal}
use Rattle.dayfile.specs.declared.refusal.Refusal.TheVariants.{AnswerTooSmall}
use Rattle.dayfile.specs.Lines.{letter, line, closing}
use Rattle.dayfile.specs.Puts.{over}

-- S makes its submission from bare steps, and then submits it
abbrev pub submits : Meaning → Result Submission Unmade → Result Call Unmade
submits m (Ok s) = Ok (submit s m)
submits m (Err f) = Err f

-- the call of the book that a call of the file asks for, unless its submission is not made
abbrev pub asked : Meaning → Filed → Result Call Unmade
asked m (to_submit figures steps) = submits m (submission_of figures steps)
asked m (to_withdraw number) = Ok (withdraw number)
asked m to_open_batch = Ok (on_batch Open)
asked m to_keep_batch = Ok (on_batch Keep)
asked m to_cancel_batch = Ok (on_batch Cancel)
asked m (to_limit limit) = Ok (new_limit limit)

-- the number that is returned
abbrev pub told : View → Result Call Unmade → ℕ
told v (Ok k) = event_number (reply v k)
told v (Err f) = number_of f

-- what is left of the book
abbrev pub left : View → Result Call Unmade → View
left v (Ok k) = after v (reply v k)
left v (Err f) = v

-- the line of a call: its exposure is the one after it
unfoldable pub call_line : Meaning → View → Filed → List ℕ
call_line m v k = line (letter k) (told v (asked m k)) (sum (left v (asked m k)).rows)

unfoldable pub text : Meaning → View → Script → List ℕ
text m v done = []
text m v (cut place) = closing place
text m v (then k s) = call_line m v k ++ text m (left v (asked m k)) s

-- a header whose book opens is followed by its calls, under the rule's meaning
abbrev pub by_opening : List ℕ → Head → Meaning → Option Unopened → List ℕ
by_opening file h m None = text m (start (opening h.limit h.rights)) (script 2000 (length file) h.calls)
by_opening file h m (Some f) = closing 0

abbrev pub under : List ℕ → Head → Meaning → List ℕ
under file h m = by_opening file h m (opening_fault (opening h.limit h.rights))

-- rates in range
abbrev pub by_made_rates : List ℕ → Head → Result Rates Unmade → List ℕ
by_made_rates file h (Ok rates) = under file h (rate_worth rates)
by_made_rates file h (Err f) = closing 0

-- factors in range, over the two pages
abbrev pub by_made_factors : List ℕ → Head → List ℕ → List ℕ → Result Factors Unmade → List ℕ
by_made_factors file h ahead real (Ok factors) = under file h (protocol_worth (page_entry DayAhead ahead) (page_entry RealTime real) factors)
by_made_factors file h ahead real (Err f) = closing 0

abbrev pub by_valued : List ℕ → Head → Valued → List ℕ
by_valued file h (by_rates prices) = by_made_rates file h (rates_of prices)
by_valued file h (by_protocol e1 e2 e3 ahead real) = by_made_factors file h ahead real (factors_of e1 e2 e3)

abbrev pub by_header : List ℕ → Option Head → List ℕ
by_header file None = closing 0
by_header file (Some h) = by_valued file h h.valued

-- the lines of a file; an unfit header yields only the closing line at 0
unfoldable pub lines : List ℕ → List ℕ
lines file = by_header file (header file)

-- r is what a run returns, and now' what the answer then holds
pub record Answered (text before : List ℕ) (r : Result ℕ Refusal) (now' : List ℕ) : Type 0 where
  pub small : length before < 49152 → (r ≡ Err AnswerTooSmall) × (now' ≡ before)
  pub room : 49152 ≤ length before → (r ≡ Ok (length text)) × (now' ≡ over text before)
