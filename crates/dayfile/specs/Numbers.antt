-- The number of each refusal of a run and of a call, and 0 for a call that is accepted. Assumes nothing.
use Rattle.std.specs.Prelude.{ℕ, Ok, Err, Result}
use Rattle.market.specs.Numbers as unmade
use Rattle.history.specs.Numbers as by_book
use Rattle.dayfile.specs.declared.refusal.Refusal.{Refusal}
use Rattle.dayfile.specs.declared.refusal.Refusal.TheVariants.{AnswerTooSmall}
use Rattle.dayfile.specs.declared.refusal.CallRefusal.{CallRefusal}
use Rattle.dayfile.specs.declared.refusal.CallRefusal.TheVariants.{Unmade, ByBook}

abbrev pub number_of : Refusal → ℕ
number_of AnswerTooSmall = 52

abbrev pub call_number : CallRefusal → ℕ
call_number (Unmade f) = unmade.number_of f
call_number (ByBook f) = by_book.number_of f

abbrev pub call_returned : {T : Type 0} → Result T CallRefusal → ℕ
call_returned (Ok x) = 0
call_returned (Err f) = call_number f
