-- The header, and then its rule, settle which clause of the definition the lines are.
use Rattle.std.proofs.Common.{◌≡◌, ℕ, List, Some, None, get_or, sym, refl, ap, ◌∙◌, rules}
use Rattle.formulas.specs.declared.factors.Factors.{Factors}
use Rattle.prices.specs.declared.fault.Label.{Label}
use Rattle.prices.specs.declared.fault.Label.TheVariants.{DayAhead, RealTime}
use Rattle.prices.specs.Pages.{page_entry}
use Rattle.exposure.specs.Protocol.{protocol_worth}
use Rattle.history.specs.Views.{Meaning}
use Rattle.dayformat.specs.Headers.{lent_head}
use Rattle.dayformat.specs.Valuations.{lent}
use Rattle.dayfile.specs.Runs.{under}
use Rattle.dayfile.proofs.Opening.{filled_as, lines_none, lines_rates, lines_factors}
use Rattle.dayfile.proofs.run.play_file.Goals as goal

pub returns-in_err-header : goal.returns-in_err-header
returns-in_err-header c = rw c.from_residual.ensures (lines_none c.args.file.now (sym c.in_err-header.ensures.value), refl)

pub returns-in_err-rates-in-Rates : goal.returns-in_err-rates-in-Rates
returns-in_err-rates-in-Rates c =
    rw c.from_residual-in_err-rates-in-Rates.ensures
    (lines_rates c.args.file.now (lent_head c.in_ok-header.header) (sym c.in_ok-header.ensures.value) c.in-Rates.prices None (ap lent c.in-Rates.is) (search rules), refl)

pub returns-in_ok-rates-in-Rates : goal.returns-in_ok-rates-in-Rates
returns-in_ok-rates-in-Rates c =
    filled_as _ _ _ _ _ c.open_and_play.result
    (lines_rates c.args.file.now (lent_head c.in_ok-header.header) (sym c.in_ok-header.ensures.value) c.in-Rates.prices (Some c.in_ok-rates-in-Rates.rates) (ap lent c.in-Rates.is) (search rules))
    c.open_and_play.ensures

pub returns-in_err-ok-in-Protocol : goal.returns-in_err-ok-in-Protocol
returns-in_err-ok-in-Protocol c =
    let f = c.in-Protocol.factors in
    rw c.from_residual-in_err-ok-in-Protocol.ensures (
      lines_factors c.args.file.now (lent_head c.in_ok-header.header) (sym c.in_ok-header.ensures.value) (get_or f 0 0) (get_or f 1 0) (get_or f 2 0) c.in-Protocol.day_ahead.now c.in-Protocol.real_time.now None
          (ap lent c.in-Protocol.is) (search rules),
      refl,
    )

-- the rule over two pages, by what they hold
meaning_is : (f : Factors) (k k' l l' : Label) (a a' b b' : List ℕ) → k ≡ k' → l ≡ l' → a ≡ a' → b ≡ b' →
    ◌≡◌ {A = Meaning} (protocol_worth (page_entry k a) (page_entry l b) f) (protocol_worth (page_entry k' a') (page_entry l' b') f)
meaning_is f k k' l l' a a' b b' p q r s = λ i. protocol_worth (page_entry (p i) (r i)) (page_entry (q i) (s i)) f

pub returns-in_ok-ok-in-Protocol : goal.returns-in_ok-ok-in-Protocol
returns-in_ok-ok-in-Protocol c =
    let f = c.in-Protocol.factors in
    filled_as _ _ _ _ _ c.open_and_play-in-Protocol.result
    (lines_factors c.args.file.now (lent_head c.in_ok-header.header) (sym c.in_ok-header.ensures.value) (get_or f 0 0) (get_or f 1 0) (get_or f 2 0) c.in-Protocol.day_ahead.now c.in-Protocol.real_time.now (Some c.in_ok-ok-in-Protocol.field-0)
    (ap lent c.in-Protocol.is) (search rules)
    ∙ ap (under c.args.file.now (lent_head c.in_ok-header.header)) (sym (meaning_is c.in_ok-ok-in-Protocol.field-0 _ DayAhead _ RealTime _ c.in-Protocol.day_ahead.now _ c.in-Protocol.real_time.now c.new.ensures.label c.new-in-Protocol.ensures.label c.new.ensures.bytes c.new-in-Protocol.ensures.bytes)))
    c.open_and_play-in-Protocol.ensures
