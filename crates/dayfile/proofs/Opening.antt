-- The lines of a whole file, from its header and its rule.
use Rattle.std.proofs.Common.{◌≡◌, ℕ, List, length, Some, None, Ok, Err, Option, Result, ℤ, refl, sym, ap, ◌∙◌, subst, arith}
use Rattle.std.specs.Result.{result_ok}
use Rattle.market.specs.declared.refusal.Refusal.{Refusal as Unmade}
use Rattle.formulas.specs.declared.factors.Factors.{Factors}
use Rattle.formulas.specs.Factors.{factors_of}
use Rattle.exposure.specs.declared.rates.Rates.{Rates}
use Rattle.exposure.specs.Rates.{rates_of, rate_worth}
use Rattle.exposure.specs.Protocol.{protocol_worth}
use Rattle.prices.specs.declared.fault.Label.TheVariants.{DayAhead, RealTime}
use Rattle.prices.specs.Pages.{page_entry}
use Rattle.history.specs.Answers.{opening_fault}
use Rattle.history.specs.Views.{Meaning, Opening, View, start}
use Rattle.book.specs.declared.opening.Unopened.{Unopened}
use Rattle.book.specs.declared.state.Book.{Book}
use Rattle.book.specs.declared.state.Room.{Room}
use Rattle.book.specs.Opening.{opening, Opened}
use Rattle.book.specs.Shown.{view}
use Rattle.dayformat.specs.Headers.{Head, header}
use Rattle.dayformat.specs.Scripts.{script}
use Rattle.dayformat.specs.Valuations.{Valued, by_rates, by_protocol}
use Rattle.dayfile.specs.Lines.{closing}
use Rattle.dayfile.specs.Puts.{FilledOr}
use Rattle.dayfile.specs.Runs.{text, by_opening, under, by_made_rates, by_made_factors, by_valued, by_header, lines}

pub filled_as : (other a b before now' : List ℕ) (r : Option ℕ) → b ≡ a → FilledOr other a before r now' → FilledOr other b before r now'
filled_as other a b before now' r e = subst (λ (t : List ℕ). FilledOr other t before r now') (sym e)

module _ (file : List ℕ) where
  pub lines_none : header file ≡ None → lines file ≡ closing 0
  unfolding lines
  lines_none e = ap (by_header file) e

  module _ (h : Head) where
    abbrev under_rates : Option Rates → List ℕ
    under_rates None = closing 0
    under_rates (Some x) = under file h (rate_worth x)

    made_rates : (r : Result Rates Unmade) → by_made_rates file h r ≡ under_rates (result_ok r)
    made_rates (Ok x) = refl
    made_rates (Err f) = refl

    abbrev under_factors : List ℕ → List ℕ → Option Factors → List ℕ
    under_factors ahead real None = closing 0
    under_factors ahead real (Some x) = under file h (protocol_worth (page_entry DayAhead ahead) (page_entry RealTime real) x)

    made_factors : (ahead real : List ℕ) (r : Result Factors Unmade) → by_made_factors file h ahead real r ≡ under_factors ahead real (result_ok r)
    made_factors ahead real (Ok x) = refl
    made_factors ahead real (Err f) = refl

    module _ (headed : header file ≡ Some h) where
      valued : (v : Valued) → h.valued ≡ v → lines file ≡ by_valued file h v
      unfolding lines
      valued v e = ap (by_header file) headed ∙ ap (by_valued file h) e

      pub lines_rates : (prices : List ℤ) (o : Option Rates) → h.valued ≡ by_rates prices → result_ok (rates_of prices) ≡ o → lines file ≡ under_rates o
      lines_rates prices o v e = valued (by_rates prices) v ∙ made_rates (rates_of prices) ∙ ap under_rates e

      pub lines_factors : (e1 e2 e3 : ℕ) (ahead real : List ℕ) (o : Option Factors) → h.valued ≡ by_protocol e1 e2 e3 ahead real → result_ok (factors_of e1 e2 e3) ≡ o → lines file ≡ under_factors ahead real o
      lines_factors e1 e2 e3 ahead real o v e = valued (by_protocol e1 e2 e3 ahead real) v ∙ made_factors ahead real (factors_of e1 e2 e3) ∙ ap (under_factors ahead real) e

-- a book that opens stands at its start, and nothing is amiss
pub opened_as : (room : Room) (o : Opening) (r : Result Book Unopened) (b : Book) → Opened room o r → result_ok r ≡ Some b → (opening_fault o ≡ None) × (view b ≡ start o)
opened_as room o (Ok x) b h e = let k : x ≡ b = cc in (h.0, ap view (sym k) ∙ h.1)
opened_as room o (Err u) b h e = let z : ◌≡◌ {A = ℕ} 0 1 = cc in absurd (omega arith)

-- and its header is followed by its calls
pub under_opened : (file : List ℕ) (h : Head) (m : Meaning) (v : View) → (opening_fault (opening h.limit h.rights) ≡ None) × (v ≡ start (opening h.limit h.rights)) → text m v (script 2000 (length file) (h.calls)) ≡ under file h m
under_opened file h m v e = ap (λ (w : View). text m w (script 2000 (length file) (h.calls))) e.1 ∙ sym (ap (by_opening file h m) e.0)
