use Rattle.std.proofs.Common.{◌≤◌, ℤ, sym, ap, ◌∙◌, subst, w64, SFits, rules}
use Rattle.std.specs.Int.Signed.{mag}
use Rattle.std.proofs.lemmas.Int.{to_z-of_z}
use Rattle.history.specs.Sums.{sum}
use Rattle.history.proofs.Exposures.{mag_within}
use Rattle.history.proofs.Valuing.{by_formulas}
use Rattle.book.proofs.Lawful.{sound}
use Rattle.book.proofs.Totals.{total_bounds}
use Rattle.book.proofs.state.Book.exposure.Goals as goal

pub returns : goal.returns
returns c =
    let ledger = c.args.self.now.standing in
    let f : SFits w64 ledger.total = search rules in
    let t = to_z-of_z w64 ledger.total f in
    let s = t ∙ ledger.adds in
    let b = total_bounds ledger in
    let m = mag_within (sum ledger.rows.items) 50000000000000000 b.low b.high in
    record {
      stated = t;
      sums = s;
      history = λ o es l. s ∙ ap sum (sound o es c.args.self.now l).rows;
      protocol = λ o es l ahead real f u. s ∙ ap sum (sound o es c.args.self.now l).rows ∙ by_formulas ahead real f o es u;
      bounded = subst (λ (z : ℤ). mag z ≤ 50000000000000000) (sym s) m;
    }
