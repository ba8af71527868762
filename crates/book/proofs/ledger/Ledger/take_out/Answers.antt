use Rattle.std.proofs.Common.{◌<◌, length, ap, ◌∙◌, arith, rules}
use Rattle.std.proofs.lemmas.Int.{ints}
use Rattle.history.specs.Sums.{sum, small}
use Rattle.history.proofs.Exposures.{bounded_at, sum_bounds, sum_removed, small_removed}
use Rattle.book.proofs.ledger.Ledger.take_out.Goals as goal

pub overflow_sub-self : goal.overflow_sub-self
overflow_sub-self c =
    let rows = c.args.self.now.rows.items in
    let l : c.args.i < length rows = omega arith in
    let b = sum_bounds rows c.args.self.now.within in
    let x = bounded_at rows c.args.i c.remove-row.result l c.remove-row.ensures.value c.args.self.now.within in
    let t = c.args.self.now.adds in
    omega (arith, ints)

pub invariant_of-self : goal.invariant_of-self
invariant_of-self c =
    let rows = c.args.self.now.rows.items in
    let l : c.args.i < length rows = omega arith in
    let b = sum_bounds rows c.args.self.now.within in
    let x = bounded_at rows c.args.i c.remove-row.result l c.remove-row.ensures.value c.args.self.now.within in
    let t = c.args.self.now.adds in
    let s = ap sum c.remove-row.ensures.items ∙ sum_removed rows c.args.i c.remove-row.result l c.remove-row.ensures.value in
    record {
      few = search rules;
      room = search rules;
      adds = omega (arith, ints);
      within = ap small c.remove-row.ensures.items ∙ small_removed rows c.args.i c.args.self.now.within;
    }
