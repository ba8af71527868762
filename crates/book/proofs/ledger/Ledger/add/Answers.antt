use Rattle.std.proofs.Common.{ap, ◌∙◌, arith, rules}
use Rattle.std.proofs.lemmas.Int.{ints}
use Rattle.history.specs.Sums.{sum, small}
use Rattle.history.proofs.Exposures.{bounded, sum_bounds, small_push, sum_push}
use Rattle.book.proofs.ledger.Ledger.add.Goals as goal

pub overflow_add-self : goal.overflow_add-self
overflow_add-self c =
    let b = sum_bounds c.args.self.now.rows.items c.args.self.now.within in
    let x = bounded c.args.row.exposure c.requires.within in
    let t = c.args.self.now.adds in
    omega (arith, ints)

pub invariant_of-self : goal.invariant_of-self
invariant_of-self c =
    let rows = c.args.self.now.rows.items in
    let b = sum_bounds rows c.args.self.now.within in
    let x = bounded c.args.row.exposure c.requires.within in
    let t = c.args.self.now.adds in
    let s = ap sum c.push_reserved.ensures.items ∙ sum_push rows c.args.row in
    record {
      few = search rules;
      room = search rules;
      adds = omega (arith, ints);
      within = ap small c.push_reserved.ensures.items ∙ small_push rows c.args.row c.args.self.now.within c.requires.within;
    }
