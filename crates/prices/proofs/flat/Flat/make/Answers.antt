use Rattle.std.proofs.Common.{sym, w32}
use Rattle.std.proofs.lemmas.Int.{to_z-of_z}
use Rattle.prices.proofs.Making.{flat_made, flat_refused}
use Rattle.prices.proofs.flat.Flat.make.Goals as goal

pub returns-then-not-price_fits : goal.returns-then-not-price_fits
returns-then-not-price_fits c =
    flat_refused c.args.price _ (to_z-of_z w32 c.args.price c.ranges.price) (sym c.if-not-price_fits.ensures)

pub returns : goal.returns
returns c = flat_made c.args.price _ (to_z-of_z w32 c.args.price c.ranges.price) _
