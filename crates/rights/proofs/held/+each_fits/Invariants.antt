use Rattle.std.proofs.Common.{length}
use Rattle.rights.proofs.held.+each_fits.Given as goal

abbrev pub decreases-each_fits : goal.decreases-each_fits
decreases-each_fits l = length l.rights.now
