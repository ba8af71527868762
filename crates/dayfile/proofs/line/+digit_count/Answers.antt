-- A number of 64 bits has at most 20 digits.
use Rattle.std.proofs.Common.{◌/◌, lit<, arith}
use Rattle.std.proofs.lemmas.Fmt.{length-decimal-le}
use Rattle.dayfile.proofs.line.+digit_count.Goals as goal

pub overflow_add-result : goal.overflow_add-result
overflow_add-result t c =
    let short = length-decimal-le 20 (c.args.n / 10) (lit< tt) (omega arith) (omega arith) in
    omega (arith, c.digit_count.ensures)
