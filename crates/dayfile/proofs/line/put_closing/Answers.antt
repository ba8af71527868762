-- The pieces of the closing line, one after another.
use Rattle.std.proofs.Common.{decimal, append_assoc, arith}
use Rattle.dayfile.specs.Puts.{Wrote}
use Rattle.dayfile.proofs.Writing.{wrote_then, wrote_as}
use Rattle.dayfile.proofs.line.put_closing.Goals as goal

pub returns : goal.returns
returns c =
    let b : Wrote _ _ (decimal c.args.place) _ _ = record { place = c.put_digits-b.ensures.place; after = c.put_digits-b.ensures.after } in
    wrote_as (simp append_assoc)
    (wrote_then (omega arith) (wrote_then (omega arith) c.put-a.ensures b) c.put.ensures)
