-- The pieces of a line, one after another.
use Rattle.std.proofs.Common.{decimal, ap, append_assoc, arith, to_z-of_z}
use Rattle.std.specs.Fmt.{signed_decimal}
use Rattle.dayfile.specs.Puts.{Wrote}
use Rattle.dayfile.proofs.Writing.{wrote_then, wrote_as}
use Rattle.dayfile.proofs.line.put_line.Goals as goal

pub returns : goal.returns
returns c =
    let b : Wrote _ _ (decimal c.args.number) _ _ = record { place = c.put_digits-b.ensures.place; after = c.put_digits-b.ensures.after } in
    let e : Wrote _ _ (signed_decimal c.args.exposure) _ _ = wrote_as (ap signed_decimal (to_z-of_z c.ranges.exposure)) (record { place = c.put_signed-e.ensures.place; after = c.put_signed-e.ensures.after }) in
    wrote_as (simp append_assoc)
    (wrote_then (omega arith) (wrote_then (omega arith) (wrote_then (omega arith) (wrote_then (omega arith) c.put-a.ensures b) c.put-d.ensures) e) c.put.ensures)
