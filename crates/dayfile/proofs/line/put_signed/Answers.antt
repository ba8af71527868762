-- A sign, and then the digits.
use Rattle.std.proofs.Common.{◌≡◌, ◌∷◌, length, pos, ◌<ℤ◌, nat_abs, decimal, sym, ap, ◌∙◌, arith, rules, w64, to_z, of_z, to_z-of_z}
use Rattle.std.specs.Fmt.{signed_decimal}
use Rattle.dayfile.proofs.Digits.{signed_below}
use Rattle.dayfile.proofs.Writing.{wrote_then, wrote_as}
use Rattle.dayfile.proofs.line.put_signed.Goals as goal

pub put_digits-requires : goal.put_digits-requires
put_digits-requires c =
    let z = c.args.n in
    let e : to_z w64 (of_z w64 z) ≡ z = to_z-of_z c.ranges.n in
    let below : z <ℤ pos 0 = search rules in
    let is : 45 ∷ decimal c.unsigned_abs.result ≡ signed_decimal z = ap (λ n. 45 ∷ decimal n) (c.unsigned_abs.ensures.value ∙ ap nat_abs e) ∙ sym (signed_below z below) in
    omega (arith, c.put-after.ensures.place, c.requires, ap length is, ap length c.put-after.ensures.after)

pub returns-then-n-lt0 : goal.returns-then-n-lt0
returns-then-n-lt0 c =
    let z = c.args.n in
    let e : to_z w64 (of_z w64 z) ≡ z = to_z-of_z c.ranges.n in
    let below : z <ℤ pos 0 = search rules in
    let is : 45 ∷ decimal c.unsigned_abs.result ≡ signed_decimal z = ap (λ n. 45 ∷ decimal n) (c.unsigned_abs.ensures.value ∙ ap nat_abs e) ∙ sym (signed_below z below) in
    wrote_as is (wrote_then (omega arith) c.put-after.ensures c.put_digits.ensures)
