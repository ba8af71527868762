-- The four chunks that the bytes open with are the rates.
use Rattle.std.proofs.Common.{◌≡◌, ℕ, ◌*◌, ◌<◌, ◌≤◌, ◌/◌, [], length, get_or, ap, w32, to_z, rules, arith, lit<}
use Rattle.dayformat.specs.Bytes.{le4, le4_signed}
use Rattle.std.proofs.lemmas.List.{take_rest}
use Rattle.dayformat.proofs.Chunks.{number_at, rates_in}
use Rattle.dayformat.proofs.headers.read_rates.Goals as goal

pub returns : goal.returns
returns c =
    let bs = c.args.bytes.now in
    let ws = c.as_chunks.result.0.now in
    let long : 4 ≤ length bs / 4 = omega arith in
    let number : (i : ℕ) → i < 4 → to_z w32 (le4 (get_or ws i []) 0) ≡ le4_signed bs (4 * i) =
    λ i h. ap (to_z w32) (number_at bs ws (length bs / 4) i c.as_chunks.ensures.front (omega arith)) in
    let bid = number 0 (lit< tt) in
    let offer = number 1 (lit< tt) in
    let three_part = number 2 (lit< tt) in
    let path = number 3 (lit< tt) in
    rates_in bs _ (search rules) (search rules) (search rules) (search rules) (take_rest bs 16) (omega arith)
