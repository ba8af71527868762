-- Fewer bytes than a record has hold none.
use Rattle.std.proofs.Common.{◌≡◌, ℕ, ◌/◌, ◌<◌, length, take, sym, ap, ◌∙◌, div-lt_iff_lt-mul, arith}
use Rattle.std.proofs.Math.Seq.{take-nil}
use Rattle.std.specs.Simd.{first_chunks}
use Rattle.dayformat.proofs.records.Records.of.Goals as goal
use Rattle.dayformat.proofs.records.Records.of.Goals.{then-this-eq0-via-then-this-eq0, then-this-eq0-via-else-this-eq0+then-bytes}

pub returns-then-this-eq0 : goal.returns-then-this-eq0
returns-then-this-eq0 g c some =
    let size = g.row.SIZE in
    let bytes = c.args.bytes.now in
    let short : length bytes < size = elim c.then-this-eq0.branch [ then-this-eq0-via-then-this-eq0 w ↦ omega (arith, some) | then-this-eq0-via-else-this-eq0+then-bytes w ↦ omega arith ] in
    let below : length bytes / size < 1 = (div-lt_iff_lt-mul {k = size} {x = length bytes} {y = 1} some).1 (omega arith) in
    let none : length bytes / size ≡ 0 = omega arith in
    sym (ap (λ (n : ℕ). take g.row.MOST (first_chunks size n bytes)) none ∙ take-nil g.row.MOST)
