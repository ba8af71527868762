use Rattle.std.proofs.Common.{◌≡◌, ◌∙◌, arith, w64, to_z, of_z}
use Rattle.std.proofs.lemmas.Int.{ints}
use Rattle.book.proofs.Lawful.{sound}
use Rattle.book.proofs.state.Book.limit.Goals as goal

pub returns : goal.returns
returns c =
    let b = c.args.self.now in
    let e : to_z w64 (of_z w64 b.limit) ≡ b.limit = omega (arith, ints, b.low, b.high) in
    record { stated = e; history = λ o es l. e ∙ (sound o es b l).limit }
