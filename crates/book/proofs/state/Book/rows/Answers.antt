use Rattle.std.proofs.Common.{◌∙◌}
use Rattle.book.proofs.Lawful.{sound}
use Rattle.book.proofs.state.Book.rows.Goals as goal

pub returns : goal.returns
returns c =
    record { stated = c.as_slice.ensures.value; history = λ o es l. c.as_slice.ensures.value ∙ (sound o es c.args.self.now l).rows }
