use Rattle.std.proofs.Common.{ap}
use Rattle.history.specs.Events.{withdrew}
use Rattle.book.proofs.Lawful.{lawful}
use Rattle.book.proofs.state.Book.withdraw.Goals as goal

pub returns : goal.returns
returns c =
    record {
      answer = c.release.ensures.answer;
      after = c.release.ensures.after;
      law = lawful _ _ _ (ap (withdrew c.args.number) c.release.ensures.answer) c.release.ensures.after;
    }
