use Rattle.std.proofs.Common.{ap}
use Rattle.history.specs.declared.batch.BatchCall.TheVariants.{Keep}
use Rattle.history.specs.Events.{batched}
use Rattle.book.proofs.Lawful.{lawful}
use Rattle.book.proofs.state.Book.keep_batch.Goals as goal

pub returns : goal.returns
returns c =
    record {
      answer = c.on_batch.ensures.answer;
      after = c.on_batch.ensures.after;
      law = lawful _ _ _ (ap (batched Keep) c.on_batch.ensures.answer) c.on_batch.ensures.after;
    }
