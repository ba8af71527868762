use Rattle.std.proofs.Common.{ap}
use Rattle.history.specs.Events.{submitted}
use Rattle.book.proofs.Lawful.{lawful}
use Rattle.book.proofs.state.Book.submit.Goals as goal

pub returns : goal.returns
returns g c =
    record {
      answer = c.enter.ensures.answer;
      after = c.enter.ensures.after;
      kept = c.enter.ensures.kept;
      law = lawful _ _ _ (ap (submitted c.args.submission (g.R.Rule.worth c.args.rule.now)) c.enter.ensures.answer) c.enter.ensures.after;
    }
