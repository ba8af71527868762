use Rattle.std.proofs.Common.{◌≡◌, ℤ, ap, ◌∙◌, w64}
use Rattle.std.proofs.lemmas.Int.{to_z-of_z}
use Rattle.history.specs.Answers.{limit_answer}
use Rattle.history.specs.Events.{limited, after}
use Rattle.book.specs.Shown.{view}
use Rattle.book.proofs.Lawful.{lawful}
use Rattle.book.proofs.state.Book.new_limit.Goals as goal

pub returns : goal.returns
returns c =
    let b = c.args.self.now in
    let e = to_z-of_z w64 c.args.limit c.ranges.limit in
    let a : c.set_limit.result ≡ limit_answer (view b) c.args.limit = c.set_limit.ensures.answer ∙ ap (limit_answer (view b)) e in
    let f : view c.set_limit.new.self ≡ after (view b) (limited c.args.limit c.set_limit.result)
    = c.set_limit.ensures.after ∙ ap (λ (l : ℤ). after (view b) (limited l c.set_limit.result)) e in
    record { answer = a; after = f; law = lawful b _ c.set_limit.new.self (ap (limited c.args.limit) a) f }
