use Rattle.std.proofs.Common.{ℤ, subst, w64}
use Rattle.std.proofs.lemmas.Int.{to_z-of_z}
use Rattle.book.specs.Opening.{opening, Opened}
use Rattle.book.proofs.Lawful.{made_begins}
use Rattle.book.proofs.state.Book.open.Goals as goal

pub returns : goal.returns
returns c =
    let rights = c.args.rights.now in
    let a = subst (λ (l : ℤ). Opened c.args.room (opening l rights) c.begin.result) (to_z-of_z w64 c.args.limit c.ranges.limit) c.begin.ensures in
    record { answer = a; law = made_begins c.args.room (opening c.args.limit rights) c.begin.result a }
