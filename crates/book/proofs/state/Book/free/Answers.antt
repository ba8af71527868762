use Rattle.std.proofs.Common.{◌≡◌, ◌∙◌, rules}
use Rattle.rights.specs.Covers.{free_of}
use Rattle.book.specs.Shown.{view}
use Rattle.book.proofs.Lawful.{sound}
use Rattle.book.proofs.state.Book.free.Goals as goal

pub returns : goal.returns
returns c =
    let b = c.args.self.now in
    let s : c.free_tenths.result ≡ free_of (view b).rights (view b).rows c.args.path = search rules in
    record { stated = s; history = λ o es l. s ∙ (sound o es b l).free c.args.path }
