-- A book that opens is played under the rule, from its start.
use Rattle.std.proofs.Common.{◌≡◌, Some, subst, ◌∙◌, rules, w64, to_z, of_z}
use Rattle.std.specs.Result.{result_ok}
use Rattle.book.specs.Opening.{opening, Opened}
use Rattle.book.specs.Shown.{view}
use Rattle.dayformat.specs.Headers.{lent_head}
use Rattle.dayfile.specs.Puts.{Filled}
use Rattle.dayfile.proofs.Opening.{opened_as, under_opened}
use Rattle.dayfile.proofs.run.open_and_play.Goals as goal

pub returns : goal.returns
returns g c =
    let h = lent_head c.args.header.now in
    let read = c.deref.ensures.0 ∙ c.read-rights.ensures in
    let limit : to_z w64 (of_z w64 h.limit) ≡ h.limit = search rules in
    let a = subst (λ l. Opened c.args.room (opening l h.rights) c.open.result) limit (subst (λ rs. Opened c.args.room (opening (to_z w64 (of_z w64 h.limit)) rs) c.open.result) read c.open.ensures.answer) in
    let e : result_ok c.open.result ≡ Some c.in_ok-book.book = search rules in
    let o = opened_as c.args.room (opening h.limit h.rights) c.open.result c.in_ok-book.book a e in
    subst (λ t. Filled t c.args.answer.now c.play.result c.play.new.answer)
    (under_opened c.args.file.now h (g.R.Rule.worth c.args.rule.now) (view c.in_ok-book.book) o) c.play.ensures
