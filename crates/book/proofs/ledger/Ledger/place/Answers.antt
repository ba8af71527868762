use Rattle.std.proofs.Common.{rules, tests, ◌≡◌, subst, sym}
use Rattle.std.proofs.lemmas.Iterator.{YieldsList-from_slice}
use Rattle.std.proofs.lemmas.Iterator.Search.{position_from_yields_List}
use Rattle.std.specs.List.{position}
use Rattle.history.specs.Rows.{Placed}
use Rattle.history.proofs.Finding.{bears, placed}
use Rattle.book.proofs.ledger.Ledger.place.Goals as goal

pub returns : goal.returns
returns c =
    let n = c.args.number in
    let rows = c.args.self.now.rows.items in
    let e : c.position.result ≡ position (bears n) rows = position_from_yields_List (bears n) _ _ _ c.position.ensures.ran (YieldsList-from_slice rows (cc)) (λ x b q k. search (rules, tests)) in
    subst (Placed n rows) (sym e) (placed n rows)
