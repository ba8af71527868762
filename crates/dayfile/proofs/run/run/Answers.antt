-- What play_file leaves is written over the first bytes, or else the closing line.
use Rattle.std.proofs.Common.{◌≤◌, sym, arith, rules}
use Rattle.dayfile.proofs.Going.{closing_short}
use Rattle.dayfile.proofs.Answering.{filled_first, answered}
use Rattle.dayfile.proofs.run.run.Goals as goal

pub put_closing-requires : goal.put_closing-requires
put_closing-requires c = omega (arith, closing_short 0 (omega arith))

pub returns-in-Some-clause-answered : goal.returns-in-Some-clause-answered
returns-in-Some-clause-answered c =
    answered _ c.args.answer.now c.in_ok-lines.lines.now _ _ (search rules) (search rules) c.in-Some.ensures

pub returns-in-None-clause-answered : goal.returns-in-None-clause-answered
returns-in-None-clause-answered c =
    let fits : c.put_closing.result ≤ 49152 = let p = c.put_closing.ensures.place in omega (arith, closing_short 0 (omega arith)) in
    answered _ c.args.answer.now c.play_file.new.answer _ _ (search rules) (search rules)
    (filled_first _ _ _ _ _ c.put_closing.ensures (sym c.in-None.ensures.0) fits)
