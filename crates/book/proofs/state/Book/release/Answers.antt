use Rattle.std.proofs.Common.{Ok, Err, sym, refl, ap, ◌∙◌}
use Rattle.std.proofs.lemmas.Result.{err_from_is_err_and}
use Rattle.history.specs.declared.refusal.Refusal.TheVariants as refusal
use Rattle.history.specs.Answers.{over, released}
use Rattle.book.specs.Shown.{view}
use Rattle.book.proofs.Answering.{released_over, released_under}
use Rattle.history.proofs.Finding.{no_place}
use Rattle.book.proofs.Totals.{stands_at}
use Rattle.book.proofs.state.Book.release.Goals as goal

pub overflow_sub-exposure : goal.overflow_sub-exposure
overflow_sub-exposure c =
    let w = stands_at c.args.self.now c.args.number c.place.result c.in_ok-i.i c.index-row.result.now c.place.ensures c.in_ok-i.ensures.ok_part c.index-row.ensures in
    w.reads.negation_fits

pub passes-requires : goal.passes-requires
passes-requires c =
    let w = stands_at c.args.self.now c.args.number c.place.result c.in_ok-i.i c.index-row.result.now c.place.ensures c.in_ok-i.ensures.ok_part c.index-row.ensures in
    let r = w.reads in
    record { total = r.total_wide; change = r.negation_wide }

pub overflow_sub-result : goal.overflow_sub-result
overflow_sub-result c =
    let w = stands_at c.args.self.now c.args.number c.place.result c.in_ok-i.i c.index-row.result.now c.place.ensures c.in_ok-i.ensures.ok_part c.index-row.ensures in
    w.reads.left_fits

pub returns-then-passes : goal.returns-then-passes
returns-then-passes c =
    let w = stands_at c.args.self.now c.args.number c.place.result c.in_ok-i.i c.index-row.result.now c.place.ensures c.in_ok-i.ensures.ok_part c.index-row.ensures in
    let r = w.reads in
    let o = (λ i. over (sym r.limit_is i) (sym r.total_is i) (sym r.negation_is i)) ∙ sym c.if-passes.ensures in
    record { answer = (λ i. Err (refusal.WithdrawOver (r.change_is i) (r.left_is i))) ∙ sym (released_over (view c.args.self.now) c.args.number c.index-row.result.now w.found o); after = refl }

pub returns : goal.returns
returns c =
    let w = stands_at c.args.self.now c.args.number c.place.result c.in_ok-i.i c.index-row.result.now c.place.ensures c.in_ok-i.ensures.ok_part c.index-row.ensures in
    let r = w.reads in
    let o = (λ i. over (sym r.limit_is i) (sym r.total_is i) (sym r.negation_is i)) ∙ sym c.if-passes.ensures in
    let k = c.take_out.ensures ∙ sym w.taken in
    record {
      answer = ap Ok r.change_is ∙ sym (released_under (view c.args.self.now) c.args.number c.index-row.result.now w.found o);
      after = λ j. record { limit = c.args.self.now.limit; rights = c.args.self.now.rights.items; rows = k j; restores = (view c.args.self.now).restores };
    }

pub returns-in_err-i : goal.returns-in_err-i
returns-in_err-i c =
    let v = view c.args.self.now in
    let p = err_from_is_err_and c.from_residual.result c.from_residual.ensures.1 in
    let u = no_place c.args.number v.rows c.place.result c.in_err-i.field-0.0 refusal.NotStanding c.place.ensures c.in_err-i.ensures.value in
    record { answer = rw (p.1, p.2, u.1) (sym (ap (released v) u.0)); after = rw p.1 refl }
