use Rattle.std.proofs.Common.{ℕ, pos, sym, refl, ap, ◌∙◌, arith}
use Rattle.rights.specs.declared.row.Row.{Row}
use Rattle.history.specs.Rows.{find}
use Rattle.history.specs.Sums.{grains}
use Rattle.book.specs.Shown.{view}
use Rattle.book.proofs.Answering.{stood}
use Rattle.history.proofs.Exposures.{grains_in}
use Rattle.history.proofs.Finding.{standing, not_standing}
use Rattle.book.proofs.Submitting.{out_of_range, past_limit, within_limit}
use Rattle.book.proofs.Totals.{reads_valued}
use Rattle.book.proofs.state.Book.weigh.Goals as goal

pub returns-then-is_some : goal.returns-then-is_some
returns-then-is_some g c =
    let s = c.args.submission.now in
    let d : Row = record { submission = s; exposure = pos 0; cover = 0 } in
    let f = standing c.number.result (view c.args.self.now).rows c.place.result d c.place.ensures (sym c.if-is_some.ensures) in
    record {
      answer = stood (view c.args.self.now) s (g.R.Rule.worth c.args.rule.now) f.0 (ap (λ (n : ℕ). find n (view c.args.self.now).rows) (sym c.number.ensures) ∙ f.1);
      fits = tt;
      kept = refl;
    }

pub overflow_add-total : goal.overflow_add-total
overflow_add-total g c =
    let r = reads_valued c.args.self.now c.in_ok-exposure.exposure _ c.in_ok-exposure.ensures.answer (g.R.Rule.within c.args.rule.now c.args.submission.now c.cover-cover.result) in
    r.raise_fits

pub passes-requires : goal.passes-requires
passes-requires g c =
    let r = reads_valued c.args.self.now c.in_ok-exposure.exposure _ c.in_ok-exposure.ensures.answer (g.R.Rule.within c.args.rule.now c.args.submission.now c.cover-cover.result) in
    record { total = r.total_wide; change = r.change_wide }

pub overflow_sub-result : goal.overflow_sub-result
overflow_sub-result g c =
    let r = reads_valued c.args.self.now c.in_ok-exposure.exposure _ c.in_ok-exposure.ensures.answer (g.R.Rule.within c.args.rule.now c.args.submission.now c.cover-cover.result) in
    r.left_fits

pub returns-then-out_of_range : goal.returns-then-out_of_range
returns-then-out_of_range g c =
    let x = c.in_ok-exposure.exposure in
    let r = reads_valued c.args.self.now c.in_ok-exposure.exposure _ c.in_ok-exposure.ensures.answer (g.R.Rule.within c.args.rule.now c.args.submission.now c.cover-cover.result) in
    record {
      answer = out_of_range c.args.self.now c.args.submission.now (g.R.Rule.worth c.args.rule.now) c.number.result c.cover-cover.result x
          c.number.ensures (not_standing c.number.result (view c.args.self.now).rows c.place.result c.place.ensures (sym c.if-is_some.ensures)) (omega arith) c.cover-cover.ensures c.in_ok-exposure.ensures.answer r (sym c.if-out_of_range.ensures);
      fits = tt;
      kept = c.value.ensures.kept;
    }

pub returns-then-passes : goal.returns-then-passes
returns-then-passes g c =
    let x = c.in_ok-exposure.exposure in
    let r = reads_valued c.args.self.now c.in_ok-exposure.exposure _ c.in_ok-exposure.ensures.answer (g.R.Rule.within c.args.rule.now c.args.submission.now c.cover-cover.result) in
    record {
      answer = past_limit c.args.self.now c.args.submission.now (g.R.Rule.worth c.args.rule.now) c.number.result c.cover-cover.result x
          c.number.ensures (not_standing c.number.result (view c.args.self.now).rows c.place.result c.place.ensures (sym c.if-is_some.ensures)) (omega arith) c.cover-cover.ensures c.in_ok-exposure.ensures.answer r
          (sym c.if-out_of_range.ensures) (sym c.if-passes.ensures);
      fits = tt;
      kept = c.value.ensures.kept;
    }

pub returns : goal.returns
returns g c =
    let x = c.in_ok-exposure.exposure in
    let r = reads_valued c.args.self.now c.in_ok-exposure.exposure _ c.in_ok-exposure.ensures.answer (g.R.Rule.within c.args.rule.now c.args.submission.now c.cover-cover.result) in
    record {
      answer = within_limit c.args.self.now c.args.submission.now (g.R.Rule.worth c.args.rule.now) c.number.result c.cover-cover.result x
          c.number.ensures (not_standing c.number.result (view c.args.self.now).rows c.place.result c.place.ensures (sym c.if-is_some.ensures)) (omega arith) c.cover-cover.ensures c.in_ok-exposure.ensures.answer r
          (sym c.if-out_of_range.ensures) (sym c.if-passes.ensures);
      fits = (omega arith, ap grains r.change_is ∙ grains_in x r.small);
      kept = c.value.ensures.kept;
    }
