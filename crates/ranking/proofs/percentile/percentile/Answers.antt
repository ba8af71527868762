-- The counts of a candidate decide whether it fits. The first that fits is the answer; the loop cannot
-- run out, since one fits.
use Rattle.std.proofs.Common.{◌≡◌, ℕ, ◌+◌, ◌<◌, Bool, true, false, not, List, length, get_or, Some, None, Ok, Err, Option, sym, ap, ◌∙◌, subst, inl, inr, arith, rules, below_more}
use Rattle.std.proofs.lemmas.List.{get_or_read}
use Rattle.ranking.specs.Counts.{share}
use Rattle.ranking.specs.Percentile.{on_day, Least, Answered, Unanswered}
use Rattle.ranking.proofs.Worked.{percentile_is}
use Rattle.ranking.proofs.Shares.{share_low, share_high}
use Rattle.ranking.proofs.Tallies.{one, one_yes, one_no, one_none, tally_turn, all_counted}
use Rattle.ranking.proofs.Candidates.{Fits, under, least_fits, equal_fits, some_fits, within_some}
use Rattle.ranking.proofs.percentile.percentile.Goals as goal
use Rattle.ranking.proofs.percentile.percentile.Goals.{in-Some-counted+then-not-not_after, then-not_after, else-not_after, in-Some-counted+else-not-not_after, in_default-counted}

one_before : {E : Type 0} (le : E → E → Bool) (x : E) (o : Option E) (z : E) (b : Bool) → o ≡ Some z → b ≡ le x z → b ≡ false → one (under le x) o ≡ 1
one_before le x o z b is made f = one_yes (under le x) o z (not b) is (ap not made) (ap not f)

one_not_before : {E : Type 0} (le : E → E → Bool) (x : E) (o : Option E) (z : E) (b : Bool) → o ≡ Some z → b ≡ le x z → b ≡ true → one (under le x) o ≡ 0
one_not_before le x o z b is made t = one_no (under le x) o z (not b) is (ap not made) (ap not t)

-- the element that stands at an index
at_day : {E : Type 0} (xs : List (Option E)) (i : ℕ) (o : Option E) (x : E) → i < length xs → o ≡ get_or xs i o → o ≡ Some x → on_day xs i ≡ Some x
at_day xs i o x within is some = sym (get_or_read xs i o within is None) ∙ some

same_some : {E : Type 0} (o : Option E) (x y : E) → o ≡ Some x → o ≡ Some y → x ≡ y
same_some o x y p q = cc

pub loop-counted-preserved : goal.loop-counted-preserved
loop-counted-preserved g c =
    let le = g.E.Ordered.upto in
    let x = c.in-Some.candidate in
    let xs = c.args.days.now in
    let o = c.counted-item.result in
    let n = c.loop-counted.counted-index in
    let at-most : g.row.E.Denot → Bool = λ z. le z x in
    let below : g.row.E.Denot → Bool = under le x in
    let reached : c.match-counted.reached ≡ c.loop-counted.reached + one at-most o =
    elim c.match-counted.branch [
      | in-Some-counted+then-not-not_after w ↦
          elim w.if-not_after.branch [
            | then-not_after v ↦ omega (arith, w.reached-is, v.reached-is, one_yes at-most o w.in-Some-counted.other w.not_after.result w.in-Some-counted.is w.not_after.ensures v.if-not_after.true)
            | else-not_after v ↦ omega (arith, w.reached-is, v.reached-is, one_no at-most o w.in-Some-counted.other w.not_after.result w.in-Some-counted.is w.not_after.ensures v.if-not_after.false)
          ]
      | in-Some-counted+else-not-not_after w ↦
          elim w.if-not_after.branch [
            | then-not_after v ↦ omega (arith, w.reached-is, v.reached-is, one_yes at-most o w.in-Some-counted.other w.not_after.result w.in-Some-counted.is w.not_after.ensures v.if-not_after.true)
            | else-not_after v ↦ omega (arith, w.reached-is, v.reached-is, one_no at-most o w.in-Some-counted.other w.not_after.result w.in-Some-counted.is w.not_after.ensures v.if-not_after.false)
          ]
      | in_default-counted w ↦ omega (arith, w.reached-is, one_none at-most o w.in_default-counted.is)
    ] in
    let before : c.match-counted.before ≡ c.loop-counted.before + one below o =
    elim c.match-counted.branch [
      | in-Some-counted+then-not-not_after w ↦
          omega (arith, w.before-is, one_before le x o w.in-Some-counted.other w.not_after-in-Some-counted.result w.in-Some-counted.is w.not_after-in-Some-counted.ensures w.if-not-not_after.true)
      | in-Some-counted+else-not-not_after w ↦
          omega (arith, w.before-is, one_not_before le x o w.in-Some-counted.other w.not_after-in-Some-counted.result w.in-Some-counted.is w.not_after-in-Some-counted.ensures w.if-not-not_after.false)
      | in_default-counted w ↦ omega (arith, w.before-is, one_none below o w.in_default-counted.is)
    ] in
    let a = tally_turn at-most xs n c.loop-counted.reached c.match-counted.reached o c.loop-counted-test.true c.counted-item.is c.loop-counted.invariant.0 c.loop-counted.invariant.2 reached in
    let b = tally_turn below xs n c.loop-counted.before c.match-counted.before o c.loop-counted-test.true c.counted-item.is c.loop-counted.invariant.1 c.loop-counted.invariant.3 before in
    (a.0, b.0, a.1, b.1)

pub loop-day-preserved : goal.loop-day-preserved
loop-day-preserved g c e y lt is fits =
    let le = g.E.Ordered.upto in
    let x = c.in-Some.candidate in
    let xs = c.args.days.now in
    let k = c.share_of-k.result in
    let d = c.loop-day.day-index in
    let here : on_day xs d ≡ Some x = at_day xs d c.day-item.result x (omega arith) c.day-item.is c.in-Some.is in
    let reached = all_counted (λ z. le z x) xs c.loop-counted.counted-index c.loop-counted.reached c.loop-counted-test.false c.loop-counted.invariant.0 in
    let before = all_counted (under le x) xs c.loop-counted.counted-index c.loop-counted.before c.loop-counted-test.false c.loop-counted.invariant.1 in
    let not-here : Fits le xs k x → ⊥ =
    λ f. elim c.else-k-reached.either [
      | inl h ↦ omega (arith, h.1, before, f.few)
      | inr h ↦ omega (arith, h, reached, f.enough)
    ] in
    let P : ℕ → Type 0 = λ n. (z : g.row.E.Denot) → on_day xs n ≡ Some z → Fits le xs k z → ⊥ in
    let Q : g.row.E.Denot → Type 0 = λ z. Fits le xs k z → ⊥ in
    below_more P d (λ n h z. c.loop-day.invariant n z h) (λ z at. subst Q (same_some (on_day xs d) x z here at) not-here) e lt y is fits

pub returns-then-before-k : goal.returns-then-before-k
returns-then-before-k g c =
    let le = g.E.Ordered.upto in
    let total = g.met.E.Ordered.total in
    let x = c.in-Some.candidate in
    let xs = c.args.days.now in
    let p = c.args.p in
    let k = c.share_of-k.result in
    let d = c.loop-day.day-index in
    let here : on_day xs d ≡ Some x = at_day xs d c.day-item.result x (omega arith) c.day-item.is c.in-Some.is in
    let reached = all_counted (λ z. le z x) xs c.loop-counted.counted-index c.loop-counted.reached c.loop-counted-test.false c.loop-counted.invariant.0 in
    let before = all_counted (under le x) xs c.loop-counted.counted-index c.loop-counted.before c.loop-counted-test.false c.loop-counted.invariant.1 in
    let fits : Fits le xs k x = record { enough = omega (arith, c.if-k-reached.true, reached); few = omega (arith, c.if-before-k.true, before) } in
    let P : ℕ → Type 0 = λ m. Least le xs m d x in
    let answered : Answered le xs p x = record {
      from_one = omega arith;
      to_hundred = omega arith;
      day = d;
      answers = subst P (◌∙◌ {b = share p c.count_present-n.result} c.share_of-k.ensures (ap (share p) c.count_present-n.ensures.is)) (record {
        within = c.loop-day-test.true;
        stands = here;
        enough = fits.enough;
        least = least_fits le total xs k x fits;
        earliest = λ e y lt is a b. c.loop-day.invariant e y lt is (equal_fits le total xs k x y fits a b);
      });
    } in
    record {
      is = ◌∙◌ {b = Ok x} (search rules) (percentile_is le xs p (Ok x) answered);
      means = answered;
    }

pub returns-after-loop-day : goal.returns-after-loop-day
returns-after-loop-day g c =
    let le = g.E.Ordered.upto in
    let xs = c.args.days.now in
    let n = c.count_present-n.result in
    let low = share_low c.args.p n (omega arith) (omega arith) in
    let high = share_high c.args.p n (omega arith) in
    let found = some_fits le g.met.E.Ordered.total xs c.share_of-k.result (omega (arith, low, c.share_of-k.ensures)) (omega (arith, high, c.share_of-k.ensures, c.count_present-n.ensures.is)) in
    let within = within_some xs found.0 found.1 found.2 in
    absurd (c.loop-day.invariant found.0 found.1 (omega (arith, within, c.loop-day-test.false)) found.2 found.3)

pub returns-then-p-lt1 : goal.returns-then-p-lt1
returns-then-p-lt1 g c =
    let none : Unanswered c.args.days.now c.args.p = inr (elim c.then-p-lt1.either [ inl h ↦ inl h | inr h ↦ inr h.1 ]) in
    record { is = percentile_is g.E.Ordered.upto c.args.days.now c.args.p (Err (record {})) none; means = none }

pub returns-then-n-eq0 : goal.returns-then-n-eq0
returns-then-n-eq0 g c =
    let none : Unanswered c.args.days.now c.args.p = inl (omega (arith, c.count_present-n.ensures.is)) in
    record { is = percentile_is g.E.Ordered.upto c.args.days.now c.args.p (Err (record {})) none; means = none }
