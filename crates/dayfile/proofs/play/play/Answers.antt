-- A turn of the loop writes the line of a call; what follows the loop is the end of the file or the closing line.
use Rattle.std.proofs.Common.{◌≡◌, ◌-◌, ◌≤◌, ◌⊎◌, length, ℤ, None, refl, ap, inl, inr, ◌∙◌, arith, rules, w64, to_z, of_z, to_z-of_z}
use Rattle.dayformat.specs.Calls.{first_call}
use Rattle.dayfile.specs.Lines.{line}
use Rattle.dayfile.proofs.Going.{line_short, closing_short, going_more, going_done, going_ends}
use Rattle.dayfile.proofs.play.play.Goals as goal
use Rattle.dayfile.proofs.play.play.Goals.{else-loop-test, then-loop-test+in_default}

pub put_line-at-requires : goal.put_line-at-requires
put_line-at-requires g c =
    let x = c.exposure.result in
    let e : to_z w64 (of_z w64 x) ≡ x = to_z-of_z {w = w64} {z = x} (search rules) in
    let s : length (line c.letter_of-letter.result c.returned-number.result x) ≤ 24 = line_short c.letter_of-letter.result c.returned-number.result x c.returned-number.ensures.short c.exposure.ensures.bounded in
    let f = c.loop.invariant.0.fits in
    omega (arith, s, f, ap (λ (z : ℤ). length (line c.letter_of-letter.result c.returned-number.result z)) e)

pub put_closing-requires : goal.put_closing-requires
put_closing-requires g c =
    let f = c.loop.invariant.0.fits in
    omega (arith, f, closing_short (c.args.size - length c.loop.rest.now) (omega arith))

pub loop-preserved : goal.loop-preserved
loop-preserved g c =
    let x = c.exposure.result in
    let e : to_z w64 (of_z w64 x) ≡ x = to_z-of_z {w = w64} {z = x} (search rules) in (
      going_more c.loop.invariant.0 c.loop.invariant.1 (omega arith) c.in-Some.ensures.reads c.put_line-at.ensures (ap (λ (z : ℤ). line c.letter_of-letter.result c.returned-number.result z) e) c.letter_of-letter.ensures (c.returned-number.ensures.value ∙ c.apply.ensures.number) c.returned-number.ensures.short
          (search rules) (search rules) c.apply.ensures.after,
      c.apply.ensures.kept ∙ c.loop.invariant.1,
    )

pub returns-then-is_empty : goal.returns-then-is_empty
returns-then-is_empty g c = going_done c.loop.invariant.0 (search rules)

pub returns : goal.returns
returns g c =
    let why : (2000 - c.loop.counter ≡ 0) ⊎ (first_call c.loop.rest.now ≡ None) = elim c.loop-test.branch [ else-loop-test w ↦ inl (search rules) | then-loop-test+in_default w ↦ inr (search rules) ] in
    going_ends c.loop.invariant.0 (search rules) why c.requires.short c.put_closing.ensures refl
