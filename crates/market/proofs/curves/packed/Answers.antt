use Rattle.std.proofs.Common.{◌≡◌, ◌-◌, ◌++◌, length, drop, replicate, refl, ap, ◌∙◌}
use Rattle.std.proofs.lemmas.List.{drop-replicate}
use Rattle.market.specs.declared.step.Step.{Step}
use Rattle.market.specs.Reading.{blank}
use Rattle.market.proofs.curves.packed.Goals as goal

pub returns : goal.returns
returns c =
    let xs = c.args.steps.now in
    let d = c.default-held.result in
    let e : d ≡ blank = rw (c.default-held.ensures.0, c.default-held.ensures.1) refl in
    ap (λ zs. zs ++ drop (length xs) (replicate 10 d)) c.copy_from_slice.ensures.after
    ∙ ap (λ zs. xs ++ zs) (drop-replicate (length xs) 10 d ∙ ap (λ (x : Step). replicate (10 - length xs) x) e)
