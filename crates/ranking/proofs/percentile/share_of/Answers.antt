-- Neither the product nor the sum is above the share of n, which is at most n.
use Rattle.std.proofs.Common.{arith}
use Rattle.ranking.proofs.Shares.{share_high, share_parts}
use Rattle.ranking.proofs.percentile.share_of.Goals as goal

pub overflow_mul-result : goal.overflow_mul-result
overflow_mul-result c =
    let is = share_parts c.args.p c.args.n in
    let high = share_high c.args.p c.args.n c.requires in
    omega arith

pub overflow_add-result : goal.overflow_add-result
overflow_add-result c =
    let is = share_parts c.args.p c.args.n in
    let high = share_high c.args.p c.args.n c.requires in
    omega arith

pub returns : goal.returns
returns c =
    let is = share_parts c.args.p c.args.n in
    omega arith
