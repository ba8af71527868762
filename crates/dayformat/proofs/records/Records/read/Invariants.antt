use Rattle.std.proofs.Common.{◌≡◌, map, take}
use Rattle.dayformat.proofs.records.Records.read.Given as goal

-- the records so far are read
abbrev pub invariant-loop-record : goal.invariant-loop-record
invariant-loop-record g l = l.read.items ≡ map g.T.Packed.of (take l.record-index l.self.bytes.now)
