use Rattle.std.proofs.Common.{◌≡◌, ◌+◌, length}
use Rattle.std.specs.Io.KnownBytes.{Consumes}
use Rattle.mon_app.proofs.input.read_all.Given as goal

-- what was read so far is what the reader lost, in this many reads that came to no end and did not
-- fail
abbrev pub invariant-loop : goal.invariant-loop
invariant-loop g l = record {
  room : length l.chunk.items ≡ 65536;
  read : Consumes (g.R.Read.remaining l.fn.reader.reader) (g.R.Read.remaining l.reader.reader) l.octets.items;
  reads : l.reader.counts.reads ≡ l.fn.reader.counts.reads + l.counter;
  ends : l.reader.counts.ends ≡ l.fn.reader.counts.ends;
  failures : l.reader.counts.failures ≡ l.fn.reader.counts.failures;
}
