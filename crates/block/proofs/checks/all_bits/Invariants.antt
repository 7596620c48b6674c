-- `checks::all_bits`: what is together so far are the bits of the bytes passed. Assumes nothing.
use Rattle.std.proofs.Common.{◌≡◌}
use Rattle.state.specs.Meaning.{entry}
use Rattle.block.specs.Tests.{or_of}
use Rattle.block.proofs.checks.all_bits.Given as goal

abbrev pub invariant-loop-byte : goal.invariant-loop-byte
invariant-loop-byte l = l.x ≡ or_of (entry l.bytes) l.byte-index
