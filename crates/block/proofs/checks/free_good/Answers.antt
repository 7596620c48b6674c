-- `checks::free_good` meets its contract. Assumes nothing.
use Rattle.std.proofs.Common.{◌∙◌, arith}
use Rattle.block.specs.Places.{reserved_at, reserved_bytes}
use Rattle.block.proofs.Ors.{or_part}
use Rattle.block.proofs.checks.free_good.Goals as goal

pub returns : goal.returns
returns c = rw (c.all_bits.ensures ∙ or_part c.args.b.now reserved_at reserved_bytes (omega arith) (λ x. x))
