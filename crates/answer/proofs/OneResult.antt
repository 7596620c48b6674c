-- One possible result of each public function and of each conversion: every One (..) holds the right side of an equation in a contract. Assumes nothing.
use Prim.Native.Nat.{ℕ}
use Rattle.rules.specs.OneResult.{One}
use Rattle.rules.proofs.OneResult.{one_result}
use Rattle.answer.specs.Numbers.{band_number, closing_numbers, how_number, row_number, runner_numbers}
use Rattle.answer.specs.declared.Band.{Band}
use Rattle.answer.specs.declared.Closing.{Closing}
use Rattle.answer.specs.declared.How.{How}
use Rattle.answer.specs.declared.Runner.{Runner}

pub row_number_lem : (k : ℕ) → One (row_number k)
row_number_lem k = one_result

pub runner_numbers_lem : (runner : Runner) → One (runner_numbers runner)
runner_numbers_lem runner = one_result

pub closing_numbers_lem : (closing : Closing) → One (closing_numbers closing)
closing_numbers_lem closing = one_result

-- the conversions of a band and of how a job closed
pub band_number_lem : (band : Band) → One (band_number band)
band_number_lem band = one_result

pub how_number_lem : (how : How) → One (how_number how)
how_number_lem how = one_result
