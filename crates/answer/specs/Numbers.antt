-- The answer in numbers: every case of every enum. Rows are counted from 1 here; 0 stands where a number says nothing. Assumes nothing.
use Rattle.std.specs.Prelude.{ℕ, ◌+◌, Bool, true, false}
use Rattle.answer.specs.declared.Band.{Band}
use Rattle.answer.specs.declared.Band.TheVariants.{Upper, Lower}
use Rattle.answer.specs.declared.Closing.{Closing}
use Rattle.answer.specs.declared.Closing.TheVariants.{Nothing, Hard, Firm}
use Rattle.answer.specs.declared.ClosingNumbers.{ClosingNumbers}
use Rattle.answer.specs.declared.How.{How}
use Rattle.answer.specs.declared.How.TheVariants.{Done, Spent}
use Rattle.answer.specs.declared.Runner.{Runner}
use Rattle.answer.specs.declared.Runner.TheVariants.{Hard, Firm, Soft, Idle}
use Rattle.answer.specs.declared.RunnerNumbers.{RunnerNumbers}

-- the row at k
abbrev pub row_number : ℕ → ℕ
row_number k = k + 1

-- a flag
abbrev pub flag_number : Bool → ℕ
flag_number true = 1
flag_number false = 0

-- the runner

-- its band
abbrev pub band_number : Band → ℕ
band_number Upper = 1
band_number Lower = 2

-- its kind, with row and band or ticket
abbrev pub runner_numbers : Runner → RunnerNumbers
runner_numbers (Hard k band) = record { kind = 1; row = row_number k; band = band_number band; ticket = 0 }
runner_numbers (Firm t) = record { kind = 2; row = 0; band = 0; ticket = t }
runner_numbers Soft = record { kind = 3; row = 0; band = 0; ticket = 0 }
runner_numbers Idle = record { kind = 4; row = 0; band = 0; ticket = 0 }

-- the closing

-- how it closed
abbrev pub how_number : How → ℕ
how_number Done = 1
how_number Spent = 2

-- its kind, with row or ticket, and how
abbrev pub closing_numbers : Closing → ClosingNumbers
closing_numbers Nothing = record { kind = 0; row = 0; how = 0; ticket = 0 }
closing_numbers (Hard k how) = record { kind = 1; row = row_number k; how = how_number how; ticket = 0 }
closing_numbers (Firm t how) = record { kind = 2; row = 0; how = how_number how; ticket = t }
