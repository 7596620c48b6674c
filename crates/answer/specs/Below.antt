-- The rows that an answer names are below 16. Assumes nothing.
use Rattle.std.specs.Prelude.{◌<◌}
use Rattle.answer.specs.declared.Answer.{Answer}
use Rattle.answer.specs.declared.Closing.{Closing}
use Rattle.answer.specs.declared.Closing.TheVariants.{Nothing, Hard, Firm}
use Rattle.answer.specs.declared.Runner.{Runner}
use Rattle.answer.specs.declared.Runner.TheVariants.{Hard, Firm, Soft, Idle}

-- the row that runs
abbrev pub RunnerBelow : Runner → Type 0
RunnerBelow (Hard i band) = i < 16
RunnerBelow (Firm t) = Unit {0}
RunnerBelow Soft = Unit {0}
RunnerBelow Idle = Unit {0}

-- the row whose job closed
abbrev pub ClosingBelow : Closing → Type 0
ClosingBelow Nothing = Unit {0}
ClosingBelow (Hard i how) = i < 16
ClosingBelow (Firm t how) = Unit {0}

-- both of an answer
abbrev pub AnswerBelow : Answer → Type 0
AnswerBelow a = RunnerBelow a.runner × ClosingBelow a.closing
