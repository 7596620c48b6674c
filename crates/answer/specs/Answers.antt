-- The answer in memory beside document 01's: every case of every enum. Assumes nothing.
use Rattle.rules.specs.Tick as rules
use Rattle.answer.specs.declared.Band.{Band}
use Rattle.answer.specs.declared.Band.TheVariants.{Upper, Lower}
use Rattle.answer.specs.declared.Runner.{Runner}
use Rattle.answer.specs.declared.Runner.TheVariants.{Hard, Firm, Soft, Idle}
use Rattle.answer.specs.declared.How.{How}
use Rattle.answer.specs.declared.How.TheVariants.{Done, Spent}
use Rattle.answer.specs.declared.Closing.{Closing}
use Rattle.answer.specs.declared.Closing.TheVariants.{Nothing, Hard, Firm}
use Rattle.answer.specs.declared.Notes.{Notes}
use Rattle.answer.specs.declared.Answer.{Answer}

-- the band
abbrev pub band_of : rules.Band → Band
band_of rules.upper = Upper
band_of rules.lower = Lower

-- who runs
abbrev pub runner_of : rules.Runner → Runner
runner_of (rules.hard i band) = Hard i (band_of band)
runner_of (rules.firm t) = Firm t
runner_of rules.soft = Soft
runner_of rules.idle = Idle

-- how a job closed
abbrev pub how_of : rules.How → How
how_of rules.done = Done
how_of rules.spent = Spent

-- what closed
abbrev pub closing_of : rules.Closing → Closing
closing_of rules.nothing = Nothing
closing_of (rules.hard_job i how) = Hard i (how_of how)
closing_of (rules.firm_job t how) = Firm t (how_of how)

-- what was noted
abbrev pub notes_of : rules.Notes → Notes
notes_of n = record { unknown = n.unknown; none_ran = n.none_ran; not_ready = n.not_ready }

-- the whole answer
abbrev pub answer_of : rules.Answer → Answer
answer_of a = record { clock = a.at; runner = runner_of a.runner; closing = closing_of a.closing; notes = notes_of a.notes }
