-- What it is for the tick in memory to be the rules' tick. Assumes nothing.
use Rattle.std.specs.Prelude.{◌≡◌}
use Rattle.rules.specs.Tick as rules
use Rattle.state.specs.declared.Rows.{Rows}
use Rattle.state.specs.Meaning.{Stored, station_of}
use Rattle.answer.specs.Answers.{answer_of}
use Rattle.dispatch.specs.Steps.{Ticked}

-- the answer, and a state that is again the rules' station and may be stored
abbrev pub TickRefines : Rows → rules.Outcome → Ticked → Type 0
TickRefines rows o r = (r.answer ≡ answer_of o.answer) × (station_of rows r.state ≡ o.station) × Stored rows r.state
