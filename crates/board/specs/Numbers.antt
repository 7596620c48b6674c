-- The answers to C in numbers, field by field. Rows are counted from 1 here; 0 stands where a number says nothing. Assumes nothing.
use Rattle.std.specs.Prelude.{ℕ, Result, Ok, Err}
use Rattle.refusal.specs.Refusals.{number_of}
use Rattle.refusal.specs.declared.Refusal.{Refusal}
use Rattle.answer.specs.Numbers.{closing_numbers, flag_number, runner_numbers}
use Rattle.answer.specs.declared.Answer.{Answer}
use Rattle.answer.specs.declared.ClosingNumbers.{ClosingNumbers}
use Rattle.answer.specs.declared.Notes.{Notes}
use Rattle.answer.specs.declared.RunnerNumbers.{RunnerNumbers}
use Rattle.board.specs.declared.OfferAnswer.{OfferAnswer}
use Rattle.board.specs.declared.PlanAnswer.{PlanAnswer}
use Rattle.board.specs.declared.TableAnswer.{TableAnswer}
use Rattle.board.specs.declared.TickAnswer.{TickAnswer}

-- the tick's answer

-- of an accepted tick, field by field
abbrev pub tick_numbers : ℕ → RunnerNumbers → ClosingNumbers → Notes → TickAnswer
tick_numbers clock r c n = record {
  clock = clock;
  ticket = r.ticket;
  closed_ticket = c.ticket;
  unknown = n.unknown;
  not_ready = n.not_ready;
  refusal = 0;
  none_ran = flag_number n.none_ran;
  runner = r.kind;
  runner_row = r.row;
  band = r.band;
  closed = c.kind;
  closed_row = c.row;
  closing = c.how;
}

-- of a tick that was stepped
abbrev pub stepped_tick : Answer → TickAnswer
stepped_tick a = tick_numbers a.clock (runner_numbers a.runner) (closing_numbers a.closing) a.notes

-- of a refused tick: the number
abbrev pub refused_tick : ℕ → TickAnswer
refused_tick refusal = record {
  clock = 0;
  ticket = 0;
  closed_ticket = 0;
  unknown = 0;
  not_ready = 0;
  refusal = refusal;
  none_ran = 0;
  runner = 0;
  runner_row = 0;
  band = 0;
  closed = 0;
  closed_row = 0;
  closing = 0;
}

-- the offer's answer

-- an accepted offer
abbrev pub taken_offer : ℕ → OfferAnswer
taken_offer ticket = record { ticket = ticket; refusal = 0 }

-- a refused one
abbrev pub refused_offer : ℕ → OfferAnswer
refused_offer refusal = record { ticket = 0; refusal = refusal }

-- planning's answer

-- a refused table: the number, the row that it is about (0: none), the part that is shown
abbrev pub refused_plan : (refusal row from size : ℕ) → PlanAnswer
refused_plan refusal row from size = record { from = from; size = size; refusal = refusal; row = row }

-- an accepted table
abbrev pub done_plan : PlanAnswer
done_plan = record { from = 0; size = 0; refusal = 0; row = 0 }

-- the answer of the table read back

-- a refused one
abbrev pub refused_table : ℕ → TableAnswer
refused_table refusal = record { size = 0; refusal = refusal }

-- how many bytes were written, or why none
abbrev pub written_table : Result ℕ Refusal → TableAnswer
written_table (Ok size) = record { size = size; refusal = 0 }
written_table (Err why) = refused_table (number_of why)
