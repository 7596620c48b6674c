-- The numbers of an answer say the reply that they were made of. Assumes nothing.
use Prim.Native.Nat.{ℕ, suc, ◌+◌, ◌<◌}
use mathlib.Core.Bool.{Bool, true, false}
use mathlib.Core.Option.{some}
use mathlib.Core.Path.{◌≡◌, refl}
use native.Mathlib.Omega.{arith}
use lib.Dec.{eqb}
use borrow.Author.Tests.{lt-ltb}
use Rattle.rules.specs.Calls.{answered}
use Rattle.rules.specs.Refusals.{B_zero, C_over_D, C_zero, D_over_T, M_zero, R_M_over_D, Refusal, after_end, bad_rank, cut, d_under_b, not_image, number, passes_d, queue_full, room_short, row_17, small_output, unknown_flag, unknown_tag, wrong_length}
use Rattle.rules.specs.Tick.{Answer, Closing, Runner, done, firm, firm_job, hard, hard_job, idle, lower, nothing, soft, spent, upper}
use Rattle.answer.specs.Answers.{answer_of, closing_of, notes_of, runner_of}
use Rattle.answer.specs.Below.{AnswerBelow, ClosingBelow, RunnerBelow}
use Rattle.answer.specs.Numbers.{closing_numbers, flag_number, runner_numbers}
use Rattle.answer.specs.declared.ClosingNumbers.{ClosingNumbers}
use Rattle.answer.specs.declared.Notes.{Notes}
use Rattle.answer.specs.declared.RunnerNumbers.{RunnerNumbers}
use Rattle.board.specs.Numbers.{stepped_tick, tick_numbers}
use Rattle.board.specs.Replies.{closing_read, flag_read, named, row_read, runner_read, tick_reply}

-- a refusal has a number from 1 on, which names it
pub named_back : (why : Refusal) → (eqb (number why) 0 ≡ false) × (named (number why) ≡ some why)
named_back cut = (refl, refl)
named_back unknown_tag = (refl, refl)
named_back wrong_length = (refl, refl)
named_back after_end = (refl, refl)
named_back row_17 = (refl, refl)
named_back C_zero = (refl, refl)
named_back C_over_D = (refl, refl)
named_back D_over_T = (refl, refl)
named_back bad_rank = (refl, refl)
named_back passes_d = (refl, refl)
named_back not_image = (refl, refl)
named_back B_zero = (refl, refl)
named_back d_under_b = (refl, refl)
named_back queue_full = (refl, refl)
named_back room_short = (refl, refl)
named_back small_output = (refl, refl)
named_back unknown_flag = (refl, refl)
named_back M_zero = (refl, refl)
named_back R_M_over_D = (refl, refl)

-- a row counted from 1 is its position
row_back : (k : ℕ) → k < 16 → row_read (k + 1) ≡ some k
row_back k l = let e : k + 1 ≡ suc k = omega arith in rw (e, lt-ltb k 16 l)

runner_back : (clock : ℕ) (r : Runner) (c : ClosingNumbers) (n : Notes) → RunnerBelow (runner_of r) → runner_read (tick_numbers clock (runner_numbers (runner_of r)) c n) ≡ some r
runner_back clock (hard k upper) c n l = rw (row_back k l)
runner_back clock (hard k lower) c n l = rw (row_back k l)
runner_back clock (firm t) c n l = refl
runner_back clock soft c n l = refl
runner_back clock idle c n l = refl

closing_back : (clock : ℕ) (r : RunnerNumbers) (c : Closing) (n : Notes) → ClosingBelow (closing_of c) → closing_read (tick_numbers clock r (closing_numbers (closing_of c)) n) ≡ some c
closing_back clock r nothing n l = refl
closing_back clock r (hard_job k done) n l = rw (row_back k l)
closing_back clock r (hard_job k spent) n l = rw (row_back k l)
closing_back clock r (firm_job t done) n l = refl
closing_back clock r (firm_job t spent) n l = refl

flag_back : (b : Bool) → flag_read (flag_number b) ≡ some b
flag_back true = refl
flag_back false = refl

pub answer_back : (x : Answer) → AnswerBelow (answer_of x) → tick_reply (stepped_tick (answer_of x)) ≡ some (answered x)
answer_back x (r, c) =
    rw (
      runner_back x.at x.runner (closing_numbers (closing_of x.closing)) (notes_of x.notes) r,
      closing_back x.at (runner_numbers (runner_of x.runner)) x.closing (notes_of x.notes) c,
      flag_back x.notes.none_ran,
    )
