-- The answers of tick and offer, read as document 01's replies. An answer with a number that says nothing is no reply. Assumes nothing.
use Rattle.std.specs.Prelude.{ℕ, suc, zero, Bool, true, false, cond, List, [], ◌∷◌, eqb, ltb}
use Rattle.std.proofs.Math.Option.{Option, map, none, some}
use Rattle.rules.specs.Calls.{Reply, answered, refused, took}
use Rattle.rules.specs.Refusals.{B_zero, C_over_D, C_zero, D_over_T, M_zero, R_M_over_D, Refusal, after_end, bad_rank, cut, d_under_b, not_image, number, passes_d, queue_full, room_short, row_17, small_output, unknown_flag, unknown_tag, wrong_length}
use Rattle.rules.specs.Tick.{Answer, Band, Closing, How, Notes, Runner, done, firm, firm_job, hard, hard_job, idle, lower, nothing, soft, spent, upper}
use Rattle.board.specs.declared.OfferAnswer.{OfferAnswer}
use Rattle.board.specs.declared.TickAnswer.{TickAnswer}

-- f of both, if both are there
abbrev pub both : {A B C : Type 0} → (A → B → C) → Option A → Option B → Option C
both f none y = none
both f (some a) none = none
both f (some a) (some b) = some (f a b)

-- the refusals, in the order of their numbers: 1 to 11, 15 to 22
abbrev pub refusals : List Refusal
refusals =
    cut ∷ unknown_tag ∷ wrong_length ∷ after_end ∷ row_17 ∷ C_zero ∷ C_over_D ∷ D_over_T ∷ bad_rank ∷ passes_d ∷ not_image
    ∷ B_zero ∷ d_under_b ∷ queue_full ∷ room_short ∷ small_output ∷ unknown_flag ∷ M_zero ∷ R_M_over_D ∷ []

-- the one of them that has the number
abbrev pub numbered : ℕ → List Refusal → Option Refusal
numbered n [] = none
numbered n (why ∷ others) = cond (eqb (number why) n) (some why) (numbered n others)

-- the refusal of a number
abbrev pub named : ℕ → Option Refusal
named n = numbered n refusals

-- the position of a row, which is 1 to 16
abbrev pub row_read : ℕ → Option ℕ
row_read zero = none
row_read (suc k) = cond (ltb k 16) (some k) none

-- a flag
abbrev pub flag_read : ℕ → Option Bool
flag_read n = cond (eqb n 0) (some false) (cond (eqb n 1) (some true) none)

-- the band
abbrev pub band_read : ℕ → Option Band
band_read n = cond (eqb n 1) (some upper) (cond (eqb n 2) (some lower) none)

-- how a job closed
abbrev pub how_read : ℕ → Option How
how_read n = cond (eqb n 1) (some done) (cond (eqb n 2) (some spent) none)

-- who runs
abbrev pub runner_read : TickAnswer → Option Runner
runner_read a =
    cond (eqb a.runner 1) (both hard (row_read a.runner_row) (band_read a.band))
    (cond (eqb a.runner 2) (some (firm a.ticket))
    (cond (eqb a.runner 3) (some soft)
    (cond (eqb a.runner 4) (some idle) none)))

-- what closed
abbrev pub closing_read : TickAnswer → Option Closing
closing_read a =
    cond (eqb a.closed 0) (some nothing)
    (cond (eqb a.closed 1) (both hard_job (row_read a.closed_row) (how_read a.closing))
    (cond (eqb a.closed 2) (map (firm_job a.closed_ticket) (how_read a.closing)) none))

-- what was noted
abbrev pub notes_read : TickAnswer → Option Notes
notes_read a = map (λ f. record { unknown = a.unknown; none_ran = f; not_ready = a.not_ready }) (flag_read a.none_ran)

-- the answer of a tick that was stepped
abbrev pub answer_read : TickAnswer → Option Answer
answer_read a =
    both (λ (runs : Runner × Closing) n. record { at = a.clock; runner = runs.0; closing = runs.1; notes = n })
    (both (λ r c. (r, c)) (runner_read a) (closing_read a)) (notes_read a)

-- of a tick
abbrev pub tick_reply : TickAnswer → Option Reply
tick_reply a = cond (eqb a.refusal 0) (map answered (answer_read a)) (map refused (named a.refusal))

-- of an offer
abbrev pub offer_reply : OfferAnswer → Option Reply
offer_reply a = cond (eqb a.refusal 0) (some (took a.ticket)) (map refused (named a.refusal))
