-- A refusal in memory has the number of the rules' refusal. Assumes nothing.
use Rattle.std.proofs.Common.{◌≡◌, refl}
use Rattle.rules.specs.Refusals as rules
use Rattle.refusal.specs.Refusals.{number_of, refusal_of}

pub numbered : (why : rules.Refusal) → number_of (refusal_of why) ≡ rules.number why
numbered rules.cut = refl
numbered rules.unknown_tag = refl
numbered rules.wrong_length = refl
numbered rules.after_end = refl
numbered rules.row_17 = refl
numbered rules.C_zero = refl
numbered rules.C_over_D = refl
numbered rules.D_over_T = refl
numbered rules.bad_rank = refl
numbered rules.passes_d = refl
numbered rules.M_zero = refl
numbered rules.R_M_over_D = refl
numbered rules.not_image = refl
numbered rules.B_zero = refl
numbered rules.d_under_b = refl
numbered rules.queue_full = refl
numbered rules.room_short = refl
numbered rules.small_output = refl
numbered rules.unknown_flag = refl
