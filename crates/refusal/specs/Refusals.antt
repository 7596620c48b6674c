-- The refusals in memory beside the rules': every case, and its number. Assumes nothing.
use Rattle.std.specs.Prelude.{ℕ}
use Rattle.rules.specs.Refusals as rules
use Rattle.refusal.specs.declared.Refusal.{Refusal}
use Rattle.refusal.specs.declared.Refusal.TheVariants.{Cut, UnknownTag, WrongLength, AfterEnd, Row17, CZero, COverD, DOverT, BadRank, PassesD, MZero, RMOverD, NotImage, BZero, DUnderB, QueueFull, RoomShort, SmallOutput, UnknownFlag}

-- a refusal of the rules, in memory
abbrev pub refusal_of : rules.Refusal → Refusal
refusal_of rules.cut = Cut
refusal_of rules.unknown_tag = UnknownTag
refusal_of rules.wrong_length = WrongLength
refusal_of rules.after_end = AfterEnd
refusal_of rules.row_17 = Row17
refusal_of rules.C_zero = CZero
refusal_of rules.C_over_D = COverD
refusal_of rules.D_over_T = DOverT
refusal_of rules.bad_rank = BadRank
refusal_of rules.passes_d = PassesD
refusal_of rules.M_zero = MZero
refusal_of rules.R_M_over_D = RMOverD
refusal_of rules.not_image = NotImage
refusal_of rules.B_zero = BZero
refusal_of rules.d_under_b = DUnderB
refusal_of rules.queue_full = QueueFull
refusal_of rules.room_short = RoomShort
refusal_of rules.small_output = SmallOutput
refusal_of rules.unknown_flag = UnknownFlag

-- the number given
abbrev pub number_of : Refusal → ℕ
number_of Cut = 1
number_of UnknownTag = 2
number_of WrongLength = 3
number_of AfterEnd = 4
number_of Row17 = 5
number_of CZero = 6
number_of COverD = 7
number_of DOverT = 8
number_of BadRank = 9
number_of PassesD = 10
number_of NotImage = 11
number_of BZero = 15
number_of DUnderB = 16
number_of QueueFull = 17
number_of RoomShort = 18
number_of SmallOutput = 19
number_of UnknownFlag = 20
number_of MZero = 21
number_of RMOverD = 22
