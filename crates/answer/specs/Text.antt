-- The answer in text: every case of every enum. Rows are counted from 1 here. Assumes nothing.
use Rattle.std.specs.Prelude.{ℕ, ◌-◌, Bool, false, cond, List, [], ◌∷◌, ◌++◌, length, replicate, codes, decimal, ◌==◌}
use Rattle.std.specs.Fmt.{digits}
use Rattle.answer.specs.declared.Answer.{Answer}
use Rattle.answer.specs.Numbers.{row_number}
use Rattle.answer.specs.declared.Band.{Band}
use Rattle.answer.specs.declared.Band.TheVariants.{Upper, Lower}
use Rattle.answer.specs.declared.Closing.{Closing}
use Rattle.answer.specs.declared.Closing.TheVariants.{Nothing, Hard, Firm}
use Rattle.answer.specs.declared.How.{How}
use Rattle.answer.specs.declared.How.TheVariants.{Done, Spent}
use Rattle.answer.specs.declared.Notes.{Notes}
use Rattle.answer.specs.declared.Runner.{Runner}
use Rattle.answer.specs.declared.Runner.TheVariants.{Hard, Firm, Soft, Idle}

-- the band
abbrev pub band_text : Band → List ℕ
band_text Upper = codes "U"
band_text Lower = codes "L"

-- who runs
abbrev pub runner_text : Runner → List ℕ
runner_text (Hard k band) = band_text band ++ decimal (row_number k)
runner_text (Firm t) = codes "F" ++ decimal t
runner_text Soft = codes "S"
runner_text Idle = codes "I"

-- how a job closed
abbrev pub how_text : How → List ℕ
how_text Done = codes "done"
how_text Spent = codes "spent"

-- what closed
abbrev pub closing_text : Closing → List ℕ
closing_text Nothing = codes "-"
closing_text (Hard k how) = codes "H" ++ (decimal (row_number k) ++ (codes " " ++ how_text how))
closing_text (Firm t how) = codes "F" ++ (decimal t ++ (codes " " ++ how_text how))

-- the end of a line
abbrev pub line_end : List ℕ
line_end = 10 ∷ []

-- at least four places, filled with zeros
abbrev pub four_places : List ℕ → List ℕ
four_places numeral = replicate (4 - length numeral) 48 ++ numeral

-- four digits of hex
abbrev pub hex4 : ℕ → List ℕ
hex4 bits = four_places (digits 16 false bits)

-- a note about release bits, where there are any
abbrev pub bits_text : ℕ → ℕ → List ℕ
bits_text number bits = cond (bits == 0) [] (codes "note " ++ (decimal number ++ (codes " " ++ (hex4 bits ++ line_end))))

-- the note of a done flag where no job ran
abbrev pub none_ran_text : Bool → List ℕ
none_ran_text none_ran = cond none_ran (codes "note 13" ++ line_end) []

-- a line for each note
abbrev pub notes_text : Notes → List ℕ
notes_text n = bits_text 12 n.unknown ++ (none_ran_text n.none_ran ++ bits_text 14 n.not_ready)

-- the lines of a tick: clock, runner and closing; then the notes
abbrev pub answer_text : Answer → List ℕ
answer_text a = decimal a.clock ++ (codes " " ++ (runner_text a.runner ++ (codes " " ++ (closing_text a.closing ++ (line_end ++ notes_text a.notes)))))
