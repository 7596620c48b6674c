-- What the programs print in place of an answer. Assumes nothing.
use Rattle.std.specs.Prelude.{ℕ, ◌/◌, ◌%◌, false, List, [], ◌∷◌, ◌++◌, codes, decimal}
use Rattle.std.specs.Fmt.{digit_glyph}
use Rattle.std.specs.List.{flat_map}
use Rattle.refusal.specs.Refusals.{number_of}
use Rattle.console.specs.declared.NoAnswer.{NoAnswer}
use Rattle.console.specs.declared.NoAnswer.TheVariants.{TooLong, Refused}

-- a byte: two digits of hex after a space
abbrev pub byte_text : ℕ → List ℕ
byte_text b = 32 ∷ digit_glyph false (b / 16) ∷ digit_glyph false (b % 16) ∷ []

-- bytes
abbrev pub hex_text : List ℕ → List ℕ
hex_text bytes = flat_map byte_text bytes

-- what stands in place of an answer
abbrev pub no_answer_text : NoAnswer → List ℕ
no_answer_text TooLong = codes "too long"
no_answer_text (Refused why shown) = codes "refused " ++ (decimal (number_of why) ++ hex_text shown.now)
