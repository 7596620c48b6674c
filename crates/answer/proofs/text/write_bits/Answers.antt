-- `answer::text::write_bits` meets its contract: four places, filled with zeros. Assumes nothing.
use Rattle.std.proofs.Common.{arith, ◌≡◌, ℕ, ◌-◌, ◌^◌, List, [], false, length, append-nil, ne_eqb}
use Rattle.std.specs.Fmt.{char_count, format_spec, padded_integral}
use Rattle.answer.specs.Text.{four_places}
use Rattle.answer.proofs.text.write_bits.Goals as goal

filled : (numeral : List ℕ) → padded_integral (format_spec 32 0 4 4 (2 ^ 64 - 1)) false [] numeral ≡ four_places numeral
unfolding padded_integral char_count
filled numeral =
    let room : 4 - length numeral - 0 - 0 ≡ 4 - length numeral = omega arith in
    rw (room, append-nil numeral)

pub returns : goal.returns
returns g c = rw (ne_eqb _ _ c.if-bits-eq0.false) (rw (c.laid_out.ensures, c.in_radix.ensures, filled) at c.writeln.ensures.writes)
