-- `console::write_bytes` meets its contract, byte by byte. Assumes nothing.
use Rattle.std.proofs.Common.{arith, ℕ, suc, ◌+◌, ◌<◌, ◌≡◌, sym, ap, ◌∙◌, false, List, [], ◌∷◌, ◌++◌, length, take, get_or, refl}
use Rattle.std.proofs.Math.Seq.{take-suc}
use Rattle.std.proofs.lemmas.Fmt.{hex_byte}
use Rattle.std.proofs.lemmas.Grind.{flat_map-append}
use Rattle.std.proofs.Output.{has_written_append, has_written_of_eq}
use Rattle.console.specs.Text.{byte_text, hex_text}
use Rattle.console.proofs.write_bytes.Goals as goal

one_more : (bytes : List ℕ) (i : ℕ) → i < length bytes → hex_text (take (i + 1) bytes) ≡ hex_text (take i bytes) ++ byte_text (get_or bytes i 0)
one_more bytes i within =
    let next : i + 1 ≡ suc i = omega arith in
    ap (λ k. hex_text (take k bytes)) next
    ∙ ap hex_text (take-suc bytes i 0 within)
    ∙ flat_map-append byte_text (take i bytes) (get_or bytes i 0 ∷ [])

pub loop-byte-preserved : goal.loop-byte-preserved
loop-byte-preserved g c plain =
    let before = c.loop-byte.invariant plain in
    let is_byte : get_or c.args.bytes.now c.loop-byte.byte-index 0 < 256 = (c.type_inv.bytes c.loop-byte.byte-index).fits in
    let wrote = (rw (c.laid_out.ensures, c.in_radix.ensures, hex_byte false _ is_byte) at c.in_ok-write.ensures.writes) before.plain refl in
    has_written_of_eq _ _ _ _ _ (sym (one_more c.args.bytes.now c.loop-byte.byte-index c.loop-byte-test.true)) (has_written_append _ _ _ _ _ _ before wrote)
