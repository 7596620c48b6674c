-- A read appends what it gives to what is filled.
use Rattle.std.proofs.Common.{◌≡◌, ℕ, ◌+◌, ◌-◌, ◌≤◌, List, ◌++◌, rules, length, take, drop, sym, ap, ◌∙◌, subst, le_refl, drop_at, length-take-le}
use Rattle.std.proofs.Math.Seq.{take-add}
use Rattle.std.proofs.lemmas.List.{take-append-le}
use Rattle.std.proofs.lemmas.Slice.{take-put_mid_below}
use Rattle.std.proofs.KnownBytes.{Consumes-trans}
use Rattle.std.specs.Io.KnownBytes.{Consumes}
use borrow.Rule.Slice.PartMut.{put_mid, post_of}
use Rattle.console.proofs.fill.Goals as goal

filled : (a k n : ℕ) (xs ys : List ℕ) → a ≤ length xs → n ≤ length ys → take (a + n) (put_mid a k xs ys) ≡ take a xs ++ take n ys
filled a k n xs ys within fits =
    let all = put_mid a k xs ys in
    take-add a n all
    ∙ ap (λ l. l ++ take n (drop a all)) (take-put_mid_below a k xs ys a (le_refl a) within)
    ∙ ap (λ l. take a xs ++ take n l) (drop_at (take a xs) (ys ++ post_of a k xs) a (length-take-le a xs within))
    ∙ ap (λ l. take a xs ++ l) (take-append-le n ys (post_of a k xs) fits)

pub loop-n-preserved : goal.loop-n-preserved
loop-n-preserved g c =
    let at = c.loop-n.n in
    let room = length c.loop-n.buffer - at in
    let read = c.in_ok-more.ensures in
    let part = filled at room c.in_ok-more.more c.loop-n.buffer c.read.new.buf c.loop-n.invariant.1 read.bound.0 in
    (search rules, search rules, subst (Consumes _ _) (sym part) (Consumes-trans _ _ _ _ _ c.loop-n.invariant.2 read.bytes.0))
