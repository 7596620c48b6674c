-- The promises of decoding and encoding, proved. Assumes nothing.
use Rattle.std.proofs.Common.{◌≡◌, ℕ, ◌+◌, ◌<◌, ◌≤◌, Bool, true, false, cond, ◌&&◌, eqb, None, List, ◌++◌, length, drop, sym, refl, ap, ◌∙◌, ap₂, subst₂, append_assoc, arith, length-append, drop-drop, take_at, drop_at, eq-eqb, eqb-true}
use lib.ListN.{get_or-replicate}
use lib.Seq.{sets, sets-eq}
use Rattle.rules.specs.Tables.{Bytes}
use Rattle.state.specs.declared.Rows.{Rows}
use Rattle.state.specs.declared.State.{State}
use Rattle.state.specs.Meaning.{entry}
use Rattle.block.specs.declared.Decoded.{Decoded}
use Rattle.block.specs.Places.{block_bytes, budget_at, clock_at, count_at, last_at, reserved_at, reserved_bytes, run_at}
use Rattle.block.specs.Layout.{Long, head_bytes, image_of, jobs_bytes, margins_bytes, marks_bytes, numbers_bytes, queue_bytes, ranks_bytes, reserved, rows_at, state_at, state_on, table_bytes}
use Rattle.block.specs.Tests.{decoded_as, decoded_of, image_good}
use Rattle.block.specs.Image.{BlockPromises, Imaged}
use Rattle.block.proofs.Bytes
use Rattle.block.proofs.Bytes.{fit_at, long_at}
use Rattle.block.proofs.Passes.{fit, passes}
use Rattle.block.proofs.Widths.{entry_moved}
use Rattle.block.proofs.Lengths.{head_long, image_long, jobs_long, queue_long, ranks_long, table_long}
use Rattle.block.proofs.Last.{number_low}
use Rattle.block.proofs.Meant.{imaged}
use Rattle.block.proofs.Tested.{Checked, Free, image_iff}
use Rattle.block.proofs.Trip.{free_back, reserved_stands, rows_back, state_back}
use Rattle.block.proofs.Whole.{image_is}

-- decode of encode is the state

module _ (rows : Rows) (s : State) (I : Imaged rows s) where
  abbrev L : Long rows s
  L = I.long

  reserved_zero : (i : ℕ) → i < reserved_bytes → entry reserved i ≡ 0
  unfolding reserved
  reserved_zero i h = get_or-replicate reserved_bytes i 0 0 h

  free : Free (image_of rows s)
  free = record {
    front = free_back rows s L (fit rows s I);
    behind = λ i h. entry_moved (image_of rows s) reserved_at i ∙ ap (λ l. entry l i) (reserved_stands rows s L (fit rows s I)) ∙ reserved_zero i h;
  }

  named : entry (image_of rows s) last_at ≤ 17
  unfolding image_of head_bytes
  named = omega (arith, number_low s.last I.stored.kept.last_below)

  image_good_lem : image_good (image_of rows s) ≡ true
  image_good_lem = (image_iff (image_of rows s)).1 (subst₂ Checked (sym (rows_back rows s L (fit rows s I))) (sym (state_back rows s L (fit rows s I))) (passes rows s I), free, named)

  pub decode_encode : decoded_of (image_of rows s) ≡ decoded_as rows s
  unfolding decoded_of
  decode_encode =
      rw (eq-eqb (length (image_of rows s)) block_bytes (image_long rows s L), image_good_lem)
      (ap₂ decoded_as (rows_back rows s L (fit rows s I)) (state_back rows s L (fit rows s I)))

-- only images are accepted

module _ (b : List ℕ) (bytes : Bytes b) where
  accepted : length b ≡ block_bytes → image_good b ≡ true → (b ≡ image_of (rows_at b) (state_at b)) × Imaged (rows_at b) (state_at b)
  accepted l e =
      let (C, F, named) = (image_iff b).0 e in
      (sym (image_is b bytes l F.front named F.behind), imaged (rows_at b) (state_at b) (long_at b) (fit_at b bytes) C)

  pub decode_only : (rows : Rows) (s : State) → decoded_of b ≡ decoded_as rows s → (b ≡ image_of rows s) × Imaged rows s
  unfolding decoded_of
  decode_only rows s e = go (eqb (length b) block_bytes) refl (image_good b) refl e
    where
      go : (x : Bool) → eqb (length b) block_bytes ≡ x → (y : Bool) → image_good b ≡ y → cond (x && y) (decoded_as (rows_at b) (state_at b)) None ≡ decoded_as rows s
          → (b ≡ image_of rows s) × Imaged rows s
      go true p true q e =
          let same : ◌≡◌ {A = Decoded} (record { rows = rows_at b; state = state_at b }) (record { rows = rows; state = s }) = cc in
          subst₂ (λ r t. (b ≡ image_of r t) × Imaged r t) (ap (λ (d : Decoded). d.rows) same) (ap (λ (d : Decoded). d.state) same) (accepted (eqb-true (length b) block_bytes p) q)
      go true p false q e = cc
      go false p y q e = cc

-- what a call changes, written over the image before

-- a part put anew where it stands
over : (p x y q : List ℕ) (at : ℕ) → length p ≡ at → length x ≡ length y → sets (p ++ (x ++ q)) at y ≡ p ++ (y ++ q)
over p x y q at a b =
    let e : drop (at + length y) (p ++ (x ++ q)) ≡ q =
    sym (drop-drop (length y) at (p ++ (x ++ q))) ∙ ap (drop (length y)) (drop_at p (x ++ q) at a) ∙ drop_at x q (length y) b in
    sets-eq y (p ++ (x ++ q)) at (rw (length-append, length-append) (omega arith)) ∙ rw (take_at p (x ++ q) at a, e, append_assoc)

regroup_3 : (a b c : List ℕ) → a ++ (b ++ c) ≡ (a ++ b) ++ c
regroup_3 a b c = sym (append_assoc a b c)

regroup_5 : (a b c d e : List ℕ) → a ++ (b ++ (c ++ (d ++ e))) ≡ (((a ++ b) ++ c) ++ d) ++ e
regroup_5 a b c d e = simp append_assoc

module _ (rows : Rows) (s after : State) (L : Long rows s) (M : Long rows after) where
  abbrev head : List ℕ
  head = head_bytes rows.table.n after

  head_over : (rest : List ℕ) → sets (sets (head_bytes rows.table.n s ++ rest) count_at (marks_bytes after)) clock_at (numbers_bytes after) ≡ head ++ rest
  unfolding head_bytes
  head_over rest = refl

  jobs_over : (rest : List ℕ) → sets (head ++ (table_bytes rows ++ (jobs_bytes s ++ rest))) run_at (jobs_bytes after) ≡ head ++ (table_bytes rows ++ (jobs_bytes after ++ rest))
  jobs_over rest =
      let long : length (head ++ table_bytes rows) ≡ run_at = length-append head (table_bytes rows) ∙ omega (arith, head_long rows.table.n after, table_long rows s L) in
      ap (λ l. sets l run_at (jobs_bytes after)) (regroup_3 head (table_bytes rows) (jobs_bytes s ++ rest))
      ∙ over (head ++ table_bytes rows) (jobs_bytes s) (jobs_bytes after) rest run_at long (omega (arith, jobs_long rows s L, jobs_long rows after M))
      ∙ sym (regroup_3 head (table_bytes rows) (jobs_bytes after ++ rest))

  queue_over : (rest : List ℕ) → sets (head ++ (table_bytes rows ++ (jobs_bytes after ++ (ranks_bytes rows ++ (queue_bytes s ++ rest))))) budget_at (queue_bytes after)
      ≡ head ++ (table_bytes rows ++ (jobs_bytes after ++ (ranks_bytes rows ++ (queue_bytes after ++ rest))))
  queue_over rest =
      let front = ((head ++ table_bytes rows) ++ jobs_bytes after) ++ ranks_bytes rows in
      let long : length front ≡ budget_at = simp length-append (omega (arith, head_long rows.table.n after, table_long rows s L, jobs_long rows after M, ranks_long rows s L)) in
      ap (λ l. sets l budget_at (queue_bytes after)) (regroup_5 head (table_bytes rows) (jobs_bytes after) (ranks_bytes rows) (queue_bytes s ++ rest))
      ∙ over front (queue_bytes s) (queue_bytes after) rest budget_at long (omega (arith, queue_long rows s L, queue_long rows after M))
      ∙ sym (regroup_5 head (table_bytes rows) (jobs_bytes after) (ranks_bytes rows) (queue_bytes after ++ rest))

  pub write_image : state_on (image_of rows s) after ≡ image_of rows after
  unfolding image_of
  write_image =
      let kept = margins_bytes rows ++ reserved in
      ap (λ l. sets l budget_at (queue_bytes after)) (ap (λ l. sets l run_at (jobs_bytes after)) (head_over (table_bytes rows ++ (jobs_bytes s ++ (ranks_bytes rows ++ (queue_bytes s ++ kept))))) ∙ jobs_over (ranks_bytes rows ++ (queue_bytes s ++ kept)))
      ∙ queue_over kept

pub block_promises : BlockPromises
block_promises = record {
  image_bytes = λ rows s I. (Bytes.image_bytes rows s (fit rows s I), image_long rows s I.long);
  decode_encode = decode_encode;
  decode_only = decode_only;
  write_image = write_image;
}
