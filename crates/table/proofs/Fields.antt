-- What the field at the start of a file's rest says of the scan from there on. Assumes nothing.
use Prim.Native.Nat.{ℕ, zero, suc, ◌+◌, ◌-◌, ◌≤◌, ◌<◌}
use mathlib.Core.Path.{◌≡◌, refl, sym, ap, ◌∙◌}
use mathlib.Core.Bool.{Bool, true, false, cond, false≢true, ◌&&◌, ◌||◌}
use mathlib.Core.List.{List, []}
use mathlib.Core.Option.{Option, none, some}
use native.Mathlib.Omega.{arith}
use lib.Dec.{eqb}
use lib.ListN.{length, drop, length-drop}
use lib.Seq.{drop-drop}
use borrow.Author.Tests.{eqb-true, eqb-false, eq-eqb, ne_eqb}
use Rattle.std.specs.Prelude.{Result, Ok, Err}
use Rattle.std.specs.Bool.{then_some}
use Rattle.std.specs.Prelude as memory
use Rattle.rules.specs.Lists.{unless}
use Rattle.rules.specs.Refusals.{after_end}
use Rattle.rules.specs.Fields.{BadField, byte, field_fault}
use Rattle.rules.specs.File.{Field, Scan, broken, end_tag, ends, field_of, is_row, margin_tag, row_tag, scan, size_of, table_length, whole, with_first}
use Rattle.wire.specs.Field.{bad_field, field_size, length_of}
use Rattle.wire.proofs.WholeFields.{IsWhole, whole_is}
use Rattle.table.specs.Answers.{file_refusal, is_row_tag, next_field, scanned_of}
use Rattle.table.specs.declared.FileRefusal.{FileRefusal}

-- what a scan comes to in memory, and a field
abbrev Scanned : Type 0
Scanned = Result ℕ FileRefusal

abbrev Found : Type 0
Found = Result (memory.Option ℕ) FileRefusal

-- n rows more
abbrev pub after : ℕ → Scanned → Scanned
after n (Ok m) = Ok (n + m)
after n (Err x) = Err x

pub after_zero : (x : Scanned) → x ≡ after 0 x
after_zero (Ok m) = ap Ok (omega arith)
after_zero (Err x) = refl

after_after : (n : ℕ) (x : Scanned) → after n (after 1 x) ≡ after (n + 1) x
after_after n (Ok m) = ap Ok (omega arith)
after_after n (Err x) = refl

-- what the end field at the place at leads to, where the rest s starts
abbrev end_leads : ℕ → List ℕ → Scanned
end_leads at s = cond (eqb (length s) 3) (Ok 0) (Err (file_refusal after_end (at + 3) (length s - 3)))

-- what a field leads to, given what follows a row
abbrev leads : ℕ → List ℕ → Scanned → Found → Scanned
leads at s rest (Ok (memory.Some size)) = after 1 rest
leads at s rest (Ok memory.None) = end_leads at s
leads at s rest (Err x) = Err x

first_leads : (f : Field) (x : Scan) → scanned_of (with_first f x) ≡ after 1 (scanned_of x)
first_leads f (whole fs) = ap Ok (omega arith)
first_leads f (broken why from size) = refl

ends_leads : (at : ℕ) (s : List ℕ) (b : Bool) → scanned_of (cond b (whole []) (broken after_end (at + 3) (length s - 3))) ≡ cond b (Ok 0) (Err (file_refusal after_end (at + 3) (length s - 3)))
ends_leads at s true = refl
ends_leads at s false = refl

-- the field at a place, by what is wrong with it and by its tag
abbrev pub found : ℕ → List ℕ → Option BadField → Bool → Found
found at s fault row = unless fault (λ b. Err (file_refusal b.why at b.size)) (Ok (then_some row (field_size s)))

field_leads : (fault : Option BadField) (b : Bool) (at : ℕ) (s : List ℕ) (x : Scan)
    → scanned_of (unless fault (λ y. broken y.why at y.size) (cond b (with_first (field_of s) x) (ends at s))) ≡ leads at s (scanned_of x) (found at s fault b)
field_leads none true at s x = first_leads (field_of s) x
field_leads none false at s x = ends_leads at s (eqb (length s) 3)
field_leads (some y) b at s x = refl

-- what the scan says after a row
abbrev rest : ℕ → ℕ → List ℕ → Scan
rest zero at s = whole []
rest (suc more) at s = scan more (at + size_of (byte s 0)) (drop (size_of (byte s 0)) s)

scan_leads : (more at : ℕ) (s : List ℕ) → scanned_of (scan more at s) ≡ leads at s (scanned_of (rest more at s)) (next_field (eqb more 0) at s)
unfolding scan next_field
scan_leads zero at s = field_leads (field_fault table_length (is_row s && true) s) (is_row s) at s (whole [])
scan_leads (suc more) at s = field_leads (field_fault table_length (is_row s && eqb (suc more) 0) s) (is_row s) at s (rest (suc more) at s)

full_is : (n : ℕ) → n ≤ 16 → eqb (16 - n) 0 ≡ eqb n 16
full_is n h = go (eqb n 16) refl
  where
    go : (b : Bool) → eqb n 16 ≡ b → eqb (16 - n) 0 ≡ b
    go true e = eq-eqb (16 - n) 0 (omega (arith, eqb-true n 16 e))
    go false e = ne_eqb (16 - n) 0 (λ q. eqb-false n 16 e (omega arith))

-- a row's field: there may be another row, its header says as many bytes as its tag has, and they are there
pub record RowField (full : Bool) (s : List ℕ) (size : ℕ) : Type 0 where
  pub more : full ≡ false
  pub header_is : field_size s ≡ size
  pub size_is : size ≡ size_of (byte s 0)
  pub fits : size ≤ length s

-- an option of the rules in memory
abbrev in_memory : Option ℕ → memory.Option ℕ
in_memory none = memory.None
in_memory (some n) = memory.Some n

length_there : (o : Option ℕ) → length_of (in_memory o) ≡ o
length_there none = refl
length_there (some n) = refl

-- what the check of the field at the start of s says of it
checked : (full : Bool) (s : List ℕ) → field_fault table_length (is_row s && full) s ≡ none → IsWhole (in_memory (table_length (byte s 0))) (is_row s && full) s (field_size s)
checked full s e =
    let same : field_fault (λ tag. length_of (in_memory (table_length (byte s 0)))) (is_row s && full) s ≡ none = simp (length_there (table_length (byte s 0))) e in
    whole_is (is_row s && full) s (in_memory (table_length (byte s 0))) (ap (λ (fault : Option BadField). unless fault (λ b. Err (bad_field b)) (Ok (field_size s))) same)

row_length : (tag : ℕ) {bytes : ℕ} → is_row_tag tag ≡ true → table_length tag ≡ some bytes → 3 + bytes ≡ size_of tag
row_length tag {bytes} = go (eqb tag row_tag) refl (eqb tag margin_tag) refl
  where
    go : (row : Bool) → eqb tag row_tag ≡ row → (margin : Bool) → eqb tag margin_tag ≡ margin → (row || margin) ≡ true
        → cond row (some 7) (cond margin (some 9) (cond (eqb tag end_tag) (some 0) none)) ≡ some bytes → 3 + bytes ≡ cond margin 12 10
    go true p true q h e = absurd (omega (arith, eqb-true tag row_tag p, eqb-true tag margin_tag q))
    go true p false q h e = let same : 7 ≡ bytes = cc in omega arith
    go false p true q h e = let same : 9 ≡ bytes = cc in omega arith
    go false p false q h e = absurd (false≢true h)

row_facts : (full : Bool) (s : List ℕ) {size : ℕ} → IsWhole (in_memory (table_length (byte s 0))) (is_row s && full) s (field_size s) → is_row s ≡ true → field_size s ≡ size → RowField full s size
row_facts full s w row same =
    record {
      more = ap (λ (b : Bool). b && full) (sym row) ∙ w.in_time;
      header_is = same;
      size_is = sym same ∙ w.size_is ∙ row_length (byte s 0) row (sym (length_there (table_length (byte s 0))) ∙ w.value_is);
      fits = omega (arith, same, w.fits);
    }

pub row_field : (full : Bool) (at : ℕ) (s : List ℕ) {size : ℕ} → next_field full at s ≡ Ok (memory.Some size) → RowField full s size
unfolding next_field
row_field full at s {size} e = go (field_fault table_length (is_row s && full) s) refl (is_row s) refl e
  where
    go : (fault : Option BadField) → field_fault table_length (is_row s && full) s ≡ fault → (b : Bool) → is_row s ≡ b → found at s fault b ≡ Ok (memory.Some size) → RowField full s size
    go none i true j e = row_facts full s (checked full s i) j (let same : field_size s ≡ size = cc in same)
    go none i false j e = cc
    go (some y) i b j e = cc

pub end_fits : (full : Bool) (at : ℕ) (s : List ℕ) → next_field full at s ≡ Ok memory.None → 3 ≤ length s
unfolding next_field
end_fits full at s e = go (field_fault table_length (is_row s && full) s) refl e
  where
    go : (fault : Option BadField) → field_fault table_length (is_row s && full) s ≡ fault → found at s fault (is_row s) ≡ Ok memory.None → 3 ≤ length s
    go none i e = omega (arith, (checked full s i).fits)
    go (some y) i e = cc

-- a turn of the scan, come to the place at after n rows
module _ (s : List ℕ) (at n : ℕ) where
  pub row_fits : {size : ℕ} → next_field (eqb n 16) at (drop at s) ≡ Ok (memory.Some size) → n ≤ 16 → at ≤ length s → (n < 16) × (at + size ≤ length s)
  row_fits e few in_s =
      let h = row_field (eqb n 16) at (drop at s) e in
      let k = eqb-false n 16 h.more in
      (omega arith, omega (arith, h.fits, length-drop at s))

  module _ (few : n ≤ 16) (whole_scan : Scanned) (so_far : whole_scan ≡ after n (scanned_of (scan (16 - n) at (drop at s)))) where
    field_turn : (field : Found) → next_field (eqb n 16) at (drop at s) ≡ field → whole_scan ≡ after n (leads at (drop at s) (scanned_of (rest (16 - n) at (drop at s))) field)
    field_turn field e =
        so_far
        ∙ ap (after n) (scan_leads (16 - n) at (drop at s)
        ∙ ap (λ (b : Bool). leads at (drop at s) (scanned_of (rest (16 - n) at (drop at s))) (next_field b at (drop at s))) (full_is n few)
        ∙ ap (leads at (drop at s) (scanned_of (rest (16 - n) at (drop at s)))) e)

    pub row_turn : {size : ℕ} → next_field (eqb n 16) at (drop at s) ≡ Ok (memory.Some size) → n < 16 → whole_scan ≡ after (n + 1) (scanned_of (scan (16 - (n + 1)) (at + size) (drop (at + size) s)))
    row_turn {size} e more =
        let m : 16 - n ≡ suc (16 - (n + 1)) = omega arith in
        field_turn (Ok (memory.Some size)) e
        ∙ after_after n (scanned_of (rest (16 - n) at (drop at s)))
        ∙ ap (λ (k : ℕ). after (n + 1) (scanned_of (rest k at (drop at s)))) m
        ∙ ap (λ (k : ℕ). after (n + 1) (scanned_of (scan (16 - (n + 1)) (at + k) (drop k (drop at s))))) (sym (row_field (eqb n 16) at (drop at s) e).size_is)
        ∙ ap (λ (l : List ℕ). after (n + 1) (scanned_of (scan (16 - (n + 1)) (at + size) l))) (drop-drop size at s)

    pub bad_turn : {x : FileRefusal} → next_field (eqb n 16) at (drop at s) ≡ Err x → whole_scan ≡ Err x
    bad_turn {x} e = field_turn (Err x) e

    end_at : (b : Bool) → next_field (eqb n 16) at (drop at s) ≡ Ok memory.None → eqb (length (drop at s)) 3 ≡ b
        → whole_scan ≡ after n (cond b (Ok 0) (Err (file_refusal after_end (at + 3) (length (drop at s) - 3))))
    end_at b e h = field_turn (Ok memory.None) e ∙ ap (λ (c : Bool). after n (cond c (Ok 0) (Err (file_refusal after_end (at + 3) (length (drop at s) - 3))))) h

    pub end_turn : next_field (eqb n 16) at (drop at s) ≡ Ok memory.None → length s ≤ at + 3 → whole_scan ≡ Ok n
    end_turn e h =
        end_at true e (eq-eqb _ _ (omega (arith, length-drop at s, end_fits (eqb n 16) at (drop at s) e)))
        ∙ ap Ok (omega arith)

    pub after_end_turn : next_field (eqb n 16) at (drop at s) ≡ Ok memory.None → at + 3 < length s → whole_scan ≡ Err (file_refusal after_end (at + 3) (length s - (at + 3)))
    after_end_turn e h =
        let left : length (drop at s) - 3 ≡ length s - (at + 3) = omega (arith, length-drop at s) in
        end_at false e (ne_eqb _ _ (λ q. absurd (omega (arith, length-drop at s))))
        ∙ ap (λ (k : ℕ). Err (file_refusal after_end (at + 3) k)) left
