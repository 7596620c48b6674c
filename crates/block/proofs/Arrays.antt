-- Arrays of numbers of one width: read and put one number after another, and read back, for every width at once. Assumes nothing.
use Rattle.std.proofs.Common.{◌≡◌, ℕ, zero, suc, ◌+◌, ◌*◌, ◌^◌, ◌<◌, ◌≤◌, List, [], ◌∷◌, ◌++◌, length, get_or, take, drop, set, sym, refl, ap, ◌∙◌, append_assoc, append-nil, add-zero, le_of_lt, mul-zero, zero-add, mul-suc, add-one, arith, length-append, drop_of_length-le, length-take-le, take_all, take-suc, take-suc-set, drop-drop, drop_at}
use lib.Seq.{sets, sets-eq}
use borrow.Rule.Slice.PartMut.{put_mid}
use Rattle.rules.specs.Tables.{Bytes}
use Rattle.wire.proofs.Stores.{sets_front, stored_then}
use Rattle.state.specs.Meaning.{entry, rows_from}
use Rattle.state.proofs.Entries.{last_rows}
use Rattle.state.proofs.Positions.{length_rows, same_rows, shift_rows}
use Rattle.block.specs.Words.{Put, joined, le, le_bytes, les_at}
use Rattle.block.proofs.Entered.{entry_below}
use Rattle.block.proofs.Widths.{back, below, both, clean, moved, stands, wide}
use Rattle.block.proofs.Stands.{Stands, beside}

-- read in a loop

module _ {A : Type 0} (g : ℕ → A) where
  pub read_none : [] ≡ rows_from g 0 0
  unfolding rows_from
  read_none = refl

  rows_more : (i : ℕ) → rows_from g 0 (i + 1) ≡ rows_from g 0 i ++ (g i ∷ [])
  rows_more i = rw add-one (rw zero-add at (last_rows g 0 i))

  pub read_more : (a : List A) (i : ℕ) (v : A) → i < length a → take i a ≡ rows_from g 0 i → v ≡ g i → take (i + 1) (set a i v) ≡ rows_from g 0 (i + 1)
  read_more a i v h e q = rw (rows_more i, ← q, ← e, add-one, take-suc-set a i v h)

  pub read_all : (a : List A) (i n : ℕ) → length a ≡ n → i ≡ n → take i a ≡ rows_from g 0 i → a ≡ rows_from g 0 n
  read_all a i n l q e = sym (take_all n a (omega arith)) ∙ rw q at e

-- the bytes of an array

module _ {A : Type 0} (bytes : A → List ℕ) where
  joined_append : (xs ys : List A) → joined bytes (xs ++ ys) ≡ joined bytes xs ++ joined bytes ys
  unfolding joined
  joined_append [] ys = refl
  joined_append (x ∷ xs) ys = rw (joined_append xs ys, append_assoc)

  joined_one : (x : A) → joined bytes (x ∷ []) ≡ bytes x
  unfolding joined
  joined_one x = append-nil (bytes x)

  joined_more : (xs : List A) (i : ℕ) (x : A) → i < length xs → x ≡ get_or xs i x → joined bytes (take (i + 1) xs) ≡ joined bytes (take i xs) ++ bytes x
  joined_more xs i x h e = ap (joined bytes) (ap (λ (n : ℕ). take n xs) (add-one i) ∙ take-suc xs i x h) ∙ joined_append (take i xs) (get_or xs i x ∷ []) ∙ ap (λ l. joined bytes (take i xs) ++ l) (joined_one (get_or xs i x) ∙ ap bytes (sym e))

  pub put_none : (was : List ℕ) (at : ℕ) → was ≡ sets was at (joined bytes [])
  unfolding joined
  put_none was at = refl

  module _ {w : ℕ} (wide : (x : A) → length (bytes x) ≡ w) where
    length_joined : (xs : List A) → length (joined bytes xs) ≡ w * length xs
    unfolding joined
    length_joined [] = sym (mul-zero w)
    length_joined (x ∷ xs) = rw (length-append, mul-suc) (omega (arith, length_joined xs, wide x))

    -- put in a loop

    pub put_more : (was : List ℕ) (xs : List A) (at i : ℕ) (x : A) → i < length xs → x ≡ get_or xs i x → {between is : List ℕ}
        → between ≡ sets was at (joined bytes (take i xs)) → is ≡ sets between (at + w * i) (bytes x) → is ≡ sets was at (joined bytes (take (i + 1) xs))
    put_more was xs at i x l e p q =
        let long = length_joined (take i xs) ∙ ap (λ k. w * k) (length-take-le i xs (le_of_lt l)) in
        stored_then (joined bytes (take i xs)) (bytes x) was at (at + w * i) p (ap (λ n. at + n) (sym long)) q
        ∙ ap (sets was at) (sym (joined_more xs i x l e))

    pub put_all : (was : List ℕ) (xs : List A) (at i : ℕ) → i ≡ length xs → {is : List ℕ}
        → is ≡ sets was at (joined bytes (take i xs)) → Put was is (joined bytes xs) at (at + w * length xs)
    put_all was xs at i e p = record { stored = rw (take_all i xs (omega arith)) at p; long = ap (λ n. at + n) (length_joined xs) }

-- arrays of numbers of w bytes each

module _ (w : ℕ) where
  pub joined_long : (xs : List ℕ) (n : ℕ) → length xs ≡ n → length (joined (le_bytes w) xs) ≡ w * n
  joined_long xs n e = length_joined (le_bytes w) (wide w) xs ∙ ap (λ k. w * k) e

  pub joined_bytes : (xs : List ℕ) → ((i : ℕ) → entry xs i < 256 ^ w) → Bytes (joined (le_bytes w) xs)
  unfolding joined
  joined_bytes [] h = tt
  joined_bytes (x ∷ xs) h = both (le_bytes w x) (joined (le_bytes w) xs) (clean w x (h 0)) (joined_bytes xs (λ i. h (suc i)))

  -- read back

  next : (x : ℕ) (q : List ℕ) (i : ℕ) → le w (le_bytes w x ++ q) (w * suc i) ≡ le w q (w * i)
  next x q i =
      let e : w * suc i ≡ w + w * i = mul-suc w i ∙ omega arith in
      ap (le w (le_bytes w x ++ q)) e ∙ moved w (le_bytes w x ++ q) w (w * i) ∙ ap (λ l. le w l (w * i)) (drop_at (le_bytes w x) q w (wide w x))

  read_joined : (xs q : List ℕ) → ((i : ℕ) → entry xs i < 256 ^ w) → rows_from (λ i. le w (joined (le_bytes w) xs ++ q) (w * i)) 0 (length xs) ≡ xs
  unfolding rows_from joined
  read_joined [] q h = refl
  read_joined (x ∷ xs) q h =
      let all = le_bytes w x ++ (joined (le_bytes w) xs ++ q) in
      let head : le w all (w * 0) ≡ x = ap (le w all) (mul-zero w) ∙ back w x (joined (le_bytes w) xs ++ q) (h 0) in
      let tail : rows_from (λ i. le w all (w * i)) 1 (length xs) ≡ xs =
      sym (shift_rows (λ i. le w all (w * i)) (λ i. le w all (w * suc i)) 0 (length xs) (λ i. refl))
      ∙ same_rows (λ i. le w (joined (le_bytes w) xs ++ q) (w * i)) (λ i. le w all (w * suc i)) 0 (length xs) (λ i l m. next x (joined (le_bytes w) xs ++ q) i)
      ∙ read_joined xs q (λ i. h (suc i)) in
      ap (λ l. rows_from (λ i. le w l (w * i)) 0 (suc (length xs))) (append_assoc (le_bytes w x) (joined (le_bytes w) xs) q)
      ∙ ap (λ y. y ∷ rows_from (λ i. le w all (w * i)) 1 (length xs)) head
      ∙ ap (λ l. x ∷ l) tail

  pub numbers_back : (xs : List ℕ) {b q : List ℕ} {at n : ℕ} → Stands b at (joined (le_bytes w) xs) q → length xs ≡ n → ((i : ℕ) → entry xs i < 256 ^ w) → les_at w b at n ≡ xs
  numbers_back xs {b} {q} {at} {n} f l h =
      same_rows (λ i. le w (joined (le_bytes w) xs ++ q) (w * i)) (λ i. le w b (at + w * i)) 0 n (λ i m k. moved w b at (w * i) ∙ ap (λ d. le w d (w * i)) f.is)
      ∙ rw (← l) (read_joined xs q h)

  pub read_long : (b : List ℕ) (at n : ℕ) → length (les_at w b at n) ≡ n
  read_long b at n = length_rows (λ i. le w b (at + w * i)) 0 n

  -- what is read of bytes

  module _ (b : List ℕ) (clean : Bytes b) where
    pub numbers_below : (at n i : ℕ) → entry (les_at w b at n) i < 256 ^ w
    numbers_below at n = entry_below (λ j. le w b (at + w * j)) n (256 ^ w) (omega (arith, below b clean w 0)) (λ j. below b clean w (at + w * j))

    pub numbers_stand : (at n : ℕ) → at + w * n ≤ length b → Stands b at (joined (le_bytes w) (les_at w b at n)) (drop (at + w * n) b)
    unfolding joined
    numbers_stand at zero h = record { is = rw (mul-zero w, ← read_none (λ i. le w b (at + w * i)), add-zero) }
    numbers_stand at (suc n) h =
        let e : w * suc n ≡ w * n + w = mul-suc w n in
        let g : ℕ → ℕ = λ i. le w b (at + w * i) in
        let more : joined (le_bytes w) (rows_from g 0 (suc n)) ≡ joined (le_bytes w) (rows_from g 0 n) ++ le_bytes w (g n) =
        ap (joined (le_bytes w)) (last_rows g 0 n) ∙ joined_append (le_bytes w) (rows_from g 0 n) (g (0 + n) ∷ []) ∙ ap (λ l. joined (le_bytes w) (rows_from g 0 n) ++ l) (append-nil (le_bytes w (g (0 + n))) ∙ ap (λ j. le_bytes w (g j)) (zero-add n)) in
        rw (more, e) (beside at (w * n) w (numbers_stand at n (omega arith)) (stands b clean w (at + w * n) (omega arith)))

-- parts put one after the other

pub put_one : {was is : List ℕ} {at x : ℕ} → is ≡ sets was at (x ∷ []) → Put was is (x ∷ []) at (at + 1)
put_one p = record { stored = p; long = refl }

pub put_then : {was between is xs ys : List ℕ} {from next next' to : ℕ} → Put was between xs from next → next ≡ next' → Put between is ys next' to → Put was is (xs ++ ys) from to
put_then {was} {between} {is} {xs} {ys} {from} {next} {next'} {to} p e q =
    record {
      stored = stored_then xs ys was from next' p.stored (sym (p.long ∙ e)) q.stored;
      long = rw (length-append xs ys) (omega (arith, p.long, q.long));
    }

pub put_to : {was is xs : List ℕ} {from to to' : ℕ} → Put was is xs from to → to ≡ to' → Put was is xs from to'
put_to p e = record { stored = p.stored; long = p.long ∙ e }

-- a part of the list changed
pub put_part : (b ys : List ℕ) (at n to : ℕ) → length ys ≡ n → at + n ≡ to → to ≤ length b → Put b (put_mid at n b ys) ys at to
put_part b ys at n to l e h =
    let same : at + n ≡ at + length ys = omega arith in
    record {
      stored = sym (append_assoc (take at b) ys (drop n (drop at b))) ∙ ap (λ q. (take at b ++ ys) ++ q) (drop-drop n at b ∙ ap (λ (k : ℕ). drop k b) same) ∙ sym (sets-eq ys b at (omega arith));
      long = omega arith;
    }

-- what is put over the whole of a list is what stands there
pub put_whole : {was is bytes : List ℕ} {n : ℕ} → Put was is bytes 0 n → length was ≡ n → is ≡ bytes
put_whole {was} {is} {bytes} p l =
    p.stored ∙ sets_front bytes was (omega (arith, p.long)) ∙ ap (λ q. bytes ++ q) (drop_of_length-le was {i = length bytes} (omega (arith, p.long))) ∙ append-nil bytes
