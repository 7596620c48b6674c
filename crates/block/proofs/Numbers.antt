-- What no fault says of one row, one stamp, one firm job and one ticket, and of the lists that they make. Assumes nothing.
use Rattle.std.proofs.Common.{◌≡◌, ℕ, zero, suc, ◌+◌, ◌-◌, ◌%◌, ◌^◌, ◌<◌, ◌≤◌, Bool, true, false, cond, ltb, refl, ap, ◌∙◌, true≢false, arith, ltb-true, lt-ltb}
use mathlib.Core.Bool.{false≢true}
use lib.Bits.{bit_or}
use native.Mathlib.Decide.{dec_lt}
use native.Mathlib.Nat.{mod-add-mod}
use Rattle.rules.specs.Rows.{Row}
use Rattle.rules.specs.Station.{Firm, closed, opened}
use Rattle.rules.proofs.Facts.{Runs, TicketsTo, closed_not_open}
use Rattle.rules.proofs.ImageTests.{opened_same}
use Rattle.state.specs.Meaning.{rows_from, wrapped}
use Rattle.state.proofs.Positions.{length_rows}
use Rattle.block.specs.Tests.{due, firm_fault, hard_fault, most_run, stamp_fault}
use Rattle.block.proofs.Ors.{none_or, or_none}

-- a row

pub record HardSays (live o ran : Bool) (c d t u m run : ℕ) : Type 0 where
  pub C_le : c ≤ d
  pub D_le : d ≤ t
  pub U_le : u + c + m ≤ d
  pub there : cond live (1 - c) (bit_or t m) ≡ 0
  pub runs : run ≤ cond o (most_run ran c) 0

-- what the margin leaves holds C ≥ 1; where there is no row it is 0
margin_le : (live : Bool) (c d t m : ℕ) → c ≤ due d m → cond live (1 - c) (bit_or t m) ≡ 0 → m ≤ d
margin_le true c d t m h e = omega arith
margin_le false c d t m h e = omega (arith, or_none t m e)

module _ (live o ran : Bool) (c d t u m run : ℕ) where
  pub hard_says : hard_fault live o ran c d t u m run ≡ 0 → HardSays live o ran c d t u m run
  hard_says e =
      let (e4, r) = or_none (bit_or (bit_or (bit_or (c - due d m) (d - t)) (u - (due d m - c))) (cond live (1 - c) (bit_or t m))) (run - cond o (most_run ran c) 0) e in
      let (e3, l) = or_none (bit_or (bit_or (c - due d m) (d - t)) (u - (due d m - c))) (cond live (1 - c) (bit_or t m)) e4 in
      let (e2, w) = or_none (bit_or (c - due d m) (d - t)) (u - (due d m - c)) e3 in
      let (a, b) = or_none (c - due d m) (d - t) e2 in
      let M_le = margin_le live c d t m (omega arith) l in
      record { C_le = omega arith; D_le = omega arith; U_le = omega arith; there = l; runs = omega arith }

  pub says_hard : HardSays live o ran c d t u m run → hard_fault live o ran c d t u m run ≡ 0
  says_hard R =
      none_or (bit_or (bit_or (bit_or (c - due d m) (d - t)) (u - (due d m - c))) (cond live (1 - c) (bit_or t m))) (run - cond o (most_run ran c) 0)
      (none_or (bit_or (bit_or (c - due d m) (d - t)) (u - (due d m - c))) (cond live (1 - c) (bit_or t m))
      (none_or (bit_or (c - due d m) (d - t)) (u - (due d m - c)) (none_or (c - due d m) (d - t) (omega (arith, R.U_le)) (omega (arith, R.D_le))) (omega (arith, R.U_le)))
      R.there)
      (omega (arith, R.runs))

-- the ticks run of a row's job
module _ (r : Row) (U age run : ℕ) where
  pub to_runs : (o ran : Bool) → 1 ≤ r.C → run ≤ cond o (most_run ran r.C) 0 → Runs ran (record { row = r; U = U; age = age; job = cond o (opened run) closed })
  to_runs false ran c h = record { others = λ l q e. absurd (closed_not_open e); at_most = λ q e. absurd (closed_not_open e) }
  to_runs true true c h = record { others = λ l. absurd (true≢false l); at_most = λ q e. omega (arith, opened_same e) }
  to_runs true false c h = record { others = λ l q e. omega (arith, opened_same e); at_most = λ q e. omega (arith, opened_same e) }

  pub from_runs : (o ran : Bool) → Runs ran (record { row = r; U = U; age = age; job = cond o (opened run) closed }) → (o ≡ false → run ≡ 0) → run ≤ cond o (most_run ran r.C) 0
  from_runs false ran R z = omega (arith, z refl)
  from_runs true true R z = omega (arith, R.at_most run refl)
  from_runs true false R z = omega (arith, R.others refl run refl)

-- a stamp

pub stamp_quiet : (q : Bool) (t clock stamp : ℕ) → q ≡ true → stamp_fault q t clock stamp ≡ 0 → stamp ≡ 0
stamp_quiet true t clock stamp e f = f
stamp_quiet false t clock stamp e f = absurd (false≢true e)

pub stamp_young : (q : Bool) (t clock stamp : ℕ) → q ≡ false → stamp_fault q t clock stamp ≡ 0 → wrapped clock stamp < t
stamp_young true t clock stamp e f = absurd (true≢false e)
stamp_young false t clock stamp e f = go (ltb (wrapped clock stamp) t) refl f
  where
    go : (b : Bool) → ltb (wrapped clock stamp) t ≡ b → ◌≡◌ {A = ℕ} (cond b 0 1) 0 → wrapped clock stamp < t
    go true p e = ltb-true (wrapped clock stamp) t p
    go false p e = absurd (omega arith)

pub stamp_says : (q : Bool) (t clock stamp : ℕ) → (q ≡ true → stamp ≡ 0) → (q ≡ false → wrapped clock stamp < t) → stamp_fault q t clock stamp ≡ 0
stamp_says true t clock stamp z y = z refl
stamp_says false t clock stamp z y = let e = lt-ltb (wrapped clock stamp) t (y refl) in rw e

-- a firm job

pub record FirmSays (queued ran : Bool) (budget used : ℕ) : Type 0 where
  pub there : cond queued (1 - budget) budget ≡ 0
  pub runs : used ≤ most_run ran budget

module _ (queued ran : Bool) (budget used : ℕ) where
  pub firm_says : firm_fault queued ran budget used ≡ 0 → FirmSays queued ran budget used
  firm_says e =
      let (a, b) = or_none (cond queued (1 - budget) budget) (used - most_run ran budget) e in
      record { there = a; runs = omega arith }

  pub says_firm : FirmSays queued ran budget used → firm_fault queued ran budget used ≡ 0
  says_firm F = none_or (cond queued (1 - budget) budget) (used - most_run ran budget) F.there (omega (arith, F.runs))

-- tickets

-- so far behind the next one as the queue is long from there on
pub behind_next : (next count j : ℕ) → next < 2 ^ 32 → j < count → count ≤ 8 → (wrapped next count + j) % 2 ^ 32 ≡ (next + (2 ^ 32 - (count - j))) % 2 ^ 32
behind_next next count j a b c =
    let e : next + (2 ^ 32 - count) + j ≡ next + (2 ^ 32 - (count - j)) = omega arith in
    mod-add-mod (next + (2 ^ 32 - count)) (2 ^ 32) j ∙ ap (λ x. x % 2 ^ 32) e

pub not_first : (next count j : ℕ) → next < 2 ^ 32 → j < count → count ≤ 8 → (next + (2 ^ 32 - (count - j))) % 2 ^ 32 ≡ (next + (2 ^ 32 - (count - 0))) % 2 ^ 32 → j ≡ 0
not_first next count j a b c e = omega arith

module _ (next : ℕ) (g : ℕ → Firm) where
  pub to_tickets : (i k : ℕ) → ((j : ℕ) → i ≤ j → j < i + k → (g j).ticket ≡ (next + (2 ^ 32 - (i + k - j))) % 2 ^ 32) → TicketsTo next (rows_from g i k)
  unfolding rows_from
  to_tickets i zero h = tt
  to_tickets i (suc k) h =
      let e : i + suc k - i ≡ suc k = omega arith in
      let q : suc i + k ≡ i + suc k = omega arith in
      (rw (length_rows g (suc i) k) (rw e at (h i (omega arith) (omega arith))), to_tickets (suc i) k (λ j a b. rw q (h j (omega arith) (omega arith))))

  pub from_tickets : (i k j : ℕ) → TicketsTo next (rows_from g i k) → i ≤ j → j < i + k → (g j).ticket ≡ (next + (2 ^ 32 - (i + k - j))) % 2 ^ 32
  unfolding rows_from
  from_tickets i zero j T a b = absurd (omega arith)
  from_tickets i (suc k) j (t, T) a b = go (dec_lt i j) (from_tickets (suc i) k j T)
    where
      go : Dec (i < j) → (suc i ≤ j → j < suc i + k → (g j).ticket ≡ (next + (2 ^ 32 - (suc i + k - j))) % 2 ^ 32) → (g j).ticket ≡ (next + (2 ^ 32 - (i + suc k - j))) % 2 ^ 32
      go (yes l) ih = let q : suc i + k ≡ i + suc k = omega arith in rw q at (ih l (omega arith))
      go (no n) ih =
          let e : j ≡ i = omega arith in
          let q : i + suc k - i ≡ suc k = omega arith in
          rw (e, q) (rw (length_rows g (suc i) k) at t)
