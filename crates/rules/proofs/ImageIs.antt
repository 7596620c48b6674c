-- The test of an image is the record of its conditions; so a fresh station passes it, and every call keeps it. Assumes nothing.
use Prim.Native.Nat.{◌+◌, ◌<◌, ◌^◌, ◌≤◌}
use mathlib.Core.Bool.{false, true}
use mathlib.Core.List.{List, [], ◌∷◌}
use mathlib.Core.Logic.Iff
use mathlib.Core.Logic.{◌↔◌}
use mathlib.Core.Option.{none}
use mathlib.Core.Path.{◌∙◌, ◌≡◌}
use lib.ListN.{length, length-map}
use native.Mathlib.Omega.{arith}
use Rattle.rules.specs.Lists.{All}
use Rattle.rules.specs.Rows.{Row, table_fault}
use Rattle.rules.specs.Bound.{plan}
use Rattle.rules.specs.Tables.{RowOk}
use Rattle.rules.specs.Station.{Firm, Last, OnFresh, Slot, Station, fresh_station, rows_of}
use Rattle.rules.specs.Tick.{last_at, last_to}
use Rattle.rules.specs.Calls.{AllShort, Call, Short, after, step}
use Rattle.rules.specs.Image.{firm_ok, is_image, last_ok, promotable}
use Rattle.rules.proofs.Bools.{and_iff}
use Rattle.rules.proofs.Facts.{AllRuns, FirmsOk, Good, Live, Paid, TicketsTo}
use Rattle.rules.proofs.Faults.{is_none_iff, table_fault_iff}
use Rattle.rules.proofs.Fresh.{fresh_rows, on_fresh}
use Rattle.rules.proofs.Image.{Image, image_step}
use Rattle.rules.proofs.ImageTests.{FirmFits, Narrow, NarrowFirm, NarrowSlot, firm_iff, last_iff, le_iff, narrow_iff, runs_iff, tickets_iff}
use Rattle.rules.proofs.Kept.{fresh_kept}
use Rattle.rules.proofs.Walks.{all_imp, every_iff}

abbrev Promotable : Slot → Type 0
Promotable s = s.U + s.row.C + s.row.M ≤ s.row.D

-- what the tests say, joined as they are; the last one as it is tested
abbrev Tested : Station → Type 0
Tested st =
    ((((((Narrow st × (table_fault (rows_of st.slots) ≡ none))
    × All Promotable st.slots)
    × AllRuns (last_at st.last) 0 st.slots)
    × (length st.firms ≤ 8))
    × All (FirmFits st.last) st.firms)
    × TicketsTo st.next st.firms)
    × (last_ok st.last st.slots st.firms ≡ true)

tested_iff : (st : Station) → (is_image st ≡ true) ↔ Tested st
unfolding is_image
tested_iff st =
    let table = is_none_iff (table_fault (rows_of st.slots)) in
    let times = every_iff promotable Promotable (λ s. le_iff (s.U + s.row.C + s.row.M) s.row.D) 0 st.slots in
    let runs = runs_iff (last_at st.last) 0 st.slots in
    let few = le_iff (length st.firms) 8 in
    let firms = every_iff (λ f. firm_ok (last_to st.last f.ticket) f) (FirmFits st.last) (firm_iff st.last) 0 st.firms in
    let tickets = tickets_iff st.next st.firms in
    and_iff (and_iff (and_iff (and_iff (and_iff (and_iff (and_iff (narrow_iff st) table) times) runs) few) firms) tickets) Iff.rfl

-- the slots' and the firm jobs' facts, from one to the other

slots_good : (ss : List Slot) → All NarrowSlot ss → All RowOk (rows_of ss) → All Promotable ss → All Good ss
slots_good [] n ok u = tt
slots_good (s ∷ ss) ((t, a), n) (ok, oks) (u, us) = (record { C_pos = ok.C_pos; U_le = u; D_le = ok.D_le; age_le = a }, slots_good ss n oks us)

rows_narrow : (ss : List Slot) → All NarrowSlot ss → All (λ r. r.T < 2 ^ 16) (rows_of ss)
rows_narrow [] n = tt
rows_narrow (s ∷ ss) ((t, a), n) = (t, rows_narrow ss n)

slots_narrow : (ss : List Slot) → All (λ r. r.T < 2 ^ 16) (rows_of ss) → All Good ss → All NarrowSlot ss
slots_narrow [] t g = tt
slots_narrow (s ∷ ss) (t, ts) (g, gs) = ((t, g.age_le), slots_narrow ss ts gs)

firms_paid : (l : Last) (fs : List Firm) → All NarrowFirm fs → All (FirmFits l) fs → All Paid fs
firms_paid l [] n x = tt
firms_paid l (f ∷ fs) (n, ns) (((b, r), o), xs) = ((b, r, n), firms_paid l fs ns xs)

firms_fit : (l : Last) (fs : List Firm) → All Paid fs → FirmsOk l fs → All (FirmFits l) fs
firms_fit l [] p o = tt
firms_fit l (f ∷ fs) ((b, r, n), ps) (o, os) = (((b, r), o), firms_fit l fs ps os)

tested_image : (st : Station) → Tested st → Image st
tested_image st (((((((narrows, None_found), times), runs), few), firms), tickets), last) =
    let ((((clock, next), rows), slots), budgets) = narrows in
    let (ran, first) = (last_iff st.next st.last st.slots st.firms next few tickets).0 last in
    record {
      clock_lt = clock;
      table = record { few = rw (length-map st.slots (λ s. s.row)) rows; narrow = rows_narrow st.slots slots; no_fault = None_found };
      good = slots_good st.slots slots ((table_fault_iff (rows_of st.slots)).0 None_found).0 times;
      runs = runs;
      firms = all_imp (FirmFits st.last) (λ f. last_to st.last f.ticket ≡ false → Live f) (λ f x. x.1) st.firms firms;
      paid = firms_paid st.last st.firms budgets firms;
      tickets = record { few = few; next_lt = next; to_next = tickets; first = first };
      last_ran = ran;
    }

image_tested : (st : Station) → Image st → Tested st
image_tested st I =
    let T = I.tickets in
    let rows : length st.slots ≤ 16 = rw (length-map st.slots (λ s. s.row)) at I.table.few in
    let slots = slots_narrow st.slots I.table.narrow I.good in
    let budgets = all_imp Paid NarrowFirm (λ f p. p.2) st.firms I.paid in
    let narrows : Narrow st = ((((I.clock_lt, T.next_lt), rows), slots), budgets) in
    let times = all_imp Good Promotable (λ s g. g.U_le) st.slots I.good in
    let firms = firms_fit st.last st.firms I.paid I.firms in
    let last = (last_iff st.next st.last st.slots st.firms T.next_lt T.few T.to_next).1 (I.last_ran, T.first) in
    (((((((narrows, I.table.no_fault), times), I.runs), T.few), firms), T.to_next), last)

pub image_iff : (st : Station) → (is_image st ≡ true) ↔ Image st
image_iff st = Iff.trans (tested_iff st) (tested_image st, image_tested st)

pub fresh_image : (rs : List Row) → length rs ≤ 16 → All (λ r. r.T < 2 ^ 16) rs → OnFresh (λ st. is_image st ≡ true) (plan rs)
fresh_image rs few thin = on_fresh (λ st. is_image st ≡ true) rs (λ ps p.
    let K = fresh_kept ps (rw (← p.rows_are) at p.rows_ok) p.bounds in
    (image_iff (fresh_station ps)).1 (record {
      clock_lt = omega arith;
      table = rw (fresh_rows ps ∙ p.rows_are) (record { few = few; narrow = thin; no_fault = (table_fault_iff rs).1 (p.rows_ok, p.ranks_ok) });
      good = K.inv.good;
      runs = K.inv.runs;
      firms = K.firms;
      paid = tt;
      tickets = K.tickets;
      last_ran = tt;
    }))

-- every call keeps it, refused ones too
pub image_kept : (st : Station) (c : Call) → Short c → is_image st ≡ true → is_image (step st c).station ≡ true
image_kept st c h e = (image_iff (step st c).station).1 (image_step st c h ((image_iff st).0 e))

pub image_after : (cs : List Call) (st : Station) → AllShort cs → is_image st ≡ true → is_image (after st cs) ≡ true
image_after [] st h e = e
image_after (c ∷ cs) st (h, hs) e = image_after cs (step st c).station hs (image_kept st c h e)
