-- A fresh dispatcher: its rows, the table with the promotion times of its plan; and the fresh state. Assumes nothing.
use Rattle.std.specs.Prelude.{ℕ, List, map, replicate}
use Rattle.rules.specs.Bound.{PlannedRow}
use Rattle.table.specs.Memory.{table_of, plan_of}
use Rattle.table.specs.declared.Table.{Table}
use Rattle.table.specs.declared.Plan.{Plan}
use Rattle.state.specs.declared.Last.TheVariants.{Nobody}
use Rattle.state.specs.declared.Rows.{Rows}
use Rattle.state.specs.declared.State.{State}
use Rattle.state.specs.Sets.{known}

-- the rows of a table and its plan in memory
abbrev pub planned_rows : Table → Plan → Rows
planned_rows tb p = record { table = tb; u = p.u }

-- the rows of a plan of the rules
abbrev pub rows_for : List PlannedRow → Rows
rows_for ps = planned_rows (table_of (map (λ p. p.row) ps)) (plan_of ps)

-- the state: every row rested, the clock at 0, nobody ran
unfoldable pub fresh_in : ℕ → State
fresh_in n = record {
  clock = 0;
  next = 0;
  «open» = 0;
  rested = known n;
  last = Nobody;
  count = 0;
  run = replicate 16 0;
  stamp = replicate 16 0;
  budget = replicate 8 0;
  used = replicate 8 0;
  ticket = replicate 8 0;
}
