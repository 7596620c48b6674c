-- One possible result of each public function: every One (..) holds the right side of an equation in its contract. Assumes nothing.
use Prim.Native.Nat.{ℕ}
use mathlib.Core.List.{List}
use Rattle.rules.specs.OneResult.{One}
use Rattle.rules.proofs.OneResult.{one_result}
use Rattle.board.specs.Blocks.{offer_block, plan_block, table_block, tick_block}

pub heechstjer_plan_lem : (block table : List ℕ) → One (plan_block block table).answer × One (plan_block block table).block
heechstjer_plan_lem block table = (one_result, one_result)

pub heechstjer_tick_lem : (block : List ℕ) (set flags : ℕ) → One (tick_block block set flags).answer × One (tick_block block set flags).block
heechstjer_tick_lem block set flags = (one_result, one_result)

pub heechstjer_offer_lem : (block : List ℕ) (budget deadline : ℕ) → One (offer_block block budget deadline).answer × One (offer_block block budget deadline).block
heechstjer_offer_lem block budget deadline = (one_result, one_result)

pub heechstjer_table_lem : (block out : List ℕ) → One (table_block block out).answer × One (table_block block out).block
heechstjer_table_lem block out = (one_result, one_result)
