use Rattle.std.proofs.Common.{◌≡◌, ℕ, false, cond, ltb, length, slice_index_or}
use Rattle.mc68153.specs.Sheet.{input, fresh_input, input_at}
use Rattle.mc68153.proofs.Mc68153Card.reset.Given as goal

-- the inputs passed are reset, and the others are as they were
abbrev pub invariant-loop-input : goal.invariant-loop-input
invariant-loop-input l =
    (length l.input-items ≡ 4)
    × ((t : ℕ) → slice_index_or l.input-items t (input 0 0 false) ≡ cond (ltb t l.input-index) (fresh_input (input_at l.fn.self t).asserted) (input_at l.fn.self t))
