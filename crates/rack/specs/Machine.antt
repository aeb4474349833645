-- The rack: what each call gives and leaves, by what its parts give and leave.
use Rattle.std.specs.Prelude.{ℕ, Bool, true, false, cond, ◌&&◌, ◌||◌, Some, None, Ok, Err, Option, Result}
use Rattle.std.specs.Result.{result_map_both}
use Rattle.card.specs.declared.faults.CardFault.TheVariants.{Oversize}
use Rattle.card.specs.declared.outcomes.Answer.{Answer}
use Rattle.card.specs.declared.interface.Card.{Ghosts as OfCard}
use Rattle.card.specs.Source.{Source, any_asks, pick}
use Rattle.card.specs.Model.{Model, source_of, oversize, drive_result, drive_exit, read_result, write_result, write_exit, withdrawn, levels_asked}
use Rattle.bits.specs.Bytes.{highest}
use Rattle.processor.specs.declared.state.ProcessorCall.TheVariants.{Take as TakeIt, Acknowledge as AcknowledgeIt, Return as ReturnIt, Mask as MaskIt, Reset as ResetIt}
use Rattle.processor.specs.declared.state.Done.{Done}
use Rattle.processor.specs.declared.state.Done.TheVariants.{Took as DoneTook, Opened, Returned as DoneReturned, Masked as DoneMasked, WasReset}
use Rattle.processor.specs.declared.state.ProcessorFault.{ProcessorFault}
use Rattle.processor.specs.Steps.{Proc, fresh, gives, after}
use Rattle.rack.specs.declared.calls.Side.{Side}
use Rattle.rack.specs.declared.calls.Side.TheVariants.{Local, Chain}
use Rattle.rack.specs.declared.calls.Call.{Call}
use Rattle.rack.specs.declared.calls.Call.TheVariants.{Drive, Read, Write, Mask, Take, Acknowledge, Return, Reset}
use Rattle.rack.specs.declared.calls.Reached.{Reached}
use Rattle.rack.specs.declared.calls.Reached.TheVariants.{At, Spurious}
use Rattle.rack.specs.declared.calls.Outcome.{Outcome}
use Rattle.rack.specs.declared.calls.Outcome.TheVariants.{Drove, Showed, Withdrew, Masked, Took, Answered, Returned, Cleared}
use Rattle.rack.specs.declared.faults.RackFault.{RackFault}
use Rattle.rack.specs.declared.faults.RackFault.TheVariants.{Card, Processor}
use Rattle.rack.specs.Words.{spurious_vector}

-- The kinds of a rack's handler and chain, and what a notice does to the handler.
pub record Parts (H C : Type 0) : Type 0 where
  pub handler : Model H
  pub noticed : H → ℕ → H
  pub chain : Model C

-- the same, from what the bounds `H: Handler` and `C: Card` say of the two
abbrev pub parts : {H C : Type 0} → record { model : Model H; noticed : H → ℕ → H } → OfCard C → Parts H C
parts h c = record { handler = h.model; noticed = h.noticed; chain = c.model }

-- A rack, as contracts see it: a handler above a chain, and one processor.
pub record State (H C : Type 0) : Type 0 where
  pub handler : H
  pub chain : C
  pub processor : Proc

-- a rack as it is made
abbrev pub start : {H C : Type 0} → ℕ → H → C → State H C
start number h c = record { handler = h; chain = c; processor = fresh number }

abbrev pub oversized : {H C : Type 0} → Parts H C → Bool
oversized p = oversize p.handler || oversize p.chain

-- the sources of a side, and how many they are
abbrev pub source_at : {H C : Type 0} → Parts H C → Side → State H C → ℕ → Source
source_at p Local x = source_of p.handler x.handler
source_at p Chain x = source_of p.chain x.chain

abbrev pub count_at : {H C : Type 0} → Parts H C → Side → ℕ
count_at p Local = p.handler.sources
count_at p Chain = p.chain.sources

abbrev pub admitted : {H C : Type 0} → Parts H C → State H C → ℕ → Bool
admitted p x n = (p.handler.meaning x.handler).admits n

-- The bus lines: line n is on exactly when a chain source asks at n, admitted or not.
abbrev pub bus_lines : {H C : Type 0} → Parts H C → State H C → ℕ
bus_lines p x = levels_asked p.chain x.chain

-- The presented level: the highest at which a local source asks, or a chain source asks and the handler admits it; 0 if none.
abbrev pub wants : {H C : Type 0} → Parts H C → State H C → ℕ → Bool
wants p x n = any_asks (source_at p Local x) (count_at p Local) n || (any_asks (source_at p Chain x) (count_at p Chain) n && admitted p x n)

abbrev pub presented : {H C : Type 0} → Parts H C → State H C → ℕ
presented p x = highest (wants p x) 7

-- Who answers at level n: a local source first, then one of the chain if the handler admits the level.
abbrev pub chosen_at : {H C : Type 0} → Parts H C → Side → State H C → ℕ → Option ℕ
chosen_at p z x n = pick (source_at p z x) n (count_at p z)

abbrev pub answer_of : (ℕ → Source) → ℕ → Answer
answer_of f s = record { source = s; reply = (f s).reply }

abbrev pub reached_by : (ℕ → Source) → (ℕ → Source) → Option ℕ → Bool → Option ℕ → Reached
reached_by f g (Some s) admits chain = At Local (answer_of f s)
reached_by f g None false chain = Spurious spurious_vector
reached_by f g None true (Some t) = At Chain (answer_of g t)
reached_by f g None true None = Spurious spurious_vector

abbrev pub reached : {H C : Type 0} → Parts H C → State H C → ℕ → Reached
reached p x n = reached_by (source_at p Local x) (source_at p Chain x) (chosen_at p Local x n) (admitted p x n) (chosen_at p Chain x n)

-- The handler and the chain after that. The handler is told the level whenever no local source asks at it and it admits it.
abbrev pub handler_answered : {H C : Type 0} → Parts H C → State H C → ℕ → Option ℕ → Bool → H
handler_answered p x n (Some s) admits = p.handler.answered x.handler n
handler_answered p x n None false = x.handler
handler_answered p x n None true = p.noticed x.handler n

abbrev pub chain_answered : {H C : Type 0} → Parts H C → State H C → ℕ → Option ℕ → Bool → Option ℕ → C
chain_answered p x n (Some s) admits chain = x.chain
chain_answered p x n None false chain = x.chain
chain_answered p x n None true None = x.chain
chain_answered p x n None true (Some t) = p.chain.answered x.chain n

abbrev pub answered : {H C : Type 0} → Parts H C → State H C → ℕ → State H C
answered p x n = record {
  handler = handler_answered p x n (chosen_at p Local x n) (admitted p x n);
  chain = chain_answered p x n (chosen_at p Local x n) (admitted p x n) (chosen_at p Chain x n);
  processor = x.processor;
}

-- A call of the processor: what the rack gives for what the processor did,
abbrev pub reset_outcome : {H C : Type 0} → Parts H C → State H C → Outcome
reset_outcome p x = Cleared
    (withdrawn p.chain.sources (p.chain.meaning x.chain) (p.chain.meaning (p.chain.cleared x.chain)))
    (withdrawn p.handler.sources (p.handler.meaning x.handler) (p.handler.meaning (p.handler.cleared x.handler)))

abbrev pub outcome_of : {H C : Type 0} → Parts H C → State H C → Done → Outcome
outcome_of p x (DoneTook level) = Took level
outcome_of p x (Opened level) = Answered (reached p x level)
outcome_of p x (DoneReturned m) = Returned m
outcome_of p x (DoneMasked m) = Masked
outcome_of p x WasReset = reset_outcome p x

abbrev pub done_gives : {H C : Type 0} → Parts H C → State H C → Result Done ProcessorFault → Result Outcome RackFault
done_gives p x r = result_map_both (outcome_of p x) Processor r

-- and what it leaves: an acknowledge and a reset reach the handler and the chain.
abbrev pub handler_after : {H C : Type 0} → Parts H C → State H C → Result Done ProcessorFault → H
handler_after p x (Err e) = x.handler
handler_after p x (Ok (DoneTook level)) = x.handler
handler_after p x (Ok (Opened level)) = handler_answered p x level (chosen_at p Local x level) (admitted p x level)
handler_after p x (Ok (DoneReturned m)) = x.handler
handler_after p x (Ok (DoneMasked m)) = x.handler
handler_after p x (Ok WasReset) = p.handler.cleared x.handler

abbrev pub chain_after : {H C : Type 0} → Parts H C → State H C → Result Done ProcessorFault → C
chain_after p x (Err e) = x.chain
chain_after p x (Ok (DoneTook level)) = x.chain
chain_after p x (Ok (Opened level)) = chain_answered p x level (chosen_at p Local x level) (admitted p x level) (chosen_at p Chain x level)
chain_after p x (Ok (DoneReturned m)) = x.chain
chain_after p x (Ok (DoneMasked m)) = x.chain
chain_after p x (Ok WasReset) = p.chain.cleared x.chain

abbrev pub done_leaves : {H C : Type 0} → Parts H C → State H C → Result Done ProcessorFault → State H C
done_leaves p x r = record { handler = handler_after p x r; chain = chain_after p x r; processor = after x.processor r }

abbrev pub with_handler : {H C : Type 0} → State H C → H → State H C
with_handler x h = record { handler = h; chain = x.chain; processor = x.processor }

abbrev pub with_chain : {H C : Type 0} → State H C → C → State H C
with_chain x c = record { handler = x.handler; chain = c; processor = x.processor }

-- What a rack gives and leaves that fits: the answer of a card comes back unchanged;
abbrev pub fit_gives : {H C : Type 0} → Parts H C → State H C → Call → Result Outcome RackFault
fit_gives p x (Drive Local s asserted) = result_map_both Drove Card (drive_result p.handler x.handler s asserted)
fit_gives p x (Drive Chain s asserted) = result_map_both Drove Card (drive_result p.chain x.chain s asserted)
fit_gives p x (Read Local r) = result_map_both Showed Card (read_result p.handler x.handler r (bus_lines p x))
fit_gives p x (Read Chain r) = result_map_both Showed Card (read_result p.chain x.chain r (bus_lines p x))
fit_gives p x (Write Local r v) = result_map_both Withdrew Card (write_result p.handler x.handler r v)
fit_gives p x (Write Chain r v) = result_map_both Withdrew Card (write_result p.chain x.chain r v)
fit_gives p x (Mask m) = done_gives p x (gives x.processor (MaskIt m))
fit_gives p x Take = done_gives p x (gives x.processor (TakeIt (presented p x)))
fit_gives p x Acknowledge = done_gives p x (gives x.processor AcknowledgeIt)
fit_gives p x (Return d) = done_gives p x (gives x.processor (ReturnIt d))
fit_gives p x Reset = done_gives p x (gives x.processor ResetIt)

abbrev pub fit_leaves : {H C : Type 0} → Parts H C → State H C → Call → State H C
fit_leaves p x (Drive Local s asserted) = with_handler x (drive_exit p.handler x.handler s asserted)
fit_leaves p x (Drive Chain s asserted) = with_chain x (drive_exit p.chain x.chain s asserted)
fit_leaves p x (Read z r) = x
fit_leaves p x (Write Local r v) = with_handler x (write_exit p.handler x.handler r v)
fit_leaves p x (Write Chain r v) = with_chain x (write_exit p.chain x.chain r v)
fit_leaves p x (Mask m) = done_leaves p x (gives x.processor (MaskIt m))
fit_leaves p x Take = done_leaves p x (gives x.processor (TakeIt (presented p x)))
fit_leaves p x Acknowledge = done_leaves p x (gives x.processor AcknowledgeIt)
fit_leaves p x (Return d) = done_leaves p x (gives x.processor (ReturnIt d))
fit_leaves p x Reset = done_leaves p x (gives x.processor ResetIt)

-- and one with an oversize side, which refuses every call.
abbrev pub rack_gives : {H C : Type 0} → Parts H C → State H C → Call → Result Outcome RackFault
rack_gives p x c = cond (oversized p) (Err (Card Oversize)) (fit_gives p x c)

abbrev pub rack_leaves : {H C : Type 0} → Parts H C → State H C → Call → State H C
rack_leaves p x c = cond (oversized p) x (fit_leaves p x c)

-- a result of one kind of call
abbrev pub outcome : {A : Type 0} → (A → Outcome) → Result A RackFault → Result Outcome RackFault
outcome make r = result_map_both make (λ e. e) r
