-- The turns of a run of a rack, and what can be told of each: from its call and from what it gave.
use Rattle.std.specs.Prelude.{ℕ, Bool, true, false, ◌&&◌, List, map, Some, None, Ok, Err, Result, ◌==◌}
use Rattle.card.specs.Withdrawing.{has}
use Rattle.card.specs.Runs.{Turn, turns, end_of}
use Rattle.card.specs.Edges.{is_latched}
use Rattle.processor.specs.Events.{Event, took, opened, returned, other}
use Rattle.rack.specs.declared.calls.Side.{Side}
use Rattle.rack.specs.declared.calls.Side.TheVariants.{Local, Chain}
use Rattle.rack.specs.declared.calls.Call.{Call}
use Rattle.rack.specs.declared.calls.Call.TheVariants.{Drive, Read, Write, Mask, Take, Acknowledge, Return, Reset}
use Rattle.rack.specs.declared.calls.Reached.{Reached}
use Rattle.rack.specs.declared.calls.Reached.TheVariants.{At, Spurious}
use Rattle.rack.specs.declared.calls.Outcome.{Outcome}
use Rattle.rack.specs.declared.calls.Outcome.TheVariants.{Drove, Showed, Withdrew, Masked, Took, Answered, Returned, Cleared}
use Rattle.rack.specs.declared.faults.RackFault.{RackFault}
use Rattle.rack.specs.Machine.{Parts, State, source_at, rack_gives, rack_leaves}

abbrev pub RackTurn : Type 0 → Type 0 → Type 0
RackTurn H C = Turn (State H C) Call (Result Outcome RackFault)

-- the turns of a run from a state
abbrev pub turns_of : {H C : Type 0} → Parts H C → State H C → List Call → List (RackTurn H C)
turns_of p x calls = turns (rack_gives p) (rack_leaves p) x calls

-- what its calls gave, and where it ends
abbrev pub results_of : {H C : Type 0} → Parts H C → State H C → List Call → List (Result Outcome RackFault)
results_of p x calls = map (λ (t : RackTurn _ _). t.gave) (turns_of p x calls)

abbrev pub end_of_run : {H C : Type 0} → Parts H C → State H C → List Call → State H C
end_of_run p x calls = end_of (rack_leaves p) x calls

abbrev pub same_side : Side → Side → Bool
same_side Local Local = true
same_side Local Chain = false
same_side Chain Local = false
same_side Chain Chain = true

-- a test of what a granted call gave
abbrev pub says : (Outcome → Bool) → Result Outcome RackFault → Bool
says f (Ok o) = f o
says f (Err e) = false

-- An edge of source s of side z was latched: it was driven, and the answer was `latched`.
abbrev pub drives_it : Side → ℕ → Call → Bool
drives_it z s (Drive y t asserted) = same_side z y && t == s
drives_it z s (Read y r) = false
drives_it z s (Write y r v) = false
drives_it z s (Mask m) = false
drives_it z s Take = false
drives_it z s Acknowledge = false
drives_it z s (Return d) = false
drives_it z s Reset = false

abbrev pub tells_latch : Outcome → Bool
tells_latch (Drove d) = is_latched d
tells_latch (Showed v) = false
tells_latch (Withdrew w) = false
tells_latch Masked = false
tells_latch (Took level) = false
tells_latch (Answered r) = false
tells_latch (Returned m) = false
tells_latch (Cleared chain local) = false

abbrev pub latched : {H C : Type 0} → Side → ℕ → RackTurn H C → Bool
latched z s t = drives_it z s t.call && says tells_latch t.gave

-- It answered an acknowledge while of edge sort.
abbrev pub is_source : Side → ℕ → Reached → Bool
is_source z s (At y a) = same_side z y && a.source == s
is_source z s (Spurious v) = false

abbrev pub tells_answer : Side → ℕ → Outcome → Bool
tells_answer z s (Drove d) = false
tells_answer z s (Showed v) = false
tells_answer z s (Withdrew w) = false
tells_answer z s Masked = false
tells_answer z s (Took level) = false
tells_answer z s (Answered r) = is_source z s r
tells_answer z s (Returned m) = false
tells_answer z s (Cleared chain local) = false

abbrev pub answered : {H C : Type 0} → Parts H C → Side → ℕ → RackTurn H C → Bool
answered p z s t = says (tells_answer z s) t.gave && (source_at p z t.before s).edge

-- Its withdrawn bit was told, by a write of its side or by a reset.
abbrev pub writes_to : Side → Call → Bool
writes_to z (Drive y t asserted) = false
writes_to z (Read y r) = false
writes_to z (Write y r v) = same_side z y
writes_to z (Mask m) = false
writes_to z Take = false
writes_to z Acknowledge = false
writes_to z (Return d) = false
writes_to z Reset = false

abbrev pub of_side : {A : Type 0} → Side → A → A → A
of_side Local local chain = local
of_side Chain local chain = chain

abbrev pub tells_withdrawn : Side → ℕ → Call → Outcome → Bool
tells_withdrawn z s c (Drove d) = false
tells_withdrawn z s c (Showed v) = false
tells_withdrawn z s c (Withdrew w) = writes_to z c && has w s
tells_withdrawn z s c Masked = false
tells_withdrawn z s c (Took level) = false
tells_withdrawn z s c (Answered r) = false
tells_withdrawn z s c (Returned m) = false
tells_withdrawn z s c (Cleared chain local) = has (of_side z local chain) s

abbrev pub withdrew : {H C : Type 0} → Side → ℕ → RackTurn H C → Bool
withdrew z s t = says (tells_withdrawn z s t.call) t.gave

-- What a turn did to the processor, told from what it gave: a take gave a level, an acknowledge was granted, a return was granted and
-- told a mask, or anything else.
abbrev pub event_in : Outcome → Event
event_in (Drove d) = other
event_in (Showed v) = other
event_in (Withdrew w) = other
event_in Masked = other
event_in (Took None) = other
event_in (Took (Some n)) = took n
event_in (Answered r) = opened
event_in (Returned m) = returned m
event_in (Cleared chain local) = other

abbrev pub event_of : Result Outcome RackFault → Event
event_of (Ok o) = event_in o
event_of (Err e) = other

abbrev pub event : {H C : Type 0} → RackTurn H C → Event
event t = event_of t.gave
