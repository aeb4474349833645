-- The law over every run of a rack.
use Rattle.std.specs.Prelude.{◌≡◌, ℕ, ◌+◌, ◌<◌, ◌≤◌, true, false, ◌⊎◌, List, Some, None, Ok, Err, Option, Result}
use Rattle.card.specs.Source.{asking_at, Smallest, Nobody}
use Rattle.card.specs.Runs.{one, count_of, Every, Along}
use Rattle.processor.specs.Steps.{above}
use Rattle.processor.specs.Events.{ProcessorKeeps, level_after, log_of}
use Rattle.rack.specs.declared.calls.Side.{Side}
use Rattle.rack.specs.declared.calls.Side.TheVariants.{Local, Chain}
use Rattle.rack.specs.declared.calls.Call.{Call}
use Rattle.rack.specs.declared.calls.Call.TheVariants.{Take, Acknowledge}
use Rattle.rack.specs.declared.calls.Reached.{Reached}
use Rattle.rack.specs.declared.calls.Reached.TheVariants.{At, Spurious}
use Rattle.rack.specs.declared.calls.Outcome.{Outcome}
use Rattle.rack.specs.declared.calls.Outcome.TheVariants.{Took, Answered}
use Rattle.rack.specs.declared.faults.RackFault.{RackFault}
use Rattle.rack.specs.Words.{spurious_vector}
use Rattle.rack.specs.Machine.{Parts, State, source_at, count_at, admitted}
use Rattle.runs.specs.Turns.{RackTurn, turns_of, results_of, end_of_run, latched, answered, withdrew, is_source, event}

-- Who answers an acknowledge at level n in state x: the local source of smallest rank asking there, if one asks; if none does and the
-- handler admits the level, the chain source of smallest rank asking there, if one asks; otherwise the spurious vector comes.
abbrev pub Rightly : {H C : Type 0} → Parts H C → State H C → ℕ → Reached → Type 0
Rightly p x n (At Local a) = Smallest (source_at p Local x) n (count_at p Local) a.source × (a.reply ≡ (source_at p Local x a.source).reply)
Rightly p x n (At Chain a) = Nobody (source_at p Local x) n (count_at p Local) × (admitted p x n ≡ true) × Smallest (source_at p Chain x) n (count_at p Chain) a.source × (a.reply ≡ (source_at p Chain x a.source).reply)
Rightly p x n (Spurious v) = (v ≡ spurious_vector) × Nobody (source_at p Local x) n (count_at p Local) × (admitted p x n ≡ true → Nobody (source_at p Chain x) n (count_at p Chain))

-- A granted acknowledge, where the events before it say that `level` is taken: it is answered rightly at that level, and no other source
-- loses an edge by it.
pub record Acknowledged {H C : Type 0} (p : Parts H C) (level : Option ℕ) (t : RackTurn H C) (o : Outcome) : Type 0 where
  pub taken : ℕ
  pub was_taken : level ≡ Some taken
  pub reached : Reached
  pub told : o ≡ Answered reached
  pub rightly : Rightly p t.before taken reached
  pub only : (z : Side) (s : ℕ) → s < count_at p z → (source_at p z t.before s).held ≡ true → (source_at p z t.after s).held ≡ false → is_source z s reached ≡ true

abbrev pub AcknowledgeRight : {H C : Type 0} → Parts H C → Option ℕ → RackTurn H C → Type 0
AcknowledgeRight p level t = (o : Outcome) → t.call ≡ Acknowledge → t.gave ≡ Ok o → Acknowledged p level t o

-- Level n is wanted: a local source asks there, or a chain source asks there and the handler admits it.
abbrev pub Wanted : {H C : Type 0} → Parts H C → State H C → ℕ → Type 0
Wanted p x n = ((s : ℕ) × (s < count_at p Local) × (asking_at n (source_at p Local x s) ≡ true)) ⊎ (((s : ℕ) × (s < count_at p Chain) × (asking_at n (source_at p Chain x s) ≡ true)) × (admitted p x n ≡ true))

-- The presented level is the highest that is wanted, or 0.
pub record Presents {H C : Type 0} (p : Parts H C) (x : State H C) (n : ℕ) : Type 0 where
  pub level : n ≤ 7
  pub wanted : (n ≡ 0) ⊎ Wanted p x n
  pub top : (m : ℕ) → n < m → m ≤ 7 → Wanted p x m → ⊥

-- A take that is not refused gives the presented level if that is above the mask, and otherwise none.
abbrev pub TakeRight : {H C : Type 0} → Parts H C → RackTurn H C → Type 0
TakeRight p t = (o : Outcome) → t.call ≡ Take → t.gave ≡ Ok o → (n : ℕ) × Presents p t.before n × (o ≡ Took (above n t.before.processor.mask))

-- A refused call changes nothing.
abbrev pub RefusedWhole : {H C : Type 0} → RackTurn H C → Type 0
RefusedWhole t = (e : RackFault) → t.gave ≡ Err e → t.after ≡ t.before

-- What holds of a run of calls from state x.
pub record RunKeeps {H C : Type 0} (p : Parts H C) (x : State H C) (calls : List Call) : Type 0 where
  -- for every source of either side: its edges latched are its answers as an edge source, its edges reported withdrawn, and one more if
  -- it holds one in the end
  pub edges : (z : Side) (s : ℕ) → s < count_at p z
      → count_of (latched z s) (turns_of p x calls)
      ≡ count_of (answered p z s) (turns_of p x calls) + count_of (withdrew z s) (turns_of p x calls) + one (source_at p z (end_of_run p x calls) s).held
  -- every granted acknowledge was answered rightly, at the level that the events of the run say was taken
  pub acknowledges : Along (λ t level. level_after (event t) level) (AcknowledgeRight p) None (turns_of p x calls)
  pub takes : Every (TakeRight p) (turns_of p x calls)
  -- takes, acknowledges and returns balance, and each granted return put back the mask that its take found
  pub processor : ProcessorKeeps (log_of (λ (y : State H C). y.processor) event (turns_of p x calls)) (end_of_run p x calls).processor
  pub refusals : Every RefusedWhole (turns_of p x calls)

-- no source of either side holds an edge
abbrev pub NoEdges : {H C : Type 0} → Parts H C → State H C → Type 0
NoEdges p x = (z : Side) (s : ℕ) → s < count_at p z → (source_at p z x s).held ≡ false

-- A run that was made: where it led, what each call gave, and the law over these turns.
pub record Ran {H C : Type 0} (p : Parts H C) (x : State H C) (calls : List Call) (end : State H C) (results : List (Result Outcome RackFault)) : Type 0 where
  pub leads : end ≡ end_of_run p x calls
  pub gives : results ≡ results_of p x calls
  pub keeps : NoEdges p x → RunKeeps p x calls
