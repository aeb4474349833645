-- What holds of a processor over every run, told from what the calls did, and not from what the processor stores.
use Rattle.std.specs.Prelude.{◌≡◌, ℕ, ◌+◌, Bool, true, false, List, [], ◌∷◌, map, length, drop, Some, None, Ok, Err, Option, Result}
use Rattle.card.specs.Runs.{Turn, turns, one, count_of, Along}
use Rattle.processor.specs.declared.state.State.{State}
use Rattle.processor.specs.declared.state.State.TheVariants.{Idle, Taken}
use Rattle.processor.specs.declared.state.ProcessorCall.{ProcessorCall}
use Rattle.processor.specs.declared.state.Done.{Done}
use Rattle.processor.specs.declared.state.Done.TheVariants.{Took, Opened, Returned, Masked, WasReset}
use Rattle.processor.specs.declared.state.ProcessorFault.{ProcessorFault}
use Rattle.processor.specs.Steps.{Proc, gives, leaves}

-- what a call did: a take gave a level, an acknowledge was granted, a return was granted and told a mask, or anything else
pub data Event : Type 0 where
  took : ℕ → Event
  opened : Event
  returned : ℕ → Event
  other : Event

-- an entry of the log of a run: the mask before the call, what the call did, and the mask after it
pub record Entry : Type 0 where
  pub found : ℕ
  pub event : Event
  pub left : ℕ

abbrev pub is_took : Event → Bool
is_took (took n) = true
is_took opened = false
is_took (returned m) = false
is_took other = false

abbrev pub is_opened : Event → Bool
is_opened (took n) = false
is_opened opened = true
is_opened (returned m) = false
is_opened other = false

abbrev pub is_returned : Event → Bool
is_returned (took n) = false
is_returned opened = false
is_returned (returned m) = true
is_returned other = false

-- The level taken, by the events so far: a level is taken from its take to the next granted acknowledge.
abbrev pub level_after : Event → Option ℕ → Option ℕ
level_after (took n) level = Some n
level_after opened level = None
level_after (returned m) level = level
level_after other level = level

-- The masks found by the takes whose service has not returned, by the events so far, the latest first.
abbrev pub masks_after : ℕ → Event → List ℕ → List ℕ
masks_after found (took n) masks = found ∷ masks
masks_after found opened masks = masks
masks_after found (returned m) masks = drop 1 masks
masks_after found other masks = masks

abbrev pub noted : Entry → List ℕ → List ℕ
noted e masks = masks_after e.found e.event masks

-- A granted return puts back the mask that its take found, and tells it.
abbrev pub PutsBack : List ℕ → Entry → Type 0
PutsBack masks e = (m : ℕ) → e.event ≡ returned m → (e.left ≡ m) × ((rest : List ℕ) × (masks ≡ m ∷ rest))

abbrev pub is_taken : State → Bool
is_taken Idle = false
is_taken (Taken level found) = true

-- What holds of a log, and of the processor in the end.
pub record ProcessorKeeps (log : List Entry) (end : Proc) : Type 0 where
  -- takes that gave a level are granted acknowledges, and one more if a level is still taken
  pub taken_once : count_of (λ e. is_took e.event) log ≡ count_of (λ e. is_opened e.event) log + one (is_taken end.state)
  -- granted acknowledges are granted returns and services open
  pub served_once : count_of (λ e. is_opened e.event) log ≡ count_of (λ e. is_returned e.event) log + length end.services
  pub put_back : Along noted PutsBack [] log

-- The log of a run of any machine that has a processor, by what its calls did.
abbrev pub entry : {S C R : Type 0} → (S → Proc) → (Turn S C R → Event) → Turn S C R → Entry
entry proc event t = record { found = (proc t.before).mask; event = event t; left = (proc t.after).mask }

abbrev pub log_of : {S C R : Type 0} → (S → Proc) → (Turn S C R → Event) → List (Turn S C R) → List Entry
log_of proc event ts = map (entry proc event) ts

-- A processor alone.
abbrev pub did : Result Done ProcessorFault → Event
did (Err e) = other
did (Ok (Took None)) = other
did (Ok (Took (Some n))) = took n
did (Ok (Opened n)) = opened
did (Ok (Returned m)) = returned m
did (Ok (Masked m)) = other
did (Ok WasReset) = other

abbrev pub own_log : Proc → List ProcessorCall → List Entry
own_log p calls = log_of (λ q. q) (λ t. did t.gave) (turns gives leaves p calls)
