-- The processor: what each call gives and leaves. It knows no card: a take is told the presented level.
use Rattle.std.specs.Prelude.{ℕ, cond, List, [], ◌∷◌, length, drop, Some, None, Ok, Err, Option, Result, ◌==◌, nat_lt}
use Rattle.processor.specs.declared.state.State.{State}
use Rattle.processor.specs.declared.state.State.TheVariants.{Idle, Taken}
use Rattle.processor.specs.declared.state.ProcessorCall.{ProcessorCall}
use Rattle.processor.specs.declared.state.ProcessorCall.TheVariants.{Take, Acknowledge, Return, Mask, Reset}
use Rattle.processor.specs.declared.state.Done.{Done}
use Rattle.processor.specs.declared.state.Done.TheVariants.{Took, Opened, Returned, Masked, WasReset}
use Rattle.processor.specs.declared.state.ProcessorFault.{ProcessorFault}
use Rattle.processor.specs.declared.state.ProcessorFault.TheVariants.{BadMask, LevelTaken, NothingTaken, NotInnermost, Full, ServicesOpen}

-- A processor: its own number, its mask, whether it is idle or has taken a level and with which mask found, and the mask that the take
-- of each open service found, the innermost first.
pub record Proc : Type 0 where
  pub number : ℕ
  pub mask : ℕ
  pub state : State
  pub services : List ℕ

abbrev pub proc : ℕ → ℕ → State → List ℕ → Proc
proc n m s ms = record { number = n; mask = m; state = s; services = ms }

-- the places that a taken level wants among the services: one, for its own
abbrev pub wanted : State → ℕ
wanted Idle = 0
wanted (Taken level found) = 1

-- as made: mask 7, nothing taken, nothing open
abbrev pub fresh : ℕ → Proc
fresh n = proc n 7 Idle []

-- a level above the mask is taken
abbrev pub above : ℕ → ℕ → Option ℕ
above level mask = cond (nat_lt mask level) (Some level) None

-- up to 16 services may be open
abbrev pub take_gives : Proc → ℕ → Result Done ProcessorFault
take_gives p level = cond (nat_lt (length p.services) 16) (Ok (Took (above level p.mask))) (Err Full)

-- services are numbered from 1, so the innermost has as number how many are open
abbrev pub return_gives : List ℕ → ℕ → Result Done ProcessorFault
return_gives [] d = Err (NotInnermost d)
return_gives (m ∷ ms) d = cond (d == length (m ∷ ms)) (Ok (Returned m)) (Err (NotInnermost d))

abbrev pub reset_gives : List ℕ → Result Done ProcessorFault
reset_gives [] = Ok WasReset
reset_gives (m ∷ ms) = Err (ServicesOpen (length (m ∷ ms)))

-- a mask is 0 to 7
abbrev pub mask_gives : ℕ → Result Done ProcessorFault → Result Done ProcessorFault
mask_gives m r = cond (nat_lt 7 m) (Err (BadMask m)) r

-- what an idle processor gives, and one that has taken a level refuses
abbrev pub if_idle : {A : Type 0} → State → Result A ProcessorFault → Result A ProcessorFault
if_idle Idle r = r
if_idle (Taken level found) r = Err (LevelTaken level)

-- What a call gives: a taken level allows only an acknowledge.
abbrev pub gives_in : State → Proc → ProcessorCall → Result Done ProcessorFault
gives_in Idle p (Take level) = take_gives p level
gives_in Idle p Acknowledge = Err NothingTaken
gives_in Idle p (Return d) = return_gives p.services d
gives_in Idle p (Mask m) = mask_gives m (Ok (Masked m))
gives_in Idle p Reset = reset_gives p.services
gives_in (Taken level found) p (Take presented) = Err (LevelTaken level)
gives_in (Taken level found) p Acknowledge = Ok (Opened level)
gives_in (Taken level found) p (Return d) = Err (LevelTaken level)
gives_in (Taken level found) p (Mask m) = mask_gives m (Err (LevelTaken level))
gives_in (Taken level found) p Reset = Err (LevelTaken level)

abbrev pub gives : Proc → ProcessorCall → Result Done ProcessorFault
gives p c = gives_in p.state p c

-- the mask that the take of the level taken found
abbrev pub found_in : State → ℕ
found_in Idle = 0
found_in (Taken level found) = found

-- What is left follows from what was given: a refusal changes nothing. A level taken becomes the mask; an acknowledge opens a service; a
-- return closes the innermost, and puts its mask back.
abbrev pub after : Proc → Result Done ProcessorFault → Proc
after p (Err e) = p
after p (Ok (Took None)) = p
after p (Ok (Took (Some level))) = proc p.number level (Taken level p.mask) p.services
after p (Ok (Opened level)) = proc p.number p.mask Idle (found_in p.state ∷ p.services)
after p (Ok (Returned m)) = proc p.number m Idle (drop 1 p.services)
after p (Ok (Masked m)) = proc p.number m p.state p.services
after p (Ok WasReset) = proc p.number 7 p.state p.services

abbrev pub leaves : Proc → ProcessorCall → Proc
leaves p c = after p (gives p c)
