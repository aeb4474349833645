-- Tokens: what a take hands out, and what acknowledge and return take back.
use Rattle.std.specs.Prelude.{ℕ, suc, Bool, false, cond, ◌&&◌, length, Some, None, Err, Option, Result, ◌==◌}
use Rattle.std.specs.Result.{result_map_both}
use Rattle.processor.specs.declared.state.State.{State}
use Rattle.processor.specs.declared.state.State.TheVariants.{Idle, Taken}
use Rattle.processor.specs.declared.state.ProcessorCall.TheVariants.{Acknowledge, Return}
use Rattle.processor.specs.declared.state.Done.{Done}
use Rattle.processor.specs.declared.state.Done.TheVariants.{Took, Opened, Returned, Masked, WasReset}
use Rattle.processor.specs.declared.state.ProcessorFault.{ProcessorFault}
use Rattle.processor.specs.declared.state.ProcessorFault.TheVariants.{LevelTaken, NothingTaken, NotInnermost}
use Rattle.processor.specs.declared.tokens.Token.{Token}
use Rattle.processor.specs.declared.tokens.TakenLevel.{TakenLevel}
use Rattle.processor.specs.declared.tokens.OpenService.{OpenService}
use Rattle.processor.specs.declared.tokens.Refused.{Refused}
use Rattle.processor.specs.Steps.{Proc, gives, leaves}

-- a token as it is handed out
abbrev pub token : {R : Type 0} → ℕ → ℕ → R → Token R
token number depth right = record { number = number; depth = depth; right = right; spent = false }

-- tokens bear the number of the processor and the depth of their service: the next one's, and that of the one just opened
abbrev pub taken_token : Proc → ℕ → Token TakenLevel
taken_token p level = token p.number (suc (length p.services)) (record { level = level })

abbrev pub service_token : Proc → Token OpenService
service_token p = token p.number (suc (length p.services)) (record {})

-- a refused call gives the token back, the same, with the fault
abbrev pub with_token : {F T : Type 0} → T → F → Refused F T
with_token t fault = record { fault = fault; token = t }

abbrev pub refused : {F T A : Type 0} → F → T → Result A (Refused F T)
refused fault t = Err (with_token t fault)

-- Take: the token of the level taken, if one is
abbrev pub handed : Proc → Done → Option (Token TakenLevel)
handed p (Took None) = None
handed p (Took (Some level)) = Some (taken_token p level)
handed p (Opened level) = None
handed p (Returned m) = None
handed p (Masked m) = None
handed p WasReset = None

abbrev pub token_take : Proc → Result Done ProcessorFault → Result (Option (Token TakenLevel)) ProcessorFault
token_take p r = result_map_both (handed p) (λ e. e) r

-- Acknowledge: a token of another number is foreign, and one of another depth is not that of the level taken. Either is refused as if
-- nothing were taken.
abbrev pub answers_for : Proc → Token TakenLevel → Bool
answers_for p t = t.number == p.number && t.depth == suc (length p.services)

abbrev pub opened_level : Done → ℕ
opened_level (Took o) = 0
opened_level (Opened level) = level
opened_level (Returned m) = 0
opened_level (Masked m) = 0
opened_level WasReset = 0

abbrev pub acknowledged : Proc → Token TakenLevel → Result Done ProcessorFault → Result (ℕ × Token OpenService) (Refused ProcessorFault (Token TakenLevel))
acknowledged p t r = result_map_both (λ d. (opened_level d, service_token p)) (with_token t) r

abbrev pub token_acknowledge : Proc → Token TakenLevel → Result (ℕ × Token OpenService) (Refused ProcessorFault (Token TakenLevel))
token_acknowledge p t = cond (answers_for p t) (acknowledged p t (gives p Acknowledge)) (refused NothingTaken t)

abbrev pub token_acknowledge_leaves : Proc → Token TakenLevel → Proc
token_acknowledge_leaves p t = cond (answers_for p t) (leaves p Acknowledge) p

-- Return: a foreign token closes nothing.
abbrev pub own : Proc → Token OpenService → Bool
own p t = t.number == p.number

abbrev pub foreign_fault : State → ℕ → ProcessorFault
foreign_fault Idle d = NotInnermost d
foreign_fault (Taken level found) d = LevelTaken level

abbrev pub put_back_mask : Done → ℕ
put_back_mask (Took o) = 0
put_back_mask (Opened level) = 0
put_back_mask (Returned m) = m
put_back_mask (Masked m) = 0
put_back_mask WasReset = 0

abbrev pub returned : Token OpenService → Result Done ProcessorFault → Result ℕ (Refused ProcessorFault (Token OpenService))
returned t r = result_map_both put_back_mask (with_token t) r

abbrev pub token_return : Proc → Token OpenService → Result ℕ (Refused ProcessorFault (Token OpenService))
token_return p t = cond (own p t) (returned t (gives p (Return t.depth))) (refused (foreign_fault p.state t.depth) t)

abbrev pub token_return_leaves : Proc → Token OpenService → Proc
token_return_leaves p t = cond (own p t) (leaves p (Return t.depth)) p
