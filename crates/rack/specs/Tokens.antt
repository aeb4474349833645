-- The rack's calls by token: as the processor's, with what the handler and the chain then do.
use Rattle.std.specs.Prelude.{ℕ, cond, Ok, Err, Option, Result}
use Rattle.std.specs.Result.{result_map_both}
use Rattle.card.specs.declared.faults.CardFault.TheVariants.{Oversize}
use Rattle.processor.specs.declared.state.ProcessorCall.TheVariants.{Take}
use Rattle.processor.specs.declared.state.ProcessorFault.{ProcessorFault}
use Rattle.processor.specs.declared.tokens.Token.{Token}
use Rattle.processor.specs.declared.tokens.TakenLevel.{TakenLevel}
use Rattle.processor.specs.declared.tokens.OpenService.{OpenService}
use Rattle.processor.specs.declared.tokens.Refused.{Refused}
use Rattle.processor.specs.Steps.{Proc, gives}
use Rattle.processor.specs.Tokens.{refused, token_take, token_acknowledge, token_acknowledge_leaves, token_return, token_return_leaves}
use Rattle.rack.specs.declared.calls.Reached.{Reached}
use Rattle.rack.specs.declared.faults.RackFault.{RackFault}
use Rattle.rack.specs.declared.faults.RackFault.TheVariants.{Card, Processor}
use Rattle.rack.specs.Machine.{Parts, State, oversized, presented, reached, answered}

-- the processor's refusal, as the rack's: the token comes back, the same
abbrev pub of_refused : {T : Type 0} → Refused ProcessorFault T → Refused RackFault T
of_refused r = record { fault = Processor r.fault; token = r.token }

abbrev pub with_processor : {H C : Type 0} → State H C → Proc → State H C
with_processor x q = record { handler = x.handler; chain = x.chain; processor = q }

-- Take: the token of the level taken, if one is. It leaves what the call by depth leaves.
abbrev pub token_take_gives : {H C : Type 0} → Parts H C → State H C → Result (Option (Token TakenLevel)) RackFault
token_take_gives p x = cond (oversized p) (Err (Card Oversize)) (result_map_both (λ o. o) Processor (token_take x.processor (gives x.processor (Take (presented p x)))))

-- Acknowledge: who answered at the level taken, and the token of the service.
abbrev pub token_acknowledge_gives : {H C : Type 0} → Parts H C → State H C → Token TakenLevel → Result (Reached × Token OpenService) (Refused RackFault (Token TakenLevel))
token_acknowledge_gives p x t = cond (oversized p) (refused (Card Oversize) t) (result_map_both (λ v. (reached p x v.0, v.1)) of_refused (token_acknowledge x.processor t))

abbrev pub left_by : {H C : Type 0} → Parts H C → State H C → Result (ℕ × Token OpenService) (Refused ProcessorFault (Token TakenLevel)) → State H C
left_by p x (Ok v) = answered p x v.0
left_by p x (Err r) = x

abbrev pub token_acknowledge_exit : {H C : Type 0} → Parts H C → State H C → Token TakenLevel → State H C
token_acknowledge_exit p x t = cond (oversized p) x (with_processor (left_by p x (token_acknowledge x.processor t)) (token_acknowledge_leaves x.processor t))

-- Return: the mask that is put back.
abbrev pub token_return_gives : {H C : Type 0} → Parts H C → State H C → Token OpenService → Result ℕ (Refused RackFault (Token OpenService))
token_return_gives p x t = cond (oversized p) (refused (Card Oversize) t) (result_map_both (λ m. m) of_refused (token_return x.processor t))

abbrev pub token_return_exit : {H C : Type 0} → Parts H C → State H C → Token OpenService → State H C
token_return_exit p x t = cond (oversized p) x (with_processor x (token_return_leaves x.processor t))
