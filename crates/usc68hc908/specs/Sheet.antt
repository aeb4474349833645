-- The USC68HC908: seven channels, numbered 1 to 7. Channel c has bit c of every register, and is source c - 1. All ask at the level
-- that the card is wired to.
use Rattle.std.specs.Prelude.{ℕ, zero, suc, ◌+◌, ◌%◌, Bool, true, false, cond, ◌&&◌, ltb, Some, None, Ok, Option, ◌==◌, nat_lt}
use Rattle.card.specs.declared.faults.CardFault.TheVariants.{NoAccess}
use Rattle.card.specs.declared.outcomes.Reply.TheVariants.{Byte}
use Rattle.card.specs.Source.{Source, pick}
use Rattle.card.specs.Bits.{bit}
use Rattle.card.specs.Runs.{one}
use Rattle.card.specs.Model.{Model, served}
use Rattle.bits.specs.Bytes.{byte, put, both, only, highest}
use Rattle.latches.specs.declared.Latches.{Latches}
use Rattle.latches.specs.Latching.{Settings, latches, at_rest, source_at, driven, released, keeping}
use Rattle.usc68hc908.specs.declared.Usc68hc908.{Usc68hc908}

abbrev pub usc : ℕ → Latches → (imr ier isr ivr : ℕ) → Usc68hc908
usc wired l imr ier isr ivr = record { wired = wired; latches = l; imr = imr; ier = ier; isr = isr; ivr = ivr }

-- as made, wired to a level
abbrev pub fresh : ℕ → Usc68hc908
fresh level = usc level at_rest 0 0 0 0

-- a number outside 1 to 7 wires the card to level 0
abbrev pub level_of : Usc68hc908 → ℕ
level_of x = cond (nat_lt x.wired 8) x.wired 0

-- odd channels are of edge sort, even ones of level sort
abbrev pub odd : ℕ → Bool
odd c = c % 2 == 1

-- channels 7, 5, 3 and 1
abbrev pub odd_channels : ℕ
odd_channels = 170

-- a register without bit 0
abbrev pub channels : ℕ → ℕ
channels r = only (λ c. ltb 0 c) r

-- IVR, of which bits 7 to 3 are kept
abbrev pub base_of : Usc68hc908 → ℕ
base_of x = only (λ c. ltb 2 c) x.ivr

-- a channel has a request: an edge held, or at a level channel enabled and its wire asserted
abbrev pub pends : Usc68hc908 → ℕ → Bool
pends x c = cond (odd c) (bit x.latches.held c) (bit x.ier c && bit x.latches.wires c)

abbrev pub in_service : Usc68hc908 → ℕ → Bool
in_service x c = nat_lt 0 c && bit x.isr c

-- no channel from c upward is in service: the highest in service is below c
abbrev pub idle_from : Usc68hc908 → ℕ → Bool
idle_from x c = nat_lt (highest (bit x.isr) 7) c

-- open: enabled, not masked, and no channel from c upward in service
abbrev pub opens : Usc68hc908 → ℕ → Bool
opens x c = bit x.ier c && (bit x.imr c && idle_from x c)

-- The channels as inputs: armed while enabled; the reply is the vector base and the channel's number.
abbrev pub settings : Usc68hc908 → Settings
settings x = record {
  edge = odd;
  level = λ c. level_of x;
  reply = λ c. Byte (base_of x + c);
  armed = λ c. bit x.ier c;
  opened = opens x;
}

abbrev pub sources : Usc68hc908 → ℕ → Source
sources x = source_at (settings x) x.latches

-- The four registers: 0 IPR, 1 IMR, 2 IER, and 3, which is IVR while IER bit 0 is set and else ISR.
abbrev pub by_register {ℓ} : {A : Type ℓ} → Usc68hc908 → ℕ → (ipr imr ier ivr isr : A) → A
by_register x r ipr imr ier ivr isr = cond (r == 0) ipr (cond (r == 1) imr (cond (r == 2) ier (cond (bit x.ier 0) ivr isr)))

abbrev pub ipr : Usc68hc908 → ℕ
ipr x = byte (λ c. nat_lt 0 c && pends x c)

-- what they show: bit 0 reads 0 in every one but IER
abbrev pub shows : Usc68hc908 → ℕ → ℕ
shows x r = by_register x r (ipr x) (channels x.imr) x.ier (base_of x) (channels x.isr)

-- all registers cleared and nothing held
abbrev pub cleared : Usc68hc908 → Usc68hc908
cleared x = usc x.wired (latches x.latches.wires 0) 0 0 0 0

abbrev pub with_imr : Usc68hc908 → ℕ → Usc68hc908
with_imr x v = usc x.wired x.latches v x.ier x.isr x.ivr

-- a channel whose bit is cleared loses its held edge
abbrev pub with_ier : Usc68hc908 → ℕ → Usc68hc908
with_ier x v = usc x.wired (keeping x.latches odd_channels v) x.imr v x.isr x.ivr

abbrev pub with_ivr : Usc68hc908 → ℕ → Usc68hc908
with_ivr x v = usc x.wired x.latches x.imr x.ier x.isr v

-- the services of the channels where v has a 0 are over
abbrev pub with_isr : Usc68hc908 → ℕ → Usc68hc908
with_isr x v = usc x.wired x.latches x.imr x.ier (both x.isr v) x.ivr

-- a write of each; writing 0 to ISR clears all
abbrev pub writes : Usc68hc908 → ℕ → ℕ → Usc68hc908
writes x r v = by_register x r x (with_imr x v) (with_ier x v) (with_ivr x v) (cond (v == 0) (cleared x) (with_isr x v))

abbrev pub drives : Usc68hc908 → ℕ → Bool → Usc68hc908
drives x c asserted = usc x.wired (driven (settings x) x.latches c asserted) x.imr x.ier x.isr x.ivr

-- an answer puts the channel in service, and it holds no edge now
abbrev pub serves : Usc68hc908 → ℕ → Usc68hc908
serves x c = usc x.wired (released x.latches c) x.imr x.ier (put c true x.isr) x.ivr

-- IPR can't be written
abbrev pub usc68hc908_model : Model Usc68hc908
usc68hc908_model = record {
  sources = 7;
  registers = 4;
  meaning = λ x. record {
    source = sources x;
    reads = λ r lines. Ok (shows x r);
    refuses = λ r v. cond (r == 0) (Some (NoAccess 0)) None;
    admits = λ n. false;
  };
  driven = λ x s asserted. drives x (s + 1) asserted;
  written = writes;
  answered = λ x n. served (λ s. serves x (s + 1)) (pick (sources x) n 7) x;
  cleared = cleared;
}

-- how many of the numbers below k pass the test
abbrev pub how_many : (ℕ → Bool) → ℕ → ℕ
how_many test zero = 0
how_many test (suc k) = one (test k) + how_many test k

-- the highest channel that asks, where the card's level is not 0
abbrev pub asks : Usc68hc908 → ℕ → Bool
asks x c = opens x c && pends x c

abbrev pub if_any : ℕ → Option ℕ
if_any c = cond (c == 0) None (Some c)

abbrev pub chosen_channel : Usc68hc908 → Option ℕ
chosen_channel x = if_any (highest (asks x) 7)
