-- The worked examples: lists of calls of a new card or a new rack, and what each call gives.
use Rattle.std.specs.Prelude.{◌≡◌, ℕ, ◌<◌, true, false, List, [], ◌∷◌, map, Some, None, Ok}
use Rattle.card.specs.declared.outcomes.Driven.TheVariants.{Follow, Latched, Merged, Quiet}
use Rattle.card.specs.declared.outcomes.Reply.{Reply}
use Rattle.card.specs.declared.outcomes.Reply.TheVariants.{Byte, Outside}
use Rattle.card.specs.declared.calls.CardCall.{CardCall}
use Rattle.card.specs.declared.calls.CardCall.TheVariants.{Drive, Read, Write, Answer}
use Rattle.card.specs.declared.calls.CardResult.{CardResult}
use Rattle.card.specs.declared.calls.CardResult.TheVariants.{Drove, Showed, Withdrew, Answered}
use Rattle.card.specs.Bits.{bit}
use Rattle.card.specs.Withdrawing.{told}
use Rattle.card.specs.Model.{Model, source_of, levels_asked}
use Rattle.card.specs.Runs.{Turn, turns, end_of}
use Rattle.card.specs.Edges.{gives, leaves}
use Rattle.mc68153.specs.Sheet.{mc68153_model, fresh as fresh_mc68153}
use Rattle.usc68hc908.specs.declared.Usc68hc908.{Usc68hc908}
use Rattle.usc68hc908.specs.Sheet.{usc68hc908_model, fresh as fresh_usc68hc908}
use Rattle.scb68155.specs.Sheet.{scb68155_model, fresh as fresh_scb68155}
use Rattle.rack.specs.declared.calls.Side.TheVariants.{Chain}
use Rattle.rack.specs.declared.calls.Call.{Call}
use Rattle.rack.specs.declared.calls.Call.TheVariants.{Drive as DriveSide, Write as WriteSide, Mask, Take, Acknowledge}
use Rattle.rack.specs.declared.calls.Reached.TheVariants.{Spurious}
use Rattle.rack.specs.declared.calls.Outcome.TheVariants.{Drove as DroveSide, Masked, Took, Answered as AnsweredBy}
use Rattle.rack.specs.Machine.{presented}
use Rattle.runs.specs.Turns.{results_of, end_of_run}
use Rattle.loom.specs.Rack.{loom_parts, loom_start}

-- what calls give that are made in turn on a card, and where they lead
abbrev pub results : {X : Type 0} → Model X → X → List CardCall → List CardResult
results c x calls = map (λ (t : Turn _ CardCall CardResult). t.gave) (turns (gives c) (leaves c) x calls)

abbrev pub state_after : {X : Type 0} → Model X → X → List CardCall → X
state_after c x calls = end_of (leaves c) x calls

-- a write that withdrew the edges of the sources whose bit of n is set
abbrev pub dropped : ℕ → CardResult
dropped n = Withdrew (Ok (told (bit n) 8))

-- an answer by a source, and one that no source gives
abbrev pub answered : ℕ → Reply → CardResult
answered s r = Answered (Ok (Some (record { source = s; reply = r })))

abbrev pub unanswered : CardResult
unanswered = Answered (Ok None)

-- A USC68HC908 wired to level 4, with every channel enabled and not masked, and vector base 64.
abbrev pub channels_open : List CardCall
channels_open = Write 1 254 ∷ Write 2 255 ∷ Write 3 64 ∷ []

abbrev pub open_usc68hc908 : Usc68hc908
open_usc68hc908 = state_after usc68hc908_model (fresh_usc68hc908 4) channels_open

-- The mill's rack, where input 0 of the MC68153 asks at level 4.
abbrev pub asking_at_4 : List Call
asking_at_4 = WriteSide Chain 0 20 ∷ DriveSide Chain 0 true ∷ []

pub record WorkedExamples : Type 0 where
  -- MC68153, any input: with control 20 (level 4, enabled) and its wire asserted, two answers at 4 are both 15 from that input.
  pub answers_while_asserted : (i : ℕ) → i < 4 → results mc68153_model fresh_mc68153 (Write i 20 ∷ Drive i true ∷ Answer 4 ∷ Answer 4 ∷ [])
      ≡ dropped 0 ∷ Drove (Ok Follow) ∷ answered i (Byte 15) ∷ answered i (Byte 15) ∷ []
  -- Control 24 (level 0, enabled): it never asks.
  pub level_zero : (i : ℕ) → i < 4 → (source_of mc68153_model (state_after mc68153_model fresh_mc68153 (Write i 24 ∷ Drive i true ∷ [])) i).level ≡ 0
  pub never_asks : (i : ℕ) → i < 4 → levels_asked mc68153_model (state_after mc68153_model fresh_mc68153 (Write i 24 ∷ Drive i true ∷ [])) ≡ 0
  -- Control 244 (level 4, enabled, outside, flag and its auto-clear): the answer is outside, and then it reads 116.
  pub outside_once : (i : ℕ) → i < 4 → results mc68153_model fresh_mc68153 (Write i 244 ∷ Drive i true ∷ Answer 4 ∷ Read i 0 ∷ [])
      ≡ dropped 0 ∷ Drove (Ok Follow) ∷ answered i Outside ∷ Showed (Ok 116) ∷ []
  -- USC68HC908: channel 7 asserted, negated and asserted is latched, quiet and merged; the answer is 71 from source 6, and then there is none.
  pub edges_merge : results usc68hc908_model open_usc68hc908 (Drive 6 true ∷ Drive 6 false ∷ Drive 6 true ∷ Answer 4 ∷ Answer 4 ∷ [])
      ≡ Drove (Ok Latched) ∷ Drove (Ok Quiet) ∷ Drove (Ok Merged) ∷ answered 6 (Byte 71) ∷ unanswered ∷ []
  -- Channel 7 holds an edge, and IER goes from 255 to 127: withdrawn 64.
  pub edge_withdrawn : results usc68hc908_model open_usc68hc908 (Drive 6 true ∷ Write 2 127 ∷ []) ≡ Drove (Ok Latched) ∷ dropped 64 ∷ []
  -- Channel 3 latches an edge while channel 5 is in service, and asks after ISR is written 223.
  pub waits_for_service : results usc68hc908_model open_usc68hc908 (Drive 4 true ∷ Answer 4 ∷ Drive 2 true ∷ Answer 4 ∷ Write 2 254 ∷ Write 3 223 ∷ Answer 4 ∷ [])
      ≡ Drove (Ok Latched) ∷ answered 4 (Byte 69) ∷ Drove (Ok Latched) ∷ unanswered ∷ dropped 0 ∷ dropped 0 ∷ answered 2 (Byte 67) ∷ []
  -- SCB68155: with R3 129 and R2 64 an edge of NMI is answered 71, and then R7 reads 15.
  pub nmi_answers : results scb68155_model fresh_scb68155 (Write 3 129 ∷ Write 2 64 ∷ Drive 6 true ∷ Answer 7 ∷ Read 7 0 ∷ [])
      ≡ dropped 0 ∷ dropped 0 ∷ Drove (Ok Latched) ∷ answered 6 (Byte 71) ∷ Showed (Ok 15) ∷ []
  -- The rack, presented level 4: a take with mask 4 gives none, and with mask 3 level 4.
  pub presents_4 : presented loom_parts (end_of_run loom_parts loom_start asking_at_4) ≡ 4
  pub compares : results_of loom_parts (end_of_run loom_parts loom_start asking_at_4) (Mask 4 ∷ Take ∷ Mask 3 ∷ Take ∷ [])
      ≡ Ok Masked ∷ Ok (Took None) ∷ Ok Masked ∷ Ok (Took (Some 4)) ∷ []
  -- Level 4 is taken, its wire is negated, and an acknowledge comes: vector 24.
  pub spurious : results_of loom_parts (end_of_run loom_parts loom_start asking_at_4) (Mask 0 ∷ Take ∷ DriveSide Chain 0 false ∷ Acknowledge ∷ [])
      ≡ Ok Masked ∷ Ok (Took (Some 4)) ∷ Ok (DroveSide Follow) ∷ Ok (AnsweredBy (Spurious 24)) ∷ []
