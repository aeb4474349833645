-- The law over every run.
use Rattle.std.proofs.Common.{◌≡◌, ℕ, List, [], ◌∷◌, Some, None, Ok, Err, Option, Result, sym, refl, ap, ◌∙◌, subst, arith}
use Rattle.std.specs.Result.{result_map_both}
use Rattle.card.specs.declared.faults.CardFault.{CardFault}
use Rattle.card.specs.Model.{unless_refused, changed_unless, drive_fault, write_fault}
use Rattle.card.specs.Laws.{Laws, NoticeLaw}
use Rattle.card.specs.Runs.{Turn, turn_of, turns, one, Every, Along}
use Rattle.processor.specs.declared.state.Done.{Done}
use Rattle.processor.specs.declared.state.Done.TheVariants.{Took as DoneTook, Opened, Returned as DoneReturned, Masked as DoneMasked, WasReset}
use Rattle.processor.specs.declared.state.ProcessorFault.{ProcessorFault}
use Rattle.processor.specs.declared.state.ProcessorCall.{ProcessorCall}
use Rattle.processor.specs.declared.state.ProcessorCall.TheVariants.{Take as TakeIt, Acknowledge as AcknowledgeIt, Return as ReturnIt, Mask as MaskIt, Reset as ResetIt}
use Rattle.processor.specs.Steps.{gives, leaves, after}
use Rattle.processor.specs.Events.{Event, other, level_after, did}
use Rattle.processor.proofs.Shapes.{Shape, stays, call_shape, level_in, level_kept, machine_keeps}
use Rattle.rack.specs.declared.calls.Side.TheVariants.{Local, Chain}
use Rattle.rack.specs.declared.calls.Call.{Call}
use Rattle.rack.specs.declared.calls.Call.TheVariants.{Drive, Read, Write, Mask, Take, Acknowledge, Return, Reset}
use Rattle.rack.specs.declared.calls.Outcome.{Outcome}
use Rattle.rack.specs.declared.calls.Outcome.TheVariants.{Drove, Showed, Withdrew}
use Rattle.rack.specs.declared.faults.RackFault.{RackFault}
use Rattle.rack.specs.declared.faults.RackFault.TheVariants.{Card}
use Rattle.rack.specs.Machine.{Parts, State, start, presented, done_gives, done_leaves, fit_gives, fit_leaves, rack_gives, rack_leaves, with_handler, with_chain}
use Rattle.runs.specs.Turns.{event_of, event}
use Rattle.runs.specs.Law.{AcknowledgeRight, TakeRight, RefusedWhole, RunKeeps, NoEdges}
use Rattle.runs.proofs.Edges.{by_size, run_balance}
use Rattle.runs.proofs.Rights.{acknowledge_right}
use Rattle.runs.proofs.Takes.{take_right}

every_turn : {S C R : Type 0} (give : S → C → R) (next : S → C → S) (P : Turn S C R → Type 0) → ((x : S) (c : C) → P (turn_of give next x c)) → (x : S) (cs : List C) → Every P (turns give next x cs)
every_turn give next P h x [] = tt
every_turn give next P h x (c ∷ cs) = (h x c, every_turn give next P h (next x c) cs)

-- what is noted of the turns so far is what the state says
along_turns : {S C R N : Type 0} (give : S → C → R) (next : S → C → S) (note : Turn S C R → N → N) (P : N → Turn S C R → Type 0) (says : S → N)
    → ((x : S) (c : C) → note (turn_of give next x c) (says x) ≡ says (next x c)) → ((x : S) (c : C) → P (says x) (turn_of give next x c))
    → (x : S) (cs : List C) (n : N) → n ≡ says x → Along note P n (turns give next x cs)
along_turns give next note P says step each x [] n e = tt
along_turns give next note P says step each x (c ∷ cs) n e =
    (subst (λ m. P m (turn_of give next x c)) (sym e) (each x c), along_turns give next note P says step each (next x c) cs (note (turn_of give next x c) n) (ap (note (turn_of give next x c)) e ∙ step x c))

-- the event that a call of the processor is seen as
seen : {H C : Type 0} (p : Parts H C) (x : State H C) (r : Result Done ProcessorFault) → did r ≡ event_of (done_gives p x r)
seen p x (Err e) = refl
seen p x (Ok (DoneTook None)) = refl
seen p x (Ok (DoneTook (Some n))) = refl
seen p x (Ok (Opened n)) = refl
seen p x (Ok (DoneReturned m)) = refl
seen p x (Ok (DoneMasked m)) = refl
seen p x (Ok WasReset) = refl

quiet_event : {A : Type 0} (make : A → Outcome) → ((a : A) → event_of (Ok (make a)) ≡ other) → (r : Result A CardFault) → event_of (result_map_both make Card r) ≡ other
quiet_event make h (Ok a) = h a
quiet_event make h (Err e) = refl

module _ {H C : Type 0} (p : Parts H C) (x : State H C) where
  card_shape : (e : Event) → e ≡ other → Shape x.processor x.processor e
  card_shape e q = rw q (stays refl refl)

  done_shape : (c : ProcessorCall) → Shape x.processor (leaves x.processor c) (event_of (done_gives p x (gives x.processor c)))
  done_shape c = rw (sym (seen p x (gives x.processor c))) (call_shape x.processor c)

  fit_shape : (c : Call) → Shape x.processor (fit_leaves p x c).processor (event_of (fit_gives p x c))
  fit_shape (Drive Local s b) = card_shape _ (quiet_event Drove (λ a. refl) _)
  fit_shape (Drive Chain s b) = card_shape _ (quiet_event Drove (λ a. refl) _)
  fit_shape (Read Local r) = card_shape _ (quiet_event Showed (λ a. refl) _)
  fit_shape (Read Chain r) = card_shape _ (quiet_event Showed (λ a. refl) _)
  fit_shape (Write Local r v) = card_shape _ (quiet_event Withdrew (λ a. refl) _)
  fit_shape (Write Chain r v) = card_shape _ (quiet_event Withdrew (λ a. refl) _)
  fit_shape (Mask m) = done_shape (MaskIt m)
  fit_shape Take = done_shape (TakeIt (presented p x))
  fit_shape Acknowledge = done_shape AcknowledgeIt
  fit_shape (Return d) = done_shape (ReturnIt d)
  fit_shape Reset = done_shape ResetIt

  pub shape : (c : Call) → Shape x.processor (rack_leaves p x c).processor (event_of (rack_gives p x c))
  shape c = by_size p x c (λ r y. Shape x.processor y.processor (event_of r)) (stays refl refl) (fit_shape c)

  -- refusals
  card_refused : {A Y : Type 0} (make : A → Outcome) (put : Y → State H C) (o : Option CardFault) (a : A) (after before : Y) → put before ≡ x → (e : RackFault) → result_map_both make Card (unless_refused o a) ≡ Err e → put (changed_unless o after before) ≡ x
  card_refused make put None a after before same e h = grind arith
  card_refused make put (Some d) a after before same e h = same

  done_refused : (r : Result Done ProcessorFault) (e : RackFault) → done_gives p x r ≡ Err e → done_leaves p x r ≡ x
  done_refused (Ok d) e h = grind arith
  done_refused (Err d) e h = refl

  fit_refused : (c : Call) (e : RackFault) → fit_gives p x c ≡ Err e → fit_leaves p x c ≡ x
  fit_refused (Drive Local s b) e = card_refused Drove (with_handler x) (drive_fault p.handler s) _ _ x.handler refl e
  fit_refused (Drive Chain s b) e = card_refused Drove (with_chain x) (drive_fault p.chain s) _ _ x.chain refl e
  fit_refused (Read z r) e = λ h. refl
  fit_refused (Write Local r v) e = card_refused Withdrew (with_handler x) (write_fault p.handler x.handler r v) _ _ x.handler refl e
  fit_refused (Write Chain r v) e = card_refused Withdrew (with_chain x) (write_fault p.chain x.chain r v) _ _ x.chain refl e
  fit_refused (Mask m) e = done_refused _ e
  fit_refused Take e = done_refused _ e
  fit_refused Acknowledge e = done_refused _ e
  fit_refused (Return d) e = done_refused _ e
  fit_refused Reset e = done_refused _ e

  pub refused_whole : (c : Call) → RefusedWhole (turn_of (rack_gives p) (rack_leaves p) x c)
  refused_whole c e = by_size p x c (λ r y. r ≡ Err e → y ≡ x) (λ h. refl) (fit_refused c e)

pub run_keeps : {H C : Type 0} (p : Parts H C) → Laws p.handler → NoticeLaw p.handler p.noticed → Laws p.chain → (number : ℕ) (h : H) (c : C) (calls : List Call) → NoEdges p (start number h c) → RunKeeps p (start number h c) calls
run_keeps p lh ln lc number h c calls none = record {
  edges = λ z s within. omega (arith, run_balance p lh ln lc z s within (start number h c) calls, ap one (none z s within));
  acknowledges = along_turns (rack_gives p) (rack_leaves p) (λ t level. level_after (event t) level) (AcknowledgeRight p) (λ y. level_in y.processor.state)
      (λ y d. level_kept y.processor (rack_leaves p y d).processor (event_of (rack_gives p y d)) (shape p y d)) (λ y d. acknowledge_right p lh ln lc y d) (start number h c) calls None refl;
  takes = every_turn (rack_gives p) (rack_leaves p) (TakeRight p) (λ y d. take_right p y d) (start number h c) calls;
  processor = machine_keeps (rack_gives p) (rack_leaves p) (λ y. y.processor) event (λ y d. shape p y d) (start number h c) refl refl calls;
  refusals = every_turn (rack_gives p) (rack_leaves p) RefusedWhole (λ y d. refused_whole p y d) (start number h c) calls;
}
