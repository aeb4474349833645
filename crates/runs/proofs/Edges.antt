-- Each call of a rack balances the edges of every source of either side.
use Rattle.std.proofs.Common.{◌≡◌, ℕ, ◌+◌, ◌<◌, Bool, true, false, cond, ◌&&◌, List, Some, None, Ok, Err, Option, Result, sym, refl, ap, arith}
use Rattle.std.specs.Result.{result_map_both}
use Rattle.std.proofs.Math.Bool.{and-false}
use Rattle.std.proofs.lemmas.Bool.{and_right}
use Rattle.card.specs.declared.faults.CardFault.{CardFault}
use Rattle.card.specs.declared.faults.CardFault.TheVariants.{Oversize}
use Rattle.card.specs.declared.outcomes.Driven.{Driven}
use Rattle.card.specs.declared.withdrawn.Withdrawn.{Withdrawn}
use Rattle.card.specs.Source.{Chosen}
use Rattle.card.specs.Model.{source_of, drive_result, write_result, read_result}
use Rattle.card.specs.Laws.{Laws, NoticeLaw}
use Rattle.card.specs.Runs.{turns, end_of, one, count_of}
use Rattle.card.specs.Edges.{latch, tells}
use Rattle.card.proofs.Picks.{pick_chosen}
use Rattle.card.proofs.Balances.{balance_run, drive_balance, write_balance, cleared_balance, pick_balance, notice_balance}
use Rattle.processor.specs.declared.state.Done.{Done}
use Rattle.processor.specs.declared.state.Done.TheVariants.{Took as DoneTook, Opened, Returned as DoneReturned, Masked as DoneMasked, WasReset}
use Rattle.processor.specs.declared.state.ProcessorFault.{ProcessorFault}
use Rattle.processor.specs.declared.state.ProcessorCall.TheVariants.{Take as TakeIt, Acknowledge as AcknowledgeIt, Return as ReturnIt, Mask as MaskIt, Reset as ResetIt}
use Rattle.processor.specs.Steps.{Proc, gives}
use Rattle.rack.specs.declared.calls.Side.{Side}
use Rattle.rack.specs.declared.calls.Side.TheVariants.{Local, Chain}
use Rattle.rack.specs.declared.calls.Call.{Call}
use Rattle.rack.specs.declared.calls.Call.TheVariants.{Drive, Read, Write, Mask, Take, Acknowledge, Return, Reset}
use Rattle.rack.specs.declared.calls.Outcome.{Outcome}
use Rattle.rack.specs.declared.calls.Outcome.TheVariants.{Drove, Showed, Withdrew, Masked, Took, Returned}
use Rattle.rack.specs.declared.faults.RackFault.{RackFault}
use Rattle.rack.specs.declared.faults.RackFault.TheVariants.{Card, Processor}
use Rattle.rack.specs.Machine.{Parts, State, source_at, count_at, admitted, bus_lines, presented, chosen_at, reached_by, reached, reset_outcome, handler_answered, chain_answered, oversized, done_gives, done_leaves, fit_gives, fit_leaves, rack_gives, rack_leaves}
use Rattle.runs.specs.Turns.{says, drives_it, tells_latch, latched, is_source, tells_answer, answered, tells_withdrawn, writes_to, withdrew}

-- what a call of a card does not tell
card_says : {A : Type 0} (f : Outcome → Bool) (make : A → Outcome) → ((a : A) → f (make a) ≡ false) → (r : Result A CardFault) → says f (result_map_both make Card r) ≡ false
card_says f make h (Ok a) = h a
card_says f make h (Err e) = refl

latch_told : (r : Result Driven CardFault) → says tells_latch (result_map_both Drove Card r) ≡ latch r
latch_told (Ok d) = refl
latch_told (Err e) = refl

withdrawn_told : (z : Side) (s : ℕ) (c : Call) (r : Result Withdrawn CardFault) → says (tells_withdrawn z s c) (result_map_both Withdrew Card r) ≡ (writes_to z c && tells s r)
withdrawn_told z s c (Ok w) = refl
withdrawn_told z s c (Err e) = sym (and-false (writes_to z c))

-- what a call gives and leaves: a refusal of an oversize rack, or else what it gives and leaves where it fits
pub by_size : {H C : Type 0} (p : Parts H C) (x : State H C) (c : Call) (P : Result Outcome RackFault → State H C → Type 0) → P (Err (Card Oversize)) x → P (fit_gives p x c) (fit_leaves p x c) → P (rack_gives p x c) (rack_leaves p x c)
by_size p x c P big fits = go (oversized p)
  where
    go : (b : Bool) → P (cond b (Err (Card Oversize)) (fit_gives p x c)) (cond b x (fit_leaves p x c))
    go true = big
    go false = fits

abbrev Balance : {H C : Type 0} → Parts H C → Side → ℕ → State H C → Call → Result Outcome RackFault → State H C → Type 0
Balance p z s x c r y = one (source_at p z x s).held + one (drives_it z s c && says tells_latch r) ≡ one (says (tells_answer z s) r && (source_at p z x s).edge) + one (says (tells_withdrawn z s c) r) + one (source_at p z y s).held

balanced : {H C : Type 0} (p : Parts H C) (z : Side) (s : ℕ) (x : State H C) (c : Call) (r : Result Outcome RackFault) (y : State H C) (l a w : Bool)
    → (drives_it z s c && says tells_latch r) ≡ l → says (tells_answer z s) r ≡ a → says (tells_withdrawn z s c) r ≡ w
    → one (source_at p z x s).held + one l ≡ one (a && (source_at p z x s).edge) + one w + one (source_at p z y s).held → Balance p z s x c r y
balanced p z s x c r y l a w el ea ew h = rw (el, ea, ew) h

refused : {H C : Type 0} (p : Parts H C) (z : Side) (s : ℕ) (x : State H C) (c : Call) (e : RackFault) → Balance p z s x c (Err e) x
refused p z s x c e = balanced p z s x c (Err e) x false false false (and-false (drives_it z s c)) refl refl (omega arith)

-- a call that tells nothing of a source and leaves it held as it was
quiet : {H C : Type 0} (p : Parts H C) (z : Side) (s : ℕ) (x : State H C) (c : Call) (r : Result Outcome RackFault) (y : State H C)
    → (drives_it z s c && says tells_latch r) ≡ false → says (tells_answer z s) r ≡ false → says (tells_withdrawn z s c) r ≡ false → one (source_at p z x s).held ≡ one (source_at p z y s).held → Balance p z s x c r y
quiet p z s x c r y el ea ew h = balanced p z s x c r y false false false el ea ew (omega (arith, h))

module _ {H C : Type 0} (p : Parts H C) (lh : Laws p.handler) (ln : NoticeLaw p.handler p.noticed) (lc : Laws p.chain) (x : State H C) (s : ℕ) where
  -- an acknowledge, by who is chosen on each side
  local_answer : s < p.handler.sources → (n : ℕ) (a : Option ℕ) (m : Bool) (b : Option ℕ) → Chosen (source_at p Local x) n p.handler.sources a
      → one (source_at p Local x s).held ≡ one (is_source Local s (reached_by (source_at p Local x) (source_at p Chain x) a m b) && (source_at p Local x s).edge) + one (source_of p.handler (handler_answered p x n a m) s).held
  local_answer h n (Some t) m b c = omega (arith, pick_balance p.handler lh x.handler s h n (Some t) c)
  local_answer h n None false b c = omega arith
  local_answer h n None true None c = omega (arith, notice_balance p.handler lh x.handler s h p.noticed ln n)
  local_answer h n None true (Some t) c = omega (arith, notice_balance p.handler lh x.handler s h p.noticed ln n)

  chain_answer : s < p.chain.sources → (n : ℕ) (a : Option ℕ) (m : Bool) (b : Option ℕ) → Chosen (source_at p Chain x) n p.chain.sources b
      → one (source_at p Chain x s).held ≡ one (is_source Chain s (reached_by (source_at p Local x) (source_at p Chain x) a m b) && (source_at p Chain x s).edge) + one (source_of p.chain (chain_answered p x n a m b) s).held
  chain_answer h n (Some t) m b c = omega arith
  chain_answer h n None false b c = omega arith
  chain_answer h n None true None c = omega arith
  chain_answer h n None true (Some t) c = omega (arith, pick_balance p.chain lc x.chain s h n (Some t) c)

  -- a call of the processor, by what it did
  processor_alone : (z : Side) (c : Call) (o : Outcome) (q : Proc) → tells_latch o ≡ false → tells_answer z s o ≡ false → tells_withdrawn z s c o ≡ false
      → Balance p z s x c (Ok o) (record { handler = x.handler; chain = x.chain; processor = q })
  processor_alone z c o q el ea ew = balanced p z s x c (Ok o) _ false false false (and_right (drives_it z s c) _ el) ea ew (same z)
    where
      same : (z : Side) → one (source_at p z x s).held + 0 ≡ 0 + 0 + one (source_at p z (record { handler = x.handler; chain = x.chain; processor = q }) s).held
      same Local = omega arith
      same Chain = omega arith

  opened : (z : Side) → s < count_at p z → (n : ℕ)
      → one (source_at p z x s).held + 0 ≡ one (is_source z s (reached p x n) && (source_at p z x s).edge) + 0 + one (source_at p z (done_leaves p x (Ok (Opened n))) s).held
  opened Local h n = omega (arith, local_answer h n (chosen_at p Local x n) (admitted p x n) (chosen_at p Chain x n) (pick_chosen (source_at p Local x) n p.handler.sources))
  opened Chain h n = omega (arith, chain_answer h n (chosen_at p Local x n) (admitted p x n) (chosen_at p Chain x n) (pick_chosen (source_at p Chain x) n p.chain.sources))

  cleared : (z : Side) → s < count_at p z → one (source_at p z x s).held + 0 ≡ 0 + one (tells_withdrawn z s Reset (reset_outcome p x)) + one (source_at p z (done_leaves p x (Ok WasReset)) s).held
  cleared Local h = omega (arith, cleared_balance p.handler lh x.handler s h)
  cleared Chain h = omega (arith, cleared_balance p.chain lc x.chain s h)

  done_balance : (z : Side) → s < count_at p z → (c : Call) → (r : Result Done ProcessorFault) → Balance p z s x c (done_gives p x r) (done_leaves p x r)
  done_balance z h c (Err e) = refused p z s x c (Processor e)
  done_balance z h c (Ok (DoneTook level)) = processor_alone z c (Took level) _ refl refl refl
  done_balance z h c (Ok (DoneReturned m)) = processor_alone z c (Returned m) _ refl refl refl
  done_balance z h c (Ok (DoneMasked m)) = processor_alone z c Masked _ refl refl refl
  done_balance z h c (Ok (Opened n)) = balanced p z s x c (done_gives p x (Ok (Opened n))) (done_leaves p x (Ok (Opened n))) false _ false (and-false (drives_it z s c)) refl refl (opened z h n)
  done_balance z h c (Ok WasReset) = balanced p z s x c (done_gives p x (Ok WasReset)) (done_leaves p x (Ok WasReset)) false false _ (and-false (drives_it z s c)) refl refl (cleared z h)

  -- a call of the card of side y, as it is told of a source of side z
  drive_told : (z y : Side) (t : ℕ) (b : Bool) (r : Result Driven CardFault) (left : State H C) → one (source_at p z x s).held + one (drives_it z s (Drive y t b) && latch r) ≡ one (source_at p z left s).held → Balance p z s x (Drive y t b) (result_map_both Drove Card r) left
  drive_told z y t b r left h = balanced p z s x (Drive y t b) (result_map_both Drove Card r) left (drives_it z s (Drive y t b) && latch r) false false
      (ap (λ l. drives_it z s (Drive y t b) && l) (latch_told r)) (card_says (tells_answer z s) Drove (λ d. refl) r) (card_says (tells_withdrawn z s (Drive y t b)) Drove (λ d. refl) r) (omega (arith, h))

  read_told : (z y : Side) (t : ℕ) (r : Result ℕ CardFault) → Balance p z s x (Read y t) (result_map_both Showed Card r) x
  read_told z y t r = quiet p z s x (Read y t) (result_map_both Showed Card r) x refl (card_says (tells_answer z s) Showed (λ d. refl) r) (card_says (tells_withdrawn z s (Read y t)) Showed (λ d. refl) r) refl

  write_told : (z y : Side) (t v : ℕ) (r : Result Withdrawn CardFault) (left : State H C) → one (source_at p z x s).held ≡ one (writes_to z (Write y t v) && tells s r) + one (source_at p z left s).held → Balance p z s x (Write y t v) (result_map_both Withdrew Card r) left
  write_told z y t v r left h = balanced p z s x (Write y t v) (result_map_both Withdrew Card r) left false false (writes_to z (Write y t v) && tells s r)
      refl (card_says (tells_answer z s) Withdrew (λ d. refl) r) (withdrawn_told z s (Write y t v) r) (omega (arith, h))

  fit_balance : (z : Side) → s < count_at p z → (c : Call) → Balance p z s x c (fit_gives p x c) (fit_leaves p x c)
  fit_balance Local h (Drive Local t b) = drive_told Local Local t b (drive_result p.handler x.handler t b) (fit_leaves p x (Drive Local t b)) (drive_balance p.handler lh x.handler s h t b)
  fit_balance Chain h (Drive Chain t b) = drive_told Chain Chain t b (drive_result p.chain x.chain t b) (fit_leaves p x (Drive Chain t b)) (drive_balance p.chain lc x.chain s h t b)
  fit_balance Local h (Drive Chain t b) = drive_told Local Chain t b (drive_result p.chain x.chain t b) (fit_leaves p x (Drive Chain t b)) (omega arith)
  fit_balance Chain h (Drive Local t b) = drive_told Chain Local t b (drive_result p.handler x.handler t b) (fit_leaves p x (Drive Local t b)) (omega arith)
  fit_balance Local h (Write Local r v) = write_told Local Local r v (write_result p.handler x.handler r v) (fit_leaves p x (Write Local r v)) (write_balance p.handler lh x.handler s h r v)
  fit_balance Chain h (Write Chain r v) = write_told Chain Chain r v (write_result p.chain x.chain r v) (fit_leaves p x (Write Chain r v)) (write_balance p.chain lc x.chain s h r v)
  fit_balance Local h (Write Chain r v) = write_told Local Chain r v (write_result p.chain x.chain r v) (fit_leaves p x (Write Chain r v)) (omega arith)
  fit_balance Chain h (Write Local r v) = write_told Chain Local r v (write_result p.handler x.handler r v) (fit_leaves p x (Write Local r v)) (omega arith)
  fit_balance z h (Read Local r) = read_told z Local r (read_result p.handler x.handler r (bus_lines p x))
  fit_balance z h (Read Chain r) = read_told z Chain r (read_result p.chain x.chain r (bus_lines p x))
  fit_balance z h (Mask m) = done_balance z h (Mask m) (gives x.processor (MaskIt m))
  fit_balance z h Take = done_balance z h Take (gives x.processor (TakeIt (presented p x)))
  fit_balance z h Acknowledge = done_balance z h Acknowledge (gives x.processor AcknowledgeIt)
  fit_balance z h (Return d) = done_balance z h (Return d) (gives x.processor (ReturnIt d))
  fit_balance z h Reset = done_balance z h Reset (gives x.processor ResetIt)

  step_balance : (z : Side) → s < count_at p z → (c : Call) → Balance p z s x c (rack_gives p x c) (rack_leaves p x c)
  step_balance z h c = by_size p x c (λ r y. Balance p z s x c r y) (refused p z s x c (Card Oversize)) (fit_balance z h c)

-- over a run
pub run_balance : {H C : Type 0} (p : Parts H C) → Laws p.handler → NoticeLaw p.handler p.noticed → Laws p.chain → (z : Side) (s : ℕ) → s < count_at p z → (x : State H C) (calls : List Call)
    → one (source_at p z x s).held + count_of (latched z s) (turns (rack_gives p) (rack_leaves p) x calls)
    ≡ count_of (answered p z s) (turns (rack_gives p) (rack_leaves p) x calls) + count_of (withdrew z s) (turns (rack_gives p) (rack_leaves p) x calls) + one (source_at p z (end_of (rack_leaves p) x calls) s).held
run_balance p lh ln lc z s h x calls =
    balance_run (rack_gives p) (rack_leaves p) (λ y. one (source_at p z y s).held) (latched z s) (answered p z s) (withdrew z s) (λ y c. step_balance p lh ln lc y s z h c) x calls
