-- A granted acknowledge is answered rightly, and no other source loses an edge by it.
use Rattle.std.proofs.Common.{◌≡◌, ℕ, ◌<◌, Bool, true, false, Some, None, Ok, Option, Result, sym, refl, ◌∙◌, subst, arith}
use Rattle.std.proofs.lemmas.Bool.{both_ways}
use Rattle.card.specs.Source.{Chosen}
use Rattle.card.specs.Model.{source_of}
use Rattle.card.specs.Laws.{Laws, NoticeLaw}
use Rattle.card.specs.Runs.{turn_of}
use Rattle.card.proofs.Picks.{pick_chosen}
use Rattle.card.proofs.Balances.{only_answerer, none_by_notice}
use Rattle.processor.specs.declared.state.State.{State as Stage}
use Rattle.processor.specs.declared.state.State.TheVariants.{Idle, Taken}
use Rattle.processor.specs.declared.state.Done.TheVariants.{Opened}
use Rattle.processor.specs.declared.state.ProcessorCall.TheVariants.{Acknowledge as AcknowledgeIt}
use Rattle.processor.specs.Steps.{Proc, gives_in}
use Rattle.processor.proofs.Shapes.{level_in}
use Rattle.rack.specs.declared.calls.Side.{Side}
use Rattle.rack.specs.declared.calls.Side.TheVariants.{Local, Chain}
use Rattle.rack.specs.declared.calls.Call.{Call}
use Rattle.rack.specs.declared.calls.Call.TheVariants.{Acknowledge}
use Rattle.rack.specs.declared.calls.Outcome.{Outcome}
use Rattle.rack.specs.declared.calls.Outcome.TheVariants.{Answered}
use Rattle.rack.specs.declared.faults.RackFault.{RackFault}
use Rattle.rack.specs.Machine.{Parts, State, source_at, count_at, admitted, chosen_at, reached_by, reached, handler_answered, chain_answered, done_gives, done_leaves, fit_gives, fit_leaves, rack_gives, rack_leaves}
use Rattle.runs.specs.Turns.{RackTurn, is_source}
use Rattle.runs.specs.Law.{Rightly, Acknowledged, AcknowledgeRight}
use Rattle.runs.proofs.Edges.{by_size}

module _ {H C : Type 0} (p : Parts H C) (lh : Laws p.handler) (ln : NoticeLaw p.handler p.noticed) (lc : Laws p.chain) (x : State H C) where
  rightly_by : (n : ℕ) (a : Option ℕ) (m : Bool) (b : Option ℕ) → Chosen (source_at p Local x) n (count_at p Local) a → admitted p x n ≡ m → Chosen (source_at p Chain x) n (count_at p Chain) b
      → Rightly p x n (reached_by (source_at p Local x) (source_at p Chain x) a m b)
  rightly_by n (Some s) m b ca em cb = (ca, refl)
  rightly_by n None false b ca em cb = (refl, ca, λ yes-so. absurd (both_ways (admitted p x n) em yes-so))
  rightly_by n None true (Some t) ca em cb = (ca, em, cb, refl)
  rightly_by n None true None ca em cb = (refl, ca, λ h. cb)

  only_local : (n : ℕ) (a : Option ℕ) (m : Bool) (b : Option ℕ) → Chosen (source_at p Local x) n (count_at p Local) a
      → (s : ℕ) → s < count_at p Local → (source_at p Local x s).held ≡ true → (source_of p.handler (handler_answered p x n a m) s).held ≡ false → is_source Local s (reached_by (source_at p Local x) (source_at p Chain x) a m b) ≡ true
  only_local n (Some t) m b ca s h before after = only_answerer p.handler lh x.handler s h n t ca before after
  only_local n None false b ca s h before after = absurd (both_ways (source_at p Local x s).held after before)
  only_local n None true b ca s h before after = absurd (none_by_notice p.handler lh x.handler s h p.noticed ln n before after)

  only_chain : (n : ℕ) (a : Option ℕ) (m : Bool) (b : Option ℕ) → Chosen (source_at p Chain x) n (count_at p Chain) b
      → (s : ℕ) → s < count_at p Chain → (source_at p Chain x s).held ≡ true → (source_of p.chain (chain_answered p x n a m b) s).held ≡ false → is_source Chain s (reached_by (source_at p Local x) (source_at p Chain x) a m b) ≡ true
  only_chain n (Some t) m b cb s h before after = absurd (both_ways (source_at p Chain x s).held after before)
  only_chain n None false b cb s h before after = absurd (both_ways (source_at p Chain x s).held after before)
  only_chain n None true None cb s h before after = absurd (both_ways (source_at p Chain x s).held after before)
  only_chain n None true (Some t) cb s h before after = only_answerer p.chain lc x.chain s h n t cb before after

  -- by what the processor does: it opens the service of the level taken, or refuses
  turn_at : (c : Call) (r : Result Outcome RackFault) (y : State H C) → RackTurn H C
  turn_at c r y = record { before = x; call = c; gave = r; after = y }

  granted : (o : Outcome) (s : Stage) (q : Proc) (r : Result Outcome RackFault) (y : State H C) → r ≡ done_gives p x (gives_in s q AcknowledgeIt) → y ≡ done_leaves p x (gives_in s q AcknowledgeIt) → r ≡ Ok o → Acknowledged p (level_in s) (turn_at Acknowledge r y) o
  unfolding turn_at
  granted o Idle q r y e f was = grind arith
  granted o (Taken n found) q r y e f was =
      let ca = pick_chosen (source_at p Local x) n (count_at p Local) in
      let cb = pick_chosen (source_at p Chain x) n (count_at p Chain) in
      record {
        taken = n;
        was_taken = refl;
        reached = reached p x n;
        told = (let e : ◌≡◌ {A = Result Outcome RackFault} (Ok o) (Ok (Answered (reached p x n))) = sym was ∙ e in cc);
        rightly = rightly_by n (chosen_at p Local x n) (admitted p x n) (chosen_at p Chain x n) ca refl cb;
        only = λ z s h before after. only_side z s h before (subst (λ (v : State H C). (source_at p z v s).held ≡ false) f after);
      }
    where
      only_side : (z : Side) (s : ℕ) → s < count_at p z → (source_at p z x s).held ≡ true → (source_at p z (done_leaves p x (Ok (Opened n))) s).held ≡ false → is_source z s (reached p x n) ≡ true
      only_side Local s h before after = only_local n (chosen_at p Local x n) (admitted p x n) (chosen_at p Chain x n) (pick_chosen (source_at p Local x) n (count_at p Local)) s h before after
      only_side Chain s h before after = only_chain n (chosen_at p Local x n) (admitted p x n) (chosen_at p Chain x n) (pick_chosen (source_at p Chain x) n (count_at p Chain)) s h before after

  pub acknowledge_right : (c : Call) → AcknowledgeRight p (level_in x.processor.state) (turn_of (rack_gives p) (rack_leaves p) x c)
  unfolding turn_at
  acknowledge_right c o e = subst (λ d. rack_gives p x d ≡ Ok o → Acknowledged p (level_in x.processor.state) (turn_of (rack_gives p) (rack_leaves p) x d) o) (sym e)
      (by_size p x Acknowledge (λ r y. r ≡ Ok o → Acknowledged p (level_in x.processor.state) (turn_at Acknowledge r y) o) (λ h. grind arith)
      (λ was. granted o x.processor.state x.processor (fit_gives p x Acknowledge) (fit_leaves p x Acknowledge) refl refl was))
