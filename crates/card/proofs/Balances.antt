-- Each latched edge is answered, withdrawn or held still: one call, then any run.
use Rattle.std.proofs.Common.{◌≡◌, ℕ, ◌+◌, ◌<◌, Bool, true, false, cond, not, ◌&&◌, eqb, ltb, List, [], ◌∷◌, Some, None, Option, sym, refl, ap, ◌∙◌, subst, inl, inr, arith}
use Rattle.std.proofs.Math.Bool.{and-false}
use Rattle.std.proofs.lemmas.Bool.{cases_lt, cases_eq, eq-eqb, ne_eqb, lt-ltb, le-ltb, both_ways}
use Rattle.card.specs.declared.faults.CardFault.{CardFault}
use Rattle.card.specs.declared.faults.CardFault.TheVariants.{Oversize, NoSource}
use Rattle.card.specs.Source.{Source, asking_at, Smallest, Chosen, pick}
use Rattle.card.specs.Meaning.{driving, with_wire, lost}
use Rattle.card.specs.Model.{Model, source_of, unless_refused, changed_unless, oversize, size_first, register_first, drive_result, drive_exit, write_fault, write_result, write_exit, withdrawn, answer_fault, answer_result, answer_exit, if_chosen, reply_of, reset_result, reset_exit}
use Rattle.card.specs.Laws.{Laws, NoticeLaw}
use Rattle.card.specs.Withdrawing.{has}
use Rattle.card.specs.Runs.{Turn, turn_of, turns, end_of, one, count_of}
use Rattle.card.specs.declared.calls.CardCall.{CardCall}
use Rattle.card.specs.Edges.{gives, leaves, is_latched, latch, tells, names, by_source, latched_in, answered_in, withdrawn_in, holds, EdgesKept}
use Rattle.card.proofs.Picks.{pick_chosen}
use Rattle.card.proofs.Withdrawals.{has_told}

-- any run: what each turn balances, the run does
pub balance_run : {S C R : Type 0} (give : S → C → R) (next : S → C → S) (hold : S → ℕ) (gain one_loss other_loss : Turn S C R → Bool)
    → ((x : S) (c : C) → hold x + one (gain (turn_of give next x c)) ≡ one (one_loss (turn_of give next x c)) + one (other_loss (turn_of give next x c)) + hold (next x c))
    → (x : S) (cs : List C) → hold x + count_of gain (turns give next x cs) ≡ count_of one_loss (turns give next x cs) + count_of other_loss (turns give next x cs) + hold (end_of next x cs)
balance_run give next hold gain one_loss other_loss step x [] = omega arith
balance_run give next hold gain one_loss other_loss step x (c ∷ cs) = omega (arith, step x c, balance_run give next hold gain one_loss other_loss step (next x c) cs)

-- a drive: what is latched is held
latch_held : (edge up armed held : Bool) → one held + one (is_latched (cond edge (cond up (cond armed (cond held Rattle.card.specs.declared.outcomes.Driven.TheVariants.Merged Rattle.card.specs.declared.outcomes.Driven.TheVariants.Latched) Rattle.card.specs.declared.outcomes.Driven.TheVariants.Lost) Rattle.card.specs.declared.outcomes.Driven.TheVariants.Quiet) Rattle.card.specs.declared.outcomes.Driven.TheVariants.Follow)) ≡ one (cond ((edge && up) && armed) true held)
latch_held false up armed true = refl
latch_held false up armed false = refl
latch_held true false armed true = refl
latch_held true false armed false = refl
latch_held true true false true = refl
latch_held true true false false = refl
latch_held true true true true = refl
latch_held true true true false = refl

pub drive_source : (a : Source) (b : Bool) → one a.held + one (is_latched (driving a b)) ≡ one (with_wire a b).held
unfolding driving with_wire
drive_source a b = latch_held a.edge (not a.wire && b) a.armed a.held

-- what is lost, and what stays held
lost_or_held : (before after : Bool) → (after ≡ true → before ≡ true) → one before ≡ one (before && not after) + one after
lost_or_held true true h = refl
lost_or_held true false h = refl
lost_or_held false false h = refl
lost_or_held false true h = absurd (both_ways false refl (h refl))

-- a source that asks is held just if it is of edge sort
asks_held : (level opened : Bool) (edge held wire asks : Bool) → (held ≡ true → edge ≡ true) → ((level && (opened && cond edge held wire)) && asks) ≡ true → one held ≡ one edge
asks_held l o true true w a h e = refl
asks_held l o false false w a h e = refl
asks_held l o false true w a h e = absurd (both_ways false refl (h refl))
asks_held false o true false w a h e = absurd (both_ways false refl e)
asks_held true false true false w a h e = absurd (both_ways false refl e)
asks_held true true true false w a h e = absurd (both_ways false refl e)

pub asking_held : (n : ℕ) (a : Source) → (a.held ≡ true → a.edge ≡ true) → asking_at n a ≡ true → one a.held ≡ one a.edge
unfolding asking_at
asking_held n a h e = asks_held (not (eqb a.level 0)) a.opened a.edge a.held a.wire (eqb a.level n) h e

module _ {X : Type 0} (w : Model X) (laws : Laws w) (x : X) (s : ℕ) (within : s < w.sources) where
  pub drive_balance : (t : ℕ) (b : Bool) → holds w x s + one (eqb t s && latch (drive_result w x t b)) ≡ holds w (drive_exit w x t b) s
  drive_balance t b = go (oversize w)
    where
      fits : holds w x s + one (eqb t s && latch (unless_refused (cond (ltb t w.sources) None (Some (NoSource t))) (driving (source_of w x t) b))) ≡ holds w (changed_unless (cond (ltb t w.sources) None (Some (NoSource t))) (w.driven x t b) x) s
      fits = elim (cases_lt t w.sources) [
        | inr past ↦ rw (le-ltb t w.sources past) (rw (and-false (eqb t s)) (omega arith))
        | inl lt ↦ rw (lt-ltb t w.sources lt) (elim (cases_eq t s) [
          | inl same ↦ rw (eq-eqb t s same) (subst (λ u. holds w x s + one (is_latched (driving (source_of w x u) b)) ≡ holds w (w.driven x u b) s) (sym same)
              (drive_source (source_of w x s) b ∙ ap (λ (a : Source). one a.held) (sym (laws.drives x s b within).this)))
          | inr other ↦ rw (ne_eqb t s other) (let e = ap (λ (a : Source). one a.held) ((laws.drives x t b lt).others s within (λ q. other (sym q))) in omega (arith, e))
        ])
      ]

      go : (o : Bool) → holds w x s + one (eqb t s && latch (unless_refused (cond o (Some Oversize) (cond (ltb t w.sources) None (Some (NoSource t)))) (driving (source_of w x t) b))) ≡ holds w (changed_unless (cond o (Some Oversize) (cond (ltb t w.sources) None (Some (NoSource t)))) (w.driven x t b) x) s
      go true = rw (and-false (eqb t s)) (omega arith)
      go false = fits

  pub write_balance : (r v : ℕ) → holds w x s ≡ one (tells s (write_result w x r v)) + holds w (write_exit w x r v) s
  write_balance r v = go (write_fault w x r v) refl
    where
      sized : (b : Bool) (o : Option CardFault) → cond b (Some Oversize) o ≡ None → o ≡ None
      sized true o e = let no_way : ◌≡◌ {A = ℕ} 0 1 = cc in absurd (omega arith)
      sized false o e = e

      there : (o : Option CardFault) → register_first w r o ≡ None → (r < w.registers) × (o ≡ None)
      there o e = elim (cases_lt r w.registers) [ inl lt ↦ (lt, rw (lt-ltb r w.registers lt) at e) | inr past ↦ (let p = rw (le-ltb r w.registers past) at e in let no_way : ◌≡◌ {A = ℕ} 0 1 = cc in absurd (omega arith)) ]

      plain : write_fault w x r v ≡ None → (r < w.registers) × ((w.meaning x).refuses r v ≡ None)
      plain e = there ((w.meaning x).refuses r v) (sized (oversize w) (register_first w r ((w.meaning x).refuses r v)) e)

      go : (o : Option CardFault) → write_fault w x r v ≡ o → holds w x s ≡ one (tells s (unless_refused o (withdrawn w.sources (w.meaning x) (w.meaning (w.written x r v))))) + holds w (changed_unless o (w.written x r v) x) s
      go (Some e) q = omega arith
      go None q = rw (has_told (lost (w.meaning x) (w.meaning (w.written x r v))) w.sources s within)
          (lost_or_held (source_of w x s).held (source_of w (w.written x r v) s).held ((laws.writes x r v (plain q).0 (plain q).1).none_held s within))

  pub cleared_balance : holds w x s ≡ one (has (withdrawn w.sources (w.meaning x) (w.meaning (w.cleared x))) s) + holds w (w.cleared x) s
  cleared_balance = rw (has_told (lost (w.meaning x) (w.meaning (w.cleared x))) w.sources s within)
      (lost_or_held (source_of w x s).held (source_of w (w.cleared x) s).held (λ e. absurd (both_ways (source_of w (w.cleared x) s).held ((laws.resets x).none_held s within) e)))

  pub reset_balance : holds w x s ≡ one (tells s (reset_result w x)) + holds w (reset_exit w x) s
  reset_balance = go (size_first w None)
    where
      go : (o : Option CardFault) → holds w x s ≡ one (tells s (unless_refused o (withdrawn w.sources (w.meaning x) (w.meaning (w.cleared x))))) + holds w (changed_unless o (w.cleared x) x) s
      go (Some e) = omega arith
      go None = cleared_balance

  -- the source chosen at a level answers there
  pub pick_balance : (n : ℕ) (p : Option ℕ) → Chosen (source_of w x) n w.sources p → holds w x s ≡ one (names s (reply_of (source_of w x) p) && (source_of w x s).edge) + holds w (if_chosen p (w.answered x n) x) s
  pick_balance n None c = omega arith
  pick_balance n (Some t) c = elim (cases_eq t s) [
    | inl same ↦ rw (eq-eqb t s same)
        (let h = asking_held n (source_of w x s) ((laws.lawful x).only_edges_held s within) (subst (λ u. asking_at n (source_of w x u) ≡ true) same c.asks) in
        let e : one (source_of w (w.answered x n) s).held ≡ 0 = ap one (subst (λ u. (source_of w (w.answered x n) u).held ≡ false) same (laws.answers x n t c).this) in
        omega (arith, h, e))
    | inr other ↦ rw (ne_eqb t s other) (let e = ap one ((laws.answers x n t c).others s within (λ q. other (sym q))) in omega (arith, e))
  ]

  pub answer_balance : (n : ℕ) → holds w x s ≡ one (by_source s (answer_result w x n) && (source_of w x s).edge) + holds w (answer_exit w x n) s
  answer_balance n = go (answer_fault w n) (pick (source_of w x) n w.sources) (pick_chosen (source_of w x) n w.sources)
    where
      go : (o : Option CardFault) (p : Option ℕ) → Chosen (source_of w x) n w.sources p → holds w x s ≡ one (by_source s (unless_refused o (reply_of (source_of w x) p)) && (source_of w x s).edge) + holds w (changed_unless o (if_chosen p (w.answered x n) x) x) s
      go (Some e) p c = omega arith
      go None p c = pick_balance n p c

  -- the source that answers is the only one that loses a held edge
  pub only_answerer : (n t : ℕ) → Smallest (source_of w x) n w.sources t → (source_of w x s).held ≡ true → (source_of w (w.answered x n) s).held ≡ false → eqb t s ≡ true
  only_answerer n t c before after = elim (cases_eq t s) [
    | inl same ↦ eq-eqb t s same
    | inr other ↦ absurd (both_ways (source_of w (w.answered x n) s).held after ((laws.answers x n t c).others s within (λ q. other (sym q)) ∙ before))
  ]

  pub none_by_notice : (p : X → ℕ → X) → NoticeLaw w p → (n : ℕ) → (source_of w x s).held ≡ true → (source_of w (p x n) s).held ≡ false → ⊥
  none_by_notice p law n before after = both_ways (source_of w (p x n) s).held after (ap (λ (a : Source). a.held) ((law x n).sources s within) ∙ before)

  pub notice_balance : (p : X → ℕ → X) → NoticeLaw w p → (n : ℕ) → holds w x s ≡ holds w (p x n) s
  notice_balance p law n = ap (λ (a : Source). one a.held) (sym ((law x n).sources s within))

  pub call_balance : (c : CardCall)
      → holds w x s + one (latched_in s (turn_of (gives w) (leaves w) x c)) ≡ one (answered_in w s (turn_of (gives w) (leaves w) x c)) + one (withdrawn_in s (turn_of (gives w) (leaves w) x c)) + holds w (leaves w x c) s
  call_balance (CardCall.Drive t b) = omega (arith, drive_balance t b)
  call_balance (CardCall.Read r l) = omega arith
  call_balance (CardCall.Write r v) = omega (arith, write_balance r v)
  call_balance (CardCall.Answer n) = omega (arith, answer_balance n)
  call_balance CardCall.Reset = omega (arith, reset_balance)

pub edges_kept : {X : Type 0} (w : Model X) → Laws w → (x : X) (calls : List CardCall) → EdgesKept w x calls
edges_kept w laws x calls s within =
    balance_run (gives w) (leaves w) (λ y. holds w y s) (latched_in s) (answered_in w s) (withdrawn_in s) (λ y c. call_balance w laws y s within c) x calls
