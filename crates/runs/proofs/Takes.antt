-- A take that is not refused gives the presented level if that is above the mask.
use Rattle.std.proofs.Common.{◌≡◌, ℕ, zero, suc, ◌<◌, Bool, true, false, cond, ◌&&◌, ◌||◌, ltb, length, Ok, Err, sym, refl, ap, ◌∙◌, subst, inl, inr, arith}
use Rattle.std.proofs.lemmas.Bool.{cases_lt, both_ways, or_cases, or_right, and_parts, and_from}
use Rattle.card.specs.Source.{Source, asking_at, any_asks}
use Rattle.card.specs.Runs.{turn_of}
use Rattle.card.proofs.Picks.{any_some}
use Rattle.bits.proofs.Bytes.{highest_le, highest_holds, highest_last}
use Rattle.processor.specs.declared.state.State.{State as Stage}
use Rattle.processor.specs.declared.state.State.TheVariants.{Idle, Taken}
use Rattle.processor.specs.declared.state.Done.TheVariants.{Took as DoneTook}
use Rattle.processor.specs.declared.state.ProcessorFault.TheVariants.{Full}
use Rattle.processor.specs.declared.state.ProcessorCall.TheVariants.{Take as TakeIt}
use Rattle.processor.specs.Steps.{Proc, above, gives_in}
use Rattle.rack.specs.declared.calls.Side.TheVariants.{Local, Chain}
use Rattle.rack.specs.declared.calls.Call.{Call}
use Rattle.rack.specs.declared.calls.Call.TheVariants.{Take}
use Rattle.rack.specs.declared.calls.Outcome.{Outcome}
use Rattle.rack.specs.declared.calls.Outcome.TheVariants.{Took}
use Rattle.rack.specs.Machine.{Parts, State, source_at, count_at, admitted, wants, presented, done_gives, rack_gives, rack_leaves}
use Rattle.runs.specs.Law.{Wanted, Presents, TakeRight}
use Rattle.runs.proofs.Edges.{by_size}

some_asks : (f : ℕ → Source) (n k : ℕ) → any_asks f k n ≡ true → (s : ℕ) × (s < k) × (asking_at n (f s) ≡ true)
unfolding any_asks
some_asks f n zero h = absurd (both_ways false refl h)
some_asks f n (suc k) h = elim (or_cases (asking_at n (f k)) (any_asks f k n) h) [
  | inl here ↦ (k, omega arith, here)
  | inr there ↦ (let found = some_asks f n k there in (found.0, omega (arith, found.1), found.2))
]

module _ {H C : Type 0} (p : Parts H C) (x : State H C) where
  wants_wanted : (n : ℕ) → wants p x n ≡ true → Wanted p x n
  wants_wanted n h = elim (or_cases (any_asks (source_at p Local x) (count_at p Local) n) (any_asks (source_at p Chain x) (count_at p Chain) n && admitted p x n) h) [
    | inl a ↦ inl (some_asks (source_at p Local x) n (count_at p Local) a)
    | inr b ↦ (let both = and_parts (any_asks (source_at p Chain x) (count_at p Chain) n) (admitted p x n) b in inr (some_asks (source_at p Chain x) n (count_at p Chain) both.0, both.1))
  ]

  wanted_wants : (n : ℕ) → Wanted p x n → wants p x n ≡ true
  wanted_wants n (inl a) = ap (λ b. b || (any_asks (source_at p Chain x) (count_at p Chain) n && admitted p x n)) (any_some (source_at p Local x) n (count_at p Local) a.0 a.1 a.2)
  wanted_wants n (inr b) = or_right (any_asks (source_at p Local x) (count_at p Local) n) _ (and_from (any_asks (source_at p Chain x) (count_at p Chain) n) (admitted p x n) (any_some (source_at p Chain x) n (count_at p Chain) b.0.0 b.0.1 b.0.2) b.1)

  presents : Presents p x (presented p x)
  presents = record {
    level = highest_le (wants p x) 7;
    wanted = elim (cases_lt 0 (presented p x)) [ inl some ↦ inr (wants_wanted (presented p x) (highest_holds (wants p x) 7 some)) | inr none ↦ inl (omega arith) ];
    top = λ m lt le h. both_ways (wants p x m) (highest_last (wants p x) 7 m lt le) (wanted_wants m h);
  }

  took_by : (o : Outcome) (s : Stage) (q : Proc) → q.mask ≡ x.processor.mask → done_gives p x (gives_in s q (TakeIt (presented p x))) ≡ Ok o → (n : ℕ) × Presents p x n × (o ≡ Took (above n x.processor.mask))
  took_by o (Taken n found) q e h = grind arith
  took_by o Idle q e h = go (ltb (length q.services) 16) h
    where
      go : (room : Bool) → done_gives p x (cond room (Ok (DoneTook (above (presented p x) q.mask))) (Err Full)) ≡ Ok o → (n : ℕ) × Presents p x n × (o ≡ Took (above n x.processor.mask))
      go true h = (presented p x, presents, (let same : o ≡ Took (above (presented p x) q.mask) = cc in same ∙ ap (λ m. Took (above (presented p x) m)) e))
      go false h = grind arith

  pub take_right : (c : Call) → TakeRight p (turn_of (rack_gives p) (rack_leaves p) x c)
  take_right c o e = subst (λ d. rack_gives p x d ≡ Ok o → (n : ℕ) × Presents p x n × (o ≡ Took (above n x.processor.mask))) (sym e)
      (by_size p x Take (λ r y. r ≡ Ok o → (n : ℕ) × Presents p x n × (o ≡ Took (above n x.processor.mask))) (λ h. grind arith) (took_by o x.processor.state x.processor refl))
