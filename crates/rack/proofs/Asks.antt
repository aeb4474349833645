-- What a side of a rack answers at a level.
use Rattle.std.proofs.Common.{◌≡◌, ℕ, ◌≤◌, Bool, true, false, cond, not, ◌&&◌, eqb, leb, Some, None, Option, Result, sym, refl, ap, ◌∙◌, arith}
use Rattle.std.specs.Result.{result_unwrap_or}
use Rattle.std.proofs.lemmas.Bool.{false_from_ne_true, both_ways, and_parts, and_from, le-leb, eqb-true, eqb-false, not-true}
use Rattle.card.specs.declared.faults.CardFault.{CardFault}
use Rattle.card.specs.declared.faults.CardFault.TheVariants.{BadLevel}
use Rattle.card.specs.declared.outcomes.Answer.{Answer}
use Rattle.card.specs.Source.{Source, asking, asking_at, Nobody, pick}
use Rattle.card.specs.Meaning.{Meaning}
use Rattle.card.specs.Model.{Model, source_of, oversize, unless_refused, changed_unless, reply_of, if_chosen, answer_result, answer_exit}
use Rattle.card.specs.Laws.{Lawful, Laws}
use Rattle.card.proofs.Picks.{none_picked}

-- no source asks at a level outside 1 to 7
asks_at_level : (s : Source) (n : ℕ) → s.level ≤ 7 → asking_at n s ≡ true → (leb 1 n && leb n 7) ≡ true
unfolding asking_at
asks_at_level s n le e =
    let parts = and_parts (asking s) (eqb s.level n) e in
    let same : s.level ≡ n = eqb-true s.level n parts.1 in
    let nonzero = eqb-false s.level 0 (not-true (eqb s.level 0) (and_parts (not (eqb s.level 0)) _ parts.0).0) in
    let some : 1 ≤ n = omega (arith, same, nonzero) in
    and_from (leb 1 n) (leb n 7) (le-leb 1 n some) (le-leb n 7 (omega (arith, same)))

nobody_outside : (k n : ℕ) (m : Meaning) → Lawful k m → (leb 1 n && leb n 7) ≡ false → Nobody m.source n k
nobody_outside k n m lawful out t h = false_from_ne_true (asking_at n (m.source t)) (λ asks. both_ways (leb 1 n && leb n 7) out (asks_at_level (m.source t) n (lawful.levels t h) asks))

module _ {X : Type 0} (w : Model X) (laws : Laws w) (x : X) (n : ℕ) (fits : oversize w ≡ false) where
  abbrev chosen : Option ℕ
  chosen = pick (source_of w x) n w.sources

  abbrev Answers : Option Answer → X → Type 0
  Answers o y = record { result : o ≡ reply_of (source_of w x) chosen; after : y ≡ if_chosen chosen (w.answered x n) x }

  pub side_answers : (o : Option Answer) (r : Result (Option Answer) CardFault) (y : X) → o ≡ result_unwrap_or r None → r ≡ answer_result w x n → y ≡ answer_exit w x n → Answers o y
  side_answers o r y value gives leaves = go (leb 1 n && leb n 7) refl (value ∙ ap (λ d. result_unwrap_or d None) (rw fits at gives)) (rw fits at leaves)
    where
      go : (b : Bool) → (leb 1 n && leb n 7) ≡ b → o ≡ result_unwrap_or (unless_refused (cond b None (Some (BadLevel n))) (reply_of (source_of w x) chosen)) None → y ≡ changed_unless (cond b None (Some (BadLevel n))) (if_chosen chosen (w.answered x n) x) x → Answers o y
      go true q result after = record { result = result; after = after }
      go false q result after =
          let none = none_picked (source_of w x) n w.sources (nobody_outside w.sources n (w.meaning x) (laws.lawful x) q) in
          record { result = result ∙ sym (ap (reply_of (source_of w x)) none); after = after ∙ sym (ap (λ p. if_chosen p (w.answered x n) x) none) }
