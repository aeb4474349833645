-- The USC68HC908 keeps the card rules.
-- Proofs, and nothing to believe: they stand in specs/ since an impl can cite no other folder of its crate for its law.
use Rattle.std.specs.Prelude.{◌≡◌, ℕ, ◌+◌, ◌<◌, ◌≤◌, Bool, true, false, cond, ◌&&◌, Some, None, Option, ◌==◌, nat_lt, refl}
use Rattle.std.proofs.Common.{sym, subst, inl, inr, arith}
use Rattle.std.proofs.lemmas.Bool.{cases_eq, cond_both, and_parts, and_right, both_ways, eq-eqb, ne_eqb, ltb-true}
use Rattle.card.specs.declared.faults.CardFault.{CardFault}
use Rattle.card.specs.declared.faults.CardFault.TheVariants.{NoAccess}
use Rattle.card.specs.Bits.{bit}
use Rattle.card.specs.Model.{served}
use Rattle.card.specs.Laws.{Own, AnswerRule, Laws}
use Rattle.card.proofs.Picks.{picked}
use Rattle.bits.proofs.Bytes.{bit_zero}
use Rattle.latches.proofs.Rules.{ranks_differ, drive_this, drive_other, release_this, release_other, keeping_held}
use Rattle.usc68hc908.specs.declared.Usc68hc908.{Usc68hc908}
use Rattle.usc68hc908.specs.Sheet.{odd, settings, sources, cleared, with_imr, with_ier, with_ivr, with_isr, writes, serves, usc68hc908_model}
use Rattle.usc68hc908.specs.Parts.{odd_is}

own_refusal : (r : ℕ) (e : CardFault) → ◌≡◌ {A = Option CardFault} (cond (r == 0) (Some (NoAccess 0)) None) (Some e) → Own r e
own_refusal r e h = elim (cases_eq r 0) [
  | inl z ↦ (let p : NoAccess 0 ≡ e = (let q = rw (eq-eqb r 0 z) at h in cc) in subst (Own r) p (sym z))
  | inr n ↦ (let q = rw (ne_eqb r 0 n) at h in let no_way : ◌≡◌ {A = ℕ} 0 1 = cc in absurd (omega arith))
]

-- what holds of the card after each kind of write holds after the write that was made
by_write : (P : Usc68hc908 → Type 0) (x : Usc68hc908) (r v : ℕ) → P x → P (with_imr x v) → P (with_ier x v) → P (with_ivr x v) → P (cleared x) → P (with_isr x v) → P (writes x r v)
by_write P x r v a b c d e f = go (r == 0) (r == 1) (r == 2) (bit x.ier 0) (v == 0)
  where
    go : (i j k l z : Bool) → P (cond i x (cond j (with_imr x v) (cond k (with_ier x v) (cond l (with_ivr x v) (cond z (cleared x) (with_isr x v))))))
    go true j k l z = a
    go false true k l z = b
    go false false true l z = c
    go false false false true z = d
    go false false false false true = e
    go false false false false false = f

none_held : (c : ℕ) → c < 8 → (odd c && bit 0 c) ≡ false
none_held c h = and_right (odd c) (bit 0 c) (bit_zero c h)

write_holds : (x : Usc68hc908) (r v s : ℕ) → s < 7 → (sources (writes x r v) s).held ≡ true → (sources x s).held ≡ true
write_holds x r v s h = by_write (λ y. (sources y s).held ≡ true → (sources x s).held ≡ true) x r v (λ e. e) (λ e. e)
    (keeping_held (settings x) (settings (with_ier x v)) x.latches 170 v (s + 1) (omega arith) (sym (odd_is (s + 1) (omega arith))))
    (λ e. e) (λ e. absurd (both_ways (odd (s + 1) && bit 0 (s + 1)) (none_held (s + 1) (omega arith)) e)) (λ e. e)

serve_rule : (x : Usc68hc908) (s : ℕ) → s < 7 → AnswerRule 7 (usc68hc908_model.meaning x) s (usc68hc908_model.meaning (serves x (s + 1)))
serve_rule x s h = record {
  stays = λ t g. record { wire = refl; edge = refl; level = refl; reply = refl; rank = refl };
  this = release_this (odd (s + 1)) x.latches (s + 1) (omega arith);
  others = λ t g ne. release_other (odd (t + 1)) x.latches (s + 1) (t + 1) (omega arith) (λ e. ne (omega arith));
  marks = λ n. refl;
}

pub usc68hc908_laws : Laws usc68hc908_model
usc68hc908_laws = record {
  lawful = λ x. record {
    levels = λ s h. cond_both (nat_lt x.wired 8) x.wired 0 (λ n. n ≤ 7) (λ e. omega (arith, ltb-true x.wired 8 e)) (λ e. omega arith);
    ranks_below = λ s h. omega arith;
    ranks_differ = ranks_differ (settings x) x.latches;
    only_edges_held = λ s h e. (and_parts (odd (s + 1)) (bit x.latches.held (s + 1)) e).0;
    marks = λ n e. absurd (both_ways false refl e);
  };
  refusing = λ x. record { reads = λ r l e h q. (let no_way : ◌≡◌ {A = ℕ} 0 1 = cc in absurd (omega arith)); writes = λ r v e h q. own_refusal r e q };
  drives = λ x s w h. record {
    this = drive_this (settings x) x.latches (s + 1) w (omega arith);
    others = λ t g ne. drive_other (settings x) x.latches (s + 1) (t + 1) w (omega arith) (λ e. ne (omega arith));
    marks = λ n. refl;
    write_refusals = λ r v. refl;
    read_refusals = λ r l. refl;
  };
  writes = λ x r v h e. record {
    wires = λ t g. by_write (λ y. (sources y t).wire ≡ (sources x t).wire) x r v refl refl refl refl refl refl;
    none_held = λ t g. write_holds x r v t g;
  };
  answers = λ x n s h. subst (λ o. AnswerRule 7 (usc68hc908_model.meaning x) s (usc68hc908_model.meaning (served (λ s. serves x (s + 1)) o x))) (sym (picked (sources x) n 7 s (ranks_differ (settings x) x.latches) h)) (serve_rule x s h.within);
  resets = λ x. record { wires = λ t g. refl; none_held = λ t g. none_held (t + 1) (omega arith) };
}
