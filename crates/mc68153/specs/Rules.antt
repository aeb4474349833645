-- The MC68153 keeps the card rules.
-- Proofs, and nothing to believe: they stand in specs/ since an impl can cite no other folder of its crate for its law.
use Rattle.std.specs.Prelude.{◌≡◌, ℕ, zero, suc, ◌-◌, ◌<◌, Bool, true, false, cond, ◌==◌, ◌≢◌, nat_lt, refl}
use Rattle.std.proofs.Common.{sym, ap, subst, ◌∙◌, inl, inr, arith}
use Rattle.std.proofs.lemmas.Bool.{cases_eq, eq-eqb, ne_eqb, both_ways}
use Rattle.card.specs.declared.outcomes.Reply.TheVariants.{Byte, Outside}
use Rattle.card.specs.Bits.{bit}
use Rattle.card.specs.Meaning.{with_wire}
use Rattle.card.specs.Model.{served}
use Rattle.card.specs.Laws.{AnswerRule, Laws}
use Rattle.card.proofs.Picks.{picked}
use Rattle.card.proofs.Bitwise.{bits_same, bits_below}
use Rattle.bits.proofs.Bytes.{bit_put}
use Rattle.mc68153.specs.declared.Input.{Input}
use Rattle.mc68153.specs.declared.Mc68153.{Mc68153}
use Rattle.mc68153.specs.Sheet.{input, level_in, reply_of_input, input_source, clears, settled, table, input_at, source_at, with_input, writes, drives, serves, mc68153_model}

-- an input of a table
pub at_table : (f : ℕ → Input) (s : ℕ) → s < 4 → input_at (table f) s ≡ f s
at_table f zero h = refl
at_table f (suc zero) h = refl
at_table f (suc (suc zero)) h = refl
at_table f (suc (suc (suc zero))) h = refl
at_table f (suc (suc (suc (suc s)))) h = absurd (omega arith)

this_input : (x : Mc68153) (s : ℕ) (i : Input) → s < 4 → input_at (with_input x s i) s ≡ i
this_input x s i h = at_table (λ t. cond (t == s) i (input_at x t)) s h ∙ ap (λ b. cond b i (input_at x s)) (eq-eqb s s refl)

other_input : (x : Mc68153) (s t : ℕ) (i : Input) → t < 4 → (t ≢ s) → input_at (with_input x s i) t ≡ input_at x t
other_input x s t i h ne = at_table (λ t. cond (t == s) i (input_at x t)) t h ∙ ap (λ b. cond b i (input_at x t)) (ne_eqb t s ne)

-- what the change of one input keeps of it, it keeps of all
keeps : {B : Type 0} (f : Input → B) (x : Mc68153) (s t : ℕ) (i : Input) → t < 4 → f i ≡ f (input_at x s) → f (input_at (with_input x s i) t) ≡ f (input_at x t)
keeps f x s t i h e = elim (cases_eq t s) [
  | inl same ↦ ap f (at_table (λ t. cond (t == s) i (input_at x t)) t h ∙ ap (λ b. cond b i (input_at x t)) (eq-eqb t s same)) ∙ e ∙ ap (λ u. f (input_at x u)) (sym same)
  | inr other ↦ ap f (other_input x s t i h other)
]

pub ranks_fall : (x : Mc68153) (t u : ℕ) → t < u → u < 4 → (source_at x u).rank < (source_at x t).rank
ranks_fall x t u h g = omega arith

ranks_differ : (x : Mc68153) (s t : ℕ) → s < 4 → t < 4 → (source_at x s).rank ≡ (source_at x t).rank → s ≡ t
ranks_differ x s t h g e = omega arith

drive_this : (x : Mc68153) (s : ℕ) (w : Bool) → s < 4 → source_at (drives x s w) s ≡ with_wire (source_at x s) w
unfolding with_wire
drive_this x s w h = ap (input_source s) (this_input x s (input (input_at x s).control (input_at x s).vector w) h)

-- an answer clears bits 4 and 7 at most
clears_keep : (a b c t : ℕ) → t < 8 → (t ≢ b) → bit (clears a b c) t ≡ bit c t
clears_keep a b c t h ne = go (bit c a)
  where
    go : (on : Bool) → bit (cond on (Rattle.bits.specs.Bytes.put b false c) c) t ≡ bit c t
    go true = bit_put c b t false h ∙ ap (λ e. cond e false (bit c t)) (ne_eqb t b ne)
    go false = refl

settled_keeps : (i : Input) (t : ℕ) → t < 7 → (t ≢ 4) → bit (settled i).control t ≡ bit i.control t
settled_keeps i t h ne = clears_keep 6 7 (clears 3 4 i.control) t (omega arith) (λ e. omega arith) ∙ clears_keep 3 4 i.control t (omega arith) ne

level_kept : (i : Input) → level_in (settled i).control ≡ level_in i.control
level_kept i = bits_same (bit (settled i).control) (bit i.control) 3 (λ t l. settled_keeps i t (omega arith) (λ e. omega arith))

reply_kept : (i : Input) → reply_of_input (settled i) ≡ reply_of_input i
reply_kept i = ap (λ b. cond b Outside (Byte i.vector)) (settled_keeps i 5 (omega arith) (λ e. omega arith))

serve_rule : (x : Mc68153) (s : ℕ) → AnswerRule 4 (mc68153_model.meaning x) s (mc68153_model.meaning (serves x s))
serve_rule x s = record {
  stays = λ t g. record {
    wire = keeps (λ i. i.asserted) x s t (settled (input_at x s)) g refl;
    edge = refl;
    level = keeps (λ i. level_in i.control) x s t (settled (input_at x s)) g (level_kept (input_at x s));
    reply = keeps reply_of_input x s t (settled (input_at x s)) g (reply_kept (input_at x s));
    rank = refl;
  };
  this = refl;
  others = λ t g ne. refl;
  marks = λ n. refl;
}

write_wires : (x : Mc68153) (r v t : ℕ) → t < 4 → (input_at (writes x r v) t).asserted ≡ (input_at x t).asserted
write_wires x r v t h = go (nat_lt r 4)
  where
    go : (b : Bool) → (input_at (cond b (with_input x r (input v (input_at x r).vector (input_at x r).asserted)) (with_input x (r - 4) (input (input_at x (r - 4)).control v (input_at x (r - 4)).asserted))) t).asserted ≡ (input_at x t).asserted
    go true = keeps (λ i. i.asserted) x r t (input v (input_at x r).vector (input_at x r).asserted) h refl
    go false = keeps (λ i. i.asserted) x (r - 4) t (input (input_at x (r - 4)).control v (input_at x (r - 4)).asserted) h refl

pub mc68153_laws : Laws mc68153_model
mc68153_laws = record {
  lawful = λ x. record {
    levels = λ s h. omega (arith, bits_below (bit (input_at x s).control) 3);
    ranks_below = λ s h. omega arith;
    ranks_differ = ranks_differ x;
    only_edges_held = λ s h e. e;
    marks = λ n e. absurd (both_ways false refl e);
  };
  refusing = λ x. record { reads = λ r l e h q. (let no_way : ◌≡◌ {A = ℕ} 0 1 = cc in absurd (omega arith)); writes = λ r v e h q. (let no_way : ◌≡◌ {A = ℕ} 0 1 = cc in absurd (omega arith)) };
  drives = λ x s w h. record {
    this = drive_this x s w h;
    others = λ t g ne. ap (input_source t) (other_input x s t (input (input_at x s).control (input_at x s).vector w) g ne);
    marks = λ n. refl;
    write_refusals = λ r v. refl;
    read_refusals = λ r l. refl;
  };
  writes = λ x r v h e. record { wires = λ t g. write_wires x r v t g; none_held = λ t g e. e };
  answers = λ x n s h. subst (λ o. AnswerRule 4 (mc68153_model.meaning x) s (mc68153_model.meaning (served (serves x) o x))) (sym (picked (source_at x) n 4 s (ranks_differ x) h)) (serve_rule x s);
  resets = λ x. record { wires = λ t g. ap (λ i. i.asserted) (at_table (λ s. input 0 15 (input_at x s).asserted) t g); none_held = λ t g. refl };
}
