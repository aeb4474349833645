-- What each call of the MC68153 gives and leaves.
use Rattle.std.proofs.Common.{◌≡◌, ℕ, ◌-◌, ◌<◌, ◌≤◌, Bool, true, false, cond, ◌&&◌, eqb, List, [], ◌∷◌, length, get_or, set, Some, None, Ok, sym, refl, ap, ◌∙◌, subst, ap₂, inl, inr, arith, length-set, get_or-set_other, get_or-set_same}
use lib.Bits.{bit_and}
use Rattle.std.proofs.lemmas.Bool.{cases_eq, lt-ltb, le-ltb, eq-eqb, ne_eqb}
use Rattle.card.specs.declared.outcomes.Driven.TheVariants.{Follow}
use Rattle.card.specs.declared.withdrawn.Withdrawn.{Withdrawn}
use Rattle.card.specs.Source.{asking, asking_at, pick}
use Rattle.card.specs.Bits.{bits_of}
use Rattle.card.specs.Withdrawing.{told, nobody}
use Rattle.card.specs.Meaning.{driving, lost}
use Rattle.card.specs.Model.{unless_refused, changed_unless, write_fault, drive_result, drive_exit, write_result, write_exit, reset_result}
use Rattle.card.proofs.Picks.{chosen_by, none_picked}
use Rattle.card.proofs.Withdrawals.{told_none}
use Rattle.bits.proofs.Bytes.{by_bytes}
use Rattle.bits.proofs.Loops.{pick_top}
use Rattle.mc68153.specs.declared.Input.{Input}
use Rattle.mc68153.specs.declared.Mc68153.{Mc68153}
use Rattle.mc68153.specs.Sheet.{input, level_in, input_source, table, input_at, source_at, with_input, writes, drives, mc68153_model}
use Rattle.mc68153.specs.Rules.{ranks_fall}

pub level_is : (c : ℕ) → c < 256 → bit_and c 7 ≡ level_in c
unfolding bits_of
level_is = by_bytes (λ c. bit_and c 7) (λ c. level_in c) tt

pub asks_then : (i : Input) (n l s : ℕ) → asking (input_source s i) ≡ true → l ≡ level_in i.control → eqb l n ≡ asking_at n (input_source s i)
unfolding asking_at
asks_then i n l s a e = ap (λ m. eqb m n) e ∙ sym (ap (λ b. b && eqb (level_in i.control) n) a)

pub asks_else : (i : Input) (n s : ℕ) → asking (input_source s i) ≡ false → false ≡ asking_at n (input_source s i)
unfolding asking_at
asks_else i n s a = sym (ap (λ b. b && eqb (level_in i.control) n) a)

-- a list of four inputs is the table of what stands at each place
pub is_table : (l : List Input) (f : ℕ → Input) → length l ≡ 4 → ((s : ℕ) → s < 4 → get_or l s (input 0 0 false) ≡ f s) → ◌≡◌ {A = Mc68153} (record { inputs = l }) (table f)
is_table (a ∷ b ∷ c ∷ d ∷ []) f h e = ap chip (ap₂ ◌∷◌ (e 0 (omega arith)) (ap₂ ◌∷◌ (e 1 (omega arith)) (ap₂ ◌∷◌ (e 2 (omega arith)) (ap (λ i. i ∷ []) (e 3 (omega arith))))))
  where
    chip : List Input → Mc68153
    chip l = record { inputs = l }
is_table [] f h e = absurd (omega arith)
is_table (a ∷ []) f h e = absurd (omega arith)
is_table (a ∷ b ∷ []) f h e = absurd (omega arith)
is_table (a ∷ b ∷ c ∷ []) f h e = absurd (omega arith)
is_table (a ∷ b ∷ c ∷ d ∷ x ∷ l) f h e = absurd (omega arith)

-- an element set where there is one
pub at_set : (l : List Input) (s t : ℕ) (i d : Input) → s < length l → get_or (set l s i) t d ≡ cond (eqb t s) i (get_or l t d)
at_set l s t i d h = elim (cases_eq t s) [
  | inl same ↦ subst (λ u. get_or (set l s i) u d ≡ cond (eqb u s) i (get_or l u d)) (sym same) (get_or-set_same l s i d h ∙ ap (λ b. cond b i (get_or l s d)) (sym (eq-eqb s s refl)))
  | inr other ↦ get_or-set_other l s t i d other ∙ ap (λ b. cond b i (get_or l t d)) (sym (ne_eqb t s other))
]

pub set_table : (x : Mc68153) (s : ℕ) (i : Input) → length x.inputs ≡ 4 → s < 4 → ◌≡◌ {A = Mc68153} (record { inputs = set x.inputs s i }) (with_input x s i)
set_table x s i four h = is_table (set x.inputs s i) (λ t. cond (eqb t s) i (input_at x t)) (length-set x.inputs s i ∙ four) (λ t l. at_set x.inputs s t i (input 0 0 false) (omega arith))

pub drive_is : (x y : Mc68153) (s : ℕ) (w : Bool) → s < 4 → y ≡ drives x s w → (Ok Follow ≡ drive_result mc68153_model x s w) × (y ≡ drive_exit mc68153_model x s w)
unfolding driving
drive_is x y s w h e = rw (lt-ltb s 4 h) (refl, e)

-- nothing is ever held, so nothing is withdrawn
none_lost : (x y : Mc68153) (w : Withdrawn) → w ≡ nobody → w ≡ told (lost (mc68153_model.meaning x) (mc68153_model.meaning y)) 4
none_lost x y w e = e ∙ told_none (lost (mc68153_model.meaning x) (mc68153_model.meaning y)) 4 (λ s l. refl)

pub write_is : (x y : Mc68153) (r v : ℕ) (w : Withdrawn) → r < 8 → y ≡ writes x r v → w ≡ nobody → (Ok w ≡ write_result mc68153_model x r v) × (y ≡ write_exit mc68153_model x r v)
write_is x y r v w h e z =
    let f : write_fault mc68153_model x r v ≡ None = rw (lt-ltb r 8 h) refl in
    (ap Ok (none_lost x (writes x r v) w z) ∙ ap (λ o. unless_refused o (told (lost (mc68153_model.meaning x) (mc68153_model.meaning (writes x r v))) 4)) (sym f), e ∙ ap (λ o. changed_unless o (writes x r v) x) (sym f))

pub write_control : (x : Mc68153) (r v : ℕ) → r < 4 → with_input x r (input v (input_at x r).vector (input_at x r).asserted) ≡ writes x r v
write_control x r v h = sym (ap (λ b. cond b (with_input x r (input v (input_at x r).vector (input_at x r).asserted)) (with_input x (r - 4) (input (input_at x (r - 4)).control v (input_at x (r - 4)).asserted))) (lt-ltb r 4 h))

pub write_vector : (x : Mc68153) (r v : ℕ) → 4 ≤ r → with_input x (r - 4) (input (input_at x (r - 4)).control v (input_at x (r - 4)).asserted) ≡ writes x r v
write_vector x r v h = sym (ap (λ b. cond b (with_input x r (input v (input_at x r).vector (input_at x r).asserted)) (with_input x (r - 4) (input (input_at x (r - 4)).control v (input_at x (r - 4)).asserted))) (le-ltb r 4 h))

pub reset_is : (x : Mc68153) (w : Withdrawn) → w ≡ nobody → Ok w ≡ reset_result mc68153_model x
reset_is x w e = ap Ok (none_lost x (mc68153_model.cleared x) w e)

-- the highest input that asks is the one picked
pub highest_some : (x : Mc68153) (n s : ℕ) → s < 4 → asking_at n (source_at x s) ≡ true → ((t : ℕ) → s < t → t < 4 → asking_at n (source_at x t) ≡ false) → Some s ≡ pick (source_at x) n 4
highest_some x n s h a none = sym (pick_top (source_at x) n 4 s (ranks_fall x) h a none)

pub highest_none : (x : Mc68153) (n : ℕ) → ((t : ℕ) → t < 4 → asking_at n (source_at x t) ≡ false) → None ≡ pick (source_at x) n 4
highest_none x n none = sym (none_picked (source_at x) n 4 none)

pub some_within : (x : Mc68153) (n s : ℕ) → Some s ≡ pick (source_at x) n 4 → s < 4
some_within x n s e = (chosen_by (source_at x) n 4 (Some s) (sym e)).within
