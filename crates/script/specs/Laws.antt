-- What a whole script promises its reader.
use Rattle.std.specs.Prelude.{◌≡◌, ℕ, ◌+◌, ◌*◌, ◌≤◌, true, false, List, [], ◌∷◌, length, Ok, Err, codes, decimal, Result}
use Rattle.card.specs.declared.outcomes.Driven.{Driven}
use Rattle.card.specs.declared.faults.Layer.{Layer}
use Rattle.card.specs.declared.faults.Layer.TheVariants.{Script, Rack, Card}
use Rattle.card.specs.Words.{drive_word, layer_word, after}
use Rattle.rack.specs.declared.calls.Side.{Side}
use Rattle.rack.specs.declared.calls.Outcome.{Outcome}
use Rattle.rack.specs.Machine.{Parts, State}
use Rattle.rack.specs.Words.{side_word}
use Rattle.script.specs.declared.faults.ScriptFault.{ScriptFault}
use Rattle.script.specs.declared.faults.ScriptFault.TheVariants.{LongScript}
use Rattle.script.specs.Pieces.{lines}
use Rattle.script.specs.Printing.{result_fields, printed}
use Rattle.script.specs.Running.{line_gives, line_leaves, too_long}

-- The numbers of the table of refusals, each with the layer that refuses.
pub data Listed : ℕ → Layer → Type 0 where
  by_script : (n : ℕ) → 9 ≤ n → n ≤ 13 → Listed n Script
  by_card : (n : ℕ) → 14 ≤ n → n ≤ 18 → Listed n Card
  bad_mask : Listed 18 Rack
  long_script : Listed 19 Script
  no_control : Listed 20 Card
  by_processor : (n : ℕ) → 21 ≤ n → n ≤ 25 → Listed n Rack

-- The forms of a result: the fields that stand behind a line's number.
pub data Form : List (List ℕ) → Type 0 where
  drive_form : (d : Driven) → Form (drive_word d ∷ [])
  drop_form : (bits : ℕ) → Form (codes "drop" ∷ decimal bits ∷ [])
  byte_form : (v : ℕ) → Form (codes "byte" ∷ decimal v ∷ [])
  ok_form : Form (codes "ok" ∷ [])
  level_form : (n : ℕ) → Form (codes "level" ∷ decimal n ∷ [])
  none_form : Form (codes "none" ∷ [])
  vector_form : (z : Side) (s v : ℕ) → Form (codes "vector" ∷ side_word z ∷ decimal s ∷ decimal v ∷ [])
  outside_form : (z : Side) (s : ℕ) → Form (codes "outside" ∷ side_word z ∷ decimal s ∷ [])
  spurious_form : Form (codes "spurious" ∷ codes "24" ∷ [])
  mask_form : (m : ℕ) → Form (codes "mask" ∷ decimal m ∷ [])
  drops_form : (chain local : ℕ) → Form (codes "drop" ∷ decimal chain ∷ decimal local ∷ [])
  refused_form : (n : ℕ) (z : Layer) (place : ℕ) → Listed n z → Form (codes "refused" ∷ decimal n ∷ layer_word z ∷ decimal place ∷ [])

-- a line that is refused leaves the rack as it was
abbrev pub StaysIfRefused : {X : Type 0} → X → Result Outcome ScriptFault → X → Type 0
StaysIfRefused before (Ok o) after = Unit {0}
StaysIfRefused before (Err e) after = after ≡ before

-- One output line for each line, from state x and number n on: its number, and what the line gave on the rack as those before left it, in
-- one of the forms.
pub record Tells {H C : Type 0} (p : Parts H C) (x : State H C) (n : ℕ) (t o : List ℕ) : Type 0 where
  pub text : o ≡ after (decimal n) (result_fields (line_gives p x t))
  pub form : Form (result_fields (line_gives p x t))
  pub refused : StaysIfRefused x (line_gives p x t) (line_leaves p x t)

abbrev pub LineByLine : {H C : Type 0} → Parts H C → State H C → ℕ → List (List ℕ) → List (List ℕ) → Type 0
LineByLine p x n [] [] = Unit {0}
LineByLine p x n [] (o ∷ os) = ⊥
LineByLine p x n (t ∷ ts) [] = ⊥
LineByLine p x n (t ∷ ts) (o ∷ os) = Tells p x n t o × LineByLine p (line_leaves p x t) (n + 1) ts os

-- A script s that printed `out` on a rack in state x.
pub record Promises {H C : Type 0} (p : Parts H C) (x : State H C) (s out : List ℕ) : Type 0 where
  -- up to 65,536 bytes: one output line for each line, numbered from 1
  pub each_line : too_long s ≡ false → LineByLine p x 1 (lines s) (lines out)
  -- over that: only the one refusal
  pub too_long_refused : too_long s ≡ true → out ≡ printed 0 (Err LongScript)
  -- what it prints is not much longer than itself
  pub bounded : length out ≤ 32 * length s + 128
