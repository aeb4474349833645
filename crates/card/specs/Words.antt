-- The words that a script's output has for what a card tells, and how fields are set in a line.
use Rattle.std.specs.Prelude.{ℕ, List, [], ◌∷◌, ◌++◌, codes, decimal}
use Rattle.card.specs.declared.faults.Refusal.{Refusal}
use Rattle.card.specs.declared.outcomes.Driven.{Driven}
use Rattle.card.specs.declared.outcomes.Driven.TheVariants.{Follow, Latched, Merged, Lost, Quiet}
use Rattle.card.specs.declared.faults.Layer.{Layer}
use Rattle.card.specs.declared.faults.Layer.TheVariants.{Script, Rack, Card}

abbrev pub drive_word : Driven → List ℕ
drive_word Follow = codes "follow"
drive_word Latched = codes "latched"
drive_word Merged = codes "merged"
drive_word Lost = codes "lost"
drive_word Quiet = codes "quiet"

abbrev pub layer_word : Layer → List ℕ
layer_word Script = codes "script"
layer_word Rack = codes "rack"
layer_word Card = codes "card"

-- fields set after a text, each behind a tab
abbrev pub after : List ℕ → List (List ℕ) → List ℕ
after t [] = t
after t (f ∷ fs) = after (t ++ 9 ∷ f) fs

-- fields parted by tabs
abbrev pub tabbed : List (List ℕ) → List ℕ
tabbed [] = []
tabbed (f ∷ fs) = after f fs

abbrev pub refusal_fields : Refusal → List (List ℕ)
refusal_fields r = codes "refused" ∷ decimal r.number ∷ layer_word r.layer ∷ decimal r.place ∷ []
