-- The words that a script's output has for the two sides, the vector that comes where no source answers, and the fields of a result.
use Rattle.std.specs.Prelude.{ℕ, List, [], ◌∷◌, Some, None, codes, decimal}
use Rattle.card.specs.declared.outcomes.Reply.{Reply}
use Rattle.card.specs.declared.outcomes.Reply.TheVariants.{Byte, Outside}
use Rattle.card.specs.Words.{drive_word}
use Rattle.card.specs.Withdrawing.{first_word}
use Rattle.rack.specs.declared.calls.Side.{Side}
use Rattle.rack.specs.declared.calls.Side.TheVariants.{Local, Chain}
use Rattle.rack.specs.declared.calls.Reached.{Reached}
use Rattle.rack.specs.declared.calls.Reached.TheVariants.{At, Spurious}
use Rattle.rack.specs.declared.calls.Outcome.{Outcome}
use Rattle.rack.specs.declared.calls.Outcome.TheVariants.{Drove, Showed, Withdrew, Masked, Took, Answered, Returned, Cleared}

abbrev pub side_word : Side → List ℕ
side_word Local = codes "local"
side_word Chain = codes "chain"

abbrev pub spurious_vector : ℕ
spurious_vector = 24

-- who answered an acknowledge
abbrev pub reply_fields : Side → ℕ → Reply → List (List ℕ)
reply_fields z s (Byte v) = codes "vector" ∷ side_word z ∷ decimal s ∷ decimal v ∷ []
reply_fields z s Outside = codes "outside" ∷ side_word z ∷ decimal s ∷ []

abbrev pub reached_fields : Reached → List (List ℕ)
reached_fields (At z a) = reply_fields z a.source a.reply
reached_fields (Spurious v) = codes "spurious" ∷ decimal v ∷ []

abbrev pub outcome_fields : Outcome → List (List ℕ)
outcome_fields (Drove d) = drive_word d ∷ []
outcome_fields (Showed v) = codes "byte" ∷ decimal v ∷ []
outcome_fields (Withdrew w) = codes "drop" ∷ decimal (first_word w) ∷ []
outcome_fields Masked = codes "ok" ∷ []
outcome_fields (Took None) = codes "none" ∷ []
outcome_fields (Took (Some n)) = codes "level" ∷ decimal n ∷ []
outcome_fields (Answered r) = reached_fields r
outcome_fields (Returned m) = codes "mask" ∷ decimal m ∷ []
outcome_fields (Cleared chain local) = codes "drop" ∷ decimal (first_word chain) ∷ decimal (first_word local) ∷ []
