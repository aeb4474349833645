-- The fields of a printed result as values.
use Rattle.std.specs.Prelude.{ℕ, ◌≤◌, List, [], ◌∷◌, length, decimal}
use Rattle.std.specs.List.{AllByRecursion}
use Rattle.card.specs.declared.fields.Field.{Field}
use Rattle.card.specs.declared.fields.Field.TheVariants.{Word, Number}
use Rattle.card.specs.declared.fields.Fields.{Fields}
use Rattle.card.specs.declared.fields.Fields.TheVariants.{One, Two, Three, Four}

-- what a field prints
abbrev pub field_text : Field → List ℕ
field_text (Word w) = w.now
field_text (Number n) = decimal n

abbrev pub texts : Fields → List (List ℕ)
texts (One a) = field_text a ∷ []
texts (Two a b) = field_text a ∷ field_text b ∷ []
texts (Three a b c) = field_text a ∷ field_text b ∷ field_text c ∷ []
texts (Four a b c d) = field_text a ∷ field_text b ∷ field_text c ∷ field_text d ∷ []

-- each of them takes up to 20 bytes
abbrev pub AreShort : Fields → Type 0
AreShort fs = AllByRecursion (λ t. length t ≤ 20) (texts fs)
