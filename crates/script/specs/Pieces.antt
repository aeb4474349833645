-- Lines and fields of a text.
use Rattle.std.specs.Prelude.{ℕ, cond, List, [], ◌∷◌, ◌==◌}
use Rattle.std.specs.List.{slice_split, onto_first}

-- each line ends with byte 10, which the last may lack; an empty text has no line
unfoldable pub lines : List ℕ → List (List ℕ)
lines [] = []
lines (x ∷ xs) = cond (x == 10) ([] ∷ lines xs) (onto_first x (lines xs))

-- fields are parted by byte 9: there is one more field than there are bytes 9
abbrev pub fields : List ℕ → List (List ℕ)
fields = slice_split (λ b. b == 9)
