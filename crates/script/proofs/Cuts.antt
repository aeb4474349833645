-- The first line of a text, and the rest.
use Rattle.std.proofs.Common.{◌≡◌, ℕ, suc, ◌+◌, ◌<◌, Bool, true, false, not, cond, eqb, List, [], ◌∷◌, length, take, drop, refl, ap, arith}
use Rattle.std.specs.List.{onto_first, position_or_len}
use Rattle.script.specs.Pieces.{lines}

pub no_lines : (s : List ℕ) → length s ≡ 0 → lines s ≡ []
unfolding lines
no_lines [] h = refl
no_lines (x ∷ xs) h = absurd (omega arith)

-- where the first line ends
abbrev pub line_end : List ℕ → ℕ
line_end = position_or_len (λ b. eqb b 10)

pub cut_line : (s : List ℕ) → 0 < length s → lines s ≡ take (line_end s) s ∷ lines (drop (suc (line_end s)) s)
unfolding lines
cut_line [] h = absurd (omega arith)
cut_line (x ∷ []) h = go (eqb x 10)
  where
    go : (v : Bool) → cond v ([] ∷ []) ((x ∷ []) ∷ []) ≡ take (cond (not v) 1 0) (x ∷ []) ∷ lines (drop (suc (cond (not v) 1 0)) (x ∷ []))
    go true = refl
    go false = refl
cut_line (x ∷ y ∷ ys) h = go (eqb x 10) (cut_line (y ∷ ys) (omega arith))
  where
    go : (v : Bool) → lines (y ∷ ys) ≡ take (line_end (y ∷ ys)) (y ∷ ys) ∷ lines (drop (suc (line_end (y ∷ ys))) (y ∷ ys))
        → cond v ([] ∷ lines (y ∷ ys)) (onto_first x (lines (y ∷ ys))) ≡ take (cond (not v) (1 + line_end (y ∷ ys)) 0) (x ∷ y ∷ ys) ∷ lines (drop (suc (cond (not v) (1 + line_end (y ∷ ys)) 0)) (x ∷ y ∷ ys))
    go true e = refl
    go false e = let one_more : 1 + line_end (y ∷ ys) ≡ suc (line_end (y ∷ ys)) = omega arith in rw one_more (ap (onto_first x) e)
