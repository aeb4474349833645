-- What is printed of a line: its number, then the fields of its result, each behind a tab, then byte 10.
use Rattle.std.specs.Prelude.{ℕ, List, [], ◌∷◌, ◌++◌, length, drop, Ok, Err, decimal, Result}
use Rattle.card.specs.Words.{after, refusal_fields}
use Rattle.rack.specs.declared.calls.Outcome.{Outcome}
use Rattle.rack.specs.Words.{outcome_fields}
use Rattle.script.specs.declared.faults.ScriptFault.{ScriptFault}
use Rattle.script.specs.Faults.{script_refusal}

abbrev pub result_fields : Result Outcome ScriptFault → List (List ℕ)
result_fields (Ok o) = outcome_fields o
result_fields (Err e) = refusal_fields (script_refusal e)

unfoldable pub printed : ℕ → Result Outcome ScriptFault → List ℕ
printed n r = after (decimal n) (result_fields r) ++ 10 ∷ []

-- the most bytes that a line prints, where its number has at most five digits
abbrev pub room : Result Outcome ScriptFault → ℕ
room (Ok o) = 96
room (Err e) = 32

-- a text set over the first bytes of another
abbrev pub over : List ℕ → List ℕ → List ℕ
over t s = t ++ drop (length t) s
