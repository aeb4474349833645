-- A script line by line: what one line adds to what is printed.
use Rattle.std.proofs.Common.{◌≡◌, ℕ, ◌+◌, List, ◌∷◌, ◌++◌, Ok, Err, Result, refl}
use Rattle.rack.specs.declared.calls.Call.{Call}
use Rattle.rack.specs.Machine.{Parts, State}
use Rattle.runs.specs.Turns.{results_of}
use Rattle.script.specs.declared.faults.ScriptFault.{ScriptFault}
use Rattle.script.specs.Parse.{parsed}
use Rattle.script.specs.Printing.{printed}
use Rattle.script.specs.Running.{gives_by, leaves_by, line_text, line_leaves, and_call, calls_of, told_by, told, printed_by}

-- the first line of what lines print, and the rest
pub printed_step : {H C : Type 0} (p : Parts H C) (x : State H C) (n : ℕ) (t : List ℕ) (ts : List (List ℕ)) → printed_by p x n (t ∷ ts) ≡ line_text p x n t ++ printed_by p (line_leaves p x t) (n + 1) ts
printed_step p x n t ts = go (parsed t)
  where
    go : (r : Result Call ScriptFault) → told_by (told ts) n r (results_of p x (and_call r (calls_of ts))) ≡ printed n (gives_by p x r) ++ printed_by p (leaves_by p x r) (n + 1) ts
    go (Ok c) = refl
    go (Err e) = refl
