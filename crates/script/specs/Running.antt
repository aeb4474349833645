-- A script on a rack: what each line gives and leaves, what is printed, and the calls that it makes.
use Rattle.std.specs.Prelude.{◌≡◌, ℕ, ◌+◌, Bool, cond, List, [], ◌∷◌, ◌++◌, length, Ok, Err, Result, nat_lt}
use Rattle.rack.specs.declared.calls.Call.{Call}
use Rattle.rack.specs.declared.calls.Outcome.{Outcome}
use Rattle.rack.specs.declared.faults.RackFault.{RackFault}
use Rattle.rack.specs.Machine.{Parts, State, rack_gives, rack_leaves}
use Rattle.runs.specs.Turns.{results_of}
use Rattle.runs.specs.Law.{NoEdges, RunKeeps}
use Rattle.script.specs.declared.faults.ScriptFault.{ScriptFault}
use Rattle.script.specs.declared.faults.ScriptFault.TheVariants.{ShortOutput, LongScript, Rack}
use Rattle.script.specs.Pieces.{lines}
use Rattle.script.specs.Parse.{parsed}
use Rattle.script.specs.Printing.{printed, over}

-- what the rack gave, as a line's result
abbrev pub of_rack : Result Outcome RackFault → Result Outcome ScriptFault
of_rack (Ok o) = Ok o
of_rack (Err e) = Err (Rack e)

abbrev pub gives_by : {H C : Type 0} → Parts H C → State H C → Result Call ScriptFault → Result Outcome ScriptFault
gives_by p x (Ok c) = of_rack (rack_gives p x c)
gives_by p x (Err e) = Err e

abbrev pub leaves_by : {H C : Type 0} → Parts H C → State H C → Result Call ScriptFault → State H C
leaves_by p x (Ok c) = rack_leaves p x c
leaves_by p x (Err e) = x

-- A line: what it gives, and what it leaves. A line that can't be parsed changes nothing.
abbrev pub line_gives : {H C : Type 0} → Parts H C → State H C → List ℕ → Result Outcome ScriptFault
line_gives p x t = gives_by p x (parsed t)

abbrev pub line_leaves : {H C : Type 0} → Parts H C → State H C → List ℕ → State H C
line_leaves p x t = leaves_by p x (parsed t)

-- what is printed of line n
abbrev pub line_text : {H C : Type 0} → Parts H C → State H C → ℕ → List ℕ → List ℕ
line_text p x n t = printed n (line_gives p x t)

-- A line call with an output buffer: one under 128 bytes is refused, and nothing is written or changed. Else the line's text stands
-- at the start of the buffer, and the rest of it is as it was.
abbrev pub short : List ℕ → Bool
short out = nat_lt (length out) 128

abbrev pub line_result : {H C : Type 0} → Parts H C → State H C → ℕ → List ℕ → List ℕ → Result ℕ ScriptFault
line_result p x n t out = cond (short out) (Err ShortOutput) (Ok (length (line_text p x n t)))

abbrev pub line_output : {H C : Type 0} → Parts H C → State H C → ℕ → List ℕ → List ℕ → List ℕ
line_output p x n t out = cond (short out) out (over (line_text p x n t) out)

abbrev pub line_exit : {H C : Type 0} → Parts H C → State H C → List ℕ → List ℕ → State H C
line_exit p x t out = cond (short out) x (line_leaves p x t)

-- The calls that lines make: one that can't be parsed makes none.
abbrev pub and_call : Result Call ScriptFault → List Call → List Call
and_call (Ok c) cs = c ∷ cs
and_call (Err e) cs = cs

abbrev pub calls_of : List (List ℕ) → List Call
calls_of [] = []
calls_of (t ∷ ts) = and_call (parsed t) (calls_of ts)

-- What lines print, numbered from n: one that makes a call tells the next result of the run, another its fault.
abbrev pub told_by : (List (Result Outcome RackFault) → ℕ → List ℕ) → ℕ → Result Call ScriptFault → List (Result Outcome RackFault) → List ℕ
told_by more n (Err e) rs = printed n (Err e) ++ more rs (n + 1)
told_by more n (Ok c) [] = []
told_by more n (Ok c) (r ∷ rs) = printed n (of_rack r) ++ more rs (n + 1)

abbrev pub told : List (List ℕ) → List (Result Outcome RackFault) → ℕ → List ℕ
told [] rs n = []
told (t ∷ ts) rs n = told_by (told ts) n (parsed t) rs

-- what lines print on a rack in state x
abbrev pub printed_by : {H C : Type 0} → Parts H C → State H C → ℕ → List (List ℕ) → List ℕ
printed_by p x n ts = told ts (results_of p x (calls_of ts)) n

-- A whole script: the calls that it makes, and what it prints. One over 65,536 bytes makes none, and prints only its refusal, numbered 0.
abbrev pub too_long : List ℕ → Bool
too_long s = nat_lt 65536 (length s)

abbrev pub script_calls : List ℕ → List Call
script_calls s = cond (too_long s) [] (calls_of (lines s))

abbrev pub output : {H C : Type 0} → Parts H C → State H C → List ℕ → List ℕ
output p x s = cond (too_long s) (printed 0 (Err LongScript)) (printed_by p x 1 (lines s))

-- A script that was run on a rack in state x: every byte that it printed, and the law over the run that it made.
pub record ScriptRan {H C : Type 0} (p : Parts H C) (x : State H C) (s out : List ℕ) : Type 0 where
  pub prints : out ≡ output p x s
  pub keeps : NoEdges p x → RunKeeps p x (script_calls s)
