-- The mill's rack, and what is promised of a script that was run on a new one.
use Rattle.std.specs.Prelude.{◌≡◌, ℕ, List}
use Rattle.plain.specs.declared.PlainHandler.{PlainHandler}
use Rattle.plain.specs.Sheet.{plain_model}
use Rattle.mc68153.specs.declared.Mc68153.{Mc68153}
use Rattle.mc68153.specs.Sheet.{fresh, mc68153_model}
use Rattle.joined.specs.declared.Joined.{Joined}
use Rattle.joined.specs.Joining.{pair, join}
use Rattle.rack.specs.Machine.{Parts, State, parts, start}
use Rattle.runs.specs.Law.{RunKeeps}
use Rattle.script.specs.Running.{script_calls, output}

abbrev pub LoomChain : Type 0
LoomChain = Joined Mc68153 Mc68153

abbrev pub loom_parts : Parts PlainHandler LoomChain
loom_parts = parts (record { model = plain_model; noticed = λ x n. x }) (record { model = join mc68153_model mc68153_model })

-- a new rack: processor 1, and every card as made
abbrev pub loom_start : State PlainHandler LoomChain
loom_start = start 1 (record {}) (pair fresh fresh)

-- every byte that the script printed, and the law over the run of the calls that it made
pub record LoomRan (s printed : List ℕ) : Type 0 where
  pub prints : printed ≡ output loom_parts loom_start s
  pub keeps : RunKeeps loom_parts loom_start (script_calls s)
