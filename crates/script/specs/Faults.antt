-- The number, layer and place of each fault of a script.
use Rattle.card.specs.declared.faults.Layer.TheVariants.{Script}
use Rattle.card.specs.declared.faults.Refusal.{Refusal}
use Rattle.card.specs.Faults.{refusal}
use Rattle.rack.specs.Faults.{rack_refusal}
use Rattle.script.specs.declared.faults.ScriptFault.{ScriptFault}
use Rattle.script.specs.declared.faults.ScriptFault.TheVariants.{ShortOutput, LongLine, UnknownWord, WrongCount, BadField, LongScript, Rack}

-- a rack's fault keeps its number, layer and place
abbrev pub script_refusal : ScriptFault → Refusal
script_refusal ShortOutput = refusal 9 Script 0
script_refusal LongLine = refusal 10 Script 0
script_refusal UnknownWord = refusal 11 Script 1
script_refusal WrongCount = refusal 12 Script 0
script_refusal (BadField k) = refusal 13 Script k
script_refusal LongScript = refusal 19 Script 0
script_refusal (Rack e) = rack_refusal e
