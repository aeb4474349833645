-- The number, layer and place of each fault of a processor.
use Rattle.card.specs.declared.faults.Layer.TheVariants.{Rack}
use Rattle.card.specs.declared.faults.Refusal.{Refusal}
use Rattle.card.specs.Faults.{refusal}
use Rattle.processor.specs.declared.state.ProcessorFault.{ProcessorFault}
use Rattle.processor.specs.declared.state.ProcessorFault.TheVariants.{BadMask, LevelTaken, NothingTaken, NotInnermost, Full, ServicesOpen}

abbrev pub processor_refusal : ProcessorFault → Refusal
processor_refusal (BadMask m) = refusal 18 Rack m
processor_refusal (LevelTaken n) = refusal 21 Rack n
processor_refusal NothingTaken = refusal 22 Rack 0
processor_refusal (NotInnermost d) = refusal 23 Rack d
processor_refusal Full = refusal 24 Rack 16
processor_refusal (ServicesOpen k) = refusal 25 Rack k
