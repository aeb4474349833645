-- The number, layer and place of each fault of a rack: a card's and a processor's fault keep theirs.
use Rattle.card.specs.declared.faults.Refusal.{Refusal}
use Rattle.card.specs.Faults.{card_refusal}
use Rattle.processor.specs.Faults.{processor_refusal}
use Rattle.rack.specs.declared.faults.RackFault.{RackFault}
use Rattle.rack.specs.declared.faults.RackFault.TheVariants.{Card, Processor}

abbrev pub rack_refusal : RackFault → Refusal
rack_refusal (Card e) = card_refusal e
rack_refusal (Processor e) = processor_refusal e
