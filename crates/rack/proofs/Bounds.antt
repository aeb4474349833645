-- In a proof the words of a handler's two bounds stand apart.
use Rattle.card.specs.declared.interface.Card.{Ghosts as OfCard}
use Rattle.card.specs.declared.interface.Handler.{Ghosts as OfHandler}
use Rattle.rack.specs.Machine.{Parts, parts}

abbrev pub parts_of : {H C : Type 0} → OfCard H → OfHandler H → OfCard C → Parts H C
parts_of card handler chain = parts (record { model = card.model; noticed = handler.noticed }) chain
