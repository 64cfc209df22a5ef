-- What is found stays sound: by the trial of the production.
use Rattle.finite.proofs.FoundLaws.{in_table}
use Rattle.finite.proofs.lists.advance.Goals as goal

pub try_production-requires : goal.try_production-requires
try_production-requires c = record { noted = c.requires.search_asks.noted; a_production = in_table _ _ _ c.requires.search_asks.productions_are c.requires.k_in_bounds; sound = c.requires.search_asks.sound }
