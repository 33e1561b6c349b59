-- What helper functions owe.
use Rattle.trial_records.specs.declared.Draws.{Draws}
use Rattle.trial_records.specs.Trial.{Drawn}

-- what the code has drawn, as the definition's record
abbrev pub draws_of : Draws → Drawn
draws_of d = record { operation = d.operation; caller = d.caller; token = d.token; other = d.other; flag = d.flag; amount = d.amount }
