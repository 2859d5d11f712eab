use Rattle.std.proofs.Common.{◌-◌, length}
use Rattle.machine_words.proofs.cil_places.structs.+put_from.Given as goal

abbrev pub decreases-put_from : goal.decreases-put_from
decreases-put_from l = length l.steps.now - l.from
