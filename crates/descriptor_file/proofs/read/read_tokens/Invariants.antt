use Rattle.std.proofs.Common.{◌≡◌, ◌≤◌, ◌-◌, false, length, drop}
use Rattle.descriptor_file.specs.Grammar.{first_state}
use Rattle.descriptor_file.specs.Reading.{read_from}
use Rattle.descriptor_file.proofs.read.read_tokens.Given as goal

abbrev pub invariant-loop-at : goal.invariant-loop-at
invariant-loop-at l = record {
  within : l.at ≤ length l.bytes;
  reads : read_from 0 l.spaced l.at (drop l.at l.bytes) l.state ≡ read_from 0 false l.from (drop l.from l.bytes) first_state;
}

abbrev pub decreases-loop-at : goal.decreases-loop-at
decreases-loop-at l = length l.bytes - l.at
