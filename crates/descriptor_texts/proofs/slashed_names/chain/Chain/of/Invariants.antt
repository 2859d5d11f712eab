use Rattle.std.proofs.Common.{◌≡◌, ◌++◌, ◌-◌}
use Rattle.rules.specs.mark_rules.Roots.{slashed_name, slashed_within}
use Rattle.mark_parts.specs.mark_tables.Assemblies.{rec_of}
use Rattle.descriptor_texts.specs.slashed_names.Chains.{inner_names}
use Rattle.descriptor_texts.proofs.slashed_names.chain.Chain.of.Given as goal

abbrev pub invariant-loop-step : goal.invariant-loop-step
invariant-loop-step l = slashed_within (rec_of l.asm) (l.count - l._step) l.at ++ inner_names (rec_of l.asm) l.inner ≡ slashed_name (rec_of l.asm) l.fn.row
