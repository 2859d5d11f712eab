use Rattle.std.proofs.Common.{◌≡◌, ◌++◌, ◌-◌, length}
use Rattle.rules.specs.type_rules.Texts.{row_name}
use Rattle.type_names.specs.Chains.{inner_names}
use Rattle.mark_parts.specs.mark_tables.Assemblies.{rec_of}
use Rattle.keep_lists.proofs.chain.chain_of.Given as goal

abbrev pub invariant-loop-step : goal.invariant-loop-step
invariant-loop-step l =
    row_name (rec_of l.asm) (l._step-end - l._step) l.at ++ inner_names (rec_of l.asm) l.inner ≡ row_name (rec_of l.asm) (length (rec_of l.asm).type_def) l.row
