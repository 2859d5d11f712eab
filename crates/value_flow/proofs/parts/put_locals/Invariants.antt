use Rattle.std.proofs.Common.{◌≡◌, ◌-◌, ◌++◌, map, replicate}
use Rattle.rules.specs.declared.flow_rules.source.Source.TheVariants as source
use Rattle.value_flow.specs.Numbers.{number_in}
use Rattle.value_flow.proofs.parts.put_locals.Given as goal

abbrev pub invariant-loop-k : goal.invariant-loop-k
invariant-loop-k l =
    l.begins.items ++ map (number_in l.sources) (replicate (l.locals - l._k) source.Null) ≡ l.initial.begins.items ++ map (number_in l.sources) (replicate l.locals source.Null)
