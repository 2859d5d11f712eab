use Rattle.std.proofs.Common.{List, sym, subst, ◌∙◌}
use Rattle.mark_parts.specs.mark_tables.Assemblies.{all_of}
use Rattle.merge_plan.specs.declared.moved_parts.tokens.NewTokens.{NewTokens}
use Rattle.token_keys.specs.world_keys.Keys.{AreAllNumbers}
use Rattle.restrict.proofs.rows.output_rows.Goals as goal

pub all_numbers-requires-clause-references : goal.all_numbers-requires-clause-references
all_numbers-requires-clause-references c = c.in_ok-scopes.ensures.is.references

pub all_numbers-requires-clause-same : goal.all_numbers-requires-clause-same
all_numbers-requires-clause-same c = c.in_ok-scopes.ensures.all ∙ sym c.requires.same

pub rows_by-requires-clause-world : goal.rows_by-requires-clause-world
rows_by-requires-clause-world c = record {
  marker = c.requires.marker;
  numbers = subst (λ (ts : List NewTokens). AreAllNumbers (all_of c.args.marker.now) ts) (sym c.as_slice.ensures.value) c.in_ok-numbers.ensures;
}
