use Rattle.std.proofs.Common.{List, sym, subst}
use Rattle.merge_plan.specs.declared.moved_parts.tokens.NewTokens.{NewTokens}
use Rattle.merged_tables.specs.merged_members.Laws.{HaveTokens}
use Rattle.restrict.specs.Rows.{output_from}
use Rattle.restrict.proofs.rows.rows_of.Goals as goal

pub tables_with-requires-clause-tokens : goal.tables_with-requires-clause-tokens
tables_with-requires-clause-tokens c =
    subst (λ (ts : List NewTokens). HaveTokens (output_from c.args.sources.now) ts) (sym c.as_slice-tokens.ensures.value) c.in_ok-naming.ensures.tokens

pub returns : goal.returns
returns c =
    let o = output_from c.args.sources.now in
    record {
      entry = c.in_ok-entry.ensures o (subst (λ (ts : List NewTokens). HaveTokens o ts) (sym c.as_slice-tokens.ensures.value) c.in_ok-naming.ensures.tokens) c.requires.first;
      tables = c.in_ok-tables.ensures;
      references = c.in_ok-naming.ensures.references;
      attributes = c.in_ok-attributes.ensures;
      user = c.in_ok-user.ensures o c.in_ok-texts.ensures.met;
    }
