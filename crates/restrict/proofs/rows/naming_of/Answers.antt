use Rattle.token_keys.specs.signature_rows.Laws.{AreNumberTokens}
use Rattle.restrict.specs.Rows.{output_from}
use Rattle.restrict.proofs.rows.naming_of.Goals as goal

pub reference_tables-requires : goal.reference_tables-requires
reference_tables-requires c = record { world = c.requires.sources.world; keys = c.requires.sources.keys }

pub all_tokens-requires-clause-parts : goal.all_tokens-requires-clause-parts
all_tokens-requires-clause-parts c = record { rows = record { world = c.requires.sources.world; keys = c.requires.sources.keys }; numbers = c.in_ok-numbers.ensures }

pub returns : goal.returns
returns c =
    let s = c.args.sources.now in
    let o = output_from s in
    let are = c.requires.sources in
    let numbers : AreNumberTokens o c.in_ok-numbers.numbers = c.numbers_tell.ensures o s.keys.types c.in_ok-numbers.numbers are.told.types c.in_ok-numbers.ensures in
    record {
      references = c.in_ok-references.ensures o (record { recs = are.same; keys = are.told; numbers = numbers });
      tokens = c.in_ok-tokens.ensures o (record { recs = are.same; keys = are.told; numbers = numbers }) c.requires.met;
    }
