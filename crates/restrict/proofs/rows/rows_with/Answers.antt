use Rattle.std.proofs.Common.{List, sym, subst}
use Rattle.merge_plan.specs.Kept.{kept_by}
use Rattle.restrict.specs.declared.merged_attributes.attributes.Attribute.{Attribute}
use Rattle.merged_tables.specs.Parts.{output_by}
use Rattle.restrict.specs.Referring.{AreAttributesOf}
use Rattle.restrict.proofs.rows.rows_with.Goals as goal

pub rows_of-requires-clause-sources : goal.rows_of-requires-clause-sources
rows_of-requires-clause-sources c =
    let items = c.requires.tables.items in
    let refs = c.requires.met.references in
    record {
      world = c.requires.world;
      index = c.requires.index;
      same = c.requires.same;
      keys = record { types = record { scopes = c.requires.scopes } };
      told = record {
        types = record { recs = c.requires.scoped; refs = refs.types; kept = items.types };
        methods = items.methods;
        fields = items.fields;
        specs = refs.specs;
        members = refs.members;
        instances = refs.instances;
        locals = refs.locals;
      };
      plan = c.requires.plan;
      tables = c.requires.tables;
    }

pub rows_of-requires-clause-attributes : goal.rows_of-requires-clause-attributes
rows_of-requires-clause-attributes c =
    subst (λ (xs : List Attribute). AreAttributesOf (output_by c.args.index.now.all.now (kept_by c.args.kept.now)) xs) (sym c.as_slice.ensures.value) c.requires.met.attributes
