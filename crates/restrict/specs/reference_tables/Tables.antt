-- The tables of references of an output.
use Rattle.std.specs.Prelude.{◌≡◌}
use Rattle.rules.specs.merge_rules.Refs.{Output, assembly_refs, type_ref_rows, type_spec_rows, member_ref_rows, method_spec_rows, locals_rows}
use Rattle.restrict.specs.declared.reference_tables.tables.ReferenceTables.{ReferenceTables}

pub record AreTablesOf (o : Output) (t : ReferenceTables) : Type 0 where
  pub assemblies : t.assemblies ≡ assembly_refs o.recs o.mets
  pub types : t.types ≡ type_ref_rows o
  pub specs : t.specs ≡ type_spec_rows o
  pub members : t.members ≡ member_ref_rows o
  pub instances : t.instances ≡ method_spec_rows o
  pub locals : t.locals ≡ locals_rows o
