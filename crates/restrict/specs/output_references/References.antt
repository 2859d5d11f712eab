-- What has reference rows, over what code holds.
use Rattle.std.specs.Prelude.{◌≡◌, List, map}
use Rattle.il_base.specs.declared.world_model.record.AsmRec.{AsmRec}
use Rattle.rules.specs.merge_rules.Order.{Met}
use Rattle.rules.specs.merge_rules.Refs.{type_refs, type_specs, member_refs, method_specs, locals_sigs}
use Rattle.token_keys.specs.key_codes.Keys as coded
use Rattle.restrict.specs.declared.output_references.references.OutputReferences.{OutputReferences}

pub record AreReferencesOf (recs : List AsmRec) (mets : List Met) (r : OutputReferences) : Type 0 where
  pub types : r.types ≡ type_refs recs mets
  pub specs : r.specs ≡ type_specs recs mets
  pub members : map coded.member_key r.members ≡ member_refs mets
  pub instances : map coded.instance_key r.instances ≡ method_specs mets
  pub locals : r.locals ≡ locals_sigs mets
