-- The references of an output, as the code holds them.
use Rattle.std.specs.Prelude.{◌≡◌, List, map}
use Rattle.rules.specs.merge_rules.Refs.{Output}
use Rattle.rules.specs.merge_rules.Attributes.{kept_attributes}
use Rattle.restrict.specs.declared.merged_attributes.attributes.Attribute.{Attribute}
use Rattle.restrict.specs.merged_attributes.Attributes.{told}
use Rattle.restrict.specs.output_references.References.{AreReferencesOf}
use Rattle.restrict.specs.declared.referring.Referring.{Referring}

-- the attributes that are written
abbrev pub AreAttributesOf : Output → List Attribute → Type 0
AreAttributesOf o attributes = map told attributes ≡ kept_attributes o.recs o.kept

pub record AreReferring (o : Output) (r : Referring) : Type 0 where
  pub attributes : AreAttributesOf o r.attributes.items
  pub references : AreReferencesOf o.recs o.mets r.references
