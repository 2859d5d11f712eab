-- The examples, computed.
use Rattle.std.proofs.Common.{refl}
use Rattle.rules.proofs.lemmas.merge_rules.Opened.{opened}
use Rattle.rules.proofs.lemmas.merge_rules.Layers.{laying}
use Rattle.rules.specs.merge_rules.Examples as example

pub types : example.KeepsTypes
unfolding opened
types = refl

pub methods : example.KeepsMethods
unfolding opened
methods = refl

pub names : example.Renames
unfolding opened
names = refl

pub without : example.NoCollision
unfolding opened
without = refl

pub collision : example.Collides
unfolding opened
collision = refl

pub field_rows : example.LeavesFields
unfolding opened
field_rows = simp laying refl

pub method_rows : example.LeavesMethods
unfolding opened
method_rows = simp laying refl

pub entry : example.LeavesEntry
unfolding opened
entry = simp laying refl

pub meets : example.Meets
unfolding opened
meets = simp laying refl

pub refers : example.RefersTo
unfolding opened
refers = simp laying refl

pub reference_rows : example.WritesReferences
unfolding opened
reference_rows = simp laying refl

pub assemblies : example.NamesAssemblies
unfolding opened
assemblies = simp laying refl

pub type_row : example.MovesType
unfolding opened
type_row = simp laying refl

pub other_row : example.MovesOther
unfolding opened
other_row = refl
