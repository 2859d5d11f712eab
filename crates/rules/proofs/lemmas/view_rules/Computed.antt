-- The examples, computed.
use Rattle.std.proofs.Common.{refl}
use Rattle.rules.proofs.lemmas.view_rules.Opened.{opened}
use Rattle.rules.proofs.lemmas.view_rules.Layers.{laying}
use Rattle.rules.specs.view_rules.Examples as example

pub has_bytes : example.HasBytes
unfolding opened
has_bytes = refl

pub has_none : example.HasNone
unfolding opened
has_none = refl

pub class_shape : example.ClassIsReference
unfolding opened
class_shape = simp laying refl

pub struct_shape : example.StructHasCells
unfolding opened
struct_shape = simp laying refl

pub enum_shape : example.EnumIsNumber
unfolding opened
enum_shape = simp laying refl

pub enum_of_enum : example.EnumOfEnum
unfolding opened
enum_of_enum = simp laying refl

pub too_deep : example.TooDeep
unfolding opened
too_deep = simp laying refl

pub number : example.NumberIsThere
unfolding opened
number = simp laying refl
