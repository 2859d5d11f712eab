-- The examples, computed.
use Rattle.std.proofs.Common.{refl}
use Rattle.rules.proofs.lemmas.step_rules.Opened.{opened}
use Rattle.rules.proofs.lemmas.step_rules.TypeLayers.{laying}
use Rattle.rules.specs.step_rules.Examples as example

pub adds : example.Adds
unfolding opened
adds = simp laying refl

pub divides_by_zero : example.DividesByZero
unfolding opened
divides_by_zero = simp laying refl

pub divides_least : example.DividesLeast
unfolding opened
divides_least = simp laying refl

pub converts : example.Converts
unfolding opened
converts = simp laying refl

pub shifts : example.Shifts
unfolding opened
shifts = simp laying refl

pub branches : example.Branches
unfolding opened
branches = refl

pub calls : example.Calls
unfolding opened
calls = simp laying refl

pub prints : example.Prints
unfolding opened
prints = simp laying refl

pub bad_operand : example.BadOperand
unfolding opened
bad_operand = simp laying refl

pub empty_stack : example.EmptyStack
unfolding opened
empty_stack = simp laying refl

pub makes : example.Makes
unfolding opened
makes = simp laying refl

pub creates : example.Creates
unfolding opened
creates = simp laying refl

pub creates_zero : example.CreatesZero
unfolding opened
creates_zero = simp laying refl

pub creates_nothing : example.CreatesNothing
unfolding opened
creates_nothing = simp laying refl

pub stores_field : example.StoresField
unfolding opened
stores_field = simp laying refl

pub loads_field : example.LoadsField
unfolding opened
loads_field = simp laying refl

pub field_of_null : example.FieldOfNull
unfolding opened
field_of_null = simp laying refl

pub addresses : example.Addresses
unfolding opened
addresses = simp laying refl

pub points : example.Points
unfolding opened
points = refl

pub new_arrays : example.NewArrays
unfolding opened
new_arrays = simp laying refl

pub stores_element : example.StoresElement
unfolding opened
stores_element = simp laying refl

pub mismatches : example.Mismatches
unfolding opened
mismatches = simp laying refl

pub boxes : example.Boxes
unfolding opened
boxes = simp laying refl

pub casts : example.Casts
unfolding opened
casts = simp laying refl

pub catches : example.Catches
unfolding opened
catches = simp laying refl

pub leaves : example.Leaves
unfolding opened
leaves = refl

pub ends_finally : example.EndsFinally
unfolding opened
ends_finally = refl

pub falls_out : example.FallsOut
unfolding opened
falls_out = refl
