-- Parts of frames and of objects that a store changes.
use Rattle.std.specs.Prelude.{ℕ, List, Option, slice_get, slice_set}
use Rattle.std.specs.Option.{option_map, option_and_then}
use Rattle.il_base.specs.declared.cil_values.value.Value.{Value}
use Rattle.il_base.specs.declared.cil_values.object.Obj.{Obj}
use Rattle.il_base.specs.declared.cil_values.frame.Frame.{Frame}
use Rattle.il_base.specs.declared.cil_values.layout.Cell.TheVariants.{Field as of_field}
use Rattle.rules.specs.step_rules.Queries.{Queries}
use Rattle.rules.specs.step_rules.Places.{set_arg, set_local, put_boxed, put_element, put_cell_in}
use Rattle.machine_words.specs.declared.cil_places.frames.Slot.{Slot}
use Rattle.machine_words.specs.declared.cil_places.frames.Slot.TheVariants.{Arg, Local}
use Rattle.machine_words.specs.declared.cil_places.objects.Part.{Part}
use Rattle.machine_words.specs.declared.cil_places.objects.Part.TheVariants.{Boxed, Element, Field}

-- a frame with another value in a slot
abbrev pub set_slot : Slot → Value → Frame → Frame
set_slot (Arg k) v f = set_arg k v f
set_slot (Local k) v f = set_local k v f

-- an object with another value in a part
abbrev pub put_part : Queries → Part → Value → Obj → Option Obj
put_part q Boxed v o = put_boxed v o
put_part q (Element k) v o = put_element k v o
put_part q (Field f) v o = put_cell_in q (of_field f.0) v o

-- the objects with another value in a part of one
abbrev pub new_heap : Queries → Part → Value → List Obj → ℕ → Option (List Obj)
new_heap q part v heap at = option_map (λ o. slice_set heap at o) (option_and_then (put_part q part v) (slice_get heap at))
