-- Where the instructions of methods begin.
use Rattle.std.specs.Prelude.{ℕ, List, [], map, Option, Some, None}
use Rattle.std.specs.List.{AllZip}
use Rattle.std.specs.Option.{option_and_then}
use Rattle.il_base.specs.declared.cil_values.definition.Method.{Method}
use Rattle.il_base.specs.declared.cil_values.resolved.Instruction.{Instruction}
use Rattle.il_base.specs.declared.cil_values.resolved.Code.{Code}
use Rattle.rules.specs.step_rules.Words.{instruction_at}
use Rattle.machine_words.specs.cil_queries.Bodies.{code_of}
use Rattle.il_base.specs.declared.first_places.places.Places.{Places}
use Rattle.il_base.specs.first_places.Places.{AreFirst}

-- the body of a method, where it has one that can run
abbrev pub code_in : Option Method → Option Code
code_in m = option_and_then code_of m

-- the IL offsets of the instructions of a body
abbrev pub offsets_of : Option Code → List ℕ
offsets_of None = []
offsets_of (Some code) = map (λ (i : Instruction). i.at) code.code

-- the instruction of a body that begins at an offset
abbrev pub begins_at : Option Code → ℕ → Option Instruction
begins_at code at = option_and_then (λ c. instruction_at c at) code

abbrev pub HasPlaces : Option Method → Places → Type 0
HasPlaces m places = AreFirst (offsets_of (code_in m)) places

abbrev pub HavePlaces : List (Option Method) → List Places → Type 0
HavePlaces rows places = AllZip HasPlaces rows places
