-- Members of Array, and RuntimeHelpers.InitializeArray.
use Rattle.std.specs.Prelude.{ℕ, zero, suc, ◌*◌, nat_le, pos, List, [], ◌∷◌, length, drop, Some, if◌then◌else◌}
use Rattle.byteorder.specs.Endian.{little_number}
use Rattle.il_base.specs.declared.world_model.expr.TypeExpr.{TypeExpr}
use Rattle.il_base.specs.declared.world_model.known.Known.TheVariants.{Good, Bad}
use Rattle.il_base.specs.declared.core_table.names.CoreName.TheVariants.{ArgumentException, NullReferenceException}
use Rattle.il_base.specs.declared.cil_values.value.Value.{Value}
use Rattle.il_base.specs.declared.cil_values.value.Value.TheVariants as value
use Rattle.il_base.specs.declared.cil_values.object.Obj.{Obj}
use Rattle.il_base.specs.declared.cil_values.object.Obj.TheVariants as object
use Rattle.il_base.specs.declared.cil_values.definition.First.{First}
use Rattle.il_base.specs.declared.cil_values.layout.Shape.{Shape}
use Rattle.il_base.specs.declared.cil_values.definition.First.TheVariants.{Bytes as bytes}
use Rattle.il_base.specs.declared.cil_values.layout.Shape.TheVariants.{Integer as integer}
use Rattle.rules.specs.step_rules.Queries.{Queries}
use Rattle.il_base.specs.declared.cil_values.state.State.{State}
use Rattle.rules.specs.step_rules.Next.{Next}
use Rattle.rules.specs.step_rules.Words.{stuck, stopped, given, had, object_at}
use Rattle.rules.specs.step_rules.Integers.{width_of, number}
use Rattle.rules.specs.step_rules.Places.{with_object}
use Rattle.rules.specs.step_rules.Raising.{raise}
use Rattle.rules.specs.step_rules.CoreWords.{Gives, CoreForm, gives_nothing, gives_int}

-- get_Length
abbrev pub length_in : State → Gives → Obj → Next
length_in s give (object.Array of cells) = gives_int (pos (length cells)) s give
length_in s give _ = stuck s

abbrev pub length_at : State → Gives → Value → Next
length_at s give (value.Object a) = given (object_at s a) s (length_in s give)
length_at s give _ = stuck s

unfoldable pub array_length_form : CoreForm
array_length_form q (this ∷ []) s give = length_at s give this
array_length_form q _ s give = stuck s

-- n elements from these bytes, little-endian
unfoldable pub elements_of : ℕ → ℕ → List ℕ → List Value
elements_of code zero bs = []
elements_of code (suc n) bs = number code (pos (little_number (width_of code) bs)) ∷ elements_of code n (drop (width_of code) bs)

abbrev pub fill_with : Queries → State → Gives → ℕ → TypeExpr → List Value → ℕ → List ℕ → Next
fill_with q s give a of cells code bs =
    if nat_le (length cells * width_of code) (length bs)
    then given (with_object s a (Some (object.Array of (elements_of code (length cells) bs)))) s (λ t. gives_nothing t give)
    else raise q ArgumentException s

-- a field without bytes is no argument; one whose bytes have no meaning ends the run
abbrev pub fill_from : Queries → State → Gives → ℕ → TypeExpr → List Value → ℕ → First → Next
fill_from q s give a of cells code (bytes (Good bs)) = fill_with q s give a of cells code bs
fill_from q s give a of cells code (bytes (Bad why)) = stopped s
fill_from q s give a of cells code _ = raise q ArgumentException s

abbrev pub fill_by : Queries → State → Gives → ℕ → TypeExpr → List Value → ℕ → Shape → Next
fill_by q s give a of cells f (integer code) = had (q.field f) s (λ d. fill_from q s give a of cells code d.first)
fill_by q s give a of cells f _ = raise q ArgumentException s

abbrev pub fill_object : Queries → State → Gives → ℕ → ℕ → Obj → Next
fill_object q s give a f (object.Array of cells) = fill_by q s give a of cells f (q.shape of)
fill_object q s give a f _ = stuck s

-- InitializeArray(Array, RuntimeFieldHandle): null, the zero handle, elements that aren't integers, too few bytes
abbrev pub fill_array_by : Queries → State → Gives → ℕ → Value → Next
fill_array_by q s give a (value.FieldHandle f) = given (object_at s a) s (fill_object q s give a f.0)
fill_array_by q s give a _ = raise q ArgumentException s

abbrev pub fill_array_at : Queries → State → Gives → Value → Value → Next
fill_array_at q s give (value.Object a) handle = fill_array_by q s give a handle
fill_array_at q s give value.Null handle = raise q NullReferenceException s
fill_array_at q s give _ handle = stuck s

unfoldable pub fill_array_form : CoreForm
fill_array_form q (array ∷ handle ∷ []) s give = fill_array_at q s give array handle
fill_array_form q _ s give = stuck s
