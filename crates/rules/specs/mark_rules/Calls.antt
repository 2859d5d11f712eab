-- What a marked method needs: its signature, its body, the types that it makes, what it overrides, the initializer of its type;
-- and what a virtual call of it may run (II.10.3, II.12.2, II.15).
use Rattle.std.specs.Prelude.{ℕ, suc, List, [], ◌∷◌, ◌++◌, map, Option, slice_get, ◌&&◌, Bool, not, if◌then◌else◌}
use Rattle.std.specs.List.{list_any, flat_map}
use Rattle.std.specs.Option.{option_and_then, option_map}
use Rattle.il_base.specs.declared.body.Form.{Form}
use Rattle.il_base.specs.declared.body.Form.TheVariants as form
use Rattle.il_base.specs.declared.body.Operand.{Operand}
use Rattle.il_base.specs.declared.body.Operand.TheVariants as operand
use Rattle.il_base.specs.declared.body.Instr.{Instr}
use Rattle.il_base.specs.declared.table.TheConstants.{TYPE_DEF, METHOD_DEF}
use Rattle.il_base.specs.Flags.{has_flag}
use Rattle.il_base.specs.declared.method_flags.TheConstants as flag
use Rattle.il_base.specs.declared.type_flags.TheConstants as type_flag
use Rattle.il_base.specs.declared.world_model.expr.TypeExpr.{TypeExpr}
use Rattle.il_base.specs.declared.world_model.expr.MethodUse.{MethodUse}
use Rattle.il_base.specs.declared.world_model.types.TypeDefRow.{TypeDefRow}
use Rattle.il_base.specs.declared.world_model.members.MethodDefRow.{MethodDefRow}
use Rattle.il_base.specs.declared.world_model.members.MethodImplRow.{MethodImplRow}
use Rattle.il_base.specs.declared.world_model.record.AsmRec.{AsmRec}
use Rattle.il_base.specs.world_model.Tokens.{token_of, index_in}
use Rattle.rules.specs.declared.link_rules.row_at.RowAt.{RowAt}
use Rattle.rules.specs.link_rules.Types.{at_row}
use Rattle.rules.specs.link_rules.Members.{owner_of, with_bases, is_interface_row, generic_method}
use Rattle.rules.specs.link_rules.Cycles.{listed, same_row, home_of, is_static_field, only_interface}
use Rattle.rules.specs.type_rules.Slots.{is_virtual, is_new_slot, method_row_at, type_of_method, type_of_row, open_type, inherited, slot_of, method_home}
use Rattle.rules.specs.type_rules.Dispatch.{Choice, good_use, class_dispatch, implied, from_choice, in_interface}
use Rattle.rules.specs.type_rules.Initializers.{initializer}
use Rattle.rules.specs.type_rules.Rows.{each_row, field_row_at, owner_of_field, rec_at, type_row_at}
use Rattle.rules.specs.mark_rules.Facts.{Fact}
use Rattle.rules.specs.mark_rules.Facts.Fact.{instantiated}
use Rattle.rules.specs.mark_rules.Places.{marks_type, marks_method}
use Rattle.rules.specs.mark_rules.Naming.{Part, of_known, of_parts, of_method_use, method_sig_parts, method_named}
use Rattle.il_base.specs.declared.body.Body.{Body}
use Rattle.rules.specs.mark_rules.Bodies.{is_read, are_locals_read, code_parts, body_parts, body_of}
use Rattle.rules.specs.mark_rules.Types.{impl_row_at, impl_type, constraints_of}

-- ---- the method itself

abbrev pub owner_facts : List AsmRec → RowAt → List Fact
owner_facts recs at = map (marks_type recs) (listed (type_of_method recs at))

abbrev pub row_parts : List AsmRec → RowAt → AsmRec → MethodDefRow → List Part
row_parts recs at rec m =
    method_sig_parts recs at.asm rec (token_of METHOD_DEF (suc at.row)) m.signature ++ constraints_of recs at.asm rec (token_of METHOD_DEF (suc at.row))
    ++ flat_map (body_parts recs at.asm rec (token_of METHOD_DEF (suc at.row)) (is_read m.signature)) (body_of m)

unfoldable pub parts_of_method : List AsmRec → RowAt → List Part
parts_of_method recs at = flat_map (λ (rec : AsmRec). flat_map (row_parts recs at rec) (listed (slice_get rec.method_def at.row))) (listed (rec_at recs at))

abbrev pub uncaught_row_parts : List AsmRec → RowAt → AsmRec → MethodDefRow → List Part
uncaught_row_parts recs at rec m =
    method_sig_parts recs at.asm rec (token_of METHOD_DEF (suc at.row)) m.signature ++ constraints_of recs at.asm rec (token_of METHOD_DEF (suc at.row))
    ++ flat_map (code_parts recs at.asm rec (token_of METHOD_DEF (suc at.row)) (is_read m.signature)) (body_of m)

-- what a method names but the types that it catches
unfoldable pub uncaught_parts : List AsmRec → RowAt → List Part
uncaught_parts recs at = flat_map (λ (rec : AsmRec). flat_map (uncaught_row_parts recs at rec) (listed (slice_get rec.method_def at.row))) (listed (rec_at recs at))

-- A marked method marks its owner, the types of its signature, the constraints of its parameters, its locals, the types that it
-- catches, and what each operand names, with owner and arguments.
unfoldable pub method_needs : List AsmRec → RowAt → List Fact
method_needs recs at = owner_facts recs at ++ of_parts (parts_of_method recs at)

-- ---- the types that it makes

abbrev pub makes_type : List AsmRec → MethodUse → List Fact
makes_type recs u = map instantiated (listed (owner_of recs u.owner))

abbrev pub makes_by : List AsmRec → ℕ → AsmRec → Form → Operand → List Fact
makes_by recs a rec form.NewObj (operand.Token token) = of_known (makes_type recs) (method_named recs a rec token)
makes_by recs a rec _ _ = []

-- the instructions of a method that have operands
abbrev pub code_of : AsmRec → MethodDefRow → List Instr
code_of rec m = flat_map (λ (b : Body). if is_read m.signature && are_locals_read rec b.locals then b.code else []) (body_of m)

abbrev pub made_in : List AsmRec → ℕ → AsmRec → MethodDefRow → List Fact
made_in recs a rec m = flat_map (λ (i : Instr). makes_by recs a rec i.form i.operand) (code_of rec m)

-- `newobj` makes an object or a value of its owner (III.4.21)
unfoldable pub makes : List AsmRec → RowAt → List Fact
makes recs at = flat_map (λ (rec : AsmRec). flat_map (made_in recs at.asm rec) (listed (slice_get rec.method_def at.row))) (listed (rec_at recs at))

-- ---- what it overrides

abbrev pub overridden : List AsmRec → RowAt → MethodDefRow → List Fact
overridden recs at m = if is_virtual m && not (is_new_slot m) then map (marks_method recs) (listed (inherited recs at m)) else []

abbrev pub has_body : List AsmRec → RowAt → MethodUse → Bool
has_body recs at u = list_any (same_row at) (listed (method_home recs u.method))

-- where the body of a MethodImpl row is the method, its declaration is needed, with the owners and arguments that both name
abbrev pub declared_by : List AsmRec → RowAt → ℕ → AsmRec → MethodImplRow → List Fact
declared_by recs at a rec row =
    flat_map (λ (body : MethodUse). if has_body recs at body then of_method_use body ++ flat_map of_method_use (listed (good_use (generic_method recs a rec row.declaration))) else [])
    (listed (good_use (generic_method recs a rec row.body)))

abbrev pub declared_in : List AsmRec → RowAt → ℕ → AsmRec → List Fact
declared_in recs at a rec = flat_map (declared_by recs at a rec) rec.method_impl

-- A method marks the nearest inherited method that it overrides by name, and the declaration of each MethodImpl row of any class
-- whose body it is (II.22.27), also of a row that is for no slot.
unfoldable pub overrides_of : List AsmRec → RowAt → List Fact
overrides_of recs at = flat_map (overridden recs at) (listed (method_row_at recs at)) ++ each_row (declared_in recs at) recs

-- ---- the initializer of its type

abbrev pub initializer_of : List AsmRec → Option RowAt → List Fact
initializer_of recs t = map (marks_method recs) (listed (option_and_then (initializer recs) t))

-- a marked method, also an instance or abstract one, marks the initializer of its type
unfoldable pub method_starts : List AsmRec → RowAt → List Fact
method_starts recs at = initializer_of recs (type_of_method recs at)

-- a marked static field marks the initializer of its type
unfoldable pub field_starts : List AsmRec → RowAt → List Fact
field_starts recs at =
    if list_any is_static_field (listed (field_row_at recs at))
    then initializer_of recs (option_and_then (λ (rec : AsmRec). option_map (at_row at.asm) (owner_of_field rec at.row)) (rec_at recs at))
    else []

-- ---- what a virtual call may run

abbrev pub is_own_slot : List AsmRec → RowAt → Bool
is_own_slot recs b = list_any (same_row b) (listed (slot_of recs b))

-- the method that a class slot dispatches to in a type, whose generic parameters stay open
unfoldable pub class_answer : List AsmRec → RowAt → RowAt → List RowAt
class_answer recs t b =
    if is_own_slot recs b && not (in_interface recs b) then listed (class_dispatch recs (open_type recs t) b) else []

abbrev pub choice : TypeExpr → TypeExpr → Choice
choice c i = record { of = c; instance = i }

abbrev pub found_first : List AsmRec → RowAt → TypeExpr → RowAt → MethodDefRow → TypeExpr → List RowAt
found_first recs b c owner m i =
    if list_any (same_row owner) (listed (home_of recs i)) then listed (from_choice recs b m (type_of_row recs b) (choice c i)) else []

abbrev pub found_for : List AsmRec → RowAt → TypeExpr → TypeExpr → List RowAt
found_for recs b c e =
    flat_map (λ (owner : RowAt). flat_map (λ (m : MethodDefRow). flat_map (found_first recs b c owner m) (implied recs e)) (listed (method_row_at recs b))) (listed (type_of_method recs b))

-- whether a type is another or one of its bases
abbrev pub is_base_of : List AsmRec → RowAt → RowAt → Bool
is_base_of recs c t = list_any (λ e. list_any (same_row c) (listed (home_of recs e))) (with_bases recs (open_type recs t))

abbrev pub row_class : List AsmRec → RowAt → Option RowAt
row_class recs r = option_and_then (λ row. option_map (at_row r.asm) (index_in TYPE_DEF row.class)) (impl_row_at recs r)

abbrev pub searched : List AsmRec → RowAt → RowAt → RowAt → RowAt → List RowAt
searched recs t b r c = if is_base_of recs c t then flat_map (found_for recs b (open_type recs c)) (only_interface recs (impl_type recs r)) else []

-- The methods that the search for an interface slot finds first, for an interface row of a type or of one of its bases, and each
-- instance of the slot's interface that the row is or implies.
unfoldable pub first_found : List AsmRec → RowAt → RowAt → RowAt → List RowAt
first_found recs t b r =
    if is_own_slot recs b && in_interface recs b then flat_map (searched recs t b r) (listed (row_class recs r)) else []

-- the methods that an interface slot dispatches to: each that the search finds first, dispatched from the type as a class slot
abbrev pub interface_answer : List AsmRec → RowAt → RowAt → RowAt → List RowAt
interface_answer recs t b r =
    flat_map (λ m. listed (option_and_then (class_dispatch recs (open_type recs t)) (slot_of recs m))) (first_found recs t b r)

-- For an instantiated type and a marked slot, what the slot dispatches to from the type is marked; for an interface slot and a
-- marked interface row also what the search finds first.
unfoldable pub class_runs : List AsmRec → RowAt → RowAt → List Fact
class_runs recs t b = map (marks_method recs) (class_answer recs t b)

unfoldable pub interface_runs : List AsmRec → RowAt → RowAt → RowAt → List Fact
interface_runs recs t b r = map (marks_method recs) (first_found recs t b r ++ interface_answer recs t b r)

-- ---- abstract slots

abbrev pub is_concrete : TypeDefRow → Bool
is_concrete t = not (has_flag t.flags type_flag.ABSTRACT) && not (is_interface_row t)

abbrev pub is_abstract_method : MethodDefRow → Bool
is_abstract_method m = has_flag m.flags flag.ABSTRACT

abbrev pub answers_abstract : List AsmRec → RowAt → RowAt → Bool
answers_abstract recs t b = list_any is_concrete (listed (type_row_at recs t)) && list_any is_abstract_method (listed (method_row_at recs b))

-- whether the type that has a method is a type or one of its bases
abbrev pub is_below_owner : List AsmRec → RowAt → RowAt → Bool
is_below_owner recs t b = list_any (λ owner. is_base_of recs owner t) (listed (type_of_method recs b))

-- The slot that an abstract method asks a type to answer: its own, or, below the type that has it, the one that it overrides.
unfoldable pub asked_slot : List AsmRec → RowAt → RowAt → List RowAt
asked_slot recs t b = if is_own_slot recs b then b ∷ [] else if is_below_owner recs t b then listed (slot_of recs b) else []

-- A marked type that is neither abstract nor an interface has a method for each slot that a marked abstract method asks it to answer
-- (II.10.1.4).
unfoldable pub class_fills : List AsmRec → RowAt → RowAt → List Fact
class_fills recs t b = if answers_abstract recs t b then flat_map (class_runs recs t) (asked_slot recs t b) else []

unfoldable pub interface_fills : List AsmRec → RowAt → RowAt → RowAt → List Fact
interface_fills recs t b r = if answers_abstract recs t b then map (marks_method recs) (interface_answer recs t b r) else []
