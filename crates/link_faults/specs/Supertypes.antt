-- The bases and the interfaces of types, as ids, by the links of type tokens.
use Rattle.std.specs.Prelude.{ℕ, suc, ◌-◌, List, [], ◌∷◌, ◌++◌, Option, Some, None, slice_get, slice_set, unwrap_or, nat_lt, ◌==◌, ◌||◌, Bool, false, if◌then◌else◌}
use Rattle.std.specs.List.{flat_map}
use Rattle.std.specs.Option.{option_and_then}
use Rattle.il_base.specs.declared.table.TheConstants.{TYPE_DEF}
use Rattle.il_base.specs.declared.world_model.tokens.TheConstants.{FIRST_TYPE_DEF}
use Rattle.il_base.specs.declared.world_model.types.TypeDefRow.{TypeDefRow}
use Rattle.il_base.specs.declared.world_model.types.InterfaceImplRow.{InterfaceImplRow}
use Rattle.il_base.specs.declared.world_model.record.AsmRec.{AsmRec}
use Rattle.il_base.specs.declared.world_model.world.TypeLink.{TypeLink}
use Rattle.il_base.specs.world_model.Tokens.{token_of}
use Rattle.rules.specs.link_rules.Members.{is_interface_row}
use Rattle.rules.specs.link_rules.Cycles.{listed, is_row_of}
use Rattle.rules.specs.link_rules.Faults.{numbered}
use Rattle.rules.specs.link_rules.Linked.{links_from}
use Rattle.link_faults.specs.Graphs.{next_in}
use Rattle.link_faults.specs.Targets.{target_at, named_target_at}

-- ---- bases

abbrev pub base_target : List AsmRec → List TypeLink → ℕ → TypeDefRow → Option ℕ
base_target all links a t = if t.extends == 0 || is_interface_row t then None else named_target_at all links a t.extends

abbrev pub bases_of : List AsmRec → List TypeLink → ℕ → ℕ → TypeDefRow → List ℕ
bases_of all links a k t = listed (base_target all links a t)

abbrev pub all_bases : List AsmRec → List TypeLink → List (List ℕ)
all_bases all links = links_from (λ a (rec : AsmRec). numbered (bases_of all links a) 0 rec.type_def) 0 all

-- ---- interfaces

abbrev pub interface_flag : ℕ → TypeDefRow → Bool
interface_flag k t = is_interface_row t

-- a flag for each type, in the order of ids: whether it is an interface
abbrev pub interface_flags : List AsmRec → List Bool
interface_flags all = links_from (λ a (rec : AsmRec). numbered interface_flag 0 rec.type_def) 0 all

abbrev pub if_flagged : List Bool → ℕ → Option ℕ
if_flagged flags id = if unwrap_or (slice_get flags id) false then Some id else None

-- the id of the interface that a token names, where it names one
abbrev pub interface_at : List AsmRec → List TypeLink → List Bool → ℕ → ℕ → Option ℕ
interface_at all links flags a token = option_and_then (if_flagged flags) (target_at all links a token)

abbrev pub interfaces_by : List AsmRec → List TypeLink → List Bool → ℕ → ℕ → InterfaceImplRow → List ℕ
interfaces_by all links flags a token row = if is_row_of token row then listed (interface_at all links flags a row.interface) else []

-- the place of the row that a TypeDef token names
abbrev pub place_of : ℕ → Option ℕ
place_of token = if nat_lt token FIRST_TYPE_DEF then None else Some (token - FIRST_TYPE_DEF)

-- a graph with one more edge
abbrev pub led_on : List (List ℕ) → Option ℕ → Option ℕ → List (List ℕ)
led_on graph None to = graph
led_on graph (Some node) None = graph
led_on graph (Some node) (Some to) = slice_set graph node (next_in graph node ++ to ∷ [])

abbrev pub nothing_of : ℕ → TypeDefRow → List ℕ
nothing_of k t = []

-- the interfaces of a type, by these rows of InterfaceImpl
abbrev pub interfaces_of : List AsmRec → List TypeLink → List Bool → ℕ → List InterfaceImplRow → ℕ → TypeDefRow → List ℕ
interfaces_of all links flags a rows k t = flat_map (interfaces_by all links flags a (token_of TYPE_DEF (suc k))) rows

abbrev pub all_interfaces : List AsmRec → List TypeLink → List Bool → List (List ℕ)
all_interfaces all links flags = links_from (λ a (rec : AsmRec). numbered (interfaces_of all links flags a rec.interface_impl) 0 rec.type_def) 0 all
