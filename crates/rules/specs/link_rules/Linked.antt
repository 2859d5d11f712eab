-- The world of several assemblies: their records and the core library's, where each item stands, what each token names.
use Rattle.std.specs.Prelude.{◌≡◌, ℕ, suc, ◌+◌, List, [], ◌∷◌, ◌++◌, length, map, Option, Some, None, Result, Ok, Err}
use Rattle.std.specs.List.{range_with_len}
use Rattle.il_base.specs.declared.ids.TypeId.{TypeId}
use Rattle.il_base.specs.declared.table.TheConstants.{TYPE_REF, TYPE_DEF, FIELD, METHOD_DEF, INTERFACE_IMPL, MEMBER_REF, EVENT, PROPERTY, TYPE_SPEC, ASSEMBLY, METHOD_SPEC}
use Rattle.il_base.specs.declared.ids.Item.{Item}
use Rattle.il_base.specs.declared.ids.Item.TheVariants as item
use Rattle.il_base.specs.declared.world_model.known.Known.{Known}
use Rattle.il_base.specs.declared.world_model.known.Known.TheVariants.{Good}
use Rattle.il_base.specs.declared.world_model.expr.TypeExpr.{TypeExpr}
use Rattle.il_base.specs.declared.world_model.expr.MethodUse.{MethodUse}
use Rattle.il_base.specs.declared.world_model.expr.FieldUse.{FieldUse}
use Rattle.il_base.specs.declared.world_model.types.TypeSpecRow.{TypeSpecRow}
use Rattle.il_base.specs.declared.world_model.members.MemberRefRow.{MemberRefRow}
use Rattle.il_base.specs.declared.world_model.members.MethodSpecRow.{MethodSpecRow}
use Rattle.il_base.specs.declared.world_model.record.AsmRec.{AsmRec}
use Rattle.il_base.specs.declared.world_model.world.Home.{Home}
use Rattle.il_base.specs.declared.world_model.world.TypeLink.{TypeLink}
use Rattle.il_base.specs.declared.world_model.world.MethodLink.{MethodLink}
use Rattle.il_base.specs.declared.world_model.world.FieldLink.{FieldLink}
use Rattle.il_base.specs.declared.world_model.world.World.{World}
use Rattle.il_base.specs.world_model.Tokens.{token_of}
use Rattle.il_base.specs.core_table.Record.{core_record}
use Rattle.rules.specs.declared.link_rules.link_error.LinkError.{LinkError}
use Rattle.rules.specs.declared.link_rules.link_error.LinkError.TheVariants as fault
use Rattle.rules.specs.link_rules.Types.{at_row, ref_definition, added_type}
use Rattle.rules.specs.link_rules.Signatures.{definition_expr, known_expr, spec_type}
use Rattle.rules.specs.link_rules.Members.{methods_in, fields_in, method_def_use, field_def_use, method_ref_use, field_ref_use, method_spec_use}
use Rattle.rules.specs.link_rules.Faults.{numbered, link_fault}
use Rattle.rules.specs.link_rules.CoreNames.{missing_names, core_with}

-- the assemblies of a world: the inputs, and the core library with the names that modifiers use
unfoldable pub assemblies : List AsmRec → List AsmRec
assemblies recs = recs ++ core_with core_record (missing_names (recs ++ core_record ∷ [])) ∷ []

-- ---- the assembly and the token of each item: of each kind by assembly and row, the kinds in the order of Item

abbrev pub rows_from : {A B : Type 0} → (ℕ → B) → ℕ → List A → List B
rows_from f first rows = map f (range_with_len first (length rows))

abbrev pub home : (ℕ → Item) → ℕ → ℕ → ℕ → ℕ → Home
home item a table before k = record { item = item (before + k); asm = record { 0 = a }; token = token_of table (suc k) }

-- the items of one kind, where the assemblies before the first of these have so many rows of it
abbrev pub homes_from : (AsmRec → ℕ) → (ℕ → Item) → ℕ → ℕ → ℕ → List AsmRec → List Home
homes_from count item table a before [] = []
homes_from count item table a before (rec ∷ recs) =
    map (home item a table before) (range_with_len 0 (count rec)) ++ homes_from count item table (suc a) (before + count rec) recs

abbrev pub homes_of : (AsmRec → ℕ) → (ℕ → Item) → ℕ → List AsmRec → List Home
homes_of count item table recs = homes_from count item table 0 0 recs

unfoldable pub homes : List AsmRec → List Home
homes recs =
    homes_of (λ rec. 1) (λ n. item.Asm (record { 0 = n })) ASSEMBLY recs
    ++ homes_of (λ (rec : AsmRec). length rec.type_def) (λ n. item.Typ (record { 0 = n })) TYPE_DEF recs
    ++ homes_of methods_in (λ n. item.Method (record { 0 = n })) METHOD_DEF recs
    ++ homes_of fields_in (λ n. item.Field (record { 0 = n })) FIELD recs
    ++ homes_of (λ (rec : AsmRec). length rec.property) (λ n. item.Prop (record { 0 = n })) PROPERTY recs
    ++ homes_of (λ (rec : AsmRec). length rec.event) (λ n. item.Event (record { 0 = n })) EVENT recs
    ++ homes_of (λ (rec : AsmRec). length rec.interface_impl) (λ n. item.Impl (record { 0 = n })) INTERFACE_IMPL recs

-- ---- what tokens name

abbrev pub type_link : ℕ → ℕ → ℕ → Known TypeExpr → Option TypeId → TypeLink
type_link a table k to added = record { asm = record { 0 = a }; token = token_of table (suc k); to = to; added = added }

unfoldable pub types_of : List AsmRec → ℕ → AsmRec → List TypeLink
types_of all a rec =
    map (λ k. type_link a TYPE_REF k (known_expr all (ref_definition all a rec k)) (added_type all a rec k)) (range_with_len 0 (length rec.type_ref))
    ++ map (λ k. type_link a TYPE_DEF k (Good (definition_expr all (at_row a k))) None) (range_with_len 0 (length rec.type_def))
    ++ numbered (λ k (row : TypeSpecRow). type_link a TYPE_SPEC k (spec_type all a rec row) None) 0 rec.type_spec

abbrev pub method_link : ℕ → ℕ → ℕ → Known MethodUse → MethodLink
method_link a table k to = record { asm = record { 0 = a }; token = token_of table (suc k); to = to }

unfoldable pub methods_of : List AsmRec → ℕ → AsmRec → List MethodLink
methods_of all a rec =
    map (λ k. method_link a METHOD_DEF k (method_def_use all a rec k)) (range_with_len 0 (length rec.method_def))
    ++ numbered (λ k (row : MemberRefRow). method_link a MEMBER_REF k (method_ref_use all a rec row)) 0 rec.member_ref
    ++ numbered (λ k (row : MethodSpecRow). method_link a METHOD_SPEC k (method_spec_use all a rec row)) 0 rec.method_spec

abbrev pub field_link : ℕ → ℕ → ℕ → Known FieldUse → FieldLink
field_link a table k to = record { asm = record { 0 = a }; token = token_of table (suc k); to = to }

unfoldable pub fields_of : List AsmRec → ℕ → AsmRec → List FieldLink
fields_of all a rec =
    map (λ k. field_link a FIELD k (field_def_use all a rec k)) (range_with_len 0 (length rec.field))
    ++ numbered (λ k (row : MemberRefRow). field_link a MEMBER_REF k (field_ref_use all a rec row)) 0 rec.member_ref

-- the links of each assembly, one after the other
abbrev pub links_from : {A : Type 0} → (ℕ → AsmRec → List A) → ℕ → List AsmRec → List A
links_from links a [] = []
links_from links a (rec ∷ recs) = links a rec ++ links_from links (suc a) recs

-- ---- the world

unfoldable pub world_in : List AsmRec → World
world_in all = record {
  recs = all;
  homes = homes all;
  types = links_from (types_of all) 0 all;
  methods = links_from (methods_of all) 0 all;
  fields = links_from (fields_of all) 0 all;
}

-- the world of these inputs
abbrev pub world_of : List AsmRec → World
world_of recs = world_in (assemblies recs)

-- the first demand of linking that these inputs fail
abbrev pub link_fault_of : List AsmRec → Option LinkError
link_fault_of recs = link_fault (assemblies recs) recs

-- what a link of these inputs answers: their world where no demand fails, else the first that does; want of memory is free
abbrev pub Links : List AsmRec → Result World LinkError → Type 0
Links recs (Ok w) = (link_fault_of recs ≡ None) × (w ≡ world_of recs)
Links recs (Err (fault.Bad file why token)) = link_fault_of recs ≡ Some (fault.Bad file why token)
Links recs (Err fault.NoMemory) = Unit {0}

-- a world that a link gave
pub record IsWorld (w : World) : Type 0 where
  pub inputs : List AsmRec
  pub sound : link_fault_of inputs ≡ None
  pub linked : w ≡ world_of inputs
