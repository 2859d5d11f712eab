-- That walks with a bound are whole in a linked world: a greater bound finds the same.
use Rattle.std.specs.Prelude.{◌≡◌, ◌<◌, ◌≤◌, ◌⊎◌, ℕ, suc, List, [], ◌∷◌, length, Option, Some, None, slice_get, true, Contains}
use Rattle.std.specs.List.{flat_map, IsDistinct}
use Rattle.il_base.specs.declared.world_model.expr.TypeExpr.{TypeExpr}
use Rattle.il_base.specs.declared.table.TheConstants.{TYPE_DEF}
use Rattle.il_base.specs.declared.world_model.types.TypeDefRow.{TypeDefRow}
use Rattle.il_base.specs.declared.world_model.types.NestedClassRow.{NestedClassRow}
use Rattle.il_base.specs.world_model.Tokens.{index_in}
use Rattle.il_base.specs.declared.world_model.members.MethodDefRow.{MethodDefRow}
use Rattle.il_base.specs.declared.world_model.record.AsmRec.{AsmRec}
use Rattle.il_base.specs.world_model.Exprs.{same_expr}
use Rattle.rules.specs.declared.link_rules.row_at.RowAt.{RowAt}
use Rattle.rules.specs.link_rules.Types.{encloser}
use Rattle.rules.specs.link_rules.Members.{bases_from, with_bases, type_count}
use Rattle.rules.specs.link_rules.Cycles.{listed, led_to, same_row, home_of}
use Rattle.rules.specs.link_rules.Linked.{assemblies, link_fault_of}
use Rattle.rules.specs.type_rules.Subtypes.{interfaces_of}
use Rattle.rules.specs.type_rules.Slots.{is_virtual, method_row_at, type_of_method, slot_within, slot_of}
use Rattle.rules.specs.type_rules.Texts.{row_name}
use Rattle.rules.specs.type_rules.Labels.{row_space}
use Rattle.rules.specs.type_rules.Dispatch.{implied, declares_slot, impl_in, slot_in, class_dispatch}

-- a property holds of the world of all inputs that link
abbrev pub InLinked : (List AsmRec → Type 0) → Type 0
InLinked P = (inputs : List AsmRec) → link_fault_of inputs ≡ None → P (assemblies inputs)

-- ---- bases

abbrev pub BasesWhole : List AsmRec → Type 0
BasesWhole recs = (n : ℕ) (e : TypeExpr) → type_count recs ≤ n → bases_from recs n e ≡ with_bases recs e

-- the definitions of a type and its bases, each once
abbrev pub BasesOnce : List AsmRec → Type 0
BasesOnce recs = (e : TypeExpr) → IsDistinct same_row (flat_map (λ b. listed (home_of recs b)) (with_bases recs e))

-- ---- interfaces

abbrev pub ImpliedWhole : List AsmRec → Type 0
ImpliedWhole recs = (n : ℕ) (e : TypeExpr) → type_count recs ≤ n → led_to same_expr (interfaces_of recs) n (e ∷ []) ≡ implied recs e

-- ---- slots

-- Runs of methods follow one another: each begins at a row from 1, and ends where the next one begins (II.22.37).
pub record AreMethodRuns (rec : AsmRec) : Type 0 where
  pub begins : (k : ℕ) (t : TypeDefRow) → slice_get rec.type_def k ≡ Some t → 1 ≤ t.method_list_first
  pub never_falls : (k : ℕ) (t : TypeDefRow) → slice_get rec.type_def k ≡ Some t → t.method_list_first ≤ t.method_list_end
  pub meets : (k : ℕ) (t next : TypeDefRow) → slice_get rec.type_def k ≡ Some t → slice_get rec.type_def (suc k) ≡ Some next → t.method_list_end ≡ next.method_list_first

-- a property holds of the world of all inputs that link and whose runs of methods follow one another, as those of files do
abbrev pub InRuns : (List AsmRec → Type 0) → Type 0
InRuns P =
    (inputs : List AsmRec) → link_fault_of inputs ≡ None → ((a : ℕ) (rec : AsmRec) → slice_get inputs a ≡ Some rec → AreMethodRuns rec) → P (assemblies inputs)

abbrev pub SlotsWhole : List AsmRec → Type 0
SlotsWhole recs = (n : ℕ) (at : RowAt) → suc (type_count recs) ≤ n → slot_within recs n at ≡ slot_of recs at

-- a virtual method has a slot
abbrev pub SlotsFound : List AsmRec → Type 0
SlotsFound recs = (at : RowAt) (m : MethodDefRow) → method_row_at recs at ≡ Some m → is_virtual m ≡ true → (slot : RowAt) × (slot_of recs at ≡ Some slot)

-- the slot of a slot is itself, in any world
abbrev pub SlotsOfSlots : Type 0
SlotsOfSlots = (recs : List AsmRec) (at slot : RowAt) → slot_of recs at ≡ Some slot → slot_of recs slot ≡ Some slot

-- ---- dispatch

-- what one of a type's bases answers for a class slot: its first method with that slot, or the body that one of its MethodImpl
-- rows has for it
pub record Answers (recs : List AsmRec) (t : TypeExpr) (slot m : RowAt) : Type 0 where
  pub of : TypeExpr
  pub is_base : Contains (with_bases recs t) of
  pub answers : ((slot_in recs slot of ≡ Some m) × (slot_of recs m ≡ Some slot)) ⊎ (impl_in recs (declares_slot recs slot) of ≡ Some m)

-- in any world
abbrev pub DispatchAnswers : Type 0
DispatchAnswers = (recs : List AsmRec) (t : TypeExpr) (slot m : RowAt) → class_dispatch recs t slot ≡ Some m → Answers recs t slot m

-- a method that a type has for a class slot is in the run of that type's definition
abbrev pub OwnsAnswers : List AsmRec → Type 0
OwnsAnswers recs = (e : TypeExpr) (slot m : RowAt) → slot_in recs slot e ≡ Some m → type_of_method recs m ≡ home_of recs e

-- ---- names

-- a TypeDef token, of a row that is there
abbrev pub NamesType : AsmRec → ℕ → Type 0
NamesType rec token = (k : ℕ) × (index_in TYPE_DEF token ≡ Some k) × (k < length rec.type_def)

-- the rows of NestedClass name types that are there, as those of files do (II.22.32)
abbrev pub NestsTypes : AsmRec → Type 0
NestsTypes rec =
    (k : ℕ) (row : NestedClassRow) → slice_get rec.nested_class k ≡ Some row → NamesType rec row.nested_class × NamesType rec row.enclosing_class

-- what is said of a type by its row, and by what is said of its encloser: over at most n enclosers
pub record ByEncloser (said : AsmRec → ℕ → ℕ → List ℕ) (step : (ℕ → List ℕ) → Option ℕ → Option TypeDefRow → List ℕ) : Type 0 where
  pub none : (rec : AsmRec) (k : ℕ) → said rec 0 k ≡ []
  pub next : (rec : AsmRec) (n k : ℕ) → said rec (suc n) k ≡ step (said rec n) (encloser rec k) (slice_get rec.type_def k)
  pub same : (f g : ℕ → List ℕ) (o : Option ℕ) (t : Option TypeDefRow) → ((j : ℕ) → o ≡ Some j → f j ≡ g j) → step f o t ≡ step g o t
  pub empty : (f : ℕ → List ℕ) → step f None None ≡ []

-- it needs no more enclosers than its assembly has types
abbrev pub SaidWhole : (AsmRec → ℕ → ℕ → List ℕ) → List AsmRec → Type 0
SaidWhole said recs =
    (a n k : ℕ) (rec : AsmRec) → slice_get recs a ≡ Some rec → NestsTypes rec → k < length rec.type_def → length rec.type_def ≤ n
    → said rec n k ≡ said rec (length rec.type_def) k

-- the name of a type with those of its enclosers, and its namespace
abbrev pub NamesWhole : List AsmRec → Type 0
NamesWhole = SaidWhole row_name

abbrev pub SpacesWhole : List AsmRec → Type 0
SpacesWhole = SaidWhole row_space
