-- What is so of the world of inputs whose records keep the rules of II.22, as those of files do (`IsRecord`).
use Rattle.std.specs.Prelude.{◌≡◌, ◌<◌, ◌≤◌, ℕ, List, length, Some, None, slice_get}
use Rattle.il_base.specs.declared.world_model.record.AsmRec.{AsmRec}
use Rattle.il_base.specs.world_model.Records.{IsRecord}
use Rattle.rules.specs.link_rules.Linked.{assemblies, link_fault_of}
use Rattle.rules.specs.type_rules.Texts.{row_name}

-- each of these inputs is such a record
abbrev pub AreRecords : List AsmRec → Type 0
AreRecords inputs = (a : ℕ) (rec : AsmRec) → slice_get inputs a ≡ Some rec → IsRecord rec

-- ---- what each assembly keeps

-- in the world of such inputs, the core library included
abbrev pub EachAssembly : (AsmRec → Type 0) → Type 0
EachAssembly P = (inputs : List AsmRec) → AreRecords inputs → (a : ℕ) (rec : AsmRec) → slice_get (assemblies inputs) a ≡ Some rec → P rec

-- ---- what a linked world keeps

-- a property holds of the world of all such inputs that link
abbrev pub InRecords : (List AsmRec → Type 0) → Type 0
InRecords P = (inputs : List AsmRec) → link_fault_of inputs ≡ None → AreRecords inputs → P (assemblies inputs)

-- no bound above the number of an assembly's types finds a further encloser in the name of a type
abbrev pub NamesWithin : List AsmRec → Type 0
NamesWithin recs =
    (a n k : ℕ) (rec : AsmRec) → slice_get recs a ≡ Some rec → k < length rec.type_def → length rec.type_def ≤ n
    → row_name rec n k ≡ row_name rec (length rec.type_def) k
