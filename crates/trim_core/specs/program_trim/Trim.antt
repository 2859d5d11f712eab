-- The answers of a trim of a linked world. `recs` are the records of the world: the inputs, and then the core library. `Marks recs
-- entry roots` are the facts that the program needs, from its entry and the elements of descriptors.
use Rattle.std.specs.Prelude.{◌≡◌, ◌↔◌, ◌⊎◌, ℕ, Bool, false, IsTrue, List, Option, Some, None, Result, Ok, Err}
use Rattle.il_base.specs.declared.ids.Item.{Item}
use Rattle.il_base.specs.declared.ids.TypeId.{TypeId}
use Rattle.il_base.specs.declared.ids.Place.{Place}
use Rattle.il_base.specs.declared.world_model.known.BadKind.{BadKind}
use Rattle.il_base.specs.declared.world_model.known.BadKind.TheVariants.{Unresolved, Outside, Over}
use Rattle.il_base.specs.declared.world_model.record.AsmRec.{AsmRec}
use Rattle.rules.specs.declared.link_rules.row_at.RowAt.{RowAt}
use Rattle.descriptor_file.specs.declared.root.Root.{Root}
use Rattle.rules.specs.mark_rules.Facts.{Fact}
use Rattle.rules.specs.mark_rules.Facts.Fact.{marked, shown}
use Rattle.rules.specs.mark_rules.Marking.{Marks}
use Rattle.rules.specs.mark_rules.BadItems.{Flaw, IsFirstFlaw}
use Rattle.rules.specs.mark_rules.NotYet.{IsFirstNotYet}
use Rattle.rules.specs.mark_rules.KeepList.{keep_list}
use Rattle.mark_numbers.specs.Numbers.{is_there}
use Rattle.rules.specs.merge_rules.Names.{Collision, collision}
use Rattle.rules.specs.merge_rules.Numbers.{Kept, kept_types}
use Rattle.rules.specs.merge_rules.Restricted.{restricted}
use Rattle.merge_plan.specs.Plans.{id_of}
use Rattle.rules.specs.record_layout.Laid.{laid}
use Rattle.rules.specs.record_layout.Limits.{limit_of}
use Rattle.record_writer.specs.CanWrite.{CanWrite}
use Rattle.record_writer.specs.Written.{rows_over}
use Rattle.trim_core.specs.declared.program_trim.answers.ProgramTrim.{ProgramTrim}
use Rattle.trim_core.specs.declared.program_trim.answers.TrimFault.{TrimFault}
use Rattle.trim_core.specs.declared.program_trim.answers.TrimFault.TheVariants as refusal

-- ---- what is kept

-- the set has exactly the items of the world that the program needs
pub record IsKeptSet (recs : List AsmRec) (entry : Option RowAt) (roots : List Root) (kept : Kept) : Type 0 where
  pub exact : (i : Item) → IsTrue (is_there recs (marked i)) → IsTrue (kept i) ↔ Marks recs entry roots (marked i)
  pub absent : (i : Item) → is_there recs (marked i) ≡ false → kept i ≡ false

-- of the types of the world, the test holds for those whose name or identity can be seen when the program runs
abbrev pub IsShownSet : List AsmRec → Option RowAt → List Root → (TypeId → Bool) → Type 0
IsShownSet recs entry roots seen = (t : TypeId) → IsTrue (is_there recs (shown t)) → IsTrue (seen t) ↔ Marks recs entry roots (shown t)

-- ---- names

-- the first collision of two kept types that want one name, None where there is none
pub record IsCollision (recs : List AsmRec) (entry : Option RowAt) (roots : List Root) (kept : Kept) (answer : Option Collision) : Type 0 where
  pub seen : TypeId → Bool
  pub exact : IsShownSet recs entry roots seen
  pub first : collision recs seen (kept_types recs kept) ≡ answer

-- ---- flaws of needed items

abbrev pub flaw_at : Place → BadKind → Flaw
flaw_at place kind = record { asm = place.asm; token = place.token; offset = place.offset; kind = kind }

abbrev pub HasNoFlaw : List AsmRec → Option RowAt → List Root → Type 0
HasNoFlaw recs entry roots = IsFirstFlaw recs entry (Marks recs entry roots) None

-- the first flaw of a needed item is of this kind, at this place
abbrev pub IsFlawedAt : List AsmRec → Option RowAt → List Root → Place → BadKind → Type 0
IsFlawedAt recs entry roots place kind = IsFirstFlaw recs entry (Marks recs entry roots) (Some (flaw_at place kind))

-- ---- reflection

-- marking follows what each needed method names
abbrev pub IsFollowed : List AsmRec → Option RowAt → List Root → Type 0
IsFollowed recs entry roots = IsFirstNotYet recs (Marks recs entry roots) None

-- ---- what is left

-- Where exactly the needed items are kept and none has a flaw, each signature and body of the record that is left has a spelling,
-- unless a table has too many rows.
abbrev pub LeftIsSpelled : List AsmRec → Option RowAt → List Root → Bool → Type 0
LeftIsSpelled recs entry roots internal =
    (kept : Kept) (left : AsmRec) → IsKeptSet recs entry roots kept → HasNoFlaw recs entry roots → restricted internal recs kept ≡ Some left → rows_over left ≡ None → CanWrite left

-- ---- the answers

-- of the facts whose item or type is there, the test holds for those that the rules of marking derive
abbrev pub AreFacts : List AsmRec → Option RowAt → List Root → (Fact → Bool) → Type 0
AreFacts recs entry roots holds = (f : Fact) → IsTrue (is_there recs f) → IsTrue (holds f) ↔ Marks recs entry roots f

-- No needed item has a flaw, no needed method names a member of reflection that marking doesn't follow yet, and no two needed types
-- want one name. The bytes are the file that the record of exactly the needed
-- items is laid out in, where each signature and body has a spelling; it passes no limit. The keep list is that of these items.
pub record TrimmedWorld (recs : List AsmRec) (entry : Option RowAt) (roots : List Root) (internal : Bool) (t : ProgramTrim) : Type 0 where
  pub kept : Kept
  pub exact : IsKeptSet recs entry roots kept
  pub good : HasNoFlaw recs entry roots
  pub followed : IsFollowed recs entry roots
  pub holds : Fact → Bool
  pub facts : AreFacts recs entry roots holds
  pub unique : IsCollision recs entry roots kept None
  pub left : AsmRec
  pub restricted : restricted internal recs kept ≡ Some left
  pub bytes : t.bytes ≡ laid left
  pub can : CanWrite left
  pub within : limit_of left ≡ None
  pub list : t.kept ≡ keep_list recs kept

-- no needed item has a flaw, and the first operand that marking doesn't follow yet is in this file
pub record IsUnfollowed (recs : List AsmRec) (entry : Option RowAt) (roots : List Root) (file : ℕ) : Type 0 where
  pub good : HasNoFlaw recs entry roots
  pub first : IsFirstNotYet recs (Marks recs entry roots) (Some file)

-- these two types want one name
pub record Collides (recs : List AsmRec) (entry : Option RowAt) (roots : List Root) (first second : TypeId) : Type 0 where
  pub kept : Kept
  pub exact : IsKeptSet recs entry roots kept
  pub good : HasNoFlaw recs entry roots
  pub followed : IsFollowed recs entry roots
  pub both : Collision
  pub collides : IsCollision recs entry roots kept (Some both)
  pub first_is : first ≡ id_of recs both.first
  pub second_is : second ≡ id_of recs both.second

-- the trimmed file passes a limit
pub record IsTooLong (recs : List AsmRec) (entry : Option RowAt) (roots : List Root) (internal : Bool) (which found : ℕ) : Type 0 where
  pub kept : Kept
  pub exact : IsKeptSet recs entry roots kept
  pub good : HasNoFlaw recs entry roots
  pub followed : IsFollowed recs entry roots
  pub unique : IsCollision recs entry roots kept None
  pub left : AsmRec
  pub restricted : restricted internal recs kept ≡ Some left
  pub passed : limit_of left ≡ Some (which, found)

-- the first flaw is that of a body that passes a limit
pub record HasLongBody (recs : List AsmRec) (entry : Option RowAt) (roots : List Root) (which found : ℕ) : Type 0 where
  pub place : Place
  pub flawed : IsFlawedAt recs entry roots place (Over which found)

-- the refusals of a trim, each where it is due; want of memory has no cause
abbrev pub RefusesWorld : List AsmRec → Option RowAt → List Root → Bool → TrimFault → Type 0
RefusesWorld recs entry roots internal (refusal.Outside place what) = IsFlawedAt recs entry roots place (Outside what)
RefusesWorld recs entry roots internal (refusal.Unresolved place) = IsFlawedAt recs entry roots place Unresolved
RefusesWorld recs entry roots internal (refusal.NotYet file) = IsUnfollowed recs entry roots file
RefusesWorld recs entry roots internal (refusal.Collision first second) = Collides recs entry roots first second
RefusesWorld recs entry roots internal (refusal.Limit which found) =
    HasLongBody recs entry roots which found ⊎ IsTooLong recs entry roots internal which found
RefusesWorld recs entry roots internal refusal.NoMemory = Unit {0}

abbrev pub TrimsWorld : List AsmRec → Option RowAt → List Root → Bool → Result ProgramTrim TrimFault → Type 0
TrimsWorld recs entry roots internal (Ok t) = TrimmedWorld recs entry roots internal t
TrimsWorld recs entry roots internal (Err e) = RefusesWorld recs entry roots internal e
