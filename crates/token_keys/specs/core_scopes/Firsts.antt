-- The first assembly of each type.
use Rattle.std.specs.Prelude.{◌≡◌, nat_eq, ◌&&◌, Bool, List, [], ◌∷◌, Option, Some, None, if◌then◌else◌}
use Rattle.std.specs.HashMap.{HashMap, get}
use Rattle.std.specs.Option.{option_or}
use Rattle.il_base.specs.declared.world_model.assemblies.AssemblyRefRow.{AssemblyRefRow}
use Rattle.il_base.specs.declared.world_model.record.AsmRec.{AsmRec}
use Rattle.rules.specs.declared.link_rules.row_at.RowAt.{RowAt}
use Rattle.rules.specs.link_rules.Cycles.{same_row}
use Rattle.rules.specs.merge_rules.Absent.{bare}
use Rattle.token_keys.specs.declared.core_scopes.scopes.Spot.{Spot}
use Rattle.token_keys.specs.declared.core_scopes.scopes.CoreScopes.{CoreScopes}
use Rattle.token_keys.specs.core_scopes.CoreRefs.{CoreRef, all_core_refs}

abbrev pub same_spot : Spot → Spot → Bool
same_spot x y = nat_eq x.asm y.asm && nat_eq x.row y.row

abbrev pub spot_of : RowAt → Spot
spot_of at = record { asm = at.asm; row = at.row }

-- the assembly of the first reference to a type
abbrev pub scope_at : List CoreRef → RowAt → Option AssemblyRefRow
scope_at [] at = None
scope_at (r ∷ rs) at = if same_row r.typ at then Some (bare r.by) else scope_at rs at

-- the second map has this row under this key, unless the first has one there, and the same under any other
abbrev pub KeepsFirst : {S : Type 0} → HashMap Spot AssemblyRefRow S → Spot → AssemblyRefRow → HashMap Spot AssemblyRefRow S → Type 0
KeepsFirst m spot row n = (q : Spot) → get same_spot n q ≡ option_or (get same_spot m q) (if same_spot spot q then Some row else None)

abbrev pub AreFirsts : {S : Type 0} → List CoreRef → HashMap Spot AssemblyRefRow S → Type 0
AreFirsts refs m = (at : RowAt) → get same_spot m (spot_of at) ≡ scope_at refs at

-- those of all inputs
pub record AreScopes (recs : List AsmRec) (s : CoreScopes) : Type 0 where
  pub firsts : AreFirsts (all_core_refs recs) s.firsts
