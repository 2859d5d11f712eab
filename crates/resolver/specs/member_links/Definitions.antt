-- Members with the types that have them.
use Rattle.std.specs.Prelude.{ℕ, List, Option}
use Rattle.std.specs.Option.{option_map}
use Rattle.il_base.specs.declared.world_model.record.AsmRec.{AsmRec}
use Rattle.rules.specs.link_rules.Types.{at_row}
use Rattle.rules.specs.link_rules.Members.{Found, own_type}
use Rattle.resolver.specs.declared.member_links.definitions.Definitions.{Definitions}
use Rattle.type_tables.specs.member_search.Owners.{AreMethodOwners, AreFieldOwners}
use Rattle.type_tables.specs.member_search.Params.{AreParamCounts}

-- a member of an assembly in the type of this row
abbrev pub with_owner : List AsmRec → ℕ → AsmRec → ℕ → Option ℕ → Option Found
with_owner recs a rec k owner = option_map (λ t. record { at = at_row a k; owner = own_type recs rec (at_row a t) }) owner

pub record OwnMethods (rec : AsmRec) (d : Definitions) : Type 0 where
  pub owners : AreMethodOwners rec d.owners.items
  pub params : AreParamCounts rec d.params

pub record OwnFields (rec : AsmRec) (d : Definitions) : Type 0 where
  pub owners : AreFieldOwners rec d.owners.items
  pub params : AreParamCounts rec d.params
