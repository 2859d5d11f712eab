-- Assemblies with the links of their type tokens.
use Rattle.std.specs.Prelude.{◌≡◌, Some, slice_get}
use Rattle.std.specs.List.{AllZip}
use Rattle.rules.specs.link_rules.Laws.{TellTokens, TellSignatures, TellMethods}
use Rattle.type_tables.specs.declared.member_search.linked.Linked.{Linked}
use Rattle.type_tables.specs.declared.member_search.linked.Scope.{Scope}
use Rattle.type_tables.specs.member_search.Names.{AreNames}

-- the links name what tokens and signatures of the assemblies name by the rules, and each assembly has its names
pub record IsLinked (w : Linked) : Type 0 where
  pub tokens : TellTokens w.all.now w.links.now
  pub signatures : TellSignatures w.all.now w.links.now
  pub methods : TellMethods w.all.now w.links.now
  pub names : AllZip AreNames w.all.now w.names.now

-- the assembly of a scope is the one in its place
pub record IsScope (s : Scope) : Type 0 where
  pub linked : IsLinked s.linked
  pub here : slice_get s.linked.all.now s.asm ≡ Some s.rec.now
