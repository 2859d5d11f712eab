-- The rows of types by name.
use Rattle.std.specs.Prelude.{◌≡◌, ℕ, nat_eq, ◌&&◌, Bool}
use Rattle.std.specs.HashMap.{HashMap, get}
use Rattle.std.specs.Option.{option_eq}
use Rattle.std.specs.Cmp.Lexicographic.{pointwise}
use Rattle.il_base.specs.declared.world_model.record.AsmRec.{AsmRec}
use Rattle.rules.specs.link_rules.Types.{type_in}
use Rattle.resolver.specs.declared.type_links.names.TypeName.{TypeName}
use Rattle.resolver.specs.declared.type_links.names.TypeKey.{TypeKey}

abbrev pub same_type_name : TypeName → TypeName → Bool
same_type_name x y = pointwise nat_eq x.namespace.now y.namespace.now && pointwise nat_eq x.name.now y.name.now

abbrev pub same_key : TypeKey → TypeKey → Bool
same_key x y = option_eq nat_eq x.around y.around && same_type_name x.name y.name

abbrev pub AreTypeRows : {S : Type 0} → AsmRec → HashMap TypeKey ℕ S → Type 0
AreTypeRows rec rows = (q : TypeKey) → get same_key rows q ≡ type_in rec q.around q.name.namespace.now q.name.name.now
