-- The forwarders of an assembly by name.
use Rattle.std.specs.Prelude.{◌≡◌, ℕ, Option}
use Rattle.std.specs.HashMap.{HashMap, get}
use Rattle.std.specs.Option.{option_and_then}
use Rattle.il_base.specs.declared.world_model.record.AsmRec.{AsmRec}
use Rattle.rules.specs.link_rules.Types.{forwarder_in}
use Rattle.resolver.specs.declared.type_links.names.TypeName.{TypeName}
use Rattle.resolver.specs.type_links.Names.{same_type_name}

abbrev pub inner : Option (Option ℕ) → Option ℕ
inner o = option_and_then (λ x. x) o

abbrev pub AreForwarders : {S : Type 0} → AsmRec → HashMap TypeName (Option ℕ) S → Type 0
AreForwarders rec rows = (q : TypeName) → inner (get same_type_name rows q) ≡ forwarder_in q.namespace.now q.name.now rec.exported_type
