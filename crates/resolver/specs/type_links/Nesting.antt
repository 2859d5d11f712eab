-- The enclosers of an assembly's types, by token.
use Rattle.std.specs.Prelude.{◌≡◌, ℕ, suc, Option, nat_eq}
use Rattle.std.specs.HashMap.{get}
use Rattle.resolver.specs.type_links.Forwarding.{inner}
use Rattle.il_base.specs.declared.table.TheConstants.{TYPE_DEF}
use Rattle.il_base.specs.declared.world_model.record.AsmRec.{AsmRec}
use Rattle.il_base.specs.world_model.Tokens.{token_of}
use Rattle.rules.specs.link_rules.Types.{encloser}
use Rattle.resolver.specs.declared.type_links.enclosers.Enclosers.{Enclosers}

abbrev pub encloser_by : Enclosers → ℕ → Option ℕ
encloser_by e k = inner (get nat_eq e.rows (token_of TYPE_DEF (suc k)))

abbrev pub AreEnclosers : AsmRec → Enclosers → Type 0
AreEnclosers rec e = (k : ℕ) → encloser_by e k ≡ encloser rec k
