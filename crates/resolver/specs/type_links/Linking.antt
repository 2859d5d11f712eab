-- Links that suffice for the signatures of an assembly.
use Rattle.std.specs.Prelude.{◌≡◌, ℕ, List, take}
use Rattle.il_base.specs.declared.sig.Sig.{Sig}
use Rattle.il_base.specs.declared.world_model.record.AsmRec.{AsmRec}
use Rattle.il_base.specs.declared.world_model.world.TypeLink.{TypeLink}
use Rattle.il_base.specs.world_model.Worlds.{sig_expr, names_by}
use Rattle.rules.specs.link_rules.Signatures.{names_at}
use Rattle.rules.specs.link_rules.Linked.{types_of, links_from}

-- by these links each signature of the assembly names the same type as by the rules
abbrev pub TellsSignatures : List AsmRec → List TypeLink → ℕ → AsmRec → Type 0
TellsSignatures all links a rec = (s : Sig) → sig_expr (names_by all links a) s ≡ sig_expr (names_at all a rec) s

-- the links of the assemblies before one
abbrev pub links_before : List AsmRec → ℕ → List TypeLink
links_before all a = links_from (types_of all) 0 (take a all)
