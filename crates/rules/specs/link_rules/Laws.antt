-- The law of type links: they give what each token names, and so what each signature names.
use Rattle.std.specs.Prelude.{◌≡◌, ℕ, List, Some, slice_get}
use Rattle.il_base.specs.declared.sig.Sig.{Sig}
use Rattle.il_base.specs.declared.sig.MethodSig.{MethodSig}
use Rattle.il_base.specs.declared.world_model.record.AsmRec.{AsmRec}
use Rattle.il_base.specs.declared.world_model.world.TypeLink.{TypeLink}
use Rattle.il_base.specs.world_model.Worlds.{known_or, type_link_at, names_by, sig_expr}
use Rattle.rules.specs.link_rules.Signatures.{names_at, token_type, method_type}
use Rattle.rules.specs.link_rules.Linked.{types_of, links_from}

-- the links of all type tokens of these assemblies
abbrev pub AreTypeLinks : List AsmRec → List TypeLink → Type 0
AreTypeLinks all links = links ≡ links_from (types_of all) 0 all

-- the links name the same type as the rules for each token; a token of a row that isn't there names nothing by either
abbrev pub TellTokens : List AsmRec → List TypeLink → Type 0
TellTokens all links =
    (a : ℕ) (rec : AsmRec) → slice_get all a ≡ Some rec → (token : ℕ) → known_or (type_link_at all links a token) ≡ token_type all a rec token

abbrev pub TellSignatures : List AsmRec → List TypeLink → Type 0
TellSignatures all links =
    (a : ℕ) (rec : AsmRec) → slice_get all a ≡ Some rec → (s : Sig) → sig_expr (names_by all links a) s ≡ sig_expr (names_at all a rec) s

abbrev pub TellMethods : List AsmRec → List TypeLink → Type 0
TellMethods all links =
    (a : ℕ) (rec : AsmRec) → slice_get all a ≡ Some rec → (s : MethodSig) → method_type (names_by all links a) s ≡ method_type (names_at all a rec) s

-- the law, for any assemblies and their type links
abbrev pub LinksTell : Type 0
LinksTell = (all : List AsmRec) (links : List TypeLink) → AreTypeLinks all links → TellTokens all links × TellSignatures all links × TellMethods all links
