-- The keys of rows, as lists of numbers, by the links of type tokens.
use Rattle.std.specs.Prelude.{ℕ, suc, List, ◌∷◌, ◌++◌, length, map, Option, Some, None, if◌then◌else◌}
use Rattle.std.specs.List.{flat_map, position_from}
use Rattle.std.specs.Option.{option_map}
use Rattle.il_base.specs.declared.sig.Sig.{Sig}
use Rattle.il_base.specs.declared.sig.MethodSig.{MethodSig}
use Rattle.il_base.specs.declared.world_model.known.Known.{Known}
use Rattle.il_base.specs.declared.world_model.known.Known.TheVariants.{Good, Bad}
use Rattle.il_base.specs.declared.world_model.types.TypeDefRow.{TypeDefRow}
use Rattle.il_base.specs.declared.world_model.members.FieldRow.{FieldRow}
use Rattle.il_base.specs.declared.world_model.members.MethodDefRow.{MethodDefRow}
use Rattle.il_base.specs.declared.world_model.record.AsmRec.{AsmRec}
use Rattle.il_base.specs.declared.world_model.world.TypeLink.{TypeLink}
use Rattle.il_base.specs.world_model.Worlds.{known_then, all_known, sig_expr, names_by}
use Rattle.rules.specs.link_rules.Types.{encloser}
use Rattle.rules.specs.link_rules.Signatures.{method_type}
use Rattle.rules.specs.link_rules.Cycles.{listed}
use Rattle.rules.specs.link_rules.Members.{is_compiler_controlled}
use Rattle.rules.specs.link_rules.Faults.{numbered}
use Rattle.link_faults.specs.declared.owners.Member.{Member}
use Rattle.link_faults.specs.declared.owners.Member.TheVariants as member
use Rattle.link_faults.specs.Owners.{owns}
use Rattle.link_faults.specs.Codes.{bit, type_code, method_code, with_text}
use Rattle.link_faults.specs.Values.{field_type}

-- ---- types

abbrev pub code_of_type : List ℕ → TypeDefRow → List ℕ
code_of_type around t = with_text t.namespace (with_text t.name around)

abbrev pub type_codes : AsmRec → List (Option (List ℕ))
type_codes rec = numbered (λ k t. Some (code_of_type (listed (encloser rec k)) t)) 0 rec.type_def

-- ---- members: one without an owner or a good signature, or a compiler-controlled one, has no key

abbrev pub code_of_member : List ℕ → Option ℕ → Option (List ℕ) → Option (List ℕ)
code_of_member name None code = None
code_of_member name (Some owner) None = None
code_of_member name (Some owner) (Some code) = Some (owner ∷ with_text name code)

abbrev pub good : {A : Type 0} → Known A → Option A
good (Good x) = Some x
good (Bad why) = None

abbrev pub owner_in : Member → AsmRec → ℕ → Option ℕ
owner_in kind rec k = position_from (owns kind (suc k)) 0 rec.type_def

abbrev pub code_of_field : List AsmRec → List TypeLink → ℕ → Option ℕ → FieldRow → Option (List ℕ)
code_of_field all links a owner f =
    if is_compiler_controlled f.flags then None else code_of_member f.name owner (option_map type_code (field_type all links a f.signature))

abbrev pub field_codes : List AsmRec → List TypeLink → ℕ → AsmRec → List (Option (List ℕ))
field_codes all links a rec = numbered (λ k f. code_of_field all links a (owner_in member.Field rec k) f) 0 rec.field

-- the numbers of the types that some signatures name, where they are all good
abbrev pub codes_of_types : List AsmRec → List TypeLink → ℕ → List Sig → Option (List ℕ)
codes_of_types all links a types = option_map (flat_map type_code) (good (all_known (map (sig_expr (names_by all links a)) types)))

-- the key of a method's signature, by those of its return and of its parameters
abbrev pub code_of_parts : MethodSig → Option (List ℕ) → Option (List ℕ) → Option (List ℕ)
code_of_parts s None params = None
code_of_parts s (Some ret) None = None
code_of_parts s (Some ret) (Some params) = Some (bit s.this ∷ s.generic ∷ length s.params ∷ ret ++ params)

abbrev pub code_of_signature : List AsmRec → List TypeLink → ℕ → MethodSig → Option (List ℕ)
code_of_signature all links a s = option_map method_code (good (method_type (names_by all links a) s))

abbrev pub code_of_known : List AsmRec → List TypeLink → ℕ → Known MethodSig → Option (List ℕ)
code_of_known all links a k = option_map method_code (good (known_then (method_type (names_by all links a)) k))

abbrev pub code_of_method : List AsmRec → List TypeLink → ℕ → Option ℕ → MethodDefRow → Option (List ℕ)
code_of_method all links a owner m =
    if is_compiler_controlled m.flags then None else code_of_member m.name owner (code_of_known all links a m.signature)

abbrev pub method_codes : List AsmRec → List TypeLink → ℕ → AsmRec → List (Option (List ℕ))
method_codes all links a rec = numbered (λ k m. code_of_method all links a (owner_in member.Method rec k) m) 0 rec.method_def
