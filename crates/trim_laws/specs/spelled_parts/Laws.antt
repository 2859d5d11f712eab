-- What a merge leaves can be written: each signature (II.23.2) and body (II.25.4) of it has a spelling, where those of the inputs
-- have.
use Rattle.std.specs.Prelude.{◌≡◌, ◌<◌, ℕ, List, [], ◌∷◌, length, Some, Bool, slice_get, Contains}
use Rattle.std.specs.List.{flat_map}
use Rattle.il_base.specs.declared.sig.Sig.{Sig}
use Rattle.il_base.specs.declared.sig.MethodSig.{MethodSig}
use Rattle.il_base.specs.blob_grammar.Laws.{AreBytes}
use Rattle.il_base.specs.blob_grammar.Values.{IsTypeToken}
use Rattle.il_base.specs.declared.world_model.known.Known.{Known}
use Rattle.il_base.specs.declared.world_model.known.Known.TheVariants.{Good, Bad}
use Rattle.il_base.specs.declared.world_model.expr.MemberSig.{MemberSig}
use Rattle.il_base.specs.declared.world_model.expr.MemberSig.TheVariants as member
use Rattle.il_base.specs.declared.world_model.record.AsmRec.{AsmRec}
use Rattle.il_base.specs.world_model.Records.{Each}
use Rattle.rules.specs.record_format.Record.{HasRecord}
use Rattle.il_base.specs.core_table.Record.{core_record}
use Rattle.rules.specs.declared.link_rules.core_type_name.CoreTypeName.{CoreTypeName}
use Rattle.rules.specs.link_rules.CoreNames.{core_with}
use Rattle.record_writer.specs.CanWrite.{CanWrite}
use Rattle.rules.specs.merge_rules.Numbers.{Kept}
use Rattle.rules.specs.merge_rules.Refs.{numbers_in}
use Rattle.rules.specs.merge_rules.Restricted.{restricted}

-- ---- records that have spellings

abbrev pub FilesAreSpelled : Type 0
FilesAreSpelled = (bs : List ℕ) (rec : AsmRec) → AreBytes bs → HasRecord bs rec → CanWrite rec

-- the core library's, with names that only modifiers use (II.7.1.1)
abbrev pub CoreIsSpelled : Type 0
CoreIsSpelled = (names : List CoreTypeName) → CanWrite (core_with core_record names)

-- each of these records
abbrev pub AreSpelled : List AsmRec → Type 0
AreSpelled recs = (a : ℕ) (rec : AsmRec) → slice_get recs a ≡ Some rec → CanWrite rec

-- ---- tokens in signatures (II.23.2.8)

abbrev pub tokens_in : List Sig → List ℕ
tokens_in ss = flat_map numbers_in ss

abbrev pub tokens_of_method : MethodSig → List ℕ
tokens_of_method s = tokens_in (s.ret ∷ s.params)

abbrev pub tokens_of_member : MemberSig → List ℕ
tokens_of_member (member.Method s) = tokens_of_method s
tokens_of_member (member.Field s) = numbers_in s

-- of a signature that has a reading
abbrev pub known_tokens : {A : Type 0} → (A → List ℕ) → Known A → List ℕ
known_tokens tokens (Good x) = tokens x
known_tokens tokens (Bad why) = []

-- of TypeDef, TypeRef or TypeSpec
abbrev pub AreTypeTokens : List ℕ → Type 0
AreTypeTokens tokens = (token : ℕ) → Contains tokens token → IsTypeToken token

-- Each token in a signature of a record is of a type.
pub record SignaturesName (rec : AsmRec) : Type 0 where
  pub fields : Each (λ row. AreTypeTokens (known_tokens numbers_in row.signature)) rec.field
  pub methods : Each (λ row. AreTypeTokens (known_tokens tokens_of_method row.signature)) rec.method_def
  pub members : Each (λ row. AreTypeTokens (known_tokens tokens_of_member row.signature)) rec.member_ref
  pub locals : Each (λ row. AreTypeTokens (known_tokens tokens_in row.signature)) rec.stand_alone_sig
  pub properties : Each (λ row. AreTypeTokens (known_tokens tokens_of_method row.signature)) rec.property
  pub types : Each (λ row. AreTypeTokens (known_tokens numbers_in row.signature)) rec.type_spec
  pub instances : Each (λ row. AreTypeTokens (known_tokens tokens_in row.instantiation)) rec.method_spec

-- ---- what is left

-- A token has three bytes for a row (II.22), so no type has more generic parameters.
abbrev pub FewParams : List AsmRec → Type 0
FewParams recs = (a : ℕ) (rec : AsmRec) → slice_get recs a ≡ Some rec → length rec.generic_param < 16777216

abbrev pub LeftIsSpelled : Type 0
LeftIsSpelled =
    (internal : Bool) (recs : List AsmRec) (kept : Kept) (left : AsmRec) → restricted internal recs kept ≡ Some left → AreSpelled recs → FewParams recs → SignaturesName left → CanWrite left
