-- The signatures of members of an assembly, by their rows.
use Rattle.std.specs.Prelude.{◌≡◌, ℕ, List, map, Some, slice_get}
use Rattle.std.specs.List.{flat_map}
use Rattle.il_base.specs.declared.sig.Sig.{Sig}
use Rattle.il_base.specs.declared.sig.MethodSig.{MethodSig}
use Rattle.il_base.specs.declared.world_model.members.FieldRow.{FieldRow}
use Rattle.il_base.specs.declared.world_model.members.MethodDefRow.{MethodDefRow}
use Rattle.il_base.specs.declared.world_model.record.AsmRec.{AsmRec}
use Rattle.rules.specs.link_rules.Cycles.{listed}
use Rattle.rules.specs.merge_rules.Refs.{known_list}
use Rattle.merge_plan.specs.declared.moved_parts.tokens.NewTokens.{NewTokens}
use Rattle.merge_plan.specs.moved_parts.Moves.{sig_by, method_sig_by}
use Rattle.token_keys.specs.signature_rows.Laws.{AreNumbers}

-- the numbers of the types that the tokens of each assembly name
abbrev pub AreNumbersOfEach : List AsmRec → List NewTokens → Type 0
AreNumbersOfEach recs all = (a : ℕ) (rec : AsmRec) (t : NewTokens) → slice_get recs a ≡ Some rec → slice_get all a ≡ Some t → AreNumbers recs a rec t

-- with these numbers in place of tokens
abbrev pub sigs_by : NewTokens → AsmRec → ℕ → List MethodSig
sigs_by t rec k = flat_map (λ (m : MethodDefRow). map (method_sig_by t) (known_list m.signature)) (listed (slice_get rec.method_def k))

abbrev pub field_sigs_by : NewTokens → AsmRec → ℕ → List Sig
field_sigs_by t rec k = flat_map (λ (f : FieldRow). map (sig_by t) (known_list f.signature)) (listed (slice_get rec.field k))
