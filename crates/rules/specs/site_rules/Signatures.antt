-- Methods by their own signatures, and the types of their slots. The type of a slot is there or not by itself, whatever the other types
-- of the signature are.
use Rattle.std.specs.Prelude.{ℕ, Bool, false, List, Option, Some, None, slice_get}
use Rattle.std.specs.Option.{option_and_then}
use Rattle.il_base.specs.declared.sig.Sig.{Sig}
use Rattle.il_base.specs.declared.sig.MethodSig.{MethodSig}
use Rattle.il_base.specs.declared.world_model.known.Known.{Known}
use Rattle.il_base.specs.declared.world_model.known.Known.TheVariants.{Good, Bad}
use Rattle.il_base.specs.declared.world_model.expr.TypeExpr.{TypeExpr}
use Rattle.il_base.specs.declared.world_model.members.MethodDefRow.{MethodDefRow}
use Rattle.il_base.specs.declared.world_model.record.AsmRec.{AsmRec}
use Rattle.il_base.specs.world_model.Worlds.{sig_expr}
use Rattle.rules.specs.declared.link_rules.row_at.RowAt.{RowAt}
use Rattle.rules.specs.link_rules.Signatures.{names_at}
use Rattle.rules.specs.type_rules.Rows.{rec_at}

-- ---- signatures

abbrev pub good_signature : Known MethodSig → Option MethodSig
good_signature (Good s) = Some s
good_signature (Bad why) = None

-- None where it has no reading, or there is no such row
abbrev pub signature_in : ℕ → AsmRec → Option MethodSig
signature_in row rec = option_and_then (λ (m : MethodDefRow). good_signature m.signature) (slice_get rec.method_def row)

abbrev pub signature_at : List AsmRec → RowAt → Option MethodSig
signature_at recs at = option_and_then (signature_in at.row) (rec_at recs at)

-- ---- slots

-- a parameter, counted from 0 without `this`
abbrev pub parameter_slot : ℕ → MethodSig → Option Sig
parameter_slot n s = slice_get s.params n

abbrev pub return_slot : MethodSig → Option Sig
return_slot s = Some s.ret

abbrev pub good_type : Known TypeExpr → Option TypeExpr
good_type (Good e) = Some e
good_type (Bad why) = None

abbrev pub sig_type : List AsmRec → ℕ → AsmRec → Sig → Option TypeExpr
sig_type recs a rec s = good_type (sig_expr (names_at recs a rec) s)

abbrev pub slot_type_in : List AsmRec → RowAt → (MethodSig → Option Sig) → AsmRec → Option TypeExpr
slot_type_in recs at slot rec = option_and_then (sig_type recs at.asm rec) (option_and_then slot (signature_in at.row rec))

-- the type of a slot of a method; None where there is no such slot, or its type isn't there
abbrev pub slot_type : List AsmRec → RowAt → (MethodSig → Option Sig) → Option TypeExpr
slot_type recs at slot = option_and_then (slot_type_in recs at slot) (rec_at recs at)

-- whether what is there passes a test
abbrev pub any_of : {A : Type 0} → (A → Bool) → Option A → Bool
any_of test None = false
any_of test (Some x) = test x
