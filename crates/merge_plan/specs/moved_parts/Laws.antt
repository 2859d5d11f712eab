-- The law of moving: parts that are moved by the tokens of the output are those that a merge leaves.
use Rattle.std.specs.Prelude.{◌≡◌, ℕ}
use Rattle.il_base.specs.declared.sig.Sig.{Sig}
use Rattle.il_base.specs.declared.sig.MethodSig.{MethodSig}
use Rattle.il_base.specs.declared.body.Body.{Body}
use Rattle.il_base.specs.declared.world_model.known.Known.{Known}
use Rattle.il_base.specs.declared.world_model.members.FieldRow.{FieldRow}
use Rattle.il_base.specs.declared.world_model.members.MethodDefRow.{MethodDefRow}
use Rattle.il_base.specs.declared.world_model.members.PropertyRow.{PropertyRow}
use Rattle.il_base.specs.declared.world_model.members.EventRow.{EventRow}
use Rattle.il_base.specs.declared.world_model.record.AsmRec.{AsmRec}
use Rattle.il_base.specs.world_model.Worlds.{known_map}
use Rattle.rules.specs.merge_rules.Keys.{class_number, modifier_number, world_sig}
use Rattle.rules.specs.merge_rules.Refs.{Output, number_token, new_sig}
use Rattle.rules.specs.merge_rules.Moved.{moved_type, moved_callee, moved_field, moved_locals, moved_text, moved_sig, moved_method_sig, moved_body, moved_field_row, moved_method_row, moved_property_row, moved_event_row}
use Rattle.rules.specs.merge_rules.Rows.{run_at, kept_params}
use Rattle.merge_plan.specs.declared.moved_parts.tokens.NewTokens.{NewTokens}
use Rattle.merge_plan.specs.moved_parts.Moves.{new_token, sig_by, method_sig_by, body_by, field_by, method_by, property_by, event_by}

-- the new tokens are those that the output has for the tokens of an assembly
pub record AreNewTokens (o : Output) (a : ℕ) (rec : AsmRec) (t : NewTokens) : Type 0 where
  pub classes : (token : ℕ) → new_token t.classes token ≡ number_token o (class_number o.recs a rec token)
  pub modifiers : (token : ℕ) → new_token t.modifiers token ≡ number_token o (modifier_number o.recs a rec token)
  pub types : (token : ℕ) → new_token t.types token ≡ moved_type o a rec token
  pub callees : (token : ℕ) → new_token t.callees token ≡ moved_callee o a rec token
  pub fields : (token : ℕ) → new_token t.fields token ≡ moved_field o a rec token
  pub locals : (token : ℕ) → new_token t.locals token ≡ moved_locals o a rec token
  pub texts : (token : ℕ) → new_token t.texts token ≡ moved_text o rec token

pub record AreMoves (o : Output) (a : ℕ) (rec : AsmRec) (t : NewTokens) : Type 0 where
  pub sigs : (s : Sig) → sig_by t s ≡ new_sig o (world_sig o.recs a rec s)
  pub known_sigs : (s : Known Sig) → known_map (sig_by t) s ≡ moved_sig o a rec s
  pub method_sigs : (s : Known MethodSig) → known_map (method_sig_by t) s ≡ moved_method_sig o a rec s
  pub bodies : (b : Body) → body_by t rec b ≡ moved_body o a rec b
  pub field_rows : (k : ℕ) (f : FieldRow) → field_by t f ≡ moved_field_row o (record { asm = a; row = k }) rec f
  pub method_rows : (k : ℕ) (m : MethodDefRow)
      → method_by t rec (run_at (kept_params o.recs o.kept) a m.param_list_first) (run_at (kept_params o.recs o.kept) a m.param_list_end) m
      ≡ moved_method_row o (record { asm = a; row = k }) rec m
  pub property_rows : (k : ℕ) (p : PropertyRow) → property_by t p ≡ moved_property_row o (record { asm = a; row = k }) rec p
  pub event_rows : (k : ℕ) (e : EventRow) → event_by t e ≡ moved_event_row o (record { asm = a; row = k }) rec e

abbrev pub MovesTell : Type 0
MovesTell = (o : Output) (a : ℕ) (rec : AsmRec) (t : NewTokens) → AreNewTokens o a rec t → AreMoves o a rec t
