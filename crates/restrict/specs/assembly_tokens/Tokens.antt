-- What the tokens of an assembly become, over what code holds.
use Rattle.std.specs.Prelude.{ℕ, List, slice_get, ◌==◌, if◌then◌else◌}
use Rattle.std.specs.Option.{option_and_then}
use Rattle.il_base.specs.declared.sig.Sig.{Sig}
use Rattle.il_base.specs.declared.table.TheConstants.{METHOD_SPEC, STAND_ALONE_SIG}
use Rattle.il_base.specs.declared.world_model.members.StandAloneSigRow.{StandAloneSigRow}
use Rattle.il_base.specs.declared.world_model.record.AsmRec.{AsmRec}
use Rattle.il_base.specs.world_model.Tokens.{table_of, index_in}
use Rattle.rules.specs.merge_rules.Keys.{good, class_number, modifier_number, world_sigs, type_key, method_key, field_key, instance_key}
use Rattle.rules.specs.merge_rules.Moved.{token_or_none}
use Rattle.merge_plan.specs.declared.moved_parts.tokens.NewTokens.{NewTokens}
use Rattle.merge_plan.specs.moved_parts.Moves.{new_token}
use Rattle.token_keys.specs.type_numbers.Filled.{IsWhole}
use Rattle.reference_rows.specs.key_tokens.Keys.{AreKeyTokens, key_token_by, method_token_by, field_token_by, instance_token_by, locals_token_by}
use Rattle.reference_rows.specs.number_tokens.Numbers.{AreNumberTokensBy}
use Rattle.token_keys.specs.Keys as held
use Rattle.token_keys.specs.Keys.{IsKeys}
use Rattle.restrict.specs.declared.assembly_tokens.moving.Moving.{Moving}
use Rattle.restrict.specs.declared.assembly_tokens.maps.Stand.{Stand}
use Rattle.restrict.specs.declared.assembly_tokens.maps.Stand.TheVariants.{Class, Modifier, Typed, Callee, Field, Locals}

-- all assemblies of the world, the place of this one, and its record
abbrev pub recs_of : Moving → List AsmRec
recs_of m = held.recs_of m.keys

abbrev pub place_of : Moving → ℕ
place_of m = held.place_of m.keys

abbrev pub rec_of : Moving → AsmRec
rec_of m = held.rec_of m.keys

pub record IsMoving (m : Moving) : Type 0 where
  pub keys : IsKeys m.keys
  pub tokens : AreKeyTokens m.tokens
  pub numbers : AreNumberTokensBy m.tokens.types m.numbers.now

abbrev pub class_by : Moving → ℕ → ℕ
class_by m token = new_token m.numbers.now.classes (class_number (recs_of m) (place_of m) (rec_of m) token)

abbrev pub modifier_by : Moving → ℕ → ℕ
modifier_by m token = new_token m.numbers.now.modifiers (modifier_number (recs_of m) (place_of m) (rec_of m) token)

abbrev pub type_by : Moving → ℕ → ℕ
type_by m token = token_or_none (key_token_by m.tokens) (type_key (recs_of m) (place_of m) (rec_of m) token)

abbrev pub instance_by : Moving → ℕ → ℕ
instance_by m token = token_or_none (instance_token_by m.tokens) (instance_key (recs_of m) (place_of m) (rec_of m) token)

abbrev pub method_by : Moving → ℕ → ℕ
method_by m token = token_or_none (method_token_by m.tokens) (method_key (recs_of m) (place_of m) (rec_of m) token)

abbrev pub callee_by : Moving → ℕ → ℕ
callee_by m token = if table_of token == METHOD_SPEC then instance_by m token else method_by m token

abbrev pub field_by : Moving → ℕ → ℕ
field_by m token = token_or_none (field_token_by m.tokens) (field_key (recs_of m) (place_of m) (rec_of m) token)

abbrev pub locals_row_by : Moving → StandAloneSigRow → ℕ
locals_row_by m row = token_or_none (λ (ss : List Sig). locals_token_by m.tokens (world_sigs (recs_of m) (place_of m) (rec_of m) ss)) (good row.signature)

abbrev pub locals_by : Moving → ℕ → ℕ
locals_by m token = token_or_none (locals_row_by m) (option_and_then (slice_get (rec_of m).stand_alone_sig) (index_in STAND_ALONE_SIG token))

-- by where the token stands
abbrev pub moved_by : Stand → Moving → ℕ → ℕ
moved_by Class m token = class_by m token
moved_by Modifier m token = modifier_by m token
moved_by Typed m token = type_by m token
moved_by Callee m token = callee_by m token
moved_by Field m token = field_by m token
moved_by Locals m token = locals_by m token

-- every token becomes what it is to become; those of texts apart
pub record AreMovedTokens (m : Moving) (t : NewTokens) : Type 0 where
  pub classes : IsWhole (class_by m) t.classes
  pub modifiers : IsWhole (modifier_by m) t.modifiers
  pub types : IsWhole (type_by m) t.types
  pub callees : IsWhole (callee_by m) t.callees
  pub fields : IsWhole (field_by m) t.fields
  pub locals : IsWhole (locals_by m) t.locals
