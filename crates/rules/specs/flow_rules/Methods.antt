-- A method with a body, as the evaluation stack sees it (II.23.2.1, II.23.2.6, II.25.4).
use Rattle.std.specs.Prelude.{ℕ, List, length, Option, Some, None, slice_get, ◌==◌, Bool, false, not, if◌then◌else◌}
use Rattle.std.specs.Option.{option_and_then, option_map}
use Rattle.il_base.specs.declared.ids.MethodId.{MethodId}
use Rattle.il_base.specs.declared.body.Body.{Body}
use Rattle.il_base.specs.declared.sig.Sig.{Sig, fold-Sig}
use Rattle.il_base.specs.declared.sig.Sig.TheOpen.{Sig-F}
use Rattle.il_base.specs.declared.sig.MethodSig.{MethodSig}
use Rattle.il_base.specs.declared.element.TheConstants.{VOID}
use Rattle.il_base.specs.declared.table.TheConstants.{STAND_ALONE_SIG, TYPE_SPEC}
use Rattle.il_base.specs.declared.world_model.known.Known.{Known}
use Rattle.il_base.specs.declared.world_model.known.Known.TheVariants.{Good, Bad}
use Rattle.il_base.specs.declared.world_model.expr.TypeExpr.{TypeExpr, fold-TypeExpr}
use Rattle.il_base.specs.declared.world_model.expr.TypeExpr.TheOpen.{TypeExpr-F}
use Rattle.il_base.specs.declared.world_model.expr.MethodUse.{MethodUse}
use Rattle.il_base.specs.declared.world_model.members.MethodDefRow.{MethodDefRow}
use Rattle.il_base.specs.declared.world_model.members.StandAloneSigRow.{StandAloneSigRow}
use Rattle.il_base.specs.declared.world_model.record.AsmRec.{AsmRec}
use Rattle.il_base.specs.world_model.Tokens.{table_of, index_in}
use Rattle.rules.specs.declared.link_rules.row_at.RowAt.{RowAt}
use Rattle.rules.specs.link_rules.Signatures.{token_type}
use Rattle.rules.specs.type_rules.Slots.{method_home}
use Rattle.rules.specs.type_rules.Rows.{rec_at}
use Rattle.rules.specs.declared.flow_rules.called.Called.{Called}

-- ---- signatures

abbrev pub void_layer : TypeExpr-F Bool → Bool
void_layer (TypeExpr-F.Prim n) = n == VOID
void_layer (TypeExpr-F.Mod required by x) = x
void_layer _ = false

-- `void`, modifiers aside
unfoldable pub is_void : TypeExpr → Bool
is_void = fold-TypeExpr Bool void_layer

abbrev pub is_void_named : Known TypeExpr → Bool
is_void_named (Good e) = is_void e
is_void_named (Bad why) = false

-- whether a TypeDef or TypeRef token of an assembly names `void`; a TypeSpec token names nothing in a signature
abbrev pub names_void : List AsmRec → ℕ → AsmRec → ℕ → Bool
names_void recs a rec token = if table_of token == TYPE_SPEC then false else is_void_named (token_type recs a rec token)

abbrev pub void_sig_layer : List AsmRec → ℕ → AsmRec → Sig-F Bool → Bool
void_sig_layer recs a rec (Sig-F.Prim n) = n == VOID
void_sig_layer recs a rec (Sig-F.Named value token) = names_void recs a rec token
void_sig_layer recs a rec (Sig-F.Mod required token x) = x
void_sig_layer recs a rec (Sig-F.Pinned x) = x
void_sig_layer recs a rec _ = false

-- whether a signature of an assembly is that of `void`, modifiers aside; a type that isn't there isn't `void`
unfoldable pub is_void_sig : List AsmRec → ℕ → AsmRec → Sig → Bool
is_void_sig recs a rec = fold-Sig Bool (void_sig_layer recs a rec)

abbrev pub called_of : List AsmRec → ℕ → AsmRec → MethodSig → Called
called_of recs a rec s = record { this = s.this; params = length s.params; returns = not (is_void_sig recs a rec s.ret) }

abbrev pub called_by : List AsmRec → ℕ → AsmRec → Known MethodSig → Option Called
called_by recs a rec (Good s) = Some (called_of recs a rec s)
called_by recs a rec (Bad why) = None

abbrev pub called_row : List AsmRec → RowAt → AsmRec → Option Called
called_row recs at rec = option_and_then (λ (m : MethodDefRow). called_by recs at.asm rec m.signature) (slice_get rec.method_def at.row)

-- a method's own signature, whether the types that it names are there or not; None where it has no reading
unfoldable pub called_at : List AsmRec → RowAt → Option Called
called_at recs at = option_and_then (called_row recs at) (rec_at recs at)

abbrev pub called_in : List AsmRec → MethodUse → Option Called
called_in recs u = option_and_then (called_at recs) (method_home recs u.method)

-- ---- locals

abbrev pub known_length : Known (List Sig) → Option ℕ
known_length (Good sigs) = Some (length sigs)
known_length (Bad why) = None

abbrev pub locals_row : Option StandAloneSigRow → Option ℕ
locals_row None = None
locals_row (Some row) = known_length row.signature

-- how many locals a body has; a token of 0 is none
unfoldable pub locals_in : AsmRec → ℕ → Option ℕ
locals_in rec token = if token == 0 then Some 0 else locals_row (option_and_then (slice_get rec.stand_alone_sig) (index_in STAND_ALONE_SIG token))

-- ---- bodies

-- a method with a body: its assembly from 0, its own signature, how many locals it has
pub record Setting : Type 0 where
  pub asm : ℕ
  pub rec : AsmRec
  pub own : Called
  pub locals : ℕ
  pub body : Body

abbrev pub with_locals : ℕ → AsmRec → Called → Body → ℕ → Setting
with_locals asm rec own b locals = record { asm = asm; rec = rec; own = own; locals = locals; body = b }

abbrev pub with_body : List AsmRec → RowAt → AsmRec → Option (Known Body) → Option Setting
with_body recs at rec None = None
with_body recs at rec (Some (Bad why)) = None
with_body recs at rec (Some (Good b)) = option_and_then (λ own. option_map (with_locals at.asm rec own b) (locals_in rec b.locals)) (called_at recs at)

abbrev pub setting_in : List AsmRec → RowAt → AsmRec → Option Setting
setting_in recs at rec = option_and_then (λ (m : MethodDefRow). with_body recs at rec m.body) (slice_get rec.method_def at.row)

abbrev pub setting_at : List AsmRec → RowAt → Option Setting
setting_at recs at = option_and_then (setting_in recs at) (rec_at recs at)

-- None for a method whose body, signature or locals have no reading, or that isn't there
unfoldable pub setting_of : List AsmRec → MethodId → Option Setting
setting_of recs m = option_and_then (setting_at recs) (method_home recs m)
