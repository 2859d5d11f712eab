-- The rows of signatures over the types of the world, with the new tokens of types by their numbers.
use Rattle.std.specs.Prelude.{List, map}
use Rattle.il_base.specs.declared.sig.Sig.{Sig}
use Rattle.il_base.specs.declared.world_model.known.Known.TheVariants.{Good}
use Rattle.il_base.specs.declared.world_model.types.TypeSpecRow.{TypeSpecRow}
use Rattle.il_base.specs.declared.world_model.members.StandAloneSigRow.{StandAloneSigRow}
use Rattle.merge_plan.specs.declared.moved_parts.tokens.NewTokens.{NewTokens}
use Rattle.merge_plan.specs.moved_parts.Moves.{sig_by}

abbrev pub type_spec_by : NewTokens → Sig → TypeSpecRow
type_spec_by t s = record { signature = Good (sig_by t s) }

abbrev pub type_specs_by : NewTokens → List Sig → List TypeSpecRow
type_specs_by t sigs = map (type_spec_by t) sigs

abbrev pub locals_row_by : NewTokens → List Sig → StandAloneSigRow
locals_row_by t ss = record { signature = Good (map (sig_by t) ss) }

abbrev pub locals_by : NewTokens → List (List Sig) → List StandAloneSigRow
locals_by t lists = map (locals_row_by t) lists
