-- How many generic parameters each token owns (II.22.20).
use Rattle.std.specs.Prelude.{◌≡◌, ℕ, nat_eq, unwrap_or}
use Rattle.std.specs.List.{count_by}
use Rattle.std.specs.HashMap.{get}
use Rattle.il_base.specs.declared.world_model.record.AsmRec.{AsmRec}
use Rattle.rules.specs.link_rules.Members.{is_param_of}
use Rattle.type_tables.specs.declared.member_search.params.ParamCounts.{ParamCounts}

abbrev pub AreParamCounts : AsmRec → ParamCounts → Type 0
AreParamCounts rec params = (token : ℕ) → unwrap_or (get nat_eq params.counts token) 0 ≡ count_by (is_param_of token) rec.generic_param
