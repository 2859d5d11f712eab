-- A type and its enclosers, from inside outwards.
use Rattle.std.specs.Prelude.{ℕ, List, ◌++◌}
use Rattle.il_base.specs.declared.world_model.record.AsmRec.{AsmRec}
use Rattle.type_names.specs.Chains.{outer_name, inner_names}
use Rattle.keep_lists.specs.declared.chain.Chain.{Chain}

abbrev pub chain_name : AsmRec → Chain → List ℕ
chain_name rec c = outer_name rec c.outermost ++ inner_names rec c.inner
