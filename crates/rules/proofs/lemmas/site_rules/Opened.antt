-- Everything that an example computes with, opened by one name.
use Rattle.il_base.specs.world_model.Worlds as Worlds
use Rattle.rules.specs.link_rules.Members as LinkMembers
use Rattle.rules.specs.mark_rules.Annotations as Annotations
use Rattle.rules.specs.flow_rules.Moves as Moves
use Rattle.rules.specs.site_rules.Flags as Flags
use Rattle.rules.specs.site_rules.Kinds as Kinds
use Rattle.rules.specs.site_rules.Fails as Fails
use Rattle.rules.specs.site_rules.Values as Values
use Rattle.rules.specs.site_rules.Arguments as Arguments
use Rattle.rules.specs.site_rules.Bodies as Bodies

unfoldable pub opened : Unit {0}
unfolding Worlds.rows_before Worlds.prims Worlds.prim_type LinkMembers.home_from Annotations.kinds_at Flags.flags_of Moves.sources_of Kinds.parameter_kinds Kinds.return_kinds Kinds.field_kinds Kinds.type_kinds Kinds.own_method_kinds Kinds.promised Kinds.is_core_member Kinds.is_type_search Kinds.is_creation Kinds.is_name_search Kinds.has_one_parameter Kinds.searched_kinds Kinds.made_kinds Fails.is_string Fails.is_text_slot Fails.fails Values.carried_to Values.value_from_top Values.anything_at Values.known_names Arguments.type_argument_sites Arguments.sites_of_parts Bodies.of_arguments Bodies.of_member
opened = tt
