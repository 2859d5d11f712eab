-- Members that are found in a type or its bases, methods and fields alike.
use Rattle.std.specs.Prelude.{ℕ, List, Option}
use Rattle.std.specs.Option.{option_map}
use Rattle.il_base.specs.declared.world_model.expr.TypeExpr.{TypeExpr}
use Rattle.il_base.specs.declared.world_model.record.AsmRec.{AsmRec}
use Rattle.rules.specs.link_rules.Members as members
use Rattle.rules.specs.link_rules.Members.{with_bases, open_parent, closed, search}
use Rattle.type_tables.specs.declared.member_search.found.Found.{Found}
use Rattle.type_tables.specs.declared.member_search.members.Wanted.{Wanted}
use Rattle.type_tables.specs.member_search.Wanted.{look_for}

abbrev pub told : Found → members.Found
told x = record { at = x.at; owner = x.owner }

-- the method or the field that a search finds, as `find_method` or `find_field` has it
abbrev pub find_member : List AsmRec → TypeExpr → List ℕ → Wanted → Option members.Found
find_member recs parent name wanted = option_map (closed parent) (search (look_for recs name wanted) (with_bases recs (open_parent recs parent)))
