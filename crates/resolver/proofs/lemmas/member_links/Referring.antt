-- A method that a reference names is what the search of members looks for.
use Rattle.std.proofs.Common.{◌≡◌, ℕ, List, Option, ap}
use Rattle.std.specs.Prelude.{not}
use Rattle.std.specs.Option.{option_map}
use Rattle.il_base.specs.declared.world_model.expr.TypeExpr.{TypeExpr}
use Rattle.il_base.specs.declared.world_model.record.AsmRec.{AsmRec}
use Rattle.il_base.specs.world_model.Core.{same_name}
use Rattle.il_base.specs.world_model.Worlds.{known_then}
use Rattle.rules.specs.declared.link_rules.row_at.RowAt.{RowAt}
use Rattle.rules.specs.declared.link_rules.member_type.MethodType.{MethodType}
use Rattle.rules.specs.link_rules.Types.{at_row}
use Rattle.rules.specs.link_rules.Signatures.{names_at, method_type}
use Rattle.rules.specs.link_rules.Members.{args_of, in_definition, find_in_run, is_compiler_controlled, is_method_type, method_of_type, with_bases, open_parent, closed, search, find_method}
use Rattle.type_tables.specs.declared.member_search.members.Wanted.TheVariants.{Method}
use Rattle.type_tables.specs.declared.member_search.members.Among.TheVariants.{Named}
use Rattle.type_tables.specs.member_search.Found.{find_member}
use Rattle.type_tables.specs.member_search.Wanted.{look_for, member_in}
use Rattle.type_tables.proofs.lemmas.member_search.Running.{grouped}

module _ (recs : List AsmRec) (name : List ℕ) (wanted : MethodType) where
  looks : (e : TypeExpr) → look_for recs name (Method Named wanted) e ≡ method_of_type recs name wanted e
  unfolding look_for member_in method_of_type
  looks e = λ i.
      in_definition recs
      (λ at rec row. option_map (at_row at.asm)
      (find_in_run (λ m. grouped (same_name m.name name) (not (is_compiler_controlled m.flags)) (is_method_type (args_of e) wanted (known_then (method_type (names_at recs at.asm rec)) m.signature)) i)
      row.method_list_first row.method_list_end rec.method_def))
      e

  pub named_method : (parent : TypeExpr) → find_member recs parent name (Method Named wanted) ≡ find_method recs parent name wanted
  unfolding find_method
  named_method parent = ap (λ (look : TypeExpr → Option RowAt). option_map (closed parent) (search look (with_bases recs (open_parent recs parent)))) (λ i e. looks e i)
