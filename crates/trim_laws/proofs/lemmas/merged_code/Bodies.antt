-- The body of a kept method moves with it: its locals, its instructions and its clauses (II.25.4).
use Rattle.std.proofs.Common.{◌≡◌, ℕ, suc, List, true, Option, Some, None, refl, ap}
use Rattle.std.specs.Option.{option_map}
use Rattle.il_base.specs.declared.table.TheConstants as table
use Rattle.il_base.specs.declared.body.Body.{Body}
use Rattle.descriptor_file.specs.declared.root.Root.{Root}
use Rattle.il_base.specs.declared.world_model.known.Known.{Known}
use Rattle.il_base.specs.declared.world_model.known.Known.TheVariants.{Good, Bad}
use Rattle.il_base.specs.declared.world_model.members.MethodDefRow.{MethodDefRow}
use Rattle.il_base.specs.declared.world_model.record.AsmRec.{AsmRec}
use Rattle.il_base.specs.world_model.Tokens.{token_of}
use Rattle.il_base.specs.world_model.Worlds.{known_map}
use Rattle.rules.specs.declared.link_rules.row_at.RowAt.{RowAt}
use Rattle.rules.specs.type_rules.Slots.{type_of_method}
use Rattle.rules.specs.mark_rules.Places.{type_item}
use Rattle.il_base.specs.declared.cil_values.resolved.Code.{Code}
use Rattle.rules.specs.view_rules.Code.{instruction_of, clause_of, code_of}
use Rattle.rules.specs.view_rules.Methods.{body_by}
use Rattle.rules.specs.merge_rules.Moved.{moved_instr, moved_handler, moved_body}
use Rattle.rules.specs.change_rules.Answers.{move_instruction, move_clause, move_code}
use Rattle.rules.specs.merged_world_rules.Merge.{Merge, before, after, output}
use Rattle.rules.specs.merged_world_rules.NewNumbers.{rho_of}
use Rattle.merge_laws.specs.merged_references.Written.{HasReferenceRows}
use Rattle.trim_laws.specs.marked_merge_rules.Merges.{IsMarkedMerge}
use Rattle.trim_laws.specs.merged_code.Laws.{ReadsCode}
use Rattle.trim_laws.proofs.lemmas.merged_code.Lists.{maps_meet}
use Rattle.trim_laws.proofs.lemmas.merged_code.Kept.{IsKept}
use Rattle.trim_laws.proofs.lemmas.merged_code.Flaws.{locals_good, code_good, handler_good}
use Rattle.trim_laws.proofs.lemmas.merged_code.Mets.{locals_met, code_met, handler_met}
use Rattle.trim_laws.proofs.lemmas.merged_code.Texts.{text_there}
use Rattle.trim_laws.proofs.lemmas.merged_code.Operands.{instruction_moves, clause_moves}
use Rattle.trim_laws.proofs.lemmas.merged_code.Locals.{locals_move}

module _ (m : Merge) (entry : Option RowAt) (roots : List Root) (is : IsMarkedMerge m entry roots) (rows : HasReferenceRows m) (reads : ReadsCode m) (at : RowAt) (rec : AsmRec) (row : MethodDefRow)
    (h : IsKept m at rec row) (owner : RowAt) (of : type_of_method (before m) at ≡ Some owner) (keeps : m.kept (type_item (before m) owner) ≡ true) where
  abbrev place : ℕ
  place = token_of table.METHOD_DEF (suc at.row)

  code_moves : (b : Body) → row.body ≡ Some (Good b) → code_of (after m) 0 m.left (moved_body (output m) at.asm rec b) ≡ move_code (rho_of m) (code_of (before m) at.asm rec b)
  unfolding code_of moved_body
  code_moves b has =
      let locals =
      locals_move m is.merge rows reads.there reads.homes at.asm rec h.there h.input place b.locals (locals_good m entry roots is at rec row h b has) (locals_met m is.merge at rec row h owner of keeps b has) in
      let code =
      maps_meet (instruction_of (after m) 0 m.left) (moved_instr (output m) at.asm rec) (move_instruction (rho_of m)) (instruction_of (before m) at.asm rec) b.code
      (λ i c. instruction_moves m reads.tokens reads.callees reads.fields at.asm rec h.there h.input place i (code_good m entry roots is at rec row h b has i c)
      (code_met m is.merge at rec row h owner of keeps b has i c) (text_there m is.merge is.within at rec row h b has i c)) in
      let clauses =
      maps_meet (clause_of (after m) 0 m.left) (moved_handler (output m) at.asm rec) (move_clause (rho_of m)) (clause_of (before m) at.asm rec) b.handlers
      (λ x c. clause_moves m reads.tokens reads.callees reads.fields at.asm rec h.there h.input place x (handler_good m entry roots is at rec row h b has x c) (handler_met m is.merge at rec row h owner of keeps b has x c)) in
      λ j. record { locals = locals j; code = code j; clauses = clauses j }

  known_moves : (k : Known Body) → row.body ≡ Some k → body_by (after m) 0 m.left (known_map (moved_body (output m) at.asm rec) k) ≡ known_map (move_code (rho_of m)) (body_by (before m) at.asm rec k)
  known_moves (Good b) has = ap (λ (c : Code). Good c) (code_moves b has)
  known_moves (Bad why) has = refl

  pub body_moves : (o : Option (Known Body)) → row.body ≡ o
      → option_map (body_by (after m) 0 m.left) (option_map (known_map (moved_body (output m) at.asm rec)) o) ≡ option_map (known_map (move_code (rho_of m))) (option_map (body_by (before m) at.asm rec) o)
  body_moves None has = refl
  body_moves (Some k) has = ap Some (known_moves k has)
