-- What the tables of a world answer.
use Rattle.std.proofs.Common.{◌≡◌, ℕ, List, Option, Some, None, ap, ◌∙◌}
use Rattle.std.specs.Prelude.{slice_get, unwrap_or}
use Rattle.il_base.specs.declared.world_model.record.AsmRec.{AsmRec}
use Rattle.il_base.specs.declared.world_model.world.World.{World}
use Rattle.rules.specs.link_rules.Members.{methods_in}
use Rattle.il_base.specs.declared.cil_values.definition.Method.{Method}
use Rattle.il_base.specs.declared.cil_values.resolved.Instruction.{Instruction}
use Rattle.machine_words.specs.cil_queries.Bodies.{instruction_of}
use Rattle.rules.specs.view_rules.Methods.{method_at, method_query}
use Rattle.rules.specs.view_rules.Answers.{queries_of}
use Rattle.cil_world.specs.world_methods.Rows.{rows_from, in_place}
use Rattle.cil_world.specs.world_methods.Places.{code_in, begins_at}
use Rattle.cil_world.proofs.lemmas.world_methods.Placed.{placed}

pub methods_placed : (recs all : List AsmRec) (rows : List (Option Method)) → rows ≡ rows_from methods_in (method_at recs) 0 all → all ≡ recs → (n : ℕ) → in_place rows n ≡ method_query recs n
unfolding method_query
methods_placed recs all rows are same n =
    ap (λ (xs : List (Option Method)). in_place xs n) (are ∙ ap (λ (rs : List AsmRec). rows_from methods_in (method_at recs) 0 rs) same)
    ∙ placed methods_in (method_at recs) recs n

module _ (w s : World) (same : w ≡ s) (rows : List (Option Method)) (are : (n : ℕ) → in_place rows n ≡ method_query w.recs n) (m at : ℕ) where
  asked : (row : Option Method) → row ≡ in_place rows m → begins_at (code_in row) at ≡ instruction_of (queries_of s.recs) m at
  unfolding queries_of
  asked row e = ap (λ (r : Option Method). begins_at (code_in r) at) (e ∙ are m ∙ ap (λ (x : World). method_query x.recs m) same)

  pub nothing_asked : None ≡ slice_get rows m → None ≡ instruction_of (queries_of s.recs) m at
  nothing_asked e = asked None (ap (λ (o : Option (Option Method)). unwrap_or o None) e)

  pub one_asked : (row : Option Method) → Some row ≡ slice_get rows m → (found : Option Instruction) → found ≡ begins_at (code_in row) at → found ≡ instruction_of (queries_of s.recs) m at
  one_asked row e found is = is ∙ asked row (ap (λ (o : Option (Option Method)). unwrap_or o None) e)
