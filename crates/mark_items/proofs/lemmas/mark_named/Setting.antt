-- The first setter of a property, by the rows of a group.
use Rattle.std.proofs.Common.{◌≡◌, ℕ, suc, List, [], map, Bool, true, false, Option, Some, refl, sym, ap, ◌∙◌}
use Rattle.std.specs.Prelude.{◌==◌, ◌%◌, ◌&&◌, slice_get, if◌then◌else◌}
use Rattle.std.specs.List.{flat_map, filter}
use Rattle.std.proofs.lemmas.List.{append-nil}
use Rattle.il_base.specs.declared.semantics.TheConstants.{SETTER}
use Rattle.il_base.specs.declared.table.TheConstants.{METHOD_DEF, PROPERTY}
use Rattle.il_base.specs.declared.world_model.members.MethodSemanticsRow.{MethodSemanticsRow}
use Rattle.il_base.specs.declared.world_model.record.AsmRec.{AsmRec}
use Rattle.il_base.specs.world_model.Tokens.{token_of, index_in}
use Rattle.rules.specs.declared.link_rules.row_at.RowAt.{RowAt}
use Rattle.rules.specs.link_rules.Types.{at_row}
use Rattle.rules.specs.link_rules.Cycles.{listed}
use Rattle.rules.specs.type_rules.Searches.{has_owner}
use Rattle.type_tables.specs.declared.groups.Groups.{Groups}
use Rattle.type_tables.specs.Groups.{rows_with, AreGroups}
use Rattle.type_tables.specs.Tables.{associations}
use Rattle.type_tables.proofs.Grouped.{flat_grouped}
use Rattle.rules.specs.mark_rules.Attributes.{head_of, setter_in, setters_of}
use Rattle.mark_items.specs.mark_named.Setters.{setter_row, setter_at}

one_listed : {A B : Type 0} (f : A → List B) (o : Option A) (x : A) → o ≡ Some x → flat_map f (listed o) ≡ f x
one_listed f o x e = rw e (append-nil (f x))

both : {A : Type 0} (a b : Bool) (xs : List A) → (if a && b then xs else []) ≡ (if a then (if b then xs else []) else [])
both true b xs = refl
both false b xs = refl

module _ (recs : List AsmRec) (p : RowAt) (rec : AsmRec) (here : slice_get recs p.asm ≡ Some rec) (groups : Groups) where
  pub setters_grouped : AreGroups (associations rec) groups → (token : ℕ) → token ≡ token_of PROPERTY (suc p.row) → (rows : List ℕ) → rows ≡ rows_with groups token
      → map (at_row p.asm) (listed (head_of (flat_map (setter_at rec) rows))) ≡ setters_of recs p
  setters_grouped are token t rows r =
      let wanted : ℕ = token_of PROPERTY (suc p.row) in
      let first : List ℕ → List RowAt = λ ks. map (at_row p.asm) (listed (head_of ks)) in
      ap (λ (ks : List ℕ). first (flat_map (setter_at rec) ks)) (r ∙ ap (rows_with groups) t)
      ∙ ap first
      (flat_grouped (λ (r : MethodSemanticsRow). r.association) wanted rec.method_semantics groups are (setter_row rec) (setter_in rec wanted)
      (λ row. both (row.association == wanted) (row.semantics % 2 == SETTER) (filter (has_owner rec) (listed (index_in METHOD_DEF row.method)))))
      ∙ sym (one_listed (λ (rec : AsmRec). map (at_row p.asm) (listed (head_of (flat_map (setter_in rec wanted) rec.method_semantics)))) (slice_get recs p.asm) rec here)
