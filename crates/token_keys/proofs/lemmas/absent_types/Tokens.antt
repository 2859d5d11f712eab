-- The token of a TypeRef row names it.
use Rattle.std.proofs.Common.{◌≡◌, ℕ, suc, ◌/◌, ◌%◌, ◌<◌, List, Option, Some, None, refl, ap, ◌∙◌, arith}
use Rattle.std.specs.Prelude.{◌==◌, if◌then◌else◌}
use Rattle.std.proofs.lemmas.Bool.{eq-eqb}
use Rattle.std.specs.Option.{option_map, option_and_then}
use Rattle.il_base.specs.declared.world_model.record.AsmRec.{AsmRec}
use Rattle.il_base.specs.world_model.Tokens.{token_of, table_of, row_index, index_in}
use Rattle.il_base.specs.world_model.Worlds.{row_below, types_in}
use Rattle.rules.specs.declared.link_rules.row_at.RowAt.{RowAt}
use Rattle.rules.specs.link_rules.Types.{at_row, ref_definition, definition_at}
use Rattle.token_keys.specs.absent_types.Rows.{NamesRow}

table_here : (table k : ℕ) → suc k < 16777216 → token_of table (suc k) / 16777216 ≡ table
table_here table k h = omega arith

row_here : (table k : ℕ) → suc k < 16777216 → token_of table (suc k) % 16777216 ≡ suc k
row_here table k h = omega arith

pub names_row : (table row token : ℕ) → suc row < 16777216 → token ≡ token_of table (suc row) → NamesRow table row token
names_row table row token h e = record {
  is = e;
  fits = h;
  table_is = ap (λ (t : ℕ). t / 16777216) e ∙ table_here table row h;
  index_is = ap (index_in table) e ∙ rw (table_here table row h, eq-eqb table table refl, row_here table row h) refl;
}

one_by : (recs : List AsmRec) (a : ℕ) (rec : AsmRec) (row t : ℕ) (o : Option ℕ) → t ≡ 1 → (if t == 1 then o else None) ≡ Some row
    → (if t == 2 then option_map (at_row a) (row_below (types_in rec) (if t == 2 then o else None)) else option_and_then (ref_definition recs a rec) (if t == 1 then o else None)) ≡ ref_definition recs a rec row
one_by recs a rec row t o e h = let g : o ≡ Some row = rw e at h in rw (e, g) refl

one_definition : (recs : List AsmRec) (a : ℕ) (rec : AsmRec) (row token : ℕ) → NamesRow 1 row token → definition_at recs a rec token ≡ ref_definition recs a rec row
unfolding definition_at
one_definition recs a rec row token names = one_by recs a rec row (table_of token) (row_index token) names.table_is names.index_is

pub definition_here : (recs : List AsmRec) (at : RowAt) (token : ℕ) → NamesRow 1 at.row token → (o : Option AsmRec)
    → option_and_then (λ (rec : AsmRec). definition_at recs at.asm rec token) o ≡ option_and_then (λ (rec : AsmRec). ref_definition recs at.asm rec at.row) o
definition_here recs at token names None = refl
definition_here recs at token names (Some rec) = one_definition recs at.asm rec at.row token names
