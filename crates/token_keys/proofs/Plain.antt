-- A type has no generic parameters where its group of rows is empty.
use Rattle.std.proofs.Common.{◌≡◌, ℕ, suc, ◌+◌, List, [], ◌∷◌, length, map, Bool, true, false, Option, Some, None, refl, sym, ap, ◌∙◌, arith}
use Rattle.std.specs.Prelude.{slice_get, ◌==◌, if◌then◌else◌}
use Rattle.std.specs.List.{count_by, list_any}
use Rattle.std.proofs.Math.Bool.{or-false}
use Rattle.std.proofs.lemmas.List.Sums.{sum_by-cons}
use Rattle.il_base.specs.declared.table.TheConstants.{TYPE_DEF}
use Rattle.il_base.specs.declared.world_model.types.GenericParamRow.{GenericParamRow}
use Rattle.il_base.specs.declared.world_model.record.AsmRec.{AsmRec}
use Rattle.il_base.specs.world_model.Tokens.{token_of}
use Rattle.rules.specs.declared.link_rules.row_at.RowAt.{RowAt}
use Rattle.rules.specs.link_rules.Cycles.{listed}
use Rattle.rules.specs.type_rules.Rows.{rec_at}
use Rattle.rules.specs.link_rules.Members.{is_param_of, param_count}
use Rattle.type_tables.specs.member_search.Names.{places}
use Rattle.type_tables.specs.declared.groups.Groups.{Groups}
use Rattle.type_tables.specs.Groups.{is_key, rows_with, AreGroups}
use Rattle.mark_parts.specs.mark_tables.Owners.{param_owners}

one_more : (b : Bool) (i : ℕ) (ks : List ℕ) (count : ℕ) → length ks ≡ count → length (if b then i ∷ ks else ks) ≡ (if b then 1 else 0) + count
one_more true i ks count e = omega (arith, e)
one_more false i ks count e = omega (arith, e)

as_many : (token i : ℕ) (rows : List GenericParamRow) → length (places (is_key token) i (map (λ (r : GenericParamRow). r.owner) rows)) ≡ count_by (is_param_of token) rows
as_many token i [] = refl
as_many token i (r ∷ rows) =
    one_more (r.owner == token) i (places (is_key token) (i + 1) (map (λ (s : GenericParamRow). s.owner) rows)) (count_by (is_param_of token) rows) (as_many token (i + 1) rows)
    ∙ sym (sum_by-cons (λ (s : GenericParamRow). if is_param_of token s then 1 else 0) r rows)

pub none_owned : (rec : AsmRec) (groups : Groups) → AreGroups (param_owners rec) groups → (k token : ℕ) → token ≡ token_of TYPE_DEF (suc k) → (rows : List ℕ) → rows ≡ rows_with groups token
    → length rows ≡ param_count rec k
unfolding param_count
none_owned rec groups are k token t rows e =
    ap length e ∙ ap length (are token) ∙ as_many token 0 rec.generic_param ∙ ap (λ (n : ℕ). count_by (is_param_of n) rec.generic_param) t

pub plain_gone : (recs : List AsmRec) (at : RowAt) → slice_get recs at.asm ≡ None → false ≡ list_any (λ (rec : AsmRec). param_count rec at.row == 0) (listed (rec_at recs at))
plain_gone recs at gone = rw gone refl

pub plain_here : (recs : List AsmRec) (at : RowAt) (rec : AsmRec) → slice_get recs at.asm ≡ Some rec → (groups : Groups) → AreGroups (param_owners rec) groups → (token : ℕ) → token ≡ token_of TYPE_DEF (suc at.row)
    → (rows : List ℕ) → rows ≡ rows_with groups token → (length rows == 0) ≡ list_any (λ (r : AsmRec). param_count r at.row == 0) (listed (rec_at recs at))
plain_here recs at rec here groups are token t rows e =
    ap (λ (n : ℕ). n == 0) (none_owned rec groups are at.row token t rows e) ∙ sym (or-false (param_count rec at.row == 0))
    ∙ ap (λ (o : Option AsmRec). list_any (λ (r : AsmRec). param_count r at.row == 0) (listed o)) (sym here)
