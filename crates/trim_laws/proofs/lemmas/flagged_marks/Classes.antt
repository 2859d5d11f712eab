-- The type that an interface row is of, by its token (II.22.23).
use Rattle.std.proofs.Common.{◌≡◌, ◌<◌, ◌≤◌, ℕ, zero, suc, ◌+◌, ◌*◌, length, Bool, true, false, Option, Some, None, List, refl, sym, ap, subst, ◌∙◌, arith}
use Rattle.std.specs.Prelude.{slice_get, ◌==◌, ◌/◌, ◌%◌, if◌then◌else◌}
use Rattle.std.specs.Option.{option_map, option_and_then}
use Rattle.std.proofs.lemmas.Bool.{eqb-true}
use Rattle.il_base.specs.declared.table.TheConstants.{TYPE_DEF}
use Rattle.il_base.specs.world_model.Tokens.{token_of, table_of, row_of, index_in, index_from, row_index}
use Rattle.il_base.specs.declared.world_model.types.InterfaceImplRow.{InterfaceImplRow}
use Rattle.il_base.specs.declared.world_model.record.AsmRec.{AsmRec}
use Rattle.il_base.specs.world_model.Records.{Names}
use Rattle.il_base.specs.declared.cli_format.column.Column.TheVariants.{Index}
use Rattle.merge_laws.proofs.lemmas.merged_links.Enclosers.{type_there}
use Rattle.rules.specs.declared.link_rules.row_at.RowAt.{RowAt}
use Rattle.rules.specs.link_rules.Types.{at_row}
use Rattle.rules.specs.mark_rules.Types.{impl_row_at}
use Rattle.rules.specs.mark_rules.Calls.{row_class}

from_row : (r k : ℕ) → index_from r ≡ Some k → r ≡ suc k
from_row zero k e = absurd (cc)
from_row (suc n) k e = let same : n ≡ k = cc in ap suc same

decoded_by : (token k : ℕ) (b : Bool) → (table_of token == TYPE_DEF) ≡ b → (if b then row_index token else None) ≡ Some k → (table_of token ≡ TYPE_DEF) × (row_of token ≡ suc k)
decoded_by token k true t e = (eqb-true (table_of token) TYPE_DEF t, from_row (row_of token) k e)
decoded_by token k false t e = absurd (cc)

-- a token of the type with this row has that row, if it has one
decoded : (token j k : ℕ) → token ≡ token_of TYPE_DEF (suc j) → index_in TYPE_DEF token ≡ Some k → k ≡ j
decoded token j k is e =
    let d = decoded_by token k (table_of token == TYPE_DEF) refl e in
    let table : token / 16777216 ≡ 2 = d.0 in
    let row : token % 16777216 ≡ suc k = d.1 in
    omega (arith, is, table, row)

class_by : (a : ℕ) (o : Option ℕ) (c : RowAt) → option_map (at_row a) o ≡ Some c → (o ≡ Some c.row) × (c ≡ at_row a c.row)
class_by a None c e = absurd (cc)
class_by a (Some k) c e = let same : at_row a k ≡ c = cc in let row : k ≡ c.row = ap (λ (r : RowAt). r.row) same in (ap Some row, sym same ∙ ap (at_row a) row)

pub class_is : (recs : List AsmRec) (at : RowAt) (rec : AsmRec) (row : InterfaceImplRow) (j : ℕ) → slice_get recs at.asm ≡ Some rec → slice_get rec.interface_impl at.row ≡ Some row → (row.class == token_of TYPE_DEF (suc j)) ≡ true
    → (c : RowAt) → row_class recs at ≡ Some c → c ≡ at_row at.asm j
class_is recs at rec row j there is named c e =
    let found : impl_row_at recs at ≡ Some row = ap (option_and_then (λ (r : AsmRec). slice_get r.interface_impl at.row)) there ∙ is in
    let b = class_by at.asm (index_in TYPE_DEF row.class) c (sym (ap (option_and_then (λ (x : InterfaceImplRow). option_map (at_row at.asm) (index_in TYPE_DEF x.class))) found) ∙ e) in
    let same : c.row ≡ j = decoded row.class j c.row (eqb-true row.class (token_of TYPE_DEF (suc j)) named) b.0 in
    b.1 ∙ ap (at_row at.asm) same

-- it is there, in a record
pub class_below : (rec : AsmRec) (token j : ℕ) → (token == token_of TYPE_DEF (suc j)) ≡ true → Names rec (Index TYPE_DEF) token → j < length rec.type_def
class_below rec token j named names =
    let is : token ≡ token_of TYPE_DEF (suc j) = eqb-true token (token_of TYPE_DEF (suc j)) named in
    let t = type_there rec token names in
    let table : token / 16777216 ≡ 2 = t.0 in
    let low : token % 16777216 ≤ length rec.type_def = t.2 in
    omega (arith, is, table, low)
