-- What a record has whose file passes no limit.
use Rattle.std.proofs.Common.{◌≡◌, ℕ, zero, suc, ◌≤◌, ◌^◌, Bool, true, false, cond, List, [], ◌∷◌, Option, Some, None, refl, arith}
use Rattle.std.specs.Prelude.{find, get_or, nat_lt}
use Rattle.std.proofs.lemmas.Bool.{ltb-false}
use Rattle.il_base.specs.cli_format.Metadata.{most_rows}
use Rattle.il_base.specs.declared.world_model.record.AsmRec.{AsmRec}
use Rattle.il_base.specs.world_model.Records.{table_sizes, rows_in}
use Rattle.rules.specs.file_layout.Runs.{runs_have_spelling}
use Rattle.rules.specs.record_layout.Laid.{laid_length}
use Rattle.rules.specs.record_layout.Limits.{most_users, most_bytes, users_length, long_table, limit_by, limit_of}
use Rattle.file_laws.specs.layout_laws.CanBeLaid.{CanBeLaid}

pub record Within (rec : AsmRec) : Type 0 where
  pub can : CanBeLaid rec
  pub few : (t : ℕ) → rows_in rec t ≤ most_rows
  pub runs : runs_have_spelling rec ≡ true
  pub users : users_length rec ≤ 2 ^ 24
  pub bytes : laid_length rec ≤ 2 ^ 28

-- ---- no limit is passed

record NonePassed (long : Option ℕ) (spelled : Bool) (users bytes : ℕ) : Type 0 where
  pub none_long : long ≡ None
  pub all_spelled : spelled ≡ true
  pub few_users : users ≤ most_users
  pub few_bytes : bytes ≤ most_bytes

none_by : (users bytes : ℕ) (u b : Bool) → nat_lt most_users users ≡ u → nat_lt most_bytes bytes ≡ b
    → limit_by None true users bytes ≡ None → (u ≡ false) × (b ≡ false)
none_by users bytes true b e f h = absurd cc
none_by users bytes false true e f h = absurd cc
none_by users bytes false false e f h = (refl, refl)

none_passed : (long : Option ℕ) (spelled : Bool) (users bytes : ℕ) → limit_by long spelled users bytes ≡ None → NonePassed long spelled users bytes
none_passed (Some rows) spelled users bytes h = absurd cc
none_passed None false users bytes h = absurd cc
none_passed None true users bytes h =
    let both = none_by users bytes (nat_lt most_users users) (nat_lt most_bytes bytes) refl refl h in
    record {
      none_long = refl;
      all_spelled = refl;
      few_users = ltb-false most_users users both.0;
      few_bytes = ltb-false most_bytes bytes both.1;
    }

size_by : (n : ℕ) (sizes : List ℕ) (t : ℕ) (b : Bool) → nat_lt most_rows n ≡ b → (find (nat_lt most_rows) sizes ≡ None → (u : ℕ) → get_or sizes u 0 ≤ most_rows)
    → cond b (Some n) (find (nat_lt most_rows) sizes) ≡ None → get_or (n ∷ sizes) t 0 ≤ most_rows
size_by n sizes t true e more h = absurd cc
size_by n sizes zero false e more h = ltb-false most_rows n e
size_by n sizes (suc t) false e more h = more h t

sizes_few : (sizes : List ℕ) → find (nat_lt most_rows) sizes ≡ None → (t : ℕ) → get_or sizes t 0 ≤ most_rows
sizes_few [] h t = omega arith
sizes_few (n ∷ sizes) h t = size_by n sizes t (nat_lt most_rows n) refl (sizes_few sizes) h

tables_few : (rec : AsmRec) → long_table rec ≡ None → (t : ℕ) → rows_in rec t ≤ most_rows
unfolding long_table
tables_few rec h t = sizes_few (table_sizes rec) h t

pub within : (rec : AsmRec) → CanBeLaid rec → limit_of rec ≡ None → Within rec
unfolding limit_of
within rec can h =
    let none = none_passed (long_table rec) (runs_have_spelling rec) (users_length rec) (laid_length rec) h in
    record { can = can; few = tables_few rec none.none_long; runs = none.all_spelled; users = omega (arith, none.few_users); bytes = omega (arith, none.few_bytes) }
