-- What a file that has a record meets, one by one, and the rows that tables have.
use Rattle.std.proofs.Common.{◌≡◌, ℕ, zero, suc, ◌<◌, ◌≤◌, Bool, true, false, cond, List, [], ◌∷◌, ◌++◌, length, map, Option, Some, None, ◌⊎◌, inl, inr, refl, ap, subst, ◌∙◌, arith, length-append}
use Rattle.std.specs.Prelude.{slice_get, bit_and, ◌==◌, ◌&&◌, nat_le}
use Rattle.std.proofs.lemmas.Bool.{eqb-true, leb-true, and_parts}
use Rattle.std.proofs.lemmas.Option.{none-some, same_Some}
use Rattle.il_base.specs.declared.ids.BadAt.{BadAt}
use Rattle.il_base.specs.declared.cli_format.error.TablesError.{TablesError}
use Rattle.il_base.specs.declared.cli_format.error.TablesError.TheVariants.{Bad}
use Rattle.il_base.specs.cli_format.Demand.{Demand, first_fault, each_below}
use Rattle.il_base.specs.cli_format.Image.{image_demands, header_demands, cli_demands, il_only_demands, metadata_demands, metadata_of, metadata_place_of, cli_flags_of}
use Rattle.il_base.specs.cli_format.Tables.{rows_of}
use Rattle.il_base.specs.cli_format.Metadata.{tables_demands, form_demands, root_demands, streams_demands, head_demands, rows_demands, heap_demands, known_demands, limit_demands, single_demands, tables_stream, tables_base}
use Rattle.il_base.proofs.lemmas.cli_format.Faults.{none_of_both, one_held}
use Rattle.il_base.proofs.lemmas.cli_format.Plain.{form_held}
use Rattle.rules.specs.record_format.Cells.{first_rows}
use Rattle.rules.specs.record_format.Record.{as_demand, record_demands}
use Rattle.il_base.specs.world_model.Records.{Each}

-- ---- demands

unmapped_step : (b : Bool) (more : Option TablesError) (rest : Option BadAt) (e : BadAt) → (more ≡ None → rest ≡ None) → cond b more (Some (Bad e)) ≡ None → cond b rest (Some e) ≡ None
unmapped_step true more rest e h q = h q
unmapped_step false more rest e h q = absurd cc

unmapped : (ds : List (Demand BadAt)) → first_fault (map as_demand ds) ≡ None → first_fault ds ≡ None
unfolding first_fault
unmapped [] p = refl
unmapped (d ∷ ds) p = unmapped_step d.holds (first_fault (map as_demand ds)) (first_fault ds) d.refusal (unmapped ds) p

module _ (bs : List ℕ) (meets : first_fault (record_demands bs) ≡ None) where
  image_met : first_fault (image_demands bs) ≡ None
  unfolding record_demands
  image_met = unmapped (image_demands bs) (none_of_both (map as_demand (image_demands bs)) (tables_demands (metadata_of bs) (metadata_place_of bs)) meets).0

  pub tables_met : first_fault (tables_demands (metadata_of bs) (metadata_place_of bs)) ≡ None
  unfolding record_demands
  tables_met = (none_of_both (map as_demand (image_demands bs)) (tables_demands (metadata_of bs) (metadata_place_of bs)) meets).1

  il_only_met : first_fault (il_only_demands bs) ≡ None
  unfolding image_demands
  il_only_met =
      let front = none_of_both (header_demands bs ++ cli_demands bs ++ il_only_demands bs) (metadata_demands bs) image_met in
      (none_of_both (header_demands bs ++ cli_demands bs) (il_only_demands bs) front.0).1

  pub il_only : bit_and (cli_flags_of bs) 1 ≡ 1
  unfolding il_only_demands
  il_only =
      let three = none_of_both _ _ il_only_met in
      let two = none_of_both _ _ three.0 in
      let one = none_of_both _ _ two.0 in
      eqb-true _ _ (one_held _ _ one.0)

  pub not_native : bit_and (cli_flags_of bs) 16 ≡ 0
  unfolding il_only_demands
  not_native =
      let three = none_of_both _ _ il_only_met in
      let two = none_of_both _ _ three.0 in
      let one = none_of_both _ _ two.0 in
      eqb-true _ _ (one_held _ _ one.1)

  -- one Module row, one Assembly row, a TypeDef row
  pub singles : (rows_of (tables_stream (metadata_of bs)) 0x00 ≡ 1) × (rows_of (tables_stream (metadata_of bs)) 0x20 ≡ 1) × (1 ≤ rows_of (tables_stream (metadata_of bs)) 0x02)
  unfolding form_demands rows_demands single_demands
  singles =
      let m : List ℕ = metadata_of bs in
      let base : ℕ = metadata_place_of bs in
      let ts : List ℕ = tables_stream m in
      let start : ℕ = tables_base m base in
      let one = none_of_both (root_demands m base ++ streams_demands m base ++ head_demands ts start ++ rows_demands ts start) (heap_demands m base) (form_held m base tables_met) in
      let two = none_of_both (root_demands m base ++ streams_demands m base ++ head_demands ts start) (rows_demands ts start) one.0 in
      let three = none_of_both (each_below (known_demands ts start) 64 ++ each_below (limit_demands ts) 45) (single_demands ts start) two.1 in
      let held = one_held ((rows_of ts 0x00 == 1) && (rows_of ts 0x20 == 1) && nat_le 1 (rows_of ts 0x02)) _ three.1 in
      let all = and_parts ((rows_of ts 0x00 == 1) && (rows_of ts 0x20 == 1)) (nat_le 1 (rows_of ts 0x02)) held in
      let both = and_parts (rows_of ts 0x00 == 1) (rows_of ts 0x20 == 1) all.0 in
      (eqb-true _ _ both.0, eqb-true _ _ both.1, leb-true 1 (rows_of ts 0x02) all.1)

-- ---- rows

pub length_rows : {A : Type 0} (row : ℕ → A) (n : ℕ) → length (first_rows row n) ≡ n
unfolding first_rows
length_rows row zero = refl
length_rows row (suc n) = omega (arith, length-append (first_rows row n) (row (suc n) ∷ []), length_rows row n)

pub at_end : {A : Type 0} (xs : List A) (y x : A) (k : ℕ) → slice_get (xs ++ y ∷ []) k ≡ Some x → (slice_get xs k ≡ Some x) ⊎ ((k ≡ length xs) × (y ≡ x))
at_end [] y x zero e = inr (refl, same_Some y x e)
at_end [] y x (suc k) e = absurd (none-some x e)
at_end (z ∷ zs) y x zero e = inl e
at_end (z ∷ zs) y x (suc k) e = elim (at_end zs y x k e) [ inl f ↦ inl f | inr f ↦ inr (omega (arith, f.0), f.1) ]

pub row_at : {A : Type 0} (row : ℕ → A) (n k : ℕ) (x : A) → slice_get (first_rows row n) k ≡ Some x → (k < n) × (row (suc k) ≡ x)
unfolding first_rows
row_at row zero k x e = absurd (none-some x e)
row_at row (suc n) k x e = elim (at_end (first_rows row n) (row (suc n)) x k e) [
  | inl f ↦ (let rest = row_at row n k x f in (omega (arith, rest.0), rest.1))
  | inr f ↦ (let same : k ≡ n = f.0 ∙ length_rows row n in (omega arith, ap (λ (i : ℕ). row (suc i)) same ∙ f.1))
]

-- what holds of each row that is made
pub each_row : {A : Type 0} (P : A → Type 0) (row : ℕ → A) (n : ℕ) → ((k : ℕ) → k < n → P (row (suc k))) → Each P (first_rows row n)
each_row P row n h k x e = subst P (row_at row n k x e).1 (h k (row_at row n k x e).0)
