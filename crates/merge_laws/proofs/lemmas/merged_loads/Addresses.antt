-- Bodies and bytes of fields have the addresses at which they are laid out, and methods keep all but that.
use Rattle.std.proofs.Common.{◌≡◌, ℕ, suc, ◌+◌, ◌-◌, ◌%◌, ◌<◌, ◌≤◌, ◌^◌, List, [], ◌∷◌, length, map, Option, Some, None, refl, sym, ap, ap₂, subst, ◌∙◌, inl, inr, arith, length-append}
use Rattle.std.specs.List.{Contains}
use Rattle.std.proofs.lemmas.List.{length-map, length-replicate}
use Rattle.il_base.specs.declared.body.Body.{Body}
use Rattle.il_base.specs.declared.world_model.known.Known.{Known}
use Rattle.il_base.specs.declared.world_model.known.Known.TheVariants.{Good, Bad}
use Rattle.il_base.specs.declared.world_model.members.MethodDefRow.{MethodDefRow}
use Rattle.il_base.specs.declared.world_model.extras.FieldRvaRow.{FieldRvaRow}
use Rattle.rules.specs.file_layout.Bytes.{aligned, padded, zeros}
use Rattle.rules.specs.file_layout.Image.{code_rva}
use Rattle.rules.specs.file_layout.Bodies.{behind, rva_at, rvas_behind}
use Rattle.rules.specs.record_layout.FieldData.{data_of, with_data, data_rvas}
use Rattle.rules.specs.merge_rules.Restricted.{put_rva, with_rvas, bodies_of, placed_methods, bytes_length, placed_bytes}
use Rattle.merge_laws.proofs.lemmas.merged_record.Lists.{none_in, first_in, later_in, head_or}

-- ---- bodies

rvas_length : (before : List ℕ) (bodies : List (Option (Known Body))) → length (rvas_behind before bodies) ≡ length bodies
unfolding rvas_behind
rvas_length before [] = refl
rvas_length before (b ∷ bs) = ap suc (rvas_length (behind before b) bs)

long_enough : (ms : List MethodDefRow) → length (rvas_behind [] (bodies_of ms)) ≡ length ms
long_enough ms = rvas_length [] (bodies_of ms) ∙ length-map ms (λ (m : MethodDefRow). m.body)

rvas_with : (rvas : List ℕ) (ms : List MethodDefRow) → length rvas ≡ length ms → map (λ (m : MethodDefRow). m.rva) (with_rvas rvas ms) ≡ rvas
unfolding with_rvas
rvas_with [] ms e = refl
rvas_with (r ∷ rvas) [] e = absurd (omega arith)
rvas_with (r ∷ rvas) (m ∷ ms) e = let n : suc (length rvas) ≡ suc (length ms) = e in ap (λ (xs : List ℕ). r ∷ xs) (rvas_with rvas ms (omega arith))

bodies_with : (rvas : List ℕ) (ms : List MethodDefRow) → length rvas ≡ length ms → bodies_of (with_rvas rvas ms) ≡ bodies_of ms
unfolding with_rvas
bodies_with [] [] e = refl
bodies_with [] (m ∷ ms) e = absurd (omega arith)
bodies_with (r ∷ rvas) [] e = refl
bodies_with (r ∷ rvas) (m ∷ ms) e = let n : suc (length rvas) ≡ suc (length ms) = e in ap (λ (xs : List (Option (Known Body))). m.body ∷ xs) (bodies_with rvas ms (omega arith))

pub bodies_placed : (ms : List MethodDefRow) → bodies_of (placed_methods ms) ≡ bodies_of ms
bodies_placed ms = bodies_with (rvas_behind [] (bodies_of ms)) ms (long_enough ms)

-- the bodies that are laid out are those of the rows with their addresses
pub rvas_placed : (ms : List MethodDefRow) → map (λ (m : MethodDefRow). m.rva) (placed_methods ms) ≡ rvas_behind [] (map (λ (m : MethodDefRow). m.body) (placed_methods ms))
rvas_placed ms = rvas_with (rvas_behind [] (bodies_of ms)) ms (long_enough ms) ∙ ap (rvas_behind []) (sym (bodies_placed ms))

-- ---- a method with its address

pub record IsPlaced (ms : List MethodDefRow) (m : MethodDefRow) : Type 0 where
  pub old : MethodDefRow
  pub there : Contains ms old
  pub rva : ℕ
  pub small : rva < 2 ^ 32
  pub is : put_rva rva old ≡ m

abbrev AllSmall : List ℕ → Type 0
AllSmall [] = Unit {0}
AllSmall (r ∷ rvas) = (r < 2 ^ 32) × AllSmall rvas

rva_small : (before : ℕ) (b : Option (Known Body)) → rva_at before b < 2 ^ 32
rva_small before None = omega arith
rva_small before (Some (Good b)) = omega arith
rva_small before (Some (Bad why)) = omega arith

rvas_small : (before : List ℕ) (bodies : List (Option (Known Body))) → AllSmall (rvas_behind before bodies)
unfolding rvas_behind
rvas_small before [] = tt
rvas_small before (b ∷ bs) = (rva_small (length before) b, rvas_small (behind before b) bs)

placed_by : (rvas : List ℕ) (ms : List MethodDefRow) → AllSmall rvas → (m : MethodDefRow) → Contains (with_rvas rvas ms) m → IsPlaced ms m
unfolding with_rvas
placed_by [] ms small m c = absurd (none_in m c)
placed_by (r ∷ rvas) [] small m c = absurd (none_in m c)
placed_by (r ∷ rvas) (x ∷ ms) small m c =
    elim (head_or (put_rva r x) (with_rvas rvas ms) m c) [
      | inl e ↦ record { old = x; there = first_in x ms; rva = r; small = small.0; is = e }
      | inr t ↦ (let p = placed_by rvas ms small.1 m t in record { old = p.old; there = later_in x ms p.old p.there; rva = p.rva; small = p.small; is = p.is })
    ]

pub is_placed : (ms : List MethodDefRow) (m : MethodDefRow) → Contains (placed_methods ms) m → IsPlaced ms m
is_placed ms m c = placed_by (rvas_behind [] (bodies_of ms)) ms (rvas_small [] (bodies_of ms)) m c

-- ---- bytes of fields

aligned8 : (n : ℕ) → n ≤ aligned 8 n
unfolding aligned
aligned8 n = omega arith

padded_long : (bs : List ℕ) → length (padded 8 bs) ≡ aligned 8 (length bs)
padded_long bs =
    let room = aligned8 (length bs) in
    omega (arith, length-append bs (zeros (aligned 8 (length bs) - length bs)), length-replicate {A = ℕ} (aligned 8 (length bs) - length bs) 0)

bytes_long : (known : Known (List ℕ)) → length (data_of known) ≡ bytes_length known
bytes_long (Good bytes) = refl
bytes_long (Bad why) = refl

with_long : (before : List ℕ) (row : FieldRvaRow) (n : ℕ) → length before ≡ n → length (with_data before row) ≡ aligned 8 n + bytes_length row.bytes
unfolding with_data
with_long before row n e =
    let a : aligned 8 (length before) ≡ aligned 8 n = ap (aligned 8) e in
    omega (arith, a, padded_long before, bytes_long row.bytes, length-append (padded 8 before) (data_of row.bytes))

pub data_placed : (before : List ℕ) (n : ℕ) (rows : List FieldRvaRow) → length before ≡ n → map (λ (f : FieldRvaRow). f.rva) (placed_bytes n rows) ≡ data_rvas before (placed_bytes n rows)
unfolding placed_bytes data_rvas
data_placed before n [] e = refl
data_placed before n (row ∷ rows) e =
    let here : FieldRvaRow = record row { rva = (code_rva + aligned 8 n) % 4294967296 } in
    let first : (code_rva + aligned 8 n) % 4294967296 ≡ (code_rva + aligned 8 (length before)) % 4294967296 = ap (λ (k : ℕ). (code_rva + aligned 8 k) % 4294967296) (sym e) in
    let rest = data_placed (with_data before here) (aligned 8 n + bytes_length row.bytes) rows (with_long before here n e) in
    ap₂ (λ (a : ℕ) (xs : List ℕ). a ∷ xs) first rest

pub data_small : (n : ℕ) (rows : List FieldRvaRow) (f : FieldRvaRow) → Contains (placed_bytes n rows) f → f.rva < 2 ^ 32
unfolding placed_bytes
data_small n [] f c = absurd (none_in f c)
data_small n (row ∷ rows) f c =
    elim (head_or (record row { rva = (code_rva + aligned 8 n) % 4294967296 }) (placed_bytes (aligned 8 n + bytes_length row.bytes) rows) f c) [
      | inl e ↦ subst (λ (x : FieldRvaRow). x.rva < 2 ^ 32) e (omega arith)
      | inr t ↦ data_small (aligned 8 n + bytes_length row.bytes) rows f t
    ]
