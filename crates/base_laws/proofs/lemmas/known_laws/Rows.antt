-- Items by their rows.
use Rattle.std.proofs.Common.{◌≡◌, ℕ, suc, ◌+◌, ◌-◌, ◌≤◌, List, [], ◌∷◌, Bool, true, false, nat_lt, Some, refl, sym, ap, subst, ◌∙◌, arith}
use Rattle.std.specs.Prelude.{if◌then◌else◌}
use Rattle.std.specs.List.{list_any}
use Rattle.std.proofs.lemmas.Bool.{ltb-false, and_parts, and_from}
use Rattle.il_base.specs.declared.ids.Item.{Item}
use Rattle.il_base.specs.declared.world_model.record.AsmRec.{AsmRec}
use Rattle.il_base.specs.world_model.Worlds.{rows_before}
use Rattle.rules.specs.declared.link_rules.row_at.RowAt.{RowAt}
use Rattle.rules.specs.link_rules.Types.{at_row}
use Rattle.rules.specs.link_rules.Members.{home_from}
use Rattle.rules.specs.link_rules.Cycles.{listed, same_row}
use Rattle.base_laws.proofs.lemmas.type_laws.Places.{rows_decide}
use Rattle.rules.specs.mark_rules.Places.{row_of}
use Rattle.base_laws.specs.known_laws.Known.{is_known_at}
use Rattle.base_laws.proofs.lemmas.known_laws.Lists.{from_any, from_listed, to_any, to_listed}

pub same_is : (x y : RowAt) → same_row x y ≡ true → x ≡ y
same_is x y e = (rows_decide x y).0 e

pub is_same : (x y : RowAt) → x ≡ y → same_row x y ≡ true
is_same x y e = (rows_decide x y).1 e

module _ (count : AsmRec → ℕ) where
  record Place (recs : List AsmRec) (i n : ℕ) (at : RowAt) : Type 0 where
    asm : ℕ
    numbered : at.asm ≡ i + asm
    id : rows_before count recs asm + at.row ≡ n

  placed_by : (rec : AsmRec) (recs : List AsmRec) (i n : ℕ) (at : RowAt) (b : Bool) → nat_lt n (count rec) ≡ b
      → (home_from count (suc i) recs (n - count rec) ≡ Some at → Place recs (suc i) (n - count rec) at)
      → (if b then Some (at_row i n) else home_from count (suc i) recs (n - count rec)) ≡ Some at → Place (rec ∷ recs) i n at
  unfolding rows_before
  placed_by rec recs i n at true e h f =
      let same : at_row i n ≡ at = cc in
      subst (λ (x : RowAt). Place (rec ∷ recs) i n x) same (record { asm = 0; numbered = omega arith; id = omega arith })
  placed_by rec recs i n at false e h f =
      let s = h f in
      let le : count rec ≤ n = ltb-false n (count rec) e in
      record { asm = suc s.asm; numbered = omega (arith, s.numbered); id = omega (arith, s.id, le) }

  placed : (recs : List AsmRec) (i n : ℕ) (at : RowAt) → home_from count i recs n ≡ Some at → Place recs i n at
  unfolding home_from
  placed [] i n at e = absurd (cc)
  placed (rec ∷ recs) i n at e = placed_by rec recs i n at (nat_lt n (count rec)) refl (placed recs (suc i) (n - count rec) at) e

  -- the number of a row is that of the item that it is the row of
  pub number_is : (recs : List AsmRec) (n : ℕ) (at : RowAt) → home_from count 0 recs n ≡ Some at → rows_before count recs at.asm + at.row ≡ n
  number_is recs n at e =
      let p = placed recs 0 n at e in
      let a : at.asm ≡ p.asm = omega (arith, p.numbered) in
      ap (λ (k : ℕ). rows_before count recs k + at.row) a ∙ p.id

module _ (recs : List AsmRec) (known : Item → Bool) (i : Item) (at : RowAt) where
  pub known_parts : is_known_at recs known i at ≡ true → (row_of recs i ≡ Some at) × (known i ≡ true)
  known_parts e =
      let p = and_parts (list_any (same_row at) (listed (row_of recs i))) (known i) e in
      let r = from_any (same_row at) (listed (row_of recs i)) p.0 in
      let s : Some r.0 ≡ Some at = ap Some (sym (same_is at r.0 r.2)) in
      (from_listed (row_of recs i) r.0 r.1 ∙ s, p.1)

  pub known_from : row_of recs i ≡ Some at → known i ≡ true → is_known_at recs known i at ≡ true
  known_from e k =
      and_from (list_any (same_row at) (listed (row_of recs i))) (known i) (to_any (same_row at) (listed (row_of recs i)) at (to_listed (row_of recs i) at e) (is_same at at refl)) k
