-- The members of a kept type: of its run those that are kept, in their order.
use Rattle.std.proofs.Common.{◌≡◌, ◌<◌, ◌≤◌, ℕ, zero, suc, ◌+◌, ◌-◌, Bool, true, false, cond, List, ◌∷◌, length, map, drop, Some, refl, sym, ap, ◌∙◌, arith, length-take, length-drop}
use Rattle.std.specs.Prelude.{slice_get}
use Rattle.std.specs.List.{filter, range_with_len}
use Rattle.il_base.specs.declared.ids.Item.{Item}
use Rattle.il_base.specs.declared.world_model.record.AsmRec.{AsmRec}
use Rattle.il_base.specs.world_model.Worlds.{rows_before}
use Rattle.rules.specs.declared.link_rules.row_at.RowAt.{RowAt}
use Rattle.rules.specs.link_rules.Types.{at_row}
use Rattle.rules.specs.link_rules.Members.{run_of}
use Rattle.rules.specs.type_rules.Rows.{run_places}
use Rattle.rules.specs.merge_rules.Rows.{run_at}
use Rattle.rules.specs.merged_world_rules.Merge.{Merge, before}
use Rattle.rules.specs.merged_world_rules.Numbering.{in_inputs, number_at}
use Rattle.merge_laws.proofs.lemmas.merged_places.Ranks.{rank, rank_from, rank_is, rank_split, rank_rises, ranks_are}
use Rattle.merge_laws.proofs.lemmas.merged_places.Rows.{IsThere, stretch_before}
use Rattle.merge_laws.proofs.lemmas.merged_places.Kept.{keeps, those, how_many, run_is}
use Rattle.merge_laws.proofs.lemmas.merged_places.Moving.{Kind, place_kept}
use Rattle.merge_laws.proofs.lemmas.merged_places.Situations.{place, place_there}

-- how long a run is
pub run_length : {R : Type 0} (first end : ℕ) (rows : List R) → 1 ≤ first → first ≤ end → end ≤ suc (length rows) → length (run_of first end rows) ≡ end - first
run_length first end rows some le within =
    let rest : length (drop (first - 1) rows) ≡ length rows - (first - 1) = length-drop (first - 1) rows in
    let taken = length-take (end - first) (drop (first - 1) rows) in
    omega (arith, rest, taken, some, le, within)

module _ {R : Type 0} (m : Merge) (rows : AsmRec → List R) (number_item : ℕ → Item) (kind : Kind m (λ rec. length (rows rec)) number_item) (flag : RowAt → Bool)
    (flagged : (at : RowAt) → IsThere (λ rec. length (rows rec)) (before m) at → flag at ≡ m.kept (number_item (number_at (λ rec. length (rows rec)) (before m) at))) where
  abbrev count : AsmRec → ℕ
  count rec = length (rows rec)

  abbrev moved : RowAt → RowAt
  moved at = place m count number_item kind at

  abbrev test : ℕ → Bool
  test = keeps count (before m) number_item m.kept

  abbrev start : ℕ → ℕ
  start a = rows_before count (before m) a

  -- ---- a stretch of rows of an input

  one_row : (a s : ℕ) (len : ℕ) (b : Bool) → test (start a + s) ≡ b → flag (at_row a s) ≡ b → (b ≡ true → moved (at_row a s) ≡ at_row 0 (rank test (start a + s)))
      → map moved (filter flag (map (at_row a) (range_with_len (s + 1) len))) ≡ map (at_row 0) (map (rank test) (filter test (range_with_len (start a + s + 1) len)))
      → map moved (cond b (at_row a s ∷ filter flag (map (at_row a) (range_with_len (s + 1) len))) (filter flag (map (at_row a) (range_with_len (s + 1) len))))
      ≡ map (at_row 0) (map (rank test) (cond b ((start a + s) ∷ filter test (range_with_len (start a + s + 1) len)) (filter test (range_with_len (start a + s + 1) len))))
  one_row a s len true e f here more = λ i. here refl i ∷ more i
  one_row a s len false e f here more = more

  stretch : (a : ℕ) (rec : AsmRec) → slice_get (before m) a ≡ Some rec → suc a < length (before m) → (s len : ℕ) → s + len ≤ count rec
      → map moved (filter flag (map (at_row a) (range_with_len s len))) ≡ map (at_row 0) (map (rank test) (filter test (range_with_len (start a + s) len)))
  stretch a rec e lt s zero le = refl
  stretch a rec e lt s (suc len) le =
      let x : RowAt = at_row a s in
      let there : IsThere count (before m) (at_row a s) = record { rec = rec; here = e; below = omega (arith, le) } in
      let f : flag (at_row a s) ≡ test (start a + s) = flagged (at_row a s) there in
      let z : start a + (s + 1) ≡ start a + s + 1 = omega arith in
      let more = stretch a rec e lt (s + 1) len (omega (arith, le)) ∙ ap (λ (k : ℕ). map (at_row 0) (map (rank test) (filter test (range_with_len k len)))) z in
      one_row a s len (flag (at_row a s)) (sym f) refl
      (λ kept. place_there m count number_item kind (at_row a s) there ∙ place_kept m count number_item kind (at_row a s) there lt (sym f ∙ kept)) more
      ∙ ap (λ (b : Bool). map (at_row 0) (map (rank test) (cond b ((start a + s) ∷ filter test (range_with_len (start a + s + 1) len)) (filter test (range_with_len (start a + s + 1) len))))) f

  -- ---- a run of an input's type

  pub run_moved : (a : ℕ) (rec : AsmRec) (first end : ℕ) → slice_get (before m) a ≡ Some rec → suc a < length (before m) → 1 ≤ first → first ≤ end → end ≤ suc (count rec)
      → map (at_row 0) (run_places (run_at (those count (before m) number_item m.kept) a first) (run_at (those count (before m) number_item m.kept) a end) (rows m.left))
      ≡ map moved (filter flag (map (at_row a) (run_places first end (rows rec))))
  run_moved a rec first end e lt some le within =
      let s : ℕ = first - 1 in
      let len : ℕ = end - first in
      let x : ℕ = rank test (start a + (first - 1)) in
      let y : ℕ = rank test (start a + (end - 1)) in
      let begins = run_is count (before m) number_item m.kept a first rec e lt (omega (arith, le, within)) in
      let ends = run_is count (before m) number_item m.kept a end rec e lt (omega (arith, within)) in
      let split = rank_split test 0 (start a + (first - 1)) (end - first) in
      let whole : rank test (start a + (end - 1)) ≡ rank_from test 0 (start a + (first - 1) + (end - first)) = rank_is test (start a + (end - 1)) ∙ ap (rank_from test 0) (omega (arith, some, le)) in
      let part = rank_is test (start a + (first - 1)) in
      let place : rank_from test (0 + (start a + (first - 1))) (end - first) ≡ rank_from test (start a + (first - 1)) (end - first) = ap (λ (k : ℕ). rank_from test k (end - first)) (omega arith) in
      let bound = stretch_before count (before m) a (length (before m) - 1) (end - 1) rec e (omega (arith, within)) (omega (arith, lt)) in
      let up = rank_rises test (start a + (end - 1)) (in_inputs count (before m)) bound in
      let all = how_many count (before m) number_item m.kept in
      let counted = kind.counted in
      let long : length (run_of (suc x) (suc y) (rows m.left)) ≡ suc y - suc x = run_length (suc x) (suc y) (rows m.left) (omega arith) (omega (arith, split, whole, part, place)) (omega (arith, up, all, counted)) in
      let size : length (run_of (suc x) (suc y) (rows m.left)) ≡ rank_from test (start a + (first - 1)) (end - first) = omega (arith, long, split, whole, part, place) in
      let front : suc x - 1 ≡ x = omega arith in
      let old : length (run_of first end (rows rec)) ≡ end - first = run_length first end (rows rec) some le within in
      (λ i. map (at_row 0) (run_places (begins i) (ends i) (rows m.left)))
      ∙ (λ i. map (at_row 0) (range_with_len (front i) (size i)))
      ∙ ap (map (at_row 0)) (sym (ranks_are test (start a + (first - 1)) (end - first)))
      ∙ sym (stretch a rec e lt (first - 1) (end - first) (omega (arith, some, le, within)))
      ∙ ap (λ (k : ℕ). map moved (filter flag (map (at_row a) (range_with_len (first - 1) k)))) (sym old)

  -- ---- a run of the core library's

  core_row : (a s len : ℕ) (b : Bool) → flag (at_row a s) ≡ b → b ≡ true → moved (at_row a s) ≡ at_row 1 s
      → map moved (filter flag (map (at_row a) (range_with_len (s + 1) len))) ≡ map (at_row 1) (range_with_len (s + 1) len)
      → map moved (cond b (at_row a s ∷ filter flag (map (at_row a) (range_with_len (s + 1) len))) (filter flag (map (at_row a) (range_with_len (s + 1) len)))) ≡ map (at_row 1) (range_with_len s (suc len))
  core_row a s len true e h here more = λ i. here i ∷ more i
  core_row a s len false e h here more = absurd (cc)

  pub core_stretch : (a : ℕ) (rec : AsmRec) → slice_get (before m) a ≡ Some rec → suc a ≡ length (before m) → ((at : RowAt) → IsThere count (before m) at → suc at.asm ≡ length (before m) → flag at ≡ true)
      → ((at : RowAt) → IsThere count (before m) at → suc at.asm ≡ length (before m) → moved at ≡ at_row 1 at.row) → (s len : ℕ) → len ≤ count rec - s
      → map moved (filter flag (map (at_row a) (range_with_len s len))) ≡ map (at_row 1) (range_with_len s len)
  core_stretch a rec e last flags moves s zero le = refl
  core_stretch a rec e last flags moves s (suc len) le =
      let there : IsThere count (before m) (at_row a s) = record { rec = rec; here = e; below = omega (arith, le) } in
      core_row a s len (flag (at_row a s)) refl (flags (at_row a s) there last) (moves (at_row a s) there last)
      (core_stretch a rec e last flags moves (s + 1) len (omega (arith, le)))
