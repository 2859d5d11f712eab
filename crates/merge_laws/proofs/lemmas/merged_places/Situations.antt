-- Where a row of one kind goes: a kept row of an input to the place of its new number, a row of the core library to its row of the
-- output's core library, and a row that isn't there to where there is none.
use Rattle.std.proofs.Common.{◌≡◌, ◌<◌, ◌≤◌, ℕ, suc, Bool, true, false, nat_lt, List, length, Option, Some, None, ◌⊎◌, inl, inr, refl, sym, ap, ◌∙◌, arith}
use Rattle.std.specs.Prelude.{slice_get, ◌||◌, if◌then◌else◌}
use Rattle.std.specs.List.{list_any}
use Rattle.std.proofs.lemmas.Bool.{lt-ltb, ltb-true, ltb-false, cases_lt}
use Rattle.il_base.specs.declared.ids.Item.{Item}
use Rattle.il_base.specs.declared.world_model.record.AsmRec.{AsmRec}
use Rattle.rules.specs.declared.link_rules.row_at.RowAt.{RowAt}
use Rattle.rules.specs.link_rules.Types.{at_row}
use Rattle.rules.specs.link_rules.Cycles.{listed}
use Rattle.rules.specs.merged_world_rules.Merge.{Merge, before, after}
use Rattle.rules.specs.merged_world_rules.Numbering.{number_at, new_number, place_numbered, has_row, new_place}
use Rattle.merge_laws.proofs.lemmas.merged_places.Ranks.{rank}
use Rattle.merge_laws.proofs.lemmas.merged_places.Rows.{place_within, place_past, IsThere}
use Rattle.merge_laws.proofs.lemmas.merged_places.Kept.{keeps, those}
use Rattle.merge_laws.proofs.lemmas.merged_places.Worlds.{after_is}
use Rattle.merge_laws.proofs.lemmas.merged_places.Moving.{Kind, Stays, place_of, place_kept, place_core}

-- ---- whether a row is there

module _ (count : AsmRec → ℕ) (recs : List AsmRec) (at : RowAt) where
  or_none : (b : Bool) → (b || false) ≡ b
  or_none true = refl
  or_none false = refl

  pub there_has : IsThere count recs at → has_row count recs at ≡ true
  there_has h =
      ap (λ (o : Option AsmRec). list_any (λ (rec : AsmRec). nat_lt at.row (count rec)) (listed o)) h.here
      ∙ or_none (nat_lt at.row (count h.rec)) ∙ lt-ltb at.row (count h.rec) h.below

  has_by : (o : Option AsmRec) → slice_get recs at.asm ≡ o → list_any (λ (rec : AsmRec). nat_lt at.row (count rec)) (listed o) ≡ true → IsThere count recs at
  has_by None e h = absurd (cc)
  has_by (Some rec) e h = record { rec = rec; here = e; below = ltb-true at.row (count rec) (sym (or_none (nat_lt at.row (count rec))) ∙ h) }

  pub has_there : has_row count recs at ≡ true → IsThere count recs at
  has_there h = has_by (slice_get recs at.asm) refl h

  -- no assembly has the row
  abbrev pub HasNone : Type 0
  HasNone = (rec : AsmRec) → slice_get recs at.asm ≡ Some rec → count rec ≤ at.row

  pub has_none : has_row count recs at ≡ false → HasNone
  has_none h rec e =
      ltb-false at.row (count rec)
      (sym (or_none (nat_lt at.row (count rec))) ∙ sym (ap (λ (o : Option AsmRec). list_any (λ (rec : AsmRec). nat_lt at.row (count rec)) (listed o)) e) ∙ h)

-- ---- the three ways

module _ (m : Merge) (count : AsmRec → ℕ) (number_item : ℕ → Item) (kind : Kind m count number_item) where
  abbrev pub place : RowAt → RowAt
  place at = new_place count kind.core (after m) (before m) (those count (before m) number_item m.kept) at

  pub record Input (at : RowAt) : Type 0 where
    pub there : IsThere count (before m) at
    pub earlier : suc at.asm < length (before m)
    pub keeps_it : m.kept (number_item (number_at count (before m) at)) ≡ true
    pub moved : place at ≡ at_row 0 (rank (keeps count (before m) number_item m.kept) (number_at count (before m) at))

  pub record Core (at : RowAt) : Type 0 where
    pub there : IsThere count (before m) at
    pub last : suc at.asm ≡ length (before m)
    pub row : ℕ
    pub goes : kind.core.to at.row ≡ Some row
    pub moved : place at ≡ at_row 1 row

  pub record Gone (at : RowAt) : Type 0 where
    pub none_before : HasNone count (before m) at
    pub none_after : HasNone count (after m) (place at)
    pub past : (place at).asm ≡ 2

  pub after_length : length (after m) ≡ 2
  after_length = ap length (after_is m)

  -- a row that is there
  pub place_there : (at : RowAt) → IsThere count (before m) at → place at ≡ place_of m count number_item kind at
  place_there at h =
      ap (λ (b : Bool). if b then place_numbered count (after m) (new_number count kind.core (before m) (those count (before m) number_item m.kept) (number_at count (before m) at)) else at_row (length (after m)) 0)
      (there_has count (before m) at h)

  place_absent : (at : RowAt) → has_row count (before m) at ≡ false → place at ≡ at_row (length (after m)) 0
  place_absent at e =
      ap (λ (b : Bool). if b then place_numbered count (after m) (new_number count kind.core (before m) (those count (before m) number_item m.kept) (number_at count (before m) at)) else at_row (length (after m)) 0) e

  past_none : (at : RowAt) → at ≡ at_row (length (after m)) 0 → HasNone count (after m) at
  past_none at e rec here =
      let asm : at.asm ≡ length (after m) = ap (λ (x : RowAt). x.asm) e in
      let bad : None ≡ Some rec = sym (place_past (after m) (length (after m)) (omega arith)) ∙ ap (slice_get (after m)) (sym asm) ∙ here in
      absurd (cc)

  gone_at : (at : RowAt) → has_row count (before m) at ≡ false → Gone at
  gone_at at e =
      let p = place_absent at e in
      record {
        none_before = has_none count (before m) at e;
        none_after = past_none (place at) p;
        past = ap (λ (x : RowAt). x.asm) p ∙ after_length;
      }

  there_by : (at : RowAt) → IsThere count (before m) at → Stays m count number_item kind at → (suc at.asm < length (before m)) ⊎ (length (before m) ≤ suc at.asm) → Input at ⊎ (Core at ⊎ Gone at)
  there_by at h stays (inl lt) =
      let k = stays.0 lt in
      inl (record { there = h; earlier = lt; keeps_it = k; moved = place_there at h ∙ place_kept m count number_item kind at h lt k })
  there_by at h stays (inr ge) =
      let asm = place_within (before m) at.asm h.rec h.here in
      let last : suc at.asm ≡ length (before m) = omega (arith, asm, ge) in
      let goes = stays.1 last in
      inr (inl (record { there = h; last = last; row = goes.0; goes = goes.1; moved = place_there at h ∙ place_core m count number_item kind at goes.0 h last goes.1 }))

  situation_by : (at : RowAt) → (IsThere count (before m) at → Stays m count number_item kind at) → (b : Bool) → has_row count (before m) at ≡ b → Input at ⊎ (Core at ⊎ Gone at)
  situation_by at stays true e = let h = has_there count (before m) at e in there_by at h (stays h) (cases_lt (suc at.asm) (length (before m)))
  situation_by at stays false e = inr (inr (gone_at at e))

  pub situation : (at : RowAt) → (IsThere count (before m) at → Stays m count number_item kind at) → Input at ⊎ (Core at ⊎ Gone at)
  situation at stays = situation_by at stays (has_row count (before m) at) refl
