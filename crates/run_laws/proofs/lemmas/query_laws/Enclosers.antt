-- The type around a shown type moves with it, and is kept and shown (II.22.32).
use Rattle.std.proofs.Common.{◌≡◌, ℕ, Bool, ◌&&◌, List, Option, Some, None, refl, sym, ap, subst, ◌∙◌}
use Rattle.std.specs.Prelude.{IsTrue}
use Rattle.std.specs.Option.{option_map, option_and_then}
use Rattle.std.proofs.lemmas.Bool.{and_from}
use Rattle.il_base.specs.declared.world_model.record.AsmRec.{AsmRec}
use Rattle.il_base.specs.world_model.Worlds.{types_in}
use Rattle.rules.specs.declared.link_rules.row_at.RowAt.{RowAt}
use Rattle.rules.specs.link_rules.Members.{type_home}
use Rattle.rules.specs.type_rules.Labels.{encloser_at}
use Rattle.rules.specs.view_rules.Answers.{encloser_query}
use Rattle.rules.specs.change_rules.Change.{Change}
use Rattle.rules.specs.world_change_rules.Places.{Places, type_numbered, type_number}
use Rattle.rules.specs.world_change_rules.Rows.{RowsMove}
use Rattle.rules.specs.world_change_rules.Kept.{KeepsRows}
use Rattle.run_laws.proofs.lemmas.query_laws.Ids.{has_number}

module _ (k : Change) (kept : RowAt → Bool) (p : Places) (after before : List AsmRec) (r : RowsMove k kept p after before) (keeps : KeepsRows k.keep kept before) where
  abbrev Shown : RowAt → Type 0
  Shown at = IsTrue (k.keep.shown (type_number before at))

  -- the row of a shown type
  row_shown : (t : ℕ) (at : RowAt) → IsTrue (k.keep.shown t) → type_home before (type_numbered t) ≡ Some at → Shown at
  row_shown t at h e = subst (λ (n : ℕ). IsTrue (k.keep.shown n)) (sym (has_number types_in before t at e)) h

  found_by : (at : RowAt) → Shown at → (o : Option RowAt) → encloser_at before at ≡ o → option_map (type_number after) (option_map p.typ o) ≡ option_map k.rho.typ (option_map (type_number before) o)
  found_by at h None e = refl
  found_by at h (Some x) e =
      let around = keeps.enclosers at x h e in
      ap (λ (n : ℕ). Some n) (r.places.types x around.1.0 around.1.1 (keeps.shown (type_number before x) around.0))

  around_by : (o : Option RowAt) → ((at : RowAt) → o ≡ Some at → Shown at)
      → option_map (type_number after) (option_and_then (encloser_at after) (option_map p.typ o)) ≡ option_map k.rho.typ (option_map (type_number before) (option_and_then (encloser_at before) o))
  around_by None h = refl
  around_by (Some at) h =
      let seen : Shown at = h at refl in
      ap (option_map (type_number after)) ((r.types at (keeps.shown (type_number before at) seen)).encloser seen) ∙ found_by at seen (encloser_at before at) refl

  pub encloser_moved : (t : ℕ) → IsTrue (k.keep.shown t) → encloser_query after (k.rho.typ t) ≡ option_map k.rho.typ (encloser_query before t)
  unfolding encloser_query
  encloser_moved t h =
      ap (λ (o : Option RowAt). option_map (type_number after) (option_and_then (encloser_at after) o)) (r.places.type_homes t (keeps.shown t h))
      ∙ around_by (type_home before (type_numbered t)) (λ at e. row_shown t at h e)

  around_kept : (u : ℕ) (at : RowAt) → Shown at → (o : Option RowAt) → encloser_at before at ≡ o → option_map (type_number before) o ≡ Some u → IsTrue (k.keep.typ u && k.keep.shown u)
  around_kept u at h None e is = absurd (cc)
  around_kept u at h (Some x) e is =
      let same : type_number before x ≡ u = cc in
      let seen = (keeps.enclosers at x h e).0 in
      subst (λ (n : ℕ). IsTrue (k.keep.typ n && k.keep.shown n)) same (and_from (k.keep.typ (type_number before x)) (k.keep.shown (type_number before x)) (keeps.shown (type_number before x) seen) seen)

  kept_by : (u : ℕ) (o : Option RowAt) → ((at : RowAt) → o ≡ Some at → Shown at) → option_map (type_number before) (option_and_then (encloser_at before) o) ≡ Some u → IsTrue (k.keep.typ u && k.keep.shown u)
  kept_by u None h is = absurd (cc)
  kept_by u (Some at) h is = around_kept u at (h at refl) (encloser_at before at) refl is

  pub encloser_kept : (t u : ℕ) → IsTrue (k.keep.shown t) → encloser_query before t ≡ Some u → IsTrue (k.keep.typ u && k.keep.shown u)
  unfolding encloser_query
  encloser_kept t u h is = kept_by u (type_home before (type_numbered t)) (λ at e. row_shown t at h e) is
