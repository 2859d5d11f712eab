-- The new names of kept types by ids are those by rows.
use Rattle.std.proofs.Common.{◌≡◌, ℕ, Bool, true, false, List, [], ◌∷◌, ◌++◌, map, Option, Some, None, refl}
use Rattle.std.specs.Prelude.{find, nat_eq}
use Rattle.il_base.specs.declared.world_model.record.AsmRec.{AsmRec}
use Rattle.il_base.specs.world_model.Worlds.{type_id}
use Rattle.rules.specs.declared.link_rules.row_at.RowAt.{RowAt}
use Rattle.rules.specs.link_rules.Cycles.{listed, same_row}
use Rattle.rules.specs.merge_rules.Numbers.{Kept, kept_types}
use Rattle.rules.specs.merge_rules.Names.{NewName, named_by, names_from, new_names, rival, fresh_name}
use Rattle.rules.specs.merge_rules.Refs.{first_or}
use Rattle.rules.specs.merge_rules.Moved.{is_renamed}
use Rattle.merge_plan.specs.Plans.{named}
use Rattle.merged_tables.specs.merged_types.Types.{name_by}
use Rattle.merged_tables.proofs.lemmas.merged_types.There.{IsThere, AllThere, types_there, ids_tell}

abbrev AllNamed : List AsmRec → List NewName → Type 0
AllNamed recs [] = Unit {0}
AllNamed recs (n ∷ ns) = IsThere recs n.typ × AllNamed recs ns

module _ (recs : List AsmRec) where
  named_push : (ns : List NewName) (n : NewName) → AllNamed recs ns → IsThere recs n.typ → AllNamed recs (ns ++ n ∷ [])
  named_push [] n hs h = (h, tt)
  named_push (m ∷ ns) n hs h = (hs.0, named_push ns n hs.1 h)

  named_one : (kept : List RowAt) (names : List NewName) (at : RowAt) (r : Option RowAt) → AllNamed recs names → IsThere recs at → AllNamed recs (named_by recs kept names at r)
  named_one kept names at None hs h = hs
  named_one kept names at (Some r) hs h = named_push names (record { typ = at; name = fresh_name recs kept names at }) hs h

  named_all : (kept earlier : List RowAt) (names : List NewName) (rest : List RowAt) → AllNamed recs names → AllThere recs rest → AllNamed recs (names_from recs kept earlier names rest)
  named_all kept earlier names [] hs gs = hs
  named_all kept earlier names (at ∷ rest) hs gs =
      named_all kept (earlier ++ at ∷ []) (named_by recs kept names at (rival recs earlier at)) rest (named_one kept names at (rival recs earlier at) hs gs.0) gs.1

  names_there : (kept : Kept) → AllNamed recs (new_names recs (kept_types recs kept))
  unfolding new_names
  names_there kept = named_all (kept_types recs kept) [] [] (kept_types recs kept) tt (types_there recs kept)

  abbrev named_as : RowAt → List NewName → List ℕ → List ℕ
  named_as at ns name = first_or (map (λ (n : NewName). n.name) (listed (find (is_renamed at) ns))) name

  name_case : (at : RowAt) (n : NewName) (ns : List NewName) (name : List ℕ) (b : Bool) → nat_eq (type_id recs n.typ.asm n.typ.row).0 (type_id recs at.asm at.row).0 ≡ b → same_row at n.typ ≡ b
      → name_by (map (named recs) ns) (type_id recs at.asm at.row) name ≡ named_as at ns name
      → name_by (map (named recs) (n ∷ ns)) (type_id recs at.asm at.row) name ≡ named_as at (n ∷ ns) name
  name_case at n ns name true e f h = rw (e, f) refl
  name_case at n ns name false e f h = rw (e, f) h

  pub names_tell : (at : RowAt) → IsThere recs at → (ns : List NewName) (name : List ℕ) → AllNamed recs ns
      → name_by (map (named recs) ns) (type_id recs at.asm at.row) name ≡ named_as at ns name
  names_tell at is [] name hs = refl
  names_tell at is (n ∷ ns) name hs = name_case at n ns name (same_row at n.typ) (ids_tell recs at n.typ is hs.0) refl (names_tell at is ns name hs.1)

  pub names_are : (kept : Kept) (at : RowAt) → IsThere recs at → (name : List ℕ)
      → name_by (map (named recs) (new_names recs (kept_types recs kept))) (type_id recs at.asm at.row) name ≡ named_as at (new_names recs (kept_types recs kept)) name
  names_are kept at is name = names_tell at is (new_names recs (kept_types recs kept)) name (names_there kept)
