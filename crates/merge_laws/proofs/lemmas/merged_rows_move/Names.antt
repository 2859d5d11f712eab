-- A kept type whose text can be printed keeps it, with the names of its enclosers, and its own name, its namespace and its encloser.
use Rattle.std.proofs.Common.{◌≡◌, ◌<◌, ◌≤◌, ℕ, zero, suc, ◌+◌, true, List, [], ◌∷◌, ◌++◌, length, map, Option, Some, None, ◌⊎◌, inl, inr, refl, sym, ap, ◌∙◌, arith}
use Rattle.std.specs.Prelude.{IsTrue, slice_get, codes}
use Rattle.std.specs.Option.{option_map, option_and_then}
use Rattle.std.proofs.lemmas.Bool.{cases_lt}
use Rattle.il_base.specs.declared.ids.TypeId.{TypeId}
use Rattle.il_base.specs.declared.table.TheConstants.{TYPE_DEF}
use Rattle.il_base.specs.declared.world_model.types.TypeDefRow.{TypeDefRow}
use Rattle.il_base.specs.declared.world_model.record.AsmRec.{AsmRec}
use Rattle.il_base.specs.world_model.Records.{IsRecord}
use Rattle.il_base.specs.world_model.Tokens.{token_of}
use Rattle.il_base.specs.world_model.Worlds.{types_in}
use Rattle.il_base.specs.core_table.Record.{core_record, record_with}
use Rattle.rules.specs.declared.link_rules.row_at.RowAt.{RowAt}
use Rattle.rules.specs.link_rules.CoreNames.{core_with}
use Rattle.rules.specs.link_rules.Types.{at_row, encloser_in, encloser}
use Rattle.rules.specs.link_rules.Cycles.{listed}
use Rattle.rules.specs.type_rules.Texts.{part_name, nested_name, row_name, name_at}
use Rattle.rules.specs.type_rules.Labels.{own_name, label_at, space_around, row_space, space_at, encloser_at}
use Rattle.base_laws.specs.walk_laws.Walks.{NestsTypes, ByEncloser}
use Rattle.base_laws.proofs.lemmas.walk_laws.Enclosing.{name_step, names_by, space_step, spaces_by, said_whole}
use Rattle.rules.specs.merge_rules.Numbers.{kept_types}
use Rattle.rules.specs.merge_rules.Names.{NewName}
use Rattle.rules.specs.merge_rules.Refs.{first_or}
use Rattle.rules.specs.merge_rules.Moved.{written_name, moved_type_row}
use Rattle.rules.specs.merge_rules.Restricted.{output_of}
use Rattle.rules.specs.change_rules.Change.{Keep}
use Rattle.rules.specs.world_change_rules.Places.{type_number}
use Rattle.rules.specs.merged_world_rules.Merge.{Merge, before, after, output, IsMerge}
use Rattle.rules.specs.merged_world_rules.Numbering.{number_at}
use Rattle.merge_laws.proofs.lemmas.merged_places.Ranks.{rank}
use Rattle.merge_laws.proofs.lemmas.merged_places.Rows.{place_within, place_has, place_past}
use Rattle.merge_laws.proofs.lemmas.merged_places.Kept.{keeps}
use Rattle.merge_laws.proofs.lemmas.merged_places.Worlds.{core_of, left_core, after_is, after_left, after_core, core_rec, core_at}
use Rattle.merge_laws.proofs.lemmas.merged_places.CoreTables.{type_same}
use Rattle.merge_laws.proofs.lemmas.merged_places.Tables.{number_type, type_kind, type_left}
use Rattle.merge_laws.proofs.lemmas.merged_places.Situations.{place, situation, Input, Core, Gone}
use Rattle.merge_laws.specs.merged_rows_move.Premises.{KeepsNames}
use Rattle.merge_laws.proofs.lemmas.merged_rows_move.RowsOf.{TypeStays}
use Rattle.merge_laws.proofs.lemmas.merged_rows_move.Members.{record_of}
use Rattle.merge_laws.proofs.lemmas.merged_rows_move.Renaming.{keeps_name}
use Rattle.merge_laws.proofs.lemmas.merged_rows_move.Nesting.{names_row_is, index_is, encloser_moved, encloser_input, no_encloser}

-- the rows of a record name types
nests : (rec : AsmRec) → IsRecord rec → NestsTypes rec
nests rec is k row e =
    let both = is.tokens.nested_classes k row e in
    let n = names_row_is rec row.nested_class both.0 in
    let o = names_row_is rec row.enclosing_class both.1 in
    ((n.place, index_is rec row.nested_class n, n.low), (o.place, index_is rec row.enclosing_class o, o.low))

-- ---- a name alone, to which enclosers add nothing

abbrev said_label : AsmRec → ℕ → ℕ → List ℕ
said_label rec zero k = []
said_label rec (suc n) k = own_name (slice_get rec.type_def k)

abbrev label_step : (ℕ → List ℕ) → Option ℕ → Option TypeDefRow → List ℕ
label_step outer o t = own_name t

labels_by : ByEncloser said_label label_step
labels_by = record { none = λ rec k. refl; next = λ rec n k. refl; same = λ f g o t h. refl; empty = λ f. refl }

label_is : (rec : AsmRec) (types : List TypeDefRow) → rec.type_def ≡ types → (k : ℕ) → said_label rec (length types) k ≡ own_name (slice_get rec.type_def k)
label_is rec [] e k = sym (ap (λ (ts : List TypeDefRow). own_name (slice_get ts k)) e)
label_is rec (t ∷ ts) e k = refl

module _ (m : Merge) (is : IsMerge m) (k : Keep) (stays : KeepsNames m k) where
  abbrev typ : RowAt → RowAt
  typ at = place m types_in number_type (type_kind m is) at

  abbrev new : RowAt → ℕ
  new at = rank (keeps types_in (before m) number_type m.kept) (number_at types_in (before m) at)

  abbrev Shown : RowAt → Type 0
  Shown at = IsTrue (k.shown (type_number (before m) at))

  written : (at : RowAt) (name : List ℕ) → Shown at → written_name (output m) at name ≡ name
  unfolding output_of
  written at name shown =
      ap (λ (o : Option NewName). first_or (map (λ (n : NewName). n.name) (listed o)) name)
      (keeps_name (before m) (λ (t : TypeId). k.shown t.0) (kept_types (before m) m.kept) at shown stays.apart)

  kept_around : (at : RowAt) (h : Input m types_in number_type (type_kind m is) at) (j : ℕ) → encloser h.there.rec at.row ≡ Some j → m.kept (number_type (number_at types_in (before m) (at_row at.asm j))) ≡ true
  kept_around at h j e = stays.enclosers at h.there.rec j h.there.here e h.keeps_it

  -- ---- the core library, where no type encloses another

  core_nested : (core_of m).nested_class ≡ []
  unfolding core_of core_with core_record record_with
  core_nested = refl

  left_nested : (left_core m).nested_class ≡ []
  unfolding left_core core_with core_record record_with
  left_nested = refl

  flat_encloser : (rec : AsmRec) (r : ℕ) → rec.nested_class ≡ [] → encloser rec r ≡ None
  unfolding encloser
  flat_encloser rec r none = ap (encloser_in (token_of TYPE_DEF (suc r))) none

  -- a row that isn't there has no encloser
  none_around : (at : RowAt) (rec : AsmRec) → slice_get (before m) at.asm ≡ Some rec → types_in rec ≤ at.row → (suc at.asm < length (before m)) ⊎ (length (before m) ≤ suc at.asm) → encloser rec at.row ≡ None
  none_around at rec e past (inl lt) = no_encloser rec at.row (record_of m is at.asm rec e lt) past
  none_around at rec e past (inr ge) =
      let asm = place_within (before m) at.asm rec e in
      flat_encloser rec at.row (ap (λ (r : AsmRec). r.nested_class) (core_rec m at rec e (omega (arith, ge, asm))) ∙ core_nested)

  gone_after : (at : RowAt) → Gone m types_in number_type (type_kind m is) at → slice_get (after m) (typ at).asm ≡ None
  gone_after at h =
      let two : length (after m) ≡ 2 = ap length (after_is m) in
      let asm = h.past in
      place_past (after m) (typ at).asm (omega (arith, asm, two))

  -- ---- what is said by a type's row and its encloser, where a written row says what it said

  module _ (said : AsmRec → ℕ → ℕ → List ℕ) (step : (ℕ → List ℕ) → Option ℕ → Option TypeDefRow → List ℕ) (by : ByEncloser said step)
      (moves : (f g : ℕ → List ℕ) (h : ℕ → ℕ) (o : Option ℕ) (at : RowAt) (rec : AsmRec) (t : TypeDefRow) → Shown at → ((j : ℕ) → o ≡ Some j → f (h j) ≡ g j)
      → step f (option_map h o) (Some (moved_type_row m.internal (output m) at rec t)) ≡ step g o (Some t)) where
    abbrev said_of : RowAt → Option AsmRec → List ℕ
    said_of at o = elim o [ None ↦ [] | Some rec ↦ said rec (length rec.type_def) at.row ]

    abbrev said_at : List AsmRec → RowAt → List ℕ
    said_at recs at = said_of at (slice_get recs at.asm)

    said_step : (n : ℕ) → ((x : RowAt) (g : Input m types_in number_type (type_kind m is) x) → Shown x → said m.left n (new x) ≡ said g.there.rec n x.row)
        → (at : RowAt) (h : Input m types_in number_type (type_kind m is) at) → Shown at → said m.left (suc n) (new at) ≡ said h.there.rec (suc n) at.row
    said_step n before_it at h shown =
        let row = place_has h.there.rec.type_def at.row h.there.below in
        let left = type_left m is at h.there.rec row.0 h.there h.earlier h.keeps_it h.there.here row.1 in
        let moved = encloser_moved m is at h (kept_around at h) in
        by.next m.left n (new at) ∙ (λ i. step (said m.left n) (moved i) (left i))
        ∙ moves (said m.left n) (said h.there.rec n) (λ j. new (at_row at.asm j)) (encloser h.there.rec at.row) at h.there.rec row.0 shown (λ j e. again j e (encloser_input m is at h (kept_around at h) j e))
        ∙ ap (step (said h.there.rec n) (encloser h.there.rec at.row)) (sym row.1) ∙ sym (by.next h.there.rec n at.row)
      where
        same_rec : (x y : AsmRec) → Some x ≡ Some y → x ≡ y
        same_rec x y e = cc

        again : (j : ℕ) → encloser h.there.rec at.row ≡ Some j → Input m types_in number_type (type_kind m is) (at_row at.asm j) → said m.left n (new (at_row at.asm j)) ≡ said h.there.rec n j
        again j e g =
            let same : g.there.rec ≡ h.there.rec = same_rec g.there.rec h.there.rec (sym g.there.here ∙ h.there.here) in
            before_it (at_row at.asm j) g (stays.shown at h.there.rec j h.there.here e shown) ∙ ap (λ (r : AsmRec). said r n j) same

    said_same : (n : ℕ) (at : RowAt) (h : Input m types_in number_type (type_kind m is) at) → Shown at → said m.left n (new at) ≡ said h.there.rec n at.row
    said_same zero at h shown = by.none m.left (new at) ∙ sym (by.none h.there.rec at.row)
    said_same (suc n) at h shown = said_step n (λ x g seen. said_same n x g seen) at h shown

    input_said : (at : RowAt) → Input m types_in number_type (type_kind m is) at → Shown at → said_at (after m) (typ at) ≡ said_at (before m) at
    input_said at h shown =
        let row = place_has h.there.rec.type_def at.row h.there.below in
        let left = type_left m is at h.there.rec row.0 h.there h.earlier h.keeps_it h.there.here row.1 in
        let n : ℕ = length m.left.type_def + length h.there.rec.type_def in
        let low = place_within m.left.type_def (new at) (moved_type_row m.internal (output m) at h.there.rec row.0) left in
        ap (said_at (after m)) h.moved ∙ ap (said_of (at_row 0 (new at))) (after_left m)
        ∙ sym (said_whole said step by (m.left ∷ []) stays.links_left 0 n (new at) m.left (after_left m) (nests m.left stays.record_left) low (omega arith))
        ∙ said_same n at h shown
        ∙ said_whole said step by m.inputs is.links at.asm n at.row h.there.rec h.there.here (nests h.there.rec (record_of m is at.asm h.there.rec h.there.here h.earlier)) h.there.below (omega arith)
        ∙ sym (ap (said_of at) h.there.here)

    no_such : (f g : ℕ → List ℕ) (j : ℕ) → None ≡ Some j → f j ≡ g j
    no_such f g j e = absurd (cc)

    flat_said : (rec : AsmRec) (n r : ℕ) (t : TypeDefRow) → rec.nested_class ≡ [] → slice_get rec.type_def r ≡ Some t → 0 < n → said rec n r ≡ step (λ j. []) None (Some t)
    flat_said rec zero r t none e some = absurd (omega (arith, some))
    flat_said rec (suc n) r t none e some =
        by.next rec n r ∙ (λ i. step (said rec n) (flat_encloser rec r none i) (e i)) ∙ by.same (said rec n) (λ j. []) None (Some t) (no_such (said rec n) (λ j. []))

    core_said : (at : RowAt) → Core m types_in number_type (type_kind m is) at → said_at (after m) (typ at) ≡ said_at (before m) at
    core_said at h =
        let row = place_has h.there.rec.type_def at.row h.there.below in
        let e : slice_get (core_of m).type_def at.row ≡ Some row.0 = ap (λ (rec : AsmRec). slice_get rec.type_def at.row) (sym (core_rec m at h.there.rec h.there.here h.last)) ∙ row.1 in
        let f : slice_get (left_core m).type_def h.row ≡ Some row.0 = type_same m at.row h.row h.goes ∙ e in
        let low = place_within (core_of m).type_def at.row row.0 e in
        let left = place_within (left_core m).type_def h.row row.0 f in
        ap (said_at (after m)) h.moved ∙ ap (said_of (at_row 1 h.row)) (after_core m)
        ∙ flat_said (left_core m) (length (left_core m).type_def) h.row row.0 left_nested f (omega (arith, left))
        ∙ sym (ap (said_of at) (core_at m at h.last) ∙ flat_said (core_of m) (length (core_of m).type_def) at.row row.0 core_nested e (omega (arith, low)))

    nothing_said : (rec : AsmRec) (n r : ℕ) → encloser rec r ≡ None → slice_get rec.type_def r ≡ None → said rec n r ≡ []
    nothing_said rec zero r none e = by.none rec r
    nothing_said rec (suc n) r none e = by.next rec n r ∙ (λ i. step (said rec n) (none i) (e i)) ∙ by.empty (said rec n)

    gone_by : (at : RowAt) → Gone m types_in number_type (type_kind m is) at → (o : Option AsmRec) → slice_get (before m) at.asm ≡ o → said_of at o ≡ []
    gone_by at h None e = refl
    gone_by at h (Some rec) e =
        let past = h.none_before rec e in
        nothing_said rec (length rec.type_def) at.row (none_around at rec e past (cases_lt (suc at.asm) (length (before m)))) (place_past rec.type_def at.row past)

    said_moved : (at : RowAt) → TypeStays m is at → Shown at → said_at (after m) (typ at) ≡ said_at (before m) at
    said_moved at there shown = elim (situation m types_in number_type (type_kind m is) at there) [
      | inl h ↦ input_said at h shown
      | inr other ↦ elim other [ inl h ↦ core_said at h | inr h ↦ ap (said_of (typ at)) (gone_after at h) ∙ sym (gone_by at h (slice_get (before m) at.asm) refl) ]
    ]

  -- ---- names with those of enclosers

  part_same : (o : Option ℕ) (at : RowAt) (rec : AsmRec) (t : TypeDefRow) (f : ℕ → ℕ) → Shown at → part_name (option_map f o) (moved_type_row m.internal (output m) at rec t) ≡ part_name o t
  part_same None at rec t f shown = ap (λ (name : List ℕ). part_name None (record t { name = name })) (written at t.name shown)
  part_same (Some j) at rec t f shown = written at t.name shown

  nested_same : (o : Option ℕ) (f : ℕ → ℕ) (outer inner : ℕ → List ℕ) (x y : List ℕ) → x ≡ y → ((j : ℕ) → o ≡ Some j → outer (f j) ≡ inner j) → nested_name outer (option_map f o) x ≡ nested_name inner o y
  nested_same None f outer inner x y e more = e
  nested_same (Some j) f outer inner x y e more = λ i. more j refl i ++ codes "+" ++ e i

  pub name_moved : (at : RowAt) → TypeStays m is at → Shown at → name_at (after m) (typ at) ≡ name_at (before m) at
  name_moved =
      said_moved row_name name_step names_by
      (λ f g h o at rec t shown more. nested_same o h f g (part_name (option_map h o) (moved_type_row m.internal (output m) at rec t)) (part_name o t) (part_same o at rec t h shown) more)

  -- ---- namespaces

  space_same : (f g : ℕ → List ℕ) (h : ℕ → ℕ) (o : Option ℕ) (own : List ℕ) → ((j : ℕ) → o ≡ Some j → f (h j) ≡ g j) → space_around f (option_map h o) own ≡ space_around g o own
  space_same f g h None own more = refl
  space_same f g h (Some j) own more = more j refl

  pub space_moved : (at : RowAt) → TypeStays m is at → Shown at → space_at (after m) (typ at) ≡ space_at (before m) at
  space_moved = said_moved row_space space_step spaces_by (λ f g h o at rec t shown more. space_same f g h o t.namespace more)

  -- ---- names alone

  label_by : (at : RowAt) (o : Option AsmRec) → said_of said_label label_step labels_by (λ f g h o at rec t shown more. written at t.name shown) at o ≡ elim o [ None ↦ [] | Some rec ↦ own_name (slice_get rec.type_def at.row) ]
  label_by at None = refl
  label_by at (Some rec) = label_is rec rec.type_def refl at.row

  pub label_moved : (at : RowAt) → TypeStays m is at → Shown at → label_at (after m) (typ at) ≡ label_at (before m) at
  label_moved at there shown =
      sym (label_by (typ at) (slice_get (after m) (typ at).asm))
      ∙ said_moved said_label label_step labels_by (λ f g h o at rec t shown more. written at t.name shown) at there shown ∙ label_by at (slice_get (before m) at.asm)

  -- ---- enclosers

  abbrev around_of : RowAt → Option AsmRec → Option RowAt
  around_of at o = option_and_then (λ (rec : AsmRec). option_map (at_row at.asm) (encloser rec at.row)) o

  input_by : (at : RowAt) (h : Input m types_in number_type (type_kind m is) at) (o : Option ℕ) → encloser h.there.rec at.row ≡ o
      → option_map (at_row 0) (option_map (λ j. new (at_row at.asm j)) o) ≡ option_map typ (option_map (at_row at.asm) o)
  input_by at h None e = refl
  input_by at h (Some j) e = ap (λ (x : RowAt). Some x) (sym (encloser_input m is at h (kept_around at h) j e).moved)

  input_around : (at : RowAt) → Input m types_in number_type (type_kind m is) at → encloser_at (after m) (typ at) ≡ option_map typ (encloser_at (before m) at)
  input_around at h =
      ap (encloser_at (after m)) h.moved ∙ ap (around_of (at_row 0 (new at))) (after_left m) ∙ ap (option_map (at_row 0)) (encloser_moved m is at h (kept_around at h))
      ∙ input_by at h (encloser h.there.rec at.row) refl ∙ sym (ap (λ (o : Option AsmRec). option_map typ (around_of at o)) h.there.here)

  core_around : (at : RowAt) → Core m types_in number_type (type_kind m is) at → encloser_at (after m) (typ at) ≡ option_map typ (encloser_at (before m) at)
  core_around at h =
      ap (encloser_at (after m)) h.moved ∙ ap (around_of (at_row 1 h.row)) (after_core m) ∙ ap (option_map (at_row 1)) (flat_encloser (left_core m) h.row left_nested)
      ∙ sym (ap (λ (o : Option AsmRec). option_map typ (around_of at o)) (core_at m at h.last) ∙ ap (λ (o : Option ℕ). option_map typ (option_map (at_row at.asm) o)) (flat_encloser (core_of m) at.row core_nested))

  none_by : (at : RowAt) → Gone m types_in number_type (type_kind m is) at → (o : Option AsmRec) → slice_get (before m) at.asm ≡ o → option_map typ (around_of at o) ≡ None
  none_by at h None e = refl
  none_by at h (Some rec) e =
      ap (λ (o : Option ℕ). option_map typ (option_map (at_row at.asm) o)) (none_around at rec e (h.none_before rec e) (cases_lt (suc at.asm) (length (before m))))

  pub around_moved : (at : RowAt) → TypeStays m is at → encloser_at (after m) (typ at) ≡ option_map typ (encloser_at (before m) at)
  around_moved at there = elim (situation m types_in number_type (type_kind m is) at there) [
    | inl h ↦ input_around at h
    | inr other ↦ elim other [ inl h ↦ core_around at h | inr h ↦ ap (around_of (typ at)) (gone_after at h) ∙ sym (none_by at h (slice_get (before m) at.asm) refl) ]
  ]
