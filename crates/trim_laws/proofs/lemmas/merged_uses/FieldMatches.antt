-- The first field of a type that has a name and a type.
use Rattle.std.proofs.Common.{◌≡◌, ℕ, Bool, true, false, not, ◌&&◌, ◌||◌, List, [], map, Option, Some, None, refl, sym, ap, ◌∙◌}
use Rattle.std.specs.Prelude.{slice_get}
use Rattle.std.specs.List.{list_any, flat_map}
use Rattle.std.specs.Option.{option_map, option_and_then}
use Rattle.std.proofs.lemmas.Bool.{and_parts, and_from}
use Rattle.std.proofs.lemmas.List.{append-nil}
use Rattle.il_base.specs.declared.world_model.known.Known.{Known}
use Rattle.il_base.specs.declared.world_model.known.Known.TheVariants.{Good, Bad}
use Rattle.il_base.specs.declared.world_model.expr.TypeExpr.{TypeExpr}
use Rattle.il_base.specs.declared.world_model.types.TypeDefRow.{TypeDefRow}
use Rattle.il_base.specs.declared.world_model.members.FieldRow.{FieldRow}
use Rattle.il_base.specs.declared.world_model.record.AsmRec.{AsmRec}
use Rattle.il_base.specs.world_model.Core.{same_name}
use Rattle.il_base.specs.world_model.Exprs as exprs
use Rattle.il_base.specs.world_model.Exprs.{same_expr}
use Rattle.il_base.specs.world_model.Worlds.{known_then, sig_expr}
use Rattle.il_base.proofs.lemmas.world_model.SameExpr.{same_only, same_self}
use Rattle.rules.specs.declared.link_rules.row_at.RowAt.{RowAt}
use Rattle.rules.specs.link_rules.Types.{at_row}
use Rattle.rules.specs.link_rules.Signatures.{names_at}
use Rattle.rules.specs.link_rules.Members.{args_of, is_compiler_controlled, find_in_run, is_field_type, is_field, field_in, field_of_type}
use Rattle.rules.specs.link_rules.Cycles.{listed, home_of}
use Rattle.rules.specs.type_rules.Rows.{field_row_at, fields_of_type, run_places}
use Rattle.run_laws.specs.query_laws.Laws.{first_at}
use Rattle.run_laws.proofs.lemmas.query_laws.Runs.{first_in_run}
use Rattle.run_laws.proofs.lemmas.marked_call_laws.Opened.{put_same}
use Rattle.merge_laws.proofs.lemmas.merged_references.Scopes.{names_decide}
use Rattle.trim_laws.proofs.lemmas.merged_uses.Signed.{none_stands}
use Rattle.trim_laws.proofs.lemmas.merged_uses.Matches.{first_sharper}

-- the type of a field, in the parameters of its own type
abbrev pub type_of_field : List AsmRec → RowAt → Option (Known TypeExpr)
type_of_field recs at =
    option_and_then (λ (rec : AsmRec). option_map (λ (m : FieldRow). known_then (sig_expr (names_at recs at.asm rec)) m.signature) (slice_get rec.field at.row)) (slice_get recs at.asm)

-- ---- the first of a type's fields

module _ (recs : List AsmRec) (at : RowAt) (t : ℕ → AsmRec → FieldRow → Bool) (T : RowAt → Bool)
    (so : (rec : AsmRec) → slice_get recs at.asm ≡ Some rec → (n : ℕ) (m : FieldRow) → slice_get rec.field n ≡ Some m → T (at_row at.asm n) ≡ t at.asm rec m) where
  type_run : (rec : AsmRec) → slice_get recs at.asm ≡ Some rec → (o : Option TypeDefRow)
      → option_and_then (λ (row : TypeDefRow). option_map (at_row at.asm) (find_in_run (t at.asm rec) row.field_list_first row.field_list_end rec.field)) o
      ≡ first_at T (flat_map (λ (row : TypeDefRow). map (at_row at.asm) (run_places row.field_list_first row.field_list_end rec.field)) (listed o))
  type_run rec s None = refl
  type_run rec s (Some row) =
      first_in_run at.asm (t at.asm rec) T row.field_list_first row.field_list_end rec.field (λ n m e. so rec s n m e)
      ∙ ap (first_at T) (sym (append-nil (map (at_row at.asm) (run_places row.field_list_first row.field_list_end rec.field))))

  rec_run : (o : Option AsmRec) → slice_get recs at.asm ≡ o
      → option_and_then (λ (rec : AsmRec). option_and_then (λ (row : TypeDefRow). option_map (at_row at.asm) (find_in_run (t at.asm rec) row.field_list_first row.field_list_end rec.field)) (slice_get rec.type_def at.row)) o
      ≡ first_at T
      (flat_map (λ (rec : AsmRec). flat_map (λ (row : TypeDefRow). map (at_row at.asm) (run_places row.field_list_first row.field_list_end rec.field)) (listed (slice_get rec.type_def at.row))) (listed o))
  rec_run None s = refl
  rec_run (Some rec) s =
      type_run rec s (slice_get rec.type_def at.row)
      ∙ ap (first_at T) (sym (append-nil (flat_map (λ (row : TypeDefRow). map (at_row at.asm) (run_places row.field_list_first row.field_list_end rec.field)) (listed (slice_get rec.type_def at.row)))))

  run_is : option_and_then (λ (rec : AsmRec). option_and_then (λ (row : TypeDefRow). option_map (at_row at.asm) (find_in_run (t at.asm rec) row.field_list_first row.field_list_end rec.field)) (slice_get rec.type_def at.row)) (slice_get recs at.asm)
      ≡ first_at T (fields_of_type recs at)
  unfolding fields_of_type
  run_is = rec_run (slice_get recs at.asm) refl

-- ---- a test of rows

abbrev pub typed : List TypeExpr → TypeExpr → Option (Known TypeExpr) → Bool
typed targs wanted None = false
typed targs wanted (Some m) = is_field_type targs wanted m

abbrev pub row_fits : List ℕ → Bool → FieldRow → Bool
row_fits name t m = same_name m.name name && not (is_compiler_controlled m.flags) && t

abbrev pub fits : List AsmRec → List TypeExpr → List ℕ → TypeExpr → RowAt → Bool
fits recs targs name wanted x = list_any (row_fits name (typed targs wanted (type_of_field recs x))) (listed (field_row_at recs x))

or_none : (b : Bool) → (b || false) ≡ b
or_none true = refl
or_none false = refl

not_so : (b : Bool) → not b ≡ true → b ≡ false
not_so true h = sym h
not_so false h = refl

module _ (recs : List AsmRec) where
  -- ---- in a type's run

  fits_so : (targs : List TypeExpr) (name : List ℕ) (wanted : TypeExpr) (at : RowAt) (rec : AsmRec) → slice_get recs at.asm ≡ Some rec → (n : ℕ) (m : FieldRow) → slice_get rec.field n ≡ Some m
      → fits recs targs name wanted (at_row at.asm n) ≡ is_field recs at.asm rec targs name wanted m
  fits_so targs name wanted at rec s n m e =
      ap (λ (o : Option AsmRec). list_any (row_fits name (typed targs wanted (option_and_then (λ (r : AsmRec). option_map (λ (x : FieldRow). known_then (sig_expr (names_at recs at.asm r)) x.signature) (slice_get r.field n)) o)))
      (listed (option_and_then (λ (r : AsmRec). slice_get r.field n) o))) s
      ∙ ap (λ (o : Option FieldRow). list_any (row_fits name (typed targs wanted (option_map (λ (x : FieldRow). known_then (sig_expr (names_at recs at.asm rec)) x.signature) o))) (listed o)) e
      ∙ or_none (is_field recs at.asm rec targs name wanted m)

  found_by : (name : List ℕ) (wanted : TypeExpr) (e : TypeExpr) (o : Option RowAt)
      → option_and_then (λ (at : RowAt). option_and_then (λ (rec : AsmRec). option_and_then (field_in recs (args_of e) name wanted at rec) (slice_get rec.type_def at.row)) (slice_get recs at.asm)) o
      ≡ option_and_then (λ (at : RowAt). first_at (fits recs (args_of e) name wanted) (fields_of_type recs at)) o
  found_by name wanted e None = refl
  found_by name wanted e (Some at) =
      run_is recs at (λ a rec m. is_field recs a rec (args_of e) name wanted m) (fits recs (args_of e) name wanted) (λ rec s n m is. fits_so (args_of e) name wanted at rec s n m is)

  pub field_is : (name : List ℕ) (wanted : TypeExpr) (e : TypeExpr) → field_of_type recs name wanted e ≡ option_and_then (λ (at : RowAt). first_at (fits recs (args_of e) name wanted) (fields_of_type recs at)) (home_of recs e)
  unfolding field_of_type
  field_is name wanted e = found_by name wanted e (home_of recs e)

  -- ---- what passes

  pub record Fits (targs : List TypeExpr) (name : List ℕ) (wanted : TypeExpr) (x : RowAt) : Type 0 where
    pub row : FieldRow
    pub there : field_row_at recs x ≡ Some row
    pub named : row.name ≡ name
    pub seen : is_compiler_controlled row.flags ≡ false
    pub type : TypeExpr
    pub reads : type_of_field recs x ≡ Some (Good type)
    pub same : exprs.subst targs [] type ≡ wanted

  module _ (targs : List TypeExpr) (name : List ℕ) (wanted : TypeExpr) (x : RowAt) where
    by_type : (row : FieldRow) → field_row_at recs x ≡ Some row → row.name ≡ name → is_compiler_controlled row.flags ≡ false → (o : Option (Known TypeExpr)) → type_of_field recs x ≡ o → typed targs wanted o ≡ true → Fits targs name wanted x
    by_type row there named seen None f h = absurd (cc)
    by_type row there named seen (Some (Bad why)) f h = absurd (cc)
    by_type row there named seen (Some (Good t)) f h = record { row = row; there = there; named = named; seen = seen; type = t; reads = f; same = same_only (exprs.subst targs [] t) wanted h }

    by_row : (o : Option FieldRow) → field_row_at recs x ≡ o → list_any (row_fits name (typed targs wanted (type_of_field recs x))) (listed o) ≡ true → Fits targs name wanted x
    by_row None f h = absurd (cc)
    by_row (Some row) f h =
        let t : Bool = typed targs wanted (type_of_field recs x) in
        let p = and_parts (same_name row.name name && not (is_compiler_controlled row.flags)) t (sym (or_none (row_fits name t row)) ∙ h) in
        let q = and_parts (same_name row.name name) (not (is_compiler_controlled row.flags)) p.0 in
        by_type row f ((names_decide row.name name).0 q.0) (not_so (is_compiler_controlled row.flags) q.1) (type_of_field recs x) refl p.1

    pub fits_from : fits recs targs name wanted x ≡ true → Fits targs name wanted x
    fits_from h = by_row (field_row_at recs x) refl h

    pub to_fits : Fits targs name wanted x → fits recs targs name wanted x ≡ true
    to_fits f =
        let t : typed targs wanted (type_of_field recs x) ≡ true = ap (typed targs wanted) f.reads ∙ ap (λ (a : TypeExpr). same_expr a wanted) f.same ∙ same_self wanted in
        let n : same_name f.row.name name ≡ true = (names_decide f.row.name name).1 f.named in
        let all = and_from (same_name f.row.name name && not (is_compiler_controlled f.row.flags)) (typed targs wanted (type_of_field recs x)) (and_from (same_name f.row.name name) (not (is_compiler_controlled f.row.flags)) n (ap not f.seen)) t in
        ap (λ (o : Option FieldRow). list_any (row_fits name (typed targs wanted (type_of_field recs x))) (listed o)) f.there
        ∙ or_none (row_fits name (typed targs wanted (type_of_field recs x)) f.row) ∙ all

  -- the first of a name and of a signature with arguments put in is the first with its own signature
  pub first_own : (targs : List TypeExpr) (name : List ℕ) (wanted : TypeExpr) (xs : List RowAt) (y : RowAt) (f : Fits targs name wanted y) → first_at (fits recs targs name wanted) xs ≡ Some y
      → first_at (fits recs [] f.row.name f.type) xs ≡ Some y
  first_own targs name wanted xs y f h =
      first_sharper (fits recs targs name wanted) (fits recs [] f.row.name f.type) xs y h
      (to_fits [] f.row.name f.type y (record { row = f.row; there = f.there; named = refl; seen = f.seen; type = f.type; reads = f.reads; same = put_same [] none_stands f.type }))
      (λ x e. let g = fits_from [] f.row.name f.type x e in
      let one : g.type ≡ f.type = sym (put_same [] none_stands g.type) ∙ g.same in
      to_fits targs name wanted x (record { row = g.row; there = g.there; named = g.named ∙ f.named; seen = g.seen; type = g.type; reads = g.reads; same = ap (exprs.subst targs []) one ∙ f.same }))
